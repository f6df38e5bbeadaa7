use mathlib.Core.Path.{◌≡◌, refl, sym, ap₂, ◌∙◌}
use Rattle.kit.specs.declared.settings.Settings.{Settings}
use Rattle.state.specs.declared.engine.Engine.{Engine}
use Rattle.state.specs.declared.engine.Simple.{Simple}
use Rattle.runs.proofs.Walks.{reaches_same, reaches-length, reaches-lasts, walking_on, walking-done, walking-idle}
use Rattle.runs.proofs.walk.walk.Goals as goal
use Rattle.runs.proofs.walk.walk.Goals.{else-loop-steps-test, then-loop-steps-test+then-not-busy}

-- an engine whose settings and SA, DA and BTT are taken from elsewhere
rebuilt : (e : Engine) {settings : Settings} {simple : Simple} → settings ≡ e.settings → simple ≡ e.simple
    → record { settings = settings; control = e.control; status = e.status; pointers = e.pointers; simple = simple; phase = e.phase } ≡ e
rebuilt e p q = ap₂ {C = Engine} (λ (x : Settings) (y : Simple). record { settings = x; control = e.control; status = e.status; pointers = e.pointers; simple = y; phase = e.phase }) p q

pub loop-steps-preserved : goal.loop-steps-preserved
loop-steps-preserved c =
    let v = c.loop-steps in
    let e = c.stride-walked.ensures in
    let busy = sym c.busy.ensures ∙ c.if-not-busy.false in
    let settings = sym ((reaches-lasts e.reaches).settings ∙ v.invariant.settings) in
    let simple = sym ((reaches-lasts e.reaches).simple ∙ v.invariant.simple) in
    record {
      size = reaches-length e.reaches ∙ v.invariant.size;
      walking = walking_on v.invariant.walking busy (reaches_same refl (rebuilt c.stride-walked.result.engine settings simple) e.reaches) e.steps_nonzero.0 e.steps_nonzero.1;
      settings = refl;
      simple = refl;
    }

pub returns : goal.returns
returns c =
    let v = c.loop-steps in
    elim c.loop-steps-test.branch [
      | else-loop-steps-test w ↦ walking-done v.invariant.walking w.loop-steps-test.false
      | then-loop-steps-test+then-not-busy w ↦ walking-idle v.invariant.walking (sym w.busy.ensures ∙ w.if-not-busy.true)
    ]
