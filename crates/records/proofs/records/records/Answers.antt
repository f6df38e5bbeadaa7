use mathlib.Core.Path.{◌≡◌, refl, sym, ap, ap₂, subst, ◌∙◌}
use mathlib.Core.List.{List}
use Prim.Native.Nat.{ℕ, ◌+◌}
use lib.Dec.{eqb}
use Rattle.kit.proofs.Choice.{yes, no}
use Rattle.record.specs.declared.reading.Body.{Body}
use Rattle.record.specs.Reading.{Reading, reading_of}
use Rattle.state.specs.declared.engine.Engine.{Engine}
use Rattle.session.specs.declared.Effect.{Effect}
use Rattle.session.specs.Chosen.{two_of}
use Rattle.session.specs.Effect.{lend, After, after}
use Rattle.session.specs.Turn.{DataFits, turn_as, apply_of}
use Rattle.session.proofs.Records.{data-fits}
use Rattle.records.proofs.Singles.{takes-single}
use Rattle.records.proofs.records.records.Goals as goal
use Rattle.records.proofs.records.records.Goals.{After-read, Joined-body, in-Settings, in-Memory, in-Window, in-Read, in-Steps}

-- what the reading gave
reads : (c : After-read) {v : Reading} → let a = c.args in
    c.read.result ≡ v → reading_of a.part.input.now a.at (eqb (a.part.base + a.at) 0) (two_of a.session.chosen) ≡ v
reads c is = ap (reading_of c.args.part.input.now c.args.at _) (sym c.is_two-two.ensures) ∙ sym c.read.ensures ∙ is

joined : {e e' : Effect} {m m' w w' : List ℕ} {o : Engine} → e ≡ e' → m ≡ m' → w ≡ w' → after e (lend m w o) ≡ after e' (lend m' w' o)
joined {e} {e'} {m} {m'} {w} {w'} {o} p q r = ap (λ (x : Effect). after x (lend m w o)) p ∙ ap₂ (λ (x y : List ℕ). after e' (lend x y o)) q r

-- what each of the arms that meet did
applied : (c : Joined-body) (o : Engine)
    → let a = c.args in
    after c.match-body.effect (lend c.match-body.memory c.match-body.windows o)
    ≡ apply_of a.session c.in-Some.record.sequence (a.part.base + a.at) a.part.input.now a.at (lend a.memory.now a.windows.now o) c.in-Some.record.body
unfolding apply_of
applied c o =
    let a = c.args in
    let does : Body → After = apply_of a.session c.in-Some.record.sequence (a.part.base + a.at) a.part.input.now a.at (lend a.memory.now a.windows.now o) in
    elim c.match-body.branch [
      | in-Settings w ↦ joined (w.effect-is ∙ w.settings-effect.ensures) w.memory-is w.windows-is ∙ sym (ap does w.in-Settings.is)
      | in-Memory w ↦ joined w.effect-is w.memory-is w.windows-is ∙ w.memory-effect.ensures a.windows.now o ∙ sym (ap does w.in-Memory.is)
      | in-Window w ↦ joined w.effect-is w.memory-is w.windows-is ∙ w.window-effect.ensures a.memory.now o ∙ sym (ap does w.in-Window.is)
      | in-Read w ↦ joined (w.effect-is ∙ w.register_read-effect.ensures) w.memory-is w.windows-is ∙ sym (ap does w.in-Read.is)
      | in-Steps w ↦ joined (w.effect-is ∙ w.steps-effect.ensures) w.memory-is w.windows-is ∙ sym (ap does w.in-Steps.is)
    ]

pub returns-in_default : goal.returns-in_default
returns-in_default c = λ o. takes-single c.requires.mode_value c.requires.put_in_bounds c.refuse.ensures (reads (goal.at.returns-in_default c).After-read c.in_default.is) refl

pub returns-then-stale : goal.returns-then-stale
returns-then-stale c =
    λ o. takes-single c.requires.mode_value c.requires.put_in_bounds c.refuse-then-stale.ensures (reads (goal.at.returns-then-stale c).After-read c.in-Some.is)
    (yes _ (sym c.stale.ensures ∙ c.if-stale.true) refl)

pub memory-effect-requires : goal.memory-effect-requires
memory-effect-requires c =
    let a = c.args in
    subst (DataFits a.part.input.now a.at) c.in-Memory.is (data-fits _ _ _ _ _ _ (reads (goal.at.memory-effect-requires c).After-read c.in-Some.is))

-- there is no such engine
pub returns-in-Astray : goal.returns-in-Astray
unfolding apply_of
returns-in-Astray c =
    let a = c.args in
    λ o. takes-single c.requires.mode_value c.requires.put_in_bounds c.refuse-in-Astray.ensures (reads (goal.at.returns-in-Astray c).After-read c.in-Some.is)
    (no _ (sym c.stale.ensures ∙ c.if-stale.false)
    (sym (ap (λ (b : Body). turn_as (apply_of a.session c.in-Some.record.sequence (a.part.base + a.at) a.part.input.now a.at (lend a.memory.now a.windows.now o) b) c.in-Some.next) c.in-Astray.is)))

pub returns : goal.returns
returns c =
    λ o. takes-single c.requires.mode_value c.requires.put_in_bounds c.tell.ensures (reads (goal.at.returns c).After-read c.in-Some.is)
    (no _ (sym c.stale.ensures ∙ c.if-stale.false) (ap (λ (a : After). turn_as a c.in-Some.next) (applied (goal.at.returns c).Joined-body o)))
