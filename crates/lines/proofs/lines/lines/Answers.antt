use mathlib.Core.Path.{◌≡◌, refl, sym, ap, ◌∙◌}
use Prim.Native.Nat.{ℕ, ◌/◌, min}
use native.Mathlib.Omega.{arith}
use lib.ListN.{length, take}
use lib.Dec.{eqb}
use Rattle.kit.specs.Limits.{most_windows}
use Rattle.memory.specs.Windows.{windows_of}
use Rattle.steps.specs.Step.{AfterAdvance, advance_of}
use Rattle.steps.proofs.Keeps.{advance-keeps}
use Rattle.runs.specs.Run.{refusal_of}
use Rattle.listing.proofs.Lines.{line-some, line-most}
use Rattle.session.specs.Stepping.{used_of}
use Rattle.lines.proofs.Telling.{accepts, telling-begin, telling-stop, telling-acceptable, telling-step, telling-same, telling-full}
use Rattle.lines.proofs.lines.lines.Goals as goal

pub loop-put-init : goal.loop-put-init
loop-put-init c =
    let a = c.args in
    let half : c.used-end.result / 2 ≡ min a.session.windows most_windows = omega (arith, c.used-end.ensures.0) in (
      telling-begin a.session a.at a.memory.now a.windows.now a.out.now a.put _ a.left a.taken c.requires.mode_value c.requires.put_in_bounds
          (c.is_ok-accepted.ensures.value ∙ accepts c.refusal.result ∙ ap (λ (n : ℕ). eqb n 0) (c.refusal.ensures ∙ ap (refusal_of a.session.engine (length a.memory.now)) half))
          (λ i. (c.type_inv.memory i).fits),
      refl,
      refl,
    )

pub returns-then-stops : goal.returns-then-stops
returns-then-stops c =
    let v = c.loop-put in
    telling-stop v.invariant.0 (sym c.stops.ensures ∙ c.if-stops.true) c.stop_line-line.ensures c.put_quick_line-put.ensures (omega (arith, c.loop-put-test.true, c.requires.put_in_bounds))
    (omega (arith, c.put_quick_line-put.ensures.past, line-most c.stop_line-line.result (omega (arith, c.stop_line-line.type_inv)) (omega (arith, c.stop_line-line.type_inv)) (omega (arith, c.stop_line-line.type_inv))))

pub advance-advanced-requires : goal.advance-advanced-requires
advance-advanced-requires c =
    let go = sym c.stops.ensures ∙ c.if-stops.false in
    let p = telling-acceptable c.loop-put.invariant.0 go in record { settings_value = p.legal; engine_value = p.well; memory_len_bound = p.small }

pub loop-put-smaller : goal.loop-put-smaller
loop-put-smaller c =
    omega (arith, c.put_line-put.ensures.past, line-some c.event_line-line.result, c.loop-put-test.true, c.requires.put_in_bounds)

pub loop-put-preserved : goal.loop-put-preserved
loop-put-preserved c =
    let a = c.args in
    let v = c.loop-put in
    let go = sym c.stops.ensures ∙ c.if-stops.false in
    let ens = c.advance-advanced.ensures ∙ ap (λ (n : ℕ). advance_of v.engine v.memory (windows_of (take n a.windows.now))) c.used-end.ensures.0 in
    let keeps = advance-keeps v.engine v.memory (windows_of (take (used_of a.session.windows) a.windows.now)) in (
      telling-same
          (telling-step v.invariant.0 go ens (λ i. (c.type_inv.memory i).fits) c.event_line-line.ensures c.put_line-put.ensures (omega (arith, c.loop-put-test.true, c.requires.put_in_bounds))
          (omega (arith, c.put_line-put.ensures.past, line-most c.event_line-line.result (omega (arith, c.event_line-line.type_inv)) (omega (arith, c.event_line-line.type_inv)) (omega (arith, c.event_line-line.type_inv)))))
          (ap (λ (x : AfterAdvance). x.engine.settings) ens ∙ keeps.engine.settings ∙ v.invariant.1) (ap (λ (x : AfterAdvance). x.engine.simple) ens ∙ keeps.engine.simple ∙ v.invariant.2),
      refl,
      refl,
    )

pub returns : goal.returns
returns c =
    telling-full c.loop-put.invariant.0 (omega (arith, c.loop-put-test.false, c.requires.put_in_bounds))
