use mathlib.Core.Path.{sym, ap, ◌∙◌}
use native.Mathlib.Omega.{arith}
use Prim.Native.Nat.{ℕ, ◌-◌}
use Rattle.memory.specs.declared.window.Window.{Window}
use Rattle.memory.specs.Windows.{windows_of}
use Rattle.memory.specs.Good.{nearer_end, good_end}
use Rattle.memory.proofs.GoodBytes.{good-end, good-on}
use Rattle.memory.proofs.good.good_bytes.Goals as goal

pub loop-pair-preserved : goal.loop-pair-preserved
loop-pair-preserved c =
    let v = c.loop-pair in
    let s = c.in-Some.ensures.steps in
    let near = c.nearer_end-end.ensures ∙ ap (λ (w : Window). nearer_end w c.args.start v.end) c.window_in-window.ensures in (
      s.0 ∙ v.invariant.0,
      ap (good_end (windows_of c.next.new.self.rest.now) c.args.start) near
          ∙ good-on _ _ _ s.1.0 (s.1.1 ∙ v.invariant.0) _ v.end ∙ v.invariant.1,
    )

pub returns : goal.returns
returns c =
    let v = c.loop-pair in
    c.saturating_sub.ensures
    ∙ ap (λ (e : ℕ). e - c.args.start) (sym (good-end _ _ v.end (omega (arith, c.in-None.ensures.steps, v.invariant.0))) ∙ v.invariant.1)
