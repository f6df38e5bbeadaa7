use mathlib.Core.Path.{ap, subst, ◌∙◌}
use Prim.Native.Nat.{ℕ, ◌+◌, ◌-◌}
use mathlib.Core.List.{List}
use lib.ListN.{take, drop}
use Rattle.convert.specs.Copying.{front}
use Rattle.convert.specs.Turn.{Handed}
use Rattle.convert.proofs.Buffer.{going-part}
use Rattle.convert.proofs.output.forward.Goals as goal

pub returns : goal.returns
returns c =
    let a = c.args in
    let b : List ℕ = a.buffer.now in
    let from : ℕ → List ℕ = λ n. take (front + a.state.waiting - n) (drop n b) in
    let part = ap from c.first-from.ensures ∙ going-part c.requires in
    record {
      taken = c.hand_over-taken.result;
      hands = subst (λ (l : List ℕ). Handed l c.hand_over-taken.result) part c.hand_over-taken.ensures;
      is = c.after_write.ensures;
    }
