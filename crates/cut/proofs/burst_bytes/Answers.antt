use mathlib.Core.Path.{ap, ◌∙◌}
use Prim.Native.Nat.{ℕ}
use Rattle.cut.specs.Cut.{bytes_within}
use Rattle.cut.proofs.Reach.{burst-bytes}
use Rattle.cut.proofs.burst_bytes.Goals as goal

pub returns : goal.returns
returns c =
    let a = c.args in
    c.bytes_within.ensures ∙ ap (λ (words : ℕ). bytes_within words a.at a.left) c.words_left.ensures
    ∙ burst-bytes a.width a.beats a.at a.left
