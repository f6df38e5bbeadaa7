use Prim.Native.Nat.{ℕ, ◌+◌}
use mathlib.Core.Path.{ap}
use Rattle.listing.proofs.Words.{word-put}
use Rattle.listing.proofs.word.put_word.Goals as goal

pub returns : goal.returns
returns c =
    let k = c.packed-bytes.ensures in let a = c.args in (ap (λ (n : ℕ). a.at + n) k.2, word-put a.word a.out.now a.at k.0 k.1 c.store.ensures c.store-2.ensures)
