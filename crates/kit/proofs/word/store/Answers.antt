use mathlib.Core.Path.{◌≡◌, ap, ◌∙◌}
use Prim.Native.Nat.{◌+◌, ◌-◌}
use borrow.Rule.Slice.PartMut.{put_mid}
use native.Mathlib.Omega.{arith}
use Rattle.kit.specs.Word.{bytes_of}
use Rattle.kit.proofs.Stores.{part-sets}
use Rattle.kit.proofs.word.store.Goals as goal

pub returns : goal.returns
returns c =
    let a = c.args in
    let e : c.copy_from_slice.new.self ≡ bytes_of a.word = c.copy_from_slice.ensures.after ∙ c.to_le_bytes.ensures in
    ap (put_mid a.at (a.at + 4 - a.at) a.bytes.now) e ∙ part-sets a.bytes.now (bytes_of a.word) a.at (a.at + 4 - a.at) (omega arith) (omega arith)
