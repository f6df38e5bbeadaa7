use mathlib.Core.Path.{◌≡◌, refl, ap, ◌∙◌}
use Prim.Native.Nat.{ℕ, ◌+◌}
use native.Mathlib.Omega.{arith}
use mathlib.Core.List.{List}
use lib.ListN.{length, take, drop}
use lib.Seq.{length-sets, sets-eq, take_at}
use Rattle.listing.specs.Line.{header_of}
use Rattle.flow.specs.Flow.{room}
use Rattle.replay.proofs.begin.Goals as goal

header-length : length header_of ≡ 23
unfolding header_of
header-length = refl

pub send-requires : goal.send-requires
send-requires c =
    let t = c.put_header-put.ensures in
    omega (arith, t.past, header-length, c.put_header-put.auto.out)

pub returns : goal.returns
returns c =
    let t = c.put_header-put.ensures in
    let out : List ℕ = c.args.out.now in
    let size : length out ≡ room = omega arith in
    record {
      sent = c.send.result;
      header = ap (take (length header_of)) (t.stored ∙ sets-eq header_of out 0 (omega (arith, header-length, size)))
          ∙ take_at header_of (drop (0 + length header_of) out) (length header_of) refl;
      size = ap length t.stored ∙ length-sets out 0 header_of ∙ size;
      is = c.opened.ensures;
    }
