use native.Mathlib.Nat.{mod-lt}
use native.Mathlib.Omega.{arith}
use mathlib.Core.Path.{refl}
use Rattle.kit.proofs.Legal.{legal}
use Rattle.plan.proofs.Lying.{lies}
use Rattle.plan.proofs.layout.count_bursts.Goals as goal

pub word_offset-requires : goal.word_offset-requires
word_offset-requires c = (legal c.args.width c.args.beats c.requires.beats_value).width_positive

pub overflow_add-from_word : goal.overflow_add-from_word
overflow_add-from_word c =
    let g = legal c.args.width c.args.beats c.requires.beats_value in
    omega (arith, mod-lt c.args.start g.width_positive, g.width_small)

pub pieces-requires : goal.pieces-requires
pieces-requires c =
    let g = legal c.args.width c.args.beats c.requires.beats_value in
    let p = lies _ _ c.requires.beats_value c.requires.count_nonzero refl c.in_page-here.ensures c.stride-stride.ensures in
    record { stride_nonzero = p.by.some; stride_value = p.by.power; bytes_le_most_bytes = omega (arith, mod-lt c.args.start g.width_positive, g.width_small); stride_le_page = p.by.most }

pub pieces-requires-2 : goal.pieces-requires-2
pieces-requires-2 c =
    let p = lies _ _ c.requires.beats_value c.requires.count_nonzero refl c.in_page-here.ensures c.stride-stride.ensures in
    record { stride_nonzero = p.by.some; stride_value = p.by.power; bytes_le_most_bytes = omega arith; stride_le_page = p.by.most }

pub returns : goal.returns
returns c =
    let p = lies _ _ c.requires.beats_value c.requires.count_nonzero refl c.in_page-here.ensures c.stride-stride.ensures in
    omega (arith, p.number c.word_offset.ensures)
