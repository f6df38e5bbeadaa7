use native.Mathlib.Omega.{arith}
use lib.ListN.{length}
use Rattle.kit.proofs.Legal.{legal}
use Rattle.memory.specs.Windows.{windows_of}
use Rattle.memory.proofs.GoodBytes.{good-less}
use Rattle.state.proofs.WellFormed.{transfer-fits}
use Rattle.steps.specs.Step.{reads_at}
use Rattle.moves.proofs.Incrementing.{plain-begin, PlainTurn, plain_turn, plain_step}
use Rattle.moves.proofs.glide.glide.Goals as goal
use Rattle.moves.proofs.glide.glide.Goals.{Else-limit-moved}

pub overflow_add-limit : goal.overflow_add-limit
overflow_add-limit c =
    let a = c.args in
    let f = transfer-fits a.moving.transfer a.moving.fits in
    omega (arith, good-less (length a.memory.now) (windows_of a.windows.now) (reads_at a.moving.transfer), f.total-small, f.moved-less)

pub words_left-words-requires : goal.words_left-words-requires
words_left-words-requires c =
    let v = c.args.moving in
    let g = legal v.settings.width v.settings.beats v.legal in record { width_nonzero = g.width_positive; beats_nonzero = g.beats-positive }

pub loop-steps-init : goal.loop-steps-init
loop-steps-init c = record {
  few = omega arith;
  sofar = plain-begin c.args.moving.settings c.args.moving.transfer _ _ c.args.moving.fits _ c.words_left-words.ensures;
}

-- the burst that a turn moves
turn_at : (c : Else-limit-moved) →
    let a = c.args in
    PlainTurn a.moving.settings a.moving.transfer (windows_of a.windows.now) a.memory.now a.moving.legal c.requires c.loop-steps.memory c.loop-steps.moved c.bytes_within-bytes.result
turn_at c =
    let a = c.args in
    plain_turn a.moving.settings a.moving.transfer (windows_of a.windows.now) a.memory.now a.moving.legal c.requires c.loop-steps.invariant.sofar
    (omega arith) c.bytes_within-bytes.ensures (omega arith)

pub copy-requires : goal.copy-requires
copy-requires c = let u = turn_at (goal.at.copy-requires c).Else-limit-moved in (u.source, u.destination, u.page)

pub loop-steps-preserved : goal.loop-steps-preserved
loop-steps-preserved c =
    let a = c.args in
    record {
      few = omega arith;
      sofar = plain_step a.moving.settings a.moving.transfer (windows_of a.windows.now) a.memory.now a.moving.legal c.requires c.loop-steps.invariant.sofar
          (omega arith) (turn_at (goal.at.loop-steps-preserved c).Else-limit-moved) c.span-words.ensures c.copy.ensures;
    }
