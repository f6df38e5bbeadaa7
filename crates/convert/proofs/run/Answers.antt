use mathlib.Core.Path.{sym, ◌∙◌}
use mathlib.Core.List.{[], ◌++◌}
use native.Mathlib.Omega.{arith}
use Rattle.convert.specs.Turn.{read_in, sent_in}
use Rattle.convert.specs.Whole.{begun, turned}
use Rattle.convert.proofs.Whole.{stands, few-waiting, runs-reached}
use Rattle.convert.proofs.run.Goals as goal

pub loop-init : goal.loop-init
loop-init c = record { read = []; sent = []; turns = begun c.begin-state.ensures }

pub turn-state-requires : goal.turn-state-requires
turn-state-requires c = let h = stands c.loop.invariant.turns in (h.fits, omega (arith, few-waiting h))

pub loop-preserved : goal.loop-preserved
loop-preserved c =
    let h = c.loop.invariant in
    let t = c.turn-state.ensures in
    record {
      read = h.read ++ read_in t;
      sent = h.sent ++ sent_in t;
      turns = turned h.turns (sym c.is_over.ensures ∙ c.if-is_over.false) t;
    }

pub returns-after-loop : goal.returns-after-loop
returns-after-loop c = runs-reached c.loop.invariant

pub returns-then-is_over : goal.returns-then-is_over
returns-then-is_over c = runs-reached c.loop.invariant
