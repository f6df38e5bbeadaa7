use Prim.Native.Nat.{◌/◌}
use mathlib.Core.Path.{sym, ap, ◌∙◌}
use lib.ListN.{length}
use Rattle.state.specs.declared.engine.Transfer.{Transfer}
use Rattle.state.specs.State.{transfer_fits}
use Rattle.steps.specs.Claims.{Bytes}
use Rattle.spelling.proofs.Midst.{midst}
use Rattle.interface.proofs.MovedWords.{Judged, judged, advanced, sum_fits, moved-left}
use Rattle.interface.proofs.moving.move_on_words.Goals as goal
use Rattle.interface.proofs.moving.move_on_words.Goals.{After-transfer}

-- where the step is not refused, in the midst of a transfer
found : (c : After-transfer) → let a = c.args in Judged a.words.now (length a.memory.now) (length a.windows.now / 2)
found c =
    let a = c.args in
    judged a.words.now (length a.memory.now) (length a.windows.now / 2) (sym c.goes_on.ensures ∙ c.if-not-goes_on.false)

held : (c : After-transfer) → Bytes c.args.memory.now
held c i = (c.type_inv.memory i).fits

pub invariant_of-moving-clause-fits : goal.invariant_of-moving-clause-fits
invariant_of-moving-clause-fits c =
    ap (λ (t : Transfer). transfer_fits t) c.transfer.ensures
    ∙ (midst c.args.words.now (found (goal.at.invariant_of-moving-clause-fits c).After-transfer).moves).fits

pub overflow_add-words : goal.overflow_add-words
overflow_add-words c =
    let a = c.args in
    let at = (goal.at.overflow_add-words c).After-transfer in
    let b = c.in_ok-burst.burst in
    record {
      fits = sum_fits a.words.now a.memory.now a.windows.now (held at) (found at) b
          (advanced a.words.now a.memory.now a.windows.now (held at) (found at) b c.settings.ensures c.transfer.ensures c.in_ok-burst.ensures);
    }

pub returns : goal.returns
returns c =
    let a = c.args in
    let at = (goal.at.returns c).After-transfer in
    let b = c.in_ok-burst.burst in
    moved-left a.words.now a.memory.now a.windows.now (held at) (found at) b
    (advanced a.words.now a.memory.now a.windows.now (held at) (found at) b c.settings.ensures c.transfer.ensures c.in_ok-burst.ensures)
