use Prim.Native.Nat.{ℕ, ◌-◌}
use lib.ListN.{length}
use Rattle.record.specs.declared.reading.Body.TheVariants.{Write}
use Rattle.session.specs.Effect.{with_engine}
use Rattle.session.proofs.Midst.{Midst}
use Rattle.writes.proofs.writes.Given as goal

-- the last good sequence number and the record's place are no variables of the loop, since each turn sets them anew
abbrev pub invariant-loop-chosen : goal.invariant-loop-chosen
invariant-loop-chosen l =
    (before : ℕ) × (at : ℕ) × Midst l.part.base l.part.input.now l.part.ended l.session l.at l.initial.out l.put-2 (with_engine l.session before l.engine) l.sequence (Write l.offset l.value) at l.next l.out l.put

abbrev pub decreases-loop-chosen : goal.decreases-loop-chosen
decreases-loop-chosen l = length l.part.input.now - l.next
