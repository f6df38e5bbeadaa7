-- include/belikumba.h: each contract allows one result. Proved in proofs/Claims.antt.
use Rattle.std.specs.Prelude.{ℕ, ◌≡◌, List}
use Rattle.plan.specs.Plan.{Measured, Plan}
use Rattle.reads.specs.Read.{Value}
use Rattle.interface.specs.declared.planning.PlannedForC.{PlannedForC}
use Rattle.interface.specs.declared.accesses.ValueForC.{ValueForC}
use Rattle.interface.specs.declared.stepping.SteppedForC.{SteppedForC}
use Rattle.interface.specs.declared.stepping.RanForC.{RanForC}
use Rattle.interface.specs.declared.bus.ClockedForC.{ClockedForC}
use Rattle.interface.specs.Planning.{planned_seen, counted_seen}
use Rattle.interface.specs.Calls.{value_seen, WordsAfterWrite, words_seen, WordsAfterStep, step_words_seen, WordsAfterRun, run_words_seen}
use Rattle.interface.specs.Clocks.{ClockedWords, clocked_seen}

-- two results that one contract allows are equal, and so is all that was lent
pub record Unique : Type 0 where
  pub plan : (x : Plan) (r q : PlannedForC) (a b : List ℕ) → planned_seen r a ≡ x → planned_seen q b ≡ x → (r ≡ q) × (a ≡ b)
  pub count : (x : Measured) (r q : PlannedForC) → counted_seen r ≡ x → counted_seen q ≡ x → r ≡ q
  -- belikumba_read, belikumba_interrupt_line
  pub value : (x : Value) (r q : ValueForC) → value_seen r ≡ x → value_seen q ≡ x → r ≡ q
  pub write : (x : WordsAfterWrite) (n k : ℕ) (v w : List ℕ) → words_seen n v ≡ x → words_seen k w ≡ x → (n ≡ k) × (v ≡ w)
  pub step : (x : WordsAfterStep) (r q : SteppedForC) (v w a b : List ℕ) → step_words_seen r v a ≡ x → step_words_seen q w b ≡ x
      → (r ≡ q) × (v ≡ w) × (a ≡ b)
  pub run : (x : WordsAfterRun) (r q : RanForC) (v w a b : List ℕ) → run_words_seen r v a ≡ x → run_words_seen q w b ≡ x
      → (r ≡ q) × (v ≡ w) × (a ≡ b)
  pub bus-clock : (x : ClockedWords) (r q : ClockedForC) (v w : List ℕ) → clocked_seen r v ≡ x → clocked_seen q w ≡ x → (r ≡ q) × (v ≡ w)
