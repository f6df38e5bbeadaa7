-- Turns of one engine in their midst: no record has called for the other one yet.
use mathlib.Core.Path.{◌≡◌}
use mathlib.Core.Bool.{Bool, true, false}
use mathlib.Core.List.{List}
use Prim.Native.Nat.{ℕ, ◌+◌, ◌-◌, ◌≤◌}
use lib.ListN.{length}
use Rattle.state.specs.declared.engine.Engine.{Engine}
use Rattle.session.specs.declared.Session.{Session}
use Rattle.session.specs.Effect.{lend}
use Rattle.session.specs.declared.Passed.{Passed}
use Rattle.session.specs.Pass.{ready_of, calls_other, line_room, TakesBeside}
use Rattle.session.proofs.Passing.{Passing, takes-more}

-- a turn can be taken, there is room for its line, and the turns before it were taken, whatever the other engine is
pub record Stretching (base : ℕ) (input : List ℕ) (ended : Bool) (s₀ : Session) (at₀ : ℕ) (m₀ w₀ out₀ : List ℕ) (put₀ : ℕ) (s : Session) (at : ℕ) (m w out : List ℕ) (put : ℕ) : Type 0 where
  pub passing : (o : Engine) → Passing (length out₀ - put₀) base input ended s₀ at₀ (lend m₀ w₀ o) out₀ put₀ s at (lend m w o) out put
  pub ready : ready_of s.mode (length input - at) ended ≡ true
  pub own : calls_other s.mode s.chosen input at ≡ false
  pub free : put + line_room ≤ length out₀

-- with the turns just taken, all so far
pub stretched : {base : ℕ} {input : List ℕ} {ended : Bool} {s₀ : Session} {at₀ : ℕ} {m₀ w₀ out₀ : List ℕ} {put₀ : ℕ} {s : Session} {at : ℕ} {m w out : List ℕ} {put : ℕ} {r : Passed} {m' w' out' : List ℕ}
    → Stretching base input ended s₀ at₀ m₀ w₀ out₀ put₀ s at m w out put → TakesBeside base input ended s at m w out put r m' w' out'
    → TakesBeside base input ended s₀ at₀ m₀ w₀ out₀ put₀ r m' w' out'
stretched i more = λ o. takes-more (i.passing o) (more o)
