use mathlib.Core.Path.{◌≡◌, refl, sym}
use Prim.Native.Nat.{ℕ}
use mathlib.Core.Bool.{Bool, true, false}
use native.Mathlib.Omega.{arith}
use Rattle.kit.specs.Choice.{when}
use Rattle.kit.proofs.Legal.{legal}
use Rattle.registers.proofs.write.write_to.Goals as goal

-- a choice that is not refused with 1 took its test
first-holds : (t : Bool) (rest : ℕ) → when t rest 1 ≡ 0 → t ≡ true
first-holds true rest e = refl
first-holds false rest e = absurd (omega arith)

pub write_register-requires : goal.write_register-requires
write_register-requires c = (legal _ _ (first-holds _ _ (sym c.in_ok-acceptable.ensures))).width_positive
