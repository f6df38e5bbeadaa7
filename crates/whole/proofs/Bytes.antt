-- The memory that a replay starts with holds bytes.
use Prim.Native.Nat.{ℕ, zero, suc}
use native.Mathlib.Omega.{arith}
use lib.ListN.{replicate}
use Rattle.record.specs.Claims.{Bytes}

pub zero-bytes : (n : ℕ) → Bytes (replicate n 0)
zero-bytes zero i = omega arith
zero-bytes (suc n) zero = omega arith
zero-bytes (suc n) (suc i) = zero-bytes n i
