-- The range of bytes that a side uses, and ranges that do not overlap.
use mathlib.Core.Path.{◌≡◌}
use mathlib.Core.Logic.{inl, inr}
use mathlib.Core.Bool.{Bool, true, false}
use Prim.Native.Nat.{ℕ, ◌+◌, ◌≤◌, ◌<◌}
use native.Mathlib.Nat.{mod-lt}
use native.Mathlib.Omega.{arith}
use Rattle.sides.specs.Sides.{place_of, side_bytes, Apart}

-- each byte of a side lies in it
pub within : (w : ℕ) → 0 < w → (fixed : Bool) (a n i : ℕ) → i < n → (a ≤ place_of fixed w a i) × (place_of fixed w a i < a + side_bytes fixed w n)
within w some true a n i h = let less = mod-lt i some in (omega arith, omega (arith, less))
within w some false a n i h = (omega arith, omega (arith, h))

-- two that are apart have no byte in common
pub disjoint : (a n b k x y : ℕ) → Apart a n b k → (a ≤ x) × (x < a + n) → (b ≤ y) × (y < b + k) → x ≡ y → ⊥
disjoint a n b k x y (inl h) p q e = omega (arith, h, p.1, q.0, e)
disjoint a n b k x y (inr h) p q e = omega (arith, h, p.0, q.1, e)
