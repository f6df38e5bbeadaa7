-- Laws of a put: two of the same bytes are one, and one after another is one of both, which covers what the first left.
use mathlib.Core.Path.{◌≡◌, sym, ap, ap₂, ◌∙◌}
use mathlib.Core.List.{List, [], ◌∷◌, ◌++◌}
use Prim.Native.Nat.{ℕ, ◌+◌, ◌≤◌}
use native.Mathlib.Omega.{arith}
use lib.ListN.{length, length-append}
use lib.Seq.{sets, length-sets}
use Rattle.kit.proofs.Stores.{sets-append}
use Rattle.digits.specs.Puts.{Puts, Starts}
use Rattle.digits.proofs.Sets.{sets-cover}

-- what is allowed after a put is one place and one list
pub puts-same : {m m₁ m₂ : List ℕ} {at r₁ r₂ : ℕ} {bytes : List ℕ} → Puts m m₁ at r₁ bytes → Puts m m₂ at r₂ bytes
    → (r₁ ≡ r₂) × (m₁ ≡ m₂)
puts-same p q = (p.past ∙ sym q.past, p.stored ∙ sym q.stored)

pub puts-length : {m m₁ : List ℕ} {at r : ℕ} {bytes : List ℕ} → Puts m m₁ at r bytes → length m₁ ≡ length m
puts-length {m} {m₁} {at} {r} {bytes} p = ap length p.stored ∙ length-sets m at bytes

pub puts_then : {m m₁ m₂ : List ℕ} {at n r : ℕ} {us : List ℕ} (vs : List ℕ) → r ≡ n + length vs → Puts m m₁ at n us
    → m₂ ≡ sets m₁ n vs → Puts m m₂ at r (us ++ vs)
puts_then {m} {m₁} {m₂} {at} {n} {r} {us} vs e p s = record {
  past = omega (arith, p.past, length-append us vs);
  stored = s ∙ ap₂ (λ (l : List ℕ) (i : ℕ). sets l i vs) p.stored p.past ∙ sym (sets-append m at us vs);
}

pub starts-then : {m m₁ m₂ : List ℕ} {at n r : ℕ} {us : List ℕ} (vs : List ℕ) → 3 ≤ length vs → r ≡ n + length vs → Starts m m₁ at n us
    → m₂ ≡ sets m₁ n vs → Puts m m₂ at r (us ++ vs)
starts-then {m} {m₁} {m₂} {at} {n} {r} {us} vs enough e p s = record {
  past = omega (arith, p.past, length-append us vs);
  stored = s
      ∙ ap₂ (λ (l : List ℕ) (i : ℕ). sets l i vs) p.stored p.past
      ∙ sets-cover m at us p.surplus vs (omega (arith, p.few));
}

-- a put but for its last byte
pub puts-start : {m m₁ : List ℕ} {at n r : ℕ} (us : List ℕ) (e : ℕ) → r ≡ n + 1 → Puts m m₁ at r (us ++ (e ∷ [])) → Starts m m₁ at n us
puts-start us e q p = record {
  past = omega (arith, p.past, length-append us (e ∷ []));
  surplus = e ∷ [];
  few = omega arith;
  stored = p.stored;
}
