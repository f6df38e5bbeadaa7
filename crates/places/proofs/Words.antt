-- A side of a burst: one group if it increments; if it is fixed, the part of its word from the front on, and the part up to its end.
use mathlib.Core.Path.{◌≡◌, sym, ap, subst, ◌∙◌}
use mathlib.Core.Bool.{true, false}
use mathlib.Core.Logic.{◌⊎◌, inl, inr, ⊎_elim}
use mathlib.Core.List.{List}
use Prim.Native.Nat.{ℕ, ◌+◌, ◌-◌, ◌%◌, ◌≤◌, ◌<◌, min}
use native.Mathlib.Omega.{arith}
use native.Mathlib.Nat.{mod-lt, add_assoc}
use lib.Dec.{ltb}
use borrow.Author.Tests.{ltb-true, ltb-false}
use Rattle.kit.proofs.Choice.{decide}
use Rattle.memory.specs.declared.window.Window.{Window}
use Rattle.memory.specs.declared.verdict.Verdict.{Verdict}
use Rattle.memory.specs.declared.verdict.Verdict.TheVariants.{Okay, Slave, Decode}
use Rattle.memory.specs.Verdict.{byte_of}
use Rattle.sides.specs.Sides.{place_of}
use Rattle.sides.proofs.Places.{Run, plain-run}
use Rattle.sides.proofs.Words.{upper, lower}
use Rattle.std.proofs.Common.{Option}
use Rattle.places.specs.Places.{lowest_of, lowest_in, first_found}
use Rattle.places.specs.Claims.{Used}
use Rattle.places.proofs.Groups.{slave-bad, decode-bad}
use Rattle.places.proofs.Lows.{Finds, at, none, finds, lowest-at, lowest-along, okay-nothing}

pub plain-lowest : (size : ℕ) (ws : List Window) (v : Verdict) (w a k n : ℕ) → lowest_of size ws v (place_of false w a) k n ≡ lowest_in size ws v (a + k) n
plain-lowest size ws v w a k n = lowest-along size ws v (place_of false w a) k (λ x. x) (a + k) n (plain-run w a k n)

-- n bytes from byte k on of a side that is fixed at a: c of them are all its places, f of these up to the word's end
module _ (w a k n c f : ℕ) (some : 0 < w) (all : c ≡ min n w) (e : f ≡ min c (w - k % w)) where
  abbrev place : ℕ → ℕ
  place = place_of true w a

  high : Run place k (a + k % w) f
  high = upper w a k c f some (omega arith) e

  low : Run place (k + f) a (c - f)
  low = lower w a k c f some (omega arith) e

  -- a byte lies in one of the two parts
  member : (i : ℕ) → i < n → (place (k + i) < a + (c - f)) ⊎ ((a + k % w ≤ place (k + i)) × (place (k + i) < a + k % w + f))
  member i l =
      ⊎_elim
      (λ t. by_number (omega (arith, ltb-true n w t)))
      (λ t. by_place (ltb-false n w t))
      (decide (ltb n w))
    where
      -- no byte comes again
      by_number : i < c → (place (k + i) < a + (c - f)) ⊎ ((a + k % w ≤ place (k + i)) × (place (k + i) < a + k % w + f))
      by_number m = ⊎_elim
          (λ t. let h = high i (ltb-true i f t) in inr (omega (arith, h), omega (arith, h, ltb-true i f t)))
          (λ t. let g : f ≤ i = ltb-false i f t in let h = low (i - f) (omega arith) in let s : k + f + (i - f) ≡ k + i = omega arith in
          inl (omega (arith, h, ap place s)))
          (decide (ltb i f))

      -- every place of the word is used
      by_place : w ≤ n → (place (k + i) < a + (c - f)) ⊎ ((a + k % w ≤ place (k + i)) × (place (k + i) < a + k % w + f))
      by_place m =
          let few : k % w < w = mod-lt k some in
          let here : (k + i) % w < w = mod-lt (k + i) some in
          ⊎_elim
          (λ t. inl (omega (arith, ltb-true ((k + i) % w) (k % w) t)))
          (λ t. inr (omega (arith, ltb-false ((k + i) % w) (k % w) t), omega arith))
          (decide (ltb ((k + i) % w) (k % w)))

  low-used : {x : ℕ} → Used (λ x. x) a (c - f) x → Used place k n x
  low-used u = record {
    byte = f + u.byte;
    within = omega (arith, u.within);
    lies = ap place (sym (add_assoc k f u.byte)) ∙ low u.byte u.within ∙ u.lies;
  }

  high_used : {x : ℕ} → Used (λ x. x) (a + k % w) f x → Used place k n x
  high_used u = record { byte = u.byte; within = omega (arith, u.within); lies = high u.byte u.within ∙ u.lies }

  module _ (size : ℕ) (ws : List Window) (v : Verdict) where
    -- a byte by the part that it lies in
    by_part : (P : ℕ → Type 0) → ((j : ℕ) → j < c - f → P (a + j)) → ((j : ℕ) → j < f → P (a + k % w + j)) → (i : ℕ) → i < n → P (place (k + i))
    by_part P lows highs i l = ⊎_elim
        (λ m. let j : ℕ = place (k + i) - a in subst P (omega arith) (lows j (omega arith)))
        (λ m. let j : ℕ = place (k + i) - (a + k % w) in subst P (omega (arith, m.0)) (highs j (omega (arith, m.0, m.1))))
        (member i l)

    parts : {p q : Option ℕ} → Finds size ws v (λ x. x) a (c - f) p → Finds size ws v (λ x. x) (a + k % w) f q → Finds size ws v place k n (first_found p q)
    parts (at x g) h =
        at x (record {
          used = low-used g.used;
          gives = g.gives;
          least = by_part (λ (y : ℕ). byte_of size ws y ≡ v → x ≤ y) g.least
              (λ j l _. omega (arith, g.used.within, g.used.lies, mod-lt k some));
        })
    parts (none g) (at x h) =
        at x (record {
          used = high_used h.used;
          gives = h.gives;
          least = by_part (λ (y : ℕ). byte_of size ws y ≡ v → x ≤ y) (λ j l u. absurd (g j l u)) h.least;
        })
    parts (none g) (none h) = none (by_part (λ (y : ℕ). byte_of size ws y ≡ v → ⊥) g h)

    some-error : (v ≡ Okay → ⊥) → first_found (lowest_in size ws v a (c - f)) (lowest_in size ws v (a + k % w) f) ≡ lowest_of size ws v place k n
    some-error bad = lowest-at size ws v place k n bad (parts (finds size ws v (λ x. x) a (c - f) bad) (finds size ws v (λ x. x) (a + k % w) f bad))

  pub word-lowest : (size : ℕ) (ws : List Window) (v : Verdict)
      → first_found (lowest_in size ws v a (c - f)) (lowest_in size ws v (a + k % w) f) ≡ lowest_of size ws v place k n
  word-lowest size ws Okay =
      ap (λ (p : Option ℕ). first_found p (lowest_in size ws Okay (a + k % w) f)) (okay-nothing size ws (λ x. x) a (c - f))
      ∙ okay-nothing size ws (λ x. x) (a + k % w) f ∙ sym (okay-nothing size ws place k n)
  word-lowest size ws Slave = some-error size ws Slave slave-bad
  word-lowest size ws Decode = some-error size ws Decode decode-bad
