-- The engine that a record is for.
use mathlib.Core.Path.{◌≡◌, refl, sym, ap, ap₂, subst, ◌∙◌}
use mathlib.Core.Logic.{◌⊎◌, inl, inr}
use mathlib.Core.Bool.{Bool, true, false}
use mathlib.Core.List.{List, ◌++◌}
use Prim.Native.Nat.{ℕ, ◌+◌, ◌≤◌, ◌<◌}
use native.Mathlib.Omega.{arith}
use lib.Dec.{eqb, leb}
use lib.ListN.{length, get_or, drop, length-append, length-drop, get_or-append}
use lib.Seq.{get_or-drop}
use borrow.Author.Tests.{le-leb, eq-eqb, ne_eqb, eqb-true}
use Rattle.kit.specs.Choice.{when, both, either}
use Rattle.kit.specs.Word.{half_at}
use Rattle.kit.proofs.Choice.{yes, no, cases, both_left, both_right, never}
use Rattle.record.specs.declared.reading.Body.{Body}
use Rattle.record.specs.declared.reading.Body.TheVariants.{Astray}
use Rattle.record.specs.declared.reading.Record.{Record}
use Rattle.std.specs.Prelude.{Some}
use Rattle.record.specs.Mark.{Kind, CF, C2, MM, SW, WR, RD, ST, AR, WR2, RD2, ST2, unknown, kind_of, of_trace}
use Rattle.record.specs.Reading.{engine_there, for_engine, body_of, size_of, allowed, kind_at, reading_of}
use Rattle.record.specs.Names.{carries_engine, names_of, asks_engine, Names}
use Rattle.record.proofs.Local.{leb-same, kind-same}
use Rattle.record.proofs.Whole.{Whole, whole}

-- the same seven bytes at p in s and at q in t, in both or in neither
same_name : (s t : List ℕ) (p q n : ℕ) → ((i : ℕ) → i < 7 → get_or s (p + i) 0 ≡ get_or t (q + i) 0) → leb (p + 7) (length s) ≡ leb (q + 7) (length t)
    → names_of s p n ≡ names_of t q n
same_name s t p q n agree fits =
    ap₂ both fits
    (ap₂ both (ap (λ (b : ℕ). eqb b n) (agree 6 (omega arith))) (ap carries_engine (kind-same s t p q 7 agree true (omega arith))))

module _ (s : List ℕ) (at n : ℕ) where
  pub by_kind : at + 7 ≤ length s → get_or s (at + 6) 0 ≡ n → {r : Bool} → r ≡ carries_engine (kind_at s at true) → r ≡ names_of s at n
  by_kind h e k = yes _ (le-leb (at + 7) (length s) h) (yes _ (eq-eqb (get_or s (at + 6) 0) n e) k)

  module _ (named : names_of s at n ≡ true) where
    pub named-number : get_or s (at + 6) 0 ≡ n
    named-number = eqb-true (get_or s (at + 6) 0) n (both_left (eqb (get_or s (at + 6) 0) n) _ (both_right (leb (at + 7) (length s)) _ named))

-- a record of a kind without a number is for no engine
pub unnamed : (s : List ℕ) (at n : ℕ) → carries_engine (kind_at s at true) ≡ false → names_of s at n ≡ false
unnamed s at n e =
    cases (λ (b : Bool). b ≡ false) (leb (at + 7) (length s))
    (λ _. cases (λ (b : Bool). b ≡ false) (eqb (get_or s (at + 6) 0) n) (λ _. e) (λ _. refl)) (λ _. refl)

-- one that is for an engine is not for another
pub named-once : (s : List ℕ) (at n k : ℕ) → (n ≡ k → ⊥) → names_of s at n ≡ true → names_of s at k ≡ false
named-once s at n k d e =
    cases (λ (b : Bool). b ≡ false) (leb (at + 7) (length s))
    (λ _. sym (no _ (ne_eqb (get_or s (at + 6) 0) k (λ z. d (sym (named-number s at n e) ∙ z))) refl)) (λ _. refl)

-- a body that asks something of an engine is no body astray
asks-there : (n : ℕ) (b : Body) → asks_engine (for_engine n b) ≡ true → engine_there n ≡ true
asks-there n b = go (engine_there n)
  where
    go : (t : Bool) → asks_engine (when t b Astray) ≡ true → t ≡ true
    go true e = refl
    go false e = e

-- a record that asks something of an engine carries the number of one that is there
record Carries (s : List ℕ) (at : ℕ) (k : Kind) : Type 0 where
  kind : carries_engine k ≡ true
  there : engine_there (get_or s (at + 6) 0) ≡ true
  long : 7 ≤ size_of s at k

carries : (s : List ℕ) (at : ℕ) (first : Bool) (k : Kind) → allowed s at first (of_trace true k) ≡ true → asks_engine (body_of s at (of_trace true k)) ≡ true
    → Carries s at (of_trace true k)
carries s at first CF a e = absurd (never e)
carries s at first C2 a e = absurd (never e)
carries s at first MM a e = absurd (never e)
carries s at first SW a e = absurd (never e)
carries s at first WR a e = record { kind = refl; there = asks-there (get_or s (at + 6) 0) _ e; long = omega arith }
carries s at first RD a e = record { kind = refl; there = asks-there (get_or s (at + 6) 0) _ e; long = omega arith }
carries s at first ST a e = record { kind = refl; there = asks-there (get_or s (at + 6) 0) _ e; long = omega arith }
carries s at first AR a e = absurd (never e)
carries s at first WR2 a e = record { kind = refl; there = asks-there (get_or s (at + 6) 0) _ e; long = omega arith }
carries s at first RD2 a e = record { kind = refl; there = asks-there (get_or s (at + 6) 0) _ e; long = omega arith }
carries s at first ST2 a e = record { kind = refl; there = asks-there (get_or s (at + 6) 0) _ e; long = omega arith }
carries s at first unknown a e = absurd (never a)

-- engine 1 or engine 2
one-or-two : (n : ℕ) → engine_there n ≡ true → (n ≡ 1) ⊎ (n ≡ 2)
one-or-two n e = go (eqb n 1) refl e
  where
    go : (t : Bool) → eqb n 1 ≡ t → either t (eqb n 2) ≡ true → (n ≡ 1) ⊎ (n ≡ 2)
    go true p q = inl (eqb-true n 1 p)
    go false p q = inr (eqb-true n 2 q)

found-named : (s : List ℕ) (at : ℕ) (first : Bool) (r : Record) (next : ℕ) → reading_of s at first true ≡ Some (r, next) → asks_engine r.body ≡ true
    → (names_of s at 1 ≡ true) ⊎ (names_of s at 2 ≡ true)
found-named s at first r next e asks = go (one-or-two (get_or s (at + 6) 0) number.there)
  where
    w : Whole s at first true r next
    w = whole s at first true r next e

    number : Carries s at (kind_at s at true)
    number = carries s at first (kind_of (half_at s at)) w.allows (subst (λ (b : Body). asks_engine b ≡ true) w.body_is asks)

    fits : at + 7 ≤ length s
    fits = omega (arith, w.fits, number.long)

    go : (get_or s (at + 6) 0 ≡ 1) ⊎ (get_or s (at + 6) 0 ≡ 2) → (names_of s at 1 ≡ true) ⊎ (names_of s at 2 ≡ true)
    go (inl n) = inl (sym (by_kind s at 1 fits n (sym number.kind)))
    go (inr n) = inr (sym (by_kind s at 2 fits n (sym number.kind)))

pub names : Names
names = record {
  dropped = λ s at n room.
      same_name s (drop at s) at 0 n
      (λ i l. let e : i ≡ 0 + i = omega arith in sym (get_or-drop at s i 0) ∙ ap (λ (k : ℕ). get_or (drop at s) k 0) e)
      (leb-same (at + 7) (length s) (0 + 7) (length (drop at s)) (λ l. omega (arith, length-drop at s)) (λ l. omega (arith, length-drop at s)));
  settled = λ s more at n room.
      same_name (s ++ more) s at at n (λ i l. get_or-append s more 0 (at + i) (omega arith))
      (leb-same (at + 7) (length (s ++ more)) (at + 7) (length s) (λ l. room) (λ l. omega (arith, length-append s more)));
  one_only = λ s at e. named-once s at 1 2 (λ z. omega arith) e;
  there = found-named;
}
