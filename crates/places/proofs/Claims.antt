-- The claims of specs/Claims.antt hold.
use mathlib.Core.Path.{◌≡◌, refl, sym, ap, subst, ◌∙◌}
use mathlib.Core.Logic.{◌⊎◌, inl, inr, ⊎_elim}
use mathlib.Core.List.{List}
use Prim.Native.Nat.{ℕ, zero, suc}
use native.Mathlib.Omega.{arith}
use native.Mathlib.Nat.{add-zero}
use Rattle.kit.specs.declared.answer.Refusal.{Refusal}
use Rattle.kit.proofs.Numbers.{number-tells, refusal-tells}
use Rattle.memory.specs.declared.window.Window.{Window}
use Rattle.memory.specs.declared.verdict.Verdict.{Verdict}
use Rattle.memory.specs.declared.verdict.Verdict.TheVariants.{Okay, Slave, Decode}
use Rattle.memory.specs.Verdict.{worse, byte_of, group_of}
use Rattle.sides.specs.Sides.{side_answer, sides_answer}
use Rattle.sides.proofs.Places.{over}
use Rattle.sides.proofs.Answers.{answer-run}
use Rattle.std.proofs.Common.{Option, Some, None, Result, Ok, Err}
use Rattle.std.specs.Bool.{⊤}
use Rattle.places.specs.declared.locate.Located.{Located}
use Rattle.places.specs.Places.{lowest_of, lowest_in, first_found, address_of}
use Rattle.places.specs.Locate.{Location, located_seen, location_by, location_of}
use Rattle.places.specs.Claims.{Without, Lowest, Fails, Holder, Claims}
use Rattle.places.proofs.Lows.{Finds, at, none, finds, only-lowest, okay-nothing}
use Rattle.places.proofs.Groups.{slave-bad, decode-bad, slave-sick}
use Rattle.places.proofs.Holders.{holder}

worse-either : (u z v : Verdict) → worse u z ≡ v → (u ≡ v) ⊎ (z ≡ v)
worse-either Okay z v e = inr e
worse-either Slave Okay v e = inl e
worse-either Slave Slave v e = inl e
worse-either Slave Decode v e = inr e
worse-either Decode z v e = inl e

module _ (size : ℕ) (ws : List Window) (v : Verdict) (bad : v ≡ Okay → ⊥) where
  -- bytes of which none gives v do not answer v
  answer-without : (place : ℕ → ℕ) (k n : ℕ) → side_answer size ws place k n ≡ v → Without size ws v place k n → ⊥
  unfolding side_answer
  answer-without place k zero e h = bad (sym e)
  answer-without place k (suc n) e h =
      ⊎_elim
      (λ f. h 0 (omega arith) (ap (λ (x : ℕ). byte_of size ws (place x)) (add-zero k) ∙ f))
      (λ f. answer-without place (suc k) n f (λ i l g. h (suc i) (omega arith) (ap (λ (x : ℕ). byte_of size ws (place x)) (sym (over k i)) ∙ g)))
      (worse-either (byte_of size ws (place k)) (side_answer size ws place (suc k) n) v e)

  side : (place : ℕ → ℕ) (k n : ℕ) → side_answer size ws place k n ≡ v → {p : Option ℕ} → Finds size ws v place k n p → Lowest size ws v place k n (address_of p)
  side place k n e (at a h) = h
  side place k n e (none h) = absurd (answer-without place k n e h)

  both-sides : (reads writes : ℕ → ℕ) (k n : ℕ) → sides_answer size ws reads writes k n ≡ v → {p q : Option ℕ}
      → Finds size ws v reads k n p → Finds size ws v writes k n q → Fails size ws v reads writes k n (address_of (first_found p q))
  both-sides reads writes k n e (at a h) g = inl h
  both-sides reads writes k n e (none h) g =
      ⊎_elim (λ f. absurd (answer-without reads k n f h)) (λ f. inr (h, side writes k n f g))
      (worse-either (side_answer size ws reads k n) (side_answer size ws writes k n) v e)

  found-absent : (place : ℕ → ℕ) (k n : ℕ) {p : Option ℕ} → Finds size ws v place k n p → p ≡ None → Without size ws v place k n
  found-absent place k n (at a h) e = absurd (cc)
  found-absent place k n (none h) e = h

  found-lowest : (place : ℕ → ℕ) (k n a : ℕ) {p : Option ℕ} → Finds size ws v place k n p → p ≡ Some a → Lowest size ws v place k n a
  found-lowest place k n a (at b h) e = let same : b ≡ a = cc in subst (Lowest size ws v place k n) same h
  found-lowest place k n a (none h) e = absurd (cc)

  group : (a n : ℕ) → group_of size ws a n ≡ v → Lowest size ws v (λ x. x) a n (address_of (lowest_in size ws v a n))
  group a n e = side (λ x. x) a n (answer-run size ws (λ x. x) a a n (λ i l. refl) ∙ e) (finds size ws v (λ x. x) a n bad)

module _ (size : ℕ) (ws : List Window) where
  found : (v : Verdict) (place : ℕ → ℕ) (k n a : ℕ) → lowest_of size ws v place k n ≡ Some a → Lowest size ws v place k n a
  found Okay place k n a e = let f = okay-nothing size ws place k n in absurd (cc)
  found Slave place k n a e = found-lowest size ws Slave slave-bad place k n a (finds size ws Slave place k n slave-bad) e
  found Decode place k n a e = found-lowest size ws Decode decode-bad place k n a (finds size ws Decode place k n decode-bad) e

  -- what is told of a group, once its answer is known
  told : (a n : ℕ) {v : Verdict} → group_of size ws a n ≡ v → location_of size ws a n ≡ location_by ws v (address_of (lowest_in size ws v a n))
  told a n e = ap (λ (v : Verdict). location_by ws v (address_of (lowest_in size ws v a n))) e

  Slaves : ℕ → ℕ → Location → Type 0
  Slaves a n r = (r.verdict ≡ Slave) × Lowest size ws Slave (λ x. x) a n r.place × Holder ws r.place r.window

  Decodes : ℕ → ℕ → Location → Type 0
  Decodes a n r = (r.verdict ≡ Decode) × Lowest size ws Decode (λ x. x) a n r.place × (r.window ≡ 0)

  slaves : (a n : ℕ) → group_of size ws a n ≡ Slave → Slaves a n (location_of size ws a n)
  unfolding Slaves
  slaves a n e =
      let low = group size ws Slave slave-bad a n e in
      subst (Slaves a n) (sym (told a n e)) (refl, low, holder ws (address_of (lowest_in size ws Slave a n)) (slave-sick size ws _ low.gives))

  decodes : (a n : ℕ) → group_of size ws a n ≡ Decode → Decodes a n (location_of size ws a n)
  unfolding Decodes
  decodes a n e = subst (Decodes a n) (sym (told a n e)) (refl, group size ws Decode decode-bad a n e, refl)

-- a refusal has no result's number
refused : {f : Refusal} → ◌≡◌ {A = Result ⊤ Refusal} (Ok tt) (Err f) → ⊥
refused e = cc

seen-tells : (r q : Result Located Refusal) → located_seen r ≡ located_seen q → r ≡ q
seen-tells (Ok r) (Ok q) e = λ i. Ok (record { verdict = (e i).verdict; place = (e i).place; window = (e i).window })
seen-tells (Ok r) (Err g) e = absurd (refused (number-tells {a = Ok tt} {b = Err g} (ap (λ (y : Location). y.answer) e)))
seen-tells (Err f) (Ok q) e = absurd (refused (number-tells {a = Ok tt} {b = Err f} (sym (ap (λ (y : Location). y.answer) e))))
seen-tells (Err f) (Err g) e = ap Err (refusal-tells (ap (λ (y : Location). y.answer) e))

pub claims : Claims
unfolding Slaves Decodes
claims = record {
  okay-nowhere = okay-nothing;
  absent = λ size ws v place k n bad e. found-absent size ws v bad place k n (finds size ws v place k n bad) e;
  found = found;
  only = only-lowest;
  error = λ size ws v place k n bad e. side size ws v bad place k n e (finds size ws v place k n bad);
  fault = λ size ws v reads writes k n bad e. both-sides size ws v bad reads writes k n e (finds size ws v reads k n bad) (finds size ws v writes k n bad);
  group-okay = λ size ws a n e. told size ws a n e ∙ ap (λ (p : Option ℕ). location_by ws Okay (address_of p)) (okay-nothing size ws (λ x. x) a n);
  group-slave = slaves;
  group-decode = decodes;
  unique = λ x r q e f. seen-tells r q (e ∙ sym f);
}
