-- The decimal digits of a number are right: they read back as the number, each is a digit, and no needless zero is in front.
-- No other text in decimal is of the same number.
use mathlib.Core.Path.{◌≡◌, refl, sym, ap, ap₂, ◌∙◌}
use mathlib.Core.Bool.{Bool, true, false}
use mathlib.Core.List.{List, [], ◌∷◌, ◌++◌, append_assoc, append-nil}
use Prim.Native.Nat.{ℕ, zero, suc, ◌+◌, ◌-◌, ◌*◌, ◌/◌, ◌%◌, ◌^◌, ◌≤◌, ◌<◌}
use native.Mathlib.Omega.{arith}
use native.Mathlib.Nat.{not-suc-le-zero}
use lib.Dec.{ltb}
use lib.ListN.{length, get_or, length-append, get_or-append}
use borrow.Author.Tests.{lt-ltb, le-ltb, ltb-true, ltb-false}
use Rattle.kit.specs.Choice.{when}
use Rattle.digits.specs.Decimal.{digits_by, digits_of, read_on, number_read, Every, InDecimal}

-- ---- the fuel, hidden

digits-fuel : (f g v : ℕ) → v < f → v < g → digits_by f v ≡ digits_by g v
unfolding digits_by
digits-fuel zero g v h k = absurd (not-suc-le-zero h)
digits-fuel (suc f) zero v h k = absurd (not-suc-le-zero k)
digits-fuel (suc f) (suc g) v h k = go (ltb v 10) refl (digits-fuel f g (v / 10))
  where
    go : (t : Bool) → ltb v 10 ≡ t → (v / 10 < f → v / 10 < g → digits_by f (v / 10) ≡ digits_by g (v / 10))
        → when t ((48 + v) ∷ []) (digits_by f (v / 10) ++ ((48 + v % 10) ∷ []))
        ≡ when t ((48 + v) ∷ []) (digits_by g (v / 10) ++ ((48 + v % 10) ∷ []))
    go true e rest = refl
    go false e rest =
        let big : 10 ≤ v = ltb-false v 10 e in
        ap (λ (l : List ℕ). l ++ ((48 + v % 10) ∷ [])) (rest (omega arith) (omega arith))

pub digits-small : (v : ℕ) → v < 10 → digits_of v ≡ (48 + v) ∷ []
unfolding digits_of digits_by
digits-small v h = ap (λ (t : Bool). when t ((48 + v) ∷ []) (digits_by v (v / 10) ++ ((48 + v % 10) ∷ []))) (lt-ltb v 10 h)

pub digits_step : (v : ℕ) → 10 ≤ v → digits_of v ≡ digits_of (v / 10) ++ ((48 + v % 10) ∷ [])
unfolding digits_of digits_by
digits_step v h =
    ap (λ (t : Bool). when t ((48 + v) ∷ []) (digits_by v (v / 10) ++ ((48 + v % 10) ∷ []))) (le-ltb v 10 h)
    ∙ ap (λ (l : List ℕ). l ++ ((48 + v % 10) ∷ [])) (digits-fuel v (suc (v / 10)) (v / 10) (omega arith) (omega arith))

digits-below : (P : ℕ → Type 0) → ((v : ℕ) → v < 10 → P v) → ((v : ℕ) → 10 ≤ v → P (v / 10) → P v) → (f v : ℕ) → v < f → P v
digits-below P small step zero v h = absurd (not-suc-le-zero h)
digits-below P small step (suc f) v h = go (ltb v 10) refl (digits-below P small step f (v / 10))
  where
    go : (t : Bool) → ltb v 10 ≡ t → (v / 10 < f → P (v / 10)) → P v
    go true e rest = small v (ltb-true v 10 e)
    go false e rest = let big : 10 ≤ v = ltb-false v 10 e in step v big (rest (omega arith))

-- what holds of one digit, and of a number where it holds of the number without its last digit, holds of every number
pub digits-ind : (P : ℕ → Type 0) → ((v : ℕ) → v < 10 → P v) → ((v : ℕ) → 10 ≤ v → P (v / 10) → P v) → (v : ℕ) → P v
digits-ind P small step v = digits-below P small step (suc v) v (omega arith)

-- ---- reading back

read-append : (n : ℕ) (us vs : List ℕ) → read_on n (us ++ vs) ≡ read_on (read_on n us) vs
read-append n [] vs = refl
read-append n (u ∷ us) vs = read-append (10 * n + (u - 48)) us vs

pub digits-read : (v : ℕ) → number_read (digits_of v) ≡ v
digits-read v =
    digits-ind (λ (v : ℕ). number_read (digits_of v) ≡ v)
    (λ v h. ap number_read (digits-small v h) ∙ omega arith)
    (λ v h rest.
    ap number_read (digits_step v h)
    ∙ read-append 0 (digits_of (v / 10)) ((48 + v % 10) ∷ [])
    ∙ ap (λ (n : ℕ). 10 * n + (48 + v % 10 - 48)) rest
    ∙ omega arith)
    v

-- ---- each a digit

pub every_append : (P : ℕ → Type 0) (us vs : List ℕ) → Every P us → Every P vs → Every P (us ++ vs)
every_append P [] vs h k = k
every_append P (u ∷ us) vs h k = (h.0, every_append P us vs h.1 k)

abbrev Digit : ℕ → Type 0
Digit d = (48 ≤ d) × (d ≤ 57)

pub digits-each : (v : ℕ) → Every Digit (digits_of v)
digits-each v =
    digits-ind (λ (v : ℕ). Every Digit (digits_of v))
    (λ v h. rw (digits-small v h) ((omega arith, omega arith), tt))
    (λ v h rest.
    rw (digits_step v h) (every_append Digit (digits_of (v / 10)) ((48 + v % 10) ∷ []) rest ((omega arith, omega arith), tt)))
    v

-- ---- how many

pub digits-some : (v : ℕ) → 1 ≤ length (digits_of v)
digits-some v =
    digits-ind (λ (v : ℕ). 1 ≤ length (digits_of v))
    (λ v h. rw (digits-small v h) (omega arith))
    (λ v h rest. rw (digits_step v h, length-append) (omega arith))
    v

pub digits-most : (k v : ℕ) → v < 10 ^ suc k → length (digits_of v) ≤ suc k
digits-most zero v h = rw (digits-small v (omega arith)) (omega arith)
digits-most (suc k) v h = go (ltb v 10) refl (digits-most k (v / 10) (omega arith))
  where
    go : (t : Bool) → ltb v 10 ≡ t → length (digits_of (v / 10)) ≤ suc k → length (digits_of v) ≤ suc (suc k)
    go true e rest = rw (digits-small v (ltb-true v 10 e)) (omega arith)
    go false e rest = rw (digits_step v (ltb-false v 10 e), length-append) (omega arith)

-- the same below four of the powers of ten
pub most_two : (v : ℕ) → v < 10 ^ 2 → length (digits_of v) ≤ 2
most_two = digits-most 1

pub most_three : (v : ℕ) → v < 10 ^ 3 → length (digits_of v) ≤ 3
most_three = digits-most 2

pub most_six : (v : ℕ) → v < 10 ^ 6 → length (digits_of v) ≤ 6
most_six = digits-most 5

pub most_eleven : (v : ℕ) → v < 10 ^ 11 → length (digits_of v) ≤ 11
most_eleven = digits-most 10

-- ---- no zero in front

pub digits-front : (v : ℕ) → 1 ≤ v → 49 ≤ get_or (digits_of v) 0 0
digits-front v =
    digits-ind (λ (v : ℕ). 1 ≤ v → 49 ≤ get_or (digits_of v) 0 0)
    (λ v h some. rw (digits-small v h) (omega arith))
    (λ v h rest some.
    rw (digits_step v h, get_or-append (digits_of (v / 10)) ((48 + v % 10) ∷ []) 0 0 (digits-some (v / 10)))
    (rest (omega arith)))
    v

front-alone : (v : ℕ) → get_or (digits_of v) 0 0 ≡ 48 → length (digits_of v) ≡ 1
front-alone v e = go (ltb v 10) refl
  where
    go : (t : Bool) → ltb v 10 ≡ t → length (digits_of v) ≡ 1
    go true s = ap length (digits-small v (ltb-true v 10 s))
    go false s = let big : 10 ≤ v = ltb-false v 10 s in absurd (omega (arith, digits-front v (omega arith)))

-- ---- in one claim

pub digits-right : (v : ℕ) → InDecimal v (digits_of v)
digits-right v = record {
  some = digits-some v;
  digits = digits-each v;
  reads = digits-read v;
  front = front-alone v;
}

-- ---- no other text

digits-on : (n : ℕ) (ds : List ℕ) → 1 ≤ n → Every Digit ds → digits_of (read_on n ds) ≡ digits_of n ++ ds
digits-on n [] some h = sym (append-nil (digits_of n))
digits-on n (d ∷ ds) some h =
    let low : 48 ≤ d = h.0.0 in
    let high : d ≤ 57 = h.0.1 in
    digits-on (10 * n + (d - 48)) ds (omega arith) h.1
    ∙ ap (λ (l : List ℕ). l ++ ds)
    (digits_step (10 * n + (d - 48)) (omega arith) ∙ ap₂ (λ (x y : ℕ). digits_of x ++ (y ∷ [])) (omega arith) (omega arith))
    ∙ append_assoc (digits_of n) (d ∷ []) ds

one-digit : (d : ℕ) → Digit d → digits_of (d - 48) ≡ d ∷ []
one-digit d (low, high) = digits-small (d - 48) (omega arith) ∙ ap (λ (x : ℕ). x ∷ []) (omega arith)

pub digits-only : {v : ℕ} (ds : List ℕ) → InDecimal v ds → ds ≡ digits_of v
digits-only [] t = absurd (not-suc-le-zero t.some)
digits-only (d ∷ []) t = sym (one-digit d t.digits.0) ∙ ap digits_of (omega (arith, t.reads))
digits-only (d ∷ e ∷ ds) t =
    let low : 48 ≤ d = t.digits.0.0 in
    sym (digits-on (10 * 0 + (d - 48)) (e ∷ ds) (some d low (λ z. omega (arith, t.front z))) t.digits.1
    ∙ ap (λ (l : List ℕ). l ++ (e ∷ ds)) (ap digits_of (omega arith) ∙ one-digit d t.digits.0))
    ∙ ap digits_of t.reads
  where
    some : (d : ℕ) → 48 ≤ d → (d ≡ 48 → ⊥) → 1 ≤ 10 * 0 + (d - 48)
    some d h n = omega arith
