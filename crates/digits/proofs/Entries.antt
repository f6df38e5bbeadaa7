-- The table law: the entry of a number below 1,000 stores its digits.
use mathlib.Core.Path.{◌≡◌, refl, sym, ap, ap₂, subst, ◌∙◌}
use mathlib.Core.Bool.{Bool, true, false}
use mathlib.Core.List.{List, [], ◌∷◌, ◌++◌}
use Prim.Native.Nat.{ℕ, suc, ◌+◌, ◌-◌, ◌*◌, ◌/◌, ◌%◌, ◌≤◌, ◌<◌}
use native.Mathlib.Omega.{arith}
use lib.Dec.{ltb}
use lib.ListN.{length, take, length-append}
use lib.Seq.{sets}
use borrow.Author.Tests.{ltb-true, ltb-false}
use Rattle.kit.specs.Word.{joined, bytes_of}
use Rattle.digits.specs.Decimal.{digits_of, last_digits}
use Rattle.digits.specs.Puts.{Puts, Starts}
use Rattle.digits.specs.Tables.{entry_of, leading_of, padded_of}
use Rattle.digits.proofs.Sets.{sets-cover}
use Rattle.digits.proofs.Digits.{digits-small, digits-some, digits-most}
use Rattle.digits.proofs.Split.{digits-whole}

-- ---- the digits of a number below 1,000 are its last one, two or three

pub digits-one : (n : ℕ) → n < 10 → digits_of n ≡ last_digits 1 n
unfolding last_digits
digits-one n h = digits-small n h ∙ ap (λ (d : ℕ). (48 + d) ∷ []) (omega arith)

pub digits-two : (n : ℕ) → 10 ≤ n → n < 100 → digits_of n ≡ last_digits 2 n
digits-two n some h = digits-whole 1 n (omega arith) (omega arith)

pub digits-three : (n : ℕ) → 100 ≤ n → n < 1000 → digits_of n ≡ last_digits 3 n
digits-three n some h = digits-whole 2 n (omega arith) (omega arith)

digits-cases : (P : List ℕ → Type 0) (n : ℕ) → n < 1000 → P (last_digits 1 n) → P (last_digits 2 n) → P (last_digits 3 n) → P (digits_of n)
digits-cases P n h one two three = go (ltb n 10) refl (ltb n 100) refl
  where
    go : (s : Bool) → ltb n 10 ≡ s → (t : Bool) → ltb n 100 ≡ t → P (digits_of n)
    go true e t f = subst P (sym (digits-one n (ltb-true n 10 e))) one
    go false e true f = subst P (sym (digits-two n (ltb-false n 10 e) (ltb-true n 100 f))) two
    go false e false f = subst P (sym (digits-three n (ltb-false n 100 f) h)) three

-- ---- the bytes of an entry

abbrev Byte : ℕ → Type 0
Byte x = x < 256

joined_bytes : (a b c d : ℕ) → Byte a → Byte b → Byte c → Byte d → bytes_of (joined a b c d) ≡ a ∷ b ∷ c ∷ d ∷ []
joined_bytes a b c d h i j k = λ x. first x ∷ second x ∷ third x ∷ fourth x ∷ []
  where
    first : joined a b c d % 256 ≡ a
    first = omega arith

    second : joined a b c d / 256 % 256 ≡ b
    second = omega arith

    third : joined a b c d / 65536 % 256 ≡ c
    third = omega arith

    fourth : joined a b c d / 16777216 % 256 ≡ d
    fourth = omega arith

hundreds : (n : ℕ) → n < 1000 → n / 100 ≡ n / 10 / 10 % 10
hundreds n h = omega arith

-- the entry of one, two or three digits
module _ (n : ℕ) {w : ℕ} where
  pub leading-one : n < 10 → w ≡ joined (n % 10 + 48) 0 0 1 → w ≡ leading_of n
  unfolding leading_of last_digits
  leading-one h e = rw (digits-one n h) (omega arith)

  pub leading_two : 10 ≤ n → n < 100 → w ≡ joined (n / 10 % 10 + 48) (n % 10 + 48) 0 2 → w ≡ leading_of n
  unfolding leading_of last_digits
  leading_two some h e = rw (digits-two n some h) (omega arith)

  pub leading-three : 100 ≤ n → n < 1000 → w ≡ joined (n / 100 + 48) (n / 10 % 10 + 48) (n % 10 + 48) 3 → w ≡ leading_of n
  unfolding leading_of last_digits
  leading-three some h e = rw (digits-three n some h) (omega (arith, hundreds n h))

  pub padded-three : n < 1000 → w ≡ joined (n / 100 + 48) (n / 10 % 10 + 48) (n % 10 + 48) 0 → w ≡ padded_of n
  unfolding padded_of last_digits
  padded-three h e = omega (arith, hundreds n h)

module _ (n : ℕ) (h : n < 1000) {w : ℕ} (is : w ≡ leading_of n) where
  -- the top byte is the count
  pub leading-count : w / 16777216 ≡ length (digits_of n)
  unfolding leading_of last_digits
  leading-count =
      ap (λ (x : ℕ). x / 16777216) is
      ∙ digits-cases (λ ds. entry_of ds (length ds) / 16777216 ≡ length ds) n h (omega arith) (omega arith) (omega arith)

  pub leading-few : (1 ≤ w / 16777216) × (w / 16777216 ≤ 3)
  leading-few = let e = leading-count in (omega (arith, e, digits-some n), omega (arith, e, digits-most 2 n h))

  pub leading-put : (m : List ℕ) (at : ℕ) {m₁ : List ℕ} → m₁ ≡ sets m at (bytes_of w) → Starts m m₁ at (at + w / 16777216) (digits_of n)
  unfolding leading_of last_digits
  leading-put m at {m₁} s =
      subst (λ (k : ℕ). Starts m m₁ at (at + k) (digits_of n)) (sym leading-count)
      (digits-cases (λ ds. m₁ ≡ sets m at (bytes_of (entry_of ds (length ds))) → Starts m m₁ at (at + length ds) ds) n h
      (λ t. start ((48 + n % 10) ∷ []) (0 ∷ 0 ∷ 1 ∷ []) (omega arith)
      (t ∙ ap (sets m at) (joined_bytes (48 + n % 10) 0 0 1 (omega arith) (omega arith) (omega arith) (omega arith))))
      (λ t. start ((48 + n / 10 % 10) ∷ (48 + n % 10) ∷ []) (0 ∷ 2 ∷ []) (omega arith)
      (t ∙ ap (sets m at) (joined_bytes (48 + n / 10 % 10) (48 + n % 10) 0 2 (omega arith) (omega arith) (omega arith) (omega arith))))
      (λ t. start ((48 + n / 10 / 10 % 10) ∷ (48 + n / 10 % 10) ∷ (48 + n % 10) ∷ []) (3 ∷ []) (omega arith)
      (t ∙ ap (sets m at) (joined_bytes (48 + n / 10 / 10 % 10) (48 + n / 10 % 10) (48 + n % 10) 3 (omega arith) (omega arith) (omega arith) (omega arith))))
      (s ∙ ap (λ (x : ℕ). sets m at (bytes_of x)) is))
    where
      start : (ds rest : List ℕ) → length rest ≤ 3 → m₁ ≡ sets m at (ds ++ rest) → Starts m m₁ at (at + length ds) ds
      start ds rest few t = record { past = refl; surplus = rest; few = few; stored = t }

module _ (n : ℕ) {w : ℕ} (is : w ≡ padded_of n) where
  pub padded-small : w < 16777216
  unfolding padded_of last_digits
  padded-small = omega arith

  -- the third byte is the last digit
  pub padded-last : w / 65536 ≡ 48 + n % 10
  unfolding padded_of last_digits
  padded-last = omega arith

  -- three digits, and a byte in the top one
  pub padded-bytes : (e : ℕ) → Byte e → bytes_of (w + 16777216 * e) ≡ last_digits 3 n ++ (e ∷ [])
  unfolding padded_of last_digits
  padded-bytes e h =
      ap bytes_of (omega arith)
      ∙ joined_bytes (48 + n / 10 / 10 % 10) (48 + n / 10 % 10) (48 + n % 10) e (omega arith) (omega arith) (omega arith) h

-- ---- two bytes from the front and the two last are the digits and a byte more

abbrev pub pair_of : ℕ → List ℕ
pair_of w = w % 256 ∷ w / 256 % 256 ∷ []

pair-bytes : (a b c d : ℕ) → Byte a → Byte b → Byte c → Byte d → pair_of (joined a b c d) ≡ a ∷ b ∷ []
pair-bytes a b c d h i j k = ap (take 2) (joined_bytes a b c d h i j k)

pub short-put : (n e : ℕ) → n < 1000 → Byte e → {v w : ℕ} → v ≡ leading_of n → w ≡ padded_of n → (m : List ℕ) (at : ℕ) {m₁ m₂ : List ℕ}
    → m₁ ≡ sets m at (pair_of v) → m₂ ≡ sets m₁ (at + v / 16777216 - 1) (pair_of (w / 65536 + 256 * e))
    → Puts m m₂ at (at + v / 16777216 + 1) (digits_of n ++ (e ∷ []))
unfolding leading_of last_digits
short-put n e h b {v} {w} p q m at {m₁} {m₂} s t =
    subst (λ (k : ℕ). m₂ ≡ sets m₁ (at + k - 1) back → Puts m m₂ at (at + k + 1) (digits_of n ++ (e ∷ []))) (sym (leading-count n h p))
    (digits-cases
    (λ ds. m₁ ≡ sets m at (pair_of (entry_of ds (length ds))) → m₂ ≡ sets m₁ (at + length ds - 1) back
    → Puts m m₂ at (at + length ds + 1) (ds ++ (e ∷ [])))
    n h
    (λ i j. both [] ((48 + n % 10) ∷ 0 ∷ []) (omega arith)
    (i ∙ ap (sets m at) (pair-bytes (48 + n % 10) 0 0 1 (omega arith) (omega arith) (omega arith) (omega arith))) j)
    (λ i j. both ((48 + n / 10 % 10) ∷ []) ((48 + n % 10) ∷ []) (omega arith)
    (i ∙ ap (sets m at) (pair-bytes (48 + n / 10 % 10) (48 + n % 10) 0 2 (omega arith) (omega arith) (omega arith) (omega arith))) j)
    (λ i j. both ((48 + n / 10 / 10 % 10) ∷ (48 + n / 10 % 10) ∷ []) [] (omega arith)
    (i ∙ ap (sets m at) (pair-bytes (48 + n / 10 / 10 % 10) (48 + n / 10 % 10) (48 + n % 10) 3 (omega arith) (omega arith) (omega arith) (omega arith))) j)
    (s ∙ ap (λ (x : ℕ). sets m at (pair_of x)) p))
    (t ∙ ap (sets m₁ (at + v / 16777216 - 1)) ends)
  where
    back : List ℕ
    back = (48 + n % 10) ∷ e ∷ []

    ends : pair_of (w / 65536 + 256 * e) ≡ back
    ends = ap pair_of whole ∙ pair-bytes (48 + n % 10) e 0 0 (omega arith) b (omega arith) (omega arith)
      where
        whole : w / 65536 + 256 * e ≡ joined (48 + n % 10) e 0 0
        whole = omega (arith, padded-last n q)

    both : (us zs : List ℕ) → length zs ≤ 2 → m₁ ≡ sets m at (us ++ zs) → m₂ ≡ sets m₁ (at + suc (length us) - 1) back
        → Puts m m₂ at (at + suc (length us) + 1) (us ++ back)
    both us zs few i j = record {
      past = omega (arith, length-append us back);
      stored = j ∙ ap₂ (λ (l : List ℕ) (k : ℕ). sets l k back) i (omega arith) ∙ sets-cover m at us zs back few;
    }
