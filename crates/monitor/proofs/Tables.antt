-- Laws of `raise`, and of the two tables: which flags they can raise, and that a word only grows.
use mathlib.Core.Path.{◌≡◌, refl, sym, ap, ap₂, subst, ◌∙◌}
use mathlib.Core.Bool.{Bool, true, false, ◌&&◌, and-true, and-false}
use mathlib.Core.List.{List, [], ◌∷◌, ◌++◌}
use Prim.Native.Nat.{ℕ, ◌^◌, ◌≤◌, ◌<◌, max}
use native.Mathlib.Nat.{max-zero, max-le, le_refl, le_trans}
use native.Mathlib.Omega.{arith}
use lib.Dec.{eqb, ltb, lit<, lit≤}
use lib.Pow.{pow-lt}
use lib.Bits.{bit_or, or_lt, or_add_and, and_le_r}
use borrow.Author.Tests.{ltb-true}
use Rattle.kit.specs.Choice.{when, either}
use Rattle.kit.specs.Settings.{among}
use Rattle.kit.proofs.Choice.{cases, both_left, both_right, never}
use Rattle.kit.proofs.Lists.{each}
use Rattle.monitor.specs.declared.clock.Clock.{Clock}
use Rattle.monitor.specs.declared.monitor.Monitor.{Monitor}
use Rattle.monitor.specs.Rules.{bit}
use Rattle.monitor.specs.Flags.{Line, flag_of, raise, waiting, valid_table, held_table, valid_flags, held_flags}
use Rattle.monitor.specs.Monitor.{flags_of}
use Rattle.monitor.specs.Claims.{struck, flag_numbers}
use Rattle.monitor.proofs.Bits.{bit-or, bit-none, bit-power}

-- ---- any table

flag-bit : (n k : ℕ) (t : Bool) → bit n (flag_of k t) ≡ when (eqb n k && t) 1 0
unfolding flag_of
flag-bit n k true = bit-power n k ∙ ap (λ t. when t 1 0) (sym (and-true (eqb n k)))
flag-bit n k false = bit-none n ∙ ap (λ t. when t 1 0) (sym (and-false (eqb n k)))

flag-lt : (k : ℕ) (t : Bool) → k < 64 → flag_of k t < 2 ^ 64
unfolding flag_of
flag-lt k true h = pow-lt h
flag-lt k false h = lit< tt

pub raise-bit : (n flags : ℕ) (lines : List Line) → bit n (raise flags lines) ≡ max (bit n flags) (struck n lines)
unfolding raise
raise-bit n flags [] = sym (max-zero (bit n flags))
raise-bit n flags (line ∷ lines) =
    raise-bit n (bit_or flags (flag_of line.0 line.1)) lines
    ∙ ap (λ (x : ℕ). max x (struck n lines)) (bit-or n flags (flag_of line.0 line.1) ∙ ap (max (bit n flags)) (flag-bit n line.0 line.1))
    ∙ omega arith

pub raise-le : (flags : ℕ) (lines : List Line) → flags ≤ raise flags lines
unfolding raise
raise-le flags [] = le_refl flags
raise-le flags (line ∷ lines) =
    let f = flag_of line.0 line.1 in
    let grown = raise-le (bit_or flags f) lines in
    omega (arith, or_add_and flags f, and_le_r flags f)

abbrev pub numbers : List Line → List ℕ
numbers [] = []
numbers (line ∷ lines) = line.0 ∷ numbers lines

raise-lt : (flags : ℕ) (lines : List Line) → each (λ k. ltb k 64) (numbers lines) ≡ true → flags < 2 ^ 64 → raise flags lines < 2 ^ 64
unfolding raise
raise-lt flags [] a h = h
raise-lt flags (line ∷ lines) a h =
    let small = ltb-true line.0 64 (both_left (ltb line.0 64) (each (λ k. ltb k 64) (numbers lines)) a) in
    raise-lt (bit_or flags (flag_of line.0 line.1)) lines (both_right (ltb line.0 64) (each (λ k. ltb k 64) (numbers lines)) a)
    (or_lt 64 flags (flag_of line.0 line.1) h (flag-lt line.0 line.1 small))

struck-le : (n : ℕ) (lines : List Line) → struck n lines ≤ 1
struck-le n [] = lit≤ tt
struck-le n (line ∷ lines) = max-le (cases (λ x. x ≤ 1) (eqb n line.0 && line.1) (λ _. lit≤ tt) (λ _. lit≤ tt)) (struck-le n lines)

unstruck : (n : ℕ) (lines : List Line) → among n (numbers lines) ≡ false → struck n lines ≡ 0
unstruck n [] a = refl
unstruck n (line ∷ lines) a = go (eqb n line.0) refl a (unstruck n lines)
  where
    go : (t : Bool) → eqb n line.0 ≡ t → either t (among n (numbers lines)) ≡ false → (among n (numbers lines) ≡ false → struck n lines ≡ 0) → struck n (line ∷ lines) ≡ 0
    go true e b rest = absurd (never (sym b))
    go false e b rest = ap₂ max (ap (λ t. when (t && line.1) 1 0) e) (rest b)

-- ---- the tables of this crate

among-apart : (n : ℕ) (xs ys : List ℕ) → among n (xs ++ ys) ≡ false → (among n xs ≡ false) × (among n ys ≡ false)
among-apart n [] ys a = (refl, a)
among-apart n (x ∷ xs) ys a = go (eqb n x) a (among-apart n xs ys)
  where
    go : (t : Bool) → either t (among n (xs ++ ys)) ≡ false → (among n (xs ++ ys) ≡ false → (among n xs ≡ false) × (among n ys ≡ false))
        → (either t (among n xs) ≡ false) × (among n ys ≡ false)
    go true b rest = absurd (never (sym b))
    go false b rest = rest b

-- a table that counts only where its condition holds
abbrev lines-if : Bool → List Line → List Line
lines-if t lines = when t lines []

raise-if : (t : Bool) (flags : ℕ) (lines : List Line) → when t (raise flags lines) flags ≡ raise flags (lines-if t lines)
unfolding raise
raise-if true flags lines = refl
raise-if false flags lines = refl

abbrev pub valid_lines : ℕ → Clock → Clock → List Line
valid_lines width before c = lines-if c.valid (valid_table width before c)

abbrev pub held_lines : Clock → Clock → List Line
held_lines before c = lines-if (waiting before) (held_table before c)

abbrev pub raised : Monitor → ℕ → Clock → ℕ
raised m width c = raise (raise m.flags (valid_lines width m.before c)) (held_lines m.before c)

held-raised : (flags : ℕ) (before c : Clock) → held_flags flags before c ≡ raise flags (held_lines before c)
unfolding held_flags
held-raised flags before c = raise-if (waiting before) flags (held_table before c)

valid-raised : (flags width : ℕ) (before c : Clock) → valid_flags flags width before c ≡ raise flags (valid_lines width before c)
unfolding valid_flags
valid-raised flags width before c = raise-if c.valid flags (valid_table width before c)

-- the flags after a clock are those of both tables, or none
pub flags-cases : (P : ℕ → Type 0) (m : Monitor) (width : ℕ) (c : Clock) → (c.aresetn ≡ false → P 0) → (c.aresetn ≡ true → P (raised m width c)) → P (flags_of m width c)
unfolding flags_of
flags-cases P m width c none some =
    cases P c.aresetn
    (λ e. subst P (sym (held-raised _ m.before c ∙ ap (λ (f : ℕ). raise f (held_lines m.before c)) (valid-raised m.flags width m.before c))) (some e))
    none

pub raised-le : (m : Monitor) (width : ℕ) (c : Clock) → m.flags ≤ raised m width c
raised-le m width c =
    le_trans (raise-le m.flags (valid_lines width m.before c)) (raise-le (raise m.flags (valid_lines width m.before c)) (held_lines m.before c))

pub raised-up : (n : ℕ) (m : Monitor) (width : ℕ) (c : Clock) → bit n m.flags ≡ 1 → bit n (raised m width c) ≡ 1
raised-up n m width c e =
    up (raise m.flags (valid_lines width m.before c)) (held_lines m.before c) (up m.flags (valid_lines width m.before c) e)
  where
    up : (flags : ℕ) (lines : List Line) → bit n flags ≡ 1 → bit n (raise flags lines) ≡ 1
    up flags lines h = raise-bit n flags lines ∙ omega (arith, struck-le n lines)

pub raised-known : (n : ℕ) (m : Monitor) (width : ℕ) (c : Clock) → among n flag_numbers ≡ false → bit n m.flags ≡ 0 → bit n (raised m width c) ≡ 0
unfolding valid_table held_table
raised-known n m width c a e =
    let apart = among-apart n (numbers (valid_table width m.before c)) (numbers (held_table m.before c)) a in
    same (raise m.flags (valid_lines width m.before c)) (waiting m.before) (held_table m.before c) apart.1
    ∙ same m.flags c.valid (valid_table width m.before c) apart.0 ∙ e
  where
    same : (flags : ℕ) (t : Bool) (lines : List Line) → among n (numbers lines) ≡ false → bit n (raise flags (lines-if t lines)) ≡ bit n flags
    same flags t lines h =
        raise-bit n flags (lines-if t lines)
        ∙ ap (max (bit n flags)) (cases (λ l. struck n l ≡ 0) t (λ _. unstruck n lines h) (λ _. refl)) ∙ max-zero (bit n flags)

pub raised_lt : (m : Monitor) (width : ℕ) (c : Clock) → m.flags < 2 ^ 64 → raised m width c < 2 ^ 64
unfolding valid_table held_table
raised_lt m width c h =
    raise-lt _ (held_lines m.before c) (small (waiting m.before) (held_table m.before c) refl)
    (raise-lt m.flags (valid_lines width m.before c) (small c.valid (valid_table width m.before c) refl) h)
  where
    small : (t : Bool) (lines : List Line) → each (λ k. ltb k 64) (numbers lines) ≡ true → each (λ k. ltb k 64) (numbers (lines-if t lines)) ≡ true
    small t lines a = cases (λ l. each (λ k. ltb k 64) (numbers l) ≡ true) t (λ _. a) (λ _. refl)
