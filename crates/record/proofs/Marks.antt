-- Laws of the kinds: the kind of a mark, in a trace of one engine or of two, the lengths of MM, the longest body and the longest record.
use mathlib.Core.Path.{◌≡◌, refl, ap}
use mathlib.Core.Bool.{Bool, true, false}
use mathlib.Core.List.{List}
use Prim.Native.Nat.{ℕ, ◌+◌, ◌≤◌}
use native.Mathlib.Omega.{arith}
use lib.Dec.{leb}
use borrow.Author.Tests.{leb-true}
use Rattle.kit.specs.Word.{half_at}
use Rattle.kit.proofs.Choice.{both_left, both_right, never}
use Rattle.record.specs.Mark.{Kind, CF, C2, MM, SW, WR, RD, ST, AR, WR2, RD2, ST2, unknown, kind_of, of_trace, body_length, most_data, data_allowed}
use Rattle.record.specs.Reading.{size_of, allowed}
use Rattle.record.specs.Claims.{longest}

-- the kind of a mark, in a trace of two engines or of one; most kinds are the same in both
pub kind-by : (two : Bool) {m n : ℕ} → m ≡ n → of_trace two (kind_of m) ≡ of_trace two (kind_of n)
kind-by two = ap (λ (n : ℕ). of_trace two (kind_of n))

pub in_both : (k : Kind) → of_trace true k ≡ k → (two : Bool) → of_trace two k ≡ k
in_both k e true = e
in_both k e false = refl

pub data-bounds : (n : ℕ) → data_allowed n ≡ true → (1 ≤ n) × (n ≤ most_data)
data-bounds n e =
    (leb-true 1 n (both_left (leb 1 n) (leb n most_data) e), leb-true n most_data (both_right (leb 1 n) (leb n most_data) e))

pub body-most : (k : Kind) → body_length k ≤ 16
body-most CF = omega arith
body-most C2 = omega arith
body-most MM = omega arith
body-most SW = omega arith
body-most WR = omega arith
body-most RD = omega arith
body-most ST = omega arith
body-most AR = omega arith
body-most WR2 = omega arith
body-most RD2 = omega arith
body-most ST2 = omega arith
body-most unknown = omega arith

pub size-most : (s : List ℕ) (at : ℕ) (first : Bool) (k : Kind) → allowed s at first k ≡ true → size_of s at k ≤ longest
size-most s at first CF e = omega arith
size-most s at first C2 e = omega arith
size-most s at first MM e = omega (arith, data-bounds (half_at s (at + 10)) e)
size-most s at first SW e = omega arith
size-most s at first WR e = omega arith
size-most s at first RD e = omega arith
size-most s at first ST e = omega arith
size-most s at first AR e = omega arith
size-most s at first WR2 e = omega arith
size-most s at first RD2 e = omega arith
size-most s at first ST2 e = omega arith
size-most s at first unknown e = absurd (never e)
