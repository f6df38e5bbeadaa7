-- The bytes of a burst that doubles what it has written.
use mathlib.Core.Path.{◌≡◌, sym, ap, ◌∙◌}
use mathlib.Core.List.{List}
use Prim.Native.Nat.{ℕ, ◌+◌, ◌≤◌}
use native.Mathlib.Omega.{arith}
use lib.ListN.{length, take, drop}
use lib.Seq.{sets, take-take}
use Rattle.kit.proofs.Stores.{sets-append}
use Rattle.memory.specs.Burst.{copied}
use Rattle.memory.proofs.Stores.{sets-part}
use Rattle.sides.specs.Sides.{side_read}
use Rattle.sides.proofs.Places.{Period, length-read, read-append, read_again}

-- m is s with d bytes of a side at `to`, and n of them more are copied from there
pub doubled : (s m : List ℕ) (place : ℕ → ℕ) (to k d n : ℕ) → Period place d → n ≤ d → to + d ≤ length s
    → m ≡ sets s to (side_read s place k d) → copied m to (to + d) n ≡ sets s to (side_read s place k (d + n))
doubled s m place to k d n again few fits e =
    let xs : List ℕ = side_read s place k d in
    let long : length xs ≡ d = length-read s place k d in
    let first : take d (drop to m) ≡ xs = ap (λ (l : List ℕ). take d (drop to l)) e ∙ sets-part s to xs d (sym long) (omega arith) in
    let more : take n (drop to m) ≡ side_read s place (k + d) n =
    sym (take-take n d (drop to m) few) ∙ ap (take n) first ∙ read_again s place d again k n few in
    ap (sets m (to + d)) more
    ∙ ap (λ (l : List ℕ). sets l (to + d) (side_read s place (k + d) n)) e
    ∙ ap (λ (x : ℕ). sets (sets s to xs) (to + x) (side_read s place (k + d) n)) (sym long)
    ∙ sym (sets-append s to xs (side_read s place (k + d) n))
    ∙ ap (sets s to) (sym (read-append s place k d n))
