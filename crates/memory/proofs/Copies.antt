-- Copies from part to part, whose ends the code reckons, so that their lengths are differences; and the copy of a burst, through
-- bytes that are held in between.
use mathlib.Core.Path.{◌≡◌, sym, ap, ◌∙◌}
use mathlib.Core.List.{List, ◌++◌, append_assoc}
use Prim.Native.Nat.{ℕ, ◌+◌, ◌-◌, ◌≤◌}
use native.Mathlib.Omega.{arith}
use lib.ListN.{length, take, drop, length-drop}
use lib.Seq.{sets, sets-eq, take_at, drop-drop, length-take-le}
use borrow.Rule.Slice.PartMut.{put_mid}
use Rattle.memory.specs.Burst.{copied}

pub part_length : (m : List ℕ) (a n : ℕ) → a + n ≤ length m → length (take n (drop a m)) ≡ n
part_length m a n fits = length-take-le n (drop a m) (simp length-drop (omega arith))

-- the same where a part ends at a + n
ended_length : (m : List ℕ) (a n : ℕ) → a + n ≤ length m → length (take (a + n - a) (drop a m)) ≡ n
ended_length m a n fits = let width : a + n - a ≡ n = omega arith in rw width (part_length m a n fits)

-- what a copy leaves in a part: `put`, of the part of s
pub copied-part : (s m : List ℕ) (at to n : ℕ) → at + n ≤ length s → to + n ≤ length m → (put : List ℕ)
    → put ≡ take (at + n - at) (drop at s)
    → put_mid to (to + n - to) m put ≡ sets m to (take n (drop at s))
copied-part s m at to n source target put whole =
    let x : List ℕ = take (at + n - at) (drop at s) in
    let width : at + n - at ≡ n = omega arith in
    let long : length x ≡ n = ended_length s at n source in
    let end : to + (to + n - to) ≡ to + length x = omega arith in
    ap (put_mid to (to + n - to) m) whole
    ∙ ap (λ (l : List ℕ). take to m ++ (x ++ l)) (drop-drop (to + n - to) to m ∙ ap (λ (k : ℕ). drop k m) end)
    ∙ sym (append_assoc (take to m) x (drop (to + length x) m))
    ∙ sym (sets-eq x m to (omega arith))
    ∙ ap (λ (k : ℕ). sets m to (take k (drop at s))) width

pub copied-through : (m : List ℕ) (from to n : ℕ) → from + n ≤ length m → to + n ≤ length m
    → (held front put : List ℕ)
    → front ≡ take (from + n - from) (drop from m)
    → put ≡ take n (front ++ drop n held)
    → put_mid to (to + n - to) m put ≡ copied m from to n
copied-through m from to n source target held front put e f =
    let long : length front ≡ n = ap length e ∙ ended_length m from n source in
    copied-part m m from to n source target put (f ∙ take_at front (drop n held) n long ∙ e)
