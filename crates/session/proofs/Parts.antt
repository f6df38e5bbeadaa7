-- A part of one list copied over a part of another is `sets` of the part.
use mathlib.Core.Path.{◌≡◌, sym, ap, ◌∙◌}
use mathlib.Core.List.{List, ◌++◌, append_assoc}
use Prim.Native.Nat.{ℕ, ◌+◌, ◌-◌, ◌≤◌}
use native.Mathlib.Omega.{arith}
use lib.ListN.{length, take, drop, length-drop}
use lib.Seq.{sets, sets-eq, drop-drop, length-take-le}
use borrow.Rule.Slice.PartMut.{put_mid}

pub copied-part : (input m : List ℕ) (from to n : ℕ) → from + n ≤ length input → to + n ≤ length m → (put : List ℕ)
    → put ≡ take (from + n - from) (drop from input)
    → put_mid to (to + n - to) m put ≡ sets m to (take n (drop from input))
copied-part input m from to n source target put e =
    let s : List ℕ = take n (drop from input) in
    let wide : from + n - from ≡ n = omega arith in
    let long : length s ≡ n = length-take-le n (drop from input) (simp length-drop (omega arith)) in
    let part : take (from + n - from) (drop from input) ≡ s = ap (λ (k : ℕ). take k (drop from input)) wide in
    let whole : put ≡ s = e ∙ part in
    let end : to + (to + n - to) ≡ to + length s = omega arith in
    ap (put_mid to (to + n - to) m) whole
    ∙ ap (λ (l : List ℕ). take to m ++ (s ++ l)) (drop-drop (to + n - to) to m ∙ ap (λ (k : ℕ). drop k m) end)
    ∙ sym (append_assoc (take to m) s (drop (to + length s) m))
    ∙ sym (sets-eq s m to (omega arith))
