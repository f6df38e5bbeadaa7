-- What a trace starts with, and what the converter puts before it.
use mathlib.Core.Path.{◌≡◌, refl, sym, ap, ap₂, ◌∙◌}
use mathlib.Core.Bool.{Bool, true, false}
use mathlib.Core.List.{List, ◌++◌}
use Prim.Native.Nat.{ℕ, ◌+◌, ◌<◌}
use native.Mathlib.Omega.{arith}
use lib.Dec.{leb}
use lib.ListN.{length, get_or, drop, length-append, length-drop, get_or-append}
use lib.Seq.{get_or-drop}
use borrow.Author.Tests.{le-leb}
use Rattle.kit.specs.Choice.{when, both}
use Rattle.kit.proofs.Choice.{yes, both-join}
use Rattle.record.specs.Mark.{kind_of}
use Rattle.record.specs.Reading.{reading_of}
use Rattle.record.specs.Starts.{settings_mark, settings_at, older_settings, converted_of, Starts}
use Rattle.record.proofs.Local.{leb-same, half-same}
use Rattle.record.proofs.Claims.{claims}

-- the same two bytes at p in s and at q in t, in both or in neither
same_start : (s t : List ℕ) (p q : ℕ) → ((i : ℕ) → i < 2 → get_or s (p + i) 0 ≡ get_or t (q + i) 0) → leb (p + 2) (length s) ≡ leb (q + 2) (length t) → settings_at s p ≡ settings_at t q
same_start s t p q agree fits = ap₂ both fits (ap settings_mark (half-same s t p q 2 agree p q 0 (omega arith) (omega arith) (omega arith)))

put-starts : (t : List ℕ) → settings_at (older_settings ++ t) 0 ≡ true
put-starts t = both-join (le-leb (0 + 2) (length (older_settings ++ t)) (omega (arith, length-append older_settings t))) refl

converted-starts : (t : List ℕ) → settings_at (converted_of t) 0 ≡ true
converted-starts t = go (settings_at t 0) refl
  where
    go : (v : Bool) → settings_at t 0 ≡ v → settings_at (when v t (older_settings ++ t)) 0 ≡ true
    go true e = e
    go false e = put-starts t

pub starts : Starts
unfolding reading_of kind_of
starts = record {
  dropped = λ s at room.
      same_start s (drop at s) at 0
      (λ i l. let e : i ≡ 0 + i = omega arith in sym (get_or-drop at s i 0) ∙ ap (λ (n : ℕ). get_or (drop at s) n 0) e)
      (leb-same (at + 2) (length s) (0 + 2) (length (drop at s)) (λ l. omega (arith, length-drop at s)) (λ l. omega (arith, length-drop at s)));
  settled = λ s more at room.
      same_start (s ++ more) s at at (λ i l. get_or-append s more 0 (at + i) (omega arith))
      (leb-same (at + 2) (length (s ++ more)) (at + 2) (length s) (λ l. room) (λ l. omega (arith, length-append s more)));
  put = λ t. claims.appended older_settings t 0 true false _ 10 refl;
  starts = converted-starts;
  twice = λ t. sym (yes _ (converted-starts t) refl);
}
