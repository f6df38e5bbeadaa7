-- `sets`, a run of stores: one behind another is one of both.
use mathlib.Core.Path.{◌≡◌, sym, ap, ◌∙◌}
use mathlib.Core.List.{List, [], ◌∷◌, ◌++◌, append_assoc}
use Prim.Native.Nat.{ℕ, suc, ◌+◌, ◌≤◌}
use native.Mathlib.Nat.{add-zero, add-suc, suc-add}
use native.Mathlib.Omega.{arith}
use lib.ListN.{length, set, take, drop}
use lib.Seq.{sets}
use borrow.Rule.Slice.PartMut.{put_mid}
use Rattle.std.proofs.lemmas.List.{drop-drop}
use Rattle.std.proofs.lemmas.List.Edits.{sets-eq}

module _ {ℓ} {A : Type ℓ} where
  pub sets-append : (m : List A) (i : ℕ) (us vs : List A) → sets m i (us ++ vs) ≡ sets (sets m i us) (i + length us) vs
  sets-append m i [] vs = ap (λ (k : ℕ). sets m k vs) (sym (add-zero i))
  sets-append m i (u ∷ us) vs =
      sets-append (set m i u) (suc i) us vs
      ∙ ap (λ (k : ℕ). sets (sets (set m i u) (suc i) us) k vs) (suc-add i (length us) ∙ sym (add-suc i (length us)))

-- what is put in the place of k elements from i on, k long itself, is stored there
pub part-sets : {A : Type 0} (m vs : List A) (i k : ℕ) → k ≡ length vs → i + k ≤ length m → put_mid i k m vs ≡ sets m i vs
part-sets m vs i k e h =
    ap (λ (rest : List _). take i m ++ (vs ++ rest)) (drop-drop k i m ∙ ap (λ (n : ℕ). drop (i + n) m) e) ∙ sym (append_assoc (take i m) vs (drop (i + length vs) m)) ∙ sym (sets-eq vs m i (omega arith))
