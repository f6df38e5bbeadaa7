-- A step, a run and a look-up over all windows are those over the windows that a table takes: where some are left out, they are refused.
use mathlib.Core.Path.{◌≡◌, refl, sym, ap, ap₂, ◌∙◌}
use mathlib.Core.Bool.{Bool, true, false}
use mathlib.Core.List.{List, [], ◌∷◌}
use mathlib.Core.Logic.{◌⊎◌, inl, inr}
use Prim.Native.Nat.{ℕ, ◌/◌, ◌<◌}
use native.Mathlib.Omega.{arith}
use lib.Dec.{ltb}
use lib.ListN.{length, take}
use lib.Seq.{take_all, length-take-le}
use borrow.Author.Tests.{lt-ltb, ltb-true, ltb-false, ne_eqb}
use Rattle.kit.specs.Choice.{when}
use Rattle.kit.specs.Limits.{most_memory, most_windows}
use Rattle.kit.specs.Settings.{legal_of}
use Rattle.kit.proofs.Choice.{yes, no, decide}
use Rattle.memory.specs.declared.window.Window.{Window}
use Rattle.memory.specs.Windows.{windows_of}
use Rattle.state.specs.declared.engine.Engine.{Engine}
use Rattle.state.specs.State.{well_formed_of}
use Rattle.steps.specs.Step.{begun, advance_of}
use Rattle.places.specs.Locate.{told_alone, location_of, located_of}
use Rattle.runs.specs.Run.{refusal_of, walk_from, step_answer, step_of, run_answer, run_of}
use Rattle.windows.specs.Flat.{flat_of}
use Rattle.windows.specs.Table.{most}
use Rattle.windows.proofs.Copies.{flat-length}

-- ---- the flat list and the windows say the same

pub windows-flat : (ws : List Window) → windows_of (flat_of ws) ≡ ws
windows-flat [] = refl
windows-flat (w ∷ ws) = ap (λ (more : List Window). w ∷ more) (windows-flat ws)

flat-half : (ws : List Window) → length (flat_of ws) / 2 ≡ length ws
flat-half ws = let h = flat-length ws in omega arith

-- ---- too many windows

-- past the limit a refusal does not ask how many there are, and is none of 0
module _ (s : Engine) (size : ℕ) {m n : ℕ} (hm : most_windows < m) (hn : most_windows < n) where
  refusal-many : refusal_of s size m ≡ refusal_of s size n
  unfolding refusal_of
  refusal-many =
      ap (λ (t : Bool). when (legal_of s.settings) (when (ltb most_memory size) 2 (when t 6 (when (well_formed_of s) 0 9))) 1)
      (lt-ltb most_windows m hm ∙ sym (lt-ltb most_windows n hn))

refusal-some : (s : Engine) (size : ℕ) {m : ℕ} → most_windows < m → refusal_of s size m ≡ 0 → ⊥
unfolding refusal_of
refusal-some s size {m} h e =
    go (legal_of s.settings) (ltb most_memory size) (ltb most_windows m) (lt-ltb most_windows m h) e
  where
    go : (t u v : Bool) → v ≡ true → ◌≡◌ {A = ℕ} (when t (when u 2 (when v 6 (when (well_formed_of s) 0 9))) 1) 0 → ⊥
    go false u v p e = omega arith
    go true true v p e = omega arith
    go true false v p e = let z : ◌≡◌ {A = ℕ} 6 0 = ap (λ (x : Bool). when x 6 (when (well_formed_of s) 0 9)) (sym p) ∙ e in omega arith

-- ---- a step and a run

module _ (s : Engine) (m ns ks : List ℕ) (hn : most_windows < length ns / 2) (hk : most_windows < length ks / 2) where
  step-many : step_of s m ns ≡ step_of s m ks
  unfolding step_of
  step-many =
      ap₂ step_answer (refusal-many s (length m) hn hk)
      (sym (no (advance_of s m (windows_of ns)) (ne_eqb (refusal_of s (length m) (length ns / 2)) 0 (refusal-some s (length m) hn)) refl)
      ∙ no (advance_of s m (windows_of ks)) (ne_eqb (refusal_of s (length m) (length ks / 2)) 0 (refusal-some s (length m) hk)) refl)

  run-many : (steps : ℕ) → run_of steps s m ns ≡ run_of steps s m ks
  unfolding run_of
  run-many steps =
      ap₂ run_answer (refusal-many s (length m) hn hk)
      (sym (no (walk_from steps 0 (begun s m) (windows_of ns)) (ne_eqb (refusal_of s (length m) (length ns / 2)) 0 (refusal-some s (length m) hn)) refl)
      ∙ no (walk_from steps 0 (begun s m) (windows_of ks)) (ne_eqb (refusal_of s (length m) (length ks / 2)) 0 (refusal-some s (length m) hk)) refl)

-- ---- a look-up

locate-many : (size a n : ℕ) (ns ks : List ℕ) → most_windows < length ns / 2 → most_windows < length ks / 2 → located_of size ns a n ≡ located_of size ks a n
unfolding located_of
locate-many size a n ns ks hn hk =
    ap (when (ltb most_memory size) (told_alone 2))
    (sym (yes (location_of size (windows_of ns) a n) (lt-ltb most_windows (length ns / 2) hn) refl) ∙ yes (location_of size (windows_of ks) a n) (lt-ltb most_windows (length ks / 2) hk) refl)

-- ---- all windows and the first

module _ (ws : List Window) where
  few : ltb most_windows (length ws) ≡ false → flat_of (take most ws) ≡ flat_of ws
  few e = ap flat_of (take_all most ws (omega (arith, ltb-false most_windows (length ws) e)))

  many : ltb most_windows (length ws) ≡ true → (most_windows < length (flat_of (take most ws)) / 2) × (most_windows < length (flat_of ws) / 2)
  many e =
      let long : most_windows < length ws = ltb-true most_windows (length ws) e in
      (omega (arith, flat-half (take most ws), length-take-le most ws (omega arith)), omega (arith, flat-half ws))

  -- of whatever does not ask how many windows there are past the limit
  fewer : {R : Type 0} (f : List ℕ → R) → ((ns ks : List ℕ) → most_windows < length ns / 2 → most_windows < length ks / 2 → f ns ≡ f ks) → f (flat_of (take most ws)) ≡ f (flat_of ws)
  fewer f same = go (decide (ltb most_windows (length ws)))
    where
      go : (ltb most_windows (length ws) ≡ true) ⊎ (ltb most_windows (length ws) ≡ false) → f (flat_of (take most ws)) ≡ f (flat_of ws)
      go (inl e) = same (flat_of (take most ws)) (flat_of ws) (many e).0 (many e).1
      go (inr e) = ap f (few e)

  pub step_fewer : (s : Engine) (m : List ℕ) → step_of s m (flat_of (take most ws)) ≡ step_of s m (flat_of ws)
  step_fewer s m = fewer (step_of s m) (step-many s m)

  pub run-fewer : (steps : ℕ) (s : Engine) (m : List ℕ) → run_of steps s m (flat_of (take most ws)) ≡ run_of steps s m (flat_of ws)
  run-fewer steps s m = fewer (run_of steps s m) (λ ns ks hn hk. run-many s m ns ks hn hk steps)

  pub locate-fewer : (size a n : ℕ) → located_of size (flat_of (take most ws)) a n ≡ located_of size (flat_of ws) a n
  locate-fewer size a n = fewer (λ (ns : List ℕ). located_of size ns a n) (locate-many size a n)
