-- What it takes for a step or a run not to be refused, and that a step keeps to it.
use mathlib.Core.Path.{◌≡◌, refl, sym, subst}
use Prim.Native.Nat.{ℕ, ◌≤◌}
use mathlib.Core.Bool.{Bool, true, false}
use native.Mathlib.Omega.{arith}
use lib.ListN.{length}
use lib.Dec.{ltb}
use borrow.Author.Tests.{le-ltb, ltb-false}
use Rattle.kit.specs.Choice.{when}
use Rattle.kit.specs.Limits.{most_memory, most_windows}
use Rattle.kit.specs.Settings.{legal_of}
use Rattle.kit.proofs.Choice.{yes, no}
use Rattle.kit.specs.declared.settings.Settings.{Settings}
use Rattle.state.specs.State.{well_formed_of}
use Rattle.runs.specs.Run.{refusal_of}
use Rattle.runs.specs.Claims.{Acceptable, AcceptableUnrefused, UnrefusedAcceptable, AdvanceAcceptable}
use Rattle.steps.proofs.Keeps.{advance-keeps, advance-well-formed}

pub acceptable-unrefused : AcceptableUnrefused
unfolding refusal_of
acceptable-unrefused s m windows a =
    sym (yes _ a.legal (no _ (le-ltb _ _ a.small) (no _ (le-ltb _ _ a.few) (yes _ a.well refl))))

pub unrefused-acceptable : UnrefusedAcceptable
unfolding refusal_of
unrefused-acceptable s m windows e bytes =
    go (legal_of s.settings) (ltb most_memory (length m)) (ltb most_windows windows) (well_formed_of s) refl refl refl refl e
  where
    go : (t u v w : Bool) → legal_of s.settings ≡ t → ltb most_memory (length m) ≡ u → ltb most_windows windows ≡ v
        → well_formed_of s ≡ w → ◌≡◌ {A = ℕ} (when t (when u 2 (when v 6 (when w 0 9))) 1) 0 → Acceptable s m windows
    go false u v w p q r x e = absurd (omega arith)
    go true true v w p q r x e = absurd (omega arith)
    go true false true w p q r x e = absurd (omega arith)
    go true false false false p q r x e = absurd (omega arith)
    go true false false true p q r x e =
        record { legal = p; small = ltb-false most_memory (length m) q; few = ltb-false most_windows windows r; well = x; bytes = bytes }

pub advance-acceptable : AdvanceAcceptable
advance-acceptable s m windows n a =
    let k = advance-keeps s m windows in
    record {
      legal = subst (λ (x : Settings). legal_of x ≡ true) (sym k.engine.settings) a.legal;
      small = subst (λ (x : ℕ). x ≤ most_memory) (sym k.length) a.small;
      few = a.few;
      well = advance-well-formed s m windows a.legal a.small a.bytes a.well;
      bytes = k.bytes a.bytes;
    }
