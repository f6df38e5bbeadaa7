-- What legal settings give: the width and the beats are positive and small, and the width divides a page.
use mathlib.Core.Path.{◌≡◌, refl}
use Prim.Native.Nat.{ℕ, ◌%◌, ◌≤◌, ◌<◌}
use mathlib.Core.Bool.{Bool, true}
use lib.Dec.{eqb, ltb, leb}
use borrow.Author.Tests.{ltb-true, leb-true, eqb-true}
use Rattle.kit.specs.Settings.{widths, beat_counts, legal_width, legal_beats, legal_settings}
use Rattle.kit.proofs.Choice.{both_left, both_right}
use Rattle.kit.proofs.Lists.{among-each, each}

pub record Legal (w l : ℕ) : Type 0 where
  pub width_positive : 0 < w
  pub width_small : w ≤ 128
  pub width-pages : 4096 % w ≡ 0
  pub beats-positive : 0 < l
  pub beats-small : l ≤ 256

module _ (w l : ℕ) (e : legal_settings w l ≡ true) where
  width_has : (P : ℕ → Bool) → each P widths ≡ true → P w ≡ true
  unfolding legal_width
  width_has P a = among-each P w widths a (both_left (legal_width w) (legal_beats l) e)

  beats-has : (P : ℕ → Bool) → each P beat_counts ≡ true → P l ≡ true
  unfolding legal_beats
  beats-has P a = among-each P l beat_counts a (both_right (legal_width w) (legal_beats l) e)

  -- what holds of each width with each number of beats
  pub settings-have : (P : ℕ → ℕ → Bool) → each (λ l'. each (λ w'. P w' l') widths) beat_counts ≡ true → P w l ≡ true
  settings-have P a = width_has (λ w'. P w' l) (beats-has (λ l'. each (λ w'. P w' l') widths) a)

  pub legal : Legal w l
  legal = record {
    width_positive = ltb-true 0 w (width_has (λ x. ltb 0 x) refl);
    width_small = leb-true w 128 (width_has (λ x. leb x 128) refl);
    width-pages = eqb-true (4096 % w) 0 (width_has (λ x. eqb (4096 % x) 0) refl);
    beats-positive = ltb-true 0 l (beats-has (λ x. ltb 0 x) refl);
    beats-small = leb-true l 256 (beats-has (λ x. leb x 256) refl);
  }
