-- The claims of specs/Claims.antt hold.
use mathlib.Core.Path.{ap, ◌∙◌}
use mathlib.Core.Bool.{true, false}
use native.Mathlib.Omega.{arith}
use Prim.Native.Nat.{◌+◌, ◌-◌}
use Rattle.sides.specs.Sides.{place_of, side_read}
use Rattle.sides.specs.Claims.{Claims}
use Rattle.sides.proofs.Places.{length-read, length-written, written-other}
use Rattle.sides.proofs.Answers.{plain-answer, answer-inside}
use Rattle.sides.proofs.Words.{word-apart}
use Rattle.sides.proofs.Moves.{plain_moved, moved_at}

pub claims : Claims
claims = record {
  incrementing-answer = plain-answer;
  incrementing-moved = plain_moved;
  okay-inside = answer-inside;
  each-arrives = λ m reads w b k n i l inside. moved_at m reads (place_of false w b) k n i l (inside i l) (λ j a c e. omega arith);
  last-remains = λ m reads w b k n i some l last inside.
      moved_at m reads (place_of true w b) k n i l (inside i l)
      (λ j a c e. word-apart w b (k + i) (j - i) (omega arith) (omega arith) (ap (place_of true w b) (omega arith) ∙ e));
  others-stay = λ m reads writes k n x h.
      written-other writes m k (side_read m reads k n) x (λ i l. h i (omega (arith, length-read m reads k n)));
  length-stays = λ m reads writes k n. length-written writes m k (side_read m reads k n);
}
