-- Bursts of a transfer in a row with a fixed side: as many bytes as are known to be good on both sides answer OKAY.
use mathlib.Core.Path.{◌≡◌, refl, sym, ap, ap₂, ◌∙◌}
use mathlib.Core.Logic.{◌⊎◌, inl, inr}
use Prim.Native.Nat.{ℕ, zero, suc, ◌+◌, ◌%◌, ◌≤◌, ◌<◌}
use mathlib.Core.Bool.{Bool, true, false}
use mathlib.Core.List.{List}
use native.Mathlib.Nat.{add-zero, mod-lt}
use native.Mathlib.Omega.{arith}
use lib.ListN.{length}
use lib.Dec.{ltb}
use borrow.Author.Tests.{ltb-false}
use Rattle.kit.specs.Choice.{when}
use Rattle.kit.specs.Limits.{most_bytes}
use Rattle.kit.specs.Settings.{legal_of}
use Rattle.kit.specs.declared.settings.Settings.{Settings}
use Rattle.kit.proofs.Choice.{cases, decide}
use Rattle.kit.proofs.Legal.{legal}
use Rattle.cut.specs.declared.Burst.{Burst}
use Rattle.memory.specs.declared.window.Window.{Window}
use Rattle.memory.specs.declared.verdict.Verdict.TheVariants.{Okay}
use Rattle.memory.specs.Good.{good_bytes}
use Rattle.memory.specs.Verdict.{worse, byte_of, group_of}
use Rattle.memory.proofs.GoodBytes.{good-less, good-okay}
use Rattle.memory.proofs.Verdicts.{worse-right-okay}
use Rattle.sides.specs.Sides.{place_of, side_answer}
use Rattle.sides.proofs.Claims.{claims}
use Rattle.sides.proofs.Places.{over}
use Rattle.state.specs.declared.engine.Transfer.{Transfer}
use Rattle.steps.specs.Step.{bytes_by, answer_by}
use Rattle.moves.specs.Moves.{moved_to}
use Rattle.moves.proofs.Gliding.{Gliding, Turn}
use Rattle.fixed.specs.Fixed.{good_side, good_sides}

module _ (size : ℕ) (windows : List Window) where
  -- bytes that answer OKAY each answer OKAY together
  all-okay : (place : ℕ → ℕ) (k n : ℕ) → ((i : ℕ) → i < n → Okay ≡ byte_of size windows (place (k + i))) → Okay ≡ side_answer size windows place k n
  unfolding side_answer
  all-okay place k zero h = refl
  all-okay place k (suc n) h =
      ap₂ worse (h 0 (omega arith) ∙ ap (λ (x : ℕ). byte_of size windows (place x)) (add-zero k))
      (all-okay place (suc k) n (λ i l. h (suc i) (omega (arith, l)) ∙ ap (λ (x : ℕ). byte_of size windows (place x)) (sym (over k i))))

  -- a byte of the good ones
  good-byte : (a b : ℕ) → a ≤ b → b < a + good_bytes size windows a → Okay ≡ byte_of size windows b
  unfolding group_of
  good-byte a b from to = good-okay size windows a b 1 from (omega (arith, to)) (omega arith) ∙ worse-right-okay (byte_of size windows b)

  pub side-small : (w : ℕ) (fixed : Bool) (a k : ℕ) → good_side size windows w fixed a k ≤ size + most_bytes
  side-small w true a k = cases (λ (n : ℕ). n ≤ size + most_bytes) (ltb (good_bytes size windows a) w) (λ _. omega arith) (λ _. omega arith)
  side-small w false a k = omega (arith, good-less size windows (a + k))

  module _ (w : ℕ) (some : 0 < w) (a k₀ k n : ℕ) (bytes : 0 < n) (from : k₀ ≤ k) where
    word-okay : (ltb (good_bytes size windows a) w ≡ true) ⊎ (ltb (good_bytes size windows a) w ≡ false)
        → k + n ≤ k₀ + when (ltb (good_bytes size windows a) w) 0 most_bytes → Okay ≡ side_answer size windows (place_of true w a) k n
    word-okay (inl e) h = absurd (omega (arith, h, ap (λ (t : Bool). when {A = ℕ} t 0 most_bytes) e, bytes, from))
    word-okay (inr e) h =
        all-okay (place_of true w a) k n
        (λ i _. good-byte a (a + (k + i) % w) (omega arith) (omega (arith, ltb-false (good_bytes size windows a) w e, mod-lt (k + i) some)))

    pub side-okay : (fixed : Bool) → k + n ≤ k₀ + good_side size windows w fixed a k₀ → Okay ≡ side_answer size windows (place_of fixed w a) k n
    side-okay true h = word-okay (decide (ltb (good_bytes size windows a) w)) h
    side-okay false h =
        good-okay size windows (a + k₀) (a + k) n (omega (arith, from)) (omega (arith, h)) bytes ∙ sym (claims.incrementing-answer size windows w a k n)

-- on both sides of a transfer
pub sides-okay : (settings : Settings) (reads writes : Bool) (t : Transfer) (windows : List Window) (size : ℕ) → legal_of settings ≡ true
    → {moved n : ℕ} → t.moved ≤ moved → 0 < n → moved + n ≤ t.moved + good_sides size windows settings.width reads writes t
    → Okay ≡ answer_by settings reads writes (moved_to t moved) size windows n
sides-okay settings reads writes t windows size legals {moved} {n} from some within =
    let w = (legal settings.width settings.beats legals).width_positive in
    ap₂ worse
    (side-okay size windows settings.width w t.source t.moved moved n some from reads (omega (arith, within)))
    (side-okay size windows settings.width w t.destination t.moved moved n some from writes (omega (arith, within)))

-- and the next burst may be moved
pub good_turn : (settings : Settings) (reads writes : Bool) (t : Transfer) (windows : List Window) (m₀ : List ℕ) → legal_of settings ≡ true
    → {m : List ℕ} {moved : ℕ} {last : Burst} {steps : ℕ} → Gliding settings reads writes t windows m₀ m moved last steps → {n : ℕ} → 0 < n
    → n ≡ bytes_by settings writes (moved_to t moved) → moved + n ≤ t.moved + good_sides (length m₀) windows settings.width reads writes t
    → Turn settings reads writes t windows m₀ m moved n
good_turn settings reads writes t windows m₀ legals {moved = moved} g {n} some e within = record {
  bytes = e;
  okay = sides-okay settings reads writes t windows (length m₀) legals g.from some within
      ∙ ap (λ (k : ℕ). answer_by settings reads writes (moved_to t moved) k windows n) (sym g.size);
}
