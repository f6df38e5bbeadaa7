-- Words that are found to move are those of a well-formed engine in the midst of the transfer that they spell.
use mathlib.Core.Path.{◌≡◌, sym, ap, ◌∙◌}
use Prim.Native.Nat.{ℕ}
use mathlib.Core.Bool.{true, ◌&&◌}
use mathlib.Core.List.{List}
use lib.ListN.{set}
use lib.Dec.{eqb, leb}
use borrow.Author.Tests.{eqb-true}
use Rattle.kit.specs.Choice.{when}
use Rattle.kit.specs.Limits.{most_bytes}
use Rattle.state.specs.declared.engine.Phase.{Phase}
use Rattle.state.specs.declared.engine.Phase.TheVariants.{Move}
use Rattle.state.specs.State.{phase_fits, transfer_fits, well_formed_of, with_phase}
use Rattle.state.proofs.WellFormed.{parts}
use Rattle.words.specs.EngineWords.{word, words_of, phase_from, transfer_from, engine_from, engine_of}
use Rattle.spelling.specs.Spelling.{whole_of, truths_of, aligned_of, fits_of, bit_listed_of, phase_listed_of, still_of, phase_sound_of, sound_of, settled_of, moves_of}
use Rattle.spelling.proofs.Listed.{apart, join, same_truth, kept, sound-spelled}
use Rattle.spelling.proofs.Engines.{sound-engine}

-- where the phase is a move, the tests of a phase are these two
moving-tests : (w : List ℕ) → word w 15 ≡ 2 → phase_sound_of w ≡ (eqb (word w 5) 0 && fits_of w)
moving-tests w two =
    ap (λ (n : ℕ). when (eqb n 0) (bit_listed_of (word w 5) && still_of w) (when (eqb n 2) (eqb (word w 5) 0 && fits_of w) (phase_listed_of n && eqb (word w 5) 0 && eqb (word w 2) 1 && still_of w))) two

moves-sound : (w : List ℕ) → moves_of w ≡ true → (sound_of w ≡ true) × (eqb (word w 15) 2 ≡ true)
moves-sound w e =
    let all = apart (whole_of w && truths_of w && aligned_of w && settled_of w) (fits_of w) e in
    let settled = apart (whole_of w && truths_of w && aligned_of w) (settled_of w) all.0 in
    let phase = apart (eqb (word w 5) 0 && leb (word w 14) most_bytes) (eqb (word w 15) 2) settled.1 in
    let count = apart (eqb (word w 5) 0) (leb (word w 14) most_bytes) phase.0 in
    let moves = moving-tests w (eqb-true (word w 15) 2 phase.1) ∙ join count.0 all.1 in
    (join (join settled.0 count.1) moves, phase.1)

sound-moves : (w : List ℕ) → sound_of w ≡ true → eqb (word w 15) 2 ≡ true → moves_of w ≡ true
sound-moves w e two =
    let all = apart (whole_of w && truths_of w && aligned_of w && leb (word w 14) most_bytes) (phase_sound_of w) e in
    let count = apart (whole_of w && truths_of w && aligned_of w) (leb (word w 14) most_bytes) all.0 in
    let moves = apart (eqb (word w 5) 0) (fits_of w) (sym (moving-tests w (eqb-true (word w 15) 2 two)) ∙ all.1) in
    join (join count.0 (join (join moves.0 count.1) two)) moves.1

-- words move if they are sound and the phase is a move, and only then
pub moves-told : (w : List ℕ) → moves_of w ≡ (sound_of w && eqb (word w 15) 2)
moves-told w =
    same_truth (moves_of w) (sound_of w && eqb (word w 15) 2) (λ e. let s = moves-sound w e in join s.0 s.1)
    (λ e. let s = apart (sound_of w) (eqb (word w 15) 2) e in sound-moves w s.0 s.1)

pub record Midst (w : List ℕ) : Type 0 where
  pub held : engine_of w ≡ engine_from w
  pub words : words_of (engine_from w) ≡ w
  pub phase : (engine_from w).phase ≡ Move (transfer_from w)
  pub fits : transfer_fits (transfer_from w) ≡ true
  pub well-formed : well_formed_of (engine_from w) ≡ true

pub midst : (w : List ℕ) → moves_of w ≡ true → Midst w
unfolding phase_from
midst w e =
    let sound = moves-sound w e in
    let spelled = sound-spelled w sound.0 in
    let moving = ap (λ (n : ℕ). phase_from n (transfer_from w)) (eqb-true (word w 15) 2 sound.1) in
    record {
      held = sound-engine w sound.0;
      words = kept w spelled.0;
      phase = moving;
      fits = sym (ap (λ (p : Phase). phase_fits p (engine_from w).control.sgmode) moving) ∙ (parts (engine_from w) spelled.1).phase;
      well-formed = spelled.1;
    }

-- the same engine with other bytes moved has the same words but the one that tells them
pub moved-words : (w : List ℕ) → Midst w → (n : ℕ)
    → set w 19 n ≡ words_of (with_phase (engine_from w) (Move (record { source = word w 16; destination = word w 17; total = word w 18; moved = n })))
moved-words w m n =
    ap (λ (l : List ℕ). set l 19 n) (sym m.words) ∙ ap (λ (p : Phase). set (words_of (with_phase (engine_from w) p)) 19 n) m.phase
