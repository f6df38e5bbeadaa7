-- Words that are found spelled are those of the engine that they spell, and words that are found sound are those of a well-formed one.
use mathlib.Core.Path.{◌≡◌, refl, sym, ap, subst, ◌∙◌}
use Prim.Native.Nat.{ℕ, zero, suc, ◌%◌, ◌<◌}
use mathlib.Core.Bool.{Bool, true, false, ◌&&◌, ◌||◌, not}
use mathlib.Core.List.{List, [], ◌∷◌}
use mathlib.Core.Logic.{◌⊎◌, inl, inr}
use native.Mathlib.Omega.{arith}
use lib.ListN.{length}
use lib.Dec.{eqb, ltb, leb}
use borrow.Author.Tests.{ltb-true, eqb-true}
use Rattle.kit.specs.Choice.{when, both}
use Rattle.kit.specs.Limits.{most_bytes}
use Rattle.kit.proofs.Choice.{decide, never}
use Rattle.state.specs.declared.engine.Engine.{Engine}
use Rattle.state.specs.declared.engine.ErrorBit.{ErrorBit}
use Rattle.state.specs.declared.engine.ErrorBit.TheVariants.{Clear, DmaIntErr, DmaSlvErr, DmaDecErr, SgIntErr, SgSlvErr, SgDecErr}
use Rattle.state.specs.declared.engine.Outcome.TheVariants.{Complete, Internal, Slave, Decode}
use Rattle.state.specs.declared.engine.Phase.{Phase}
use Rattle.state.specs.declared.engine.Phase.TheVariants.{Idle, Fetch, Move, Update}
use Rattle.state.specs.declared.engine.Transfer.{Transfer}
use Rattle.state.specs.State.{error_set_of, busy_of, aligned, transfer_fits, phase_fits, well_formed_of, with_phase}
use Rattle.state.specs.Bits.{error_bit_of}
use Rattle.state.proofs.WellFormed.{joined, parts, not-both}
use Rattle.words.specs.EngineWords.{word, truth, phase_number_of, none, moving_of, words_of, error_bit_from, phase_from, pointers_from, transfer_from, engine_from, same_words}
use Rattle.spelling.specs.Spelling.{whole_of, truths_of, bit_listed_of, phase_listed_of, still_of, spelled_of, aligned_of, inside_of, fits_of, phase_sound_of, sound_of}
use Rattle.words.proofs.Same.{same-equal, same-itself}
use Rattle.words.proofs.Written.{listed, listed-drop}

-- ---- tests joined

pub apart : (t u : Bool) → (t && u) ≡ true → (t ≡ true) × (u ≡ true)
apart true u e = (refl, e)
apart false u e = absurd (never e)

pub join : {t u : Bool} → t ≡ true → u ≡ true → (t && u) ≡ true
join {t} {u} e f = subst (λ (b : Bool). (b && u) ≡ true) (sym e) f

or_left : {t : Bool} (u : Bool) → t ≡ true → (t || u) ≡ true
or_left u e = ap (λ (b : Bool). b || u) e

or_right : (t : Bool) {u : Bool} → u ≡ true → (t || u) ≡ true
or_right true e = refl
or_right false e = e

-- two tests that imply each other are one
pub same_truth : (t u : Bool) → (t ≡ true → u ≡ true) → (u ≡ true → t ≡ true) → t ≡ u
same_truth true u f g = sym (f refl)
same_truth false true f g = g refl
same_truth false false f g = refl

chosen : (t a b : Bool) → when t a b ≡ true → t ≡ true → a ≡ true
chosen t a b e h = subst (λ (s : Bool). when s a b ≡ true) h e

passed_over : (t a b : Bool) → when t a b ≡ true → t ≡ false → b ≡ true
passed_over t a b e h = subst (λ (s : Bool). when s a b ≡ true) h e

-- four tests as the words have them and as the state has them
four : (t u v x : Bool) → (t && u && v && x) ≡ both t (both u (both v x))
four true true true x = refl
four true true false x = refl
four true false v x = refl
four false u v x = refl

-- what holds of each number of a list holds of a number that is found on it
first : (P : ℕ → Type 0) (n a : ℕ) → P a → eqb n a ≡ true → P n
first P n a p e = subst P (sym (eqb-true n a e)) p

more : (P : ℕ → Type 0) (n a : ℕ) {t : Bool} → (t ≡ true → P n) → P a → (t || eqb n a) ≡ true → P n
more P n a {t = true} f p e = f refl
more P n a {t = false} f p e = first P n a p e

bits : (P : ℕ → Type 0) (n : ℕ) → P 0 → P 4 → P 5 → P 6 → P 8 → P 9 → P 10 → bit_listed_of n ≡ true → P n
bits P n a b c d e f g = more P n 10 (more P n 9 (more P n 8 (more P n 6 (more P n 5 (more P n 4 (first P n 0 a) b) c) d) e) f) g

phases : (P : ℕ → Type 0) (n : ℕ) → P 0 → P 1 → P 2 → P 28 → P 29 → P 30 → P 31 → phase_listed_of n ≡ true → P n
phases P n a b c d e f g = more P n 31 (more P n 30 (more P n 29 (more P n 28 (more P n 2 (more P n 1 (first P n 0 a) b) c) d) e) f) g

-- ---- spelled

truth-kept : (x : ℕ) → ltb x 2 ≡ true → truth (eqb x 1) ≡ x
truth-kept x e = go x (ltb-true x 2 e)
  where
    go : (x : ℕ) → x < 2 → truth (eqb x 1) ≡ x
    go zero h = refl
    go (suc zero) h = refl
    go (suc (suc x)) h = omega arith

bit_kept : (n : ℕ) → bit_listed_of n ≡ true → error_bit_of (error_bit_from n) ≡ n
unfolding error_bit_from
bit_kept n = bits (λ (k : ℕ). error_bit_of (error_bit_from k) ≡ k) n refl refl refl refl refl refl refl

phase-kept : (n : ℕ) (t : Transfer) → phase_listed_of n ≡ true → phase_number_of (phase_from n t) ≡ n
unfolding phase_from
phase-kept n t = phases (λ (k : ℕ). phase_number_of (phase_from k t) ≡ k) n refl refl refl refl refl refl refl

still-none : (w : List ℕ) → still_of w ≡ true → transfer_from w ≡ none
still-none w e =
    let d = apart _ (eqb (word w 19) 0) e in
    let c = apart _ (eqb (word w 18) 0) d.0 in
    let b = apart (eqb (word w 16) 0) (eqb (word w 17) 0) c.0 in
    let source = eqb-true (word w 16) 0 b.0 in
    let destination = eqb-true (word w 17) 0 b.1 in
    let total = eqb-true (word w 18) 0 c.1 in
    let moved = eqb-true (word w 19) 0 d.1 in
    λ i. record { source = source i; destination = destination i; total = total i; moved = moved i }

transfer-kept : (w : List ℕ) (n : ℕ) → phase_listed_of n ≡ true → (eqb n 2 || still_of w) ≡ true → moving_of (phase_from n (transfer_from w)) ≡ transfer_from w
unfolding phase_from
transfer-kept w n l e = go (decide (eqb n 2))
  where
    go : (eqb n 2 ≡ true) ⊎ (eqb n 2 ≡ false) → moving_of (phase_from n (transfer_from w)) ≡ transfer_from w
    go (inl two) = ap (λ (k : ℕ). moving_of (phase_from k (transfer_from w))) (eqb-true n 2 two)
    go (inr other) =
        let still = subst (λ (t : Bool). (t || still_of w) ≡ true) other e in
        subst (λ (t : Transfer). moving_of (phase_from n t) ≡ t) (sym (still-none w still))
        (phases (λ (k : ℕ). moving_of (phase_from k none) ≡ none) n refl refl refl refl refl refl refl l)

-- what is tested, by name
record Tested (w : List ℕ) : Type 0 where
  whole : length w ≡ 22
  sgmode : ltb (word w 2) 2 ≡ true
  iocen : ltb (word w 3) 2 ≡ true
  erren : ltb (word w 4) 2 ≡ true
  ioc : ltb (word w 6) 2 ≡ true
  err : ltb (word w 7) 2 ≡ true
  keyholeread : ltb (word w 20) 2 ≡ true
  keyholewrite : ltb (word w 21) 2 ≡ true

tested : (w : List ℕ) → (whole_of w && truths_of w) ≡ true → Tested w
tested w e =
    let truths = apart (whole_of w) (truths_of w) e in
    let t21 = apart _ (ltb (word w 21) 2) truths.1 in
    let t20 = apart _ (ltb (word w 20) 2) t21.0 in
    let t7 = apart _ (ltb (word w 7) 2) t20.0 in
    let t6 = apart _ (ltb (word w 6) 2) t7.0 in
    let t4 = apart _ (ltb (word w 4) 2) t6.0 in
    let t3 = apart (ltb (word w 2) 2) (ltb (word w 3) 2) t4.0 in
    record {
      whole = eqb-true (length w) 22 truths.0;
      sgmode = t3.0;
      iocen = t3.1;
      erren = t4.1;
      ioc = t6.1;
      err = t7.1;
      keyholeread = t20.1;
      keyholewrite = t21.1;
    }

-- words that are spelled are those of the engine that they spell
pub kept : (w : List ℕ) → spelled_of w ≡ true → words_of (engine_from w) ≡ w
unfolding listed
kept w e =
    let rest = apart (whole_of w && truths_of w && bit_listed_of (word w 5) && phase_listed_of (word w 15)) (eqb (word w 15) 2 || still_of w) e in
    let phase = apart (whole_of w && truths_of w && bit_listed_of (word w 5)) (phase_listed_of (word w 15)) rest.0 in
    let bit = apart (whole_of w && truths_of w) (bit_listed_of (word w 5)) phase.0 in
    let tests = tested w bit.0 in
    let number = phase-kept (word w 15) (transfer_from w) phase.1 in
    let transfer = transfer-kept w (word w 15) phase.1 rest.1 in
    (λ i.
    word w 0 ∷ word w 1
    ∷ truth-kept (word w 2) tests.sgmode i ∷ truth-kept (word w 3) tests.iocen i ∷ truth-kept (word w 4) tests.erren i
    ∷ bit_kept (word w 5) bit.1 i ∷ truth-kept (word w 6) tests.ioc i ∷ truth-kept (word w 7) tests.err i
    ∷ word w 8 ∷ word w 9 ∷ word w 10 ∷ word w 11 ∷ word w 12 ∷ word w 13 ∷ word w 14
    ∷ number i ∷ (transfer i).source ∷ (transfer i).destination ∷ (transfer i).total ∷ (transfer i).moved
    ∷ truth-kept (word w 20) tests.keyholeread i ∷ truth-kept (word w 21) tests.keyholewrite i
    ∷ [])
    ∙ sym (listed-drop w 22 0 (sym tests.whole))

truth-small : (b : Bool) → ltb (truth b) 2 ≡ true
truth-small true = refl
truth-small false = refl

bit-listed : (b : ErrorBit) → bit_listed_of (error_bit_of b) ≡ true
bit-listed Clear = refl
bit-listed DmaIntErr = refl
bit-listed DmaSlvErr = refl
bit-listed DmaDecErr = refl
bit-listed SgIntErr = refl
bit-listed SgSlvErr = refl
bit-listed SgDecErr = refl

-- an engine's words have a phase's number, and no transfer unless they move
phase-spelled : (s : Engine) (p : Phase) → let w = words_of (with_phase s p) in (phase_listed_of (word w 15) ≡ true) × ((eqb (word w 15) 2 || still_of w) ≡ true)
phase-spelled s Idle = (refl, refl)
phase-spelled s Fetch = (refl, refl)
phase-spelled s (Move t) = (refl, refl)
phase-spelled s (Update Complete) = (refl, refl)
phase-spelled s (Update Internal) = (refl, refl)
phase-spelled s (Update Slave) = (refl, refl)
phase-spelled s (Update Decode) = (refl, refl)

truths-spelled : (s : Engine) → truths_of (words_of s) ≡ true
truths-spelled s =
    join (join (join (join (join (join (truth-small s.control.sgmode) (truth-small s.control.iocen)) (truth-small s.control.erren)) (truth-small s.status.ioc)) (truth-small s.status.err))
    (truth-small s.control.keyholeread)) (truth-small s.control.keyholewrite)

-- an engine's words are spelled
spelled-words : (s : Engine) → spelled_of (words_of s) ≡ true
spelled-words s =
    let phase = phase-spelled s s.phase in
    join (join (join (truths-spelled s) (bit-listed s.status.fault)) phase.0) phase.1

-- the test is: the words of the engine that they spell are the same
pub spelled_same : (w : List ℕ) → spelled_of w ≡ same_words w (words_of (engine_from w))
spelled_same w =
    same_truth (spelled_of w) (same_words w (words_of (engine_from w)))
    (λ e. ap (λ (l : List ℕ). same_words w l) (kept w e) ∙ same-itself w)
    (λ e. subst (λ (l : List ℕ). spelled_of l ≡ true) (sym (same-equal w (words_of (engine_from w)) e)) (spelled-words (engine_from w)))

-- ---- sound

fits-transfer : (w : List ℕ) → fits_of w ≡ transfer_fits (transfer_from w)
fits-transfer w = four (ltb (word w 19) (word w 18)) (leb (word w 18) most_bytes) (inside_of (word w 16) (word w 19)) (inside_of (word w 17) (word w 19))

aligned-pointers : (w : List ℕ) → aligned_of w ≡ aligned (pointers_from w)
aligned-pointers w = four (eqb (word w 8 % 64) 0) (eqb (word w 9 % 64) 0) (eqb (word w 10 % 64) 0) (eqb (word w 11 % 64) 0)

clear-bit : (n : ℕ) → n ≡ 0 → error_bit_from n ≡ Clear
unfolding error_bit_from
clear-bit n e = ap (λ (k : ℕ). error_bit_from k) e

-- what the tests of a phase say: the words are spelled, and the engine's error bit and phase are in order
record PhaseSound (w : List ℕ) : Type 0 where
  bit : bit_listed_of (word w 5) ≡ true
  phase : phase_listed_of (word w 15) ≡ true
  rest : (eqb (word w 15) 2 || still_of w) ≡ true
  error : not (both (error_set_of (error_bit_from (word w 5))) (busy_of (engine_from w).phase)) ≡ true
  fits : phase_fits (engine_from w).phase (engine_from w).control.sgmode ≡ true

module _ (w : List ℕ) where
  no-error : (p : Phase) → word w 5 ≡ 0 → not (both (error_set_of (error_bit_from (word w 5))) (busy_of p)) ≡ true
  no-error p z = ap (λ (b : ErrorBit). not (both (error_set_of b) (busy_of p))) (clear-bit (word w 5) z)

  idle-sound : word w 15 ≡ 0 → (bit_listed_of (word w 5) && still_of w) ≡ true → PhaseSound w
  unfolding phase_from
  idle-sound z e =
      let both = apart (bit_listed_of (word w 5)) (still_of w) e in
      let idle : (engine_from w).phase ≡ Idle = ap (λ (k : ℕ). phase_from k (transfer_from w)) z in
      record {
        bit = both.0;
        phase = ap phase_listed_of z;
        rest = or_right (eqb (word w 15) 2) both.1;
        error = not-both (error_set_of (error_bit_from (word w 5))) (busy_of (engine_from w).phase) (λ _. ap busy_of idle);
        fits = ap (λ (p : Phase). phase_fits p (engine_from w).control.sgmode) idle;
      }

  move-sound : word w 15 ≡ 2 → (eqb (word w 5) 0 && fits_of w) ≡ true → PhaseSound w
  unfolding phase_from
  move-sound two e =
      let both = apart (eqb (word w 5) 0) (fits_of w) e in
      let zero = eqb-true (word w 5) 0 both.0 in
      let moving : (engine_from w).phase ≡ Move (transfer_from w) = ap (λ (k : ℕ). phase_from k (transfer_from w)) two in
      record {
        bit = ap bit_listed_of zero;
        phase = ap phase_listed_of two;
        rest = or_left (still_of w) (ap (λ (k : ℕ). eqb k 2) two);
        error = no-error (engine_from w).phase zero;
        fits = ap (λ (p : Phase). phase_fits p (engine_from w).control.sgmode) moving ∙ sym (fits-transfer w) ∙ both.1;
      }

  chain-sound : eqb (word w 15) 2 ≡ false → (phase_listed_of (word w 15) && eqb (word w 5) 0 && eqb (word w 2) 1 && still_of w) ≡ true → PhaseSound w
  unfolding phase_from
  chain-sound other e =
      let still = apart (phase_listed_of (word w 15) && eqb (word w 5) 0 && eqb (word w 2) 1) (still_of w) e in
      let mode = apart (phase_listed_of (word w 15) && eqb (word w 5) 0) (eqb (word w 2) 1) still.0 in
      let clear = apart (phase_listed_of (word w 15)) (eqb (word w 5) 0) mode.0 in
      let zero = eqb-true (word w 5) 0 clear.1 in
      let fits =
      phases (λ (k : ℕ). eqb k 2 ≡ false → phase_fits (phase_from k (transfer_from w)) true ≡ true) (word w 15)
      (λ _. refl) (λ _. refl) (λ n. absurd (never (sym n))) (λ _. refl) (λ _. refl) (λ _. refl) (λ _. refl) clear.0 other in
      record {
        bit = ap bit_listed_of zero;
        phase = clear.0;
        rest = or_right (eqb (word w 15) 2) still.1;
        error = no-error (engine_from w).phase zero;
        fits = ap (λ (t : Bool). phase_fits (engine_from w).phase t) mode.1 ∙ fits;
      }

  abbrev last : Bool
  last = phase_listed_of (word w 15) && eqb (word w 5) 0 && eqb (word w 2) 1 && still_of w

  abbrev later : Bool
  later = when (eqb (word w 15) 2) (eqb (word w 5) 0 && fits_of w) last

  phase-sound : phase_sound_of w ≡ true → PhaseSound w
  phase-sound e = go (decide (eqb (word w 15) 0)) (decide (eqb (word w 15) 2))
    where
      go : (eqb (word w 15) 0 ≡ true) ⊎ (eqb (word w 15) 0 ≡ false) → (eqb (word w 15) 2 ≡ true) ⊎ (eqb (word w 15) 2 ≡ false) → PhaseSound w
      go (inl z) _ = idle-sound (eqb-true (word w 15) 0 z) (chosen (eqb (word w 15) 0) (bit_listed_of (word w 5) && still_of w) later e z)
      go (inr z) (inl two) = move-sound (eqb-true (word w 15) 2 two) (chosen (eqb (word w 15) 2) (eqb (word w 5) 0 && fits_of w) last (passed_over (eqb (word w 15) 0) (bit_listed_of (word w 5) && still_of w) later e z) two)
      go (inr z) (inr other) =
          chain-sound other (passed_over (eqb (word w 15) 2) (eqb (word w 5) 0 && fits_of w) last (passed_over (eqb (word w 15) 0) (bit_listed_of (word w 5) && still_of w) later e z) other)

-- words that are sound are spelled, and by a well-formed engine
pub sound-spelled : (w : List ℕ) → sound_of w ≡ true → (spelled_of w ≡ true) × (well_formed_of (engine_from w) ≡ true)
sound-spelled w e =
    let all = apart (whole_of w && truths_of w && aligned_of w && leb (word w 14) most_bytes) (phase_sound_of w) e in
    let count = apart (whole_of w && truths_of w && aligned_of w) (leb (word w 14) most_bytes) all.0 in
    let pointers = apart (whole_of w && truths_of w) (aligned_of w) count.0 in
    let phase = phase-sound w all.1 in (
      join (join (join pointers.0 phase.bit) phase.phase) phase.rest,
      joined (engine_from w) (record {
        pointers = sym (aligned-pointers w) ∙ pointers.1;
        count = count.1;
        error = phase.error;
        phase = phase.fits;
      }),
    )

clear_zero : (b : ErrorBit) → not (both (error_set_of b) true) ≡ true → eqb (error_bit_of b) 0 ≡ true
clear_zero Clear e = refl
clear_zero DmaIntErr e = absurd (never e)
clear_zero DmaSlvErr e = absurd (never e)
clear_zero DmaDecErr e = absurd (never e)
clear_zero SgIntErr e = absurd (never e)
clear_zero SgSlvErr e = absurd (never e)
clear_zero SgDecErr e = absurd (never e)

chain-mode : (b : Bool) → b ≡ true → eqb (truth b) 1 ≡ true
chain-mode b e = ap (λ (t : Bool). eqb (truth t) 1) e

-- the words of a well-formed engine are sound
phase-words : (s : Engine) (p : Phase) → not (both (error_set_of s.status.fault) (busy_of p)) ≡ true → phase_fits p s.control.sgmode ≡ true
    → phase_sound_of (words_of (with_phase s p)) ≡ true
phase-words s Idle e f = join (bit-listed s.status.fault) refl
phase-words s Fetch e f = join (join (clear_zero s.status.fault e) (chain-mode s.control.sgmode f)) refl
phase-words s (Move t) e f = join (clear_zero s.status.fault e) (fits-transfer (words_of (with_phase s (Move t))) ∙ f)
phase-words s (Update Complete) e f = join (join (clear_zero s.status.fault e) (chain-mode s.control.sgmode f)) refl
phase-words s (Update Internal) e f = join (join (clear_zero s.status.fault e) (chain-mode s.control.sgmode f)) refl
phase-words s (Update Slave) e f = join (join (clear_zero s.status.fault e) (chain-mode s.control.sgmode f)) refl
phase-words s (Update Decode) e f = join (join (clear_zero s.status.fault e) (chain-mode s.control.sgmode f)) refl

pub sound-words : (s : Engine) → well_formed_of s ≡ true → sound_of (words_of s) ≡ true
sound-words s e =
    let p = parts s e in
    join (join (join (truths-spelled s) (aligned-pointers (words_of s) ∙ p.pointers)) p.count) (phase-words s s.phase p.error p.phase)
