-- What is stored reads back as the same engine, and what reads back is what was stored or no engine.
use mathlib.Core.Path.{◌≡◌, refl, sym, ap, ◌∙◌}
use Prim.Native.Nat.{ℕ}
use mathlib.Core.Bool.{Bool, true, false}
use mathlib.Core.List.{List}
use mathlib.Core.Logic.{◌⊎◌, inl, inr}
use lib.Dec.{eqb}
use Rattle.kit.specs.Choice.{when}
use Rattle.kit.proofs.Choice.{yes}
use Rattle.state.specs.declared.engine.Engine.{Engine}
use Rattle.state.specs.declared.engine.ErrorBit.{ErrorBit}
use Rattle.state.specs.declared.engine.ErrorBit.TheVariants.{Clear, DmaIntErr, DmaSlvErr, DmaDecErr, SgIntErr, SgSlvErr, SgDecErr}
use Rattle.state.specs.declared.engine.Outcome.TheVariants.{Complete, Internal, Slave, Decode}
use Rattle.state.specs.declared.engine.Phase.{Phase}
use Rattle.state.specs.declared.engine.Phase.TheVariants.{Idle, Fetch, Move, Update}
use Rattle.state.specs.State.{well_formed_of}
use Rattle.state.specs.Bits.{error_bit_of}
use Rattle.words.specs.EngineWords.{truth, phase_number_of, moving_of, words_of, stepped_words_of, error_bit_from, phase_from, settings_from, engine_from, same_words, ill_formed_of, engine_of}
use Rattle.words.proofs.Same.{same-equal, same-itself}

truth-back : (b : Bool) → eqb (truth b) 1 ≡ b
truth-back true = refl
truth-back false = refl

bit-back : (b : ErrorBit) → error_bit_from (error_bit_of b) ≡ b
unfolding error_bit_from
bit-back Clear = refl
bit-back DmaIntErr = refl
bit-back DmaSlvErr = refl
bit-back DmaDecErr = refl
bit-back SgIntErr = refl
bit-back SgSlvErr = refl
bit-back SgDecErr = refl

phase-back : (p : Phase) → phase_from (phase_number_of p) (moving_of p) ≡ p
unfolding phase_from
phase-back Idle = refl
phase-back Fetch = refl
phase-back (Move t) = refl
phase-back (Update Complete) = refl
phase-back (Update Internal) = refl
phase-back (Update Slave) = refl
phase-back (Update Decode) = refl

engine-from-back : (s : Engine) → engine_from (words_of s) ≡ s
engine-from-back s =
    λ i. record {
      settings = s.settings;
      control = record {
        sgmode = truth-back s.control.sgmode i;
        keyholeread = truth-back s.control.keyholeread i;
        keyholewrite = truth-back s.control.keyholewrite i;
        iocen = truth-back s.control.iocen i;
        erren = truth-back s.control.erren i;
      };
      status = record {
        fault = bit-back s.status.fault i;
        ioc = truth-back s.status.ioc i;
        err = truth-back s.status.err i;
      };
      pointers = s.pointers;
      simple = s.simple;
      phase = phase-back s.phase i;
    }

-- what is stored reads back as the same engine
pub stored_back : (s : Engine) → engine_of (words_of s) ≡ s
unfolding engine_of
stored_back s =
    let same = ap (λ (x : Engine). same_words (words_of s) (words_of x)) (engine-from-back s) ∙ same-itself (words_of s) in
    sym (yes (ill_formed_of s.settings) same (sym (engine-from-back s)))

-- the words after some steps are those of the engine after them
pub stepped-words : (s x : Engine) → x.settings ≡ s.settings → x.control ≡ s.control → x.pointers.tail ≡ s.pointers.tail → x.simple ≡ s.simple
    → stepped_words_of x (words_of s) ≡ words_of x
stepped-words s x settings control tail simple =
    λ i. words_of (record {
      settings = sym settings i;
      control = sym control i;
      status = x.status;
      pointers = record { current = x.pointers.current; tail = sym tail i; next = x.pointers.next; heldnext = x.pointers.heldnext };
      simple = sym simple i;
      phase = x.phase;
    })

-- an engine has one list of words
pub words-differ : (s t : Engine) → words_of s ≡ words_of t → s ≡ t
words-differ s t e = sym (stored_back s) ∙ ap (λ (w : List ℕ). engine_of w) e ∙ stored_back t

-- any words are those of the engine that is read from them, or that engine is not well formed
pub read_back : (w : List ℕ) → (words_of (engine_of w) ≡ w) ⊎ (well_formed_of (engine_of w) ≡ false)
unfolding engine_of well_formed_of
read_back w = go (same_words w (words_of (engine_from w))) refl
  where
    go : (t : Bool) → same_words w (words_of (engine_from w)) ≡ t
        → (words_of (when t (engine_from w) (ill_formed_of (settings_from w))) ≡ w) ⊎ (well_formed_of (when t (engine_from w) (ill_formed_of (settings_from w))) ≡ false)
    go true e = inl (sym (same-equal w (words_of (engine_from w)) e))
    go false e = inr refl
