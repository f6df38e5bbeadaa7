-- Words written one by one, in place of those that stood there.
use mathlib.Core.Path.{◌≡◌, ap, ◌∙◌}
use Prim.Native.Nat.{ℕ, zero, suc, ◌+◌, ◌≤◌}
use mathlib.Core.List.{List, [], ◌∷◌}
use native.Mathlib.Omega.{arith}
use lib.ListN.{length, drop, set, drop_of_length-le}
use lib.Seq.{drop-cons}
use Rattle.state.specs.declared.engine.Engine.{Engine}
use Rattle.state.specs.Bits.{error_bit_of}
use Rattle.words.specs.EngineWords.{truth, phase_number_of, moving_of, words_of, word, stepped_words_of}

-- a list is the words at its places, from i on
unfoldable pub listed : List ℕ → ℕ → ℕ → List ℕ
listed w zero i = []
listed w (suc n) i = word w i ∷ listed w n (suc i)

pub listed-drop : (w : List ℕ) (n i : ℕ) → n + i ≡ length w → drop i w ≡ listed w n i
unfolding listed
listed-drop w zero i e =
    let all : length w ≤ i = omega arith in
    drop_of_length-le w all
listed-drop w (suc n) i e = drop-cons w i 0 (omega arith) ∙ ap (λ (l : List ℕ). word w i ∷ l) (listed-drop w n (suc i) (omega arith))

module _ (w : List ℕ) (long : 22 ≡ length w) (s : Engine) where
  -- the words that a step may change, written over any
  pub written-stepped : set (set (set (set (set (set (set (set (set (set (set w
      5 (error_bit_of s.status.fault)) 6 (truth s.status.ioc)) 7 (truth s.status.err))
      8 s.pointers.current) 10 s.pointers.next) 11 s.pointers.heldnext)
      15 (phase_number_of s.phase)) 16 (moving_of s.phase).source) 17 (moving_of s.phase).destination)
      18 (moving_of s.phase).total) 19 (moving_of s.phase).moved
      ≡ stepped_words_of s w
  unfolding listed
  written-stepped =
      ap (λ (l : List ℕ). set (set (set (set (set (set (set (set (set (set (set l
      5 (error_bit_of s.status.fault)) 6 (truth s.status.ioc)) 7 (truth s.status.err))
      8 s.pointers.current) 10 s.pointers.next) 11 s.pointers.heldnext)
      15 (phase_number_of s.phase)) 16 (moving_of s.phase).source) 17 (moving_of s.phase).destination)
      18 (moving_of s.phase).total) 19 (moving_of s.phase).moved) (listed-drop w 22 0 long)

  -- the others, and then those
  pub written-whole : stepped_words_of s (set (set (set (set (set (set (set (set (set (set (set w
      0 s.settings.width) 1 s.settings.beats) 2 (truth s.control.sgmode)) 3 (truth s.control.iocen)) 4 (truth s.control.erren))
      9 s.pointers.tail) 12 s.simple.sa) 13 s.simple.da) 14 s.simple.btt)
      20 (truth s.control.keyholeread)) 21 (truth s.control.keyholewrite))
      ≡ words_of s
  unfolding listed
  written-whole =
      ap (λ (l : List ℕ). stepped_words_of s (set (set (set (set (set (set (set (set (set (set (set l
      0 s.settings.width) 1 s.settings.beats) 2 (truth s.control.sgmode)) 3 (truth s.control.iocen)) 4 (truth s.control.erren))
      9 s.pointers.tail) 12 s.simple.sa) 13 s.simple.da) 14 s.simple.btt)
      20 (truth s.control.keyholeread)) 21 (truth s.control.keyholewrite))) (listed-drop w 22 0 long)
