-- What a register write does to a transfer: it leaves all that a transfer rests on, or resets, or finds the engine idle.
use mathlib.Core.Path.{◌≡◌, refl, sym, ap, subst, ◌∙◌}
use mathlib.Core.Logic.{◌⊎◌, inl, inr}
use Prim.Native.Nat.{ℕ, ◌%◌, ◌^◌}
use mathlib.Core.Bool.{Bool, true, false}
use borrow.Author.Tests.{eq-eqb}
use Rattle.kit.specs.Choice.{both}
use Rattle.kit.proofs.Choice.{decide, never, both-join, neither}
use Rattle.state.specs.declared.engine.Transfer.{Transfer}
use Rattle.state.specs.declared.engine.Engine.{Engine}
use Rattle.state.specs.declared.engine.Phase.{Phase}
use Rattle.state.specs.declared.engine.Phase.TheVariants.{Idle, Fetch, Move, Update}
use Rattle.state.specs.State.{busy_of}
use Rattle.state.specs.Descriptor.{count_of}
use Rattle.state.specs.Claims.{Suited}
use Rattle.state.proofs.Start.{started}
use Rattle.registers.specs.Write.{AfterWrite, differ, mode_differs, write_of}
use Rattle.registers.specs.Changes.{Change, resets as reset, controls, clears, points, extends, fetches, sources, destinations, moves, fails, nothing, Write, refused, changed}
use Rattle.registers.proofs.Writes.{writes}
use Rattle.claims.specs.Transfers.{write, resets, in_transfer}

-- what a transfer rests on, but for its phase, is the same in x as in s
pub record Same (s x : Engine) : Type 0 where
  pub settings : x.settings ≡ s.settings
  pub mode : x.control.sgmode ≡ s.control.sgmode
  pub source : x.control.keyholeread ≡ s.control.keyholeread
  pub destination : x.control.keyholewrite ≡ s.control.keyholewrite
  pub current : x.pointers.current ≡ s.pointers.current

-- two tests that do not differ
agree : (t u : Bool) → differ t u ≡ false → t ≡ u
agree true true e = refl
agree true false e = e
agree false u e = sym e

idle : (p : Phase) → busy_of p ≡ false → p ≡ Idle
idle Idle e = refl
idle Fetch e = absurd (never (sym e))
idle (Move t) e = absurd (never (sym e))
idle (Update o) e = absurd (never (sym e))

module _ (s : Engine) (offset v : ℕ) where
  -- what SA, DA and a BTT of v say
  abbrev pub asked : Transfer
  asked = record { source = s.simple.sa; destination = s.simple.da; total = v % 2 ^ 23; moved = 0 }

  -- BTT was written to an idle engine in simple mode, and it moves
  pub record Counts (x : Engine) : Type 0 where
    pub place : offset ≡ 0x28
    pub idle : s.phase ≡ Idle
    pub simple : s.control.sgmode ≡ false
    pub suited : Suited s.settings.width s.control s.simple.sa s.simple.da (v % 2 ^ 23)
    pub same : Same s x
    pub phase : x.phase ≡ Move asked

  -- what a write of v leads to
  pub data Does : Engine → Type 0 where
    keeps : {x : Engine} → x.phase ≡ s.phase → Same s x → Does x
    fresh : {x : Engine} → resets (write offset v) ≡ true → x.phase ≡ Idle → Does x
    waits : {x : Engine} → busy_of s.phase ≡ false → in_transfer x.phase ≡ false → Does x
    starts : {x : Engine} → Counts x → Does x

  -- a change that only an idle engine takes, and that leaves it idle
  quiet : {x : Engine} → x.phase ≡ s.phase → busy_of s.phase ≡ false → Does x
  quiet e b = waits b (ap in_transfer (e ∙ idle s.phase b))

  does : {x : Engine} → Change s offset v x → Does x
  does (reset o b) = fresh (both-join (eq-eqb offset 0x00 o) b) refl
  does {x} (controls _ _ d) = go (decide (busy_of s.phase))
    where
      go : (busy_of s.phase ≡ true) ⊎ (busy_of s.phase ≡ false) → Does x
      go (inl busy) =
          let same = neither (differ x.control.sgmode s.control.sgmode) _ (subst (λ (t : Bool). both t (mode_differs x.control s.control) ≡ false) busy d) in
          let holes = neither (differ x.control.keyholeread s.control.keyholeread) (differ x.control.keyholewrite s.control.keyholewrite) same.1 in
          keeps refl (record {
            settings = refl;
            mode = agree x.control.sgmode s.control.sgmode same.0;
            source = agree x.control.keyholeread s.control.keyholeread holes.0;
            destination = agree x.control.keyholewrite s.control.keyholewrite holes.1;
            current = refl;
          })
      go (inr b) = quiet refl b
  does (clears _) = keeps refl (record { settings = refl; mode = refl; source = refl; destination = refl; current = refl })
  does (points _ f) = quiet refl f.idle
  does (extends _ _ _ _) = keeps refl (record { settings = refl; mode = refl; source = refl; destination = refl; current = refl })
  does (fetches _ _ f) = waits f.idle refl
  does (sources _ f) = quiet refl f.idle
  does (destinations _ f) = quiet refl f.idle
  does (moves o m f t e) =
      let begun = started s.settings.width s.control s.simple.sa s.simple.da (count_of v) t e in
      starts (record {
        place = o;
        idle = idle s.phase f.idle;
        simple = m;
        suited = begun.suited;
        same = record { settings = refl; mode = refl; source = refl; destination = refl; current = refl };
        phase = ap Move begun.same;
      })
  does (fails _ _ f _) = quiet refl f.idle
  does (nothing _) = keeps refl (record { settings = refl; mode = refl; source = refl; destination = refl; current = refl })

  pub write-does : Does (write_of s offset v).engine
  write-does = go (writes s offset v)
    where
      go : {w : AfterWrite} → Write s offset v w → Does w.engine
      go (refused _ _) = keeps refl (record { settings = refl; mode = refl; source = refl; destination = refl; current = refl })
      go (changed c) = does c
