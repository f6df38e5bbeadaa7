-- Bursts of a transfer in a row, to every engine in its midst: what a loop over them keeps, and what one turn does.
use mathlib.Core.Path.{◌≡◌, refl, sym, ap, ap₂, subst, ◌∙◌}
use Prim.Native.Nat.{ℕ, ◌+◌, ◌≤◌, ◌<◌}
use mathlib.Core.Bool.{Bool, true}
use mathlib.Core.List.{List}
use native.Mathlib.Omega.{arith}
use lib.ListN.{length}
use borrow.Author.Tests.{eq-eqb, ne_eqb}
use Rattle.kit.specs.Limits.{most_memory}
use Rattle.kit.specs.Settings.{legal_of}
use Rattle.kit.specs.declared.settings.Settings.{Settings}
use Rattle.kit.proofs.Choice.{yes, no}
use Rattle.cut.specs.declared.Burst.{Burst}
use Rattle.memory.specs.declared.window.Window.{Window}
use Rattle.memory.specs.declared.verdict.Verdict.TheVariants.{Okay}
use Rattle.sides.proofs.Claims.{claims}
use Rattle.state.specs.declared.engine.Engine.{Engine}
use Rattle.state.specs.declared.engine.Transfer.{Transfer}
use Rattle.state.specs.declared.engine.Phase.TheVariants.{Move}
use Rattle.state.specs.State.{busy_of, transfer_fits, with_phase}
use Rattle.state.proofs.WellFormed.{transfer-fits, transfer-fits-test}
use Rattle.steps.specs.declared.event.Event.{Event}
use Rattle.steps.specs.declared.event.Event.TheVariants.{Move as MoveEvent}
use Rattle.steps.specs.Step.{AfterAdvance, read_place, write_place, bytes_by, told_by, answer_by, moved_by, finish_transfer_of, continue_or_finish_of, advance_of}
use Rattle.steps.proofs.Bursts.{BurstFits, bytes_fit, Fit, answer-fit, answer-low}
use Rattle.moves.specs.declared.glide.Glided.{Glided}
use Rattle.moves.specs.Moves.{moved_to, Moving, Reaches, none, more, after_bursts}
use Rattle.moves.proofs.Moved.{step-moves}

-- what a loop's numbers say
abbrev pub numbers : ℕ → Burst → ℕ → Glided
numbers moved last steps = record { moved = moved; last = last; steps = steps }

-- an engine in the midst of a transfer, that many bytes on
in-midst : (s : Engine) (t : Transfer) (moved : ℕ) → moved < t.total → continue_or_finish_of s t moved ≡ with_phase s (Move (moved_to t moved))
in-midst s t moved h = sym (no (finish_transfer_of s) (ne_eqb moved t.total (λ e. omega (arith, h, e))) refl)

module _ (settings : Settings) (reads writes : Bool) (t : Transfer) (windows : List Window) (m₀ : List ℕ) where
  -- some bursts were moved, up to `moved` bytes
  pub record Gliding (m : List ℕ) (moved : ℕ) (last : Burst) (steps : ℕ) : Type 0 where
    pub size : length m ≡ length m₀
    pub from : t.moved ≤ moved
    pub within : moved ≤ t.total
    pub fits : moved < t.total → transfer_fits (moved_to t moved) ≡ true
    pub reaches : (s : Engine) (e : Event) → Moving settings reads writes t s
        → Reaches windows (record { event = e; engine = s; memory = m₀ }) steps (after_bursts s e t (numbers moved last steps) m)

  pub gliding-begin : transfer_fits t ≡ true → (last : Burst) → Gliding m₀ t.moved last 0
  gliding-begin fits last =
      let less = (transfer-fits t fits).moved-less in
      record {
        size = refl;
        from = omega arith;
        within = omega (arith, less);
        fits = λ _. fits;
        reaches = λ s e p. subst (λ (r : AfterAdvance). Reaches windows (record { event = e; engine = s; memory = m₀ }) 0 r)
            (ap₂ {C = AfterAdvance} (λ (x : Event) (y : Engine). record { event = x; engine = y; memory = m₀ })
            (yes (MoveEvent last) (eq-eqb 0 0 refl) refl)
            (ap (with_phase s) p.phase ∙ sym (in-midst s t t.moved less)))
            none;
      }

  -- the next burst has n bytes, and they are good
  pub record Turn (m : List ℕ) (moved n : ℕ) : Type 0 where
    pub bytes : n ≡ bytes_by settings writes (moved_to t moved)
    pub okay : Okay ≡ answer_by settings reads writes (moved_to t moved) (length m) windows n

  module _ (legals : legal_of settings ≡ true) (small : length m₀ ≤ most_memory) where
    module _ {m : List ℕ} {moved : ℕ} {last : Burst} {steps : ℕ} (g : Gliding m moved last steps) (less : moved < t.total) {n : ℕ} (u : Turn m moved n) where
      pub turn-fits : BurstFits (moved_to t moved) n
      turn-fits = subst (BurstFits (moved_to t moved)) (sym u.bytes) (bytes_fit settings writes (moved_to t moved) legals (g.fits less))

      pub turn_inside : Fit settings reads writes (moved_to t moved) (length m) windows n
      turn_inside = answer-fit settings reads writes (moved_to t moved) (length m) windows n (sym u.okay)

      pub gliding-step : {at : ℕ} {after : List ℕ} → at ≡ told_by writes (moved_to t moved) → after ≡ moved_by settings reads writes (moved_to t moved) m n
          → Gliding after (moved + n) (record { start = at; bytes = n }) (steps + 1)
      gliding-step {at} {after} told copy =
          let fits = transfer-fits (moved_to t moved) (g.fits less) in
          let b = turn-fits in
          let low = answer-low settings reads writes (moved_to t moved) (length m) windows n (sym u.okay) b.some in
          record {
            size = ap length copy ∙ claims.length-stays m (read_place settings reads t) (write_place settings writes t) moved n ∙ g.size;
            from = omega (arith, g.from);
            within = b.within;
            fits = λ short. transfer-fits-test (moved_to t (moved + n)) (record {
              moved-less = short;
              total-small = fits.total-small;
              source-inside = omega (arith, low.0, small, g.size, short, fits.total-small);
              destination-inside = omega (arith, low.1, small, g.size, short, fits.total-small);
            });
            reaches = λ s e p.
                let q = with_phase s (Move (moved_to t moved)) in
                let here = in-midst s t moved less in
                let moving : Moving settings reads writes (moved_to t moved) q =
                record { set = p.set; source = p.source; destination = p.destination; phase = refl } in
                subst (λ (r : AfterAdvance). Reaches windows (record { event = e; engine = s; memory = m₀ }) (steps + 1) r)
                (ap (λ (x : Engine). advance_of x m windows) here
                ∙ step-moves moving m windows u.bytes u.okay told copy
                ∙ ap {B = AfterAdvance} (λ (x : Event). record { event = x; engine = continue_or_finish_of s t (moved + n); memory = after })
                (no e (ne_eqb (steps + 1) 0 (λ z. omega (arith, z))) refl))
                (more (g.reaches s e p) (ap (λ (x : Engine). busy_of x.phase) here));
          }
