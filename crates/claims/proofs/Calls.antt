-- The claims of specs/Calls.antt: no step along any acts is refused, and a run is its steps.
use mathlib.Core.Path.{◌≡◌, refl, sym, ap, subst, ◌∙◌}
use Prim.Native.Nat.{ℕ, zero, suc, ◌+◌, ◌<◌}
use mathlib.Core.Bool.{Bool, true, false}
use mathlib.Core.List.{List, [], ◌∷◌}
use native.Mathlib.Omega.{arith}
use lib.ListN.{length}
use Rattle.kit.specs.Limits.{address_end}
use Rattle.kit.specs.Settings.{legal_of}
use Rattle.memory.specs.declared.window.Window.{Window}
use Rattle.kit.specs.declared.settings.Settings.{Settings}
use Rattle.state.specs.declared.engine.Simple.{Simple}
use Rattle.state.specs.declared.engine.Engine.{Engine}
use Rattle.state.specs.State.{busy_of}
use Rattle.registers.proofs.Writes.{write-keeps-settings, write-keeps-words, write-keeps-well-formed}
use Rattle.steps.specs.Step.{AfterAdvance, begun, advance_of}
use Rattle.runs.specs.Run.{AfterWalk, after_steps, walk_from}
use Rattle.runs.specs.Claims.{Acceptable}
use Rattle.steps.proofs.Keeps.{advance-keeps}
use Rattle.runs.proofs.Acceptable.{acceptable-unrefused, advance-acceptable}
use Rattle.claims.specs.Transfers.{Act, step, write, read, act, after, steps, Own, left}
use Rattle.claims.specs.Calls.{Accept, steps_of, Run}

-- ---- no step is refused

pub accept : Accept
accept s [] h p = (tt, h)
accept s (step m windows ∷ more) h (bytes, small, few, p) =
    let simple = (advance-keeps s m windows).engine.simple in
    let now : Acceptable s m (length windows) = record { legal = h.legal; small = small; few = few; well = h.well; bytes = bytes } in
    let next = advance-acceptable s m windows (length windows) now in
    let (rest, end) = accept (act s (step m windows)) more
    (record {
      legal = next.legal;
      well = next.well;
      source = subst (λ (x : Simple). x.sa < address_end) (sym simple) h.source;
      destination = subst (λ (x : Simple). x.da < address_end) (sym simple) h.destination;
    }) p in
    ((acceptable-unrefused s m (length windows) now, rest), end)
accept s (write offset value ∷ more) h (small, p) =
    let settings = write-keeps-settings s offset value in
    let w = write-keeps-words s offset value small (record { source-word = h.source; destination-word = h.destination }) in
    accept (act s (write offset value)) more
    (record {
      legal = subst (λ (x : Settings). legal_of x ≡ true) (sym settings) h.legal;
      well = write-keeps-well-formed s offset value (record { source-word = h.source; destination-word = h.destination }) h.well;
      source = w.source-word;
      destination = w.destination-word;
    }) p
accept s (read offset ∷ more) h p = accept s more h p

-- ---- a run is its steps

-- the same, after i steps
record Walks (i : ℕ) (s : Engine) (m : List ℕ) (run : AfterWalk) (acts : List Act) : Type 0 where
  own : Own m s acts
  engine : run.engine ≡ after s acts
  memory : run.memory ≡ left m s acts
  count : run.steps ≡ i + steps acts
  steps-only : length acts ≡ steps acts

walks : (n i : ℕ) (r : AfterAdvance) (windows : List Window) → Walks i r.engine r.memory (walk_from n i r windows) (steps_of n r.engine r.memory windows)
unfolding walk_from steps_of
walks zero i r windows = record { own = tt; engine = refl; memory = refl; count = omega arith; steps-only = refl }
walks (suc n) i r windows = turn (walks n (suc i) next windows) (busy_of r.engine.phase)
  where
    next : AfterAdvance
    next = advance_of r.engine r.memory windows

    turn : Walks (suc i) next.engine next.memory (walk_from n (suc i) next windows) (steps_of n next.engine next.memory windows) → (busy : Bool)
        → Walks i r.engine r.memory (elim busy [ true ↦ walk_from n (suc i) next windows | false ↦ after_steps i r ])
        (elim busy [ true ↦ step r.memory windows ∷ steps_of n next.engine next.memory windows | false ↦ [] ])
    turn k true =
        record { own = (refl, k.own); engine = k.engine; memory = k.memory; count = k.count ∙ omega arith; steps-only = ap suc k.steps-only }
    turn k false = record { own = tt; engine = refl; memory = refl; count = omega arith; steps-only = refl }

pub run : Run
run n s m windows =
    let k = walks n 0 (begun s m) windows in
    record { own = k.own; engine = k.engine; memory = k.memory; count = k.count ∙ omega arith; steps-only = k.steps-only }
