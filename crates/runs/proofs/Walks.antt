-- Laws of `walk_from`: it stops at its budget and where the engine is idle, else it takes a step, or several, and goes on.
use mathlib.Core.Path.{◌≡◌, refl, sym, ap, ap₂, subst, ◌∙◌}
use Prim.Native.Nat.{ℕ, zero, suc, ◌+◌, ◌-◌, ◌≤◌, ◌<◌}
use mathlib.Core.Bool.{Bool, true, false}
use mathlib.Core.List.{List}
use lib.ListN.{length}
use native.Mathlib.Omega.{arith}
use Rattle.memory.specs.declared.window.Window.{Window}
use Rattle.state.specs.declared.engine.Engine.{Engine}
use Rattle.state.specs.State.{busy_of}
use Rattle.steps.specs.declared.event.Event.{Event}
use Rattle.steps.specs.Step.{AfterAdvance, begun, advance_of}
use Rattle.steps.specs.Claims.{Lasts}
use Rattle.steps.proofs.Keeps.{lasts-same, lasts_on, advance-keeps}
use Rattle.moves.specs.Moves.{Reaches, none, more}
use Rattle.runs.specs.Run.{AfterWalk, after_steps, walk_from}
use Rattle.runs.specs.Claims.{Acceptable}
use Rattle.runs.proofs.Acceptable.{advance-acceptable}

module _ (i : ℕ) (r : AfterAdvance) (windows : List Window) where
  pub walk_none : (n : ℕ) → n ≡ 0 → walk_from n i r windows ≡ after_steps i r
  unfolding walk_from
  walk_none zero e = refl
  walk_none (suc n) e = absurd (omega arith)

  pub walk-idle : (n : ℕ) → busy_of r.engine.phase ≡ false → walk_from n i r windows ≡ after_steps i r
  unfolding walk_from
  walk-idle zero e = refl
  walk-idle (suc n) e = rw (e, walk_from)

  pub walk_step : (n : ℕ) → 0 < n → busy_of r.engine.phase ≡ true
      → walk_from n i r windows ≡ walk_from (n - 1) (i + 1) (advance_of r.engine r.memory windows) windows
  unfolding walk_from
  walk_step zero h e = absurd (omega arith)
  walk_step (suc n) h e =
      let k : n ≡ suc n - 1 = omega arith in
      let j : suc i ≡ i + 1 = omega arith in
      rw (e, walk_from) (ap₂ (λ (x y : ℕ). walk_from x y (advance_of r.engine r.memory windows) windows) k j)

-- ---- steps that lead somewhere

module _ {windows : List Window} {r : AfterAdvance} where
  -- no step leads nowhere else
  pub reaches-none : {n : ℕ} {x : AfterAdvance} → n ≡ 0 → Reaches windows r n x → r ≡ x
  reaches-none e none = refl
  reaches-none e (more {n} p busy) = absurd (omega (arith, e))

  -- it leads to the same state, told otherwise
  pub reaches_same : {n : ℕ} {m : List ℕ} {e e' : Event} {s s' : Engine} → e ≡ e' → s ≡ s'
      → Reaches windows r n (record { event = e'; engine = s'; memory = m }) → Reaches windows r n (record { event = e; engine = s; memory = m })
  reaches_same {n} {m} e s p =
      subst (Reaches windows r n) (sym (ap₂ {C = AfterAdvance} (λ (x : Event) (y : Engine). record { event = x; engine = y; memory = m }) e s)) p

  pub reaches-acceptable : {n : ℕ} {x : AfterAdvance} (k : ℕ) → Acceptable r.engine r.memory k → Reaches windows r n x → Acceptable x.engine x.memory k
  reaches-acceptable k a none = a
  reaches-acceptable k a (more {s = s} p busy) = advance-acceptable s.engine s.memory windows k (reaches-acceptable k a p)

  pub reaches-length : {n : ℕ} {x : AfterAdvance} → Reaches windows r n x → length x.memory ≡ length r.memory
  reaches-length none = refl
  reaches-length (more {s = s} p busy) = (advance-keeps s.engine s.memory windows).length ∙ reaches-length p

  pub reaches-lasts : {n : ℕ} {x : AfterAdvance} → Reaches windows r n x → Lasts r.engine x.engine
  reaches-lasts none = lasts-same r.engine
  reaches-lasts (more {s = s} p busy) = lasts_on (reaches-lasts p) (advance-keeps s.engine s.memory windows).engine

  -- a walk goes through where its steps lead
  pub reaches-walk : {n : ℕ} {x : AfterAdvance} → Reaches windows r n x → (k i : ℕ) → walk_from (n + k) i r windows ≡ walk_from k (i + n) x windows
  reaches-walk none k i =
      let e : 0 + k ≡ k = omega arith in
      let f : i ≡ i + 0 = omega arith in
      ap₂ (λ (a b : ℕ). walk_from a b r windows) e f
  reaches-walk (more {n} {s} p busy) k i =
      let e : n + 1 + k ≡ n + (k + 1) = omega arith in
      let f : k + 1 - 1 ≡ k = omega arith in
      let g : i + n + 1 ≡ i + (n + 1) = omega arith in
      ap (λ (a : ℕ). walk_from a i r windows) e ∙ reaches-walk p (k + 1) i
      ∙ walk_step (i + n) s windows (k + 1) (omega arith) busy
      ∙ ap₂ (λ (a b : ℕ). walk_from a b (advance_of s.engine s.memory windows) windows) f g

-- a walk keeps what only a register write changes
pub walk-lasts : (n i : ℕ) (r : AfterAdvance) (windows : List Window) → Lasts r.engine (walk_from n i r windows).engine
unfolding walk_from
walk-lasts zero i r windows = lasts-same r.engine
walk-lasts (suc n) i r windows = go (walk-lasts n (suc i) next windows) (busy_of r.engine.phase)
  where
    next : AfterAdvance
    next = advance_of r.engine r.memory windows

    go : Lasts next.engine (walk_from n (suc i) next windows).engine → (busy : Bool)
        → let x : AfterWalk = elim busy [ true ↦ walk_from n (suc i) next windows | false ↦ after_steps i r ] in Lasts r.engine x.engine
    go later true = lasts_on (advance-keeps r.engine r.memory windows).engine later
    go later false = lasts-same r.engine

-- one step of a busy engine
pub reaches-one : {s : Engine} {m m' : List ℕ} {windows : List Window} {x : AfterAdvance} → busy_of s.phase ≡ true → m ≡ m' → x ≡ advance_of s m' windows
    → Reaches windows (begun s m) 1 x
reaches-one {s} {m} {m'} {windows} busy same e =
    subst (Reaches windows (begun s m) 1) (ap (λ (y : List ℕ). advance_of s y windows) same ∙ sym e) (more none busy)

-- a walk in its midst, `steps` of at most `most` steps taken, that ends as `final` says
pub record Walking (most steps : ℕ) (r : AfterAdvance) (windows : List Window) (final : AfterWalk) : Type 0 where
  pub within : steps ≤ most
  pub acceptable : Acceptable r.engine r.memory 0
  pub goes : walk_from (most - steps) steps r windows ≡ final

module _ {most steps : ℕ} {r : AfterAdvance} {windows : List Window} {final : AfterWalk} (w : Walking most steps r windows final) where
  -- steps of a busy engine take it on
  pub walking_on : {n : ℕ} {x : AfterAdvance} → busy_of r.engine.phase ≡ true → Reaches windows (begun r.engine r.memory) n x → 0 < n
      → n ≤ most - steps → Walking most (steps + n) x windows final
  walking_on {n} {x} busy p some few =
      let fewer : most - steps ≡ n + (most - (steps + n)) = omega (arith, few, w.within) in
      record {
        within = omega (arith, few, w.within);
        acceptable = reaches-acceptable 0 w.acceptable p;
        goes = sym (reaches-walk p (most - (steps + n)) steps)
            ∙ ap (λ (k : ℕ). walk_from k steps (begun r.engine r.memory) windows) (sym fewer)
            ∙ walk_step steps (begun r.engine r.memory) windows (most - steps) (omega (arith, some, few)) busy
            ∙ sym (walk_step steps r windows (most - steps) (omega (arith, some, few)) busy) ∙ w.goes;
      }

  -- a walk that has taken its steps, or whose engine is idle, is over
  pub walking-done : most ≤ steps → after_steps steps r ≡ final
  walking-done h = sym (walk_none steps r windows (most - steps) (omega arith)) ∙ w.goes

  pub walking-idle : busy_of r.engine.phase ≡ false → after_steps steps r ≡ final
  walking-idle e = sym (walk-idle steps r windows (most - steps) e) ∙ w.goes

-- a walk at its start
pub walking-begin : (most : ℕ) (r : AfterAdvance) (windows : List Window) → Acceptable r.engine r.memory 0
    → Walking most 0 r windows (walk_from most 0 r windows)
walking-begin most r windows acceptable =
    let whole : most - 0 ≡ most = omega arith in
    record { within = omega arith; acceptable = acceptable; goes = ap (λ (n : ℕ). walk_from n 0 r windows) whole }
