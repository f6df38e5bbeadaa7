-- How a transfer starts: an engine that is in no transfer gets into one by a fetch, or by a write of BTT, alone.
use mathlib.Core.Path.{◌≡◌, refl, sym, ap, subst, ◌∙◌}
use mathlib.Core.Logic.{◌⊎◌, inl, inr}
use mathlib.Core.Bool.{Bool, true, false}
use mathlib.Core.List.{List, ◌∷◌, ◌++◌}
use Prim.Native.Nat.{ℕ, ◌+◌}
use native.Mathlib.Omega.{arith}
use Rattle.kit.specs.Choice.{when}
use Rattle.kit.proofs.Choice.{never}
use Rattle.memory.specs.declared.window.Window.{Window}
use Rattle.state.specs.declared.engine.Engine.{Engine}
use Rattle.state.specs.declared.engine.Transfer.{Transfer}
use Rattle.state.specs.declared.engine.Outcome.{Outcome}
use Rattle.state.specs.declared.engine.Outcome.TheVariants.{Internal}
use Rattle.state.specs.declared.engine.Phase.{Phase}
use Rattle.state.specs.declared.engine.Phase.TheVariants.{Fetch, Move, Update}
use Rattle.std.specs.Prelude.{Option, Some, None}
use Rattle.state.specs.Claims.{Suited}
use Rattle.state.specs.Descriptor.{descriptor_at, start_of}
use Rattle.state.specs.State.{phase_fits, well_formed_of}
use Rattle.registers.specs.Write.{write_of}
use Rattle.state.proofs.Start as begins
use Rattle.state.proofs.WellFormed.{well-formed}
use Rattle.steps.specs.declared.event.Event.{Event}
use Rattle.steps.specs.declared.event.Event.TheVariants.{Fetch as Fetched}
use Rattle.steps.specs.Step.{AfterAdvance, phase_after_fetch_of, advance_of}
use Rattle.steps.proofs.Advances.{Advance, rests, halts, fetches, moves, faults, updates, advances}
use Rattle.claims.specs.Transfers.{Act, step, write, read, act, bursts_of, bursts, steps, in_transfer, Own, left, Completes, Start, fetch, count}
use Rattle.claims.proofs.Progress.{moved_to, Now}
use Rattle.claims.proofs.Writes.{Same, asked, Counts, Does, keeps, fresh, waits, starts, write-does}

module _ (s : Engine) (out : in_transfer s.phase ≡ false) where
  -- ---- a step

  -- where the descriptor in memory m leads
  abbrev described : List ℕ → Phase
  described m = let d = descriptor_at m s.pointers.current in phase_after_fetch_of (start_of s.settings.width s.control d.source d.destination d.count)

  -- the step to r fetched it
  record Took (m : List ℕ) (r : AfterAdvance) : Type 0 where
    fetching : s.phase ≡ Fetch
    event : r.event ≡ Fetched s.pointers.current
    memory : r.memory ≡ m
    same : Same s r.engine
    phase : r.engine.phase ≡ described m

  abbrev StepStarts : List ℕ → AfterAdvance → Type 0
  StepStarts m r = (in_transfer r.engine.phase ≡ false) ⊎ Took m r

  step-starts : (m : List ℕ) (windows : List Window) → {r : AfterAdvance} → Advance s m windows r → StepStarts m r
  step-starts m windows (rests e) = inl out
  step-starts m windows (halts e b f) = inl refl
  step-starts m windows (fetches e okay ready) =
      inr (record { fetching = e; event = refl; memory = refl; same = record { settings = refl; mode = refl; source = refl; destination = refl; current = refl }; phase = refl })
  step-starts m windows (moves u e okay) = absurd (never (sym out ∙ ap in_transfer e))
  step-starts m windows (faults u e o f b g) = absurd (never (sym out ∙ ap in_transfer e))
  step-starts m windows (updates o e okay) = absurd (never (sym out ∙ ap in_transfer e))

  -- ---- a write

  write-starts : (offset v : ℕ) → (in_transfer (write_of s offset v).engine.phase ≡ false) ⊎ Counts s offset v (write_of s offset v).engine
  write-starts offset v = go (write-does s offset v)
    where
      go : {x : Engine} → Does s offset v x → (in_transfer x.phase ≡ false) ⊎ Counts s offset v x
      go (keeps e _) = inl (ap in_transfer e ∙ out)
      go (fresh _ e) = inl (ap in_transfer e)
      go (waits _ e) = inl e
      go (starts c) = inr c

-- ---- what follows for the transfer t

-- a fetch only happens in chain mode
chain-mode : (s : Engine) → well_formed_of s ≡ true → s.phase ≡ Fetch → s.control.sgmode ≡ true
chain-mode s well e = subst (λ (p : Phase). phase_fits p s.control.sgmode ≡ true) e (well-formed s well).phase-fits

module _ (s : Engine) (t : Transfer) where
  -- a phase that is in a transfer is not out of one
  inside : {p : Phase} → p ≡ Move t → in_transfer p ≡ false → ⊥
  inside e out = never (sym out ∙ ap in_transfer e)

  -- a description that leads to the move of t
  says : (source destination total : ℕ) → phase_after_fetch_of (start_of s.settings.width s.control source destination total) ≡ Move t
      → begins.Started s.settings.width s.control source destination total t
  says source destination total e = go (start_of s.settings.width s.control source destination total) refl e
    where
      go : (x : Option Transfer) → start_of s.settings.width s.control source destination total ≡ x → phase_after_fetch_of x ≡ Move t
          → begins.Started s.settings.width s.control source destination total t
      go (Some u) f g = begins.started s.settings.width s.control source destination total t (f ∙ cc g)
      go None f g = absurd (let z : ◌≡◌ {A = ℕ} 0 1 = cc g in omega arith)

  -- the first act of a transfer: it is a step exactly in chain mode, moves nothing and leaves the memory
  pub record Started (first : Act) : Type 0 where
    pub start : Start s t first
    pub now : Now s t (Move (moved_to t 0)) (act s first)
    pub suited : Suited s.settings.width s.control t.source t.destination t.total
    pub moves : (acts : List Act) → bursts s (first ∷ acts) ≡ bursts (act s first) acts
    pub takes : (acts : List Act) → steps (first ∷ acts) ≡ when s.control.sgmode 1 0 + steps acts
    pub owned : (m : List ℕ) (acts : List Act) → Own m s (first ∷ acts) → Own m (act s first) acts
    pub leaves : (m : List ℕ) (acts : List Act) → Own m s (first ∷ acts) → left m s (first ∷ acts) ≡ left m (act s first) acts

  started-now : (x : Engine) → Same s x → t.moved ≡ 0 → x.phase ≡ Move t → Now s t (Move (moved_to t 0)) x
  started-now x same unmoved e =
      record { phase = e ∙ ap (λ (k : ℕ). Move (moved_to t k)) unmoved; settings = same.settings; mode = same.mode; source = same.source; destination = same.destination; current = same.current }

  by-step : (m : List ℕ) (windows : List Window) → well_formed_of s ≡ true → (out : in_transfer s.phase ≡ false)
      → (advance_of s m windows).engine.phase ≡ Move t → StepStarts s out m (advance_of s m windows) → Started (step m windows)
  by-step lent windows well out e (inl o) = absurd (inside e o)
  by-step lent windows well out e (inr k) =
      let x = descriptor_at lent s.pointers.current in
      let begun = says x.source x.destination x.count (sym k.phase ∙ e) in
      let d = begun.same in
      let chain = chain-mode s well k.fetching in
      let x = (advance_of s lent windows).engine in
      record {
        start = fetch lent windows k.fetching chain k.event d;
        now = started-now x k.same (ap (λ (y : Transfer). y.moved) d) e;
        suited = subst (λ (y : Transfer). Suited s.settings.width s.control y.source y.destination y.total) (sym d) begun.suited;
        moves = λ acts. ap (λ (y : Event). bursts_of y ++ bursts x acts) k.event;
        takes = λ acts. omega (arith, ap (λ (y : Bool). when {A = ℕ} y 1 0) chain);
        owned = λ m acts own. subst (λ (y : List ℕ). Own y x acts) (k.memory ∙ own.0) own.1;
        leaves = λ m acts own. ap (λ (y : List ℕ). left y x acts) (k.memory ∙ own.0);
      }

  by-write : (offset v : ℕ) → (write_of s offset v).engine.phase ≡ Move t
      → (in_transfer (write_of s offset v).engine.phase ≡ false) ⊎ Counts s offset v (write_of s offset v).engine → Started (write offset v)
  by-write offset v e (inl o) = absurd (inside e o)
  by-write offset v e (inr k) =
      let d : t ≡ asked s offset v = cc (sym e ∙ k.phase) in
      record {
        start = subst (λ (x : ℕ). Start s t (write x v)) (sym k.place) (count v k.idle k.simple d);
        now = started-now (write_of s offset v).engine k.same (ap (λ (y : Transfer). y.moved) d) e;
        suited = subst (λ (y : Transfer). Suited s.settings.width s.control y.source y.destination y.total) (sym d) k.suited;
        moves = λ acts. refl;
        takes = λ acts. omega (arith, ap (λ (y : Bool). when {A = ℕ} y 1 0) k.simple);
        owned = λ m acts own. own;
        leaves = λ m acts own. refl;
      }

  pub started : (first : Act) (rest : List Act) → Completes s t first rest → Started first
  started (step m windows) rest c = by-step m windows c.well c.before c.starts (step-starts s c.before m windows (advances s m windows))
  started (write offset v) rest c = by-write offset v c.starts (write-starts s c.before offset v)
  started (read offset) rest c = absurd (inside c.starts c.before)

-- ---- a transfer of nothing

module _ (s : Engine) (o : Outcome) (well : well_formed_of s ≡ true) (out : in_transfer s.phase ≡ false) where
  outside : {p : Phase} → p ≡ Update o → in_transfer p ≡ false → ⊥
  outside e x = never (sym x ∙ ap in_transfer e)

  unmoved : (x : Option Transfer) → phase_after_fetch_of x ≡ Update o → Internal ≡ o
  unmoved (Some u) e = absurd (let z : ◌≡◌ {A = ℕ} 0 1 = cc e in omega arith)
  unmoved None e = cc e

  -- an update without a move is of a transfer that did not start, in chain mode
  pub record Barren (first : Act) : Type 0 where
    pub internal : Internal ≡ o
    pub chain : s.control.sgmode ≡ true
    pub now : (t : Transfer) → Now s t (Update o) (act s first)

  pub barren : (first : Act) → (act s first).phase ≡ Update o → Barren first
  barren (step m windows) e = go (step-starts s out m windows (advances s m windows))
    where
      go : StepStarts s out m (advance_of s m windows) → Barren (step m windows)
      go (inl x) = absurd (outside e x)
      go (inr k) = record {
        internal = let d = descriptor_at m s.pointers.current in unmoved (start_of s.settings.width s.control d.source d.destination d.count) (sym k.phase ∙ e);
        chain = chain-mode s well k.fetching;
        now = λ t. record { phase = e; settings = k.same.settings; mode = k.same.mode; source = k.same.source; destination = k.same.destination; current = k.same.current };
      }
  barren (write offset v) e = go (write-starts s out offset v)
    where
      go : (in_transfer (write_of s offset v).engine.phase ≡ false) ⊎ Counts s offset v (write_of s offset v).engine → Barren (write offset v)
      go (inl x) = absurd (outside e x)
      go (inr k) = absurd (let z : ◌≡◌ {A = ℕ} 0 1 = cc (sym e ∙ k.phase) in omega arith)
  barren (read offset) e = absurd (outside e out)
