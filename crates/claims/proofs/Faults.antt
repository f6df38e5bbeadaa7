-- The place that a fault tells, and that nothing else of a step goes by it.
use mathlib.Core.Path.{◌≡◌, refl, sym, ap, subst, ◌∙◌}
use mathlib.Core.Logic.{inl, inr}
use mathlib.Core.List.{List}
use Prim.Native.Nat.{ℕ}
use native.Mathlib.Omega.{arith}
use lib.ListN.{length}
use Rattle.kit.proofs.Choice.{cases}
use Rattle.memory.specs.declared.window.Window.{Window}
use Rattle.memory.specs.declared.verdict.Verdict.{Verdict}
use Rattle.memory.specs.declared.verdict.Verdict.TheVariants.{Okay, Slave as SlaveError, Decode as DecodeError}
use Rattle.memory.specs.Verdict.{group_of}
use Rattle.places.specs.Claims.{Fails}
use Rattle.places.proofs.Claims.{claims}
use Rattle.places.proofs.Lows.{without-none}
use Rattle.places.proofs.Groups.{slave-bad, decode-bad}
use Rattle.state.specs.declared.engine.Engine.{Engine}
use Rattle.state.specs.declared.engine.Transfer.{Transfer}
use Rattle.state.specs.declared.engine.Outcome.{Outcome}
use Rattle.state.specs.declared.engine.Phase.{Phase}
use Rattle.state.specs.declared.engine.Phase.TheVariants.{Idle, Fetch, Move, Update}
use Rattle.state.specs.declared.descriptor.Descriptor.{Descriptor}
use Rattle.state.specs.Descriptor.{descriptor_bytes}
use Rattle.steps.specs.declared.event.Event.TheVariants.{Fault, Halt}
use Rattle.steps.specs.declared.event.Advanced.{Advanced}
use Rattle.steps.specs.Step.{read_place, write_place, next_bytes, burst_answer, fault_at, fetch_by, accept_of, move_burst_by, status_place, update_by, advance_by, advance_of}
use Rattle.claims.specs.Faults.{move_bit, descriptor_bit, FailsAt, Faulted, Tells, Halted, fetching, updating, FaultPlaces, former_move_by, former_by, placed, SameButPlace, OnlyPlaces}

-- a burst fails at one place only
fails-once : (size : ℕ) (ws : List Window) (v : Verdict) (reads writes : ℕ → ℕ) (k n a b : ℕ)
    → Fails size ws v reads writes k n a → Fails size ws v reads writes k n b → a ≡ b
fails-once size ws v reads writes k n a b (inl g) (inl h) = claims.only size ws v reads k n a b g h
fails-once size ws v reads writes k n a b (inl g) (inr h) = absurd (without-none size ws v reads k n a h.0 g)
fails-once size ws v reads writes k n a b (inr g) (inl h) = absurd (without-none size ws v reads k n b g.0 h)
fails-once size ws v reads writes k n a b (inr g) (inr h) = claims.only size ws v writes k n a b g.1 h.1

module _ (s : Engine) (m : List ℕ) (windows : List Window) where
  -- what a transfer's next burst answers
  abbrev answer : Transfer → Verdict
  answer t = burst_answer s t (length m) windows (next_bytes s t)

  fails : (t : Transfer) (v : Verdict) → answer t ≡ v → (v ≡ Okay → ⊥) → FailsAt s t m windows v (fault_at s t (length m) windows (next_bytes s t) v)
  fails t v e bad =
      claims.fault (length m) windows v (read_place s.settings s.control.keyholeread t) (write_place s.settings s.control.keyholewrite t) t.moved (next_bytes s t) bad e

  -- ---- a fault was a move

  faulted : (t : Transfer) → s.phase ≡ Move t → (v : Verdict) → answer t ≡ v → (place bit : ℕ)
      → (move_burst_by s t m windows (next_bytes s t) v).event ≡ Fault place bit → Faulted s m windows place bit
  faulted t e Okay f place bit g = absurd (let z : ◌≡◌ {A = ℕ} 0 1 = cc in omega arith)
  faulted t e SlaveError f place bit g =
      let at : fault_at s t (length m) windows (next_bytes s t) SlaveError ≡ place = cc in
      let shown : 5 ≡ bit = cc in
      record {
        transfer = t;
        moving = e;
        verdict = SlaveError;
        answered = f;
        failed = slave-bad;
        told = sym shown;
        there = subst (FailsAt s t m windows SlaveError) at (fails t SlaveError f slave-bad);
      }
  faulted t e DecodeError f place bit g =
      let at : fault_at s t (length m) windows (next_bytes s t) DecodeError ≡ place = cc in
      let shown : 6 ≡ bit = cc in
      record {
        transfer = t;
        moving = e;
        verdict = DecodeError;
        answered = f;
        failed = decode-bad;
        told = sym shown;
        there = subst (FailsAt s t m windows DecodeError) at (fails t DecodeError f decode-bad);
      }

  accepted-not : (d : Descriptor) (place bit : ℕ) → (accept_of s d).event ≡ Fault place bit → ⊥
  unfolding accept_of
  accepted-not d place bit =
      cases (λ (r : Advanced). r.event ≡ Fault place bit → ⊥) d.stale
      (λ _ g. let z : ◌≡◌ {A = ℕ} 0 1 = cc in omega arith) (λ _ g. let z : ◌≡◌ {A = ℕ} 0 1 = cc in omega arith)

  fetch-not : (v : Verdict) (place bit : ℕ) → (fetch_by s m v).event ≡ Fault place bit → ⊥
  fetch-not Okay place bit g = accepted-not _ place bit g
  fetch-not SlaveError place bit g = let z : ◌≡◌ {A = ℕ} 0 1 = cc in omega arith
  fetch-not DecodeError place bit g = let z : ◌≡◌ {A = ℕ} 0 1 = cc in omega arith

  update-not : (o : Outcome) (v : Verdict) (place bit : ℕ) → (update_by s o m v).event ≡ Fault place bit → ⊥
  update-not o Okay place bit g = let z : ◌≡◌ {A = ℕ} 0 1 = cc in omega arith
  update-not o SlaveError place bit g = let z : ◌≡◌ {A = ℕ} 0 1 = cc in omega arith
  update-not o DecodeError place bit g = let z : ◌≡◌ {A = ℕ} 0 1 = cc in omega arith

  by-phase : (p : Phase) → s.phase ≡ p → (place bit : ℕ) → (advance_by s m windows p).event ≡ Fault place bit → Faulted s m windows place bit
  by-phase Idle e place bit g = absurd (let z : ◌≡◌ {A = ℕ} 0 1 = cc in omega arith)
  by-phase Fetch e place bit g = absurd (fetch-not (group_of (length m) windows s.pointers.current descriptor_bytes) place bit g)
  by-phase (Move t) e place bit g = faulted t e (answer t) refl place bit g
  by-phase (Update o) e place bit g = absurd (update-not o (group_of (length m) windows (status_place s) 4) place bit g)

  told : (place bit : ℕ) → (advance_of s m windows).event ≡ Fault place bit → Faulted s m windows place bit
  unfolding advance_of
  told place bit g = by-phase s.phase refl place bit g

  -- ---- a move that fails is a fault, a descriptor that fails halts

  move-faults : (t : Transfer) (v : Verdict) → (v ≡ Okay → ⊥) → (move_burst_by s t m windows (next_bytes s t) v).event ≡ Fault (fault_at s t (length m) windows (next_bytes s t) v) (move_bit v)
  move-faults t Okay bad = absurd (bad refl)
  move-faults t SlaveError bad = refl
  move-faults t DecodeError bad = refl

  faults : (t : Transfer) (v : Verdict) → s.phase ≡ Move t → answer t ≡ v → (v ≡ Okay → ⊥) → Tells s t m windows v
  unfolding advance_of
  faults t v e f bad = record {
    place = fault_at s t (length m) windows (next_bytes s t) v;
    there = fails t v f bad;
    event = ap (λ (p : Phase). (advance_by s m windows p).event) e
        ∙ ap (λ (u : Verdict). (move_burst_by s t m windows (next_bytes s t) u).event) f
        ∙ move-faults t v bad;
  }

  fetched-halts : (v : Verdict) → (v ≡ Okay → ⊥) → (fetch_by s m v).event ≡ Halt s.pointers.current (descriptor_bit v)
  fetched-halts Okay bad = absurd (bad refl)
  fetched-halts SlaveError bad = refl
  fetched-halts DecodeError bad = refl

  fetch-halts : (v : Verdict) → s.phase ≡ Fetch → group_of (length m) windows s.pointers.current descriptor_bytes ≡ v → (v ≡ Okay → ⊥)
      → (advance_of s m windows).event ≡ Halt s.pointers.current (descriptor_bit v)
  unfolding advance_of
  fetch-halts v e f bad = ap (λ (p : Phase). (advance_by s m windows p).event) e ∙ ap (λ (u : Verdict). (fetch_by s m u).event) f ∙ fetched-halts v bad

  updated-halts : (o : Outcome) (v : Verdict) → (v ≡ Okay → ⊥) → (update_by s o m v).event ≡ Halt s.pointers.current (descriptor_bit v)
  updated-halts o Okay bad = absurd (bad refl)
  updated-halts o SlaveError bad = refl
  updated-halts o DecodeError bad = refl

  update-halts : (o : Outcome) (v : Verdict) → s.phase ≡ Update o → group_of (length m) windows (status_place s) 4 ≡ v → (v ≡ Okay → ⊥)
      → (advance_of s m windows).event ≡ Halt s.pointers.current (descriptor_bit v)
  unfolding advance_of
  update-halts o v e f bad = ap (λ (p : Phase). (advance_by s m windows p).event) e ∙ ap (λ (u : Verdict). (update_by s o m u).event) f ∙ updated-halts o v bad

  -- ---- a halt by an error was a descriptor's

  slave-bit : (v : Verdict) → 9 ≡ descriptor_bit v → SlaveError ≡ v
  slave-bit Okay e = absurd (omega arith)
  slave-bit SlaveError e = refl
  slave-bit DecodeError e = absurd (omega arith)

  decode-bit : (v : Verdict) → 10 ≡ descriptor_bit v → DecodeError ≡ v
  decode-bit Okay e = absurd (omega arith)
  decode-bit SlaveError e = absurd (omega arith)
  decode-bit DecodeError e = refl

  -- a complete descriptor halts by bit 8
  stale-bit : (v : Verdict) → 8 ≡ descriptor_bit v → ⊥
  stale-bit Okay e = omega arith
  stale-bit SlaveError e = omega arith
  stale-bit DecodeError e = omega arith

  accepted-halts-not : (d : Descriptor) (v : Verdict) (at : ℕ) → (accept_of s d).event ≡ Halt at (descriptor_bit v) → ⊥
  unfolding accept_of
  accepted-halts-not d v at =
      cases (λ (r : Advanced). r.event ≡ Halt at (descriptor_bit v) → ⊥) d.stale
      (λ _ g. stale-bit v (cc)) (λ _ g. let z : ◌≡◌ {A = ℕ} 0 1 = cc in omega arith)

  fetch-halted : (u v : Verdict) (at : ℕ) → (v ≡ Okay → ⊥) → (fetch_by s m u).event ≡ Halt at (descriptor_bit v) → u ≡ v
  fetch-halted Okay v at bad g = absurd (accepted-halts-not _ v at g)
  fetch-halted SlaveError v at bad g = slave-bit v (cc)
  fetch-halted DecodeError v at bad g = decode-bit v (cc)

  move-halted : (t : Transfer) (u v : Verdict) (at : ℕ) → (move_burst_by s t m windows (next_bytes s t) u).event ≡ Halt at (descriptor_bit v) → ⊥
  move-halted t Okay v at g = let z : ◌≡◌ {A = ℕ} 0 1 = cc in omega arith
  move-halted t SlaveError v at g = let z : ◌≡◌ {A = ℕ} 0 1 = cc in omega arith
  move-halted t DecodeError v at g = let z : ◌≡◌ {A = ℕ} 0 1 = cc in omega arith

  update-halted : (o : Outcome) (u v : Verdict) (at : ℕ) → (update_by s o m u).event ≡ Halt at (descriptor_bit v) → u ≡ v
  update-halted o Okay v at g = absurd (let z : ◌≡◌ {A = ℕ} 0 1 = cc in omega arith)
  update-halted o SlaveError v at g = slave-bit v (cc)
  update-halted o DecodeError v at g = decode-bit v (cc)

  halted-by : (p : Phase) → s.phase ≡ p → (v : Verdict) (at : ℕ) → (v ≡ Okay → ⊥) → (advance_by s m windows p).event ≡ Halt at (descriptor_bit v) → Halted s m windows v
  halted-by Idle e v at bad g = absurd (let z : ◌≡◌ {A = ℕ} 0 1 = cc in omega arith)
  halted-by Fetch e v at bad g = fetching e (fetch-halted (group_of (length m) windows s.pointers.current descriptor_bytes) v at bad g)
  halted-by (Move t) e v at bad g = absurd (move-halted t (answer t) v at g)
  halted-by (Update o) e v at bad g = updating o e (update-halted o (group_of (length m) windows (status_place s) 4) v at g)

  halted : (v : Verdict) (at : ℕ) → (v ≡ Okay → ⊥) → (advance_of s m windows).event ≡ Halt at (descriptor_bit v) → Halted s m windows v
  unfolding advance_of
  halted v at bad g = halted-by s.phase refl v at bad g

  -- ---- nothing else goes by it

  pub record SameByPhase (p : Phase) : Type 0 where
    pub engine : (advance_by s m windows p).engine ≡ (former_by s m windows p).engine
    pub memory : (advance_by s m windows p).memory ≡ (former_by s m windows p).memory
    pub event : (a : ℕ) → placed a (advance_by s m windows p).event ≡ placed a (former_by s m windows p).event

  record Moves (t : Transfer) (v : Verdict) : Type 0 where
    engine : (move_burst_by s t m windows (next_bytes s t) v).engine ≡ (former_move_by s t m (next_bytes s t) v).engine
    memory : (move_burst_by s t m windows (next_bytes s t) v).memory ≡ (former_move_by s t m (next_bytes s t) v).memory
    event : (a : ℕ) → placed a (move_burst_by s t m windows (next_bytes s t) v).event ≡ placed a (former_move_by s t m (next_bytes s t) v).event

  formerly-moves : (t : Transfer) (v : Verdict) → Moves t v
  formerly-moves t Okay = record { engine = refl; memory = refl; event = λ a. refl }
  formerly-moves t SlaveError = record { engine = refl; memory = refl; event = λ a. refl }
  formerly-moves t DecodeError = record { engine = refl; memory = refl; event = λ a. refl }

  formerly : (p : Phase) → SameByPhase p
  formerly Idle = record { engine = refl; memory = refl; event = λ a. refl }
  formerly Fetch = record { engine = refl; memory = refl; event = λ a. refl }
  formerly (Move t) = let h = formerly-moves t (answer t) in record { engine = h.engine; memory = h.memory; event = h.event }
  formerly (Update o) = record { engine = refl; memory = refl; event = λ a. refl }

  former : SameButPlace s m windows
  unfolding advance_of
  former = let h = formerly s.phase in record { engine = h.engine; memory = h.memory; event = h.event }

pub fault-places : FaultPlaces
fault-places = record {
  told = told;
  faults = λ s t m windows v e f bad. faults s m windows t v e f bad;
  once = λ s t m windows v a b g h.
      fails-once (length m) windows v (read_place s.settings s.control.keyholeread t) (write_place s.settings s.control.keyholewrite t) t.moved (next_bytes s t) a b g h;
  fetch-halts = fetch-halts;
  update-halts = λ s o m windows v e f bad. update-halts s m windows o v e f bad;
  halted = halted;
}

pub only-places : OnlyPlaces
only-places = former
