-- Every session of a replay is sound.
use mathlib.Core.Path.{◌≡◌, refl, sym, ap, subst, ◌∙◌}
use Prim.Native.Nat.{ℕ, zero, suc, ◌+◌, ◌-◌, ◌*◌, ◌≤◌, min}
use mathlib.Core.Bool.{Bool}
use mathlib.Core.List.{List, [], ◌++◌}
use native.Mathlib.Omega.{arith}
use lib.ListN.{length, take, drop, set, length-set, length-replicate}
use lib.Seq.{length-sets, take-append_seam}
use lib.Dec.{eqb, leb, ltb}
use borrow.Author.Tests.{eq-eqb, leb-false, le-ltb}
use Rattle.kit.specs.Choice.{both}
use Rattle.kit.specs.Limits.{most_memory, most_windows}
use Rattle.kit.specs.Settings.{legal_width, legal_beats, legal_of, legal_settings}
use Rattle.kit.proofs.Choice.{yes, no, cases}
use Rattle.memory.specs.declared.window.Window.{Window as Window'}
use Rattle.memory.specs.Windows.{windows_of}
use Rattle.state.specs.declared.engine.Engine.{Engine}
use Rattle.state.specs.State.{well_formed_of}
use Rattle.state.proofs.WellFormed.{fresh-well-formed}
use Rattle.registers.proofs.Writes.{write-keeps-settings, write-keeps-words, write-keeps-well-formed}
use Rattle.steps.specs.Step.{advance_of}
use Rattle.runs.specs.Run.{refusal_of}
use Rattle.steps.proofs.Keeps.{advance-keeps, advance-well-formed}
use Rattle.steps.proofs.Stored.{take-bytes, drop-bytes, sets-bytes}
use Rattle.monitor.specs.Monitor.{bus_clock_of}
use Rattle.record.specs.declared.reading.Body.{Body}
use Rattle.record.specs.declared.reading.Body.TheVariants.{Settings, Memory, Window, Write, Read, Steps, Astray, Clock}
use Rattle.record.specs.Reading.{Reading}
use Rattle.std.specs.Prelude.{Some, None}
use Rattle.record.specs.Reading.{reading_of}
use Rattle.record.specs.Claims.{Bytes, Within}
use Rattle.record.proofs.Claims.{claims}
use Rattle.session.specs.declared.Mode.{Mode}
use Rattle.session.specs.declared.Mode.TheVariants as modes
use Rattle.session.specs.declared.Session.{Session}
use Rattle.session.specs.declared.Effect.{Effect}
use Rattle.session.specs.declared.AfterPass.{AfterPass}
use Rattle.kit.specs.declared.settings.Settings.{Settings as Settings'}
use Rattle.session.specs.Chosen.{two_of, called_of, with_settings}
use Rattle.session.specs.Effect.{start_of, Lent, After}
use Rattle.session.specs.Stepping.{used_of, stops_of, accepted_of, step_line_of}
use Rattle.session.specs.Turn.{apply_of, Turn, stale_of, record_by}
use Rattle.session.specs.Pass.{ready_of, line_room, Replay, begin, swapped, next_on, turn_by, turn_on, turns_of, Passes}
use Rattle.session.proofs.Turns.{both-no}
use Rattle.session.proofs.Unique.{pass-unique}
use Rattle.whole.specs.Listing.{start_memory, start_windows, Replays, begun, passed}
use Rattle.whole.specs.Sound.{Sound, SoundIn, Sessions}
use Rattle.whole.proofs.Bytes.{zero-bytes}

start-sound : Sound start_of.engine 0 start_memory start_windows
unfolding legal_width legal_beats
start-sound = record {
  legal = refl;
  well = fresh-well-formed (record { width = 4; beats = 64 });
  source = omega arith;
  destination = omega arith;
  few = omega arith;
  small = omega (arith, length-replicate {A = ℕ} 32768 0);
  bytes = zero-bytes 32768;
  room = length-replicate {A = ℕ} (2 * most_windows) 0;
}

-- the chosen engine
abbrev SoundAs : Session → Lent → Type 0
SoundAs s lent = Sound s.engine s.windows lent.memory lent.windows

-- ---- the windows that a step is lent

few-used : (n : ℕ) → n ≤ most_windows → used_of n ≡ 2 * n
few-used n h = let least : min n most_windows ≡ n = omega arith in ap (λ (k : ℕ). 2 * k) least

module _ {e : Engine} {used : ℕ} {m w : List ℕ} (h : Sound e used m w) where
  not-refused : refusal_of e (length m) (min used most_windows) ≡ 0
  unfolding refusal_of
  not-refused =
      sym (yes _ h.legal (no _ (le-ltb most_memory (length m) h.small) (no _ (le-ltb most_windows (min used most_windows) (omega arith)) (yes _ h.well refl))))

  -- another memory of the same length
  remembered : {x : Engine} {l : List ℕ} → Sound x used m w → length l ≡ length m → Bytes l → Sound x used l w
  remembered g long held = record {
    legal = g.legal;
    well = g.well;
    source = g.source;
    destination = g.destination;
    few = g.few;
    small = omega (arith, g.small);
    bytes = held;
    room = g.room;
  }

step-sound : (s : Session) (n taken : ℕ) (lent : Lent) → SoundAs s lent
    → SoundAs (step_line_of s n taken lent).effect.session (step_line_of s n taken lent).lent
step-sound s n taken lent h =
    cases (λ (a : After). SoundAs a.effect.session a.lent) (stops_of s.engine.phase n taken (accepted_of s.engine s.windows (length lent.memory)))
    (λ _. h) (λ _. remembered h stepped (advance-keeps e m windows).length ((advance-keeps e m windows).bytes h.bytes))
  where
    e : Engine
    e = s.engine

    m : List ℕ
    m = lent.memory

    windows : List Window'
    windows = windows_of (take (used_of s.windows) lent.windows)

    stepped : Sound (advance_of e m windows).engine s.windows m lent.windows
    stepped = record {
      legal = ap legal_of (advance-keeps e m windows).engine.settings ∙ h.legal;
      well = advance-well-formed e m windows h.legal h.small h.bytes h.well;
      source = omega (arith, ap {B = ℕ} (λ x. x.sa) (advance-keeps e m windows).engine.simple, h.source);
      destination = omega (arith, ap {B = ℕ} (λ x. x.da) (advance-keeps e m windows).engine.simple, h.destination);
      few = h.few;
      small = h.small;
      bytes = h.bytes;
      room = h.room;
    }

-- ---- records

module _ (s : Session) (position : ℕ) (input : List ℕ) (at : ℕ) (lent : Lent) (held : Bytes input) (h : SoundAs s lent) where
  abbrev Stays : After → Type 0
  Stays a = SoundAs a.effect.session a.lent

  apply-sound : (n : ℕ) (b : Body) → Within b → Stays (apply_of s n position input at lent b)
  unfolding apply_of
  apply-sound n (Settings two width beats) k =
      cases (λ (e : Effect). SoundAs e.session lent) (legal_settings width beats)
      (λ legal. record {
        legal = legal;
        well = fresh-well-formed (record { width = width; beats = beats });
        source = omega arith;
        destination = omega arith;
        few = h.few;
        small = h.small;
        bytes = h.bytes;
        room = h.room;
      })
      (λ _. h)
  apply-sound n (Memory address count) k =
      cases Stays (ltb (length lent.memory) (address + count)) (λ _. h)
      (λ _. let bytes = take count (drop (at + 12) input) in
      remembered h h (length-sets lent.memory address bytes) (sets-bytes lent.memory address bytes h.bytes (take-bytes count (drop (at + 12) input) (drop-bytes (at + 12) input held))))
  apply-sound n (Window start count) k =
      cases Stays (leb most_windows s.windows) (λ _. h)
      (λ more. record {
        legal = h.legal;
        well = h.well;
        source = h.source;
        destination = h.destination;
        few = omega (arith, leb-false most_windows s.windows more);
        small = h.small;
        bytes = h.bytes;
        room = length-set (set lent.windows (2 * s.windows) start) (2 * s.windows + 1) count ∙ length-set lent.windows (2 * s.windows) start ∙ h.room;
      })
  apply-sound n (Write offset value) k =
      let words = write-keeps-words s.engine offset value k.1 (record { source-word = h.source; destination-word = h.destination }) in
      record {
        legal = ap legal_of (write-keeps-settings s.engine offset value) ∙ h.legal;
        well = write-keeps-well-formed s.engine offset value (record { source-word = h.source; destination-word = h.destination }) h.well;
        source = words.source-word;
        destination = words.destination-word;
        few = h.few;
        small = h.small;
        bytes = h.bytes;
        room = h.room;
      }
  apply-sound n (Read offset) k = h
  apply-sound n (Steps count) k = h
  apply-sound n Astray k = h
  apply-sound n (Clock bits clock) k =
      cases (λ (e : Effect). SoundAs e.session lent) (ltb 7 bits) (λ _. h)
      (λ _. cases (λ (e : Effect). SoundAs e.session lent) (eqb (bus_clock_of s.monitor s.engine.settings.width s.engine.settings.beats clock).number 0) (λ _. h) (λ _. h))

  record-sound : (v : Reading) → reading_of input at (eqb position 0) (two_of s.chosen) ≡ v
      → SoundAs (record_by s position input at lent v).effect.session (record_by s position input at lent v).lent
  record-sound None e = h
  record-sound (Some (r, next)) e =
      cases (λ (t : Turn). SoundAs t.effect.session t.lent) (stale_of s.sequence r.sequence r.body) (λ _. h)
      (λ _. apply-sound r.sequence r.body (claims.ranges input at (eqb position 0) (two_of s.chosen) r next held e).1)

-- ---- the other engine

-- a turn that does not change the two leaves the other one as it is
apply-other : (s : Session) (n position : ℕ) (input : List ℕ) (at : ℕ) (lent : Lent) (b : Body) → (apply_of s n position input at lent b).lent.other ≡ lent.other
unfolding apply_of
apply-other s n position input at lent (Settings two width beats) = refl
apply-other s n position input at lent (Memory address count) =
    cases (λ (a : After). a.lent.other ≡ lent.other) (ltb (length lent.memory) (address + count)) (λ _. refl) (λ _. refl)
apply-other s n position input at lent (Window start count) =
    cases (λ (a : After). a.lent.other ≡ lent.other) (leb most_windows s.windows) (λ _. refl) (λ _. refl)
apply-other s n position input at lent (Write offset value) = refl
apply-other s n position input at lent (Read offset) = refl
apply-other s n position input at lent (Steps count) = refl
apply-other s n position input at lent Astray = refl
apply-other s n position input at lent (Clock bits clock) = refl

record-other : (s : Session) (position : ℕ) (input : List ℕ) (at : ℕ) (lent : Lent) (v : Reading) → (record_by s position input at lent v).lent.other ≡ lent.other
record-other s position input at lent None = refl
record-other s position input at lent (Some (r, next)) =
    cases (λ (t : Turn). t.lent.other ≡ lent.other) (stale_of s.sequence r.sequence r.body) (λ _. refl)
    (λ _. apply-other s r.sequence position input at lent r.body)

step_other : (s : Session) (n taken : ℕ) (lent : Lent) → (step_line_of s n taken lent).lent.other ≡ lent.other
step_other s n taken lent =
    cases (λ (a : After). a.lent.other ≡ lent.other) (stops_of s.engine.phase n taken (accepted_of s.engine s.windows (length lent.memory))) (λ _. refl) (λ _. refl)

abbrev SoundAt : Replay → Type 0
SoundAt r = SoundIn r.session r.lent.other r.lent.memory r.lent.windows

-- it stays sound beside a chosen engine that does, whose settings it has
beside : {x : Settings'} {o o' : Engine} {used : ℕ} {m w : List ℕ} → Sound (with_settings x o) used m w → o' ≡ o
    → {s : Session} {m' w' : List ℕ} → Sound s.engine s.windows m' w' → SoundIn s o' m' w'
unfolding well_formed_of
beside {o = o} h same {s} {m'} {w'} g =
    subst (λ (p : Engine). SoundIn s p m' w') (sym same)
    (record {
      chosen = g;
      other = record {
        legal = g.legal;
        well = h.well;
        source = h.source;
        destination = h.destination;
        few = g.few;
        small = g.small;
        bytes = g.bytes;
        room = g.room;
      };
    })

start : SoundIn start_of start_of.engine start_memory start_windows
start = record { chosen = start-sound; other = start-sound }

next-sound : (base : ℕ) (input : List ℕ) → Bytes input → (r : Replay) → SoundAt r → SoundAt (next_on base input r)
next-sound base input held r h =
    let v = reading_of input r.at (eqb (base + r.at) 0) (two_of r.session.chosen) in
    beside h.other (record-other r.session (base + r.at) input r.at r.lent v)
    (record-sound r.session (base + r.at) input r.at r.lent held h.chosen v refl)

turn-sound : (base : ℕ) (input : List ℕ) → Bytes input → (r : Replay) → SoundAt r → SoundAt (turn_on base input r)
unfolding turn_on
turn-sound base input held r h = go r.session.mode
  where
    go : (mode : Mode) → SoundAt (turn_by base input r mode)
    go modes.Start = record { chosen = h.chosen; other = h.other }
    go modes.Records =
        cases (λ (x : Replay). SoundAt (next_on base input x)) (called_of r.session.chosen input r.at)
        (λ _. next-sound base input held (swapped r) (record { chosen = h.other; other = h.chosen })) (λ _. next-sound base input held r h)
    go (modes.Steps n taken) = beside h.other (step_other r.session n taken r.lent) (step-sound r.session n taken r.lent h.chosen)
    go modes.Over = h

turns-sound : (n base : ℕ) (input : List ℕ) → Bytes input → (r : Replay) → SoundAt r → SoundAt (turns_of n base input r)
unfolding turns_of
turns-sound zero base input held r h = h
turns-sound (suc n) base input held r h = turn-sound base input held (turns_of n base input r) (turns-sound n base input held r h)

pass-sound : (s : Session) (o : Engine) (base : ℕ) (input : List ℕ) (ended : Bool) (m w out : List ℕ) (r : AfterPass) (m' w' out' : List ℕ)
    → Passes s o base input ended m w out r m' w' out' → Bytes input → SoundIn s o m w → SoundIn r.session r.other m' w'
pass-sound s o base input ended m w out r m' w' out' p held h =
    subst SoundAt (sym p.ends) (turns-sound p.turns base input held (begin s m w o) h)

part_bytes : (a b : List ℕ) → Bytes (a ++ b) → Bytes a
part_bytes a b h = subst Bytes (take-append_seam a b) (take-bytes (length a) (a ++ b) h)

replay-sound : {input : List ℕ} {place : ℕ} {s : Session} {o : Engine} {m w text : List ℕ} → Bytes input → Replays input place s o m w text → SoundIn s o m w
replay-sound held begun = start
replay-sound {input} held (passed {place} {s} {o} {m} {w} before part rest ended split last out r m' w' out' p) =
    pass-sound s o place part ended m w out r m' w' out' p (part_bytes part rest (subst Bytes split (drop-bytes place input held))) (replay-sound held before)

-- a pass that takes no turn
still : (s : Session) (o : Engine) (base : ℕ) (input : List ℕ) (ended : Bool) (m w out : List ℕ) → s.mode ≡ modes.Over
    → Passes s o base input ended m w out (record { session = s; other = o; at = 0; put = 0 }) m w out
unfolding turns_of
still s o base input ended m w out e = record {
  turns = 0;
  text = [];
  goes = λ k h. absurd (omega arith);
  stops = ap (λ (mode : Mode). both (leb (0 + line_room) (length out)) (ready_of mode (length input - 0) ended)) e ∙ both-no (leb (0 + line_room) (length out));
  ends = refl;
  put = refl;
  fits = omega arith;
  stored = refl;
}

pub sessions : Sessions
sessions = record {
  start = start;
  turn = turn-sound;
  pass = pass-sound;
  replay = λ input place s o m w text held q. replay-sound held q;
  accepted = λ s o m w h. eq-eqb (refusal_of s.engine (length m) (min s.windows most_windows)) 0 (not-refused h.chosen);
  lent = λ s o m w h. few-used s.windows h.chosen.few;
  over = λ s o base input ended m w out r m' w' out' p e.
      pass-unique s o base input ended m w out r (record { session = s; other = o; at = 0; put = 0 }) m' w' out' m w out p (still s o base input ended m w out e);
}
