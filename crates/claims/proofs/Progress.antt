-- The progress of a transfer: what is still to come, from a state that has moved k bytes, and from one that waits for its update.
use mathlib.Core.Path.{◌≡◌, refl, sym, ap, ap₂, subst, ◌∙◌}
use mathlib.Core.Bool.{Bool, true, false}
use mathlib.Core.List.{List, [], ◌∷◌, ◌++◌}
use Prim.Native.Nat.{ℕ, suc, ◌+◌, ◌-◌, ◌≤◌, ◌<◌, min}
use native.Mathlib.Nat.{mul-pos}
use native.Mathlib.Omega.{arith}
use lib.ListN.{length}
use lib.Seq.{sets}
use lib.Dec.{eqb}
use borrow.Author.Tests.{eqb-true, eqb-false}
use Rattle.kit.specs.Choice.{when}
use Rattle.kit.specs.Settings.{legal_of}
use Rattle.kit.specs.Word.{bytes_of}
use Rattle.kit.proofs.Choice.{cases, never}
use Rattle.kit.proofs.Legal.{legal}
use Rattle.cut.specs.declared.Burst.{Burst}
use Rattle.cut.specs.Cut.{burst_end, cut}
use Rattle.cut.proofs.Reach.{ends}
use Rattle.cut.proofs.Cutting.{cut-stop, cut_step}
use Rattle.memory.specs.declared.window.Window.{Window}
use Rattle.memory.specs.declared.verdict.Verdict.TheVariants.{Okay}
use Rattle.memory.proofs.Groups.{group-okay-fits}
use Rattle.sides.specs.Sides.{Inside}
use Rattle.state.specs.declared.engine.Engine.{Engine}
use Rattle.state.specs.declared.engine.Transfer.{Transfer}
use Rattle.state.specs.declared.engine.ErrorBit.{ErrorBit}
use Rattle.state.specs.declared.engine.Outcome.{Outcome}
use Rattle.state.specs.declared.engine.Outcome.TheVariants.{Complete, Internal, Slave, Decode}
use Rattle.state.specs.declared.engine.Phase.{Phase}
use Rattle.state.specs.declared.engine.Phase.TheVariants.{Idle, Fetch, Move, Update}
use Rattle.state.specs.State.{busy_of, error_set_of, with_phase}
use Rattle.steps.specs.declared.event.Event.TheVariants.{Move as Moved}
use Rattle.steps.specs.Step.{AfterAdvance, advance_seen, stop_on_error_of, finish_transfer_of, continue_or_finish_of, after_burst_of, read_place, write_place, most_fixed_beats, piece_bytes, bytes_by, told_by, told_at, answer_by, moved_by, next_bytes, burst_answer, burst_moved, status_place, status_word_of, after_update_of, advance_of}
use Rattle.steps.proofs.Advances.{failed, Advance, rests, halts, fetches, moves, faults, updates, advances}
use Rattle.steps.proofs.Bursts.{answer-fit}
use Rattle.claims.specs.Transfers.{Act, step, write, read, act, after, bursts_of, bursts, steps, resets, in_transfer, Runs, Own, left}
use Rattle.claims.specs.KeyHole.{pieces}
use Rattle.claims.proofs.Writes.{Does, keeps, fresh, waits, starts, write-does}
use Rattle.claims.proofs.Bytes.{Held, held-burst, Arrived, arrived-simple, arrived-chain}
use Rattle.claims.proofs.Pieces.{pieces_none, pieces_step}

-- no error bit is set at the end
abbrev pub Good : Engine → List Act → Type 0
Good s acts = error_set_of (after s acts).status.fault ≡ false

-- a state that is out of the transfer, with an error bit set, does not end it well
bad : (acts : List Act) (s : Engine) → in_transfer s.phase ≡ false → error_set_of s.status.fault ≡ true → Runs s acts → Good s acts → ⊥
bad [] s out error runs good = never (sym good ∙ error)
bad (a ∷ acts) s out error runs good = never (sym out ∙ runs.0)

-- the two phases of a transfer
moving : Phase → Bool
moving Idle = false
moving Fetch = false
moving (Move t) = true
moving (Update o) = false

waiting : Phase → Bool
waiting Idle = false
waiting Fetch = false
waiting (Move t) = false
waiting (Update o) = true

-- t, with k bytes moved
abbrev pub moved_to : Transfer → ℕ → Transfer
moved_to t k = record { source = t.source; destination = t.destination; total = t.total; moved = k }

-- s₀ is the state before the transfer t
module _ (s₀ : Engine) (t : Transfer) where
  -- a state in the midst of the transfer, in phase p
  pub record Now (p : Phase) (s : Engine) : Type 0 where
    pub phase : s.phase ≡ p
    pub settings : s.settings ≡ s₀.settings
    pub mode : s.control.sgmode ≡ s₀.control.sgmode
    pub source : s.control.keyholeread ≡ s₀.control.keyholeread
    pub destination : s.control.keyholewrite ≡ s₀.control.keyholewrite
    pub current : s.pointers.current ≡ s₀.pointers.current

  -- what acts do: their bursts, their steps, and, where only they touch the memory, what they make of it
  pub record Rest (cuts : List Burst) (count : ℕ) (Before : List ℕ → List ℕ → Type 0)
      (moved : List Burst) (taken : ℕ) (Owned : List ℕ → Type 0) (leaves : List ℕ → List ℕ) : Type 0 where
    pub moves : moved ≡ cuts
    pub takes : taken ≡ count
    pub copies : (m₀ m : List ℕ) → Owned m → Before m₀ m → Arrived s₀ t m₀ (leaves m)

  -- no write but a reset touches it
  now-write : {p : Phase} (s : Engine) (offset value : ℕ) → busy_of p ≡ true → resets (write offset value) ≡ false → Now p s
      → Now p (act s (write offset value))
  now-write {p} s offset value busy quiet now = go (write-does s offset value)
    where
      free : busy_of s.phase ≡ false → ⊥
      free e = never (sym e ∙ ap busy_of now.phase ∙ busy)

      go : {x : Engine} → Does s offset value x → Now p x
      go (keeps e k) =
          record {
            phase = e ∙ now.phase;
            settings = k.settings ∙ now.settings;
            mode = k.mode ∙ now.mode;
            source = k.source ∙ now.source;
            destination = k.destination ∙ now.destination;
            current = k.current ∙ now.current;
          }
      go (fresh e _) = absurd (never (sym quiet ∙ e))
      go (waits e _) = absurd (free e)
      go (starts c) = absurd (free (ap busy_of c.idle))

  -- a step that was lent m, left m' and moved `moved` leads to s, and s is the end
  over-rest : {cuts : List Burst} {count : ℕ} {Before : List ℕ → List ℕ → Type 0} (acts : List Act) (s : Engine) (m m' : List ℕ) (moved : List Burst)
      → in_transfer s.phase ≡ false → Runs s acts → moved ++ [] ≡ cuts → 1 ≡ count → ((m₀ : List ℕ) → Before m₀ m → Arrived s₀ t m₀ m')
      → Rest cuts count Before (moved ++ bursts s acts) (suc (steps acts)) (λ x. (m ≡ x) × Own m' s acts) (λ x. left m' s acts)
  over-rest {Before = Before} [] s m m' moved out runs e f g =
      record { moves = e; takes = f; copies = λ m₀ x own before. g m₀ (subst (Before m₀) (sym own.0) before) }
  over-rest (a ∷ acts) s m m' moved out runs e f g = absurd (never (sym out ∙ runs.0))

  -- ---- waiting for the update

  -- after a step to r, where a step was lent m
  abbrev Settled : Outcome → List ℕ → List Act → AfterAdvance → Type 0
  Settled o m acts r = (o ≡ Complete)
      × Rest [] 1 (Held s₀ t t.total) (bursts_of r.event ++ bursts r.engine acts) (suc (steps acts)) (λ x. (m ≡ x) × Own r.memory r.engine acts)
      (λ x. left r.memory r.engine acts)

  module _ (chain : s₀.control.sgmode ≡ true) (s : Engine) (m : List ℕ) (windows : List Window) (acts : List Act) where
    abbrev Leads : Outcome → AfterAdvance → Type 0
    Leads o r = Runs r.engine acts → Good r.engine acts → Settled o m acts r

    written : s.pointers.current ≡ s₀.pointers.current → status_place s + 4 ≤ length m → (m₀ : List ℕ) → Held s₀ t t.total m₀ m
        → Arrived s₀ t m₀ (sets m (status_place s) (bytes_of 0x80000000))
    written e fits m₀ h =
        subst (λ (c : ℕ). Arrived s₀ t m₀ (sets m (c + 0x1C) (bytes_of 0x80000000))) (sym e)
        (arrived-chain s₀ t chain m₀ m h (subst (λ (c : ℕ). c + 0x1C + 4 ≤ length m) e fits))

    -- the update wrote the word of outcome o
    retired : (o : Outcome) → s.pointers.current ≡ s₀.pointers.current → status_place s + 4 ≤ length m
        → Leads o (advance_seen (after_update_of s o (status_word_of o)) (sets m (status_place s) (bytes_of (status_word_of o))))
    retired Complete e fits =
        let m' : List ℕ = sets m (status_place s) (bytes_of 0x80000000) in
        cases
        (λ (x : Engine). Runs x acts → Good x acts → (Complete ≡ Complete)
        × Rest [] 1 (Held s₀ t t.total) (bursts x acts) (suc (steps acts)) (λ y. (m ≡ y) × Own m' x acts) (λ y. left m' x acts))
        (eqb s.pointers.current s.pointers.tail)
        (λ _ runs _. (refl, over-rest acts _ m m' [] refl runs refl refl (written e fits)))
        (λ _ runs _. (refl, over-rest acts _ m m' [] refl runs refl refl (written e fits)))
    retired Internal e fits = λ runs good. absurd (bad acts _ refl refl runs good)
    retired Slave e fits = λ runs good. absurd (bad acts _ refl refl runs good)
    retired Decode e fits = λ runs good. absurd (bad acts _ refl refl runs good)

    settled : (o : Outcome) → Now (Update o) s → {r : AfterAdvance} → Advance s m windows r → Leads o r
    unfolding waiting
    settled o now (rests e) = absurd (never (sym (ap waiting e) ∙ ap waiting now.phase))
    settled o now (halts e b f) = λ runs good. absurd (bad acts _ refl f runs good)
    settled o now (fetches e okay ready) = absurd (never (sym (ap waiting e) ∙ ap waiting now.phase))
    settled o now (moves u e okay) = absurd (never (sym (ap waiting e) ∙ ap waiting now.phase))
    settled o now (faults u e p f b g) = absurd (never (sym (ap waiting e) ∙ ap waiting now.phase))
    settled o now (updates p e okay) =
        let same : p ≡ o = cc (sym e ∙ now.phase) in
        subst (λ (x : Outcome). Leads x (advance_seen (after_update_of s p (status_word_of p)) (sets m (status_place s) (bytes_of (status_word_of p))))) same
        (retired p now.current (group-okay-fits (length m) windows (status_place s) 4 okay (omega arith)))

  pub settle : (chain : s₀.control.sgmode ≡ true) (acts : List Act) (s : Engine) (o : Outcome) → Now (Update o) s → Runs s acts → Good s acts
      → (o ≡ Complete) × Rest [] 1 (Held s₀ t t.total) (bursts s acts) (steps acts) (λ m. Own m s acts) (λ m. left m s acts)
  settle chain [] s o now runs good = absurd (never (sym runs ∙ ap in_transfer now.phase))
  settle chain (step m windows ∷ acts) s o now runs good = settled chain s m windows acts o now (advances s m windows) runs.2 good
  settle chain (write offset value ∷ acts) s o now runs good =
      settle chain acts (act s (write offset value)) o (now-write s offset value refl runs.1 now) runs.2 good
  settle chain (read offset ∷ acts) s o now runs good = settle chain acts s o now runs.2 good

  -- ---- moving

  -- the bursts of what remains after k bytes: the cut of a destination that increments, the pieces of a fixed one
  abbrev pub remains_by : Bool → ℕ → List Burst
  remains_by false k = cut s₀.settings.width s₀.settings.beats (t.destination + k) (t.destination + t.total)
  remains_by true k = pieces (piece_bytes s₀.settings) t.destination (t.total - k)

  abbrev pub remains : ℕ → List Burst
  remains = remains_by s₀.control.keyholewrite

  -- after the last burst, chain mode takes one more step
  abbrev pub last : ℕ
  last = when s₀.control.sgmode 1 0

  abbrev pub Goes : ℕ → Engine → List Act → Type 0
  Goes k s acts = Rest (remains k) (length (remains k) + last) (Held s₀ t k) (bursts s acts) (steps acts) (λ m. Own m s acts) (λ m. left m s acts)

  -- what is to come from s on, once it is in the midst of a move
  abbrev pub Onward : Engine → List Act → Type 0
  Onward s acts = (k : ℕ) → k < t.total → Now (Move (moved_to t k)) s → Runs s acts → Good s acts → Goes k s acts

  -- a step that was lent m leads to r
  abbrev Takes : ℕ → List ℕ → List Act → AfterAdvance → Type 0
  Takes k m acts r = Onward r.engine acts → Runs r.engine acts → Good r.engine acts
      → Rest (remains k) (length (remains k) + last) (Held s₀ t k) (bursts_of r.event ++ bursts r.engine acts) (suc (steps acts))
      (λ x. (m ≡ x) × Own r.memory r.engine acts) (λ x. left r.memory r.engine acts)

  -- the burst of n bytes after the first k
  abbrev piece : ℕ → ℕ → Burst
  piece k n = record { start = told_by s₀.control.keyholewrite (moved_to t k); bytes = n }

  -- memory m after that burst
  abbrev carry : ℕ → ℕ → List ℕ → List ℕ
  carry k n m = moved_by s₀.settings s₀.control.keyholeread s₀.control.keyholewrite (moved_to t k) m n

  module _ (legals : legal_of s₀.settings ≡ true) where
    -- a piece has bytes
    pub some-piece : 0 < piece_bytes s₀.settings
    some-piece =
        let g = legal s₀.settings.width s₀.settings.beats legals in
        mul-pos {n = min s₀.settings.beats most_fixed_beats} g.width_positive (omega (arith, g.beats-positive))

    none : (fixed : Bool) → remains_by fixed t.total ≡ []
    none false = cut-stop s₀.settings.width s₀.settings.beats (t.destination + t.total) (t.destination + t.total) (omega arith)
    none true = ap (pieces (piece_bytes s₀.settings) t.destination) (omega arith) ∙ pieces_none (piece_bytes s₀.settings) t.destination some-piece

    -- a step lends m to the burst of n bytes after the first k, the first of what remains
    module _ (s : Engine) (k : ℕ) (now : Now (Move (moved_to t k)) s) (m : List ℕ) (windows : List Window) (acts : List Act)
        (n : ℕ) (first : remains k ≡ piece k n ∷ remains (k + n)) (some : 0 < n) (within : k + n ≤ t.total) where
      -- the burst moved, and the engine is x
      abbrev carried_to : Engine → AfterAdvance
      carried_to x = record { event = Moved (piece k n); engine = x; memory = carry k n m }

      module _ (reads : Inside (length m) (read_place s₀.settings s₀.control.keyholeread t) k n)
          (writes : Inside (length m) (write_place s₀.settings s₀.control.keyholewrite t) k n) where
        held : (m₀ : List ℕ) → Held s₀ t k m₀ m → Held s₀ t (k + n) m₀ (carry k n m)
        held m₀ h = held-burst s₀ t k n m₀ m h within reads writes

        whole : k + n ≡ t.total → (m₀ : List ℕ) → Held s₀ t k m₀ m → Held s₀ t t.total m₀ (carry k n m)
        whole e m₀ h = subst (λ (x : ℕ). Held s₀ t x m₀ (carry k n m)) e (held m₀ h)

        none_left : k + n ≡ t.total → remains k ≡ piece k n ∷ []
        none_left e = first ∙ ap (λ (r : List Burst). piece k n ∷ r) (ap remains e ∙ none s₀.control.keyholewrite)

        ended : k + n ≡ t.total → Takes k m acts (carried_to (finish_transfer_of s))
        ended e = cases (λ (x : Engine). Takes k m acts (carried_to x)) s.control.sgmode
            (λ c onward runs good.
            let chain = sym now.mode ∙ c in
            let r = (settle chain acts (with_phase s (Update Complete)) Complete
            (record { phase = refl; settings = now.settings; mode = now.mode; source = now.source; destination = now.destination; current = now.current }) runs good).1 in
            record {
              moves = ap (λ (x : List Burst). piece k n ∷ x) r.moves ∙ sym (none_left e);
              takes = omega (arith, r.takes, ap length (none_left e), ap (λ (x : Bool). when {A = ℕ} x 1 0) chain);
              copies = λ m₀ x own h. r.copies m₀ (carry k n m) own.1 (whole e m₀ (subst (Held s₀ t k m₀) (sym own.0) h));
            })
            (λ c onward runs good.
            let simple = sym now.mode ∙ c in
            over-rest acts _ m (carry k n m) (piece k n ∷ []) refl runs (sym (none_left e))
            (omega (arith, ap length (none_left e), ap (λ (x : Bool). when {A = ℕ} x 1 0) simple))
            (λ m₀ h. arrived-simple s₀ t simple m₀ (carry k n m) (whole e m₀ h)))

        carried : Takes k m acts (carried_to (continue_or_finish_of s (moved_to t k) (k + n)))
        carried = cases (λ (x : Engine). Takes k m acts (carried_to x)) (eqb (k + n) t.total) (λ e. ended (eqb-true (k + n) t.total e))
            (λ e onward runs good.
            let short = eqb-false (k + n) t.total e in
            let r = onward (k + n) (omega (arith, short)) (record { phase = refl; settings = now.settings; mode = now.mode; source = now.source; destination = now.destination; current = now.current }) runs good in
            record {
              moves = ap (λ (x : List Burst). piece k n ∷ x) r.moves ∙ sym first;
              takes = omega (arith, r.takes, ap length first);
              copies = λ m₀ x own h. r.copies m₀ (carry k n m) own.1 (held m₀ (subst (Held s₀ t k m₀) (sym own.0) h));
            })

      -- a move that fails leads to an error bit
      faulted : (o : Outcome) (x : ErrorBit) → failed o ≡ true → error_set_of x ≡ true → Runs (when s.control.sgmode (with_phase s (Update o)) (stop_on_error_of s x)) acts
          → Good (when s.control.sgmode (with_phase s (Update o)) (stop_on_error_of s x)) acts → ⊥
      faulted o x f e = cases (λ (y : Engine). Runs y acts → Good y acts → ⊥) s.control.sgmode
          (λ c runs good. never (sym (ap failed (settle (sym now.mode ∙ c) acts (with_phase s (Update o)) o
          (record { phase = refl; settings = now.settings; mode = now.mode; source = now.source; destination = now.destination; current = now.current }) runs good).0) ∙ f))
          (λ c runs good. bad acts (stop_on_error_of s x) refl e runs good)

    -- the burst of n bytes is the first of what remains
    pub record NextBurst (fixed : Bool) (k n : ℕ) : Type 0 where
      pub first : remains_by fixed k ≡ record { start = told_by fixed (moved_to t k); bytes = n } ∷ remains_by fixed (k + n)
      pub some : 0 < n
      pub within : k + n ≤ t.total

    next-burst : (fixed : Bool) (k : ℕ) → k < t.total → NextBurst fixed k (bytes_by s₀.settings fixed (moved_to t k))
    next-burst false k short =
        let w = s₀.settings.width in
        let l = s₀.settings.beats in
        let g = legal w l legals in
        let at = t.destination + k in
        let end = t.destination + t.total in
        let n = bytes_by s₀.settings false (moved_to t k) in
        let rest : at + (t.total - k) ≡ end = omega arith in
        let same : n ≡ burst_end w l at end - at = ap (λ (e : ℕ). burst_end w l at e - at) rest in
        let p = ends w l g.width_positive g.beats-positive at end (omega arith) in
        record {
          first = cut_step w l g.width_positive g.beats-positive at end (omega arith)
              ∙ ap₂ (λ (x y : ℕ). record { start = at; bytes = x } ∷ cut w l y end) (sym same) (omega (arith, same, p.past));
          some = omega (arith, same, p.past);
          within = omega (arith, same, p.past, p.within);
        }
    next-burst true k short =
        let p = piece_bytes s₀.settings in
        let left = t.total - k in
        let some = some-piece in
        let rest : left - p ≡ t.total - (k + min p left) = omega (arith, short) in
        record {
          first = pieces_step p t.destination some left (omega (arith, short))
              ∙ ap (λ (x : ℕ). record { start = t.destination; bytes = min p left } ∷ pieces p t.destination x) rest;
          some = omega (arith, some, short);
          within = omega (arith, short);
        }

    moves-on : (s : Engine) (k : ℕ) → k < t.total → (now : Now (Move (moved_to t k)) s) (m : List ℕ) (windows : List Window) (acts : List Act)
        → {r : AfterAdvance} → Advance s m windows r → Takes k m acts r
    unfolding moving
    moves-on s k some now m windows acts (rests e) = absurd (never (sym (ap moving e) ∙ ap moving now.phase))
    moves-on s k some now m windows acts (halts e b f) = λ onward runs good. absurd (bad acts _ refl f runs good)
    moves-on s k some now m windows acts (fetches e okay ready) = absurd (never (sym (ap moving e) ∙ ap moving now.phase))
    moves-on s k some now m windows acts (moves u e okay) =
        let same : u ≡ moved_to t k = cc (sym e ∙ now.phase) in
        let x = moved_to t k in
        let reads = s₀.control.keyholeread in
        let writes = s₀.control.keyholewrite in
        let n = bytes_by s₀.settings writes x in
        let b = next-burst writes k some in
        let good : burst_answer s x (length m) windows (next_bytes s x) ≡ Okay = ap (λ (y : Transfer). burst_answer s y (length m) windows (next_bytes s y)) (sym same) ∙ okay in
        let fits = answer-fit s₀.settings reads writes x (length m) windows n
        (sym (λ i. answer_by (now.settings i) (now.source i) (now.destination i) x (length m) windows (bytes_by (now.settings i) (now.destination i) x)) ∙ good) in
        subst (Takes k m acts)
        (sym (ap (λ (y : Transfer). advance_seen (after_burst_of s y (told_at s y) (next_bytes s y)) (burst_moved s y m (next_bytes s y))) same
        ∙ (λ i. advance_seen (after_burst_of s x (told_by (now.destination i) x) (bytes_by (now.settings i) (now.destination i) x))
        (moved_by (now.settings i) (now.source i) (now.destination i) x m (bytes_by (now.settings i) (now.destination i) x)))))
        (carried s k now m windows acts n b.first b.some b.within fits.source fits.destination)
    moves-on s k some now m windows acts (faults u e o f b g) =
        let writes = s₀.control.keyholewrite in
        let n = next-burst writes k some in
        λ onward runs good. absurd (faulted s k now m windows acts (bytes_by s₀.settings writes (moved_to t k)) n.first n.some n.within o b f g runs good)
    moves-on s k some now m windows acts (updates o e okay) = absurd (never (sym (ap moving e) ∙ ap moving now.phase))

    pub progress : (acts : List Act) (s : Engine) → Onward s acts
    progress [] s k some now runs good = absurd (never (sym runs ∙ ap in_transfer now.phase))
    progress (step m windows ∷ acts) s k some now runs good =
        moves-on s k some now m windows acts (advances s m windows) (progress acts (advance_of s m windows).engine) runs.2 good
    progress (write offset value ∷ acts) s k some now runs good =
        progress acts (act s (write offset value)) k some (now-write s offset value refl runs.1 now) runs.2 good
    progress (read offset ∷ acts) s k some now runs good = progress acts s k some now runs.2 good
