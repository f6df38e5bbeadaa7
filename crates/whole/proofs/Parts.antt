-- A turn on a part of a trace is a turn on the whole.
use mathlib.Core.Path.{◌≡◌, refl, sym, ap, subst, ◌∙◌}
use Prim.Native.Nat.{ℕ, zero, suc, ◌+◌, ◌-◌, ◌≤◌, ◌<◌}
use mathlib.Core.Bool.{Bool, true, false}
use mathlib.Core.List.{List, [], ◌++◌, append_assoc, append-nil}
use native.Mathlib.Nat.{add_assoc}
use native.Mathlib.Omega.{arith}
use lib.ListN.{length, take, drop, length-append, length-drop}
use lib.Seq.{sets, drop-append-add, drop-append-le, take-append-le}
use lib.Dec.{eqb, leb, ltb}
use borrow.Author.Tests.{leb-true}
use Rattle.kit.specs.Choice.{when}
use Rattle.kit.specs.declared.answer.Refusal.TheVariants as answers
use Rattle.kit.specs.Answer.{number_of}
use Rattle.kit.proofs.Choice.{never}
use Rattle.record.specs.declared.reading.Body.{Body}
use Rattle.record.specs.declared.reading.Body.TheVariants.{Settings, Memory, Window, Write, Read, Steps, Astray, Clock}
use Rattle.record.specs.Reading.{Reading}
use Rattle.std.specs.Prelude.{Some, None}
use Rattle.record.specs.Reading.{reading_of}
use Rattle.record.specs.Claims.{longest, shifted}
use Rattle.record.specs.Starts.{settings_at}
use Rattle.record.proofs.Claims.{claims}
use Rattle.record.specs.Names.{names_of}
use Rattle.record.proofs.Starting.{starts}
use Rattle.record.proofs.Naming.{names}
use Rattle.listing.specs.Line.{line_of}
use Rattle.session.specs.declared.Mode.{Mode}
use Rattle.session.specs.declared.Mode.TheVariants as modes
use Rattle.session.specs.declared.chosen.Chosen.{Chosen}
use Rattle.session.specs.declared.chosen.Chosen.TheVariants.{Only, First, Second}
use Rattle.session.specs.Chosen.{two_of, called_of}
use Rattle.session.specs.declared.Session.{Session}
use Rattle.listing.specs.declared.word.Word.TheVariants as words
use Rattle.session.specs.Effect.{Lent, lend, After, after, text_of, bad_of, with_sequence, with_mode, opening_of}
use Rattle.session.specs.Stepping.{step_line_of}
use Rattle.session.specs.Turn.{DataFits, apply_of, Turn, turn_as, stale_of, record_by, record_turn_of}
use Rattle.session.specs.Pass.{ready_of, ready_in, Replay, replay_as, open_on, record_on, swapped, next_on, turn_by, turn_on, turns_of}
use Rattle.session.proofs.Records.{data-fits}
use Rattle.session.proofs.Turns.{turns-kept}

-- a replay of a part, seen in the whole trace: `place` bytes and the lines `text` came before it
abbrev pub seen_in : ℕ → List ℕ → Replay → Replay
seen_in place text r = replay_as r.session (place + r.at) r.lent (text ++ r.text)

-- the turn, its next place reckoned from d bytes before
abbrev pub later : ℕ → Turn → Turn
later d t = record { effect = t.effect; at = d + t.at; lent = t.lent }

twice-shifted : (d e : ℕ) (v : Reading) → shifted (d + e) v ≡ shifted d (shifted e v)
twice-shifted d e (Some (r, n)) = ap (λ (x : ℕ). Some (r, x)) (add_assoc d e n)
twice-shifted d e None = refl

module _ (before part after' : List ℕ) where
  drop-whole : (k : ℕ) → k ≤ length part → drop (length before + k) (before ++ (part ++ after')) ≡ drop k part ++ after'
  drop-whole k h = drop-append-add before (part ++ after') k ∙ drop-append-le k part after' h

  -- where a whole record is left, or nothing follows the part, reading sees the part alone
  reading-part : (at : ℕ) (ended first two : Bool) → (ended ≡ true → after' ≡ []) → at ≤ length part
      → when ended (ltb 0 (length part - at)) (leb longest (length part - at)) ≡ true
      → reading_of (before ++ (part ++ after')) (length before + at) first two ≡ shifted (length before) (reading_of part at first two)
  reading-part at ended first two last h ready =
      claims.dropped (before ++ (part ++ after')) (length before + at) first two
      (omega (arith, length-append before (part ++ after'), length-append part after'))
      ∙ ap (λ (l : List ℕ). shifted (length before + at) (reading_of l 0 first two)) (drop-whole at h)
      ∙ ap (shifted (length before + at)) (go ended refl)
      ∙ twice-shifted (length before) at (reading_of (drop at part) 0 first two)
      ∙ ap (shifted (length before)) (sym (claims.dropped part at first two h))
    where
      go : (t : Bool) → ended ≡ t → reading_of (drop at part ++ after') 0 first two ≡ reading_of (drop at part) 0 first two
      go true e = ap (λ (l : List ℕ). reading_of (drop at part ++ l) 0 first two) (last e) ∙ ap (λ (l : List ℕ). reading_of l 0 first two) (append-nil (drop at part))
      go false e =
          let room = leb-true longest (length part - at) (subst (λ (t : Bool). when t (ltb 0 (length part - at)) (leb longest (length part - at)) ≡ true) e ready) in
          claims.settled (drop at part) after' 0 first two (omega (arith, length-drop at part))

  -- so does what the trace starts with
  pub starts-part : (at : ℕ) (ended : Bool) → (ended ≡ true → after' ≡ []) → at ≤ length part
      → when ended (ltb 0 (length part - at)) (leb longest (length part - at)) ≡ true
      → settings_at (before ++ (part ++ after')) (length before + at) ≡ settings_at part at
  starts-part at ended last h ready =
      starts.dropped (before ++ (part ++ after')) (length before + at) (omega (arith, length-append before (part ++ after'), length-append part after'))
      ∙ ap (λ (l : List ℕ). settings_at l 0) (drop-whole at h)
      ∙ go ended refl
      ∙ sym (starts.dropped part at h)
    where
      go : (t : Bool) → ended ≡ t → settings_at (drop at part ++ after') 0 ≡ settings_at (drop at part) 0
      go true e = ap (λ (l : List ℕ). settings_at (drop at part ++ l) 0) (last e) ∙ ap (λ (l : List ℕ). settings_at l 0) (append-nil (drop at part))
      go false e =
          let room = leb-true longest (length part - at) (subst (λ (t : Bool). when t (ltb 0 (length part - at)) (leb longest (length part - at)) ≡ true) e ready) in
          starts.settled (drop at part) after' 0 (omega (arith, length-drop at part))

  -- and the engine that the record is for
  names-part : (at n : ℕ) (ended : Bool) → (ended ≡ true → after' ≡ []) → at ≤ length part
      → when ended (ltb 0 (length part - at)) (leb longest (length part - at)) ≡ true
      → names_of (before ++ (part ++ after')) (length before + at) n ≡ names_of part at n
  names-part at n ended last h ready =
      names.dropped (before ++ (part ++ after')) (length before + at) n (omega (arith, length-append before (part ++ after'), length-append part after'))
      ∙ ap (λ (l : List ℕ). names_of l 0 n) (drop-whole at h)
      ∙ go ended refl
      ∙ sym (names.dropped part at n h)
    where
      go : (t : Bool) → ended ≡ t → names_of (drop at part ++ after') 0 n ≡ names_of (drop at part) 0 n
      go true e = ap (λ (l : List ℕ). names_of (drop at part ++ l) 0 n) (last e) ∙ ap (λ (l : List ℕ). names_of l 0 n) (append-nil (drop at part))
      go false e =
          let room = leb-true longest (length part - at) (subst (λ (t : Bool). when t (ltb 0 (length part - at)) (leb longest (length part - at)) ≡ true) e ready) in
          names.settled (drop at part) after' 0 n (omega (arith, length-drop at part))

  pub called-part : (c : Chosen) (at : ℕ) (ended : Bool) → (ended ≡ true → after' ≡ []) → at ≤ length part
      → when ended (ltb 0 (length part - at)) (leb longest (length part - at)) ≡ true
      → called_of c (before ++ (part ++ after')) (length before + at) ≡ called_of c part at
  called-part Only at ended last h ready = refl
  called-part First at ended last h ready = names-part at 2 ended last h ready
  called-part Second at ended last h ready = names-part at 1 ended last h ready

  -- a record's data are the part's
  data-part : (at count : ℕ) → at + 12 + count ≤ length part
      → take count (drop (length before + at + 12) (before ++ (part ++ after'))) ≡ take count (drop (at + 12) part)
  data-part at count h =
      ap (λ (k : ℕ). take count (drop k (before ++ (part ++ after')))) (add_assoc (length before) at 12)
      ∙ ap (take count) (drop-whole (at + 12) (omega arith))
      ∙ take-append-le count (drop (at + 12) part) after' (omega (arith, length-drop (at + 12) part))

  module _ (s : Session) (position : ℕ) (lent : Lent) where
    -- an MM record, by its data
    stored : ℕ → ℕ → ℕ → List ℕ → After
    stored n address count bytes =
        when (ltb (length lent.memory) (address + count)) (after (bad_of s (number_of answers.MemoryEnd) position) lent)
        (after (record { session = with_sequence s n; line = record { sequence = n; word = words.Memory; first = address; second = count } })
        (lend (sets lent.memory address bytes) lent.windows lent.other))

    apply-part : (n at : ℕ) (b : Body) → DataFits part at b
        → apply_of s n position (before ++ (part ++ after')) (length before + at) lent b ≡ apply_of s n position part at lent b
    unfolding apply_of stored
    apply-part n at (Settings two width beats) h = refl
    apply-part n at (Memory address count) h = ap (stored n address count) (data-part at count h)
    apply-part n at (Window start count) h = refl
    apply-part n at (Write offset value) h = refl
    apply-part n at (Read offset) h = refl
    apply-part n at (Steps count) h = refl
    apply-part n at Astray h = refl
    apply-part n at (Clock bits clock) h = refl

    record-part : (at : ℕ) (v : Reading) → reading_of part at (eqb position 0) (two_of s.chosen) ≡ v
        → record_by s position (before ++ (part ++ after')) (length before + at) lent (shifted (length before) v)
        ≡ later (length before) (record_by s position part at lent v)
    record-part at None e = refl
    record-part at (Some (r, n)) e = go (stale_of s.sequence r.sequence r.body)
      where
        refused : After
        refused = after (bad_of s (number_of answers.Sequence) position) lent

        go : (t : Bool)
            → when t (turn_as refused (length before + at))
            (turn_as (apply_of s r.sequence position (before ++ (part ++ after')) (length before + at) lent r.body) (length before + n))
            ≡ later (length before) (when t (turn_as refused at) (turn_as (apply_of s r.sequence position part at lent r.body) n))
        go true = refl
        go false = ap (λ (a : After). turn_as a (length before + n)) (apply-part r.sequence at r.body (data-fits part at (eqb position 0) (two_of s.chosen) r n e))

    pub reading-turn : (at : ℕ) (ended : Bool) → (ended ≡ true → after' ≡ []) → at ≤ length part → ready_of modes.Records (length part - at) ended ≡ true
        → record_turn_of s position (before ++ (part ++ after')) (length before + at) lent ≡ later (length before) (record_turn_of s position part at lent)
    reading-turn at ended last h e =
        ap (record_by s position (before ++ (part ++ after')) (length before + at) lent) (reading-part at ended (eqb position 0) (two_of s.chosen) last h e)
        ∙ record-part at (reading_of part at (eqb position 0) (two_of s.chosen)) refl

  -- the next record
  next-part : (text : List ℕ) (ended : Bool) (r : Replay) → (ended ≡ true → after' ≡ []) → r.at ≤ length part → ready_of modes.Records (length part - r.at) ended ≡ true
      → next_on 0 (before ++ (part ++ after')) (seen_in (length before) text r) ≡ seen_in (length before) text (next_on (length before) part r)
  next-part text ended r last h e =
      let t = record_turn_of r.session (length before + r.at) part r.at r.lent in
      let place : 0 + (length before + r.at) ≡ length before + r.at = omega arith in
      ap (record_on (seen_in (length before) text r))
      (ap (λ (k : ℕ). record_turn_of r.session k (before ++ (part ++ after')) (length before + r.at) r.lent) place
      ∙ reading-turn r.session (length before + r.at) r.lent r.at ended last h e)
      ∙ ap (replay_as t.effect.session (length before + t.at) t.lent) (append_assoc text r.text (text_of t.effect.session.mode t.effect.line))

  pub on-part : (text : List ℕ) (ended : Bool) (r : Replay) → (ended ≡ true → after' ≡ []) → r.at ≤ length part → ready_in part ended r ≡ true
      → turn_on 0 (before ++ (part ++ after')) (seen_in (length before) text r) ≡ seen_in (length before) text (turn_on (length before) part r)
  unfolding turn_on
  on-part text ended r last h ready = go r.session.mode ready
    where
      go : (mode : Mode) → ready_of mode (length part - r.at) ended ≡ true
          → turn_by 0 (before ++ (part ++ after')) (seen_in (length before) text r) mode ≡ seen_in (length before) text (turn_by (length before) part r mode)
      go modes.Start e =
          ap (open_on (seen_in (length before) text r)) (starts-part r.at ended last h e)
          ∙ ap (replay_as (with_mode r.session modes.Records) (length before + r.at) r.lent) (append_assoc text r.text (opening_of r.session (settings_at part r.at)))
      go modes.Records e =
          ap (λ (called : Bool). next_on 0 (before ++ (part ++ after')) (when called (swapped (seen_in (length before) text r)) (seen_in (length before) text r)))
          (called-part r.session.chosen r.at ended last h e)
          ∙ by (called_of r.session.chosen part r.at)
        where
          by : (called : Bool)
              → next_on 0 (before ++ (part ++ after')) (when called (swapped (seen_in (length before) text r)) (seen_in (length before) text r))
              ≡ seen_in (length before) text (next_on (length before) part (when called (swapped r) r))
          by true = next-part text ended (swapped r) last h e
          by false = next-part text ended r last h e
      go (modes.Steps left taken) e =
          let a = step_line_of r.session left taken r.lent in
          ap (replay_as a.effect.session (length before + r.at) a.lent) (append_assoc text r.text (line_of a.effect.line))
      go modes.Over e = absurd (never e)

pub turns-within : (base : ℕ) (part : List ℕ) (r : Replay) (n : ℕ) → r.at ≤ length part → (turns_of n base part r).at ≤ length part
turns-within base part r n h = (turns-kept n base part r h).within

-- turns that could be taken on a part are turns of the whole: the same lines, and the same session, memory and windows
-- after them. Where the part is said to be the last, nothing follows it.
pub parts : (before part after' text : List ℕ) (ended : Bool) (r : Replay) (n : ℕ) → (ended ≡ true → after' ≡ []) → r.at ≤ length part
    → ((k : ℕ) → k < n → ready_in part ended (turns_of k (length before) part r) ≡ true)
    → turns_of n 0 (before ++ (part ++ after')) (seen_in (length before) text r) ≡ seen_in (length before) text (turns_of n (length before) part r)
unfolding turns_of
parts before part after' text ended r zero last h ready = refl
parts before part after' text ended r (suc n) last h ready =
    ap (turn_on 0 (before ++ (part ++ after'))) (parts before part after' text ended r n last h (λ k i. ready k (omega arith)))
    ∙ on-part before part after' text ended (turns_of n (length before) part r) last (turns-within (length before) part r n h) (ready n (omega arith))
