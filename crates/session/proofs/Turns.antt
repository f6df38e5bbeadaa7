-- Laws of turns: they add up, and they keep lengths and places.
use mathlib.Core.Path.{◌≡◌, refl, ap, ◌∙◌}
use Prim.Native.Nat.{ℕ, zero, suc, ◌+◌, ◌*◌, ◌≤◌}
use native.Mathlib.Nat.{add-zero, add-suc}
use mathlib.Core.Bool.{Bool, true, false}
use mathlib.Core.List.{List}
use lib.ListN.{length, take, drop, set, length-set}
use lib.Seq.{length-sets}
use lib.Dec.{eqb, leb, ltb}
use Rattle.kit.specs.Choice.{both}
use Rattle.kit.specs.Limits.{most_windows}
use Rattle.kit.proofs.Choice.{cases}
use Rattle.memory.specs.Windows.{windows_of}
use Rattle.steps.proofs.Keeps.{advance-keeps}
use Rattle.record.specs.declared.reading.Body.{Body}
use Rattle.record.specs.declared.reading.Body.TheVariants.{Settings, Memory, Window, Write, Read, Steps, Astray, Clock}
use Rattle.record.specs.declared.reading.Record.{Record}
use Rattle.std.specs.Prelude.{Option, None, Some}
use Rattle.record.specs.Reading.{reading_of}
use Rattle.session.specs.declared.Mode.{Mode}
use Rattle.session.specs.declared.Mode.TheVariants as modes
use Rattle.session.specs.declared.Session.{Session}
use Rattle.session.specs.Chosen.{two_of, called_of}
use Rattle.session.specs.Effect.{Lent, After}
use Rattle.session.specs.Stepping.{used_of, stops_of, accepted_of, step_line_of}
use Rattle.session.specs.Turn.{apply_of, Turn, stale_of, record_by}
use Rattle.session.specs.Pass.{Replay, swapped, next_on, turn_by, turn_on, turns_of}
use Rattle.session.proofs.Records.{inside}

pub both-no : (t : Bool) → both t false ≡ false
both-no true = refl
both-no false = refl

pub turns-join : (n j base : ℕ) (input : List ℕ) (r : Replay) → turns_of (n + j) base input r ≡ turns_of j base input (turns_of n base input r)
unfolding turns_of
turns-join n zero base input r = ap (λ (k : ℕ). turns_of k base input r) (add-zero n)
turns-join n (suc j) base input r = ap (λ (k : ℕ). turns_of k base input r) (add-suc n j) ∙ ap (turn_on base input) (turns-join n j base input r)

-- the lengths of memory and windows stay
pub record SameLengths (l l' : Lent) : Type 0 where
  pub memory : length l'.memory ≡ length l.memory
  pub windows : length l'.windows ≡ length l.windows

same : (l : Lent) → SameLengths l l
same l = record { memory = refl; windows = refl }

step-lengths : (s : Session) (left taken : ℕ) (lent : Lent) → SameLengths lent (step_line_of s left taken lent).lent
step-lengths s left taken lent =
    cases (λ (a : After). SameLengths lent a.lent) (stops_of s.engine.phase left taken (accepted_of s.engine s.windows (length lent.memory)))
    (λ _. same lent)
    (λ _. record { memory = (advance-keeps s.engine lent.memory (windows_of (take (used_of s.windows) lent.windows))).length; windows = refl })

module _ (s : Session) (position : ℕ) (input : List ℕ) (at : ℕ) (lent : Lent) where
  pub apply-lengths : (n : ℕ) (b : Body) → SameLengths lent (apply_of s n position input at lent b).lent
  unfolding apply_of
  apply-lengths n (Settings two width beats) = same lent
  apply-lengths n (Memory address count) =
      cases (λ (a : After). SameLengths lent a.lent) (ltb (length lent.memory) (address + count)) (λ _. same lent)
      (λ _. record { memory = length-sets lent.memory address (take count (drop (at + 12) input)); windows = refl })
  apply-lengths n (Window start count) =
      cases (λ (a : After). SameLengths lent a.lent) (leb most_windows s.windows) (λ _. same lent)
      (λ _. record {
        memory = refl;
        windows = length-set (set lent.windows (2 * s.windows) start) (2 * s.windows + 1) count ∙ length-set lent.windows (2 * s.windows) start;
      })
  apply-lengths n (Write offset value) = same lent
  apply-lengths n (Read offset) = same lent
  apply-lengths n (Steps count) = same lent
  apply-lengths n Astray = same lent
  apply-lengths n (Clock bits clock) = same lent

-- the lengths stay, and the next place lies in the input
pub record Kept (input : List ℕ) (l : Lent) (at : ℕ) (l' : Lent) : Type 0 where
  pub lengths : SameLengths l l'
  pub within : at ≤ length input

pub record-kept : (s : Session) (position : ℕ) (input : List ℕ) (at : ℕ) (lent : Lent) → at ≤ length input → (v : Option (Record × ℕ))
    → reading_of input at (eqb position 0) (two_of s.chosen) ≡ v → Kept input lent (record_by s position input at lent v).at (record_by s position input at lent v).lent
record-kept s position input at lent h None e = record { lengths = same lent; within = h }
record-kept s position input at lent h (Some (r, next)) e =
    cases (λ (t : Turn). Kept input lent t.at t.lent) (stale_of s.sequence r.sequence r.body) (λ _. record { lengths = same lent; within = h })
    (λ _. record { lengths = apply-lengths s position input at lent r.sequence r.body; within = (inside input at (eqb position 0) (two_of s.chosen) r next e).1 })

-- the next record, and the lengths that it keeps
next-kept : (base : ℕ) (input : List ℕ) (r : Replay) → r.at ≤ length input → Kept input r.lent (next_on base input r).at (next_on base input r).lent
next-kept base input r h =
    record-kept r.session (base + r.at) input r.at r.lent h (reading_of input r.at (eqb (base + r.at) 0) (two_of r.session.chosen)) refl

turn-kept : (base : ℕ) (input : List ℕ) (r : Replay) → r.at ≤ length input → Kept input r.lent (turn_on base input r).at (turn_on base input r).lent
unfolding turn_on
turn-kept base input r h = go r.session.mode
  where
    go : (mode : Mode) → Kept input r.lent (turn_by base input r mode).at (turn_by base input r mode).lent
    go modes.Start = record { lengths = same r.lent; within = h }
    go modes.Records =
        cases (λ (x : Replay). Kept input r.lent (next_on base input x).at (next_on base input x).lent) (called_of r.session.chosen input r.at)
        (λ _. let k = next-kept base input (swapped r) h in record { lengths = record { memory = k.lengths.memory; windows = k.lengths.windows }; within = k.within })
        (λ _. next-kept base input r h)
    go (modes.Steps left taken) = record { lengths = step-lengths r.session left taken r.lent; within = h }
    go modes.Over = record { lengths = same r.lent; within = h }

pub turns-kept : (n base : ℕ) (input : List ℕ) (r : Replay) → r.at ≤ length input → Kept input r.lent (turns_of n base input r).at (turns_of n base input r).lent
unfolding turns_of
turns-kept zero base input r h = record { lengths = same r.lent; within = h }
turns-kept (suc n) base input r h =
    let k = turns-kept n base input r h in
    let t = turn-kept base input (turns_of n base input r) k.within in
    record {
      lengths = record { memory = t.lengths.memory ∙ k.lengths.memory; windows = t.lengths.windows ∙ k.lengths.windows };
      within = t.within;
    }
