-- A burst that goes on, moved over the words: what a step leaves.
use mathlib.Core.Path.{◌≡◌, refl, sym, ap, subst, ◌∙◌}
use Prim.Native.Nat.{ℕ, ◌+◌, ◌/◌, ◌^◌, ◌≤◌, ◌<◌}
use mathlib.Core.Bool.{true, false, ◌&&◌}
use mathlib.Core.List.{List}
use native.Mathlib.Omega.{arith}
use lib.ListN.{length, set}
use lib.Dec.{eqb, leb}
use borrow.Author.Tests.{eqb-true, leb-true}
use Rattle.kit.specs.Limits.{most_memory, most_windows}
use Rattle.kit.specs.Settings.{legal_of}
use Rattle.kit.specs.declared.settings.Settings.{Settings}
use Rattle.cut.specs.declared.Burst.{Burst}
use Rattle.memory.specs.Windows.{windows_of}
use Rattle.state.specs.declared.engine.Engine.{Engine}
use Rattle.state.specs.declared.engine.Transfer.{Transfer}
use Rattle.state.specs.declared.engine.Phase.TheVariants.{Move}
use Rattle.state.specs.State.{well_formed_of, with_phase}
use Rattle.state.proofs.WellFormed.{transfer-fits, parts}
use Rattle.steps.specs.Step.{AfterAdvance, advance_of}
use Rattle.steps.specs.Claims.{Bytes}
use Rattle.steps.specs.declared.event.Event.TheVariants.{Move as MoveEvent}
use Rattle.steps.proofs.Keeps.{advance-well-formed}
use Rattle.std.specs.Prelude.{Some}
use Rattle.moves.specs.Moves.{MovesOn, moved_to}
use Rattle.runs.specs.Run.{step_answer, step_of}
use Rattle.runs.specs.Claims.{Acceptable}
use Rattle.runs.proofs.Entries.{step-advances}
use Rattle.words.specs.EngineWords.{word, settings_from, transfer_from, engine_from}
use Rattle.spelling.specs.Spelling.{moves_of}
use Rattle.spelling.proofs.Listed.{apart}
use Rattle.spelling.proofs.Midst.{Midst, midst, moved-words}
use Rattle.interface.specs.Calls.{step_report_of, step_words_seen, words_after_step, step_words_of}
use Rattle.interface.specs.Moving.{goes_on_of}

-- what is judged, by name
pub record Judged (w : List ℕ) (size windows : ℕ) : Type 0 where
  pub legal : legal_of (settings_from w) ≡ true
  pub small : size ≤ most_memory
  pub few : windows ≤ most_windows
  pub moves : moves_of w ≡ true
  pub source : eqb (word w 20) 1 ≡ false
  pub destination : eqb (word w 21) 1 ≡ false

pub judged : (w : List ℕ) (size windows : ℕ) → goes_on_of w size windows ≡ true → Judged w size windows
judged w size windows e =
    let legal = legal_of (settings_from w) in
    let small = leb size most_memory in
    let few = leb windows most_windows in
    let d = apart (legal && small && few && moves_of w && eqb (word w 20) 0) (eqb (word w 21) 0) e in
    let h = apart (legal && small && few && moves_of w) (eqb (word w 20) 0) d.0 in
    let a = apart (legal && small && few) (moves_of w) h.0 in
    let b = apart (legal && small) few a.0 in
    let c = apart legal small b.0 in
    record {
      legal = c.0;
      small = leb-true size most_memory c.1;
      few = leb-true windows most_windows b.1;
      moves = a.1;
      source = ap (λ (x : ℕ). eqb x 1) (eqb-true (word w 20) 0 h.1);
      destination = ap (λ (x : ℕ). eqb x 1) (eqb-true (word w 21) 0 d.1);
    }

module _ (w m windows : List ℕ) (bytes : Bytes m) (j : Judged w (length m) (length windows / 2)) where
  inside : Midst w
  inside = midst w j.moves

  acceptable : Acceptable (engine_from w) m (length windows / 2)
  acceptable = record { legal = j.legal; small = j.small; few = j.few; well = inside.well-formed; bytes = bytes }

  -- the engine after `b` more bytes
  abbrev further : Burst → Engine
  further b = with_phase (engine_from w) (Move (moved_to (transfer_from w) (word w 19 + b.bytes)))

  module _ (b : Burst) {after : List ℕ} where
    -- the step of the engine that the words spell
    pub advanced : {x : Settings} {t : Transfer} → x ≡ settings_from w → t ≡ transfer_from w → MovesOn x t (windows_of windows) m (Some b) after
        → advance_of (engine_from w) m (windows_of windows) ≡ record { event = MoveEvent b; engine = further b; memory = after }
    advanced {x} {t} e f moves =
        subst (λ (u : Transfer). MovesOn (settings_from w) u (windows_of windows) m (Some b) after) f
        (subst (λ (y : Settings). MovesOn y t (windows_of windows) m (Some b) after) e moves)
        (engine_from w) (record { set = refl; source = j.source; destination = j.destination; phase = inside.phase })

    module _ (moved : advance_of (engine_from w) m (windows_of windows) ≡ record { event = MoveEvent b; engine = further b; memory = after }) where
      -- the sum of the bytes moved is a word
      pub sum_fits : word w 19 + b.bytes < 2 ^ 32
      sum_fits =
          let well = advance-well-formed (engine_from w) m (windows_of windows) j.legal j.small bytes inside.well-formed in
          let still = subst (λ (r : AfterAdvance). well_formed_of r.engine ≡ true) moved well in
          let f = transfer-fits (moved_to (transfer_from w) (word w 19 + b.bytes)) (parts (further b) still).phase in
          omega (arith, f.moved-less, f.total-small)

      -- the words and the memory after it, and what is told
      pub moved-left : step_words_seen (step_report_of 0 (MoveEvent b)) (set w 19 (word w 19 + b.bytes)) after ≡ step_words_of w m windows
      moved-left =
          ap (λ (l : List ℕ). step_words_seen (step_report_of 0 (MoveEvent b)) l after) (moved-words w inside (word w 19 + b.bytes))
          ∙ sym
          (ap (λ (s : Engine). words_after_step (step_of s m windows) w) inside.held
          ∙ ap (λ r. words_after_step r w) (step-advances (engine_from w) m windows acceptable)
          ∙ ap (λ (r : AfterAdvance). words_after_step (step_answer 0 r) w) moved)
