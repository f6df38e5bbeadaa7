-- A run by its acts: refused, it has none and leaves all as it was; else it leaves what its steps leave.
use mathlib.Core.Path.{◌≡◌, refl, sym, ap, ◌∙◌}
use mathlib.Core.Logic.{◌⊎◌, inl, inr}
use Prim.Native.Nat.{ℕ, ◌/◌}
use mathlib.Core.Bool.{true, false}
use mathlib.Core.List.{List, []}
use lib.ListN.{length}
use lib.Dec.{eqb}
use borrow.Author.Tests.{eqb-true, eqb-false}
use Rattle.kit.proofs.Choice.{yes, no, decide}
use Rattle.memory.specs.Windows.{windows_of}
use Rattle.state.specs.declared.engine.Engine.{Engine}
use Rattle.steps.specs.Claims.{Bytes}
use Rattle.runs.specs.Run.{refusal_of, AfterRun, run_of}
use Rattle.runs.specs.Claims.{Acceptable}
use Rattle.runs.proofs.Acceptable.{unrefused-acceptable}
use Rattle.runs.proofs.Entries.{run-refused, run-taken}
use Rattle.claims.specs.Transfers.{Act, after, steps, left}
use Rattle.claims.specs.Calls.{steps_of}
use Rattle.claims.specs.Events.{events_of}
use Rattle.claims.proofs.Acts.{events, steps-acceptable, steps-events}
use Rattle.claims.proofs.Calls.{run}

module _ (s : Engine) (m windows : List ℕ) where
  -- a run's refusal
  abbrev pub refusal : ℕ
  refusal = refusal_of s (length m) (length windows / 2)

  -- a run of at most n steps that does these acts and no others, and whose answer is the refusal
  pub record Does (n : ℕ) (acts : List Act) : Type 0 where
    pub answer : (run_of n s m windows).answer ≡ refusal
    pub steps : (run_of n s m windows).steps ≡ steps acts
    pub engine : (run_of n s m windows).engine ≡ after s acts
    pub memory : (run_of n s m windows).memory ≡ left m s acts
    pub events : events_of n s m windows ≡ events s acts

  refused : (n : ℕ) → eqb refusal 0 ≡ false → Does n []
  unfolding events_of
  refused n e =
      let r = sym (run-refused s m windows refl n (eqb-false refusal 0 e)) in
      record {
        answer = ap (λ (x : AfterRun). x.answer) r;
        steps = ap (λ (x : AfterRun). x.steps) r;
        engine = ap (λ (x : AfterRun). x.engine) r;
        memory = ap (λ (x : AfterRun). x.memory) r;
        events = sym (no _ e refl);
      }

  taken : (n : ℕ) → eqb refusal 0 ≡ true → Does n (steps_of n s m (windows_of windows))
  unfolding events_of
  taken n e =
      let r = sym (run-taken s m windows refl n (eqb-true refusal 0 e) refl) in
      let k = run n s m (windows_of windows) in
      record {
        answer = ap (λ (x : AfterRun). x.answer) r;
        steps = ap (λ (x : AfterRun). x.steps) r ∙ k.count;
        engine = ap (λ (x : AfterRun). x.engine) r ∙ k.engine;
        memory = ap (λ (x : AfterRun). x.memory) r ∙ k.memory;
        events = sym (yes _ e refl) ∙ steps-events (windows_of windows) n s m;
      }

  -- every run is one or the other
  pub data Judged : Type 0 where
    bars : (refusal ≡ 0 → ⊥) → ((n : ℕ) → Does n []) → Judged
    goes : refusal ≡ 0 → ((n : ℕ) → Does n (steps_of n s m (windows_of windows))) → Judged

  pub judged : Judged
  judged = go (decide (eqb refusal 0))
    where
      go : (eqb refusal 0 ≡ true) ⊎ (eqb refusal 0 ≡ false) → Judged
      go (inl e) = goes (eqb-true refusal 0 e) (λ n. taken n e)
      go (inr e) = bars (eqb-false refusal 0 e) (λ n. refused n e)

-- what a run that is not refused leaves is not refused
pub unrefused : (n : ℕ) (s : Engine) (m windows : List ℕ) → Bytes m → refusal s m windows ≡ 0
    → let acts = steps_of n s m (windows_of windows) in Acceptable (after s acts) (left m s acts) (length windows / 2)
unrefused n s m windows bytes e =
    steps-acceptable (windows_of windows) (length windows / 2) n s m (unrefused-acceptable s m (length windows / 2) e bytes)
