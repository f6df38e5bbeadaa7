-- The claims of specs/Joined.antt: a run of n and then one of k are one run of n + k, and so are any number of runs.
use mathlib.Core.Path.{◌≡◌, refl, sym, ap, ap₂, subst, ◌∙◌}
use Prim.Native.Nat.{ℕ, ◌+◌, ◌/◌}
use mathlib.Core.List.{List, [], ◌∷◌, ◌++◌}
use lib.ListN.{length, replicate}
use Rattle.memory.specs.Windows.{windows_of}
use Rattle.state.specs.declared.engine.Engine.{Engine}
use Rattle.steps.specs.declared.event.Event.{Event}
use Rattle.steps.specs.Claims.{Bytes}
use Rattle.runs.specs.Run.{AfterRun, run_of}
use Rattle.runs.proofs.Acceptable.{acceptable-unrefused}
use Rattle.claims.specs.Transfers.{Act, after, steps, left}
use Rattle.claims.specs.Calls.{steps_of}
use Rattle.claims.specs.Events.{events_of}
use Rattle.claims.specs.Joined.{Joined, Join, AfterRuns, sum, JoinAll}
use Rattle.claims.proofs.Acts.{events, after-append, left-append, steps-append, events-append, steps-join}
use Rattle.claims.proofs.Judged.{refusal, Does, Judged, bars, goes, judged, unrefused}

module _ (n k : ℕ) (s : Engine) (m windows : List ℕ) where
  -- a run that does some acts, one that then does others on what they left, and one that does both
  joins : (acts more : List Act) → Does s m windows n acts → Does (after s acts) (left m s acts) windows k more → Does s m windows (n + k) (acts ++ more)
      → refusal (after s acts) (left m s acts) windows ≡ refusal s m windows → ((refusal s m windows ≡ 0 → ⊥) → acts ++ more ≡ []) → Joined n k s m windows
  joins acts more a b c same none =
      let second : run_of k (run_of n s m windows).engine (run_of n s m windows).memory windows ≡ run_of k (after s acts) (left m s acts) windows
      = ap₂ (λ (x : Engine) (y : List ℕ). run_of k x y windows) a.engine a.memory in
      let told : events_of k (run_of n s m windows).engine (run_of n s m windows).memory windows ≡ events_of k (after s acts) (left m s acts) windows
      = ap₂ (λ (x : Engine) (y : List ℕ). events_of k x y windows) a.engine a.memory in
      record {
        engine = ap (λ (x : AfterRun). x.engine) second ∙ b.engine ∙ sym (after-append s acts more) ∙ sym c.engine;
        memory = ap (λ (x : AfterRun). x.memory) second ∙ b.memory ∙ sym (left-append m s acts more) ∙ sym c.memory;
        events = ap₂ (λ (x y : List Event). x ++ y) a.events (told ∙ b.events) ∙ sym (events-append s acts more) ∙ sym c.events;
        steps = ap₂ ◌+◌ a.steps (ap (λ (x : AfterRun). x.steps) second ∙ b.steps) ∙ sym (steps-append acts more) ∙ sym c.steps;
        answer = a.answer ∙ sym c.answer;
        again = ap (λ (x : AfterRun). x.answer) second ∙ b.answer ∙ same ∙ sym a.answer;
        unchanged = λ refused.
            let e = none (λ z. refused (a.answer ∙ z)) in
            (c.engine ∙ ap (after s) e, c.memory ∙ ap (left m s) e, c.events ∙ ap (events s) e, c.steps ∙ ap steps e);
      }

pub join : Join
join n k s m windows bytes = go (judged s m windows)
  where
    acts : List Act
    acts = steps_of n s m (windows_of windows)

    go : Judged s m windows → Joined n k s m windows
    go (bars z d) = joins n k s m windows [] [] (d n) (d k) (d (n + k)) refl (λ _. refl)
    go (goes e d) = later (judged (after s acts) (left m s acts) windows)
      where
        accepted : refusal (after s acts) (left m s acts) windows ≡ 0
        accepted = acceptable-unrefused (after s acts) (left m s acts) (length windows / 2) (unrefused n s m windows bytes e)

        later : Judged (after s acts) (left m s acts) windows → Joined n k s m windows
        later (bars z b) = absurd (z accepted)
        later (goes z b) =
            joins n k s m windows acts (steps_of k (after s acts) (left m s acts) (windows_of windows)) (d n) (b k)
            (subst (Does s m windows (n + k)) (steps-join (windows_of windows) k n s m) (d (n + k))) (z ∙ sym e) (λ refused. absurd (refused e))

-- ---- any number of runs

-- memory holds bytes after a run too
run-bytes : (n : ℕ) (s : Engine) (m windows : List ℕ) → Bytes m → Bytes (run_of n s m windows).memory
run-bytes n s m windows bytes = go (judged s m windows)
  where
    go : Judged s m windows → Bytes (run_of n s m windows).memory
    go (bars z d) = subst Bytes (sym (d n).memory) bytes
    go (goes e d) = subst Bytes (sym (d n).memory) (unrefused n s m windows bytes e).bytes

-- a run of no steps does nothing
run_none : (s : Engine) (m windows : List ℕ) → Does s m windows 0 []
unfolding steps_of
run_none s m windows = go (judged s m windows)
  where
    go : Judged s m windows → Does s m windows 0 []
    go (bars z d) = d 0
    go (goes e d) = d 0

pub join-all : JoinAll
join-all [] s m windows bytes =
    let d = run_none s m windows in
    λ i. record { answers = []; events = sym d.events i; steps = sym d.steps i; engine = sym d.engine i; memory = sym d.memory i }
join-all (n ∷ more) s m windows bytes =
    let now = run_of n s m windows in
    let j = join n (sum more) s m windows bytes in
    ap (λ (later : AfterRuns). record {
      answers = now.answer ∷ later.answers;
      events = events_of n s m windows ++ later.events;
      steps = now.steps + later.steps;
      engine = later.engine;
      memory = later.memory;
    }) (join-all more now.engine now.memory windows (run-bytes n s m windows bytes))
    ∙ (λ i. record {
      answers = j.answer i ∷ replicate (length more) ((j.again ∙ j.answer) i);
      events = j.events i;
      steps = j.steps i;
      engine = j.engine i;
      memory = j.memory i;
    })
