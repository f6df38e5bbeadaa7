use Prim.Native.Nat.{◌/◌}
use mathlib.Core.Path.{sym, ap, ◌∙◌}
use lib.ListN.{length}
use Rattle.kit.specs.Settings.{legal_of}
use Rattle.memory.specs.Windows.{windows_of}
use Rattle.state.specs.declared.engine.Engine.{Engine}
use Rattle.state.specs.State.{well_formed_of}
use Rattle.steps.specs.Step.{begun}
use Rattle.runs.specs.Run.{walk_from}
use Rattle.interface.proofs.CallResults.{walk-taken}
use Rattle.interface.proofs.Judges.{Accepted, accepted, stored-steps}
use Rattle.interface.proofs.stepping.walk_words.Goals as goal
use Rattle.interface.proofs.stepping.walk_words.Goals.{After-engine_from}

taken : (c : After-engine_from) → let a = c.args in Accepted a.words.now a.memory.now (length a.windows.now / 2)
taken c =
    let a = c.args in
    accepted a.words.now a.memory.now (length a.windows.now / 2) (sym c.in_ok-judge_words.ensures) (λ i. (c.type_inv.memory i).fits)

pub walk-walked-requires : goal.walk-walked-requires
walk-walked-requires c =
    let p = (taken (goal.at.walk-walked-requires c).After-engine_from).acceptable in
    let same = c.engine_from.ensures in
    record {
      settings_value = ap (λ (s : Engine). legal_of s.settings) same ∙ p.legal;
      memory_len_bound = p.small;
      engine_value = ap (λ (s : Engine). well_formed_of s) same ∙ p.well;
    }

pub returns : goal.returns
returns c =
    let a = c.args in
    let w = a.words.now in
    let m = a.memory.now in
    let windows = windows_of a.windows.now in
    let walked = c.walk-walked in
    let held = taken (goal.at.returns c).After-engine_from in
    let walks = walked.ensures ∙ ap (λ (s : Engine). walk_from a.most 0 (begun s m) windows) c.engine_from.ensures in
    walk-taken a.most w m a.windows.now walked.result c.in_ok-judge_words.ensures
    (walks ∙ ap (λ (s : Engine). walk_from a.most 0 (begun s m) windows) (sym held.engine))
    (c.store_stepped.ensures ∙ stored-steps w m windows a.most walked.result held walks)
