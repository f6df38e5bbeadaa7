use Rattle.std.proofs.Common.{◌∙◌, rules, tests}
use Rattle.std.proofs.lemmas.Iterator.{YieldsList-from_slice}
use Rattle.std.proofs.lemmas.Iterator.Search.{any_from_yields_List}
use Rattle.memory.specs.declared.window.Window.{Window}
use Rattle.memory.specs.Interval.{touches_of}
use Rattle.windows.proofs.Looks.{touched_of-any}
use Rattle.windows.proofs.lookup.sick_among.Goals as goal

pub returns : goal.returns
returns c =
    let a = c.args in
    any_from_yields_List (λ (w : Window). touches_of w a.start a.end) _ _ _ c.any.ensures.ran (YieldsList-from_slice a.windows.now cc) (λ x b q k. search (rules, tests))
    ∙ touched_of-any a.windows.now a.start a.end
