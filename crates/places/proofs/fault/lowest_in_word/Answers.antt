use mathlib.Core.Path.{ap₂, ◌∙◌}
use Rattle.places.specs.Places.{first_found}
use Rattle.places.proofs.Words.{word-lowest}
use Rattle.places.proofs.fault.lowest_in_word.Goals as goal

-- The lowest byte in a fixed word meets its contract.
pub returns : goal.returns
returns c =
    let a = c.args in
    c.or.ensures
    ∙ ap₂ first_found c.lowest-low.ensures c.lowest-high.ensures
    ∙ word-lowest a.width a.start a.from a.count _ _ c.requires.0 c.min-used.ensures c.min-upper.ensures _ _ _
