-- The whole case, by computing it.
use mathlib.Core.Path.{refl}
use Rattle.kit.specs.Settings.{legal_width, legal_beats}
use Rattle.cut.specs.Cut.{reach, burst_end}
use Rattle.memory.specs.Verdict.{group_of}
use Rattle.sides.specs.Sides.{side_answer, side_read, side_written}
use Rattle.memory.specs.Windows.{sick}
use Rattle.state.specs.State.{well_formed_of}
use Rattle.registers.specs.Write.{register_written_of}
use Rattle.runs.specs.Run.{refusal_of}
use Rattle.steps.specs.Step.{advance_of}
use Rattle.record.specs.Mark.{kind_of}
use Rattle.record.specs.Reading.{reading_of}
use Rattle.digits.specs.Decimal.{digits_by, digits_of}
use Rattle.listing.specs.Line.{line_of, header_of}
use Rattle.session.specs.Turn.{apply_of}
use Rattle.session.specs.Pass.{turn_on}
use Rattle.whole.specs.Listing.{list_from, listing_of}
use Rattle.whole.specs.Cases.{WholeCase}

pub whole-case : WholeCase
unfolding legal_width legal_beats reach burst_end group_of sick well_formed_of register_written_of refusal_of advance_of kind_of reading_of digits_by digits_of line_of header_of apply_of turn_on list_from listing_of side_answer side_read side_written
whole-case = refl
