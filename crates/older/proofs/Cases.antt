-- The short cases, by computing them.
use mathlib.Core.Path.{refl}
use Rattle.kit.specs.Settings.{legal_width, legal_beats}
use Rattle.cut.specs.Cut.{reach, burst_end}
use Rattle.memory.specs.Verdict.{group_of}
use Rattle.memory.specs.Windows.{sick}
use Rattle.sides.specs.Sides.{side_answer, side_read, side_written}
use Rattle.state.specs.State.{well_formed_of}
use Rattle.registers.specs.Write.{register_written_of}
use Rattle.runs.specs.Run.{refusal_of}
use Rattle.steps.specs.Step.{advance_of}
use Rattle.reads.specs.Read.{register_of}
use Rattle.record.specs.Mark.{kind_of}
use Rattle.record.specs.Reading.{reading_of}
use Rattle.digits.specs.Decimal.{digits_by, digits_of}
use Rattle.listing.specs.Line.{line_of, header_of}
use Rattle.session.specs.Turn.{apply_of}
use Rattle.session.specs.Pass.{turn_on}
use Rattle.whole.specs.Listing.{list_from, listing_of}
use Rattle.older.specs.Lines.{lines_from}
use Rattle.older.specs.Former.{former_from}
use Rattle.older.specs.Cases.{DefaultCases, PairCases}

pub default-cases : DefaultCases
unfolding legal_width legal_beats well_formed_of register_of kind_of reading_of digits_by digits_of line_of header_of apply_of turn_on list_from listing_of lines_from
default-cases = record {
  default = refl;
  older = refl;
  converted = refl;
  zero-first = refl;
  zero-memory = refl;
  zero-window = refl;
  zero-write = refl;
  zero-steps = refl;
  zero-clock = refl;
  zero-next = refl;
  zero-older = refl;
  settings-zero = refl;
  settings-refused = refl;
  settings-older = refl;
  cut = refl;
  letter = refl;
  empty = refl;
  empty-converted = refl;
}

pub pair-cases : PairCases
unfolding legal_width legal_beats reach burst_end group_of sick well_formed_of register_of register_written_of refusal_of advance_of side_answer side_read side_written kind_of reading_of digits_by digits_of line_of header_of apply_of turn_on list_from listing_of lines_from former_from
pair-cases = record {
  separate = refl;
  reset = refl;
  settled = refl;
  none-write = refl;
  none_read = refl;
  none-steps = refl;
  none-offset = refl;
  none-again = refl;
  none-cut = refl;
  late = refl;
  again = refl;
  off = refl;
  short = refl;
  kept = refl;
  former = refl;
  older = refl;
}
