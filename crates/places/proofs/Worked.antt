-- The worked groups, by computing them.
use mathlib.Core.Path.{refl}
use Rattle.memory.specs.Windows.{sick}
use Rattle.memory.specs.Verdict.{group_of}
use Rattle.places.specs.Places.{lowest_of, holder_of}
use Rattle.places.specs.Locate.{located_of}
use Rattle.places.specs.Worked.{Worked}

pub worked : Worked
unfolding sick group_of lowest_of holder_of located_of
worked = record {
  fits = refl;
  empty = refl;
  lowest-byte = refl;
  first-window = refl;
  started-before = refl;
  past_the_end = refl;
  empty-window = refl;
  decode-first = refl;
  all_past = refl;
  wrapped = refl;
  part-of-word = refl;
  source_first = refl;
  destination = refl;
  both-past = refl;
  decode-wins = refl;
  two-first = refl;
  six = refl;
  odd-last = refl;
}
