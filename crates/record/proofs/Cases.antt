-- The cases of specs/Cases.antt, computed.
use mathlib.Core.Path.{refl}
use Rattle.record.specs.Mark.{kind_of}
use Rattle.record.specs.Reading.{reading_of}
use Rattle.record.specs.Cases.{Cases}

pub cases : Cases
unfolding kind_of reading_of
cases = record { first = refl; second = refl; third = refl; fourth = refl; fifth = refl; ended = refl; late = refl; astray = refl; pair-first = refl; pair-second = refl; pair-third = refl; pair-fourth = refl; pair-fifth = refl; engines = (refl, refl, refl, refl); pair-late = refl; pair-short = refl; pair-alone = refl }
