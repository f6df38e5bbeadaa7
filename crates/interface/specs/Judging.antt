-- include/belikumba.h, "Memory": what C sees of a group of bytes.
use Rattle.places.specs.Locate.{verdict_number, Location}
use Rattle.interface.specs.declared.judging.JudgedForC.{JudgedForC}

abbrev pub judged_for_c : Location → JudgedForC
judged_for_c r = record { answer = r.answer; verdict = verdict_number r.verdict; place = r.place; window = r.window }
