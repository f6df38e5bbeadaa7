-- The claims of specs/Claims.antt.
use Rattle.spelling.specs.Claims.{Spelling}
use Rattle.spelling.proofs.Listed.{spelled_same}
use Rattle.spelling.proofs.Engines.{sound-well-formed}
use Rattle.spelling.proofs.Midst.{moves-told}

pub spelling : Spelling
spelling = record {
  spelled = spelled_same;
  sound = sound-well-formed;
  moves = moves-told;
}
