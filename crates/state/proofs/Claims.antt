-- What specs/Claims.antt says, inhabited.
use Rattle.state.specs.Claims.{Claims}
use Rattle.state.proofs.Start.{start_fits, start-suits, suited-starts}
use Rattle.state.proofs.WellFormed.{transfer-fits, transfer-fits-test, well-formed, well-formed-test, fresh-well-formed}

pub claims : Claims
claims = record {
  transfer-fits = transfer-fits;
  transfer-fits-test = transfer-fits-test;
  well-formed = well-formed;
  well-formed-test = well-formed-test;
  fresh-well-formed = fresh-well-formed;
  start_fits = start_fits;
  start-suits = start-suits;
  suited-starts = suited-starts;
}
