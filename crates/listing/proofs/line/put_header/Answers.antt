use Rattle.listing.specs.Line.{header_of}
use native.Mathlib.Omega.{arith}
use Rattle.listing.proofs.Lines.{header-put}
use Rattle.listing.proofs.line.put_header.Goals as goal

pub returns : goal.returns
unfolding header_of
returns c = let a = c.args in header-put a.out.now a.at c.copy_from_slice.new.self (omega arith) c.copy_from_slice.ensures.after
