use native.Mathlib.Omega.{arith}
use Rattle.replay.proofs.Passes.{pass-within}
use Rattle.flow.proofs.Pending.{pending-length}
use Rattle.replay.proofs.forward.Goals as goal

pub after_pass-requires : goal.after_pass-requires
after_pass-requires c =
    let a = c.args in
    let fits = c.requires.0 in
    let used = pass-within c.pass-passed.ensures in
    let long = pending-length a.flow a.buffer.now fits in
    (omega (arith, used, long, fits.begins), omega (arith, used, long, fits.within, c.requires.1))

pub returns : goal.returns
returns c =
    record { passed = c.pass-passed.result; sent = c.send-sent.result; passes = c.pass-passed.ensures; is = c.after_pass.ensures }
