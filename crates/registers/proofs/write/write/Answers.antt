use Rattle.registers.proofs.Writes.{refused-stays}
use Rattle.registers.proofs.write.write.Goals as goal

pub returns-in-Err : goal.returns-in-Err
returns-in-Err c = refused-stays c.args.engine c.args.offset c.args.value c.write_to.ensures c.in-Err.is
