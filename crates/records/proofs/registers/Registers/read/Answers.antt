use Rattle.std.proofs.Common.{rules}
use Rattle.records.proofs.Again.{written_again}
use Rattle.records.proofs.registers.Registers.read.Goals as goal

pub returns-clause-writes_again : goal.returns-clause-writes_again
returns-clause-writes_again c = written_again c.args.bytes.now c.in_record.result (search rules) c.in_record.ensures
