use Rattle.std.proofs.Common.{codes, arith, rules}
use Rattle.std.proofs.lemmas.Slice.Eq.{text_from_reads}
use Rattle.script.proofs.statement.read_kind.Goals as goal

pub returns-in-parity : goal.returns-in-parity
returns-in-parity c =
    let is = text_from_reads c.args.word.now (codes "parity") (omega arith) (search rules) in search rules
