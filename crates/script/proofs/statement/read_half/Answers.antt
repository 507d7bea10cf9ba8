use Rattle.std.proofs.Common.{codes, arith, rules}
use Rattle.std.proofs.lemmas.Slice.Eq.{text_from_reads}
use Rattle.script.proofs.statement.read_half.Goals as goal

pub returns-in-upper : goal.returns-in-upper
returns-in-upper c =
    let is = text_from_reads c.args.word.now (codes "upper") (omega arith) (search rules) in rw is

pub returns-in-lower : goal.returns-in-lower
returns-in-lower c =
    let is = text_from_reads c.args.word.now (codes "lower") (omega arith) (search rules) in rw is
