use Rattle.std.proofs.Common.{rules}
use Rattle.script.proofs.Texts.{texts_short, text_at}
use Rattle.script.proofs.statement.raw.Goals as goal
use Rattle.script.proofs.statement.raw.Goals.{in_default-via-then-args-lt1, in_default-via-in-len1-up+else-eq}

pub returns-in_default : goal.returns-in_default
returns-in_default c = elim c.in_default.branch [
  | in_default-via-then-args-lt1 w ↦ search (rules, texts_short)
  | in_default-via-in-len1-up+else-eq w ↦ search (rules, text_at)
]
