use Rattle.std.proofs.Common.{arith, rules}
use Rattle.script.proofs.Digits.{digit_read, no_digit, all_read}
use Rattle.script.proofs.number.in_base.Goals as goal

pub returns-in_default : goal.returns-in_default
returns-in_default c = search (rules, no_digit)

pub loop-byte-preserved : goal.loop-byte-preserved
loop-byte-preserved c = (omega arith, search (rules, digit_read))

pub returns-then-number : goal.returns-then-number
returns-then-number c = search (rules, all_read)

pub returns-else-number : goal.returns-else-number
returns-else-number c = search (rules, all_read)
