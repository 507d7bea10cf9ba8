use Rattle.std.proofs.Common.{rules}
use Rattle.script.proofs.Words.{goes_on, stops, finishes}
use Rattle.script.proofs.line.word_len.Goals as goal

pub returns-then-ends_word : goal.returns-then-ends_word
returns-then-ends_word c = search (rules, stops)

pub loop-i-preserved : goal.loop-i-preserved
loop-i-preserved c = search (rules, goes_on)

pub returns : goal.returns
returns c = search (rules, finishes)
