use Rattle.std.proofs.Common.{◌≡◌, take, drop}
use Rattle.script.specs.Line.{words_after, words_of}
use Rattle.script.proofs.line.word_len.Given as goal

abbrev pub invariant-loop-i : goal.invariant-loop-i
invariant-loop-i l = words_after (take l.i l.line) (drop l.i l.line) ≡ words_of l.line
