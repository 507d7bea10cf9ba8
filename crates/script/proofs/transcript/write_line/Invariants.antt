use Rattle.std.proofs.Common.{◌≡◌, take, vec_items}
use Rattle.script.specs.Line.{texts}
use Rattle.script.specs.Transcript.{spaced}
use Rattle.script.proofs.transcript.write_line.Given as goal

abbrev pub invariant-loop-word : goal.invariant-loop-word
invariant-loop-word l = vec_items l.text ≡ spaced (take l.word-index (texts l.words))
