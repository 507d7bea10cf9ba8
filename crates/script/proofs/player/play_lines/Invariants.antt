use Rattle.std.proofs.Common.{◌≡◌, ◌+◌, length, drop, vec_items}
use Rattle.script.specs.Script.{lines_played}
use Rattle.script.specs.Session.{nothing}
use Rattle.script.proofs.Lines.{parts_of}
use Rattle.script.proofs.player.play_lines.Given as goal

abbrev pub invariant-loop-index : goal.invariant-loop-index
invariant-loop-index l = lines_played (vec_items l.transcript) l.session (length l.yielded + 1) (drop (length l.yielded) (parts_of l.script)) ≡ lines_played (vec_items l.fn.transcript) nothing 1 (parts_of l.script)
