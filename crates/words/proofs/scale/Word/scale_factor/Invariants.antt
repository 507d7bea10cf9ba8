use Rattle.std.proofs.Common.{◌≡◌, ◌+◌, ◌-◌}
use Rattle.words.specs.Scale.{turns_within, scale_factor}
use Rattle.words.proofs.scale.Word.scale_factor.Given as goal

abbrev pub invariant-loop-count : goal.invariant-loop-count
invariant-loop-count l = l.count + turns_within (28 - l.count) l.word ≡ scale_factor l.fn.self
