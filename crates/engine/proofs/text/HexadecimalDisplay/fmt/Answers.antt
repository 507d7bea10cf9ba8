use Rattle.std.proofs.Common.{ℕ, ◌-◌, ◌^◌, false, [], get_or, rules, arith}
use Rattle.std.proofs.Output.{has_written_append, has_written_of_eq}
use Rattle.std.specs.Fmt.{digits, padded_integral, format_spec}
use Rattle.engine.proofs.Written.{no_bytes, one_byte_more}
use Rattle.engine.proofs.text.HexadecimalDisplay.fmt.Goals as goal

pub loop-byte-init : goal.loop-byte-init
loop-byte-init g c = rw no_bytes (search rules)

pub loop-byte-preserved : goal.loop-byte-preserved
loop-byte-preserved g c p =
    let byte : ℕ = get_or c.args.self.now.0.now c.loop-byte.byte-index 0 in
    has_written_of_eq _ _ _ _ _ (one_byte_more c.args.self.now.0.now c.loop-byte.byte-index c.loop-byte-test.true (omega arith))
    (has_written_append _ _ _ _ (padded_integral (format_spec 32 0 4 2 (2 ^ 64 - 1)) false [] (digits 16 false byte)) _ (c.loop-byte.invariant p) (search rules))
