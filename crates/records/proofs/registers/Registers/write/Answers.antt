use Rattle.std.proofs.Common.{length, ap, ◌∙◌, arith}
use Rattle.std.proofs.lemmas.List.{length-take, take_at}
use Rattle.records.proofs.registers.Registers.write.Goals as goal

pub copy_from_slice-requires : goal.copy_from_slice-requires
copy_from_slice-requires c = omega (arith, length-take 29 c.args.buffer.now)

pub returns-clause-front : goal.returns-clause-front
returns-clause-front c =
    take_at c.copy_from_slice.new.self _ 29 (ap length c.copy_from_slice.ensures.after ∙ c.record.ensures.size)
    ∙ c.copy_from_slice.ensures.after
    ∙ c.record.ensures.value
