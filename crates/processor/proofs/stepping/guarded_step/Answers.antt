use Rattle.processor.specs.Limits.{machine_in}
use Rattle.processor.proofs.Fitting.{registers_if_interrupted}
use Rattle.processor.proofs.stepping.guarded_step.Goals as goal

pub returns-clause-registers : goal.returns-clause-registers
returns-clause-registers g c =
    let m = machine_in (g.S.Store.cells c.args.store.now) c.args.limits c.args.registers.now in
    let given = c.in-Err.ensures in
    rw (c.drop-guard-2.ensures, c.set_p.ensures, c.p_after.ensures, c.p-p.ensures.value)
    (registers_if_interrupted m given.bounded.0 c.p-p.ensures.fits c.in-Err.report given.answer)
