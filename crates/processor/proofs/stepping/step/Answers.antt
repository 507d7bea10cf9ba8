use Rattle.std.proofs.Common.{◌≡◌, Err, Ok, Result, refl}
use Rattle.std.specs.Prelude.{OnErr}
use Rattle.processor.specs.declared.report.Report.{Report}
use Rattle.processor.specs.Limits.{machine_in}
use Rattle.processor.proofs.Between.{all_between, becomes_row}
use Rattle.processor.proofs.Fitting.{step_registers_fit}
use Rattle.processor.proofs.Kept.{step_interrupted, step_words_kept}
use Rattle.processor.proofs.Outside.{others_kept}
use Rattle.processor.proofs.Whole.{step_answer_of_cell}
use Rattle.processor.proofs.stepping.step.Goals as goal

pub returns-clause-row : goal.returns-clause-row
returns-clause-row g c = becomes_row (g.S.Store.cells c.args.store.now) c.args.limits _ (g.S.Store.cells c.guarded_step.new.store) c.guarded_step.ensures.words

pub returns-clause-other_cells : goal.returns-clause-other_cells
returns-clause-other_cells g c =
    let m = machine_in (g.S.Store.cells c.args.store.now) c.args.limits c.args.registers.now in
    others_kept (g.S.Store.cells c.args.store.now) c.args.limits _ (g.S.Store.cells c.guarded_step.new.store) c.guarded_step.ensures.words (step_words_kept m)

pub returns-clause-widths : goal.returns-clause-widths
returns-clause-widths g c =
    let m = machine_in (g.S.Store.cells c.args.store.now) c.args.limits c.args.registers.now in
    let given = c.guarded_step.ensures in
    rw given.registers (step_registers_fit m given.bounded.0 given.fits)

on_err : (X : Type 0) (r : Result (Unit {0}) Report) → ((report : Report) → r ≡ Err report → X) → OnErr r X
on_err X (Ok u) holds = tt
on_err X (Err report) holds = holds report refl

pub returns-clause-interrupted_registers : goal.returns-clause-interrupted_registers
returns-clause-interrupted_registers g c =
    let m = machine_in (g.S.Store.cells c.args.store.now) c.args.limits c.args.registers.now in
    let given = c.guarded_step.ensures in
    on_err _ c.guarded_step.result (λ report is. rw given.registers (step_interrupted m report (rw (← is) given.answer)))

pub returns-clause-as_many_words : goal.returns-clause-as_many_words
returns-clause-as_many_words g c =
    let m = machine_in (g.S.Store.cells c.args.store.now) c.args.limits c.args.registers.now in
    rw c.guarded_step.ensures.words.there (step_words_kept m)

pub returns-clause-found : goal.returns-clause-found
returns-clause-found g c =
    let row = g.S.Store.cells c.args.store.now in
    let m = machine_in row c.args.limits c.args.registers.now in
    λ within. rw c.guarded_step.ensures.answer (step_answer_of_cell m (all_between row c.args.limits within))
