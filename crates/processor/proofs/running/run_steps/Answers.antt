use Rattle.std.proofs.Common.{◌≡◌, ◌+◌, sym, ap, ◌∙◌}
use Rattle.processor.specs.declared.outcome.Ending.TheVariants.{Spent, Interrupted}
use Rattle.processor.specs.Limits.{machine_in}
use Rattle.processor.specs.Run.{Outcome, run}
use Rattle.processor.specs.Step.{machine_after, step}
use Rattle.processor.proofs.Doing.{completed_all, completes_at, completes_on}
use Rattle.processor.proofs.Fitting.{step_registers_fit}
use Rattle.processor.proofs.Going.{becomes_then, ends, goes_on, spent}
use Rattle.processor.proofs.running.run_steps.Given.{Over}
use Rattle.processor.proofs.running.run_steps.Goals as goal

pub loop-done-preserved : goal.loop-done-preserved
loop-done-preserved g c =
    let cells = g.S.Store.cells in
    let given = c.in_default.ensures in
    let m = machine_in (cells c.loop-done.store) c.args.limits c.loop-done.registers in (
      goes_on (cells c.args.store.now) c.args.limits c.args.registers.now c.args.budget c.loop-done.done (cells c.loop-done.store) c.loop-done.registers c.loop-done.invariant.0
          (cells c.guarded_step.new.store) c.guarded_step.new.registers c.loop-done-test.true (sym given.answer) given.registers given.words,
      completes_on g.S.Store.puts_whole g.S.Store.puts_half c.args.limits _ c.args.store.now c.loop-done.store c.guarded_step.new.store c.args.budget c.loop-done.done (cells c.loop-done.store) c.loop-done.registers c.loop-done.invariant.1
          c.loop-done-test.true given.does (cells c.guarded_step.new.store) c.guarded_step.new.registers (sym given.answer) given.registers given.words,
      λ _. rw given.registers (step_registers_fit m given.bounded.0 given.fits),
    )

-- the run, if a step interrupts
module _ (g : Over) (c : goal.In-Err g) where
  ended : run c.args.budget (machine_in (g.S.Store.cells c.args.store.now) c.args.limits c.args.registers.now) ≡ record { told = record { steps = c.loop-done.done + 1; ending = Interrupted c.in-Err.report }; machine = machine_after (step (machine_in (g.S.Store.cells c.loop-done.store) c.args.limits c.loop-done.registers)) }
  ended = ends _ c.args.limits _ c.args.budget c.loop-done.done _ _ c.loop-done.invariant.0 c.in-Err.report c.loop-done-test.true (sym c.in-Err.ensures.answer)

pub returns-in-Err-clause-told : goal.returns-in-Err-clause-told
returns-in-Err-clause-told g c = sym (ap (λ (o : Outcome). o.told) (ended g c))

pub returns-in-Err-clause-registers : goal.returns-in-Err-clause-registers
returns-in-Err-clause-registers g c = c.in-Err.ensures.registers ∙ sym (ap (λ (o : Outcome). o.machine.registers) (ended g c))

pub returns-in-Err-clause-words : goal.returns-in-Err-clause-words
returns-in-Err-clause-words g c =
    rw (ended g c) (becomes_then (g.S.Store.cells c.args.store.now) c.args.limits (g.S.Store.cells c.loop-done.store) _ (g.S.Store.cells c.guarded_step.new.store) c.loop-done.invariant.0.only_words c.in-Err.ensures.words)

pub returns-in-Err-clause-widths : goal.returns-in-Err-clause-widths
returns-in-Err-clause-widths g c =
    let m = machine_in (g.S.Store.cells c.loop-done.store) c.args.limits c.loop-done.registers in
    let given = c.in-Err.ensures in
    λ _. rw given.registers (step_registers_fit m given.bounded.0 given.fits)

pub returns-in-Err-clause-does : goal.returns-in-Err-clause-does
returns-in-Err-clause-does g c =
    completes_at g.S.Store.puts_whole g.S.Store.puts_half c.args.limits _ c.args.store.now c.loop-done.store c.guarded_step.new.store c.args.budget c.loop-done.done (g.S.Store.cells c.loop-done.store) c.loop-done.registers c.loop-done.invariant.1
    c.loop-done-test.true c.in-Err.ensures.does c.in-Err.report (sym c.in-Err.ensures.answer)

-- and if the budget is spent
module _ (g : Over) (c : goal.After-loop-done g) where
  all_spent : run c.args.budget (machine_in (g.S.Store.cells c.args.store.now) c.args.limits c.args.registers.now) ≡ record { told = record { steps = c.args.budget; ending = Spent }; machine = machine_in (g.S.Store.cells c.loop-done.store) c.args.limits c.loop-done.registers }
  all_spent = spent _ c.args.limits _ c.args.budget c.loop-done.done _ _ c.loop-done.invariant.0 c.loop-done-test.false c.loop-done.auto.done-end

pub returns-clause-told : goal.returns-clause-told
returns-clause-told g c = sym (ap (λ (o : Outcome). o.told) (all_spent g c))

pub returns-clause-registers : goal.returns-clause-registers
returns-clause-registers g c = sym (ap (λ (o : Outcome). o.machine.registers) (all_spent g c))

pub returns-clause-words : goal.returns-clause-words
returns-clause-words g c = rw (all_spent g c) c.loop-done.invariant.0.only_words

pub returns-clause-does : goal.returns-clause-does
returns-clause-does g c =
    completed_all g.S.Store.puts_whole g.S.Store.puts_half c.args.limits _ c.args.store.now c.loop-done.store c.args.budget c.loop-done.done (machine_in (g.S.Store.cells c.loop-done.store) c.args.limits c.loop-done.registers) c.loop-done.invariant.1 c.loop-done-test.false
