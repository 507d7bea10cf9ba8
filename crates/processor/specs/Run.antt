-- A run: steps until the budget is spent or one interrupts.
use Rattle.std.specs.Prelude.{◌≡◌, ℕ, zero, suc, ◌≤◌, Option, Some, None, ⊤}
use Rattle.processor.specs.declared.outcome.Ending.{Ending}
use Rattle.processor.specs.declared.outcome.Ending.TheVariants.{Spent, Interrupted}
use Rattle.processor.specs.declared.outcome.Ran.{Ran}
use Rattle.processor.specs.declared.report.Report.{Report}
use Rattle.processor.specs.Machine.{Machine}
use Rattle.processor.specs.Reports.{OfCell}
use Rattle.processor.specs.Step.{Stepped, completed, interrupted, step}

-- the report of the interrupt that ended a run, if one did
abbrev pub report_of : Ending → Option Report
report_of Spent = None
report_of (Interrupted report) = Some report

-- a run is spent after as many steps as the budget has, and interrupted after at least one and at most so many
abbrev pub StepsOf : Ending → (steps budget : ℕ) → Type 0
StepsOf Spent steps budget = steps ≡ budget
StepsOf (Interrupted report) steps budget = (1 ≤ steps) × (steps ≤ budget)

-- the report of a run that was interrupted, if it was, does not tell that the store has no such cell
abbrev pub EndingOfCell : Ending → Type 0
EndingOfCell Spent = ⊤
EndingOfCell (Interrupted report) = OfCell report

-- what is told of the run, and the machine after it
pub record Outcome : Type 0 where
  pub told : Ran
  pub machine : Machine

-- one step more, before those of the outcome
abbrev pub one_more : Outcome → Outcome
one_more o = record { told = record { steps = suc o.told.steps; ending = o.told.ending }; machine = o.machine }

-- the rest of a run goes on after a step that was completed
abbrev pub run_on : Stepped → (Machine → Outcome) → Outcome
run_on (completed m) rest = one_more (rest m)
run_on (interrupted report m) rest = record { told = record { steps = 1; ending = Interrupted report }; machine = m }

unfoldable pub run : ℕ → Machine → Outcome
run zero m = record { told = record { steps = 0; ending = Spent }; machine = m }
run (suc budget) m = run_on (step m) (run budget)
