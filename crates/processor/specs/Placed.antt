-- A step and a run of the worker that lies between limits of a row.
use Rattle.std.specs.Prelude.{ℕ, List}
use Rattle.store.specs.Cells.{Cell}
use Rattle.records.specs.Registers.{Registers}
use Rattle.processor.specs.Limits.{Limits, machine_in}
use Rattle.processor.specs.Run.{Outcome, run}
use Rattle.processor.specs.Step.{Stepped, step}

abbrev pub step_in : List Cell → Limits → Registers → Stepped
step_in row l r = step (machine_in row l r)

abbrev pub run_in : List Cell → Limits → Registers → (budget : ℕ) → Outcome
run_in row l r budget = run budget (machine_in row l r)
