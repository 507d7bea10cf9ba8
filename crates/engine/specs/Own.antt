-- A worker as it sees itself: its state, its registers and its words, and nothing of where they lie.
use Rattle.std.specs.Prelude.{Bool, List, Option, Some, None, is_some}
use Rattle.store.specs.Cells.{Cell}
use Rattle.records.specs.Registers.{Registers}
use Rattle.processor.specs.declared.report.Report.{Report}
use Rattle.engine.specs.declared.answer.State.{State}
use Rattle.engine.specs.declared.answer.State.TheVariants.{Ready, Held}

pub record Own : Type 0 where
  pub state : State
  pub registers : Registers
  pub words : List Cell

-- the report that a worker is held with, if it is held
abbrev pub report_in : State → Option Report
report_in Ready = None
report_in (Held report) = Some report

abbrev pub is_held : State → Bool
is_held state = is_some (report_in state)
