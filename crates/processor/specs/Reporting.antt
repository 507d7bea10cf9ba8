-- How a reference fails, and the report of it.
use Rattle.std.specs.Prelude.{ℕ, if◌then◌else◌, nat_lt, Result, Ok, Err}
use Rattle.store.specs.declared.fault.Fault.{Fault}
use Rattle.processor.specs.declared.references.FailedReference.{FailedReference}
use Rattle.processor.specs.declared.references.ReferenceFault.{ReferenceFault}
use Rattle.processor.specs.declared.references.ReferenceFault.TheVariants as fault
use Rattle.processor.specs.declared.report.Reference.{Reference}
use Rattle.processor.specs.declared.report.Report.{Report}
use Rattle.processor.specs.declared.report.Report.TheVariants as report

abbrev pub reported : Reference → ReferenceFault → Report
reported reference fault.Protection = report.Protection reference
reported reference (fault.Parity f) = report.Parity reference f

-- the store's fault as the reference's
abbrev pub store_tried : {X : Type 0} → Result X Fault → Result X ReferenceFault
store_tried (Ok x) = Ok x
store_tried (Err f) = Err (fault.Parity f)

-- past so many words there is none; at one of them the store answers
abbrev pub limits_tried : {X : Type 0} → (length : ℕ) → ℕ → Result X Fault → Result X ReferenceFault
limits_tried n r answer = if nat_lt r n then store_tried answer else Err fault.Protection

-- and with the reference named that failed
abbrev pub named : {X : Type 0} → Reference → Result X ReferenceFault → Result X FailedReference
named reference (Ok x) = Ok x
named reference (Err f) = Err (record { reference = reference; fault = f })
