-- What a report tells of an interrupt.
use Rattle.std.specs.Prelude.{◌≡◌, ℕ, ◌+◌, Option, Some, None}
use Rattle.store.specs.declared.fault.Fault.{Fault}
use Rattle.store.specs.declared.fault.Fault.TheVariants.{NoCell}
use Rattle.processor.specs.declared.address.RelativeAddress.{RelativeAddress}
use Rattle.processor.specs.declared.report.Cause.{Cause}
use Rattle.processor.specs.declared.report.Cause.TheVariants as cause
use Rattle.processor.specs.declared.report.ReferenceKind.{ReferenceKind}
use Rattle.processor.specs.declared.report.ReferenceKind.TheVariants.{Fetch, Read, Write}
use Rattle.processor.specs.declared.report.Report.{Report}
use Rattle.processor.specs.declared.report.Report.TheVariants.{IllegalInstruction, Protection, Parity, ExecutiveReturn, TestAndSet}

abbrev pub relative : ℕ → RelativeAddress
relative r = record { 0 = r }

-- the cause, and its number
abbrev pub cause_of : Report → Cause
cause_of (IllegalInstruction r) = cause.IllegalInstruction
cause_of (Protection reference) = cause.Protection
cause_of (Parity reference fault) = cause.Parity
cause_of (ExecutiveReturn r) = cause.ExecutiveReturn
cause_of (TestAndSet r) = cause.TestAndSet

abbrev pub cause_number : Cause → ℕ
cause_number cause.IllegalInstruction = 1
cause_number cause.Protection = 2
cause_number cause.Parity = 3
cause_number cause.ExecutiveReturn = 4
cause_number cause.TestAndSet = 5

-- the relative address: of the instruction; of the reference that failed; or the effective address
abbrev pub address_of : Report → ℕ
address_of (IllegalInstruction r) = r.0
address_of (Protection reference) = reference.address.0
address_of (Parity reference fault) = reference.address.0
address_of (ExecutiveReturn r) = r.0
address_of (TestAndSet r) = r.0

-- the kind of reference, if a reference failed
abbrev pub kind_of : Report → Option ReferenceKind
kind_of (IllegalInstruction r) = None
kind_of (Protection reference) = Some reference.kind
kind_of (Parity reference fault) = Some reference.kind
kind_of (ExecutiveReturn r) = None
kind_of (TestAndSet r) = None

-- the store's fault, if there was one
abbrev pub fault_of : Report → Option Fault
fault_of (IllegalInstruction r) = None
fault_of (Protection reference) = None
fault_of (Parity reference fault) = Some fault
fault_of (ExecutiveReturn r) = None
fault_of (TestAndSet r) = None

-- a report does not tell that the store has no such cell
abbrev pub OfCell : Report → Type 0
OfCell report = fault_of report ≡ Some NoCell → ⊥

-- all that a report tells
pub record Told : Type 0 where
  pub cause : ℕ
  pub address : ℕ
  pub kind : Option ReferenceKind
  pub fault : Option Fault

abbrev pub told_by : Report → Told
told_by report = record { cause = cause_number (cause_of report); address = address_of report; kind = kind_of report; fault = fault_of report }

-- P after a protection interrupt: it stays where the fetch failed
abbrev pub p_after_protection : ReferenceKind → ℕ → ℕ
p_after_protection Fetch p = p
p_after_protection Read p = p + 1
p_after_protection Write p = p + 1

-- P after an interrupt: it stays after every parity fault too, and after any other interrupt it is P + 1
abbrev pub p_after : Report → ℕ → ℕ
p_after (IllegalInstruction r) p = p + 1
p_after (Protection reference) p = p_after_protection reference.kind p
p_after (Parity reference fault) p = p
p_after (ExecutiveReturn r) p = p + 1
p_after (TestAndSet r) p = p + 1
