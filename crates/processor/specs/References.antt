-- References to a worker's words. Each is tried for protection and then for parity.
use Rattle.std.specs.Prelude.{ℕ, if◌then◌else◌, nat_lt, Result, Ok, Err}
use Rattle.store.specs.declared.fault.Fault.{Fault}
use Rattle.store.specs.Functions.{fetched}
use Rattle.processor.specs.declared.report.Reference.{Reference}
use Rattle.processor.specs.declared.report.ReferenceKind.{ReferenceKind}
use Rattle.processor.specs.declared.report.ReferenceKind.TheVariants.{Fetch, Read}
use Rattle.processor.specs.declared.report.Report.{Report}
use Rattle.processor.specs.declared.report.Report.TheVariants.{Protection, Parity}
use Rattle.processor.specs.Machine.{Machine}
use Rattle.processor.specs.Reports.{relative}

-- what the store answers for the word; its fault is a parity interrupt
abbrev pub parity_tried : {X : Type 0} → Reference → Result X Fault → Result X Report
parity_tried reference (Ok x) = Ok x
parity_tried reference (Err fault) = Err (Parity reference fault)

-- a reference to one of so many words: past them there is none
abbrev pub refer : {X : Type 0} → (length : ℕ) → ReferenceKind → ℕ → Result X Fault → Result X Report
refer n kind r answer =
    let reference : Reference = record { kind = kind; address = relative r } in
    if nat_lt r n then parity_tried reference answer else Err (Protection reference)

-- the word at a relative address, as the next instruction and as what an instruction reads
abbrev pub fetch : Machine → ℕ → Result ℕ Report
fetch m r = refer m.length Fetch r (fetched m.words r)

abbrev pub read : Machine → ℕ → Result ℕ Report
read m r = refer m.length Read r (fetched m.words r)
