-- How reports and what comes of a run are written.
use Rattle.std.specs.Prelude.{ℕ, List, [], ◌++◌, Option, Some, None, codes, decimal}
use Rattle.store.specs.Text.{fault_text}
use Rattle.store.specs.declared.fault.Fault.{Fault}
use Rattle.processor.specs.declared.outcome.Ending.{Ending}
use Rattle.processor.specs.declared.outcome.Ending.TheVariants.{Spent, Interrupted}
use Rattle.processor.specs.declared.outcome.Ran.{Ran}
use Rattle.processor.specs.declared.report.Cause.{Cause}
use Rattle.processor.specs.declared.report.Cause.TheVariants as cause
use Rattle.processor.specs.declared.report.ReferenceKind.{ReferenceKind}
use Rattle.processor.specs.declared.report.ReferenceKind.TheVariants.{Fetch, Read, Write}
use Rattle.processor.specs.declared.report.Report.{Report}
use Rattle.processor.specs.Reports.{cause_of, address_of, kind_of, fault_of}

abbrev pub cause_text : Cause → List ℕ
cause_text cause.IllegalInstruction = codes "illegal instruction"
cause_text cause.Protection = codes "protection"
cause_text cause.Parity = codes "parity"
cause_text cause.ExecutiveReturn = codes "executive return"
cause_text cause.TestAndSet = codes "test and set"

abbrev pub kind_text : ReferenceKind → List ℕ
kind_text Fetch = codes "fetch"
kind_text Read = codes "read"
kind_text Write = codes "write"

-- the kind of reference, if one failed
abbrev pub reference_text : Option ReferenceKind → List ℕ
reference_text None = codes "none"
reference_text (Some kind) = kind_text kind

-- the store's fault, if there was one
abbrev pub fault_told : Option Fault → List ℕ
fault_told None = []
fault_told (Some fault) = codes ", " ++ fault_text fault

abbrev pub report_text : Report → List ℕ
report_text report =
    cause_text (cause_of report)
    ++ (codes ", address " ++ (decimal (address_of report) ++ (codes ", reference " ++ (reference_text (kind_of report) ++ fault_told (fault_of report)))))

abbrev pub ending_text : Ending → List ℕ
ending_text Spent = codes "spent"
ending_text (Interrupted report) = report_text report

abbrev pub ran_text : Ran → List ℕ
ran_text ran = decimal ran.steps ++ (codes " steps, " ++ ending_text ran.ending)
