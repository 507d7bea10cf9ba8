-- What holds of every call, and after any calls on an installation from its making.
use Rattle.std.specs.Prelude.{◌≡◌, ◌≢◌, ◌↔◌, ℕ, ◌+◌, ◌<◌, ◌≤◌, true, List, length, map, Option, Some, Ok, OnOk, slice_set}
use Rattle.store.specs.Cells.{Cell, cell_at}
use Rattle.store.specs.declared.address.CellAddress.{CellAddress}
use Rattle.store.specs.declared.fault.Fault.TheVariants.{NoCell}
use Rattle.records.specs.Registers.{Registers, Fits}
use Rattle.processor.specs.declared.address.RelativeAddress.{RelativeAddress}
use Rattle.processor.specs.declared.report.Report.{Report}
use Rattle.processor.specs.Reports.{cause_number, fault_of}
use Rattle.engine.specs.declared.answer.Answer.{Answer}
use Rattle.engine.specs.declared.answer.Answer.TheVariants as answer
use Rattle.engine.specs.declared.call.Call.{Call}
use Rattle.engine.specs.declared.call.Call.TheVariants as call
use Rattle.engine.specs.declared.call.Request.{Request}
use Rattle.engine.specs.declared.call.Request.TheVariants as request
use Rattle.engine.specs.declared.call.Terms.{Terms}
use Rattle.engine.specs.declared.place.Place.{Place}
use Rattle.engine.specs.declared.place.Place.TheVariants.{Ready, Held}
use Rattle.processor.specs.Limits.{Limits}
use Rattle.engine.specs.declared.place.Worker.{Worker}
use Rattle.engine.specs.declared.refusal.Refusal.{Refusal}
use Rattle.engine.specs.declared.refusal.Refusal.TheVariants.{AddressPastLength}
use Rattle.processor.specs.declared.outcome.Ran.{Ran}
use Rattle.processor.specs.declared.report.Cause.{Cause}
use Rattle.processor.specs.Run.{report_of}
use Rattle.engine.specs.Exchanges.{after}
use Rattle.engine.specs.Isolation.{is_for}
use Rattle.engine.specs.FixedAddress.{cause_numbered}
use Rattle.engine.specs.Refusals.{refusal_of}
use Rattle.engine.specs.Installation.{Installation, made, place_at, worker_at, limits_in, worker_of}
use Rattle.engine.specs.Performing.{refused, performed}

-- a worker has a cell
abbrev pub Has : Worker → ℕ → Type 0
Has w cell = (w.limits.lower ≤ cell) × (cell < w.limits.lower + w.limits.length)

-- a call whose answer tells a refusal answers no more than that, and leaves the installation the very same; a refused save so answers its buffer as it was
abbrev pub RefusedLeavesAll : {I : Type 0} → Call (List ℕ) → Answer (List ℕ) → (before after : I) → Type 0
RefusedLeavesAll c a before after = (e : Refusal) → refusal_of a ≡ Some e → (a ≡ refused c e) × (after ≡ before)

-- a call changes no cell but those of the worker that it is for
abbrev pub OnlyItsCells : Installation → Call (List ℕ) → Installation → Type 0
OnlyItsCells i c j = (cell : ℕ)
    → ((p : ℕ) (w : Worker) → is_for p c ≡ true → worker_at i p ≡ Some w → Has w cell → ⊥)
    → cell_at j.row cell ≡ cell_at i.row cell

-- the limits of a place's worker
abbrev pub limits_of_place : Place → Option Limits
limits_of_place place = limits_in (worker_of place)

-- an admit is answered alike wherever there are as many cells and the places have the same limits, whatever else is different
abbrev pub AdmitsBySpans : Installation → ℕ → CellAddress → Terms → Answer (List ℕ) → Type 0
AdmitsBySpans i p lower terms a = (j : Installation)
    → length i.row ≡ length j.row
    → map limits_of_place i.places ≡ map limits_of_place j.places
    → (performed j (call.Admit p lower terms)).answer ≡ a

-- bytes restore registers: restored to any worker of any installation they are taken, and it is ready to run then and has those registers
abbrev pub Restores : List ℕ → Registers → Type 0
Restores bytes r = (i : Installation) (p : ℕ) (w : Worker)
    → p ≤ 7
    → worker_at i p ≡ Some w
    → performed i (call.Ask p (request.Restore bytes)) ≡ record { answer = answer.Restored (Ok tt); installation = record i { places = slice_set i.places p (Ready (record w { registers = r })) } }

-- those that a save wrote, if it was taken, restore the registers of the worker that it was asked of
abbrev pub SavedRestores : Installation → Call (List ℕ) → Answer (List ℕ) → Type 0
SavedRestores i (call.Ask p what) (answer.Saved saved bytes) = OnOk saved ((w : Worker) → worker_at i p ≡ Some w → Restores bytes w.registers)
SavedRestores i c a = Unit {0}

-- the causes have the numbers 1 to 5, and no other number is one's
abbrev pub CausesAreNumbered : Type 0
CausesAreNumbered = (n : ℕ) (c : Cause) → (cause_numbered n ≡ Ok c) ↔ (cause_number c ≡ n)

-- what holds after any calls on an installation from its making over a row
module _ (row : List Cell) where
  -- a worker at a place then
  abbrev pub IsAt : List (Call (List ℕ)) → ℕ → Worker → Type 0
  IsAt calls p w = worker_at (after (made row) calls) p ≡ Some w

  -- two workers that have a cell in common are one
  abbrev pub NoCellIsShared : Type 0
  NoCellIsShared = (calls : List (Call (List ℕ))) (p q : ℕ) (v w : Worker) (cell : ℕ)
      → IsAt calls p v → IsAt calls q w → Has v cell → Has w cell → p ≡ q

  -- the row has as many cells as at the making
  abbrev pub RowKeepsLength : Type 0
  RowKeepsLength = (calls : List (Call (List ℕ))) → length (after (made row) calls).row ≡ length row

  -- each worker has 1 to 32,768 cells, all of them in the row
  abbrev pub WorkersLieInRow : Type 0
  WorkersLieInRow = (calls : List (Call (List ℕ))) (p : ℕ) (w : Worker)
      → IsAt calls p w
      → (1 ≤ w.limits.length) × (w.limits.length ≤ 32768) × (w.limits.lower + w.limits.length ≤ length row)

  -- the registers of each worker have no more bits than they can have
  abbrev pub RegistersFit : Type 0
  RegistersFit = (calls : List (Call (List ℕ))) (p : ℕ) (w : Worker) → IsAt calls p w → Fits w.registers

  -- a worker has all its words: no report that it is held with tells that the store has no cell
  abbrev pub NoReportOfNoCell : Type 0
  NoReportOfNoCell = (calls : List (Call (List ℕ))) (p : ℕ) (w : Worker) (report : Report)
      → place_at (after (made row) calls).places p ≡ Held w report
      → fault_of report ≢ Some NoCell

  -- no report that a run answers tells it either
  abbrev pub NoRunEndsInNoCell : Type 0
  NoRunEndsInNoCell = (calls : List (Call (List ℕ))) (p budget : ℕ) (ran : Ran) (report : Report)
      → (performed (after (made row) calls) (call.Ask p (request.Run budget))).answer ≡ answer.Ran (Ok ran)
      → report_of ran.ending ≡ Some report
      → fault_of report ≢ Some NoCell

  -- the refusal of what is asked of a worker then, if it is refused
  abbrev pub refusal_after : List (Call (List ℕ)) → ℕ → Request (List ℕ) → Option Refusal
  refusal_after calls p what = refusal_of (performed (after (made row) calls) (call.Ask p what)).answer

  -- a look or a load is refused for its address only where that is at the length or past it: it too never meets a cell that the store has not
  abbrev pub WordsBelowLength : Type 0
  WordsBelowLength = (calls : List (Call (List ℕ))) (p : ℕ) (w : Worker) (address : RelativeAddress)
      → IsAt calls p w
      → (refusal_after calls p (request.Look address) ≡ Some AddressPastLength → w.limits.length ≤ address.0)
      × ((word : ℕ) → refusal_after calls p (request.Load address word) ≡ Some AddressPastLength → w.limits.length ≤ address.0)
