-- What a refusal tells, and the tests that lead to one.
use Rattle.std.specs.Prelude.{ℕ, Bool, List, if◌then◌else◌, Option, Some, None, Result, Ok, Err}
use Rattle.store.specs.declared.fault.Fault.{Fault}
use Rattle.store.specs.declared.fault.Fault.TheVariants as fault
use Rattle.store.specs.declared.half.Half.{Half}
use Rattle.processor.specs.declared.references.ReferenceFault.{ReferenceFault}
use Rattle.processor.specs.declared.references.ReferenceFault.TheVariants as reference
use Rattle.records.specs.declared.fault.BufferTooShort.{BufferTooShort}
use Rattle.records.specs.declared.fault.RecordFault.{RecordFault}
use Rattle.records.specs.declared.fault.RecordFault.TheVariants as record_fault
use Rattle.engine.specs.declared.answer.Answer.{Answer}
use Rattle.engine.specs.declared.answer.Answer.TheVariants as answer
use Rattle.engine.specs.declared.refusal.Refusal.{Refusal}
use Rattle.engine.specs.declared.refusal.Refusal.TheVariants.{NoSuchPlace, PlaceOccupied, PlaceFree, BadLength, PastStore, CellShared, EntryPastLength, AddressPastLength, NumberTooWide, BudgetTooLarge, WorkerHeld, WorkerNotHeld, ShortBuffer, NoFixedAddress, ShortRecord, RecordLength, RecordVersion, FieldTooWide, Spoiled}

-- the numbers of refusals
abbrev pub number_of : Refusal → ℕ
number_of NoSuchPlace = 1
number_of PlaceOccupied = 2
number_of PlaceFree = 3
number_of BadLength = 4
number_of PastStore = 5
number_of CellShared = 6
number_of EntryPastLength = 7
number_of AddressPastLength = 8
number_of NumberTooWide = 9
number_of BudgetTooLarge = 10
number_of WorkerHeld = 11
number_of WorkerNotHeld = 12
number_of ShortBuffer = 13
number_of NoFixedAddress = 14
number_of ShortRecord = 15
number_of RecordLength = 16
number_of RecordVersion = 17
number_of (FieldTooWide offset) = 18
number_of (Spoiled half) = 19

-- the offset of a field that one names besides, and the half
abbrev pub offset_of : Refusal → Option ℕ
offset_of (FieldTooWide offset) = Some offset
offset_of refusal = None

abbrev pub half_of : Refusal → Option Half
half_of (Spoiled half) = Some half
half_of refusal = None

-- all that a refusal tells
pub record Told : Type 0 where
  pub number : ℕ
  pub offset : Option ℕ
  pub half : Option Half

abbrev pub told_by : Refusal → Told
told_by refusal = record { number = number_of refusal; offset = offset_of refusal; half = half_of refusal }

-- the refusal that an answer tells, if it tells one
abbrev pub err_of : {X : Type 0} → Result X Refusal → Option Refusal
err_of (Ok x) = None
err_of (Err e) = Some e

abbrev pub refusal_of : Answer (List ℕ) → Option Refusal
refusal_of (answer.Admitted r) = err_of r
refusal_of (answer.Loaded r) = err_of r
refusal_of (answer.Looked r) = err_of r
refusal_of (answer.Ran r) = err_of r
refusal_of (answer.Answered r) = err_of r
refusal_of (answer.Saved r buffer) = err_of r
refusal_of (answer.Restored r) = err_of r
refusal_of (answer.Told r) = err_of r
refusal_of (answer.Retired r) = err_of r
refusal_of (answer.Spanned r) = err_of r
refusal_of (answer.FixedAddress r) = err_of r

-- goes on if a test holds, and otherwise refuses
abbrev pub require : Bool → Refusal → Result (Unit {0}) Refusal
require test refusal = if test then Ok tt else Err refusal

-- the store's fault at a word as a refusal; a word that the store does not have is none of the worker's
abbrev pub by_fault : Fault → Refusal
by_fault fault.NoCell = AddressPastLength
by_fault (fault.Spoiled half) = Spoiled half

abbrev pub by_store : {X : Type 0} → Result X Fault → Result X Refusal
by_store (Ok x) = Ok x
by_store (Err f) = Err (by_fault f)

-- that a reference failed, as a refusal
abbrev pub by_reference : ReferenceFault → Refusal
by_reference reference.Protection = AddressPastLength
by_reference (reference.Parity f) = by_fault f

-- what is wrong with a buffer or a record as a refusal
abbrev pub by_buffer : {X : Type 0} → Result X BufferTooShort → Result X Refusal
by_buffer (Ok x) = Ok x
by_buffer (Err e) = Err ShortBuffer

abbrev pub by_record_fault : RecordFault → Refusal
by_record_fault record_fault.TooShort = ShortRecord
by_record_fault record_fault.WrongLength = RecordLength
by_record_fault record_fault.WrongVersion = RecordVersion
by_record_fault (record_fault.TooWide offset) = FieldTooWide offset

abbrev pub by_record : {X : Type 0} → Result X RecordFault → Result X Refusal
by_record (Ok x) = Ok x
by_record (Err f) = Err (by_record_fault f)
