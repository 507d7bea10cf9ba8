-- Programs that were worked by hand, what is asked of the worker that runs them, and what it answers.
use Rattle.std.specs.Prelude.{ℕ, ◌-◌, List, [], ◌∷◌, ◌++◌, length, map, replicate, slice_set, false, Option, Some, None, Ok, option_map}
use Rattle.store.specs.Cells.{Cell, good_cell, good_half}
use Rattle.store.specs.declared.half.Half.{Half}
use Rattle.records.specs.Record.{record_of}
use Rattle.records.specs.Registers.{starting_at}
use Rattle.processor.specs.declared.outcome.Ending.{Ending}
use Rattle.processor.specs.declared.report.Reference.{Reference}
use Rattle.processor.specs.declared.report.ReferenceKind.{ReferenceKind}
use Rattle.processor.specs.Reports.{relative}
use Rattle.engine.specs.declared.answer.Answer.{Answer}
use Rattle.engine.specs.declared.answer.Answer.TheVariants.{Ran, Told}
use Rattle.engine.specs.declared.answer.State.{State}
use Rattle.engine.specs.declared.call.Call.{Call}
use Rattle.engine.specs.declared.call.Call.TheVariants.{Admit, Ask}
use Rattle.engine.specs.declared.call.Request.{Request}
use Rattle.engine.specs.declared.call.Request.TheVariants.{Look}
use Rattle.engine.specs.Exchanges.{answers_in, exchanges}
use Rattle.engine.specs.Installation.{made}
use Rattle.engine.specs.Refusals.{refusal_of}
use Rattle.engine.specs.Refusals as refusals

-- 5 to A, 3 added to A, A stored in word 7, executive return of 10
abbrev pub adding : List ℕ
adding = 0o1100000005 ∷ 0o2000000003 ∷ 0o1503000007 ∷ 0o7754000012 ∷ []

-- a jump past the last of 8 words
abbrev pub jumping : List ℕ
jumping = 0o6010000010 ∷ []

-- 1 to A, and A scaled
abbrev pub scaling : List ℕ
scaling = 0o1100000001 ∷ 0o7730000000 ∷ []

-- the word at 2 to A, and A shifted right by 29
abbrev pub shifting : List ℕ
shifting = 0o1103000002 ∷ 0o0200000035 ∷ 0o4000000000 ∷ []

-- 3 to Q, and the product of 6 and Q, which has one 1, to A, with a skip on an odd number of ones
abbrev pub counting : List ℕ
counting = 0o1000000003 ∷ 0o4030000006 ∷ []

-- a replace form with a k that it does not allow
abbrev pub illegal : List ℕ
illegal = 0o2400000000 ∷ []

-- so many cells, of which the first hold a program and the others zero
abbrev pub cells : ℕ → List ℕ → List Cell
cells n program = map good_cell (program ++ replicate (n - length program) 0)

-- a worker at a place, with a lower limit, a length and an entry
abbrev pub admit : (place lower n entry : ℕ) → Call (List ℕ)
admit place lower n entry = Admit place (record { 0 = lower }) (record { length = n; entry = relative entry })

abbrev pub look : ℕ → Request (List ℕ)
look r = Look (relative r)

-- what is answered to calls of a new installation with so many cells of zeros
abbrev pub called : ℕ → List (Call (List ℕ)) → List (Answer (List ℕ))
called n calls = answers_in (exchanges (made (cells n [])) calls)

-- what a worker at place 0 that has a program in all its n words answers, from its admit on, with lower limit and entry 0
abbrev pub asked : ℕ → List ℕ → List (Request (List ℕ)) → List (Answer (List ℕ))
asked n program requests = answers_in (exchanges (made (cells n program)) (admit 0 0 n 0 ∷ map (Ask 0) requests))

abbrev pub ran : ℕ → Ending → Answer (List ℕ)
ran steps ending = Ran (Ok (record { steps = steps; ending = ending }))

-- its state, A, Q and P; B1 to B7 are 0
abbrev pub told : State → (a q p : ℕ) → Answer (List ℕ)
told state a q p = Told (Ok (record { state = state; registers = record { a = a; q = q; b = replicate 7 0; p = p } }))

abbrev pub reference : ReferenceKind → ℕ → Reference
reference kind r = record { kind = kind; address = relative r }

-- what the refusal tells that an answer tells, if it tells one
abbrev pub refusal_told : Answer (List ℕ) → Option refusals.Told
refusal_told answer = option_map refusals.told_by (refusal_of answer)

-- a number alone; with the offset of a field; with a half
abbrev pub number : ℕ → Option refusals.Told
number n = Some (record { number = n; offset = None; half = None })

abbrev pub number_at : ℕ → ℕ → Option refusals.Told
number_at n offset = Some (record { number = n; offset = Some offset; half = None })

abbrev pub number_of_half : ℕ → Half → Option refusals.Told
number_of_half n half = Some (record { number = n; offset = None; half = Some half })

-- a cell of zeros whose lower half is spoiled
abbrev pub half_spoiled : Cell
half_spoiled = record { upper = good_half 0; lower = record { value = 0; good = false } }

-- the record of a new worker with entry 0, but with a byte at an offset
abbrev pub record_with : ℕ → ℕ → List ℕ
record_with offset byte = slice_set (record_of (starting_at 0)) offset byte
