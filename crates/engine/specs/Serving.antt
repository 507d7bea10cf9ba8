-- What is asked of a worker: what it answers and what it leaves of the worker, by its length n and its own state, registers and words.
use Rattle.std.specs.Prelude.{ℕ, ◌^◌, ◌&&◌, List, nat_lt, nat_le, Result, Ok, Err}
use Rattle.store.specs.Functions.{fetched, put_whole_answer, whole_put}
use Rattle.records.specs.Record.{write_answer, written, record_read}
use Rattle.processor.specs.declared.outcome.Ending.{Ending}
use Rattle.processor.specs.declared.outcome.Ending.TheVariants.{Spent, Interrupted}
use Rattle.processor.specs.Machine.{Machine}
use Rattle.processor.specs.Run.{Outcome, run}
use Rattle.processor.specs.Then.{◌>>=◌}
use Rattle.engine.specs.declared.answer.Answer.{Answer}
use Rattle.engine.specs.declared.answer.Answer.TheVariants as answer
use Rattle.engine.specs.declared.answer.State.{State}
use Rattle.engine.specs.declared.answer.State.TheVariants.{Ready, Held}
use Rattle.engine.specs.declared.call.Request.{Request}
use Rattle.engine.specs.declared.call.Request.TheVariants as request
use Rattle.engine.specs.declared.refusal.Refusal.{Refusal}
use Rattle.engine.specs.declared.refusal.Refusal.TheVariants as refusal
use Rattle.engine.specs.Own.{Own, is_held}
use Rattle.engine.specs.Refusals.{require, by_store, by_buffer, by_record}

-- an answer, and the worker after it
pub record Served : Type 0 where
  pub answer : Answer (List ℕ)
  pub own : Own

abbrev pub serving : Answer (List ℕ) → Own → Served
serving a o = record { answer = a; own = o }

-- puts a word whole
abbrev pub load : ℕ → Own → (address word : ℕ) → Result Served Refusal
load n o r w = do
  below ← require (nat_lt r n) refusal.AddressPastLength
  fits ← require (nat_lt w (2 ^ 30)) refusal.NumberTooWide
  done ← by_store (put_whole_answer o.words r)
  Ok (serving (answer.Loaded (Ok tt)) (record o { words = whole_put o.words r w }))

-- tells a word
abbrev pub look : ℕ → Own → (address : ℕ) → Result Served Refusal
look n o r = do
  below ← require (nat_lt r n) refusal.AddressPastLength
  w ← by_store (fetched o.words r)
  Ok (serving (answer.Looked (Ok w)) o)

-- a worker's machine
abbrev pub machine_of : ℕ → Own → Machine
machine_of n o = record { length = n; registers = o.registers; words = o.words }

-- the worker after a run
abbrev pub state_after : Ending → State
state_after Spent = Ready
state_after (Interrupted report) = Held report

abbrev pub ran : Outcome → Served
ran outcome = serving (answer.Ran (Ok outcome.told))
    (record { state = state_after outcome.told.ending; registers = outcome.machine.registers; words = outcome.machine.words })

abbrev pub run_ready : State → ℕ → Own → (budget : ℕ) → Result Served Refusal
run_ready Ready n o budget = Ok (ran (run budget (machine_of n o)))
run_ready (Held report) n o budget = Err refusal.WorkerHeld

-- runs a ready worker; one that is interrupted is held afterwards
abbrev pub run_worker : ℕ → Own → (budget : ℕ) → Result Served Refusal
run_worker n o budget = do
  allowed ← require (nat_le budget 1000000) refusal.BudgetTooLarge
  run_ready o.state n o budget

-- answers a held worker's report: sets A, Q and P, and makes it ready
abbrev pub answered : Own → (a q p : ℕ) → Result Served Refusal
answered o a q p = do
  fit ← require (nat_lt a (2 ^ 30) && nat_lt q (2 ^ 30) && nat_lt p (2 ^ 17)) refusal.NumberTooWide
  held ← require (is_held o.state) refusal.WorkerNotHeld
  Ok (serving (answer.Answered (Ok tt)) (record o { state = Ready; registers = record { a = a; q = q; b = o.registers.b; p = p } }))

-- writes the register record at the front of a buffer, and answers the whole buffer
abbrev pub save : Own → List ℕ → Result Served Refusal
save o buffer = do
  fits ← by_buffer (write_answer buffer)
  Ok (serving (answer.Saved (Ok tt) (written o.registers buffer)) o)

-- reads a register record, and makes the worker ready
abbrev pub restore : Own → List ℕ → Result Served Refusal
restore o bytes = do
  r ← by_record (record_read bytes)
  Ok (serving (answer.Restored (Ok tt)) (record o { state = Ready; registers = r }))

-- tells the state, a held worker's with its report, and the registers
abbrev pub tell : Own → Result Served Refusal
tell o = Ok (serving (answer.Told (Ok (record { state = o.state; registers = o.registers }))) o)

unfoldable pub served : ℕ → Own → Request (List ℕ) → Result Served Refusal
served n o (request.Load r w) = load n o r.0 w
served n o (request.Look r) = look n o r.0
served n o (request.Run budget) = run_worker n o budget
served n o (request.Answer a q p) = answered o a q p
served n o (request.Save buffer) = save o buffer
served n o (request.Restore bytes) = restore o bytes
served n o request.Tell = tell o
