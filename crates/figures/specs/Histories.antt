-- Calls of an installation, each with its answer, worked out by hand; those of the first two lists are over 16 cells of zeros.
use Rattle.std.specs.Prelude.{◌≡◌, ℕ, true, List, [], ◌∷◌, ◌++◌, replicate, take, Ok, Err}
use Rattle.store.specs.Cells.{Cell, good_cell}
use Rattle.store.specs.declared.address.CellAddress.{CellAddress}
use Rattle.records.specs.Record.{record_of}
use Rattle.processor.specs.declared.outcome.Ending.TheVariants.{Interrupted}
use Rattle.processor.specs.declared.report.Report.TheVariants.{IllegalInstruction, ExecutiveReturn}
use Rattle.processor.specs.Limits.{words_in}
use Rattle.processor.specs.Reports.{relative}
use Rattle.engine.specs.declared.answer.Answer.{Answer}
use Rattle.engine.specs.declared.answer.Answer.TheVariants as answer
use Rattle.engine.specs.declared.answer.State.TheVariants.{Ready, Held}
use Rattle.engine.specs.declared.call.Call.{Call}
use Rattle.engine.specs.declared.call.Call.TheVariants.{Admit, Ask, Retire, Span, FixedAddress}
use Rattle.engine.specs.declared.call.Request.TheVariants.{Load, Run, Answer as AnswerReport, Save, Restore, Tell}
use Rattle.engine.specs.declared.refusal.Refusal.TheVariants as refusal
use Rattle.engine.specs.declared.call.Terms.{Terms}
use Rattle.engine.specs.Exchanges.{Exchange, after, answers_in, calls_in}
use Rattle.engine.specs.Installation.{made}
use Rattle.engine.specs.Isolation.{History, Isolates, Isolation, TakenAdmit, exchanges_with, history, nothing_after_retire}
use Rattle.engine.specs.Performing.{performed}
use Rattle.figures.specs.Programs.{admit, cells, half_spoiled, look, ran, record_with, told}

infix 11 ◌gets◌
abbrev pub ◌gets◌ : Call (List ℕ) → Answer (List ℕ) → Exchange
c gets a = record { call = c; answer = a }

abbrev pub cell : ℕ → CellAddress
cell a = record { 0 = a }

abbrev pub load : (place address word : ℕ) → Call (List ℕ)
load place r w = Ask place (Load (relative r) w)

-- the record of registers A = 5, Q = 6, P = 4
abbrev pub five_and_six : List ℕ
five_and_six = record_of (record { a = 5; q = 6; b = replicate 7 0; p = 4 })

-- one worker's life and the next one's: every call at a place, taken, and one refused since the worker is gone
abbrev pub life : List Exchange
life =
    (admit 0 2 8 1 gets answer.Admitted (Ok tt)) ∷
    (Span 0 gets answer.Spanned (Ok (record { lower = cell 2; length = 8 }))) ∷
    (Ask 0 Tell gets told Ready 0 0 1) ∷
    (load 0 3 0o7754000012 gets answer.Loaded (Ok tt)) ∷
    (Ask 0 (look 3) gets answer.Looked (Ok 0o7754000012)) ∷
    (Ask 0 (look 4) gets answer.Looked (Ok 0)) ∷
    (Ask 0 (Run 5) gets ran 1 (Interrupted (IllegalInstruction (relative 1)))) ∷
    (Ask 0 Tell gets told (Held (IllegalInstruction (relative 1))) 0 0 2) ∷
    (Ask 0 (AnswerReport 5 6 3) gets answer.Answered (Ok tt)) ∷
    (Ask 0 Tell gets told Ready 5 6 3) ∷
    (Ask 0 (Run 5) gets ran 1 (Interrupted (ExecutiveReturn (relative 10)))) ∷
    (Ask 0 (Save (replicate 30 255)) gets answer.Saved (Ok tt) (five_and_six ++ 255 ∷ [])) ∷
    (Ask 0 Tell gets told (Held (ExecutiveReturn (relative 10))) 5 6 4) ∷
    (Ask 0 (Restore (record_with 14 7)) gets answer.Restored (Ok tt)) ∷
    (Ask 0 Tell gets answer.Told (Ok (record { state = Ready; registers = record { a = 0; q = 0; b = 0 ∷ 7 ∷ replicate 5 0; p = 0 } }))) ∷
    (Retire 0 gets answer.Retired (Ok tt)) ∷
    (Ask 0 Tell gets answer.Told (Err refusal.PlaceFree)) ∷
    (admit 1 0 16 0 gets answer.Admitted (Ok tt)) ∷
    (Ask 1 (look 5) gets answer.Looked (Ok 0o7754000012)) ∷
    []

-- what is refused, with the number of the refusal where it comes first; for 19 a half has to be spoiled, as in another figure
abbrev pub refusals : List Exchange
refusals =
    (admit 8 0 1 0 gets answer.Admitted (Err refusal.NoSuchPlace)) ∷  -- 1
    (admit 0 4 4 0 gets answer.Admitted (Ok tt)) ∷
    (admit 0 8 4 0 gets answer.Admitted (Err refusal.PlaceOccupied)) ∷  -- 2
    (Span 1 gets answer.Spanned (Err refusal.PlaceFree)) ∷  -- 3
    (admit 1 0 0 0 gets answer.Admitted (Err refusal.BadLength)) ∷  -- 4
    (admit 1 0 32769 0 gets answer.Admitted (Err refusal.BadLength)) ∷
    (admit 1 13 4 0 gets answer.Admitted (Err refusal.PastStore)) ∷  -- 5
    (admit 1 0 5 0 gets answer.Admitted (Err refusal.CellShared)) ∷  -- 6
    (admit 1 7 4 0 gets answer.Admitted (Err refusal.CellShared)) ∷
    (admit 1 8 4 4 gets answer.Admitted (Err refusal.EntryPastLength)) ∷  -- 7
    (load 0 4 0 gets answer.Loaded (Err refusal.AddressPastLength)) ∷  -- 8
    (Ask 0 (look 4) gets answer.Looked (Err refusal.AddressPastLength)) ∷
    (load 0 3 0o10000000000 gets answer.Loaded (Err refusal.NumberTooWide)) ∷  -- 9
    (Ask 0 (AnswerReport 0 0 131072) gets answer.Answered (Err refusal.NumberTooWide)) ∷
    (Ask 0 (Run 1000001) gets answer.Ran (Err refusal.BudgetTooLarge)) ∷  -- 10
    (Ask 0 (AnswerReport 0 0 131071) gets answer.Answered (Err refusal.WorkerNotHeld)) ∷  -- 12
    (Ask 0 (Run 1) gets ran 1 (Interrupted (IllegalInstruction (relative 0)))) ∷
    (Ask 0 (Run 0) gets answer.Ran (Err refusal.WorkerHeld)) ∷  -- 11
    (Ask 0 (Save (replicate 28 9)) gets answer.Saved (Err refusal.ShortBuffer) (replicate 28 9)) ∷  -- 13
    (FixedAddress 0 (cell 0) gets answer.FixedAddress (Err refusal.NoFixedAddress)) ∷  -- 14
    (FixedAddress 6 (cell 0) gets answer.FixedAddress (Err refusal.NoFixedAddress)) ∷
    (FixedAddress 1 (cell 131072) gets answer.FixedAddress (Err refusal.NoFixedAddress)) ∷
    (Ask 0 (Restore (replicate 28 0)) gets answer.Restored (Err refusal.ShortRecord)) ∷  -- 15
    (Ask 0 (Restore (record_with 1 28)) gets answer.Restored (Err refusal.RecordLength)) ∷  -- 16
    (Ask 0 (Restore (record_with 2 2)) gets answer.Restored (Err refusal.RecordVersion)) ∷  -- 17
    (Ask 0 (Restore (record_with 3 64)) gets answer.Restored (Err (refusal.FieldTooWide 3))) ∷  -- 18
    (Ask 0 Tell gets told (Held (IllegalInstruction (relative 0))) 0 0 1) ∷
    []

-- where each cause is sent
abbrev pub sent : (number address to : ℕ) → Exchange
sent number address to = FixedAddress number (cell address) gets answer.FixedAddress (Ok (cell to))

abbrev pub fixed_addresses : List Exchange
fixed_addresses =
    sent 1 0 0o0 ∷
    sent 2 131071 0o1 ∷
    sent 3 0 0o3 ∷
    sent 3 32767 0o3 ∷
    sent 3 32768 0o4 ∷
    sent 3 65535 0o4 ∷
    sent 3 65536 0o23 ∷
    sent 3 98303 0o23 ∷
    sent 3 98304 0o27 ∷
    sent 3 131071 0o27 ∷
    sent 4 32768 0o7 ∷
    sent 5 0 0o30 ∷
    []

-- Two histories of a worker with 3 words at place 0: 5 to A, an executive return of 10, and a zero whose lower half is spoiled. It is asked each thing that a worker can be asked.
abbrev pub its_terms : Terms
its_terms = record { length = 3; entry = relative 0 }

abbrev pub its_words : List Cell
its_words = good_cell 0o1100000005 ∷ good_cell 0o7754000012 ∷ half_spoiled ∷ []

-- the last word is loaded
abbrev pub its_words_later : List Cell
its_words_later = good_cell 0o1100000005 ∷ good_cell 0o7754000012 ∷ good_cell 9 ∷ []

abbrev pub seven_in_b2 : Answer (List ℕ)
seven_in_b2 = answer.Told (Ok (record { state = Ready; registers = record { a = 0; q = 0; b = 0 ∷ 7 ∷ replicate 5 0; p = 0 } }))

abbrev pub its_calls : List Exchange
its_calls =
    (load 0 2 9 gets answer.Loaded (Ok tt)) ∷
    (Ask 0 (look 2) gets answer.Looked (Ok 9)) ∷
    (Ask 0 (Run 5) gets ran 2 (Interrupted (ExecutiveReturn (relative 10)))) ∷
    (Ask 0 (AnswerReport 1 2 0) gets answer.Answered (Ok tt)) ∷
    (Ask 0 (Save (replicate 30 255)) gets answer.Saved (Ok tt) (0x00 ∷ 0x1B ∷ 0x01 ∷ 0 ∷ 0 ∷ 0 ∷ 1 ∷ 0 ∷ 0 ∷ 0 ∷ 2 ∷ replicate 18 0 ++ 255 ∷ [])) ∷
    (Ask 0 (Restore (record_with 14 7)) gets answer.Restored (Ok tt)) ∷
    (Ask 0 Tell gets seven_in_b2) ∷
    []

-- In the one its words lie in cells 2 to 4 from the making on, and it is alone.
abbrev pub alone_row : List Cell
alone_row = cells 2 (7 ∷ 7 ∷ []) ++ its_words ++ cells 3 []

abbrev pub alone_admit : TakenAdmit
alone_admit = record { before = (Ask 0 Tell gets answer.Told (Err refusal.PlaceFree)) ∷ []; lower = cell 2; later = its_calls }

abbrev pub alone_calls : List (Call (List ℕ))
alone_calls = Ask 0 Tell ∷ admit 0 2 3 0 ∷ calls_in its_calls

-- In the other a worker that was at its place before has put two of them into cells 9 and 10, and neighbours touch its cells on both sides.
abbrev pub beside_row : List Cell
beside_row = cells 11 [] ++ half_spoiled ∷ cells 4 []

abbrev pub beside_before : List Exchange
beside_before =
    (admit 0 7 5 0 gets answer.Admitted (Ok tt)) ∷
    (load 0 2 0o1100000005 gets answer.Loaded (Ok tt)) ∷
    (load 0 3 0o7754000012 gets answer.Loaded (Ok tt)) ∷
    (Retire 0 gets answer.Retired (Ok tt)) ∷
    (admit 1 12 4 0 gets answer.Admitted (Ok tt)) ∷
    []

-- the same calls for it, each followed by one that is none
abbrev pub beside_later : List Exchange
beside_later =
    (load 0 2 9 gets answer.Loaded (Ok tt)) ∷
    (Ask 1 (look 0) gets answer.Looked (Ok 0)) ∷
    (Ask 0 (look 2) gets answer.Looked (Ok 9)) ∷
    (admit 0 0 1 0 gets answer.Admitted (Err refusal.PlaceOccupied)) ∷
    (Ask 0 (Run 5) gets ran 2 (Interrupted (ExecutiveReturn (relative 10)))) ∷
    (Ask 1 (Run 5) gets ran 1 (Interrupted (IllegalInstruction (relative 0)))) ∷
    (Ask 0 (AnswerReport 1 2 0) gets answer.Answered (Ok tt)) ∷
    (Span 0 gets answer.Spanned (Ok (record { lower = cell 9; length = 3 }))) ∷
    (Ask 0 (Save (replicate 30 255)) gets answer.Saved (Ok tt) (0x00 ∷ 0x1B ∷ 0x01 ∷ 0 ∷ 0 ∷ 0 ∷ 1 ∷ 0 ∷ 0 ∷ 0 ∷ 2 ∷ replicate 18 0 ++ 255 ∷ [])) ∷
    (Retire 1 gets answer.Retired (Ok tt)) ∷
    (Ask 0 (Restore (record_with 14 7)) gets answer.Restored (Ok tt)) ∷
    (admit 1 0 9 0 gets answer.Admitted (Ok tt)) ∷
    (Ask 0 Tell gets seven_in_b2) ∷
    (FixedAddress 1 (cell 0) gets answer.FixedAddress (Ok (cell 0))) ∷
    []

abbrev pub beside_admit : TakenAdmit
beside_admit = record { before = beside_before; lower = cell 9; later = beside_later }

abbrev pub beside_calls : List (Call (List ℕ))
beside_calls = calls_in beside_before ++ admit 0 9 3 0 ∷ calls_in beside_later

-- and on from there: it is retired, and another one comes to its place, whose last word is the 9
abbrev pub beside_last : List Exchange
beside_last =
    (Retire 0 gets answer.Retired (Ok tt)) ∷
    (Ask 0 Tell gets answer.Told (Err refusal.PlaceFree)) ∷
    (admit 0 11 1 0 gets answer.Admitted (Ok tt)) ∷
    (Ask 0 (look 0) gets answer.Looked (Ok 9)) ∷
    []

abbrev pub beside_whole : List Exchange
beside_whole = beside_before ++ (admit 0 9 3 0 gets answer.Admitted (Ok tt)) ∷ beside_later ++ beside_last

-- What follows of any history that is isolated from the first of these two, in which a worker at place 0 with length 3 and entry 0 finds these words, at whatever lower limit:
-- as far as it is asked the same, it answers the same, and in the end it is seen so.
abbrev pub LivesLikeIt : History → TakenAdmit → Type 0
LivesLikeIt h b =
    Isolates (history alone_row alone_calls) h
    → h.exchanges ≡ b.before ++ (Admit 0 b.lower its_terms gets answer.Admitted (Ok tt)) ∷ b.later
    → words_in (after (made h.row) (calls_in b.before)).row b.lower.0 3 ≡ its_words
    → ((k : ℕ) → take k (calls_in (exchanges_with 0 b.later)) ≡ take k (calls_in its_calls) → take k (answers_in (exchanges_with 0 b.later)) ≡ take k (answers_in its_calls))
    × (nothing_after_retire 0 (calls_in b.later) ≡ true
    → calls_in (exchanges_with 0 b.later) ≡ calls_in its_calls
    → ((performed h.left (Ask 0 Tell)).answer ≡ seven_in_b2) × (words_in h.left.row b.lower.0 3 ≡ its_words_later))

-- and by the law any history is isolated from it, over any store with any content, of any calls
abbrev pub IsIsolatedFromIt : {T : Type 0} → (T → List Cell) → T → List (Call (List ℕ)) → Type 0
IsIsolatedFromIt cells store calls = Isolation (λ (row : List Cell). row) cells → Isolates (history alone_row alone_calls) (history (cells store) calls)
