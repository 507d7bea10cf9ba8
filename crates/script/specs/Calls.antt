-- The grammar of calls: a name, and the words that it takes.
use Rattle.std.specs.Prelude.{ℕ, List, [], Vec, if◌then◌else◌, replicate, vec_items, Ok, Err, codes, Result}
use Rattle.std.specs.Str.{bytes_eq}
use Rattle.std.specs.declared.alloc.Global.{Global}
use Rattle.hex.specs.Hex.{decode_of}
use Rattle.hex.specs.declared.error.FromHexError.{FromHexError}
use Rattle.processor.specs.Reports.{relative}
use Rattle.engine.specs.Bytes.{call_with}
use Rattle.engine.specs.declared.call.Call.{Call}
use Rattle.engine.specs.declared.call.Call.TheVariants as call
use Rattle.engine.specs.declared.call.Request.TheVariants as request
use Rattle.script.specs.declared.reason.Reason.{Reason}
use Rattle.script.specs.declared.reason.Reason.TheVariants.{UnknownWord, NotANumber}
use Rattle.script.specs.Number.{number_of, number_up_to}
use Rattle.script.specs.Parts.{takes, nth_word, address}
use Rattle.script.specs.Then.{◌>>=◌}

-- a call that was read, with its bytes as a list
abbrev pub read_call : Result (Call (Vec ℕ Global)) Reason → Result (Call (List ℕ)) Reason
read_call (Ok c) = Ok (call_with vec_items c)
read_call (Err e) = Err e

-- SIZE: at most 4,096; a buffer of so many zeros
abbrev pub buffer_of : List ℕ → Result (List ℕ) Reason
buffer_of w = do
  size ← number_up_to 4096 w
  Ok (replicate size 0)

-- HEX: the bytes that pairs of hexadecimal digits write, or - for none
abbrev pub decoded : Result (List ℕ) FromHexError → Result (List ℕ) Reason
decoded (Ok bytes) = Ok bytes
decoded (Err e) = Err NotANumber

abbrev pub bytes_of : List ℕ → Result (List ℕ) Reason
bytes_of w = if bytes_eq w (codes "-") then Ok [] else decoded (decode_of w)

-- admit PLACE LOWER LENGTH ENTRY
abbrev pub admit_call : List (List ℕ) → Result (Call (List ℕ)) Reason
admit_call args = takes 4 args (do
  place ← number_of (nth_word args 0)
  lower ← number_of (nth_word args 1)
  length ← number_of (nth_word args 2)
  entry ← number_of (nth_word args 3)
  Ok (call.Admit place (address lower) (record { length = length; entry = relative entry })))

-- load PLACE ADDRESS WORD
abbrev pub load_call : List (List ℕ) → Result (Call (List ℕ)) Reason
load_call args = takes 3 args (do
  place ← number_of (nth_word args 0)
  address ← number_of (nth_word args 1)
  word ← number_of (nth_word args 2)
  Ok (call.Ask place (request.Load (relative address) word)))

-- look PLACE ADDRESS
abbrev pub look_call : List (List ℕ) → Result (Call (List ℕ)) Reason
look_call args = takes 2 args (do
  place ← number_of (nth_word args 0)
  address ← number_of (nth_word args 1)
  Ok (call.Ask place (request.Look (relative address))))

-- run PLACE BUDGET
abbrev pub run_call : List (List ℕ) → Result (Call (List ℕ)) Reason
run_call args = takes 2 args (do
  place ← number_of (nth_word args 0)
  budget ← number_of (nth_word args 1)
  Ok (call.Ask place (request.Run budget)))

-- answer PLACE A Q P
abbrev pub answer_call : List (List ℕ) → Result (Call (List ℕ)) Reason
answer_call args = takes 4 args (do
  place ← number_of (nth_word args 0)
  a ← number_of (nth_word args 1)
  q ← number_of (nth_word args 2)
  p ← number_of (nth_word args 3)
  Ok (call.Ask place (request.Answer a q p)))

-- save PLACE SIZE
abbrev pub save_call : List (List ℕ) → Result (Call (List ℕ)) Reason
save_call args = takes 2 args (do
  place ← number_of (nth_word args 0)
  buffer ← buffer_of (nth_word args 1)
  Ok (call.Ask place (request.Save buffer)))

-- restore PLACE HEX
abbrev pub restore_call : List (List ℕ) → Result (Call (List ℕ)) Reason
restore_call args = takes 2 args (do
  place ← number_of (nth_word args 0)
  bytes ← bytes_of (nth_word args 1)
  Ok (call.Ask place (request.Restore bytes)))

-- tell PLACE
abbrev pub tell_call : List (List ℕ) → Result (Call (List ℕ)) Reason
tell_call args = takes 1 args (do
  place ← number_of (nth_word args 0)
  Ok (call.Ask place request.Tell))

-- retire PLACE
abbrev pub retire_call : List (List ℕ) → Result (Call (List ℕ)) Reason
retire_call args = takes 1 args (do
  place ← number_of (nth_word args 0)
  Ok (call.Retire place))

-- span PLACE
abbrev pub span_call : List (List ℕ) → Result (Call (List ℕ)) Reason
span_call args = takes 1 args (do
  place ← number_of (nth_word args 0)
  Ok (call.Span place))

-- fixed CAUSE CELL
abbrev pub fixed_call : List (List ℕ) → Result (Call (List ℕ)) Reason
fixed_call args = takes 2 args (do
  cause ← number_of (nth_word args 0)
  cell ← number_of (nth_word args 1)
  Ok (call.FixedAddress cause (address cell)))

-- the call of a name that carries no bytes, and the words after it
abbrev pub plain_call : List ℕ → List (List ℕ) → Result (Call (List ℕ)) Reason
plain_call name args =
    if bytes_eq name (codes "admit") then admit_call args
    else (if bytes_eq name (codes "load") then load_call args
    else (if bytes_eq name (codes "look") then look_call args
    else (if bytes_eq name (codes "run") then run_call args
    else (if bytes_eq name (codes "answer") then answer_call args
    else (if bytes_eq name (codes "tell") then tell_call args
    else (if bytes_eq name (codes "retire") then retire_call args
    else (if bytes_eq name (codes "span") then span_call args
    else (if bytes_eq name (codes "fixed") then fixed_call args
    else Err UnknownWord))))))))
