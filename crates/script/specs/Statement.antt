-- The grammar of statements: a name, and the words that it takes.
use Rattle.std.specs.Prelude.{ℕ, ◌||◌, Bool, false, List, [], ◌∷◌, drop, Vec, if◌then◌else◌, Ok, Err, codes, Result, vec_items}
use Rattle.std.specs.Str.{bytes_eq}
use Rattle.std.specs.declared.alloc.Global.{Global}
use Rattle.store.specs.declared.half.Half.{Half}
use Rattle.store.specs.declared.half.Half.TheVariants.{Upper, Lower}
use Rattle.store.specs.declared.operation.Operation.TheVariants as op
use Rattle.pairs.specs.declared.place.Side.{Side}
use Rattle.pairs.specs.declared.place.Side.TheVariants.{First, Second}
use Rattle.pairs.specs.declared.rule.Rule.{Rule}
use Rattle.pairs.specs.declared.rule.Rule.TheVariants.{Continuous, Interleaved}
use Rattle.memories.specs.declared.layout.Kind.{Kind}
use Rattle.memories.specs.declared.layout.Kind.TheVariants.{Word, Parity}
use Rattle.memories.specs.declared.layout.Layout.TheVariants.{Single, Pair}
use Rattle.memories.specs.declared.layout.Part.{Part}
use Rattle.script.specs.declared.reason.Reason.{Reason}
use Rattle.script.specs.declared.reason.Reason.TheVariants.{UnknownWord, WordCount}
use Rattle.script.specs.declared.statement.Statement.{Statement}
use Rattle.script.specs.declared.statement.Statement.TheVariants as st
use Rattle.engine.specs.Bytes.{call_with}
use Rattle.engine.specs.declared.call.Call.{Call}
use Rattle.script.specs.Calls.{plain_call, save_call, restore_call}
use Rattle.script.specs.Number.{number_of, number_up_to}
use Rattle.script.specs.Parts.{takes, nth_word, address}
use Rattle.script.specs.Then.{◌>>=◌}

-- a statement as the definition has it: its bytes are a list
abbrev pub statement_seen : Statement (Vec ℕ Global) → Statement (List ℕ)
statement_seen (st.Memory l) = st.Memory l
statement_seen (st.Raw side i v) = st.Raw side i v
statement_seen (st.Operation o) = st.Operation o
statement_seen st.Install = st.Install
statement_seen (st.Call c) = st.Call (call_with vec_items c)

-- one that was read
abbrev pub read_statement : Result (Statement (Vec ℕ Global)) Reason → Result (Statement (List ℕ)) Reason
read_statement (Ok s) = Ok (statement_seen s)
read_statement (Err e) = Err e

abbrev pub half_of : List ℕ → Result Half Reason
half_of w =
    if bytes_eq w (codes "upper") then Ok Upper
    else (if bytes_eq w (codes "lower") then Ok Lower
    else Err UnknownWord)

-- KIND
abbrev pub kind_of : List ℕ → Result Kind Reason
kind_of w =
    if bytes_eq w (codes "word") then Ok Word
    else (if bytes_eq w (codes "parity") then Ok Parity
    else Err UnknownWord)

-- N: at most 262,144
abbrev pub size_of : List ℕ → Result ℕ Reason
size_of w = number_up_to 262144 w

-- KIND N
abbrev pub part_of : List ℕ → List ℕ → Result Part Reason
part_of k n = do
  kind ← kind_of k
  size ← size_of n
  Ok (record { kind = kind; size = size })

-- memory KIND N
abbrev pub single_statement : List ℕ → List (List ℕ) → Result (Statement (List ℕ)) Reason
single_statement k args = do
  kind ← kind_of k
  takes 1 args (do
    size ← size_of (nth_word args 0)
    Ok (st.Memory (Single (record { kind = kind; size = size }))))

-- memory continuous KIND N KIND M, memory interleaved KIND N KIND M
abbrev pub pair_statement : Rule → List (List ℕ) → Result (Statement (List ℕ)) Reason
pair_statement rule args = takes 4 args (do
  first ← part_of (nth_word args 0) (nth_word args 1)
  second ← part_of (nth_word args 2) (nth_word args 3)
  Ok (st.Memory (Pair rule first second)))

-- the word after `memory` belongs to the name: it says what follows
abbrev pub layout_statement : List ℕ → List (List ℕ) → Result (Statement (List ℕ)) Reason
layout_statement w args =
    if bytes_eq w (codes "continuous") then pair_statement Continuous args
    else (if bytes_eq w (codes "interleaved") then pair_statement Interleaved args
    else single_statement w args)

abbrev pub memory_statement : List (List ℕ) → Result (Statement (List ℕ)) Reason
memory_statement [] = Err WordCount
memory_statement (w ∷ args) = layout_statement w args

-- raw INDEX VALUE, raw second INDEX VALUE
abbrev pub damage_statement : Side → List (List ℕ) → Result (Statement (List ℕ)) Reason
damage_statement side args = takes 2 args (do
  i ← number_of (nth_word args 0)
  v ← number_of (nth_word args 1)
  Ok (st.Raw side i v))

-- a `second` after `raw` belongs to the name
abbrev pub raw_statement : List (List ℕ) → Result (Statement (List ℕ)) Reason
raw_statement args =
    if bytes_eq (nth_word args 0) (codes "second") then damage_statement Second (drop 1 args)
    else damage_statement First args

-- count
abbrev pub count_statement : List (List ℕ) → Result (Statement (List ℕ)) Reason
count_statement args = takes 0 args (Ok (st.Operation op.Count))

-- fetch CELL
abbrev pub fetch_statement : List (List ℕ) → Result (Statement (List ℕ)) Reason
fetch_statement args = takes 1 args (do
  a ← number_of (nth_word args 0)
  Ok (st.Operation (op.Fetch (address a))))

-- put CELL WORD
abbrev pub put_statement : List (List ℕ) → Result (Statement (List ℕ)) Reason
put_statement args = takes 2 args (do
  a ← number_of (nth_word args 0)
  w ← number_of (nth_word args 1)
  Ok (st.Operation (op.PutWhole (address a) w)))

-- put-half CELL upper|lower HALF
abbrev pub put_half_statement : List (List ℕ) → Result (Statement (List ℕ)) Reason
put_half_statement args = takes 3 args (do
  a ← number_of (nth_word args 0)
  h ← half_of (nth_word args 1)
  v ← number_of (nth_word args 2)
  Ok (st.Operation (op.PutHalf (address a) h v)))

-- install
abbrev pub install_statement : List (List ℕ) → Result (Statement (List ℕ)) Reason
install_statement args = takes 0 args (Ok st.Install)

-- a call
abbrev pub call_statement : Result (Call (List ℕ)) Reason → Result (Statement (List ℕ)) Reason
call_statement r = do
  c ← r
  Ok (st.Call c)

-- the statement of a name that carries no bytes, and the words after it
abbrev pub plain_statement : List ℕ → List (List ℕ) → Result (Statement (List ℕ)) Reason
plain_statement name args =
    if bytes_eq name (codes "memory") then memory_statement args
    else (if bytes_eq name (codes "raw") then raw_statement args
    else (if bytes_eq name (codes "count") then count_statement args
    else (if bytes_eq name (codes "fetch") then fetch_statement args
    else (if bytes_eq name (codes "put") then put_statement args
    else (if bytes_eq name (codes "put-half") then put_half_statement args
    else (if bytes_eq name (codes "install") then install_statement args
    else call_statement (plain_call name args)))))))

-- the statement of a name and the words after it
abbrev pub named_statement : List ℕ → List (List ℕ) → Result (Statement (List ℕ)) Reason
named_statement name args =
    if bytes_eq name (codes "save") then call_statement (save_call args)
    else (if bytes_eq name (codes "restore") then call_statement (restore_call args)
    else plain_statement name args)

-- Is the name before the words of a line that of a statement with bytes? Only such a statement needs memory.
abbrev pub carries_bytes : List (List ℕ) → Bool
carries_bytes [] = false
carries_bytes (name ∷ args) = bytes_eq name (codes "save") || bytes_eq name (codes "restore")

-- the statement that the words of a line make, the name first
unfoldable pub statement_of : List (List ℕ) → Result (Statement (List ℕ)) Reason
statement_of [] = Err WordCount
statement_of (name ∷ args) = named_statement name args
