-- Parts of statements: how many words a name takes, and each of them.
use Rattle.std.specs.Prelude.{ℕ, List, [], length, if◌then◌else◌, Err, Result, ◌==◌, slice_index_or}
use Rattle.store.specs.declared.address.CellAddress.{CellAddress}
use Rattle.script.specs.declared.reason.Reason.{Reason}
use Rattle.script.specs.declared.reason.Reason.TheVariants.{WordCount}

-- what takes n words after its name
abbrev pub takes : {X : Type 0} → ℕ → List (List ℕ) → Result X Reason → Result X Reason
takes n args x = if length args == n then x else Err WordCount

-- word i after the name
abbrev pub nth_word : List (List ℕ) → ℕ → List ℕ
nth_word args i = slice_index_or args i []

abbrev pub address : ℕ → CellAddress
address a = record { 0 = a }
