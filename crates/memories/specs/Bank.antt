-- One memory: the row that its numbers mean, and what a put and damage from outside make of them.
use Rattle.std.specs.Prelude.{ℕ, ◌^◌, Bool, ◌&&◌, List, length, nat_lt, replicate, slice_index, slice_set}
use Rattle.words.specs.Words.{word_bits}
use Rattle.store.specs.Cells.{Cell}
use Rattle.store.specs.declared.half.Half.{Half}
use Rattle.stores.specs.Memory.{numbers}
use Rattle.stores.specs.Parity as parity
use Rattle.stores.specs.Word as word
use Rattle.memories.specs.declared.bank.Bank.{Bank}
use Rattle.memories.specs.declared.bank.Bank.TheVariants as bank
use Rattle.memories.specs.declared.layout.Kind.{Kind}
use Rattle.memories.specs.declared.layout.Kind.TheVariants.{Word, Parity}
use Rattle.memories.specs.declared.layout.Part.{Part}

pub record Memory : Type 0 where
  pub kind : Kind
  pub numbers : List ℕ

abbrev pub memory_of : Bank → Memory
memory_of (bank.Word m) = record { kind = Word; numbers = numbers m }
memory_of (bank.Parity m) = record { kind = Parity; numbers = numbers m }

-- the row that numbers of a kind mean
abbrev pub row_by : Kind → List ℕ → List Cell
row_by Word xs = word.row_of xs
row_by Parity xs = parity.row_of xs

abbrev pub memory_row : Memory → List Cell
memory_row m = row_by m.kind m.numbers

abbrev pub bank_row : Bank → List Cell
bank_row b = memory_row (memory_of b)

-- the numbers after a put whole and after a put half that are taken, by their kind
abbrev pub whole_by : Kind → List ℕ → ℕ → ℕ → List ℕ
whole_by Word xs a w = slice_set xs a (word_bits w)
whole_by Parity xs a w = parity.whole_written xs a w

abbrev pub half_by : Kind → List ℕ → ℕ → Half → ℕ → List ℕ
half_by Word xs a h v = slice_set xs a (word.half_written (slice_index xs a) h v)
half_by Parity xs a h v = parity.half_written xs a h v

-- the memory after a put of a word, and of a value in one half, in its cell at an address
abbrev pub memory_with_word : ℕ → Memory → ℕ → Memory
memory_with_word w m a = record m { numbers = whole_by m.kind m.numbers a w }

abbrev pub memory_with_half : Half → ℕ → Memory → ℕ → Memory
memory_with_half h v m a = record m { numbers = half_by m.kind m.numbers a h v }

-- what each number of a new memory is: good zeros
abbrev pub zero_of : Kind → ℕ
zero_of Word = 0
zero_of Parity = 32768

-- a new memory of so many numbers
abbrev pub new_memory : Part → Memory
new_memory p = record { kind = p.kind; numbers = replicate p.size (zero_of p.kind) }

-- the numbers of a memory are below this
abbrev pub number_bound : Kind → ℕ
number_bound Word = 2 ^ 32
number_bound Parity = 2 ^ 16

-- damage from outside makes number i of a memory x, if it has a number i and can hold an x
abbrev pub takes : Memory → ℕ → ℕ → Bool
takes m i x = nat_lt i (length m.numbers) && nat_lt x (number_bound m.kind)

-- the memory after that
abbrev pub memory_with_number : ℕ → ℕ → Memory → Memory
memory_with_number i x m = record m { numbers = slice_set m.numbers i x }
