-- The register record: 29 bytes, each number with its highest byte first.
use Rattle.std.specs.Prelude.{ℕ, ◌+◌, ◌^◌, List, [], ◌∷◌, ◌++◌, length, drop, nat_lt, ◌==◌, not, if◌then◌else◌, map, Option, Some, None, Result, Ok, Err, slice_index, slice_range}
use Rattle.std.specs.Int.{w16, w32, to_be_bytes, from_be_bytes}
use Rattle.std.specs.List.{flat_map}
use Rattle.std.specs.Option.{option_or}
use Rattle.records.specs.Registers.{Registers}
use Rattle.records.specs.declared.fault.RecordFault.{RecordFault}
use Rattle.records.specs.declared.fault.RecordFault.TheVariants.{TooShort, WrongLength, WrongVersion, TooWide}
use Rattle.records.specs.declared.fault.BufferTooShort.{BufferTooShort}

-- the size of the record; its length field tells the bytes that follow that field
abbrev pub record_size : ℕ
record_size = 29

abbrev pub length_told : ℕ
length_told = 27

abbrev pub version : ℕ
version = 1

-- length, version, A, Q, B1 to B7, P
unfoldable pub record_of : Registers → List ℕ
record_of r =
    to_be_bytes w16 length_told
    ++ version ∷ []
    ++ to_be_bytes w32 r.a
    ++ to_be_bytes w32 r.q
    ++ flat_map (to_be_bytes w16) r.b
    ++ to_be_bytes w32 r.p

-- writing one into a buffer: the answer, and the buffer after it was taken; the bytes past the record stay
abbrev pub write_answer : List ℕ → Result (Unit {0}) BufferTooShort
write_answer buffer = if nat_lt (length buffer) record_size then Err (record {}) else Ok tt

abbrev pub written : Registers → List ℕ → List ℕ
written r buffer = record_of r ++ drop record_size buffer

-- the numbers of two and of four bytes at an offset
abbrev pub two_at : List ℕ → ℕ → ℕ
two_at bytes at = from_be_bytes w16 (slice_range bytes at (at + 2))

abbrev pub four_at : List ℕ → ℕ → ℕ
four_at bytes at = from_be_bytes w32 (slice_range bytes at (at + 4))

-- where A, Q, B1 to B7 and P stand in it
abbrev pub a_field : ℕ
a_field = 3

abbrev pub q_field : ℕ
q_field = 7

abbrev pub b_fields : List ℕ
b_fields = 11 ∷ 13 ∷ 15 ∷ 17 ∷ 19 ∷ 21 ∷ 23 ∷ []

abbrev pub p_field : ℕ
p_field = 25

-- the registers that a record's bytes tell
unfoldable pub registers_in : List ℕ → Registers
registers_in bytes = record {
  a = four_at bytes a_field;
  q = four_at bytes q_field;
  b = map (two_at bytes) b_fields;
  p = four_at bytes p_field;
}

-- the first of the offsets at which a number has more than so many bits
abbrev pub first_wide : ℕ → (ℕ → ℕ) → List ℕ → Option ℕ
first_wide bits number [] = None
first_wide bits number (at ∷ rest) = if nat_lt (number at) (2 ^ bits) then first_wide bits number rest else Some at

-- the offset of the first field that its register has no room for
unfoldable pub too_wide : List ℕ → Option ℕ
too_wide bytes =
    option_or (first_wide 30 (four_at bytes) (a_field ∷ q_field ∷ []))
    (option_or (first_wide 15 (two_at bytes) b_fields)
    (first_wide 17 (four_at bytes) (p_field ∷ [])))

-- what fields tell, if none of them is too wide
abbrev pub read_if : {X : Type 0} → Option ℕ → X → Result X RecordFault
read_if (Some offset) told = Err (TooWide offset)
read_if None told = Ok told

-- reading one from bytes, of which those past the record do not matter
abbrev pub fields_read : List ℕ → Option ℕ → Result Registers RecordFault
fields_read bytes wide = read_if wide (registers_in bytes)

unfoldable pub record_read : List ℕ → Result Registers RecordFault
record_read bytes =
    if nat_lt (length bytes) record_size then Err TooShort
    else (if not (two_at bytes 0 == length_told) then Err WrongLength
    else (if not (slice_index bytes 2 == version) then Err WrongVersion
    else fields_read bytes (too_wide bytes)))
