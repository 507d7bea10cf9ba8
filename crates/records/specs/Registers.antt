-- The registers of a worker.
use Rattle.std.specs.Prelude.{◌≡◌, ℕ, ◌-◌, ◌^◌, ◌<◌, ◌==◌, if◌then◌else◌, List, ◌∷◌, length, replicate, slice_index, slice_set}
use Rattle.std.specs.List.{AllByRecursion}

-- A and Q; B1 to B7 in this order; P
pub record Registers : Type 0 where
  pub a : ℕ
  pub q : ℕ
  pub b : List ℕ
  pub p : ℕ

-- A and Q have 30 bits, each of B1 to B7 has 15, and P has 17
abbrev pub Fits : Registers → Type 0
Fits r = (r.a < 2 ^ 30) × (r.q < 2 ^ 30) × (length r.b ≡ 7) × AllByRecursion (λ x. x < 2 ^ 15) r.b × (r.p < 2 ^ 17)

-- P at the entry, and all others 0
abbrev pub starting_at : ℕ → Registers
starting_at entry = record { a = 0; q = 0; b = replicate 7 0; p = entry }

-- Bj, where B0 is 0
abbrev pub index : Registers → ℕ → ℕ
index r j = slice_index (0 ∷ r.b) j

-- and the registers with another Bj; B0 stays 0
abbrev pub with_index : Registers → ℕ → ℕ → Registers
with_index r j x = if j == 0 then r else record r { b = slice_set r.b (j - 1) x }

-- the registers with another P
abbrev pub with_p : Registers → ℕ → Registers
with_p r p = record r { p = p }
