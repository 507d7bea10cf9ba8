-- The fields of an instruction, from the top: f of six bits, j, k and b of three each, y of fifteen.
use Rattle.std.specs.Prelude.{ℕ, ◌+◌, ◌*◌, ◌/◌, ◌%◌, ◌^◌}

pub record Fields : Type 0 where
  pub f : ℕ
  pub j : ℕ
  pub k : ℕ
  pub b : ℕ
  pub y : ℕ

abbrev pub fields_of : ℕ → Fields
fields_of w = record { f = w / 2 ^ 24 % 64; j = w / 2 ^ 21 % 8; k = w / 2 ^ 18 % 8; b = w / 2 ^ 15 % 8; y = w % 2 ^ 15 }

-- j and k as one code, where f is 77
abbrev pub g : Fields → ℕ
g i = i.j * 8 + i.k
