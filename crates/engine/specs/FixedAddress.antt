-- The fixed addresses to which interrupts go.
use Rattle.std.specs.Prelude.{ℕ, ◌/◌, nat_lt, ◌==◌, if◌then◌else◌, Result, Ok, Err}
use Rattle.store.specs.Cells.{most_cells}
use Rattle.store.specs.declared.address.CellAddress.{CellAddress}
use Rattle.processor.specs.declared.report.Cause.{Cause}
use Rattle.processor.specs.declared.report.Cause.TheVariants.{IllegalInstruction, Protection, Parity, ExecutiveReturn, TestAndSet}
use Rattle.processor.specs.Then.{◌>>=◌}
use Rattle.engine.specs.declared.refusal.Refusal.{Refusal}
use Rattle.engine.specs.declared.refusal.Refusal.TheVariants.{NoFixedAddress}
use Rattle.engine.specs.Refusals.{require}

-- the cause with a number
abbrev pub cause_numbered : ℕ → Result Cause Refusal
cause_numbered number =
    if number == 1 then Ok IllegalInstruction
    else (if number == 2 then Ok Protection
    else (if number == 3 then Ok Parity
    else (if number == 4 then Ok ExecutiveReturn
    else (if number == 5 then Ok TestAndSet
    else Err NoFixedAddress))))

-- parity has an address for each of four parts of 32,768 cells
abbrev pub of_part : ℕ → ℕ
of_part part = if part == 0 then 0o3 else (if part == 1 then 0o4 else (if part == 2 then 0o23 else 0o27))

abbrev pub fixed : Cause → ℕ → ℕ
fixed IllegalInstruction cell = 0o0
fixed Protection cell = 0o1
fixed Parity cell = of_part (cell / 32768)
fixed ExecutiveReturn cell = 0o7
fixed TestAndSet cell = 0o30

unfoldable pub fixed_address : (number cell : ℕ) → Result CellAddress Refusal
fixed_address number cell = do
  cause ← cause_numbered number
  exists ← require (nat_lt cell most_cells) NoFixedAddress
  Ok (record { 0 = fixed cause cell })
