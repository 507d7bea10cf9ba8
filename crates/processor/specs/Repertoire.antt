-- The repertoire: the codes of the instructions. Every other code is illegal.
use Rattle.std.specs.Prelude.{ℕ, Bool, true, not, ◌||◌, ◌==◌, if◌then◌else◌, List, [], ◌∷◌, Option, Some, None}
use Rattle.processor.specs.declared.operation.Operation.{Operation}
use Rattle.processor.specs.declared.operation.Operation.TheVariants as op
use Rattle.processor.specs.declared.operation.Computation.{Computation}
use Rattle.processor.specs.declared.operation.Computation.TheVariants as computation
use Rattle.processor.specs.declared.operation.Shifted.TheVariants.{A, Q, Aq}
use Rattle.processor.specs.Fields.{Fields, g}

-- a line of the repertoire: a code in octal, and its operation
pub record Line : Type 0 where
  pub code : ℕ
  pub operation : Operation

infix 11 ◌is◌
abbrev pub ◌is◌ : ℕ → Operation → Line
code is operation = record { code = code; operation = operation }

-- the operation of a code
abbrev pub with_code : ℕ → List Line → Option Operation
with_code code [] = None
with_code code (line ∷ lines) = if code == line.code then Some line.operation else with_code code lines

-- by f
abbrev pub instructions : List Line
instructions =
    (0o01 is op.ShiftRight Q) ∷
    (0o02 is op.ShiftRight A) ∷
    (0o03 is op.ShiftRight Aq) ∷
    (0o05 is op.ShiftLeft Q) ∷
    (0o06 is op.ShiftLeft A) ∷
    (0o07 is op.ShiftLeft Aq) ∷
    (0o10 is op.EnterQ) ∷
    (0o11 is op.EnterA) ∷
    (0o12 is op.EnterB) ∷
    (0o14 is op.StoreQ) ∷
    (0o15 is op.StoreA) ∷
    (0o16 is op.StoreB) ∷
    (0o20 is op.Compute computation.Sum) ∷
    (0o21 is op.Compute computation.Difference) ∷
    (0o24 is op.Replace computation.Sum) ∷
    (0o25 is op.Replace computation.Difference) ∷
    (0o36 is op.Replace computation.Increment) ∷
    (0o37 is op.Replace computation.Decrement) ∷
    (0o40 is op.Compute computation.Product) ∷
    (0o41 is op.Compute computation.SumWithProduct) ∷
    (0o42 is op.Compute computation.DifferenceWithProduct) ∷
    (0o43 is op.CompareMasked) ∷
    (0o44 is op.Replace computation.Product) ∷
    (0o45 is op.Replace computation.SumWithProduct) ∷
    (0o46 is op.Replace computation.DifferenceWithProduct) ∷
    (0o47 is op.StoreProduct) ∷
    (0o50 is op.Compute computation.SelectiveSet) ∷
    (0o51 is op.Compute computation.SelectiveComplement) ∷
    (0o52 is op.Compute computation.SelectiveClear) ∷
    (0o53 is op.Compute computation.SelectiveSubstitute) ∷
    (0o54 is op.Replace computation.SelectiveSet) ∷
    (0o55 is op.Replace computation.SelectiveComplement) ∷
    (0o56 is op.Replace computation.SelectiveClear) ∷
    (0o57 is op.Replace computation.SelectiveSubstitute) ∷
    (0o60 is op.Jump) ∷
    (0o64 is op.ReturnJump) ∷
    (0o71 is op.SkipOnB) ∷
    (0o72 is op.JumpOnB) ∷
    []

-- by g, where f is 77
abbrev pub instructions_77 : List Line
instructions_77 =
    (0o21 is op.EnterAq) ∷
    (0o23 is op.CompareAqEqual) ∷
    (0o25 is op.StoreAq) ∷
    (0o27 is op.CompareAqLess) ∷
    (0o30 is op.ScaleFactor) ∷
    (0o31 is op.PackLower) ∷
    (0o51 is op.ShiftRightLogical Q) ∷
    (0o52 is op.TestAndSet) ∷
    (0o53 is op.MaskedEqual) ∷
    (0o54 is op.ExecutiveReturn) ∷
    (0o55 is op.ShiftRightLogical A) ∷
    (0o56 is op.ShiftRightLogical Aq) ∷
    (0o57 is op.MaskedLess) ∷
    []

abbrev pub coded : Fields → Option Operation
coded i = if i.f == 0o77 then with_code (g i) instructions_77 else with_code i.f instructions

-- three computations do not allow a k of 7
abbrev pub allows_computing : Computation → ℕ → Bool
allows_computing computation.SelectiveSet k = not (k == 7)
allows_computing computation.SelectiveClear k = not (k == 7)
allows_computing computation.SelectiveSubstitute k = not (k == 7)
allows_computing c k = true

-- does an operation allow a k? A replace form none of 0, 4 and 7, and the product of A and Q no 7 either
abbrev pub allows : Operation → ℕ → Bool
allows (op.Replace c) k = not (k == 0 || k == 4 || k == 7)
allows (op.Compute c) k = allows_computing c k
allows op.StoreProduct k = not (k == 7)
allows operation k = true

-- the operation of an instruction, if it is legal
abbrev pub if_allowed : ℕ → Option Operation → Option Operation
if_allowed k (Some operation) = if allows operation k then Some operation else None
if_allowed k None = None

unfoldable pub operation_of : Fields → Option Operation
operation_of i = if_allowed i.k (coded i)
