-- The numbers of causes.
use Rattle.std.proofs.Common.{ℕ, ◌≡◌, Ok, refl, subst, arith}
use Rattle.processor.specs.declared.report.Cause.{Cause}
use Rattle.processor.specs.declared.report.Cause.TheVariants.{IllegalInstruction, Protection, Parity, ExecutiveReturn, TestAndSet}
use Rattle.processor.specs.Reports.{cause_number}
use Rattle.engine.specs.FixedAddress.{cause_numbered}
use Rattle.engine.specs.Laws.{CausesAreNumbered}

has_number : (c : Cause) → cause_numbered (cause_number c) ≡ Ok c
has_number IllegalInstruction = refl
has_number Protection = refl
has_number Parity = refl
has_number ExecutiveReturn = refl
has_number TestAndSet = refl

is_numbered : (n : ℕ) (c : Cause) → cause_numbered n ≡ Ok c → cause_number c ≡ n
is_numbered n c found = grind (arith, found)

pub causes_are_numbered : CausesAreNumbered
causes_are_numbered n c = (is_numbered n c, λ same. subst (λ n. cause_numbered n ≡ Ok c) same (has_number c))
