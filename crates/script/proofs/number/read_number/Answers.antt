use Rattle.std.proofs.Common.{◌≡◌, ◌∙◌, arith, rules}
use Rattle.std.proofs.lemmas.Bool.Decides.{nat_tests}
use Rattle.script.specs.Number.{number_of}
use Rattle.script.proofs.Prefixes.{by_letter, decimal_short, decimal_first, reads_back}
use Rattle.script.proofs.number.read_number.Goals as goal
use Rattle.script.proofs.number.read_number.Goals.{in_default-via-then-word-lt2, in_default-via-else-word-lt2+in-48+in_default-1, in_default-via-else-word-lt2+in_default-1}

pub returns-in-48 : goal.returns-in-48
returns-in-48 c =
    let is : c.in_base.result ≡ number_of c.args.word.now = grind (arith, nat_tests, by_letter) in
    record { value = is; reads_back = λ n h e. is ∙ reads_back _ n h e }

pub returns-in-48-2 : goal.returns-in-48-2
returns-in-48-2 c =
    let is : c.in_base-in-48-2.result ≡ number_of c.args.word.now = grind (arith, nat_tests, by_letter) in
    record { value = is; reads_back = λ n h e. is ∙ reads_back _ n h e }

pub returns-in_default : goal.returns-in_default
returns-in_default c =
    let is : c.in_base-in_default.result ≡ number_of c.args.word.now
    = elim c.in_default.branch [
      | in_default-via-then-word-lt2 w ↦ search (rules, decimal_short)
      | in_default-via-else-word-lt2+in-48+in_default-1 w ↦ grind (arith, nat_tests, by_letter)
      | in_default-via-else-word-lt2+in_default-1 w ↦ search (rules, decimal_first)
    ] in
    record { value = is; reads_back = λ n h e. is ∙ reads_back _ n h e }
