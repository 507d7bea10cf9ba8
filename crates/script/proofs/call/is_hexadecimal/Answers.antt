use Rattle.std.proofs.Common.{◌≡◌, ◌%◌, ◌∙◌, length, refl, rules, tests}
use Rattle.std.specs.List.{list_all}
use Rattle.std.proofs.lemmas.Iterator.{YieldsList-from_slice}
use Rattle.std.proofs.lemmas.Iterator.Search.{all_from_yields_List}
use Rattle.hex.specs.Hex.{is_hex_digit}
use Rattle.script.proofs.Hexadecimal.{same_digits, even}
use Rattle.script.proofs.call.is_hexadecimal.Goals as goal

pub returns-then-word-eq0 : goal.returns-then-word-eq0
returns-then-word-eq0 c =
    let every : c.all.result ≡ list_all is_hex_digit c.args.word.now
    = all_from_yields_List _ _ _ c.all.result c.all.ensures.ran (YieldsList-from_slice c.args.word.now cc) (λ x b q k. search (rules, tests, same_digits)) in
    let halves : length c.args.word.now % 2 ≡ 0 = search rules in
    every ∙ even c.args.word.now (list_all is_hex_digit c.args.word.now) halves refl
