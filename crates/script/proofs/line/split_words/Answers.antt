use Rattle.std.proofs.Common.{◌≡◌, [], vec_items, rules}
use Rattle.script.specs.Line.{words_of, texts}
use Rattle.script.proofs.Texts.{texts_none, texts_push}
use Rattle.script.proofs.Words.{skips, none_left, one_more, all_words}
use Rattle.script.proofs.line.split_words.Goals as goal

pub loop-rest-init : goal.loop-rest-init
loop-rest-init c = search (rules, texts_none)

pub loop-rest-preserved-in-32 : goal.loop-rest-preserved-in-32
loop-rest-preserved-in-32 c = search (rules, skips)

pub loop-rest-preserved : goal.loop-rest-preserved
loop-rest-preserved c = search (rules, texts_push, one_more)

pub returns : goal.returns
returns c =
    let is : texts (vec_items c.loop-rest.words) ≡ words_of c.args.line.now = search (rules, none_left) in
    record { words = is; plain = rw is (all_words [] c.args.line.now tt) }
