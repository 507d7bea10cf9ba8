use Rattle.std.proofs.Common.{◌≡◌, ◌+◌, Ok, vec_items, ◌∙◌, rules, tests}
use Rattle.std.specs.Option.{option_map}
use Rattle.script.specs.Play.{line_played, line_left}
use Rattle.script.specs.Script.{grown}
use Rattle.script.proofs.Following.{played_on, played_bad, played_all}
use Rattle.script.proofs.Lines.{parts_of, numbered_parts}
use Rattle.std.proofs.lemmas.Iterator.Consumers.{YieldsList-turn, YieldsList-end}
use Rattle.script.proofs.player.play_lines.Goals as goal

pub loop-index-preserved : goal.loop-index-preserved
loop-index-preserved c =
    let turn = YieldsList-turn
    (numbered_parts _ c.args.script.now c.into_iter-index-iterator.ensures.into_iter_gives c.enumerate-index-items.ensures.source c.enumerate-index-items.ensures.count c.split.ensures.rest c.split.ensures.done c.split.ensures.closure (λ x b q k. search (rules, tests)))
    c.loop-index.yielded _ c.loop-index.yielded_by _ _ _ c.in-Some.is c.next.ensures.steps in
    let said : Ok (option_map vec_items c.in_ok-text.text) ≡ line_played c.loop-index.session (c.in-Some.index + 1) c.in-Some.line.now = search rules in
    let grows : vec_items c.extend.new.transcript ≡ grown (vec_items c.loop-index.transcript) (option_map vec_items c.in_ok-text.text) = search rules in
    let leaves : c.play_line.new.self ≡ line_left c.loop-index.session c.in-Some.line.now = search rules in
    played_on _ _ (parts_of c.args.script.now) c.loop-index.yielded c.in-Some.index c.in-Some.line.now turn _ _ _ _ said grows leaves ∙ c.loop-index.invariant

pub returns-in_err-text : goal.returns-in_err-text
returns-in_err-text c =
    let turn = YieldsList-turn
    (numbered_parts _ c.args.script.now c.into_iter-index-iterator.ensures.into_iter_gives c.enumerate-index-items.ensures.source c.enumerate-index-items.ensures.count c.split.ensures.rest c.split.ensures.done c.split.ensures.closure (λ x b q k. search (rules, tests)))
    c.loop-index.yielded _ c.loop-index.yielded_by _ _ _ c.in-Some.is c.next.ensures.steps in
    search (rules, played_bad)

pub returns : goal.returns
returns c =
    let end = YieldsList-end
    (numbered_parts _ c.args.script.now c.into_iter-index-iterator.ensures.into_iter_gives c.enumerate-index-items.ensures.source c.enumerate-index-items.ensures.count c.split.ensures.rest c.split.ensures.done c.split.ensures.closure (λ x b q k. search (rules, tests)))
    c.loop-index.yielded _ c.loop-index.yielded_by _ _ c.in-None.is c.next.ensures.steps in
    search (rules, played_all)
