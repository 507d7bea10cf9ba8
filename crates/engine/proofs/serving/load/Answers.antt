use Rattle.std.proofs.Common.{Ok, ap, sym, ◌∙◌, arith}
use Rattle.store.specs.Functions.{put_whole_answer, whole_put}
use Rattle.processor.specs.Limits.{between}
use Rattle.engine.specs.declared.answer.Answer.TheVariants as answer
use Rattle.engine.specs.declared.call.Request.TheVariants as request
use Rattle.engine.proofs.Asked.{reworded}
use Rattle.engine.proofs.Serves.{loads}
use Rattle.processor.proofs.Between.{whole_between}
use Rattle.engine.proofs.serving.load.Goals as goal

pub returns-in_ok-put_whole-in-Ready-clause-performed : goal.returns-in_ok-put_whole-in-Ready-clause-performed
returns-in_ok-put_whole-in-Ready-clause-performed g c =
    let cells = g.S.Store.cells c.args.store.now in
    let w = c.in-Ready.worker in
    let cell = c.in_ok-cell-in-Ready.ensures.within in
    let r = c.args.address.0 in
    reworded (record { row = cells; places = c.args.places.now }) c.args.place c.in_ok-place_numbered.ensures.there.0 c.in_ok-place_numbered.field-0 c.in_ok-place_numbered.ensures.there.1 w c.in-Ready.is
    (request.Load c.args.address c.args.word) (answer.Loaded (Ok tt))
    (whole_put (between cells w.limits) r c.args.word) (g.S.Store.cells c.put_whole.new.self)
    (rw (c.in_ok-put_whole-in-Ready.ensures.after, cell.1) (whole_between cells w.limits r cell.0 c.args.word))
    (λ s. loads cells w s r cell.0 c.args.word (grind (arith, c.if-word.false)) (sym (c.in_ok-put_whole-in-Ready.ensures.answer ∙ ap (put_whole_answer cells) cell.1)))
