use Rattle.std.proofs.Common.{Ok, sym}
use Rattle.engine.specs.declared.answer.Answer.TheVariants as answer
use Rattle.engine.specs.declared.call.Request.TheVariants as request
use Rattle.engine.proofs.Asked.{told}
use Rattle.engine.proofs.Serves.{saves}
use Rattle.engine.proofs.serving.save.Goals as goal

pub returns-in_ok-write-in-Ready-clause-performed : goal.returns-in_ok-write-in-Ready-clause-performed
returns-in_ok-write-in-Ready-clause-performed g c =
    let cells = g.S.Store.cells c.args.store.now in
    rw (c.in_ok-write-in-Ready.ensures.buffer) (told (record { row = cells; places = c.args.places.now }) c.args.place c.in_ok-place_numbered.ensures.there.0 c.in_ok-place_numbered.field-0 c.in_ok-place_numbered.ensures.there.1 c.in-Ready.worker c.in-Ready.is
    (request.Save c.args.buffer.now) (answer.Saved (Ok tt) _)
    (λ s. saves cells c.in-Ready.worker s c.args.buffer.now (sym c.in_ok-write-in-Ready.ensures.answer)))
