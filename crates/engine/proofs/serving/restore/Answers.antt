use Rattle.std.proofs.Common.{Ok, sym}
use Rattle.engine.specs.declared.answer.Answer.TheVariants as answer
use Rattle.engine.specs.declared.call.Request.TheVariants as request
use Rattle.engine.proofs.Asked.{readied}
use Rattle.engine.proofs.Serves.{restores}
use Rattle.engine.proofs.serving.restore.Goals as goal

pub returns-in_ok-registers-in-Ready-clause-performed : goal.returns-in_ok-registers-in-Ready-clause-performed
returns-in_ok-registers-in-Ready-clause-performed g c =
    let cells = g.S.Store.cells c.args.store.now in
    let r = c.in_ok-registers-in-Ready.registers in
    readied (record { row = cells; places = c.args.places.now }) c.args.place c.in_ok-place_numbered.ensures.there.0 c.in_ok-place_numbered.field-0 c.in_ok-place_numbered.ensures.there.1 c.in-Ready.worker c.in-Ready.is
    (request.Restore c.args.bytes.now) (answer.Restored (Ok tt)) r
    (λ s. restores cells c.in-Ready.worker s c.args.bytes.now r (sym c.in_ok-registers-in-Ready.ensures.value))
