use Rattle.std.proofs.Common.{Ok, ap, sym, ◌∙◌}
use Rattle.store.specs.Functions.{fetched}
use Rattle.engine.specs.declared.answer.Answer.TheVariants as answer
use Rattle.engine.specs.declared.call.Request.TheVariants as request
use Rattle.engine.proofs.Asked.{told}
use Rattle.engine.proofs.Serves.{looks}
use Rattle.engine.proofs.serving.look.Goals as goal

pub returns-in_ok-fetch-in-Ready : goal.returns-in_ok-fetch-in-Ready
returns-in_ok-fetch-in-Ready g c =
    let cells = g.S.Store.cells c.args.store.now in
    let word = c.in_ok-fetch-in-Ready.field-0 in
    let cell = c.in_ok-cell-in-Ready.ensures.within in
    record {
      performed = told (record { row = cells; places = c.args.places.now }) c.args.place c.in_ok-place_numbered.ensures.there.0 c.in_ok-place_numbered.field-0 c.in_ok-place_numbered.ensures.there.1 c.in-Ready.worker c.in-Ready.is
          (request.Look c.args.address) (answer.Looked (Ok word))
          (λ s. looks cells c.in-Ready.worker s c.args.address.0 cell.0 word (sym (c.in_ok-fetch-in-Ready.ensures ∙ ap (fetched cells) cell.1)));
    }
