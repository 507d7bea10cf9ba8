use Rattle.std.proofs.Common.{sym, ◌∙◌}
use Rattle.engine.specs.declared.answer.State.TheVariants as state
use Rattle.engine.specs.declared.call.Request.TheVariants as request
use Rattle.engine.proofs.Asked.{told_in}
use Rattle.engine.proofs.Serves.{tells}
use Rattle.engine.proofs.serving.tell.Goals as goal

pub returns-in-Ready : goal.returns-in-Ready
returns-in-Ready g c =
    let cells = g.S.Store.cells c.args.store.now in
    let w = c.in-Ready.worker in
    record {
      performed = told_in (record { row = cells; places = c.args.places.now }) c.args.place c.in_ok-place_numbered.ensures.there.0 c.in_ok-place_numbered.field-0 c.in_ok-place_numbered.ensures.there.1 w
          state.Ready (sym c.in_ok-place_numbered.ensures.there.1 ∙ c.in-Ready.is) request.Tell _ (tells cells w state.Ready);
    }

pub returns-in-Held : goal.returns-in-Held
returns-in-Held g c =
    let cells = g.S.Store.cells c.args.store.now in
    let w = c.in-Held.worker in
    let held = state.Held c.in-Held.report in
    record {
      performed = told_in (record { row = cells; places = c.args.places.now }) c.args.place c.in_ok-place_numbered.ensures.there.0 c.in_ok-place_numbered.field-0 c.in_ok-place_numbered.ensures.there.1 w
          held (sym c.in_ok-place_numbered.ensures.there.1 ∙ c.in-Held.is) request.Tell _ (tells cells w held);
    }
