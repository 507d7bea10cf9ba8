use Rattle.std.proofs.Common.{◌≡◌, ◌^◌, ◌&&◌, nat_lt, true, Ok, sym, ◌∙◌}
use Rattle.engine.specs.declared.answer.Answer.TheVariants as answer
use Rattle.engine.specs.declared.answer.State.TheVariants as state
use Rattle.engine.specs.declared.call.Request.TheVariants as request
use Rattle.engine.specs.declared.place.Place.TheVariants.{Held}
use Rattle.engine.specs.Installation.{place_at}
use Rattle.engine.proofs.Asked.{readied_in}
use Rattle.engine.proofs.Serves.{answers}
use Rattle.engine.proofs.serving.answer.Goals as goal

pub returns-in-Held-true-clause-performed : goal.returns-in-Held-true-clause-performed
returns-in-Held-true-clause-performed g c =
    let cells = g.S.Store.cells c.args.store.now in
    let w = c.in-Held-true.worker in
    let report = c.in-Held-true.field-1-0 in
    let fit : (nat_lt c.args.a (2 ^ 30) && nat_lt c.args.q (2 ^ 30) && nat_lt c.args.p (2 ^ 17)) ≡ true = sym c.in-Held-true.ensures in
    let held : place_at c.args.places.now c.args.place ≡ Held w report = sym c.in_ok-place_numbered.ensures.there.1 ∙ c.in-Held-true.is-0 in
    rw (c.with_answer.ensures) (readied_in (record { row = cells; places = c.args.places.now }) c.args.place c.in_ok-place_numbered.ensures.there.0 c.in_ok-place_numbered.field-0 c.in_ok-place_numbered.ensures.there.1 w
    (state.Held report) held (request.Answer c.args.a c.args.q c.args.p) (answer.Answered (Ok tt)) _
    (answers cells w report c.args.a c.args.q c.args.p fit))
