use Rattle.std.proofs.Common.{arith, ◌≡◌, ◌%◌}
use Rattle.engine.specs.Installation.{Installation}
use Rattle.engine.proofs.Passing.{admits, finds_room, past_entry}
use Rattle.engine.proofs.admitting.admit.Goals as goal

pub returns-then-terms-clause-performed : goal.returns-then-terms-clause-performed
returns-then-terms-clause-performed g c =
    let i : Installation = record { row = g.S.Store.cells c.args.store.now; places = c.args.places.now } in
    past_entry i c.args.place c.args.lower c.args.terms
    (finds_room i c.args.place c.args.lower c.args.terms _ _ c.in_ok-place_numbered.ensures.there c.in-Free.is c.in_ok-limits-in-Free.ensures.found c.if-is_shared.ensures)
    (grind (arith, c.if-terms.true))

pub returns-else-terms-clause-performed : goal.returns-else-terms-clause-performed
returns-else-terms-clause-performed g c =
    let i : Installation = record { row = g.S.Store.cells c.args.store.now; places = c.args.places.now } in
    let found = c.in_ok-limits-in-Free.ensures.found in
    let small : c.args.terms.entry.0 % 131072 ≡ c.args.terms.entry.0 = grind (arith, found.1, c.if-terms.false) in
    rw (found.0, c.starting_at.ensures, small) (admits i c.args.place c.args.lower c.args.terms
    (finds_room i c.args.place c.args.lower c.args.terms _ _ c.in_ok-place_numbered.ensures.there c.in-Free.is found c.if-is_shared.ensures)
    (grind (arith, c.if-terms.false)))
