use Rattle.std.proofs.Common.{ap, subst}
use Rattle.engine.specs.Installation.{Installation}
use Rattle.engine.specs.Laws.{AdmitsBySpans}
use Rattle.engine.proofs.Keeping.{performs_sound}
use Rattle.engine.proofs.Room.{admits_by_spans}
use Rattle.engine.proofs.installation.Installation.admit.Goals as goal

pub invariant_of-self : goal.invariant_of-self
invariant_of-self g c = performs_sound g.S.Store.cells _ _ _ _ c.self.invariant c.admit.ensures.performed

pub returns-clause-by_spans : goal.returns-clause-by_spans
returns-clause-by_spans g c =
    let i : Installation = record { row = g.S.Store.cells c.self.inside.store; places = c.self.inside.places } in
    rw (← c.self.view_is) (subst (AdmitsBySpans i c.args.place c.args.lower c.args.terms) (ap (λ d. d.answer) c.admit.ensures.performed) (admits_by_spans i c.args.place c.args.lower c.args.terms))
