use Rattle.engine.proofs.Keeping.{performs_only_its_cells, performs_sound}
use Rattle.engine.proofs.Lawful.{refused_as}
use Rattle.engine.proofs.installation.Installation.perform.Goals as goal

pub returns-clause-refused : goal.returns-clause-refused
returns-clause-refused g c = λ e same. (refused_as _ _ _ _ c.dispatch.ensures.performed e same, c.dispatch.ensures.refused e same)

pub returns-clause-other_cells : goal.returns-clause-other_cells
returns-clause-other_cells g c =
    performs_only_its_cells g.S.Store.cells _ _ _ _ c.dispatch.ensures.sound c.dispatch.ensures.performed

pub returns-clause-sound : goal.returns-clause-sound
returns-clause-sound g c = performs_sound g.S.Store.cells _ _ _ _ c.dispatch.ensures.sound c.dispatch.ensures.performed
