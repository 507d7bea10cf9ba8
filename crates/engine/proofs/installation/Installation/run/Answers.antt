use Rattle.engine.proofs.Keeping.{performs_only_its_cells, performs_sound}
use Rattle.engine.proofs.installation.Installation.run.Goals as goal

pub invariant_of-self : goal.invariant_of-self
invariant_of-self g c = performs_sound g.S.Store.cells _ _ _ _ c.self.invariant c.run_worker.ensures.performed

pub returns-clause-other_cells : goal.returns-clause-other_cells
returns-clause-other_cells g c = rw (← c.self.view_is) (performs_only_its_cells g.S.Store.cells _ _ _ _ c.self.invariant c.run_worker.ensures.performed)
