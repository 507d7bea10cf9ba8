use Rattle.engine.specs.Installation.{place_at}
use Rattle.engine.proofs.Restored.{saved_restores}
use Rattle.engine.proofs.installation.Installation.save.Goals as goal

pub returns-clause-restores : goal.returns-clause-restores
returns-clause-restores g c = rw (← c.self.view_is) (saved_restores c.save.result (place_at c.self.inside.places c.args.place) c.save.new.buffer c.save.ensures.reads_again)
