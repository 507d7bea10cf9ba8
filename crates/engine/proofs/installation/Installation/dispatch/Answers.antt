use Rattle.std.proofs.Common.{refl}
use Rattle.engine.specs.Installed.{means}
use Rattle.engine.proofs.Unconcerned.{fixed_performed}
use Rattle.engine.proofs.installation.Installation.dispatch.Goals as goal

pub returns-in-FixedAddress : goal.returns-in-FixedAddress
returns-in-FixedAddress g c =
    record {
      performed = rw (c.fixed_address.ensures.value, c.in-FixedAddress.is) (fixed_performed (means g.S.Store.cells c.args.self.now) _ _);
      refused = λ e same. refl;
      restores = rw c.in-FixedAddress.is tt;
      store = rw c.in-FixedAddress.is refl;
      sound = rw (← c.self.view_is) c.self.invariant;
    }
