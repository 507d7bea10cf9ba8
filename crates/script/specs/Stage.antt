-- What a session holds, as the definition has it.
use Rattle.pairs.specs.Pair as pair
use Rattle.stores.specs.Parity as parity
use Rattle.stores.specs.Word as word
use Rattle.memories.specs.Bank.{bank_row}
use Rattle.engine.specs.Installation.{Installation}
use Rattle.engine.specs.Installed.{means}
use Rattle.script.specs.declared.installed.AnyInstallation.{AnyInstallation}
use Rattle.script.specs.declared.installed.AnyInstallation.TheVariants as any
use Rattle.script.specs.declared.stage.Stage.{Stage}
use Rattle.script.specs.declared.stage.Stage.TheVariants.{Nothing, Memories, Installed}
use Rattle.script.specs.Session.{State, nothing, with_memories, installed}

abbrev pub installation_of : AnyInstallation → Installation
installation_of (any.Word i) = means word.row i
installation_of (any.Parity i) = means parity.row i
installation_of (any.Pair i) = means (pair.row bank_row bank_row) i

abbrev pub state_of : Stage → State
state_of Nothing = nothing
state_of (Memories setup) = with_memories setup
state_of (Installed i) = installed (installation_of i)
