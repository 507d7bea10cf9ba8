-- What a call of the code leaves holds of every installation again.
use Rattle.std.proofs.Common.{ap, subst, List, ℕ}
use Rattle.store.specs.Cells.{Cell}
use Rattle.engine.specs.declared.answer.Answer.{Answer}
use Rattle.engine.specs.declared.call.Call.{Call}
use Rattle.engine.specs.Installed.{Installed, means, Performs}
use Rattle.engine.specs.Laws.{OnlyItsCells}
use Rattle.engine.specs.Sound.{Sound}
use Rattle.engine.proofs.Framed.{only_its_cells}
use Rattle.engine.proofs.Histories.{performed_sound}

pub performs_sound : {S : Type 0} → (cells : S → List Cell) (before after : Installed S) (c : Call (List ℕ)) (a : Answer (List ℕ)) → Sound (means cells before) → Performs cells before c a after → Sound (means cells after)
performs_sound cells before after c a sound performs = subst Sound (ap (λ d. d.installation) performs) (performed_sound (means cells before) sound c)

-- and it changed no other cells
pub performs_only_its_cells : {S : Type 0} → (cells : S → List Cell) (before after : Installed S) (c : Call (List ℕ)) (a : Answer (List ℕ)) → Sound (means cells before) → Performs cells before c a after → OnlyItsCells (means cells before) c (means cells after)
performs_only_its_cells cells before after c a sound performs = subst (OnlyItsCells (means cells before) c) (ap (λ d. d.installation) performs) (only_its_cells (means cells before) sound c)
