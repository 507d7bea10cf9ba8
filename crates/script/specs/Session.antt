-- What statements answer, and what they leave of the console: nothing, until a `memory` statement makes memories; memories, until `install` makes an installation over them; and that installation.
use Rattle.std.specs.Prelude.{ℕ, List, if◌then◌else◌, Ok, Err, Result}
use Rattle.store.specs.Operations.{replied}
use Rattle.engine.specs.Installation.{Installation, made}
use Rattle.engine.specs.Performing.{performed}
use Rattle.memories.specs.Any.{Memories, row_of}
use Rattle.memories.specs.Setup.{new_memories, left_in, can_damage, damaged}
use Rattle.script.specs.declared.answer.Answer.{Answer}
use Rattle.script.specs.declared.answer.Answer.TheVariants as answer
use Rattle.script.specs.declared.reason.Reason.{Reason}
use Rattle.script.specs.declared.reason.Reason.TheVariants.{NoMemory, SecondMemory, NoInstallation, Installed, OutOfRange}
use Rattle.script.specs.declared.statement.Statement.{Statement}
use Rattle.script.specs.declared.statement.Statement.TheVariants as st

pub data State : Type 0 where
  nothing : State
  with_memories : Memories → State
  installed : Installation → State

-- what a statement answers over memories
abbrev pub answered_on : Memories → Statement (List ℕ) → Result (Answer (List ℕ)) Reason
answered_on ms (st.Memory l) = Err SecondMemory
answered_on ms (st.Raw side i v) = if can_damage ms side i v then Ok answer.Done else Err OutOfRange
answered_on ms (st.Operation o) = Ok (answer.Reply (replied (row_of ms) o))
answered_on ms st.Install = Ok answer.Done
answered_on ms (st.Call c) = Err NoInstallation

-- and what it leaves; an installation is made over the row that the memories mean
abbrev pub left_on : Memories → Statement (List ℕ) → State
left_on ms (st.Memory l) = with_memories ms
left_on ms (st.Raw side i v) = with_memories (if can_damage ms side i v then damaged ms side i v else ms)
left_on ms (st.Operation o) = with_memories (left_in ms o)
left_on ms st.Install = installed (made (row_of ms))
left_on ms (st.Call c) = with_memories ms

-- before there are memories there is only `memory` to do, which makes them
abbrev pub answered_before : Statement (List ℕ) → Result (Answer (List ℕ)) Reason
answered_before (st.Memory l) = Ok answer.Done
answered_before (st.Raw side i v) = Err NoMemory
answered_before (st.Operation o) = Err NoMemory
answered_before st.Install = Err NoMemory
answered_before (st.Call c) = Err NoInstallation

abbrev pub left_before : Statement (List ℕ) → State
left_before (st.Memory l) = with_memories (new_memories l)
left_before (st.Raw side i v) = nothing
left_before (st.Operation o) = nothing
left_before st.Install = nothing
left_before (st.Call c) = nothing

-- once there is an installation, only calls can be done
abbrev pub answered_in : Installation → Statement (List ℕ) → Result (Answer (List ℕ)) Reason
answered_in i (st.Memory l) = Err Installed
answered_in i (st.Raw side j v) = Err Installed
answered_in i (st.Operation o) = Err Installed
answered_in i st.Install = Err Installed
answered_in i (st.Call c) = Ok (answer.Call (performed i c).answer)

abbrev pub left_of : Installation → Statement (List ℕ) → Installation
left_of i (st.Memory l) = i
left_of i (st.Raw side j v) = i
left_of i (st.Operation o) = i
left_of i st.Install = i
left_of i (st.Call c) = (performed i c).installation

abbrev pub answered : State → Statement (List ℕ) → Result (Answer (List ℕ)) Reason
answered nothing s = answered_before s
answered (with_memories ms) s = answered_on ms s
answered (installed i) s = answered_in i s

abbrev pub left : State → Statement (List ℕ) → State
left nothing s = left_before s
left (with_memories ms) s = left_on ms s
left (installed i) s = installed (left_of i s)
