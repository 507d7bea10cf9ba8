-- Calls and answers whose bytes are given in another way: in code they come in vectors, and a definition takes lists.
use Rattle.std.specs.Prelude.{ℕ, List, map, Vec, vec_items}
use Rattle.engine.specs.declared.answer.Answer.{Answer}
use Rattle.engine.specs.declared.answer.Answer.TheVariants as answer
use Rattle.engine.specs.declared.call.Call.{Call}
use Rattle.engine.specs.declared.call.Call.TheVariants as call
use Rattle.engine.specs.declared.call.Request.{Request}
use Rattle.engine.specs.declared.call.Request.TheVariants as request

module _ {A B : Type 0} (bytes : A → B) where
  abbrev pub request_with : Request A → Request B
  request_with (request.Load r w) = request.Load r w
  request_with (request.Look r) = request.Look r
  request_with (request.Run budget) = request.Run budget
  request_with (request.Answer a q p) = request.Answer a q p
  request_with (request.Save buffer) = request.Save (bytes buffer)
  request_with (request.Restore saved) = request.Restore (bytes saved)
  request_with request.Tell = request.Tell

  abbrev pub call_with : Call A → Call B
  call_with (call.Admit p lower terms) = call.Admit p lower terms
  call_with (call.Ask p what) = call.Ask p (request_with what)
  call_with (call.Retire p) = call.Retire p
  call_with (call.Span p) = call.Span p
  call_with (call.FixedAddress number cell) = call.FixedAddress number cell

  abbrev pub answer_with : Answer A → Answer B
  answer_with (answer.Admitted r) = answer.Admitted r
  answer_with (answer.Loaded r) = answer.Loaded r
  answer_with (answer.Looked r) = answer.Looked r
  answer_with (answer.Ran r) = answer.Ran r
  answer_with (answer.Answered r) = answer.Answered r
  answer_with (answer.Saved r buffer) = answer.Saved r (bytes buffer)
  answer_with (answer.Restored r) = answer.Restored r
  answer_with (answer.Told r) = answer.Told r
  answer_with (answer.Retired r) = answer.Retired r
  answer_with (answer.Spanned r) = answer.Spanned r
  answer_with (answer.FixedAddress r) = answer.FixedAddress r

-- the calls that a vector of them has, and the answers
abbrev pub asked : {Y Z : Type 0} → Vec (Call (Vec ℕ Y)) Z → List (Call (List ℕ))
asked calls = map (call_with vec_items) (vec_items calls)

abbrev pub given : {Y Z : Type 0} → Vec (Answer (Vec ℕ Y)) Z → List (Answer (List ℕ))
given answers = map (answer_with vec_items) (vec_items answers)
