-- Calls: what each answers, and the installation after it.
use Rattle.std.specs.Prelude.{ℕ, List, Result, Ok, Err}
use Rattle.processor.specs.Then.{◌>>=◌}
use Rattle.engine.specs.declared.answer.Answer.{Answer}
use Rattle.engine.specs.declared.answer.Answer.TheVariants as answer
use Rattle.engine.specs.declared.call.Call.{Call}
use Rattle.engine.specs.declared.call.Call.TheVariants as call
use Rattle.engine.specs.declared.call.Request.{Request}
use Rattle.engine.specs.declared.call.Request.TheVariants as request
use Rattle.engine.specs.declared.refusal.Refusal.{Refusal}
use Rattle.engine.specs.Admission.{admit, retire, span_of}
use Rattle.engine.specs.FixedAddress.{fixed_address}
use Rattle.engine.specs.Installation.{Installation, holder, with_own, Done}
use Rattle.engine.specs.Serving.{served}

-- a worker's words are taken out of the row, it is served, and they are put back
abbrev pub ask : Installation → ℕ → Request (List ℕ) → Result Done Refusal
ask i p what = do
  h ← holder i p
  s ← served h.limits.length h.own what
  Ok (record { answer = s.answer; installation = with_own i p h.limits s.own })

abbrev pub taken : Installation → Call (List ℕ) → Result Done Refusal
taken i (call.Admit p lower terms) = admit i p lower terms
taken i (call.Ask p what) = ask i p what
taken i (call.Retire p) = retire i p
taken i (call.Span p) = span_of i p
taken i (call.FixedAddress number cell) = do
  address ← fixed_address number cell.0
  Ok (record { answer = answer.FixedAddress (Ok address); installation = i })

-- the answer to a call that is refused; a save's has the buffer as it was
abbrev pub request_refused : Request (List ℕ) → Refusal → Answer (List ℕ)
request_refused (request.Load r w) e = answer.Loaded (Err e)
request_refused (request.Look r) e = answer.Looked (Err e)
request_refused (request.Run budget) e = answer.Ran (Err e)
request_refused (request.Answer a q p) e = answer.Answered (Err e)
request_refused (request.Save buffer) e = answer.Saved (Err e) buffer
request_refused (request.Restore bytes) e = answer.Restored (Err e)
request_refused request.Tell e = answer.Told (Err e)

abbrev pub refused : Call (List ℕ) → Refusal → Answer (List ℕ)
refused (call.Admit p lower terms) e = answer.Admitted (Err e)
refused (call.Ask p what) e = request_refused what e
refused (call.Retire p) e = answer.Retired (Err e)
refused (call.Span p) e = answer.Spanned (Err e)
refused (call.FixedAddress number cell) e = answer.FixedAddress (Err e)

-- every call is taken, or refused and leaves the installation as it was
abbrev pub taken_or_refused : Installation → Call (List ℕ) → Result Done Refusal → Done
taken_or_refused i c (Ok t) = t
taken_or_refused i c (Err e) = record { answer = refused c e; installation = i }

unfoldable pub performed : Installation → Call (List ℕ) → Done
performed i c = taken_or_refused i c (taken i c)
