-- What a call does to the store itself, as far as the store tells that of its puts: a load that is taken puts its word, a run does what its steps put, and no other call touches the store.
use Rattle.std.specs.Prelude.{◌≡◌, ℕ, ◌+◌, List, [], ◌∷◌, MatchResult, Result, Ok, Err}
use Rattle.store.specs.Cells.{Cell}
use Rattle.store.specs.declared.half.Half.{Half}
use Rattle.processor.specs.Beneath.{PutsDo, run_puts}
use Rattle.processor.specs.declared.address.RelativeAddress.{RelativeAddress}
use Rattle.engine.specs.declared.call.Call.{Call}
use Rattle.engine.specs.declared.call.Call.TheVariants as call
use Rattle.engine.specs.declared.call.Request.{Request}
use Rattle.engine.specs.declared.call.Request.TheVariants as request
use Rattle.engine.specs.declared.refusal.Refusal.{Refusal}
use Rattle.engine.specs.Installation.{Holder, Installation, holder}
use Rattle.engine.specs.Performing.{performed}
use Rattle.engine.specs.Serving.{load, machine_of, run_worker}

module _ {S : Type 0} (whole : S → ℕ → ℕ → S → Type 0) (half : S → ℕ → Half → ℕ → S → Type 0) where
  abbrev pub LoadDoes : Result Holder Refusal → RelativeAddress → ℕ → S → S → Type 0
  LoadDoes (Ok h) r w s t = MatchResult (load h.limits.length h.own r.0 w) (λ _. whole s (h.limits.lower + r.0) w t) (λ _. t ≡ s)
  LoadDoes (Err e) r w s t = t ≡ s

  abbrev pub RunDoes : Result Holder Refusal → ℕ → S → S → Type 0
  RunDoes (Ok h) budget s t = MatchResult (run_worker h.limits.length h.own budget) (λ _. PutsDo whole half h.limits (run_puts budget (machine_of h.limits.length h.own)) s t) (λ _. t ≡ s)
  RunDoes (Err e) budget s t = t ≡ s

  abbrev pub AskDoes : Result Holder Refusal → Request (List ℕ) → S → S → Type 0
  AskDoes h (request.Load r w) s t = LoadDoes h r w s t
  AskDoes h (request.Look r) s t = t ≡ s
  AskDoes h (request.Run budget) s t = RunDoes h budget s t
  AskDoes h (request.Answer a q p) s t = t ≡ s
  AskDoes h (request.Save buffer) s t = t ≡ s
  AskDoes h (request.Restore bytes) s t = t ≡ s
  AskDoes h request.Tell s t = t ≡ s

  abbrev pub StoreDoes : Installation → Call (List ℕ) → S → S → Type 0
  StoreDoes i (call.Admit p lower terms) s t = t ≡ s
  StoreDoes i (call.Ask p what) s t = AskDoes (holder i p) what s t
  StoreDoes i (call.Retire p) s t = t ≡ s
  StoreDoes i (call.Span p) s t = t ≡ s
  StoreDoes i (call.FixedAddress number cell) s t = t ≡ s

-- and calls one after another; after each of them the store means the row that is defined
unfoldable pub StoreDoesAll : {S : Type 0} → (S → List Cell) → (S → ℕ → ℕ → S → Type 0) → (S → ℕ → Half → ℕ → S → Type 0) → Installation → List (Call (List ℕ)) → S → S → Type 0
StoreDoesAll cells whole half i [] s t = t ≡ s
StoreDoesAll {S} cells whole half i (c ∷ cs) s t = (m : S) × StoreDoes whole half i c s m × (cells m ≡ (performed i c).installation.row) × StoreDoesAll cells whole half (performed i c).installation cs m t
