-- Isolation: no worker's answers, state, registers or words depend on its lower limit, or on what else the installation is asked to do. Its place is the same wherever two are compared.
use Rattle.std.specs.Prelude.{◌≡◌, ℕ, Bool, true, false, ◌==◌, if◌then◌else◌, List, [], ◌∷◌, ◌++◌, take, Ok}
use Rattle.store.specs.Cells.{Cell}
use Rattle.store.specs.declared.address.CellAddress.{CellAddress}
use Rattle.processor.specs.Limits.{words_in}
use Rattle.engine.specs.declared.answer.Answer.{Answer}
use Rattle.engine.specs.declared.answer.Answer.TheVariants as answer
use Rattle.engine.specs.declared.call.Call.{Call}
use Rattle.engine.specs.declared.call.Call.TheVariants as call
use Rattle.engine.specs.declared.call.Request.TheVariants as request
use Rattle.engine.specs.declared.call.Terms.{Terms}
use Rattle.engine.specs.Exchanges.{Exchange, calls_in, answers_in, exchanges, after}
use Rattle.engine.specs.Installation.{Installation, made}
use Rattle.engine.specs.Performing.{performed}

-- a call is one for the worker at a place: it asks something of it (load, look, run, answer, save, restore, tell) or retires it. An admit to the place and a span of it are none
abbrev pub is_for : ℕ → Call (List ℕ) → Bool
is_for p (call.Admit q lower terms) = false
is_for p (call.Ask q what) = q == p
is_for p (call.Retire q) = q == p
is_for p (call.Span q) = false
is_for p (call.FixedAddress number cell) = false

-- and it is the retire there
abbrev pub is_retire : ℕ → Call (List ℕ) → Bool
is_retire p (call.Admit q lower terms) = false
is_retire p (call.Ask q what) = false
is_retire p (call.Retire q) = q == p
is_retire p (call.Span q) = false
is_retire p (call.FixedAddress number cell) = false

-- the calls for a worker, with their answers: of the exchanges from just after its admit on, those whose call is for the worker at its place, up to and with its retire
unfoldable pub exchanges_with : ℕ → List Exchange → List Exchange
exchanges_with p [] = []
exchanges_with p (e ∷ es) =
    if is_retire p e.call then e ∷ []
    else (if is_for p e.call then e ∷ exchanges_with p es
    else exchanges_with p es)

abbrev pub is_empty : List (Call (List ℕ)) → Bool
is_empty [] = true
is_empty (c ∷ cs) = false

-- no call follows the worker's retire, if there is one
unfoldable pub nothing_after_retire : ℕ → List (Call (List ℕ)) → Bool
nothing_after_retire p [] = true
nothing_after_retire p (c ∷ cs) = if is_retire p c then is_empty cs else nothing_after_retire p cs

-- the history of an installation from its making: the row at the making, the calls with their answers, and the installation after the last of them
pub record History : Type 0 where
  pub row : List Cell
  pub exchanges : List Exchange
  pub left : Installation

-- the one that these calls make, by the definition
abbrev pub history : List Cell → List (Call (List ℕ)) → History
history row calls = record { row = row; exchanges = exchanges (made row) calls; left = after (made row) calls }

-- an admit that is taken, as a part of a history: what came before it, the lower limit that it gives, and what comes later
pub record TakenAdmit : Type 0 where
  pub before : List Exchange
  pub lower : CellAddress
  pub later : List Exchange

-- what a tell would answer; the code's tell answers it, by its own promise
abbrev pub would_tell : ℕ → Installation → Answer (List ℕ)
would_tell p i = (performed i (call.Ask p request.Tell)).answer

module _ (p : ℕ) (terms : Terms) where
  -- it is a history's part, and admits a worker to the place p on the terms
  abbrev pub Admits : History → TakenAdmit → Type 0
  Admits h a = h.exchanges ≡ a.before ++ record { call = call.Admit p a.lower terms; answer = answer.Admitted (Ok tt) } ∷ a.later

  -- the words of the worker in a row: those from its lower limit on, as many as its length, both as given to the admit
  abbrev pub words_of : TakenAdmit → List Cell → List Cell
  words_of a row = words_in row a.lower.0 terms.length

  -- those that it finds at its admit, with the numbers under spoiled marks
  abbrev pub words_found : History → TakenAdmit → List Cell
  words_found h a = words_of a (after (made h.row) (calls_in a.before)).row

  -- the calls for the worker, and the answers to them
  abbrev pub calls_for : TakenAdmit → List (Call (List ℕ))
  calls_for a = calls_in (exchanges_with p a.later)

  abbrev pub answers_to : TakenAdmit → List (Answer (List ℕ))
  answers_to a = answers_in (exchanges_with p a.later)

  -- two workers are answered alike: if the first k calls for the two are equal, the first k answers are
  abbrev pub AnsweredAlike : TakenAdmit → TakenAdmit → Type 0
  AnsweredAlike a b = (k : ℕ) → take k (calls_for a) ≡ take k (calls_for b) → take k (answers_to a) ≡ take k (answers_to b)

  -- they are seen alike after the last calls of two histories, of which none follows their retire: if all calls for the two are equal, so is what a tell would answer, and so are their words
  abbrev pub SeenAlike : History → TakenAdmit → History → TakenAdmit → Type 0
  SeenAlike g a h b =
      nothing_after_retire p (calls_in a.later) ≡ true
      → nothing_after_retire p (calls_in b.later) ≡ true
      → calls_for a ≡ calls_for b
      → (would_tell p g.left ≡ would_tell p h.left)
      × (words_of a g.left.row ≡ words_of b h.left.row)

-- Two histories isolate workers. Take any worker that is admitted in the one, and any that is admitted in the other to the same place on the same terms, and let them find
-- equal words. Then, as far as the calls for the two are the same, they are answered alike, and seen alike.
abbrev pub Isolates : History → History → Type 0
Isolates g h = (p : ℕ) (terms : Terms) (a b : TakenAdmit)
    → Admits p terms g a
    → Admits p terms h b
    → words_found p terms g a ≡ words_found p terms h b
    → AnsweredAlike p terms a b
    × SeenAlike p terms g a h b

-- Isolation: any two histories do, of installations made over any two stores, of whatever kinds. A moment is the end of a history, since the lists of calls are any.
abbrev pub Isolation : {S T : Type 0} → (S → List Cell) → (T → List Cell) → Type 0
Isolation {S} {T} cells_s cells_t = (s : S) (t : T) (calls_s calls_t : List (Call (List ℕ))) → Isolates (history (cells_s s) calls_s) (history (cells_t t) calls_t)
