-- A history is split at one of its exchanges: what came before it, and what came later.
use Rattle.std.proofs.Common.{ℕ, ◌≡◌, List, [], ◌∷◌, ◌++◌, refl, ap, sym, ◌∙◌}
use Rattle.store.specs.Cells.{Cell}
use Rattle.engine.specs.declared.answer.Answer.{Answer}
use Rattle.engine.specs.declared.call.Call.{Call}
use Rattle.engine.specs.Exchanges.{Exchange, after, answers_in, calls_in, exchanges}
use Rattle.engine.specs.Installation.{Installation, made}
use Rattle.engine.specs.Isolation.{history}
use Rattle.engine.specs.Performing.{performed}
use Rattle.engine.specs.Replayed.{paired}

pub calls_again : (i : Installation) (cs : List (Call (List ℕ))) → calls_in (exchanges i cs) ≡ cs
unfolding exchanges
calls_again i [] = refl
calls_again i (c ∷ cs) = ap (λ rest. c ∷ rest) (calls_again (performed i c).installation cs)

-- the call is answered as after what came before, and what came later goes on from there
pub record Splits (i : Installation) (cs : List (Call (List ℕ))) (before : List Exchange) (c : Call (List ℕ)) (a : Answer (List ℕ)) (later : List Exchange) : Type 0 where
  pub answered : a ≡ (performed (after i (calls_in before)) c).answer
  pub on : later ≡ exchanges (performed (after i (calls_in before)) c).installation (calls_in later)
  pub left : after i cs ≡ after (performed (after i (calls_in before)) c).installation (calls_in later)

head_is : (d e : Exchange) (ds es : List Exchange) → d ∷ ds ≡ e ∷ es → d ≡ e
head_is d e ds es same = cc

tail_is : (d e : Exchange) (ds es : List Exchange) → d ∷ ds ≡ e ∷ es → ds ≡ es
tail_is d e ds es same = cc

pub split : (before : List Exchange) (i : Installation) (cs : List (Call (List ℕ))) (c : Call (List ℕ)) (a : Answer (List ℕ)) (later : List Exchange)
    → exchanges i cs ≡ before ++ record { call = c; answer = a } ∷ later → Splits i cs before c a later
unfolding exchanges after
split [] i [] c a later same = let no : ⊥ = cc in absurd no
split [] i (d ∷ cs) c a later same =
    let here = head_is _ _ _ _ same in
    let rest = tail_is _ _ _ _ same in
    let call : d ≡ c = ap (λ e. e.call) here in
    let calls : cs ≡ calls_in later = sym (calls_again (performed i d).installation cs) ∙ ap calls_in rest in record {
      answered = sym (ap (λ e. e.answer) here) ∙ ap (λ x. (performed i x).answer) call;
      on = sym rest ∙ ap (λ x. exchanges (performed i x).installation cs) call ∙ ap (exchanges (performed i c).installation) calls;
      left = ap (λ x. after (performed i x).installation cs) call ∙ ap (after (performed i c).installation) calls;
    }
split (b ∷ before) i [] c a later same = let no : ⊥ = cc in absurd no
split (b ∷ before) i (d ∷ cs) c a later same =
    let call : d ≡ b.call = ap (λ e. e.call) (head_is _ _ _ _ same) in
    let rest = split before (performed i d).installation cs c a later (tail_is _ _ _ _ same) in record {
      answered = rest.answered ∙ ap (λ x. (performed (after (performed i x).installation (calls_in before)) c).answer) call;
      on = rest.on ∙ ap (λ x. exchanges (performed (after (performed i x).installation (calls_in before)) c).installation (calls_in later)) call;
      left = rest.left ∙ ap (λ x. after (performed (after (performed i x).installation (calls_in before)) c).installation (calls_in later)) call;
    }

-- the calls paired with their answers are the exchanges again
pub paired_again : (i : Installation) (cs : List (Call (List ℕ))) → paired cs (answers_in (exchanges i cs)) ≡ exchanges i cs
unfolding exchanges
paired_again i [] = refl
paired_again i (c ∷ cs) = ap (λ rest. record { call = c; answer = (performed i c).answer } ∷ rest) (paired_again (performed i c).installation cs)

pub told_history : (row : List Cell) (cs : List (Call (List ℕ))) (answers : List (Answer (List ℕ))) (left : Installation) → answers ≡ answers_in (exchanges (made row) cs) → left ≡ after (made row) cs
    → record { row = row; exchanges = paired cs answers; left = left } ≡ history row cs
told_history row cs answers left answers_are left_is =
    ap (λ xs. record { row = row; exchanges = paired cs xs; left = left }) answers_are
    ∙ ap (λ es. record { row = row; exchanges = es; left = left }) (paired_again (made row) cs)
    ∙ ap (λ i. record { row = row; exchanges = exchanges (made row) cs; left = i }) left_is
