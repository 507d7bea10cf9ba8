-- The text of answers and problems, and a line of the transcript.
use Rattle.std.specs.Prelude.{ℕ, List, [], ◌∷◌, ◌++◌, Vec, vec_items, codes, decimal}
use Rattle.std.specs.List.{flat_map}
use Rattle.std.specs.declared.alloc.Global.{Global}
use Rattle.store.specs.Text.{reply_text}
use Rattle.engine.specs.Bytes.{answer_with}
use Rattle.engine.specs.Text as engine
use Rattle.script.specs.declared.answer.Answer.{Answer}
use Rattle.script.specs.declared.answer.Answer.TheVariants as answer
use Rattle.script.specs.declared.problem.Problem.{Problem}
use Rattle.script.specs.declared.reason.Reason.{Reason}
use Rattle.script.specs.declared.reason.Reason.TheVariants.{UnknownWord, WordCount, NotANumber, TooLarge, NoMemory, SecondMemory, NoInstallation, Installed, OutOfRange}

-- an answer as the definition has it: its bytes are a list
abbrev pub answer_seen : Answer (Vec ℕ Global) → Answer (List ℕ)
answer_seen answer.Done = answer.Done
answer_seen (answer.Reply r) = answer.Reply r
answer_seen (answer.Call a) = answer.Call (answer_with vec_items a)

abbrev pub answer_text : Answer (List ℕ) → List ℕ
answer_text answer.Done = codes "ok"
answer_text (answer.Reply r) = reply_text r
answer_text (answer.Call a) = engine.answer_text a

abbrev pub reason_text : Reason → List ℕ
reason_text UnknownWord = codes "unknown word"
reason_text WordCount = codes "wrong number of words"
reason_text NotANumber = codes "not a number"
reason_text TooLarge = codes "number of 2^32 or more"
reason_text NoMemory = codes "no memory yet"
reason_text SecondMemory = codes "a second memory"
reason_text NoInstallation = codes "no installation yet"
reason_text Installed = codes "installed already"
reason_text OutOfRange = codes "number out of range"

abbrev pub problem_text : Problem → List ℕ
problem_text p = codes "line " ++ (decimal p.line ++ (codes ": " ++ reason_text p.reason))

-- the words of a line, with a space (32) after each
unfoldable pub spaced : List (List ℕ) → List ℕ
spaced words = flat_map (λ w. w ++ 32 ∷ []) words

-- the words, an arrow and the answer: for a line with words, these joined by single spaces, then ` -> ` and the answer
abbrev pub line_text : List (List ℕ) → Answer (List ℕ) → List ℕ
line_text words a = spaced words ++ (codes "-> " ++ answer_text a)
