-- The lines of a script and the words of a line.
use Rattle.std.specs.Prelude.{ℕ, ◌<◌, cond, List, [], ◌∷◌, ◌++◌, map, length, ◌==◌, ◌≢◌}
use Rattle.std.specs.Borrow.{Bor}
use Rattle.std.specs.List.{AllByRecursion}

-- a word or a line that has begun, if it has any byte
abbrev pub begun : List ℕ → List (List ℕ)
begun [] = []
begun (c ∷ w) = (c ∷ w) ∷ []

-- the words of what is left of a line, after the bytes w of a word that has begun:
-- a # (35) ends the word and the line, and a space (32) ends the word
abbrev pub words_after : List ℕ → List ℕ → List (List ℕ)
words_after w [] = begun w
words_after w (c ∷ cs) = cond (c == 35) (begun w) (cond (c == 32) (begun w ++ words_after [] cs) (words_after (w ++ c ∷ []) cs))

abbrev pub words_of : List ℕ → List (List ℕ)
words_of line = words_after [] line

-- the lines of what is left of a script, after the bytes l of a line that has begun:
-- a line feed (10) ends a line, and the last one may lack it
abbrev pub lines_after : List ℕ → List ℕ → List (List ℕ)
lines_after l [] = begun l
lines_after l (c ∷ cs) = cond (c == 10) (l ∷ lines_after [] cs) (lines_after (l ++ c ∷ []) cs)

abbrev pub lines_of : List ℕ → List (List ℕ)
lines_of script = lines_after [] script

-- what slices hold
unfoldable pub texts : List (Bor (List ℕ)) → List (List ℕ)
texts ts = map (λ t. t.now) ts

abbrev pub Plain : ℕ → Type 0
Plain c = (c ≢ 32) × (c ≢ 35)

-- one byte or more, and no space or # among them
abbrev pub Word : List ℕ → Type 0
Word w = (0 < length w) × AllByRecursion Plain w
