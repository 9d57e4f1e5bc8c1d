-- Which word it is about, where words are no command line.
use Rattle.std.specs.Prelude.{◌≡◌, ◌||◌, ◌<◌, ◌≤◌, ◌+◌, ℕ, Bool, true, false, List, [], ◌∷◌, ◌++◌, codes, length, take, Option, Some, None, is_some}
use Rattle.std.specs.List.{list_any}
use Rattle.clap.specs.Walk.{Text}
use Rattle.curp_words.specs.Words.{task_in}

-- a command line can begin with the words, if it ends by one of these
abbrev pub is_line_with : List (List Text) → List Text → Bool
is_line_with endings words = list_any (λ ending. is_some (task_in (words ++ ending))) endings

-- what can be missing where no option waits for its value: the word, or nothing. Behind an option of `play` it is that
-- word
abbrev pub word_endings : List (List Text)
word_endings =
    [] ∷ (codes "play" ∷ []) ∷ (codes "make" ∷ []) ∷ (codes "live" ∷ []) ∷ (codes "resp" ∷ []) ∷ []

-- and where one does: its value, and maybe the word. The number 1 is in the range of each option
abbrev pub value_endings : List (List Text)
value_endings =
    (codes "1" ∷ []) ∷ (codes "1" ∷ codes "make" ∷ []) ∷ (codes "1" ∷ codes "live" ∷ [])
    ∷ (codes "1" ∷ codes "resp" ∷ []) ∷ []

-- a command line can begin with the words
unfoldable pub is_beginning : List Text → Bool
is_beginning words = is_line_with word_endings words || is_line_with value_endings words

-- a command line can begin with each so many of the words, up to a number
abbrev pub BeginsUpTo : ℕ → List Text → Type 0
BeginsUpTo most words = (count : ℕ) → 1 ≤ count → count ≤ most → is_beginning (take count words) ≡ true

-- it is about the first word with which the words are no beginning, or about what is missing at their end
abbrev pub IsBlamed : List Text → Option ℕ → Type 0
IsBlamed words None = BeginsUpTo (length words) words
IsBlamed words (Some place) =
    (place < length words) × BeginsUpTo place words × (is_beginning (take (place + 1) words) ≡ false)
