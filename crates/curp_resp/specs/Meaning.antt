-- What requests mean (this project's own words).
use Rattle.std.specs.Prelude.{ℕ, ◌==◌, ◌&&◌, ◌||◌, nat_le, not, Bool, codes, find, if◌then◌else◌, List, [], ◌∷◌}
use Rattle.std.specs.Prelude.{length, Option, Some, None, Result, Ok, Err, ⊤}
use Rattle.std.specs.Str.{bytes_eq, str_eq_ignore_ascii_case}
use Rattle.curp_base.specs.Cases.{◌>>=◌, refuse_if}
use Rattle.curp_cmd.specs.Pairs.{Pair, names_twice}
use Rattle.curp_cmd.specs.declared.command.Command.{Command}
use Rattle.curp_cmd.specs.declared.command.Command.TheVariants as command
use Rattle.curp_resp.specs.Integer.{is_integer}
use Rattle.curp_resp.specs.declared.asked.Asked.{Asked}
use Rattle.curp_resp.specs.declared.asked.Asked.TheVariants as asked
use Rattle.curp_resp.specs.declared.asked.Other.TheVariants as other
use Rattle.curp_resp.specs.declared.asked.Wrong.{Wrong}
use Rattle.curp_resp.specs.declared.asked.Wrong.TheVariants as wrong
use Rattle.curp_resp.specs.declared.word.Word.{Word}
use Rattle.curp_resp.specs.declared.word.Word.TheVariants as word

-- ---- words

-- the words that a request may begin with
abbrev pub words : List Word
words =
    word.Get
    ∷ word.Set
    ∷ word.Del
    ∷ word.Incr
    ∷ word.IncrBy
    ∷ word.Append
    ∷ word.CondPut
    ∷ word.CondNew
    ∷ word.SetNx
    ∷ word.MSet
    ∷ word.Echo
    ∷ []

abbrev pub word_text : Word → List ℕ
word_text word.Get = codes "GET"
word_text word.Set = codes "SET"
word_text word.Del = codes "DEL"
word_text word.Incr = codes "INCR"
word_text word.IncrBy = codes "INCRBY"
word_text word.Append = codes "APPEND"
word_text word.CondPut = codes "CONDPUT"
word_text word.CondNew = codes "CONDNEW"
word_text word.SetNx = codes "SETNX"
word_text word.MSet = codes "MSET"
word_text word.Echo = codes "ECHO"

-- the bytes spell the word, each letter in either case
abbrev pub spells : List ℕ → Word → Bool
spells bytes w = str_eq_ignore_ascii_case bytes (word_text w)

-- the word that the bytes spell
abbrev pub word_of : List ℕ → Option Word
word_of bytes = find (spells bytes) words

-- ---- arguments

-- a key has 1 to 32 bytes
abbrev pub key_in : List ℕ → Result (List ℕ) Wrong
key_in bytes = if nat_le 1 (length bytes) && nat_le (length bytes) 32 then Ok bytes else Err wrong.Size

-- a value has 0 to 128 bytes
abbrev pub value_in : List ℕ → Result (List ℕ) Wrong
value_in bytes = if nat_le (length bytes) 128 then Ok bytes else Err wrong.Size

-- a counter grows by 1 alone
abbrev pub one_in : List ℕ → Result ⊤ Wrong
one_in bytes =
    refuse_if (not (is_integer bytes)) wrong.NotInteger >>= λ _. refuse_if (not (bytes_eq bytes (codes "1"))) wrong.NotOne

abbrev pub pair_in : List ℕ → List ℕ → Result Pair Wrong
pair_in key value = key_in key >>= λ k. value_in value >>= λ v. Ok (k, v)

-- keys and values in turn
abbrev pub pairs_in : List (List ℕ) → Result (List Pair) Wrong
pairs_in [] = Ok []
pairs_in (key ∷ []) = Err wrong.Arguments
pairs_in (key ∷ value ∷ rest) = pair_in key value >>= λ p. pairs_in rest >>= λ ps. Ok (p ∷ ps)

-- ---- commands

-- one argument, a key
abbrev pub key_alone : List (List ℕ) → Result (List ℕ) Wrong
key_alone (key ∷ []) = key_in key
key_alone _ = Err wrong.Arguments

-- two arguments, a key and by how much its counter grows
abbrev pub key_of_increment : List (List ℕ) → Result (List ℕ) Wrong
key_of_increment (key ∷ increment ∷ []) = key_in key >>= λ k. one_in increment >>= λ _. Ok k
key_of_increment _ = Err wrong.Arguments

-- two arguments, a key and a value
abbrev pub pair_alone : List (List ℕ) → Result Pair Wrong
pair_alone (key ∷ value ∷ []) = pair_in key value
pair_alone _ = Err wrong.Arguments

-- three arguments: a key, the value that it is expected to have, and the value that it has from then on
abbrev pub swap_alone : List (List ℕ) → Result Command Wrong
swap_alone (key ∷ expected ∷ value ∷ []) =
    pair_in key value >>= λ p. value_in expected >>= λ e. Ok (command.CondPut p.0 (Some e) p.1)
swap_alone _ = Err wrong.Arguments

-- so many arguments are one to four pairs
abbrev pub are_pairs : ℕ → Bool
are_pairs count = count == 2 || count == 4 || count == 6 || count == 8

-- the multi-put of one to four pairs of a key and a value, no key twice
abbrev pub multi_alone : List (List ℕ) → Result Command Wrong
multi_alone arguments =
    refuse_if (not (are_pairs (length arguments))) wrong.Arguments
    >>= λ _. pairs_in arguments
    >>= λ pairs. refuse_if (names_twice pairs) wrong.KeyTwice
    >>= λ _. Ok (command.Multi pairs)

-- one argument, of as many bytes as a value
abbrev pub text_alone : List (List ℕ) → Result (List ℕ) Wrong
text_alone (text ∷ []) = value_in text
text_alone _ = Err wrong.Arguments

abbrev pub of_command : Result Command Wrong → Result Asked Wrong
of_command r = r >>= λ c. Ok (asked.Command c)

-- what a word asks with these arguments
abbrev pub asked_by : Word → List (List ℕ) → Result Asked Wrong
asked_by word.Get arguments = of_command (key_alone arguments >>= λ key. Ok (command.Get key))
asked_by word.Set arguments = of_command (pair_alone arguments >>= λ p. Ok (command.Put p.0 p.1))
asked_by word.Del arguments = of_command (key_alone arguments >>= λ key. Ok (command.Delete key))
asked_by word.Incr arguments = of_command (key_alone arguments >>= λ key. Ok (command.Incr key))
asked_by word.IncrBy arguments = of_command (key_of_increment arguments >>= λ key. Ok (command.Incr key))
asked_by word.Append arguments = of_command (pair_alone arguments >>= λ p. Ok (command.Append p.0 p.1))
asked_by word.CondPut arguments = of_command (swap_alone arguments)
asked_by word.CondNew arguments = of_command (pair_alone arguments >>= λ p. Ok (command.CondPut p.0 None p.1))
asked_by word.SetNx arguments = of_command (pair_alone arguments >>= λ p. Ok (command.CondPut p.0 None p.1))
asked_by word.MSet arguments = of_command (multi_alone arguments)
asked_by word.Echo arguments = text_alone arguments >>= λ text. Ok (asked.Other (other.Echo text))

-- ---- requests

abbrev pub asked_behind : Option Word → List (List ℕ) → Result Asked Wrong
asked_behind None arguments = Err wrong.Unknown
asked_behind (Some w) arguments = asked_by w arguments

-- what a request asks, the first argument of which is its word; one of no arguments asks nothing
abbrev pub asked_of : List (List ℕ) → Result Asked Wrong
asked_of [] = Ok (asked.Other other.Nothing)
asked_of (first ∷ arguments) = asked_behind (word_of first) arguments

abbrev pub or_wrong : Result Asked Wrong → Asked
or_wrong (Ok a) = a
or_wrong (Err why) = asked.Other (other.Wrong why)

-- what a request with these arguments means, or the first of the errors that holds
abbrev pub meaning : List (List ℕ) → Asked
meaning arguments = or_wrong (asked_of arguments)
