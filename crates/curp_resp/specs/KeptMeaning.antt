-- What a request means, told by what is kept of its arguments.
use Rattle.std.specs.Prelude.{ℕ, nat_lt, if◌then◌else◌, Bool, List, [], ◌∷◌, length, Option, Some, None, Result, Ok}
use Rattle.std.specs.Prelude.{Err}
use Rattle.curp_base.specs.Cases.{◌>>=◌}
use Rattle.curp_cmd.specs.Pairs.{Pair}
use Rattle.curp_resp.specs.Kept.{KeptArguments}
use Rattle.curp_resp.specs.Meaning.{asked_by, or_wrong, pair_in, word_of}
use Rattle.curp_resp.specs.declared.asked.Asked.{Asked}
use Rattle.curp_resp.specs.declared.asked.Asked.TheVariants as asked
use Rattle.curp_resp.specs.declared.asked.Other.TheVariants as other
use Rattle.curp_resp.specs.declared.asked.Wrong.{Wrong}
use Rattle.curp_resp.specs.declared.asked.Wrong.TheVariants as wrong
use Rattle.curp_resp.specs.declared.word.Word.{Word}

-- what is asked behind a word, where it has more arguments than these or not
abbrev pub asked_behind_kept : Option Word → Bool → List (List ℕ) → Result Asked Wrong
asked_behind_kept None more arguments = Err wrong.Unknown
asked_behind_kept (Some w) more arguments = if more then Err wrong.Arguments else asked_by w arguments

abbrev pub asked_of_kept : List (List ℕ) → ℕ → Result Asked Wrong
asked_of_kept [] count = Ok (asked.Other other.Nothing)
asked_of_kept (first ∷ arguments) count =
    asked_behind_kept (word_of first) (nat_lt (length (first ∷ arguments)) count) arguments

abbrev pub meaning_of_kept : KeptArguments → Asked
meaning_of_kept kept = or_wrong (asked_of_kept kept.whole kept.count)

-- four arguments, two pairs of a key and a value
abbrev pub two_pairs_alone : List (List ℕ) → Result (Pair × Pair) Wrong
two_pairs_alone (key ∷ value ∷ other_key ∷ other_value ∷ []) =
    pair_in key value >>= λ p. pair_in other_key other_value >>= λ q. Ok (p, q)
two_pairs_alone _ = Err wrong.Arguments
