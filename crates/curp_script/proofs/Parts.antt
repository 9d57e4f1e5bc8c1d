-- What stands behind a command's word, by how many parts there are.
use Rattle.std.proofs.Common.{Bool, true, false, nat_le, if◌then◌else◌, sym, ◌∙◌, ◌≡◌, ◌≢◌, ◌<◌, List, [], ◌∷◌, length, Option, Some, None, option_and_then, refl, arith}
use Rattle.std.proofs.lemmas.Bool.Decides.{nat_tests}
use Rattle.curp_script.specs.Values.{values_data}
use Rattle.json.specs.declared.value.Value.{Value}
use Rattle.std.specs.declared.alloc.Global.{Global}
use Rattle.std.specs.declared.alloc.Global.{Global}
use Rattle.curp_cmd.specs.Pairs.{Pair}
use Rattle.curp_script.specs.Digits.{at_most, by_twos}
use Rattle.curp_script.specs.Grammar.{key_alone, one_pair, cond_put_of, pair_in, multi_put}
use Rattle.curp_script.specs.Headers.{is_within}

-- only one part is a key alone
pub not_alone : (parts : List (Value Global)) → length parts ≢ 1 → None ≡ key_alone (values_data parts)
not_alone [] other = refl
not_alone (a ∷ []) other = absurd (other refl)
not_alone (a ∷ b ∷ more) other = refl

-- only two parts are one pair
pub no_pair : (parts : List (Value Global)) → length parts ≢ 2 → None ≡ one_pair (values_data parts)
no_pair [] other = refl
no_pair (a ∷ []) other = refl
no_pair (a ∷ b ∷ []) other = absurd (other refl)
no_pair (a ∷ b ∷ c ∷ more) other = refl

-- only three parts are those of a conditional put
pub no_triple : (parts : List (Value Global)) → length parts ≢ 3 → None ≡ cond_put_of (values_data parts)
no_triple [] other = refl
no_triple (a ∷ []) other = refl
no_triple (a ∷ b ∷ []) other = refl
no_triple (a ∷ b ∷ c ∷ []) other = absurd (other refl)
no_triple (a ∷ b ∷ c ∷ d ∷ more) other = refl

-- a multi-put has a pair at least
pub no_multi : (parts : List (Value Global)) → length parts < 2 → None ≡ option_and_then multi_put (by_twos pair_in (values_data parts))
no_multi [] short = refl
no_multi (a ∷ []) short = refl
no_multi (a ∷ b ∷ more) short = absurd (omega arith)

too_many_pairs : (pairs : List Pair) (fits : Bool) → nat_le (length pairs) 4 ≡ fits → multi_put pairs ≡ (if fits then multi_put pairs else None)
too_many_pairs pairs true is = refl
too_many_pairs pairs false is = let many : is_within 1 4 (length pairs) ≡ false = grind (arith, nat_tests) in rw many refl

if_some : (pairs : List Pair) (fits : Bool) → option_and_then multi_put (if fits then Some pairs else None) ≡ (if fits then multi_put pairs else None)
if_some pairs true = refl
if_some pairs false = refl

-- and four at most
pub multi-at_most : (pairs : Option (List Pair)) → option_and_then multi_put (option_and_then (at_most 4) pairs) ≡ option_and_then multi_put pairs
multi-at_most None = refl
multi-at_most (Some pairs) = if_some pairs (nat_le (length pairs) 4) ∙ sym (too_many_pairs pairs _ refl)
