-- Four pairs of a key and a value.
use Rattle.std.proofs.Common.{◌≡◌, ℕ, List, [], ◌∷◌, length, take, drop, refl, ap, arith}
use Rattle.std.specs.Prelude.{if◌then◌else◌, Bool, true, false, Result, Ok, Err}
use Rattle.std.specs.Result.{result_unwrap_or}
use Rattle.curp_base.specs.Cases.{◌>>=◌, refuse_if}
use Rattle.curp_cmd.specs.Pairs.{Pair, names_twice}
use Rattle.curp_cmd.specs.declared.command.Command.TheVariants as command
use Rattle.curp_resp.specs.KeptMeaning.{two_pairs_alone}
use Rattle.curp_resp.specs.Meaning.{multi_alone, pair_in}
use Rattle.curp_resp.specs.declared.asked.Wrong.{Wrong}
use Rattle.curp_resp.specs.declared.asked.Wrong.TheVariants as wrong

-- both pairs, where both are there
abbrev both : Result Pair Wrong → Result Pair Wrong → Result (Pair × Pair) Wrong
both r s = r >>= λ p. s >>= λ q. Ok (p, q)

both_there : (r s : Result Pair Wrong) (p q : Pair) → both r s ≡ Ok (p, q) → (r ≡ Ok p) × (s ≡ Ok q)
both_there (Ok x) (Ok y) p q h =
    let pair = ap (λ r. result_unwrap_or r (x, y)) h in
    (ap (λ t. Ok t.0) pair, ap (λ t. Ok t.1) pair)
both_there (Ok x) (Err e) p q h = absurd cc
both_there (Err e) s p q h = absurd cc

-- a refusal, and what is given without it
refused : {A E : Type 0} (t : Bool) (why : E) (x : A) → (refuse_if t why >>= λ _. Ok x) ≡ (if t then Err why else Ok x)
refused true why x = refl
refused false why x = refl

pub four_pairs : (arguments : List (List ℕ)) (p q r s : Pair) → length arguments ≡ 8
    → two_pairs_alone (take 4 arguments) ≡ Ok (p, q) → two_pairs_alone (drop 4 arguments) ≡ Ok (r, s)
    → multi_alone arguments ≡ (if names_twice (p ∷ q ∷ r ∷ s ∷ []) then Err wrong.KeyTwice else Ok (command.Multi (p ∷ q ∷ r ∷ s ∷ [])))
four_pairs (a ∷ b ∷ c ∷ d ∷ e ∷ f ∷ g ∷ h ∷ []) p q r s len prefix back =
    let one = both_there (pair_in a b) (pair_in c d) p q prefix in
    let two = both_there (pair_in e f) (pair_in g h) r s back in
    rw (one.0, one.1, two.0, two.1) (refused (names_twice (p ∷ q ∷ r ∷ s ∷ [])) wrong.KeyTwice (command.Multi (p ∷ q ∷ r ∷ s ∷ [])))
four_pairs _ p q r s len prefix back = absurd (omega arith)

-- the error of two that aren't both there is that of what follows on them
pub four_pairs_not : (arguments : List (List ℕ)) (p q : Pair) (why : Wrong) → length arguments ≡ 8
    → two_pairs_alone (take 4 arguments) ≡ Ok (p, q) → two_pairs_alone (drop 4 arguments) ≡ Err why → multi_alone arguments ≡ Err why
four_pairs_not (a ∷ b ∷ c ∷ d ∷ e ∷ f ∷ g ∷ h ∷ []) p q why len prefix back =
    let one = both_there (pair_in a b) (pair_in c d) p q prefix in
    rw (one.0, one.1) (by (pair_in e f) (pair_in g h) back)
  where
    by : (r s : Result Pair Wrong) → both r s ≡ Err why
        → ((((r >>= λ x. (s >>= λ y. Ok (y ∷ [])) >>= λ ys. Ok (x ∷ ys)) >>= λ rest. Ok (q ∷ rest)) >>= λ rest. Ok (p ∷ rest))
        >>= λ pairs. refuse_if (names_twice pairs) wrong.KeyTwice >>= λ _. Ok (command.Multi pairs)) ≡ Err why
    by (Ok x) (Ok y) h = absurd cc
    by (Ok x) (Err i) h = let same : i ≡ why = cc in rw same refl
    by (Err i) s h = let same : i ≡ why = cc in rw same refl
four_pairs_not _ p q why len prefix back = absurd (omega arith)
