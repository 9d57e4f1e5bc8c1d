-- A request that means a command names one to four keys.
use Rattle.std.proofs.Common.{◌≡◌, ◌≤◌, ◌+◌, ℕ, zero, suc, cond, find, Bool, true, false, not, List, [], ◌∷◌, length, map, Option, Some, None, Result, Ok, Err, refl, ap, arith}
use Rattle.std.proofs.lemmas.Bool.Decides.{nat_tests}
use Rattle.std.proofs.lemmas.List.{length-map}
use Rattle.std.specs.Bool.{⊤}
use Rattle.curp_base.specs.Cases.{◌>>=◌, refuse_if}
use Rattle.curp_base.specs.Words.{Each}
use Rattle.curp_cmd.specs.Pairs.{Pair, names_twice}
use Rattle.curp_cmd.specs.Store.{NamesKey, keys_of}
use Rattle.curp_cmd.specs.declared.command.Command.{Command}
use Rattle.curp_cmd.specs.declared.command.Command.TheVariants as command
use Rattle.curp_resp.specs.Meaning.{are_pairs, asked_behind, key_alone, key_of_increment, meaning, multi_alone, of_command, or_wrong, pair_alone, pair_in, pairs_in, spells, swap_alone, text_alone, value_in, words}
use Rattle.curp_resp.specs.declared.asked.Asked.{Asked}
use Rattle.curp_resp.specs.declared.asked.Asked.TheVariants as asked
use Rattle.curp_resp.specs.declared.asked.Other.TheVariants as other
use Rattle.curp_resp.specs.declared.asked.Wrong.{Wrong}
use Rattle.curp_resp.specs.declared.asked.Wrong.TheVariants as wrong

-- the command of a request, if it means one, is a value of its type
abbrev pub NamesKeys : Asked → Type 0
NamesKeys (asked.Command c) = NamesKey c
NamesKeys (asked.Other other) = ⊤

-- the same of what stands for one
abbrev Asks : Result Asked Wrong → Type 0
Asks r = NamesKeys (or_wrong r)

-- the same of a command
abbrev Names : Result Command Wrong → Type 0
Names r = Asks (of_command r)

one_key : (c : Command) (key : List ℕ) → keys_of c ≡ key ∷ [] → NamesKey c
one_key c key is = record { some = omega (arith, ap length is); few = omega (arith, ap length is) }

-- a key alone, or with a value
by_key : (make : List ℕ → Command) → ((key : List ℕ) → NamesKey (make key)) → (r : Result (List ℕ) Wrong) → Names (r >>= λ key. Ok (make key))
by_key make names (Ok key) = names key
by_key make names (Err why) = tt

by_pair : (make : Pair → Command) → ((p : Pair) → NamesKey (make p)) → (r : Result Pair Wrong) → Names (r >>= λ p. Ok (make p))
by_pair make names (Ok p) = names p
by_pair make names (Err why) = tt

by_swap : (r : Result Pair Wrong) (s : Result (List ℕ) Wrong) → Names (r >>= λ p. s >>= λ e. Ok (command.CondPut p.0 (Some e) p.1))
by_swap (Ok p) (Ok e) = one_key (command.CondPut p.0 (Some e) p.1) p.0 refl
by_swap (Ok p) (Err why) = tt
by_swap (Err why) s = tt

by_three : (arguments : List (List ℕ)) → Names (swap_alone arguments)
by_three (key ∷ expected ∷ value ∷ []) = by_swap (pair_in key value) (value_in expected)
by_three [] = tt
by_three (key ∷ []) = tt
by_three (key ∷ expected ∷ []) = tt
by_three (key ∷ expected ∷ value ∷ more ∷ rest) = tt

-- two arguments make a pair

pairs_counted : (arguments : List (List ℕ)) (ps : List Pair) → pairs_in arguments ≡ Ok ps → length arguments ≡ length ps + length ps
pairs_counted [] ps is = by ps is
  where
    by : (ps : List Pair) → pairs_in [] ≡ Ok ps → 0 ≡ length ps + length ps
    by [] e = refl
    by (p ∷ ps) e = absurd cc
pairs_counted (key ∷ []) ps is = absurd cc
pairs_counted (key ∷ value ∷ rest) ps is = by (pair_in key value) (pairs_in rest) (λ qs e. pairs_counted rest qs e) ps is
  where
    by : (r : Result Pair Wrong) (s : Result (List Pair) Wrong) → ((qs : List Pair) → s ≡ Ok qs → length rest ≡ length qs + length qs) → (ps : List Pair) → (r >>= λ p. s >>= λ qs. Ok (p ∷ qs)) ≡ Ok ps
        → suc (suc (length rest)) ≡ length ps + length ps
    by (Ok p) (Ok qs) e [] h = absurd cc
    by (Ok p) (Ok qs) e (q ∷ ps) h =
        let same : qs ≡ ps = cc in
        let more = e qs refl in
        omega (arith, more, ap length same)
    by (Ok p) (Err why) e ps h = absurd cc
    by (Err why) s e ps h = absurd cc

one_to_four : (n m : ℕ) → are_pairs n ≡ true → n ≡ m + m → (1 ≤ m) × (m ≤ 4)
one_to_four n zero pairs e = absurd (none n e pairs)
  where
    none : (n : ℕ) → n ≡ 0 → are_pairs n ≡ true → ⊥
    none zero e pairs = cc
    none (suc n) e pairs = cc
one_to_four n (suc zero) pairs e = (omega arith, omega arith)
one_to_four n (suc (suc zero)) pairs e = (omega arith, omega arith)
one_to_four n (suc (suc (suc zero))) pairs e = (omega arith, omega arith)
one_to_four n (suc (suc (suc (suc zero)))) pairs e = (omega arith, omega arith)
one_to_four n (suc (suc (suc (suc (suc k))))) pairs e =
    let many : 10 ≤ n = omega (arith, e) in
    absurd (grind (arith, nat_tests, many, pairs))

multi_names : (arguments : List (List ℕ)) → Names (multi_alone arguments)
multi_names arguments = by (are_pairs (length arguments)) refl (pairs_in arguments) refl
  where
    made : (twice : Bool) (ps : List Pair) → NamesKey (command.Multi ps) → Names (refuse_if twice wrong.KeyTwice >>= λ _. Ok (command.Multi ps))
    made true ps names = tt
    made false ps names = names

    by : (b : Bool) → are_pairs (length arguments) ≡ b → (r : Result (List Pair) Wrong) → pairs_in arguments ≡ r
        → Names (refuse_if (not b) wrong.Arguments >>= λ _. r >>= λ pairs. refuse_if (names_twice pairs) wrong.KeyTwice >>= λ _. Ok (command.Multi pairs))
    by false e r is = tt
    by true e (Err why) is = tt
    by true e (Ok ps) is =
        let few = one_to_four (length arguments) (length ps) e (pairs_counted arguments ps is) in
        let same : length (keys_of (command.Multi ps)) ≡ length ps = length-map ps (λ (p : Pair). p.0) in
        made (names_twice ps) ps (record { some = omega (arith, same, few.0); few = omega (arith, same, few.1) })

asks_nothing : (r : Result (List ℕ) Wrong) → Asks (r >>= λ text. Ok (asked.Other (other.Echo text)))
asks_nothing (Ok text) = tt
asks_nothing (Err why) = tt

-- what holds of none and of each of a list holds of the one that is found
found_in : {A : Type 0} (P : Option A → Type 0) (p : A → Bool) (xs : List A) → P None → Each (λ x. P (Some x)) xs → P (find p xs)
found_in P p [] none each = none
found_in {A} P p (x ∷ xs) none each = by (p x) (found_in P p xs none each.1)
  where
    by : (b : Bool) → P (find p xs) → P (cond b (Some x) (find p xs))
    by true more = each.0
    by false more = more

pub names_keys : (arguments : List (List ℕ)) → NamesKeys (meaning arguments)
names_keys [] = tt
names_keys (first ∷ arguments) =
    found_in (λ w. Asks (asked_behind w arguments)) (spells first) words tt (
      by_key (λ key. command.Get key) (λ key. one_key (command.Get key) key refl) (key_alone arguments),
      (
        by_pair (λ p. command.Put p.0 p.1) (λ p. one_key (command.Put p.0 p.1) p.0 refl) (pair_alone arguments),
        (
          by_key (λ key. command.Delete key) (λ key. one_key (command.Delete key) key refl) (key_alone arguments),
          (
            by_key (λ key. command.Incr key) (λ key. one_key (command.Incr key) key refl) (key_alone arguments),
            (
              by_key (λ key. command.Incr key) (λ key. one_key (command.Incr key) key refl) (key_of_increment arguments),
              (
                by_pair (λ p. command.Append p.0 p.1) (λ p. one_key (command.Append p.0 p.1) p.0 refl) (pair_alone arguments),
                (
                  by_three arguments,
                  (
                    by_pair (λ p. command.CondPut p.0 None p.1) (λ p. one_key (command.CondPut p.0 None p.1) p.0 refl) (pair_alone arguments),
                    (
                      by_pair (λ p. command.CondPut p.0 None p.1) (λ p. one_key (command.CondPut p.0 None p.1) p.0 refl) (pair_alone arguments),
                      (multi_names arguments, (asks_nothing (text_alone arguments), tt)),
                    ),
                  ),
                ),
              ),
            ),
          ),
        ),
      ),
    )

pub all_name_keys : (requests : List (List (List ℕ))) → Each NamesKeys (map meaning requests)
all_name_keys [] = tt
all_name_keys (arguments ∷ requests) = (names_keys arguments, all_name_keys requests)
