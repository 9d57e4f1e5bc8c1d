-- A store computes as the list of its pairs, in ascending order of their keys.
use Rattle.std.proofs.Common.{◌≡◌, ℕ, ◌+◌, ◌-◌, ◌^◌, ◌==◌, nat_le, Bool, true, false, cond, not, if◌then◌else◌, List, [], ◌∷◌, ◌++◌, length, Option, Some, None, is_some, unwrap_or, nat_cmp, Equal, refl, sym, ap, ◌∙◌}
use Rattle.std.specs.Cmp.{eq_by_cmp_equiv}
use Rattle.std.specs.Cmp.Lexicographic.{slice_cmp, nat_list_cmp_total}
use Rattle.std.specs.FinMap as map
use Rattle.std.specs.FinMap.{nat_cmp-IsAntisymmetric, slice_cmp-IsAntisymmetric}
use Rattle.std.specs.FinMap.Entries.{find, put, where_key, find-where_key, is_sorted-where_key, same_entries}
use Rattle.std.specs.Int.{w64, to_be_bytes}
use Rattle.std.specs.Option.{option_eq}
use Rattle.std.specs.Ordering.{eq_by_cmp}
use Rattle.std.specs.Str.{bytes_eq}
use Rattle.curp_cmd.specs.Pairs.{Pair}
use Rattle.curp_cmd.specs.Store.{Contents, Applied, nothing, number_of, next_number, lengthened, with_pairs, applied}
use Rattle.curp_cmd.specs.declared.command.Answer.{Answer}
use Rattle.curp_cmd.specs.declared.command.Answer.TheVariants.{Done, Removed, Number, Length, Swapped, NotNumber, Overflow, TooLong, Found}
use Rattle.curp_cmd.specs.declared.command.Command.{Command}
use Rattle.curp_cmd.specs.declared.command.Command.TheVariants.{Get, Put, Delete, Incr, Append, CondPut, Multi}

-- ---- what a command does to the pairs

-- what a command answers, and the pairs after it
pub record Listed : Type 0 where
  pub answer : Answer
  pub pairs : List Pair

abbrev pub value_in : List Pair → List ℕ → Option (List ℕ)
value_in pairs key = find (slice_cmp nat_cmp) key pairs

abbrev pub put_in : List Pair → List ℕ → List ℕ → List Pair
put_in pairs key value = put (slice_cmp nat_cmp) key value pairs

abbrev pub taken_from : List Pair → List ℕ → List Pair
taken_from pairs key = where_key (slice_cmp nat_cmp) (λ x. not (eq_by_cmp (slice_cmp nat_cmp) key x)) pairs

abbrev pub all_put_in : List Pair → List Pair → List Pair
all_put_in pairs [] = pairs
all_put_in pairs (p ∷ ps) = all_put_in (put_in pairs p.0 p.1) ps

abbrev pub listed_number : List Pair → List ℕ → Option ℕ → Listed
listed_number pairs key None = record { answer = NotNumber; pairs = pairs }
listed_number pairs key (Some n) =
    if n == 2 ^ 64 - 1
    then record { answer = Overflow; pairs = pairs }
    else record { answer = Number (n + 1); pairs = put_in pairs key (to_be_bytes w64 (n + 1)) }

abbrev pub listed_length : List Pair → List ℕ → List ℕ → Listed
listed_length pairs key bytes =
    if nat_le (length bytes) 128
    then record { answer = Length (length bytes); pairs = put_in pairs key bytes }
    else record { answer = TooLong; pairs = pairs }

abbrev pub listed_swap : List Pair → List ℕ → List ℕ → Bool → Listed
listed_swap pairs key value does =
    if does
    then record { answer = Swapped true; pairs = put_in pairs key value }
    else record { answer = Swapped false; pairs = pairs }

abbrev pub listed : List Pair → Command → Listed
listed pairs (Get key) = record { answer = Found (value_in pairs key); pairs = pairs }
listed pairs (Put key value) = record { answer = Done; pairs = put_in pairs key value }
listed pairs (Delete key) = record { answer = Removed (is_some (value_in pairs key)); pairs = taken_from pairs key }
listed pairs (Incr key) = listed_number pairs key (number_of (value_in pairs key))
listed pairs (Append key more) = listed_length pairs key (unwrap_or (value_in pairs key) [] ++ more)
listed pairs (CondPut key expected value) = listed_swap pairs key value (option_eq bytes_eq (value_in pairs key) expected)
listed pairs (Multi more) = record { answer = Done; pairs = all_put_in pairs more }

-- ---- that is what it does to the store

abbrev pub seen : Applied → Listed
seen a = record { answer = a.answer; pairs = map.entries a.after }

empty_of_length : {A : Type 0} (xs : List A) → length xs ≡ 0 → xs ≡ []
empty_of_length [] e = refl
empty_of_length (x ∷ xs) e = absurd cc

pub entries_nothing : map.entries nothing ≡ []
entries_nothing = empty_of_length _ (sym (map.len-entries nothing) ∙ map.len-empty (slice_cmp nat_cmp) (List ℕ))

pub entries_put : (s : Contents) (key value : List ℕ) → map.entries (map.insert s key value) ≡ put_in (map.entries s) key value
entries_put s key value = map.entries-insert nat_list_cmp_total s key value

same_key : (x y : List ℕ) → slice_cmp nat_cmp x y ≡ Equal → x ≡ y
same_key = slice_cmp-IsAntisymmetric nat_cmp-IsAntisymmetric

turned : (b : Bool) (o : Option (List ℕ)) → cond b None o ≡ cond (not b) o None
turned true o = refl
turned false o = refl

pub entries_remove : (s : Contents) (key : List ℕ) → map.entries (map.remove s key) ≡ taken_from (map.entries s) key
entries_remove s key =
    let order = slice_cmp nat_cmp in
    let kept : List ℕ → Bool = λ x. not (eq_by_cmp order key x) in
    same_entries order nat_list_cmp_total same_key _ _ (map.entries_sorted (map.remove s key)) (is_sorted-where_key order kept (map.entries s) (map.entries_sorted s)) (λ q.
    sym (map.get-entries (map.remove s key) q) ∙ map.get-remove nat_list_cmp_total s key q
    ∙ ap (λ b. cond b None (map.get s q)) ((eq_by_cmp_equiv nat_list_cmp_total).symm q key)
    ∙ turned (eq_by_cmp order key q) (map.get s q)
    ∙ ap (λ o. cond (kept q) o None) (map.get-entries s q)
    ∙ sym (find-where_key order kept q (λ x tied. ap kept (sym (same_key q x tied))) (map.entries s)))

pub entries_put_all : (s : Contents) (pairs : List Pair) → map.entries (with_pairs s pairs) ≡ all_put_in (map.entries s) pairs
entries_put_all s [] = refl
entries_put_all s (p ∷ ps) = entries_put_all (map.insert s p.0 p.1) ps ∙ ap (λ now. all_put_in now ps) (entries_put s p.0 p.1)

same_branch : (b : Bool) (x y : Applied) (v w : Listed) → seen x ≡ v → seen y ≡ w → seen (if b then x else y) ≡ (if b then v else w)
same_branch true x y v w e f = e
same_branch false x y v w e f = f

same_number : (s : Contents) (key : List ℕ) (n : Option ℕ) → seen (next_number s key n) ≡ listed_number (map.entries s) key n
same_number s key None = refl
same_number s key (Some n) =
    same_branch (n == 2 ^ 64 - 1) _ _ _ _ refl (λ i. record { answer = Number (n + 1); pairs = entries_put s key (to_be_bytes w64 (n + 1)) i })

same_length : (s : Contents) (key bytes : List ℕ) → seen (lengthened s key bytes) ≡ listed_length (map.entries s) key bytes
same_length s key bytes =
    same_branch (nat_le (length bytes) 128) _ _ _ _ (λ i. record { answer = Length (length bytes); pairs = entries_put s key bytes i }) refl

-- a command answers the same, and leaves the same pairs
pub same_applied : (s : Contents) (c : Command) → seen (applied s c) ≡ listed (map.entries s) c
unfolding applied
same_applied s (Get key) = λ i. record { answer = Found (map.get-entries s key i); pairs = map.entries s }
same_applied s (Put key value) = λ i. record { answer = Done; pairs = entries_put s key value i }
same_applied s (Delete key) = λ i. record { answer = Removed (is_some (map.get-entries s key i)); pairs = entries_remove s key i }
same_applied s (Incr key) =
    same_number s key (number_of (map.get s key)) ∙ ap (λ o. listed_number (map.entries s) key (number_of o)) (map.get-entries s key)
same_applied s (Append key more) =
    same_length s key (unwrap_or (map.get s key) [] ++ more) ∙ ap (λ o. listed_length (map.entries s) key (unwrap_or o [] ++ more)) (map.get-entries s key)
same_applied s (CondPut key expected value) =
    same_branch (option_eq bytes_eq (map.get s key) expected) _ _ _ _ (λ i. record { answer = Swapped true; pairs = entries_put s key value i }) refl
    ∙ ap (λ o. listed_swap (map.entries s) key value (option_eq bytes_eq o expected)) (map.get-entries s key)
same_applied s (Multi pairs) = λ i. record { answer = Done; pairs = entries_put_all s pairs i }
