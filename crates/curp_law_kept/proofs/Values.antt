-- The value of a key comes from the requests on its hash, and the answer to a command from those on its hashes.
use Rattle.std.proofs.Common.{◌≡◌, ℕ, suc, Bool, true, false, cond, ◌||◌, List, [], ◌∷◌, ◌++◌, Some, refl, ap, sym, subst, ◌∙◌}
use Rattle.std.specs.List.{filter}
use Rattle.std.specs.Ordering.{eq_by_cmp}
use Rattle.std.specs.FinMap.{slice_cmp-IsAntisymmetric, nat_cmp-IsAntisymmetric}
use Rattle.std.specs.FinMap as map
use Rattle.std.proofs.lemmas.Map.Views.{tells_apart}
use Rattle.std.proofs.lemmas.List.Elements.{filter-append}
use Rattle.curp_cmd.specs.Store.{Contents, Applied, nothing, keys_of, is_update, applied}
use Rattle.curp_cmd.specs.Hash.{conflicts, hash_of, touches}
use Rattle.curp_cmd.specs.declared.command.Command.{Command}
use Rattle.curp_cmd.specs.declared.command.Command.TheVariants.{Get, Put, Delete, Incr, Append, CondPut, Multi}
use Rattle.curp_order.specs.Order.{store_after, Asked}
use Rattle.curp_law_kept.specs.Hashes.{In, on, value}
use Rattle.curp_cmd.proofs.Apart.{order, among, Alike, IsLocal, local, with_pairs-alike, hash_among, keys_apart, same_after, same_second}

-- ---- one command

only_key : (q key : List ℕ) → among q (key ∷ []) ≡ true → q ≡ key
only_key q key e = go (eq_by_cmp order q key) refl e
  where
    go : (b : Bool) → eq_by_cmp order q key ≡ b → (b || false) ≡ true → q ≡ key
    go true t r = tells_apart (slice_cmp-IsAntisymmetric nat_cmp-IsAntisymmetric) q key t
    go false t r = absurd cc

one_alike : (key q : List ℕ) (s t : Contents) → map.get s q ≡ map.get t q → among q (key ∷ []) ≡ true → Alike (key ∷ []) s t
one_alike key q s t e in_q p in_p = subst (λ (k : List ℕ). map.get s k ≡ map.get t k) (only_key q key in_q ∙ sym (only_key p key in_p)) e

step_one : (key q : List ℕ) (does : Contents → Applied) → IsLocal (key ∷ []) does → (s t : Contents) → map.get s q ≡ map.get t q → map.get (does s).after q ≡ map.get (does t).after q
step_one key q does l s t e = go (among q (key ∷ [])) refl
  where
    go : (b : Bool) → among q (key ∷ []) ≡ b → map.get (does s).after q ≡ map.get (does t).after q
    go true i = l.own s t (one_alike key q s t e i) q i
    go false i = l.others s q i ∙ e ∙ sym (l.others t q i)

step_multi : (pairs : List (List ℕ × List ℕ)) (s t : Contents) (q : List ℕ) → map.get s q ≡ map.get t q → map.get (applied s (Multi pairs)).after q ≡ map.get (applied t (Multi pairs)).after q
unfolding applied
step_multi pairs s t q e = with_pairs-alike pairs s t q e

-- stores that agree at a key agree there after a command
pub value_step : (c : Command) (s t : Contents) (q : List ℕ) → map.get s q ≡ map.get t q → map.get (applied s c).after q ≡ map.get (applied t c).after q
value_step (Get key) s t q e = step_one key q _ (local (Get key)) s t e
value_step (Put key value) s t q e = step_one key q _ (local (Put key value)) s t e
value_step (Delete key) s t q e = step_one key q _ (local (Delete key)) s t e
value_step (Incr key) s t q e = step_one key q _ (local (Incr key)) s t e
value_step (Append key more) s t q e = step_one key q _ (local (Append key more)) s t e
value_step (CondPut key expected value) s t q e = step_one key q _ (local (CondPut key expected value)) s t e
value_step (Multi pairs) s t q e = step_multi pairs s t q e

-- a command that doesn't touch a key's hash is not of the key
not_among : (c : Command) (q : List ℕ) → touches c (hash_of q) ≡ false → among q (keys_of c) ≡ false
not_among c q none = go (among q (keys_of c)) refl
  where
    go : (b : Bool) → among q (keys_of c) ≡ b → b ≡ false
    go true e = sym (hash_among q (keys_of c) e) ∙ none
    go false e = refl

-- a command that doesn't touch a key's hash leaves its value
pub value_stays : (c : Command) (s : Contents) (q : List ℕ) → touches c (hash_of q) ≡ false → map.get (applied s c).after q ≡ map.get s q
value_stays c s q none = (local c).others s q (not_among c q none)

-- a key that is found among others stands among them
among_in : (q : List ℕ) (keys : List (List ℕ)) → among q keys ≡ true → In q keys
among_in q [] e = absurd cc
among_in q (key ∷ keys) e = go (eq_by_cmp order q key) refl e (among_in q keys)
  where
    go : (b : Bool) → eq_by_cmp order q key ≡ b → (b || among q keys) ≡ true → (among q keys ≡ true → In q keys) → In q (key ∷ keys)
    go true same r later = (0, ap (λ (k : List ℕ). Some k) (sym (tells_apart (slice_cmp-IsAntisymmetric nat_cmp-IsAntisymmetric) q key same)))
    go false same r later = let m = later r in (suc m.0, m.1)

-- a key of a command has one of its hashes
pub key_touched : (c : Command) (q : List ℕ) → among q (keys_of c) ≡ true → touches c (hash_of q) ≡ true
key_touched c q e = hash_among q (keys_of c) e

-- stores that agree at the keys of a command's hashes give it one answer
pub answer_alike : (c : Command) (s t : Contents) → ((q : List ℕ) → touches c (hash_of q) ≡ true → map.get s q ≡ map.get t q) → (applied s c).answer ≡ (applied t c).answer
answer_alike c s t same = (local c).answer s t (λ q e. same q (key_touched c q e))

-- commands that don't conflict may be done in either order
pub commute : (s : Contents) (a b : Command) → conflicts a b ≡ false → (applied (applied s a).after b).after ≡ (applied (applied s b).after a).after
commute s a b none = same_after (keys_of a) (keys_of b) (λ s. applied s a) (λ s. applied s b) (local a) (local b) (keys_apart a b none) s

-- and the second answers as it would alone
pub second_alone : (s : Contents) (a b : Command) → conflicts a b ≡ false → (applied (applied s a).after b).answer ≡ (applied s b).answer
second_alone s a b none = same_second (keys_of a) (keys_of b) (λ s. applied s a) (λ s. applied s b) (local a) (local b) (keys_apart a b none) s

-- a get changes nothing
pub read_only : (s : Contents) (command : Command) → is_update command ≡ false → (applied s command).after ≡ s
unfolding applied
read_only s (Get key) e = refl
read_only s (Put key value) e = absurd cc
read_only s (Delete key) e = absurd cc
read_only s (Incr key) e = absurd cc
read_only s (Append key more) e = absurd cc
read_only s (CondPut key expected value) e = absurd cc
read_only s (Multi pairs) e = absurd cc

-- stores that agree at its keys give a command one answer
pub answer_local : (s t : Contents) (c : Command) → ((key : List ℕ) → In key (keys_of c) → map.get s key ≡ map.get t key) → (applied s c).answer ≡ (applied t c).answer
answer_local s t c same = (local c).answer s t (λ q e. same q (among_in q (keys_of c) e))

-- ---- lists of requests

pub store_append : (s : Contents) (xs ys : List Asked) → store_after s (xs ++ ys) ≡ store_after (store_after s xs) ys
store_append s [] ys = refl
store_append s (x ∷ xs) ys = store_append (applied s x.1).after xs ys

-- requests at a hash, of two lists
pub on_append : (h : ℕ) (xs ys : List Asked) → on h (xs ++ ys) ≡ on h xs ++ on h ys
on_append h xs ys = filter-append (λ (x : Asked). touches x.1 h) xs ys

-- the value of a key comes from the requests on its hash, from stores that agree there
pub value_from : (q : List ℕ) (xs : List Asked) (s t : Contents) → map.get s q ≡ map.get t q → map.get (store_after s xs) q ≡ map.get (store_after t (on (hash_of q) xs)) q
value_from q [] s t e = e
value_from q (x ∷ xs) s t e = go (touches x.1 (hash_of q)) refl (value_from q xs)
  where
    go : (b : Bool) → touches x.1 (hash_of q) ≡ b → ((s t : Contents) → map.get s q ≡ map.get t q → map.get (store_after s xs) q ≡ map.get (store_after t (on (hash_of q) xs)) q)
        → map.get (store_after (applied s x.1).after xs) q ≡ map.get (store_after t (cond b (x ∷ on (hash_of q) xs) (on (hash_of q) xs))) q
    go true y ih = ih (applied s x.1).after (applied t x.1).after (value_step x.1 s t q e)
    go false n ih = ih (applied s x.1).after t (value_stays x.1 s q n ∙ e)

-- a value comes from the requests on its hash
pub value_local : (key : List ℕ) (xs : List Asked) → value key xs ≡ value key (on (hash_of key) xs)
value_local key xs = value_from key xs nothing nothing refl
