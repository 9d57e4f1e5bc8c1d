-- A command reads and writes the store only at its keys, so two commands with no key in common may be done in either order.
use Rattle.std.proofs.Common.{◌≡◌, ℕ, ◌+◌, ◌-◌, ◌^◌, ◌==◌, nat_le, Bool, true, false, cond, ◌||◌, if◌then◌else◌, List, [], ◌∷◌, ◌++◌, length, map as each, Option, Some, None, is_some, unwrap_or, refl, ap, sym, arith, ◌∙◌}
use Rattle.std.specs.Int.{w64, to_be_bytes}
use Rattle.std.specs.List.{list_any}
use Rattle.std.specs.Option.{option_eq}
use Rattle.std.specs.Ordering.{nat_cmp, is_eq, eq_by_cmp}
use Rattle.std.specs.Str.{bytes_eq}
use Rattle.std.specs.declared.cmp.Ordering.{Ordering}
use Rattle.std.specs.Cmp.Lexicographic.{slice_cmp, nat_list_cmp_total}
use Rattle.std.specs.FinMap.{slice_cmp-IsAntisymmetric, nat_cmp-IsAntisymmetric}
use Rattle.std.specs.FinMap as map
use Rattle.std.proofs.lemmas.Bool.Decides.{nat_tests}
use Rattle.std.proofs.lemmas.Cmp.{tied_itself}
use Rattle.std.proofs.lemmas.Map.Views.{tells_apart}
use Rattle.curp_cmd.specs.Pairs.{Pair}
use Rattle.curp_cmd.specs.Store.{Contents, Applied, keys_of, number_of, next_number, lengthened, with_pairs, applied}
use Rattle.curp_cmd.specs.Hash.{hash_of, hashes_of, touches, conflicts}
use Rattle.curp_cmd.specs.declared.command.Command.{Command}
use Rattle.curp_cmd.specs.declared.command.Command.TheVariants.{Get, Put, Delete, Incr, Append, CondPut, Multi}
use Rattle.curp_cmd.specs.declared.command.Answer.{Answer}
use Rattle.curp_cmd.specs.declared.command.Answer.TheVariants.{Done, Removed, Number, Length, Swapped, NotNumber, Overflow, TooLong, Found}

abbrev pub order : List ℕ → List ℕ → Ordering
order = slice_cmp nat_cmp

-- q is one of the keys
abbrev pub among : List ℕ → List (List ℕ) → Bool
among q keys = list_any (eq_by_cmp order q) keys

-- two stores that have the same values at these keys
abbrev pub Alike : List (List ℕ) → Contents → Contents → Type 0
Alike keys s t = (q : List ℕ) → among q keys ≡ true → map.get s q ≡ map.get t q

-- what is done reads and writes only at these keys
pub record IsLocal (keys : List (List ℕ)) (does : Contents → Applied) : Type 0 where
  pub others : (s : Contents) (q : List ℕ) → among q keys ≡ false → map.get (does s).after q ≡ map.get s q
  pub answer : (s t : Contents) → Alike keys s t → (does s).answer ≡ (does t).answer
  pub own : (s t : Contents) → Alike keys s t → (q : List ℕ) → among q keys ≡ true → map.get (does s).after q ≡ map.get (does t).after q

-- what a command on one key does to the store
data Change : Type 0 where
  Keep : Change
  Set : List ℕ → Change
  Clear : Change

abbrev changed : Contents → List ℕ → Change → Contents
changed s key Keep = s
changed s key (Set value) = map.insert s key value
changed s key Clear = map.remove s key

changed_other : (s : Contents) (key : List ℕ) (c : Change) (q : List ℕ) → eq_by_cmp order q key ≡ false → map.get (changed s key c) q ≡ map.get s q
changed_other s key Keep q e = refl
changed_other s key (Set value) q e = map.get-insert nat_list_cmp_total s key value q ∙ ap (λ (b : Bool). cond b (Some value) (map.get s q)) e
changed_other s key Clear q e = map.get-remove nat_list_cmp_total s key q ∙ ap (λ (b : Bool). cond b None (map.get s q)) e

changed_alike : (s t : Contents) (key : List ℕ) (c : Change) (q : List ℕ) → map.get s q ≡ map.get t q → map.get (changed s key c) q ≡ map.get (changed t key c) q
changed_alike s t key Keep q h = h
changed_alike s t key (Set value) q h =
    map.get-insert nat_list_cmp_total s key value q ∙ ap (cond (eq_by_cmp order q key) (Some value)) h ∙ sym (map.get-insert nat_list_cmp_total t key value q)
changed_alike s t key Clear q h =
    map.get-remove nat_list_cmp_total s key q ∙ ap (cond (eq_by_cmp order q key) None) h ∙ sym (map.get-remove nat_list_cmp_total t key q)

one_left : (a b : Bool) → a ≡ true → (a || b) ≡ true
one_left true b e = refl
one_left false b e = absurd cc

one_right : (a b : Bool) → b ≡ true → (a || b) ≡ true
one_right true b e = refl
one_right false b e = e

none_left : (a b : Bool) → (a || b) ≡ false → a ≡ false
none_left true b e = e
none_left false b e = refl

none_right : (a b : Bool) → (a || b) ≡ false → b ≡ false
none_right true b e = absurd cc
none_right false b e = e

pub same_number : (n : ℕ) → (n == n) ≡ true
same_number n = grind (arith, nat_tests)

pub number_is : (m n : ℕ) → (m == n) ≡ true → m ≡ n
number_is m n e = grind (arith, nat_tests)

own_key : (key : List ℕ) → among key (key ∷ []) ≡ true
own_key key = one_left _ _ (ap is_eq (tied_itself nat_list_cmp_total key))

neither : (b : Bool) → (b || false) ≡ false → b ≡ false
neither b e = none_left b false e

-- what is done to one key by the value that it has
one_key_local : (key : List ℕ) (does : Contents → Applied) (answer : Option (List ℕ) → Answer) (change : Option (List ℕ) → Change)
    → ((s : Contents) → does s ≡ record { answer = answer (map.get s key); after = changed s key (change (map.get s key)) }) → IsLocal (key ∷ []) does
one_key_local key does answer change is = record {
  others = λ s q e. ap (λ (d : Applied). map.get d.after q) (is s) ∙ changed_other s key (change (map.get s key)) q (neither _ e);
  answer = λ s t h. ap (λ (d : Applied). d.answer) (is s) ∙ ap answer (h key (own_key key)) ∙ sym (ap (λ (d : Applied). d.answer) (is t));
  own = λ s t h q e. ap (λ (d : Applied). map.get d.after q) (is s) ∙ ap (λ (v : Option (List ℕ)). map.get (changed s key (change v)) q) (h key (own_key key))
      ∙ changed_alike s t key (change (map.get t key)) q (h q e) ∙ sym (ap (λ (d : Applied). map.get d.after q) (is t));
}

-- Incr, by the number that the key has
number_answer : Option ℕ → Answer
number_answer None = NotNumber
number_answer (Some n) = if n == 2 ^ 64 - 1 then Overflow else Number (n + 1)

number_change : Option ℕ → Change
number_change None = Keep
number_change (Some n) = if n == 2 ^ 64 - 1 then Keep else Set (to_be_bytes w64 (n + 1))

next_number_is : (s : Contents) (key : List ℕ) (m : Option ℕ) → next_number s key m ≡ record { answer = number_answer m; after = changed s key (number_change m) }
unfolding number_answer number_change
next_number_is s key None = refl
next_number_is s key (Some n) = go (n == 2 ^ 64 - 1)
  where
    go : (b : Bool) → ◌≡◌ {A = Applied}
        (if b then record { answer = Overflow; after = s } else record { answer = Number (n + 1); after = map.insert s key (to_be_bytes w64 (n + 1)) })
        (record { answer = if b then Overflow else Number (n + 1); after = changed s key (if b then Keep else Set (to_be_bytes w64 (n + 1))) })
    go true = refl
    go false = refl

-- Append, by the bytes that the key would have
lengthened_is : (s : Contents) (key bytes : List ℕ)
    → lengthened s key bytes ≡ record { answer = if nat_le (length bytes) 128 then Length (length bytes) else TooLong; after = changed s key (if nat_le (length bytes) 128 then Set bytes else Keep) }
lengthened_is s key bytes = go (nat_le (length bytes) 128)
  where
    go : (b : Bool) → ◌≡◌ {A = Applied}
        (if b then record { answer = Length (length bytes); after = map.insert s key bytes } else record { answer = TooLong; after = s })
        (record { answer = if b then Length (length bytes) else TooLong; after = changed s key (if b then Set bytes else Keep) })
    go true = refl
    go false = refl

-- CondPut, by whether the key has the expected value
swapped_is : (s : Contents) (key value : List ℕ) (b : Bool) → ◌≡◌ {A = Applied}
    (if b then record { answer = Swapped true; after = map.insert s key value } else record { answer = Swapped false; after = s })
    (record { answer = Swapped b; after = changed s key (if b then Set value else Keep) })
swapped_is s key value true = refl
swapped_is s key value false = refl

-- Multi, pair by pair
pub with_pairs-other : (ps : List Pair) (s : Contents) (q : List ℕ) → among q (each (λ (p : Pair). p.0) ps) ≡ false → map.get (with_pairs s ps) q ≡ map.get s q
with_pairs-other [] s q e = refl
with_pairs-other (p ∷ ps) s q e =
    with_pairs-other ps (map.insert s p.0 p.1) q (none_right _ _ e) ∙ changed_other s p.0 (Set p.1) q (none_left _ _ e)

pub with_pairs-alike : (ps : List Pair) (s t : Contents) (q : List ℕ) → map.get s q ≡ map.get t q → map.get (with_pairs s ps) q ≡ map.get (with_pairs t ps) q
with_pairs-alike [] s t q h = h
with_pairs-alike (p ∷ ps) s t q h = with_pairs-alike ps (map.insert s p.0 p.1) (map.insert t p.0 p.1) q (changed_alike s t p.0 (Set p.1) q h)

pub local : (c : Command) → IsLocal (keys_of c) (λ s. applied s c)
unfolding applied
local (Get key) = one_key_local key _ (λ v. Found v) (λ v. Keep) (λ s. refl)
local (Put key value) = one_key_local key _ (λ v. Done) (λ v. Set value) (λ s. refl)
local (Delete key) = one_key_local key _ (λ v. Removed (is_some v)) (λ v. Clear) (λ s. refl)
local (Incr key) = one_key_local key _ (λ v. number_answer (number_of v)) (λ v. number_change (number_of v)) (λ s. next_number_is s key (number_of (map.get s key)))
local (Append key more) =
    one_key_local key _ (λ v. if nat_le (length (unwrap_or v [] ++ more)) 128 then Length (length (unwrap_or v [] ++ more)) else TooLong) (λ v. if nat_le (length (unwrap_or v [] ++ more)) 128 then Set (unwrap_or v [] ++ more) else Keep)
    (λ s. lengthened_is s key (unwrap_or (map.get s key) [] ++ more))
local (CondPut key expected value) =
    one_key_local key _ (λ v. Swapped (option_eq bytes_eq v expected)) (λ v. if option_eq bytes_eq v expected then Set value else Keep) (λ s. swapped_is s key value (option_eq bytes_eq (map.get s key) expected))
local (Multi pairs) = record { others = λ s q e. with_pairs-other pairs s q e; answer = λ s t h. refl; own = λ s t h q e. with_pairs-alike pairs s t q (h q e) }

-- keys of commands with no hash in common are different keys
pub hash_among : (q : List ℕ) (keys : List (List ℕ)) → among q keys ≡ true → list_any (λ x. x == hash_of q) (each hash_of keys) ≡ true
hash_among q [] e = e
hash_among q (k ∷ ks) e = go (eq_by_cmp order q k) refl (λ h. hash_among q ks h) e
  where
    go : (b : Bool) → eq_by_cmp order q k ≡ b → (among q ks ≡ true → list_any (λ x. x == hash_of q) (each hash_of ks) ≡ true) → (b || among q ks) ≡ true
        → ((hash_of k == hash_of q) || list_any (λ x. x == hash_of q) (each hash_of ks)) ≡ true
    go true t rest h =
        one_left _ _ (ap (λ (x : List ℕ). hash_of k == hash_of x) (tells_apart (slice_cmp-IsAntisymmetric nat_cmp-IsAntisymmetric) q k t) ∙ same_number (hash_of k))
    go false t rest h = one_right _ _ (rest h)

any_of : (p : ℕ → Bool) (h : ℕ) (hs : List ℕ) → list_any (λ x. x == h) hs ≡ true → p h ≡ true → list_any p hs ≡ true
any_of p h [] e t = e
any_of p h (x ∷ hs) e t = go (x == h) refl (λ r. any_of p h hs r t) e
  where
    go : (b : Bool) → (x == h) ≡ b → (list_any (λ y. y == h) hs ≡ true → list_any p hs ≡ true) → (b || list_any (λ y. y == h) hs) ≡ true → (p x || list_any p hs) ≡ true
    go true is rest r = one_left _ _ (ap p (number_is x h is) ∙ t)
    go false is rest r = one_right _ _ (rest r)

-- no key of the one is a key of the other
abbrev pub Apart : List (List ℕ) → List (List ℕ) → Type 0
Apart ks ls = (q : List ℕ) → among q ks ≡ true → among q ls ≡ false

pub keys_apart : (a b : Command) → conflicts a b ≡ false → Apart (keys_of a) (keys_of b)
keys_apart a b none q in_a = go (among q (keys_of b)) refl
  where
    go : (r : Bool) → among q (keys_of b) ≡ r → r ≡ false
    go false in_b = refl
    go true in_b = sym (any_of (touches b) (hash_of q) (hashes_of a) (hash_among q (keys_of a) in_a) (hash_among q (keys_of b) in_b)) ∙ none

-- what is done at keys apart, one after the other
module _ (ks ls : List (List ℕ)) (f g : Contents → Applied) (at_ks : IsLocal ks f) (at_ls : IsLocal ls g) (apart : Apart ks ls) where
  not_first : (q : List ℕ) → among q ls ≡ true → among q ks ≡ false
  not_first q in_ls = go (among q ks) refl
    where
      go : (r : Bool) → among q ks ≡ r → r ≡ false
      go false in_ks = refl
      go true in_ks = sym in_ls ∙ apart q in_ks

  alike_first : (s : Contents) → Alike ks (g s).after s
  alike_first s q in_ks = at_ls.others s q (apart q in_ks)

  alike_second : (s : Contents) → Alike ls (f s).after s
  alike_second s q in_ls = at_ks.others s q (not_first q in_ls)

  pub same_first : (s : Contents) → (f (g s).after).answer ≡ (f s).answer
  same_first s = at_ks.answer (g s).after s (alike_first s)

  pub same_second : (s : Contents) → (g (f s).after).answer ≡ (g s).answer
  same_second s = at_ls.answer (f s).after s (alike_second s)

  pub same_after : (s : Contents) → (g (f s).after).after ≡ (f (g s).after).after
  same_after s = map.same_map nat_list_cmp_total (slice_cmp-IsAntisymmetric nat_cmp-IsAntisymmetric) _ _ (λ q. go q (among q ks) refl (among q ls) refl)
    where
      go : (q : List ℕ) (b : Bool) → among q ks ≡ b → (d : Bool) → among q ls ≡ d → map.get (g (f s).after).after q ≡ map.get (f (g s).after).after q
      go q true in_ks d e = at_ls.others (f s).after q (apart q in_ks) ∙ sym (at_ks.own (g s).after s (alike_first s) q in_ks)
      go q false not_in true in_ls = at_ls.own (f s).after s (alike_second s) q in_ls ∙ sym (at_ks.others (g s).after q not_in)
      go q false not_in false neither_in = at_ls.others (f s).after q neither_in ∙ at_ks.others s q not_in ∙ sym (at_ls.others s q neither_in) ∙ sym (at_ks.others (g s).after q not_in)
