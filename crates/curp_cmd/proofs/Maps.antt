-- The map of the pairs that a hash map holds, each key at most once, in any order.
use Rattle.std.proofs.Common.{◌≡◌, ℕ, suc, ◌<◌, Bool, true, false, cond, List, [], ◌∷◌, ◌++◌, length, get_or, Option, Some, None, refl, sym, ap, subst, ◌∙◌, arith, add-one}
use Rattle.std.specs.List.{IsDistinct}
use Rattle.std.specs.List.Sorted.{IsPermutation, IsSortedByKey}
use Rattle.std.specs.Map.{lookup, keys_of}
use Rattle.std.specs.Ordering.{nat_cmp, is_eq, is_lt, eq_by_cmp, ordering_reverse}
use Rattle.std.specs.Str.{bytes_eq}
use Rattle.std.specs.declared.cmp.Ordering.{Ordering}
use Rattle.std.specs.declared.cmp.Ordering.TheVariants.{Less, Equal, Greater}
use Rattle.std.specs.Cmp.Lexicographic.{slice_cmp, nat_list_cmp_total, nat_list_eq_equiv}
use Rattle.std.specs.FinMap.{find, from_entries, from_sorted, entries, entries-from_sorted, get-from_entries, get-from_sorted, same_map, slice_cmp-IsAntisymmetric, nat_cmp-IsAntisymmetric}
use Rattle.std.specs.FinMap as map
use Rattle.std.proofs.lemmas.Map.Text.{is_eq-slice_cmp}
use Rattle.std.proofs.lemmas.Map.Keys.{IsDistinct-IsPermutation, apart_from_distinct}
use Rattle.std.proofs.lemmas.Map.Entries.{length-keys_of}
use Rattle.std.proofs.Math.ListN.{get_or-map}
use Rattle.std.proofs.lemmas.Map.Views.{Contains-from_lookup, lookup-from_Contains, tells_apart}
use Rattle.std.proofs.lemmas.List.{append-nil}
use Rattle.std.proofs.lemmas.List.Sorted.{Contains-permutation, IsPermutation-map, IsPermutation-sym}
use Rattle.curp_base.specs.Words.{KeysAscend}
use Rattle.curp_base.proofs.Rising.{ascend_from_rises}
use Rattle.curp_cmd.specs.Pairs.{Pair}
use Rattle.curp_cmd.specs.Store.{Contents}

abbrev pub order : List ℕ → List ℕ → Ordering
order = slice_cmp nat_cmp

-- the map of the pairs
abbrev pub map_of : List Pair → Contents
map_of pairs = from_entries {R = order} pairs

found_is : (pairs : List Pair) (key : List ℕ) → find order key pairs ≡ lookup (bytes_eq key) pairs
found_is [] key = refl
found_is (p ∷ pairs) key = rw (is_eq-slice_cmp key p.0, found_is pairs key) refl

-- a look-up in the hash map finds what the map has
pub get_is : (pairs : List Pair) (key : List ℕ) → map.get (map_of pairs) key ≡ lookup (bytes_eq key) pairs
get_is pairs key = get-from_entries nat_list_cmp_total pairs key ∙ found_is pairs key

same : (m n : Contents) → ((key : List ℕ) → map.get m key ≡ map.get n key) → m ≡ n
same m n is = same_map nat_list_cmp_total (slice_cmp-IsAntisymmetric nat_cmp-IsAntisymmetric) m n is

-- the test of a key from the other side
turned : (key q : List ℕ) → bytes_eq key q ≡ eq_by_cmp order q key
turned key q = nat_list_eq_equiv.symm key q ∙ sym (is_eq-slice_cmp q key)

-- w at the key, and at each other key what was there
abbrev pub Changes : List Pair → List Pair → List ℕ → Option (List ℕ) → Type 0
Changes old new key w = (q : List ℕ) → lookup (bytes_eq q) new ≡ cond (bytes_eq key q) w (lookup (bytes_eq q) old)

changed : (old new : List Pair) (key : List ℕ) (w : Option (List ℕ)) → Changes old new key w → (q : List ℕ) → map.get (map_of new) q ≡ cond (eq_by_cmp order q key) w (map.get (map_of old) q)
changed old new key w u q =
    get_is new q ∙ u q ∙ ap (λ (b : Bool). cond b w (lookup (bytes_eq q) old)) (turned key q) ∙ ap (cond (eq_by_cmp order q key) w) (sym (get_is old q))

pub map_put : (old new : List Pair) (key value : List ℕ) → Changes old new key (Some value) → map_of new ≡ map.insert (map_of old) key value
map_put old new key value u = same _ _ (λ q. changed old new key (Some value) u q ∙ sym (map.get-insert nat_list_cmp_total (map_of old) key value q))

pub map_without : (old new : List Pair) (key : List ℕ) → Changes old new key None → map_of new ≡ map.remove (map_of old) key
map_without old new key u = same _ _ (λ q. changed old new key None u q ∙ sym (map.get-remove nat_list_cmp_total (map_of old) key q))

pub map_reordered : (old new : List Pair) → ((q : List ℕ) → lookup (bytes_eq q) new ≡ lookup (bytes_eq q) old) → map_of new ≡ map_of old
map_reordered old new u = same _ _ (λ q. get_is new q ∙ u q ∙ sym (get_is old q))

-- ---- in order

pub all_taken : (taken left : List Pair) {all : List Pair} → taken ++ left ≡ all → left ≡ [] → taken ≡ all
all_taken taken left e none = sym (append-nil taken) ∙ ap (λ (ps : List Pair). taken ++ ps) (sym none) ∙ e

-- what is neither above the next nor the same is below it
below : (x y : List ℕ) → is_lt (order y x) ≡ false → bytes_eq x y ≡ false → order x y ≡ Less
below x y not_above apart = go (order x y) refl
  where
    go : (r : Ordering) → order x y ≡ r → r ≡ Less
    go Less e = refl
    go Equal e = let same : true ≡ false = sym (ap is_eq e) ∙ is_eq-slice_cmp x y ∙ apart in absurd cc
    go Greater e = let up : true ≡ false = sym (ap is_lt (nat_list_cmp_total.antisymm y x ∙ ap ordering_reverse e)) ∙ not_above in absurd cc

one_key : (x y : List ℕ) → bytes_eq x y ≡ true → x ≡ y
one_key x y e = tells_apart (slice_cmp-IsAntisymmetric nat_cmp-IsAntisymmetric) x y (is_eq-slice_cmp x y ∙ e)

module _ (xs ys : List Pair) (moved : IsPermutation xs ys) (distinct : IsDistinct bytes_eq (keys_of xs)) where
  still_distinct : IsDistinct bytes_eq (keys_of ys)
  still_distinct = IsDistinct-IsPermutation bytes_eq nat_list_eq_equiv.symm (keys_of xs) (keys_of ys) (IsPermutation-map (λ (p : Pair). p.0) xs ys moved) distinct

  apart_places : (k : ℕ) (d : Pair) → suc k < length ys → bytes_eq (get_or ys k d).0 (get_or ys (suc k) d).0 ≡ false
  apart_places k d l =
      let apart = apart_from_distinct bytes_eq (keys_of ys) k (suc k) d.0 still_distinct (omega arith) (omega (arith, length-keys_of ys)) in
      sym (cc (get_or-map (λ (p : Pair). p.0) ys k d, get_or-map (λ (p : Pair). p.0) ys (suc k) d)) ∙ apart

  -- what is found among the ones is found among the others
  same_found : (key : List ℕ) → lookup (bytes_eq key) ys ≡ lookup (bytes_eq key) xs
  same_found key = go (lookup (bytes_eq key) xs) refl (lookup (bytes_eq key) ys) refl
    where
      over : (v : List ℕ) → lookup (bytes_eq key) xs ≡ Some v → lookup (bytes_eq key) ys ≡ Some v
      over v e = lookup-from_Contains nat_list_eq_equiv key v ys still_distinct (Contains-permutation xs ys (key, v) moved (Contains-from_lookup one_key key v xs e))

      back : (v : List ℕ) → lookup (bytes_eq key) ys ≡ Some v → lookup (bytes_eq key) xs ≡ Some v
      back v e = lookup-from_Contains nat_list_eq_equiv key v xs distinct (Contains-permutation ys xs (key, v) (IsPermutation-sym xs ys moved) (Contains-from_lookup one_key key v ys e))

      go : (r : Option (List ℕ)) → lookup (bytes_eq key) xs ≡ r → (s : Option (List ℕ)) → lookup (bytes_eq key) ys ≡ s → lookup (bytes_eq key) ys ≡ lookup (bytes_eq key) xs
      go (Some v) e s f = over v e ∙ sym e
      go None e (Some v) f = f ∙ sym (back v f)
      go None e None f = f ∙ sym e

  module _ (sorted : IsSortedByKey (λ (p : Pair). p.0) order ys) where
    pub ascend_sorted : KeysAscend order ys
    ascend_sorted = ascend_from_rises order nat_list_cmp_total ys (λ k d l.
        below (get_or ys k d).0 (get_or ys (suc k) d).0
        (subst (λ (j : ℕ). is_lt (order (get_or ys j d).0 (get_or ys k d).0) ≡ false) (add-one k) (sorted k d (omega arith) (omega arith)))
        (apart_places k d l))

    pub entries_sorted_are : ys ≡ entries (map_of xs)
    entries_sorted_are =
        sym (entries-from_sorted order ys ascend_sorted)
        ∙ ap entries (same (from_sorted ys) (map_of xs) (λ q. get-from_sorted order ys q ascend_sorted ∙ found_is ys q ∙ same_found q ∙ sym (get_is xs q)))
