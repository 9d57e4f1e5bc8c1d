-- Stores at one key, as pairs come and go.
use Rattle.std.proofs.Common.{◌≡◌, ℕ, Bool, true, false, cond, ◌&&◌, ◌||◌, T, List, [], ◌∷◌, fold, map as each, Option, Some, None, is_some, refl, ap, sym, ◌∙◌}
use Rattle.std.specs.List.{filter}
use Rattle.std.specs.Ordering.{eq_by_cmp, is_eq, is_lt}
use Rattle.std.specs.declared.cmp.Ordering.{Ordering}
use Rattle.std.specs.declared.cmp.Ordering.TheVariants.{Less, Equal, Greater}
use Rattle.std.specs.Cmp.Lexicographic.{nat_list_cmp_total}
use Rattle.std.specs.FinMap.{slice_cmp-IsAntisymmetric, nat_cmp-IsAntisymmetric}
use Rattle.std.specs.FinMap as map
use Rattle.std.specs.FinMap.Entries.{find, below_all, is_some-find, is_sorted-where_key, find-where_key}
use Rattle.std.proofs.lemmas.Map.Views.{tells_apart}
use Rattle.curp_cmd.specs.Hash.{hash_of}
use Rattle.curp_cmd.specs.Pairs.{Pair}
use Rattle.curp_cmd.specs.Store.{Contents, with_pairs}
use Rattle.curp_range.specs.Spans.{is_in}
use Rattle.curp_model.specs.Log.{is_pair_in, without_keys}
use Rattle.curp_law_kept.specs.GivesFit.{PairsAscend, PairsWithin}
use Rattle.curp_cmd.proofs.Apart.{order, among, with_pairs-other}

first : (a b : Bool) → T (a && b) → T a
first true b t = tt
first false b t = absurd t

second : (a b : Bool) → T (a && b) → T b
second true b t = t
second false b t = absurd t

not_equal : (r : Ordering) → T (is_lt r) → is_eq r ≡ false
not_equal Less t = refl
not_equal Equal t = absurd t
not_equal Greater t = absurd t

-- a key below all others is none of them
below_absent : (q : List ℕ) (ps : List Pair) → T (below_all order q ps) → find order q ps ≡ None
below_absent q [] below = refl
below_absent q (p ∷ ps) below =
    ap (λ (b : Bool). cond b (Some p.1) (find order q ps)) (not_equal (order q p.0) (first _ _ below)) ∙ below_absent q ps (second _ _ below)

-- the first that is there
abbrev pub over : Option (List ℕ) → Option (List ℕ) → Option (List ℕ)
over None o = o
over (Some v) o = Some v

-- ---- pairs come

-- the value of a key behind pairs in ascending order
pub get_with_pairs : (ps : List Pair) (s : Contents) (q : List ℕ) → PairsAscend ps → map.get (with_pairs s ps) q ≡ over (find order q ps) (map.get s q)
get_with_pairs [] s q sorted = refl
get_with_pairs (p ∷ ps) s q sorted =
    get_with_pairs ps (map.insert s p.0 p.1) q (second _ _ sorted) ∙ ap (over (find order q ps)) (map.get-insert nat_list_cmp_total s p.0 p.1 q) ∙ go (eq_by_cmp order q p.0) refl
  where
    go : (b : Bool) → eq_by_cmp order q p.0 ≡ b → over (find order q ps) (cond b (Some p.1) (map.get s q)) ≡ over (cond b (Some p.1) (find order q ps)) (map.get s q)
    go true e =
        let same : q ≡ p.0 = tells_apart (slice_cmp-IsAntisymmetric nat_cmp-IsAntisymmetric) q p.0 e in
        ap (λ (o : Option (List ℕ)). over o (Some p.1)) (ap (λ (k : List ℕ). find order k ps) same ∙ below_absent p.0 ps (first _ _ sorted))
    go false e = refl

-- no pair has a key outside their range
pub outside_absent : (lo hi : ℕ) (q : List ℕ) (ps : List Pair) → PairsWithin lo hi ps → is_in lo hi (hash_of q) ≡ false → among q (each (λ (p : Pair). p.0) ps) ≡ false
outside_absent lo hi q [] within out = refl
outside_absent lo hi q (p ∷ ps) within out = go (eq_by_cmp order q p.0) refl (outside_absent lo hi q ps within.1 out)
  where
    go : (b : Bool) → eq_by_cmp order q p.0 ≡ b → among q (each (λ (p : Pair). p.0) ps) ≡ false → (b || among q (each (λ (p : Pair). p.0) ps)) ≡ false
    go true e ih =
        let same : q ≡ p.0 = tells_apart (slice_cmp-IsAntisymmetric nat_cmp-IsAntisymmetric) q p.0 e in
        absurd (cc (within.0, out, ap (λ (k : List ℕ). is_in lo hi (hash_of k)) same))
    go false e ih = ih

-- pairs of a range leave the values of other keys
pub get_with_others : (lo hi : ℕ) (ps : List Pair) (s : Contents) (q : List ℕ) → PairsWithin lo hi ps → is_in lo hi (hash_of q) ≡ false → map.get (with_pairs s ps) q ≡ map.get s q
get_with_others lo hi ps s q within out = with_pairs-other ps s q (outside_absent lo hi q ps within out)

-- ---- pairs go

get_removed : (ps : List Pair) (s : Contents) (q : List ℕ)
    → map.get (fold (λ (kept : Contents) (p : Pair). map.remove kept p.0) s ps) q ≡ cond (among q (each (λ (p : Pair). p.0) ps)) None (map.get s q)
get_removed [] s q = refl
get_removed (p ∷ ps) s q =
    get_removed ps (map.remove s p.0) q ∙ ap (cond (among q (each (λ (p : Pair). p.0) ps)) None) (map.get-remove nat_list_cmp_total s p.0 q)
    ∙ go (eq_by_cmp order q p.0) (among q (each (λ (p : Pair). p.0) ps))
  where
    go : (a b : Bool) → cond b None (cond a None (map.get s q)) ≡ cond (a || b) None (map.get s q)
    go true true = refl
    go true false = refl
    go false b = refl

-- whether a key is in a range doesn't depend on which of two equal keys is asked
same_range : (lo hi : ℕ) (q x : List ℕ) → order q x ≡ Equal → is_in lo hi (hash_of x) ≡ is_in lo hi (hash_of q)
same_range lo hi q x e = ap (λ (k : List ℕ). is_in lo hi (hash_of k)) (sym (slice_cmp-IsAntisymmetric nat_cmp-IsAntisymmetric q x e))

-- the pairs of a range are those of the store
pub find_in_range : (s : Contents) (lo hi : ℕ) (q : List ℕ) → find order q (filter (is_pair_in lo hi) (map.entries s)) ≡ cond (is_in lo hi (hash_of q)) (map.get s q) None
find_in_range s lo hi q =
    find-where_key order (λ k. is_in lo hi (hash_of k)) q (same_range lo hi q) (map.entries s) ∙ ap (λ (o : Option (List ℕ)). cond (is_in lo hi (hash_of q)) o None) (sym (map.get-entries s q))

-- their keys ascend
pub range_ascends : (s : Contents) (lo hi : ℕ) → PairsAscend (filter (is_pair_in lo hi) (map.entries s))
range_ascends s lo hi = is_sorted-where_key order (λ k. is_in lo hi (hash_of k)) (map.entries s) (map.entries_sorted s)

-- and lie in the range
pub range_within : (lo hi : ℕ) (ps : List Pair) → PairsWithin lo hi (filter (is_pair_in lo hi) ps)
range_within lo hi [] = tt
range_within lo hi (p ∷ ps) = go (is_in lo hi (hash_of p.0)) refl (range_within lo hi ps)
  where
    go : (b : Bool) → is_in lo hi (hash_of p.0) ≡ b → PairsWithin lo hi (filter (is_pair_in lo hi) ps) → PairsWithin lo hi (cond b (p ∷ filter (is_pair_in lo hi) ps) (filter (is_pair_in lo hi) ps))
    go true e rest = (e, rest)
    go false e rest = rest

-- a store without a range
pub get_without_keys : (s : Contents) (lo hi : ℕ) (q : List ℕ) → map.get (without_keys s lo hi) q ≡ cond (is_in lo hi (hash_of q)) None (map.get s q)
get_without_keys s lo hi q =
    get_removed (filter (is_pair_in lo hi) (map.entries s)) s q
    ∙ ap (λ (b : Bool). cond b None (map.get s q)) (sym (is_some-find order q (filter (is_pair_in lo hi) (map.entries s))) ∙ ap is_some (find_in_range s lo hi q))
    ∙ go (is_in lo hi (hash_of q)) (map.get s q)
  where
    go : (b : Bool) (o : Option (List ℕ)) → cond (is_some (cond b o None)) None o ≡ cond b None o
    go true None = refl
    go true (Some v) = refl
    go false o = refl
