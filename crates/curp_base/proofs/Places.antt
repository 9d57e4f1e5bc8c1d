-- Keys and pairs among those in ascending order.
use Rattle.std.proofs.Common.{◌≡◌, ℕ, zero, suc, ◌<◌, Bool, true, false, cond, T, List, [], ◌∷◌, length, get_or, set, Option, Some, None, is_some, Result, Ok, Err, IfOk, IfErr, refl, ap, sym, ◌∙◌, arith, add-one}
use Rattle.std.specs.Cmp.{IsTotalOrder}
use Rattle.std.specs.FinMap.Entries.{find, put, below_all, is_sorted-put}
use Rattle.std.specs.List.{insert}
use Rattle.std.specs.List.Sorted.{IsBinarySearchResult, IsSearchInRange, IsSortedBy}
use Rattle.std.specs.Ordering.{is_lt, ordering_reverse}
use Rattle.std.specs.declared.cmp.Ordering.{Ordering}
use Rattle.std.specs.declared.cmp.Ordering.TheVariants.{Less, Equal, Greater}
use Rattle.std.proofs.lemmas.List.Sorted.{searchable_from_sorted}
use Rattle.curp_base.specs.Words.{KeysAscend}
use Rattle.curp_base.proofs.Rising.{is_less, left, right}
use Rattle.curp_base.specs.Places.{IsKeyAt, IsKeyGap, put_once}

module _ {K : Type 0} (R : K → K → Ordering) (o : IsTotalOrder R) where
  less_back : (x y : K) → R x y ≡ Less → R y x ≡ Greater
  less_back x y e = o.antisymm y x ∙ ap ordering_reverse e

  equal_back : (x y : K) → R x y ≡ Equal → R y x ≡ Equal
  equal_back x y e = o.antisymm y x ∙ ap ordering_reverse e

  greater_back : (x y : K) → R x y ≡ Greater → R y x ≡ Less
  greater_back x y e = o.antisymm y x ∙ ap ordering_reverse e

  module _ {X : Type 0} where
    below_at : (x : K) (es : List (K × X)) (j : ℕ) (d : K × X) → T (below_all R x es) → j < length es → R x (get_or es j d).0 ≡ Less
    below_at x [] j d b l = absurd (omega arith)
    below_at x (e ∷ es) zero d b l = is_less _ (left _ _ b)
    below_at x (e ∷ es) (suc j) d b l = below_at x es j d (right _ _ b) (omega arith)

    pub less_at : (es : List (K × X)) (i j : ℕ) (d : K × X) → KeysAscend R es → i < j → j < length es → R (get_or es i d).0 (get_or es j d).0 ≡ Less
    less_at [] i j d s l m = absurd (omega arith)
    less_at (e ∷ es) zero zero d s l m = absurd (omega arith)
    less_at (e ∷ es) zero (suc j) d s l m = below_at e.0 es j d (left _ _ s) (omega arith)
    less_at (e ∷ es) (suc i) zero d s l m = absurd (omega arith)
    less_at (e ∷ es) (suc i) (suc j) d s l m = less_at es i j d (right _ _ s) (omega arith) (omega arith)

    ascend_sorted : (es : List (K × X)) → KeysAscend R es → IsSortedBy (λ (a b : K × X). is_lt (R a.0 b.0)) es
    ascend_sorted es s i d l h = rw add-one (ap is_lt (less_back (get_or es i d).0 (get_or es (suc i) d).0 (less_at es i (suc i) d s (omega arith) (omega arith))))

    lower_than : (es : List (K × X)) (key : K) (at k : ℕ) (d : K × X) → KeysAscend R es → at < length es → k < at → R (get_or es at d).0 key ≡ Equal → R (get_or es k d).0 key ≡ Less
    lower_than es key at k d s within l e =
        let below : R (get_or es k d).0 (get_or es at d).0 ≡ Less = less_at es k at d s l within in
        greater_back key (get_or es k d).0 (sym (o.congr (get_or es at d).0 key (get_or es k d).0 e) ∙ less_back _ _ below)

    -- a binary search by the key ends at its place, or in its gap
    pub searched : (es : List (K × X)) → KeysAscend R es → (key : K) (r : Result ℕ ℕ) → IsSearchInRange r (length es) → IsBinarySearchResult (λ (e : K × X). R e.0 key) es r
        → IfOk r (IsKeyAt R es key) × IfErr r (IsKeyGap R es key)
    searched es s key (Ok at) within equal = (record { within = within; lower = λ k d l. lower_than es key at k d s within l (equal d); equal = equal }, tt)
    searched es s key (Err at) within parted =
        let sides = parted (searchable_from_sorted o (λ (e : K × X). e.0) es key (ascend_sorted es s)) in
        (tt, record { within = within; lower = λ k d l. sides.0 k d (omega arith) l; higher = λ k d l h. sides.1 k d l h })

    at_tail : (e : K × X) (es : List (K × X)) (key : K) (at : ℕ) → IsKeyAt R (e ∷ es) key (suc at) → IsKeyAt R es key at
    at_tail e es key at p = record { within = omega (arith, p.within); lower = λ k d l. p.lower (suc k) d (omega arith); equal = λ d. p.equal d }

    gap_tail : (e : K × X) (es : List (K × X)) (key : K) (at : ℕ) → IsKeyGap R (e ∷ es) key (suc at) → IsKeyGap R es key at
    gap_tail e es key at g = record {
      within = omega (arith, g.within);
      lower = λ k d l. g.lower (suc k) d (omega arith);
      higher = λ k d l h. g.higher (suc k) d (omega arith) (omega arith);
    }

    gap_prefix : (e : K × X) (es : List (K × X)) (key : K) → IsKeyGap R (e ∷ es) key zero → IsKeyGap R es key zero
    gap_prefix e es key g = record { within = omega arith; lower = λ k d l. absurd (omega arith); higher = λ k d l h. g.higher (suc k) d (omega arith) (omega arith) }

    pub found_at : (es : List (K × X)) (key : K) (at : ℕ) (d : K × X) → IsKeyAt R es key at → find R key es ≡ Some (get_or es at d).1
    found_at [] key at d p = absurd (omega (arith, p.within))
    found_at (e ∷ es) key zero d p = let same : R key e.0 ≡ Equal = equal_back e.0 key (p.equal d) in rw same refl
    found_at (e ∷ es) key (suc at) d p =
        let apart : R key e.0 ≡ Greater = less_back e.0 key (p.lower 0 d (omega arith)) in
        rw apart (found_at es key at d (at_tail e es key at p))

    pub none_in_gap : (es : List (K × X)) (key : K) (at : ℕ) → IsKeyGap R es key at → find R key es ≡ None
    none_in_gap [] key at g = refl
    none_in_gap (e ∷ es) key zero g =
        let apart : R key e.0 ≡ Less = greater_back e.0 key (g.higher 0 e (omega arith) (omega arith)) in
        rw apart (none_in_gap es key zero (gap_prefix e es key g))
    none_in_gap (e ∷ es) key (suc at) g =
        let apart : R key e.0 ≡ Greater = less_back e.0 key (g.lower 0 e (omega arith)) in
        rw apart (none_in_gap es key at (gap_tail e es key at g))

    pub put_in_gap : (es : List (K × X)) (key : K) (x : X) (at : ℕ) → IsKeyGap R es key at → insert es at (key, x) ≡ put R key x es
    put_in_gap [] key x zero g = refl
    put_in_gap [] key x (suc at) g = absurd (omega (arith, g.within))
    put_in_gap (e ∷ es) key x zero g = let apart : R key e.0 ≡ Less = greater_back e.0 key (g.higher 0 e (omega arith) (omega arith)) in rw apart refl
    put_in_gap (e ∷ es) key x (suc at) g =
        let apart : R key e.0 ≡ Greater = less_back e.0 key (g.lower 0 e (omega arith)) in
        rw apart (ap (λ (fs : List (K × X)). e ∷ fs) (put_in_gap es key x at (gap_tail e es key at g)))

    pub put_at : (es : List (K × X)) (key : K) (x : X) (at : ℕ) (d : K × X) → IsKeyAt R es key at → set es at ((get_or es at d).0, x) ≡ put R key x es
    put_at [] key x at d p = absurd (omega (arith, p.within))
    put_at (e ∷ es) key x zero d p = let same : R key e.0 ≡ Equal = equal_back e.0 key (p.equal d) in rw same refl
    put_at (e ∷ es) key x (suc at) d p =
        let apart : R key e.0 ≡ Greater = less_back e.0 key (p.lower 0 d (omega arith)) in
        rw apart (ap (λ (fs : List (K × X)). e ∷ fs) (put_at es key x at d (at_tail e es key at p)))

    pub once_in_gap : (es : List (K × X)) (key : K) (x : X) (at : ℕ) → IsKeyGap R es key at → insert es at (key, x) ≡ put_once R key x es
    once_in_gap es key x at g = put_in_gap es key x at g ∙ ap (λ (f : Option X). cond (is_some f) es (put R key x es)) (sym (none_in_gap es key at g))

    pub once_at : (es : List (K × X)) (key : K) (x : X) (at : ℕ) (d : K × X) → IsKeyAt R es key at → es ≡ put_once R key x es
    once_at es key x at d p = ap (λ (f : Option X). cond (is_some f) es (put R key x es)) (sym (found_at es key at d p))

    pub ascend_once : (es : List (K × X)) (key : K) (x : X) → KeysAscend R es → KeysAscend R (put_once R key x es)
    ascend_once es key x s = go (is_some (find R key es))
      where
        go : (b : Bool) → KeysAscend R (cond b es (put R key x es))
        go true = s
        go false = is_sorted-put R o key x es s
