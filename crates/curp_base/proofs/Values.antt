-- Pairs in ascending order of their keys that are picked by their values, or get other values.
use Rattle.std.proofs.Common.{◌≡◌, ◌&&◌, Bool, true, false, cond, T, List, [], ◌∷◌, map, Option, Some, None, refl, ap, sym, subst}
use Rattle.std.specs.Cmp.{IsTotalOrder}
use Rattle.std.specs.FinMap.Entries.{find, below_all, is_sorted}
use Rattle.std.specs.List.{filter}
use Rattle.std.specs.Option.{option_map}
use Rattle.std.specs.Ordering.{eq_by_cmp, is_eq, is_lt}
use Rattle.std.specs.declared.cmp.Ordering.{Ordering}
use Rattle.std.specs.declared.cmp.Ordering.TheVariants.{Less, Equal, Greater}
use Rattle.curp_base.specs.Words.{KeysAscend}
use Rattle.curp_base.proofs.Rising.{both, is_less, left, right}

pub is_tied : (r : Ordering) → is_eq r ≡ true → r ≡ Equal
is_tied Less e = absurd cc
is_tied Equal e = refl
is_tied Greater e = absurd cc

-- the value, if it passes the test
abbrev pub passing : {V : Type 0} → (V → Bool) → Option V → Option V
passing p None = None
passing p (Some v) = cond (p v) (Some v) None

module _ {K V : Type 0} (R : K → K → Ordering) where
  -- ---- other values

  module _ {W : Type 0} (f : V → W) where
    below_values : (x : K) (es : List (K × V)) → below_all R x (map (λ (e : K × V). (e.0, f e.1)) es) ≡ below_all R x es
    below_values x [] = refl
    below_values x (e ∷ es) = ap (λ (b : Bool). is_lt (R x e.0) && b) (below_values x es)

    sorted_values : (es : List (K × V)) → is_sorted R (map (λ (e : K × V). (e.0, f e.1)) es) ≡ is_sorted R es
    sorted_values [] = refl
    sorted_values (e ∷ es) = λ i. below_values e.0 es i && sorted_values es i

    pub ascend_values : (es : List (K × V)) → KeysAscend R es → KeysAscend R (map (λ (e : K × V). (e.0, f e.1)) es)
    ascend_values es s = subst (λ (b : Bool). T b) (sym (sorted_values es)) s

    pub find_values : (k : K) (es : List (K × V)) → find R k (map (λ (e : K × V). (e.0, f e.1)) es) ≡ option_map f (find R k es)
    find_values k [] = refl
    find_values k (e ∷ es) = go (eq_by_cmp R k e.0) (find_values k es)
      where
        go : (b : Bool) → find R k (map (λ (e : K × V). (e.0, f e.1)) es) ≡ option_map f (find R k es)
            → cond b (Some (f e.1)) (find R k (map (λ (e : K × V). (e.0, f e.1)) es)) ≡ option_map f (cond b (Some e.1) (find R k es))
        go true rest = refl
        go false rest = rest

  -- ---- values that pass a test

  module _ (p : V → Bool) where
    below_passing : (x : K) (es : List (K × V)) → T (below_all R x es) → T (below_all R x (filter (λ (e : K × V). p e.1) es))
    below_passing x [] b = tt
    below_passing x (e ∷ es) b = go (p e.1) (below_passing x es (right _ _ b))
      where
        go : (t : Bool) → T (below_all R x (filter (λ (e : K × V). p e.1) es)) → T (below_all R x (cond t (e ∷ filter (λ (e : K × V). p e.1) es) (filter (λ (e : K × V). p e.1) es)))
        go true rest = both _ _ (left _ _ b) rest
        go false rest = rest

    pub ascend_passing : (es : List (K × V)) → KeysAscend R es → KeysAscend R (filter (λ (e : K × V). p e.1) es)
    ascend_passing [] s = tt
    ascend_passing (e ∷ es) s = go (p e.1) (ascend_passing es (right _ _ s))
      where
        go : (t : Bool) → KeysAscend R (filter (λ (e : K × V). p e.1) es) → KeysAscend R (cond t (e ∷ filter (λ (e : K × V). p e.1) es) (filter (λ (e : K × V). p e.1) es))
        go true rest = both _ _ (below_passing e.0 es (left _ _ s)) rest
        go false rest = rest

    module _ (o : IsTotalOrder R) where
      below_tied : (x y : K) (es : List (K × V)) → R x y ≡ Equal → T (below_all R y es) → T (below_all R x es)
      below_tied x y [] e b = tt
      below_tied x y (f ∷ es) e b = both _ _ (subst (λ (r : Ordering). T (is_lt r)) (sym (o.congr x y f.0 e)) (left _ _ b)) (below_tied x y es e (right _ _ b))

      find_below : (k : K) (es : List (K × V)) → T (below_all R k es) → find R k es ≡ None
      find_below k [] b = refl
      find_below k (e ∷ es) b = let apart : R k e.0 ≡ Less = is_less _ (left _ _ b) in rw apart (find_below k es (right _ _ b))

      pub find_passing : (k : K) (es : List (K × V)) → KeysAscend R es → find R k (filter (λ (e : K × V). p e.1) es) ≡ passing p (find R k es)
      find_passing k [] s = refl
      find_passing k (e ∷ es) s = go (eq_by_cmp R k e.0) refl (p e.1) refl (find_passing k es (right _ _ s))
        where
          go : (t : Bool) → eq_by_cmp R k e.0 ≡ t → (b : Bool) → p e.1 ≡ b → find R k (filter (λ (e : K × V). p e.1) es) ≡ passing p (find R k es)
              → find R k (cond b (e ∷ filter (λ (e : K × V). p e.1) es) (filter (λ (e : K × V). p e.1) es)) ≡ passing p (cond t (Some e.1) (find R k es))
          go true tied true passes rest = rw (tied, passes) refl
          go true tied false fails rest = rw fails (find_below k (filter (λ (e : K × V). p e.1) es) (below_passing k es (below_tied k e.0 es (is_tied _ tied) (left _ _ s))))
          go false apart true passes rest = rw apart rest
          go false apart false fails rest = rest
