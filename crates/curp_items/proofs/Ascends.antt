-- A key above the last one goes on with an ascending list.
use Rattle.std.proofs.Common.{◌≡◌, ℕ, Bool, true, false, ◌&&◌, T, List, [], ◌∷◌, ◌++◌, map, Option, Some, None, refl, sym, ap, subst, ◌∙◌}
use Rattle.std.specs.Prelude.{IfSome, option_map}
use Rattle.std.specs.Ordering.{is_lt}
use Rattle.std.specs.Cmp.{IsTotalOrder}
use Rattle.std.specs.declared.cmp.Ordering.{Ordering}
use Rattle.std.specs.declared.cmp.Ordering.TheVariants.{Less, Equal, Greater}
use Rattle.std.specs.FinMap.Entries.{is_sorted, below_all}
use Rattle.std.proofs.lemmas.List.{map_push}
use Rattle.curp_base.specs.Words.{Ascend, KeysAscend, last_of}
use Rattle.curp_base.proofs.Rising.{is_less, keyed, left, right}

both : (a b : Bool) → T a → T b → T (a && b)
both true b p q = q
both false b p q = p

less_is : (r : Ordering) → r ≡ Less → T (is_lt r)
less_is r e = subst (λ (x : Ordering). T (is_lt x)) (sym e) tt

module _ {K V : Type 0} (R : K → K → Ordering) (o : IsTotalOrder R) where
  -- what is below all of a list is below what is above its last
  below_more : (k : K) (f : K × V) (es : List (K × V)) (p : K × V) → T (below_all R k (f ∷ es)) → KeysAscend R (f ∷ es) → ((l : K × V) → last_of (f ∷ es) ≡ Some l → R l.0 p.0 ≡ Less) → T (below_all R k ((f ∷ es) ++ p ∷ []))
  below_more k f [] p b s l = both _ _ (left _ _ b) (both _ _ (less_is _ (o.trans k f.0 p.0 (is_less _ (left _ _ b)) (l f refl))) tt)
  below_more k f (e ∷ es) p b s l = both _ _ (left _ _ b) (below_more k e es p (right _ _ b) (right _ _ s) l)

  pub ascend-push : (es : List (K × V)) (p : K × V) → KeysAscend R es → ((l : K × V) → last_of es ≡ Some l → R l.0 p.0 ≡ Less) → KeysAscend R (es ++ p ∷ [])
  ascend-push [] p s l = tt
  ascend-push (e ∷ []) p s l = both _ _ (both _ _ (less_is _ (l e refl)) tt) tt
  ascend-push (e ∷ f ∷ es) p s l = both _ _ (below_more e.0 f es p (left _ _ s) (right _ _ s) l) (ascend-push (f ∷ es) p (right _ _ s) l)

  -- the same, where the last key is known
  pub pairs_on : (es : List (K × V)) (last : Option K) (k : K) (v : V) → KeysAscend R es → last ≡ option_map (λ p. p.0) (last_of es) → IfSome last (λ l. R l k ≡ Less) → KeysAscend R (es ++ (k, v) ∷ [])
  pairs_on es last k v s e h = ascend-push es (k, v) s (λ l f.
      let known : last ≡ Some l.0 = e ∙ ap (option_map (λ p. p.0)) f in
      subst (λ (x : Option K). IfSome x (λ m. R m k ≡ Less)) known h)

module _ {K : Type 0} (R : K → K → Ordering) where
  last-keyed : (keys : List K) → last_of (keyed keys) ≡ option_map (λ k. (k, tt {0})) (last_of keys)
  last-keyed [] = refl
  last-keyed (k ∷ []) = refl
  last-keyed (k ∷ l ∷ rest) = last-keyed (l ∷ rest)

module _ {K : Type 0} (R : K → K → Ordering) (o : IsTotalOrder R) where
  key_of_last : (last : Option K) → last ≡ option_map (λ (p : K × Unit {0}). p.0) (option_map (λ k. (k, tt {0})) last)
  key_of_last None = refl
  key_of_last (Some k) = refl

  pub keys_on : (keys : List K) (last : Option K) (k : K) → Ascend R keys → last ≡ last_of keys → IfSome last (λ l. R l k ≡ Less) → Ascend R (keys ++ k ∷ [])
  keys_on keys last k s e h =
      let pushed : keyed (keys ++ k ∷ []) ≡ keyed keys ++ (k, tt {0}) ∷ [] = map_push (λ key. (key, tt {0})) keys k in
      let known : last ≡ option_map (λ (p : K × Unit {0}). p.0) (last_of (keyed keys)) = e ∙ key_of_last (last_of keys) ∙ ap (option_map (λ (p : K × Unit {0}). p.0)) (sym (last-keyed R keys)) in
      subst (KeysAscend R) (sym pushed) (pairs_on R o (keyed keys) last k tt s known h)

-- ---- prefixes, and the last key

module _ {K V : Type 0} (R : K → K → Ordering) where
  below-prefix : (k : K) (xs ys : List (K × V)) → T (below_all R k (xs ++ ys)) → T (below_all R k xs)
  below-prefix k [] ys b = tt
  below-prefix k (x ∷ xs) ys b = both _ _ (left _ _ b) (below-prefix k xs ys (right _ _ b))

  pub ascend-prefix : (xs ys : List (K × V)) → KeysAscend R (xs ++ ys) → KeysAscend R xs
  ascend-prefix [] ys s = tt
  ascend-prefix (x ∷ xs) ys s = both _ _ (below-prefix x.0 xs ys (left _ _ s)) (ascend-prefix xs ys (right _ _ s))

  pub ascend-last : (es : List (K × V)) (p l : K × V) → KeysAscend R (es ++ p ∷ []) → last_of es ≡ Some l → R l.0 p.0 ≡ Less
  ascend-last [] p l s e = absurd cc
  ascend-last (f ∷ []) p l s e =
      let same : f ≡ l = cc in
      subst (λ (x : K × V). R x.0 p.0 ≡ Less) same (is_less _ (left _ _ (left _ _ s)))
  ascend-last (f ∷ g ∷ es) p l s e = ascend-last (g ∷ es) p l (right _ _ s) e

module _ {K : Type 0} (R : K → K → Ordering) where
  keyed-append : (xs ys : List K) → keyed (xs ++ ys) ≡ keyed xs ++ keyed ys
  keyed-append [] ys = refl
  keyed-append (x ∷ xs) ys = ap (λ (r : List (K × Unit {0})). (x, tt {0}) ∷ r) (keyed-append xs ys)

  pub keys-prefix : (xs ys : List K) → Ascend R (xs ++ ys) → Ascend R xs
  keys-prefix xs ys s = ascend-prefix R (keyed xs) (keyed ys) (subst (KeysAscend R) (keyed-append xs ys) s)

  pub keys-last : (keys : List K) (k l : K) → Ascend R (keys ++ k ∷ []) → last_of keys ≡ Some l → R l k ≡ Less
  keys-last keys k l s e =
      ascend-last R (keyed keys) (k, tt {0}) (l, tt {0}) (subst (KeysAscend R) (keyed-append keys (k ∷ [])) s) (last-keyed R keys ∙ ap (option_map (λ k. (k, tt {0}))) e)
