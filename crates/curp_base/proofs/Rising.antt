-- The keys of a list rise if each is below the next.
use Rattle.std.proofs.Common.{◌≡◌, ℕ, zero, suc, ◌+◌, ◌-◌, ◌<◌, ◌≤◌, inl, inr, Bool, true, false, ◌&&◌, T, List, [], ◌∷◌, length, map, get_or, refl, ap, sym, subst, ◌∙◌, arith}
use Rattle.std.specs.Ordering.{is_lt, is_ge}
use Rattle.std.proofs.lemmas.Bool.{cases_lt}
use Rattle.std.proofs.lemmas.List.{get_or_default}
use Rattle.std.specs.Cmp.{IsTotalOrder}
use Rattle.std.specs.declared.cmp.Ordering.{Ordering}
use Rattle.std.specs.declared.cmp.Ordering.TheVariants.{Less, Equal, Greater}
use Rattle.std.specs.FinMap.Entries.{is_sorted, below_all}
use Rattle.curp_base.specs.Words.{KeysAscend}

pub both : (a b : Bool) → T a → T b → T (a && b)
both true b p q = q
both false b p q = p

-- tests that hold
pub left : (a b : Bool) → T (a && b) → T a
left true b h = tt
left false b h = absurd h

pub right : (a b : Bool) → T (a && b) → T b
right true b h = h
right false b h = absurd h

pub is_less : (r : Ordering) → T (is_lt r) → r ≡ Less
is_less Less h = refl
is_less Equal h = absurd h
is_less Greater h = absurd h

less_is : (r : Ordering) → r ≡ Less → T (is_lt r)
less_is r e = subst (λ (x : Ordering). T (is_lt x)) (sym e) tt

less_from_not_ge : (r : Ordering) → is_ge r ≡ false → r ≡ Less
less_from_not_ge Less e = refl
less_from_not_ge Equal e = absurd cc
less_from_not_ge Greater e = absurd cc

-- below a place each key is below the next
abbrev pub RisesTo : {K V : Type 0} → (K → K → Ordering) → List (K × V) → ℕ → Type 0
RisesTo {K} {V} R es n = (k : ℕ) (d : K × V) → suc k < n → R (get_or es k d).0 (get_or es (suc k) d).0 ≡ Less

module _ {K V : Type 0} (R : K → K → Ordering) (o : IsTotalOrder R) where
  below_less : (x y : K) (es : List (K × V)) → R x y ≡ Less → T (below_all R y es) → T (below_all R x es)
  below_less x y [] e h = tt
  below_less x y (f ∷ es) e h = both _ _ (less_is _ (o.trans x y f.0 e (is_less _ (left _ _ h)))) (below_less x y es e (right _ _ h))

  pub ascend_from_rises : (es : List (K × V)) → RisesTo R es (length es) → KeysAscend R es
  ascend_from_rises [] h = tt
  ascend_from_rises (e ∷ []) h = tt
  ascend_from_rises (e ∷ f ∷ es) h =
      let rest : T (is_sorted R (f ∷ es)) = ascend_from_rises (f ∷ es) (λ k d l. h (suc k) d (omega arith)) in
      let first : R e.0 f.0 ≡ Less = h 0 e (omega arith) in
      both _ _ (both _ _ (less_is _ first) (below_less e.0 f.0 es first (left _ _ rest))) rest

  pub rises_from_ascend : (es : List (K × V)) → KeysAscend R es → RisesTo R es (length es)
  rises_from_ascend [] s k d l = absurd (omega arith)
  rises_from_ascend (e ∷ []) s k d l = absurd (omega arith)
  rises_from_ascend (e ∷ f ∷ es) s zero d l = is_less _ (left _ _ (left _ _ s))
  rises_from_ascend (e ∷ f ∷ es) s (suc k) d l = rises_from_ascend (f ∷ es) (right _ _ s) k d (omega arith)

  -- the key at a place is below the one before it, or not
  pub rises_on : (es : List (K × V)) (at : ℕ) (a b : K × V) → 1 ≤ at → at < length es → RisesTo R es at → is_ge (R (get_or es (at - 1) a).0 (get_or es at b).0) ≡ false → RisesTo R es (at + 1)
  rises_on es at a b h l below e k d m = elim (cases_lt (suc k) at) [
    | inl n ↦ below k d n
    | inr n ↦
        let here : suc k ≡ at = omega arith in
        let before : k ≡ at - 1 = omega arith in
        subst (λ (x : K × V). R (get_or es k d).0 x.0 ≡ Less) (ap (λ (j : ℕ). get_or es j b) (sym here) ∙ get_or_default es (suc k) b d (omega arith))
        (subst (λ (x : K × V). R x.0 (get_or es at b).0 ≡ Less) (ap (λ (j : ℕ). get_or es j a) (sym before) ∙ get_or_default es k a d (omega arith)) (less_from_not_ge _ e))
  ]

  pub falls_on : (es : List (K × V)) (at : ℕ) (a b : K × V) → 1 ≤ at → at < length es → is_ge (R (get_or es (at - 1) a).0 (get_or es at b).0) ≡ true → KeysAscend R es → ⊥
  falls_on es at a b h l e s =
      let up : R (get_or es (at - 1) a).0 (get_or es (suc (at - 1)) a).0 ≡ Less = rises_from_ascend es s (at - 1) a (omega arith) in
      let here : suc (at - 1) ≡ at = omega arith in
      let same : get_or es (suc (at - 1)) a ≡ get_or es at b = ap (λ (j : ℕ). get_or es j a) here ∙ get_or_default es at a b l in
      let less : R (get_or es (at - 1) a).0 (get_or es at b).0 ≡ Less = subst (λ (x : K × V). R (get_or es (at - 1) a).0 x.0 ≡ Less) same up in
      let no : false ≡ true = sym (ap is_ge less) ∙ e in
      absurd cc

-- keys alone, as pairs with nothing
abbrev pub keyed : {K : Type 0} → List K → List (K × Unit {0})
keyed keys = map (λ key. (key, tt {0})) keys

pub keyed_at : {K : Type 0} (keys : List K) (i : ℕ) (d : K) → (get_or (keyed keys) i (d, tt {0})).0 ≡ get_or keys i d
keyed_at [] i d = refl
keyed_at (key ∷ keys) zero d = refl
keyed_at (key ∷ keys) (suc i) d = keyed_at keys i d

pub length-keyed : {K : Type 0} (keys : List K) → length (keyed keys) ≡ length keys
length-keyed [] = refl
length-keyed (key ∷ keys) = ap suc (length-keyed keys)

pub test_at : {K : Type 0} (R : K → K → Ordering) (keys : List K) (i j : ℕ) (a b : K) → a ≡ get_or keys i a → b ≡ get_or keys j b → is_ge (R (get_or (keyed keys) i (a, tt {0})).0 (get_or (keyed keys) j (b, tt {0})).0) ≡ is_ge (R a b)
test_at R keys i j a b e f = ap (λ k. is_ge (R k (get_or (keyed keys) j (b, tt {0})).0)) (keyed_at keys i a ∙ sym e) ∙ ap (λ k. is_ge (R a k)) (keyed_at keys j b ∙ sym f)
