-- What stands in lists, and what filters keep.
use Rattle.std.proofs.Common.{◌≡◌, ◌<◌, ◌+◌, ◌||◌, ◌⊎◌, take, drop, ℕ, zero, suc, Bool, true, false, cond, List, [], ◌∷◌, ◌++◌, length, Some, refl, ap, sym, ◌∙◌, arith, inl, inr}
use Rattle.std.specs.List.{filter, list_any}
use Rattle.curp_base.specs.Words.{At, Each}
use Rattle.curp_base.proofs.Lists.{Each-at, Each-from_at, at_append, at_append_cases, at_append_right}
use Rattle.curp_cmd.specs.RequestId.{same_id}
use Rattle.curp_cmd.specs.declared.command.RequestId.{RequestId}
use Rattle.curp_cmd.proofs.Ids.{same_id-self}
use Rattle.curp_law_kept.specs.Hashes.{In}
use Rattle.curp_order.specs.Order.{Asked}

pub same_id-alike : (a b : RequestId) → a ≡ b → same_id a b ≡ true
same_id-alike a b same = ap (same_id a) (sym same) ∙ same_id-self a

pub some_same : {A : Type 0} {a b : A} → Some a ≡ Some b → a ≡ b
some_same e = cc

pub in_left : {A : Type 0} (xs ys : List A) (x : A) → In x xs → In x (xs ++ ys)
in_left xs ys x m = (m.0, at_append xs ys m.0 x m.1)

pub in_right : {A : Type 0} (xs ys : List A) (x : A) → In x ys → In x (xs ++ ys)
in_right xs ys x m = (length xs + m.0, at_append_right xs ys m.0 _ x refl m.1)

pub in_cases : {A : Type 0} (xs ys : List A) (x : A) → In x (xs ++ ys) → In x xs ⊎ In x ys
in_cases xs ys x m = elim (at_append_cases xs ys m.0 x m.1) [ inl h ↦ inl (m.0, h) | inr h ↦ inr (h.0, h.2) ]

pub in_head : {A : Type 0} (x : A) (xs : List A) → In x (x ∷ xs)
in_head x xs = (0, refl)

pub in_tail : {A : Type 0} (x y : A) (xs : List A) → In x xs → In x (y ∷ xs)
in_tail x y xs m = (suc m.0, m.1)

pub in_none : {A : Type 0} (x : A) (P : Type 0) → In x [] → P
in_none x P m = absurd (cc (m.1))

pub in_cons : {A : Type 0} (x y : A) (xs : List A) → In x (y ∷ xs) → (y ≡ x) ⊎ In x xs
in_cons x y xs m = go m.0 m.1
  where
    go : (k : ℕ) → At (y ∷ xs) k x → (y ≡ x) ⊎ In x xs
    go zero h = inl (cc)
    go (suc k) h = inr (k, h)

pub in_filter : {A : Type 0} (p : A → Bool) (xs : List A) (x : A) → In x xs → p x ≡ true → In x (filter p xs)
in_filter p [] x m t = absurd (cc (m.1))
in_filter p (y ∷ xs) x m t = elim (in_cons x y xs m) [
  | inl same ↦ let u : p y ≡ true = ap p same ∙ t in rw u (0, ap (λ z. Some z) same)
  | inr later ↦ keep (p y) (in_filter p xs x later t)
]
  where
    keep : (b : Bool) → In x (filter p xs) → In x (cond b (y ∷ filter p xs) (filter p xs))
    keep true r = in_tail x y _ r
    keep false r = r

pub from_filter : {A : Type 0} (p : A → Bool) (xs : List A) (x : A) → In x (filter p xs) → In x xs × (p x ≡ true)
from_filter p [] x m = absurd (cc (m.1))
from_filter p (y ∷ xs) x m = go (p y) refl m (from_filter p xs x)
  where
    go : (b : Bool) → p y ≡ b → In x (cond b (y ∷ filter p xs) (filter p xs)) → (In x (filter p xs) → In x xs × (p x ≡ true)) → In x (y ∷ xs) × (p x ≡ true)
    go true e r ih = elim (in_cons x y (filter p xs) r) [
      | inl same ↦ ((0, ap (λ z. Some z) same), ap p (sym same) ∙ e)
      | inr later ↦ let s = ih later in (in_tail x y xs s.0, s.1)
    ]
    go false e r ih = let s = ih r in (in_tail x y xs s.0, s.1)

pub filter_swap : {A : Type 0} (p q : A → Bool) (xs : List A) → filter p (filter q xs) ≡ filter q (filter p xs)
filter_swap p q [] = refl
filter_swap p q (x ∷ xs) = go (p x) (q x) refl refl (filter_swap p q xs)
  where
    go : (a b : Bool) → p x ≡ a → q x ≡ b → filter p (filter q xs) ≡ filter q (filter p xs) → filter p (cond (q x) (x ∷ filter q xs) (filter q xs)) ≡ filter q (cond (p x) (x ∷ filter p xs) (filter p xs))
    go true true e f ih = simp (e, f) (ap (λ w. x ∷ w) ih)
    go true false e f ih = simp (e, f) ih
    go false true e f ih = simp (e, f) ih
    go false false e f ih = simp (e, f) ih

pub filter_alike : {A : Type 0} (p q : A → Bool) (xs : List A) → ((x : A) → In x xs → p x ≡ q x) → filter p xs ≡ filter q xs
filter_alike p q [] f = refl
filter_alike p q (x ∷ xs) f = rw (f x (in_head x xs)) (ap (λ w. cond (q x) (x ∷ w) w) (filter_alike p q xs (λ y m. f y (in_tail y x xs m))))

pub filter_full : {A : Type 0} (p : A → Bool) (xs : List A) → ((x : A) → In x xs → p x ≡ true) → filter p xs ≡ xs
filter_full p [] f = refl
filter_full p (x ∷ xs) f = rw (f x (in_head x xs)) (ap (λ w. x ∷ w) (filter_full p xs (λ y m. f y (in_tail y x xs m))))

pub empty_list : {A : Type 0} (xs : List A) → ((x : A) → In x xs → ⊥) → xs ≡ []
empty_list [] f = refl
empty_list (x ∷ xs) f = absurd (f x (in_head x xs))

pub some_or_none : {A : Type 0} (xs : List A) → (xs ≡ []) ⊎ ((q : A) × In q xs)
some_or_none [] = inl refl
some_or_none (x ∷ xs) = inr (x, in_head x xs)

-- an item with what stands before it and behind it
pub take_split : {A : Type 0} (xs : List A) (k : ℕ) (x : A) → At xs k x → xs ≡ take k xs ++ x ∷ drop (suc k) xs
take_split [] k x h = absurd cc
take_split (y ∷ xs) zero x h = let same : y ≡ x = cc in ap (λ z. z ∷ xs) same
take_split (y ∷ xs) (suc k) x h = ap (λ l. y ∷ l) (take_split xs k x h)

-- a filter that keeps what passes another
pub filter_within : {A : Type 0} (p q : A → Bool) (xs : List A) → ((x : A) → p x ≡ true → q x ≡ true) → filter p (filter q xs) ≡ filter p xs
filter_within p q [] f = refl
filter_within {A} p q (x ∷ xs) f = go (q x) (p x) refl refl (filter_within p q xs f)
  where
    go : (b c : Bool) → q x ≡ b → p x ≡ c → filter p (filter q xs) ≡ filter p xs → filter p (cond b (x ∷ filter q xs) (filter q xs)) ≡ cond c (x ∷ filter p xs) (filter p xs)
    go true true e g ih = ap (λ (d : Bool). cond d (x ∷ filter p (filter q xs)) (filter p (filter q xs))) g ∙ ap (λ (l : List A). x ∷ l) ih
    go true false e g ih = ap (λ (d : Bool). cond d (x ∷ filter p (filter q xs)) (filter p (filter q xs))) g ∙ ih
    go false true e g ih = absurd (let bad : false ≡ true = sym e ∙ f x g in cc)
    go false false e g ih = ih

-- what stands in front of a place
pub at_take_in : {A : Type 0} (n : ℕ) (xs : List A) (k : ℕ) (x : A) → At xs k x → k < n → At (take n xs) k x
at_take_in zero xs k x h lt = absurd (omega (arith, lt))
at_take_in (suc n) [] k x h lt = absurd cc
at_take_in (suc n) (y ∷ xs) zero x h lt = h
at_take_in (suc n) (y ∷ xs) (suc k) x h lt = at_take_in n xs k x h (omega (arith, lt))

-- where nothing passes a wider test, nothing passes a narrower one
pub none_narrower : {A : Type 0} (p q : A → Bool) (xs : List A) → ((x : A) → p x ≡ true → q x ≡ true) → list_any q xs ≡ false → list_any p xs ≡ false
none_narrower p q [] f none = refl
none_narrower p q (x ∷ xs) f none = go (p x) (q x) refl refl none (λ e. none_narrower p q xs f e)
  where
    go : (a b : Bool) → p x ≡ a → q x ≡ b → (b || list_any q xs) ≡ false → (list_any q xs ≡ false → list_any p xs ≡ false) → (a || list_any p xs) ≡ false
    go true true e g n ih = absurd (let bad : true ≡ false = n in cc)
    go true false e g n ih = absurd (let bad : false ≡ true = sym g ∙ f x e in cc)
    go false true e g n ih = absurd (let bad : true ≡ false = n in cc)
    go false false e g n ih = ih n

-- ---- lists in which each id stands once

-- no id stands twice
abbrev pub Distinct : List Asked → Type 0
Distinct [] = Unit {0}
Distinct (x ∷ xs) = Each (λ y. x.0 ≡ y.0 → ⊥) xs × Distinct xs

-- a list of distinct requests that are all one
pub only_one : (xs : List Asked) (q : Asked) → Distinct xs → In q xs → ((x : Asked) → In x xs → x ≡ q) → xs ≡ q ∷ []
only_one [] q d m f = absurd (cc (m.1))
only_one (x ∷ xs) q d m f =
    let none : xs ≡ [] = empty_list xs (λ y n. Each-at _ xs d.0 n.0 y n.1 (ap (λ (o : Asked). o.0) (f x (in_head x xs) ∙ sym (f y (in_tail y x xs n))))) in
    ap (λ w. x ∷ w) none ∙ ap (λ z. z ∷ []) (f x (in_head x xs))

pub distinct_filter : (p : Asked → Bool) (xs : List Asked) → Distinct xs → Distinct (filter p xs)
distinct_filter p [] d = tt
distinct_filter p (x ∷ xs) d = go (p x) (distinct_filter p xs d.1)
  where
    go : (b : Bool) → Distinct (filter p xs) → Distinct (cond b (x ∷ filter p xs) (filter p xs))
    go true r = (Each-from_at _ (filter p xs) (λ k y h. let m = (from_filter p xs y (k, h)).0 in Each-at _ xs d.0 m.0 y m.1), r)
    go false r = r

pub distinct_from : (xs : List Asked) → ((j k : ℕ) (x y : Asked) → At xs j x → At xs k y → x.0 ≡ y.0 → j ≡ k) → Distinct xs
distinct_from [] f = tt
distinct_from (x ∷ xs) f = (
  Each-from_at _ xs (λ k y h same. absurd (let e : 0 ≡ suc k = f 0 (suc k) x y refl h same in omega arith)),
  distinct_from xs (λ j k y z h g same. let e : suc j ≡ suc k = f (suc j) (suc k) y z h g same in omega arith),
)

pub distinct_places : (xs : List Asked) → Distinct xs → (j k : ℕ) (x y : Asked) → At xs j x → At xs k y → x.0 ≡ y.0 → j ≡ k
distinct_places [] d j k x y h g same = absurd cc
distinct_places (z ∷ xs) d zero zero x y h g same = refl
distinct_places (z ∷ xs) d zero (suc k) x y h g same = absurd (Each-at _ xs d.0 k y g (let e : z ≡ x = cc in ap (λ (o : Asked). o.0) e ∙ same))
distinct_places (z ∷ xs) d (suc j) zero x y h g same = absurd (Each-at _ xs d.0 j x h (let e : z ≡ y = cc in ap (λ (o : Asked). o.0) e ∙ sym same))
distinct_places (z ∷ xs) d (suc j) (suc k) x y h g same = ap suc (distinct_places xs d.1 j k x y h g same)

-- ---- any

pub or_none : (b : Bool) → (b || (false || false)) ≡ b
or_none true = refl
or_none false = refl

pub in_any : {A : Type 0} (p : A → Bool) (xs : List A) (x : A) → In x xs → p x ≡ true → list_any p xs ≡ true
in_any p [] x m t = absurd (cc (m.1))
in_any p (y ∷ xs) x m t = elim (in_cons x y xs m) [
  | inl same ↦ let u : p y ≡ true = ap p same ∙ t in rw u refl
  | inr later ↦ go (p y) (in_any p xs x later t)
]
  where
    go : (b : Bool) → list_any p xs ≡ true → (b || list_any p xs) ≡ true
    go true e = refl
    go false e = e
