-- What stands among items of a list.
use Rattle.std.proofs.Common.{◌≡◌, ◌⊎◌, inl, inr, ℕ, zero, suc, Bool, true, false, cond, List, [], ◌∷◌, ◌++◌, map, refl, ap, sym, ◌∙◌, subst}
use Rattle.std.specs.BTreeSet.{insert_key}
use Rattle.std.specs.List.{filter, flat_map, list_all}
use Rattle.std.specs.FinMap.{nat_cmp-IsAntisymmetric}
use Rattle.std.specs.Ordering.{match_ordering, nat_cmp}
use Rattle.std.specs.declared.cmp.Ordering.{Ordering}
use Rattle.std.specs.declared.cmp.Ordering.TheVariants.{Less, Equal, Greater}
use Rattle.std.proofs.lemmas.Bool.{and_from}
use Rattle.curp_base.specs.Words.{At, Each}
use Rattle.curp_base.proofs.Lists.{Each-at, at_append, at_append_right, at_map}
use Rattle.curp_facts.specs.Facts.{IsAmong}

none_at : {A : Type 0} (xs : List A) (x : A) (k : ℕ) → xs ≡ [] → At xs k x → ⊥
none_at [] x k e h = cc
none_at (y ∷ ys) x k e h = absurd cc

pub among_none : {A : Type 0} (x : A) → IsAmong x [] → ⊥
among_none {A} x a = none_at {A = A} [] x a.place refl a.stands

pub among_first : {A : Type 0} (x : A) (xs : List A) → IsAmong x (x ∷ xs)
among_first x xs = record { place = 0; stands = refl }

pub among_later : {A : Type 0} (x y : A) (ys : List A) → IsAmong x ys → IsAmong x (y ∷ ys)
among_later x y ys a = record { place = suc a.place; stands = a.stands }

pub among_cases : {A : Type 0} (x y : A) (ys : List A) → IsAmong x (y ∷ ys) → (y ≡ x) ⊎ IsAmong x ys
among_cases {A} x y ys a = go a.place a.stands
  where
    go : (k : ℕ) → At (y ∷ ys) k x → (y ≡ x) ⊎ IsAmong x ys
    go zero at = inl cc
    go (suc k) at = inr (record { place = k; stands = at })

pub among_left : {A : Type 0} (x : A) (xs ys : List A) → IsAmong x xs → IsAmong x (xs ++ ys)
among_left x xs ys a = record { place = a.place; stands = at_append xs ys a.place x a.stands }

pub among_right : {A : Type 0} (x : A) (xs ys : List A) → IsAmong x ys → IsAmong x (xs ++ ys)
among_right x xs ys a = record { place = _; stands = at_append_right xs ys a.place _ x refl a.stands }

pub among_map : {A B : Type 0} (f : A → B) (x : A) (xs : List A) → IsAmong x xs → IsAmong (f x) (map f xs)
among_map f x xs a = record { place = a.place; stands = at_map f xs a.place x a.stands }

pub among_flat : {A B : Type 0} (f : A → List B) (xs : List A) (x : A) (y : B) → IsAmong x xs → IsAmong y (f x)
    → IsAmong y (flat_map f xs)
among_flat f [] x y a b = absurd (among_none x a)
among_flat {A} f (z ∷ xs) x y a b = elim (among_cases x z xs a) [
  | inl same ↦ among_left y (f z) (flat_map f xs) (subst (λ (u : A). IsAmong y (f u)) (sym same) b)
  | inr more ↦ among_right y (f z) (flat_map f xs) (among_flat f xs x y more b)
]

pub among_filter : {A : Type 0} (t : A → Bool) (xs : List A) (x : A) → IsAmong x xs → t x ≡ true
    → IsAmong x (filter t xs)
among_filter t [] x a e = absurd (among_none x a)
among_filter {A} t (y ∷ xs) x a e = elim (among_cases x y xs a) [
  | inl same ↦ here (t y) (ap t same ∙ e) same
  | inr more ↦ there (t y) (among_filter t xs x more e)
]
  where
    here : (b : Bool) → b ≡ true → y ≡ x → IsAmong x (cond b (y ∷ filter t xs) (filter t xs))
    here true e same = subst (λ (u : A). IsAmong x (u ∷ filter t xs)) (sym same) (among_first x (filter t xs))
    here false e same = absurd cc

    there : (b : Bool) → IsAmong x (filter t xs) → IsAmong x (cond b (y ∷ filter t xs) (filter t xs))
    there true a = among_later x y (filter t xs) a
    there false a = a

-- what stood among numbers still does with one more
pub among_inserted : (n index : ℕ) (xs : List ℕ) → IsAmong n xs → IsAmong n (insert_key nat_cmp xs index)
among_inserted n index [] a = absurd (among_none n a)
among_inserted n index (x ∷ xs) a = go (nat_cmp index x) (λ more. among_inserted n index xs more)
  where
    go : (o : Ordering) → (IsAmong n xs → IsAmong n (insert_key nat_cmp xs index))
        → IsAmong n (match_ordering o (index ∷ x ∷ xs) (x ∷ xs) (x ∷ insert_key nat_cmp xs index))
    go Less up = among_later n index (x ∷ xs) a
    go Equal up = a
    go Greater up = elim (among_cases n x xs a) [
      | inl same ↦ subst (λ (u : ℕ). IsAmong n (u ∷ insert_key nat_cmp xs index)) (sym same) (among_first n (insert_key nat_cmp xs index))
      | inr more ↦ among_later n x (insert_key nat_cmp xs index) (up more)
    ]

-- the one more stands among them
pub inserted : (index : ℕ) (xs : List ℕ) → IsAmong index (insert_key nat_cmp xs index)
inserted index [] = among_first index []
inserted index (x ∷ xs) = go (nat_cmp index x) refl (inserted index xs)
  where
    go : (o : Ordering) → nat_cmp index x ≡ o → IsAmong index (insert_key nat_cmp xs index)
        → IsAmong index (match_ordering o (index ∷ x ∷ xs) (x ∷ xs) (x ∷ insert_key nat_cmp xs index))
    go Less e more = among_first index (x ∷ xs)
    go Equal e more = subst (λ (u : ℕ). IsAmong index (u ∷ xs)) (nat_cmp-IsAntisymmetric index x e) (among_first index xs)
    go Greater e more = among_later index x (insert_key nat_cmp xs index) more

-- what stands among numbers and one more is that one or stood among them
pub inserted_cases : (n index : ℕ) (xs : List ℕ) → IsAmong n (insert_key nat_cmp xs index) → (index ≡ n) ⊎ IsAmong n xs
inserted_cases n index [] a = elim (among_cases n index [] a) [ inl same ↦ inl same | inr more ↦ inr more ]
inserted_cases n index (x ∷ xs) a = go (nat_cmp index x) a (λ more. inserted_cases n index xs more)
  where
    go : (o : Ordering) → IsAmong n (match_ordering o (index ∷ x ∷ xs) (x ∷ xs) (x ∷ insert_key nat_cmp xs index))
        → (IsAmong n (insert_key nat_cmp xs index) → (index ≡ n) ⊎ IsAmong n xs) → (index ≡ n) ⊎ IsAmong n (x ∷ xs)
    go Less a down = elim (among_cases n index (x ∷ xs) a) [ inl same ↦ inl same | inr more ↦ inr more ]
    go Equal a down = inr a
    go Greater a down = elim (among_cases n x (insert_key nat_cmp xs index) a) [
      | inl same ↦ inr (subst (λ (u : ℕ). IsAmong n (u ∷ xs)) (sym same) (among_first n xs))
      | inr more ↦ elim (down more) [ inl same ↦ inl same | inr old ↦ inr (among_later n x xs old) ]
    ]

-- what holds of each holds of what is among them
pub each_of : {A : Type 0} (P : A → Type 0) (xs : List A) → Each P xs → (x : A) → IsAmong x xs → P x
each_of P xs all x a = Each-at P xs all a.place x a.stands

-- a test of each
pub all_tested : {A : Type 0} (p : A → Bool) (xs : List A) → Each (λ x. p x ≡ true) xs → list_all p xs ≡ true
all_tested p [] all = refl
all_tested p (x ∷ xs) all = and_from (p x) (list_all p xs) all.0 (all_tested p xs all.1)
