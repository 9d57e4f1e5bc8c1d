-- What a search of a list finds.
use Rattle.std.proofs.Common.{◌≡◌, ◌≢◌, inl, inr, ℕ, zero, suc, ◌+◌, ◌<◌, ◌≤◌, Bool, true, false, T, ◌&&◌, List, [], ◌∷◌, map, Option, Some, None, refl, ap, sym, ◌∙◌, subst, arith}
use Rattle.std.specs.List.{filter, list_any}
use Rattle.std.specs.Cmp.{IsTotalOrder}
use Rattle.std.specs.FinMap.Entries.{below_all}
use Rattle.std.specs.Ordering.{ordering_reverse}
use Rattle.std.specs.declared.cmp.Ordering.{Ordering}
use Rattle.std.specs.declared.cmp.Ordering.TheVariants.{Less, Equal, Greater}
use Rattle.std.proofs.lemmas.Bool.{cases_Bool, cases_lt, or_left, or_right}
use Rattle.curp_base.specs.Words.{At, Ascend, first_of, numbers_from}
use Rattle.curp_base.proofs.Rising.{keyed, is_less}

-- ---- some item passes

module _ {A : Type 0} (p : A → Bool) where
  pub any_found : (xs : List A) → list_any p xs ≡ true → (k : ℕ) × (x : A) × At xs k x × (p x ≡ true)
  any_found [] e = absurd cc
  any_found (x ∷ xs) e = elim (cases_Bool (p x)) [
    | inl y ↦ (0, x, refl, y)
    | inr n ↦ let r = any_found xs (rw n at e) in (suc r.0, r.1, r.2, r.3)
  ]

  pub any_of : (xs : List A) (k : ℕ) (x : A) → At xs k x → p x ≡ true → list_any p xs ≡ true
  any_of [] k x h passes = absurd cc
  any_of (y ∷ xs) zero x h passes = let same : y ≡ x = cc in or_left (p y) (list_any p xs) (ap p same ∙ passes)
  any_of (y ∷ xs) (suc k) x h passes = or_right (p y) (list_any p xs) (any_of xs k x h passes)

-- ---- the first item that passes, by a key of its own

-- an item of the list that has the key and passes
pub record Found {A K : Type 0} (f : A → K) (p : A → Bool) (xs : List A) (key : K) : Type 0 where
  pub place : ℕ
  pub item : A
  pub stands : At xs place item
  pub its_key : f item ≡ key
  pub passes : p item ≡ true

module _ {A K : Type 0} (f : A → K) (p : A → Bool) where
  abbrev pub first_key : List A → Option K
  first_key xs = first_of (map f (filter p xs))

  pub first_found : (xs : List A) (key : K) → first_key xs ≡ Some key → Found f p xs key
  first_found [] key e = absurd cc
  first_found (x ∷ xs) key e = elim (cases_Bool (p x)) [
    | inl y ↦ let same : Some (f x) ≡ Some key = rw y at e in record { place = 0; item = x; stands = refl; its_key = cc; passes = y }
    | inr n ↦ let r = first_found xs key (rw n at e) in record { place = suc r.place; item = r.item; stands = r.stands; its_key = r.its_key; passes = r.passes }
  ]

  pub none_passes : (xs : List A) → first_key xs ≡ None → (key : K) → ¬ (Found f p xs key)
  none_passes xs e key r = go xs r.place e r.stands
    where
      go : (ys : List A) (k : ℕ) → first_key ys ≡ None → ¬ (At ys k r.item)
      go [] k none h = absurd cc
      go (y ∷ ys) zero none h =
          let same : y ≡ r.item = cc in
          let t : p y ≡ true = ap p same ∙ r.passes in
          absurd (let no : Some (f y) ≡ None = rw t at none in cc)
      go (y ∷ ys) (suc k) none h = elim (cases_Bool (p y)) [
        | inl t ↦ absurd (let no : Some (f y) ≡ None = rw t at none in cc)
        | inr n ↦ go ys k (rw n at none) h
      ]

-- ---- where the keys ascend, the first is the least

left : (a b : Bool) → T (a && b) → T a
left true b h = tt
left false b h = absurd h

right : (a b : Bool) → T (a && b) → T b
right true b h = h
right false b h = absurd h

module _ {A K : Type 0} (R : K → K → Ordering) (o : IsTotalOrder R) (f : A → K) (p : A → Bool) where
  tied : (a : K) → R a a ≡ Equal
  tied a = go (R a a) (o.antisymm a a)
    where
      go : (r : Ordering) → r ≡ ordering_reverse r → r ≡ Equal
      go Less e = absurd cc
      go Equal e = refl
      go Greater e = absurd cc

  above : (a : K) (xs : List A) (k : ℕ) (x : A) → T (below_all R a (keyed (map f xs))) → At xs k x → R a (f x) ≡ Less
  above a [] k x s h = absurd cc
  above a (y ∷ xs) zero x s h = let same : y ≡ x = cc in subst (λ (z : A). R a (f z) ≡ Less) same (is_less _ (left _ _ s))
  above a (y ∷ xs) (suc k) x s h = above a xs k x (right _ _ s) h

  pub first_least : (xs : List A) (key other : K) → Ascend R (map f xs) → first_key f p xs ≡ Some key → Found f p xs other → R key other ≢ Greater
  first_least xs key other s e r = go xs r.place s e r.stands
    where
      go : (ys : List A) (k : ℕ) → Ascend R (map f ys) → first_key f p ys ≡ Some key → At ys k r.item → R key other ≢ Greater
      go [] k up first h = absurd cc
      go (y ∷ ys) zero up first h =
          let same : y ≡ r.item = cc in
          let t : p y ≡ true = ap p same ∙ r.passes in
          let mine : Some (f y) ≡ Some key = rw t at first in
          let one : key ≡ other = cc (mine, same, r.its_key) in
          λ g. absurd (let no : Equal ≡ Greater = sym (tied key) ∙ ap (R key) one ∙ g in cc)
      go (y ∷ ys) (suc k) up first h = elim (cases_Bool (p y)) [
        | inl t ↦
            let mine : Some (f y) ≡ Some key = rw t at first in
            let is : f y ≡ key = cc in
            let less : R (f y) (f r.item) ≡ Less = above (f y) ys k r.item (left _ _ up) h in
            λ g. absurd (let no : Less ≡ Greater = sym less ∙ ap (λ (a : K). R a (f r.item)) is ∙ ap (R key) r.its_key ∙ g in cc)
        | inr n ↦ go ys k (right _ _ up) (rw n at first) h
      ]

  -- and there is one least
  pub one_least : ((a b : K) → R a b ≡ Equal → a ≡ b) → (a b : K) → R a b ≢ Greater → R b a ≢ Greater → a ≡ b
  one_least same a b ab ba = go (R a b) refl
    where
      go : (r : Ordering) → R a b ≡ r → a ≡ b
      go Less e = absurd (ba (o.antisymm b a ∙ ap ordering_reverse e))
      go Equal e = same a b e
      go Greater e = absurd (ab e)

-- ---- the first number that passes

-- a number of those from n on that passes, where none before it does
pub record FirstFrom (p : ℕ → Bool) (n count k : ℕ) : Type 0 where
  pub from : n ≤ k
  pub below : k < n + count
  pub passes : p k ≡ true
  pub before : (j : ℕ) → n ≤ j → j < k → p j ≡ false

module _ (p : ℕ → Bool) where
  pub first_number : (count n k : ℕ) → first_of (filter p (numbers_from n count)) ≡ Some k → FirstFrom p n count k
  first_number zero n k e = absurd cc
  first_number (suc count) n k e = elim (cases_Bool (p n)) [
    | inl y ↦
        let mine : Some n ≡ Some k = rw y at e in
        let same : n ≡ k = cc in
        record { from = omega (arith, same); below = omega (arith, same); passes = sym (ap p same) ∙ y; before = λ j a b. absurd (omega (arith, same)) }
    | inr fails ↦
        let r = first_number count (n + 1) k (rw fails at e) in
        record {
          from = omega (arith, r.from);
          below = omega (arith, r.below);
          passes = r.passes;
          before = λ j a b. elim (cases_lt n j) [ inl l ↦ r.before j (omega arith) b | inr l ↦ let same : n ≡ j = omega arith in sym (ap p same) ∙ fails ];
        }
  ]

  pub no_number : (count n : ℕ) → first_of (filter p (numbers_from n count)) ≡ None → (k : ℕ) → n ≤ k → k < n + count → p k ≡ false
  no_number zero n e k a b = absurd (omega arith)
  no_number (suc count) n e k a b = elim (cases_Bool (p n)) [
    | inl y ↦ absurd (let no : Some n ≡ None = rw y at e in cc)
    | inr fails ↦ elim (cases_lt n k) [
      | inl l ↦ no_number count (n + 1) (rw fails at e) k (omega arith) (omega arith)
      | inr l ↦ let same : n ≡ k = omega arith in sym (ap p same) ∙ fails
    ]
  ]
