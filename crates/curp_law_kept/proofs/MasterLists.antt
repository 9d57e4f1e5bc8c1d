-- What holds of each item of the lists that a master keeps.
use Rattle.std.proofs.Common.{◌≡◌, ◌⊎◌, inl, inr, ◌==◌, ◌||◌, if◌then◌else◌, ℕ, Bool, true, false, List, [], ◌∷◌, ◌++◌, max, refl, subst, arith}
use Rattle.std.specs.BTreeSet.{insert_key}
use Rattle.std.specs.List.{filter}
use Rattle.std.specs.Ordering.{match_ordering, nat_cmp}
use Rattle.std.specs.declared.cmp.Ordering.{Ordering}
use Rattle.std.specs.declared.cmp.Ordering.TheVariants.{Less, Equal, Greater}
use Rattle.std.proofs.lemmas.Bool.{cases_lt, cond_both, or_left, or_right}
use Rattle.std.proofs.lemmas.Bool.Decides.{nat_tests}
use Rattle.curp_base.specs.Words.{Each}
use Rattle.curp_cmd.specs.RequestId.{same_id}
use Rattle.curp_cmd.specs.declared.command.RequestId.{RequestId}
use Rattle.curp_cmd.proofs.Ids.{same_id-true}
use Rattle.curp_model.specs.Master.{Queued, has, queued}

-- of the sorted numbers with one more
pub each_inserted : (P : ℕ → Type 0) (index : ℕ) → P index → (xs : List ℕ) → Each P xs → Each P (insert_key nat_cmp xs index)
each_inserted P index own [] all = (own, tt)
each_inserted P index own (x ∷ xs) all = go (nat_cmp index x) (each_inserted P index own xs all.1)
  where
    go : (o : Ordering) → Each P (insert_key nat_cmp xs index) → Each P (match_ordering o (index ∷ x ∷ xs) (x ∷ xs) (x ∷ insert_key nat_cmp xs index))
    go Less more = (own, all)
    go Equal more = all
    go Greater more = (all.0, more)

-- of those that pass a test, which the test holds of too
pub each_filtered : {A : Type 0} (P : A → Type 0) (test : A → Bool) (xs : List A) → Each P xs → Each (λ x. P x × (test x ≡ true)) (filter test xs)
each_filtered P test [] all = tt
each_filtered {A} P test (x ∷ xs) all = go (test x) refl (each_filtered P test xs all.1)
  where
    go : (b : Bool) → test x ≡ b → Each (λ (y : A). P y × (test y ≡ true)) (filter test xs) → Each (λ (y : A). P y × (test y ≡ true)) (if b then x ∷ filter test xs else filter test xs)
    go true is more = ((all.0, is), more)
    go false is more = more

-- the larger of two numbers is one of them
pub larger : (P : ℕ → Type 0) (a b : ℕ) → P a → P b → P (max a b)
larger P a b x y = elim (cases_lt a b) [
  | inl less ↦ (let is : b ≡ max a b = omega (arith, less) in subst P is y)
  | inr more ↦ (let is : a ≡ max a b = omega (arith, more) in subst P is x)
]

-- of a queue with an id at a length
pub each_queued : (P : Queued → Type 0) (id : RequestId) (long : ℕ) → P (record { id = id; length = long }) → (xs : List Queued) → Each P xs → Each P (queued xs id long)
each_queued P id long own [] all = (own, tt)
each_queued P id long own (q ∷ rest) all = cond_both (same_id q.id id) _ _ (Each P)
    (λ y. (larger (λ (n : ℕ). P (record { id = id; length = n })) q.length long (subst (λ (x : RequestId). P (record { id = x; length = q.length })) (same_id-true q.id id y) all.0) own, all.1))
    (λ y. (all.0, each_queued P id long own rest all.1))

-- a number among some and one more is that one or among them
pub has_pushed : (index n : ℕ) (xs : List ℕ) → has index (xs ++ n ∷ []) ≡ true → (has index xs ≡ true) ⊎ (n ≡ index)
has_pushed index n [] found = inr (one found)
  where
    one : ((n == index) || false) ≡ true → n ≡ index
    one e = go (n == index) refl e
      where
        go : (b : Bool) → (n == index) ≡ b → (b || false) ≡ true → n ≡ index
        go true is e = grind (arith, nat_tests)
        go false is e = absurd cc
has_pushed index n (x ∷ xs) found = go (x == index) (has_pushed index n xs) found
  where
    go : (b : Bool) → (has index (xs ++ n ∷ []) ≡ true → (has index xs ≡ true) ⊎ (n ≡ index)) → (b || has index (xs ++ n ∷ [])) ≡ true → ((b || has index xs) ≡ true) ⊎ (n ≡ index)
    go true more e = inl refl
    go false more e = more e

-- one that is put at the end is among them
pub has_own : (index : ℕ) (xs : List ℕ) → has index (xs ++ index ∷ []) ≡ true
has_own index [] = or_left (index == index) false (own index)
  where
    own : (i : ℕ) → (i == i) ≡ true
    own i = grind (arith, nat_tests)
has_own index (x ∷ xs) = or_right (x == index) _ (has_own index xs)
