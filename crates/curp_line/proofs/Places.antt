-- Walks that go from a last place to the ones before it, and reach each place that passes a test.
use Rattle.std.proofs.Common.{◌≡◌, ℕ, zero, suc, ◌<◌, ◌≤◌, ◌||◌, Bool, true, false, if◌then◌else◌, List, [], ◌∷◌, ◌++◌, length, get_or, set, take, map, Option, Some, None, refl, ap, sym, ◌∙◌, subst, arith}
use Rattle.std.specs.Bool.{⊤}
use Rattle.std.proofs.lemmas.List.{take_all}
use Rattle.std.specs.List.{list_any}
use Rattle.curp_base.specs.Words.{At}
use Rattle.curp_base.proofs.Lists.{at_take, at_within, at_any}
use Rattle.curp_line.specs.Slots.{last_place, place_after}

-- how far it is to behind a place, which is nowhere where there is none
abbrev pub reach : Option ℕ → ℕ
reach None = 0
reach (Some k) = suc k

-- what stands at the place, if there is one, passes the test
abbrev pub IsPlace : {A : Type 0} → (A → Bool) → List A → Option ℕ → Type 0
IsPlace {A} p xs None = ⊤
IsPlace {A} p xs (Some k) = (x : A) × At xs k x × (p x ≡ true)

-- from the place n on each item is what f makes of it
abbrev pub mapped_from : {A : Type 0} → ℕ → (A → A) → List A → List A
mapped_from zero f xs = map f xs
mapped_from (suc n) f [] = []
mapped_from (suc n) f (x ∷ xs) = x ∷ mapped_from n f xs

-- ---- the last place

is_place_after : {A : Type 0} (p : A → Bool) (x : A) (xs : List A) (b : Bool) (r : Option ℕ) → p x ≡ b → IsPlace p xs r → IsPlace p (x ∷ xs) (place_after b r)
is_place_after p x xs b (Some k) e h = h
is_place_after p x xs true None e h = (x, refl, e)
is_place_after p x xs false None e h = tt

pub last_is_place : {A : Type 0} (p : A → Bool) (xs : List A) → IsPlace p xs (last_place p xs)
last_is_place p [] = tt
last_is_place p (x ∷ xs) = is_place_after p x xs (p x) (last_place p xs) refl (last_is_place p xs)

place_in_take : {A : Type 0} (p : A → Bool) (n : ℕ) (xs : List A) (r : Option ℕ) → IsPlace p (take n xs) r → IsPlace p xs r
place_in_take p n xs None h = tt
place_in_take p n xs (Some k) h = (h.0, (at_take n xs k h.0 h.1).1, h.2)

pub last_before_is_place : {A : Type 0} (p : A → Bool) (n : ℕ) (xs : List A) → IsPlace p xs (last_place p (take n xs))
last_before_is_place p n xs = place_in_take p n xs (last_place p (take n xs)) (last_is_place p (take n xs))

reach_within : {A : Type 0} (p : A → Bool) (n : ℕ) (xs : List A) (r : Option ℕ) → IsPlace p (take n xs) r → reach r ≤ n
reach_within p n xs None h = omega arith
reach_within p n xs (Some k) h = let a = at_take n xs k h.0 h.1 in omega (arith, a.0)

pub reach_before : {A : Type 0} (p : A → Bool) (n : ℕ) (xs : List A) → reach (last_place p (take n xs)) ≤ n
reach_before p n xs = reach_within p n xs (last_place p (take n xs)) (last_is_place p (take n xs))

after_push : (a b : Bool) (r : Option ℕ) (n : ℕ) → place_after a (if b then Some n else r) ≡ (if b then Some (suc n) else place_after a r)
after_push a true r n = refl
after_push a false r n = refl

-- one item more is the last place, if it passes
pub last_place_push : {A : Type 0} (p : A → Bool) (xs : List A) (x : A) → last_place p (xs ++ x ∷ []) ≡ (if p x then Some (length xs) else last_place p xs)
last_place_push p [] x = refl
last_place_push p (y ∷ xs) x = ap (place_after (p y)) (last_place_push p xs x) ∙ after_push (p y) (p x) (last_place p xs) (length xs)

-- the last place stays where the test answers the same
pub last_place_map : {A : Type 0} (p : A → Bool) (f : A → A) → ((x : A) → p (f x) ≡ p x) → (xs : List A) → last_place p (map f xs) ≡ last_place p xs
last_place_map p f same [] = refl
last_place_map p f same (x ∷ xs) = λ i. place_after (same x i) (last_place_map p f same xs i)

-- ---- each item that passes is changed, from the last one on

pub mapped_length : {A : Type 0} (f : A → A) (xs : List A) → mapped_from (length xs) f xs ≡ xs
mapped_length f [] = refl
mapped_length f (x ∷ xs) = ap (λ ys. x ∷ ys) (mapped_length f xs)

pub mapped_at : {A : Type 0} (f : A → A) (xs : List A) (k : ℕ) (x : A) → At xs k x → At (mapped_from (suc k) f xs) k x
mapped_at f [] k x h = absurd cc
mapped_at f (y ∷ xs) zero x h = h
mapped_at f (y ∷ xs) (suc k) x h = mapped_at f xs k x h

pub mapped_set : {A : Type 0} (f : A → A) (xs : List A) (k : ℕ) (x : A) → At xs k x → set (mapped_from (suc k) f xs) k (f x) ≡ mapped_from k f xs
mapped_set f [] k x h = absurd cc
mapped_set f (y ∷ xs) zero x h = let same : x ≡ y = cc in ap (λ z. f z ∷ map f xs) same
mapped_set f (y ∷ xs) (suc k) x h = ap (λ ys. y ∷ ys) (mapped_set f xs k x h)

mapped_after : {A : Type 0} (p : A → Bool) (f : A → A) → ((x : A) → p x ≡ false → f x ≡ x) → (x : A) (xs : List A) (b : Bool) (r : Option ℕ) → p x ≡ b
    → x ∷ mapped_from (reach r) f xs ≡ mapped_from (reach (place_after b r)) f (x ∷ xs)
mapped_after p f stays x xs b (Some k) e = refl
mapped_after p f stays x xs true None e = refl
mapped_after p f stays x xs false None e = ap (λ y. y ∷ map f xs) (sym (stays x e))

-- between the last place that passes and n there is nothing to change
pub mapped_back : {A : Type 0} (p : A → Bool) (f : A → A) → ((x : A) → p x ≡ false → f x ≡ x) → (n : ℕ) (xs : List A) → mapped_from n f xs ≡ mapped_from (reach (last_place p (take n xs))) f xs
mapped_back p f stays zero xs = refl
mapped_back p f stays (suc n) [] = refl
mapped_back p f stays (suc n) (x ∷ xs) =
    ap (λ ys. x ∷ ys) (mapped_back p f stays n xs) ∙ mapped_after p f stays x xs (p x) (last_place p (take n xs)) refl

-- ---- an item that passes is looked for, from the last one on

any_after : {A : Type 0} (p q : A → Bool) → ((x : A) → p x ≡ false → q x ≡ false) → (x : A) (xs : List A) (b : Bool) (r : Option ℕ) → p x ≡ b
    → (q x || list_any q (take (reach r) xs)) ≡ list_any q (take (reach (place_after b r)) (x ∷ xs))
any_after p q none x xs b (Some k) e = refl
any_after p q none x xs true None e = refl
any_after p q none x xs false None e = rw (none x e) refl

pub any_back : {A : Type 0} (p q : A → Bool) → ((x : A) → p x ≡ false → q x ≡ false) → (n : ℕ) (xs : List A) → list_any q (take n xs) ≡ list_any q (take (reach (last_place p (take n xs))) xs)
any_back p q none zero xs = refl
any_back p q none (suc n) [] = refl
any_back p q none (suc n) (x ∷ xs) =
    ap (λ b. q x || b) (any_back p q none n xs) ∙ any_after p q none x xs (p x) (last_place p (take n xs)) refl

pub any_not_at : {A : Type 0} (q : A → Bool) (xs : List A) (k : ℕ) (x : A) → At xs k x → q x ≡ false → list_any q (take (suc k) xs) ≡ list_any q (take k xs)
any_not_at q [] k x h e = absurd cc
any_not_at q (y ∷ xs) zero x h e = let same : x ≡ y = cc in rw (rw same at e) refl
any_not_at q (y ∷ xs) (suc k) x h e = ap (λ b. q y || b) (any_not_at q xs k x h e)

-- ---- what stands in a mapped list

pub at_map_back : {A : Type 0} (f : A → A) (xs : List A) (k : ℕ) (y : A) → At (map f xs) k y → (x : A) × At xs k x × (f x ≡ y)
at_map_back f [] k y h = absurd cc
at_map_back f (x ∷ xs) zero y h = (x, refl, cc)
at_map_back f (x ∷ xs) (suc k) y h = at_map_back f xs k y h

-- ---- a walk

at_read : {A : Type 0} (xs : List A) (k : ℕ) (x d : A) → At xs k x → get_or xs k d ≡ x
at_read [] k x d h = absurd cc
at_read (y ∷ xs) zero x d h = cc
at_read (y ∷ xs) (suc k) x d h = at_read xs k x d h

pub place_is : {A : Type 0} (p : A → Bool) (xs : List A) (next : Option ℕ) (at : ℕ) → next ≡ Some at → IsPlace p xs next → (x : A) × At xs at x × (p x ≡ true)
place_is p xs next at e h = subst (IsPlace p xs) e h

pub place_within : {A : Type 0} (p : A → Bool) (xs : List A) (next : Option ℕ) (at : ℕ) → next ≡ Some at → IsPlace p xs next → at < length xs
place_within p xs next at e h = let x = place_is p xs next at e h in at_within xs at x.0 x.1

pub place_passes : {A : Type 0} (p : A → Bool) (xs : List A) (next : Option ℕ) (at : ℕ) (d : A) → next ≡ Some at → IsPlace p xs next → p (get_or xs at d) ≡ true
place_passes p xs next at d e h = let x = place_is p xs next at e h in rw (at_read xs at x.0 d x.1) x.2

module _ {A : Type 0} (p : A → Bool) (earlier : A → Option ℕ) where
  -- what passes the test tells the last place before it of what does
  abbrev pub IsChain : List A → Type 0
  IsChain xs = (k : ℕ) (x : A) → At xs k x → p x ≡ true → earlier x ≡ last_place p (take k xs)

  -- ---- that changes what it comes by

  -- the walk has changed what stands at the place, and goes on before it
  pub record HasChanged (f : A → A) (xs ys : List A) (at : ℕ) (x : A) : Type 0 where
    pub nearer : reach (earlier x) ≤ at
    pub next : IsPlace p xs (earlier x)
    pub done : set ys at (f x) ≡ mapped_from (reach (earlier x)) f xs

  changed : (f : A → A) → ((x : A) → p x ≡ false → f x ≡ x) → (xs ys : List A) (at : ℕ) (x d : A) → IsChain xs → At xs at x → p x ≡ true → ys ≡ mapped_from (suc at) f xs → HasChanged f xs ys at (get_or ys at d)
  changed f stays xs ys at x d chain here passes done =
      let read : get_or ys at d ≡ x = ap (λ (zs : List A). get_or zs at d) done ∙ at_read (mapped_from (suc at) f xs) at x d (mapped_at f xs at x here) in
      let e : earlier x ≡ last_place p (take at xs) = chain at x here passes in
      rw read (record {
        nearer = rw e (reach_before p at xs);
        next = rw e (last_before_is_place p at xs);
        done = rw e (ap (λ (zs : List A). set zs at (f x)) done ∙ mapped_set f xs at x here ∙ mapped_back p f stays at xs);
      })

  pub walk_changes : (f : A → A) → ((x : A) → p x ≡ false → f x ≡ x) → (xs ys : List A) (next : Option ℕ) (at : ℕ) (d : A) → IsChain xs → next ≡ Some at → IsPlace p xs next → ys ≡ mapped_from (reach next) f xs → HasChanged f xs ys at (get_or ys at d)
  walk_changes f stays xs ys next at d chain e place done =
      let x = place_is p xs next at e place in
      changed f stays xs ys at x.0 d chain x.1 x.2 (done ∙ ap (λ r. mapped_from (reach r) f xs) e)

  -- at the start nothing is changed
  pub change_begins : (f : A → A) → ((x : A) → p x ≡ false → f x ≡ x) → (xs : List A) (latest : Option ℕ) → latest ≡ last_place p xs → xs ≡ mapped_from (reach latest) f xs
  change_begins f stays xs latest e =
      sym (mapped_length f xs) ∙ mapped_back p f stays (length xs) xs
      ∙ ap (λ (zs : List A). mapped_from (reach (last_place p zs)) f xs) (take_all (length xs) xs (omega arith)) ∙ ap (λ r. mapped_from (reach r) f xs) (sym e)

  -- ---- that looks for one

  -- the walk hasn't found at the place what it looks for, and goes on before it
  pub record HasPassed (q : A → Bool) (xs : List A) (at : ℕ) (x : A) : Type 0 where
    pub nearer : reach (earlier x) ≤ at
    pub next : IsPlace p xs (earlier x)
    pub left : list_any q xs ≡ list_any q (take (reach (earlier x)) xs)

  pub walk_passes : (q : A → Bool) → ((x : A) → p x ≡ false → q x ≡ false) → (xs : List A) (next : Option ℕ) (at : ℕ) (d : A) → IsChain xs → next ≡ Some at → IsPlace p xs next
      → list_any q xs ≡ list_any q (take (reach next) xs) → q (get_or xs at d) ≡ false → HasPassed q xs at (get_or xs at d)
  walk_passes q none xs next at d chain e place left not_here =
      let x = place_is p xs next at e place in
      let read : get_or xs at d ≡ x.0 = at_read xs at x.0 d x.1 in
      let before : earlier x.0 ≡ last_place p (take at xs) = chain at x.0 x.1 x.2 in
      rw read (record {
        nearer = rw before (reach_before p at xs);
        next = rw before (last_before_is_place p at xs);
        left = rw before (left ∙ ap (λ r. list_any q (take (reach r) xs)) e ∙ any_not_at q xs at x.0 x.1 (rw read at not_here) ∙ any_back p q none at xs);
      })

  pub look_begins : (q : A → Bool) → ((x : A) → p x ≡ false → q x ≡ false) → (xs : List A) (latest : Option ℕ) → latest ≡ last_place p xs → list_any q xs ≡ list_any q (take (reach latest) xs)
  look_begins q none xs latest e =
      ap (list_any q) (sym (take_all (length xs) xs (omega arith))) ∙ any_back p q none (length xs) xs
      ∙ ap (λ (zs : List A). list_any q (take (reach (last_place p zs)) xs)) (take_all (length xs) xs (omega arith)) ∙ ap (λ r. list_any q (take (reach r) xs)) (sym e)

  pub walk_finds : (q : A → Bool) (xs : List A) (next : Option ℕ) (at : ℕ) (d : A) → next ≡ Some at → IsPlace p xs next → q (get_or xs at d) ≡ true → list_any q xs ≡ true
  walk_finds q xs next at d e place here =
      let x = place_is p xs next at e place in
      let read : get_or xs at d ≡ x.0 = at_read xs at x.0 d x.1 in
      at_any q xs at x.0 x.1 (rw read at here)
