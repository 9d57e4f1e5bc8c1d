-- Lemmas on At, Each and IsPrefix.
use Rattle.std.specs.Prelude.{◌||◌, find, flat_map}
use Rattle.std.proofs.Common.{Bool, true, false, cond, replicate, ◌≡◌, ◌≢◌, ◌⊎◌, inl, inr, ℕ, zero, suc, ◌+◌, ◌<◌, ◌≤◌, List, [], ◌∷◌, ◌++◌, length, set, get_or, take, drop, map, refl, ap, sym, ◌∙◌, subst, arith, add-one, append_assoc, append-nil, length-append, slice_get, Option, Some, None, Bor}
use Rattle.std.specs.List.{filter, list_any}
use Rattle.std.specs.Option.{option_copied}
use Rattle.std.specs.Slice.{IsItemAt}
use Rattle.std.proofs.lemmas.Option.{slice_get_within, slice_get-get_or, slice_get_past, slice_get_read}
use Rattle.curp_base.specs.Words.{At, Each, IsPrefix, first_of}

pub at_within : {A : Type 0} (xs : List A) (k : ℕ) (x : A) → At xs k x → k < length xs
at_within xs k x h = slice_get_within xs k x h

pub at_same : {A : Type 0} (xs : List A) (k : ℕ) (x y : A) → At xs k x → At xs k y → x ≡ y
at_same xs k x y h g = cc

pub at_some : {A : Type 0} (xs : List A) (k : ℕ) → k < length xs → (x : A) × At xs k x
at_some [] k h = absurd (omega arith)
at_some (x ∷ xs) zero h = (x, refl)
at_some (x ∷ xs) (suc k) h = at_some xs k (omega arith)

pub at_append : {A : Type 0} (xs ys : List A) (k : ℕ) (x : A) → At xs k x → At (xs ++ ys) k x
at_append [] ys k x h = absurd cc
at_append (y ∷ xs) ys zero x h = h
at_append (y ∷ xs) ys (suc k) x h = at_append xs ys k x h

pub at_append_cases : {A : Type 0} (xs ys : List A) (k : ℕ) (x : A) → At (xs ++ ys) k x → At xs k x ⊎ ((j : ℕ) × (k ≡ length xs + j) × At ys j x)
at_append_cases [] ys k x h = inr (k, omega arith, h)
at_append_cases (y ∷ xs) ys zero x h = inl h
at_append_cases (y ∷ xs) ys (suc k) x h =
    elim (at_append_cases xs ys k x h) [ inl g ↦ inl g | inr g ↦ inr (g.0, omega arith, g.2) ]

pub at_append_right : {A : Type 0} (xs ys : List A) (j k : ℕ) (x : A) → k ≡ length xs + j → At ys j x → At (xs ++ ys) k x
at_append_right [] ys j k x e h = let same : k ≡ j = omega arith in rw same h
at_append_right (y ∷ xs) ys j zero x e h = absurd (omega arith)
at_append_right (y ∷ xs) ys j (suc k) x e h = at_append_right xs ys j k x (omega arith) h

pub at_push : {A : Type 0} (xs : List A) (x : A) (k : ℕ) → k ≡ length xs → At (xs ++ x ∷ []) k x
at_push xs x k e = at_append_right xs (x ∷ []) 0 k x (omega arith) refl

pub at_one : {A : Type 0} (x : A) (k : ℕ) (y : A) → At (x ∷ []) k y → (k ≡ 0) × (x ≡ y)
at_one x zero y h = (refl, cc)
at_one x (suc k) y h = absurd cc

pub at_push_cases : {A : Type 0} (xs : List A) (y : A) (k : ℕ) (x : A) → At (xs ++ y ∷ []) k x → At xs k x ⊎ ((k ≡ length xs) × (y ≡ x))
at_push_cases xs y k x h =
    elim (at_append_cases xs (y ∷ []) k x h) [
      | inl g ↦ inl g
      | inr g ↦ inr (let o = at_one y g.0 x g.2 in (omega arith, o.1))
    ]

pub at_set_cases : {A : Type 0} (xs : List A) (i : ℕ) (y : A) (k : ℕ) (x : A) → At (set xs i y) k x → ((k ≢ i) × At xs k x) ⊎ ((k ≡ i) × (y ≡ x))
at_set_cases [] i y k x h = absurd cc
at_set_cases (z ∷ xs) zero y zero x h = inr (refl, cc)
at_set_cases (z ∷ xs) zero y (suc k) x h = inl (omega arith, h)
at_set_cases (z ∷ xs) (suc i) y zero x h = inl (omega arith, h)
at_set_cases (z ∷ xs) (suc i) y (suc k) x h =
    elim (at_set_cases xs i y k x h) [ inl g ↦ inl (omega arith, g.1) | inr g ↦ inr (omega arith, g.1) ]

pub at_set_same : {A : Type 0} (xs : List A) (i : ℕ) (x y : A) → At xs i x → At (set xs i y) i y
at_set_same [] i x y h = absurd cc
at_set_same (z ∷ xs) zero x y h = refl
at_set_same (z ∷ xs) (suc i) x y h = at_set_same xs i x y h

pub at_set_other : {A : Type 0} (xs : List A) (i k : ℕ) (x y : A) → k ≢ i → At xs k x → At (set xs i y) k x
at_set_other [] i k x y ne h = absurd cc
at_set_other (z ∷ xs) zero zero x y ne h = absurd (ne refl)
at_set_other (z ∷ xs) zero (suc k) x y ne h = h
at_set_other (z ∷ xs) (suc i) zero x y ne h = h
at_set_other (z ∷ xs) (suc i) (suc k) x y ne h = at_set_other xs i k x y (omega arith) h

pub at_take : {A : Type 0} (n : ℕ) (xs : List A) (k : ℕ) (x : A) → At (take n xs) k x → (k < n) × At xs k x
at_take zero xs k x h = absurd cc
at_take (suc n) [] k x h = absurd cc
at_take (suc n) (y ∷ xs) zero x h = (omega arith, h)
at_take (suc n) (y ∷ xs) (suc k) x h = let r = at_take n xs k x h in (omega arith, r.1)

pub at_drop : {A : Type 0} (n : ℕ) (xs : List A) (k : ℕ) (x : A) → At (drop n xs) k x → (j : ℕ) × (j ≡ n + k) × At xs j x
at_drop zero xs k x h = (k, omega arith, h)
at_drop (suc n) [] k x h = absurd cc
at_drop (suc n) (y ∷ xs) k x h = let r = at_drop n xs k x h in (suc r.0, omega arith, r.2)

pub at_map : {A B : Type 0} (f : A → B) (xs : List A) (k : ℕ) (x : A) → At xs k x → At (map f xs) k (f x)
at_map f [] k x h = absurd cc
at_map f (y ∷ xs) zero x h = let same : y ≡ x = cc in ap (λ z. Some (f z)) same
at_map f (y ∷ xs) (suc k) x h = at_map f xs k x h

pub prefix_self : {A : Type 0} (xs : List A) → IsPrefix xs xs
prefix_self xs = record { rest = []; is = append-nil xs }

pub prefix_push : {A : Type 0} (xs ys : List A) → IsPrefix xs (xs ++ ys)
prefix_push xs ys = record { rest = ys; is = refl }

pub prefix_trans : {A : Type 0} {xs ys zs : List A} → IsPrefix xs ys → IsPrefix ys zs → IsPrefix xs zs
prefix_trans {xs = xs} p q = record { rest = p.rest ++ q.rest; is = sym (append_assoc xs p.rest q.rest) ∙ ap (λ w. w ++ q.rest) p.is ∙ q.is }

pub prefix_length : {A : Type 0} {xs ys : List A} → IsPrefix xs ys → length xs ≤ length ys
prefix_length {xs = xs} p = omega (arith, sym (ap length p.is) ∙ length-append xs p.rest)

pub prefix_at : {A : Type 0} {xs ys : List A} → IsPrefix xs ys → (k : ℕ) (x : A) → At xs k x → At ys k x
prefix_at {A} {xs} {ys} p k x h = subst (λ (w : List A). At w k x) p.is (at_append xs p.rest k x h)

-- an element of the longer list below the shorter one's length stands in the shorter one
pub prefix_back : {A : Type 0} {xs ys : List A} → IsPrefix xs ys → (k : ℕ) (x : A) → k < length xs → At ys k x → At xs k x
prefix_back {A} {xs} {ys} p k x l h =
    let a = at_some xs k l in
    let b = prefix_at p k a.0 a.1 in
    cc (a.1, b)

prefix_cons : {A : Type 0} (x y : A) (xs ys : List A) → x ≡ y → IsPrefix xs ys → IsPrefix (x ∷ xs) (y ∷ ys)
prefix_cons x y xs ys e p = record { rest = p.rest; is = ap (λ w. x ∷ w) p.is ∙ ap (λ z. z ∷ ys) e }

prefix_head : {A : Type 0} (x y : A) (xs ys : List A) → IsPrefix (x ∷ xs) (y ∷ ys) → (x ≡ y) × IsPrefix xs ys
prefix_head x y xs ys p = (cc (p.is), record { rest = p.rest; is = cc (p.is) })

-- what one list has from base on, added behind another beginning that reaches to base
pub overlap : {A : Type 0} (base n : ℕ) (xs entries zs : List A) → n + base ≡ length xs → IsPrefix xs zs → IsPrefix entries (drop base zs) → IsPrefix (xs ++ drop n entries) zs
overlap zero zero [] entries zs e p q = q
overlap zero (suc n) [] entries zs e p q = absurd (omega arith)
overlap zero zero (x ∷ xs) entries zs e p q = absurd (omega arith)
overlap zero (suc n) (x ∷ xs) [] zs e p q = simp append-nil p
overlap zero (suc n) (x ∷ xs) (y ∷ entries) [] e p q = absurd (cc (p.is))
overlap zero (suc n) (x ∷ xs) (y ∷ entries) (z ∷ zs) e p q =
    prefix_cons x z _ _ (prefix_head x z xs zs p).0 (overlap zero n xs entries zs (omega arith) (prefix_head x z xs zs p).1 (prefix_head y z entries zs q).1)
overlap (suc base) n [] entries zs e p q = absurd (omega arith)
overlap (suc base) n (x ∷ xs) entries [] e p q = absurd (cc (p.is))
overlap (suc base) n (x ∷ xs) entries (z ∷ zs) e p q =
    prefix_cons x z _ _ (prefix_head x z xs zs p).0 (overlap base n xs entries zs (omega arith) (prefix_head x z xs zs p).1 q)

pub Each-at : {A : Type 0} (P : A → Type 0) (xs : List A) → Each P xs → (k : ℕ) (x : A) → At xs k x → P x
Each-at P [] e k x h = absurd cc
Each-at P (y ∷ xs) e zero x h = let same : y ≡ x = cc in subst P same e.0
Each-at P (y ∷ xs) e (suc k) x h = Each-at P xs e.1 k x h

pub Each-append : {A : Type 0} (P : A → Type 0) (xs ys : List A) → Each P xs → Each P ys → Each P (xs ++ ys)
Each-append P [] ys e f = f
Each-append P (x ∷ xs) ys e f = (e.0, Each-append P xs ys e.1 f)

pub Each-weaker : {A : Type 0} (P Q : A → Type 0) → ((x : A) → P x → Q x) → (xs : List A) → Each P xs → Each Q xs
Each-weaker P Q f [] e = tt
Each-weaker P Q f (x ∷ xs) e = (f x e.0, Each-weaker P Q f xs e.1)

pub Each-take : {A : Type 0} (P : A → Type 0) (n : ℕ) (xs : List A) → Each P xs → Each P (take n xs)
Each-take P zero xs e = tt
Each-take P (suc n) [] e = tt
Each-take P (suc n) (x ∷ xs) e = (e.0, Each-take P n xs e.1)

pub Each-drop : {A : Type 0} (P : A → Type 0) (n : ℕ) (xs : List A) → Each P xs → Each P (drop n xs)
Each-drop P zero xs e = e
Each-drop P (suc n) [] e = tt
Each-drop P (suc n) (x ∷ xs) e = Each-drop P n xs e.1

pub Each-from_at : {A : Type 0} (P : A → Type 0) (xs : List A) → ((k : ℕ) (x : A) → At xs k x → P x) → Each P xs
Each-from_at P [] f = tt
Each-from_at P (x ∷ xs) f = (f zero x refl, Each-from_at P xs (λ k y h. f (suc k) y h))

pub Each-map : {A B : Type 0} (P : B → Type 0) (f : A → B) (xs : List A) → Each (λ x. P (f x)) xs → Each P (map f xs)
Each-map P f [] e = tt
Each-map P f (x ∷ xs) e = (e.0, Each-map P f xs e.1)

pub prefix_drop : {A : Type 0} (n : ℕ) {xs ys : List A} → IsPrefix xs ys → IsPrefix (drop n xs) (drop n ys)
prefix_drop zero p = p
prefix_drop (suc n) {xs = []} {ys = ys} p = record { rest = drop (suc n) ys; is = refl }
prefix_drop (suc n) {xs = x ∷ xs} {ys = []} p = absurd (cc (p.is))
prefix_drop (suc n) {xs = x ∷ xs} {ys = y ∷ ys} p = prefix_drop n (prefix_head x y xs ys p).1

pub at_replicate : {A : Type 0} (n : ℕ) (x : A) (k : ℕ) (y : A) → At (replicate n x) k y → (k < n) × (x ≡ y)
at_replicate zero x k y h = absurd cc
at_replicate (suc n) x zero y h = (omega arith, cc)
at_replicate (suc n) x (suc k) y h = let r = at_replicate n x k y h in (omega arith, r.1)

pub at_replicated : {A : Type 0} (n : ℕ) (x : A) (k : ℕ) → k < n → At (replicate n x) k x
at_replicated zero x k h = absurd (omega arith)
at_replicated (suc n) x zero h = refl
at_replicated (suc n) x (suc k) h = at_replicated n x k (omega arith)

-- what is left from a place on begins with what stands there
pub drop_at : {A : Type 0} (xs : List A) (k : ℕ) (x : A) → At xs k x → drop k xs ≡ x ∷ drop (k + 1) xs
drop_at [] k x h = absurd cc
drop_at (y ∷ xs) zero x h = let e : y ≡ x = cc in ap (λ z. z ∷ xs) e
drop_at (y ∷ xs) (suc k) x h = let e : drop k xs ≡ x ∷ drop (k + 1) xs = drop_at xs k x h in rw add-one (rw add-one at e)

pub drop_index : {A : Type 0} (xs : List A) (k : ℕ) (d : A) → k < length xs → drop k xs ≡ get_or xs k d ∷ drop (k + 1) xs
drop_index xs k d h = drop_at xs k (get_or xs k d) (slice_get-get_or xs k d h)

-- what a slice lends at a place is the item there
pub lent_item : {A : Type 0} (xs : List A) (k : ℕ) (r : Option (Bor A)) → IsItemAt xs k r → option_copied r ≡ slice_get xs k
lent_item xs k None item = sym (slice_get_past xs k item.3)
lent_item xs k (Some x) item = sym (slice_get_read xs (length xs) k x.now refl item.3.0 item.1)

-- what stands in a list of what a function makes
pub at_mapped : {A B : Type 0} (f : A → B) (xs : List A) (k : ℕ) (y : B) → At (map f xs) k y → (x : A) × At xs k x × (f x ≡ y)
at_mapped f [] k y h = absurd cc
at_mapped f (x ∷ xs) zero y h = (x, refl, cc)
at_mapped f (x ∷ xs) (suc k) y h = at_mapped f xs k y h

pub Each-filter : {A : Type 0} (P : A → Type 0) (p : A → Bool) (xs : List A) → Each P xs → Each P (filter p xs)
Each-filter P p [] all = tt
Each-filter P p (x ∷ xs) all = go (p x) (Each-filter P p xs all.1)
  where
    go : (b : Bool) → Each P (filter p xs) → Each P (cond b (x ∷ filter p xs) (filter p xs))
    go true rest = (all.0, rest)
    go false rest = rest

pub take_suc : {A : Type 0} (xs : List A) (k : ℕ) (x : A) → At xs k x → take (suc k) xs ≡ take k xs ++ x ∷ []
take_suc [] k x at = absurd cc
take_suc (y ∷ xs) zero x at = let same : y ≡ x = cc in ap (λ z. z ∷ []) same
take_suc (y ∷ xs) (suc k) x at = ap (λ w. y ∷ w) (take_suc xs k x at)

-- one more
pub take_one : {A : Type 0} (xs : List A) (k : ℕ) (x : A) → At xs k x → take (k + 1) xs ≡ take k xs ++ x ∷ []
take_one xs k x at = ap (λ n. take n xs) (add-one k) ∙ take_suc xs k x at

-- an item of a list makes an `any` true
pub at_any : {A : Type 0} (p : A → Bool) (xs : List A) (k : ℕ) (x : A) → At xs k x → p x ≡ true → list_any p xs ≡ true
at_any p [] k x at passes = absurd cc
at_any p (y ∷ xs) zero x at passes = let same : y ≡ x = cc in let it : p y ≡ true = ap p same ∙ passes in cc
at_any p (y ∷ xs) (suc k) x at passes = go (p y) (at_any p xs k x at passes)
  where
    go : (b : Bool) → list_any p xs ≡ true → (b || list_any p xs) ≡ true
    go true e = refl
    go false e = e

-- what is made alike of each item
pub map_alike : {A B : Type 0} (f g : A → B) → ((x : A) → f x ≡ g x) → (xs : List A) → map f xs ≡ map g xs
map_alike f g e [] = refl
map_alike f g e (x ∷ xs) = ap (λ y. y ∷ map f xs) (e x) ∙ ap (λ ys. g x ∷ ys) (map_alike f g e xs)

-- what holds of each image
pub Each-image : {A B : Type 0} (P : B → Type 0) (f : A → B) → ((x : A) → P (f x)) → (xs : List A) → Each P (map f xs)
Each-image P f all [] = tt
Each-image P f all (x ∷ xs) = (all x, Each-image P f all xs)

pub Each-images : {A B : Type 0} (P : B → Type 0) (f : A → List B) → ((x : A) → Each P (f x)) → (xs : List A) → Each P (flat_map f xs)
Each-images P f all [] = tt
Each-images P f all (x ∷ xs) = Each-append P (f x) (flat_map f xs) (all x) (Each-images P f all xs)

-- the first of those that pass is what a search finds
pub first_is_found : {A : Type 0} (p : A → Bool) (xs : List A) → first_of (filter p xs) ≡ find p xs
first_is_found p [] = refl
first_is_found p (x ∷ xs) = go (p x) refl (first_is_found p xs)
  where
    go : (b : Bool) → p x ≡ b → first_of (filter p xs) ≡ find p xs → first_of (filter p (x ∷ xs)) ≡ find p (x ∷ xs)
    go true e rest = rw e refl
    go false e rest = rw e rest
