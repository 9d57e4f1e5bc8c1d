-- Lists that are numbered from 1, what is among lists, and lists whose items differ.
use Rattle.std.proofs.Common.{◌≡◌, ◌≢◌, ◌⊎◌, inl, inr, ℕ, zero, suc, ◌-◌, ◌≤◌, Bool, List, [], ◌∷◌, set, ap, sym, ◌∙◌, subst, arith, Option, Some, None}
use Rattle.std.specs.List.{filter}
use Rattle.std.proofs.lemmas.Bool.{cases_Bool}
use Rattle.curp_base.specs.Cases.{first_there}
use Rattle.curp_base.specs.Words.{At, Each, first_of, last_of, numbered}
use Rattle.curp_base.proofs.Lists.{at_set_cases, Each-at, Each-from_at}
use Rattle.curp_facts.specs.Facts.{IsAmong}
use Rattle.curp_facts.specs.Names.{AllDiffer}
use Rattle.curp_base.proofs.Numbered.{place, at_place}

-- ---- numbers from 1

-- after one item was set, another stands as before, and that one is the new one
pub numbered_set_cases : {A : Type 0} (xs : List A) (n : ℕ) (y : A) → 1 ≤ n → (m : ℕ) (x : A) → numbered (set xs (n - 1) y) m ≡ Some x
    → ((m ≢ n) × (numbered xs m ≡ Some x)) ⊎ ((m ≡ n) × (y ≡ x))
numbered_set_cases {A} xs n y low m x h =
    let q = place (set xs (n - 1) y) m x h in
    elim (at_set_cases xs (n - 1) y q.0 x q.2) [
      | inl o ↦ inl (omega (arith, q.1, o.0), at_place xs q.0 m x q.1 o.1)
      | inr o ↦ inr (omega (arith, q.1, o.0), o.1)
    ]

-- ---- what is among lists

pub among_each : {A : Type 0} (P : A → Type 0) (xs : List A) → Each P xs → (x : A) → IsAmong x xs → P x
among_each P xs all x a = Each-at P xs all a.place x a.stands

-- what holds of all that is among a list
pub each_among : {A : Type 0} (P : A → Type 0) (xs : List A) → ((x : A) → IsAmong x xs → P x) → Each P xs
each_among P xs f = Each-from_at P xs (λ k x at. f x (record { place = k; stands = at }))

-- what is among a list of which one item was set is the new one, or was there
pub among_set : {A : Type 0} (xs : List A) (i : ℕ) (y x : A) → IsAmong x (set xs i y) → (x ≡ y) ⊎ IsAmong x xs
among_set xs i y x a = elim (at_set_cases xs i y a.place x a.stands) [
  | inl o ↦ inr (record { place = a.place; stands = o.1 })
  | inr o ↦ inl (sym o.1)
]

pub first_among : {A : Type 0} (xs : List A) (x : A) → first_of xs ≡ Some x → IsAmong x xs
first_among [] x e = absurd cc
first_among (y ∷ xs) x e = record { place = 0; stands = e }

pub filter_among : {A : Type 0} (p : A → Bool) (xs : List A) (x : A) → IsAmong x (filter p xs) → IsAmong x xs
filter_among p [] x a = a
filter_among p (y ∷ xs) x a = elim (cases_Bool (p y)) [
  | inl t ↦ kept a.place (rw t at a.stands) (filter_among p xs x)
  | inr f ↦ let r = filter_among p xs x (record { place = a.place; stands = rw f at a.stands }) in record { place = suc r.place; stands = r.stands }
]
  where
    kept : (k : ℕ) → At (y ∷ filter p xs) k x → (IsAmong x (filter p xs) → IsAmong x xs) → IsAmong x (y ∷ xs)
    kept zero h more = record { place = 0; stands = h }
    kept (suc k) h more = let r = more (record { place = k; stands = h }) in record { place = suc r.place; stands = r.stands }

pub last_among : {A : Type 0} (xs : List A) (x : A) → last_of xs ≡ Some x → IsAmong x xs
last_among [] x e = absurd cc
last_among (y ∷ []) x e = record { place = 0; stands = e }
last_among (y ∷ z ∷ rest) x e = let r = last_among (z ∷ rest) x e in record { place = suc r.place; stands = r.stands }

-- ---- lists whose items differ

-- one that is new can be set
pub set_differs : {A : Type 0} (xs : List A) (i : ℕ) (y : A) → (IsAmong y xs → ⊥) → AllDiffer xs → AllDiffer (set xs i y)
set_differs xs i y fresh differ a b x ha hb = elim (at_set_cases xs i y a x ha) [
  | inl o ↦ elim (at_set_cases xs i y b x hb) [
    | inl p ↦ differ a b x o.1 p.1
    | inr p ↦ absurd (fresh (record { place = a; stands = subst (λ z. At xs a z) (sym p.1) o.1 }))
  ]
  | inr o ↦ elim (at_set_cases xs i y b x hb) [
    | inl p ↦ absurd (fresh (record { place = b; stands = subst (λ z. At xs b z) (sym o.1) p.1 }))
    | inr p ↦ o.0 ∙ sym p.0
  ]
]

-- ---- messages

-- the first item that is there is among them
pub there_among : {A : Type 0} (xs : List (Option A)) (x : A) → first_there xs ≡ Some x → IsAmong (Some x) xs
there_among [] x e = absurd cc
there_among (Some y ∷ xs) x e = record { place = 0; stands = ap Some e }
there_among (None ∷ xs) x e = let r = there_among xs x e in record { place = suc r.place; stands = r.stands }
