-- What is one, and what is apart.
use Rattle.std.proofs.Common.{◌≡◌, ◌⊎◌, inl, inr, List, ◌++◌, true, false, Some}
use Rattle.curp_base.proofs.Lists.{at_append_cases}
use Rattle.curp_facts.specs.Facts.{IsAmong}

-- one item
pub one_some : {A : Type 0} {x y : A} → Some x ≡ Some y → x ≡ y
one_some e = cc

-- a test doesn't fail and hold
pub not_both : false ≡ true → ⊥
not_both e = cc

-- what is among two lists is among one of them
pub among_cases : {A : Type 0} (xs ys : List A) (x : A) → IsAmong x (xs ++ ys) → IsAmong x xs ⊎ IsAmong x ys
among_cases xs ys x a = elim (at_append_cases xs ys a.place x a.stands) [
  | inl h ↦ inl (record { place = a.place; stands = h })
  | inr h ↦ inr (record { place = h.0; stands = h.2 })
]
