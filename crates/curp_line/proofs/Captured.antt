-- Which reads were captured since.
use Rattle.std.proofs.Common.{◌≡◌, ◌⊎◌, inl, inr, ℕ, zero, suc, ◌-◌, ◌<◌, ◌≤◌, ◌==◌, ◌&&◌, Bool, true, false, nat_lt, List, [], ◌∷◌, ◌++◌, length, slice_get, Some, length-append, arith, refl, ap, sym, ◌∙◌, subst}
use Rattle.std.proofs.lemmas.Bool.Decides.{nat_tests}
use Rattle.curp_base.specs.Words.{Each}
use Rattle.curp_model.specs.Master.{Captured, MasterState}
use Rattle.curp_model.specs.World.{new_captures}
use Rattle.curp_line.specs.Due.{HasRoomSince, IsLastNew, IsLastNewIfAny, has_answered, is_captured_behind}
use Rattle.curp_line.specs.declared.former.Former.{Former}

none_new : (captures : List Captured) (count : ℕ) → Each (λ (c : Captured). c.number ≤ count) captures → new_captures count captures ≡ []
none_new [] count low = refl
none_new (c ∷ cs) count low =
    let old : nat_lt count c.number ≡ false = grind (arith, nat_tests, low.0) in
    rw old (none_new cs count low.1)

last_new : (older : List Captured) (c : Captured) (count : ℕ) → Each (λ (c : Captured). c.number ≤ count) older → count < c.number → new_captures count (older ++ c ∷ []) ≡ c ∷ []
last_new [] c count low new = let is : nat_lt count c.number ≡ true = grind (arith, nat_tests, new) in rw is refl
last_new (d ∷ older) c count low new =
    let old : nat_lt count d.number ≡ false = grind (arith, nat_tests, low.0) in
    rw old (last_new older c count low.1 new)

-- the last of a list
pub last_there : {A : Type 0} (xs : List A) (x : A) → slice_get (xs ++ x ∷ []) (length (xs ++ x ∷ []) - 1) ≡ Some x
last_there {A} xs x = let long : length (xs ++ x ∷ []) - 1 ≡ length xs = omega (arith, length-append xs (x ∷ [])) in rw long (at_end xs)
  where
    at_end : (xs : List A) → slice_get (xs ++ x ∷ []) (length xs) ≡ Some x
    at_end [] = refl
    at_end (y ∷ ys) = at_end ys

pub not_both : {A : Type 0} → false ≡ true → A
not_both e = absurd cc

-- the last read of those that were captured before wasn't captured behind it
last_old : (captures : List Captured) (at count : ℕ) → Each (λ (c : Captured). c.number ≤ count) captures → is_captured_behind count (slice_get captures at) ≡ false
last_old [] zero count low = refl
last_old [] (suc at) count low = refl
last_old (c ∷ cs) zero count low = grind (arith, nat_tests, low.0)
last_old (c ∷ cs) (suc at) count low = last_old cs at count low.1

module _ (f : Former) (spare : ℕ) (m : MasterState) (room : HasRoomSince f m spare) (low : Each (λ (c : Captured). c.number ≤ m.captured) m.captures) where
  abbrev last_behind : Bool
  last_behind = is_captured_behind f.captured (slice_get m.captures (length m.captures - 1))

  -- the last read was captured since, and it alone
  abbrev IsNew : Type 0
  IsNew = (f.captured < m.captured) × (f.round < m.round) × IsLastNew f.captured m

  same_low : m.captured ≡ f.captured → Each (λ (c : Captured). c.number ≤ f.captured) m.captures
  same_low same = subst (λ (count : ℕ). Each (λ (c : Captured). c.number ≤ count) m.captures) same low

  new_behind : IsLastNew f.captured m → last_behind ≡ true
  new_behind new =
      let last : slice_get m.captures (length m.captures - 1) ≡ Some new.1 =
      subst (λ (cs : List Captured). slice_get cs (length cs - 1) ≡ Some new.1) (sym new.2) (last_there new.0 new.1) in
      let behind : nat_lt f.captured new.1.number ≡ true = grind (arith, nat_tests, new.4) in
      ap (is_captured_behind f.captured) last ∙ behind

  -- where the last read was captured before, all were
  pub none_captured : last_behind ≡ false → new_captures f.captured m.captures ≡ []
  none_captured none = go room.captures
    where
      go : (m.captured ≡ f.captured) ⊎ IsLastNewIfAny f m → new_captures f.captured m.captures ≡ []
      go (inl same) = none_new m.captures f.captured (same_low same)
      go (inr (inl old)) = none_new m.captures f.captured old
      go (inr (inr more)) = not_both (sym none ∙ new_behind more.2)

  -- where it was captured behind that number, it is the new one
  pub one_captured : last_behind ≡ true → IsNew
  one_captured one = go room.captures
    where
      old_last : Each (λ (c : Captured). c.number ≤ f.captured) m.captures → IsNew
      old_last old = not_both (sym (last_old m.captures (length m.captures - 1) f.captured old) ∙ one)

      go : (m.captured ≡ f.captured) ⊎ IsLastNewIfAny f m → IsNew
      go (inl same) = old_last (same_low same)
      go (inr (inl old)) = old_last old
      go (inr (inr more)) = more

-- where a round began no read was answered at once
pub began_none : (f : Former) (m : MasterState) → f.round < m.round → has_answered f m ≡ false
began_none f m began =
    let other : (m.round == f.round) ≡ false = grind (arith, nat_tests, began) in
    rw other (none_of (nat_lt f.captured m.captured))
  where
    none_of : (b : Bool) → (b && false) ≡ false
    none_of true = refl
    none_of false = refl

-- a read that was answered at once took a number
pub answered_more : (f : Former) (m : MasterState) → has_answered f m ≡ true → f.captured < m.captured
answered_more f m answers = go (nat_lt f.captured m.captured) refl answers
  where
    go : (b : Bool) → nat_lt f.captured m.captured ≡ b → (b && (m.round == f.round)) ≡ true → f.captured < m.captured
    go true more both = grind (arith, nat_tests, more)
    go false less both = absurd cc

pub last_is_new : (captured : ℕ) (m : MasterState) (new : IsLastNew captured m) → new_captures captured m.captures ≡ new.1 ∷ []
last_is_new captured m new = rw new.2 (last_new new.0 new.1 captured new.3 new.4)
