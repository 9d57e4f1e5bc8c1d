-- What an answer of the parcels says of what came.
use Rattle.std.specs.Prelude.{◌≡◌, ℕ, ◌<◌, List, [], ◌∷◌, ◌++◌, length, Option, Some, None, IfSome, Result, Ok, Err, IfOk, IfErr}
use Rattle.std.specs.Int.{to_be_bytes, w32}
use Rattle.std.specs.Result.{result_ok}
use Rattle.std.proofs.Common.{sym, ◌∙◌, ap, subst, arith, length-append}
use Rattle.std.proofs.lemmas.List.{map-append}
use Rattle.curp_journal.specs.declared.arrived.Arrived.{Arrived}
use Rattle.curp_parcels.proofs.Lengths.{length-be}
use Rattle.curp_parcels.specs.Parcels.{behind_length}
use Rattle.curp_parcels.specs.Reading.{IsNextParcel, OfBytes, ParcelsRead, StandsFirst}
use Rattle.curp_parcels.specs.declared.parcels.NextParcel.{NextParcel}
use Rattle.curp_parcels.specs.declared.parcels.NextParcel.TheVariants as next
use Rattle.curp_filter.specs.Coming.{Comes, IsEndOf, IsReadyCame, arriving, came_together, parcel}
use Rattle.curp_filter.specs.declared.came.Came.{Came}
use Rattle.curp_filter.specs.declared.came.Came.TheVariants as came
use Rattle.curp_filter.specs.declared.came.PassedOver.{PassedOver}
use Rattle.curp_filter.specs.declared.came.PassedOver.TheVariants as passed
use Rattle.curp_filter.specs.declared.end.FilterEnd.{FilterEnd}
use Rattle.curp_filter.proofs.Coming.{comes_again, comes_more}

-- ---- of the bytes read ahead

ended : (answer : NextParcel) (it : FilterEnd) (bytes rest : List ℕ) (p q : ℕ) → IsEndOf answer it → OfBytes answer → IsNextParcel bytes p answer rest q → (rest ≡ bytes) × (q ≡ p)
ended (next.Arrived a) it bytes rest p q ends of_bytes n = absurd ends
ended (next.NoParcel at) it bytes rest p q ends of_bytes n = absurd ends
ended next.End it bytes rest p q ends of_bytes n = absurd of_bytes
ended (next.Inside at) it bytes rest p q ends of_bytes n = absurd of_bytes
ended (next.TooLong at) it bytes rest p q ends of_bytes n = (n.2.left, n.2.counted)
ended next.ReadFault it bytes rest p q ends of_bytes n = absurd of_bytes
ended next.NoMemory it bytes rest p q ends of_bytes n = (n.left, n.counted)

pub ready_came : (answer : NextParcel) (given : Result Came FilterEnd) (r : Option Came) (bytes rest : List ℕ) (p q : ℕ) → r ≡ result_ok given → IfOk given (λ c. parcel c ≡ answer) → IfErr given (IsEndOf answer)
    → OfBytes answer → IsNextParcel bytes p answer rest q → IsReadyCame bytes p r rest q
ready_came answer (Ok c) r bytes rest p q is came ends of_bytes n =
    subst (λ (o : Option Came). IsReadyCame bytes p o rest q) (sym is) (subst (λ (a : NextParcel). IsNextParcel bytes p a rest q) (sym came) n)
ready_came answer (Err it) r bytes rest p q is came ends of_bytes n =
    subst (λ (o : Option Came). IsReadyCame bytes p o rest q) (sym is) (ended answer it bytes rest p q ends of_bytes n)

shorter_first : (old new : ParcelsRead) (content : List ℕ) → StandsFirst (old.ahead ++ []) content (new.ahead ++ []) → length new.ahead < length old.ahead
shorter_first old new content s =
    omega (
      arith,
      ap length s.is,
      length-append old.ahead [],
      length-append (behind_length content) (new.ahead ++ []),
      length-append new.ahead [],
      length-append (to_be_bytes w32 (length content)) content,
      length-be (length content),
    )

-- what came is no longer ahead
pub shorter : (c : Came) (old new : ParcelsRead) → IsReadyCame (old.ahead ++ []) old.passed (Some c) (new.ahead ++ []) new.passed → length new.ahead < length old.ahead
shorter (came.Arrived a) old new g = shorter_first old new g.content g.first
shorter (came.PassedOver (passed.Misdirected a)) old new g = shorter_first old new g.content g.first
shorter (came.PassedOver (passed.NoParcel at)) old new g = shorter_first old new g.1.content g.1.first

pub shrinks : (r : Option Came) (old new : ParcelsRead) → ((left : List ℕ) → IsReadyCame (old.ahead ++ left) old.passed r (new.ahead ++ left) new.passed) → IfSome r (λ _. length new.ahead < length old.ahead)
shrinks None old new is = tt
shrinks (Some c) old new is = shorter c old new (is [])

-- ---- those that are answered together

module _ (xs : List Arrived) (bytes mid rest : List ℕ) (p q r : ℕ) (before : Comes (arriving xs) bytes p mid q) (ready : Option Came) (is : IsReadyCame mid q ready rest r) where
  came_with : (c : Came) → ready ≡ Some c → Comes (arriving xs ++ c ∷ []) bytes p rest r
  came_with c there = comes_more (arriving xs) c bytes mid rest p q r before (subst (λ (o : Option Came). IsReadyCame mid q o rest r) there is)

  pub came_next : (x : Arrived) → ready ≡ Some (came.Arrived x) → Comes (arriving (xs ++ x ∷ [])) bytes p rest r
  came_next x there =
      subst (λ (l : List Came). Comes l bytes p rest r) (sym (map-append (λ (a : Arrived). came.Arrived a) xs (x ∷ []))) (came_with (came.Arrived x) there)

  pub came_behind : (it : PassedOver) → ready ≡ Some (came.PassedOver it) → Comes (came_together xs (Some it)) bytes p rest r
  came_behind it there = came_with (came.PassedOver it) there

  pub came_all : ready ≡ None → Comes (came_together xs None) bytes p rest r
  came_all there = comes_again (arriving xs) [] bytes mid rest p q r before (subst (λ (o : Option Came). IsReadyCame mid q o rest r) there is)

-- ---- an outcome is one thing

abbrev error_in : {A : Type 0} → Result A FilterEnd → FilterEnd → FilterEnd
error_in (Ok x) other = other
error_in (Err e) other = e

pub same_error : {A : Type 0} (r : Result A FilterEnd) (e f : FilterEnd) → r ≡ Err e → r ≡ Err f → e ≡ f
same_error {A} r e f one two = ap (λ (x : Result A FilterEnd). error_in x e) (sym one ∙ two)

pub never_both : {A : Type 0} (r : Result A FilterEnd) (x : A) (e : FilterEnd) → r ≡ Ok x → r ≡ Err e → ⊥
never_both r x e ok err = cc
