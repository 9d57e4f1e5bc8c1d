-- What came, one part behind the other.
use Rattle.std.specs.Prelude.{◌≡◌, ℕ, ◌-◌, ◌^◌, ◌<◌, ◌≤◌, List, [], ◌∷◌, ◌++◌, length, Option, Some, None, refl}
use Rattle.std.proofs.Common.{sym, ◌∙◌, ap, subst, arith, append_assoc}
use Rattle.std.proofs.lemmas.List.{append-nil}
use Rattle.curp_journal.specs.declared.arrived.Arrived.{Arrived}
use Rattle.curp_parcels.specs.Reading.{IsNextParcel, place_behind}
use Rattle.curp_filter.specs.Coming.{Comes, arrival_in, arrivals_of, arriving, came_last, came_together, number_behind, parcel}
use Rattle.curp_filter.specs.declared.came.Came.{Came}
use Rattle.curp_filter.specs.declared.came.PassedOver.{PassedOver}
use Rattle.curp_told.specs.Told.{input_behind}

-- ---- from the bytes

pub comes_again : (xs ys : List Came) (bytes mid rest : List ℕ) (p q r : ℕ) → Comes xs bytes p mid q → Comes ys mid q rest r → Comes (xs ++ ys) bytes p rest r
comes_again [] ys bytes mid rest p q r first second =
    subst (λ (n : ℕ). Comes ys bytes n rest r) first.1 (subst (λ (l : List ℕ). Comes ys l q rest r) first.0 second)
comes_again (x ∷ xs) ys bytes mid rest p q r first second =
    (first.0, first.1, first.2, comes_again xs ys first.0 mid rest first.1 q r first.3 second)

pub comes_one : (c : Came) (bytes rest : List ℕ) (p q : ℕ) → IsNextParcel bytes p (parcel c) rest q → Comes (c ∷ []) bytes p rest q
comes_one c bytes rest p q is = (rest, q, is, (refl, refl))

pub comes_more : (xs : List Came) (c : Came) (bytes mid rest : List ℕ) (p q r : ℕ) → Comes xs bytes p mid q → IsNextParcel mid q (parcel c) rest r → Comes (xs ++ c ∷ []) bytes p rest r
comes_more xs c bytes mid rest p q r before is = comes_again xs (c ∷ []) bytes mid rest p q r before (comes_one c mid rest q r is)

-- ---- what a node is given

pub arrivals-append : (xs ys : List Came) → arrivals_of (xs ++ ys) ≡ arrivals_of xs ++ arrivals_of ys
arrivals-append [] ys = refl
arrivals-append (x ∷ xs) ys =
    ap (λ (l : List Arrived). arrival_in x ++ l) (arrivals-append xs ys) ∙ sym (append_assoc (arrival_in x) (arrivals_of xs) (arrivals_of ys))

arrivals_arriving : (xs : List Arrived) → arrivals_of (arriving xs) ≡ xs
arrivals_arriving [] = refl
arrivals_arriving (x ∷ xs) = ap (λ (l : List Arrived). x ∷ l) (arrivals_arriving xs)

arrivals_last : (last : Option PassedOver) → arrivals_of (came_last last) ≡ []
arrivals_last None = refl
arrivals_last (Some it) = refl

pub arrivals_together : (xs : List Arrived) (last : Option PassedOver) → arrivals_of (came_together xs last) ≡ xs
arrivals_together xs last =
    arrivals-append (arriving xs) (came_last last)
    ∙ ap (λ (l : List Arrived). arrivals_of (arriving xs) ++ l) (arrivals_last last)
    ∙ append-nil (arrivals_of (arriving xs))
    ∙ arrivals_arriving xs

-- ---- their numbers

pub number-append : (n : ℕ) (xs ys : List Came) → number_behind n (xs ++ ys) ≡ number_behind (number_behind n xs) ys
number-append n [] ys = refl
number-append n (x ∷ xs) ys = number-append (input_behind n 1) xs ys

pub number_arriving : (n : ℕ) (xs : List Arrived) → n < 2 ^ 64 → number_behind n (arriving xs) ≡ place_behind n (length xs)
number_arriving n [] small = omega (arith, small)
number_arriving n (x ∷ xs) small = number_arriving (input_behind n 1) xs (omega (arith, small)) ∙ omega (arith, small)

pub number_small : (n : ℕ) (xs : List Came) → n < 2 ^ 64 → number_behind n xs < 2 ^ 64
number_small n [] small = small
number_small n (x ∷ xs) small = number_small (input_behind n 1) xs (omega (arith, small))

number_no_less : (n : ℕ) (xs : List Came) → n < 2 ^ 64 → n ≤ number_behind n xs
number_no_less n [] small = omega arith
number_no_less n (x ∷ xs) small =
    let more = number_no_less (input_behind n 1) xs (omega (arith, small)) in
    omega (arith, small, more)

pub number_rises : (n : ℕ) (xs : List Came) → n < 2 ^ 64 - 1 → 1 ≤ length xs → n < number_behind n xs
number_rises n [] small some = absurd (omega (arith, some))
number_rises n (x ∷ xs) small some =
    let more = number_no_less (input_behind n 1) xs (omega (arith, small)) in
    omega (arith, small, more)

pub number_together : (n : ℕ) (xs : List Arrived) (last : Option PassedOver) (behind next : ℕ) → behind ≡ number_behind n (arriving xs) → next ≡ number_behind behind (came_last last) → next ≡ number_behind n (came_together xs last)
number_together n xs last behind next counted is =
    is ∙ ap (λ (m : ℕ). number_behind m (came_last last)) counted ∙ sym (number-append n (arriving xs) (came_last last))
