-- What is said of inputs, one part behind the other.
use Rattle.std.specs.Prelude.{◌≡◌, ℕ, List, [], ◌∷◌, ◌++◌, Option, Some, None, refl}
use Rattle.std.proofs.Common.{sym, ◌∙◌, ap, append_assoc}
use Rattle.std.proofs.lemmas.Grind.{flat_map-append}
use Rattle.curp_durable.proofs.Standings.{after-append}
use Rattle.curp_durable.specs.Standing.{Standing, after, answers_of, stepped}
use Rattle.curp_durable.specs.declared.stand.Answered.{Answered}
use Rattle.curp_journal.specs.declared.arrived.Arrived.{Arrived}
use Rattle.curp_msg.specs.Moved.{Moved}
use Rattle.curp_msg.specs.Input.{Input}
use Rattle.curp_parcels.specs.declared.outgoing.Outgoing.{Outgoing}
use Rattle.curp_told.specs.Told.{all_told, input_behind, parcel_of, parcels_of}
use Rattle.curp_filter.specs.Coming.{arrival_in, arrivals_of, arriving, came_last, came_together, number_behind}
use Rattle.curp_filter.specs.Saying.{last_said, said, said_of, text_of}
use Rattle.curp_filter.specs.declared.came.Came.{Came}
use Rattle.curp_filter.specs.declared.came.Came.TheVariants as came
use Rattle.curp_filter.specs.declared.came.PassedOver.{PassedOver}

module _ {N : Type 0} (machine : N → Input → Moved N) where
  said-append : (xs ys : List Came) (s : Standing N) (n : ℕ) → said machine s n (xs ++ ys) ≡ said machine s n xs ++ said machine (after machine s (arrivals_of xs)) (number_behind n xs) ys
  said-append [] ys s n = refl
  said-append (x ∷ xs) ys s n =
      let s2 = after machine s (arrival_in x) in
      let n2 = input_behind n 1 in
      ap (λ (l : List Outgoing). said_of machine s n x ++ l)
      (said-append xs ys s2 n2
      ∙ ap (λ (t : Standing N). said machine s2 n2 xs ++ said machine t (number_behind n2 xs) ys) (sym (after-append machine (arrival_in x) (arrivals_of xs) s)))
      ∙ sym (append_assoc (said_of machine s n x) (said machine s2 n2 xs) (said machine (after machine s (arrival_in x ++ arrivals_of xs)) (number_behind n2 xs) ys))

  text-append : (xs ys : List Came) (s : Standing N) (n : ℕ) → text_of machine s n (xs ++ ys) ≡ text_of machine s n xs ++ text_of machine (after machine s (arrivals_of xs)) (number_behind n xs) ys
  text-append xs ys s n =
      ap parcels_of (said-append xs ys s n) ∙ flat_map-append parcel_of (said machine s n xs) (said machine (after machine s (arrivals_of xs)) (number_behind n xs) ys)

  said_arriving : (xs : List Arrived) (s : Standing N) (n : ℕ) → said machine s n (arriving xs) ≡ all_told n (answers_of machine s xs)
  said_arriving [] s n = refl
  said_arriving (x ∷ xs) s n =
      ap (λ (l : List Outgoing). said_of machine s n (came.Arrived x) ++ l) (said_arriving xs (stepped machine s x) (input_behind n 1))

  text_last : (last : Option PassedOver) (s : Standing N) (n : ℕ) → text_of machine s n (came_last last) ≡ parcels_of (last_said n last)
  text_last None s n = refl
  text_last (Some it) s n = refl

  -- what the code puts together is the text of a batch
  text_together : (xs : List Arrived) (last : Option PassedOver) (s : Standing N) (n behind : ℕ) → behind ≡ number_behind n (arriving xs)
      → parcels_of (all_told n (answers_of machine s xs)) ++ parcels_of (last_said behind last) ≡ text_of machine s n (came_together xs last)
  text_together xs last s n behind is =
      let s2 = after machine s (arrivals_of (arriving xs)) in
      ap (λ (l : List Outgoing). parcels_of l ++ parcels_of (last_said behind last)) (sym (said_arriving xs s n))
      ∙ ap (λ (m : ℕ). text_of machine s n (arriving xs) ++ parcels_of (last_said m last)) is
      ∙ ap (λ (l : List ℕ). text_of machine s n (arriving xs) ++ l) (sym (text_last last s2 (number_behind n (arriving xs))))
      ∙ sym (text-append (arriving xs) (came_last last) s n)

  pub text_said : (xs : List Arrived) (last : Option PassedOver) (s : Standing N) (n behind : ℕ) (text : List ℕ) (answers : List Answered) → answers ≡ answers_of machine s xs
      → text ≡ parcels_of (all_told n answers) ++ parcels_of (last_said behind last) → behind ≡ number_behind n (arriving xs) → text ≡ text_of machine s n (came_together xs last)
  text_said xs last s n behind text answers given is counted =
      is ∙ ap (λ (l : List Answered). parcels_of (all_told n l) ++ parcels_of (last_said behind last)) given ∙ text_together xs last s n behind counted

  pub texts_again : (xs ys : List Came) (old mid : Standing N) (n m : ℕ) → mid ≡ after machine old (arrivals_of xs) → m ≡ number_behind n xs
      → text_of machine old n xs ++ text_of machine mid m ys ≡ text_of machine old n (xs ++ ys)
  texts_again xs ys old mid n m first counted =
      ap (λ (s : Standing N). text_of machine old n xs ++ text_of machine s m ys) first
      ∙ ap (λ (k : ℕ). text_of machine old n xs ++ text_of machine (after machine old (arrivals_of xs)) k ys) counted
      ∙ sym (text-append xs ys old n)
