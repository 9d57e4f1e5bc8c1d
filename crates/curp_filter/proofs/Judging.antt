-- What came is given to the node just where it may take it, one part behind the other.
use Rattle.std.specs.Prelude.{◌≡◌, ◌≤◌, ◌+◌, ◌==◌, ◌++◌, ℕ, Bool, true, false, List, [], ◌∷◌, length, Option, Some, None, IfSome, option_to_list}
use Rattle.std.proofs.Common.{inl, inr, subst, arith, cond}
use Rattle.curp_base.proofs.Lists.{Each-append}
use Rattle.curp_base.specs.Words.{Each}
use Rattle.curp_durable.proofs.Standings.{after-append}
use Rattle.curp_durable.specs.Standing.{Standing, after, moved_by, number_of, stepped, taken, taken_one}
use Rattle.curp_journal.specs.Own.{IsArrivedMessage, IsOwn}
use Rattle.curp_journal.specs.declared.arrived.Arrived.{Arrived}
use Rattle.curp_msg.specs.Moved.{Moved}
use Rattle.curp_msg.specs.Input.{Input}
use Rattle.curp_filter.specs.Coming.{arrival_in, arrivals_of, came_together}
use Rattle.curp_filter.specs.Taking.{AreJudged, AreJudgedTogether, BeginsWithMessage, IsJudged, IsUnbegun, MayTake}
use Rattle.curp_filter.specs.declared.came.Came.{Came}
use Rattle.curp_filter.specs.declared.came.Came.TheVariants as came
use Rattle.curp_filter.specs.declared.came.PassedOver.{PassedOver}
use Rattle.curp_filter.specs.declared.came.PassedOver.TheVariants as passed
use Rattle.curp_filter.specs.declared.came.Role.{Role}

module _ (role : Role) where
  takes_on : (count more : ℕ) → (IsUnbegun role more → ⊥) → (a : Arrived) → MayTake role count a → MayTake role more a
  takes_on count more begun a may = record { own = may.own; begins = λ un. absurd (begun un) }

  judged_on : (count more : ℕ) → (IsUnbegun role count → ⊥) → (it : PassedOver) → IsJudged role count (came.PassedOver it) → IsJudged role more (came.PassedOver it)
  judged_on count more begun (passed.Misdirected a) is = λ may. is (takes_on more count begun a may)
  judged_on count more begun (passed.NoParcel at) is = tt

  begun_on : (count more : ℕ) → count ≤ more → (IsUnbegun role count → ⊥) → IsUnbegun role more → ⊥
  begun_on count more le begun un = begun (un.0, omega (arith, le, un.1))

module _ {N : Type 0} (machine : N → Input → Moved N) (role : Role) where
  -- ---- what came together

  no_lower : (b : Bool) (s : Standing N) (a : Arrived) → s.count ≤ (cond b (moved_by machine s a) s).count
  no_lower true s a = omega arith
  no_lower false s a = omega arith

  all_judged : (xs : List Arrived) (last : Option PassedOver) (count : ℕ) (s : Standing N) → (IsUnbegun role count → ⊥) → count ≤ s.count → Each (MayTake role count) xs
      → IfSome last (λ it. IsJudged role count (came.PassedOver it)) → AreJudged machine role s (came_together xs last)
  all_judged [] None count s begun le each over = tt
  all_judged [] (Some it) count s begun le each over = (judged_on role count s.count begun it over, tt)
  all_judged (x ∷ xs) last count s begun le each over =
      let higher : s.count ≤ (stepped machine s x).count = no_lower (number_of machine s x == 0) s x in
      (takes_on role count s.count (begun_on role count s.count le begun) x each.0, all_judged xs last count (stepped machine s x) begun (omega (arith, le, higher)) each.1 over)

  one_judged : (xs : List Arrived) (last : Option PassedOver) (s : Standing N) → AreJudgedTogether role s.count xs last → length xs + length (option_to_list last) ≤ 1 → AreJudged machine role s (came_together xs last)
  one_judged [] None s is few = tt
  one_judged [] (Some it) s is few = (is.passed_over, tt)
  one_judged (x ∷ []) None s is few = (is.each.0, tt)
  one_judged (x ∷ []) (Some it) s is few = absurd (omega (arith, few))
  one_judged (x ∷ y ∷ xs) last s is few = absurd (omega (arith, few))

  pub judged_together : (xs : List Arrived) (last : Option PassedOver) (s : Standing N) → AreJudgedTogether role s.count xs last → AreJudged machine role s (came_together xs last)
  judged_together xs last s is = elim is.one_alone [
    | inl begun ↦ all_judged xs last s.count s begun (omega arith) is.each is.passed_over
    | inr few ↦ one_judged xs last s is few
  ]

  -- ---- one part behind the other

  judged-append : (xs ys : List Came) (s : Standing N) → AreJudged machine role s xs → AreJudged machine role (after machine s (arrivals_of xs)) ys → AreJudged machine role s (xs ++ ys)
  judged-append [] ys s first second = second
  judged-append (x ∷ xs) ys s first second =
      (first.0, judged-append xs ys (after machine s (arrival_in x)) first.1 (subst (λ (t : Standing N). AreJudged machine role t ys) (after-append machine (arrival_in x) (arrivals_of xs) s) second))

  pub judged_again : (xs ys : List Came) (old mid : Standing N) → mid ≡ after machine old (arrivals_of xs) → AreJudged machine role old xs → AreJudged machine role mid ys → AreJudged machine role old (xs ++ ys)
  judged_again xs ys old mid is first second = judged-append xs ys old first (subst (λ (t : Standing N). AreJudged machine role t ys) is second)

  -- ---- what the node takes

  one_own : (b : Bool) (a : Arrived) → IsOwn role.id a → Each (IsOwn role.id) (cond b (a ∷ []) [])
  one_own true a own = (own, tt)
  one_own false a own = tt

  pub own_taken : (cames : List Came) (s : Standing N) → AreJudged machine role s cames → Each (IsOwn role.id) (taken machine s (arrivals_of cames))
  own_taken [] s judged = tt
  own_taken (came.Arrived a ∷ more) s judged =
      Each-append (IsOwn role.id) (taken_one machine s a) (taken machine (stepped machine s a) (arrivals_of more)) (one_own (number_of machine s a == 0) a judged.0.own) (own_taken more (stepped machine s a) judged.1)
  own_taken (came.PassedOver it ∷ more) s judged = own_taken more s judged.1

  pub message_first : (cames : List Came) (s : Standing N) → AreJudged machine role s cames → IsUnbegun role s.count → BeginsWithMessage (taken machine s (arrivals_of cames))
  message_first [] s judged un = tt
  message_first (came.Arrived a ∷ more) s judged un = go (number_of machine s a == 0) (judged.0.begins un) judged.1 (λ rest. message_first more s rest un)
    where
      go : (b : Bool) → IsArrivedMessage a → AreJudged machine role (cond b (moved_by machine s a) s) more
          → (AreJudged machine role s more → BeginsWithMessage (taken machine s (arrivals_of more)))
          → BeginsWithMessage (cond b (a ∷ []) [] ++ taken machine (cond b (moved_by machine s a) s) (arrivals_of more))
      go true is rest refused = is
      go false is rest refused = refused rest
  message_first (came.PassedOver it ∷ more) s judged un = message_first more s judged.1 un
