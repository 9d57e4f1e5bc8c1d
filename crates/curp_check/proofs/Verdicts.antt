-- The clauses of an order by what is found, and the verdict by the clauses.
use Rattle.std.proofs.Common.{◌≡◌, ◌<◌, ◌↔◌, ◌⊎◌, inl, inr, ℕ, List, length, Some, Result, Ok, Err, IfOk, refl, sym, ap, ◌∙◌, subst, arith}
use Rattle.curp_base.specs.Words.{At, Each}
use Rattle.curp_base.proofs.Lists.{Each-at, Each-from_at, at_within}
use Rattle.curp_cmd.specs.declared.command.RequestId.{RequestId}
use Rattle.curp_order.specs.Order.{IsOrder, answers, Asked}
use Rattle.curp_order.specs.declared.Event.{Event}
use Rattle.curp_order.specs.declared.Event.TheVariants.{Invoke, Complete}
use Rattle.curp_check.specs.Found.{AreInTime, Finder, FindsPlaces, HasAnswerOfPlace, IsInvoked, IsFound}
use Rattle.curp_check.specs.Verdict.{AreInvoked, EachIsAnswered, EachIsInTime, EachStands, Holds, IsFirstBroken, IsVerdict, number_of}
use Rattle.curp_check.specs.declared.verdict.Clause.{Clause}
use Rattle.curp_check.specs.declared.verdict.Clause.TheVariants.{Invoked, Stands, Answered, InTime}
use Rattle.curp_check.specs.declared.verdict.Verdict.{Verdict}
use Rattle.curp_check.specs.declared.verdict.Verdict.TheVariants as verdict

module _ (events : List Event) (order : List Asked) where
  -- ---- the first clause

  pub invoked_from_each : (find : Finder) → FindsPlaces (length order) find order → Each (IsInvoked events) order → AreInvoked events order
  invoked_from_each find f each = record {
    invoked = λ k x at. Each-at (IsInvoked events) order each k x at;
    once = λ j k x y at_x at_y same.
        let first = f.each j x (at_within order j x at_x) at_x in
        let second = f.each k y (at_within order k y at_y) at_y in
        let both : Some j ≡ Some k = sym first ∙ ap find same ∙ second in
        cc;
  }

  pub each_from_invoked : AreInvoked events order → Each (IsInvoked events) order
  each_from_invoked holds = Each-from_at (IsInvoked events) order holds.invoked

  -- ---- the others, where requests are found at their places

  module _ (find : Finder) (f : FindsPlaces (length order) find order) where
    -- a request of the order is found at its place
    found_at : (k : ℕ) (x : Asked) (id : RequestId) → At order k x → x.0 ≡ id → find id ≡ Some k
    found_at k x id at is = ap find (sym is) ∙ f.each k x (at_within order k x at) at

    pub stand_from_each : Each (IsFound find) events → EachStands events order
    stand_from_each each i id a at =
        let placed = Each-at (IsFound find) events each i (Complete id a) at in
        let there = f.there id placed.0 placed.1 in
        (placed.0, there.1.0, there.1.1, there.1.2)

    pub each_from_stand : EachStands events order → Each (IsFound find) events
    each_from_stand holds = Each-from_at (IsFound find) events one
      where
        one : (i : ℕ) (e : Event) → At events i e → IsFound find e
        one i (Invoke id c) at = tt
        one i (Complete id a) at = let s = holds i id a at in (s.0, found_at s.0 s.1 id s.2 s.3)

    pub answered_from_each : Each (HasAnswerOfPlace find (answers order)) events → EachIsAnswered events order
    answered_from_each each i id a at k x here is =
        let said = Each-at (HasAnswerOfPlace find (answers order)) events each i (Complete id a) at in
        said k (found_at k x id here is)

    pub each_from_answered : EachIsAnswered events order → Each (HasAnswerOfPlace find (answers order)) events
    each_from_answered holds = Each-from_at (HasAnswerOfPlace find (answers order)) events one
      where
        one : (i : ℕ) (e : Event) → At events i e → HasAnswerOfPlace find (answers order) e
        one i (Invoke id c) at = tt
        one i (Complete id a) at = λ k found.
            let there = f.there id k found in
            holds i id a at k there.1.0 there.1.1 there.1.2

    pub in_time_from_found : AreInTime (length events) find events → EachIsInTime events order
    in_time_from_found t i j earlier later a c before at_i at_j k l x y at_k is_k at_l is_l =
        t i j earlier later a c before (at_within events j (Invoke later c) at_j) at_i at_j k l
        (found_at k x earlier at_k is_k) (found_at l y later at_l is_l)

    pub found_from_in_time : EachIsInTime events order → AreInTime (length events) find events
    found_from_in_time holds i j earlier later a c before below at_i at_j k l found_k found_l =
        let first = f.there earlier k found_k in
        let second = f.there later l found_l in
        holds i j earlier later a c before at_i at_j k l first.1.0 second.1.0 first.1.1 first.1.2 second.1.1 second.1.2

  -- ---- the verdict

  pub is_order : AreInvoked events order → EachStands events order → EachIsAnswered events order → EachIsInTime events order → IsOrder events order
  is_order invoked stands answered in_time = record {
    invoked = invoked.invoked;
    once = invoked.once;
    stands = stands;
    answered = answered;
    in_time = in_time;
  }

  pub first_broken : (AreInvoked events order → ⊥) → IsFirstBroken events order Invoked
  first_broken broken = record { broken = broken; earlier = earlier }
    where
      earlier : (other : Clause) → number_of other < 1 → Holds events order other
      earlier Invoked less = absurd (omega arith)
      earlier Stands less = absurd (omega arith)
      earlier Answered less = absurd (omega arith)
      earlier InTime less = absurd (omega arith)

  pub second_broken : AreInvoked events order → (EachStands events order → ⊥) → IsFirstBroken events order Stands
  second_broken invoked broken = record { broken = broken; earlier = earlier }
    where
      earlier : (other : Clause) → number_of other < 2 → Holds events order other
      earlier Invoked less = invoked
      earlier Stands less = absurd (omega arith)
      earlier Answered less = absurd (omega arith)
      earlier InTime less = absurd (omega arith)

  pub third_broken : AreInvoked events order → EachStands events order → (EachIsAnswered events order → ⊥) → IsFirstBroken events order Answered
  third_broken invoked stands broken = record { broken = broken; earlier = earlier }
    where
      earlier : (other : Clause) → number_of other < 3 → Holds events order other
      earlier Invoked less = invoked
      earlier Stands less = stands
      earlier Answered less = absurd (omega arith)
      earlier InTime less = absurd (omega arith)

  pub fourth_broken : AreInvoked events order → EachStands events order → EachIsAnswered events order → (EachIsInTime events order → ⊥) → IsFirstBroken events order InTime
  fourth_broken invoked stands answered broken = record { broken = broken; earlier = earlier }
    where
      earlier : (other : Clause) → number_of other < 4 → Holds events order other
      earlier Invoked less = invoked
      earlier Stands less = stands
      earlier Answered less = answered
      earlier InTime less = absurd (omega arith)

-- ---- what a verdict tells

all_hold : (events : List Event) (order : List Asked) (clause : Clause) → IsOrder events order → Holds events order clause
all_hold events order Invoked is = record { invoked = is.invoked; once = is.once }
all_hold events order Stands is = is.stands
all_hold events order Answered is = is.answered
all_hold events order InTime is = is.in_time

same_number : (one other : Clause) → number_of one ≡ number_of other → one ≡ other
same_number Invoked Invoked is = refl
same_number Invoked Stands is = absurd cc
same_number Invoked Answered is = absurd cc
same_number Invoked InTime is = absurd cc
same_number Stands Invoked is = absurd cc
same_number Stands Stands is = refl
same_number Stands Answered is = absurd cc
same_number Stands InTime is = absurd cc
same_number Answered Invoked is = absurd cc
same_number Answered Stands is = absurd cc
same_number Answered Answered is = refl
same_number Answered InTime is = absurd cc
same_number InTime Invoked is = absurd cc
same_number InTime Stands is = absurd cc
same_number InTime Answered is = absurd cc
same_number InTime InTime is = refl

one_broken : (events : List Event) (order : List Asked) (one other : Clause) → IsFirstBroken events order one → IsFirstBroken events order other → one ≡ other
one_broken events order one other first second = elim (compared (number_of one) (number_of other)) [
  | inl less ↦ absurd (first.broken (second.earlier one less))
  | inr rest ↦ elim rest [
    | inl same ↦ same_number one other same
    | inr more ↦ absurd (second.broken (first.earlier other more))
  ]
]
  where
    compared : (m n : ℕ) → (m < n) ⊎ ((m ≡ n) ⊎ (n < m))
    compared m n = grind arith

broken_exactly : (events : List Event) (order : List Asked) (v : Verdict) → IsVerdict events order v → (clause : Clause) → (v ≡ verdict.No clause) ↔ IsFirstBroken events order clause
broken_exactly events order verdict.Yes is clause = (λ e. absurd cc, λ first. absurd (first.broken (all_hold events order clause is)))
broken_exactly events order (verdict.No told) is clause = (
  λ e. let same : told ≡ clause = cc in subst (λ (x : Clause). IsFirstBroken events order x) same is,
  λ first. ap (λ (x : Clause). verdict.No x) (one_broken events order told clause is first),
)

pub tells_broken : (events : List Event) (order : List Asked) {E : Type 0} (r : Result Verdict E) → IfOk r (IsVerdict events order) → (clause : Clause)
    → IfOk r (λ v. (v ≡ verdict.No clause) ↔ IsFirstBroken events order clause)
tells_broken events order (Ok v) is clause = broken_exactly events order v is clause
tells_broken events order (Err why) is clause = tt
