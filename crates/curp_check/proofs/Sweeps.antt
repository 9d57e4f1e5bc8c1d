-- Real time, as more of a history is looked at.
use Rattle.std.proofs.Common.{◌≡◌, ◌<◌, ◌≤◌, ◌+◌, ◌⊎◌, inl, inr, ℕ, List, max, nat_le, true, false, Option, Some, None, refl, sym, ap, ◌∙◌, subst, arith}
use Rattle.std.proofs.lemmas.Bool.Decides.{nat_tests}
use Rattle.curp_base.specs.Words.{At}
use Rattle.curp_base.proofs.Lists.{at_same}
use Rattle.curp_cmd.specs.declared.command.Answer.{Answer}
use Rattle.curp_cmd.specs.declared.command.Command.{Command}
use Rattle.curp_cmd.specs.declared.command.RequestId.{RequestId}
use Rattle.curp_order.specs.declared.Event.{Event}
use Rattle.curp_order.specs.declared.Event.TheVariants.{Invoke, Complete}
use Rattle.curp_check.proofs.Finding.{below_next}
use Rattle.curp_check.specs.Found.{AreInTime, Finder, is_up_to, later_of}

-- no place of what has completed among the first n events is past the latest, and the latest is one of them
pub record IsLatest (n : ℕ) (find : Finder) (events : List Event) (latest : Option ℕ) : Type 0 where
  pub none_past : (i : ℕ) (id : RequestId) (a : Answer) (k : ℕ) → i < n → At events i (Complete id a) → find id ≡ Some k
      → (m : ℕ) × (latest ≡ Some m) × (k ≤ m)
  pub reached : (m : ℕ) → latest ≡ Some m
      → (i : ℕ) × (i < n) × ((id : RequestId) × (a : Answer) × At events i (Complete id a) × (find id ≡ Some m))

same_request : (id other : RequestId) (a b : Answer) → Complete id a ≡ Complete other b → id ≡ other
same_request id other a b e = cc

same_invoked : (id other : RequestId) (c d : Command) → Invoke id c ≡ Invoke other d → id ≡ other
same_invoked id other c d e = cc

-- an invocation leaves the latest
pub invocation_latest : (n : ℕ) (find : Finder) (events : List Event) (id : RequestId) (c : Command) (latest : Option ℕ) → At events n (Invoke id c)
    → IsLatest n find events latest → IsLatest (n + 1) find events latest
invocation_latest n find events id c latest at l = record {
  none_past = λ i other a k below here found. elim (below_next i n below) [
    | inl less ↦ l.none_past i other a k less here found
    | inr same ↦
        let one : Complete other a ≡ Invoke id c = at_same events n _ _ (subst (λ (j : ℕ). At events j (Complete other a)) same here) at in
        absurd cc
  ];
  reached = λ m is. let was = l.reached m is in (was.0, omega (arith, was.1), was.2);
}

-- one that is found past the latest stands behind what completed before
pub invocation_in_time : (n : ℕ) (find : Finder) (events : List Event) (id : RequestId) (c : Command) (latest : Option ℕ) → At events n (Invoke id c)
    → IsLatest n find events latest → is_up_to latest (find id) ≡ false → AreInTime n find events → AreInTime (n + 1) find events
invocation_in_time n find events id c latest at l past t = λ i j earlier later a d before below completes invokes k p found place. elim (below_next j n below) [
  | inl less ↦ t i j earlier later a d before less completes invokes k p found place
  | inr same ↦
      let one : Invoke later d ≡ Invoke id c = at_same events n _ _ (subst (λ (m : ℕ). At events m (Invoke later d)) same invokes) at in
      let as_one : later ≡ id = same_invoked later id d c one in
      let bound = l.none_past i earlier a k (omega (arith, before, same)) completes found in
      let here : find id ≡ Some p = ap find (sym as_one) ∙ place in
      let test : nat_le p bound.0 ≡ false = sym (ap (λ (o : Option ℕ). is_up_to o (find id)) bound.1 ∙ ap (is_up_to (Some bound.0)) here) ∙ past in
      grind (arith, nat_tests, bound.2)
]

-- one that is found up to the latest doesn't
pub invocation_too_late : (n m : ℕ) (find : Finder) (events : List Event) (id : RequestId) (c : Command) (latest : Option ℕ) → n < m → At events n (Invoke id c)
    → IsLatest n find events latest → is_up_to latest (find id) ≡ true → AreInTime m find events → ⊥
invocation_too_late n m find events id c latest within at l late t = by latest (find id) refl refl late
  where
    by : (o p : Option ℕ) → latest ≡ o → find id ≡ p → is_up_to o p ≡ true → ⊥
    by None p is found late = absurd cc
    by (Some b) None is found late = absurd cc
    by (Some b) (Some p) is found late =
        let was = l.reached b is in
        let before : b < p = t was.0 n was.2.0 id was.2.1 c was.1 within was.2.2 at b p was.2.3 found in
        grind (arith, nat_tests)

-- a completion raises the latest
pub completion_latest : (n : ℕ) (find : Finder) (events : List Event) (id : RequestId) (a : Answer) (latest : Option ℕ) → At events n (Complete id a)
    → IsLatest n find events latest → IsLatest (n + 1) find events (later_of (find id) latest)
completion_latest n find events id a latest at l = by (find id) latest refl refl
  where
    old : (o : Option ℕ) → ((m : ℕ) → latest ≡ Some m → (q : ℕ) × (o ≡ Some q) × (m ≤ q)) → (i : ℕ) (other : RequestId) (b : Answer) (k : ℕ) → i < n → At events i (Complete other b) → find other ≡ Some k
        → (m : ℕ) × (o ≡ Some m) × (k ≤ m)
    old o rises i other b k less here found =
        let was = l.none_past i other b k less here found in
        let next = rises was.0 was.1 in
        (next.0, next.1, omega (arith, was.2, next.2))

    all : (o : Option ℕ) → ((m : ℕ) → latest ≡ Some m → (q : ℕ) × (o ≡ Some q) × (m ≤ q)) → ((k : ℕ) → find id ≡ Some k → (q : ℕ) × (o ≡ Some q) × (k ≤ q))
        → (i : ℕ) (other : RequestId) (b : Answer) (k : ℕ) → i < n + 1 → At events i (Complete other b) → find other ≡ Some k → (m : ℕ) × (o ≡ Some m) × (k ≤ m)
    all o rises covers i other b k below here found = elim (below_next i n below) [
      | inl less ↦ old o rises i other b k less here found
      | inr same ↦
          let one : other ≡ id = same_request other id b a (at_same events n _ _ (subst (λ (j : ℕ). At events j (Complete other b)) same here) at) in
          covers k (ap find (sym one) ∙ found)
    ]

    here : (m : ℕ) → find id ≡ Some m → (i : ℕ) × (i < n + 1) × ((r : RequestId) × (b : Answer) × At events i (Complete r b) × (find r ≡ Some m))
    here m found = (n, omega arith, (id, a, at, found))

    before : (m : ℕ) → latest ≡ Some m → (i : ℕ) × (i < n + 1) × ((r : RequestId) × (b : Answer) × At events i (Complete r b) × (find r ≡ Some m))
    before m is = let was = l.reached m is in (was.0, omega (arith, was.1), was.2)

    by : (p o : Option ℕ) → find id ≡ p → latest ≡ o → IsLatest (n + 1) find events (later_of p o)
    by None o found is = record {
      none_past = all o (λ m was. (m, sym is ∙ was, omega arith)) (λ k some. absurd (cc (found, some)));
      reached = λ m at_o. before m (is ∙ at_o);
    }
    by (Some p) None found is = record {
      none_past = all (Some p) (λ m was. absurd (cc (is, was))) (λ k some. (p, refl, grind (arith, found, some)));
      reached = λ m at_p. here m (found ∙ at_p);
    }
    by (Some p) (Some q) found is = record {
      none_past = all (Some (max p q)) (λ m was. let same : m ≡ q = cc (is, was) in (max p q, refl, omega (arith, same))) (λ k some. let same : k ≡ p = cc (found, some) in (max p q, refl, omega (arith, same)));
      reached = λ m at_max. let same : max p q ≡ m = cc in elim (which p q) [
        | inl first ↦ here m (found ∙ ap (λ j. Some j) (sym first ∙ same))
        | inr second ↦ before m (is ∙ ap (λ j. Some j) (sym second ∙ same))
      ];
    }
      where
        which : (p q : ℕ) → (max p q ≡ p) ⊎ (max p q ≡ q)
        which p q = grind arith

-- a completion comes behind no invocation that wasn't there
pub completion_in_time : (n : ℕ) (find : Finder) (events : List Event) (id : RequestId) (a : Answer) → At events n (Complete id a)
    → AreInTime n find events → AreInTime (n + 1) find events
completion_in_time n find events id a at t = λ i j earlier later b c before below completes invokes k p found place. elim (below_next j n below) [
  | inl less ↦ t i j earlier later b c before less completes invokes k p found place
  | inr same ↦
      let one : Invoke later c ≡ Complete id a = at_same events n _ _ (subst (λ (m : ℕ). At events m (Invoke later c)) same invokes) at in
      absurd cc
]
