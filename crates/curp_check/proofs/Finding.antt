-- Requests that are found, as more of a list is looked at.
use Rattle.std.proofs.Common.{◌≡◌, ◌<◌, ◌+◌, ◌⊎◌, inl, inr, ℕ, List, Bool, true, false, cond, is_eq, Option, Some, None, refl, sym, ap, ◌∙◌, subst, arith}
use Rattle.curp_base.specs.Words.{At}
use Rattle.curp_base.proofs.Lists.{at_same}
use Rattle.curp_cmd.specs.RequestId.{id_cmp}
use Rattle.curp_cmd.specs.declared.command.RequestId.{RequestId}
use Rattle.curp_order.specs.declared.Event.{Event}
use Rattle.curp_check.proofs.Ids.{self_tied, tied_same}
use Rattle.curp_check.specs.Found.{Finder, FindsInvocations, FindsPlaces, StandsTwice, invoked_by}
use Rattle.curp_order.specs.Order.{Asked}

-- a finder that finds one request more, or elsewhere
abbrev pub FindsMore : Finder → Finder → RequestId → ℕ → Type 0
FindsMore find more id n = (other : RequestId) → more other ≡ cond (is_eq (id_cmp id other)) (Some n) (find other)

none_is_some : {A B : Type 0} {o : Option A} {x : A} → o ≡ None → o ≡ Some x → B
none_is_some none some = absurd (cc (none, some))

same_place : {o : Option ℕ} {m n : ℕ} → o ≡ Some m → o ≡ Some n → m ≡ n
same_place first second = cc

-- below n + 1 is below n, or n
pub below_next : (k n : ℕ) → k < n + 1 → (k < n) ⊎ (k ≡ n)
below_next k n below = grind arith

-- it is found at its place
pub more_self : (find more : Finder) (id : RequestId) (n : ℕ) → FindsMore find more id n → more id ≡ Some n
more_self find more id n finds = finds id ∙ ap (λ b. cond b (Some n) (find id)) (self_tied id)

-- each other request is found where it was, and so is whatever is found
pub found_in_more : (find more : Finder) (id : RequestId) (n : ℕ) → FindsMore find more id n → (other : RequestId) (k : ℕ) → more other ≡ Some k
    → ((id ≡ other) × (k ≡ n)) ⊎ (find other ≡ Some k)
found_in_more find more id n finds other k found = by (is_eq (id_cmp id other)) refl
  where
    by : (b : Bool) → is_eq (id_cmp id other) ≡ b → ((id ≡ other) × (k ≡ n)) ⊎ (find other ≡ Some k)
    by true tied = inl (tied_same id other tied, same_place found (finds other ∙ ap (λ b. cond b (Some n) (find other)) tied))
    by false apart = inr (sym (finds other ∙ ap (λ b. cond b (Some n) (find other)) apart) ∙ found)

pub more_other : (find more : Finder) (id : RequestId) (n : ℕ) → FindsMore find more id n → (other : RequestId) → (id ≡ other → ⊥) → more other ≡ find other
more_other find more id n finds other apart = by (is_eq (id_cmp id other)) refl
  where
    by : (b : Bool) → is_eq (id_cmp id other) ≡ b → more other ≡ find other
    by true tied = absurd (apart (tied_same id other tied))
    by false tied = finds other ∙ ap (λ b. cond b (Some n) (find other)) tied

-- whatever was found before is found still
pub still_found : (find more : Finder) (id : RequestId) (n : ℕ) → FindsMore find more id n → (other : RequestId) (k : ℕ) → find other ≡ Some k
    → (j : ℕ) × (more other ≡ Some j)
still_found find more id n finds other k found = by (is_eq (id_cmp id other)) refl
  where
    by : (b : Bool) → is_eq (id_cmp id other) ≡ b → (j : ℕ) × (more other ≡ Some j)
    by true tied = (n, finds other ∙ ap (λ b. cond b (Some n) (find other)) tied)
    by false apart = (k, finds other ∙ ap (λ b. cond b (Some n) (find other)) apart ∙ found)

-- ---- invocations

-- an event that invokes nothing
pub no_invocation : (n : ℕ) (find : Finder) (events : List Event) (e : Event) → At events n e → invoked_by e ≡ None → FindsInvocations n find events → FindsInvocations (n + 1) find events
no_invocation n find events e at none f = record {
  there = λ id i found. let was = f.there id i found in (omega (arith, was.0), was.1);
  each = λ i id x below here is. elim (below_next i n below) [
    | inl less ↦ f.each i id x less here is
    | inr same ↦ none_is_some (ap invoked_by (at_same events n x e (subst (λ (k : ℕ). At events k x) same here) at) ∙ none) is
  ];
}

-- one more invocation
pub one_invocation : (n : ℕ) (find more : Finder) (events : List Event) (e : Event) (id : RequestId) → At events n e → invoked_by e ≡ Some id
    → FindsMore find more id n → FindsInvocations n find events → FindsInvocations (n + 1) more events
one_invocation n find more events e id at is finds f = record {
  there = λ other i found. elim (found_in_more find more id n finds other i found) [
    | inl new ↦ (omega (arith, new.1), (e, subst (λ (k : ℕ). At events k e) (sym new.1) at, is ∙ ap (λ r. Some r) new.0))
    | inr old ↦ let was = f.there other i old in (omega (arith, was.0), was.1)
  ];
  each = λ i other x below here invokes. elim (below_next i n below) [
    | inl less ↦ let was = f.each i other x less here invokes in still_found find more id n finds other was.0 was.1
    | inr same ↦
        let one = at_same events n x e (subst (λ (k : ℕ). At events k x) same here) at in
        let ids : Some id ≡ Some other = sym is ∙ sym (ap invoked_by one) ∙ invokes in
        let as_one : id ≡ other = cc in
        (n, subst (λ (r : RequestId). more r ≡ Some n) as_one (more_self find more id n finds))
  ];
}

-- ---- places

-- one more request, which wasn't found so far
pub one_place : (n : ℕ) (find more : Finder) (order : List Asked) (x : Asked) → At order n x → find x.0 ≡ None → FindsMore find more x.0 n
    → FindsPlaces n find order → FindsPlaces (n + 1) more order
one_place n find more order x at new finds f = record {
  there = λ other k found. elim (found_in_more find more x.0 n finds other k found) [
    | inl one ↦ (omega (arith, one.1), (x, subst (λ (j : ℕ). At order j x) (sym one.1) at, one.0))
    | inr old ↦ let was = f.there other k old in (omega (arith, was.0), was.1)
  ];
  each = λ k y below here. elim (below_next k n below) [
    | inl less ↦
        let was : find y.0 ≡ Some k = f.each k y less here in
        more_other find more x.0 n finds y.0 (λ e. none_is_some new (ap find e ∙ was)) ∙ was
    | inr same ↦
        let one : y ≡ x = at_same order n y x (subst (λ (j : ℕ). At order j y) same here) at in
        ap (λ (z : Asked). more z.0) one ∙ more_self find more x.0 n finds ∙ ap (λ j. Some j) (sym same)
  ];
}

-- one more request, which was found
pub found_twice : (n k : ℕ) (find : Finder) (order : List Asked) (x : Asked) → At order n x → find x.0 ≡ Some k → FindsPlaces n find order → StandsTwice order
found_twice n k find order x at found f =
    let was = f.there x.0 k found in
    record {
      first = k;
      second = n;
      one = was.1.0;
      other = x;
      apart = was.0;
      at_first = was.1.1;
      at_second = at;
      same = was.1.2;
    }
