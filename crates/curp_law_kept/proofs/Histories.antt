-- A history as one more event comes.
use Rattle.std.proofs.Common.{◌≡◌, ◌≢◌, inl, inr, ℕ, List, [], ◌∷◌, ◌++◌, length, refl, sym, subst, arith}
use Rattle.curp_base.specs.Words.{At}
use Rattle.curp_base.proofs.Lists.{at_append, at_push, at_push_cases, at_within}
use Rattle.curp_cmd.specs.declared.command.Answer.{Answer}
use Rattle.curp_cmd.specs.declared.command.Command.{Command}
use Rattle.curp_cmd.specs.declared.command.RequestId.{RequestId}
use Rattle.curp_order.specs.Order.{IsHistory}
use Rattle.curp_order.specs.declared.Event.{Event}
use Rattle.curp_order.specs.declared.Event.TheVariants.{Invoke, Complete}
use Rattle.curp_cmd.specs.declared.command.Request.{Request}
use Rattle.curp_facts.specs.ClientNumbers.{CompletedBelow, IsAsked, WasCompleted}

-- ---- what stays, whatever comes

-- what is completed stays so
pub completed_later : (events more : List Event) (id : RequestId) → WasCompleted events id → WasCompleted (events ++ more) id
completed_later events more id c = (c.0, c.1, at_append events more c.0 _ c.2)

-- all below a number stays completed
pub below_later : (events more : List Event) (n first : ℕ) → CompletedBelow events n first → CompletedBelow (events ++ more) n first
below_later events more n first below seq one low = completed_later events more _ (below seq one low)

-- what was asked stays so
pub asked_later : (events more : List Event) (n : ℕ) (r : Request) → IsAsked n events r → IsAsked n (events ++ more) r
asked_later events more n r a = record {
  client = a.client;
  invoked = (a.invoked.0, at_append events more a.invoked.0 _ a.invoked.1);
  own_first = a.own_first;
  below = below_later events more n r.first a.below;
}

-- ---- an invocation comes

module _ (events : List Event) (new : RequestId) (command : Command) where
  abbrev pub invoked : List Event
  invoked = events ++ Invoke new command ∷ []

  -- a completion was there before
  pub completion_old : (i : ℕ) (id : RequestId) (a : Answer) → At invoked i (Complete id a) → At events i (Complete id a)
  completion_old i id a at = elim (at_push_cases events (Invoke new command) i _ at) [ inl old ↦ old | inr last ↦ absurd (cc (last.1)) ]

  -- one that was never invoked is invoked once
  pub invoked_history : IsHistory events → ((i : ℕ) (c : Command) → At events i (Invoke new c) → ⊥) → IsHistory invoked
  invoked_history history never = record {
    invoked_once = λ i j id c d hi hj. elim (at_push_cases events (Invoke new command) i _ hi) [
      | inl old ↦ elim (at_push_cases events (Invoke new command) j _ hj) [
        | inl older ↦ history.invoked_once i j id c d old older
        | inr last ↦ let is : id ≡ new = cc (last.1) in absurd (never i c (subst (λ (x : RequestId). At events i (Invoke x c)) is old))
      ]
      | inr last ↦ elim (at_push_cases events (Invoke new command) j _ hj) [
        | inl old ↦ let is : id ≡ new = cc (last.1) in absurd (never j d (subst (λ (x : RequestId). At events j (Invoke x d)) is old))
        | inr too ↦ omega (arith, last.0, too.0)
      ]
    ];
    completed_once = λ i j id a b hi hj. history.completed_once i j id a b (completion_old i id a hi) (completion_old j id b hj);
    after_invoked = λ j id a at. let v = history.after_invoked j id a (completion_old j id a at) in (v.0, v.1, v.2, at_append events _ v.0 _ v.3);
  }

-- ---- a completion comes

module _ (events : List Event) (id : RequestId) (answer : Answer) where
  abbrev pub completed : List Event
  completed = events ++ Complete id answer ∷ []

  -- an invocation was there before
  pub invocation_old : (i : ℕ) (x : RequestId) (c : Command) → At completed i (Invoke x c) → At events i (Invoke x c)
  invocation_old i x c at = elim (at_push_cases events (Complete id answer) i _ at) [ inl old ↦ old | inr last ↦ absurd (cc (last.1)) ]

  -- another that is completed was so before
  pub completed_old : (x : RequestId) → x ≢ id → WasCompleted completed x → WasCompleted events x
  completed_old x apart c = elim (at_push_cases events (Complete id answer) c.0 _ c.2) [ inl old ↦ (c.0, c.1, old) | inr last ↦ absurd (apart (sym (cc (last.1)))) ]

  -- this one is completed
  pub completed_now : WasCompleted completed id
  completed_now = (length events, answer, at_push events (Complete id answer) (length events) refl)

  -- one that was invoked and isn't completed yet is completed once
  pub completed_history : IsHistory events → (i : ℕ) (c : Command) → At events i (Invoke id c) → (WasCompleted events id → ⊥) → IsHistory completed
  completed_history history place command was never = record {
    invoked_once = λ i j x c d hi hj. history.invoked_once i j x c d (invocation_old i x c hi) (invocation_old j x d hj);
    completed_once = λ i j x a b hi hj. elim (at_push_cases events (Complete id answer) i _ hi) [
      | inl old ↦ elim (at_push_cases events (Complete id answer) j _ hj) [
        | inl older ↦ history.completed_once i j x a b old older
        | inr last ↦ let is : x ≡ id = cc (last.1) in absurd (never (i, a, subst (λ (y : RequestId). At events i (Complete y a)) is old))
      ]
      | inr last ↦ elim (at_push_cases events (Complete id answer) j _ hj) [
        | inl old ↦ let is : x ≡ id = cc (last.1) in absurd (never (j, b, subst (λ (y : RequestId). At events j (Complete y b)) is old))
        | inr too ↦ omega (arith, last.0, too.0)
      ]
    ];
    after_invoked = λ j x a at. elim (at_push_cases events (Complete id answer) j _ at) [
      | inl old ↦ let v = history.after_invoked j x a old in (v.0, v.1, v.2, at_append events _ v.0 _ v.3)
      | inr last ↦
          let is : id ≡ x = cc (last.1) in
          (place, command, omega (arith, last.0, at_within events place _ was), subst (λ (y : RequestId). At completed place (Invoke y command)) is (at_append events (Complete id answer ∷ []) place (Invoke id command) was))
    ];
  }
