-- A client's numbers, as it goes on, invokes and completes.
use Rattle.std.proofs.Common.{◌≡◌, ◌≢◌, ◌⊎◌, inl, inr, ℕ, ◌+◌, ◌<◌, ◌≤◌, Bool, true, false, not, List, [], ◌∷◌, ◌++◌, length, refl, ap, sym, ◌∙◌, subst, arith}
use Rattle.std.proofs.lemmas.Bool.{cases_lt}
use Rattle.curp_base.specs.Words.{At, Each}
use Rattle.curp_base.proofs.Lists.{Each-append, Each-at, Each-from_at, Each-weaker, at_append, at_append_cases, at_push, at_push_cases}
use Rattle.curp_cmd.specs.RequestId.{same_id}
use Rattle.curp_cmd.specs.declared.command.Answer.{Answer}
use Rattle.curp_cmd.specs.declared.command.Command.{Command}
use Rattle.curp_cmd.specs.declared.command.Request.{Request}
use Rattle.curp_cmd.specs.declared.command.RequestId.{RequestId}
use Rattle.curp_cmd.proofs.Ids.{same_id-self, same_id-true}
use Rattle.curp_order.specs.Order.{IsHistory}
use Rattle.curp_order.specs.declared.Event.{Event}
use Rattle.curp_order.specs.declared.Event.TheVariants.{Invoke, Complete}
use Rattle.curp_model.specs.Client.{ClientState, Pending, first_pending, next_id, next_request, with_pending, without_id}
use Rattle.curp_facts.specs.ClientNumbers.{CompletedBelow, IsAsked, WasCompleted, IsEventOf, IsPending, IsUncompleted, ClientNumbersOk}
use Rattle.curp_law_kept.proofs.Histories.{asked_later, completed_history, completed_later, completed_now, completed_old, completion_old, invocation_old, invoked_history}
use Rattle.curp_law_kept.proofs.PendingLists.{each_replaced, least_below, pending_replaced, pending_without, rise_pushed, rise_replaced, rise_without}
use Rattle.curp_base.proofs.Numbered.{filter_at}

module _ (n : ℕ) (events : List Event) (c : ClientState) (ok : ClientNumbersOk n events c) where
  -- what is pending waits
  pub waiting : (k : ℕ) (p : Pending) → At c.pending k p → IsUncompleted n events p.request
  waiting k p at = Each-at (λ (q : Pending). IsUncompleted n events q.request) c.pending ok.pending k p at

  -- its number is one of those that were used
  pub in_range : (k : ℕ) (p : Pending) → At c.pending k p → (1 ≤ p.request.id.seq) × (p.request.id.seq ≤ c.last)
  in_range k p at = let a = (waiting k p at).asked in ok.counted a.invoked.0 p.request.id p.request.command a.invoked.1 a.client

  -- a request that is pending changes, but for what it asks
  pub numbers_changed : (k : ℕ) (p q : Pending) → At c.pending k p → p.request ≡ q.request → ClientNumbersOk n events (with_pending c q)
  numbers_changed k p q at same = record {
    pending = each_replaced (λ (x : Pending). IsUncompleted n events x.request) q c.pending (subst (IsUncompleted n events) same (waiting k p at)) ok.pending;
    rise = rise_replaced q c.pending ok.rise;
    used = λ seq one up. elim (ok.used seq one up) [ inl pending ↦ inl (pending_replaced q c.pending (record { client = n; seq = seq }) pending) | inr done ↦ inr done ];
    counted = ok.counted;
  }

  -- ---- an invocation

  module _ (history : IsHistory events) (command : Command) where
    abbrev fresh : RequestId
    fresh = next_id n c

    abbrev later : List Event
    later = events ++ Invoke fresh command ∷ []

    pub never_invoked : (i : ℕ) (d : Command) → At events i (Invoke fresh d) → ⊥
    never_invoked i d at = omega (arith, (ok.counted i fresh d at refl).1)

    never_completed : WasCompleted later fresh → ⊥
    never_completed done =
        let v = history.after_invoked done.0 fresh done.1 (completion_old events fresh command done.0 fresh done.1 done.2) in
        never_invoked v.0 v.1 v.3

    -- what waited waits
    still_waits : (r : Request) → IsUncompleted n events r → IsUncompleted n later r
    still_waits r w = record { asked = asked_later events (Invoke fresh command ∷ []) n r w.asked; waits = λ done. w.waits (done.0, done.1, completion_old events fresh command done.0 r.id done.1 done.2) }

    below_first : CompletedBelow later n (first_pending c (c.last + 1))
    below_first seq one low =
        let least = least_below c.pending (c.last + 1) in
        elim (ok.used seq one (omega (arith, low, least.0))) [
          | inl pending ↦ absurd (omega (arith, low, least.1 pending.0 pending.1 pending.2, ap (λ (id : RequestId). id.seq) pending.3))
          | inr done ↦ completed_later events (Invoke fresh command ∷ []) _ done
        ]

    -- the new request was asked
    pub fresh_asked : IsAsked n later (next_request n c command)
    fresh_asked = record {
      client = refl;
      invoked = (length events, at_push events (Invoke fresh command) (length events) refl);
      own_first = (least_below c.pending (c.last + 1)).0;
      below = below_first;
    }

    module _ (new : Pending) (its : new.request ≡ next_request n c command) where
      abbrev asking : ClientState
      asking = record c { last = c.last + 1; pending = c.pending ++ new ∷ [] }

      all_below : Each (λ (q : Pending). q.request.id.seq < new.request.id.seq) c.pending
      all_below = Each-from_at (λ (q : Pending). q.request.id.seq < new.request.id.seq) c.pending (λ k q at.
          omega (arith, (in_range k q at).1, ap (λ (r : Request). r.id.seq) its))

      asking_used : (seq : ℕ) → 1 ≤ seq → seq ≤ c.last + 1 → IsPending asking.pending (record { client = n; seq = seq }) ⊎ WasCompleted later (record { client = n; seq = seq })
      asking_used seq one up = elim (cases_lt seq (c.last + 1)) [
        | inl old ↦ elim (ok.used seq one (omega arith)) [
          | inl pending ↦ inl (pending.0, pending.1, at_append c.pending (new ∷ []) pending.0 pending.1 pending.2, pending.3)
          | inr done ↦ inr (completed_later events (Invoke fresh command ∷ []) _ done)
        ]
        | inr now ↦
            let is : c.last + 1 ≡ seq = omega (arith, up, now) in
            inl (length c.pending, new, at_push c.pending new (length c.pending) refl, ap (λ (r : Request). r.id) its ∙ ap (λ (s : ℕ). record { client = n; seq = s }) is)
      ]

      pub numbers_invoked : ClientNumbersOk n later asking
      numbers_invoked = record {
        pending = Each-append (λ (p : Pending). IsUncompleted n later p.request) c.pending (new ∷ [])
            (Each-weaker (λ (p : Pending). IsUncompleted n events p.request) (λ (p : Pending). IsUncompleted n later p.request) (λ (p : Pending) w. still_waits p.request w) c.pending ok.pending)
            (subst (IsUncompleted n later) (sym its) (record { asked = fresh_asked; waits = never_completed }), tt);
        rise = rise_pushed c.pending new ok.rise all_below;
        used = asking_used;
        counted = λ i id d at mine. elim (at_push_cases events (Invoke fresh command) i _ at) [
          | inl old ↦ let o = ok.counted i id d old mine in (o.0, omega (arith, o.1))
          | inr last ↦ let is : fresh ≡ id = cc (last.1) in (omega (arith, ap (λ (x : RequestId). x.seq) is), omega (arith, ap (λ (x : RequestId). x.seq) is))
        ];
      }

    -- it is invoked once
    pub history_invoked : IsHistory later
    history_invoked = invoked_history events fresh command history never_invoked

  -- ---- a completion

  module _ (id : RequestId) (a : Answer) (k : ℕ) (p : Pending) (at : At c.pending k p) (its_id : p.request.id ≡ id) where
    abbrev done : List Event
    done = events ++ Complete id a ∷ []

    abbrev answered : ClientState
    answered = record c { pending = without_id id c.pending }

    -- what is left was pending, under another id
    left : (j : ℕ) (q : Pending) → At answered.pending j q → (i : ℕ) × At c.pending i q × (q.request.id ≢ id)
    left j q h =
        let f = filter_at (λ (x : Pending). not (same_id x.request.id id)) c.pending j q h in
        (f.0, f.1, λ e. clash (same_id q.request.id id) f.2 (subst (λ (x : RequestId). same_id q.request.id x ≡ true) e (same_id-self q.request.id)))
      where
        clash : (b : Bool) → not b ≡ true → b ≡ true → ⊥
        clash true e f = cc
        clash false e f = cc

    left_waits : (j : ℕ) (q : Pending) → At answered.pending j q → IsUncompleted n done q.request
    left_waits j q h =
        let o = left j q h in
        let w = waiting o.0 q o.1 in
        record { asked = asked_later events (Complete id a ∷ []) n q.request w.asked; waits = λ e. w.waits (completed_old events id a q.request.id o.2 e) }

    answered_used : (seq : ℕ) → 1 ≤ seq → seq ≤ c.last → IsPending answered.pending (record { client = n; seq = seq }) ⊎ WasCompleted done (record { client = n; seq = seq })
    answered_used seq one up = elim (ok.used seq one up) [
      | inr old ↦ inr (completed_later events (Complete id a ∷ []) _ old)
      | inl pending ↦ go (same_id (record { client = n; seq = seq }) id) refl pending
    ]
      where
        go : (b : Bool) → same_id (record { client = n; seq = seq }) id ≡ b → IsPending c.pending (record { client = n; seq = seq }) → IsPending answered.pending (record { client = n; seq = seq }) ⊎ WasCompleted done (record { client = n; seq = seq })
        go true e pending = inr (subst (WasCompleted done) (sym (same_id-true (record { client = n; seq = seq }) id e)) (completed_now events id a))
        go false e pending = inl (pending_without c.pending id (record { client = n; seq = seq }) pending e)

    -- a pending request completes
    pub numbers_completed : ClientNumbersOk n done answered
    numbers_completed = record {
      pending = Each-from_at (λ (q : Pending). IsUncompleted n done q.request) answered.pending left_waits;
      rise = rise_without c.pending id ok.rise;
      used = answered_used;
      counted = λ i x d h mine. ok.counted i x d (invocation_old events id a i x d h) mine;
    }

    -- once
    pub history_completed : IsHistory events → IsHistory done
    history_completed history =
        let w = waiting k p at in
        completed_history events id a history w.asked.invoked.0 p.request.command (subst (λ (x : RequestId). At events w.asked.invoked.0 (Invoke x p.request.command)) its_id w.asked.invoked.1) (λ e. w.waits (subst (WasCompleted events) (sym its_id) e))

-- ---- what other clients do

module _ (n m : ℕ) (other : m ≢ n) (events more : List Event) (theirs : Each (IsEventOf n) more) where
  not_mine : (i : ℕ) (e : Event) → At (events ++ more) i e → IsEventOf m e → At events i e
  not_mine i e at mine = elim (at_append_cases events more i e at) [
    | inl old ↦ old
    | inr new ↦ absurd (two e mine (Each-at (IsEventOf n) more theirs new.0 e new.2))
  ]
    where
      two : (e : Event) → IsEventOf m e → IsEventOf n e → ⊥
      two (Invoke id d) a b = other (sym a ∙ b)
      two (Complete id d) a b = other (sym a ∙ b)

  -- events of another client leave a client's numbers
  pub numbers_stay : (c : ClientState) → ClientNumbersOk m events c → ClientNumbersOk m (events ++ more) c
  numbers_stay c ok = record {
    pending = Each-weaker (λ (p : Pending). IsUncompleted m events p.request) (λ (p : Pending). IsUncompleted m (events ++ more) p.request) (λ (p : Pending) w.
        record { asked = asked_later events more m p.request w.asked; waits = λ done. w.waits (done.0, done.1, not_mine done.0 _ done.2 w.asked.client) }) c.pending ok.pending;
    rise = ok.rise;
    used = λ seq one up. elim (ok.used seq one up) [ inl pending ↦ inl pending | inr done ↦ inr (completed_later events more _ done) ];
    counted = λ i id d at mine. ok.counted i id d (not_mine i _ at mine) mine;
  }
