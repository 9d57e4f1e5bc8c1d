-- An invocation, and the moves that touch neither logs nor marks.
use Rattle.std.proofs.Common.{◌≡◌, ℕ, inl, inr, List, [], ◌∷◌, ◌++◌, subst, arith}
use Rattle.curp_base.specs.Words.{At}
use Rattle.curp_base.proofs.Lists.{at_append, at_push_cases}
use Rattle.curp_cmd.specs.declared.command.Answer.{Answer}
use Rattle.curp_cmd.specs.declared.command.Command.{Command}
use Rattle.curp_cmd.specs.declared.command.RequestId.{RequestId}
use Rattle.curp_order.specs.Order.{IsHistory}
use Rattle.curp_order.specs.declared.Event.{Event}
use Rattle.curp_order.specs.declared.Event.TheVariants.{Complete, Invoke}
use Rattle.curp_law_linear.specs.Line.{IsCompleted, Left, LineState, OrderOk, WasInvoked}
use Rattle.curp_law_linear.specs.Moves.{InvokeFits, invoking, take_told}

-- what was invoked stays so
pub invoked_grows : (h more : List Event) (id : RequestId) (c : Command) → WasInvoked h id c → WasInvoked (h ++ more) id c
invoked_grows h more id c w = record { event = w.event; stands = at_append h more w.event _ w.stands }

-- what has completed stays so
pub completed_grows : (h more : List Event) (id : RequestId) → IsCompleted h id → IsCompleted (h ++ more) id
completed_grows h more id w = record { event = w.event; answer = w.answer; stands = at_append h more w.event _ w.stands }

module _ (s : LineState) (ok : OrderOk s) (id : RequestId) (command : Command) (fits : InvokeFits s id) where
  abbrev asks : Event
  asks = Invoke id command

  not_before : (i : ℕ) (x : RequestId) (d : Command) → At s.history i (Invoke x d) → x ≡ id → ⊥
  not_before i x d h same = fits.new i d (subst (λ (y : RequestId). At s.history i (Invoke y d)) same h)

  old_completion : (i : ℕ) (x : RequestId) (a : Answer) → At (s.history ++ asks ∷ []) i (Complete x a) → At s.history i (Complete x a)
  old_completion i x a h = elim (at_push_cases s.history asks i _ h) [ inl old ↦ old | inr last ↦ absurd (cc (last.1)) ]

  was_completed : (x : RequestId) → IsCompleted (s.history ++ asks ∷ []) x → IsCompleted s.history x
  was_completed x c = record { event = c.event; answer = c.answer; stands = old_completion c.event x c.answer c.stands }

  -- a completed request was invoked before
  was_invoked : (x : RequestId) (d : Command) → IsCompleted s.history x → WasInvoked (s.history ++ asks ∷ []) x d → WasInvoked s.history x d
  was_invoked x d c w = elim (at_push_cases s.history asks w.event _ w.stands) [
    | inl old ↦ record { event = w.event; stands = old }
    | inr last ↦ let v = ok.history.after_invoked c.event x c.answer c.stands in absurd (not_before v.0 x v.1 v.3 (cc (last.1)))
  ]

  invoke_history : IsHistory (s.history ++ asks ∷ [])
  invoke_history = record {
    invoked_once = λ i j x d e hi hj. elim (at_push_cases s.history asks i _ hi) [
      | inl old ↦ elim (at_push_cases s.history asks j _ hj) [
        | inl older ↦ ok.history.invoked_once i j x d e old older
        | inr last ↦ absurd (not_before i x d old (cc (last.1)))
      ]
      | inr last ↦ elim (at_push_cases s.history asks j _ hj) [
        | inl old ↦ absurd (not_before j x e old (cc (last.1)))
        | inr too ↦ omega (arith, last.0, too.0)
      ]
    ];
    completed_once = λ i j x a b hi hj. ok.history.completed_once i j x a b (old_completion i x a hi) (old_completion j x b hj);
    after_invoked = λ j x a h. let v = ok.history.after_invoked j x a (old_completion j x a h) in (v.0, v.1, v.2, at_append s.history _ v.0 _ v.3);
  }

  -- an invocation keeps the facts
  pub invoke_keeps : OrderOk (invoking s id command)
  invoke_keeps = record {
    history = invoke_history;
    hashes = ok.hashes;
    waiting = ok.waiting;
    standing = ok.standing;
    flags = λ k m hk f. completed_grows s.history (asks ∷ []) m.id (ok.flags k m hk f);
    unflagged = λ k i m hk is f c. ok.unflagged k i m hk is f (was_completed m.id c);
    invoked = λ k m hk uncut. invoked_grows s.history (asks ∷ []) m.id m.command (ok.invoked k m hk uncut);
    marked = λ e x d a h w up. let old = old_completion e x a h in ok.marked e x d a old (was_invoked x d (record { event = e; answer = a; stands = old }) w) up;
    kinds = ok.kinds;
    reads = λ x d c w read. ok.reads x d (was_completed x c) (was_invoked x d (was_completed x c) w) read;
    one_flag = ok.one_flag;
    distinct = ok.distinct;
    answered = ok.answered;
    once = ok.once;
    in_time = λ k o hk t j e m a lt hj f hc. let v = ok.in_time k o hk t j e m a lt hj f (old_completion e m.id a hc) in (v.0, v.1, at_append s.history _ v.0 _ v.2);
  }

-- that a take was told, changes nothing here
pub tell_keeps : (s : LineState) (number : ℕ) → OrderOk s → OrderOk (take_told s number)
tell_keeps s number ok = record {
  history = ok.history;
  hashes = ok.hashes;
  waiting = ok.waiting;
  standing = ok.standing;
  flags = ok.flags;
  unflagged = ok.unflagged;
  invoked = ok.invoked;
  marked = ok.marked;
  kinds = ok.kinds;
  reads = ok.reads;
  one_flag = ok.one_flag;
  distinct = ok.distinct;
  answered = ok.answered;
  once = ok.once;
  in_time = ok.in_time;
}

-- nor does it what the superseded logs are
pub left_keeps : (s : LineState) (left : ℕ → ℕ → Left) → OrderOk s → OrderOk (record s { left = left })
left_keeps s left ok = record {
  history = ok.history;
  hashes = ok.hashes;
  waiting = ok.waiting;
  standing = ok.standing;
  flags = ok.flags;
  unflagged = ok.unflagged;
  invoked = ok.invoked;
  marked = ok.marked;
  kinds = ok.kinds;
  reads = ok.reads;
  one_flag = ok.one_flag;
  distinct = ok.distinct;
  answered = ok.answered;
  once = ok.once;
  in_time = ok.in_time;
}
