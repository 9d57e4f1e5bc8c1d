-- The push of an op at the owner of its hashes.
use Rattle.std.proofs.Common.{◌≡◌, ◌≢◌, ◌||◌, ℕ, inl, inr, true, false, List, [], ◌∷◌, ◌++◌, length, take, Some, refl, ap, sym, ◌∙◌, subst, arith, append-nil, append_assoc, not}
use Rattle.std.proofs.Math.Seq.{take-append_seam}
use Rattle.std.proofs.lemmas.Bool.{cases_Bool, or_cases}
use Rattle.curp_base.specs.Words.{At, numbered}
use Rattle.curp_base.proofs.Lists.{at_append, at_push, at_push_cases, at_within}
use Rattle.curp_range.specs.Spans.{Span, is_owned}
use Rattle.curp_cmd.specs.Hash.{touches}
use Rattle.curp_cmd.specs.Store.{is_update, nothing}
use Rattle.curp_cmd.specs.declared.command.Answer.{Answer}
use Rattle.curp_cmd.specs.declared.command.Command.{Command}
use Rattle.curp_cmd.specs.declared.command.Request.{Request}
use Rattle.curp_cmd.specs.declared.command.RequestId.{RequestId}
use Rattle.curp_cmd.specs.declared.entry.Entry.{Entry}
use Rattle.curp_cmd.specs.declared.entry.Entry.TheVariants.{Op}
use Rattle.curp_order.specs.Order.{IsHistory, answers, Asked}
use Rattle.curp_order.specs.declared.Event.{Event}
use Rattle.curp_order.specs.declared.Event.TheVariants.{Invoke}
use Rattle.curp_order.proofs.Laws.{answers_push}
use Rattle.curp_model.specs.Log.{answer_after}
use Rattle.curp_model.specs.Marks.{Executed, Mark, executed, is_update_mark}
use Rattle.curp_model.specs.Table.{check}
use Rattle.curp_model.proofs.Logs.{op_not_new}
use Rattle.curp_law_kept.specs.Hashes.{In, behind, on, updates}
use Rattle.curp_law_linear.specs.Hashes.{HashOk, HashesOk, Part, has_take, holds, is_give, is_take, onward, owns, state_of}
use Rattle.curp_law_linear.specs.Line.{AnsweredInOrder, AnswersOk, DistinctOk, FlagsOk, InTimeOk, InvokedOk, IsCompleted, KindsOk, LineState, MarkedOk, OnceOk, OneFlagOk, OpAt, OrderOk, Owned, ReadsOk, StandingOk, UnflaggedOk, WaitingOk, WasInvoked}
use Rattle.curp_law_linear.specs.Moves.{PushOp, PushOpFits, op_pushed, pushed}
use Rattle.curp_law_linear.proofs.Given.{LogsValue, Pure}
use Rattle.curp_law_linear.proofs.Hashes.{any_push, behind_in, behind_op, came_op, has_take_push, no_onward, on_none, owned_op, update_mark, update_no_cut, updates_append}
use Rattle.curp_law_linear.proofs.Lines.{has_moving, known_push, onward_given, onward_log, onward_same}
use Rattle.curp_law_linear.proofs.Lists.{in_cases, in_filter, in_none}
use Rattle.curp_law_linear.proofs.OwnedValues.{at_own, no_take, owned_answer}
use Rattle.curp_law_linear.proofs.Pushes.{answered_grows}
use Rattle.curp_law_linear.proofs.Pushes as pushes
use Rattle.curp_law_kept.proofs.Gives.{on_append}

-- one id is invoked with one command
pub one_command : (h : List Event) → IsHistory h → (id other : RequestId) (c d : Command) → id ≡ other → WasInvoked h id c → WasInvoked h other d → c ≡ d
one_command h history id other c d same a b =
    let there : At h a.event (Invoke other c) = subst (λ (i : RequestId). At h a.event (Invoke i c)) same a.stands in
    let place : a.event ≡ b.event = history.invoked_once a.event b.event other c d there b.stands in
    let at : At h b.event (Invoke other c) = subst (λ (i : ℕ). At h i (Invoke other c)) place there in
    cc (at, b.stands)

-- the equation at a hash, with more at the end
end_own : (past b o n o2 : List Asked) → o ≡ [] → o2 ≡ [] → (past ++ (b ++ o)) ++ n ≡ past ++ ((b ++ n) ++ o2)
end_own past b o n o2 e f = rw (e, f, append-nil, append-nil, append_assoc) refl

end_beside : (past b o n : List Asked) → (past ++ (b ++ o)) ++ n ≡ past ++ (b ++ (o ++ n))
end_beside past b o n = append_assoc past (b ++ o) n ∙ ap (λ w. past ++ w) (append_assoc b o n)

module _ (pure : Pure) (s : LineState) (ok : OrderOk s) (below : Owned s.moving s.parts) (values : LogsValue s.parts) (o : PushOp) (fits : PushOpFits s o) where
  abbrev os : List Asked
  os = updates s.marks

  abbrev r : Request
  r = o.request

  abbrev x : Asked
  x = (o.request.id, o.request.command)

  abbrev p : Part
  p = o.p

  abbrev e : Entry
  e = Op o.request o.acknowledged

  abbrev mark : Mark
  mark = executed o.node o.part o.epoch (length o.p.log) o.request.id o.request.command

  abbrev after : List Part
  after = pushed s.parts o.part o.p (Op o.request o.acknowledged)

  abbrev longer : Part
  longer = record o.p { log = o.p.log ++ Op o.request o.acknowledged ∷ [] }

  -- ---- the id is new everywhere

  fresh : (y : Asked) → In y os → y.0 ≡ r.id → ⊥
  fresh y m same =
      let u = update_mark s.marks m.0 y m.1 in
      let v = ok.invoked u.1 u.0 u.2 (update_no_cut u.0.place (not u.0.completed) u.3) in
      let its_id : u.0.id ≡ r.id = ap (λ (z : Asked). z.0) u.4 ∙ same in
      let command : y.1 ≡ r.command = sym (ap (λ (z : Asked). z.1) u.4) ∙ one_command s.history ok.history u.0.id r.id u.0.command r.command its_id v fits.was_invoked in
      let h = fits.hash in
      let own = fits.owned h fits.has_hash in
      let here = at_own s ok below o.part p fits.here h own in
      let line : In y (on h os) = in_filter (λ (z : Asked). touches z.1 h) os y m (ap (λ (c : Command). touches c h) command ∙ fits.has_hash) in
      let cut : In y (here.past ++ (behind h p.log ++ onward s.moving s.parts p.log h)) = subst (In y) here.alike line in
      elim (in_cases here.past _ y cut) [
        | inl past ↦ here.known y past p.log [] (append-nil p.log) refl (ap (check (state_of p).table) same ∙ fits.new)
        | inr rest ↦ elim (in_cases (behind h p.log) _ y rest) [
          | inl back ↦ elim (behind_in h [] p.log y back) [
            | inl none ↦ in_none y ⊥ none
            | inr op ↦
                op_not_new p.lo p.hi p.log op.place op.request op.acknowledged op.stands
                (ap (check (state_of p).table) (ap (λ (z : Asked). z.0) op.is ∙ same) ∙ fits.new)
          ]
          | inr on_more ↦ in_none y ⊥ (subst (In y) (no_onward s.moving s.parts p.log h (no_take s ok below o.part p fits.here h own)) on_more)
        ]
      ]

  new_op : (n : ℕ) (q : Part) (i : ℕ) (t : Request) (a : ℕ) → numbered s.parts n ≡ Some q → At q.log i (Op t a) → t.id ≡ r.id → ⊥
  new_op n q i t a hn hi same = let w = ok.answered n q i t a hn hi in fresh (t.id, t.command) (w.place, w.stands) same

  -- ---- no request stands twice

  op_distinct : DistinctOk (os ++ x ∷ [])
  op_distinct j k y z hj hk same = elim (at_push_cases os x j y hj) [
    | inl old ↦ elim (at_push_cases os x k z hk) [
      | inl older ↦ ok.distinct j k y z old older same
      | inr last ↦ absurd (fresh y (j, old) (same ∙ ap (λ (w : Asked). w.0) (sym last.1)))
    ]
    | inr last ↦ elim (at_push_cases os x k z hk) [
      | inl old ↦ absurd (fresh z (k, old) (sym same ∙ ap (λ (w : Asked). w.0) (sym last.1)))
      | inr too ↦ last.0 ∙ sym too.0
    ]
  ]

  -- ---- a request is an op once

  op_once : OnceOk after
  op_once k m q y i j t u a b hk hm hi hj same = elim (pushes.old_or_new s.parts o.part p e fits.here k q i t a hk hi) [
    | inl old ↦ elim (pushes.old_or_new s.parts o.part p e fits.here m y j u b hm hj) [
      | inl too ↦ ok.once k m old.0 too.0 i j t u a b old.1 too.1 old.2 too.2 same
      | inr last ↦ let is : r ≡ u = cc (last.2) in absurd (new_op k old.0 i t a old.1 old.2 (same ∙ ap (λ (w : Request). w.id) (sym is)))
    ]
    | inr last ↦
        let is : r ≡ t = cc (last.2) in
        elim (pushes.old_or_new s.parts o.part p e fits.here m y j u b hm hj) [
          | inl old ↦ absurd (new_op m old.0 j u b old.1 old.2 (sym same ∙ ap (λ (w : Request). w.id) (sym is)))
          | inr too ↦ (last.0 ∙ sym too.0, last.1 ∙ sym too.1)
        ]
  ]

  -- ---- the answers of ops

  own_answer : AnsweredInOrder (os ++ x ∷ []) x (answer_after p.lo p.hi p.log r.command)
  own_answer = record {
    place = length os;
    stands = at_push os x (length os) refl;
    answer = subst (λ (a : Answer). At (answers (os ++ x ∷ [])) (length os) a) (owned_answer s ok below o.part p fits.here pure (values o.part p fits.here) r.command fits.owned) (answers_push nothing os x (length os) refl);
  }

  op_answers : AnswersOk after (os ++ x ∷ [])
  op_answers k q i t a hk hi = elim (pushes.old_or_new s.parts o.part p e fits.here k q i t a hk hi) [
    | inl old ↦ subst (AnsweredInOrder (os ++ x ∷ []) (t.id, t.command)) (sym old.3) (answered_grows os (x ∷ []) (t.id, t.command) _ (ok.answered k old.0 i t a old.1 old.2))
    | inr last ↦
        let is : r ≡ t = cc (last.2) in
        let before : answer_after longer.lo longer.hi (take i longer.log) r.command ≡ answer_after p.lo p.hi p.log r.command =
        ap (λ (j : ℕ). answer_after p.lo p.hi (take j (p.log ++ e ∷ [])) r.command) last.1 ∙ ap (λ (es : List Entry). answer_after p.lo p.hi es r.command) (take-append_seam p.log (e ∷ [])) in
        subst (λ (y : Part). AnsweredInOrder (os ++ x ∷ []) (t.id, t.command) (answer_after y.lo y.hi (take i y.log) t.command)) last.3
        (subst (λ (w : Request). AnsweredInOrder (os ++ x ∷ []) (w.id, w.command) (answer_after longer.lo longer.hi (take i longer.log) w.command)) is
        (subst (AnsweredInOrder (os ++ x ∷ []) x) (sym before) own_answer))
  ]

  -- ---- the equation

  owns_same : (h : ℕ) → owns longer h ≡ owns p h
  owns_same h = ap (λ (spans : List Span). is_owned spans h) (owned_op p.lo p.hi p.log r o.acknowledged)

  take_same : (h : ℕ) → has_take s.moving h longer.log ≡ has_take s.moving h p.log
  take_same h = has_take_push s.moving h p.log e (λ number. refl)

  line_grows : (h : ℕ) → on h (os ++ x ∷ []) ≡ on h os ++ on h (x ∷ [])
  line_grows h = on_append h os (x ∷ [])

  untouched : (h : ℕ) → touches r.command h ≡ false → (log : List Entry) → onward s.moving after log h ≡ onward s.moving s.parts log h
  untouched h none log =
      onward_same s.parts o.part p e fits.here h (behind_op h p.log r o.acknowledged ∙ ap (λ w. behind h p.log ++ w) (on_none h x none) ∙ append-nil _)
      (λ number. any_push (is_give number) p.log e refl) s.moving log

  behind_same : (h : ℕ) → touches r.command h ≡ false → behind h longer.log ≡ behind h p.log
  behind_same h none = behind_op h p.log r o.acknowledged ∙ ap (λ w. behind h p.log ++ w) (on_none h x none) ∙ append-nil _

  line_same : (h : ℕ) → touches r.command h ≡ false → on h (os ++ x ∷ []) ≡ on h os
  line_same h none = line_grows h ∙ ap (λ w. on h os ++ w) (on_none h x none) ∙ append-nil _

  held_before : (h : ℕ) → holds s.moving longer h ≡ true → holds s.moving p h ≡ true
  held_before h held = sym (λ i. owns_same h i || take_same h i) ∙ held

  -- at its own partition
  own_alike : (h : ℕ) → (here : HashOk s.moving s.parts os p h) → on h (os ++ x ∷ []) ≡ here.past ++ (behind h longer.log ++ onward s.moving after longer.log h)
  own_alike h here = elim (cases_Bool (touches r.command h)) [
    | inl t ↦
        let own = fits.owned h t in
        line_grows h ∙ ap (λ w. w ++ on h (x ∷ [])) here.alike
        ∙ end_own here.past (behind h p.log) (onward s.moving s.parts p.log h) (on h (x ∷ [])) (onward s.moving after longer.log h) (no_onward s.moving s.parts p.log h (no_take s ok below o.part p fits.here h own))
        (no_onward s.moving after longer.log h (take_same h ∙ no_take s ok below o.part p fits.here h own))
        ∙ ap (λ w. here.past ++ (w ++ onward s.moving after longer.log h)) (sym (behind_op h p.log r o.acknowledged))
    | inr n ↦
        let more : onward s.moving after longer.log h ≡ onward s.moving s.parts p.log h =
        untouched h n longer.log ∙ onward_log s.moving s.parts h p.log longer.log (λ number. any_push (is_take number) p.log e refl) in
        line_same h n ∙ here.alike ∙ (λ i. here.past ++ (sym (behind_same h n) i ++ sym more i))
  ]

  op_own : (h : ℕ) → holds s.moving longer h ≡ true → HashOk s.moving after (os ++ x ∷ []) longer h
  op_own h held =
      let here = ok.hashes o.part p fits.here h (held_before h held) in
      record {
        past = here.past;
        alike = own_alike h here;
        values = λ key k. here.values key k ∙ sym (came_op h key p.log r o.acknowledged);
        known = λ y m. known_push p.lo p.hi h p.log e y.0 (here.known y m);
      }

  -- at another one
  other_alike : (k : ℕ) (q : Part) → k ≢ o.part → numbered s.parts k ≡ Some q → (h : ℕ) → holds s.moving q h ≡ true → (here : HashOk s.moving s.parts os q h)
      → on h (os ++ x ∷ []) ≡ here.past ++ (behind h q.log ++ onward s.moving after q.log h)
  other_alike k q ne hk h held here = elim (cases_Bool (touches r.command h)) [
    | inr n ↦ line_same h n ∙ here.alike ∙ ap (λ w. here.past ++ (behind h q.log ++ w)) (sym (untouched h n q.log))
    | inl t ↦
        let own = fits.owned h t in
        elim (or_cases (owns q h) (has_take s.moving h q.log) held) [
          | inl too ↦ absurd (ne (sym (below.one o.part k p q h fits.here hk own too)))
          | inr tk ↦
              let m = has_moving s.moving h q.log tk in
              let f = below.moved o.part k p q h m.0 m.1 fits.here hk own tk in
              let old : onward s.moving s.parts q.log h ≡ behind h p.log =
              onward_given s.moving m.0 s.parts q.log h p m.1 tk (subst (λ (j : ℕ). numbered s.parts j ≡ Some p) f.0 fits.here) f.1 in
              let new : onward s.moving after q.log h ≡ behind h longer.log =
              onward_given s.moving m.0 after q.log h longer m.1 tk (subst (λ (j : ℕ). numbered after j ≡ Some longer) f.0 (pushes.own s.parts o.part p e fits.here)) (any_push (is_give m.0.number) p.log e refl ∙ f.1) in
              line_grows h ∙ ap (λ w. w ++ on h (x ∷ [])) here.alike ∙ end_beside here.past (behind h q.log) (onward s.moving s.parts q.log h) (on h (x ∷ []))
              ∙ ap (λ w. here.past ++ (behind h q.log ++ (w ++ on h (x ∷ [])))) old
              ∙ ap (λ w. here.past ++ (behind h q.log ++ w)) (sym (new ∙ behind_op h p.log r o.acknowledged))
        ]
  ]

  op_hashes : HashesOk s.moving after (os ++ x ∷ [])
  op_hashes k q hk h held = elim (pushes.cases s.parts o.part p e fits.here k q hk) [
    | inl old ↦
        let here = ok.hashes k q old.1 h held in
        record { past = here.past; alike = other_alike k q old.0 old.1 h held here; values = here.values; known = here.known }
    | inr new ↦ subst (λ (y : Part). HashOk s.moving after (os ++ x ∷ []) y h) new.1 (op_own h (subst (λ (y : Part). holds s.moving y h ≡ true) (sym new.1) held))
  ]

  -- ---- the marks

  order_is : os ++ x ∷ [] ≡ updates (s.marks ++ mark ∷ [])
  order_is = sym (updates_append s.marks (mark ∷ []))

  op_waiting : WaitingOk after (s.marks ++ mark ∷ [])
  op_waiting k i m hk at_i f = elim (at_push_cases s.marks mark k m hk) [
    | inl old ↦ pushes.waiting_stays s.parts o.part p e fits.here s.marks ok.waiting k i m old at_i f
    | inr last ↦ subst (λ (y : Mark). OpAt after y.part i y.id y.command) last.1 (own_stands i (ap (λ (y : Mark). y.place) last.1 ∙ at_i))
  ]
    where
      own_stands : (i : ℕ) → Executed (length p.log) ≡ Executed i → OpAt after o.part i r.id r.command
      own_stands i is = record {
        p = longer;
        here = pushes.own s.parts o.part p e fits.here;
        request = r;
        acknowledged = o.acknowledged;
        stands = at_push p.log e i (cc);
        its_id = refl;
        its_command = refl;
      }

  op_standing : StandingOk after (s.marks ++ mark ∷ [])
  op_standing k i m hk at_i = elim (at_push_cases s.marks mark k m hk) [
    | inl old ↦ pushes.standing_stays s.parts o.part p e fits.here s.marks ok.standing k i m old at_i
    | inr last ↦ (i, op_waiting k i m hk at_i (ap (λ (y : Mark). y.completed) (sym last.1)))
  ]

  not_completed : IsCompleted s.history r.id → ⊥
  not_completed c = let w = ok.marked c.event r.id r.command c.answer c.stands fits.was_invoked fits.updates in fresh (r.id, r.command) (w.place, w.stands) refl

  op_flags : FlagsOk (s.marks ++ mark ∷ []) s.history
  op_flags k m hk f = elim (at_push_cases s.marks mark k m hk) [
    | inl old ↦ ok.flags k m old f
    | inr last ↦ absurd (let is : false ≡ true = ap (λ (y : Mark). y.completed) last.1 ∙ f in cc)
  ]

  op_unflagged : UnflaggedOk (s.marks ++ mark ∷ []) s.history
  op_unflagged k i m hk at_i f c = elim (at_push_cases s.marks mark k m hk) [
    | inl old ↦ ok.unflagged k i m old at_i f c
    | inr last ↦ not_completed (subst (λ (y : Mark). IsCompleted s.history y.id) (sym last.1) c)
  ]

  op_invoked : InvokedOk (s.marks ++ mark ∷ []) s.history
  op_invoked k m hk uncut = elim (at_push_cases s.marks mark k m hk) [
    | inl old ↦ ok.invoked k m old uncut
    | inr last ↦ subst (λ (y : Mark). WasInvoked s.history y.id y.command) last.1 fits.was_invoked
  ]

  op_marked : MarkedOk (os ++ x ∷ []) s.history
  op_marked ev id c a done inv up = answered_grows os (x ∷ []) (id, c) a (ok.marked ev id c a done inv up)

  op_kinds : KindsOk (s.marks ++ mark ∷ [])
  op_kinds k m hk = elim (at_push_cases s.marks mark k m hk) [
    | inl old ↦ ok.kinds k m old
    | inr last ↦ subst (λ (y : Mark). is_update y.command ≡ is_update_mark y.place) last.1 fits.updates
  ]

  op_reads : ReadsOk (s.marks ++ mark ∷ []) s.history
  op_reads id c done inv read = let f = ok.reads id c done inv read in record { place = f.place; m = f.m; stands = at_append s.marks _ f.place f.m f.stands; its_id = f.its_id; is_flagged = f.is_flagged }

  unflagged_new : (k : ℕ) (m : Mark) → At (s.marks ++ mark ∷ []) k m → m.completed ≡ true → At s.marks k m
  unflagged_new k m hk f = elim (at_push_cases s.marks mark k m hk) [
    | inl old ↦ old
    | inr last ↦ absurd (let is : false ≡ true = ap (λ (y : Mark). y.completed) last.1 ∙ f in cc)
  ]

  op_one_flag : OneFlagOk (s.marks ++ mark ∷ [])
  op_one_flag j k m y hj hk f g same = ok.one_flag j k m y (unflagged_new j m hj f) (unflagged_new k y hk g) f g same

  op_in_time : InTimeOk (s.marks ++ mark ∷ []) s.history
  op_in_time k other hk t j ev m a lt hj f hc = elim (at_push_cases s.marks mark j m hj) [
    | inr last ↦ absurd (let is : false ≡ true = ap (λ (y : Mark). y.completed) last.1 ∙ f in cc)
    | inl old ↦ elim (at_push_cases s.marks mark k other hk) [
      | inl older ↦ ok.in_time k other older t j ev m a lt old f hc
      | inr last ↦ absurd (omega (arith, last.0, at_within s.marks j m old))
    ]
  ]

  -- ---- all

  -- an op keeps the facts
  pub op_keeps : OrderOk (op_pushed s o)
  op_keeps = record {
    history = ok.history;
    hashes = subst (HashesOk s.moving after) order_is op_hashes;
    waiting = op_waiting;
    standing = op_standing;
    flags = op_flags;
    unflagged = op_unflagged;
    invoked = op_invoked;
    marked = subst (λ (l : List Asked). MarkedOk l s.history) order_is op_marked;
    kinds = op_kinds;
    reads = op_reads;
    one_flag = op_one_flag;
    distinct = subst DistinctOk order_is op_distinct;
    answered = subst (AnswersOk after) order_is op_answers;
    once = op_once;
    in_time = op_in_time;
  }
