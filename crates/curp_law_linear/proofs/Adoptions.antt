-- An adoption keeps the facts of the order.
use Rattle.std.proofs.Common.{◌≡◌, ◌≢◌, ℕ, ◌<◌, ◌+◌, ◌||◌, inl, inr, ◌⊎◌, true, false, not, List, length, Some, refl, ap, sym, ◌∙◌, subst, arith}
use Rattle.std.proofs.lemmas.Bool.{cases_Bool, cases_eq, cases_lt}
use Rattle.curp_base.specs.Words.{At, numbered}
use Rattle.curp_base.proofs.Lists.{at_append, at_append_cases, at_append_right, at_map, at_within}
use Rattle.curp_cmd.specs.Store.{is_update}
use Rattle.curp_cmd.specs.declared.command.Command.{Command}
use Rattle.curp_cmd.specs.declared.command.Request.{Request}
use Rattle.curp_cmd.specs.declared.command.RequestId.{RequestId}
use Rattle.curp_cmd.specs.declared.entry.Entry.TheVariants.{Op}
use Rattle.curp_model.specs.Marks.{Executed, Mark, executed, is_open_cut, is_update_mark}
use Rattle.curp_law_kept.specs.Hashes.{asked}
use Rattle.curp_order.specs.Order.{Asked}
use Rattle.curp_law_linear.specs.Hashes.{HashesOk}
use Rattle.curp_law_linear.specs.Line.{AnswersOk, DistinctOk, FlagsOk, InTimeOk, InvokedOk, IsCompleted, KindsOk, MarkedOk, OneFlagOk, OpAt, OrderOk, ReadsOk, StandingOk, UnflaggedOk, WaitingOk, WasInvoked}
use Rattle.curp_law_linear.specs.Moves.{adopting, left_after, ops}
use Rattle.curp_law_linear.proofs.AdoptedAnswers.{adopt_answers, adopt_distinct, adopt_marked, adopt_once}
use Rattle.curp_law_linear.proofs.AdoptedHashes.{adopt_hashes}
use Rattle.curp_law_linear.proofs.AdoptedMarks.{adopted_is, filter_order, flagged_stays, fresh_mark_at, stays, the_cut}
use Rattle.curp_law_linear.proofs.AdoptedOrder.{completed_done, own_after, replayed_held}
use Rattle.curp_law_linear.proofs.AdoptedPlaces.{agree, at_log, done_false, fresh_marks, here_is, kept_marks, marks_now, op_is_gone, order_is}
use Rattle.curp_law_linear.proofs.Adopting.{Adopting, done, is_gone, keeps_on, new_part, parts_now, replayed}
use Rattle.curp_law_linear.proofs.Completions.{op_as}
use Rattle.curp_law_linear.proofs.Lists.{in_filter}
use Rattle.curp_base.proofs.Numbered.{filter_at, numbered_set_other}

module _ (it : Adopting) where
  -- ---- the marks

  -- the adoption's mark
  abbrev pub own_cut : Mark
  own_cut = the_cut it.move.node it.move.part it.move.epoch (length it.move.stays) it.line.marks

  -- each mark afterwards was kept, or is the adoption's, or that of a replayed request
  pub mark_cases : (k : ℕ) (m : Mark) → At (marks_now it) k m
      → ((j : ℕ) × At it.line.marks j m × (stays it.move.part (length it.move.stays) m ≡ true) × At (kept_marks it) k m)
      ⊎ ((own_cut ≡ m) ⊎ ((j : ℕ) × (r : Request) × At (replayed it) j r × (m ≡ executed it.move.node it.move.part it.move.epoch (length it.move.stays + j) r.id r.command) × (done it r.id ≡ false)))
  mark_cases k m h = elim (at_append_cases (kept_marks it) (fresh_marks it) k m h) [
    | inl old ↦ let f = filter_at (stays it.move.part (length it.move.stays)) it.line.marks k m old in inl (f.0, f.1, f.2, old)
    | inr g ↦ elim (fresh_mark_at it.move.node it.move.part it.move.epoch (length it.move.stays) (replayed it) it.line.marks g.0 m g.2) [
      | inl cut ↦ inr (inl cut.1)
      | inr new ↦ inr (inr new)
    ]
  ]

  -- the adoption's mark is no update's
  cut_no_update : (i : ℕ) (m : Mark) → own_cut ≡ m → m.place ≡ Executed i → ⊥
  cut_no_update i m is at_i = let bad : false ≡ true = ap (λ (y : Mark). is_update_mark y.place) is ∙ ap is_update_mark at_i in cc

  -- an op elsewhere stands still
  op_still : (n i : ℕ) (id : RequestId) (c : Command) → (w : OpAt it.line.parts n i id c) → (n ≢ it.move.part) ⊎ (i < length it.move.stays) → OpAt (parts_now it) n i id c
  op_still n i id c w apart = elim (cases_eq n it.move.part) [
    | inr ne ↦ record { p = w.p; here = numbered_set_other it.line.parts it.move.part it.move.p (new_part it) it.fits.here n w.p ne w.here; request = w.request; acknowledged = w.acknowledged; stands = w.stands; its_id = w.its_id; its_command = w.its_command }
    | inl same ↦
        let low : i < length it.move.stays = elim apart [ inl ne ↦ absurd (ne same) | inr l ↦ l ] in
        let at : At it.move.stays i (Op w.request w.acknowledged) = elim (at_log it i _ (here_is it n i id c same w)) [ inl old ↦ old | inr g ↦ absurd (omega (arith, g.1)) ] in
        record {
          p = new_part it;
          here = subst (λ (j : ℕ). numbered (parts_now it) j ≡ Some (new_part it)) (sym same) (own_after it);
          request = w.request;
          acknowledged = w.acknowledged;
          stands = at_append it.move.stays (ops (replayed it)) i _ at;
          its_id = w.its_id;
          its_command = w.its_command;
        }
  ]

  replayed_stands : (j : ℕ) (r : Request) → At (replayed it) j r → OpAt (parts_now it) it.move.part (length it.move.stays + j) r.id r.command
  replayed_stands j r h = record {
    p = new_part it;
    here = own_after it;
    request = r;
    acknowledged = 0;
    stands = at_append_right it.move.stays (ops (replayed it)) j (length it.move.stays + j) (Op r 0) refl (at_map (λ (x : Request). Op x 0) (replayed it) j r h);
    its_id = refl;
    its_command = refl;
  }

  adopt_waiting : WaitingOk (parts_now it) (marks_now it)
  adopt_waiting k i m h at_i f = elim (mark_cases k m h) [
    | inl old ↦
        let w = it.facts.waiting old.0 i m old.1 at_i f in
        op_still m.part i m.id m.command w (elim (cases_eq m.part it.move.part) [
          | inr ne ↦ inl ne
          | inl same ↦ elim (at_log it i _ (here_is it m.part i m.id m.command same w)) [
            | inl low ↦ inr (at_within it.move.stays i _ low)
            | inr g ↦ absurd (dropped_not old.0 i m old.1 at_i f old.2 (op_is_gone it m g.0 w.request w.acknowledged g.2 w.its_id))
          ]
        ])
    | inr (inl cut) ↦ absurd (cut_no_update i m cut at_i)
    | inr (inr fresh) ↦
        let m_is = fresh.3 in
        let place : length it.move.stays + fresh.0 ≡ i = place_of (sym (ap (λ (y : Mark). y.place) m_is) ∙ at_i) in
        subst (λ (n : ℕ). OpAt (parts_now it) m.part n m.id m.command) place
        (op_as (parts_now it) (length it.move.stays + fresh.0) (ap (λ (y : Mark). y.part) m_is) (ap (λ (y : Mark). y.id) m_is) (ap (λ (y : Mark). y.command) m_is) (replayed_stands fresh.0 fresh.1 fresh.2))
  ]
    where
      place_of : {n i : ℕ} → Executed n ≡ Executed i → n ≡ i
      place_of e = cc

      dropped_not : (k i : ℕ) (m : Mark) → At it.line.marks k m → m.place ≡ Executed i → m.completed ≡ false → stays it.move.part (length it.move.stays) m ≡ true → is_gone it (asked m) ≡ true → ⊥
      dropped_not k i m h at_i f st t =
          let a : stays it.move.part (length it.move.stays) m ≡ keeps_on it (asked m) = agree it m (k, h) (ap is_update_mark at_i) in
          let b : keeps_on it (asked m) ≡ false = λ j. done_false it k i m h at_i f j || not (t j) in
          let bad : true ≡ false = sym st ∙ a ∙ b in
          cc

  adopt_standing : StandingOk (parts_now it) (marks_now it)
  adopt_standing k i m h at_i = elim (cases_Bool m.completed) [
    | inr f ↦ (i, adopt_waiting k i m h at_i f)
    | inl y ↦ elim (mark_cases k m h) [
      | inr (inl cut) ↦ absurd (cut_no_update i m cut at_i)
      | inr (inr fresh) ↦ absurd (let bad : true ≡ false = sym y ∙ ap (λ (z : Mark). z.completed) fresh.3 in cc)
      | inl old ↦
          let w = it.facts.standing old.0 i m old.1 at_i in
          elim (cases_eq m.part it.move.part) [
            | inr ne ↦ (w.0, op_still m.part w.0 m.id m.command w.1 (inl ne))
            | inl same ↦ elim (at_log it w.0 _ (here_is it m.part w.0 m.id m.command same w.1)) [
              | inl low ↦ (w.0, op_still m.part w.0 m.id m.command w.1 (inr (at_within it.move.stays w.0 _ low)))
              | inr g ↦
                  let c : IsCompleted it.line.history w.1.request.id = subst (IsCompleted it.line.history) (sym w.1.its_id) (it.facts.flags old.0 m old.1 y) in
                  let q = (it.fits.done g.0 w.1.request w.1.acknowledged g.2 c).0 in
                  (length it.move.stays + q.replayed.place, op_as (parts_now it) (length it.move.stays + q.replayed.place) same (sym (q.its_id ∙ w.1.its_id)) (sym (q.its_command ∙ w.1.its_command)) (replayed_stands q.replayed.place q.request q.replayed.stands))
            ]
          ]
    ]
  ]

  -- a flagged mark was kept
  flagged_was : (k : ℕ) (m : Mark) → At (marks_now it) k m → m.completed ≡ true → (j : ℕ) × At it.line.marks j m × At (kept_marks it) k m
  flagged_was k m h f = elim (mark_cases k m h) [
    | inl old ↦ (old.0, old.1, old.3)
    | inr (inl cut) ↦ absurd (let bad : true ≡ false = sym f ∙ ap (λ (z : Mark). z.completed) (sym cut) in cc)
    | inr (inr fresh) ↦ absurd (let bad : true ≡ false = sym f ∙ ap (λ (z : Mark). z.completed) fresh.3 in cc)
  ]

  adopt_flags : FlagsOk (marks_now it) it.line.history
  adopt_flags k m h f = let w = flagged_was k m h f in it.facts.flags w.0 m w.1 f

  -- a replayed request was invoked
  asked_before : (j : ℕ) (r : Request) → At (replayed it) j r → WasInvoked it.line.history r.id r.command × (is_update r.command ≡ true)
  asked_before j r h = let k = replayed_held it j r h in let a = it.fits.asked k.0 r k.1 in (a.was_invoked, a.updates)

  adopt_unflagged : UnflaggedOk (marks_now it) it.line.history
  adopt_unflagged k i m h at_i f c = elim (mark_cases k m h) [
    | inl old ↦ it.facts.unflagged old.0 i m old.1 at_i f c
    | inr (inl cut) ↦ absurd (cut_no_update i m cut at_i)
    | inr (inr fresh) ↦
        let r = fresh.1 in
        let b = asked_before fresh.0 r fresh.2 in
        let cr : IsCompleted it.line.history r.id = subst (IsCompleted it.line.history) (ap (λ (z : Mark). z.id) fresh.3) c in
        let w = it.facts.marked cr.event r.id r.command cr.answer cr.stands b.0 b.1 in
        let bad : true ≡ false = sym (completed_done it (r.id, r.command) (w.place, w.stands) cr) ∙ fresh.4 in
        cc
  ]

  adopt_invoked : InvokedOk (marks_now it) it.line.history
  adopt_invoked k m h uncut = elim (mark_cases k m h) [
    | inl old ↦ it.facts.invoked old.0 m old.1 uncut
    | inr (inl cut) ↦ absurd (let bad : true ≡ false = ap is_open_cut cut ∙ uncut in cc)
    | inr (inr fresh) ↦ subst (λ (z : Mark). WasInvoked it.line.history z.id z.command) (sym fresh.3) (asked_before fresh.0 fresh.1 fresh.2).0
  ]

  adopt_kinds : KindsOk (marks_now it)
  adopt_kinds k m h = elim (mark_cases k m h) [
    | inl old ↦ it.facts.kinds old.0 m old.1
    | inr (inl cut) ↦ subst (λ (z : Mark). is_update z.command ≡ is_update_mark z.place) cut refl
    | inr (inr fresh) ↦ subst (λ (z : Mark). is_update z.command ≡ is_update_mark z.place) (sym fresh.3) (asked_before fresh.0 fresh.1 fresh.2).1
  ]

  adopt_reads : ReadsOk (marks_now it) it.line.history
  adopt_reads id c done_it inv read =
      let f = it.facts.reads id c done_it inv read in
      let n = in_filter (stays it.move.part (length it.move.stays)) it.line.marks f.m (f.place, f.stands) (flagged_stays it.move.part (length it.move.stays) f.m f.is_flagged) in
      record { place = n.0; m = f.m; stands = at_append (kept_marks it) (fresh_marks it) n.0 f.m n.1; its_id = f.its_id; is_flagged = f.is_flagged }

  adopt_one_flag : OneFlagOk (marks_now it)
  adopt_one_flag j k m y hj hk f g same = elim (cases_eq j k) [
    | inl is ↦ is
    | inr ne ↦
        let a = (flagged_was j m hj f).2 in
        let b = (flagged_was k y hk g).2 in
        elim (cases_lt j k) [
          | inl lt ↦
              let w = filter_order (stays it.move.part (length it.move.stays)) it.line.marks j k m y a b lt in
              absurd (let e : w.0 ≡ w.1 = it.facts.one_flag w.0 w.1 m y w.2 w.3 f g same in omega (arith, w.4))
          | inr ge ↦
              let lt : k < j = omega arith in
              let w = filter_order (stays it.move.part (length it.move.stays)) it.line.marks k j y m b a lt in
              absurd (let e : w.0 ≡ w.1 = it.facts.one_flag w.0 w.1 y m w.2 w.3 g f (sym same) in omega (arith, w.4))
        ]
  ]

  adopt_in_time : InTimeOk (marks_now it) it.line.history
  adopt_in_time k y hk t j e m a lt hj f hc =
      let w = (flagged_was j m hj f).2 in
      let b : At (kept_marks it) k y = elim (at_append_cases (kept_marks it) (fresh_marks it) k y hk) [ inl old ↦ old | inr g ↦ absurd (omega (arith, g.1, at_within (kept_marks it) j m w)) ] in
      let u = filter_order (stays it.move.part (length it.move.stays)) it.line.marks k j y m b w lt in
      it.facts.in_time u.0 y u.2 t u.1 e m a u.4 u.3 f hc

  -- an adoption keeps the facts
  pub adopt_keeps : OrderOk (adopting it.line it.move)
  adopt_keeps =
      subst (λ (marks : List Mark). OrderOk (record it.line { parts = parts_now it; marks = marks; left = left_after it.line it.move })) (sym (adopted_is it.move.node it.move.part it.move.epoch (length it.move.stays) (replayed it) it.line.marks)) (record {
        history = it.facts.history;
        hashes = subst (HashesOk it.line.moving (parts_now it)) (sym (order_is it)) (adopt_hashes it);
        waiting = adopt_waiting;
        standing = adopt_standing;
        flags = adopt_flags;
        unflagged = adopt_unflagged;
        invoked = adopt_invoked;
        marked = subst (λ (l : List Asked). MarkedOk l it.line.history) (sym (order_is it)) (adopt_marked it);
        kinds = adopt_kinds;
        reads = adopt_reads;
        one_flag = adopt_one_flag;
        distinct = subst DistinctOk (sym (order_is it)) (adopt_distinct it);
        answered = subst (AnswersOk (parts_now it)) (sym (order_is it)) (adopt_answers it);
        once = adopt_once it;
        in_time = adopt_in_time;
      })
