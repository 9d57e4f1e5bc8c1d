-- An expiry, and a look.
use Rattle.std.proofs.Common.{◌≡◌, ◌||◌, ℕ, inl, inr, true, false, List, [], ◌∷◌, ◌++◌, length, None, refl, ap, sym, ◌∙◌, subst, arith, append-nil, Bool, cond, map}
use Rattle.curp_base.specs.Words.{At}
use Rattle.curp_base.proofs.Lists.{at_append, at_push_cases, at_within}
use Rattle.curp_range.specs.Spans.{Span, is_owned}
use Rattle.curp_cmd.specs.Store.{is_update}
use Rattle.curp_cmd.specs.declared.command.Request.{Request}
use Rattle.curp_cmd.specs.declared.entry.Entry.{Entry}
use Rattle.curp_cmd.specs.declared.entry.Entry.TheVariants.{Expire, Op}
use Rattle.curp_model.specs.Marks.{Executed, Mark, is_update_mark, looked, quick}
use Rattle.curp_law_kept.specs.Hashes.{asked, behind, updates}
use Rattle.curp_order.specs.Order.{Asked}
use Rattle.curp_law_linear.specs.Hashes.{HashOk, HashesOk, Part, holds, is_give, is_take, onward}
use Rattle.curp_law_linear.specs.Line.{AnswersOk, DistinctOk, InTimeOk, InvokedOk, KindsOk, LineState, MarkedOk, OrderOk, ReadsOk, WasInvoked}
use Rattle.curp_law_linear.specs.Moves.{Look, LookFits, PushExpire, PushExpireFits, expire_pushed, looking, pushed, quickly}
use Rattle.curp_law_linear.proofs.Hashes.{any_push, has_take_push, owned_expire, updates_append}
use Rattle.curp_law_linear.proofs.Lines.{known_push, onward_log, onward_same}
use Rattle.curp_law_linear.proofs.Pushes as pushes
use Rattle.curp_law_kept.proofs.Gives.{behind_from_append, came_from_append}

module _ (s : LineState) (ok : OrderOk s) (o : PushExpire) (fits : PushExpireFits s o) where
  abbrev p : Part
  p = o.p

  abbrev e : Entry
  e = Expire o.client

  abbrev after : List Part
  after = pushed s.parts o.part o.p (Expire o.client)

  abbrev longer : Part
  longer = record o.p { log = o.p.log ++ Expire o.client ∷ [] }

  no_op : (r : Request) (a : ℕ) → e ≡ Op r a → ⊥
  no_op r a is = absurd cc

  behind_same : (h : ℕ) → behind h longer.log ≡ behind h p.log
  behind_same h = behind_from_append h [] p.log (e ∷ [])

  onward_alike : (h : ℕ) (log : List Entry) → onward s.moving after log h ≡ onward s.moving s.parts log h
  onward_alike h log = onward_same s.parts o.part p e fits.here h (behind_same h) (λ number. any_push (is_give number) p.log e refl) s.moving log

  held_before : (h : ℕ) → holds s.moving longer h ≡ true → holds s.moving p h ≡ true
  held_before h held = sym (λ i. ap (λ (spans : List Span). is_owned spans h) (owned_expire p.lo p.hi p.log o.client) i || has_take_push s.moving h p.log e (λ number. refl) i) ∙ held

  expire_own : (h : ℕ) → holds s.moving longer h ≡ true → HashOk s.moving after (updates s.marks) longer h
  expire_own h held =
      let here = ok.hashes o.part p fits.here h (held_before h held) in
      let more : onward s.moving after longer.log h ≡ onward s.moving s.parts p.log h =
      onward_alike h longer.log ∙ onward_log s.moving s.parts h p.log longer.log (λ number. any_push (is_take number) p.log e refl) in
      record {
        past = here.past;
        alike = here.alike ∙ (λ i. here.past ++ (sym (behind_same h) i ++ sym more i));
        values = λ key k. here.values key k ∙ sym (came_from_append h key None p.log (e ∷ []));
        known = λ y m. known_push p.lo p.hi h p.log e y.0 (here.known y m);
      }

  expire_hashes : HashesOk s.moving after (updates s.marks)
  expire_hashes k q hk h held = elim (pushes.cases s.parts o.part p e fits.here k q hk) [
    | inl old ↦
        let here = ok.hashes k q old.1 h held in
        record { past = here.past; alike = here.alike ∙ ap (λ w. here.past ++ (behind h q.log ++ w)) (sym (onward_alike h q.log)); values = here.values; known = here.known }
    | inr new ↦ subst (λ (y : Part). HashOk s.moving after (updates s.marks) y h) new.1 (expire_own h (subst (λ (y : Part). holds s.moving y h ≡ true) (sym new.1) held))
  ]

  -- an expiry keeps the facts
  pub expire_keeps : OrderOk (expire_pushed s o)
  expire_keeps = record {
    history = ok.history;
    hashes = expire_hashes;
    waiting = pushes.waiting_stays s.parts o.part p e fits.here s.marks ok.waiting;
    standing = pushes.standing_stays s.parts o.part p e fits.here s.marks ok.standing;
    flags = ok.flags;
    unflagged = ok.unflagged;
    invoked = ok.invoked;
    marked = ok.marked;
    kinds = ok.kinds;
    reads = ok.reads;
    one_flag = ok.one_flag;
    distinct = ok.distinct;
    answered = pushes.answers_stay s.parts o.part p e fits.here no_op (updates s.marks) ok.answered;
    once = pushes.once_stays s.parts o.part p e fits.here no_op ok.once;
    in_time = ok.in_time;
  }

-- ---- a look, or another mark of a read at the end

module _ (s : LineState) (ok : OrderOk s) (mark : Mark) (no_update : is_update_mark mark.place ≡ false) (no_flag : mark.completed ≡ false) (reads : is_update mark.command ≡ false)
    (was_invoked : WasInvoked s.history mark.id mark.command) where
  abbrev marks : List Mark
  marks = s.marks ++ mark ∷ []

  same_order : updates s.marks ≡ updates marks
  same_order = sym (updates_append s.marks (mark ∷ []) ∙ ap (λ (l : List Asked). updates s.marks ++ l) none ∙ append-nil (updates s.marks))
    where
      none : updates (mark ∷ []) ≡ []
      none = ap (λ (b : Bool). map asked (cond b (mark ∷ []) [])) no_update

  old_update : (k i : ℕ) (m : Mark) → At marks k m → m.place ≡ Executed i → At s.marks k m
  old_update k i m h is = elim (at_push_cases s.marks mark k m h) [
    | inl old ↦ old
    | inr last ↦ absurd (let e : false ≡ true = sym no_update ∙ ap (λ (y : Mark). is_update_mark y.place) last.1 ∙ ap is_update_mark is in cc)
  ]

  old_flagged : (k : ℕ) (m : Mark) → At marks k m → m.completed ≡ true → At s.marks k m
  old_flagged k m hk f = elim (at_push_cases s.marks mark k m hk) [
    | inl old ↦ old
    | inr last ↦ absurd (let is : false ≡ true = sym no_flag ∙ ap (λ (y : Mark). y.completed) last.1 ∙ f in cc)
  ]

  look_invoked : InvokedOk marks s.history
  look_invoked k m hk uncut = elim (at_push_cases s.marks mark k m hk) [
    | inl old ↦ ok.invoked k m old uncut
    | inr last ↦ subst (λ (y : Mark). WasInvoked s.history y.id y.command) last.1 was_invoked
  ]

  look_kinds : KindsOk marks
  look_kinds k m hk = elim (at_push_cases s.marks mark k m hk) [
    | inl old ↦ ok.kinds k m old
    | inr last ↦ subst (λ (y : Mark). is_update y.command ≡ is_update_mark y.place) last.1 (reads ∙ sym no_update)
  ]

  look_reads : ReadsOk marks s.history
  look_reads id c done inv read = let f = ok.reads id c done inv read in record { place = f.place; m = f.m; stands = at_append s.marks _ f.place f.m f.stands; its_id = f.its_id; is_flagged = f.is_flagged }

  look_in_time : InTimeOk marks s.history
  look_in_time k other hk t j ev m a lt hj f hc = elim (at_push_cases s.marks mark k other hk) [
    | inl older ↦ ok.in_time k other older t j ev m a lt (old_flagged j m hj f) f hc
    | inr last ↦ absurd (omega (arith, last.0, at_within s.marks j m (old_flagged j m hj f)))
  ]

  -- it keeps the facts
  pub read_keeps : OrderOk (record s { marks = s.marks ++ mark ∷ [] })
  read_keeps = record {
    history = ok.history;
    hashes = subst (HashesOk s.moving s.parts) same_order ok.hashes;
    waiting = λ k i m hk is f. ok.waiting k i m (old_update k i m hk is) is f;
    standing = λ k i m hk is. ok.standing k i m (old_update k i m hk is) is;
    flags = λ k m hk f. ok.flags k m (old_flagged k m hk f) f;
    unflagged = λ k i m hk is f c. ok.unflagged k i m (old_update k i m hk is) is f c;
    invoked = look_invoked;
    marked = subst (λ (l : List Asked). MarkedOk l s.history) same_order ok.marked;
    kinds = look_kinds;
    reads = look_reads;
    one_flag = λ j k m y hj hk f g same. ok.one_flag j k m y (old_flagged j m hj f) (old_flagged k y hk g) f g same;
    distinct = subst DistinctOk same_order ok.distinct;
    answered = subst (AnswersOk s.parts) same_order ok.answered;
    once = ok.once;
    in_time = look_in_time;
  }

-- a look keeps the facts
pub look_keeps : (s : LineState) → OrderOk s → (o : Look) → LookFits s o → OrderOk (looking s o)
look_keeps s ok o fits = read_keeps s ok (looked o.node o.part o.epoch o.capture (length o.p.log) o.id o.command) refl refl fits.reads fits.was_invoked

-- and so does a quick mark at the end
pub quick_keeps : (s : LineState) → OrderOk s → (o : Look) → LookFits s o → OrderOk (quickly s o)
quick_keeps s ok o fits = read_keeps s ok (quick o.node o.part o.epoch o.capture o.id o.command) refl refl fits.reads fits.was_invoked
