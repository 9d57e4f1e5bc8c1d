-- What the order shows is an order of the history.
use Rattle.std.proofs.Common.{◌≡◌, ◌||◌, ◌<◌, ◌&&◌, cond, inl, inr, ℕ, suc, Bool, true, false, List, ◌∷◌, ◌++◌, take, drop, map, length, Some, refl, ap, sym, ◌∙◌, subst, arith, not}
use Rattle.std.specs.List.{filter}
use Rattle.std.proofs.lemmas.Bool.{cases_Bool, cases_eq, cases_lt, or_left, or_right}
use Rattle.curp_base.specs.Words.{At, numbered}
use Rattle.curp_base.proofs.Lists.{at_append_right, at_same, at_mapped}
use Rattle.curp_cmd.specs.Store.{applied, is_update, nothing}
use Rattle.curp_cmd.specs.declared.command.Answer.{Answer}
use Rattle.curp_cmd.specs.declared.command.Command.{Command}
use Rattle.curp_cmd.specs.declared.command.RequestId.{RequestId}
use Rattle.curp_order.specs.Order.{IsOrder, answers, store_after, Asked}
use Rattle.curp_order.specs.declared.Event.TheVariants.{Complete, Invoke}
use Rattle.curp_model.specs.Log.{IsDone}
use Rattle.curp_model.specs.Marks.{Mark, Place, in_turn, is_cut, is_shown, is_update_mark, shown}
use Rattle.curp_law_kept.specs.Hashes.{asked, updates}
use Rattle.curp_law_linear.specs.Hashes.{Part}
use Rattle.curp_facts.specs.Kept.{ShowsAnswer}
use Rattle.curp_law_linear.specs.Line.{AnsweredInOrder, LineState, LineOk, WasInvoked, answer_at}
use Rattle.curp_law_linear.proofs.AdoptedMarks.{filter_order}
use Rattle.curp_law_linear.proofs.Completions.{marks_once}
use Rattle.curp_law_linear.proofs.Hashes.{flagged_no_cut, update_mark, update_no_cut, update_place, update_timed, updates_append}
use Rattle.curp_law_linear.proofs.Lists.{distinct_from, take_split}
use Rattle.curp_base.proofs.Numbered.{filter_at}
use Rattle.curp_law_linear.proofs.Ops.{one_command}
use Rattle.curp_law_linear.proofs.Orders.{answer_there}
use Rattle.curp_law_linear.proofs.Shown.{by_updates}
use Rattle.curp_model.proofs.Marks.{shown_append}

-- what one thread gives a mark that is shown
shown_answer : (marks : List Mark) (j : ℕ) (m : Mark) → At marks j m → is_shown m ≡ true → (k : ℕ) × At (shown marks) k (asked m) × At (answers (shown marks)) k (answer_at marks j m.command)
shown_answer marks j m h t =
    let f : List Asked = shown (take j marks) in
    let b : List Asked = shown (drop (suc j) marks) in
    let whole : shown marks ≡ f ++ asked m ∷ b =
    ap shown (take_split marks j m h) ∙ shown_append (take j marks) (m ∷ drop (suc j) marks)
    ∙ ap (λ (c : Bool). shown (take j marks) ++ map asked (cond c (m ∷ filter is_shown (drop (suc j) marks)) (filter is_shown (drop (suc j) marks)))) t in (
      length f,
      subst (λ (l : List Asked). At l (length f) (asked m)) (sym whole) (at_append_right f (asked m ∷ b) 0 (length f) (asked m) (omega arith) refl),
      subst (λ (l : List Asked). At (answers l) (length f) (answer_at marks j m.command)) (sym whole) (answer_there f b (asked m)),
    )

-- and among the updates
update_answer : (marks : List Mark) (j : ℕ) (m : Mark) → At marks j m → is_update_mark m.place ≡ true
    → (k : ℕ) × At (updates marks) k (asked m) × At (answers (updates marks)) k (applied (store_after nothing (updates (take j marks))) m.command).answer
update_answer marks j m h t =
    let f : List Asked = updates (take j marks) in
    let b : List Asked = updates (drop (suc j) marks) in
    let whole : updates marks ≡ f ++ asked m ∷ b =
    ap updates (take_split marks j m h) ∙ updates_append (take j marks) (m ∷ drop (suc j) marks)
    ∙ ap (λ (c : Bool). updates (take j marks) ++ map asked (cond c (m ∷ filter (λ (o : Mark). is_update_mark o.place) (drop (suc j) marks)) (filter (λ (o : Mark). is_update_mark o.place) (drop (suc j) marks)))) t in (
      length f,
      subst (λ (l : List Asked). At l (length f) (asked m)) (sym whole) (at_append_right f (asked m ∷ b) 0 (length f) (asked m) (omega arith) refl),
      subst (λ (l : List Asked). At (answers l) (length f) (applied (store_after nothing (updates (take j marks))) m.command).answer) (sym whole) (answer_there f b (asked m)),
    )

-- what is shown is no open mark of an adoption
shown_no_cut : (p : Place) (b : Bool) → (b || is_update_mark p) ≡ true → (is_cut p && not b) ≡ false
shown_no_cut p true t = flagged_no_cut (is_cut p) true refl
shown_no_cut p false t = update_no_cut p true t

-- and is flagged, or came to the end
shown_timed : (p : Place) (b : Bool) → (b || is_update_mark p) ≡ true → (b || in_turn p) ≡ true
shown_timed p true t = refl
shown_timed p false t = update_timed p false t

-- a mark of the order
pub record ShownMark (marks : List Mark) (id : RequestId) : Type 0 where
  pub place : ℕ
  pub m : Mark
  pub stands : At marks place m
  pub shows : is_shown m ≡ true
  pub its_id : m.id ≡ id

module _ (s : LineState) (ok : LineOk s) where
  abbrev order : List Asked
  order = shown s.marks

  -- the mark of a request of the order
  abbrev shown_mark : (k : ℕ) (x : Asked) → At order k x → (w : ShownMark s.marks x.0) × (asked w.m ≡ x)
  shown_mark k x h =
      let m = at_mapped asked (filter is_shown s.marks) k x h in
      let f = filter_at is_shown s.marks k m.0 m.1 in
      (record { place = f.0; m = m.0; stands = f.1; shows = f.2; its_id = ap (λ (y : Asked). y.0) m.2 }, m.2)

  -- of two requests of the order the marks stand in its order
  in_order : (l k : ℕ) (x y : Asked) → At order l x → At order k y → l < k → (w : ShownMark s.marks x.0) × (v : ShownMark s.marks y.0) × (w.place < v.place)
  in_order l k x y hl hk lt =
      let a = at_mapped asked (filter is_shown s.marks) l x hl in
      let b = at_mapped asked (filter is_shown s.marks) k y hk in
      let fa = filter_at is_shown s.marks l a.0 a.1 in
      let fb = filter_at is_shown s.marks k b.0 b.1 in
      let f = filter_order is_shown s.marks l k a.0 b.0 a.1 b.1 lt in (
        record { place = f.0; m = a.0; stands = f.2; shows = fa.2; its_id = ap (λ (z : Asked). z.0) a.2 },
        record { place = f.1; m = b.0; stands = f.3; shows = fb.2; its_id = ap (λ (z : Asked). z.0) b.2 },
        f.4,
      )

  flagged_or_update : (m : Mark) → is_shown m ≡ true → is_update_mark m.place ≡ false → m.completed ≡ true
  flagged_or_update m t look = go m.completed (is_update_mark m.place) t look
    where
      go : (c u : Bool) → (c || u) ≡ true → u ≡ false → c ≡ true
      go true u e f = refl
      go false u e f = absurd (let bad : true ≡ false = sym e ∙ f in cc)

  shown_invoked : (k : ℕ) (m : Mark) → At s.marks k m → is_shown m ≡ true → WasInvoked s.history m.id m.command
  shown_invoked k m h t = ok.order.invoked k m h (shown_no_cut m.place m.completed t)

  one_kind : (j k : ℕ) (m o : Mark) → At s.marks j m → At s.marks k o → is_shown m ≡ true → is_shown o ≡ true → m.id ≡ o.id → is_update_mark m.place ≡ is_update_mark o.place
  one_kind j k m o hj hk tm to same =
      let command : m.command ≡ o.command = one_command s.history ok.order.history m.id o.id m.command o.command same (shown_invoked j m hj tm) (shown_invoked k o hk to) in
      sym (ok.order.kinds j m hj) ∙ ap is_update command ∙ ok.order.kinds k o hk

  -- a request has one mark that is shown
  one_shown : (id : RequestId) (w v : ShownMark s.marks id) → w.place ≡ v.place
  one_shown id w v =
      let same : w.m.id ≡ v.m.id = w.its_id ∙ sym v.its_id in
      let kind = one_kind w.place v.place w.m v.m w.stands v.stands w.shows v.shows same in
      elim (cases_Bool (is_update_mark w.m.place)) [
        | inl y ↦ marks_once s.marks (distinct_from (updates s.marks) ok.order.distinct) w.place v.place w.m v.m w.stands v.stands y (sym kind ∙ y) same
        | inr n ↦ ok.order.one_flag w.place v.place w.m v.m w.stands v.stands (flagged_or_update w.m w.shows n) (flagged_or_update v.m v.shows (sym kind ∙ n)) same
      ]

  order_once : (j k : ℕ) (x y : Asked) → At order j x → At order k y → x.0 ≡ y.0 → j ≡ k
  order_once j k x y hj hk same = elim (cases_eq j k) [
    | inl is ↦ is
    | inr ne ↦ elim (cases_lt j k) [
      | inl lt ↦ absurd (let w = in_order j k x y hj hk lt in let e = one_shown y.0 (subst (ShownMark s.marks) same w.0) w.1 in omega (arith, e, w.2))
      | inr ge ↦
          let lt : k < j = omega arith in
          absurd (let w = in_order k j y x hk hj lt in let e = one_shown x.0 (subst (ShownMark s.marks) (sym same) w.0) w.1 in omega (arith, e, w.2))
    ]
  ]

  -- ---- answers

  -- an update that is answered in the order of updates has a mark with that answer
  abbrev answered_mark : (x : Asked) (a : Answer) → AnsweredInOrder (updates s.marks) x a → (w : ShownMark s.marks x.0) × (answer_at s.marks w.place w.m.command ≡ a)
  answered_mark x a w =
      let u = update_mark s.marks w.place x w.stands in
      let t = update_answer s.marks u.1 u.0 u.2 u.3 in
      let its_id : u.0.id ≡ x.0 = ap (λ (y : Asked). y.0) u.4 in
      let same : t.0 ≡ w.place = ok.order.distinct t.0 w.place (asked u.0) x t.1 w.stands its_id in
      let there : At (answers (updates s.marks)) w.place (applied (store_after nothing (updates (take u.1 s.marks))) u.0.command).answer =
      subst (λ (k : ℕ). At (answers (updates s.marks)) k (applied (store_after nothing (updates (take u.1 s.marks))) u.0.command).answer) same t.2 in (
        record { place = u.1; m = u.0; stands = u.2; shows = or_right u.0.completed _ u.3; its_id = its_id },
        by_updates s.marks ok.order.kinds u.1 u.0.command ∙ at_same (answers (updates s.marks)) w.place _ a there w.answer,
      )

  -- a completed request has a mark with the answer that it completed with
  completed_mark : (i : ℕ) (id : RequestId) (a : Answer) → At s.history i (Complete id a) → (w : ShownMark s.marks id) × (answer_at s.marks w.place w.m.command ≡ a)
  completed_mark i id a h =
      let v = ok.order.history.after_invoked i id a h in
      elim (cases_Bool (is_update v.1)) [
        | inl up ↦ answered_mark (id, v.1) a (ok.order.marked i id v.1 a h (record { event = v.0; stands = v.3 }) up)
        | inr read ↦
            let f = ok.order.reads id v.1 (record { event = i; answer = a; stands = h }) (record { event = v.0; stands = v.3 }) read in
            let command : f.m.command ≡ v.1 = one_command s.history ok.order.history f.m.id id f.m.command v.1 f.its_id (ok.order.invoked f.place f.m f.stands (flagged_no_cut (is_cut f.m.place) f.m.completed f.is_flagged)) (record { event = v.0; stands = v.3 }) in
            let look : is_update_mark f.m.place ≡ false = sym (ok.order.kinds f.place f.m f.stands) ∙ ap is_update command ∙ read in (
              record { place = f.place; m = f.m; stands = f.stands; shows = or_left f.m.completed _ f.is_flagged; its_id = f.its_id },
              ok.looks.values f.place i f.m a f.stands look f.is_flagged (subst (λ (x : RequestId). At s.history i (Complete x a)) (sym f.its_id) h),
            )
      ]

  shows_mark : (id : RequestId) (a : Answer) → (w : ShownMark s.marks id) → answer_at s.marks w.place w.m.command ≡ a → ShowsAnswer s.marks id a
  shows_mark id a w e =
      let t = shown_answer s.marks w.place w.m w.stands w.shows in
      record { place = t.0; x = asked w.m; stands = t.1; its_id = w.its_id; answer = subst (λ (b : Answer). At (answers (shown s.marks)) t.0 b) e t.2 }

  -- a completed request stands in the order with its answer
  pub shows_completed : (i : ℕ) (id : RequestId) (a : Answer) → At s.history i (Complete id a) → ShowsAnswer s.marks id a
  shows_completed i id a h = let w = completed_mark i id a h in shows_mark id a w.0 w.1

  -- an op of an adopted log stands in the order with the answer that the log gives, whenever a reply tells it
  pub shows_done : (n : ℕ) (p : Part) (id : RequestId) (a : Answer) → numbered s.parts n ≡ Some p → IsDone p.lo p.hi p.log id a → ShowsAnswer s.marks id a
  shows_done n p id a hn done =
      let x : Asked = (done.request.id, done.request.command) in
      let w = answered_mark x a (subst (AnsweredInOrder (updates s.marks) x) done.its_answer (ok.order.answered n p done.index done.request done.acknowledged hn done.stands)) in
      subst (λ (i : RequestId). ShowsAnswer s.marks i a) done.its_id (shows_mark done.request.id a w.0 w.1)

  -- ---- the order

  -- a completed request's mark is flagged
  flag_of : (id : RequestId) (i : ℕ) (a : Answer) → At s.history i (Complete id a) → (w : ShownMark s.marks id) → w.m.completed ≡ true
  flag_of id i a h w = elim (cases_Bool w.m.completed) [
    | inl y ↦ y
    | inr n ↦ elim (cases_Bool (is_update_mark w.m.place)) [
      | inl up ↦
          let p = update_place w.m.place up in
          absurd (ok.order.unflagged w.place p.0 w.m w.stands p.1 n (record { event = i; answer = a; stands = subst (λ (x : RequestId). At s.history i (Complete x a)) (sym w.its_id) h }))
      | inr look ↦ flagged_or_update w.m w.shows look
    ]
  ]

  order_in_time : (i j : ℕ) (earlier late : RequestId) (a : Answer) (c : Command) → i < j → At s.history i (Complete earlier a) → At s.history j (Invoke late c)
      → (k l : ℕ) (x y : Asked) → At order k x → x.0 ≡ earlier → At order l y → y.0 ≡ late → k < l
  order_in_time i j earlier late a c ij hi hj k l x y hk xe hl yl = elim (cases_lt k l) [
    | inl lt ↦ lt
    | inr ge ↦ absurd (elim (cases_eq k l) [
      | inl same ↦
          let is : x ≡ y = at_same order l x y (subst (λ (n : ℕ). At order n x) same hk) hl in
          let v = ok.order.history.after_invoked i earlier a hi in
          let one : earlier ≡ late = sym xe ∙ ap (λ (z : Asked). z.0) is ∙ yl in
          let e : v.0 ≡ j = ok.order.history.invoked_once v.0 j late v.1 c (subst (λ (z : RequestId). At s.history v.0 (Invoke z v.1)) one v.3) hj in
          omega (arith, e, v.2)
      | inr ne ↦
          let below : l < k = omega arith in
          let f = in_order l k y x hl hk below in
          let done = flag_of x.0 i a (subst (λ (z : RequestId). At s.history i (Complete z a)) (sym xe) hi) f.1 in
          let its_id : f.1.m.id ≡ earlier = f.1.its_id ∙ xe in
          let w = ok.order.in_time f.0.place f.0.m f.0.stands (shown_timed f.0.m.place f.0.m.completed f.0.shows) f.1.place i f.1.m a f.2 f.1.stands done (subst (λ (z : RequestId). At s.history i (Complete z a)) (sym its_id) hi) in
          let late_id : f.0.m.id ≡ late = f.0.its_id ∙ yl in
          let e : w.0 ≡ j = ok.order.history.invoked_once w.0 j late f.0.m.command c (subst (λ (z : RequestId). At s.history w.0 (Invoke z f.0.m.command)) late_id w.2) hj in
          omega (arith, e, w.1)
    ])
  ]

  -- what the order shows is an order of the history
  pub order_stands : IsOrder s.history (shown s.marks)
  order_stands = record {
    invoked = λ k x h.
        let u = shown_mark k x h in
        let v = shown_invoked u.0.place u.0.m u.0.stands u.0.shows in
        (v.event, subst (λ (y : Asked). At s.history v.event (Invoke y.0 y.1)) u.1 v.stands);
    once = order_once;
    stands = λ i id a h. let w = shows_completed i id a h in (w.place, w.x, w.stands, w.its_id);
    answered = λ i id a h k x hx same.
        let w = shows_completed i id a h in
        subst (λ (j : ℕ). At (answers (shown s.marks)) j a) (order_once w.place k w.x x w.stands hx (w.its_id ∙ sym same)) w.answer;
    in_time = order_in_time;
  }
