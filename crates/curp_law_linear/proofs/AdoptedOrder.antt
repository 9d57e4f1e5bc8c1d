-- An adoption at one hash: the order is what stood before the cut, and behind it first what goes and then what is replayed.
use Rattle.std.proofs.Common.{◌≡◌, ℕ, ◌+◌, ◌||◌, ◌&&◌, inl, inr, ◌⊎◌, Bool, true, false, not, List, [], ◌++◌, length, Option, Some, None, refl, ap, sym, ◌∙◌, subst, arith, append-nil, append_assoc}
use Rattle.std.proofs.Math.Bool.{or-false}
use Rattle.std.specs.List.{IsDistinct, filter, list_any}
use Rattle.std.proofs.lemmas.Bool.{and_from, and_parts, cases_Bool, or_cases, or_right}
use Rattle.std.proofs.lemmas.List.Elements.{filter-append}
use Rattle.std.proofs.lemmas.List.Folds.{list_any-append}
use Rattle.curp_base.specs.Words.{At, numbered}
use Rattle.curp_base.proofs.Lists.{at_append, at_append_right, at_same}
use Rattle.curp_range.specs.Spans.{Span, is_in, is_owned}
use Rattle.curp_cmd.specs.Hash.{touches}
use Rattle.curp_cmd.specs.RequestId.{same_id}
use Rattle.curp_cmd.specs.declared.command.Command.{Command}
use Rattle.curp_cmd.specs.declared.command.Request.{Request}
use Rattle.curp_cmd.specs.declared.command.RequestId.{RequestId}
use Rattle.curp_cmd.specs.declared.entry.Entry.{Entry}
use Rattle.curp_cmd.proofs.Ids.{same_id-true}
use Rattle.curp_model.specs.Laws.{clash}
use Rattle.curp_model.specs.Log.{meaning}
use Rattle.curp_model.specs.Manager.{Migration}
use Rattle.curp_model.specs.Marks.{Mark}
use Rattle.curp_model.specs.Recovery.{replays}
use Rattle.curp_model.specs.Table.{check}
use Rattle.curp_model.specs.declared.Check.TheVariants.{New}
use Rattle.curp_model.proofs.Filters.{filter_apart}
use Rattle.curp_model.proofs.Logs.{new_by_test, op_not_new}
use Rattle.curp_law_kept.specs.Hashes.{In, NoGive, behind, gives, on}
use Rattle.curp_order.specs.Order.{Asked}
use Rattle.curp_law_linear.specs.Hashes.{HashOk, has_take, holds, is_take, onward, owns}
use Rattle.curp_law_linear.specs.Line.{IsCompleted, Ungiven}
use Rattle.curp_law_linear.specs.Moves.{ops}
use Rattle.curp_law_linear.proofs.AdoptedMarks.{stays}
use Rattle.curp_law_linear.proofs.Adopting.{Adopting, Prefixes, again, cut_part, done, gone, is_done, is_gone, keeps_on, new_part, not_done, order_now, order_was, parts_now, replayed}
use Rattle.curp_law_linear.proofs.Entries.{take_ungiven}
use Rattle.curp_law_linear.proofs.Hashes.{behind_in, no_onward, update_mark, update_no_cut, update_place}
use Rattle.curp_law_linear.proofs.Lines.{has_moving}
use Rattle.curp_law_linear.proofs.Lists.{Distinct, distinct_filter, distinct_from, filter_alike, filter_full, filter_swap, from_filter, in_any, in_cases, in_filter, in_left, in_none, same_id-alike, some_or_none}
use Rattle.curp_base.proofs.Numbered.{any_at, filter_at, numbered_set_same}
use Rattle.curp_law_linear.proofs.Ops.{one_command}
use Rattle.curp_law_linear.proofs.Orders.{behind_asked, core, distinct_split}
use Rattle.curp_law_linear.proofs.Requests.{asked_all_in, asked_of_in, distinct_asked_all, distinct_asked_of, in_asked_all, one_on, ops_any, owned_ops}
use Rattle.curp_law_linear.proofs.Takes.{onward_ungiven}
use Rattle.curp_law_kept.proofs.Gives.{on_append, behind_from_append}

module _ (it : Adopting) where
  -- ---- what goes

  -- what goes stood behind what stays
  pub at_goes : (k : ℕ) (e : Entry) → At it.move.goes k e → At it.move.p.log (length it.move.stays + k) e
  at_goes k e h = subst (λ (l : List Entry). At l (length it.move.stays + k) e) (sym it.fits.is) (at_append_right it.move.stays it.move.goes k _ e refl h)

  -- what stays stood at its place
  pub at_stays : (k : ℕ) (e : Entry) → At it.move.stays k e → At it.move.p.log k e
  at_stays k e h = subst (λ (l : List Entry). At l k e) (sym it.fits.is) (at_append it.move.stays it.move.goes k e h)

  -- no request stood twice in the order
  pub was_distinct : Distinct (order_was it)
  was_distinct = distinct_from (order_was it) it.facts.distinct

  -- nor does one go twice
  pub gone_distinct : Distinct (gone it)
  gone_distinct = distinct_asked_of it.move.goes (λ i j r t a b hi hj same.
      let e = (it.facts.once it.move.part it.move.part it.move.p it.move.p (length it.move.stays + i) (length it.move.stays + j) r t a b it.fits.here it.fits.here (at_goes i _ hi) (at_goes j _ hj) same).1 in omega arith)

  -- what goes stood in the order
  pub gone_stood : (x : Asked) → In x (gone it) → In x (order_was it)
  gone_stood x m =
      let w = asked_of_in it.move.goes x m in
      let a = it.facts.answered it.move.part it.move.p (length it.move.stays + w.0) w.1 w.2 it.fits.here (at_goes w.0 _ w.3) in
      subst (λ (y : Asked). In y (order_was it)) w.4 (a.place, a.stands)

  -- what goes passes the test of it
  pub test_gone : (x : Asked) → In x (gone it) → is_gone it x ≡ true
  test_gone x m = in_any (λ (y : Asked). same_id y.0 x.0) (gone it) x m (same_id-alike x.0 x.0 refl)

  -- an id has one command in the order
  pub one_of_id : (x y : Asked) → In x (order_was it) → In y (order_was it) → x.0 ≡ y.0 → x ≡ y
  one_of_id x y mx my same = at_same (order_was it) my.0 x y (subst (λ (j : ℕ). At (order_was it) j x) (it.facts.distinct mx.0 my.0 x y mx.1 my.1 same) mx.1) my.1

  -- what of the order passes the test goes
  pub gone_by_test : (x : Asked) → In x (order_was it) → is_gone it x ≡ true → In x (gone it)
  gone_by_test x m t =
      let w = any_at (λ (y : Asked). same_id y.0 x.0) (gone it) t in
      let my : In w.1 (gone it) = (w.0, w.2) in
      let same : w.1 ≡ x = one_of_id w.1 x (gone_stood w.1 my) m (same_id-true w.1.0 x.0 w.3) in
      subst (λ (y : Asked). In y (gone it)) same my

  -- ---- what is replayed

  -- a replayed request was held, and is replayed over what stays
  pub replayed_held : (j : ℕ) (q : Request) → At (replayed it) j q → (i : ℕ) × At it.move.held i q × (replays (meaning it.move.p.lo it.move.p.hi it.move.stays) q ≡ true)
  replayed_held j q h = filter_at (replays (meaning it.move.p.lo it.move.p.hi it.move.stays)) it.move.held j q h

  -- it is new to what stays
  pub replayed_new : (j : ℕ) (q : Request) → At (replayed it) j q → check (meaning it.move.p.lo it.move.p.hi it.move.stays).table q.id ≡ New
  replayed_new j q h = new_by_test _ (and_parts _ _ (replayed_held j q h).2).1

  -- no two of them clash
  pub replayed_apart : IsDistinct clash (replayed it)
  replayed_apart = filter_apart (replays (meaning it.move.p.lo it.move.p.hi it.move.stays)) clash it.move.held it.fits.apart

  -- none is replayed twice
  pub again_distinct : Distinct (again it)
  again_distinct = distinct_asked_all (replayed it) replayed_apart

  -- at one hash one is replayed at most
  pub again_once : (h : ℕ) (x y : Asked) → In x (on h (again it)) → In y (on h (again it)) → x ≡ y
  again_once h x y mx my =
      let fx = from_filter (λ (z : Asked). touches z.1 h) (again it) x mx in
      let fy = from_filter (λ (z : Asked). touches z.1 h) (again it) y my in
      let wx = asked_all_in (replayed it) x fx.0 in
      let wy = asked_all_in (replayed it) y fy.0 in
      let same : wx.1 ≡ wy.1 =
      one_on (replayed it) replayed_apart wx.0 wy.0 wx.1 wy.1 h wx.2 wy.2 (ap (λ (z : Asked). touches z.1 h) wx.3 ∙ fx.1) (ap (λ (z : Asked). touches z.1 h) wy.3 ∙ fy.1) in
      sym wx.3 ∙ ap (λ (r : Request). (r.id, r.command)) same ∙ wy.3

  -- what it owns at the cut has no give that goes
  pub no_give : (h : ℕ) → owns (cut_part it.move) h ≡ true → NoGive h it.move.goes
  no_give h own = elim (cases_Bool (list_any (gives h) it.move.goes)) [
    | inl y ↦ absurd (let bad : true ≡ false = sym own ∙ it.fits.unowned h y in cc)
    | inr n ↦ n
  ]

  -- ---- what is done

  -- a request with a flagged mark has completed
  pub done_completed : (id : RequestId) → done it id ≡ true → IsCompleted it.line.history id
  done_completed id d =
      let w = any_at (λ (m : Mark). m.completed && same_id m.id id) it.line.marks d in
      let c = and_parts w.1.completed (same_id w.1.id id) w.3 in
      subst (IsCompleted it.line.history) (same_id-true w.1.id id c.1) (it.facts.flags w.0 w.1 w.2 c.0)

  -- a completed one of the order has a flagged mark
  pub completed_done : (x : Asked) → In x (order_was it) → IsCompleted it.line.history x.0 → done it x.0 ≡ true
  completed_done x m c =
      let u = update_mark it.line.marks m.0 x m.1 in
      let i = update_place u.0.place u.3 in
      let its_id : u.0.id ≡ x.0 = ap (λ (y : Asked). y.0) u.4 in
      elim (cases_Bool u.0.completed) [
        | inl y ↦ in_any (λ (o : Mark). o.completed && same_id o.id x.0) it.line.marks u.0 (u.1, u.2) (and_from _ _ y (same_id-alike u.0.id x.0 its_id))
        | inr n ↦ absurd (it.facts.unflagged u.1 i.0 u.0 u.2 i.1 n (subst (IsCompleted it.line.history) (sym its_id) c))
      ]

  -- what is done of what goes is replayed
  pub kept_done : (x : Asked) → In x (gone it) → done it x.0 ≡ true → In x (again it)
  kept_done x m d =
      let w = asked_of_in it.move.goes x m in
      let c : IsCompleted it.line.history w.1.id = subst (IsCompleted it.line.history) (ap (λ (y : Asked). y.0) (sym w.4)) (done_completed x.0 d) in
      let q = (it.fits.done w.0 w.1 w.2 w.3 c).0 in
      let same : (q.request.id, q.request.command) ≡ x = (λ i. (q.its_id i, q.its_command i)) ∙ w.4 in
      subst (λ (y : Asked). In y (again it)) same (in_asked_all (replayed it) q.replayed.place q.request q.replayed.stands)

  -- ---- where the take stands

  -- a take that is out stays, or goes and then no log has its give
  pub take_where : (h : ℕ) → has_take it.line.moving h it.move.p.log ≡ true → (has_take it.line.moving h it.move.stays ≡ true) ⊎ ((m : Migration) × (it.line.moving ≡ Some m) × Ungiven it.line.parts m.number)
  take_where h t =
      let m = has_moving it.line.moving h it.move.p.log t in
      let t2 : has_take (Some m.0) h it.move.p.log ≡ true = subst (λ (mv : Option Migration). has_take mv h it.move.p.log ≡ true) m.1 t in
      let c = and_parts (is_in m.0.range.lo m.0.range.hi h) (list_any (is_take m.0.number) it.move.p.log) t2 in
      let both : (list_any (is_take m.0.number) it.move.stays || list_any (is_take m.0.number) it.move.goes) ≡ true = sym (list_any-append (is_take m.0.number) it.move.stays it.move.goes) ∙ ap (list_any (is_take m.0.number)) (sym it.fits.is) ∙ c.1 in
      elim (or_cases _ _ both) [
        | inl y ↦
            let t3 : has_take (Some m.0) h it.move.stays ≡ true = and_from (is_in m.0.range.lo m.0.range.hi h) _ c.0 y in
            inl (subst (λ (mv : Option Migration). has_take mv h it.move.stays ≡ true) (sym m.1) t3)
        | inr y ↦ let w = any_at (is_take m.0.number) it.move.goes y in inr (m.0, m.1, take_ungiven it.line m.0.number w.1 w.3 (it.fits.moving w.0 w.1 w.2))
      ]

  -- where no take of the hash stays, nothing went on elsewhere
  pub no_onward_unless : (h : ℕ) → (has_take it.line.moving h it.move.stays ≡ true → ⊥) → onward it.line.moving it.line.parts it.move.p.log h ≡ []
  no_onward_unless h none = elim (cases_Bool (has_take it.line.moving h it.move.p.log)) [
    | inr n ↦ no_onward it.line.moving it.line.parts it.move.p.log h n
    | inl y ↦ elim (take_where h y) [
      | inl t ↦ absurd (none t)
      | inr m ↦ ap (λ (mv : Option Migration). onward mv it.line.parts it.move.p.log h) m.1 ∙ onward_ungiven m.0 it.line.parts it.move.p.log h m.2
    ]
  ]

  -- the take is out afterwards where it stays
  pub take_new : (h : ℕ) → has_take it.line.moving h (new_part it).log ≡ has_take it.line.moving h it.move.stays
  take_new h = go it.line.moving
    where
      go : (mv : Option Migration) → has_take mv h (new_part it).log ≡ has_take mv h it.move.stays
      go None = refl
      go (Some m) =
          ap (λ (b : Bool). is_in m.range.lo m.range.hi h && b) (list_any-append (is_take m.number) it.move.stays (ops (replayed it)) ∙ ap (λ (b : Bool). list_any (is_take m.number) it.move.stays || b) (ops_any (is_take m.number) (λ r. refl) (replayed it)) ∙ or-false (list_any (is_take m.number) it.move.stays))

  -- what is replayed changes nothing of what is owned
  pub owns_new : (h : ℕ) → owns (new_part it) h ≡ owns (cut_part it.move) h
  owns_new h = ap (λ (spans : List Span). is_owned spans h) (owned_ops it.move.p.lo it.move.p.hi it.move.stays (replayed it))

  -- the partition has its new log
  pub own_after : numbered (parts_now it) it.move.part ≡ Some (new_part it)
  own_after = numbered_set_same it.line.parts it.move.part it.move.p (new_part it) it.fits.here

  -- an owned hash at the cut has no take
  pub no_take : (h : ℕ) → owns (cut_part it.move) h ≡ true → has_take it.line.moving h it.move.stays ≡ true → ⊥
  no_take h own t = it.owned_after.gone it.move.part (new_part it) h own_after (owns_new h ∙ own) (take_new h ∙ t)

  -- ---- the line where no give goes

  -- what stands behind the last give: what stays of it, and what goes
  pub line_is : (h : ℕ) → NoGive h it.move.goes → behind h it.move.p.log ≡ behind h it.move.stays ++ on h (gone it)
  line_is h none = ap (behind h) it.fits.is ∙ behind_from_append h [] it.move.stays it.move.goes ∙ behind_asked h (behind h it.move.stays) it.move.goes none

  -- the equation before the adoption
  pub at_hash : (h : ℕ) → holds it.line.moving it.move.p h ≡ true → HashOk it.line.moving it.line.parts (order_was it) it.move.p h
  at_hash h held = it.facts.hashes it.move.part it.move.p it.fits.here h held

  -- a request of the order with the id of one that is replayed goes
  pub replayed_goes : (j : ℕ) (q : Request) (x : Asked) → At (replayed it) j q → In x (order_was it) → x.0 ≡ q.id → In x (gone it)
  replayed_goes j q x hq m same =
      let k = replayed_held j q hq in
      let a = it.fits.asked k.0 q k.1 in
      let h = a.hash in
      let t : touches q.command h ≡ true = a.has_hash in
      let own = it.ground.owned j h q hq t in
      let none = no_give h own in
      let u = update_mark it.line.marks m.0 x m.1 in
      let its_id : u.0.id ≡ q.id = ap (λ (z : Asked). z.0) u.4 ∙ same in
      let command : x.1 ≡ q.command = ap (λ (z : Asked). z.1) (sym u.4) ∙ one_command it.line.history it.facts.history u.0.id q.id u.0.command q.command its_id (it.facts.invoked u.1 u.0 u.2 (update_no_cut u.0.place (not u.0.completed) u.3)) a.was_invoked in
      let here = at_hash h (it.ground.held_before h own none) in
      let tx : touches x.1 h ≡ true = ap (λ (c : Command). touches c h) command ∙ t in
      let is_new : check (meaning it.move.p.lo it.move.p.hi it.move.stays).table x.0 ≡ New = ap (check (meaning it.move.p.lo it.move.p.hi it.move.stays).table) same ∙ replayed_new j q hq in
      let on_line : In x (here.past ++ (behind h it.move.p.log ++ onward it.line.moving it.line.parts it.move.p.log h)) = subst (In x) here.alike (in_filter (λ (z : Asked). touches z.1 h) (order_was it) x m tx) in
      elim (in_cases here.past _ x on_line) [
        | inl past ↦ absurd (here.known x past it.move.stays it.move.goes (sym it.fits.is) none is_new)
        | inr rest ↦ elim (in_cases (behind h it.move.p.log) _ x rest) [
          | inr on_more ↦ in_none x _ (subst (In x) (no_onward_unless h (no_take h own)) on_more)
          | inl back ↦ elim (in_cases (behind h it.move.stays) (on h (gone it)) x (subst (In x) (line_is h none) back)) [
            | inr goes ↦ (from_filter (λ (z : Asked). touches z.1 h) (gone it) x goes).0
            | inl stays ↦ elim (behind_in h [] it.move.stays x stays) [
              | inl none_there ↦ in_none x _ none_there
              | inr op ↦ absurd (op_not_new it.move.p.lo it.move.p.hi it.move.stays op.place op.request op.acknowledged op.stands (ap (λ (z : Asked). check (meaning it.move.p.lo it.move.p.hi it.move.stays).table z.0) op.is ∙ is_new))
            ]
          ]
        ]
      ]

  -- what is replayed and done goes
  pub known_done : (x : Asked) → In x (again it) → done it x.0 ≡ true → In x (gone it)
  known_done x m d =
      let w = asked_all_in (replayed it) x m in
      let k = replayed_held w.0 w.1 w.2 in
      let a = it.fits.asked k.0 w.1 k.1 in
      let c : IsCompleted it.line.history w.1.id = subst (IsCompleted it.line.history) (ap (λ (y : Asked). y.0) (sym w.3)) (done_completed x.0 d) in
      let there = it.facts.marked c.event w.1.id w.1.command c.answer c.stands a.was_invoked a.updates in
      subst (λ (y : Asked). In y (gone it)) w.3 (replayed_goes w.0 w.1 (w.1.id, w.1.command) w.2 (there.place, there.stands) refl)

  -- ---- the order before the cut and behind it, at each hash

  -- no request stood twice at a hash
  pub was_distinct_on : (h : ℕ) → Distinct (on h (order_was it))
  was_distinct_on h = distinct_filter _ (order_was it) was_distinct

  -- what is replayed at a hash is owned at the cut
  pub replayed_on : (h : ℕ) (x : Asked) → In x (on h (again it)) → owns (cut_part it.move) h ≡ true
  replayed_on h x m =
      let f = from_filter (λ (z : Asked). touches z.1 h) (again it) x m in
      let w = asked_all_in (replayed it) x f.0 in
      it.ground.owned w.0 h w.1 w.2 (ap (λ (z : Asked). touches z.1 h) w.3 ∙ f.1)

  -- what goes at a hash is of one that the partition holds, and whose take doesn't stay
  pub gone_on : (h : ℕ) (x : Asked) → In x (on h (gone it)) → (holds it.line.moving it.move.p h ≡ true) × (has_take it.line.moving h it.move.stays ≡ true → ⊥)
  gone_on h x m =
      let f = from_filter (λ (z : Asked). touches z.1 h) (gone it) x m in
      let w = asked_of_in it.move.goes x f.0 in
      let t : touches w.1.command h ≡ true = ap (λ (z : Asked). touches z.1 h) w.4 ∙ f.1 in
      (it.ground.held w.0 h w.1 w.2 w.3 t, λ tk. it.ground.out w.0 h w.1 w.2 tk w.3 t)

  -- where the holder's line ends with what goes
  pub cut_line : (h : ℕ) (here : HashOk it.line.moving it.line.parts (order_was it) it.move.p h) → NoGive h it.move.goes → (has_take it.line.moving h it.move.stays ≡ true → ⊥) → on h (order_was it) ≡ (here.past ++ behind h it.move.stays) ++ on h (gone it)
  cut_line h here none free =
      here.alike ∙ (λ i. here.past ++ (line_is h none i ++ no_onward_unless h free i)) ∙ ap (λ w. here.past ++ w) (append-nil (behind h it.move.stays ++ on h (gone it))) ∙ sym (append_assoc here.past (behind h it.move.stays) (on h (gone it)))

  -- the order at each hash ends with what goes
  pub cut_at : (h : ℕ) → Prefixes h (order_was it) (gone it)
  cut_at h = elim (some_or_none (on h (gone it))) [
    | inl none ↦ record { prefix = on h (order_was it); is = sym (ap (λ w. on h (order_was it) ++ w) none ∙ append-nil (on h (order_was it))) }
    | inr some ↦
        let b = gone_on h some.0 some.1 in
        let here = at_hash h b.0 in
        elim (cases_Bool (list_any (gives h) it.move.goes)) [
          | inl y ↦ record {
            prefix = here.past;
            is = here.alike ∙ (λ i. here.past ++ (it.ground.behind_give h y i ++ no_onward_unless h b.1 i)) ∙ ap (λ w. here.past ++ w) (append-nil (on h (gone it)));
          }
          | inr n ↦ record { prefix = here.past ++ behind h it.move.stays; is = cut_line h here n b.1 }
        ]
  ]

  -- and afterwards what is replayed stands in the place of it
  pub after_line : (h : ℕ) (X : List Asked) → on h (order_was it) ≡ X ++ on h (gone it) → on h (order_now it) ≡ X ++ on h (again it)
  after_line h X is =
      on_append h (filter (keeps_on it) (order_was it)) (filter (not_done it) (again it)) ∙ (λ i. kept_part i ++ filter_swap (λ (z : Asked). touches z.1 h) (not_done it) (again it) i) ∙ append_assoc X (filter (is_done it) (on h (gone it))) (filter (not_done it) (on h (again it)))
      ∙ ap (λ w. X ++ w) (core (done it) (on h (gone it)) (on h (again it)) (distinct_filter _ (gone it) gone_distinct) (again_once h) (distinct_filter _ (again it) again_distinct) kept known)
    where
      kept : (x : Asked) → In x (on h (gone it)) → done it x.0 ≡ true → In x (on h (again it))
      kept x m d = let f = from_filter (λ (z : Asked). touches z.1 h) (gone it) x m in in_filter (λ (z : Asked). touches z.1 h) (again it) x (kept_done x f.0 d) f.1

      known : (x : Asked) → In x (on h (again it)) → done it x.0 ≡ true → In x (on h (gone it))
      known x m d = let f = from_filter (λ (z : Asked). touches z.1 h) (again it) x m in in_filter (λ (z : Asked). touches z.1 h) (gone it) x (known_done x f.0 d) f.1

      in_prefix : (x : Asked) → In x X → keeps_on it x ≡ true
      in_prefix x m =
          let f = from_filter (λ (z : Asked). touches z.1 h) (order_was it) x (subst (In x) (sym is) (in_left X (on h (gone it)) x m)) in
          elim (cases_Bool (is_gone it x)) [
            | inl y ↦ absurd (distinct_split X (on h (gone it)) (subst Distinct is (was_distinct_on h)) x x m (in_filter (λ (z : Asked). touches z.1 h) (gone it) x (gone_by_test x f.0 y) f.1) refl)
            | inr n ↦ or_right (done it x.0) _ (ap not n)
          ]

      behind_prefix : (x : Asked) → In x (on h (gone it)) → keeps_on it x ≡ done it x.0
      behind_prefix x m = let f = from_filter (λ (z : Asked). touches z.1 h) (gone it) x m in ap (λ (b : Bool). done it x.0 || not b) (test_gone x f.0) ∙ or-false (done it x.0)

      kept_part : on h (filter (keeps_on it) (order_was it)) ≡ X ++ filter (is_done it) (on h (gone it))
      kept_part =
          filter_swap (λ (z : Asked). touches z.1 h) (keeps_on it) (order_was it) ∙ ap (filter (keeps_on it)) is ∙ filter-append (keeps_on it) X (on h (gone it))
          ∙ (λ i. filter_full (keeps_on it) X in_prefix i ++ filter_alike (keeps_on it) (is_done it) (on h (gone it)) behind_prefix i)
