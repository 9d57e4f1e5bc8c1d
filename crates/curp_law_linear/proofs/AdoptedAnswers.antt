-- An adoption keeps the answers: those of the ops that stay, of the requests that are replayed, and of completed ones.
use Rattle.std.proofs.Common.{◌≡◌, ◌≢◌, ℕ, zero, suc, ◌<◌, ◌≤◌, ◌+◌, ◌||◌, inl, inr, ◌⊎◌, Bool, true, false, not, List, [], ◌∷◌, ◌++◌, take, length, Some, None, refl, ap, sym, ◌∙◌, subst, arith}
use Rattle.std.specs.FinMap as store
use Rattle.std.specs.List.{filter}
use Rattle.std.proofs.lemmas.Bool.{cases_Bool, or_left, or_right}
use Rattle.std.proofs.lemmas.List.{take-append-le}
use Rattle.curp_base.specs.Words.{At, numbered}
use Rattle.curp_base.proofs.Lists.{Each-at, at_append_cases, at_within}
use Rattle.curp_cmd.specs.Hash.{hash_of, touches}
use Rattle.curp_cmd.specs.Store.{keys_of, nothing}
use Rattle.curp_cmd.specs.declared.command.Answer.{Answer}
use Rattle.curp_cmd.specs.declared.command.Request.{Request}
use Rattle.curp_cmd.specs.declared.command.RequestId.{RequestId}
use Rattle.curp_cmd.specs.declared.entry.Entry.{Entry}
use Rattle.curp_cmd.specs.declared.entry.Entry.TheVariants.{Op}
use Rattle.curp_order.specs.Order.{store_after, Asked}
use Rattle.curp_model.specs.Log.{answer_after}
use Rattle.curp_law_kept.specs.Hashes.{In, behind, came, on, value}
use Rattle.curp_law_linear.specs.Hashes.{Part, state_of}
use Rattle.curp_law_linear.specs.Line.{AnsweredInOrder, AnswersOk, DistinctOk, IsCompleted, MarkedOk, OnceOk}
use Rattle.curp_law_linear.specs.Moves.{ops}
use Rattle.curp_law_linear.proofs.AdoptedMarks.{asked_all}
use Rattle.curp_law_linear.proofs.AdoptedOrder.{after_line, again_distinct, again_once, at_goes, at_hash, at_stays, completed_done, cut_at, cut_line, done_completed, gone_by_test, kept_done, no_give, no_take, replayed_goes, replayed_held, test_gone, was_distinct, was_distinct_on}
use Rattle.curp_law_linear.proofs.Adopting.{Adopting, again, cut_part, done, gone, is_gone, keeps_on, new_part, not_done, order_now, order_was, parts_now, replayed}
use Rattle.curp_law_linear.proofs.Hashes.{key_touches}
use Rattle.curp_law_linear.proofs.Lists.{Distinct, distinct_filter, distinct_places, from_filter, in_cases, in_filter, in_left, in_right, only_one}
use Rattle.curp_base.proofs.Numbered.{numbered_set_cases}
use Rattle.curp_law_linear.proofs.Orders.{Split, answered_is, answered_there, distinct_append, place_in_prefix, prefix_of, same_prefixes, split_in}
use Rattle.curp_law_linear.proofs.Requests.{asked_all_in, asked_of_in, first_on, in_asked_all}
use Rattle.curp_model.proofs.Replays.{op_in_ops}
use Rattle.curp_law_kept.proofs.Gives.{came_from_append, came_kept}

module _ (it : Adopting) where
  -- ---- no request stands twice

  -- no request stands twice in the order afterwards
  pub now_distinct : Distinct (order_now it)
  now_distinct =
      distinct_append (filter (keeps_on it) (order_was it)) (filter (not_done it) (again it)) (distinct_filter (keeps_on it) (order_was it) (was_distinct it)) (distinct_filter (not_done it) (again it) (again_distinct it)) (λ x y mx my same.
      let fx = from_filter (keeps_on it) (order_was it) x mx in
      let fy = from_filter (not_done it) (again it) y my in
      let w = asked_all_in (replayed it) y fy.0 in
      let g = replayed_goes it w.0 w.1 x w.2 fx.0 (same ∙ ap (λ (z : Asked). z.0) (sym w.3)) in
      both_ways (done it x.0) (is_gone it x) fx.1 (test_gone it x g) (ap (λ (id : RequestId). not (done it id)) same ∙ fy.1))
    where
      both_ways : (d t : Bool) → (d || not t) ≡ true → t ≡ true → not d ≡ true → ⊥
      both_ways true t a b c = cc
      both_ways false true a b c = cc
      both_ways false false a b c = cc

  -- the same by places
  pub adopt_distinct : DistinctOk (order_now it)
  adopt_distinct = distinct_places (order_now it) now_distinct

  -- nor at one hash
  pub now_distinct_on : (h : ℕ) → Distinct (on h (order_now it))
  now_distinct_on h = distinct_filter _ (order_now it) now_distinct

  -- ---- the answers of ops

  -- what doesn't go stays in the order
  pub kept_in : (x : Asked) → In x (order_was it) → (In x (gone it) → ⊥) → In x (order_now it)
  kept_in x m not_gone =
      let k : keeps_on it x ≡ true = elim (cases_Bool (is_gone it x)) [ inl y ↦ absurd (not_gone (gone_by_test it x m y)) | inr n ↦ or_right (done it x.0) _ (ap not n) ] in
      in_left (filter (keeps_on it) (order_was it)) (filter (not_done it) (again it)) x (in_filter (keeps_on it) (order_was it) x m k)

  -- what doesn't go keeps its answer
  pub stay : (x : Asked) (a : Answer) → AnsweredInOrder (order_was it) x a → (In x (gone it) → ⊥) → AnsweredInOrder (order_now it) x a
  stay x a w not_gone =
      let m : In x (order_was it) = (w.place, w.stands) in
      let was = answered_is (order_was it) x a w in
      let is = split_in (order_now it) x (kept_in x m not_gone) in
      let prefixes : (h : ℕ) → touches x.1 h ≡ true → on h was.0.prefix ≡ on h is.prefix = λ h t.
      let c = cut_at it h in
      let there : In x (c.prefix ++ on h (gone it)) = subst (In x) c.is (in_filter (λ (z : Asked). touches z.1 h) (order_was it) x m t) in
      let prefix : In x c.prefix = elim (in_cases c.prefix (on h (gone it)) x there) [ inl y ↦ y | inr g ↦ absurd (not_gone (from_filter (λ (z : Asked). touches z.1 h) (gone it) x g).0) ] in
      let sc = split_in c.prefix x prefix in
      prefix_of h (order_was it) c.prefix (on h (gone it)) x t (was_distinct_on it h) c.is was.0 sc ∙ sym (prefix_of h (order_now it) c.prefix (on h (again it)) x t (now_distinct_on h) (after_line it h c.prefix c.is) is sc) in
      subst (AnsweredInOrder (order_now it) x) (sym (was.1 ∙ same_prefixes it.pure was.0.prefix is.prefix x prefixes)) (answered_there (order_now it) x is)

  -- at one hash one request is replayed at most
  pub again_alone : (h : ℕ) (x : Asked) → In x (on h (again it)) → on h (again it) ≡ x ∷ []
  again_alone h x m = only_one (on h (again it)) x (distinct_filter _ (again it) (again_distinct it)) m (λ y n. again_once it h y x n m)

  -- each replayed request stands in the order afterwards
  pub in_now : (h : ℕ) (x : Asked) → In x (on h (again it)) → In x (order_now it)
  in_now h x m =
      let c = cut_at it h in
      (from_filter (λ (z : Asked). touches z.1 h) (order_now it) x (subst (In x) (sym (after_line it h c.prefix c.is)) (in_right c.prefix (on h (again it)) x m))).0

  -- what is replayed is answered as over what stays
  pub replayed_answer : (j : ℕ) (q : Request) → At (replayed it) j q → AnsweredInOrder (order_now it) (q.id, q.command) (answer_after it.move.p.lo it.move.p.hi it.move.stays q.command)
  replayed_answer j q hq =
      let x : Asked = (q.id, q.command) in
      let k = replayed_held it j q hq in
      let a = it.fits.asked k.0 q k.1 in
      let mA : In x (again it) = in_asked_all (replayed it) j q hq in
      let on_it : (h : ℕ) → touches q.command h ≡ true → In x (on h (again it)) = λ h t. in_filter (λ (z : Asked). touches z.1 h) (again it) x mA t in
      let is = split_in (order_now it) x (in_now a.hash x (on_it a.hash a.has_hash)) in
      subst (AnsweredInOrder (order_now it) x) (it.pure.answer_local (store_after nothing is.prefix) (state_of (cut_part it.move)).store q.command (λ key mk. key_value j q hq is on_it key mk)) (answered_there (order_now it) x is)
    where
      key_value : (j : ℕ) (q : Request) → At (replayed it) j q → (is : Split (order_now it) (q.id, q.command)) → ((h : ℕ) → touches q.command h ≡ true → In (q.id, q.command) (on h (again it))) → (key : List ℕ) → In key (keys_of q.command)
          → value key is.prefix ≡ store.get (state_of (cut_part it.move)).store key
      key_value j q hq is on_it key mk =
          let h = hash_of key in
          let x : Asked = (q.id, q.command) in
          let t = key_touches q.command key mk in
          let own = it.ground.owned j h q hq t in
          let none = no_give it h own in
          let here = at_hash it h (it.ground.held_before h own none) in
          let X : List Asked = here.past ++ behind h it.move.stays in
          let line : on h (order_now it) ≡ X ++ x ∷ [] = after_line it h X (cut_line it h here none (no_take it h own)) ∙ ap (λ w. X ++ w) (again_alone h x (on_it h t)) in
          let prefix : on h is.prefix ≡ X = place_in_prefix h (order_now it) X [] x t (now_distinct_on h) line is in
          let came_P : (other : List ℕ) → came h other it.move.p.log ≡ came h other it.move.stays = λ other. ap (came h other) it.fits.is ∙ came_from_append h other None it.move.stays it.move.goes ∙ came_kept h other (came h other it.move.stays) it.move.goes none in
          it.pure.value_local key is.prefix ∙ ap (value key) prefix ∙ sym (it.ground.its_value h own key refl here.past (λ other same. here.values other same ∙ came_P other))

  -- an op that stood elsewhere doesn't go
  pub elsewhere : (n : ℕ) (q : Part) (i : ℕ) (r : Request) (a : ℕ) → numbered it.line.parts n ≡ Some q → At q.log i (Op r a) → (n ≢ it.move.part) ⊎ (i < length it.move.stays) → In (r.id, r.command) (gone it) → ⊥
  elsewhere n q i r a hn hi apart g =
      let t = asked_of_in it.move.goes (r.id, r.command) g in
      let one = it.facts.once n it.move.part q it.move.p i (length it.move.stays + t.0) r t.1 a t.2 hn it.fits.here hi (at_goes it t.0 _ t.3) (ap (λ (z : Asked). z.0) (sym t.4)) in
      elim apart [ inl ne ↦ ne one.0 | inr low ↦ omega (arith, one.1) ]

  -- each op of the logs afterwards has in the order the answer that its log gives
  pub adopt_answers : AnswersOk (parts_now it) (order_now it)
  adopt_answers k q i r a hk hi = elim (numbered_set_cases it.line.parts it.move.part it.move.p (new_part it) it.fits.here k q hk) [
    | inl old ↦ stay (r.id, r.command) _ (it.facts.answered k q i r a old.1 hi) (elsewhere k q i r a old.1 hi (inl old.0))
    | inr same ↦ subst (λ (y : Part). AnsweredInOrder (order_now it) (r.id, r.command) (answer_after y.lo y.hi (take i y.log) r.command)) same.1 (own_answer i r a (subst (λ (y : Part). At y.log i (Op r a)) (sym same.1) hi))
  ]
    where
      own_answer : (i : ℕ) (r : Request) (a : ℕ) → At (new_part it).log i (Op r a) → AnsweredInOrder (order_now it) (r.id, r.command) (answer_after it.move.p.lo it.move.p.hi (take i (new_part it).log) r.command)
      own_answer i r a hi = elim (at_append_cases it.move.stays (ops (replayed it)) i (Op r a) hi) [
        | inl old ↦
            let low : i < length it.move.stays = at_within it.move.stays i _ old in
            let le : i ≤ length it.move.stays = omega (arith, low) in
            let before : take i it.move.p.log ≡ take i (new_part it).log = ap (take i) it.fits.is ∙ take-append-le i it.move.stays it.move.goes le ∙ sym (take-append-le i it.move.stays (ops (replayed it)) le) in
            subst (λ (es : List Entry). AnsweredInOrder (order_now it) (r.id, r.command) (answer_after it.move.p.lo it.move.p.hi es r.command)) before
            (stay (r.id, r.command) _ (it.facts.answered it.move.part it.move.p i r a it.fits.here (at_stays it i _ old)) (elsewhere it.move.part it.move.p i r a it.fits.here (at_stays it i _ old) (inr low)))
        | inr g ↦
            let hq = op_in_ops (replayed it) g.0 r a g.2 in
            subst (AnsweredInOrder (order_now it) (r.id, r.command)) (sym (ap (λ (n : ℕ). answer_after it.move.p.lo it.move.p.hi (take n (new_part it).log) r.command) g.1 ∙ it.ground.alone g.0 r hq)) (replayed_answer g.0 r hq)
      ]

  -- ---- a request is an op once

  -- an op that stood elsewhere isn't replayed
  pub not_again : (n : ℕ) (q : Part) (i : ℕ) (r : Request) (a : ℕ) → numbered it.line.parts n ≡ Some q → At q.log i (Op r a) → (n ≢ it.move.part) ⊎ (i < length it.move.stays) → (j : ℕ) (y : Request) → At (replayed it) j y → r.id ≡ y.id → ⊥
  not_again n q i r a hn hi apart j y hq same =
      let w = it.facts.answered n q i r a hn hi in
      elsewhere n q i r a hn hi apart (replayed_goes it j y (r.id, r.command) hq (w.place, w.stands) same)

  -- each op of the logs afterwards stood elsewhere, or is replayed
  pub where_now : (k : ℕ) (q : Part) (i : ℕ) (r : Request) (a : ℕ) → numbered (parts_now it) k ≡ Some q → At q.log i (Op r a)
      → ((y : Part) × (numbered it.line.parts k ≡ Some y) × At y.log i (Op r a) × ((k ≢ it.move.part) ⊎ (i < length it.move.stays))) ⊎ ((j : ℕ) × (k ≡ it.move.part) × (i ≡ length it.move.stays + j) × At (replayed it) j r)
  where_now k q i r a hk hi = elim (numbered_set_cases it.line.parts it.move.part it.move.p (new_part it) it.fits.here k q hk) [
    | inl old ↦ inl (q, old.1, hi, inl old.0)
    | inr same ↦ elim (at_append_cases it.move.stays (ops (replayed it)) i (Op r a) (subst (λ (y : Part). At y.log i (Op r a)) (sym same.1) hi)) [
      | inl older ↦ inl (it.move.p, subst (λ (j : ℕ). numbered it.line.parts j ≡ Some it.move.p) (sym same.0) it.fits.here, at_stays it i _ older, inr (at_within it.move.stays i _ older))
      | inr g ↦ inr (g.0, same.0, g.1, op_in_ops (replayed it) g.0 r a g.2)
    ]
  ]

  -- a request is an op at one place afterwards
  pub adopt_once : OnceOk (parts_now it)
  adopt_once k m x y i j r t a b hk hm hi hj same = elim (where_now k x i r a hk hi) [
    | inl old ↦ elim (where_now m y j t b hm hj) [
      | inl too ↦ it.facts.once k m old.0 too.0 i j r t a b old.1 too.1 old.2 too.2 same
      | inr fresh ↦ absurd (not_again k old.0 i r a old.1 old.2 old.3 fresh.0 t fresh.3 same)
    ]
    | inr fresh ↦ elim (where_now m y j t b hm hj) [
      | inl old ↦ absurd (not_again m old.0 j t b old.1 old.2 old.3 fresh.0 r fresh.3 (sym same))
      | inr too ↦
          let mr = in_asked_all (replayed it) fresh.0 r fresh.3 in
          let place : fresh.0 ≡ too.0 = one_place (replayed it) (again_distinct it) fresh.0 too.0 r t fresh.3 too.3 same in
          (fresh.1 ∙ sym too.1, fresh.2 ∙ ap (λ (n : ℕ). length it.move.stays + n) place ∙ sym too.2)
    ]
  ]
    where
      one_place : (rs : List Request) → Distinct (asked_all rs) → (j k : ℕ) (q r : Request) → At rs j q → At rs k r → q.id ≡ r.id → j ≡ k
      one_place [] d j k q r hq hr same = absurd cc
      one_place (z ∷ rs) d zero zero q r hq hr same = refl
      one_place (z ∷ rs) d zero (suc k) q r hq hr same =
          let is : z ≡ q = cc in
          let n = in_asked_all rs k r hr in
          absurd (Each-at _ (asked_all rs) d.0 n.0 (r.id, r.command) n.1 (ap (λ (w : Request). w.id) is ∙ same))
      one_place (z ∷ rs) d (suc j) zero q r hq hr same =
          let is : z ≡ r = cc in
          let n = in_asked_all rs j q hq in
          absurd (Each-at _ (asked_all rs) d.0 n.0 (q.id, q.command) n.1 (ap (λ (w : Request). w.id) is ∙ sym same))
      one_place (z ∷ rs) d (suc j) (suc k) q r hq hr same = ap suc (one_place rs d.1 j k q r hq hr same)

  -- ---- what has completed keeps its answer

  -- a completed update keeps its answer
  pub adopt_marked : MarkedOk (order_now it) it.line.history
  adopt_marked e id c a done_at inv up =
      let w = it.facts.marked e id c a done_at inv up in
      let x : Asked = (id, c) in
      let m : In x (order_was it) = (w.place, w.stands) in
      let d : done it id ≡ true = completed_done it x m (record { event = e; answer = a; stands = done_at }) in
      elim (cases_Bool (is_gone it x)) [
        | inr n ↦ stay x a w (λ g. let bad : true ≡ false = sym (test_gone it x g) ∙ n in cc)
        | inl y ↦ goes_on x a w d (gone_by_test it x m y) m
      ]
    where
      goes_on : (x : Asked) (a : Answer) → AnsweredInOrder (order_was it) x a → done it x.0 ≡ true → In x (gone it) → In x (order_was it) → AnsweredInOrder (order_now it) x a
      goes_on x a w d g m =
          let t = asked_of_in it.move.goes x g in
          let c : IsCompleted it.line.history t.1.id = subst (IsCompleted it.line.history) (ap (λ (y : Asked). y.0) (sym t.4)) (done_completed it x.0 d) in
          let q = it.fits.done t.0 t.1 t.2 t.3 c in
          let was = answered_is (order_was it) x a w in
          let is = split_in (order_now it) x (in_left (filter (keeps_on it) (order_was it)) (filter (not_done it) (again it)) x (in_filter (keeps_on it) (order_was it) x m (or_left (done it x.0) _ d))) in
          let mA : In x (again it) = kept_done it x g d in
          let prefixes : (h : ℕ) → touches x.1 h ≡ true → on h was.0.prefix ≡ on h is.prefix = λ h tx.
          let cu = cut_at it h in
          let tr : touches t.1.command h ≡ true = ap (λ (z : Asked). touches z.1 h) t.4 ∙ tx in
          let f = first_on h it.move.goes t.0 t.1 t.2 t.3 (q.1 h tr) tr in
          let line : on h (order_was it) ≡ cu.prefix ++ x ∷ f.0 = cu.is ∙ ap (λ w. cu.prefix ++ w) (f.1 ∙ ap (λ (z : Asked). z ∷ f.0) t.4) in
          let after_it : on h (order_now it) ≡ cu.prefix ++ x ∷ [] = after_line it h cu.prefix cu.is ∙ ap (λ w. cu.prefix ++ w) (again_alone h x (in_filter (λ (z : Asked). touches z.1 h) (again it) x mA tx)) in
          place_in_prefix h (order_was it) cu.prefix f.0 x tx (was_distinct_on it h) line was.0 ∙ sym (place_in_prefix h (order_now it) cu.prefix [] x tx (now_distinct_on h) after_it is) in
          subst (AnsweredInOrder (order_now it) x) (sym (was.1 ∙ same_prefixes it.pure was.0.prefix is.prefix x prefixes)) (answered_there (order_now it) x is)
