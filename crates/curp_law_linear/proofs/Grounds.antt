-- What an adoption asks of the logs by themselves, from: the log is one, gives stand once, and the migration in work has its sides.
use Rattle.std.proofs.Common.{◌≡◌, ℕ, zero, suc, ◌<◌, ◌+◌, inl, inr, Bool, true, false, if◌then◌else◌, List, [], ◌∷◌, ◌++◌, take, drop, length, Option, Some, None, refl, ap, sym, ◌∙◌, subst, arith, append_assoc}
use Rattle.std.specs.List.{list_any}
use Rattle.std.proofs.Math.Seq.{take-append-add}
use Rattle.std.proofs.lemmas.Bool.{and_from, and_parts, cases_Bool, eq-eqb, or_left, or_parts, or_right}
use Rattle.std.proofs.lemmas.List.{take-append-drop}
use Rattle.std.proofs.lemmas.List.Folds.{list_any-append}
use Rattle.curp_base.specs.Words.{At}
use Rattle.curp_base.proofs.Lists.{at_append, at_append_right, at_drop, at_take, at_within, drop_at}
use Rattle.curp_range.specs.Spans.{Span, is_in, is_owned}
use Rattle.curp_cmd.specs.Hash.{touches}
use Rattle.curp_cmd.specs.declared.command.Request.{Request}
use Rattle.curp_cmd.specs.declared.entry.Entry.{Entry}
use Rattle.curp_cmd.specs.declared.entry.Entry.TheVariants.{Expire, Give, Op, Take}
use Rattle.curp_cmd.specs.declared.migration.Package.{Package}
use Rattle.curp_model.specs.Log.{IsLog, answer_after, meaning}
use Rattle.curp_model.specs.Manager.{Migration}
use Rattle.curp_model.specs.Recovery.{replays}
use Rattle.curp_law_kept.specs.Hashes.{NoGive, behind, behind_from, gives, on}
use Rattle.curp_order.specs.Order.{Asked}
use Rattle.curp_law_linear.specs.Hashes.{Part, has_take, holds, is_give, is_take, owns}
use Rattle.curp_law_linear.specs.Line.{LineState, Owned}
use Rattle.curp_law_linear.specs.Moves.{Adopt, AdoptFits, OnlyMoving, ops, relogged, replayed_of}
use Rattle.curp_law_linear.proofs.Adopting.{AdoptGround, cut_part}
use Rattle.curp_law_linear.proofs.Entries.{give_entry, give_of, take_of}
use Rattle.curp_law_linear.proofs.Given.{GivesOnce, LogValue}
use Rattle.curp_law_linear.proofs.Lists.{empty_list, from_filter, in_any, some_same}
use Rattle.curp_base.proofs.Numbered.{any_at, filter_at, numbered_set_same}
use Rattle.curp_law_linear.proofs.Orders.{asked_of, behind_asked}
use Rattle.curp_law_linear.proofs.Owning.{op_owned, owns_touched}
use Rattle.curp_law_linear.proofs.Requests.{asked_of_in, owned_ops}
use Rattle.curp_law_linear.proofs.Spans.{owned_after, owned_before, takes}
use Rattle.curp_law_kept.proofs.Gives.{on_append, behind_from_append}

asked_of_append : (xs ys : List Entry) → asked_of (xs ++ ys) ≡ asked_of xs ++ asked_of ys
asked_of_append [] ys = refl
asked_of_append (Op r a ∷ xs) ys = ap (λ (l : List Asked). (r.id, r.command) ∷ l) (asked_of_append xs ys)
asked_of_append (Take n k ∷ xs) ys = asked_of_append xs ys
asked_of_append (Give n k ∷ xs) ys = asked_of_append xs ys
asked_of_append (Expire c ∷ xs) ys = asked_of_append xs ys

module _ (s : LineState) (below : Owned s.moving s.parts) (o : Adopt) (fits : AdoptFits s o) (later : Owned s.moving (relogged s.parts o.part o.p (o.stays ++ ops (replayed_of o))))
    (log : IsLog o.p.lo o.p.hi o.p.log) (gives_once : GivesOnce o.p.log) where
  abbrev p : Part
  p = o.p

  abbrev P : List Entry
  P = o.stays

  abbrev T : List Entry
  T = o.goes

  at_T : (k : ℕ) (e : Entry) → At T k e → At p.log (length P + k) e
  at_T k e h = subst (λ (l : List Entry). At l (length P + k) e) (sym fits.is) (at_append_right P T k _ e refl h)

  at_P : (k : ℕ) (e : Entry) → At P k e → At p.log k e
  at_P k e h = subst (λ (l : List Entry). At l k e) (sym fits.is) (at_append P T k e h)

  -- a take that goes is that of the migration in work
  goes_out : (h : ℕ) (k : ℕ) (e : Entry) → At T k e → takes h e ≡ true → has_take s.moving h p.log ≡ true
  goes_out h k e at t =
      let w = take_of h e t in
      let only : OnlyMoving s (Take w.0 w.1) = subst (OnlyMoving s) w.2 (fits.moving k e at) in
      let m = only.0 in
      let inside : is_in m.range.lo m.range.hi h ≡ true = (λ i. is_in (sym only.4 i) (sym only.5 i) h) ∙ w.3 in
      let stands : list_any (is_take m.number) p.log ≡ true = in_any (is_take m.number) p.log (Take w.0 w.1) (length P + k, subst (At p.log (length P + k)) w.2 (at_T k e at)) (eq-eqb w.0 m.number (sym only.2)) in
      subst (λ (mv : Option Migration). has_take mv h p.log ≡ true) (sym only.1) (and_from _ _ inside stands)

  -- a give that goes too
  gone_give : (h : ℕ) → list_any (gives h) T ≡ true → (k : ℕ) × (m : Migration) × (b : Package) × (s.moving ≡ Some m) × At T k (Give m.number b) × (is_in b.lo b.hi h ≡ true)
  gone_give h g =
      let a = any_at (gives h) T g in
      let w = give_of h a.1 a.3 in
      let only : OnlyMoving s (Give w.0 w.1) = subst (OnlyMoving s) w.2 (fits.moving a.0 a.1 a.2) in
      (a.0, only.0, w.1, only.1, subst (λ (n : ℕ). At T a.0 (Give n w.1)) (sym only.2) (subst (At T a.0) w.2 a.2), w.3)

  take_part : (k : ℕ) → P ++ take k T ≡ take (length P + k) p.log
  take_part k = sym (ap (take (length P + k)) fits.is ∙ take-append-add P T k)

  -- an op of what goes was owned at its place
  owned_there : (k h : ℕ) (r : Request) (a : ℕ) → At T k (Op r a) → touches r.command h ≡ true → is_owned (meaning p.lo p.hi (P ++ take k T)).owned h ≡ true
  owned_there k h r a at t = ap (λ (es : List Entry). is_owned (meaning p.lo p.hi es).owned h) (take_part k) ∙ op_owned p.lo p.hi p.log (length P + k) r a h log (at_T k _ at) t

  whole : (k : ℕ) → (P ++ take k T) ++ drop k T ≡ p.log
  whole k = append_assoc P (take k T) (drop k T) ∙ ap (λ w. P ++ w) (take-append-drop k T) ∙ sym fits.is

  ground_held : (k h : ℕ) (r : Request) (a : ℕ) → At T k (Op r a) → touches r.command h ≡ true → holds s.moving p h ≡ true
  ground_held k h r a at t = elim (cases_Bool (list_any (takes h) (drop k T))) [
    | inr n ↦ or_left _ _ (ap (λ (es : List Entry). is_owned (meaning p.lo p.hi es).owned h) (sym (whole k)) ∙ owned_after p.lo p.hi h (P ++ take k T) (drop k T) (owned_there k h r a at t) n)
    | inl y ↦
        let w = any_at (takes h) (drop k T) y in
        let d = at_drop k T w.0 w.1 w.2 in
        or_right (owns p h) _ (goes_out h d.0 w.1 d.2 w.3)
  ]

  ground_before : (h : ℕ) → owns (cut_part o) h ≡ true → NoGive h T → holds s.moving p h ≡ true
  ground_before h own none = elim (cases_Bool (list_any (takes h) T)) [
    | inr n ↦ or_left _ _ (ap (λ (es : List Entry). is_owned (meaning p.lo p.hi es).owned h) fits.is ∙ owned_after p.lo p.hi h P T own n)
    | inl y ↦ let w = any_at (takes h) T y in or_right (owns p h) _ (goes_out h w.0 w.1 w.2 w.3)
  ]

  no_take_owned : (h : ℕ) → owns (cut_part o) h ≡ true → has_take s.moving h P ≡ true → ⊥
  no_take_owned h own t =
      later.gone o.part (record o.p { log = o.stays ++ ops (replayed_of o) }) h (numbered_set_same s.parts o.part o.p _ fits.here)
      (ap (λ (spans : List Span). is_owned spans h) (owned_ops p.lo p.hi P (replayed_of o)) ∙ own) (longer s.moving t)
    where
      longer : (mv : Option Migration) → has_take mv h P ≡ true → has_take mv h (P ++ ops (replayed_of o)) ≡ true
      longer None t = t
      longer (Some m) t =
          let c = and_parts (is_in m.range.lo m.range.hi h) (list_any (is_take m.number) P) t in
          and_from _ _ c.0 (list_any-append (is_take m.number) P (ops (replayed_of o)) ∙ or_left _ _ c.1)

  -- the source has no give of the migration in work
  two_sided : (h : ℕ) → has_take s.moving h P ≡ true → list_any (gives h) T ≡ true → ⊥
  two_sided h t g =
      let w = gone_give h g in
      let m = w.1 in
      let t2 : has_take (Some m) h P ≡ true = subst (λ (mv : Option Migration). has_take mv h P ≡ true) w.3 t in
      let taken : list_any (is_take m.number) p.log ≡ true = ap (list_any (is_take m.number)) fits.is ∙ list_any-append (is_take m.number) P T ∙ or_left _ _ (and_parts (is_in m.range.lo m.range.hi h) _ t2).1 in
      let given : list_any (is_give m.number) p.log ≡ true = in_any (is_give m.number) p.log (Give m.number w.2) (length P + w.0, at_T w.0 _ w.4) (eq-eqb m.number m.number refl) in
      below.apart m w.3 (sym (below.source o.part p m w.3 fits.here taken) ∙ below.target o.part p m w.3 fits.here given)

  -- some entries have no give where all have none
  fewer : (h k : ℕ) → NoGive h T → NoGive h (take k T)
  fewer h k none = (or_parts _ _ (sym (list_any-append (gives h) (take k T) (drop k T)) ∙ ap (list_any (gives h)) (take-append-drop k T) ∙ none)).0

  ground_out : (k h : ℕ) (r : Request) (a : ℕ) → has_take s.moving h P ≡ true → At T k (Op r a) → touches r.command h ≡ true → ⊥
  ground_out k h r a tk at t = elim (cases_Bool (list_any (gives h) T)) [
    | inl y ↦ two_sided h tk y
    | inr n ↦ no_take_owned h (owned_before p.lo p.hi h P (take k T) (owned_there k h r a at t) (fewer h k n)) tk
  ]

  -- a give that goes is the only one on its hashes there
  same_give : (h i j : ℕ) (m : Migration) (b : Package) (e : Entry) → s.moving ≡ Some m → At T i (Give m.number b) → At T j e → gives h e ≡ true → j ≡ i
  same_give h i j m b e is at_i at_j g =
      let w = give_of h e g in
      let only : OnlyMoving s (Give w.0 w.1) = subst (OnlyMoving s) w.2 (fits.moving j e at_j) in
      let same : only.0 ≡ m = some_same (sym only.1 ∙ is) in
      let number : w.0 ≡ m.number = sym only.2 ∙ ap (λ (x : Migration). x.number) same in
      let there : At p.log (length P + j) (Give m.number w.1) = subst (λ (n : ℕ). At p.log (length P + j) (Give n w.1)) number (subst (At p.log (length P + j)) w.2 (at_T j e at_j)) in
      let one = gives_once (length P + j) (length P + i) m.number w.1 b there (at_T i _ at_i) in
      omega (arith, one)

  ground_behind : (h : ℕ) → list_any (gives h) T ≡ true → behind h p.log ≡ on h (asked_of T)
  ground_behind h g =
      let w = gone_give h g in
      let k = w.0 in
      let m = w.1 in
      let e : Entry = Give m.number w.2 in
      let back : List Entry = drop (k + 1) T in
      let cut : T ≡ take k T ++ e ∷ back = sym (take-append-drop k T) ∙ ap (λ w. take k T ++ w) (drop_at T k e w.4) in
      let none_prefix : NoGive h (take k T) = elim (cases_Bool (list_any (gives h) (take k T))) [
        | inr n ↦ n
        | inl y ↦
            let a = any_at (gives h) (take k T) y in
            let b = at_take k T a.0 a.1 a.2 in
            absurd (let same = same_give h k a.0 m w.2 a.1 w.3 w.4 b.1 a.3 in omega (arith, b.0, same))
      ] in
      let none_back : NoGive h back = elim (cases_Bool (list_any (gives h) back)) [
        | inr n ↦ n
        | inl y ↦
            let a = any_at (gives h) back y in
            let b = at_drop (k + 1) T a.0 a.1 a.2 in
            absurd (let same = same_give h k b.0 m w.2 a.1 w.3 w.4 b.2 a.3 in omega (arith, b.1, same))
      ] in
      let prefix_free : on h (asked_of (take k T)) ≡ [] = empty_list _ (λ x n.
      let f = from_filter (λ (z : Asked). touches z.1 h) (asked_of (take k T)) x n in
      let a = asked_of_in (take k T) x f.0 in
      let b = at_take k T a.0 _ a.3 in
      let t : touches a.1.command h ≡ true = ap (λ (z : Asked). touches z.1 h) a.4 ∙ f.1 in
      let none : NoGive h (take a.0 T) = shorter k a.0 b.0 none_prefix in
      let own : owns (cut_part o) h ≡ true = owned_before p.lo p.hi h P (take a.0 T) (owned_there a.0 h a.1 a.2 b.1 t) none in
      let bad : true ≡ false = sym own ∙ fits.unowned h g in absurd cc) in
      let left : behind h p.log ≡ on h (asked_of back) =
      ap (behind h) (fits.is ∙ ap (λ w. P ++ w) cut ∙ sym (append_assoc P (take k T) (e ∷ back))) ∙ behind_from_append h [] (P ++ take k T) (e ∷ back)
      ∙ ap (λ (b : Bool). behind_from h (if b then [] else behind h (P ++ take k T)) back) w.5 ∙ behind_asked h [] back none_back in
      let right : on h (asked_of T) ≡ on h (asked_of back) =
      ap (λ (es : List Entry). on h (asked_of es)) cut ∙ ap (on h) (asked_of_append (take k T) (e ∷ back)) ∙ on_append h (asked_of (take k T)) (asked_of back) ∙ ap (λ w. w ++ on h (asked_of back)) prefix_free in
      left ∙ sym right
    where
      shorter : (k j : ℕ) → j < k → NoGive h (take k T) → NoGive h (take j T)
      shorter k j lt none = elim (cases_Bool (list_any (gives h) (take j T))) [
        | inr n ↦ n
        | inl y ↦
            let a = any_at (gives h) (take j T) y in
            let b = at_take j T a.0 a.1 a.2 in
            let c : At (take k T) a.0 a.1 = taken k T a.0 a.1 (omega (arith, b.0)) b.1 in
            absurd (let bad : true ≡ false = sym (in_any (gives h) (take k T) a.1 (a.0, c) a.3) ∙ none in cc)
      ]
        where
          taken : (n : ℕ) (xs : List Entry) (i : ℕ) (x : Entry) → i < n → At xs i x → At (take n xs) i x
          taken zero xs i x l h = absurd (omega arith)
          taken (suc n) [] i x l h = absurd cc
          taken (suc n) (y ∷ xs) zero x l h = h
          taken (suc n) (y ∷ xs) (suc i) x l h = taken n xs i x (omega arith) h

  ground_covers : (h : ℕ) (m : Migration) → s.moving ≡ Some m → is_in m.range.lo m.range.hi h ≡ true → list_any (is_give m.number) T ≡ true → list_any (gives h) T ≡ true
  ground_covers h m is inside g =
      let a = any_at (is_give m.number) T g in
      let w = give_entry m.number a.1 a.3 in
      let only : OnlyMoving s (Give m.number w.0) = subst (OnlyMoving s) w.1 (fits.moving a.0 a.1 a.2) in
      let same : only.0 ≡ m = some_same (sym only.1 ∙ is) in
      let covers : is_in w.0.lo w.0.hi h ≡ true = (λ i. is_in (only.3 i) (only.4 i) h) ∙ ap (λ (x : Migration). is_in x.range.lo x.range.hi h) same ∙ inside in
      in_any (gives h) T a.1 (a.0, a.2) (ap (gives h) w.1 ∙ covers)

  ground_moving : (h : ℕ) (m : Migration) → s.moving ≡ Some m → list_any (gives h) T ≡ true → list_any (is_give m.number) P ≡ false × (list_any (is_give m.number) T ≡ true)
  ground_moving h m is g =
      let w = gone_give h g in
      let same : w.1 ≡ m = some_same (sym w.3 ∙ is) in
      let there : At T w.0 (Give m.number w.2) = subst (λ (x : Migration). At T w.0 (Give x.number w.2)) same w.4 in (
        elim (cases_Bool (list_any (is_give m.number) P)) [
          | inr n ↦ n
          | inl y ↦
              let a = any_at (is_give m.number) P y in
              let b = give_entry m.number a.1 a.3 in
              let one = gives_once a.0 (length P + w.0) m.number b.0 w.2 (subst (At p.log a.0) b.1 (at_P a.0 a.1 a.2)) (at_T w.0 _ there) in
              absurd (omega (arith, at_within P a.0 a.1 a.2, one))
        ],
        in_any (is_give m.number) T (Give m.number w.2) (w.0, there) (eq-eqb m.number m.number refl),
      )

  ground_owned : (j h : ℕ) (q : Request) → At (replayed_of o) j q → touches q.command h ≡ true → owns (cut_part o) h ≡ true
  ground_owned j h q at t =
      let w = filter_at (replays (meaning p.lo p.hi P)) o.held j q at in
      owns_touched (meaning p.lo p.hi P).owned q.command h (and_parts _ _ w.2).0 t

  -- what an adoption asks of the logs
  pub adopt_ground : LogValue (cut_part o) → ((j : ℕ) (q : Request) → At (replayed_of o) j q
      → answer_after o.p.lo o.p.hi (take (length o.stays + j) (o.stays ++ ops (replayed_of o))) q.command ≡ answer_after o.p.lo o.p.hi o.stays q.command) → AdoptGround s o
  adopt_ground its_value alone = record {
    held = ground_held;
    out = ground_out;
    held_before = ground_before;
    behind_give = ground_behind;
    give_covers = ground_covers;
    give_moving = ground_moving;
    owned = ground_owned;
    its_value = its_value;
    alone = alone;
  }
