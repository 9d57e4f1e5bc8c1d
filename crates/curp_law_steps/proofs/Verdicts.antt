-- What a witness answers to a record, by cases.
use Rattle.std.proofs.Common.{◌≡◌, ◌≢◌, ◌⊎◌, inl, inr, ℕ, ◌==◌, ◌<◌, ◌≤◌, Bool, true, false, cond, List, [], ◌∷◌, map, Option, Some, None, refl, ap, sym, ◌∙◌, subst, arith}
use Rattle.std.specs.Bool.{⊤}
use Rattle.std.proofs.lemmas.Bool.{cond_both, cases_Bool, cases_lt, eqb-true, eq-eqb, ltb-true, ltb-false}
use Rattle.curp_cmd.specs.Hash.{conflicts}
use Rattle.curp_cmd.specs.RequestId.{id_cmp, same_id}
use Rattle.curp_cmd.specs.declared.command.Request.{Request}
use Rattle.curp_cmd.specs.declared.command.RequestId.{RequestId}
use Rattle.curp_msg.specs.declared.answer.Reason.{Reason}
use Rattle.curp_msg.specs.declared.answer.Reason.TheVariants as reason
use Rattle.curp_model.specs.declared.Mode.{Mode}
use Rattle.curp_model.specs.declared.Mode.TheVariants.{Idle, Normal, Frozen}
use Rattle.curp_model.specs.Witness.{WitnessState, by_room, by_request, conflict, full_set, hold, holds, is_full, stranger_to, suspect, turned_away, unless_turned_away, HeldRequest, AfterRecord, HoldsInOrder}
use Rattle.curp_model.proofs.Tables.{ids_same, ids_total}
use Rattle.curp_law_steps.specs.Holding.{FitsSet, HasNoConflict, HasRoomForRequest, IsAlikeButMarks, IsConflict, IsNewTo, HoldsId, RejectsWith, IsLeastConflict, IsLeastFull, IsOfEpoch, IsOpen, IsStranger, unmarked}
use Rattle.curp_cmd.proofs.Ids.{same_id-self, same_id-true}
use Rattle.curp_law_steps.proofs.Searches.{Found, any_found, any_of, first_found, first_least, first_number, no_number, none_passes, one_least}

-- ---- the epoch

stranger_some : (epoch own : ℕ) (o : Option ℕ) → stranger_to epoch o ≡ Some own → (o ≡ Some own) × (own ≢ epoch)
stranger_some epoch own None e = absurd cc
stranger_some epoch own (Some k) e = elim (cases_Bool (k == epoch)) [
  | inl y ↦ absurd (let no : None ≡ Some own = rw y at e in cc)
  | inr n ↦
      let is : Some k ≡ Some own = rw n at e in
      let same : k ≡ own = cc in
      (is, λ g. absurd (let no : false ≡ true = sym n ∙ eq-eqb k epoch (same ∙ g) in cc))
]

stranger_none : (epoch : ℕ) (o : Option ℕ) → stranger_to epoch o ≡ None → (own : ℕ) → o ≡ Some own → own ≡ epoch
stranger_none epoch None e own is = absurd cc
stranger_none epoch (Some k) e own is = elim (cases_Bool (k == epoch)) [
  | inl y ↦ let same : k ≡ own = cc in sym same ∙ eqb-true k epoch y
  | inr n ↦ absurd (let no : Some k ≡ None = rw n at e in cc)
]

to_stranger : (epoch own : ℕ) (o : Option ℕ) → o ≡ Some own → own ≢ epoch → stranger_to epoch o ≡ Some own
to_stranger epoch own None e ne = absurd cc
to_stranger epoch own (Some k) e ne = elim (cases_Bool (k == epoch)) [
  | inl y ↦ absurd (let same : k ≡ own = cc in ne (sym same ∙ eqb-true k epoch y))
  | inr n ↦ rw n e
]

to_own : (epoch : ℕ) (o : Option ℕ) → ((own : ℕ) → o ≡ Some own → own ≡ epoch) → stranger_to epoch o ≡ None
to_own epoch None own = refl
to_own epoch (Some k) own = rw (eq-eqb k epoch (own k refl)) refl

at_most : (a b : ℕ) → ¬ (b < a) → a ≤ b
at_most a b above = elim (cases_lt b a) [ inl l ↦ absurd (above l) | inr l ↦ l ]

-- ---- what is held

module _ (w : WitnessState) (r : Request) where
  abbrev clashing : HeldRequest → Bool
  clashing x = conflicts x.request.command r.command

  abbrev id_of : HeldRequest → RequestId
  id_of x = x.request.id

  is_held : holds w r.id ≡ true → HoldsId w r.id
  is_held e =
      let f = any_found (λ (x : HeldRequest). same_id r.id x.request.id) w.held e in
      record { place = f.0; held = f.1; stands = f.2; its_id = sym (same_id-true r.id f.1.request.id f.3) }

  pub held_is : HoldsId w r.id → holds w r.id ≡ true
  held_is h = any_of (λ (x : HeldRequest). same_id r.id x.request.id) w.held h.place h.held h.stands (subst (λ (x : RequestId). same_id r.id x ≡ true) (sym h.its_id) (same_id-self r.id))

  isnt_held : holds w r.id ≡ false → ¬ (HoldsId w r.id)
  isnt_held e h = absurd (let no : false ≡ true = sym e ∙ held_is h in cc)

  held_isnt : ¬ (HoldsId w r.id) → holds w r.id ≡ false
  held_isnt absent = elim (cases_Bool (holds w r.id)) [ inl y ↦ absurd (absent (is_held y)) | inr n ↦ n ]

  as_found : (id : RequestId) → IsConflict w r id → Found id_of clashing w.held id
  as_found id c = record { place = c.place; item = c.held; stands = c.stands; its_key = c.its_id; passes = c.conflicting }

  conflict_some : (id : RequestId) → conflict w r ≡ Some id → IsConflict w r id
  conflict_some id e =
      let f = first_found id_of clashing w.held id e in
      record { place = f.place; held = f.item; stands = f.stands; its_id = f.its_key; conflicting = f.passes }

  conflict_none : conflict w r ≡ None → HasNoConflict w r
  conflict_none e id c = none_passes id_of clashing w.held e id (as_found id c)

  conflict_least : (id : RequestId) → HoldsInOrder w → conflict w r ≡ Some id → IsLeastConflict w r id
  conflict_least id s e = record { one = conflict_some id e; least = λ other c. first_least id_cmp ids_total id_of clashing w.held id other s e (as_found other c) }

  no_conflict_is : HasNoConflict w r → conflict w r ≡ None
  no_conflict_is none = go (conflict w r) refl
    where
      go : (o : Option RequestId) → conflict w r ≡ o → o ≡ None
      go None e = refl
      go (Some id) e = absurd (none id (conflict_some id e))

  least_conflict_is : (id : RequestId) → HoldsInOrder w → IsLeastConflict w r id → conflict w r ≡ Some id
  least_conflict_is id s l = go (conflict w r) refl
    where
      go : (o : Option RequestId) → conflict w r ≡ o → o ≡ Some id
      go None e = absurd (conflict_none e id l.one)
      go (Some other) e = ap (λ (x : RequestId). Some x) (one_least id_cmp ids_total id_of clashing ids_same other id ((conflict_least other s e).least id l.one) (l.least other (conflict_some other e)))

  -- ---- room

  fits : (s : ℕ) → is_full w r s ≡ false → FitsSet w r s
  fits s e = omega (arith, ltb-false _ _ e)

  fits_not : (s : ℕ) → is_full w r s ≡ true → ¬ (FitsSet w r s)
  fits_not s e h = absurd (omega (arith, ltb-true _ _ e, h))

  full_some : (s : ℕ) → full_set w r ≡ Some s → IsLeastFull w r s
  full_some s e =
      let f = first_number (is_full w r) w.sets 0 s e in
      record { set = omega (arith, f.below); full = fits_not s f.passes; least = λ t l. fits t (f.before t (omega arith) l) }

  full_none : full_set w r ≡ None → HasRoomForRequest w r
  full_none e s l = fits s (no_number (is_full w r) w.sets 0 e s (omega arith) (omega (arith, l)))

  room_is : HasRoomForRequest w r → full_set w r ≡ None
  room_is room = go (full_set w r) refl
    where
      go : (o : Option ℕ) → full_set w r ≡ o → o ≡ None
      go None e = refl
      go (Some s) e = let l = full_some s e in absurd (l.full (room s l.set))

  least_full_is : (s : ℕ) → IsLeastFull w r s → full_set w r ≡ Some s
  least_full_is s l = go (full_set w r) refl
    where
      go : (o : Option ℕ) → full_set w r ≡ o → o ≡ Some s
      go None e = absurd (l.full (full_none e s l.set))
      go (Some t) e =
          let f = full_some t e in
          let low : t ≤ s = at_most t s (λ (b : s < t). l.full (f.least s b)) in
          let high : s ≤ t = at_most s t (λ (b : t < s). f.full (l.least t b)) in
          let same : t ≡ s = omega arith in
          ap (λ (x : ℕ). Some x) same

  -- ---- the answer

  -- why the answer is what it is
  abbrev Why : ℕ → Option Reason → Type 0
  Why epoch (Some reason.Idle) = w.mode ≡ Idle
  Why epoch (Some (reason.Stranger own)) = IsStranger w epoch own
  Why epoch (Some reason.Frozen) = (w.mode ≡ Frozen) × IsOfEpoch w epoch
  Why epoch (Some (reason.Conflict id)) = IsNewTo w epoch r × (conflict w r ≡ Some id)
  Why epoch (Some (reason.SetFull set)) = IsNewTo w epoch r × HasNoConflict w r × IsLeastFull w r set
  Why epoch None = IsOpen w epoch × (HoldsId w r.id ⊎ (HasNoConflict w r × HasRoomForRequest w r))

  by_room_why : (epoch : ℕ) → IsOpen w epoch → ¬ (HoldsId w r.id) → (c : Option RequestId) (full : Option ℕ) → conflict w r ≡ c → full_set w r ≡ full → Why epoch (by_room w r c full).reason
  by_room_why epoch looks not_held (Some id) full e f = (record { looks = looks; not_held = not_held }, e)
  by_room_why epoch looks not_held None (Some set) e f = (record { looks = looks; not_held = not_held }, conflict_none e, full_some set f)
  by_room_why epoch looks not_held None None e f = (looks, inr (conflict_none e, full_none f))

  by_request_why : (epoch : ℕ) → IsOpen w epoch → Why epoch (by_request w r).reason
  by_request_why epoch looks = cond_both (holds w r.id) _ _ (λ (v : AfterRecord). Why epoch v.reason)
      (λ y. (looks, inl (is_held y)))
      (λ n. by_room_why epoch looks (isnt_held n) (conflict w r) (full_set w r) refl refl)

  turned_why : (epoch : ℕ) (mode : Mode) (other : Option ℕ) → w.mode ≡ mode → stranger_to epoch w.epoch ≡ other → Why epoch (unless_turned_away w r (turned_away mode other)).reason
  turned_why epoch Idle other m e = m
  turned_why epoch Normal (Some own) m e = let s = stranger_some epoch own w.epoch e in record { started = λ idle. absurd cc; its_epoch = s.0; another = s.1 }
  turned_why epoch Frozen (Some own) m e = let s = stranger_some epoch own w.epoch e in record { started = λ idle. absurd cc; its_epoch = s.0; another = s.1 }
  turned_why epoch Frozen None m e = (m, stranger_none epoch w.epoch e)
  turned_why epoch Normal None m e = by_request_why epoch (record { mode = m; of_epoch = stranger_none epoch w.epoch e })

  pub why : (epoch : ℕ) (o : Option Reason) → (hold w epoch r).reason ≡ o → Why epoch o
  unfolding hold
  why epoch o e = subst (Why epoch) e (turned_why epoch w.mode (stranger_to epoch w.epoch) refl refl)

  -- ---- and the other way round

  turned_by : (epoch : ℕ) (mode : Mode) (other : Option ℕ) → w.mode ≡ mode → stranger_to epoch w.epoch ≡ other → hold w epoch r ≡ unless_turned_away w r (turned_away mode other)
  unfolding hold
  turned_by epoch mode other m e = λ i. unless_turned_away w r (turned_away (m i) (e i))

  pub idle_so : (epoch : ℕ) → w.mode ≡ Idle → (hold w epoch r).reason ≡ Some reason.Idle
  idle_so epoch m = ap (λ (v : AfterRecord). v.reason) (turned_by epoch Idle (stranger_to epoch w.epoch) m refl)

  stranger_mode : (mode : Mode) (own : ℕ) → mode ≢ Idle → turned_away mode (Some own) ≡ Some (reason.Stranger own)
  stranger_mode Idle own ne = absurd (ne refl)
  stranger_mode Normal own ne = refl
  stranger_mode Frozen own ne = refl

  pub stranger_so : (epoch own : ℕ) → IsStranger w epoch own → (hold w epoch r).reason ≡ Some (reason.Stranger own)
  stranger_so epoch own s =
      ap (λ (v : AfterRecord). v.reason) (turned_by epoch w.mode (Some own) refl (to_stranger epoch own w.epoch s.its_epoch s.another))
      ∙ ap (λ (o : Option Reason). (unless_turned_away w r o).reason) (stranger_mode w.mode own s.started)

  pub frozen_so : (epoch : ℕ) → (w.mode ≡ Frozen) × IsOfEpoch w epoch → (hold w epoch r).reason ≡ Some reason.Frozen
  frozen_so epoch f = ap (λ (v : AfterRecord). v.reason) (turned_by epoch Frozen None f.0 (to_own epoch w.epoch f.1))

  looked : (epoch : ℕ) → IsOpen w epoch → hold w epoch r ≡ by_request w r
  looked epoch o = turned_by epoch Normal None o.mode (to_own epoch w.epoch o.of_epoch)

  pub held_so : (epoch : ℕ) → IsOpen w epoch → holds w r.id ≡ true → hold w epoch r ≡ record { state = w; reason = None }
  held_so epoch o h = looked epoch o ∙ ap (λ (b : Bool). cond b (record { state = w; reason = None }) (by_room w r (conflict w r) (full_set w r))) h

  not_held_so : (epoch : ℕ) → IsOpen w epoch → holds w r.id ≡ false → (c : Option RequestId) (full : Option ℕ) → conflict w r ≡ c → full_set w r ≡ full → hold w epoch r ≡ by_room w r c full
  not_held_so epoch o h c full e f =
      looked epoch o ∙ ap (λ (b : Bool). cond b (record { state = w; reason = None }) (by_room w r (conflict w r) (full_set w r))) h ∙ (λ i. by_room w r (e i) (f i))

  pub conflict_so : (epoch : ℕ) (id : RequestId) → HoldsInOrder w → IsNewTo w epoch r × IsLeastConflict w r id → RejectsWith w epoch r (reason.Conflict id)
  conflict_so epoch id s p = ap (λ (v : AfterRecord). v.reason) (not_held_so epoch p.0.looks (held_isnt p.0.not_held) (Some id) (full_set w r) (least_conflict_is id s p.1) refl)

  pub set_full_so : (epoch set : ℕ) → IsNewTo w epoch r × HasNoConflict w r × IsLeastFull w r set → RejectsWith w epoch r (reason.SetFull set)
  set_full_so epoch set p = ap (λ (v : AfterRecord). v.reason) (not_held_so epoch p.0.looks (held_isnt p.0.not_held) None (Some set) (no_conflict_is p.1) (least_full_is set p.2))

  pub accepted_so : (epoch : ℕ) → IsOpen w epoch × (HoldsId w r.id ⊎ (HasNoConflict w r × HasRoomForRequest w r)) → (hold w epoch r).reason ≡ None
  accepted_so epoch p = elim (cases_Bool (holds w r.id)) [
    | inl y ↦ ap (λ (v : AfterRecord). v.reason) (held_so epoch p.0 y)
    | inr n ↦ elim (p.1) [
      | inl h ↦ absurd (isnt_held n h)
      | inr q ↦ ap (λ (v : AfterRecord). v.reason) (not_held_so epoch p.0 n None None (no_conflict_is q.0) (room_is q.1))
    ]
  ]

  -- ---- the state behind it

  pub held_again : (epoch : ℕ) → (hold w epoch r).reason ≡ None → HoldsId w r.id → (hold w epoch r).state ≡ w
  held_again epoch e h = ap (λ (v : AfterRecord). v.state) (held_so epoch (why epoch None e).0 (held_is h))

  -- a rejection leaves the state, but for the marks where something conflicts
  abbrev Leaves : Option Reason → WitnessState → Type 0
  Leaves None after = ⊤
  Leaves (Some (reason.Conflict id)) after = IsAlikeButMarks w after
  Leaves (Some _) after = after ≡ w

  unmarked_same : (x : HeldRequest) → unmarked (suspect r x) ≡ unmarked x
  unmarked_same x = cond_both _ _ x (λ (y : HeldRequest). unmarked y ≡ unmarked x) (λ y. refl) (λ n. refl)

  unmarked_alike : (held : List HeldRequest) → map unmarked (map (suspect r) held) ≡ map unmarked held
  unmarked_alike [] = refl
  unmarked_alike (x ∷ held) = λ i. unmarked_same x i ∷ unmarked_alike held i

  by_room_leaves : (c : Option RequestId) (full : Option ℕ) → Leaves (by_room w r c full).reason (by_room w r c full).state
  by_room_leaves (Some id) full = ap (λ (held : List HeldRequest). record w { held = held }) (unmarked_alike w.held)
  by_room_leaves None (Some set) = refl
  by_room_leaves None None = tt

  turned_leaves : (mode : Mode) (other : Option ℕ) → let v = unless_turned_away w r (turned_away mode other) in Leaves v.reason v.state
  turned_leaves Idle other = refl
  turned_leaves Normal (Some own) = refl
  turned_leaves Frozen (Some own) = refl
  turned_leaves Frozen None = refl
  turned_leaves Normal None = cond_both (holds w r.id) _ _ (λ (v : AfterRecord). Leaves v.reason v.state) (λ y. tt) (λ n. by_room_leaves (conflict w r) (full_set w r))

  leaves : (epoch : ℕ) (o : Option Reason) → (hold w epoch r).reason ≡ o → Leaves o (hold w epoch r).state
  unfolding hold
  leaves epoch o e = subst (λ (x : Option Reason). Leaves x (hold w epoch r).state) e (turned_leaves w.mode (stranger_to epoch w.epoch))

  pub rejection_stands : (epoch : ℕ) (why : Reason) → (hold w epoch r).reason ≡ Some why → ((id : RequestId) → why ≢ reason.Conflict id) → (hold w epoch r).state ≡ w
  rejection_stands epoch (reason.Conflict id) e ne = absurd (ne id refl)
  rejection_stands epoch (reason.SetFull set) e ne = leaves epoch (Some (reason.SetFull set)) e
  rejection_stands epoch reason.Frozen e ne = leaves epoch (Some reason.Frozen) e
  rejection_stands epoch (reason.Stranger own) e ne = leaves epoch (Some (reason.Stranger own)) e
  rejection_stands epoch reason.Idle e ne = leaves epoch (Some reason.Idle) e

  pub conflict_marks : (epoch : ℕ) (id : RequestId) → (hold w epoch r).reason ≡ Some (reason.Conflict id) → IsAlikeButMarks w (hold w epoch r).state
  conflict_marks epoch id e = leaves epoch (Some (reason.Conflict id)) e

  pub conflict_why : (epoch : ℕ) (id : RequestId) → HoldsInOrder w → RejectsWith w epoch r (reason.Conflict id) → IsNewTo w epoch r × IsLeastConflict w r id
  conflict_why epoch id s e = let y = why epoch (Some (reason.Conflict id)) e in (y.0, conflict_least id s y.1)
