-- How far each request of a history is, as events come.
use Rattle.std.proofs.Common.{◌≡◌, ◌↔◌, ◌&&◌, ◌||◌, inl, inr, ℕ, zero, suc, List, [], ◌∷◌, ◌++◌, length, Bool, true, false, not, cond, is_eq, if◌then◌else◌, Option, Some, None, Result, Ok, Err, OnOk, OnErr, BTreeMap, refl, sym, ap, ◌∙◌, subst, arith}
use Rattle.std.specs.BTreeMap.{Updates, get, is_at}
use Rattle.std.specs.List.{list_any}
use Rattle.std.specs.Map.{lookup}
use Rattle.std.proofs.lemmas.List.Folds.{list_any-append}
use Rattle.curp_base.specs.Words.{At}
use Rattle.curp_base.proofs.Lists.{at_push, at_push_cases, at_append, at_within}
use Rattle.curp_base.proofs.Numbered.{any_at}
use Rattle.curp_cmd.proofs.Ids.{same_id-self, same_id-true}
use Rattle.curp_cmd.specs.RequestId.{id_cmp, same_id}
use Rattle.curp_cmd.specs.declared.command.Answer.{Answer}
use Rattle.curp_cmd.specs.declared.command.Command.{Command}
use Rattle.curp_cmd.specs.declared.command.RequestId.{RequestId}
use Rattle.curp_order.specs.Order.{IsHistory}
use Rattle.curp_order.specs.declared.Event.{Event}
use Rattle.curp_order.specs.declared.Event.TheVariants.{Invoke, Complete}
use Rattle.curp_script.specs.declared.error.FieldName.TheVariants as field
use Rattle.curp_script.specs.declared.error.LineError.TheVariants.{BadField}
use Rattle.curp_check.proofs.Ids.{self_tied, tied_same}
use Rattle.curp_check.specs.Claim.{Claimed, completes, invokes, may_follow, with_event}
use Rattle.curp_check.specs.Stages.{IsFollowed, request_of, stage_after, stage_of}
use Rattle.curp_check.specs.declared.claim.RequestStage.{RequestStage}
use Rattle.curp_check.specs.declared.claim.RequestStage.TheVariants.{Invoked, Completed}

-- ---- what a test of all events says

pub any_from : {A : Type 0} (p : A → Bool) (xs : List A) (k : ℕ) (x : A) → At xs k x → p x ≡ true → list_any p xs ≡ true
any_from p [] k x at is = absurd cc
any_from p (y ∷ ys) zero x at is = let same : y ≡ x = cc in rw (same, is) refl
any_from p (y ∷ ys) (suc k) x at is = let rest = any_from p ys k x at is in by (p y) (list_any p ys) rest
  where
    by : (a b : Bool) → b ≡ true → (a || b) ≡ true
    by true b e = refl
    by false b e = e

invoked_at : (events : List Event) (i : ℕ) (id : RequestId) (c : Command) → At events i (Invoke id c) → list_any (invokes id) events ≡ true
invoked_at events i id c at = any_from (invokes id) events i (Invoke id c) at (same_id-self id)

completed_at : (events : List Event) (i : ℕ) (id : RequestId) (a : Answer) → At events i (Complete id a) → list_any (completes id) events ≡ true
completed_at events i id a at = any_from (completes id) events i (Complete id a) at (same_id-self id)

where_invoked : (events : List Event) (id : RequestId) → list_any (invokes id) events ≡ true → (i : ℕ) × (c : Command) × At events i (Invoke id c)
where_invoked events id is = let found = any_at (invokes id) events is in by found.0 found.1 found.2 found.3
  where
    by : (i : ℕ) (e : Event) → At events i e → invokes id e ≡ true → (j : ℕ) × (c : Command) × At events j (Invoke id c)
    by i (Invoke other c) at same = (i, c, subst (λ (r : RequestId). At events i (Invoke r c)) (sym (same_id-true id other same)) at)
    by i (Complete other a) at same = absurd cc

where_completed : (events : List Event) (id : RequestId) → list_any (completes id) events ≡ true → (i : ℕ) × (a : Answer) × At events i (Complete id a)
where_completed events id is = let found = any_at (completes id) events is in by found.0 found.1 found.2 found.3
  where
    by : (i : ℕ) (e : Event) → At events i e → completes id e ≡ true → (j : ℕ) × (a : Answer) × At events j (Complete id a)
    by i (Invoke other c) at same = absurd cc
    by i (Complete other a) at same = (i, a, subst (λ (r : RequestId). At events i (Complete r a)) (sym (same_id-true id other same)) at)

-- ---- one event more

not_true : (b : Bool) → not b ≡ true → b ≡ false
not_true true e = absurd cc
not_true false e = refl

both : (a b : Bool) → (a && b) ≡ true → (a ≡ true) × (b ≡ true)
both true true e = (refl, refl)
both true false e = absurd cc
both false b e = absurd cc

-- a request that was never invoked may be
invoked_more : (events : List Event) (id : RequestId) (c : Command) → list_any (invokes id) events ≡ false → IsHistory events → IsHistory (events ++ Invoke id c ∷ [])
invoked_more events id c none h = record {
  invoked_once = λ i j other a b at_i at_j. elim (at_push_cases events _ i _ at_i) [
    | inl old_i ↦ elim (at_push_cases events _ j _ at_j) [
      | inl old_j ↦ h.invoked_once i j other a b old_i old_j
      | inr new_j ↦ absurd (twice i other a b old_i new_j.1)
    ]
    | inr new_i ↦ elim (at_push_cases events _ j _ at_j) [
      | inl old_j ↦ absurd (twice j other b a old_j new_i.1)
      | inr new_j ↦ new_i.0 ∙ sym new_j.0
    ]
  ];
  completed_once = λ i j other a b at_i at_j. h.completed_once i j other a b (old i other a at_i) (old j other b at_j);
  after_invoked = λ j other a at.
      let was = h.after_invoked j other a (old j other a at) in
      (was.0, was.1, was.2, at_append events _ was.0 _ was.3);
}
  where
    old : (i : ℕ) (other : RequestId) (a : Answer) → At (events ++ Invoke id c ∷ []) i (Complete other a) → At events i (Complete other a)
    old i other a at = elim (at_push_cases events _ i _ at) [
      | inl before ↦ before
      | inr new ↦ let wrong : Invoke id c ≡ Complete other a = new.1 in absurd cc
    ]

    twice : (i : ℕ) (other : RequestId) (a b : Command) → At events i (Invoke other a) → Invoke id c ≡ Invoke other b → ⊥
    twice i other a b at same =
        let one : id ≡ other = cc in
        let wrong : true ≡ false = sym (invoked_at events i other a at) ∙ ap (λ (r : RequestId). list_any (invokes r) events) (sym one) ∙ none in
        cc

-- a request that was invoked and hasn't completed may complete
completed_more : (events : List Event) (id : RequestId) (a : Answer) → list_any (invokes id) events ≡ true → list_any (completes id) events ≡ false
    → IsHistory events → IsHistory (events ++ Complete id a ∷ [])
completed_more events id a invoked none h = record {
  invoked_once = λ i j other c d at_i at_j. h.invoked_once i j other c d (old i other c at_i) (old j other d at_j);
  completed_once = λ i j other b d at_i at_j. elim (at_push_cases events _ i _ at_i) [
    | inl old_i ↦ elim (at_push_cases events _ j _ at_j) [
      | inl old_j ↦ h.completed_once i j other b d old_i old_j
      | inr new_j ↦ absurd (twice i other b d old_i new_j.1)
    ]
    | inr new_i ↦ elim (at_push_cases events _ j _ at_j) [
      | inl old_j ↦ absurd (twice j other d b old_j new_i.1)
      | inr new_j ↦ new_i.0 ∙ sym new_j.0
    ]
  ];
  after_invoked = λ j other b at. elim (at_push_cases events _ j _ at) [
    | inl before ↦ let was = h.after_invoked j other b before in (was.0, was.1, was.2, at_append events _ was.0 _ was.3)
    | inr new ↦
        let one : id ≡ other = same_request other b new.1 in
        let there = where_invoked events other (ap (λ (r : RequestId). list_any (invokes r) events) (sym one) ∙ invoked) in
        let within = at_within events there.0 (Invoke other there.1) there.2 in
        (there.0, there.1, omega (arith, within, new.0), at_append events _ there.0 _ there.2)
  ];
}
  where
    old : (i : ℕ) (other : RequestId) (c : Command) → At (events ++ Complete id a ∷ []) i (Invoke other c) → At events i (Invoke other c)
    old i other c at = elim (at_push_cases events _ i _ at) [
      | inl before ↦ before
      | inr new ↦ let wrong : Complete id a ≡ Invoke other c = new.1 in absurd cc
    ]

    same_request : (other : RequestId) (b : Answer) → Complete id a ≡ Complete other b → id ≡ other
    same_request other b same = cc

    twice : (i : ℕ) (other : RequestId) (b d : Answer) → At events i (Complete other b) → Complete id a ≡ Complete other d → ⊥
    twice i other b d at same =
        let one : id ≡ other = cc in
        let wrong : true ≡ false = sym (completed_at events i other b at) ∙ ap (λ (r : RequestId). list_any (completes r) events) (sym one) ∙ none in
        cc

pub history_more : (events : List Event) (e : Event) → IsHistory events → may_follow events e ≡ true → IsHistory (events ++ e ∷ [])
history_more events (Invoke id c) h may = invoked_more events id c (not_true _ may) h
history_more events (Complete id a) h may =
    let parts = both (list_any (invokes id) events) (not (list_any (completes id) events)) may in
    completed_more events id a parts.0 (not_true _ parts.1) h

-- where an event may not follow, the events with it are no history
pub no_history : (events : List Event) (e : Event) → may_follow events e ≡ false → IsHistory (events ++ e ∷ []) → ⊥
no_history events (Invoke id c) may h = by (list_any (invokes id) events) refl may
  where
    last : At (events ++ Invoke id c ∷ []) (length events) (Invoke id c)
    last = at_push events (Invoke id c) (length events) refl

    by : (b : Bool) → list_any (invokes id) events ≡ b → not b ≡ false → ⊥
    by false is never = cc
    by true is never =
        let there = where_invoked events id is in
        let within = at_within events there.0 (Invoke id there.1) there.2 in
        let same : there.0 ≡ length events = h.invoked_once there.0 (length events) id there.1 c (at_append events _ there.0 _ there.2) last in
        omega (arith, within, same)
no_history events (Complete id a) may h = by (list_any (invokes id) events) (list_any (completes id) events) refl refl may
  where
    last : At (events ++ Complete id a ∷ []) (length events) (Complete id a)
    last = at_push events (Complete id a) (length events) refl

    by : (b d : Bool) → list_any (invokes id) events ≡ b → list_any (completes id) events ≡ d → (b && not d) ≡ false → ⊥
    by true false invoked completed never = cc
    by true true invoked completed never =
        let there = where_completed events id completed in
        let within = at_within events there.0 (Complete id there.1) there.2 in
        let same : there.0 ≡ length events = h.completed_once there.0 (length events) id there.1 a (at_append events _ there.0 _ there.2) last in
        omega (arith, within, same)
    by false d invoked completed never =
        let was = h.after_invoked (length events) id a last in
        elim (at_push_cases events _ was.0 _ was.3) [
          | inl old ↦ let wrong : true ≡ false = sym (invoked_at events was.0 id was.1 old) ∙ invoked in cc
          | inr new ↦ omega (arith, was.2, new.0)
        ]

-- ---- stages

completed_was_invoked : (events : List Event) (id : RequestId) → IsHistory events → list_any (completes id) events ≡ true → list_any (invokes id) events ≡ false → ⊥
completed_was_invoked events id h completed never =
    let there = where_completed events id completed in
    let was = h.after_invoked there.0 id there.1 there.2 in
    let wrong : true ≡ false = sym (invoked_at events was.0 id was.1 was.3) ∙ never in
    cc

-- the stage by two tests
abbrev stage_by : Bool → Bool → Option RequestStage
stage_by completed invoked = if completed then Some Completed else if invoked then Some Invoked else None

-- an event that has no next stage may not follow
pub may_not : (events : List Event) (e : Event) → IsHistory events → stage_after e (stage_of events (request_of e)) ≡ None → may_follow events e ≡ false
may_not events (Invoke id c) h none = by (list_any (completes id) events) (list_any (invokes id) events) refl refl none
  where
    by : (d i : Bool) → list_any (completes id) events ≡ d → list_any (invokes id) events ≡ i → stage_after (Invoke id c) (stage_by d i) ≡ None → not i ≡ false
    by d true completed invoked none = refl
    by true false completed invoked none = absurd (completed_was_invoked events id h completed invoked)
    by false false completed invoked none = absurd cc
may_not events (Complete id a) h none = by (list_any (completes id) events) (list_any (invokes id) events) none
  where
    by : (d i : Bool) → stage_after (Complete id a) (stage_by d i) ≡ None → (i && not d) ≡ false
    by true true none = refl
    by true false none = refl
    by false true none = absurd cc
    by false false none = refl

-- one that has may
pub may : (events : List Event) (e : Event) (s : RequestStage) → stage_after e (stage_of events (request_of e)) ≡ Some s → may_follow events e ≡ true
may events (Invoke id c) s some = by (list_any (completes id) events) (list_any (invokes id) events) some
  where
    by : (d i : Bool) → stage_after (Invoke id c) (stage_by d i) ≡ Some s → not i ≡ true
    by true i some = absurd cc
    by false true some = absurd cc
    by false false some = refl
may events (Complete id a) s some = by (list_any (completes id) events) (list_any (invokes id) events) some
  where
    by : (d i : Bool) → stage_after (Complete id a) (stage_by d i) ≡ Some s → (i && not d) ≡ true
    by true i some = absurd cc
    by false true some = refl
    by false false some = absurd cc

-- the stage of its request behind it
own_stage : (events : List Event) (e : Event) (s : RequestStage) → stage_after e (stage_of events (request_of e)) ≡ Some s → stage_of (events ++ e ∷ []) (request_of e) ≡ Some s
own_stage events (Invoke id c) s some =
    rw (list_any-append (completes id) events (Invoke id c ∷ []), list_any-append (invokes id) events (Invoke id c ∷ []), same_id-self id)
    (by (list_any (completes id) events) (list_any (invokes id) events) some)
  where
    by : (d i : Bool) → stage_after (Invoke id c) (stage_by d i) ≡ Some s → stage_by (d || false) (i || true) ≡ Some s
    by true i some = absurd cc
    by false true some = absurd cc
    by false false some = some
own_stage events (Complete id a) s some =
    rw (list_any-append (completes id) events (Complete id a ∷ []), list_any-append (invokes id) events (Complete id a ∷ []), same_id-self id)
    (by (list_any (completes id) events) (list_any (invokes id) events) some)
  where
    by : (d i : Bool) → stage_after (Complete id a) (stage_by d i) ≡ Some s → stage_by (d || true) (i || false) ≡ Some s
    by true i some = absurd cc
    by false true some = some
    by false false some = absurd cc

pub apart_test : (a b : RequestId) → (b ≡ a → ⊥) → same_id a b ≡ false
apart_test a b apart = by (same_id a b) refl
  where
    by : (t : Bool) → same_id a b ≡ t → t ≡ false
    by true is = absurd (apart (sym (same_id-true a b is)))
    by false is = refl

-- that of another request
other_stage : (events : List Event) (e : Event) (id : RequestId) → (request_of e ≡ id → ⊥) → stage_of (events ++ e ∷ []) id ≡ stage_of events id
other_stage events (Invoke other c) id apart =
    rw (list_any-append (completes id) events (Invoke other c ∷ []), list_any-append (invokes id) events (Invoke other c ∷ []), apart_test id other apart)
    (by (list_any (completes id) events) (list_any (invokes id) events))
  where
    by : (d i : Bool) → stage_by (d || false) (i || false) ≡ stage_by d i
    by true i = refl
    by false true = refl
    by false false = refl
other_stage events (Complete other a) id apart =
    rw (list_any-append (completes id) events (Complete other a ∷ []), list_any-append (invokes id) events (Complete other a ∷ []), apart_test id other apart)
    (by (list_any (completes id) events) (list_any (invokes id) events))
  where
    by : (d i : Bool) → stage_by (d || false) (i || false) ≡ stage_by d i
    by true i = refl
    by false true = refl
    by false false = refl

-- one event more is followed
pub followed : (old new : RequestId → Option RequestStage) (events : List Event) (e : Event) (s : RequestStage) → IsFollowed old events
    → stage_after e (old (request_of e)) ≡ Some s
    → ((id : RequestId) → new id ≡ cond (is_eq (id_cmp (request_of e) id)) (Some s) (old id)) → IsFollowed new (events ++ e ∷ [])
followed old new events e s f some updates = record {
  is_history = history_more events e f.is_history (may events e s by_events);
  stage = λ id. updates id ∙ by id (is_eq (id_cmp (request_of e) id)) refl;
}
  where
    by_events : stage_after e (stage_of events (request_of e)) ≡ Some s
    by_events = ap (stage_after e) (sym (f.stage (request_of e))) ∙ some

    by : (id : RequestId) (b : Bool) → is_eq (id_cmp (request_of e) id) ≡ b → cond b (Some s) (old id) ≡ stage_of (events ++ e ∷ []) id
    by id true tied = sym (ap (stage_of (events ++ e ∷ [])) (sym (tied_same (request_of e) id tied)) ∙ own_stage events e s by_events)
    by id false apart = f.stage id ∙ sym (other_stage events e id (λ same. absurd (apart_ids same)))
      where
        apart_ids : request_of e ≡ id → ⊥
        apart_ids same = let wrong : true ≡ false = sym (self_tied (request_of e)) ∙ ap (λ (r : RequestId). is_eq (id_cmp (request_of e) r)) same ∙ apart in cc

-- ---- what a claim says of an event

-- an event with which the events are no history is refused, and no other
pub bad_id_exactly : (claim : Claimed) (e : Event) → IsHistory claim.events → claim.order ≡ []
    → (with_event claim e ≡ Err (BadField field.Id)) ↔ (IsHistory (claim.events ++ e ∷ []) → ⊥)
bad_id_exactly claim e h empty = by (may_follow claim.events e) refl
  where
    refused : (b : Bool) → may_follow claim.events e ≡ b → with_event claim e ≡ (if b then Ok (record claim { events = claim.events ++ e ∷ [] }) else Err (BadField field.Id))
    refused b is = rw (empty, is) refl

    by : (b : Bool) → may_follow claim.events e ≡ b → (with_event claim e ≡ Err (BadField field.Id)) ↔ (IsHistory (claim.events ++ e ∷ []) → ⊥)
    by true is = (
      λ err. let wrong : Ok (record claim { events = claim.events ++ e ∷ [] }) ≡ Err (BadField field.Id) = sym (refused true is) ∙ err in absurd cc,
      λ none. absurd (none (history_more claim.events e h is)),
    )
    by false is = (λ err. no_history claim.events e is, λ none. refused false is)

-- an event is taken whole, or not at all
pub followed_or_not : {E : Type 0} (r : Result (Unit {0}) E) (old new : BTreeMap RequestId RequestStage) (events later : List Event) (e : Event) (s : RequestStage)
    → IsFollowed (get id_cmp old) events → stage_after e (stage_of events (request_of e)) ≡ Some s → OnOk r (later ≡ events ++ e ∷ [])
    → OnOk r (Updates id_cmp old new (request_of e) (Some s)) → OnErr r (later ≡ events) → OnErr r (new.entries ≡ old.entries)
    → IsFollowed (get id_cmp new) later
followed_or_not (Ok _) old new events later e s f some longer updates same stay =
    subst (λ (es : List Event). IsFollowed (get id_cmp new) es) (sym longer)
    (followed (get id_cmp old) (get id_cmp new) events e s f (ap (stage_after e) (f.stage (request_of e)) ∙ some) updates.0)
followed_or_not (Err _) old new events later e s f some longer updates same stay =
    subst (λ (es : List Event). IsFollowed (get id_cmp new) es) (sym same)
    (record { is_history = f.is_history; stage = λ id. ap (lookup (is_at (id_cmp id))) stay ∙ f.stage id })

-- an event that may not come is refused
pub not_taken : (claim : Claimed) (e : Event) → claim.order ≡ [] → may_follow claim.events e ≡ false → with_event claim e ≡ Err (BadField field.Id)
not_taken claim e empty may = rw (empty, may) refl

pub no_items : {A : Type 0} (xs : List A) → length xs ≡ 0 → xs ≡ []
no_items [] none = refl
no_items (x ∷ xs) none = absurd (omega (arith, none))
