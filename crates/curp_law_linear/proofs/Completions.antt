-- A completion, of an update or of a read.
use Rattle.std.proofs.Common.{◌≡◌, ◌⊎◌, ◌||◌, ◌&&◌, ℕ, zero, suc, inl, inr, Bool, true, false, cond, List, [], ◌∷◌, ◌++◌, map, length, Some, None, refl, ap, sym, ◌∙◌, subst, arith, not, Option}
use Rattle.std.specs.List.{filter}
use Rattle.std.proofs.lemmas.Bool.{and_from, and_parts, cases_Bool, or_right}
use Rattle.curp_base.specs.Words.{At, Each, numbered}
use Rattle.curp_base.proofs.Lists.{Each-at, at_append, at_map, at_push, at_push_cases, at_same, at_within, at_mapped}
use Rattle.curp_cmd.specs.RequestId.{same_id}
use Rattle.curp_cmd.specs.Store.{is_update}
use Rattle.curp_cmd.specs.declared.command.Answer.{Answer}
use Rattle.curp_cmd.specs.declared.command.Command.{Command}
use Rattle.curp_cmd.specs.declared.command.RequestId.{RequestId}
use Rattle.curp_cmd.proofs.Ids.{same_id-true}
use Rattle.curp_order.specs.Order.{IsHistory, Asked}
use Rattle.curp_order.specs.declared.Event.{Event}
use Rattle.curp_order.specs.declared.Event.TheVariants.{Complete, Invoke}
use Rattle.curp_msg.specs.declared.machine.Capture.{Capture}
use Rattle.curp_msg.specs.declared.machine.Completed.{Completed}
use Rattle.curp_model.specs.Marks.{Cut, Executed, Looked, Mark, Place, Quick, flagged, in_turn, is_capture, is_cut, is_flagged, is_open_cut, is_quick, is_update_mark}
use Rattle.curp_law_kept.specs.Hashes.{In, asked, updates}
use Rattle.curp_law_linear.specs.Hashes.{HashesOk, Part}
use Rattle.curp_law_linear.specs.Line.{AnsweredInOrder, AnswersOk, DistinctOk, EarlyAt, FlagOf, FlagsOk, InTimeOk, InvokedOk, IsCompleted, KindsOk, LineState, MarkedOk, OneFlagOk, OpAt, OrderOk, ReadsOk, StandingOk, UnflaggedOk, WaitingOk, WasInvoked}
use Rattle.curp_law_linear.specs.Moves.{CompleteFits, FlagFits, completing, flagging}
use Rattle.curp_law_linear.proofs.Hashes.{timed_no_cut, update_mark, update_no_cut, update_timed}
use Rattle.curp_law_linear.proofs.Invocations.{completed_grows, invoked_grows}
use Rattle.curp_law_linear.proofs.Lists.{Distinct, distinct_from, in_filter, same_id-alike}
use Rattle.curp_law_linear.proofs.Ops.{one_command}

-- what a completion flags is no adoption's mark
pub hits_no_cut : (c : Completed) (by : Option Capture) (m : Mark) → is_cut m.place ≡ true → is_flagged c by m ≡ true → ⊥
hits_no_cut c None m is y = go m.place is (and_parts (same_id m.id c.id) (is_update_mark m.place) y).1
  where
    go : (p : Place) → is_cut p ≡ true → is_update_mark p ≡ true → ⊥
    go (Executed i) e f = absurd cc
    go (Looked n l) e f = absurd cc
    go (Quick n) e f = absurd cc
    go (Cut n l) e f = absurd cc
hits_no_cut c (Some by) m is y = go m.place is (and_parts _ (is_capture by.number m.place) y).1
  where
    go : (p : Place) → is_cut p ≡ true → is_capture by.number p ≡ true → ⊥
    go (Executed i) e f = absurd cc
    go (Looked n l) e f = absurd cc
    go (Quick n) e f = absurd cc
    go (Cut n l) e f = absurd cc

-- so it isn't open
hits_not_open : (c : Completed) (by : Option Capture) (m : Mark) → is_flagged c by m ≡ true → is_open_cut m ≡ false
hits_not_open c by m y = elim (cases_Bool (is_cut m.place)) [
  | inl cut ↦ absurd (hits_no_cut c by m cut y)
  | inr n ↦ ap (λ (b : Bool). b && not m.completed) n
]

-- and where it is no quick mark, it came to the end
hits_in_turn : (c : Completed) (by : Option Capture) (m : Mark) → is_flagged c by m ≡ true → is_quick m.place ≡ false → in_turn m.place ≡ true
hits_in_turn c by m y n = go m.place (λ cut. hits_no_cut c by m cut y) n
  where
    go : (p : Place) → (is_cut p ≡ true → ⊥) → is_quick p ≡ false → in_turn p ≡ true
    go (Executed i) f e = refl
    go (Looked a b) f e = refl
    go (Quick a) f e = absurd cc
    go (Cut a b) f e = absurd (f refl)

-- a flag changes neither what a mark stands for nor its place
pub flagged_order : (c : Completed) (marks : List Mark) → updates (flagged c marks) ≡ updates marks
flagged_order c [] = refl
flagged_order c (m ∷ marks) = go (is_flagged c c.by m) (is_update_mark m.place) refl (flagged_order c marks)
  where
    go : (f u : Bool) → is_update_mark m.place ≡ u → updates (flagged c marks) ≡ updates marks → updates (cond f (record m { completed = true }) m ∷ flagged c marks) ≡ updates (m ∷ marks)
    go true true e ih = rw e (ap (λ w. asked m ∷ w) ih)
    go true false e ih = rw e ih
    go false true e ih = rw e (ap (λ w. asked m ∷ w) ih)
    go false false e ih = rw e ih

-- what became of a mark
pub record Flagging (c : Completed) (old : List Mark) (k : ℕ) (m : Mark) : Type 0 where
  pub was : Mark
  pub stood : At old k was
  pub id : m.id ≡ was.id
  pub command : m.command ≡ was.command
  pub place : m.place ≡ was.place
  pub part : m.part ≡ was.part
  pub flag : ((is_flagged c c.by was ≡ true) × (m.completed ≡ true)) ⊎ ((is_flagged c c.by was ≡ false) × (m.completed ≡ was.completed))

-- each mark afterwards was one before
pub flagging_at : (c : Completed) (marks : List Mark) (k : ℕ) (m : Mark) → At (flagged c marks) k m → Flagging c marks k m
flagging_at c marks k m h =
    let w = at_mapped (λ (o : Mark). cond (is_flagged c c.by o) (record o { completed = true }) o) marks k m h in
    elim (cases_Bool (is_flagged c c.by w.0)) [
      | inl y ↦ subst (Flagging c marks k) (sym (ap (λ (b : Bool). cond b (record w.0 { completed = true }) w.0) y) ∙ w.2)
          (record { was = w.0; stood = w.1; id = refl; command = refl; place = refl; part = refl; flag = inl (y, refl) })
      | inr n ↦ subst (Flagging c marks k) (sym (ap (λ (b : Bool). cond b (record w.0 { completed = true }) w.0) n) ∙ w.2)
          (record { was = w.0; stood = w.1; id = refl; command = refl; place = refl; part = refl; flag = inr (n, refl) })
    ]

-- ---- two update marks of one id are one

-- an update's mark stands for one of the order
pub in_updates : (marks : List Mark) (k : ℕ) (m : Mark) → At marks k m → is_update_mark m.place ≡ true → In (asked m) (updates marks)
in_updates marks k m h u =
    let f = in_filter (λ (o : Mark). is_update_mark o.place) marks m (k, h) u in
    (f.0, at_map asked (filter (λ (o : Mark). is_update_mark o.place) marks) f.0 m f.1)

head_out : (z : Mark) (marks : List Mark) → is_update_mark z.place ≡ true → Distinct (updates (z ∷ marks)) → Each (λ (y : Asked). z.id ≡ y.0 → ⊥) (updates marks)
head_out z marks u d =
    let fs : List Mark = filter (λ (o : Mark). is_update_mark o.place) marks in
    let e : Distinct (asked z ∷ updates marks) = subst (λ (b : Bool). Distinct (map asked (cond b (z ∷ fs) fs))) u d in
    e.0

tail_of : (z : Mark) (marks : List Mark) → Distinct (updates (z ∷ marks)) → Distinct (updates marks)
tail_of z marks d = go (is_update_mark z.place) d
  where
    go : (b : Bool) → Distinct (map asked (cond b (z ∷ filter (λ (o : Mark). is_update_mark o.place) marks) (filter (λ (o : Mark). is_update_mark o.place) marks))) → Distinct (updates marks)
    go true d = d.1
    go false d = d

-- two marks of one update are one
pub marks_once : (marks : List Mark) → Distinct (updates marks) → (j k : ℕ) (m o : Mark) → At marks j m → At marks k o → is_update_mark m.place ≡ true → is_update_mark o.place ≡ true → m.id ≡ o.id → j ≡ k
marks_once [] d j k m o hj hk um uo same = absurd cc
marks_once (z ∷ marks) d zero zero m o hj hk um uo same = refl
marks_once (z ∷ marks) d zero (suc k) m o hj hk um uo same =
    let is : z ≡ m = cc in
    let u : is_update_mark z.place ≡ true = ap (λ (y : Mark). is_update_mark y.place) is ∙ um in
    let n = in_updates marks k o hk uo in
    absurd (Each-at _ (updates marks) (head_out z marks u d) n.0 (asked o) n.1 (ap (λ (y : Mark). y.id) is ∙ same))
marks_once (z ∷ marks) d (suc j) zero m o hj hk um uo same =
    let is : z ≡ o = cc in
    let u : is_update_mark z.place ≡ true = ap (λ (y : Mark). is_update_mark y.place) is ∙ uo in
    let n = in_updates marks j m hj um in
    absurd (Each-at _ (updates marks) (head_out z marks u d) n.0 (asked m) n.1 (ap (λ (y : Mark). y.id) is ∙ sym same))
marks_once (z ∷ marks) d (suc j) (suc k) m o hj hk um uo same = ap suc (marks_once marks (tail_of z marks d) j k m o hj hk um uo same)

-- ---- what a completion by `c` keeps

-- an op under other names for the same
pub op_as : (parts : List Part) (i : ℕ) {part other : ℕ} {id name : RequestId} {c d : Command} → other ≡ part → name ≡ id → d ≡ c → OpAt parts part i id c → OpAt parts other i name d
op_as parts i same its_id its_command o = record {
  p = o.p;
  here = ap (numbered parts) same ∙ o.here;
  request = o.request;
  acknowledged = o.acknowledged;
  stands = o.stands;
  its_id = o.its_id ∙ sym its_id;
  its_command = o.its_command ∙ sym its_command;
}

module _ (s : LineState) (ok : OrderOk s) (c : Completed) (own : (m : Mark) → is_flagged c c.by m ≡ true → m.id ≡ c.id)
    (hits : (k i : ℕ) (m : Mark) → At s.marks k m → m.place ≡ Executed i → m.id ≡ c.id → is_flagged c c.by m ≡ true)
    (one : (j k : ℕ) (m o : Mark) → At s.marks j m → At s.marks k o → is_flagged c c.by m ≡ true → is_flagged c c.by o ≡ true → j ≡ k)
    (has : (d : Command) → WasInvoked s.history c.id d → is_update d ≡ true → AnsweredInOrder (updates s.marks) (c.id, d) c.answer)
    (reads : (d : Command) → WasInvoked s.history c.id d → is_update d ≡ false → (k : ℕ) × (m : Mark) × At s.marks k m × (is_flagged c c.by m ≡ true))
    (early : (k : ℕ) (m : Mark) → At s.marks k m → is_flagged c c.by m ≡ true → EarlyAt s.marks s.history k m.id m.command)
    (was_invoked : (i : ℕ) × (d : Command) × At s.history i (Invoke c.id d)) (waits : IsCompleted s.history c.id → ⊥) where
  abbrev answers : Event
  answers = Complete c.id c.answer

  abbrev marks : List Mark
  marks = flagged c s.marks

  abbrev history : List Event
  history = s.history ++ Complete c.id c.answer ∷ []

  old_invocation : (i : ℕ) (x : RequestId) (d : Command) → At history i (Invoke x d) → At s.history i (Invoke x d)
  old_invocation i x d ev = elim (at_push_cases s.history answers i _ ev) [ inl old ↦ old | inr last ↦ absurd (cc (last.1)) ]

  invoked_before : (x : RequestId) (d : Command) → WasInvoked history x d → WasInvoked s.history x d
  invoked_before x d w = record { event = w.event; stands = old_invocation w.event x d w.stands }

  new_or_old : (x : RequestId) → IsCompleted history x → (c.id ≡ x) ⊎ IsCompleted s.history x
  new_or_old x w = elim (at_push_cases s.history answers w.event _ w.stands) [
    | inl old ↦ inr (record { event = w.event; answer = w.answer; stands = old })
    | inr last ↦ inl (cc (last.1))
  ]

  not_yet : (i : ℕ) (x : RequestId) (b : Answer) → At s.history i (Complete x b) → c.id ≡ x → ⊥
  not_yet i x b h same = waits (record { event = i; answer = b; stands = subst (λ (y : RequestId). At s.history i (Complete y b)) (sym same) h })

  complete_history : IsHistory history
  complete_history = record {
    invoked_once = λ i j x d e hi hj. ok.history.invoked_once i j x d e (old_invocation i x d hi) (old_invocation j x e hj);
    completed_once = λ i j x b d hi hj. elim (at_push_cases s.history answers i _ hi) [
      | inl old ↦ elim (at_push_cases s.history answers j _ hj) [
        | inl older ↦ ok.history.completed_once i j x b d old older
        | inr last ↦ absurd (not_yet i x b old (cc (last.1)))
      ]
      | inr last ↦ elim (at_push_cases s.history answers j _ hj) [
        | inl old ↦ absurd (not_yet j x d old (cc (last.1)))
        | inr too ↦ omega (arith, last.0, too.0)
      ]
    ];
    after_invoked = λ j x b ev. elim (at_push_cases s.history answers j _ ev) [
      | inl old ↦ let v = ok.history.after_invoked j x b old in (v.0, v.1, v.2, at_append s.history _ v.0 _ v.3)
      | inr last ↦
          let is : c.id ≡ x = cc (last.1) in
          let v = was_invoked in
          (v.0, v.1, omega (arith, at_within s.history v.0 _ v.2, last.0), subst (λ (y : RequestId). At history v.0 (Invoke y v.1)) is (at_append s.history (answers ∷ []) v.0 (Invoke c.id v.1) v.2))
    ];
  }

  done_now : IsCompleted history c.id
  done_now = record { event = length s.history; answer = c.answer; stands = at_push s.history answers (length s.history) refl }

  -- a flagged mark was flagged, or is so by this completion
  flag_cases : (k : ℕ) (m : Mark) (h : At marks k m) → m.completed ≡ true → (is_flagged c c.by (flagging_at c s.marks k m h).was ≡ true) ⊎ ((flagging_at c s.marks k m h).was.completed ≡ true)
  flag_cases k m h f = elim ((flagging_at c s.marks k m h).flag) [ inl y ↦ inl (y.0) | inr n ↦ inr (sym n.1 ∙ f) ]

  new_waiting : WaitingOk s.parts marks
  new_waiting k i m h at_i f =
      let w = flagging_at c s.marks k m h in
      let was : w.was.completed ≡ false = elim (w.flag) [ inl y ↦ absurd (let e : true ≡ false = sym y.1 ∙ f in cc) | inr n ↦ sym n.1 ∙ f ] in
      op_as s.parts i w.part w.id w.command (ok.waiting k i w.was w.stood (sym w.place ∙ at_i) was)

  new_standing : StandingOk s.parts marks
  new_standing k i m h at_i =
      let w = flagging_at c s.marks k m h in
      let o = ok.standing k i w.was w.stood (sym w.place ∙ at_i) in
      (o.0, op_as s.parts o.0 w.part w.id w.command o.1)

  new_flags : FlagsOk marks history
  new_flags k m h f =
      let w = flagging_at c s.marks k m h in
      subst (IsCompleted history) (sym w.id) (elim (flag_cases k m h f) [
        | inl y ↦ subst (IsCompleted history) (sym (own w.was y)) done_now
        | inr n ↦ completed_grows s.history (answers ∷ []) w.was.id (ok.flags k w.was w.stood n)
      ])

  new_unflagged : UnflaggedOk marks history
  new_unflagged k i m h at_i f done =
      let w = flagging_at c s.marks k m h in
      let its_place : w.was.place ≡ Executed i = sym w.place ∙ at_i in
      elim (w.flag) [
        | inl y ↦ let e : true ≡ false = sym y.1 ∙ f in cc
        | inr n ↦ elim (new_or_old m.id done) [
          | inl new ↦ let e : false ≡ true = sym n.0 ∙ hits k i w.was w.stood its_place (sym w.id ∙ sym new) in cc
          | inr old ↦ ok.unflagged k i w.was w.stood its_place (sym n.1 ∙ f) (subst (IsCompleted s.history) w.id old)
        ]
      ]

  was_no_cut : (was m : Mark) → m.place ≡ was.place → ((is_flagged c c.by was ≡ true) × (m.completed ≡ true)) ⊎ ((is_flagged c c.by was ≡ false) × (m.completed ≡ was.completed)) → is_open_cut m ≡ false
      → is_open_cut was ≡ false
  was_no_cut was m place flag uncut = elim flag [
    | inl y ↦ hits_not_open c c.by was y.0
    | inr n ↦ (λ i. is_cut (sym place i) && not (sym n.1 i)) ∙ uncut
  ]

  new_invoked : InvokedOk marks history
  new_invoked k m h uncut =
      let w = flagging_at c s.marks k m h in
      let v = ok.invoked k w.was w.stood (was_no_cut w.was m w.place w.flag uncut) in
      subst (λ (d : Command). WasInvoked history m.id d) (sym w.command) (subst (λ (x : RequestId). WasInvoked history x w.was.command) (sym w.id) (invoked_grows s.history (answers ∷ []) w.was.id w.was.command v))

  new_marked : MarkedOk (updates s.marks) history
  new_marked e x d a done inv up = elim (at_push_cases s.history answers e _ done) [
    | inl old ↦ ok.marked e x d a old (invoked_before x d inv) up
    | inr last ↦
        let same : c.id ≡ x = cc (last.1) in
        let answer : c.answer ≡ a = cc (last.1) in
        subst (λ (y : RequestId). AnsweredInOrder (updates s.marks) (y, d) a) same
        (subst (AnsweredInOrder (updates s.marks) (c.id, d)) answer (has d (subst (λ (y : RequestId). WasInvoked s.history y d) (sym same) (invoked_before x d inv)) up))
  ]

  new_kinds : KindsOk marks
  new_kinds k m h =
      let w = flagging_at c s.marks k m h in
      ap is_update w.command ∙ ok.kinds k w.was w.stood ∙ sym (ap is_update_mark w.place)

  flag_made : (k : ℕ) (m : Mark) → At s.marks k m → (m.completed ≡ true) ⊎ (is_flagged c c.by m ≡ true) → FlagOf marks m.id
  flag_made k m h f =
      let at : At marks k (cond (is_flagged c c.by m) (record m { completed = true }) m) = at_map (λ (o : Mark). cond (is_flagged c c.by o) (record o { completed = true }) o) s.marks k m h in
      elim (cases_Bool (is_flagged c c.by m)) [
        | inl y ↦ record {
          place = k;
          m = record m { completed = true };
          stands = subst (λ (b : Bool). At marks k (cond b (record m { completed = true }) m)) y at;
          its_id = refl;
          is_flagged = refl;
        }
        | inr n ↦ record {
          place = k;
          m = m;
          stands = subst (λ (b : Bool). At marks k (cond b (record m { completed = true }) m)) n at;
          its_id = refl;
          is_flagged = elim f [ inl was ↦ was | inr y ↦ absurd (let e : false ≡ true = sym n ∙ y in cc) ];
        }
      ]

  new_reads : ReadsOk marks history
  new_reads x d done inv read = elim (new_or_old x done) [
    | inl new ↦
        let w = reads d (subst (λ (y : RequestId). WasInvoked s.history y d) (sym new) (invoked_before x d inv)) read in
        subst (FlagOf marks) (own w.1 w.3 ∙ new) (flag_made w.0 w.1 w.2 (inr w.3))
    | inr old ↦ let w = ok.reads x d old (invoked_before x d inv) read in subst (FlagOf marks) w.its_id (flag_made w.place w.m w.stands (inl w.is_flagged))
  ]

  new_one_flag : OneFlagOk marks
  new_one_flag j k m o hj hk f g same =
      let w = flagging_at c s.marks j m hj in
      let v = flagging_at c s.marks k o hk in
      let ids : w.was.id ≡ v.was.id = sym w.id ∙ same ∙ v.id in
      elim (flag_cases j m hj f) [
        | inl y ↦ elim (flag_cases k o hk g) [
          | inl z ↦ one j k w.was v.was w.stood v.stood y z
          | inr n ↦ absurd (waits (subst (IsCompleted s.history) (sym ids ∙ own w.was y) (ok.flags k v.was v.stood n)))
        ]
        | inr n ↦ elim (flag_cases k o hk g) [
          | inl z ↦ absurd (waits (subst (IsCompleted s.history) (ids ∙ own v.was z) (ok.flags j w.was w.stood n)))
          | inr too ↦ ok.one_flag j k w.was v.was w.stood v.stood n too ids
        ]
      ]

  new_in_time : InTimeOk marks history
  new_in_time k o hk t j e m a lt hj f hc =
      let w = flagging_at c s.marks j m hj in
      let v = flagging_at c s.marks k o hk in
      elim (at_push_cases s.history answers e _ hc) [
        | inl old ↦ elim (flag_cases j m hj f) [
          | inl y ↦ absurd (not_yet e m.id a old (sym (w.id ∙ own w.was y)))
          | inr n ↦
              let i = was_early v.stood v.place v.flag j e w.was a lt w.stood n (subst (λ (x : RequestId). At s.history e (Complete x a)) w.id old) in
              (i.0, i.1, as_now i.0 v.was o v.id v.command i.2)
        ]
        | inr last ↦
            let i = ok.invoked k v.was v.stood (was_no_cut v.was o v.place v.flag (timed_no_cut o.place o.completed t)) in
            (i.event, omega (arith, last.0, at_within s.history i.event _ i.stands), as_now i.event v.was o v.id v.command i.stands)
      ]
    where
      was_early : {was : Mark} → At s.marks k was → o.place ≡ was.place → ((is_flagged c c.by was ≡ true) × (o.completed ≡ true)) ⊎ ((is_flagged c c.by was ≡ false) × (o.completed ≡ was.completed))
          → EarlyAt s.marks s.history k was.id was.command
      was_early {was} at place flag = elim flag [
        | inl y ↦ early k was at y.0
        | inr n ↦ ok.in_time k was at ((λ i. sym n.1 i || in_turn (sym place i)) ∙ t)
      ]

      as_now : (i : ℕ) (was now : Mark) → now.id ≡ was.id → now.command ≡ was.command → At s.history i (Invoke was.id was.command) → At history i (Invoke now.id now.command)
      as_now i was now same command h =
          subst (λ (d : Command). At history i (Invoke now.id d)) (sym command) (subst (λ (x : RequestId). At history i (Invoke x was.command)) (sym same) (at_append s.history (answers ∷ []) i _ h))

  -- a completion keeps the facts, whatever it flags
  pub completion_keeps : OrderOk (record s { marks = flagged c s.marks; history = s.history ++ Complete c.id c.answer ∷ [] })
  completion_keeps =
      let same : updates s.marks ≡ updates marks = sym (flagged_order c s.marks) in
      record {
        history = complete_history;
        hashes = subst (HashesOk s.moving s.parts) same ok.hashes;
        waiting = new_waiting;
        standing = new_standing;
        flags = new_flags;
        unflagged = new_unflagged;
        invoked = new_invoked;
        marked = subst (λ (l : List Asked). MarkedOk l history) same new_marked;
        kinds = new_kinds;
        reads = new_reads;
        one_flag = new_one_flag;
        distinct = subst DistinctOk same ok.distinct;
        answered = subst (AnswersOk s.parts) same ok.answered;
        once = ok.once;
        in_time = new_in_time;
      }

-- ---- an update

module _ (s : LineState) (ok : OrderOk s) (id : RequestId) (a : Answer) (fits : CompleteFits s id a) where
  abbrev by_update : Completed
  by_update = record { id = id; answer = a; by = None }

  -- what an update's completion flags is of its id
  pub update_own : (m : Mark) → is_flagged by_update None m ≡ true → m.id ≡ id
  update_own m y = same_id-true m.id id (and_parts (same_id m.id id) (is_update_mark m.place) y).0

  -- and of an update
  pub update_kind : (m : Mark) → is_flagged by_update None m ≡ true → is_update_mark m.place ≡ true
  update_kind m y = (and_parts (same_id m.id id) (is_update_mark m.place) y).1

  abbrev asks : Asked
  asks = (fits.done.request.id, fits.done.request.command)

  update_has : AnsweredInOrder (updates s.marks) asks a
  update_has = subst (AnsweredInOrder (updates s.marks) asks) fits.done.its_answer (ok.answered fits.part fits.p fits.done.index fits.done.request fits.done.acknowledged fits.here fits.done.stands)

  -- the command of the op is that of its invocation
  its_command : (d : Command) → WasInvoked s.history id d → asks ≡ (id, d)
  its_command d inv =
      let h = update_has in
      let u = update_mark s.marks h.place asks h.stands in
      let its_id : u.0.id ≡ id = ap (λ (x : Asked). x.0) u.4 ∙ fits.done.its_id in
      let same : u.0.command ≡ d = one_command s.history ok.history u.0.id id u.0.command d its_id (ok.invoked u.1 u.0 u.2 (update_no_cut u.0.place (not u.0.completed) u.3)) inv in
      sym u.4 ∙ (λ i. (its_id i, same i))

  update_has_it : (d : Command) → WasInvoked s.history id d → is_update d ≡ true → AnsweredInOrder (updates s.marks) (id, d) a
  update_has_it d inv up = subst (λ (x : Asked). AnsweredInOrder (updates s.marks) x a) (its_command d inv) update_has

  no_read : (d : Command) → WasInvoked s.history id d → is_update d ≡ false → ⊥
  no_read d inv read =
      let h = update_has in
      let u = update_mark s.marks h.place asks h.stands in
      let same : u.0.command ≡ d = ap (λ (x : Asked). x.1) (u.4 ∙ its_command d inv) in
      let e : false ≡ true = sym read ∙ ap is_update (sym same) ∙ ok.kinds u.1 u.0 u.2 ∙ u.3 in
      cc

  -- the completion of an update keeps the facts
  pub complete_keeps : OrderOk (completing s id a)
  complete_keeps =
      completion_keeps s ok by_update update_own (λ k i m h place same. and_from _ _ (same_id-alike m.id id same) (ap is_update_mark place))
      (λ j k m o hj hk y z. marks_once s.marks (distinct_from (updates s.marks) ok.distinct) j k m o hj hk (update_kind m y) (update_kind o z) (update_own m y ∙ sym (update_own o z)))
      update_has_it (λ d inv read. absurd (no_read d inv read)) (λ k m h y. ok.in_time k m h (update_timed m.place m.completed (update_kind m y))) fits.was_invoked fits.waits

-- ---- a read

module _ (s : LineState) (ok : OrderOk s) (by : Capture) (id : RequestId) (a : Answer) (fits : FlagFits s by id a) where
  abbrev by_read : Completed
  by_read = record { id = id; answer = a; by = Some by }

  -- what a read's completion flags is of its id
  pub read_own : (m : Mark) → is_flagged by_read (Some by) m ≡ true → m.id ≡ id
  read_own m y = same_id-true m.id id (and_parts _ _ (and_parts _ _ (and_parts _ _ y).0).0).0

  reads_it : is_update fits.m.command ≡ false
  reads_it = ok.kinds fits.place fits.m fits.stands ∙ fits.looks

  its_invocation : WasInvoked s.history fits.m.id fits.m.command
  its_invocation = ok.invoked fits.place fits.m fits.stands (hits_not_open by_read (Some by) fits.m fits.hits)

  one_of_it : (other : RequestId) (d : Command) → id ≡ other → WasInvoked s.history other d → fits.m.command ≡ d
  one_of_it other d same inv = one_command s.history ok.history fits.m.id other fits.m.command d (read_own fits.m fits.hits ∙ same) its_invocation inv

  read_hits : (k i : ℕ) (m : Mark) → At s.marks k m → m.place ≡ Executed i → m.id ≡ id → is_flagged by_read (Some by) m ≡ true
  read_hits k i m h place same =
      let e : false ≡ true = sym reads_it ∙ ap is_update (one_of_it m.id m.command (sym same) (ok.invoked k m h (update_no_cut m.place (not m.completed) (ap is_update_mark place)))) ∙ ok.kinds k m h ∙ ap is_update_mark place in
      absurd cc

  -- the completion of a read keeps the facts
  pub flag_keeps : OrderOk (flagging s by id a)
  flag_keeps =
      completion_keeps s ok by_read read_own read_hits (λ j k m o hj hk y z. fits.only j m hj y ∙ sym (fits.only k o hk z))
      (λ d inv up. absurd (let e : false ≡ true = sym reads_it ∙ ap is_update (one_of_it id d refl inv) ∙ up in cc))
      (λ d inv read. (fits.place, fits.m, fits.stands, fits.hits)) early it_was fits.waits
    where
      at_place : (b : Bool) → is_quick fits.m.place ≡ b → EarlyAt s.marks s.history fits.place fits.m.id fits.m.command
      at_place true y = fits.early y
      at_place false n = ok.in_time fits.place fits.m fits.stands (or_right fits.m.completed (in_turn fits.m.place) (hits_in_turn by_read (Some by) fits.m fits.hits n))

      early : (k : ℕ) (m : Mark) → At s.marks k m → is_flagged by_read (Some by) m ≡ true → EarlyAt s.marks s.history k m.id m.command
      early k m h y =
          let here : At s.marks fits.place m = subst (λ (i : ℕ). At s.marks i m) (fits.only k m h y) h in
          let same : fits.m ≡ m = at_same s.marks fits.place fits.m m fits.stands here in
          subst (λ (i : ℕ). EarlyAt s.marks s.history i m.id m.command) (sym (fits.only k m h y)) (subst (λ (x : Mark). EarlyAt s.marks s.history fits.place x.id x.command) same (at_place (is_quick fits.m.place) refl))

      it_was : (i : ℕ) × (d : Command) × At s.history i (Invoke id d)
      it_was =
          let v = its_invocation in
          (v.event, fits.m.command, subst (λ (x : RequestId). At s.history v.event (Invoke x fits.m.command)) (read_own fits.m fits.hits) v.stands)
