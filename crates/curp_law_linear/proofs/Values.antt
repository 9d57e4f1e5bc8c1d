-- What one thread gives a look at its mark, as the moves go on.
use Rattle.std.proofs.Common.{◌≡◌, ◌⊎◌, ◌<◌, ◌≤◌, ◌&&◌, ◌==◌, ◌||◌, inl, inr, ℕ, zero, suc, nat_lt, not, Bool, true, false, cond, Some, List, [], ◌∷◌, ◌++◌, take, drop, map, length, refl, ap, sym, ◌∙◌, subst, arith, le_refl, take_all}
use Rattle.std.specs.List.{filter}
use Rattle.std.proofs.lemmas.Bool.{cases_Bool, eqb-true}
use Rattle.std.proofs.lemmas.Bool.Decides.{nat_tests}
use Rattle.std.proofs.lemmas.List.{take-append-le}
use Rattle.curp_base.specs.Words.{At}
use Rattle.curp_base.proofs.Lists.{at_append, at_append_cases, at_map, at_push, at_push_cases, at_within}
use Rattle.curp_cmd.specs.Store.{applied, nothing}
use Rattle.curp_cmd.specs.declared.command.Answer.{Answer}
use Rattle.curp_cmd.specs.declared.command.Command.{Command}
use Rattle.curp_cmd.specs.declared.command.RequestId.{RequestId}
use Rattle.curp_order.specs.Order.{store_after}
use Rattle.curp_order.specs.declared.Event.{Event}
use Rattle.curp_order.specs.declared.Event.TheVariants.{Complete, Invoke}
use Rattle.curp_msg.specs.declared.machine.Capture.{Capture}
use Rattle.curp_msg.specs.declared.machine.Completed.{Completed}
use Rattle.curp_model.specs.Log.{answer_after}
use Rattle.curp_model.specs.Marks.{Cut, Executed, Looked, Mark, Place, Quick, flagged, is_cut, is_flagged, is_past, is_shown, is_update_mark, looked, shown}
use Rattle.curp_law_linear.specs.Line.{CutsOpen, FlagsOk, IsCompleted, KindsOk, LineState, LookGives, LooksOk, OrderOk, Owned, QuicksOk, ValuesOk, answer_at}
use Rattle.curp_law_linear.specs.Moves.{Adopt, AdoptFits, Look, LookFits, adopting, looking, put_before, replayed_of}
use Rattle.curp_law_linear.proofs.AdoptedMarks.{adopted_is, fresh_no_flag, fresh_of, stays}
use Rattle.curp_law_linear.proofs.Completions.{flagged_order, flagging_at}
use Rattle.curp_law_linear.proofs.Given.{LogValue, Pure, TakesOnce}
use Rattle.curp_law_linear.proofs.Lists.{take_split}
use Rattle.curp_law_linear.proofs.Looks.{look_value}
use Rattle.curp_base.proofs.Numbered.{filter_at}
use Rattle.curp_law_linear.proofs.OwnedValues.{owned_answer}
use Rattle.curp_law_linear.proofs.Shown.{by_updates}
use Rattle.curp_law_linear.proofs.Quicks.{prefix_kept}
use Rattle.curp_law_linear.proofs.Orders.{same_prefixes}
use Rattle.curp_law_linear.proofs.Puts.{Was, put_cases, put_prefix, put_stands}
use Rattle.curp_law_kept.specs.Hashes.{asked, updates}

-- what isn't an update's mark
look_place : (p : Place) → is_update_mark p ≡ false → ((number : ℕ) × (long : ℕ) × (p ≡ Looked number long)) ⊎ (((number : ℕ) × (p ≡ Quick number)) ⊎ (is_cut p ≡ true))
look_place (Executed i) e = absurd cc
look_place (Looked number long) e = inl (number, long, refl)
look_place (Quick number) e = inr (inl (number, refl))
look_place (Cut number long) e = inr (inr refl)

-- ---- lists

-- marks behind it change no answer
pub value_more : (marks more : List Mark) (k : ℕ) (c : Command) → k ≤ length marks → answer_at (marks ++ more) k c ≡ answer_at marks k c
value_more marks more k c low = ap (λ (l : List Mark). (applied (store_after nothing (shown l)) c).answer) (take-append-le k marks more low)

pub take_map : {A B : Type 0} (f : A → B) (k : ℕ) (xs : List A) → take k (map f xs) ≡ map f (take k xs)
take_map f zero xs = refl
take_map f (suc k) [] = refl
take_map f (suc k) (x ∷ xs) = ap (λ w. f x ∷ w) (take_map f k xs)

-- nor do flags
pub value_flagged : (c : Completed) (marks : List Mark) → KindsOk marks → KindsOk (flagged c marks) → (k : ℕ) (d : Command) → answer_at (flagged c marks) k d ≡ answer_at marks k d
value_flagged c marks kinds kinds_now k d =
    let same : updates (take k (flagged c marks)) ≡ updates (take k marks) = ap updates (take_map (λ (m : Mark). cond (is_flagged c c.by m) (record m { completed = true }) m) k marks) ∙ flagged_order c (take k marks) in
    by_updates (flagged c marks) kinds_now k d ∙ ap (λ (l : _). (applied (store_after nothing l) d).answer) same ∙ sym (by_updates marks kinds k d)

-- an item that a filter keeps, with what stands before it
pub filter_back : {A : Type 0} (q : A → Bool) (xs : List A) (j : ℕ) (x : A) → At (filter q xs) j x → (k : ℕ) × At xs k x × (q x ≡ true) × (take j (filter q xs) ≡ filter q (take k xs))
filter_back q [] j x h = absurd cc
filter_back {A} q (y ∷ xs) j x h = go (q y) refl j h (λ i g. filter_back q xs i x g)
  where
    go : (b : Bool) → q y ≡ b → (j : ℕ) → At (cond b (y ∷ filter q xs) (filter q xs)) j x → ((i : ℕ) → At (filter q xs) i x → (k : ℕ) × At xs k x × (q x ≡ true) × (take i (filter q xs) ≡ filter q (take k xs)))
        → (k : ℕ) × At (y ∷ xs) k x × (q x ≡ true) × (take j (cond b (y ∷ filter q xs) (filter q xs)) ≡ filter q (take k (y ∷ xs)))
    go true e zero h ih = let same : y ≡ x = cc in (0, ap Some same, ap q (sym same) ∙ e, refl)
    go true e (suc j) h ih =
        let r = ih j h in
        (suc r.0, r.1, r.2, ap (λ (l : List A). y ∷ l) r.3 ∙ ap (λ (b : Bool). cond b (y ∷ filter q (take r.0 xs)) (filter q (take r.0 xs))) (sym e))
    go false e j h ih =
        let r = ih j h in
        (suc r.0, r.1, r.2, r.3 ∙ ap (λ (b : Bool). cond b (y ∷ filter q (take r.0 xs)) (filter q (take r.0 xs))) (sym e))

-- and where it stands in the filter
pub filter_on : {A : Type 0} (q : A → Bool) (xs : List A) (k : ℕ) (x : A) → At xs k x → q x ≡ true → (j : ℕ) × At (filter q xs) j x × (take j (filter q xs) ≡ filter q (take k xs))
filter_on q [] k x h t = absurd cc
filter_on {A} q (y ∷ xs) zero x h t =
    let same : y ≡ x = cc in
    let f : q y ≡ true = ap q same ∙ t in
    (0, subst (λ (b : Bool). At (cond b (y ∷ filter q xs) (filter q xs)) 0 x) (sym f) (ap Some same), refl)
filter_on {A} q (y ∷ xs) (suc k) x h t = go (q y) (filter_on q xs k x h t)
  where
    go : (b : Bool) → (j : ℕ) × At (filter q xs) j x × (take j (filter q xs) ≡ filter q (take k xs)) → (j : ℕ) × At (cond b (y ∷ filter q xs) (filter q xs)) j x × (take j (cond b (y ∷ filter q xs) (filter q xs)) ≡ cond b (y ∷ filter q (take k xs)) (filter q (take k xs)))
    go true r = (suc r.0, r.1, ap (λ (l : List A). y ∷ l) r.2)
    go false r = r

-- ---- the values of flagged looks

-- one more mark, which isn't flagged
pub values_more : (marks : List Mark) (history : List Event) (mark : Mark) → mark.completed ≡ false → ValuesOk marks history → ValuesOk (marks ++ mark ∷ []) history
values_more marks history mark no_flag ok k e m a h look f done = elim (at_push_cases marks mark k m h) [
  | inl old ↦
      let low : k < length marks = at_within marks k m old in
      value_more marks (mark ∷ []) k m.command (omega (arith, low)) ∙ ok k e m a old look f done
  | inr last ↦ absurd (let bad : false ≡ true = sym no_flag ∙ ap (λ (y : Mark). y.completed) last.1 ∙ f in cc)
]

-- one more invocation
pub values_invoke : (marks : List Mark) (history : List Event) (id : RequestId) (c : Command) → ValuesOk marks history → ValuesOk marks (history ++ Invoke id c ∷ [])
values_invoke marks history id c ok k e m a h look f done = elim (at_push_cases history (Invoke id c) e _ done) [
  | inl old ↦ ok k e m a h look f old
  | inr last ↦ absurd (cc (last.1))
]

-- a completion, of which a look has the answer that one thread gives
pub values_complete : (marks : List Mark) (history : List Event) (c : Completed) → KindsOk marks → KindsOk (flagged c marks) → FlagsOk marks history → (IsCompleted history c.id → ⊥)
    → ((m : Mark) → is_flagged c c.by m ≡ true → m.id ≡ c.id)
    → ((k : ℕ) (m : Mark) → At marks k m → is_update_mark m.place ≡ false → is_flagged c c.by m ≡ true → answer_at marks k m.command ≡ c.answer)
    → ValuesOk marks history → ValuesOk (flagged c marks) (history ++ Complete c.id c.answer ∷ [])
values_complete marks history c kinds kinds_now flags waits own gives ok k e m a h look f done =
    let w = flagging_at c marks k m h in
    let look_was : is_update_mark w.was.place ≡ false = ap is_update_mark (sym w.place) ∙ look in
    let value : answer_at (flagged c marks) k m.command ≡ answer_at marks k w.was.command = value_flagged c marks kinds kinds_now k m.command ∙ ap (answer_at marks k) w.command in
    value ∙ elim w.flag [
      | inl new ↦ elim (at_push_cases history (Complete c.id c.answer) e _ done) [
        | inl old ↦ absurd (waits (record { event = e; answer = a; stands = subst (λ (x : RequestId). At history e (Complete x a)) (w.id ∙ own w.was new.0) old }))
        | inr last ↦ gives k w.was w.stood look_was new.0 ∙ answer_of last.1
      ]
      | inr old_flag ↦
          let was : w.was.completed ≡ true = sym old_flag.1 ∙ f in
          elim (at_push_cases history (Complete c.id c.answer) e _ done) [
            | inl old ↦ ok k e w.was a w.stood look_was was (subst (λ (x : RequestId). At history e (Complete x a)) w.id old)
            | inr last ↦ absurd (waits (subst (IsCompleted history) (sym (id_of last.1 ∙ w.id)) (flags k w.was w.stood was)))
          ]
    ]
  where
    answer_of : {x y : RequestId} {b d : Answer} → Complete x b ≡ Complete y d → b ≡ d
    answer_of e = cc

    id_of : {x y : RequestId} {b d : Answer} → Complete x b ≡ Complete y d → x ≡ y
    id_of e = cc

-- ---- an adoption

module _ (pure : Pure) (s : LineState) (kinds : KindsOk s.marks) (looks : LooksOk s.parts s.told s.marks) (quicks : QuicksOk s.parts s.told s.marks) (o : Adopt) (fits : AdoptFits s o) (takes_once : TakesOnce o.p.log) where
  abbrev kept : List Mark
  kept = filter (stays o.part (length o.stays)) s.marks

  abbrev fresh : List Mark
  fresh = fresh_of o.node o.part o.epoch (length o.stays) (replayed_of o) s.marks

  kinds_kept : KindsOk kept
  kinds_kept k m h = let f = filter_at (stays o.part (length o.stays)) s.marks k m h in kinds f.0 m f.1

  value_kept : (j k number long : ℕ) (m : Mark) → At s.marks j m → m.place ≡ Looked number long → stays o.part (length o.stays) m ≡ true → At kept k m → take k kept ≡ filter (stays o.part (length o.stays)) (take j s.marks)
      → answer_at (kept ++ fresh) k m.command ≡ answer_at s.marks j m.command
  value_kept j k number long m h look st hk before =
      let low : k < length kept = at_within kept k m hk in
      value_more kept fresh k m.command (omega (arith, low)) ∙ by_updates kept kinds_kept k m.command
      ∙ ap (λ (l : List Mark). (applied (store_after nothing (updates l)) m.command).answer) before
      ∙ look_value s looks o fits takes_once pure (take j s.marks) (drop (suc j) s.marks) m number long (take_split s.marks j m h) look st
      ∙ sym (by_updates s.marks kinds j m.command)

  -- a quick mark has the value that it had
  pub quick_kept : (j k number : ℕ) (m : Mark) → At s.marks j m → m.place ≡ Quick number → At kept k m → take k kept ≡ filter (stays o.part (length o.stays)) (take j s.marks)
      → answer_at (kept ++ fresh) k m.command ≡ answer_at s.marks j m.command
  quick_kept j k number m h is hk before =
      let low : k < length kept = at_within kept k m hk in
      value_more kept fresh k m.command (omega (arith, low)) ∙ by_updates kept kinds_kept k m.command
      ∙ ap (λ (l : List Mark). (applied (store_after nothing (updates l)) m.command).answer) before
      ∙ same_prefixes pure (updates (filter (stays o.part (length o.stays)) (take j s.marks))) (updates (take j s.marks)) (asked m)
      (λ hash t. prefix_kept s o fits takes_once j m.part hash (quicks j number hash m h is t) (λ own i at u hu lt place waits part tu. fits.quicks j i at number hash m u h is own hu lt place waits part t tu))
      ∙ sym (by_updates s.marks kinds j m.command)

  adopted_marks : (adopting s o).marks ≡ kept ++ fresh
  adopted_marks = adopted_is o.node o.part o.epoch (length o.stays) (replayed_of o) s.marks

  values_kept : (history : List Event) → CutsOpen s.marks → ValuesOk s.marks history → ValuesOk (kept ++ fresh) history
  values_kept history plain ok k e m a h look f done = elim (at_append_cases kept fresh k m h) [
    | inl old ↦
        let w = filter_back (stays o.part (length o.stays)) s.marks k m old in
        elim (look_place m.place look) [
          | inl p ↦ value_kept w.0 k p.0 p.1 m w.1 p.2 w.2 old w.3 ∙ ok w.0 e m a w.1 look f done
          | inr (inl q) ↦ quick_kept w.0 k q.0 m w.1 q.1 old w.3 ∙ ok w.0 e m a w.1 look f done
          | inr (inr c) ↦ absurd (let bad : true ≡ false = sym f ∙ plain w.0 m w.1 c in cc)
        ]
    | inr g ↦ absurd (let bad : true ≡ false = sym f ∙ fresh_no_flag o.node o.part o.epoch (length o.stays) (replayed_of o) s.marks g.0 m g.2 in cc)
  ]

  -- a flagged look that is kept has its value
  pub values_adopt : (history : List Event) → CutsOpen s.marks → ValuesOk s.marks history → ValuesOk (adopting s o).marks history
  values_adopt history plain ok = subst (λ (l : List Mark). ValuesOk l history) (sym adopted_marks) (values_kept history plain ok)

  -- a look of the partition is dropped where it is longer than what stays, and else keeps its value
  pub look_adopt : (by : Capture) (part long : ℕ) (id : RequestId) (a : Answer) → LookGives s.marks by part long id a → LookGives (adopting s o).marks by part long id a ⊎ ((o.part ≡ part) × (length o.stays < long))
  look_adopt by part long id a w = elim (cases_Bool (stays o.part (length o.stays) w.mark)) [
    | inl st ↦
        let f = filter_on (stays o.part (length o.stays)) s.marks w.place w.mark w.stands st in
        inl (subst (λ (l : List Mark). LookGives l by part long id a) (sym adopted_marks) (record {
          place = f.0;
          mark = w.mark;
          stands = at_append kept fresh f.0 w.mark f.1;
          its_master = w.its_master;
          its_epoch = w.its_epoch;
          its_part = w.its_part;
          its_id = w.its_id;
          is_look = w.is_look;
          gives = value_kept w.place f.0 by.number long w.mark w.stands w.is_look st f.1 f.2 ∙ w.gives;
        }))
    | inr out ↦
        let e = dropped (w.mark.part == o.part) w.mark.completed (nat_lt (length o.stays) long) ((λ i. not (((w.mark.part == o.part) && not w.mark.completed) && is_past (length o.stays) (sym w.is_look i))) ∙ out) in
        let same : w.mark.part ≡ o.part = eqb-true w.mark.part o.part e.0 in
        let past : nat_lt (length o.stays) long ≡ true = e.1 in
        inr (sym same ∙ w.its_part, grind (arith, nat_tests))
  ]
    where
      dropped : (b c d : Bool) → not ((b && not c) && d) ≡ false → (b ≡ true) × (d ≡ true)
      dropped true false true e = (refl, refl)
      dropped true false false e = absurd cc
      dropped true true d e = absurd cc
      dropped false c d e = absurd cc

-- ---- a look's value through the other moves

-- marks behind it leave a look its value
pub look_more : (marks more : List Mark) (by : Capture) (part long : ℕ) (id : RequestId) (a : Answer) → LookGives marks by part long id a → LookGives (marks ++ more) by part long id a
look_more marks more by part long id a w =
    let low : w.place < length marks = at_within marks w.place w.mark w.stands in
    record {
      place = w.place;
      mark = w.mark;
      stands = at_append marks more w.place w.mark w.stands;
      its_master = w.its_master;
      its_epoch = w.its_epoch;
      its_part = w.its_part;
      its_id = w.its_id;
      is_look = w.is_look;
      gives = value_more marks more w.place w.mark.command (omega (arith, low)) ∙ w.gives;
    }

-- and so do flags
pub look_flagged : (c : Completed) (marks : List Mark) → KindsOk marks → KindsOk (flagged c marks) → (by : Capture) (part long : ℕ) (id : RequestId) (a : Answer) → LookGives marks by part long id a → LookGives (flagged c marks) by part long id a
look_flagged c marks kinds kinds_now by part long id a w = elim (cases_Bool (is_flagged c c.by w.mark)) [
  | inl y ↦ made (record w.mark { completed = true }) (subst (λ (b : Bool). At (flagged c marks) w.place (cond b (record w.mark { completed = true }) w.mark)) y at) w.its_master w.its_epoch w.its_part w.its_id w.is_look refl
  | inr n ↦ made w.mark (subst (λ (b : Bool). At (flagged c marks) w.place (cond b (record w.mark { completed = true }) w.mark)) n at) w.its_master w.its_epoch w.its_part w.its_id w.is_look refl
]
  where
    at : At (flagged c marks) w.place (cond (is_flagged c c.by w.mark) (record w.mark { completed = true }) w.mark)
    at = at_map (λ (m : Mark). cond (is_flagged c c.by m) (record m { completed = true }) m) marks w.place w.mark w.stands

    made : (m : Mark) → At (flagged c marks) w.place m → m.master ≡ by.master → m.epoch ≡ by.epoch → m.part ≡ part → m.id ≡ id → m.place ≡ Looked by.number long → m.command ≡ w.mark.command
        → LookGives (flagged c marks) by part long id a
    made m h master epoch its_part its_id look command = record {
      place = w.place;
      mark = m;
      stands = h;
      its_master = master;
      its_epoch = epoch;
      its_part = its_part;
      its_id = its_id;
      is_look = look;
      gives = value_flagged c marks kinds kinds_now w.place m.command ∙ ap (answer_at marks w.place) command ∙ w.gives;
    }

-- a look gives at its mark what the log gives
pub look_begins : Pure → (s : LineState) → OrderOk s → Owned s.moving s.parts → (o : Look) → LookFits s o → LogValue o.p
    → LookGives (looking s o).marks (record { master = o.node; epoch = o.epoch; number = o.capture }) o.part (length o.p.log) o.id (answer_after o.p.lo o.p.hi o.p.log o.command)
look_begins pure s ok below o fits its_value = record {
  place = length s.marks;
  mark = mark;
  stands = at_push s.marks mark (length s.marks) refl;
  its_master = refl;
  its_epoch = refl;
  its_part = refl;
  its_id = refl;
  is_look = refl;
  gives = value_more s.marks (mark ∷ []) (length s.marks) o.command (le_refl (length s.marks)) ∙ by_updates s.marks ok.kinds (length s.marks) o.command
      ∙ ap (λ (l : List Mark). (applied (store_after nothing (updates l)) o.command).answer) (take_all (length s.marks) s.marks (le_refl (length s.marks)))
      ∙ owned_answer s ok below o.part o.p fits.here pure its_value o.command fits.owned;
}
  where
    mark : Mark
    mark = looked o.node o.part o.epoch o.capture (length o.p.log) o.id o.command

-- ---- a mark between others that isn't shown

pub value_put : (q : Mark) → is_shown q ≡ false → (c k j : ℕ) → Was c k j → (marks : List Mark) (d : Command) → answer_at (put_before c q marks) k d ≡ answer_at marks j d
value_put q out c k j w marks d = ap (λ (l : List Mark). (applied (store_after nothing (map asked l)) d).answer) (put_prefix q c k j w marks is_shown out)

pub values_put : (q : Mark) → is_shown q ≡ false → (c : ℕ) (marks : List Mark) (history : List Event) → ValuesOk marks history → ValuesOk (put_before c q marks) history
values_put q out c marks history ok k e m a h look f done = elim (put_cases q c marks k m h) [
  | inr new ↦ absurd (let bad : false ≡ true = sym out ∙ ap is_shown new.0 ∙ ap (λ (b : Bool). b || is_update_mark m.place) f in cc)
  | inl old ↦ value_put q out c k old.0 old.1 marks m.command ∙ ok old.0 e m a old.2 look f done
]

-- a look keeps its value
pub look_put : (q : Mark) → is_shown q ≡ false → (c : ℕ) (marks : List Mark) → c ≤ length marks → (by : Capture) (part long : ℕ) (id : RequestId) (a : Answer) → LookGives marks by part long id a → LookGives (put_before c q marks) by part long id a
look_put q out c marks low by part long id a w =
    let n = put_stands q c marks w.place w.mark low w.stands in
    record {
      place = n.0;
      mark = w.mark;
      stands = n.2;
      its_master = w.its_master;
      its_epoch = w.its_epoch;
      its_part = w.its_part;
      its_id = w.its_id;
      is_look = w.is_look;
      gives = value_put q out c n.0 w.place n.1 marks w.mark.command ∙ w.gives;
    }
