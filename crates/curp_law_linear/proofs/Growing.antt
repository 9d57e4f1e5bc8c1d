-- The completed requests of the order stay in their order, whatever comes between them.
use Rattle.std.proofs.Common.{◌≡◌, ◌||◌, inl, inr, ℕ, length, Bool, true, false, cond, None, Some, List, [], ◌∷◌, ◌++◌, map, refl, ap, sym, ◌∙◌, subst}
use Rattle.std.specs.List.{filter}
use Rattle.std.proofs.lemmas.Bool.{cases_Bool}
use Rattle.std.proofs.lemmas.List.{map-append}
use Rattle.std.proofs.lemmas.List.Elements.{filter-append}
use Rattle.curp_base.specs.Words.{At}
use Rattle.curp_cmd.specs.declared.command.RequestId.{RequestId}
use Rattle.curp_cmd.proofs.Ids.{same_id-self, same_id-true}
use Rattle.curp_order.specs.declared.Event.{Event}
use Rattle.curp_order.specs.declared.Event.TheVariants.{Complete, Invoke}
use Rattle.curp_msg.specs.declared.machine.Completed.{Completed}
use Rattle.curp_facts.specs.Marked.{completes, is_completed}
use Rattle.curp_model.specs.Marks.{Mark, flagged, is_flagged, is_shown, is_update_mark, quick, shown}
use Rattle.curp_law_kept.specs.Hashes.{In, asked}
use Rattle.curp_order.specs.Order.{Asked}
use Rattle.curp_law_linear.specs.Line.{IsCompleted, LineState, LineOk, StandsIn, completed_order}
use Rattle.curp_law_linear.specs.Moves.{Adopt, Adopts, AllFit, Completes, ExpirePush, Fits, Flags, GivePush, GivenDone, Invokes, Lates, Looks, Migrates, LineMove, OpPush, Quicks, Strays, TakePush, Told, after, all_after, replayed_of}
use Rattle.curp_law_linear.proofs.AdoptedMarks.{adopted_is, flagged_stays, fresh_of, stays}
use Rattle.curp_law_linear.proofs.Given.{LogsOk, Pure, Second}
use Rattle.curp_law_linear.proofs.Hashes.{update_place}
use Rattle.curp_law_linear.proofs.Keeps.{keeps}
use Rattle.curp_law_linear.proofs.Lists.{filter_within, in_any, in_head, in_tail}
use Rattle.curp_base.proofs.Numbered.{any_at}
use Rattle.curp_law_linear.proofs.Puts.{put_filter}

-- ---- lists that stand in others

pub stands_more : {A : Type 0} (xs : List A) (y : A) (ys : List A) → StandsIn xs ys → StandsIn xs (y ∷ ys)
stands_more [] y ys h = tt
stands_more (x ∷ xs) y ys h = inr h

pub stands_self : {A : Type 0} (xs : List A) → StandsIn xs xs
stands_self [] = tt
stands_self (x ∷ xs) = inl (refl, stands_self xs)

pub stands_left : {A : Type 0} (xs ys : List A) → StandsIn xs (xs ++ ys)
stands_left [] ys = tt
stands_left (x ∷ xs) ys = inl (refl, stands_left xs ys)

pub stands_trans : {A : Type 0} (xs ys zs : List A) → StandsIn xs ys → StandsIn ys zs → StandsIn xs zs
stands_trans [] ys zs h g = tt
stands_trans (x ∷ xs) [] zs h g = absurd h
stands_trans (x ∷ xs) (y ∷ ys) [] h g = absurd g
stands_trans (x ∷ xs) (y ∷ ys) (z ∷ zs) h (inl g) = elim h [
  | inl e ↦ inl (e.0 ∙ g.0, stands_trans xs ys zs e.1 g.1)
  | inr later ↦ inr (stands_trans (x ∷ xs) ys zs later g.1)
]
stands_trans (x ∷ xs) (y ∷ ys) (z ∷ zs) h (inr g) = inr (stands_trans (x ∷ xs) (y ∷ ys) zs h g)

-- ---- the flagged marks

-- what the flagged marks stand for
abbrev pub flags : List Mark → List Asked
flags marks = map asked (filter (λ (m : Mark). m.completed) marks)

flags_append : (xs ys : List Mark) → flags (xs ++ ys) ≡ flags xs ++ flags ys
flags_append xs ys = ap (map asked) (filter-append (λ (m : Mark). m.completed) xs ys) ∙ map-append asked _ _

flags_more : (xs ys : List Mark) → StandsIn (flags xs) (flags (xs ++ ys))
flags_more xs ys = subst (StandsIn (flags xs)) (sym (flags_append xs ys)) (stands_left (flags xs) (flags ys))

flags_flagged : (c : Completed) (marks : List Mark) → StandsIn (flags marks) (flags (flagged c marks))
flags_flagged c [] = tt
flags_flagged c (m ∷ marks) = go (is_flagged c c.by m) m.completed refl (flags_flagged c marks)
  where
    go : (f b : Bool) → m.completed ≡ b → StandsIn (flags marks) (flags (flagged c marks)) → StandsIn (map asked (cond b (m ∷ filter (λ (o : Mark). o.completed) marks) (filter (λ (o : Mark). o.completed) marks))) (flags (cond f (record m { completed = true }) m ∷ flagged c marks))
    go true true e ih = inl (refl, ih)
    go true false e ih = stands_more (flags marks) (asked m) (flags (flagged c marks)) ih
    go false true e ih =
        subst (λ (b : Bool). StandsIn (asked m ∷ flags marks) (map asked (cond b (m ∷ filter (λ (o : Mark). o.completed) (flagged c marks)) (filter (λ (o : Mark). o.completed) (flagged c marks))))) (sym e) (inl (refl, ih))
    go false false e ih =
        subst (λ (b : Bool). StandsIn (flags marks) (map asked (cond b (m ∷ filter (λ (o : Mark). o.completed) (flagged c marks)) (filter (λ (o : Mark). o.completed) (flagged c marks))))) (sym e) ih

flags_adopted : (s : LineState) (o : Adopt) → StandsIn (flags s.marks) (flags (after s (Adopts o)).marks)
flags_adopted s o =
    let kept : List Mark = filter (stays o.part (length o.stays)) s.marks in
    let same : flags kept ≡ flags s.marks = ap (map asked) (filter_within (λ (m : Mark). m.completed) (stays o.part (length o.stays)) s.marks (λ m y. flagged_stays o.part (length o.stays) m y)) in
    subst (λ (l : List Mark). StandsIn (flags s.marks) (flags l)) (sym (adopted_is o.node o.part o.epoch (length o.stays) (replayed_of o) s.marks))
    (subst (λ (l : List Asked). StandsIn l (flags (kept ++ fresh_of o.node o.part o.epoch (length o.stays) (replayed_of o) s.marks))) same (flags_more kept _))

-- each move keeps the flagged marks in their order
pub flags_grow : (s : LineState) (m : LineMove) → StandsIn (flags s.marks) (flags (after s m).marks)
flags_grow s (OpPush o) = flags_more s.marks _
flags_grow s (TakePush o) = stands_self (flags s.marks)
flags_grow s (GivePush o) = stands_self (flags s.marks)
flags_grow s (ExpirePush o) = stands_self (flags s.marks)
flags_grow s (Told number) = stands_self (flags s.marks)
flags_grow s (Migrates m) = stands_self (flags s.marks)
flags_grow s (GivenDone m) = stands_self (flags s.marks)
flags_grow s (Invokes id command) = stands_self (flags s.marks)
flags_grow s (Completes id a) = flags_flagged (record { id = id; answer = a; by = None }) s.marks
flags_grow s (Looks o) = flags_more s.marks _
flags_grow s (Flags by id a) = flags_flagged (record { id = id; answer = a; by = Some by }) s.marks
flags_grow s (Adopts o) = flags_adopted s o
flags_grow s (Quicks o) = flags_more s.marks _
flags_grow s (Lates o) =
    subst (StandsIn (flags s.marks)) (sym (ap (map asked) (put_filter (quick o.node o.part o.epoch o.capture o.id o.command) (λ (m : Mark). m.completed) refl o.place s.marks))) (stands_self (flags s.marks))
flags_grow s (Strays part number more) = stands_self (flags s.marks)

-- ---- they are the completed requests of the order

completed_from : (history : List Event) (id : RequestId) → is_completed history id ≡ true → IsCompleted history id
completed_from history id t = let w = any_at (completes id) history t in of_event w.0 w.1 w.2 w.3
  where
    of_event : (k : ℕ) (e : Event) → At history k e → completes id e ≡ true → IsCompleted history id
    of_event k (Invoke other command) h y = absurd cc
    of_event k (Complete other a) h y = record { event = k; answer = a; stands = subst (λ (x : RequestId). At history k (Complete x a)) (sym (same_id-true id other y)) h }

completed_to : (history : List Event) (id : RequestId) → IsCompleted history id → is_completed history id ≡ true
completed_to history id c = in_any (completes id) history (Complete id c.answer) (c.event, c.stands) (same_id-self id)

-- a shown mark is flagged where its request has completed
flag_tells : (s : LineState) → LineOk s → (k : ℕ) (m : Mark) → At s.marks k m → is_shown m ≡ true → is_completed s.history m.id ≡ m.completed
flag_tells s ok k m h t = elim (cases_Bool m.completed) [
  | inl y ↦ completed_to s.history m.id (ok.order.flags k m h y) ∙ sym y
  | inr n ↦ elim (cases_Bool (is_completed s.history m.id)) [
    | inr none ↦ none ∙ sym n
    | inl done ↦
        let p = update_place m.place (shown_update m.completed (is_update_mark m.place) n t) in
        absurd (ok.order.unflagged k p.0 m h p.1 n (completed_from s.history m.id done))
  ]
]
  where
    shown_update : (c u : Bool) → c ≡ false → (c || u) ≡ true → u ≡ true
    shown_update true u e f = absurd cc
    shown_update false u e f = f

flags_shown : (p : Asked → Bool) (marks : List Mark) → ((m : Mark) → In m marks → is_shown m ≡ true → p (asked m) ≡ m.completed) → filter p (shown marks) ≡ flags marks
flags_shown p [] f = refl
flags_shown p (m ∷ marks) f = go m.completed (is_update_mark m.place) refl refl (flags_shown p marks (λ o n t. f o (in_tail o m marks n) t))
  where
    tells : is_shown m ≡ true → p (asked m) ≡ m.completed
    tells t = f m (in_head m marks) t

    go : (c u : Bool) → m.completed ≡ c → is_update_mark m.place ≡ u → filter p (shown marks) ≡ flags marks
        → filter p (map asked (cond (c || u) (m ∷ filter is_shown marks) (filter is_shown marks))) ≡ map asked (cond c (m ∷ filter (λ (o : Mark). o.completed) marks) (filter (λ (o : Mark). o.completed) marks))
    go true u e g ih =
        let t : p (asked m) ≡ true = tells (ap (λ (b : Bool). b || is_update_mark m.place) e) ∙ e in
        ap (λ (b : Bool). cond b (asked m ∷ filter p (shown marks)) (filter p (shown marks))) t ∙ ap (λ (l : List Asked). asked m ∷ l) ih
    go false true e g ih =
        let t : p (asked m) ≡ false = tells (ap (λ (b : Bool). b || is_update_mark m.place) e ∙ g) ∙ e in
        ap (λ (b : Bool). cond b (asked m ∷ filter p (shown marks)) (filter p (shown marks))) t ∙ ih
    go false false e g ih = ih

-- the completed requests of the order are those of the flagged marks
completed_flags : (s : LineState) → LineOk s → completed_order s ≡ flags s.marks
completed_flags s ok = flags_shown (λ (x : Asked). is_completed s.history x.0) s.marks (λ m n t. flag_tells s ok n.0 m n.1 t)

module _ (pure : Pure) (second : Second) where
  -- after a move they stand in the order as they stood before it
  pub order_grows : (s : LineState) (m : LineMove) → Fits s m → LogsOk s.parts → LineOk s → StandsIn (completed_order s) (completed_order (after s m))
  order_grows s m fits logs ok =
      subst (λ (l : List Asked). StandsIn l (completed_order (after s m))) (sym (completed_flags s ok))
      (subst (StandsIn (flags s.marks)) (sym (completed_flags (after s m) (keeps pure second s m fits logs ok))) (flags_grow s m))

  -- and so after all of a list
  pub order_grows_on : (ms : List LineMove) (s : LineState) → AllFit LogsOk s ms → LineOk s → StandsIn (completed_order s) (completed_order (all_after s ms))
  order_grows_on [] s fits ok = stands_self (completed_order s)
  order_grows_on (m ∷ ms) s fits ok =
      stands_trans (completed_order s) (completed_order (after s m)) (completed_order (all_after (after s m) ms)) (order_grows s m fits.0 fits.1 ok)
      (order_grows_on ms (after s m) fits.2 (keeps pure second s m fits.0 fits.1 ok))
