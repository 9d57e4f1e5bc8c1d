-- Where quick marks and the marks of adoptions go as the moves go on: what they give, what stands low before them, and that
-- requests which were invoked before them in time stay so.
use Rattle.std.proofs.Common.{◌≡◌, ◌<◌, ◌≤◌, ◌==◌, ◌&&◌, ◌||◌, inl, inr, ℕ, zero, suc, not, Bool, true, false, cond, List, [], ◌∷◌, ◌++◌, take, length, Some, None, refl, ap, sym, ◌∙◌, subst, arith, append-nil}
use Rattle.std.specs.List.{filter}
use Rattle.curp_base.specs.Words.{At}
use Rattle.curp_base.proofs.Lists.{at_append, at_append_cases, at_map, at_push_cases, at_take, at_within}
use Rattle.curp_base.proofs.Numbered.{filter_at}
use Rattle.curp_cmd.specs.declared.command.Answer.{Answer}
use Rattle.curp_cmd.specs.declared.command.Command.{Command}
use Rattle.curp_cmd.specs.declared.command.RequestId.{RequestId}
use Rattle.curp_order.specs.declared.Event.{Event}
use Rattle.curp_order.specs.declared.Event.TheVariants.{Complete, Invoke}
use Rattle.curp_msg.specs.declared.machine.Capture.{Capture}
use Rattle.curp_msg.specs.declared.machine.Completed.{Completed}
use Rattle.curp_model.specs.Marks.{Cut, Executed, Looked, Mark, Place, Quick, flagged, is_cut, is_flagged, is_past, is_quick, is_shown, is_update_mark, quick}
use Rattle.curp_law_linear.specs.Line.{CutEarly, EarlyAt, IsCompleted, KindsOk, LineState, LineOk, QuickEarly, QuickGives, QuickLow, WasInvoked, answer_at}
use Rattle.curp_law_linear.specs.Moves.{Adopt, AdoptFits, Adopts, Completes, ExpirePush, Fits, Flags, GivePush, GivenDone, Invokes, Lates, Looks, Migrates, LineMove, OpPush, Quicks, Strays, TakePush, Told, adopting, after, put_before, replayed_of}
use Rattle.curp_law_linear.proofs.AdoptedMarks.{adopted_is, fresh_no_flag, fresh_of, stays}
use Rattle.curp_law_linear.proofs.Completions.{flagging_at, read_own, update_own}
use Rattle.curp_law_linear.proofs.Given.{LogsOk, Pure, Second}
use Rattle.curp_law_linear.proofs.Keeps.{keeps}
use Rattle.curp_law_linear.proofs.Lates.{late_low}
use Rattle.curp_law_linear.proofs.Lists.{at_take_in}
use Rattle.curp_law_linear.proofs.Puts.{put_cases, put_stands, was_order}
use Rattle.curp_law_linear.proofs.Values.{quick_kept, value_flagged, value_more, value_put}
use Rattle.curp_cmd.specs.Hash.{touches}
use Rattle.curp_law_linear.specs.Moved.{MarkMoved}

unfoldable pub moved_same : (s : LineState) (place : ℕ) (m : Mark) → At s.marks place m → MarkMoved s s.marks place m
moved_same s place m h = record {
  now = place;
  mark = m;
  stands = h;
  master = refl;
  epoch = refl;
  part = refl;
  id = refl;
  command = refl;
  same = refl;
  value = λ y. refl;
  before = λ k i u hk lt at waits. (k, u, hk, lt, at, waits, refl, refl);
  behind = λ k u hk lt f. inl (k, u, hk, lt, refl, f);
}

-- one more mark at the end
unfoldable pub moved_more : (s : LineState) (mark : Mark) → mark.completed ≡ false → (place : ℕ) (m : Mark) → At s.marks place m → MarkMoved s (s.marks ++ mark ∷ []) place m
moved_more s mark no_flag place m h = record {
  now = place;
  mark = m;
  stands = at_append s.marks (mark ∷ []) place m h;
  master = refl;
  epoch = refl;
  part = refl;
  id = refl;
  command = refl;
  same = refl;
  value = λ y. let l = at_within s.marks place m h in value_more s.marks (mark ∷ []) place m.command (omega (arith, l));
  before = λ k i u hk lt at waits. elim (at_push_cases s.marks mark k u hk) [
    | inl old ↦ (k, u, old, lt, at, waits, refl, refl)
    | inr last ↦ absurd (let l = at_within s.marks place m h in omega (arith, last.0, lt, l))
  ];
  behind = λ k u hk lt f. elim (at_push_cases s.marks mark k u hk) [
    | inl old ↦ inl (k, u, old, lt, refl, f)
    | inr last ↦ absurd (let bad : false ≡ true = sym no_flag ∙ ap (λ (y : Mark). y.completed) last.1 ∙ f in cc)
  ];
}

-- flags
unfoldable pub moved_flag : (s : LineState) (c : Completed) → KindsOk s.marks → KindsOk (flagged c s.marks) → (IsCompleted s.history c.id → ⊥) → ((m : Mark) → is_flagged c c.by m ≡ true → m.id ≡ c.id) → (place : ℕ) (m : Mark) → At s.marks place m → MarkMoved s (flagged c s.marks) place m
moved_flag s c kinds kinds_now waits own place m h = record {
  now = place;
  mark = cond (is_flagged c c.by m) (record m { completed = true }) m;
  stands = at_map (λ (o : Mark). cond (is_flagged c c.by o) (record o { completed = true }) o) s.marks place m h;
  master = alike (λ (o : Mark). o.master) (is_flagged c c.by m) refl;
  epoch = alike (λ (o : Mark). o.epoch) (is_flagged c c.by m) refl;
  part = alike (λ (o : Mark). o.part) (is_flagged c c.by m) refl;
  id = alike (λ (o : Mark). o.id) (is_flagged c c.by m) refl;
  command = alike (λ (o : Mark). o.command) (is_flagged c c.by m) refl;
  same = alike (λ (o : Mark). o.place) (is_flagged c c.by m) refl;
  value = λ y.
      value_flagged c s.marks kinds kinds_now place (cond (is_flagged c c.by m) (record m { completed = true }) m).command ∙ ap (answer_at s.marks place) (alike (λ (o : Mark). o.command) (is_flagged c c.by m) refl);
  before = λ k i u hk lt at_i uncompleted.
      let w = flagging_at c s.marks k u hk in
      let was : w.was.completed ≡ false = elim (w.flag) [ inl y ↦ absurd (let e : true ≡ false = sym y.1 ∙ uncompleted in cc) | inr n ↦ sym n.1 ∙ uncompleted ] in
      (k, w.was, w.stood, lt, sym w.place ∙ at_i, was, sym w.part, sym w.command);
  behind = λ k u hk lt f.
      let w = flagging_at c s.marks k u hk in
      elim (w.flag) [
        | inl y ↦ inr (λ done. waits (subst (IsCompleted s.history) (w.id ∙ own w.was y.0) done))
        | inr n ↦ inl (k, w.was, w.stood, lt, sym w.id, sym n.1 ∙ f)
      ];
}
  where
    alike : {B : Type 0} (f : Mark → B) (b : Bool) → f (record m { completed = true }) ≡ f m → f (cond b (record m { completed = true }) m) ≡ f m
    alike f true e = e
    alike f false e = refl

-- a mark of no update between others
unfoldable pub moved_put : (s : LineState) (c : ℕ) (q : Mark) → q.completed ≡ false → is_update_mark q.place ≡ false → is_shown q ≡ false → c ≤ length s.marks → (place : ℕ) (m : Mark) → At s.marks place m → MarkMoved s (put_before c q s.marks) place m
moved_put s c q no_flag no_update out low place m h =
    let n = put_stands q c s.marks place m low h in
    record {
      now = n.0;
      mark = m;
      stands = n.2;
      master = refl;
      epoch = refl;
      part = refl;
      id = refl;
      command = refl;
      same = refl;
      value = λ y. value_put q out c n.0 place n.1 s.marks m.command;
      before = λ k i u hk lt at waits. elim (put_cases q c s.marks k u hk) [
        | inl old ↦ (old.0, u, old.2, was_order c k n.0 old.0 place old.1 n.1 lt, at, waits, refl, refl)
        | inr new ↦ absurd (let bad : false ≡ true = sym no_update ∙ ap (λ (y : Mark). is_update_mark y.place) new.0 ∙ ap is_update_mark at in cc)
      ];
      behind = λ k u hk lt f. elim (put_cases q c s.marks k u hk) [
        | inl old ↦ inl (old.0, u, old.2, was_order c n.0 k place old.0 n.1 old.1 lt, refl, f)
        | inr new ↦ absurd (let bad : false ≡ true = sym no_flag ∙ ap (λ (y : Mark). y.completed) new.0 ∙ f in cc)
      ];
    }

-- where an item of a list stands in a filter of it, with what stands before it and behind it
pub filter_place : {A : Type 0} (q : A → Bool) (xs : List A) (k : ℕ) (x : A) → At xs k x → q x ≡ true
    → (j : ℕ) × At (filter q xs) j x × (take j (filter q xs) ≡ filter q (take k xs)) × ((l : ℕ) (y : A) → At (filter q xs) l y → j < l → (i : ℕ) × At xs i y × (k < i))
filter_place q [] k x h t = absurd cc
filter_place {A} q (z ∷ xs) zero x h t =
    let same : z ≡ x = cc in
    let f : q z ≡ true = ap q same ∙ t in
    subst (λ (b : Bool). (j : ℕ) × At (cond b (z ∷ filter q xs) (filter q xs)) j x × (take j (cond b (z ∷ filter q xs) (filter q xs)) ≡ []) × ((l : ℕ) (y : A) → At (cond b (z ∷ filter q xs) (filter q xs)) l y → j < l → (i : ℕ) × At (z ∷ xs) i y × (0 < i))) (sym f)
    (0, ap Some same, refl, first)
  where
    first : (l : ℕ) (y : A) → At (z ∷ filter q xs) l y → 0 < l → (i : ℕ) × At (z ∷ xs) i y × (0 < i)
    first zero y g lt = absurd (omega (arith, lt))
    first (suc l) y g lt = let w = filter_at q xs l y g in (suc w.0, w.1, omega arith)
filter_place {A} q (z ∷ xs) (suc k) x h t = go (q z) (filter_place q xs k x h t)
  where
    go : (b : Bool) → (j : ℕ) × At (filter q xs) j x × (take j (filter q xs) ≡ filter q (take k xs)) × ((l : ℕ) (y : A) → At (filter q xs) l y → j < l → (i : ℕ) × At xs i y × (k < i))
        → (j : ℕ) × At (cond b (z ∷ filter q xs) (filter q xs)) j x × (take j (cond b (z ∷ filter q xs) (filter q xs)) ≡ cond b (z ∷ filter q (take k xs)) (filter q (take k xs)))
        × ((l : ℕ) (y : A) → At (cond b (z ∷ filter q xs) (filter q xs)) l y → j < l → (i : ℕ) × At (z ∷ xs) i y × (suc k < i))
    go true r = (suc r.0, r.1, ap (λ (l : List A). z ∷ l) r.2, later)
      where
        later : (l : ℕ) (y : A) → At (z ∷ filter q xs) l y → suc r.0 < l → (i : ℕ) × At (z ∷ xs) i y × (suc k < i)
        later zero y g lt = absurd (omega (arith, lt))
        later (suc l) y g lt = let w = r.3 l y g (omega (arith, lt)) in (suc w.0, w.1, omega (arith, w.2))
    go false r = (r.0, r.1, r.2, λ l y g lt. let w = r.3 l y g lt in (suc w.0, w.1, omega (arith, w.2)))

-- an adoption that keeps the mark
pub moved_kept : Pure → (s : LineState) → LineOk s → (o : Adopt) → AdoptFits s o → LogsOk s.parts → (place : ℕ) (m : Mark) → At s.marks place m → stays o.part (length o.stays) m ≡ true
    → (w : MarkMoved s (filter (stays o.part (length o.stays)) s.marks ++ fresh_of o.node o.part o.epoch (length o.stays) (replayed_of o) s.marks) place m)
    × At (filter (stays o.part (length o.stays)) s.marks) w.now m × (take w.now (filter (stays o.part (length o.stays)) s.marks) ≡ filter (stays o.part (length o.stays)) (take place s.marks))
moved_kept pure s ok o fits logs place m h st = (
  record {
    now = n.0;
    mark = m;
    stands = at_append kept fresh n.0 m n.1;
    master = refl;
    epoch = refl;
    part = refl;
    id = refl;
    command = refl;
    same = refl;
    value = λ y. let p = quick_place m.place y in quick_kept pure s ok.order.kinds ok.looks.looks ok.quick.quicks o fits (logs.takes_once o.part o.p fits.here) place n.0 p.0 m h p.1 n.1 n.2;
    before = λ k i u hk lt at waits. elim (at_append_cases kept fresh k u hk) [
      | inr g ↦ absurd (let l = at_within kept n.0 m n.1 in omega (arith, g.1, lt, l))
      | inl old ↦
          let f : At (filter (stays o.part (length o.stays)) (take place s.marks)) k u = subst (λ (l : List Mark). At l k u) n.2 (at_take_in n.0 kept k u old lt) in
          let w = filter_at (stays o.part (length o.stays)) (take place s.marks) k u f in
          let t = at_take place s.marks w.0 u w.1 in
          (w.0, u, t.1, t.0, at, waits, refl, refl)
    ];
    behind = λ k u hk lt f. elim (at_append_cases kept fresh k u hk) [
      | inr g ↦ absurd (let bad : true ≡ false = sym f ∙ fresh_no_flag o.node o.part o.epoch (length o.stays) (replayed_of o) s.marks g.0 u g.2 in cc)
      | inl old ↦ let w = n.3 k u old lt in inl (w.0, u, w.1, w.2, refl, f)
    ];
  },
  n.1,
  n.2,
)
  where
    kept : List Mark
    kept = filter (stays o.part (length o.stays)) s.marks

    fresh : List Mark
    fresh = fresh_of o.node o.part o.epoch (length o.stays) (replayed_of o) s.marks

    n : (j : ℕ) × At (filter (stays o.part (length o.stays)) s.marks) j m × (take j (filter (stays o.part (length o.stays)) s.marks) ≡ filter (stays o.part (length o.stays)) (take place s.marks))
        × ((l : ℕ) (y : Mark) → At (filter (stays o.part (length o.stays)) s.marks) l y → j < l → (i : ℕ) × At s.marks i y × (place < i))
    n = filter_place (stays o.part (length o.stays)) s.marks place m h st

    quick_place : (p : Place) → is_quick p ≡ true → (number : ℕ) × (p ≡ Quick number)
    quick_place (Executed i) e = absurd cc
    quick_place (Looked c l) e = absurd cc
    quick_place (Quick c) e = (c, refl)
    quick_place (Cut c l) e = absurd cc

pub moved_adopt : Pure → (s : LineState) → LineOk s → (o : Adopt) → AdoptFits s o → LogsOk s.parts → (place : ℕ) (m : Mark) → At s.marks place m → stays o.part (length o.stays) m ≡ true → MarkMoved s (adopting s o).marks place m
moved_adopt pure s ok o fits logs place m h st =
    subst (λ (l : List Mark). MarkMoved s l place m) (sym (adopted_is o.node o.part o.epoch (length o.stays) (replayed_of o) s.marks)) (moved_kept pure s ok o fits logs place m h st).0

-- ---- each move

-- marks that no adoption drops
abbrev pub is_lasting : Place → Bool
is_lasting p = is_quick p || is_cut p

pub lasting_stays : (part cut : ℕ) (m : Mark) → is_lasting m.place ≡ true → stays part cut m ≡ true
lasting_stays part cut m y = ap (λ (b : Bool). not (((m.part == part) && not m.completed) && b)) (never m.place y) ∙ none ((m.part == part) && not m.completed)
  where
    never : (p : Place) → is_lasting p ≡ true → is_past cut p ≡ false
    never (Executed i) e = absurd cc
    never (Looked n l) e = absurd cc
    never (Quick n) e = refl
    never (Cut n l) e = refl

    none : (b : Bool) → not (b && false) ≡ true
    none true = refl
    none false = refl

module _ (pure : Pure) (second : Second) where
  -- each move keeps them
  pub moves : (s : LineState) (m : LineMove) → Fits s m → LogsOk s.parts → LineOk s → (place : ℕ) (x : Mark) → At s.marks place x → is_lasting x.place ≡ true → MarkMoved s (after s m).marks place x
  moves s (OpPush o) fits logs ok place x h y = moved_more s _ refl place x h
  moves s (TakePush o) fits logs ok place x h y = moved_same s place x h
  moves s (GivePush o) fits logs ok place x h y = moved_same s place x h
  moves s (ExpirePush o) fits logs ok place x h y = moved_same s place x h
  moves s (Told number) fits logs ok place x h y = moved_same s place x h
  moves s (Migrates m) fits logs ok place x h y = moved_same s place x h
  moves s (GivenDone m) fits logs ok place x h y = moved_same s place x h
  moves s (Invokes id command) fits logs ok place x h y = moved_same s place x h
  moves s (Completes id a) fits logs ok place x h y =
      moved_flag s (record { id = id; answer = a; by = None }) ok.order.kinds (keeps pure second s (Completes id a) fits logs ok).order.kinds fits.waits (λ m z. update_own s ok.order id a fits m z) place x h
  moves s (Looks o) fits logs ok place x h y = moved_more s _ refl place x h
  moves s (Flags by id a) fits logs ok place x h y =
      moved_flag s (record { id = id; answer = a; by = Some by }) ok.order.kinds (keeps pure second s (Flags by id a) fits logs ok).order.kinds fits.waits (λ m z. read_own s ok.order by id a fits m z) place x h
  moves s (Adopts o) fits logs ok place x h y = moved_adopt pure s ok o fits logs place x h (lasting_stays o.part (length o.stays) x y)
  moves s (Quicks o) fits logs ok place x h y = moved_more s _ refl place x h
  moves s (Lates o) fits logs ok place x h y = moved_put s o.place (quick o.node o.part o.epoch o.capture o.id o.command) refl refl refl (late_low s ok.order o fits) place x h
  moves s (Strays part number more) fits logs ok place x h y = moved_same s place x h

-- the history grows
pub history_more : (s : LineState) (m : LineMove) → (more : List Event) × ((after s m).history ≡ s.history ++ more)
history_more s (OpPush o) = ([], sym (append-nil s.history))
history_more s (TakePush o) = ([], sym (append-nil s.history))
history_more s (GivePush o) = ([], sym (append-nil s.history))
history_more s (ExpirePush o) = ([], sym (append-nil s.history))
history_more s (Told number) = ([], sym (append-nil s.history))
history_more s (Migrates m) = ([], sym (append-nil s.history))
history_more s (GivenDone m) = ([], sym (append-nil s.history))
history_more s (Invokes id command) = (Invoke id command ∷ [], refl)
history_more s (Completes id a) = (Complete id a ∷ [], refl)
history_more s (Looks o) = ([], sym (append-nil s.history))
history_more s (Flags by id a) = (Complete id a ∷ [], refl)
history_more s (Adopts o) = ([], sym (append-nil s.history))
history_more s (Quicks o) = ([], sym (append-nil s.history))
history_more s (Lates o) = ([], sym (append-nil s.history))
history_more s (Strays part number more) = ([], sym (append-nil s.history))

-- what was invoked before what is flagged behind a mark completed, stays so
pub early_moved : (s : LineState) (new : List Mark) (place : ℕ) (x : Mark) (w : MarkMoved s new place x) (more : List Event) (id : RequestId) (command : Command) → WasInvoked s.history id command
    → EarlyAt s.marks s.history place id command → EarlyAt new (s.history ++ more) w.now id command
early_moved s new place x w more id command inv early j e m a lt hj f done = elim (at_append_cases s.history more e _ done) [
  | inr g ↦ (inv.event, (let l = at_within s.history inv.event _ inv.stands in omega (arith, g.1, l)), at_append s.history more inv.event _ inv.stands)
  | inl old ↦ elim (w.behind j m hj lt f) [
    | inr waits ↦ absurd (waits (record { event = e; answer = a; stands = old }))
    | inl v ↦
        let i = early v.0 e v.1 a v.3 v.2 v.5 (subst (λ (r : RequestId). At s.history e (Complete r a)) (sym v.4) old) in
        (i.0, i.1, at_append s.history more i.0 _ i.2)
  ]
]

quick_lasts : (p : Place) (number : ℕ) → p ≡ Quick number → is_lasting p ≡ true
quick_lasts p number e = ap is_lasting e

cut_lasts : (p : Place) (number long : ℕ) → p ≡ Cut number long → is_lasting p ≡ true
cut_lasts p number long e = ap is_lasting e

module _ (pure : Pure) (second : Second) (s : LineState) (m : LineMove) (fits : Fits s m) (logs : LogsOk s.parts) (ok : LineOk s) where
  -- a quick mark gives what it gave, through each move
  pub quick_stays : (by : Capture) (part : ℕ) (id : RequestId) (a : Answer) → QuickGives s.marks by part id a → QuickGives (after s m).marks by part id a
  quick_stays by part id a g =
      let w = moves pure second s m fits logs ok g.place g.mark g.stands (quick_lasts g.mark.place by.number g.is_quick) in
      record {
        place = w.now;
        mark = w.mark;
        stands = w.stands;
        its_master = w.master ∙ g.its_master;
        its_epoch = w.epoch ∙ g.its_epoch;
        its_part = w.part ∙ g.its_part;
        its_id = w.id ∙ g.its_id;
        is_quick = w.same ∙ g.is_quick;
        gives = w.value (ap is_quick g.is_quick) ∙ g.gives;
      }

  -- and its request stays early
  pub early_stays : (by : Capture) (part : ℕ) (id : RequestId) (a : Answer) → QuickEarly s by part id a → QuickEarly (after s m) by part id a
  unfolding quick_stays moves
  early_stays by part id a q =
      let g = q.its in
      let w = moves pure second s m fits logs ok g.place g.mark g.stands (quick_lasts g.mark.place by.number g.is_quick) in
      let more = history_more s m in
      let inv = ok.order.invoked g.place g.mark g.stands (ap (λ (p : Place). is_cut p && not g.mark.completed) g.is_quick) in
      record {
        its = quick_stays by part id a g;
        early = subst (λ (h : List Event). EarlyAt (after s m).marks h w.now w.mark.id w.mark.command) (sym more.1)
            (subst (λ (r : RequestId). EarlyAt (after s m).marks (s.history ++ more.0) w.now r w.mark.command) (sym w.id)
            (subst (λ (d : Command). EarlyAt (after s m).marks (s.history ++ more.0) w.now g.mark.id d) (sym w.command) (early_moved s (after s m).marks g.place g.mark w more.0 g.mark.id g.mark.command inv q.early)));
      }

  -- what is uncompleted before it stays low
  pub low_stays : (by : Capture) (part long : ℕ) (id : RequestId) → QuickLow s.marks by part long id → QuickLow (after s m).marks by part long id
  low_stays by part long id g =
      let w = moves pure second s m fits logs ok g.place g.mark g.stands (quick_lasts g.mark.place by.number g.is_quick) in
      record {
        place = w.now;
        mark = w.mark;
        stands = w.stands;
        its_master = w.master ∙ g.its_master;
        its_epoch = w.epoch ∙ g.its_epoch;
        its_part = w.part ∙ g.its_part;
        its_id = w.id ∙ g.its_id;
        is_quick = w.same ∙ g.is_quick;
        low = λ k i h u hk lt at waits here tm tu.
            let v = w.before k i u hk lt at waits in
            g.low v.0 i h v.1 v.2 v.3 v.4 v.5 (v.6 ∙ here) (ap (λ (d : Command). touches d h) (sym w.command) ∙ tm) (ap (λ (d : Command). touches d h) v.7 ∙ tu);
      }

  -- a request that was invoked before an adoption, in time, stays so
  pub cut_early_stays : (part number : ℕ) (id : RequestId) (command : Command) → WasInvoked s.history id command → CutEarly s part number id command → CutEarly (after s m) part number id command
  cut_early_stays part number id command inv g =
      let w = moves pure second s m fits logs ok g.place g.mark g.stands (cut_lasts g.mark.place number g.long g.is_cut) in
      let more = history_more s m in
      record {
        place = w.now;
        mark = w.mark;
        stands = w.stands;
        its_part = w.part ∙ g.its_part;
        long = g.long;
        is_cut = w.same ∙ g.is_cut;
        early = subst (λ (h : List Event). EarlyAt (after s m).marks h w.now id command) (sym more.1) (early_moved s (after s m).marks g.place g.mark w more.0 id command inv g.early);
      }
