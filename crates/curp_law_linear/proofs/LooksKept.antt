-- No update that stands before a look on its hash is dropped and the look kept, as the moves go on.
use Rattle.std.proofs.Common.{◌≡◌, ◌≢◌, ℕ, ◌<◌, inl, inr, ◌⊎◌, true, false, List, [], ◌∷◌, ◌++◌, length, Some, ap, sym, ◌∙◌, subst, arith}
use Rattle.std.specs.List.{filter}
use Rattle.std.proofs.lemmas.Bool.{cases_eq}
use Rattle.curp_base.specs.Words.{At, numbered}
use Rattle.curp_base.proofs.Lists.{at_append, at_append_cases, at_push_cases, at_within}
use Rattle.curp_cmd.specs.Hash.{touches}
use Rattle.curp_cmd.specs.declared.command.Command.{Command}
use Rattle.curp_cmd.specs.declared.command.Request.{Request}
use Rattle.curp_cmd.specs.declared.entry.Entry.{Entry}
use Rattle.curp_cmd.specs.declared.entry.Entry.TheVariants.{Op, Take}
use Rattle.curp_msg.specs.declared.machine.Completed.{Completed}
use Rattle.curp_model.specs.Marks.{Executed, Looked, Mark, flagged, is_quick, looked}
use Rattle.curp_law_linear.specs.Hashes.{Part}
use Rattle.curp_law_linear.specs.Line.{LineState, LooksOk, OpAt, OrderOk, ToldTake}
use Rattle.curp_law_linear.specs.Moves.{Adopt, AdoptFits, Look, LookFits, ops, pushed, put_before, relogged, replayed_of}
use Rattle.curp_law_linear.proofs.AdoptedMarks.{filter_order, stays}
use Rattle.curp_law_linear.proofs.Completions.{flagging_at}
use Rattle.curp_law_linear.proofs.Given.{TakesOnce}
use Rattle.curp_law_linear.proofs.Looks.{told_low}
use Rattle.curp_base.proofs.Numbered.{numbered_same, numbered_set_other, numbered_set_same}
use Rattle.curp_law_linear.proofs.Pushes as pushes
use Rattle.curp_law_linear.proofs.Puts.{put_cases, was_order}

-- the take stands in a log that has all of another
pub take_grows : (told : List ℕ) (log more : List Entry) (i h : ℕ) → ToldTake told log i h → ToldTake told (log ++ more) i h
take_grows told log more i h t = record { place = t.place; number = t.number; taken = t.taken; stands = at_append log more t.place _ t.stands; behind = t.behind; covers = t.covers; is_told = t.is_told }

-- one more entry
pub looks_push : (parts : List Part) (n : ℕ) (p : Part) (e : Entry) → numbered parts n ≡ Some p → (told : List ℕ) (marks : List Mark) → LooksOk parts told marks → LooksOk (pushed parts n p e) told marks
looks_push parts n p e here told marks ok j k i number long h m u hm am hk lt au f tm tu = elim (ok j k i number long h m u hm am hk lt au f tm tu) [
  | inl low ↦ inl low
  | inr away ↦ elim (cases_eq u.part n) [
    | inr ne ↦ inr (away.0, away.1, pushes.other parts n p e here u.part away.1 ne away.2, away.3)
    | inl same ↦
        let is : away.1 ≡ p = numbered_same parts n away.1 p (subst (λ (x : ℕ). numbered parts x ≡ Some away.1) same away.2) here in
        inr (
          away.0,
          pushes.longer parts n p e here,
          subst (λ (x : ℕ). numbered (pushed parts n p e) x ≡ Some (pushes.longer parts n p e here)) (sym same) (pushes.own parts n p e here),
          take_grows told p.log (e ∷ []) i h (subst (λ (y : Part). ToldTake told y.log i h) is away.3),
        )
  ]
]

-- one more mark that is no look
pub looks_more : (parts : List Part) (told : List ℕ) (marks : List Mark) (mark : Mark) → ((number long : ℕ) → mark.place ≡ Looked number long → ⊥) → LooksOk parts told marks → LooksOk parts told (marks ++ mark ∷ [])
looks_more parts told marks mark no_look ok j k i number long h m u hm am hk lt au f tm tu = elim (at_push_cases marks mark j m hm) [
  | inr last ↦ absurd (no_look number long (ap (λ (y : Mark). y.place) last.1 ∙ am))
  | inl old ↦ elim (at_push_cases marks mark k u hk) [
    | inl older ↦ ok j k i number long h m u old am older lt au f tm tu
    | inr last ↦ absurd (omega (arith, last.0, at_within marks j m old))
  ]
]

-- one more look: an op elsewhere on its hashes has a told take behind it, since the look's partition owns them
pub looks_look : (s : LineState) → OrderOk s → (o : Look) → LookFits s o
    → ((n i h a : ℕ) (q : Part) (r : Request) → n ≢ o.part → numbered s.parts n ≡ Some q → At q.log i (Op r a) → touches r.command h ≡ true → touches o.command h ≡ true → ToldTake s.told q.log i h)
    → LooksOk s.parts s.told s.marks → LooksOk s.parts s.told (s.marks ++ looked o.node o.part o.epoch o.capture (length o.p.log) o.id o.command ∷ [])
looks_look s order o fits away ok j k i number long h m u hm am hk lt au f tm tu = elim (at_push_cases s.marks mark k u hk) [
  | inr last ↦ absurd (let e : Looked o.capture (length o.p.log) ≡ Executed i = ap (λ (y : Mark). y.place) last.1 ∙ au in cc)
  | inl older ↦ elim (at_push_cases s.marks mark j m hm) [
    | inl old ↦ ok j k i number long h m u old am older lt au f tm tu
    | inr last ↦ new (order.waiting k i u older au f) (ap (λ (y : Mark). y.part) last.1) (long_is (ap (λ (y : Mark). y.place) last.1 ∙ am)) (ap (λ (y : Mark). touches y.command h) last.1 ∙ tm)
  ]
]
  where
    mark : Mark
    mark = looked o.node o.part o.epoch o.capture (length o.p.log) o.id o.command

    long_is : Looked o.capture (length o.p.log) ≡ Looked number long → length o.p.log ≡ long
    long_is e = cc

    new : OpAt s.parts u.part i u.id u.command → o.part ≡ m.part → length o.p.log ≡ long → touches o.command h ≡ true
        → ((u.part ≡ m.part) × (i < long)) ⊎ ((u.part ≢ m.part) × (p : Part) × (numbered s.parts u.part ≡ Some p) × ToldTake s.told p.log i h)
    new w part long_e t = elim (cases_eq u.part o.part) [
      | inl same ↦
          let is : w.p ≡ o.p = numbered_same s.parts o.part w.p o.p (subst (λ (x : ℕ). numbered s.parts x ≡ Some w.p) same w.here) fits.here in
          let low : i < length o.p.log = subst (λ (y : Part). i < length y.log) is (at_within w.p.log i _ w.stands) in
          inl (same ∙ part, omega (arith, low, long_e))
      | inr ne ↦ inr (λ e. ne (e ∙ sym part), w.p, w.here, away u.part i h w.acknowledged w.p w.request ne w.here w.stands (ap (λ (c : Command). touches c h) w.its_command ∙ tu) t)
    ]

-- a completion flags marks
pub looks_flag : (parts : List Part) (told : List ℕ) (c : Completed) (marks : List Mark) → LooksOk parts told marks → LooksOk parts told (flagged c marks)
looks_flag parts told c marks ok j k i number long h m u hm am hk lt au f tm tu =
    let w = flagging_at c marks j m hm in
    let v = flagging_at c marks k u hk in
    let was : v.was.completed ≡ false = elim (v.flag) [ inl y ↦ absurd (let e : true ≡ false = sym y.1 ∙ f in cc) | inr n ↦ sym n.1 ∙ f ] in
    elim (ok j k i number long h w.was v.was w.stood (sym w.place ∙ am) v.stood lt (sym v.place ∙ au) was (ap (λ (d : Command). touches d h) (sym w.command) ∙ tm) (ap (λ (d : Command). touches d h) (sym v.command) ∙ tu)) [
      | inl low ↦ inl (v.part ∙ low.0 ∙ sym w.part, low.1)
      | inr away ↦ inr (λ e. away.0 (sym v.part ∙ e ∙ w.part), away.1, ap (numbered parts) v.part ∙ away.2, away.3)
    ]

-- a take is told
pub looks_tell : (parts : List Part) (told : List ℕ) (number : ℕ) (marks : List Mark) → LooksOk parts told marks → LooksOk parts (told ++ number ∷ []) marks
looks_tell parts told number marks ok j k i n long h m u hm am hk lt au f tm tu = elim (ok j k i n long h m u hm am hk lt au f tm tu) [
  | inl low ↦ inl low
  | inr away ↦
      let t = away.3 in
      inr (
        away.0,
        away.1,
        away.2,
        record { place = t.place; number = t.number; taken = t.taken; stands = t.stands; behind = t.behind; covers = t.covers; is_told = record { place = t.is_told.place; stands = at_append told (number ∷ []) t.is_told.place t.number t.is_told.stands } },
      )
]

-- the marks that stay
abbrev pub filter_stays : LineState → Adopt → List Mark
filter_stays s o = filter (stays o.part (length o.stays)) s.marks

-- an adoption
pub looks_adopt : (s : LineState) (looks : LooksOk s.parts s.told s.marks) (o : Adopt) (fits : AdoptFits s o) (takes_once : TakesOnce o.p.log) → (fresh : List Mark)
    → ((k number long : ℕ) (m : Mark) → At fresh k m → m.place ≡ Looked number long → ⊥)
    → LooksOk (relogged s.parts o.part o.p (o.stays ++ ops (replayed_of o))) s.told (filter_stays s o ++ fresh)
looks_adopt s looks o fits takes_once fresh no_look j k i number long h m u hm am hk lt au f tm tu = elim (at_append_cases (filter_stays s o) fresh j m hm) [
  | inr g ↦ absurd (no_look g.0 number long m g.2 am)
  | inl mj ↦ elim (at_append_cases (filter_stays s o) fresh k u hk) [
    | inr g ↦ absurd (omega (arith, g.1, at_within (filter_stays s o) j m mj))
    | inl uk ↦
        let w = filter_order (stays o.part (length o.stays)) s.marks k j u m uk mj lt in
        elim (looks w.1 w.0 i number long h m u w.3 am w.2 w.4 au f tm tu) [
          | inl low ↦ inl low
          | inr away ↦ elim (cases_eq u.part o.part) [
            | inr ne ↦ inr (away.0, away.1, numbered_set_other s.parts o.part o.p new fits.here u.part away.1 ne away.2, away.3)
            | inl same ↦
                let is : away.1 ≡ o.p = numbered_same s.parts o.part away.1 o.p (subst (λ (x : ℕ). numbered s.parts x ≡ Some away.1) same away.2) fits.here in
                inr (
                  away.0,
                  new,
                  subst (λ (x : ℕ). numbered (relogged s.parts o.part o.p (o.stays ++ ops (replayed_of o))) x ≡ Some new) (sym same) (numbered_set_same s.parts o.part o.p new fits.here),
                  stands_still (subst (λ (y : Part). ToldTake s.told y.log i h) is away.3),
                )
          ]
        ]
  ]
]
  where
    new : Part
    new = record o.p { log = o.stays ++ ops (replayed_of o) }

    stands_still : ToldTake s.told o.p.log i h → ToldTake s.told (o.stays ++ ops (replayed_of o)) i h
    stands_still t =
        let low = told_low s o fits takes_once i h t in
        let at : At o.stays t.place (Take t.number t.taken) = elim (at_append_cases o.stays o.goes t.place _ (subst (λ (l : List Entry). At l t.place (Take t.number t.taken)) fits.is t.stands)) [
          | inl y ↦ y
          | inr g ↦ absurd (omega (arith, g.1, low))
        ] in
        record { place = t.place; number = t.number; taken = t.taken; stands = at_append o.stays (ops (replayed_of o)) t.place _ at; behind = t.behind; covers = t.covers; is_told = t.is_told }

-- a mark that is neither a look nor an update's, between others
pub looks_put : (parts : List Part) (told : List ℕ) (c : ℕ) (q : Mark) (marks : List Mark) → is_quick q.place ≡ true → LooksOk parts told marks → LooksOk parts told (put_before c q marks)
looks_put parts told c q marks quick ok j k i number long h m u hm am hk lt au f tm tu = elim (put_cases q c marks j m hm) [
  | inr new ↦ absurd (let bad : true ≡ false = sym quick ∙ ap (λ (y : Mark). is_quick y.place) new.0 ∙ ap is_quick am in cc)
  | inl old ↦ elim (put_cases q c marks k u hk) [
    | inr new ↦ absurd (let bad : true ≡ false = sym quick ∙ ap (λ (y : Mark). is_quick y.place) new.0 ∙ ap is_quick au in cc)
    | inl older ↦ ok old.0 older.0 i number long h m u old.2 am older.2 (was_order c k j older.0 old.0 older.1 old.1 lt) au f tm tu
  ]
]
