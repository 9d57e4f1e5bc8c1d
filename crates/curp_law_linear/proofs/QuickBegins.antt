-- Quick marks as they come, at an adopted master and at a superseded one; and what is invoked before an adoption.
use Rattle.std.proofs.Common.{◌≡◌, ◌<◌, ◌≤◌, ◌+◌, ◌-◌, ◌==◌, inl, inr, ℕ, zero, suc, Bool, true, false, List, [], ◌∷◌, ◌++◌, take, drop, length, Some, refl, ap, sym, ◌∙◌, subst, arith, le_refl, take_all}
use Rattle.std.specs.FinMap as store
use Rattle.std.specs.List.{filter, list_any}
use Rattle.std.proofs.lemmas.Bool.{and_from, and_parts, cases_lt, eq-eqb, eqb-true}
use Rattle.curp_base.specs.Words.{At, numbered}
use Rattle.curp_base.proofs.Lists.{at_append_cases, at_append_right, at_push, at_push_cases, at_same, at_within}
use Rattle.curp_base.proofs.Numbered.{numbered_same}
use Rattle.curp_cmd.specs.Hash.{hash_of, touches}
use Rattle.curp_cmd.specs.Node.{same_node}
use Rattle.curp_cmd.specs.Store.{applied, nothing}
use Rattle.curp_cmd.specs.declared.command.Answer.{Answer}
use Rattle.curp_cmd.specs.declared.command.Command.{Command}
use Rattle.curp_cmd.specs.declared.command.RequestId.{RequestId}
use Rattle.curp_cmd.specs.declared.entry.Entry.{Entry}
use Rattle.curp_cmd.specs.declared.entry.Entry.TheVariants.{Op}
use Rattle.curp_order.specs.Order.{store_after}
use Rattle.curp_msg.specs.declared.machine.Capture.{Capture}
use Rattle.curp_model.specs.Log.{answer_after, entry_touches}
use Rattle.curp_law_kept.specs.GivesFit.{GivesWithin}
use Rattle.curp_law_kept.proofs.Gives.{answer_untouched}
use Rattle.curp_model.specs.Marks.{Cut, Executed, Looked, Mark, Place, Quick, adoptions, cuts_at, cuts_part, is_capture, is_cut, is_number, is_update_mark, put_at, quick, shown}
use Rattle.curp_law_linear.specs.Hashes.{Part, owns, state_of}
use Rattle.curp_law_linear.specs.Line.{CutAt, CutEarly, IsCompleted, IsFirm, Left, LineState, LineOk, QuickEarly, QuickGives, QuickLow}
use Rattle.curp_law_linear.specs.Moves.{Adopt, FlagFits, Late, LateFits, Look, LookFits, adopting, flags_mark, late_quickly, put_before, quickly, replayed_of}
use Rattle.curp_law_linear.proofs.AdoptedMarks.{adopted_is, fresh_no_flag, fresh_of, stays, the_cut}
use Rattle.curp_law_linear.proofs.Carried.{quiet_gives}
use Rattle.curp_law_linear.proofs.Given.{LogsOk, Pure, Second}
use Rattle.curp_law_linear.proofs.Hashes.{key_touches}
use Rattle.curp_law_linear.proofs.Lates.{late_low}
use Rattle.curp_law_linear.proofs.Lists.{in_any, same_id-alike}
use Rattle.curp_law_linear.proofs.OwnedValues.{owned_answer}
use Rattle.curp_law_linear.proofs.Puts.{put_at_end, put_at_is, put_before_it, put_cases, put_here, was_behind, was_low}
use Rattle.curp_law_linear.proofs.Shown.{by_updates}
use Rattle.curp_law_linear.proofs.Spans.{owned_before}
use Rattle.curp_law_linear.proofs.UpdatesKept.{whole_value}
use Rattle.curp_law_linear.proofs.Values.{value_more}
use Rattle.curp_order.specs.declared.Event.TheVariants.{Complete, Invoke}
use Rattle.curp_cmd.proofs.Nodes.{same_node-self}
use Rattle.curp_law_kept.specs.Hashes.{updates}

-- ---- at an adopted master

module _ (pure : Pure) (second : Second) (s : LineState) (o : Look) (fits : LookFits s o) (logs : LogsOk s.parts) (ok : LineOk s) where
  abbrev quick_mark : Mark
  quick_mark = quick o.node o.part o.epoch o.capture o.id o.command

  -- a quick mark gives what the log gives
  pub quick_reads : QuickGives (quickly s o).marks (record { master = o.node; epoch = o.epoch; number = o.capture }) o.part o.id (answer_after o.p.lo o.p.hi o.p.log o.command)
  quick_reads = record {
    place = length s.marks;
    mark = quick_mark;
    stands = at_push s.marks quick_mark (length s.marks) refl;
    its_master = refl;
    its_epoch = refl;
    its_part = refl;
    its_id = refl;
    is_quick = refl;
    gives = value_more s.marks (quick_mark ∷ []) (length s.marks) o.command (le_refl (length s.marks)) ∙ by_updates s.marks ok.order.kinds (length s.marks) o.command
        ∙ ap (λ (l : List Mark). (applied (store_after nothing (updates l)) o.command).answer) (take_all (length s.marks) s.marks (le_refl (length s.marks)))
        ∙ owned_answer s ok.order ok.owned o.part o.p fits.here pure (whole_value pure second s logs o.part o.p fits.here) o.command fits.owned;
  }

  -- nothing stands behind it
  pub quick_early : QuickEarly (quickly s o) (record { master = o.node; epoch = o.epoch; number = o.capture }) o.part o.id (answer_after o.p.lo o.p.hi o.p.log o.command)
  unfolding quick_reads
  quick_early = record {
    its = quick_reads;
    early = λ j e m a lt hj f done. absurd (none j m hj lt);
  }
    where
      none : (j : ℕ) (m : Mark) → At (s.marks ++ quick_mark ∷ []) j m → length s.marks < j → ⊥
      none j m h lt = elim (at_push_cases s.marks quick_mark j m h) [
        | inl old ↦ let l = at_within s.marks j m old in omega (arith, l, lt)
        | inr last ↦ omega (arith, last.0, lt)
      ]

  -- what is uncompleted before it stands below a length from which on nothing touches its hashes
  pub quick_low : (long : ℕ) → ((h : ℕ) → touches o.command h ≡ true → list_any (λ (e : Entry). entry_touches e h) (drop long o.p.log) ≡ false)
      → QuickLow (quickly s o).marks (record { master = o.node; epoch = o.epoch; number = o.capture }) o.part long o.id
  quick_low long quiet = record {
    place = length s.marks;
    mark = quick_mark;
    stands = at_push s.marks quick_mark (length s.marks) refl;
    its_master = refl;
    its_epoch = refl;
    its_part = refl;
    its_id = refl;
    is_quick = refl;
    low = λ k i h u hk lt at waits here tm tu.
        let old : At s.marks k u = elim (at_push_cases s.marks quick_mark k u hk) [ inl was ↦ was | inr last ↦ absurd (omega (arith, last.0, lt)) ] in
        let w = ok.order.waiting k i u old at waits in
        let is : w.p ≡ o.p = numbered_same s.parts o.part w.p o.p (subst (λ (x : ℕ). numbered s.parts x ≡ Some w.p) here w.here) fits.here in
        let at_log : At o.p.log i (Op w.request w.acknowledged) = subst (λ (y : Part). At y.log i (Op w.request w.acknowledged)) is w.stands in
        elim (cases_lt i long) [
          | inl l ↦ l
          | inr ge ↦
              let t : touches w.request.command h ≡ true = ap (λ (c : Command). touches c h) w.its_command ∙ tu in
              let there = at_dropped long o.p.log i (Op w.request w.acknowledged) at_log (omega (arith, ge)) in
              let bad : true ≡ false = sym (in_any (λ (e : Entry). entry_touches e h) (drop long o.p.log) (Op w.request w.acknowledged) (i - long, there) t) ∙ quiet h tm in
              absurd cc
        ];
  }
    where
      at_dropped : (n : ℕ) (xs : List Entry) (k : ℕ) (x : Entry) → At xs k x → n ≤ k → At (drop n xs) (k - n) x
      at_dropped zero xs k x h le = subst (λ (j : ℕ). At xs j x) (omega arith) h
      at_dropped (suc n) [] k x h le = absurd cc
      at_dropped (suc n) (y ∷ xs) zero x h le = absurd (omega (arith, le))
      at_dropped (suc n) (y ∷ xs) (suc k) x h le = subst (λ (j : ℕ). At (drop n xs) j x) (omega (arith, le)) (at_dropped n xs k x h (omega (arith, le)))

-- ---- at a superseded master

-- a log that owns the hash, and whose end doesn't touch it, has there what its prefix has
pub firm_whole : (l : Left) (h : ℕ) → owns (record l.prefix { log = l.prefix.log ++ l.back }) h ≡ true → list_any (λ (e : Entry). entry_touches e h) l.back ≡ false → IsFirm l h
firm_whole l h own quiet = record { owned = owned_before l.prefix.lo l.prefix.hi h l.prefix.log l.back own (quiet_gives h l.back quiet); quiet = quiet }

-- and gives there what its prefix gives
pub firm_answer : (l : Left) (c : Command) → GivesWithin l.back → ((h : ℕ) → touches c h ≡ true → IsFirm l h) → answer_after l.prefix.lo l.prefix.hi (l.prefix.log ++ l.back) c ≡ answer_after l.prefix.lo l.prefix.hi l.prefix.log c
firm_answer l c within firm = answer_untouched l.prefix.lo l.prefix.hi l.prefix.log l.back c within (λ h t k e at. untouched h (firm h t).quiet k e at)
  where
    untouched : (h : ℕ) → list_any (λ (e : Entry). entry_touches e h) l.back ≡ false → (k : ℕ) (e : Entry) → At l.back k e → entry_touches e h ≡ false
    untouched h quiet k e at = go (entry_touches e h) refl
      where
        go : (b : Bool) → entry_touches e h ≡ b → entry_touches e h ≡ false
        go true y = absurd (let bad : true ≡ false = sym (in_any (λ (x : Entry). entry_touches x h) l.back e (k, at) y) ∙ quiet in cc)
        go false n = n

module _ (pure : Pure) (s : LineState) (o : Late) (fits : LateFits s o) (ok : LineOk s) where
  abbrev late_mark : Mark
  late_mark = quick o.node o.part o.epoch o.capture o.id o.command

  abbrev old_log : Left
  old_log = s.left o.part o.number

  value_there : (key : List ℕ) → touches o.command (hash_of key) ≡ true → store.get (store_after nothing (updates (take o.place s.marks))) key ≡ store.get (state_of old_log.prefix).store key
  value_there key t =
      let f : IsFirm (s.left fits.mark.part o.number) (hash_of key) = subst (λ (x : ℕ). IsFirm (s.left x o.number) (hash_of key)) (sym fits.its_part) (fits.firm (hash_of key) t) in
      ok.quick.values o.place o.number fits.long fits.mark fits.stands fits.is_cut key f ∙ ap (λ (x : ℕ). store.get (state_of (s.left x o.number).prefix).store key) fits.its_part

  -- a late quick mark gives what the recovered prefix gives
  pub late_reads : QuickGives (late_quickly s o).marks (record { master = o.node; epoch = o.epoch; number = o.capture }) o.part o.id (answer_after old_log.prefix.lo old_log.prefix.hi old_log.prefix.log o.command)
  late_reads = record {
    place = o.place;
    mark = late_mark;
    stands = put_here late_mark o.place s.marks (late_low s ok.order o fits);
    its_master = refl;
    its_epoch = refl;
    its_part = refl;
    its_id = refl;
    is_quick = refl;
    gives = ap (λ (l : List Mark). (applied (store_after nothing (shown l)) o.command).answer) (put_before_it late_mark o.place s.marks (late_low s ok.order o fits))
        ∙ by_updates s.marks ok.order.kinds o.place o.command
        ∙ pure.answer_local (store_after nothing (updates (take o.place s.marks))) (state_of old_log.prefix).store o.command (λ key m. value_there key (key_touches o.command key m));
  }

  -- and so what the superseded log gives
  pub late_reads_whole : GivesWithin old_log.back
      → QuickGives (late_quickly s o).marks (record { master = o.node; epoch = o.epoch; number = o.capture }) o.part o.id (answer_after old_log.prefix.lo old_log.prefix.hi (old_log.prefix.log ++ old_log.back) o.command)
  late_reads_whole within =
      subst (QuickGives (late_quickly s o).marks (record { master = o.node; epoch = o.epoch; number = o.capture }) o.part o.id) (sym (firm_answer old_log o.command within fits.firm)) late_reads

  -- where its request was invoked before what is flagged behind the adoption completed, it is early
  pub late_early : CutEarly s o.part o.number o.id o.command
      → QuickEarly (late_quickly s o) (record { master = o.node; epoch = o.epoch; number = o.capture }) o.part o.id (answer_after old_log.prefix.lo old_log.prefix.hi old_log.prefix.log o.command)
  unfolding late_reads
  late_early c = record {
    its = late_reads;
    early = λ j e m a lt hj f done. elim (put_cases late_mark o.place s.marks j m hj) [
      | inr new ↦ absurd (omega (arith, new.1, lt))
      | inl old ↦
          let same : c.place ≡ o.place = ok.quick.once c.place o.place o.number c.long fits.long c.mark fits.mark c.stands fits.stands c.is_cut fits.is_cut (c.its_part ∙ sym fits.its_part) in
          let low = was_behind o.place j old.0 old.1 lt in
          at_cut same old.0 e m a low old.2 f done
    ];
  }
    where
      at_cut : c.place ≡ o.place → (j e : ℕ) (m : Mark) (a : Answer) → o.place ≤ j → At s.marks j m → m.completed ≡ true → At s.history e (Complete m.id a) → (i : ℕ) × (i < e) × At s.history i (Invoke o.id o.command)
      at_cut same j e m a low hj f done = elim (cases_lt o.place j) [
        | inl lt ↦ c.early j e m a (omega (arith, same, lt)) hj f done
        | inr ge ↦
            let is : j ≡ o.place = omega (arith, low, ge) in
            let one : m ≡ fits.mark = at_same s.marks o.place m fits.mark (subst (λ (x : ℕ). At s.marks x m) is hj) fits.stands in
            let plain : fits.mark.completed ≡ false = ok.quick.plain o.place fits.mark fits.stands (ap is_cut fits.is_cut) in
            let bad : true ≡ false = sym f ∙ ap (λ (y : Mark). y.completed) one ∙ plain in
            absurd cc
      ]

  pub late_early_whole : GivesWithin old_log.back → CutEarly s o.part o.number o.id o.command
      → QuickEarly (late_quickly s o) (record { master = o.node; epoch = o.epoch; number = o.capture }) o.part o.id (answer_after old_log.prefix.lo old_log.prefix.hi (old_log.prefix.log ++ old_log.back) o.command)
  late_early_whole within c =
      subst (QuickEarly (late_quickly s o) (record { master = o.node; epoch = o.epoch; number = o.capture }) o.part o.id) (sym (firm_answer old_log o.command within fits.firm)) (late_early c)

  -- what is uncompleted before it stands in the recovered prefix
  pub late_is_low : QuickLow (late_quickly s o).marks (record { master = o.node; epoch = o.epoch; number = o.capture }) o.part fits.long o.id
  late_is_low = record {
    place = o.place;
    mark = late_mark;
    stands = put_here late_mark o.place s.marks (late_low s ok.order o fits);
    its_master = refl;
    its_epoch = refl;
    its_part = refl;
    its_id = refl;
    is_quick = refl;
    low = λ k i h u hk lt at waits here tm tu. elim (put_cases late_mark o.place s.marks k u hk) [
      | inl old ↦ ok.quick.low o.place old.0 i o.number fits.long fits.mark u fits.stands fits.is_cut old.2 (was_low o.place k old.0 old.1 lt) at waits (here ∙ sym fits.its_part)
      | inr new ↦ absurd (let bad : false ≡ true = ap (λ (y : Mark). is_update_mark y.place) new.0 ∙ ap is_update_mark at in cc)
    ];
  }

-- ---- by the number of the adoption

-- the place of an adoption's mark, by its number
pub late_place : (s : LineState) → LineOk s → (part number : ℕ) → 1 ≤ number → number ≤ adoptions part s.marks → CutAt s.marks part number
late_place s ok part number one last = ok.quick.there part number one last

-- the mark of an adoption, by the test
cut_of : (part number : ℕ) (o : Mark) → cuts_at part number o ≡ true → (o.part ≡ part) × (long : ℕ) × (o.place ≡ Cut number long)
cut_of part number o y =
    let a = and_parts (cuts_part part o) (is_number number o.place) y in
    let b = and_parts (is_cut o.place) (o.part == part) a.0 in
    let p = numbered_cut o.place b.0 a.1 in
    (eqb-true o.part part b.1, p.0, p.1)
  where
    numbered_cut : (p : Place) → is_cut p ≡ true → is_number number p ≡ true → (long : ℕ) × (p ≡ Cut number long)
    numbered_cut (Executed i) e f = absurd cc
    numbered_cut (Looked a b) e f = absurd cc
    numbered_cut (Quick a) e f = absurd cc
    numbered_cut (Cut a b) e f = (b, ap (λ (x : ℕ). Cut x b) (eqb-true a number f))

-- and a mark that comes before it by the number comes before it by the place
pub late_by_number : (s : LineState) → LineOk s → (part number : ℕ) (q : Mark) → (c : CutAt s.marks part number) → put_at part number q s.marks ≡ put_before c.place q s.marks
late_by_number s ok part number q c = put_at_is part number q s.marks c.place c.mark c.stands its (λ k o h y.
    let p = cut_of part number o y in
    ok.quick.once k c.place number p.1 c.long o c.mark h c.stands p.2 c.is_cut (p.0 ∙ sym c.its_part))
  where
    its : cuts_at part number c.mark ≡ true
    its = and_from _ _ (and_from (is_cut c.mark.place) (c.mark.part == part) (ap is_cut c.is_cut) (eq-eqb c.mark.part part c.its_part)) (ap (is_number number) c.is_cut ∙ eq-eqb number number refl)

-- where the partition wasn't adopted so often, it comes to the end
pub late_at_end : (s : LineState) → LineOk s → (part number : ℕ) (q : Mark) → adoptions part s.marks < number → put_at part number q s.marks ≡ s.marks ++ q ∷ []
late_at_end s ok part number q past = put_at_end part number q s.marks (λ k o h y.
    let p = cut_of part number o y in
    let l : number ≤ adoptions part s.marks = subst (λ (x : ℕ). number ≤ adoptions x s.marks) p.0 (ok.quick.numbers k number p.1 o h p.2) in
    omega (arith, l, past))

-- ---- an adoption

-- nothing behind the mark of an adoption is flagged as it comes
pub cut_early_begins : (s : LineState) (o : Adopt) (id : RequestId) (command : Command) → CutEarly (adopting s o) o.part (adoptions o.part s.marks + 1) id command
cut_early_begins s o id command = record {
  place = length kept;
  mark = the_cut o.node o.part o.epoch (length o.stays) s.marks;
  stands = subst (λ (l : List Mark). At l (length kept) (the_cut o.node o.part o.epoch (length o.stays) s.marks)) (sym now) (at_append_right kept fresh 0 (length kept) (the_cut o.node o.part o.epoch (length o.stays) s.marks) (omega arith) refl);
  its_part = refl;
  long = length o.stays;
  is_cut = refl;
  early = λ j e m a lt hj f done. absurd (none j m (subst (λ (l : List Mark). At l j m) now hj) lt f);
}
  where
    kept : List Mark
    kept = filter (stays o.part (length o.stays)) s.marks

    fresh : List Mark
    fresh = fresh_of o.node o.part o.epoch (length o.stays) (replayed_of o) s.marks

    now : (adopting s o).marks ≡ kept ++ fresh
    now = adopted_is o.node o.part o.epoch (length o.stays) (replayed_of o) s.marks

    none : (j : ℕ) (m : Mark) → At (kept ++ fresh) j m → length kept < j → m.completed ≡ true → ⊥
    none j m h lt f = elim (at_append_cases kept fresh j m h) [
      | inl old ↦ let l = at_within kept j m old in omega (arith, l, lt)
      | inr g ↦ let bad : true ≡ false = sym f ∙ fresh_no_flag o.node o.part o.epoch (length o.stays) (replayed_of o) s.marks g.0 m g.2 in cc
    ]

-- ---- a completion

-- a quick mark whose request is early, and which is the only one that the completion flags, fits
pub flag_fits : (s : LineState) (by : Capture) (part : ℕ) (id : RequestId) (a : Answer) (q : QuickEarly s by part id a) → ((k : ℕ) (o : Mark) → At s.marks k o → flags_mark by id a o ≡ true → k ≡ q.its.place)
    → (IsCompleted s.history id → ⊥) → FlagFits s by id a
flag_fits s by part id a q only waits = record {
  place = q.its.place;
  m = q.its.mark;
  stands = q.its.stands;
  looks = ap is_update_mark q.its.is_quick;
  hits = and_from _ _ (and_from _ _ (and_from _ _ (same_id-alike q.its.mark.id id q.its.its_id) (ap (same_node q.its.mark.master) (sym q.its.its_master) ∙ same_node-self q.its.mark.master)) (eq-eqb q.its.mark.epoch by.epoch q.its.its_epoch))
      (ap (is_capture by.number) q.its.is_quick ∙ eq-eqb by.number by.number refl);
  only = only;
  waits = waits;
  gives = q.its.gives;
  early = λ y. q.early;
}
