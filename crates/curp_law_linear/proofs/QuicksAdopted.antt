-- What is kept of quick marks and adoptions, through an adoption.
use Rattle.std.proofs.Common.{◌≡◌, ◌<◌, ◌≤◌, ◌+◌, ◌==◌, ◌&&◌, inl, inr, ℕ, nat_le, Bool, true, false, cond, not, List, [], ◌∷◌, ◌++◌, take, length, Some, refl, ap, sym, ◌∙◌, subst, arith, append-nil, append_assoc}
use Rattle.std.specs.FinMap as store
use Rattle.std.specs.List.{filter, list_any}
use Rattle.std.proofs.lemmas.Bool.{and_from, and_parts, cases_Bool, cases_eq, cases_lt, eq-eqb, eqb-true}
use Rattle.std.proofs.lemmas.Bool.Decides.{nat_tests}
use Rattle.curp_base.specs.Words.{At, numbered}
use Rattle.curp_base.proofs.Lists.{at_append_cases, at_within}
use Rattle.curp_base.proofs.Numbered.{filter_at, numbered_same, numbered_set_other}
use Rattle.curp_cmd.specs.Hash.{hash_of, touches}
use Rattle.curp_cmd.specs.declared.command.Command.{Command}
use Rattle.curp_cmd.specs.declared.entry.Entry.{Entry}
use Rattle.curp_cmd.specs.declared.entry.Entry.TheVariants.{Expire, Give, Op, Take}
use Rattle.curp_model.specs.Log.{entry_touches}
use Rattle.curp_law_kept.specs.Hashes.{behind, came, on, updates, value}
use Rattle.curp_order.specs.Order.{Asked}
use Rattle.curp_model.specs.Marks.{Cut, Executed, Looked, Mark, Place, Quick, adoptions, cuts_part, has_completed, is_cut, is_past, is_update_mark}
use Rattle.curp_law_linear.specs.Hashes.{Part, owns, state_of}
use Rattle.curp_law_linear.specs.Line.{AwayOk, IsFirm, Left, LineState, OrderOk, Owned, QuickKept, TakesOk}
use Rattle.curp_law_linear.specs.Moves.{Adopt, AdoptFits, adopting, left_after, replayed_of}
use Rattle.curp_law_linear.proofs.AdoptedMarks.{adopted_is, filter_order, flagged_stays, new_mark_at, new_marks, stays, the_cut}
use Rattle.curp_law_linear.proofs.Adopting.{cut_part}
use Rattle.curp_law_linear.proofs.Carried.{quiet_behind, quiet_gives}
use Rattle.curp_law_linear.proofs.Given.{LogValue, LogsOk, Pure}
use Rattle.curp_law_linear.proofs.Hashes.{update_place}
use Rattle.curp_law_linear.proofs.Lists.{filter_within, in_any, in_filter, none_narrower}
use Rattle.curp_law_linear.proofs.Looks.{filter_on, stays_away, stays_low}
use Rattle.curp_law_linear.proofs.OwnedValues.{at_own, owned_value}
use Rattle.curp_law_linear.proofs.Quicks.{away_kept, prefix_kept, kept_of, part_after, parts_after}
use Rattle.curp_law_linear.proofs.QuicksKept.{quick_cut, quick_more}
use Rattle.curp_law_linear.proofs.Spans.{owned_after, takes}
use Rattle.curp_law_linear.proofs.ToldTakes.{told_behind}
use Rattle.curp_law_linear.proofs.Values.{filter_back}
use Rattle.curp_law_kept.proofs.Gives.{behind_from_append, came_from_append, came_kept}

-- ---- what stays

-- an uncompleted update of the partition that stays stands below the cut
pub kept_low : (part cut i : ℕ) (u : Mark) → stays part cut u ≡ true → u.part ≡ part → u.completed ≡ false → u.place ≡ Executed i → i < cut
kept_low part cut i u st here waits at =
    let e : stays part cut u ≡ not (((u.part == part) && not false) && nat_le cut i) = λ j. not (((u.part == part) && not (waits j)) && is_past cut (at j)) in
    let y : (u.part == part) ≡ true = eq-eqb u.part part here in
    let f : nat_le cut i ≡ false = go (u.part == part) (nat_le cut i) y (sym e ∙ st) in
    grind (arith, nat_tests)
  where
    go : (a b : Bool) → a ≡ true → not ((a && true) && b) ≡ true → b ≡ false
    go true true x y = absurd cc
    go true false x y = refl
    go false b x y = absurd cc

-- the mark of an adoption stays
pub cut_stays : (part cut : ℕ) (m : Mark) → is_cut m.place ≡ true → stays part cut m ≡ true
cut_stays part cut m c = ap (λ (b : Bool). not (((m.part == part) && not m.completed) && b)) (never m.place c) ∙ none ((m.part == part) && not m.completed)
  where
    never : (p : Place) → is_cut p ≡ true → is_past cut p ≡ false
    never (Executed i) e = absurd cc
    never (Looked n l) e = absurd cc
    never (Quick n) e = absurd cc
    never (Cut n l) e = refl

    none : (b : Bool) → not (b && false) ≡ true
    none true = refl
    none false = refl

takes_touch : (h : ℕ) (e : Entry) → takes h e ≡ true → entry_touches e h ≡ true
takes_touch h (Op r a) t = absurd cc
takes_touch h (Take n k) t = t
takes_touch h (Give n k) t = absurd cc
takes_touch h (Expire client) t = absurd cc

module _ (pure : Pure) (s : LineState) (order : OrderOk s) (below : Owned s.moving s.parts) (takes_ok : TakesOk s.parts s.moving s.told) (logs : LogsOk s.parts) (o : Adopt) (fits : AdoptFits s o)
    (q : QuickKept s.parts s.told s.left s.marks) where
  abbrev kept : List Mark
  kept = kept_of s o fits (logs.takes_once o.part o.p fits.here)

  abbrev parts : List Part
  parts = parts_after s o fits (logs.takes_once o.part o.p fits.here)

  abbrev now : Part
  now = part_after s o fits (logs.takes_once o.part o.p fits.here)

  abbrev st : Mark → Bool
  st = stays o.part (length o.stays)

  same_adoptions : (part : ℕ) → adoptions part kept ≡ adoptions part s.marks
  same_adoptions part = ap length (filter_within (cuts_part part) st s.marks (λ m y. cut_stays o.part (length o.stays) m (and_parts (is_cut m.place) (m.part == part) y).0))

  -- ---- the marks that stay

  kept_facts : QuickKept parts s.told s.left kept
  kept_facts = record {
    quicks = λ j number h m hm is t.
        let w = filter_back st s.marks j m hm in
        away_kept s o fits (logs.takes_once o.part o.p fits.here) w.0 j m.part h w.3 (q.quicks w.0 number h m w.1 is t);
    cuts = λ j number long h m hm is firm.
        let w = filter_back st s.marks j m hm in
        away_kept s o fits (logs.takes_once o.part o.p fits.here) w.0 j m.part h w.3 (q.cuts w.0 number long h m w.1 is firm);
    low = λ j k i number long m u hm is hk lt at waits same.
        let w = filter_order st s.marks k j u m hk hm lt in
        q.low w.1 w.0 i number long m u w.3 is w.2 w.4 at waits same;
    numbers = λ j number long m hm is.
        let f = filter_at st s.marks j m hm in
        let l = q.numbers f.0 number long m f.1 is in
        let e = same_adoptions m.part in
        omega (arith, l, e);
    once = λ j k number long other m p hj hk ij ik same. elim (cases_eq j k) [
      | inl is ↦ is
      | inr ne ↦ elim (cases_lt j k) [
        | inl lt ↦
            let w = filter_order st s.marks j k m p hj hk lt in
            absurd (let e = q.once w.0 w.1 number long other m p w.2 w.3 ij ik same in omega (arith, w.4, e))
        | inr ge ↦
            let lt : k < j = omega arith in
            let w = filter_order st s.marks k j p m hk hj lt in
            absurd (let e = q.once w.0 w.1 number other long p m w.2 w.3 ik ij (sym same) in omega (arith, w.4, e))
      ]
    ];
    there = λ part number one last.
        let e = same_adoptions part in
        let k = q.there part number one (omega (arith, last, e)) in
        let n = in_filter st s.marks k.mark (k.place, k.stands) (cut_stays o.part (length o.stays) k.mark (ap is_cut k.is_cut)) in
        record { place = n.0; mark = k.mark; long = k.long; stands = n.1; its_part = k.its_part; is_cut = k.is_cut };
    plain = λ k m h c. let f = filter_at st s.marks k m h in q.plain f.0 m f.1 c;
    values = λ j number long m hm is key firm.
        let w = filter_back st s.marks j m hm in
        ap (λ (l : List Mark). value key (updates l)) w.3 ∙ pure.value_local key (updates (filter st (take w.0 s.marks)))
        ∙ ap (value key) (prefix_kept s o fits (logs.takes_once o.part o.p fits.here) w.0 m.part (hash_of key) (q.cuts w.0 number long (hash_of key) m w.1 is firm)
        (λ own k i u hu lt at waits part tu.
        let a = q.low w.0 k i number long m u w.1 is hu lt at waits (part ∙ sym own) in
        let b = fits.cuts w.0 number long (hash_of key) m w.1 is own firm in
        omega (arith, a, b)))
        ∙ sym (pure.value_local key (updates (take w.0 s.marks))) ∙ q.values w.0 number long m w.1 is key firm;
  }

  -- ---- the mark of the adoption

  abbrev gone : Left
  gone = record { prefix = cut_part o; back = o.goes }

  module _ (h : ℕ) (firm : IsFirm gone h) where
    none_taken : list_any (takes h) o.goes ≡ false
    none_taken = none_narrower (takes h) (λ (e : Entry). entry_touches e h) o.goes (takes_touch h) firm.quiet

    -- the partition owned the hash before
    own_whole : owns o.p h ≡ true
    own_whole = subst (λ (l : List Entry). owns (record o.p { log = l }) h ≡ true) (sym fits.is) (owned_after o.p.lo o.p.hi h o.stays o.goes firm.owned none_taken)

    -- an op on the hash stays
    op_stays : (k : ℕ) (u : Mark) → At s.marks k u → is_update_mark u.place ≡ true → touches u.command h ≡ true → st u ≡ true
    op_stays k u hu up tu = elim (cases_Bool u.completed) [
      | inl y ↦ flagged_stays o.part (length o.stays) u y
      | inr waits ↦
          let i = update_place u.place up in
          let w = order.waiting k i.0 u hu i.1 waits in
          elim (cases_eq u.part o.part) [
            | inr ne ↦ stays_away o.part (length o.stays) u ne
            | inl here ↦
                let is : w.p ≡ o.p = numbered_same s.parts o.part w.p o.p (subst (λ (j : ℕ). numbered s.parts j ≡ Some w.p) here w.here) fits.here in
                let at : At (o.stays ++ o.goes) i.0 (Op w.request w.acknowledged) = subst (λ (l : List Entry). At l i.0 (Op w.request w.acknowledged)) (ap (λ (y : Part). y.log) is ∙ fits.is) w.stands in
                elim (at_append_cases o.stays o.goes i.0 _ at) [
                  | inl low ↦ stays_low o.part (length o.stays) i.0 u i.1 (at_within o.stays i.0 _ low)
                  | inr g ↦
                      let t : touches w.request.command h ≡ true = ap (λ (c : Command). touches c h) w.its_command ∙ tu in
                      let bad : true ≡ false = sym (in_any (λ (e : Entry). entry_touches e h) o.goes (Op w.request w.acknowledged) (g.0, g.2) t) ∙ firm.quiet in
                      absurd cc
                ]
          ]
    ]

    same_on : on h (updates kept) ≡ on h (updates s.marks)
    same_on = filter_on h st s.marks (λ u n up tu. op_stays n.0 u n.1 up tu)

    -- what is uncompleted on the hash elsewhere, was told
    new_away : AwayOk parts s.told kept (length kept) o.part h
    new_away k i u hk lt at waits tu ne =
        let f = filter_at st s.marks k u hk in
        let w = order.waiting f.0 i u f.1 at waits in
        let t : touches w.request.command h ≡ true = ap (λ (c : Command). touches c h) w.its_command ∙ tu in (
          w.p,
          numbered_set_other s.parts o.part o.p now fits.here u.part w.p ne w.here,
          told_behind s takes_ok below o.part o.p fits.here u.part i h w.acknowledged w.p w.request ne w.here (logs.is_log u.part w.p w.here) w.stands t own_whole,
        )

  -- the order has there what what stays has
  new_value : (key : List ℕ) → IsFirm gone (hash_of key) → value key (updates kept) ≡ store.get (state_of (cut_part o)).store key
  new_value key firm =
      let h : ℕ = hash_of key in
      let own : owns o.p h ≡ true = own_whole h firm in
      let line = at_own s order below o.part o.p fits.here h own in
      let whole : LogValue o.p = logs.values o.part o.p fits.here o.p.log [] (append-nil o.p.log) in
      let prefix : LogValue (cut_part o) = logs.values o.part o.p fits.here o.stays o.goes (sym fits.is) in
      let came_same : (other : List ℕ) → came h other o.p.log ≡ came h other o.stays = λ other. ap (came h other) fits.is ∙ came_from_append h other _ o.stays o.goes ∙ came_kept h other _ o.goes (quiet_gives h o.goes firm.quiet) in
      let behind_same : behind h o.p.log ≡ behind h o.stays = ap (behind h) fits.is ∙ behind_from_append h [] o.stays o.goes ∙ quiet_behind h (behind h o.stays) o.goes firm.quiet in
      pure.value_local key (updates kept) ∙ ap (value key) (same_on h firm) ∙ sym (pure.value_local key (updates s.marks))
      ∙ owned_value s order below o.part o.p fits.here pure whole key own
      ∙ whole h own key refl line.past line.values
      ∙ ap (λ (l : List Asked). value key (line.past ++ l)) behind_same
      ∙ sym (prefix h firm.owned key refl line.past (λ other e. line.values other e ∙ came_same other))

  abbrev own_cut : Mark
  own_cut = the_cut o.node o.part o.epoch (length o.stays) s.marks

  abbrev own_number : ℕ
  own_number = adoptions o.part s.marks + 1

  left_new : left_after s o o.part own_number ≡ gone
  left_new = ap (λ (b : Bool). cond b gone (s.left o.part own_number)) (and_from (o.part == o.part) (own_number == own_number) (eq-eqb o.part o.part refl) (eq-eqb own_number own_number refl))

  left_old : (part number : ℕ) → number ≤ adoptions part kept → left_after s o part number ≡ s.left part number
  left_old part number low = go ((part == o.part) && (number == own_number)) refl
    where
      go : (b : Bool) → ((part == o.part) && (number == own_number)) ≡ b → cond b gone (s.left part number) ≡ s.left part number
      go false e = refl
      go true e =
          let c = and_parts (part == o.part) (number == own_number) e in
          let p : part ≡ o.part = eqb-true part o.part c.0 in
          let n : number ≡ own_number = eqb-true number own_number c.1 in
          let l : number ≤ adoptions o.part kept = subst (λ (x : ℕ). number ≤ adoptions x kept) p low in
          let a = same_adoptions o.part in
          absurd (omega (arith, n, l, a))

  cut_facts : QuickKept parts s.told (left_after s o) (kept ++ own_cut ∷ [])
  cut_facts =
      quick_cut parts s.told s.left (left_after s o) kept own_cut own_number (length o.stays) refl refl (let e = same_adoptions o.part in omega (arith, e)) left_old
      (λ h firm. new_away h (subst (λ (x : Left). IsFirm x h) left_new firm))
      (λ k i u hu at waits here. let f = filter_at st s.marks k u hu in kept_low o.part (length o.stays) i u f.2 here waits at)
      (λ key firm. new_value key (subst (λ (x : Left). IsFirm x (hash_of key)) left_new firm) ∙ ap (λ (x : Left). store.get (state_of x.prefix).store key) (sym left_new))
      kept_facts

  -- ---- those of what is replayed

  abbrev news : List Mark
  news = new_marks (has_completed s.marks) o.node o.part o.epoch (length o.stays) (replayed_of o)

  new_is : (k : ℕ) (m : Mark) → At news k m → (i : ℕ) × (m.place ≡ Executed i)
  new_is k m h = let n = new_mark_at (has_completed s.marks) o.node o.part o.epoch (length o.stays) (replayed_of o) k m h in (length o.stays + n.0, ap (λ (y : Mark). y.place) n.3)

  -- an adoption keeps it all
  pub quick_adopts : QuickKept parts s.told (left_after s o) (adopting s o).marks
  quick_adopts =
      subst (QuickKept parts s.told (left_after s o)) (append_assoc kept (own_cut ∷ []) news ∙ sym (adopted_is o.node o.part o.epoch (length o.stays) (replayed_of o) s.marks))
      (quick_more parts s.told (left_after s o) (kept ++ own_cut ∷ []) news (λ k m h. ap is_cut (new_is k m h).1)
      (λ k number h m hm is t. absurd (let bad : is_update_mark (Executed (new_is k m hm).0) ≡ false = ap is_update_mark (sym (new_is k m hm).1 ∙ is) in let b : true ≡ false = bad in cc)) cut_facts)
