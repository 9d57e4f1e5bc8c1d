-- What is kept of quick marks and adoptions, as the moves go on: all but an adoption.
use Rattle.std.proofs.Common.{◌≡◌, ◌<◌, ◌≤◌, ◌+◌, ◌==◌, ◌&&◌, inl, inr, ℕ, suc, Bool, true, false, cond, List, [], ◌∷◌, ◌++◌, take, map, length, Some, refl, ap, sym, ◌∙◌, subst, arith, take_all}
use Rattle.std.specs.FinMap as store
use Rattle.std.specs.List.{filter, list_any}
use Rattle.std.proofs.lemmas.Bool.{and_from, and_parts, cases_Bool, cases_eq, cases_lt, eq-eqb, eqb-true, or_parts}
use Rattle.std.proofs.lemmas.List.{length-append, take-append-le}
use Rattle.std.proofs.lemmas.List.Elements.{filter-append}
use Rattle.std.proofs.lemmas.List.Folds.{list_any-append}
use Rattle.curp_base.specs.Words.{At, numbered}
use Rattle.curp_base.proofs.Lists.{at_append, at_append_cases, at_map, at_push, at_push_cases, at_within}
use Rattle.curp_base.proofs.Numbered.{numbered_same}
use Rattle.curp_cmd.specs.Hash.{hash_of, touches}
use Rattle.curp_cmd.specs.declared.entry.Entry.{Entry}
use Rattle.curp_cmd.specs.declared.command.Command.{Command}
use Rattle.curp_msg.specs.declared.machine.Completed.{Completed}
use Rattle.curp_model.specs.Log.{entry_touches}
use Rattle.curp_law_kept.specs.Hashes.{asked, updates, value}
use Rattle.curp_model.specs.Marks.{Cut, Executed, Looked, Mark, Place, Quick, adoptions, cuts_part, flagged, is_cut, is_flagged, is_update_mark}
use Rattle.curp_law_linear.specs.Hashes.{Part, state_of}
use Rattle.curp_law_linear.specs.Line.{AwayOk, CutAt, IsFirm, Left, QuickKept, ToldTake}
use Rattle.curp_law_linear.specs.Moves.{longer_left, pushed, put_before}
use Rattle.curp_law_linear.proofs.Completions.{flagged_order, flagging_at}
use Rattle.curp_law_linear.proofs.LooksKept.{take_grows}
use Rattle.curp_law_linear.proofs.Pushes as pushes
use Rattle.curp_law_linear.proofs.Puts.{Was, put_cases, put_filter, put_prefix, put_stands, was_low, was_order, was_same}
use Rattle.curp_law_linear.proofs.Values.{take_map}
use Rattle.curp_law_linear.proofs.Lists.{empty_list, from_filter}

-- ---- places

pub cut_place : (p : Place) → is_cut p ≡ true → (number : ℕ) × (long : ℕ) × (p ≡ Cut number long)
cut_place (Executed i) e = absurd cc
cut_place (Looked n l) e = absurd cc
cut_place (Quick n) e = absurd cc
cut_place (Cut n l) e = (n, l, refl)

-- ---- how often a partition was adopted

pub adoptions_append : (part : ℕ) (xs ys : List Mark) → adoptions part (xs ++ ys) ≡ adoptions part xs + adoptions part ys
adoptions_append part xs ys = ap length (filter-append (cuts_part part) xs ys) ∙ length-append (filter (cuts_part part) xs) (filter (cuts_part part) ys)

pub adoptions_flagged : (part : ℕ) (c : Completed) (marks : List Mark) → adoptions part (flagged c marks) ≡ adoptions part marks
adoptions_flagged part c [] = refl
adoptions_flagged part c (m ∷ marks) = go (is_flagged c c.by m) (cuts_part part m) refl (adoptions_flagged part c marks)
  where
    go : (f b : Bool) → cuts_part part m ≡ b → adoptions part (flagged c marks) ≡ adoptions part marks → adoptions part (cond f (record m { completed = true }) m ∷ flagged c marks) ≡ adoptions part (m ∷ marks)
    go true true e ih = rw e (ap suc ih)
    go true false e ih = rw e ih
    go false true e ih = rw e (ap suc ih)
    go false false e ih = rw e ih

-- ---- what is away

pub away_push : (parts : List Part) (n : ℕ) (p : Part) (e : Entry) → numbered parts n ≡ Some p → (told : List ℕ) (marks : List Mark) (place part h : ℕ) → AwayOk parts told marks place part h → AwayOk (pushed parts n p e) told marks place part h
away_push parts n p e here told marks place part h ok k i u hk lt at waits tu ne =
    let t = ok k i u hk lt at waits tu ne in
    elim (cases_eq u.part n) [
      | inr other ↦ (t.0, pushes.other parts n p e here u.part t.0 other t.1, t.2)
      | inl same ↦
          let is : t.0 ≡ p = numbered_same parts n t.0 p (subst (λ (x : ℕ). numbered parts x ≡ Some t.0) same t.1) here in (
            pushes.longer parts n p e here,
            subst (λ (x : ℕ). numbered (pushed parts n p e) x ≡ Some (pushes.longer parts n p e here)) (sym same) (pushes.own parts n p e here),
            take_grows told p.log (e ∷ []) i h (subst (λ (y : Part). ToldTake told y.log i h) is t.2),
          )
    ]

pub away_tell : (parts : List Part) (told : List ℕ) (number : ℕ) (marks : List Mark) (place part h : ℕ) → AwayOk parts told marks place part h → AwayOk parts (told ++ number ∷ []) marks place part h
away_tell parts told number marks place part h ok k i u hk lt at waits tu ne =
    let a = ok k i u hk lt at waits tu ne in
    let t = a.2 in (
      a.0,
      a.1,
      record { place = t.place; number = t.number; taken = t.taken; stands = t.stands; behind = t.behind; covers = t.covers; is_told = record { place = t.is_told.place; stands = at_append told (number ∷ []) t.is_told.place t.number t.is_told.stands } },
    )

pub away_more : (parts : List Part) (told : List ℕ) (marks more : List Mark) (place part h : ℕ) → place ≤ length marks → AwayOk parts told marks place part h → AwayOk parts told (marks ++ more) place part h
away_more parts told marks more place part h low ok k i u hk lt at waits tu ne = elim (at_append_cases marks more k u hk) [
  | inl old ↦ ok k i u old lt at waits tu ne
  | inr g ↦ absurd (omega (arith, g.1, lt, low))
]

pub away_flag : (parts : List Part) (told : List ℕ) (c : Completed) (marks : List Mark) (place part h : ℕ) → AwayOk parts told marks place part h → AwayOk parts told (flagged c marks) place part h
away_flag parts told c marks place part h ok k i u hk lt at waits tu ne =
    let v = flagging_at c marks k u hk in
    let was : v.was.completed ≡ false = elim (v.flag) [ inl y ↦ absurd (let e : true ≡ false = sym y.1 ∙ waits in cc) | inr n ↦ sym n.1 ∙ waits ] in
    let t = ok k i v.was v.stood lt (sym v.place ∙ at) was (ap (λ (d : Command). touches d h) (sym v.command) ∙ tu) (λ e. ne (v.part ∙ e)) in
    (t.0, ap (numbered parts) v.part ∙ t.1, t.2)

-- ---- more entries

pub quick_push : (parts : List Part) (n : ℕ) (p : Part) (e : Entry) → numbered parts n ≡ Some p → (told : List ℕ) (left : ℕ → ℕ → Left) (marks : List Mark) → QuickKept parts told left marks → QuickKept (pushed parts n p e) told left marks
quick_push parts n p e here told left marks q = record {
  quicks = λ j number h m hm is t. away_push parts n p e here told marks j m.part h (q.quicks j number h m hm is t);
  cuts = λ j number long h m hm is firm. away_push parts n p e here told marks j m.part h (q.cuts j number long h m hm is firm);
  low = q.low;
  numbers = q.numbers;
  once = q.once;
  there = q.there;
  plain = q.plain;
  values = q.values;
}

-- ---- one more is told

pub quick_tell : (parts : List Part) (told : List ℕ) (number : ℕ) (left : ℕ → ℕ → Left) (marks : List Mark) → QuickKept parts told left marks → QuickKept parts (told ++ number ∷ []) left marks
quick_tell parts told number left marks q = record {
  quicks = λ j n h m hm is t. away_tell parts told number marks j m.part h (q.quicks j n h m hm is t);
  cuts = λ j n long h m hm is firm. away_tell parts told number marks j m.part h (q.cuts j n long h m hm is firm);
  low = q.low;
  numbers = q.numbers;
  once = q.once;
  there = q.there;
  plain = q.plain;
  values = q.values;
}

-- ---- more marks at the end

module _ (parts : List Part) (told : List ℕ) (left : ℕ → ℕ → Left) (marks more : List Mark) (no_cut : (k : ℕ) (m : Mark) → At more k m → is_cut m.place ≡ false) where
  was_cut : (j number long : ℕ) (m : Mark) → At (marks ++ more) j m → m.place ≡ Cut number long → At marks j m
  was_cut j number long m h is = elim (at_append_cases marks more j m h) [
    | inl old ↦ old
    | inr g ↦ absurd (let bad : false ≡ true = sym (no_cut g.0 m g.2) ∙ ap is_cut is in cc)
  ]

  cut_low : (j number long : ℕ) (m : Mark) → At (marks ++ more) j m → m.place ≡ Cut number long → j ≤ length marks
  cut_low j number long m h is = let l = at_within marks j m (was_cut j number long m h is) in omega (arith, l)

  no_adoption : (part : ℕ) → adoptions part more ≡ 0
  no_adoption part = ap length (empty_list (filter (cuts_part part) more) (λ m n.
      let f = from_filter (cuts_part part) more m n in
      let bad : false ≡ true = sym (no_cut f.0.0 m f.0.1) ∙ (and_parts (is_cut m.place) (m.part == part) f.1).0 in
      cc))

  -- none of which is that of an adoption; of a quick mark it is known what is away
  pub quick_more : ((k number h : ℕ) (m : Mark) → At more k m → m.place ≡ Quick number → touches m.command h ≡ true → AwayOk parts told (marks ++ more) (length marks + k) m.part h)
      → QuickKept parts told left marks → QuickKept parts told left (marks ++ more)
  quick_more new q = record {
    quicks = λ j number h m hm is t. elim (at_append_cases marks more j m hm) [
      | inl old ↦ let l = at_within marks j m old in away_more parts told marks more j m.part h (omega (arith, l)) (q.quicks j number h m old is t)
      | inr g ↦ subst (λ (i : ℕ). AwayOk parts told (marks ++ more) i m.part h) (sym g.1) (new g.0 number h m g.2 is t)
    ];
    cuts = λ j number long h m hm is firm. away_more parts told marks more j m.part h (cut_low j number long m hm is) (q.cuts j number long h m (was_cut j number long m hm is) is firm);
    low = λ j k i number long m u hm is hk lt at waits same. elim (at_append_cases marks more k u hk) [
      | inl old ↦ q.low j k i number long m u (was_cut j number long m hm is) is old lt at waits same
      | inr g ↦ absurd (let l = at_within marks j m (was_cut j number long m hm is) in omega (arith, g.1, lt, l))
    ];
    numbers = λ j number long m hm is.
        let l = q.numbers j number long m (was_cut j number long m hm is) is in
        let e = adoptions_append m.part marks more in
        omega (arith, l, e);
    once = λ j k number long other m o hj hk ij ik same. q.once j k number long other m o (was_cut j number long m hj ij) (was_cut k number other o hk ik) ij ik same;
    there = λ part number one last.
        let e = adoptions_append part marks more in
        let n = no_adoption part in
        let c = q.there part number one (omega (arith, last, e, n)) in
        record { place = c.place; mark = c.mark; long = c.long; stands = at_append marks more c.place c.mark c.stands; its_part = c.its_part; is_cut = c.is_cut };
    plain = λ k m h c. let p = cut_place m.place c in q.plain k m (was_cut k p.0 p.1 m h p.2) c;
    values = λ j number long m hm is key firm.
        ap (λ (l : List Mark). value key (updates l)) (take-append-le j marks more (cut_low j number long m hm is)) ∙ q.values j number long m (was_cut j number long m hm is) is key firm;
  }

-- ---- the mark of an adoption at the end

module _ (parts : List Part) (told : List ℕ) (left later : ℕ → ℕ → Left) (marks : List Mark) (mark : Mark) (own long : ℕ) (is_own : mark.place ≡ Cut own long)
    (is_plain : mark.completed ≡ false) (its_number : own ≡ adoptions mark.part marks + 1)
    (older : (part number : ℕ) → number ≤ adoptions part marks → later part number ≡ left part number)
    (away : (h : ℕ) → IsFirm (later mark.part own) h → AwayOk parts told marks (length marks) mark.part h)
    (below : (k i : ℕ) (u : Mark) → At marks k u → u.place ≡ Executed i → u.completed ≡ false → u.part ≡ mark.part → i < long)
    (its_value : (key : List ℕ) → IsFirm (later mark.part own) (hash_of key) → value key (updates marks) ≡ store.get (state_of (later mark.part own).prefix).store key) where
  number_of : {n m l k : ℕ} → Cut n l ≡ Cut m k → n ≡ m
  number_of e = cc

  long_of : {n m l k : ℕ} → Cut n l ≡ Cut m k → l ≡ k
  long_of e = cc

  abbrev all : List Mark
  all = marks ++ mark ∷ []

  now_low : (part : ℕ) → adoptions part marks ≤ adoptions part all
  now_low part = let e = adoptions_append part marks (mark ∷ []) in omega (arith, e)

  own_now : own ≤ adoptions mark.part all
  own_now =
      let e = adoptions_append mark.part marks (mark ∷ []) in
      let cuts : cuts_part mark.part mark ≡ true = and_from (is_cut mark.place) (mark.part == mark.part) (ap is_cut is_own) (eq-eqb mark.part mark.part refl) in
      let one : adoptions mark.part (mark ∷ []) ≡ 1 = ap (λ (b : Bool). length (cond b (mark ∷ []) [])) cuts in
      omega (arith, e, one, its_number)

  pub quick_cut : QuickKept parts told left marks → QuickKept parts told later all
  quick_cut q = record {
    quicks = λ j number h m hm is t. elim (at_push_cases marks mark j m hm) [
      | inl old ↦ let l = at_within marks j m old in away_more parts told marks (mark ∷ []) j m.part h (omega (arith, l)) (q.quicks j number h m old is t)
      | inr last ↦ absurd (let bad : true ≡ false = ap is_cut (sym is_own) ∙ ap (λ (y : Mark). is_cut y.place) last.1 ∙ ap is_cut is in cc)
    ];
    cuts = λ j number which h m hm is firm. elim (at_push_cases marks mark j m hm) [
      | inl old ↦
          let l = at_within marks j m old in
          let e = older m.part number (q.numbers j number which m old is) in
          away_more parts told marks (mark ∷ []) j m.part h (omega (arith, l)) (q.cuts j number which h m old is (subst (λ (x : Left). IsFirm x h) e firm))
      | inr last ↦
          let same : mark.part ≡ m.part = ap (λ (y : Mark). y.part) last.1 in
          let n : own ≡ number = number_of (sym is_own ∙ ap (λ (y : Mark). y.place) last.1 ∙ is) in
          let f : IsFirm (later mark.part own) h = subst (λ (x : ℕ). IsFirm (later mark.part x) h) (sym n) (subst (λ (x : ℕ). IsFirm (later x number) h) (sym same) firm) in
          let low : j ≤ length marks = omega (arith, last.0) in
          subst (λ (i : ℕ). AwayOk parts told all i m.part h) (sym last.0) (subst (λ (x : ℕ). AwayOk parts told all (length marks) x h) same
          (away_more parts told marks (mark ∷ []) (length marks) mark.part h (omega arith) (away h f)))
    ];
    low = λ j k i number which m u hm is hk lt at waits same. elim (at_push_cases marks mark k u hk) [
      | inr last ↦ absurd (let bad : true ≡ false = ap is_cut (sym is_own) ∙ ap (λ (y : Mark). is_cut y.place) last.1 ∙ ap is_cut at in cc)
      | inl old ↦ elim (at_push_cases marks mark j m hm) [
        | inl older_cut ↦ q.low j k i number which m u older_cut is old lt at waits same
        | inr new ↦
            let its_part : mark.part ≡ m.part = ap (λ (y : Mark). y.part) new.1 in
            let l : long ≡ which = long_of (sym is_own ∙ ap (λ (y : Mark). y.place) new.1 ∙ is) in
            let b = below k i u old at waits (same ∙ sym its_part) in
            omega (arith, b, l)
      ]
    ];
    numbers = λ j number which m hm is. elim (at_push_cases marks mark j m hm) [
      | inl old ↦ let a = q.numbers j number which m old is in let b = now_low m.part in omega (arith, a, b)
      | inr last ↦
          let same : mark.part ≡ m.part = ap (λ (y : Mark). y.part) last.1 in
          let n : own ≡ number = number_of (sym is_own ∙ ap (λ (y : Mark). y.place) last.1 ∙ is) in
          let l : own ≤ adoptions m.part all = subst (λ (x : ℕ). own ≤ adoptions x all) same own_now in
          omega (arith, l, n)
    ];
    once = λ j k number which other m o hj hk ij ik same. elim (at_push_cases marks mark j m hj) [
      | inl old ↦ elim (at_push_cases marks mark k o hk) [
        | inl too ↦ q.once j k number which other m o old too ij ik same
        | inr last ↦ absurd (new_number o ik last.1 (subst (λ (x : ℕ). number ≤ adoptions x marks) same (q.numbers j number which m old ij)))
      ]
      | inr last ↦ elim (at_push_cases marks mark k o hk) [
        | inl old ↦ absurd (new_number m ij last.1 (subst (λ (x : ℕ). number ≤ adoptions x marks) (sym same) (q.numbers k number other o old ik)))
        | inr too ↦ omega (arith, last.0, too.0)
      ]
    ];
    there = λ part number one last. elim (cases_lt (adoptions part marks) number) [
      | inr ge ↦
          let c = q.there part number one (omega (arith, ge)) in
          record { place = c.place; mark = c.mark; long = c.long; stands = at_append marks (mark ∷ []) c.place c.mark c.stands; its_part = c.its_part; is_cut = c.is_cut }
      | inl past ↦ the_new part number past last (cuts_part part mark) refl
    ];
    plain = λ k m h c. elim (at_push_cases marks mark k m h) [
      | inl old ↦ q.plain k m old c
      | inr last ↦ subst (λ (y : Mark). y.completed ≡ false) last.1 is_plain
    ];
    values = λ j number which m hm is key firm. elim (at_push_cases marks mark j m hm) [
      | inl old ↦
          let l = at_within marks j m old in
          let e = older m.part number (q.numbers j number which m old is) in
          ap (λ (x : List Mark). value key (updates x)) (take-append-le j marks (mark ∷ []) (omega (arith, l))) ∙ q.values j number which m old is key (subst (λ (x : Left). IsFirm x (hash_of key)) e firm)
          ∙ ap (λ (x : Left). store.get (state_of x.prefix).store key) (sym e)
      | inr last ↦
          let same : mark.part ≡ m.part = ap (λ (y : Mark). y.part) last.1 in
          let n : own ≡ number = number_of (sym is_own ∙ ap (λ (y : Mark). y.place) last.1 ∙ is) in
          let e : later mark.part own ≡ later m.part number = λ i. later (same i) (n i) in
          let f : IsFirm (later mark.part own) (hash_of key) = subst (λ (x : Left). IsFirm x (hash_of key)) (sym e) firm in
          ap (λ (x : List Mark). value key (updates x)) (ap (λ (x : ℕ). take x all) last.0 ∙ take-append-le (length marks) marks (mark ∷ []) (omega arith) ∙ take_all (length marks) marks (omega arith))
          ∙ its_value key f ∙ ap (λ (x : Left). store.get (state_of x.prefix).store key) e
    ];
  }
    where
      the_new : (part number : ℕ) → adoptions part marks < number → number ≤ adoptions part all → (b : Bool) → cuts_part part mark ≡ b → CutAt all part number
      the_new part number past last b e =
          let a = adoptions_append part marks (mark ∷ []) in
          let one : adoptions part (mark ∷ []) ≡ length (cond b (mark ∷ []) []) = ap (λ (x : Bool). length (cond x (mark ∷ []) [])) e in
          go b e one a
        where
          go : (b : Bool) → cuts_part part mark ≡ b → adoptions part (mark ∷ []) ≡ length (cond b (mark ∷ []) []) → adoptions part all ≡ adoptions part marks + adoptions part (mark ∷ []) → CutAt all part number
          go false e one a = absurd (let z : adoptions part (mark ∷ []) ≡ 0 = one in omega (arith, past, last, z, a))
          go true e one a =
              let z : adoptions part (mark ∷ []) ≡ 1 = one in
              let same : mark.part ≡ part = eqb-true mark.part part (and_parts (is_cut mark.place) (mark.part == part) e).1 in
              let n : own ≡ adoptions part marks + 1 = subst (λ (x : ℕ). own ≡ adoptions x marks + 1) same its_number in
              let is : own ≡ number = omega (arith, past, last, z, a, n) in
              record {
                place = length marks;
                mark = mark;
                long = long;
                stands = at_push marks mark (length marks) refl;
                its_part = same;
                is_cut = is_own ∙ ap (λ (x : ℕ). Cut x long) is;
              }

      new_number : {number which : ℕ} (m : Mark) → m.place ≡ Cut number which → mark ≡ m → number ≤ adoptions m.part marks → ⊥
      new_number {number} m is same low =
          let n : own ≡ number = number_of (sym is_own ∙ ap (λ (y : Mark). y.place) same ∙ is) in
          let l : number ≤ adoptions mark.part marks = subst (λ (x : ℕ). number ≤ adoptions x marks) (sym (ap (λ (y : Mark). y.part) same)) low in
          omega (arith, n, l, its_number)

-- ---- flags

pub quick_flag : (parts : List Part) (told : List ℕ) (left : ℕ → ℕ → Left) (c : Completed) (marks : List Mark) → ((k : ℕ) (m : Mark) → At marks k m → is_cut m.place ≡ true → is_flagged c c.by m ≡ true → ⊥) → QuickKept parts told left marks → QuickKept parts told left (flagged c marks)
quick_flag parts told left c marks no_cut q = record {
  quicks = λ j number h m hm is t.
      let w = flagging_at c marks j m hm in
      away_flag parts told c marks j m.part h (subst (λ (x : ℕ). AwayOk parts told marks j x h) (sym w.part) (q.quicks j number h w.was w.stood (sym w.place ∙ is) (ap (λ (d : Command). touches d h) (sym w.command) ∙ t)));
  cuts = λ j number long h m hm is firm.
      let w = flagging_at c marks j m hm in
      away_flag parts told c marks j m.part h (subst (λ (x : ℕ). AwayOk parts told marks j x h) (sym w.part) (q.cuts j number long h w.was w.stood (sym w.place ∙ is) (subst (λ (x : ℕ). IsFirm (left x number) h) w.part firm)));
  low = λ j k i number long m u hm is hk lt at waits same.
      let w = flagging_at c marks j m hm in
      let v = flagging_at c marks k u hk in
      let was : v.was.completed ≡ false = elim (v.flag) [ inl y ↦ absurd (let e : true ≡ false = sym y.1 ∙ waits in cc) | inr n ↦ sym n.1 ∙ waits ] in
      q.low j k i number long w.was v.was w.stood (sym w.place ∙ is) v.stood lt (sym v.place ∙ at) was (sym v.part ∙ same ∙ w.part);
  numbers = λ j number long m hm is.
      let w = flagging_at c marks j m hm in
      let l = q.numbers j number long w.was w.stood (sym w.place ∙ is) in
      let l2 : number ≤ adoptions m.part marks = subst (λ (x : ℕ). number ≤ adoptions x marks) (sym w.part) l in
      let e = adoptions_flagged m.part c marks in
      omega (arith, l2, e);
  once = λ j k number long other m o hj hk ij ik same.
      let w = flagging_at c marks j m hj in
      let v = flagging_at c marks k o hk in
      q.once j k number long other w.was v.was w.stood v.stood (sym w.place ∙ ij) (sym v.place ∙ ik) (sym w.part ∙ same ∙ v.part);
  there = λ part number one last.
      let e = adoptions_flagged part c marks in
      let k = q.there part number one (omega (arith, last, e)) in
      let at : At (flagged c marks) k.place (cond (is_flagged c c.by k.mark) (record k.mark { completed = true }) k.mark) = at_map (λ (o : Mark). cond (is_flagged c c.by o) (record o { completed = true }) o) marks k.place k.mark k.stands in
      let n : is_flagged c c.by k.mark ≡ false = not_hit k.place k.mark k.stands (ap is_cut k.is_cut) in
      record { place = k.place; mark = k.mark; long = k.long; stands = subst (λ (b : Bool). At (flagged c marks) k.place (cond b (record k.mark { completed = true }) k.mark)) n at; its_part = k.its_part; is_cut = k.is_cut };
  plain = λ k m h is.
      let w = flagging_at c marks k m h in
      let its : is_cut w.was.place ≡ true = ap is_cut (sym w.place) ∙ is in
      elim (w.flag) [ inl y ↦ absurd (no_cut k w.was w.stood its y.0) | inr n ↦ n.1 ∙ q.plain k w.was w.stood its ];
  values = λ j number long m hm is key firm.
      let w = flagging_at c marks j m hm in
      let same : updates (take j (flagged c marks)) ≡ updates (take j marks) = ap updates (take_map (λ (m : Mark). cond (is_flagged c c.by m) (record m { completed = true }) m) j marks) ∙ flagged_order c (take j marks) in
      ap (value key) same ∙ q.values j number long w.was w.stood (sym w.place ∙ is) key (subst (λ (x : ℕ). IsFirm (left x number) (hash_of key)) w.part firm)
      ∙ ap (λ (x : ℕ). store.get (state_of (left x number).prefix).store key) (sym w.part);
}
  where
    not_hit : (k : ℕ) (m : Mark) → At marks k m → is_cut m.place ≡ true → is_flagged c c.by m ≡ false
    not_hit k m h is = elim (cases_Bool (is_flagged c c.by m)) [ inl y ↦ absurd (no_cut k m h is y) | inr n ↦ n ]

-- ---- a superseded log grows

longer_is : (left : ℕ → ℕ → Left) (part number : ℕ) (more : List Entry) (p n h : ℕ) → IsFirm (longer_left left part number more p n) h → IsFirm (left p n) h × ((longer_left left part number more p n).prefix ≡ (left p n).prefix)
longer_is left part number more p n h firm = go ((p == part) && (n == number)) refl firm
  where
    go : (b : Bool) → ((p == part) && (n == number)) ≡ b → IsFirm (cond b (record (left part number) { back = (left part number).back ++ more }) (left p n)) h
        → IsFirm (left p n) h × ((cond b (record (left part number) { back = (left part number).back ++ more }) (left p n)).prefix ≡ (left p n).prefix)
    go true e f =
        let c = and_parts (p == part) (n == number) e in
        let same : left part number ≡ left p n = λ i. left (sym (eqb-true p part c.0) i) (sym (eqb-true n number c.1) i) in
        let less : list_any (λ (x : Entry). entry_touches x h) (left part number).back ≡ false =
        (or_parts _ _ (sym (list_any-append (λ (x : Entry). entry_touches x h) (left part number).back more) ∙ f.quiet)).0 in
        (subst (λ (x : Left). IsFirm x h) same (record { owned = f.owned; quiet = less }), ap (λ (x : Left). x.prefix) same)
    go false e f = (f, refl)

pub quick_stray : (parts : List Part) (told : List ℕ) (left : ℕ → ℕ → Left) (marks : List Mark) (part number : ℕ) (more : List Entry) → QuickKept parts told left marks → QuickKept parts told (longer_left left part number more) marks
quick_stray parts told left marks part number more q = record {
  quicks = q.quicks;
  cuts = λ j n long h m hm is firm. q.cuts j n long h m hm is (longer_is left part number more m.part n h firm).0;
  low = q.low;
  numbers = q.numbers;
  once = q.once;
  there = q.there;
  plain = q.plain;
  values = λ j n long m hm is key firm.
      let f = longer_is left part number more m.part n (hash_of key) firm in
      q.values j n long m hm is key f.0 ∙ ap (λ (x : Part). store.get (state_of x).store key) (sym f.1);
}

-- ---- a quick mark between others

module _ (parts : List Part) (told : List ℕ) (left : ℕ → ℕ → Left) (marks : List Mark) (mark : Mark) (number : ℕ) (is_own : mark.place ≡ Quick number) (c : ℕ) (low : c ≤ length marks) where
  no_update : is_update_mark mark.place ≡ false
  no_update = ap is_update_mark is_own

  no_cut : is_cut mark.place ≡ false
  no_cut = ap is_cut is_own

  was_at : (j i : ℕ) (m : Mark) → At (put_before c mark marks) j m → m.place ≡ Executed i → (k : ℕ) × Was c j k × At marks k m
  was_at j i m h is = elim (put_cases mark c marks j m h) [
    | inl old ↦ old
    | inr new ↦ absurd (let bad : false ≡ true = sym no_update ∙ ap (λ (y : Mark). is_update_mark y.place) new.0 ∙ ap is_update_mark is in cc)
  ]

  cut_at : (j n long : ℕ) (m : Mark) → At (put_before c mark marks) j m → m.place ≡ Cut n long → (k : ℕ) × Was c j k × At marks k m
  cut_at j n long m h is = elim (put_cases mark c marks j m h) [
    | inl old ↦ old
    | inr new ↦ absurd (let bad : false ≡ true = sym no_cut ∙ ap (λ (y : Mark). is_cut y.place) new.0 ∙ ap is_cut is in cc)
  ]

  away_put : (j k part h : ℕ) → Was c j k → AwayOk parts told marks k part h → AwayOk parts told (put_before c mark marks) j part h
  away_put j k part h w ok l i u hu lt at waits tu ne =
      let v = was_at l i u hu at in
      ok v.0 i u v.2 (was_order c l j v.0 k v.1 w lt) at waits tu ne

  away_here : (j part h : ℕ) → j ≤ c → AwayOk parts told marks c part h → AwayOk parts told (put_before c mark marks) j part h
  away_here j part h le ok l i u hu lt at waits tu ne =
      let v = was_at l i u hu at in
      ok v.0 i u v.2 (was_low c l v.0 v.1 (omega (arith, lt, le))) at waits tu ne

  same_adoptions : (part : ℕ) → adoptions part (put_before c mark marks) ≡ adoptions part marks
  same_adoptions part = ap length (put_filter mark (cuts_part part) (ap (λ (b : Bool). b && (mark.part == part)) no_cut) c marks)

  pub quick_put : ((h : ℕ) → touches mark.command h ≡ true → AwayOk parts told marks c mark.part h) → QuickKept parts told left marks → QuickKept parts told left (put_before c mark marks)
  quick_put new q = record {
    quicks = λ j n h m hm is t. elim (put_cases mark c marks j m hm) [
      | inl old ↦ away_put j old.0 m.part h old.1 (q.quicks old.0 n h m old.2 is t)
      | inr here ↦
          subst (λ (x : ℕ). AwayOk parts told (put_before c mark marks) j x h) (ap (λ (y : Mark). y.part) here.0)
          (away_here j mark.part h here.1 (new h (ap (λ (y : Mark). touches y.command h) here.0 ∙ t)))
    ];
    cuts = λ j n long h m hm is firm. let w = cut_at j n long m hm is in away_put j w.0 m.part h w.1 (q.cuts w.0 n long h m w.2 is firm);
    low = λ j k i n long m u hm is hk lt at waits same.
        let w = cut_at j n long m hm is in
        let v = was_at k i u hk at in
        q.low w.0 v.0 i n long m u w.2 is v.2 (was_order c k j v.0 w.0 v.1 w.1 lt) at waits same;
    numbers = λ j n long m hm is. let w = cut_at j n long m hm is in let l = q.numbers w.0 n long m w.2 is in let e = same_adoptions m.part in omega (arith, l, e);
    once = λ j k n long other m o hj hk ij ik same.
        let w = cut_at j n long m hj ij in
        let v = cut_at k n other o hk ik in
        was_same c j k w.0 v.0 w.1 v.1 (q.once w.0 v.0 n long other m o w.2 v.2 ij ik same);
    there = λ part n one last.
        let e = same_adoptions part in
        let k = q.there part n one (omega (arith, last, e)) in
        let w = put_stands mark c marks k.place k.mark low k.stands in
        record { place = w.0; mark = k.mark; long = k.long; stands = w.2; its_part = k.its_part; is_cut = k.is_cut };
    plain = λ k m h is. let p = cut_place m.place is in let w = cut_at k p.0 p.1 m h p.2 in q.plain w.0 m w.2 is;
    values = λ j n long m hm is key firm.
        let w = cut_at j n long m hm is in
        ap (λ (l : List Mark). value key (map asked l)) (put_prefix mark c j w.0 w.1 marks (λ (m : Mark). is_update_mark m.place) no_update) ∙ q.values w.0 n long m w.2 is key firm;
  }
