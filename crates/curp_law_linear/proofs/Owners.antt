-- Who owns a hash, as the moves go on.
use Rattle.std.proofs.Common.{◌≡◌, ℕ, inl, inr, ◌⊎◌, true, false, List, [], ◌∷◌, ◌++◌, Option, Some, None, refl, ap, sym, ◌∙◌, subst}
use Rattle.std.specs.List.{list_any}
use Rattle.std.proofs.lemmas.Bool.{and_from, and_parts, cases_Bool, eq-eqb}
use Rattle.curp_base.specs.Words.{numbered}
use Rattle.curp_range.specs.Spans.{Span, is_in, is_owned, without}
use Rattle.curp_range.proofs.Tests.{covers_if_covered}
use Rattle.curp_cmd.specs.declared.entry.Entry.{Entry}
use Rattle.curp_cmd.specs.declared.entry.Entry.TheVariants.{Give, Take}
use Rattle.curp_model.specs.Manager.{Migration}
use Rattle.curp_law_linear.specs.Hashes.{Part, has_take, is_give, is_take, owns, state_of}
use Rattle.curp_law_linear.specs.Line.{LineState, Owned}
use Rattle.curp_law_linear.specs.Moves.{MigrateFits, PushGive, PushGiveFits, PushTake, PushTakeFits, pushed, taken_by}
use Rattle.curp_law_linear.proofs.Hashes.{any_push, has_take_push}
use Rattle.curp_law_linear.proofs.Lists.{in_any, in_head, in_right, some_same}
use Rattle.curp_law_linear.proofs.Pushes as pushes
use Rattle.curp_law_linear.proofs.Spans.{owned_give, without_out, without_owned}
use Rattle.curp_law_linear.proofs.Takes.{owned_take}

-- ---- an entry that takes and gives nothing

-- what a part was
pub record Was (moving : Option Migration) (parts : List Part) (k : ℕ) (q : Part) : Type 0 where
  pub old : Part
  pub here : numbered parts k ≡ Some old
  pub owns_same : (h : ℕ) → owns q h ≡ owns old h
  pub take_same : (h : ℕ) → has_take moving h q.log ≡ has_take moving h old.log
  pub takes_same : (number : ℕ) → list_any (is_take number) q.log ≡ list_any (is_take number) old.log
  pub gives_same : (number : ℕ) → list_any (is_give number) q.log ≡ list_any (is_give number) old.log

-- who owns what stays where nobody owns, takes or gives anything new
pub owned_alike : (moving : Option Migration) (parts after : List Part) → ((k : ℕ) (q : Part) → numbered after k ≡ Some q → Was moving parts k q) → Owned moving parts → Owned moving after
owned_alike moving parts after was ok = record {
  one = λ n k p q h hn hk a b. let v = was n p hn in let w = was k q hk in ok.one n k v.old w.old h v.here w.here (sym (v.owns_same h) ∙ a) (sym (w.owns_same h) ∙ b);
  gone = λ n p h hn a t. let v = was n p hn in ok.gone n v.old h v.here (sym (v.owns_same h) ∙ a) (sym (v.take_same h) ∙ t);
  moved = λ n k p q h m is hn hk a t.
      let v = was n p hn in
      let w = was k q hk in
      let f = ok.moved n k v.old w.old h m is v.here w.here (sym (v.owns_same h) ∙ a) (sym (w.take_same h) ∙ t) in
      (f.0, v.gives_same m.number ∙ f.1);
  source = λ n p m is hn t. let v = was n p hn in ok.source n v.old m is v.here (sym (v.takes_same m.number) ∙ t);
  target = λ n p m is hn t. let v = was n p hn in ok.target n v.old m is v.here (sym (v.gives_same m.number) ∙ t);
  apart = ok.apart;
}

-- one more entry that neither takes nor gives
pub push_was : (moving : Option Migration) (parts : List Part) (n : ℕ) (p : Part) (e : Entry) → numbered parts n ≡ Some p → ((h : ℕ) → owns (record p { log = p.log ++ e ∷ [] }) h ≡ owns p h)
    → ((number : ℕ) → is_take number e ≡ false) → ((number : ℕ) → is_give number e ≡ false) → (k : ℕ) (q : Part) → numbered (pushed parts n p e) k ≡ Some q → Was moving parts k q
push_was moving parts n p e here same no_take no_give k q hk = elim (pushes.cases parts n p e here k q hk) [
  | inl old ↦ record { old = q; here = old.1; owns_same = λ h. refl; take_same = λ h. refl; takes_same = λ number. refl; gives_same = λ number. refl }
  | inr new ↦ subst (Was moving parts k) new.1 (record {
    old = p;
    here = subst (λ (j : ℕ). numbered parts j ≡ Some p) (sym new.0) here;
    owns_same = same;
    take_same = λ h. has_take_push moving h p.log e no_take;
    takes_same = λ number. any_push (is_take number) p.log e (no_take number);
    gives_same = λ number. any_push (is_give number) p.log e (no_give number);
  })
]

-- ---- the take

module _ (s : LineState) (ok : Owned (s.moving) s.parts) (o : PushTake) (fits : PushTakeFits s o) where
  abbrev p : Part
  p = o.p

  abbrev e : Entry
  e = Take o.m.number (taken_by o)

  abbrev after : List Part
  after = pushed s.parts o.part o.p (Take o.m.number (taken_by o))

  own_before : (k : ℕ) (q : Part) (h : ℕ) → numbered after k ≡ Some q → owns q h ≡ true → (y : Part) × (numbered s.parts k ≡ Some y) × (owns y h ≡ true) × ((k ≡ o.part) → is_in o.m.range.lo o.m.range.hi h ≡ true → ⊥)
  own_before k q h hk own = elim (pushes.cases s.parts o.part p e fits.here k q hk) [
    | inl old ↦ (q, old.1, own, λ same. absurd (old.0 same))
    | inr new ↦
        let now : is_owned (without (state_of p).owned o.m.range.lo o.m.range.hi) h ≡ true =
        sym (ap (λ (spans : List Span). is_owned spans h) (owned_take p.lo p.hi p.log o.m.number (taken_by o))) ∙ subst (λ (y : Part). owns y h ≡ true) (sym new.1) own in (
          p,
          subst (λ (j : ℕ). numbered s.parts j ≡ Some p) (sym new.0) fits.here,
          without_owned (state_of p).owned o.m.range.lo o.m.range.hi h now,
          λ same inside. without_out (state_of p).owned o.m.range.lo o.m.range.hi h inside now,
        )
  ]

  take_at : (k : ℕ) (q : Part) (h : ℕ) → numbered after k ≡ Some q → has_take s.moving h q.log ≡ true → (k ≡ o.part) × (is_in o.m.range.lo o.m.range.hi h ≡ true)
  take_at k q h hk t =
      let c = and_parts (is_in o.m.range.lo o.m.range.hi h) (list_any (is_take o.m.number) q.log) (subst (λ (mv : Option Migration). has_take mv h q.log ≡ true) fits.in_work t) in
      elim (pushes.cases s.parts o.part p e fits.here k q hk) [
        | inl old ↦ absurd (old.0 (ok.source k q o.m fits.in_work old.1 c.1 ∙ fits.its_source))
        | inr new ↦ (new.0, c.0)
      ]

  none_given : (k : ℕ) (q : Part) → numbered after k ≡ Some q → list_any (is_give o.m.number) q.log ≡ false
  none_given k q hk = elim (pushes.cases s.parts o.part p e fits.here k q hk) [
    | inl old ↦ fits.ungiven k q old.1
    | inr new ↦ subst (λ (y : Part). list_any (is_give o.m.number) y.log ≡ false) new.1 (any_push (is_give o.m.number) p.log e refl ∙ fits.ungiven o.part p fits.here)
  ]

  -- a take keeps who owns what
  pub take_owned : Owned s.moving after
  take_owned = record {
    one = λ n k x y h hn hk a b. let v = own_before n x h hn a in let w = own_before k y h hk b in ok.one n k v.0 w.0 h v.1 w.1 v.2 w.2;
    gone = λ n x h hn a t. let v = own_before n x h hn a in let w = take_at n x h hn t in v.3 w.0 w.1;
    moved = λ n k x y h m is hn hk a t.
        let v = own_before n x h hn a in
        let w = take_at k y h hk t in
        let mine : owns p h ≡ true = covers_if_covered (state_of p).owned o.m.range.lo o.m.range.hi fits.covered h w.1 in
        absurd (v.3 (ok.one n o.part v.0 p h v.1 fits.here v.2 mine) w.1);
    source = λ n x m is hn t.
        let same : o.m ≡ m = some_same (sym fits.in_work ∙ is) in
        elim (pushes.cases s.parts o.part p e fits.here n x hn) [
          | inl old ↦ ok.source n x m is old.1 t
          | inr new ↦ new.0 ∙ sym fits.its_source ∙ ap (λ (z : Migration). z.source) same
        ];
    target = λ n x m is hn t.
        let same : o.m ≡ m = some_same (sym fits.in_work ∙ is) in
        let none : list_any (is_give m.number) x.log ≡ false = subst (λ (z : Migration). list_any (is_give z.number) x.log ≡ false) same (none_given n x hn) in
        absurd (let bad : true ≡ false = sym t ∙ none in cc);
    apart = ok.apart;
  }

-- ---- the give

module _ (s : LineState) (ok : Owned s.moving s.parts) (o : PushGive) (fits : PushGiveFits s o) where
  abbrev p2 : Part
  p2 = o.p

  abbrev e2 : Entry
  e2 = Give o.m.number o.brought

  abbrev after2 : List Part
  after2 = pushed s.parts o.part o.p (Give o.m.number o.brought)

  source_takes : (h : ℕ) → is_in o.m.range.lo o.m.range.hi h ≡ true → has_take s.moving h fits.way.source.log ≡ true
  source_takes h inside =
      let taken : list_any (is_take o.m.number) fits.way.source.log ≡ true =
      ap (list_any (is_take o.m.number)) fits.way.taken ∙ in_any (is_take o.m.number) _ (Take o.m.number o.brought) (in_right fits.way.before (Take o.m.number o.brought ∷ fits.way.after) _ (in_head _ fits.way.after)) (eq-eqb o.m.number o.m.number refl) in
      subst (λ (mv : Option Migration). has_take mv h fits.way.source.log ≡ true) (sym fits.in_work) (and_from _ _ inside taken)

  nobody : (h : ℕ) → is_in o.m.range.lo o.m.range.hi h ≡ true → (k : ℕ) (q : Part) → numbered s.parts k ≡ Some q → owns q h ≡ true → ⊥
  nobody h inside k q hk own =
      let f = ok.moved k o.m.source q fits.way.source h o.m fits.in_work hk fits.way.its_source own (source_takes h inside) in
      let bad : true ≡ false = sym f.1 ∙ fits.way.ungiven k q hk in
      cc

  own_now : (k : ℕ) (q : Part) (h : ℕ) → numbered after2 k ≡ Some q → owns q h ≡ true
      → ((is_in o.m.range.lo o.m.range.hi h ≡ true) × (k ≡ o.part)) ⊎ ((y : Part) × (numbered s.parts k ≡ Some y) × (owns y h ≡ true))
  own_now k q h hk own = elim (pushes.cases s.parts o.part p2 e2 fits.here k q hk) [
    | inl old ↦ inr (q, old.1, own)
    | inr new ↦ elim (cases_Bool (is_in o.m.range.lo o.m.range.hi h)) [
      | inl y ↦ inl (y, new.0)
      | inr out ↦
          let off : is_in o.brought.lo o.brought.hi h ≡ false = (λ i. is_in (fits.way.lo i) (fits.way.hi i) h) ∙ out in
          inr (
            p2,
            subst (λ (j : ℕ). numbered s.parts j ≡ Some p2) (sym new.0) fits.here,
            owned_give p2 o.m.number o.brought h (subst (λ (y : Part). owns y h ≡ true) (sym new.1) own) off,
          )
    ]
  ]

  -- the takes are those before
  take_was : (k : ℕ) (q : Part) → numbered after2 k ≡ Some q → (y : Part) × (numbered s.parts k ≡ Some y) × ((number : ℕ) → list_any (is_take number) q.log ≡ list_any (is_take number) y.log) × ((h : ℕ) → has_take s.moving h q.log ≡ has_take s.moving h y.log)
  take_was k q hk = elim (pushes.cases s.parts o.part p2 e2 fits.here k q hk) [
    | inl old ↦ (q, old.1, λ number. refl, λ h. refl)
    | inr new ↦ (
      p2,
      subst (λ (j : ℕ). numbered s.parts j ≡ Some p2) (sym new.0) fits.here,
      λ number. subst (λ (y : Part). list_any (is_take number) y.log ≡ list_any (is_take number) p2.log) new.1 (any_push (is_take number) p2.log e2 refl),
      λ h. subst (λ (y : Part). has_take s.moving h y.log ≡ has_take s.moving h p2.log) new.1 (has_take_push s.moving h p2.log e2 (λ number. refl)),
    )
  ]

  give_at : (k : ℕ) (q : Part) → numbered after2 k ≡ Some q → k ≡ o.part → list_any (is_give o.m.number) q.log ≡ true
  give_at k q hk same = elim (pushes.cases s.parts o.part p2 e2 fits.here k q hk) [
    | inl old ↦ absurd (old.0 same)
    | inr new ↦ subst (λ (y : Part). list_any (is_give o.m.number) y.log ≡ true) new.1 (in_any (is_give o.m.number) (p2.log ++ e2 ∷ []) e2 (in_right p2.log (e2 ∷ []) e2 (in_head e2 [])) (eq-eqb o.m.number o.m.number refl))
  ]

  -- a give keeps who owns what
  pub give_owned : Owned s.moving after2
  give_owned = record {
    one = λ n k x y h hn hk a b. elim (own_now n x h hn a) [
      | inl v ↦ elim (own_now k y h hk b) [
        | inl w ↦ v.1 ∙ sym w.1
        | inr w ↦ absurd (nobody h v.0 k w.0 w.1 w.2)
      ]
      | inr v ↦ elim (own_now k y h hk b) [
        | inl w ↦ absurd (nobody h w.0 n v.0 v.1 v.2)
        | inr w ↦ ok.one n k v.0 w.0 h v.1 w.1 v.2 w.2
      ]
    ];
    gone = λ n x h hn a t.
        let tw = take_was n x hn in
        let t0 : has_take s.moving h tw.0.log ≡ true = sym (tw.3 h) ∙ t in
        elim (own_now n x h hn a) [
          | inr v ↦ ok.gone n v.0 h v.1 v.2 (subst (λ (y : Part). has_take s.moving h y.log ≡ true) (some_same (sym tw.1 ∙ v.1)) t0)
          | inl v ↦
              let c = and_parts (is_in o.m.range.lo o.m.range.hi h) (list_any (is_take o.m.number) tw.0.log) (subst (λ (mv : Option Migration). has_take mv h tw.0.log ≡ true) fits.in_work t0) in
              fits.other (sym (ok.source n tw.0 o.m fits.in_work tw.1 c.1) ∙ v.1 ∙ sym fits.its_target)
        ];
    moved = λ n k x y h m is hn hk a t.
        let same : o.m ≡ m = some_same (sym fits.in_work ∙ is) in
        let tw = take_was k y hk in
        let t0 : has_take s.moving h tw.0.log ≡ true = sym (tw.3 h) ∙ t in
        elim (own_now n x h hn a) [
          | inl v ↦ subst (λ (z : Migration). (n ≡ z.target) × (list_any (is_give z.number) x.log ≡ true)) same (v.1 ∙ sym fits.its_target, give_at n x hn v.1)
          | inr v ↦
              let f = ok.moved n k v.0 tw.0 h o.m fits.in_work v.1 tw.1 v.2 t0 in
              absurd (let bad : true ≡ false = sym f.1 ∙ fits.way.ungiven n v.0 v.1 in cc)
        ];
    source = λ n x m is hn t. let tw = take_was n x hn in ok.source n tw.0 m is tw.1 (sym (tw.2 m.number) ∙ t);
    target = λ n x m is hn t.
        let same : o.m ≡ m = some_same (sym fits.in_work ∙ is) in
        elim (pushes.cases s.parts o.part p2 e2 fits.here n x hn) [
          | inl old ↦ absurd (let bad : true ≡ false = sym t ∙ ap (λ (z : Migration). list_any (is_give z.number) x.log) (sym same) ∙ fits.way.ungiven n x old.1 in cc)
          | inr new ↦ new.0 ∙ sym fits.its_target ∙ ap (λ (z : Migration). z.target) same
        ];
    apart = ok.apart;
  }

-- ---- a migration's beginning and end

-- the end of a migration keeps it
pub given_owned : (moving : Option Migration) (parts : List Part) → Owned moving parts → Owned None parts
given_owned moving parts ok = record {
  one = ok.one;
  gone = λ n p h hn a t. absurd cc;
  moved = λ n k p q h m is hn hk a t. absurd cc;
  source = λ n p m is hn t. absurd cc;
  target = λ n p m is hn t. absurd cc;
  apart = λ m is same. absurd cc;
}

-- its beginning keeps it
pub migrate_owned : (s : LineState) (m : Migration) → Owned s.moving s.parts → MigrateFits s m → Owned (Some m) s.parts
migrate_owned s m ok fits = record {
  one = ok.one;
  gone = λ n p h hn a t. untaken n p h hn t;
  moved = λ n k p q h x is hn hk a t. absurd (untaken k q h hk t);
  source = λ n p x is hn t. absurd (let same : m ≡ x = some_same is in let bad : true ≡ false = sym t ∙ ap (λ (z : Migration). list_any (is_take z.number) p.log) (sym same) ∙ fits.untaken n p hn in cc);
  target = λ n p x is hn t. absurd (let same : m ≡ x = some_same is in let bad : true ≡ false = sym t ∙ ap (λ (z : Migration). list_any (is_give z.number) p.log) (sym same) ∙ fits.ungiven n p hn in cc);
  apart = λ x is same. let eq : m ≡ x = some_same is in fits.other (subst (λ (z : Migration). z.source ≡ z.target) (sym eq) same);
}
  where
    untaken : (n : ℕ) (p : Part) (h : ℕ) → numbered s.parts n ≡ Some p → has_take (Some m) h p.log ≡ true → ⊥
    untaken n p h hn t =
        let c = and_parts (is_in m.range.lo m.range.hi h) (list_any (is_take m.number) p.log) t in
        let bad : true ≡ false = sym c.1 ∙ fits.untaken n p hn in
        cc
