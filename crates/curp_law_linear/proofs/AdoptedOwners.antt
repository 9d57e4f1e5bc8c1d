-- Who owns a hash after an adoption; and what is replayed is answered as it would be alone.
use Rattle.std.proofs.Common.{◌≡◌, ◌≢◌, ℕ, ◌+◌, ◌||◌, inl, inr, ◌⊎◌, Bool, true, false, List, [], ◌∷◌, ◌++◌, take, length, Option, Some, refl, ap, sym, ◌∙◌, subst, arith}
use Rattle.std.proofs.Math.Bool.{or-false}
use Rattle.std.specs.List.{AllByRecursion, IsDistinct, list_any}
use Rattle.std.proofs.lemmas.Bool.{and_from, and_parts, cases_Bool, eq-eqb, or_cases, or_left, or_right}
use Rattle.std.proofs.lemmas.List.Folds.{list_any-append}
use Rattle.curp_base.specs.Words.{At, numbered}
use Rattle.curp_base.proofs.Lists.{at_append, at_append_right, at_within}
use Rattle.curp_range.specs.Spans.{Span, is_in, is_owned}
use Rattle.curp_cmd.specs.Hash.{conflicts}
use Rattle.curp_cmd.specs.Store.{Contents, applied}
use Rattle.curp_cmd.specs.declared.command.Command.{Command}
use Rattle.curp_cmd.specs.declared.command.Request.{Request}
use Rattle.curp_cmd.specs.declared.entry.Entry.{Entry}
use Rattle.curp_cmd.specs.declared.entry.Entry.TheVariants.{Expire, Give, Op, Take}
use Rattle.curp_model.specs.Laws.{clash}
use Rattle.curp_model.specs.Log.{answer_after, meaning}
use Rattle.curp_model.specs.Manager.{Migration}
use Rattle.curp_model.proofs.Clashes.{prefix_apart}
use Rattle.curp_model.proofs.Replays.{log_stored, stored, take_ops}
use Rattle.curp_law_kept.specs.Hashes.{NoGive, gives}
use Rattle.curp_law_linear.specs.Hashes.{Part, has_take, is_give, is_take, owns}
use Rattle.curp_law_linear.specs.Line.{LineState, Owned, Ungiven}
use Rattle.curp_law_linear.specs.Moves.{Adopt, AdoptFits, OnlyMoving, ops, relogged, replayed_of}
use Rattle.curp_law_linear.proofs.Entries.{take_entry}
use Rattle.curp_law_linear.proofs.Given.{TakesOnce}
use Rattle.curp_law_linear.proofs.Lines.{has_moving}
use Rattle.curp_law_linear.proofs.Lists.{in_any, some_same}
use Rattle.curp_base.proofs.Numbered.{any_at, numbered_set_cases}
use Rattle.curp_law_linear.proofs.Requests.{ops_any, owned_ops}
use Rattle.curp_law_linear.proofs.Spans.{owned_after, takes}

-- a take stands once in a log
module _ (s : LineState) (ok : Owned s.moving s.parts) (o : Adopt) (fits : AdoptFits s o) (takes_once : TakesOnce o.p.log) where
  abbrev p : Part
  p = o.p

  abbrev P : List Entry
  P = o.stays

  abbrev T : List Entry
  T = o.goes

  abbrev Q : List Request
  Q = replayed_of o

  abbrev new : Part
  new = record o.p { log = o.stays ++ ops (replayed_of o) }

  abbrev after : List Part
  after = relogged s.parts o.part o.p (o.stays ++ ops (replayed_of o))

  any_new : (q : Entry → Bool) → ((r : Request) → q (Op r 0) ≡ false) → list_any q new.log ≡ list_any q P
  any_new q none = list_any-append q P (ops Q) ∙ ap (λ (b : Bool). list_any q P || b) (ops_any q none Q) ∙ or-false _

  any_old : (q : Entry → Bool) → list_any q p.log ≡ (list_any q P || list_any q T)
  any_old q = ap (list_any q) fits.is ∙ list_any-append q P T

  owns_new : (h : ℕ) → owns new h ≡ is_owned (meaning p.lo p.hi P).owned h
  owns_new h = ap (λ (spans : List Span). is_owned spans h) (owned_ops p.lo p.hi P Q)

  no_give : (h : ℕ) → owns new h ≡ true → NoGive h T
  no_give h own = elim (cases_Bool (list_any (gives h) T)) [
    | inl y ↦ absurd (let bad : true ≡ false = sym (sym (owns_new h) ∙ own) ∙ fits.unowned h y in cc)
    | inr n ↦ n
  ]

  -- the migration in work, where its take goes
  gone_take : (h : ℕ) → list_any (takes h) T ≡ true → (m : Migration) × (s.moving ≡ Some m) × Ungiven s.parts m.number × (is_in m.range.lo m.range.hi h ≡ true) × (list_any (is_take m.number) T ≡ true)
  gone_take h y =
      let w = any_at (takes h) T y in
      at_entry w.0 w.1 w.2 w.3 (fits.moving w.0 w.1 w.2)
    where
      at_entry : (k : ℕ) (e : Entry) → At T k e → takes h e ≡ true → OnlyMoving s e
          → (m : Migration) × (s.moving ≡ Some m) × Ungiven s.parts m.number × (is_in m.range.lo m.range.hi h ≡ true) × (list_any (is_take m.number) T ≡ true)
      at_entry k (Op r a) at t only = absurd cc
      at_entry k (Take n b) at t only = (
        only.0,
        only.1,
        subst (Ungiven s.parts) (sym only.2) only.3,
        (λ i. is_in (sym only.4 i) (sym only.5 i) h) ∙ t,
        in_any (is_take only.0.number) T (Take n b) (k, at) (eq-eqb n only.0.number (sym only.2)),
      )
      at_entry k (Give n b) at t only = absurd cc
      at_entry k (Expire c) at t only = absurd cc

  -- what it owns now it owned, or the take of the migration in work goes
  owned_or_gone : (h : ℕ) → owns new h ≡ true → (owns p h ≡ true) ⊎ ((m : Migration) × (s.moving ≡ Some m) × Ungiven s.parts m.number × (is_in m.range.lo m.range.hi h ≡ true) × (list_any (is_take m.number) T ≡ true))
  owned_or_gone h own = elim (cases_Bool (list_any (takes h) T)) [
    | inl y ↦ inr (gone_take h y)
    | inr n ↦ inl (ap (λ (es : List Entry). is_owned (meaning p.lo p.hi es).owned h) fits.is ∙ owned_after p.lo p.hi h P T (sym (owns_new h) ∙ own) n)
  ]

  has_now : (m : Migration) (h : ℕ) → s.moving ≡ Some m → is_in m.range.lo m.range.hi h ≡ true → list_any (is_take m.number) p.log ≡ true → has_take s.moving h p.log ≡ true
  has_now m h is inside t = subst (λ (mv : Option Migration). has_take mv h p.log ≡ true) (sym is) (and_from _ _ inside t)

  -- a part of before
  taken_before : (k : ℕ) (q : Part) (m : Migration) → numbered after k ≡ Some q → list_any (is_take m.number) q.log ≡ true → (y : Part) × (numbered s.parts k ≡ Some y) × (list_any (is_take m.number) y.log ≡ true)
  taken_before k q m hk t = elim (numbered_set_cases s.parts o.part p new fits.here k q hk) [
    | inl old ↦ (q, old.1, t)
    | inr same ↦
        let t2 : list_any (is_take m.number) P ≡ true = sym (any_new (is_take m.number) (λ r. refl)) ∙ subst (λ (y : Part). list_any (is_take m.number) y.log ≡ true) (sym same.1) t in
        (p, subst (λ (j : ℕ). numbered s.parts j ≡ Some p) (sym same.0) fits.here, any_old (is_take m.number) ∙ or_left _ _ t2)
  ]

  has_before : (k : ℕ) (q : Part) (h : ℕ) → numbered after k ≡ Some q → has_take s.moving h q.log ≡ true → (y : Part) × (numbered s.parts k ≡ Some y) × (has_take s.moving h y.log ≡ true)
  has_before k q h hk t =
      let m = has_moving s.moving h q.log t in
      let c = and_parts (is_in m.0.range.lo m.0.range.hi h) (list_any (is_take m.0.number) q.log) (subst (λ (mv : Option Migration). has_take mv h q.log ≡ true) m.1 t) in
      let w = taken_before k q m.0 hk c.1 in
      (w.0, w.1, subst (λ (mv : Option Migration). has_take mv h w.0.log ≡ true) (sym m.1) (and_from _ _ c.0 w.2))

  -- its take stands once
  both_takes : (m : Migration) → list_any (is_take m.number) P ≡ true → list_any (is_take m.number) T ≡ true → ⊥
  both_takes m x y =
      let a = any_at (is_take m.number) P x in
      let b = any_at (is_take m.number) T y in
      let ka = take_entry m.number a.1 a.3 in
      let kb = take_entry m.number b.1 b.3 in
      let at_a : At p.log a.0 (Take m.number ka.0) = subst (λ (l : List Entry). At l a.0 (Take m.number ka.0)) (sym fits.is) (at_append P T a.0 _ (subst (At P a.0) ka.1 a.2)) in
      let at_b : At p.log (length P + b.0) (Take m.number kb.0) = subst (λ (l : List Entry). At l (length P + b.0) (Take m.number kb.0)) (sym fits.is) (at_append_right P T b.0 _ _ refl (subst (At T b.0) kb.1 b.2)) in
      let one = takes_once a.0 (length P + b.0) m.number ka.0 kb.0 at_a at_b in
      omega (arith, one, at_within P a.0 a.1 a.2)

  other_one : (k : ℕ) (q : Part) (h : ℕ) → k ≢ o.part → numbered s.parts k ≡ Some q → owns new h ≡ true → owns q h ≡ true → ⊥
  other_one k q h ne hk own theirs = elim (owned_or_gone h own) [
    | inl mine ↦ ne (ok.one k o.part q p h hk fits.here theirs mine)
    | inr g ↦
        let f = ok.moved k o.part q p h g.0 g.1 hk fits.here theirs (has_now g.0 h g.1 g.3 (any_old (is_take g.0.number) ∙ or_right (list_any (is_take g.0.number) P) _ g.4)) in
        let bad : true ≡ false = sym f.1 ∙ g.2 k q hk in
        cc
  ]

  own_gone : (h : ℕ) → owns new h ≡ true → has_take s.moving h new.log ≡ true → ⊥
  own_gone h own t =
      let m = has_moving s.moving h new.log t in
      let c = and_parts (is_in m.0.range.lo m.0.range.hi h) (list_any (is_take m.0.number) new.log) (subst (λ (mv : Option Migration). has_take mv h new.log ≡ true) m.1 t) in
      let in_P : list_any (is_take m.0.number) P ≡ true = sym (any_new (is_take m.0.number) (λ r. refl)) ∙ c.1 in
      elim (owned_or_gone h own) [
        | inl mine ↦ ok.gone o.part p h fits.here mine (has_now m.0 h m.1 c.0 (any_old (is_take m.0.number) ∙ or_left _ _ in_P))
        | inr g ↦
            let same : g.0 ≡ m.0 = some_same (sym g.1 ∙ m.1) in
            both_takes m.0 in_P (subst (λ (x : Migration). list_any (is_take x.number) T ≡ true) same g.4)
      ]

  -- an owner beside a holder is the target with its give
  own_moved : (k : ℕ) (q : Part) (h : ℕ) (m : Migration) → s.moving ≡ Some m → k ≢ o.part → numbered s.parts k ≡ Some q → owns new h ≡ true → has_take s.moving h q.log ≡ true → (o.part ≡ m.target) × (list_any (is_give m.number) new.log ≡ true)
  own_moved k q h m is ne hk own t = elim (owned_or_gone h own) [
    | inl mine ↦
        let f = ok.moved o.part k p q h m is fits.here hk mine t in
        elim (or_cases _ _ (sym (any_old (is_give m.number)) ∙ f.1)) [
          | inl y ↦ (f.0, any_new (is_give m.number) (λ r. refl) ∙ y)
          | inr y ↦
              let c = and_parts (is_in m.range.lo m.range.hi h) (list_any (is_take m.number) q.log) (subst (λ (mv : Option Migration). has_take mv h q.log ≡ true) is t) in
              absurd (let bad : true ≡ false = sym (covers m is c.0 y) ∙ no_give h own in cc)
        ]
    | inr g ↦
        let same : g.0 ≡ m = some_same (sym g.1 ∙ is) in
        let c = and_parts (is_in m.range.lo m.range.hi h) (list_any (is_take m.number) q.log) (subst (λ (mv : Option Migration). has_take mv h q.log ≡ true) is t) in
        let t2 : list_any (is_take m.number) p.log ≡ true = any_old (is_take m.number) ∙ or_right (list_any (is_take m.number) P) _ (subst (λ (x : Migration). list_any (is_take x.number) T ≡ true) same g.4) in
        absurd (ne (ok.source k q m is hk c.1 ∙ sym (ok.source o.part p m is fits.here t2)))
  ]
    where
      covers : (m : Migration) → s.moving ≡ Some m → is_in m.range.lo m.range.hi h ≡ true → list_any (is_give m.number) T ≡ true → list_any (gives h) T ≡ true
      covers m is inside y =
          let a = any_at (is_give m.number) T y in
          in_any (gives h) T a.1 (a.0, a.2) (at_entry a.1 a.3 (fits.moving a.0 a.1 a.2))
        where
          at_entry : (e : Entry) → is_give m.number e ≡ true → OnlyMoving s e → gives h e ≡ true
          at_entry (Op r a) t only = absurd cc
          at_entry (Take n b) t only = absurd cc
          at_entry (Give n b) t only =
              let same : only.0 ≡ m = some_same (sym only.1 ∙ is) in
              (λ i. is_in (only.3 i) (only.4 i) h) ∙ ap (λ (x : Migration). is_in x.range.lo x.range.hi h) same ∙ inside
          at_entry (Expire c) t only = absurd cc

  -- an adoption keeps who owns what
  pub adopt_owned : Owned s.moving after
  adopt_owned = record {
    one = λ n k x y h hn hk a b. elim (numbered_set_cases s.parts o.part p new fits.here n x hn) [
      | inl vx ↦ elim (numbered_set_cases s.parts o.part p new fits.here k y hk) [
        | inl vy ↦ ok.one n k x y h vx.1 vy.1 a b
        | inr vy ↦ absurd (other_one n x h vx.0 vx.1 (subst (λ (z : Part). owns z h ≡ true) (sym vy.1) b) a)
      ]
      | inr vx ↦ elim (numbered_set_cases s.parts o.part p new fits.here k y hk) [
        | inl vy ↦ absurd (other_one k y h vy.0 vy.1 (subst (λ (z : Part). owns z h ≡ true) (sym vx.1) a) b)
        | inr vy ↦ vx.0 ∙ sym vy.0
      ]
    ];
    gone = λ n x h hn a t. elim (numbered_set_cases s.parts o.part p new fits.here n x hn) [
      | inl v ↦ ok.gone n x h v.1 a t
      | inr v ↦ own_gone h (subst (λ (z : Part). owns z h ≡ true) (sym v.1) a) (subst (λ (z : Part). has_take s.moving h z.log ≡ true) (sym v.1) t)
    ];
    moved = λ n k x y h m is hn hk a t. elim (numbered_set_cases s.parts o.part p new fits.here n x hn) [
      | inl vx ↦ let w = has_before k y h hk t in ok.moved n k x w.0 h m is vx.1 w.1 a w.2
      | inr vx ↦ elim (numbered_set_cases s.parts o.part p new fits.here k y hk) [
        | inl vy ↦
            let f = own_moved k y h m is vy.0 vy.1 (subst (λ (z : Part). owns z h ≡ true) (sym vx.1) a) t in
            (vx.0 ∙ f.0, subst (λ (z : Part). list_any (is_give m.number) z.log ≡ true) vx.1 f.1)
        | inr vy ↦ absurd (own_gone h (subst (λ (z : Part). owns z h ≡ true) (sym vx.1) a) (subst (λ (z : Part). has_take s.moving h z.log ≡ true) (sym vy.1) t))
      ]
    ];
    source = λ n x m is hn t. let w = taken_before n x m hn t in ok.source n w.0 m is w.1 w.2;
    target = λ n x m is hn t. elim (numbered_set_cases s.parts o.part p new fits.here n x hn) [
      | inl v ↦ ok.target n x m is v.1 t
      | inr v ↦
          let t2 : list_any (is_give m.number) P ≡ true = sym (any_new (is_give m.number) (λ r. refl)) ∙ subst (λ (z : Part). list_any (is_give m.number) z.log ≡ true) (sym v.1) t in
          ok.target n p m is (subst (λ (j : ℕ). numbered s.parts j ≡ Some p) (sym v.0) fits.here) (any_old (is_give m.number) ∙ or_left _ _ t2)
    ];
    apart = ok.apart;
  }

-- ---- what is replayed is answered as it would be alone

module _ (second : (s : Contents) (a b : Command) → conflicts a b ≡ false → (applied (applied s a).after b).answer ≡ (applied s b).answer) where
  answers_alone : (prefix : List Request) (c : Contents) (q : Request) → AllByRecursion (λ (r : Request). conflicts r.command q.command ≡ false) prefix → (applied (stored c prefix) q.command).answer ≡ (applied c q.command).answer
  answers_alone [] c q apart = refl
  answers_alone (r ∷ prefix) c q apart = answers_alone prefix (applied c r.command).after q apart.1 ∙ second c r.command q.command apart.0

  -- what is replayed is answered as it would be alone
  pub replayed_alone : (lo hi : ℕ) (log : List Entry) (rs : List Request) (j : ℕ) (q : Request) → IsDistinct clash rs → At rs j q → answer_after lo hi (take (length log + j) (log ++ ops rs)) q.command ≡ answer_after lo hi log q.command
  replayed_alone lo hi log rs j q d h =
      ap (λ (es : List Entry). answer_after lo hi es q.command) (take_ops log rs j (length log + j) refl)
      ∙ ap (λ (c : Contents). (applied c q.command).answer) (log_stored lo hi log (take j rs)) ∙ answers_alone (take j rs) (meaning lo hi log).store q (prefix_apart rs j q d h)
