-- Reads: what an adoption drops doesn't reach below a look that is kept.
use Rattle.std.proofs.Common.{◌≡◌, ◌≢◌, ℕ, ◌<◌, ◌≤◌, ◌&&◌, ◌==◌, nat_le, nat_lt, not, inl, inr, Bool, true, false, cond, List, [], ◌∷◌, ◌++◌, length, Some, refl, ap, sym, ◌∙◌, subst, arith}
use Rattle.std.specs.List.{filter, list_any}
use Rattle.std.proofs.lemmas.Bool.{cases_Bool, cases_eq, eq-eqb, eqb-true}
use Rattle.std.proofs.lemmas.Bool.Decides.{nat_tests}
use Rattle.curp_base.specs.Words.{At, numbered}
use Rattle.curp_base.proofs.Lists.{at_append, at_append_right, at_within}
use Rattle.curp_cmd.specs.Hash.{touches}
use Rattle.curp_cmd.specs.Store.{applied, nothing}
use Rattle.curp_cmd.specs.declared.entry.Entry.{Entry}
use Rattle.curp_cmd.specs.declared.entry.Entry.TheVariants.{Take}
use Rattle.curp_order.specs.Order.{store_after}
use Rattle.curp_model.specs.Marks.{Executed, Looked, Mark, is_past, is_update_mark}
use Rattle.curp_law_kept.specs.Hashes.{In, asked, on, updates}
use Rattle.curp_law_linear.specs.Hashes.{Part, is_take}
use Rattle.curp_law_linear.specs.Line.{LineState, LooksOk, ToldTake}
use Rattle.curp_law_linear.specs.Moves.{Adopt, AdoptFits}
use Rattle.curp_law_linear.proofs.AdoptedMarks.{flagged_stays, stays}
use Rattle.curp_law_linear.proofs.Entries.{take_entry}
use Rattle.curp_law_linear.proofs.Given.{Pure, TakesOnce}
use Rattle.curp_law_linear.proofs.Hashes.{update_place}
use Rattle.curp_law_linear.proofs.Lists.{in_any, in_head, in_tail}
use Rattle.curp_base.proofs.Numbered.{any_at, numbered_same}
use Rattle.curp_law_linear.proofs.Orders.{same_prefixes}

-- marks that a filter keeps on a hash leave what the order has there
pub filter_on : (h : ℕ) (q : Mark → Bool) (marks : List Mark) → ((u : Mark) → In u marks → is_update_mark u.place ≡ true → touches u.command h ≡ true → q u ≡ true) → on h (updates (filter q marks)) ≡ on h (updates marks)
filter_on h q [] f = refl
filter_on h q (u ∷ marks) f = go (q u) (is_update_mark u.place) (touches u.command h) refl refl refl (filter_on h q marks (λ x n. f x (in_tail x u marks n)))
  where
    go : (a b c : Bool) → q u ≡ a → is_update_mark u.place ≡ b → touches u.command h ≡ c → on h (updates (filter q marks)) ≡ on h (updates marks)
        → on h (updates (cond a (u ∷ filter q marks) (filter q marks))) ≡ on h (updates (u ∷ marks))
    go true true true ea eb ec ih = rw (eb, ec) (ap (λ w. asked u ∷ w) ih)
    go true true false ea eb ec ih = rw (eb, ec) ih
    go true false c ea eb ec ih = rw eb ih
    go false true true ea eb ec ih = absurd (let bad : false ≡ true = sym ea ∙ f u (in_head u marks) eb ec in cc)
    go false true false ea eb ec ih = rw (eb, ec) ih
    go false false c ea eb ec ih = rw eb ih

pub stays_low : (part cut i : ℕ) (u : Mark) → u.place ≡ Executed i → i < cut → stays part cut u ≡ true
stays_low part cut i u at low =
    let n : nat_le cut i ≡ false = grind (arith, nat_tests) in
    (λ j. not (((u.part == part) && not u.completed) && is_past cut (at j))) ∙ (λ j. not (((u.part == part) && not u.completed) && n j)) ∙ go ((u.part == part) && not u.completed)
  where
    go : (b : Bool) → not (b && false) ≡ true
    go true = refl
    go false = refl

pub stays_away : (part cut : ℕ) (u : Mark) → u.part ≢ part → stays part cut u ≡ true
stays_away part cut u ne = elim (cases_Bool (u.part == part)) [
  | inl y ↦ absurd (ne (eqb-true u.part part y))
  | inr n ↦ λ j. not ((n j && not u.completed) && is_past cut u.place)
]

module _ (s : LineState) (o : Adopt) (fits : AdoptFits s o) (takes_once : TakesOnce o.p.log) where
  -- a told take stands below the cut
  pub told_low : (i h : ℕ) → (t : ToldTake s.told o.p.log i h) → t.place < length o.stays
  told_low i h t =
      let n : In (Take t.number t.taken) o.p.log = (t.place, t.stands) in
      let there : list_any (is_take t.number) o.p.log ≡ true = in_any (is_take t.number) o.p.log (Take t.number t.taken) n (eq-eqb t.number t.number refl) in
      let w = any_at (is_take t.number) o.stays (fits.told t.number t.is_told there) in
      let k = take_entry t.number w.1 w.3 in
      let at : At o.p.log w.0 (Take t.number k.0) = subst (λ (l : List Entry). At l w.0 (Take t.number k.0)) (sym fits.is) (at_append o.stays o.goes w.0 _ (subst (At o.stays w.0) k.1 w.2)) in
      let same = takes_once t.place w.0 t.number t.taken k.0 t.stands at in
      let low = at_within o.stays w.0 w.1 w.2 in
      omega (arith, same, low)

module _ (s : LineState) (looks : LooksOk s.parts s.told s.marks) (o : Adopt) (fits : AdoptFits s o) (takes_once : TakesOnce o.p.log) where
  -- a look that is kept is no longer than the cut
  look_low : (j number long : ℕ) (m : Mark) → At s.marks j m → m.place ≡ Looked number long → m.part ≡ o.part → stays o.part (length o.stays) m ≡ true → long ≤ length o.stays
  look_low j number long m h at part st = elim (cases_Bool m.completed) [
    | inl y ↦ fits.looks j m number long h part at y
    | inr n ↦
        let e : stays o.part (length o.stays) m ≡ not (((m.part == o.part) && not false) && nat_lt (length o.stays) long) = λ i. not (((m.part == o.part) && not (n i)) && is_past (length o.stays) (at i)) in
        let y : (m.part == o.part) ≡ true = eq-eqb m.part o.part part in
        let f : nat_lt (length o.stays) long ≡ false = go (m.part == o.part) (nat_lt (length o.stays) long) y (sym e ∙ st) in
        grind (arith, nat_tests)
  ]
    where
      go : (a b : Bool) → a ≡ true → not ((a && true) && b) ≡ true → b ≡ false
      go true true x y = absurd cc
      go true false x y = refl
      go false b x y = absurd cc

  -- no update before a kept look on its hash is dropped
  pub kept_before : (f b : List Mark) (m : Mark) (number long h : ℕ) → s.marks ≡ f ++ m ∷ b → m.place ≡ Looked number long → stays o.part (length o.stays) m ≡ true → touches m.command h ≡ true
      → on h (updates (filter (stays o.part (length o.stays)) f)) ≡ on h (updates f)
  kept_before f b m number long h is at st t = filter_on h (stays o.part (length o.stays)) f kept
    where
      at_m : At s.marks (length f) m
      at_m = subst (λ (l : List Mark). At l (length f) m) (sym is) (at_append_right f (m ∷ b) 0 (length f) m (omega arith) refl)

      kept : (u : Mark) → In u f → is_update_mark u.place ≡ true → touches u.command h ≡ true → stays o.part (length o.stays) u ≡ true
      kept u n up tu = elim (cases_Bool u.completed) [
        | inl y ↦ flagged_stays o.part (length o.stays) u y
        | inr no_flag ↦
            let i = update_place u.place up in
            let at_u : At s.marks n.0 u = subst (λ (l : List Mark). At l n.0 u) (sym is) (at_append f (m ∷ b) n.0 u n.1) in
            elim (looks (length f) n.0 i.0 number long h m u at_m at at_u (at_within f n.0 u n.1) i.1 no_flag t tu) [
              | inl same ↦ elim (cases_eq u.part o.part) [
                | inr ne ↦ stays_away o.part (length o.stays) u ne
                | inl here ↦
                    let low = look_low (length f) number long m at_m at (sym same.0 ∙ here) st in
                    let l : i.0 < length o.stays = omega (arith, same.1, low) in
                    stays_low o.part (length o.stays) i.0 u i.1 l
              ]
              | inr other ↦ elim (cases_eq u.part o.part) [
                | inr ne ↦ stays_away o.part (length o.stays) u ne
                | inl here ↦
                    let p_is : other.1 ≡ o.p = numbered_same s.parts o.part other.1 o.p (subst (λ (n : ℕ). numbered s.parts n ≡ Some other.1) here other.2) fits.here in
                    let tk : ToldTake s.told o.p.log i.0 h = subst (λ (y : Part). ToldTake s.told y.log i.0 h) p_is other.3 in
                    let low = told_low s o fits takes_once i.0 h tk in
                    let l : i.0 < length o.stays = omega (arith, tk.behind, low) in
                    stays_low o.part (length o.stays) i.0 u i.1 l
              ]
            ]
      ]

  -- so a kept look has the value that it had
  pub look_value : Pure → (f b : List Mark) (m : Mark) (number long : ℕ) → s.marks ≡ f ++ m ∷ b → m.place ≡ Looked number long → stays o.part (length o.stays) m ≡ true
      → (applied (store_after nothing (updates (filter (stays o.part (length o.stays)) f))) m.command).answer ≡ (applied (store_after nothing (updates f)) m.command).answer
  look_value pure f b m number long is at st =
      same_prefixes pure (updates (filter (stays o.part (length o.stays)) f)) (updates f) (asked m) (λ h t. kept_before f b m number long h is at st t)
