-- An adoption drops the marks of what goes and isn't flagged, and adds those of what is replayed.
use Rattle.std.proofs.Common.{◌≡◌, ℕ, ◌≤◌, ◌+◌, ◌||◌, ◌&&◌, ◌==◌, nat_le, inl, inr, ◌⊎◌, Bool, true, false, not, List, ◌++◌, length, Some, refl, ap, sym, ◌∙◌, subst, arith}
use Rattle.std.specs.List.{filter}
use Rattle.std.proofs.lemmas.Bool.{and_from, and_parts, cases_Bool, eq-eqb, eqb-true, leb-true, or_left}
use Rattle.std.proofs.lemmas.Bool.Decides.{nat_tests}
use Rattle.curp_base.specs.Words.{At, numbered}
use Rattle.curp_base.proofs.Lists.{at_append_cases, at_within}
use Rattle.curp_cmd.specs.RequestId.{same_id}
use Rattle.curp_cmd.specs.declared.command.Command.{Command}
use Rattle.curp_cmd.specs.declared.command.Request.{Request}
use Rattle.curp_cmd.specs.declared.command.RequestId.{RequestId}
use Rattle.curp_cmd.specs.declared.entry.Entry.{Entry}
use Rattle.curp_cmd.specs.declared.entry.Entry.TheVariants.{Op}
use Rattle.curp_model.specs.Marks.{Executed, Mark, is_past, is_update_mark}
use Rattle.curp_law_kept.specs.Hashes.{In, asked, updates}
use Rattle.curp_order.specs.Order.{Asked}
use Rattle.curp_law_linear.specs.Hashes.{Part}
use Rattle.curp_law_linear.specs.Line.{OpAt}
use Rattle.curp_law_linear.proofs.AdoptedMarks.{filter_updates, flagged_stays, fresh_of, new_updates, stays}
use Rattle.curp_law_linear.proofs.AdoptedOrder.{at_goes, done_completed, gone_by_test}
use Rattle.curp_law_linear.proofs.Adopting.{Adopting, done, gone, is_gone, keeps_on, order_now, replayed}
use Rattle.curp_law_linear.proofs.Completions.{in_updates}
use Rattle.curp_law_linear.proofs.Hashes.{update_place, updates_append}
use Rattle.curp_law_linear.proofs.Lists.{in_any, same_id-alike}
use Rattle.curp_base.proofs.Numbered.{numbered_same}
use Rattle.curp_law_linear.proofs.Requests.{asked_of_in, in_asked_of}

module _ (it : Adopting) where
  -- ---- the marks

  -- the marks that stay
  abbrev pub kept_marks : List Mark
  kept_marks = filter (stays it.move.part (length it.move.stays)) it.line.marks

  -- the adoption's, and those of what is replayed
  abbrev pub fresh_marks : List Mark
  fresh_marks = fresh_of it.move.node it.move.part it.move.epoch (length it.move.stays) (replayed it) it.line.marks

  -- the marks afterwards
  abbrev pub marks_now : List Mark
  marks_now = kept_marks ++ fresh_marks

  -- two tests of which each follows from the other are one
  pub bool_same : (a b : Bool) → (a ≡ true → b ≡ true) → (b ≡ true → a ≡ true) → a ≡ b
  bool_same true b f g = sym (f refl)
  bool_same false true f g = g refl
  bool_same false false f g = refl

  -- an entry of the log stays or goes
  pub at_log : (i : ℕ) (e : Entry) → At it.move.p.log i e → At it.move.stays i e ⊎ ((j : ℕ) × (i ≡ length it.move.stays + j) × At it.move.goes j e)
  at_log i e h = at_append_cases it.move.stays it.move.goes i e (subst (λ (l : List Entry). At l i e) it.fits.is h)

  -- the op of a mark of this partition
  pub here_is : (n i : ℕ) (id : RequestId) (c : Command) → n ≡ it.move.part → (w : OpAt it.line.parts n i id c) → At it.move.p.log i (Op w.request w.acknowledged)
  here_is n i id c same w =
      let is : w.p ≡ it.move.p = numbered_same it.line.parts it.move.part w.p it.move.p (subst (λ (j : ℕ). numbered it.line.parts j ≡ Some w.p) same w.here) it.fits.here in
      subst (λ (y : Part). At y.log i (Op w.request w.acknowledged)) is w.stands

  -- an op of what goes, by its mark
  pub op_is_gone : (m : Mark) (j : ℕ) (r : Request) (a : ℕ) → At it.move.goes j (Op r a) → r.id ≡ m.id → is_gone it (asked m) ≡ true
  op_is_gone m j r a h same = in_any (λ (y : Asked). same_id y.0 m.id) (gone it) (r.id, r.command) (in_asked_of it.move.goes j r a h) (same_id-alike r.id m.id same)

  -- a mark that isn't flagged is of a request that has no flagged mark
  pub done_false : (k i : ℕ) (m : Mark) → At it.line.marks k m → m.place ≡ Executed i → m.completed ≡ false → done it m.id ≡ false
  done_false k i m h at_i f = elim (cases_Bool (done it m.id)) [
    | inl y ↦ absurd (it.facts.unflagged k i m h at_i f (done_completed it m.id y))
    | inr n ↦ n
  ]

  -- an unflagged mark goes where its op goes
  pub dropped_is : (k i : ℕ) (m : Mark) → At it.line.marks k m → m.place ≡ Executed i → m.completed ≡ false → (((m.part == it.move.part) && true) && nat_le (length it.move.stays) i) ≡ is_gone it (asked m)
  dropped_is k i m h at_i f =
      let w = it.facts.waiting k i m h at_i f in
      bool_same _ _ (λ y. forth w y) (λ y. back w y)
    where
      forth : OpAt it.line.parts m.part i m.id m.command → (((m.part == it.move.part) && true) && nat_le (length it.move.stays) i) ≡ true → is_gone it (asked m) ≡ true
      forth w y =
          let c = and_parts ((m.part == it.move.part) && true) (nat_le (length it.move.stays) i) y in
          let same : m.part ≡ it.move.part = eqb-true m.part it.move.part (and_parts (m.part == it.move.part) true c.0).0 in
          let low : length it.move.stays ≤ i = leb-true (length it.move.stays) i c.1 in
          elim (at_log i _ (here_is m.part i m.id m.command same w)) [
            | inl old ↦ absurd (omega (arith, at_within it.move.stays i _ old))
            | inr g ↦ op_is_gone m g.0 w.request w.acknowledged g.2 w.its_id
          ]

      back : OpAt it.line.parts m.part i m.id m.command → is_gone it (asked m) ≡ true → (((m.part == it.move.part) && true) && nat_le (length it.move.stays) i) ≡ true
      back w y =
          let g = gone_by_test it (asked m) (in_updates it.line.marks k m h (ap is_update_mark at_i)) y in
          let t = asked_of_in it.move.goes (asked m) g in
          let one = it.facts.once m.part it.move.part w.p it.move.p i (length it.move.stays + t.0) w.request t.1 w.acknowledged t.2 w.here it.fits.here w.stands (at_goes it t.0 _ t.3) (w.its_id ∙ ap (λ (z : Asked). z.0) (sym t.4)) in
          let low : length it.move.stays ≤ i = omega (arith, one.1) in
          and_from _ _ (and_from _ _ (eq-eqb m.part it.move.part one.0) refl) (grind (arith, nat_tests))

  -- an update's mark stays where its request stays in the order
  pub agree : (m : Mark) → In m it.line.marks → is_update_mark m.place ≡ true → stays it.move.part (length it.move.stays) m ≡ keeps_on it (asked m)
  agree m n u =
      let i = update_place m.place u in
      elim (cases_Bool m.completed) [
        | inl y ↦
            let d : done it m.id ≡ true = in_any (λ (z : Mark). z.completed && same_id z.id m.id) it.line.marks m n (and_from _ _ y (same_id-alike m.id m.id refl)) in
            flagged_stays it.move.part (length it.move.stays) m y ∙ sym (or_left (done it m.id) _ d)
        | inr f ↦
            let d : done it m.id ≡ false = done_false n.0 i.0 m n.1 i.1 f in
            let e : stays it.move.part (length it.move.stays) m ≡ not (((m.part == it.move.part) && true) && nat_le (length it.move.stays) i.0) =
            λ j. not (((m.part == it.move.part) && not (f j)) && is_past (length it.move.stays) (i.1 j)) in
            e ∙ ap not (dropped_is n.0 i.0 m n.1 i.1 f) ∙ ap (λ (b : Bool). b || not (is_gone it (asked m))) (sym d)
      ]

  -- so the marks afterwards show the order afterwards
  pub order_is : updates marks_now ≡ order_now it
  order_is = updates_append kept_marks fresh_marks ∙ (λ i. filter_updates (stays it.move.part (length it.move.stays)) (keeps_on it) it.line.marks agree i ++ new_updates (done it) it.move.node it.move.part it.move.epoch (length it.move.stays) (replayed it) i)
