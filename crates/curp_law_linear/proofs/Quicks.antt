-- What an adoption leaves before a place of the marks, where what is uncompleted there on a hash stays.
use Rattle.std.proofs.Common.{◌≡◌, ◌<◌, ℕ, inl, inr, true, false, List, ◌++◌, take, length, Some, sym, ◌∙◌, subst, arith}
use Rattle.std.specs.List.{filter}
use Rattle.std.proofs.lemmas.Bool.{cases_Bool, cases_eq}
use Rattle.curp_base.specs.Words.{At, numbered}
use Rattle.curp_base.proofs.Lists.{at_append, at_append_cases, at_take}
use Rattle.curp_base.proofs.Numbered.{filter_at, numbered_same, numbered_set_other, numbered_set_same}
use Rattle.curp_cmd.specs.Hash.{touches}
use Rattle.curp_cmd.specs.declared.entry.Entry.{Entry}
use Rattle.curp_cmd.specs.declared.entry.Entry.TheVariants.{Take}
use Rattle.curp_law_kept.specs.Hashes.{In, on, updates}
use Rattle.curp_model.specs.Marks.{Executed, Mark, is_update_mark}
use Rattle.curp_law_linear.specs.Hashes.{Part}
use Rattle.curp_law_linear.specs.Line.{AwayOk, LineState, ToldAway, ToldTake}
use Rattle.curp_law_linear.specs.Moves.{Adopt, AdoptFits, ops, relogged, replayed_of}
use Rattle.curp_law_linear.proofs.AdoptedMarks.{flagged_stays, stays}
use Rattle.curp_law_linear.proofs.Given.{TakesOnce}
use Rattle.curp_law_linear.proofs.Hashes.{update_place}
use Rattle.curp_law_linear.proofs.Lists.{at_take_in}
use Rattle.curp_law_linear.proofs.Looks.{filter_on, stays_away, stays_low, told_low}

-- what is uncompleted before the place, of that partition and on the hash, stands below the length
abbrev pub LowBefore : List Mark → ℕ → ℕ → ℕ → ℕ → Type 0
LowBefore marks place part h long = (k i : ℕ) (u : Mark) → At marks k u → k < place → u.place ≡ Executed i → u.completed ≡ false → u.part ≡ part → touches u.command h ≡ true → i < long

module _ (s : LineState) (o : Adopt) (fits : AdoptFits s o) (takes_once : TakesOnce o.p.log) where
  -- the partition afterwards
  abbrev pub part_after : Part
  part_after = record o.p { log = o.stays ++ ops (replayed_of o) }

  -- all of them
  abbrev pub parts_after : List Part
  parts_after = relogged s.parts o.part o.p (o.stays ++ ops (replayed_of o))

  -- the marks that stay
  abbrev pub kept_of : List Mark
  kept_of = filter (stays o.part (length o.stays)) s.marks

  own_take : (i h : ℕ) (u : Mark) → u.part ≡ o.part → ToldAway s.parts s.told u i h → ToldTake s.told o.p.log i h
  own_take i h u here t =
      let is : t.0 ≡ o.p = numbered_same s.parts o.part t.0 o.p (subst (λ (n : ℕ). numbered s.parts n ≡ Some t.0) here t.1) fits.here in
      subst (λ (y : Part). ToldTake s.told y.log i h) is t.2

  -- an adoption drops nothing there
  pub prefix_kept : (place part h : ℕ) → AwayOk s.parts s.told s.marks place part h → (part ≡ o.part → LowBefore s.marks place o.part h (length o.stays))
      → on h (updates (filter (stays o.part (length o.stays)) (take place s.marks))) ≡ on h (updates (take place s.marks))
  prefix_kept place part h away low = filter_on h (stays o.part (length o.stays)) (take place s.marks) kept
    where
      kept : (u : Mark) → In u (take place s.marks) → is_update_mark u.place ≡ true → touches u.command h ≡ true → stays o.part (length o.stays) u ≡ true
      kept u n up tu = elim (cases_Bool u.completed) [
        | inl y ↦ flagged_stays o.part (length o.stays) u y
        | inr waits ↦
            let i = update_place u.place up in
            let at = at_take place s.marks n.0 u n.1 in
            elim (cases_eq u.part o.part) [
              | inr ne ↦ stays_away o.part (length o.stays) u ne
              | inl here ↦ elim (cases_eq part o.part) [
                | inl own ↦ stays_low o.part (length o.stays) i.0 u i.1 (low own n.0 i.0 u at.1 at.0 i.1 waits here tu)
                | inr other ↦
                    let t = own_take i.0 h u here (away n.0 i.0 u at.1 at.0 i.1 waits tu (λ e. other (sym e ∙ here))) in
                    let l : i.0 < length o.stays = omega (arith, t.behind, told_low s o fits takes_once i.0 h t) in
                    stays_low o.part (length o.stays) i.0 u i.1 l
              ]
            ]
      ]

  -- a told take stands still
  still : (i h : ℕ) → ToldTake s.told o.p.log i h → ToldTake s.told (o.stays ++ ops (replayed_of o)) i h
  still i h t =
      let low = told_low s o fits takes_once i h t in
      let at : At o.stays t.place (Take t.number t.taken) = elim (at_append_cases o.stays o.goes t.place _ (subst (λ (l : List Entry). At l t.place (Take t.number t.taken)) fits.is t.stands)) [
        | inl y ↦ y
        | inr g ↦ absurd (omega (arith, g.1, low))
      ] in
      record { place = t.place; number = t.number; taken = t.taken; stands = at_append o.stays (ops (replayed_of o)) t.place _ at; behind = t.behind; covers = t.covers; is_told = t.is_told }

  away_still : (i h : ℕ) (u : Mark) → ToldAway s.parts s.told u i h → ToldAway parts_after s.told u i h
  away_still i h u t = elim (cases_eq u.part o.part) [
    | inr ne ↦ (t.0, numbered_set_other s.parts o.part o.p part_after fits.here u.part t.0 ne t.1, t.2)
    | inl same ↦ (
      part_after,
      subst (λ (x : ℕ). numbered parts_after x ≡ Some part_after) (sym same) (numbered_set_same s.parts o.part o.p part_after fits.here),
      still i h (own_take i h u same t),
    )
  ]

  -- what is away stays so, before the place that the place has become
  pub away_kept : (place j part h : ℕ) → take j kept_of ≡ filter (stays o.part (length o.stays)) (take place s.marks) → AwayOk s.parts s.told s.marks place part h → AwayOk parts_after s.told kept_of j part h
  away_kept place j part h before away k i u hk lt at uncompleted tu ne =
      let f : At (filter (stays o.part (length o.stays)) (take place s.marks)) k u = subst (λ (l : List Mark). At l k u) before (at_take_in j kept_of k u hk lt) in
      let w = filter_at (stays o.part (length o.stays)) (take place s.marks) k u f in
      let t = at_take place s.marks w.0 u w.1 in
      away_still i h u (away w.0 i u t.1 t.0 at uncompleted tu ne)
