-- The range of the migration in work, behind its take: nothing owns or touches it in the source's log.
use Rattle.std.proofs.Common.{◌≡◌, ℕ, suc, ◌+◌, ◌<◌, ◌&&◌, Bool, true, false, not, List, take, take-add, drop, add-one, refl, ap, sym, ◌∙◌, subst, arith, Some, None}
use Rattle.std.specs.List.{list_any}
use Rattle.std.proofs.lemmas.Bool.{false_from_ne_true}
use Rattle.curp_base.specs.Words.{At}
use Rattle.curp_base.proofs.Lists.{Each-at, at_drop, at_take, take_one}
use Rattle.curp_range.specs.Spans.{Span, is_in, is_owned}
use Rattle.curp_cmd.specs.declared.entry.Entry.{Entry}
use Rattle.curp_cmd.specs.declared.entry.Entry.TheVariants.{Op, Take, Give, Expire}
use Rattle.curp_cmd.specs.declared.migration.Package.{Package}
use Rattle.curp_msg.specs.declared.config.PartConfig.{PartConfig}
use Rattle.curp_model.specs.Log.{entry_touches, meaning}
use Rattle.curp_model.specs.World.{World}
use Rattle.curp_facts.specs.Entries.{EntryOk, LogOk}
use Rattle.curp_facts.specs.Facts.{hi_of, lo_of}
use Rattle.curp_facts.specs.Kept.{AdoptedLog}
use Rattle.curp_facts.specs.Known.{Known}
use Rattle.curp_base.proofs.Numbered.{any_at}
use Rattle.curp_law_linear.specs.Ordered.{Ordered, moved_number}
use Rattle.curp_law_linear.proofs.MastersRise.{adopted_ok, give_given, take_given}
use Rattle.curp_law_kept.specs.Migrations.{MovesNothing, give_number, take_number}
use Rattle.curp_law_kept.proofs.Gives.{untouched, op_owned, owned_more, take_covered, covered_owns, owned_taken}
use Rattle.curp_facts.specs.Predecessors.{Predecessors}
use Rattle.curp_facts.specs.Migrated.{Migrated}
use Rattle.curp_facts.specs.Routes.{Routes}

module _ {w : World} (known : Known w) (chain : Predecessors w) (routes : Routes w) (migrated : Migrated w) (ordered : Ordered w)
    (c : PartConfig) (l : AdoptedLog w c) (index number : ℕ) (taken : Package) (stands : At l.its.log index (Take number taken)) (last : number + 1 ≡ w.manager.next.migration) where
  abbrev lo : ℕ
  lo = lo_of w c.part

  abbrev hi : ℕ
  hi = hi_of w c.part

  log_is : LogOk w c.part l.its.log
  log_is = adopted_ok known chain routes migrated ordered c l

  -- no take and no give stands behind the take of the last number
  later : (j n : ℕ) (x : Entry) → index < j → At l.its.log j x → moved_number x ≡ Some n → n < w.manager.next.migration → ⊥
  later j n x low here moves low_number =
      let rise : number < n = (ordered.logs c l).rise index j number n (Take number taken) x low stands here refl moves in
      omega (arith, rise, low_number, last)

  moves_not : (j : ℕ) (x : Entry) → index < j → At l.its.log j x → (take_number x ≡ None) × (give_number x ≡ None)
  moves_not j (Op r a) low here = (refl, refl)
  moves_not j (Expire client) low here = (refl, refl)
  moves_not j (Take n other) low here = absurd (later j n (Take n other) low here refl (take_given known chain routes migrated ordered c.part n other (Each-at (EntryOk w c.part) l.its.log log_is.entries j (Take n other) here)).1)
  moves_not j (Give n other) low here = absurd (later j n (Give n other) low here refl (give_given known chain routes migrated ordered c.part n other (Each-at (EntryOk w c.part) l.its.log log_is.entries j (Give n other) here)).1)

  -- so its range isn't owned there
  gone : (h j : ℕ) → is_in taken.lo taken.hi h ≡ true → is_owned (meaning (lo_of w c.part) (hi_of w c.part) (take (suc index + j) l.its.log)).owned h ≡ false
  gone h j inside =
      ap (λ (es : List Entry). is_owned (meaning lo hi es).owned h) (take-add (suc index) j l.its.log)
      ∙ ap (λ (spans : List Span). is_owned spans h) (owned_more lo hi (take (suc index) l.its.log) (take j (drop (suc index) l.its.log)) still)
      ∙ ap (λ (es : List Entry). is_owned (meaning lo hi es).owned h) (ap (λ (n : ℕ). take n l.its.log) (sym (add-one index)) ∙ take_one l.its.log index (Take number taken) stands)
      ∙ owned_taken lo hi (take index l.its.log) number taken h
      ∙ (ap (λ (x : Bool). is_owned (meaning lo hi (take index l.its.log)).owned h && not x) inside ∙ never (is_owned (meaning lo hi (take index l.its.log)).owned h))
    where
      never : (x : Bool) → (x && false) ≡ false
      never true = refl
      never false = refl

      still : MovesNothing (take j (drop (suc index) l.its.log))
      still k e here =
          let t = at_take j (drop (suc index) l.its.log) k e here in
          let d = at_drop (suc index) l.its.log k e t.1 in
          moves_not d.0 e (omega (arith, d.1)) d.2

  -- and nothing there touches it
  untouched_behind : (h j : ℕ) (x : Entry) → is_in taken.lo taken.hi h ≡ true → At (drop (suc index) l.its.log) j x → entry_touches x h ≡ true → ⊥
  untouched_behind h j x inside here touched = go x (subst (λ (n : ℕ). At l.its.log n x) d.1 d.2) touched
    where
      d : (i : ℕ) × (i ≡ suc index + j) × At l.its.log i x
      d = at_drop (suc index) l.its.log j x here

      go : (x : Entry) → At l.its.log (suc index + j) x → entry_touches x h ≡ true → ⊥
      go (Op r a) there yes_touched =
          let owned = op_owned lo hi l.its.log (suc index + j) r a log_is.is_log there in
          let not_touched = untouched (meaning lo hi (take (suc index + j) l.its.log)) r h owned (gone h j inside) in
          cc (not_touched, yes_touched)
      go (Expire client) there yes_touched = absurd cc
      go (Take n other) there yes_touched = let m = moves_not (suc index + j) (Take n other) (omega arith) there in cc (m.0)
      go (Give n other) there yes_touched = let m = moves_not (suc index + j) (Give n other) (omega arith) there in cc (m.1)

  -- of a range within its own, the source owned each hash before the take, and nothing behind it touches one
  pub covered_before : (h : ℕ) → is_in taken.lo taken.hi h ≡ true → is_owned (meaning (lo_of w c.part) (hi_of w c.part) (take index l.its.log)).owned h ≡ true
  covered_before h inside = covered_owns (meaning lo hi (take index l.its.log)).owned taken.lo taken.hi h (take_covered lo hi l.its.log index number taken log_is.is_log stands) inside

  pub quiet_behind : (h : ℕ) → is_in taken.lo taken.hi h ≡ true → list_any (λ (e : Entry). entry_touches e h) (drop (suc index) l.its.log) ≡ false
  quiet_behind h inside = false_from_ne_true (list_any (λ (e : Entry). entry_touches e h) (drop (suc index) l.its.log)) (λ found.
      let a = any_at (λ (e : Entry). entry_touches e h) (drop (suc index) l.its.log) found in untouched_behind h a.0 a.1 inside a.2 a.3)
