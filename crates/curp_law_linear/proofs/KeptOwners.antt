-- Each hash has one owner, or is on its way: it was owned at opening, and each take of it that is done has its give.
use Rattle.std.proofs.Common.{◌≡◌, ◌⊎◌, inl, inr, ℕ, zero, suc, ◌+◌, ◌<◌, ◌≤◌, ◌^◌, true, false, List, [], ◌∷◌, ◌++◌, take, drop, take-append-drop, refl, ap, ap₂, sym, ◌∙◌, subst, arith, Some}
use Rattle.std.specs.List.{list_any}
use Rattle.std.proofs.lemmas.Bool.{cases_Bool, or_left}
use Rattle.curp_base.specs.Words.{At}
use Rattle.curp_base.proofs.Lists.{Each-at, at_drop, at_within, take_one}
use Rattle.curp_range.specs.Spans.{is_in, is_owned}
use Rattle.curp_cmd.specs.declared.entry.Entry.{Entry}
use Rattle.curp_cmd.specs.declared.entry.Entry.TheVariants.{Give, Take}
use Rattle.curp_cmd.specs.declared.migration.Package.{Package}
use Rattle.curp_msg.specs.declared.config.PartConfig.{PartConfig}
use Rattle.curp_model.specs.Log.{LogState, after_entry, meaning}
use Rattle.curp_model.specs.World.{World}
use Rattle.curp_model.proofs.Logs.{meaning_append}
use Rattle.curp_facts.specs.Entries.{EntryOk}
use Rattle.curp_facts.specs.Facts.{IsAdoptedNow, Logged, hi_of, lo_of}
use Rattle.curp_facts.specs.Kept.{AdoptedLog, HashesOwned, OnItsWay, OwnedByOne}
use Rattle.curp_facts.specs.Said.{StoredEntry}
use Rattle.curp_facts.specs.Known.{Known}
use Rattle.curp_law_linear.specs.Hashes.{is_give}
use Rattle.curp_law_linear.specs.OfWorld.{part_of}
use Rattle.curp_law_linear.proofs.Entries.{take_of, give_entry}
use Rattle.curp_law_linear.proofs.Lists.{in_any}
use Rattle.curp_base.proofs.Numbered.{any_at}
use Rattle.curp_law_linear.proofs.Spans.{owned_after, takes, with_range_has}
use Rattle.curp_law_linear.specs.Ordered.{Ordered, moved_number}
use Rattle.curp_law_linear.specs.Serves.{OpeningServes}
use Rattle.curp_law_linear.proofs.AdoptMigrations.{moving_give, moving_take}
use Rattle.curp_law_linear.proofs.AdoptedLogs.{adopted_log}
use Rattle.curp_law_linear.proofs.MastersRise.{adopted_ok, take_given}
use Rattle.curp_law_steps.proofs.Gives.{opening_owner}
use Rattle.curp_law_linear.proofs.Parts.{entry_part, part_log}
use Rattle.curp_facts.specs.Predecessors.{Predecessors}
use Rattle.curp_facts.specs.Migrated.{Migrated, TakeStored}
use Rattle.curp_facts.specs.Routes.{IsMigrationDone, IsGiveOf, IsMoving, Routes}
use Rattle.curp_facts.specs.Stored.{StoredNow}
use Rattle.curp_law_runs.proofs.Gives.{one_stored, work_or_done, entry_of, place_in_prefix, one_adopted, stored_now}
use Rattle.curp_cmd.proofs.Apart.{same_number}

-- behind a give its range is owned
given_owned : (lo hi : ℕ) (prefix : List Entry) (number : ℕ) (given : Package) (h : ℕ) → is_in given.lo given.hi h ≡ true → is_owned (meaning lo hi (prefix ++ Give number given ∷ [])).owned h ≡ true
unfolding after_entry
given_owned lo hi prefix number given h inside =
    ap (λ (s : LogState). is_owned s.owned h) (meaning_append lo hi prefix (Give number given ∷ [])) ∙ with_range_has (meaning lo hi prefix).owned given.lo given.hi h (or_left _ _ inside)

module _ {w : World} (known : Known w) (chain : Predecessors w) (routes : Routes w) (migrated : Migrated w) (ordered : Ordered w) (serves : OpeningServes w) (h : ℕ) where
  -- the first entries of an adopted log leave its partition with the hash
  abbrev OwnsAt : (c : PartConfig) → AdoptedLog w c → ℕ → Type 0
  OwnsAt c l i = is_owned (meaning (lo_of w c.part) (hi_of w c.part) (take i l.its.log)).owned h ≡ true

  -- takes and gives behind them have no lower numbers
  abbrev Behind : (c : PartConfig) → AdoptedLog w c → ℕ → ℕ → Type 0
  Behind c l i low = (j m : ℕ) (e : Entry) → i ≤ j → At l.its.log j e → moved_number e ≡ Some m → low ≤ m

  abbrev Result : Type 0
  Result = OwnedByOne w h ⊎ OnItsWay w h

  -- what follows from any partition that had the hash behind the migration of that number
  abbrev Follows : ℕ → Type 0
  Follows number = (d : PartConfig) (k : AdoptedLog w d) (i : ℕ) → OwnsAt d k i → Behind d k i (number + 1) → Result

  -- who owns the hash is its only owner
  owner : (c : PartConfig) (l : AdoptedLog w c) → is_owned (meaning (lo_of w c.part) (hi_of w c.part) l.its.log).owned h ≡ true → OwnedByOne w h
  owner c l own = record {
    owner = c;
    owner_log = l;
    owns = own;
    alone = λ d k theirs. ordered.line.owned.one d.part c.part (part_of w d) (part_of w c) h (entry_part known d k.now) (entry_part known c l.now)
        (ap (λ (es : List Entry). is_owned (meaning (lo_of w d.part) (hi_of w d.part) es).owned h) (part_log known d k) ∙ theirs)
        (ap (λ (es : List Entry). is_owned (meaning (lo_of w c.part) (hi_of w c.part) es).owned h) (part_log known c l) ∙ own);
  }

  module _ (c : PartConfig) (l : AdoptedLog w c) (j number : ℕ) (taken : Package) (stands : At l.its.log j (Take number taken)) (inside : is_in taken.lo taken.hi h ≡ true) (next : Follows number) where
    -- the partition to which the range was given has it behind the give
    by_give : (d : PartConfig) (k : AdoptedLog w d) (i : ℕ) (given : Package) → At k.its.log i (Give number given) → Result
    by_give d k i given at = next d k (i + 1) own (λ m n e above there moves.
        let rise : number < n = (ordered.logs d k).rise i m number n (Give number given) e (omega (arith, above)) at there refl moves in omega (arith, rise))
      where
        s : TakeStored w number given
        s = migrated.given d k i number given at

        same : given ≡ taken
        same = (one_stored known.names known.inv chain routes number given s c l j taken stands).2

        own : OwnsAt d k (i + 1)
        own = ap (λ (es : List Entry). is_owned (meaning (lo_of w d.part) (hi_of w d.part) es).owned h) (take_one k.its.log i (Give number given) at)
            ∙ given_owned (lo_of w d.part) (hi_of w d.part) (take i k.its.log) number given h (ap (λ (p : Package). is_in p.lo p.hi h) same ∙ inside)

    -- a migration that is done has its give
    by_done : IsMigrationDone w number → Result
    by_done done =
        let g : StoredEntry w done.target (IsGiveOf number) = done.given in
        let n : StoredNow w g.lists.part g.l.log g.index = stored_now known.names known.inv chain done.target (IsGiveOf number) g in
        by_give n.entry n.its g.index g.is.0
        (place_in_prefix g.index g.l.log n.its.its.log g.index (Give number g.is.0) (at_within g.l.log g.index g.entry g.stands) n.prefix (omega arith) (subst (At g.l.log g.index) g.is.1 g.stands))

    -- of the one in work the give stands at the target, or nowhere
    by_work : IsMoving w number → Result
    by_work moving = elim (cases_Bool (list_any (is_give number) k.its.log)) [
      | inl found ↦
          let a = any_at (is_give number) k.its.log found in
          let g = give_entry number a.1 a.3 in
          by_give d.0 k a.0 g.0 (subst (At k.its.log a.0) g.1 a.2)
      | inr none ↦ inr (record {
        migration = moving.0;
        in_work = moving.1;
        inside = ap₂ (λ (x y : ℕ). is_in x y h) (sym range.1) (sym range.2) ∙ inside;
        carried = taken;
        source = c;
        source_log = l;
        taken = record { place = j; stands = subst (λ (n : ℕ). At l.its.log j (Take n taken)) (sym moving.2) stands };
        nowhere = λ e x p among.
            let there : At x.its.log among.place (Give number p) = subst (λ (n : ℕ). At x.its.log among.place (Give n p)) moving.2 among.stands in
            let same : x.its ≡ k.its = one_adopted known.names e d.0 x k (moving_give known routes moving.0 moving.1 e x among.place number p there moving.2 ∙ sym d.2) in
            let found : list_any (is_give number) k.its.log ≡ true
            = in_any (is_give number) k.its.log (Give number p) (among.place, subst (λ (y : Logged). At y.log among.place (Give number p)) same there) (same_number number) in
            let bad : true ≡ false = sym found ∙ none in
            cc;
      })
    ]
      where
        d : (d : PartConfig) × IsAdoptedNow w d × (d.part ≡ moving.0.target)
        d = entry_of known.names moving.0.target (routes.in_work moving.0 moving.1).target.0 (routes.in_work moving.0 moving.1).target.1

        k : AdoptedLog w d.0
        k = adopted_log known chain serves d.0 d.1

        range : (c.part ≡ moving.0.source) × (taken.lo ≡ moving.0.range.lo) × (taken.hi ≡ moving.0.range.hi)
        range = moving_take known routes moving.0 moving.1 c l j number taken stands moving.2

  -- from a partition that had the hash, whatever its log takes behind
  from : (low : ℕ) (c : PartConfig) (l : AdoptedLog w c) (i : ℕ) → OwnsAt c l i → Behind c l i low → ((number : ℕ) → low ≤ number → number < w.manager.next.migration → Follows number) → Result
  from low c l i own behind next = elim (cases_Bool (list_any (takes h) (drop i l.its.log))) [
    | inr none ↦ inl (owner c l (ap (λ (es : List Entry). is_owned (meaning (lo_of w c.part) (hi_of w c.part) es).owned h) (sym (take-append-drop i l.its.log))
        ∙ owned_after (lo_of w c.part) (hi_of w c.part) h (take i l.its.log) (drop i l.its.log) own none))
    | inl found ↦
        let a = any_at (takes h) (drop i l.its.log) found in
        let t = take_of h a.1 a.3 in
        let d = at_drop i l.its.log a.0 a.1 a.2 in
        let at : At l.its.log d.0 (Take t.0 t.1) = subst (At l.its.log d.0) t.2 d.2 in
        let given = take_given known chain routes migrated ordered c.part t.0 t.1 (Each-at (EntryOk w c.part) l.its.log (adopted_ok known chain routes migrated ordered c l).entries d.0 (Take t.0 t.1) at) in
        let above : low ≤ t.0 = behind d.0 t.0 (Take t.0 t.1) (omega (arith, d.1)) at refl in
        elim (work_or_done known.names known.inv chain routes t.0 given.0 given.1) [
          | inl moving ↦ by_work c l d.0 t.0 t.1 at t.3 (next t.0 above given.1) moving
          | inr done ↦ by_done c l d.0 t.0 t.1 at t.3 (next t.0 above given.1) done
        ]
  ]

  -- the numbers rise, and end
  walk : (more low : ℕ) → w.manager.next.migration ≤ low + more → (c : PartConfig) (l : AdoptedLog w c) (i : ℕ) → OwnsAt c l i → Behind c l i low → Result
  walk zero low enough c l i own behind = from low c l i own behind (λ number above below. absurd (omega (arith, enough, above, below)))
  walk (suc more) low enough c l i own behind =
      from low c l i own behind (λ number above below d k j has after. walk more (number + 1) (omega (arith, enough, above)) d k j has after)

  owned_somewhere : h < 2 ^ 64 → Result
  owned_somewhere below =
      let p = opening_owner w.manager.shape.parts h known.names.shape.parts below in
      let c = entry_of known.names p.0 p.1 p.2 in
      let own : is_in (lo_of w c.0.part) (hi_of w c.0.part) h ≡ true = subst (λ (n : ℕ). is_in (lo_of w n) (hi_of w n) h ≡ true) (sym c.2) p.3 in
      walk w.manager.next.migration 0 (omega arith) c.0 (adopted_log known chain serves c.0 c.1) 0 (or_left _ _ own) (λ j m e above at moves. omega arith)

-- each hash has one owner, or is on its way
pub hashes_kept : {w : World} → Known w → Predecessors w → Routes w → Migrated w → Ordered w → OpeningServes w → HashesOwned w
hashes_kept known chain routes migrated ordered serves h below = owned_somewhere known chain routes migrated ordered serves h below
