-- An adopted log that grows: its takes and gives rise together, and each give fits at its place. What comes new is of the
-- migration in work.
use Rattle.std.proofs.Common.{◌≡◌, ◌≢◌, ◌⊎◌, inl, inr, ℕ, ◌+◌, ◌<◌, ◌≤◌, ◌==◌, true, false, List, [], length, take, refl, ap, sym, ◌∙◌, ap₂, subst, subst₂, arith, Option, Some, None}
use Rattle.std.specs.List.{list_any}
use Rattle.std.proofs.lemmas.Bool.{and_from, cases_lt, cases_order, false_from_ne_true}
use Rattle.curp_base.specs.Words.{At, IsPrefix, numbered}
use Rattle.curp_base.proofs.Lists.{Each-at, at_append_right, at_take, at_within, prefix_at, prefix_back, at_any}
use Rattle.curp_range.specs.Spans.{Span, is_in, is_owned}
use Rattle.curp_cmd.specs.Node.{manager_node}
use Rattle.curp_cmd.specs.declared.entry.Entry.{Entry}
use Rattle.curp_cmd.specs.declared.entry.Entry.TheVariants.{Op, Take, Give, Expire}
use Rattle.curp_cmd.specs.declared.migration.Package.{Package}
use Rattle.curp_cmd.specs.declared.node.NodeId.{NodeId}
use Rattle.curp_msg.specs.declared.body.Body.TheVariants as body
use Rattle.curp_msg.specs.declared.body.Parcel.{Parcel}
use Rattle.curp_msg.specs.declared.config.PartConfig.{PartConfig}
use Rattle.curp_model.specs.Log.{LogState, after_entries, log_opening, meaning, package_of}
use Rattle.curp_model.specs.Manager.{Migration}
use Rattle.curp_model.specs.World.{World}
use Rattle.curp_model.proofs.Logs.{meaning_append}
use Rattle.curp_facts.specs.Entries.{EntryOk, LogOk}
use Rattle.curp_facts.specs.Facts.{HasLog, Logged, WasTaken, hi_of, lists_of_part, lo_of}
use Rattle.curp_facts.specs.Kept.{AdoptedLog}
use Rattle.curp_facts.specs.Reach.{Reach}
use Rattle.curp_facts.specs.Said.{StoredEntry}
use Rattle.curp_facts.specs.Known.{Known}
use Rattle.curp_law_kept.proofs.Gives.{said, gives_fit_append, gives_fit_from, package_ascends, package_within, owned_more, take_package}
use Rattle.curp_law_linear.specs.Hashes.{Part, has_take, is_give, is_take, owns}
use Rattle.curp_law_linear.specs.OfWorld.{line_of, moving_of, part_of}
use Rattle.curp_law_linear.proofs.Lists.{some_same}
use Rattle.curp_law_linear.specs.Ordered.{MigrationsRise, Ordered, moved_number}
use Rattle.curp_law_linear.proofs.Clients.{entry_of}
use Rattle.curp_law_linear.proofs.Parts.{adopted_or_none, entry_part, part_entry, part_log}
use Rattle.curp_law_kept.specs.GivesFit.{GiveFits, GivesFit, PairsAscend, PairsWithin}
use Rattle.curp_law_kept.specs.Migrations.{MovesNothing, give_number, take_number}
use Rattle.curp_law_runs.specs.Along.{HoldsOn}
use Rattle.curp_facts.specs.Predecessors.{Predecessors}
use Rattle.curp_law_runs.proofs.Gives.{entry_along, log_ok, one_log}
use Rattle.curp_facts.specs.Migrated.{Migrated, TakeStored}
use Rattle.curp_facts.specs.Routes.{IsMigrationDone, IsGiveOf, IsMoving, Routes, order_of}
use Rattle.curp_law_linear.proofs.Found.{found_give}
use Rattle.curp_cmd.proofs.Apart.{same_number}

module _ {w : World} (known : Known w) (chain : Predecessors w) (routes : Routes w) (migrated : Migrated w) (ordered : Ordered w) where
  -- ---- adopted logs

  -- an adopted log is a log of its partition
  pub adopted_ok : (c : PartConfig) (l : AdoptedLog w c) → LogOk w c.part l.its.log
  adopted_ok c l = log_ok known.names known.inv (lists_of_part c) (known.names.top c l.now).was.given l.its l.its_log

  -- an adopted log of a partition is the only one
  pub one_adopted : (c d : PartConfig) (l : AdoptedLog w c) (k : AdoptedLog w d) → d.part ≡ c.part → k.its ≡ l.its
  one_adopted c d l k same =
      let now : numbered w.manager.config.parts c.part ≡ Some d = subst (λ (n : ℕ). numbered w.manager.config.parts n ≡ Some d) same k.now in
      let its : d ≡ c = some_same (sym now ∙ l.now) in
      one_log k.its l.its (subst (λ (x : PartConfig). HasLog w x.master k.its) its k.its_log) l.its_log

  -- what stands in a partition of the machine stands in an adopted log
  pub standing : (n : ℕ) (q : Part) (j : ℕ) (x : Entry) → numbered (line_of w).parts n ≡ Some q → At q.log j x
      → (d : PartConfig) × (k : AdoptedLog w d) × (d.part ≡ n) × At k.its.log j x
  standing n q j x here at =
      let o = part_entry known n q here in
      let there : At (part_of w o.0).log j x = subst (λ (p : Part). At p.log j x) o.3 at in
      elim (adopted_or_none known o.0 o.1) [
        | inl k ↦ (o.0, k, o.2, subst (λ (es : List Entry). At es j x) (part_log known o.0 k) there)
        | inr none ↦ absurd (nothing (subst (λ (es : List Entry). At es j x) none there))
      ]
    where
      nothing : At {A = Entry} [] j x → ⊥
      nothing h = cc

  -- ---- the migration in work

  moving_or_not : (number : ℕ) → IsMoving w number ⊎ (IsMoving w number → ⊥)
  moving_or_not number = go w.manager.moving refl
    where
      go : (o : Option Migration) → w.manager.moving ≡ o → IsMoving w number ⊎ (IsMoving w number → ⊥)
      go None e = inr (λ x. let it = x.1 in cc)
      go (Some m) e = elim (cases_order m.number number) [
        | inl same ↦ inl (m, e, same)
        | inr apart ↦ inr (λ x. let it : x.0 ≡ m = some_same (sym x.1 ∙ e) in let its : m.number ≡ number = ap (λ (y : Migration). y.number) (sym it) ∙ x.2 in elim apart [ inl low ↦ omega (arith, low, its) | inr high ↦ omega (arith, high, its) ])
      ]

  -- one alone is in work
  one_moving : {m n : ℕ} → IsMoving w m → IsMoving w n → m ≡ n
  one_moving x y = let same : x.0 ≡ y.0 = some_same (sym x.1 ∙ y.1) in sym x.2 ∙ ap (λ (m : Migration). m.number) same ∙ y.2

  -- what isn't done is in work
  in_work : (number : ℕ) → 1 ≤ number → number < w.manager.next.migration → (IsMigrationDone w number → ⊥) → IsMoving w number
  in_work number low high not_done = elim (moving_or_not number) [ inl moving ↦ moving | inr still ↦ absurd (not_done (routes.done number low high still)) ]

  -- what was told of a give that stands in a log
  pub give_stored : (part number : ℕ) (given : Package) → EntryOk w part (Give number given) → TakeStored w number given
  give_stored part number given ok =
      let g : Parcel = record { migration = number; «package» = given } in
      let taken : WasTaken w g = said known manager_node ok.0.node (body.GiveIn g) ok.0.sent in
      migrated.told taken.node g taken.told

  -- of the take of the migration in work, in any log of a partition
  pub record TakeOfWork (part : ℕ) (m : Migration) (taken : Package) : Type 0 where
    pub its_source : part ≡ m.source
    pub lo : taken.lo ≡ m.range.lo
    pub hi : taken.hi ≡ m.range.hi

  pub take_of_work : (part number : ℕ) (taken : Package) (m : Migration) → w.manager.moving ≡ Some m → m.number ≡ number → EntryOk w part (Take number taken) → TakeOfWork part m taken
  take_of_work part number taken m is its ok =
      let one = routes.one_source part m.source ok.0.order (order_of m) ok.0.ordered (routes.in_work m is).ordered (ok.0.its_number ∙ sym its) in
      record { its_source = one.0; lo = ok.0.lo ∙ one.1; hi = ok.0.hi ∙ one.2 }

  -- the numbers of entries were given
  pub take_given : (part number : ℕ) (taken : Package) → EntryOk w part (Take number taken) → (1 ≤ number) × (number < w.manager.next.migration)
  take_given part number taken ok = subst (λ (n : ℕ). (1 ≤ n) × (n < w.manager.next.migration)) ok.0.its_number (routes.takes_given part ok.0.order ok.0.ordered)

  pub give_given : (part number : ℕ) (given : Package) → EntryOk w part (Give number given) → (1 ≤ number) × (number < w.manager.next.migration)
  give_given part number given ok = routes.gives_given part (record { migration = number; «package» = given }) ok.0

  module _ (c : PartConfig) (l : AdoptedLog w c) (new : List Entry) (prefix : IsPrefix l.its.log new) (ok : LogOk w c.part new) where
    entry_ok : (i : ℕ) (e : Entry) → At new i e → EntryOk w c.part e
    entry_ok i e at = Each-at (EntryOk w c.part) new ok.entries i e at

    -- what stood is below what comes
    pub stood : (d : PartConfig) (k : AdoptedLog w d) → d.part ≡ c.part → (j i : ℕ) (e : Entry) → length l.its.log ≤ i → At k.its.log j e → (j < i) × At new j e
    stood d k same j i e high at =
        let here : At l.its.log j e = subst (λ (x : Logged). At x.log j e) (one_adopted c d l k same) at in
        (omega (arith, high, at_within l.its.log j e here), prefix_at prefix j e here)

    -- a take of its number stood nowhere
    pub untaken : (i number : ℕ) (taken : Package) → length l.its.log ≤ i → At new i (Take number taken) → (p : Package) → TakeStored w number p → ⊥
    untaken i number taken high at p s =
        let its : EntryOk w c.part (Take number taken) = entry_ok i (Take number taken) at in
        let old : EntryOk w s.source.part (Take number p) = Each-at (EntryOk w s.source.part) s.its.its.log (adopted_ok s.source s.its).entries s.index (Take number p) s.stands in
        let one = routes.one_source s.source.part c.part old.0.order its.0.order old.0.ordered its.0.ordered (old.0.its_number ∙ sym its.0.its_number) in
        let there = stood s.source s.its one.0 s.index i (Take number p) high s.stands in
        let rise : number < number = ok.takes s.index i number number p taken there.0 there.1 at in
        omega (arith, rise)

    -- a take that comes new is of the migration in work
    pub new_take : (i number : ℕ) (taken : Package) → length l.its.log ≤ i → At new i (Take number taken) → IsMoving w number
    new_take i number taken high at =
        let given = take_given c.part number taken (entry_ok i (Take number taken) at) in
        in_work number given.0 given.1 (λ done. untaken i number taken high at done.taken (migrated.told done.source (record { migration = number; «package» = done.taken }) done.told))

    -- a give of its number stands in no adopted log
    pub ungiven : (i number : ℕ) (given : Package) → length l.its.log ≤ i → At new i (Give number given) → (d : PartConfig) (k : AdoptedLog w d) (j : ℕ) (p : Package) → At k.its.log j (Give number p) → ⊥
    ungiven i number given high at d k j p here =
        let its : EntryOk w c.part (Give number given) = entry_ok i (Give number given) at in
        let old : EntryOk w d.part (Give number p) = Each-at (EntryOk w d.part) k.its.log (adopted_ok d k).entries j (Give number p) here in
        let one : d.part ≡ c.part = routes.one_target d.part c.part (record { migration = number; «package» = p }) (record { migration = number; «package» = given }) old.0 its.0 refl in
        let there = stood d k one j i (Give number p) high here in
        let rise : number < number = ok.gives j i number number p given there.0 there.1 at in
        omega (arith, rise)

    -- a give that comes new is of the migration in work
    pub new_give : (i number : ℕ) (given : Package) → length l.its.log ≤ i → At new i (Give number given) → IsMoving w number
    new_give i number given high at =
        let its = give_given c.part number given (entry_ok i (Give number given) at) in
        in_work number its.0 its.1 (λ done. stands done)
      where
        stands : IsMigrationDone w number → ⊥
        stands done =
            let g : StoredEntry w done.target (IsGiveOf number) = done.given in
            let d = entry_of known chain migrated ordered g.lists g.adopted.given in
            let has : HasLog w g.lists.master g.l = subst (λ (x : NodeId). HasLog w x g.l) (sym g.its_master) g.its_log in
            let reach : Reach w g.lists.master g.lists.version (g.index + 1) = subst (λ (x : NodeId). Reach w x g.lists.version (g.index + 1)) (sym g.its_master) g.reach in
            let top = known.names.top d.0 d.1 in
            let version : g.lists.version ≤ d.0.version = top.versions g.lists g.adopted (sym d.2) in
            let within : g.index + 1 ≤ length g.l.log = omega (arith, at_within g.l.log g.index g.entry g.stands) in
            let h : HoldsOn w (lists_of_part d.0) (λ log. At log g.index g.entry)
            = entry_along known.names known.inv chain g.lists g.adopted g.l has (g.index + 1) within reach g.index g.entry (omega arith) g.stands (lists_of_part d.0) top.was d.2 version in
            let k : AdoptedLog w d.0 = record { now = d.1; its = h.its; its_log = h.its_log } in
            ungiven i number given high at d.0 k g.index g.is.0 (subst (At h.its.log g.index) g.is.1 h.in_log)

    -- the two kinds of entries of one number don't stand in one partition
    apart : (number other : ℕ) (taken given : Package) → EntryOk w c.part (Take number taken) → EntryOk w c.part (Give other given) → number ≢ other
    apart number other taken given t g same = routes.apart c.part c.part t.0.order (record { migration = other; «package» = given }) t.0.ordered g.0 (t.0.its_number ∙ same) refl

    -- takes and gives rise together
    pub new_rise : MigrationsRise new
    new_rise j k m n d e low at to p q = elim (cases_lt k (length l.its.log)) [
      | inl in_old ↦ (ordered.logs c l).rise j k m n d e low (prefix_back prefix j d (omega (arith, low, in_old)) at) (prefix_back prefix k e in_old to) p q
      | inr in_new ↦ go d e at to p q (in_new)
    ]
      where
        -- the last number that was given
        below : (x : IsMoving w n) → m < w.manager.next.migration → m ≢ n → m < n
        below x given other = omega (arith, (routes.in_work x.0 x.1).last, x.2, given, other)

        go : (d e : Entry) → At new j d → At new k e → moved_number d ≡ Some m → moved_number e ≡ Some n → length l.its.log ≤ k → m < n
        go (Op r a) e at to p q high = absurd cc
        go (Expire client) e at to p q high = absurd cc
        go d (Op r a) at to p q high = absurd cc
        go d (Expire client) at to p q high = absurd cc
        go (Take x taken) (Take y other) at to p q high = ok.takes j k m n taken other low (subst (λ (z : ℕ). At new j (Take z taken)) (some_same p) at) (subst (λ (z : ℕ). At new k (Take z other)) (some_same q) to)
        go (Give x given) (Give y other) at to p q high = ok.gives j k m n given other low (subst (λ (z : ℕ). At new j (Give z given)) (some_same p) at) (subst (λ (z : ℕ). At new k (Give z other)) (some_same q) to)
        go (Take x taken) (Give y given) at to p q high =
            let t : EntryOk w c.part (Take m taken) = entry_ok j (Take m taken) (subst (λ (z : ℕ). At new j (Take z taken)) (some_same p) at) in
            let to_n : At new k (Give n given) = subst (λ (z : ℕ). At new k (Give z given)) (some_same q) to in
            below (new_give k n given high to_n) (take_given c.part m taken t).1 (apart m n taken given t (entry_ok k (Give n given) to_n))
        go (Give x given) (Take y taken) at to p q high =
            let g : EntryOk w c.part (Give m given) = entry_ok j (Give m given) (subst (λ (z : ℕ). At new j (Give z given)) (some_same p) at) in
            let to_n : At new k (Take n taken) = subst (λ (z : ℕ). At new k (Take z taken)) (some_same q) to in
            let other : m ≢ n = (λ same. apart n m taken given (entry_ok k (Take n taken) to_n) g (sym same)) in
            below (new_take k n taken high to_n) (give_given c.part m given g).1 other

    -- ---- each give fits

    -- what a give that comes new brings, and where from
    pub record Brought (number : ℕ) (given : Package) : Type 0 where
      pub m : Migration
      pub is : w.manager.moving ≡ Some m
      pub its_number : m.number ≡ number
      pub its_target : c.part ≡ m.target
      pub stored : TakeStored w number given
      pub of : TakeOfWork stored.source.part m given

    pub brought : (i number : ℕ) (given : Package) → length l.its.log ≤ i → At new i (Give number given) → Brought number given
    brought i number given high at =
        let its : EntryOk w c.part (Give number given) = entry_ok i (Give number given) at in
        let x = new_give i number given high at in
        let s = give_stored c.part number given its in
        record {
          m = x.0;
          is = x.1;
          its_number = x.2;
          its_target = (routes.in_work x.0 x.1).to_target c.part (record { migration = number; «package» = given }) its.0 (sym x.2);
          stored = s;
          of = take_of_work s.source.part number given x.0 x.1 x.2
              (Each-at (EntryOk w s.source.part) s.its.its.log (adopted_ok s.source s.its).entries s.index (Take number given) s.stands);
        }

    -- its range isn't owned yet
    away : (i number : ℕ) (given : Package) → length l.its.log ≤ i → At new i (Give number given) → (h : ℕ) → is_in given.lo given.hi h ≡ true → owns (part_of w c) h ≡ false
    away i number given high at h inside = false_from_ne_true (owns (part_of w c) h) (λ owned. go owned)
      where
        b : Brought number given
        b = brought i number given high at

        now : Migration
        now = record b.m { moved = None }

        s : TakeStored w number given
        s = b.stored

        taken : has_take (Some now) h (part_of w s.source).log ≡ true
        taken = and_from (is_in b.m.range.lo b.m.range.hi h) _ (ap₂ (λ (x y : ℕ). is_in x y h) (sym b.of.lo) (sym b.of.hi) ∙ inside)
            (at_any (is_take b.m.number) (part_of w s.source).log s.index (Take number given) (subst (λ (es : List Entry). At es s.index (Take number given)) (sym (part_log known s.source s.its)) s.stands)
            (ap (λ (n : ℕ). number == n) b.its_number ∙ same_number number))

        go : owns (part_of w c) h ≡ true → ⊥
        go owned =
            let m = ordered.line.owned.moved c.part s.source.part (part_of w c) (part_of w s.source) h now (ap moving_of b.is) (entry_part known c l.now) (entry_part known s.source s.its.now) owned
            (subst (λ (o : Option Migration). has_take o h (part_of w s.source).log ≡ true) (sym (ap moving_of b.is)) taken) in
            let found = subst₂ (λ (x : ℕ) (es : List Entry). list_any (is_give x) es ≡ true) b.its_number (part_log known c l) m.1 in
            let g = found_give number l.its.log found in
            ungiven i number given high at c l g.0 g.1 g.2

    -- so each give of the new log fits
    pub new_fit : GivesFit (log_opening (lo_of w c.part) (hi_of w c.part)) 0 new
    new_fit = subst (GivesFit (log_opening lo hi) 0) prefix.is
        (gives_fit_append l.its.log prefix.rest (log_opening lo hi) 0 (length l.its.log) (omega arith) (ordered.logs c l).fit
        (gives_fit_from prefix.rest (meaning lo hi l.its.log) (length l.its.log) fits))
      where
        lo : ℕ
        lo = lo_of w c.part

        hi : ℕ
        hi = hi_of w c.part

        place : (j : ℕ) (e : Entry) → At prefix.rest j e → At new (length l.its.log + j) e
        place j e at = subst (λ (es : List Entry). At es (length l.its.log + j) e) prefix.is (at_append_right l.its.log prefix.rest j (length l.its.log + j) e refl at)

        -- before it nothing new moves a range
        still : (i number : ℕ) (p : Package) → At prefix.rest i (Give number p) → MovesNothing (take i prefix.rest)
        still i number p at k e here =
            go e (place k e t.1)
          where
            t : (k < i) × At prefix.rest k e
            t = at_take i prefix.rest k e here

            go : (e : Entry) → At new (length l.its.log + k) e → (take_number e ≡ None) × (give_number e ≡ None)
            go (Op r a) here = (refl, refl)
            go (Expire client) here = (refl, refl)
            go (Take other taken) here =
                let same = one_moving (new_take (length l.its.log + k) other taken (omega arith) here) (new_give (length l.its.log + i) number p (omega arith) (place i (Give number p) at)) in
                absurd (apart other number taken p (entry_ok (length l.its.log + k) (Take other taken) here) (entry_ok (length l.its.log + i) (Give number p) (place i (Give number p) at)) same)
            go (Give other given) here =
                let same = one_moving (new_give (length l.its.log + k) other given (omega arith) here) (new_give (length l.its.log + i) number p (omega arith) (place i (Give number p) at)) in
                let rise : other < number = ok.gives (length l.its.log + k) (length l.its.log + i) other number given p (omega (arith, t.0)) here (place i (Give number p) at) in
                absurd (omega (arith, same, rise))

        fits : (i number : ℕ) (p : Package) → At prefix.rest i (Give number p) → GiveFits (after_entries (meaning lo hi l.its.log) (length l.its.log) (take i prefix.rest)) p
        fits i number p at =
            let high : length l.its.log ≤ length l.its.log + i = omega arith in
            let here = place i (Give number p) at in
            let b = brought (length l.its.log + i) number p high here in
            let s = b.stored in
            let before : LogState = meaning (lo_of w s.source.part) (hi_of w s.source.part) (take s.index s.its.its.log) in
            let its : p ≡ package_of before p.lo p.hi p.ordered
            = take_package (lo_of w s.source.part) (hi_of w s.source.part) s.its.its.log s.index number p (adopted_ok s.source s.its).is_log s.stands in
            let owned : (after_entries (meaning lo hi l.its.log) (length l.its.log) (take i prefix.rest)).owned ≡ (meaning lo hi l.its.log).owned
            = ap (λ (x : LogState). x.owned) (sym (meaning_append lo hi l.its.log (take i prefix.rest))) ∙ owned_more lo hi l.its.log (take i prefix.rest) (still i number p at) in
            record {
              ascend = subst (λ (q : Package). PairsAscend q.pairs) (sym its) (package_ascends before p.lo p.hi p.ordered);
              within = subst (λ (q : Package). PairsWithin p.lo p.hi q.pairs) (sym its) (package_within before p.lo p.hi p.ordered);
              away = λ h inside. ap (λ (spans : List Span). is_owned spans h) owned ∙ ap (λ (es : List Entry). is_owned (meaning lo hi es).owned h) (sym (part_log known c l)) ∙ away (length l.its.log + i) number p high here h inside;
            }
