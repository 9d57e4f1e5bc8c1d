-- What the manager orders of migrations, by each input.
use Rattle.std.proofs.Common.{◌≡◌, inl, inr, ◌≤◌, ℕ, ◌==◌, Bool, true, false, List, [], ◌∷◌, ◌++◌, ◌-◌, map, set, refl, sym, ◌∙◌, ap, subst, arith, Option, Some, None, Result, Ok, Err}
use Rattle.std.specs.Prelude.{is_some, flat_map, if◌then◌else◌}
use Rattle.std.specs.List.{filter}
use Rattle.std.specs.Option.{ok_or}
use Rattle.std.proofs.lemmas.Bool.{cond_both, eqb-true}
use Rattle.curp_base.specs.Cases.{◌>>=◌, only_if, refuse_if}
use Rattle.curp_base.specs.Words.{At, Each, first_of, numbered}
use Rattle.curp_base.proofs.Lists.{Each-append, Each-at, Each-map, at_mapped}
use Rattle.curp_cmd.specs.Node.{manager_node}
use Rattle.curp_cmd.specs.declared.entry.Entry.TheVariants.{Give}
use Rattle.curp_cmd.specs.declared.migration.Package.{Package}
use Rattle.curp_cmd.specs.declared.node.Keeper.{Keeper}
use Rattle.curp_cmd.specs.declared.node.Keeper.TheVariants as keeper
use Rattle.curp_cmd.specs.declared.node.NodeId.{NodeId}
use Rattle.curp_msg.specs.Moved.{Moved, says, says_each, unless_refused, refuses}
use Rattle.curp_msg.specs.declared.body.Body.{Body}
use Rattle.curp_msg.specs.declared.body.Body.TheVariants as body
use Rattle.curp_msg.specs.declared.body.Parcel.{Parcel}
use Rattle.curp_msg.specs.declared.body.Recover.{Recover}
use Rattle.curp_msg.specs.declared.body.Recovered.{Recovered}
use Rattle.curp_msg.specs.declared.config.Config.{Config}
use Rattle.curp_msg.specs.declared.config.PartConfig.{PartConfig}
use Rattle.curp_msg.specs.Input.{Input}
use Rattle.curp_msg.specs.Input as input
use Rattle.curp_msg.specs.declared.machine.Local.{Local}
use Rattle.curp_msg.specs.declared.machine.Local.TheVariants as local
use Rattle.curp_msg.specs.declared.message.Message.{Message}
use Rattle.curp_model.specs.Manager.{Attempted, Doing, ManagerState, Migration, NewLists, Recovering, Replacing, Steady, adopted_at, adopts, after_replace_numbers, fresh_node, new_backups, new_witnesses, client_for, expire, expire_messages, expires, finished, fresh_keeper, given_in, gives, heard, install_on, lists_in_work, manager_input, manager_ordered, migrate, migrates, nudge, nudge_give, nudge_moving, nudge_part, on_given, on_manager, on_prepared, on_recovered, on_taken, owner_of_range, owns_range, part_at, prepared_in, recover, recover_messages, recovered_in, recovered_part, recovers, recovery_for, replace, replace_messages, replacement_for, replaces, start_on, take_message, give_message, taken_in, tells_again, told, unless_numbers_end, version_adopted, version_in_work}
use Rattle.curp_model.specs.Ranges.{Range, range_of}
use Rattle.curp_model.specs.World.{World}
use Rattle.curp_facts.specs.Entries.{EntryOk}
use Rattle.curp_facts.specs.Facts.{IsAmong, IsMasterOf, WasOrdered, WasSent, WasTaken, lists_of_part}
use Rattle.curp_facts.specs.Invariant.{Invariant}
use Rattle.curp_facts.specs.Said.{GiveWasOrdered, IsGiveFrom, StoredEntry}
use Rattle.curp_law_kept.specs.Deeds.{IsFor}
use Rattle.curp_facts.specs.Names.{Names}
use Rattle.curp_law_kept.proofs.Gives.{entry_now, entry_numbered, among_set, each_among, filter_among, first_among, there_among, each_flat}
use Rattle.curp_law_runs.proofs.Logs.{has_home}
use Rattle.curp_law_runs.proofs.Words.{said}
use Rattle.curp_law_runs.specs.Orders.{AllMayOrder, KeepsRanges, MayOrder, Orders}
use Rattle.curp_facts.specs.Routes.{IsMigrationDone, Routes}
use Rattle.curp_base.proofs.Numbered.{place, number_within}

-- what is found by a test passes it
first_passes : {A : Type 0} (p : A → Bool) (xs : List A) (x : A) → first_of (filter p xs) ≡ Some x → p x ≡ true
first_passes p [] x e = absurd cc
first_passes {A} p (y ∷ xs) x e = go (p y) refl e (first_passes p xs x)
  where
    go : (b : Bool) → p y ≡ b → first_of (if b then y ∷ filter p xs else filter p xs) ≡ Some x → (first_of (filter p xs) ≡ Some x → p x ≡ true) → p x ≡ true
    go true t e more = let same : y ≡ x = cc e in subst (λ (z : A). p z ≡ true) same t
    go false f e more = more e

module _ {w : World} (names : Names w) where
  abbrev May : Option Migration → Message → Type 0
  May moving m = MayOrder w moving m.to m.body

  -- ---- messages that order nothing of migrations

  each_of : (moving : Option Migration) (nodes : List NodeId) (b : Body) → ((to : NodeId) → MayOrder w moving to b) → Each (May moving) (says_each manager_node nodes b)
  each_of moving nodes b may = Each-map (May moving) (λ (to : NodeId). says manager_node to b) nodes (each_among (λ (to : NodeId). MayOrder w moving to b) nodes (λ x a. may x))

  recovery_may : (moving : Option Migration) (node : NodeId) (o : Recover) → Each (May moving) (recover_messages node o)
  recovery_may moving node o = Each-append (May moving) (install_on o.epoch o.backups ++ start_on o.part o.epoch o.witnesses) _
      (Each-append (May moving) (install_on o.epoch o.backups) (start_on o.part o.epoch o.witnesses) (each_of moving o.backups _ (λ to. tt)) (each_of moving o.witnesses _ (λ to. tt)))
      (tt, tt)

  fresh_may : (moving : Option Migration) (c : PartConfig) (kind : Keeper) (fresh : NodeId) → Each (May moving) (fresh_keeper c kind fresh)
  fresh_may moving c keeper.Backup fresh = (tt, tt)
  fresh_may moving c keeper.Witness fresh = (tt, tt)

  replacement_may : (moving : Option Migration) (c : PartConfig) (kind : Keeper) (fresh : NodeId) (version : ℕ) (backups witnesses : List NodeId)
      → Each (May moving) (replace_messages c kind fresh version backups witnesses)
  replacement_may moving c kind fresh version backups witnesses = Each-append (May moving) (fresh_keeper c kind fresh) _ (fresh_may moving c kind fresh) (tt, tt)

  expire_may : (moving : Option Migration) (client : ℕ) → Each (May moving) (expire_messages w.manager client)
  expire_may moving client = each_of moving (map (λ (c : PartConfig). c.master) w.manager.config.parts) _ (λ to. tt)

  part_may : (moving : Option Migration) (c : PartConfig) (d : Option Doing) → Each (May moving) (nudge_part c d)
  part_may moving c (Some (Replacing kind fresh version backups witnesses)) = replacement_may moving c kind fresh version backups witnesses
  part_may moving c (Some (Recovering master order)) = recovery_may moving master order
  part_may moving c (Some Steady) = Each-append (May moving) (start_on c.part c.epoch c.witnesses) _ (each_of moving c.witnesses _ (λ to. tt)) (tt, tt)
  part_may moving c None = Each-append (May moving) (start_on c.part c.epoch c.witnesses) _ (each_of moving c.witnesses _ (λ to. tt)) (tt, tt)

  -- ---- orders of the migration in work

  -- the master of a present entry is one of its partition
  present_master : (c : PartConfig) → IsAmong c w.manager.config.parts → (part : ℕ) → c.part ≡ part → IsMasterOf w part c.master
  present_master c a part same = record { lists = lists_of_part c; given = (names.top c (entry_now names c a)).was.given; its_master = refl; its_part = same }

  nudged_may : (m : Migration) → w.manager.moving ≡ Some m → (o : Option Package) → Each (May w.manager.moving) (nudge_give w.manager m o)
  nudged_may m is None = each_flat (May w.manager.moving) _ w.manager.config.parts (λ c a.
      go c a (c.part == m.source) refl)
    where
      go : (c : PartConfig) → IsAmong c w.manager.config.parts → (b : Bool) → (c.part == m.source) ≡ b → Each (May w.manager.moving) (if b then take_message c m.number m.range ∷ [] else [])
      go c a true t = ((m, is, refl, present_master c a m.source (eqb-true c.part m.source t)), tt)
      go c a false t = tt
  nudged_may m is (Some carried) = each_flat (May w.manager.moving) _ w.manager.config.parts (λ c a.
      go c a (c.part == m.target) refl)
    where
      go : (c : PartConfig) → IsAmong c w.manager.config.parts → (b : Bool) → (c.part == m.target) ≡ b → Each (May w.manager.moving) (if b then give_message c m.number carried ∷ [] else [])
      go c a true t = ((m, is, refl, present_master c a m.target (eqb-true c.part m.target t)), tt)
      go c a false t = tt

  moving_may : (o : Option Migration) → w.manager.moving ≡ o → Each (May w.manager.moving) (nudge_moving w.manager o)
  moving_may None is = tt
  moving_may (Some m) is = nudged_may m is m.moved

  nudge_may : Each (May w.manager.moving) (flat_map (λ c. nudge_part c (numbered w.manager.doing c.part)) w.manager.config.parts ++ nudge_moving w.manager w.manager.moving ++ flat_map (expire_messages w.manager) w.manager.gone)
  nudge_may =
      let parts : List Message = flat_map (λ c. nudge_part c (numbered w.manager.doing c.part)) w.manager.config.parts in
      Each-append (May w.manager.moving) (parts ++ nudge_moving w.manager w.manager.moving) _
      (Each-append (May w.manager.moving) parts _
      (each_flat (May w.manager.moving) _ w.manager.config.parts (λ c a. part_may w.manager.moving c (numbered w.manager.doing c.part)))
      (moving_may w.manager.moving refl))
      (each_flat (May w.manager.moving) (expire_messages w.manager) w.manager.gone (λ client a. expire_may w.manager.moving client))

  -- ---- inputs by which the migration in work stays

  kept : (c : PartConfig) → IsAmong c w.manager.config.parts → KeepsRanges w c
  kept c a = record { before = c; was = a; its_part = refl; its_ranges = refl }

  all_kept : Each (KeepsRanges w) w.manager.config.parts
  all_kept = each_among (KeepsRanges w) w.manager.config.parts kept

  rests : (r : Moved ManagerState) → r.state.shape ≡ w.manager.shape → r.state.next.migration ≡ w.manager.next.migration → r.state.moving ≡ w.manager.moving
      → r.state.config ≡ w.manager.config → AllMayOrder w r → Orders w r
  rests r shape next moving config may = record {
    shape = shape;
    orders = may;
    change = inl (record { next = next; same = inl moving; ranges = subst (λ (x : Config). Each (KeepsRanges w) x.parts) (sym config) all_kept });
  }

  -- an entry is adopted that has the partition and the ranges of a present one
  adopts_orders : (p : ℕ) (c : PartConfig) → KeepsRanges w c → Orders w (adopts w.manager p c)
  adopts_orders p c keeps = record {
    shape = refl;
    orders = (tt, tt);
    change = inl (record {
      next = refl;
      same = inl refl;
      ranges = each_among (KeepsRanges w) (set w.manager.config.parts (p - 1) c) (λ d a. elim (among_set w.manager.config.parts (p - 1) c d a) [
        | inl is ↦ subst (KeepsRanges w) (sym is) keeps
        | inr was ↦ kept d was
      ]);
    });
  }

  recover_orders : (part backup witness : ℕ) → Orders w (recover w.manager part backup witness)
  unfolding recover
  recover_orders part backup witness = go (recovery_for w.manager part backup witness)
    where
      go : (o : Result Recover ℕ) → Orders w (unless_refused w.manager (recovers w.manager part) o)
      go (Ok o) = rests _ refl refl refl refl (recovery_may w.manager.moving _ o)
      go (Err why) = rests _ refl refl refl refl tt

  replace_orders : (kind : Keeper) (part spot : ℕ) → Orders w (replace w.manager kind part spot)
  unfolding replace
  replace_orders kind part spot = go (replacement_for w.manager kind part spot)
    where
      next_migration : (kind : Keeper) → (after_replace_numbers w.manager.next kind).migration ≡ w.manager.next.migration
      next_migration keeper.Backup = refl
      next_migration keeper.Witness = refl

      go : (o : Result PartConfig ℕ) → Orders w (unless_refused w.manager (replaces w.manager part kind spot) o)
      go (Ok c) =
          let fresh : NodeId = fresh_node w.manager kind in
          rests (replaces w.manager part kind spot c) refl (next_migration kind) refl refl (replacement_may w.manager.moving c kind fresh w.manager.next.version (new_backups c kind spot fresh) (new_witnesses c kind spot fresh))
      go (Err why) = rests _ refl refl refl refl tt

  again_orders : (o : Option PartConfig) → Orders w (tells_again w.manager o)
  again_orders None = rests _ refl refl refl refl tt
  again_orders (Some c) = rests _ refl refl refl refl (tt, tt)

  recovered_orders : (r : Recovered) → Orders w (on_recovered w.manager r)
  unfolding on_recovered
  recovered_orders r = go (finished w.manager r) (part_at w.manager r.part) refl
    where
      go : (a : Option Attempted) (o : Option PartConfig) → numbered w.manager.config.parts r.part ≡ o → Orders w (recovered_in w.manager r a o)
      go (Some a) (Some c) here =
          let k = place w.manager.config.parts r.part c here in
          adopts_orders r.part (recovered_part c a) (record { before = c; was = record { place = k.0; stands = k.2 }; its_part = refl; its_ranges = refl })
      go (Some a) None here = again_orders (adopted_at w.manager r)
      go None o here = again_orders (adopted_at w.manager r)

  -- the entry whose new lists are in work is a present one
  work_among : (version : ℕ) (x : NewLists) → version_in_work w.manager version ≡ Some x → IsAmong x.part w.manager.config.parts
  work_among version x is =
      let t = there_among (map (λ (c : PartConfig). lists_in_work version c (numbered w.manager.doing c.part)) w.manager.config.parts) x is in
      let m = at_mapped (λ (c : PartConfig). lists_in_work version c (numbered w.manager.doing c.part)) w.manager.config.parts t.place (Some x) t.stands in
      subst (λ (c : PartConfig). IsAmong c w.manager.config.parts) (of m.0 (numbered w.manager.doing m.0.part) m.2) (record { place = t.place; stands = m.1 })
    where
      by_version : (c : PartConfig) (b : Bool) (lists : NewLists) → lists.part ≡ c → only_if b lists ≡ Some x → c ≡ x.part
      by_version c true lists its is = let same : lists ≡ x = cc is in sym its ∙ ap (λ (y : NewLists). y.part) same
      by_version c false lists its is = absurd cc

      of : (c : PartConfig) (d : Option Doing) → lists_in_work version c d ≡ Some x → c ≡ x.part
      of c (Some (Replacing kind fresh own backups witnesses)) is = by_version c (own == version) (record { part = c; version = own; backups = backups; witnesses = witnesses }) refl is
      of c (Some (Recovering master order)) is = absurd cc
      of c (Some Steady) is = absurd cc
      of c None is = absurd cc

  prepared_orders : (version : ℕ) → Orders w (on_prepared w.manager version)
  unfolding on_prepared
  prepared_orders version = go (version_in_work w.manager version) refl
    where
      go : (o : Option NewLists) → version_in_work w.manager version ≡ o → Orders w (prepared_in w.manager version o)
      go (Some x) is = adopts_orders x.part.part (record x.part { version = x.version; backups = x.backups; witnesses = x.witnesses })
          (record { before = x.part; was = work_among version x is; its_part = refl; its_ranges = refl })
      go None is = again_orders (version_adopted w.manager version)

  expire_orders : (client : ℕ) → Orders w (expire w.manager client)
  unfolding expire
  expire_orders client = go (client_for w.manager client)
    where
      go : (o : Result ℕ ℕ) → Orders w (unless_refused w.manager (expires w.manager) o)
      go (Ok c) = rests _ refl refl refl refl (expire_may w.manager.moving c)
      go (Err why) = rests _ refl refl refl refl tt

  nudge_orders : Orders w (nudge w.manager)
  unfolding nudge
  nudge_orders = rests _ refl refl refl refl nudge_may

  -- the package comes, and goes on to the target
  taken_orders : (t : Parcel) → Orders w (on_taken w.manager t)
  unfolding on_taken
  taken_orders t = by_migration w.manager.moving refl
    where
      gives_orders : (m : Migration) → w.manager.moving ≡ Some m → (o : Option PartConfig) → numbered w.manager.config.parts m.target ≡ o → Orders w (gives w.manager m t.package o)
      gives_orders m is None found = rests _ refl refl refl refl tt
      gives_orders m is (Some target) found =
          let k = place w.manager.config.parts m.target target found in
          record {
            shape = refl;
            orders = ((record m { moved = Some t.package }, refl, refl, present_master target (record { place = k.0; stands = k.2 }) m.target (entry_numbered names m.target target found)), tt);
            change = inl (record { next = refl; same = inr (m, t.package, is, refl); ranges = all_kept });
          }

      by_migration : (o : Option Migration) → w.manager.moving ≡ o → Orders w (taken_in w.manager t o)
      by_migration None is = rests _ refl refl refl refl tt
      by_migration (Some m) is = cond_both (m.number == t.migration) _ _ (Orders w) (λ y. gives_orders m is (part_at w.manager m.target) refl) (λ y. rests _ refl refl refl refl tt)

  -- ---- a migration begins

  part_within : (p : ℕ) (c : PartConfig) → numbered w.manager.config.parts p ≡ Some c → (1 ≤ c.part) × (c.part ≤ w.manager.shape.parts)
  part_within p c here =
      let within = number_within w.manager.config.parts p c here in
      let same = entry_numbered names p c here in
      (omega (arith, within.0, same), omega (arith, within.1, same, names.numbers.parts))

  begins : (r : Range) (to : ℕ) (target owner : PartConfig) → numbered w.manager.config.parts to ≡ Some target → owns_range r.lo r.hi target ≡ false → owner_of_range w.manager r.lo r.hi ≡ Some owner → w.manager.moving ≡ None
      → Orders w (migrates w.manager (record { range = r; owner = owner; target = target }))
  begins r to target owner here lacks found free =
      let a : IsAmong owner w.manager.config.parts = filter_among (owns_range r.lo r.hi) w.manager.config.parts owner (first_among _ owner found) in
      let owns : owns_range r.lo r.hi owner ≡ true = first_passes (owns_range r.lo r.hi) w.manager.config.parts owner found in
      let now = entry_now names owner a in
      let is : IsMasterOf w owner.part owner.master = present_master owner a owner.part refl in
      let m : Migration = record { number = w.manager.next.migration; range = r; source = owner.part; target = target.part; moved = None } in
      record {
        shape = refl;
        orders = ((m, refl, refl, is), tt);
        change = inr (inl (record {
          m = m;
          free = free;
          moves = refl;
          number = refl;
          next = refl;
          apart = λ same. differ owner now owns (same ∙ entry_numbered names to target here);
          source = part_within owner.part owner now;
          target = part_within to target here;
          node = owner.master;
          is = is;
          ordered = record { place = 0; stands = refl };
          config = refl;
          owner = owner;
          present = a;
          its_part = refl;
          covers = owns;
        }));
      }
    where
      differ : (owner : PartConfig) → numbered w.manager.config.parts owner.part ≡ Some owner → owns_range r.lo r.hi owner ≡ true → owner.part ≡ to → ⊥
      differ owner now owns same =
          let there : numbered w.manager.config.parts to ≡ Some owner = subst (λ (p : ℕ). numbered w.manager.config.parts p ≡ Some owner) same now in
          let one : owner ≡ target = cc (there, here) in
          let lacking : owns_range r.lo r.hi owner ≡ false = subst (λ (c : PartConfig). owns_range r.lo r.hi c ≡ false) (sym one) lacks in
          absurd (cc (lacking, owns))

  refused : (why : ℕ) → Orders w (refuses w.manager why)
  refused why = rests _ refl refl refl refl tt

  by_moving : (r : Range) (to : ℕ) (target owner : PartConfig) → numbered w.manager.config.parts to ≡ Some target → owns_range r.lo r.hi target ≡ false → owner_of_range w.manager r.lo r.hi ≡ Some owner
      → (busy : Option Migration) → w.manager.moving ≡ busy
      → Orders w (unless_refused w.manager (migrates w.manager) (refuse_if (is_some busy) 5 >>= λ _. Ok (record { range = r; owner = owner; target = target })))
  by_moving r to target owner here lacks found (Some m) is = refused 5
  by_moving r to target owner here lacks found None is = begins r to target owner here lacks found is

  by_owner : (r : Range) (to : ℕ) (target : PartConfig) → numbered w.manager.config.parts to ≡ Some target → owns_range r.lo r.hi target ≡ false → (o : Option PartConfig) → owner_of_range w.manager r.lo r.hi ≡ o
      → Orders w (unless_refused w.manager (migrates w.manager) (ok_or o 4 >>= λ (owner : PartConfig). refuse_if (is_some w.manager.moving) 5 >>= λ _. Ok (record { range = r; owner = owner; target = target })))
  by_owner r to target here lacks None found = refused 4
  by_owner r to target here lacks (Some owner) found = by_moving r to target owner here lacks found w.manager.moving refl

  by_target : (r : Range) (to : ℕ) (target : PartConfig) → numbered w.manager.config.parts to ≡ Some target → (owned : Bool) → owns_range r.lo r.hi target ≡ owned
      → Orders w (unless_refused w.manager (migrates w.manager) (refuse_if owned 3 >>= λ _. ok_or (owner_of_range w.manager r.lo r.hi) 4 >>= λ (owner : PartConfig). refuse_if (is_some w.manager.moving) 5 >>= λ _. Ok (record { range = r; owner = owner; target = target })))
  by_target r to target here true owned = refused 3
  by_target r to target here false owned = by_owner r to target here owned (owner_of_range w.manager r.lo r.hi) refl

  by_range : (to : ℕ) (r : Range) (o : Option PartConfig) → numbered w.manager.config.parts to ≡ o
      → Orders w (unless_refused w.manager (migrates w.manager) (ok_or o 2 >>= λ (target : PartConfig). refuse_if (owns_range r.lo r.hi target) 3 >>= λ _. ok_or (owner_of_range w.manager r.lo r.hi) 4 >>= λ (owner : PartConfig). refuse_if (is_some w.manager.moving) 5 >>= λ _. Ok (record { range = r; owner = owner; target = target })))
  by_range to r None here = refused 2
  by_range to r (Some target) here = by_target r to target here (owns_range r.lo r.hi target) refl

  by_ends : (to : ℕ) (o : Option Range)
      → Orders w (unless_refused w.manager (migrates w.manager) (ok_or o 1 >>= λ (r : Range). ok_or (part_at w.manager to) 2 >>= λ (target : PartConfig). refuse_if (owns_range r.lo r.hi target) 3 >>= λ _. ok_or (owner_of_range w.manager r.lo r.hi) 4 >>= λ (owner : PartConfig). refuse_if (is_some w.manager.moving) 5 >>= λ _. Ok (record { range = r; owner = owner; target = target })))
  by_ends to None = refused 1
  by_ends to (Some r) = by_range to r (part_at w.manager to) refl

  migrate_orders : (lo hi to : ℕ) → Orders w (migrate w.manager lo hi to)
  unfolding migrate
  migrate_orders lo hi to = by_ends to (range_of lo hi)

  -- ---- a migration is done

  module _ (inv : Invariant w) (routes : Routes w) where
    -- what is said to be given is the migration in work, where it is of that number
    given_done : (from : NodeId) (m : Migration) → w.manager.moving ≡ Some m → WasSent w (says from manager_node (body.Given m.number)) → IsMigrationDone w m.number
    given_done from m is sent = go (said inv from manager_node (body.Given m.number) sent).0
      where
        go : StoredEntry w from (IsGiveFrom m.number) → IsMigrationDone w m.number
        go s =
            let number : ℕ = s.is.0 in
            let p : Package = s.is.1 in
            let at : At s.l.log s.index (Give number p) = subst (At s.l.log s.index) s.is.3 s.stands in
            let home = has_home inv from s.l s.its_log in
            let ok : EntryOk w home.0.part (Give number p) = Each-at (EntryOk w home.0.part) s.l.log home.3.entries s.index (Give number p) at in
            let below = routes.gives_given home.0.part (record { migration = number; «package» = p }) ok.0 in
            let same : number ≡ m.number = omega (arith, below.1, (routes.in_work m is).last, s.is.2) in
            let taken : WasTaken w (record { migration = number; «package» = p }) = said inv manager_node ok.0.node (body.GiveIn (record { migration = number; «package» = p })) ok.0.sent in
            record {
              source = taken.node;
              taken = p;
              told = subst (λ (k : ℕ). WasSent w (says taken.node manager_node (body.Taken (record { migration = k; «package» = p })))) same taken.told;
              target = from;
              given = record {
                lists = s.lists;
                adopted = s.adopted;
                its_master = s.its_master;
                l = s.l;
                its_log = s.its_log;
                index = s.index;
                entry = s.entry;
                stands = s.stands;
                is = (p, s.is.3 ∙ ap (λ (k : ℕ). Give k p) same);
                reach = s.reach;
              };
            }

    -- and was ordered to be given to its target
    ordered_give : (from : NodeId) (m : Migration) → WasSent w (says from manager_node (body.Given m.number)) → GiveWasOrdered w from m.number
    ordered_give from m sent = (said inv from manager_node (body.Given m.number) sent).1

    given_order : (from : NodeId) (m : Migration) → w.manager.moving ≡ Some m → (sent : WasSent w (says from manager_node (body.Given m.number)))
        → WasOrdered w m.target (body.GiveIn (ordered_give from m sent).parcel)
    given_order from m is sent =
        let g = ordered_give from m sent in
        subst (λ (part : ℕ). WasOrdered w part (body.GiveIn g.parcel)) ((routes.in_work m is).to_target g.part g.parcel g.ordered g.its_number) g.ordered

    given_orders : (from : NodeId) (number : ℕ) → WasSent w (says from manager_node (body.Given number)) → Orders w (on_given w.manager number)
    unfolding on_given
    given_orders from number sent = by_migration w.manager.moving refl
      where
        told : (m : Migration) → (m.number == number) ≡ true → WasSent w (says from manager_node (body.Given m.number))
        told m y = subst (λ (k : ℕ). WasSent w (says from manager_node (body.Given k))) (sym (eqb-true m.number number y)) sent

        by_migration : (o : Option Migration) → w.manager.moving ≡ o → Orders w (given_in w.manager number o)
        by_migration None is = rests _ refl refl refl refl tt
        by_migration (Some m) is = cond_both (m.number == number) _ _ (Orders w)
            (λ y. record {
              shape = refl;
              orders = tt;
              change = inr (inr (record {
                m = m;
                was = is;
                free = refl;
                next = refl;
                done = given_done from m is (told m y);
                moved = refl;
                parcel = (ordered_give from m (told m y)).parcel;
                given = given_order from m is (told m y);
                its_parcel = (ordered_give from m (told m y)).its_number;
              }));
            })
            (λ y. rests _ refl refl refl refl tt)

    -- ---- inputs

    heard_orders : (from : NodeId) (b : Body) → WasSent w (says from manager_node b) → Orders w (heard w.manager from b)
    heard_orders from body.Fetch sent = rests _ refl refl refl refl (refl, tt)
    heard_orders from (body.Recovered r) sent = recovered_orders r
    heard_orders from (body.Prepared version) sent = prepared_orders version
    heard_orders from (body.Taken t) sent = taken_orders t
    heard_orders from (body.Given number) sent = given_orders from number sent
    heard_orders from _ sent = rests _ refl refl refl refl tt

    told_orders : (order : Local) → Orders w (told w.manager order)
    told_orders (local.Recover part backup witness) = recover_orders part backup witness
    told_orders (local.Replace kind part place) = replace_orders kind part place
    told_orders (local.Migrate lo hi to) = migrate_orders lo hi to
    told_orders local.Nudge = nudge_orders
    told_orders (local.Expire client) = expire_orders client
    told_orders _ = rests _ refl refl refl refl tt

    unless_ended : (r : Moved ManagerState) → Orders w r → Orders w (unless_numbers_end w.manager r)
    unless_ended r good = cond_both _ _ _ (Orders w) (λ y. rests _ refl refl refl refl tt) (λ y. good)

    message_orders : (from : NodeId) (b : Body) → WasSent w (says from manager_node b) → Orders w (on_manager w.manager from b)
    unfolding on_manager
    message_orders from b sent = unless_ended (heard w.manager from b) (heard_orders from b sent)

    order_orders : (order : Local) → Orders w (manager_ordered w.manager order)
    unfolding manager_ordered
    order_orders order = unless_ended (told w.manager order) (told_orders order)

    -- what the manager makes of an input, as far as migrations go
    pub manager_orders : (given : Input) → IsFor w manager_node given → Orders w (manager_input w.manager given)
    manager_orders (input.Local order) for = order_orders order
    manager_orders (input.Message m) for = message_orders m.from m.body (subst (λ (to : NodeId). WasSent w (says m.from to m.body)) for.0 for.1)
