-- What each input to the manager does.
use Rattle.std.proofs.Common.{◌≡◌, inl, inr, ℕ, ◌==◌, Bool, true, false, refl, sym, subst, Option, Some, None, Ok}
use Rattle.std.specs.Prelude.{is_some}
use Rattle.std.specs.Option.{ok_or}
use Rattle.std.proofs.lemmas.Bool.{cond_both, eqb-true}
use Rattle.curp_base.specs.Cases.{◌>>=◌, refuse_if}
use Rattle.curp_base.proofs.Lists.{Each-map, Each-weaker}
use Rattle.curp_cmd.specs.Node.{manager_node}
use Rattle.curp_cmd.specs.declared.migration.Package.{Package}
use Rattle.curp_cmd.specs.declared.node.NodeId.{NodeId}
use Rattle.curp_msg.specs.Moved.{Moved, says, unless_refused}
use Rattle.curp_msg.specs.declared.body.Body.{Body}
use Rattle.curp_msg.specs.declared.body.Body.TheVariants as body
use Rattle.curp_msg.specs.declared.body.Parcel.{Parcel}
use Rattle.curp_msg.specs.declared.config.PartConfig.{PartConfig}
use Rattle.curp_msg.specs.Input.{Input}
use Rattle.curp_msg.specs.Input as input
use Rattle.curp_msg.specs.declared.machine.Local.{Local}
use Rattle.curp_msg.specs.declared.machine.Local.TheVariants as local
use Rattle.curp_model.specs.Manager.{ManagerState, Migration, Move, given_in, gives, heard, manager_input, manager_ordered, migrate, migrates, moved_part, on_given, on_manager, on_taken, owner_of_range, owns_range, part_at, taken_in, told, unless_numbers_end}
use Rattle.curp_model.specs.Ranges.{Range, range_of}
use Rattle.curp_model.specs.World.{World}
use Rattle.curp_facts.specs.Facts.{IsMasterOf, WasTaken, IsAmong, WasSent, lists_of_part}
use Rattle.curp_law_kept.specs.Deeds.{IsFor}
use Rattle.curp_law_kept.specs.ManagerEffect.{EntryKeeps, ManagerEffect, MovingKeeps}
use Rattle.curp_facts.specs.Known.{Known}
use Rattle.curp_law_kept.proofs.ManagersAdopt.{prepared_does, recover_does, recovered_does, replace_does}
use Rattle.curp_law_kept.proofs.ManagersSay.{configuration_does, entries_keep, expire_does, nudge_does, refused, rests, stays, take_word}
use Rattle.curp_law_kept.proofs.Keeps.{entry_now}
use Rattle.curp_law_kept.proofs.NumberedLists.{filter_among, first_among}

module _ {w : World} (known : Known w) where
  -- ---- migrations

  migrates_does : (v : Move) → IsAmong v.owner w.manager.config.parts → ManagerEffect w (migrates w.manager v)
  migrates_does v a = stays known (migrates w.manager v) (take_word known v.owner w.manager.next.migration v.range, tt) (entries_keep known) (λ m is. subst (MovingKeeps w (migrates w.manager v).messages) (one is) new) refl
    where
      begun : Migration
      begun = record { number = w.manager.next.migration; range = v.range; source = v.owner.part; target = v.target.part; moved = None }

      one : {m : Migration} → Some begun ≡ Some m → begun ≡ m
      one is = cc

      none : {p : Package} → None ≡ Some p → ⊥
      none is = cc

      its_master : IsMasterOf w v.owner.part v.owner.master
      its_master = record { lists = lists_of_part v.owner; given = (known.names.top v.owner (entry_now known.names v.owner a)).was.given; its_master = refl; its_part = refl }

      new : MovingKeeps w (migrates w.manager v).messages begun
      new = record { ordered = inr (v.owner.master, its_master, record { place = 0; stands = refl }); told = λ p is. absurd (none is) }

  owner_among : (lo hi : ℕ) (c : PartConfig) → owner_of_range w.manager lo hi ≡ Some c → IsAmong c w.manager.config.parts
  owner_among lo hi c is = filter_among (owns_range lo hi) w.manager.config.parts c (first_among _ c is)

  by_moving : (r : Range) (target owner : PartConfig) → IsAmong owner w.manager.config.parts → (busy : Bool)
      → ManagerEffect w (unless_refused w.manager (migrates w.manager) (refuse_if busy 5 >>= λ _. Ok (record { range = r; owner = owner; target = target })))
  by_moving r target owner a true = refused known 5
  by_moving r target owner a false = migrates_does (record { range = r; owner = owner; target = target }) a

  by_owner : (r : Range) (target : PartConfig) (o : Option PartConfig) → owner_of_range w.manager r.lo r.hi ≡ o
      → ManagerEffect w (unless_refused w.manager (migrates w.manager) (ok_or o 4 >>= λ (owner : PartConfig). refuse_if (is_some w.manager.moving) 5 >>= λ _. Ok (record { range = r; owner = owner; target = target })))
  by_owner r target None found = refused known 4
  by_owner r target (Some owner) found = by_moving r target owner (owner_among r.lo r.hi owner found) (is_some w.manager.moving)

  by_target : (r : Range) (target : PartConfig) (owned : Bool)
      → ManagerEffect w (unless_refused w.manager (migrates w.manager) (refuse_if owned 3 >>= λ _. ok_or (owner_of_range w.manager r.lo r.hi) 4 >>= λ (owner : PartConfig). refuse_if (is_some w.manager.moving) 5 >>= λ _. Ok (record { range = r; owner = owner; target = target })))
  by_target r target true = refused known 3
  by_target r target false = by_owner r target (owner_of_range w.manager r.lo r.hi) refl

  by_range : (r : Range) (o : Option PartConfig)
      → ManagerEffect w (unless_refused w.manager (migrates w.manager) (ok_or o 2 >>= λ (target : PartConfig). refuse_if (owns_range r.lo r.hi target) 3 >>= λ _. ok_or (owner_of_range w.manager r.lo r.hi) 4 >>= λ (owner : PartConfig). refuse_if (is_some w.manager.moving) 5 >>= λ _. Ok (record { range = r; owner = owner; target = target })))
  by_range r None = refused known 2
  by_range r (Some target) = by_target r target (owns_range r.lo r.hi target)

  by_ends : (to : ℕ) (o : Option Range)
      → ManagerEffect w (unless_refused w.manager (migrates w.manager) (ok_or o 1 >>= λ (r : Range). ok_or (part_at w.manager to) 2 >>= λ (target : PartConfig). refuse_if (owns_range r.lo r.hi target) 3 >>= λ _. ok_or (owner_of_range w.manager r.lo r.hi) 4 >>= λ (owner : PartConfig). refuse_if (is_some w.manager.moving) 5 >>= λ _. Ok (record { range = r; owner = owner; target = target })))
  by_ends to None = refused known 1
  by_ends to (Some r) = by_range r (part_at w.manager to)

  migrate_does : (lo hi to : ℕ) → ManagerEffect w (migrate w.manager lo hi to)
  unfolding migrate
  migrate_does lo hi to = by_ends to (range_of lo hi)

  -- the package that is kept is the one that was told
  gives_does : (from : NodeId) (t : Parcel) → WasSent w (says from manager_node (body.Taken t)) → (m : Migration) → w.manager.moving ≡ Some m → m.number ≡ t.migration
      → (o : Option PartConfig) → ManagerEffect w (gives w.manager m t.package o)
  gives_does from t sent m its same None = rests known
  gives_does from t sent m its same (Some target) = stays known (gives w.manager m t.package (Some target))
      (record { uttered = record { from = refl; says_so = λ place. told_so; orders = tt }; again = tt }, tt) (entries_keep known)
      (λ k is. subst (MovingKeeps w (gives w.manager m t.package (Some target)).messages) (one is) kept) refl
    where
      told_so : WasTaken w (record { migration = m.number; «package» = t.package })
      told_so = record { node = from; told = subst (λ (i : ℕ). WasSent w (says from manager_node (body.Taken (record { migration = i; «package» = t.package })))) (sym same) sent }

      one : {k : Migration} → Some (record m { moved = Some t.package }) ≡ Some k → record m { moved = Some t.package } ≡ k
      one is = cc

      package_is : {p : Package} → Some t.package ≡ Some p → t.package ≡ p
      package_is is = cc

      kept : MovingKeeps w (gives w.manager m t.package (Some target)).messages (record m { moved = Some t.package })
      kept = record {
        ordered = inl (known.inv.moving m its).ordered;
        told = λ p is. subst (λ (x : Package). WasTaken w (record { migration = m.number; «package» = x })) (package_is is) told_so;
      }

  taken_does : (from : NodeId) (t : Parcel) → WasSent w (says from manager_node (body.Taken t)) → ManagerEffect w (on_taken w.manager t)
  unfolding on_taken
  taken_does from t sent = by_migration w.manager.moving refl
    where
      by_migration : (o : Option Migration) → w.manager.moving ≡ o → ManagerEffect w (taken_in w.manager t o)
      by_migration None its = rests known
      by_migration (Some m) its = cond_both (m.number == t.migration) _ _ (ManagerEffect w) (λ y. gives_does from t sent m its (eqb-true _ _ y) (part_at w.manager m.target)) (λ y. rests known)

  -- the lists of an entry stay as the migration is done
  moved_keeps : (m : Migration) (c : PartConfig) → EntryKeeps w c → EntryKeeps w (moved_part m c)
  moved_keeps m c ok = cond_both (c.part == m.source) _ _ (EntryKeeps w) (λ y. ok) (λ y. cond_both (c.part == m.target) _ _ (EntryKeeps w) (λ z. ok) (λ z. ok))

  given_does : (number : ℕ) → ManagerEffect w (on_given w.manager number)
  unfolding on_given
  given_does number = by_migration w.manager.moving refl
    where
      none : {m : Migration} → None ≡ Some m → ⊥
      none is = cc

      by_migration : (o : Option Migration) → w.manager.moving ≡ o → ManagerEffect w (given_in w.manager number o)
      by_migration None its = rests known
      by_migration (Some m) its = cond_both (m.number == number) _ _ (ManagerEffect w)
          (λ y. stays known _ tt (Each-map (EntryKeeps w) (moved_part m) w.manager.config.parts
          (Each-weaker (EntryKeeps w) (λ (c : PartConfig). EntryKeeps w (moved_part m c)) (moved_keeps m) w.manager.config.parts (entries_keep known)))
          (λ k is. absurd (none is)) refl)
          (λ y. rests known)

  -- ---- inputs

  heard_does : (from : NodeId) (b : Body) → WasSent w (says from manager_node b) → ManagerEffect w (heard w.manager from b)
  heard_does from body.Fetch sent = configuration_does known from
  heard_does from (body.Recovered r) sent = recovered_does known from r sent
  heard_does from (body.Prepared version) sent = prepared_does known from version sent
  heard_does from (body.Taken t) sent = taken_does from t sent
  heard_does from (body.Given number) sent = given_does number
  heard_does from _ sent = rests known

  told_does : (order : Local) → ManagerEffect w (told w.manager order)
  told_does (local.Recover part backup witness) = recover_does known part backup witness
  told_does (local.Replace which part place) = replace_does known which part place
  told_does (local.Migrate lo hi to) = migrate_does lo hi to
  told_does local.Nudge = nudge_does known
  told_does (local.Expire client) = expire_does known client
  told_does _ = rests known

  unless_ended : (r : Moved ManagerState) → ManagerEffect w r → ManagerEffect w (unless_numbers_end w.manager r)
  unless_ended r does = cond_both _ _ _ (ManagerEffect w) (λ y. rests known) (λ y. does)

  message_does : (from : NodeId) (b : Body) → WasSent w (says from manager_node b) → ManagerEffect w (on_manager w.manager from b)
  unfolding on_manager
  message_does from b sent = unless_ended (heard w.manager from b) (heard_does from b sent)

  order_does : (order : Local) → ManagerEffect w (manager_ordered w.manager order)
  unfolding manager_ordered
  order_does order = unless_ended (told w.manager order) (told_does order)

  -- whatever comes to the manager
  pub manager_does : (given : Input) → IsFor w manager_node given → ManagerEffect w (manager_input w.manager given)
  manager_does (input.Local order) for = order_does order
  manager_does (input.Message m) for = message_does m.from m.body (subst (λ (to : NodeId). WasSent w (says m.from to m.body)) for.0 for.1)
