-- The manager names no more fresh nodes by an input than are bounded.
use Rattle.std.proofs.Common.{◌≡◌, ℕ, ◌+◌, ◌≤◌, map, Option, Some, None, Result, Ok, Err, ◌==◌, refl, arith}
use Rattle.std.proofs.lemmas.Bool.{cond_both}
use Rattle.curp_cmd.specs.declared.node.Keeper.{Keeper}
use Rattle.curp_cmd.specs.declared.node.Keeper.TheVariants as keeper
use Rattle.curp_cmd.specs.declared.node.NodeId.{NodeId}
use Rattle.curp_msg.specs.Moved.{Moved, unless_refused}
use Rattle.curp_msg.specs.declared.body.Body.{Body}
use Rattle.curp_msg.specs.declared.body.Body.TheVariants as body
use Rattle.curp_msg.specs.declared.body.Parcel.{Parcel}
use Rattle.curp_msg.specs.declared.body.Recover.{Recover}
use Rattle.curp_msg.specs.declared.body.Recovered.{Recovered}
use Rattle.curp_msg.specs.declared.config.PartConfig.{PartConfig}
use Rattle.curp_msg.specs.Input.{Input}
use Rattle.curp_msg.specs.Input as input
use Rattle.curp_msg.specs.declared.machine.Local.{Local}
use Rattle.curp_msg.specs.declared.machine.Local.TheVariants as local
use Rattle.curp_model.specs.Manager as model
use Rattle.curp_model.specs.Manager.{Attempted, ManagerState, Migration, Move, NewLists, unless_numbers_end}
use Rattle.curp_cluster.specs.Nodes.{Counts, most_fresh, named_by_order, no_nodes}

-- ---- the numbers that the manager gives

-- its shape stays, and its next numbers rise by so many at most
pub record Grows (g k : ManagerState) (most : Counts) : Type 0 where
  pub shape : k.shape ≡ g.shape
  pub master_rises : g.next.master ≤ k.next.master
  pub master_most : k.next.master ≤ g.next.master + most.masters
  pub backup_rises : g.next.backup ≤ k.next.backup
  pub backup_most : k.next.backup ≤ g.next.backup + most.backups
  pub witness_rises : g.next.witness ≤ k.next.witness
  pub witness_most : k.next.witness ≤ g.next.witness + most.witnesses

-- none is given
stays : (g k : ManagerState) (most : Counts) → k.shape ≡ g.shape → k.next.master ≡ g.next.master → k.next.backup ≡ g.next.backup → k.next.witness ≡ g.next.witness
    → Grows g k most
stays g k most shape master backup witness = record {
  shape = shape;
  master_rises = omega (arith, master);
  master_most = omega (arith, master);
  backup_rises = omega (arith, backup);
  backup_most = omega (arith, backup);
  witness_rises = omega (arith, witness);
  witness_most = omega (arith, witness);
}

module _ (g : ManagerState) where
  -- nothing has changed
  same : (most : Counts) → Grows g g most
  same most = stays g g most refl refl refl refl

  -- ---- orders

  recover_grows : (p backup witness : ℕ) → Grows g (model.recover g p backup witness).state (named_by_order g.shape.f (local.Recover p backup witness))
  unfolding model.recover
  recover_grows p backup witness = go (model.recovery_for g p backup witness)
    where
      go : (r : Result Recover ℕ) → Grows g (unless_refused g (model.recovers g p) r).state (named_by_order g.shape.f (local.Recover p backup witness))
      go (Err number) = same (named_by_order g.shape.f (local.Recover p backup witness))
      go (Ok o) = record {
        shape = refl;
        master_rises = omega arith;
        master_most = omega arith;
        backup_rises = omega arith;
        backup_most = omega arith;
        witness_rises = omega arith;
        witness_most = omega arith;
      }

  replaces_grows : (kind : Keeper) (p place : ℕ) (c : PartConfig) → Grows g (model.replaces g p kind place c).state (named_by_order g.shape.f (local.Replace kind p place))
  replaces_grows keeper.Backup p place c = record {
    shape = refl;
    master_rises = omega arith;
    master_most = omega arith;
    backup_rises = omega arith;
    backup_most = omega arith;
    witness_rises = omega arith;
    witness_most = omega arith;
  }
  replaces_grows keeper.Witness p place c = record {
    shape = refl;
    master_rises = omega arith;
    master_most = omega arith;
    backup_rises = omega arith;
    backup_most = omega arith;
    witness_rises = omega arith;
    witness_most = omega arith;
  }

  replace_grows : (kind : Keeper) (p place : ℕ) → Grows g (model.replace g kind p place).state (named_by_order g.shape.f (local.Replace kind p place))
  unfolding model.replace
  replace_grows kind p place = go (model.replacement_for g kind p place)
    where
      go : (r : Result PartConfig ℕ) → Grows g (unless_refused g (model.replaces g p kind place) r).state (named_by_order g.shape.f (local.Replace kind p place))
      go (Err number) = same (named_by_order g.shape.f (local.Replace kind p place))
      go (Ok c) = replaces_grows kind p place c

  migrate_grows : (lo hi to : ℕ) → Grows g (model.migrate g lo hi to).state no_nodes
  unfolding model.migrate
  migrate_grows lo hi to = go (model.move_for g lo hi to)
    where
      go : (r : Result Move ℕ) → Grows g (unless_refused g (model.migrates g) r).state no_nodes
      go (Err number) = same no_nodes
      go (Ok v) = stays g (model.migrates g v).state no_nodes refl refl refl refl

  expire_grows : (client : ℕ) → Grows g (model.expire g client).state no_nodes
  unfolding model.expire
  expire_grows client = go (model.client_for g client)
    where
      go : (r : Result ℕ ℕ) → Grows g (unless_refused g (model.expires g) r).state no_nodes
      go (Err number) = same no_nodes
      go (Ok gone) = stays g (model.expires g gone).state no_nodes refl refl refl refl

  nudge_grows : Grows g (model.nudge g).state no_nodes
  unfolding model.nudge
  nudge_grows = same no_nodes

  told_grows : (order : Local) → Grows g (model.told g order).state (named_by_order g.shape.f order)
  told_grows (local.Recover part backup witness) = recover_grows part backup witness
  told_grows (local.Replace kind part place) = replace_grows kind part place
  told_grows (local.Migrate lo hi to) = migrate_grows lo hi to
  told_grows local.Nudge = nudge_grows
  told_grows (local.Expire client) = expire_grows client
  told_grows _ = same no_nodes

  -- ---- messages

  again_grows : (c : Option PartConfig) → Grows g (model.tells_again g c).state no_nodes
  again_grows None = same no_nodes
  again_grows (Some c) = same no_nodes

  adopts_grows : (p : ℕ) (c : PartConfig) → Grows g (model.adopts g p c).state no_nodes
  adopts_grows p c = stays g (model.adopts g p c).state no_nodes refl refl refl refl

  recovered_grows : (r : Recovered) → Grows g (model.on_recovered g r).state no_nodes
  unfolding model.on_recovered
  recovered_grows r = go (model.finished g r) (model.part_at g r.part)
    where
      go : (a : Option Attempted) (c : Option PartConfig) → Grows g (model.recovered_in g r a c).state no_nodes
      go (Some a) (Some c) = adopts_grows r.part (model.recovered_part c a)
      go (Some a) None = again_grows (model.adopted_at g r)
      go None c = again_grows (model.adopted_at g r)

  prepared_grows : (version : ℕ) → Grows g (model.on_prepared g version).state no_nodes
  unfolding model.on_prepared
  prepared_grows version = go (model.version_in_work g version)
    where
      go : (o : Option NewLists) → Grows g (model.prepared_in g version o).state no_nodes
      go (Some lists) = stays g (model.prepared_in g version (Some lists)).state no_nodes refl refl refl refl
      go None = again_grows (model.version_adopted g version)

  given_away_grows : (t : Parcel) → Grows g (model.on_taken g t).state no_nodes
  unfolding model.on_taken
  given_away_grows t = go g.moving
    where
      gives : (m : Migration) (o : Option PartConfig) → Grows g (model.gives g m t.package o).state no_nodes
      gives m None = same no_nodes
      gives m (Some target) = stays g (model.gives g m t.package (Some target)).state no_nodes refl refl refl refl

      go : (o : Option Migration) → Grows g (model.taken_in g t o).state no_nodes
      go None = same no_nodes
      go (Some m) =
          cond_both (m.number == t.migration) _ _ (λ (r : Moved ManagerState). Grows g r.state no_nodes) (λ y. gives m (model.part_at g m.target)) (λ n. same no_nodes)

  given_grows : (number : ℕ) → Grows g (model.on_given g number).state no_nodes
  unfolding model.on_given
  given_grows number = go g.moving
    where
      go : (o : Option Migration) → Grows g (model.given_in g number o).state no_nodes
      go None = same no_nodes
      go (Some m) =
          cond_both (m.number == number) _ _ (λ (r : Moved ManagerState). Grows g r.state no_nodes)
          (λ y. stays g (record g { config = record { serial = g.config.serial + 1; parts = map (model.moved_part m) g.config.parts }; moving = None }) no_nodes refl refl refl refl)
          (λ n. same no_nodes)

  heard_grows : (from : NodeId) (b : Body) → Grows g (model.heard g from b).state no_nodes
  heard_grows from body.Fetch = same no_nodes
  heard_grows from (body.Recovered r) = recovered_grows r
  heard_grows from (body.Prepared version) = prepared_grows version
  heard_grows from (body.Taken t) = given_away_grows t
  heard_grows from (body.Given number) = given_grows number
  heard_grows from _ = same no_nodes

-- ---- inputs

-- an input by which its numbers would end changes nothing
unless_ended : (g : ManagerState) (r : Moved ManagerState) (most : Counts) → Grows g r.state most → Grows g (unless_numbers_end g r).state most
unless_ended g r most grows = cond_both _ _ _ (λ (x : Moved ManagerState). Grows g x.state most) (λ y. same g most) (λ n. grows)

-- the fresh nodes that an input to the manager names
pub manager_grows : (g : ManagerState) (given : Input) → Grows g (model.manager_input g given).state (most_fresh g.shape.f given)
unfolding model.on_manager model.manager_ordered
manager_grows g (input.Local order) = unless_ended g (model.told g order) (named_by_order g.shape.f order) (told_grows g order)
manager_grows g (input.Message m) = unless_ended g (model.heard g m.from m.body) no_nodes (heard_grows g m.from m.body)
