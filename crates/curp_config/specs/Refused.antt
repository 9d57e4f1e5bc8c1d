-- How the manager refuses: a message never, an order by a small number, and then nothing has changed.
use Rattle.std.proofs.Common.{arith, refl}
use Rattle.std.proofs.lemmas.Bool.{cond_both}
use Rattle.std.specs.Prelude.{◌≡◌, ℕ, ◌==◌, ◌&&◌, nat_lt, nat_le, not, is_some, Bool, true, false, Option, Some, None, Ok}
use Rattle.std.specs.Option.{ok_or}
use Rattle.curp_base.specs.Cases.{◌>>=◌, refuse_if}
use Rattle.curp_base.specs.Words.{numbered}
use Rattle.curp_cmd.specs.declared.node.Keeper.{Keeper}
use Rattle.curp_cmd.specs.declared.node.NodeId.{NodeId}
use Rattle.curp_msg.specs.Moved.{Moved, Refuses, not_refused, quiet, refused_by, unless_refused}
use Rattle.curp_msg.specs.declared.body.Body.{Body}
use Rattle.curp_msg.specs.declared.body.Body.TheVariants as body
use Rattle.curp_msg.specs.declared.body.Parcel.{Parcel}
use Rattle.curp_msg.specs.declared.body.Recovered.{Recovered}
use Rattle.curp_msg.specs.declared.config.PartConfig.{PartConfig}
use Rattle.curp_msg.specs.Input as input
use Rattle.curp_msg.specs.declared.machine.Local.{Local}
use Rattle.curp_msg.specs.declared.machine.Local.TheVariants as local
use Rattle.curp_msg.specs.declared.message.Message.{Message}
use Rattle.curp_model.specs.Manager as model
use Rattle.curp_model.specs.Manager.{Attempted, ManagerState, Migration, NewLists}
use Rattle.curp_model.specs.Ranges.{Range, range_of}
use Rattle.curp_config.specs.Machine.{manager_machine}

-- ---- orders

module _ (g : ManagerState) where
  recover_refuses : (p backup witness : ℕ) → Refuses g (model.recover g p backup witness)
  unfolding model.recover
  recover_refuses p backup witness = go (model.part_at g p)
    where
      by_witness : (c : PartConfig) (from : NodeId) (o : Option NodeId)
          → Refuses g (unless_refused g (model.recovers g p) (ok_or o 3 >>= (λ other. Ok (model.recover_order g c from other))))
      by_witness c from None = refused_by g 3 (omega arith)
      by_witness c from (Some other) = not_refused g (model.recovers g p (model.recover_order g c from other)) refl

      by_backup : (c : PartConfig) (o : Option NodeId)
          → Refuses g (unless_refused g (model.recovers g p) (ok_or o 2 >>= (λ from. ok_or (numbered c.witnesses witness) 3 >>= (λ other. Ok (model.recover_order g c from other)))))
      by_backup c None = refused_by g 2 (omega arith)
      by_backup c (Some from) = by_witness c from (numbered c.witnesses witness)

      go : (o : Option PartConfig)
          → Refuses g (unless_refused g (model.recovers g p)
          (ok_or o 1 >>= (λ c. ok_or (numbered c.backups backup) 2 >>= (λ from. ok_or (numbered c.witnesses witness) 3 >>= (λ other. Ok (model.recover_order g c from other))))))
      go None = refused_by g 1 (omega arith)
      go (Some c) = by_backup c (numbered c.backups backup)

  replace_refuses : (kind : Keeper) (p place : ℕ) → Refuses g (model.replace g kind p place)
  unfolding model.replace
  replace_refuses kind p place = go (model.part_at g p)
    where
      act : PartConfig → Moved ManagerState
      act = model.replaces g p kind place

      by_work : (c : PartConfig) (recovering replacing : Bool)
          → Refuses g (unless_refused g act (refuse_if recovering 3 >>= (λ _. refuse_if replacing 4 >>= (λ _. Ok c))))
      by_work c true replacing = refused_by g 3 (omega arith)
      by_work c false true = refused_by g 4 (omega arith)
      by_work c false false = not_refused g (act c) refl

      by_place : (c : PartConfig) (o : Option NodeId) (recovering replacing : Bool)
          → Refuses g (unless_refused g act (ok_or o 2 >>= (λ _. refuse_if recovering 3 >>= (λ _. refuse_if replacing 4 >>= (λ _. Ok c)))))
      by_place c None recovering replacing = refused_by g 2 (omega arith)
      by_place c (Some node) recovering replacing = by_work c recovering replacing

      go : (o : Option PartConfig)
          → Refuses g (unless_refused g act (ok_or o 1 >>= (λ c. ok_or (numbered (model.keepers_of c kind) place) 2
          >>= (λ _. refuse_if (model.is_recovering (numbered g.doing p)) 3 >>= (λ _. refuse_if (model.is_replacing (numbered g.doing p)) 4 >>= (λ _. Ok c))))))
      go None = refused_by g 1 (omega arith)
      go (Some c) = by_place c (numbered (model.keepers_of c kind) place) (model.is_recovering (numbered g.doing p)) (model.is_replacing (numbered g.doing p))

  migrate_refuses : (lo hi to : ℕ) → Refuses g (model.migrate g lo hi to)
  unfolding model.migrate
  migrate_refuses lo hi to = go (range_of lo hi) (model.part_at g to)
    where
      act : model.Move → Moved ManagerState
      act = model.migrates g

      by_owner : (r : Range) (target : PartConfig) (o : Option PartConfig) (moving : Bool)
          → Refuses g (unless_refused g act (ok_or o 4 >>= (λ owner. refuse_if moving 5 >>= (λ _. Ok (record { range = r; owner = owner; target = target })))))
      by_owner r target None moving = refused_by g 4 (omega arith)
      by_owner r target (Some owner) true = refused_by g 5 (omega arith)
      by_owner r target (Some owner) false = not_refused g (act (record { range = r; owner = owner; target = target })) refl

      by_target : (r : Range) (target : PartConfig) (owns : Bool)
          → Refuses g (unless_refused g act (refuse_if owns 3 >>= (λ _. ok_or (model.owner_of_range g r.lo r.hi) 4
          >>= (λ owner. refuse_if (is_some g.moving) 5 >>= (λ _. Ok (record { range = r; owner = owner; target = target }))))))
      by_target r target true = refused_by g 3 (omega arith)
      by_target r target false = by_owner r target (model.owner_of_range g r.lo r.hi) (is_some g.moving)

      go : (range : Option Range) (o : Option PartConfig)
          → Refuses g (unless_refused g act (ok_or range 1 >>= (λ r. ok_or o 2 >>= (λ target. refuse_if (model.owns_range r.lo r.hi target) 3
          >>= (λ _. ok_or (model.owner_of_range g r.lo r.hi) 4 >>= (λ owner. refuse_if (is_some g.moving) 5 >>= (λ _. Ok (record { range = r; owner = owner; target = target }))))))))
      go None o = refused_by g 1 (omega arith)
      go (Some r) None = refused_by g 2 (omega arith)
      go (Some r) (Some target) = by_target r target (model.owns_range r.lo r.hi target)

  expire_refuses : (client : ℕ) → Refuses g (model.expire g client)
  unfolding model.expire
  expire_refuses client = go (not (nat_lt 0 client && nat_le client g.shape.clients))
    where
      go : (none : Bool) → Refuses g (unless_refused g (model.expires g) (refuse_if none 1 >>= (λ _. Ok client)))
      go true = refused_by g 1 (omega arith)
      go false = not_refused g (model.expires g client) refl

  nudge_refuses : Refuses g (model.nudge g)
  unfolding model.nudge
  nudge_refuses = not_refused g (model.nudge g) refl

  told_refuses : (order : Local) → Refuses g (model.told g order)
  told_refuses (local.Recover part backup witness) = recover_refuses part backup witness
  told_refuses (local.Replace kind part place) = replace_refuses kind part place
  told_refuses (local.Migrate lo hi to) = migrate_refuses lo hi to
  told_refuses local.Nudge = nudge_refuses
  told_refuses (local.Expire client) = expire_refuses client
  told_refuses _ = not_refused g (quiet g) refl

pub order_refuses : (g : ManagerState) (order : Local) → Refuses g (model.manager_ordered g order)
unfolding model.manager_ordered
order_refuses g order =
    cond_both _ _ _ (Refuses g) (λ ends. not_refused g (quiet g) refl) (λ goes. told_refuses g order)

-- how the manager refuses an order
pub manager_refusals : (g : ManagerState) (order : Local) → Refuses g (manager_machine g (input.Local order))
unfolding manager_machine
manager_refusals g order = order_refuses g order

-- ---- messages

module _ (g : ManagerState) where
  again_taken : (c : Option PartConfig) → (model.tells_again g c).refused ≡ 0
  again_taken None = refl
  again_taken (Some c) = refl

  recovered_taken : (r : Recovered) → (model.on_recovered g r).refused ≡ 0
  unfolding model.on_recovered
  recovered_taken r = go (model.finished g r) (model.part_at g r.part)
    where
      go : (a : Option Attempted) (c : Option PartConfig) → (model.recovered_in g r a c).refused ≡ 0
      go (Some a) (Some c) = refl
      go (Some a) None = again_taken (model.adopted_at g r)
      go None c = again_taken (model.adopted_at g r)

  prepared_taken : (version : ℕ) → (model.on_prepared g version).refused ≡ 0
  unfolding model.on_prepared
  prepared_taken version = go (model.version_in_work g version)
    where
      go : (o : Option NewLists) → (model.prepared_in g version o).refused ≡ 0
      go (Some lists) = refl
      go None = again_taken (model.version_adopted g version)

  given_away_taken : (t : Parcel) → (model.on_taken g t).refused ≡ 0
  unfolding model.on_taken
  given_away_taken t = go g.moving
    where
      gives : (m : Migration) (o : Option PartConfig) → (model.gives g m t.package o).refused ≡ 0
      gives m None = refl
      gives m (Some target) = refl

      go : (o : Option Migration) → (model.taken_in g t o).refused ≡ 0
      go None = refl
      go (Some m) = cond_both (m.number == t.migration) _ _ (λ (r : Moved ManagerState). r.refused ≡ 0) (λ y. gives m (model.part_at g m.target)) (λ no. refl)

  given_taken : (number : ℕ) → (model.on_given g number).refused ≡ 0
  unfolding model.on_given
  given_taken number = go g.moving
    where
      go : (o : Option Migration) → (model.given_in g number o).refused ≡ 0
      go None = refl
      go (Some m) = cond_both (m.number == number) _ _ (λ (r : Moved ManagerState). r.refused ≡ 0) (λ y. refl) (λ no. refl)

  heard_taken : (from : NodeId) (b : Body) → (model.heard g from b).refused ≡ 0
  heard_taken from body.Fetch = refl
  heard_taken from (body.Recovered r) = recovered_taken r
  heard_taken from (body.Prepared version) = prepared_taken version
  heard_taken from (body.Taken t) = given_away_taken t
  heard_taken from (body.Given number) = given_taken number
  heard_taken from _ = refl

-- the manager takes each message
pub manager_taken : (g : ManagerState) (m : Message) → (manager_machine g (input.Message m)).refused ≡ 0
unfolding manager_machine model.on_manager
manager_taken g m = cond_both _ _ _ (λ (r : Moved ManagerState). r.refused ≡ 0) (λ ends. refl) (λ goes. heard_taken g m.from m.body)
