-- What the manager orders of migrations and tells of its configuration by one input, and what becomes of the migration in work and
-- of the ranges of the entries.
use Rattle.std.specs.Prelude.{◌≡◌, ◌≢◌, ◌≤◌, ◌⊎◌, ◌+◌, true, map, Option, Some, None, ⊤}
use Rattle.curp_base.specs.Words.{Each}
use Rattle.curp_cmd.specs.Node.{manager_node}
use Rattle.curp_cmd.specs.declared.migration.Package.{Package}
use Rattle.curp_cmd.specs.declared.node.NodeId.{NodeId}
use Rattle.curp_msg.specs.Moved.{Moved, says}
use Rattle.curp_msg.specs.declared.body.Body.{Body}
use Rattle.curp_msg.specs.declared.body.Body.TheVariants as body
use Rattle.curp_msg.specs.declared.body.Parcel.{Parcel}
use Rattle.curp_msg.specs.declared.config.PartConfig.{PartConfig}
use Rattle.curp_msg.specs.declared.message.Message.{Message}
use Rattle.curp_range.specs.Spans.{is_covered}
use Rattle.curp_model.specs.Manager.{ManagerState, Migration, moved_part}
use Rattle.curp_model.specs.World.{World}
use Rattle.curp_facts.specs.Facts.{IsAmong, IsMasterOf, WasOrdered}
use Rattle.curp_facts.specs.Routes.{IsMigrationDone, order_of}

-- of migrations only that in work is ordered: to be taken out at a master of its source, or to be given at a master of its target;
-- and the only configuration that is told is the manager's
abbrev pub MayOrder : World → Option Migration → NodeId → Body → Type 0
MayOrder w moving node (body.TakeOut t) = (m : Migration) × (moving ≡ Some m) × (t ≡ order_of m) × IsMasterOf w m.source node
MayOrder w moving node (body.GiveIn g) = (m : Migration) × (moving ≡ Some m) × (g.migration ≡ m.number) × IsMasterOf w m.target node
MayOrder w moving node (body.Configuration config) = config ≡ w.manager.config
MayOrder w moving node _ = ⊤

-- each of these messages may be sent
abbrev pub AllMayOrder : World → Moved ManagerState → Type 0
AllMayOrder w r = Each (λ (m : Message). MayOrder w r.state.moving m.to m.body) r.messages

-- the same migration is in work, perhaps with its package now
abbrev pub IsSame : Option Migration → Option Migration → Type 0
IsSame before after = (after ≡ before) ⊎ ((m : Migration) × (carried : Package) × (before ≡ Some m) × (after ≡ Some (record m { moved = Some carried })))

-- the entry has the partition and the ranges of a present one
pub record KeepsRanges (w : World) (c : PartConfig) : Type 0 where
  pub before : PartConfig
  pub was : IsAmong before w.manager.config.parts
  pub its_part : c.part ≡ before.part
  pub its_ranges : c.ranges ≡ before.ranges

-- the migration in work stays
pub record Stays (w : World) (r : Moved ManagerState) : Type 0 where
  pub next : r.state.next.migration ≡ w.manager.next.migration
  pub same : IsSame w.manager.moving r.state.moving
  pub ranges : Each (KeepsRanges w) r.state.config.parts

-- a migration begins, under the next number, between two partitions
pub record BeginsMigration (w : World) (r : Moved ManagerState) : Type 0 where
  pub m : Migration
  pub free : w.manager.moving ≡ None
  pub moves : r.state.moving ≡ Some m
  pub number : m.number ≡ w.manager.next.migration
  pub next : r.state.next.migration ≡ w.manager.next.migration + 1
  pub apart : m.source ≢ m.target
  pub source : (1 ≤ m.source) × (m.source ≤ w.manager.shape.parts)
  pub target : (1 ≤ m.target) × (m.target ≤ w.manager.shape.parts)
  pub node : NodeId
  pub is : IsMasterOf w m.source node
  pub ordered : IsAmong (says manager_node node (body.TakeOut (order_of m))) r.messages
  pub config : r.state.config ≡ w.manager.config
  pub owner : PartConfig
  pub present : IsAmong owner w.manager.config.parts
  pub its_part : owner.part ≡ m.source
  pub covers : is_covered owner.ranges m.range.lo m.range.hi ≡ true

-- the migration in work is done: its range goes from its source to its target
pub record Ends (w : World) (r : Moved ManagerState) : Type 0 where
  pub m : Migration
  pub was : w.manager.moving ≡ Some m
  pub free : r.state.moving ≡ None
  pub next : r.state.next.migration ≡ w.manager.next.migration
  pub done : IsMigrationDone w m.number
  pub moved : r.state.config.parts ≡ map (moved_part m) w.manager.config.parts
  pub parcel : Parcel
  pub given : WasOrdered w m.target (body.GiveIn parcel)
  pub its_parcel : parcel.migration ≡ m.number

-- what the manager makes of an input, as far as migrations go
pub record Orders (w : World) (r : Moved ManagerState) : Type 0 where
  pub shape : r.state.shape ≡ w.manager.shape
  pub orders : AllMayOrder w r
  pub change : Stays w r ⊎ (BeginsMigration w r ⊎ Ends w r)
