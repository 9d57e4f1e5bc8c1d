-- What an input to the manager does: what it says, which lists it adopts, and what its state keeps, over the world before it.
use Rattle.std.specs.Prelude.{◌≡◌, ◌⊎◌, ℕ, List, [], ◌∷◌, Some, None, ⊤}
use Rattle.curp_base.specs.Words.{Each}
use Rattle.curp_cmd.specs.Node.{manager_node}
use Rattle.curp_cmd.specs.declared.migration.Package.{Package}
use Rattle.curp_cmd.specs.declared.node.NodeId.{NodeId}
use Rattle.curp_cmd.specs.declared.node.NodeKind.{NodeKind}
use Rattle.curp_cmd.specs.declared.node.NodeKind.TheVariants as kind
use Rattle.curp_msg.specs.Moved.{Moved, says}
use Rattle.curp_msg.specs.declared.body.Body.{Body}
use Rattle.curp_msg.specs.declared.body.Body.TheVariants as body
use Rattle.curp_msg.specs.declared.body.Recover.{Recover}
use Rattle.curp_msg.specs.declared.config.PartConfig.{PartConfig}
use Rattle.curp_msg.specs.declared.message.Message.{Message}
use Rattle.curp_model.specs.Manager.{ManagerState, Migration, adopted_message}
use Rattle.curp_model.specs.World.{World}
use Rattle.curp_facts.specs.Facts.{IsAmong, IsGiven, IsMasterOf, Lists, WasOrdered, WasSent, WasTaken, lists_of_part}
use Rattle.curp_facts.specs.Invariant.{take_order}
use Rattle.curp_facts.specs.Reach.{IsReady}
use Rattle.curp_facts.specs.Said.{Says}
use Rattle.curp_facts.specs.Names.{AdoptedOk, IsOf, RecoveringOk, Top}

-- ---- what it says

-- no node of that kind and name is there, or it stands in lists of the master that were given
abbrev pub IsNewOrHome : World → NodeKind → (Lists → List NodeId) → NodeId → NodeId → Type 0
IsNewOrHome w k pick master node = (IsOf w k node → ⊥) ⊎ ((l : Lists) × IsGiven w l × (l.master ≡ master) × IsAmong node (pick l))

-- the nodes of new lists of a master
pub record NewNodes (w : World) (master : NodeId) (backups witnesses : List NodeId) : Type 0 where
  pub backups_are : Each (IsNewOrHome w kind.Backup (λ (l : Lists). l.backups) master) backups
  pub witnesses_are : Each (IsNewOrHome w kind.Witness (λ (l : Lists). l.witnesses) master) witnesses

-- an order to recover and new lists were sent before, or their nodes are new, or of the same master
abbrev pub OrdersOnce : World → NodeId → Body → Type 0
OrdersOnce w node (body.Recover o) = WasSent w (says manager_node node (body.Recover o)) ⊎ NewNodes w node o.backups o.witnesses
OrdersOnce w node (body.Prepare p) = WasSent w (says manager_node node (body.Prepare p)) ⊎ NewNodes w node p.backups p.witnesses
OrdersOnce w node _ = ⊤

-- a message is the manager's, and what it says is so already
pub record Uttered (w : World) (m : Message) : Type 0 where
  pub from : m.from ≡ manager_node
  pub says_so : (place : ℕ) → Says w place m.from m.to m.body
  pub orders : OrdersOnce w m.to m.body

-- ---- what it adopts

-- the lists that are told to be adopted were so before
abbrev pub ToldAgain : World → NodeId → Body → Type 0
ToldAgain w node (body.Adopted a) = AdoptedOk w node a
ToldAgain w node _ = ⊤

-- lists of the present master
pub record Renews (now : Lists) (c : PartConfig) : Type 0 where
  pub its_master : c.master ≡ now.master
  pub its_epoch : c.epoch ≡ now.epoch

-- lists of a master that was ordered to recover from the present ones
pub record Recovers (w : World) (now : Lists) (c : PartConfig) : Type 0 where
  pub order : Recover
  pub ok : RecoveringOk w now c.master order
  pub its_epoch : c.epoch ≡ order.epoch

-- an entry succeeds the present lists of its partition
pub record Succeeds (w : World) (c : PartConfig) : Type 0 where
  pub now : Lists
  pub top : Top w now
  pub its_part : c.part ≡ now.part
  pub how : Renews now c ⊎ Recovers w now c

-- all lists that are told to be adopted were so before, or one entry's alone are, which succeeds the present one
abbrev pub TellsAdopted : World → List Message → Type 0
TellsAdopted w out = Each (λ (m : Message). ToldAgain w m.to m.body) out ⊎ ((c : PartConfig) × (out ≡ adopted_message c ∷ []) × Succeeds w c)

-- ---- what its state keeps

-- the lists of an entry are ready
abbrev pub EntryKeeps : World → PartConfig → Type 0
EntryKeeps w c = IsReady w (lists_of_part c)

-- it was ordered to a master of the partition, or is so now
abbrev pub IsOrdered : World → List Message → ℕ → Body → Type 0
IsOrdered w out part b = WasOrdered w part b ⊎ ((node : NodeId) × IsMasterOf w part node × IsAmong (says manager_node node b) out)

-- the migration in work is ordered to be taken out of its source, and a package that is kept was told
pub record MovingKeeps (w : World) (out : List Message) (m : Migration) : Type 0 where
  pub ordered : IsOrdered w out m.source (body.TakeOut (take_order m))
  pub told : (p : Package) → m.moved ≡ Some p → WasTaken w (record { migration = m.number; «package» = p })

-- ---- all together

-- what an input to the manager does
pub record ManagerEffect (w : World) (r : Moved ManagerState) : Type 0 where
  pub messages : Each (Uttered w) r.messages
  pub adopts : TellsAdopted w r.messages
  pub entries : Each (EntryKeeps w) r.state.config.parts
  pub moving : (m : Migration) → r.state.moving ≡ Some m → MovingKeeps w r.messages m
  pub idle : r.completed ≡ None
