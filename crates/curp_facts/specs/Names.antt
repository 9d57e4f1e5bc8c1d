-- The shape of a world and the names in it: what holds of the manager's numbers, of the lists that it gave, of those that it
-- adopted, of what it is doing, and of whatever it has said.
use Rattle.std.specs.Prelude.{◌≡◌, ◌≢◌, ◌≤◌, ◌<◌, ◌⊎◌, ℕ, ◌+◌, List, length, Option, Some, None, ⊤}
use Rattle.curp_base.specs.Words.{At, Each, numbered}
use Rattle.curp_cmd.specs.Node.{manager_node, master_node}
use Rattle.curp_cmd.specs.declared.migration.Package.{Package}
use Rattle.curp_cmd.specs.declared.node.Keeper.{Keeper}
use Rattle.curp_cmd.specs.declared.node.Keeper.TheVariants as keeper
use Rattle.curp_cmd.specs.declared.node.NodeId.{NodeId}
use Rattle.curp_cmd.specs.declared.node.NodeKind.{NodeKind}
use Rattle.curp_cmd.specs.declared.node.NodeKind.TheVariants as kind
use Rattle.curp_msg.specs.Moved.{says}
use Rattle.curp_msg.specs.declared.body.Adopted.{Adopted}
use Rattle.curp_msg.specs.declared.body.Body.{Body}
use Rattle.curp_msg.specs.declared.body.Body.TheVariants as body
use Rattle.curp_msg.specs.declared.body.Prepare.{Prepare}
use Rattle.curp_msg.specs.declared.body.Recover.{Recover}
use Rattle.curp_msg.specs.declared.body.Start.{Start}
use Rattle.curp_msg.specs.declared.config.Config.{Config}
use Rattle.curp_msg.specs.declared.config.PartConfig.{PartConfig}
use Rattle.curp_model.specs.Manager.{Doing, Migration, Recovering, Replacing, Shape, Steady}
use Rattle.curp_model.specs.Named.{IsNodeOf}
use Rattle.curp_model.specs.World.{World}
use Rattle.curp_facts.specs.Facts.{IsAdoptedNow, IsAmong, IsGiven, Lists, WasAdopted, WasSent, WasTaken, hi_of, lists_of_order, lists_of_part, lo_of}

-- ---- numbers

-- what the manager was told of the header is in the ranges of headers: there is a backup, a partition and a client at least
pub record ShapeOk (s : Shape) : Type 0 where
  pub f : 1 ≤ s.f
  pub parts : 1 ≤ s.parts
  pub clients : 1 ≤ s.clients

-- the numbers of a world
pub record NumbersOk (w : World) : Type 0 where
  -- nodes of each kind are as many as were named
  pub clients : length w.clients ≡ w.manager.shape.clients
  pub masters : length w.masters + 1 ≡ w.manager.next.master
  pub backups : length w.backups + 1 ≡ w.manager.next.backup
  pub witnesses : length w.witnesses + 1 ≡ w.manager.next.witness
  -- each partition has an entry, and something that is being done with it
  pub parts : length w.manager.config.parts ≡ w.manager.shape.parts
  pub doing : length w.manager.doing ≡ w.manager.shape.parts
  -- each recovery takes one epoch and one master
  pub epoch : w.manager.next.epoch + w.manager.shape.parts ≡ w.manager.next.master + 1
  -- the next numbers are above those of the opening
  pub above : 1 < w.manager.next.epoch
  pub version : 1 < w.manager.next.version

-- ---- lists that were given

-- a node of the world, of that kind
abbrev pub IsOf : World → NodeKind → NodeId → Type 0
IsOf w k node = (node.kind ≡ k) × IsNodeOf w k node.number

-- no two places of a list have the same
abbrev pub AllDiffer : {A : Type 0} → List A → Type 0
AllDiffer {A} xs = (i j : ℕ) (x : A) → At xs i x → At xs j x → i ≡ j

-- at opening a partition's master has the number of the partition; behind these, each epoch above the first has the next number
abbrev pub HasMasterNumber : ℕ → Lists → Type 0
HasMasterNumber parts l = ((l.epoch ≡ 1) × (l.master ≡ master_node l.part))
    ⊎ ((n : ℕ) × (1 < l.epoch) × (l.master ≡ master_node n) × (l.epoch + parts ≡ n + 1))

-- Lists that were given: the numbers were used, the nodes are of the world and of the right kinds, each of the two lists has f
-- of them, and no node stands twice in it
pub record GivenOk (w : World) (l : Lists) : Type 0 where
  pub part : (1 ≤ l.part) × (l.part ≤ w.manager.shape.parts)
  pub epoch : (1 ≤ l.epoch) × (l.epoch < w.manager.next.epoch)
  pub version : (1 ≤ l.version) × (l.version < w.manager.next.version)
  pub master : IsOf w kind.Master l.master
  pub its_number : HasMasterNumber w.manager.shape.parts l
  pub backups : Each (IsOf w kind.Backup) l.backups
  pub witnesses : Each (IsOf w kind.Witness) l.witnesses
  pub many_backups : length l.backups ≡ w.manager.shape.f
  pub many_witnesses : length l.witnesses ≡ w.manager.shape.f
  pub backups_differ : AllDiffer l.backups
  pub witnesses_differ : AllDiffer l.witnesses

-- of two lists that were given
pub record Agree (l k : Lists) : Type 0 where
  -- a master has one partition and one epoch
  pub by_master : l.master ≡ k.master → (l.part ≡ k.part) × (l.epoch ≡ k.epoch)
  -- a partition has one master an epoch
  pub by_epoch : l.part ≡ k.part → l.epoch ≡ k.epoch → l.master ≡ k.master
  -- an epoch above the first is of one master of all partitions
  pub by_late_epoch : 1 < l.epoch → l.epoch ≡ k.epoch → l.master ≡ k.master
  -- a backup is at home with one master
  pub by_backup : (node : NodeId) → IsAmong node l.backups → IsAmong node k.backups → l.master ≡ k.master
  -- and so is a witness
  pub by_witness : (node : NodeId) → IsAmong node l.witnesses → IsAmong node k.witnesses → l.master ≡ k.master
  -- a master has one list a version
  pub by_version : l.master ≡ k.master → l.version ≡ k.version → l ≡ k
  -- and a version above the first is of one list of all
  pub by_late_version : 1 < l.version → l.version ≡ k.version → l ≡ k

-- ---- what the manager has said

-- a backup is installed at the epoch of given lists that name it
pub record InstallOk (w : World) (node : NodeId) (epoch : ℕ) : Type 0 where
  pub lists : Lists
  pub given : IsGiven w lists
  pub named : IsAmong node lists.backups
  pub its_epoch : epoch ≡ lists.epoch

-- a witness is started for the partition and the epoch of given lists that name it
pub record StartOk (w : World) (node : NodeId) (s : Start) : Type 0 where
  pub lists : Lists
  pub given : IsGiven w lists
  pub named : IsAmong node lists.witnesses
  pub its_part : s.part ≡ lists.part
  pub its_epoch : s.epoch ≡ lists.epoch

-- an order to recover names a backup and a witness of adopted lists of its partition, with a smaller epoch and version, and has
-- the range that the partition had at opening
pub record RecoverOrderOk (w : World) (node : NodeId) (o : Recover) : Type 0 where
  pub before : Lists
  pub was : WasAdopted w before
  pub its_part : before.part ≡ o.part
  pub earlier : before.epoch < o.epoch
  pub older : before.version < o.version
  pub its_backup : IsAmong o.backup before.backups
  pub its_witness : IsAmong o.witness before.witnesses
  pub its_lo : o.lo ≡ lo_of w o.part
  pub its_hi : o.hi ≡ hi_of w o.part

-- new lists go to a master that was adopted, with a smaller version
pub record PrepareOk (w : World) (node : NodeId) (p : Prepare) : Type 0 where
  pub before : Lists
  pub was : WasAdopted w before
  pub its_master : before.master ≡ node
  pub older : before.version < p.version

-- what is told to be adopted is lists that were given and are adopted, to their master
pub record AdoptedOk (w : World) (node : NodeId) (a : Adopted) : Type 0 where
  pub lists : Lists
  pub was : WasAdopted w lists
  pub its_master : lists.master ≡ node
  pub its_part : a.part ≡ lists.part
  pub its_epoch : a.epoch ≡ lists.epoch
  pub its_version : a.version ≡ lists.version

-- a master that was adopted
pub record IsAdoptedMaster (w : World) (node : NodeId) : Type 0 where
  pub lists : Lists
  pub was : WasAdopted w lists
  pub its_master : lists.master ≡ node

-- a configuration has an entry a partition, in their order, each of adopted lists
pub record ConfigurationOk (w : World) (config : Config) : Type 0 where
  pub parts : length config.parts ≡ w.manager.shape.parts
  pub numbers : (k : ℕ) (c : PartConfig) → At config.parts k c → c.part ≡ k + 1
  pub adopted : Each (λ (c : PartConfig). WasAdopted w (lists_of_part c)) config.parts

-- a client of the header
abbrev pub IsClientNumber : World → ℕ → Type 0
IsClientNumber w n = (1 ≤ n) × (n ≤ w.manager.shape.clients)

-- a package that the manager keeps, or gives on, was told to it as that of the migration
abbrev pub IsCarried : World → ℕ → Option Package → Type 0
IsCarried w number None = ⊤
IsCarried w number (Some carried) = WasTaken w (record { migration = number; «package» = carried })

-- the package of the migration in work
abbrev pub MovingOk : World → Option Migration → Type 0
MovingOk w None = ⊤
MovingOk w (Some m) = IsCarried w m.number m.moved

-- what the manager has said to a node, by the kind of the message. It says nothing else
abbrev pub ManagerSays : World → NodeId → Body → Type 0
ManagerSays w node (body.Install epoch) = InstallOk w node epoch
ManagerSays w node (body.Start s) = StartOk w node s
ManagerSays w node (body.Recover o) = RecoverOrderOk w node o
ManagerSays w node (body.Prepare p) = PrepareOk w node p
ManagerSays w node (body.Adopted a) = AdoptedOk w node a
ManagerSays w node (body.TakeOut t) = IsAdoptedMaster w node
ManagerSays w node (body.GiveIn g) = IsAdoptedMaster w node × WasTaken w g
ManagerSays w node (body.ExpireClient client) = IsAdoptedMaster w node × IsClientNumber w client
ManagerSays w node (body.Configuration config) = IsOf w kind.Client node × ConfigurationOk w config
ManagerSays w node _ = ⊥

-- ---- the top, and what is being done

-- the present lists of a partition are adopted, and above all that were adopted before
pub record Top (w : World) (now : Lists) : Type 0 where
  pub was : WasAdopted w now
  pub epochs : (l : Lists) → WasAdopted w l → l.part ≡ now.part → l.epoch ≤ now.epoch
  pub versions : (l : Lists) → WasAdopted w l → l.part ≡ now.part → l.version ≤ now.version
  pub last : (l : Lists) → WasAdopted w l → l.part ≡ now.part → l.version ≡ now.version → l ≡ now

-- lists of an order to recover, of which the manager was told that they are recovered
pub record RecoveredFor (w : World) (l : Lists) : Type 0 where
  pub order : Recover
  pub ordered : WasSent w (says manager_node l.master (body.Recover order))
  pub its_lists : lists_of_order l.master order ≡ l
  pub from : NodeId
  pub told : WasSent w (says from manager_node (body.Recovered (record { part = l.part; epoch = l.epoch })))

-- new lists that were sent to their master, of which the manager was told that they are prepared
pub record PreparedFor (w : World) (l : Lists) : Type 0 where
  pub prepare : Prepare
  pub sent : WasSent w (says manager_node l.master (body.Prepare prepare))
  pub its_version : prepare.version ≡ l.version
  pub from : NodeId
  pub told : WasSent w (says from manager_node (body.Prepared l.version))

-- why lists are adopted: they are of the opening, or somebody told the manager that they are recovered or prepared
abbrev pub IsToldOf : World → Lists → Type 0
IsToldOf w l = (l.version ≡ 1) ⊎ (RecoveredFor w l ⊎ PreparedFor w l)

-- lists of an order to recover, which names a backup and a witness of those before, of a smaller epoch
pub record RecoveredFrom (w : World) (before l : Lists) : Type 0 where
  pub order : Recover
  pub ordered : WasSent w (says manager_node l.master (body.Recover order))
  pub its_lists : lists_of_order l.master order ≡ l
  pub its_backup : IsAmong order.backup before.backups
  pub its_witness : IsAmong order.witness before.witnesses
  pub earlier : before.epoch < l.epoch

-- Behind the opening, adopted lists come next after other adopted lists of their partition. Either their master is the same, or it
-- recovered from a backup and a witness of those
pub record NextAfter (w : World) (l : Lists) : Type 0 where
  pub before : Lists
  pub was : WasAdopted w before
  pub its_part : before.part ≡ l.part
  pub older : before.version < l.version
  pub last : (k : Lists) → WasAdopted w k → k.part ≡ l.part → k.version < l.version → k.version ≤ before.version
  pub how : (before.master ≡ l.master) ⊎ RecoveredFrom w before l

-- the fresh node of a replacement stands in its new lists
abbrev pub IsPlaced : Keeper → NodeId → Prepare → Type 0
IsPlaced keeper.Backup fresh p = IsAmong fresh p.backups
IsPlaced keeper.Witness fresh p = IsAmong fresh p.witnesses

-- new lists were sent to the present master, under a version above the present one
pub record ReplacingOk (w : World) (now : Lists) (kind : Keeper) (fresh : NodeId) (p : Prepare) : Type 0 where
  pub newer : now.version < p.version
  pub placed : IsPlaced kind fresh p
  pub sent : WasSent w (says manager_node now.master (body.Prepare p))

-- a recovery of that partition was ordered, with an epoch and a version above the present ones, from a backup and a witness of
-- the present lists
pub record RecoveringOk (w : World) (now : Lists) (node : NodeId) (o : Recover) : Type 0 where
  pub its_part : o.part ≡ now.part
  pub later : now.epoch < o.epoch
  pub newer : now.version < o.version
  pub its_backup : IsAmong o.backup now.backups
  pub its_witness : IsAmong o.witness now.witnesses
  pub sent : WasSent w (says manager_node node (body.Recover o))

-- what the manager is doing with a partition, over its present lists
abbrev pub DoingOk : World → Lists → Doing → Type 0
DoingOk w now Steady = ⊤
DoingOk w now (Replacing kind fresh version backups witnesses) =
    ReplacingOk w now kind fresh (record { version = version; backups = backups; witnesses = witnesses })
DoingOk w now (Recovering node o) = RecoveringOk w now node o

-- ---- all together

-- what holds of shape and names after every step
pub record Names (w : World) : Type 0 where
  -- the header's numbers are in range
  pub shape : ShapeOk w.manager.shape
  -- nodes are as many as were named
  pub numbers : NumbersOk w
  -- the entries stand in the order of their partitions
  pub entries : (k : ℕ) (c : PartConfig) → At w.manager.config.parts k c → c.part ≡ k + 1
  -- lists that were given have used numbers and nodes of the world
  pub given : (l : Lists) → IsGiven w l → GivenOk w l
  -- a node has one home, and a version above the first one list
  pub agree : (l k : Lists) → IsGiven w l → IsGiven w k → Agree l k
  -- what the manager has said names nodes of the world, and is true
  pub manager_says : (node : NodeId) (b : Body) → WasSent w (says manager_node node b) → ManagerSays w node b
  -- a node has one order to recover
  pub one_order : (node : NodeId) (o q : Recover) → WasSent w (says manager_node node (body.Recover o))
      → WasSent w (says manager_node node (body.Recover q)) → o ≡ q
  -- new lists have no version of a recovery
  pub versions_apart : (node other : NodeId) (o : Recover) (p : Prepare) → WasSent w (says manager_node node (body.Recover o))
      → WasSent w (says manager_node other (body.Prepare p)) → o.version ≢ p.version
  -- the present lists of a partition are above all that were adopted
  pub top : (c : PartConfig) → IsAdoptedNow w c → Top w (lists_of_part c)
  -- of the adopted lists of a partition, those of a larger version have no smaller epoch
  pub chain : (l k : Lists) → WasAdopted w l → WasAdopted w k → l.part ≡ k.part → l.version ≤ k.version → l.epoch ≤ k.epoch
  -- adopted lists come after one another
  pub next_after : (l : Lists) → WasAdopted w l → 1 < l.version → NextAfter w l
  -- and they were told to be complete
  pub adopted_for : (l : Lists) → WasAdopted w l → IsToldOf w l
  -- what is being done was ordered, with numbers above the present ones
  pub doing : (c : PartConfig) (d : Doing) → IsAdoptedNow w c → numbered w.manager.doing c.part ≡ Some d → DoingOk w (lists_of_part c) d
  -- who is gone is a client of the header
  pub gone : Each (IsClientNumber w) w.manager.gone
  -- the package of the migration in work was told
  pub moving : MovingOk w w.manager.moving
