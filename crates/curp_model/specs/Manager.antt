-- The manager: one reliable node that names the nodes of each partition (this project's own; CURP's configuration manager).
use Rattle.std.specs.Prelude.{ℕ, ◌+◌, ◌-◌, ◌*◌, ◌^◌, ◌==◌, ◌&&◌, ◌||◌, nat_le, nat_lt, if◌then◌else◌, Bool, true, false, not, List, [], ◌∷◌, ◌++◌, map, flat_map, slice_set, Option, Some, None, is_some, option_and_then, Result, Ok}
use Rattle.std.specs.BTreeSet.{insert_key}
use Rattle.std.specs.List.{filter}
use Rattle.std.specs.Option.{ok_or}
use Rattle.std.specs.Ordering.{nat_cmp}
use Rattle.curp_base.specs.Cases.{◌>>=◌, first_there, only_if, refuse_if}
use Rattle.curp_base.specs.Words.{first_of, numbered, numbers_from, rises_past}
use Rattle.curp_cmd.specs.Node.{manager_node, master_node, backup_node, witness_node}
use Rattle.curp_cmd.specs.declared.migration.Package.{Package}
use Rattle.curp_cmd.specs.declared.node.Keeper.{Keeper}
use Rattle.curp_cmd.specs.declared.node.Keeper.TheVariants as keeper
use Rattle.curp_cmd.specs.declared.node.NodeId.{NodeId}
use Rattle.curp_msg.specs.Moved.{Moved, quiet, sends, unless_refused, says, says_each}
use Rattle.curp_msg.specs.declared.body.Body.{Body}
use Rattle.curp_msg.specs.declared.body.Body.TheVariants as body
use Rattle.curp_msg.specs.declared.body.Parcel.{Parcel}
use Rattle.curp_msg.specs.declared.body.Recover.{Recover}
use Rattle.curp_msg.specs.declared.body.Recovered.{Recovered}
use Rattle.curp_msg.specs.declared.config.Config.{Config}
use Rattle.curp_msg.specs.declared.config.PartConfig.{PartConfig}
use Rattle.curp_msg.specs.Input.{Input}
use Rattle.curp_msg.specs.Input as input
use Rattle.curp_msg.specs.declared.machine.Local.{Local}
use Rattle.curp_msg.specs.declared.machine.Local.TheVariants as local
use Rattle.curp_msg.specs.declared.message.Message.{Message}
use Rattle.curp_range.specs.Spans.{is_covered, without, with_range}
use Rattle.curp_model.specs.Ranges.{Range, range_of, opening_range}

-- ---- the state

-- how many backups and witnesses a partition has, how many partitions and clients there are
pub record Shape : Type 0 where
  pub f : ℕ
  pub parts : ℕ
  pub clients : ℕ

-- what the manager is doing with a partition: nothing, new lists with one fresh node, or a recovery
pub data Doing : Type 0 where
  Steady : Doing
  Replacing : (kind : Keeper) (fresh : NodeId) (version : ℕ) (backups witnesses : List NodeId) → Doing
  Recovering : (master : NodeId) (order : Recover) → Doing

-- a migration that isn't done: its range, where it comes from and goes to, and the package once it was taken
pub record Migration : Type 0 where
  pub number : ℕ
  pub range : Range
  pub source : ℕ
  pub target : ℕ
  pub moved : Option Package

-- the next numbers, which were never given
pub record Next : Type 0 where
  pub epoch : ℕ
  pub version : ℕ
  pub master : ℕ
  pub backup : ℕ
  pub witness : ℕ
  pub migration : ℕ

-- the adopted configuration, what is being done with each partition, the migration in work, and the clients that are gone
pub record ManagerState : Type 0 where
  pub shape : Shape
  pub config : Config
  pub doing : List Doing
  pub moving : Option Migration
  pub gone : List ℕ
  pub next : Next

-- ---- at opening

-- so many backups, numbered from one on
abbrev pub backup_nodes : ℕ → ℕ → List NodeId
backup_nodes first count = map backup_node (numbers_from first count)

-- so many witnesses, numbered from one on
abbrev pub witness_nodes : ℕ → ℕ → List NodeId
witness_nodes first count = map witness_node (numbers_from first count)

-- partition p has the master of its number, and the backups and witnesses of the numbers from (p - 1) f + 1 to p f
abbrev pub opening_part : Shape → ℕ → PartConfig
opening_part s p = record {
  part = p;
  epoch = 1;
  version = 1;
  master = master_node p;
  backups = backup_nodes ((p - 1) * s.f + 1) s.f;
  witnesses = witness_nodes ((p - 1) * s.f + 1) s.f;
  ranges = ((opening_range s.parts p).lo, (opening_range s.parts p).hi) ∷ [];
}

-- the configuration that all begin with
abbrev pub opening_config : Shape → Config
opening_config s = record { serial = 1; parts = map (opening_part s) (numbers_from 1 s.parts) }

-- the manager before any order
abbrev pub opening_manager : Shape → ManagerState
opening_manager s = record {
  shape = s;
  config = opening_config s;
  doing = map (λ p. Steady) (numbers_from 1 s.parts);
  moving = None;
  gone = [];
  next = record { epoch = 2; version = 2; master = s.parts + 1; backup = s.parts * s.f + 1; witness = s.parts * s.f + 1; migration = 1 };
}

-- ---- parts of the state

-- the adopted entry of a partition
abbrev pub part_at : ManagerState → ℕ → Option PartConfig
part_at g p = numbered g.config.parts p

-- what is being done with a partition has changed
abbrev pub with_doing : ManagerState → ℕ → Doing → ManagerState
with_doing g p d = record g { doing = slice_set g.doing (p - 1) d }

-- a partition's entry is replaced, and the serial rises
abbrev pub with_part : ManagerState → ℕ → PartConfig → ManagerState
with_part g p c = record g { config = record { serial = g.config.serial + 1; parts = slice_set g.config.parts (p - 1) c } }

-- ---- numbers

-- the greatest epoch, version, migration, serial and number of a node
abbrev pub last_number : ℕ
last_number = 2 ^ 32 - 1

-- one of the counters rises past its end
abbrev pub counter_ends : Next → Next → Bool
counter_ends n after =
    rises_past last_number n.epoch after.epoch || rises_past last_number n.version after.version
    || rises_past last_number n.master after.master || rises_past last_number n.backup after.backup
    || rises_past last_number n.witness after.witness || rises_past last_number n.migration after.migration

-- an input by which a counter or the serial would rise past its end changes nothing and sends nothing
abbrev pub unless_numbers_end : ManagerState → Moved ManagerState → Moved ManagerState
unless_numbers_end g r =
    if counter_ends g.next r.state.next || rises_past last_number g.config.serial r.state.config.serial then quiet g else r

-- ---- what it says

-- fresh backups are installed at an epoch
abbrev pub install_on : ℕ → List NodeId → List Message
install_on epoch backups = says_each manager_node backups (body.Install epoch)

-- witnesses are started at an epoch
abbrev pub start_on : ℕ → ℕ → List NodeId → List Message
start_on part epoch witnesses = says_each manager_node witnesses (body.Start (record { part = part; epoch = epoch }))

-- a master is told that it is adopted with its lists
abbrev pub adopted_message : PartConfig → Message
adopted_message p = says manager_node p.master (body.Adopted (record { part = p.part; epoch = p.epoch; version = p.version }))

-- what `recover` sends
abbrev pub recover_messages : NodeId → Recover → List Message
recover_messages master o =
    install_on o.epoch o.backups ++ start_on o.part o.epoch o.witnesses ++ says manager_node master (body.Recover o) ∷ []

-- what a fresh backup or witness is sent
abbrev pub fresh_keeper : PartConfig → Keeper → NodeId → List Message
fresh_keeper p keeper.Backup fresh = install_on p.epoch (fresh ∷ [])
fresh_keeper p keeper.Witness fresh = start_on p.part p.epoch (fresh ∷ [])

-- what `replace` sends
abbrev pub replace_messages : PartConfig → Keeper → NodeId → ℕ → List NodeId → List NodeId → List Message
replace_messages p kind fresh version backups witnesses =
    fresh_keeper p kind fresh ++ says manager_node p.master (body.Prepare (record { version = version; backups = backups; witnesses = witnesses })) ∷ []

-- ---- recover

-- the order to a fresh master, with the next numbers (CURP: one backup and one witness are enough)
abbrev pub recover_order : ManagerState → PartConfig → NodeId → NodeId → Recover
recover_order g p backup witness = record {
  part = p.part;
  epoch = g.next.epoch;
  version = g.next.version;
  backup = backup;
  witness = witness;
  backups = backup_nodes g.next.backup g.shape.f;
  witnesses = witness_nodes g.next.witness g.shape.f;
  lo = (opening_range g.shape.parts p.part).lo;
  hi = (opening_range g.shape.parts p.part).hi;
  ordered = (opening_range g.shape.parts p.part).ordered;
}

-- the next numbers after a recovery was ordered
abbrev pub after_recover_numbers : ManagerState → Next
after_recover_numbers g = record g.next {
  epoch = g.next.epoch + 1;
  version = g.next.version + 1;
  master = g.next.master + 1;
  backup = g.next.backup + g.shape.f;
  witness = g.next.witness + g.shape.f;
}

-- an attempt or a replacement that isn't finished is given up
abbrev pub recovers : ManagerState → ℕ → Recover → Moved ManagerState
recovers g p o = sends
    (record (with_doing g p (Recovering (master_node g.next.master) o)) { next = after_recover_numbers g })
    (recover_messages (master_node g.next.master) o)

-- what is ordered, or the number of the refusal: 1 (NoPart), 2 (NoBackup) and 3 (NoWitness) where there is no such partition,
-- or no such place in its adopted lists
abbrev pub recovery_for : ManagerState → ℕ → ℕ → ℕ → Result Recover ℕ
recovery_for g p backup witness = do
  c ← ok_or (part_at g p) 1
  from ← ok_or (numbered c.backups backup) 2
  other ← ok_or (numbered c.witnesses witness) 3
  Ok (recover_order g c from other)

-- a partition is to be recovered from a backup and a witness at these places
unfoldable pub recover : ManagerState → ℕ → ℕ → ℕ → Moved ManagerState
recover g p backup witness = unless_refused g (recovers g p) (recovery_for g p backup witness)

-- ---- replace

-- the adopted backups or witnesses
abbrev pub keepers_of : PartConfig → Keeper → List NodeId
keepers_of c keeper.Backup = c.backups
keepers_of c keeper.Witness = c.witnesses

-- the next fresh backup or witness
abbrev pub fresh_node : ManagerState → Keeper → NodeId
fresh_node g keeper.Backup = backup_node g.next.backup
fresh_node g keeper.Witness = witness_node g.next.witness

-- the backups with the fresh one in its place
abbrev pub new_backups : PartConfig → Keeper → ℕ → NodeId → List NodeId
new_backups c keeper.Backup place fresh = slice_set c.backups (place - 1) fresh
new_backups c keeper.Witness place fresh = c.backups

-- the witnesses with the fresh one in its place
abbrev pub new_witnesses : PartConfig → Keeper → ℕ → NodeId → List NodeId
new_witnesses c keeper.Backup place fresh = c.witnesses
new_witnesses c keeper.Witness place fresh = slice_set c.witnesses (place - 1) fresh

-- the next numbers after a replacement was ordered
abbrev pub after_replace_numbers : Next → Keeper → Next
after_replace_numbers n keeper.Backup = record n { version = n.version + 1; backup = n.backup + 1 }
after_replace_numbers n keeper.Witness = record n { version = n.version + 1; witness = n.witness + 1 }

-- a replacement is in work, under a new version
abbrev pub replaces : ManagerState → ℕ → Keeper → ℕ → PartConfig → Moved ManagerState
replaces g p kind place c =
    let fresh = fresh_node g kind in
    let backups = new_backups c kind place fresh in
    let witnesses = new_witnesses c kind place fresh in
    sends
    (record (with_doing g p (Replacing kind fresh g.next.version backups witnesses)) { next = after_replace_numbers g.next kind })
    (replace_messages c kind fresh g.next.version backups witnesses)

-- an attempt to recover isn't finished
abbrev pub is_recovering : Option Doing → Bool
is_recovering (Some (Recovering master order)) = true
is_recovering _ = false

-- a replacement isn't finished
abbrev pub is_replacing : Option Doing → Bool
is_replacing (Some (Replacing kind fresh version backups witnesses)) = true
is_replacing _ = false

-- the partition's adopted entry, or the number of the refusal: 1 (NoPart) and 2 (NoPlace) where there is no such partition or
-- place, 3 (Recovering) and 4 (Replacing) where an attempt or a replacement isn't finished
abbrev pub replacement_for : ManagerState → Keeper → ℕ → ℕ → Result PartConfig ℕ
replacement_for g kind p place = do
  c ← ok_or (part_at g p) 1
  _ ← ok_or (numbered (keepers_of c kind) place) 2
  _ ← refuse_if (is_recovering (numbered g.doing p)) 3
  _ ← refuse_if (is_replacing (numbered g.doing p)) 4
  Ok c

-- the backup or the witness at a place is to be replaced
unfoldable pub replace : ManagerState → Keeper → ℕ → ℕ → Moved ManagerState
replace g kind p place = unless_refused g (replaces g p kind place) (replacement_for g kind p place)

-- ---- adoption

-- the new entry is adopted, and the master is told
abbrev pub adopts : ManagerState → ℕ → PartConfig → Moved ManagerState
adopts g p c = sends (with_doing (with_part g p c) p Steady) (adopted_message c ∷ [])

-- what is adopted already is told again, in whatever is being done
abbrev pub tells_again : ManagerState → Option PartConfig → Moved ManagerState
tells_again g None = quiet g
tells_again g (Some c) = sends g (adopted_message c ∷ [])

-- an attempt to recover a partition that isn't finished: the master that makes it, and its order
pub record Attempted : Type 0 where
  pub master : NodeId
  pub order : Recover

-- the attempt that is being made, if it has that epoch. It is the newest of its partition
abbrev pub attempt_at : ℕ → Option Doing → Option Attempted
attempt_at epoch (Some (Recovering master o)) = only_if (o.epoch == epoch) (record { master = master; order = o })
attempt_at epoch _ = None

-- the attempt that a master says is finished
abbrev pub finished : ManagerState → Recovered → Option Attempted
finished g r = option_and_then (λ (c : PartConfig). attempt_at r.epoch (numbered g.doing r.part)) (part_at g r.part)

-- the entry of a recovered partition
abbrev pub recovered_part : PartConfig → Attempted → PartConfig
recovered_part c a = record c { epoch = a.order.epoch; version = a.order.version; master = a.master; backups = a.order.backups; witnesses = a.order.witnesses }

-- the adopted entry of a partition at that epoch
abbrev pub adopted_at : ManagerState → Recovered → Option PartConfig
adopted_at g r = option_and_then (λ (c : PartConfig). only_if (c.epoch == r.epoch) c) (part_at g r.part)

-- the newest attempt is adopted; an older one counts for nothing
abbrev pub recovered_in : ManagerState → Recovered → Option Attempted → Option PartConfig → Moved ManagerState
recovered_in g r (Some a) (Some c) = adopts g r.part (recovered_part c a)
recovered_in g r _ _ = tells_again g (adopted_at g r)

-- a master has recovered a partition at an epoch
unfoldable pub on_recovered : ManagerState → Recovered → Moved ManagerState
on_recovered g r = recovered_in g r (finished g r) (part_at g r.part)

-- the recovery that a message lets the manager adopt, if it does
abbrev pub adopted_by : ManagerState → Body → Option Attempted
adopted_by g (body.Recovered r) = if rises_past last_number g.config.serial (g.config.serial + 1) then None else finished g r
adopted_by g _ = None

-- the recovery that an input lets the manager adopt
abbrev pub adoption : ManagerState → Input → Option Attempted
adoption g (input.Local order) = None
adoption g (input.Message m) = adopted_by g m.body

-- the lists of the version in work
pub record NewLists : Type 0 where
  pub part : PartConfig
  pub version : ℕ
  pub backups : List NodeId
  pub witnesses : List NodeId

-- the new lists of a partition, if it is being given lists of that version
abbrev pub lists_in_work : ℕ → PartConfig → Option Doing → Option NewLists
lists_in_work version c (Some (Replacing kind fresh own backups witnesses)) =
    only_if (own == version) (record { part = c; version = own; backups = backups; witnesses = witnesses })
lists_in_work version c _ = None

-- the first partition that is being given lists of that version. No two have one version
abbrev pub version_in_work : ManagerState → ℕ → Option NewLists
version_in_work g version = first_there (map (λ (c : PartConfig). lists_in_work version c (numbered g.doing c.part)) g.config.parts)

-- the first partition whose adopted lists have that version
abbrev pub version_adopted : ManagerState → ℕ → Option PartConfig
version_adopted g version = first_of (filter (λ (c : PartConfig). c.version == version) g.config.parts)

-- the version in work is adopted
abbrev pub prepared_in : ManagerState → ℕ → Option NewLists → Moved ManagerState
prepared_in g version (Some p) = adopts g p.part.part (record p.part { version = p.version; backups = p.backups; witnesses = p.witnesses })
prepared_in g version None = tells_again g (version_adopted g version)

-- a master has its log on the backups of a new list, whichever master says so
unfoldable pub on_prepared : ManagerState → ℕ → Moved ManagerState
on_prepared g version = prepared_in g version (version_in_work g version)

-- ---- migrations

-- a partition owns the whole range
abbrev pub owns_range : ℕ → ℕ → PartConfig → Bool
owns_range lo hi c = is_covered c.ranges lo hi

-- the first partition that owns the whole range
abbrev pub owner_of_range : ManagerState → ℕ → ℕ → Option PartConfig
owner_of_range g lo hi = first_of (filter (owns_range lo hi) g.config.parts)

-- the owner's master is to give the range away
abbrev pub take_message : PartConfig → ℕ → Range → Message
take_message owner number r =
    says manager_node owner.master (body.TakeOut (record { migration = number; lo = r.lo; hi = r.hi; ordered = r.ordered }))

-- the target's master is to take the range over
abbrev pub give_message : PartConfig → ℕ → Package → Message
give_message target number carried = says manager_node target.master (body.GiveIn (record { migration = number; «package» = carried }))

-- a range that is to move, from the partition that owns it to another one
pub record Move : Type 0 where
  pub range : Range
  pub owner : PartConfig
  pub target : PartConfig

-- a migration is in work
abbrev pub migrates : ManagerState → Move → Moved ManagerState
migrates g v =
    let m : Migration = record { number = g.next.migration; range = v.range; source = v.owner.part; target = v.target.part; moved = None } in
    sends
    (record g { moving = Some m; next = record g.next { migration = g.next.migration + 1 } })
    (take_message v.owner g.next.migration v.range ∷ [])

-- what moves, or the number of the refusal: 1 (BadRange) where lo exceeds hi, 2 (NoPart) where there is no such target,
-- 3 (SameOwner) where it owns all of it, 4 (SplitOwner) where no one partition does, 5 (Moving) where another migration is in work
abbrev pub move_for : ManagerState → ℕ → ℕ → ℕ → Result Move ℕ
move_for g lo hi to = do
  r ← ok_or (range_of lo hi) 1
  target ← ok_or (part_at g to) 2
  _ ← refuse_if (owns_range r.lo r.hi target) 3
  owner ← ok_or (owner_of_range g r.lo r.hi) 4
  _ ← refuse_if (is_some g.moving) 5
  Ok (record { range = r; owner = owner; target = target })

-- the hashes from lo to hi are to move to a partition
unfoldable pub migrate : ManagerState → ℕ → ℕ → ℕ → Moved ManagerState
migrate g lo hi to = unless_refused g (migrates g) (move_for g lo hi to)

-- the package goes to the target's master
abbrev pub gives : ManagerState → Migration → Package → Option PartConfig → Moved ManagerState
gives g m carried None = quiet g
gives g m carried (Some target) = sends (record g { moving = Some (record m { moved = Some carried }) }) (give_message target m.number carried ∷ [])

-- the package of the migration in work is kept, and goes to the target's master, each time that it comes
abbrev pub taken_in : ManagerState → Parcel → Option Migration → Moved ManagerState
taken_in g t None = quiet g
taken_in g t (Some m) = if m.number == t.migration then gives g m t.package (part_at g m.target) else quiet g

-- a master has given a range away
unfoldable pub on_taken : ManagerState → Parcel → Moved ManagerState
on_taken g t = taken_in g t g.moving

-- the range belongs to the target from then on
abbrev pub moved_part : Migration → PartConfig → PartConfig
moved_part m c =
    if c.part == m.source then record c { ranges = without c.ranges m.range.lo m.range.hi }
    else if c.part == m.target then record c { ranges = with_range c.ranges m.range.lo m.range.hi }
    else c

-- the serial rises, and no migration is in work any more
abbrev pub given_in : ManagerState → ℕ → Option Migration → Moved ManagerState
given_in g number None = quiet g
given_in g number (Some m) =
    if m.number == number
    then quiet (record g { config = record { serial = g.config.serial + 1; parts = map (moved_part m) g.config.parts }; moving = None })
    else quiet g

-- a master has taken a range over
unfoldable pub on_given : ManagerState → ℕ → Moved ManagerState
on_given g number = given_in g number g.moving

-- ---- clients that are gone

-- each partition's master is told of a client that is gone
abbrev pub expire_messages : ManagerState → ℕ → List Message
expire_messages g client = says_each manager_node (map (λ c. c.master) g.config.parts) (body.ExpireClient client)

-- a client is gone for good, and each master is told
abbrev pub expires : ManagerState → ℕ → Moved ManagerState
expires g client = sends (record g { gone = insert_key nat_cmp g.gone client }) (expire_messages g client)

-- the client, or the number of the refusal: 1 (NoClient) where the header has no such client
abbrev pub client_for : ManagerState → ℕ → Result ℕ ℕ
client_for g client = do
  _ ← refuse_if (not (nat_lt 0 client && nat_le client g.shape.clients)) 1
  Ok client

-- a client is declared gone
unfoldable pub expire : ManagerState → ℕ → Moved ManagerState
expire g client = unless_refused g (expires g) (client_for g client)

-- ---- nudge

-- what may have been lost of a partition
abbrev pub nudge_part : PartConfig → Option Doing → List Message
nudge_part c (Some (Replacing kind fresh version backups witnesses)) = replace_messages c kind fresh version backups witnesses
nudge_part c (Some (Recovering master order)) = recover_messages master order
nudge_part c _ = start_on c.part c.epoch c.witnesses ++ adopted_message c ∷ []

-- the take again, or the give once the package is there
abbrev pub nudge_give : ManagerState → Migration → Option Package → List Message
nudge_give g m None = flat_map (λ c. if c.part == m.source then take_message c m.number m.range ∷ [] else []) g.config.parts
nudge_give g m (Some carried) = flat_map (λ c. if c.part == m.target then give_message c m.number carried ∷ [] else []) g.config.parts

-- what the migration in work waits for
abbrev pub nudge_moving : ManagerState → Option Migration → List Message
nudge_moving g None = []
nudge_moving g (Some m) = nudge_give g m m.moved

-- each partition in turn, then the migration in work, then each client that is gone
unfoldable pub nudge : ManagerState → Moved ManagerState
nudge g = sends g
    (flat_map (λ c. nudge_part c (numbered g.doing c.part)) g.config.parts ++ nudge_moving g g.moving ++ flat_map (expire_messages g) g.gone)

-- ---- inputs

-- what a message does, by its kind
abbrev pub heard : ManagerState → NodeId → Body → Moved ManagerState
heard g from body.Fetch = sends g (says manager_node from (body.Configuration g.config) ∷ [])
heard g from (body.Recovered r) = on_recovered g r
heard g from (body.Prepared version) = on_prepared g version
heard g from (body.Taken t) = on_taken g t
heard g from (body.Given number) = on_given g number
heard g from _ = quiet g

-- what an order does, by its kind
abbrev pub told : ManagerState → Local → Moved ManagerState
told g (local.Recover part backup witness) = recover g part backup witness
told g (local.Replace kind part place) = replace g kind part place
told g (local.Migrate lo hi to) = migrate g lo hi to
told g local.Nudge = nudge g
told g (local.Expire client) = expire g client
told g _ = quiet g

-- a message comes to the manager
unfoldable pub on_manager : ManagerState → NodeId → Body → Moved ManagerState
on_manager g from b = unless_numbers_end g (heard g from b)

-- the manager gets an order
unfoldable pub manager_ordered : ManagerState → Local → Moved ManagerState
manager_ordered g order = unless_numbers_end g (told g order)

-- an input comes to the manager
abbrev pub manager_input : ManagerState → Input → Moved ManagerState
manager_input g (input.Local order) = manager_ordered g order
manager_input g (input.Message m) = on_manager g m.from m.body
