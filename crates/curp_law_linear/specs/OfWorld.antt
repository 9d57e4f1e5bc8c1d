-- The machine's state of a world.
use Rattle.std.specs.List.{filter}
use Rattle.std.specs.Prelude.{ℕ, List, [], ◌∷◌, drop, flat_map, map, take, Option, Some, None}
use Rattle.curp_base.specs.Words.{numbered}
use Rattle.curp_cmd.specs.Node.{master_node}
use Rattle.curp_cmd.specs.declared.entry.Entry.{Entry}
use Rattle.curp_cmd.specs.declared.node.NodeId.{NodeId}
use Rattle.curp_msg.specs.declared.body.Body.{Body}
use Rattle.curp_msg.specs.declared.body.Body.TheVariants as body
use Rattle.curp_msg.specs.declared.config.PartConfig.{PartConfig}
use Rattle.curp_msg.specs.declared.message.Message.{Message}
use Rattle.curp_model.specs.Manager.{Migration}
use Rattle.curp_model.specs.Marks.{Cut, Executed, Looked, Mark, Place, Quick, cuts_part}
use Rattle.curp_model.specs.Recovery.{MasterStage}
use Rattle.curp_model.specs.World.{World, messages}
use Rattle.curp_facts.specs.Facts.{Logged, hi_of, lo_of, node_log}
use Rattle.curp_law_linear.specs.Hashes.{Part}
use Rattle.curp_law_linear.specs.Line.{Left, LineState}

-- the entries of a log that is there
abbrev pub logged_entries : Option Logged → List Entry
logged_entries None = []
logged_entries (Some l) = l.log

-- the log of a master, nothing where it has none
abbrev pub entries_at : Option MasterStage → List Entry
entries_at None = []
entries_at (Some m) = logged_entries (node_log m)

-- the adopted log of a partition
abbrev pub part_of : World → PartConfig → Part
part_of w c = record { lo = lo_of w c.part; hi = hi_of w c.part; log = entries_at (numbered w.masters c.master.number) }

-- the migration of which a package was told
abbrev pub told_by : Body → List ℕ
told_by (body.Taken t) = t.migration ∷ []
told_by _ = []

-- the migration in work, whether or not its package has come to the manager
abbrev pub moving_of : Option Migration → Option Migration
moving_of None = None
moving_of (Some m) = Some (record m { moved = None })

-- a master of a partition, from an epoch on
pub record Reign : Type 0 where
  pub epoch : ℕ
  pub master : NodeId

-- the marks of a partition's adoptions, in their order
abbrev pub cuts : ℕ → List Mark → List Mark
cuts part marks = filter (cuts_part part) marks

-- the master that an adoption brought
abbrev pub reign_of : Mark → Reign
reign_of m = record { epoch = m.epoch; master = m.master }

-- the masters of a partition, from that of the opening on, by the marks of its adoptions
abbrev pub reigns : ℕ → List Mark → List Reign
reigns part cs = record { epoch = 1; master = master_node part } ∷ map reign_of cs

-- how much was recovered by an adoption
abbrev pub cut_length : Place → ℕ
cut_length (Executed index) = 0
cut_length (Looked capture length) = 0
cut_length (Quick capture) = 0
cut_length (Cut number length) = length

-- a log, split where the recovered one ended
abbrev pub left_at : Part → ℕ → Left
left_at p long = record { prefix = record p { log = take long p.log }; back = drop long p.log }

-- what owns nothing, and so has no value to keep
abbrev pub no_left : Left
no_left = record { prefix = record { lo = 1; hi = 0; log = [] }; back = [] }

-- the log that a master of the partition has
abbrev pub log_of : World → ℕ → NodeId → Part
log_of w part master = record { lo = lo_of w part; hi = hi_of w part; log = entries_at (numbered w.masters master.number) }

-- by the master before an adoption, and by the adoption's mark
abbrev pub left_by : World → ℕ → Option Reign → Option Mark → Left
left_by w part (Some r) (Some m) = left_at (log_of w part r.master) (cut_length m.place)
left_by w part _ _ = no_left

-- The superseded log of a partition by the number of its adoption: that of the master before it, as it is now
abbrev pub left_of : World → ℕ → ℕ → Left
left_of w part number = let cs = cuts part w.marks in left_by w part (numbered (reigns part cs) number) (numbered cs number)

-- the adopted logs, the migration in work, of which migrations a package was ever told, and the superseded logs
abbrev pub line_of : World → LineState
line_of w = record {
  parts = map (part_of w) w.manager.config.parts;
  moving = moving_of w.manager.moving;
  told = flat_map (λ (m : Message). told_by m.body) (messages w);
  marks = w.marks;
  history = w.history;
  left = left_of w;
}
