-- Which messages have an encoding: those whose nodes there may be, and whose lists are short enough for their counts.
use Rattle.std.specs.Prelude.{◌≡◌, ℕ, ◌<◌, ◌^◌, true, List, length, ⊤}
use Rattle.curp_base.specs.Words.{Each}
use Rattle.curp_cmd.specs.declared.entry.Entry.{Entry}
use Rattle.curp_cmd.specs.declared.node.NodeId.{NodeId}
use Rattle.curp_items.specs.Items.{is_node}
use Rattle.curp_items.specs.Encoding.{HasPackageEncoding, HasEncoding}
use Rattle.curp_msg.specs.declared.answer.FenceReply.{FenceReply}
use Rattle.curp_msg.specs.declared.answer.FenceReply.TheVariants as fence
use Rattle.curp_msg.specs.declared.answer.GcAnswer.{GcAnswer}
use Rattle.curp_msg.specs.declared.answer.GcAnswer.TheVariants as collection
use Rattle.curp_msg.specs.declared.body.Body.{Body}
use Rattle.curp_msg.specs.declared.body.Body.TheVariants as body
use Rattle.curp_msg.specs.declared.body.Prepare.{Prepare}
use Rattle.curp_msg.specs.declared.body.Recover.{Recover}
use Rattle.curp_msg.specs.declared.config.Config.{Config}
use Rattle.curp_msg.specs.declared.config.PartConfig.{PartConfig}
use Rattle.curp_msg.specs.declared.message.Message.{Message}

-- short enough for a count, which has 32 bits
abbrev pub IsShort : {A : Type 0} → List A → Type 0
IsShort xs = length xs < 2 ^ 32

-- a name of a node that there may be
abbrev pub IsNamed : NodeId → Type 0
IsNamed node = is_node node ≡ true

pub record AreNodes (nodes : List NodeId) : Type 0 where
  pub short : IsShort nodes
  pub named : Each IsNamed nodes

pub record AreEntries (entries : List Entry) : Type 0 where
  pub short : IsShort entries
  pub encoded : Each HasEncoding entries

abbrev pub IsCollection : GcAnswer → Type 0
IsCollection (collection.Suspects suspects) = IsShort suspects
IsCollection (collection.Stranger epoch) = ⊤

abbrev pub IsFenceReply : FenceReply → Type 0
IsFenceReply (fence.Log log) = AreEntries log
IsFenceReply (fence.Fenced epoch) = ⊤

pub record IsPart (part : PartConfig) : Type 0 where
  pub master : IsNamed part.master
  pub backups : AreNodes part.backups
  pub witnesses : AreNodes part.witnesses
  pub ranges : IsShort part.ranges

pub record IsConfig (config : Config) : Type 0 where
  pub short : IsShort config.parts
  pub parts : Each IsPart config.parts

pub record IsRecover (recover : Recover) : Type 0 where
  pub backup : IsNamed recover.backup
  pub witness : IsNamed recover.witness
  pub backups : AreNodes recover.backups
  pub witnesses : AreNodes recover.witnesses

pub record IsPrepare (prepare : Prepare) : Type 0 where
  pub backups : AreNodes prepare.backups
  pub witnesses : AreNodes prepare.witnesses

-- the fields of a body have an encoding
abbrev pub HasFields : Body → Type 0
HasFields (body.Configuration config) = IsConfig config
HasFields (body.Append append) = AreEntries append.entries
HasFields (body.Gc gc) = IsShort gc.ids
HasFields (body.Collected collected) = IsCollection collected.answer
HasFields (body.Recover recover) = IsRecover recover
HasFields (body.FenceAnswer answer) = IsFenceReply answer.answer
HasFields (body.FrozenAnswer requests) = IsShort requests
HasFields (body.Prepare prepare) = IsPrepare prepare
HasFields (body.Taken parcel) = HasPackageEncoding parcel.package
HasFields (body.GiveIn parcel) = HasPackageEncoding parcel.package
HasFields _ = ⊤

pub record HasContent (m : Message) : Type 0 where
  pub from : IsNamed m.from
  pub to : IsNamed m.to
  pub fields : HasFields m.body
