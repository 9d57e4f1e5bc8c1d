-- Which bodies have an encoding, as a test: those whose nodes there may be, and whose lists are short enough for their counts.
use Rattle.std.specs.Prelude.{ℕ, nat_le, ◌&&◌, Bool, true, List, length}
use Rattle.std.specs.List.{list_all}
use Rattle.curp_cmd.specs.declared.entry.Entry.{Entry}
use Rattle.curp_cmd.specs.declared.entry.Entry.TheVariants.{Op, Take, Give, Expire}
use Rattle.curp_cmd.specs.declared.migration.Package.{Package}
use Rattle.curp_cmd.specs.declared.node.NodeId.{NodeId}
use Rattle.curp_items.specs.Items.{is_node}
use Rattle.curp_msg.specs.declared.answer.FenceReply.{FenceReply}
use Rattle.curp_msg.specs.declared.answer.FenceReply.TheVariants as fence
use Rattle.curp_msg.specs.declared.answer.GcAnswer.{GcAnswer}
use Rattle.curp_msg.specs.declared.answer.GcAnswer.TheVariants as collection
use Rattle.curp_msg.specs.declared.body.Body.{Body}
use Rattle.curp_msg.specs.declared.body.Body.TheVariants as body
use Rattle.curp_msg.specs.declared.body.Recover.{Recover}
use Rattle.curp_msg.specs.declared.config.Config.{Config}
use Rattle.curp_msg.specs.declared.config.PartConfig.{PartConfig}

-- the greatest count, which has 32 bits
abbrev pub count_limit : ℕ
count_limit = 4294967295

abbrev pub has_count : ℕ → Bool
has_count length = nat_le length count_limit

abbrev pub are_encoded_nodes : List NodeId → Bool
are_encoded_nodes nodes = has_count (length nodes) && list_all is_node nodes

abbrev pub is_encoded_package : Package → Bool
is_encoded_package p =
    has_count (length p.pairs)
    && has_count (length p.table.records)
    && has_count (length p.table.firsts)
    && has_count (length p.table.gone)

abbrev pub is_encoded_entry : Entry → Bool
is_encoded_entry (Op request acknowledge) = true
is_encoded_entry (Take migration taken) = is_encoded_package taken
is_encoded_entry (Give migration given) = is_encoded_package given
is_encoded_entry (Expire client) = true

abbrev pub are_encoded_entries : List Entry → Bool
are_encoded_entries entries = has_count (length entries) && list_all is_encoded_entry entries

abbrev pub is_encoded_part : PartConfig → Bool
is_encoded_part part =
    is_node part.master && are_encoded_nodes part.backups && are_encoded_nodes part.witnesses && has_count (length part.ranges)

abbrev pub is_encoded_config : Config → Bool
is_encoded_config config = has_count (length config.parts) && list_all is_encoded_part config.parts

abbrev pub is_encoded_recover : Recover → Bool
is_encoded_recover recover =
    is_node recover.backup
    && is_node recover.witness
    && are_encoded_nodes recover.backups
    && are_encoded_nodes recover.witnesses

abbrev pub is_encoded_collection : GcAnswer → Bool
is_encoded_collection (collection.Suspects suspects) = has_count (length suspects)
is_encoded_collection (collection.Stranger epoch) = true

abbrev pub is_encoded_reply : FenceReply → Bool
is_encoded_reply (fence.Log log) = are_encoded_entries log
is_encoded_reply (fence.Fenced epoch) = true

-- the fields of a body have an encoding
abbrev pub has_fields : Body → Bool
has_fields (body.Configuration config) = is_encoded_config config
has_fields (body.Append append) = are_encoded_entries append.entries
has_fields (body.Gc gc) = has_count (length gc.ids)
has_fields (body.Collected collected) = is_encoded_collection collected.answer
has_fields (body.Recover recover) = is_encoded_recover recover
has_fields (body.FenceAnswer answer) = is_encoded_reply answer.answer
has_fields (body.FrozenAnswer requests) = has_count (length requests)
has_fields (body.Prepare prepare) = are_encoded_nodes prepare.backups && are_encoded_nodes prepare.witnesses
has_fields (body.Taken parcel) = is_encoded_package parcel.package
has_fields (body.GiveIn parcel) = is_encoded_package parcel.package
has_fields _ = true
