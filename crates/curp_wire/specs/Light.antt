-- Which messages are written as frames: those whose frame is surely short enough (this project's own).
use Rattle.std.specs.Prelude.{ℕ, ◌==◌, nat_le, ◌&&◌, Bool, true, List, length}
use Rattle.std.specs.List.{list_all}
use Rattle.curp_cmd.specs.declared.command.Request.{Request}
use Rattle.curp_cmd.specs.declared.command.RequestId.{RequestId}
use Rattle.curp_cmd.specs.declared.entry.Entry.{Entry}
use Rattle.curp_cmd.specs.declared.entry.Entry.TheVariants.{Op, Take, Give, Expire}
use Rattle.curp_cmd.specs.declared.migration.Package.{Package}
use Rattle.curp_cmd.specs.declared.node.NodeId.{NodeId}
use Rattle.curp_items.specs.Items.{is_node}
use Rattle.curp_msg.specs.Weight.{weight_of}
use Rattle.curp_msg.specs.declared.answer.FenceReply.{FenceReply}
use Rattle.curp_msg.specs.declared.answer.FenceReply.TheVariants as fence
use Rattle.curp_msg.specs.declared.answer.GcAnswer.{GcAnswer}
use Rattle.curp_msg.specs.declared.answer.GcAnswer.TheVariants as collection
use Rattle.curp_msg.specs.declared.answer.Reason.{Reason}
use Rattle.curp_msg.specs.declared.answer.Reason.TheVariants as reason
use Rattle.curp_msg.specs.declared.body.Body.{Body}
use Rattle.curp_msg.specs.declared.body.Body.TheVariants as body
use Rattle.curp_msg.specs.declared.body.Recover.{Recover}
use Rattle.curp_msg.specs.declared.config.Config.{Config}
use Rattle.curp_msg.specs.declared.config.PartConfig.{PartConfig}
use Rattle.curp_msg.specs.declared.message.Message.{Message}

-- the greatest number of a client, weight of a message, number of partitions, and number of nodes in a list
abbrev pub client_limit : ℕ
client_limit = 64

abbrev pub light_limit : ℕ
light_limit = 20000

abbrev pub part_limit : ℕ
part_limit = 16

abbrev pub node_limit : ℕ
node_limit = 5

abbrev pub is_light_client : ℕ → Bool
is_light_client client = nat_le client client_limit

abbrev pub is_light_id : RequestId → Bool
is_light_id id = is_light_client id.client

abbrev pub is_light_request : Request → Bool
is_light_request request = is_light_id request.id

-- the clients of its records, its first numbers and the expired ones
abbrev pub is_light_package : Package → Bool
is_light_package p =
    list_all (λ pair. is_light_id pair.0) p.table.records
    && list_all (λ pair. is_light_client pair.0) p.table.firsts
    && list_all is_light_client p.table.gone

abbrev pub is_light_entry : Entry → Bool
is_light_entry (Op request acknowledge) = is_light_request request
is_light_entry (Take migration taken) = is_light_package taken
is_light_entry (Give migration given) = is_light_package given
is_light_entry (Expire client) = true

-- few nodes, and such as there may be
abbrev pub are_light_nodes : List NodeId → Bool
are_light_nodes nodes = nat_le (length nodes) node_limit && list_all is_node nodes

abbrev pub is_light_part : PartConfig → Bool
is_light_part part = is_node part.master && are_light_nodes part.backups && are_light_nodes part.witnesses

abbrev pub is_light_config : Config → Bool
is_light_config config = nat_le (length config.parts) part_limit && list_all is_light_part config.parts

abbrev pub is_light_recover : Recover → Bool
is_light_recover recover =
    is_node recover.backup && is_node recover.witness && are_light_nodes recover.backups && are_light_nodes recover.witnesses

abbrev pub is_light_reason : Reason → Bool
is_light_reason (reason.Conflict held) = is_light_id held
is_light_reason _ = true

abbrev pub is_light_collection : GcAnswer → Bool
is_light_collection (collection.Suspects suspects) = list_all is_light_request suspects
is_light_collection (collection.Stranger epoch) = true

abbrev pub is_light_reply : FenceReply → Bool
is_light_reply (fence.Log log) = list_all is_light_entry log
is_light_reply (fence.Fenced epoch) = true

-- the clients, nodes and partitions of a body
abbrev pub is_light_body : Body → Bool
is_light_body (body.Update ask) = is_light_request ask.request
is_light_body (body.Sync ask) = is_light_request ask.request
is_light_body (body.Read ask) = is_light_request ask.request
is_light_body (body.Record r) = is_light_request r.request
is_light_body (body.Configuration config) = is_light_config config
is_light_body (body.Reply reply) = is_light_id reply.id
is_light_body (body.Worth worth) = is_light_id worth.id
is_light_body (body.Refuse refuse) = is_light_id refuse.id
is_light_body (body.Accepted accepted) = is_light_id accepted.id
is_light_body (body.Rejected rejected) = is_light_id rejected.id && is_light_reason rejected.reason
is_light_body (body.Append append) = list_all is_light_entry append.entries
is_light_body (body.Gc gc) = list_all is_light_id gc.ids
is_light_body (body.Collected collected) = is_light_collection collected.answer
is_light_body (body.Recover recover) = is_light_recover recover
is_light_body (body.FenceAnswer answer) = is_light_reply answer.answer
is_light_body (body.FrozenAnswer requests) = list_all is_light_request requests
is_light_body (body.Prepare prepare) = are_light_nodes prepare.backups && are_light_nodes prepare.witnesses
is_light_body (body.Taken parcel) = is_light_package parcel.package
is_light_body (body.GiveIn parcel) = is_light_package parcel.package
is_light_body (body.Probe probe) = is_light_id probe.id
is_light_body (body.Probed probed) = is_light_id probed.id
is_light_body (body.Glance ask) = is_light_request ask.request
is_light_body (body.Quick quick) = is_light_id quick.id
is_light_body _ = true

-- A light message: it weighs at most 20,000, the client numbers in its ids and packages are at most 64, it has at most 16
-- partitions and at most 5 nodes in a list, and the manager alone has the number 0
abbrev pub is_light : Message → Bool
is_light m = nat_le (weight_of m) light_limit && is_node m.from && is_node m.to && is_light_body m.body
