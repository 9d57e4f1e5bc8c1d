-- How much a message weighs: 1, and 1 more for each thing that it carries.
use Rattle.std.specs.Prelude.{ℕ, ◌+◌, ◌-◌, ◌^◌, min, length, map, List}
use Rattle.std.specs.List.{sum}
use Rattle.curp_cmd.specs.declared.entry.Entry.{Entry}
use Rattle.curp_cmd.specs.declared.entry.Entry.TheVariants.{Op, Take, Give, Expire}
use Rattle.curp_cmd.specs.declared.migration.Package.{Package}
use Rattle.curp_cmd.specs.Entry.{pairs_put}
use Rattle.curp_msg.specs.declared.answer.FenceReply.{FenceReply}
use Rattle.curp_msg.specs.declared.answer.FenceReply.TheVariants as fence
use Rattle.curp_msg.specs.declared.answer.GcAnswer.{GcAnswer}
use Rattle.curp_msg.specs.declared.answer.GcAnswer.TheVariants as collection
use Rattle.curp_msg.specs.declared.body.Body.{Body}
use Rattle.curp_msg.specs.declared.body.Body.TheVariants.{Configuration, Append, Gc, Collected, FenceAnswer, FrozenAnswer, Taken, GiveIn}
use Rattle.curp_msg.specs.declared.config.PartConfig.{PartConfig}
use Rattle.curp_msg.specs.declared.message.Message.{Message}

-- the pairs and the records of a package
abbrev pub package_weight : Package → ℕ
package_weight p = length p.pairs + length p.table.records

-- an entry, with the pairs of a multi-put or what its package has
abbrev pub entry_weight : Entry → ℕ
entry_weight (Op request acknowledge) = 1 + pairs_put request.command
entry_weight (Take migration taken) = 1 + package_weight taken
entry_weight (Give migration given) = 1 + package_weight given
entry_weight (Expire client) = 1

abbrev pub entries_weight : List Entry → ℕ
entries_weight entries = sum (map entry_weight entries)

-- a partition, with its ranges
abbrev pub part_weight : PartConfig → ℕ
part_weight part = 1 + length part.ranges

abbrev pub collection_weight : GcAnswer → ℕ
collection_weight (collection.Suspects requests) = length requests
collection_weight (collection.Stranger epoch) = 0

abbrev pub fence_weight : FenceReply → ℕ
fence_weight (fence.Log entries) = entries_weight entries
fence_weight (fence.Fenced epoch) = 0

-- what a message carries: entries, pairs, records, ids, partitions and ranges, and the requests of a witness
abbrev pub carried : Body → ℕ
carried (Configuration config) = sum (map part_weight config.parts)
carried (Append append) = entries_weight append.entries
carried (Gc gc) = length gc.ids
carried (Collected collected) = collection_weight collected.answer
carried (FenceAnswer answer) = fence_weight answer.answer
carried (FrozenAnswer requests) = length requests
carried (Taken parcel) = package_weight parcel.package
carried (GiveIn parcel) = package_weight parcel.package
carried _ = 0

-- the weight of a message stands still at 2^64 - 1
unfoldable pub weight_of : Message → ℕ
weight_of m = min (1 + carried m.body) (2 ^ 64 - 1)
