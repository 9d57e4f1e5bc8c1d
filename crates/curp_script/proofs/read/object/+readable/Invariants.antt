use Rattle.std.proofs.Common.{◌≡◌, drop}
use Rattle.json.specs.Value.{items_view, members_view}
use Rattle.curp_script.specs.Values.{are_items_readable, are_members_readable}
use Rattle.curp_script.proofs.read.object.+readable.Given as goal

abbrev pub invariant-are_items_readable-loop-item : goal.invariant-are_items_readable-loop-item
invariant-are_items_readable-loop-item l = are_items_readable (items_view l.items) ≡ are_items_readable (items_view (drop l.item-index l.items))

abbrev pub invariant-are_members_readable-loop-value : goal.invariant-are_members_readable-loop-value
invariant-are_members_readable-loop-value l = are_members_readable (members_view l.members) ≡ are_members_readable (members_view (drop l.value-index l.members))
