use Rattle.std.proofs.Common.{[]}
use Rattle.curp_entries.proofs.Packs.{empty_packed, seen, seen_packed}
use Rattle.curp_entries.proofs.prefix.Prefix.new.Goals as goal

pub invariant_of-result : goal.invariant_of-result
invariant_of-result c = seen_packed [] _ _ (empty_packed c.new-2.result.items c.new.result.items c.new-2.ensures.items c.new.ensures.items)

pub returns : goal.returns
returns c = seen [] _ _ (empty_packed c.new-2.result.items c.new.result.items c.new-2.ensures.items c.new.ensures.items)
