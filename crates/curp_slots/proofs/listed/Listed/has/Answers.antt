use Rattle.std.proofs.Common.{ap, ◌∙◌}
use Rattle.curp_cmd.specs.RequestId.{has_id}
use Rattle.curp_slots.proofs.Listings.{found_in}
use Rattle.curp_slots.proofs.listed.Listed.has.Goals as goal

pub returns : goal.returns
returns c = c.contains.ensures ∙ found_in c.args.id.now c.self.inside.ids.keys ∙ ap (has_id c.args.id.now) c.self.view_is
