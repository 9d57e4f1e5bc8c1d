use Rattle.std.proofs.Common.{◌≡◌, ◌∙◌, ap, sym}
use Rattle.std.specs.List.{list_all}
use Rattle.curp_cmd.specs.Hash.{hashes_of}
use Rattle.curp_range.specs.Spans.{is_owned}
use Rattle.curp_model.specs.Log.{LogState, meaning}
use Rattle.curp_log.proofs.Owned.{all_owned}
use Rattle.curp_log.proofs.log.Log.owns.Goals as goal

pub returns : goal.returns
returns c =
    let before : LogState = meaning c.self.inside.lo c.self.inside.hi c.self.inside.entries.entries in
    let owned : c.self.inside.state.ranges.spans ≡ before.owned = ap (λ (s : LogState). s.owned) c.self.invariant.means in
    rw (← c.self.view_is)
    (c.owns_each.ensures ∙ (λ i. list_all (is_owned (owned i)) (c.of.ensures i)) ∙ sym (all_owned before.owned (hashes_of c.args.command.now)))
