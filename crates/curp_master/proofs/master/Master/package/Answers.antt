use Rattle.std.proofs.Common.{◌∙◌, ap, sym}
use Rattle.std.specs.FinMap as map
use Rattle.std.specs.List.{filter}
use Rattle.curp_model.specs.Log.{LogState, is_pair_in, meaning}
use Rattle.curp_model.specs.Master.{MasterState, state_of}
use Rattle.curp_model.specs.Table.{packed}
use Rattle.curp_msg.specs.Moved.{Node}
use Rattle.curp_range.specs.Spans.{is_covered}
use Rattle.curp_master.proofs.master.Master.package.Goals as goal
use Rattle.curp_model.proofs.Packages.{one_package}

pub returns-in_ok-pack : goal.returns-in_ok-pack
returns-in_ok-pack c =
    let its = ap (λ (m : Node MasterState). state_of m.state) c.self.view_is in
    let tested = (λ i. meaning (c.log.ensures.lo i) (c.log.ensures.hi i) (c.log.ensures.entries i)) ∙ its in
    let packs = (λ i. meaning (c.log-then-owns_range.ensures.lo i) (c.log-then-owns_range.ensures.hi i) (c.log-then-owns_range.ensures.entries i)) ∙ its in
    record {
      owned = ap (λ (s : LogState). is_covered s.owned c.args.take.now.lo c.args.take.now.hi) (sym tested) ∙ sym c.owns_range.ensures ∙ c.if-owns_range.true;
      its = one_package c.in_ok-pack.field-0 _ c.in_ok-pack.ensures.lo c.in_ok-pack.ensures.hi
          (c.in_ok-pack.ensures.pairs ∙ ap (λ (s : LogState). filter (is_pair_in c.args.take.now.lo c.args.take.now.hi) (map.entries s.store)) packs)
          (c.in_ok-pack.ensures.table ∙ ap (λ (s : LogState). packed s.table) packs);
    }
