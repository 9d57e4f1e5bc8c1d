use Rattle.std.proofs.Common.{◌∙◌, ap}
use Rattle.curp_model.specs.Master.{MasterState, settle}
use Rattle.curp_msg.specs.Moved.{Node}
use Rattle.curp_master.specs.contracts.master.Master.{the_view}
use Rattle.curp_master.proofs.Settled.{released}
use Rattle.curp_master.proofs.KeptUp.{synced_of}
use Rattle.curp_master.proofs.master.Master.release.Goals as goal

pub returns-clause-state : goal.returns-clause-state
returns-clause-state c =
    let node : Node MasterState = the_view c.self.inside in
    let captures = rw (c.so_far.ensures, c.deref.ensures.value) at c.remove_ready-2.ensures.waiting in
    ap (λ n. record node.state { captures = c.remove_ready-2.new.self.waiting; captured = n; held = c.remove_below.new.self.numbers; settled = c.synced-synced.result }) c.remove_ready-2.ensures.count
    ∙ released node.number node.state c.synced-synced.result c.remove_below.new.self.numbers c.remove_ready-2.new.self.waiting
    (c.synced-synced.ensures ∙ synced_of c.self.invariant) c.remove_below.ensures captures
    ∙ ap (λ (m : Node MasterState). (settle m.number m.state).state) c.self.view_is
