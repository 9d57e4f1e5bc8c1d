use Rattle.std.proofs.Common.{◌≡◌, ◌+◌, length, ap, sym, ◌∙◌, arith}
use Rattle.curp_model.specs.Master.{MasterState, treat}
use Rattle.curp_msg.specs.Moved.{Node}
use Rattle.curp_master_log.specs.MasterLog.{KeptLog}
use Rattle.curp_master_log.specs.Suspects.{keeping, news}
use Rattle.curp_master.specs.contracts.master.Master.{the_view}
use Rattle.curp_master.proofs.KeptUp.{grown}
use Rattle.curp_master.proofs.Suspected.{log_length}
use Rattle.curp_master.proofs.master.Master.take_in.Goals as goal

pub returns-clause-state : goal.returns-clause-state
returns-clause-state c =
    let m : MasterState = (the_view c.self.inside).state in
    sym (c.treat_each.ensures.treated m)
    ∙ (λ i. treat (keeping m (c.in_ok-make_room.ensures.kept i) (c.in_ok-make_room.ensures.waiting i)) (c.in_ok-shared.ensures i))
    ∙ ap (λ (node : Node MasterState). treat node.state c.args.suspects.now) c.self.view_is

-- what is brought makes the log longer
pub invariant_of-self-2 : goal.invariant_of-self-2
invariant_of-self-2 c =
    let m : MasterState = (the_view c.self.inside).state in
    let before : KeptLog = c.make_room.new.master_log.kept in
    let after : KeptLog = c.treat_each.new.master_log.kept in
    let rs = c.in_ok-shared.shared.items in
    let same = ap (λ (j : KeptLog). length j.entries) c.in_ok-make_room.ensures.kept in
    let long : length after.entries ≡ length before.entries + length (news before.lo before.hi before.entries rs) =
    ap (λ (k : MasterState). length k.log) (sym (c.treat_each.ensures.treated m)) ∙ log_length (keeping m before c.make_room.new.queue.waiting) rs
    in
    grown c.self.invariant
    (c.treat_each.ensures.synced ∙ ap (λ (j : KeptLog). j.synced) c.in_ok-make_room.ensures.kept)
    (omega (arith, same, long))
