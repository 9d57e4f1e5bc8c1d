use Rattle.std.proofs.Common.{List, [], length, ap, ◌∙◌}
use Rattle.curp_cmd.specs.declared.entry.Entry.{Entry}
use Rattle.curp_model.specs.Master.{Captured, MasterState}
use Rattle.curp_msg.specs.Moved.{Node}
use Rattle.curp_rounds.specs.declared.reach.Reach.{Reach}
use Rattle.curp_master.proofs.Begun.{next_of}
use Rattle.curp_master.proofs.KeptUp.{captured, long_on, rounds_on}
use Rattle.curp_master.proofs.master.Master.capture.Goals as goal

pub push-requires-clause-long : goal.push-requires-clause-long
push-requires-clause-long c =
    long_on c.self.invariant c.in_ok-reserve.ensures.last
    (ap (λ (x : Captured). x.length) c.new-captured.ensures ∙ c.len.ensures.value ∙ ap (λ (es : List Entry). length es) c.log.ensures.entries)

pub push-requires-clause-round : goal.push-requires-clause-round
push-requires-clause-round c =
    rounds_on c.self.invariant c.in_ok-reserve.ensures.last
    (
    ap (λ (x : Captured). x.round) c.new-captured.ensures
    ∙ next_of c.args.self.now [] c.in_ok-round.ensures c.in-Some-2.is (ap (λ (n : Node MasterState). n.state.round) c.self.view_is)
    )

pub invariant_of-self-3 : goal.invariant_of-self-3
invariant_of-self-3 c =
    let last = c.push.ensures.last in
    captured c.self.invariant
    (
    ap (λ (r : Reach). r.long) last ∙ ap (λ (x : Captured). x.length) c.new-captured.ensures ∙ c.len.ensures.value
    ∙ ap (λ (es : List Entry). length es) c.log.ensures.entries
    )
    (ap (λ (r : Reach). r.round) last ∙ ap (λ (x : Captured). x.round) c.new-captured.ensures)
