use Rattle.std.proofs.Common.{length, ap, ◌∙◌}
use Rattle.curp_cmd.specs.declared.entry.Entry.{Entry}
use Rattle.curp_master_log.specs.MasterLog.{MasterLogState, with_entry}
use Rattle.curp_master_log.proofs.Beside.{answered}
use Rattle.curp_master_log.proofs.master_log.MasterLog.push_op.Goals as goal

pub returns-clause-answer : goal.returns-clause-answer
returns-clause-answer c =
    let pushed =
    ap (λ (j : MasterLogState). j.kept) c.self-2.view_is ∙ c.push.ensures.pushed ∙ ap (λ (e : Entry). with_entry c.args.self.now.kept e c.args.is_free) c.op_of.ensures
    in
    let there = c.len-index.ensures.value ∙ ap (λ (j : MasterLogState). length j.kept.entries) c.self.view_is in
    cc (c.in-Some.is, answered c.args.self.now.kept _ c.args.is_free c.len-index.result c.args.request c.answer.result pushed there c.answer.ensures)
