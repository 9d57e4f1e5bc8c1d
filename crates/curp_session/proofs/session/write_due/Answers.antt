use Rattle.std.proofs.lemmas.Result.{on_ok_weaker}
use Rattle.curp_session.proofs.Texts.{in_range_whole}
use Rattle.curp_session.proofs.session.write_due.Goals as goal

pub returns-in-Script-clause-printable : goal.returns-in-Script-clause-printable
returns-in-Script-clause-printable g c = λ script prefix.
    let steps = c.args.served.now.state.steps in
    on_ok_weaker c.write_steps.result (λ rest. record {
      named = c.write_steps.ensures.named;
      in_range = in_range_whole c.args.before steps prefix rest;
      few = c.write_steps.ensures.few;
    }) c.write_steps.ensures.in_range
