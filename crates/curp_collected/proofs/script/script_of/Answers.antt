use Rattle.std.proofs.Common.{map}
use Rattle.curp_gather.specs.Journals.{journals_of}
use Rattle.curp_collected.specs.Causes.{AreNoScript}
use Rattle.curp_collected.proofs.Printable.{printable}
use Rattle.curp_collected.proofs.script.script_of.Goals as goal

pub returns-in-Ok-gather-clause-printable : goal.returns-in-Ok-gather-clause-printable
returns-in-Ok-gather-clause-printable c =
    let contents = map (λ file. file.items) c.args.files.now in
    let h = c.in-Ok.found.0 in
    let j = c.in-Ok.found.1 in
    let steps = c.in-Ok-gather.steps.items in
    let is = c.in-Ok-gather.ensures.script in
    printable contents c.args.until h j c.in-Ok.ensures.collected steps (c.runs_show_their_journals.ensures.stopped (journals_of j) h steps is.placed is.run)

pub returns-clause-cause : goal.returns-clause-cause
returns-clause-cause c =
    let files = map (λ file. file.items) c.args.files.now in
    let its : AreNoScript files c.args.until c.in-Err-Because-gather.why = record {
      h = c.in-Ok.found.0;
      journals = c.in-Ok.found.1;
      collected = c.in-Ok.ensures.collected;
      cause = rw c.in-Err-Because-gather.field-0-is at c.in-Err-Because-gather.ensures.cause;
    } in
    rw (c.from-in-Err-Because-gather.ensures, c.in-Err-Because-gather.why-is) its
