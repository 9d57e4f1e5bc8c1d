use Rattle.std.proofs.Common.{OnOk, sym, subst}
use Rattle.curp_msg.specs.declared.script.Step.{Step}
use Rattle.curp_script.specs.Printed.{ReadsBack}
use Rattle.curp_print.proofs.line.step_json.Goals as goal

pub returns-in-Migrate-clause-reads : goal.returns-in-Migrate-clause-reads
returns-in-Migrate-clause-reads c =
    subst (λ (s : Step). OnOk c.migrate_json.result (ReadsBack s)) (sym c.in-Migrate.is) c.migrate_json.ensures.reads
