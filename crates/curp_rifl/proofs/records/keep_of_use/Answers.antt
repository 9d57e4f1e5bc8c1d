use Rattle.std.proofs.Common.{rules, tests}
use Rattle.std.proofs.lemmas.Fn.{filter_same}
use Rattle.curp_model.specs.Table.{is_of_use}
use Rattle.curp_rifl.specs.Clients.{clients_alone}
use Rattle.curp_rifl.specs.Records.{Record}
use Rattle.curp_rifl.proofs.records.keep_of_use.Goals as goal

pub returns-clause-items : goal.returns-clause-items
returns-clause-items c = filter_same _ (λ (e : Record). is_of_use (clients_alone c.args.clients.now.items) e.0) _ (λ x b f' k. search (rules, tests)) _ _ c.retain.ensures.filtered
