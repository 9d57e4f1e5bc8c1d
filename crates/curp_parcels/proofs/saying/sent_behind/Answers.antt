use Rattle.std.proofs.Common.{subst}
use Rattle.curp_batches.proofs.Encodings.{rest_is}
use Rattle.curp_batches.specs.Arrivals.{frame}
use Rattle.curp_batches.specs.Prefixes.{Begins, PrefixFails}
use Rattle.curp_parcels.proofs.Found.{frameless_so, sent_begins}
use Rattle.curp_parcels.proofs.saying.sent_behind.Goals as goal

pub whole_sent-requires : goal.whole_sent-requires
whole_sent-requires c =
    let begins = subst (λ l. Begins frame l c.in-Ok.message c.in-Ok.length) (rest_is c.args.at c.args.bytes.now) c.in-Ok.ensures in
    sent_begins c.args.bytes.now c.args.name c.in-Ok.message c.args.at c.in-Ok.length c.requires.begins begins

pub returns-in-Err : goal.returns-in-Err
returns-in-Err c =
    let fails = subst (λ l. PrefixFails frame l c.in-Err.why) (rest_is c.args.at c.args.bytes.now) c.in-Err.ensures in
    frameless_so c.args.bytes.now c.args.name c.args.at c.in-Err.why c.no_message.result c.requires.begins fails c.no_message.ensures
