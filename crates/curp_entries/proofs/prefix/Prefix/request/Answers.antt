use Rattle.std.proofs.Common.{◌∙◌, length, ap, sym}
use Rattle.curp_items.specs.Encoding.{encoding}
use Rattle.curp_entries.specs.Requests.{request_at}
use Rattle.curp_entries.proofs.Packs.{begins_first, first_at, request_there}
use Rattle.curp_entries.proofs.prefix.Prefix.request.Goals as goal

pub returns : goal.returns
returns c =
    let f = first_at c.args.self.now c.args.index c.in_ok-from.field-0.now c.in_ok-from.ensures.encoded c.in_ok-from.ensures.within c.in_ok-from.ensures.bytes in
    request_there c.in_ok-from.field-0.now f.entry (length (encoding f.entry)) c.read_request.result (begins_first c.args.self.now c.args.index c.in_ok-from.field-0.now f) c.read_request.ensures.found c.read_request.ensures.only
    ∙ sym (ap request_at f.there)
