-- What the bytes come to that were not read yet.
use Rattle.std.proofs.Common.{◌≡◌, drop}
use Rattle.curp_resp.specs.Feeds.{read_first, read_on}
use Rattle.curp_resp.proofs.first.first_request.Given as goal

abbrev pub invariant-reads : goal.invariant-reads
invariant-reads l = read_first l.bytes ≡ read_on (drop l.at l.bytes) l.reading
