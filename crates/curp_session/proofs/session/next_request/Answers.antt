use Rattle.std.proofs.Common.{◌≡◌}
use Rattle.curp_resp.specs.declared.requests.NextRequest.TheVariants as next
use Rattle.curp_session.proofs.session.next_request.Goals as goal

pub returns-then-has_request-clause-passed_on : goal.returns-then-has_request-clause-passed_on
returns-then-has_request-clause-passed_on g c = λ is.
    let some = c.has_request.ensures.yes c.if-has_request.true in
    let failed : c.next_request.result ≡ next.ReadFault = cc in
    absurd (c.next_request.ensures.ready some.0 some.1 some.2 c.requires failed)
