use Rattle.std.proofs.Common.{List, ℕ, ap, ◌∙◌, subst}
use Rattle.curp_resp.specs.Input.{NoneStandsFirst}
use Rattle.curp_resp.proofs.requests.Requests.has_request.Goals as goal

pub returns-clause-no : goal.returns-clause-no
returns-clause-no c = λ no.
    subst (λ (b : List ℕ). NoneStandsFirst b) (c.bytes.ensures ∙ ap (λ r. r.ahead) c.self.view_is) (c.begins_with_request.ensures.no no)
