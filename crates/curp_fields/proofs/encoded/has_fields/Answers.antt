use Rattle.std.proofs.Common.{sym, ◌∙◌}
use Rattle.curp_fields.proofs.Having.{fields_of, fields_pass}
use Rattle.curp_fields.proofs.encoded.has_fields.Goals as goal

pub returns-clause-encoded : goal.returns-clause-encoded
returns-clause-encoded c = λ is. fields_of c.args.body.now (sym c.is_encoded_body.ensures ∙ is)

pub returns-clause-fits : goal.returns-clause-fits
returns-clause-fits c = λ fits. c.is_encoded_body.ensures ∙ fields_pass c.args.body.now fits
