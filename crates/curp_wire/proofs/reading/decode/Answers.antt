use Rattle.std.proofs.Common.{length, ◌∙◌, ap, arith}
use Rattle.std.proofs.lemmas.Result.{IfOk-weaker}
use Rattle.curp_items.proofs.Prefixes.{are_bytes}
use Rattle.curp_wire.specs.Frame.{frame_in}
use Rattle.curp_wire.proofs.Frames.{all_found, frame_again, only_found}
use Rattle.curp_wire.proofs.reading.decode.Goals as goal

pub returns-clause-found : goal.returns-clause-found
returns-clause-found c =
    let bytes = c.args.bytes.now in
    IfOk-weaker c.frame_at.result _ _ (λ x f. f.0) (all_found bytes c.frame_at.result (are_bytes bytes (λ i. omega (arith, c.type_inv.bytes i))) c.frame_at.ensures)

pub returns-clause-within : goal.returns-clause-within
returns-clause-within c =
    let bytes = c.args.bytes.now in
    IfOk-weaker c.frame_at.result _ _ (λ x f. f.1) (all_found bytes c.frame_at.result (are_bytes bytes (λ i. omega (arith, c.type_inv.bytes i))) c.frame_at.ensures)

pub returns-clause-only : goal.returns-clause-only
returns-clause-only c = λ m frame rest f e other.
    only_found c.args.bytes.now c.frame_at.result (m, length frame) c.frame_at.ensures (ap frame_in e ∙ frame_again m frame rest f) other
