use Rattle.std.proofs.Common.{suc, List, ℕ, get_or, drop, drop-cons, refl, ap, ◌∙◌, arith}
use Rattle.std.proofs.lemmas.List.{drop_all}
use Rattle.curp_resp.specs.Feeds.{read_on}
use Rattle.curp_resp.specs.Frames.{frame_step}
use Rattle.curp_resp.proofs.Feeding.{refused_by, whole_by}
use Rattle.curp_resp.proofs.Inwards.{begins_inside, begins_refused, begins_whole}
use Rattle.curp_resp.proofs.requests.begins_with_request.Goals as goal

pub returns-in-Whole-clause-yes : goal.returns-in-Whole-clause-yes
returns-in-Whole-clause-yes c = λ yes.
    let bytes = c.args.bytes.now in
    let at = get_or bytes c.reads.byte-index 0 in
    let rest = drop (suc c.reads.byte-index) bytes in
    begins_whole bytes rest c.take.new.self.arguments
    (c.reads.invariant
    ∙ ap (λ (w : List ℕ). read_on w c.reads.reading) (drop-cons bytes c.reads.byte-index 0 c.reads-test.true)
    ∙ whole_by (frame_step c.reads.reading.frame at) rest at c.reads.reading c.take.new.self refl c.in-Whole.ensures)

pub returns-in-Refused-clause-no : goal.returns-in-Refused-clause-no
returns-in-Refused-clause-no c = λ no.
    let bytes = c.args.bytes.now in
    let at = get_or bytes c.reads.byte-index 0 in
    let rest = drop (suc c.reads.byte-index) bytes in
    begins_refused bytes _
    (c.reads.invariant
    ∙ ap (λ (w : List ℕ). read_on w c.reads.reading) (drop-cons bytes c.reads.byte-index 0 c.reads-test.true)
    ∙ refused_by (frame_step c.reads.reading.frame at) rest at c.reads.reading c.take.new.self refl c.in-Refused.ensures)

pub returns-clause-no : goal.returns-clause-no
returns-clause-no c = λ no.
    begins_inside c.args.bytes.now c.reads.reading.frame c.reads.reading.arguments
    (c.reads.invariant ∙ ap (λ (w : List ℕ). read_on w c.reads.reading) (drop_all c.reads.byte-index c.args.bytes.now (omega arith)))
