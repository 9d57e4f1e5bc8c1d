use Rattle.std.proofs.Common.{◌≡◌, suc, List, ℕ, get_or, drop, drop-cons, refl, ap, sym, ◌∙◌, subst, arith}
use Rattle.std.proofs.lemmas.List.{drop_all}
use Rattle.curp_resp.specs.Feeds.{read_first, read_on}
use Rattle.curp_resp.specs.First.{IsFirst, first_by, first_in}
use Rattle.curp_resp.specs.Frames.{frame_step}
use Rattle.curp_resp.specs.declared.first.FirstRequest.{FirstRequest}
use Rattle.curp_resp.specs.declared.first.FirstRequest.TheVariants as first
use Rattle.curp_resp.proofs.Feeding.{refused_by, whole_by}
use Rattle.curp_resp.proofs.Inwards.{first_stands, whole_first}
use Rattle.curp_resp.proofs.first.first_request.Goals as goal

-- what stands first is what was found
found : (bytes : List ℕ) (answer : FirstRequest) → answer ≡ first_in bytes → IsFirst bytes answer
found bytes answer is = subst (IsFirst bytes) (sym is) (first_stands bytes)

pub returns-in-Whole-clause-value : goal.returns-in-Whole-clause-value
returns-in-Whole-clause-value c =
    let bytes = c.args.bytes.now in
    let at = get_or bytes c.reads.at 0 in
    let rest = drop (suc c.reads.at) bytes in
    rw c.meaning.ensures
    (whole_first bytes c.reads.at c.take.new.self.arguments (omega (arith, c.reads-test.true))
    (c.reads.invariant
    ∙ ap (λ (w : List ℕ). read_on w c.reads.reading) (drop-cons bytes c.reads.at 0 (omega (arith, c.reads-test.true)))
    ∙ whole_by (frame_step c.reads.reading.frame at) rest at c.reads.reading c.take.new.self refl c.in-Whole.ensures))

pub returns-in-Whole-clause-stands : goal.returns-in-Whole-clause-stands
returns-in-Whole-clause-stands c = found c.args.bytes.now _ (returns-in-Whole-clause-value c)

pub returns-in-Refused-clause-value : goal.returns-in-Refused-clause-value
returns-in-Refused-clause-value c =
    let bytes = c.args.bytes.now in
    let at = get_or bytes c.reads.at 0 in
    let rest = drop (suc c.reads.at) bytes in
    sym (ap (first_by bytes)
    (c.reads.invariant
    ∙ ap (λ (w : List ℕ). read_on w c.reads.reading) (drop-cons bytes c.reads.at 0 (omega (arith, c.reads-test.true)))
    ∙ refused_by (frame_step c.reads.reading.frame at) rest at c.reads.reading c.take.new.self refl c.in-Refused.ensures))

pub returns-in-Refused-clause-stands : goal.returns-in-Refused-clause-stands
returns-in-Refused-clause-stands c = found c.args.bytes.now first.Broken (returns-in-Refused-clause-value c)

pub returns-clause-value : goal.returns-clause-value
returns-clause-value c =
    let bytes = c.args.bytes.now in
    sym (ap (first_by bytes) (c.reads.invariant ∙ ap (λ (w : List ℕ). read_on w c.reads.reading) (drop_all c.reads.at bytes (omega arith))))

pub returns-clause-stands : goal.returns-clause-stands
returns-clause-stands c = found c.args.bytes.now first.Part (returns-clause-value c)
