use Rattle.std.proofs.Common.{◌≡◌, ◌+◌, ◌<◌, ◌≤◌, length, get_or, sym, ap, ◌∙◌, arith}
use Rattle.std.proofs.lemmas.List.{get_or_default}
use Rattle.curp_range.proofs.Ascending.{ends}
use Rattle.curp_range.proofs.Joins.{IsJoined, joining_more, joining_all}
use Rattle.curp_range.proofs.spans.join.Goals as goal
use Rattle.curp_range.proofs.spans.join.Goals.{then-met-test+else-index-saturating_add, else-met-test}

pub met-preserved : goal.met-preserved
met-preserved c =
    let within : c.ended_before-at.result < length c.met.spans.items = omega arith in
    let read : c.index.result.now ≡ c.remove-met.result = c.index.ensures ∙ get_or_default _ _ _ _ within ∙ sym c.remove-met.ensures.value in
    let prefix : c.remove-met.result.0 ≤ c.met.last + 1 = omega (arith, ap (λ s. s.0) read) in
    record {
      joining = rw (c.remove-met.ensures.items, c.min-first.ensures, c.max-last.ensures) (joining_more _ _ _ _ _ _ _ _ c.met.invariant.joining within c.remove-met.ensures.value prefix);
      spare = omega arith;
    }

-- the loop ends at the end of the spans, or at a span that lies apart. The last hash of all has none behind it
next : (c : goal.After-insert) → c.ended_before-at.result < length c.met.spans.items → c.met.last + 1 < (get_or c.met.spans.items c.ended_before-at.result (0, 0)).0
next c within = elim c.met-test.branch [
  | then-met-test+else-index-saturating_add w ↦
      let bounds = ends 0 _ _ c.ended_before-at.result (0, 0) c.met.invariant.joining.ascend within in
      omega (arith, ap (λ s. s.0) (w.index.ensures ∙ get_or_default _ _ _ (0, 0) within))
  | else-met-test w ↦ absurd (omega arith)
]

joined : (c : goal.After-insert) → IsJoined c.args.spans.now.items c.args.lo c.args.hi c.insert.new.self.items
joined c = rw c.insert.ensures.items (joining_all _ _ _ _ _ _ _ (0, 0) c.met.invariant.joining (next c))

pub returns-clause-ascend : goal.returns-clause-ascend
returns-clause-ascend c = (joined c).ascend

pub returns-clause-owned : goal.returns-clause-owned
returns-clause-owned c = (joined c).owned
