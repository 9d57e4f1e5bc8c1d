use Rattle.std.proofs.Common.{◌≡◌, ◌+◌, ℕ, length, arith, ap, sym, ◌∙◌, subst, Some}
use Rattle.curp_base.specs.Words.{At}
use Rattle.curp_journal.specs.Turns.{turns_of}
use Rattle.curp_merge.specs.Weaving.{BestSoFar, is_less}
use Rattle.curp_merge.proofs.Scanning.{best_is_due, best_kept, best_new, best_skipped, has_next, has_none, read_at}
use Rattle.curp_merge.proofs.due.due.Goals as goal
use Rattle.curp_merge.proofs.due.due.Goals.{in-Some+then-is_less, in-Some+else-is_less, in_default}

pub loop-at-preserved : goal.loop-at-preserved
loop-at-preserved c =
    let journals = c.args.strands.now in
    let rows = c.args.tracks.now in
    let n = c.loop-at.at in
    let j = c.index-strands-at.result in
    let row = c.index-tracks-at.result in
    let stands = read_at journals n j (omega arith) c.index-strands-at.is in
    let its_row = read_at rows n row (omega arith) c.index-tracks-at.is in
    let taken : c.len.result ≡ length row = c.len.ensures in
    elim c.match-next_stamp.branch [
      | in-Some+then-is_less w ↦
          let s = w.in-Some.stamp in
          let next = has_next j c.len.result s w.in-Some.ensures in
          let at = subst (λ (k : ℕ). At (turns_of j) k next.0) taken next.1 in
          let test = ap (is_less c.loop-at.best) (sym next.2) ∙ (sym w.is_less.ensures ∙ w.if-is_less.true) in
          subst (λ b. BestSoFar journals rows (n + 1) b) (ap (λ (k : ℕ). Some (n, k)) (sym next.2) ∙ sym w.best-is) (best_new journals rows n j row stands its_row next.0 at c.loop-at.best test c.loop-at.invariant)
      | in-Some+else-is_less w ↦
          let s = w.in-Some.stamp in
          let next = has_next j c.len.result s w.in-Some.ensures in
          let at = subst (λ (k : ℕ). At (turns_of j) k next.0) taken next.1 in
          let test = ap (is_less c.loop-at.best) (sym next.2) ∙ (sym w.is_less.ensures ∙ w.if-is_less.false) in
          subst (λ b. BestSoFar journals rows (n + 1) b) (sym w.best-is) (best_kept journals rows n j row stands its_row next.0 at c.loop-at.best test c.loop-at.invariant)
      | in_default w ↦
          let past = has_none j c.len.result w.in_default.ensures in
          subst (λ b. BestSoFar journals rows (n + 1) b) (sym w.best-is) (best_skipped journals rows n j row stands its_row c.loop-at.best (omega (arith, taken, past)) c.loop-at.invariant)
    ]

pub returns-in-Some-best-clause-some : goal.returns-in-Some-best-clause-some
returns-in-Some-best-clause-some c =
    let journals = c.args.strands.now in
    let rows = c.args.tracks.now in
    best_is_due journals rows c.loop-at.at c.in-Some-best.at c.in-Some-best._stamp (omega arith)
    (subst (λ b. BestSoFar journals rows c.loop-at.at b) c.in-Some-best.is c.loop-at.invariant)
