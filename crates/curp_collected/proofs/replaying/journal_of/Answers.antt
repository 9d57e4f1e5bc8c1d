use Rattle.std.proofs.Common.{rules, ◌≡◌, ◌≢◌, ◌∙◌, [], length, ap, sym, arith}
use Rattle.std.proofs.lemmas.Bool.Decides.{nat_tests}
use Rattle.std.proofs.lemmas.List.{nil_from_length}
use Rattle.curp_law_weave.specs.Run.{TakesFirst}
use Rattle.curp_collected.proofs.OneLog.{log_of_file, log_of_none, no_log, nothing_came, ordered_first}
use Rattle.curp_collected.proofs.replaying.journal_of.Goals as goal
use Rattle.curp_collected.proofs.replaying.journal_of.Goals.{in-Opening, in-Fresh}

pub returns-in_default-clause-log : goal.returns-in_default-clause-log
returns-in_default-clause-log g c =
    let files = c.args.files.now in
    let b = c.args.beginning in
    let none = c.in_default.ensures.none in
    elim c.match-origin.branch [
      | in-Opening w ↦ rw w.result-is (log_of_none g.N.Core.machine files c.requires b w.begin.result none w.in-Opening.is w.begin.ensures)
      | in-Fresh w ↦ rw w.result-is (no_log g.N.Core.machine files c.requires b none w.in-Fresh.is)
    ]

pub returns-in-Opening-origin-clause-log : goal.returns-in-Opening-origin-clause-log
returns-in-Opening-origin-clause-log g c =
    log_of_file g.N.Core.machine c.args.files.now c.requires c.args.beginning c.in-Some.file c.in_ok-log.log c.in_ok-log.ensures.log
    (λ fresh. absurd (cc (c.in-Opening-origin.is, fresh)))

pub returns-in-Fresh-origin-clause-log : goal.returns-in-Fresh-origin-clause-log
returns-in-Fresh-origin-clause-log g c =
    let items = c.in_ok-log.log.items in
    let empty : length c.journal.result.now ≡ 0 = grind (arith, nat_tests, c.if-is_empty.ensures) in
    let none : items ≡ [] = nil_from_length items (sym (ap length c.journal.ensures.items) ∙ empty) in
    nothing_came g.N.Core.machine c.args.files.now c.requires c.args.beginning c.in-Some.file c.in_ok-log.log c.in_ok-log.ensures.log c.in-Fresh-origin.is none

pub returns-in-Fresh-2-clause-log : goal.returns-in-Fresh-2-clause-log
returns-in-Fresh-2-clause-log g c =
    let first : TakesFirst c.in_ok-log.log.items = search rules in
    log_of_file g.N.Core.machine c.args.files.now c.requires c.args.beginning c.in-Some.file c.in_ok-log.log c.in_ok-log.ensures.log (λ fresh. first)

pub returns-in-Fresh-3-clause-cause : goal.returns-in-Fresh-3-clause-cause
returns-in-Fresh-3-clause-cause g c =
    let some : length c.in_ok-log.log.items ≢ 0 = λ none. grind (arith, nat_tests, c.if-is_empty.ensures, ap length c.journal.ensures.items, none) in
    ordered_first g.N.Core.machine c.args.files.now c.requires c.args.beginning c.in-Some.file c.in_ok-log.log c.in_ok-log.ensures.log c.in-Fresh-origin.is some
    (λ first. search rules)
