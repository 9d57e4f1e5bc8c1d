use Rattle.std.proofs.Common.{◌≡◌, ◌∙◌, List, ap, sym, subst, false, length, ℕ, []}
use Rattle.curp_journal.specs.Journal.{NodeJournal}
use Rattle.curp_desk.specs.Outbox.{IsOutbox}
use Rattle.curp_desk.specs.declared.inside.Out.{Out}
use Rattle.curp_desk.proofs.Outboxes.{begins, desk_of}
use Rattle.curp_desk.proofs.inside.Inside.new.Goals as goal

pub invariant_of-result : goal.invariant_of-result
invariant_of-result g c =
    let log = c.new.result in
    let begun : length log.items ≡ length c.journal.result.now = ap (λ (l : NodeJournal _). length l.items) c.new.ensures ∙ ap length (sym c.journal.ensures.items) in
    subst (λ (outs : List Out). IsOutbox (desk_of log c.args.number (length c.journal.result.now) 0 outs false false)) (sym c.new-2.ensures.items)
    (subst (λ (n : ℕ). IsOutbox (desk_of log c.args.number n 0 [] false false)) begun (begins log c.args.number))
