use Rattle.std.proofs.Common.{◌≡◌, ◌∙◌, ◌++◌, Bool, true, false, List, map, ap, sym, subst, rules, option_map}
use Rattle.curp_journal.specs.Journal.{NodeJournal, last_stamp}
use Rattle.curp_journal.specs.declared.arrived.Named.{Named}
use Rattle.curp_seat.specs.Making.{item_of}
use Rattle.curp_desk.specs.Outbox.{IsOutbox, out_of}
use Rattle.curp_desk.specs.declared.inside.Out.{Out}
use Rattle.curp_desk.proofs.Outboxes.{desk_of, fails, last_sent, loses, puts, stamp_of_last, step_is, with_last}
use Rattle.curp_desk.proofs.inside.Inside.make.Goals as goal

pub invariant_of-self : goal.invariant_of-self
invariant_of-self g c =
    let on = c.self.inside in
    let ready : on.short ≡ false = c.if-self.false in
    let was = subst (λ (s : Bool). IsOutbox (desk_of on.running on.number on.begun on.handed on.outbox.items on.ended s)) ready c.self.invariant in
    fails on.running c.make.new.self on.number on.begun on.handed on.outbox.items on.ended (item_of g.N.Core.machine on.running c.args.arrived) was c.in_err-made.ensures.err

pub invariant_of-self-in_err-put_out : goal.invariant_of-self-in_err-put_out
invariant_of-self-in_err-put_out g c =
    let on = c.self.inside in
    let item = item_of g.N.Core.machine on.running c.args.arrived in
    let ready : on.short ≡ false = c.if-self.false in
    let was = subst (λ (s : Bool). IsOutbox (desk_of on.running on.number on.begun on.handed on.outbox.items on.ended s)) ready c.self.invariant in
    let taken : c.in_ok-made.made.refused ≡ 0 = search rules in
    let added : c.make.new.self ≡ with_last on.running item = c.in_ok-made.ensures.added taken in
    let same : c.put_out.new.outbox.items ≡ on.outbox.items = c.in_err-put_out.ensures.err in
    subst (λ (outs : List Out). IsOutbox (desk_of c.make.new.self on.number on.begun on.handed outs on.ended true)) (sym same)
    (subst (λ log. IsOutbox (desk_of log on.number on.begun on.handed on.outbox.items on.ended true)) (sym added) (loses on.running on.number on.begun on.handed on.outbox.items on.ended item was))

pub invariant_of-self-2 : goal.invariant_of-self-2
invariant_of-self-2 g c =
    let on = c.self.inside in
    let item = item_of g.N.Core.machine on.running c.args.arrived in
    let ready : on.short ≡ false = c.if-self.false in
    let was = subst (λ (s : Bool). IsOutbox (desk_of on.running on.number on.begun on.handed on.outbox.items on.ended s)) ready c.self.invariant in
    let taken : c.in_ok-made.made.refused ≡ 0 = search rules in
    let added : c.make.new.self ≡ with_last on.running item = c.in_ok-made.ensures.added taken in
    let named : c.in_ok-made.made.sent.named.items ≡ last_sent on.running.id on.running.items item = c.in_ok-made.ensures.sent taken in
    let put : c.put_out.new.outbox.items ≡ on.outbox.items ++ map (out_of on.number) c.in_ok-made.made.sent.named.items = c.in_ok-put_out.ensures.ok in
    subst (λ log. IsOutbox (desk_of log on.number on.begun on.handed c.put_out.new.outbox.items on.ended false)) (sym added)
    (puts on.running on.number on.begun on.handed on.outbox.items c.put_out.new.outbox.items on.ended item was (put ∙ ap (λ (l : List Named). on.outbox.items ++ map (out_of on.number) l) named))

pub returns-clause-step : goal.returns-clause-step
returns-clause-step g c =
    let log = c.self.inside.running in
    let item = item_of g.N.Core.machine log c.args.arrived in
    let taken : c.in_ok-made.made.refused ≡ 0 = search rules in
    let added : c.make.new.self ≡ with_last log item = c.in_ok-made.ensures.added taken in
    let stamp = c.last_stamp.ensures ∙ ap (λ (l : NodeJournal _). last_stamp 0 l.items) added ∙ stamp_of_last 0 log.items item in
    let done = c.id_of-completed.ensures ∙ ap (option_map (λ completed. completed.id)) (c.in_ok-made.ensures.completed taken) in
    rw (← c.self.view_is) (step_is _ _ _ _ _ _ c.of-took.ensures done stamp)
