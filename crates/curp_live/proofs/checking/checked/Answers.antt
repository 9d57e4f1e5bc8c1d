use Rattle.std.proofs.Common.{◌≡◌, List, map, ap, sym, ◌∙◌, subst, Vec, Global}
use Rattle.curp_base.specs.Words.{Each}
use Rattle.curp_cmd.specs.declared.command.Command.{Command}
use Rattle.curp_msg.specs.Moved.{Node}
use Rattle.curp_msg.specs.declared.script.Header.{Header}
use Rattle.curp_journal.specs.Journal.{NodeJournal}
use Rattle.curp_journal.specs.declared.item.Item.{Item}
use Rattle.curp_model.specs.Client.{ClientState}
use Rattle.curp_model.specs.Manager.{ManagerState}
use Rattle.curp_law_weave.specs.Run.{ordered_in}
use Rattle.curp_due.specs.Recoveries.{recoveries_from}
use Rattle.curp_anew.specs.Work.{DidInOrder, FewPending}
use Rattle.curp_words.specs.Plan.{live_header}
use Rattle.curp_live.specs.Taken.{AreAllAnew, AreAllTaken, AreHandedOut}
use Rattle.curp_live.proofs.Ends.{ends_handed}
use Rattle.curp_live.proofs.Runs.{live_run}
use Rattle.curp_live.proofs.checking.checked.Goals as goal
use Rattle.curp_live.proofs.checking.checked.Goals.{else-did_all-via-then-did_all+then-all_have_few_pending+then-recovers_as_planned+else-all_end_as_planned, else-did_all-via-then-did_all+then-all_have_few_pending+else-recovers_as_planned, else-did_all-via-then-did_all+else-all_have_few_pending, else-did_all-via-else-did_all}

pub returns-then-all_end_as_planned-clause-run : goal.returns-then-all_end_as_planned-clause-run
returns-then-all_end_as_planned-clause-run c =
    let plan = c.args.plan.now in
    let journals = c.in-Some.journals in
    let work = map (λ (list : Vec Command Global). list.items) c.args.work.now in
    let anew = rw c.in-Some.is at c.in_ok-journals.ensures.anew in
    let are : AreAllAnew (live_header plan) plan.recoveries journals = subst (λ (h : Header). AreAllAnew h plan.recoveries journals) c.header.ensures.header anew in
    let did = subst (λ (clients : List (NodeJournal (Node ClientState))). DidInOrder work clients) c.deref.ensures.value (c.did_all.ensures.did c.if-did_all.true) in
    let recovered : ordered_in journals.manager.items ≡ recoveries_from plan 1 =
    ap (λ (items : List Item). ordered_in items) (sym c.journal.ensures.items) ∙ c.recovers_as_planned.ensures.0 c.if-recovers_as_planned.true in
    let few = subst (Each (λ (log : NodeJournal (Node ClientState)). FewPending log.items)) c.deref-then-did_all.ensures.value (c.all_have_few_pending.ensures.0 c.if-all_have_few_pending.true) in
    live_run plan work journals c.requires.plan are did few recovered (c.all_end_as_planned.ensures.0 c.if-all_end_as_planned.true)

pub returns-then-all_end_as_planned-clause-same : goal.returns-then-all_end_as_planned-clause-same
returns-then-all_end_as_planned-clause-same c = λ few run.
    let plan = c.args.plan.now in
    let are = subst (λ (h : Header). AreAllTaken h plan.recoveries c.args.taken) (sym c.header.ensures.header) run.are in
    let handed = rw c.in-Some.is at c.in_ok-journals.ensures.same are in
    subst (λ (h : Header). AreHandedOut h c.args.taken c.in-Some.journals) c.header.ensures.header handed

pub returns-else-did_all-clause-same : goal.returns-else-did_all-clause-same
returns-else-did_all-clause-same c = λ few run.
    let plan = c.args.plan.now in
    let taken = c.args.taken in
    let journals = c.in-Some.journals in
    let work = map (λ (list : Vec Command Global). list.items) c.args.work.now in
    let are = subst (λ (h : Header). AreAllTaken h plan.recoveries taken) (sym c.header.ensures.header) run.are in
    let handed = rw c.in-Some.is at c.in_ok-journals.ensures.same are in
    elim c.else-did_all.branch [
      | else-did_all-via-then-did_all+then-all_have_few_pending+then-recovers_as_planned+else-all_end_as_planned w ↦
          absurd (cc (w.all_end_as_planned.ensures.1 (ends_handed plan c.header.result taken journals handed run.ends), w.if-all_end_as_planned.false))
      | else-did_all-via-then-did_all+then-all_have_few_pending+else-recovers_as_planned w ↦
          let recovered : ordered_in w.journal.result.now ≡ recoveries_from plan 1 = ap (λ (items : List Item). ordered_in items) w.journal.ensures.items
          ∙ ap (λ (log : NodeJournal ManagerState). ordered_in log.items) handed.manager ∙ run.recovered in
          absurd (cc (w.recovers_as_planned.ensures.1 recovered, w.if-recovers_as_planned.false))
      | else-did_all-via-then-did_all+else-all_have_few_pending w ↦
          let pending = subst (Each (λ (log : NodeJournal (Node ClientState)). FewPending log.items)) (sym (w.deref-then-did_all.ensures.value ∙ handed.clients)) run.pending in
          absurd (cc (w.all_have_few_pending.ensures.1 pending, w.if-all_have_few_pending.false))
      | else-did_all-via-else-did_all w ↦
          let did = subst (DidInOrder work) (sym (c.deref.ensures.value ∙ handed.clients)) run.did in
          absurd (cc (c.did_all.ensures.all few did, w.if-did_all.false))
    ]

pub returns-else-did_all-clause-cause : goal.returns-else-did_all-clause-cause
returns-else-did_all-clause-cause c = λ none few run. returns-else-did_all-clause-same c few run
