-- A run of journals shows the work that was done.
use Rattle.std.proofs.Common.{◌≡◌, ℕ, zero, suc, ◌+◌, ◌-◌, ◌≤◌, List, length, map, refl, ap, sym, ◌∙◌, subst, arith}
use Rattle.curp_base.specs.Words.{At, numbers_from}
use Rattle.curp_base.proofs.Lists.{Each-at, Each-weaker, at_append, at_map, at_some}
use Rattle.curp_base.proofs.Numbered.{numbers_at}
use Rattle.curp_cmd.specs.Node.{client_node}
use Rattle.curp_cmd.specs.declared.node.NodeId.{NodeId}
use Rattle.curp_msg.specs.Moved.{Node}
use Rattle.curp_msg.specs.declared.script.Step.{Step}
use Rattle.curp_msg.specs.declared.script.Step.TheVariants as steps
use Rattle.curp_journal.specs.Journal.{NodeJournal}
use Rattle.curp_model.specs.Client.{ClientState}
use Rattle.curp_model.specs.World.{opening}
use Rattle.curp_journal.specs.Work.{DidWork, orders_to, recoveries_among}
use Rattle.curp_law_weave.proofs.Gives.{completed_are, invocations_are, items_recover, orders_are, recoveries_are, stopped_are}
use Rattle.curp_law_weave.specs.Run.{StopsEnded}
use Rattle.curp_gather.specs.Journals.{IsClientJournal, IsScriptOf, journal_of, journals_of}
use Rattle.curp_gather.specs.declared.journals.Journals.{Journals}
use Rattle.curp_gen.specs.Commands.{workload_of}
use Rattle.curp_gen.proofs.Workloads.{length-workload}
use Rattle.curp_due.specs.Recoveries.{recoveries_from, recovery_of, stops}
use Rattle.curp_live.specs.Live.{IsLiveRun}
use Rattle.curp_words.specs.Plan.{live_header}
use Rattle.curp_nodes.proofs.Numbers.{named_length}
use Rattle.curp_words.specs.declared.task.LivePlan.{LivePlan}
use Rattle.curp_run.specs.Live.{Shows, StopsAsPlanned, work_of}
use Rattle.curp_run.proofs.Stops.{run_prints}

-- as many recoveries are among those of a plan as there are numbers
counted : (plan : LivePlan) (number count : ℕ) → recoveries_among (map (recovery_of plan) (numbers_from number count)) ≡ count
counted plan number zero = refl
counted plan number (suc count) =
    let more : 1 + count ≡ suc count = omega arith in
    ap (λ (n : ℕ). 1 + n) (counted plan (number + 1) count) ∙ more

module _ (plan : LivePlan) (j : Journals) (ss : List Step) (run : IsLiveRun plan (work_of plan) j) (script : IsScriptOf (live_header plan) (journals_of j) ss) where
  -- a client's journal, and what it did
  record Worked (n : ℕ) : Type 0 where
    k : ℕ
    log : NodeJournal (Node ClientState)
    stands : At (journals_of j) k (journal_of log)
    its_name : log.id ≡ client_node n
    did : DidWork n (workload_of plan.number n plan.commands) log.items

  worked : (n : ℕ) → 1 ≤ n → n ≤ plan.clients → Worked n
  worked zero low high = absurd (omega arith)
  worked (suc k) low high =
      let e : suc k ≡ k + 1 = omega arith in
      let one : 1 + k ≡ suc k = omega arith in
      let many : length j.clients.items ≡ plan.clients = run.did.count ∙ named_length (λ (n : ℕ). workload_of plan.number n plan.commands) plan.clients in
      let found = at_some j.clients.items k (omega (arith, many)) in
      let commands = at_map (λ (n : ℕ). workload_of plan.number n plan.commands) (numbers_from 1 plan.clients) k (1 + k) (numbers_at 1 plan.clients k (omega arith)) in
      let did = run.did.each k found.0 (workload_of plan.number (1 + k) plan.commands) found.1 commands in
      let is = Each-at (IsClientJournal (live_header plan)) j.clients.items run.are.clients k found.0 found.1 in
      record {
        k = suc k;
        log = found.0;
        stands = at_append (map journal_of j.clients.items) _ k (journal_of found.0) (at_map journal_of j.clients.items k found.0 found.1);
        its_name = is.its_name ∙ ap client_node (did.0 ∙ sym e);
        did = subst (λ (n : ℕ). DidWork n (workload_of plan.number n plan.commands) (found.0).items) (sym e) (subst (λ (n : ℕ). DidWork (k + 1) (workload_of plan.number n plan.commands) (found.0).items) (one ∙ e) did.1);
      }

  -- a node whose journal has a last stop is one that the plan stops
  planned : (s : Step) → StopsEnded (journals_of j) s → StopsAsPlanned plan s
  planned (steps.Stop node) h = ap (stops plan) (sym h.its_name) ∙ (sym (run.stopped h.place h.journal h.stands) ∙ h.ended)
  planned (steps.Invoke n command) h = tt
  planned (steps.Deliver number) h = tt
  planned (steps.Retry n seq) h = tt
  planned (steps.Fetch n) h = tt
  planned (steps.Sync n) h = tt
  planned (steps.Collect n) h = tt
  planned (steps.Recover part backup witness) h = tt
  planned (steps.Replace keeper part place) h = tt
  planned (steps.Migrate lo hi to) h = tt
  planned steps.Nudge h = tt
  planned (steps.Expire n) h = tt

  all_counted : recoveries_among (recoveries_from plan 1) ≡ plan.recoveries
  all_counted = counted plan 1 (plan.recoveries + 1 - 1) ∙ omega arith

  pub shown : Shows plan ss
  shown = record {
    invoked = λ n low high.
        let w = worked n low high in
        invocations_are (journals_of j) (live_header plan) ss script.placed script.run w.k n (journal_of w.log) w.stands w.its_name ∙ w.did.invoked;
    completed = λ n seq low high first last.
        let w = worked n low high in
        let many : length (workload_of plan.number n plan.commands) ≡ plan.commands = length-workload plan.number n plan.commands in
        completed_are (journals_of j) (live_header plan) ss script.placed script.run w.k (journal_of w.log) (record { client = n; seq = seq }) w.stands (w.did.completed seq first (omega (arith, many, last)));
    recovered = recoveries_are (journals_of j) (live_header plan) ss script.placed script.run 0 (journal_of j.manager) refl run.are.manager.its_name
        ∙ (sym (items_recover j.manager.items) ∙ (ap recoveries_among run.recovered ∙ all_counted));
    ordered = ap (λ (node : NodeId). orders_to node ss) (sym run.are.manager.its_name)
        ∙ (orders_are (journals_of j) (live_header plan) ss script.placed script.run 0 (journal_of j.manager) refl ∙ run.recovered);
    stopped = Each-weaker (StopsEnded (journals_of j)) (StopsAsPlanned plan) planned ss (stopped_are (journals_of j) (live_header plan) ss script.placed script.run);
    printable = run_prints (opening (live_header plan)) ss script.placed script.run.runs;
  }
