-- The steps of journals of which none ended can be printed: they stop no node.
use Rattle.std.specs.Prelude.{◌≡◌, ℕ, false, List, map, Option}
use Rattle.std.proofs.Common.{sym, ◌∙◌, true≢false}
use Rattle.curp_base.specs.Words.{Each}
use Rattle.curp_base.proofs.Lists.{Each-append, Each-at, Each-map, Each-weaker}
use Rattle.curp_msg.specs.Moved.{Moved}
use Rattle.curp_msg.specs.Input.{Input}
use Rattle.curp_msg.specs.declared.script.Header.{Header}
use Rattle.curp_msg.specs.declared.script.Step.{Step}
use Rattle.curp_msg.specs.declared.script.Step.TheVariants.{Collect, Deliver, Expire, Fetch, Invoke, Migrate, Nudge, Recover, Replace, Retry, Stop, Sync}
use Rattle.curp_journal.specs.Journal.{NodeJournal}
use Rattle.curp_client.specs.Machine.{client_machine}
use Rattle.curp_nodes.specs.Machines.{backup_machine, master_machine, witness_machine}
use Rattle.curp_script.specs.Printed.{NamesNode}
use Rattle.curp_journal.specs.Turns.{Journal}
use Rattle.curp_law_weave.specs.Run.{StopsEnded}
use Rattle.curp_gather.specs.Journals.{journal_of, journals_of}
use Rattle.curp_gather.specs.declared.journals.Journals.{Journals}
use Rattle.curp_collected.specs.Collected.{AreCollected}
use Rattle.curp_collected.specs.Taking.{IsOfFiles}

-- the journal didn't end
abbrev GoesOn : Journal → Type 0
GoesOn one = one.ended ≡ false

module _ (contents : List (List ℕ)) (until : Option ℕ) (h : Header) (j : Journals) (collected : AreCollected contents until h j) where
  of_kind : {N : Type 0} (machine : N → Input → Moved N) (logs : List (NodeJournal N)) → Each (IsOfFiles machine contents until h) logs → Each GoesOn (map journal_of logs)
  of_kind {N} machine logs its =
      Each-map GoesOn journal_of logs (Each-weaker (IsOfFiles machine contents until h) (λ (log : NodeJournal N). log.ended ≡ false) (λ log is. is.goes_on) logs its)

  all_go_on : Each GoesOn (journals_of j)
  all_go_on = (
    collected.manager.goes_on,
    Each-append GoesOn (map journal_of j.clients.items) _ (of_kind client_machine j.clients.items collected.clients)
        (Each-append GoesOn (map journal_of j.masters.items) _ (of_kind master_machine j.masters.items collected.masters)
        (Each-append GoesOn (map journal_of j.backups.items) _ (of_kind backup_machine j.backups.items collected.backups)
        (of_kind witness_machine j.witnesses.items collected.witnesses))),
  )

  step_prints : (step : Step) → StopsEnded (journals_of j) step → NamesNode step
  step_prints (Stop node) stops = absurd (true≢false (sym stops.ended ∙ Each-at GoesOn (journals_of j) all_go_on stops.place stops.journal stops.stands))
  step_prints (Invoke client command) stops = tt
  step_prints (Deliver number) stops = tt
  step_prints (Retry client seq) stops = tt
  step_prints (Fetch client) stops = tt
  step_prints (Sync master) stops = tt
  step_prints (Collect master) stops = tt
  step_prints (Recover part backup witness) stops = tt
  step_prints (Replace keeper part place) stops = tt
  step_prints (Migrate lo hi to) stops = tt
  step_prints Nudge stops = tt
  step_prints (Expire client) stops = tt

  pub printable : (steps : List Step) → Each (StopsEnded (journals_of j)) steps → Each NamesNode steps
  printable = Each-weaker (StopsEnded (journals_of j)) NamesNode step_prints
