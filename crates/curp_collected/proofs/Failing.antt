-- How each kind of node begins by a header, and why what came to one isn't taken.
use Rattle.std.specs.Prelude.{◌≡◌, ℕ, zero, suc, ◌<◌, List, [], ◌∷◌, length, None, unwrap_or, refl}
use Rattle.std.proofs.Common.{inl, inr, sym, ◌∙◌, ap, subst, arith}
use Rattle.curp_base.specs.Words.{Each, numbered}
use Rattle.curp_base.proofs.Lists.{Each-at}
use Rattle.curp_base.specs.declared.failed.Failed.{Failed}
use Rattle.curp_base.specs.declared.failed.Failed.TheVariants as failed
use Rattle.curp_cmd.specs.Node.{manager_node}
use Rattle.curp_cmd.specs.declared.node.NodeId.{NodeId}
use Rattle.curp_cmd.specs.declared.node.NodeKind.{NodeKind}
use Rattle.curp_cmd.specs.declared.node.NodeKind.TheVariants as kinds
use Rattle.curp_msg.specs.Moved.{Moved, Node}
use Rattle.curp_msg.specs.Input.{Input}
use Rattle.curp_base.specs.Failing.{IfBecause}
use Rattle.curp_msg.specs.declared.script.Header.{Header}
use Rattle.curp_journal.specs.declared.arrived.Arrived.{Arrived}
use Rattle.curp_model.specs.Backup.{BackupState, fresh_backup}
use Rattle.curp_model.specs.Client.{ClientState}
use Rattle.curp_model.specs.Manager.{ManagerState}
use Rattle.curp_model.specs.Recovery.{Fresh, MasterStage}
use Rattle.curp_model.specs.Witness.{WitnessState, fresh_witness}
use Rattle.curp_model.specs.World.{opening, opening_client}
use Rattle.curp_client.specs.Machine.{client_machine}
use Rattle.curp_config.specs.Machine.{manager_machine}
use Rattle.curp_nodes.specs.Machines.{backup_machine, master_machine, witness_machine}
use Rattle.curp_collected.proofs.Counts.{backup_count, client_count, master_count, witness_count}
use Rattle.curp_collected.specs.Causes.{Fails, FailsSo, IsCause, OneFails, RefusedBy, StopsAt, begun_as, count_there}
use Rattle.curp_collected.specs.Files.{IsJournalAt}
use Rattle.curp_collected.specs.Kinds.{BeginsBy}
use Rattle.curp_collected.specs.Taking.{IsRefusedAt}
use Rattle.curp_collected.specs.declared.beginning.Beginning.{Beginning}
use Rattle.curp_journal.specs.declared.origin.Origin.TheVariants as origin
use Rattle.curp_collected.specs.declared.error.CollectError.{CollectError}
use Rattle.curp_collected.specs.declared.error.CollectError.TheVariants as error

-- a reason that is such a one is also one of which that says less
pub IfBecause-weaker : {E : Type 0} (why : Failed E) (P Q : E → Type 0) → ((reason : E) → P reason → Q reason) → IfBecause P why → IfBecause Q why
IfBecause-weaker failed.NoMemory P Q weaker is = tt
IfBecause-weaker (failed.Because reason) P Q weaker is = weaker reason is

-- ---- the causes of one node's journal are those of the files

-- what stands in the file can't be taken
pub so_fails : {N : Type 0} (machine : N → Input → Moved N) (files : List (List ℕ)) (h : Header) (id : NodeId) (node : N) (inputs : List Arrived) (file : ℕ) (why : CollectError)
    → IsJournalAt files file h id inputs → StopsAt machine id node inputs file why → FailsSo machine files h id node why
so_fails machine files h id node inputs file error.NoFile j stops = stops
so_fails machine files h id node inputs file (error.NotAJournal k) j stops = stops
so_fails machine files h id node inputs file (error.OtherHeader k) j stops = stops
so_fails machine files h id node inputs file (error.NoSuchNode k) j stops = stops
so_fails machine files h id node inputs file (error.Twice k) j stops = stops
so_fails machine files h id node inputs file (error.Damaged k place) j stops = absurd stops
so_fails machine files h id node inputs file (error.OrderFirst k) j stops = stops
so_fails machine files h id node inputs file (error.Foreign k number) j stops = record {
  inputs = inputs;
  stands = subst (λ n. IsJournalAt files n h id inputs) (sym stops.0) j;
  foreign = stops.1;
}
so_fails machine files h id node inputs file (error.Refused k number) j stops = record {
  inputs = inputs;
  stands = subst (λ n. IsJournalAt files n h id inputs) (sym stops.0) j;
  refused = stops.1;
}

module _ {N : Type 0} (machine : N → Input → Moved N) (files : List (List ℕ)) (h : Header) (b : Beginning N)
    (refuses : (inputs : List Arrived) (number : ℕ) → IsRefusedAt machine b.node inputs number → RefusedBy h b.id.kind b.id.number inputs number)
    (behind : b.origin ≡ origin.Fresh → count_there h b.id.kind < b.id.number) where
  pub cause_of : (why : CollectError) → Fails machine files h b why → IsCause files why
  cause_of error.NoFile is = absurd is
  cause_of (error.NotAJournal k) is = absurd is
  cause_of (error.OtherHeader k) is = absurd is
  cause_of (error.NoSuchNode k) is = absurd is
  cause_of (error.Twice k) is = absurd is
  cause_of (error.Damaged k place) is = is
  cause_of (error.Foreign k number) is = record {
    journal = record { h = h; node = b.id; inputs = is.inputs; stands = is.stands };
    foreign = is.foreign;
  }
  cause_of (error.Refused k number) is = record {
    journal = record { h = h; node = b.id; inputs = is.inputs; stands = is.stands };
    refused = refuses is.inputs number is.refused;
  }
  cause_of (error.OrderFirst k) is = record {
    journal = record { h = h; node = b.id; inputs = is.inputs; stands = is.stands };
    absent = behind is.fresh;
    order = is.order;
  }

-- ---- nodes of a kind

numbered_past : {A : Type 0} (xs : List A) (n : ℕ) → length xs < n → numbered xs n ≡ None
numbered_past [] zero past = refl
numbered_past [] (suc n) past = refl
numbered_past (x ∷ xs) zero past = absurd (omega arith)
numbered_past (x ∷ xs) (suc zero) past = absurd (omega arith)
numbered_past (x ∷ xs) (suc (suc n)) past = numbered_past xs (suc n) (omega arith)

state_is : {S : Type 0} (kind : NodeKind) (there : List S) (fresh : S) (b : Beginning (Node S)) → BeginsBy kind there fresh b → b.node.state ≡ unwrap_or (numbered there b.node.number) fresh
state_is kind there fresh b is = elim is.begins [
  | inl here ↦ ap (λ o. unwrap_or o fresh) (sym here)
  | inr new ↦ new.1 ∙ ap (λ o. unwrap_or o fresh) (sym (numbered_past there b.node.number new.0))
]

as_begun : {S : Type 0} (kind : NodeKind) (there : List S) (fresh : S) (b : Beginning (Node S)) → BeginsBy kind there fresh b → b.node ≡ begun_as there fresh b.node.number
as_begun {S} kind there fresh b is = λ i. record { number = b.node.number; state = state_is kind there fresh b is i }

-- one of these nodes fails by a cause of the files
module _ {S : Type 0} (kind : NodeKind) (there : List S) (fresh : S) (machine : Node S → Input → Moved (Node S)) (files : List (List ℕ)) (h : Header)
    (refuses : (n : ℕ) (inputs : List Arrived) (number : ℕ) → IsRefusedAt machine (begun_as there fresh n) inputs number → RefusedBy h kind n inputs number)
    (count : count_there h kind ≡ length there) where
  pub one_cause : (bs : List (Beginning (Node S))) → Each (BeginsBy kind there fresh) bs → (why : CollectError) → OneFails machine files h bs why → IsCause files why
  one_cause bs each why one =
      let b = one.b in
      let is = Each-at (BeginsBy kind there fresh) bs each one.place b one.stands in
      cause_of machine files h b
      (λ inputs number no.
      subst (λ (id : NodeId). RefusedBy h id.kind id.number inputs number) (sym is.its_name)
      (refuses b.node.number inputs number (subst (λ (n : Node S). IsRefusedAt machine n inputs number) (as_begun kind there fresh b is) no)))
      (λ new. subst (λ (id : NodeId). count_there h id.kind < id.number) (sym is.its_name) (omega (arith, is.behind new, count)))
      why one.fails

module _ (files : List (List ℕ)) (h : Header) where
  pub client_cause : (bs : List (Beginning (Node ClientState))) → Each (BeginsBy kinds.Client (opening h).clients (opening_client h)) bs
      → (why : CollectError) → OneFails client_machine files h bs why → IsCause files why
  client_cause = one_cause kinds.Client (opening h).clients (opening_client h) client_machine files h (λ n inputs number no. no) (sym (client_count h))

  pub master_cause : (bs : List (Beginning (Node MasterStage))) → Each (BeginsBy kinds.Master (opening h).masters Fresh) bs
      → (why : CollectError) → OneFails master_machine files h bs why → IsCause files why
  master_cause = one_cause kinds.Master (opening h).masters Fresh master_machine files h (λ n inputs number no. no) (sym (master_count h))

  pub backup_cause : (bs : List (Beginning (Node BackupState))) → Each (BeginsBy kinds.Backup (opening h).backups fresh_backup) bs
      → (why : CollectError) → OneFails backup_machine files h bs why → IsCause files why
  backup_cause = one_cause kinds.Backup (opening h).backups fresh_backup backup_machine files h (λ n inputs number no. no) (sym (backup_count h))

  pub witness_cause : (bs : List (Beginning (Node WitnessState))) → Each (BeginsBy kinds.Witness (opening h).witnesses (fresh_witness h.sets h.ways)) bs
      → (why : CollectError) → OneFails witness_machine files h bs why → IsCause files why
  witness_cause = one_cause kinds.Witness (opening h).witnesses (fresh_witness h.sets h.ways) witness_machine files h (λ n inputs number no. no) (sym (witness_count h))

  -- the manager's
  pub manager_cause : (g : ManagerState) → g ≡ (opening h).manager → (why : CollectError)
      → Fails manager_machine files h (record { id = manager_node; origin = origin.Opening; node = g }) why → IsCause files why
  manager_cause g is = cause_of manager_machine files h (record { id = manager_node; origin = origin.Opening; node = g })
      (λ inputs number no. subst (λ (m : ManagerState). IsRefusedAt manager_machine m inputs number) is no) (λ new. absurd cc)
