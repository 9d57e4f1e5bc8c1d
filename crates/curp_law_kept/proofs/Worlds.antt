-- The world after an input to a client, a backup, a witness or a master, as what has moved in it.
use Rattle.std.proofs.Common.{◌≡◌, ◌≢◌, inl, inr, ℕ, ◌-◌, List, [], ◌++◌, append-nil, set, refl, ap, ◌∙◌, Option, Some, None}
use Rattle.curp_base.specs.Words.{numbered}
use Rattle.curp_cmd.specs.Node.{backup_node, client_node, witness_node}
use Rattle.curp_msg.specs.Moved.{within}
use Rattle.curp_msg.specs.declared.machine.Completed.{Completed}
use Rattle.curp_msg.specs.Input.{Input}
use Rattle.curp_order.specs.declared.Event.{Event}
use Rattle.curp_model.specs.Backup.{BackupState, backup_input}
use Rattle.curp_model.specs.Client.{ClientState, client_input}
use Rattle.curp_model.specs.Witness.{WitnessState, witness_input}
use Rattle.curp_model.specs.World.{World, completion, invocation_of, kept, with_backup, with_client, with_witness}
use Rattle.curp_facts.specs.Growth.{Grows}
use Rattle.curp_facts.specs.Invariant.{Invariant}
use Rattle.curp_law_kept.specs.Deeds.{IsFor}
use Rattle.curp_base.proofs.Numbered.{numbered_set_cases, numbered_set_same}
use Rattle.curp_law_kept.proofs.BackupEffects.{backup_effect}
use Rattle.curp_law_kept.proofs.WitnessEffects.{witness_effect}
use Rattle.curp_law_kept.proofs.ClientSteps.{client_step}
use Rattle.curp_law_kept.proofs.KeeperSteps.{backup_step, witness_step}
use Rattle.curp_facts.specs.Known.{Known}
use Rattle.curp_law_kept.proofs.Later.{Later}
use Rattle.curp_model.proofs.Batches.{all_of-kept}

-- where nothing is invoked and nothing completes, the history stays
pub same_history : (history events : List Event) (done : Option Completed) → events ≡ [] → done ≡ None → (history ++ events) ++ completion done ≡ history
same_history history events done none idle =
    ap (λ (o : Option Completed). (history ++ events) ++ completion o) idle ∙ append-nil (history ++ events) ∙ ap (λ (es : List Event). history ++ es) none ∙ append-nil history

-- one other item of a list of which one was set
pub other_item : {A : Type 0} (xs : List A) (n : ℕ) (old new : A) → numbered xs n ≡ Some old → (m : ℕ) (d : A) → m ≢ n → numbered (set xs (n - 1) new) m ≡ Some d → numbered xs m ≡ Some d
other_item xs n old new here m d other now = elim (numbered_set_cases xs n old new here m d now) [
  | inl o ↦ o.1
  | inr o ↦ absurd (other o.0)
]

module _ (w : World) (known : Known w) (n : ℕ) (given : Input) (events : List Event) where
  -- a client, where its order isn't refused
  pub client_world : (c : ClientState) → numbered w.clients n ≡ Some c → IsFor w (client_node n) given → (client_input n c given).refused ≡ 0 → events ≡ invocation_of (client_node n) (Some c) given
      → Grows w (kept w events (within (with_client w n) (client_input n c given))).world → Later w (kept w events (within (with_client w n) (client_input n c given))).world
      → Invariant (kept w events (within (with_client w n) (client_input n c given))).world
  client_world c was for made invoked grows later = client_step known n given c (record {
    grows = grows;
    later = later;
    for = for;
    was = was;
    made = made;
    sent = all_of-kept w.sent (client_input n c given).messages;
    history = ap (λ (es : List Event). (w.history ++ es) ++ completion (client_input n c given).completed) invoked;
    now = numbered_set_same w.clients n c (client_input n c given).state was;
    others = λ m d other now. other_item w.clients n c (client_input n c given).state was m d other now;
    manager = refl;
    masters = refl;
    backups = refl;
    witnesses = refl;
  })

  pub backup_world : (b : BackupState) → numbered w.backups n ≡ Some b → IsFor w (backup_node n) given → events ≡ []
      → Grows w (kept w events (within (with_backup w n) (backup_input n b given))).world → Later w (kept w events (within (with_backup w n) (backup_input n b given))).world
      → Invariant (kept w events (within (with_backup w n) (backup_input n b given))).world
  backup_world b was for none grows later = backup_step known n given b was for (record {
    grows = grows;
    later = later;
    sent = all_of-kept w.sent (backup_input n b given).messages;
    manager = refl;
    masters = refl;
    clients = refl;
    history = same_history w.history events (backup_input n b given).completed none (backup_effect n b given).idle;
  }) (numbered_set_same w.backups n b (backup_input n b given).state was) (λ m d other now. other_item w.backups n b (backup_input n b given).state was m d other now) refl

  pub witness_world : (x : WitnessState) → numbered w.witnesses n ≡ Some x → IsFor w (witness_node n) given → events ≡ []
      → Grows w (kept w events (within (with_witness w n) (witness_input n x given))).world → Later w (kept w events (within (with_witness w n) (witness_input n x given))).world
      → Invariant (kept w events (within (with_witness w n) (witness_input n x given))).world
  witness_world x was for none grows later = witness_step known n given x was for (record {
    grows = grows;
    later = later;
    sent = all_of-kept w.sent (witness_input n x given).messages;
    manager = refl;
    masters = refl;
    clients = refl;
    history = same_history w.history events (witness_input n x given).completed none (witness_effect n x given).idle;
  }) (numbered_set_same w.witnesses n x (witness_input n x given).state was) (λ m d other now. other_item w.witnesses n x (witness_input n x given).state was m d other now) refl
