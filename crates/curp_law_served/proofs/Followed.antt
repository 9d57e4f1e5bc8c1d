-- What every served run keeps: nothing migrates, numbers are no larger than steps were made, configurations are present or older,
-- and no backup is fenced at an epoch that wasn't given.
use Rattle.std.proofs.Common.{◌≡◌, ◌≤◌, ◌<◌, ◌⊎◌, inl, inr, ℕ, zero, suc, ◌+◌, ◌*◌, [], nat_lt, Option, Some, None, refl, ap, sym, ◌∙◌, subst, arith}
use Rattle.std.specs.Bool.{⊤}
use Rattle.std.proofs.lemmas.Bool.{cond_both}
use Rattle.curp_base.specs.Words.{At, numbered}
use Rattle.curp_base.proofs.Numbered.{numbered_replicate}
use Rattle.curp_cmd.specs.Node.{backup_node, client_node, manager_node, master_node, witness_node}
use Rattle.curp_cmd.specs.Store.{NamesKey}
use Rattle.curp_cmd.specs.declared.node.NodeId.{NodeId}
use Rattle.curp_cmd.specs.declared.node.NodeKind.TheVariants as kind
use Rattle.curp_msg.specs.Moved.{says}
use Rattle.curp_msg.specs.declared.body.Body.{Body}
use Rattle.curp_msg.specs.declared.body.Body.TheVariants as body
use Rattle.curp_msg.specs.declared.config.Config.{Config}
use Rattle.curp_msg.specs.Input.{Input}
use Rattle.curp_msg.specs.Input as input
use Rattle.curp_msg.specs.declared.machine.Local.TheVariants as local
use Rattle.curp_msg.specs.declared.message.Message.{Message}
use Rattle.curp_msg.specs.declared.script.Step.{Step}
use Rattle.curp_msg.specs.declared.script.Step.TheVariants as steps
use Rattle.curp_facts.specs.Facts.{WasSent, lists_of_order}
use Rattle.curp_facts.specs.Facts.IsGiven.{ByRecovery}
use Rattle.curp_facts.specs.Growth.{Grows}
use Rattle.curp_facts.specs.Known.{Known}
use Rattle.curp_msg.specs.Script.{IsStep}
use Rattle.curp_model.specs.Backup.{AfterFence, BackupState, append, backup_input, fence, on_backup}
use Rattle.curp_model.specs.Client.{ClientState, client_input}
use Rattle.curp_model.specs.Manager.{opening_config}
use Rattle.curp_model.specs.Recovery.{MasterStage, master_input}
use Rattle.curp_model.specs.World.{Gives, World, deed_of, delivery, messages, opening, opening_master, shape_of, step}
use Rattle.curp_law_kept.specs.After.{After, BackupAfter, BackupMoves, BackupNew, BackupStays, ByBackup, ByClient, ByManager, ByMaster, ByWitness, ClientAfter, ClientMoves, ClientStays, ManagerAfter, ManagerMoves, ManagerStays, MasterAfter, MasterMoves, MasterNew, MasterStays, MessageAfter, SentBefore}
use Rattle.curp_law_kept.specs.Deeds.{IsFor}
use Rattle.curp_law_kept.proofs.Gives.{step_after, step_grows, backup_effect, witness_effect, client_messages, fits, from_manager, heard_in, input_moves, speaker, stage_from, known_step, among_each}
use Rattle.curp_law_kept.specs.BackupEffect.{BackupSays}
use Rattle.curp_law_kept.specs.WitnessEffect.{WitnessSays}
use Rattle.curp_law_served.specs.Served.{StopsMaster, header_of}
use Rattle.curp_law_served.proofs.Clients.{client_goes}
use Rattle.curp_law_served.proofs.Managers.{Advances, IsOlder, IsPlain, IsServed, advances_self, manager_goes, older_later, plain_later}
use Rattle.curp_law_served.proofs.RoundsRise.{IsWithin, higher, input_within}

-- a step that a served run makes
abbrev pub IsServedStep : Step → Type 0
IsServedStep (steps.Invoke n command) = NamesKey command
IsServedStep (steps.Deliver number) = ⊤
IsServedStep (steps.Fetch n) = ⊤
IsServedStep (steps.Sync n) = ⊤
IsServedStep (steps.Collect n) = ⊤
IsServedStep (steps.Recover part backup witness) = ⊤
IsServedStep (steps.Stop node) = StopsMaster (steps.Stop node)
IsServedStep _ = ⊥

pub is_step : (s : Step) → IsServedStep s → IsStep s
is_step (steps.Invoke n command) its = its
is_step _ its = tt

pub stops_master : (s : Step) → IsServedStep s → StopsMaster s
stops_master (steps.Stop node) its = its
stops_master _ its = tt

-- what it gives
pub served_input : (w : World) (s : Step) → IsServedStep s → (to : NodeId) (given : Input)
    → deed_of w s ≡ Gives to given → IsServed given
served_input w (steps.Deliver number) its to given e = by (numbered (messages w) number) e
  where
    by : (o : Option Message) → delivery o ≡ Gives to given → IsServed given
    by None e = absurd cc
    by (Some m) e = (let same : given ≡ input.Message m = cc in subst IsServed (sym same) tt)
served_input w (steps.Invoke n command) its to given e = let same : input.Local (local.Invoke command) ≡ given = cc in subst IsServed same tt
served_input w (steps.Fetch n) its to given e = let same : input.Local local.Fetch ≡ given = cc in subst IsServed same tt
served_input w (steps.Sync n) its to given e = let same : input.Local local.Sync ≡ given = cc in subst IsServed same tt
served_input w (steps.Collect n) its to given e = let same : input.Local local.Collect ≡ given = cc in subst IsServed same tt
served_input w (steps.Recover part backup witness) its to given e = let same : input.Local (local.Recover part backup witness) ≡ given = cc in subst IsServed same tt
served_input w (steps.Stop node) its to given e = absurd cc
served_input w (steps.Retry n seq) its to given e = absurd its
served_input w (steps.Replace keeper part place) its to given e = absurd its
served_input w (steps.Migrate lo hi target) its to given e = absurd its
served_input w steps.Nudge its to given e = absurd its
served_input w (steps.Expire n) its to given e = absurd its

-- what every served run keeps, after so many steps
pub record Follows (f : ℕ) (w : World) (n : ℕ) : Type 0 where
  pub shape : w.manager.shape ≡ shape_of (header_of f)
  pub still : w.manager.moving ≡ None
  pub epoch : w.manager.next.epoch ≤ n + 2
  pub version : w.manager.next.version ≤ n + 2
  pub master : w.manager.next.master ≤ n + 2
  pub backup : w.manager.next.backup ≤ f * (n + 1) + 1
  pub witness : w.manager.next.witness ≤ f * (n + 1) + 1
  pub migration : w.manager.next.migration ≤ 1
  pub serial : w.manager.config.serial ≤ n + 1
  pub says : (x : Message) → WasSent w x → IsPlain w.manager.config x.body
  pub lasts : (k : ℕ) (c : ClientState) → numbered w.clients k ≡ Some c → c.last ≤ n
  pub configs : (k : ℕ) (c : ClientState) → numbered w.clients k ≡ Some c → IsOlder w.manager.config c.config
  pub rounds : (k : ℕ) (m : MasterStage) → numbered w.masters k ≡ Some m → IsWithin n m
  pub fences : (k : ℕ) (b : BackupState) → numbered w.backups k ≡ Some b → b.fence < w.manager.next.epoch

-- ---- one step

-- a fence is raised to the epoch that it was told
fence_rises : (n : ℕ) (b : BackupState) (from : NodeId) (x : Body) (top : ℕ) → b.fence < top
    → ((epoch : ℕ) → x ≡ body.Fence epoch → epoch < top) → (on_backup n b from x).state.fence < top
unfolding on_backup append fence
fence_rises n b from (body.Append a) top low told = grind (arith)
fence_rises n b from (body.Install epoch) top low told = grind (arith)
fence_rises n b from (body.Fence epoch) top low told = cond_both (nat_lt epoch b.fence) _ _ (λ (k : AfterFence). k.state.fence < top) (λ y. low) (λ y. told epoch refl)
fence_rises n b from _ top low told = low

module _ {w : World} (known : Known w) (s : Step) (its : IsServedStep s) (f n : ℕ) (is : Follows f w n) where
  abbrev v : World
  v = (step w s).world

  now : Known v
  now = known_step w known s

  grows : Grows w v
  grows = step_grows w s

  after : After w s v
  after = step_after w s

  advances : Advances w.manager v.manager
  advances = by after.manager
    where
      by : ManagerAfter w s v.manager → Advances w.manager v.manager
      by (ManagerStays e) = subst (Advances w.manager) (sym e) (advances_self w.manager is.still)
      by (ManagerMoves k given gave e) = subst (Advances w.manager) (sym e) (manager_goes w.manager is.still given (served_input w s its _ given gave.deed)).advances

  -- what another node than the manager says
  not_manager : (x : Message) → WasSent v x → (x.from ≡ manager_node → ⊥) → IsPlain w.manager.config x.body
  not_manager x sent other = go x.body sent
    where
      go : (b : Body) → WasSent v (says x.from x.to b) → IsPlain w.manager.config b
      go (body.Configuration config) m = absurd (other (from_manager now x.from x.to _ refl m))
      go (body.TakeOut t) m = absurd (other (from_manager now x.from x.to _ refl m))
      go (body.GiveIn g) m = absurd (other (from_manager now x.from x.to _ refl m))
      go (body.ExpireClient client) m = absurd (other (from_manager now x.from x.to _ refl m))
      go _ m = tt

  no_client : (k : ℕ) → client_node k ≡ manager_node → ⊥
  no_client k e = (let own : kind.Client ≡ kind.Manager = ap (λ (x : NodeId). x.kind) e in cc)

  no_master : (k : ℕ) → master_node k ≡ manager_node → ⊥
  no_master k e = (let own : kind.Master ≡ kind.Manager = ap (λ (x : NodeId). x.kind) e in cc)

  no_backup : (k : ℕ) → backup_node k ≡ manager_node → ⊥
  no_backup k e = (let own : kind.Backup ≡ kind.Manager = ap (λ (x : NodeId). x.kind) e in cc)

  no_witness : (k : ℕ) → witness_node k ≡ manager_node → ⊥
  no_witness k e = (let own : kind.Witness ≡ kind.Manager = ap (λ (x : NodeId). x.kind) e in cc)

  said_before : (x : Message) → WasSent v x → MessageAfter w s x → IsPlain w.manager.config x.body
  said_before x sent (SentBefore old) = is.says x old
  said_before x sent (ByClient k c given here gave made a) =
      not_manager x sent (λ e. no_client k (sym (among_each (λ (m : Message). m.from ≡ client_node k) _ (client_messages known k given gave.meant c here made) x a) ∙ e))
  said_before x sent (ByMaster k m given here gave a) =
      not_manager x sent (λ e. no_master k (sym (among_each (λ (m : Message). m.from ≡ master_node k) _
      (stage_from known k (speaker known k given) (heard_in known k given) m (master_input k m given).state (master_input k m given).messages (input_moves known k m (record { its_kind = refl; its_state = here }) given gave.meant)) x a) ∙ e))
  said_before x sent (ByBackup k b given here gave a) =
      not_manager x sent (λ e. no_backup k (sym (among_each (BackupSays k given (backup_input k b given).state) _ (backup_effect k b given).says x a).sender ∙ e))
  said_before x sent (ByWitness k y given here gave a) =
      not_manager x sent (λ e. no_witness k (sym (among_each (WitnessSays k given _) _ (witness_effect k y given).says x a).sender ∙ e))
  said_before x sent (ByManager k given gave a) =
      among_each (λ (m : Message). IsPlain w.manager.config m.body) _ (manager_goes w.manager is.still given (served_input w s its _ given gave.deed)).says x a

  -- a client
  client_last : (k : ℕ) (c : ClientState) → ClientAfter w s k c → c.last ≤ suc n
  client_last k c (ClientStays here) = let low = is.lasts k c here in omega (arith, low)
  client_last k c (ClientMoves old given here gave made e) =
      let low = is.lasts k old here in
      let goes = (client_goes k old given (served_input w s its _ given gave.deed)).last in
      let own : c.last ≡ (client_input k old given).state.last = ap (λ (x : ClientState). x.last) e in
      omega (arith, low, goes, own)

  client_config : (k : ℕ) (c : ClientState) → ClientAfter w s k c → IsOlder w.manager.config c.config
  client_config k c (ClientStays here) = is.configs k c here
  client_config k c (ClientMoves old given here gave made e) = subst (λ (x : ClientState). IsOlder w.manager.config x.config) (sym e)
      (elim (client_goes k old given (served_input w s its _ given gave.deed)).config [
        | inl same ↦ subst (IsOlder w.manager.config) (sym same) (is.configs k old here)
        | inr told ↦ heard told.0 (told_sent told.0 told.1 gave.meant) told.2
      ])
    where
      told_sent : (m : Message) → given ≡ input.Message m → IsFor w (client_node k) given → WasSent w m
      told_sent m e meant = (subst (IsFor w (client_node k)) e meant).1

      heard : (m : Message) → WasSent w m → m.body ≡ body.Configuration (client_input k old given).state.config
          → IsOlder w.manager.config (client_input k old given).state.config
      heard m sent same = subst (IsPlain w.manager.config) same (is.says m sent)

  -- a master
  master_within : (k : ℕ) (m : MasterStage) → MasterAfter w s k m → IsWithin (suc n) m
  master_within k m (MasterStays here) = higher n m (is.rounds k m here)
  master_within k m (MasterMoves old given here gave e) = subst (IsWithin (suc n)) (sym e) (input_within n k old given (is.rounds k old here)).0
  master_within k m (MasterNew none e) = subst (IsWithin (suc n)) (sym e) tt

  -- a backup
  told_epoch : (x : Message) → WasSent w x → (epoch : ℕ) → x.body ≡ body.Fence epoch → epoch < w.manager.next.epoch
  told_epoch x sent epoch e =
      let own : WasSent w (says x.from x.to (body.Fence epoch)) = subst (λ (b : Body). WasSent w (says x.from x.to b)) e sent in
      let k = (fits known (says x.from x.to (body.Fence epoch)) own).fits in
      let low = (known.names.given (lists_of_order x.from k.order) (ByRecovery x.from k.order k.ordered)).epoch.1 in
      omega (arith, low, k.its_epoch)

  fence_low : (k : ℕ) (b : BackupState) → BackupAfter w s k b → b.fence < w.manager.next.epoch
  fence_low k b (BackupStays here) = is.fences k b here
  fence_low k b (BackupMoves old given here gave e) = subst (λ (x : BackupState). x.fence < w.manager.next.epoch) (sym e) (by given gave.meant)
    where
      by : (given : Input) → IsFor w (backup_node k) given
          → (backup_input k old given).state.fence < w.manager.next.epoch
      by (input.Local order) meant = is.fences k old here
      by (input.Message m) meant = fence_rises k old m.from m.body w.manager.next.epoch (is.fences k old here) (told_epoch m meant.1)
  fence_low k b (BackupNew none e) = let fresh : b.fence ≡ 0 = ap (λ (x : BackupState). x.fence) e in omega (arith, fresh, known.names.numbers.above)

  -- a step keeps it
  pub follows_step : Follows f v (suc n)
  follows_step =
      let f_is : w.manager.shape.f ≡ f = ap (λ (x : _). x.f) is.shape in
      let serial : v.manager.config.serial ≤ w.manager.config.serial + 1 = serial_rises advances.config in
      record {
        shape = advances.shape ∙ is.shape;
        still = advances.still;
        epoch = omega (arith, is.epoch, advances.next.epoch);
        version = omega (arith, is.version, advances.next.version);
        master = omega (arith, is.master, advances.next.master);
        backup = grows_by f n w.manager.next.backup v.manager.next.backup is.backup (subst (λ (x : ℕ). v.manager.next.backup ≤ w.manager.next.backup + x) f_is advances.next.backup);
        witness = grows_by f n w.manager.next.witness v.manager.next.witness is.witness (subst (λ (x : ℕ). v.manager.next.witness ≤ w.manager.next.witness + x) f_is advances.next.witness);
        migration = omega (arith, is.migration, advances.next.migration);
        serial = omega (arith, serial, is.serial);
        says = λ x sent. plain_later w.manager v.manager advances x.body (said_before x sent (after.messages x sent));
        lasts = λ k c here. client_last k c (after.clients k c here);
        configs = λ k c here. older_later w.manager v.manager advances c.config (client_config k c (after.clients k c here));
        rounds = λ k m here. master_within k m (after.masters k m here);
        fences = λ k b here. let low = fence_low k b (after.backups k b here) in omega (arith, low, grows.manager.next.epoch);
      }
    where
      serial_rises : (v.manager.config ≡ w.manager.config) ⊎ (v.manager.config.serial ≡ w.manager.config.serial + 1)
          → v.manager.config.serial ≤ w.manager.config.serial + 1
      serial_rises (inl same) = let own : v.manager.config.serial ≡ w.manager.config.serial = ap (λ (c : Config). c.serial) same in omega (arith, own)
      serial_rises (inr more) = omega (arith, more)

      grows_by : (f n a b : ℕ) → a ≤ f * (n + 1) + 1 → b ≤ a + f → b ≤ f * (suc n + 1) + 1
      grows_by f n a b low more = grind (arith)

-- ---- at opening

-- it holds before any step
pub follows_opening : (f : ℕ) → Follows f (opening (header_of f)) 0
unfolding opening
follows_opening f = record {
  shape = refl;
  still = refl;
  epoch = omega arith;
  version = omega arith;
  master = omega arith;
  backup = omega arith;
  witness = omega arith;
  migration = omega arith;
  serial = omega arith;
  says = λ x sent. absurd (none x sent.place sent.stands);
  lasts = λ k c here. let same = numbered_replicate 1 _ k c here in subst (λ (x : ClientState). x.last ≤ 0) same (omega arith);
  configs = λ k c here. let same = numbered_replicate 1 _ k c here in subst (λ (x : ClientState). IsOlder (opening_config (shape_of (header_of f))) x.config) same (inl refl);
  rounds = λ k m here. first_within k m here;
  fences = λ k b here. let same = numbered_replicate (1 * f) _ k b here in subst (λ (x : BackupState). x.fence < 2) same (omega arith);
}
  where
    none : (x : Message) (k : ℕ) → At [] k x → ⊥
    none x k at = cc

    first_within : (k : ℕ) (m : MasterStage) → numbered (opening (header_of f)).masters k ≡ Some m → IsWithin 0 m
    first_within k m here = subst (IsWithin 0) (one k here) (omega arith, omega arith)
      where
        one : (k : ℕ) → numbered (opening (header_of f)).masters k ≡ Some m
            → opening_master (shape_of (header_of f)) 1 ≡ m
        one zero here = absurd cc
        one (suc zero) here = cc
        one (suc (suc k)) here = absurd cc
