-- Each delivery keeps a world in which a partition is recovered on its way.
use Rattle.std.proofs.Common.{◌≡◌, ◌≢◌, ◌≤◌, ◌⊎◌, not, inl, inr, ℕ, suc, ◌+◌, ◌-◌, Bool, true, false, cond, List, [], ◌∷◌, ◌++◌, length, set, nat_lt, Some, None, refl, ap, sym, ◌∙◌, subst, arith}
use Rattle.std.specs.Bool.{⊤}
use Rattle.std.proofs.lemmas.Bool.{cond_both, ltb-true}
use Rattle.std.proofs.lemmas.Bool.Decides.{eqb_tells}
use Rattle.curp_base.specs.Words.{At, Each, numbered}
use Rattle.curp_base.proofs.Lists.{Each-at, Each-weaker, at_append, at_append_cases, at_same, at_within}
use Rattle.curp_base.proofs.Numbered.{numbered_set_other, numbered_set_same}
use Rattle.curp_cmd.specs.Node.{backup_node, manager_node, master_node, witness_node}
use Rattle.curp_cmd.specs.declared.node.NodeId.{NodeId}
use Rattle.curp_cmd.specs.declared.node.NodeKind.TheVariants as kind
use Rattle.curp_msg.specs.Moved.{Moved, quiet, says, within}
use Rattle.curp_msg.specs.declared.body.Adopted.{Adopted}
use Rattle.curp_msg.specs.declared.body.Recovered.{Recovered}
use Rattle.curp_msg.specs.declared.body.Start.{Start}
use Rattle.curp_cmd.specs.declared.node.NodeKind.{NodeKind}
use Rattle.curp_msg.specs.declared.answer.AppendAnswer.{AppendAnswer}
use Rattle.curp_msg.specs.declared.answer.AppendAnswer.TheVariants.{Fenced, NotInstalled, Gap, Stored}
use Rattle.curp_msg.specs.declared.body.Append.{Append}
use Rattle.curp_msg.specs.declared.body.Body.{Body}
use Rattle.curp_msg.specs.declared.body.Body.TheVariants as body
use Rattle.curp_msg.specs.declared.body.Recover.{Recover}
use Rattle.curp_msg.specs.declared.config.PartConfig.{PartConfig}
use Rattle.curp_msg.specs.declared.message.Message.{Message}
use Rattle.curp_facts.specs.Facts.{IsAmong}
use Rattle.curp_model.specs.Backup.{AfterAppend, BackupState, append, fence, install, installed_once, is_installed_at, longer, on_backup, refuses_entries, stores}
use Rattle.curp_model.specs.Client.{ClientState}
use Rattle.curp_model.specs.Manager as manager
use Rattle.curp_model.specs.Manager.{ManagerState, adopts, on_manager}
use Rattle.curp_model.specs.Master.{MasterState, beginning, on_serving}
use Rattle.curp_cmd.specs.declared.command.Request.{Request}
use Rattle.curp_msg.specs.declared.body.Appended.{Appended}
use Rattle.curp_msg.specs.declared.body.FenceAnswer.{FenceAnswer}
use Rattle.curp_model.specs.Recovery.{Asking, Fresh, MasterStage, Recovering, RecoveryPhase, RecoveryState, Replayed, Serving, Storing, Waiting, append_answered, fence_answered, on_master, on_recover, requests_come, serves}
use Rattle.curp_model.specs.Witness.{WitnessState, frozen_requests, on_witness, start}
use Rattle.curp_model.specs.World.{World, messages}
use Rattle.curp_law_served.specs.Calm.{IsUndelivered}
use Rattle.curp_law_served.specs.Recovers.{CompletesBackup, GivesLog, GivesRequests, OrdersRecovery, PhaseGoes, TellsRecovered}
use Rattle.curp_law_served.specs.Renews.{IsInstalled, IsSteady, Renewal, RenewFits, RenewGrounds, Renewing, ServesIdle, TellsRenewed, WillInstall, IsRenewed, renewed}
use Rattle.curp_law_served.specs.Renews.Renewal.{Adopts, Attempts, Ordered, Serves}
use Rattle.curp_law_served.specs.Ways.{Appends, AnswersStored, OnWay, Stores}
use Rattle.curp_law_served.proofs.Lists.{among_cases, among_first, among_none}
use Rattle.curp_law_served.proofs.Adopts.{adopts_it, fence_told, freeze_told}
use Rattle.curp_law_served.proofs.Keepers.{append_stores, long_enough}
use Rattle.curp_law_served.proofs.Recovers.{completes_on, log_goes, log_on, none_recovers, ordered, phase_on, requests_go, requests_on, stored_goes}
use Rattle.curp_law_served.proofs.RenewSays.{IsMasters, IsWaited, fence_said, freeze_said, fresh_adopted, fresh_ordered, on_fresh_other, on_serving_stage, on_waiting, ordered_said, recovered_again, recovering_fence, recovering_freeze, recovering_order, recovering_stored, serving_idle, stored_said}
use Rattle.curp_law_served.proofs.RenewSteps.{ManagerDid, StageDid, manager_did, stage_did}
use Rattle.curp_law_served.proofs.Steps.{BackupDid, Delivered, WitnessDid, backup_did, due_from, new_due, splits, witness_did}
use Rattle.curp_law_served.proofs.Ways as ways

started_quiet : (number : ℕ) (y : WitnessState) (from : NodeId) (s : Start)
    → on_witness number y from (body.Start s) ≡ quiet (start y s.epoch)
unfolding on_witness
started_quiet number y from s = refl

installed_quiet : (number : ℕ) (b : BackupState) (from : NodeId) (epoch : ℕ)
    → on_backup number b from (body.Install epoch) ≡ quiet (install b epoch)
unfolding on_backup
installed_quiet number b from epoch = refl

fence_messages : (number : ℕ) (b : BackupState) (from : NodeId) (epoch : ℕ) (y : Message)
    → IsAmong y (on_backup number b from (body.Fence epoch)).messages
    → IsAmong y (says (backup_node number) from (body.FenceAnswer (record { epoch = epoch; answer = (fence b epoch).answer })) ∷ [])
unfolding on_backup
fence_messages number b from epoch y a = a

freeze_messages : (number : ℕ) (x : WitnessState) (from : NodeId) (epoch : ℕ) (y : Message)
    → IsAmong y (on_witness number x from (body.Freeze epoch)).messages
    → IsAmong y (says (witness_node number) from (body.FrozenAnswer (frozen_requests x)) ∷ [])
unfolding on_witness
freeze_messages number x from epoch y a = a

append_messages : (number : ℕ) (b : BackupState) (from : NodeId) (a : Append) (y : Message)
    → IsAmong y (on_backup number b from (body.Append a)).messages
    → IsAmong y (says (backup_node number) from (body.Appended (record { epoch = a.epoch; round = a.round; answer = (append b a.epoch a.base a.entries).answer })) ∷ [])
unfolding on_backup
append_messages number b from a y among = among

adopted_serves : (n : ℕ) (s : RecoveryState) (k : Replayed) (from : NodeId) (a : Adopted) → s.phase ≡ Waiting k
    → on_master n (Recovering s) from (body.Adopted a) ≡ quiet (Serving (beginning s.order.part s.order.epoch s.order.version s.order.backups s.order.witnesses s.order.lo s.order.hi k.log k.round))
unfolding on_master
adopted_serves n s k from a is = ap (λ (p : RecoveryPhase). quiet (serves s p)) is

some_same : {A : Type 0} (a b : A) → Some a ≡ Some b → a ≡ b
some_same a b e = cc

-- an append changes neither epoch nor fence
append_keeps : (b : BackupState) (a : Append)
    → ((append b a.epoch a.base a.entries).state.installed ≡ b.installed) × ((append b a.epoch a.base a.entries).state.fence ≡ b.fence)
unfolding append
append_keeps b a = by (nat_lt a.epoch b.fence) (not (is_installed_at b.installed a.epoch)) (nat_lt (length b.log) a.base)
  where
    all : Bool → Bool → Bool → AfterAppend
    all x y z = cond x (refuses_entries b (Fenced b.fence)) (cond y (refuses_entries b NotInstalled) (cond z (refuses_entries b (Gap (length b.log))) (stores b (longer b.log a.base a.entries))))

    by : (x y z : Bool)
        → ((cond x (refuses_entries b (Fenced b.fence)) (cond y (refuses_entries b NotInstalled) (cond z (refuses_entries b (Gap (length b.log))) (stores b (longer b.log a.base a.entries))))).state.installed ≡ b.installed)
        × ((cond x (refuses_entries b (Fenced b.fence)) (cond y (refuses_entries b NotInstalled) (cond z (refuses_entries b (Gap (length b.log))) (stores b (longer b.log a.base a.entries))))).state.fence ≡ b.fence)
    by true y z = (refl, refl)
    by false true z = (refl, refl)
    by false false true = (refl, refl)
    by false false false = (refl, refl)

append_state : (number : ℕ) (b : BackupState) (from : NodeId) (a : Append)
    → ((on_backup number b from (body.Append a)).state.installed ≡ b.installed) × ((on_backup number b from (body.Append a)).state.fence ≡ b.fence)
unfolding on_backup
append_state number b from a = append_keeps b a

-- the backup tells that it has stored
stored_told : (E : Message → Type 0) (q number : ℕ) (b : BackupState) (a : Append) → b.fence ≤ a.epoch
    → b.installed ≡ Some a.epoch → a.base ≤ length b.log
    → ((y : Message) → IsAmong y (on_backup number b (master_node q) (body.Append a)).messages → E y) → (long round : ℕ) → long ≤ a.base + length a.entries → round ≤ a.round → OnWay E (Stores q (backup_node number) long round)
unfolding on_backup
stored_told E q number b a fence installed gap sent long round low late =
    let is : (append b a.epoch a.base a.entries).answer ≡ Stored (length (longer b.log a.base a.entries)) = ap (λ (k : AfterAppend). k.answer) (append_stores b a.epoch a.base a.entries fence installed gap) in
    (_, sent _ (among_first _ []), (refl, refl, subst (λ (s : AppendAnswer). AnswersStored long round a.round s) (sym is) (omega (arith, low, long_enough b.log a.entries a.base gap), late)))

-- an install changes nothing of what is installed, and installs what isn't
install_keeps : (b : BackupState) (own epoch : ℕ) → b.installed ≡ Some own → install b epoch ≡ b
install_keeps b own epoch is = cond_both (nat_lt epoch b.fence) b (installed_once b epoch b.installed) (λ (k : BackupState). k ≡ b) (λ y. refl) (λ n. ap (installed_once b epoch) is)

install_bare : (b : BackupState) (epoch : ℕ) → b.installed ≡ None → b.fence ≤ epoch
    → install b epoch ≡ record b { installed = Some epoch }
install_bare b epoch is low = cond_both (nat_lt epoch b.fence) b (installed_once b epoch b.installed) (λ (k : BackupState). k ≡ record b { installed = Some epoch })
    (λ y. absurd (omega (arith, low, ltb-true epoch b.fence y))) (λ n. ap (installed_once b epoch) is)

-- a message that isn't an order to recover, nor an install
abbrev pub IsLater : Body → Type 0
IsLater (body.Recover r) = ⊥
IsLater (body.Install epoch) = ⊥
IsLater _ = ⊤

-- an adoption of the manager aside
fits_later : (S T : Type 0) → (S → T) → (q : ℕ) (o : Recover) (from to : NodeId) (b : Body)
    → RenewFits S q o from to b → RenewFits T q o from to b
fits_later S T f q o from to (body.Adopted a) fit = (fit.0, f fit.1)
fits_later S T f q o from to (body.Install e) fit = fit
fits_later S T f q o from to (body.Start e) fit = fit
fits_later S T f q o from to (body.Recover e) fit = fit
fits_later S T f q o from to (body.Fence e) fit = fit
fits_later S T f q o from to (body.FenceAnswer e) fit = fit
fits_later S T f q o from to (body.Freeze e) fit = fit
fits_later S T f q o from to (body.FrozenAnswer e) fit = fit
fits_later S T f q o from to (body.Append e) fit = fit
fits_later S T f q o from to (body.Appended e) fit = fit
fits_later S T f q o from to (body.Recovered e) fit = fit
fits_later S T f q o from to _ fit = absurd fit

module _ (w v : World) (done : ℕ) (x : Message) (at : At (messages w) done x) (did : Delivered w v x) (c : PartConfig)
    (q : ℕ) (o : Recover) (cl : ClientState) (re : Renewing w done c q o cl) (g : RenewGrounds w done q o) where
  abbrev D : Message → Type 0
  D = IsUndelivered w done

  abbrev E : Message → Type 0
  E = IsUndelivered v (suc done)

  here : IsUndelivered w done x
  here = (done, omega arith, at)

  fit_as : (b : Body) → x.body ≡ b → RenewFits (IsSteady w) q o x.from x.to b
  fit_as b e = subst (RenewFits (IsSteady w) q o x.from x.to) e (re.fits x here)

  module _ (more : List Message) (said : messages v ≡ messages w ++ more) where
    -- it goes on
    renews : v.clients ≡ w.clients → (IsSteady w → IsSteady v)
        → ((y : Message) → IsAmong y more → RenewFits (IsSteady v) q o y.from y.to y.body)
        → Renewal v (suc done) c q o → Renewing v (suc done) c q o cl
    renews clients steady new renewal = record {
      client = clients ∙ re.client;
      fits = λ y due. elim (due_from w v done x at more said y due) [ inl old ↦ fits_later (IsSteady w) (IsSteady v) steady q o y.from y.to y.body (re.fits y old) | inr is ↦ new y is ];
      renewal = renewal;
    }

    split_as : (b : Body) → x.body ≡ b → (y : Message) → D y → (y ≡ says x.from x.to b) ⊎ E y
    split_as b e y due = elim (splits w v done x at more said y due) [ inl same ↦ inl (same ∙ λ i. record { from = x.from; to = x.to; body = e i }) | inr later ↦ inr later ]

    -- an install that is on its way still is, before any order
    will_later : (k : NodeId) (i : WillInstall w done o k) (b : BackupState) → numbered v.backups k.number ≡ Some b
        → b.installed ≡ None → b.fence ≤ o.epoch → i.place ≢ done
        → ((y : Message) → IsAmong y more → (from to : NodeId) (r : Recover) → y ≡ says from to (body.Recover r) → ⊥)
        → WillInstall v (suc done) o k
    will_later k i b is bare fence apart none = record {
      b = b;
      is = is;
      bare = bare;
      fence = fence;
      place = i.place;
      due = omega (arith, i.due, apart);
      from = i.from;
      sent = subst (λ (l : List Message). At l i.place (says i.from k (body.Install o.epoch))) (sym said) (at_append (messages w) more i.place _ i.sent);
      first = λ j other to r low h. elim (at_append_cases (messages w) more j _ (subst (λ (l : List Message). At l j (says other to (body.Recover r))) said h)) [
        | inl old ↦ i.first j other to r (omega (arith, low)) old
        | inr new ↦ absurd (none _ (record { place = new.0; stands = new.2 }) other to r refl)
      ];
    }

    -- the master and the manager rest
    module _ (masters : (n : ℕ) (m : MasterStage) → numbered w.masters n ≡ Some m → numbered v.masters n ≡ Some m) (parts : v.manager ≡ w.manager)
        (inst : (k : NodeId) → IsAmong k o.backups → IsInstalled w o k → IsInstalled v o k)
        (home : (k : NodeId) → IsAmong k o.backups → WillInstall w done o k → IsInstalled v o k ⊎ WillInstall v (suc done) o k)
        (orders : OnWay D (OrdersRecovery q o) → OnWay E (OrdersRecovery q o)) (phases : (p : RecoveryPhase) → PhaseGoes D q o p → ((k : NodeId) → IsAmong k o.backups → IsInstalled w o k) → PhaseGoes E q o p)
        (adopted : OnWay D (TellsRenewed q) → OnWay E (TellsRenewed q)) where
      rests : Renewal w done c q o → Renewal v (suc done) c q o
      rests (Ordered fresh way homes entry doing) = Ordered (masters q Fresh fresh) (orders way)
          (λ k a. elim (homes k a) [ inl i ↦ inl (inst k a i) | inr i ↦ home k a i ])
          (ap (λ (z : ManagerState). z.config.parts) parts ∙ entry) (ap (λ (z : ManagerState). z.doing) parts ∙ doing)
      rests (Attempts s is order goes installed entry doing) = Attempts s (masters q (Recovering s) is) order (phases s.phase goes installed) (λ k a. inst k a (installed k a))
          (ap (λ (z : ManagerState). z.config.parts) parts ∙ entry) (ap (λ (z : ManagerState). z.doing) parts ∙ doing)
      rests (Adopts s r is order waits way installed entry doing) = Adopts s r (masters q (Recovering s) is) order waits (adopted way) (λ k a. inst k a (installed k a))
          (ap (λ (z : ManagerState). z.config.parts) parts ∙ entry) (ap (λ (z : ManagerState). z.doing) parts ∙ doing)
      rests (Serves m is idle installed entry doing) = Serves m (masters q (Serving m) is) idle (λ k a. inst k a (installed k a))
          (ap (λ (z : ManagerState). z.config.parts) parts ∙ entry) (ap (λ (z : ManagerState). z.doing) parts ∙ doing)

  -- ---- a backup has moved

  module _ (number : ℕ) (b k : BackupState) (is : numbered w.backups number ≡ Some b)
      (set_to : v.backups ≡ set w.backups (number - 1) k) where
    now_at : numbered v.backups number ≡ Some k
    now_at = subst (λ (l : List BackupState). numbered l number ≡ Some k) (sym set_to) (numbered_set_same w.backups number b k is)

    other_at : (n : ℕ) (s : BackupState) → n ≢ number → numbered w.backups n ≡ Some s → numbered v.backups n ≡ Some s
    other_at n s apart h = subst (λ (l : List BackupState). numbered l n ≡ Some s) (sym set_to) (numbered_set_other w.backups number b k is n s apart h)

    -- what is installed stays so
    set_installed : (b.installed ≡ Some o.epoch → b.fence ≤ o.epoch → (k.installed ≡ Some o.epoch) × (k.fence ≤ o.epoch))
        → (node : NodeId) → IsInstalled w o node → IsInstalled v o node
    set_installed keeps node i = elim (eqb_tells node.number number) [
      | inl both ↦
          let own : b ≡ i.b = some_same b i.b (sym is ∙ ap (λ (n : ℕ). numbered w.backups n) (sym both.1) ∙ i.is) in
          let now = keeps (ap (λ (s : BackupState). s.installed) own ∙ i.installed) (omega (arith, i.fence, ap (λ (s : BackupState). s.fence) own)) in
          record { b = k; is = subst (λ (n : ℕ). numbered v.backups n ≡ Some k) (sym both.1) now_at; installed = now.0; fence = now.1 }
      | inr apart ↦ record { b = i.b; is = other_at node.number i.b apart.1 i.is; installed = i.installed; fence = i.fence }
    ]

  rests_installed : v.backups ≡ w.backups → (node : NodeId) → IsInstalled w o node → IsInstalled v o node
  rests_installed same node i = record { b = i.b; is = subst (λ (l : List BackupState). numbered l node.number ≡ Some i.b) (sym same) i.is; installed = i.installed; fence = i.fence }

  -- its place isn't that of what was delivered
  other_place : (b : Body) → x.body ≡ b → IsLater b → (k : NodeId) (i : WillInstall w done o k) → i.place ≢ done
  other_place b e later k i same =
      let own : x ≡ says i.from k (body.Install o.epoch) = at_same (messages w) done x _ at (subst (λ (n : ℕ). At (messages w) n (says i.from k (body.Install o.epoch))) same i.sent) in
      by b (sym e ∙ ap (λ (m : Message). m.body) own) later
    where
      by : (b : Body) → b ≡ body.Install o.epoch → IsLater b → ⊥
      by (body.Install epoch) e l = l
      by (body.Recover r) e l = l
      by _ e l = cc

  named_by : (k : NodeKind) → x.to.kind ≡ k → x.to ≡ record { kind = k; number = x.to.number }
  named_by k e = λ i. record { kind = e i; number = x.to.number }

  -- ---- a start

  start_kept : (s : Start) → x.body ≡ body.Start s → Renewing v (suc done) c q o cl
  start_kept s e =
      let its_kind : x.to.kind ≡ kind.Witness = fit_as (body.Start s) e in
      let y = g.witnesses x here its_kind in
      let moved = witness_did w v x x.to.number y.0 did (named_by kind.Witness its_kind) y.1 in
      let said : messages v ≡ messages w ++ [] = moved.said ∙ ap (λ (k : Moved WitnessState). messages w ++ k.messages) (ap (on_witness x.to.number y.0 x.from) e ∙ started_quiet x.to.number y.0 x.from s) in
      renews [] said moved.clients (λ z. ap (λ (m : ManagerState). m.doing) moved.manager ∙ z) (λ m a. absurd (among_none m a))
      (rests [] said (λ n m h. subst (λ (l : List MasterStage). numbered l n ≡ Some m) (sym moved.masters) h) moved.manager
      (λ k a i. rests_installed moved.backups k i)
      (λ k a i. inr (will_later [] said k i i.b (subst (λ (l : List BackupState). numbered l k.number ≡ Some i.b) (sym moved.backups) i.is) i.bare i.fence (other_place (body.Start s) e tt k i) (λ m b from to r same. among_none m b)))
      (ways.carry D E x.from x.to (body.Start s) (split_as [] said (body.Start s) e) (OrdersRecovery q o) (λ z. z))
      (λ p goes installed. phase_on D E q o g.filled x.from x.to (body.Start s) (split_as [] said (body.Start s) e) (record { fences = λ z. z; logs = λ z. z; freezes = λ z. z; requests = λ z. z; appends = λ k l z. z; stored = λ k l z. z; told = λ z. z }) p goes)
      (ways.carry D E x.from x.to (body.Start s) (split_as [] said (body.Start s) e) (TellsRenewed q) (λ z. z)) re.renewal)

  -- ---- an install

  install_kept : (epoch : ℕ) → x.body ≡ body.Install epoch → Renewing v (suc done) c q o cl
  install_kept epoch e =
      let fit : (x.to.kind ≡ kind.Backup) × (epoch ≡ o.epoch) = fit_as (body.Install epoch) e in
      let y = g.backups x here fit.0 in
      let quiet_it : on_backup x.to.number y.0 x.from x.body ≡ quiet (install y.0 epoch) = ap (on_backup x.to.number y.0 x.from) e ∙ installed_quiet x.to.number y.0 x.from epoch in
      let moved : BackupDid w v x.to.number (quiet (install y.0 epoch)) = subst (BackupDid w v x.to.number) quiet_it (backup_did w v x x.to.number y.0 did (named_by kind.Backup fit.0) y.1) in
      renews [] moved.said moved.clients (λ z. ap (λ (m : ManagerState). m.doing) moved.manager ∙ z) (λ m a. absurd (among_none m a))
      (rests [] moved.said (λ n m h. subst (λ (l : List MasterStage). numbered l n ≡ Some m) (sym moved.masters) h) moved.manager
      (λ k a i. set_installed x.to.number y.0 (install y.0 epoch) y.1 moved.backups (λ own low. let same = install_keeps y.0 o.epoch epoch own in (ap (λ (s : BackupState). s.installed) same ∙ own, omega (arith, low, ap (λ (s : BackupState). s.fence) same))) k i)
      (λ k a i. installs k i y.0 y.1 fit.1 moved)
      (ways.carry D E x.from x.to (body.Install epoch) (split_as [] moved.said (body.Install epoch) e) (OrdersRecovery q o) (λ z. z))
      (λ p goes installed. phase_on D E q o g.filled x.from x.to (body.Install epoch) (split_as [] moved.said (body.Install epoch) e) (record { fences = λ z. z; logs = λ z. z; freezes = λ z. z; requests = λ z. z; appends = λ k l z. z; stored = λ k l z. z; told = λ z. z }) p goes)
      (ways.carry D E x.from x.to (body.Install epoch) (split_as [] moved.said (body.Install epoch) e) (TellsRenewed q) (λ z. z)) re.renewal)
    where
      installs : (k : NodeId) (i : WillInstall w done o k) (s : BackupState) → numbered w.backups x.to.number ≡ Some s
          → epoch ≡ o.epoch → BackupDid w v x.to.number (quiet (install s epoch))
          → IsInstalled v o k ⊎ WillInstall v (suc done) o k
      installs k i s is its moved = elim (eqb_tells k.number x.to.number) [
        | inl both ↦
            let own : s ≡ i.b = some_same s i.b (sym is ∙ ap (λ (n : ℕ). numbered w.backups n) (sym both.1) ∙ i.is) in
            let bare : s.installed ≡ None = ap (λ (z : BackupState). z.installed) own ∙ i.bare in
            let low : s.fence ≤ epoch = omega (arith, i.fence, its, ap (λ (z : BackupState). z.fence) own) in
            let now = install_bare s epoch bare low in
            inl (record {
              b = install s epoch;
              is = subst (λ (n : ℕ). numbered v.backups n ≡ Some (install s epoch)) (sym both.1) (now_at x.to.number s (install s epoch) is moved.backups);
              installed = ap (λ (z : BackupState). z.installed) now ∙ ap Some its;
              fence = omega (arith, low, its, ap (λ (z : BackupState). z.fence) now);
            })
        | inr apart ↦ inr (will_later [] moved.said k i i.b (other_at x.to.number s (install s epoch) is moved.backups k.number i.b apart.1 i.is) i.bare i.fence
            (λ same. apart.1 (ap (λ (m : Message). m.to.number) (sym (at_same (messages w) done x _ at (subst (λ (n : ℕ). At (messages w) n (says i.from k (body.Install o.epoch))) same i.sent))))) (λ m b from to r same. among_none m b))
      ]

  -- ---- the fence, at the named backup

  fence_kept : (epoch : ℕ) → x.body ≡ body.Fence epoch → Renewing v (suc done) c q o cl
  fence_kept epoch e =
      let fit : (x.from ≡ master_node q) × (x.to ≡ o.backup) × (epoch ≡ o.epoch) = fit_as (body.Fence epoch) e in
      let b : Body = body.Fence o.epoch in
      let as_it : x.body ≡ b = e ∙ ap (λ (n : ℕ). body.Fence n) fit.2 in
      let number : ℕ = o.backup.number in
      let r : Moved BackupState = on_backup number g.b (master_node q) b in
      let moved : BackupDid w v number r = subst (BackupDid w v number) (ap (λ (f : NodeId). on_backup number g.b f x.body) fit.0 ∙ ap (on_backup number g.b (master_node q)) as_it) (backup_did w v x number g.b did (fit.1 ∙ g.backup) g.its_backup) in
      let split = split_as r.messages moved.said b as_it in
      let sent = new_due w v done x at r.messages moved.said in
      let far : (k : NodeId) → IsAmong k o.backups → (s : BackupState) → numbered w.backups k.number ≡ Some s → numbered v.backups k.number ≡ Some s =
      λ k a s h. other_at number g.b r.state g.its_backup moved.backups k.number s (g.apart k a) h in
      renews r.messages moved.said moved.clients (λ z. ap (λ (m : ManagerState). m.doing) moved.manager ∙ z) (answer_fits fit.0)
      (rests r.messages moved.said (λ n m h. subst (λ (l : List MasterStage). numbered l n ≡ Some m) (sym moved.masters) h) moved.manager
      (λ k a i. record { b = i.b; is = far k a i.b i.is; installed = i.installed; fence = i.fence })
      (λ k a i. inr (will_later r.messages moved.said k i i.b (far k a i.b i.is) i.bare i.fence (other_place b as_it tt k i) no_orders))
      (ways.carry D E x.from x.to b split (OrdersRecovery q o) (λ z. z))
      (λ p goes installed. fenced r.messages moved.said as_it (fence_told E q o number g.b g.backup g.unfenced g.its_log sent) p goes)
      (ways.carry D E x.from x.to b split (TellsRenewed q) (λ z. z)) re.renewal)
    where
      answer_fits : x.from ≡ master_node q → (y : Message)
          → IsAmong y (on_backup o.backup.number g.b (master_node q) (body.Fence o.epoch)).messages
          → RenewFits (IsSteady v) q o y.from y.to y.body
      answer_fits from y a = elim (among_cases y _ [] (fence_messages o.backup.number g.b (master_node q) o.epoch y a)) [
        | inl same ↦ subst (λ (z : Message). RenewFits (IsSteady v) q o z.from z.to z.body) same refl
        | inr none ↦ absurd (among_none y none)
      ]

      no_orders : (y : Message)
          → IsAmong y (on_backup o.backup.number g.b (master_node q) (body.Fence o.epoch)).messages
          → (from to : NodeId) (r : Recover) → y ≡ says from to (body.Recover r) → ⊥
      no_orders y a from to r same = elim (among_cases y _ [] (fence_messages o.backup.number g.b (master_node q) o.epoch y a)) [
        | inl own ↦ not_order (ap (λ (m : Message). m.body) (own ∙ same))
        | inr none ↦ among_none y none
      ]
        where
          not_order : {z : FenceAnswer} → body.FenceAnswer z ≡ body.Recover r → ⊥
          not_order e = cc

      fenced : (more : List Message) (said : messages v ≡ messages w ++ more) → x.body ≡ body.Fence o.epoch
          → OnWay E (GivesLog q o) → (p : RecoveryPhase) → PhaseGoes D q o p → PhaseGoes E q o p
      fenced more said as_it told (Asking None rs) goes = (inr told, requests_on D E q o g.filled x.from x.to (body.Fence o.epoch) (split_as more said (body.Fence o.epoch) as_it) (λ z. z) (λ z. z) rs goes.1, goes.2)
      fenced more said as_it told (Asking (Some l) rs) goes = (tt, requests_on D E q o g.filled x.from x.to (body.Fence o.epoch) (split_as more said (body.Fence o.epoch) as_it) (λ z. z) (λ z. z) rs goes.1, goes.2)
      fenced more said as_it told (Storing r) goes = (
        goes.0,
        Each-weaker (CompletesBackup D q o r) (CompletesBackup E q o r)
            (completes_on D E q o g.filled x.from x.to (body.Fence o.epoch) (split_as more said (body.Fence o.epoch) as_it) (λ k l z. z) (λ k l z. z) r) o.backups goes.1,
      )
      fenced more said as_it told (Waiting r) goes = ways.carry D E x.from x.to (body.Fence o.epoch) (split_as more said (body.Fence o.epoch) as_it) (TellsRecovered o) (λ z. z) goes

  -- ---- the freeze, at the named witness

  freeze_kept : (epoch : ℕ) → x.body ≡ body.Freeze epoch → Renewing v (suc done) c q o cl
  freeze_kept epoch e =
      let fit : (x.from ≡ master_node q) × (x.to ≡ o.witness) × (epoch ≡ o.epoch) = fit_as (body.Freeze epoch) e in
      let b : Body = body.Freeze o.epoch in
      let as_it : x.body ≡ b = e ∙ ap (λ (n : ℕ). body.Freeze n) fit.2 in
      let number : ℕ = o.witness.number in
      let r : Moved WitnessState = on_witness number g.x (master_node q) b in
      let moved : WitnessDid w v r = subst (WitnessDid w v) (ap (λ (f : NodeId). on_witness number g.x f x.body) fit.0 ∙ ap (on_witness number g.x (master_node q)) as_it) (witness_did w v x number g.x did (fit.1 ∙ g.witness) g.its_witness) in
      let split = split_as r.messages moved.said b as_it in
      let sent = new_due w v done x at r.messages moved.said in
      renews r.messages moved.said moved.clients (λ z. ap (λ (m : ManagerState). m.doing) moved.manager ∙ z) answer_fits
      (rests r.messages moved.said (λ n m h. subst (λ (l : List MasterStage). numbered l n ≡ Some m) (sym moved.masters) h) moved.manager
      (λ k a i. rests_installed moved.backups k i)
      (λ k a i. inr (will_later r.messages moved.said k i i.b (subst (λ (l : List BackupState). numbered l k.number ≡ Some i.b) (sym moved.backups) i.is) i.bare i.fence (other_place b as_it tt k i) no_orders))
      (ways.carry D E x.from x.to b split (OrdersRecovery q o) (λ z. z))
      (λ p goes installed. frozen r.messages moved.said as_it (freeze_told E q o number g.x g.witness sent) p goes)
      (ways.carry D E x.from x.to b split (TellsRenewed q) (λ z. z)) re.renewal)
    where
      answer_fits : (y : Message)
          → IsAmong y (on_witness o.witness.number g.x (master_node q) (body.Freeze o.epoch)).messages
          → RenewFits (IsSteady v) q o y.from y.to y.body
      answer_fits y a = elim (among_cases y _ [] (freeze_messages o.witness.number g.x (master_node q) o.epoch y a)) [
        | inl same ↦ subst (λ (z : Message). RenewFits (IsSteady v) q o z.from z.to z.body) same refl
        | inr none ↦ absurd (among_none y none)
      ]

      no_orders : (y : Message)
          → IsAmong y (on_witness o.witness.number g.x (master_node q) (body.Freeze o.epoch)).messages
          → (from to : NodeId) (r : Recover) → y ≡ says from to (body.Recover r) → ⊥
      no_orders y a from to r same = elim (among_cases y _ [] (freeze_messages o.witness.number g.x (master_node q) o.epoch y a)) [
        | inl own ↦ not_order (ap (λ (m : Message). m.body) (own ∙ same))
        | inr none ↦ among_none y none
      ]
        where
          not_order : {z : List Request} → body.FrozenAnswer z ≡ body.Recover r → ⊥
          not_order e = cc

      frozen : (more : List Message) (said : messages v ≡ messages w ++ more) → x.body ≡ body.Freeze o.epoch
          → OnWay E (GivesRequests q o) → (p : RecoveryPhase) → PhaseGoes D q o p → PhaseGoes E q o p
      frozen more said as_it told (Asking l None) goes = (log_on D E q o g.filled x.from x.to (body.Freeze o.epoch) (split_as more said (body.Freeze o.epoch) as_it) (λ z. z) (λ z. z) l goes.0, inr told, goes.2)
      frozen more said as_it told (Asking l (Some rs)) goes = (log_on D E q o g.filled x.from x.to (body.Freeze o.epoch) (split_as more said (body.Freeze o.epoch) as_it) (λ z. z) (λ z. z) l goes.0, tt, goes.2)
      frozen more said as_it told (Storing r) goes = (
        goes.0,
        Each-weaker (CompletesBackup D q o r) (CompletesBackup E q o r)
            (completes_on D E q o g.filled x.from x.to (body.Freeze o.epoch) (split_as more said (body.Freeze o.epoch) as_it) (λ k l z. z) (λ k l z. z) r) o.backups goes.1,
      )
      frozen more said as_it told (Waiting r) goes = ways.carry D E x.from x.to (body.Freeze o.epoch) (split_as more said (body.Freeze o.epoch) as_it) (TellsRecovered o) (λ z. z) goes

  -- ---- an append, at a fresh backup

  append_kept : (a : Append) → x.body ≡ body.Append a → Renewing v (suc done) c q o cl
  append_kept a e =
      let fit : (x.from ≡ master_node q) × IsAmong x.to o.backups × (a.epoch ≡ o.epoch) × (a.base ≡ 0) = fit_as (body.Append a) e in
      let name : x.to ≡ backup_node x.to.number = g.named x.to fit.1 in
      let y = g.backups x here (ap (λ (n : NodeId). n.kind) name) in
      let b : Body = body.Append a in
      let r : Moved BackupState = on_backup x.to.number y.0 (master_node q) b in
      let moved : BackupDid w v x.to.number r = subst (BackupDid w v x.to.number) (ap (λ (f : NodeId). on_backup x.to.number y.0 f x.body) fit.0 ∙ ap (on_backup x.to.number y.0 (master_node q)) e) (backup_did w v x x.to.number y.0 did name y.1) in
      let split = split_as r.messages moved.said b e in
      let keeps = append_state x.to.number y.0 (master_node q) a in
      renews r.messages moved.said moved.clients (λ z. ap (λ (m : ManagerState). m.doing) moved.manager ∙ z) (answer_fits y.0)
      (rests r.messages moved.said (λ n m h. subst (λ (l : List MasterStage). numbered l n ≡ Some m) (sym moved.masters) h) moved.manager
      (λ k among i. set_installed x.to.number y.0 r.state y.1 moved.backups (λ own low. (keeps.0 ∙ own, omega (arith, low, keeps.1))) k i)
      (λ k among i. inr (wills k i y.0 y.1 moved (λ none low. (keeps.0 ∙ none, omega (arith, low, keeps.1))) (no_orders y.0)))
      (ways.carry D E x.from x.to b split (OrdersRecovery q o) (λ z. z))
      (λ p goes installed. appended fit.0 fit.2 fit.3 r.messages moved.said e
      (λ long round low late. stores_it (installed x.to fit.1) fit.2 fit.3 y.0 y.1 name (new_due w v done x at r.messages moved.said) long round low late) p goes)
      (ways.carry D E x.from x.to b split (TellsRenewed q) (λ z. z)) re.renewal)
    where
      answer_fits : (s : BackupState) (y : Message)
          → IsAmong y (on_backup x.to.number s (master_node q) (body.Append a)).messages
          → RenewFits (IsSteady v) q o y.from y.to y.body
      answer_fits s y among = elim (among_cases y _ [] (append_messages x.to.number s (master_node q) a y among)) [
        | inl same ↦ subst (λ (z : Message). RenewFits (IsSteady v) q o z.from z.to z.body) same refl
        | inr none ↦ absurd (among_none y none)
      ]

      no_orders : (s : BackupState) (y : Message)
          → IsAmong y (on_backup x.to.number s (master_node q) (body.Append a)).messages
          → (from to : NodeId) (r : Recover) → y ≡ says from to (body.Recover r) → ⊥
      no_orders s y among from to r same = elim (among_cases y _ [] (append_messages x.to.number s (master_node q) a y among)) [
        | inl own ↦ not_order (ap (λ (m : Message). m.body) (own ∙ same))
        | inr none ↦ among_none y none
      ]
        where
          not_order : {z : Appended} → body.Appended z ≡ body.Recover r → ⊥
          not_order e = cc

      wills : (k : NodeId) (i : WillInstall w done o k) (s : BackupState) → numbered w.backups x.to.number ≡ Some s
          → BackupDid w v x.to.number (on_backup x.to.number s (master_node q) (body.Append a))
          → (s.installed ≡ None → s.fence ≤ o.epoch → ((on_backup x.to.number s (master_node q) (body.Append a)).state.installed ≡ None) × ((on_backup x.to.number s (master_node q) (body.Append a)).state.fence ≤ o.epoch))
          → ((y : Message) → IsAmong y (on_backup x.to.number s (master_node q) (body.Append a)).messages → (from to : NodeId) (r : Recover) → y ≡ says from to (body.Recover r) → ⊥) → WillInstall v (suc done) o k
      wills k i s is moved keeps none = elim (eqb_tells k.number x.to.number) [
        | inl both ↦
            let own : s ≡ i.b = some_same s i.b (sym is ∙ ap (λ (n : ℕ). numbered w.backups n) (sym both.1) ∙ i.is) in
            let now = keeps (ap (λ (z : BackupState). z.installed) own ∙ i.bare) (omega (arith, i.fence, ap (λ (z : BackupState). z.fence) own)) in
            will_later _ moved.said k i _ (subst (λ (n : ℕ). numbered v.backups n ≡ Some (on_backup x.to.number s (master_node q) (body.Append a)).state) (sym both.1) (now_at x.to.number s _ is moved.backups)) now.0 now.1 (other_place (body.Append a) e tt k i) none
        | inr apart ↦ will_later _ moved.said k i i.b (other_at x.to.number s _ is moved.backups k.number i.b apart.1 i.is) i.bare i.fence (other_place (body.Append a) e tt k i) none
      ]

      stores_it : IsInstalled w o x.to → a.epoch ≡ o.epoch → a.base ≡ 0 → (s : BackupState)
          → numbered w.backups x.to.number ≡ Some s → x.to ≡ backup_node x.to.number
          → ((y : Message) → IsAmong y (on_backup x.to.number s (master_node q) (body.Append a)).messages → E y) → (long round : ℕ) → long ≤ a.base + length a.entries → round ≤ a.round → OnWay E (Stores q x.to long round)
      stores_it i epoch base s is name sent long round low late =
          let own : s ≡ i.b = some_same s i.b (sym is ∙ i.is) in
          subst (λ (z : NodeId). OnWay E (Stores q z long round)) (sym name)
          (stored_told E q x.to.number s a (omega (arith, i.fence, epoch, ap (λ (z : BackupState). z.fence) own)) (ap (λ (z : BackupState). z.installed) own ∙ i.installed ∙ ap Some (sym epoch)) (omega (arith, base)) sent long round low late)

      appended : x.from ≡ master_node q → a.epoch ≡ o.epoch → a.base ≡ 0
          → (more : List Message) (said : messages v ≡ messages w ++ more) → x.body ≡ body.Append a
          → ((long round : ℕ) → long ≤ a.base + length a.entries → round ≤ a.round → OnWay E (Stores q x.to long round)) → (p : RecoveryPhase) → PhaseGoes D q o p → PhaseGoes E q o p
      appended from epoch base more said as_it told (Asking l rs) goes = (log_on D E q o g.filled x.from x.to (body.Append a) (split_as more said (body.Append a) as_it) (λ z. z) (λ z. z) l goes.0, requests_on D E q o g.filled x.from x.to (body.Append a) (split_as more said (body.Append a) as_it) (λ z. z) (λ z. z) rs goes.1, goes.2)
      appended from epoch base more said as_it told (Storing r) goes = (goes.0, Each-weaker (CompletesBackup D q o r) (CompletesBackup E q o r) one o.backups goes.1)
        where
          one : (k : NodeId) → CompletesBackup D q o r k → CompletesBackup E q o r k
          one k (inl done_it) = inl done_it
          one k (inr (inl way)) = elim (ways.meets D E x.from x.to (body.Append a) (split_as more said (body.Append a) as_it) (Appends o.epoch k (length r.log) 0) way) [
            | inl it ↦ inr (inr (subst (λ (z : NodeId). OnWay E (Stores q z (length r.log) 0)) it.0 (told (length r.log) 0 it.2 it.3)))
            | inr later ↦ inr (inl later)
          ]
          one k (inr (inr way)) = inr (inr (ways.carry D E x.from x.to (body.Append a) (split_as more said (body.Append a) as_it) (Stores q k (length r.log) 0) (λ z. z) way))
      appended from epoch base more said as_it told (Waiting r) goes = ways.carry D E x.from x.to (body.Append a) (split_as more said (body.Append a) as_it) (TellsRecovered o) (λ z. z) goes

  -- ---- to the master

  each_said : (xs : List Message) → Each (λ (y : Message). RenewFits (IsSteady v) q o y.from y.to y.body) xs
      → (y : Message) → IsAmong y xs → RenewFits (IsSteady v) q o y.from y.to y.body
  each_said xs all y a = Each-at (λ (z : Message). RenewFits (IsSteady v) q o z.from z.to z.body) xs all a.place y a.stands

  module _ (to : x.to ≡ master_node q) where
    -- its state after what came, by a known result
    moved_by : (st : MasterStage) → numbered w.masters q ≡ Some st → (b : Body) → x.body ≡ b → (r : Moved MasterStage)
        → on_master q st x.from b ≡ r → StageDid w v q r
    moved_by st is b e r by = subst (StageDid w v q) (ap (on_master q st x.from) e ∙ by) (stage_did w v x q st did to is)

    -- nothing changes but what is delivered
    still : (st : MasterStage) → numbered w.masters q ≡ Some st → (b : Body) → x.body ≡ b
        → on_master q st x.from b ≡ quiet st → StageDid w v q (quiet st)
    still st is b e by = moved_by st is b e (quiet st) by

    installed_after : v.backups ≡ w.backups → ((k : NodeId) → IsAmong k o.backups → IsInstalled w o k) → (k : NodeId)
        → IsAmong k o.backups → IsInstalled v o k
    installed_after same installed k a = rests_installed same k (installed k a)

    entry_after : (ps : List PartConfig) → v.manager ≡ w.manager → w.manager.config.parts ≡ ps
        → v.manager.config.parts ≡ ps
    entry_after ps same e = ap (λ (z : ManagerState). z.config.parts) same ∙ e

    doing_after : (ds : List manager.Doing) → v.manager ≡ w.manager → w.manager.doing ≡ ds → v.manager.doing ≡ ds
    doing_after ds same e = ap (λ (z : ManagerState). z.doing) same ∙ e

    -- the order comes
    order_comes : numbered w.masters q ≡ Some Fresh
        → ((k : NodeId) → IsAmong k o.backups → IsInstalled w o k ⊎ WillInstall w done o k)
        → w.manager.config.parts ≡ c ∷ [] → w.manager.doing ≡ manager.Recovering (master_node q) o ∷ []
        → x.body ≡ body.Recover o → Renewing v (suc done) c q o cl
    order_comes fresh homes entry doing e =
        let r : Moved RecoveryState = on_recover q o in
        let moved = moved_by Fresh fresh (body.Recover o) e (within Recovering r) (fresh_ordered q x.from o) in
        let all : (k : NodeId) → IsAmong k o.backups → IsInstalled w o k = λ k a. elim (homes k a) [
          | inl i ↦ i
          | inr i ↦ absurd (omega (arith, i.due, i.first done x.from x.to o (omega arith) (at ∙ ap Some (λ j. record { from = x.from; to = x.to; body = e j }))))
        ] in
        let goes = ordered E q o g.filled (new_due w v done x at r.messages moved.said) in
        renews r.messages moved.said moved.clients (λ z. doing_after (manager.Steady ∷ []) moved.manager z) (each_said r.messages (ordered_said (IsSteady v) q o g.part))
        (Attempts r.state moved.master goes.0 goes.1 (installed_after moved.backups all) (entry_after _ moved.manager entry) (doing_after _ moved.manager doing))

    -- something else comes before it
    before_order : (b : Body) → x.body ≡ b → IsLater b → on_master q Fresh x.from b ≡ quiet Fresh
        → (OrdersRecovery q o x.from x.to b → ⊥) → numbered w.masters q ≡ Some Fresh → OnWay D (OrdersRecovery q o)
        → ((k : NodeId) → IsAmong k o.backups → IsInstalled w o k ⊎ WillInstall w done o k) → w.manager.config.parts ≡ c ∷ [] → w.manager.doing ≡ manager.Recovering (master_node q) o ∷ [] → Renewing v (suc done) c q o cl
    before_order b e later by other fresh way homes entry doing =
        let moved = still Fresh fresh b e by in
        renews [] moved.said moved.clients (λ z. doing_after (manager.Steady ∷ []) moved.manager z) (λ m a. absurd (among_none m a))
        (Ordered moved.master (ways.carry D E x.from x.to b (split_as [] moved.said b e) (OrdersRecovery q o) other way)
        (λ k a. elim (homes k a) [
          | inl i ↦ inl (rests_installed moved.backups k i)
          | inr i ↦ inr (will_later [] moved.said k i i.b (subst (λ (l : List BackupState). numbered l k.number ≡ Some i.b) (sym moved.backups) i.is) i.bare i.fence (other_place b e later k i) (λ m z from to r same. among_none m z))
        ])
        (entry_after _ moved.manager entry) (doing_after _ moved.manager doing))

    -- a recovering master goes on
    attempt_goes : (s : RecoveryState) → numbered w.masters q ≡ Some (Recovering s)
        → ((k : NodeId) → IsAmong k o.backups → IsInstalled w o k) → w.manager.config.parts ≡ c ∷ []
        → w.manager.doing ≡ manager.Recovering (master_node q) o ∷ []
        → (b : Body) → x.body ≡ b → (r : Moved RecoveryState) → on_master q (Recovering s) x.from b ≡ within Recovering r → Each (λ (y : Message). RenewFits (IsSteady v) q o y.from y.to y.body) r.messages
        → (((y : Message) → IsAmong y r.messages → E y) → ((y : Message) → D y → (y ≡ says x.from x.to b) ⊎ E y) → (r.state.order ≡ o) × PhaseGoes E q o r.state.phase) → Renewing v (suc done) c q o cl
    attempt_goes s is installed entry doing b e r by says_fit goes =
        let moved = moved_by (Recovering s) is b e (within Recovering r) by in
        let on = goes (new_due w v done x at r.messages moved.said) (split_as r.messages moved.said b e) in
        renews r.messages moved.said moved.clients (λ z. doing_after (manager.Steady ∷ []) moved.manager z) (each_said r.messages says_fit)
        (Attempts r.state moved.master on.0 on.1 (installed_after moved.backups installed) (entry_after _ moved.manager entry) (doing_after _ moved.manager doing))

    -- one that waits to hear of its adoption rests
    adopting_rests : (s : RecoveryState) (k : Replayed) → numbered w.masters q ≡ Some (Recovering s) → s.order ≡ o
        → s.phase ≡ Waiting k → OnWay D (TellsRenewed q) → ((k : NodeId) → IsAmong k o.backups → IsInstalled w o k)
        → w.manager.config.parts ≡ renewed c q o ∷ [] → w.manager.doing ≡ manager.Steady ∷ [] → (b : Body) → x.body ≡ b → IsWaited b → (TellsRenewed q x.from x.to b → ⊥) → Renewing v (suc done) c q o cl
    adopting_rests s k is order waits way installed entry doing b e waited other =
        let moved = still (Recovering s) is b e (on_waiting q s k x.from b waits waited) in
        renews [] moved.said moved.clients (λ z. doing_after (manager.Steady ∷ []) moved.manager z) (λ m a. absurd (among_none m a))
        (Adopts s k moved.master order waits (ways.carry D E x.from x.to b (split_as [] moved.said b e) (TellsRenewed q) other way) (installed_after moved.backups installed) (entry_after _ moved.manager entry) (doing_after _ moved.manager doing))

    -- it hears of it, and serves
    adopting_serves : (s : RecoveryState) (k : Replayed) → numbered w.masters q ≡ Some (Recovering s) → s.order ≡ o
        → s.phase ≡ Waiting k → ((k : NodeId) → IsAmong k o.backups → IsInstalled w o k)
        → w.manager.config.parts ≡ renewed c q o ∷ [] → w.manager.doing ≡ manager.Steady ∷ [] → (a : Adopted) → x.body ≡ body.Adopted a → Renewing v (suc done) c q o cl
    adopting_serves s k is order waits installed entry doing a e =
        let m : MasterState = beginning s.order.part s.order.epoch s.order.version s.order.backups s.order.witnesses s.order.lo s.order.hi k.log k.round in
        let moved = moved_by (Recovering s) is (body.Adopted a) e (quiet (Serving m)) (adopted_serves q s k x.from a waits) in
        renews [] moved.said moved.clients (λ z. doing_after (manager.Steady ∷ []) moved.manager z) (λ y among. absurd (among_none y among))
        (Serves m moved.master (record { held = refl; captures = refl; serves = refl; epoch = ap (λ (z : Recover). z.epoch) order; version = ap (λ (z : Recover). z.version) order; backups = ap (λ (z : Recover). z.backups) order; witnesses = ap (λ (z : Recover). z.witnesses) order })
        (installed_after moved.backups installed) (entry_after _ moved.manager entry) (doing_after _ moved.manager doing))

    -- it serves already
    serving_rests : (m : MasterState) → numbered w.masters q ≡ Some (Serving m) → ServesIdle m o
        → ((k : NodeId) → IsAmong k o.backups → IsInstalled w o k) → w.manager.config.parts ≡ renewed c q o ∷ []
        → w.manager.doing ≡ manager.Steady ∷ []
        → (b : Body) → x.body ≡ b → IsMasters b → Renewing v (suc done) c q o cl
    serving_rests m is idle installed entry doing b e its =
        let r : Moved MasterState = on_serving q m x.from b in
        let stays = serving_idle q o m idle (g.ops m is) x.from b its in
        let moved = moved_by (Serving m) is b e (within Serving r) (on_serving_stage q m x.from b) in
        let said : messages v ≡ messages w ++ [] = moved.said ∙ ap (λ (l : List Message). messages w ++ l) stays.silent in
        renews [] said moved.clients (λ z. doing_after (manager.Steady ∷ []) moved.manager z) (λ y among. absurd (among_none y among))
        (Serves r.state moved.master stays.idle (installed_after moved.backups installed) (entry_after _ moved.manager entry) (doing_after _ moved.manager doing))

    steady_no : {A : Type 0} → w.manager.doing ≡ manager.Recovering (master_node q) o ∷ []
        → w.manager.doing ≡ manager.Steady ∷ [] → A
    steady_no a b = absurd (apart (sym a ∙ b))
      where
        apart : manager.Recovering (master_node q) o ∷ [] ≡ manager.Steady ∷ [] → ⊥
        apart e = cc

    -- whatever comes to the master
    master_kept : (b : Body) → x.body ≡ b → IsMasters b → Renewing v (suc done) c q o cl
    master_kept b e its = by re.renewal
      where
        order_is : (r : Recover) → b ≡ body.Recover r → r ≡ o
        order_is r f = let fit : (x.to ≡ master_node q) × (r ≡ o) = fit_as (body.Recover r) (e ∙ f) in fit.1

        ordered_by : numbered w.masters q ≡ Some Fresh → OnWay D (OrdersRecovery q o)
            → ((k : NodeId) → IsAmong k o.backups → IsInstalled w o k ⊎ WillInstall w done o k)
            → w.manager.config.parts ≡ c ∷ [] → w.manager.doing ≡ manager.Recovering (master_node q) o ∷ []
            → (z : Body) → b ≡ z → IsMasters z → Renewing v (suc done) c q o cl
        ordered_by fresh way homes entry doing (body.Recover r) f h = order_comes fresh homes entry doing (e ∙ f ∙ ap (λ (k : Recover). body.Recover k) (order_is r f))
        ordered_by fresh way homes entry doing (body.FenceAnswer a) f h = before_order (body.FenceAnswer a) (e ∙ f) tt (on_fresh_other q x.from (body.FenceAnswer a) tt tt) (λ k. k) fresh way homes entry doing
        ordered_by fresh way homes entry doing (body.FrozenAnswer a) f h = before_order (body.FrozenAnswer a) (e ∙ f) tt (on_fresh_other q x.from (body.FrozenAnswer a) tt tt) (λ k. k) fresh way homes entry doing
        ordered_by fresh way homes entry doing (body.Appended a) f h = before_order (body.Appended a) (e ∙ f) tt (on_fresh_other q x.from (body.Appended a) tt tt) (λ k. k) fresh way homes entry doing
        ordered_by fresh way homes entry doing (body.Adopted a) f h = before_order (body.Adopted a) (e ∙ f) tt (fresh_adopted q x.from a) (λ k. k) fresh way homes entry doing
        ordered_by fresh way homes entry doing _ f h = absurd h

        attempts_by : (s : RecoveryState) → numbered w.masters q ≡ Some (Recovering s) → s.order ≡ o
            → PhaseGoes D q o s.phase → ((k : NodeId) → IsAmong k o.backups → IsInstalled w o k)
            → w.manager.config.parts ≡ c ∷ [] → w.manager.doing ≡ manager.Recovering (master_node q) o ∷ []
            → (z : Body) → b ≡ z → IsMasters z → Renewing v (suc done) c q o cl
        attempts_by s is order goes installed entry doing (body.Recover r) f h = attempt_goes s is installed entry doing (body.Recover r) (e ∙ f) (quiet s) (recovering_order q s x.from r) tt
            (λ sent split. (order, phase_on D E q o g.filled x.from x.to (body.Recover r) split (record { fences = λ k. k; logs = λ k. k; freezes = λ k. k; requests = λ k. k; appends = λ k l p. p; stored = λ k l p. p; told = λ k. k }) s.phase goes))
        attempts_by s is order goes installed entry doing (body.FenceAnswer a) f h = attempt_goes s is installed entry doing (body.FenceAnswer a) (e ∙ f) (fence_answered q s x.from a.answer) (recovering_fence q s x.from a) (fence_said (IsSteady v) q o g.part s order x.from a.answer)
            (λ sent split. log_goes D E q o g.filled x.from x.to a split s order goes sent)
        attempts_by s is order goes installed entry doing (body.FrozenAnswer rs) f h = attempt_goes s is installed entry doing (body.FrozenAnswer rs) (e ∙ f) (requests_come q s x.from rs s.phase) (recovering_freeze q s x.from rs) (freeze_said (IsSteady v) q o g.part s order x.from rs)
            (λ sent split. requests_go D E q o g.filled x.from x.to rs split s order goes sent)
        attempts_by s is order goes installed entry doing (body.Appended a) f h = attempt_goes s is installed entry doing (body.Appended a) (e ∙ f) (append_answered q s x.from a.answer) (recovering_stored q s x.from a) (stored_said (IsSteady v) q o g.part s order x.from a.answer)
            (λ sent split. stored_goes D E q o g.filled x.from x.to a split s order goes sent)
        attempts_by s is order goes installed entry doing (body.Adopted a) f h = let fit : (x.to ≡ master_node q) × IsSteady w = fit_as (body.Adopted a) (e ∙ f) in steady_no doing fit.1
        attempts_by s is order goes installed entry doing _ f h = absurd h

        adopts_by : (s : RecoveryState) (k : Replayed) → numbered w.masters q ≡ Some (Recovering s) → s.order ≡ o
            → s.phase ≡ Waiting k → OnWay D (TellsRenewed q)
            → ((k : NodeId) → IsAmong k o.backups → IsInstalled w o k)
            → w.manager.config.parts ≡ renewed c q o ∷ [] → w.manager.doing ≡ manager.Steady ∷ [] → (z : Body) → b ≡ z → IsMasters z → Renewing v (suc done) c q o cl
        adopts_by s k is order waits way installed entry doing (body.Adopted a) f h = adopting_serves s k is order waits installed entry doing a (e ∙ f)
        adopts_by s k is order waits way installed entry doing (body.Recover r) f h = adopting_rests s k is order waits way installed entry doing (body.Recover r) (e ∙ f) tt (λ z. z)
        adopts_by s k is order waits way installed entry doing (body.FenceAnswer a) f h = adopting_rests s k is order waits way installed entry doing (body.FenceAnswer a) (e ∙ f) tt (λ z. z)
        adopts_by s k is order waits way installed entry doing (body.FrozenAnswer a) f h = adopting_rests s k is order waits way installed entry doing (body.FrozenAnswer a) (e ∙ f) tt (λ z. z)
        adopts_by s k is order waits way installed entry doing (body.Appended a) f h = adopting_rests s k is order waits way installed entry doing (body.Appended a) (e ∙ f) tt (λ z. z)
        adopts_by s k is order waits way installed entry doing _ f h = absurd h

        by : Renewal w done c q o → Renewing v (suc done) c q o cl
        by (Ordered fresh way homes entry doing) = ordered_by fresh way homes entry doing b refl its
        by (Attempts s is order goes installed entry doing) = attempts_by s is order goes installed entry doing b refl its
        by (Adopts s k is order waits way installed entry doing) = adopts_by s k is order waits way installed entry doing b refl its
        by (Serves m is idle installed entry doing) = serving_rests m is idle installed entry doing b e its

  -- ---- to the manager

  manager_kept : (r : Recovered) → x.body ≡ body.Recovered r → Renewing v (suc done) c q o cl
  manager_kept r e = by re.renewal
    where
      fit : (x.to ≡ manager_node) × (r.part ≡ 1) × (r.epoch ≡ o.epoch)
      fit = fit_as (body.Recovered r) e

      as_it : x.body ≡ body.Recovered (record { part = 1; epoch = o.epoch })
      as_it = e ∙ λ i. body.Recovered (record { part = fit.1 i; epoch = fit.2 i })

      told : TellsRecovered o x.from x.to x.body
      told = subst (TellsRecovered o x.from x.to) (sym e) (fit.0, fit.1 ∙ sym g.part, fit.2)

      moved_to : (k : Moved ManagerState)
          → on_manager w.manager x.from (body.Recovered (record { part = 1; epoch = o.epoch })) ≡ k → ManagerDid w v k
      moved_to k is = subst (ManagerDid w v) (ap (on_manager w.manager x.from) as_it ∙ is) (manager_did w v x did fit.0)

      inst : {k : Moved ManagerState} → ManagerDid w v k → (node : NodeId) → IsInstalled w o node → IsInstalled v o node
      inst moved node i = record { b = i.b; is = moved.backups node.number i.b i.is; installed = i.installed; fence = i.fence }

      adopts_now : (s : RecoveryState) (k : Replayed) → numbered w.masters q ≡ Some (Recovering s) → s.order ≡ o
          → s.phase ≡ Waiting k → ((k : NodeId) → IsAmong k o.backups → IsInstalled w o k)
          → w.manager.config.parts ≡ c ∷ []
          → w.manager.doing ≡ manager.Recovering (master_node q) o ∷ [] → Renewing v (suc done) c q o cl
      adopts_now s k is order waits installed entry doing =
          let after : Moved ManagerState = adopts w.manager 1 (renewed c q o) in
          let moved = moved_to after (adopts_it w.manager c q o entry doing g.serial x.from) in
          let steady : IsSteady v = ap (λ (z : ManagerState). z.doing) moved.manager ∙ ap (λ (l : List manager.Doing). set l 0 manager.Steady) doing in
          let parts : v.manager.config.parts ≡ renewed c q o ∷ [] = ap (λ (z : ManagerState). z.config.parts) moved.manager ∙ ap (λ (l : List PartConfig). set l 0 (renewed c q o)) entry in
          renews after.messages moved.said moved.clients (λ z. steady) (each_said after.messages ((refl, steady), tt))
          (Adopts s k (moved.masters q (Recovering s) is) order waits (_, new_due w v done x at after.messages moved.said _ (among_first _ []), refl) (λ node a. inst moved node (installed node a)) parts steady)

      steady_again : w.manager.config.parts ≡ renewed c q o ∷ [] → w.manager.doing ≡ manager.Steady ∷ []
          → ((more : List Message) → messages v ≡ messages w ++ more → (v.manager ≡ w.manager) → Renewal v (suc done) c q o)
          → Renewing v (suc done) c q o cl
      steady_again entry doing renewal =
          let moved = moved_to _ refl in
          let again = recovered_again (IsSteady v) (ap (λ (z : ManagerState). z.doing) (moved.manager ∙ (recovered_again ⊤ tt w.manager c q o entry doing x.from).same) ∙ doing) w.manager c q o entry doing x.from in
          renews _ moved.said moved.clients (λ z. ap (λ (y : ManagerState). y.doing) (moved.manager ∙ again.same) ∙ z) (each_said _ again.said) (renewal _ moved.said (moved.manager ∙ again.same))

      by : Renewal w done c q o → Renewing v (suc done) c q o cl
      by (Ordered fresh way homes entry doing) = absurd ((g.told x here told).0 fresh)
      by (Attempts s is order goes installed entry doing) = let k = (g.told x here told).1 s is in adopts_now s k.0 is order k.1 installed entry doing
      by (Adopts s k is order waits way installed entry doing) = steady_again entry doing (λ more said same.
          let moved = moved_to _ refl in
          Adopts s k (moved.masters q (Recovering s) is) order waits (ways.carry D E x.from x.to (body.Recovered r) (split_as more said (body.Recovered r) e) (TellsRenewed q) (λ z. z) way) (λ node a. inst moved node (installed node a))
          (ap (λ (z : ManagerState). z.config.parts) same ∙ entry) (ap (λ (z : ManagerState). z.doing) same ∙ doing))
      by (Serves m is idle installed entry doing) = steady_again entry doing (λ more said same.
          let moved = moved_to _ refl in
          Serves m (moved.masters q (Serving m) is) idle (λ node a. inst moved node (installed node a)) (ap (λ (z : ManagerState). z.config.parts) same ∙ entry) (ap (λ (z : ManagerState). z.doing) same ∙ doing))

  -- ---- whatever is delivered

  pub renewed_on : Renewing v (suc done) c q o cl
  renewed_on = by x.body refl (re.fits x here)
    where
      by : (b : Body) → x.body ≡ b → RenewFits (IsSteady w) q o x.from x.to x.body → Renewing v (suc done) c q o cl
      by (body.Install epoch) e fit = install_kept epoch e
      by (body.Start s) e fit = start_kept s e
      by (body.Fence epoch) e fit = fence_kept epoch e
      by (body.Freeze epoch) e fit = freeze_kept epoch e
      by (body.Append a) e fit = append_kept a e
      by (body.Recovered r) e fit = manager_kept r e
      by (body.Recover r) e fit = master_kept (fit_as (body.Recover r) e).0 (body.Recover r) e tt
      by (body.FenceAnswer a) e fit = master_kept (fit_as (body.FenceAnswer a) e) (body.FenceAnswer a) e tt
      by (body.FrozenAnswer a) e fit = master_kept (fit_as (body.FrozenAnswer a) e) (body.FrozenAnswer a) e tt
      by (body.Appended a) e fit = master_kept (fit_as (body.Appended a) e) (body.Appended a) e tt
      by (body.Adopted a) e fit = master_kept (fit_as (body.Adopted a) e).0 (body.Adopted a) e tt
      by _ e fit = absurd (subst (RenewFits (IsSteady w) q o x.from x.to) e fit)

-- ---- at the end of the quieting

pub renewed_at_end : (w : World) (c : PartConfig) (q : ℕ) (o : Recover) (cl : ClientState)
    → Renewing w (length (messages w)) c q o cl → IsRenewed w c q o
renewed_at_end w c q o cl re = by re.renewal
  where
    none : (x : Message) → IsUndelivered w (length (messages w)) x → ⊥
    none x due = absurd (omega (arith, due.1, at_within (messages w) due.0 x due.2))

    by : Renewal w (length (messages w)) c q o → IsRenewed w c q o
    by (Ordered fresh way homes entry doing) = absurd (none way.0 way.1)
    by (Attempts s is order goes installed entry doing) = absurd (none_recovers (IsUndelivered w (length (messages w))) none q o s.phase goes)
    by (Adopts s k is order waits way installed entry doing) = absurd (none way.0 way.1)
    by (Serves m is idle installed entry doing) = record { m = m; serves = is; idle = idle; installed = installed; adopted = entry; steady = doing }
