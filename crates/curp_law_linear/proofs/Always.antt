-- What is kept of the order stays in every step.
use Rattle.std.proofs.Common.{◌≡◌, ◌≢◌, ℕ, ◌++◌, if◌then◌else◌, List, [], refl, ap, sym, ◌∙◌, subst, Option, Some, None, append-nil, true, false, Bool, subst₂, ap₂}
use Rattle.curp_base.specs.Words.{numbered}
use Rattle.curp_cmd.specs.Node.{backup_node, client_node, master_node, witness_node}
use Rattle.curp_cmd.specs.declared.node.NodeId.{NodeId}
use Rattle.curp_cmd.specs.declared.node.NodeKind.TheVariants as kind
use Rattle.curp_msg.specs.Moved.{within}
use Rattle.curp_msg.specs.declared.config.PartConfig.{PartConfig}
use Rattle.curp_msg.specs.declared.machine.Completed.{Completed}
use Rattle.curp_msg.specs.Input.{Input}
use Rattle.curp_order.specs.declared.Event.{Event}
use Rattle.curp_model.specs.Backup.{BackupState, backup_input}
use Rattle.curp_model.specs.Client.{ClientState, client_input}
use Rattle.curp_model.specs.Log.{log_opening}
use Rattle.curp_model.specs.Manager.{ManagerState}
use Rattle.curp_model.specs.Marks.{Mark, with_quick}
use Rattle.curp_model.specs.Ranges.{opening_range}
use Rattle.curp_model.specs.Recovery.{MasterStage, master_input, Serving}
use Rattle.curp_model.specs.Witness.{WitnessState, witness_input}
use Rattle.curp_model.specs.World.{World, invocation_of, is_adopted, kept, master_marks, messages, with_backup, with_client, with_completion, with_glance, with_witness, quick_mark}
use Rattle.curp_facts.specs.Growth.{Grows}
use Rattle.curp_facts.specs.Kept.{AdoptedLog}
use Rattle.curp_law_kept.specs.Deeds.{IsFor}
use Rattle.curp_base.proofs.Numbered.{numbered_set_same}
use Rattle.curp_law_kept.proofs.Gives.{backup_effect, witness_effect, RestsIn, ClientMoved, master_step, master_world, KeeperMoved, heard_in, input_idle, speaker, MasterStep, SaysMore, nothing_ready, other_item, same_history, Later, step_follows}
use Rattle.curp_facts.specs.Known.{Known}
use Rattle.curp_law_linear.specs.Line.{LineOk}
use Rattle.curp_law_linear.specs.OfWorld.{cuts, line_of}
use Rattle.curp_law_linear.proofs.Discharged.{pure, second}
use Rattle.curp_law_linear.proofs.Keeps.{all_keep}
use Rattle.curp_law_linear.specs.Ordered.{AdoptedLogOk, Ordered}
use Rattle.curp_law_linear.specs.Refined.{Refines, RefinesQuiet}
use Rattle.curp_law_linear.proofs.ClientsRefine.{client_refines}
use Rattle.curp_law_linear.proofs.Commands.{CommandsName}
use Rattle.curp_law_linear.proofs.KeepersRefine.{backup_refines, rest_refines, witness_refines}
use Rattle.curp_law_linear.proofs.Masters.{master_refines}
use Rattle.curp_law_linear.proofs.MastersCuts.{master_cuts, master_lives}
use Rattle.curp_law_linear.proofs.MastersLogs.{master_logs}
use Rattle.curp_law_linear.proofs.ReadsKeepers.{backup_reads, witness_reads}
use Rattle.curp_law_linear.proofs.ReadsLater.{ReadsOk}
use Rattle.curp_law_linear.proofs.ReadsMasterSteps.{master_reads}
use Rattle.curp_law_linear.proofs.ReadsQuiet.{client_reads, frame_reads, looks_same, none_late, none_lives}
use Rattle.curp_law_kept.specs.GivesFit.{GivesFit}
use Rattle.curp_facts.specs.Predecessors.{Predecessors}
use Rattle.curp_facts.specs.Migrated.{Migrated}
use Rattle.curp_law_linear.proofs.MastersInput.{StageInput, Slow, Quickly, stage_input, nothing_pushed}
use Rattle.curp_law_linear.proofs.QuickReads.{quick_refines, quick_reads}
use Rattle.curp_law_linear.proofs.CutsTimes.{timed_stay}
use Rattle.curp_law_linear.proofs.CutMarks.{cuts_marked}
use Rattle.curp_msg.specs.declared.message.Message.{Message}
use Rattle.curp_model.specs.Master.{MasterState}
use Rattle.curp_facts.specs.Routes.{Routes}
use Rattle.curp_model.proofs.Batches.{all_of-kept}

-- what a step owes, but for the commands
pub record KeepsOrder (w v : World) : Type 0 where
  pub refines : Refines w v
  pub logs : (c : PartConfig) (l : AdoptedLog v c) → AdoptedLogOk v c l
  pub reads : ReadsOk v

-- it keeps what is kept of the order
pub ordered_after : {w v : World} → Ordered w → CommandsName v.history → KeepsOrder w v → Ordered v
ordered_after {w} {v} ordered commands k = record {
  line = subst LineOk k.refines.leads (all_keep pure second k.refines.moves (line_of w) k.refines.fit ordered.line);
  cuts_follow = k.reads.cuts_follow;
  cuts_timed = k.reads.cuts_timed;
  commands = commands;
  logs = k.logs;
  numbered_looks = k.reads.numbered_looks;
  worths = k.reads.worths;
  quicks = k.reads.quicks;
  captures = k.reads.captures;
  reached = k.reads.reached;
  stored = k.reads.stored;
}

-- nothing has been done
pub stay_keeps_order : {w : World} → Ordered w → KeepsOrder w w
stay_keeps_order ordered = record {
  refines = record { moves = []; fit = tt; leads = refl };
  logs = ordered.logs;
  reads = record { cuts_follow = ordered.cuts_follow; cuts_timed = ordered.cuts_timed; numbered_looks = ordered.numbered_looks; worths = ordered.worths; quicks = ordered.quicks; captures = ordered.captures; reached = ordered.reached; stored = ordered.stored };
}

-- ---- where no master moves

module _ (w v : World) (manager : v.manager ≡ w.manager) (masters : v.masters ≡ w.masters) where
  -- the adopted logs are the same
  log_before : (c : PartConfig) → AdoptedLog v c → AdoptedLog w c
  log_before c l = record {
    now = subst (λ (g : ManagerState). numbered g.config.parts c.part ≡ Some c) manager l.now;
    its = l.its;
    its_log = record {
      m = l.its_log.m;
      is = record { its_kind = l.its_log.is.its_kind; its_state = subst (λ (ms : List MasterStage). numbered ms c.master.number ≡ Some l.its_log.m) masters l.its_log.is.its_state };
      its_log = l.its_log.its_log;
    };
  }

  same_logs : ((c : PartConfig) (l : AdoptedLog w c) → AdoptedLogOk w c l) → (c : PartConfig) (l : AdoptedLog v c) → AdoptedLogOk v c l
  unfolding log_before
  same_logs ok c l =
      let o = ok c (log_before c l) in
      record {
        rise = o.rise;
        fit = subst (λ (g : ManagerState). GivesFit (log_opening (opening_range g.shape.parts c.part).lo (opening_range g.shape.parts c.part).hi) 0 l.its.log) (sym manager) o.fit;
      }

-- marks that no completion flags
idle_marks : (marks : List Mark) (completed : Option Completed) → completed ≡ None → with_completion completed marks ≡ marks
idle_marks marks completed idle = ap (λ (c : Option Completed). with_completion c marks) idle

module _ {w : World} (known : Known w) (chain : Predecessors w) (migrated : Migrated w) (ordered : Ordered w) where
  module _ (n : ℕ) (given : Input) where
    -- an input to a client
    pub client_keeps_order : (c : ClientState) → numbered w.clients n ≡ Some c → IsFor w (client_node n) given → (client_input n c given).refused ≡ 0 → {v : World}
        → v ≡ (kept w (invocation_of (client_node n) (Some c) given) (within (with_client w n) (client_input n c given))).world
        → Grows w v → Later w v → Known v → Predecessors v → KeepsOrder w v
    client_keeps_order c was for made {v} is grows later now chain_now =
        let r : RefinesQuiet w v = client_refines known chain migrated ordered n c was given for made is in
        let moved : ClientMoved w v n given c = record {
          grows = grows;
          later = later;
          for = for;
          was = was;
          made = made;
          sent = ap messages is ∙ all_of-kept w.sent (client_input n c given).messages;
          history = ap (λ (u : World). u.history) is;
          now = ap (λ (u : World). numbered u.clients n) is ∙ numbered_set_same w.clients n c (client_input n c given).state was;
          others = λ m d other here. other_item w.clients n c (client_input n c given).state was m d other (ap (λ (u : World). numbered u.clients m) (sym is) ∙ here);
          manager = ap (λ (u : World). u.manager) is;
          masters = ap (λ (u : World). u.masters) is;
          backups = ap (λ (u : World). u.backups) is;
          witnesses = ap (λ (u : World). u.witnesses) is;
        } in
        record {
          refines = r.its;
          logs = same_logs w v moved.manager moved.masters ordered.logs;
          reads = client_reads known now chain chain_now ordered n given c moved (ap (λ (u : World). u.marks) is) r.its r.quiet;
        }

    -- to a backup
    pub backup_keeps_order : (b : BackupState) → numbered w.backups n ≡ Some b → (events : List Event) → events ≡ [] → {v : World} → v ≡ (kept w events (within (with_backup w n) (backup_input n b given))).world
        → Grows w v → Later w v → Known v → Predecessors v → KeepsOrder w v
    backup_keeps_order b was events none {v} is grows later now chain_now =
        let r : RefinesQuiet w v = backup_refines n given b events none is in
        let moved : KeeperMoved w v (backup_node n) (backup_input n b given).messages = record {
          grows = grows;
          later = later;
          sent = ap messages is ∙ all_of-kept w.sent (backup_input n b given).messages;
          manager = ap (λ (u : World). u.manager) is;
          masters = ap (λ (u : World). u.masters) is;
          clients = ap (λ (u : World). u.clients) is;
          history = ap (λ (u : World). u.history) is ∙ same_history w.history events (backup_input n b given).completed none (backup_effect n b given).idle;
        } in
        record {
          refines = r.its;
          logs = same_logs w v moved.manager moved.masters ordered.logs;
          reads = backup_reads known now chain chain_now ordered (ap (λ (u : World). u.marks) is ∙ idle_marks w.marks (backup_input n b given).completed (backup_effect n b given).idle) r.its r.quiet
              n b given was (ap (λ (u : World). numbered u.backups n) is ∙ numbered_set_same w.backups n b (backup_input n b given).state was) moved;
        }

    -- to a witness
    pub witness_keeps_order : (x : WitnessState) → numbered w.witnesses n ≡ Some x → (events : List Event) → events ≡ [] → {v : World} → v ≡ (kept w events (within (with_witness w n) (witness_input n x given))).world
        → Grows w v → Later w v → Known v → Predecessors v → KeepsOrder w v
    witness_keeps_order x was events none {v} is grows later now chain_now =
        let r : RefinesQuiet w v = witness_refines n given x events none is in
        let moved : KeeperMoved w v (witness_node n) (witness_input n x given).messages = record {
          grows = grows;
          later = later;
          sent = ap messages is ∙ all_of-kept w.sent (witness_input n x given).messages;
          manager = ap (λ (u : World). u.manager) is;
          masters = ap (λ (u : World). u.masters) is;
          clients = ap (λ (u : World). u.clients) is;
          history = ap (λ (u : World). u.history) is ∙ same_history w.history events (witness_input n x given).completed none (witness_effect n x given).idle;
        } in
        record {
          refines = r.its;
          logs = same_logs w v moved.manager moved.masters ordered.logs;
          reads = witness_reads known now chain chain_now ordered (ap (λ (u : World). u.marks) is ∙ idle_marks w.marks (witness_input n x given).completed (witness_effect n x given).idle) r.its r.quiet n x given (ap (λ (u : World). numbered u.witnesses n) is ∙ numbered_set_same w.witnesses n x (witness_input n x given).state was) moved;
        }

  -- where nothing changes but what is stopped
  pub rest_keeps_order : {v : World} → RestsIn w v → Grows w v → Later w v → Known v → Predecessors v → KeepsOrder w v
  rest_keeps_order {v} rest grows later now chain_now =
      let r : RefinesQuiet w v = rest_refines rest in
      let says : SaysMore w v [] (client_node 0) = record {
        sent = ap messages rest.is ∙ all_of-kept w.sent [];
        all = tt;
        not_manager = λ e. apart (ap (λ (x : NodeId). x.kind) e);
        manager = ap (λ (u : World). u.manager) rest.is;
      } in
      let masters : v.masters ≡ w.masters = ap (λ (u : World). u.masters) rest.is in
      record {
        refines = r.its;
        logs = same_logs w v says.manager masters ordered.logs;
        reads = frame_reads known now says (λ e. absurd cc) chain chain_now ordered
            (record { grows = grows; later = later; names = known.names; steady = known.steady; ready = nothing_ready says known.names (λ e. absurd cc) })
            r.its r.quiet masters (λ part. ap (λ (u : World). cuts part u.marks) rest.is) (looks_same (ap (λ (u : World). u.marks) rest.is)) (none_late known now says (λ e. absurd cc) (λ e. absurd cc)) (none_lives known now says (λ e. absurd cc) (λ e. absurd cc));
      }
    where
      apart : kind.Manager ≢ kind.Client
      apart e = cc

-- ---- an input to a master

module _ {w : World} (known : Known w) (chain : Predecessors w) (routes : Routes w) (migrated : Migrated w) (ordered : Ordered w)
    (n : ℕ) (given : Input) (m : MasterStage) (here : numbered w.masters n ≡ Some m) (for : IsFor w (master_node n) given) (events : List Event) (none : events ≡ []) where
  abbrev v : World
  v = master_world known n given m here for events none

  abbrev unglanced : List Mark
  unglanced = if is_adopted w.manager (master_node n) then w.marks ++ master_marks (master_node n) m (master_input n m given).state else w.marks

  abbrev out : List Message
  out = (master_input n m given).messages

  abbrev k : MasterStage
  k = (master_input n m given).state

  marks : v.marks ≡ with_glance (master_node n) given m k unglanced
  marks = idle_marks (with_glance (master_node n) given m k unglanced) (master_input n m given).completed (input_idle known n m (record { its_kind = refl; its_state = here }) given for)

  module _ (grows : Grows w v) (later : Later w v) (now : Known v) (chain_now : Predecessors v) (migrated_now : Migrated v) where
    step : MasterStep w v n (speaker known n given) (heard_in known n given) m k out
    step = master_step known n given m here for events none grows later

    by_input : StageInput n given (speaker known n given) (heard_in known n given) m k out → KeepsOrder w v
    by_input (Slow captures reads same) =
        let its = marks ∙ same unglanced in
        let r : RefinesQuiet w v = master_refines known chain routes migrated ordered migrated_now n (speaker known n given) (heard_in known n given) out m k step captures its in
        record {
          refines = r.its;
          logs = master_logs known chain routes migrated ordered migrated_now n (speaker known n given) (heard_in known n given) out m k step;
          reads = master_reads known now chain chain_now ordered r.its r.quiet m k step its reads
              (master_cuts n (speaker known n given) (heard_in known n given) out m k step known chain now its ordered.cuts_follow)
              (timed_stay known chain ordered now (step_follows known step) r.its (master_lives n (speaker known n given) (heard_in known n given) out m k step) (cuts_marked w v (master_node n) m k (is_adopted w.manager (master_node n)) its));
        }
    by_input (Quickly x y is_x is_y a same) =
        let at = subst₂ (λ (p q : MasterStage). MasterStep w v n (speaker known n given) (heard_in known n given) p q out) is_x is_y step in
        let low = (known.inv.masters (master_node n) (Serving x) at.was).captures in
        let idle : unglanced ≡ w.marks
        = ap₂ (λ (p q : MasterStage). if is_adopted w.manager (master_node n) then w.marks ++ master_marks (master_node n) p q else w.marks) is_x is_y
        ∙ ap (λ (ms : List Mark). if is_adopted w.manager (master_node n) then w.marks ++ ms else w.marks) (nothing_pushed w n (heard_in known n given) x y out low a) ∙ neither (is_adopted w.manager (master_node n)) in
        let its = marks ∙ same unglanced ∙ ap₂ with_quick (ap (λ (z : MasterState). quick_mark (master_node n) z a.ask.request) a.state) idle in
        record {
          refines = (quick_refines known chain ordered now chain_now n (speaker known n given) (heard_in known n given) x y out at a its).its;
          logs = master_logs known chain routes migrated ordered migrated_now n (speaker known n given) (heard_in known n given) out m k step;
          reads = quick_reads known chain ordered now chain_now n (speaker known n given) (heard_in known n given) x y out at a its;
        }
      where
        neither : (b : Bool) → (if b then w.marks ++ [] else w.marks) ≡ w.marks
        neither true = append-nil w.marks
        neither false = refl

    pub master_keeps_order : KeepsOrder w v
    master_keeps_order = by_input (stage_input known n m given)
