-- A step of the manager keeps what is kept of reads: without an adoption of a recovery, and with one.
use Rattle.std.proofs.Common.{◌≡◌, ◌≢◌, ◌⊎◌, inl, inr, ℕ, ◌<◌, ◌≤◌, Bool, true, false, List, [], ◌∷◌, ◌++◌, drop, length, refl, ap, sym, ◌∙◌, subst, arith, Some}
use Rattle.std.specs.Bool.{⊤}
use Rattle.std.proofs.lemmas.Bool.{cases_eq, cases_lt}
use Rattle.curp_base.specs.Words.{At, Each, numbered}
use Rattle.curp_base.proofs.Lists.{Each-weaker, prefix_length}
use Rattle.curp_cmd.specs.Node.{client_node, manager_node}
use Rattle.curp_cmd.specs.declared.entry.Entry.{Entry}
use Rattle.curp_cmd.specs.declared.node.NodeId.{NodeId}
use Rattle.curp_cmd.specs.declared.node.NodeKind.TheVariants as kind
use Rattle.curp_msg.specs.Moved.{says}
use Rattle.curp_msg.specs.declared.body.Body.TheVariants as body
use Rattle.curp_msg.specs.declared.body.Recover.{Recover}
use Rattle.curp_msg.specs.declared.body.Worth.{Worth}
use Rattle.curp_msg.specs.declared.config.PartConfig.{PartConfig}
use Rattle.curp_msg.specs.declared.message.Message.{Message}
use Rattle.curp_model.specs.Backup.{BackupState}
use Rattle.curp_model.specs.Manager.{Attempted}
use Rattle.curp_model.specs.Marks as mark
use Rattle.curp_model.specs.Marks.{Looked, Mark}
use Rattle.curp_model.specs.Master.{Captured, MasterState}
use Rattle.curp_model.specs.Named.{IsBackup, IsMaster}
use Rattle.curp_model.specs.Recovery.{Recovering, RecoveryPhase, RecoveryState, Replayed, Serving, Waiting}
use Rattle.curp_model.specs.Witness.{frozen_requests}
use Rattle.curp_model.specs.World.{World, messages, op_requests}
use Rattle.curp_facts.specs.Facts.{ByRecovery, IsAdoptedNow, Lists, ReplayOk, WasAdopted, WasSent, lists_of_order, lists_of_part, phase_log}
use Rattle.curp_facts.specs.Kept.{PassedBy, lists_of_master}
use Rattle.curp_facts.specs.Nodes as nodes
use Rattle.curp_facts.specs.Nodes.{StageOk}
use Rattle.curp_facts.specs.Reach.{HasMany, HasStored, Reach}
use Rattle.curp_facts.specs.Known.{Known}
use Rattle.curp_law_kept.proofs.Gives.{fits, all_stored, stored_many, sent_back, replay_prefix, Follows, one_state, sent_later}
use Rattle.curp_law_linear.specs.Moves.{Adopts, LineMove, IsDropped}
use Rattle.curp_law_linear.specs.Ordered.{CaptureOk, CutsFollow, IsStored, Ordered, StoredFrom, CutsTimed}
use Rattle.curp_law_linear.specs.Refined.{Refines}
use Rattle.curp_law_linear.proofs.ReadsDropped.{Stays, kept_short, looks_adopted, read_stays}
use Rattle.curp_law_linear.proofs.ReadsLater.{EntryStays, LooksStand, ReadsOk, reads_later, looked_capture}
use Rattle.curp_law_linear.specs.Refined.{NoAdoption}
use Rattle.curp_law_linear.proofs.ReadsMoves.{NoneDrops, none_drops}
use Rattle.curp_law_linear.proofs.ReadsPassed.{NewerLists, NoneLate, passed_later, NoneLives}
use Rattle.curp_law_linear.proofs.ReadsQuiet.{looks_same}
use Rattle.curp_law_linear.proofs.ReadsStored.{stored_stays}
use Rattle.curp_facts.specs.Names.{IsOf, RecoveringOk}
use Rattle.curp_facts.specs.Predecessors.{Predecessors}
use Rattle.curp_law_runs.proofs.Gives.{order_first}
use Rattle.curp_facts.specs.Migrated.{AllStored}
use Rattle.curp_law_linear.proofs.Cuts.{cuts_stay}
use Rattle.curp_law_linear.specs.OfWorld.{cuts, entries_at, log_of, logged_entries}
use Rattle.curp_law_linear.proofs.CutsTimes.{timed_stay}
use Rattle.curp_msg.specs.declared.body.Quick.{Quick as QuickValue}

-- the manager has said more, and no other node has moved; new nodes are fresh
pub record ManagerSaid (w v : World) (out : List Message) : Type 0 where
  pub sent : messages v ≡ messages w ++ out
  pub all : Each (λ (m : Message). m.from ≡ manager_node) out
  pub masters : (node : NodeId) (m : MasterState) → IsMaster v node (Serving m) → IsMaster w node (Serving m)
  pub backups : (node : NodeId) (b : BackupState) → IsBackup w node b → IsBackup v node b

module _ {w v : World} (now : Known v) {out : List Message} (f : ManagerSaid w v out) where
  another : (node : NodeId) → (node.kind ≡ kind.Master) ⊎ (node.kind ≡ kind.Backup) → node ≢ manager_node
  another node is same = elim is [
    | inl master ↦ masters (sym master ∙ ap (λ (z : NodeId). z.kind) same)
    | inr backup ↦ backups (sym backup ∙ ap (λ (z : NodeId). z.kind) same)
  ]
    where
      masters : kind.Master ≡ kind.Manager → ⊥
      masters e = cc

      backups : kind.Backup ≡ kind.Manager → ⊥
      backups e = cc

  late : NoneLate w v
  late node to b a long is below stored sent = sent_back w v out f.sent manager_node f.all _ sent (another node (inr is.its_kind))

  pub lives : NoneLives w v
  lives node to x a is frozen live sent = sent_back w v out f.sent manager_node f.all _ sent (λ same. kinds (sym is.its_kind ∙ ap (λ (z : NodeId). z.kind) same))
    where
      kinds : kind.Witness ≡ kind.Manager → ⊥
      kinds e = cc

  worth_was : (node : NodeId) (x : Worth) → WasSent v (says node (client_node x.id.client) (body.Worth x)) → WasSent w (says node (client_node x.id.client) (body.Worth x))
  worth_was node x sent =
      let of : IsOf v kind.Master node = (fits now (says node (client_node x.id.client) (body.Worth x)) sent).sender in
      sent_back w v out f.sent manager_node f.all _ sent (another node (inl of.0))

  quick_was : (node : NodeId) (q : QuickValue) → WasSent v (says node (client_node q.id.client) (body.Quick q)) → WasSent w (says node (client_node q.id.client) (body.Quick q))
  quick_was node q sent =
      let of : IsOf v kind.Master node = (fits now (says node (client_node q.id.client) (body.Quick q)) sent).sender in
      sent_back w v out f.sent manager_node f.all _ sent (another node (inl of.0))

  -- a step that adopts no recovery: each entry has the epoch and the master that it had
  pub manager_reads : Known w → Predecessors w → Predecessors v → (ordered : Ordered w) → Follows w v → (r : Refines w v) → Each NoAdoption r.moves → v.marks ≡ w.marks
      → ((c : PartConfig) → IsAdoptedNow v c → EntryStays w c) → NewerLists w v → ReadsOk v
  manager_reads known chain later ordered s r none marks entries newer = reads_later known chain ordered s now later r (record {
    cuts_follow = cuts_stay known chain now s entries newer (λ part. ap (cuts part) marks) ordered.cuts_follow;
    cuts_timed = timed_stay known chain ordered now s r lives (λ part. ap (cuts part) marks);
    looks = looks_same marks;
    entries = λ c here. inl (entries c here);
    newer = newer;
    late = late;
    keeps = λ part long stored. none_drops r.moves none part long;
    lives = lives;
    quicks = quick_was;
    worths = worth_was;
    masters = λ node m is. inl (f.masters node m is);
    waits = λ node m is c ok. inl (none_drops r.moves none m.part c.length);
  })

-- ---- with an adoption

-- a move that adopts does so in that partition, and keeps so much
abbrev pub AdoptsThat : ℕ → ℕ → LineMove → Type 0
AdoptsThat part cut (Adopts o) = (o.part ≡ part) × (length o.stays ≡ cut)
AdoptsThat part cut _ = ⊤

-- The attempt was made over the present entry of its partition, and has replayed. Its marks follow, it has the new entry, and
-- no other lists are adopted now
pub record AdoptsRecovery (w v : World) (r : Refines w v) : Type 0 where
  pub a : Attempted
  pub before : PartConfig
  pub was_now : IsAdoptedNow w before
  pub ok : RecoveringOk w (lists_of_part before) a.master a.order
  pub s : RecoveryState
  pub is : IsMaster w a.master (Recovering s)
  pub p : Replayed
  pub waits : s.phase ≡ Waiting p
  pub marks : v.marks ≡ mark.adopted a.master a.order.part a.order.epoch p.cut (op_requests (drop p.cut p.log)) w.marks
  pub entry : PartConfig
  pub entry_now : IsAdoptedNow v entry
  pub its_part : entry.part ≡ a.order.part
  pub its_epoch : entry.epoch ≡ a.order.epoch
  pub its_master : entry.master ≡ a.master
  pub back : (l : Lists) → WasAdopted v l → WasAdopted w l ⊎ (l ≡ lists_of_part entry)
  pub entries : (c : PartConfig) → IsAdoptedNow v c → (c ≡ entry) ⊎ EntryStays w c
  pub moves : Each (AdoptsThat a.order.part p.cut) r.moves

module _ {w v : World} (known : Known w) (now : Known v) (chain : Predecessors w) (later : Predecessors v) (ordered : Ordered w) (s : Follows w v) (r : Refines w v)
    {out : List Message} (f : ManagerSaid w v out) (d : AdoptsRecovery w v r) where
  recovering : nodes.RecovererOk w d.a.master d.s
  recovering = known.inv.masters d.a.master (Recovering d.s) d.is

  same_order : d.s.order ≡ d.a.order
  same_order = known.names.one_order d.a.master d.s.order d.a.order recovering.ordered d.ok.sent

  stage : (x : RecoveryPhase) → x ≡ Waiting d.p → StageOk w d.s x → StageOk w d.s (Waiting d.p)
  stage x e ok = subst (StageOk w d.s) e ok

  replayed : StageOk w d.s (Waiting d.p)
  replayed = stage d.s.phase d.waits recovering.stage

  -- the recovered backup is one of the present list
  pub cut_replay : ReplayOk w d.s d.p
  cut_replay = replayed.0.replayed

  pub cut_backup : IsBackup w d.a.order.backup cut_replay.sources.b
  cut_backup = subst (λ (o : Recover). IsBackup w o.backup cut_replay.sources.b) same_order cut_replay.sources.its_backup

  -- what each backup of the present list has is no longer than what stays
  within_cut : (part long : ℕ) → d.a.order.part ≡ part → ((c : PartConfig) → IsAdoptedNow w c → c.part ≡ part → AllStored w c long) → long ≤ d.p.cut
  within_cut part long same stored =
      let low = stored d.before d.was_now (sym d.ok.its_part ∙ same) d.a.order.backup d.ok.its_backup cut_replay.sources.b cut_backup in
      omega (arith, low, cut_replay.its_cut)

  -- no move drops what is no longer than that
  none_dropped : (ms : List LineMove) → Each (AdoptsThat d.a.order.part d.p.cut) ms → (part long : ℕ) → (d.a.order.part ≡ part → long ≤ d.p.cut) → NoneDrops ms part long
  none_dropped [] all part long short = tt
  none_dropped (m ∷ ms) all part long short = (go m all.0, none_dropped ms all.1 part long short)
    where
      go : (m : LineMove) → AdoptsThat d.a.order.part d.p.cut m → IsDropped m part long → ⊥
      go (Adopts o) that dropped = let low = short (sym that.0 ∙ dropped.0) in omega (arith, low, that.1, dropped.1)
      go _ that dropped = dropped

  newer : NewerLists w v
  newer l was = elim (d.back l was) [
    | inl old ↦ inl old
    | inr new ↦ inr (λ k adopted part.
        let top = (known.names.top d.before d.was_now).epochs k adopted (part ∙ ap (λ (z : Lists). z.part) new ∙ d.its_part ∙ d.ok.its_part) in
        omega (arith, top, d.ok.later, d.its_epoch, ap (λ (z : Lists). z.epoch) new))
  ]

  -- ---- looks

  -- what the looks of the partition that stay saw is in what stays
  stay_short : (k number long : ℕ) (m : Mark) → At v.marks k m → m.place ≡ Looked number long → m.part ≡ d.a.order.part → long ≤ d.p.cut
  stay_short k number long m at look part = go m.completed refl (read_stays w v d.a.master d.a.order.part d.a.order.epoch d.p.cut (op_requests (drop d.p.cut d.p.log)) d.marks k number m at (looked_capture number long m.place look))
    where
      go : (b : Bool) → m.completed ≡ b → Stays d.a.order.part d.p.cut w.marks k m → long ≤ d.p.cut
      go true e h = within_cut m.part long (sym part) (λ c here same. ordered.stored h.place number long m c h.stands look here same (inl e))
      go false e h = kept_short d.a.order.part d.p.cut number long m h.kept part e look

  -- the new master has it stored on each of its ready lists
  stored_there : (long : ℕ) → long ≤ d.p.cut → IsStored w d.a.master 0 long
  stored_there long short = record {
    its = record { log = d.p.log; round = d.p.round };
    its_log = record { m = Recovering d.s; is = d.is; its_log = logged d.s.phase d.waits };
    low = within;
    reach = reach;
  }
    where
      logged : (x : RecoveryPhase) → x ≡ Waiting d.p → phase_log x ≡ Some (record { log = d.p.log; round = d.p.round })
      logged x e = ap phase_log e

      within : long ≤ length d.p.log
      within =
          let prefix = prefix_length (replay_prefix d.s.order.lo d.s.order.hi (frozen_requests cut_replay.sources.x) cut_replay.sources.b.log) in
          omega (arith, short, cut_replay.its_cut, prefix, ap (λ (es : List Entry). length es) cut_replay.is)

      many : Each (HasMany w long) d.a.order.backups
      many = subst (λ (o : Recover). Each (HasMany w long) o.backups) same_order
          (Each-weaker (HasStored w (length d.p.log)) (HasMany w long) (λ node h b is. let low = stored_many w (length d.p.log) node h b is in omega (arith, low, within)) d.s.order.backups
          (all_stored w (length d.p.log) d.s.order d.p replayed.1 replayed.0.complete))

      own : Lists
      own = lists_of_order d.a.master d.a.order

      reach : Reach w d.a.master 0 long
      reach l told master above = elim told.told [
        | inl one ↦
            let first = order_first known.names l told.given d.a.order (subst (λ (z : NodeId). WasSent w (says manager_node z (body.Recover d.a.order))) (sym master) d.ok.sent) in
            let low = (known.names.given (lists_of_part d.before) (known.names.top d.before d.was_now).was.given).version.0 in
            absurd (omega (arith, first, one, d.ok.newer, low))
        | inr other ↦ elim other [
          | inl prepared ↦ absurd (recovering.unprepared l.version (subst (λ (z : NodeId). WasSent w (says z manager_node (body.Prepared l.version))) master prepared))
          | inr recovered ↦
              let order : recovered.order ≡ d.a.order = known.names.one_order d.a.master recovered.order d.a.order (subst (λ (z : NodeId). WasSent w (says manager_node z (body.Recover recovered.order))) master recovered.ordered) d.ok.sent in
              let one : l ≡ lists_of_order d.a.master d.a.order = (known.names.agree l (lists_of_order d.a.master d.a.order) told.given (ByRecovery d.a.master d.a.order d.ok.sent)).by_version master (sym recovered.its_version ∙ ap (λ (o : Recover). o.version) order) in
              subst (λ (z : Lists). Each (HasMany w long) z.backups) (sym one) many
        ]
      ]

  -- what was recovered is a beginning of the present log
  pub cut_within : d.p.cut ≤ length (log_of w d.a.order.part d.before.master).log
  cut_within = elim (known.inv.backups (lists_of_part d.before) (known.names.top d.before d.was_now).was.given d.a.order.backup d.ok.its_backup cut_replay.sources.b cut_backup).follows [
    | inl none ↦ omega (arith, cut_replay.its_cut, ap (λ (es : List Entry). length es) none)
    | inr g ↦
        let is : (log_of w d.a.order.part d.before.master).log ≡ g.its.log = ap entries_at g.its_log.is.its_state ∙ ap logged_entries g.its_log.its_log in
        omega (arith, cut_replay.its_cut, prefix_length g.prefix, ap (λ (es : List Entry). length es) is)
  ]

  -- and the new master has stored it
  pub cut_stored : StoredFrom v d.a.master d.a.order.part d.p.cut
  cut_stored = record {
    lists = lists_of_part d.entry;
    adopted = (now.names.top d.entry d.entry_now).was;
    its_master = d.its_master;
    its_part = d.its_part;
    stored = let h = stored_stays s d.a.master 0 d.p.cut (stored_there d.p.cut (omega arith)) in record { its = h.its; its_log = h.its_log; low = h.low; reach = λ l told master above. h.reach l told master (omega arith) };
  }

  stand : LooksStand v d.entry
  stand k number long m at look part =
      subst (λ (z : NodeId). IsStored v z 0 long) (sym d.its_master) (stored_stays s d.a.master 0 long (stored_there long (stay_short k number long m at look (part ∙ d.its_part))))

  -- ---- captures

  module _ (node : NodeId) (m : MasterState) (is : IsMaster w node (Serving m)) (c : Captured) where
    -- one whose look is dropped is passed by
    dropped_passed : CaptureOk w node m c → d.a.order.part ≡ m.part → d.p.cut < c.length → PassedBy v (lists_of_master node m) m c
    dropped_passed (inr p) part long = passed_later known s (lists_of_master node m) m c p newer (late now f) (lists_of_master node m) refl refl refl m (λ never. never.known)
    dropped_passed (inl look) part long =
        let own : Lists = lists_of_master node m in
        let was : WasAdopted w own = (known.inv.masters node (Serving m) is).adopted in
        let top = known.names.top d.before d.was_now in
        let here : d.before.part ≡ m.part = sym d.ok.its_part ∙ part in
        let low : m.epoch ≤ d.before.epoch = top.epochs own was (sym here) in
        let same : m.epoch ≡ d.before.epoch = elim (cases_lt m.epoch d.before.epoch) [
          | inl earlier ↦
              let mark_part : look.mark.part ≡ m.part = look.its_part in
              let short = within_cut m.part c.length part (λ e e_now e_part. ordered.stored look.place c.number c.length look.mark e look.stands look.is_look e_now (e_part ∙ sym mark_part)
              (inr (omega (arith, earlier, look.its_epoch, ap (λ (z : PartConfig). z.epoch) (one_state _ e d.before (subst (λ (i : ℕ). numbered w.manager.config.parts i ≡ Some e) (e_part ∙ sym here) e_now) d.was_now))))) in
              absurd (omega (arith, short, long))
          | inr not_earlier ↦ omega (arith, low, not_earlier)
        ] in
        record {
          later = lists_of_part d.entry;
          adopted = (now.names.top d.entry d.entry_now).was;
          its_part = d.its_part ∙ part;
          above = omega (arith, same, d.ok.later, d.its_epoch);
          first = λ other adopted its_part above. elim (d.back other adopted) [
            | inl old ↦ let high = top.epochs other old (its_part ∙ sym here) in absurd (omega (arith, high, same, above))
            | inr new ↦ omega (arith, ap (λ (z : Lists). z.epoch) new)
          ];
          order = d.a.order;
          ordered = subst (λ (z : NodeId). WasSent v (says manager_node z (body.Recover d.a.order))) (sym d.its_master) (sent_later s d.ok.sent);
          b = cut_replay.sources.b;
          is = f.backups d.a.order.backup cut_replay.sources.b cut_backup;
          fenced = omega (arith, cut_replay.sources.fenced, ap (λ (o : Recover). o.epoch) same_order, d.ok.later, same);
          passed = inl (omega (arith, cut_replay.its_cut, long));
        }

    waiting : CaptureOk w node m c → NoneDrops r.moves m.part c.length ⊎ PassedBy v (lists_of_master node m) m c
    waiting ok = elim (cases_lt d.p.cut c.length) [
      | inl long ↦ elim (cases_eq d.a.order.part m.part) [
        | inl part ↦ inr (dropped_passed ok part long)
        | inr other ↦ inl (none_dropped r.moves d.moves m.part c.length (λ part. absurd (other part)))
      ]
      | inr short ↦ inl (none_dropped r.moves d.moves m.part c.length (λ part. omega (arith, short)))
    ]

  -- an adoption of a recovery keeps what is kept of reads
  pub adoption_reads : CutsFollow v → CutsTimed v → ReadsOk v
  adoption_reads cuts_follow cuts_timed = reads_later known chain ordered s now later r (record {
    cuts_follow = cuts_follow;
    cuts_timed = cuts_timed;
    looks = looks_adopted w v d.a.master d.a.order.part d.a.order.epoch d.p.cut (op_requests (drop d.p.cut d.p.log)) d.marks;
    entries = λ c here. elim (d.entries c here) [
      | inl new ↦ inr (subst (LooksStand v) (sym new) stand)
      | inr old ↦ inl old
    ];
    newer = newer;
    late = late now f;
    keeps = λ part long stored. none_dropped r.moves d.moves part long (λ same. within_cut part long same stored);
    lives = lives now f;
    quicks = quick_was now f;
    worths = worth_was now f;
    masters = λ node m is. inl (f.masters node m is);
    waits = λ node m is c ok. waiting node m is c ok;
  })
