-- Each delivery keeps a calm world calm.
use Rattle.std.proofs.Common.{◌≡◌, ◌≤◌, ◌⊎◌, inl, inr, ℕ, suc, ◌-◌, List, [], ◌∷◌, ◌++◌, length, set, drop, Option, Some, None, refl, ap, sym, ◌∙◌, subst, arith, length-append}
use Rattle.curp_base.specs.Words.{At, Each, numbered}
use Rattle.curp_base.proofs.Lists.{Each-at}
use Rattle.curp_base.proofs.Numbered.{numbered_set_other, numbered_set_same}
use Rattle.curp_cmd.specs.Node.{backup_node, client_node, manager_node, master_node, witness_node}
use Rattle.curp_cmd.specs.declared.node.NodeId.{NodeId}
use Rattle.curp_cmd.specs.declared.node.NodeKind.TheVariants as kind
use Rattle.curp_msg.specs.Moved.{Moved, says}
use Rattle.curp_msg.specs.declared.body.Append.{Append}
use Rattle.curp_msg.specs.declared.body.Gc.{Gc}
use Rattle.curp_msg.specs.declared.body.Record.{Record}
use Rattle.curp_msg.specs.declared.answer.Reason.{Reason}
use Rattle.std.proofs.lemmas.Bool.Decides.{eqb_tells}
use Rattle.curp_msg.specs.declared.body.Body.{Body}
use Rattle.curp_msg.specs.declared.body.Body.TheVariants as body
use Rattle.curp_msg.specs.declared.config.PartConfig.{PartConfig}
use Rattle.curp_msg.specs.declared.message.Message.{Message}
use Rattle.curp_facts.specs.Facts.{IsAmong}
use Rattle.curp_model.specs.Backup.{AfterAppend, BackupState, append, longer, on_backup, stores}
use Rattle.curp_model.specs.Client.{ClientState, Pending, on_client}
use Rattle.curp_model.specs.Manager.{ManagerState}
use Rattle.curp_model.specs.Master.{MasterState, on_serving}
use Rattle.curp_model.specs.Recovery.{MasterStage, Serving}
use Rattle.curp_model.specs.Witness.{WitnessState, on_witness, verdict_body}
use Rattle.curp_model.specs.World.{World, messages}
use Rattle.curp_law_served.specs.Calm.{Calm, IsUndelivered, IsAwaited, FitsIn, NoGap}
use Rattle.curp_law_served.specs.Ways.{PendsOne}
use Rattle.curp_law_served.proofs.Asked as asked
use Rattle.curp_law_served.proofs.ClientsHear as clients
use Rattle.curp_law_served.proofs.ClientsHear.{IsSync, IsTold}
use Rattle.curp_law_served.proofs.Fits as fits
use Rattle.curp_law_served.proofs.Fits.{BeginsAt}
use Rattle.curp_law_served.proofs.Keepers as keepers
use Rattle.curp_law_served.proofs.Lists.{among_cases, among_none}
use Rattle.curp_law_served.proofs.Pending as pending
use Rattle.curp_law_served.proofs.RoundsWait.{AllSent, Keeps}
use Rattle.curp_law_served.proofs.Serving.{IsHeard, never_ends, serving_keeps}
use Rattle.curp_law_served.proofs.Steps.{BackupDid, ClientDid, Delivered, FetchDid, MasterDid, WitnessDid, backup_did, client_did, due_from, fetch_did, master_did, new_due, splits, witness_did}
use Rattle.curp_law_served.proofs.Ways as ways
use Rattle.curp_law_served.specs.Grounds.{Grounds, IsCalm, IsOurWitness, IsOurs}

each_of_sent : (P : Message → Type 0) (xs : List Message) → Each P xs → (x : Message) → IsAmong x xs → P x
each_of_sent P xs all x a = Each-at P xs all a.place x a.stands

module _ (w v : World) (done : ℕ) (x : Message) (at : At (messages w) done x) (did : Delivered w v x) (c : PartConfig)
    (q : ℕ) (m : MasterState) (cl : ClientState) (calm : Calm w done c q m cl) (grounds : Grounds w done c m cl) where
  here : IsUndelivered w done x
  here = (done, omega arith, at)

  -- ---- to the master

  gap_kept : (to : NodeId) (b : Body) → v.backups ≡ w.backups → NoGap w to b → NoGap v to b
  gap_kept to (body.Append a) same g = (g.0, subst (λ (l : List BackupState). numbered l to.number ≡ Some g.0) (sym same) g.1, g.2)
  gap_kept to _ same g = tt

  new_gap : (from to : NodeId) (b : Body) → FitsIn c from to b → BeginsAt m to b → NoGap w to b
  new_gap from to (body.Append a) fit begins = let k = grounds.backups to fit.0 in (k.b, k.is, omega (arith, begins, k.known))
  new_gap from to _ fit begins = tt

  master_kept : IsHeard x.body → x.to ≡ c.master → IsCalm v (suc done) c q
  master_kept heard to =
      let r : Moved MasterState = on_serving q m x.from x.body in
      let moved : MasterDid w v q r = master_did w v x q m did (to ∙ calm.its_master) calm.master in
      let split = splits w v done x at r.messages moved.said in
      let sent : AllSent (IsUndelivered v (suc done)) r = new_due w v done x at r.messages moved.said in
      let keeps : Keeps (IsUndelivered w done) (IsUndelivered v (suc done)) q m r = serving_keeps q m grounds.bounded calm.serves grounds.roomy (IsUndelivered w done) (IsUndelivered v (suc done)) x.from x.to calm.goes x.body heard split sent in
      let ends = never_ends q m grounds.bounded calm.serves grounds.roomy (IsUndelivered w done) x.from x.to calm.goes x.body heard in
      let said = subst (λ (k : Moved MasterState). Each (fits.Said c q m calm.its_master calm.epoch calm.backups calm.serves) k.messages) (sym ends)
      (fits.said c q m calm.its_master calm.epoch calm.backups calm.serves grounds.ops x.from x.body heard) in
      let new = each_of_sent (fits.Said c q m calm.its_master calm.epoch calm.backups calm.serves) r.messages said in (
        r.state,
        cl,
        record {
          client = moved.clients ∙ calm.client;
          fast = calm.fast;
          protocol = calm.protocol;
          manager = ap (λ (g : ManagerState). g.config.parts) moved.manager ∙ calm.manager;
          its_master = calm.its_master;
          master = moved.master;
          epoch = keeps.same.epoch ∙ calm.epoch;
          version = keeps.same.version ∙ calm.version;
          backups = keeps.same.backups ∙ calm.backups;
          witnesses = keeps.same.witnesses ∙ calm.witnesses;
          serves = keeps.same.phase ∙ calm.serves;
          fits = λ y due. elim (due_from w v done x at r.messages moved.said y due) [ inl old ↦ calm.fits y old | inr is ↦ (new y is).0 ];
          no_gaps = λ y due. gap_kept y.to y.body moved.backups (elim (due_from w v done x at r.messages moved.said y due) [ inl old ↦ calm.no_gaps y old | inr is ↦ new_gap y.from y.to y.body (new y is).0 (new y is).1 ]);
          goes = keeps.goes;
          pends = asked.pends (IsUndelivered w done) (IsUndelivered v (suc done)) x.from x.to q m c calm.its_master calm.epoch calm.version grounds.bounded calm.serves grounds.roomy calm.goes x.body heard split sent cl.pending grounds.welcome calm.pends;
        },
      )

  -- ---- to the client

  told_dull : (b : Body) → IsTold b → ways.NoRound b
  told_dull (body.Reply r) h = tt
  told_dull (body.Worth r) h = tt
  told_dull (body.Refuse r) h = tt
  told_dull (body.Accepted r) h = tt
  told_dull (body.Rejected r) h = tt
  told_dull (body.Configuration r) h = tt
  told_dull _ h = absurd h

  sync_fits : (from to : NodeId) (b : Body) → IsSync c (says from to b) → FitsIn c from to b × NoGap v to b
  sync_fits from to b is = subst (λ (k : Body). FitsIn c from to k × NoGap v to k) (sym is.is) (is.to, tt)

  client_kept : IsTold x.body → x.to.kind ≡ kind.Client → clients.BringsEntry c x.body → IsCalm v (suc done) c q
  client_kept told its_kind brings =
      let r : Moved ClientState = on_client 1 cl x.from x.body in
      let moved : ClientDid w v r = client_did w v x cl did (grounds.client x here its_kind) calm.client in
      let split = splits w v done x at r.messages moved.said in
      let knows = clients.knows c 1 x.from cl calm.fast calm.protocol x.body told brings in
      let says_all = each_of_sent (IsSync c) r.messages (clients.client_says (IsUndelivered w done) m c 1 x.from cl x.body told calm.pends) in (
        m,
        r.state,
        record {
          client = moved.clients;
          fast = knows.fast;
          protocol = knows.protocol;
          manager = ap (λ (g : ManagerState). g.config.parts) moved.manager ∙ calm.manager;
          its_master = calm.its_master;
          master = subst (λ (l : List MasterStage). numbered l q ≡ Some (Serving m)) (sym moved.masters) calm.master;
          epoch = calm.epoch;
          version = calm.version;
          backups = calm.backups;
          witnesses = calm.witnesses;
          serves = calm.serves;
          fits = λ y due. elim (due_from w v done x at r.messages moved.said y due) [ inl old ↦ calm.fits y old | inr is ↦ (sync_fits y.from y.to y.body (says_all y is)).0 ];
          no_gaps = λ y due. elim (due_from w v done x at r.messages moved.said y due) [ inl old ↦ gap_kept y.to y.body moved.backups (calm.no_gaps y old) | inr is ↦ (sync_fits y.from y.to y.body (says_all y is)).1 ];
          goes = ways.master_goes (IsUndelivered w done) (IsUndelivered v (suc done)) x.from x.to x.body split (told_dull x.body told) q m calm.goes;
          pends = clients.client_hears (IsUndelivered w done) (IsUndelivered v (suc done)) x.from x.to m c 1 cl x.body told split calm.pends (new_due w v done x at r.messages moved.said);
        },
      )

  -- ---- to a witness

  -- what a witness says to the client or the master
  module _ (number : ℕ) (y : WitnessState) (to : x.to ≡ witness_node number)
      (is : numbered w.witnesses number ≡ Some y) where
    witness_kept : (r : Moved WitnessState) → on_witness number y x.from x.body ≡ r → ways.NoRound x.body
        → (PendsOne (IsUndelivered w done) m c cl.pending → PendsOne (IsUndelivered v (suc done)) m c cl.pending)
        → ((z : Message) → IsAmong z r.messages → IsAwaited c z × NoGap v z.to z.body) → IsCalm v (suc done) c q
    witness_kept r e dull on new =
        let moved : WitnessDid w v r = subst (WitnessDid w v) e (witness_did w v x number y did to is) in
        let split = splits w v done x at r.messages moved.said in (
          m,
          cl,
          record {
            client = moved.clients ∙ calm.client;
            fast = calm.fast;
            protocol = calm.protocol;
            manager = ap (λ (g : ManagerState). g.config.parts) moved.manager ∙ calm.manager;
            its_master = calm.its_master;
            master = subst (λ (l : List MasterStage). numbered l q ≡ Some (Serving m)) (sym moved.masters) calm.master;
            epoch = calm.epoch;
            version = calm.version;
            backups = calm.backups;
            witnesses = calm.witnesses;
            serves = calm.serves;
            fits = λ z due. elim (due_from w v done x at r.messages moved.said z due) [ inl old ↦ calm.fits z old | inr a ↦ (new z a).0 ];
            no_gaps = λ z due. elim (due_from w v done x at r.messages moved.said z due) [ inl old ↦ gap_kept z.to z.body moved.backups (calm.no_gaps z old) | inr a ↦ (new z a).1 ];
            goes = ways.master_goes (IsUndelivered w done) (IsUndelivered v (suc done)) x.from x.to x.body split dull q m calm.goes;
            pends = on calm.pends;
          },
        )

  -- ---- to a backup

  grown_log : (number : ℕ) (b k : BackupState) → numbered w.backups number ≡ Some b
      → v.backups ≡ set w.backups (number - 1) k → length b.log ≤ length k.log
      → (to : NodeId) (z : Body) → NoGap w to z → NoGap v to z
  grown_log number b k is same low to (body.Append a) g = elim (eqb_tells to.number number) [
    | inl both ↦
        let e : to.number ≡ number = both.1 in
        let own : b ≡ g.0 = some_one (sym is ∙ ap (λ (i : ℕ). numbered w.backups i) (sym e) ∙ g.1) in (
          k,
          subst (λ (i : ℕ). numbered v.backups i ≡ Some k) (sym e) (subst (λ (l : List BackupState). numbered l number ≡ Some k) (sym same) (numbered_set_same w.backups number b k is)),
          omega (arith, g.2, low, ap (λ (s : BackupState). length s.log) own),
        )
    | inr apart ↦ (g.0, subst (λ (l : List BackupState). numbered l to.number ≡ Some g.0) (sym same) (numbered_set_other w.backups number b k is to.number g.0 apart.1 g.1), g.2)
  ]
    where
      some_one : Some b ≡ Some g.0 → b ≡ g.0
      some_one e = cc
  grown_log number b k is same low to _ g = tt

  module _ (a : Append) (is_append : x.body ≡ body.Append a) where
    fit : IsAmong x.to c.backups × (x.from ≡ c.master) × (a.epoch ≡ c.epoch)
    fit = subst (FitsIn c x.from x.to) is_append (calm.fits x here)

    ours : IsOurs w c m x.to
    ours = grounds.backups x.to fit.0

    gap : a.base ≤ length ours.b.log
    gap =
        let g : NoGap w x.to (body.Append a) = subst (NoGap w x.to) is_append (calm.no_gaps x here) in
        omega (arith, g.2, ap (λ (s : BackupState). length s.log) (same_b g.0 (sym g.1 ∙ ours.is)))
      where
        same_b : (s : BackupState) → Some s ≡ Some ours.b → s ≡ ours.b
        same_b s e = cc

    whole : x ≡ says (master_node q) (backup_node x.to.number) (body.Append a)
    whole = λ i. record { from = (fit.1 ∙ calm.its_master) i; to = ours.name i; body = is_append i }

    taken : append ours.b a.epoch a.base a.entries ≡ stores ours.b (longer ours.b.log a.base a.entries)
    taken = keepers.append_stores ours.b a.epoch a.base a.entries (omega (arith, ours.fence, fit.2)) (ours.installed ∙ ap Some (sym fit.2)) gap

    longer_log : length ours.b.log ≤ length (on_backup x.to.number ours.b (master_node q) (body.Append a)).state.log
    unfolding on_backup
    longer_log =
        let e : (append ours.b a.epoch a.base a.entries).state.log ≡ longer ours.b.log a.base a.entries = ap (λ (k : AfterAppend). k.state.log) taken in
        omega (arith, ap length e, length-append ours.b.log (drop (length ours.b.log - a.base) a.entries))

    answer_fits : (y : Message) → IsAmong y (on_backup x.to.number ours.b (master_node q) (body.Append a)).messages
        → IsAwaited c y × NoGap v y.to y.body
    unfolding on_backup
    answer_fits y among = elim (among_cases y _ [] among) [
      | inl same ↦ subst (λ (z : Message). IsAwaited c z × NoGap v z.to z.body) same (sym calm.its_master, tt)
      | inr none ↦ absurd (among_none y none)
    ]

    backup_kept : IsCalm v (suc done) c q
    backup_kept =
        let r : Moved BackupState = on_backup x.to.number ours.b (master_node q) (body.Append a) in
        let moved : BackupDid w v x.to.number r = subst (λ (k : Moved BackupState). BackupDid w v x.to.number k)
        (ap (λ (f : NodeId). on_backup x.to.number ours.b f x.body) (fit.1 ∙ calm.its_master) ∙ ap (λ (k : Body). on_backup x.to.number ours.b (master_node q) k) is_append)
        (backup_did w v x x.to.number ours.b did ours.name ours.is) in
        let split : (y : Message) → IsUndelivered w done y → (y ≡ says (master_node q) (backup_node x.to.number) (body.Append a)) ⊎ IsUndelivered v (suc done) y =
        λ y due. elim (splits w v done x at r.messages moved.said y due) [ inl same ↦ inl (same ∙ whole) | inr later ↦ inr later ] in
        let sent = new_due w v done x at r.messages moved.said in (
          m,
          cl,
          record {
            client = moved.clients ∙ calm.client;
            fast = calm.fast;
            protocol = calm.protocol;
            manager = ap (λ (g : ManagerState). g.config.parts) moved.manager ∙ calm.manager;
            its_master = calm.its_master;
            master = subst (λ (l : List MasterStage). numbered l q ≡ Some (Serving m)) (sym moved.masters) calm.master;
            epoch = calm.epoch;
            version = calm.version;
            backups = calm.backups;
            witnesses = calm.witnesses;
            serves = calm.serves;
            fits = λ y due. elim (due_from w v done x at r.messages moved.said y due) [ inl old ↦ calm.fits y old | inr is ↦ (answer_fits y is).0 ];
            no_gaps = λ y due. elim (due_from w v done x at r.messages moved.said y due) [
              | inl old ↦ grown_log x.to.number ours.b r.state ours.is moved.backups longer_log y.to y.body (calm.no_gaps y old)
              | inr is ↦ (answer_fits y is).1
            ];
            goes = keepers.append_goes (IsUndelivered w done) (IsUndelivered v (suc done)) q m x.to.number ours.b a split (omega (arith, ours.fence, fit.2)) (ours.installed ∙ ap Some (sym fit.2)) gap sent calm.goes;
            pends = keepers.append_pends (IsUndelivered w done) (IsUndelivered v (suc done)) q m x.to.number ours.b a split (omega (arith, ours.fence, fit.2)) (ours.installed ∙ ap Some (sym fit.2)) gap sent c cl.pending calm.pends;
          },
        )

  -- ---- a record

  module _ (k : Record) (is_record : x.body ≡ body.Record k) where
    record_fit : IsAmong x.to c.witnesses × (x.from ≡ client_node 1)
    record_fit = subst (FitsIn c x.from x.to) is_record (calm.fits x here)

    its_witness : IsOurWitness w x.to
    its_witness = grounds.witnesses x.to record_fit.0

    whole_record : x ≡ says (client_node 1) (witness_node x.to.number) (body.Record k)
    whole_record = λ i. record { from = record_fit.1 i; to = its_witness.name i; body = is_record i }

    record_moved : on_witness x.to.number its_witness.x x.from x.body ≡ on_witness x.to.number its_witness.x (client_node 1) (body.Record k)
    record_moved = ap (λ (f : NodeId). on_witness x.to.number its_witness.x f x.body) record_fit.1 ∙ ap (λ (b : Body). on_witness x.to.number its_witness.x (client_node 1) b) is_record

    record_answer : (y : Message)
        → IsAmong y (on_witness x.to.number its_witness.x (client_node 1) (body.Record k)).messages
        → IsAwaited c y × NoGap v y.to y.body
    unfolding on_witness
    record_answer y among = elim (among_cases y _ [] among) [
      | inl same ↦ subst (λ (z : Message). IsAwaited c z × NoGap v z.to z.body) same (verdict_fits _)
      | inr none ↦ absurd (among_none y none)
    ]
      where
        verdict_fits : (o : Option Reason)
            → FitsIn c (witness_node x.to.number) (client_node 1) (verdict_body k.request.id k.epoch o) × NoGap v (client_node 1) (verdict_body k.request.id k.epoch o)
        verdict_fits None = (refl, tt)
        verdict_fits (Some why) = (refl, tt)

    record_kept : IsCalm v (suc done) c q
    record_kept =
        let r : Moved WitnessState = on_witness x.to.number its_witness.x (client_node 1) (body.Record k) in
        let moved : WitnessDid w v r = subst (WitnessDid w v) record_moved (witness_did w v x x.to.number its_witness.x did its_witness.name its_witness.is) in
        let split : (y : Message) → IsUndelivered w done y → (y ≡ says (client_node 1) (witness_node x.to.number) (body.Record k)) ⊎ IsUndelivered v (suc done) y =
        λ y due. elim (splits w v done x at r.messages moved.said y due) [ inl same ↦ inl (same ∙ whole_record) | inr later ↦ inr later ] in
        witness_kept x.to.number its_witness.x its_witness.name its_witness.is r record_moved (subst ways.NoRound (sym is_record) tt)
        (keepers.record_pends (IsUndelivered w done) (IsUndelivered v (suc done)) m c 1 x.to.number its_witness.x k split (new_due w v done x at r.messages moved.said) cl.pending) record_answer

  -- ---- a collection, at a witness

  dull_pends : (r : Moved WitnessState) → messages v ≡ messages w ++ r.messages → (b : Body) → x.body ≡ b
      → ((p : Pending) → pending.NoAsk x.from x.to b c p) → ((p : Pending) → pending.NoRecord x.from x.to b c p)
      → ((p : Pending) → pending.NoAnswer x.from x.to b c p)
      → PendsOne (IsUndelivered w done) m c cl.pending → PendsOne (IsUndelivered v (suc done)) m c cl.pending
  dull_pends r said b is ask rec none goes =
      let split : (y : Message) → IsUndelivered w done y → (y ≡ says x.from x.to b) ⊎ IsUndelivered v (suc done) y =
      λ y due. elim (splits w v done x at r.messages said y due) [ inl same ↦ inl (same ∙ λ i. record { from = x.from; to = x.to; body = is i }) | inr later ↦ inr later ] in
      pending.pends_on (IsUndelivered w done) (IsUndelivered v (suc done)) m m c (λ p. pending.all_on (IsUndelivered w done) (IsUndelivered v (suc done)) x.from x.to b split c p m (ask p) (rec p) (none p)) cl.pending goes

  module _ (k : Gc) (is_gc : x.body ≡ body.Gc k) where
    gc_fit : IsAmong x.to c.witnesses × (x.from ≡ c.master)
    gc_fit = subst (FitsIn c x.from x.to) is_gc (calm.fits x here)

    gc_witness : IsOurWitness w x.to
    gc_witness = grounds.witnesses x.to gc_fit.0

    gc_moved : on_witness x.to.number gc_witness.x x.from x.body ≡ on_witness x.to.number gc_witness.x x.from (body.Gc k)
    gc_moved = ap (λ (b : Body). on_witness x.to.number gc_witness.x x.from b) is_gc

    gc_answer : (y : Message) → IsAmong y (on_witness x.to.number gc_witness.x x.from (body.Gc k)).messages
        → IsAwaited c y × NoGap v y.to y.body
    unfolding on_witness
    gc_answer y among = elim (among_cases y _ [] among) [
      | inl same ↦ subst (λ (z : Message). IsAwaited c z × NoGap v z.to z.body) same (gc_fit.1, tt)
      | inr none ↦ absurd (among_none y none)
    ]

    gc_kept : IsCalm v (suc done) c q
    gc_kept =
        let r : Moved WitnessState = on_witness x.to.number gc_witness.x x.from (body.Gc k) in
        let moved : WitnessDid w v r = subst (WitnessDid w v) gc_moved (witness_did w v x x.to.number gc_witness.x did gc_witness.name gc_witness.is) in
        witness_kept x.to.number gc_witness.x gc_witness.name gc_witness.is r gc_moved (subst ways.NoRound (sym is_gc) tt)
        (dull_pends r moved.said (body.Gc k) is_gc (λ p. record { updates = λ z. z; syncs = λ z. z; reads = λ z. z }) (λ p. record { records = λ y z. z; accepts = λ y z. z; rejects = λ z. z }) (λ p. record { synced = λ z. z; early = λ z. z; value = λ z. z })) gc_answer

  -- ---- a fetch

  fetch_kept : x.body ≡ body.Fetch → IsCalm v (suc done) c q
  fetch_kept is =
      let fit : (x.to ≡ manager_node) × (x.from ≡ client_node 1) = subst (FitsIn c x.from x.to) is (calm.fits x here) in
      let moved : FetchDid w v x.from = fetch_did w v x did fit.0 is in
      let more : List Message = says manager_node x.from (body.Configuration w.manager.config) ∷ [] in
      let split : (y : Message) → IsUndelivered w done y → (y ≡ says x.from x.to body.Fetch) ⊎ IsUndelivered v (suc done) y =
      λ y due. elim (splits w v done x at more moved.said y due) [ inl same ↦ inl (same ∙ λ i. record { from = x.from; to = x.to; body = is i }) | inr later ↦ inr later ] in (
        m,
        cl,
        record {
          client = moved.clients ∙ calm.client;
          fast = calm.fast;
          protocol = calm.protocol;
          manager = ap (λ (g : ManagerState). g.config.parts) moved.manager ∙ calm.manager;
          its_master = calm.its_master;
          master = moved.masters q (Serving m) calm.master;
          epoch = calm.epoch;
          version = calm.version;
          backups = calm.backups;
          witnesses = calm.witnesses;
          serves = calm.serves;
          fits = λ y due. elim (due_from w v done x at more moved.said y due) [
            | inl old ↦ calm.fits y old
            | inr is ↦ elim (among_cases y _ [] is) [
              | inl same ↦ subst (IsAwaited c) same (ap (λ (n : NodeId). n.kind) fit.1, calm.manager)
              | inr none ↦ absurd (among_none y none)
            ]
          ];
          no_gaps = λ y due. elim (due_from w v done x at more moved.said y due) [
            | inl old ↦ more_gap y.to y.body moved.backups (calm.no_gaps y old)
            | inr is ↦ elim (among_cases y _ [] is) [
              | inl same ↦ subst (λ (z : Message). NoGap v z.to z.body) same tt
              | inr none ↦ absurd (among_none y none)
            ]
          ];
          goes = ways.master_goes (IsUndelivered w done) (IsUndelivered v (suc done)) x.from x.to body.Fetch split tt q m calm.goes;
          pends = pending.pends_on (IsUndelivered w done) (IsUndelivered v (suc done)) m m c (λ p. pending.all_on (IsUndelivered w done) (IsUndelivered v (suc done)) x.from x.to body.Fetch split c p m
              (record { updates = λ z. z; syncs = λ z. z; reads = λ z. z }) (record { records = λ y z. z; accepts = λ y z. z; rejects = λ z. z }) (record { synced = λ z. z; early = λ z. z; value = λ z. z })) cl.pending calm.pends;
        },
      )
    where
      more_gap : (to : NodeId) (b : Body)
          → ((n : ℕ) (s : BackupState) → numbered w.backups n ≡ Some s → numbered v.backups n ≡ Some s) → NoGap w to b
          → NoGap v to b
      more_gap to (body.Append a) stay g = (g.0, stay to.number g.0 g.1, g.2)
      more_gap to _ stay g = tt

  -- ---- whatever is delivered

  pub kept : IsCalm v (suc done) c q
  kept = by x.body refl (calm.fits x here)
    where
      by : (b : Body) → x.body ≡ b → FitsIn c x.from x.to x.body → IsCalm v (suc done) c q
      by (body.Update a) e its = master_kept (subst IsHeard (sym e) tt) (subst (FitsIn c x.from x.to) e its)
      by (body.Sync a) e its = master_kept (subst IsHeard (sym e) tt) (subst (FitsIn c x.from x.to) e its)
      by (body.Read a) e its = master_kept (subst IsHeard (sym e) tt) (subst (FitsIn c x.from x.to) e its)
      by (body.Appended a) e its = master_kept (subst IsHeard (sym e) tt) (subst (FitsIn c x.from x.to) e its)
      by (body.Collected a) e its = master_kept (subst IsHeard (sym e) tt) (subst (FitsIn c x.from x.to) e its)
      by (body.Reply r) e its = client_kept (subst IsTold (sym e) tt) (subst (FitsIn c x.from x.to) e its) (subst (clients.BringsEntry c) (sym e) tt)
      by (body.Worth r) e its = client_kept (subst IsTold (sym e) tt) (subst (FitsIn c x.from x.to) e its) (subst (clients.BringsEntry c) (sym e) tt)
      by (body.Refuse r) e its = client_kept (subst IsTold (sym e) tt) (subst (FitsIn c x.from x.to) e its) (subst (clients.BringsEntry c) (sym e) tt)
      by (body.Accepted r) e its = client_kept (subst IsTold (sym e) tt) (subst (FitsIn c x.from x.to) e its) (subst (clients.BringsEntry c) (sym e) tt)
      by (body.Rejected r) e its = client_kept (subst IsTold (sym e) tt) (subst (FitsIn c x.from x.to) e its) (subst (clients.BringsEntry c) (sym e) tt)
      by (body.Configuration g) e its = let f = subst (FitsIn c x.from x.to) e its in client_kept (subst IsTold (sym e) tt) f.0 (subst (clients.BringsEntry c) (sym e) f.1)
      by (body.Append a) e its = backup_kept a e
      by (body.Record k) e its = record_kept k e
      by (body.Gc k) e its = gc_kept k e
      by body.Fetch e its = fetch_kept e
      by _ e its = absurd (subst (FitsIn c x.from x.to) e its)
