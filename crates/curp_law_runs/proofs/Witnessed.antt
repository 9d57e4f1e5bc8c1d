-- What was answered by an unsynced reply, where each witness has accepted it: it stands in the log of its sender, and any pair of
-- a backup and a witness of its sender's last lists has it.
use Rattle.std.proofs.Common.{◌≡◌, inl, inr, ℕ, ◌+◌, ◌<◌, ◌≤◌, true, List, length, take, refl, sym, ◌∙◌, subst, arith}
use Rattle.std.proofs.lemmas.Bool.{cases_lt}
use Rattle.curp_base.specs.Words.{Each, IsPrefix}
use Rattle.curp_base.proofs.Lists.{Each-at}
use Rattle.curp_cmd.specs.Node.{client_node}
use Rattle.curp_cmd.specs.declared.command.Answer.{Answer}
use Rattle.curp_cmd.specs.declared.command.RequestId.{RequestId}
use Rattle.curp_cmd.specs.declared.entry.Entry.{Entry}
use Rattle.curp_cmd.specs.declared.entry.Entry.TheVariants.{Op}
use Rattle.curp_cmd.specs.declared.node.NodeId.{NodeId}
use Rattle.curp_msg.specs.Moved.{says}
use Rattle.curp_msg.specs.declared.body.Body.TheVariants as body
use Rattle.curp_model.specs.Backup.{BackupState}
use Rattle.curp_model.specs.Log.{IsDone, Stands, meaning, answer_after}
use Rattle.curp_model.specs.Named.{IsBackup, IsWitness}
use Rattle.curp_model.specs.Recovery.{Serving, replay}
use Rattle.curp_model.specs.Table.{check}
use Rattle.curp_model.specs.Witness.{HeldRequest, WitnessState, frozen_requests, holds}
use Rattle.curp_model.specs.World.{World}
use Rattle.curp_facts.specs.Entries.{EntryOk, LogOk, UpdateOk}
use Rattle.curp_facts.specs.Facts.{WasCollected, HasLog, IsAmong, IsReplayed, IsWitnessed, Lists, Logged, WasAdopted, WasSent, hi_of, lo_of}
use Rattle.curp_facts.specs.Invariant.{Invariant}
use Rattle.curp_facts.specs.Kept.{IsCollectable}
use Rattle.curp_facts.specs.Reach.{EarlySaid, GcSaid, HasMany, Reach}
use Rattle.curp_facts.specs.Said.{AcceptedSaid, GcHolds, ReplyHolds, ReplySaid}
use Rattle.curp_law_kept.specs.Hashes.{NotNew}
use Rattle.curp_law_kept.specs.Standing.{StandsHere}
use Rattle.curp_law_kept.proofs.Gives.{collected_below, early_replayed, synced_stands, frozen_apart, held_kept}
use Rattle.curp_facts.specs.Names.{Names}
use Rattle.curp_law_runs.specs.Along.{IsLast}
use Rattle.curp_law_runs.specs.Answered.{AnsweredBy, PairHas}
use Rattle.curp_law_runs.proofs.Logs.{begins, gives_within, log_ok, range_ordered, reached}
use Rattle.curp_law_runs.proofs.Requests.{held_there, one_command}
use Rattle.curp_law_runs.proofs.Words.{one_log, one_witness, said}

-- an id that may be collected isn't new
collectable_old : (lo hi : ℕ) (log : List Entry) (id : RequestId) → IsCollectable (check (meaning lo hi log).table id) → NotNew lo hi log id
collectable_old lo hi log id ok new = subst IsCollectable new ok

module _ {w : World} (names : Names w) (inv : Invariant w) where
  module _ (p : ℕ) (id : RequestId) (a : Answer) (ans : IsWitnessed w p id a) (e : EarlySaid w ans.lists.master ans.reply) where
    abbrev lo : ℕ
    lo = lo_of w p

    abbrev hi : ℕ
    hi = hi_of w p

    abbrev its : Logged
    its = record { log = e.m.log; round = e.m.round }

    part : e.lists.part ≡ p
    part = ((names.agree e.lists ans.lists e.adopted.given ans.given).by_master e.its_master).0 ∙ ans.its_part

    -- the lists of the accepts are those of the reply
    same_lists : ans.lists ≡ e.lists
    same_lists = (names.agree ans.lists e.lists ans.given e.adopted.given).by_version (sym e.its_master) (sym ans.its_version ∙ sym e.its_version)

    has : HasLog w e.lists.master its
    has = subst (λ (m : NodeId). HasLog w m its) (sym e.its_master) (record { m = Serving e.m; is = e.serves; its_log = refl })

    log : LogOk w p e.m.log
    log = subst (λ (n : ℕ). LogOk w n e.m.log) part (log_ok names inv e.lists e.adopted.given its has)

    its_id : e.request.id ≡ id
    its_id = e.its_id ∙ ans.its_id

    its_answer : answer_after lo hi (take e.index e.m.log) e.request.command ≡ a
    its_answer = subst (λ (n : ℕ). answer_after (lo_of w n) (hi_of w n) (take e.index e.m.log) e.request.command ≡ a) part (e.its_answer ∙ ans.its_answer)

    here : StandsHere lo hi e.m.log e.index id a
    here = record { entry = Op e.request e.acknowledged; stands = e.stands; tells = (its_id, its_answer) }

    updates : UpdateOk w e.request
    updates = (Each-at (EntryOk w p) e.m.log log.entries e.index (Op e.request e.acknowledged) e.stands).0

    module _ (j : Lists) (adopted : WasAdopted w j) (master : j.master ≡ e.lists.master) (last : IsLast w j) (node : NodeId) (named : IsAmong node j.backups) (b : BackupState) (is : IsBackup w node b) where
      newer : e.lists.version ≤ j.version
      newer = let agree = (names.agree e.lists j e.adopted.given adopted.given).by_master (sym master) in last e.lists e.adopted agree.0 (omega (arith, agree.1))

      prefix : IsPrefix b.log e.m.log
      prefix = begins names inv j adopted.given its (subst (λ (m : NodeId). HasLog w m its) (sym master) has) node named b is

      within : e.index < length b.log → Stands lo hi b.log id a
      within low = synced_stands lo hi e.m.log b.log e.index id a prefix low here

      -- in lists behind those of the reply, each backup has it
      later : e.lists.version < j.version → Stands lo hi b.log id a
      later above =
          let reach : Reach w j.master (ans.reply.version + 1) (e.index + 1) = subst (λ (m : NodeId). Reach w m (ans.reply.version + 1) (e.index + 1)) (sym (master ∙ e.its_master)) e.above in
          let many = reached names inv j adopted (ans.reply.version + 1) (e.index + 1) reach (omega (arith, above, e.its_version)) node named b is in
          within (omega (arith, many))

      module _ (other : NodeId) (named_too : IsAmong other j.witnesses) (x : WitnessState) (its_witness : IsWitness w other x) where
        -- a request that was collected is on each backup
        collected : (epoch : ℕ) → WasCollected w other id epoch → Stands lo hi b.log id a
        collected epoch c =
            let g : GcHolds w c.sent.place c.node other c.gc = said inv c.node other (body.Gc c.gc) c.sent in
            let home : g.lists.master ≡ j.master = (names.agree g.lists j g.adopted.given adopted.given).by_witness other g.its_witness named_too in
            let agree = (names.agree g.lists j g.adopted.given adopted.given).by_master home in
            let it : GcSaid w g.lists id = Each-at (GcSaid w g.lists) c.gc.ids g.collectable c.listed.place id c.listed.stands in
            let was : WasAdopted w g.lists = record { given = g.adopted.given; told = elim g.adopted.told [ inl one ↦ inl one | inr sent ↦ inr (record { place = sent.0; stands = sent.2 }) ] } in
            let above = last g.lists was agree.0 (omega (arith, agree.1)) in
            let reach : Reach w j.master g.lists.version it.count = subst (λ (m : NodeId). Reach w m g.lists.version it.count) home it.reach in
            let many = reached names inv j adopted g.lists.version it.count reach above node named b is in
            let same : it.l ≡ its = one_log it.l its it.its_log (subst (λ (m : NodeId). HasLog w m its) (sym (home ∙ master)) has) in
            let in_part : g.lists.part ≡ p = agree.0 ∙ ((names.agree j e.lists adopted.given e.adopted.given).by_master master).0 ∙ part in
            let old : NotNew lo hi (take it.count e.m.log) e.request.id
            = subst (NotNew lo hi (take it.count e.m.log)) (sym its_id)
            (subst (λ (l : Logged). NotNew lo hi (take it.count l.log) id) same
            (subst (λ (n : ℕ). NotNew (lo_of w n) (hi_of w n) (take it.count it.l.log) id) in_part
            (collectable_old (lo_of w g.lists.part) (hi_of w g.lists.part) (take it.count it.l.log) id it.collectable))) in
            let below = collected_below lo hi e.m.log e.index it.count e.request e.acknowledged log.is_log e.stands old in
            within (omega (arith, below, many))

        -- one that is held is replayed where the backup doesn't have it
        held : e.lists ≡ j → holds x id ≡ true → IsReplayed w p b x id a
        held same found =
            let h = held_there x id found in
            let ok = inv.witnesses other x its_witness in
            let update : UpdateOk w h.1.request = Each-at (λ (y : HeldRequest). UpdateOk w y.request) x.held ok.held h.0 h.1 h.2 in
            let kept : IsAmong h.1.request (frozen_requests x) = held_kept x h.0 h.1 h.2 in
            let same_id : h.1.request.id ≡ e.request.id = h.3 ∙ sym its_id in
            let same_command = one_command inv e.request h.1.request updates.request update.request same_id in
            let stored : e.synced ≤ length b.log = Each-at (HasMany w e.synced) j.backups (subst (λ (l : Lists). Each (HasMany w e.synced) l.backups) same e.stored) named.place node named.stands b is in
            let done : IsDone lo hi (replay lo hi b.log (frozen_requests x)) e.request.id (answer_after lo hi (take e.index e.m.log) e.request.command)
            = early_replayed lo hi e.m.log b.log e.synced e.index e.request e.acknowledged (range_ordered w p) log.is_log (gives_within inv p e.m.log log) prefix e.stands e.below stored e.apart
            (frozen_requests x) kept.place h.1.request (frozen_apart x ok.apart) kept.stands same_id same_command in
            record {
              request = h.1.request;
              its_id = h.3;
              is_held = kept;
              done = subst (λ (i : RequestId). IsDone lo hi (replay lo hi b.log (frozen_requests x)) i a) its_id
                  (subst (λ (y : Answer). IsDone lo hi (replay lo hi b.log (frozen_requests x)) e.request.id y) its_answer done);
            }

        -- in the lists of the reply, the witness has accepted
        at_these : e.lists ≡ j → PairHas w p b x id a
        at_these same =
            let lists : ans.lists ≡ j = same_lists ∙ same in
            let listed : IsAmong other ans.lists.witnesses = subst (λ (l : Lists). IsAmong other l.witnesses) (sym lists) named_too in
            let sent : WasSent w (says other (client_node id.client) (body.Accepted (record { id = id; epoch = ans.lists.epoch })))
            = Each-at (λ y. WasSent w (says y (client_node id.client) (body.Accepted (record { id = id; epoch = ans.lists.epoch })))) ans.lists.witnesses ans.accepts listed.place other listed.stands in
            let ok : AcceptedSaid w other (client_node id.client) (record { id = id; epoch = ans.lists.epoch })
            = said inv other (client_node id.client) (body.Accepted (record { id = id; epoch = ans.lists.epoch })) sent in
            elim ok.kept [
              | inl is_held ↦ inr (held same (subst (λ (y : WitnessState). holds y id ≡ true) (one_witness ok.x x ok.is its_witness) is_held))
              | inr gone ↦ inl (collected ans.lists.epoch gone)
            ]

        pair_has : PairHas w p b x id a
        pair_has = elim (cases_lt e.lists.version j.version) [
          | inl above ↦ inl (later above)
          | inr at_most ↦ at_these ((names.agree e.lists j e.adopted.given adopted.given).by_version (sym master) (omega (arith, newer, at_most)))
        ]

    -- it was answered by the sender, in the lists that the reply speaks of
    pub early : (k : AnsweredBy w p id a) × (k.lists ≡ e.lists)
    early = (
      record {
        lists = e.lists;
        adopted = e.adopted;
        its_part = part;
        its = its;
        its_log = has;
        in_log = inl (record { index = e.index; request = e.request; acknowledged = e.acknowledged; stands = e.stands; its_id = its_id; its_answer = its_answer });
        pairs = λ j adopted master last node other named named_too b x is its_witness. pair_has j adopted master last node named b is other named_too x its_witness;
      },
      refl,
    )

  pub witnessed_answered : (p : ℕ) (id : RequestId) (a : Answer) → IsWitnessed w p id a → AnsweredBy w p id a
  witnessed_answered p id a ans =
      let its : ReplySaid w ans.lists.master (client_node ans.reply.id.client) ans.reply = said inv ans.lists.master (client_node ans.reply.id.client) (body.Reply ans.reply) ans.sent in
      (early p id a ans (subst (ReplyHolds w ans.lists.master ans.reply) ans.is_early its.holds)).0
