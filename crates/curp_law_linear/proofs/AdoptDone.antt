-- A completed op that an adoption lets go was answered early by the present master, so the witness holds it and it is replayed; and
-- nothing that goes before it touches its hashes.
use Rattle.std.proofs.Common.{◌≡◌, ◌≢◌, ◌⊎◌, inl, inr, ℕ, ◌+◌, ◌<◌, ◌≤◌, Bool, true, false, List, ◌++◌, length, take, refl, sym, ◌∙◌, subst, arith}
use Rattle.std.specs.Bool.{⊤}
use Rattle.std.specs.List.{list_any}
use Rattle.std.proofs.lemmas.Bool.{cases_eq, cases_lt}
use Rattle.curp_base.specs.Words.{At, Each, IsPrefix}
use Rattle.curp_base.proofs.Lists.{Each-at, at_append_cases, at_same, at_take, at_within, prefix_at}
use Rattle.curp_cmd.specs.Hash.{touches}
use Rattle.curp_cmd.specs.Node.{client_node}
use Rattle.curp_cmd.specs.declared.command.Answer.{Answer}
use Rattle.curp_cmd.specs.declared.command.Request.{Request}
use Rattle.curp_cmd.specs.declared.command.RequestId.{RequestId}
use Rattle.curp_cmd.specs.declared.entry.Entry.{Entry}
use Rattle.curp_cmd.specs.declared.entry.Entry.TheVariants.{Op, Take, Give, Expire}
use Rattle.curp_cmd.specs.declared.node.NodeId.{NodeId}
use Rattle.curp_msg.specs.declared.body.Body.TheVariants as body
use Rattle.curp_msg.specs.declared.config.PartConfig.{PartConfig}
use Rattle.curp_model.specs.Backup.{BackupState}
use Rattle.curp_model.specs.Log.{IsBrought, IsDone, Stands, entry_touches, meaning}
use Rattle.curp_model.specs.Manager.{Attempted}
use Rattle.curp_model.specs.Named.{IsBackup}
use Rattle.curp_model.specs.Recovery.{Serving, replay, replays}
use Rattle.curp_model.specs.Witness.{frozen_requests}
use Rattle.curp_model.specs.World.{World}
use Rattle.curp_model.proofs.Replays.{kept, ops, replay_is, op_in_ops}
use Rattle.curp_facts.specs.Entries.{UpdateOk}
use Rattle.curp_facts.specs.Facts.{Completable, HasLog, IsAmong, IsAnswered, IsWitnessed, Lists, Logged, hi_of, lists_of_part, lo_of}
use Rattle.curp_facts.specs.Kept.{AdoptedLog}
use Rattle.curp_facts.specs.Reach.{EarlySaid, HasMany, Reach, SyncedSaid, Tells}
use Rattle.curp_facts.specs.Said.{ReplyHolds, ReplySaid, StoredEntry}
use Rattle.curp_facts.specs.Known.{Known}
use Rattle.curp_law_kept.proofs.Gives.{said, each_touched}
use Rattle.curp_law_linear.specs.Line.{IsCompleted}
use Rattle.curp_law_linear.specs.Moves.{Adopt, IsReplayedAs}
use Rattle.curp_law_linear.specs.OfWorld.{part_of}
use Rattle.curp_law_linear.proofs.Lists.{from_filter}
use Rattle.curp_law_linear.specs.Ordered.{Ordered}
use Rattle.curp_law_linear.proofs.AdoptHeld.{held_apart, held_update}
use Rattle.curp_law_linear.proofs.AdoptMigrations.{adopted_at, goes_at, one_entry, stored_stays}
use Rattle.curp_law_linear.proofs.AdoptRecovery.{Recovery}
use Rattle.curp_law_linear.proofs.Clients.{answered_log}
use Rattle.curp_law_linear.proofs.ManagersMoves.{adopted_entry, entry_here, told_adopted}
use Rattle.curp_law_linear.proofs.Parts.{entry_part, part_log}
use Rattle.curp_facts.specs.Names.{Top}
use Rattle.curp_facts.specs.Predecessors.{Predecessors}
use Rattle.curp_law_runs.proofs.Gives.{completed_update, reached, completable_at, completable_stands, pairs_good, stands_along, one_command, early, one_log}
use Rattle.curp_facts.specs.Migrated.{AllStored, Migrated, OpStored}
use Rattle.curp_facts.specs.Routes.{Routes}
use Rattle.curp_law_linear.proofs.Found.{none_any}

-- an op's request
one_op : {r s : Request} {a b : ℕ} → Op r a ≡ Op s b → r ≡ s
one_op e = cc

module _ {w : World} (known : Known w) (chain : Predecessors w) (routes : Routes w) (migrated : Migrated w) (ordered : Ordered w)
    (c : PartConfig) (a : Attempted) (o : Recovery w c a) (prefix : IsPrefix o.b.log (part_of w c).log) where
  -- the adoption, as the machine makes it
  abbrev pub adopt : Adopt
  adopt = record { part = c.part; p = part_of w c; node = a.master; epoch = a.order.epoch; stays = o.b.log; goes = prefix.rest; held = frozen_requests o.x }

  abbrev lo : ℕ
  lo = lo_of w c.part

  abbrev hi : ℕ
  hi = hi_of w c.part

  module _ (k : ℕ) (r : Request) (acknowledged : ℕ) (at : At prefix.rest k (Op r acknowledged)) where
    own : (l : AdoptedLog w c) × At l.its.log (length o.b.log + k) (Op r acknowledged)
    own = adopted_at known routes migrated c a o prefix (length o.b.log + k) (Op r acknowledged) (goes_at known routes migrated c a o prefix k (Op r acknowledged) at)

    update : UpdateOk w r
    update = (adopted_entry known c own.0 (length o.b.log + k) (Op r acknowledged) own.1).0

    -- the request is an op at this place alone
    one_place : (d : PartConfig) (l : AdoptedLog w d) (i : ℕ) (s : Request) (b : ℕ) → At l.its.log i (Op s b) → s.id ≡ r.id → (c.part ≡ d.part) × (length o.b.log + k ≡ i)
    one_place d l i s b stands same =
        ordered.line.order.once c.part d.part (part_of w c) (part_of w d) (length o.b.log + k) i r s acknowledged b (entry_part known c o.now) (entry_part known d l.now)
        (goes_at known routes migrated c a o prefix k (Op r acknowledged) at) (subst (λ (es : List Entry). At es i (Op s b)) (sym (part_log known d l)) stands) (sym same)

    -- so it stands on no backups of an adopted log
    not_stored_at : (d : PartConfig) (l : AdoptedLog w d) (i : ℕ) (s : Request) (b : ℕ) → At l.its.log i (Op s b) → s.id ≡ r.id → AllStored w d (i + 1) → ⊥
    not_stored_at d l i s b stands same all =
        let place = one_place d l i s b stands same in
        let low = stored_stays known routes migrated c a o prefix d (one_entry known d c l.now o.now (sym place.0)) (i + 1) all in
        omega (arith, place.1, low)

    not_stored : (ans : Answer) → OpStored w r.id ans → ⊥
    not_stored ans t = not_stored_at t.part t.its t.done.index t.done.request t.done.acknowledged t.done.stands t.done.its_id t.stored

    -- nor was it brought
    not_brought : (d : PartConfig) (l : AdoptedLog w d) (ans : Answer) → IsBrought l.its.log r.id ans → ⊥
    not_brought d l ans b = not_stored ans (migrated.brought d l b.index b.migration b.brought r.id ans b.stands (record { place = b.place; stands = b.its_record }))

    -- and it isn't on the backup
    not_kept : (i : ℕ) (s : Request) (b : ℕ) → At o.b.log i (Op s b) → s.id ≡ r.id → ⊥
    not_kept i s b stands same =
        let there : At own.0.its.log i (Op s b) = subst (λ (es : List Entry). At es i (Op s b)) (part_log known c own.0) (prefix_at prefix i (Op s b) stands) in
        let place = one_place c own.0 i s b there same in
        omega (arith, place.1, at_within o.b.log i (Op s b) stands)

    not_on_backup : (ans : Answer) → Stands lo hi o.b.log r.id ans → ⊥
    not_on_backup ans s = elim s [
      | inl d ↦ not_kept d.index d.request d.acknowledged d.stands d.its_id
      | inr b ↦ not_brought c own.0 ans (record {
        index = b.index;
        migration = b.migration;
        brought = b.brought;
        stands = subst (λ (es : List Entry). At es b.index (Give b.migration b.brought)) (part_log known c own.0) (prefix_at prefix b.index (Give b.migration b.brought) b.stands);
        place = b.place;
        its_record = b.its_record;
      })
    ]

    -- nor in the adopted log of another partition
    not_elsewhere : (d : PartConfig) (l : AdoptedLog w d) → d.part ≢ c.part → (ans : Answer) → Stands (lo_of w d.part) (hi_of w d.part) l.its.log r.id ans → ⊥
    not_elsewhere d l other ans s = elim s [
      | inl e ↦ other (sym (one_place d l e.index e.request e.acknowledged e.stands e.its_id).0)
      | inr b ↦ not_brought d l ans b
    ]

    -- ---- how it was answered

    -- not by a synced reply
    not_synced : (part : ℕ) (ans : Answer) → IsAnswered w part r.id ans → ⊥
    not_synced part ans reply = by_said (subst (ReplyHolds w reply.lists.master reply.reply) reply.is_synced its.holds)
      where
        its : ReplySaid w reply.lists.master (client_node reply.reply.id.client) reply.reply
        its = said known reply.lists.master (client_node reply.reply.id.client) (body.Reply reply.reply) reply.sent

        by_said : SyncedSaid w reply.lists.master reply.reply → ⊥
        by_said s = by_entry s.stands.entry refl s.stands.tells
          where
            stored : StoredEntry w reply.lists.master (λ e. ⊤)
            stored = record {
              lists = s.lists;
              adopted = s.adopted;
              its_master = s.its_master;
              l = s.l;
              its_log = s.its_log;
              index = s.stands.index;
              entry = s.stands.entry;
              stands = s.stands.stands;
              is = tt;
              reach = subst (λ (v : ℕ). Reach w reply.lists.master v (s.stands.index + 1)) (sym s.its_version) s.reach;
            }

            there : (d : PartConfig) × (l : AdoptedLog w d) × (i : ℕ) × At l.its.log i s.stands.entry × AllStored w d (i + 1)
            there = told_adopted known routes chain migrated reply.lists.master (λ e. ⊤) stored

            by_entry : (e : Entry) → s.stands.entry ≡ e → Tells (lo_of w s.lists.part) (hi_of w s.lists.part) s.l.log s.stands.index reply.reply.id reply.reply.answer e → ⊥
            by_entry (Op q b) is tells = not_stored_at there.0 there.1 there.2 q b (subst (At there.1.its.log there.2) is there.3) (tells.0 ∙ reply.its_id) there.4
            by_entry (Take number taken) is tells = tells
            by_entry (Give number brought) is tells =
                let own_record : IsAmong (r.id, reply.reply.answer) brought.table.records = subst (λ (id : RequestId). IsAmong (id, reply.reply.answer) brought.table.records) reply.its_id tells in
                not_brought there.0 there.1 reply.reply.answer (record {
                  index = there.2;
                  migration = number;
                  brought = brought;
                  stands = subst (At there.1.its.log there.2) is there.3;
                  place = own_record.place;
                  its_record = own_record.stands;
                })
            by_entry (Expire client) is tells = tells

    -- nothing that goes before it touches its hashes
    abbrev Quiet : Type 0
    Quiet = (h : ℕ) → touches r.command h ≡ true → list_any (λ (e : Entry). entry_touches e h) (take k prefix.rest) ≡ false

    module _ (part : ℕ) (ans : Answer) (reply : IsWitnessed w part r.id ans) (e : EarlySaid w reply.lists.master reply.reply) where
      in_part : e.lists.part ≡ part
      in_part = ((known.names.agree e.lists reply.lists e.adopted.given reply.given).by_master e.its_master).0 ∙ reply.its_part

      -- the present master's own answer, under the present version
      present : e.lists.master ≡ c.master → Quiet
      present master = by_version (cases_lt e.lists.version c.version)
        where
          index_is : (length o.b.log + k ≡ e.index) × (e.request ≡ r)
          index_is =
              let its : Logged = record { log = e.m.log; round = e.m.round } in
              let has : HasLog w c.master its = subst (λ (node : NodeId). HasLog w node its) (sym e.its_master ∙ master) (record { m = Serving e.m; is = e.serves; its_log = refl }) in
              let stands : At own.0.its.log e.index (Op e.request e.acknowledged) = subst (λ (l : Logged). At l.log e.index (Op e.request e.acknowledged)) (one_log its own.0.its has own.0.its_log) e.stands in
              let place = one_place c own.0 e.index e.request e.acknowledged stands (e.its_id ∙ reply.its_id) in
              (place.1, one_op (at_same own.0.its.log e.index _ _ stands (subst (λ (i : ℕ). At own.0.its.log i (Op r acknowledged)) place.1 own.1)))

          top_now : Top w (lists_of_part c)
          top_now = known.names.top c o.now

          later : e.lists.version < c.version → ⊥
          later below =
              let reach : Reach w c.master (reply.reply.version + 1) (e.index + 1) = subst (λ (node : NodeId). Reach w node (reply.reply.version + 1) (e.index + 1)) (sym e.its_master ∙ master) e.above in
              let many = reached known.names known.inv (lists_of_part c) top_now.was (reply.reply.version + 1) (e.index + 1) reach (omega (arith, below, e.its_version)) a.order.backup o.ok.its_backup o.b o.its_backup in
              omega (arith, many, index_is.0)

          same_lists : c.version ≤ e.lists.version → e.lists ≡ lists_of_part c
          same_lists above =
              let same_part = ((known.names.agree e.lists (lists_of_part c) e.adopted.given top_now.was.given).by_master master).0 in
              (known.names.agree e.lists (lists_of_part c) e.adopted.given top_now.was.given).by_version master (omega (arith, above, top_now.versions e.lists e.adopted same_part))

          quiet : e.lists ≡ lists_of_part c → Quiet
          quiet same h touch = none_any (λ (x : Entry). entry_touches x h) (take k prefix.rest) touched
            where
              stored : e.synced ≤ length o.b.log
              stored = Each-at (HasMany w e.synced) c.backups (subst (λ (l : Lists). Each (HasMany w e.synced) l.backups) same e.stored) o.ok.its_backup.place a.order.backup o.ok.its_backup.stands o.b o.its_backup

              in_log : (j : ℕ) (x : Entry) → At prefix.rest j x → At e.m.log (length o.b.log + j) x
              in_log j x stands =
                  let its : Logged = record { log = e.m.log; round = e.m.round } in
                  let has : HasLog w c.master its = subst (λ (node : NodeId). HasLog w node its) (sym e.its_master ∙ master) (record { m = Serving e.m; is = e.serves; its_log = refl }) in
                  let here : At own.0.its.log (length o.b.log + j) x = subst (λ (es : List Entry). At es (length o.b.log + j) x) (part_log known c own.0) (goes_at known routes migrated c a o prefix j x stands) in
                  subst (λ (l : Logged). At l.log (length o.b.log + j) x) (sym (one_log its own.0.its has own.0.its_log)) here

              both : {b : Bool} → b ≡ true → b ≡ false → ⊥
              both y n = cc

              touched : (j : ℕ) (x : Entry) → At (take k prefix.rest) j x → entry_touches x h ≡ true → ⊥
              touched j x stands is =
                  let t = at_take k prefix.rest j x stands in
                  let apart = e.apart (length o.b.log + j) x (omega (arith, stored)) (omega (arith, t.0, index_is.0)) (in_log j x t.1) in
                  both is (each_touched (λ (y : ℕ). entry_touches x y ≡ false) e.request.command apart h (subst (λ (q : Request). touches q.command h ≡ true) (sym index_is.1) touch))

          by_version : (e.lists.version < c.version) ⊎ (c.version ≤ e.lists.version) → Quiet
          by_version (inl below) = absurd (later below)
          by_version (inr above) = quiet (same_lists above)

      -- what an older master has answered stands on the backup
      older_stands : e.lists.part ≡ c.part → e.lists.epoch < c.epoch → Stands lo hi o.b.log r.id ans
      older_stands same older =
          let top = known.names.top c o.now in
          let k = early known.names known.inv part r.id ans reply e in
          let h = stands_along known.names known.inv chain part r.id ans k.0 (lists_of_part c) top.was (sym same ∙ in_part) (subst (λ (l : Lists). l.epoch < c.epoch) (sym k.1) older) in
          subst (λ (n : ℕ). Stands (lo_of w n) (hi_of w n) o.b.log r.id ans) (sym in_part ∙ same)
          (Each-at (λ node. (b : BackupState) → IsBackup w node b → Stands (lo_of w part) (hi_of w part) b.log r.id ans) c.backups h.on_all o.ok.its_backup.place a.order.backup o.ok.its_backup.stands o.b o.its_backup)

      by_epoch : e.lists.part ≡ c.part → Quiet
      by_epoch same =
          let top = known.names.top c o.now in
          elim (cases_lt e.lists.epoch c.epoch) [
            | inl older ↦ absurd (not_on_backup ans (older_stands same older))
            | inr not_older ↦ present ((known.names.agree e.lists (lists_of_part c) e.adopted.given top.was.given).by_epoch same (omega (arith, not_older, top.epochs e.lists e.adopted same)))
          ]

      -- and what one of another partition has answered stands there
      elsewhere : e.lists.part ≢ c.part → ⊥
      elsewhere other =
          let d = entry_here known e.lists e.adopted.given in
          let same : part ≡ d.0.part = sym in_part ∙ sym d.2 in
          let can : Completable w d.0.part r.id ans = subst (λ (n : ℕ). Completable w n r.id ans) same (inr reply) in
          let l : AdoptedLog w d.0 = answered_log known chain migrated ordered d.0 d.1 r.id ans (completable_at known.names known.inv d.0.part r.id ans can) in
          not_elsewhere d.0 l (λ is. other (sym d.2 ∙ is)) ans (completable_stands known.names known.inv chain d.0 d.1 r.id ans can l.its l.its_log)

      -- so it was the present master, under the present version
      early_part : e.lists.part ≡ c.part
      early_part = elim (cases_eq e.lists.part c.part) [ inl same ↦ same | inr other ↦ absurd (elsewhere other) ]

      early_quiet : Quiet
      early_quiet = by_epoch early_part

      -- and what is replayed has it
      replayed_as : IsReplayedAs adopt r
      replayed_as = elim ((pairs_good known.names known.inv chain c o.now a.order.backup a.order.witness o.ok.its_backup o.ok.its_witness o.b o.x o.its_backup o.its_witness).found r.id ans
          (subst (λ (n : ℕ). Completable w n r.id ans) (sym in_part ∙ early_part) (inr reply))) [
            | inl stands ↦ absurd (not_on_backup ans stands)
            | inr it ↦ by_op it.done
          ]
        where
          is_kept : (j : ℕ) (q : Request) → At (kept lo hi o.b.log (frozen_requests o.x)) j q → q.id ≡ r.id → IsReplayedAs adopt r
          is_kept j q stands same =
              let h = from_filter (replays (meaning lo hi o.b.log)) (frozen_requests o.x) q (j, stands) in
              record {
                request = q;
                replayed = record { place = j; stands = stands };
                its_id = same;
                its_command = one_command known.inv r q update.request (held_update known c a o h.0.0 q h.0.1).request same;
              }

          by_op : IsDone lo hi (replay lo hi o.b.log (frozen_requests o.x)) r.id ans → IsReplayedAs adopt r
          by_op d =
              let stands : At (o.b.log ++ ops (kept lo hi o.b.log (frozen_requests o.x))) d.index (Op d.request d.acknowledged)
              = subst (λ (es : List Entry). At es d.index (Op d.request d.acknowledged)) (replay_is lo hi (frozen_requests o.x) o.b.log (held_apart known c a o)) d.stands in
              elim (at_append_cases o.b.log (ops (kept lo hi o.b.log (frozen_requests o.x))) d.index (Op d.request d.acknowledged) stands) [
                | inl old ↦ absurd (not_kept d.index d.request d.acknowledged old d.its_id)
                | inr new ↦ is_kept new.0 d.request (op_in_ops (kept lo hi o.b.log (frozen_requests o.x)) new.0 d.request d.acknowledged new.2) d.its_id
              ]

    -- (d) where it is completed, it is replayed, and nothing that goes before it touches its hashes
    pub done_replayed : IsCompleted w.history r.id → IsReplayedAs adopt r × Quiet
    done_replayed d =
        let can = completed_update known.inv update.request.place d.event r.id r.command d.answer update.request.invoked update.updates d.stands in
        elim can.1 [
          | inl reply ↦ absurd (not_synced can.0 d.answer reply)
          | inr reply ↦
              let its : ReplySaid w reply.lists.master (client_node reply.reply.id.client) reply.reply
              = said known reply.lists.master (client_node reply.reply.id.client) (body.Reply reply.reply) reply.sent in
              let e : EarlySaid w reply.lists.master reply.reply = subst (ReplyHolds w reply.lists.master reply.reply) reply.is_early its.holds in
              (replayed_as can.0 d.answer reply e, early_quiet can.0 d.answer reply e)
        ]
