-- Reads that were answered at once have their marks, and what they saw is stored.
use Rattle.curp_model.specs.World.{World}
use Rattle.curp_facts.specs.Known.{Known}
use Rattle.curp_law_linear.specs.Ordered.{Ordered, QuickOk}
use Rattle.curp_facts.specs.Kept.{QuicksMarked, QuicksStored}
use Rattle.curp_base.proofs.Lists.{Each-from_at, prefix_back}
use Rattle.curp_cmd.specs.declared.node.NodeId.{NodeId}
use Rattle.curp_model.specs.Backup.{BackupState}
use Rattle.curp_model.specs.Named.{IsBackup}
use Rattle.curp_base.specs.Words.{At}
use Rattle.curp_facts.specs.Reach.{QuickSaid, HasMany}
use Rattle.curp_cmd.specs.Node.{client_node}
use Rattle.curp_facts.specs.Facts.{HasLog, Logged, Lists, WasAdopted, IsAmong}
use Rattle.curp_model.specs.Recovery.{Serving}
use Rattle.curp_cmd.specs.declared.entry.Entry.{Entry}
use Rattle.curp_model.specs.Log.{entry_touches}
use Rattle.curp_cmd.specs.Hash.{hash_of}
use Rattle.std.proofs.lemmas.Bool.{cases_lt}
use Rattle.curp_law_kept.proofs.Gives.{among_each, one_log}
use Rattle.curp_law_runs.proofs.Gives.{ready}
use Rattle.std.proofs.Common.{◌≡◌, ap, sym, ◌∙◌, subst, arith, true, false, ℕ, List, length, refl, inl, inr, ◌≤◌, ◌<◌}

-- each has its mark
pub quicks_kept : {w : World} → Known w → Ordered w → QuicksMarked w
quicks_kept {w} known ordered l given q sent =
    let ok : QuickOk w l.master q = ordered.quicks l.master q sent in
    let g = ok.gives in
    let home = (known.names.agree ok.lists l ok.adopted.given given).by_master ok.its_master in
    record {
      place = g.place;
      mark = g.mark;
      stands = g.stands;
      its_master = g.its_master;
      its_part = g.its_part ∙ home.0;
      its_epoch = g.its_epoch;
      its_id = g.its_id;
      is_quick = g.is_quick;
      gives = g.gives;
    }

-- What its key was touched by is on each backup of each adopted list of its master, from its version on
pub seen_kept : {w : World} → Known w → QuicksStored w
seen_kept {w} known place l given q at = record {
  event = ok.event;
  key = ok.key;
  invoked = ok.invoked;
  its = record { log = ok.m.log; round = ok.m.round };
  its_log = has;
  long = ok.long;
  low = ok.low;
  then_long = ok.then_long;
  stored = λ k e below here touched later adopted master version. Each-from_at (λ (node : NodeId). (b : BackupState) → IsBackup w node b → At b.log k e) later.backups
      (λ i node there b is. on_backup k e (synced k e below here touched) here later adopted master version node (record { place = i; stands = there }) b is);
}
  where
    ok : QuickSaid w place l.master (client_node q.id.client) q
    ok = known.inv.messages place _ at

    has : HasLog w l.master (record { log = ok.m.log; round = ok.m.round })
    has = record { m = Serving ok.m; is = ok.serves; its_log = refl }

    -- what touches it was synced
    synced : (k : ℕ) (e : Entry) → k < ok.long → At ok.m.log k e → entry_touches e (hash_of ok.key) ≡ true → k < ok.synced
    synced k e below here touched = elim (cases_lt k ok.synced) [
      | inl low ↦ low
      | inr high ↦ absurd (let bad : false ≡ true = sym (ok.apart k e (omega (arith, high)) below here) ∙ touched in cc)
    ]

    on_backup : (k : ℕ) (e : Entry) → k < ok.synced → At ok.m.log k e → (later : Lists) → WasAdopted w later → later.master ≡ l.master → q.version ≤ later.version → (node : NodeId) → IsAmong node later.backups
        → (b : BackupState) → IsBackup w node b → At b.log k e
    on_backup k e low here later adopted master version node named b is =
        let many = among_each (HasMany w ok.synced) later.backups (ok.reach later (ready known.names known.inv later adopted) master version) node named b is in
        elim (known.inv.backups later adopted.given node named b is).follows [
          | inl none ↦ absurd (omega (arith, low, many, ap (λ (es : List Entry). length es) none))
          | inr f ↦
              let one = one_log w l.master _ _ (subst (λ (z : NodeId). HasLog w z f.its) master f.its_log) has in
              prefix_back f.prefix k e (omega (arith, low, many)) (subst (λ (g : Logged). At g.log k e) (sym one) here)
        ]
