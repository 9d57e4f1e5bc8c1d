-- Each adopted recovery began as the replay of a fenced backup and a frozen witness of the lists before it.
use Rattle.std.proofs.Common.{◌≡◌, ℕ, List, length, refl, ap, sym, ◌∙◌, subst}
use Rattle.curp_base.specs.Words.{IsPrefix}
use Rattle.curp_cmd.specs.Node.{manager_node}
use Rattle.curp_cmd.specs.declared.entry.Entry.{Entry}
use Rattle.curp_cmd.specs.declared.node.NodeId.{NodeId}
use Rattle.curp_msg.specs.declared.body.Body.TheVariants as body
use Rattle.curp_msg.specs.declared.body.Recover.{Recover}
use Rattle.curp_model.specs.Backup.{BackupState}
use Rattle.curp_model.specs.Named.{IsBackup, IsWitness}
use Rattle.curp_model.specs.Recovery.{replay}
use Rattle.curp_model.specs.Witness.{frozen_requests}
use Rattle.curp_model.specs.World.{World}
use Rattle.curp_facts.specs.Facts.{IsAmong, Lists, WasAdopted, hi_of, lo_of}
use Rattle.curp_facts.specs.Invariant.{Invariant}
use Rattle.curp_facts.specs.Kept.{AdoptionOk, AdoptionsOk}
use Rattle.curp_facts.specs.Said.{RecoveredSaid}
use Rattle.curp_facts.specs.Names.{Names, RecoverOrderOk}
use Rattle.curp_law_kept.proofs.Gives.{each_among}
use Rattle.curp_facts.specs.Predecessors.{Predecessor, Predecessors}
use Rattle.curp_law_runs.proofs.Lists.{order_first}
use Rattle.curp_law_runs.proofs.Logs.{begins, reached}
use Rattle.curp_law_runs.proofs.Prefixes.{prefix_shorter}
use Rattle.curp_law_runs.proofs.Words.{said}

module _ {w : World} (names : Names w) (inv : Invariant w) where
  module _ (l : Lists) (was : WasAdopted w l) (p : Predecessor w l)
      (ok : RecoveredSaid w l.master (record { part = l.part; epoch = l.epoch })) where
    same_order : ok.holds.order ≡ p.order
    same_order = names.one_order l.master ok.holds.order p.order ok.holds.sent p.ordered

    home : RecoverOrderOk w l.master ok.holds.order
    home = names.manager_says l.master (body.Recover ok.holds.order) ok.holds.sent

    its_part : ok.holds.order.part ≡ l.part
    its_part = ok.its_part

    abbrev replayed : List Entry
    replayed = replay (lo_of w l.part) (hi_of w l.part) ok.holds.sources.b.log (frozen_requests ok.holds.sources.x)

    prefix_is : ok.prefix ≡ replayed
    prefix_is =
        ok.is_replay
        ∙ ap (λ (lo : ℕ). replay lo ok.holds.order.hi ok.holds.sources.b.log (frozen_requests ok.holds.sources.x)) (home.its_lo ∙ ap (lo_of w) its_part)
        ∙ ap (λ (hi : ℕ). replay (lo_of w l.part) hi ok.holds.sources.b.log (frozen_requests ok.holds.sources.x)) (home.its_hi ∙ ap (hi_of w) its_part)

    on_backup : (node : NodeId) → IsAmong node l.backups → (f : BackupState) → IsBackup w node f → IsPrefix replayed f.log
    on_backup node named f is =
        let first = order_first names l was.given ok.holds.order ok.holds.sent in
        let many = reached names inv l was ok.holds.order.version (length ok.prefix) ok.reach first node named f is in
        subst (λ (es : List Entry). IsPrefix es f.log) prefix_is
        (prefix_shorter ok.prefix f.log ok.l.log ok.began (begins names inv l was.given ok.l ok.its_log node named f is) many)

    adoption : AdoptionOk w l
    adoption = record {
      before = p.before;
      was = p.was;
      its_part = p.its_part;
      earlier = p.earlier;
      node = p.order.backup;
      named = p.its_backup;
      other = p.order.witness;
      named_too = p.its_witness;
      sources = record {
        b = ok.holds.sources.b;
        its_backup = subst (λ (o : Recover). IsBackup w o.backup ok.holds.sources.b) same_order ok.holds.sources.its_backup;
        fenced = ok.holds.sources.fenced;
        x = ok.holds.sources.x;
        its_witness = subst (λ (o : Recover). IsWitness w o.witness ok.holds.sources.x) same_order ok.holds.sources.its_witness;
        frozen = ok.holds.sources.frozen;
      };
      last = λ k is part earlier. p.last k is part earlier;
      order = p.order;
      ordered = p.ordered;
      its_epoch = ap (λ (o : Recover). o.epoch) (sym same_order) ∙ ok.holds.its_epoch;
      its_node = refl;
      its_other = refl;
      its = ok.l;
      its_log = ok.its_log;
      began = subst (λ (es : List Entry). IsPrefix es ok.l.log) prefix_is ok.began;
      on_all = each_among (λ node. (f : BackupState) → IsBackup w node f → IsPrefix replayed f.log) l.backups on_backup;
    }

  -- each adopted recovery began so
  pub adoptions_ok : Predecessors w → AdoptionsOk w
  adoptions_ok chain l was late =
      let p = chain l was late in
      adoption l was p (said inv l.master manager_node (body.Recovered (record { part = l.part; epoch = l.epoch })) p.told)
