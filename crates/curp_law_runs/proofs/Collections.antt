-- Each id of a collection may be collected, on each backup of each adopted list from that of the collection on.
use Rattle.std.proofs.Common.{ℕ, sym, ◌∙◌, subst}
use Rattle.curp_base.proofs.Lists.{Each-weaker}
use Rattle.curp_cmd.specs.declared.command.RequestId.{RequestId}
use Rattle.curp_cmd.specs.declared.node.NodeId.{NodeId}
use Rattle.curp_msg.specs.Moved.{says}
use Rattle.curp_msg.specs.declared.body.Body.TheVariants as body
use Rattle.curp_msg.specs.declared.body.Gc.{Gc}
use Rattle.curp_model.specs.World.{World}
use Rattle.curp_facts.specs.Facts.{HasLog}
use Rattle.curp_facts.specs.Invariant.{Invariant}
use Rattle.curp_facts.specs.Kept.{CollectionOk, CollectionsOk}
use Rattle.curp_facts.specs.Reach.{GcSaid}
use Rattle.curp_facts.specs.Said.{GcHolds}
use Rattle.curp_facts.specs.Names.{Names}
use Rattle.curp_law_runs.proofs.Lists.{ready}

module _ {w : World} (names : Names w) (inv : Invariant w) where
  collection_ok : (place : ℕ) (node to : NodeId) (gc : Gc) (g : GcHolds w place node to gc) (id : RequestId) → GcSaid w g.lists id → CollectionOk w place node to gc.epoch id
  collection_ok place node to gc g id it = record {
    lists = g.lists;
    its_epoch = g.its_epoch;
    its_witness = g.its_witness;
    adopted = g.adopted;
    its_master = g.its_master;
    its = it.l;
    its_log = subst (λ (n : NodeId). HasLog w n it.l) g.its_master it.its_log;
    count = it.count;
    checked = it.collectable;
    stored = λ l was master above. it.reach l (ready names inv l was) (master ∙ sym g.its_master) above;
  }

  pub collections_ok : CollectionsOk w
  collections_ok place node to gc at =
      let g : GcHolds w place node to gc = inv.messages place (says node to (body.Gc gc)) at in
      Each-weaker (GcSaid w g.lists) (CollectionOk w place node to gc.epoch) (collection_ok place node to gc g) gc.ids g.collectable
