-- What was said of a world holds of a later one.
use Rattle.std.proofs.Common.{◌≡◌, ◌<◌, ◌≤◌, inl, inr, ℕ, length, refl, sym, ◌∙◌, subst, arith, Option, Some, None}
use Rattle.curp_base.specs.Words.{At}
use Rattle.curp_base.proofs.Lists.{Each-weaker}
use Rattle.curp_cmd.specs.declared.migration.Package.{Package}
use Rattle.curp_cmd.specs.declared.node.NodeId.{NodeId}
use Rattle.curp_msg.specs.declared.body.Parcel.{Parcel}
use Rattle.curp_cmd.specs.declared.node.NodeKind.{NodeKind}
use Rattle.curp_cmd.specs.declared.node.NodeKind.TheVariants as kind
use Rattle.curp_msg.specs.declared.body.Adopted.{Adopted}
use Rattle.curp_msg.specs.declared.body.Body.{Body}
use Rattle.curp_msg.specs.declared.body.Body.TheVariants as body
use Rattle.curp_msg.specs.declared.body.Recover.{Recover}
use Rattle.curp_msg.specs.declared.config.Config.{Config}
use Rattle.curp_msg.specs.declared.config.PartConfig.{PartConfig}
use Rattle.curp_msg.specs.declared.message.Message.{Message}
use Rattle.curp_model.specs.Manager.{Migration, Doing, Recovering, Replacing, Shape, Steady, opening_config}
use Rattle.curp_model.specs.Named.{IsNodeOf}
use Rattle.curp_model.specs.Ranges.{opening_range}
use Rattle.curp_model.specs.World.{World}
use Rattle.curp_facts.specs.Facts.{AtOpening, ByRecovery, ByReplacement, IsGiven, Lists, WasAdopted, WasSent, WasTaken, lists_of_part}
use Rattle.curp_facts.specs.Names.{AdoptedOk, ConfigurationOk, DoingOk, GivenOk, IsClientNumber, HasMasterNumber, IsOf, IsAdoptedMaster, IsCarried, IsToldOf, MovingOk, NextAfter, ManagerSays, RecoverOrderOk}

-- a world after a step: the header's numbers stay, nodes and numbers grow, and what was sent was sent
pub record Later (w v : World) : Type 0 where
  pub shape : v.manager.shape ≡ w.manager.shape
  pub epoch : w.manager.next.epoch ≤ v.manager.next.epoch
  pub version : w.manager.next.version ≤ v.manager.next.version
  pub clients : length w.clients ≤ length v.clients
  pub masters : length w.masters ≤ length v.masters
  pub backups : length w.backups ≤ length v.backups
  pub witnesses : length w.witnesses ≤ length v.witnesses
  pub sent : (m : Message) → WasSent w m → WasSent v m

-- nothing happens
pub later_self : (w : World) → Later w w
later_self w = record { shape = refl; epoch = omega arith; version = omega arith; clients = omega arith; masters = omega arith; backups = omega arith; witnesses = omega arith; sent = λ m was. was }

-- and then more happens
pub later_then : {w v u : World} → Later w v → Later v u → Later w u
later_then g k = record {
  shape = k.shape ∙ g.shape;
  epoch = omega (arith, g.epoch, k.epoch);
  version = omega (arith, g.version, k.version);
  clients = omega (arith, g.clients, k.clients);
  masters = omega (arith, g.masters, k.masters);
  backups = omega (arith, g.backups, k.backups);
  witnesses = omega (arith, g.witnesses, k.witnesses);
  sent = λ m was. k.sent m (g.sent m was);
}

module _ {w v : World} (g : Later w v) where
  pub node_later : (k : NodeKind) (n : ℕ) → IsNodeOf w k n → IsNodeOf v k n
  node_later kind.Manager n is = is
  node_later kind.Client n is = (is.0, omega (arith, is.1, g.clients))
  node_later kind.Master n is = (is.0, omega (arith, is.1, g.masters))
  node_later kind.Backup n is = (is.0, omega (arith, is.1, g.backups))
  node_later kind.Witness n is = (is.0, omega (arith, is.1, g.witnesses))

  pub of_later : (k : NodeKind) (node : NodeId) → IsOf w k node → IsOf v k node
  of_later k node is = (is.0, node_later k node.number is.1)

  pub given_later : (l : Lists) → IsGiven w l → IsGiven v l
  given_later _ (AtOpening k c at) = AtOpening k c (subst (λ (s : Shape). At (opening_config s).parts k c) (sym g.shape) at)
  given_later _ (ByRecovery node o sent) = ByRecovery node o (g.sent _ sent)
  given_later _ (ByReplacement old p before sent) = ByReplacement old p (given_later old before) (g.sent _ sent)

  abbrev pub adopted_later : (l : Lists) → WasAdopted w l → WasAdopted v l
  adopted_later l was = record {
    given = given_later l was.given;
    told = elim was.told [ inl one ↦ inl one | inr sent ↦ inr (g.sent _ sent) ];
  }

  pub given_ok_later : (l : Lists) → GivenOk w l → GivenOk v l
  given_ok_later l ok = record {
    part = (ok.part.0, subst (λ (s : Shape). l.part ≤ s.parts) (sym g.shape) ok.part.1);
    epoch = (ok.epoch.0, omega (arith, ok.epoch.1, g.epoch));
    version = (ok.version.0, omega (arith, ok.version.1, g.version));
    master = of_later kind.Master l.master ok.master;
    its_number = subst (λ (s : Shape). HasMasterNumber s.parts l) (sym g.shape) ok.its_number;
    backups = Each-weaker (IsOf w kind.Backup) (IsOf v kind.Backup) (of_later kind.Backup) l.backups ok.backups;
    witnesses = Each-weaker (IsOf w kind.Witness) (IsOf v kind.Witness) (of_later kind.Witness) l.witnesses ok.witnesses;
    many_backups = subst (λ (s : Shape). length l.backups ≡ s.f) (sym g.shape) ok.many_backups;
    many_witnesses = subst (λ (s : Shape). length l.witnesses ≡ s.f) (sym g.shape) ok.many_witnesses;
    backups_differ = ok.backups_differ;
    witnesses_differ = ok.witnesses_differ;
  }

  order_later : (node : NodeId) (o : Recover) → RecoverOrderOk w node o → RecoverOrderOk v node o
  order_later node o ok = record {
    before = ok.before;
    was = adopted_later ok.before ok.was;
    its_part = ok.its_part;
    earlier = ok.earlier;
    older = ok.older;
    its_backup = ok.its_backup;
    its_witness = ok.its_witness;
    its_lo = subst (λ (s : Shape). o.lo ≡ (opening_range s.parts o.part).lo) (sym g.shape) ok.its_lo;
    its_hi = subst (λ (s : Shape). o.hi ≡ (opening_range s.parts o.part).hi) (sym g.shape) ok.its_hi;
  }

  abbrev pub adopted_ok_later : (node : NodeId) (a : Adopted) → AdoptedOk w node a → AdoptedOk v node a
  adopted_ok_later node a ok = record {
    lists = ok.lists;
    was = adopted_later ok.lists ok.was;
    its_master = ok.its_master;
    its_part = ok.its_part;
    its_epoch = ok.its_epoch;
    its_version = ok.its_version;
  }

  abbrev pub server_later : (node : NodeId) → IsAdoptedMaster w node → IsAdoptedMaster v node
  server_later node ok = record { lists = ok.lists; was = adopted_later ok.lists ok.was; its_master = ok.its_master }

  pub client_later : (n : ℕ) → IsClientNumber w n → IsClientNumber v n
  client_later n is = (is.0, subst (λ (s : Shape). n ≤ s.clients) (sym g.shape) is.1)

  pub configuration_later : (config : Config) → ConfigurationOk w config → ConfigurationOk v config
  configuration_later config ok = record {
    parts = subst (λ (s : Shape). length config.parts ≡ s.parts) (sym g.shape) ok.parts;
    numbers = ok.numbers;
    adopted = Each-weaker (λ (c : PartConfig). WasAdopted w (lists_of_part c)) (λ (c : PartConfig). WasAdopted v (lists_of_part c)) (λ (c : PartConfig). adopted_later (lists_of_part c)) config.parts ok.adopted;
  }

  abbrev pub taken_later : (t : Parcel) → WasTaken w t → WasTaken v t
  taken_later t was = record { node = was.node; told = g.sent _ was.told }

  carried_later : (number : ℕ) (o : Option Package) → IsCarried w number o → IsCarried v number o
  carried_later number None is = tt
  carried_later number (Some carried) is = taken_later _ is

  pub moving_later : (o : Option Migration) → MovingOk w o → MovingOk v o
  moving_later None is = tt
  moving_later (Some m) is = carried_later m.number m.moved is

  -- what the manager said stays so
  pub says_later : (node : NodeId) (b : Body) → ManagerSays w node b → ManagerSays v node b
  says_later node (body.Install epoch) ok = record { lists = ok.lists; given = given_later ok.lists ok.given; named = ok.named; its_epoch = ok.its_epoch }
  says_later node (body.Start s) ok =
      record { lists = ok.lists; given = given_later ok.lists ok.given; named = ok.named; its_part = ok.its_part; its_epoch = ok.its_epoch }
  says_later node (body.Recover o) ok = order_later node o ok
  says_later node (body.Prepare p) ok = record { before = ok.before; was = adopted_later ok.before ok.was; its_master = ok.its_master; older = ok.older }
  says_later node (body.Adopted a) ok = adopted_ok_later node a ok
  says_later node (body.TakeOut t) ok = server_later node ok
  says_later node (body.GiveIn t) ok = (server_later node ok.0, taken_later t ok.1)
  says_later node (body.ExpireClient client) ok = (server_later node ok.0, client_later client ok.1)
  says_later node (body.Configuration config) ok = (of_later kind.Client node ok.0, configuration_later config ok.1)
  says_later node _ ok = absurd ok

  -- what is being done was ordered
  pub doing_later : (l : Lists) (d : Doing) → DoingOk w l d → DoingOk v l d
  doing_later l Steady ok = tt
  doing_later l (Replacing k fresh version backups witnesses) ok = record { newer = ok.newer; placed = ok.placed; sent = g.sent _ ok.sent }
  doing_later l (Recovering node o) ok = record {
    its_part = ok.its_part;
    later = ok.later;
    newer = ok.newer;
    its_backup = ok.its_backup;
    its_witness = ok.its_witness;
    sent = g.sent _ ok.sent;
  }

  -- why lists are adopted stays so
  pub told_later : (l : Lists) → IsToldOf w l → IsToldOf v l
  told_later l why = elim why [
    | inl one ↦ inl one
    | inr told ↦ inr (elim told [
      | inl r ↦ inl (record { order = r.order; ordered = g.sent _ r.ordered; its_lists = r.its_lists; from = r.from; told = g.sent _ r.told })
      | inr p ↦ inr (record { prepare = p.prepare; sent = g.sent _ p.sent; its_version = p.its_version; from = p.from; told = g.sent _ p.told })
    ])
  ]

  -- a link stays, where no adopted list came between
  pub link_later : (l : Lists) → ((k : Lists) → WasAdopted v k → k.part ≡ l.part → k.version < l.version → WasAdopted w k) → NextAfter w l → NextAfter v l
  link_later l back link = record {
    before = link.before;
    was = adopted_later link.before link.was;
    its_part = link.its_part;
    older = link.older;
    last = λ k was part version. link.last k (back k was part version) part version;
    how = elim link.how [
      | inl same ↦ inl same
      | inr r ↦ inr (record { order = r.order; ordered = g.sent _ r.ordered; its_lists = r.its_lists; its_backup = r.its_backup; its_witness = r.its_witness; earlier = r.earlier })
    ];
  }
