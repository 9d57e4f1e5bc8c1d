-- What the laws of quieting take of a calm world, from what every script and every served run keeps.
use Rattle.std.proofs.Common.{◌≡◌, ◌≤◌, ℕ, ◌+◌, ◌-◌, ◌^◌, Bool, true, false, cond, List, [], ◌∷◌, length, Some, refl, ap, sym, ◌∙◌, subst, arith}
use Rattle.curp_base.specs.Words.{At, Each, numbered}
use Rattle.curp_base.proofs.Lists.{Each-at}
use Rattle.curp_base.proofs.Numbered.{numbered_same}
use Rattle.curp_cmd.specs.Node.{client_node, master_node, same_node}
use Rattle.curp_cmd.specs.declared.entry.Entry.{Entry}
use Rattle.curp_cmd.specs.declared.entry.Entry.TheVariants.{Op, Take, Give, Expire}
use Rattle.curp_cmd.specs.declared.node.NodeId.{NodeId}
use Rattle.curp_cmd.specs.declared.node.NodeKind.{NodeKind}
use Rattle.curp_cmd.specs.declared.node.NodeKind.TheVariants as kind
use Rattle.curp_cmd.proofs.Nodes.{same_node-true}
use Rattle.curp_msg.specs.declared.config.PartConfig.{PartConfig}
use Rattle.curp_msg.specs.declared.message.Message.{Message}
use Rattle.curp_facts.specs.Entries.{EntryOk}
use Rattle.curp_facts.specs.Facts.{IsAdoptedNow, IsAmong, IsGiven, hi_of, lists_of_part, lo_of}
use Rattle.curp_facts.specs.Known.{Known}
use Rattle.curp_facts.specs.Names.{GivenOk, IsOf}
use Rattle.curp_facts.specs.Nodes.{AcknowledgedOk, ServingOk}
use Rattle.curp_model.specs.Backup.{BackupState}
use Rattle.curp_model.specs.Client.{ClientState, Pending}
use Rattle.curp_model.specs.Master.{Acknowledged, MasterState, from_backup}
use Rattle.curp_model.specs.Named.{IsNodeOf}
use Rattle.curp_model.specs.Ranges.{opening_range}
use Rattle.curp_model.specs.Recovery.{Serving}
use Rattle.curp_model.specs.World.{World}
use Rattle.curp_law_kept.proofs.Gives.{fits}
use Rattle.curp_law_served.proofs.Homes.{witness_there}
use Rattle.curp_law_served.specs.Calm.{Calm, IsUndelivered}
use Rattle.curp_law_served.specs.Grounds.{Grounds, IsOurs, IsOurWitness, Roomy, Welcome}
use Rattle.curp_model.specs.Log.{IsOp}
use Rattle.curp_law_served.specs.Served.{most_steps}
use Rattle.curp_law_served.proofs.Bounds.{bounded}
use Rattle.curp_law_served.proofs.Followed.{Follows}
use Rattle.curp_law_served.proofs.Owning.{owns_each}
use Rattle.curp_law_served.proofs.Welcomes.{fine}

-- the backups of an entry are installed at its epoch
abbrev pub Homes : World → PartConfig → Type 0
Homes w c = (k : NodeId) → IsAmong k c.backups → (b : BackupState) × (numbered w.backups k.number ≡ Some b) × (b.installed ≡ Some c.epoch)

-- a name is that of its number
pub named_by : (k : NodeId) (x : NodeKind) → k.kind ≡ x → k ≡ record { kind = x; number = k.number }
named_by k x e = λ i. record { kind = e i; number = k.number }

module _ {w : World} (known : Known w) (f n : ℕ) (follows : Follows f w n) where
  -- nothing but ops was ordered
  pub op_of : (part : ℕ) (e : Entry) → EntryOk w part e → IsOp e
  op_of part (Op r acknowledged) ok = tt
  op_of part (Take migration taken) ok = follows.says _ ok.0.ordered.sent
  op_of part (Give migration given) ok = follows.says _ ok.0.sent
  op_of part (Expire client) ok = follows.says _ ok.sent

  -- the only client
  pub one_client : (k : NodeId) → length w.clients ≡ 1 → IsOf w kind.Client k → k ≡ client_node 1
  one_client k one of = let number : k.number ≡ 1 = omega (arith, one, of.1) in named_by k kind.Client of.0 ∙ ap (λ (i : ℕ). record { kind = kind.Client; number = i }) number

  -- the only partition has all hashes
  pub first_range : (p : ℕ) → 1 ≤ p → p ≤ w.manager.shape.parts → (lo_of w p ≡ 0) × (hi_of w p ≡ 2 ^ 64 - 1) × (p ≡ 1)
  first_range p low high =
      let one : w.manager.shape.parts ≡ 1 = ap (λ (x : _). x.parts) follows.shape in
      let own : p ≡ 1 = omega (arith, low, high, one) in
      (ap (λ (s : ℕ). (opening_range s p).lo) one ∙ ap (λ (s : ℕ). (opening_range 1 s).lo) own, ap (λ (s : ℕ). (opening_range s p).hi) one ∙ ap (λ (s : ℕ). (opening_range 1 s).hi) own, own)

-- the entry of the only partition, as it is known
module _ {w : World} (known : Known w) (c : PartConfig) (manager : w.manager.config.parts ≡ c ∷ []) where
  pub part_is : c.part ≡ 1
  part_is = known.names.entries 0 c (ap (λ (ps : List PartConfig). numbered ps 1) manager)

  pub is_now : IsAdoptedNow w c
  is_now = ap (λ (ps : List PartConfig). numbered ps c.part) manager ∙ ap (λ (i : ℕ). numbered (c ∷ []) i) part_is

  pub was_given : IsGiven w (lists_of_part c)
  was_given = (known.names.top c is_now).was.given

  pub given_ok : GivenOk w (lists_of_part c)
  given_ok = known.names.given (lists_of_part c) was_given

  pub backup_of : (k : NodeId) → IsAmong k c.backups → IsOf w kind.Backup k
  backup_of k a = Each-at (IsOf w kind.Backup) c.backups given_ok.backups a.place k a.stands

  pub witness_of : (k : NodeId) → IsAmong k c.witnesses → IsOf w kind.Witness k
  witness_of k a = Each-at (IsOf w kind.Witness) c.witnesses given_ok.witnesses a.place k a.stands

module _ {w : World} (known : Known w) (f n : ℕ) (follows : Follows f w n) (few : n ≤ most_steps) (done : ℕ)
    (c : PartConfig) (q : ℕ) (m : MasterState) (cl : ClientState) (calm : Calm w done c q m cl) (homes : Homes w c)
    (newest : w.manager.next.epoch ≡ c.epoch + 1) where
  serving : ServingOk w (master_node q) m
  serving = known.inv.masters (master_node q) (Serving m) (record { its_kind = refl; its_state = calm.master })

  filled : 1 ≤ length m.backups
  filled =
      let same : length m.backups ≡ length c.backups = ap (λ (xs : List NodeId). length xs) calm.backups in
      let many = (given_ok known c calm.manager).many_backups in
      omega (arith, same, many, known.names.shape.f)

  roomy : Roomy m
  roomy =
      let low = follows.rounds q (Serving m) calm.master in
      record { round = omega (arith, low.0, few); captured = omega (arith, low.1, few) }

  ops : (index : ℕ) (e : Entry) → At m.log index e → IsOp e
  ops index e at = op_of known f n follows m.part e (Each-at (EntryOk w m.part) m.log serving.log.entries index e at)

  client_here : numbered w.clients 1 ≡ Some cl
  client_here = ap (λ (cs : List ClientState). numbered cs 1) calm.client

  welcome : (p : Pending) → cl.pending ≡ p ∷ [] → Welcome m p.request
  welcome p is =
      let part = (known.names.given _ serving.adopted.given).part in
      let range = first_range known f n follows m.part part.0 part.1 in
      record {
        fine = fine w q m serving ops 1 cl (known.inv.clients 1 cl client_here).numbers p 0 (ap (λ (ps : List Pending). numbered ps 1) is);
        owns = owns_each m (serving.lo ∙ range.0) (serving.hi ∙ range.1) ops p.request.command;
      }

  acknowledged_low : (acks : List Acknowledged) → Each (AcknowledgedOk w m) acks → (k : NodeId) (b : BackupState)
      → numbered w.backups k.number ≡ Some b → (from_backup acks k).length ≤ length b.log
  acknowledged_low [] all k b is = omega arith
  acknowledged_low (a ∷ rest) all k b is = by (same_node a.backup k) refl (acknowledged_low rest all.1 k b is)
    where
      by : (t : Bool) → same_node a.backup k ≡ t → (from_backup rest k).length ≤ length b.log
          → (cond t a (from_backup rest k)).length ≤ length b.log
      by false e more = more
      by true e more =
          let own : a.backup ≡ k = same_node-true a.backup k e in
          let s = all.0.stored in
          let one : s.b ≡ b = numbered_same w.backups k.number s.b b (subst (λ (x : NodeId). numbered w.backups x.number ≡ Some s.b) own s.is.its_state) is in
          let long : length s.b.log ≡ length b.log = ap (λ (x : BackupState). length x.log) one in
          omega (arith, s.low, long)

  ours : (k : NodeId) → IsAmong k c.backups → IsOurs w c m k
  ours k a =
      let home = homes k a in
      let low = follows.fences k.number home.0 home.1 in
      record {
        name = named_by k kind.Backup (backup_of known c calm.manager k a).0;
        b = home.0;
        is = home.1;
        fence = omega (arith, low, newest);
        installed = home.2;
        known = acknowledged_low m.acknowledged serving.acknowledged k home.0 home.1;
      }

  our_witness : (k : NodeId) → IsAmong k c.witnesses → IsOurWitness w k
  our_witness k a =
      let of = witness_of known c calm.manager k a in
      let there = witness_there w k of in
      record { name = named_by k kind.Witness of.0; x = there.0; is = there.1.its_state }

  told : (x : Message) → IsUndelivered w done x → x.to.kind ≡ kind.Client → x.to ≡ client_node 1
  told x due is =
      let of = (fits known x (record { place = due.0; stands = due.2 })).addressee in
      let one : length w.clients ≡ 1 = ap (λ (cs : List ClientState). length cs) calm.client in
      let own : IsNodeOf w kind.Client x.to.number = subst (λ (k : NodeKind). IsNodeOf w k x.to.number) (sym of.0 ∙ is) of.1 in
      one_client known f n follows x.to one (is, own)

  pub grounds : Grounds w done c m cl
  grounds = record {
    bounded = bounded w (master_node q) m serving filled;
    roomy = roomy;
    ops = ops;
    welcome = welcome;
    backups = ours;
    witnesses = our_witness;
    client = told;
  }
