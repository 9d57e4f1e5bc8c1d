-- What was told of a migration stands on each backup of the adopted list of the sender's partition.
use Rattle.std.proofs.Common.{◌≡◌, ℕ, ◌+◌, ◌≤◌, List, refl, sym, ◌∙◌, subst, arith}
use Rattle.curp_base.specs.Words.{At}
use Rattle.curp_base.proofs.Lists.{at_within}
use Rattle.curp_cmd.specs.declared.entry.Entry.{Entry}
use Rattle.curp_cmd.specs.declared.entry.Entry.TheVariants.{Take}
use Rattle.curp_cmd.specs.declared.migration.Package.{Package}
use Rattle.curp_cmd.specs.declared.node.NodeId.{NodeId}
use Rattle.curp_model.specs.World.{World}
use Rattle.curp_facts.specs.Facts.{FromPart, HasLog, IsServer, OnAdopted, PackageOk, TakeStands, lists_of_part}
use Rattle.curp_facts.specs.Invariant.{Invariant}
use Rattle.curp_facts.specs.Reach.{Reach}
use Rattle.curp_facts.specs.Said.{IsTakeOf, StoredEntry}
use Rattle.curp_facts.specs.Names.{Names}
use Rattle.curp_facts.specs.Predecessors.{Predecessors}
use Rattle.curp_law_runs.proofs.Along.{entry_along, holds_weaker}

-- its sender has served
pub is_server : {w : World} (from : NodeId) (Is : Entry → Type 0) → StoredEntry w from Is → IsServer w from
is_server from Is s = record {
  epoch = s.lists.epoch;
  served = record { version = s.lists.version; speaks = record { lists = s.lists; adopted = s.adopted; its_master = s.its_master; its_epoch = refl; its_version = refl } };
}

-- the package of what was taken is that of a take
pub package_ok : {w : World} (from : NodeId) (migration : ℕ) (p : Package) → StoredEntry w from (IsTakeOf migration p) → PackageOk w migration p
package_ok from migration p s = record {
  node = from;
  l = s.l;
  its_log = s.its_log;
  taken = record { place = s.index; stands = subst (At s.l.log s.index) s.is s.stands };
}

module _ {w : World} (names : Names w) (inv : Invariant w) (chain : Predecessors w) where
  -- an entry that is stored stands on each backup of the adopted list, and so does each one before it
  on_adopted : (from : NodeId) (Is : Entry → Type 0) (s : StoredEntry w from Is) (k : ℕ) (e : Entry) → k ≤ s.index → At s.l.log k e → (Has : List Entry → Type 0)
      → ((log : List Entry) → At log k e → Has log) → FromPart w from (λ p. OnAdopted w p Has)
  on_adopted from Is s k e low at Has has l given master c now part =
      let has_log : HasLog w s.lists.master s.l = subst (λ (n : NodeId). HasLog w n s.l) (sym s.its_master) s.its_log in
      let reach : Reach w s.lists.master s.lists.version (s.index + 1) = subst (λ (n : NodeId). Reach w n s.lists.version (s.index + 1)) (sym s.its_master) s.reach in
      let within = at_within s.l.log s.index s.entry s.stands in
      let top = names.top c now in
      let its_part : c.part ≡ s.lists.part = part ∙ ((names.agree l s.lists given s.adopted.given).by_master (master ∙ sym s.its_master)).0 in
      let o = entry_along names inv chain s.lists s.adopted s.l has_log (s.index + 1) (omega (arith, within)) reach k e (omega (arith, low)) at (lists_of_part c) top.was its_part (top.versions s.lists s.adopted (sym its_part)) in
      (holds_weaker (lists_of_part c) (λ log. At log k e) Has has o).on_all

  -- what was taken does
  pub taken_on_adopted : (from : NodeId) (migration : ℕ) (p : Package) → StoredEntry w from (IsTakeOf migration p) → FromPart w from (λ n. OnAdopted w n (TakeStands migration p))
  taken_on_adopted from migration p s =
      on_adopted from (IsTakeOf migration p) s s.index (Take migration p) (omega arith) (subst (At s.l.log s.index) s.is s.stands) (TakeStands migration p)
      (λ log at. record { place = s.index; stands = at })
