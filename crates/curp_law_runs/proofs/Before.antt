-- Each step keeps which gives stand before the take of a migration that was told.
use Rattle.std.proofs.Common.{◌≡◌, inl, inr, ℕ, ◌<◌, List, ◌++◌, refl, ap, sym, ◌∙◌, subst, arith}
use Rattle.std.proofs.lemmas.Bool.{cases_eq}
use Rattle.curp_base.specs.Words.{At, Each}
use Rattle.curp_base.proofs.Lists.{Each-at, at_within, prefix_at, prefix_back}
use Rattle.curp_cmd.specs.Node.{manager_node}
use Rattle.curp_cmd.specs.declared.entry.Entry.TheVariants.{Take, Give}
use Rattle.curp_cmd.specs.declared.migration.Package.{Package}
use Rattle.curp_cmd.specs.declared.node.NodeId.{NodeId}
use Rattle.curp_msg.specs.Moved.{says}
use Rattle.curp_msg.specs.declared.body.Body.TheVariants as body
use Rattle.curp_msg.specs.declared.body.Parcel.{Parcel}
use Rattle.curp_msg.specs.declared.config.PartConfig.{PartConfig}
use Rattle.curp_msg.specs.declared.message.Message.{Message}
use Rattle.curp_msg.specs.declared.script.Header.{Header}
use Rattle.curp_model.specs.Manager.{ManagerState}
use Rattle.curp_model.specs.World.{World, messages, opening}
use Rattle.curp_facts.specs.Facts.{Logged, WasSent}
use Rattle.curp_facts.specs.Kept.{AdoptedLog}
use Rattle.curp_facts.specs.Said.{IsTakeOf, StoredEntry}
use Rattle.curp_law_kept.proofs.Gives.{sent_cases, Follows, log_later, sent_later}
use Rattle.curp_law_runs.proofs.Logs.{has_home}
use Rattle.curp_law_runs.proofs.Words.{one_log, said}
use Rattle.curp_facts.specs.Before.{GivesBefore, Routed}
use Rattle.curp_facts.specs.Migrated.{WasTold}
use Rattle.curp_facts.specs.Routes.{IsMoving}
use Rattle.curp_law_runs.proofs.Migrated.{given_in, one_stored, taken_out, told_stored, work_or_done}
use Rattle.curp_law_runs.proofs.Steps.{nothing_sent}
use Rattle.curp_law_runs.proofs.Stored.{place_in_prefix, prefix_from_back, one_adopted, one_take, stored_now}

-- at the opening nothing was told
pub opening_before : (h : Header) → GivesBefore (opening h)
opening_before h = record { earlier = λ number told c l index taken at k other p low there. absurd (nothing_sent h _ told.2) }

module _ {w v : World} (s : Follows w v) (a : Routed w) (b : Routed v) (before : GivesBefore w) where
  -- of what was told before, the same stands before it
  told_before : (number : ℕ) → WasTold w number → (c : PartConfig) (l : AdoptedLog v c) (index : ℕ) (taken : Package) → At l.its.log index (Take number taken)
      → (k other : ℕ) (p : Package) → k < index → At l.its.log k (Give other p) → other < number
  told_before number told c l index taken at k other p low there =
      let node : NodeId = told.0 in
      let q : Package = told.1 in
      let g : Parcel = record { migration = number; «package» = q } in
      let x : StoredEntry w node (IsTakeOf number q) = said a.inv node manager_node (body.Taken g) told.2 in
      let y : StoredEntry v node (IsTakeOf number q) = said b.inv node manager_node (body.Taken g) (sent_later s told.2) in
      let nx = stored_now a.names a.inv a.chain node (IsTakeOf number q) x in
      let ny = stored_now b.names b.inv b.chain node (IsTakeOf number q) y in
      let t = told_stored b.names b.inv b.chain b.routes node g (sent_later s told.2) in
      let one = one_stored b.names b.inv b.chain b.routes number q t c l index taken at in
      -- the sender's log, before and now
      let o = log_later s node x.l x.its_log in
      let same : y.l ≡ o.0 = one_log y.l o.0 y.its_log o.1 in
      let home = has_home b.inv node o.0 o.1 in
      let take_x : At x.l.log x.index (Take number q) = subst (At x.l.log x.index) x.is x.stands in
      let take_y : At o.0.log y.index (Take number q) = subst (λ (z : Logged). At z.log y.index (Take number q)) same (subst (At y.l.log y.index) y.is y.stands) in
      let place : x.index ≡ y.index = (one_take home.0.part o.0.log home.3 x.index y.index number q q (prefix_at o.2 x.index (Take number q) take_x) take_y).0 in
      let within_x = at_within x.l.log x.index x.entry x.stands in
      let within_y = at_within y.l.log y.index y.entry y.stands in
      -- the give stands in it
      let adopted : l.its ≡ ny.its.its = one_adopted b.names c ny.entry l ny.its (ap (λ (z : PartConfig). z.part) (sym one.0)) in
      let give_there : At ny.its.its.log k (Give other p) = subst (λ (z : Logged). At z.log k (Give other p)) adopted there in
      let give_y : At y.l.log k (Give other p) = prefix_from_back y.index y.l.log ny.its.its.log k (Give other p) within_y ny.prefix (omega (arith, low, one.1)) give_there in
      let give_o : At o.0.log k (Give other p) = subst (λ (z : Logged). At z.log k (Give other p)) same give_y in
      let give_x : At x.l.log k (Give other p) = prefix_back o.2 k (Give other p) (omega (arith, low, one.1, place, within_x)) give_o in
      before.earlier number told nx.entry nx.its x.index q (place_in_prefix x.index x.l.log nx.its.its.log x.index (Take number q) within_x nx.prefix (omega arith) take_x)
      k other p (omega (arith, low, one.1, place)) (place_in_prefix x.index x.l.log nx.its.its.log k (Give other p) within_x nx.prefix (omega (arith, low, one.1, place)) give_x)

  -- of the migration in work all gives are of earlier numbers
  moving_before : v.manager ≡ w.manager → (number : ℕ) → IsMoving w number → (c : PartConfig) (l : AdoptedLog v c) (index : ℕ) (taken : Package) → At l.its.log index (Take number taken)
      → (k other : ℕ) (p : Package) → At l.its.log k (Give other p) → other < number
  moving_before same number moving c l index taken at k other p there =
      let work = a.routes.in_work moving.0 moving.1 in
      let given = given_in b.names b.inv b.chain b.routes c l k other p there in
      let below = b.routes.gives_given c.part (record { migration = other; «package» = p }) given in
      let taken_there = taken_out b.names b.inv b.chain b.routes c l index number taken at in
      let next : v.manager.next.migration ≡ w.manager.next.migration = ap (λ (g : ManagerState). g.next.migration) same in
      elim (cases_eq number other) [
        | inl one ↦ absurd (b.routes.apart c.part c.part taken_there.order (record { migration = other; «package» = p }) taken_there.ordered given (taken_there.its_number ∙ one) refl)
        | inr differ ↦ omega (arith, below.1, next, work.last, moving.2, differ)
      ]

  -- a step of a node that isn't the manager
  pub others_keep_before : v.manager ≡ w.manager → GivesBefore v
  others_keep_before same = record {
    earlier = λ number told c l index taken at k other p low there.
        let o = taken_out b.names b.inv b.chain b.routes c l index number taken at in
        let given = b.routes.takes_given c.part o.order o.ordered in
        let next : v.manager.next.migration ≡ w.manager.next.migration = ap (λ (g : ManagerState). g.next.migration) same in
        elim (work_or_done a.names a.inv a.chain a.routes number (omega (arith, given.0, o.its_number)) (omega (arith, given.1, o.its_number, next))) [
          | inl moving ↦ moving_before same number moving c l index taken at k other p there
          | inr done ↦ told_before number (done.source, done.taken, done.told) c l index taken at k other p low there
        ];
  }

  -- a step of the manager, which tells no package
  pub manager_keeps_before : (out : List Message) → messages v ≡ messages w ++ out → Each (λ (m : Message). m.from ≡ manager_node) out → GivesBefore v
  manager_keeps_before out e all = record {
    earlier = λ number told c l index taken at k other p low there. told_before number (told_back number told) c l index taken at k other p low there;
  }
    where
      told_back : (number : ℕ) → WasTold v number → WasTold w number
      told_back number told = elim (sent_cases w v out e _ told.2) [
        | inl was ↦ (told.0, told.1, was)
        | inr among ↦
            let g : Parcel = record { migration = number; «package» = told.1 } in
            let from : told.0 ≡ manager_node = Each-at (λ (m : Message). m.from ≡ manager_node) out all among.place _ among.stands in
            absurd (b.names.manager_says manager_node (body.Taken g) (subst (λ (node : NodeId). WasSent v (says node manager_node (body.Taken g))) from told.2))
      ]
