-- Orders of new nodes, and adoptions: what the manager does.
use Rattle.std.proofs.Common.{◌≡◌, ◌≤◌, ◌<◌, ◌⊎◌, inl, inr, ℕ, ◌-◌, ◌==◌, Bool, true, false, List, set, refl, sym, ◌∙◌, ap, subst, arith, Option, Some, None, Ok}
use Rattle.std.specs.Prelude.{option_and_then}
use Rattle.std.specs.Option.{ok_or}
use Rattle.std.proofs.lemmas.Bool.{eqb-true}
use Rattle.curp_base.specs.Cases.{◌>>=◌, only_if, refuse_if}
use Rattle.curp_base.specs.Words.{At, Each, numbered}
use Rattle.curp_cmd.specs.Node.{backup_node, manager_node, master_node, witness_node}
use Rattle.curp_cmd.specs.declared.node.Keeper.{Keeper}
use Rattle.curp_cmd.specs.declared.node.Keeper.TheVariants as keeper
use Rattle.curp_cmd.specs.declared.node.NodeId.{NodeId}
use Rattle.curp_cmd.specs.declared.node.NodeKind.{NodeKind}
use Rattle.curp_cmd.specs.declared.node.NodeKind.TheVariants as kind
use Rattle.curp_msg.specs.Moved.{says, unless_refused}
use Rattle.curp_msg.specs.declared.body.Body.TheVariants as body
use Rattle.curp_msg.specs.declared.body.Prepare.{Prepare}
use Rattle.curp_msg.specs.declared.body.Recover.{Recover}
use Rattle.curp_msg.specs.declared.body.Recovered.{Recovered}
use Rattle.curp_msg.specs.declared.config.PartConfig.{PartConfig}
use Rattle.curp_model.specs.Manager.{Doing, NewLists, Recovering, Replacing, Steady, adopted_at, adopts, attempt_at, fresh_node, is_recovering, is_replacing, keepers_of, lists_in_work, new_backups, new_witnesses, on_prepared, on_recovered, part_at, prepared_in, recover, recover_order, recovered_in, recovered_part, recovers, replace, replaces, version_adopted, version_in_work}
use Rattle.curp_model.specs.World.{World}
use Rattle.curp_facts.specs.Facts.{ByRecovery, ByReplacement, IsAdoptedNow, IsAmong, IsGiven, Lists, PreparedOk, WasSent, lists_of_order, lists_of_part, lists_of_prepare}
use Rattle.curp_facts.specs.Reach.{IsReady}
use Rattle.curp_facts.specs.Said.{RecoveredSaid}
use Rattle.curp_law_kept.specs.ManagerEffect.{EntryKeeps, IsNewOrHome, ManagerEffect, NewNodes, Recovers, Renews}
use Rattle.curp_facts.specs.Known.{Known}
use Rattle.curp_law_kept.proofs.Known.{said}
use Rattle.curp_law_kept.proofs.ManagersSay.{again_does, entries_keep, entry_keeps, moving_keeps, recover_words, refused, replace_words, stays}
use Rattle.curp_facts.specs.Names.{Agree, IsOf, RecoveringOk, ReplacingOk}
use Rattle.curp_law_kept.proofs.Keeps.{entry_now, entry_numbered, numbered_now}
use Rattle.curp_base.proofs.Numbered.{place as place_of}
use Rattle.curp_law_kept.proofs.NumberedLists.{among_set, each_among, filter_among, first_among, there_among}
use Rattle.curp_law_kept.proofs.Named.{named, row, row_each}
use Rattle.curp_base.proofs.Lists.{at_mapped}

module _ {w : World} (known : Known w) where
  -- ---- orders with new nodes

  -- nodes of a row that begins with the next number aren't there yet
  row_new : (k : NodeKind) (pick : Lists → List NodeId) (first count : ℕ) (master : NodeId) → ((n : ℕ) → first ≤ n → IsOf w k (named k n) → ⊥)
      → Each (IsNewOrHome w k pick master) (row k first count)
  row_new k pick first count master absent = row_each k first count (IsNewOrHome w k pick master) (λ n from below. inl (absent n from))

  ordered_new : (node : NodeId) (c : PartConfig) (from other : NodeId) → NewNodes w node (recover_order w.manager c from other).backups (recover_order w.manager c from other).witnesses
  ordered_new node c from other = record {
    backups_are = row_new kind.Backup (λ (l : Lists). l.backups) w.manager.next.backup w.manager.shape.f node (λ n low of. omega (arith, low, of.1.1, known.names.numbers.backups));
    witnesses_are = row_new kind.Witness (λ (l : Lists). l.witnesses) w.manager.next.witness w.manager.shape.f node (λ n low of. omega (arith, low, of.1.1, known.names.numbers.witnesses));
  }

  recovers_does : (p : ℕ) (c : PartConfig) (from other : NodeId) → ManagerEffect w (recovers w.manager p (recover_order w.manager c from other))
  recovers_does p c from other = stays known (recovers w.manager p (recover_order w.manager c from other))
      (recover_words known (master_node w.manager.next.master) (recover_order w.manager c from other) (inr (ordered_new (master_node w.manager.next.master) c from other)))
      (entries_keep known) (moving_keeps known _) refl

  pub recover_does : (p backup witness : ℕ) → ManagerEffect w (recover w.manager p backup witness)
  unfolding recover
  recover_does p backup witness = by_part (part_at w.manager p)
    where
      by_witness : (c : PartConfig) (from : NodeId) (o : Option NodeId)
          → ManagerEffect w (unless_refused w.manager (recovers w.manager p) (ok_or o 3 >>= λ (other : NodeId). Ok (recover_order w.manager c from other)))
      by_witness c from None = refused known 3
      by_witness c from (Some other) = recovers_does p c from other

      by_backup : (c : PartConfig) (o : Option NodeId)
          → ManagerEffect w (unless_refused w.manager (recovers w.manager p)
          (ok_or o 2 >>= λ (from : NodeId). ok_or (numbered c.witnesses witness) 3 >>= λ (other : NodeId). Ok (recover_order w.manager c from other)))
      by_backup c None = refused known 2
      by_backup c (Some from) = by_witness c from (numbered c.witnesses witness)

      by_part : (o : Option PartConfig)
          → ManagerEffect w (unless_refused w.manager (recovers w.manager p)
          (ok_or o 1 >>= λ (c : PartConfig). ok_or (numbered c.backups backup) 2 >>= λ (from : NodeId). ok_or (numbered c.witnesses witness) 3 >>= λ (other : NodeId). Ok (recover_order w.manager c from other)))
      by_part None = refused known 1
      by_part (Some c) = by_backup c (numbered c.backups backup)

  -- a list of given lists of the master, and the same with a node that isn't there yet
  home_all : (k : NodeKind) (pick : Lists → List NodeId) (l : Lists) → IsGiven w l → Each (IsNewOrHome w k pick l.master) (pick l)
  home_all k pick l given = each_among (IsNewOrHome w k pick l.master) (pick l) (λ node a. inr (l, given, refl, a))

  home_set : (k : NodeKind) (pick : Lists → List NodeId) (l : Lists) → IsGiven w l → (i : ℕ) (fresh : NodeId) → (IsOf w k fresh → ⊥) → Each (IsNewOrHome w k pick l.master) (set (pick l) i fresh)
  home_set k pick l given i fresh absent = each_among (IsNewOrHome w k pick l.master) (set (pick l) i fresh) (λ node a. elim (among_set (pick l) i fresh node a) [
    | inl is ↦ inl (λ of. absent (subst (IsOf w k) is of))
    | inr was ↦ inr (l, given, refl, was)
  ])

  renewed : (c : PartConfig) → IsGiven w (lists_of_part c) → (which : Keeper) (place : ℕ)
      → NewNodes w c.master (new_backups c which place (fresh_node w.manager which)) (new_witnesses c which place (fresh_node w.manager which))
  renewed c given keeper.Backup place = record {
    backups_are = home_set kind.Backup (λ (l : Lists). l.backups) (lists_of_part c) given (place - 1) (backup_node w.manager.next.backup) (λ of. omega (arith, of.1.1, known.names.numbers.backups));
    witnesses_are = home_all kind.Witness (λ (l : Lists). l.witnesses) (lists_of_part c) given;
  }
  renewed c given keeper.Witness place = record {
    backups_are = home_all kind.Backup (λ (l : Lists). l.backups) (lists_of_part c) given;
    witnesses_are = home_set kind.Witness (λ (l : Lists). l.witnesses) (lists_of_part c) given (place - 1) (witness_node w.manager.next.witness) (λ of. omega (arith, of.1.1, known.names.numbers.witnesses));
  }

  replaces_does : (which : Keeper) (p place : ℕ) (c : PartConfig) → numbered w.manager.config.parts p ≡ Some c → ManagerEffect w (replaces w.manager p which place c)
  replaces_does which p place c here =
      let fresh : NodeId = fresh_node w.manager which in
      let given : IsGiven w (lists_of_part c) = (known.names.top c (numbered_now known.names p c here)).was.given in
      let new : Prepare = record { version = w.manager.next.version; backups = new_backups c which place fresh; witnesses = new_witnesses c which place fresh } in
      stays known (replaces w.manager p which place c) (replace_words known c which fresh new (inr (renewed c given which place))) (entries_keep known) (moving_keeps known _) refl

  pub replace_does : (which : Keeper) (p place : ℕ) → ManagerEffect w (replace w.manager which p place)
  unfolding replace
  replace_does which p place = by_part (part_at w.manager p) refl
    where
      by_doing : (c : PartConfig) → numbered w.manager.config.parts p ≡ Some c → (recovering replacing : Bool)
          → ManagerEffect w (unless_refused w.manager (replaces w.manager p which place) (refuse_if recovering 3 >>= λ _. refuse_if replacing 4 >>= λ _. Ok c))
      by_doing c here true replacing = refused known 3
      by_doing c here false true = refused known 4
      by_doing c here false false = replaces_does which p place c here

      by_place : (c : PartConfig) → numbered w.manager.config.parts p ≡ Some c → (o : Option NodeId)
          → ManagerEffect w (unless_refused w.manager (replaces w.manager p which place)
          (ok_or o 2 >>= λ _. refuse_if (is_recovering (numbered w.manager.doing p)) 3 >>= λ _. refuse_if (is_replacing (numbered w.manager.doing p)) 4 >>= λ _. Ok c))
      by_place c here None = refused known 2
      by_place c here (Some old) = by_doing c here (is_recovering (numbered w.manager.doing p)) (is_replacing (numbered w.manager.doing p))

      by_part : (o : Option PartConfig) → numbered w.manager.config.parts p ≡ o
          → ManagerEffect w (unless_refused w.manager (replaces w.manager p which place)
          (ok_or o 1 >>= λ (c : PartConfig). ok_or (numbered (keepers_of c which) place) 2 >>= λ _. refuse_if (is_recovering (numbered w.manager.doing p)) 3 >>= λ _. refuse_if (is_replacing (numbered w.manager.doing p)) 4 >>= λ _. Ok c))
      by_part None here = refused known 1
      by_part (Some c) here = by_place c here (numbered (keepers_of c which) place)

  -- ---- adoptions

  -- an entry that is ready and succeeds the present one is adopted
  adopts_does : (p : ℕ) (now new : PartConfig) → IsAdoptedNow w now → IsReady w (lists_of_part new) → new.part ≡ now.part
      → Renews (lists_of_part now) new ⊎ Recovers w (lists_of_part now) new → ManagerEffect w (adopts w.manager p new)
  adopts_does p now new here ready part how = record {
    messages = (
      record {
        from = refl;
        says_so = λ place. record { lists = lists_of_part new; ready = ready; its_master = refl; its_part = refl; its_epoch = refl; its_version = refl };
        orders = tt;
      },
      tt,
    );
    adopts = inr (new, refl, record { now = lists_of_part now; top = known.names.top now here; its_part = part; how = how });
    entries = each_among (EntryKeeps w) (set w.manager.config.parts (p - 1) new) (λ c a. elim (among_set w.manager.config.parts (p - 1) new c a) [
      | inl is ↦ subst (EntryKeeps w) (sym is) ready
      | inr was ↦ entry_keeps known c was
    ]);
    moving = moving_keeps known _;
    idle = refl;
  }

  -- what is said to be adopted is a present entry
  adopted_at_among : (r : Recovered) (c : PartConfig) → adopted_at w.manager r ≡ Some c → IsAmong c w.manager.config.parts
  adopted_at_among r c = by_entry (part_at w.manager r.part) refl
    where
      by_epoch : (b : Bool) (d : PartConfig) → numbered w.manager.config.parts r.part ≡ Some d → only_if b d ≡ Some c → IsAmong c w.manager.config.parts
      by_epoch true d at e = let k = place_of w.manager.config.parts r.part d at in record { place = k.0; stands = subst (λ (x : PartConfig). At w.manager.config.parts k.0 x) (cc e) k.2 }
      by_epoch false d at e = absurd cc

      by_entry : (o : Option PartConfig) → numbered w.manager.config.parts r.part ≡ o → option_and_then (λ (e : PartConfig). only_if (e.epoch == r.epoch) e) o ≡ Some c → IsAmong c w.manager.config.parts
      by_entry None at e = absurd cc
      by_entry (Some d) at e = by_epoch (d.epoch == r.epoch) d at e

  -- the lists of the attempt that is being made are ready, as its own master says so
  attempt_ready : (from : NodeId) (r : Recovered) → WasSent w (says from manager_node (body.Recovered r)) → (c : PartConfig) → numbered w.manager.config.parts r.part ≡ Some c
      → (node : NodeId) (o : Recover) → RecoveringOk w (lists_of_part c) node o → o.epoch ≡ r.epoch → IsReady w (lists_of_part (recovered_part c (record { master = node; order = o })))
  attempt_ready from r sent c here node o ok epoch = subst (λ (p : ℕ). IsReady w (record (lists_of_order node o) { part = p })) ok.its_part ready
    where
      its : RecoveredSaid w from r
      its = said known from manager_node (body.Recovered r) sent

      agree : Agree (lists_of_order from its.holds.order) (lists_of_order node o)
      agree = known.names.agree (lists_of_order from its.holds.order) (lists_of_order node o) (ByRecovery from its.holds.order its.holds.sent) (ByRecovery node o ok.sent)

      same_master : from ≡ node
      same_master = agree.by_late_epoch (omega (arith, its.holds.its_epoch, epoch, ok.later, (known.names.given (lists_of_part c) (known.names.top c (numbered_now known.names r.part c here)).was.given).epoch.0)) (its.holds.its_epoch ∙ sym epoch)

      same_part : r.part ≡ o.part
      same_part = sym its.its_part ∙ (agree.by_master same_master).0

      told_so : WasSent w (says node manager_node (body.Recovered (record { part = o.part; epoch = o.epoch })))
      told_so = subst (λ (x : NodeId). WasSent w (says x manager_node (body.Recovered (record { part = o.part; epoch = o.epoch })))) same_master
          (subst (λ (p : ℕ). WasSent w (says from manager_node (body.Recovered (record { part = p; epoch = o.epoch })))) same_part
          (subst (λ (e : ℕ). WasSent w (says from manager_node (body.Recovered (record { part = r.part; epoch = e })))) (sym epoch) sent))

      ready : IsReady w (lists_of_order node o)
      ready = record { given = ByRecovery node o ok.sent; told = inr (inr (record { order = o; ordered = ok.sent; its_version = refl; told = told_so })) }

  -- the attempt that is finished is the one that is being made
  attempt_does : (from : NodeId) (r : Recovered) → WasSent w (says from manager_node (body.Recovered r)) → (c : PartConfig) → numbered w.manager.config.parts r.part ≡ Some c
      → (d : Option Doing) → numbered w.manager.doing r.part ≡ d → ManagerEffect w (recovered_in w.manager r (attempt_at r.epoch d) (Some c))
  attempt_does from r sent c here (Some (Recovering node o)) its = by_epoch (o.epoch == r.epoch) refl
    where
      ok : RecoveringOk w (lists_of_part c) node o
      ok = known.names.doing c (Recovering node o) (numbered_now known.names r.part c here)
          (subst (λ (i : ℕ). numbered w.manager.doing i ≡ Some (Recovering node o)) (sym (entry_numbered known.names r.part c here)) its)

      by_epoch : (b : Bool) → (o.epoch == r.epoch) ≡ b → ManagerEffect w (recovered_in w.manager r (only_if b (record { master = node; order = o })) (Some c))
      by_epoch true e = adopts_does r.part c (recovered_part c (record { master = node; order = o })) (numbered_now known.names r.part c here)
          (attempt_ready from r sent c here node o ok (eqb-true _ _ e)) refl (inr (record { order = o; ok = ok; its_epoch = refl }))
      by_epoch false e = again_does known (adopted_at w.manager r) (adopted_at_among r)
  attempt_does from r sent c here (Some (Replacing which fresh version backups witnesses)) its = again_does known (adopted_at w.manager r) (adopted_at_among r)
  attempt_does from r sent c here (Some Steady) its = again_does known (adopted_at w.manager r) (adopted_at_among r)
  attempt_does from r sent c here None its = again_does known (adopted_at w.manager r) (adopted_at_among r)

  pub recovered_does : (from : NodeId) (r : Recovered) → WasSent w (says from manager_node (body.Recovered r)) → ManagerEffect w (on_recovered w.manager r)
  unfolding on_recovered
  recovered_does from r sent = by_entry (part_at w.manager r.part) refl
    where
      by_entry : (o : Option PartConfig) → numbered w.manager.config.parts r.part ≡ o
          → ManagerEffect w (recovered_in w.manager r (option_and_then (λ (c : PartConfig). attempt_at r.epoch (numbered w.manager.doing r.part)) o) o)
      by_entry None at = again_does known (adopted_at w.manager r) (adopted_at_among r)
      by_entry (Some c) at = attempt_does from r sent c at (numbered w.manager.doing r.part) refl

  -- new lists that were ordered are ready, as their own master says so
  new_ready : (from : NodeId) (version : ℕ) → WasSent w (says from manager_node (body.Prepared version)) → (c : PartConfig) → IsAdoptedNow w c
      → (p : Prepare) → WasSent w (says manager_node c.master (body.Prepare p)) → c.version < p.version → p.version ≡ version → IsReady w (lists_of_prepare (lists_of_part c) p)
  new_ready from version sent c now p ordered newer same =
      let its : PreparedOk w from version = said known from manager_node (body.Prepared version) sent in
      let was = (known.names.top c now).was.given in
      let given : IsGiven w (lists_of_prepare (lists_of_part c) p) = ByReplacement (lists_of_part c) p was ordered in
      let equal = (known.names.agree (lists_of_prepare (lists_of_part c) p) its.lists given its.given).by_late_version (omega (arith, newer, (known.names.given (lists_of_part c) was).version.0)) (same ∙ sym its.its_version) in
      let master : from ≡ c.master = sym its.its_master ∙ sym (ap (λ (l : Lists). l.master) equal) in
      record {
        given = given;
        told = inr (inl (subst (λ (x : NodeId). WasSent w (says x manager_node (body.Prepared p.version))) master (subst (λ (i : ℕ). WasSent w (says from manager_node (body.Prepared i))) (sym same) sent)));
      }

  -- the new lists that are prepared are those that are being given
  work_does : (from : NodeId) (version : ℕ) → WasSent w (says from manager_node (body.Prepared version)) → (x : NewLists) (c : PartConfig) → IsAmong c w.manager.config.parts
      → (d : Option Doing) → numbered w.manager.doing c.part ≡ d → lists_in_work version c d ≡ Some x
      → ManagerEffect w (adopts w.manager x.part.part (record x.part { version = x.version; backups = x.backups; witnesses = x.witnesses }))
  work_does from version sent x c a (Some (Replacing which fresh own backups witnesses)) its e = by_version (own == version) refl e
    where
      now : IsAdoptedNow w c
      now = entry_now known.names c a

      ok : ReplacingOk w (lists_of_part c) which fresh (record { version = own; backups = backups; witnesses = witnesses })
      ok = known.names.doing c (Replacing which fresh own backups witnesses) now its

      new : NewLists
      new = record { part = c; version = own; backups = backups; witnesses = witnesses }

      does : own ≡ version → ManagerEffect w (adopts w.manager c.part (record c { version = own; backups = backups; witnesses = witnesses }))
      does same = adopts_does c.part c (record c { version = own; backups = backups; witnesses = witnesses }) now
          (new_ready from version sent c now (record { version = own; backups = backups; witnesses = witnesses }) ok.sent ok.newer same) refl (inl (record { its_master = refl; its_epoch = refl }))

      by_version : (b : Bool) → (own == version) ≡ b → only_if b new ≡ Some x → ManagerEffect w (adopts w.manager x.part.part (record x.part { version = x.version; backups = x.backups; witnesses = x.witnesses }))
      by_version true same e =
          let is : new ≡ x = cc e in
          subst (λ (y : NewLists). ManagerEffect w (adopts w.manager y.part.part (record y.part { version = y.version; backups = y.backups; witnesses = y.witnesses }))) is (does (eqb-true _ _ same))
      by_version false same e = absurd cc
  work_does from version sent x c a (Some (Recovering node o)) its e = absurd cc
  work_does from version sent x c a (Some Steady) its e = absurd cc
  work_does from version sent x c a None its e = absurd cc

  pub prepared_does : (from : NodeId) (version : ℕ) → WasSent w (says from manager_node (body.Prepared version)) → ManagerEffect w (on_prepared w.manager version)
  unfolding on_prepared
  prepared_does from version sent = by_work (version_in_work w.manager version) refl
    where
      by_work : (o : Option NewLists) → version_in_work w.manager version ≡ o → ManagerEffect w (prepared_in w.manager version o)
      by_work None e = again_does known (version_adopted w.manager version) (λ c is. filter_among (λ (d : PartConfig). d.version == version) w.manager.config.parts c (first_among _ c is))
      by_work (Some x) e =
          let t = there_among _ x e in
          let m = at_mapped (λ (c : PartConfig). lists_in_work version c (numbered w.manager.doing c.part)) w.manager.config.parts t.place (Some x) t.stands in
          work_does from version sent x m.0 (record { place = t.place; stands = m.1 }) (numbered w.manager.doing m.0.part) refl m.2
