-- The manager orders new lists for the present master of a partition, with one fresh node.
use Rattle.std.proofs.Common.{◌≡◌, inl, inr, ℕ, ◌+◌, ◌-◌, Bool, true, false, List, length, refl, sym, ◌∙◌, subst, arith, Option, Some, None, Ok, set}
use Rattle.curp_base.specs.Cases.{◌>>=◌, refuse_if}
use Rattle.std.specs.Option.{ok_or}
use Rattle.curp_base.specs.Words.{At, Each, numbered}
use Rattle.curp_base.proofs.Lists.{at_append_right, at_set_same, Each-append}
use Rattle.curp_cmd.specs.Node.{backup_node, manager_node, witness_node}
use Rattle.curp_cmd.specs.declared.node.Keeper.{Keeper}
use Rattle.curp_cmd.specs.declared.node.Keeper.TheVariants as keeper
use Rattle.curp_cmd.specs.declared.node.NodeId.{NodeId}
use Rattle.curp_cmd.specs.declared.node.NodeKind.TheVariants as kind
use Rattle.curp_msg.specs.Moved.{says, unless_refused}
use Rattle.curp_msg.specs.declared.body.Body.TheVariants as body
use Rattle.curp_msg.specs.declared.body.Prepare.{Prepare}
use Rattle.curp_msg.specs.declared.config.PartConfig.{PartConfig}
use Rattle.curp_msg.specs.declared.message.Message.{Message}
use Rattle.curp_order.specs.declared.Event.{Event}
use Rattle.curp_model.specs.Manager.{Attempted, Replacing, after_replace_numbers, fresh_keeper, fresh_node, is_recovering, is_replacing, keepers_of, new_backups, new_witnesses, part_at, replace, replace_messages, replaces}
use Rattle.curp_model.specs.World.{World}
use Rattle.curp_facts.specs.Facts.{ByReplacement, IsAmong, IsGiven, Lists, WasAdopted, WasSent, lists_of_part, lists_of_prepare}
use Rattle.curp_facts.specs.Names.{Agree, GivenOk, IsOf, IsPlaced, Names, PrepareOk}
use Rattle.curp_law_kept.proofs.Keeps.{numbered_now}
use Rattle.curp_law_kept.proofs.Later.{Later, adopted_later, given_later, given_ok_later}
use Rattle.curp_base.proofs.Numbered.{place as place_of}
use Rattle.curp_law_kept.proofs.NumberedLists.{among_each}
use Rattle.curp_law_kept.proofs.Moves.{FreshReplacement, Replacement, Utters}
use Rattle.curp_law_kept.proofs.Named.{Renewed, renewed_self, renewed_set}
use Rattle.curp_law_kept.proofs.Orders.{NumbersRise, ordered_keeps, orders_rises}
use Rattle.curp_law_kept.proofs.Quiet.{Good, IsManagers}
use Rattle.curp_law_kept.proofs.RecoveryNames.{refused_good}
use Rattle.curp_law_kept.proofs.ManagerWorlds.{Rises, manager_moved, moved_later, moved_messages, moved_numbers, sent_now}

-- what a replacement takes is above
numbers_rise : (w : World) (k : Keeper) → NumbersRise w.manager.next (after_replace_numbers w.manager.next k)
numbers_rise w keeper.Backup = record { epoch = omega arith; version = omega arith; master = omega arith; backup = omega arith; witness = omega arith; together = omega arith }
numbers_rise w keeper.Witness = record { epoch = omega arith; version = omega arith; master = omega arith; backup = omega arith; witness = omega arith; together = omega arith }

version_rises : (w : World) (k : Keeper) → (after_replace_numbers w.manager.next k).version ≡ w.manager.next.version + 1
version_rises w keeper.Backup = refl
version_rises w keeper.Witness = refl

-- ---- the new lists

module _ {w v : World} (n : Names w) (c : PartConfig) (was : IsGiven w (lists_of_part c)) (g : Later w v) (p : Prepare)
    (version : p.version ≡ w.manager.next.version) (next : v.manager.next.version ≡ w.manager.next.version + 1)
    (backups : Renewed w v kind.Backup c.backups p.backups) (witnesses : Renewed w v kind.Witness c.witnesses p.witnesses) where
  abbrev new_lists : Lists
  new_lists = lists_of_prepare (lists_of_part c) p

  before : GivenOk v (lists_of_part c)
  before = given_ok_later g (lists_of_part c) (n.given (lists_of_part c) was)

  its_ok : GivenOk v new_lists
  its_ok = record {
    part = before.part;
    epoch = before.epoch;
    version = (omega (arith, version, n.numbers.version), omega (arith, version, next));
    master = before.master;
    its_number = before.its_number;
    backups = backups.each;
    witnesses = witnesses.each;
    many_backups = backups.many ∙ before.many_backups;
    many_witnesses = witnesses.many ∙ before.many_witnesses;
    backups_differ = backups.differ;
    witnesses_differ = witnesses.differ;
  }

  its_apart : (k : Lists) → IsGiven w k → Agree k new_lists
  its_apart k given = let old : Agree k (lists_of_part c) = n.agree k (lists_of_part c) given was in let ok : GivenOk w k = n.given k given in record {
    by_master = old.by_master;
    by_epoch = old.by_epoch;
    by_late_epoch = old.by_late_epoch;
    by_backup = λ x a b. elim (backups.from x b) [
      | inl there ↦ old.by_backup x a there
      | inr absent ↦ absurd (absent (among_each (IsOf w kind.Backup) k.backups ok.backups x a))
    ];
    by_witness = λ x a b. elim (witnesses.from x b) [
      | inl there ↦ old.by_witness x a there
      | inr absent ↦ absurd (absent (among_each (IsOf w kind.Witness) k.witnesses ok.witnesses x a))
    ];
    by_version = λ same e. absurd (omega (arith, e, version, ok.version.1));
    by_late_version = λ late e. absurd (omega (arith, e, version, ok.version.1));
  }

  fresh_lists : FreshReplacement w v (lists_of_part c) p
  fresh_lists = record { lists = record { ok = its_ok; apart = its_apart; version = omega (arith, version) }; was = was }

-- ---- the order

module _ {w : World} (n : Names w) (p : ℕ) (c : PartConfig) (here : numbered w.manager.config.parts p ≡ Some c)
    (which : Keeper) (place : ℕ) (old : NodeId) (named : numbered (keepers_of c which) place ≡ Some old) (adopted : Option Attempted) (events : List Event) where
  abbrev prepare : Keeper → Prepare
  prepare k = record { version = w.manager.next.version; backups = new_backups c k place (fresh_node w.manager k); witnesses = new_witnesses c k place (fresh_node w.manager k) }

  abbrev after : Keeper → World
  after k = manager_moved w adopted events (replaces w.manager p k place c)

  abbrev out : Keeper → List Message
  out k = replace_messages c k (fresh_node w.manager k) w.manager.next.version (prepare k).backups (prepare k).witnesses

  rises : (k : Keeper) → Rises w.manager (replaces w.manager p k place c).state
  rises k = orders_rises w.manager p (Replacing k (fresh_node w.manager k) w.manager.next.version (prepare k).backups (prepare k).witnesses) (after_replace_numbers w.manager.next k) (out k) (numbers_rise w k)

  later : (k : Keeper) → Later w (after k)
  later k = moved_later w n adopted events (replaces w.manager p k place c) (rises k)

  was : WasAdopted w (lists_of_part c)
  was = (n.top c (numbered_now n p c here)).was

  given_now : GivenOk w (lists_of_part c)
  given_now = n.given (lists_of_part c) was.given

  backups_renewed : (k : Keeper) → Renewed w (after k) kind.Backup c.backups (prepare k).backups
  backups_renewed keeper.Backup = renewed_set (later keeper.Backup) kind.Backup c.backups (place - 1) (backup_node w.manager.next.backup) given_now.backups given_now.backups_differ
      (λ of. omega (arith, of.1.1, n.numbers.backups))
      (refl, (omega (arith, n.numbers.backups), omega (arith, (moved_numbers w n adopted events (replaces w.manager p keeper.Backup place c) (rises keeper.Backup)).backups)))
  backups_renewed keeper.Witness = renewed_self (later keeper.Witness) kind.Backup c.backups given_now.backups given_now.backups_differ

  witnesses_renewed : (k : Keeper) → Renewed w (after k) kind.Witness c.witnesses (prepare k).witnesses
  witnesses_renewed keeper.Backup = renewed_self (later keeper.Backup) kind.Witness c.witnesses given_now.witnesses given_now.witnesses_differ
  witnesses_renewed keeper.Witness = renewed_set (later keeper.Witness) kind.Witness c.witnesses (place - 1) (witness_node w.manager.next.witness) given_now.witnesses given_now.witnesses_differ
      (λ of. omega (arith, of.1.1, n.numbers.witnesses))
      (refl, (omega (arith, n.numbers.witnesses), omega (arith, (moved_numbers w n adopted events (replaces w.manager p keeper.Witness place c) (rises keeper.Witness)).witnesses)))

  -- the fresh node stands at the place
  stands_in : (xs : List NodeId) (x : NodeId) → numbered xs place ≡ Some old → IsAmong x (set xs (place - 1) x)
  stands_in xs x its =
      let at = place_of xs place old its in
      let same : place - 1 ≡ at.0 = omega (arith, at.1) in
      record { place = place - 1; stands = subst (λ (i : ℕ). At (set xs i x) i x) (sym same) (at_set_same xs at.0 old x at.2) }

  placed : (k : Keeper) → numbered (keepers_of c k) place ≡ Some old → IsPlaced k (fresh_node w.manager k) (prepare k)
  placed keeper.Backup its = stands_in c.backups (backup_node w.manager.next.backup) its
  placed keeper.Witness its = stands_in c.witnesses (witness_node w.manager.next.witness) its

  sent : (k : Keeper) → WasSent (after k) (says manager_node c.master (body.Prepare (prepare k)))
  sent k = sent_now w (after k) (out k) (moved_messages w adopted events (replaces w.manager p k place c))
      (record { place = length (fresh_keeper c k (fresh_node w.manager k)) + 0; stands = at_append_right (fresh_keeper c k (fresh_node w.manager k)) _ 0 _ _ refl refl })

  given : (k : Keeper) → IsGiven (after k) (lists_of_prepare (lists_of_part c) (prepare k))
  given k = ByReplacement (lists_of_part c) (prepare k) (given_later (later k) (lists_of_part c) was.given) (sent k)

  prepare_ok : (k : Keeper) → PrepareOk (after k) c.master (prepare k)
  prepare_ok k = record { before = lists_of_part c; was = adopted_later (later k) (lists_of_part c) was; its_master = refl; older = given_now.version.1 }

  keeper_utters : (k : Keeper) → IsPlaced k (fresh_node w.manager k) (prepare k) → Each (λ (m : Message). Utters w (after k) (Replacement (lists_of_part c) (prepare k)) m.to m.body) (fresh_keeper c k (fresh_node w.manager k))
  keeper_utters keeper.Backup its = (record { repeats = tt; is_so = record { lists = lists_of_prepare (lists_of_part c) (prepare keeper.Backup); given = given keeper.Backup; named = its; its_epoch = refl } }, tt)
  keeper_utters keeper.Witness its = (record { repeats = tt; is_so = record { lists = lists_of_prepare (lists_of_part c) (prepare keeper.Witness); given = given keeper.Witness; named = its; its_part = refl; its_epoch = refl } }, tt)

  replacement_keeps : Names (after which)
  replacement_keeps =
      let its : IsPlaced which (fresh_node w.manager which) (prepare which) = placed which named in
      ordered_keeps n p c here (Replacing which (fresh_node w.manager which) w.manager.next.version (prepare which).backups (prepare which).witnesses)
      (after_replace_numbers w.manager.next which) (out which) (numbers_rise w which) adopted events
      (Replacement (lists_of_part c) (prepare which)) (λ k is. is)
      (fresh_lists n c was.given (later which) (prepare which) refl (version_rises w which) (backups_renewed which) (witnesses_renewed which))
      (Each-append (λ (m : Message). Utters w (after which) (Replacement (lists_of_part c) (prepare which)) m.to m.body) (fresh_keeper c which (fresh_node w.manager which)) _
      (keeper_utters which its) (record { repeats = inr (refl, refl); is_so = prepare_ok which }, tt))
      (record { newer = given_now.version.1; placed = its; sent = sent which })

-- ---- the order, or its refusal

replace_from : (c : PartConfig) (k : Keeper) (fresh : NodeId) (p : Prepare) → Each IsManagers (replace_messages c k fresh p.version p.backups p.witnesses)
replace_from c keeper.Backup fresh p = (refl, (refl, tt))
replace_from c keeper.Witness fresh p = (refl, (refl, tt))

module _ {w : World} (n : Names w) where
  by_doing : (p : ℕ) (k : Keeper) (place : ℕ) (c : PartConfig) → numbered w.manager.config.parts p ≡ Some c → (old : NodeId) → numbered (keepers_of c k) place ≡ Some old
      → (recovering replacing : Bool)
      → Good w (unless_refused w.manager (replaces w.manager p k place) (refuse_if recovering 3 >>= λ _. refuse_if replacing 4 >>= λ _. Ok c))
  by_doing p k place c here old found true replacing = refused_good n 3
  by_doing p k place c here old found false true = refused_good n 4
  by_doing p k place c here old found false false = (replace_from c k (fresh_node w.manager k) (record { version = w.manager.next.version; backups = new_backups c k place (fresh_node w.manager k); witnesses = new_witnesses c k place (fresh_node w.manager k) }), λ adopted events. (replacement_keeps n p c here k place old found adopted events, later n p c here k place old found adopted events k))

  by_place : (p : ℕ) (k : Keeper) (place : ℕ) (c : PartConfig) → numbered w.manager.config.parts p ≡ Some c → (o : Option NodeId) → numbered (keepers_of c k) place ≡ o
      → Good w (unless_refused w.manager (replaces w.manager p k place)
      (ok_or o 2 >>= λ _. refuse_if (is_recovering (numbered w.manager.doing p)) 3 >>= λ _. refuse_if (is_replacing (numbered w.manager.doing p)) 4 >>= λ _. Ok c))
  by_place p k place c here None found = refused_good n 2
  by_place p k place c here (Some old) found = by_doing p k place c here old found (is_recovering (numbered w.manager.doing p)) (is_replacing (numbered w.manager.doing p))

  by_part : (p : ℕ) (k : Keeper) (place : ℕ) (o : Option PartConfig) → numbered w.manager.config.parts p ≡ o
      → Good w (unless_refused w.manager (replaces w.manager p k place)
      (ok_or o 1 >>= λ (c : PartConfig). ok_or (numbered (keepers_of c k) place) 2 >>= λ _. refuse_if (is_recovering (numbered w.manager.doing p)) 3 >>= λ _. refuse_if (is_replacing (numbered w.manager.doing p)) 4 >>= λ _. Ok c))
  by_part p k place None found = refused_good n 1
  by_part p k place (Some c) found = by_place p k place c found (numbered (keepers_of c k) place) refl

  -- an order to replace keeps all
  pub replace_good : (k : Keeper) (p place : ℕ) → Good w (replace w.manager k p place)
  unfolding replace
  replace_good k p place = by_part p k place (part_at w.manager p) refl
