-- The manager orders a recovery: a fresh master with fresh lists.
use Rattle.std.proofs.Common.{◌≡◌, inr, ℕ, ◌+◌, List, ◌++◌, length, refl, subst, arith, Option, Some, None, Ok}
use Rattle.curp_base.specs.Cases.{◌>>=◌}
use Rattle.std.specs.Option.{ok_or}
use Rattle.curp_base.specs.Words.{Each, numbered}
use Rattle.curp_base.proofs.Lists.{at_append_right, Each-append, Each-map}
use Rattle.curp_cmd.specs.Node.{manager_node, master_node}
use Rattle.curp_cmd.specs.declared.node.NodeId.{NodeId}
use Rattle.curp_cmd.specs.declared.node.NodeKind.TheVariants as kind
use Rattle.curp_msg.specs.Moved.{refuses, says, says_each, unless_refused}
use Rattle.curp_msg.specs.declared.body.Body.{Body}
use Rattle.curp_msg.specs.declared.body.Body.TheVariants as body
use Rattle.curp_msg.specs.declared.body.Recover.{Recover}
use Rattle.curp_msg.specs.declared.config.PartConfig.{PartConfig}
use Rattle.curp_msg.specs.declared.message.Message.{Message}
use Rattle.curp_order.specs.declared.Event.{Event}
use Rattle.curp_model.specs.Manager.{Attempted, Recovering, after_recover_numbers, install_on, part_at, recover, recover_messages, recover_order, recovers, start_on}
use Rattle.curp_model.specs.World.{World}
use Rattle.curp_facts.specs.Facts.{ByRecovery, IsAmong, IsGiven, Lists, WasSent, lists_of_order, lists_of_part}
use Rattle.curp_facts.specs.Names.{Agree, GivenOk, IsOf, Names, RecoverOrderOk}
use Rattle.curp_law_kept.proofs.Keeps.{numbered_now}
use Rattle.curp_law_kept.proofs.Later.{Later, adopted_later}
use Rattle.curp_base.proofs.Numbered.{place as place_of}
use Rattle.curp_law_kept.proofs.NumberedLists.{among_each, each_among}
use Rattle.curp_law_kept.proofs.Moves.{FreshRecovery, Recovery, Utters}
use Rattle.curp_law_kept.proofs.Named.{in_row, row_differs, row_each, row_length}
use Rattle.curp_law_kept.proofs.Orders.{NumbersRise, ordered_keeps, orders_rises}
use Rattle.curp_law_kept.proofs.Quiet.{Good, IsManagers, quietly, stays_self}
use Rattle.curp_law_kept.proofs.ManagerWorlds.{Rises, manager_moved, moved_later, moved_messages, moved_numbers, sent_now}

module _ {w : World} (n : Names w) (p : ℕ) (c : PartConfig) (here : numbered w.manager.config.parts p ≡ Some c)
    (from other : NodeId) (named : IsAmong from c.backups) (named_too : IsAmong other c.witnesses) (adopted : Option Attempted) (events : List Event) where
  abbrev node : NodeId
  node = master_node w.manager.next.master

  abbrev o : Recover
  o = recover_order w.manager c from other

  abbrev its : Lists
  its = lists_of_order node o

  abbrev after : World
  after = manager_moved w adopted events (recovers w.manager p o)

  up : NumbersRise w.manager.next (after_recover_numbers w.manager)
  up = record { epoch = omega arith; version = omega arith; master = omega arith; backup = omega arith; witness = omega arith; together = omega arith }

  rises : Rises w.manager (recovers w.manager p o).state
  rises = orders_rises w.manager p (Recovering node o) (after_recover_numbers w.manager) (recover_messages node o) up

  later : Later w after
  later = moved_later w n adopted events (recovers w.manager p o) rises

  now_given : GivenOk w (lists_of_part c)
  now_given = n.given (lists_of_part c) (n.top c (numbered_now n p c here)).was.given

  -- the fresh master isn't there before
  absent : IsOf w kind.Master node → ⊥
  absent of = omega (arith, of.1.1, n.numbers.masters)

  its_ok : GivenOk after its
  its_ok = let numbers = moved_numbers w n adopted events (recovers w.manager p o) rises in record {
    part = now_given.part;
    epoch = (omega (arith, n.numbers.above), omega arith);
    version = (omega (arith, n.numbers.version), omega arith);
    master = (refl, (omega (arith, n.numbers.masters), omega (arith, numbers.masters)));
    its_number = inr (w.manager.next.master, n.numbers.above, refl, n.numbers.epoch);
    backups = row_each kind.Backup w.manager.next.backup w.manager.shape.f (IsOf after kind.Backup) (λ i low high. (refl, (omega (arith, low, n.numbers.backups), omega (arith, high, numbers.backups))));
    witnesses = row_each kind.Witness w.manager.next.witness w.manager.shape.f (IsOf after kind.Witness) (λ i low high. (refl, (omega (arith, low, n.numbers.witnesses), omega (arith, high, numbers.witnesses))));
    many_backups = row_length kind.Backup w.manager.next.backup w.manager.shape.f;
    many_witnesses = row_length kind.Witness w.manager.next.witness w.manager.shape.f;
    backups_differ = row_differs kind.Backup w.manager.next.backup w.manager.shape.f;
    witnesses_differ = row_differs kind.Witness w.manager.next.witness w.manager.shape.f;
  }

  -- the fresh lists share nothing with others
  backup_absent : (k : Lists) → IsGiven w k → (x : NodeId) → IsAmong x k.backups → IsAmong x o.backups → ⊥
  backup_absent k given x a b =
      let r = in_row kind.Backup w.manager.next.backup w.manager.shape.f x b in
      let of : IsOf w kind.Backup x = among_each (IsOf w kind.Backup) k.backups (n.given k given).backups x a in
      omega (arith, r.from, (subst (IsOf w kind.Backup) r.is of).1.1, n.numbers.backups)

  witness_absent : (k : Lists) → IsGiven w k → (x : NodeId) → IsAmong x k.witnesses → IsAmong x o.witnesses → ⊥
  witness_absent k given x a b =
      let r = in_row kind.Witness w.manager.next.witness w.manager.shape.f x b in
      let of : IsOf w kind.Witness x = among_each (IsOf w kind.Witness) k.witnesses (n.given k given).witnesses x a in
      omega (arith, r.from, (subst (IsOf w kind.Witness) r.is of).1.1, n.numbers.witnesses)

  its_apart : (k : Lists) → IsGiven w k → Agree k its
  its_apart k given = let ok = n.given k given in record {
    by_master = λ e. absurd (absent (subst (IsOf w kind.Master) e ok.master));
    by_epoch = λ same e. absurd (omega (arith, e, ok.epoch.1));
    by_late_epoch = λ late e. absurd (omega (arith, e, ok.epoch.1));
    by_backup = λ x a b. absurd (backup_absent k given x a b);
    by_witness = λ x a b. absurd (witness_absent k given x a b);
    by_version = λ same e. absurd (omega (arith, e, ok.version.1));
    by_late_version = λ late e. absurd (omega (arith, e, ok.version.1));
  }

  fresh : FreshRecovery w after node o
  fresh = record { lists = record { ok = its_ok; apart = its_apart; version = omega arith }; absent = absent }

  sent : WasSent after (says manager_node node (body.Recover o))
  sent = sent_now w after (recover_messages node o) (moved_messages w adopted events (recovers w.manager p o)) (record { place = length (install_on o.epoch o.backups ++ start_on o.part o.epoch o.witnesses) + 0; stands = at_append_right (install_on o.epoch o.backups ++ start_on o.part o.epoch o.witnesses) _ 0 _ _ refl refl })

  given : IsGiven after its
  given = ByRecovery node o sent

  order_ok : RecoverOrderOk after node o
  order_ok = record {
    before = lists_of_part c;
    was = adopted_later later (lists_of_part c) (n.top c (numbered_now n p c here)).was;
    its_part = refl;
    earlier = now_given.epoch.1;
    older = now_given.version.1;
    its_backup = named;
    its_witness = named_too;
    its_lo = refl;
    its_hi = refl;
  }

  utters : Each (λ (m : Message). Utters w after (Recovery node o) m.to m.body) (recover_messages node o)
  utters = Each-append (λ (m : Message). Utters w after (Recovery node o) m.to m.body) (install_on o.epoch o.backups ++ start_on o.part o.epoch o.witnesses) _
      (Each-append (λ (m : Message). Utters w after (Recovery node o) m.to m.body) (install_on o.epoch o.backups) (start_on o.part o.epoch o.witnesses)
      (Each-map (λ (m : Message). Utters w after (Recovery node o) m.to m.body) (λ (to : NodeId). says manager_node to (body.Install o.epoch)) o.backups
      (each_among (λ (to : NodeId). Utters w after (Recovery node o) to (body.Install o.epoch)) o.backups (λ to a.
      record { repeats = tt; is_so = record { lists = its; given = given; named = a; its_epoch = refl } })))
      (Each-map (λ (m : Message). Utters w after (Recovery node o) m.to m.body) (λ (to : NodeId). says manager_node to (body.Start (record { part = o.part; epoch = o.epoch }))) o.witnesses
      (each_among (λ (to : NodeId). Utters w after (Recovery node o) to (body.Start (record { part = o.part; epoch = o.epoch }))) o.witnesses (λ to a.
      record { repeats = tt; is_so = record { lists = its; given = given; named = a; its_part = refl; its_epoch = refl } }))))
      (record { repeats = inr (refl, refl); is_so = order_ok }, tt)

  recovery_keeps : Names after
  recovery_keeps = ordered_keeps n p c here (Recovering node o) (after_recover_numbers w.manager) (recover_messages node o) up adopted events
      (Recovery node o) (λ k is. is) fresh utters
      (record { its_part = refl; later = now_given.epoch.1; newer = now_given.version.1; its_backup = named; its_witness = named_too; sent = sent })

-- ---- the order, or its refusal

-- the manager says the same to each
pub each_from : (nodes : List NodeId) (b : Body) → Each IsManagers (says_each manager_node nodes b)
each_from nodes b = Each-map IsManagers (λ (to : NodeId). says manager_node to b) nodes (each_among (λ (to : NodeId). IsManagers (says manager_node to b)) nodes (λ to a. refl))

recover_from : (master : ℕ) (o : Recover) → Each IsManagers (recover_messages (master_node master) o)
recover_from master o = Each-append IsManagers (install_on o.epoch o.backups ++ start_on o.part o.epoch o.witnesses) _
    (Each-append IsManagers (install_on o.epoch o.backups) (start_on o.part o.epoch o.witnesses) (each_from o.backups (body.Install o.epoch)) (each_from o.witnesses (body.Start (record { part = o.part; epoch = o.epoch })))) (refl, tt)

module _ {w : World} (n : Names w) where
  -- a refusal changes nothing
  pub refused_good : (number : ℕ) → Good w (refuses w.manager number)
  refused_good number = quietly w n (refuses w.manager number) (stays_self w.manager) n.gone n.moving tt

  by_witness : (p : ℕ) (c : PartConfig) → numbered w.manager.config.parts p ≡ Some c → (from : NodeId) → IsAmong from c.backups
      → (place : ℕ) (o : Option NodeId) → numbered c.witnesses place ≡ o
      → Good w (unless_refused w.manager (recovers w.manager p) (ok_or o 3 >>= λ (other : NodeId). Ok (recover_order w.manager c from other)))
  by_witness p c here from named place None found = refused_good 3
  by_witness p c here from named place (Some other) found =
      let at = place_of c.witnesses place other found in
      (recover_from w.manager.next.master (recover_order w.manager c from other), λ adopted events. (recovery_keeps n p c here from other named (record { place = at.0; stands = at.2 }) adopted events, later n p c here from other named (record { place = at.0; stands = at.2 }) adopted events))

  by_backup : (p : ℕ) (c : PartConfig) → numbered w.manager.config.parts p ≡ Some c → (backup witness : ℕ) (o : Option NodeId) → numbered c.backups backup ≡ o
      → Good w (unless_refused w.manager (recovers w.manager p)
      (ok_or o 2 >>= λ (from : NodeId). ok_or (numbered c.witnesses witness) 3 >>= λ (other : NodeId). Ok (recover_order w.manager c from other)))
  by_backup p c here backup witness None found = refused_good 2
  by_backup p c here backup witness (Some from) found =
      let at = place_of c.backups backup from found in
      by_witness p c here from (record { place = at.0; stands = at.2 }) witness (numbered c.witnesses witness) refl

  by_part : (p backup witness : ℕ) (o : Option PartConfig) → numbered w.manager.config.parts p ≡ o
      → Good w (unless_refused w.manager (recovers w.manager p)
      (ok_or o 1 >>= λ (c : PartConfig). ok_or (numbered c.backups backup) 2 >>= λ (from : NodeId). ok_or (numbered c.witnesses witness) 3 >>= λ (other : NodeId). Ok (recover_order w.manager c from other)))
  by_part p backup witness None found = refused_good 1
  by_part p backup witness (Some c) found = by_backup p c found backup witness (numbered c.backups backup) refl

  -- an order to recover keeps all
  pub recover_good : (p backup witness : ℕ) → Good w (recover w.manager p backup witness)
  unfolding recover
  recover_good p backup witness = by_part p backup witness (part_at w.manager p) refl
