-- What the manager says of its present entries, and of what it is doing, may be said at any time.
use Rattle.std.proofs.Common.{◌≡◌, ◌==◌, inl, ℕ, suc, List, [], ◌∷◌, ◌++◌, map, flat_map, refl, subst, Option, Some, None}
use Rattle.std.proofs.lemmas.Bool.{cond_both}
use Rattle.curp_base.specs.Words.{Each, numbered}
use Rattle.curp_base.proofs.Lists.{Each-append, Each-map}
use Rattle.curp_cmd.specs.Node.{manager_node}
use Rattle.curp_cmd.specs.declared.migration.Package.{Package}
use Rattle.curp_cmd.specs.declared.node.Keeper.{Keeper}
use Rattle.curp_cmd.specs.declared.node.Keeper.TheVariants as keeper
use Rattle.curp_cmd.specs.declared.node.NodeId.{NodeId}
use Rattle.curp_msg.specs.Moved.{says}
use Rattle.curp_msg.specs.declared.body.Body.TheVariants as body
use Rattle.curp_msg.specs.declared.body.Prepare.{Prepare}
use Rattle.curp_msg.specs.declared.body.Recover.{Recover}
use Rattle.curp_msg.specs.declared.config.PartConfig.{PartConfig}
use Rattle.curp_msg.specs.declared.message.Message.{Message}
use Rattle.curp_model.specs.Manager.{Doing, Migration, Recovering, Replacing, Steady, adopted_message, expire_messages, fresh_keeper, give_message, install_on, nudge_give, nudge_moving, nudge_part, recover_messages, replace_messages, start_on, take_message}
use Rattle.curp_model.specs.World.{World}
use Rattle.curp_facts.specs.Facts.{ByRecovery, ByReplacement, IsAmong, IsGiven, Lists, WasAdopted, WasSent, lists_of_order, lists_of_part, lists_of_prepare}
use Rattle.curp_facts.specs.Names.{IsCarried, MovingOk, AdoptedOk, ConfigurationOk, IsClientNumber, IsPlaced, IsAdoptedMaster, Names, RecoveringOk, ReplacingOk}
use Rattle.curp_law_kept.proofs.Keeps.{entry_now}
use Rattle.curp_law_kept.proofs.NumberedLists.{each_among, among_each}
use Rattle.curp_law_kept.proofs.Quiet.{Again, AllAgain}

pub each_flat : {A B : Type 0} (P : B → Type 0) (f : A → List B) (xs : List A) → ((x : A) → IsAmong x xs → Each P (f x)) → Each P (flat_map f xs)
each_flat P f [] h = tt
each_flat P f (x ∷ xs) h = Each-append P (f x) (flat_map f xs) (h x (record { place = 0; stands = refl })) (each_flat P f xs (λ y a. h y (record { place = suc a.place; stands = a.stands })))

module _ {w : World} (n : Names w) where
  adopted_entry : (c : PartConfig) → IsAmong c w.manager.config.parts → WasAdopted w (lists_of_part c)
  adopted_entry c a = (n.top c (entry_now n c a)).was

  -- the master of a present entry
  pub serves_now : (c : PartConfig) → IsAmong c w.manager.config.parts → IsAdoptedMaster w c.master
  serves_now c a = record { lists = lists_of_part c; was = adopted_entry c a; its_master = refl }

  adopted_now : (c : PartConfig) → IsAmong c w.manager.config.parts → AdoptedOk w c.master (record { part = c.part; epoch = c.epoch; version = c.version })
  adopted_now c a = record { lists = lists_of_part c; was = adopted_entry c a; its_master = refl; its_part = refl; its_epoch = refl; its_version = refl }

  -- a present entry is told again to be adopted
  pub adopted_again : (c : PartConfig) → IsAmong c w.manager.config.parts → AllAgain w (adopted_message c ∷ [])
  adopted_again c a = (record { from = refl; repeats = inl (adopted_now c a); is_so = adopted_now c a }, tt)

  -- backups of given lists are installed
  install_again : (l : Lists) → IsGiven w l → (nodes : List NodeId) → ((node : NodeId) → IsAmong node nodes → IsAmong node l.backups) → AllAgain w (install_on l.epoch nodes)
  install_again l given nodes named = Each-map (Again w) (λ (to : NodeId). says manager_node to (body.Install l.epoch)) nodes
      (each_among (λ (node : NodeId). Again w (says manager_node node (body.Install l.epoch))) nodes (λ node a.
      record { from = refl; repeats = tt; is_so = record { lists = l; given = given; named = named node a; its_epoch = refl } }))

  -- witnesses of given lists are started
  start_again : (l : Lists) → IsGiven w l → (nodes : List NodeId) → ((node : NodeId) → IsAmong node nodes → IsAmong node l.witnesses) → AllAgain w (start_on l.part l.epoch nodes)
  start_again l given nodes named = Each-map (Again w) (λ (to : NodeId). says manager_node to (body.Start (record { part = l.part; epoch = l.epoch }))) nodes
      (each_among (λ (node : NodeId). Again w (says manager_node node (body.Start (record { part = l.part; epoch = l.epoch })))) nodes (λ node a.
      record { from = refl; repeats = tt; is_so = record { lists = l; given = given; named = named node a; its_part = refl; its_epoch = refl } }))

  -- an order that was sent, with what goes with it
  pub recovery_again : (node : NodeId) (o : Recover) → WasSent w (says manager_node node (body.Recover o)) → AllAgain w (recover_messages node o)
  recovery_again node o sent =
      let l : Lists = lists_of_order node o in
      let given : IsGiven w l = ByRecovery node o sent in
      Each-append (Again w) (install_on o.epoch o.backups ++ start_on o.part o.epoch o.witnesses) _
      (Each-append (Again w) (install_on o.epoch o.backups) (start_on o.part o.epoch o.witnesses)
      (install_again l given o.backups (λ x a. a)) (start_again l given o.witnesses (λ x a. a)))
      (record { from = refl; repeats = inl sent; is_so = n.manager_says node (body.Recover o) sent }, tt)

  one_of : (x y : NodeId) (xs : List NodeId) → IsAmong x xs → IsAmong y (x ∷ []) → IsAmong y xs
  one_of x y xs a b = subst (λ (z : NodeId). IsAmong z xs) (among_each (λ (z : NodeId). x ≡ z) (x ∷ []) (refl, tt) y b) a

  -- the fresh node of new lists that were given
  fresh_again : (c : PartConfig) (kind : Keeper) (fresh : NodeId) (p : Prepare) → IsGiven w (lists_of_prepare (lists_of_part c) p) → IsPlaced kind fresh p → AllAgain w (fresh_keeper c kind fresh)
  fresh_again c keeper.Backup fresh p given placed = install_again (lists_of_prepare (lists_of_part c) p) given (fresh ∷ []) (λ y b. one_of fresh y p.backups placed b)
  fresh_again c keeper.Witness fresh p given placed = start_again (lists_of_prepare (lists_of_part c) p) given (fresh ∷ []) (λ y b. one_of fresh y p.witnesses placed b)

  -- new lists that were sent, with what goes with them
  pub replacement_again : (c : PartConfig) (kind : Keeper) (fresh : NodeId) (p : Prepare) → IsGiven w (lists_of_part c) → IsPlaced kind fresh p
      → WasSent w (says manager_node c.master (body.Prepare p)) → AllAgain w (replace_messages c kind fresh p.version p.backups p.witnesses)
  replacement_again c kind fresh p given placed sent =
      Each-append (Again w) (fresh_keeper c kind fresh) _
      (fresh_again c kind fresh p (ByReplacement (lists_of_part c) p given sent) placed)
      (record { from = refl; repeats = inl sent; is_so = n.manager_says c.master (body.Prepare p) sent }, tt)

  -- ---- nudge

  steady_again : (c : PartConfig) → IsAmong c w.manager.config.parts → AllAgain w (start_on c.part c.epoch c.witnesses ++ adopted_message c ∷ [])
  steady_again c a = Each-append (Again w) (start_on c.part c.epoch c.witnesses) _
      (start_again (lists_of_part c) (adopted_entry c a).given c.witnesses (λ x b. b)) (adopted_again c a)

  part_again : (c : PartConfig) (d : Option Doing) → IsAmong c w.manager.config.parts → numbered w.manager.doing c.part ≡ d → AllAgain w (nudge_part c d)
  part_again c (Some (Replacing kind fresh version backups witnesses)) a its =
      let ok : ReplacingOk w (lists_of_part c) kind fresh (record { version = version; backups = backups; witnesses = witnesses }) = n.doing c _ (entry_now n c a) its in
      replacement_again c kind fresh (record { version = version; backups = backups; witnesses = witnesses }) (adopted_entry c a).given ok.placed ok.sent
  part_again c (Some (Recovering node o)) a its =
      let ok : RecoveringOk w (lists_of_part c) node o = n.doing c _ (entry_now n c a) its in
      recovery_again node o ok.sent
  part_again c (Some Steady) a its = steady_again c a
  part_again c None a its = steady_again c a

  give_again : (m : Migration) (o : Option Package) → IsCarried w m.number o → AllAgain w (nudge_give w.manager m o)
  give_again m None is = each_flat (Again w) _ w.manager.config.parts (λ c a.
      cond_both (c.part == m.source) (take_message c m.number m.range ∷ []) [] (AllAgain w) (λ y. (record { from = refl; repeats = tt; is_so = serves_now c a }, tt)) (λ y. tt))
  give_again m (Some carried) is = each_flat (Again w) _ w.manager.config.parts (λ c a.
      cond_both (c.part == m.target) (give_message c m.number carried ∷ []) [] (AllAgain w) (λ y. (record { from = refl; repeats = tt; is_so = (serves_now c a, is) }, tt)) (λ y. tt))

  moving_again : (o : Option Migration) → MovingOk w o → AllAgain w (nudge_moving w.manager o)
  moving_again None is = tt
  moving_again (Some m) is = give_again m m.moved is

  -- each master is told of a client of the header
  pub expire_again : (client : ℕ) → IsClientNumber w client → AllAgain w (expire_messages w.manager client)
  expire_again client is = Each-map (Again w) (λ (to : NodeId). says manager_node to (body.ExpireClient client)) (map (λ (c : PartConfig). c.master) w.manager.config.parts)
      (Each-map (λ (node : NodeId). Again w (says manager_node node (body.ExpireClient client))) (λ (c : PartConfig). c.master) w.manager.config.parts
      (each_among (λ (c : PartConfig). Again w (says manager_node c.master (body.ExpireClient client))) w.manager.config.parts (λ c a. record { from = refl; repeats = tt; is_so = (serves_now c a, is) })))

  -- all that a nudge says
  pub nudge_again : AllAgain w (flat_map (λ c. nudge_part c (numbered w.manager.doing c.part)) w.manager.config.parts ++ nudge_moving w.manager w.manager.moving ++ flat_map (expire_messages w.manager) w.manager.gone)
  nudge_again =
      let parts : List Message = flat_map (λ c. nudge_part c (numbered w.manager.doing c.part)) w.manager.config.parts in
      Each-append (Again w) (parts ++ nudge_moving w.manager w.manager.moving) _
      (Each-append (Again w) parts _
      (each_flat (Again w) _ w.manager.config.parts (λ c a. part_again c (numbered w.manager.doing c.part) a refl))
      (moving_again w.manager.moving n.moving))
      (each_flat (Again w) (expire_messages w.manager) w.manager.gone (λ client a. expire_again client (among_each (IsClientNumber w) w.manager.gone n.gone client a)))

  -- the configuration may be told
  pub configuration_again : ConfigurationOk w w.manager.config
  configuration_again = record {
    parts = n.numbers.parts;
    numbers = n.entries;
    adopted = each_among (λ (c : PartConfig). WasAdopted w (lists_of_part c)) w.manager.config.parts adopted_entry;
  }
