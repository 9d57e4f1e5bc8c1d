-- Each input to the manager keeps the facts of names.
use Rattle.std.proofs.Common.{◌≡◌, inl, inr, ◌≤◌, ℕ, ◌==◌, ◌&&◌, Bool, true, false, not, nat_lt, nat_le, List, [], ◌∷◌, map, refl, sym, subst, arith, Option, Some, None, Ok}
use Rattle.std.specs.Prelude.{is_some, option_and_then}
use Rattle.std.specs.BTreeSet.{insert_key}
use Rattle.std.specs.Option.{ok_or}
use Rattle.std.specs.Ordering.{nat_cmp, match_ordering}
use Rattle.std.specs.declared.cmp.Ordering.{Ordering}
use Rattle.std.specs.declared.cmp.Ordering.TheVariants.{Less, Equal, Greater}
use Rattle.std.proofs.lemmas.Bool.{cond_both, eqb-true}
use Rattle.std.proofs.lemmas.Bool.Decides.{nat_tests}
use Rattle.curp_base.specs.Cases.{◌>>=◌, only_if, refuse_if}
use Rattle.curp_base.specs.Words.{At, Each, numbered}
use Rattle.curp_cmd.specs.Node.{manager_node}
use Rattle.curp_cmd.specs.declared.migration.Package.{Package}
use Rattle.curp_cmd.specs.declared.node.NodeId.{NodeId}
use Rattle.curp_msg.specs.Moved.{Moved, quiet, says, unless_refused}
use Rattle.curp_msg.specs.declared.body.Body.{Body}
use Rattle.curp_msg.specs.declared.body.Body.TheVariants as body
use Rattle.curp_msg.specs.declared.body.Parcel.{Parcel}
use Rattle.curp_msg.specs.declared.body.Recovered.{Recovered}
use Rattle.curp_msg.specs.declared.config.PartConfig.{PartConfig}
use Rattle.curp_msg.specs.Input.{Input}
use Rattle.curp_msg.specs.Input as input
use Rattle.curp_msg.specs.declared.machine.Local.{Local}
use Rattle.curp_msg.specs.declared.machine.Local.TheVariants as local
use Rattle.curp_model.specs.Manager.{Doing, ManagerState, Migration, Move, NewLists, Recovering, Replacing, Steady, adopted_at, adopts, attempt_at, expire, expires, given_in, gives, heard, lists_in_work, manager_input, manager_ordered, migrate, migrates, moved_part, nudge, on_given, on_manager, on_prepared, on_recovered, on_taken, owner_of_range, owns_range, part_at, prepared_in, recovered_in, recovered_part, taken_in, tells_again, told, unless_numbers_end, version_adopted, version_in_work}
use Rattle.curp_model.specs.Ranges.{Range, range_of}
use Rattle.curp_model.specs.World.{World}
use Rattle.curp_facts.specs.Facts.{ByRecovery, ByReplacement, IsAdoptedNow, IsAmong, IsGiven, WasSent, WasTaken, lists_of_order, lists_of_part}
use Rattle.curp_facts.specs.Fits.{MessageFits}
use Rattle.curp_law_kept.proofs.ClientsFit.{Arrives, is_manager}
use Rattle.curp_facts.specs.Names.{IsClientNumber, MovingOk, Names, RecoveringOk, ReplacingOk}
use Rattle.curp_law_kept.proofs.Adoptions.{adopts_good}
use Rattle.curp_law_kept.proofs.Keeps.{entry_now, entry_numbered, numbered_now}
use Rattle.curp_law_kept.proofs.NumberedLists.{filter_among, first_among, there_among}
use Rattle.curp_law_kept.proofs.Quiet.{Good, Stays, quietly, stays_beside, stays_self}
use Rattle.curp_law_kept.proofs.RecoveryNames.{recover_good, refused_good}
use Rattle.curp_law_kept.proofs.Replacements.{replace_good}
use Rattle.curp_law_kept.proofs.Says.{adopted_again, configuration_again, expire_again, nudge_again, serves_now}
use Rattle.curp_base.proofs.Lists.{at_mapped}
use Rattle.curp_base.proofs.Numbered.{place}

-- ---- lists

module _ {w : World} (n : Names w) where
  -- what says nothing and changes no name
  silent : (g : ManagerState) → Stays w.manager g → g.gone ≡ w.manager.gone → MovingOk w g.moving → Good w (quiet g)
  silent g s gone moving = quietly w n (quiet g) s (subst (Each (IsClientNumber w)) (sym gone) n.gone) moving tt

  rests : Good w (quiet w.manager)
  rests = silent w.manager (stays_self w.manager) refl n.moving

  -- ---- recoveries and replacements that are done

  again_good : (o : Option PartConfig) → ((c : PartConfig) → o ≡ Some c → IsAmong c w.manager.config.parts) → Good w (tells_again w.manager o)
  again_good None its = rests
  again_good (Some c) its = quietly w n (tells_again w.manager (Some c)) (stays_self w.manager) n.gone n.moving (adopted_again n c (its c refl))

  -- what is said to be adopted is a present entry
  adopted_at_among : (r : Recovered) (c : PartConfig) → adopted_at w.manager r ≡ Some c → IsAmong c w.manager.config.parts
  adopted_at_among r c = by_entry (part_at w.manager r.part) refl
    where
      by_epoch : (b : Bool) (d : PartConfig) → numbered w.manager.config.parts r.part ≡ Some d → only_if b d ≡ Some c → IsAmong c w.manager.config.parts
      by_epoch true d at e = let k = place w.manager.config.parts r.part d at in record { place = k.0; stands = subst (λ (x : PartConfig). At w.manager.config.parts k.0 x) (cc e) k.2 }
      by_epoch false d at e = absurd cc

      by_entry : (o : Option PartConfig) → numbered w.manager.config.parts r.part ≡ o → option_and_then (λ (e : PartConfig). only_if (e.epoch == r.epoch) e) o ≡ Some c → IsAmong c w.manager.config.parts
      by_entry None at e = absurd cc
      by_entry (Some d) at e = by_epoch (d.epoch == r.epoch) d at e

  -- the attempt that is finished is the one that is being made
  attempt_good : (from : NodeId) (r : Recovered) → WasSent w (says from manager_node (body.Recovered r)) → (c : PartConfig) → numbered w.manager.config.parts r.part ≡ Some c → (d : Option Doing) → numbered w.manager.doing r.part ≡ d
      → Good w (recovered_in w.manager r (attempt_at r.epoch d) (Some c))
  attempt_good from r told c here (Some (Recovering node o)) its = by_epoch (o.epoch == r.epoch) refl
    where
      ok : RecoveringOk w (lists_of_part c) node o
      ok = n.doing c (Recovering node o) (numbered_now n r.part c here) (subst (λ (i : ℕ). numbered w.manager.doing i ≡ Some (Recovering node o)) (sym (entry_numbered n r.part c here)) its)

      said : o.epoch ≡ r.epoch → WasSent w (says from manager_node (body.Recovered (record { part = c.part; epoch = o.epoch })))
      said e =
          let same : r ≡ record { part = c.part; epoch = o.epoch } = λ i. record { part = sym (entry_numbered n r.part c here) i; epoch = sym e i } in
          subst (λ (x : Recovered). WasSent w (says from manager_node (body.Recovered x))) same told

      by_epoch : (b : Bool) → (o.epoch == r.epoch) ≡ b → Good w (recovered_in w.manager r (only_if b (record { master = node; order = o })) (Some c))
      by_epoch true e = adopts_good n r.part c (recovered_part c (record { master = node; order = o })) here
          (subst (λ (p : ℕ). IsGiven w (record (lists_of_order node o) { part = p })) ok.its_part (ByRecovery node o ok.sent)) refl (omega (arith, ok.later)) ok.newer
          (inr (inl (record { order = o; ordered = ok.sent; its_lists = λ i. record (lists_of_order node o) { part = ok.its_part i }; from = from; told = said (eqb-true o.epoch r.epoch e) })))
          (inr (record { order = o; ordered = ok.sent; its_lists = λ i. record (lists_of_order node o) { part = ok.its_part i }; its_backup = ok.its_backup; its_witness = ok.its_witness; earlier = ok.later }))
      by_epoch false e = again_good (adopted_at w.manager r) (adopted_at_among r)
  attempt_good from r told c here (Some (Replacing kind fresh version backups witnesses)) its = again_good (adopted_at w.manager r) (adopted_at_among r)
  attempt_good from r told c here (Some Steady) its = again_good (adopted_at w.manager r) (adopted_at_among r)
  attempt_good from r told c here None its = again_good (adopted_at w.manager r) (adopted_at_among r)

  recovered_good : (from : NodeId) (r : Recovered) → WasSent w (says from manager_node (body.Recovered r)) → Good w (on_recovered w.manager r)
  unfolding on_recovered
  recovered_good from r told = by_entry (part_at w.manager r.part) refl
    where
      by_entry : (o : Option PartConfig) → numbered w.manager.config.parts r.part ≡ o
          → Good w (recovered_in w.manager r (option_and_then (λ (c : PartConfig). attempt_at r.epoch (numbered w.manager.doing r.part)) o) o)
      by_entry None at = again_good (adopted_at w.manager r) (adopted_at_among r)
      by_entry (Some c) at = attempt_good from r told c at (numbered w.manager.doing r.part) refl

  -- the new lists that are prepared are those that are being given
  work_good : (from : NodeId) (version : ℕ) → WasSent w (says from manager_node (body.Prepared version)) → (x : NewLists) (c : PartConfig) → IsAmong c w.manager.config.parts → (d : Option Doing) → numbered w.manager.doing c.part ≡ d → lists_in_work version c d ≡ Some x
      → Good w (adopts w.manager x.part.part (record x.part { version = x.version; backups = x.backups; witnesses = x.witnesses }))
  work_good from version told x c a (Some (Replacing kind fresh own backups witnesses)) its e = by_version (own == version) refl e
    where
      now : IsAdoptedNow w c
      now = entry_now n c a

      ok : ReplacingOk w (lists_of_part c) kind fresh (record { version = own; backups = backups; witnesses = witnesses })
      ok = n.doing c (Replacing kind fresh own backups witnesses) now its

      new : NewLists
      new = record { part = c; version = own; backups = backups; witnesses = witnesses }

      good : own ≡ version → Good w (adopts w.manager c.part (record c { version = own; backups = backups; witnesses = witnesses }))
      good same = adopts_good n c.part c (record c { version = own; backups = backups; witnesses = witnesses }) now
          (ByReplacement (lists_of_part c) (record { version = own; backups = backups; witnesses = witnesses }) (n.top c now).was.given ok.sent) refl (omega arith) ok.newer
          (inr (inr (record { prepare = record { version = own; backups = backups; witnesses = witnesses }; sent = ok.sent; its_version = refl; from = from; told = subst (λ (k : ℕ). WasSent w (says from manager_node (body.Prepared k))) (sym same) told })))
          (inl refl)

      by_version : (b : Bool) → (own == version) ≡ b → only_if b new ≡ Some x → Good w (adopts w.manager x.part.part (record x.part { version = x.version; backups = x.backups; witnesses = x.witnesses }))
      by_version true t e = let same : new ≡ x = cc e in subst (λ (y : NewLists). Good w (adopts w.manager y.part.part (record y.part { version = y.version; backups = y.backups; witnesses = y.witnesses }))) same (good (eqb-true own version t))
      by_version false t e = absurd cc
  work_good from version told x c a (Some (Recovering node o)) its e = absurd cc
  work_good from version told x c a (Some Steady) its e = absurd cc
  work_good from version told x c a None its e = absurd cc

  prepared_good : (from : NodeId) (version : ℕ) → WasSent w (says from manager_node (body.Prepared version)) → Good w (on_prepared w.manager version)
  unfolding on_prepared
  prepared_good from version told = by_work (version_in_work w.manager version) refl
    where
      by_work : (o : Option NewLists) → version_in_work w.manager version ≡ o → Good w (prepared_in w.manager version o)
      by_work None e = again_good (version_adopted w.manager version) (λ c is. filter_among (λ (d : PartConfig). d.version == version) w.manager.config.parts c (first_among _ c is))
      by_work (Some x) e =
          let t = there_among _ x e in
          let m = at_mapped (λ (c : PartConfig). lists_in_work version c (numbered w.manager.doing c.part)) w.manager.config.parts t.place (Some x) t.stands in
          work_good from version told x m.0 (record { place = t.place; stands = m.1 }) (numbered w.manager.doing m.0.part) refl m.2

  -- ---- migrations

  owner_among : (lo hi : ℕ) (c : PartConfig) → owner_of_range w.manager lo hi ≡ Some c → IsAmong c w.manager.config.parts
  owner_among lo hi c is = filter_among (owns_range lo hi) w.manager.config.parts c (first_among _ c is)

  migrates_good : (m : Move) → IsAmong m.owner w.manager.config.parts → Good w (migrates w.manager m)
  migrates_good m a = quietly w n (migrates w.manager m) (stays_beside w.manager _ _ _) n.gone tt (record { from = refl; repeats = tt; is_so = serves_now n m.owner a }, tt)

  by_moving : (r : Range) (target owner : PartConfig) → IsAmong owner w.manager.config.parts → (busy : Bool)
      → Good w (unless_refused w.manager (migrates w.manager) (refuse_if busy 5 >>= λ _. Ok (record { range = r; owner = owner; target = target })))
  by_moving r target owner a true = refused_good n 5
  by_moving r target owner a false = migrates_good (record { range = r; owner = owner; target = target }) a

  by_owner : (r : Range) (target : PartConfig) (o : Option PartConfig) → owner_of_range w.manager r.lo r.hi ≡ o
      → Good w (unless_refused w.manager (migrates w.manager) (ok_or o 4 >>= λ (owner : PartConfig). refuse_if (is_some w.manager.moving) 5 >>= λ _. Ok (record { range = r; owner = owner; target = target })))
  by_owner r target None found = refused_good n 4
  by_owner r target (Some owner) found = by_moving r target owner (owner_among r.lo r.hi owner found) (is_some w.manager.moving)

  by_target : (r : Range) (target : PartConfig) (owned : Bool)
      → Good w (unless_refused w.manager (migrates w.manager) (refuse_if owned 3 >>= λ _. ok_or (owner_of_range w.manager r.lo r.hi) 4 >>= λ (owner : PartConfig). refuse_if (is_some w.manager.moving) 5 >>= λ _. Ok (record { range = r; owner = owner; target = target })))
  by_target r target true = refused_good n 3
  by_target r target false = by_owner r target (owner_of_range w.manager r.lo r.hi) refl

  by_range : (to : ℕ) (r : Range) (o : Option PartConfig)
      → Good w (unless_refused w.manager (migrates w.manager) (ok_or o 2 >>= λ (target : PartConfig). refuse_if (owns_range r.lo r.hi target) 3 >>= λ _. ok_or (owner_of_range w.manager r.lo r.hi) 4 >>= λ (owner : PartConfig). refuse_if (is_some w.manager.moving) 5 >>= λ _. Ok (record { range = r; owner = owner; target = target })))
  by_range to r None = refused_good n 2
  by_range to r (Some target) = by_target r target (owns_range r.lo r.hi target)

  by_ends : (to : ℕ) (o : Option Range)
      → Good w (unless_refused w.manager (migrates w.manager) (ok_or o 1 >>= λ (r : Range). ok_or (part_at w.manager to) 2 >>= λ (target : PartConfig). refuse_if (owns_range r.lo r.hi target) 3 >>= λ _. ok_or (owner_of_range w.manager r.lo r.hi) 4 >>= λ (owner : PartConfig). refuse_if (is_some w.manager.moving) 5 >>= λ _. Ok (record { range = r; owner = owner; target = target })))
  by_ends to None = refused_good n 1
  by_ends to (Some r) = by_range to r (part_at w.manager to)

  migrate_good : (lo hi to : ℕ) → Good w (migrate w.manager lo hi to)
  unfolding migrate
  migrate_good lo hi to = by_ends to (range_of lo hi)

  gives_good : (m : Migration) (carried : Package) → WasTaken w (record { migration = m.number; «package» = carried }) → (o : Option PartConfig) → numbered w.manager.config.parts m.target ≡ o → Good w (gives w.manager m carried o)
  gives_good m carried told None found = rests
  gives_good m carried told (Some target) found =
      let k = place w.manager.config.parts m.target target found in
      quietly w n (gives w.manager m carried (Some target)) (stays_beside w.manager _ _ _) n.gone told (record { from = refl; repeats = tt; is_so = (serves_now n target (record { place = k.0; stands = k.2 }), told) }, tt)

  taken_good : (t : Parcel) → WasTaken w t → Good w (on_taken w.manager t)
  unfolding on_taken
  taken_good t told = by_migration w.manager.moving
    where
      taken_as : (m : Migration) → (m.number == t.migration) ≡ true → WasTaken w (record { migration = m.number; «package» = t.package })
      taken_as m e = subst (λ (k : ℕ). WasTaken w (record { migration = k; «package» = t.package })) (sym (eqb-true m.number t.migration e)) told

      by_migration : (o : Option Migration) → Good w (taken_in w.manager t o)
      by_migration None = rests
      by_migration (Some m) = cond_both (m.number == t.migration) _ _ (Good w) (λ y. gives_good m t.package (taken_as m y) (part_at w.manager m.target) refl) (λ y. rests)

  -- a migration that is done changes ranges alone
  moved_lists : (m : Migration) (xs : List PartConfig) → map lists_of_part (map (moved_part m) xs) ≡ map lists_of_part xs
  moved_lists m [] = refl
  moved_lists m (c ∷ xs) = cc (same, moved_lists m xs)
    where
      same : lists_of_part (moved_part m c) ≡ lists_of_part c
      same = cond_both (c.part == m.source) _ _ (λ (x : PartConfig). lists_of_part x ≡ lists_of_part c) (λ y. refl)
          (λ y. cond_both (c.part == m.target) _ _ (λ (x : PartConfig). lists_of_part x ≡ lists_of_part c) (λ z. refl) (λ z. refl))

  given_good : (number : ℕ) → Good w (on_given w.manager number)
  unfolding on_given
  given_good number = by_migration w.manager.moving
    where
      by_migration : (o : Option Migration) → Good w (given_in w.manager number o)
      by_migration None = rests
      by_migration (Some m) = cond_both (m.number == number) _ _ (Good w)
          (λ y. silent _ (record { shape = refl; epoch = refl; version = refl; master = refl; backup = refl; witness = refl; lists = moved_lists m w.manager.config.parts; doing = refl }) refl tt) (λ y. rests)

  -- ---- clients that are gone, and nudges

  inserted : (client : ℕ) → IsClientNumber w client → (xs : List ℕ) → Each (IsClientNumber w) xs → Each (IsClientNumber w) (insert_key nat_cmp xs client)
  inserted client is [] all = (is, tt)
  inserted client is (x ∷ xs) all = go (nat_cmp client x) (inserted client is xs all.1)
    where
      go : (r : Ordering) → Each (IsClientNumber w) (insert_key nat_cmp xs client) → Each (IsClientNumber w) (match_ordering r (client ∷ x ∷ xs) (x ∷ xs) (x ∷ insert_key nat_cmp xs client))
      go Less more = (is, all)
      go Equal more = all
      go Greater more = (all.0, more)

  expires_good : (client : ℕ) → IsClientNumber w client → Good w (expires w.manager client)
  expires_good client is = quietly w n (expires w.manager client) (stays_beside w.manager _ _ _) (inserted client is w.manager.gone n.gone) n.moving (expire_again n client is)

  is_client : (client : ℕ) (a b : Bool) → nat_lt 0 client ≡ a → nat_le client w.manager.shape.clients ≡ b → Good w (unless_refused w.manager (expires w.manager) (refuse_if (not (a && b)) 1 >>= λ _. Ok client))
  is_client client true true low high = expires_good client (within client w.manager.shape.clients low high)
    where
      within : (client clients : ℕ) → nat_lt 0 client ≡ true → nat_le client clients ≡ true → (1 ≤ client) × (client ≤ clients)
      within client clients low high = (grind (arith, nat_tests), grind (arith, nat_tests))
  is_client client true false low high = refused_good n 1
  is_client client false b low high = refused_good n 1

  expire_good : (client : ℕ) → Good w (expire w.manager client)
  unfolding expire
  expire_good client = is_client client (nat_lt 0 client) (nat_le client w.manager.shape.clients) refl refl

  nudge_good : Good w (nudge w.manager)
  unfolding nudge
  nudge_good = quietly w n (nudge w.manager) (stays_self w.manager) n.gone n.moving (nudge_again n)

  -- ---- inputs

  heard_good : (from to : NodeId) (b : Body) → MessageFits w (says from to b) → WasSent w (says from to b) → Good w (heard w.manager from b)
  heard_good from to body.Fetch fits sent = quietly w n (heard w.manager from body.Fetch) (stays_self w.manager) n.gone n.moving (record { from = refl; repeats = tt; is_so = (fits.sender, configuration_again n) }, tt)
  heard_good from to (body.Recovered r) fits sent = recovered_good from r (subst (λ (x : NodeId). WasSent w (says from x (body.Recovered r))) (is_manager w to fits.addressee) sent)
  heard_good from to (body.Prepared version) fits sent = prepared_good from version (subst (λ (x : NodeId). WasSent w (says from x (body.Prepared version))) (is_manager w to fits.addressee) sent)
  heard_good from to (body.Taken t) fits sent = taken_good t (record { node = from; told = subst (λ (x : NodeId). WasSent w (says from x (body.Taken t))) (is_manager w to fits.addressee) sent })
  heard_good from to (body.Given number) fits sent = given_good number
  heard_good from to _ fits sent = rests

  told_good : (order : Local) → Good w (told w.manager order)
  told_good (local.Recover part backup witness) = recover_good n part backup witness
  told_good (local.Replace kind part place) = replace_good n kind part place
  told_good (local.Migrate lo hi to) = migrate_good lo hi to
  told_good local.Nudge = nudge_good
  told_good (local.Expire client) = expire_good client
  told_good _ = rests

  unless_ended : (r : Moved ManagerState) → Good w r → Good w (unless_numbers_end w.manager r)
  unless_ended r good = cond_both _ _ _ (Good w) (λ y. rests) (λ y. good)

  message_good : (from to : NodeId) (b : Body) → MessageFits w (says from to b) → WasSent w (says from to b) → Good w (on_manager w.manager from b)
  unfolding on_manager
  message_good from to b fits sent = unless_ended (heard w.manager from b) (heard_good from to b fits sent)

  order_good : (order : Local) → Good w (manager_ordered w.manager order)
  unfolding manager_ordered
  order_good order = unless_ended (told w.manager order) (told_good order)

  -- whatever comes to the manager keeps the facts of names
  pub manager_good : (given : Input) → Arrives w given → Good w (manager_input w.manager given)
  manager_good (input.Local order) comes = order_good order
  manager_good (input.Message m) comes = message_good m.from m.to m.body comes.0 comes.1
