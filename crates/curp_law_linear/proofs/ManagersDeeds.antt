-- What each input to the manager does for the machine: nothing, a migration begins or is done, or a recovery is adopted.
use Rattle.std.proofs.Common.{◌≡◌, ℕ, zero, suc, ◌+◌, ◌-◌, ◌==◌, ◌||◌, Bool, true, false, if◌then◌else◌, List, [], ◌∷◌, map, refl, ap, sym, ◌∙◌, subst, arith, Option, Some, None, Ok, Err, Result}
use Rattle.std.specs.Prelude.{is_some, set}
use Rattle.std.specs.Option.{ok_or, option_and_then}
use Rattle.std.proofs.lemmas.Bool.{cond_both, eqb-true}
use Rattle.curp_base.specs.Cases.{◌>>=◌, only_if, refuse_if}
use Rattle.curp_base.specs.Words.{At, numbered, rises_past}
use Rattle.curp_cmd.specs.Node.{manager_node}
use Rattle.curp_cmd.specs.declared.node.NodeId.{NodeId}
use Rattle.curp_msg.specs.Moved.{Moved, quiet, says, unless_refused}
use Rattle.curp_msg.specs.declared.body.Body.{Body}
use Rattle.curp_msg.specs.declared.body.Body.TheVariants as body
use Rattle.curp_msg.specs.declared.body.Parcel.{Parcel}
use Rattle.curp_msg.specs.declared.body.Recovered.{Recovered}
use Rattle.curp_msg.specs.declared.config.PartConfig.{PartConfig}
use Rattle.curp_msg.specs.Input.{Input}
use Rattle.curp_msg.specs.Input as input
use Rattle.curp_msg.specs.declared.machine.Local.{Local}
use Rattle.curp_msg.specs.declared.machine.Local.TheVariants as local
use Rattle.curp_model.specs.Manager.{Attempted, Doing, ManagerState, Migration, NewLists, Recovering, Replacing, Steady, adopted_at, adoption, adopts, attempt_at, counter_ends, expire, expires, client_for, given_in, gives, heard, last_number, lists_in_work, manager_input, manager_ordered, migrate, migrates, moved_part, nudge, on_given, on_manager, on_prepared, on_recovered, on_taken, owner_of_range, owns_range, part_at, prepared_in, recover, recovered_in, recovered_part, recovers, recovery_for, replace, replacement_for, replaces, taken_in, tells_again, told, unless_numbers_end, version_adopted, version_in_work}
use Rattle.curp_model.specs.Ranges.{Range, range_of}
use Rattle.curp_model.specs.World.{World}
use Rattle.curp_facts.specs.Facts.{IsAdoptedNow, IsAmong, WasSent, lists_of_part}
use Rattle.curp_law_kept.specs.Deeds.{IsFor}
use Rattle.curp_law_linear.specs.OfWorld.{moving_of}
use Rattle.curp_law_linear.proofs.ManagersLine.{seat}
use Rattle.curp_facts.specs.Names.{Names, RecoveringOk}
use Rattle.curp_law_kept.proofs.Gives.{entry_now, entry_numbered, numbered_now, there_among}
use Rattle.curp_base.proofs.Lists.{at_mapped}
use Rattle.curp_model.proofs.Managers.{counters_stay}

-- a recovery of the present entry is adopted, as a master says that it is recovered
pub record Recovers (w : World) (a : Attempted) : Type 0 where
  pub c : PartConfig
  pub now : IsAdoptedNow w c
  pub ok : RecoveringOk w (lists_of_part c) a.master a.order
  pub from : NodeId
  pub told : Recovered
  pub sent : WasSent w (says from manager_node (body.Recovered told))
  pub its_part : told.part ≡ c.part
  pub its_epoch : a.order.epoch ≡ told.epoch

-- the partitions keep their masters
abbrev pub KeepsSeats : World → ManagerState → Type 0
KeepsSeats w k = map seat k.config.parts ≡ map seat w.manager.config.parts

-- nothing, a migration begins or is done, or a recovery is adopted
pub data Leads (w : World) (k : ManagerState) : Option Attempted → Type 0 where
  Rests : KeepsSeats w k → moving_of k.moving ≡ moving_of w.manager.moving → Leads w k None
  Begins : (m : Migration) → KeepsSeats w k → w.manager.moving ≡ None → k.moving ≡ Some m → m.number ≡ w.manager.next.migration → m.moved ≡ None → Leads w k None
  Ends : (m : Migration) → KeepsSeats w k → w.manager.moving ≡ Some m → k.moving ≡ None → (from : NodeId) → WasSent w (says from manager_node (body.Given m.number)) → Leads w k None
  Renews : (a : Attempted) (o : Recovers w a) → k.config.parts ≡ set w.manager.config.parts (o.c.part - 1) (recovered_part o.c a) → k.moving ≡ w.manager.moving → Leads w k (Some a)

-- an entry that has the same seat comes to its place
same_seat : (xs : List PartConfig) (p : ℕ) (c d : PartConfig) → numbered xs p ≡ Some c → seat d ≡ seat c → map seat (set xs (p - 1) d) ≡ map seat xs
same_seat xs zero c d at same = absurd cc
same_seat xs (suc k) c d at same = let less : suc k - 1 ≡ k = omega arith in subst (λ (i : ℕ). map seat (set xs i d) ≡ map seat xs) (sym less) (go xs k at)
  where
    one : {a b : PartConfig} → Some a ≡ Some b → a ≡ b
    one e = cc

    go : (xs : List PartConfig) (k : ℕ) → At xs k c → map seat (set xs k d) ≡ map seat xs
    go [] k at = absurd cc
    go (x ∷ xs) zero at = ap (λ (s : ℕ × NodeId). s ∷ map seat xs) (same ∙ ap seat (sym (one at)))
    go (x ∷ xs) (suc k) at = ap (λ ss. seat x ∷ ss) (go xs k at)

module _ {w : World} (names : Names w) where
  rests : Leads w w.manager None
  rests = Rests refl refl

  -- what is refused changes nothing
  unless : {A : Type 0} (act : A → Moved ManagerState) → ((x : A) → Leads w (act x).state None) → (o : Result A ℕ) → Leads w (unless_refused w.manager act o).state None
  unless act does (Ok x) = does x
  unless act does (Err number) = rests

  again_does : (o : Option PartConfig) → Leads w (tells_again w.manager o).state None
  again_does None = rests
  again_does (Some c) = rests

  -- ---- orders

  recover_does : (p backup witness : ℕ) → Leads w (recover w.manager p backup witness).state None
  unfolding recover
  recover_does p backup witness = unless (recovers w.manager p) (λ o. Rests refl refl) (recovery_for w.manager p backup witness)

  replace_does : (which : _) (p place : ℕ) → Leads w (replace w.manager which p place).state None
  unfolding replace
  replace_does which p place = unless (replaces w.manager p which place) (λ c. Rests refl refl) (replacement_for w.manager which p place)

  expire_does : (client : ℕ) → Leads w (expire w.manager client).state None
  unfolding expire
  expire_does client = unless (expires w.manager) (λ n. Rests refl refl) (client_for w.manager client)

  nudge_does : Leads w (nudge w.manager).state None
  unfolding nudge
  nudge_does = rests

  -- a migration begins where none is in work
  by_moving : (r : Range) (target owner : PartConfig) (o : Option Migration) → w.manager.moving ≡ o
      → Leads w (unless_refused w.manager (migrates w.manager) (refuse_if (is_some o) 5 >>= λ _. Ok (record { range = r; owner = owner; target = target }))).state None
  by_moving r target owner (Some m) its = rests
  by_moving r target owner None its =
      Begins (record { number = w.manager.next.migration; range = r; source = owner.part; target = target.part; moved = None }) refl its refl refl refl

  by_owner : (r : Range) (target : PartConfig) (o : Option PartConfig)
      → Leads w (unless_refused w.manager (migrates w.manager) (ok_or o 4 >>= λ (owner : PartConfig). refuse_if (is_some w.manager.moving) 5 >>= λ _. Ok (record { range = r; owner = owner; target = target }))).state None
  by_owner r target None = rests
  by_owner r target (Some owner) = by_moving r target owner w.manager.moving refl

  by_target : (r : Range) (target : PartConfig) (owned : Bool)
      → Leads w (unless_refused w.manager (migrates w.manager) (refuse_if owned 3 >>= λ _. ok_or (owner_of_range w.manager r.lo r.hi) 4 >>= λ (owner : PartConfig). refuse_if (is_some w.manager.moving) 5 >>= λ _. Ok (record { range = r; owner = owner; target = target }))).state None
  by_target r target true = rests
  by_target r target false = by_owner r target (owner_of_range w.manager r.lo r.hi)

  by_range : (r : Range) (o : Option PartConfig)
      → Leads w (unless_refused w.manager (migrates w.manager) (ok_or o 2 >>= λ (target : PartConfig). refuse_if (owns_range r.lo r.hi target) 3 >>= λ _. ok_or (owner_of_range w.manager r.lo r.hi) 4 >>= λ (owner : PartConfig). refuse_if (is_some w.manager.moving) 5 >>= λ _. Ok (record { range = r; owner = owner; target = target }))).state None
  by_range r None = rests
  by_range r (Some target) = by_target r target (owns_range r.lo r.hi target)

  by_ends : (to : ℕ) (o : Option Range)
      → Leads w (unless_refused w.manager (migrates w.manager) (ok_or o 1 >>= λ (r : Range). ok_or (part_at w.manager to) 2 >>= λ (target : PartConfig). refuse_if (owns_range r.lo r.hi target) 3 >>= λ _. ok_or (owner_of_range w.manager r.lo r.hi) 4 >>= λ (owner : PartConfig). refuse_if (is_some w.manager.moving) 5 >>= λ _. Ok (record { range = r; owner = owner; target = target }))).state None
  by_ends to None = rests
  by_ends to (Some r) = by_range r (part_at w.manager to)

  migrate_does : (lo hi to : ℕ) → Leads w (migrate w.manager lo hi to).state None
  unfolding migrate
  migrate_does lo hi to = by_ends to (range_of lo hi)

  -- ---- messages

  -- a package that is kept is nothing to the machine
  taken_does : (t : Parcel) → Leads w (on_taken w.manager t).state None
  unfolding on_taken
  taken_does t = by_migration w.manager.moving refl
    where
      by_part : (m : Migration) → w.manager.moving ≡ Some m → (o : Option PartConfig) → Leads w (gives w.manager m t.package o).state None
      by_part m its None = rests
      by_part m its (Some target) = Rests refl (ap moving_of (sym its))

      by_migration : (o : Option Migration) → w.manager.moving ≡ o → Leads w (taken_in w.manager t o).state None
      by_migration None its = rests
      by_migration (Some m) its = cond_both (m.number == t.migration) _ _ (λ (r : Moved ManagerState). Leads w r.state None) (λ y. by_part m its (part_at w.manager m.target)) (λ y. rests)

  moved_seats : (m : Migration) (xs : List PartConfig) → map seat (map (moved_part m) xs) ≡ map seat xs
  moved_seats m [] = refl
  moved_seats m (c ∷ xs) = ap (λ ss. seat (moved_part m c) ∷ ss) (moved_seats m xs) ∙ ap (λ (s : ℕ × NodeId). s ∷ map seat xs) one
    where
      one : seat (moved_part m c) ≡ seat c
      one = cond_both (c.part == m.source) _ _ (λ (d : PartConfig). seat d ≡ seat c) (λ y. refl) (λ y. cond_both (c.part == m.target) _ _ (λ (d : PartConfig). seat d ≡ seat c) (λ z. refl) (λ z. refl))

  given_does : (from : NodeId) (number : ℕ) → WasSent w (says from manager_node (body.Given number)) → Leads w (on_given w.manager number).state None
  unfolding on_given
  given_does from number sent = by_migration w.manager.moving refl
    where
      by_migration : (o : Option Migration) → w.manager.moving ≡ o → Leads w (given_in w.manager number o).state None
      by_migration None its = rests
      by_migration (Some m) its = cond_both (m.number == number) _ _ (λ (r : Moved ManagerState). Leads w r.state None)
          (λ y. Ends m (moved_seats m w.manager.config.parts) its refl from (subst (λ (n : ℕ). WasSent w (says from manager_node (body.Given n))) (sym (eqb-true _ _ y)) sent)) (λ y. rests)

  -- new lists of the present master
  work_does : (version : ℕ) (x : NewLists) (c : PartConfig) → IsAmong c w.manager.config.parts → (d : Option Doing) → lists_in_work version c d ≡ Some x
      → Leads w (adopts w.manager x.part.part (record x.part { version = x.version; backups = x.backups; witnesses = x.witnesses })).state None
  work_does version x c a (Some (Replacing which fresh own backups witnesses)) e = by_version (own == version) e
    where
      by_version : (b : Bool) → only_if b (record { part = c; version = own; backups = backups; witnesses = witnesses }) ≡ Some x
          → Leads w (adopts w.manager x.part.part (record x.part { version = x.version; backups = x.backups; witnesses = x.witnesses })).state None
      by_version true e =
          let is : c ≡ x.part = cc (e) in
          let here : numbered w.manager.config.parts x.part.part ≡ Some x.part = subst (λ (d : PartConfig). numbered w.manager.config.parts d.part ≡ Some d) is (entry_now names c a) in
          Rests (same_seat w.manager.config.parts x.part.part x.part (record x.part { version = x.version; backups = x.backups; witnesses = x.witnesses }) here refl) refl
      by_version false e = absurd cc
  work_does version x c a (Some (Recovering node o)) e = absurd cc
  work_does version x c a (Some Steady) e = absurd cc
  work_does version x c a None e = absurd cc

  prepared_does : (version : ℕ) → Leads w (on_prepared w.manager version).state None
  unfolding on_prepared
  prepared_does version = by_work (version_in_work w.manager version) refl
    where
      by_work : (o : Option NewLists) → version_in_work w.manager version ≡ o → Leads w (prepared_in w.manager version o).state None
      by_work None e = again_does (version_adopted w.manager version)
      by_work (Some x) e =
          let t = there_among _ x e in
          let m = at_mapped (λ (c : PartConfig). lists_in_work version c (numbered w.manager.doing c.part)) w.manager.config.parts t.place (Some x) t.stands in
          work_does version x m.0 (record { place = t.place; stands = m.1 }) (numbered w.manager.doing m.0.part) m.2

  -- ---- inputs

  unless_ended : (r : Moved ManagerState) → Leads w r.state None → Leads w (unless_numbers_end w.manager r).state None
  unless_ended r does = cond_both _ _ _ (λ (x : Moved ManagerState). Leads w x.state None) (λ y. rests) (λ y. does)

  told_does : (order : Local) → Leads w (told w.manager order).state None
  told_does (local.Recover part backup witness) = recover_does part backup witness
  told_does (local.Replace which part place) = replace_does which part place
  told_does (local.Migrate lo hi to) = migrate_does lo hi to
  told_does local.Nudge = nudge_does
  told_does (local.Expire client) = expire_does client
  told_does _ = rests

  -- the attempt that is being made is adopted, unless the serial ends there
  module _ (from : NodeId) (r : Recovered) (sent : WasSent w (says from manager_node (body.Recovered r))) where
    renewed : (a : Attempted) (o : Recovers w a) → o.c.part ≡ r.part → (ends : Bool)
        → Leads w (if counter_ends w.manager.next w.manager.next || ends then quiet w.manager else adopts w.manager r.part (recovered_part o.c a)).state (if ends then None else Some a)
    renewed a o part true = cond_both (counter_ends w.manager.next w.manager.next || true) _ _ (λ (x : Moved ManagerState). Leads w x.state None) (λ y. rests) (λ y. absurd (both (counter_ends w.manager.next w.manager.next) y))
      where
        both : (b : Bool) → (b || true) ≡ false → ⊥
        both true e = cc
        both false e = cc
    renewed a o part false =
        let test : (counter_ends w.manager.next w.manager.next || false) ≡ false = either (counter_ends w.manager.next w.manager.next) (counters_stay w.manager.next) in
        subst (λ (b : Bool). Leads w (if b then quiet w.manager else adopts w.manager r.part (recovered_part o.c a)).state (Some a)) (sym test)
        (Renews a o (ap (λ (p : ℕ). set w.manager.config.parts (p - 1) (recovered_part o.c a)) (sym part)) refl)
      where
        either : (b : Bool) → b ≡ false → (b || false) ≡ false
        either b e = cc

    -- nothing is adopted
    told_again : (o : Option PartConfig) (ends : Bool) → Leads w (unless_numbers_end w.manager (tells_again w.manager o)).state (if ends then None else None)
    told_again o ends = cond_both ends _ _ (Leads w (unless_numbers_end w.manager (tells_again w.manager o)).state) (λ y. unless_ended (tells_again w.manager o) (again_does o)) (λ y. unless_ended (tells_again w.manager o) (again_does o))

    abbrev serial_ends : Bool
    serial_ends = rises_past last_number w.manager.config.serial (w.manager.config.serial + 1)

    by_doing : (c : PartConfig) → numbered w.manager.config.parts r.part ≡ Some c → (d : Option Doing) → numbered w.manager.doing r.part ≡ d
        → Leads w (unless_numbers_end w.manager (recovered_in w.manager r (attempt_at r.epoch d) (Some c))).state (if serial_ends then None else attempt_at r.epoch d)
    by_doing c here (Some (Recovering node o)) its = by_epoch (o.epoch == r.epoch) refl
      where
        ok : RecoveringOk w (lists_of_part c) node o
        ok = names.doing c (Recovering node o) (numbered_now names r.part c here)
            (subst (λ (i : ℕ). numbered w.manager.doing i ≡ Some (Recovering node o)) (sym (entry_numbered names r.part c here)) its)

        by_epoch : (b : Bool) → (o.epoch == r.epoch) ≡ b
            → Leads w (unless_numbers_end w.manager (recovered_in w.manager r (only_if b (record { master = node; order = o })) (Some c))).state (if serial_ends then None else only_if b (record { master = node; order = o }))
        by_epoch true e =
            renewed (record { master = node; order = o })
            (record { c = c; now = numbered_now names r.part c here; ok = ok; from = from; told = r; sent = sent; its_part = sym (entry_numbered names r.part c here); its_epoch = eqb-true _ _ e })
            (entry_numbered names r.part c here) serial_ends
        by_epoch false e = told_again (adopted_at w.manager r) serial_ends
    by_doing c here (Some (Replacing which fresh version backups witnesses)) its = told_again (adopted_at w.manager r) serial_ends
    by_doing c here (Some Steady) its = told_again (adopted_at w.manager r) serial_ends
    by_doing c here None its = told_again (adopted_at w.manager r) serial_ends

    by_entry : (o : Option PartConfig) → numbered w.manager.config.parts r.part ≡ o
        → Leads w (unless_numbers_end w.manager (recovered_in w.manager r (option_and_then (λ (c : PartConfig). attempt_at r.epoch (numbered w.manager.doing r.part)) o) o)).state
        (if serial_ends then None else option_and_then (λ (c : PartConfig). attempt_at r.epoch (numbered w.manager.doing r.part)) o)
    by_entry None at = told_again (adopted_at w.manager r) serial_ends
    by_entry (Some c) at = by_doing c at (numbered w.manager.doing r.part) refl

    recovered_does : Leads w (unless_numbers_end w.manager (on_recovered w.manager r)).state (adoption w.manager (input.Message (says from manager_node (body.Recovered r))))
    unfolding on_recovered
    recovered_does = by_entry (part_at w.manager r.part) refl

  message_does : (from to : NodeId) (b : Body) → WasSent w (says from manager_node b) → Leads w (on_manager w.manager from b).state (adoption w.manager (input.Message (says from to b)))
  unfolding on_manager
  message_does from to body.Fetch sent = unless_ended (heard w.manager from body.Fetch) rests
  message_does from to (body.Recovered r) sent = recovered_does from r sent
  message_does from to (body.Prepared version) sent = unless_ended (on_prepared w.manager version) (prepared_does version)
  message_does from to (body.Taken t) sent = unless_ended (on_taken w.manager t) (taken_does t)
  message_does from to (body.Given number) sent = unless_ended (on_given w.manager number) (given_does from number sent)
  message_does from to _ sent = unless_ended (quiet w.manager) rests

  order_does : (order : Local) → Leads w (manager_ordered w.manager order).state None
  unfolding manager_ordered
  order_does order = unless_ended (told w.manager order) (told_does order)

  -- whatever comes to the manager
  pub manager_leads : (given : Input) → IsFor w manager_node given → Leads w (manager_input w.manager given).state (adoption w.manager given)
  manager_leads (input.Local order) for = order_does order
  manager_leads (input.Message m) for = message_does m.from m.to m.body (subst (λ (to : NodeId). WasSent w (says m.from to m.body)) for.0 for.1)
