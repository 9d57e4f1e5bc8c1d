-- What the manager says of adoption: of lists that were adopted before, or of one entry that comes behind the present one.
use Rattle.std.proofs.Common.{◌≡◌, inl, inr, ℕ, ◌==◌, ◌||◌, Bool, true, false, List, [], ◌∷◌, ◌++◌, refl, sym, subst, arith, Option, Some, None, Result, Ok, Err}
use Rattle.std.specs.Bool.{⊤}
use Rattle.std.specs.Prelude.{option_and_then}
use Rattle.std.proofs.lemmas.Bool.{cond_both}
use Rattle.std.proofs.lemmas.Bool.Decides.{nat_tests}
use Rattle.curp_base.specs.Cases.{only_if}
use Rattle.curp_base.specs.Words.{At, Each, numbered, rises_past}
use Rattle.curp_base.proofs.Lists.{Each-append, Each-weaker, at_mapped}
use Rattle.curp_cmd.specs.Node.{manager_node}
use Rattle.curp_cmd.specs.declared.node.Keeper.{Keeper}
use Rattle.curp_cmd.specs.declared.node.Keeper.TheVariants as keeper
use Rattle.curp_cmd.specs.declared.node.NodeId.{NodeId}
use Rattle.curp_msg.specs.Moved.{Moved, quiet, says, says_each, unless_refused}
use Rattle.curp_msg.specs.declared.body.Body.{Body}
use Rattle.curp_msg.specs.declared.body.Body.TheVariants as body
use Rattle.curp_msg.specs.declared.body.Parcel.{Parcel}
use Rattle.curp_msg.specs.declared.body.Recover.{Recover}
use Rattle.curp_msg.specs.declared.body.Recovered.{Recovered}
use Rattle.curp_msg.specs.declared.config.PartConfig.{PartConfig}
use Rattle.curp_msg.specs.Input.{Input}
use Rattle.curp_msg.specs.Input as input
use Rattle.curp_msg.specs.declared.machine.Local.{Local}
use Rattle.curp_msg.specs.declared.machine.Local.TheVariants as local
use Rattle.curp_msg.specs.declared.message.Message.{Message}
use Rattle.curp_model.specs.Manager.{Doing, ManagerState, Migration, NewLists, Recovering, Replacing, Steady, adopted_at, adopted_message, adopts, attempt_at, counter_ends, expire, expires, fresh_keeper, given_in, gives, heard, install_on, last_number, lists_in_work, manager_input, manager_ordered, migrate, migrates, nudge, on_given, on_manager, on_prepared, on_recovered, on_taken, part_at, prepared_in, recover, recover_messages, recovered_in, recovered_part, recovers, replace, replaces, start_on, taken_in, tells_again, told, unless_numbers_end, version_adopted, version_in_work}
use Rattle.curp_model.specs.World.{World}
use Rattle.curp_facts.specs.Facts.{IsAdoptedNow, IsAmong, WasSent, lists_of_part}
use Rattle.curp_facts.specs.Names.{AdoptedOk, Names, RecoveringOk}
use Rattle.curp_law_kept.proofs.Gives.{entry_now, entry_numbered, numbered_now, filter_among, first_among, there_among, Nothing, Repeats, Again, AllAgain, adopted_again, nudge_again}
use Rattle.curp_law_runs.specs.Adopting.{Comes, FromRecovery, FromReplacement}
use Rattle.curp_base.proofs.Numbered.{place}

-- a word of adoption is of lists that were adopted
abbrev pub IsOld : World → NodeId → Body → Type 0
IsOld w node (body.Adopted a) = AdoptedOk w node a
IsOld w node _ = ⊤

abbrev pub AllOld : World → List Message → Type 0
AllOld w out = Each (λ (m : Message). IsOld w m.to m.body) out

-- an input to the manager adopts nothing, or one entry that comes behind the present one
pub data AdoptsOne (w : World) (r : Moved ManagerState) : Type 0 where
  NoNew : AllOld w r.messages → AdoptsOne w r
  OneNew : (c : PartConfig) → r.messages ≡ adopted_message c ∷ [] → Comes w (lists_of_part c) → AdoptsOne w r

-- the message of an input was sent to the manager
abbrev pub WasHeard : World → Input → Type 0
WasHeard w (input.Message m) = WasSent w (says m.from manager_node m.body)
WasHeard w _ = ⊤

again_old : (w : World) (node : NodeId) (b : Body) → Repeats w Nothing node b → IsOld w node b
again_old w node (body.Adopted a) k = elim k [ inl ok ↦ ok | inr none ↦ absurd none ]
again_old w node _ k = tt

all_again_old : (w : World) (out : List Message) → AllAgain w out → AllOld w out
all_again_old w out all = Each-weaker (Again w) (λ (m : Message). IsOld w m.to m.body) (λ (m : Message) k. again_old w m.to m.body k.repeats) out all

-- what is said to each of several nodes
said_each : (w : World) (nodes : List NodeId) (b : Body) → ((node : NodeId) → IsOld w node b) → AllOld w (says_each manager_node nodes b)
said_each w [] b old = tt
said_each w (node ∷ nodes) b old = (old node, said_each w nodes b old)

-- a refusal says nothing
unless : {A : Type 0} (w : World) (g : ManagerState) (act : A → Moved ManagerState) → ((x : A) → AllOld w (act x).messages) → (o : Result A ℕ) → AllOld w (unless_refused g act o).messages
unless w g act old (Ok x) = old x
unless w g act old (Err number) = tt

recover_says : (w : World) (node : NodeId) (o : Recover) → AllOld w (recover_messages node o)
recover_says w node o =
    Each-append (λ (m : Message). IsOld w m.to m.body) (install_on o.epoch o.backups ++ start_on o.part o.epoch o.witnesses) _
    (Each-append (λ (m : Message). IsOld w m.to m.body) (install_on o.epoch o.backups) _ (said_each w o.backups (body.Install o.epoch) (λ n. tt))
    (said_each w o.witnesses (body.Start (record { part = o.part; epoch = o.epoch })) (λ n. tt))) (tt, tt)

fresh_says : (w : World) (c : PartConfig) (kind : Keeper) (fresh : NodeId) → AllOld w (fresh_keeper c kind fresh)
fresh_says w c keeper.Backup fresh = (tt, tt)
fresh_says w c keeper.Witness fresh = (tt, tt)

module _ {w : World} (n : Names w) where
  -- ---- what is adopted

  again : (o : Option PartConfig) → ((c : PartConfig) → o ≡ Some c → IsAmong c w.manager.config.parts) → AdoptsOne w (tells_again w.manager o)
  again None its = NoNew tt
  again (Some c) its = NoNew (all_again_old w (adopted_message c ∷ []) (adopted_again n c (its c refl)))

  -- what is said to be adopted is a present entry
  adopted_at_among : (r : Recovered) (c : PartConfig) → adopted_at w.manager r ≡ Some c → IsAmong c w.manager.config.parts
  adopted_at_among r c = by_entry (part_at w.manager r.part) refl
    where
      by_epoch : (b : Bool) (d : PartConfig) → numbered w.manager.config.parts r.part ≡ Some d → only_if b d ≡ Some c → IsAmong c w.manager.config.parts
      by_epoch true d at e = let k = place w.manager.config.parts r.part d at in record { place = k.0; stands = subst (λ (x : PartConfig). At w.manager.config.parts k.0 x) (cc e) k.2 }
      by_epoch false d at e = absurd cc

      by_entry : (o : Option PartConfig) → numbered w.manager.config.parts r.part ≡ o → option_and_then (λ (e : PartConfig). only_if (e.epoch == r.epoch) e) o ≡ Some c → IsAmong c w.manager.config.parts
      by_entry None at e = absurd cc
      by_entry (Some d) at e = by_epoch (d.epoch == r.epoch) d at e

  -- the attempt that is finished comes behind the present entry
  attempt_adopts : (r : Recovered) (from : NodeId) → WasSent w (says from manager_node (body.Recovered r)) → (c : PartConfig) → numbered w.manager.config.parts r.part ≡ Some c
      → (d : Option Doing) → numbered w.manager.doing r.part ≡ d → AdoptsOne w (recovered_in w.manager r (attempt_at r.epoch d) (Some c))
  attempt_adopts r from sent c here (Some (Recovering node o)) its = by_epoch (o.epoch == r.epoch) refl
    where
      part : c.part ≡ r.part
      part = entry_numbered n r.part c here

      now : IsAdoptedNow w c
      now = numbered_now n r.part c here

      ok : RecoveringOk w (lists_of_part c) node o
      ok = n.doing c (Recovering node o) now (subst (λ (i : ℕ). numbered w.manager.doing i ≡ Some (Recovering node o)) (sym part) its)

      by_epoch : (b : Bool) → (o.epoch == r.epoch) ≡ b → AdoptsOne w (recovered_in w.manager r (only_if b (record { master = node; order = o })) (Some c))
      by_epoch true same =
          let epoch : o.epoch ≡ r.epoch = grind (arith, nat_tests) in
          let word : r ≡ (record { part = c.part; epoch = o.epoch }) = λ i. record { part = sym part i; epoch = sym epoch i } in
          OneNew (recovered_part c (record { master = node; order = o })) refl
          (FromRecovery (lists_of_part c) (n.top c now) o ok from (subst (λ (x : Recovered). WasSent w (says from manager_node (body.Recovered x))) word sent))
      by_epoch false other = again (adopted_at w.manager r) (adopted_at_among r)
  attempt_adopts r from sent c here (Some (Replacing kind fresh version backups witnesses)) its = again (adopted_at w.manager r) (adopted_at_among r)
  attempt_adopts r from sent c here (Some Steady) its = again (adopted_at w.manager r) (adopted_at_among r)
  attempt_adopts r from sent c here None its = again (adopted_at w.manager r) (adopted_at_among r)

  recovered_adopts : (r : Recovered) (from : NodeId) → WasSent w (says from manager_node (body.Recovered r)) → AdoptsOne w (on_recovered w.manager r)
  unfolding on_recovered
  recovered_adopts r from sent = by_entry (part_at w.manager r.part) refl
    where
      by_entry : (o : Option PartConfig) → numbered w.manager.config.parts r.part ≡ o
          → AdoptsOne w (recovered_in w.manager r (option_and_then (λ (c : PartConfig). attempt_at r.epoch (numbered w.manager.doing r.part)) o) o)
      by_entry None at = again (adopted_at w.manager r) (adopted_at_among r)
      by_entry (Some c) at = attempt_adopts r from sent c at (numbered w.manager.doing r.part) refl

  -- new lists are of the present entry's master
  work_adopts : (version : ℕ) (x : NewLists) (c : PartConfig) → IsAmong c w.manager.config.parts → (d : Option Doing) → lists_in_work version c d ≡ Some x
      → AdoptsOne w (adopts w.manager x.part.part (record x.part { version = x.version; backups = x.backups; witnesses = x.witnesses }))
  work_adopts version x c a (Some (Replacing kind fresh own backups witnesses)) e = by_version (own == version) e
    where
      new : NewLists
      new = record { part = c; version = own; backups = backups; witnesses = witnesses }

      one : AdoptsOne w (adopts w.manager c.part (record c { version = own; backups = backups; witnesses = witnesses }))
      one = OneNew (record c { version = own; backups = backups; witnesses = witnesses }) refl (FromReplacement (lists_of_part c) (n.top c (entry_now n c a)) refl)

      by_version : (b : Bool) → only_if b new ≡ Some x → AdoptsOne w (adopts w.manager x.part.part (record x.part { version = x.version; backups = x.backups; witnesses = x.witnesses }))
      by_version true e = let same : new ≡ x = cc e in subst (λ (y : NewLists). AdoptsOne w (adopts w.manager y.part.part (record y.part { version = y.version; backups = y.backups; witnesses = y.witnesses }))) same one
      by_version false e = absurd cc
  work_adopts version x c a (Some (Recovering node o)) e = absurd cc
  work_adopts version x c a (Some Steady) e = absurd cc
  work_adopts version x c a None e = absurd cc

  prepared_adopts : (version : ℕ) → AdoptsOne w (on_prepared w.manager version)
  unfolding on_prepared
  prepared_adopts version = by_work (version_in_work w.manager version) refl
    where
      by_work : (o : Option NewLists) → version_in_work w.manager version ≡ o → AdoptsOne w (prepared_in w.manager version o)
      by_work None e = again (version_adopted w.manager version) (λ c is. filter_among (λ (d : PartConfig). d.version == version) w.manager.config.parts c (first_among _ c is))
      by_work (Some x) e =
          let t = there_among _ x e in
          let m = at_mapped (λ (c : PartConfig). lists_in_work version c (numbered w.manager.doing c.part)) w.manager.config.parts t.place (Some x) t.stands in
          work_adopts version x m.0 (record { place = t.place; stands = m.1 }) (numbered w.manager.doing m.0.part) m.2

  -- ---- migrations

  taken_says : (t : Parcel) → AllOld w (on_taken w.manager t).messages
  unfolding on_taken
  taken_says t = by_migration w.manager.moving
    where
      by_target : (m : Migration) (o : Option PartConfig) → AllOld w (gives w.manager m t.package o).messages
      by_target m None = tt
      by_target m (Some target) = (tt, tt)

      by_migration : (o : Option Migration) → AllOld w (taken_in w.manager t o).messages
      by_migration None = tt
      by_migration (Some m) = cond_both (m.number == t.migration) _ _ (λ (r : Moved ManagerState). AllOld w r.messages) (λ y. by_target m (part_at w.manager m.target)) (λ y. tt)

  given_says : (number : ℕ) → AllOld w (on_given w.manager number).messages
  unfolding on_given
  given_says number = by_migration w.manager.moving
    where
      by_migration : (o : Option Migration) → AllOld w (given_in w.manager number o).messages
      by_migration None = tt
      by_migration (Some m) = cond_both (m.number == number) _ _ (λ (r : Moved ManagerState). AllOld w r.messages) (λ y. tt) (λ y. tt)

  -- ---- orders

  recovery_says : (part backup witness : ℕ) → AllOld w (recover w.manager part backup witness).messages
  unfolding recover
  recovery_says part backup witness = unless w w.manager (recovers w.manager part) (λ o. recover_says w _ o) _

  replacement_says : (kind : Keeper) (part at : ℕ) → AllOld w (replace w.manager kind part at).messages
  unfolding replace
  replacement_says kind part at =
      unless w w.manager (replaces w.manager part kind at) (λ c. Each-append (λ (m : Message). IsOld w m.to m.body) (fresh_keeper c kind _) _ (fresh_says w c kind _) (tt, tt)) _

  migration_says : (lo hi to : ℕ) → AllOld w (migrate w.manager lo hi to).messages
  unfolding migrate
  migration_says lo hi to = unless w w.manager (migrates w.manager) (λ m. (tt, tt)) _

  expiry_says : (client : ℕ) → AllOld w (expire w.manager client).messages
  unfolding expire
  expiry_says client = unless w w.manager (expires w.manager) (λ c. said_each w _ (body.ExpireClient c) (λ node. tt)) _

  nudge_says : AllOld w (nudge w.manager).messages
  unfolding nudge
  nudge_says = all_again_old w _ (nudge_again n)

  -- ---- inputs

  heard_adopts : (from : NodeId) (b : Body) → WasSent w (says from manager_node b) → AdoptsOne w (heard w.manager from b)
  heard_adopts from body.Fetch sent = NoNew (tt, tt)
  heard_adopts from (body.Recovered r) sent = recovered_adopts r from sent
  heard_adopts from (body.Prepared version) sent = prepared_adopts version
  heard_adopts from (body.Taken t) sent = NoNew (taken_says t)
  heard_adopts from (body.Given number) sent = NoNew (given_says number)
  heard_adopts from _ sent = NoNew tt

  told_adopts : (order : Local) → AdoptsOne w (told w.manager order)
  told_adopts (local.Recover part backup witness) = NoNew (recovery_says part backup witness)
  told_adopts (local.Replace kind part at) = NoNew (replacement_says kind part at)
  told_adopts (local.Migrate lo hi to) = NoNew (migration_says lo hi to)
  told_adopts local.Nudge = NoNew nudge_says
  told_adopts (local.Expire client) = NoNew (expiry_says client)
  told_adopts _ = NoNew tt

  unless_ended : (r : Moved ManagerState) → AdoptsOne w r → AdoptsOne w (unless_numbers_end w.manager r)
  unless_ended r one =
      cond_both (counter_ends w.manager.next r.state.next || rises_past last_number w.manager.config.serial r.state.config.serial) (quiet w.manager) r (AdoptsOne w)
      (λ y. NoNew tt) (λ y. one)

  message_adopts : (from : NodeId) (b : Body) → WasSent w (says from manager_node b) → AdoptsOne w (on_manager w.manager from b)
  unfolding on_manager
  message_adopts from b sent = unless_ended (heard w.manager from b) (heard_adopts from b sent)

  order_adopts : (order : Local) → AdoptsOne w (manager_ordered w.manager order)
  unfolding manager_ordered
  order_adopts order = unless_ended (told w.manager order) (told_adopts order)

  -- an input to the manager adopts one entry at most
  pub manager_adopts : (given : Input) → WasHeard w given → AdoptsOne w (manager_input w.manager given)
  manager_adopts (input.Local order) sent = order_adopts order
  manager_adopts (input.Message m) sent = message_adopts m.from m.body sent
