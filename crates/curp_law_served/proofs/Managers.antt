-- What the manager does in the world of a served run: nothing migrates and nobody is gone, so it orders recoveries, adopts, and
-- tells its configuration.
use Rattle.std.proofs.Common.{◌≡◌, ◌≤◌, ◌<◌, ◌⊎◌, ◌||◌, inl, inr, ℕ, ◌+◌, List, [], ◌∷◌, ◌++◌, Option, Some, None, refl, ap, sym, subst, arith}
use Rattle.std.specs.Prelude.{Result, Ok, Err}
use Rattle.std.specs.Bool.{⊤}
use Rattle.std.proofs.lemmas.Bool.{cond_both}
use Rattle.curp_base.specs.Words.{Each, rises_past}
use Rattle.curp_base.proofs.Lists.{Each-append, Each-map}
use Rattle.curp_cmd.specs.Node.{manager_node, master_node}
use Rattle.curp_cmd.specs.declared.node.NodeId.{NodeId}
use Rattle.curp_msg.specs.Moved.{Moved, quiet, says, unless_refused}
use Rattle.curp_msg.specs.declared.body.Body.{Body}
use Rattle.curp_msg.specs.declared.body.Body.TheVariants as body
use Rattle.curp_msg.specs.declared.body.Parcel.{Parcel}
use Rattle.curp_msg.specs.declared.body.Recover.{Recover}
use Rattle.curp_msg.specs.declared.body.Recovered.{Recovered}
use Rattle.curp_msg.specs.declared.config.Config.{Config}
use Rattle.curp_msg.specs.declared.config.PartConfig.{PartConfig}
use Rattle.curp_msg.specs.Input.{Input}
use Rattle.curp_msg.specs.Input as input
use Rattle.curp_msg.specs.declared.machine.Local.{Local}
use Rattle.curp_msg.specs.declared.machine.Local.TheVariants as local
use Rattle.curp_msg.specs.declared.message.Message.{Message}
use Rattle.curp_model.specs.Manager.{Attempted, ManagerState, Migration, NewLists, Next, adopted_at, adopts, counter_ends, finished, given_in, heard, install_on, last_number, manager_input, manager_ordered, on_given, on_manager, on_prepared, on_recovered, on_taken, part_at, prepared_in, recover, recover_messages, recovered_in, recovered_part, recovers, recovery_for, start_on, taken_in, tells_again, told, unless_numbers_end, version_adopted, version_in_work}

-- an order that a served run gives, or a message
abbrev pub IsServed : Input → Type 0
IsServed (input.Message x) = ⊤
IsServed (input.Local (local.Invoke command)) = ⊤
IsServed (input.Local local.Fetch) = ⊤
IsServed (input.Local local.Sync) = ⊤
IsServed (input.Local local.Collect) = ⊤
IsServed (input.Local (local.Recover part backup witness)) = ⊤
IsServed (input.Local _) = ⊥

-- a configuration is the present one, or has a lower serial
abbrev pub IsOlder : Config → Config → Type 0
IsOlder now config = (config ≡ now) ⊎ (config.serial < now.serial)

-- of what the manager says: configurations are present or older ones, and nothing is of migrations or expiries
abbrev pub IsPlain : Config → Body → Type 0
IsPlain now (body.Configuration config) = IsOlder now config
IsPlain now (body.TakeOut t) = ⊥
IsPlain now (body.GiveIn g) = ⊥
IsPlain now (body.ExpireClient client) = ⊥
IsPlain now _ = ⊤

-- no number rises by more than one recovery takes
pub record NextRises (f : ℕ) (n k : Next) : Type 0 where
  pub epoch : k.epoch ≤ n.epoch + 1
  pub version : k.version ≤ n.version + 1
  pub master : k.master ≤ n.master + 1
  pub backup : k.backup ≤ n.backup + f
  pub witness : k.witness ≤ n.witness + f
  pub migration : k.migration ≤ n.migration

-- what such an input leaves of the manager
pub record Advances (g k : ManagerState) : Type 0 where
  pub shape : k.shape ≡ g.shape
  pub still : k.moving ≡ None
  pub next : NextRises g.shape.f g.next k.next
  pub config : (k.config ≡ g.config) ⊎ (k.config.serial ≡ g.config.serial + 1)

-- and what the manager says then. It completes nothing
pub record ManagerGoes (g : ManagerState) (r : Moved ManagerState) : Type 0 where
  pub advances : Advances g r.state
  pub says : Each (λ (x : Message). IsPlain g.config x.body) r.messages
  pub idle : r.completed ≡ None

module _ (g : ManagerState) (still : g.moving ≡ None) where
  abbrev Goes : Moved ManagerState → Type 0
  Goes r = ManagerGoes g r

  -- and it isn't refused, and no number is taken
  abbrev Heard : Moved ManagerState → Type 0
  Heard r = ManagerGoes g r × (r.refused ≡ 0) × (r.state.next ≡ g.next)

  same_numbers : NextRises g.shape.f g.next g.next
  same_numbers = record { epoch = omega arith; version = omega arith; master = omega arith; backup = omega arith; witness = omega arith; migration = omega arith }

  pub advances_self : Advances g g
  advances_self = record { shape = refl; still = still; next = same_numbers; config = inl refl }

  rests : Goes (quiet g)
  rests = record { advances = advances_self; says = tt; idle = refl }

  -- ---- what it hears

  again : (o : Option PartConfig) → Heard (tells_again g o)
  again None = (rests, refl, refl)
  again (Some c) = (record { advances = advances_self; says = (tt, tt); idle = refl }, refl, refl)

  adopts_goes : (p : ℕ) (c : PartConfig) → Heard (adopts g p c)
  adopts_goes p c = (record { advances = record { shape = refl; still = still; next = same_numbers; config = inr refl }; says = (tt, tt); idle = refl }, refl, refl)

  recovered_goes : (r : Recovered) (a : Option Attempted) (c : Option PartConfig) → Heard (recovered_in g r a c)
  recovered_goes r (Some a) (Some c) = adopts_goes r.part (recovered_part c a)
  recovered_goes r (Some a) None = again (adopted_at g r)
  recovered_goes r None c = again (adopted_at g r)

  prepared_goes : (version : ℕ) (o : Option NewLists) → Heard (prepared_in g version o)
  prepared_goes version (Some p) = adopts_goes p.part.part _
  prepared_goes version None = again (version_adopted g version)

  taken_goes : (t : Parcel) → Heard (on_taken g t)
  unfolding on_taken
  taken_goes t = subst (λ (o : Option Migration). Heard (taken_in g t o)) (sym still) (rests, refl, refl)

  given_goes : (number : ℕ) → Heard (on_given g number)
  unfolding on_given
  given_goes number = subst (λ (o : Option Migration). Heard (given_in g number o)) (sym still) (rests, refl, refl)

  on_recovered_goes : (r : Recovered) → Heard (on_recovered g r)
  unfolding on_recovered
  on_recovered_goes r = recovered_goes r (finished g r) (part_at g r.part)

  on_prepared_goes : (version : ℕ) → Heard (on_prepared g version)
  unfolding on_prepared
  on_prepared_goes version = prepared_goes version (version_in_work g version)

  heard_goes : (from : NodeId) (b : Body) → Heard (heard g from b)
  heard_goes from body.Fetch = (record { advances = advances_self; says = (inl refl, tt); idle = refl }, refl, refl)
  heard_goes from (body.Recovered r) = on_recovered_goes r
  heard_goes from (body.Prepared version) = on_prepared_goes version
  heard_goes from (body.Taken t) = taken_goes t
  heard_goes from (body.Given number) = given_goes number
  heard_goes from _ = (rests, refl, refl)

  -- ---- what it is ordered

  abbrev Plain : Message → Type 0
  Plain x = IsPlain g.config x.body

  order_says : (master : NodeId) (o : Recover) → Each Plain (recover_messages master o)
  order_says master o =
      Each-append Plain (install_on o.epoch o.backups ++ start_on o.part o.epoch o.witnesses) _
      (Each-append Plain (install_on o.epoch o.backups) _ (Each-map Plain (λ to. says manager_node to (body.Install o.epoch)) o.backups (all o.backups))
      (Each-map Plain (λ to. says manager_node to (body.Start (record { part = o.part; epoch = o.epoch }))) o.witnesses (all o.witnesses))) (tt, tt)
    where
      all : (xs : List NodeId) → Each (λ (x : NodeId). ⊤) xs
      all [] = tt
      all (x ∷ xs) = (tt, all xs)

  recovers_goes : (p : ℕ) (r : Result Recover ℕ) → Goes (unless_refused g (recovers g p) r)
  recovers_goes p (Ok o) = record {
    advances = record {
      shape = refl;
      still = still;
      next = record { epoch = omega arith; version = omega arith; master = omega arith; backup = omega arith; witness = omega arith; migration = omega arith };
      config = inl refl;
    };
    says = order_says (master_node g.next.master) o;
    idle = refl;
  }
  recovers_goes p (Err number) = record { advances = advances_self; says = tt; idle = refl }

  recover_goes : (p backup witness : ℕ) → Goes (recover g p backup witness)
  unfolding recover
  recover_goes p backup witness = recovers_goes p (recovery_for g p backup witness)

  told_goes : (order : Local) → IsServed (input.Local order) → Goes (told g order)
  told_goes (local.Recover part backup witness) its = recover_goes part backup witness
  told_goes (local.Invoke command) its = rests
  told_goes local.Fetch its = rests
  told_goes local.Sync its = rests
  told_goes local.Collect its = rests
  told_goes (local.Retry seq) its = absurd its
  told_goes (local.Replace kind part place) its = absurd its
  told_goes (local.Migrate lo hi to) its = absurd its
  told_goes local.Nudge its = absurd its
  told_goes (local.Expire client) its = absurd its

  ends_goes : (r : Moved ManagerState) → Goes r → Goes (unless_numbers_end g r)
  ends_goes r goes = cond_both (counter_ends g.next r.state.next || rises_past last_number g.config.serial r.state.config.serial) _ _ Goes (λ y. rests) (λ z. goes)

  -- an input that a served run gives
  pub manager_goes : (given : Input) → IsServed given → Goes (manager_input g given)
  unfolding on_manager manager_ordered
  manager_goes (input.Local order) its = ends_goes (told g order) (told_goes order its)
  manager_goes (input.Message x) its = ends_goes (heard g x.from x.body) (heard_goes x.from x.body).0

-- no message to it is refused, and none takes a number
module _ (g : ManagerState) (still : g.moving ≡ None) where
  pub manager_takes : (from : NodeId) (b : Body)
      → ((on_manager g from b).refused ≡ 0) × ((on_manager g from b).state.next ≡ g.next)
  unfolding on_manager
  manager_takes from b = cond_both (counter_ends g.next (heard g from b).state.next || rises_past last_number g.config.serial (heard g from b).state.config.serial) _ _
      (λ (r : Moved ManagerState). (r.refused ≡ 0) × (r.state.next ≡ g.next)) (λ y. (refl, refl)) (λ z. let h = heard_goes g still from b in (h.1, h.2))

-- ---- what is older stays so

module _ (g k : ManagerState) (a : Advances g k) where
  pub older_later : (config : Config) → IsOlder g.config config → IsOlder k.config config
  older_later config older = by a.config older
    where
      by : (k.config ≡ g.config) ⊎ (k.config.serial ≡ g.config.serial + 1) → IsOlder g.config config
          → IsOlder k.config config
      by (inl same) is = subst (λ (now : Config). IsOlder now config) (sym same) is
      by (inr more) (inl same) = let serial : config.serial ≡ g.config.serial = ap (λ (c : Config). c.serial) same in inr (omega (arith, more, serial))
      by (inr more) (inr less) = inr (omega (arith, more, less))

  pub plain_later : (b : Body) → IsPlain g.config b → IsPlain k.config b
  plain_later (body.Configuration config) is = older_later config is
  plain_later (body.TakeOut t) is = absurd is
  plain_later (body.GiveIn g) is = absurd is
  plain_later (body.ExpireClient client) is = absurd is
  plain_later _ is = tt
