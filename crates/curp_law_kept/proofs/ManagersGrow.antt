-- One input grows the manager.
use Rattle.std.proofs.Common.{◌≡◌, ℕ, ◌==◌, ◌||◌, List, [], ◌∷◌, Bool, true, false, refl, arith, Option, Some, None}
use Rattle.std.specs.BTreeSet.{insert_key}
use Rattle.std.specs.Ordering.{nat_cmp, match_ordering}
use Rattle.std.specs.declared.cmp.Ordering.{Ordering}
use Rattle.std.specs.declared.cmp.Ordering.TheVariants.{Less, Equal, Greater}
use Rattle.curp_model.specs.Master.{has}
use Rattle.std.proofs.lemmas.Bool.{cond_both, or_right}
use Rattle.curp_cmd.specs.declared.migration.Package.{Package}
use Rattle.curp_cmd.specs.declared.node.Keeper.{Keeper}
use Rattle.curp_cmd.specs.declared.node.Keeper.TheVariants as keeper
use Rattle.curp_cmd.specs.declared.node.NodeId.{NodeId}
use Rattle.curp_msg.specs.declared.body.Body.{Body}
use Rattle.curp_msg.specs.declared.body.Body.TheVariants as body
use Rattle.curp_msg.specs.declared.body.Parcel.{Parcel}
use Rattle.curp_msg.specs.declared.config.PartConfig.{PartConfig}
use Rattle.curp_msg.specs.declared.machine.Local.{Local}
use Rattle.curp_msg.specs.declared.machine.Local.TheVariants as local
use Rattle.curp_model.specs.Manager.{Attempted, ManagerState, Migration, NewLists, Next, adopted_at, adopts, after_replace_numbers, client_for, counter_ends, expire, expires, finished, given_in, gives, heard, last_number, manager_input, manager_ordered, migrate, migrates, move_for, nudge, on_given, on_manager, on_prepared, on_recovered, on_taken, part_at, prepared_in, recover, recovered_in, recovers, recovery_for, replace, replacement_for, replaces, taken_in, tells_again, told, unless_numbers_end, version_adopted, version_in_work}
use Rattle.curp_msg.specs.declared.body.Recovered.{Recovered}
use Rattle.curp_msg.specs.Input.{Input}
use Rattle.curp_msg.specs.Input as input
use Rattle.curp_base.specs.Words.{rises_past}
use Rattle.std.specs.Prelude.{Result, Ok, Err}
use Rattle.curp_msg.specs.Moved.{Moved, unless_refused}
use Rattle.curp_facts.specs.Growth.{ManagerGrows, NextGrows}

next_self : (n : Next) → NextGrows n n
next_self n = record { epoch = omega arith; version = omega arith; master = omega arith; backup = omega arith; witness = omega arith; migration = omega arith }

-- a manager that stays
pub manager_self : (g : ManagerState) → ManagerGrows g g
manager_self g = record { shape = refl; next = next_self g.next; gone = λ c h. h }

abbrev Goes : ManagerState → Moved ManagerState → Type 0
Goes g r = ManagerGrows g r.state

-- what a replacement takes is above
replaced : (n : Next) (k : Keeper) → NextGrows n (after_replace_numbers n k)
replaced n keeper.Backup = record { epoch = omega arith; version = omega arith; master = omega arith; backup = omega arith; witness = omega arith; migration = omega arith }
replaced n keeper.Witness = record { epoch = omega arith; version = omega arith; master = omega arith; backup = omega arith; witness = omega arith; migration = omega arith }

-- what is inserted drops nothing
inserted : (n : ℕ) (xs : List ℕ) (i : ℕ) → has i xs ≡ true → has i (insert_key nat_cmp xs n) ≡ true
inserted n [] i h = absurd cc
inserted n (x ∷ xs) i h = go (nat_cmp n x) (inserted n xs i) h
  where
    goes : (b : Bool) → (has i xs ≡ true → has i (insert_key nat_cmp xs n) ≡ true) → (b || has i xs) ≡ true → (b || has i (insert_key nat_cmp xs n)) ≡ true
    goes true more h = refl
    goes false more h = more h

    go : (r : Ordering) → (has i xs ≡ true → has i (insert_key nat_cmp xs n) ≡ true) → has i (x ∷ xs) ≡ true → has i (match_ordering r (n ∷ x ∷ xs) (x ∷ xs) (x ∷ insert_key nat_cmp xs n)) ≡ true
    go Less more h = or_right (n == i) _ h
    go Equal more h = h
    go Greater more h = goes (x == i) more h

module _ (g : ManagerState) where
  rests : ManagerGrows g g
  rests = manager_self g

  unless_goes : {A : Type 0} (act : A → Moved ManagerState) (r : Result A ℕ) → ((x : A) → Goes g (act x)) → Goes g (unless_refused g act r)
  unless_goes act (Ok x) goes = goes x
  unless_goes act (Err number) goes = rests

  recover_goes : (p backup witness : ℕ) → Goes g (recover g p backup witness)
  unfolding recover
  recover_goes p backup witness = unless_goes (recovers g p) (recovery_for g p backup witness)
      (λ o. record { shape = refl; next = record { epoch = omega arith; version = omega arith; master = omega arith; backup = omega arith; witness = omega arith; migration = omega arith }; gone = λ c h. h })

  replace_goes : (kind : Keeper) (p place : ℕ) → Goes g (replace g kind p place)
  unfolding replace
  replace_goes kind p place = unless_goes (replaces g p kind place) (replacement_for g kind p place)
      (λ c. record { shape = refl; next = replaced g.next kind; gone = λ c h. h })

  -- ---- adoption

  adopts_goes : (p : ℕ) (c : PartConfig) → Goes g (adopts g p c)
  adopts_goes p c = record { shape = refl; next = next_self g.next; gone = λ c h. h }

  again_goes : (o : Option PartConfig) → Goes g (tells_again g o)
  again_goes None = rests
  again_goes (Some c) = rests

  recovered_in_goes : (r : Recovered) (a : Option Attempted) (c : Option PartConfig) → Goes g (recovered_in g r a c)
  recovered_in_goes r (Some a) (Some c) = adopts_goes r.part _
  recovered_in_goes r (Some a) None = again_goes (adopted_at g r)
  recovered_in_goes r None c = again_goes (adopted_at g r)

  recovered_goes : (r : Recovered) → Goes g (on_recovered g r)
  unfolding on_recovered
  recovered_goes r = recovered_in_goes r (finished g r) (part_at g r.part)

  prepared_in_goes : (version : ℕ) (o : Option NewLists) → Goes g (prepared_in g version o)
  prepared_in_goes version (Some p) = adopts_goes p.part.part _
  prepared_in_goes version None = again_goes (version_adopted g version)

  prepared_goes : (version : ℕ) → Goes g (on_prepared g version)
  unfolding on_prepared
  prepared_goes version = prepared_in_goes version (version_in_work g version)

  -- ---- migrations

  migrate_goes : (lo hi to : ℕ) → Goes g (migrate g lo hi to)
  unfolding migrate
  migrate_goes lo hi to = unless_goes (migrates g) (move_for g lo hi to)
      (λ v. record { shape = refl; next = record { epoch = omega arith; version = omega arith; master = omega arith; backup = omega arith; witness = omega arith; migration = omega arith }; gone = λ c h. h })

  gives_goes : (m : Migration) (carried : Package) (o : Option PartConfig) → Goes g (gives g m carried o)
  gives_goes m carried None = rests
  gives_goes m carried (Some target) = record { shape = refl; next = next_self g.next; gone = λ c h. h }

  taken_in_goes : (t : Parcel) (o : Option Migration) → Goes g (taken_in g t o)
  taken_in_goes t None = rests
  taken_in_goes t (Some m) = cond_both (m.number == t.migration) _ _ (Goes g) (λ y. gives_goes m t.package (part_at g m.target)) (λ y. rests)

  taken_goes : (t : Parcel) → Goes g (on_taken g t)
  unfolding on_taken
  taken_goes t = taken_in_goes t g.moving

  given_in_goes : (number : ℕ) (o : Option Migration) → Goes g (given_in g number o)
  given_in_goes number None = rests
  given_in_goes number (Some m) = cond_both (m.number == number) _ _ (Goes g) (λ y. record { shape = refl; next = next_self g.next; gone = λ c h. h }) (λ y. rests)

  given_goes : (number : ℕ) → Goes g (on_given g number)
  unfolding on_given
  given_goes number = given_in_goes number g.moving

  expire_goes : (client : ℕ) → Goes g (expire g client)
  unfolding expire
  expire_goes client = unless_goes (expires g) (client_for g client) (λ k. record { shape = refl; next = next_self g.next; gone = λ c h. inserted k g.gone c h })

  nudge_goes : Goes g (nudge g)
  unfolding nudge
  nudge_goes = rests

  -- ---- inputs

  ends_goes : (r : Moved ManagerState) → Goes g r → Goes g (unless_numbers_end g r)
  ends_goes r goes = cond_both (counter_ends g.next r.state.next || rises_past last_number g.config.serial r.state.config.serial) _ _ (Goes g) (λ y. rests) (λ y. goes)

  heard_goes : (from : NodeId) (b : Body) → Goes g (heard g from b)
  heard_goes from body.Fetch = rests
  heard_goes from (body.Recovered r) = recovered_goes r
  heard_goes from (body.Prepared version) = prepared_goes version
  heard_goes from (body.Taken t) = taken_goes t
  heard_goes from (body.Given number) = given_goes number
  heard_goes from _ = rests

  told_goes : (order : Local) → Goes g (told g order)
  told_goes (local.Recover part backup witness) = recover_goes part backup witness
  told_goes (local.Replace kind part place) = replace_goes kind part place
  told_goes (local.Migrate lo hi to) = migrate_goes lo hi to
  told_goes local.Nudge = nudge_goes
  told_goes (local.Expire client) = expire_goes client
  told_goes _ = rests

  -- a message grows the manager
  pub manager_grows : (from : NodeId) (b : Body) → ManagerGrows g (on_manager g from b).state
  unfolding on_manager
  manager_grows from b = ends_goes (heard g from b) (heard_goes from b)

  -- and so does an order
  pub manager_ordered_grows : (order : Local) → ManagerGrows g (manager_ordered g order).state
  unfolding manager_ordered
  manager_ordered_grows order = ends_goes (told g order) (told_goes order)

  -- any input grows the manager
  pub manager_input_grows : (given : Input) → ManagerGrows g (manager_input g given).state
  manager_input_grows (input.Local order) = manager_ordered_grows order
  manager_input_grows (input.Message m) = manager_grows m.from m.body
