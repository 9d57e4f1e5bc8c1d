-- An input by which the manager adopts no recovery leaves each entry its partition, its epoch and its master.
use Rattle.std.proofs.Common.{◌≡◌, inl, inr, ℕ, ◌+◌, ◌||◌, ◌==◌, Bool, true, false, if◌then◌else◌, map, refl, ap, sym, ◌∙◌, subst, Option, Some, None, Result, Ok, Err}
use Rattle.std.proofs.lemmas.Bool.{cond_both}
use Rattle.curp_base.specs.Cases.{only_if}
use Rattle.curp_base.specs.Words.{At, numbered, rises_past}
use Rattle.curp_cmd.specs.declared.migration.Package.{Package}
use Rattle.curp_cmd.specs.declared.node.NodeId.{NodeId}
use Rattle.curp_msg.specs.Moved.{Moved, quiet, unless_refused}
use Rattle.curp_msg.specs.declared.body.Body.{Body}
use Rattle.curp_msg.specs.declared.body.Body.TheVariants as body
use Rattle.curp_msg.specs.declared.body.Recovered.{Recovered}
use Rattle.curp_msg.specs.declared.config.PartConfig.{PartConfig}
use Rattle.curp_msg.specs.Input.{Input}
use Rattle.curp_msg.specs.Input as input
use Rattle.curp_msg.specs.declared.machine.Local.{Local}
use Rattle.curp_msg.specs.declared.machine.Local.TheVariants as local
use Rattle.curp_model.specs.Manager as manager
use Rattle.curp_model.specs.Manager.{Attempted, Doing, ManagerState, Migration, NewLists, Recovering, Replacing, Steady, adopted_at, adoption, adopts, client_for, counter_ends, expires, finished, given_in, gives, heard, last_number, lists_in_work, manager_input, migrates, move_for, moved_part, nudge, part_at, prepared_in, recovered_in, recovery_for, recovers, replacement_for, replaces, taken_in, tells_again, told, unless_numbers_end, version_adopted, version_in_work}
use Rattle.curp_base.proofs.Numbered.{numbered_set_cases, at_place}
use Rattle.curp_law_linear.proofs.Parts.{numbered_map}
use Rattle.curp_law_kept.proofs.Gives.{there_among}
use Rattle.curp_base.proofs.Lists.{at_mapped}

-- an entry has the partition, the epoch and the master of the one that stood at that number
pub record EntryKept (g : ManagerState) (n : ℕ) (c : PartConfig) : Type 0 where
  pub entry : PartConfig
  pub here : numbered g.config.parts n ≡ Some entry
  pub its_part : entry.part ≡ c.part
  pub its_epoch : entry.epoch ≡ c.epoch
  pub its_master : entry.master ≡ c.master

module _ (g : ManagerState) (entries : (k : ℕ) (c : PartConfig) → At g.config.parts k c → c.part ≡ k + 1) where
  -- each of them
  abbrev pub Keeps : Moved ManagerState → Type 0
  Keeps r = (n : ℕ) (c : PartConfig) → numbered r.state.config.parts n ≡ Some c → EntryKept g n c

  same : (n : ℕ) (c : PartConfig) → numbered g.config.parts n ≡ Some c → EntryKept g n c
  same n c here = record { entry = c; here = here; its_part = refl; its_epoch = refl; its_master = refl }

  unless : {A : Type 0} (act : A → Moved ManagerState) → ((x : A) → Keeps (act x)) → (o : Result A ℕ) → Keeps (unless_refused g act o)
  unless act keeps (Ok x) = keeps x
  unless act keeps (Err number) = same

  again : (o : Option PartConfig) → Keeps (tells_again g o)
  again None = same
  again (Some c) = same

  -- ---- new lists

  -- the lists in work are of an entry
  work_at : (version : ℕ) (p : NewLists) → version_in_work g version ≡ Some p → numbered g.config.parts p.part.part ≡ Some p.part
  work_at version p is =
      let a = there_among (map (λ (c : PartConfig). lists_in_work version c (numbered g.doing c.part)) g.config.parts) p is in
      let m = at_mapped (λ (c : PartConfig). lists_in_work version c (numbered g.doing c.part)) g.config.parts a.place (Some p) a.stands in
      let own : p.part ≡ m.0 = of m.0 (numbered g.doing m.0.part) m.2 in
      subst (λ (c : PartConfig). numbered g.config.parts c.part ≡ Some c) (sym own) (at_place g.config.parts a.place m.0.part m.0 (entries a.place m.0 m.1) m.1)
    where
      of : (c : PartConfig) (d : Option Doing) → lists_in_work version c d ≡ Some p → p.part ≡ c
      of c (Some (Replacing kind fresh own backups witnesses)) e = by_version (own == version) e
        where
          by_version : (b : Bool) → only_if b (record { part = c; version = own; backups = backups; witnesses = witnesses }) ≡ Some p → p.part ≡ c
          by_version true e = part e
            where
              part : {x y : NewLists} → Some x ≡ Some y → y.part ≡ x.part
              part {x} {y} e = let one : x ≡ y = cc in ap (λ (z : NewLists). z.part) (sym one)
          by_version false e = absurd cc
      of c (Some Steady) e = absurd cc
      of c (Some (Recovering node order)) e = absurd cc
      of c None e = absurd cc

  prepared : (version : ℕ) → Keeps (manager.on_prepared g version)
  unfolding manager.on_prepared
  prepared version = go (version_in_work g version) refl
    where
      go : (o : Option NewLists) → version_in_work g version ≡ o → Keeps (prepared_in g version o)
      go None is = again (version_adopted g version)
      go (Some p) is = λ n c here. elim (numbered_set_cases g.config.parts p.part.part p.part _ (work_at version p is) n c here) [
        | inl other ↦ same n c other.1
        | inr now ↦ record {
          entry = p.part;
          here = subst (λ (i : ℕ). numbered g.config.parts i ≡ Some p.part) (sym now.0) (work_at version p is);
          its_part = ap (λ (z : PartConfig). z.part) now.1;
          its_epoch = ap (λ (z : PartConfig). z.epoch) now.1;
          its_master = ap (λ (z : PartConfig). z.master) now.1;
        }
      ]

  -- ---- migrations

  gives_keeps : (m : Migration) (carried : Package) (o : Option PartConfig) → Keeps (gives g m carried o)
  gives_keeps m carried None = same
  gives_keeps m carried (Some target) = same

  taken : (t : _) → Keeps (manager.on_taken g t)
  unfolding manager.on_taken
  taken t = go g.moving
    where
      go : (o : Option Migration) → Keeps (taken_in g t o)
      go None = same
      go (Some m) = cond_both (m.number == t.migration) _ _ Keeps (λ y. gives_keeps m t.package (part_at g m.target)) (λ y. same)

  given : (number : ℕ) → Keeps (manager.on_given g number)
  unfolding manager.on_given
  given number = go g.moving
    where
      kept : (m : Migration) (x : PartConfig) → ((moved_part m x).part ≡ x.part) × ((moved_part m x).epoch ≡ x.epoch) × ((moved_part m x).master ≡ x.master)
      kept m x = cond_both (x.part == m.source) _ _ (λ (c : PartConfig). (c.part ≡ x.part) × (c.epoch ≡ x.epoch) × (c.master ≡ x.master)) (λ y. (refl, refl, refl))
          (λ y. cond_both (x.part == m.target) _ _ (λ (c : PartConfig). (c.part ≡ x.part) × (c.epoch ≡ x.epoch) × (c.master ≡ x.master)) (λ z. (refl, refl, refl)) (λ z. (refl, refl, refl)))

      go : (o : Option Migration) → Keeps (given_in g number o)
      go None = same
      go (Some m) = cond_both (m.number == number) _ _ Keeps (λ y n c here.
          let f = numbered_map (moved_part m) g.config.parts n c here in
          let k = kept m f.0 in
          record {
            entry = f.0;
            here = f.1;
            its_part = sym k.0 ∙ ap (λ (z : PartConfig). z.part) (sym f.2);
            its_epoch = sym k.1 ∙ ap (λ (z : PartConfig). z.epoch) (sym f.2);
            its_master = sym k.2 ∙ ap (λ (z : PartConfig). z.master) (sym f.2);
          }) (λ y. same)

  -- ---- inputs

  ended : (r : Moved ManagerState) → Keeps r → Keeps (unless_numbers_end g r)
  ended r keeps = cond_both (counter_ends g.next r.state.next || rises_past last_number g.config.serial r.state.config.serial) _ _ Keeps (λ y. same) (λ y. keeps)

  told_keeps : (order : Local) → Keeps (told g order)
  unfolding manager.recover manager.replace manager.migrate manager.expire nudge
  told_keeps (local.Recover part backup witness) = unless (recovers g part) (λ x. same) (recovery_for g part backup witness)
  told_keeps (local.Replace kind part place) = unless (replaces g part kind place) (λ x. same) (replacement_for g kind part place)
  told_keeps (local.Migrate lo hi to) = unless (migrates g) (λ x. same) (move_for g lo hi to)
  told_keeps local.Nudge = same
  told_keeps (local.Expire client) = unless (expires g) (λ x. same) (client_for g client)
  told_keeps _ = same

  -- one that can't be adopted, as the serial would end, changes nothing
  recovered : (r : Recovered) → (if rises_past last_number g.config.serial (g.config.serial + 1) then None else finished g r) ≡ None → Keeps (unless_numbers_end g (manager.on_recovered g r))
  unfolding manager.on_recovered
  recovered r none = go (finished g r) (part_at g r.part) (rises_past last_number g.config.serial (g.config.serial + 1)) refl none
    where
      go : (a : Option Attempted) (c : Option PartConfig) (b : Bool) → rises_past last_number g.config.serial (g.config.serial + 1) ≡ b → (if b then None else a) ≡ None → Keeps (unless_numbers_end g (recovered_in g r a c))
      go None c b is e = ended (recovered_in g r None c) (again (adopted_at g r))
      go (Some a) None b is e = ended (recovered_in g r (Some a) None) (again (adopted_at g r))
      go (Some a) (Some c) false is e = absurd cc
      go (Some a) (Some c) true is e = stops (counter_ends g.next g.next) (rises_past last_number g.config.serial (g.config.serial + 1)) is (adopts g r.part (manager.recovered_part c a))
        where
          stops : (x y : Bool) → y ≡ true → (r : Moved ManagerState) → Keeps (if x || y then quiet g else r)
          stops true y e r = same
          stops false true e r = same
          stops false false e r = absurd cc

  heard_keeps : (from : NodeId) (b : Body) → adoption g (input.Message (record { from = from; to = from; body = b })) ≡ None → Keeps (unless_numbers_end g (heard g from b))
  heard_keeps from body.Fetch none = ended (heard g from body.Fetch) same
  heard_keeps from (body.Recovered r) none = recovered r none
  heard_keeps from (body.Prepared version) none = ended (heard g from (body.Prepared version)) (prepared version)
  heard_keeps from (body.Taken t) none = ended (heard g from (body.Taken t)) (taken t)
  heard_keeps from (body.Given number) none = ended (heard g from (body.Given number)) (given number)
  heard_keeps from _ none = ended (quiet g) same

  -- an input that adopts no recovery leaves each entry its partition, its epoch and its master
  pub entries_keep : (given : Input) → adoption g given ≡ None → Keeps (manager_input g given)
  unfolding manager.on_manager manager.manager_ordered
  entries_keep (input.Local order) none = ended (told g order) (told_keeps order)
  entries_keep (input.Message m) none = heard_keeps m.from m.body none
