-- The routes of migrations: from which partition to which each was ordered, and what is known of those that are done.
use Rattle.std.specs.Prelude.{◌≡◌, ◌≢◌, ◌≤◌, ◌<◌, ℕ, ◌+◌, Some}
use Rattle.curp_cmd.specs.Node.{manager_node}
use Rattle.curp_cmd.specs.declared.entry.Entry.{Entry}
use Rattle.curp_cmd.specs.declared.entry.Entry.TheVariants.{Give}
use Rattle.curp_cmd.specs.declared.migration.Package.{Package}
use Rattle.curp_cmd.specs.declared.node.NodeId.{NodeId}
use Rattle.curp_msg.specs.Moved.{says}
use Rattle.curp_msg.specs.declared.body.Body.TheVariants as body
use Rattle.curp_msg.specs.declared.body.Parcel.{Parcel}
use Rattle.curp_msg.specs.declared.body.TakeOut.{TakeOut}
use Rattle.curp_model.specs.Manager.{Migration}
use Rattle.curp_model.specs.World.{World}
use Rattle.curp_facts.specs.Facts.{WasOrdered, WasSent}
use Rattle.curp_facts.specs.Said.{StoredEntry}

-- the order to take a migration's range out
abbrev pub order_of : Migration → TakeOut
order_of m = record { migration = m.number; lo = m.range.lo; hi = m.range.hi; ordered = m.range.ordered }

-- The migration in work has the last number that was given. Its range was ordered to be taken out of its source; whatever is
-- given under its number goes to its target, which is another partition
pub record InWork (w : World) (m : Migration) : Type 0 where
  pub last : m.number + 1 ≡ w.manager.next.migration
  pub ordered : WasOrdered w m.source (body.TakeOut (order_of m))
  pub to_target : (part : ℕ) (g : Parcel) → WasOrdered w part (body.GiveIn g) → g.migration ≡ m.number → part ≡ m.target
  pub apart : m.source ≢ m.target
  pub source : (1 ≤ m.source) × (m.source ≤ w.manager.shape.parts)
  pub target : (1 ≤ m.target) × (m.target ≤ w.manager.shape.parts)

-- the Give of exactly that migration
abbrev pub IsGiveOf : ℕ → Entry → Type 0
IsGiveOf migration e = (given : Package) × (e ≡ Give migration given)

-- a migration is done: its package was told by a master, and its give stands on all backups of one
pub record IsMigrationDone (w : World) (number : ℕ) : Type 0 where
  pub source : NodeId
  pub taken : Package
  pub told : WasSent w (says source manager_node (body.Taken (record { migration = number; «package» = taken })))
  pub target : NodeId
  pub given : StoredEntry w target (IsGiveOf number)

-- the migration is in work
abbrev pub IsMoving : World → ℕ → Type 0
IsMoving w number = (m : Migration) × (w.manager.moving ≡ Some m) × (m.number ≡ number)

-- numbers begin with 1; each names one range, one source and one target, and they differ; what isn't in work is done
pub record Routes (w : World) : Type 0 where
  pub first : 1 ≤ w.manager.next.migration
  pub takes_given : (part : ℕ) (t : TakeOut) → WasOrdered w part (body.TakeOut t) → (1 ≤ t.migration) × (t.migration < w.manager.next.migration)
  pub gives_given : (part : ℕ) (g : Parcel) → WasOrdered w part (body.GiveIn g) → (1 ≤ g.migration) × (g.migration < w.manager.next.migration)
  pub one_source : (part other : ℕ) (t u : TakeOut) → WasOrdered w part (body.TakeOut t) → WasOrdered w other (body.TakeOut u) → t.migration ≡ u.migration
      → (part ≡ other) × (t.lo ≡ u.lo) × (t.hi ≡ u.hi)
  pub one_target : (part other : ℕ) (g k : Parcel) → WasOrdered w part (body.GiveIn g) → WasOrdered w other (body.GiveIn k) → g.migration ≡ k.migration → part ≡ other
  pub apart : (part other : ℕ) (t : TakeOut) (g : Parcel) → WasOrdered w part (body.TakeOut t) → WasOrdered w other (body.GiveIn g) → t.migration ≡ g.migration → part ≢ other
  pub in_work : (m : Migration) → w.manager.moving ≡ Some m → InWork w m
  pub done : (number : ℕ) → 1 ≤ number → number < w.manager.next.migration → (IsMoving w number → ⊥) → IsMigrationDone w number
