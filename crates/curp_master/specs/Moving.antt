-- Entries that the manager's orders bring into a master's log.
use Rattle.std.specs.Prelude.{◌≡◌, ℕ, [], ◌∷◌, ◌++◌, true, false, Option, Some, None}
use Rattle.curp_cmd.specs.declared.entry.Entry.{Entry}
use Rattle.curp_cmd.specs.declared.migration.Package.{Package}
use Rattle.curp_model.specs.Log.{LogState, package_of}
use Rattle.curp_range.specs.Spans.{is_covered}
use Rattle.curp_msg.specs.declared.body.TakeOut.{TakeOut}
use Rattle.curp_model.specs.Master.{MasterState, begins_round, told_again}
use Rattle.curp_msg.specs.Moved.{Moved, quiet}
use Rattle.curp_master.specs.declared.moving.Retelling.{Retelling}
use Rattle.curp_master.specs.declared.moving.Retelling.TheVariants.{New, Past, Again}

-- the entry stands at the end of the log, and a round begins
abbrev pub pushes : ℕ → MasterState → Entry → Moved MasterState
pushes n m entry = begins_round n (record m { log = m.log ++ entry ∷ [] })

-- what becomes of a migration: it is done as a new one, left alone, or told again
abbrev pub by_retelling : ℕ → MasterState → Moved MasterState → Retelling → Moved MasterState
by_retelling n m new New = new
by_retelling n m new Past = quiet m
by_retelling n m new (Again index message) = told_again n m index message

-- what leaves with a range that is owned
pub record IsPackage (s : LogState) (t : TakeOut) (p : Package) : Type 0 where
  pub owned : is_covered s.owned t.lo t.hi ≡ true
  pub its : p ≡ package_of s t.lo t.hi t.ordered

-- nothing leaves with a range that isn't owned
abbrev pub IsTakenOut : LogState → TakeOut → Option Package → Type 0
IsTakenOut s t None = is_covered s.owned t.lo t.hi ≡ false
IsTakenOut s t (Some p) = IsPackage s t p
