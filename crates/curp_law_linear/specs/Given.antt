-- What is taken as given of adopted logs by themselves.
use Rattle.std.specs.FinMap as store
use Rattle.std.specs.Prelude.{◌≡◌, ℕ, true, List, ◌++◌, Some}
use Rattle.curp_base.specs.Words.{At, numbered}
use Rattle.curp_cmd.specs.Hash.{hash_of}
use Rattle.curp_cmd.specs.declared.entry.Entry.{Entry}
use Rattle.curp_cmd.specs.declared.entry.Entry.TheVariants.{Give, Take}
use Rattle.curp_cmd.specs.declared.migration.Package.{Package}
use Rattle.curp_model.specs.Log.{IsLog}
use Rattle.curp_law_kept.specs.Hashes.{behind, came, value}
use Rattle.curp_order.specs.Order.{Asked}
use Rattle.curp_law_linear.specs.Hashes.{Part, owns, state_of}

-- what a log has of the keys of a hash that it owns: what came with the last give, and the ops behind it
abbrev pub LogValue : Part → Type 0
LogValue p = (h : ℕ) → owns p h ≡ true → (key : List ℕ) → hash_of key ≡ h → (past : List Asked)
    → ((other : List ℕ) → hash_of other ≡ h → value other past ≡ came h other p.log)
    → store.get (state_of p).store key ≡ value key (past ++ behind h p.log)

-- the take of a migration stands once in a log
abbrev pub TakesOnce : List Entry → Type 0
TakesOnce log = (i j number : ℕ) (k l : Package) → At log i (Take number k) → At log j (Take number l) → i ≡ j

-- the give of a migration stands once in a log
abbrev pub GivesOnce : List Entry → Type 0
GivesOnce log = (i j number : ℕ) (k l : Package) → At log i (Give number k) → At log j (Give number l) → i ≡ j

-- what lower layers say of each adopted log by itself
pub record LogsOk (parts : List Part) : Type 0 where
  pub is_log : (n : ℕ) (p : Part) → numbered parts n ≡ Some p → IsLog p.lo p.hi p.log
  pub gives_once : (n : ℕ) (p : Part) → numbered parts n ≡ Some p → GivesOnce p.log
  pub takes_once : (n : ℕ) (p : Part) → numbered parts n ≡ Some p → TakesOnce p.log
  -- at each cut
  pub values : (n : ℕ) (p : Part) → numbered parts n ≡ Some p → (prefix back : List Entry) → prefix ++ back ≡ p.log
      → LogValue (record p { log = prefix })
