-- What is taken as given: lemmas on values and packages, and what the adopted logs are by themselves.
use Rattle.std.specs.FinMap as store
use Rattle.std.specs.Prelude.{◌≡◌, ℕ, false, List, [], ◌∷◌, ◌++◌, Some}
use Rattle.curp_base.specs.Words.{numbered}
use Rattle.curp_cmd.specs.Hash.{conflicts, hash_of}
use Rattle.curp_cmd.specs.Store.{Contents, applied, keys_of}
use Rattle.curp_cmd.specs.declared.command.Command.{Command}
use Rattle.curp_cmd.specs.declared.command.RequestId.{RequestId}
use Rattle.curp_cmd.specs.declared.entry.Entry.{Entry}
use Rattle.curp_cmd.specs.declared.entry.Entry.TheVariants.{Give}
use Rattle.curp_cmd.specs.declared.migration.Package.{Package}
use Rattle.curp_model.specs.Log.{meaning}
use Rattle.curp_model.specs.Table.{packed}
use Rattle.curp_law_kept.specs.Hashes.{In, NotNew, on, value}
use Rattle.curp_order.specs.Order.{Asked}
use Rattle.curp_law_linear.specs.Hashes.{Part}
pub use Rattle.curp_law_linear.specs.Given.{GivesOnce, LogValue, LogsOk, TakesOnce}

-- lemmas on values, answers and packages
pub record Pure : Type 0 where
  -- a key's value comes from the requests on its hash
  pub value_local : (key : List ℕ) (xs : List Asked) → value key xs ≡ value key (on (hash_of key) xs)
  -- a command's answer comes from the values of its keys
  pub answer_local : (s t : Contents) (c : Command) → ((key : List ℕ) → In key (keys_of c) → store.get s key ≡ store.get t key) → (applied s c).answer ≡ (applied t c).answer
  -- a package's records come along
  pub packed_known : (lo hi : ℕ) (before : List Entry) (id : RequestId) → NotNew lo hi before id → (l h : ℕ) (log : List Entry) (number : ℕ) (k : Package) → k.table ≡ packed (meaning lo hi before).table
      → NotNew l h (log ++ Give number k ∷ []) id

-- the same of each adopted log
abbrev pub LogsValue : List Part → Type 0
LogsValue parts = (n : ℕ) (p : Part) → numbered parts n ≡ Some p → LogValue p

-- commands that have no hash in common answer each as it would alone
abbrev pub Second : Type 0
Second = (s : Contents) (a b : Command) → conflicts a b ≡ false → (applied (applied s a).after b).answer ≡ (applied s b).answer
