-- The partitions at one hash, and the order's equation there.
use Rattle.std.specs.List.{list_any}
use Rattle.std.specs.Prelude.{◌≡◌, ℕ, ◌==◌, ◌&&◌, ◌||◌, Bool, true, false, if◌then◌else◌, List, [], ◌++◌, Option, Some, None}
use Rattle.curp_base.specs.Words.{numbered}
use Rattle.curp_range.specs.Spans.{is_in, is_owned}
use Rattle.curp_cmd.specs.Hash.{hash_of}
use Rattle.curp_cmd.specs.declared.entry.Entry.{Entry}
use Rattle.curp_cmd.specs.declared.entry.Entry.TheVariants.{Expire, Give, Op, Take}
use Rattle.curp_model.specs.Log.{LogState, meaning}
use Rattle.curp_model.specs.Manager.{Migration}
use Rattle.curp_law_kept.specs.Hashes.{In, NoGive, NotNew, behind, came, on, value}
use Rattle.curp_order.specs.Order.{Asked}

-- ---- partitions

-- the adopted log of a partition, with the range that it began with
pub record Part : Type 0 where
  pub lo : ℕ
  pub hi : ℕ
  pub log : List Entry

-- what the adopted log means
abbrev pub state_of : Part → LogState
state_of p = meaning p.lo p.hi p.log

-- the partition owns the hash
abbrev pub owns : Part → ℕ → Bool
owns p h = is_owned (state_of p).owned h

-- the entry is the take of the migration of that number
abbrev pub is_take : ℕ → Entry → Bool
is_take number (Op r acknowledged) = false
is_take number (Take migration taken) = migration == number
is_take number (Give migration given) = false
is_take number (Expire client) = false

-- the entry is the give of the migration of that number
abbrev pub is_give : ℕ → Entry → Bool
is_give number (Op r acknowledged) = false
is_give number (Take migration taken) = false
is_give number (Give migration given) = migration == number
is_give number (Expire client) = false

-- the take of the migration in work covers the hash and stands in the log
abbrev pub has_take : Option Migration → ℕ → List Entry → Bool
has_take None h log = false
has_take (Some m) h log = is_in m.range.lo m.range.hi h && list_any (is_take m.number) log

-- the partition holds the hash: it owns it, or its take is out
abbrev pub holds : Option Migration → Part → ℕ → Bool
holds moving p h = owns p h || has_take moving h p.log

-- ---- the equation

-- the requests that stand behind the give of a migration at its target
abbrev pub given_on : ℕ → ℕ → Option Part → List Asked
given_on h number None = []
given_on h number (Some target) = if list_any (is_give number) target.log then behind h target.log else []

-- what the order has of the hash behind a holder's log: nothing, but where its take is out and the give is there
abbrev pub onward : Option Migration → List Part → List Entry → ℕ → List Asked
onward None parts log h = []
onward (Some m) parts log h = if is_in m.range.lo m.range.hi h && list_any (is_take m.number) log then given_on h m.number (numbered parts m.target) else []

-- The order at the hash is what came before the last give, the log behind it, and what went on elsewhere. The give brought
-- the values that what came before leaves, and its requests are known to the log as long as no later give covers the hash
pub record HashOk (moving : Option Migration) (parts : List Part) (order : List Asked) (p : Part) (h : ℕ) : Type 0 where
  pub past : List Asked
  pub alike : on h order ≡ past ++ (behind h p.log ++ onward moving parts p.log h)
  pub values : (key : List ℕ) → hash_of key ≡ h → value key past ≡ came h key p.log
  pub known : (x : Asked) → In x past → (prefix back : List Entry) → prefix ++ back ≡ p.log → NoGive h back → NotNew p.lo p.hi prefix x.0

-- the equation at each hash of each partition that holds it
abbrev pub HashesOk : Option Migration → List Part → List Asked → Type 0
HashesOk moving parts order = (n : ℕ) (p : Part) → numbered parts n ≡ Some p → (h : ℕ) → holds moving p h ≡ true → HashOk moving parts order p h
