-- What the machine takes as given is so of logs that are logs, of which each give fits at its place.
use Rattle.std.proofs.Common.{◌≡◌, ℕ, ◌≤◌, List, Some}
use Rattle.curp_base.specs.Words.{numbered}
use Rattle.curp_model.specs.Log.{IsLog, log_opening}
use Rattle.curp_law_linear.specs.Hashes.{Part}
use Rattle.curp_law_linear.proofs.Given.{LogsOk, Pure, Second}
use Rattle.curp_law_kept.specs.GivesFit.{GivesFit}
use Rattle.curp_law_kept.specs.Migrations.{NumbersAscend, give_number, take_number}
use Rattle.curp_law_kept.proofs.Gives.{log_value_prefix, packed_known, gives_once, takes_once, answer_local, second_alone, value_local}

pub pure : Pure
pure = record { value_local = value_local; answer_local = answer_local; packed_known = packed_known }

pub second : Second
second = second_alone

-- a log of a partition by itself
pub record IsPlainLog (p : Part) : Type 0 where
  pub ordered : p.lo ≤ p.hi
  pub is_log : IsLog p.lo p.hi p.log
  pub gives_fit : GivesFit (log_opening p.lo p.hi) 0 p.log
  pub takes : NumbersAscend take_number p.log
  pub gives : NumbersAscend give_number p.log

-- where each log is one
pub logs_ok : (parts : List Part) → ((n : ℕ) (p : Part) → numbered parts n ≡ Some p → IsPlainLog p) → LogsOk parts
logs_ok parts all = record {
  is_log = λ n p h. (all n p h).is_log;
  gives_once = λ n p h. gives_once p.log (all n p h).gives;
  takes_once = λ n p h. takes_once p.log (all n p h).takes;
  values = λ n p h prefix back is. let a = all n p h in log_value_prefix p.lo p.hi p.log a.ordered a.is_log a.gives_fit prefix back is;
}
