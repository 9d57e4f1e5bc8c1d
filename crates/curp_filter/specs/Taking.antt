-- What a node may take of what comes to its process.
use Rattle.std.specs.Prelude.{◌≡◌, ◌≤◌, ◌+◌, ◌⊎◌, ℕ, List, [], ◌∷◌, length, Option, IfSome, option_to_list, ⊤}
use Rattle.curp_base.specs.Words.{Each}
use Rattle.curp_durable.specs.Standing.{Standing, after}
use Rattle.curp_journal.specs.Own.{IsArrivedMessage, IsOwn}
use Rattle.curp_journal.specs.declared.arrived.Arrived.{Arrived}
use Rattle.curp_journal.specs.declared.origin.Origin.TheVariants.{Fresh}
use Rattle.curp_msg.specs.Moved.{Moved}
use Rattle.curp_msg.specs.Input.{Input}
use Rattle.curp_filter.specs.Coming.{arrival_in}
use Rattle.curp_filter.specs.declared.came.Came.{Came}
use Rattle.curp_filter.specs.declared.came.Came.TheVariants as came
use Rattle.curp_filter.specs.declared.came.PassedOver.{PassedOver}
use Rattle.curp_filter.specs.declared.came.PassedOver.TheVariants as passed
use Rattle.curp_filter.specs.declared.came.Role.{Role}

-- the node is fresh, and took no input
abbrev pub IsUnbegun : Role → (count : ℕ) → Type 0
IsUnbegun role count = (role.origin ≡ Fresh) × (count ≡ 0)

-- A node takes what is its own. A fresh one takes a message first
pub record MayTake (role : Role) (count : ℕ) (arrived : Arrived) : Type 0 where
  pub own : IsOwn role.id arrived
  pub begins : IsUnbegun role count → IsArrivedMessage arrived

-- what came is given to a node just if it may take it, which took so many inputs before
abbrev pub IsJudged : Role → (count : ℕ) → Came → Type 0
IsJudged role count (came.Arrived arrived) = MayTake role count arrived
IsJudged role count (came.PassedOver (passed.Misdirected arrived)) = MayTake role count arrived → ⊥
IsJudged role count (came.PassedOver (passed.NoParcel at)) = ⊤

-- each is, where the node stands here before the first
abbrev pub AreJudged : {N : Type 0} → (N → Input → Moved N) → Role → Standing N → List Came → Type 0
AreJudged machine role s [] = ⊤
AreJudged machine role s (c ∷ more) = IsJudged role s.count c × AreJudged machine role (after machine s (arrival_in c)) more

-- those that are answered together: each is one that the node may take, and what stands behind them isn't given to it;
-- to an unbegun node one alone
pub record AreJudgedTogether (role : Role) (count : ℕ) (arrived : List Arrived) (last : Option PassedOver) : Type 0 where
  pub each : Each (MayTake role count) arrived
  pub passed_over : IfSome last (λ it. IsJudged role count (came.PassedOver it))
  pub one_alone : (IsUnbegun role count → ⊥) ⊎ (length arrived + length (option_to_list last) ≤ 1)

-- the first of these, if there is one, is a message
abbrev pub BeginsWithMessage : List Arrived → Type 0
BeginsWithMessage [] = ⊤
BeginsWithMessage (a ∷ more) = IsArrivedMessage a
