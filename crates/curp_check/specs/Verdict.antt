-- What an order of a history has to hold to, clause by clause, and which is the first that fails.
use Rattle.std.specs.Prelude.{◌≡◌, ℕ, ◌<◌, List}
use Rattle.curp_base.specs.Words.{At}
use Rattle.curp_cmd.specs.declared.command.Answer.{Answer}
use Rattle.curp_cmd.specs.declared.command.Command.{Command}
use Rattle.curp_cmd.specs.declared.command.RequestId.{RequestId}
use Rattle.curp_order.specs.Order.{Asked, IsOrder, answers}
use Rattle.curp_order.specs.declared.Event.{Event}
use Rattle.curp_order.specs.declared.Event.TheVariants.{Invoke, Complete}
use Rattle.curp_check.specs.declared.verdict.Clause.{Clause}
use Rattle.curp_check.specs.declared.verdict.Clause.TheVariants.{Invoked, Stands, Answered, InTime}
use Rattle.curp_check.specs.declared.verdict.Verdict.{Verdict}
use Rattle.curp_check.specs.declared.verdict.Verdict.TheVariants as verdict

-- the number of a clause
abbrev pub number_of : Clause → ℕ
number_of Invoked = 1
number_of Stands = 2
number_of Answered = 3
number_of InTime = 4

-- each request of the order was invoked with that command, and none stands twice
pub record AreInvoked (events : List Event) (order : List Asked) : Type 0 where
  pub invoked : (k : ℕ) (x : Asked) → At order k x → (i : ℕ) × At events i (Invoke x.0 x.1)
  pub once : (j k : ℕ) (x y : Asked) → At order j x → At order k y → x.0 ≡ y.0 → j ≡ k

-- each completed request stands in the order
abbrev pub EachStands : List Event → List Asked → Type 0
EachStands events order =
    (i : ℕ) (id : RequestId) (a : Answer) → At events i (Complete id a) → (k : ℕ) × (x : Asked) × At order k x × (x.0 ≡ id)

-- the answer of each completed request that stands in it is the one that a single thread gives there
abbrev pub EachIsAnswered : List Event → List Asked → Type 0
EachIsAnswered events order =
    (i : ℕ) (id : RequestId) (a : Answer) → At events i (Complete id a)
    → (k : ℕ) (x : Asked) → At order k x → x.0 ≡ id → At (answers order) k a

-- what completed before another was invoked stands before it
abbrev pub EachIsInTime : List Event → List Asked → Type 0
EachIsInTime events order =
    (i j : ℕ) (earlier later : RequestId) (a : Answer) (c : Command)
    → i < j → At events i (Complete earlier a) → At events j (Invoke later c)
    → (k l : ℕ) (x y : Asked) → At order k x → x.0 ≡ earlier → At order l y → y.0 ≡ later → k < l

-- the clause holds
abbrev pub Holds : List Event → List Asked → Clause → Type 0
Holds events order Invoked = AreInvoked events order
Holds events order Stands = EachStands events order
Holds events order Answered = EachIsAnswered events order
Holds events order InTime = EachIsInTime events order

-- the clause fails, and those of lower numbers hold
pub record IsFirstBroken (events : List Event) (order : List Asked) (clause : Clause) : Type 0 where
  pub broken : Holds events order clause → ⊥
  pub earlier : (other : Clause) → number_of other < number_of clause → Holds events order other

-- the order is one of the history, or that clause is the first that fails
abbrev pub IsVerdict : List Event → List Asked → Verdict → Type 0
IsVerdict events order verdict.Yes = IsOrder events order
IsVerdict events order (verdict.No clause) = IsFirstBroken events order clause
