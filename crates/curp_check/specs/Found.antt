-- Where requests are found, and each clause by that.
use Rattle.std.specs.Prelude.{◌≡◌, ℕ, ◌<◌, nat_le, max, Bool, false, List, Option, Some, None, ⊤}
use Rattle.curp_base.specs.Words.{At}
use Rattle.curp_cmd.specs.declared.command.Answer.{Answer}
use Rattle.curp_cmd.specs.declared.command.Command.{Command}
use Rattle.curp_cmd.specs.declared.command.RequestId.{RequestId}
use Rattle.curp_order.specs.declared.Event.{Event}
use Rattle.curp_order.specs.declared.Event.TheVariants.{Invoke, Complete}
use Rattle.curp_order.specs.Order.{Asked}

-- where a request is found, if it is
abbrev pub Finder : Type 0
Finder = RequestId → Option ℕ

-- the request that an event invokes, if it invokes one
abbrev pub invoked_by : Event → Option RequestId
invoked_by (Invoke id command) = Some id
invoked_by (Complete id answer) = None

-- of the first n events, those that invoke are found by their requests, and no others are
pub record FindsInvocations (n : ℕ) (find : Finder) (events : List Event) : Type 0 where
  pub there : (id : RequestId) (i : ℕ) → find id ≡ Some i
      → (i < n) × ((e : Event) × At events i e × (invoked_by e ≡ Some id))
  pub each : (i : ℕ) (id : RequestId) (e : Event) → i < n → At events i e → invoked_by e ≡ Some id
      → (j : ℕ) × (find id ≡ Some j)

-- each of the first n requests of an order is found at its place, and no other is
pub record FindsPlaces (n : ℕ) (find : Finder) (order : List Asked) : Type 0 where
  pub there : (id : RequestId) (k : ℕ) → find id ≡ Some k → (k < n) × ((x : Asked) × At order k x × (x.0 ≡ id))
  pub each : (k : ℕ) (x : Asked) → k < n → At order k x → find x.0 ≡ Some k

-- some request stands at two places of an order
pub record StandsTwice (order : List Asked) : Type 0 where
  pub first : ℕ
  pub second : ℕ
  pub one : Asked
  pub other : Asked
  pub apart : first < second
  pub at_first : At order first one
  pub at_second : At order second other
  pub same : one.0 ≡ other.0

-- ---- the clauses

-- a request was invoked with that command
abbrev pub IsInvoked : List Event → Asked → Type 0
IsInvoked events x = (i : ℕ) × At events i (Invoke x.0 x.1)

-- a request that completes is found
abbrev pub IsFound : Finder → Event → Type 0
IsFound find (Invoke id command) = ⊤
IsFound find (Complete id answer) = (k : ℕ) × (find id ≡ Some k)

-- a request that completes and is found has the answer of its place
abbrev pub HasAnswerOfPlace : Finder → List Answer → Event → Type 0
HasAnswerOfPlace find answers (Invoke id command) = ⊤
HasAnswerOfPlace find answers (Complete id answer) = (k : ℕ) → find id ≡ Some k → At answers k answer

-- among the first n events: what completed before another was invoked is found before it
abbrev pub AreInTime : ℕ → Finder → List Event → Type 0
AreInTime n find events =
    (i j : ℕ) (earlier later : RequestId) (a : Answer) (c : Command)
    → i < j → j < n → At events i (Complete earlier a) → At events j (Invoke later c)
    → (k l : ℕ) → find earlier ≡ Some k → find later ≡ Some l → k < l

-- the later of two places, where there are two
abbrev pub later_of : Option ℕ → Option ℕ → Option ℕ
later_of None latest = latest
later_of (Some place) None = Some place
later_of (Some place) (Some latest) = Some (max place latest)

-- there is a place, and it is no later than the latest
abbrev pub is_up_to : Option ℕ → Option ℕ → Bool
is_up_to (Some latest) (Some place) = nat_le place latest
is_up_to (Some latest) None = false
is_up_to None place = false
