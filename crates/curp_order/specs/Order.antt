-- Histories, the answers of one thread, and when a list of requests is an order of a history.
use Rattle.std.specs.Prelude.{◌≡◌, ℕ, ◌<◌, List, [], ◌∷◌}
use Rattle.curp_base.specs.Words.{At}
use Rattle.curp_cmd.specs.declared.command.Command.{Command}
use Rattle.curp_cmd.specs.declared.command.Answer.{Answer}
use Rattle.curp_cmd.specs.declared.command.RequestId.{RequestId}
use Rattle.curp_cmd.specs.Store.{Contents, nothing, applied}
use Rattle.curp_order.specs.declared.Event.{Event}
use Rattle.curp_order.specs.declared.Event.TheVariants.{Invoke, Complete}

-- a request with its command
abbrev pub Asked : Type 0
Asked = RequestId × Command

-- the answers of one thread to the requests in their order, begun with a store
abbrev pub answers_from : Contents → List Asked → List Answer
answers_from store [] = []
answers_from store (next ∷ rest) = (applied store next.1).answer ∷ answers_from (applied store next.1).after rest

-- the same, begun with the empty store
abbrev pub answers : List Asked → List Answer
answers requests = answers_from nothing requests

-- the store after the requests
abbrev pub store_after : Contents → List Asked → Contents
store_after store [] = store
store_after store (next ∷ rest) = store_after (applied store next.1).after rest

-- a request is invoked at most once, and completed at most once, after it was invoked
pub record IsHistory (events : List Event) : Type 0 where
  pub invoked_once : (i j : ℕ) (id : RequestId) (c d : Command)
      → At events i (Invoke id c) → At events j (Invoke id d) → i ≡ j
  pub completed_once : (i j : ℕ) (id : RequestId) (a b : Answer)
      → At events i (Complete id a) → At events j (Complete id b) → i ≡ j
  pub after_invoked : (j : ℕ) (id : RequestId) (a : Answer)
      → At events j (Complete id a) → (i : ℕ) × (c : Command) × (i < j) × At events i (Invoke id c)

-- An order of a history (linearizability, over one list of events): each request of the order was invoked with that
-- command, and none stands twice; each completed request stands in it; the answer of a completed request is the one
-- that one thread gives; and what completed before another was invoked stands before it.
pub record IsOrder (events : List Event) (order : List Asked) : Type 0 where
  pub invoked : (k : ℕ) (x : Asked) → At order k x → (i : ℕ) × At events i (Invoke x.0 x.1)
  pub once : (j k : ℕ) (x y : Asked) → At order j x → At order k y → x.0 ≡ y.0 → j ≡ k
  pub stands : (i : ℕ) (id : RequestId) (a : Answer)
      → At events i (Complete id a) → (k : ℕ) × (x : Asked) × At order k x × (x.0 ≡ id)
  pub answered : (i : ℕ) (id : RequestId) (a : Answer) → At events i (Complete id a)
      → (k : ℕ) (x : Asked) → At order k x → x.0 ≡ id → At (answers order) k a
  pub in_time : (i j : ℕ) (earlier later : RequestId) (a : Answer) (c : Command)
      → i < j → At events i (Complete earlier a) → At events j (Invoke later c)
      → (k l : ℕ) (x y : Asked) → At order k x → x.0 ≡ earlier → At order l y → y.0 ≡ later → k < l
