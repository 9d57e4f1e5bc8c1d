-- The reads that wait at a master.
use Rattle.std.specs.Prelude.{ℕ, ◌≤◌, List, [], ◌∷◌, ⊤}
use Rattle.curp_base.specs.Words.{Each}
use Rattle.curp_cmd.specs.Node.{client_node, master_node}
use Rattle.curp_msg.specs.Moved.{says}
use Rattle.curp_msg.specs.declared.body.Body.TheVariants.{Worth}
use Rattle.curp_msg.specs.declared.message.Message.{Message}
use Rattle.curp_model.specs.Master.{Captured}
use Rattle.curp_rounds.specs.declared.reach.Reach.{Reach}

-- those that wait, how many were captured in all, the length of the log and the round as the last one was, and for how many
-- more there is room
pub record Captures : Type 0 where
  pub waiting : List Captured
  pub count : ℕ
  pub last : Reach
  pub spare : ℕ

-- the value of a capture, as the numbered master tells it at an epoch
abbrev pub value_at : ℕ → ℕ → Captured → Message
value_at number epoch c = says (master_node number) (client_node c.id.client)
    (Worth (record { id = c.id; epoch = epoch; capture = c.number; answer = c.answer }))

-- ---- their order

-- the log and the round were no further as the one was captured than as the other was
abbrev pub IsNoLater : Captured → Captured → Type 0
IsNoLater c d = (c.length ≤ d.length) × (c.round ≤ d.round)

-- each was captured no later than those behind it
abbrev pub InOrder : List Captured → Type 0
InOrder [] = ⊤
InOrder (c ∷ cs) = Each (IsNoLater c) cs × InOrder cs

-- the log and the round have come so far as a read waits for
abbrev pub HasCome : Reach → Captured → Type 0
HasCome reach c = (c.length ≤ reach.long) × (c.round ≤ reach.round)

-- in the order in which they were captured, none behind the last one
pub record AreWaiting (waiting : List Captured) (count : ℕ) (last : Reach) : Type 0 where
  pub numbered : Each (λ c. c.number ≤ count) waiting
  pub in_order : InOrder waiting
  pub come : Each (HasCome last) waiting
