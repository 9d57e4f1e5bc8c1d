-- What contracts see of the ends of an inbox (this project's own).
use Rattle.std.specs.Prelude.{◌≡◌, ℕ, List, Option, length}
use Rattle.std.specs.Global.{Global}
use Rattle.atomic_table.specs.declared.badge.Badge.{Badge}
use Rattle.crossbeam_channel.specs.declared.flavors.array.Rows.{Rows}
use Rattle.crossbeam_channel.specs.declared.flavors.array.Key.{Key}
use Rattle.crossbeam_channel.specs.declared.flavors.array.Doing.{Doing}
use Rattle.crossbeam_channel.specs.declared.flavors.array.Rounds.{Rounds}
use Rattle.crossbeam_channel.specs.declared.flavors.array.Lockers.{Lockers}
use Rattle.crossbeam_channel.specs.declared.flavors.array.Whole.{Whole}
use Rattle.curp_base.specs.Words.{At}
use Rattle.curp_cmd.specs.declared.node.NodeId.{NodeId}
use Rattle.curp_ruled.specs.Envelope.{Letter}
use Rattle.curp_ruled.specs.declared.rule.Hand.{Hand}
use Rattle.curp_ruled.specs.declared.rule.InOrder.{InOrder}

-- which inbox it is: the kit's type of the channel that an end is of
abbrev pub Inbox : Type 0
Inbox = Rows (Badge (Key Letter)) (Doing Letter Hand) (Rounds InOrder) (Option Letter) (Key Letter) (Lockers Whole) Global

-- the end of a sender: the node that the inbox is of, the sender's number, and what it sent
pub record Posted : Type 0 where
  pub inbox : Inbox
  pub to : NodeId
  pub number : ℕ
  pub sent : List Letter

-- the end that takes: how many posts the inbox was made with, and what was taken
pub record Received : Type 0 where
  pub inbox : Inbox
  pub to : NodeId
  pub posts : ℕ
  pub taken : List Letter

-- what each post sent, in the order of their numbers, and what was taken in all
pub record Sums : Type 0 where
  pub sent : List (List Letter)
  pub taken : List Letter

-- the posts are all of that inbox, in the order of their numbers
pub record AreAllOf (take : Received) (posts : List Posted) : Type 0 where
  pub count : length posts ≡ take.posts
  pub each : (k : ℕ) (post : Posted) → At posts k post → (post.inbox ≡ take.inbox) × (post.number ≡ k)
