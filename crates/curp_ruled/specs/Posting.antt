-- What contracts see of the posts of one sender, and what it sends through them (this project's own).
use Rattle.std.specs.Prelude.{ℕ, zero, suc, ◌-◌, ◌==◌, ◌&&◌, if◌then◌else◌, Bool, true, false, not, List, [], ◌∷◌, ◌++◌, map, None}
use Rattle.curp_cmd.specs.declared.node.NodeId.{NodeId}
use Rattle.curp_cmd.specs.declared.node.NodeKind.{NodeKind}
use Rattle.curp_cmd.specs.declared.node.NodeKind.TheVariants.{Manager, Client, Master, Backup, Witness}
use Rattle.curp_cmd.specs.Node.{same_node}
use Rattle.curp_ruled.specs.Ends.{Posted}
use Rattle.curp_ruled.specs.Envelope.{Letter}
use Rattle.curp_ruled.specs.declared.posts.Slot.{Slot}

-- the sender's number, and its posts by the kind of the nodes that they are for, those too that are used up
pub record Posting : Type 0 where
  pub sender : ℕ
  pub manager : List Slot
  pub clients : List Slot
  pub masters : List Slot
  pub backups : List Slot
  pub witnesses : List Slot

-- none yet
abbrev pub fresh_posts : ℕ → Posting
fresh_posts sender = record { sender = sender; manager = []; clients = []; masters = []; backups = []; witnesses = [] }

-- those of a kind changed, and the others as they were
abbrev pub in_kind : NodeKind → (List Slot → List Slot) → Posting → Posting
in_kind Manager change posting = record posting { manager = change posting.manager }
in_kind Client change posting = record posting { clients = change posting.clients }
in_kind Master change posting = record posting { masters = change posting.masters }
in_kind Backup change posting = record posting { backups = change posting.backups }
in_kind Witness change posting = record posting { witnesses = change posting.witnesses }

-- one more, behind those of its kind
abbrev pub with_post : Posted → Posting → Posting
with_post post posting = in_kind post.to.kind (λ slots. slots ++ record { post = post; ended = false } ∷ []) posting

-- where the post of a node is, of those of its kind: the manager has the number 0, and others count from 1
abbrev pub place_of : NodeId → ℕ
place_of to = to.number - 1

-- the one at that place changed, if there is one, and the others as they were
abbrev pub at_place : ℕ → (Slot → Slot) → List Slot → List Slot
at_place place change [] = []
at_place zero change (slot ∷ slots) = change slot ∷ slots
at_place (suc place) change (slot ∷ slots) = slot ∷ at_place place change slots

-- whether it is the post of that node, and isn't used up
abbrev pub is_open_to : NodeId → Slot → Bool
is_open_to to slot = same_node slot.post.to to && not slot.ended

-- a post that sent one envelope more
abbrev pub with_letter : Letter → Posted → Posted
with_letter letter post = record post { sent = post.sent ++ letter ∷ [] }

-- an envelope to a node goes through its post, if it has the number of the post
abbrev pub slot_sent : NodeId → Letter → Slot → Slot
slot_sent to letter slot =
    if is_open_to to slot && (slot.post.number == letter.sender) then record slot { post = with_letter letter slot.post } else slot

-- the end is the last that goes through a post
abbrev pub slot_ended : Slot → Slot
slot_ended slot =
    if slot.ended then slot
    else record { post = with_letter (record { sender = slot.post.number; carries = None }) slot.post; ended = true }

abbrev pub slot_ended_to : NodeId → Slot → Slot
slot_ended_to to slot = if same_node slot.post.to to then slot_ended slot else slot

-- the posts after an envelope to that node
abbrev pub with_sent : NodeId → Letter → Posting → Posting
with_sent to letter posting = in_kind to.kind (at_place (place_of to) (slot_sent to letter)) posting

-- after the end for that node
abbrev pub with_end : NodeId → Posting → Posting
with_end to posting = in_kind to.kind (at_place (place_of to) (slot_ended_to to)) posting

-- after the end for each node
abbrev pub with_ends : Posting → Posting
with_ends posting = record {
  sender = posting.sender;
  manager = map slot_ended posting.manager;
  clients = map slot_ended posting.clients;
  masters = map slot_ended posting.masters;
  backups = map slot_ended posting.backups;
  witnesses = map slot_ended posting.witnesses;
}
