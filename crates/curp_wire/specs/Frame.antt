-- Frames: messages as bytes (this project's own).
use Rattle.std.specs.Prelude.{◌≡◌, ℕ, ◌+◌, ◌≤◌, nat_le, nat_lt, ◌&&◌, if◌then◌else◌, Bool, List, [], ◌∷◌, ◌++◌, length, take, drop, Result, Ok, Err}
use Rattle.std.specs.Int.{w32, from_be_bytes, to_be_bytes}
use Rattle.curp_base.specs.Cases.{◌>>=◌}
use Rattle.curp_items.specs.Format.{Input, Reading, by_tag}
use Rattle.curp_items.specs.Items.{is_node, node}
use Rattle.curp_msg.specs.declared.message.Message.{Message}
use Rattle.curp_fields.specs.Fields.{body_parts, body_variants}
use Rattle.curp_fields.specs.Encoded.{has_fields}
use Rattle.curp_wire.specs.declared.error.FrameError.{FrameError}
use Rattle.curp_wire.specs.declared.error.FrameError.TheVariants as error

-- how many bytes a frame may have behind its length, which has 32 bits
abbrev pub content_limit : ℕ
content_limit = 4294967295

-- All that is in a message is in its range: the manager alone has the number 0, and numbers, keys, values and lists are as
-- those of each value of their types
pub record IsMessage (m : Message) : Type 0 where
  pub from : node.Fits m.from
  pub to : node.Fits m.to
  pub fields : (body_parts m.body).Fits

-- what stands behind a frame's length: the tag, the sender, the addressee, and the fields
abbrev pub content : Message → List ℕ
content m = (body_parts m.body).tag ∷ (node.of m.from ++ (node.of m.to ++ (body_parts m.body).text))

-- the bytes are the message's frame
pub record Frame (m : Message) (bytes : List ℕ) : Type 0 where
  pub message : IsMessage m
  pub short : length (content m) ≤ content_limit
  pub is : bytes ≡ to_be_bytes w32 (length (content m)) ++ content m

-- the tag, the sender, the addressee and the fields have an encoding: each node is one that there may be, and each list is
-- short enough for its count
abbrev pub has_content : Message → Bool
has_content m = is_node m.from && is_node m.to && has_fields m.body

-- there is a frame of the message
abbrev pub has_frame : Message → Bool
has_frame m = has_content m && nat_le (length (content m)) content_limit

-- ---- which frame bytes begin with, or why with none, by the first that holds

-- what some body has as its tag
abbrev pub is_tag : ℕ → Bool
is_tag tag = nat_le 1 tag && nat_le tag 35

-- the sender, the addressee, and the fields of the tag
abbrev pub read_message : ℕ → Reading Message
read_message tag at =
    node.read at >>= λ from.
    node.read from.1 >>= λ to.
    by_tag body_variants tag to.1.place to.1 >>= λ body.
    Ok (record { from = from.0; to = to.0; body = body.0 }, body.1)

-- nothing is left over
abbrev pub ended : Message → ℕ → List ℕ → Result Message ℕ
ended m place [] = Ok m
ended m place (b ∷ rest) = Err place

-- a fault at a place is one of a field
abbrev pub in_fields : Result Message ℕ → Result Message FrameError
in_fields (Ok m) = Ok m
in_fields (Err place) = Err (error.BadField place)

-- the message of a frame's content, which begins at place 4
abbrev pub message_in : List ℕ → Result Message FrameError
message_in [] = Err error.BadTag
message_in (tag ∷ rest) =
    if is_tag tag then in_fields (read_message tag (record { place = 5; rest = rest }) >>= λ m. ended m.0 m.1.place m.1.rest)
    else Err error.BadTag

-- a frame whose content should have this length
abbrev pub frame_of_length : ℕ → List ℕ → Result (Message × ℕ) FrameError
frame_of_length n bytes =
    if nat_lt n 11 then Err (error.BadField 0)
    else if nat_lt (length bytes) (4 + n) then Err (error.Short (4 + n))
    else message_in (take n (drop 4 bytes)) >>= λ m. Ok (m, 4 + n)

-- the message of the frame that the bytes begin with, and the frame's length
abbrev pub frame_in : List ℕ → Result (Message × ℕ) FrameError
frame_in bytes =
    if nat_lt (length bytes) 4 then Err (error.Short 4)
    else frame_of_length (from_be_bytes w32 (take 4 bytes)) bytes
