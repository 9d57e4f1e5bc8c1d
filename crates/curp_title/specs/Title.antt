-- The title of a node's journal (this project's own): its bytes, and the format by which they are read.
use Rattle.std.specs.Prelude.{◌≡◌, ℕ, ◌&&◌, nat_le, Bool, true, false, List, [], ◌∷◌, ◌++◌, Option, bytes_eq, Result, Ok, Err, ⊤}
use Rattle.std.specs.Int.{to_be_bytes, w32}
use Rattle.curp_base.specs.Cases.{◌>>=◌, only_if}
use Rattle.curp_cmd.specs.declared.node.NodeId.{NodeId}
use Rattle.curp_items.specs.Format.{Format, Tagged, Variant, item, nothing, one_of, only, shaped, tagged, variant, ◌▸◌}
use Rattle.curp_items.specs.Items.{IsNodeName, kind_byte, node, truth, u32}
use Rattle.curp_items.specs.declared.fault.Fault.{Fault}
use Rattle.curp_msg.specs.Script.{IsHeader}
use Rattle.curp_msg.specs.declared.script.Header.{Header}
use Rattle.curp_msg.specs.declared.script.Protocol.{Protocol}
use Rattle.curp_msg.specs.declared.script.Protocol.TheVariants.{One, Two}
use Rattle.curp_title.specs.declared.title.Title.{Title}

-- ---- the bytes

-- the letters CURPNODE, and the version of what follows
abbrev pub mark : List ℕ
mark = 67 ∷ 85 ∷ 82 ∷ 80 ∷ 78 ∷ 79 ∷ 68 ∷ 69 ∷ 1 ∷ []

abbrev pub fast_byte : Bool → ℕ
fast_byte false = 0
fast_byte true = 1

abbrev pub protocol_byte : Protocol → ℕ
protocol_byte One = 1
protocol_byte Two = 2

-- the fields of a header in the order of their names, the highest byte of a number first
abbrev pub header_bytes : Header → List ℕ
header_bytes h =
    to_be_bytes w32 h.clients
    ++ (to_be_bytes w32 h.f ++ (fast_byte h.fast ∷ (to_be_bytes w32 h.parts ++ (protocol_byte h.protocol ∷ (to_be_bytes w32 h.sets ++ to_be_bytes w32 h.ways)))))

-- the mark, the node's kind and number, and the header
abbrev pub title_bytes : Title → List ℕ
title_bytes t = mark ++ (kind_byte t.node.kind ∷ (to_be_bytes w32 t.node.number ++ header_bytes t.header))

-- a node that there may be, and a header whose numbers are in their ranges
pub record IsTitle (t : Title) : Type 0 where
  pub node : IsNodeName t.node
  pub header : IsHeader t.header

-- ---- the format

abbrev pub mark_in : List ℕ → Option ⊤
mark_in bytes = only_if (bytes_eq bytes mark) tt

unfoldable pub mark_format : Format ⊤
mark_format = item 9 (λ x. ⊤) (λ x. mark) mark_in

-- a number from low to high
abbrev pub between : ℕ → ℕ → Format ℕ
between low high = only (λ n. nat_le low n && nat_le n high) u32

abbrev pub protocol_parts : Protocol → Tagged
protocol_parts One = tagged 1 nothing tt
protocol_parts Two = tagged 2 nothing tt

abbrev pub protocol_variants : List (Variant Protocol)
protocol_variants = variant 1 nothing (λ x. One) ∷ variant 2 nothing (λ x. Two) ∷ []

unfoldable pub protocol_format : Format Protocol
protocol_format = one_of protocol_parts protocol_variants

-- the fields of a header in the order of their names
abbrev pub Fields : Type 0
Fields = ℕ × (ℕ × (Bool × (ℕ × (Protocol × (ℕ × ℕ)))))

abbrev pub header_made : Fields → Header
header_made p = record { clients = p.0; f = p.1.0; fast = p.1.1.0; parts = p.1.1.1.0; protocol = p.1.1.1.1.0; sets = p.1.1.1.1.1.0; ways = p.1.1.1.1.1.1 }

abbrev pub header_parts : Header → Fields
header_parts h = (h.clients, (h.f, (h.fast, (h.parts, (h.protocol, (h.sets, h.ways))))))

unfoldable pub header_format : Format Header
header_format = shaped header_made header_parts (between 1 64 ▸ between 1 5 ▸ truth ▸ between 1 16 ▸ protocol_format ▸ between 1 1024 ▸ between 1 16)

abbrev pub title_made : ⊤ × (NodeId × Header) → Title
title_made p = record { node = p.1.0; header = p.1.1 }

abbrev pub title_parts : Title → ⊤ × (NodeId × Header)
title_parts t = (tt, (t.node, t.header))

unfoldable pub title_format : Format Title
title_format = shaped title_made title_parts (mark_format ▸ node ▸ header_format)

-- ---- a title with nothing left over

abbrev pub whole : Title → ℕ → List ℕ → Result Title ℕ
whole t place [] = Ok t
whole t place (b ∷ rest) = Err place

-- the title that bytes are, or the place of the first fault
abbrev pub title_read : List ℕ → Result Title ℕ
title_read bytes = title_format.read (record { place = 0; rest = bytes }) >>= λ t. whole t.0 t.1.place t.1.rest

-- the call gave that
abbrev pub ReadsTitle : Result Title Fault → Result Title ℕ → Type 0
ReadsTitle (Ok t) read = read ≡ Ok t
ReadsTitle (Err fault) read = read ≡ Err fault.place
