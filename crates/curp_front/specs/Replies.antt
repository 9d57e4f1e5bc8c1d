-- What a connection is told, as bytes.
use Rattle.std.specs.Prelude.{ℕ, codes, List, []}
use Rattle.curp_resp.specs.Reply.{error, other_of, protocol_error, reply_of}
use Rattle.curp_front.specs.declared.connection.Said.{Said}
use Rattle.curp_front.specs.declared.connection.Said.TheVariants as said
use Rattle.curp_front.specs.declared.due.InvokeRefusal.{InvokeRefusal}
use Rattle.curp_front.specs.declared.due.InvokeRefusal.TheVariants as refusal
use Rattle.curp_front.specs.declared.output.FrontOutput.{FrontOutput}
use Rattle.curp_front.specs.declared.output.FrontOutput.TheVariants as output

-- the reply to a command that wasn't invoked
abbrev pub refusal_text : InvokeRefusal → List ℕ
refusal_text refusal.Split = error (codes "keys of several partitions")
refusal_text refusal.Spent = error (codes "no more requests")

-- to more bytes than may wait
abbrev pub too_many_bytes : List ℕ
too_many_bytes = error (codes "too many bytes")

-- to a connection more than there may be
abbrev pub too_many_connections : List ℕ
too_many_connections = error (codes "too many connections")

-- the bytes of a reply; what is none has no bytes
abbrev pub said_text : Said → List ℕ
said_text said.More = []
said_text (said.Answer a) = reply_of a
said_text (said.Refused why) = refusal_text why
said_text (said.Other other) = other_of other
said_text said.Protocol = protocol_error
said_text said.TooMuch = too_many_bytes
said_text said.Close = []

-- what is told of the connection of that number
abbrev pub output_of : ℕ → Said → FrontOutput
output_of number said.More = output.More number
output_of number (said.Answer a) = output.Reply number (said_text (said.Answer a))
output_of number (said.Refused why) = output.Reply number (said_text (said.Refused why))
output_of number (said.Other other) = output.Reply number (said_text (said.Other other))
output_of number said.Protocol = output.Reply number (said_text said.Protocol)
output_of number said.TooMuch = output.Reply number (said_text said.TooMuch)
output_of number said.Close = output.Close number
