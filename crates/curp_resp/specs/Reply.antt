-- The replies of Redis' protocol to answers, to requests that mean no command, and to bytes that are no request.
use Rattle.std.specs.Prelude.{ℕ, ◌^◌, nat_lt, if◌then◌else◌, true, false, codes, List, [], ◌++◌, length, Option, Some}
use Rattle.std.specs.Prelude.{None}
use Rattle.std.specs.Fmt.{decimal}
use Rattle.curp_cmd.specs.declared.command.Answer.{Answer}
use Rattle.curp_cmd.specs.declared.command.Answer.TheVariants as answer
use Rattle.curp_resp.specs.Language.{line_before}
use Rattle.curp_resp.specs.declared.asked.Other.{Other}
use Rattle.curp_resp.specs.declared.asked.Other.TheVariants as other
use Rattle.curp_resp.specs.declared.asked.Wrong.{Wrong}
use Rattle.curp_resp.specs.declared.asked.Wrong.TheVariants as wrong

-- a line
abbrev pub line : List ℕ → List ℕ
line text = line_before text []

-- a number as an integer
abbrev pub integer : ℕ → List ℕ
integer n = line (codes ":" ++ decimal n)

-- bytes as a bulk string
abbrev pub bulk : List ℕ → List ℕ
bulk bytes = line (codes "$" ++ decimal (length bytes)) ++ line bytes

-- a number; an integer of the protocol is below 2^63, so a greater one is told by its digits
abbrev pub number_text : ℕ → List ℕ
number_text n = if nat_lt n (2 ^ 63) then integer n else bulk (decimal n)

-- a value, if there is one
abbrev pub found_text : Option (List ℕ) → List ℕ
found_text None = line (codes "$-1")
found_text (Some value) = bulk value

-- an error
abbrev pub error : List ℕ → List ℕ
error text = line (codes "-ERR " ++ text)

-- the reply to an answer
abbrev pub reply_of : Answer → List ℕ
reply_of answer.Done = line (codes "+OK")
reply_of (answer.Removed true) = integer 1
reply_of (answer.Removed false) = integer 0
reply_of (answer.Number n) = number_text n
reply_of (answer.Length n) = integer n
reply_of (answer.Swapped true) = integer 1
reply_of (answer.Swapped false) = integer 0
reply_of answer.NotNumber = error (codes "not a number")
reply_of answer.Overflow = error (codes "overflow")
reply_of answer.TooLong = error (codes "too long")
reply_of (answer.Found value) = found_text value

-- the reply to a request that is none of the table
abbrev pub wrong_of : Wrong → List ℕ
wrong_of wrong.Unknown = error (codes "unknown command")
wrong_of wrong.Arguments = error (codes "arguments")
wrong_of wrong.Size = error (codes "size")
wrong_of wrong.KeyTwice = error (codes "key twice")
wrong_of wrong.NotInteger = error (codes "value is not an integer or out of range")
wrong_of wrong.NotOne = error (codes "increment by 1 only")

-- the reply to a request that means no command; one that asks nothing gets none
abbrev pub other_of : Other → List ℕ
other_of other.Nothing = []
other_of (other.Echo text) = bulk text
other_of (other.Wrong why) = wrong_of why

-- the reply to bytes that are no request
abbrev pub protocol_error : List ℕ
protocol_error = error (codes "protocol")
