-- What of connections comes and goes out, as bytes behind their length (this project's own).
use Rattle.std.specs.Prelude.{◌≡◌, ◌≢◌, ℕ, nat_le, Bool, true, List, [], ◌∷◌, ◌++◌, length, Option, Some, None}
use Rattle.std.specs.Int.{to_be_bytes, w32, w64}
use Rattle.curp_front.specs.declared.output.FrontOutput.{FrontOutput}
use Rattle.curp_front.specs.declared.output.FrontOutput.TheVariants as output
use Rattle.curp_front.specs.declared.words.FrontInput.{FrontInput}
use Rattle.curp_front.specs.declared.words.FrontInput.TheVariants as input

-- a tag, the number of a connection, and bytes
abbrev pub content_of : ℕ → ℕ → List ℕ → List ℕ
content_of tag connection bytes = tag ∷ to_be_bytes w64 connection ++ bytes

-- what comes
abbrev pub input_content : FrontInput → List ℕ
input_content (input.Bytes connection bytes) = content_of 2 connection bytes
input_content (input.Closed connection) = content_of 3 connection []

-- it is what the content says; or the content says nothing that comes of a connection
abbrev pub IsInput : List ℕ → Option FrontInput → Type 0
IsInput content (Some i) = input_content i ≡ content
IsInput content None = (i : FrontInput) → input_content i ≢ content

-- what goes out
abbrev pub output_content : FrontOutput → List ℕ
output_content (output.Reply connection bytes) = content_of 7 connection bytes
output_content (output.Close connection) = content_of 8 connection []
output_content (output.More connection) = content_of 9 connection []

-- with its length in front
abbrev pub output_parcel : FrontOutput → List ℕ
output_parcel o = to_be_bytes w32 (length (output_content o)) ++ output_content o

-- a parcel takes it
abbrev pub is_short : FrontOutput → Bool
is_short (output.Reply connection bytes) = nat_le (length bytes) 16777241
is_short (output.Close connection) = true
is_short (output.More connection) = true
