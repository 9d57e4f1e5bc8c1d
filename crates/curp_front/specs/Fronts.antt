-- Connections beside each other, in front of one client node.
use Rattle.std.specs.Prelude.{ℕ, nat_le, Bool, false, if◌then◌else◌, List, [], ◌∷◌, ◌++◌, length, Option, Some, None, option_map}
use Rattle.curp_cmd.specs.declared.command.Command.{Command}
use Rattle.curp_front.specs.Conversation.{Conversation, came, command_of, fresh, gone, has_number, is_over, passed, said_by, settled, speaks, taken, wants}
use Rattle.curp_front.specs.Finding.{Found, found_by, in_place}
use Rattle.curp_front.specs.Replies.{output_of}
use Rattle.curp_front.specs.declared.connection.Said.{Said}
use Rattle.curp_front.specs.declared.due.DueReply.{DueReply}
use Rattle.curp_front.specs.declared.output.FrontOutput.{FrontOutput}

-- so many connections there may be
abbrev pub most_connections : ℕ
most_connections = 1024

-- so many requests of a client node may be pending
abbrev pub most_pending : ℕ
most_pending = 8

-- it is forgotten where it is over
abbrev pub kept : Conversation → List Conversation
kept c = if is_over c then [] else c ∷ []

-- ---- what comes

-- something comes to the connection that was found, and the others stay as they are
abbrev pub changed_at : (Conversation → List Conversation) → List Conversation → Option (Found Conversation) → List Conversation
changed_at change connections None = connections
changed_at change connections (Some found) = in_place (change found.it) found

-- something comes to the connection of that number, if there is one
abbrev pub changed : ℕ → (Conversation → List Conversation) → List Conversation → List Conversation
changed number change connections = changed_at change connections (found_by (has_number number) connections)

-- bytes come of a connection that was found, or else of one that begins with them, unless there are as many as may be
abbrev pub bytes_at : ℕ → List ℕ → List Conversation → Option (Found Conversation) → List Conversation
bytes_at number bytes connections (Some found) = in_place (came bytes found.it ∷ []) found
bytes_at number bytes connections None =
    if nat_le most_connections (length connections) then connections else connections ++ came bytes (fresh number) ∷ []

abbrev pub bytes_came : ℕ → List ℕ → List Conversation → List Conversation
bytes_came number bytes connections = bytes_at number bytes connections (found_by (has_number number) connections)

abbrev pub is_full_at : List Conversation → Option (Found Conversation) → Bool
is_full_at connections (Some found) = false
is_full_at connections None = nat_le most_connections (length connections)

-- a connection of that number would be one more than there may be
abbrev pub is_full : ℕ → List Conversation → Bool
is_full number connections = is_full_at connections (found_by (has_number number) connections)

-- no more bytes of it come
abbrev pub ended : ℕ → List Conversation → List Conversation
ended number connections = changed number (λ c. kept (gone c)) connections

-- this came of the first of its commands that was given, and of which nothing had come
abbrev pub settled_in : ℕ → DueReply → List Conversation → List Conversation
settled_in number due connections = changed number (λ c. settled due c ∷ []) connections

-- ---- which command is to be invoked

-- the first connection that has one, while less than 8 are pending
abbrev pub wanting : ℕ → List Conversation → Option (Found Conversation)
wanting pending connections = if nat_le most_pending pending then None else found_by wants connections

abbrev pub taken_of : Option (Found Conversation) → Option (ℕ × Command)
taken_of None = None
taken_of (Some found) = option_map (λ command. (found.it.number, command)) (command_of found.it)

abbrev pub next_taken : ℕ → List Conversation → Option (ℕ × Command)
next_taken pending connections = taken_of (wanting pending connections)

-- those before it, and last itself, have their next turn behind the others
abbrev pub after_taking_of : List Conversation → Option (Found Conversation) → List Conversation
after_taking_of connections None = connections
after_taking_of connections (Some found) = found.behind ++ found.before ++ taken found.it ∷ []

abbrev pub after_taking : ℕ → List Conversation → List Conversation
after_taking pending connections = after_taking_of connections (wanting pending connections)

-- ---- what is told

abbrev pub told_of : Option (Found Conversation) → Option FrontOutput
told_of None = None
told_of (Some found) = option_map (output_of found.it.number) (said_by found.it)

-- the first connection that is to be told something is told it
abbrev pub next_output : List Conversation → Option FrontOutput
next_output connections = told_of (found_by speaks connections)

abbrev pub passed_by : Option Said → Conversation → List Conversation
passed_by None c = c ∷ []
passed_by (Some said) c = kept (passed said c)

abbrev pub after_output : List Conversation → List Conversation
after_output connections = changed_at (λ c. passed_by (said_by c) c) connections (found_by speaks connections)
