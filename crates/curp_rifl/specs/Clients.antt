-- What is kept of clients, as the definition has it: two lists out of one.
use Rattle.std.specs.Prelude.{ℕ, nat_lt, Bool, true, false, List, [], map, Option, unwrap_or}
use Rattle.std.specs.List.{filter}
use Rattle.curp_model.specs.Table.{Table}
use Rattle.curp_rifl.specs.declared.clients.ClientMark.{ClientMark}
use Rattle.curp_rifl.specs.declared.clients.Presence.{Presence}
use Rattle.curp_rifl.specs.declared.clients.Presence.TheVariants.{Present, Gone}

-- a client, with what is kept of it
abbrev pub Client : Type 0
Client = ℕ × ClientMark

-- what is kept of a client, or of one that isn't known
abbrev pub mark_in : Option ClientMark → ClientMark
mark_in known = unwrap_or known (record { first = 0; presence = Present })

-- it has acknowledged a number
abbrev pub has_first : ClientMark → Bool
has_first m = nat_lt 0 m.first

-- it is gone for good
abbrev pub has_left : Presence → Bool
has_left Present = false
has_left Gone = true

-- the first numbers. A number 0 makes no line
abbrev pub firsts_of : List Client → List (ℕ × ℕ)
firsts_of clients = map (λ (e : Client). (e.0, e.1.first)) (filter (λ (e : Client). has_first e.1) clients)

-- the clients that are gone
abbrev pub gone_of : List Client → List ℕ
gone_of clients = map (λ (e : Client). e.0) (filter (λ (e : Client). has_left e.1.presence) clients)

-- the table of these clients, without records
abbrev pub clients_alone : List Client → Table
clients_alone clients = record { records = []; firsts = firsts_of clients; gone = gone_of clients }
