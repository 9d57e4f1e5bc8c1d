-- What is kept of requests and of clients, list by list.
use Rattle.std.specs.Prelude.{ℕ, ◌||◌, nat_lt, nat_le, Bool, List, fold}
use Rattle.curp_base.specs.Places.{put_once}
use Rattle.curp_cmd.specs.RequestId.{id_cmp}
use Rattle.curp_cmd.specs.declared.command.Answer.{Answer}
use Rattle.curp_cmd.specs.declared.command.RequestId.{RequestId}
use Rattle.curp_model.specs.Table.{Noted, is_below, raise_first}

-- a request, with its answer and the index of its entry
abbrev pub Record : Type 0
Record = RequestId × Noted

-- the client is below this one
abbrev pub is_before : ℕ → Record → Bool
is_before client e = nat_lt e.0.client client

-- the client is this one or below it
abbrev pub is_up_to : ℕ → Record → Bool
is_up_to client e = nat_le e.0.client client

-- the client is below this one, or it is this one with a number below the first
abbrev pub is_before_first : ℕ → ℕ → Record → Bool
is_before_first client first e = nat_lt e.0.client client || is_below client first e.0

-- the records with those that come, where they have none
abbrev pub with_records : ℕ → List Record → List (RequestId × Answer) → List Record
with_records index records es = fold (λ (kept : List Record) (e : RequestId × Answer). put_once id_cmp e.0 (record { answer = e.1; index = index }) kept) records es

-- the larger first numbers count
abbrev pub with_firsts : List (ℕ × ℕ) → List (ℕ × ℕ) → List (ℕ × ℕ)
with_firsts firsts es = fold (λ (kept : List (ℕ × ℕ)) (e : ℕ × ℕ). raise_first kept e.0 e.1) firsts es
