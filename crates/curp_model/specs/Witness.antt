-- The witness (after CURP): it holds requests that don't conflict, until they are stored. The order of its refusals, its
-- slots, its collections and its suspects are this project's own choice.
use Rattle.std.specs.Prelude.{ℕ, ◌&&◌, ◌+◌, ◌-◌, ◌%◌, ◌^◌, ◌==◌, min, nat_le, nat_lt, if◌then◌else◌, Bool, true, false, not, List, [], ◌∷◌, length, map, fold, Option, Some, None, unwrap_or}
use Rattle.std.specs.List.{filter, sum, list_any}
use Rattle.std.specs.FinMap.Entries.{by_order}
use Rattle.curp_base.specs.Words.{Ascend, first_of, numbers_from}
use Rattle.curp_cmd.specs.Hash.{conflicts, hashes}
use Rattle.curp_cmd.specs.Node.{witness_node}
use Rattle.curp_cmd.specs.RequestId.{id_cmp, same_id, has_id}
use Rattle.curp_cmd.specs.declared.command.Request.{Request}
use Rattle.curp_cmd.specs.declared.command.RequestId.{RequestId}
use Rattle.curp_cmd.specs.declared.node.NodeId.{NodeId}
use Rattle.curp_msg.specs.Moved.{Moved, quiet, sends, says}
use Rattle.curp_msg.specs.declared.answer.GcAnswer.{GcAnswer}
use Rattle.curp_msg.specs.declared.answer.GcAnswer.TheVariants.{Suspects}
use Rattle.curp_msg.specs.declared.answer.GcAnswer.TheVariants as collected
use Rattle.curp_msg.specs.declared.answer.Reason.{Reason}
use Rattle.curp_msg.specs.declared.answer.Reason.TheVariants as reason
use Rattle.curp_msg.specs.declared.body.Body.{Body}
use Rattle.curp_msg.specs.declared.body.Body.TheVariants.{Record, Accepted, Rejected, Gc, Collected, Start, Freeze, FrozenAnswer, Probe, Probed}
use Rattle.curp_msg.specs.Input.{Input}
use Rattle.curp_msg.specs.Input as input
use Rattle.curp_model.specs.declared.Mode.{Mode}
use Rattle.curp_model.specs.declared.Mode.TheVariants.{Idle, Normal, Frozen}

-- a request that is held, how many collections it has survived, and whether it is suspected
pub record HeldRequest : Type 0 where
  pub request : Request
  pub survived : ℕ
  pub suspected : Bool

-- it has an epoch once it was started, and what it holds stands in ascending order of the ids
pub record WitnessState : Type 0 where
  pub mode : Mode
  pub epoch : Option ℕ
  pub sets : ℕ
  pub ways : ℕ
  pub held : List HeldRequest

-- what is held stands in ascending order of the ids, each once
abbrev pub HoldsInOrder : WitnessState → Type 0
HoldsInOrder w = Ascend id_cmp (map (λ (x : HeldRequest). x.request.id) w.held)

-- before it is started
abbrev pub fresh_witness : ℕ → ℕ → WitnessState
fresh_witness sets ways = record { mode = Idle; epoch = None; sets = sets; ways = ways; held = [] }

-- a witness that holds requests of an epoch
abbrev pub started_witness : ℕ → ℕ → ℕ → WitnessState
started_witness sets ways epoch = record (fresh_witness sets ways) { mode = Normal; epoch = Some epoch }

-- ---- start

-- by its mode
abbrev pub started : Mode → WitnessState → ℕ → WitnessState
started Idle w epoch = record w { mode = Normal; epoch = Some epoch }
started Normal w epoch = w
started Frozen w epoch = w

-- only one that wasn't started is started
abbrev pub start : WitnessState → ℕ → WitnessState
start w epoch = started w.mode w epoch

-- ---- slots: a request takes one for each of its hashes, in the set of the hash

-- how many of the hashes go to set s
abbrev pub in_set : ℕ → ℕ → List ℕ → ℕ
in_set sets s hs = length (filter (λ h. h % sets == s) hs)

-- how many slots of set s are taken
abbrev pub used : WitnessState → ℕ → ℕ
used w s = sum (map (λ x. in_set w.sets s (hashes x.request.command)) w.held)

-- set s has no room for the request
abbrev pub is_full : WitnessState → Request → ℕ → Bool
is_full w r s = nat_lt w.ways (used w s + in_set w.sets s (hashes r.command))

-- the least set that has no room
abbrev pub full_set : WitnessState → Request → Option ℕ
full_set w r = first_of (filter (is_full w r) (numbers_from 0 w.sets))

-- ---- records

-- the id is held
abbrev pub holds : WitnessState → RequestId → Bool
holds w id = list_any (λ x. same_id id x.request.id) w.held

-- the least id that is held and conflicts
abbrev pub conflict : WitnessState → Request → Option RequestId
conflict w r = first_of (map (λ x. x.request.id) (filter (λ x. conflicts x.request.command r.command) w.held))

-- what conflicts and has survived at least three collections is suspected from then on
abbrev pub suspect : Request → HeldRequest → HeldRequest
suspect r x = if conflicts x.request.command r.command && nat_le 3 x.survived then record x { suspected = true } else x

-- what a witness answers to a record, with the state after it: none of the reasons is an acceptance
pub record AfterRecord : Type 0 where
  pub state : WitnessState
  pub reason : Option Reason

-- it accepts
abbrev pub accepts : WitnessState → AfterRecord
accepts w = record { state = w; reason = None }

-- it rejects, for a reason
abbrev pub rejects : WitnessState → Reason → AfterRecord
rejects w why = record { state = w; reason = Some why }

-- it was started with another epoch
abbrev pub stranger_to : ℕ → Option ℕ → Option ℕ
stranger_to epoch None = None
stranger_to epoch (Some own) = if own == epoch then None else Some own

-- the reasons that don't look at the request: first Idle, then Stranger, then Frozen
abbrev pub turned_away : Mode → Option ℕ → Option Reason
turned_away Idle other = Some reason.Idle
turned_away mode (Some own) = Some (reason.Stranger own)
turned_away Frozen None = Some reason.Frozen
turned_away Normal None = None

-- one more request in its place
abbrev pub placed : HeldRequest → List HeldRequest → List HeldRequest
placed x [] = x ∷ []
placed x (y ∷ ys) = by_order (id_cmp x.request.id y.request.id) (x ∷ y ∷ ys) (x ∷ ys) (y ∷ placed x ys)

-- a request that has survived nothing yet
abbrev pub newly_held : Request → HeldRequest
newly_held r = record { request = r; survived = 0; suspected = false }

-- then Conflict, and then SetFull
abbrev pub by_room : WitnessState → Request → Option RequestId → Option ℕ → AfterRecord
by_room w r (Some held) full = rejects (record w { held = map (suspect r) w.held }) (reason.Conflict held)
by_room w r None (Some set) = rejects w (reason.SetFull set)
by_room w r None None = accepts (record w { held = placed (newly_held r) w.held })

-- a request that is held already is accepted without a change
abbrev pub by_request : WitnessState → Request → AfterRecord
by_request w r = if holds w r.id then accepts w else by_room w r (conflict w r) (full_set w r)

-- the reasons that do not look at the request come first
abbrev pub unless_turned_away : WitnessState → Request → Option Reason → AfterRecord
unless_turned_away w r (Some why) = rejects w why
unless_turned_away w r None = by_request w r

-- a request comes to be held (CURP's record)
unfoldable pub hold : WitnessState → ℕ → Request → AfterRecord
hold w epoch r = unless_turned_away w r (turned_away w.mode (stranger_to epoch w.epoch))

-- ---- collections

-- it has survived one more collection; the count stands still at 2^64 - 1
abbrev pub survives : HeldRequest → HeldRequest
survives x = record x { survived = min (x.survived + 1) (2 ^ 64 - 1) }

-- the listed ids are dropped, and what remains has survived one more
abbrev pub collect : WitnessState → List RequestId → WitnessState
collect w ids = record w { held = map survives (filter (λ x. not (has_id x.request.id ids)) w.held) }

-- in ascending order of their ids
abbrev pub suspects : WitnessState → List Request
suspects w = map (λ x. x.request) (filter (λ x. x.suspected) w.held)

-- what a witness does on a collection, and answers to it
pub record AfterCollection : Type 0 where
  pub state : WitnessState
  pub answer : GcAnswer

-- a collection of its epoch, by its mode
abbrev pub collected_in : Mode → WitnessState → List RequestId → AfterCollection
collected_in Normal w ids = record { state = collect w ids; answer = Suspects (suspects (collect w ids)) }
collected_in Frozen w ids = record { state = w; answer = Suspects [] }
collected_in Idle w ids = record { state = w; answer = collected.Stranger w.epoch }

-- a collection, by its own epoch
abbrev pub collected_at : Option ℕ → WitnessState → ℕ → List RequestId → AfterCollection
collected_at None w epoch ids = record { state = w; answer = collected.Stranger None }
collected_at (Some own) w epoch ids = if own == epoch then collected_in w.mode w ids else record { state = w; answer = collected.Stranger (Some own) }

-- a collection of an epoch
unfoldable pub gc : WitnessState → ℕ → List RequestId → AfterCollection
gc w epoch ids = collected_at w.epoch w epoch ids

-- ---- probes

-- it takes requests of that epoch
abbrev pub is_live : Mode → Option ℕ → ℕ → Bool
is_live Normal (Some own) epoch = own == epoch
is_live _ _ epoch = false

-- ---- the end

-- the least hash of the keys that a request names
abbrev pub least_hash : Request → ℕ
least_hash r = unwrap_or (first_of (hashes r.command)) 0

-- one more request in its place, behind those whose least hash isn't larger
abbrev pub sorted_in : List Request → Request → List Request
sorted_in [] r = r ∷ []
sorted_in (s ∷ rest) r = if nat_lt (least_hash r) (least_hash s) then r ∷ s ∷ rest else s ∷ sorted_in rest r

-- requests in ascending order of their least hashes
abbrev pub by_least_hash : List Request → List Request
by_least_hash requests = fold sorted_in [] requests

-- it takes nothing more, for good (CURP)
abbrev pub freeze : WitnessState → WitnessState
freeze w = record w { mode = Frozen }

-- all that it holds
abbrev pub frozen_requests : WitnessState → List Request
frozen_requests w = by_least_hash (map (λ x. x.request) w.held)

-- ---- messages

-- what it answers to a record
abbrev pub verdict_body : RequestId → ℕ → Option Reason → Body
verdict_body id epoch None = Accepted (record { id = id; epoch = epoch })
verdict_body id epoch (Some why) = Rejected (record { id = id; reason = why })

-- a message comes to witness n
unfoldable pub on_witness : ℕ → WitnessState → NodeId → Body → Moved WitnessState
on_witness n w from (Record r) =
    let v = hold w r.epoch r.request in
    sends v.state (says (witness_node n) from (verdict_body r.request.id r.epoch v.reason) ∷ [])
on_witness n w from (Gc g) =
    let c = gc w g.epoch g.ids in
    sends c.state (says (witness_node n) from (Collected (record { epoch = g.epoch; answer = c.answer })) ∷ [])
on_witness n w from (Start s) = quiet (start w s.epoch)
on_witness n w from (Freeze epoch) = sends (freeze w) (says (witness_node n) from (FrozenAnswer (frozen_requests w)) ∷ [])
on_witness n w from (Probe p) =
    sends w (says (witness_node n) from (Probed (record { id = p.id; epoch = p.epoch; live = is_live w.mode w.epoch p.epoch })) ∷ [])
on_witness n w from _ = quiet w

-- an input comes to witness n, which ignores all orders
abbrev pub witness_input : ℕ → WitnessState → Input → Moved WitnessState
witness_input n w (input.Local order) = quiet w
witness_input n w (input.Message m) = on_witness n w m.from m.body
