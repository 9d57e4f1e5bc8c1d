-- Evidence for a pending request: unsynced replies and accepts for an update (CURP), Quicks and Lives for a read.
use Rattle.std.specs.Prelude.{◌≡◌, ◌==◌, ◌&&◌, if◌then◌else◌, Bool, List, Option, Some, None}
use Rattle.std.specs.List.{list_all}
use Rattle.std.specs.Option.{IfSome, option_map}
use Rattle.curp_cmd.specs.Node.{same_node}
use Rattle.curp_cmd.specs.Store.{is_update}
use Rattle.curp_cmd.specs.declared.command.RequestId.{RequestId}
use Rattle.curp_msg.specs.Moved.{Moved, quiet}
use Rattle.curp_msg.specs.declared.machine.Completed.{Completed}
use Rattle.curp_model.specs.Client.{Accept, Attempt, ClientState, Early, Glimpse, Pending, completes_with, has_accepted, proved_answer, seen_glimpse}
use Rattle.curp_model.specs.Client.{with_accept, with_early, with_evidence, with_glimpse, with_id, with_sight}
use Rattle.curp_client.specs.declared.evidence.Evidence.{Evidence}
use Rattle.curp_client.specs.declared.evidence.Evidence.TheVariants as evidence
use Rattle.curp_client.specs.declared.evidence.KnownMaster.{KnownMaster}

-- an attempt went to that master, and all its witnesses have accepted at its epoch
abbrev pub is_backed : KnownMaster → List Accept → Attempt → Bool
is_backed m accepts a =
    same_node m.node a.master && (m.epoch == a.epoch) && (m.version == a.version) && list_all (has_accepted accepts a.epoch) a.witnesses

-- a request keeps evidence, each once
abbrev pub kept : Pending → Evidence → Pending
kept p (evidence.Reply early) = record p { early = with_early p.early early }
kept p (evidence.Accept accept) = record p { accepts = with_accept p.accepts accept }
kept p (evidence.Quick glimpse) = record p { glimpses = with_glimpse p.glimpses glimpse }
kept p (evidence.Live accept) = record p { lives = with_accept p.lives accept }

-- an update that an unsynced reply completes
abbrev pub by_reply : RequestId → Early → Completed
by_reply id e = record { id = id; answer = e.answer; by = None }

-- a read that a Quick completes, by its capture
abbrev pub by_glimpse : RequestId → Glimpse → Completed
by_glimpse id g = record { id = id; answer = g.answer; by = Some (record { master = g.master; epoch = g.epoch; number = g.capture }) }

-- what completes a request, once there is enough evidence
abbrev pub completion : Pending → Option Completed
completion p =
    if is_update p.request.command then option_map (by_reply p.request.id) (proved_answer p)
    else option_map (by_glimpse p.request.id) (seen_glimpse p)

-- what completes the request of that id, once it keeps the evidence
abbrev pub Completes : List Pending → RequestId → Evidence → Option Completed → Type 0
Completes pending id evidence completed = IfSome (with_id id pending) (λ p. completed ≡ completion (kept p evidence))

-- a request completes where there is a completion
abbrev pub completes_if : ClientState → Option Completed → Moved ClientState
completes_if c None = quiet c
completes_if c (Some completed) = completes_with c completed.id completed.answer completed.by

-- evidence is kept, and a request completes once it is enough
abbrev pub concluded : ClientState → Pending → Moved ClientState
concluded c p = if is_update p.request.command then with_evidence c p else with_sight c p
