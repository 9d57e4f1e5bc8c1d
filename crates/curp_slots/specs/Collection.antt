-- What a collection drops, and what it leaves.
use Rattle.std.specs.Prelude.{ℕ, not, List, map}
use Rattle.std.specs.List.{filter}
use Rattle.curp_cmd.specs.RequestId.{has_id}
use Rattle.curp_cmd.specs.declared.command.Request.{Request}
use Rattle.curp_cmd.specs.declared.command.RequestId.{RequestId}
use Rattle.curp_model.specs.Witness.{HeldRequest}
use Rattle.curp_slots.specs.Register.{IndexPlace}

-- what isn't listed remains
abbrev pub what_remains : List RequestId → List HeldRequest → List HeldRequest
what_remains listed held = filter (λ x. not (has_id x.request.id listed)) held

-- the suspects among what is held
abbrev pub suspected_of : List HeldRequest → List Request
suspected_of held = map (λ x. x.request) (filter (λ x. x.suspected) held)

-- the places of what is listed
abbrev pub places_freed : List RequestId → List IndexPlace → List ℕ
places_freed listed index = map (λ e. e.1) (filter (λ e. has_id e.0 listed) index)

-- the places of what isn't listed
abbrev pub places_left : List RequestId → List IndexPlace → List IndexPlace
places_left listed index = filter (λ e. not (has_id e.0 listed)) index
