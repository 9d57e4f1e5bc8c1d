-- Requests by their least hashes.
use Rattle.std.specs.Prelude.{◌≢◌, ℕ, List, [], ◌∷◌, map, fold, slice_index_or, ⊤}
use Rattle.std.specs.FinMap.Entries.{put}
use Rattle.std.specs.Ordering.{nat_cmp}
use Rattle.curp_base.specs.Words.{Each}
use Rattle.curp_cmd.specs.declared.command.Request.{Request}
use Rattle.curp_model.specs.Witness.{HeldRequest, least_hash}
use Rattle.curp_slots.specs.Register.{IndexPlace, held_at, nobody}

-- the requests that are held
abbrev pub requests_of : List HeldRequest → List Request
requests_of held = map (λ x. x.request) held

-- no two requests have one least hash
abbrev pub LeastHashesApart : List Request → Type 0
LeastHashesApart [] = ⊤
LeastHashesApart (r ∷ rs) = Each (λ (s : Request). least_hash r ≢ least_hash s) rs × LeastHashesApart rs

-- the request at that place
abbrev pub request_at : List HeldRequest → ℕ → Request
request_at kept at = (slice_index_or kept at nobody).request

-- each place with the least hash of what stands there, in ascending order of these
abbrev pub least_places : List HeldRequest → List IndexPlace → List (ℕ × ℕ)
least_places kept index = fold (λ done e. put nat_cmp (least_hash (held_at kept e).request) e.1 done) [] index
