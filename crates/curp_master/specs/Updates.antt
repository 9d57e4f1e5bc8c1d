-- What becomes of clients' requests.
use Rattle.std.specs.Prelude.{ℕ, Bool, [], ◌∷◌, length, option_map}
use Rattle.curp_base.specs.Cases.{first_case}
use Rattle.curp_cmd.specs.declared.command.Request.{Request}
use Rattle.curp_msg.specs.Moved.{Moved}
use Rattle.curp_msg.specs.declared.body.Ask.{Ask}
use Rattle.curp_model.specs.declared.Verdict.{Verdict}
use Rattle.curp_model.specs.declared.Verdict.TheVariants.{Deny, Execute}
use Rattle.curp_model.specs.Master.{MasterState, by_owner, by_version, holds_back, marked_free, pushed}

-- the verdict on a request that is new
abbrev pub new_verdict : MasterState → Ask → Verdict
new_verdict m ask =
    first_case (option_map Deny (by_version m ask) ∷ option_map Deny (by_owner m ask) ∷ []) Execute

-- a request is pushed, free or not, and held back
abbrev pub pushes_held : ℕ → MasterState → Request → Bool → Moved MasterState
pushes_held n m r is_free = holds_back n (marked_free (pushed m r r.first) (length m.log) is_free) (length m.log)
