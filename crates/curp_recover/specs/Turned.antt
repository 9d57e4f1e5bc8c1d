-- What a master that doesn't serve yet says to requests.
use Rattle.std.specs.Prelude.{ℕ}
use Rattle.curp_model.specs.Recovery.{MasterStage, turns_away, turns_read_away}
use Rattle.curp_msg.specs.Moved.{Moved, quiet}
use Rattle.curp_msg.specs.declared.body.Body.{Body}
use Rattle.curp_msg.specs.declared.body.Body.TheVariants as body

-- a message that does nothing to master n: it refuses requests, and hears what else comes
abbrev pub turned_away : ℕ → MasterStage → Body → Moved MasterStage
turned_away n m (body.Update ask) = turns_away n m ask.request.id
turned_away n m (body.Sync ask) = turns_away n m ask.request.id
turned_away n m (body.Read ask) = turns_read_away n m ask.request
turned_away n m (body.Glance ask) = turns_read_away n m ask.request
turned_away n m _ = quiet m
