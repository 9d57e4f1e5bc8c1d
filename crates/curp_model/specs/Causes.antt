-- Why a step isn't made: each cause with none of the earlier ones.
use Rattle.std.specs.Prelude.{◌≡◌, false}
use Rattle.curp_msg.specs.declared.script.Step.{Step}
use Rattle.curp_model.specs.World.{World, deed_of, is_lost, is_too_much, names_nobody, names_stopped, stops_manager}

-- its message was sent, if it delivers one
abbrev pub IsSent : World → Step → Type 0
IsSent w s = is_lost w s ≡ false

-- besides, the nodes that it names are there
pub record IsThere (w : World) (s : Step) : Type 0 where
  pub sent : IsSent w s
  pub named : names_nobody w s ≡ false

-- besides, it doesn't stop the manager
pub record SparesManager (w : World) (s : Step) : Type 0 where
  pub there : IsThere w s
  pub other : stops_manager s ≡ false

-- besides, the node isn't stopped
pub record IsRunning (w : World) (s : Step) : Type 0 where
  pub spares : SparesManager w s
  pub runs : names_stopped w s ≡ false

-- besides, the messages don't weigh too much for it
pub record IsLight (w : World) (s : Step) : Type 0 where
  pub running : IsRunning w s
  pub light : is_too_much w (deed_of w s) ≡ false
