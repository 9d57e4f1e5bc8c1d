-- What a recovering master hears while it isn't adopted.
use Rattle.std.specs.Prelude.{ℕ, Bool, true, false, [], Result, Ok, Err, None}
use Rattle.std.specs.declared.alloc.AllocError.{AllocError}
use Rattle.curp_base.specs.declared.failed.Failed.{Failed}
use Rattle.curp_base.specs.declared.failed.Failed.TheVariants as failed
use Rattle.curp_cmd.specs.declared.node.NodeId.{NodeId}
use Rattle.curp_model.specs.Recovery.{MasterStage, Recovering, RecoveryState, Serving, on_master}
use Rattle.curp_msg.specs.Moved.{Moved, within}
use Rattle.curp_msg.specs.declared.body.Body.{Body}
use Rattle.curp_msg.specs.declared.machine.Done.{Done}
use Rattle.curp_recover.specs.declared.error.Ignored.{Ignored}

-- it serves
abbrev pub is_serving : MasterStage → Bool
is_serving (Serving m) = true
is_serving _ = false

-- its recovery, which stays where it is when it begins to serve
abbrev pub recovery_in : RecoveryState → MasterStage → RecoveryState
recovery_in s (Recovering t) = t
recovery_in s _ = s

-- a message comes to recovering master n, whose recovery stays where it is by the adoption
abbrev pub unadopted : ℕ → RecoveryState → NodeId → Body → Moved RecoveryState
unadopted n s from b = within (recovery_in s) (on_master n (Recovering s) from b)

-- what isn't waited for is heard, and does nothing
abbrev pub heard : Result Done (Failed Ignored) → Result Done AllocError
heard (Ok done) = Ok done
heard (Err (failed.Because ignored)) = Ok (record { refused = 0; sent = []; invoked = None; completed = None })
heard (Err failed.NoMemory) = Err (record {})
