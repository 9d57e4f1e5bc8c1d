-- Why bytes are not decoded, and what decoding gives unless memory runs out.
use Rattle.std.specs.Prelude.{◌≡◌, Result, Ok, Err, ⊤}
use Rattle.curp_base.specs.declared.failed.Failed.{Failed}
use Rattle.curp_base.specs.declared.failed.Failed.TheVariants as failed
use Rattle.curp_items.specs.declared.fault.Fault.{Fault}
use Rattle.curp_wire.specs.declared.error.FrameError.{FrameError}
use Rattle.curp_wire.specs.declared.error.FrameError.TheVariants as error

-- by why a frame's content isn't read
abbrev pub frame_error : Failed Fault → Failed FrameError
frame_error failed.NoMemory = failed.NoMemory
frame_error (failed.Because fault) = failed.Because (error.BadField fault.place)

-- the call failed as it does where there is memory, or memory ran out
abbrev pub FailsSo : {A : Type 0} → Failed FrameError → Result A FrameError → Type 0
FailsSo failed.NoMemory gives = ⊤
FailsSo (failed.Because why) gives = gives ≡ Err why

-- the call gave what it gives where there is memory, or memory ran out
abbrev pub GivesIfMemory : {A : Type 0} → Result A (Failed FrameError) → Result A FrameError → Type 0
GivesIfMemory (Ok x) gives = gives ≡ Ok x
GivesIfMemory (Err why) gives = FailsSo why gives
