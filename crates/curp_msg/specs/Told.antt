-- How a call tells what it makes of an order: what the node does, the reason for which it is refused, or that there was no memory (this project's own).
use Rattle.std.specs.Prelude.{◌≡◌, ℕ, [], None, Result, Ok, Err}
use Rattle.std.specs.declared.alloc.AllocError.{AllocError}
use Rattle.curp_base.specs.declared.failed.Failed.{Failed}
use Rattle.curp_base.specs.declared.failed.Failed.TheVariants as failed
use Rattle.curp_msg.specs.declared.machine.Done.{Done}

-- a call tells by its reason the number of the refusal, so that only an order which isn't refused needs memory
abbrev pub Tells : {A E : Type 0} → (E → ℕ) → ℕ → Result A (Failed E) → Type 0
Tells number refused (Ok done) = refused ≡ 0
Tells number refused (Err failed.NoMemory) = refused ≡ 0
Tells number refused (Err (failed.Because why)) = refused ≡ number why

-- a refusal is told by its number, and no memory as it is
abbrev pub told : {E : Type 0} → (E → ℕ) → Result Done (Failed E) → Result Done AllocError
told number (Ok done) = Ok done
told number (Err failed.NoMemory) = Err (record {})
told number (Err (failed.Because why)) = Ok (record { refused = number why; sent = []; invoked = None; completed = None })
