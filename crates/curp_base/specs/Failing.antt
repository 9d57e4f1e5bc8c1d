-- What a call gives that takes memory.
use Rattle.std.specs.Prelude.{◌≡◌, Result, Ok, Err, ⊤}
use Rattle.curp_base.specs.declared.failed.Failed.{Failed}
use Rattle.curp_base.specs.declared.failed.Failed.TheVariants as failed

-- a call gave this, or ran out of memory, which says nothing of it
abbrev pub Gives : {A E : Type 0} → Result A E → Result A (Failed E) → Type 0
Gives due (Ok x) = due ≡ Ok x
Gives due (Err failed.NoMemory) = ⊤
Gives due (Err (failed.Because reason)) = due ≡ Err reason

-- P holds of the reason for which a call failed, if there was memory
abbrev pub IfBecause : {E : Type 0} → (E → Type 0) → Failed E → Type 0
IfBecause P failed.NoMemory = ⊤
IfBecause P (failed.Because reason) = P reason
