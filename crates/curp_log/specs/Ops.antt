-- Ops among the entries of a log.
use Rattle.std.specs.Prelude.{ℕ, List, Option, Some, None, slice_get, take}
use Rattle.curp_cmd.specs.Store.{Contents, applied}
use Rattle.curp_cmd.specs.declared.command.Answer.{Answer}
use Rattle.curp_cmd.specs.declared.entry.Entry.{Entry}
use Rattle.curp_cmd.specs.declared.entry.Entry.TheVariants.{Op}
use Rattle.curp_model.specs.Log.{meaning}

-- the answer to an entry over a store, if it is an Op
abbrev pub answer_of : Contents → Option Entry → Option Answer
answer_of s (Some (Op request acknowledged)) = Some (applied s request.command).answer
answer_of s _ = None

-- the answer to the Op at an index of a log, if one stands there
abbrev pub answer_at : ℕ → ℕ → List Entry → ℕ → Option Answer
answer_at lo hi entries index = answer_of (meaning lo hi (take index entries)).store (slice_get entries index)
