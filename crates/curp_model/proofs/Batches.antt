-- The messages of all steps, and those of one more.
use Rattle.std.proofs.Common.{◌≡◌, List, [], ◌∷◌, ◌++◌, sym, append-nil}
use Rattle.curp_base.specs.Words.{all_of}
use Rattle.curp_base.proofs.Numbered.{all_of-push}
use Rattle.curp_msg.specs.declared.message.Message.{Message}
use Rattle.curp_model.specs.World.{with_batch}

-- what a step sends comes behind all messages
pub all_of-kept : (sent : List (List Message)) (out : List Message) → all_of (with_batch sent out) ≡ all_of sent ++ out
all_of-kept sent [] = sym (append-nil (all_of sent))
all_of-kept sent (m ∷ more) = all_of-push sent (m ∷ more)
