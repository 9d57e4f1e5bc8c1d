-- The replies to requests of which one more is replied to.
use Rattle.std.proofs.Common.{◌≡◌, ◌+◌, List, [], ◌∷◌, ◌++◌, length, refl, ap, sym, ◌∙◌, arith, append_assoc, append-nil}
use Rattle.std.specs.Prelude.{flat_map}
use Rattle.curp_resp.specs.Reply.{other_of}
use Rattle.curp_resp.specs.declared.asked.Asked.{Asked}
use Rattle.curp_resp.specs.declared.asked.Asked.TheVariants as asked
use Rattle.curp_resp.specs.declared.asked.Other.{Other}
use Rattle.curp_cmd.specs.declared.command.Command.{Command}
use Rattle.curp_front.specs.Replies.{said_text}
use Rattle.curp_front.specs.Talk.{command_count, outcome_text, replies_to}
use Rattle.curp_front.specs.declared.connection.Said.{Said}
use Rattle.curp_front.specs.declared.due.DueReply.{DueReply}

-- one more command, and what came of it
pub replies_command : (requests : List Asked) (outcomes : List DueReply) (command : Command) (outcome : DueReply) → command_count requests ≡ length outcomes
    → replies_to (requests ++ asked.Command command ∷ []) (outcomes ++ outcome ∷ []) ≡ replies_to requests outcomes ++ outcome_text outcome
replies_command [] [] command outcome e = append-nil (outcome_text outcome)
replies_command [] (o ∷ outcomes) command outcome e = absurd (omega (arith, e))
replies_command (asked.Other other ∷ requests) outcomes command outcome e =
    ap (λ w. other_of other ++ w) (replies_command requests outcomes command outcome e) ∙ sym (append_assoc (other_of other) (replies_to requests outcomes) (outcome_text outcome))
replies_command (asked.Command c ∷ requests) [] command outcome e = absurd (omega (arith, e))
replies_command (asked.Command c ∷ requests) (o ∷ outcomes) command outcome e =
    ap (λ w. outcome_text o ++ w) (replies_command requests outcomes command outcome (omega (arith, e)))
    ∙ sym (append_assoc (outcome_text o) (replies_to requests outcomes) (outcome_text outcome))

-- one more that means no command
pub replies_other : (requests : List Asked) (outcomes : List DueReply) (other : Other) → command_count requests ≡ length outcomes
    → replies_to (requests ++ asked.Other other ∷ []) outcomes ≡ replies_to requests outcomes ++ other_of other
replies_other [] outcomes other e = append-nil (other_of other)
replies_other (asked.Other first ∷ requests) outcomes other e =
    ap (λ t. other_of first ++ t) (replies_other requests outcomes other e) ∙ sym (append_assoc (other_of first) (replies_to requests outcomes) (other_of other))
replies_other (asked.Command c ∷ requests) [] other e = absurd (omega (arith, e))
replies_other (asked.Command c ∷ requests) (o ∷ outcomes) other e =
    ap (λ t. outcome_text o ++ t) (replies_other requests outcomes other (omega (arith, e)))
    ∙ sym (append_assoc (outcome_text o) (replies_to requests outcomes) (other_of other))

pub count_command : (requests : List Asked) (command : Command) → command_count (requests ++ asked.Command command ∷ []) ≡ command_count requests + 1
count_command [] command = refl
count_command (asked.Other other ∷ requests) command = count_command requests command
count_command (asked.Command c ∷ requests) command = ap (λ n. n + 1) (count_command requests command)

pub count_other : (requests : List Asked) (other : Other) → command_count (requests ++ asked.Other other ∷ []) ≡ command_count requests
count_other [] other = refl
count_other (asked.Other first ∷ requests) other = count_other requests other
count_other (asked.Command c ∷ requests) other = ap (λ n. n + 1) (count_other requests other)

-- what was told, and one thing more
pub told_more : (told : List Said) (s : Said) → flat_map said_text (told ++ s ∷ []) ≡ flat_map said_text told ++ said_text s
told_more [] s = append-nil (said_text s)
told_more (first ∷ told) s =
    ap (λ w. said_text first ++ w) (told_more told s) ∙ sym (append_assoc (said_text first) (flat_map said_text told) (said_text s))
