-- The number that a round has as it begins.
use Rattle.std.proofs.Common.{◌≡◌, ℕ, ◌+◌, List, Option, Some, ap, sym, ◌∙◌, subst}
use Rattle.curp_cmd.specs.declared.entry.Entry.{Entry}
use Rattle.curp_model.specs.Master.{MasterState}
use Rattle.curp_msg.specs.Moved.{Node}
use Rattle.curp_master.specs.Rounds.{IsNextRound, IsRound}
use Rattle.curp_master.specs.declared.round.Round.{Round}

pub next_of : (m : Node MasterState) (more : List Entry) {o : Option Round} {r : Round} {before : ℕ} → IsNextRound m more o → o ≡ Some r
    → before ≡ m.state.round → r.number ≡ before + 1
next_of m more {o} {r} is_next some was =
    let next : IsRound m more r = subst (IsNextRound m more) some is_next in
    next.next ∙ ap (λ (k : ℕ). k + 1) (sym was)
