use Rattle.std.proofs.Common.{rules, ◌≡◌, false, inr}
use Rattle.curp_law_weave.specs.Run.{TakesFirst}
use Rattle.curp_anew.specs.Opening.{IsAnew}
use Rattle.curp_anew.proofs.anew.add_anew.Goals as goal
use Rattle.curp_anew.proofs.anew.add_anew.Goals.{else-not-is_there-2-via-then-not-is_there-2+else-not-takes_first, else-not-is_there-2-via-else-not-is_there-2}

pub returns-clause-added : goal.returns-clause-added
returns-clause-added g c is =
    let anew : IsAnew c.args.id c.args.node c.in-Some.log = rw c.in-Some.is at c.in_ok-log.ensures.anew in
    let first : c.args.is_there ≡ false → TakesFirst c.in-Some.log.items = λ fresh. elim c.else-not-is_there-2.branch [
      | else-not-is_there-2-via-then-not-is_there-2+else-not-takes_first w ↦ search rules
      | else-not-is_there-2-via-else-not-is_there-2 w ↦ search rules
    ] in
    inr (record { log = c.in-Some.log; put = c.in_ok-push.ensures.items; begun = record { anew = anew; first = first } })
