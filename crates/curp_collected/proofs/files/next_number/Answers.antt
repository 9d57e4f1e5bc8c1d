use Rattle.std.proofs.Common.{◌∷◌, ◌++◌, [], take, sym, subst}
use Rattle.curp_base.proofs.Lists.{take_one}
use Rattle.curp_collected.specs.Files.{IsNext}
use Rattle.curp_collected.proofs.Finding.{next_push}
use Rattle.curp_collected.proofs.Reading.{at_nth, nth}
use Rattle.curp_collected.proofs.files.next_number.Goals as goal

pub loop-one-preserved : goal.loop-one-preserved
loop-one-preserved c =
    let files = c.args.files.now in
    let k = c.loop-one.one-index in
    let more = next_push c.args.kind c.args.above (take k files) (nth files k) c.loop-one.next c.loop-one.invariant in
    let found = subst (λ next. IsNext (take k files ++ nth files k ∷ []) c.args.kind c.args.above next) (sym c.nearer-next.ensures) more in
    subst (λ l. IsNext l c.args.kind c.args.above c.nearer-next.result) (sym (take_one files k (nth files k) (at_nth files k c.loop-one-test.true))) found
