use Rattle.std.proofs.Common.{take}
use Rattle.curp_collected.proofs.Reading.{all_apart, at_nth, none_found, none_twice_more, nth, twice_found}
use Rattle.curp_collected.proofs.files.all_apart.Goals as goal

pub returns-then-is_some-clause-cause : goal.returns-then-is_some-clause-cause
returns-then-is_some-clause-cause c =
    let files = c.args.files.now in
    let k = c.loop-file.file in
    twice_found files c.requires k (nth files k) (at_nth files k c.loop-file-test.true) c.place_of.result c.if-is_some.ensures c.place_of.ensures.found

pub loop-file-preserved : goal.loop-file-preserved
loop-file-preserved c =
    let files = c.args.files.now in
    let k = c.loop-file.file in
    let one = nth files k in
    let none = none_found (take k files) one.title.node c.place_of.result c.if-is_some.ensures c.place_of.ensures.none in
    none_twice_more files k one (at_nth files k c.loop-file-test.true) none c.loop-file.invariant

pub returns-clause-apart : goal.returns-clause-apart
returns-clause-apart c = all_apart c.args.files.now c.loop-file.file c.loop-file-test.false c.loop-file.invariant
