use Rattle.std.proofs.Common.{rules, ◌≡◌, ◌≢◌, ◌<◌, length, arith}
use Rattle.curp_collected.specs.Files.{IsOfHeader, IsPossible}
use Rattle.curp_collected.proofs.Finding.{all_seen}
use Rattle.curp_collected.proofs.Reading.{at_nth, beyond, no_such_node, nth, of_header_more, other_header}
use Rattle.curp_collected.proofs.files.header_of.Goals as goal

pub returns-then-ne-clause-cause : goal.returns-then-ne-clause-cause
returns-then-ne-clause-cause c =
    let files = c.args.files.now in
    let k = c.loop-file.file in
    let some : 0 < length files = omega (arith, c.in-len1-up.len_at_least) in
    let other : (nth files k).title.header ≢ (nth files 0).title.header = search rules in
    other_header files c.requires k (nth files k) (at_nth files k c.loop-file-test.true) (nth files 0) (at_nth files 0 some) other

pub returns-then-not-is_possible-clause-cause : goal.returns-then-not-is_possible-clause-cause
returns-then-not-is_possible-clause-cause c =
    let files = c.args.files.now in
    let k = c.loop-file.file in
    let h = (nth files 0).title.header in
    let same : (nth files k).title.header ≡ h = search rules in
    let cannot : IsPossible h (nth files k).title.node → ⊥ = search rules in
    let client = beyond h (nth files k).title.node cannot in
    no_such_node files c.requires k (nth files k) (at_nth files k c.loop-file-test.true) h same client.0 client.1

pub loop-file-preserved : goal.loop-file-preserved
loop-file-preserved c =
    let files = c.args.files.now in
    let k = c.loop-file.file in
    let h = (nth files 0).title.header in
    let same : (nth files k).title.header ≡ h = search rules in
    let possible : IsPossible h (nth files k).title.node = search rules in
    of_header_more files c.requires k (nth files k) (at_nth files k c.loop-file-test.true) h same possible c.loop-file.invariant

pub returns-clause-each : goal.returns-clause-each
returns-clause-each c = all_seen (IsOfHeader (nth c.args.files.now 0).title.header) c.args.files.now c.loop-file.file c.loop-file-test.false c.loop-file.invariant
