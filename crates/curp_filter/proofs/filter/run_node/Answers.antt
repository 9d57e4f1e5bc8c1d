use Rattle.std.proofs.Common.{◌≡◌, ◌<◌, ◌^◌, ◌-◌, ◌++◌, arith}
use Rattle.curp_filter.specs.Keeping.{kind}
use Rattle.curp_filter.proofs.Coming.{number_small}
use Rattle.curp_filter.proofs.Running.{all_came, all_written, breaks_counted, first_came, first_judged, first_kept, first_written, none_left, nothing_behind, ran_to, read_fault, write_fault}
use Rattle.curp_filter.proofs.Turning.{turned_again, turned_none}
use Rattle.curp_filter.proofs.filter.run_node.Goals as goal

pub batches-init : goal.batches-init
batches-init g c =
    let D = g.D.Disk in
    rw c.new-parcels.ensures (turned_none g.N.Core.machine (kind D.tells D.seen D.may_leave D.moment D.left_since D.faults) g.met.D.Disk.only_now c.args.role _)

pub batches-preserved : goal.batches-preserved
batches-preserved g c =
    let D = g.D.Disk in
    turned_again g.N.Core.machine (kind D.tells D.seen D.may_leave D.moment D.left_since D.faults) g.met.D.Disk.only_now c.args.role _ _ _ c.batches.invariant c.in-Ok.ensures.turned

pub batches-smaller : goal.batches-smaller
batches-smaller g c =
    let more : c.batches.number < c.in-Ok.behind = c.in-Ok.ensures.counts c.batches-test.true in
    omega (arith, more, c.batches-test.true)

-- ---- where a turn ended it

pub returns-in-Err-clause-runs : goal.returns-in-Err-clause-runs
returns-in-Err-clause-runs g c =
    let D = g.D.Disk in
    record {
      read = c.turn.new.parcels;
      number = c.batches.number;
      ran = ran_to g.N.Core.machine (kind D.tells D.seen D.may_leave D.moment D.left_since D.faults) c.args.role _ _ _ _ c.batches.invariant c.in-Err.ensures.breaks;
    }

pub returns-in-Err-clause-read_fault : goal.returns-in-Err-clause-read_fault
returns-in-Err-clause-read_fault g c =
    let machine = g.N.Core.machine in
    let D = g.D.Disk in
    let disk = kind D.tells D.seen D.may_leave D.moment D.left_since D.faults in
    read_fault machine disk c.args.role _ _ _ (ran_to machine disk c.args.role _ _ _ _ c.batches.invariant c.in-Err.ensures.breaks)

pub returns-in-Err-clause-write_fault : goal.returns-in-Err-clause-write_fault
returns-in-Err-clause-write_fault g c =
    let machine = g.N.Core.machine in
    let D = g.D.Disk in
    let disk = kind D.tells D.seen D.may_leave D.moment D.left_since D.faults in
    write_fault machine disk c.args.role _ _ _ (ran_to machine disk c.args.role _ _ _ _ c.batches.invariant c.in-Err.ensures.breaks)

pub returns-in-Err-clause-answered : goal.returns-in-Err-clause-answered
returns-in-Err-clause-answered g c tells writes is =
    let machine = g.N.Core.machine in
    let D = g.D.Disk in
    let disk = kind D.tells D.seen D.may_leave D.moment D.left_since D.faults in
    let ran = ran_to machine disk c.args.role _ _ _ _ c.batches.invariant c.in-Err.ensures.breaks in
    record {
      cames = ran.turned.cames;
      passed = ran.reached.source.passed;
      judged = ran.turned.judged;
      comes = all_came machine disk c.args.role _ _ _ ran is tells;
      written = all_written machine disk c.args.role _ _ _ ran is writes;
    }

pub returns-in-Err-clause-end : goal.returns-in-Err-clause-end
returns-in-Err-clause-end g c tells is =
    let machine = g.N.Core.machine in
    let D = g.D.Disk in
    let disk = kind D.tells D.seen D.may_leave D.moment D.left_since D.faults in
    nothing_behind c.turn.new.parcels.ahead _ (none_left machine disk c.args.role _ _ _ (ran_to machine disk c.args.role _ _ _ _ c.batches.invariant c.in-Err.ensures.breaks) is tells)

pub returns-in-Err-clause-prefix : goal.returns-in-Err-clause-prefix
returns-in-Err-clause-prefix g c =
    let machine = g.N.Core.machine in
    let D = g.D.Disk in
    let disk = kind D.tells D.seen D.may_leave D.moment D.left_since D.faults in
    let ran = ran_to machine disk c.args.role _ _ _ _ c.batches.invariant c.in-Err.ensures.breaks in
    record {
      cames = ran.turned.cames ++ ran.breaks.cames;
      judged = first_judged machine disk c.args.role _ _ _ ran;
      came = first_came machine disk c.args.role _ _ _ ran;
      part = first_written machine disk c.args.role _ _ _ ran;
      outlasts = first_kept machine disk c.args.role g.met.D.Disk.only_now _ _ _ ran;
    }

-- ---- where no number was left

pub returns-clause-prefix : goal.returns-clause-prefix
returns-clause-prefix g c =
    let machine = g.N.Core.machine in
    let D = g.D.Disk in
    let disk = kind D.tells D.seen D.may_leave D.moment D.left_since D.faults in
    let counted : c.batches.number ≡ 2 ^ 64 - 1 = omega (arith, c.batches-test.false, c.batches.invariant.counted, number_small 1 c.batches.invariant.cames (omega arith)) in
    let ran = ran_to machine disk c.args.role _ _ _ _ c.batches.invariant (breaks_counted machine disk c.args.role g.met.D.Disk.only_now _ counted) in
    record {
      cames = ran.turned.cames ++ ran.breaks.cames;
      judged = first_judged machine disk c.args.role _ _ _ ran;
      came = first_came machine disk c.args.role _ _ _ ran;
      part = first_written machine disk c.args.role _ _ _ ran;
      outlasts = first_kept machine disk c.args.role g.met.D.Disk.only_now _ _ _ ran;
    }

pub returns-clause-runs : goal.returns-clause-runs
returns-clause-runs g c =
    let D = g.D.Disk in
    let disk = kind D.tells D.seen D.may_leave D.moment D.left_since D.faults in
    let counted : c.batches.number ≡ 2 ^ 64 - 1 = omega (arith, c.batches-test.false, c.batches.invariant.counted, number_small 1 c.batches.invariant.cames (omega arith)) in
    record {
      read = c.batches.parcels;
      number = c.batches.number;
      ran = ran_to g.N.Core.machine disk c.args.role _ _ _ _ c.batches.invariant (breaks_counted g.N.Core.machine disk c.args.role g.met.D.Disk.only_now _ counted);
    }

pub returns-clause-read_fault : goal.returns-clause-read_fault
returns-clause-read_fault g c = record { rose = λ is. absurd cc; stands = λ other. c.batches.invariant.took.same_faults }

pub returns-clause-write_fault : goal.returns-clause-write_fault
returns-clause-write_fault g c = record { rose = λ is. absurd cc; stands = λ other. c.batches.invariant.wrote.same_faults }
