-- All that came so far was answered.
use Rattle.std.proofs.Common.{◌-◌, ◌^◌}
use Rattle.curp_parcels.specs.Reading.{nothing_read}
use Rattle.curp_filter.specs.Keeping.{kind}
use Rattle.curp_filter.specs.Turning.{Turned, intake, outlet, point}
use Rattle.curp_filter.proofs.filter.run_node.Given as goal

abbrev pub invariant-batches : goal.invariant-batches
invariant-batches g l =
    let D = g.D.Disk in
    let S = g.S.Source in
    let K = g.K.Sink in
    Turned g.N.Core.machine (kind D.tells D.seen D.may_leave D.moment D.left_since D.faults) l.fn.role
    (point (intake nothing_read (S.left l.fn.source) (S.tells l.fn.source) (S.faults l.fn.source)) 1 l.fn.node
    (outlet (K.held l.fn.sink) (K.tells l.fn.sink) (K.faults l.fn.sink) (K.flushed l.fn.sink)))
    (point (intake l.parcels (S.left l.source) (S.tells l.source) (S.faults l.source)) l.number l.node
    (outlet (K.held l.sink) (K.tells l.sink) (K.faults l.sink) (K.flushed l.sink)))

abbrev pub decreases-batches : goal.decreases-batches
decreases-batches g l = 2 ^ 64 - l.number
