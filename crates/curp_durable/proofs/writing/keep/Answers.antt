use Rattle.std.proofs.Common.{length}
use Rattle.curp_durable.proofs.Going.{torn_synced, torn_write, unwritten}
use Rattle.curp_durable.proofs.writing.keep.Goals as goal

pub returns-in-Done-sync-clause-any_moment : goal.returns-in-Done-sync-clause-any_moment
returns-in-Done-sync-clause-any_moment g c =
    let D = g.D.Disk in
    let mid = c.write_at.new.self in
    let new = c.sync.new.self in
    torn_synced D.seen D.may_leave D.moment D.left_since g.met.D.Disk.only_now c.args.at (length c.args.bytes.now) c.args.disk.now mid new c.write_at.ensures.crash c.write_at.ensures.time
    (unwritten D.seen D.may_leave D.moment D.left_since g.met.D.Disk.only_now mid new c.sync.ensures.seen c.sync.ensures.crash c.sync.ensures.time)

pub returns-in-Failed-sync-clause-any_moment : goal.returns-in-Failed-sync-clause-any_moment
returns-in-Failed-sync-clause-any_moment g c =
    let D = g.D.Disk in
    let mid = c.write_at.new.self in
    let new = c.sync.new.self in
    torn_synced D.seen D.may_leave D.moment D.left_since g.met.D.Disk.only_now c.args.at (length c.args.bytes.now) c.args.disk.now mid new c.write_at.ensures.crash c.write_at.ensures.time
    (unwritten D.seen D.may_leave D.moment D.left_since g.met.D.Disk.only_now mid new c.sync.ensures.seen c.sync.ensures.crash c.sync.ensures.time)

pub returns-in-NoMemory-sync-clause-any_moment : goal.returns-in-NoMemory-sync-clause-any_moment
returns-in-NoMemory-sync-clause-any_moment g c =
    let D = g.D.Disk in
    let mid = c.write_at.new.self in
    let new = c.sync.new.self in
    torn_synced D.seen D.may_leave D.moment D.left_since g.met.D.Disk.only_now c.args.at (length c.args.bytes.now) c.args.disk.now mid new c.write_at.ensures.crash c.write_at.ensures.time
    (unwritten D.seen D.may_leave D.moment D.left_since g.met.D.Disk.only_now mid new c.sync.ensures.seen c.sync.ensures.crash c.sync.ensures.time)

pub returns-in-Failed-clause-any_moment : goal.returns-in-Failed-clause-any_moment
returns-in-Failed-clause-any_moment g c =
    let D = g.D.Disk in
    torn_write D.seen D.may_leave D.moment D.left_since g.met.D.Disk.only_now c.args.at (length c.args.bytes.now) c.args.disk.now c.write_at.new.self c.write_at.ensures.crash c.write_at.ensures.time

pub returns-in-NoMemory-clause-any_moment : goal.returns-in-NoMemory-clause-any_moment
returns-in-NoMemory-clause-any_moment g c =
    let D = g.D.Disk in
    torn_write D.seen D.may_leave D.moment D.left_since g.met.D.Disk.only_now c.args.at (length c.args.bytes.now) c.args.disk.now c.write_at.new.self c.write_at.ensures.crash c.write_at.ensures.time
