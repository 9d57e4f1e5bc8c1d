use Rattle.std.proofs.Common.{◌+◌, ◌∷◌, [], length, refl, inl, inr, subst}
use Rattle.curp_disk.specs.Disk.{Torn}
use Rattle.curp_durable.specs.Appending.{ShutOrStaged}
use Rattle.curp_durable.proofs.Going.{chained, torn_one, weaker}
use Rattle.curp_durable.proofs.Commits.{torn_behind, torn_commit}
use Rattle.curp_durable.proofs.Running.{run_on}
use Rattle.curp_durable.specs.Running.{keeping}
use Rattle.curp_durable.proofs.writing.append.Goals as goal

pub returns-in-Kept-clause-any_moment : goal.returns-in-Kept-clause-any_moment
returns-in-Kept-clause-any_moment g c told =
    let seen = g.D.Disk.seen in
    let old = c.args.disk.now in
    let mid = c.keep.new.disk in
    let new = c.keep-in-Kept.new.disk in
    let commit = c.args.commit in
    let piece = c.args.piece.now in
    let P = ShutOrStaged (seen old) commit piece in
    let first = torn_one seen g.D.Disk.may_leave g.D.Disk.moment g.D.Disk.left_since g.met.D.Disk.only_now (commit + 1) (length piece) old mid (c.requires.durable told) c.keep.ensures.any_moment in
    let second = torn_one seen g.D.Disk.may_leave g.D.Disk.moment g.D.Disk.left_since g.met.D.Disk.only_now commit 1 mid new (c.in-Kept.ensures.durable told refl) c.keep-in-Kept.ensures.any_moment in
    chained seen g.D.Disk.may_leave g.D.Disk.moment g.D.Disk.left_since g.met.D.Disk.only_now old mid new P
    (weaker seen g.D.Disk.may_leave g.D.Disk.moment g.D.Disk.left_since g.met.D.Disk.only_now old mid (Torn (commit + 1) (length piece) (seen old)) P
    (λ f torn. inl (torn_behind (seen old) commit (length piece) f torn)) first)
    (weaker seen g.D.Disk.may_leave g.D.Disk.moment g.D.Disk.left_since g.met.D.Disk.only_now mid new (Torn commit 1 (seen mid)) P
    (λ f torn. inr (torn_commit (seen old) commit piece (c.requires.commit told) f (subst (λ l. Torn commit 1 l f) (c.in-Kept.ensures.seen told refl) torn))) second)

pub returns-in-Kept-clause-ran : goal.returns-in-Kept-clause-ran
returns-in-Kept-clause-ran g c =
    let D = g.D.Disk in
    let commit = c.args.commit in
    run_on D.wrote D.synced (keeping (commit + 1) c.args.piece.now) (keeping commit (1 ∷ [])) c.args.disk.now c.keep.new.disk c.keep-in-Kept.new.disk c.keep-in-Kept.result c.in-Kept.ensures.ran c.keep-in-Kept.ensures.ran
