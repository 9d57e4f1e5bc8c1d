use Rattle.std.proofs.Common.{◌≡◌, ◌+◌, ◌++◌, length, refl, inr, sym, ◌∙◌, ap, subst, arith}
use Rattle.curp_base.specs.declared.failed.Failed.TheVariants as failed
use Rattle.curp_disk.specs.Disk.{LeavesOnly}
use Rattle.curp_io.specs.Streams.{Rose}
use Rattle.curp_durable.specs.Journal.{IsBeforeOrAfter, IsSettled}
use Rattle.curp_disk.specs.declared.disk.Did.TheVariants as did
use Rattle.curp_durable.specs.Answering.{record_of}
use Rattle.curp_durable.specs.Running.{AllMade, MadeUntil, RanUntil, calls_for, commit_behind}
use Rattle.curp_durable.specs.Standing.{taken}
use Rattle.curp_durable.specs.declared.error.DurableError.TheVariants as durable
use Rattle.curp_durable.proofs.Pieces.{piece_none, piece_there, true_not}
use Rattle.curp_durable.proofs.Running.{calls_are, commit_is, no_calls, none_ran, same_commit}
use Rattle.curp_durable.proofs.Settling.{appended, taken_kept, taken_none}
use Rattle.curp_durable.proofs.durable.Durable.on_all.Goals as goal

pub invariant_of-self : goal.invariant_of-self
invariant_of-self g c =
    let machine = g.N.Core.machine in
    let D = g.D.Disk in
    let inside = c.self.inside in
    let inputs = c.args.inputs.items in
    let b = taken machine inside.stand inputs in
    let piece = c.in-Ok.decided.piece in
    let long : piece.len ≡ length piece.items = omega (arith, piece.ok.0) in
    let none = piece_none inside.commit inside.size_limit b piece.items piece.len c.in-Ok.ensures.decides.piece_is long (sym c.is_empty.ensures ∙ c.if-is_empty.true) in (
      λ told not_spent.
          let s = c.self.invariant.0 told not_spent in
          (s.0, s.1, s.2 ++ b, taken_none machine D.seen D.may_leave D.moment D.left_since g.met.D.Disk.only_now inside.disk inside.stand c.decide.new.stand inside.commit s.0 s.1 s.2 inputs s.3 none c.in-Ok.ensures.state),
      c.self.invariant.1,
    )

pub returns-then-is_empty-clause-kept : goal.returns-then-is_empty-clause-kept
returns-then-is_empty-clause-kept g c title opening so_far told was settled =
    let machine = g.N.Core.machine in
    let D = g.D.Disk in
    let inside = c.self.inside in
    let inputs = c.args.inputs.items in
    let b = taken machine inside.stand inputs in
    let piece = c.in-Ok.decided.piece in
    let long : piece.len ≡ length piece.items = omega (arith, piece.ok.0) in
    let none = piece_none inside.commit inside.size_limit b piece.items piece.len c.in-Ok.ensures.decides.piece_is long (sym c.is_empty.ensures ∙ c.if-is_empty.true) in
    let s = subst (λ v. IsSettled machine D.seen D.may_leave v.disk v.stand v.commit title opening so_far) (sym c.self.view_is) settled in
    subst (λ v. IsSettled machine D.seen D.may_leave inside.disk c.decide.new.stand inside.commit title opening (so_far ++ taken machine v.stand inputs)) c.self.view_is
    (taken_none machine D.seen D.may_leave D.moment D.left_since g.met.D.Disk.only_now inside.disk inside.stand c.decide.new.stand inside.commit title opening so_far inputs s none c.in-Ok.ensures.state)

pub invariant_of-self-in-Kept-1 : goal.invariant_of-self-in-Kept-1
invariant_of-self-in-Kept-1 g c =
    let machine = g.N.Core.machine in
    let D = g.D.Disk in
    let inside = c.self.inside in
    let inputs = c.args.inputs.items in
    let b = taken machine inside.stand inputs in
    let piece = c.in-Ok.decided.piece in
    let long : piece.len ≡ length piece.items = omega (arith, piece.ok.0) in
    let there = piece_there inside.commit inside.size_limit b piece.items piece.len c.in-Ok.ensures.decides.piece_is long (sym c.is_empty.ensures ∙ c.if-is_empty.false) in
    let is = c.deref.ensures.value ∙ there.1 in (
      λ told not_spent.
          let s = c.self.invariant.0 told not_spent in
          (s.0, s.1, s.2 ++ b, taken_kept machine D.seen D.may_leave D.moment D.left_since g.met.D.Disk.only_now inside.disk c.append.new.disk inside.stand c.decide.new.stand inside.commit (inside.commit + c.len.result) s.0 s.1 s.2 inputs c.deref.result.now s.3 there.0 is (c.in-Kept.ensures.seen told refl) (c.in-Kept.ensures.durable told refl) c.in-Ok.ensures.state (ap (λ n. inside.commit + n) (c.len.ensures ∙ sym c.deref.ensures.len))),
      omega (arith, there.2, c.len.ensures, long),
    )

pub returns-in-Kept-clause-kept : goal.returns-in-Kept-clause-kept
returns-in-Kept-clause-kept g c title opening so_far told was settled =
    let machine = g.N.Core.machine in
    let D = g.D.Disk in
    let inside = c.self.inside in
    let inputs = c.args.inputs.items in
    let b = taken machine inside.stand inputs in
    let piece = c.in-Ok.decided.piece in
    let long : piece.len ≡ length piece.items = omega (arith, piece.ok.0) in
    let there = piece_there inside.commit inside.size_limit b piece.items piece.len c.in-Ok.ensures.decides.piece_is long (sym c.is_empty.ensures ∙ c.if-is_empty.false) in
    let is = c.deref.ensures.value ∙ there.1 in
    let s = subst (λ v. IsSettled machine D.seen D.may_leave v.disk v.stand v.commit title opening so_far) (sym c.self.view_is) settled in
    subst (λ v. IsSettled machine D.seen D.may_leave c.append.new.disk c.decide.new.stand (inside.commit + c.len.result) title opening (so_far ++ taken machine v.stand inputs)) c.self.view_is
    (taken_kept machine D.seen D.may_leave D.moment D.left_since g.met.D.Disk.only_now inside.disk c.append.new.disk inside.stand c.decide.new.stand inside.commit (inside.commit + c.len.result) title opening so_far inputs c.deref.result.now s there.0 is (c.in-Kept.ensures.seen told refl) (c.in-Kept.ensures.durable told refl) c.in-Ok.ensures.state (ap (λ n. inside.commit + n) (c.len.ensures ∙ sym c.deref.ensures.len)))

pub returns-in-Kept-clause-any_moment : goal.returns-in-Kept-clause-any_moment
returns-in-Kept-clause-any_moment g c title opening so_far told not_spent settled =
    let machine = g.N.Core.machine in
    let D = g.D.Disk in
    let inside = c.self.inside in
    let inputs = c.args.inputs.items in
    let b = taken machine inside.stand inputs in
    let piece = c.in-Ok.decided.piece in
    let long : piece.len ≡ length piece.items = omega (arith, piece.ok.0) in
    let there = piece_there inside.commit inside.size_limit b piece.items piece.len c.in-Ok.ensures.decides.piece_is long (sym c.is_empty.ensures ∙ c.if-is_empty.false) in
    let is = c.deref.ensures.value ∙ there.1 in
    let s = subst (λ v. IsSettled machine D.seen D.may_leave v.disk v.stand v.commit title opening so_far) (sym c.self.view_is) settled in
    subst (λ v. LeavesOnly D.moment D.left_since v.disk c.append.new.disk (IsBeforeOrAfter title so_far (taken machine v.stand inputs))) c.self.view_is
    (appended machine D.seen D.may_leave D.moment D.left_since g.met.D.Disk.only_now inside.disk c.append.new.disk inside.stand inside.commit title opening so_far b c.deref.result.now s there.0 is (c.append.ensures.any_moment told))

pub returns-in-Failed-clause-any_moment : goal.returns-in-Failed-clause-any_moment
returns-in-Failed-clause-any_moment g c title opening so_far told not_spent settled =
    let machine = g.N.Core.machine in
    let D = g.D.Disk in
    let inside = c.self.inside in
    let inputs = c.args.inputs.items in
    let b = taken machine inside.stand inputs in
    let piece = c.in-Ok.decided.piece in
    let long : piece.len ≡ length piece.items = omega (arith, piece.ok.0) in
    let there = piece_there inside.commit inside.size_limit b piece.items piece.len c.in-Ok.ensures.decides.piece_is long (sym c.is_empty.ensures ∙ c.if-is_empty.false) in
    let is = c.deref.ensures.value ∙ there.1 in
    let s = subst (λ v. IsSettled machine D.seen D.may_leave v.disk v.stand v.commit title opening so_far) (sym c.self.view_is) settled in
    subst (λ v. LeavesOnly D.moment D.left_since v.disk c.append.new.disk (IsBeforeOrAfter title so_far (taken machine v.stand inputs))) c.self.view_is
    (appended machine D.seen D.may_leave D.moment D.left_since g.met.D.Disk.only_now inside.disk c.append.new.disk inside.stand inside.commit title opening so_far b c.deref.result.now s there.0 is (c.append.ensures.any_moment told))

pub returns-in-NoMemory-clause-any_moment : goal.returns-in-NoMemory-clause-any_moment
returns-in-NoMemory-clause-any_moment g c title opening so_far told not_spent settled =
    let machine = g.N.Core.machine in
    let D = g.D.Disk in
    let inside = c.self.inside in
    let inputs = c.args.inputs.items in
    let b = taken machine inside.stand inputs in
    let piece = c.in-Ok.decided.piece in
    let long : piece.len ≡ length piece.items = omega (arith, piece.ok.0) in
    let there = piece_there inside.commit inside.size_limit b piece.items piece.len c.in-Ok.ensures.decides.piece_is long (sym c.is_empty.ensures ∙ c.if-is_empty.false) in
    let is = c.deref.ensures.value ∙ there.1 in
    let s = subst (λ v. IsSettled machine D.seen D.may_leave v.disk v.stand v.commit title opening so_far) (sym c.self.view_is) settled in
    subst (λ v. LeavesOnly D.moment D.left_since v.disk c.append.new.disk (IsBeforeOrAfter title so_far (taken machine v.stand inputs))) c.self.view_is
    (appended machine D.seen D.may_leave D.moment D.left_since g.met.D.Disk.only_now inside.disk c.append.new.disk inside.stand inside.commit title opening so_far b c.deref.result.now s there.0 is (c.append.ensures.any_moment told))

pub returns-in-Failed-clause-err : goal.returns-in-Failed-clause-err
returns-in-Failed-clause-err g c =
    let D = g.D.Disk in (
      ap (λ v. v.spent) (sym c.self.view_is) ∙ c.if-self.false,
      c.in-Ok.ensures.encoded,
      subst (λ v. Rose (D.faults v.disk) (D.faults c.append.new.disk)) c.self.view_is (c.in-Failed.ensures.cause refl),
      refl,
    )

pub returns-in-NoMemory-clause-err : goal.returns-in-NoMemory-clause-err
returns-in-NoMemory-clause-err g c =
    (ap (λ v. v.spent) (sym c.self.view_is) ∙ c.if-self.false, λ e. absurd (true_not e), λ e. c.in-Ok.ensures.encoded)

-- ---- which calls were made

pub returns-then-is_empty-clause-commit : goal.returns-then-is_empty-clause-commit
returns-then-is_empty-clause-commit g c =
    let machine = g.N.Core.machine in
    let D = g.D.Disk in
    let inside = c.self.inside in
    let inputs = c.args.inputs.items in
    let b = taken machine inside.stand inputs in
    let piece = c.in-Ok.decided.piece in
    let long : piece.len ≡ length piece.items = omega (arith, piece.ok.0) in
    let none = piece_none inside.commit inside.size_limit b piece.items piece.len c.in-Ok.ensures.decides.piece_is long (sym c.is_empty.ensures ∙ c.if-is_empty.true) in
    subst (λ v. inside.commit ≡ commit_behind v.commit (taken machine v.stand inputs)) c.self.view_is (same_commit inside.commit b none)

pub returns-then-is_empty-clause-ran : goal.returns-then-is_empty-clause-ran
returns-then-is_empty-clause-ran g c =
    let machine = g.N.Core.machine in
    let D = g.D.Disk in
    let inside = c.self.inside in
    let inputs = c.args.inputs.items in
    let b = taken machine inside.stand inputs in
    let piece = c.in-Ok.decided.piece in
    let long : piece.len ≡ length piece.items = omega (arith, piece.ok.0) in
    let none = piece_none inside.commit inside.size_limit b piece.items piece.len c.in-Ok.ensures.decides.piece_is long (sym c.is_empty.ensures ∙ c.if-is_empty.true) in
    subst (λ v. AllMade D.wrote D.synced (calls_for v.commit (taken machine v.stand inputs)) v.disk inside.disk) c.self.view_is (no_calls D.wrote D.synced inside.commit b inside.disk none)

pub returns-in-Kept-clause-commit : goal.returns-in-Kept-clause-commit
returns-in-Kept-clause-commit g c =
    let machine = g.N.Core.machine in
    let D = g.D.Disk in
    let inside = c.self.inside in
    let inputs = c.args.inputs.items in
    let b = taken machine inside.stand inputs in
    let piece = c.in-Ok.decided.piece in
    let long : piece.len ≡ length piece.items = omega (arith, piece.ok.0) in
    let there = piece_there inside.commit inside.size_limit b piece.items piece.len c.in-Ok.ensures.decides.piece_is long (sym c.is_empty.ensures ∙ c.if-is_empty.false) in
    let written = c.deref.result.now in
    let is : written ≡ record_of b = c.deref.ensures.value ∙ there.1 in
    let behind = commit_is inside.commit b written is (λ e. c.deref.ensures.value ∙ c.in-Ok.ensures.nothing e) in
    subst (λ v. inside.commit + c.len.result ≡ commit_behind v.commit (taken machine v.stand inputs)) c.self.view_is
    (ap (λ n. inside.commit + n) (c.len.ensures ∙ sym c.deref.ensures.len) ∙ behind)

pub returns-in-Kept-clause-ran : goal.returns-in-Kept-clause-ran
returns-in-Kept-clause-ran g c =
    let machine = g.N.Core.machine in
    let D = g.D.Disk in
    let inside = c.self.inside in
    let inputs = c.args.inputs.items in
    let b = taken machine inside.stand inputs in
    let piece = c.in-Ok.decided.piece in
    let long : piece.len ≡ length piece.items = omega (arith, piece.ok.0) in
    let there = piece_there inside.commit inside.size_limit b piece.items piece.len c.in-Ok.ensures.decides.piece_is long (sym c.is_empty.ensures ∙ c.if-is_empty.false) in
    let written = c.deref.result.now in
    let is : written ≡ record_of b = c.deref.ensures.value ∙ there.1 in
    let calls = calls_are inside.commit b written is (λ e. c.deref.ensures.value ∙ c.in-Ok.ensures.nothing e) in
    subst (λ v. AllMade D.wrote D.synced (calls_for v.commit (taken machine v.stand inputs)) v.disk c.append.new.disk) c.self.view_is
    (subst (λ l. AllMade D.wrote D.synced l inside.disk c.append.new.disk) calls c.in-Kept.ensures.ran)

pub returns-in-Failed-clause-ran_err : goal.returns-in-Failed-clause-ran_err
returns-in-Failed-clause-ran_err g c =
    let machine = g.N.Core.machine in
    let D = g.D.Disk in
    let inside = c.self.inside in
    let inputs = c.args.inputs.items in
    let b = taken machine inside.stand inputs in
    let piece = c.in-Ok.decided.piece in
    let long : piece.len ≡ length piece.items = omega (arith, piece.ok.0) in
    let there = piece_there inside.commit inside.size_limit b piece.items piece.len c.in-Ok.ensures.decides.piece_is long (sym c.is_empty.ensures ∙ c.if-is_empty.false) in
    let written = c.deref.result.now in
    let is : written ≡ record_of b = c.deref.ensures.value ∙ there.1 in
    let calls = calls_are inside.commit b written is (λ e. c.deref.ensures.value ∙ c.in-Ok.ensures.nothing e) in
    subst (λ v. RanUntil D.wrote D.synced v.commit (taken machine v.stand inputs) v.disk c.append.new.disk (failed.Because durable.DiskFault)) c.self.view_is
    (there.0, subst (λ l. MadeUntil D.wrote D.synced did.Failed l inside.disk c.append.new.disk) calls c.in-Failed.ensures.ran)

pub returns-in-NoMemory-clause-ran_err : goal.returns-in-NoMemory-clause-ran_err
returns-in-NoMemory-clause-ran_err g c =
    let machine = g.N.Core.machine in
    let D = g.D.Disk in
    let inside = c.self.inside in
    let inputs = c.args.inputs.items in
    let b = taken machine inside.stand inputs in
    let piece = c.in-Ok.decided.piece in
    let long : piece.len ≡ length piece.items = omega (arith, piece.ok.0) in
    let there = piece_there inside.commit inside.size_limit b piece.items piece.len c.in-Ok.ensures.decides.piece_is long (sym c.is_empty.ensures ∙ c.if-is_empty.false) in
    let written = c.deref.result.now in
    let is : written ≡ record_of b = c.deref.ensures.value ∙ there.1 in
    let calls = calls_are inside.commit b written is (λ e. c.deref.ensures.value ∙ c.in-Ok.ensures.nothing e) in
    subst (λ v. RanUntil D.wrote D.synced v.commit (taken machine v.stand inputs) v.disk c.append.new.disk failed.NoMemory) c.self.view_is
    (inr (subst (λ l. MadeUntil D.wrote D.synced did.NoMemory l inside.disk c.append.new.disk) calls c.in-NoMemory.ensures.ran))

pub returns-in-Err-Unchanged-clause-ran_err : goal.returns-in-Err-Unchanged-clause-ran_err
returns-in-Err-Unchanged-clause-ran_err g c =
    let machine = g.N.Core.machine in
    let D = g.D.Disk in
    let inside = c.self.inside in
    let inputs = c.args.inputs.items in
    let why = c.in-Err-Unchanged.why in
    let stops = rw c.in-Err-Unchanged.field-0-is at c.in-Err-Unchanged.ensures.stops in
    subst (λ v. RanUntil D.wrote D.synced v.commit (taken machine v.stand inputs) v.disk inside.disk why) c.self.view_is
    (none_ran D.wrote D.synced inside.commit inside.size_limit (taken machine inside.stand inputs) inputs inside.disk why stops.1)
