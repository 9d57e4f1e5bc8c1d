use Rattle.std.proofs.Common.{ℕ, ◌≤◌, List, Ok, arith, ap, rules, sym, ◌∙◌, subst}
use Rattle.std.specs.declared.alloc.AllocError.{AllocError}
use Rattle.curp_base.specs.Words.{numbered}
use Rattle.curp_model.specs.Marks.{Mark}
use Rattle.curp_model.specs.World.{moves}
use Rattle.curp_msg.specs.Input.{input_of}
use Rattle.curp_line.specs.Due.{DueMarks, HasRoomFor, IsSound, marks_by, master_at, most_due, most_marks}
use Rattle.curp_cluster.specs.Marked.{MarkedNodes, Takes, with_marked}
use Rattle.curp_cluster.specs.Marks.{due_marks}
use Rattle.curp_cluster.proofs.Keeping.{takes, takes_err, takes_none}
use Rattle.curp_cluster.proofs.Marking.{has_room}
use Rattle.curp_cluster.proofs.marked.Marked.give.Goals as goal

-- what was due has room
pub mark-requires : goal.mark-requires
mark-requires c =
    let nodes = c.self.inside.nodes in
    let to = c.args.to in
    let given = input_of c.args.input in
    let due = c.in_ok-due.ensures.value in
    let after = c.give.new.self.masters in
    let fits = λ (spare : ℕ) (room : c.most-most.result ≤ spare). subst (λ (d : DueMarks). HasRoomFor d (numbered after to.number) spare) (sym due)
    (has_room nodes after to.kind to.number given spare c.in_ok-done.ensures.few
    (subst (λ (d : DueMarks). IsSound d (master_at to.kind to.number nodes.masters)) due c.in_ok-due.ensures.sound)
    (subst (λ (d : DueMarks). most_due d (most_marks given) ≤ spare) due (omega (arith, c.most-most.ensures, room)))) in
    record {
      room = fits c.reserve.new.self.spare c.in_ok-reserve.ensures.room;
      ready = fits c.reserve-2.new.self c.in_ok-reserve-2.ensures.room;
    }

pub returns : goal.returns
returns c = λ w.
    let i = c.self.inside in
    let to = c.args.to in
    let given = input_of c.args.input in
    let done = c.in_ok-done.done in
    let old : MarkedNodes = record { nodes = i.nodes; marks = i.marks.marks } in
    let new : MarkedNodes = record { nodes = c.give.new.self; marks = c.flag.new.marks.marks } in
    let adds = c.mark.ensures
    ∙ ap (λ (d : DueMarks). marks_by d to c.give.new.self.masters c.reserve.new.self.marks) c.in_ok-due.ensures.value
    ∙ ap (λ (marks : List Mark). marks_by (due_marks i.nodes to given) to c.give.new.self.masters marks) c.reserve.ensures.marks in
    subst (λ (n : MarkedNodes). Takes {E = AllocError} n new (Ok done) (moves (with_marked w n) to given)) c.self.view_is
    (takes w old to given c.give.new.self done c.mark.new.marks.marks c.flag.new.marks.marks
    (c.in_ok-done.ensures.moves (with_marked w old)) c.if-done-ne0.false adds c.flag.ensures)

-- where the node refuses, and by an error, all is as it was
pub returns-then-done-ne0 : goal.returns-then-done-ne0
returns-then-done-ne0 c = λ w.
    let i = c.self.inside in
    let to = c.args.to in
    let given = input_of c.args.input in
    let done = c.in_ok-done.done in
    let old : MarkedNodes = record { nodes = i.nodes; marks = i.marks.marks } in
    let new : MarkedNodes = record { nodes = c.give.new.self; marks = c.reserve.new.self.marks } in
    subst (λ (n : MarkedNodes). Takes {E = AllocError} n new (Ok done) (moves (with_marked w n) to given)) c.self.view_is
    (takes_none w old to given c.give.new.self done c.reserve.new.self.marks
    (c.in_ok-done.ensures.moves (with_marked w old)) c.if-done-ne0.true (c.in_ok-done.ensures.refused c.if-done-ne0.true) c.reserve.ensures.marks)

pub returns-in_err-done : goal.returns-in_err-done
returns-in_err-done c = λ w.
    let i = c.self.inside in
    let old : MarkedNodes = record { nodes = i.nodes; marks = i.marks.marks } in
    takes_err c.from_residual-in_err-done.result c.in_err-done.field-0.0 _ _ _ (search rules)
    ((λ j. record { nodes = c.in_err-done.ensures.moves (with_marked w old) j; marks = c.reserve.ensures.marks j }) ∙ c.self.view_is)
