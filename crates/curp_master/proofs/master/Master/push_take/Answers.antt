use Rattle.std.proofs.Common.{Some, subst, sym}
use Rattle.curp_cmd.specs.declared.migration.Package.{Package}
use Rattle.curp_model.specs.Master.{MasterState, state_of}
use Rattle.curp_msg.specs.Moved.{Moved, Moves}
use Rattle.curp_master.specs.Built.{move_of}
use Rattle.curp_master.specs.Moving.{IsTakenOut}
use Rattle.curp_master.proofs.Packed.{fits_out, pushed_out}
use Rattle.curp_master.proofs.master.Master.push_take.Goals as goal

pub push_moved-requires : goal.push_moved-requires
push_moved-requires c =
    let state = state_of c.args.self.now.state in
    let is = subst (λ (p : Package). IsTakenOut state c.args.take.now (Some p)) (sym c.in_ok-package-2.ensures.ok) (subst (IsTakenOut state c.args.take.now) c.in-Some.is c.in_ok-package.ensures) in
    record { fits = fits_out state c.args.take.now c.in_ok-package-2.package is }

pub returns : goal.returns
returns c =
    let state = state_of c.args.self.now.state in
    let is = subst (λ (p : Package). IsTakenOut state c.args.take.now (Some p)) (sym c.in_ok-package-2.ensures.ok) (subst (IsTakenOut state c.args.take.now) c.in-Some.is c.in_ok-package.ensures) in
    record {
      moves = subst (λ (r : Moved MasterState). Moves c.args.self.now c.push_moved.new.self c.push_moved.result (move_of c.args.self.now r))
          (pushed_out c.args.self.now.number c.args.self.now.state c.args.take.now c.in_ok-package-2.package is)
          c.push_moved.ensures.moves;
    }
