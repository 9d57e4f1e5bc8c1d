use Rattle.std.proofs.Common.{Some, subst}
use Rattle.curp_slots.specs.Modes.{started_mode}
use Rattle.curp_slots.specs.Register.{IdsAscend, Registered}
use Rattle.curp_slots.proofs.Holdings.{collect_is, left_witness, suspects_are}
use Rattle.curp_slots.proofs.started.StartedWitness.collect.Goals as goal

pub invariant_of-self : goal.invariant_of-self
invariant_of-self c =
    let ascend = subst (λ (register : Registered). IdsAscend register.held) c.collect.ensures.value c.collect.ensures.ascend in
    rw (c.free.ensures, c.collect.ensures.value) (left_witness c.in_ok-listed.listed c.args.ids.now c.in_ok-listed.ensures c.self.inside.slots c.self.inside.register c.self.invariant ascend)

pub returns : goal.returns
returns c =
    let w = c.self.inside in
    record {
      state = rw (← c.self.view_is, c.free.ensures, c.collect.ensures.value) (collect_is c.in_ok-listed.listed c.args.ids.now c.in_ok-listed.ensures w.slots w.register (started_mode w.frozen) (Some w.epoch));
      answer = rw (← c.self.view_is, c.in_ok-suspects.ensures) (suspects_are c.in_ok-listed.listed c.args.ids.now c.in_ok-listed.ensures w.slots w.register (started_mode w.frozen) (Some w.epoch));
      err = tt;
    }
