use Rattle.curp_check.proofs.Encoded.{answer_there, command_there}
use Rattle.curp_check.proofs.events.unpack_event.Goals as goal

pub unpack-requires : goal.unpack-requires
unpack-requires c = command_there c.args.bytes.now c.args.packed.now c.in-Invoke.id c.in-Invoke.is c.requires

pub unpack-requires-in-Complete : goal.unpack-requires-in-Complete
unpack-requires-in-Complete c = answer_there c.args.bytes.now c.args.packed.now c.in-Complete.id c.in-Complete.is c.requires
