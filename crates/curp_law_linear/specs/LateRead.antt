-- A late read as moves: a read is invoked, a master is adopted, an update completes at it, and then the master that was
-- superseded answers the read, which completes.
use Rattle.std.specs.Prelude.{ℕ, List, [], ◌∷◌, None}
use Rattle.curp_cmd.specs.Hash.{hash_of}
use Rattle.curp_cmd.specs.Node.{master_node}
use Rattle.curp_cmd.specs.declared.command.Answer.TheVariants.{Done, Found}
use Rattle.curp_cmd.specs.declared.command.Command.TheVariants.{Get, Put}
use Rattle.curp_cmd.specs.declared.command.RequestId.{RequestId}
use Rattle.curp_msg.specs.declared.machine.Capture.{Capture}
use Rattle.curp_law_linear.specs.Hashes.{Part}
use Rattle.curp_law_linear.specs.Line.{LineState}
use Rattle.curp_law_linear.specs.Moves.{Adopt, Adopts, Completes, Flags, Invokes, Late, Lates, LineMove, OpPush, PushOp}

-- the partition owns all hashes up to that of the key
abbrev pub whole : List ℕ → Part
whole key = record { lo = 0; hi = hash_of key; log = [] }

-- the opening
abbrev pub begin : List ℕ → LineState
begin key = record {
  parts = whole key ∷
      [];
  moving = None;
  told = [];
  marks = [];
  history = [];
  left = λ part number. record { prefix = whole key; back = [] };
}

-- the two requests
abbrev pub reading : RequestId
reading = record { client = 1; seq = 1 }

abbrev pub writing : RequestId
writing = record { client = 2; seq = 1 }

-- master 2 is adopted
abbrev pub adopt_second : List ℕ → Adopt
adopt_second key = record { part = 1; p = whole key; node = master_node 2; epoch = 2; stays = []; goes = []; held = [] }

-- it pushes the update
abbrev pub push_write : List ℕ → List ℕ → PushOp
push_write key value = record {
  part = 1;
  p = whole key;
  node = master_node 2;
  epoch = 2;
  request = record { id = writing; first = 1; command = Put key value };
  acknowledged = 0;
}

-- master 1 answers the read at once
abbrev pub late_answer : List ℕ → Late
late_answer key = record {
  part = 1;
  number = 1;
  place = 0;
  node = master_node 1;
  epoch = 1;
  capture = 1;
  id = reading;
  command = Get key;
}

abbrev pub by_first : Capture
by_first = record { master = master_node 1; epoch = 1; number = 1 }

abbrev pub late_moves : List ℕ → List ℕ → List LineMove
late_moves key value =
    Invokes reading (Get key) ∷ Adopts (adopt_second key) ∷ Invokes writing (Put key value) ∷ OpPush (push_write key value) ∷
    Completes writing Done ∷ Lates (late_answer key) ∷ Flags by_first reading (Found None) ∷ []
