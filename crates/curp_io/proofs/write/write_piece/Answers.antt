use Rattle.std.proofs.Common.{rules, arith, length-drop}
use Rattle.std.proofs.lemmas.List.{take_rest}
use Rattle.curp_io.proofs.Streams.{put_more, holds_prefix}
use Rattle.curp_io.proofs.write.write_piece.Goals as goal

pub pieces-preserved : goal.pieces-preserved
pieces-preserved g c = record {
  done = omega (arith, length-drop c.pieces.done c.args.bytes.now, rw (take_rest c.args.bytes.now c.pieces.done) at c.in-Took.ensures.moves_on.0);
  bytes = λ told. put_more _ _ _ c.args.bytes.now c.pieces.done c.in-Took.count (c.pieces.invariant.bytes told) (c.in-Took.ensures.bytes (c.pieces.invariant.tells told));
  tells = λ told. c.put.ensures.tells (c.pieces.invariant.tells told);
  same_count = search rules;
}

pub returns-in-Failed-clause-bytes : goal.returns-in-Failed-clause-bytes
returns-in-Failed-clause-bytes g c = λ told. holds_prefix _ _ _ c.args.bytes.now c.pieces.done (c.pieces.invariant.bytes told) (c.in-Failed.ensures.bytes (c.pieces.invariant.tells told))

pub returns-in-NoMemory-clause-bytes : goal.returns-in-NoMemory-clause-bytes
returns-in-NoMemory-clause-bytes g c = λ told. holds_prefix _ _ _ c.args.bytes.now c.pieces.done (c.pieces.invariant.bytes told) (c.in-NoMemory.ensures.bytes (c.pieces.invariant.tells told))
