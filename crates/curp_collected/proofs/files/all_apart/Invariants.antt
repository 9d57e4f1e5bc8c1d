use Rattle.curp_collected.proofs.Reading.{NoneTwice}
use Rattle.curp_collected.proofs.files.all_apart.Given as goal

-- of so many none is of the node of one before it
abbrev pub invariant-loop-file : goal.invariant-loop-file
invariant-loop-file l = NoneTwice l.files l.file
