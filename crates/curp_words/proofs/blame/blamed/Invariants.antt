use Rattle.clap.specs.Walk.{texts}
use Rattle.curp_words.specs.Blame.{BeginsUpTo}
use Rattle.curp_words.proofs.blame.blamed.Given as goal

-- a command line can begin with all words so far
abbrev pub invariant-loop-place : goal.invariant-loop-place
invariant-loop-place l = BeginsUpTo l.place (texts l.words)
