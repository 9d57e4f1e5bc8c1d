use Rattle.std.proofs.Common.{◌≡◌, map, take, string_bytes}
use Rattle.clap.specs.Walk.{texts}
use Rattle.curp_words.proofs.arguments.words_in.Given as goal

-- the words so far are those of the arguments so far
abbrev pub invariant-loop-argument : goal.invariant-loop-argument
invariant-loop-argument l = texts l.words.items ≡ map string_bytes (take l.argument-index l.behind)
