use Rattle.std.proofs.Common.{ℕ, ◌<◌}
use Rattle.curp_base.specs.Words.{At}
use Rattle.curp_collected.specs.Files.{IsOfHeader}
use Rattle.curp_collected.specs.declared.files.File.{File}
use Rattle.curp_collected.proofs.files.header_of.Given as goal

-- so many are of that header
abbrev pub invariant-loop-file : goal.invariant-loop-file
invariant-loop-file l = (k : ℕ) (f : File) → k < l.file → At l.files k f → IsOfHeader l.header f
