use Rattle.std.proofs.Common.{◌≡◌, take}
use Rattle.clap.specs.Simple.{app_of}
use Rattle.curp_words.specs.Command.{valued_app}
use Rattle.curp_words.proofs.Commands.{names_of}
use Rattle.curp_words.proofs.options.command_with.Given as goal

-- the parser has the options so far
abbrev pub invariant-loop-setting : goal.invariant-loop-setting
invariant-loop-setting l = app_of l.command ≡ valued_app (names_of (take l.setting-index l.settings))
