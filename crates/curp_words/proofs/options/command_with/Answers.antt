use Rattle.std.proofs.Common.{◌∙◌, ap₂}
use Rattle.clap.specs.Simple.{with_rule}
use Rattle.curp_words.proofs.Commands.{all_options, one_more}
use Rattle.curp_words.proofs.options.command_with.Goals as goal

pub loop-setting-preserved : goal.loop-setting-preserved
loop-setting-preserved c =
    c.in_ok-command-2.ensures.shape c.arg-in-loop-setting.ensures.local
    ∙ ap₂ with_rule c.loop-setting.invariant c.arg-in-loop-setting.ensures.rule
    ∙ one_more c.args.settings.now c.loop-setting.setting-index _ c.loop-setting-test.true

pub returns : goal.returns
returns c = c.loop-setting.invariant ∙ all_options c.args.settings.now c.loop-setting.setting-index c.loop-setting-test.false
