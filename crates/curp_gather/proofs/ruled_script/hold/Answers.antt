use Rattle.std.proofs.Common.{◌≡◌, ◌∙◌, List, subst, sym, ap}
use Rattle.curp_journal.specs.Turns.{AreApart, Journal}
use Rattle.curp_merge.specs.Held.{AllHeld}
use Rattle.curp_gather.specs.Ruled.{AreRuled}
use Rattle.curp_gather.specs.Journals.{journals_of}
use Rattle.curp_gather.specs.Replays.{AreReplayed}
use Rattle.curp_gather.specs.declared.journals.Journals.{Journals}
use Rattle.curp_gather.proofs.Ready.{ready}
use Rattle.curp_gather.proofs.ruled_script.hold.Goals as goal

pub ruled_journals_hold-requires-clause-apart : goal.ruled_journals_hold-requires-clause-apart
ruled_journals_hold-requires-clause-apart c =
    let journals : c.journals.result.now ≡ c.args.ruled.now = c.journals.ensures.journals in
    let same : c.deref.result.now ≡ journals_of c.args.ruled.now = c.deref.ensures.value ∙ c.in_ok-strands.ensures.strands ∙ ap journals_of journals in
    let replayed : AreReplayed c.args.ruled.now = subst (λ (j : Journals). AreReplayed j) journals c.in_ok-strands.ensures.replayed in
    subst (λ (ls : List Journal). AreApart ls) (sym same) (ready c.args._header.now c.args.ruled.now c.requires replayed).apart

pub ruled_journals_hold-requires-clause-ruled : goal.ruled_journals_hold-requires-clause-ruled
ruled_journals_hold-requires-clause-ruled c =
    let same : c.deref.result.now ≡ journals_of c.args.ruled.now = c.deref.ensures.value ∙ c.in_ok-strands.ensures.strands ∙ ap journals_of c.journals.ensures.journals in
    subst (λ (ls : List Journal). AreRuled ls) (sym same) c.journals.ensures.ruled

pub returns : goal.returns
returns c =
    let same : c.deref.result.now ≡ journals_of c.args.ruled.now = c.deref.ensures.value ∙ c.in_ok-strands.ensures.strands ∙ ap journals_of c.journals.ensures.journals in
    subst (λ (ls : List Journal). AllHeld ls) same c.ruled_journals_hold.ensures
