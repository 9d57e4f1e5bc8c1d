use Rattle.std.proofs.Common.{subst, sym, ◌∙◌, ap}
use Rattle.curp_base.specs.declared.failed.Failed.TheVariants as failed
use Rattle.curp_base.specs.Failing.{IfBecause}
use Rattle.curp_merge.specs.Causes.{IsCause}
use Rattle.curp_merge.specs.Held.{AllHeld}
use Rattle.curp_merge.specs.declared.error.GatherError.{GatherError}
use Rattle.curp_gather.specs.Journals.{journals_of}
use Rattle.curp_gather.specs.declared.journals.Journals.{Journals}
use Rattle.curp_gather.proofs.Mismatches.{no_mismatch}
use Rattle.curp_gather.proofs.ruled_script.gather_ruled.Goals as goal

pub unreachable-requires : goal.unreachable-requires
unreachable-requires c =
    let journals = journals_of c.journals-journals.result.now in
    let held = subst (λ (j : Journals). AllHeld (journals_of j)) (sym c.journals-journals.ensures.journals) c.in_ok-hold.ensures in
    let told = c.in-Err-Because-Mismatch in
    no_mismatch journals told.field-0-0-0 told.field-0-0-1 told.field-0-0-2 told.field-0-0-3 held
    (subst (IfBecause (IsCause journals)) (told.field-0-is ∙ ap (λ (why : GatherError). failed.Because why) told.field-0-0-is) told.ensures.cause)
