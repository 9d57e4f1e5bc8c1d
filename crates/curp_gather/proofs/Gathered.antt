-- What a merge of the strands of a header's nodes says of their journals.
use Rattle.std.proofs.Common.{◌≡◌, ◌≤◌, IfErr, IfOk, List, Ok, Err, Result, length, subst, sym, arith}
use Rattle.std.specs.Global.{Vec}
use Rattle.curp_base.specs.declared.failed.Failed.{Failed}
use Rattle.curp_msg.specs.Limits.{step_limit, weight_limit}
use Rattle.curp_base.specs.Failing.{IfBecause}
use Rattle.curp_msg.specs.declared.script.Header.{Header}
use Rattle.curp_msg.specs.declared.script.Step.{Step}
use Rattle.curp_law_weave.proofs.Gives.{legal_runs}
use Rattle.curp_merge.specs.Causes.{IsCause}
use Rattle.curp_merge.specs.Merging.{AreJournals, Merged, turn_count, weight_sent}
use Rattle.curp_merge.specs.declared.error.GatherError.{GatherError}
use Rattle.curp_journal.specs.Turns.{Journal}
use Rattle.curp_gather.specs.Journals.{AreOf, IsScriptOf, journals_of}
use Rattle.curp_gather.specs.Replays.{AreReplayed}
use Rattle.curp_gather.specs.declared.journals.Journals.{Journals}
use Rattle.curp_gather.proofs.Ready.{ready, scripted}

-- what a merge says of the journals that it was given
pub record IsMergedTo (journals : List Journal) (r : Result (Vec Step) (Failed GatherError)) : Type 0 where
  pub merged : IfOk r (λ steps. Merged journals steps.items)
  pub steps : IfOk r (λ steps. length steps.items ≡ turn_count journals)
  pub few : IfOk r (λ steps. turn_count journals ≤ step_limit)
  pub light : IfOk r (λ steps. weight_sent journals ≤ weight_limit)
  pub cause : IfErr r (IfBecause (IsCause journals))

-- what is to be said of the journals of a header's nodes
pub record IsGathered (h : Header) (journals : List Journal) (r : Result (Vec Step) (Failed GatherError)) : Type 0 where
  pub script : IfOk r (λ steps. IsScriptOf h journals steps.items)
  pub counted : IfOk r (λ steps. length steps.items ≡ turn_count journals)
  pub few : IfOk r (λ steps. length steps.items ≤ step_limit)
  pub light : IfOk r (λ steps. weight_sent journals ≤ weight_limit)
  pub cause : IfErr r (IfBecause (IsCause journals))

both_ok : {T E : Type 0} (r : Result T E) (P Q R : T → Type 0) → ((x : T) → P x → Q x → R x) → IfOk r P → IfOk r Q → IfOk r R
both_ok (Ok x) P Q R f p q = f x p q
both_ok (Err e) P Q R f p q = tt

module _ (h : Header) (j : Journals) (are : AreOf h j) (replayed : AreReplayed j) (strands : List Journal) (same : strands ≡ journals_of j) where
  pub mergeable : AreJournals strands
  mergeable = subst (λ (ls : List Journal). AreJournals ls) (sym same) (ready h j are replayed)

  pub gathered : (r : Result (Vec Step) (Failed GatherError)) → IsMergedTo strands r → IsGathered h (journals_of j) r
  gathered r told =
      let m : IsMergedTo (journals_of j) r = subst (λ (ls : List Journal). IsMergedTo ls r) same told in
      record {
        script = both_ok r _ _ _ (λ steps merged light. scripted h j are legal_runs replayed steps.items light merged) m.merged m.light;
        counted = m.steps;
        few = both_ok r _ _ _ (λ steps count few. omega (arith, count, few)) m.steps m.few;
        light = m.light;
        cause = m.cause;
      }
