-- What an input adopts: lists that were adopted, or those that the manager's word of adoption names.
use Rattle.std.proofs.Common.{◌≡◌, ◌⊎◌, inl, inr, ◌<◌, List, [], sym, subst, arith}
use Rattle.curp_base.specs.Words.{At}
use Rattle.curp_cmd.specs.Node.{manager_node}
use Rattle.curp_cmd.specs.declared.node.NodeId.{NodeId}
use Rattle.curp_msg.specs.Moved.{says}
use Rattle.curp_msg.specs.declared.body.Adopted.{Adopted}
use Rattle.curp_msg.specs.declared.body.Body.{Body}
use Rattle.curp_msg.specs.declared.body.Body.TheVariants as body
use Rattle.curp_msg.specs.declared.message.Message.{Message}
use Rattle.curp_model.specs.Manager.{Shape, opening_config}
use Rattle.curp_model.specs.World.{World, messages}
use Rattle.curp_facts.specs.Facts.{AtOpening, ByRecovery, ByReplacement, IsGiven, Lists, WasAdopted, WasSent}
use Rattle.curp_facts.specs.Invariant.{Invariant}
use Rattle.curp_facts.specs.Names.{AdoptedOk, Names, RecoverOrderOk, PrepareOk}
use Rattle.curp_law_kept.proofs.Gives.{Later, adopted_later}
use Rattle.curp_law_runs.specs.Adopting.{Adopts}
use Rattle.curp_facts.specs.Predecessors.{Predecessor, Predecessors}
use Rattle.curp_law_runs.proofs.Chain.{chain_later}
use Rattle.curp_law_runs.proofs.Lists.{opening_epoch}

-- the word of adoption of lists
abbrev pub adopted_word : Lists → Adopted
adopted_word l = record { part = l.part; epoch = l.epoch; version = l.version }

module _ {w v : World} (names : Names w) (later_names : Names v) (s : Later w v) where
  -- lists of version 1 were given at opening
  first_given : (l : Lists) → IsGiven v l → l.version ≡ 1 → IsGiven w l
  first_given _ (AtOpening k c at) one = AtOpening k c (subst (λ (x : Shape). At (opening_config x).parts k c) s.shape at)
  first_given _ (ByRecovery node o sent) one =
      let home : RecoverOrderOk v node o = later_names.manager_says node (body.Recover o) sent in
      absurd (omega (arith, one, home.older, (later_names.given home.before home.was.given).version.0))
  first_given _ (ByReplacement old p before sent) one =
      let home : PrepareOk v old.master p = later_names.manager_says old.master (body.Prepare p) sent in
      absurd (omega (arith, one, home.older, (later_names.given home.before home.was.given).version.0))

  -- lists that the manager has named before were adopted before
  old_adopted : (l : Lists) → WasAdopted v l → AdoptedOk w l.master (adopted_word l) → WasAdopted w l
  old_adopted l was ok = subst (WasAdopted w) same ok.was
    where
      there : WasAdopted v ok.lists
      there = adopted_later s ok.lists ok.was

      same : ok.lists ≡ l
      same = (later_names.agree ok.lists l there.given was.given).by_version ok.its_master (sym ok.its_version)

  -- so an input adopts what its words of adoption name
  pub adopted_back : (IsNew : Lists → Type 0) → ((l : Lists) → IsGiven v l → WasSent v (says manager_node l.master (body.Adopted (adopted_word l))) → AdoptedOk w l.master (adopted_word l) ⊎ IsNew l)
      → (l : Lists) → WasAdopted v l → WasAdopted w l ⊎ IsNew l
  adopted_back IsNew told l was = elim was.told [
    | inl one ↦ inl (record { given = first_given l was.given one; told = inl one })
    | inr sent ↦ elim (told l was.given sent) [
      | inl ok ↦ inl (old_adopted l was ok)
      | inr new ↦ inr new
    ]
  ]

  -- where the manager says no more, nothing is adopted
  pub nothing_adopted : ((node : NodeId) (b : Body) → WasSent v (says manager_node node b) → WasSent w (says manager_node node b)) → Adopts w v (λ l. ⊥)
  nothing_adopted no_more = record {
    back = adopted_back (λ l. ⊥) (λ l given sent. inl (names.manager_says l.master (body.Adopted (adopted_word l)) (no_more l.master _ sent)));
    comes = λ l new. absurd new;
    one = λ l k new too. absurd new;
  }

  -- and each adopted master came from where it came
  pub chain_stays : Invariant w → Predecessors w → ((node : NodeId) (b : Body) → WasSent v (says manager_node node b) → WasSent w (says manager_node node b)) → Predecessors v
  chain_stays inv chain no_more = chain_later names later_names inv s (λ l. ⊥) (nothing_adopted no_more) chain

-- before any message, only the masters of the opening are adopted
pub chain_opening : (w : World) → messages w ≡ [] → Predecessors w
chain_opening w none l was late = by_given l was.given late
  where
    unsent : (m : Message) → WasSent w m → ⊥
    unsent m sent = let at : At [] sent.place m = subst (λ (ms : List Message). At ms sent.place m) none sent.stands in absurd cc

    by_given : (l : Lists) → IsGiven w l → 1 < l.epoch → Predecessor w l
    by_given _ (AtOpening k c at) late = absurd (omega (arith, late, opening_epoch w k c at))
    by_given _ (ByRecovery node o sent) late = absurd (unsent _ sent)
    by_given _ (ByReplacement old p before sent) late = absurd (unsent _ sent)
