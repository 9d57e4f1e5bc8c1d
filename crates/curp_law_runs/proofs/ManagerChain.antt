-- After an input to the manager, each adopted master still came from the last lists before it.
use Rattle.std.proofs.Common.{◌≡◌, ◌⊎◌, inl, inr, List, [], ◌∷◌, ◌++◌, ap, sym, ◌∙◌, subst, Option}
use Rattle.curp_base.specs.Words.{At}
use Rattle.curp_base.proofs.Lists.{Each-at, at_one}
use Rattle.curp_cmd.specs.Node.{manager_node}
use Rattle.curp_cmd.specs.declared.node.NodeId.{NodeId}
use Rattle.curp_msg.specs.Moved.{Moved, says}
use Rattle.curp_msg.specs.declared.body.Adopted.{Adopted}
use Rattle.curp_msg.specs.declared.body.Body.TheVariants as body
use Rattle.curp_msg.specs.declared.config.PartConfig.{PartConfig}
use Rattle.curp_msg.specs.Input.{Input}
use Rattle.curp_msg.specs.declared.message.Message.{Message}
use Rattle.curp_order.specs.declared.Event.{Event}
use Rattle.curp_model.specs.Manager.{Attempted, ManagerState, adopted_message, manager_input}
use Rattle.curp_model.specs.World.{World, messages}
use Rattle.curp_facts.specs.Facts.{IsAmong, IsGiven, Lists, WasSent, lists_of_part}
use Rattle.curp_facts.specs.Invariant.{Invariant}
use Rattle.curp_facts.specs.Names.{AdoptedOk, Names, RecoveringOk}
use Rattle.curp_law_kept.proofs.Gives.{Later, manager_moved, moved_messages, sent_cases}
use Rattle.curp_law_runs.specs.Adopting.{Comes, FromRecovery, FromReplacement}
use Rattle.curp_facts.specs.Predecessors.{Predecessors}
use Rattle.curp_law_runs.proofs.Adopted.{adopted_back, adopted_word}
use Rattle.curp_law_runs.proofs.Chain.{chain_later}
use Rattle.curp_law_runs.proofs.Uttered.{AdoptsOne, AllOld, IsOld, NoNew, OneNew, WasHeard, manager_adopts}

injected : (a b : Adopted) → body.Adopted a ≡ body.Adopted b → a ≡ b
injected a b e = cc

module _ {w v : World} (names : Names w) (later_names : Names v) (inv : Invariant w) (s : Later w v) (chain : Predecessors w)
    (r : Moved ManagerState) (sent : messages v ≡ messages w ++ r.messages) where
  -- a word of adoption was said before, or now
  word_cases : (l : Lists) → WasSent v (says manager_node l.master (body.Adopted (adopted_word l)))
      → AdoptedOk w l.master (adopted_word l) ⊎ IsAmong (says manager_node l.master (body.Adopted (adopted_word l))) r.messages
  word_cases l told = elim (sent_cases w v r.messages sent (says manager_node l.master (body.Adopted (adopted_word l))) told) [
    | inl was ↦ inl (names.manager_says l.master (body.Adopted (adopted_word l)) was)
    | inr now ↦ inr now
  ]

  none_adopted : AllOld w r.messages → Predecessors v
  none_adopted old = chain_later names later_names inv s (λ l. ⊥)
      (record {
        back = adopted_back names later_names s (λ l. ⊥) (λ l given told. elim (word_cases l told) [
          | inl ok ↦ inl ok
          | inr now ↦ inl (Each-at (λ (m : Message). IsOld w m.to m.body) r.messages old now.place (says manager_node l.master (body.Adopted (adopted_word l))) now.stands)
        ]);
        comes = λ l new. absurd new;
        one = λ l k new too. absurd new;
      })
      chain

  module _ (c : PartConfig) (is : r.messages ≡ adopted_message c ∷ []) (its : Comes w (lists_of_part c)) where
    -- lists that the word of adoption of the entry names
    abbrev IsNamed : Lists → Type 0
    IsNamed l = IsGiven v l × (l.master ≡ c.master) × (adopted_word l ≡ adopted_word (lists_of_part c))

    named : (l : Lists) → IsGiven v l → IsAmong (says manager_node l.master (body.Adopted (adopted_word l))) r.messages → IsNamed l
    named l given now =
        let word : Message = says manager_node l.master (body.Adopted (adopted_word l)) in
        let at : At (adopted_message c ∷ []) now.place word = subst (λ (ms : List Message). At ms now.place word) is now.stands in
        let one : adopted_message c ≡ word = (at_one (adopted_message c) now.place word at).1 in
        let master : l.master ≡ c.master = sym (ap (λ (m : Message). m.to) one) in
        let bodies : body.Adopted (adopted_word l) ≡ body.Adopted (adopted_word (lists_of_part c)) = sym (ap (λ (m : Message). m.body) one) in
        let words : adopted_word l ≡ adopted_word (lists_of_part c) = injected (adopted_word l) (adopted_word (lists_of_part c)) bodies in
        (given, master, words)

    -- they come behind the present ones, as the entry does
    comes_named : (l : Lists) → IsNamed l → Comes w l
    comes_named l n = go its
      where
        go : Comes w (lists_of_part c) → Comes w l
        go (FromReplacement now top master) = FromReplacement now top (master ∙ sym n.1)
        go (FromRecovery now top order ok from told) = FromRecovery now top order
            (subst (λ (node : NodeId). RecoveringOk w now node order) (sym n.1) ok) from
            (subst (λ (a : Adopted). WasSent w (says from manager_node (body.Recovered (record { part = a.part; epoch = a.epoch })))) (sym n.2) told)

    one_adopted : Predecessors v
    one_adopted = chain_later names later_names inv s IsNamed
        (record {
          back = adopted_back names later_names s IsNamed (λ l given told. elim (word_cases l told) [
            | inl ok ↦ inl ok
            | inr now ↦ inr (named l given now)
          ]);
          comes = comes_named;
          one = λ l k new too. (later_names.agree l k new.0 too.0).by_version (new.1 ∙ sym too.1) (ap (λ (a : Adopted). a.version) (new.2 ∙ sym too.2));
        })
        chain

  -- by what was adopted
  by_adoption : AdoptsOne w r → Predecessors v
  by_adoption (NoNew old) = none_adopted old
  by_adoption (OneNew c is its) = one_adopted c is its

-- after an input to the manager, each adopted master still came from the last lists before it
pub manager_chain : {w : World} → Names w → Invariant w → Predecessors w → (given : Input) → WasHeard w given → (adopted : Option Attempted) (events : List Event)
    → Names (manager_moved w adopted events (manager_input w.manager given)) → Later w (manager_moved w adopted events (manager_input w.manager given))
    → Predecessors (manager_moved w adopted events (manager_input w.manager given))
manager_chain {w} names inv chain given heard adopted events later_names later =
    by_adoption names later_names inv later chain (manager_input w.manager given) (moved_messages w adopted events (manager_input w.manager given)) (manager_adopts names given heard)
