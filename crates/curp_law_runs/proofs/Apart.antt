-- The witnesses of each partition are different nodes, in what clients know and in what messages bring.
use Rattle.std.proofs.Common.{◌≡◌, inl, inr, ℕ, suc, false, List, [], ◌∷◌, Some, refl, subst, ap, sym, arith}
use Rattle.std.proofs.lemmas.Bool.{cases_Bool}
use Rattle.std.specs.List.{AllByRecursion, IsDistinct}
use Rattle.curp_base.specs.Words.{At, Each, numbered}
use Rattle.curp_base.proofs.Lists.{Each-from_at, Each-weaker}
use Rattle.curp_cmd.proofs.Nodes.{same_node-true}
use Rattle.curp_cmd.specs.Node.{manager_node, same_node}
use Rattle.curp_cmd.specs.declared.node.NodeId.{NodeId}
use Rattle.curp_msg.specs.Moved.{says}
use Rattle.curp_msg.specs.declared.body.Body.{Body}
use Rattle.curp_msg.specs.declared.body.Body.TheVariants as body
use Rattle.curp_msg.specs.declared.config.Config.{Config}
use Rattle.curp_msg.specs.declared.config.PartConfig.{PartConfig}
use Rattle.curp_msg.specs.declared.message.Message.{Message}
use Rattle.curp_model.specs.Client.{ClientState}
use Rattle.curp_model.specs.World.{World, messages}
use Rattle.curp_facts.specs.Facts.{WasSent}
use Rattle.curp_facts.specs.Known.{Known}
use Rattle.curp_facts.specs.Names.{AllDiffer, ConfigurationOk}
use Rattle.curp_law_kept.proofs.Gives.{from_manager}
use Rattle.curp_law_steps.specs.Trip.{BringsApart, WitnessesAreApart}

-- ---- lists whose nodes differ

-- a node that isn't at a place of a list is no node of it
apart_from : (node : NodeId) (ys : List NodeId) → ((k : ℕ) → At ys k node → ⊥) → AllByRecursion (λ (y : NodeId). same_node node y ≡ false) ys
apart_from node [] nowhere = tt
apart_from node (y ∷ ys) nowhere = (
  elim (cases_Bool (same_node node y)) [
    | inr other ↦ other
    | inl same ↦ absurd (nowhere 0 (ap Some (sym (same_node-true node y same))))
  ],
  apart_from node ys (λ k at. nowhere (suc k) at),
)

distinct_nodes : (nodes : List NodeId) → AllDiffer nodes → IsDistinct same_node nodes
unfolding IsDistinct
distinct_nodes [] differ = tt
distinct_nodes (x ∷ xs) differ = (
  apart_from x xs (λ k at. let same : 0 ≡ suc k = differ 0 (suc k) x (ap Some refl) at in omega (arith, same)),
  distinct_nodes xs (λ i j y a b. let same : suc i ≡ suc j = differ (suc i) (suc j) y a b in omega (arith, same)),
)

-- ---- in every world that a script reaches

module _ {w : World} (known : Known w) where
  adopted_apart : (config : Config) → ConfigurationOk w config → WitnessesAreApart config
  adopted_apart config ok = Each-weaker _ (λ (p : PartConfig). IsDistinct same_node p.witnesses)
      (λ p was. distinct_nodes p.witnesses (known.names.given _ was.given).witnesses_differ) config.parts ok.adopted

  pub known_apart : (n : ℕ) (c : ClientState) → numbered w.clients n ≡ Some c → WitnessesAreApart c.config
  known_apart n c at = adopted_apart c.config (known.nodes.clients n c at).config

  brings : (from to : NodeId) (b : Body) → WasSent w (says from to b) → BringsApart b
  brings from to (body.Configuration config) sent =
      let manager : from ≡ manager_node = from_manager known from to (body.Configuration config) refl sent in
      let said : WasSent w (says manager_node to (body.Configuration config)) = subst (λ (x : NodeId). WasSent w (says x to (body.Configuration config))) manager sent in
      adopted_apart config (known.names.manager_says to (body.Configuration config) said).1
  brings from to _ sent = tt

  pub brought_apart : Each (λ (m : Message). BringsApart m.body) (messages w)
  brought_apart = Each-from_at (λ (m : Message). BringsApart m.body) (messages w) (λ k m at. brings m.from m.to m.body (record { place = k; stands = at }))
