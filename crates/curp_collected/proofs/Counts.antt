-- How many nodes a header's world begins with.
use Rattle.std.proofs.Common.{◌≡◌, ℕ, ◌*◌, List, length, ap, sym, ◌∙◌}
use Rattle.std.proofs.lemmas.List.{length-map, length-replicate}
use Rattle.curp_base.specs.Words.{numbers_from}
use Rattle.curp_base.proofs.Numbered.{length-numbers}
use Rattle.curp_msg.specs.Moved.{Node}
use Rattle.curp_msg.specs.declared.script.Header.{Header}
use Rattle.curp_model.specs.World.{opening, opening_client, opening_master, shape_of}
use Rattle.curp_nodes.specs.Nodes.{states}

-- as many as there are states
pub long_states : {S : Type 0} (nodes : List (Node S)) (all : List S) (n : ℕ) → states nodes ≡ all → length all ≡ n → length nodes ≡ n
long_states {S} nodes all n are long = sym (length-map nodes (λ (x : Node S). x.state)) ∙ ap length are ∙ long

module _ (h : Header) where
  pub client_count : length (opening h).clients ≡ h.clients
  unfolding opening
  client_count = length-replicate h.clients (opening_client h)

  pub master_count : length (opening h).masters ≡ h.parts
  unfolding opening
  master_count = length-map (numbers_from 1 h.parts) (opening_master (shape_of h)) ∙ length-numbers 1 h.parts

  pub backup_count : length (opening h).backups ≡ h.parts * h.f
  unfolding opening
  backup_count = length-replicate (h.parts * h.f) _

  pub witness_count : length (opening h).witnesses ≡ h.parts * h.f
  unfolding opening
  witness_count = length-replicate (h.parts * h.f) _
