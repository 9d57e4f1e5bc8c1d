-- How many nodes a header's world begins with.
use Rattle.std.proofs.Common.{◌≡◌, ℕ, ◌+◌, ◌*◌, ◌^◌, ◌<◌, ◌≤◌, List, ◌++◌, length, length-append, replicate, ap, sym, ◌∙◌, arith}
use Rattle.std.proofs.lemmas.List.{length-map, length-replicate}
use Rattle.std.proofs.Math.Nat.{mul-le-mul}
use Rattle.curp_base.specs.Words.{numbers_from}
use Rattle.curp_msg.specs.Moved.{Node}
use Rattle.curp_msg.specs.declared.script.Header.{Header}
use Rattle.curp_msg.specs.Script.{IsHeader}
use Rattle.curp_model.specs.World.{opening, opening_client, opening_master, shape_of}
use Rattle.curp_nodes.specs.Nodes.{states}
use Rattle.curp_anew.specs.Opening.{IsOpening}
use Rattle.curp_anew.specs.declared.nodes.LiveNodes.{LiveNodes}
use Rattle.curp_base.proofs.Numbered.{length-numbers}

-- as many as there are states
pub long_states : {S : Type 0} (nodes : List (Node S)) (all : List S) (n : ℕ) → states nodes ≡ all → length all ≡ n → length nodes ≡ n
long_states {S} nodes all n are long = sym (length-map nodes (λ (x : Node S). x.state)) ∙ ap length are ∙ long

few_keepers : (h : Header) → IsHeader h → h.parts * h.f ≤ 16 * 5
few_keepers h is = mul-le-mul is.parts.1 is.f.1

few_fresh : (h : Header) (recoveries : ℕ) → IsHeader h → recoveries ≤ 8 → recoveries * h.f ≤ 8 * 5
few_fresh h recoveries is few = mul-le-mul few is.f.1

-- there are few nodes of each kind
pub record AreFew (nodes : LiveNodes) : Type 0 where
  pub clients : length nodes.clients.items + 1 < 2 ^ 32
  pub masters : length nodes.masters.items + 1 < 2 ^ 32
  pub backups : length nodes.backups.items + 1 < 2 ^ 32
  pub witnesses : length nodes.witnesses.items + 1 < 2 ^ 32

-- how many nodes there are before any step
module _ (h : Header) where
  pub client_count : length (opening h).clients ≡ h.clients
  unfolding opening
  client_count = length-replicate h.clients (opening_client h)

  pub master_count : length (opening h).masters ≡ h.parts
  unfolding opening
  master_count = length-map (numbers_from 1 h.parts) (opening_master (shape_of h)) ∙ length-numbers 1 h.parts

  pub backup_count : length (opening h).backups ≡ h.parts * h.f
  unfolding opening
  backup_count = length-replicate (h.parts * h.f) _

  pub witness_count : length (opening h).witnesses ≡ h.parts * h.f
  unfolding opening
  witness_count = length-replicate (h.parts * h.f) _

-- those that are there, and the fresh ones
pub with_fresh : {S : Type 0} (there : List S) (fresh : S) (count n : ℕ) → length there ≡ n → length (there ++ replicate count fresh) ≡ n + count
with_fresh there fresh count n many = omega (arith, length-append there (replicate count fresh), length-replicate count fresh, many)

pub few_nodes : (h : Header) (recoveries : ℕ) (nodes : LiveNodes) → IsHeader h → recoveries ≤ 8 → IsOpening h recoveries nodes → AreFew nodes
few_nodes h recoveries nodes is few opened = record {
  clients = omega (arith, is.clients.1, long_states nodes.clients.items _ h.clients opened.clients (client_count h));
  masters = omega (arith, is.parts.1, few, long_states nodes.masters.items _ (h.parts + recoveries) opened.masters (with_fresh (opening h).masters _ recoveries h.parts (master_count h)));
  backups = omega (arith, few_keepers h is, few_fresh h recoveries is few, long_states nodes.backups.items _ (h.parts * h.f + recoveries * h.f) opened.backups (with_fresh (opening h).backups _ (recoveries * h.f) (h.parts * h.f) (backup_count h)));
  witnesses = omega (arith, few_keepers h is, few_fresh h recoveries is few, long_states nodes.witnesses.items _ (h.parts * h.f + recoveries * h.f) opened.witnesses (with_fresh (opening h).witnesses _ (recoveries * h.f) (h.parts * h.f) (witness_count h)));
}
