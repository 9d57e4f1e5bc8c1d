-- The witnesses of a partition are different nodes, in the configuration of the opening, and in what a client knows.
use Rattle.std.proofs.Common.{◌≡◌, ℕ, zero, suc, ◌+◌, ◌<◌, Bool, true, false, cond, List, [], ◌∷◌, map, Some, subst, arith}
use Rattle.std.specs.List.{AllByRecursion, IsDistinct, filter}
use Rattle.std.proofs.lemmas.Bool.{ne_eqb}
use Rattle.std.proofs.lemmas.Map.Keys.{IsDistinct-cons}
use Rattle.curp_base.specs.Words.{Each, first_of, numbers_from}
use Rattle.curp_base.proofs.Lists.{Each-from_at, Each-map}
use Rattle.curp_cmd.specs.Hash.{hashes}
use Rattle.curp_cmd.specs.Node.{same_node, witness_node}
use Rattle.curp_cmd.specs.declared.command.Command.{Command}
use Rattle.curp_cmd.specs.declared.node.NodeId.{NodeId}
use Rattle.curp_msg.specs.declared.config.Config.{Config}
use Rattle.curp_msg.specs.declared.config.PartConfig.{PartConfig}
use Rattle.curp_msg.specs.Input.{Input}
use Rattle.curp_msg.specs.Input as input
use Rattle.curp_model.specs.Client.{ClientState, client_input, owner_of}
use Rattle.curp_model.specs.Manager.{Shape, opening_config, opening_part}
use Rattle.curp_model.specs.Ranges.{owns_all}
use Rattle.curp_law_steps.specs.Trip.{BringsApart, GivesApart, WitnessesAreApart}
use Rattle.curp_law_steps.proofs.Inputs.{heard_keeps, ordered_keeps}

-- ---- at the opening

pub apart_numbers : (first count : ℕ) → IsDistinct same_node (map witness_node (numbers_from first count))
unfolding IsDistinct
apart_numbers first zero = tt
apart_numbers first (suc count) = IsDistinct-cons same_node (witness_node first) (map witness_node (numbers_from (first + 1) count)) (later first (first + 1) count (omega arith)) (apart_numbers (first + 1) count)
  where
    later : (n first count : ℕ) → n < first → AllByRecursion (λ (y : NodeId). same_node (witness_node n) y ≡ false) (map witness_node (numbers_from first count))
    later n first zero low = tt
    later n first (suc count) low = (ne_eqb n first (omega (arith, low)), later n (first + 1) count (omega (arith, low)))

pub opening_apart : (s : Shape) → WitnessesAreApart (opening_config s)
opening_apart s =
    Each-map (λ (p : PartConfig). IsDistinct same_node p.witnesses) (opening_part s) (numbers_from 1 s.parts)
    (Each-from_at (λ (p : ℕ). IsDistinct same_node (opening_part s p).witnesses) (numbers_from 1 s.parts) (λ k p at. apart_numbers _ s.f))

-- ---- at a client

abbrev IsApart : ClientState → Type 0
IsApart c = WitnessesAreApart c.config

pub given_apart : (n : ℕ) (c : ClientState) (given : Input) → IsApart c → GivesApart given → IsApart (client_input n c given).state
given_apart n c (input.Local order) a brings = ordered_keeps IsApart c a (λ p. a) n order (λ command part. a)
given_apart n c (input.Message m) a brings = heard_keeps IsApart c a (λ p. a) (λ id. a) n m.from m.body (λ config is. subst BringsApart is brings)

-- ---- in the partition that owns a command

first_of_each : {A : Type 0} (P : A → Type 0) (p : A → Bool) (xs : List A) (x : A) → Each P xs → first_of (filter p xs) ≡ Some x → P x
first_of_each P p [] x all e = absurd cc
first_of_each P p (y ∷ xs) x all e = go (p y) (first_of_each P p xs x all.1) e
  where
    go : (b : Bool) → (first_of (filter p xs) ≡ Some x → P x) → first_of (cond b (y ∷ filter p xs) (filter p xs)) ≡ Some x → P x
    go true rest e = let same : y ≡ x = cc in subst P same all.0
    go false rest e = rest e

pub owner_apart : (config : Config) (command : Command) (part : PartConfig) → WitnessesAreApart config → owner_of config command ≡ Some part → IsDistinct same_node part.witnesses
owner_apart config command part a e = first_of_each (λ (p : PartConfig). IsDistinct same_node p.witnesses) (λ (p : PartConfig). owns_all p.ranges (hashes command)) config.parts part a e
