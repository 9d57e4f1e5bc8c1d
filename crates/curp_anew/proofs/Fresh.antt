-- Fresh nodes behind those that are there.
use Rattle.std.proofs.Common.{◌≡◌, ℕ, ◌+◌, List, [], ◌∷◌, ◌++◌, length, length-append, replicate, append_assoc, append-nil, ap, sym, ◌∙◌, arith}
use Rattle.std.proofs.lemmas.List.{map-append, replicate_more}
use Rattle.curp_msg.specs.Moved.{Node}
use Rattle.curp_nodes.specs.Nodes.{HasNumbers, states}
use Rattle.curp_nodes.proofs.Numbers.{numbers_push}

-- so many are there, in these states, and behind them so many in one state
pub record AreFresh {S : Type 0} (nodes : List (Node S)) (all : List S) (fresh : S) (there count : ℕ) : Type 0 where
  pub states_are : states nodes ≡ all ++ replicate count fresh
  pub numbers : HasNumbers nodes
  pub many : length nodes ≡ there + count

pub none_fresh : {S : Type 0} (nodes : List (Node S)) (fresh : S) (there : ℕ) → length nodes ≡ there → HasNumbers nodes → AreFresh nodes (states nodes) fresh there 0
none_fresh nodes fresh there long numbers = record {
  states_are = sym (append-nil (states nodes));
  numbers = numbers;
  many = omega (arith, long);
}

pub fresh_more : {S : Type 0} (nodes : List (Node S)) (all : List S) (fresh : S) (there count : ℕ) (y : Node S)
    → AreFresh nodes all fresh there count → y.number ≡ there + count + 1 → y.state ≡ fresh → AreFresh (nodes ++ y ∷ []) all fresh there (count + 1)
fresh_more {S = S} nodes all fresh there count y are number state = record {
  states_are =
      map-append (λ (x : Node S). x.state) nodes (y ∷ [])
      ∙ ap (λ (z : S). states nodes ++ z ∷ []) state
      ∙ ap (λ (l : List S). l ++ fresh ∷ []) are.states_are
      ∙ append_assoc all (replicate count fresh) (fresh ∷ [])
      ∙ ap (λ (l : List S). all ++ l) (replicate_more count fresh);
  numbers = numbers_push nodes y are.numbers (omega (arith, number, are.many));
  many = omega (arith, length-append nodes (y ∷ []), are.many);
}
