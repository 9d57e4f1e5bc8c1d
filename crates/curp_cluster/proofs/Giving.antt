-- One node of a kind moves, and the world with it: of any kind, by its machine.
use Rattle.std.proofs.Common.{◌≡◌, ℕ, zero, suc, ◌-◌, ◌≤◌, List, [], ◌∷◌, length, map, slice_set, Some, Result, Ok, Err, refl, ap, sym, ◌∙◌, subst, unwrap_or, arith, true, is_some}
use Rattle.std.specs.Global.{Vec}
use Rattle.std.specs.Vec.{with_items}
use Rattle.std.proofs.lemmas.List.{length-set, with_items_is}
use Rattle.std.specs.declared.alloc.AllocError.{AllocError}
use Rattle.curp_base.specs.Words.{At, numbered}
use Rattle.curp_base.proofs.Lists.{at_set_same}
use Rattle.curp_msg.specs.Moved.{Moved, Moves, MovesAt, Node, numbered_move, within}
use Rattle.curp_msg.specs.declared.machine.Done.{Done}
use Rattle.curp_model.specs.World.{World, moves_one}
use Rattle.curp_nodes.specs.Nodes.{HasNumbers}
use Rattle.curp_cluster.specs.Nodes.{NodeStates, nodes_of}
use Rattle.curp_cluster.proofs.Numbered.{map_set, numbered_at, numbers_set}

-- ---- nodes in a vector

-- what is written back to a vector of which a slice was lent
pub vec_moves : {S : Type 0} (v : Vec S) (lent new : List S) (k : ℕ) (r : Result Done AllocError) (machine : S → Moved S)
    → lent ≡ v.items → length new ≡ v.len
    → MovesAt k lent new r machine → MovesAt k v.items (with_items v new).items r machine
vec_moves {S} v lent new k r machine all long made =
    subst (λ (xs : List S). MovesAt k v.items xs r machine) (sym (with_items_is v new long))
    (subst (λ (xs : List S). MovesAt k xs new r machine) all made)

-- a node that is there has a number that is in range
pub in_range : {A B : Type 0} (f : A → B) (xs : List A) (n : ℕ) → is_some (numbered (map f xs) n) ≡ true → (1 ≤ n) × (n ≤ length xs)
in_range f xs zero there = absurd cc
in_range f [] (suc k) there = absurd cc
in_range f (x ∷ xs) (suc zero) there = (omega arith, omega arith)
in_range f (x ∷ xs) (suc (suc k)) there = let more = in_range f xs (suc k) there in (omega arith, omega (arith, more.1))

-- ---- a list in which the node of a number has moved

-- what has the number made the move, and the others are as they were
pub record MovesOne {T : Type 0} (old new : List T) (n : ℕ) (r : Result Done AllocError) (act : T → Moved T) : Type 0 where
  pub before : T
  pub after : T
  pub was : numbered old n ≡ Some before
  pub is : new ≡ slice_set old (n - 1) after
  pub moves : Moves before after r (act before)

-- a move of a node is one of its state, as it is seen
moves_as : {S T : Type 0} (f : S → T) (n : ℕ) (x y : Node S) (r : Result Done AllocError) (m : Moved S)
    → Moves x y r (numbered_move n m) → Moves (f x.state) (f y.state) r (within f m)
moves_as {S} f n x y (Ok done) m moved = (ap (λ (z : Node S). f z.state) moved.0, moved.1)
moves_as {S} f n x y (Err e) m moved = ap (λ (z : Node S). f z.state) moved

-- there are as many as before
pub many_stay : {S : Type 0} (nodes nodes' : List S) (k : ℕ) (r : Result Done AllocError) (machine : S → Moved S) → MovesAt k nodes nodes' r machine → length nodes' ≡ length nodes
many_stay nodes nodes' k r machine made = ap length made.is ∙ length-set nodes k made.after

module _ {S T : Type 0} (f : S → T) (nodes nodes' : List (Node S)) (n : ℕ) (r : Result Done AllocError)
    (machine : Node S → Moved (Node S)) (act : ℕ → S → Moved S) (acts : T → Moved T)
    (by_number : (x : Node S) → machine x ≡ numbered_move x.number (act x.number x.state))
    (numbers : HasNumbers nodes) (low : 1 ≤ n) (made : MovesAt (n - 1) nodes nodes' r machine) where
  number : made.before.number ≡ n
  number = omega (arith, numbers (n - 1) made.before made.was)

  pub node_moves : Moves made.before made.after r (numbered_move n (act n made.before.state))
  node_moves = subst (λ (i : ℕ). Moves made.before made.after r (numbered_move i (act i made.before.state))) number
      (subst (Moves made.before made.after r) (by_number made.before) made.moves)

  -- the list of what is seen of nodes moves by their machine
  pub one_moves : ((s : S) → acts (f s) ≡ within f (act n s))
      → MovesOne (map (λ x. f x.state) nodes) (map (λ x. f x.state) nodes') n r acts
  one_moves seen_as = record {
    before = f made.before.state;
    after = f made.after.state;
    was = numbered_at (λ (x : Node S). f x.state) nodes n (n - 1) made.before (omega arith) made.was;
    is = ap (map (λ (x : Node S). f x.state)) made.is
        ∙ sym (map_set (λ (x : Node S). f x.state) nodes (n - 1) made.after);
    moves = rw (seen_as made.before.state) (moves_as f n made.before made.after r (act n made.before.state) node_moves);
  }

  same_number : (r : Result Done AllocError) (x y : Node S) (m : Moved S) → x.number ≡ n → Moves x y r (numbered_move n m) → y.number ≡ x.number
  same_number (Ok done) x y m own moved = ap (λ (z : Node S). z.number) moved.0 ∙ sym own
  same_number (Err e) x y m own moved = ap (λ (z : Node S). z.number) moved

  -- and keeps its numbers
  pub numbers_stay : HasNumbers nodes'
  numbers_stay = rw made.is
      (numbers_set nodes (n - 1) made.before made.after numbers made.was
      (same_number r made.before made.after (act n made.before.state) number node_moves))

-- ---- the world

-- what is put where it stands
pub set_same : {A : Type 0} (xs : List A) (k : ℕ) (x : A) → At xs k x → slice_set xs k x ≡ xs
set_same [] k x here = refl
set_same {A} (y ∷ xs) zero x here = ap (λ (z : A). z ∷ xs) (sym (ap (λ o. unwrap_or o x) here))
set_same (y ∷ xs) (suc k) x here = ap (λ zs. y ∷ zs) (set_same xs k x here)

stands_at : {A : Type 0} (xs : List A) (n : ℕ) (x : A) → numbered xs n ≡ Some x → At xs (n - 1) x
stands_at xs zero x here = absurd cc
stands_at xs (suc k) x here = let place : suc k - 1 ≡ k = omega arith in rw place here

-- what was put under a number has it
pub set_there : {A : Type 0} (xs : List A) (n : ℕ) (x y : A) → numbered xs n ≡ Some x → numbered (slice_set xs (n - 1) y) n ≡ Some y
set_there xs zero x y here = absurd cc
set_there xs (suc k) x y here = let place : suc k - 1 ≡ k = omega arith in rw place (at_set_same xs k x y here)

world_moves_by : {T : Type 0} (put : List T → NodeStates) (old new : List T) (n : ℕ) (x y : T) (r : Result Done AllocError) (m : Moved T)
    → numbered old n ≡ Some x → new ≡ slice_set old (n - 1) y → Moves x y r m
    → Moves (put old) (put new) r (within (λ t. put (slice_set old (n - 1) t)) m)
world_moves_by {T} put old new n x y (Ok done) m was is moved =
    (ap put (is ∙ ap (λ (t : T). slice_set old (n - 1) t) moved.0), moved.1)
world_moves_by {T} put old new n x y (Err e) m was is moved =
    ap put (is ∙ ap (λ (t : T). slice_set old (n - 1) t) moved ∙ set_same old (n - 1) x (stands_at old n x was))

-- the nodes of a world move as the list of one kind of them
pub world_moves : {T : Type 0} (put : List T → NodeStates) (old new : List T) (n : ℕ) (r : Result Done AllocError) (act : T → Moved T) (move : T → Moved World) (w : World)
    → ((t : T) → within nodes_of (move t) ≡ within (λ t'. put (slice_set old (n - 1) t')) (act t))
    → MovesOne old new n r act
    → Moves (put old) (put new) r (within nodes_of (moves_one w move (numbered old n)))
world_moves put old new n r act move w moves_as one =
    rw (one.was, moves_as one.before) (world_moves_by put old new n one.before one.after r (act one.before) one.was one.is one.moves)
