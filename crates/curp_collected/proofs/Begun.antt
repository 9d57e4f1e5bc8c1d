-- Nodes of a kind as they begin, in the order of their numbers.
use Rattle.std.specs.Prelude.{◌≡◌, ◌⊎◌, ℕ, suc, ◌+◌, ◌<◌, ◌≤◌, List, [], ◌∷◌, ◌++◌, length, Some, refl}
use Rattle.std.proofs.Common.{inl, inr, sym, ◌∙◌, ap, subst, arith}
use Rattle.std.proofs.lemmas.List.{length-map}
use Rattle.std.proofs.lemmas.Bool.{cases_lt}
use Rattle.curp_base.specs.Words.{At, Each, numbered}
use Rattle.curp_base.proofs.Lists.{Each-append, Each-at, Each-weaker, at_append, at_map, at_push}
use Rattle.curp_base.proofs.Numbered.{at_place}
use Rattle.curp_cmd.specs.declared.node.NodeId.{NodeId}
use Rattle.curp_cmd.specs.declared.node.NodeKind.{NodeKind}
use Rattle.curp_msg.specs.Moved.{Node}
use Rattle.curp_nodes.specs.Nodes.{HasNumbers, states}
use Rattle.curp_collected.specs.Files.{HasNoneAbove, IsNextNumber}
use Rattle.curp_collected.specs.Kinds.{AreBegun, AreThere, BeginsBy, Names, Rise, numbered_from}
use Rattle.curp_collected.specs.declared.beginning.Beginning.{Beginning}
use Rattle.curp_journal.specs.declared.origin.Origin.TheVariants.{Opening, Fresh}
use Rattle.curp_collected.specs.declared.files.File.{File}

abbrev pub named : NodeKind → ℕ → NodeId
named kind n = record { kind = kind; number = n }

-- ---- nodes that are there before any step

abbrev pub opened : {N : Type 0} → NodeKind → ℕ → N → Beginning N
opened kind n node = record { id = named kind n; origin = Opening; node = node }

numbered-push : {N : Type 0} (kind : NodeKind) (n : ℕ) (xs : List N) (x : N) → numbered_from kind n (xs ++ x ∷ []) ≡ numbered_from kind n xs ++ opened kind (n + length xs) x ∷ []
numbered-push kind n [] x = let e : n ≡ n + 0 = omega arith in ap (λ m. opened kind m x ∷ []) e
numbered-push kind n (y ∷ xs) x =
    let e : (n + 1) + length xs ≡ n + length (y ∷ xs) = omega arith in
    ap (λ l. opened kind n y ∷ l) (numbered-push kind (n + 1) xs x ∙ ap (λ m. numbered_from kind (n + 1) xs ++ opened kind m x ∷ []) e)

-- those so far, and the next
pub numbered_next : {N : Type 0} (kind : NodeKind) (n : ℕ) (xs : List N) (x : N) (begun : List (Beginning N)) → begun ≡ numbered_from kind 1 xs → n ≡ length xs
    → begun ++ opened kind (n + 1) x ∷ [] ≡ numbered_from kind 1 (xs ++ x ∷ [])
numbered_next kind n xs x begun are many =
    let place : n + 1 ≡ 1 + length xs = omega (arith, many) in
    rw are (ap (λ m. numbered_from kind 1 xs ++ opened kind m x ∷ []) place ∙ sym (numbered-push kind 1 xs x))

high : {N : Type 0} (kind : NodeKind) (m n : ℕ) (xs : List N) → m < n → Each (λ (b : Beginning N). m < b.id.number) (numbered_from kind n xs)
high kind m n [] less = tt
high kind m n (x ∷ xs) less = (less, high kind m (n + 1) xs (omega arith))

low : {N : Type 0} (kind : NodeKind) (n last : ℕ) (xs : List N) → n + length xs ≤ last + 1 → Each (λ (b : Beginning N). b.id.number ≤ last) (numbered_from kind n xs)
low kind n last [] short = tt
low kind n last (x ∷ xs) short = (omega arith, low kind (n + 1) last xs (omega arith))

rise : {N : Type 0} (kind : NodeKind) (n : ℕ) (xs : List N) → Rise (numbered_from kind n xs)
rise kind n [] = tt
rise kind n (x ∷ xs) = (high kind n (n + 1) xs (omega arith), rise kind (n + 1) xs)

names : {N : Type 0} (kind : NodeKind) (n m : ℕ) (xs : List N) → n ≤ m → m < n + length xs → Names (numbered_from kind n xs) (named kind m)
names kind n m [] above below = absurd (omega arith)
names {N} kind n m (x ∷ xs) above below = by_case (cases_lt n m) (λ more. names kind (n + 1) m xs (omega (arith, more)) (omega (arith, below)))
  where
    by_case : (n < m) ⊎ (m ≤ n) → (n < m → Names (numbered_from kind (n + 1) xs) (named kind m)) → Names (numbered_from kind n (x ∷ xs)) (named kind m)
    by_case (inr same) further = record { place = 0; b = opened kind n x; stands = refl; its_name = ap (named kind) (omega (arith, above, same)) }
    by_case (inl more) further =
        let next = further more in
        record { place = suc next.place; b = next.b; stands = next.stands; its_name = next.its_name }

begin_by : {S : Type 0} (kind : NodeKind) (there : List S) (fresh : S) (n : ℕ) (xs : List (Node S))
    → ((k : ℕ) (x : Node S) → At xs k x → (x.number ≡ n + k) × (numbered there (n + k) ≡ Some x.state)) → Each (BeginsBy kind there fresh) (numbered_from kind n xs)
begin_by kind there fresh n [] is = tt
begin_by {S} kind there fresh n (x ∷ xs) is =
    let here = is 0 x refl in
    let number : x.number ≡ n = omega (arith, here.0) in
    let place : n + 0 ≡ x.number = omega (arith, number) in (
      record {
        its_name = ap (named kind) (sym number);
        begins = inl (subst (λ m. numbered there m ≡ Some x.state) place here.1);
        behind = λ e. absurd cc;
      },
      begin_by kind there fresh (n + 1) xs (λ k y at.
          let next = is (suc k) y at in
          let same : n + suc k ≡ (n + 1) + k = omega arith in
          (next.0 ∙ same, subst (λ m. numbered there m ≡ Some y.state) same next.1)),
    )

there_by : {S : Type 0} (kind : NodeKind) (there : List S) (fresh : S) (xs : List (Node S)) → HasNumbers xs → states xs ≡ there → Each (BeginsBy kind there fresh) (numbered_from kind 1 xs)
there_by {S} kind there fresh xs numbers are = begin_by kind there fresh 1 xs (λ k x at.
    let number : x.number ≡ 1 + k = omega (arith, numbers k x at) in
    (number, at_place there k (1 + k) x.state (omega arith) (subst (λ l. At l k x.state) are (at_map (λ (y : Node S). y.state) xs k x at))))

-- ---- and behind them fresh ones

-- the nodes up to a number
pub record SoFar {S : Type 0} (kind : NodeKind) (there : List S) (fresh : S) (files : List File) (last : ℕ) (begun : List (Beginning (Node S))) : Type 0 where
  pub each : Each (BeginsBy kind there fresh) begun
  pub rise : Rise begun
  pub low : Each (λ (b : Beginning (Node S)). b.id.number ≤ last) begun
  pub whole : (k : ℕ) (f : File) → At files k f → f.title.node.kind ≡ kind → f.title.node.number ≤ last → Names begun f.title.node
  pub past : length there ≤ last

-- no node but the manager has the number 0
abbrev pub AreCounted : NodeKind → List File → Type 0
AreCounted kind files = (k : ℕ) (f : File) → At files k f → f.title.node.kind ≡ kind → 1 ≤ f.title.node.number

name_is : (kind : NodeKind) (node : NodeId) → node.kind ≡ kind → named kind node.number ≡ node
name_is kind node e = ap (λ k. named k node.number) (sym e)

pub begin_there : {S : Type 0} (kind : NodeKind) (there : List S) (fresh : S) (files : List File) (last : ℕ) (begun : List (Beginning (Node S)))
    → last ≡ length there → AreCounted kind files → AreThere kind there begun → SoFar kind there fresh files last begun
begin_there {S} kind there fresh files last begun is counted are =
    let xs = are.nodes in
    let many : length xs ≡ last = sym (length-map xs (λ (y : Node S). y.state)) ∙ ap length are.states_are ∙ sym is in
    subst (SoFar kind there fresh files last) (sym are.begun_are) (record {
      each = there_by kind there fresh xs are.numbers are.states_are;
      rise = rise kind 1 xs;
      low = low kind 1 last xs (omega (arith, many));
      whole = λ k f at of short.
          subst (λ node. Names (numbered_from kind 1 xs) node) (name_is kind f.title.node of)
          (names kind 1 f.title.node.number xs (counted k f at of) (omega (arith, many, short)));
      past = omega (arith, is);
    })

rise-push : {N : Type 0} (xs : List (Beginning N)) (b : Beginning N) → Rise xs → Each (λ (x : Beginning N). x.id.number < b.id.number) xs → Rise (xs ++ b ∷ [])
rise-push [] b rises below = (tt, tt)
rise-push {N} (x ∷ xs) b rises below = (Each-append (λ (y : Beginning N). x.id.number < y.id.number) xs (b ∷ []) rises.0 (below.0, tt), rise-push xs b rises.1 below.1)

names-push : {N : Type 0} (xs ys : List (Beginning N)) (node : NodeId) → Names xs node → Names (xs ++ ys) node
names-push xs ys node is = record { place = is.place; b = is.b; stands = at_append xs ys is.place is.b is.stands; its_name = is.its_name }

module _ {S : Type 0} (kind : NodeKind) (there : List S) (fresh : S) (files : List File) (last : ℕ) (begun : List (Beginning (Node S))) (so_far : SoFar kind there fresh files last begun) where
  abbrev fresh_node : ℕ → Node S → Beginning (Node S)
  fresh_node number node = record { id = named kind number; origin = Fresh; node = node }

  -- one more
  pub begin_next : (number : ℕ) (node : Node S) → IsNextNumber files kind last number → node.number ≡ number → node.state ≡ fresh
      → SoFar kind there fresh files number (begun ++ record { id = record { kind = kind; number = number }; origin = Fresh; node = node } ∷ [])
  begin_next number node next number_is state_is = record {
    each = Each-append (BeginsBy kind there fresh) begun (fresh_node number node ∷ []) so_far.each (
      record {
        its_name = ap (named kind) (sym number_is);
        begins = inr (omega (arith, so_far.past, next.higher, number_is), state_is, refl);
        behind = λ e. omega (arith, so_far.past, next.higher, number_is);
      },
      tt,
    );
    rise = rise-push begun (fresh_node number node) so_far.rise
        (Each-weaker (λ (x : Beginning (Node S)). x.id.number ≤ last) (λ (x : Beginning (Node S)). x.id.number < number) (λ x short. omega (arith, short, next.higher)) begun so_far.low);
    low = Each-append (λ (x : Beginning (Node S)). x.id.number ≤ number) begun (fresh_node number node ∷ [])
        (Each-weaker (λ (x : Beginning (Node S)). x.id.number ≤ last) (λ (x : Beginning (Node S)). x.id.number ≤ number) (λ x short. omega (arith, short, next.higher)) begun so_far.low)
        (omega arith, tt);
    whole = λ k f at of short. by_case k f at of short (cases_lt last f.title.node.number);
    past = omega (arith, so_far.past, next.higher);
  }
    where
      by_case : (k : ℕ) (f : File) → At files k f → f.title.node.kind ≡ kind → f.title.node.number ≤ number → (last < f.title.node.number) ⊎ (f.title.node.number ≤ last)
          → Names (begun ++ fresh_node number node ∷ []) f.title.node
      by_case k f at of short (inr old) = names-push begun (fresh_node number node ∷ []) f.title.node (so_far.whole k f at of old)
      by_case k f at of short (inl new) =
          let least = Each-at (λ (x : File). x.title.node.kind ≡ kind → last < x.title.node.number → number ≤ x.title.node.number) files next.least k f at of new in
          let same : number ≡ f.title.node.number = omega (arith, least, short) in
          record {
            place = length begun;
            b = fresh_node number node;
            stands = at_push begun (fresh_node number node) (length begun) refl;
            its_name = ap (named kind) same ∙ name_is kind f.title.node of;
          }

  -- no more
  pub begin_end : HasNoneAbove files kind last → AreBegun kind there fresh files begun
  begin_end none = record {
    each = so_far.each;
    rise = so_far.rise;
    whole = λ k f at of. so_far.whole k f at of (Each-at (λ (x : File). x.title.node.kind ≡ kind → x.title.node.number ≤ last) files none k f at of);
  }
