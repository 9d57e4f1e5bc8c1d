-- What journals of one kind are that were begun anew with the nodes of an opening and fresh ones.
use Rattle.std.proofs.Common.{◌≡◌, ◌⊎◌, inl, inr, ℕ, ◌+◌, List, ◌++◌, length, replicate, Some, ap, sym, ◌∙◌, subst, arith}
use Rattle.curp_base.specs.Words.{At, Each, numbered}
use Rattle.curp_base.proofs.Lists.{Each-at, Each-weaker, at_append_cases, at_map, at_replicate}
use Rattle.curp_base.proofs.Numbered.{at_place}
use Rattle.curp_cmd.specs.declared.node.NodeId.{NodeId}
use Rattle.curp_cmd.specs.declared.node.NodeKind.{NodeKind}
use Rattle.curp_msg.specs.Moved.{Node}
use Rattle.curp_journal.specs.Journal.{NodeJournal}
use Rattle.curp_nodes.specs.Nodes.{HasNumbers, states}
use Rattle.curp_journal.specs.Turns.{Journal}
use Rattle.curp_gather.specs.Journals.{Begins, NodesAscend, journal_of}
use Rattle.curp_anew.specs.Opening.{AllOwn, AreAnew, IsAnew, IsOneOf}

-- what came to a journal's node is its own
abbrev pub HasOwn : Journal → Type 0
HasOwn j = AllOwn j.id j.items

-- so it is of one that was begun anew
pub own_anew : {N : Type 0} (id : NodeId) (node : N) (log : NodeJournal N) → IsAnew id node log → HasOwn (journal_of log)
own_anew {N} id node log is = subst (λ (name : NodeId). AllOwn name log.items) (sym is.its_name) is.own

-- the node of a kind, by its number
abbrev named : NodeKind → ℕ → NodeId
named kind n = record { kind = kind; number = n }

pub all_own : {N : Type 0} (kind : NodeKind) (there : ℕ) (nodes : List N) (logs : List (NodeJournal N)) → AreAnew kind there nodes logs
    → Each (λ (log : NodeJournal N). HasOwn (journal_of log)) logs
all_own {N} kind there nodes logs are =
    Each-weaker (IsOneOf kind there nodes) (λ (log : NodeJournal N). HasOwn (journal_of log)) (λ log is. is.own) logs are.each

module _ {S : Type 0} (kind : NodeKind) (there : ℕ) (nodes : List (Node S)) (logs : List (NodeJournal (Node S))) (are : AreAnew kind there nodes logs) (numbers : HasNumbers nodes) where
  abbrev one : (k : ℕ) (log : NodeJournal (Node S)) → At logs k log → IsOneOf kind there nodes log
  one k log at = Each-at (IsOneOf kind there nodes) logs are.each k log at

  number_at : (k : ℕ) (log : NodeJournal (Node S)) (at : At logs k log) → log.opening.number ≡ (one k log at).place + 1
  number_at k log at = numbers (one k log at).place log.opening (one k log at).stands

  pub name_at : (k : ℕ) (log : NodeJournal (Node S)) → At logs k log → log.id ≡ record { kind = kind; number = log.opening.number }
  name_at k log at = (one k log at).its_name ∙ ap (named kind) (sym (number_at k log at))

  pub rise : NodesAscend logs
  rise i k a b at_a at_b less =
      let first : a.id.number ≡ a.opening.number = ap (λ (id : NodeId). id.number) (name_at i a at_a) in
      let second : b.id.number ≡ b.opening.number = ap (λ (id : NodeId). id.number) (name_at k b at_b) in
      omega (arith, first, second, are.rise i k a b at_a at_b less)

  -- the state that it began in is that of its number
  pub state_at : (all : List S) → states nodes ≡ all → (k : ℕ) (log : NodeJournal (Node S)) → At logs k log
      → numbered all log.opening.number ≡ Some log.opening.state
  state_at all are_all k log at =
      let is = one k log at in
      let here = at_map (λ (node : Node S). node.state) nodes is.place log.opening is.stands in
      at_place all is.place log.opening.number log.opening.state (number_at k log at) (subst (λ (xs : List S). At xs is.place log.opening.state) are_all here)

  -- it is one that is there before any step, or a fresh one
  pub begins_at : (all : List S) (fresh : S) (count : ℕ) → there ≡ length all → states nodes ≡ all ++ replicate count fresh
      → (k : ℕ) (log : NodeJournal (Node S)) → At logs k log → Begins all fresh log.opening log.items
  begins_at all fresh count many are_all k log at = by_case (at_append_cases all (replicate count fresh) is.place log.opening.state here)
    where
      is : IsOneOf kind there nodes log
      is = one k log at

      here : At (all ++ replicate count fresh) is.place log.opening.state
      here = subst (λ (xs : List S). At xs is.place log.opening.state) are_all (at_map (λ (node : Node S). node.state) nodes is.place log.opening is.stands)

      by_case : At all is.place log.opening.state ⊎ ((j : ℕ) × (is.place ≡ length all + j) × At (replicate count fresh) j log.opening.state) → Begins all fresh log.opening log.items
      by_case (inl there_is) = inl (at_place all is.place log.opening.number log.opening.state (number_at k log at) there_is)
      by_case (inr (j, far, fresh_is)) = inr (
        omega (arith, number_at k log at, far),
        sym (at_replicate count fresh j log.opening.state fresh_is).1,
        is.first (omega (arith, many, far)),
      )
