-- Lemmas on the replay of a journal.
use Rattle.std.proofs.Common.{◌≡◌, ℕ, zero, suc, ◌+◌, ◌<◌, List, [], ◌∷◌, ◌++◌, take, refl, ap, sym, ◌∙◌, arith, ◌≤◌}
use Rattle.curp_base.specs.Words.{At}
use Rattle.curp_base.proofs.Lists.{Each-append}
use Rattle.curp_msg.specs.Moved.{Moved, done_of, within}
use Rattle.curp_msg.specs.Input.{Input}
use Rattle.curp_msg.specs.Input as input
use Rattle.curp_journal.specs.Given.{given, stamp_of}
use Rattle.curp_journal.specs.Journal.{IsJournal, IsReplay, Stamped, after, last_stamp, made, next_stamp, replayed}
use Rattle.curp_journal.specs.declared.arrived.Arrived.{Arrived}
use Rattle.curp_journal.specs.declared.arrived.Arrived.TheVariants as arrived
use Rattle.curp_journal.specs.declared.item.Item.{Item}

-- ---- one item more

pub last_stamp-snoc : (last : ℕ) (items : List Item) (item : Item) → last_stamp last (items ++ item ∷ []) ≡ item.stamp
last_stamp-snoc last [] item = refl
last_stamp-snoc last (first ∷ items) item = last_stamp-snoc first.stamp items item

module _ {N : Type 0} (machine : N → Input → Moved N) where
  pub after-snoc : (node : N) (items : List Item) (item : Item) → after machine node (items ++ item ∷ []) ≡ (machine (after machine node items) (given item.input)).state
  after-snoc node [] item = refl
  after-snoc node (first ∷ items) item = after-snoc (machine node (given first.input)).state items item

  pub replayed-snoc : (node : N) (last : ℕ) (items : List Item) (item : Item)
      → replayed machine node last (items ++ item ∷ []) ≡ replayed machine node last items ++ made machine (after machine node items) (last_stamp last (replayed machine node last items)) item.input ∷ []
  replayed-snoc node last [] item = refl
  replayed-snoc node last (first ∷ items) item =
      ap (λ xs. made machine node last first.input ∷ xs) (replayed-snoc (machine node (given first.input)).state (next_stamp last first.input) items item)

  -- one more item, made of its input
  pub one_more : (opening : N) (items : List Item) (node : N) (last : ℕ) (arrived : Arrived) → IsReplay machine opening items node last → (machine node (given arrived)).refused ≡ 0
      → IsReplay machine opening (items ++ made machine node last arrived ∷ []) (machine node (given arrived)).state (next_stamp last arrived)
  one_more opening items node last arrived is taken = record {
    node_is = sym (after-snoc opening items (made machine node last arrived) ∙ ap (λ n. (machine n (given arrived)).state) (sym is.node_is));
    items_are = sym (replayed-snoc opening 0 items (made machine node last arrived) ∙ cc (is.node_is, is.items_are, is.last_is));
    none_refused = Each-append (λ (i : Item). i.done.refused ≡ 0) items (made machine node last arrived ∷ []) is.none_refused (taken, tt);
    last_is = sym (last_stamp-snoc 0 items (made machine node last arrived));
  }

  -- the same by equations, as code gives them
  pub keeps : (opening : N) (items : List Item) (node : N) (last : ℕ) (arrived : Arrived) (item : Item) (next : N) (more : List Item)
      → IsReplay machine opening items node last
      → item ≡ made machine node last arrived → next ≡ (machine node (given arrived)).state → (machine node (given arrived)).refused ≡ 0 → more ≡ items ++ item ∷ []
      → IsReplay machine opening more next item.stamp
  keeps opening items node last arrived item next more is item_is next_is taken more_is =
      rw (more_is, next_is, item_is) (one_more opening items node last arrived is taken)

  -- ---- the items one by one

  pub stamped : (node : N) (last : ℕ) (items : List Item) → items ≡ replayed machine node last items → Stamped last items
  stamped node last [] is = tt
  stamped node last (item ∷ items) is =
      let head : item ≡ made machine node last item.input = cc in
      let tail : items ≡ replayed machine (machine node (given item.input)).state (next_stamp last item.input) items = cc in
      let e : item.stamp ≡ next_stamp last item.input = ap (λ (i : Item). i.stamp) head in
      (e, stamped (machine node (given item.input)).state item.stamp items (rw e tail))

  -- what an item did is the machine's answer to its input, in the state that the items before it lead to
  pub done_at : (node : N) (last : ℕ) (items : List Item) (t : ℕ) (item : Item) → items ≡ replayed machine node last items → At items t item
      → item.done ≡ done_of (machine (after machine node (take t items)) (given item.input))
  done_at node last [] t item is at = absurd cc
  done_at node last (first ∷ items) zero item is at =
      let head : first ≡ made machine node last first.input = cc in
      let same : first ≡ item = cc in
      rw (sym same) (ap (λ (i : Item). i.done) head)
  done_at node last (first ∷ items) (suc t) item is at =
      let tail : items ≡ replayed machine (machine node (given first.input)).state (next_stamp last first.input) items = cc in
      done_at (machine node (given first.input)).state (next_stamp last first.input) items t item tail at

-- ---- stamps rise

-- what came to a node has a lesser stamp than its item, and so has what the node did before
pub stamp_above : (last : ℕ) (items : List Item) (t : ℕ) (item : Item) → Stamped last items → At items t item → (stamp_of item.input < item.stamp) × (last < item.stamp)
stamp_above last [] t item is at = absurd cc
stamp_above last (first ∷ items) zero item is at =
    let same : first ≡ item = cc in
    rw (sym same) (omega (arith, is.0), omega (arith, is.0))
stamp_above last (first ∷ items) (suc t) item is at = let r = stamp_above first.stamp items t item is.1 at in (r.0, omega (arith, is.0, r.1))

-- a later item has a greater stamp
pub rising : (last : ℕ) (items : List Item) (t u : ℕ) (a b : Item) → Stamped last items → At items t a → At items u b → t < u → a.stamp < b.stamp
rising last [] t u a b is at bt below = absurd cc
rising last (first ∷ items) t zero a b is at bt below = absurd (omega arith)
rising last (first ∷ items) zero (suc u) a b is at bt below =
    let same : first ≡ a = cc in
    rw (sym same) (stamp_above first.stamp items u b is.1 bt).1
rising last (first ∷ items) (suc t) (suc u) a b is at bt below = rising first.stamp items t u a b is.1 at bt (omega arith)

-- no stamp is above the last
pub last_above : (last : ℕ) (items : List Item) (t : ℕ) (item : Item) → Stamped last items → At items t item → item.stamp ≤ last_stamp last items
last_above last items t item is at = at_most last items t item is at
  where
    from : (last : ℕ) (items : List Item) → Stamped last items → last ≤ last_stamp last items
    from last [] is = omega arith
    from last (first ∷ items) is = let r = from first.stamp items is.1 in omega (arith, is.0, r)

    at_most : (last : ℕ) (items : List Item) (t : ℕ) (item : Item) → Stamped last items → At items t item → item.stamp ≤ last_stamp last items
    at_most last [] t item is at = absurd cc
    at_most last (first ∷ items) zero item is at = let same : first ≡ item = cc in rw (sym same) (from first.stamp items is.1)
    at_most last (first ∷ items) (suc t) item is at = at_most first.stamp items t item is.1 at

-- ---- the same journal of a node that has the state inside its own

module _ {S N : Type 0} (wrap : S → N) (inner : S → Input → Moved S) (outer : N → Input → Moved N) (is : (s : S) (i : Input) → outer (wrap s) i ≡ within wrap (inner s i)) where
  pub replayed-within : (s : S) (last : ℕ) (items : List Item) → replayed outer (wrap s) last items ≡ replayed inner s last items
  replayed-within s last [] = refl
  replayed-within s last (item ∷ items) =
      rw (is s (given item.input)) (ap (λ xs. made inner s last item.input ∷ xs) (replayed-within (inner s (given item.input)).state (next_stamp last item.input) items))

  pub journal-within : (s : S) (items : List Item) → IsJournal inner s items → IsJournal outer (wrap s) items
  journal-within s items j = record {
    node_is = refl;
    items_are = j.items_are ∙ sym (replayed-within s 0 items);
    none_refused = j.none_refused;
    last_is = refl;
  }
