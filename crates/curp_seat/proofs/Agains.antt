-- Giving a node the inputs of a journal again.
use Rattle.std.proofs.Common.{◌≡◌, ℕ, List, [], ◌∷◌, refl, ap}
use Rattle.curp_msg.specs.Moved.{Moved}
use Rattle.curp_msg.specs.Input.{Input}
use Rattle.curp_journal.specs.Given.{given}
use Rattle.curp_journal.specs.Journal.{IsJournal, IsReplay, Stamped, after, made, next_stamp, replayed}
use Rattle.curp_journal.specs.declared.item.Item.{Item}
use Rattle.curp_journal.proofs.Replays.{stamped}
use Rattle.curp_seat.specs.Making.{DoesAll}

module _ {N : Type 0} (machine : N → Input → Moved N) where
  -- stamped items that a node does are those that it makes
  pub replayed_of : (node : N) (last : ℕ) (items : List Item) → Stamped last items → DoesAll machine node items → items ≡ replayed machine node last items
  replayed_of node last [] stamps all = refl
  replayed_of node last (item ∷ items) stamps all =
      let rest = replayed_of (machine node (given item.input)).state item.stamp items stamps.1 all.1 in
      let parts : item ≡ record { stamp = item.stamp; input = item.input; done = item.done } = refl in
      let head : item ≡ made machine node last item.input = cc (parts, stamps.0, all.0) in
      cc (head, rw stamps.0 at rest)

  -- and it does those that it makes
  pub does_replayed : (node : N) (last : ℕ) (items : List Item) → items ≡ replayed machine node last items → DoesAll machine node items
  does_replayed node last [] is = tt
  does_replayed node last (item ∷ items) is =
      let head : item ≡ made machine node last item.input = cc in
      let tail : items ≡ replayed machine (machine node (given item.input)).state (next_stamp last item.input) items = cc in
      (ap (λ (i : Item). i.done) head, does_replayed (machine node (given item.input)).state (next_stamp last item.input) items tail)

  -- so it does the items of a journal that it begins
  pub does_own : (opening node : N) (items listed : List Item) → items ≡ replayed machine opening 0 items → node ≡ opening → listed ≡ items → DoesAll machine node listed
  does_own opening node items listed is same listed_is = rw (listed_is, same) (does_replayed opening 0 items is)

  -- a journal of one node whose items another does is a journal of the other
  pub begun_again : (old value node ended new : N) (items listed : List Item) (last : ℕ) → IsReplay machine old items ended last
      → value ≡ node → listed ≡ items → DoesAll machine node listed → new ≡ after machine node listed → IsReplay machine value items new last
  begun_again old value node ended new items listed last is value_is listed_is all new_is = rw (value_is, new_is, listed_is) (record {
    node_is = refl;
    items_are = replayed_of node 0 items (stamped machine old 0 items is.items_are) (rw listed_is at all);
    none_refused = is.none_refused;
    last_is = is.last_is;
  })

  pub journal_again : (old node ended : N) (items listed : List Item) (last : ℕ) → IsReplay machine old items ended last
      → listed ≡ items → DoesAll machine node listed → IsJournal machine node items
  journal_again old node ended items listed last is listed_is all = record {
    node_is = refl;
    items_are = replayed_of node 0 items (stamped machine old 0 items is.items_are) (rw listed_is at all);
    none_refused = is.none_refused;
    last_is = refl;
  }
