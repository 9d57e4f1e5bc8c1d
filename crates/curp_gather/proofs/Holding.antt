-- Where what each node took is the prefix of what was sent to it, each message that came is held by its sender's journal.
use Rattle.std.proofs.Common.{◌≡◌, ℕ, zero, suc, ◌+◌, Bool, true, false, cond, List, [], ◌∷◌, ◌++◌, Some, Option, find, length, refl, ap, sym, ◌∙◌, subst, inl, inr, ⊎_elim, arith, slice_get}
use Rattle.std.specs.Prelude.{filter, option_and_then}
use Rattle.curp_base.specs.Words.{At, IsPrefix, numbered}
use Rattle.curp_base.proofs.Lists.{at_append, at_append_cases, at_append_right, at_within}
use Rattle.curp_cmd.specs.Node.{same_node}
use Rattle.curp_cmd.specs.declared.node.NodeId.{NodeId}
use Rattle.curp_cmd.proofs.Nodes.{same_node-self, same_node-true}
use Rattle.curp_msg.specs.declared.message.Message.{Message}
use Rattle.curp_journal.specs.Sending.{named_of}
use Rattle.curp_journal.specs.declared.arrived.Arrived.{Arrived}
use Rattle.curp_journal.specs.declared.arrived.Arrived.TheVariants as arrived
use Rattle.curp_journal.specs.declared.arrived.Named.{Named}
use Rattle.curp_journal.specs.declared.item.Item.{Item}
use Rattle.curp_journal.specs.Turns.{AreApart, IsKnown, Journal}
use Rattle.curp_merge.specs.Held.{AllHeld, IsHeld, held_by, journal_of, kept_at}
use Rattle.curp_gather.specs.Ruled.{AllKnown, ArePrefixes, AreRuled, came_from, sent_to, taken_of, to_node}

-- what passed a test stands in the list
at_filtered : {A : Type 0} (p : A → Bool) (xs : List A) (k : ℕ) (x : A) → At (filter p xs) k x → (j : ℕ) × At xs j x
at_filtered p [] k x h = absurd cc
at_filtered p (y ∷ xs) k x h = go (λ k. at_filtered p xs k x) (p y) k h
  where
    go : ((k : ℕ) → At (filter p xs) k x → (j : ℕ) × At xs j x) → (b : Bool) (k : ℕ) → At (cond b (y ∷ filter p xs) (filter p xs)) k x → (j : ℕ) × At (y ∷ xs) j x
    go more true zero g = (zero, g)
    go more true (suc k) g = let r = more k g in (suc r.0, r.1)
    go more false k g = let r = more k g in (suc r.0, r.1)

-- the name of a message that an item sent
record IsNameIn (from : NodeId) (step stamp place : ℕ) (messages : List Message) (n : Named) : Type 0 where
  at_place : ℕ
  stands : At messages at_place n.message
  its_from : n.from ≡ from
  its_step : n.step ≡ step
  its_stamp : n.stamp ≡ stamp
  its_place : n.place ≡ place + at_place

named_at : (from : NodeId) (step stamp place : ℕ) (messages : List Message) (k : ℕ) (n : Named) → At (named_of from step stamp place messages) k n → IsNameIn from step stamp place messages n
named_at from step stamp place [] k n h = absurd cc
named_at from step stamp place (m ∷ more) zero n h =
    let e : record { from = from; step = step; place = place; stamp = stamp; message = m } ≡ n = cc in
    record {
      at_place = zero;
      stands = ap (λ (x : Named). Some x.message) e;
      its_from = sym (ap (λ (x : Named). x.from) e);
      its_step = sym (ap (λ (x : Named). x.step) e);
      its_stamp = sym (ap (λ (x : Named). x.stamp) e);
      its_place = sym (ap (λ (x : Named). x.place) e) ∙ omega arith;
    }
named_at from step stamp place (m ∷ more) (suc k) n h =
    let r = named_at from step stamp (place + 1) more k n h in
    record {
      at_place = suc r.at_place;
      stands = r.stands;
      its_from = r.its_from;
      its_step = r.its_step;
      its_stamp = r.its_stamp;
      its_place = r.its_place ∙ omega arith;
    }

-- the item that sent it
record IsSentBy (from : NodeId) (step : ℕ) (items : List Item) (n : Named) : Type 0 where
  t : ℕ
  item : Item
  its_item : At items t item
  name : IsNameIn from (step + t) item.stamp 1 item.done.sent n

sent_at : (node from : NodeId) (step : ℕ) (items : List Item) (k : ℕ) (n : Named) → At (sent_to node from step items) k n → IsSentBy from step items n
sent_at node from step [] k n h = absurd cc
sent_at node from step (item ∷ items) k n h = ⊎_elim here (λ g. there g (sent_at node from (step + 1) items g.0 n g.2)) (at_append_cases (to_node node (named_of from step item.stamp 1 item.done.sent)) (sent_to node from (step + 1) items) k n h)
  where
    here : At (to_node node (named_of from step item.stamp 1 item.done.sent)) k n → IsSentBy from step (item ∷ items) n
    here g =
        let r = at_filtered (λ (x : Named). same_node x.message.to node) (named_of from step item.stamp 1 item.done.sent) k n g in
        let name = named_at from step item.stamp 1 item.done.sent r.0 n r.1 in
        record { t = zero; item = item; its_item = refl; name = subst (λ (s : ℕ). IsNameIn from s item.stamp 1 item.done.sent n) (let e : step ≡ step + 0 = omega arith in e) name }

    there : (j : ℕ) × (k ≡ length (to_node node (named_of from step item.stamp 1 item.done.sent)) + j) × At (sent_to node from (step + 1) items) j n → IsSentBy from (step + 1) items n → IsSentBy from step (item ∷ items) n
    there g r =
        record { t = suc r.t; item = r.item; its_item = r.its_item; name = subst (λ (s : ℕ). IsNameIn from s r.item.stamp 1 r.item.done.sent n) (let e : step + 1 + r.t ≡ step + suc r.t = omega arith in e) r.name }

-- a message that came stands among those that were taken of its sender
taken_at : (node : NodeId) (items : List Item) (t : ℕ) (item : Item) (n : Named) → At items t item → item.input ≡ arrived.Message n → n.from ≡ node → (k : ℕ) × At (taken_of node items) k n
taken_at node [] t item n h came from = absurd cc
taken_at node (y ∷ items) zero item n h came from =
    let same : y ≡ item = cc in
    let its : y.input ≡ arrived.Message n = ap (λ (x : Item). x.input) same ∙ came in
    let passes : same_node n.from node ≡ true = subst (λ (x : NodeId). same_node n.from x ≡ true) from (same_node-self n.from) in
    let first : came_from node y.input ≡ n ∷ [] = ap (came_from node) its ∙ ap (λ (b : Bool). cond b (n ∷ []) []) passes in
    (zero, subst (λ (l : List Named). At (l ++ taken_of node items) zero n) (sym first) refl)
taken_at node (y ∷ items) (suc t) item n h came from =
    let r = taken_at node items t item n h came from in
    (length (came_from node y.input) + r.0, at_append_right (came_from node y.input) (taken_of node items) r.0 (length (came_from node y.input) + r.0) n refl r.1)

at_prefix : (xs ys : List Named) (k : ℕ) (n : Named) → IsPrefix xs ys → At xs k n → At ys k n
at_prefix xs ys k n prefix h = subst (λ (l : List Named). At l k n) prefix.is (at_append xs prefix.rest k n h)

-- the one journal of a node is the one that is found
found_at : (node : NodeId) (journals : List Journal) (k : ℕ) (other : Journal) → ((i : ℕ) (a : Journal) → At journals i a → a.id ≡ node → i ≡ k) → At journals k other → other.id ≡ node → journal_of journals node ≡ Some other
found_at node [] k other only h is = absurd cc
found_at node (j ∷ journals) zero other only h is =
    let same : j ≡ other = cc in
    let passes : same_node j.id node ≡ true = subst (λ (x : NodeId). same_node j.id x ≡ true) (ap (λ (x : Journal). x.id) same ∙ is) (same_node-self j.id) in
    ap (λ (b : Bool). cond b (Some j) (find (λ (x : Journal). same_node x.id node) journals)) passes ∙ ap Some same
found_at node (j ∷ journals) (suc k) other only h is = go (found_at node journals k other (λ i a at its. let z : suc i ≡ suc k = only (suc i) a at its in omega arith) h is) (same_node j.id node) refl
  where
    go : journal_of journals node ≡ Some other → (b : Bool) → same_node j.id node ≡ b → cond (same_node j.id node) (Some j) (find (λ (x : Journal). same_node x.id node) journals) ≡ Some other
    go more true e = absurd (let z : 0 ≡ suc k = only 0 j refl (same_node-true j.id node e) in omega arith)
    go more false e = ap (λ (b : Bool). cond b (Some j) (find (λ (x : Journal). same_node x.id node) journals)) e ∙ more

record Known (journals : List Journal) (items : List Item) : Type 0 where
  of : (t : ℕ) (item : Item) (named : Named) → At items t item → item.input ≡ arrived.Message named → IsKnown journals named.from

opened : (journals : List Journal) (items : List Item) → AllKnown journals items → Known journals items
unfolding AllKnown
opened journals items known = record { of = known }

prefix_of : (journals : List Journal) (node : NodeId) (items : List Item) (k : ℕ) (other : Journal) → ArePrefixes journals node items → At journals k other
    → IsPrefix (taken_of other.id items) (sent_to node other.id 1 other.items)
unfolding ArePrefixes
prefix_of journals node items k other prefixes at = prefixes k other at

pub all_held : (journals : List Journal) → AreApart journals → AreRuled journals → AllHeld journals
all_held journals apart ruled k one t item at its = held item.input refl
  where
    held : (a : Arrived) → item.input ≡ a → IsHeld journals a
    held (arrived.Local order stamp) came = tt
    held (arrived.Message n) came =
        let sender = (opened journals one.items (ruled.known k one at)).of t item n its came in
        let other : Journal = sender.journal in
        let q = taken_at other.id one.items t item n its came (sym sender.its_name) in
        let prefix = prefix_of journals one.id one.items sender.place other (ruled.prefixes k one at) sender.stands in
        let s = sent_at one.id other.id 1 other.items q.0 n (at_prefix (taken_of other.id one.items) (sent_to one.id other.id 1 other.items) q.0 n prefix q.1) in
        let found : journal_of journals n.from ≡ Some other = found_at n.from journals sender.place other (λ i a ai same. apart i sender.place a other ai sender.stands (same ∙ sym sender.its_name)) sender.stands sender.its_name in
        let step : n.step ≡ suc s.t = s.name.its_step ∙ omega arith in
        let place : n.place ≡ suc s.name.at_place = s.name.its_place ∙ omega arith in
        let its_item : numbered other.items n.step ≡ Some s.item = ap (numbered other.items) step ∙ s.its_item in
        let its_message : numbered s.item.done.sent n.place ≡ Some n.message = ap (numbered s.item.done.sent) place ∙ s.name.stands in
        ap (option_and_then (λ (j : Journal). option_and_then (held_by n.from n.step n.place) (numbered j.items n.step))) found
        ∙ ap (option_and_then (held_by n.from n.step n.place)) its_item
        ∙ ap (option_and_then (λ (m : Message). Some (record { from = n.from; step = n.step; place = n.place; stamp = s.item.stamp; message = m }))) its_message
        ∙ ap (λ (x : ℕ). Some (record { from = n.from; step = n.step; place = n.place; stamp = x; message = n.message })) (sym s.name.its_stamp)
