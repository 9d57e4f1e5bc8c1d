-- What is answered as a master settles.
use Rattle.std.proofs.Common.{◌≡◌, ℕ, ◌==◌, if◌then◌else◌, Bool, true, false, List, ◌++◌, map, flat_map, filter, None, not, nat_lt, refl, ap, sym, ◌∙◌, append_assoc, subst, Option, Some}
use Rattle.std.proofs.lemmas.Bool.{eqb-true, eq-eqb}
use Rattle.curp_msg.specs.declared.message.Message.{Message}
use Rattle.curp_model.specs.Master.{Captured, MasterState, Phase, Open, Switching, Switch, adopted_in, all_have, between, unless_it_ends, moved_entry, settle, synced, synced_replies, value_of}
use Rattle.curp_msg.specs.Moved.{Moved, Makes, Node}
use Rattle.curp_master.specs.Settling.{listing}
use Rattle.curp_master.specs.Switching.{IsSettledNext, next_lists, taken_up, taken_up_in}
use Rattle.curp_master.specs.declared.switching.Settled.{Settled}
use Rattle.curp_master.specs.Built.{move_of}
use Rattle.curp_master.proofs.Ends.{lasts}

-- what waits on as the master settles
pub released : (n : ℕ) (m : MasterState) (next : ℕ) (held : List ℕ) (captures : List Captured)
    → next ≡ synced m → held ≡ filter (λ index. not (nat_lt index next)) m.held
    → captures ≡ filter (λ (c : Captured). not (all_have m.acknowledged m.backups c.length c.round)) m.captures
    → record m { held = held; captures = captures; settled = next } ≡ (settle n m).state
unfolding settle
released n m next held captures its its_held its_captures =
    let waiting : held ≡ filter (λ index. not (nat_lt index (synced m))) m.held = its_held ∙ ap (λ k. filter (λ index. not (nat_lt index k)) m.held) its in
    λ i. record m { held = waiting i; captures = its_captures i; settled = its i }

-- what is said then
pub said : (n : ℕ) (m : MasterState) (next : ℕ) (replies values moved : List Message)
    → next ≡ synced m → replies ≡ synced_replies n m (filter (λ index. nat_lt index next) m.held)
    → values ≡ replies ++ map (value_of n m) (filter (λ (c : Captured). all_have m.acknowledged m.backups c.length c.round) m.captures)
    → moved ≡ values ++ flat_map (moved_entry n) (between m.settled next m.log)
    → moved ≡ (settle n m).messages
unfolding settle
said n m next replies values moved its its_replies its_values its_moved =
    rw (its_moved, its_values, its_replies, its, append_assoc) refl

-- it is the move of the definition, by which no number ends
pub settled_moves : (node new : Node MasterState) (m : MasterState) (sent : List Message)
    → m.round ≡ node.state.round → m.captured ≡ node.state.captured
    → new.number ≡ node.number → new.state ≡ (settle node.number m).state → sent ≡ (settle node.number m).messages
    → Makes new (record { refused = 0; sent = sent; invoked = None; completed = None }) (move_of node (settle node.number m))
unfolding settle
settled_moves node new m sent round captured its_number its_state its_sent =
    let stays : unless_it_ends node.state (settle node.number m) ≡ settle node.number m = lasts node.state (settle node.number m) round captured in
    rw stays ((λ i. record { number = its_number i; state = its_state i }), (λ i. record { refused = 0; sent = its_sent i; invoked = None; completed = None }))

-- ---- taking up new lists

pub next_is : (version : ℕ) (p : Phase) (s : Switch) → next_lists version p ≡ Some s → (p ≡ Switching s) × (s.version ≡ version)
next_is version Open s none = absurd cc
next_is version (Switching t) s its = go (t.version == version) refl its
  where
    go : (b : Bool) → (t.version == version) ≡ b → (if b then Some t else None) ≡ Some s → (Switching t ≡ Switching s) × (s.version ≡ version)
    go true same its =
        let is : t ≡ s = cc its in
        (ap Switching is, sym (ap (λ (x : Switch). x.version) is) ∙ eqb-true t.version version same)
    go false same its = absurd cc

-- what is said by the next lists
pub settled_next_is : (m : Node MasterState) (version : ℕ) (o : Option Switch) (next : Settled) → IsSettledNext m version o (Some next)
    → (s : Switch) × (o ≡ Some s) × (next.sent.items ≡ (settle m.number (listing m.state m.state.acknowledged s.backups version)).messages)
settled_next_is m version None next is = absurd is
settled_next_is m version (Some s) next is = (s, refl, is.1)

said_alike : (n : ℕ) (m : MasterState) (s : Switch) (version : ℕ) → s.version ≡ version
    → (settle n (listing m m.acknowledged s.backups version)).messages ≡ (settle n (taken_up_in m (Switching s))).messages
unfolding settle
said_alike n m s version its = rw (← its) refl

taken_if : (n : ℕ) (m : MasterState) (s : Switch) (version : ℕ) → (s.version == version) ≡ true → adopted_in n m version (Switching s) ≡ settle n (taken_up_in m (Switching s))
taken_if n m s version same = rw same refl

-- what is adopted is the move of the definition
pub adopted_moves : (node new : Node MasterState) (version : ℕ) (next : Settled)
    → IsSettledNext node version (next_lists version node.state.phase) (Some next)
    → new.number ≡ node.number → new.state ≡ (settle node.number (taken_up node.state)).state
    → Makes new (record { refused = 0; sent = next.sent.items; invoked = None; completed = None }) (move_of node (adopted_in node.number node.state version node.state.phase))
adopted_moves node new version next is its_number its_state =
    let found = settled_next_is node version (next_lists version node.state.phase) next is in
    let s : Switch = found.0 in
    let there = next_is version node.state.phase s found.1 in
    let m : MasterState = node.state in
    let phase : m.phase ≡ Switching s = there.0 in
    let same : (s.version == version) ≡ true = eq-eqb s.version version there.1 in
    let state : new.state ≡ (settle node.number (taken_up_in m (Switching s))).state = its_state ∙ ap (λ (p : Phase). (settle node.number (taken_up_in m p)).state) phase in
    let sent : next.sent.items ≡ (settle node.number (taken_up_in m (Switching s))).messages = found.2 ∙ said_alike node.number m s version there.1 in
    let moves = settled_moves node new (taken_up_in m (Switching s)) next.sent.items refl refl its_number state sent in
    let is : adopted_in node.number m version m.phase ≡ settle node.number (taken_up_in m (Switching s)) =
    ap (adopted_in node.number m version) phase ∙ taken_if node.number m s version same
    in
    subst (λ (r : Moved MasterState). Makes new (record { refused = 0; sent = next.sent.items; invoked = None; completed = None }) (move_of node r)) (sym is) moves
