-- An outbox as steps are made and envelopes are taken.
use Rattle.std.proofs.Common.{◌≡◌, ◌≤◌, ◌⊎◌, ⊎_elim, Option, Some, None, is_some, ℕ, zero, suc, ◌+◌, Bool, true, false, true≢false, List, [], ◌∷◌, ◌++◌, map, length, take, refl, ap, sym, ◌∙◌, subst, arith, append_assoc, append-nil, length-append}
use Rattle.std.proofs.lemmas.List.{map-append, take-append-le, take_all}
use Rattle.std.specs.Prelude.{option_to_list}
use Rattle.curp_cmd.specs.declared.command.RequestId.{RequestId}
use Rattle.curp_seat.specs.declared.took.Took.{Took}
use Rattle.curp_desk.specs.declared.listener.MadeStep.{MadeStep}
use Rattle.curp_cmd.specs.declared.node.NodeId.{NodeId}
use Rattle.curp_journal.specs.Journal.{NodeJournal, last_stamp}
use Rattle.curp_journal.specs.Sending.{named_of}
use Rattle.curp_journal.specs.declared.arrived.Named.{Named}
use Rattle.curp_journal.specs.declared.item.Item.{Item}
use Rattle.curp_desk.specs.Outbox.{IsOutbox, OnDesk, all_sent, counted, out_of}
use Rattle.curp_desk.specs.declared.inside.Out.{Out}

-- what an item more sent
abbrev pub last_sent : NodeId → List Item → Item → List Named
last_sent from items item = named_of from (length items + 1) item.stamp 1 item.done.sent

-- a journal with an item more
abbrev pub with_last : {N : Type 0} → NodeJournal N → Item → NodeJournal N
with_last log item = record log { items = log.items ++ item ∷ [] }

-- what lies on a desk, whose number and end don't matter here
abbrev pub desk_of : {N : Type 0} → NodeJournal N → ℕ → ℕ → ℕ → List Out → Bool → Bool → OnDesk N
desk_of log number begun handed outs ended short =
    record { log = log; number = number; begun = begun; handed = handed; outs = outs; ended = ended; short = short }

sent_more : (from : NodeId) (step : ℕ) (items : List Item) (item : Item)
    → all_sent from step (items ++ item ∷ []) ≡ all_sent from step items ++ named_of from (step + length items) item.stamp 1 item.done.sent
sent_more from step [] item = append-nil (named_of from step item.stamp 1 item.done.sent) ∙ ap (λ (s : ℕ). named_of from s item.stamp 1 item.done.sent) (let e : step ≡ step + zero = omega arith in e)
sent_more from step (y ∷ items) item =
    let first : List Named = named_of from step y.stamp 1 y.done.sent in
    ap (λ l. first ++ l) (sent_more from (step + 1) items item)
    ∙ sym (append_assoc first (all_sent from (step + 1) items) (named_of from (step + 1 + length items) item.stamp 1 item.done.sent))
    ∙ ap (λ (s : ℕ). (first ++ all_sent from (step + 1) items) ++ named_of from s item.stamp 1 item.done.sent) (let e : step + 1 + length items ≡ step + suc (length items) = omega arith in e)

sent_last : (from : NodeId) (items : List Item) (item : Item) → all_sent from 1 (items ++ item ∷ []) ≡ all_sent from 1 items ++ last_sent from items item
sent_last from items item = sent_more from 1 items item ∙ ap (λ (s : ℕ). all_sent from 1 items ++ named_of from s item.stamp 1 item.done.sent) (let e : 1 + length items ≡ length items + 1 = omega arith in e)

pub stamp_of_last : (last : ℕ) (items : List Item) (item : Item) → last_stamp last (items ++ item ∷ []) ≡ item.stamp
stamp_of_last last [] item = refl
stamp_of_last last (y ∷ items) item = stamp_of_last y.stamp items item

-- one more is counted
counted_more : (n : ℕ) → counted (counted n + 1) ≡ counted (n + 1)
counted_more n = omega arith

-- the items that a journal began with are among those of a longer one
begun_stay : (begun : ℕ) (items : List Item) (item : Item) → begun ≤ length items → take begun (items ++ item ∷ []) ≡ take begun items
begun_stay begun items item within = take-append-le begun items (item ∷ []) within

-- nothing is put out yet, and nothing was handed out
pub begins : {N : Type 0} (log : NodeJournal N) (number : ℕ) → IsOutbox (desk_of log number (length log.items) 0 [] false false)
begins log number = record {
  taken = [];
  due = [];
  lost = [];
  within = omega arith;
  handed_are = refl;
  outs_are = refl;
  sent_are = append-nil (all_sent log.id 1 (take (length log.items) log.items)) ∙ ap (all_sent log.id 1) (take_all (length log.items) log.items (omega arith));
  none_lost = λ e. refl;
}

-- what a step more sent stands behind all that was sent
sent_behind : (id : NodeId) (begun : ℕ) (items : List Item) (item : Item) (taken rest : List Named) → begun ≤ length items
    → all_sent id 1 (take begun items) ++ (taken ++ rest) ≡ all_sent id 1 items
    → all_sent id 1 (take begun (items ++ item ∷ [])) ++ (taken ++ (rest ++ last_sent id items item)) ≡ all_sent id 1 (items ++ item ∷ [])
sent_behind id begun items item taken rest within are =
    let new : List Named = last_sent id items item in
    let first : List Named = all_sent id 1 (take begun items) in
    ap (λ (x : List Item). all_sent id 1 x ++ (taken ++ (rest ++ new))) (begun_stay begun items item within)
    ∙ ap (λ (l : List Named). first ++ l) (sym (append_assoc taken rest new))
    ∙ sym (append_assoc first (taken ++ rest) new)
    ∙ ap (λ (l : List Named). l ++ new) are
    ∙ sym (sent_last id items item)

longer : (begun : ℕ) (items : List Item) (item : Item) → begun ≤ length items → begun ≤ length (items ++ item ∷ [])
longer begun items item within = omega (arith, length-append items (item ∷ []))

-- what a step sent is put out
pub puts : {N : Type 0} (log : NodeJournal N) (number begun handed : ℕ) (outs more : List Out) (ended : Bool) (item : Item)
    → IsOutbox (desk_of log number begun handed outs ended false)
    → more ≡ outs ++ map (out_of number) (last_sent log.id log.items item)
    → IsOutbox (desk_of (with_last log item) number begun handed more ended false)
puts log number begun handed outs more ended item was put =
    let new : List Named = last_sent log.id log.items item in
    let none : was.due ++ was.lost ≡ was.due = ap (λ (l : List Named). was.due ++ l) (was.none_lost refl) ∙ append-nil was.due in
    let are : all_sent log.id 1 (take begun log.items) ++ (was.taken ++ was.due) ≡ all_sent log.id 1 log.items =
    ap (λ (l : List Named). all_sent log.id 1 (take begun log.items) ++ (was.taken ++ l)) (sym none) ∙ was.sent_are in
    record {
      taken = was.taken;
      due = was.due ++ new;
      lost = [];
      within = longer begun log.items item was.within;
      handed_are = was.handed_are;
      outs_are = put ∙ ap (λ l. l ++ map (out_of number) new) was.outs_are ∙ sym (map-append (out_of number) was.due new);
      sent_are = ap (λ (l : List Named). all_sent log.id 1 (take begun (log.items ++ item ∷ [])) ++ (was.taken ++ l)) (append-nil (was.due ++ new))
          ∙ sent_behind log.id begun log.items item was.taken was.due was.within are;
      none_lost = λ e. refl;
    }

-- there was no memory for what a step sent
pub loses : {N : Type 0} (log : NodeJournal N) (number begun handed : ℕ) (outs : List Out) (ended : Bool) (item : Item)
    → IsOutbox (desk_of log number begun handed outs ended false)
    → IsOutbox (desk_of (with_last log item) number begun handed outs ended true)
loses log number begun handed outs ended item was =
    let new : List Named = last_sent log.id log.items item in
    let none : was.due ++ was.lost ≡ was.due = ap (λ (l : List Named). was.due ++ l) (was.none_lost refl) ∙ append-nil was.due in
    let are : all_sent log.id 1 (take begun log.items) ++ (was.taken ++ was.due) ≡ all_sent log.id 1 log.items =
    ap (λ (l : List Named). all_sent log.id 1 (take begun log.items) ++ (was.taken ++ l)) (sym none) ∙ was.sent_are in
    record {
      taken = was.taken;
      due = was.due;
      lost = new;
      within = longer begun log.items item was.within;
      handed_are = was.handed_are;
      outs_are = was.outs_are;
      sent_are = sent_behind log.id begun log.items item was.taken was.due was.within are;
      none_lost = λ e. absurd (true≢false e);
    }

-- there was no memory for a step
stays : {N : Type 0} (log : NodeJournal N) (number begun handed : ℕ) (outs : List Out) (ended : Bool)
    → IsOutbox (desk_of log number begun handed outs ended false)
    → IsOutbox (desk_of log number begun handed outs ended true)
stays log number begun handed outs ended was = record {
  taken = was.taken;
  due = was.due;
  lost = was.lost;
  within = was.within;
  handed_are = was.handed_are;
  outs_are = was.outs_are;
  sent_are = was.sent_are;
  none_lost = λ e. absurd (true≢false e);
}

-- there was none for the one or the other
pub fails : {N : Type 0} (log new : NodeJournal N) (number begun handed : ℕ) (outs : List Out) (ended : Bool) (item : Item)
    → IsOutbox (desk_of log number begun handed outs ended false)
    → (new ≡ log) ⊎ (new ≡ with_last log item)
    → IsOutbox (desk_of new number begun handed outs ended true)
fails log new number begun handed outs ended item was either =
    ⊎_elim (λ (e : new ≡ log). subst (λ l. IsOutbox (desk_of l number begun handed outs ended true)) (sym e) (stays log number begun handed outs ended was))
    (λ (e : new ≡ with_last log item). subst (λ l. IsOutbox (desk_of l number begun handed outs ended true)) (sym e) (loses log number begun handed outs ended item was)) either

-- the first is handed to the courier
takes : {N : Type 0} (log : NodeJournal N) (number begun handed : ℕ) (out : Out) (outs : List Out) (ended short : Bool)
    → IsOutbox (desk_of log number begun handed (out ∷ outs) ended short)
    → IsOutbox (desk_of log number begun (counted (handed + 1)) outs ended short)
takes log number begun handed out outs ended short was = go was.due was.outs_are was.sent_are
  where
    first : List Named
    first = all_sent log.id 1 (take begun log.items)

    go : (due : List Named) → out ∷ outs ≡ map (out_of number) due → first ++ (was.taken ++ (due ++ was.lost)) ≡ all_sent log.id 1 log.items
        → IsOutbox (desk_of log number begun (counted (handed + 1)) outs ended short)
    go [] e f = absurd cc
    go (d ∷ due) e f = record {
      taken = was.taken ++ d ∷ [];
      due = due;
      lost = was.lost;
      within = was.within;
      handed_are =
          ap (λ (n : ℕ). counted (n + 1)) was.handed_are ∙ counted_more (length was.taken)
          ∙ ap counted (sym (length-append was.taken (d ∷ [])));
      outs_are = cc;
      sent_are = ap (λ (l : List Named). first ++ l) (append_assoc was.taken (d ∷ []) (due ++ was.lost)) ∙ f;
      none_lost = was.none_lost;
    }

-- one is handed to the courier, and counted
pub hands : {N : Type 0} (log : NodeJournal N) (number begun handed one_more : ℕ) (popped : Option Out) (old new : List Out) (ended short : Bool)
    → IsOutbox (desk_of log number begun handed old ended short) → is_some popped ≡ true → old ≡ option_to_list popped ++ new
    → one_more ≡ counted (handed + 1) → IsOutbox (desk_of log number begun one_more new ended short)
hands log number begun handed one_more None old new ended short was some e count = absurd cc
hands log number begun handed one_more (Some out) old new ended short was some e count =
    subst (λ (n : ℕ). IsOutbox (desk_of log number begun n new ended short)) (sym count)
    (takes log number begun handed out new ended short (subst (λ l. IsOutbox (desk_of log number begun handed l ended short)) e was))

-- what is heard of a step, of these parts
abbrev pub step_of : Took → Option RequestId → ℕ → MadeStep
step_of took completed stamp = record { took = took; completed = completed; stamp = stamp }

pub step_is : (took same : Took) (completed is : Option RequestId) (stamp last : ℕ) → took ≡ same → completed ≡ is → stamp ≡ last
    → step_of took completed stamp ≡ step_of same is last
step_is took same completed is stamp last a b c = λ i. step_of (a i) (b i) (c i)

-- the node has ended
pub ends : {N : Type 0} (log : NodeJournal N) (number begun handed : ℕ) (outs : List Out) (ended end short : Bool)
    → IsOutbox (desk_of log number begun handed outs ended short)
    → IsOutbox (desk_of log number begun handed outs end short)
ends log number begun handed outs ended end short was = record {
  taken = was.taken;
  due = was.due;
  lost = was.lost;
  within = was.within;
  handed_are = was.handed_are;
  outs_are = was.outs_are;
  sent_are = was.sent_are;
  none_lost = was.none_lost;
}
