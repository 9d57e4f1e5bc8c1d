-- What is taken and sent, item by item.
use Rattle.std.proofs.Common.{◌≡◌, ℕ, zero, suc, ◌+◌, List, [], ◌∷◌, ◌++◌, length, take, refl, ap, sym, ◌∙◌, subst, arith, append_assoc, append-nil, length-append, IsTrue, ◌↔◌, Bool}
use Rattle.std.specs.Prelude.{filter}
use Rattle.std.proofs.lemmas.List.Elements.{filter-append}
use Rattle.curp_base.specs.Words.{At, IsPrefix}
use Rattle.curp_cmd.specs.Node.{same_node}
use Rattle.curp_cmd.specs.declared.node.NodeId.{NodeId}
use Rattle.curp_msg.specs.declared.message.Message.{Message}
use Rattle.curp_journal.specs.Sending.{named_of}
use Rattle.curp_journal.specs.declared.arrived.Named.{Named}
use Rattle.curp_journal.specs.declared.item.Item.{Item}
use Rattle.curp_gather.specs.Ruled.{sent_to, to_node}

-- what an item more sent
pub sent_more : (to from : NodeId) (step n : ℕ) (items : List Item) (item : Item) → At items n item
    → sent_to to from step (take (suc n) items) ≡ sent_to to from step (take n items) ++ to_node to (named_of from (step + n) item.stamp 1 item.done.sent)
sent_more to from step n [] item h = absurd cc
sent_more to from step zero (y ∷ items) item h =
    let same : y ≡ item = cc in
    let due : Item → List Named = λ x. to_node to (named_of from step x.stamp 1 x.done.sent) in
    append-nil (due y) ∙ ap due same ∙ ap (λ (s : ℕ). to_node to (named_of from s item.stamp 1 item.done.sent)) (let e : step ≡ step + zero = omega arith in e)
sent_more to from step (suc n) (y ∷ items) item h =
    let due : List Named = to_node to (named_of from step y.stamp 1 y.done.sent) in
    ap (λ l. due ++ l) (sent_more to from (step + 1) n items item h)
    ∙ sym (append_assoc due (sent_to to from (step + 1) (take n items)) (to_node to (named_of from (step + 1 + n) item.stamp 1 item.done.sent)))
    ∙ ap (λ (s : ℕ). (due ++ sent_to to from (step + 1) (take n items)) ++ to_node to (named_of from s item.stamp 1 item.done.sent)) (let e : step + 1 + n ≡ step + suc n = omega arith in e)

-- what the first items sent is the prefix of what all sent
pub sent_prefix : (to from : NodeId) (step n : ℕ) (items : List Item) → IsPrefix (sent_to to from step (take n items)) (sent_to to from step items)
sent_prefix to from step zero items = record { rest = sent_to to from step items; is = refl }
sent_prefix to from step (suc n) [] = record { rest = []; is = refl }
sent_prefix to from step (suc n) (y ∷ items) =
    let due : List Named = to_node to (named_of from step y.stamp 1 y.done.sent) in
    let more = sent_prefix to from (step + 1) n items in
    record { rest = more.rest; is = append_assoc due (sent_to to from (step + 1) (take n items)) more.rest ∙ ap (λ l. due ++ l) more.is }

-- a name more
pub named_more : (to from : NodeId) (step stamp place n : ℕ) (messages : List Message) (m : Message) → At messages n m
    → to_node to (named_of from step stamp place (take (suc n) messages))
    ≡ to_node to (named_of from step stamp place (take n messages)) ++ to_node to (record { from = from; step = step; place = place + n; stamp = stamp; message = m } ∷ [])
named_more to from step stamp place n [] m h = absurd cc
named_more to from step stamp place zero (y ∷ messages) m h =
    let same : y ≡ m = cc in
    ap (λ (x : Message). to_node to (record { from = from; step = step; place = place; stamp = stamp; message = x } ∷ [])) same
    ∙ ap (λ (p : ℕ). to_node to (record { from = from; step = step; place = p; stamp = stamp; message = m } ∷ [])) (let e : place ≡ place + zero = omega arith in e)
named_more to from step stamp place (suc n) (y ∷ messages) m h =
    let one : List Named = record { from = from; step = step; place = place; stamp = stamp; message = y } ∷ [] in
    let test = λ (x : Named). same_node x.message.to to in
    let old : List Named = named_of from step stamp (place + 1) (take n messages) in
    let last : ℕ → List Named = λ p. to_node to (record { from = from; step = step; place = p; stamp = stamp; message = m } ∷ []) in
    filter-append test one (named_of from step stamp (place + 1) (take (suc n) messages))
    ∙ ap (λ l. to_node to one ++ l) (named_more to from step stamp (place + 1) n messages m h)
    ∙ sym (append_assoc (to_node to one) (to_node to old) (last (place + 1 + n)))
    ∙ ap (λ l. l ++ last (place + 1 + n)) (sym (filter-append test one old))
    ∙ ap (λ (p : ℕ). to_node to (one ++ old) ++ last p) (let e : place + 1 + n ≡ place + suc n = omega arith in e)

-- a longer prefix
pub prefix_after : (xs due all taken rest : List Named) → taken ≡ xs ++ rest → IsPrefix rest due → IsPrefix (xs ++ due) all → IsPrefix taken all
prefix_after xs due all taken rest e f g = record {
  rest = f.rest ++ g.rest;
  is = ap (λ l. l ++ (f.rest ++ g.rest)) e ∙ append_assoc xs rest (f.rest ++ g.rest) ∙ ap (λ l. xs ++ l) (sym (append_assoc rest f.rest g.rest) ∙ ap (λ l. l ++ g.rest) f.is) ∙ sym (append_assoc xs due g.rest) ∙ g.is;
}

-- ---- as loops go on

pub item_taken : (to from : NodeId) (n m step : ℕ) (others : List Item) (item : Item) (all rest left : List Named) → At others n item → step ≡ 1 + n → m ≡ n + 1
    → all ≡ sent_to to from 1 (take n others) ++ rest → rest ≡ to_node to (named_of from step item.stamp 1 item.done.sent) ++ left
    → all ≡ sent_to to from 1 (take m others) ++ left
item_taken to from n m step others item all rest left at step_is m_is e f =
    let due : ℕ → List Named = λ s. to_node to (named_of from s item.stamp 1 item.done.sent) in
    let before : List Named = sent_to to from 1 (take n others) in
    let one_more : m ≡ suc n = omega arith in
    e ∙ ap (λ l. before ++ l) (f ∙ ap (λ s. due s ++ left) step_is) ∙ sym (append_assoc before (due (1 + n)) left)
    ∙ ap (λ l. l ++ left) (sym (sent_more to from 1 n others item at)) ∙ ap (λ k. sent_to to from 1 (take k others) ++ left) (sym one_more)

pub item_whole : (to from : NodeId) (n step : ℕ) (others : List Item) (item : Item) (all rest : List Named) → At others n item → step ≡ 1 + n
    → all ≡ sent_to to from 1 (take n others) ++ rest → IsPrefix rest (to_node to (named_of from step item.stamp 1 item.done.sent))
    → IsPrefix all (sent_to to from 1 others)
item_whole to from n step others item all rest at step_is e f =
    let due : ℕ → List Named = λ s. to_node to (named_of from s item.stamp 1 item.done.sent) in
    let before : List Named = sent_to to from 1 (take n others) in
    let due_prefix : IsPrefix rest (due (1 + n)) = subst (λ s. IsPrefix rest (due s)) step_is f in
    let longer : IsPrefix (before ++ due (1 + n)) (sent_to to from 1 others) = subst (λ l. IsPrefix l (sent_to to from 1 others)) (sent_more to from 1 n others item at) (sent_prefix to from 1 (suc n) others) in
    prefix_after before (due (1 + n)) (sent_to to from 1 others) all rest e due_prefix longer

pub named_prefix : (to from : NodeId) (step stamp place n : ℕ) (messages : List Message)
    → IsPrefix (to_node to (named_of from step stamp place (take n messages))) (to_node to (named_of from step stamp place messages))
named_prefix to from step stamp place zero messages = record { rest = to_node to (named_of from step stamp place messages); is = refl }
named_prefix to from step stamp place (suc n) [] = record { rest = []; is = refl }
named_prefix to from step stamp place (suc n) (y ∷ messages) =
    let one : List Named = record { from = from; step = step; place = place; stamp = stamp; message = y } ∷ [] in
    let test = λ (x : Named). same_node x.message.to to in
    let some_named : List Named = named_of from step stamp (place + 1) (take n messages) in
    let more = named_prefix to from step stamp (place + 1) n messages in
    record {
      rest = more.rest;
      is = ap (λ l. l ++ more.rest) (filter-append test one some_named) ∙ append_assoc (to_node to one) (to_node to some_named) more.rest
          ∙ ap (λ l. to_node to one ++ l) more.is ∙ sym (filter-append test one (named_of from step stamp (place + 1) messages));
    }

pub message_taken : (to from : NodeId) (step stamp n m place : ℕ) (messages : List Message) (message : Message) (all rest left : List Named) → At messages n message → place ≡ 1 + n → m ≡ n + 1
    → all ≡ to_node to (named_of from step stamp 1 (take n messages)) ++ rest
    → rest ≡ to_node to (record { from = from; step = step; place = place; stamp = stamp; message = message } ∷ []) ++ left
    → all ≡ to_node to (named_of from step stamp 1 (take m messages)) ++ left
message_taken to from step stamp n m place messages message all rest left at place_is m_is e f =
    let due : ℕ → List Named = λ p. to_node to (record { from = from; step = step; place = p; stamp = stamp; message = message } ∷ []) in
    let before : List Named = to_node to (named_of from step stamp 1 (take n messages)) in
    let one_more : m ≡ suc n = omega arith in
    e ∙ ap (λ l. before ++ l) (f ∙ ap (λ p. due p ++ left) place_is) ∙ sym (append_assoc before (due (1 + n)) left)
    ∙ ap (λ l. l ++ left) (sym (named_more to from step stamp 1 n messages message at)) ∙ ap (λ k. to_node to (named_of from step stamp 1 (take k messages)) ++ left) (sym one_more)

pub message_whole : (to from : NodeId) (step stamp n place : ℕ) (messages : List Message) (message : Message) (all rest : List Named) → At messages n message → place ≡ 1 + n
    → all ≡ to_node to (named_of from step stamp 1 (take n messages)) ++ rest
    → IsPrefix rest (to_node to (record { from = from; step = step; place = place; stamp = stamp; message = message } ∷ []))
    → IsPrefix all (to_node to (named_of from step stamp 1 messages))
message_whole to from step stamp n place messages message all rest at place_is e f =
    let due : ℕ → List Named = λ p. to_node to (record { from = from; step = step; place = p; stamp = stamp; message = message } ∷ []) in
    let before : List Named = to_node to (named_of from step stamp 1 (take n messages)) in
    let due_prefix : IsPrefix rest (due (1 + n)) = subst (λ p. IsPrefix rest (due p)) place_is f in
    let longer : IsPrefix (before ++ due (1 + n)) (to_node to (named_of from step stamp 1 messages)) = subst (λ l. IsPrefix l (to_node to (named_of from step stamp 1 messages))) (named_more to from step stamp 1 n messages message at) (named_prefix to from step stamp 1 (suc n) messages) in
    prefix_after before (due (1 + n)) (to_node to (named_of from step stamp 1 messages)) all rest e due_prefix longer

pub none_prefix : (xs ys : List Named) → xs ≡ [] → IsPrefix xs ys
none_prefix xs ys e = record { rest = ys; is = ap (λ l. l ++ ys) e }

-- ---- where something else was taken

-- what is behind a common prefix
behind : (xs ys zs : List Named) → xs ++ ys ≡ xs ++ zs → ys ≡ zs
behind [] ys zs e = e
behind (x ∷ xs) ys zs e = behind xs ys zs (ap rest_of e)
  where
    rest_of : List Named → List Named
    rest_of [] = []
    rest_of (y ∷ more) = more

-- what is no prefix of what was due, whatever is due behind it, is none behind what was taken before
pub apart_after : (before due whole all rest : List Named) → all ≡ before ++ rest → IsPrefix (before ++ due) whole → ((later : List Named) → IsPrefix rest (due ++ later) → ⊥)
    → (later : List Named) → IsPrefix all (whole ++ later) → ⊥
apart_after before due whole all rest e g differs later f =
    differs (g.rest ++ later) (record {
      rest = f.rest;
      is = behind before (rest ++ f.rest) (due ++ (g.rest ++ later))
          (sym (append_assoc before rest f.rest) ∙ ap (λ l. l ++ f.rest) (sym e) ∙ f.is ∙ ap (λ l. l ++ later) (sym g.is) ∙ append_assoc (before ++ due) g.rest later ∙ append_assoc before due (g.rest ++ later));
    })

pub item_differs : (to from : NodeId) (n step : ℕ) (others : List Item) (item : Item) (all rest : List Named) → At others n item → step ≡ 1 + n
    → all ≡ sent_to to from 1 (take n others) ++ rest
    → ((later : List Named) → IsPrefix rest (to_node to (named_of from step item.stamp 1 item.done.sent) ++ later) → ⊥)
    → IsPrefix all (sent_to to from 1 others) → ⊥
item_differs to from n step others item all rest at step_is e differs f =
    let due : ℕ → List Named = λ s. to_node to (named_of from s item.stamp 1 item.done.sent) in
    let before : List Named = sent_to to from 1 (take n others) in
    let whole : List Named = sent_to to from 1 others in
    let longer : IsPrefix (before ++ due (1 + n)) whole = subst (λ l. IsPrefix l whole) (sent_more to from 1 n others item at) (sent_prefix to from 1 (suc n) others) in
    apart_after before (due (1 + n)) whole all rest e longer (subst (λ s. (later : List Named) → IsPrefix rest (due s ++ later) → ⊥) step_is differs) [] (subst (λ l. IsPrefix all l) (append-nil' whole) f)
  where
    append-nil' : (l : List Named) → l ≡ l ++ []
    append-nil' l = sym (append-nil l)

pub message_differs : (to from : NodeId) (step stamp n place : ℕ) (messages : List Message) (message : Message) (all rest : List Named) → At messages n message → place ≡ 1 + n
    → all ≡ to_node to (named_of from step stamp 1 (take n messages)) ++ rest
    → ((later : List Named) → IsPrefix rest (to_node to (record { from = from; step = step; place = place; stamp = stamp; message = message } ∷ []) ++ later) → ⊥)
    → (later : List Named) → IsPrefix all (to_node to (named_of from step stamp 1 messages) ++ later) → ⊥
message_differs to from step stamp n place messages message all rest at place_is e differs =
    let due : ℕ → List Named = λ p. to_node to (record { from = from; step = step; place = p; stamp = stamp; message = message } ∷ []) in
    let before : List Named = to_node to (named_of from step stamp 1 (take n messages)) in
    let whole : List Named = to_node to (named_of from step stamp 1 messages) in
    let longer : IsPrefix (before ++ due (1 + n)) whole = subst (λ l. IsPrefix l whole) (named_more to from step stamp 1 n messages message at) (named_prefix to from step stamp 1 (suc n) messages) in
    apart_after before (due (1 + n)) whole all rest e longer (subst (λ p. (later : List Named) → IsPrefix rest (due p ++ later) → ⊥) place_is differs)

none_behind : (all sent rest : List Named) → all ≡ sent ++ rest → IsPrefix all sent → rest ≡ []
none_behind all sent [] e f = refl
none_behind all sent (x ∷ rest) e f = absurd (omega (arith, ap length e, ap length f.is, length-append all f.rest, length-append sent (x ∷ rest)))

-- behind all that was sent nothing was taken, or what was taken is no prefix of it
pub all_taken : (all sent rest : List Named) (b : Bool) → all ≡ sent ++ rest → (IsTrue b ↔ (rest ≡ [])) → IsTrue b ↔ IsPrefix all sent
all_taken all sent rest b e iff = (
  λ t. record { rest = []; is = append-nil all ∙ e ∙ ap (λ l. sent ++ l) (iff.0 t) ∙ append-nil sent },
  λ f. iff.1 (none_behind all sent rest e f),
)
