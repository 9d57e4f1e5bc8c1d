-- What taking the turn that is due keeps of a merge.
use Rattle.std.proofs.Common.{◌≡◌, inl, inr, ℕ, ◌+◌, ◌≤◌, List, [], ◌∷◌, ◌++◌, length, set, take, replicate, refl, ap, sym, ◌∙◌, subst, arith, append_assoc, append-nil, length-append}
use Rattle.std.proofs.lemmas.Bool.{cases_lt}
use Rattle.std.proofs.lemmas.List.{length-take-le, take_all}
use Rattle.curp_base.specs.Words.{At}
use Rattle.curp_base.proofs.Lists.{Each-append, at_append, at_append_right, at_push_cases, at_replicate, at_same, at_set_cases, at_some, at_within, take_one}
use Rattle.curp_cmd.specs.declared.node.NodeId.{NodeId}
use Rattle.curp_msg.specs.declared.message.Message.{Message}
use Rattle.curp_msg.specs.declared.script.Step.{Step}
use Rattle.curp_journal.specs.declared.arrived.Arrived.{Arrived}
use Rattle.curp_journal.specs.declared.arrived.Arrived.TheVariants as arrived
use Rattle.curp_journal.specs.declared.arrived.Named.{Named}
use Rattle.curp_journal.specs.declared.item.Item.{Item}
use Rattle.curp_model.specs.World.{deed_by}
use Rattle.curp_journal.specs.Legal.{LegalFrom, deed_for}
use Rattle.curp_journal.specs.Turns.{AreApart, Did, InOrder, IsKnown, Journal, Placed, Precedes, Turn, of, said, sent_by, turn_stamp, turns_of}
use Rattle.curp_journal.proofs.Turns.{of_here, of_there, said-snoc}
use Rattle.curp_merge.specs.Merging.{AreJournals, Delivers, Merged, NameTaken, turn_weight, weight_sent}
use Rattle.curp_merge.specs.Weaving.{CanBeGiven, ComesFirst, Counted, DeliversBy, TurnIsCounted, NoneComesBefore, NamedWasSent, IsStepOf, NamesInput, NamesTurn, NoneLeft, Numbers, SentBefore, Woven}
use Rattle.curp_merge.proofs.Left.{all_left, all_weigh, left_after, length-push}
use Rattle.curp_merge.proofs.Naming.{counted_more, delivers_more, delivers_sent}
use Rattle.curp_merge.proofs.Stamps.{turn_of_item, turns_rise}
use Rattle.curp_merge.proofs.Sums.{legal_length}

-- ---- lists

legal-snoc : (before : List Placed) (ss : List Step) (ps : List Placed) (s : Step) (p : Placed)
    → LegalFrom before ss ps → deed_by (said (before ++ ps)) s ≡ deed_for p → LegalFrom before (ss ++ s ∷ []) (ps ++ p ∷ [])
legal-snoc before [] [] s p legal is = (subst (λ (qs : List Placed). deed_by (said qs) s ≡ deed_for p) (append-nil before) is, tt)
legal-snoc before [] (q ∷ ps) s p legal is = absurd legal
legal-snoc before (t ∷ ss) [] s p legal is = absurd legal
legal-snoc before (t ∷ ss) (q ∷ ps) s p legal is =
    (legal.0, legal-snoc (before ++ q ∷ []) ss ps s p legal.1 (subst (λ (qs : List Placed). deed_by (said qs) s ≡ deed_for p) (sym (append_assoc before (q ∷ []) ps)) is))

-- ---- which turn precedes which

not_later : (stamp place other there later : ℕ) → ComesFirst stamp place other there → other ≤ later → ComesFirst stamp place later there
not_later stamp place other there later comes most =
    elim comes [
      | inl before ↦ inl (omega (arith, before, most))
      | inr level ↦
          elim (cases_lt other later) [
            | inl less ↦ inl (omega (arith, level.0, less))
            | inr same ↦ inr (omega (arith, level.0, same, most), level.1)
          ]
    ]

module _ (journals : List Journal) (apart : AreApart journals) where
  -- a node has one journal
  same_journal : (i k : ℕ) (a b : Journal) → At journals i a → At journals k b → a.id ≡ b.id → (i ≡ k) × (a ≡ b)
  same_journal i k a b at_a at_b e =
      let same : i ≡ k = apart i k a b at_a at_b e in
      (same, at_same journals k a b (subst (λ (n : ℕ). At journals n a) same at_a) at_b)

  -- by the places of the journals
  precedes : (i k : ℕ) (a b : Journal) (t u : Turn) → At journals i a → At journals k b → ComesFirst (turn_stamp t) i (turn_stamp u) k
      → Precedes journals (record { node = a.id; turn = t }) (record { node = b.id; turn = u })
  precedes i k a b t u at_a at_b comes = elim comes [
    | inl before ↦ inl before
    | inr level ↦ inr (
      level.0,
      λ x y c d at_c at_d e f.
          let g = same_journal x i c a at_c at_a e in
          let h = same_journal y k d b at_d at_b f in
          omega (arith, g.0, h.0, level.1),
    )
  ]

  -- what precedes a turn precedes those of the same node that are no earlier
  precedes_later : (p : Placed) (node : NodeId) (t u : Turn) → turn_stamp t ≤ turn_stamp u
      → Precedes journals p (record { node = node; turn = t }) → Precedes journals p (record { node = node; turn = u })
  precedes_later p node t u most before = elim before [
    | inl less ↦ inl (omega (arith, less, most))
    | inr level ↦ elim (cases_lt (turn_stamp t) (turn_stamp u)) [
      | inl less ↦ inl (omega (arith, level.0, less))
      | inr same ↦ inr (omega (arith, level.0, same, most), level.1)
    ]
  ]

-- ---- before any turn

pub woven_none : (journals : List Journal) (rows : List (List ℕ)) → rows ≡ replicate (length journals) [] → Woven journals rows [] 0
woven_none journals rows empty =
    let row_is : (k : ℕ) (row : List ℕ) → At rows k row → [] ≡ row = λ k row at. (at_replicate (length journals) [] k row (subst (λ (rs : List (List ℕ)). At rs k row) empty at)).1 in
    let all = all_left turn_weight journals in
    record {
      placed = [];
      known = tt;
      parts = λ k j row at at_row. subst (λ (r : List ℕ). [] ≡ take (length r) (turns_of j)) (row_is k row at_row) refl;
      legal = tt;
      in_order = λ t u p q at_p. absurd cc;
      precede = λ t p k j row turn at_p. absurd cc;
      numbers = λ k j row t before turn i m at at_row counted. let e = row_is k row at_row in absurd cc;
      counted = λ k j row t before turn at at_row counted. let e = row_is k row at_row in absurd cc;
      names = λ t s p item named at_s. absurd cc;
      next_is = refl;
      light = rw empty (omega (arith, all));
    }

-- ---- one turn more

module _ (journals : List Journal) (rows : List (List ℕ)) (ss : List Step) (next : ℕ) (are : AreJournals journals) (woven : Woven journals rows ss next)
    (k : ℕ) (j : Journal) (row : List ℕ) (turn : Turn) (stands : At journals k j) (its_row : At rows k row) (its_turn : At (turns_of j) (length row) turn) where
  abbrev here : Placed
  here = record { node = j.id; turn = turn }

  abbrev taken : List Placed
  taken = woven.placed ++ here ∷ []

  abbrev new_rows : List (List ℕ)
  new_rows = set rows k (row ++ next ∷ [])

  parts_after : (i : ℕ) (a : Journal) (r : List ℕ) → At journals i a → At new_rows i r → of a.id taken ≡ take (length r) (turns_of a)
  parts_after i a r at at_r =
      elim (at_set_cases rows k (row ++ next ∷ []) i r at_r) [
        | inl other ↦
            of_there a.id woven.placed here (λ e. other.0 (sym (are.apart k i j a stands at e))) ∙ woven.parts i a r at other.1
        | inr same ↦
            let e : a ≡ j = at_same journals k a j (subst (λ (n : ℕ). At journals n a) same.0 at) stands in
            let n : length r ≡ length row + 1 = ap (λ (x : List ℕ). length x) (sym same.1) ∙ length-push row next in
            rw (e, n) (of_here woven.placed here ∙ (ap (λ ts. ts ++ turn ∷ []) (woven.parts k j row stands its_row) ∙ sym (take_one (turns_of j) (length row) turn its_turn)))
      ]

  -- where the turn stands then
  counted_here : TurnIsCounted taken j.id turn (length row) next
  counted_here = record {
    pre = woven.placed;
    post = [];
    parts = refl;
    its_place = (let within = at_within (turns_of j) (length row) turn its_turn in
        ap (λ (ts : List Turn). length ts) (woven.parts k j row stands its_row) ∙ length-take-le (length row) (turns_of j) (omega (arith, within)));
    its_number = sym woven.next_is;
  }

  counted_after : Counted journals new_rows taken
  counted_after i a r t before sender at at_r counted at_sender =
      elim (at_set_cases rows k (row ++ next ∷ []) i r at_r) [
        | inl other ↦ counted_more woven.placed here a.id sender t before (woven.counted i a r t before sender at other.1 counted at_sender)
        | inr same ↦
            let e : a ≡ j = at_same journals k a j (subst (λ (n : ℕ). At journals n a) same.0 at) stands in
            let at_j : At (turns_of j) t sender = subst (λ (y : Journal). At (turns_of y) t sender) e at_sender in
            elim (at_push_cases row next t before (subst (λ (y : List ℕ). At y t before) (sym same.1) counted)) [
              | inl old ↦ rw e (counted_more woven.placed here j.id sender t before (woven.counted k j row t before sender stands its_row old at_j))
              | inr new ↦
                  let s : sender ≡ turn = at_same (turns_of j) (length row) sender turn (subst (λ (n : ℕ). At (turns_of j) n sender) new.0 at_j) its_turn in
                  rw (e, s, new.0, ← new.1) counted_here
            ]
      ]

  -- the step of the turn delivers what came by it, where that is a message
  names_here : (s : Step) (item : Item) (named : Named) → CanBeGiven journals rows j.id turn → NamesTurn journals rows turn s
      → turn ≡ Did item → item.input ≡ arrived.Message named → Delivers woven.placed named s
  names_here s item named given made did came =
      let before : SentBefore journals rows item.input = (subst (λ (x : Turn). CanBeGiven journals rows j.id x) did given).1 in
      let sent : NamedWasSent journals rows named = subst (λ (a : Arrived). SentBefore journals rows a) came before in
      let input : NamesInput journals rows item.input s = subst (λ (x : Turn). NamesTurn journals rows x s) did made in
      let delivers : DeliversBy journals rows named s = subst (λ (a : Arrived). NamesInput journals rows a s) came input in
      let at = turn_of_item sent.journal sent.t sent.item sent.taken in
      let counted = woven.counted sent.place sent.journal sent.row sent.t sent.before (Did sent.item) sent.stands sent.its_row sent.counted at in
      delivers_sent journals rows woven.placed named sent counted s delivers

  names_after : (s : Step) → CanBeGiven journals rows j.id turn → NamesTurn journals rows turn s → NameTaken (ss ++ s ∷ []) taken
  names_after s given made t q p item named at_s at_p did came =
      let level = legal_length [] ss woven.placed woven.legal in
      elim (at_push_cases ss s t q at_s) [
        | inl old_step ↦
            elim (at_push_cases woven.placed here t p at_p) [
              | inl old ↦ delivers_more woven.placed here named q (woven.names t q p item named old_step old did came)
              | inr new ↦ absurd (omega (arith, level, new.0, at_within ss t q old_step))
            ]
        | inr new_step ↦
            elim (at_push_cases woven.placed here t p at_p) [
              | inl old ↦ absurd (omega (arith, level, new_step.0, at_within woven.placed t p old))
              | inr new ↦
                  let here_did : turn ≡ Did item = ap (λ (x : Placed). x.turn) new.1 ∙ did in
                  let delivers = delivers_more woven.placed here named s (names_here s item named given made here_did came) in
                  subst (λ (z : Step). Delivers taken named z) new_step.1 delivers
            ]
      ]

  in_order_after : InOrder journals taken
  in_order_after t u p q at_p at_q below =
      elim (at_push_cases woven.placed here u q at_q) [
        | inl old ↦
            elim (at_push_cases woven.placed here t p at_p) [
              | inl first ↦ woven.in_order t u p q first old below
              | inr last ↦ absurd (omega (arith, last.0, below, at_within woven.placed u q old))
            ]
        | inr new ↦
            elim (at_push_cases woven.placed here t p at_p) [
              | inl first ↦ subst (λ (x : Placed). Precedes journals p x) new.1 (woven.precede t p k j row turn first stands its_row its_turn)
              | inr last ↦ absurd (omega (arith, last.0, new.0, below))
            ]
      ]

  -- the turn that comes next in its journal
  behind : (a : Journal) (r : List ℕ) (after : Turn) → row ++ next ∷ [] ≡ r → a ≡ j → At (turns_of a) (length r) after
      → At (turns_of j) (length row + 1) after × (turn_stamp turn ≤ turn_stamp after)
  behind a r after same e at =
      let n : length r ≡ length row + 1 = ap (λ (x : List ℕ). length x) (sym same) ∙ length-push row next in
      let at_j : At (turns_of j) (length row + 1) after = subst (λ (x : ℕ). At (turns_of j) x after) n (subst (λ (x : Journal). At (turns_of x) (length r) after) e at) in
      (at_j, turns_rise j (length row) (length row + 1) turn after (are.stamped k j stands) its_turn at_j (omega arith))

  module _ (first : NoneComesBefore journals rows (length journals) k (turn_stamp turn)) where
    here_precedes : (i : ℕ) (a : Journal) (r : List ℕ) (after : Turn) → At journals i a → At new_rows i r → At (turns_of a) (length r) after
        → Precedes journals here (record { node = a.id; turn = after })
    here_precedes i a r after at at_r at_after =
        elim (at_set_cases rows k (row ++ next ∷ []) i r at_r) [
          | inl other ↦ precedes journals are.apart k i j a turn after stands at (first i a r after (at_within journals i a at) at other.1 at_after)
          | inr same ↦
              let e : a ≡ j = at_same journals k a j (subst (λ (n : ℕ). At journals n a) same.0 at) stands in
              let b = behind a r after same.1 e at_after in
              precedes journals are.apart k i j a turn after stands at (not_later (turn_stamp turn) k (turn_stamp turn) i (turn_stamp after) (inr (refl, omega (arith, same.0))) b.1)
        ]

    old_precedes : (t : ℕ) (p : Placed) (i : ℕ) (a : Journal) (r : List ℕ) (after : Turn) → At woven.placed t p → At journals i a → At new_rows i r → At (turns_of a) (length r) after
        → Precedes journals p (record { node = a.id; turn = after })
    old_precedes t p i a r after at_p at at_r at_after =
        elim (at_set_cases rows k (row ++ next ∷ []) i r at_r) [
          | inl other ↦ woven.precede t p i a r after at_p at other.1 at_after
          | inr same ↦
              let e : a ≡ j = at_same journals k a j (subst (λ (n : ℕ). At journals n a) same.0 at) stands in
              let b = behind a r after same.1 e at_after in
              rw e (precedes_later journals are.apart p j.id turn after b.1 (woven.precede t p k j row turn at_p stands its_row its_turn))
        ]

    precede_after : (t : ℕ) (p : Placed) (i : ℕ) (a : Journal) (r : List ℕ) (after : Turn) → At taken t p → At journals i a → At new_rows i r → At (turns_of a) (length r) after
        → Precedes journals p (record { node = a.id; turn = after })
    precede_after t p i a r after at_p at at_r at_after =
        elim (at_push_cases woven.placed here t p at_p) [
          | inl old ↦ old_precedes t p i a r after old at at_r at_after
          | inr new ↦ subst (λ (x : Placed). Precedes journals x (record { node = a.id; turn = after })) new.1 (here_precedes i a r after at at_r at_after)
        ]

    numbers_after : Numbers journals new_rows (said taken)
    numbers_after i a r t before sender x m at at_r counted at_sender at_m =
        elim (at_set_cases rows k (row ++ next ∷ []) i r at_r) [
          | inl other ↦ rw (said-snoc woven.placed here) (at_append (said woven.placed) (sent_by turn) (before + x) m (woven.numbers i a r t before sender x m at other.1 counted at_sender at_m))
          | inr same ↦
              let e : a ≡ j = at_same journals k a j (subst (λ (n : ℕ). At journals n a) same.0 at) stands in
              let at_j : At (turns_of j) t sender = subst (λ (y : Journal). At (turns_of y) t sender) e at_sender in
              elim (at_push_cases row next t before (subst (λ (y : List ℕ). At y t before) (sym same.1) counted)) [
                | inl old ↦ rw (said-snoc woven.placed here) (at_append (said woven.placed) (sent_by turn) (before + x) m (woven.numbers k j row t before sender x m stands its_row old at_j at_m))
                | inr new ↦
                    let s : sender ≡ turn = at_same (turns_of j) (length row) sender turn (subst (λ (n : ℕ). At (turns_of j) n sender) new.0 at_j) its_turn in
                    let at_here : At (sent_by turn) x m = subst (λ (y : Turn). At (sent_by y) x m) s at_m in
                    rw (said-snoc woven.placed here) (at_append_right (said woven.placed) (sent_by turn) x (before + x) m (omega (arith, new.1, woven.next_is)) at_here)
              ]
        ]

    pub woven_more : (s : Step) → IsStepOf journals rows here s → CanBeGiven journals rows j.id turn → NamesTurn journals rows turn s
        → Woven journals new_rows (ss ++ s ∷ []) (next + length (sent_by turn))
    woven_more s is given made =
        let left = left_after turn_weight journals rows k j row turn next stands its_row its_turn in
        let weight = all_weigh (sent_by turn) in
        record {
          placed = taken;
          known = Each-append (λ (p : Placed). IsKnown journals p.node) woven.placed (here ∷ []) woven.known (record { place = k; journal = j; stands = stands; its_name = refl }, tt);
          parts = parts_after;
          legal = legal-snoc [] ss woven.placed s here woven.legal (is (said woven.placed) woven.numbers);
          in_order = in_order_after;
          precede = precede_after;
          numbers = numbers_after;
          counted = counted_after;
          names = names_after s given made;
          next_is = sym (ap (λ (ms : List Message). length ms) (said-snoc woven.placed here) ∙ (length-append (said woven.placed) (sent_by turn) ∙ ap (λ n. n + length (sent_by turn)) (sym woven.next_is)));
          light = omega (arith, woven.light, left, weight);
        }

  -- what was sent then is within the weight of all
  pub next_within : next + length (sent_by turn) ≤ weight_sent journals
  next_within =
      let left = left_after turn_weight journals rows k j row turn next stands its_row its_turn in
      let weight = all_weigh (sent_by turn) in
      omega (arith, woven.light, left, weight)

-- ---- at the end nothing is left out

pub woven_whole : (journals : List Journal) (rows : List (List ℕ)) (ss : List Step) (next : ℕ)
    → Woven journals rows ss next → length rows ≡ length journals → NoneLeft journals rows → Merged journals ss
woven_whole journals rows ss next woven lengths none = record {
  placed = woven.placed;
  is = record {
    turns = record {
      known = woven.known;
      whole = λ k j at.
          let r = at_some rows k (omega (arith, lengths, at_within journals k j at)) in
          woven.parts k j r.0 at r.1 ∙ take_all (length r.0) (turns_of j) (none k j r.0 (at_within journals k j at) at r.1);
    };
    legal = woven.legal;
    in_order = woven.in_order;
    names = woven.names;
  };
}
