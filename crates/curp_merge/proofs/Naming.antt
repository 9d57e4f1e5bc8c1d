-- Which message a step delivers, as turns are added.
use Rattle.std.proofs.Common.{◌≡◌, ℕ, ◌+◌, List, [], ◌∷◌, ◌++◌, length, ap, sym, ◌∙◌, subst, arith, append_assoc}
use Rattle.curp_cmd.specs.declared.node.NodeId.{NodeId}
use Rattle.curp_msg.specs.declared.script.Step.{Step}
use Rattle.curp_journal.specs.declared.arrived.Named.{Named}
use Rattle.curp_journal.specs.Turns.{Did, Journal, Placed, Turn, of}
use Rattle.curp_merge.specs.Merging.{Delivers, IsNumberIn}
use Rattle.curp_merge.specs.Weaving.{DeliversBy, TurnIsCounted, NamedWasSent}
use Rattle.curp_base.proofs.Numbered.{at_place}

-- a turn more stands behind those that are there
parts_more : (placed pre post : List Placed) (q p : Placed) → placed ≡ pre ++ (q ∷ post) → placed ++ p ∷ [] ≡ pre ++ (q ∷ (post ++ p ∷ []))
parts_more placed pre post q p parts = ap (λ (ps : List Placed). ps ++ p ∷ []) parts ∙ append_assoc pre (q ∷ post) (p ∷ [])

-- a turn stays where it stands
pub counted_more : (placed : List Placed) (p : Placed) (node : NodeId) (turn : Turn) (t before : ℕ)
    → TurnIsCounted placed node turn t before → TurnIsCounted (placed ++ p ∷ []) node turn t before
counted_more placed p node turn t before c = record {
  pre = c.pre;
  post = c.post ++ p ∷ [];
  parts = parts_more placed c.pre c.post (record { node = node; turn = turn }) p c.parts;
  its_place = c.its_place;
  its_number = c.its_number;
}

-- a message keeps its number
number_more : (placed : List Placed) (p : Placed) (named : Named) (number : ℕ) → IsNumberIn placed named number → IsNumberIn (placed ++ p ∷ []) named number
number_more placed p named number is = record {
  before = is.before;
  item = is.item;
  after = is.after ++ p ∷ [];
  parts = parts_more placed is.before is.after (record { node = named.from; turn = Did is.item }) p is.parts;
  its_step = is.its_step;
  its_place = is.its_place;
  number_is = is.number_is;
}

-- so a step that delivered it still does
pub delivers_more : (placed : List Placed) (p : Placed) (named : Named) (s : Step) → Delivers placed named s → Delivers (placed ++ p ∷ []) named s
delivers_more placed p named s d = record { number = d.number; step_is = d.step_is; is = number_more placed p named d.number d.is }

module _ (journals : List Journal) (rows : List (List ℕ)) (placed : List Placed) (named : Named) (s : NamedWasSent journals rows named)
    (c : TurnIsCounted placed s.journal.id (Did s.item) s.t s.before) where
  -- a message that was sent has the number that the rows say
  number_sent : IsNumberIn placed named (s.before + named.place)
  number_sent =
      let place : length (of named.from c.pre) ≡ s.t = subst (λ (n : NodeId). length (of n c.pre) ≡ s.t) s.its_name c.its_place in
      record {
        before = c.pre;
        item = s.item;
        after = c.post;
        parts = c.parts ∙ ap (λ (n : NodeId). c.pre ++ (record { node = n; turn = Did s.item } ∷ c.post)) s.its_name;
        its_step = omega (arith, s.step_is, place);
        its_place = at_place s.item.done.sent s.i named.place named.message s.place_is s.sent;
        number_is = ap (λ (n : ℕ). n + named.place) (sym c.its_number);
      }

  -- the step that delivers it by the rows does so
  pub delivers_sent : (step : Step) → DeliversBy journals rows named step → Delivers placed named step
  delivers_sent step d = record {
    number = d.0;
    step_is = d.1;
    is =
        let same = d.2 s.place s.journal s.row s.t s.before s.stands s.its_row s.counted s.its_name s.step_is in
        subst (λ (n : ℕ). IsNumberIn placed named n) (sym same) number_sent;
  }
