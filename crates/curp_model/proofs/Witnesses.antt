-- A frozen witness stands.
use Rattle.std.proofs.Common.{◌≡◌, ℕ, ◌==◌, List, Option, Some, None, refl, ap, sym}
use Rattle.std.proofs.lemmas.Bool.{cond_both}
use Rattle.curp_cmd.specs.declared.command.Request.{Request}
use Rattle.curp_cmd.specs.declared.command.RequestId.{RequestId}
use Rattle.curp_cmd.specs.declared.node.NodeId.{NodeId}
use Rattle.curp_msg.specs.declared.body.Body.{Body}
use Rattle.curp_msg.specs.declared.body.Body.TheVariants.{Record, Gc, Start, Freeze}
use Rattle.curp_model.specs.declared.Mode.{Mode}
use Rattle.curp_model.specs.declared.Mode.TheVariants.{Idle, Normal, Frozen}
use Rattle.curp_model.specs.Witness.{WitnessState, started, turned_away, unless_turned_away, stranger_to, collected_in, collected_at, hold, gc, on_witness, AfterCollection}

turns_away : (w : WitnessState) (r : Request) (mode : Mode) (other : Option ℕ) → mode ≡ Frozen → (unless_turned_away w r (turned_away mode other)).state ≡ w
turns_away w r Idle other e = absurd cc
turns_away w r Normal other e = absurd cc
turns_away w r Frozen None e = refl
turns_away w r Frozen (Some own) e = refl

collects_nothing : (w : WitnessState) (ids : List RequestId) (mode : Mode) → mode ≡ Frozen → (collected_in mode w ids).state ≡ w
collects_nothing w ids Idle e = refl
collects_nothing w ids Normal e = absurd cc
collects_nothing w ids Frozen e = refl

collection_stands : (w : WitnessState) (epoch : ℕ) (ids : List RequestId) (own : Option ℕ) → w.mode ≡ Frozen → (collected_at own w epoch ids).state ≡ w
collection_stands w epoch ids None e = refl
collection_stands w epoch ids (Some own) e =
    cond_both (own == epoch) _ _ (λ (c : AfterCollection). c.state ≡ w) (λ y. collects_nothing w ids w.mode e) (λ n. refl)

start_stands : (w : WitnessState) (epoch : ℕ) (mode : Mode) → mode ≡ Frozen → started mode w epoch ≡ w
start_stands w epoch Idle e = absurd cc
start_stands w epoch Normal e = refl
start_stands w epoch Frozen e = refl

pub stands : (n : ℕ) (w : WitnessState) (from : NodeId) (message : Body) → w.mode ≡ Frozen → (on_witness n w from message).state ≡ w
unfolding on_witness hold gc
stands n w from (Record r) e = turns_away w r.request w.mode (stranger_to r.epoch w.epoch) e
stands n w from (Gc g) e = collection_stands w g.epoch g.ids w.epoch e
stands n w from (Start s) e = start_stands w s.epoch w.mode e
stands n w from (Freeze epoch) e = ap (λ (m : Mode). record w { mode = m }) (sym e)
stands n w from _ e = refl

pub freezes : (n : ℕ) (w : WitnessState) (from : NodeId) (epoch : ℕ) → (on_witness n w from (Freeze epoch)).state.mode ≡ Frozen
unfolding on_witness
freezes n w from epoch = refl

pub keeps : (n : ℕ) (w : WitnessState) (from : NodeId) (epoch : ℕ) → (on_witness n w from (Freeze epoch)).state.held ≡ w.held
unfolding on_witness
keeps n w from epoch = refl
