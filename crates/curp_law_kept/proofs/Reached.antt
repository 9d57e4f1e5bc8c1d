-- Every world that scripts reach is steady, and so versions and epochs grow in it.
use Rattle.std.proofs.Common.{◌≡◌, ◌⊎◌, ℕ, zero, suc, ◌*◌, ◌≤◌, List, [], ◌∷◌, map, refl, Option, Some, None, sym, ◌∙◌, ap, subst, inl, inr}
use Rattle.curp_base.specs.Words.{At, numbered, numbers_from}
use Rattle.curp_msg.specs.declared.script.Header.{Header}
use Rattle.curp_msg.specs.declared.script.Step.{Step}
use Rattle.curp_model.specs.declared.Mode.TheVariants.{Idle, Normal}
use Rattle.curp_model.specs.Master as phase
use Rattle.curp_model.specs.Master.{MasterState, Phase}
use Rattle.curp_model.specs.Recovery.{MasterStage, Fresh, Recovering, Serving}
use Rattle.curp_model.specs.Witness.{WitnessState, fresh_witness, started_witness}
use Rattle.curp_model.specs.World.{World, opening, opening_master, run, shape_of, step, world}
use Rattle.curp_base.proofs.Numbered.{numbered_replicate, numbered_same, place}
use Rattle.curp_facts.specs.Growth.{Above, AllGrow, AllNew, Dropped, Grows, LifeGrows, MasterGrows, Steady, WitnessGrows}
use Rattle.curp_law_kept.proofs.WorldsGrow.{step_grows}

-- what stands at a number is grown from what stood there, or is fresh
pub all_back : {S : Type 0} (G : ℕ → S → S → Type 0) (fresh : S) (xs ys : List S) → AllGrow G xs ys → AllNew fresh xs ys → (n : ℕ) (y : S) → numbered ys n ≡ Some y → ((x : S) × (numbered xs n ≡ Some x) × G n x y) ⊎ (y ≡ fresh)
all_back {S} G fresh xs ys grow new n y here = go (numbered xs n) refl
  where
    go : (o : Option S) → numbered xs n ≡ o → ((x : S) × (numbered xs n ≡ Some x) × G n x y) ⊎ (y ≡ fresh)
    go None is = inr (new n y is here)
    go (Some x) is = let g = grow n x is in inl (x, is, subst (G n x) (numbered_same ys n g.0 y g.1 here) g.2)

-- a master that serves was serving with that above, or begins to serve
serves_above : (x : MasterStage) (k : MasterState) → LifeGrows x (Serving k) → ((m : MasterState) → x ≡ Serving m → Above m.version m.phase) → Above k.version k.phase
serves_above Fresh k g was = absurd g
serves_above (Recovering s) k g was = subst (Above k.version) (sym g.phase) tt
serves_above (Serving m) k g was = g.above (was m refl)

-- a world that grows stays steady
pub grows_steady : (w v : World) → Grows w v → Steady w → Steady v
grows_steady w v g s = record {
  idle = λ n y here. elim (all_back (λ n x. WitnessGrows (Dropped v n x) x) (fresh_witness w.sets w.ways) w.witnesses v.witnesses g.witnesses g.fresh.2 n y here) [
    | inl o ↦ o.2.idle (s.idle n o.0 o.1)
    | inr new ↦ λ i. ap (λ (x : WitnessState). x.epoch) new
  ];
  above = λ n k here. elim (all_back (λ n. MasterGrows) Fresh w.masters v.masters g.masters g.fresh.0 n (Serving k) here) [
    | inl o ↦ serves_above o.0 k o.2.life (λ m is. s.above n m (o.1 ∙ ap Some is))
    | inr new ↦ absurd (other k new)
  ];
}
  where
    other : (k : MasterState) → Serving k ≡ Fresh → ⊥
    other k e = cc

-- ---- at opening

opened : (h : Header) (ps : List ℕ) (j : ℕ) (m : MasterState) → At (map (opening_master (shape_of h)) ps) j (Serving m) → m.phase ≡ phase.Open
opened h [] j m at = absurd cc
opened h (p ∷ ps) zero m at = phases (opening_master (shape_of h) p) m at refl
  where
    beginning_phase : MasterStage → Phase
    beginning_phase (Serving k) = k.phase
    beginning_phase _ = phase.Open

    phases : (x : MasterStage) (m : MasterState) → Some x ≡ Some (Serving m) → beginning_phase x ≡ phase.Open → m.phase ≡ phase.Open
    phases x m e begin = let same : x ≡ Serving m = cc in sym (ap beginning_phase same) ∙ begin
opened h (p ∷ ps) (suc j) m at = opened h ps j m at

opening_steady : (h : Header) → Steady (opening h)
unfolding opening
opening_steady h = record {
  idle = λ n x here. let same : started_witness h.sets h.ways 1 ≡ x = numbered_replicate (h.parts * h.f) (started_witness h.sets h.ways 1) n x here in
      λ i. absurd (normal (ap (λ (y : WitnessState). y.mode) same ∙ i));
  above = λ n m here.
      let at = place (map (opening_master (shape_of h)) (numbers_from 1 h.parts)) n (Serving m) here in
      subst (Above m.version) (sym (opened h (numbers_from 1 h.parts) at.0 m at.2)) tt;
}
  where
    normal : Normal ≡ Idle → ⊥
    normal e = cc

run_steady : (steps : List Step) (w : World) → Steady w → Steady (run w steps)
run_steady [] w s = s
run_steady (x ∷ steps) w s = run_steady steps (step w x).world (grows_steady w (step w x).world (step_grows w x) s)

-- every world that scripts reach is steady
pub reached_steady : (h : Header) (steps : List Step) → Steady (world h steps)
reached_steady h steps = run_steady steps (opening h) (opening_steady h)

-- ---- so versions and epochs grow
