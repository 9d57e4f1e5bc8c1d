-- At the opening no partition was adopted anew: each has its first master.
use Rattle.std.proofs.Common.{◌≡◌, ◌≤◌, inl, ℕ, ◌-◌, [], refl, ap, sym, ◌∙◌, subst, arith}
use Rattle.curp_base.specs.Words.{At, numbers_from}
use Rattle.curp_base.proofs.Lists.{at_map, at_one, at_mapped}
use Rattle.curp_base.proofs.Numbered.{numbers_at}
use Rattle.curp_cmd.specs.Node.{master_node}
use Rattle.curp_msg.specs.declared.config.PartConfig.{PartConfig}
use Rattle.curp_msg.specs.declared.script.Header.{Header}
use Rattle.curp_model.specs.Manager.{opening_part}
use Rattle.curp_model.specs.Marks.{Mark}
use Rattle.curp_model.specs.World.{opening, shape_of}
use Rattle.curp_facts.specs.Facts.{AtOpening, ByRecovery, ByReplacement, IsGiven, Lists, lists_of_part}
use Rattle.curp_law_linear.specs.OfWorld.{Reign, reigns}
use Rattle.curp_law_linear.specs.Ordered.{CutsFollow, PartCuts, ReignOk, reign_in}
use Rattle.curp_law_runs.proofs.Gives.{nothing_sent}

module _ (h : Header) where
  -- the master of the opening
  abbrev first : ℕ → Reign
  first part = record { epoch = 1; master = master_node part }

  first_reign : (part : ℕ) → 1 ≤ part → part ≤ h.parts → ReignOk (opening h) part (first part)
  unfolding opening
  first_reign part one few = record {
    lists = lists_of_part (opening_part (shape_of h) part);
    adopted = record {
      given = AtOpening (part - 1) (opening_part (shape_of h) part) (at_map (opening_part (shape_of h)) (numbers_from 1 h.parts) (part - 1) part number);
      told = inl refl;
    };
    its_part = refl;
    its_epoch = refl;
    its_master = refl;
  }
    where
      number : At (numbers_from 1 h.parts) (part - 1) part
      number = subst (At (numbers_from 1 h.parts) (part - 1)) (omega (arith, one)) (numbers_at 1 h.parts (part - 1) (omega (arith, one, few)))

  -- no other was given
  given_first : (l : Lists) → IsGiven (opening h) l → reign_in l ≡ first l.part
  unfolding opening
  given_first _ (AtOpening k c at) =
      let i = at_mapped (opening_part (shape_of h)) (numbers_from 1 h.parts) k c at in
      subst (λ (x : PartConfig). reign_in (lists_of_part x) ≡ first x.part) i.2 refl
  given_first _ (ByRecovery node o sent) = absurd (nothing_sent h _ sent)
  given_first _ (ByReplacement old p given sent) = absurd (nothing_sent h _ sent)

  none_at : (i : ℕ) (m : Mark) → At {A = Mark} [] i m → ⊥
  none_at i m at = cc

  cuts_first : (part : ℕ) → PartCuts (opening h) part []
  unfolding opening
  cuts_first part = record {
    ranged = λ i m at. absurd (none_at i m at);
    adopted = λ i r one few at. subst (ReignOk (opening h) part) (at_one (first part) i r at).1 (first_reign part one few);
    rise = λ i j r s lt a b. absurd (omega (arith, lt, (at_one (first part) i r a).0, (at_one (first part) j s b).0));
    there = λ l was its. (0, subst (λ (r : Reign). At (reigns part []) 0 r) (sym (given_first l was.given ∙ ap first its)) refl);
    low = λ i r m at to. absurd (none_at i m to);
    stored = λ i m at. absurd (none_at i m at);
    counted = λ i m at. absurd (none_at i m at);
    recovered = λ i m at order sent b is. absurd (none_at i m at);
  }

  pub cuts_follow_opening : CutsFollow (opening h)
  unfolding opening
  cuts_follow_opening part = cuts_first part
