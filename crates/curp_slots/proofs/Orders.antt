-- What is held stands in ascending order of the ids.
use Rattle.std.proofs.Common.{◌≡◌, Bool, true, false, ◌&&◌, T, List, [], ◌∷◌, map, sym, subst}
use Rattle.std.specs.Ordering.{is_lt}
use Rattle.std.specs.FinMap.Entries.{below_all}
use Rattle.std.specs.declared.cmp.Ordering.{Ordering}
use Rattle.std.specs.declared.cmp.Ordering.TheVariants.{Less}
use Rattle.curp_base.specs.Words.{Ascend, Each}
use Rattle.curp_cmd.specs.RequestId.{id_cmp}
use Rattle.curp_cmd.specs.declared.command.RequestId.{RequestId}
use Rattle.curp_model.specs.Witness.{HeldRequest}
use Rattle.curp_slots.specs.Register.{IdsAscend}

both : (a b : Bool) → T a → T b → T (a && b)
both true b p q = q
both false b p q = p

below : (id : RequestId) (held : List HeldRequest) → Each (λ (y : HeldRequest). id_cmp id y.request.id ≡ Less) held
    → T (below_all id_cmp id (map (λ key. (key, tt {0})) (map (λ (x : HeldRequest). x.request.id) held)))
below id [] all = tt
below id (x ∷ held) all = both _ _ (subst (λ (r : Ordering). T (is_lt r)) (sym all.0) tt) (below id held all.1)

pub in_order : (held : List HeldRequest) → IdsAscend held → Ascend id_cmp (map (λ (x : HeldRequest). x.request.id) held)
in_order [] s = tt
in_order (x ∷ held) s = both _ _ (below x.request.id held s.0) (in_order held s.1)
