-- What a round carries.
use Rattle.std.proofs.Common.{◌≡◌, ◌∙◌, ℕ, zero, suc, ◌+◌, ◌-◌, ◌<◌, ◌≤◌, List, [], ◌∷◌, ◌++◌, length, get_or, map, take, drop, refl, ap, arith}
use Rattle.curp_cmd.specs.Node.{master_node}
use Rattle.curp_cmd.specs.declared.entry.Entry.{Entry}
use Rattle.curp_cmd.specs.declared.node.NodeId.{NodeId}
use Rattle.curp_model.specs.Master.{MasterState, append_to, from_backup}
use Rattle.curp_msg.specs.Moved.{says}
use Rattle.curp_msg.specs.declared.body.Body.TheVariants as body
use Rattle.curp_master.specs.Rounds.{append_from, at_round}

drop_none : {A : Type 0} (n : ℕ) (xs : List A) → xs ≡ [] → drop n xs ≡ []
drop_none zero xs none = none
drop_none (suc n) xs none = rw none refl

-- what is left of what is left behind a first part
drop_rest : {A : Type 0} (n k : ℕ) (xs : List A) → k ≤ n → drop (n - k) (drop k xs) ≡ drop n xs
drop_rest n zero xs below = let same : n - 0 ≡ n = omega arith in rw same refl
drop_rest zero (suc k) xs below = absurd (omega (arith, below))
drop_rest (suc n) (suc k) [] below = drop_none (suc n - suc k) [] refl
drop_rest (suc n) (suc k) (x ∷ xs) below = let same : suc n - suc k ≡ n - k = omega arith in rw same (drop_rest n k xs (omega (arith, below)))

-- a backup gets just what it lacks
pub lacks : (n : ℕ) (m : MasterState) (round stored : ℕ) (more lacking : List Entry) (b : NodeId) → lacking ≡ drop stored (m.log ++ more)
    → stored ≤ (from_backup m.acknowledged b).length → append_from n m round stored lacking b ≡ append_to n (at_round m round more) b
lacks n m round stored more lacking b is below =
    let base = (from_backup m.acknowledged b).length in
    ap (λ (es : List Entry). says (master_node n) b (body.Append (record { epoch = m.epoch; base = base; round = round; entries = es })))
    (ap (λ (es : List Entry). drop (base - stored) es) is ∙ drop_rest base stored (m.log ++ more) below)

-- what a list is mapped to, with an item more
pub map_more : {A B : Type 0} (f : A → B) (xs : List A) (k : ℕ) (d : A) → k < length xs → map f (take k xs) ++ f (get_or xs k d) ∷ [] ≡ map f (take (k + 1) xs)
map_more f [] k d within = absurd (omega (arith, within))
map_more f (x ∷ xs) zero d within = refl
map_more f (x ∷ xs) (suc k) d within = let same : suc k + 1 ≡ suc (k + 1) = omega arith in rw same (ap (λ ys. f x ∷ ys) (map_more f xs k d (omega (arith, within))))
