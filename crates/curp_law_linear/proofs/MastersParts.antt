-- The partitions of the machine after an input to a master: all stay, or that of the master has its new log.
use Rattle.std.proofs.Common.{◌≡◌, ◌≢◌, ℕ, zero, suc, ◌-◌, true, false, List, [], ◌∷◌, map, set, refl, ap, ap₂, sym, ◌∙◌, subst, arith, Option, Some}
use Rattle.curp_base.specs.Words.{At, numbered}
use Rattle.curp_cmd.specs.Node.{master_node, same_node}
use Rattle.curp_cmd.specs.declared.node.NodeId.{NodeId}
use Rattle.curp_cmd.specs.declared.node.NodeKind.TheVariants as kind
use Rattle.curp_cmd.proofs.Nodes.{same_node-self, same_node-true}
use Rattle.curp_msg.specs.declared.body.Body.{Body}
use Rattle.curp_msg.specs.declared.config.PartConfig.{PartConfig}
use Rattle.curp_msg.specs.declared.message.Message.{Message}
use Rattle.curp_model.specs.Manager.{ManagerState}
use Rattle.curp_model.specs.Named.{IsMaster}
use Rattle.curp_model.specs.Ranges.{opening_range}
use Rattle.curp_model.specs.Recovery.{MasterStage}
use Rattle.curp_model.specs.World.{World, is_adopted}
use Rattle.curp_facts.specs.Facts.{IsAdoptedNow, lists_of_part, node_log}
use Rattle.curp_facts.specs.Known.{Known}
use Rattle.curp_law_kept.proofs.Gives.{MasterStep, master_there}
use Rattle.curp_law_linear.specs.Hashes.{Part}
use Rattle.curp_law_linear.specs.Moves.{relogged}
use Rattle.curp_law_linear.specs.OfWorld.{entries_at, line_of, logged_entries, part_of}
use Rattle.curp_base.proofs.Numbered.{any_at}
use Rattle.curp_facts.specs.Names.{IsOf}
use Rattle.curp_base.proofs.Lists.{at_any}

map_same : {A B : Type 0} (f g : A → B) (xs : List A) → ((k : ℕ) (x : A) → At xs k x → f x ≡ g x) → map f xs ≡ map g xs
map_same f g [] same = refl
map_same f g (x ∷ xs) same = ap₂ (λ y ys. y ∷ ys) (same 0 x refl) (map_same f g xs (λ k y at. same (suc k) y at))

-- one item alone is made another way
map_set : {A B : Type 0} (f g : A → B) (xs : List A) (i : ℕ) (x : A) (y : B) → At xs i x → f x ≡ y → ((k : ℕ) (z : A) → k ≢ i → At xs k z → f z ≡ g z) → map f xs ≡ set (map g xs) i y
map_set f g [] i x y at it same = absurd cc
map_set f g (z ∷ xs) zero x y at it same = let here : z ≡ x = cc in ap₂ (λ a b. a ∷ b) (ap f here ∙ it) (map_same f g xs (λ k u there. same (suc k) u (omega arith) there))
map_set f g (z ∷ xs) (suc i) x y at it same = ap₂ (λ a b. a ∷ b) (same 0 z (omega arith) refl) (map_set f g xs i x y at it (λ k u other there. same (suc k) u (omega (arith, other)) there))

-- a list with an item of its own set is the list
pub set_self : {A : Type 0} (xs : List A) (n : ℕ) (x : A) → numbered xs n ≡ Some x → set xs (n - 1) x ≡ xs
set_self xs zero x h = absurd cc
set_self {A} xs (suc k) x h = ap (λ (i : ℕ). set xs i x) (omega arith) ∙ go xs k h
  where
    go : (xs : List A) (k : ℕ) → At xs k x → set xs k x ≡ xs
    go [] k h = refl
    go (y ∷ xs) zero h = let same : y ≡ x = cc in ap (λ z. z ∷ xs) (sym same)
    go (y ∷ xs) (suc k) h = ap (λ zs. y ∷ zs) (go xs k h)

module _ {w v : World} (known : Known w) (n : ℕ) (from : NodeId) (heard : Option Body) (m k : MasterStage) (out : List Message) (step : MasterStep w v n from heard m k out) where
  -- ---- entries

  -- each entry is the present one of its partition
  now_at : (j : ℕ) (d : PartConfig) → At w.manager.config.parts j d → IsAdoptedNow w d
  now_at j d at = let its : d.part ≡ suc j = omega (arith, known.names.entries j d at) in subst (λ (i : ℕ). numbered w.manager.config.parts i ≡ Some d) (sym its) at

  place_of : (d : PartConfig) → IsAdoptedNow w d → (j : ℕ) × (d.part ≡ suc j) × At w.manager.config.parts j d
  place_of d now = go d.part refl now
    where
      go : (i : ℕ) → d.part ≡ i → numbered w.manager.config.parts i ≡ Some d → (j : ℕ) × (d.part ≡ suc j) × At w.manager.config.parts j d
      go zero is h = absurd cc
      go (suc j) is h = (j, is, h)

  -- an adopted master stands in an entry
  pub adopted_in : is_adopted w.manager (master_node n) ≡ true → (c : PartConfig) × IsAdoptedNow w c × (c.master ≡ master_node n)
  adopted_in is =
      let a = any_at (λ (c : PartConfig). same_node c.master (master_node n)) w.manager.config.parts is in
      (a.1, now_at a.0 a.1 a.2, same_node-true a.1.master (master_node n) a.3)

  -- one that isn't stands in none
  pub adopted_out : is_adopted w.manager (master_node n) ≡ false → (d : PartConfig) → IsAdoptedNow w d → d.master ≢ master_node n
  adopted_out is d now same =
      let p = place_of d now in
      let found = at_any (λ (c : PartConfig). same_node c.master (master_node n)) w.manager.config.parts p.0 d p.2
      (subst (λ (x : NodeId). same_node x (master_node n) ≡ true) (sym same) (same_node-self (master_node n))) in
      cc (is, found)

  -- ---- logs

  abbrev part_by : PartConfig → ManagerState → Option MasterStage → Part
  part_by d g o = record { lo = (opening_range g.shape.parts d.part).lo; hi = (opening_range g.shape.parts d.part).hi; log = entries_at o }

  -- another master stays
  pub other_master : (node : NodeId) → IsOf w kind.Master node → node ≢ master_node n → numbered v.masters node.number ≡ numbered w.masters node.number
  other_master node of other =
      let x = master_there w node of in
      let y = step.grows.masters node.number x.0 x.1.its_state in
      let back : IsMaster w node y.0 = step.others node y.0 other (record { its_kind = of.0; its_state = y.1 }) in
      y.1 ∙ sym back.its_state

  -- and so its log
  pub other_part : (d : PartConfig) → IsAdoptedNow w d → d.master ≢ master_node n → part_of v d ≡ part_of w d
  other_part d now other = ap₂ (part_by d) step.frame.manager (other_master d.master (known.names.given (lists_of_part d) (known.names.top d now).was.given).master other)

  pub own_log_before : (node : NodeId) → node ≡ master_node n → entries_at (numbered w.masters node.number) ≡ logged_entries (node_log m)
  own_log_before node its = ap entries_at (ap (λ (x : NodeId). numbered w.masters x.number) its ∙ step.was.its_state)

  pub own_log_after : (node : NodeId) → node ≡ master_node n → entries_at (numbered v.masters node.number) ≡ logged_entries (node_log k)
  own_log_after node its = ap entries_at (ap (λ (x : NodeId). numbered v.masters x.number) its ∙ step.is.its_state)

  -- the master's own
  pub own_before : (d : PartConfig) → d.master ≡ master_node n → part_of w d ≡ part_by d w.manager (Some m)
  own_before d its = ap (part_by d w.manager) (ap (λ (x : NodeId). numbered w.masters x.number) its ∙ step.was.its_state)

  pub own_after : (d : PartConfig) → d.master ≡ master_node n → part_of v d ≡ part_by d w.manager (Some k)
  own_after d its = ap₂ (part_by d) step.frame.manager (ap (λ (x : NodeId). numbered v.masters x.number) its ∙ step.is.its_state)

  -- ---- partitions

  entries_same : (line_of v).parts ≡ map (part_of v) w.manager.config.parts
  entries_same = ap (λ (g : ManagerState). map (part_of v) g.config.parts) step.frame.manager

  -- where the log of the master stays, or it isn't adopted, all partitions stay
  pub parts_stay : ((d : PartConfig) → IsAdoptedNow w d → part_of v d ≡ part_of w d) → (line_of v).parts ≡ (line_of w).parts
  parts_stay same = entries_same ∙ map_same (part_of v) (part_of w) w.manager.config.parts (λ j d at. same d (now_at j d at))

  -- no other entry has the master
  pub alone : (c d : PartConfig) → IsAdoptedNow w c → IsAdoptedNow w d → c.master ≡ master_node n → d.part ≢ c.part → d.master ≢ master_node n
  alone c d now other its apart same =
      let a = known.names.agree (lists_of_part d) (lists_of_part c) (known.names.top d other).was.given (known.names.top c now).was.given in
      apart (a.by_master (same ∙ sym its)).0

  -- else its partition has its new log
  pub parts_grow : (c : PartConfig) → IsAdoptedNow w c → c.master ≡ master_node n → (line_of v).parts ≡ relogged (line_of w).parts c.part (part_of w c) (logged_entries (node_log k))
  parts_grow c now its =
      let p = place_of c now in
      let index : p.0 ≡ c.part - 1 = omega (arith, p.1) in
      entries_same
      ∙ map_set (part_of v) (part_of w) w.manager.config.parts p.0 c (record (part_of w c) { log = logged_entries (node_log k) }) p.2 (own_after c its)
      (λ j d apart at. let here = now_at j d at in other_part d here (alone c d now here its (omega (arith, p.1, known.names.entries j d at, apart))))
      ∙ ap (λ (i : ℕ). set (line_of w).parts i (record (part_of w c) { log = logged_entries (node_log k) })) index
