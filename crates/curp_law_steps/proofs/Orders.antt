-- What a witness holds stays in order.
use Rattle.std.proofs.Common.{◌≡◌, ℕ, ◌==◌, Bool, true, false, cond, not, T, List, [], ◌∷◌, map, Option, Some, None, refl, ap, sym, subst}
use Rattle.std.specs.List.{filter}
use Rattle.std.specs.FinMap.Entries.{by_order, put, is_sorted, is_sorted-put, where_key, is_sorted-where_key}
use Rattle.std.specs.declared.cmp.Ordering.{Ordering}
use Rattle.std.specs.declared.cmp.Ordering.TheVariants.{Less, Equal, Greater}
use Rattle.std.proofs.lemmas.Bool.{cond_both}
use Rattle.curp_base.proofs.Rising.{keyed}
use Rattle.curp_cmd.specs.RequestId.{id_cmp, has_id}
use Rattle.curp_cmd.specs.declared.command.Request.{Request}
use Rattle.curp_cmd.specs.declared.command.RequestId.{RequestId}
use Rattle.curp_cmd.specs.declared.node.NodeId.{NodeId}
use Rattle.curp_msg.specs.declared.answer.Reason.{Reason}
use Rattle.curp_msg.specs.declared.body.Body.{Body}
use Rattle.curp_msg.specs.declared.body.Body.TheVariants.{Record, Gc, Start, Freeze}
use Rattle.curp_model.specs.declared.Mode.{Mode}
use Rattle.curp_model.specs.declared.Mode.TheVariants.{Idle, Normal, Frozen}
use Rattle.curp_model.specs.Witness.{WitnessState, by_room, collect, collected_at, collected_in, conflict, full_set, gc, hold, holds, newly_held, on_witness, placed, started, stranger_to, survives, suspect, turned_away, unless_turned_away, HeldRequest, AfterRecord, AfterCollection, HoldsInOrder}
use Rattle.curp_model.proofs.Tables.{ids_same, ids_total}

abbrev id_of : HeldRequest → RequestId
id_of x = x.request.id

abbrev pairs : List HeldRequest → List (RequestId × Unit {0})
pairs held = keyed (map id_of held)

abbrev InOrder : List HeldRequest → Type 0
InOrder held = T (is_sorted id_cmp (pairs held))

-- ---- one more in its place

placed_pairs : (x : HeldRequest) (held : List HeldRequest) → pairs (placed x held) ≡ put id_cmp x.request.id tt (pairs held)
placed_pairs x [] = refl
placed_pairs x (y ∷ held) = go (id_cmp x.request.id y.request.id) refl (placed_pairs x held)
  where
    go : (r : Ordering) → id_cmp x.request.id y.request.id ≡ r → pairs (placed x held) ≡ put id_cmp x.request.id tt (pairs held)
        → pairs (by_order r (x ∷ y ∷ held) (x ∷ held) (y ∷ placed x held)) ≡ by_order r ((x.request.id, tt) ∷ pairs (y ∷ held)) ((y.request.id, tt) ∷ pairs held) ((y.request.id, tt) ∷ put id_cmp x.request.id tt (pairs held))
    go Less e rest = refl
    go Equal e rest = ap (λ (id : RequestId). (id, tt) ∷ pairs held) (ids_same x.request.id y.request.id e)
    go Greater e rest = ap (λ (es : List (RequestId × Unit {0})). (y.request.id, tt) ∷ es) rest

placed_in_order : (x : HeldRequest) (held : List HeldRequest) → InOrder held → InOrder (placed x held)
placed_in_order x held s =
    subst (λ (es : List (RequestId × Unit {0})). T (is_sorted id_cmp es)) (sym (placed_pairs x held)) (is_sorted-put id_cmp ids_total x.request.id tt (pairs held) s)

-- ---- the ids stay

suspected_id : (r : Request) (x : HeldRequest) → id_of (suspect r x) ≡ id_of x
suspected_id r x = cond_both _ _ x (λ (y : HeldRequest). id_of y ≡ id_of x) (λ y. refl) (λ n. refl)

suspected_ids : (r : Request) (held : List HeldRequest) → map id_of (map (suspect r) held) ≡ map id_of held
suspected_ids r [] = refl
suspected_ids r (x ∷ held) = λ i. suspected_id r x i ∷ suspected_ids r held i

survived_ids : (held : List HeldRequest) → map id_of (map survives held) ≡ map id_of held
survived_ids [] = refl
survived_ids (x ∷ held) = ap (λ (ids : List RequestId). id_of x ∷ ids) (survived_ids held)

same_ids : (old new : List HeldRequest) → map id_of new ≡ map id_of old → InOrder old → InOrder new
same_ids old new e s = subst (λ (ids : List RequestId). T (is_sorted id_cmp (keyed ids))) (sym e) s

-- ---- some are dropped

filtered_pairs : (p : RequestId → Bool) (held : List HeldRequest) → pairs (filter (λ x. p (id_of x)) held) ≡ where_key id_cmp p (pairs held)
filtered_pairs p [] = refl
filtered_pairs p (x ∷ held) = go (p (id_of x)) (filtered_pairs p held)
  where
    go : (b : Bool) → pairs (filter (λ y. p (id_of y)) held) ≡ where_key id_cmp p (pairs held)
        → pairs (cond b (x ∷ filter (λ y. p (id_of y)) held) (filter (λ y. p (id_of y)) held)) ≡ cond b ((id_of x, tt) ∷ where_key id_cmp p (pairs held)) (where_key id_cmp p (pairs held))
    go true rest = ap (λ (es : List (RequestId × Unit {0})). (id_of x, tt) ∷ es) rest
    go false rest = rest

filtered_in_order : (p : RequestId → Bool) (held : List HeldRequest) → InOrder held → InOrder (filter (λ x. p (id_of x)) held)
filtered_in_order p held s =
    subst (λ (es : List (RequestId × Unit {0})). T (is_sorted id_cmp es)) (sym (filtered_pairs p held)) (is_sorted-where_key id_cmp p (pairs held) s)

-- ---- each input

by_room_in_order : (w : WitnessState) (r : Request) (c : Option RequestId) (full : Option ℕ) → HoldsInOrder w → HoldsInOrder (by_room w r c full).state
by_room_in_order w r (Some held) full s = same_ids w.held (map (suspect r) w.held) (suspected_ids r w.held) s
by_room_in_order w r None (Some set) s = s
by_room_in_order w r None None s = placed_in_order (newly_held r) w.held s

verdict_in_order : (w : WitnessState) (r : Request) (o : Option Reason) → HoldsInOrder w → HoldsInOrder (unless_turned_away w r o).state
verdict_in_order w r (Some why) s = s
verdict_in_order w r None s =
    cond_both (holds w r.id) _ _ (λ (v : AfterRecord). HoldsInOrder v.state) (λ y. s) (λ n. by_room_in_order w r (conflict w r) (full_set w r) s)

collect_in_order : (w : WitnessState) (ids : List RequestId) → HoldsInOrder w → HoldsInOrder (collect w ids)
collect_in_order w ids s =
    let left : List HeldRequest = filter (λ x. not (has_id (id_of x) ids)) w.held in
    same_ids left (map survives left) (survived_ids left) (filtered_in_order (λ id. not (has_id id ids)) w.held s)

collected_mode : (mode : Mode) (w : WitnessState) (ids : List RequestId) → HoldsInOrder w → HoldsInOrder (collected_in mode w ids).state
collected_mode Idle w ids s = s
collected_mode Normal w ids s = collect_in_order w ids s
collected_mode Frozen w ids s = s

collected_epoch : (own : Option ℕ) (w : WitnessState) (epoch : ℕ) (ids : List RequestId) → HoldsInOrder w → HoldsInOrder (collected_at own w epoch ids).state
collected_epoch None w epoch ids s = s
collected_epoch (Some own) w epoch ids s =
    cond_both (own == epoch) _ _ (λ (c : AfterCollection). HoldsInOrder c.state) (λ y. collected_mode w.mode w ids s) (λ n. s)

start_in_order : (mode : Mode) (w : WitnessState) (epoch : ℕ) → HoldsInOrder w → HoldsInOrder (started mode w epoch)
start_in_order Idle w epoch s = s
start_in_order Normal w epoch s = s
start_in_order Frozen w epoch s = s

pub stays_in_order : (n : ℕ) (w : WitnessState) (from : NodeId) (message : Body) → HoldsInOrder w → HoldsInOrder (on_witness n w from message).state
unfolding on_witness hold gc
stays_in_order n w from (Record r) s = verdict_in_order w r.request (turned_away w.mode (stranger_to r.epoch w.epoch)) s
stays_in_order n w from (Gc g) s = collected_epoch w.epoch w g.epoch g.ids s
stays_in_order n w from (Start m) s = start_in_order w.mode w m.epoch s
stays_in_order n w from (Freeze epoch) s = s
stays_in_order n w from _ s = s
