-- A witness as its slots and its register tell of it, and how it stays one.
use Rattle.std.proofs.Common.{◌≡◌, ℕ, ◌+◌, ◌*◌, ◌==◌, ◌&&◌, ◌||◌, ◌<◌, ◌≤◌, Bool, true, false, cond, nat_lt, not, List, [], ◌∷◌, length, map, get_or, Option, Some, None, refl, ap, sym, ◌∙◌, subst, arith}
use Rattle.std.specs.FinMap.Entries.{by_order}
use Rattle.std.specs.List.{filter, list_any, sum}
use Rattle.std.specs.Option.{option_to_list}
use Rattle.std.specs.declared.cmp.Ordering.{Ordering}
use Rattle.std.specs.declared.cmp.Ordering.TheVariants.{Less, Equal, Greater}
use Rattle.std.proofs.lemmas.Bool.Decides.{nat_tests}
use Rattle.std.proofs.lemmas.List.{length-map}
use Rattle.std.proofs.lemmas.Simd.{map-map}
use Rattle.curp_cmd.specs.Hash.{touches, hashes}
use Rattle.curp_cmd.specs.RequestId.{has_id, id_cmp}
use Rattle.curp_cmd.specs.declared.command.Request.{Request}
use Rattle.curp_cmd.specs.declared.command.RequestId.{RequestId}
use Rattle.curp_base.specs.Words.{Each, first_of}
use Rattle.curp_model.specs.Witness.{WitnessState, collect, conflict, full_set, in_set, is_full, newly_held, placed, suspect, survives, suspects, HeldRequest}
use Rattle.curp_model.specs.declared.Mode.{Mode}
use Rattle.curp_slots.specs.Collection.{suspected_of, what_remains}
use Rattle.curp_slots.specs.Hashed.{requests_of}
use Rattle.curp_slots.specs.Holding.{SlotsTell, TakeSlots, chosen_of, ids_with, slots_of, used_by, with_owners_marked}
use Rattle.curp_slots.specs.Register.{IdsAscend, Registered, is_held}
use Rattle.curp_slots.specs.Slots.{HasSlotsFor, SlotTable, has_no_room, least_full, least_owner, lesser, owner, slots_left, with_slots}
use Rattle.curp_slots.specs.declared.set.Slot.{Slot}
use Rattle.curp_slots.proofs.Apart.{IsHashed, takes_all}
use Rattle.curp_slots.proofs.Accepting.{IsPut, absent_each, all_chosen, either, ids_chosen, ids_put, if_some, length_put, none_chosen, owner_of_all, put_among, put_chosen, put_unchosen, sizes_kept, taken_in_set, total, total_most, total_taken, used_put}
use Rattle.curp_slots.proofs.Filters.{filter_both, map_filter}
use Rattle.curp_slots.proofs.Filling.{filter_below, first_full, in_range, room_for_all}
use Rattle.curp_slots.proofs.Taken.{left_in}
use Rattle.curp_slots.proofs.Touching.{ascend_kept, conflict_least, requests_kept, suspect_keeps, suspects_marked, touches_among}
use Rattle.curp_base.proofs.Lists.{Each-filter}

-- the witness with those slots and that register
abbrev pub witness_of : Mode → Option ℕ → SlotTable → Registered → WitnessState
witness_of mode epoch t register = record { mode = mode; epoch = epoch; sets = length t.sets; ways = t.ways; held = register.held }

module _ (mode : Mode) (epoch : Option ℕ) (t : SlotTable) (register : Registered) (w : SlotsTell t register) (r : Request) (hs : List ℕ) (is : hs ≡ hashes r.command) where
  pub conflict_is : conflict (witness_of mode epoch t register) r ≡ least_owner t.sets hs
  conflict_is = conflict_least t.sets (witness_of mode epoch t register) r w.ascend (takes_all t register w).owners ∙ ap (least_owner t.sets) (sym is)

  full_alike : (s : ℕ) → 0 ≤ s → s < 0 + length t.sets → is_full (witness_of mode epoch t register) r s ≡ has_no_room t hs s
  full_alike s l below =
      let used = ap (λ (ns : List ℕ). sum ns) (sym (map-map (λ (q : Request). in_set (length t.sets) s (hashes q.command)) (λ (x : HeldRequest). x.request) register.held)) ∙ sym ((takes_all t register w).sizes s (omega arith)) in
      λ i. nat_lt t.ways (used i + in_set (length t.sets) s (sym is i))

  pub full_is : full_set (witness_of mode epoch t register) r ≡ least_full t hs hs
  full_is =
      ap (λ (ns : List ℕ). first_of ns) (filter_below (is_full (witness_of mode epoch t register) r) (has_no_room t hs) 0 (length t.sets) full_alike)
      ∙ first_full t hs w.within (in_range (length t.sets) hs w.some_sets)

  pub room_is : least_full t hs hs ≡ None → HasSlotsFor t hs
  room_is none = room_for_all t hs w.within (in_range (length t.sets) hs w.some_sets) none

  pub marked_is : with_owners_marked t.sets hs register.held ≡ map (suspect r) register.held
  marked_is = ap (λ (ks : List ℕ). with_owners_marked t.sets ks register.held) is ∙ suspects_marked t.sets r register.held w.ascend (takes_all t register w).owners

  same_requests : requests_of (map (suspect r) register.held) ≡ requests_of register.held
  same_requests = requests_kept (suspect r) (suspect_keeps r) register.held

  suspected_witness : SlotsTell t (record register { held = map (suspect r) register.held })
  suspected_witness = record {
    some_sets = w.some_sets;
    within = w.within;
    room = w.room;
    ascend = ascend_kept (suspect r) (suspect_keeps r) register.held w.ascend;
    takes = λ c. rw same_requests (w.takes c);
    hashed = rw same_requests w.hashed;
  }

  pub marked_witness : SlotsTell t (record register { held = with_owners_marked t.sets hs register.held })
  marked_witness = rw marked_is suspected_witness

-- ---- one more request

each_placed : (P : Request → Type 0) (x : HeldRequest) (held : List HeldRequest) → P x.request → Each P (requests_of held) → Each P (requests_of (placed x held))
each_placed P x [] p all = (p, tt)
each_placed P x (y ∷ held) p all = go (id_cmp x.request.id y.request.id) (each_placed P x held p all.1)
  where
    go : (r : Ordering) → Each P (requests_of (placed x held)) → Each P (requests_of (by_order r (x ∷ y ∷ held) (x ∷ held) (y ∷ placed x held)))
    go Less rest = (p, all)
    go Equal rest = (p, all.1)
    go Greater rest = (all.0, rest)

lesser_none : (a b : Option RequestId) → lesser id_cmp a b ≡ None → (a ≡ None) × (b ≡ None)
lesser_none None b e = (refl, e)
lesser_none (Some a) None e = absurd cc
lesser_none (Some a) (Some b) e = go (id_cmp a b) e
  where
    go : (r : Ordering) → by_order r (Some a) (Some a) (Some b) ≡ None → (Some a ≡ None) × (Some b ≡ None)
    go Less e = absurd cc
    go Equal e = absurd cc
    go Greater e = absurd cc

none_owned : (sets : List (List Slot)) (hs : List ℕ) → least_owner sets hs ≡ None → (h : ℕ) → list_any (λ x. x == h) hs ≡ true → owner sets h ≡ None
none_owned sets [] none h among = absurd cc
none_owned sets (k ∷ hs) none h among =
    let parts = lesser_none (owner sets k) (least_owner sets hs) none in
    go (k == h) refl parts.0 among (none_owned sets hs parts.1 h)
  where
    go : (b : Bool) → (k == h) ≡ b → owner sets k ≡ None → (b || list_any (λ x. x == h) hs) ≡ true → (list_any (λ x. x == h) hs ≡ true → owner sets h ≡ None) → owner sets h ≡ None
    go true e first among rest = let same : k ≡ h = grind (arith, nat_tests) in subst (λ (n : ℕ). owner sets n ≡ None) same first
    go false e first among rest = rest among

-- a request takes a slot for each of its hashes, which no other has
module _ (sets : List (List Slot)) (requests all : List Request) (told : TakeSlots sets requests) (r : Request) (hs : List ℕ) (is : hs ≡ hashes r.command) (put : IsPut r requests all)
    (alone : (h : ℕ) → list_any (λ x. x == h) hs ≡ true → ids_with h requests ≡ []) (some_sets : 1 ≤ length sets) (some : 1 ≤ length hs) where
  owns_more : (h : ℕ) → ids_with h all ≡ option_to_list (owner (with_slots sets hs r.id) h)
  owns_more h =
      ids_put h r requests all put (list_any (λ x. x == h) hs) touched (alone h)
      ∙ go (list_any (λ x. x == h) hs) refl (owner sets h) refl
      ∙ ap option_to_list (sym (owner_of_all sets hs h r.id some_sets))
    where
      touched : touches r.command h ≡ list_any (λ x. x == h) hs
      touched = touches_among r.command h ∙ ap (list_any (λ x. x == h)) (sym is)

      go : (b : Bool) → list_any (λ x. x == h) hs ≡ b → (o : Option RequestId) → owner sets h ≡ o → cond b (r.id ∷ []) (ids_with h requests) ≡ option_to_list (either o (if_some b r.id))
      go true e None no_owner = refl
      go true e (Some id) owned = let wrong : id ∷ [] ≡ [] = sym (ap option_to_list owned) ∙ sym (told.owners h) ∙ alone h e in absurd cc
      go false e None no_owner = told.owners h ∙ ap option_to_list no_owner
      go false e (Some id) owned = told.owners h ∙ ap option_to_list owned

  pub takes_more : TakeSlots (with_slots sets hs r.id) all
  takes_more =
      let size = sizes_kept sets hs r.id in
      record {
        owners = owns_more;
        sizes = λ s l.
            taken_in_set sets hs r.id s some_sets
            ∙ (λ i. told.sizes s (omega (arith, size)) i + in_set (length sets) s (is i))
            ∙ sym (used_put (length sets) s r requests all put)
            ∙ ap (λ (n : ℕ). used_by n all s) (sym size);
        filled =
            let every = total_taken sets hs r.id some_sets in
            let count = length_put r requests all put in
            omega (arith, every, count, told.filled);
      }

module _ (t : SlotTable) (register : Registered) (w : SlotsTell t register) (r : Request) (hs : List ℕ) (is : hs ≡ hashes r.command)
    (absent : is_held r.id register.held ≡ false) (none : least_owner t.sets hs ≡ None) (room : HasSlotsFor t hs) (some : 1 ≤ length hs) where
  put : IsPut r (requests_of register.held) (requests_of (placed (newly_held r) register.held))
  put = put_among (newly_held r) register.held (absent_each (newly_held r) register.held absent)

  alone : (h : ℕ) → list_any (λ x. x == h) hs ≡ true → ids_with h (requests_of register.held) ≡ []
  alone h among = (takes_all t register w).owners h ∙ ap option_to_list (none_owned t.sets hs none h among)

  takes_chosen : (c : RequestId → Bool) → TakeSlots (map (slots_of c) (with_slots t.sets hs r.id)) (chosen_of c (requests_of (placed (newly_held r) register.held)))
  takes_chosen c = go (c r.id) refl
    where
      go : (b : Bool) → c r.id ≡ b → TakeSlots (map (slots_of c) (with_slots t.sets hs r.id)) (chosen_of c (requests_of (placed (newly_held r) register.held)))
      go true e =
          rw (all_chosen c r.id t.sets hs e)
          (takes_more (map (slots_of c) t.sets) (chosen_of c (requests_of register.held)) (chosen_of c (requests_of (placed (newly_held r) register.held))) (w.takes c) r hs is
          (put_chosen c r (requests_of register.held) (requests_of (placed (newly_held r) register.held)) put e)
          (λ h among. ids_chosen c h (requests_of register.held) (alone h among))
          (rw (length-map t.sets (slots_of c)) w.some_sets) some)
      go false e =
          rw (none_chosen c r.id t.sets hs e, put_unchosen c r (requests_of register.held) (requests_of (placed (newly_held r) register.held)) put e) (w.takes c)

  within_more : (s : ℕ) → s < length t.sets → length (get_or (with_slots t.sets hs r.id) s []) ≤ t.ways
  within_more s l = let size = taken_in_set t.sets hs r.id s w.some_sets in let fits = room s l in omega (arith, size, fits)

  total_room : total (with_slots t.sets hs r.id) ≤ length t.sets * t.ways
  total_room =
      let size = sizes_kept t.sets hs r.id in
      subst (λ (n : ℕ). total (with_slots t.sets hs r.id) ≤ n * t.ways) size (total_most (with_slots t.sets hs r.id) t.ways (λ s l. within_more s (omega (arith, size))))

  -- the register has room for it
  pub room_left : length register.held < register.room
  room_left =
      let all = total_taken t.sets hs r.id w.some_sets in
      let most = total_room in
      let count = length-map register.held (λ (x : HeldRequest). x.request) in
      let filled = (takes_all t register w).filled in
      omega (arith, all, most, count, filled, w.room)

  pub accepted : IdsAscend (placed (newly_held r) register.held) → SlotsTell (record t { sets = with_slots t.sets hs r.id }) (record register { held = placed (newly_held r) register.held })
  accepted ascend =
      let size = sizes_kept t.sets hs r.id in
      record {
        some_sets = omega (arith, size, w.some_sets);
        within = λ s l. within_more s (omega (arith, size));
        room = rw size w.room;
        ascend = ascend;
        takes = takes_chosen;
        hashed = each_placed IsHashed (newly_held r) register.held (subst (λ (ks : List ℕ). 1 ≤ length ks) is some) w.hashed;
      }

-- ---- a collection

module _ (listed ids : List RequestId) (same : (id : RequestId) → has_id id listed ≡ has_id id ids) (t : SlotTable) (register : Registered) where
  abbrev remains : RequestId → Bool
  remains id = not (has_id id listed)

  requests_left : requests_of (map survives (what_remains listed register.held)) ≡ chosen_of remains (requests_of register.held)
  requests_left = map-map (λ (x : HeldRequest). x.request) survives (what_remains listed register.held) ∙ map_filter (λ (x : HeldRequest). x.request) (λ (r : Request). remains r.id) (λ (x : HeldRequest). remains x.request.id) (λ x. refl) register.held

  takes_left : SlotsTell t register → (c : RequestId → Bool) → TakeSlots (map (slots_of c) (map (slots_left listed) t.sets)) (chosen_of c (requests_of (map survives (what_remains listed register.held))))
  takes_left w c =
      let slots : map (slots_of c) (map (slots_left listed) t.sets) ≡ map (slots_of (λ id. remains id && c id)) t.sets =
      map-map (slots_of c) (slots_left listed) t.sets ∙ λ i. map (λ (ss : List Slot). filter_both (λ (s : Slot). c s.id) (λ (s : Slot). remains s.id) ss i) t.sets in
      let requests : chosen_of c (requests_of (map survives (what_remains listed register.held))) ≡ chosen_of (λ id. remains id && c id) (requests_of register.held) =
      ap (chosen_of c) requests_left ∙ filter_both (λ (r : Request). c r.id) (λ (r : Request). remains r.id) (requests_of register.held) in
      rw (slots, requests) (w.takes (λ id. remains id && c id))

  pub left_witness : SlotsTell t register → IdsAscend (map survives (what_remains listed register.held)) → SlotsTell (record t { sets = map (slots_left listed) t.sets }) (record register { held = map survives (what_remains listed register.held) })
  left_witness w ascend =
      let size = length-map t.sets (slots_left listed) in
      record {
        some_sets = omega (arith, size, w.some_sets);
        within = λ s l. let below : s < length t.sets = omega (arith, size) in let fewer = left_in listed t.sets s below in let all = w.within s below in omega (arith, fewer, all);
        room = rw size w.room;
        ascend = ascend;
        takes = takes_left w;
        hashed = rw requests_left (Each-filter IsHashed (λ (r : Request). remains r.id) (requests_of register.held) w.hashed);
      }

  -- what isn't in the set isn't in the list
  remains_alike : what_remains listed register.held ≡ filter (λ x. not (has_id x.request.id ids)) register.held
  remains_alike = λ i. filter (λ (x : HeldRequest). not (same x.request.id i)) register.held

  pub collect_is : (mode : Mode) (epoch : Option ℕ) → witness_of mode epoch (record t { sets = map (slots_left listed) t.sets }) (record register { held = map survives (what_remains listed register.held) }) ≡ collect (witness_of mode epoch t register) ids
  collect_is mode epoch = λ i. record { mode = mode; epoch = epoch; sets = length-map t.sets (slots_left listed) i; ways = t.ways; held = map survives (remains_alike i) }

  pub suspects_are : (mode : Mode) (epoch : Option ℕ) → suspected_of (what_remains listed register.held) ≡ suspects (collect (witness_of mode epoch t register) ids)
  suspects_are mode epoch = ap suspected_of remains_alike ∙ survivors (filter (λ x. not (has_id x.request.id ids)) register.held)
    where
      survivors : (held : List HeldRequest) → suspected_of held ≡ map (λ (x : HeldRequest). x.request) (filter (λ (x : HeldRequest). x.suspected) (map survives held))
      survivors [] = refl
      survivors (x ∷ held) = go x.suspected (survivors held)
        where
          go : (b : Bool) → suspected_of held ≡ map (λ (x : HeldRequest). x.request) (filter (λ (x : HeldRequest). x.suspected) (map survives held))
              → map (λ (x : HeldRequest). x.request) (cond b (x ∷ filter (λ (x : HeldRequest). x.suspected) held) (filter (λ (x : HeldRequest). x.suspected) held))
              ≡ map (λ (x : HeldRequest). x.request) (cond b (survives x ∷ filter (λ (x : HeldRequest). x.suspected) (map survives held)) (filter (λ (x : HeldRequest). x.suspected) (map survives held)))
          go true rest = ap (λ (rs : List Request). x.request ∷ rs) rest
          go false rest = rest
