-- One input grows a backup, and a witness.
use Rattle.std.proofs.Common.{◌≡◌, ◌⊎◌, ◌||◌, ◌∷◌, Bool, cond, not, map, ℕ, ◌≤◌, ◌<◌, true, false, subst, List, [], length, nat_lt, refl, arith, Option, Some, None, ◌==◌, sym, ◌∙◌, ap, inl, inr}
use Rattle.std.specs.List.{filter, list_any}
use Rattle.std.specs.FinMap.Entries.{by_order}
use Rattle.std.specs.declared.cmp.Ordering.{Ordering}
use Rattle.std.specs.declared.cmp.Ordering.TheVariants.{Less, Equal, Greater}
use Rattle.curp_cmd.specs.RequestId.{has_id, id_cmp, same_id}
use Rattle.curp_msg.specs.declared.body.Gc.{Gc}
use Rattle.curp_model.proofs.Tables.{ids_same}
use Rattle.curp_cmd.proofs.Ids.{same_id-true}
use Rattle.std.proofs.lemmas.Bool.{cond_both, not-false, or_left, or_right}
use Rattle.std.proofs.lemmas.Bool.Decides.{nat_tests}
use Rattle.curp_base.proofs.Lists.{prefix_self, prefix_push}
use Rattle.curp_cmd.specs.declared.command.Request.{Request}
use Rattle.curp_cmd.specs.declared.command.RequestId.{RequestId}
use Rattle.curp_cmd.specs.declared.entry.Entry.{Entry}
use Rattle.curp_cmd.specs.declared.node.NodeId.{NodeId}
use Rattle.curp_msg.specs.declared.answer.Reason.{Reason}
use Rattle.curp_msg.specs.declared.body.Body.{Body}
use Rattle.curp_msg.specs.declared.body.Body.TheVariants as body
use Rattle.curp_model.specs.declared.Mode.{Mode}
use Rattle.curp_model.specs.declared.Mode.TheVariants.{Idle, Normal, Frozen}
use Rattle.curp_msg.specs.Input.{Input}
use Rattle.curp_msg.specs.Input as input
use Rattle.curp_model.specs.Backup.{AfterAppend, AfterFence, BackupState, append, backup_input, fence, install, installed_once, is_installed_at, on_backup}
use Rattle.curp_model.specs.Witness.{HeldRequest, newly_held, placed, suspect, survives, AfterCollection, AfterRecord, WitnessState, witness_input, by_room, collected_at, collected_in, conflict, freeze, full_set, gc, hold, holds, on_witness, started, stranger_to, turned_away, unless_turned_away}
use Rattle.curp_facts.specs.Growth.{BackupGrows, WitnessGrows}

-- ---- backups

-- a backup that stays
pub backup_self : (b : BackupState) → BackupGrows b b
backup_self b = record { log = prefix_self b.log; fence = omega arith; installed = λ e h. h; fenced = λ e h low. refl; absent = λ a. refl; never = λ a e h. absurd (none e a h) }
  where
    none : (e : ℕ) → b.installed ≡ None → b.installed ≡ Some e → ⊥
    none e a h = cc

appended : (b : BackupState) (epoch base : ℕ) (entries : List Entry) → BackupGrows b (append b epoch base entries).state
unfolding append
appended b epoch base entries =
    cond_both (nat_lt epoch b.fence) _ _ (λ (k : AfterAppend). BackupGrows b k.state) (λ y. backup_self b)
    (λ n. cond_both (not (is_installed_at b.installed epoch)) _ _ (λ (k : AfterAppend). BackupGrows b k.state) (λ y. backup_self b)
    (λ own. cond_both (nat_lt (length b.log) base) _ _ (λ (k : AfterAppend). BackupGrows b k.state) (λ gap. backup_self b)
    (λ reaches. record { log = prefix_push b.log _; fence = omega arith; installed = λ e h. h; fenced = λ e h low. absurd (apart b.installed e h (not-false (is_installed_at b.installed epoch) own) n low); absent = λ a. absurd (missing b.installed a (not-false (is_installed_at b.installed epoch) own)); never = λ a e h. absurd (none e a h) })))
  where
    none : (e : ℕ) → b.installed ≡ None → b.installed ≡ Some e → ⊥
    none e a h = cc

    own : (e : ℕ) → (e == epoch) ≡ true → nat_lt epoch b.fence ≡ false → e < b.fence → ⊥
    own e same above low = grind (arith, nat_tests)

    missing : (o : Option ℕ) → o ≡ None → is_installed_at o epoch ≡ true → ⊥
    missing None e y = absurd cc
    missing (Some k) e y = absurd cc

    apart : (o : Option ℕ) (e : ℕ) → o ≡ Some e → is_installed_at o epoch ≡ true → nat_lt epoch b.fence ≡ false → e < b.fence → ⊥
    apart None e h y above low = absurd cc
    apart (Some k) e h y above low = own e (subst (λ (x : Option ℕ). is_installed_at x epoch ≡ true) h y) above low

installs : (b : BackupState) (epoch : ℕ) (own : Option ℕ) → b.installed ≡ own → nat_lt epoch b.fence ≡ false → BackupGrows b (installed_once b epoch own)
installs b epoch None is above = record { log = prefix_self b.log; fence = omega arith; installed = λ e h. absurd (none e is h); fenced = λ e h low. refl; absent = λ a. refl; never = λ a e h. it e h }
  where
    none : (e : ℕ) → b.installed ≡ None → b.installed ≡ Some e → ⊥
    none e a h = cc

    same : (e : ℕ) → Some epoch ≡ Some e → epoch ≡ e
    same e h = cc

    it : (e : ℕ) → Some epoch ≡ Some e → b.fence ≤ e
    it e h = let i : epoch ≡ e = same e h in grind (arith, nat_tests)
installs b epoch (Some own) is above = backup_self b

fenced : (b : BackupState) (epoch : ℕ) → BackupGrows b (fence b epoch).state
unfolding fence
fenced b epoch =
    cond_both (nat_lt epoch b.fence) _ _ (λ (k : AfterFence). BackupGrows b k.state) (λ y. backup_self b)
    (λ n. record { log = prefix_self b.log; fence = grind (arith, nat_tests); installed = λ e h. h; fenced = λ e h low. refl; absent = λ a. refl; never = λ a e h. absurd (none e a h) })
  where
    none : (e : ℕ) → b.installed ≡ None → b.installed ≡ Some e → ⊥
    none e a h = cc

installs_grows : (b : BackupState) (epoch : ℕ) → BackupGrows b (install b epoch)
installs_grows b epoch = cond_both (nat_lt epoch b.fence) _ _ (BackupGrows b) (λ y. backup_self b) (λ n. installs b epoch b.installed refl n)

-- a message grows a backup
pub backup_grows : (n : ℕ) (b : BackupState) (from : NodeId) (m : Body) → BackupGrows b (on_backup n b from m).state
unfolding on_backup
backup_grows n b from (body.Append a) = appended b a.epoch a.base a.entries
backup_grows n b from (body.Install epoch) = installs_grows b epoch
backup_grows n b from (body.Fence epoch) = fenced b epoch
backup_grows n b from _ = backup_self b

-- and so does any input
pub backup_input_grows : (n : ℕ) (b : BackupState) (given : Input) → BackupGrows b (backup_input n b given).state
backup_input_grows n b (input.Local order) = backup_self b
backup_input_grows n b (input.Message m) = backup_grows n b m.from m.body

-- ---- witnesses

abbrev is_id : RequestId → HeldRequest → Bool
is_id id x = same_id id x.request.id

-- what is placed drops nothing
placed_holds : (x : HeldRequest) (held : List HeldRequest) (id : RequestId) → (list_any (is_id id) held ≡ true) → list_any (is_id id) (placed x held) ≡ true
placed_holds x [] id e = absurd cc
placed_holds x (y ∷ held) id e = go (id_cmp x.request.id y.request.id) refl (is_id id y) refl (placed_holds x held id) e
  where
    go : (r : Ordering) → id_cmp x.request.id y.request.id ≡ r → (b : Bool) → is_id id y ≡ b → (list_any (is_id id) held ≡ true → list_any (is_id id) (placed x held) ≡ true) → (is_id id y || list_any (is_id id) held) ≡ true
        → list_any (is_id id) (by_order r (x ∷ y ∷ held) (x ∷ held) (y ∷ placed x held)) ≡ true
    go Less c b f rest h = or_right (is_id id x) _ h
    go Equal c true f rest h =
        let same : x.request.id ≡ y.request.id = ids_same x.request.id y.request.id c in
        or_left (is_id id x) _ (ap (same_id id) same ∙ f)
    go Equal c false f rest h = or_right (is_id id x) _ (subst (λ (b : Bool). (b || list_any (is_id id) held) ≡ true) f h)
    go Greater c true f rest h = or_left (is_id id y) _ f
    go Greater c false f rest h = or_right (is_id id y) _ (rest (subst (λ (b : Bool). (b || list_any (is_id id) held) ≡ true) f h))

suspect_same : (r : Request) (x : HeldRequest) (id : RequestId) → is_id id (suspect r x) ≡ is_id id x
suspect_same r x id = cond_both _ _ x (λ (y : HeldRequest). is_id id y ≡ is_id id x) (λ y. refl) (λ n. refl)

suspects_same : (r : Request) (held : List HeldRequest) (id : RequestId) → list_any (is_id id) (map (suspect r) held) ≡ list_any (is_id id) held
suspects_same r [] id = refl
suspects_same r (x ∷ held) id = λ i. suspect_same r x id i || suspects_same r held id i

-- what a collection drops is listed
abbrev left : List RequestId → List HeldRequest → List HeldRequest
left ids held = map survives (filter (λ (x : HeldRequest). not (has_id x.request.id ids)) held)

left_holds : (ids : List RequestId) (held : List HeldRequest) (id : RequestId) → list_any (is_id id) held ≡ true → (list_any (is_id id) (left ids held) ≡ true) ⊎ (has_id id ids ≡ true)
left_holds ids [] id e = absurd cc
left_holds ids (x ∷ held) id e = go (has_id x.request.id ids) refl (is_id id x) refl (left_holds ids held id) e
  where
    go : (b : Bool) → has_id x.request.id ids ≡ b → (c : Bool) → is_id id x ≡ c → (list_any (is_id id) held ≡ true → (list_any (is_id id) (left ids held) ≡ true) ⊎ (has_id id ids ≡ true))
        → (is_id id x || list_any (is_id id) held) ≡ true
        → (list_any (is_id id) (map survives (cond (not b) (x ∷ filter (λ (x : HeldRequest). not (has_id x.request.id ids)) held) (filter (λ (x : HeldRequest). not (has_id x.request.id ids)) held))) ≡ true) ⊎ (has_id id ids ≡ true)
    go true l true f rest h = inr (ap (λ (i : RequestId). has_id i ids) (same_id-true id x.request.id f) ∙ l)
    go true l false f rest h = rest (subst (λ (c : Bool). (c || list_any (is_id id) held) ≡ true) f h)
    go false l true f rest h = inl (or_left (is_id id x) _ f)
    go false l false f rest h = elim (rest (subst (λ (c : Bool). (c || list_any (is_id id) held) ≡ true) f h)) [
      | inl more ↦ inl (or_right (is_id id x) _ more)
      | inr listed ↦ inr listed
    ]

-- a message lets a witness drop the id
abbrev pub Drops : Body → WitnessState → RequestId → Type 0
Drops (body.Gc g) x id = (x.epoch ≡ Some g.epoch) × (has_id id g.ids ≡ true)
Drops _ x id = ⊥

-- a witness that stays
pub witness_self : (May : RequestId → Type 0) (x : WitnessState) → WitnessGrows May x x
witness_self May x = record { epoch = λ i e h. h; idle = λ i. i; frozen = λ h. refl; held = λ id h. inl h }

-- what may be dropped may be said more widely
pub witness_weaker : (May Might : RequestId → Type 0) (x y : WitnessState) → ((id : RequestId) → May id → Might id) → WitnessGrows May x y → WitnessGrows Might x y
witness_weaker May Might x y f g = record {
  epoch = g.epoch;
  idle = g.idle;
  frozen = g.frozen;
  held = λ id h. elim (g.held id h) [
    | inl on ↦ inl on
    | inr may ↦ inr (f id may)
  ];
}

module _ (May : RequestId → Type 0) (w : WitnessState) where
  -- where what is held alone changes, in one that isn't frozen
  holds_on : (held : List HeldRequest) → (w.mode ≡ Frozen → ⊥) → ((id : RequestId) → holds w id ≡ true → (list_any (is_id id) held ≡ true) ⊎ May id) → WitnessGrows May w (record w { held = held })
  holds_on held live on = record { epoch = λ i e h. h; idle = λ i. i; frozen = λ h. absurd (live h); held = on }

  by_room_grows : (r : Request) (c : Option RequestId) (full : Option ℕ) → (w.mode ≡ Frozen → ⊥) → WitnessGrows May w (by_room w r c full).state
  by_room_grows r (Some held) full live = holds_on (map (suspect r) w.held) live (λ id h. inl (suspects_same r w.held id ∙ h))
  by_room_grows r None (Some set) live = witness_self May w
  by_room_grows r None None live = holds_on (placed (newly_held r) w.held) live (λ id h. inl (placed_holds (newly_held r) w.held id h))

  turned_grows : (r : Request) (o : Option Reason) → (w.mode ≡ Frozen → o ≡ None → ⊥) → WitnessGrows May w (unless_turned_away w r o).state
  turned_grows r (Some why) live = witness_self May w
  turned_grows r None live =
      cond_both (holds w r.id) _ _ (λ (v : AfterRecord). WitnessGrows May w v.state) (λ y. witness_self May w) (λ n. by_room_grows r (conflict w r) (full_set w r) (λ h. live h refl))

  -- a frozen one turns all away
  frozen_turns : (m : Mode) (o : Option ℕ) → m ≡ Frozen → turned_away m o ≡ None → ⊥
  frozen_turns Idle o f e = absurd cc
  frozen_turns Normal o f e = absurd cc
  frozen_turns Frozen (Some own) f e = absurd cc
  frozen_turns Frozen None f e = absurd cc

  hold_grows : (epoch : ℕ) (r : Request) → WitnessGrows May w (hold w epoch r).state
  unfolding hold
  hold_grows epoch r = turned_grows r (turned_away w.mode (stranger_to epoch w.epoch)) (frozen_turns w.mode (stranger_to epoch w.epoch))

  start_grows : (epoch : ℕ) (m : Mode) → w.mode ≡ m → WitnessGrows May w (started m w epoch)
  start_grows epoch Idle is = record { epoch = λ i e h. absurd (none e (i is) h); idle = λ i h. absurd (normal h); frozen = λ h. absurd (other h); held = λ id h. inl h }
    where
      none : (e : ℕ) → w.epoch ≡ None → w.epoch ≡ Some e → ⊥
      none e a b = cc

      normal : Normal ≡ Idle → ⊥
      normal h = cc

      other : w.mode ≡ Frozen → ⊥
      other h = cc
  start_grows epoch Normal is = witness_self May w
  start_grows epoch Frozen is = witness_self May w

  freeze_grows : WitnessGrows May w (freeze w)
  freeze_grows = record { epoch = λ i e h. h; idle = λ i h. absurd (frozen h); frozen = λ h. ap (λ (m : Mode). record w { mode = m }) (sym h); held = λ id h. inl h }
    where
      frozen : Frozen ≡ Idle → ⊥
      frozen h = cc

module _ (w : WitnessState) (g : Gc) where
  collected_grows : (m : Mode) → w.mode ≡ m → w.epoch ≡ Some g.epoch → WitnessGrows (Drops (body.Gc g) w) w (collected_in m w g.ids).state
  collected_grows Normal is own = holds_on (Drops (body.Gc g) w) w (left g.ids w.held) live (λ id h. listed id (left_holds g.ids w.held id h))
    where
      live : w.mode ≡ Frozen → ⊥
      live h = cc

      listed : (id : RequestId) → (list_any (is_id id) (left g.ids w.held) ≡ true) ⊎ (has_id id g.ids ≡ true) → (list_any (is_id id) (left g.ids w.held) ≡ true) ⊎ Drops (body.Gc g) w id
      listed id (inl on) = inl on
      listed id (inr l) = inr (own, l)
  collected_grows Frozen is own = witness_self (Drops (body.Gc g) w) w
  collected_grows Idle is own = witness_self (Drops (body.Gc g) w) w

  gc_at_grows : (o : Option ℕ) → w.epoch ≡ o → WitnessGrows (Drops (body.Gc g) w) w (collected_at o w g.epoch g.ids).state
  gc_at_grows None is = witness_self (Drops (body.Gc g) w) w
  gc_at_grows (Some own) is = cond_both (own == g.epoch) _ _ (λ (c : AfterCollection). WitnessGrows (Drops (body.Gc g) w) w c.state) (λ y. collected_grows w.mode refl (is ∙ ap Some (same y))) (λ n. witness_self (Drops (body.Gc g) w) w)
    where
      same : (own == g.epoch) ≡ true → own ≡ g.epoch
      same e = grind (arith, nat_tests)

  gc_grows : WitnessGrows (Drops (body.Gc g) w) w (gc w g.epoch g.ids).state
  unfolding gc
  gc_grows = gc_at_grows w.epoch refl

-- a message grows a witness, and a collection alone lets it drop what is listed
pub witness_grows : (n : ℕ) (w : WitnessState) (from : NodeId) (m : Body) → WitnessGrows (Drops m w) w (on_witness n w from m).state
unfolding on_witness
witness_grows n w from (body.Record r) = hold_grows (Drops (body.Record r) w) w r.epoch r.request
witness_grows n w from (body.Gc g) = gc_grows w g
witness_grows n w from (body.Start s) = start_grows (Drops (body.Start s) w) w s.epoch w.mode refl
witness_grows n w from (body.Freeze epoch) = freeze_grows (Drops (body.Freeze epoch) w) w
witness_grows n w from m = witness_self (Drops m w) w

-- an input lets a witness drop the id
abbrev pub Lets : Input → WitnessState → RequestId → Type 0
Lets (input.Local order) x id = ⊥
Lets (input.Message m) x id = Drops m.body x id

-- and so does any input
pub witness_input_grows : (n : ℕ) (w : WitnessState) (given : Input) → WitnessGrows (Lets given w) w (witness_input n w given).state
witness_input_grows n w (input.Local order) = witness_self (Lets (input.Local order) w) w
witness_input_grows n w (input.Message m) = witness_grows n w m.from m.body
