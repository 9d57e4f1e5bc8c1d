-- The effect of each input on a witness.
use Rattle.std.proofs.Common.{◌≡◌, ◌⊎◌, inl, inr, ℕ, ◌==◌, Bool, true, false, List, [], ◌∷◌, Option, Some, None, refl, ap, sym, ◌∙◌, subst, arith}
use Rattle.std.specs.List.{IsDistinct, filter, list_any}
use Rattle.std.specs.declared.cmp.Ordering.{Ordering}
use Rattle.std.specs.declared.cmp.Ordering.TheVariants.{Less, Equal, Greater}
use Rattle.std.specs.FinMap.Entries.{by_order}
use Rattle.std.proofs.lemmas.Bool.{cond_both, or_left, or_right}
use Rattle.std.proofs.lemmas.Bool.Decides.{nat_tests}
use Rattle.curp_base.specs.Words.{At, Each}
use Rattle.curp_base.proofs.Lists.{Each-from_at, at_map, at_mapped}
use Rattle.curp_cmd.specs.RequestId.{id_cmp, same_id}
use Rattle.curp_cmd.specs.declared.command.Request.{Request}
use Rattle.curp_cmd.specs.declared.command.RequestId.{RequestId}
use Rattle.curp_cmd.specs.declared.node.NodeId.{NodeId}
use Rattle.curp_cmd.proofs.Ids.{same_id-self}
use Rattle.curp_msg.specs.Moved.{Moved, quiet, says}
use Rattle.curp_msg.specs.declared.answer.GcAnswer.{GcAnswer}
use Rattle.curp_msg.specs.declared.answer.Reason.{Reason}
use Rattle.curp_msg.specs.declared.body.Body.{Body}
use Rattle.curp_msg.specs.declared.body.Body.TheVariants as body
use Rattle.curp_msg.specs.declared.body.Gc.{Gc}
use Rattle.curp_msg.specs.declared.body.Record.{Record}
use Rattle.curp_msg.specs.declared.body.Start.{Start}
use Rattle.curp_msg.specs.Input.{Input}
use Rattle.curp_msg.specs.Input as input
use Rattle.curp_model.specs.declared.Mode.{Mode}
use Rattle.curp_model.specs.declared.Mode.TheVariants.{Idle, Normal, Frozen}
use Rattle.curp_model.specs.Laws.{clash}
use Rattle.curp_model.specs.Witness.{AfterCollection, AfterRecord, HeldRequest, WitnessState, by_room, collect, collected_at, collected_in, conflict, full_set, gc, hold, holds, newly_held, on_witness, placed, rejects, started, stranger_to, suspects, turned_away, unless_turned_away, verdict_body, witness_input}
use Rattle.curp_facts.specs.Facts.{IsAmong}
use Rattle.curp_law_kept.specs.Brought.{Brings}
use Rattle.curp_law_kept.specs.WitnessEffect.{ByFreeze, ByStart, GcAnswerSays, HoldsApart, InputSuitsWitness, WitnessAtHome, Stays, SuitsWitness, WitnessAnswers, WitnessEffect, held_requests}
use Rattle.curp_law_kept.proofs.HeldApart.{left_apart, left_from, new_apart, placed_apart, placed_from, suspects_ask}
use Rattle.curp_msg.specs.declared.body.Probe.{Probe}
use Rattle.curp_base.proofs.Numbered.{filter_at}

abbrev has_it : HeldRequest → HeldRequest → Bool
has_it x y = same_id x.request.id y.request.id

-- what is placed is held
placed_itself : (x : HeldRequest) (held : List HeldRequest) → list_any (has_it x) (placed x held) ≡ true
placed_itself x [] = or_left _ _ (same_id-self x.request.id)
placed_itself x (y ∷ held) = go (id_cmp x.request.id y.request.id) (placed_itself x held)
  where
    go : (r : Ordering) → list_any (has_it x) (placed x held) ≡ true → list_any (has_it x) (by_order r (x ∷ y ∷ held) (x ∷ held) (y ∷ placed x held)) ≡ true
    go Less h = or_left _ _ (same_id-self x.request.id)
    go Equal h = or_left _ _ (same_id-self x.request.id)
    go Greater h = or_right (has_it x y) _ h

-- ---- a record

-- what a record leaves: its mode and epoch stay, and what is held was held or is that request
record Holding (w : WitnessState) (at : ℕ) (r : Request) (v : AfterRecord) : Type 0 where
  sets : v.state.sets ≡ w.sets
  ways : v.state.ways ≡ w.ways
  mode : v.state.mode ≡ w.mode
  epoch : v.state.epoch ≡ w.epoch
  held : (q : Request) → IsAmong q (held_requests v.state) → IsAmong q (held_requests w) ⊎ (r ≡ q)
  apart : HoldsApart w → HoldsApart v.state
  accepted : v.reason ≡ None → holds v.state r.id ≡ true
  serves : v.reason ≡ None → (w.mode ≡ Normal) × ((e : ℕ) → w.epoch ≡ Some e → e ≡ at)

module _ (w : WitnessState) (at : ℕ) (r : Request) where
  abbrev Serves : Type 0
  Serves = (w.mode ≡ Normal) × ((e : ℕ) → w.epoch ≡ Some e → e ≡ at)

  turns_away : (why : Reason) → Holding w at r (rejects w why)
  turns_away why = record { sets = refl; ways = refl; mode = refl; epoch = refl; held = λ q a. inl a; apart = λ a. a; accepted = λ e. absurd cc; serves = λ e. absurd cc }

  rooms : holds w r.id ≡ false → (c : Option RequestId) → conflict w r ≡ c → (full : Option ℕ) → Serves → Holding w at r (by_room w r c full)
  rooms other (Some one) is full serves = record {
    sets = refl;
    ways = refl;
    mode = refl;
    epoch = refl;
    held = λ q a. inl (subst (IsAmong q) (suspects_ask r w.held) a);
    apart = λ a. subst (IsDistinct clash) (sym (suspects_ask r w.held)) a;
    accepted = λ e. absurd cc;
    serves = λ e. absurd cc;
  }
  rooms other None is (Some set) serves = turns_away _
  rooms other None is None serves = record {
    sets = refl;
    ways = refl;
    mode = refl;
    epoch = refl;
    held = λ q a. placed_from (newly_held r) w.held a.place q a.stands;
    apart = λ a. placed_apart (newly_held r) w.held (new_apart w r other is) a;
    accepted = λ e. placed_itself (newly_held r) w.held;
    serves = λ e. serves;
  }

  turned : (o : Option Reason) → (o ≡ None → Serves) → Holding w at r (unless_turned_away w r o)
  turned (Some why) serves = turns_away why
  turned None serves = cond_both (holds w r.id) _ _ (Holding w at r)
      (λ y. record { sets = refl; ways = refl; mode = refl; epoch = refl; held = λ q a. inl a; apart = λ a. a; accepted = λ e. y; serves = λ e. serves refl })
      (λ n. rooms n (conflict w r) refl (full_set w r) (serves refl))

  -- one that turns nothing away serves, at that epoch
  serving : (m : Mode) (o : Option ℕ) → turned_away m o ≡ None → (m ≡ Normal) × (o ≡ None)
  serving Idle o e = absurd cc
  serving Normal None e = (refl, refl)
  serving Normal (Some own) e = absurd cc
  serving Frozen None e = absurd cc
  serving Frozen (Some own) e = absurd cc

  no_stranger : (o : Option ℕ) → stranger_to at o ≡ None → (e : ℕ) → o ≡ Some e → e ≡ at
  no_stranger None s e is = absurd cc
  no_stranger (Some own) s e is = sym (cc (is)) ∙ cond_both (own == at) _ _ (λ (x : Option ℕ). x ≡ None → own ≡ at) (λ y n. grind (arith, nat_tests)) (λ n y. absurd cc) s

  holding : Holding w at r (hold w at r)
  unfolding hold
  holding = turned (turned_away w.mode (stranger_to at w.epoch))
      (λ e. let s = serving w.mode (stranger_to at w.epoch) e in (s.0, no_stranger w.epoch s.1))

-- ---- a collection

record Collecting (w : WitnessState) (at : ℕ) (c : AfterCollection) : Type 0 where
  sets : c.state.sets ≡ w.sets
  ways : c.state.ways ≡ w.ways
  mode : c.state.mode ≡ w.mode
  epoch : c.state.epoch ≡ w.epoch
  held : (q : Request) → IsAmong q (held_requests c.state) → IsAmong q (held_requests w)
  apart : HoldsApart w → HoldsApart c.state
  answer : GcAnswerSays c.state at c.answer

-- each suspect is held
suspects_held : (w : WitnessState) → Each (λ (r : Request). IsAmong r (held_requests w)) (suspects w)
suspects_held w = Each-from_at (λ (r : Request). IsAmong r (held_requests w)) (suspects w) (λ k r h. one k r h)
  where
    one : (k : ℕ) (r : Request) → At (suspects w) k r → IsAmong r (held_requests w)
    one k r h =
        let m = at_mapped (λ (x : HeldRequest). x.request) (filter (λ (x : HeldRequest). x.suspected) w.held) k r h in
        let f = filter_at (λ (x : HeldRequest). x.suspected) w.held k m.0 m.1 in
        record { place = f.0; stands = subst (At (held_requests w) f.0) m.2 (at_map (λ (x : HeldRequest). x.request) w.held f.0 m.0 f.1) }

module _ (w : WitnessState) (epoch : ℕ) (ids : List RequestId) where
  untouched : (answer : GcAnswer) → GcAnswerSays w epoch answer → Collecting w epoch (record { state = w; answer = answer })
  untouched answer says = record { sets = refl; ways = refl; mode = refl; epoch = refl; held = λ q a. a; apart = λ a. a; answer = says }

  collects_in : (m : Mode) → w.epoch ≡ Some epoch → Collecting w epoch (collected_in m w ids)
  collects_in Normal own = record {
    sets = refl;
    ways = refl;
    mode = refl;
    epoch = refl;
    held = λ q a. left_from ids w.held a.place q a.stands;
    apart = λ a. left_apart ids w.held a;
    answer = record { held = suspects_held (collect w ids); own = own };
  }
  collects_in Frozen own = untouched _ (record { held = tt; own = own })
  collects_in Idle own = untouched _ tt

  collects_at : (o : Option ℕ) → w.epoch ≡ o → Collecting w epoch (collected_at o w epoch ids)
  collects_at None is = untouched _ tt
  collects_at (Some own) is = cond_both (own == epoch) _ _ (Collecting w epoch) (λ y. collects_in w.mode (is ∙ ap Some (same y))) (λ n. untouched _ tt)
    where
      same : (own == epoch) ≡ true → own ≡ epoch
      same e = grind (arith, nat_tests)

  collecting : Collecting w epoch (gc w epoch ids)
  unfolding gc
  collecting = collects_at w.epoch refl

-- ---- the messages

module _ (n : ℕ) (x : WitnessState) (from to : NodeId) where
  rests : (b : Body) → WitnessEffect n (input.Message (says from to b)) x (quiet x)
  rests b = record { idle = refl; obeys = refl; sets = refl; ways = refl; life = Stays (record { mode = refl; epoch = refl }); held = λ q a. inl a; apart = λ a. a; says = tt }

  record_says : (r : Record) (v : AfterRecord) (given : Input) → Brings given from (body.Record r) → Holding x r.epoch r.request v → (o : Option Reason) → v.reason ≡ o
      → WitnessAnswers given v.state from (verdict_body r.request.id r.epoch o)
  record_says r v given came h None is = record {
    recorded = r;
    came = came;
    id = refl;
    epoch = refl;
    held = h.accepted is;
    serves = h.mode ∙ (h.serves is).0;
    own = λ e own. (h.serves is).1 e (sym h.epoch ∙ own);
  }
  record_says r v given came h (Some why) is = record { recorded = r; came = came; id = refl }

  record_comes : (r : Record) → WitnessEffect n (input.Message (says from to (body.Record r))) x (on_witness n x from (body.Record r))
  unfolding on_witness
  record_comes r =
      let given = input.Message (says from to (body.Record r)) in
      let came : Brings (input.Message (says from to (body.Record r))) from (body.Record r) = record { to = to; is = refl } in
      let v = hold x r.epoch r.request in
      let h = holding x r.epoch r.request in
      record {
        idle = refl;
        obeys = refl;
        sets = h.sets;
        ways = h.ways;
        life = Stays (record { mode = h.mode; epoch = h.epoch });
        held = λ q a. elim (h.held q a) [ inl old ↦ inl old | inr e ↦ inr (record { from = from; recorded = r; came = came; its_request = e }) ];
        apart = h.apart;
        says = (record { sender = refl; says_so = record_says r v given came h v.reason refl }, tt);
      }

  collection_comes : (g : Gc) → WitnessEffect n (input.Message (says from to (body.Gc g))) x (on_witness n x from (body.Gc g))
  unfolding on_witness
  collection_comes g =
      let h = collecting x g.epoch g.ids in
      record {
        idle = refl;
        obeys = refl;
        sets = h.sets;
        ways = h.ways;
        life = Stays (record { mode = h.mode; epoch = h.epoch });
        held = λ q a. inl (h.held q a);
        apart = h.apart;
        says = (record { sender = refl; says_so = record { gc = g; came = record { to = to; is = refl }; epoch = refl; answer = h.answer } }, tt);
      }

  starts : (s : Start) (m : Mode) → x.mode ≡ m → WitnessEffect n (input.Message (says from to (body.Start s))) x (quiet (started m x s.epoch))
  starts s Idle is = record {
    idle = refl;
    obeys = refl;
    sets = refl;
    ways = refl;
    life = ByStart (record { from = from; start = s; came = record { to = to; is = refl }; not_yet = is; serves = refl; epoch = refl });
    held = λ q a. inl a;
    apart = λ a. a;
    says = tt;
  }
  starts s Normal is = rests (body.Start s)
  starts s Frozen is = rests (body.Start s)

  freezes : (order : ℕ) → WitnessEffect n (input.Message (says from to (body.Freeze order))) x (on_witness n x from (body.Freeze order))
  unfolding on_witness
  freezes order =
      let came : Brings (input.Message (says from to (body.Freeze order))) from (body.Freeze order) = record { to = to; is = refl } in
      record {
        idle = refl;
        obeys = refl;
        sets = refl;
        ways = refl;
        life = ByFreeze (record { from = from; order = order; came = came; stands = refl; epoch = refl });
        held = λ q a. inl a;
        apart = λ a. a;
        says = (record { sender = refl; says_so = record { order = order; came = came; stands = refl; all = refl } }, tt);
      }

  probes : (a : Probe) → WitnessEffect n (input.Message (says from to (body.Probe a))) x (on_witness n x from (body.Probe a))
  unfolding on_witness
  probes a = record {
    idle = refl;
    obeys = refl;
    sets = refl;
    ways = refl;
    life = Stays (record { mode = refl; epoch = refl });
    held = λ q a. inl a;
    apart = λ a. a;
    says = (record { sender = refl; says_so = record { probe = a; came = record { to = to; is = refl }; id = refl; epoch = refl; live = refl } }, tt);
  }

  by_message : (b : Body) → WitnessEffect n (input.Message (says from to b)) x (on_witness n x from b)
  unfolding on_witness
  by_message (body.Record r) = record_comes r
  by_message (body.Gc g) = collection_comes g
  by_message (body.Start s) = starts s x.mode refl
  by_message (body.Freeze order) = freezes order
  by_message (body.Probe a) = probes a
  by_message b = rests b

-- what any input does to a witness
pub witness_effect : (n : ℕ) (x : WitnessState) (given : Input) → WitnessEffect n given x (witness_input n x given)
witness_effect n x (input.Local order) = record { idle = refl; obeys = refl; sets = refl; ways = refl; life = Stays (record { mode = refl; epoch = refl }); held = λ q a. inl a; apart = λ a. a; says = tt }
witness_effect n x (input.Message m) = by_message n x m.from m.to m.body

-- ---- at home

module _ (n : ℕ) (epoch : ℕ) (Asked : Request → Type 0) (given : Input) (x : WitnessState) (r : Moved WitnessState) (home : WitnessAtHome epoch Asked x) (suits : InputSuitsWitness epoch Asked given) (e : WitnessEffect n given x r) where
  abbrev y : WitnessState
  y = r.state
