-- The routes of migrations are kept by each step.
use Rattle.std.proofs.Common.{◌≡◌, ◌≢◌, ◌⊎◌, inl, inr, ◌≤◌, ◌<◌, ℕ, ◌+◌, List, ◌++◌, refl, sym, ◌∙◌, ap, subst, arith, Some}
use Rattle.std.proofs.lemmas.Bool.{cases_eq}
use Rattle.curp_base.specs.Words.{Each}
use Rattle.curp_base.proofs.Lists.{Each-at}
use Rattle.curp_cmd.specs.Node.{manager_node}
use Rattle.curp_cmd.specs.declared.node.NodeId.{NodeId}
use Rattle.curp_msg.specs.Moved.{Moved, says}
use Rattle.curp_msg.specs.declared.body.Body.{Body}
use Rattle.curp_msg.specs.declared.body.Body.TheVariants as body
use Rattle.curp_msg.specs.declared.body.Parcel.{Parcel}
use Rattle.curp_msg.specs.declared.body.TakeOut.{TakeOut}
use Rattle.curp_msg.specs.declared.message.Message.{Message}
use Rattle.curp_model.specs.Manager.{ManagerState, Migration, Shape}
use Rattle.curp_model.specs.World.{World, messages}
use Rattle.curp_facts.specs.Facts.{IsMasterOf, WasOrdered, WasSent}
use Rattle.curp_law_kept.proofs.Gives.{sent_cases, sent_now, given_back, sent_back, ordered_later, entry_stored_later, Follows, given_stays, sent_later}
use Rattle.curp_facts.specs.Names.{IsAdoptedMaster, Names}
use Rattle.curp_law_runs.specs.Orders.{BeginsMigration, Ends, MayOrder, Orders, Stays}
use Rattle.curp_facts.specs.Routes.{InWork, IsMigrationDone, IsGiveOf, IsMoving, Routes, order_of}

-- ---- a later world

module _ {w v : World} (s : Follows w v) where
  pub done_later : (number : ℕ) → IsMigrationDone w number → IsMigrationDone v number
  done_later number d = record { source = d.source; taken = d.taken; told = sent_later s d.told; target = d.target; given = entry_stored_later s d.target (IsGiveOf number) d.given }

  -- what was ordered before is ordered, and by names to one partition
  old_order : Names v → (part : ℕ) (b : Body) (k : WasOrdered v part b) → IsAdoptedMaster w k.node → WasSent w (says manager_node k.node b) → WasOrdered w part b
  old_order now part b k master was =
      let same = (now.agree master.lists k.is.lists (given_stays s master.was.given) k.is.given).by_master (master.its_master ∙ sym k.is.its_master) in
      record {
        node = k.node;
        is = record { lists = master.lists; given = master.was.given; its_master = master.its_master; its_part = same.0 ∙ k.is.its_part };
        sent = was;
      }

  -- the partition of a master is one
  one_part : Names v → (part other : ℕ) (node : NodeId) → IsMasterOf v part node → IsMasterOf w other node → part ≡ other
  one_part now part other node is was =
      let same = (now.agree is.lists was.lists is.given (given_stays s was.given)).by_master (is.its_master ∙ sym was.its_master) in
      sym is.its_part ∙ same.0 ∙ was.its_part

-- ---- a step of a node that isn't the manager

module _ {w v : World} (s : Follows w v) (routes : Routes w) (same : v.manager ≡ w.manager)
    (before : (part : ℕ) (b : Body) → WasOrdered v part b → WasOrdered w part b) where
  moving_before : (m : Migration) → v.manager.moving ≡ Some m → w.manager.moving ≡ Some m
  moving_before m is = subst (λ (g : ManagerState). g.moving ≡ Some m) same is

  below_before : (number : ℕ) → number < v.manager.next.migration → number < w.manager.next.migration
  below_before number low = subst (λ (g : ManagerState). number < g.next.migration) same low

  below_after : (number : ℕ) → number < w.manager.next.migration → number < v.manager.next.migration
  below_after number low = subst (λ (g : ManagerState). number < g.next.migration) (sym same) low

  in_work_stays : (m : Migration) → InWork w m → InWork v m
  in_work_stays m work = record {
    last = subst (λ (g : ManagerState). m.number + 1 ≡ g.next.migration) (sym same) work.last;
    ordered = ordered_later s work.ordered;
    to_target = λ part g ordered. work.to_target part g (before part (body.GiveIn g) ordered);
    apart = work.apart;
    source = subst (λ (g : ManagerState). (1 ≤ m.source) × (m.source ≤ g.shape.parts)) (sym same) work.source;
    target = subst (λ (g : ManagerState). (1 ≤ m.target) × (m.target ≤ g.shape.parts)) (sym same) work.target;
  }

  -- where the manager hasn't moved and nothing more was ordered, the routes stay
  pub routes_stay : Routes v
  routes_stay = record {
    first = subst (λ (g : ManagerState). 1 ≤ g.next.migration) (sym same) routes.first;
    takes_given = λ part t o. let g = routes.takes_given part t (before part _ o) in (g.0, below_after t.migration g.1);
    gives_given = λ part g o. let k = routes.gives_given part g (before part _ o) in (k.0, below_after g.migration k.1);
    one_source = λ part other t u a b. routes.one_source part other t u (before part _ a) (before other _ b);
    one_target = λ part other g k a b. routes.one_target part other g k (before part _ a) (before other _ b);
    apart = λ part other t g a b. routes.apart part other t g (before part _ a) (before other _ b);
    in_work = λ m is. in_work_stays m (routes.in_work m (moving_before m is));
    done = λ number low below idle. done_later s number (routes.done number low (below_before number below)
        (λ (is : IsMoving w number). idle (is.0, subst (λ (g : ManagerState). g.moving ≡ Some is.0) (sym same) is.1, is.2)));
  }

-- a step of a client, a master, a backup or a witness keeps the routes
pub others_keep_routes : {w v : World} (s : Follows w v) (out : List Message) (mover : NodeId) → Routes w → (messages v ≡ messages w ++ out) → Each (λ (m : Message). m.from ≡ mover) out
    → manager_node ≢ mover → v.manager ≡ w.manager → Routes v
others_keep_routes {w} {v} s out mover routes e all other same = routes_stay s routes same (λ part b o. record {
  node = o.node;
  is = record { lists = o.is.lists; given = given_back w v out e mover all (ap (λ (g : ManagerState). g.shape) same) other o.is.lists o.is.given; its_master = o.is.its_master; its_part = o.is.its_part };
  sent = sent_back w v out e mover all _ o.sent other;
})

-- ---- a step of the manager

module _ {w v : World} (s : Follows w v) (now : Names v) (routes : Routes w) (r : Moved ManagerState) (o : Orders w r)
    (e : messages v ≡ messages w ++ r.messages) (is : v.manager ≡ r.state) where
  -- what is ordered now to be taken out, or to be given
  abbrev NewTake : ℕ → TakeOut → Type 0
  NewTake part t = (m : Migration) × (r.state.moving ≡ Some m) × (t ≡ order_of m) × (part ≡ m.source)

  abbrev NewGive : ℕ → Parcel → Type 0
  NewGive part g = (m : Migration) × (r.state.moving ≡ Some m) × (g.migration ≡ m.number) × (part ≡ m.target)

  take_cases : (part : ℕ) (t : TakeOut) → WasOrdered v part (body.TakeOut t) → WasOrdered w part (body.TakeOut t) ⊎ NewTake part t
  take_cases part t k = elim (sent_cases w v r.messages e _ k.sent) [
    | inl was ↦ inl (old_order s now part (body.TakeOut t) k (s.names.manager_says k.node (body.TakeOut t) was) was)
    | inr among ↦
        let may : MayOrder w r.state.moving k.node (body.TakeOut t) = Each-at (λ (m : Message). MayOrder w r.state.moving m.to m.body) r.messages o.orders among.place _ among.stands in
        inr (may.0, may.1, may.2, one_part s now part may.0.source k.node k.is may.3)
  ]

  give_cases : (part : ℕ) (g : Parcel) → WasOrdered v part (body.GiveIn g) → WasOrdered w part (body.GiveIn g) ⊎ NewGive part g
  give_cases part g k = elim (sent_cases w v r.messages e _ k.sent) [
    | inl was ↦ inl (old_order s now part (body.GiveIn g) k (s.names.manager_says k.node (body.GiveIn g) was).0 was)
    | inr among ↦
        let may : MayOrder w r.state.moving k.node (body.GiveIn g) = Each-at (λ (m : Message). MayOrder w r.state.moving m.to m.body) r.messages o.orders among.place _ among.stands in
        inr (may.0, may.1, may.2, one_part s now part may.0.target k.node k.is may.3)
  ]

  moving_now : (m : Migration) → v.manager.moving ≡ Some m → r.state.moving ≡ Some m
  moving_now m moving = subst (λ (g : ManagerState). g.moving ≡ Some m) is moving

  moving_then : (m : Migration) → r.state.moving ≡ Some m → v.manager.moving ≡ Some m
  moving_then m moving = subst (λ (g : ManagerState). g.moving ≡ Some m) (sym is) moving

  next_now : v.manager.next.migration ≡ r.state.next.migration
  next_now = ap (λ (g : ManagerState). g.next.migration) is

  shape_now : v.manager.shape ≡ w.manager.shape
  shape_now = s.later.shape

  part_now : (p : ℕ) → (1 ≤ p) × (p ≤ w.manager.shape.parts) → (1 ≤ p) × (p ≤ v.manager.shape.parts)
  part_now p within = (within.0, omega (arith, within.1, ap (λ (x : Shape). x.parts) shape_now))

  -- ---- the migration in work stays

  module _ (stays : Stays w r) where
    -- the migration in work was in work
    was_work : (m : Migration) → r.state.moving ≡ Some m
        → (k : Migration) × (w.manager.moving ≡ Some k) × (order_of k ≡ order_of m) × (k.number ≡ m.number) × (k.source ≡ m.source) × (k.target ≡ m.target)
    was_work m moving = elim stays.same [
      | inl same ↦ (m, sym same ∙ moving, refl, refl, refl, refl)
      | inr c ↦
          let is_m : record c.0 { moved = Some c.1 } ≡ m = cc (c.3, moving) in
          (c.0, c.2, ap (λ (x : Migration). order_of x) is_m, ap (λ (x : Migration). x.number) is_m, ap (λ (x : Migration). x.source) is_m, ap (λ (x : Migration). x.target) is_m)
    ]

    work_stays : (k : Migration) → w.manager.moving ≡ Some k → (m : Migration) × (r.state.moving ≡ Some m) × (m.number ≡ k.number)
    work_stays k was = elim stays.same [
      | inl same ↦ (k, same ∙ was, refl)
      | inr c ↦ let is_k : c.0 ≡ k = cc (c.2, was) in (record c.0 { moved = Some c.1 }, c.3, ap (λ (x : Migration). x.number) is_k)
    ]

    -- no range is ordered to be taken out that wasn't
    old_take : (part : ℕ) (t : TakeOut) → WasOrdered v part (body.TakeOut t) → WasOrdered w part (body.TakeOut t)
    old_take part t k = elim (take_cases part t k) [
      | inl old ↦ old
      | inr new ↦
          let k = was_work new.0 new.1 in
          subst (λ (p : ℕ). WasOrdered w p (body.TakeOut t)) (k.4 ∙ sym new.3)
          (subst (λ (x : TakeOut). WasOrdered w k.0.source (body.TakeOut x)) (k.2 ∙ sym new.2) (routes.in_work k.0 k.1).ordered)
    ]

    -- what is given is given to the target of its number
    old_give : (part : ℕ) (g : Parcel) → WasOrdered v part (body.GiveIn g)
        → WasOrdered w part (body.GiveIn g) ⊎ ((k : Migration) × (w.manager.moving ≡ Some k) × (g.migration ≡ k.number) × (part ≡ k.target))
    old_give part g k = elim (give_cases part g k) [
      | inl old ↦ inl old
      | inr new ↦ let k = was_work new.0 new.1 in inr (k.0, k.1, new.2 ∙ sym k.3, new.3 ∙ sym k.5)
    ]

    next_stays : v.manager.next.migration ≡ w.manager.next.migration
    next_stays = next_now ∙ stays.next

    work_number : (k : Migration) → w.manager.moving ≡ Some k → (1 ≤ k.number) × (k.number < w.manager.next.migration)
    work_number k was = routes.takes_given k.source (order_of k) (routes.in_work k was).ordered

    stays_targets : (part other : ℕ) (g k : Parcel) → WasOrdered v part (body.GiveIn g) → WasOrdered v other (body.GiveIn k) → g.migration ≡ k.migration → part ≡ other
    stays_targets part other g k a b same = elim (old_give part g a) [
      | inl olda ↦ elim (old_give other k b) [
        | inl oldb ↦ routes.one_target part other g k olda oldb same
        | inr newb ↦ (routes.in_work newb.0 newb.1).to_target part g olda (same ∙ newb.2) ∙ sym newb.3
      ]
      | inr newa ↦ elim (old_give other k b) [
        | inl oldb ↦ newa.3 ∙ sym ((routes.in_work newa.0 newa.1).to_target other k oldb (sym same ∙ newa.2))
        | inr newb ↦ let one : newa.0 ≡ newb.0 = cc (newa.1, newb.1) in newa.3 ∙ ap (λ (x : Migration). x.target) one ∙ sym newb.3
      ]
    ]

    stays_apart : (part other : ℕ) (t : TakeOut) (g : Parcel) → WasOrdered v part (body.TakeOut t) → WasOrdered v other (body.GiveIn g) → t.migration ≡ g.migration → part ≢ other
    stays_apart part other t g a b same = elim (old_give other g b) [
      | inl old ↦ routes.apart part other t g (old_take part t a) old same
      | inr new ↦
          let work = routes.in_work new.0 new.1 in
          let source = (routes.one_source part new.0.source t (order_of new.0) (old_take part t a) work.ordered (same ∙ new.2)).0 in
          λ one. work.apart (sym source ∙ one ∙ new.3)
    ]

    stays_work : (m : Migration) → v.manager.moving ≡ Some m → InWork v m
    stays_work m moving =
        let k = was_work m (moving_now m moving) in
        let work = routes.in_work k.0 k.1 in
        record {
          last = ap (λ (n : ℕ). n + 1) (sym k.3) ∙ work.last ∙ sym next_stays;
          ordered = subst (λ (p : ℕ). WasOrdered v p (body.TakeOut (order_of m))) k.4 (subst (λ (x : TakeOut). WasOrdered v k.0.source (body.TakeOut x)) k.2 (ordered_later s work.ordered));
          to_target = λ part g ordered same. elim (old_give part g ordered) [
            | inl old ↦ work.to_target part g old (same ∙ sym k.3) ∙ k.5
            | inr new ↦ let one : new.0 ≡ k.0 = cc (new.1, k.1) in new.3 ∙ ap (λ (x : Migration). x.target) one ∙ k.5
          ];
          apart = λ same. work.apart (k.4 ∙ same ∙ sym k.5);
          source = subst (λ (p : ℕ). (1 ≤ p) × (p ≤ v.manager.shape.parts)) k.4 (part_now k.0.source work.source);
          target = subst (λ (p : ℕ). (1 ≤ p) × (p ≤ v.manager.shape.parts)) k.5 (part_now k.0.target work.target);
        }

    stays_done : (number : ℕ) → 1 ≤ number → number < v.manager.next.migration → (IsMoving v number → ⊥) → IsMigrationDone v number
    stays_done number low below idle = done_later s number (routes.done number low (omega (arith, below, next_stays)) (λ (k : IsMoving w number).
        let m = work_stays k.0 k.1 in idle (m.0, moving_then m.0 m.1, m.2 ∙ k.2)))

    pub stays_routes : Routes v
    stays_routes = record {
      first = omega (arith, routes.first, next_stays);
      takes_given = λ part t k. let g = routes.takes_given part t (old_take part t k) in (g.0, omega (arith, g.1, next_stays));
      gives_given = λ part g k. elim (old_give part g k) [
        | inl old ↦ let b = routes.gives_given part g old in (b.0, omega (arith, b.1, next_stays))
        | inr new ↦ let b = work_number new.0 new.1 in (omega (arith, b.0, new.2), omega (arith, b.1, new.2, next_stays))
      ];
      one_source = λ part other t u a b. routes.one_source part other t u (old_take part t a) (old_take other u b);
      one_target = stays_targets;
      apart = stays_apart;
      in_work = stays_work;
      done = stays_done;
    }

  -- ---- the migration in work is done

  module _ (ends : Ends w r) where
    ends_take : (part : ℕ) (t : TakeOut) → WasOrdered v part (body.TakeOut t) → WasOrdered w part (body.TakeOut t)
    ends_take part t k = elim (take_cases part t k) [ inl old ↦ old | inr new ↦ absurd (cc (new.1, ends.free)) ]

    ends_give : (part : ℕ) (g : Parcel) → WasOrdered v part (body.GiveIn g) → WasOrdered w part (body.GiveIn g)
    ends_give part g k = elim (give_cases part g k) [ inl old ↦ old | inr new ↦ absurd (cc (new.1, ends.free)) ]

    next_ends : v.manager.next.migration ≡ w.manager.next.migration
    next_ends = next_now ∙ ends.next

    ends_done : (number : ℕ) → 1 ≤ number → number < v.manager.next.migration → (IsMoving v number → ⊥) → IsMigrationDone v number
    ends_done number low below idle = elim (cases_eq ends.m.number number) [
      | inl same ↦ subst (IsMigrationDone v) same (done_later s ends.m.number ends.done)
      | inr other ↦ done_later s number (routes.done number low (omega (arith, below, next_ends)) (λ (k : IsMoving w number).
          let one : k.0 ≡ ends.m = cc (k.1, ends.was) in absurd (other (ap (λ (x : Migration). x.number) (sym one) ∙ k.2))))
    ]

    pub ends_routes : Routes v
    ends_routes = record {
      first = omega (arith, routes.first, next_ends);
      takes_given = λ part t k. let g = routes.takes_given part t (ends_take part t k) in (g.0, omega (arith, g.1, next_ends));
      gives_given = λ part g k. let b = routes.gives_given part g (ends_give part g k) in (b.0, omega (arith, b.1, next_ends));
      one_source = λ part other t u a b. routes.one_source part other t u (ends_take part t a) (ends_take other u b);
      one_target = λ part other g k a b. routes.one_target part other g k (ends_give part g a) (ends_give other k b);
      apart = λ part other t g a b. routes.apart part other t g (ends_take part t a) (ends_give other g b);
      in_work = λ m moving. let there = moving_now m moving in absurd (cc (there, ends.free));
      done = ends_done;
    }

  -- ---- a migration begins

  module _ (b : BeginsMigration w r) where
    begun_take : (part : ℕ) (t : TakeOut) → WasOrdered v part (body.TakeOut t) → WasOrdered w part (body.TakeOut t) ⊎ ((t ≡ order_of b.m) × (part ≡ b.m.source))
    begun_take part t k = elim (take_cases part t k) [
      | inl old ↦ inl old
      | inr new ↦ let one : new.0 ≡ b.m = cc (new.1, b.moves) in inr (new.2 ∙ ap (λ (x : Migration). order_of x) one, new.3 ∙ ap (λ (x : Migration). x.source) one)
    ]

    begun_give : (part : ℕ) (g : Parcel) → WasOrdered v part (body.GiveIn g) → WasOrdered w part (body.GiveIn g) ⊎ ((g.migration ≡ b.m.number) × (part ≡ b.m.target))
    begun_give part g k = elim (give_cases part g k) [
      | inl old ↦ inl old
      | inr new ↦ let one : new.0 ≡ b.m = cc (new.1, b.moves) in inr (new.2 ∙ ap (λ (x : Migration). x.number) one, new.3 ∙ ap (λ (x : Migration). x.target) one)
    ]

    next_begun : v.manager.next.migration ≡ w.manager.next.migration + 1
    next_begun = next_now ∙ b.next

    begun_number : (t : TakeOut) → t ≡ order_of b.m → t.migration ≡ w.manager.next.migration
    begun_number t same = ap (λ (x : TakeOut). x.migration) same ∙ b.number

    begun_sources : (part other : ℕ) (t u : TakeOut) → WasOrdered v part (body.TakeOut t) → WasOrdered v other (body.TakeOut u) → t.migration ≡ u.migration → (part ≡ other) × (t.lo ≡ u.lo) × (t.hi ≡ u.hi)
    begun_sources part other t u x y same = elim (begun_take part t x) [
      | inl oldx ↦ elim (begun_take other u y) [
        | inl oldy ↦ routes.one_source part other t u oldx oldy same
        | inr newy ↦ absurd (omega (arith, (routes.takes_given part t oldx).1, same, begun_number u newy.0))
      ]
      | inr newx ↦ elim (begun_take other u y) [
        | inl oldy ↦ absurd (omega (arith, (routes.takes_given other u oldy).1, same, begun_number t newx.0))
        | inr newy ↦
            let one : t ≡ u = newx.0 ∙ sym newy.0 in
            (newx.1 ∙ sym newy.1, ap (λ (z : TakeOut). z.lo) one, ap (λ (z : TakeOut). z.hi) one)
      ]
    ]

    begun_targets : (part other : ℕ) (g k : Parcel) → WasOrdered v part (body.GiveIn g) → WasOrdered v other (body.GiveIn k) → g.migration ≡ k.migration → part ≡ other
    begun_targets part other g k x y same = elim (begun_give part g x) [
      | inl oldx ↦ elim (begun_give other k y) [
        | inl oldy ↦ routes.one_target part other g k oldx oldy same
        | inr newy ↦ absurd (omega (arith, (routes.gives_given part g oldx).1, same, newy.0, b.number))
      ]
      | inr newx ↦ elim (begun_give other k y) [
        | inl oldy ↦ absurd (omega (arith, (routes.gives_given other k oldy).1, same, newx.0, b.number))
        | inr newy ↦ newx.1 ∙ sym newy.1
      ]
    ]

    begun_apart : (part other : ℕ) (t : TakeOut) (g : Parcel) → WasOrdered v part (body.TakeOut t) → WasOrdered v other (body.GiveIn g) → t.migration ≡ g.migration → part ≢ other
    begun_apart part other t g x y same = elim (begun_take part t x) [
      | inl oldx ↦ elim (begun_give other g y) [
        | inl oldy ↦ routes.apart part other t g oldx oldy same
        | inr newy ↦ absurd (omega (arith, (routes.takes_given part t oldx).1, same, newy.0, b.number))
      ]
      | inr newx ↦ elim (begun_give other g y) [
        | inl oldy ↦ absurd (omega (arith, (routes.gives_given other g oldy).1, same, begun_number t newx.0))
        | inr newy ↦ λ one. b.apart (sym newx.1 ∙ one ∙ newy.1)
      ]
    ]

    begun_ordered : WasOrdered v b.m.source (body.TakeOut (order_of b.m))
    begun_ordered = record {
      node = b.node;
      is = record { lists = b.is.lists; given = given_stays s b.is.given; its_master = b.is.its_master; its_part = b.is.its_part };
      sent = sent_now w v r.messages e b.ordered;
    }

    begun_work : InWork v b.m
    begun_work = record {
      last = ap (λ (n : ℕ). n + 1) b.number ∙ sym next_begun;
      ordered = begun_ordered;
      to_target = λ part g ordered same. elim (begun_give part g ordered) [
        | inl old ↦ absurd (omega (arith, (routes.gives_given part g old).1, same, b.number))
        | inr new ↦ new.1
      ];
      apart = b.apart;
      source = part_now b.m.source b.source;
      target = part_now b.m.target b.target;
    }

    begun_done : (number : ℕ) → 1 ≤ number → number < v.manager.next.migration → (IsMoving v number → ⊥) → IsMigrationDone v number
    begun_done number low below idle = elim (cases_eq b.m.number number) [
      | inl same ↦ absurd (idle (b.m, moving_then b.m b.moves, same))
      | inr other ↦ done_later s number (routes.done number low (omega (arith, below, next_begun, b.number, other)) (λ (k : IsMoving w number). absurd (cc (k.1, b.free))))
    ]

    pub begun_routes : Routes v
    begun_routes = record {
      first = omega (arith, routes.first, next_begun);
      takes_given = λ part t k. elim (begun_take part t k) [
        | inl old ↦ let g = routes.takes_given part t old in (g.0, omega (arith, g.1, next_begun))
        | inr new ↦ (omega (arith, begun_number t new.0, routes.first), omega (arith, begun_number t new.0, next_begun))
      ];
      gives_given = λ part g k. elim (begun_give part g k) [
        | inl old ↦ let c = routes.gives_given part g old in (c.0, omega (arith, c.1, next_begun))
        | inr new ↦ (omega (arith, new.0, b.number, routes.first), omega (arith, new.0, b.number, next_begun))
      ];
      one_source = begun_sources;
      one_target = begun_targets;
      apart = begun_apart;
      in_work = λ m moving. let there = moving_now m moving in let one : b.m ≡ m = cc (there, b.moves) in subst (InWork v) one begun_work;
      done = begun_done;
    }

-- a step of the manager keeps the routes
pub manager_keeps_routes : {w v : World} (s : Follows w v) → Names v → Routes w → (r : Moved ManagerState) → Orders w r → messages v ≡ messages w ++ r.messages → v.manager ≡ r.state → Routes v
manager_keeps_routes s now routes r o e is = elim o.change [
  | inl stays ↦ stays_routes s now routes r o e is stays
  | inr more ↦ elim more [
    | inl begins ↦ begun_routes s now routes r o e is begins
    | inr ends ↦ ends_routes s now routes r o e is ends
  ]
]
