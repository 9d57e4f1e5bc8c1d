-- Each step keeps that all configurations have the ranges after some migrations.
use Rattle.std.proofs.Common.{◌≡◌, inl, inr, ℕ, ◌+◌, ◌==◌, true, List, ◌++◌, refl, sym, ◌∙◌, ap, subst, arith, Some, None}
use Rattle.std.proofs.lemmas.Bool.{cases_Bool}
use Rattle.curp_base.specs.Words.{Each, numbered, numbers_from}
use Rattle.curp_base.proofs.Lists.{Each-at, Each-from_at, Each-map, Each-weaker, at_replicate}
use Rattle.curp_base.proofs.Numbered.{numbered_set_cases, place}
use Rattle.curp_cmd.specs.Node.{client_node, manager_node}
use Rattle.curp_cmd.specs.declared.node.NodeId.{NodeId}
use Rattle.curp_msg.specs.Moved.{Moved, says}
use Rattle.curp_msg.specs.declared.body.Body.{Body}
use Rattle.curp_msg.specs.declared.body.Body.TheVariants as body
use Rattle.curp_msg.specs.declared.config.Config.{Config}
use Rattle.curp_msg.specs.declared.config.PartConfig.{PartConfig}
use Rattle.curp_msg.specs.Input.{Input}
use Rattle.curp_msg.specs.Input as input
use Rattle.curp_msg.specs.declared.message.Message.{Message}
use Rattle.curp_msg.specs.declared.script.Header.{Header}
use Rattle.curp_msg.specs.declared.script.Step.{Step}
use Rattle.curp_range.specs.Spans.{is_covered, with_range, without}
use Rattle.curp_model.specs.Client.{ClientState, client_input}
use Rattle.curp_model.specs.Manager.{ManagerState, Migration, manager_input, moved_part, opening_part}
use Rattle.curp_model.specs.World.{World, messages, opening, opening_client, shape_of, step}
use Rattle.curp_facts.specs.Configs.{Configs, PresentRanges}
use Rattle.curp_facts.specs.Facts.{AtFirst, HasRanges, Migrated, WasMigrated, WasSent, ranges_moved}
use Rattle.curp_facts.specs.Known.{Known}
use Rattle.curp_facts.specs.Routes.{InWork, Routes, order_of}
use Rattle.curp_msg.specs.Script.{IsStep}
use Rattle.curp_law_kept.specs.Deeds.{IsFor}
use Rattle.curp_law_kept.proofs.Gives.{StepCase, step_case, from_manager, sent_back, among_each, moved_messages, sent_cases, ordered_later, has_ranges_later, ranges_later, Follows}
use Rattle.curp_law_runs.proofs.Moves.{step_moves}
use Rattle.curp_law_runs.proofs.Orders.{manager_orders}
use Rattle.curp_law_runs.proofs.Steps.{nothing_sent}
use Rattle.curp_law_runs.specs.Orders.{BeginsMigration, Ends, KeepsRanges, MayOrder, Orders, Stays}
use Rattle.curp_law_runs.specs.Steps.{ByManager, ByOther, ManagerMoves}
use Rattle.curp_law_steps.proofs.Gives.{heard_keeps, ordered_keeps}

-- ---- where the manager stays as it is

module _ {w v : World} (s : Follows w v) (configs : Configs w) where
  before : HasRanges w w.manager.config
  before = configs.present.have

  stays_present : v.manager ≡ w.manager → PresentRanges v
  unfolding before
  stays_present same = record {
    have = record {
      count = before.count;
      ranges = before.ranges;
      after = ranges_later s before.count before.ranges before.after;
      has = subst (λ (g : ManagerState). Each (λ (c : PartConfig). c.ranges ≡ before.ranges c.part) g.config.parts) (sym same) before.has;
    };
    all = λ free. subst (λ (g : ManagerState). before.count + 1 ≡ g.next.migration) (sym same) (configs.present.all (subst (λ (g : ManagerState). g.moving ≡ None) same free));
    but_one = λ m is. configs.present.but_one m (subst (λ (g : ManagerState). g.moving ≡ Some m) same is);
  }

  told_later : (to : NodeId) (config : Config) → WasSent w (says manager_node to (body.Configuration config)) → HasRanges v config
  told_later to config was = has_ranges_later s config (configs.told to config was)

  -- ---- an input to the manager

  module _ (routes : Routes w) (r : Moved ManagerState) (o : Orders w r) (e : messages v ≡ messages w ++ r.messages) (is : v.manager ≡ r.state) where
    -- what is told now is the manager's configuration
    moved_told : (to : NodeId) (config : Config) → WasSent v (says manager_node to (body.Configuration config)) → HasRanges v config
    moved_told to config sent = elim (sent_cases w v r.messages e _ sent) [
      | inl was ↦ told_later to config was
      | inr now ↦
          let own : config ≡ w.manager.config = Each-at (λ (m : Message). MayOrder w r.state.moving m.to m.body) r.messages o.orders now.place _ now.stands in
          has_ranges_later s config (subst (HasRanges w) (sym own) configs.present.have)
    ]

    -- the ranges of the entries stay
    ranges_kept : Each (KeepsRanges w) r.state.config.parts → Each (λ (c : PartConfig). c.ranges ≡ before.ranges c.part) r.state.config.parts
    unfolding before
    ranges_kept keeps = Each-weaker (KeepsRanges w) (λ (c : PartConfig). c.ranges ≡ before.ranges c.part)
        (λ c k. k.its_ranges ∙ among_each (λ (d : PartConfig). d.ranges ≡ before.ranges d.part) w.manager.config.parts before.has k.before k.was ∙ ap before.ranges (sym k.its_part))
        r.state.config.parts keeps

    kept_have : Each (λ (c : PartConfig). c.ranges ≡ before.ranges c.part) r.state.config.parts → HasRanges v v.manager.config
    unfolding before
    kept_have keeps = record {
      count = before.count;
      ranges = before.ranges;
      after = ranges_later s before.count before.ranges before.after;
      has = subst (λ (g : ManagerState). Each (λ (c : PartConfig). c.ranges ≡ before.ranges c.part) g.config.parts) (sym is) keeps;
    }

    moving_now : (m : Migration) → v.manager.moving ≡ Some m → r.state.moving ≡ Some m
    moving_now m its = subst (λ (g : ManagerState). g.moving ≡ Some m) is its

    free_now : v.manager.moving ≡ None → r.state.moving ≡ None
    free_now free = subst (λ (g : ManagerState). g.moving ≡ None) is free

    next_now : v.manager.next.migration ≡ r.state.next.migration
    next_now = ap (λ (g : ManagerState). g.next.migration) is

    -- the migration in work has come after all others, and its source has its range
    abbrev IsNext : Migration → Type 0
    IsNext m = (configs.present.have.count + 1 ≡ m.number) × (is_covered (configs.present.have.ranges m.source) m.range.lo m.range.hi ≡ true)

    stays_work : Stays w r → (m : Migration) → r.state.moving ≡ Some m → IsNext m
    stays_work st m its = elim st.same [
      | inl same ↦ configs.present.but_one m (sym same ∙ its)
      | inr c ↦
          let is_m : record c.0 { moved = Some c.1 } ≡ m = cc (c.3, its) in
          subst IsNext is_m (configs.present.but_one c.0 c.2)
    ]

    stays_free : Stays w r → r.state.moving ≡ None → w.manager.moving ≡ None
    stays_free st free = elim st.same [
      | inl same ↦ sym same ∙ free
      | inr c ↦ absurd (cc (c.3, free))
    ]

    by_stays : Stays w r → PresentRanges v
    unfolding kept_have before
    by_stays st = record {
      have = kept_have (ranges_kept st.ranges);
      all = λ free. configs.present.all (stays_free st (free_now free)) ∙ sym st.next ∙ sym next_now;
      but_one = λ m its. stays_work st m (moving_now m its);
    }

    begins_work : (b : BeginsMigration w r) → IsNext b.m
    begins_work b = (
      configs.present.all b.free ∙ sym b.number,
      subst (λ (part : ℕ). is_covered (configs.present.have.ranges part) b.m.range.lo b.m.range.hi ≡ true) b.its_part
          (ap (λ spans. is_covered spans b.m.range.lo b.m.range.hi) (sym (among_each (λ (d : PartConfig). d.ranges ≡ configs.present.have.ranges d.part) w.manager.config.parts configs.present.have.has b.owner b.present)) ∙ b.covers),
    )

    by_begins : BeginsMigration w r → PresentRanges v
    unfolding kept_have before
    by_begins b = record {
      have = kept_have (subst (λ (x : Config). Each (λ (c : PartConfig). c.ranges ≡ configs.present.have.ranges c.part) x.parts) (sym b.config) configs.present.have.has);
      all = λ free. let none = free_now free in absurd (cc (b.moves, none));
      but_one = λ m its. let there = moving_now m its in let one : b.m ≡ m = cc (there, b.moves) in subst IsNext one (begins_work b);
    }

    -- the range goes from its source to its target
    module _ (ends : Ends w r) where
      work : InWork w ends.m
      work = routes.in_work ends.m ends.was

      was_next : IsNext ends.m
      was_next = configs.present.but_one ends.m ends.was

      migrated : WasMigrated v (configs.present.have.count + 1)
      migrated = record {
        source = ends.m.source;
        target = ends.m.target;
        apart = work.apart;
        order = order_of ends.m;
        ordered = ordered_later s work.ordered;
        its_order = sym was_next.0;
        parcel = ends.parcel;
        given = ordered_later s ends.given;
        its_parcel = ends.its_parcel ∙ sym was_next.0;
      }

      -- the entry has the ranges of after the migration
      abbrev HasMoved : PartConfig → Type 0
      HasMoved c = c.ranges ≡ ranges_moved ends.m.source ends.m.target (order_of ends.m) configs.present.have.ranges c.part

      moved_has : (c : PartConfig) → c.ranges ≡ configs.present.have.ranges c.part → HasMoved (moved_part ends.m c)
      moved_has c has = elim (cases_Bool (c.part == ends.m.source)) [
        | inl out ↦ rw (out, out) (ap (λ spans. without spans ends.m.range.lo ends.m.range.hi) has)
        | inr other ↦ elim (cases_Bool (c.part == ends.m.target)) [
          | inl goes ↦ rw (other, goes, other, goes) (ap (λ spans. with_range spans ends.m.range.lo ends.m.range.hi) has)
          | inr beside ↦ rw (other, beside, other, beside) has
        ]
      ]

      by_ends : PresentRanges v
      unfolding migrated
      by_ends = record {
        have = record {
          count = configs.present.have.count + 1;
          ranges = ranges_moved ends.m.source ends.m.target (order_of ends.m) configs.present.have.ranges;
          after = Migrated configs.present.have.count configs.present.have.ranges (ranges_later s configs.present.have.count configs.present.have.ranges configs.present.have.after) migrated was_next.1;
          has = subst (λ (g : ManagerState). Each HasMoved g.config.parts) (sym is) (subst (Each HasMoved) (sym ends.moved)
              (Each-map HasMoved (moved_part ends.m) w.manager.config.parts
              (Each-weaker (λ (c : PartConfig). c.ranges ≡ configs.present.have.ranges c.part) (λ (c : PartConfig). HasMoved (moved_part ends.m c)) moved_has w.manager.config.parts configs.present.have.has)));
        };
        all = λ free. omega (arith, was_next.0, work.last, ends.next, next_now);
        but_one = λ m its. let there = moving_now m its in absurd (cc (there, ends.free));
      }

    moved_present : PresentRanges v
    moved_present = elim o.change [
      | inl stays ↦ by_stays stays
      | inr changes ↦ elim changes [
        | inl begins ↦ by_begins begins
        | inr ends ↦ by_ends ends
      ]
    ]

  -- ---- clients

  module _ (known : Known w) where
    same_known : v.clients ≡ w.clients → (n : ℕ) (c : ClientState) → numbered v.clients n ≡ Some c → HasRanges v c.config
    same_known same n c here = has_ranges_later s c.config (configs.known n c (subst (λ (cs : List ClientState). numbered cs n ≡ Some c) same here))

    -- a configuration that comes was told by the manager
    comes : (n : ℕ) (m : Message) (config : Config) → IsFor w (client_node n) (input.Message m) → m.body ≡ body.Configuration config → HasRanges v config
    comes n m config for is =
        let sent : WasSent w (says m.from m.to (body.Configuration config)) = subst (λ (b : Body). WasSent w (says m.from m.to b)) is for.1 in
        let manager : m.from ≡ manager_node = from_manager known m.from m.to (body.Configuration config) refl sent in
        told_later m.to config (subst (λ (x : NodeId). WasSent w (says x m.to (body.Configuration config))) manager sent)

    moved_client : (n : ℕ) (c : ClientState) → numbered w.clients n ≡ Some c → (given : Input) → IsFor w (client_node n) given → HasRanges v (client_input n c given).state.config
    moved_client n c here (input.Local order) for =
        let now = has_ranges_later s c.config (configs.known n c here) in
        ordered_keeps (λ (d : ClientState). HasRanges v d.config) c now (λ p. now) n order (λ command part. now)
    moved_client n c here (input.Message m) for =
        let now = has_ranges_later s c.config (configs.known n c here) in
        heard_keeps (λ (d : ClientState). HasRanges v d.config) c now (λ p. now) (λ id. now) n m.from m.body (λ config is. comes n m config for is)

    client_known : StepCase w v → (n : ℕ) (c : ClientState) → numbered v.clients n ≡ Some c → HasRanges v c.config
    client_known (StepCase.Stays is) = same_known (ap (λ (x : World). x.clients) is)
    client_known (StepCase.Rests rests) = same_known (ap (λ (x : World). x.clients) rests.is)
    client_known (StepCase.ByClient n given c here for made key is) = λ m d now. elim (numbered_set_cases w.clients n c (client_input n c given).state here m d
        (subst (λ (x : World). numbered x.clients m ≡ Some d) is now)) [
          | inl other ↦ has_ranges_later s d.config (configs.known m d other.1)
          | inr this ↦ subst (λ (x : ClientState). HasRanges v x.config) this.1 (moved_client n c here given for)
        ]
    client_known (StepCase.ByBackup n given b here for events none is) = same_known (ap (λ (x : World). x.clients) is)
    client_known (StepCase.ByWitness n given x here for events none is) = same_known (ap (λ (x : World). x.clients) is)
    client_known (StepCase.ByMaster n given m here for events none is) = same_known (ap (λ (x : World). x.clients) is)
    client_known (StepCase.ByManager given for events none is) = same_known (ap (λ (x : World). x.clients) is)

-- ---- each step

-- what the manager has, and what it has told
record OfManager (w : World) : Type 0 where
  present : PresentRanges w
  told : (to : NodeId) (config : Config) → WasSent w (says manager_node to (body.Configuration config)) → HasRanges w config

moved_configs : {w : World} → Known w → Routes w → Configs w → (v : World) → ManagerMoves w v → Follows w v → OfManager v
moved_configs {w} known routes configs _ (ByManager given adopted events for) s =
    let r = manager_input w.manager given in
    let o : Orders w r = manager_orders known.names known.inv routes given for in
    let e = moved_messages w adopted events r in
    record { present = moved_present s configs routes r o e refl; told = moved_told s configs routes r o e refl }
moved_configs {w} known routes configs _ (ByOther v b) s =
    record { present = stays_present s configs b.manager; told = λ to config sent. told_later s configs to config (sent_back w v b.out b.sent b.mover b.all _ sent b.not_manager) }

pub step_configs : {w : World} → Known w → Routes w → Configs w → (x : Step) → IsStep x → Follows w (step w x).world → Configs (step w x).world
step_configs {w} known routes configs x its s =
    let m = moved_configs known routes configs (step w x).world (step_moves w (record { names = known.names; nodes = known.nodes }) x) s in
    record { present = m.present; told = m.told; known = client_known s configs known (step_case w known x its) }

-- ---- at the opening

pub opening_configs : (h : Header) → Configs (opening h)
unfolding opening
opening_configs h = record {
  present = record { have = first; all = λ free. omega arith; but_one = λ m is. absurd cc };
  told = λ to config sent. absurd (nothing_sent h _ sent);
  known = λ n c here.
      let p = place (opening h).clients n c here in
      let same : opening_client h ≡ c = (at_replicate h.clients (opening_client h) p.0 c p.2).1 in
      subst (λ (d : ClientState). HasRanges (opening h) d.config) same first;
}
  where
    first : HasRanges (opening h) (opening h).manager.config
    first = record {
      count = 0;
      ranges = _;
      after = AtFirst;
      has = Each-map _ (opening_part (shape_of h)) (numbers_from 1 h.parts) (Each-from_at _ (numbers_from 1 h.parts) (λ k p at. refl));
    }
