-- A capture that is ready at an open master is that of a look, and what the look saw is stored. A superseded master's next
-- capture is passed by.
use Rattle.std.proofs.Common.{◌≡◌, inl, inr, ℕ, zero, suc, ◌+◌, ◌<◌, ◌≤◌, ◌&&◌, nat_le, Bool, true, false, length, refl, sym, ◌∙◌, subst, arith}
use Rattle.std.proofs.lemmas.Bool.{cases_lt}
use Rattle.std.proofs.lemmas.Bool.Decides.{nat_tests}
use Rattle.curp_base.specs.Words.{Each}
use Rattle.curp_base.proofs.Lists.{Each-weaker}
use Rattle.curp_cmd.specs.Node.{manager_node}
use Rattle.curp_cmd.specs.declared.node.NodeId.{NodeId}
use Rattle.curp_msg.specs.Moved.{says}
use Rattle.curp_msg.specs.declared.body.Body.TheVariants as body
use Rattle.curp_msg.specs.declared.body.Recover.{Recover}
use Rattle.curp_model.specs.Master.{Captured, MasterState, Open, from_backup, is_ready}
use Rattle.curp_model.specs.Named.{IsBackup, IsMaster}
use Rattle.curp_model.specs.Recovery.{Serving}
use Rattle.curp_model.specs.World.{World}
use Rattle.curp_facts.specs.Facts.{IsAmong, Lists, WasAdopted, WasSent}
use Rattle.curp_facts.specs.Kept.{AdoptionOk, NeverSoLate, PassedBy, lists_of_master}
use Rattle.curp_facts.specs.Nodes.{ServingOk}
use Rattle.curp_facts.specs.Reach.{HasMany, IsReady}
use Rattle.curp_facts.specs.Known.{Known}
use Rattle.curp_law_linear.specs.Line.{LookGives}
use Rattle.curp_law_linear.specs.Ordered.{CaptureOk, IsStored}
use Rattle.curp_law_kept.specs.Moves.{HasAcknowledged}
use Rattle.curp_law_kept.proofs.Gives.{each_tested, acknowledged_many, among_each, no_switch}
use Rattle.curp_facts.specs.Predecessors.{Predecessor, Predecessors}
use Rattle.curp_law_runs.proofs.Gives.{adoptions_ok, order_first, ready}

-- a backup has acknowledged so many entries, and so late a round
pub record HasRound (m : MasterState) (long round : ℕ) (node : NodeId) : Type 0 where
  pub many : HasAcknowledged m long node
  pub late : round ≤ (from_backup m.acknowledged node).round

-- a ready capture has it of each backup
ready_rounds : (m : MasterState) (c : Captured) → is_ready m c ≡ true → Each (HasRound m c.length c.round) m.backups
ready_rounds m c all = each_tested (HasRound m c.length c.round) (λ b. nat_le c.length (from_backup m.acknowledged b).length && nat_le c.round (from_backup m.acknowledged b).round) m.backups (λ b y. one b y) all
  where
    both : (a b : Bool) → (a && b) ≡ true → (a ≡ true) × (b ≡ true)
    both true b e = (refl, e)
    both false b e = absurd cc

    one : (b : NodeId) → (nat_le c.length (from_backup m.acknowledged b).length && nat_le c.round (from_backup m.acknowledged b).round) ≡ true → HasRound m c.length c.round b
    one b y =
        let t = both (nat_le c.length (from_backup m.acknowledged b).length) (nat_le c.round (from_backup m.acknowledged b).round) y in
        let low = t.0 in
        let late = t.1 in
        record { many = grind (arith, nat_tests); late = grind (arith, nat_tests) }

module _ {w : World} (known : Known w) where
  module _ (node : NodeId) (m : MasterState) (is : IsMaster w node (Serving m)) where
    serves : ServingOk w node m
    serves = known.inv.masters node (Serving m) is

    -- no ready list of a master that is open has a larger version
    pub open_last : m.phase ≡ Open → (l : Lists) → IsReady w l → l.master ≡ node → l.version ≤ m.version
    open_last is_open l told master = elim told.told [
      | inl one ↦ let low = (known.names.given (lists_of_master node m) serves.adopted.given).version.0 in omega (arith, one, low)
      | inr other ↦ elim other [
        | inl sent ↦ elim (serves.prepared l.version (subst (λ (z : NodeId). WasSent w (says z manager_node (body.Prepared l.version))) master sent)) [
          | inl low ↦ low
          | inr p ↦ absurd (no_switch is_open p.1)
        ]
        | inr r ↦
            let low = order_first known.names (lists_of_master node m) serves.adopted.given r.order (subst (λ (z : NodeId). WasSent w (says manager_node z (body.Recover r.order))) master r.ordered) in
            omega (arith, low, r.its_version)
      ]
    ]

    -- what a ready capture saw is stored
    pub ready_stored : m.phase ≡ Open → (c : Captured) → c.length ≤ length m.log → is_ready m c ≡ true → IsStored w node m.version c.length
    ready_stored is_open c within all = record {
      its = record { log = m.log; round = m.round };
      its_log = record { m = Serving m; is = is; its_log = refl };
      low = within;
      reach = λ l told master above.
          let top = open_last is_open l told master in
          let one : l ≡ lists_of_master node m = (known.names.agree l (lists_of_master node m) told.given serves.adopted.given).by_version master (omega (arith, top, above)) in
          subst (λ (z : Lists). Each (HasMany w c.length) z.backups) (sym one) many;
    }
      where
        many : Each (HasMany w c.length) m.backups
        many = acknowledged_many w m serves.acknowledged c.length m.backups (Each-weaker (HasRound m c.length c.round) (HasAcknowledged m c.length) (λ b h. h.many) m.backups (ready_rounds m c all))

    module _ (chain : Predecessors w) (is_open : m.phase ≡ Open) (c : Captured) (all : is_ready m c ≡ true) where
      module _ (p : PassedBy w (lists_of_master node m) m c) where
        abbrev own : Lists
        own = lists_of_master node m

        from : Predecessor w p.later
        from = chain p.later p.adopted (omega (arith, (known.names.given own serves.adopted.given).epoch.0, p.above))

        -- the lists before those that came next are the master's own
        before_own : from.before ≡ own
        before_own =
            let above : own.version ≤ from.before.version = from.last own serves.adopted (sym p.its_part) p.above in
            let least : own.epoch ≤ from.before.epoch = known.names.chain own from.before serves.adopted from.was (sym p.its_part ∙ sym from.its_part) above in
            let most : from.before.epoch ≤ own.epoch = elim (cases_lt own.epoch from.before.epoch) [
              | inl later ↦ let low = p.first from.before from.was (from.its_part ∙ p.its_part) later in absurd (omega (arith, low, from.earlier))
              | inr low ↦ omega (arith, low)
            ] in
            let master : from.before.master ≡ node = (known.names.agree from.before own from.was.given serves.adopted.given).by_epoch (from.its_part ∙ p.its_part) (omega (arith, least, most)) in
            let top = open_last is_open from.before (ready known.names known.inv from.before from.was) master in
            (known.names.agree from.before own from.was.given serves.adopted.given).by_version master (omega (arith, top, above))

        named : IsAmong p.order.backup m.backups
        named =
            let one : from.order ≡ p.order = known.names.one_order p.later.master from.order p.order from.ordered p.ordered in
            subst (λ (o : Recover). IsAmong o.backup m.backups) one (subst (λ (l : Lists). IsAmong from.order.backup l.backups) before_own from.its_backup)

        -- so a ready capture wasn't passed by
        passed_none : ⊥
        passed_none =
            let h = among_each (HasRound m c.length c.round) m.backups (ready_rounds m c all) p.order.backup named in
            elim p.passed [
              | inl short ↦
                  let many = among_each (HasMany w c.length) m.backups (acknowledged_many w m serves.acknowledged c.length m.backups (Each-weaker (HasRound m c.length c.round) (HasAcknowledged m c.length) (λ b k. k.many) m.backups (ready_rounds m c all))) p.order.backup named p.b p.is in
                  omega (arith, short, many)
              | inr never ↦ omega (arith, never.known, h.late)
            ]

      -- a ready capture is that of a look
      pub ready_looks : CaptureOk w node m c → LookGives w.marks (record { master = node; epoch = m.epoch; number = c.number }) m.part c.length c.id c.answer
      ready_looks ok = elim ok [
        | inl look ↦ look
        | inr p ↦ absurd (passed_none p)
      ]

  -- ---- the first lists above an epoch

  -- lists of a partition of the least epoch above one
  pub record FirstAbove (part epoch : ℕ) : Type 0 where
    pub lists : Lists
    pub adopted : WasAdopted w lists
    pub its_part : lists.part ≡ part
    pub above : epoch < lists.epoch
    pub first : (o : Lists) → WasAdopted w o → o.part ≡ part → epoch < o.epoch → lists.epoch ≤ o.epoch

  module _ (chain : Predecessors w) where
    first_above : (part epoch : ℕ) → 1 ≤ epoch → (l : Lists) → WasAdopted w l → l.part ≡ part → epoch < l.epoch → FirstAbove part epoch
    first_above part epoch low l was its_part above = go (l.epoch + 1) l was its_part above (omega arith)
      where
        go : (n : ℕ) (l : Lists) → WasAdopted w l → l.part ≡ part → epoch < l.epoch → l.epoch < n → FirstAbove part epoch
        go zero l was its_part above below = absurd (omega (arith, below))
        go (suc n) l was its_part above below =
            let p = chain l was (omega (arith, above, low)) in
            elim (cases_lt epoch p.before.epoch) [
              | inl higher ↦ go n p.before p.was (p.its_part ∙ its_part) higher (omega (arith, p.earlier, below))
              | inr no_higher ↦ record {
                lists = l;
                adopted = was;
                its_part = its_part;
                above = above;
                first = λ o adopted part over. elim (cases_lt o.epoch l.epoch) [
                  | inl earlier ↦
                      let version = p.last o adopted (part ∙ sym its_part) earlier in
                      let least = known.names.chain o p.before adopted p.was (part ∙ sym its_part ∙ sym p.its_part) version in
                      absurd (omega (arith, least, no_higher, over))
                  | inr high ↦ omega (arith, high)
                ];
              }
            ]

    -- A capture for a round that no backup has seen, at a master of an epoch before some other of its partition, is passed by
    pub passed_new : (node : NodeId) (m : MasterState) → IsMaster w node (Serving m) → (c : Captured) → (l : Lists) → WasAdopted w l → l.part ≡ m.part → m.epoch < l.epoch
        → ((b : NodeId) → NeverSoLate w (lists_of_master node m) m c b) → PassedBy w (lists_of_master node m) m c
    passed_new node m is c l was part later never = go (first_above m.part m.epoch (known.names.given (lists_of_master node m) (serves node m is).adopted.given).epoch.0 l was part later)
      where
        go : FirstAbove m.part m.epoch → PassedBy w (lists_of_master node m) m c
        go f =
            let a : AdoptionOk w f.lists = adoptions_ok known.names known.inv chain f.lists f.adopted (omega (arith, f.above, (known.names.given (lists_of_master node m) (serves node m is).adopted.given).epoch.0)) in
            record {
              later = f.lists;
              adopted = f.adopted;
              its_part = f.its_part;
              above = f.above;
              first = f.first;
              order = a.order;
              ordered = a.ordered;
              b = a.sources.b;
              is = subst (λ (z : NodeId). IsBackup w z a.sources.b) (sym a.its_node) a.sources.its_backup;
              fenced = omega (arith, f.above, a.sources.fenced);
              passed = inr (never a.order.backup);
            }
