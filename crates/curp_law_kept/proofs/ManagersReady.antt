-- The manager makes no lists ready; and the nodes of lists that it gives are new, or at home with the same master.
use Rattle.std.proofs.Common.{◌≡◌, ◌≢◌, ◌⊎◌, inl, inr, List, ◌++◌, refl, ap, sym, ◌∙◌, subst, arith}
use Rattle.curp_base.specs.Words.{At, Each}
use Rattle.curp_base.proofs.Lists.{Each-at, Each-weaker}
use Rattle.curp_cmd.specs.Node.{manager_node}
use Rattle.curp_cmd.specs.declared.node.NodeId.{NodeId}
use Rattle.curp_cmd.specs.declared.node.NodeKind.{NodeKind}
use Rattle.curp_cmd.specs.declared.node.NodeKind.TheVariants as kind
use Rattle.curp_msg.specs.Moved.{says}
use Rattle.curp_msg.specs.declared.body.Body.{Body}
use Rattle.curp_msg.specs.declared.body.Body.TheVariants as body
use Rattle.curp_msg.specs.declared.body.Prepare.{Prepare}
use Rattle.curp_msg.specs.declared.body.Recover.{Recover}
use Rattle.curp_msg.specs.declared.message.Message.{Message}
use Rattle.curp_model.specs.Manager.{Shape, opening_config}
use Rattle.curp_model.specs.World.{World, messages}
use Rattle.curp_facts.specs.Facts.{AtOpening, ByRecovery, ByReplacement, IsGiven, Lists, PreparedOk, WasSent, lists_of_order, lists_of_prepare}
use Rattle.curp_facts.specs.Growth.{Grows}
use Rattle.curp_facts.specs.Reach.{IsReady, RecoveredTo}
use Rattle.curp_facts.specs.Said.{RecoveredSaid}
use Rattle.curp_law_kept.specs.ManagerEffect.{NewNodes, OrdersOnce, Uttered}
use Rattle.curp_facts.specs.Known.{Known}
use Rattle.curp_law_kept.proofs.Known.{said}
use Rattle.curp_law_kept.proofs.ManagerWorlds.{sent_cases}
use Rattle.curp_law_kept.proofs.Moved.{sent_back}
use Rattle.curp_facts.specs.Names.{Names, RecoverOrderOk, PrepareOk}
use Rattle.curp_law_kept.proofs.Later as names
use Rattle.curp_law_kept.proofs.Later.{Later}
use Rattle.curp_law_kept.proofs.Words.{Follows}

-- a node of another kind isn't the manager
pub other_kind : (node : NodeId) (k : NodeKind) → node.kind ≡ k → k ≢ kind.Manager → node ≢ manager_node
other_kind node k is other same = other (sym is ∙ ap (λ (x : NodeId). x.kind) same)

module _ {w v : World} (known : Known w) (after : Names v) (later : Later w v) (out : List Message) (e : messages v ≡ messages w ++ out) (all : Each (Uttered w) out) where
  pub from_all : Each (λ (m : Message). m.from ≡ manager_node) out
  from_all = Each-weaker (Uttered w) (λ (m : Message). m.from ≡ manager_node) (λ m u. u.from) out all

  -- what a node of another kind has sent, it has sent before
  pub other_sent : (m : Message) → WasSent v m → m.from ≢ manager_node → WasSent w m
  other_sent m sent other = sent_back w v out e manager_node from_all m sent other

  not_manager : (l : Lists) → IsGiven v l → l.master ≢ manager_node
  not_manager l given = other_kind l.master kind.Master (after.given l given).master.0 (λ same. cc)

  -- ---- lists that are ready

  -- lists of version 1 were given before
  pub given_first : (l : Lists) → IsGiven v l → l.version ≡ 1 → IsGiven w l
  given_first _ (AtOpening k c at) one = AtOpening k c (subst (λ (s : Shape). At (opening_config s).parts k c) later.shape at)
  given_first _ (ByRecovery node o sent) one =
      let ok : RecoverOrderOk v node o = after.manager_says node (body.Recover o) sent in
      absurd (omega (arith, one, ok.older, (after.given ok.before ok.was.given).version.0))
  given_first _ (ByReplacement old p before sent) one =
      let ok : PrepareOk v old.master p = after.manager_says old.master (body.Prepare p) sent in
      absurd (omega (arith, one, ok.older, (after.given ok.before ok.was.given).version.0))

  ready_prepared : (l : Lists) → IsGiven v l → WasSent w (says l.master manager_node (body.Prepared l.version)) → IsReady w l
  ready_prepared l given sent =
      let its : PreparedOk w l.master l.version = said known l.master manager_node (body.Prepared l.version) sent in
      let same : l ≡ its.lists = (after.agree l its.lists given (names.given_later later its.lists its.given)).by_version (sym its.its_master) (sym its.its_version) in
      record { given = subst (IsGiven w) (sym same) its.given; told = inr (inl sent) }

  ready_recovered : (l : Lists) → IsGiven v l → RecoveredTo v l → IsReady w l
  ready_recovered l given r =
      let sent = other_sent _ r.told (not_manager l given) in
      let its : RecoveredSaid w l.master (record { part = l.part; epoch = l.epoch }) = said known l.master manager_node (body.Recovered (record { part = l.part; epoch = l.epoch })) sent in
      let order : r.order ≡ its.holds.order = after.one_order l.master r.order its.holds.order r.ordered (later.sent _ its.holds.sent) in
      let version : its.holds.order.version ≡ l.version = ap (λ (o : Recover). o.version) (sym order) ∙ r.its_version in
      let ordered : IsGiven w (lists_of_order l.master its.holds.order) = ByRecovery l.master its.holds.order its.holds.sent in
      let same : l ≡ lists_of_order l.master its.holds.order
      = (after.agree l (lists_of_order l.master its.holds.order) given (names.given_later later _ ordered)).by_version refl (sym version) in
      record {
        given = subst (IsGiven w) (sym same) ordered;
        told = inr (inr (record { order = its.holds.order; ordered = its.holds.sent; its_version = version; told = sent }));
      }

  -- lists that are ready were so before
  pub ready_before : (l : Lists) → IsReady v l → IsReady w l
  ready_before l ready = elim ready.told [
    | inl one ↦ record { given = given_first l ready.given one; told = inl one }
    | inr told ↦ elim told [
      | inl prepared ↦ ready_prepared l ready.given (other_sent _ prepared (not_manager l ready.given))
      | inr r ↦ ready_recovered l ready.given r
    ]
  ]

  pub manager_follows : Grows w v → Follows w v
  manager_follows grows = record { grows = grows; later = later; names = known.names; steady = known.steady; ready = λ l ready. inl (ready_before l ready) }

  -- ---- lists that are given

  orders_back : (node : NodeId) (b : Body) → WasSent v (says manager_node node b) → WasSent w (says manager_node node b) ⊎ OrdersOnce w node b
  orders_back node b sent = elim (sent_cases w v out e (says manager_node node b) sent) [
    | inl was ↦ inl was
    | inr now ↦ inr (Each-at (Uttered w) out all now.place (says manager_node node b) now.stands).orders
  ]

  -- lists for new lists that were sent before
  prepared_before : (old : Lists) (p : Prepare) → IsGiven v old → WasSent w (says manager_node old.master (body.Prepare p)) → IsGiven w (lists_of_prepare old p)
  prepared_before old p before sent =
      let ok : PrepareOk w old.master p = known.names.manager_says old.master (body.Prepare p) sent in
      let its : IsGiven w (lists_of_prepare ok.before p)
      = ByReplacement ok.before p ok.was.given (subst (λ (x : NodeId). WasSent w (says manager_node x (body.Prepare p))) (sym ok.its_master) sent) in
      let agree = (after.agree ok.before old (names.given_later later ok.before ok.was.given) before).by_master ok.its_master in
      let same : lists_of_prepare ok.before p ≡ lists_of_prepare old p = cc (agree.0, agree.1, ok.its_master) in
      subst (IsGiven w) same its

  -- lists were given before, or each of their nodes is new, or at home with the same master
  pub given_cases : (l : Lists) → IsGiven v l → IsGiven w l ⊎ NewNodes w l.master l.backups l.witnesses
  given_cases _ (AtOpening k c at) = inl (AtOpening k c (subst (λ (s : Shape). At (opening_config s).parts k c) later.shape at))
  given_cases _ (ByRecovery node o sent) = elim (orders_back node (body.Recover o) sent) [
    | inl was ↦ inl (ByRecovery node o was)
    | inr orders ↦ elim orders [ inl was ↦ inl (ByRecovery node o was) | inr new ↦ inr new ]
  ]
  given_cases _ (ByReplacement old p before sent) = elim (orders_back old.master (body.Prepare p) sent) [
    | inl was ↦ inl (prepared_before old p before was)
    | inr orders ↦ elim orders [ inl was ↦ inl (prepared_before old p before was) | inr new ↦ inr new ]
  ]
