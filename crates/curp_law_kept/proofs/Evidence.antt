-- The evidence for pending requests, as it comes, and when it is enough.
use Rattle.std.proofs.Common.{◌≡◌, ℕ, ◌==◌, ◌&&◌, true, List, [], ◌∷◌, ◌++◌, Some, ap, ◌∙◌, subst, Option}
use Rattle.std.specs.List.{list_any}
use Rattle.std.proofs.lemmas.Bool.{and_parts, cond_both}
use Rattle.curp_base.specs.Words.{Each}
use Rattle.curp_base.proofs.Lists.{Each-append, Each-at}
use Rattle.curp_cmd.specs.Node.{same_node}
use Rattle.curp_cmd.specs.declared.node.NodeId.{NodeId}
use Rattle.curp_cmd.proofs.Nodes.{same_node-true}
use Rattle.curp_msg.specs.declared.body.Body.{Body}
use Rattle.curp_msg.specs.declared.body.Body.TheVariants as body
use Rattle.curp_msg.specs.declared.config.PartConfig.{PartConfig}
use Rattle.curp_model.specs.Client.{Accept, Attempt, Early, Pending, all_accepted, has_accepted, is_told, proved_answer, proves, with_accept, with_early, Glimpse, all_live, is_glimpsed, is_seen, seen_glimpse, with_glimpse}
use Rattle.curp_base.proofs.Numbered.{any_at, filter_at}
use Rattle.curp_facts.specs.Evidence.{AcceptCame, EarlyCame, EvidenceOk, IsAttempt, GlimpseCame, LiveCame}
use Rattle.curp_law_kept.specs.ClientEffect.{ByAccepts, ByQuick}
use Rattle.curp_law_kept.proofs.ImagesOfLists.{each_by_all, first_at}
use Rattle.curp_msg.specs.declared.machine.Capture.{Capture}
use Rattle.curp_cmd.proofs.Apart.{number_is}

-- ---- evidence comes

-- one more unsynced reply
pub early_each : (P : Early → Type 0) (early : List Early) (e : Early) → Each P early → P e → Each P (with_early early e)
early_each P early e all one = cond_both (list_any (is_told e) early) early (early ++ e ∷ []) (Each P) (λ y. all) (λ n. Each-append P early (e ∷ []) all (one, tt))

-- one more accept
pub accepts_each : (P : Accept → Type 0) (accepts : List Accept) (a : Accept) → Each P accepts → P a → Each P (with_accept accepts a)
accepts_each P accepts a all one = cond_both (has_accepted accepts a.epoch a.witness) accepts (accepts ++ a ∷ []) (Each P) (λ y. all) (λ n. Each-append P accepts (a ∷ []) all (one, tt))

-- one more Quick
pub glimpses_each : (P : Glimpse → Type 0) (glimpses : List Glimpse) (g : Glimpse) → Each P glimpses → P g → Each P (with_glimpse glimpses g)
glimpses_each P glimpses g all one = cond_both (list_any (is_glimpsed g) glimpses) glimpses (glimpses ++ g ∷ []) (Each P) (λ y. all) (λ n. Each-append P glimpses (g ∷ []) all (one, tt))

-- ---- evidence is enough

-- an unsynced reply and an attempt whose witnesses have accepted
record Proved (p : Pending) (e : Early) (a : Attempt) : Type 0 where
  master : e.master ≡ a.master
  epoch : e.epoch ≡ a.epoch
  version : e.version ≡ a.version
  all : all_accepted p a ≡ true

proved_by : (p : Pending) (e : Early) (a : Attempt) → proves p e a ≡ true → Proved p e a
proved_by p e a t =
    let last = and_parts (same_node e.master a.master && (e.epoch == a.epoch) && (e.version == a.version)) (all_accepted p a) t in
    let two = and_parts (same_node e.master a.master && (e.epoch == a.epoch)) (e.version == a.version) last.0 in
    let one = and_parts (same_node e.master a.master) (e.epoch == a.epoch) two.0 in
    record { master = same_node-true e.master a.master one.0; epoch = number_is e.epoch a.epoch one.1; version = number_is e.version a.version two.1; all = last.1 }

-- a Quick and an attempt whose witnesses have all said Live
record Seen (p : Pending) (g : Glimpse) (a : Attempt) : Type 0 where
  master : g.master ≡ a.master
  epoch : g.epoch ≡ a.epoch
  version : g.version ≡ a.version
  all : all_live p a ≡ true

seen_by : (p : Pending) (g : Glimpse) (a : Attempt) → is_seen p g a ≡ true → Seen p g a
seen_by p g a t =
    let last = and_parts (same_node g.master a.master && (g.epoch == a.epoch) && (g.version == a.version)) (all_live p a) t in
    let two = and_parts (same_node g.master a.master && (g.epoch == a.epoch)) (g.version == a.version) last.0 in
    let one = and_parts (same_node g.master a.master) (g.epoch == a.epoch) two.0 in
    record { master = same_node-true g.master a.master one.0; epoch = number_is g.epoch a.epoch one.1; version = number_is g.version a.version two.1; all = last.1 }

module _ (Came : NodeId → Body → Type 0) (Adopted : PartConfig → Type 0) (p : Pending) (ok : EvidenceOk Came Adopted p) where
  abbrev Accepts : ℕ → NodeId → Type 0
  Accepts epoch node = Came node (body.Accepted (record { id = p.request.id; epoch = epoch }))

  accepted : (epoch : ℕ) (node : NodeId) → has_accepted p.accepts epoch node ≡ true → Accepts epoch node
  accepted epoch node e =
      let f = any_at (λ (a : Accept). (a.epoch == epoch) && same_node a.witness node) p.accepts e in
      let b = and_parts (f.1.epoch == epoch) (same_node f.1.witness node) f.3 in
      subst (λ (k : ℕ). Accepts k node) (number_is f.1.epoch epoch b.0)
      (subst (Accepts f.1.epoch) (same_node-true f.1.witness node b.1) (Each-at (AcceptCame Came p.request.id) p.accepts ok.accepts f.0 f.1 f.2))

  -- an early reply that is enough came, with the accepts of all witnesses
  pub proved_ok : (e : Early) → proved_answer p ≡ Some e → ByAccepts Came Adopted p.request.id e.answer
  proved_ok e is =
      let f = filter_at (λ (x : Early). list_any (proves p x) p.attempts) p.early 0 e (first_at _ e is) in
      let g = any_at (proves p e) p.attempts f.2 in
      let proof = proved_by p e g.1 g.3 in
      let attempt = Each-at (IsAttempt Adopted) p.attempts ok.attempts g.0 g.1 g.2 in
      let early = Each-at (EarlyCame Came p.request.id) p.early ok.early f.0 e f.1 in
      let all : Each (Accepts g.1.epoch) g.1.witnesses = each_by_all (Accepts g.1.epoch) (has_accepted p.accepts g.1.epoch) (accepted g.1.epoch) g.1.witnesses proof.all in
      record {
        part = attempt.part;
        adopted = attempt.adopted;
        reply = early.reply;
        came = subst (λ (node : NodeId). Came node (body.Reply early.reply)) (proof.master ∙ ap (λ (a : Attempt). a.master) attempt.is) early.came;
        its_id = early.its_id;
        its_answer = early.answer;
        unsynced = early.unsynced;
        epoch = early.epoch ∙ proof.epoch ∙ ap (λ (a : Attempt). a.epoch) attempt.is;
        version = early.version ∙ proof.version ∙ ap (λ (a : Attempt). a.version) attempt.is;
        accepts = subst (λ (a : Attempt). Each (Accepts a.epoch) a.witnesses) attempt.is all;
      }

  abbrev SaysLive : ℕ → NodeId → Type 0
  SaysLive epoch node = Came node (body.Probed (record { id = p.request.id; epoch = epoch; live = true }))

  lived : (epoch : ℕ) (node : NodeId) → has_accepted p.lives epoch node ≡ true → SaysLive epoch node
  lived epoch node e =
      let f = any_at (λ (a : Accept). (a.epoch == epoch) && same_node a.witness node) p.lives e in
      let b = and_parts (f.1.epoch == epoch) (same_node f.1.witness node) f.3 in
      subst (λ (k : ℕ). SaysLive k node) (number_is f.1.epoch epoch b.0)
      (subst (SaysLive f.1.epoch) (same_node-true f.1.witness node b.1) (Each-at (LiveCame Came p.request.id) p.lives ok.lives f.0 f.1 f.2))

  -- a Quick that is enough came, with Live of all witnesses
  pub seen_ok : (g : Glimpse) → seen_glimpse p ≡ Some g → ByQuick Came Adopted p.request.id g.answer (Some (record { master = g.master; epoch = g.epoch; number = g.capture }))
  seen_ok g is =
      let f = filter_at (λ (x : Glimpse). list_any (is_seen p x) p.attempts) p.glimpses 0 g (first_at _ g is) in
      let h = any_at (is_seen p g) p.attempts f.2 in
      let proof = seen_by p g h.1 h.3 in
      let attempt = Each-at (IsAttempt Adopted) p.attempts ok.attempts h.0 h.1 h.2 in
      let quick = Each-at (GlimpseCame Came p.request.id) p.glimpses ok.glimpses f.0 g f.1 in
      let all : Each (SaysLive h.1.epoch) h.1.witnesses = each_by_all (SaysLive h.1.epoch) (has_accepted p.lives h.1.epoch) (lived h.1.epoch) h.1.witnesses proof.all in
      let master : g.master ≡ attempt.part.master = proof.master ∙ ap (λ (a : Attempt). a.master) attempt.is in
      record {
        part = attempt.part;
        adopted = attempt.adopted;
        quick = quick.quick;
        came = subst (λ (node : NodeId). Came node (body.Quick quick.quick)) master quick.came;
        its_id = quick.its_id;
        its_answer = quick.answer;
        epoch = quick.epoch ∙ proof.epoch ∙ ap (λ (a : Attempt). a.epoch) attempt.is;
        version = quick.version ∙ proof.version ∙ ap (λ (a : Attempt). a.version) attempt.is;
        lives = subst (λ (a : Attempt). Each (SaysLive a.epoch) a.witnesses) attempt.is all;
        its_capture = same_capture master quick.epoch quick.capture;
      }
    where
      of : NodeId → ℕ → ℕ → Option Capture
      of x e k = Some (record { master = x; epoch = e; number = k })

      same_capture : {x y : NodeId} {e f k l : ℕ} → x ≡ y → f ≡ e → l ≡ k → of x e k ≡ of y f l
      same_capture m e n = cc
