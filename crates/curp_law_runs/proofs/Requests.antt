-- Requests of one id are one request: both were invoked with one command.
use Rattle.std.proofs.Common.{◌≡◌, ◌||◌, ℕ, suc, Bool, true, false, List, [], ◌∷◌, refl, sym, subst}
use Rattle.std.specs.List.{list_any}
use Rattle.curp_base.specs.Words.{At}
use Rattle.curp_base.proofs.Lists.{at_same}
use Rattle.curp_cmd.specs.RequestId.{same_id}
use Rattle.curp_cmd.specs.declared.command.Request.{Request}
use Rattle.curp_cmd.specs.declared.command.RequestId.{RequestId}
use Rattle.curp_cmd.proofs.Ids.{same_id-true}
use Rattle.curp_order.specs.declared.Event.TheVariants.{Invoke}
use Rattle.curp_model.specs.Witness.{HeldRequest, WitnessState, holds}
use Rattle.curp_model.specs.World.{World}
use Rattle.curp_facts.specs.Entries.{RequestOk}
use Rattle.curp_facts.specs.Invariant.{Invariant}

-- requests of one id were invoked with one command
pub one_command : {w : World} → Invariant w → (r q : Request) → RequestOk w r → RequestOk w q → q.id ≡ r.id → q.command ≡ r.command
one_command {w} inv r q ok its same =
    let of_q : At w.history its.place (Invoke r.id q.command) = subst (λ (id : RequestId). At w.history its.place (Invoke id q.command)) same its.invoked in
    let place : its.place ≡ ok.place = inv.history.invoked_once its.place ok.place r.id q.command r.command of_q ok.invoked in
    let there : At w.history ok.place (Invoke r.id q.command) = subst (λ (k : ℕ). At w.history k (Invoke r.id q.command)) place of_q in
    let events : Invoke r.id q.command ≡ Invoke r.id r.command = at_same w.history ok.place _ _ there ok.invoked in
    cc

-- what a witness finds that it holds it holds
pub held_there : (x : WitnessState) (id : RequestId) → holds x id ≡ true → (k : ℕ) × (h : HeldRequest) × At x.held k h × (h.request.id ≡ id)
held_there x id found = go x.held found
  where
    go : (hs : List HeldRequest) → list_any (λ (h : HeldRequest). same_id id h.request.id) hs ≡ true → (k : ℕ) × (h : HeldRequest) × At hs k h × (h.request.id ≡ id)
    go [] e = absurd cc
    go (h ∷ hs) e = by_test (same_id id h.request.id) refl e (go hs)
      where
        by_test : (b : Bool) → same_id id h.request.id ≡ b → (b || list_any (λ (h : HeldRequest). same_id id h.request.id) hs) ≡ true
            → (list_any (λ (h : HeldRequest). same_id id h.request.id) hs ≡ true → (k : ℕ) × (g : HeldRequest) × At hs k g × (g.request.id ≡ id))
            → (k : ℕ) × (g : HeldRequest) × At (h ∷ hs) k g × (g.request.id ≡ id)
        by_test true same e rest = (0, h, refl, sym (same_id-true id h.request.id same))
        by_test false other e rest = let o = rest e in (suc o.0, o.1, o.2, o.3)
