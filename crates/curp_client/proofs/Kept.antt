-- What completes a request, once it keeps more evidence.
use Rattle.std.proofs.Common.{◌≡◌, ℕ, Bool, true, false, cond, List, [], ◌∷◌, Option, Some, None, refl, sym, ap, ◌∙◌}
use Rattle.std.specs.List.{position}
use Rattle.std.specs.Option.{MatchOption, IfSome, option_map}
use Rattle.curp_cmd.proofs.Ids.{same_id-self}
use Rattle.curp_cmd.specs.RequestId.{same_id}
use Rattle.curp_cmd.specs.Store.{is_update}
use Rattle.curp_cmd.specs.declared.command.RequestId.{RequestId}
use Rattle.curp_msg.specs.Moved.{Makes, Node, numbered_move}
use Rattle.curp_msg.specs.declared.machine.Completed.{Completed}
use Rattle.curp_msg.specs.declared.machine.Done.{Done}
use Rattle.curp_model.specs.Client.{ClientState, Early, Glimpse, Pending, completes_with, if_proved, if_seen, proved_answer, replaced, seen_glimpse, with_evidence, with_id, with_sight, without_id}
use Rattle.curp_client.specs.Evidence.{Completes, by_glimpse, by_reply, completes_if, completion, concluded, kept}
use Rattle.curp_client.specs.Requests.{Changes}
use Rattle.curp_client.specs.declared.evidence.Evidence.{Evidence}
use Rattle.curp_client.proofs.Found.{first_nowhere}

-- nothing completes a request that isn't there
pub completes_nothing : (items now : List Pending) (id : RequestId) (evidence : Evidence) (completed : Option Completed) → items ≡ now → None ≡ position (λ (p : Pending). same_id p.request.id id) items → Completes now id evidence completed
completes_nothing items now id evidence completed before none = rw (sym before, first_nowhere (λ (p : Pending). same_id p.request.id id) items none) tt

-- what completes the one that is there
pub completes_that : (items now : List Pending) (id : RequestId) (evidence : Evidence) (completed : Option Completed) (q new : Pending) → items ≡ now → with_id id items ≡ Some q → new ≡ kept q evidence
    → completed ≡ completion new → Completes now id evidence completed
completes_that items now id evidence completed q new before found made enough = rw (sym before, found) (enough ∙ rw made refl)

-- ---- completing

-- a request that was replaced goes as it would have gone
without_replaced : (id : RequestId) (new : Pending) (xs : List Pending) → new.request.id ≡ id → without_id id (replaced new xs) ≡ without_id id xs
without_replaced id new [] own = refl
without_replaced id new (x ∷ xs) own = go (same_id x.request.id new.request.id) refl (without_replaced id new xs own)
  where
    gone : (p : Pending) → p.request.id ≡ id → without_id id (p ∷ replaced new xs) ≡ without_id id (replaced new xs)
    gone p its = let same : same_id p.request.id id ≡ true = rw its (same_id-self id) in rw same refl

    go : (b : Bool) → same_id x.request.id new.request.id ≡ b → without_id id (replaced new xs) ≡ without_id id xs → without_id id (cond b new x ∷ replaced new xs) ≡ without_id id (x ∷ xs)
    go true e rest =
        let its : same_id x.request.id id ≡ true = ap (λ (i : RequestId). same_id x.request.id i) (sym own) ∙ e in
        gone new own ∙ rw its rest
    go false e rest = rw rest refl

module _ (c : ClientState) (new : List Pending) (k : Pending) (is : new ≡ replaced k c.pending) where
  -- a request that was replaced completes as it would have
  completes_replaced : (completed : Completed) → completed.id ≡ k.request.id → completes_if (record c { pending = new }) (Some completed) ≡ completes_with c k.request.id completed.answer completed.by
  completes_replaced completed own =
      let left : without_id k.request.id new ≡ without_id k.request.id c.pending = ap (without_id k.request.id) is ∙ without_replaced k.request.id k c.pending refl in
      rw (own, left) refl

  -- it completes with what is enough
  completion_is : completes_if (record c { pending = new }) (completion k) ≡ concluded c k
  completion_is = go (is_update k.request.command)
    where
      by_proof : (o : Option Early) → completes_if (record c { pending = new }) (option_map (by_reply k.request.id) o) ≡ if_proved c k o
      by_proof None = rw is refl
      by_proof (Some e) = completes_replaced (by_reply k.request.id e) refl

      by_sight : (o : Option Glimpse) → completes_if (record c { pending = new }) (option_map (by_glimpse k.request.id) o) ≡ if_seen c k o
      by_sight None = rw is refl
      by_sight (Some g) = completes_replaced (by_glimpse k.request.id g) refl

      go : (b : Bool) → completes_if (record c { pending = new }) (cond b (option_map (by_reply k.request.id) (proved_answer k)) (option_map (by_glimpse k.request.id) (seen_glimpse k)))
          ≡ cond b (with_evidence c k) (with_sight c k)
      go true = by_proof (proved_answer k)
      go false = by_sight (seen_glimpse k)

-- what the client does, once it keeps the evidence
pub keep_moves : (old new : Node ClientState) (n : ℕ) (c : ClientState) (pending : List Pending) (id : RequestId) (evidence : Evidence) (completed : Option Completed) (done : Done)
    → record { number = n; state = c } ≡ old → Changes c.pending pending id (λ p. kept p evidence) → Completes c.pending id evidence completed
    → Makes new done (numbered_move n (completes_if (record c { pending = pending }) completed))
    → IfSome (with_id id old.state.pending) (λ p. Makes new done (numbered_move old.number (concluded old.state (kept p evidence))))
keep_moves old new n c pending id evidence completed done was changes enough makes = rw (sym was) (go (with_id id c.pending) changes enough)
  where
    go : (o : Option Pending) → MatchOption o (pending ≡ c.pending) (λ p. pending ≡ replaced (kept p evidence) c.pending)
        → IfSome o (λ p. completed ≡ completion (kept p evidence))
        → IfSome o (λ p. Makes new done (numbered_move n (concluded c (kept p evidence))))
    go None is e = tt
    go (Some p) is e = rw (sym (completion_is c pending (kept p evidence) is), sym e) makes
