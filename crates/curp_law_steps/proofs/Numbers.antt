-- The numbers of what is pending at a client.
use Rattle.std.proofs.Common.{◌≡◌, ℕ, ◌+◌, ◌==◌, ◌<◌, ◌≤◌, Bool, true, false, cond, List, [], ◌∷◌, ◌++◌, Some, refl, ap, subst, arith}
use Rattle.std.specs.List.{filter}
use Rattle.std.proofs.lemmas.Bool.{and_right, cond_both, ne_eqb}
use Rattle.curp_base.specs.Words.{Each}
use Rattle.curp_base.proofs.Lists.{Each-append, Each-weaker}
use Rattle.curp_cmd.specs.RequestId.{same_id}
use Rattle.curp_cmd.specs.declared.command.RequestId.{RequestId}
use Rattle.curp_msg.specs.Input.{Input}
use Rattle.curp_msg.specs.Input as input
use Rattle.curp_model.specs.Client.{ClientState, Pending, client_input, replaced, with_id, NumbersAreUsed}
use Rattle.curp_law_steps.proofs.Inputs.{heard_keeps, ordered_keeps}
use Rattle.curp_cmd.proofs.Ids.{same_id-self, same_id-true}

-- ---- the one that comes last

abbrev pub Below : ℕ → List Pending → Type 0
Below s ps = Each (λ (x : Pending). x.request.id.seq < s) ps

another : (x q : RequestId) → x.seq < q.seq → same_id x q ≡ false
another x q low = and_right (x.client == q.client) (x.seq == q.seq) (ne_eqb x.seq q.seq (λ same. omega (arith, same, low)))

pub id_last : (ps : List Pending) (q : Pending) → Below q.request.id.seq ps → with_id q.request.id (ps ++ q ∷ []) ≡ Some q
id_last [] q b = rw (same_id-self q.request.id) refl
id_last (x ∷ ps) q b = rw (another x.request.id q.request.id b.0) (id_last ps q b.1)

pub replaced_last : (new : Pending) (ps : List Pending) (q : Pending) → Below new.request.id.seq ps → q.request.id ≡ new.request.id → replaced new (ps ++ q ∷ []) ≡ ps ++ new ∷ []
replaced_last new [] q b e = rw (subst (λ (x : RequestId). same_id q.request.id x ≡ true) e (same_id-self q.request.id)) refl
replaced_last new (x ∷ ps) q b e = rw (another x.request.id new.request.id b.0) (ap (λ (l : List Pending). x ∷ l) (replaced_last new ps q b.1 e))

-- ---- no number is behind the last one

abbrev Used : ℕ → List Pending → Type 0
Used last ps = Each (λ (x : Pending). x.request.id.seq ≤ last) ps

pub below_next : (last : ℕ) (ps : List Pending) → Used last ps → Below (last + 1) ps
below_next last ps u = Each-weaker (λ (x : Pending). x.request.id.seq ≤ last) (λ (x : Pending). x.request.id.seq < last + 1) (λ x l. omega (arith, l)) ps u

used_replaced : (last : ℕ) (new : Pending) (ps : List Pending) → Used last ps → Used last (replaced new ps)
used_replaced last new [] u = tt
used_replaced last new (x ∷ ps) u = (go (same_id x.request.id new.request.id) refl, used_replaced last new ps u.1)
  where
    go : (b : Bool) → same_id x.request.id new.request.id ≡ b → (cond b new x).request.id.seq ≤ last
    go true e = let same : x.request.id.seq ≡ new.request.id.seq = ap (λ (id : RequestId). id.seq) (same_id-true x.request.id new.request.id e) in omega (arith, same, u.0)
    go false e = u.0

used_filtered : (last : ℕ) (p : Pending → Bool) (ps : List Pending) → Used last ps → Used last (filter p ps)
used_filtered last p [] u = tt
used_filtered last p (x ∷ ps) u = cond_both (p x) (x ∷ filter p ps) (filter p ps) (Used last) (λ y. (u.0, used_filtered last p ps u.1)) (λ n. used_filtered last p ps u.1)

-- ---- every input keeps it

pub given_used : (n : ℕ) (c : ClientState) (given : Input) → NumbersAreUsed c → NumbersAreUsed (client_input n c given).state
given_used n c (input.Local order) u = ordered_keeps NumbersAreUsed c u (λ p. used_replaced c.last p c.pending u) n order
    (λ command part. Each-append (λ (x : Pending). x.request.id.seq ≤ c.last + 1) c.pending _
    (Each-weaker (λ (x : Pending). x.request.id.seq ≤ c.last) (λ (x : Pending). x.request.id.seq ≤ c.last + 1) (λ x l. omega (arith, l)) c.pending u) (omega arith, tt))
given_used n c (input.Message m) u = heard_keeps NumbersAreUsed c u (λ p. used_replaced c.last p c.pending u) (λ id. used_filtered c.last _ c.pending u) n m.from m.body (λ config is. u)
