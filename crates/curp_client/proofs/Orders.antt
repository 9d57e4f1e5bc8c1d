-- What orders come to, once it is known where a request goes.
use Rattle.std.proofs.Common.{◌≡◌, ℕ, ◌+◌, ◌≤◌, false, List, [], ◌∷◌, ◌++◌, Some, None, Result, Ok, Err, refl, ap, sym, ◌∙◌, arith}
use Rattle.std.specs.Result.{IsErr, IsErrAnd}
use Rattle.curp_base.specs.Words.{Each}
use Rattle.curp_base.specs.declared.failed.Failed.{Failed}
use Rattle.curp_base.specs.declared.failed.Failed.TheVariants as failed
use Rattle.curp_base.proofs.Lists.{Each-append, Each-weaker}
use Rattle.curp_cmd.specs.Store.{is_update}
use Rattle.curp_cmd.specs.declared.command.Command.{Command}
use Rattle.curp_cmd.specs.declared.command.Request.{Request}
use Rattle.curp_msg.specs.declared.config.PartConfig.{PartConfig}
use Rattle.curp_msg.specs.Moved.{Moved, refuses, sends}
use Rattle.curp_msg.specs.Told.{Tells}
use Rattle.curp_msg.specs.declared.message.Message.{Message}
use Rattle.curp_model.specs.Client.{Attempt, ClientState, NumbersAreUsed, Pending, attempt_at, invocation_for, invoke, next_request, owner_of, replaced, retry, sends_again, sends_first, sent_by, with_id}
use Rattle.curp_client.specs.Requests.{Changes}
use Rattle.curp_client.specs.Refusals.{invoke_number, retry_number}
use Rattle.curp_client.specs.declared.error.InvokeError.{InvokeError}
use Rattle.curp_client.specs.declared.error.RetryError.{RetryError}

-- ---- a command is invoked

pub invoke_made : (n : ℕ) (c : ClientState) (command : Command) (p : PartConfig) → invocation_for c command ≡ Ok p
    → invoke n c command ≡ sends_first n c (next_request n c command) p
unfolding invoke
invoke_made n c command p e = rw e refl

pub invoke_refused : (n : ℕ) (c : ClientState) (command : Command) (why : ℕ) → invocation_for c command ≡ Err why
    → invoke n c command ≡ refuses c why
unfolding invoke
invoke_refused n c command why e = rw e refl

-- running out of memory is told only of what isn't refused
pub invoke_out_of_memory : {A : Type 0} (n : ℕ) (c : ClientState) (command : Command) (p : PartConfig) (r : Result A (Failed InvokeError)) → invocation_for c command ≡ Ok p
    → IsErr r × IsErrAnd r (λ why. why ≡ failed.NoMemory) → Tells invoke_number (invoke n c command).refused r
invoke_out_of_memory n c command p (Ok x) e wants = absurd wants.1
invoke_out_of_memory n c command p (Err why) e wants = rw wants.1 (ap (λ (m : Moved ClientState). m.refused) (invoke_made n c command p e))

-- what invoking comes to
pub ruleset invoking = (invoke_made, invoke_refused, invoke_out_of_memory)

-- ---- a pending request is sent again

module _ (n : ℕ) (c : ClientState) (seq : ℕ) where
  pub retry_nowhere : None ≡ with_id (record { client = n; seq = seq }) c.pending → retry n c seq ≡ refuses c 1
  unfolding retry
  retry_nowhere none = rw (sym none) refl

  module _ (q : Pending) (request : Request) (found : Some q ≡ with_id (record { client = n; seq = seq }) c.pending) (its : request ≡ q.request) where
    pub retry_split : None ≡ owner_of c.config request.command → retry n c seq ≡ refuses c 2
    unfolding retry
    retry_split none =
        let none_owns : owner_of c.config q.request.command ≡ None = ap (λ (r : Request). owner_of c.config r.command) (sym its) ∙ sym none in
        rw (sym found, none_owns) refl

    pub retry_made : (p : PartConfig) → Some p ≡ owner_of c.config request.command → retry n c seq ≡ sends_again n c (q, p)
    unfolding retry
    retry_made p owner =
        let owns : owner_of c.config q.request.command ≡ Some p = ap (λ (r : Request). owner_of c.config r.command) (sym its) ∙ sym owner in
        rw (sym found, owns) refl

    -- running out of memory is told only of what isn't refused
    pub retry_out_of_memory : {A : Type 0} (p : PartConfig) (r : Result A (Failed RetryError)) → Some p ≡ owner_of c.config request.command
        → IsErr r × IsErrAnd r (λ why. why ≡ failed.NoMemory) → Tells retry_number (retry n c seq).refused r
    retry_out_of_memory p (Ok x) owner wants = absurd wants.1
    retry_out_of_memory p (Err why) owner wants = rw wants.1 (ap (λ (m : Moved ClientState). m.refused) (retry_made p owner))

    -- once it is sent
    pub retry_sends : (p : PartConfig) (attempt : Attempt) (pending : List Pending) (messages : List Message) → Some p ≡ owner_of c.config request.command
        → messages ≡ sent_by n c.fast c.protocol (is_update request.command) request p → attempt ≡ attempt_at p
        → Changes c.pending pending (record { client = n; seq = seq }) (λ (x : Pending). record x { attempts = x.attempts ++ attempt ∷ []; asked = false })
        → retry n c seq ≡ sends (record c { pending = pending }) messages
    retry_sends p attempt pending messages owner sent attempted changes =
        let replaces : pending ≡ replaced (record q { attempts = q.attempts ++ attempt ∷ []; asked = false }) c.pending = rw (sym found) at changes in
        retry_made p owner ∙ rw (sent, replaces, attempted, its) refl

-- ---- the numbers are used

-- and is used then
pub used_next : (c : ClientState) (p : Pending) (pending : List Pending) (last : ℕ) → NumbersAreUsed c → p.request.id.seq ≡ last → last ≡ c.last + 1 → pending ≡ c.pending ++ p ∷ []
    → Each (λ (q : Pending). q.request.id.seq ≤ last) pending
used_next c p pending last used own next pushed =
    let old : Each (λ (q : Pending). q.request.id.seq ≤ last) c.pending =
    Each-weaker (λ (q : Pending). q.request.id.seq ≤ c.last) (λ (q : Pending). q.request.id.seq ≤ last) (λ q low. omega arith) c.pending used in
    rw pushed (Each-append (λ (q : Pending). q.request.id.seq ≤ last) c.pending (p ∷ []) old (omega arith, tt))
