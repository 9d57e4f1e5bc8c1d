-- Requests that are pending: their numbers, and what is sent for them.
use Rattle.std.specs.Prelude.{◌≡◌, ℕ, ◌<◌, if◌then◌else◌, false, min, List, [], ◌∷◌, fold, Option, Some, None, MatchOption, ⊤}
use Rattle.curp_base.specs.Words.{last_of}
use Rattle.curp_cmd.specs.Node.{client_node}
use Rattle.curp_cmd.specs.Store.{is_update}
use Rattle.curp_cmd.specs.declared.command.Request.{Request}
use Rattle.curp_cmd.specs.declared.command.RequestId.{RequestId}
use Rattle.curp_msg.specs.Moved.{Moved, quiet, says}
use Rattle.curp_msg.specs.declared.body.Ask.{Ask}
use Rattle.curp_msg.specs.declared.body.Body.{Body}
use Rattle.curp_msg.specs.declared.body.Body.TheVariants as body
use Rattle.curp_msg.specs.declared.config.PartConfig.{PartConfig}
use Rattle.curp_msg.specs.declared.message.Message.{Message}
use Rattle.curp_model.specs.Client.{Attempt, ClientState, Pending, asks, asks_value, attempt_at, replaced, with_id}

-- the least number of requests that are pending
abbrev pub least_of : List Pending → Option ℕ
least_of [] = None
least_of (p ∷ rest) = Some (fold (λ least q. min least q.request.id.seq) p.request.id.seq rest)

-- the request of that id, if it is pending, is replaced by what becomes of it
abbrev pub Changes : (old new : List Pending) → RequestId → (Pending → Pending) → Type 0
Changes old new id becomes = MatchOption (with_id id old) (new ≡ old) (λ p. new ≡ replaced (becomes p) old)

-- a request that is sent for the first time
abbrev pub first_sent : Request → PartConfig → Pending
first_sent r p = record { request = r; attempts = attempt_at p ∷ []; asked = false; early = []; accepts = []; glimpses = []; lives = [] }

-- what is asked once more: a synced reply to an update, or a value of a read
abbrev pub body_again : Request → Ask → Body
body_again r ask = if is_update r.command then body.Sync ask else body.Read ask

-- what asks the master of an attempt
abbrev pub ask_at : ℕ → Request → Attempt → Message
ask_at n r a = says (client_node n) a.master (body_again r (record { request = r; epoch = a.epoch; version = a.version }))

-- it asks for a synced reply, or for a value, once an attempt
abbrev pub asks_once : ℕ → ClientState → Pending → Moved ClientState
asks_once n c p =
    if p.asked then quiet c
    else if is_update p.request.command then asks n c p (last_of p.attempts)
    else asks_value n c p (last_of p.attempts)
