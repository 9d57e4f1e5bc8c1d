-- What a run by protocol 1 keeps: reads wait for a round to all backups, so nobody asks for an answer at once, and none is given.
use Rattle.std.specs.Prelude.{◌≡◌, ℕ, Some, ⊤}
use Rattle.curp_base.specs.Words.{Each, numbered}
use Rattle.curp_msg.specs.declared.body.Body.{Body}
use Rattle.curp_msg.specs.declared.body.Body.TheVariants as body
use Rattle.curp_msg.specs.declared.message.Message.{Message}
use Rattle.curp_msg.specs.declared.script.Protocol.TheVariants.{One}
use Rattle.curp_model.specs.Client.{ClientState}
use Rattle.curp_model.specs.World.{World, messages}

-- a message of protocol 1: all but reads that are to be answered at once, probes of witnesses, and the answers to both
abbrev pub IsOfOne : Body → Type 0
IsOfOne (body.Update ask) = ⊤
IsOfOne (body.Sync ask) = ⊤
IsOfOne (body.Read ask) = ⊤
IsOfOne (body.Glance ask) = ⊥
IsOfOne (body.Record r) = ⊤
IsOfOne (body.Probe p) = ⊥
IsOfOne body.Fetch = ⊤
IsOfOne (body.Configuration config) = ⊤
IsOfOne (body.Reply r) = ⊤
IsOfOne (body.Worth v) = ⊤
IsOfOne (body.Quick q) = ⊥
IsOfOne (body.Refuse r) = ⊤
IsOfOne (body.Accepted a) = ⊤
IsOfOne (body.Rejected r) = ⊤
IsOfOne (body.Probed a) = ⊥
IsOfOne (body.Append a) = ⊤
IsOfOne (body.Appended a) = ⊤
IsOfOne (body.Gc g) = ⊤
IsOfOne (body.Collected c) = ⊤
IsOfOne (body.Install epoch) = ⊤
IsOfOne (body.Start s) = ⊤
IsOfOne (body.Recover o) = ⊤
IsOfOne (body.Fence epoch) = ⊤
IsOfOne (body.FenceAnswer a) = ⊤
IsOfOne (body.Freeze epoch) = ⊤
IsOfOne (body.FrozenAnswer requests) = ⊤
IsOfOne (body.Recovered r) = ⊤
IsOfOne (body.Adopted a) = ⊤
IsOfOne (body.Prepare p) = ⊤
IsOfOne (body.Prepared version) = ⊤
IsOfOne (body.TakeOut t) = ⊤
IsOfOne (body.Taken t) = ⊤
IsOfOne (body.GiveIn t) = ⊤
IsOfOne (body.Given migration) = ⊤
IsOfOne (body.ExpireClient client) = ⊤

-- each client reads by protocol 1, and each message that was ever sent is one of it
pub record ByOne (w : World) : Type 0 where
  pub clients : (n : ℕ) (c : ClientState) → numbered w.clients n ≡ Some c → c.protocol ≡ One
  pub sent : Each (λ (m : Message). IsOfOne m.body) (messages w)
