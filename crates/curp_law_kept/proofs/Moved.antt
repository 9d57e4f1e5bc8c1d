-- Where one node has said more: what was said by others was said before.
use Rattle.std.proofs.Common.{◌≡◌, ◌≢◌, ◌⊎◌, inl, inr, ℕ, ◌+◌, List, ◌++◌, length, sym, subst}
use Rattle.curp_base.specs.Words.{At, Each}
use Rattle.curp_base.proofs.Lists.{Each-at, at_append_cases}
use Rattle.curp_cmd.specs.Node.{manager_node}
use Rattle.curp_cmd.specs.declared.node.NodeId.{NodeId}
use Rattle.curp_msg.specs.declared.message.Message.{Message}
use Rattle.curp_model.specs.Manager.{Shape, opening_config}
use Rattle.curp_model.specs.World.{World, messages}
use Rattle.curp_facts.specs.Facts.{AtOpening, ByRecovery, ByReplacement, IsGiven, Lists, WasAdopted, WasSent}
use Rattle.curp_facts.specs.Reach.{IsReady}
use Rattle.curp_facts.specs.Said.{Says}
use Rattle.curp_law_kept.proofs.ManagerWorlds.{sent_cases}
use Rattle.curp_law_kept.proofs.MastersStay.{SaysNoMore}

module _ (w v : World) (out : List Message) (e : messages v ≡ messages w ++ out) where
  pub at_back : (k : ℕ) (m : Message) → At (messages v) k m → At (messages w) k m ⊎ ((j : ℕ) × (k ≡ length (messages w) + j) × At out j m)
  at_back k m at = at_append_cases (messages w) out k m (subst (λ (ms : List Message). At ms k m) e at)

  -- each message says what it has to, the new ones at their places
  pub messages_say : ((k : ℕ) (m : Message) → At (messages w) k m → Says v k m.from m.to m.body)
      → ((j : ℕ) (m : Message) → At out j m → Says v (length (messages w) + j) m.from m.to m.body)
      → (k : ℕ) (m : Message) → At (messages v) k m → Says v k m.from m.to m.body
  messages_say old new k m at = elim (at_back k m at) [
    | inl h ↦ old k m h
    | inr h ↦ subst (λ (i : ℕ). Says v i m.from m.to m.body) (sym h.1) (new h.0 m h.2)
  ]

  module _ (mover : NodeId) (all : Each (λ (m : Message). m.from ≡ mover) out) where
    -- what another node has sent it has sent before
    pub sent_back : (m : Message) → WasSent v m → m.from ≢ mover → WasSent w m
    sent_back m sent other = elim (sent_cases w v out e m sent) [
      | inl was ↦ was
      | inr now ↦ absurd (other (Each-at (λ (x : Message). x.from ≡ mover) out all now.place m now.stands))
    ]

    pub says_no_more : (node : NodeId) → node ≢ mover → SaysNoMore w v node
    says_no_more node other = record { prepared = λ version sent. sent_back _ sent other; recovered = λ r sent. sent_back _ sent other }

    -- where the manager hasn't said more, no lists are new
    module _ (shape : v.manager.shape ≡ w.manager.shape) (not_manager : manager_node ≢ mover) where
      pub given_back : (l : Lists) → IsGiven v l → IsGiven w l
      given_back _ (AtOpening k c at) = AtOpening k c (subst (λ (s : Shape). At (opening_config s).parts k c) shape at)
      given_back _ (ByRecovery node o sent) = ByRecovery node o (sent_back _ sent not_manager)
      given_back _ (ByReplacement old p before sent) = ByReplacement old p (given_back old before) (sent_back _ sent not_manager)

      pub adopted_back : (l : Lists) → WasAdopted v l → WasAdopted w l
      adopted_back l was = record {
        given = given_back l was.given;
        told = elim was.told [ inl one ↦ inl one | inr sent ↦ inr (sent_back _ sent not_manager) ];
      }

      -- and where it isn't their master that has, none becomes ready
      pub ready_back : (l : Lists) → l.master ≢ mover → IsReady v l → IsReady w l
      ready_back l other ready = record {
        given = given_back l ready.given;
        told = elim ready.told [
          | inl one ↦ inl one
          | inr told ↦ inr (elim told [
            | inl prepared ↦ inl (sent_back _ prepared other)
            | inr r ↦ inr (record { order = r.order; ordered = sent_back _ r.ordered not_manager; its_version = r.its_version; told = sent_back _ r.told other })
          ])
        ];
      }
