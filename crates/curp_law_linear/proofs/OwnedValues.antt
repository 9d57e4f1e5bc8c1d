-- What the owner of a hash has of it is what one thread has.
use Rattle.std.proofs.Common.{◌≡◌, inl, inr, true, false, List, ◌++◌, ℕ, Some, refl, ap, sym, ◌∙◌, append-nil}
use Rattle.std.specs.FinMap as store
use Rattle.std.proofs.lemmas.Bool.{cases_Bool, or_left}
use Rattle.curp_base.specs.Words.{numbered}
use Rattle.curp_cmd.specs.Hash.{hash_of, touches}
use Rattle.curp_cmd.specs.Store.{applied, nothing}
use Rattle.curp_cmd.specs.declared.command.Command.{Command}
use Rattle.curp_order.specs.Order.{store_after, Asked}
use Rattle.curp_model.specs.Log.{answer_after}
use Rattle.curp_law_kept.specs.Hashes.{behind, updates, value}
use Rattle.curp_law_linear.specs.Hashes.{HashOk, Part, has_take, owns, state_of}
use Rattle.curp_law_linear.specs.Line.{LineState, OrderOk, Owned}
use Rattle.curp_law_linear.proofs.Given.{LogValue, Pure}
use Rattle.curp_law_linear.proofs.Hashes.{key_touches, no_onward}

module _ (s : LineState) (ok : OrderOk s) (below : Owned s.moving s.parts) (part : ℕ) (p : Part) (here : numbered s.parts part ≡ Some p) where
  -- the owner's take isn't out
  pub no_take : (h : ℕ) → owns p h ≡ true → has_take s.moving h p.log ≡ false
  no_take h own = elim (cases_Bool (has_take s.moving h p.log)) [ inl t ↦ absurd (below.gone part p h here own t) | inr f ↦ f ]

  -- the equation at the owner
  abbrev pub at_own : (h : ℕ) → owns p h ≡ true → HashOk s.moving s.parts (updates s.marks) p h
  at_own h own = ok.hashes part p here h (or_left _ _ own)

  module _ (pure : Pure) (its_value : LogValue p) where
    -- the order's value of a key is that of its owner's store
    pub owned_value : (key : List ℕ) → owns p (hash_of key) ≡ true → value key (updates s.marks) ≡ store.get (state_of p).store key
    owned_value key own =
        let h = hash_of key in
        let line = at_own h own in
        let cut =
        line.alike ∙ ap (λ (w : List Asked). line.past ++ (behind h p.log ++ w)) (no_onward s.moving s.parts p.log h (no_take h own)) ∙ ap (λ (w : List Asked). line.past ++ w) (append-nil _) in
        pure.value_local key (updates s.marks) ∙ ap (value key) cut ∙ sym (its_value h own key refl line.past line.values)

    -- so one thread answers a command as the owner of its hashes does
    pub owned_answer : (c : Command) → ((h : ℕ) → touches c h ≡ true → owns p h ≡ true) → (applied (store_after nothing (updates s.marks)) c).answer ≡ answer_after p.lo p.hi p.log c
    owned_answer c owned = pure.answer_local (store_after nothing (updates s.marks)) (state_of p).store c (λ key m. owned_value key (owned (hash_of key) (key_touches c key m)))
