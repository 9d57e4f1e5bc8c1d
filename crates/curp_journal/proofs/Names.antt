-- Lemmas on the names of what an item sent.
use Rattle.std.proofs.Common.{◌≡◌, ℕ, suc, ◌+◌, ◌<◌, List, [], ◌∷◌, ◌++◌, length, take, get_or, refl, ap, sym, ◌∙◌, arith, add-one, length-take}
use Rattle.std.proofs.Math.Seq.{take-suc}
use Rattle.curp_cmd.specs.declared.node.NodeId.{NodeId}
use Rattle.curp_msg.specs.declared.message.Message.{Message}
use Rattle.curp_journal.specs.Sending.{named_of}
use Rattle.curp_journal.specs.declared.arrived.Named.{Named}

module _ (from : NodeId) (step stamp : ℕ) where
  -- a message at its place
  abbrev pub at_place : ℕ → Message → Named
  at_place place m = record { from = from; step = step; place = place; stamp = stamp; message = m }

  pub named_of-snoc : (place : ℕ) (ms : List Message) (m : Message) → named_of from step stamp place (ms ++ m ∷ []) ≡ named_of from step stamp place ms ++ at_place (place + length ms) m ∷ []
  named_of-snoc place [] m = rw (let e : place + 0 ≡ place = omega arith in e) refl
  named_of-snoc place (n ∷ ms) m =
      let e : (place + 1) + length ms ≡ place + suc (length ms) = omega arith in
      ap (λ xs. at_place place n ∷ xs) (named_of-snoc (place + 1) ms m ∙ ap (λ k. named_of from step stamp (place + 1) ms ++ at_place k m ∷ []) e)

  -- one message further
  pub named_of-take : (ms : List Message) (k : ℕ) (m : Message) → m ≡ get_or ms k m → k < length ms
      → named_of from step stamp 1 (take (k + 1) ms) ≡ named_of from step stamp 1 (take k ms) ++ record { from = from; step = step; place = k + 1; stamp = stamp; message = m } ∷ []
  named_of-take ms k m at within =
      let t : take (k + 1) ms ≡ take k ms ++ m ∷ [] = rw add-one (take-suc ms k m within ∙ ap (λ x. take k ms ++ x ∷ []) (sym at)) in
      let n : 1 + length (take k ms) ≡ k + 1 = omega (arith, length-take k ms) in
      ap (named_of from step stamp 1) t ∙ named_of-snoc 1 (take k ms) m ∙ ap (λ j. named_of from step stamp 1 (take k ms) ++ at_place j m ∷ []) n
