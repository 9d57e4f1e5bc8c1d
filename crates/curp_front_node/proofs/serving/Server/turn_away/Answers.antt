use Rattle.std.proofs.Common.{◌≡◌, ◌++◌, ◌∙◌, ℕ, List, ap, append_assoc}
use Rattle.std.proofs.result.Match.{on_ok_then}
use Rattle.curp_front.specs.declared.output.FrontOutput.TheVariants as output
use Rattle.curp_front.specs.Replies.{too_many_connections}
use Rattle.curp_front_node.specs.Ends.{told_of}
use Rattle.curp_front_node.proofs.serving.Server.turn_away.Goals as goal

pub returns-clause-told : goal.returns-clause-told
returns-clause-told g c =
    let before = c.args.self.now.text.items in
    let connection = c.args.connection in
    let bytes : c.new-bytes.result ≡ too_many_connections = c.new-bytes.ensures ∙ c.in_ok-from_slice.ensures.items ∙ c.too_many_text.ensures in
    let first : c.tell_front.new.self.text.items ≡ before ++ told_of (output.Reply connection too_many_connections) =
    c.in_ok-tell_front.ensures.told ∙ ap (λ (b : List ℕ). before ++ told_of (output.Reply connection b)) bytes in
    on_ok_then c.tell_front-2.result
    (λ both. both ∙ ap (λ (t : List ℕ). t ++ told_of (output.Close connection)) first
    ∙ append_assoc before (told_of (output.Reply connection too_many_connections)) (told_of (output.Close connection)))
    c.tell_front-2.ensures.told
