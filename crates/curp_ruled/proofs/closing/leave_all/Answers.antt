use Rattle.std.proofs.Common.{◌≡◌, ◌∙◌, length, refl, sym, ap, rules}
use Rattle.std.proofs.lemmas.Iterator.Adapters.{YieldsList-from_vec}
use Rattle.std.proofs.lemmas.Iterator.Consumers.{YieldsList-turn}
use Rattle.std.proofs.lemmas.Option.{slice_get_read}
use lib.ListN.{length-map}
use Rattle.curp_base.specs.Words.{At}
use Rattle.curp_ruled.specs.Ends.{Posted}
use Rattle.curp_ruled.specs.declared.rule.Hand.{Hand}
use Rattle.curp_ruled.proofs.closing.leave_all.Goals as goal

pub leave-requires-clause-inbox : goal.leave-requires-clause-inbox
leave-requires-clause-inbox c =
    let posts = c.args.posts.items in
    let post = c.in-Some.post in
    let from = c.into_iter-post-iterator.ensures.into_iter_gives in
    let long : c.into_iter-post-iterator.result.rest.len ≡ length posts = search rules in
    let turn = YieldsList-turn (YieldsList-from_vec posts from.0 long) c.loop-post.yielded c.loop-post.post-iterator c.loop-post.yielded_by c.next.result c.next.new.self post c.in-Some.is c.next.ensures.steps in
    let at : At posts (length c.loop-post.yielded) post = slice_get_read posts (length posts) (length c.loop-post.yielded) post refl turn.0 turn.1 in
    (c.requires.posts (length c.loop-post.yielded) post at).0

pub leave-requires-clause-next : goal.leave-requires-clause-next
leave-requires-clause-next c =
    let posts = c.args.posts.items in
    let post = c.in-Some.post in
    let from = c.into_iter-post-iterator.ensures.into_iter_gives in
    let long : c.into_iter-post-iterator.result.rest.len ≡ length posts = search rules in
    let turn = YieldsList-turn (YieldsList-from_vec posts from.0 long) c.loop-post.yielded c.loop-post.post-iterator c.loop-post.yielded_by c.next.result c.next.new.self post c.in-Some.is c.next.ensures.steps in
    let at : At posts (length c.loop-post.yielded) post = slice_get_read posts (length posts) (length c.loop-post.yielded) post refl turn.0 turn.1 in
    let seen = c.loop-post.invariant.1 in
    (c.requires.posts (length c.loop-post.yielded) post at).1 ∙ sym (ap (λ (v : Hand). length v.left) seen ∙ length-map c.loop-post.yielded (λ (p : Posted). p.sent))
