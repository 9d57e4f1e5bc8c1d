use Rattle.std.proofs.Common.{◌≡◌, ℕ, ◌≤◌, ◌+◌, List, length, ap, sym, ◌∙◌, subst, arith}
use Rattle.std.proofs.lemmas.Bool.Decides.{nat_tests}
use Rattle.curp_cmd.specs.declared.entry.Entry.{Entry}
use Rattle.curp_model.specs.Master.{MasterState, appends, last_round, treat}
use Rattle.curp_msg.specs.Moved.{Node}
use Rattle.curp_master.specs.Rounds.{IsNextRound, IsRound, at_round}
use Rattle.curp_master_log.specs.Suspects.{news}
use Rattle.curp_master.proofs.KeptUp.{later}
use Rattle.curp_master.proofs.Suspected.{kept_in, none_pushed, round_begins, round_ends}
use Rattle.curp_master.proofs.master.Master.treat.Goals as goal

pub returns-then-is_empty : goal.returns-then-is_empty
returns-then-is_empty c =
    let rs = c.args.suspects.now in
    let its : c.in_ok-news.news.items ≡ news c.args.self.now.state.lo c.args.self.now.state.hi c.args.self.now.state.log rs =
    c.in_ok-news.ensures ∙ (λ i. news (c.log.ensures.lo i) (c.log.ensures.hi i) (c.log.ensures.entries i) rs)
    ∙ ap (λ (node : Node MasterState). news node.state.lo node.state.hi node.state.log rs) c.self.view_is
    in
    let empty : length c.in_ok-news.news.items ≡ 0 = grind (arith, nat_tests, c.is_empty.ensures, c.if-is_empty.true, c.in_ok-news.news.ok) in
    let moves = none_pushed c.args.self.now rs (ap (λ (es : List Entry). length es) (sym its) ∙ empty) in
    record {
      moves = (
        (λ i. record { number = c.in_ok-take_in.ensures.number i; state = c.in_ok-take_in.ensures.state i }) ∙ moves.0,
        c.quiet.ensures ∙ moves.1,
      );
    }

pub returns-in_default : goal.returns-in_default
returns-in_default c =
    let rs = c.args.suspects.now in
    let its : c.in_ok-news.news.items ≡ news c.args.self.now.state.lo c.args.self.now.state.hi c.args.self.now.state.log rs =
    c.in_ok-news.ensures ∙ (λ i. news (c.log.ensures.lo i) (c.log.ensures.hi i) (c.log.ensures.entries i) rs)
    ∙ ap (λ (node : Node MasterState). news node.state.lo node.state.hi node.state.log rs) c.self.view_is
    in
    let some : 1 ≤ length c.in_ok-news.news.items = grind (arith, nat_tests, c.is_empty.ensures, c.if-is_empty.false, c.in_ok-news.news.ok) in
    let last : c.args.self.now.state.round ≡ last_round = subst (IsNextRound c.args.self.now c.deref.result.now) c.in_default.is c.in_ok-round.ensures in
    let moves = round_ends c.args.self.now rs (subst (λ (es : List Entry). 1 ≤ length es) its some) last in
    record { moves = (moves.0, c.quiet-in_default.ensures ∙ moves.1) }

pub returns : goal.returns
returns c =
    let rs = c.args.suspects.now in
    let m : MasterState = c.args.self.now.state in
    let its : c.in_ok-news.news.items ≡ news m.lo m.hi m.log rs =
    c.in_ok-news.ensures ∙ (λ i. news (c.log.ensures.lo i) (c.log.ensures.hi i) (c.log.ensures.entries i) rs)
    ∙ ap (λ (node : Node MasterState). news node.state.lo node.state.hi node.state.log rs) c.self.view_is
    in
    let some : 1 ≤ length c.in_ok-news.news.items = grind (arith, nat_tests, c.is_empty.ensures, c.if-is_empty.false, c.in_ok-news.news.ok) in
    let next : IsRound c.args.self.now c.deref.result.now c.in-Some.round = subst (IsNextRound c.args.self.now c.deref.result.now) c.in-Some.is c.in_ok-round.ensures in
    let low : c.in-Some.round.number ≤ last_round = grind (arith, c.next_round.type_inv) in
    let said : c.in-Some.round.appends.items ≡ appends c.args.self.now.number (at_round m (m.round + 1) (news m.lo m.hi m.log rs)) =
    next.sends ∙ ap (λ (es : List Entry). appends c.args.self.now.number (at_round m (m.round + 1) es)) (c.deref.ensures.value ∙ its)
    in
    let moves = round_begins c.args.self.now rs c.in-Some.round.number c.in-Some.round.appends.items (subst (λ (es : List Entry). 1 ≤ length es) its some) next.next low said in
    let after : c.take_in-2.new.self ≡ record { number = c.args.self.now.number; state = treat m rs } =
    λ i. record { number = c.in_ok-take_in-2.ensures.number i; state = c.in_ok-take_in-2.ensures.state i }
    in
    record {
      moves = (
        ap (λ (node : Node MasterState). record node { state = record node.state { round = c.in-Some.round.number } }) (c.self-2.view_is ∙ after) ∙ moves.0,
        c.sends.ensures ∙ moves.1,
      );
    }

-- a round behind the last begins
pub invariant_of-self : goal.invariant_of-self
invariant_of-self c =
    let rs = c.args.suspects.now in
    let m : MasterState = c.args.self.now.state in
    let next : IsRound c.args.self.now c.deref.result.now c.in-Some.round = subst (IsNextRound c.args.self.now c.deref.result.now) c.in-Some.is c.in_ok-round.ensures in
    let after : c.take_in-2.new.self ≡ record { number = c.args.self.now.number; state = treat m rs } =
    λ i. record { number = c.in_ok-take_in-2.ensures.number i; state = c.in_ok-take_in-2.ensures.state i }
    in
    let at : c.self-2.inside.round ≡ m.round = ap (λ (n : Node MasterState). n.state.round) (c.self-2.view_is ∙ after) ∙ (kept_in m rs).0 in
    later c.self-2.invariant (next.next ∙ ap (λ (k : ℕ). k + 1) (sym at))
