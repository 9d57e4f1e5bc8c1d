use Rattle.std.proofs.Common.{[], ◌∷◌, ◌++◌, ap, sym, ◌∙◌}
use Rattle.curp_resp.specs.Feeds.{read_on}
use Rattle.curp_resp.proofs.Feeding.{fed_more, passes_more}
use Rattle.curp_resp.proofs.requests.feed.Goals as goal

pub bytes-preserved : goal.bytes-preserved
bytes-preserved c = record {
  read =
      c.bytes.invariant.read
      ∙ fed_more c.bytes.window.bytes c.in-Some.byte c.bytes.reading c.take.new.self (sym c.in-Some.ensures) c.in-More.ensures
      ∙ ap (λ a. read_on a.bytes c.take.new.self) (sym c.pass.ensures);
  passes = (
    c.bytes.invariant.passes.0 ++ c.in-Some.byte ∷ [],
    passes_more c.args.window.now c.bytes.window c.pass.new.self c.bytes.invariant.passes.0 c.in-Some.byte c.bytes.invariant.passes.1 (sym c.in-Some.ensures) c.pass.ensures,
  );
}

pub returns-in-Whole-clause-passes : goal.returns-in-Whole-clause-passes
returns-in-Whole-clause-passes c = (
  c.bytes.invariant.passes.0 ++ c.in-Some.byte ∷ [],
  passes_more c.args.window.now c.bytes.window c.pass-in-Whole.new.self c.bytes.invariant.passes.0 c.in-Some.byte c.bytes.invariant.passes.1 (sym c.in-Some.ensures) c.pass-in-Whole.ensures,
)
