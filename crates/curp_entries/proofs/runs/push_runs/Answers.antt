use Rattle.std.proofs.Common.{◌≡◌, ◌*◌, ◌++◌, take, drop, arith, rules}
use Rattle.curp_entries.proofs.Parts.{run_more}
use Rattle.curp_entries.proofs.runs.push_runs.Goals as goal

pub loop-runs-preserved : goal.loop-runs-preserved
loop-runs-preserved c =
    let pushed : c.push_run.new.self ≡ c.loop-runs.prefix ++ take 64 (drop (c.loop-runs.runs * 64) c.args.tail.now) = search rules in
    record {
      prefix = run_more c.loop-runs.runs c.args.tail.now c.args.prefix.now c.loop-runs.prefix c.push_run.new.self c.loop-runs.invariant.prefix pushed;
      upto = omega (arith, c.loop-runs-test.true);
    }
