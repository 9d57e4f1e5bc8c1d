use Rattle.std.proofs.Common.{◌≡◌, ◌-◌, ◌++◌, drop, length, sym, ◌∙◌}
use Rattle.curp_master_log.proofs.Suffixes.{drop_both}
use Rattle.curp_master_log.proofs.suffix.suffix_with.Goals as goal

pub returns : goal.returns
returns c =
    let beyond : c.saturating_sub-beyond.result ≡ c.args.base - length c.args.log.now.entries = cc (c.saturating_sub-beyond.ensures, c.len.ensures.value) in
    let both : c.append.new.self.items ≡ drop c.args.base c.args.log.now.entries ++ drop (c.args.base - length c.args.log.now.entries) c.args.more.now =
    cc (c.in_ok-append.ensures.items, c.in_ok-entries.ensures.value, c.in_ok-rest.ensures, c.past.ensures, beyond)
    in
    both ∙ sym (drop_both c.args.base c.args.log.now.entries c.args.more.now)
