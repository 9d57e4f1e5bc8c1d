use Rattle.std.proofs.Common.{◌≡◌, map, take}
use Rattle.curp_base.specs.Words.{Each}
use Rattle.curp_collected.specs.Files.{IsRead, contents_of}
use Rattle.curp_collected.proofs.files.with_titles.Given as goal

-- so many titles are read
abbrev pub invariant-loop-content : goal.invariant-loop-content
invariant-loop-content l = record {
  read : Each IsRead l.files.items;
  contents : contents_of l.files.items ≡ map (λ content. content.items) (take l.content-index l.contents);
}
