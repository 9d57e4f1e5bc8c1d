use Rattle.std.proofs.Common.{◌≡◌, inl, inr, sym, ◌∙◌, subst, ap, arith, refl, add-one, MatchOption}
use Rattle.std.proofs.lemmas.Bool.{cases_eq}
use Rattle.std.proofs.lemmas.Option.{slice_get_read, slice_get_within}
use Rattle.curp_base.specs.Words.{At}
use Rattle.curp_journal.specs.declared.item.Item.{Item}
use Rattle.curp_journal.specs.Turns.{Journal}
use Rattle.curp_merge.specs.Held.{IsHeld, IsOther}
use Rattle.curp_merge.proofs.mismatch.mismatch_in.Goals as goal

pub returns-in-Some : goal.returns-in-Some
returns-in-Some c =
    let strands = c.args.strands.now in
    let strand = c.index-strands-at.result in
    let item = c.index-items-index.result in
    let is_other : IsOther strands item.input c.in-Some.got c.in-Some.kept =
    subst (λ o. MatchOption o (IsHeld strands item.input) (λ other. IsOther strands item.input other.0 other.1)) c.in-Some.is c.in_ok-got.ensures in
    record {
      place = c.args.at;
      journal = strand;
      item = item;
      stands = slice_get_read strands _ _ strand refl c.requires c.index-strands-at.is;
      its_name = sym c.id.ensures;
      taken = rw add-one (subst (λ xs. At xs c.loop-index.index item) c.items-items.ensures (slice_get_read c.items-items.result.now _ _ item refl (omega arith) c.index-items-index.is));
      came = is_other.came;
      kept_is = is_other.kept_is;
      differs = is_other.differs;
    }

pub loop-index-preserved : goal.loop-index-preserved
loop-index-preserved c t item less at =
    let strands = c.args.strands.now in
    let here = c.index-items-index.result in
    let held : IsHeld strands here.input =
    subst (λ o. MatchOption o (IsHeld strands here.input) (λ other. IsOther strands here.input other.0 other.1)) c.in_default.is c.in_ok-got.ensures in
    let at_here : At c.items-items.result.now c.loop-index.index here = slice_get_read c.items-items.result.now _ _ here refl (omega arith) c.index-items-index.is in
    elim (cases_eq t c.loop-index.index) [
      | inl same ↦
          let at' : At c.items-items.result.now c.loop-index.index item = subst (λ k. At c.items-items.result.now k item) same at in
          let e : here ≡ item = cc in
          subst (λ (i : Item). IsHeld strands i.input) e held
      | inr other ↦ c.loop-index.invariant t item (omega arith) at
    ]

pub returns : goal.returns
returns c j at_j t item at =
    let strands = c.args.strands.now in
    let strand = c.index-strands-at.result in
    let here : At strands c.args.at strand = slice_get_read strands _ _ strand refl c.requires c.index-strands-at.is in
    let e : strand ≡ j = cc in
    let at' : At c.items-items.result.now t item = subst (λ xs. At xs t item) (sym (c.items-items.ensures ∙ ap (λ (k : Journal). k.items) e)) at in
    c.loop-index.invariant t item (omega (arith, slice_get_within c.items-items.result.now t item at')) at'
