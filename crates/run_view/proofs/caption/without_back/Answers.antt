use Rattle.std.proofs.Common.{◌≡◌, suc, ◌-◌, length, sym, ◌∙◌}
use Rattle.run_view.proofs.CaptionLaws.{last_blank, last_none, some_last}
use Rattle.run_view.proofs.caption.without_back.Goals as goal

pub blanks-preserved : goal.blanks-preserved
blanks-preserved c =
    let many : length c.blanks.rest.now ≡ suc (length c.blanks.rest.now - 1) = some_last (length c.blanks.rest.now) c.is_empty.result c.is_empty.ensures c.blanks-test.true in
    last_blank (length c.blanks.rest.now - 1) c.blanks.rest.now many c.if-rest-eq32.true ∙ c.blanks.invariant

pub returns-else-rest-eq32 : goal.returns-else-rest-eq32
returns-else-rest-eq32 c =
    let many : length c.blanks.rest.now ≡ suc (length c.blanks.rest.now - 1) = some_last (length c.blanks.rest.now) c.is_empty.result c.is_empty.ensures c.blanks-test.true in
    sym (last_none (length c.blanks.rest.now - 1) c.blanks.rest.now many c.if-rest-eq32.false) ∙ c.blanks.invariant
