use Rattle.std.proofs.Common.{◌++◌, ◌+◌, ◌≤◌, List, ℕ, ap, length, subst, sym, ◌∙◌}
use Rattle.raw_command.proofs.RunLaws.{limited}
use Rattle.raw_command.proofs.run.run_write.Goals as goal

pub returns-clause-ends : goal.returns-clause-ends
returns-clause-ends g c =
    let h = c.in_ok-from.ensures in
    let same = c.as_slice.ensures.value in
    c.write_from.ensures.ends _ _ _ _ _ _
    (λ t. h.bytes t ∙ ap (λ (xs : List ℕ). xs ++ g.S.Source.left c.read_all.new.source) (sym same))
    (λ t. limited _ _ _ _ _ same c.limit.ensures.limit (h.end t))

pub returns-clause-taken : goal.returns-clause-taken
returns-clause-taken g c = λ t.
    subst (λ limit. length (g.S.Source.left c.args.source.now) ≤ length (g.S.Source.left c.read_all.new.source) + limit + 1) c.limit.ensures.limit (c.in_ok-from.ensures.taken t)

pub returns-clause-stays : goal.returns-clause-stays
returns-clause-stays g c = c.write_from.ensures.stays
