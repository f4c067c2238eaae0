use Rattle.std.proofs.Common.{ℕ, ◌≡◌, ◌≤◌, IsTrue, ap, ◌∙◌, subst}
use Rattle.pack_geometry.specs.Pack.{Pack, is_marked}
use Rattle.pack_windows.proofs.AheadLaws.{if_ok_by, cause_after}
use Rattle.pack_windows.proofs.window_packs.WindowPacksPacks.marked.Goals as goal

pub returns : goal.returns
returns g c =
    let packs = c.args.self.now in
    let before : IsTrue (g.W.Packs.tells c.marked.new.self) → g.W.Packs.held c.fill.new.packs ≡ g.W.Packs.held packs =
    λ t. c.fill.ensures.same (c.marked.ensures.never_again t) ∙ ap g.W.Packs.held c.self.view_is in
    let later : g.W.Packs.faults packs ≤ g.W.Packs.faults c.fill.new.packs = subst (λ p. g.W.Packs.faults p ≤ g.W.Packs.faults c.fill.new.packs) c.self.view_is c.fill.ensures.faults in
    record {
      never_again = λ t. subst (λ p. IsTrue (g.W.Packs.tells p)) c.self.view_is (c.fill.ensures.never_again (c.marked.ensures.never_again t));
      mark = if_ok_by c.marked.result (λ on told t. told t ∙ ap (λ (held : ℕ → Pack). is_marked (held c.args.unit) c.args.block) (before t)) c.marked.ensures.mark;
      same = λ t. c.marked.ensures.same t ∙ before t;
      cause = cause_after _ _ _ c.marked.result later c.marked.ensures.cause;
      at = c.marked.ensures.at;
    }
