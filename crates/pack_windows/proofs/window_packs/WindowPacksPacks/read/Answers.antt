use Rattle.std.proofs.Common.{ℕ, ◌≡◌, ◌≤◌, IsTrue, ap, ◌∙◌, subst}
use Rattle.pack_geometry.specs.Pack.{Pack, block_at}
use Rattle.pack_windows.proofs.AheadLaws.{on_ok_by, cause_after}
use Rattle.pack_windows.proofs.window_packs.WindowPacksPacks.read.Goals as goal

pub returns : goal.returns
returns g c =
    let packs = c.args.self.now in
    let before : IsTrue (g.W.Packs.tells c.read.new.self) → g.W.Packs.held c.fill.new.packs ≡ g.W.Packs.held packs =
    λ t. c.fill.ensures.same (c.read.ensures.never_again t) ∙ ap g.W.Packs.held c.self.view_is in
    let later : g.W.Packs.faults packs ≤ g.W.Packs.faults c.fill.new.packs = subst (λ p. g.W.Packs.faults p ≤ g.W.Packs.faults c.fill.new.packs) c.self.view_is c.fill.ensures.faults in
    record {
      never_again = λ t. subst (λ p. IsTrue (g.W.Packs.tells p)) c.self.view_is (c.fill.ensures.never_again (c.read.ensures.never_again t));
      block = on_ok_by c.read.result (λ told t. told t ∙ ap (λ (held : ℕ → Pack). block_at (held c.args.unit).image c.args.block) (before t)) c.read.ensures.block;
      same = λ t. c.read.ensures.same t ∙ before t;
      cause = cause_after _ _ _ c.read.result later c.read.ensures.cause;
      at = c.read.ensures.at;
    }
