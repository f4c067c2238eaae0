use Rattle.std.proofs.Common.{ℕ, ap, ◌∙◌}
use Rattle.std.specs.Prelude.{◌==◌, not}
use Rattle.pack_geometry.specs.Pack.{window}
use Rattle.outside_files.proofs.FolderLaws.{mark_read}
use Rattle.outside_files.proofs.files.FilePacks.read_mark.Goals as goal

pub returns-clause-mark : goal.returns-clause-mark
returns-clause-mark g c = λ t.
    c.is_mark.ensures
    ∙ ap (λ (n : ℕ). not (n == 0))
    (mark_read (g.F.PackFolder.held c.args.self.now.folder c.args.unit).marks c.read_window.new.into c.args.block
    (c.in_ok-read_window.ensures.bytes t ∙ ap (λ (n : ℕ). window 1 n (g.F.PackFolder.held c.args.self.now.folder c.args.unit).marks) c.from.ensures))
