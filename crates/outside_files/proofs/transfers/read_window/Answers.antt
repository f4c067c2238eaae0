use Rattle.std.proofs.Common.{length}
use Rattle.outside_traits.specs.Files.{file_of}
use Rattle.outside_files.proofs.FolderLaws.{filled_window}
use Rattle.outside_files.proofs.transfers.read_window.Goals as goal

-- src/transfers.rt:68:1
pub returns-clause-bytes : goal.returns-clause-bytes
returns-clause-bytes g c = λ t.
    filled_window (file_of (g.F.PackFolder.held c.args.folder.now c.args.unit) c.args.part) c.read_front.new.into c.fill_rest.new.into c.args.at (length c.args.into.now)
    c.in_ok-count.count c.in_ok-count.ensures.size c.in_ok-count.ensures.bound c.fill_rest.ensures (c.in_ok-count.ensures.bytes t)
