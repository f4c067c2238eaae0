use Rattle.outside_files.proofs.FolderLaws.{handed_ok, both_left, block_written}
use Rattle.outside_files.proofs.files.FilePacksPacks.write.Goals as goal

pub returns-clause-ok : goal.returns-clause-ok
returns-clause-ok g c =
    handed_ok _ _ c.counted.result _ _ c.counted.ensures.answer c.put-written.ensures.ok (λ put t.
    block_written (g.F.PackFolder.held c.args.self.now.folder) (g.F.PackFolder.held c.put-written.new.self.folder) c.args.unit c.args.block c.place_in_image.result
    c.args.from.now c.told-from c.place_in_image.ensures (put (both_left _ _ t)))
