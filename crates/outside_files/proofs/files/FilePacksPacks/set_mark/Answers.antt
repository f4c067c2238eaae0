use Rattle.outside_files.proofs.FolderLaws.{one_whole}
use Rattle.outside_files.proofs.files.FilePacksPacks.set_mark.Goals as goal

pub returns-clause-torn : goal.returns-clause-torn
returns-clause-torn g c = one_whole _ _ _ _ _ _ _ _ _ c.put-written.ensures.torn c.put-written.ensures.front
