use Rattle.outside_files.proofs.FolderLaws.{has_place}
use Rattle.outside_files.proofs.os_folder.OsFolder.look_up.Goals as goal

pub index-requires : goal.index-requires
index-requires g c = has_place c.args.unit c.args.part c.file_number-number.result _ c.requires c.file_number-number.ensures c.in_ok-make_room.ensures

pub index_mut-requires : goal.index_mut-requires
index_mut-requires g c = has_place c.args.unit c.args.part c.file_number-number.result _ c.requires c.file_number-number.ensures c.in_ok-make_room.ensures

pub returns-else-is_to_be_opened : goal.returns-else-is_to_be_opened
returns-else-is_to_be_opened g c = has_place c.args.unit c.args.part c.file_number-number.result _ c.requires c.file_number-number.ensures c.in_ok-make_room.ensures
