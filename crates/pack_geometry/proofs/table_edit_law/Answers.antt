use Rattle.pack_geometry.proofs.TableEditLaws.{contents_kept, edit_made}
use Rattle.pack_geometry.proofs.table_edit_law.Goals as goal

pub returns-clause-made : goal.returns-clause-made
returns-clause-made c = edit_made

pub returns-clause-kept : goal.returns-clause-kept
returns-clause-kept c = contents_kept
