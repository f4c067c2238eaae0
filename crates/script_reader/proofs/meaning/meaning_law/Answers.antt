use Rattle.script_reader.proofs.Bytes.{means_its_bytes}
use Rattle.script_reader.proofs.Drives.{declares_units, means_the_same}
use Rattle.script_reader.proofs.Scripts.{means_script, means_read}
use Rattle.script_reader.proofs.meaning.meaning_law.Goals as goal

pub returns-clause-script : goal.returns-clause-script
returns-clause-script c = means_script

pub returns-clause-read : goal.returns-clause-read
returns-clause-read c = means_read

pub returns-clause-drives : goal.returns-clause-drives
returns-clause-drives c = declares_units

pub returns-clause-same : goal.returns-clause-same
returns-clause-same c = means_the_same

pub returns-clause-bytes : goal.returns-clause-bytes
returns-clause-bytes c = means_its_bytes
