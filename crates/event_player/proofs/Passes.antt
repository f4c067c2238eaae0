-- What is passed on of the crates below, so that those above stand on this one.
pub use Rattle.script_runs.proofs.Bytes.{bytes_have_one_run}
pub use Rattle.script_runs.proofs.Whole.{legal_runs_are_one}
pub use Rattle.script_runs.proofs.Ahead.{behind_more, rules_hold}
pub use Rattle.script_runs.proofs.Attached.{AreAttached, HasDrive, IsSetupOf, attached_more, attached_still, below_or_not, drive_there, drives-append, first_some, set_for_script, unit_beyond}
