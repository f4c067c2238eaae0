-- What is passed on of the crates below, so that those above stand on this one.
pub use Rattle.driver_laws.proofs.shown.Blocks.{next_blocks_stay}
pub use Rattle.driver_laws.proofs.shown.NextBlock.{next_blocks_show}
pub use Rattle.driver_laws.proofs.shown.RunsCalls.{answers_keep_reach, events_keep_reach, starts_within_reach, submissions_keep_reach}
pub use Rattle.driver_laws.proofs.shown.Lengths.{drained_shows, empty_drains_keep_lengths, events_keep_lengths, first_events_keep_lengths, later_events_keep_lengths, submissions_keep_lengths}
pub use Rattle.driver_laws.proofs.shown.RunsLaws.{events_keep, packs_are_left, runs_are_legal, starts_kept, submissions_keep}
pub use Rattle.driver_laws.proofs.shown.Sectors.{IsNoMove}
pub use Rattle.driver_laws.proofs.shown.Attending.{attended_told}
pub use Rattle.driver_laws.proofs.shown.Calls.{drains_go_on, drains_start, events_go, submissions_go}
pub use Rattle.driver_laws.proofs.shown.DrainsLaws.{GoesOn, drain_begins, drain_between, drain_goes_on}
pub use Rattle.driver_laws.proofs.shown.Events.{not_drained, serving_is}
pub use Rattle.driver_laws.proofs.shown.Inputted.{calls_are_played, lines_play_nothing}
pub use Rattle.driver_laws.proofs.shown.Joined.{lines_append}
pub use Rattle.driver_laws.proofs.shown.Named.{act_named}
pub use Rattle.driver_laws.proofs.shown.TraceRuns.{drain_ends, drain_finds_nothing}
pub use Rattle.driver_laws.proofs.shown.Start.{starts}
pub use Rattle.driver_laws.proofs.shown.Starting.{other_act}
pub use Rattle.driver_laws.proofs.shown.Telling.{LineFollows, LinesFollow, told_within}
pub use Rattle.driver_laws.proofs.rules.Quiet.{after_parts}
