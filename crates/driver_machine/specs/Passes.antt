-- What this crate passes on from the crates below, so that the crates above depend on this one only.
pub use Rattle.disksort.specs.declared.Waiter.{Waiter}
pub use Rattle.trace_replay.specs.Drives.{addressed, offset_written, search_place, transfer_function}
pub use Rattle.transfer_engine.specs.Calls.{entry_for}
pub use Rattle.transfer_engine.specs.State.{TransferState, begun, segment_of}
