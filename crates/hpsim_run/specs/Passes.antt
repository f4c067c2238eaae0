-- What is passed on of the crates below, so that those above stand on this one.
pub use Rattle.pack_commands.specs.Commands.{command_named}
pub use Rattle.raw_command.specs.Endings.{Gives, ReadStops, WriteStops, WritesAll, target_for}
pub use Rattle.raw_command.specs.Transfers.{Transferred, start_at}
pub use Rattle.raw_command.specs.declared.fault.TransferFault.TheVariants.{Sink, Store}
pub use Rattle.command_parts.specs.declared.words.Writing.{Writing}
pub use Rattle.pack_commands.specs.Words.{command_of}
pub use Rattle.pack_commands.specs.declared.words.Command.TheVariants.{Play}
pub use Rattle.script_commands.specs.Exercises.{IsDone, exercise_script}
