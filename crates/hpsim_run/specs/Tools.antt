-- What a run of a tool's command has done to a pack: one of `bad144`, or `format`.
use Rattle.std.specs.Prelude.{◌≡◌, ℕ, Bool, List, Option, Some}
use Rattle.pack_geometry.specs.declared.DriveKind.{DriveKind}
use Rattle.pack_geometry.specs.Pack.{Pack}
use Rattle.bad144_tool.specs.declared.edit.AddWay.{AddWay}
use Rattle.pack_commands.specs.Formats.{RunsFormat}
use Rattle.pack_commands.specs.Tools.{RunsAdd, RunsFresh, RunsList, RunsMark}
use Rattle.pack_commands.specs.declared.words.Command.{Command}
use Rattle.pack_commands.specs.declared.words.Command.TheVariants.{ListTable, AddBlock, FreshTable, MarkBlocks, FormatPack}

-- EACH COMMAND of a tool has done its own.
pub record RunsTool (command : Option Command) (code : ℕ) (tells : Bool) (old new : ℕ → Pack) (out_tells : Bool) (taken after : List ℕ) (faults faults_after : ℕ) : Type 0 where
  pub list : (unit : ℕ) (kind : DriveKind) → command ≡ Some (ListTable unit kind) → RunsList kind unit code tells old new out_tells taken after faults faults_after
  pub add : (unit block : ℕ) (kind : DriveKind) (way : AddWay) → command ≡ Some (AddBlock unit kind block way)
      → RunsAdd kind unit block way code tells old new out_tells taken after faults faults_after
  pub fresh : (unit serial : ℕ) (kind : DriveKind) → command ≡ Some (FreshTable unit kind serial)
      → RunsFresh kind unit serial code tells old new out_tells taken after faults faults_after
  pub mark : (unit : ℕ) (kind : DriveKind) → command ≡ Some (MarkBlocks unit kind) → RunsMark kind unit code tells old new out_tells taken after faults faults_after
  pub format : (unit serial : ℕ) (kind : DriveKind) → command ≡ Some (FormatPack unit kind serial)
      → RunsFormat kind unit serial code tells old new out_tells taken after faults faults_after
