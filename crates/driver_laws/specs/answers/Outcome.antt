-- What a call of the driver comes to: all its acts, or only the first ones, up to a failure of the trace or of the packs.
use Rattle.std.specs.Prelude.{◌≡◌, ◌⊎◌, ℕ, Bool, false, true, IsTrue, List, ◌++◌, Result, Ok, Err, Option, None, Some}
use Rattle.main_memory.specs.Bytes.{filled}
use Rattle.pack_geometry.specs.Pack.{Pack, is_marked, with_written}
use Rattle.hardware_table.specs.Drive.{is_writing}
use Rattle.hardware_table.specs.Adapter.{next_block, next_window}
use Rattle.trace_replay.specs.Text.{trace_text}
use Rattle.driver_machine.specs.World.{World, unit_at, adapter_at, adapter_of, drive_of, held_in, slot_in_hand, block_in}
use Rattle.driver_machine.specs.Acts.{Act, after_all}
use Rattle.driver_machine.specs.Lines.{lines_of_all}
use Rattle.driver_machine.specs.Guards.{IsBusyFor}
use Rattle.driver_machine.specs.Runs.{Run}
use Rattle.driver_laws.specs.answers.Packs.{ReadAll, packs_after_all}
use Rattle.driver_laws.specs.declared.answers.outcome.Stop.{Stop}
use Rattle.driver_laws.specs.declared.answers.outcome.Stop.TheVariants.{Store, Sink}

-- what the driver works on: its world, what the packs hold, and the text that was told so far, of which the trace took the front that
-- was sent
pub record Site : Type 0 where
  pub world : World
  pub held : ℕ → Pack
  pub text : List ℕ
  pub sent : List ℕ

-- whether the packs tell what they hold, and the trace what it took
pub record Told : Type 0 where
  pub packs : Bool
  pub trace : Bool

-- ACTS AND PACKS. The acts run, read what the packs hold, and leave world and packs as these acts leave them.
pub record Acts (told : Told) (acts : List Act) (old new : Site) : Type 0 where
  pub run : Run old.world acts
  pub world : new.world ≡ after_all old.world acts
  pub reads : IsTrue told.packs → ReadAll old.world old.held acts
  pub packs : IsTrue told.packs → new.held ≡ packs_after_all old.world old.held acts

-- the text that acts tell behind what was told before
abbrev pub text_after : Site → List Act → List ℕ
text_after old acts = old.text ++ trace_text (lines_of_all old.world acts)

-- one text is a front of another
pub record IsFront (front text : List ℕ) : Type 0 where
  pub rest : List ℕ
  pub whole : text ≡ front ++ rest

-- DONE: all acts, and their whole text. What was sent before stands.
pub record Does (told : Told) (acts : List Act) (old new : Site) : Type 0 where
  pub does : Acts told acts old new
  pub text : IsTrue told.trace → new.text ≡ text_after old acts
  pub sent : IsTrue told.trace → IsFront old.sent new.sent

-- THE TRACE FAILED: the first acts were done, and a front of their text was taken, behind what was sent before.
pub record StopsAtTrace (told : Told) (acts : List Act) (old new : Site) : Type 0 where
  pub done : List Act
  pub left : List Act
  pub all : acts ≡ done ++ left
  pub does : Acts told done old new
  pub front : IsTrue told.trace → IsFront new.text (text_after old done)
  pub sent : IsTrue told.trace → IsFront old.sent new.sent

-- A block that was to be written: the next one of a transfer that is under way, of a write, at a sector that is not marked.
pub record IsNextBlock (w : World) (packs packs' : ℕ → Pack) : Type 0 where
  pub unit : ℕ
  pub busy : IsBusyFor (adapter_at w (adapter_of unit)).state (drive_of unit) false
  pub writes : is_writing (unit_at w unit).drive.work ≡ true
  pub unmarked : is_marked (packs unit) (next_block (adapter_at w (adapter_of unit)).state) ≡ false
  pub is : packs' ≡ with_written packs unit (next_block (adapter_at w (adapter_of unit)).state)
      (filled 512 (block_in (held_in w (slot_in_hand (unit_at w unit))) (next_window (adapter_at w (adapter_of unit)).state)))

-- THE PACKS FAILED: some acts were done, with their whole text, and no other; the packs are as these left them, or the block that
-- was to be written is there already.
pub record StopsAtPacks (told : Told) (old new : Site) : Type 0 where
  pub done : List Act
  pub between : Site
  pub does : Does told done old between
  pub world : new.world ≡ between.world
  pub text : IsTrue told.trace → new.text ≡ between.text
  pub packs : IsTrue told.packs → (new.held ≡ between.held) ⊎ IsNextBlock between.world between.held new.held

-- THE PACKS FAILED BEFORE AN ACT: nothing was done or told; the packs are as they were, or the block that was to be written is there.
pub record StopsBefore (told : Told) (old new : Site) : Type 0 where
  pub world : new.world ≡ old.world
  pub text : IsTrue told.trace → new.text ≡ old.text
  pub packs : IsTrue told.packs → (new.held ≡ old.held) ⊎ IsNextBlock old.world old.held new.held

-- what stopped a call, if something did
abbrev pub stop_in : {A : Type 0} → Result A Stop → Option Stop
stop_in (Ok value) = None
stop_in (Err stop) = Some stop

-- THE OUTCOME of a call that is to do these acts
abbrev pub Outcome : Told → List Act → Site → Site → Option Stop → Type 0
Outcome told acts old new None = Does told acts old new
Outcome told acts old new (Some Sink) = StopsAtTrace told acts old new
Outcome told acts old new (Some Store) = StopsAtPacks told old new
