-- The packs as a run leaves them.
use Rattle.std.proofs.Common.{◌≡◌, ℕ, [], ◌∷◌, refl, ◌∙◌}
use Rattle.pack_geometry.specs.Pack.{Pack}
use Rattle.main_memory.specs.Bytes.{filled}
use Rattle.hardware_table.specs.Moves.{was_written}
use Rattle.driver_machine.specs.World.{World, unit_at}
use Rattle.driver_machine.specs.Acts as deed
use Rattle.driver_machine.specs.Acts.{Act, Of, Deed, after}
use Rattle.driver_laws.specs.answers.Packs.{packs_after, packs_after_all}
use Rattle.driver_laws.proofs.shown.QuietEachDeed.{marks_by}
use Rattle.std.specs.Prelude.{List}

deed_marks : (line u id : ℕ) (d : Deed) (w : World) (held : ℕ → Pack) (unit : ℕ) → (packs_after w held (Of line u id d) unit).marks ≡ (held unit).marks
deed_marks line u id (deed.Sector block t) w held unit = marks_by (was_written (unit_at w u).drive t.verdict) held u block (filled 512 t.bytes) unit
deed_marks line u id other w held unit = refl

act_marks : (act : Act) (w : World) (held : ℕ → Pack) (unit : ℕ) → (packs_after w held act unit).marks ≡ (held unit).marks
act_marks (Of line u id d) w held unit = deed_marks line u id d w held unit
act_marks other w held unit = refl

-- and no act changes a mark.
pub marks_stay : (w : World) (acts : List Act) (held : ℕ → Pack) (unit : ℕ) → (packs_after_all w held acts unit).marks ≡ (held unit).marks
marks_stay w [] held unit = refl
marks_stay w (act ∷ acts) held unit = marks_stay (after w act) acts (packs_after w held act) unit ∙ act_marks act w held unit
