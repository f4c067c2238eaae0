-- What a deed leaves alone: all other units, adapters and slots, and of its own what was asked and what is set up.
use Rattle.std.proofs.Common.{◌≡◌, ◌≢◌, ℕ, Bool, true, false, Some, None, refl, get_or-set_other}
use Rattle.drive_registers.specs.declared.Function.TheVariants as function
use Rattle.std.specs.Prelude.{if◌then◌else◌}
use Rattle.hardware_table.specs.Moves.{was_read}
use Rattle.hardware_table.specs.Noise.{book_struck}
use Rattle.hardware_table.specs.Adapter.{drive_stepped, stepped, next_window}
use Rattle.driver_machine.specs.World.{World, UnitView, AdapterView, unit_at, adapter_at, slot_at, no_unit, new_adapter_view, adapter_of, with_block_in}
use Rattle.driver_machine.specs.Acts as deed
use Rattle.driver_machine.specs.Acts.{Deed, Scene, with_scene}
use Rattle.driver_machine.proofs.KindStays.{arrived_kind, stepping_kind, searching_kind, transferring_kind, centred_kind}
use Rattle.trace_replay.proofs.Kept.{performed_kind, stepped_kind}
use Rattle.driver_machine.proofs.Frames.{IsSame}

-- OTHERS are as they were, whatever the deed.
pub other_unit : (w : World) (u p x : ℕ) (s : Scene) → x ≢ u → unit_at (with_scene w u p s) x ≡ unit_at w x
other_unit w u p x s other = get_or-set_other w.units u x s.unit no_unit other

pub other_adapter : (w : World) (u p a : ℕ) (s : Scene) → a ≢ adapter_of u → adapter_at (with_scene w u p s) a ≡ adapter_at w a
other_adapter w u p a s other = get_or-set_other w.adapters (adapter_of u) a s.adapter new_adapter_view other

pub other_slot : (w : World) (u p q : ℕ) (s : Scene) → q ≢ p → slot_at (with_scene w u p s) q ≡ slot_at w q
other_slot w u p q s other = get_or-set_other w.slots p q (Some s.held) None other

-- OF ITS OWN what was asked and what is set up stay.
kept : (s : Scene) (v : UnitView) (a : AdapterView) → v.declared ≡ s.unit.declared → v.table ≡ s.unit.table → v.drive.kind ≡ s.unit.drive.kind
    → IsSame s (record s { unit = v; adapter = a })
kept s v a declared table kind = record {
  declared = declared;
  table = table;
  kind = kind;
  id = refl;
  unit = refl;
  first = refl;
  write = refl;
  loan = refl;
}

pub effect_same : (line u p : ℕ) (d : Deed) (s : Scene) → IsSame s (deed.effect line u p d s)
effect_same line u p deed.Arrive s = kept s _ _ refl refl (arrived_kind s.unit.drive)
effect_same line u p (deed.Sector block t) s = sector_same (was_read s.unit.drive t.verdict)
  where
    sector_same : (b : Bool) → IsSame s (record s {
      unit = record s.unit { drive = drive_stepped t.verdict s.adapter.state s.unit.drive };
      adapter = record s.adapter { state = stepped t.verdict s.adapter.state };
      held = if b then with_block_in (next_window s.adapter.state) t.bytes s.held else s.held;
      book = if was_read s.unit.drive t.verdict then book_struck u block s.unit.drive.offset s.book else s.book;
    })
    sector_same true = record {
      declared = refl;
      table = refl;
      kind = stepped_kind t.verdict s.adapter.state s.unit.drive;
      id = refl;
      unit = refl;
      first = refl;
      write = refl;
      loan = refl;
    }
    sector_same false = record {
      declared = refl;
      table = refl;
      kind = stepped_kind t.verdict s.adapter.state s.unit.drive;
      id = refl;
      unit = refl;
      first = refl;
      write = refl;
      loan = refl;
    }
effect_same line u p (deed.Search target sector) s = kept s _ _ refl refl (searching_kind target sector s.unit.drive)
effect_same line u p (deed.Do step taken) s = kept s _ _ refl refl (stepping_kind step s.unit.drive)
effect_same line u p (deed.Move write segment) s = record {
  declared = refl;
  table = refl;
  kind = transferring_kind write segment.block s.unit.drive;
  id = refl;
  unit = refl;
  first = refl;
  write = refl;
  loan = refl;
}
effect_same line u p deed.Pack s = kept s _ _ refl refl (performed_kind function.Pack s.unit.drive)
effect_same line u p (deed.Dclr moved last) s = kept s _ _ refl refl (performed_kind function.Clear s.unit.drive)
effect_same line u p deed.Rtc s = kept s _ _ refl refl (centred_kind s.unit.drive)
effect_same line u p other s = record {
  declared = refl;
  table = refl;
  kind = refl;
  id = refl;
  unit = refl;
  first = refl;
  write = refl;
  loan = refl;
}
