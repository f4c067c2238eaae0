-- A drive that transfers does not position, nor does it behind the next sector.
use Rattle.std.proofs.Common.{◌≡◌, ◌<◌, Bool, true, false, List, length, refl, sym, ◌∙◌, ap, subst, Option, Result, Ok, Err}
use Rattle.std.specs.Prelude.{ℕ, if◌then◌else◌, slice_set, slice_index_or}
use Rattle.std.proofs.lemmas.List.{set-get_or}
use Rattle.hardware_table.specs.declared.Moved.{Moved}
use Rattle.hardware_table.specs.declared.Work.TheVariants.{Transfer}
use Rattle.hardware_table.specs.Drive.{DriveState, is_positioning}
use Rattle.hardware_table.specs.Events.{transfer_ended}
use Rattle.hardware_table.specs.Moves.{after_move}
use Rattle.hardware_table.specs.Adapter.{AdapterState, stepped, next_block}
use Rattle.hardware_table.specs.Noise.{Book}
use Rattle.driver_machine.specs.World.{World, UnitView, AdapterView, Held, no_unit, adapter_at, adapter_of}
use Rattle.driver_machine.specs.Acts.{with_drive, with_state}
use Rattle.request_slots.proofs.WorkLaws.{move_work}
use Rattle.request_slots.specs.Steps.{Bench, MayStep, drive_behind}
use Rattle.hp_core.specs.State.{State}
use Rattle.hp_core.specs.Done.{bench_at, with_bench}
use Rattle.hp_core.proofs.Places.{unit_channel}
use Rattle.hp_core.proofs.Scenes.{same_adapter}

ended_or_not : (ended : Bool) (d : DriveState) (write : Bool) → d.work ≡ Transfer write → is_positioning (if ended then transfer_ended d else d).work ≡ false
ended_or_not true d write is = refl
ended_or_not false d write is = ap is_positioning is

pub step_work : {E : Type 0} (r : Result Moved E) (a : AdapterState) (old new : DriveState) (write : Bool) → old.work ≡ Transfer write → new ≡ drive_behind r a old
    → is_positioning new.work ≡ is_positioning old.work
step_work (Ok v) a old new write is moved =
    ap (λ (d : DriveState). is_positioning d.work) moved ∙ ended_or_not (stepped v a).completion (after_move v (next_block a) old) write (move_work v (next_block a) old ∙ is)
    ∙ sym (ap is_positioning is)
step_work (Err e) a old new write is same = ap (λ (d : DriveState). is_positioning d.work) same

-- the state with what was tried in its place
pub bench_put : (inside now : State) (i j u : ℕ) (unit d own : UnitView) (drive : DriveState) (channel here : AdapterView) (adapter : AdapterState) (slots : List (Option Held)) (book : Book)
    → inside ≡ now → i ≡ u → u < length now.world.units → unit ≡ slice_index_or inside.world.units i d → own ≡ unit
    → j ≡ adapter_of u → adapter_of u < length now.world.adapters → channel ≡ slice_index_or inside.world.adapters j channel → here ≡ channel
    → record inside {
      world = record inside.world {
        units = slice_set inside.world.units i (record own { drive = drive });
        adapters = slice_set inside.world.adapters j (record here { state = adapter });
        slots = slots;
        book = book;
      };
    } ≡ record now { world = with_bench now.world u (record { adapter = adapter; drive = drive; book = book; store = slots }) }
bench_put inside now i j u unit d own drive channel here adapter slots book same at there is own_is place lt here_is seen =
    ap (λ (s : State). record s { world = record s.world { slots = slots; book = book } })
    (unit_channel inside now i u unit d (record own { drive = drive }) (with_drive (λ _. drive)) j (adapter_of u) channel (record here { state = adapter }) (with_state (λ _. adapter))
    same at there is (ap (with_drive (λ _. drive)) own_is) place lt here_is (ap (with_state (λ _. adapter)) seen))

-- A try that the packs failed leaves the world as it was.
pub bench_kept : (w : World) (u : ℕ) (bench : Bench (List (Option Held))) → bench ≡ bench_at w u → with_bench w u bench ≡ w
bench_kept w u bench is =
    ap (λ (b : Bench (List (Option Held))). with_bench w u b) is
    ∙ ap (λ (us : List UnitView). record w { units = us; adapters = slice_set w.adapters (adapter_of u) (adapter_at w (adapter_of u)) }) (set-get_or w.units u no_unit)
    ∙ ap (λ (xs : List AdapterView). record w { adapters = xs }) (same_adapter w (adapter_of u))

pub bench_same : (old new : Bench (List (Option Held))) → new.adapter ≡ old.adapter → new.drive ≡ old.drive → new.book ≡ old.book → new.store ≡ old.store → new ≡ old
bench_same old new e f g h =
    ap (λ (a : AdapterState). record new { adapter = a }) e ∙ ap (λ (d : DriveState). record new { adapter = old.adapter; drive = d }) f
    ∙ ap (λ (b : Book). record new { adapter = old.adapter; drive = old.drive; book = b }) g ∙ ap (λ (slots : List (Option Held)). record old { store = slots }) h

-- what may come at a place may come inside
pub may_here : (inside now : State) (slot : ℕ) (a a' : AdapterState) (d d' : DriveState) → inside ≡ now → a ≡ a' → d ≡ d' → MayStep now.world.slots slot a' d' → MayStep inside.world.slots slot a d
may_here inside now slot a a' d d' same adapter drive may =
    subst (λ (s : State). MayStep s.world.slots slot a d) (sym same) (subst (λ (x : AdapterState). MayStep now.world.slots slot x d) (sym adapter)
    (subst (λ (x : DriveState). MayStep now.world.slots slot a' x) (sym drive) may))
