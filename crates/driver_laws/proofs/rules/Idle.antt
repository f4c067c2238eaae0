-- What holds of an idle replay, from which all bounds are counted.
use Rattle.std.proofs.Common.{◌≡◌, ℕ, List, [], ◌∷◌, Option, refl, subst, arith, rules}
use Rattle.pack_geometry.specs.TableSpelling.{Table}
use Rattle.hardware_table.specs.Drive.{DriveState}
use Rattle.trace_replay.specs.requests.ServiceOrder.{Waiting as Waiter}
use Rattle.trace_replay.specs.requests.Requests.{Request}
use Rattle.trace_replay.specs.Conversation.{Waiting, not_begun}
use Rattle.trace_replay.specs.Replay.{Replay, UnitSeen, new_replay}
use Rattle.trace_replay.proofs.Kept.{AllFit, UnitFits, IsHeld}
use Rattle.driver_laws.specs.rules.Drains.{IsIdle}
use Rattle.driver_laws.proofs.rules.Units.{UnitWithin}
use Rattle.pack_geometry.specs.declared.DriveKind.{DriveKind}
use Rattle.trace_replay.specs.Packs.{Surface}

-- ---- a unit at which nothing waits and nothing is begun
abbrev unbegun : DriveState → ℕ → Option Table → UnitSeen
unbegun d joined table = record { drive = d; service = record { waiting = []; joined = joined }; stage = Waiting; progress = not_begun; table = table }

pub unit_is : (u : UnitSeen) → u.stage ≡ Waiting → u.service.waiting ≡ [] → u.progress ≡ not_begun → unbegun u.drive u.service.joined u.table ≡ u
unit_is u stage waiting fresh = search rules

fits_unbegun : (d : DriveState) (joined : ℕ) (table : Option Table) → UnitFits (unbegun d joined table) []
fits_unbegun d joined table = search rules

within_unbegun : (d : DriveState) (joined : ℕ) (table : Option Table) → UnitWithin (unbegun d joined table) []
within_unbegun d joined table = record { events = omega arith; commands = omega arith }

-- ---- so each unit
pub idle_fits : (s : Replay) → IsIdle s → AllFit s (λ x. [])
idle_fits s idle x =
    subst (λ z. UnitFits z []) (unit_is (s.units x) (idle.stages x) (idle.queues x) (idle.fresh x)) (fits_unbegun (s.units x).drive (s.units x).service.joined (s.units x).table)

pub idle_within : (s : Replay) → IsIdle s → (x : ℕ) → UnitWithin (s.units x) []
idle_within s idle x =
    subst (λ z. UnitWithin z []) (unit_is (s.units x) (idle.stages x) (idle.queues x) (idle.fresh x)) (within_unbegun (s.units x).drive (s.units x).service.joined (s.units x).table)

none_held : (waiting : List (Waiter Request)) → waiting ≡ [] → IsHeld waiting → {P : Type 0} → P
none_held [] none held = absurd held
none_held (w ∷ ws) none held = absurd (grind (arith, none))

pub none_waits : (s : Replay) → IsIdle s → (x : ℕ) → IsHeld (s.units x).service.waiting → {P : Type 0} → P
none_waits s idle x held = none_held (s.units x).service.waiting (idle.queues x) held

-- ---- the start of a script is one
pub starts_idle : (drives : ℕ → Option DriveKind) (tables : ℕ → Option Table) (surface : Surface) → IsIdle (new_replay drives tables surface)
starts_idle drives tables surface = record { stages = λ x. refl; queues = λ x. refl; fresh = λ x. refl; between = refl }
