-- A sector that was read as the packs have it is that of the surface: what a read gives is determined.
use Rattle.std.proofs.Common.{ℕ, List, take, sym, ap, ◌∙◌}
use Rattle.pack_geometry.specs.Pack.{Pack, block_at}
use Rattle.main_memory.specs.Blocks.{size_at}
use Rattle.hardware_table.specs.Adapter.{next_block, next_window}
use Rattle.hardware_table.specs.Noise.{LiveNoise, strikes}
use Rattle.request_slots.specs.Move.{struck_at}
use Rattle.trace_replay.specs.Script as script
use Rattle.trace_replay.specs.Script.{Input}
use Rattle.trace_replay.specs.Packs.{read_as}
use Rattle.trace_replay.specs.Bytes.{ArePlaces}
use Rattle.trace_replay.specs.Replay.{Replay}
use Rattle.driver_machine.specs.World.{World, unit_of, unit_at, adapter_at, adapter_of, held_in, slot_in_hand}
use Rattle.driver_machine.specs.Acts.{Tried, Of, Sector, scene_of}
use Rattle.driver_laws.specs.answers.Packs.{Reads}
use Rattle.driver_laws.specs.shown.Within.{ShowsAll}
use Rattle.driver_laws.specs.shown.Calls.{IsSurfaceOf, IsReadOf}
use Rattle.driver_laws.proofs.shown.Named.{IsTriedOn}
use Rattle.driver_laws.proofs.shown.Struck.{front_read}
use Rattle.driver_laws.proofs.shown.Showing.{IsOnSurface}

-- SO WHAT WAS READ of the packs is on the surface.
pub reads_are_on_surface : (line u id block : ℕ) (tried : Tried) (held : ℕ → Pack) (w : World) (s : Replay) → ShowsAll w s → IsSurfaceOf held s
    → ArePlaces (struck_at u block (unit_at w u).drive w.book) → Reads w held (Of line u id (Sector block tried))
    → IsOnSurface s u (Sector block tried) (scene_of w u)
reads_are_on_surface line u id block tried held w s shows packs are reads = (
  reads.mark ∙ sym (packs.marks u block),
  λ read.
      front_read (struck_at u block (unit_at w u).drive w.book) (block_at (held u).image block)
      (size_at (held_in w (slot_in_hand (unit_at w u))).loan (next_window (adapter_at w (adapter_of u)).state)) tried.bytes are (reads.bytes read)
      ∙ ap (λ (live : List LiveNoise). take (size_at (held_in w (slot_in_hand (unit_at w u))).loan (next_window (adapter_at w (adapter_of u)).state))
      (read_as (strikes u block (unit_at w u).drive.offset live) (block_at (held u).image block))) (sym shows.noise)
      ∙ ap (λ (bytes : List ℕ). take (size_at (held_in w (slot_in_hand (unit_at w u))).loan (next_window (adapter_at w (adapter_of u)).state))
      (read_as (strikes u block (unit_at w u).drive.offset s.surface.live) bytes)) (sym (packs.sectors u block)),
)

pub tried_on : (input : Input) (tried : Tried) (held : ℕ → Pack) (w : World) (s : Replay) → ShowsAll w s → IsSurfaceOf held s → IsReadOf w held input tried
    → IsTriedOn w s input tried
tried_on (script.MoveAt a) tried held w s shows packs of_packs = λ can.
    reads_are_on_surface 0 (unit_of w a) 0 (next_block (adapter_at w a).state) tried held w s shows packs (of_packs can).flips (of_packs can).read
tried_on other tried held w s shows packs of_packs = tt
