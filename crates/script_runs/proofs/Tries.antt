-- A sector that a move tries, where it can: there is a verdict for it, and bytes, of what the surface has.
use Rattle.std.proofs.Common.{◌≡◌, ℕ, suc, ◌+◌, ◌≤◌, ◌==◌, Bool, true, false, not, ◌&&◌, List, [], ◌∷◌, length, take, Option, Some, None, refl, sym, ap, subst, arith, ◌∙◌}
use Rattle.std.specs.Prelude.{if◌then◌else◌, unwrap_or}
use Rattle.std.proofs.lemmas.List.{length-take-le}
use Rattle.pack_geometry.specs.Pack.{Pack}
use Rattle.pack_geometry.proofs.PackLaws.{length-block_at}
use Rattle.main_memory.specs.Blocks.{Loan, IsLoan, size_at}
use Rattle.hardware_table.specs.declared.Moved.{Moved}
use Rattle.hardware_table.specs.declared.Moved.TheVariants.{Clean}
use Rattle.hardware_table.specs.Drive.{DriveState, is_writing}
use Rattle.hardware_table.specs.Moves.{IsVerdict, has_bytes, was_read, was_written}
use Rattle.hardware_table.specs.Noise.{strikes}
use Rattle.hardware_table.specs.Adapter.{next_block, next_window}
use Rattle.trace_replay.specs.Script as script
use Rattle.trace_replay.specs.Script.{Input}
use Rattle.trace_replay.specs.Packs.{read_as, flips_at, flipped_from}
use Rattle.trace_replay.specs.Replay.{Replay}
use Rattle.driver_machine.specs.World.{World, Held, no_held, unit_of, unit_at, adapter_at, adapter_of, held_in, slot_in_hand, block_in}
use Rattle.driver_machine.specs.Acts.{Tried, Sector, scene_of}
use Rattle.driver_machine.specs.Events.{can_move}
use Rattle.driver_machine.specs.Guards.{IsTried, MayChange}
use Rattle.driver_machine.specs.Sound.{Sound, Transfers}
use Rattle.driver_machine.specs.Runs.{MayCome}
use Rattle.driver_laws.proofs.invariant.Calls.{IsServing, serving}
use Rattle.driver_laws.specs.shown.Within.{ShowsAll}
use Rattle.driver_laws.specs.shown.Calls.{IsSurfaceOf}
use Rattle.driver_laws.proofs.shown.Named.{IsTriedOn}
use Rattle.script_runs.proofs.Verdicts.{verdicts_exist}
use Rattle.driver_laws.proofs.shown.Showing.{IsOnSurface}

-- WHAT A READ GIVES is a whole sector.
flipped_length : (i : ℕ) (places bytes : List ℕ) → length (flipped_from i places bytes) ≡ length bytes
flipped_length i places [] = refl
flipped_length i places (b ∷ bytes) = ap suc (flipped_length (i + 1) places bytes)

read_length : (flips : Option (List ℕ)) (sector : List ℕ) → length (read_as flips sector) ≡ length sector
read_length None sector = refl
read_length (Some places) sector = flipped_length 0 places sector

part_length : (size : ℕ) (flips : Option (List ℕ)) (sector : List ℕ) → size ≤ 512 → length sector ≡ 512 → length (take size (read_as flips sector)) ≡ size
part_length size flips sector few whole =
    length-take-le size (read_as flips sector) (subst (λ (n : ℕ). size ≤ n) (sym (read_length flips sector ∙ whole)) few)

at_most : (loan : Loan) (k : ℕ) → IsLoan loan → size_at loan k ≤ 512
at_most loan k is = by_test (k + 1 == loan.count)
  where
    by_test : (b : Bool) → (if b then loan.last else 512) ≤ 512
    by_test true = is.shape.last_few
    by_test false = omega arith

busy_too : (b c : Bool) → b && not c ≡ true → b ≡ true
busy_too true c e = refl
busy_too false c e = absurd (cc e)

not_both : (has write : Bool) → has && not write ≡ true → has && write ≡ false
not_both true true e = absurd (cc e)
not_both true false e = refl
not_both false write e = refl

-- THE BYTES of a sector: those of the buffer where it is written
abbrev moved_by : Bool → List ℕ → List ℕ → List ℕ
moved_by write given read = if write then given else read

-- A LINE OF THE SCRIPT may come, but for the sector that it tries.
abbrev pub IsAllowed : World → Input → Type 0
IsAllowed w (script.ArriveAt u) = Unit {0}
IsAllowed w (script.MoveAt a) = Unit {0}
IsAllowed w (script.AttendTo a) = Unit {0}
IsAllowed w input = MayChange w input

pub record Tries (w : World) (s : Replay) (input : Input) : Type 0 where
  pub tried : Tried
  pub may : MayCome w input tried
  pub on : IsTriedOn w s input tried

no_try : Tried
no_try = record { marked = false; verdict = Clean; bytes = [] }

-- A MOVE
loan_in_hand : (w : World) (a : ℕ) → Sound w → IsServing w a → (adapter_at w a).state.busy ≡ true
    → IsLoan (held_in w (slot_in_hand (unit_at w (unit_of w a)))).loan
loan_in_hand w a sound serves busy =
    let busy_for : (h : Held) × Transfers w (unit_of w a) h (adapter_at w a).state = (sound.each_adapter a serves.adapter).busy busy in
    subst (λ (o : Option Held). IsLoan (unwrap_or o no_held).loan) (sym busy_for.1.slot)
    (sound.each_slot (slot_in_hand (unit_at w (unit_of w a))) busy_for.0 busy_for.1.slot).loan

move_tried : (a : ℕ) (held : ℕ → Pack) (w : World) (s : Replay) → Sound w → ShowsAll w s → IsSurfaceOf held s → can_move (adapter_at w a) ≡ true
    → (tried : Tried) × IsTried (unit_of w a) (next_block (adapter_at w a).state) tried (scene_of w (unit_of w a))
    × IsOnSurface s (unit_of w a) (Sector (next_block (adapter_at w a).state) tried) (scene_of w (unit_of w a))
move_tried a held w s sound shows packs can =
    let u : ℕ = unit_of w a in
    let block : ℕ = next_block (adapter_at w a).state in
    let d : DriveState = (unit_at w u).drive in
    let h : Held = held_in w (slot_in_hand (unit_at w u)) in
    let k : ℕ = next_window (adapter_at w (adapter_of u)).state in
    let busy : (adapter_at w a).state.busy ≡ true = busy_too (adapter_at w a).state.busy (adapter_at w a).state.completion can in
    let loan : IsLoan h.loan = loan_in_hand w a sound (serving w a sound busy) busy in
    let verdict : (v : Moved) × IsVerdict d (s.surface.is_marked u block) (strikes u block d.offset w.book.live) v =
    verdicts_exist d (s.surface.is_marked u block) (strikes u block d.offset w.book.live) in
    let read : List ℕ = take (size_at h.loan k) (read_as (flips_at s.surface u d block) (s.surface.sector u block)) in
    let bytes : List ℕ = moved_by (was_written d verdict.0) (block_in h k) read in
    let reads : was_read d verdict.0 ≡ true → bytes ≡ read =
    λ is. ap (λ (b : Bool). moved_by b (block_in h k) read) (not_both (has_bytes verdict.0) (is_writing d.work) is) in
    let whole : length (s.surface.sector u block) ≡ 512 = ap (λ (bytes : List ℕ). length bytes) (packs.sectors u block) ∙ length-block_at (held u).image block in (
      record { marked = s.surface.is_marked u block; verdict = verdict.0; bytes = bytes },
      record {
        verdict = verdict.1;
        bytes = λ is. ap (λ (b : Bool). moved_by b (block_in h k) read) is;
        size = λ is. ap (λ (bytes : List ℕ). length bytes) (reads is)
            ∙ part_length (size_at h.loan k) (flips_at s.surface u d block) (s.surface.sector u block) (at_most h.loan k loan) whole;
      },
      (refl, reads),
    )

-- ANY OTHER LINE tries none.
pub tries : (input : Input) (held : ℕ → Pack) (w : World) (s : Replay) → Sound w → ShowsAll w s → IsSurfaceOf held s → IsAllowed w input → Tries w s input
tries (script.ArriveAt u) held w s sound shows packs is = record { tried = no_try; may = tt; on = tt }
tries (script.AttendTo a) held w s sound shows packs is = record { tried = no_try; may = tt; on = tt }
tries (script.MoveAt a) held w s sound shows packs is = by (can_move (adapter_at w a)) refl
  where
    by : (b : Bool) → can_move (adapter_at w a) ≡ b → Tries w s (script.MoveAt a)
    by true can =
        let found : (tried : Tried) × IsTried (unit_of w a) (next_block (adapter_at w a).state) tried (scene_of w (unit_of w a))
        × IsOnSurface s (unit_of w a) (Sector (next_block (adapter_at w a).state) tried) (scene_of w (unit_of w a)) = move_tried a held w s sound shows packs can in
        record { tried = found.0; may = λ _. found.1; on = λ _. found.2 }
    by false not = record { tried = no_try; may = λ can. absurd (cc (not, can)); on = λ can. absurd (cc (not, can)) }
tries (script.Turn u sector) held w s sound shows packs is = record { tried = no_try; may = is; on = tt }
tries (script.Noise noise) held w s sound shows packs is = record { tried = no_try; may = is; on = tt }
tries (script.Arm u kind times) held w s sound shows packs is = record { tried = no_try; may = is; on = tt }
tries (script.SetOnline u on) held w s sound shows packs is = record { tried = no_try; may = is; on = tt }
tries (script.SetLocked u on) held w s sound shows packs is = record { tried = no_try; may = is; on = tt }
tries (script.Submit r) held w s sound shows packs is = absurd is
tries script.Drain held w s sound shows packs is = absurd is
