-- A move: one sector is tried, and the surface stays what the packs hold.
use Rattle.std.proofs.Common.{◌≡◌, inl, ℕ, ◌+◌, ◌-◌, ◌==◌, ◌<◌, ◌≤◌, Bool, true, false, not, ◌&&◌, List, [], ◌∷◌, ◌++◌, take, length, refl, sym, ap, subst, arith, ◌∙◌, rules}
use Rattle.std.specs.Prelude.{if◌then◌else◌, replicate}
use Rattle.std.proofs.lemmas.Bool.Decides.{eqb_tells}
use Rattle.std.proofs.lemmas.List.{take-replicate}
use Rattle.std.proofs.Math.Seq.{take-append-add}
use Rattle.pack_geometry.specs.Pack.{Pack, block_at, is_marked, with_written}
use Rattle.pack_geometry.proofs.PackLaws.{block_at-with_block_same, block_at-with_block_other}
use Rattle.main_memory.specs.Bytes.{filled}
use Rattle.main_memory.proofs.ByteLaws.{length-filled}
use Rattle.hardware_table.specs.Drive.{DriveState}
use Rattle.hardware_table.specs.Moves.{was_read, was_written}
use Rattle.hardware_table.specs.Adapter.{AdapterState, next_block, next_window}
use Rattle.trace_replay.specs.requests.Requests.{Request}
use Rattle.trace_replay.specs.Moments as moment
use Rattle.trace_replay.specs.Moments.{Told}
use Rattle.trace_replay.specs.Packs.{Surface, this_sector_or, surface_tried, surface_read, surface_written, sector_of_block}
use Rattle.trace_replay.specs.Service.{in_hand}
use Rattle.trace_replay.specs.Events.{SectorLine, Trying}
use Rattle.trace_replay.specs.Replay.{Replay}
use Rattle.driver_machine.specs.declared.Phase.{Phase}
use Rattle.driver_machine.specs.declared.Phase.TheVariants.{Transferring}
use Rattle.driver_machine.specs.World.{World, UnitView, Held, adapter_of, unit_on, unit_of, unit_at, adapter_at, held_in, slot_in_hand, transfer_of}
use Rattle.driver_machine.specs.Acts as deed
use Rattle.driver_machine.specs.Acts.{Deed, Of, Tried, effect, scene_of, after}
use Rattle.driver_machine.proofs.Measure.{is_resting}
use Rattle.driver_machine.specs.Events.{can_move}
use Rattle.driver_machine.specs.Events as part
use Rattle.driver_machine.specs.Guards.{Allowed, IsSetUp}
use Rattle.driver_machine.specs.Sound.{Sound}
use Rattle.driver_machine.proofs.DueFacts.{false_true}
use Rattle.driver_machine.proofs.Until.{own_unit}
use Rattle.driver_machine.specs.Runs.{Run}
use Rattle.driver_laws.proofs.invariant.Deeds.{deed_at}
use Rattle.driver_laws.proofs.invariant.Due.{in_hand_one}
use Rattle.driver_laws.proofs.invariant.Calls.{IsServing, serving}
use Rattle.driver_laws.specs.answers.Packs.{packs_after}
use Rattle.driver_laws.proofs.shown.Writes.{writes_show}
use Rattle.driver_laws.proofs.shown.Facts.{At, at_facts}
use Rattle.driver_laws.proofs.shown.Sector.{IsSector, sector_facts}
use Rattle.driver_laws.specs.shown.Within.{Rests}
use Rattle.driver_laws.proofs.shown.Telling.{told_within, IsTold}
use Rattle.driver_laws.specs.shown.Calls.{IsSurfaceOf, IsOverWithin}
use Rattle.driver_laws.proofs.shown.Joined.{Followed, lines_follow}
use Rattle.driver_laws.proofs.shown.Due.{IsQuiet, rest_quiet}
use Rattle.driver_laws.proofs.shown.Speaking.{MayTell, may_follow, then_speaks}
use Rattle.driver_laws.proofs.shown.Resting.{shows_one}
use Rattle.driver_laws.proofs.shown.Starting.{wish_resting, set_up}
use Rattle.driver_laws.proofs.shown.Events.{drained_there}
use Rattle.driver_laws.proofs.shown.Inputs.{rest_over}
use Rattle.trace_replay.proofs.Unchanged.{read_same, read_marks}
use Rattle.main_memory.proofs.BlockLaws.{size_few}
use Rattle.driver_laws.proofs.shown.Showing.{IsOnSurface, Shows, is_coming}

-- THE BYTES that a write gives, with zeros behind them
pub cut_filled : (size : ℕ) (bytes : List ℕ) → length bytes ≤ size → take size (bytes ++ replicate size 0) ≡ filled size bytes
unfolding filled
cut_filled size bytes few =
    let whole : length bytes + (size - length bytes) ≡ size = omega (arith, few) in
    let less : size - length bytes ≤ size = omega arith in
    ap (λ (n : ℕ). take n (bytes ++ replicate size 0)) (sym whole) ∙ take-append-add bytes (replicate size 0) (size - length bytes)
    ∙ ap (λ (zeros : List ℕ). bytes ++ zeros) (take-replicate (size - length bytes) size 0 less)

-- A SECTOR IS WRITTEN in the surface and in the packs alike.
written_sector : (held : ℕ → Pack) (sectors : ℕ → ℕ → List ℕ) (u block : ℕ) (bytes : List ℕ) → length bytes ≡ 512
    → ((x b : ℕ) → sectors x b ≡ block_at (held x).image b)
    → (x b : ℕ) → this_sector_or ((x == u) && (b == block)) bytes sectors x b ≡ block_at (with_written held u block bytes x).image b
written_sector held sectors u block bytes long same x b = search (rules, eqb_tells, block_at-with_block_same, block_at-with_block_other)

pub written_marks : (held : ℕ → Pack) (u block : ℕ) (bytes : List ℕ) (x : ℕ) → (with_written held u block bytes x).marks ≡ (held x).marks
written_marks held u block bytes x = search rules

pub record IsWritten (held : ℕ → Pack) (s : Surface) : Type 0 where
  pub sectors : (x b : ℕ) → s.sector x b ≡ block_at (held x).image b
  pub marks : (x b : ℕ) → s.is_marked x b ≡ is_marked (held x) b

tried_by : (writes : Bool) (held : ℕ → Pack) (s t : Surface) (u block : ℕ) (r : Request) (k : ℕ) (bytes : List ℕ) → IsWritten held s
    → t.sector ≡ s.sector → t.is_marked ≡ s.is_marked
    → (writes ≡ true → (sector_of_block r k ≡ filled 512 bytes) × (length bytes ≤ 512))
    → IsWritten (if writes then with_written held u block (filled 512 bytes) else held) (surface_written writes t u block r k)
tried_by true held s t u block r k bytes is sectors marks content =
    let given : (sector_of_block r k ≡ filled 512 bytes) × (length bytes ≤ 512) = content refl in
    record {
      sectors = λ x b. ap (λ (content : List ℕ). this_sector_or ((x == u) && (b == block)) content t.sector x b) given.0
          ∙ written_sector held t.sector u block (filled 512 bytes) (length-filled 512 bytes given.1)
          (λ y c. ap (λ (f : ℕ → ℕ → List ℕ). f y c) sectors ∙ is.sectors y c) x b;
      marks = λ x b. ap (λ (f : ℕ → ℕ → Bool). f x b) marks ∙ is.marks x b
          ∙ sym (ap (λ (ms : List ℕ). not (Rattle.std.specs.Prelude.slice_index ms b == 0)) (written_marks held u block (filled 512 bytes) x));
    }
tried_by false held s t u block r k bytes is sectors marks content = record {
  sectors = λ x b. ap (λ (f : ℕ → ℕ → List ℕ). f x b) sectors ∙ is.sectors x b;
  marks = λ x b. ap (λ (f : ℕ → ℕ → Bool). f x b) marks ∙ is.marks x b;
}

-- WHAT IS WRITTEN is at most a sector.
few_bytes : (u id block line : ℕ) (t : Tried) (w : World) (s : Replay) → Sound w → Shows u w s → Allowed w (Of line u id (deed.Sector block t))
    → was_written (unit_at w u).drive t.verdict ≡ true → length t.bytes ≤ 512
few_bytes u id block line t w s sound shows allowed given =
    let h : Held = held_in w (slot_in_hand (unit_at w u)) in
    let a : AdapterState = (adapter_at w (adapter_of u)).state in
    let at : At u id w s = at_facts u id w s sound shows allowed.0 in
    let is : IsSector u w s t.verdict = sector_facts u id block w s t sound at allowed.1.0 allowed.1.2 in
    let inside : next_window a < h.loan.count =
    subst (λ n. n < h.loan.count) (sym is.moving.window) (subst (λ n. (transfer_of (unit_at w u)).done + a.moved < n) at.slot.size is.moving.inside) in
    subst (λ n. n ≤ 512) (sym (ap length (allowed.1.2.bytes given) ∙ at.slot.whole (next_window a) inside))
    (size_few h.loan (next_window a) at.slot.loan)

-- A MOVE
pub move_told : (line a : ℕ) (drains : Bool) (tried : Tried) (held : ℕ → Pack) (w : World) (s : Replay)
    → Rests line drains (Trying a) w s → IsSurfaceOf held s → can_move (adapter_at w a) ≡ true
    → IsOnSurface s (unit_of w a) (deed.Sector (next_block (adapter_at w a).state) tried) (scene_of w (unit_of w a))
    → Run w (part.in_hand line (unit_of w a) (deed.Sector (next_block (adapter_at w a).state) tried) w)
    → IsTold line drains held w s (part.in_hand line (unit_of w a) (deed.Sector (next_block (adapter_at w a).state) tried) w)
move_told line a drains tried held w s rests packs can on_surface run =
    by_serving (busy_too (adapter_at w a).state.busy (adapter_at w a).state.completion can)
    (serving w a rests.sound (busy_too (adapter_at w a).state.busy (adapter_at w a).state.completion can))
  where
    busy_too : (b c : Bool) → b && not c ≡ true → b ≡ true
    busy_too true c e = refl
    busy_too false c e = absurd (false_true e)

    by_serving : (adapter_at w a).state.busy ≡ true → IsServing w a
        → IsTold line drains held w s (part.in_hand line (unit_of w a) (deed.Sector (next_block (adapter_at w a).state) tried) w)
    by_serving busy serves =
        let u : ℕ = unit_of w a in
        let block : ℕ = next_block (adapter_at w a).state in
        let d : Deed = deed.Sector block tried in
        let told : moment.Deed = moment.Sector block tried.verdict in
        let id : ℕ = (held_in w (slot_in_hand (unit_at w u))).id in
        let unit : IsSetUp w u = set_up w u rests.sound serves.unit serves.some in
        let phase : (unit_at w u).phase ≡ Transferring = ((rests.sound.each_adapter a serves.adapter).busy busy).1.phase in
        let quiet : IsQuiet Transferring (s.units u).stage =
        rest_quiet Transferring (held_in w) (unit_at w u) (adapter_at w (adapter_of u)).state (s.units u) (rests.shows.units u unit) phase (inl refl) in
        let shows : Shows u w s =
        shows_one u w s serves.unit rests.shows (ap (λ (p : Phase). is_coming p (s.units u).stage) phase ∙ quiet.coming) in
        let one : part.in_hand line u d w ≡ deed_at line u d w ∷ [] = in_hand_one line u d w serves.some in
        let runs : Run w (deed_at line u d w ∷ []) = subst (Run w) one run in
        let may : MayTell line u id drains (Trying a) w s d told = record {
          sound = rests.sound;
          unit = unit;
          shows = shows;
          event = rests.event;
          wished = wish_resting line drains (Trying a) w s rests ∙ ap (λ (k : ℕ). SectorLine (unit_on a k)) (rests.shows.adapters a serves.adapter).drive;
          quiet = λ x. λ other. rests.quiet x;
          allowed = runs.0;
          tells = refl;
          surface = on_surface;
        } in
        let after_phase : (unit_at (after w (deed_at line u d w)) u).phase ≡ (unit_at w u).phase =
        ap (λ (v : UnitView). v.phase) (own_unit w u (slot_in_hand (unit_at w u)) (effect line u (slot_in_hand (unit_at w u)) d (scene_of w u))
        (subst (λ (k : ℕ). u < k) (sym rests.sound.units) serves.unit)) in
        let over : IsOverWithin line drains (after w (deed_at line u d w)) (told_within s u told) =
        rest_over line drains (unit_at w) (adapter_at (after w (deed_at line u d w)) (adapter_of u)).state.attentions u
        (then_speaks line u id drains (Trying a) w s d told (unit_at w)
        (adapter_at (after w (deed_at line u d w)) (adapter_of u)).state.attentions (λ x. λ other. refl) refl may)
        (ap is_resting (after_phase ∙ phase)) in
        let lines : Followed s (Told line u id told ∷ []) =
        lines_follow (Told line u id told ∷ []) s (may_follow line u id drains (Trying a) w s d told may, tt) in
        let same : (s.units u).drive ≡ (unit_at w u).drive = (rests.shows.units u unit).drive in
        let wrote : IsWritten (packs_after w held (deed_at line u d w)) (told_within s u told).surface =
        subst (λ (x : DriveState). IsWritten (packs_after w held (deed_at line u d w))
        (surface_tried s.surface u x block tried.verdict (in_hand (s.units u).service) (s.units u).progress.done)) (sym same)
        (tried_by (was_written (unit_at w u).drive tried.verdict) held s.surface
        (surface_read (was_read (unit_at w u).drive tried.verdict) s.surface u (unit_at w u).drive block) u block
        (in_hand (s.units u).service) (s.units u).progress.done tried.bytes (record { sectors = packs.sectors; marks = packs.marks })
        (read_same (was_read (unit_at w u).drive tried.verdict) s.surface u (unit_at w u).drive block)
        (read_marks (was_read (unit_at w u).drive tried.verdict) s.surface u (unit_at w u).drive block)
        (λ given.
        let few : length tried.bytes ≤ 512 = few_bytes u id block line tried w s rests.sound shows runs.0 given in
        (writes_show u id block line tried w s rests.sound shows runs.0 given ∙ cut_filled 512 tried.bytes few, few))) in
        subst (IsTold line drains held w s) (sym one)
        (record {
          follows = lines.follows;
          ends = record {
            last = told_within s u told;
            is = lines.after;
            over = over;
            packs = record { sectors = wrote.sectors; marks = wrote.marks };
          };
          there = ap (λ (r : Replay). r.there) lines.after ∙ drained_there (told_within s u told);
        })
