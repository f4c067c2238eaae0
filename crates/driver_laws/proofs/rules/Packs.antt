-- PACK comes once before a command: a unit that has said it speaks next, its volume is valid, and a command is due.
use Rattle.std.proofs.Common.{◌≡◌, inl, inr, ℕ, ◌+◌, ◌≤◌, ◌==◌, ◌&&◌, Bool, true, false, not, List, [], ◌∷◌, Option, Some, refl, sym, ap, ◌∙◌, subst, arith, rules}
use Rattle.std.specs.Prelude.{if◌then◌else◌}
use Rattle.std.proofs.lemmas.Option.{same_Some}
use Rattle.std.proofs.lemmas.Bool.Decides.{eqb_tells}
use Rattle.std.proofs.lemmas.Bool.{eqb-true}
use Rattle.pack_geometry.specs.declared.DriveKind.{DriveKind}
use Rattle.pack_geometry.specs.TableSpelling.{Table}
use Rattle.hardware_table.specs.Drive.{DriveState}
use Rattle.trace_replay.specs.requests.Requests.{Failed, Offline, Locked, Rejection, rejection_answer}
use Rattle.trace_replay.specs.Moments.{Deed, Search, Seek, Recal, Offset, Pack, Transfer, Arrive, Sector, Intr, Attn, End, Moment, Played, Told, Idle}
use Rattle.trace_replay.specs.Adapters.{AdapterSeen, adapter_of}
use Rattle.trace_replay.specs.Packs.{Surface}
use Rattle.trace_replay.specs.Conversation.{Positioning, SearchFor, Hand, is_write, transfer_of, command_of, needs_unlocked, guarded, due, Stage, Waiting, Steps, UnderWay, AtOnce, Moving, Saying, Ending, TalkMay, goes_on}
use Rattle.trace_replay.specs.Events.{Event, Wish, NoLine, DueLine, Arrival, SectorLine, Interrupt, Attention, Refusal, IdleLine, wish_of, wanted}
use Rattle.trace_replay.specs.Replay.{Replay, new_replay, with_state, next_wish, hand_of, drained, LineMay, ToldMay, Follows, after_moment, after_moments, unit_after, adapter_told, told_after, replay_told}
use Rattle.trace_replay.specs.History.{with_deed, lines_after, lines_behind}
use Rattle.trace_replay.specs.Causes.{AskSome, wants_command}
use Rattle.trace_replay.proofs.Histories.{Fits}
use Rattle.trace_replay.proofs.Kept.{AllFit, EndKept, end_kept, told_all, played_all, no}
use Rattle.driver_laws.specs.rules.Commands.{command_by, commands_in}
use Rattle.driver_laws.proofs.rules.Costs.{cost_by, cost_in}
use Rattle.driver_laws.proofs.rules.Queues.{same as its_test}

-- the last line is PACK
abbrev pub pack_last : List Deed → ℕ
pack_last (Pack ∷ lines) = 1
pack_last lines = 0

pub one_at_most : (lines : List Deed) → pack_last lines ≤ 1
one_at_most lines = search rules

not_last : (lines : List Deed) → (pack_last lines ≡ 1 → ⊥) → pack_last lines ≡ 0
not_last lines never = search rules

-- a unit that has said PACK
pub record Packed (s : Replay) (x : ℕ) : Type 0 where
  pub next : next_wish s ≡ DueLine x
  pub valid : (s.units x).drive.valid ≡ true
  pub wants : wants_command (s.units x).stage ≡ true

pub record PacksOnce (s : Replay) (lines : ℕ → List Deed) : Type 0 where
  pub packed : (x : ℕ) → pack_last (lines x) ≡ 1 → Packed s x
  pub counted : (x : ℕ) → commands_in (lines x) ≤ cost_in (lines x) + pack_last (lines x)

-- ---- wishes
wish_unit : Wish → ℕ
wish_unit (DueLine u) = u
wish_unit (Arrival u) = u
wish_unit (SectorLine u) = u
wish_unit (Interrupt u) = u
wish_unit (Attention u) = u
wish_unit wish = 0

wish_sort : Wish → ℕ
wish_sort (DueLine u) = 1
wish_sort wish = 0

unit_wished : (unit : ℕ) (deed : Deed) → wish_unit (wish_of unit deed) ≡ unit
unfolding wish_unit
unit_wished unit deed = search rules

pub its_own : (x unit : ℕ) (deed : Deed) → DueLine x ≡ wish_of unit deed → x ≡ unit
unfolding wish_unit
its_own x unit deed e = ap wish_unit e ∙ unit_wished unit deed

not_due : (x : ℕ) (wish : Wish) → wish_sort wish ≡ 0 → DueLine x ≡ wish → ⊥
unfolding wish_sort
not_due x wish is e = omega (arith, ap wish_sort e, is)

-- ---- a line behind PACK is a command that is guarded, or the end
abbrev IsGuarded : Deed → Type 0
IsGuarded (Search c y) = Unit {0}
IsGuarded (Seek c) = Unit {0}
IsGuarded Recal = Unit {0}
IsGuarded (Offset o) = Unit {0}
IsGuarded (Transfer write k n) = Unit {0}
IsGuarded (End answer) = Unit {0}
IsGuarded deed = ⊥

guard_valid : (P : Deed → Type 0) (online locking valid : Bool) (done : ℕ) (command deed : Deed) → valid ≡ true
    → (if not online then End (Failed Offline done) else if locking then End (Failed Locked done) else if not valid then Pack else command) ≡ deed
    → P (End (Failed Offline done)) → P (End (Failed Locked done)) → P command → P deed
guard_valid P online locking valid done command deed is so off lock go = search rules

step_guarded : (step : Positioning) → IsGuarded (command_of step)
step_guarded (SearchFor c y) = tt
step_guarded other = tt

due_guarded : (d : DriveState) (h : Hand) (stage : Stage) (deed : Deed) → d.valid ≡ true → wants_command stage ≡ true → due d h stage ≡ Some deed → IsGuarded deed
due_guarded d h Waiting deed valid wants is = absurd (no wants)
due_guarded d h (Steps [] segment) deed valid wants is =
    guard_valid IsGuarded d.online (is_write h && d.locked) d.valid h.progress.done (transfer_of segment h) deed valid
    (same_Some (guarded d h (transfer_of segment h)) deed is) tt tt tt
due_guarded d h (Steps (step ∷ left) segment) deed valid wants is =
    guard_valid IsGuarded d.online (needs_unlocked (command_of step) && d.locked) d.valid h.progress.done (command_of step) deed valid
    (same_Some (guarded d h (command_of step)) deed is) tt tt (step_guarded step)
due_guarded d h (UnderWay left segment) deed valid wants is = absurd (no wants)
due_guarded d h (AtOnce segment) deed valid wants is =
    guard_valid IsGuarded d.online (is_write h && d.locked) d.valid h.progress.done (transfer_of segment h) deed valid
    (same_Some (guarded d h (transfer_of segment h)) deed is) tt tt tt
due_guarded d h (Moving segment left last) deed valid wants is = absurd (no wants)
due_guarded d h (Saying lines next) deed valid wants is = absurd (no wants)
due_guarded d h (Ending answer) deed valid wants is = absurd (no wants)

behind_pack : (d : DriveState) (h : Hand) (stage : Stage) (x unit : ℕ) (deed : Deed) → d.valid ≡ true → wants_command stage ≡ true → DueLine x ≡ wish_of unit deed
    → TalkMay d h stage deed → IsGuarded deed
unfolding wish_sort
behind_pack d h stage x unit Arrive valid wants wished may = absurd (not_due x (Arrival unit) refl wished)
behind_pack d h stage x unit (Sector k v) valid wants wished may = absurd (not_due x (SectorLine unit) refl wished)
behind_pack d h stage x unit Intr valid wants wished may = absurd (not_due x (Interrupt unit) refl wished)
behind_pack d h stage x unit Attn valid wants wished may = absurd (not_due x (Attention unit) refl wished)
behind_pack d h stage x unit deed valid wants wished may = due_guarded d h stage deed valid wants may

-- ---- the commands are counted
unpacked : (deed : Deed) (lines : List Deed) → (pack_last lines ≡ 1 → ⊥) → command_by deed ≤ cost_by deed + pack_last (deed ∷ lines)
    → commands_in lines ≤ cost_in lines + pack_last lines → commands_in (deed ∷ lines) ≤ cost_in (deed ∷ lines) + pack_last (deed ∷ lines)
unpacked deed lines never le counted = omega (arith, not_last lines never, le, counted)

guarded_counted : (deed : Deed) (lines : List Deed) → command_by deed + 1 ≤ cost_by deed
    → commands_in lines ≤ cost_in lines + pack_last lines → commands_in (deed ∷ lines) ≤ cost_in (deed ∷ lines) + pack_last (deed ∷ lines)
guarded_counted deed lines le counted = omega (arith, one_at_most lines, le, counted)

line_counted : (deed : Deed) (lines : List Deed) → (pack_last lines ≡ 1 → IsGuarded deed) → EndKept deed → commands_in lines ≤ cost_in lines + pack_last lines
    → commands_in (with_deed deed lines) ≤ cost_in (with_deed deed lines) + pack_last (with_deed deed lines)
line_counted (Search c y) lines behind kept counted = guarded_counted (Search c y) lines (omega arith) counted
line_counted (Seek c) lines behind kept counted = guarded_counted (Seek c) lines (omega arith) counted
line_counted Recal lines behind kept counted = guarded_counted Recal lines (omega arith) counted
line_counted (Offset o) lines behind kept counted = guarded_counted (Offset o) lines (omega arith) counted
line_counted (Transfer write k n) lines behind kept counted = guarded_counted (Transfer write k n) lines (omega arith) counted
line_counted (End answer) lines behind kept counted =
    subst (λ z. commands_in (if z then lines else []) ≤ cost_in (if z then lines else []) + pack_last (if z then lines else [])) (sym kept) (omega arith)
line_counted other lines behind kept counted = unpacked other lines behind (omega arith) counted

-- ---- behind PACK the same unit speaks
pack_wants : (d : DriveState) (h : Hand) (stage : Stage) (lines : List Deed) → due d h stage ≡ Some Pack → Fits h stage lines → wants_command stage ≡ true
pack_wants d h stage lines is f = search rules

-- whose line comes next, by the stages of the speaker
speaks_by : (adapters : ℕ → AdapterSeen) (e : Event) (speaker_stage stage : Stage) (unit : ℕ) → wanted adapters e (goes_on speaker_stage) ≡ DueLine unit
    → (e.speaker ≡ unit → speaker_stage ≡ stage) → wants_command stage ≡ true
    → wanted (with_state adapters (adapter_of unit) (adapter_told (adapters (adapter_of unit)) unit Pack stage)) (record e { between = false; speaker = unit }) (goes_on stage) ≡ DueLine unit
speaks_by adapters e speaker_stage stage unit is same wants = search rules

pack_next : (s : Replay) (line unit id : ℕ) (lines : List Deed) → LineMay s line unit id Pack → Fits (hand_of (s.units unit)) (s.units unit).stage lines
    → Packed (replay_told s unit Pack (unit_after s unit Pack)) unit
pack_next s line unit id lines may f = record {
  next = rw (its_test unit) (speaks_by s.adapters s.event (s.units s.event.speaker).stage (s.units unit).stage unit may.wished (λ is. ap (λ z. (s.units z).stage) is) wants);
  valid = rw (its_test unit) refl;
  wants = rw (its_test unit) wants;
}
  where
    wants : wants_command (s.units unit).stage ≡ true
    wants = pack_wants (s.units unit).drive (hand_of (s.units unit)) (s.units unit).stage lines may.talk f

-- ---- all units
-- where the next line is of no unit by itself, none has said PACK
none_packed : (s : Replay) (lines : ℕ → List Deed) (wish : Wish) → next_wish s ≡ wish → wish_sort wish ≡ 0 → PacksOnce s lines → (x : ℕ) → pack_last (lines x) ≡ 1 → ⊥
none_packed s lines wish is sort p x last = not_due x wish sort (sym (p.packed x last).next ∙ is)

-- and where none has, any state keeps it so
pub unpacked_all : (s t : Replay) (lines : ℕ → List Deed) → ((x : ℕ) → pack_last (lines x) ≡ 1 → ⊥) → PacksOnce s lines → PacksOnce t lines
unpacked_all s t lines never p = record { packed = λ x last. absurd (never x last); counted = p.counted }

drained_packed : (s : Replay) (unit : ℕ) → Packed s unit → Packed (drained s) unit
drained_packed s unit p = search rules

-- the lines of the unit itself end with PACK only behind PACK
packed_now : (s t : Replay) (line unit id : ℕ) (deed : Deed) (lines : List Deed) → EndKept deed → pack_last (with_deed deed lines) ≡ 1
    → (deed ≡ Pack → Packed t unit) → Packed t unit
packed_now s t line unit id deed lines kept last so = search rules

-- no end of a line that the unit comes to is a refusal
deed_kept : (d : DriveState) (h : Hand) (stage : Stage) (deed : Deed) (lines : List Deed) → TalkMay d h stage deed → Fits h stage lines → EndKept deed
deed_kept d h stage Arrive lines may f = tt
deed_kept d h stage (Sector k v) lines may f = tt
deed_kept d h stage Intr lines may f = tt
deed_kept d h stage Attn lines may f = tt
deed_kept d h stage deed lines may f = end_kept d h stage deed lines may f

line_packs : (s : Replay) (line unit id : ℕ) (deed : Deed) (lines : ℕ → List Deed) → LineMay s line unit id deed → AllFit s lines → PacksOnce s lines
    → PacksOnce (drained (replay_told s unit deed (unit_after s unit deed))) (λ x. lines_after x (Told line unit id deed) (lines x))
line_packs s line unit id deed lines may all p = record { packed = packed_of; counted = counted_of }
  where
    kept : EndKept deed
    kept = deed_kept (s.units unit).drive (hand_of (s.units unit)) (s.units unit).stage deed (lines unit) may.talk (all unit).fits

    behind : pack_last (lines unit) ≡ 1 → IsGuarded deed
    behind last = behind_pack (s.units unit).drive (hand_of (s.units unit)) (s.units unit).stage unit unit deed (p.packed unit last).valid (p.packed unit last).wants
        (sym (p.packed unit last).next ∙ may.wished) may.talk

    here : deed ≡ Pack → Packed (drained (replay_told s unit deed (unit_after s unit deed))) unit
    here is = subst (λ z. Packed (drained (replay_told s unit z (unit_after s unit z))) unit) (sym is)
        (drained_packed (replay_told s unit Pack (unit_after s unit Pack)) unit
        (pack_next s line unit id (lines unit) (subst (λ z. LineMay s line unit id z) is may) (all unit).fits))

    other_packed : (x : ℕ) → x == unit ≡ false → pack_last (lines x) ≡ 1 → ⊥
    other_packed x apart last = no (sym apart ∙ ap (λ z. z == unit) (its_own x unit deed (sym (p.packed x last).next ∙ may.wished)) ∙ its_test unit)

    packed_by : (x : ℕ) (b : Bool) → x == unit ≡ b → (b ≡ true → x ≡ unit) → pack_last (if b then with_deed deed (lines x) else lines x) ≡ 1
        → Packed (drained (replay_told s unit deed (unit_after s unit deed))) x
    packed_by x true is same last = subst (λ z. Packed (drained (replay_told s unit deed (unit_after s unit deed))) z) (sym (same refl))
        (packed_now s (drained (replay_told s unit deed (unit_after s unit deed))) line unit id deed (lines x) kept last here)
    packed_by x false is same last = absurd (other_packed x is last)

    packed_of : (x : ℕ) → pack_last (lines_after x (Told line unit id deed) (lines x)) ≡ 1 → Packed (drained (replay_told s unit deed (unit_after s unit deed))) x
    packed_of x last = packed_by x (x == unit) refl (λ is. eqb-true x unit is) last

    counted_of : (x : ℕ) → commands_in (lines_after x (Told line unit id deed) (lines x)) ≤ cost_in (lines_after x (Told line unit id deed) (lines x)) + pack_last (lines_after x (Told line unit id deed) (lines x))
    counted_of x = elim (eqb_tells x unit) [
      | inl same ↦ rw same.0 (subst (λ z. commands_in (with_deed deed (lines z)) ≤ cost_in (with_deed deed (lines z)) + pack_last (with_deed deed (lines z))) (sym same.1)
          (line_counted deed (lines unit) behind kept (p.counted unit)))
      | inr other ↦ rw other.0 (p.counted x)
    ]

-- a refusal changes no lines
refusal_lines : (line unit id : ℕ) (why : Rejection) (lines : ℕ → List Deed) (x : ℕ) → lines_after x (Told line unit id (End (rejection_answer why))) (lines x) ≡ lines x
refusal_lines line unit id why lines x = search rules

refusal_packs : (s t : Replay) (line unit id : ℕ) (why : Rejection) (lines : ℕ → List Deed) → ((x : ℕ) → pack_last (lines x) ≡ 1 → ⊥) → PacksOnce s lines
    → PacksOnce t (λ x. lines_after x (Told line unit id (End (rejection_answer why))) (lines x))
refusal_packs s t line unit id why lines never p = record {
  packed = λ x last. absurd (never x (sym (ap pack_last (refusal_lines line unit id why lines x)) ∙ last));
  counted = λ x. subst (λ z. commands_in z ≤ cost_in z + pack_last z) (sym (refusal_lines line unit id why lines x)) (p.counted x);
}

told_packs : (wish : Wish) (s : Replay) (line unit id : ℕ) (deed : Deed) (lines : ℕ → List Deed) → next_wish s ≡ wish → ToldMay wish s line unit id deed → AllFit s lines → PacksOnce s lines
    → PacksOnce (told_after wish s unit deed) (λ x. lines_after x (Told line unit id deed) (lines x))
unfolding wish_sort
told_packs (Refusal u i why) s line unit id deed lines is may all p =
    subst (λ z. PacksOnce (told_after (Refusal u i why) s unit deed) (λ x. lines_after x (Told line unit id z) (lines x))) (sym may.answered)
    (refusal_packs s (told_after (Refusal u i why) s unit deed) line unit id why lines (none_packed s lines (Refusal u i why) is refl p) p)
told_packs other s line unit id deed lines is may all p = line_packs s line unit id deed lines may all p

pub moments_packs : (s : Replay) (ms : List Moment) (lines : ℕ → List Deed) → AskSome ms → Follows s ms → AllFit s lines → PacksOnce s lines
    → PacksOnce (after_moments s ms) (λ x. lines_behind x (lines x) ms)
unfolding wish_sort
moments_packs s [] lines some follows all p = p
moments_packs s (Played line input ∷ ms) lines some follows all p =
    moments_packs (after_moment s (Played line input)) ms lines some.1 follows.1 (played_all s input lines some.0 all)
    (unpacked_all s (after_moment s (Played line input)) lines (none_packed s lines NoLine follows.0.over refl p) p)
moments_packs s (Told line unit id deed ∷ ms) lines some follows all p =
    moments_packs (after_moment s (Told line unit id deed)) ms (λ x. lines_after x (Told line unit id deed) (lines x)) some follows.1
    (told_all (next_wish s) s line unit id deed lines follows.0 all) (told_packs (next_wish s) s line unit id deed lines refl follows.0 all p)
moments_packs s (Idle line ∷ ms) lines some follows all p =
    moments_packs (after_moment s (Idle line)) ms lines some follows.1 all
    (unpacked_all s (after_moment s (Idle line)) lines (none_packed s lines IdleLine follows.0.nothing refl p) p)

pub starts_packs : (drives : ℕ → Option DriveKind) (tables : ℕ → Option Table) (surface : Surface) → PacksOnce (new_replay drives tables surface) (λ x. [])
starts_packs drives tables surface = record { packed = λ x last. absurd (omega (arith, last)); counted = λ x. omega arith }
