-- The answers that wait stay steps, whatever else changes; and one more behind them.
use Rattle.std.proofs.Common.{◌≡◌, ℕ, ◌+◌, nat_lt, Bool, List, [], ◌∷◌, ◌++◌, Option, Some, None, refl, sym, ap, ◌∙◌, subst}
use Rattle.std.specs.Prelude.{if◌then◌else◌, Contains, unwrap_or}
use Rattle.pack_geometry.specs.declared.DriveKind.{DriveKind}
use Rattle.pack_geometry.specs.Geometry.{limit_of, place_at, replacement_at}
use Rattle.pack_geometry.specs.Pack.{Pack, is_marked}
use Rattle.pack_geometry.specs.Homes.{home_of, index_in, if_unmarked, replacement_home}
use Rattle.pack_geometry.specs.TableSpelling.{Table}
use Rattle.hardware_table.specs.Noise.{LiveNoise}
use Rattle.trace_replay.specs.declared.requests.answers.AnswerKind.{AnswerKind}
use Rattle.trace_replay.specs.declared.requests.answers.AnswerKind.TheVariants.{ReadOk, WriteOk, Eof, Error}
use Rattle.trace_replay.specs.declared.requests.answers.Cause.TheVariants as cause
use Rattle.driver_laws.specs.rules.Machine.{Blocks}
use Rattle.driver_laws.specs.rules.Stands.{is_sure_among}
use Rattle.driver_machine.specs.declared.Made.{Made}
use Rattle.driver_machine.specs.World.{World, Held, no_held, unit_at, slot_at, held_in}
use Rattle.driver_laws.proofs.invariant.SlotsLists.{Contains-first, Contains-later}
use Rattle.driver_laws.specs.shown.Bytes.{IsSureFor, done_by, IsSaid, IsStep, StepsFrom, maps_with, maps_behind, AreSteps}

-- homes go by the marks
replacement_same : (kind : DriveKind) (pack other : Pack) (o : Option ℕ) → other.marks ≡ pack.marks → replacement_home kind other o ≡ replacement_home kind pack o
replacement_same kind pack other None same = refl
replacement_same kind pack other (Some i) same =
    ap (λ (m : List ℕ). if_unmarked (record { image = []; marks = m }) (replacement_at kind i)) same

pub home_stays : (kind : DriveKind) (table : Option Table) (pack other : Pack) (block : ℕ) → other.marks ≡ pack.marks → home_of kind table other block ≡ home_of kind table pack block
home_stays kind table pack other block same =
    ap (λ (m : Bool). if nat_lt block (limit_of kind) then (if m then replacement_home kind other (index_in table (place_at kind block)) else Some block) else None)
    (ap (λ (m : List ℕ). is_marked (record { image = []; marks = m }) block) same)
    ∙ ap (λ (o : Option ℕ). if nat_lt block (limit_of kind) then (if is_marked pack block then o else Some block) else None)
    (replacement_same kind pack other (index_in table (place_at kind block)) same)

pub sure_stays : (sure less : ℕ → Type 0) (kind like : DriveKind) (table other : Option Table) (pack left : Pack) (h : Held) → ((x : ℕ) → less x → sure x)
    → like ≡ kind → other ≡ table → left.marks ≡ pack.marks → IsSureFor less like other left h → IsSureFor sure kind table pack h
sure_stays sure less kind like table other pack left h fewer k t m is n sector lt home =
    fewer sector (is n sector lt
    (subst (λ x. home_of like x left (h.first + n) ≡ Some sector) (sym t)
    (subst (λ x. home_of x table left (h.first + n) ≡ Some sector) (sym k) (home_stays kind table pack left (h.first + n) m ∙ home))))

said_less : (sure less : Type 0) (blocks : Blocks) (h : Held) (kind : AnswerKind) → (less → sure) → IsSaid sure blocks h kind → IsSaid less blocks h kind
said_less sure less blocks h (ReadOk count last) fewer is = λ l. is (fewer l)
said_less sure less blocks h WriteOk fewer is = tt
said_less sure less blocks h Eof fewer is = tt
said_less sure less blocks h (Error cause.Unforwarded done) fewer is = is
said_less sure less blocks h (Error cause.Partition done) fewer is = tt
said_less sure less blocks h (Error cause.Frames done) fewer is = tt
said_less sure less blocks h (Error cause.Offline done) fewer is = tt
said_less sure less blocks h (Error cause.Locked done) fewer is = tt
said_less sure less blocks h (Error (cause.Fault tries) done) fewer is = tt

-- WHAT AN ACT LEAVES of units and packs: their kinds, their tables and their marks
pub record Stays (armed more : List LiveNoise) (w now : World) (held left : ℕ → Pack) : Type 0 where
  pub kinds : (x : ℕ) → (unit_at now x).drive.kind ≡ (unit_at w x).drive.kind
  pub tables : (x : ℕ) → (unit_at now x).table ≡ (unit_at w x).table
  pub marks : (x : ℕ) → (left x).marks ≡ (held x).marks
  pub fewer : (x sector : ℕ) → is_sure_among more x sector → is_sure_among armed x sector

-- and of the slots for which answers wait
abbrev pub StaySlots : (w now : World) → List Made → Type 0
StaySlots w now answers = (made : Made) (q : ℕ) → Contains answers made → made.slot ≡ Some q → slot_at now q ≡ slot_at w q

step_stays : (armed more : List LiveNoise) (w now : World) (held left : ℕ → Pack) (maps : ℕ → Blocks) (slot : Option ℕ) (kind : AnswerKind) → Stays armed more w now held left
    → ((q : ℕ) → slot ≡ Some q → slot_at now q ≡ slot_at w q) → StepsFrom armed w held maps slot kind
    → StepsFrom more now left maps slot kind × (maps_behind now maps slot kind ≡ maps_behind w maps slot kind)
step_stays armed more w now held left maps None kind s stays is = (tt, refl)
step_stays armed more w now held left maps (Some p) kind s stays is =
    let same : held_in now p ≡ held_in w p = ap (λ (o : Option Held). unwrap_or o no_held) (stays p refl) in
    let h : Held = held_in w p in
    let at : IsStep (IsSureFor (is_sure_among more h.unit) (unit_at now h.unit).drive.kind (unit_at now h.unit).table (left h.unit) h) (maps h.unit) h kind = record {
      usable = is.usable;
      said = said_less _ _ (maps h.unit) h kind
          (sure_stays (is_sure_among armed h.unit) (is_sure_among more h.unit) (unit_at w h.unit).drive.kind (unit_at now h.unit).drive.kind (unit_at w h.unit).table (unit_at now h.unit).table
          (held h.unit) (left h.unit) h (s.fewer h.unit) (s.kinds h.unit) (s.tables h.unit) (s.marks h.unit)) is.said;
    } in (
      subst (λ (g : Held). IsStep (IsSureFor (is_sure_among more g.unit) (unit_at now g.unit).drive.kind (unit_at now g.unit).table (left g.unit) g) (maps g.unit) g kind) (sym same) at,
      ap (λ (g : Held). maps_with maps g (done_by kind g)) same,
    )

pub steps_stay : (armed more : List LiveNoise) (w now : World) (held left : ℕ → Pack) (answers : List Made) (first last : ℕ → Blocks) → Stays armed more w now held left
    → StaySlots w now answers → AreSteps armed w held answers first last → AreSteps more now left answers first last
steps_stay armed more w now held left [] first last s stays are = are
steps_stay armed more w now held left (made ∷ rest) first last s stays are =
    let one = step_stays armed more w now held left first made.slot made.answer.kind s (λ q is. stays made q (Contains-first made rest) is) are.0 in (
      one.0,
      subst (λ (maps : ℕ → Blocks). AreSteps more now left rest maps last) (sym one.1)
          (steps_stay armed more w now held left rest (maps_behind w first made.slot made.answer.kind) last s (λ m q c is. stays m q (Contains-later m made rest c) is) are.1),
    )

-- ONE ANSWER MORE
pub steps_more : (armed : List LiveNoise) (w : World) (held : ℕ → Pack) (answers : List Made) (made : Made) (first last : ℕ → Blocks) → AreSteps armed w held answers first last
    → StepsFrom armed w held last made.slot made.answer.kind → AreSteps armed w held (answers ++ made ∷ []) first (maps_behind w last made.slot made.answer.kind)
steps_more armed w held [] made first last are is = (
  subst (λ (maps : ℕ → Blocks). StepsFrom armed w held maps made.slot made.answer.kind) are is,
  ap (λ (maps : ℕ → Blocks). maps_behind w maps made.slot made.answer.kind) are,
)
steps_more armed w held (m ∷ rest) made first last are is =
    (are.0, steps_more armed w held rest made (maps_behind w first m.slot m.answer.kind) last are.1 is)
