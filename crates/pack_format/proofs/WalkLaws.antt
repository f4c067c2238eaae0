-- The walk over all sectors: what is done so far, one task more, and where a task stops.
use Rattle.std.proofs.Common.{◌≡◌, ◌≢◌, ◌⊎◌, inl, inr, ℕ, ◌+◌, ◌-◌, ◌/◌, ◌%◌, ◌<◌, ◌≤◌, ◌==◌, Bool, true, false, List, length, replicate, refl, sym, ap, ◌∙◌, subst, arith}
use Rattle.std.proofs.lemmas.Bool.{cases_lt}
use Rattle.std.proofs.lemmas.List.{length-map}
use Rattle.std.proofs.lemmas.Bool.Decides.{Decides-eqb}
use Rattle.pack_geometry.specs.declared.DriveKind.{DriveKind}
use Rattle.pack_geometry.specs.declared.DriveKind.TheVariants.{Rp06}
use Rattle.pack_geometry.specs.Geometry.{copy_at, limit_of, place_at, replacement_at}
use Rattle.pack_geometry.specs.Pack.{Pack, block_at, is_marked}
use Rattle.pack_geometry.specs.TableSpelling.{Spells, Table}
use Rattle.pack_format.specs.Faults.{Formats}
use Rattle.pack_format.specs.Formatted.{CanBeFormatted, Copy, Data, Holds, IsPartly, IsWritten, IsZeros, Replacement, found, marked_blocks, table_for}
use Rattle.pack_format.specs.Tasks.{Did, IsTask, MayWrite, StopsAt}
use Rattle.pack_format.specs.testing.Stages.{Fills, IsAsLong, IsTested, Stops, if_done, one}
use Rattle.pack_format.specs.testing.Stops.{Writes}
use Rattle.pack_format.specs.declared.job.Task.{Task}
use Rattle.pack_format.specs.declared.job.Task.TheVariants.{Test, Put, Leave}
use Rattle.pack_format.proofs.testing.LongLaws.{long_as, long_at, long_same, long_then}
use Rattle.pack_format.proofs.testing.StageLaws.{at, eq_other, eq_same, false_true, none_of_one, off, on, one_here, one_is, one_there, same_marks}

-- ---- the parts of a drive

pub spare_place : (kind : DriveKind) (i : ℕ) → i < 126 → (limit_of kind ≤ replacement_at kind i) × (replacement_at kind i < copy_at kind 0)
spare_place Rp06 i lt = (omega (arith, lt), omega (arith, lt))
spare_place other i lt = (omega (arith, lt), omega (arith, lt))

pub copies_above : (kind : DriveKind) (k : ℕ) → copy_at kind 0 ≤ copy_at kind k
copies_above kind k = omega arith

data_below : (kind : DriveKind) → limit_of kind ≤ copy_at kind 0
data_below Rp06 = omega arith
data_below other = omega arith

-- the replacements that are used lie directly below the copies
which_replacement : (kind : DriveKind) (sector n : ℕ) → n ≤ 126 → copy_at kind 0 - n ≤ sector → sector < copy_at kind 0
    → (i : ℕ) × (i < n) × (sector ≡ replacement_at kind i)
which_replacement Rp06 sector n le from to = (copy_at Rp06 0 - 1 - sector, omega (arith, le, from, to), omega (arith, le, from, to))
which_replacement other sector n le from to = (copy_at other 0 - 1 - sector, omega (arith, le, from, to), omega (arith, le, from, to))

-- and every other sector from there on is a copy
pub copy_of : (kind : DriveKind) (sector first : ℕ) → first ≡ copy_at kind 0 → first ≤ sector → sector < first + 10 → (sector - first) % 2 ≡ 0
    → (k : ℕ) × (k < 5) × (sector ≡ copy_at kind k)
copy_of kind sector first is le lt even = ((sector - first) / 2, omega (arith, le, lt, even), omega (arith, is, le, lt, even))

spare_above : (kind : DriveKind) (i n : ℕ) → n ≤ 126 → i < n → copy_at kind 0 - n ≤ replacement_at kind i
spare_above Rp06 i n le lt = omega (arith, le, lt)
spare_above other i n le lt = omega (arith, le, lt)

-- a sector that is written is unmarked
pub unmarked_written : {kind : DriveKind} {pack : Pack} {sector : ℕ} → IsWritten kind pack sector → is_marked pack sector ≡ false
unmarked_written (Data within unmarked) = unmarked
unmarked_written (Replacement i less is unmarked) = unmarked
unmarked_written (Copy k less is unmarked) = unmarked

-- ---- the tasks of a pack

-- a table of a pack that can be formatted, how many blocks it lists, and its text
pub record IsSet (kind : DriveKind) (serial n : ℕ) (bytes : List ℕ) (pack : Pack) : Type 0 where
  pub can : CanBeFormatted kind pack
  pub number : n ≡ found kind pack
  pub spelled : Spells bytes (table_for kind serial pack)

pub set_of : (kind : DriveKind) (serial n : ℕ) (bytes : List ℕ) (pack : Pack) (table : Table) → CanBeFormatted kind pack → table ≡ table_for kind serial pack
    → n ≡ length table.places → Spells bytes table → IsSet kind serial n bytes pack
set_of kind serial n bytes pack table can is count spelled = record {
  can = can;
  number = count ∙ ap (λ (t : Table). length t.places) is ∙ length-map (marked_blocks kind pack) (place_at kind);
  spelled = subst (λ (t : Table). Spells bytes t) is spelled;
}

module _ (kind : DriveKind) (serial n : ℕ) (bytes : List ℕ) (old : Pack) (s : IsSet kind serial n bytes old) where
  few : n ≤ 126
  few = elim (cases_lt 126 (found kind old)) [ inl many ↦ absurd (s.can.few many) | inr le ↦ omega (arith, le, s.number) ]

  spare_low : (i : ℕ) → i < found kind old → i < 126
  spare_low i less = omega (arith, less, few, s.number)

  tested : (sector : ℕ) → IsTask kind n sector Test → is_marked old sector ≡ false → IsWritten kind old sector
  tested sector (inl below) unmarked = Data below unmarked
  tested sector (inr range) unmarked =
      let w = which_replacement kind sector n few range.0 range.1 in Replacement w.0 (omega (arith, w.1, s.number)) w.2 unmarked

  put : (sector : ℕ) → IsTask kind n sector Put → is_marked old sector ≡ false → IsWritten kind old sector
  put sector copy unmarked = Copy copy.0 copy.1 copy.2 unmarked

  left : (sector : ℕ) → IsTask kind n sector Leave → IsWritten kind old sector → ⊥
  left sector (inl range) (Data below unmarked) = omega (arith, below, range.0)
  left sector (inl range) (Replacement i less is unmarked) =
      let above = spare_above kind i n few (omega (arith, less, s.number)) in omega (arith, is, range.1, above)
  left sector (inl range) (Copy k less is unmarked) = omega (arith, is, range.1, copies_above kind k)
  left sector (inr behind) (Data below unmarked) = omega (arith, below, behind.0, data_below kind)
  left sector (inr behind) (Replacement i less is unmarked) = omega (arith, is, behind.0, (spare_place kind i (spare_low i less)).1)
  left sector (inr behind) (Copy k less is unmarked) = behind.1 k less is

  -- what a sector is to have
  test_holds : (Such : List ℕ → Type 0) (sector : ℕ) (xs : List ℕ) → IsTask kind n sector Test → Such xs → (w : IsWritten kind old sector) → Holds Such kind serial old sector xs w
  test_holds Such sector xs task such (Data below unmarked) = such
  test_holds Such sector xs task such (Replacement i less is unmarked) = such
  test_holds Such sector xs (inl below) such (Copy k less is unmarked) = absurd (omega (arith, is, below, data_below kind, copies_above kind k))
  test_holds Such sector xs (inr range) such (Copy k less is unmarked) = absurd (omega (arith, is, range.1, copies_above kind k))

  put_holds : (Such : List ℕ → Type 0) (sector : ℕ) (xs : List ℕ) → IsTask kind n sector Put → xs ≡ bytes → (w : IsWritten kind old sector) → Holds Such kind serial old sector xs w
  put_holds Such sector xs copy same (Data below unmarked) = absurd (omega (arith, below, copy.2, data_below kind, copies_above kind copy.0))
  put_holds Such sector xs copy same (Replacement i less is unmarked) =
      absurd (omega (arith, is, copy.2, (spare_place kind i (spare_low i less)).1, copies_above kind copy.0))
  put_holds Such sector xs copy same (Copy k less is unmarked) = subst (λ (x : List ℕ). Spells x (table_for kind serial old)) (sym same) s.spelled

-- ---- what is done so far

-- each sector below one that is written has what it is to have, and every other one what it had
pub record IsDone (kind : DriveKind) (serial above : ℕ) (old new : Pack) : Type 0 where
  pub done : (sector : ℕ) → sector < above → (written : IsWritten kind old sector) → Holds IsZeros kind serial old sector (block_at new.image sector) written
  pub behind : (sector : ℕ) → above ≤ sector → block_at new.image sector ≡ block_at old.image sector
  pub others : (sector : ℕ) → ¬ (IsWritten kind old sector) → block_at new.image sector ≡ block_at old.image sector
  pub marks : new.marks ≡ old.marks
  pub long : IsAsLong (λ sector. (sector < above) × IsWritten kind old sector) (length old.image) (length new.image)

pub none_done : (kind : DriveKind) (serial : ℕ) (pack : Pack) → IsDone kind serial 0 pack pack
none_done kind serial pack = record {
  done = λ sector lt w. absurd (omega (arith, lt));
  behind = λ sector le. refl;
  others = λ sector unwritten. refl;
  marks = refl;
  long = long_same refl (λ sector is. omega (arith, is.0));
}

module _ (kind : DriveKind) (serial unit b : ℕ) (old : Pack) (mid new : ℕ → Pack) (d : IsDone kind serial b old (mid unit)) where
  abbrev Below : ℕ → ℕ → Type 0
  Below above sector = (sector < above) × IsWritten kind old sector

  marks_are : (sector : ℕ) → is_marked (mid unit) sector ≡ is_marked old sector
  marks_are sector = same_marks (mid unit) old sector d.marks

  -- the sector is not this one, or it is marked
  apart : (sector : ℕ) → (is_marked old b ≡ false → IsWritten kind old b) → ¬ (IsWritten kind old sector) → one (mid unit) b sector ≡ false
  apart sector is unwritten =
      at (sector == b)
      (λ e. at (is_marked old b)
      (λ marked. none_of_one (mid unit) b sector (marks_are b ∙ marked))
      (λ unmarked. absurd (unwritten (subst (IsWritten kind old) (sym ((Decides-eqb sector b).0 e)) (is unmarked)))))
      (λ e. one_there (mid unit) b sector e)

  other : (sector : ℕ) → sector ≢ b → one (mid unit) b sector ≡ false
  other sector ne = one_there (mid unit) b sector (eq_other sector b ne)

  longer : (is_marked old b ≡ false → IsWritten kind old b) → IsAsLong (λ sector. one (mid unit) b sector ≡ true) (length (mid unit).image) (length (new unit).image)
      → IsAsLong (Below (b + 1)) (length old.image) (length (new unit).image)
  longer is long =
      long_then (Below b) (λ sector. one (mid unit) b sector ≡ true) (Below (b + 1)) d.long long
      (λ sector before. (omega (arith, before.0), before.1))
      (λ sector one_it.
      let here = one_is (mid unit) b sector one_it in
      let unmarked = off (sector == b) (is_marked (mid unit) sector) one_it in
      (omega (arith, here), subst (IsWritten kind old) (sym here) (is (ap (is_marked old) (sym here) ∙ sym (marks_are sector) ∙ unmarked))))
      (λ sector it. elim (cases_lt sector b) [
        | inl less ↦ inl (less, it.1)
        | inr le ↦
            let here : sector ≡ b = omega (arith, le, it.0) in
            inr (on (sector == b) (is_marked (mid unit) sector) (eq_same sector b here) (marks_are sector ∙ unmarked_written it.1))
      ])

  -- what holds at this sector and below it
  up_to : ((sector : ℕ) → sector ≢ b → block_at (new unit).image sector ≡ block_at (mid unit).image sector)
      → ((w : IsWritten kind old b) → Holds IsZeros kind serial old b (block_at (new unit).image b) w)
      → (sector : ℕ) → sector < b + 1 → (w : IsWritten kind old sector) → Holds IsZeros kind serial old sector (block_at (new unit).image sector) w
  up_to same here sector lt =
      elim (cases_lt sector b) [
        | inl less ↦ λ w. subst (λ (x : List ℕ). Holds IsZeros kind serial old sector x w) (sym (same sector (λ e. absurd (omega (arith, e, less))))) (d.done sector less w)
        | inr le ↦
            let e : b ≡ sector = omega (arith, le, lt) in
            subst (λ (m : ℕ). (w : IsWritten kind old m) → Holds IsZeros kind serial old m (block_at (new unit).image m) w) e here
      ]

  pub filled : (last : List ℕ) → (is_marked old b ≡ false → IsWritten kind old b) → ((w : IsWritten kind old b) → Holds IsZeros kind serial old b last w)
      → Fills unit (one (mid unit) b) last mid new → IsDone kind serial (b + 1) old (new unit)
  filled last is holds fills = record {
    done = up_to (λ sector ne. same sector (other sector ne))
        (λ w. subst (λ (x : List ℕ). Holds IsZeros kind serial old b x w) (sym (here (unmarked_written w))) (holds w));
    behind = λ sector le. same sector (other sector (λ e. omega (arith, e, le))) ∙ d.behind sector (omega (arith, le));
    others = λ sector unwritten. same sector (apart sector is unwritten) ∙ d.others sector unwritten;
    marks = fills.marks ∙ d.marks;
    long = longer is fills.long;
  }
    where
      same : (sector : ℕ) → one (mid unit) b sector ≡ false → block_at (new unit).image sector ≡ block_at (mid unit).image sector
      same sector none = fills.sectors sector ∙ ap (λ (done : Bool). if_done done last (block_at (mid unit).image sector)) none

      here : is_marked old b ≡ false → block_at (new unit).image b ≡ last
      here unmarked = fills.sectors b ∙ ap (λ (done : Bool). if_done done last (block_at (mid unit).image b)) (one_here (mid unit) b (marks_are b ∙ unmarked))

  pub passed : new ≡ mid → ¬ (IsWritten kind old b) → IsDone kind serial (b + 1) old (new unit)
  passed is unwritten = subst (λ (h : ℕ → Pack). IsDone kind serial (b + 1) old (h unit)) (sym is) (record {
    done = λ sector lt w. d.done sector (below sector lt w) w;
    behind = λ sector le. d.behind sector (omega (arith, le));
    others = d.others;
    marks = d.marks;
    long = long_as (Below (b + 1)) d.long (λ sector it. (omega (arith, it.0), it.1)) (λ sector it. (below sector it.0 it.1, it.1));
  })
    where
      below : (sector : ℕ) → sector < b + 1 → IsWritten kind old sector → sector < b
      below sector lt w =
          elim (cases_lt sector b) [
            | inl less ↦ less
            | inr le ↦ let e : sector ≡ b = omega (arith, le, lt) in absurd (unwritten (subst (IsWritten kind old) e w))
          ]

  pub stopped : (Such : List ℕ → Type 0) → CanBeFormatted kind old → (is_marked old b ≡ false → IsWritten kind old b)
      → ((x : List ℕ) → Such x → (w : IsWritten kind old b) → Holds IsTested kind serial old b x w) → Stops unit (one (mid unit) b) Such mid new → IsPartly kind serial old (new unit)
  stopped Such can is holds stop = record {
    can = can;
    reached = b;
    done = λ sector lt w. subst (λ (x : List ℕ). Holds IsZeros kind serial old sector x w) (sym (same sector (other sector (λ e. omega (arith, e, lt))))) (d.done sector lt w);
    under_way = elim (stop.sectors b) [
      | inl kept ↦ inl (kept ∙ d.behind b (omega arith))
      | inr struck ↦
          let written = is (sym (marks_are b) ∙ off (b == b) (is_marked (mid unit) b) struck.0) in
          inr (record { written = written; new = holds (block_at (new unit).image b) struck.1 written })
    ];
    behind = λ sector lt. same sector (other sector (λ e. omega (arith, e, lt))) ∙ d.behind sector (omega (arith, lt));
    others = λ sector unwritten. same sector (apart sector is unwritten) ∙ d.others sector unwritten;
    marks = stop.marks ∙ d.marks;
    begun = ends.0;
    begun_is = ends.1;
    long = ends.2;
  }
    where
      same : (sector : ℕ) → one (mid unit) b sector ≡ false → block_at (new unit).image sector ≡ block_at (mid unit).image sector
      same sector none = elim (stop.sectors sector) [ inl kept ↦ kept | inr struck ↦ absurd (false_true (sym none ∙ struck.0)) ]

      ends : (begun : ℕ) × ((begun ≡ b) ⊎ (begun ≡ b + 1)) × IsAsLong (λ sector. (sector < begun) × IsWritten kind old sector) (length old.image) (length (new unit).image)
      ends = elim stop.long [
        | inl kept ↦ (b, inl refl, long_at (length (mid unit).image) kept d.long)
        | inr long ↦ (b + 1, inr refl, longer is long)
      ]

-- ---- one task

module _ (kind : DriveKind) (serial unit n b : ℕ) (bytes : List ℕ) (old : Pack) (mid new : ℕ → Pack) (s : IsSet kind serial n bytes old) (d : IsDone kind serial b old (mid unit)) where
  pub one_done : (task : Task) → IsTask kind n b task → Did task unit b bytes mid new → IsDone kind serial (b + 1) old (new unit)
  one_done Test task did =
      filled kind serial unit b old mid new d (replicate 512 0) (tested kind serial n bytes old s b task) (test_holds kind serial n bytes old s IsZeros b (replicate 512 0) task refl) did
  one_done Put task did = filled kind serial unit b old mid new d bytes (put kind serial n bytes old s b task) (put_holds kind serial n bytes old s IsZeros b bytes task refl) did
  one_done Leave task did = passed kind serial unit b old mid new d did (left kind serial n bytes old s b task)

  pub one_stopped : (task : Task) → IsTask kind n b task → StopsAt task unit b bytes mid new → IsPartly kind serial old (new unit)
  one_stopped Test task stop =
      stopped kind serial unit b old mid new d IsTested s.can (tested kind serial n bytes old s b task) (λ x such w. test_holds kind serial n bytes old s IsTested b x task such w) stop
  one_stopped Put task stop =
      stopped kind serial unit b old mid new d (λ x. x ≡ bytes) s.can (put kind serial n bytes old s b task) (λ x such w. put_holds kind serial n bytes old s IsTested b x task such w) stop
  one_stopped Leave task stop = absurd stop

pub did_others : (unit sector other : ℕ) (bytes : List ℕ) (old new : ℕ → Pack) (task : Task) → Did task unit sector bytes old new → other ≢ unit → new other ≡ old other
did_others unit sector other bytes old new Test did ne = did.others other ne
did_others unit sector other bytes old new Put did ne = did.others other ne
did_others unit sector other bytes old new Leave did ne = ap (λ (h : ℕ → Pack). h other) did

pub stopped_others : (unit sector other : ℕ) (bytes : List ℕ) (old new : ℕ → Pack) (task : Task) → StopsAt task unit sector bytes old new → other ≢ unit → new other ≡ old other
stopped_others unit sector other bytes old new Test stop ne = stop.others other ne
stopped_others unit sector other bytes old new Put stop ne = stop.others other ne
stopped_others unit sector other bytes old new Leave stop ne = absurd stop

-- which bytes it writes
pub task_formats : (kind : DriveKind) (serial n sector : ℕ) (table : Table) (bytes : List ℕ) (task : Task) → table.kind ≡ kind → table.serial ≡ serial → Spells bytes table
    → IsTask kind n sector task → (block : ℕ) (text : List ℕ) → Writes sector (MayWrite task bytes) block text → Formats kind serial block text
task_formats kind serial n sector table bytes Test kind_is serial_is spelled (inl below) block text wrote = inl (omega (arith, wrote.0, below, data_below kind), wrote.1)
task_formats kind serial n sector table bytes Test kind_is serial_is spelled (inr range) block text wrote = inl (omega (arith, wrote.0, range.1), wrote.1)
task_formats kind serial n sector table bytes Put kind_is serial_is spelled copy block text wrote =
    inr (copy.0, copy.1, wrote.0 ∙ copy.2, (table, kind_is, serial_is, subst (λ (x : List ℕ). Spells x table) (sym wrote.1) spelled))
task_formats kind serial n sector table bytes Leave kind_is serial_is spelled task block text wrote = absurd wrote.1
