-- WHAT `raw_io` PROMISES of a driver for one unit, said of the unit and its packs.
use Rattle.std.proofs.Common.{◌≡◌, ℕ, ◌+◌, ◌<◌, ◌≤◌, Bool, true, false, IsTrue, List, take, drop, length, Option, Some, refl, sym, ap, subst, ◌∙◌}
use Rattle.std.proofs.Math.Path.{fun_ext}
use Rattle.std.proofs.Math.Seq.{take-append_seam}
use Rattle.pack_geometry.specs.declared.DriveKind.{DriveKind}
use Rattle.pack_geometry.specs.Pack.{Pack}
use Rattle.pack_geometry.specs.Homes.{content_at, content_of, home_of}
use Rattle.pack_geometry.specs.PackTable.{IsTableOf}
use Rattle.pack_geometry.specs.TableSpelling.{Table}
use Rattle.partitions.specs.Partitions.{first_of}
use Rattle.driver_laws.specs.rules.Machine.{Blocks}
use Rattle.driver_laws.specs.rules.Stands.{Setup as Seen, home_at, home_in}
use Rattle.driver_laws.specs.rules.Cleans.{MovedClean}
use Rattle.driver_laws.specs.rules.Rest.{HasTables}
use Rattle.driver_laws.specs.declared.answers.outcome.Stop.{Stop}
use Rattle.driver_laws.specs.rules.Sessions.{behind_all, told_in}
use Rattle.driver_laws.specs.rules.Waited.{map_of, with_packs}
use Rattle.driver_machine.specs.World.{World}
use Rattle.driver_machine.specs.Sound.{IsTableFor}
use Rattle.raw_io.specs.Passes.{ImagesStay, IsCut, LeftAt, setup_of, StandsQuiet, Stage, setup_at, Reaches, OthersStay, kind_at, map_at, left_map, IsUntouched}
use Rattle.driver_laws.specs.rules.Bytes.{range, ComesTo, with_range}
use Rattle.driver_laws.specs.rules.Laid.{laid}
use Rattle.driver_laws.proofs.rules.Ranges.{laid_short, length_range}
use Rattle.raw_io.specs.Calls.{ReadsRange, StopsAt, WritesRange}
use Rattle.raw_io.specs.Pieces.{GivesRange, PutsRange, start_of}
use Rattle.raw_io.specs.Transfers.{Breaks, Transfers}
use Rattle.mba_autoconf.specs.Attach.{Fits}
use Rattle.raw_command.specs.Units.{at_unit, unit_setup}
use Rattle.raw_command.specs.Transfers.{blocks_in, first_in, start_at, StaysElse, Transferred, HasRead, HasWritten, Broke, LeavesAll, LeavesFront}
use Rattle.command_parts.specs.declared.words.Target.{Target}
use Rattle.raw_command.proofs.Setups.{at_self, one_world, setup_is, stands_quiet, has_tables, kind_is}

-- a buffer's first bytes are those that were laid over it
take_laid : (n : ℕ) (xs into : List ℕ) → length xs ≡ n → n ≤ length into → take n (laid xs into) ≡ xs
take_laid n xs into e few =
    subst (λ (m : ℕ). take m (laid xs into) ≡ xs) e
    (ap (take (length xs)) (laid_short xs into (subst (λ (m : ℕ). m ≤ length into) (sym e) few)) ∙ take-append_seam xs (drop (length xs) into))

-- packs with the same images and marks are the same
same_packs : (old new : ℕ → Pack) → ImagesStay old new → ((unit : ℕ) → (new unit).marks ≡ (old unit).marks) → new ≡ old
same_packs old new images marks = fun_ext (λ unit. same_pack (new unit) (old unit) (images unit) (marks unit))
  where
    same_pack : (p q : Pack) → p.image ≡ q.image → p.marks ≡ q.marks → p ≡ q
    same_pack p q image marks =
        ap (λ (bytes : List ℕ). record { image = bytes; marks = p.marks }) image ∙ ap (λ (ms : List ℕ). record { image = q.image; marks = ms }) marks

-- THE CONTENTS of the unit that is set up
content_self : (unit : ℕ) (kind : DriveKind) (table : Option Table) (pack : Pack) (drive : Option DriveKind) (its : Option Table)
    → drive ≡ Some kind → its ≡ table → content_at drive its pack ≡ content_of kind table pack
content_self unit kind table pack drive its one two =
    ap (λ (d : Option DriveKind). content_at d its pack) one ∙ ap (λ (t : Option Table). content_of kind t pack) two

module _ (t : Target) (table : Option Table) (held : ℕ → Pack) where
  contents : map_of (unit_setup t.unit t.kind table held) t.unit ≡ blocks_in t table held
  contents =
      content_self t.unit t.kind table (held t.unit) (at_unit t.unit (Some t.kind) t.unit) (at_unit t.unit table t.unit)
      (at_self (Some t.kind) t.unit) (at_self table t.unit)

  homes : (block : ℕ) → home_in (unit_setup t.unit t.kind table held) t.unit block ≡ home_of t.kind table (held t.unit) block
  homes block =
      ap (λ (d : Option DriveKind). home_at d (at_unit t.unit table t.unit) (held t.unit) block) (at_self (Some t.kind) t.unit)
      ∙ ap (λ (o : Option Table). home_of t.kind o (held t.unit) block) (at_self table t.unit)

-- BETWEEN two stages, of which the first has a new driver for the unit
module _ (t : Target) (table : Option Table) (small : t.unit < 32) (good : (x : Table) → table ≡ Some x → IsTableFor t.kind x) (old new : Stage)
    (made : old.world ≡ one_world t.unit t.kind table) where
  setup_old : setup_at old ≡ unit_setup t.unit t.kind table old.held
  setup_old = ap (λ (w : World). setup_of w old.held) made ∙ setup_is t.unit t.kind table small good old.held

  start_old : start_of old t.unit t.part ≡ first_in t
  start_old = ap (λ (w : World). first_of (kind_at w t.unit) t.part) made ∙ ap (λ (k : DriveKind). first_of k t.part) (kind_is t.unit t.kind table small good)

  map_old : map_at old t.unit ≡ blocks_in t table old.held
  map_old = ap (λ (s : Seen). map_of s t.unit) setup_old ∙ contents t table old.held

  left_new : left_map old new t.unit ≡ blocks_in t table new.held
  left_new = ap (λ (s : Seen). map_of (with_packs s new.held) t.unit) setup_old ∙ contents t table new.held

  stays_else : IsTableOf t.kind (old.held t.unit) table → Fits t.kind (old.held t.unit) → OthersStay (setup_at old) new.held → StaysElse t table old.held new.held
  stays_else is fits others =
      let those : OthersStay (unit_setup t.unit t.kind table old.held) new.held = subst (λ (s : Seen). OthersStay s new.held) setup_old others in
      record {
        table_is = is;
        fits = fits;
        sectors = λ sector lt no.
            those.sectors t.unit sector t.kind (at_self (Some t.kind) t.unit) lt (λ block e. no (record { block = block; at = sym (homes t table old.held block) ∙ e }));
        stay = those.stay;
      }

  -- WHERE THE PACKS TELL
  module _ (told : IsTrue new.packs_tell) (is : IsTableOf t.kind (old.held t.unit) table) (fits : Fits t.kind (old.held t.unit)) where
    pub tables : HasTables (setup_at old)
    tables = subst (λ (w : World). HasTables (setup_of w old.held)) (sym made) (has_tables t.unit t.kind table small good old.held is)

    stands : StandsQuiet old.held old.world (start_at t table old.held)
    stands = subst (λ (w : World). StandsQuiet old.held w (start_at t table old.held)) (sym made) (stands_quiet t.unit t.kind table small good old.held)

    transferred : (reads : Bool) → Transfers reads t.unit t.part old new → Transferred reads t old.held new.held new.trace_tells old.taken new.taken
    transferred reads moves =
        let reach : Reaches moves.parts new (start_at t table old.held) = moves.goes.reaches told tables (start_at t table old.held) stands in
        record {
          table = table;
          stays = stays_else is fits (moves.others told tables);
          parts = moves.parts;
          waited = moves.waited;
          session = reach.session;
          over = record { over = reach.stands.rest.over; answered = reach.stands.rest.outstanding };
          long = moves.goes.long told tables (start_at t table old.held) stands;
          left = λ block. sym (reach.stands.rest.sectors t.unit block);
          trace = moves.goes.trace;
        }

    map_new : (reads : Bool) → Transfers reads t.unit t.part old new → map_at new t.unit ≡ blocks_in t table new.held
    map_new reads moves = ap (λ (s : Seen). map_of s t.unit) moves.goes.setup ∙ left_new

    comes_so : (size done : ℕ) → ComesTo (map_at old t.unit) (start_of old t.unit t.part) t.at size done → ComesTo (blocks_in t table old.held) (first_in t) t.at size done
    comes_so size done comes =
        subst (λ (f : ℕ). ComesTo (blocks_in t table old.held) f t.at size done) start_old
        (subst (λ (b : Blocks). ComesTo b (start_of old t.unit t.part) t.at size done) map_old comes)

    replaced : (now : Blocks) (from : List ℕ) → ((block : ℕ) → now block ≡ with_range (map_at old t.unit) (start_of old t.unit t.part) t.at from block)
        → (block : ℕ) → now block ≡ with_range (blocks_in t table old.held) (first_in t) t.at from block
    replaced now from written block =
        written block ∙ ap (λ (b : Blocks). with_range b (start_of old t.unit t.part) t.at from block) map_old
        ∙ ap (λ (f : ℕ). with_range (blocks_in t table old.held) f t.at from block) start_old

    -- A READ
    pub has_read : (done : ℕ) (into into' : List ℕ) → GivesRange t.unit t.part t.at done into into' old new
        → HasRead t (length into) done (take done into') old.held new.held new.trace_tells old.taken new.taken
    unfolding transferred
    has_read done into into' gives =
        let read : ReadsRange t.unit (start_of old t.unit t.part) t.at done into into' old new = gives.told told tables in
        record {
          moved = transferred true gives.transfers;
          comes = comes_so (length into) done read.comes;
          is =
              ap (take done) read.bytes
              ∙ take_laid done (range done (map_at old t.unit) (start_of old t.unit t.part) t.at) into (length_range done (map_at old t.unit) (start_of old t.unit t.part) t.at) gives.few
              ∙ ap (λ (b : Blocks). range done b (start_of old t.unit t.part) t.at) map_old
              ∙ ap (λ (f : ℕ). range done (blocks_in t table old.held) f t.at) start_old;
          same = same_packs old.held new.held (gives.transfers.images told refl) (gives.transfers.others told tables).stay.marks;
          clean = λ k touches.
              subst (λ (f : ℕ). MovedClean (unit_setup t.unit t.kind table old.held) t.unit (f + k) (told_in gives.transfers.parts)) start_old
              (subst (λ (s : Seen). MovedClean s t.unit (start_of old t.unit t.part + k) (told_in gives.transfers.parts)) setup_old (gives.clean told tables k touches));
        }

    -- A WRITE
    pub has_written : (done : ℕ) (from : List ℕ) → PutsRange t.unit t.part t.at done from old new
        → HasWritten t done from old.held new.held new.trace_tells old.taken new.taken
    unfolding transferred
    has_written done from puts =
        let wrote : WritesRange t.unit (start_of old t.unit t.part) t.at done from old new = puts.told told tables in
        record {
          moved = transferred false puts.transfers;
          comes = comes_so (length from) done wrote.comes;
          written = λ block.
              ap (λ (b : Blocks). b block) (sym (map_new false puts.transfers))
              ∙ replaced (map_at new t.unit) (take done from) wrote.written block;
        }

    -- IT STOPPED
    broke : (reads : Bool) (stop : Stop) → Breaks reads t.unit t.part stop old new → Broke reads t stop table old.held new.held new.trace_tells old.taken new.taken
    broke reads stop b =
        let cut : IsCut stop b.parts old new (start_at t table old.held) = b.stops.cut told tables (start_at t table old.held) stands in
        record {
          parts = b.parts;
          begun = b.begun;
          session = cut.session;
          packs = subst (λ (s : Seen). LeftAt stop s.drives old.held new.held (behind_all (start_at t table old.held) b.parts)) setup_old cut.packs;
          long = cut.long;
          trace = b.stops.trace;
        }

    pub leaves_all : (stop : Stop) → Breaks true t.unit t.part stop old new → IsUntouched old new → LeavesAll t stop old.held new.held new.trace_tells old.taken new.taken
    leaves_all stop breaks un = record {
      table = table;
      broke = broke true stop breaks;
      stays = stays_else is fits un.others;
      same = same_packs old.held new.held (breaks.images told refl) un.others.stay.marks;
    }

    pub leaves_front : (stop : Stop) → Breaks false t.unit t.part stop old new → (from : List ℕ) → StopsAt t.unit (start_of old t.unit t.part) t.at from old new
        → LeavesFront t stop from old.held new.held new.trace_tells old.taken new.taken
    leaves_front stop breaks from stops = record {
      table = table;
      broke = broke false stop breaks;
      stays = stays_else is fits stops.others;
      done = stops.done;
      few = stops.few;
      whole = stops.whole;
      written = λ block.
          ap (λ (b : Blocks). b block) (sym left_new) ∙ replaced (left_map old new t.unit) (take stops.done from) stops.written block;
    }
