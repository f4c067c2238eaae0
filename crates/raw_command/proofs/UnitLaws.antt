-- WHAT A CALL OVER ONE UNIT has done, by what attaching and `raw_io` promise.
use Rattle.std.proofs.Common.{◌≡◌, inl, inr, ℕ, ◌+◌, ◌*◌, ◌<◌, ◌≤◌, Bool, true, false, IsTrue, List, take, length, Option, Some, None, refl, sym, ap, subst, ◌∙◌, arith}
use Rattle.std.specs.Prelude.{Result, Ok, Err, IsErrAnd, IfSome}
use Rattle.std.proofs.lemmas.Option.{none-some, same_Some}
use Rattle.outside_traits.proofs.GatherLaws.{rose_more}
use Rattle.outside_traits.specs.Causes.{Rose}
use Rattle.pack_geometry.specs.declared.DriveKind.{DriveKind}
use Rattle.pack_geometry.specs.Pack.{Pack}
use Rattle.pack_geometry.specs.PackTable.{IsTableOf}
use Rattle.driver_laws.specs.declared.answers.outcome.Stop.{Stop}
use Rattle.driver_laws.specs.declared.answers.outcome.Stop.TheVariants.{Store, Sink}
use Rattle.raw_io.specs.Passes.{State, Stage, setup_at, kind_at, IsUntouched, Keeps, MayTransfer, Spot, seen, spot}
use Rattle.driver_laws.specs.rules.Rest.{HasTables}
use Rattle.partitions.specs.declared.Part.{Part}
use Rattle.partitions.specs.Partitions.{size_of}
use Rattle.driver_laws.specs.rules.Bytes.{IsOutside}
use Rattle.raw_io.specs.Calls.{StopsAt}
use Rattle.raw_io.specs.Moves.{Comes, StopsFrom}
use Rattle.raw_io.specs.Pieces.{GivesRange, PutsRange, start_of}
use Rattle.raw_io.specs.Transfers.{Breaks}
use Rattle.raw_io.specs.declared.fault.RawFault.{RawFault}
use Rattle.raw_io.specs.declared.fault.RawFault.TheVariants as raw
use Rattle.mba_autoconf.specs.Attach.{Fits, IsAttaching}
use Rattle.outside_traits.specs.declared.traits.PackCall.{PackCall}
use Rattle.raw_command.specs.Faults.{IsBefore, IsOfAttaching, IsOfUnit, done_by, fault_in, raw_fault, stop_of}
use Rattle.raw_command.specs.Transfers.{HasRead, HasWritten, LeavesAll, LeavesFront, LeftRead, LeftWritten, ReadsUnit, WritesUnit}
use Rattle.raw_command.specs.Units.{IsAttached, IsFoundLong, KeepsUnit}
use Rattle.raw_command.specs.declared.fault.TransferFault.{TransferFault}
use Rattle.raw_command.specs.declared.fault.TransferFault.TheVariants as fault
use Rattle.command_parts.specs.declared.words.Target.{Target}
use Rattle.raw_command.proofs.Setups.{kind_is, may_transfer, one_world}
use Rattle.raw_command.proofs.Stages.{has_read, has_written, leaves_all, leaves_front, tables}

apart : Some Store ≡ Some Sink → ⊥
apart e = cc

-- a fault that is `Unusable` has this number, and the others are not
count_in : Option TransferFault → ℕ
count_in (Some (fault.Unusable n)) = n
count_in other = 0

same_count : (n m : ℕ) → Some (fault.Unusable n) ≡ Some (fault.Unusable m) → n ≡ m
unfolding count_in
same_count n m e = ap count_in e

store_usable : (done : ℕ) → Some fault.Store ≡ Some (fault.Unusable done) → ⊥
store_usable done e = cc

sink_usable : (done : ℕ) → Some fault.Sink ≡ Some (fault.Unusable done) → ⊥
sink_usable done e = cc

none_done : (size done : ℕ) (f : TransferFault) → IsOfAttaching f → done_by size (Some f) ≡ Some done → ⊥
none_done size done fault.Store is e = none-some done e
none_done size done fault.Memory is e = none-some done e
none_done size done (fault.TooLong n) is e = none-some done e
none_done size done other is e = is

not_unusable : (done : ℕ) (f : TransferFault) → IsOfAttaching f → Some f ≡ Some (fault.Unusable done) → ⊥
not_unusable done f is e = subst IsOfAttaching (same_Some f (fault.Unusable done) e) is

-- the kind of the unit that is attached
pub kind_made : {tells : Bool} {pack : Pack} {unit : ℕ} {kind : DriveKind} {s : State} → unit < 32 → IsAttached tells pack unit kind s → kind_at s.world unit ≡ kind
kind_made {unit = unit} {kind = kind} small a = ap (λ (x : State). kind_at x.world unit) a.made ∙ kind_is unit kind a.table small a.good

module _ (Q O : Type 0) (holds : Q → Bool) (held : Q → ℕ → Pack) (packs_faults : Q → ℕ) (failed_at : Q → PackCall) (tells : O → Bool) (taken : O → List ℕ) (faults : O → ℕ) (t : Target) (packs mid : Q) (trace : O)
    (later : packs_faults packs ≤ packs_faults mid) (never : IsTrue (holds mid) → IsTrue (holds packs)) (same : IsTrue (holds mid) → held mid ≡ held packs) where
  -- ---- ATTACHING leaves the trace, and what the packs hold.
  keeps_none : (f : TransferFault) → IsOfAttaching f → (f ≡ fault.Store → Rose (packs_faults packs) (packs_faults mid)) → IsFoundLong (holds mid) (held packs t.unit) t.kind f
      → KeepsUnit holds held packs_faults tells faults t.unit t.kind packs mid trace trace (Some f)
  keeps_none fault.Store is rose long = record {
    never_again = never;
    never_again_trace = λ told. told;
    causes = record { later_packs = later; later = omega arith; store = λ e. rose refl; sink = λ e. absurd (apart e) };
    untraced = λ b. absurd b;
    same = λ b. absurd b;
    long = tt;
    only = tt;
  }
  keeps_none fault.Memory is rose long = record {
    never_again = never;
    never_again_trace = λ told. told;
    causes = record { later_packs = later; later = omega arith; store = λ e. absurd (none-some Store e); sink = λ e. absurd (none-some Sink e) };
    untraced = λ b. refl;
    same = λ b. same;
    long = tt;
    only = tt;
  }
  keeps_none (fault.TooLong n) is rose long = record {
    never_again = never;
    never_again_trace = λ told. told;
    causes = record { later_packs = later; later = omega arith; store = λ e. absurd (none-some Store e); sink = λ e. absurd (none-some Sink e) };
    untraced = λ b. refl;
    same = λ b. same;
    long = long;
    only = tt;
  }
  keeps_none other is rose long = absurd is

  left_read : (f : TransferFault) → IsOfAttaching f → (f ≡ fault.Store → IsAttaching t.kind t.unit (failed_at mid)) → IsTrue (holds mid)
      → LeftRead f t (failed_at mid) (held packs) (held mid) (tells trace) (taken trace) (taken trace)
  left_read fault.Store is at told = inl (record { attaching = at refl; packs = same told; trace = λ traced. refl })
  left_read fault.Memory is at told = tt
  left_read (fault.TooLong n) is at told = tt
  left_read other is at told = absurd is

  left_written : (from : List ℕ) (f : TransferFault) → IsOfAttaching f → (f ≡ fault.Store → IsAttaching t.kind t.unit (failed_at mid)) → IsTrue (holds mid)
      → LeftWritten f t (failed_at mid) from (held packs) (held mid) (tells trace) (taken trace) (taken trace)
  left_written from fault.Store is at told = inl (record { attaching = at refl; packs = same told; trace = λ traced. refl })
  left_written from fault.Memory is at told = tt
  left_written from (fault.TooLong n) is at told = tt
  left_written from other is at told = absurd is

  pub reads_none : {A : Type 0} (into : List ℕ) (r : Result A TransferFault) (f : TransferFault) → IsErrAnd r (λ e. e ≡ f) → IsOfAttaching f
      → (f ≡ fault.Store → Rose (packs_faults packs) (packs_faults mid)) → (f ≡ fault.Store → IsAttaching t.kind t.unit (failed_at mid))
      → IsFoundLong (holds mid) (held packs t.unit) t.kind f → ReadsUnit holds held packs_faults failed_at tells taken faults t into into packs mid trace trace (fault_in r)
  reads_none into (Ok value) f e is rose at long = absurd e
  reads_none into (Err g) f e is rose at long = subst (λ (h : TransferFault). ReadsUnit holds held packs_faults failed_at tells taken faults t into into packs mid trace trace (Some h)) (sym e) (record {
    few = λ done d. absurd (none_done (length into) done f is d);
    unusable = λ done d. absurd (not_unusable done f is d);
    reads = λ done d. absurd (none_done (length into) done f is d);
    stops = left_read f is at;
    keeps = keeps_none f is rose long;
  })

  pub writes_none : {A : Type 0} (from : List ℕ) (r : Result A TransferFault) (f : TransferFault) → IsErrAnd r (λ e. e ≡ f) → IsOfAttaching f
      → (f ≡ fault.Store → Rose (packs_faults packs) (packs_faults mid)) → (f ≡ fault.Store → IsAttaching t.kind t.unit (failed_at mid))
      → IsFoundLong (holds mid) (held packs t.unit) t.kind f → WritesUnit holds held packs_faults failed_at tells taken faults t from packs mid trace trace (fault_in r)
  writes_none from (Ok value) f e is rose at long = absurd e
  writes_none from (Err g) f e is rose at long = subst (λ (h : TransferFault). WritesUnit holds held packs_faults failed_at tells taken faults t from packs mid trace trace (Some h)) (sym e) (record {
    unusable = λ done d. absurd (not_unusable done f is d);
    writes = λ done d. absurd (none_done (length from) done f is d);
    stops = left_written from f is at;
    keeps = keeps_none f is rose long;
  })

  -- ---- A TRANSFER behind it
  module _ (s s' : State) (packs' : Q) (trace' : O) (small : t.unit < 32) (a : IsAttached (holds mid) (held packs t.unit) t.unit t.kind s) where
    abbrev before : Spot
    before = spot holds held packs_faults tells taken faults s mid trace

    abbrev after : Spot
    after = spot holds held packs_faults tells taken faults s' packs' trace'

    abbrev old : Stage
    old = seen before

    abbrev new : Stage
    new = seen after

    made : s.world ≡ one_world t.unit t.kind a.table
    made = ap (λ (x : State). x.world) a.made

    is_mid : IsTrue (holds mid) → IsTableOf t.kind (held mid t.unit) a.table
    is_mid told = subst (λ (h : ℕ → Pack). IsTableOf t.kind (h t.unit) a.table) (sym (same told)) (a.is told)

    fits_mid : IsTrue (holds mid) → Fits t.kind (held mid t.unit)
    fits_mid told = subst (λ (h : ℕ → Pack). Fits t.kind (h t.unit)) (sym (same told)) (a.fits told)

    keeps_on : (why : Option TransferFault) (stop : Option Stop) → stop ≡ stop_of why → (IsBefore why → ⊥) → IsOfUnit why → IfSome why (IsFoundLong (holds packs') (held packs t.unit) t.kind)
        → Keeps before after stop
        → KeepsUnit holds held packs_faults tells faults t.unit t.kind packs packs' trace trace' why
    keeps_on why stop e begun only long k =
        let more = k.causes.later_packs in record {
          never_again = λ told. never (k.never_again told);
          never_again_trace = k.never_again_trace;
          causes = record {
            later_packs = omega (arith, later, more);
            later = k.causes.later;
            store = λ is. rose_more (packs_faults packs) (packs_faults mid) (packs_faults packs') later (k.causes.store (e ∙ is));
            sink = λ is. k.causes.sink (e ∙ is);
          };
          untraced = λ b. absurd (begun b);
          same = λ b. absurd (begun b);
          long = long;
          only = only;
        }

    -- over what the packs held before they were attached
    read_so : (done : ℕ) (into into' : List ℕ) → IsTrue (holds mid) → IsTrue (holds packs') → GivesRange t.unit t.part t.at done into into' old new
        → HasRead t (length into) done (take done into') (held packs) (held packs') (tells trace') (taken trace) (taken trace')
    read_so done into into' told_mid told gives =
        subst (λ (h : ℕ → Pack). HasRead t (length into) done (take done into') h (held packs') (tells trace') (taken trace) (taken trace')) (same told_mid)
        (has_read t a.table small a.good old new made told (is_mid told_mid) (fits_mid told_mid) done into into' gives)

    written_so : (done : ℕ) (from : List ℕ) → IsTrue (holds mid) → IsTrue (holds packs') → PutsRange t.unit t.part t.at done from old new
        → HasWritten t done from (held packs) (held packs') (tells trace') (taken trace) (taken trace')
    written_so done from told_mid told puts =
        subst (λ (h : ℕ → Pack). HasWritten t done from h (held packs') (tells trace') (taken trace) (taken trace')) (same told_mid)
        (has_written t a.table small a.good old new made told (is_mid told_mid) (fits_mid told_mid) done from puts)

    all_so : (stop : Stop) → Breaks true t.unit t.part stop old new → IsTrue (holds mid) → IsTrue (holds packs') → (HasTables (setup_at old) → IsUntouched old new)
        → LeavesAll t stop (held packs) (held packs') (tells trace') (taken trace) (taken trace')
    all_so stop breaks told_mid told un =
        subst (λ (h : ℕ → Pack). LeavesAll t stop h (held packs') (tells trace') (taken trace) (taken trace')) (same told_mid)
        (leaves_all t a.table small a.good old new made told (is_mid told_mid) (fits_mid told_mid) stop breaks
        (un (tables t a.table small a.good old new made told (is_mid told_mid) (fits_mid told_mid))))

    front_so : (stop : Stop) → Breaks false t.unit t.part stop old new → (from : List ℕ) → IsTrue (holds mid) → IsTrue (holds packs')
        → (HasTables (setup_at old) → StopsAt t.unit (start_of old t.unit t.part) t.at from old new)
        → LeavesFront t stop from (held packs) (held packs') (tells trace') (taken trace) (taken trace')
    front_so stop breaks from told_mid told stops =
        subst (λ (h : ℕ → Pack). LeavesFront t stop from h (held packs') (tells trace') (taken trace) (taken trace')) (same told_mid)
        (leaves_front t a.table small a.good old new made told (is_mid told_mid) (fits_mid told_mid) stop breaks from
        (stops (tables t a.table small a.good old new made told (is_mid told_mid) (fits_mid told_mid))))

    pub reads_after : {A : Type 0} (r : Result A RawFault) → (r ≡ Err raw.Outside → ⊥) → (into into' : List ℕ)
        → Comes true t.unit t.part (length into) (λ done. GivesRange t.unit t.part t.at done into into') IsUntouched r before after
        → ReadsUnit holds held packs_faults failed_at tells taken faults t into into' packs packs' trace trace' (raw_fault r)
    reads_after (Ok value) inside into into' m = record {
      few = λ done e. (m.done done e).few;
      unusable = λ done e. absurd (none-some (fault.Unusable done) e);
      reads = λ done e told. read_so done into into' (m.keeps.never_again told) told (m.done done e);
      stops = tt;
      keeps = keeps_on None None refl (λ b. b) tt tt m.keeps;
    }
    reads_after (Err raw.Outside) inside into into' m = absurd (inside refl)
    reads_after (Err (raw.Unusable n)) inside into into' m = record {
      few = λ done e. (m.done done e).few;
      unusable = λ done e. subst (λ (m : ℕ). m < length into) (same_count n done e) (m.unusable n refl);
      reads = λ done e told. read_so done into into' (m.keeps.never_again told) told (m.done done e);
      stops = λ told. tt;
      keeps = keeps_on (Some (fault.Unusable n)) None refl (λ b. b) tt tt m.keeps;
    }
    reads_after (Err raw.Store) inside into into' m = record {
      few = λ done e. absurd (none-some done e);
      unusable = λ done e. absurd (store_usable done e);
      reads = λ done e. absurd (none-some done e);
      stops = λ told. inr (all_so Store (m.breaks Store refl) (m.keeps.never_again told) told (m.left Store refl told));
      keeps = keeps_on (Some fault.Store) (Some Store) refl (λ b. b) tt tt m.keeps;
    }
    reads_after (Err raw.Sink) inside into into' m = record {
      few = λ done e. absurd (none-some done e);
      unusable = λ done e. absurd (sink_usable done e);
      reads = λ done e. absurd (none-some done e);
      stops = λ told. all_so Sink (m.breaks Sink refl) (m.keeps.never_again told) told (m.left Sink refl told);
      keeps = keeps_on (Some fault.Sink) (Some Sink) refl (λ b. b) tt tt m.keeps;
    }

    pub writes_after : {A : Type 0} (r : Result A RawFault) → (r ≡ Err raw.Outside → ⊥) → (from : List ℕ)
        → Comes false t.unit t.part (length from) (λ done. PutsRange t.unit t.part t.at done from) (StopsFrom t.unit t.part t.at from) r before after
        → WritesUnit holds held packs_faults failed_at tells taken faults t from packs packs' trace trace' (raw_fault r)
    writes_after (Ok value) inside from m = record {
      unusable = λ done e. absurd (none-some (fault.Unusable done) e);
      writes = λ done e told. written_so done from (m.keeps.never_again told) told (m.done done e);
      stops = tt;
      keeps = keeps_on None None refl (λ b. b) tt tt m.keeps;
    }
    writes_after (Err raw.Outside) inside from m = absurd (inside refl)
    writes_after (Err (raw.Unusable n)) inside from m = record {
      unusable = λ done e. subst (λ (m : ℕ). m < length from) (same_count n done e) (m.unusable n refl);
      writes = λ done e told. written_so done from (m.keeps.never_again told) told (m.done done e);
      stops = λ told. tt;
      keeps = keeps_on (Some (fault.Unusable n)) None refl (λ b. b) tt tt m.keeps;
    }
    writes_after (Err raw.Store) inside from m = record {
      unusable = λ done e. absurd (store_usable done e);
      writes = λ done e. absurd (none-some done e);
      stops = λ told. inr (front_so Store (m.breaks Store refl) from (m.keeps.never_again told) told (m.left Store refl told));
      keeps = keeps_on (Some fault.Store) (Some Store) refl (λ b. b) tt tt m.keeps;
    }
    writes_after (Err raw.Sink) inside from m = record {
      unusable = λ done e. absurd (sink_usable done e);
      writes = λ done e. absurd (none-some done e);
      stops = λ told. front_so Sink (m.breaks Sink refl) from (m.keeps.never_again told) told (m.left Sink refl told);
      keeps = keeps_on (Some fault.Sink) (Some Sink) refl (λ b. b) tt tt m.keeps;
    }

    pub reads_by : {A : Type 0} (r : Result A RawFault) (why : Option TransferFault) → why ≡ raw_fault r → (r ≡ Err raw.Outside → ⊥) → (into into' : List ℕ)
        → Comes true t.unit t.part (length into) (λ done. GivesRange t.unit t.part t.at done into into') IsUntouched r before after
        → ReadsUnit holds held packs_faults failed_at tells taken faults t into into' packs packs' trace trace' why
    reads_by r why e inside into into' m =
        subst (λ (w : Option TransferFault). ReadsUnit holds held packs_faults failed_at tells taken faults t into into' packs packs' trace trace' w) (sym e)
        (reads_after r inside into into' m)

    pub writes_by : {A : Type 0} (r : Result A RawFault) (why : Option TransferFault) → why ≡ raw_fault r → (r ≡ Err raw.Outside → ⊥) → (from : List ℕ)
        → Comes false t.unit t.part (length from) (λ done. PutsRange t.unit t.part t.at done from) (StopsFrom t.unit t.part t.at from) r before after
        → WritesUnit holds held packs_faults failed_at tells taken faults t from packs packs' trace trace' why
    writes_by r why e inside from m =
        subst (λ (w : Option TransferFault). WritesUnit holds held packs_faults failed_at tells taken faults t from packs packs' trace trace' w) (sym e)
        (writes_after r inside from m)

-- a range that is inside
pub not_outside : {tells : Bool} {pack : Pack} {unit : ℕ} {kind : DriveKind} {s : State} (part : Part) (at size : ℕ) → unit < 32 → IsAttached tells pack unit kind s
    → at + size ≤ 512 * size_of kind part → IsOutside (kind_at s.world unit) part at size → ⊥
not_outside {unit = unit} {kind = kind} part at size small a le outside =
    let out : IsOutside kind part at size = subst (λ (k : DriveKind). IsOutside k part at size) (kind_made small a) outside in omega (arith, le, out)

pub may : {tells : Bool} {pack : Pack} {unit : ℕ} {kind : DriveKind} {s : State} → unit < 32 → IsAttached tells pack unit kind s → MayTransfer s unit
may {unit = unit} {kind = kind} {s = s} small a = may_transfer unit kind a.table small a.good s a.made
