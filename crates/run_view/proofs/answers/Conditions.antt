-- A drive's condition, as it is drawn.
use Rattle.std.proofs.Common.{◌≡◌, ℕ, ◌<◌, ◌==◌, Bool, true, false, not, cond, List, [], ◌∷◌, length, map, fold, Option, Some, None, Result, Ok, Err, refl, sym, ap, ◌∙◌, subst, arith}
use Rattle.std.specs.Prelude.{slice_set, is_some}
use Rattle.std.proofs.lemmas.Bool.Decides.{nat_tests}
use Rattle.drive_pictures.specs.declared.drives.Drive.{Drive}
use Rattle.drive_pictures.specs.declared.drives.Change.{Change}
use Rattle.drive_pictures.specs.declared.drives.Change.TheVariants as change
use Rattle.drive_pictures.specs.declared.moments.Moment.TheVariants as seen
use Rattle.drive_pictures.specs.declared.requests.Outcome.{Outcome}
use Rattle.drive_pictures.specs.declared.requests.Request.{Request}
use Rattle.drive_pictures.specs.Drives.{changed, met}
use Rattle.run_view.proofs.answers.Drives.{set_here, set_other, set_length, is_same, is_other, keeps_set}
use Rattle.run_view.proofs.answers.Hears.{at_moment, seen_of, play_of, asked_of}
use Rattle.run_view.proofs.answers.OwnLines.{IsInCondition}
use Rattle.run_picture.specs.Fold.{Known, heard, asked_at, admitted, drive_asked, drive_at, request_at, met_at, told_at, place_in, drive_after, drive_end, step}
use Rattle.run_picture.specs.Places.{place_of}
use Rattle.drive_pictures.specs.Requests.{is_refused}
use Rattle.script_lines.specs.declared.statement.Request.{Request as Asked}
use Rattle.trace_lines.specs.declared.telling.Told.{Told as Line}
use Rattle.trace_lines.specs.declared.telling.Told.TheVariants as deed
use Rattle.trace_reader.specs.RoundTrip.{told_of}
use Rattle.trace_replay.specs.Conditions.{online_behind, locked_behind, online_said, locked_said}
use Rattle.trace_replay.specs.Moments.{Moment, Played, Told, Idle}
use Rattle.trace_replay.specs.Script.{Input, Submit, Turn, Noise, Arm, SetOnline, SetLocked}
use Rattle.pack_geometry.specs.declared.DriveKind.{DriveKind}
use Rattle.run_view.proofs.answers.Declaring.{IsDeclared}
use Rattle.run_view.proofs.answers.Turning.{Core, Rest, moment_rest, moment_core}

record Bits : Type 0 where
  offline : Bool
  locked : Bool

abbrev bits_of : Drive → Bits
bits_of d = record { offline = d.offline; locked = d.locked }

-- no line of the trace changes them
asked_bits : (a : Result ℕ Outcome) (d : Drive) → bits_of (drive_asked a d) ≡ bits_of d
asked_bits (Ok cylinder) d = refl
asked_bits (Err why) d = refl

end_bits : (refused : Bool) (event : ℕ) (d : Drive) (r : Request) → bits_of (drive_end refused event d r) ≡ bits_of d
end_bits true event d r = refl
end_bits false event d r = refl

after_bits : (event place : ℕ) (t : Line) (d : Drive) (r : Request) → bits_of (drive_after event place t d r) ≡ bits_of d
after_bits event place deed.End d r = end_bits (is_refused place d r) event d r
after_bits event place t d r = refl

asked_keeps : (o : Option ℕ) (line : ℕ) (r : Asked) (write : Bool) (k : Known) (u : ℕ) → bits_of (drive_at (asked_at o line r write k).drives u) ≡ bits_of (drive_at k.drives u)
asked_keeps (Some place) line r write k u = refl
asked_keeps None line r write k u =
    keeps_set bits_of k.drives r.unit (drive_asked (admitted (drive_at k.drives r.unit).kind r k.lent) (drive_at k.drives r.unit)) u
    (asked_bits (admitted (drive_at k.drives r.unit).kind r k.lent) (drive_at k.drives r.unit))

asked_many : (o : Option ℕ) (line : ℕ) (r : Asked) (write : Bool) (k : Known) → length (asked_at o line r write k).drives ≡ length k.drives
asked_many (Some place) line r write k = refl
asked_many None line r write k = set_length k.drives r.unit (drive_asked (admitted (drive_at k.drives r.unit).kind r k.lent) (drive_at k.drives r.unit))

met_keeps : (o : Option ℕ) (line v id : ℕ) (k : Known) (u : ℕ) → bits_of (drive_at (met_at o line v id k).drives u) ≡ bits_of (drive_at k.drives u)
met_keeps (Some place) line v id k u = refl
met_keeps None line v id k u = keeps_set bits_of k.drives v (met (drive_at k.drives v)) u refl

met_many : (o : Option ℕ) (line v id : ℕ) (k : Known) → length (met_at o line v id k).drives ≡ length k.drives
met_many (Some place) line v id k = refl
met_many None line v id k = set_length k.drives v (met (drive_at k.drives v))

told_keeps : (place line v : ℕ) (t : Line) (k : Known) (u : ℕ) → bits_of (drive_at (told_at place line v t k).drives u) ≡ bits_of (drive_at k.drives u)
told_keeps place line v t k u =
    keeps_set bits_of k.drives v (drive_after k.event place t (drive_at k.drives v) (request_at k.requests place)) u
    (after_bits k.event place t (drive_at k.drives v) (request_at k.requests place))

-- A LINE OF THE SCRIPT does
record Stands (k : Known) (u : ℕ) (on lock : Bool) : Type 0 where
  inside : u < length k.drives
  offline : (drive_at k.drives u).offline ≡ not on
  locked : (drive_at k.drives u).locked ≡ lock

same_stands : (old new : Known) (u : ℕ) (on lock : Bool) → length new.drives ≡ length old.drives → bits_of (drive_at new.drives u) ≡ bits_of (drive_at old.drives u) → Stands old u on lock → Stands new u on lock
same_stands old new u on lock many bits k = record {
  inside = subst (λ n. u < n) (sym many) k.inside;
  offline = ap (λ (b : Bits). b.offline) bits ∙ k.offline;
  locked = ap (λ (b : Bits). b.locked) bits ∙ k.locked;
}

swapped : (u v : ℕ) → (u == v) ≡ (v == u)
swapped u v = grind (arith, nat_tests)

changed_stands : (v : ℕ) (c : Change) (k : Known) (u : ℕ) (on lock on' lock' : Bool) (here : Bool) → (v == u) ≡ here → Stands k u on lock
    → ((drive_at k.drives u).offline ≡ not on → (changed c (drive_at k.drives u)).offline ≡ not on')
    → ((drive_at k.drives u).locked ≡ lock → (changed c (drive_at k.drives u)).locked ≡ lock')
    → Stands (record k { drives = slice_set k.drives v (changed c (drive_at k.drives v)) }) u (cond here on' on) (cond here lock' lock)
changed_stands v c k u on lock on' lock' true e s f g =
    let is : v ≡ u = is_same v u e in
    let now : drive_at (slice_set k.drives v (changed c (drive_at k.drives v))) u ≡ changed c (drive_at k.drives u) =
    subst (λ w. drive_at (slice_set k.drives w (changed c (drive_at k.drives w))) u ≡ changed c (drive_at k.drives u)) (sym is) (set_here k.drives u (changed c (drive_at k.drives u)) s.inside) in record {
      inside = subst (λ n. u < n) (sym (set_length k.drives v (changed c (drive_at k.drives v)))) s.inside;
      offline = ap (λ (d : Drive). d.offline) now ∙ f s.offline;
      locked = ap (λ (d : Drive). d.locked) now ∙ g s.locked;
    }
changed_stands v c k u on lock on' lock' false e s f g =
    same_stands k (record k { drives = slice_set k.drives v (changed c (drive_at k.drives v)) }) u on lock (set_length k.drives v (changed c (drive_at k.drives v)))
    (ap bits_of (set_other k.drives v (changed c (drive_at k.drives v)) u (is_other v u e))) s

online_stands : (v : ℕ) (b : Bool) (line : ℕ) (k : Known) (u : ℕ) (on lock : Bool) → Stands k u on lock → Stands (heard (seen.Played line (play_of (SetOnline v b))) k) u (cond (v == u) b on) (cond (v == u) lock lock)
online_stands v true line k u on lock s = changed_stands v change.Online k u on lock true lock (v == u) refl s (λ e. refl) (λ e. e)
online_stands v false line k u on lock s = changed_stands v change.Offline k u on lock false lock (v == u) refl s (λ e. refl) (λ e. e)

locked_stands : (v : ℕ) (b : Bool) (line : ℕ) (k : Known) (u : ℕ) (on lock : Bool) → Stands k u on lock → Stands (heard (seen.Played line (play_of (SetLocked v b))) k) u (cond (v == u) on on) (cond (v == u) b lock)
locked_stands v true line k u on lock s = changed_stands v change.Lock k u on lock on true (v == u) refl s (λ e. e) (λ e. refl)
locked_stands v false line k u on lock s = changed_stands v change.Unlock k u on lock on false (v == u) refl s (λ e. e) (λ e. refl)

both_same : {A : Type 0} (b : Bool) (x : A) → cond b x x ≡ x
both_same true x = refl
both_same false x = refl

same_change : (v : ℕ) (c : Change) (k : Known) (u : ℕ) (on lock : Bool) → bits_of (changed c (drive_at k.drives v)) ≡ bits_of (drive_at k.drives v) → Stands k u on lock
    → Stands (record k { drives = slice_set k.drives v (changed c (drive_at k.drives v)) }) u on lock
same_change v c k u on lock e s =
    same_stands k (record k { drives = slice_set k.drives v (changed c (drive_at k.drives v)) }) u on lock (set_length k.drives v (changed c (drive_at k.drives v)))
    (keeps_set bits_of k.drives v (changed c (drive_at k.drives v)) u e) s

played_stands : (input : Input) (line : ℕ) (k : Known) (u : ℕ) (on lock : Bool) → Stands k u on lock → Stands (heard (seen.Played line (play_of input)) k) u (online_said u input on) (locked_said u input lock)
played_stands (Submit r) line k u on lock s =
    same_stands k (heard (seen.Played line (play_of (Submit r))) k) u on lock (asked_many (place_of k.ids r.id) line (asked_of r) (is_some r.written) k)
    (asked_keeps (place_of k.ids r.id) line (asked_of r) (is_some r.written) k u) s
played_stands (Turn v y) line k u on lock s = same_change v change.Turn k u on lock refl s
played_stands (Noise n) line k u on lock s = same_change n.unit change.Noise k u on lock refl s
played_stands (Arm v what n) line k u on lock s = same_change v change.Fault k u on lock refl s
played_stands (SetOnline v b) line k u on lock s =
    subst (λ z. Stands (heard (seen.Played line (play_of (SetOnline v b))) k) u z lock) (ap (λ (x : Bool). cond x b on) (sym (swapped u v)))
    (subst (λ z. Stands (heard (seen.Played line (play_of (SetOnline v b))) k) u (cond (v == u) b on) z) (both_same (v == u) lock) (online_stands v b line k u on lock s))
played_stands (SetLocked v b) line k u on lock s =
    subst (λ z. Stands (heard (seen.Played line (play_of (SetLocked v b))) k) u on z) (ap (λ (x : Bool). cond x b lock) (sym (swapped u v)))
    (subst (λ z. Stands (heard (seen.Played line (play_of (SetLocked v b))) k) u z (cond (v == u) b lock)) (both_same (v == u) on) (locked_stands v b line k u on lock s))
played_stands other line k u on lock s = s

told_stands : (line v i : ℕ) (t : Line) (k : Known) (u : ℕ) (on lock : Bool) → Stands k u on lock → Stands (heard (seen.Told line v i t) k) u on lock
told_stands line v i t k u on lock s =
    let m : Known = met_at (place_of k.ids i) line v i k in
    let place : ℕ = place_in (place_of k.ids i) k.ids in
    same_stands m (told_at place line v t m) u on lock (set_length m.drives v (drive_after m.event place t (drive_at m.drives v) (request_at m.requests place))) (told_keeps place line v t m u)
    (same_stands k m u on lock (met_many (place_of k.ids i) line v i k) (met_keeps (place_of k.ids i) line v i k u) s)

turned_stands : (m : Moment) (k : Known) (u : ℕ) (on lock : Bool) → Stands k u on lock → Stands (at_moment k (seen_of m)) u on lock
turned_stands m k u on lock s =
    same_stands k (at_moment k (seen_of m)) u on lock (ap (λ (r : Rest). r.many) (moment_rest (seen_of m) k))
    (ap (λ (c : Core). record { offline = c.offline; locked = c.locked }) (moment_core (seen_of m) k u)) s

all_stand : (ms : List Moment) (k : Known) (u : ℕ) (on lock : Bool) → Stands k u on lock → Stands (fold step k (map seen_of ms)) u (online_behind u on ms) (locked_behind u lock ms)
all_stand [] k u on lock s = s
all_stand (Played line input ∷ ms) k u on lock s =
    all_stand ms (step k (seen_of (Played line input))) u (online_said u input on) (locked_said u input lock)
    (played_stands input line (at_moment k (seen_of (Played line input))) u on lock (turned_stands (Played line input) k u on lock s))
all_stand (Told line v i d ∷ ms) k u on lock s =
    all_stand ms (step k (seen_of (Told line v i d))) u on lock (told_stands line v i (told_of d) (at_moment k (seen_of (Told line v i d))) u on lock (turned_stands (Told line v i d) k u on lock s))
all_stand (Idle line ∷ ms) k u on lock s = all_stand ms (step k (seen_of (Idle line))) u on lock (turned_stands (Idle line) k u on lock s)

pub conditions_of : (drives : ℕ → Option DriveKind) (known : Known) (ms : List Moment) (u : ℕ) → IsDeclared drives known → u < 32 → IsInCondition u ms (drive_at (fold step known (map seen_of ms)).drives u)
conditions_of drives known ms u is inside =
    let s : Stands (fold step known (map seen_of ms)) u (online_behind u true ms) (locked_behind u false ms) =
    all_stand ms known u true false (record { inside = subst (λ n. u < n) (sym is.many) inside; offline = is.online u; locked = is.unlocked u }) in record {
      offline = s.offline;
      locked = s.locked;
    }
