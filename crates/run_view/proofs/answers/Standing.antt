-- The lines of a legal run may stand as they do.
use Rattle.std.proofs.Common.{◌≡◌, ℕ, ◌+◌, ◌<◌, ◌≤◌, ◌==◌, Bool, true, false, List, [], ◌∷◌, ◌++◌, get_or, map, Option, Some, None, Result, Ok, Err, refl, sym, ap, ◌∙◌, subst, arith, append-nil}
use Rattle.std.specs.Prelude.{nat_le, nat_lt, ◌&&◌, ◌||◌, not, is_some}
use Rattle.std.specs.List.{All}
use Rattle.std.proofs.lemmas.Bool.Decides.{nat_tests}
use Rattle.std.proofs.lemmas.List.Elements.{All-append, All-cons, All-head, All-nil, All-set, All-tail}
use Rattle.std.proofs.lemmas.List.Folds.{list_any-append}
use Rattle.std.proofs.lemmas.Option.{same_Some}
use Rattle.drive_pictures.specs.declared.drives.Drive.{Drive}
use Rattle.drive_pictures.specs.declared.moments.Moment.{Moment as Seen}
use Rattle.drive_pictures.specs.declared.moments.Moment.TheVariants as seen
use Rattle.drive_pictures.specs.declared.requests.Outcome.{Outcome}
use Rattle.drive_pictures.specs.declared.requests.Request.{Request}
use Rattle.drive_pictures.specs.Requests.{new_request, is_refused}
use Rattle.pack_geometry.specs.declared.DriveKind.{DriveKind}
use Rattle.pack_geometry.specs.Pack as model
use Rattle.pack_geometry.specs.TableSpelling.{Table}
use Rattle.run_picture.specs.declared.columns.Window.{Window}
use Rattle.run_picture.specs.Fold.{Known, heard, asked_at, admitted, drive_at, request_at, request_asked, frames_of, request_after, request_end, step}
use Rattle.run_picture.specs.Places.{place_of}
use Rattle.script_lines.specs.declared.statement.Span.{Span}
use Rattle.script_lines.specs.declared.statement.Statement.{Statement}
use Rattle.script_lines.specs.declared.statement.Statement.TheVariants as says
use Rattle.script_lines.specs.Renamed.{renamed}
use Rattle.script_reader.specs.Meaning.{meaning_of, line_of, statement_of}
use Rattle.script_reader.specs.Stored.{Kept, Stored, digits_at, seen as stands_for}
use Rattle.std.specs.Prelude.{Box}
use Rattle.std.specs.Box.{box_value}
use Rattle.std.specs.declared.alloc.Global.{Global}
use Rattle.trace_lines.specs.declared.telling.Told.{Told as Line}
use Rattle.trace_lines.specs.declared.telling.Told.TheVariants as deed
use Rattle.trace_reader.specs.declared.line.TraceLine.{TraceLine}
use Rattle.trace_reader.specs.declared.line.TraceLine.TheVariants as lines
use Rattle.trace_reader.specs.Asked.{asks, is_asked, is_of_script}
use Rattle.trace_reader.specs.Ended.{ends as ends_it, has_ended}
use Rattle.trace_reader.specs.Grammar.{MayStand, last_behind, last_number}
use Rattle.trace_reader.specs.Lines.{IsLine, line_number}
use Rattle.trace_reader.specs.RoundTrip.{AreOfRun, lines_told, told_of}
use Rattle.trace_replay.specs.requests.Requests.{Request as Wished}
use Rattle.trace_replay.specs.Causes.{AskSome}
use Rattle.trace_replay.specs.History.{lines_after}
use Rattle.trace_replay.specs.Moments.{Deed, End, Moment, Played, Told, Idle, played}
use Rattle.trace_replay.specs.Packs.{surface_of}
use Rattle.trace_replay.specs.Replay.{Replay, MayCome, Follows, after_moment, next_wish}
use Rattle.trace_replay.specs.Runs.{IsLegalRun, start_of}
use Rattle.trace_replay.specs.Script.{Input, Submit, SetOnline, SetLocked, Drain, Numbered, AreNumbered, drives_of, inputs_before, with_input}
use Rattle.trace_replay.proofs.Kept.{AllFit, starts}
use Rattle.trace_replay.proofs.Asking.{run_asks}
use Rattle.run_view.proofs.answers.Answered.{end_is}
use Rattle.run_view.proofs.answers.Declaring.{IsDeclared, script_declared}
use Rattle.run_view.proofs.answers.Drives.{is_same}
use Rattle.run_view.proofs.answers.Ended.{HasEnded, moment_ended, one_own, still_apart, turned_ended}
use Rattle.run_view.proofs.answers.HeardWhole.{less_is, told_line, told_number}
use Rattle.run_view.proofs.answers.Hears.{asked_of, at_moment, known_of, play_of, seen_of}
use Rattle.run_view.proofs.answers.Listening.{own_at}
use Rattle.run_view.proofs.answers.Named.{IsNamed, all_named, none_named, turned_named}
use Rattle.run_view.proofs.answers.Running.{Both, AreGood, names_after, AsksSomeAt, IsNamedBy, named_by, next_tied, turned_both, moment_both, moment_fits}
use Rattle.run_view.proofs.answers.Starting.{run_good, some_parts, start_both}
use Rattle.run_view.proofs.answers.Tying.{moment_stays}

-- WHAT IS ASKED FOR up to a line is asked for up to each line behind it
or_true : (b : Bool) → b || true ≡ true
or_true true = refl
or_true false = refl

and_right : (b c : Bool) → b && c ≡ true → c ≡ true
and_right true c e = e
and_right false c e = grind (arith, e)

no : false ≡ true → ⊥
no e = grind (arith, e)

either_later : (a b c d f : Bool) → (b ≡ true → c ≡ true) → (d ≡ true → f ≡ true) → (a && b) || d ≡ true → (a && c) || f ≡ true
either_later true true c d f g h is = ap (λ (x : Bool). x || f) (g refl)
either_later true false c true f g h is = ap (λ (x : Bool). c || x) (h refl) ∙ or_true c
either_later true false c false f g h is = absurd (no is)
either_later false b c d f g h is = h is

later : (a n m : ℕ) → n ≤ m → nat_le a n ≡ true → nat_le a m ≡ true
later a n m e is = grind (arith, nat_tests, e, is)

asked_later : (ls : List Kept) (n m u id : ℕ) → n ≤ m → is_asked ls n u id ≡ true → is_asked ls m u id ≡ true
asked_later [] n m u id e is = is
asked_later (l ∷ ls) n m u id e is =
    either_later (asks u id l.statement) (nat_le l.number n) (nat_le l.number m) (is_asked ls n u id) (is_asked ls m u id) (later l.number n m e) (asked_later ls n m u id e) is

abbrev IsAskedFor : List Kept → ℕ → Request → Type 0
IsAskedFor ls n r = is_asked ls n r.unit r.id ≡ true

abbrev AllAsked : List Kept → ℕ → List Request → Type 0
AllAsked ls n l = All (IsAskedFor ls n) l

all_later : (ls : List Kept) (n m : ℕ) (l : List Request) → n ≤ m → AllAsked ls n l → AllAsked ls m l
all_later ls n m l e all = λ p d inside. asked_later ls n m (get_or l p d).unit (get_or l p d).id e (all p d inside)

end_asked : (ls : List Kept) (n : ℕ) (b : Bool) (event line : ℕ) (d : Drive) (r : Request) → IsAskedFor ls n r → IsAskedFor ls n (request_end b event line d r)
end_asked ls n true event line d r is = is
end_asked ls n false event line d r is = is

after_asked : (ls : List Kept) (n event line place : ℕ) (t : Line) (d : Drive) (r : Request) → IsAskedFor ls n r → IsAskedFor ls n (request_after event line place t d r)
after_asked ls n event line place deed.End d r is = end_asked ls n (is_refused place d r) event line d r is
after_asked ls n event line place t d r is = is

told_asked : (ls : List Kept) (n : ℕ) (k : Known) (line u id : ℕ) (t : Line) → IsNamedBy k.ids k.requests u id → AllAsked ls n k.requests → AllAsked ls n (heard (seen.Told line u id t) k).requests
told_asked ls n k line u id t here all =
    subst (λ (z : Known). AllAsked ls n z.requests) (sym (own_at (place_of k.ids id) line u id k t here.place here.found))
    (All-set (IsAskedFor ls n) k.requests here.place (request_after k.event line here.place t (drive_at k.drives u) (request_at k.requests here.place))
    (after_asked ls n k.event line here.place t (drive_at k.drives u) (request_at k.requests here.place) (all here.place (new_request 0 0 0 0 false) here.inside)) all)

new_asked : (ls : List Kept) (n : ℕ) (a : Result ℕ Outcome) (frames joined : ℕ) (r : Request) → IsAskedFor ls n r → IsAskedFor ls n (request_asked a frames joined r)
new_asked ls n (Ok cylinder) frames joined r is = is
new_asked ls n (Err why) frames joined r is = is

submit_asked : (ls : List Kept) (n : ℕ) (o : Option ℕ) (line : ℕ) (r : Wished) (write : Bool) (k : Known) → is_asked ls n r.unit r.id ≡ true → AllAsked ls n k.requests
    → AllAsked ls n (asked_at o line (asked_of r) write k).requests
submit_asked ls n (Some place) line r write k is all = all
submit_asked ls n None line r write k is all =
    let a : Result ℕ Outcome = admitted (drive_at k.drives r.unit).kind (asked_of r) k.lent in
    let new : Request = request_asked a (frames_of (asked_of r)) (drive_at k.drives r.unit).queue.joined (new_request k.event line r.unit r.id write) in
    All-append (IsAskedFor ls n) k.requests (new ∷ []) all (All-cons (IsAskedFor ls n) new []
    (new_asked ls n a (frames_of (asked_of r)) (drive_at k.drives r.unit).queue.joined (new_request k.event line r.unit r.id write) is) (All-nil (IsAskedFor ls n)))

abbrev IsAskedIn : List Kept → ℕ → Input → Type 0
IsAskedIn ls n (Submit r) = is_asked ls n r.unit r.id ≡ true
IsAskedIn ls n input = Unit {0}

played_asked : (ls : List Kept) (n : ℕ) (input : Input) (line : ℕ) (k : Known) → IsAskedIn ls n input → AllAsked ls n k.requests → AllAsked ls n (heard (seen.Played line (play_of input)) k).requests
played_asked ls n (Submit r) line k is all = submit_asked ls n (place_of k.ids r.id) line r (is_some r.written) k is all
played_asked ls n (SetOnline u true) line k is all = all
played_asked ls n (SetOnline u false) line k is all = all
played_asked ls n (SetLocked u true) line k is all = all
played_asked ls n (SetLocked u false) line k is all = all
played_asked ls n input line k is all = all

-- THE INPUTS of a script ask for what its lines ask for
AreInputsOf : List Kept → ℕ → List Numbered → Type 0
AreInputsOf ls count [] = Unit {0}
AreInputsOf ls count (i ∷ inputs) = (i.line ≤ count + 1) × IsAskedIn ls i.line i.input × AreInputsOf ls count inputs

input_more : (l : Kept) (ls : List Kept) (n : ℕ) (input : Input) → IsAskedIn ls n input → IsAskedIn (l ∷ ls) n input
input_more l ls n (Submit r) is = ap (λ (b : Bool). (asks r.unit r.id l.statement && nat_le l.number n) || b) is ∙ or_true (asks r.unit r.id l.statement && nat_le l.number n)
input_more l ls n input is = tt

inputs_more : (l : Kept) (ls : List Kept) (count : ℕ) (inputs : List Numbered) → AreInputsOf ls count inputs → AreInputsOf (l ∷ ls) count inputs
unfolding AreInputsOf
inputs_more l ls count [] are = tt
inputs_more l ls count (i ∷ inputs) are = (are.0, input_more l ls i.line i.input are.1, inputs_more l ls count inputs are.2)

asked_here : (u id n : ℕ) (rest : Bool) → ((u == u && id == id) && nat_le n n) || rest ≡ true
asked_here u id n rest = ap (λ (b : Bool). b || rest) (here u id n)
  where
    here : (u id n : ℕ) → (u == u && id == id) && nat_le n n ≡ true
    here u id n = grind (arith, nat_tests)

numbers_bound : (before count : ℕ) (text : List ℕ) (ls : List Kept) → AreNumbered before count (map line_of (map (stands_for text) ls)) → before ≤ count
numbers_bound before count text [] are = are
numbers_bound before count text (l ∷ ls) are = below before l.number count are.0 (numbers_bound l.number count text ls are.1)
  where
    below : (a b c : ℕ) → a < b → b ≤ c → a ≤ c
    below a b c e f = omega (arith, e, f)

one_input : (text : List ℕ) (n count : ℕ) (st : Statement Span (Box (List ℕ) Global)) (ls : List Kept) (inputs : List Numbered) → n ≤ count + 1 → AreInputsOf (record { number = n; statement = st } ∷ ls) count inputs
    → AreInputsOf (record { number = n; statement = st } ∷ ls) count (with_input n (statement_of (renamed (digits_at text) box_value st)) inputs)
unfolding AreInputsOf
one_input text n count (says.Unit u kind) ls inputs e are = are
one_input text n count (says.Read r) ls inputs e are = (e, asked_here r.unit r.id n (is_asked ls n r.unit r.id), are)
one_input text n count (says.Write r content) ls inputs e are = (e, asked_here r.unit r.id n (is_asked ls n r.unit r.id), are)
one_input text n count st ls inputs e are = (e, tt, are)

inputs_are : (text : List ℕ) (before count : ℕ) (ls : List Kept) → AreNumbered before count (map line_of (map (stands_for text) ls))
    → AreInputsOf ls count (inputs_before (record { line = count + 1; input = Drain } ∷ []) (map line_of (map (stands_for text) ls)))
unfolding AreInputsOf
inputs_are text before count [] are = (omega arith, tt, tt)
inputs_are text before count (l ∷ ls) are =
    one_input text l.number count l.statement ls (inputs_before (record { line = count + 1; input = Drain } ∷ []) (map line_of (map (stands_for text) ls)))
    (above l.number count (numbers_bound l.number count text ls are.1)) (inputs_more l ls count _ (inputs_are text l.number count ls are.1))
  where
    above : (a b : ℕ) → a ≤ b → a ≤ b + 1
    above a b e = omega (arith, e)

-- WHAT HOLDS BEHIND SOME LINES
abbrev Any : Request → Type 0
Any r = Unit {0}

record Standing (script : Stored) (s : Replay) (k : Known) (before : List TraceLine) : Type 0 where
  ordered : last_number before ≤ s.event.line
  bound : s.event.line ≤ script.count + 1
  asked : AllAsked script.lines s.event.line k.requests
  named : IsNamed k.ids k.requests
  ended : (u id : ℕ) → has_ended before u id ≡ true → HasEnded Any k.ids k.requests id

turned_asked : (ls : List Kept) (n : ℕ) (m : Seen) (k : Known) → AllAsked ls n k.requests → AllAsked ls n (at_moment k m).requests
turned_asked ls n m k all = subst (λ (l : List Request). AllAsked ls n l) (sym (moment_stays m k).requests) all

-- a line of the script
played_stands : (script : Stored) (drives : ℕ → Option DriveKind) (names : List ℕ) (s : Replay) (k : Known) (lines : ℕ → List Deed) (before : List TraceLine) (line : ℕ) (input : Input)
    → MayCome s (Played line input) → Both drives names s k lines → line ≤ script.count + 1 → IsAskedIn script.lines line input → Standing script s k before
    → Standing script (after_moment s (Played line input)) (step k (seen_of (Played line input))) before
played_stands script drives names s k lines before line input may b small is st =
    let next : s.event.line < line = less_is s.event.line line may.later in
    let m : Seen = seen_of (Played line input) in record {
      ordered = below (last_number before) s.event.line line st.ordered next;
      bound = small;
      asked = played_asked script.lines line input line (at_moment k m) is
          (turned_asked script.lines line m k (all_later script.lines s.event.line line k.requests (weaker s.event.line line next) st.asked));
      named = all_named k (m ∷ []) st.named;
      ended = λ u id e. moment_ended Any drives names s k lines (Played line input) id may b (st.ended u id e);
    }
  where
    below : (a b c : ℕ) → a ≤ b → b < c → a ≤ c
    below a b c e f = omega (arith, e, f)

    weaker : (a b : ℕ) → a < b → a ≤ b
    weaker a b e = omega (arith, e)

-- a line of the trace, for a request that has its place
last_more : (number : ℕ) (before : List TraceLine) (line : TraceLine) → last_behind number (before ++ line ∷ []) ≡ line_number line
last_more number [] line = refl
last_more number (l ∷ before) line = last_more (line_number l) before line

same_le : (a b : ℕ) → a ≡ b → a ≤ b
same_le a b e = omega (arith, e)

le_same : (a b c : ℕ) → a ≤ b → c ≡ b → a ≤ c
le_same a b c e f = omega (arith, e, f)

le_is : (a b : ℕ) → a ≤ b → nat_le a b ≡ true
le_is a b e = grind (arith, nat_tests, e)

of_script_by : (none low asked : Bool) → low ≡ true → asked ≡ true → none || (low && asked) ≡ true
of_script_by none low asked e f = ap (λ (b : Bool). none || (b && asked)) e ∙ ap (λ (b : Bool). none || b) f ∙ or_true none

under_way_by : (none ended : Bool) → (ended ≡ true → ⊥) → none || not ended ≡ true
under_way_by none true e = absurd (e refl)
under_way_by none false e = or_true none

end_new : (k : Known) (line u id v i : ℕ) (d : Deed) → IsNamedBy k.ids k.requests u id → ends_it v i (lines.Deed line u id (told_of d)) ≡ true
    → HasEnded Any (heard (seen.Told line u id (told_of d)) k).ids (heard (seen.Told line u id (told_of d)) k).requests i
end_new k line u id v i (End a) here is =
    subst (λ (z : ℕ). HasEnded Any (heard (seen.Told line u id deed.End) k).ids (heard (seen.Told line u id deed.End) k).requests z) (is_same id i (and_right (u == v) (id == i) is))
    (end_is Any k line u id here.place (is_refused here.place (drive_at k.drives u) (request_at k.requests here.place)) here.found here.inside refl tt)
end_new k line u id v i d here is = absurd (no is)

either_ended : {P : Type 0} (b c : Bool) → (b ≡ true → P) → (c ≡ true → P) → b || (c || false) ≡ true → P
either_ended true c f g is = f refl
either_ended false true f g is = g refl
either_ended false false f g is = absurd (no is)

record Stands (script : Stored) (s : Replay) (k : Known) (before : List TraceLine) (line : TraceLine) : Type 0 where
  may : MayStand script before line
  next : Standing script s k (before ++ line ∷ [])

told_stands : (script : Stored) (drives : ℕ → Option DriveKind) (names : List ℕ) (s : Replay) (k : Known) (ls : ℕ → List Deed) (before : List TraceLine) (line u id : ℕ) (d : Deed)
    → MayCome s (Told line u id d) → Both drives names s k ls → Standing script s k before
    → Stands script (after_moment s (Told line u id d)) (step k (seen_of (Told line u id d))) before (lines.Deed line u id (told_of d))
told_stands script drives names s k ls before line u id d may b st = record {
  may = record {
    ordered = le_same (last_number before) s.event.line line st.ordered number;
    of_script = of_script_by (script.count == 0) (nat_le line (script.count + 1)) (is_asked script.lines line u id)
        (le_is line (script.count + 1) (subst (λ (n : ℕ). n ≤ script.count + 1) (sym number) st.bound)) asked;
    under_way = under_way_by (script.count == 0) (has_ended before u id) (λ is. ended_before is);
  };
  next = record {
    ordered = same_le (last_number (before ++ l ∷ [])) (after_moment s (Told line u id d)).event.line (last_more 0 before l ∙ number ∙ sym same_line);
    bound = subst (λ (n : ℕ). n ≤ script.count + 1) (sym same_line) st.bound;
    asked = subst (λ (n : ℕ). AllAsked script.lines n (step k m).requests) (sym same_line)
        (told_asked script.lines s.event.line k' line u id (told_of d) here (turned_asked script.lines s.event.line m k st.asked));
    named = all_named k (m ∷ []) st.named;
    ended = λ v i is. either_ended (has_ended before v i) (ends_it v i l)
        (λ e. moment_ended Any drives names s k ls (Told line u id d) i may b (st.ended v i e)) (end_new k' line u id v i d here) (sym (list_any-append (ends_it v i) before (l ∷ [])) ∙ is);
  };
}
  where
    m : Seen
    m = seen_of (Told line u id d)

    l : TraceLine
    l = lines.Deed line u id (told_of d)

    k' : Known
    k' = at_moment k m

    now : Both drives names s k' ls
    now = turned_both m drives names s k ls b

    here : IsNamedBy k'.ids k'.requests u id
    here = named_by (next_wish s) drives s k' ls line u id d (next_tied k'.ids k'.requests s now.act) may now.tied

    number : line ≡ s.event.line
    number = told_number (next_wish s) s line u id d may

    same_line : (after_moment s (Told line u id d)).event.line ≡ s.event.line
    same_line = told_line (next_wish s) s u d

    ended_before : has_ended before u id ≡ true → ⊥
    ended_before is =
        let e : HasEnded Any k'.ids k'.requests id = turned_ended Any m k id (st.ended u id is) in
        still_apart Any k'.ids k'.requests id here.place here.still e (same_Some e.place here.place (sym e.found ∙ here.found))

    asked : is_asked script.lines line u id ≡ true
    asked =
        subst (λ (n : ℕ). is_asked script.lines n u id ≡ true) (sym number)
        (subst (λ (x : ℕ). is_asked script.lines s.event.line x id ≡ true) here.own
        (subst (λ (x : ℕ). is_asked script.lines s.event.line (request_at k'.requests here.place).unit x ≡ true) (one_own k'.ids k'.requests id here.place (turned_named m k st.named) here.found here.inside)
        (turned_asked script.lines s.event.line m k st.asked here.place (new_request 0 0 0 0 false) here.inside)))

-- and one that found nothing to do
idle_stands : (script : Stored) (drives : ℕ → Option DriveKind) (names : List ℕ) (s : Replay) (k : Known) (ls : ℕ → List Deed) (before : List TraceLine) (line : ℕ) → MayCome s (Idle line)
    → Both drives names s k ls → Standing script s k before → Stands script (after_moment s (Idle line)) (step k (seen_of (Idle line))) before (lines.Idle line)
idle_stands script drives names s k ls before line may b st = record {
  may = record {
    ordered = le_same (last_number before) s.event.line line st.ordered may.number;
    of_script = of_script_by (script.count == 0) (nat_le line (script.count + 1)) true (le_is line (script.count + 1) (subst (λ (n : ℕ). n ≤ script.count + 1) (sym may.number) st.bound)) refl;
    under_way = refl;
  };
  next = record {
    ordered = same_le (last_number (before ++ lines.Idle line ∷ [])) s.event.line (last_more 0 before (lines.Idle line) ∙ may.number);
    bound = st.bound;
    asked = turned_asked script.lines s.event.line (seen_of (Idle line)) k st.asked;
    named = all_named k (seen_of (Idle line) ∷ []) st.named;
    ended = λ v i is. either_ended (has_ended before v i) false (λ e. moment_ended Any drives names s k ls (Idle line) i may b (st.ended v i e)) (λ e. absurd (no e))
        (sym (list_any-append (ends_it v i) before (lines.Idle line ∷ [])) ∙ is);
  };
}

-- ALL LINES
all_stand : (script : Stored) (drives : ℕ → Option DriveKind) (names : List ℕ) (s : Replay) (k : Known) (ms : List Moment) (ls : ℕ → List Deed) (before : List TraceLine) → AskSome ms → Follows s ms
    → AreGood drives names ms → AllFit s ls → Both drives names s k ls → AreInputsOf script.lines script.count (played ms) → All IsLine (lines_told ms) → Standing script s k before
    → AreOfRun script before (lines_told ms)
unfolding AreInputsOf
all_stand script drives names s k [] ls before some follows good fit b inputs ranges st = tt
all_stand script drives names s k (Played line input ∷ ms) ls before some follows good fit b inputs ranges st =
    all_stand script drives (names_after names (Played line input)) (after_moment s (Played line input)) (step k (seen_of (Played line input))) ms (λ x. lines_after x (Played line input) (ls x)) before
    some.1 follows.1 good.1 (moment_fits s ls (Played line input) some.0 follows.0 fit) (moment_both drives names s k ls (Played line input) follows.0 fit good.0 b) inputs.2 ranges
    (played_stands script drives names s k ls before line input follows.0 b inputs.0 inputs.1 st)
all_stand script drives names s k (Told line u id d ∷ ms) ls before some follows good fit b inputs ranges st =
    let l : TraceLine = lines.Deed line u id (told_of d) in
    let here : Stands script (after_moment s (Told line u id d)) (step k (seen_of (Told line u id d))) before l = told_stands script drives names s k ls before line u id d follows.0 b st in (
      All-head IsLine l (lines_told ms) ranges,
      here.may,
      all_stand script drives names (after_moment s (Told line u id d)) (step k (seen_of (Told line u id d))) ms (λ x. lines_after x (Told line u id d) (ls x)) (before ++ l ∷ [])
          some follows.1 good.1 (moment_fits s ls (Told line u id d) tt follows.0 fit) (moment_both drives names s k ls (Told line u id d) follows.0 fit good.0 b) inputs (All-tail IsLine l (lines_told ms) ranges) here.next,
    )
all_stand script drives names s k (Idle line ∷ ms) ls before some follows good fit b inputs ranges st =
    let l : TraceLine = lines.Idle line in
    let here : Stands script (after_moment s (Idle line)) (step k (seen_of (Idle line))) before l = idle_stands script drives names s k ls before line follows.0 b st in (
      All-head IsLine l (lines_told ms) ranges,
      here.may,
      all_stand script drives names (after_moment s (Idle line)) (step k (seen_of (Idle line))) ms (λ x. lines_after x (Idle line) (ls x)) (before ++ l ∷ [])
          some follows.1 good.1 (moment_fits s ls (Idle line) tt follows.0 fit) (moment_both drives names s k ls (Idle line) follows.0 fit good.0 b) inputs (All-tail IsLine l (lines_told ms) ranges) here.next,
    )

pub are_of_run : (script : Stored) (tables : ℕ → Option Table) (old new : ℕ → model.Pack) (ms : List Moment) → IsLegalRun (meaning_of script) tables old new ms → All IsLine (lines_told ms)
    → AreOfRun script [] (lines_told ms)
are_of_run script tables old new ms run ranges =
    all_stand script (drives_of (meaning_of script)) [] (start_of (meaning_of script) tables old) known ms (λ x. []) []
    (run_asks (meaning_of script) tables old new ms [] (subst (IsLegalRun (meaning_of script) tables old new) (sym (append-nil ms)) run)) run.trace.follows (run_good (meaning_of script) tables old new ms run)
    (starts (drives_of (meaning_of script)) tables (surface_of old)) (start_both (drives_of (meaning_of script)) tables (surface_of old) known is)
    (subst (AreInputsOf script.lines script.count) (sym run.inputs) (inputs_are script.text 0 script.count script.lines run.good.numbers)) ranges (record {
      ordered = omega arith;
      bound = omega arith;
      asked = subst (λ (l : List Request). AllAsked script.lines 0 l) (sym is.requests) (All-nil (IsAskedFor script.lines 0));
      named = subst (λ (names : List ℕ). IsNamed names known.requests) (sym is.ids) (subst (λ (l : List Request). IsNamed [] l) (sym is.requests) none_named);
      ended = λ u id e. absurd (no e);
    })
  where
    window : Window
    window = record { first = 0; last = 0; per = 1 }

    known : Known
    known = known_of (meaning_of script) window

    is : IsDeclared (drives_of (meaning_of script)) known
    is = script_declared (meaning_of script) window run.good
