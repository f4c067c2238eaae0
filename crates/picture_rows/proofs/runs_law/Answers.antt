use Rattle.std.proofs.Common.{◌≡◌, ℕ, ◌+◌, ◌-◌, ◌==◌, ◌<◌, ◌≤◌, ◌&&◌, nat_le, nat_lt, min, true, ◌||◌, not, Bool, false, List, [], ◌∷◌, ◌++◌, length, refl, sym, ap, ◌∙◌, append_assoc, append-nil, arith, subst}
use Rattle.std.specs.List.{list_any}
use Rattle.std.proofs.lemmas.Bool.{false≢true}
use Rattle.std.proofs.lemmas.Bool.Decides.{nat_tests}
use Rattle.std.proofs.lemmas.List.Folds.{list_any-append}
use Rattle.trace_lines.specs.declared.telling.Told.TheVariants.{End}
use Rattle.drive_pictures.specs.Events.{line_of}
use Rattle.run_picture.specs.declared.columns.Window.{Window}
use Rattle.run_view.specs.Runs.{up_to}
use Rattle.run_view.specs.Notes.{Noted, note_at}
use Rattle.script_reader.specs.Lines.{pieces_of}
use Rattle.script_reader.specs.Stored.{Stored}
use Rattle.trace_reader.specs.declared.line.TraceLine.{TraceLine}
use Rattle.trace_reader.specs.declared.line.TraceLine.TheVariants.{Deed}
use Rattle.trace_reader.specs.Ended.{ends, has_ended}
use Rattle.trace_reader.specs.Grammar.{MayStand, Say}
use Rattle.picture_rows.proofs.runs_law.Goals as goal

pub returns-clause-last_play_not_seen : goal.returns-clause-last_play_not_seen
returns-clause-last_play_not_seen c = λ play plays is. let fewer : length plays ≡ length (play ∷ plays) = ap length is in omega (arith, fewer)

nil_cons : {A : Type 0} {x : A} {xs : List A} → [] ≡ x ∷ xs → ⊥
nil_cons is = cc is

pub returns-clause-played_behind_its_lines : goal.returns-clause-played_behind_its_lines
returns-clause-played_behind_its_lines c = λ number play plays at is.
    let first : up_to number (play ∷ plays) ≡ play ∷ up_to number plays = rw (up_to_it (line_of play.moment) number at) refl in
    nil_cons (is ∙ first)
  where
    up_to_it : (line number : ℕ) → line ≡ number → nat_le line number ≡ true
    up_to_it line number at = grind (arith, nat_tests)

-- the column of the first line that is noted
abbrev column_of : List Noted → ℕ
column_of [] = 0
column_of (n ∷ notes) = n.column

pub returns-clause-line_in_a_column_late : goal.returns-clause-line_in_a_column_late
returns-clause-line_in_a_column_late c = λ window event unit said named single behind from to is.
    let noted : note_at window event said ≡ record { column = event - window.first; unit_number = unit; text = said.text } ∷ []
    = rw (inside window.per window.first window.last event single from to, named) refl in
    let same : event ≡ event - window.first = ap column_of (is ∙ noted) in
    omega (arith, same, behind, from)
  where
    inside : (per first last event : ℕ) → per ≡ 1 → first ≤ event → event < last → per == 1 && (nat_le first event && nat_lt event last) ≡ true
    inside per first last event single from to = grind (arith, nat_tests)

pub returns-clause-try_counted_twice : goal.returns-clause-try_counted_twice
returns-clause-try_counted_twice c = λ block failures drive few some is. more failures drive.trial.fails few some is
  where
    more : (failures fails : ℕ) → failures < 4294967295 → 0 < fails → min (failures + fails) 4294967295 ≡ failures → ⊥
    more failures fails few some is = omega (arith, few, some, is)

pub returns-clause-window_one_event_early : goal.returns-clause-window_one_event_early
returns-clause-window_one_event_early c = λ command text trace picture d some shown early.
    starts command.from command.to _ d.view.window.first d.view.window.last (ap (λ (w : Window). w.first) d.views.window) (ap (λ (w : Window). w.last) d.views.window) some shown early
  where
    starts : (from to events first last : ℕ) → first ≡ min (from - 1) (min to events) → last ≡ min to events → 1 < from → first < last → first ≡ from - 2 → ⊥
    starts from to events first last begins ends some shown early = omega (arith, begins, ends, some, shown, early)

pub returns-clause-no_memory_taken_for_usage : goal.returns-clause-no_memory_taken_for_usage
returns-clause-no_memory_taken_for_usage c = λ is. let codes : 2 ≡ 9 = is in omega (arith, codes)

-- of lines that texts say, each may stand behind those before it
stands_in : (script : Stored) (before : List TraceLine) (texts : List (List ℕ)) (front : List TraceLine) (l : TraceLine) (behind : List TraceLine) → Say script before texts (front ++ l ∷ behind)
    → MayStand script (before ++ front) l
stands_in script before [] [] l behind h = absurd h
stands_in script before (text ∷ texts) [] l behind h = subst (λ (ls : List TraceLine). MayStand script ls l) (sym (append-nil before)) h.1
stands_in script before [] (k ∷ front) l behind h = absurd h
stands_in script before (text ∷ texts) (k ∷ front) l behind h =
    subst (λ (ls : List TraceLine). MayStand script ls l) (append_assoc before (k ∷ []) front) (stands_in script (before ++ k ∷ []) texts front l behind h.2)

-- behind the end of a request none of its lines may stand
closed : (count line unit id : ℕ) (front between : List TraceLine) → 0 < count → (count == 0 || not (has_ended (front ++ Deed line unit id End ∷ between) unit id)) ≡ true → ⊥
closed count line unit id front between some going =
    false≢true (sym (shut (count == 0) (has_ended (front ++ Deed line unit id End ∷ between) unit id) (none count some) ended) ∙ going)
  where
    none : (n : ℕ) → 0 < n → (n == 0) ≡ false
    none n some = grind (arith, nat_tests)

    same : (n : ℕ) → (n == n) ≡ true
    same n = grind (arith, nat_tests)

    shut : (a b : Bool) → a ≡ false → b ≡ true → (a || not b) ≡ false
    shut true b a-is b-is = absurd (false≢true (sym a-is))
    shut false true a-is b-is = refl
    shut false false a-is b-is = absurd (false≢true b-is)

    either : (a b c d : Bool) → b ≡ true → c ≡ true → (a || ((b && c) || d)) ≡ true
    either true b c d b-is c-is = refl
    either false b c d b-is c-is = rw (b-is, c-is) refl

    ended : has_ended (front ++ Deed line unit id End ∷ between) unit id ≡ true
    ended = list_any-append (ends unit id) front (Deed line unit id End ∷ between)
        ∙ either (list_any (ends unit id) front) (unit == unit) (id == id) (list_any (ends unit id) between) (same unit) (same id)

pub returns-clause-two_ends_of_one_request : goal.returns-clause-two_ends_of_one_request
returns-clause-two_ends_of_one_request c = λ command text trace picture front between behind line later unit id d some is.
    let first : TraceLine = Deed line unit id End in
    let second : TraceLine = Deed later unit id End in
    let turned = is ∙ sym (append_assoc front (first ∷ between) (second ∷ behind)) in
    let stands = stands_in d.stored [] (pieces_of trace) (front ++ first ∷ between) second behind (subst (λ (ls : List TraceLine). Say d.stored [] (pieces_of trace) ls) turned d.views.spells.says) in
    closed d.stored.count line unit id front between some stands.under_way
