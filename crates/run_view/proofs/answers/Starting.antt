-- A picture of a legal run, from its start on.
use Rattle.std.proofs.Common.{◌≡◌, ℕ, ◌+◌, ◌==◌, Bool, true, false, cond, List, [], ◌∷◌, ◌++◌, length, map, fold, Option, Some, None, refl, sym, ap, ◌∙◌, subst, arith, All}
use Rattle.std.specs.Prelude.{◌||◌, unwrap_or}
use Rattle.std.specs.List.{list_any}
use Rattle.std.proofs.lemmas.Bool.Decides.{nat_tests}
use Rattle.std.proofs.lemmas.List.Elements.{All-head, All-tail}
use Rattle.drive_registers.specs.declared.Function.TheVariants as function
use Rattle.hardware_table.specs.Drive.{new_drive}
use Rattle.hardware_table.specs.Functions.{performed}
use Rattle.pack_geometry.specs.declared.DriveKind.{DriveKind}
use Rattle.pack_geometry.specs.declared.DriveKind.TheVariants.{Rp06}
use Rattle.pack_geometry.specs.Pack as model
use Rattle.pack_geometry.specs.TableSpelling.{Table}
use Rattle.drive_pictures.specs.declared.requests.Request.{Request}
use Rattle.run_picture.specs.Fold.{Known, step}
use Rattle.run_picture.specs.Places.{place_of, place_from}
use Rattle.trace_replay.specs.requests.Requests.{Request as Wish, IsRequest}
use Rattle.trace_replay.specs.Causes.{AskSome}
use Rattle.trace_replay.specs.Drives.{attached}
use Rattle.trace_replay.specs.History.{lines_after, lines_behind}
use Rattle.trace_replay.specs.Moments.{Deed, Moment, Played, Told, Idle, played}
use Rattle.trace_replay.specs.Packs.{Surface}
use Rattle.trace_replay.specs.Replay.{Replay, new_replay, after_moment, after_moments, Follows}
use Rattle.trace_replay.specs.Runs.{IsLegalRun}
use Rattle.trace_replay.specs.Script.{Script, Input, Submit, Drain, Statement, Declares, Plays, Line, Numbered, with_input, inputs_before, drives_of, IsThere, IsInput, IsStatement, with_id, ids_of, AreApart}
use Rattle.trace_replay.proofs.Kept.{AllFit, performed_kind}
use Rattle.run_view.proofs.answers.Hears.{seen_of}
use Rattle.run_view.proofs.answers.Declaring.{IsDeclared}
use Rattle.run_view.proofs.answers.Running.{Both, IsGood, IsGoodMoment, AreGood, names_after, AsksSomeAt, moment_both, moment_fits}

-- THE INPUTS of a script ask for new ids
abbrev names_in : List ℕ → Input → List ℕ
names_in names (Submit r) = names ++ r.id ∷ []
names_in names input = names

abbrev IsGoodInput : (ℕ → Option DriveKind) → List ℕ → Input → Type 0
IsGoodInput drives names (Submit r) = IsGood drives names r
IsGoodInput drives names input = Unit {0}

AreGoodInputs : (ℕ → Option DriveKind) → List ℕ → List Numbered → Type 0
AreGoodInputs drives names [] = Unit {0}
AreGoodInputs drives names (n ∷ ns) = IsGoodInput drives names n.input × AreGoodInputs drives (names_in names n.input) ns

AllNew : List ℕ → List ℕ → Type 0
AllNew names [] = Unit {0}
AllNew names (id ∷ ids) = (place_of names id ≡ None) × AllNew names ids

none_step : (b : Bool) (n : ℕ) (rest more : Option ℕ) → (rest ≡ None → more ≡ None) → cond b (Some n) rest ≡ None → cond b (Some n) more ≡ None
none_step true n rest more f e = e
none_step false n rest more f e = f e

none_more : (n : ℕ) (names : List ℕ) (i id : ℕ) → (i == id) ≡ false → place_from n names id ≡ None → place_from n (names ++ i ∷ []) id ≡ None
none_more n [] i id apart e = ap (λ (b : Bool). cond b (Some n) None) apart
none_more n (x ∷ names) i id apart e = none_step (x == id) n (place_from (n + 1) names id) (place_from (n + 1) (names ++ i ∷ []) id) (none_more (n + 1) names i id apart) e

left_false : (b c : Bool) → b || c ≡ false → (b ≡ false) × (c ≡ false)
left_false false c e = (refl, e)
left_false true c e = absurd (grind (arith, e))

swapped : (n m : ℕ) → (n == m) ≡ false → (m == n) ≡ false
swapped n m e = grind (arith, nat_tests, e)

all_new_more : (names : List ℕ) (i : ℕ) (ids : List ℕ) → list_any (λ other. other == i) ids ≡ false → AllNew names ids → AllNew (names ++ i ∷ []) ids
unfolding AllNew
all_new_more names i [] apart all = tt
all_new_more names i (id ∷ ids) apart all =
    let parts : ((id == i) ≡ false) × (list_any (λ other. other == i) ids ≡ false) = left_false (id == i) (list_any (λ other. other == i) ids) apart in
    (none_more 0 names i id (swapped id i parts.0) all.0, all_new_more names i ids parts.1 all.1)

there_good : (drives : ℕ → Option DriveKind) (names : List ℕ) (r : Wish) (o : Option DriveKind) → drives r.unit ≡ o → place_of names r.id ≡ None → IsThere o (λ kind. IsRequest r) → IsGood drives names r
there_good drives names r None e fresh is = absurd is
there_good drives names r (Some kind) e fresh is = record { fresh = fresh; kind = kind; there = e; some = is.some }

input_good : (drives : ℕ → Option DriveKind) (names ids : List ℕ) (number : ℕ) (input : Input) (inputs : List Numbered) → IsInput drives input → AllNew names (with_id (Plays input) ids) → AreApart (with_id (Plays input) ids)
    → ((more : List ℕ) → AllNew more ids → AreApart ids → AreGoodInputs drives more inputs) → AreGoodInputs drives names (record { line = number; input = input } ∷ inputs)
unfolding AllNew AreGoodInputs
input_good drives names ids number (Submit r) inputs is new apart rest =
    (there_good drives names r (drives r.unit) refl new.0 is, rest (names ++ r.id ∷ []) (all_new_more names r.id ids apart.0 new.1) apart.1)
input_good drives names ids number other inputs is new apart rest = (tt, rest names new apart)

with_good : (drives : ℕ → Option DriveKind) (names ids : List ℕ) (number : ℕ) (statement : Statement) (inputs : List Numbered) → IsStatement drives statement → AllNew names (with_id statement ids) → AreApart (with_id statement ids)
    → ((more : List ℕ) → AllNew more ids → AreApart ids → AreGoodInputs drives more inputs) → AreGoodInputs drives names (with_input number statement inputs)
with_good drives names ids number (Declares u kind) inputs is new apart rest = rest names new apart
with_good drives names ids number (Plays input) inputs is new apart rest = input_good drives names ids number input inputs is new apart rest

lines_good : (drives : ℕ → Option DriveKind) (count : ℕ) (lines : List Line) (names : List ℕ) → All (λ (line : Line). IsStatement drives line.statement) lines → AllNew names (ids_of lines) → AreApart (ids_of lines)
    → AreGoodInputs drives names (inputs_before (record { line = count; input = Drain } ∷ []) lines)
unfolding AreGoodInputs
lines_good drives count [] names is new apart = (tt, tt)
lines_good drives count (line ∷ lines) names is new apart =
    with_good drives names (ids_of lines) line.number line.statement (inputs_before (record { line = count; input = Drain } ∷ []) lines)
    (All-head (λ (l : Line). IsStatement drives l.statement) line lines is) new apart
    (λ more fresh other. lines_good drives count lines more (All-tail (λ (l : Line). IsStatement drives l.statement) line lines is) fresh other)

all_new : (ids : List ℕ) → AllNew [] ids
unfolding AllNew
all_new [] = tt
all_new (id ∷ ids) = (refl, all_new ids)

moment_good : (drives : ℕ → Option DriveKind) (names : List ℕ) (line : ℕ) (input : Input) → IsGoodInput drives names input → IsGoodMoment drives names (Played line input) × (names_after names (Played line input) ≡ names_in names input)
moment_good drives names line (Submit r) g = (g, refl)
moment_good drives names line input g = (tt, refl)

moments_good : (drives : ℕ → Option DriveKind) (names : List ℕ) (ms : List Moment) → AreGoodInputs drives names (played ms) → AreGood drives names ms
unfolding AreGoodInputs
moments_good drives names [] g = tt
moments_good drives names (Played line input ∷ ms) g =
    let here = moment_good drives names line input g.0 in
    (here.0, subst (λ (l : List ℕ). AreGood drives l ms) (sym here.1) (moments_good drives (names_in names input) ms g.1))
moments_good drives names (Told line u id d ∷ ms) g = (tt, moments_good drives names ms g)
moments_good drives names (Idle line ∷ ms) g = (tt, moments_good drives names ms g)

pub run_good : (script : Script) (tables : ℕ → Option Table) (old new : ℕ → model.Pack) (ms : List Moment) → IsLegalRun script tables old new ms → AreGood (drives_of script) [] ms
run_good script tables old new ms run =
    moments_good (drives_of script) [] ms (subst (AreGoodInputs (drives_of script) []) (sym run.inputs)
    (lines_good (drives_of script) (script.count + 1) script.lines [] run.good.inputs (all_new (ids_of script.lines)) run.good.ids))

-- IN TWO PARTS
abbrev pub names_behind : List ℕ → List Moment → List ℕ
names_behind names [] = names
names_behind names (m ∷ ms) = names_behind (names_after names m) ms

pub good_parts : (drives : ℕ → Option DriveKind) (names : List ℕ) (ms ns : List Moment) → AreGood drives names (ms ++ ns) → AreGood drives names ms × AreGood drives (names_behind names ms) ns
good_parts drives names [] ns g = (tt, g)
good_parts drives names (m ∷ ms) ns g =
    let rest = good_parts drives (names_after names m) ms ns g.1 in ((g.0, rest.0), rest.1)

pub some_parts : (m : Moment) (ms : List Moment) → AskSome (m ∷ ms) → AsksSomeAt m × AskSome ms
some_parts (Played line input) ms some = some
some_parts other ms some = (tt, some)

-- BEHIND SOME MOMENTS
pub all_both : (drives : ℕ → Option DriveKind) (names : List ℕ) (s : Replay) (k : Known) (ms : List Moment) (lines : ℕ → List Deed) → AskSome ms → Follows s ms → AreGood drives names ms → AllFit s lines
    → Both drives names s k lines → Both drives (names_behind names ms) (after_moments s ms) (fold step k (map seen_of ms)) (λ x. lines_behind x (lines x) ms)
all_both drives names s k [] lines some follows good fit b = b
all_both drives names s k (m ∷ ms) lines some follows good fit b =
    let parts : AsksSomeAt m × AskSome ms = some_parts m ms some in
    all_both drives (names_after names m) (after_moment s m) (step k (seen_of m)) ms (λ x. lines_after x m (lines x)) parts.1 follows.1 good.1
    (moment_fits s lines m parts.0 follows.0 fit) (moment_both drives names s k lines m follows.0 fit good.0 b)

-- AT THE START
attached_kind : (kind : DriveKind) (u : ℕ) → (attached kind u).kind ≡ kind
attached_kind kind u = performed_kind function.Pack (performed function.Preset (new_drive kind u)) ∙ performed_kind function.Preset (new_drive kind u)

pub start_both : (drives : ℕ → Option DriveKind) (tables : ℕ → Option Table) (surface : Surface) (known : Known) → IsDeclared drives known → Both drives [] (new_replay drives tables surface) known (λ x. [])
start_both drives tables surface known is = record {
  ids = is.ids;
  tied = record {
    many = is.many;
    level = ap (λ (l : List ℕ). length l) is.ids ∙ sym (ap (λ (l : List Request). length l) is.requests);
    kinds = is.kinds;
    same = λ u kind e. ap (λ (o : Option DriveKind). (attached (unwrap_or o Rp06) u).kind) e ∙ attached_kind kind u;
    lent = is.lent;
    queues = λ u. (is.idle u, refl);
  };
  act = tt;
}
