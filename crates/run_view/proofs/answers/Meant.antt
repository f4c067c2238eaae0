-- Line by line a script is read as it is meant.
use Rattle.std.proofs.Common.{◌≡◌, ℕ, ◌+◌, ◌==◌, Bool, true, false, cond, List, [], ◌∷◌, ◌++◌, map, fold, None, refl, ap, ◌∙◌}
use Rattle.std.specs.Prelude.{Box}
use Rattle.std.specs.Box.{box_value}
use Rattle.std.specs.List.{flat_map}
use Rattle.std.specs.declared.alloc.Global.{Global}
use Rattle.std.proofs.lemmas.List.{append_assoc}
use Rattle.drive_pictures.specs.declared.moments.Moment.{Moment as Seen}
use Rattle.run_view.proofs.answers.Hears.{seen_of, known_of}
use Rattle.run_view.specs.Plays.{plays_of, play_of, names_of, played_as, line_played, last_drain, drain_text, text_at}
use Rattle.run_view.specs.Saids.{Said}
use Rattle.run_picture.specs.declared.columns.Window.{Window}
use Rattle.run_view.specs.Views.{known_before}
use Rattle.script_reader.specs.Meaning.{meaning_of, statement_of, line_of}
use Rattle.script_reader.specs.Stored.{Stored, Kept, digits_at, seen as stands_for}
use Rattle.trace_replay.specs.Moments.{Played}
use Rattle.trace_replay.specs.Script.{Numbered, inputs_of, Drain, with_input, inputs_before}
use Rattle.drive_pictures.specs.declared.moments.Moment.TheVariants as seen
use Rattle.drive_pictures.specs.declared.moments.Play.TheVariants as play
use Rattle.drive_pictures.specs.declared.drives.Change.TheVariants as change
use Rattle.run_view.proofs.answers.Hears as hears
use Rattle.run_picture.specs.Fold.{Known, new_known}
use Rattle.run_view.specs.Views as views
use Rattle.script_lines.specs.declared.statement.Span.{Span}
use Rattle.script_lines.specs.declared.statement.Statement.{Statement}
use Rattle.script_lines.specs.declared.statement.Statement.TheVariants as says
use Rattle.script_lines.specs.Renamed.{renamed}

-- an input, as it is seen where it is played; and what is seen of a line
abbrev pub seen_input : Numbered → Seen
seen_input input = seen_of (Played input.line input.input)

abbrev pub moment_of : Said → Seen
moment_of said = said.moment

-- THE SAME: the drives before the run, and the inputs one after another, where the script has a line. Of one that has none a
-- picture plays nothing, and its meaning has the last drain alone.
pub record IsReadAsMeant (script : Stored) (window : Window) : Type 0 where
  pub before : known_before script window ≡ known_of (meaning_of script) window
  pub plays : (script.count == 0) ≡ false → map moment_of (plays_of script) ≡ map seen_input (inputs_of (meaning_of script))

abbrev Stated : Type 0
Stated = Statement Span (Box (List ℕ) Global)

-- THE DRIVES
one_before : (text : List ℕ) (st : Stated) (k : Known) → views.declares st k ≡ hears.declares (statement_of (renamed (digits_at text) box_value st)) k
one_before text (says.Unit u kind) k = refl
one_before text st k = refl

all_before : (text : List ℕ) (lines : List Kept) (k : Known) → fold views.declared_line k lines ≡ fold hears.declared_by k (map line_of (map (stands_for text) lines))
all_before text [] k = refl
all_before text (line ∷ lines) k =
    ap (λ (z : Known). fold views.declared_line z lines) (one_before text line.statement k)
    ∙ all_before text lines (hears.declares (statement_of (renamed (digits_at text) box_value line.statement)) k)

-- THE INPUTS
one_played : (text t : List ℕ) (n : ℕ) (st : Stated) (plays : List Said) (inputs : List Numbered) → map moment_of plays ≡ map seen_input inputs
    → map moment_of (played_as (play_of st) (names_of st) n t ++ plays) ≡ map seen_input (with_input n (statement_of (renamed (digits_at text) box_value st)) inputs)
one_played text t n (says.Unit u kind) plays inputs e = e
one_played text t n (says.Read r) plays inputs e = ap (λ l. seen.Played n (play.Ask r false) ∷ l) e
one_played text t n (says.Write r content) plays inputs e = ap (λ l. seen.Played n (play.Ask r true) ∷ l) e
one_played text t n (says.Turn u sector) plays inputs e = ap (λ l. seen.Played n (play.Change u change.Turn) ∷ l) e
one_played text t n (says.Noise u block span p) plays inputs e = ap (λ l. seen.Played n (play.Change u change.Noise) ∷ l) e
one_played text t n (says.Fault u what times) plays inputs e = ap (λ l. seen.Played n (play.Change u change.Fault) ∷ l) e
one_played text t n (says.Offline u) plays inputs e = ap (λ l. seen.Played n (play.Change u change.Offline) ∷ l) e
one_played text t n (says.Online u) plays inputs e = ap (λ l. seen.Played n (play.Change u change.Online) ∷ l) e
one_played text t n (says.Lock u) plays inputs e = ap (λ l. seen.Played n (play.Change u change.Lock) ∷ l) e
one_played text t n (says.Unlock u) plays inputs e = ap (λ l. seen.Played n (play.Change u change.Unlock) ∷ l) e
one_played text t n st plays inputs e = ap (λ l. seen.Played n play.Other ∷ l) e

all_played : (text : List ℕ) (lines : List Kept) (last : List Said) (inputs : List Numbered) → map moment_of last ≡ map seen_input inputs
    → map moment_of (flat_map (line_played text) lines ++ last) ≡ map seen_input (inputs_before inputs (map line_of (map (stands_for text) lines)))
all_played text [] last inputs e = e
all_played text (line ∷ lines) last inputs e =
    ap (map moment_of) (append_assoc (line_played text line) (flat_map (line_played text) lines) last)
    ∙ one_played text (text_at text line.number) line.number line.statement (flat_map (line_played text) lines ++ last) (inputs_before inputs (map line_of (map (stands_for text) lines)))
    (all_played text lines last inputs e)

last_played : (count : ℕ) (b : Bool) → (count == 0) ≡ b → b ≡ false → map moment_of (last_drain count) ≡ map seen_input (record { line = count + 1; input = Drain } ∷ [])
last_played count b e is = ap (λ (x : Bool). map moment_of (cond x [] (record { moment = seen.Played (count + 1) play.Other; names = None; text = drain_text } ∷ []))) (e ∙ is)

pub meant : (script : Stored) (window : Window) → IsReadAsMeant script window
meant script window = record {
  before = all_before script.text script.lines (new_known window);
  plays = λ some. all_played script.text script.lines (last_drain script.count) (record { line = script.count + 1; input = Drain } ∷ []) (last_played script.count (script.count == 0) refl some);
}
