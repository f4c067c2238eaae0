-- A script from its first line to its end.
use Rattle.std.proofs.Common.{◌≡◌, inl, inr, ℕ, zero, suc, ◌+◌, ◌^◌, ◌<◌, ◌≤◌, true, List, [], ◌∷◌, ◌++◌, length, map, take, drop, get_or, Option, None, refl, sym, ap, subst, arith, ◌∙◌, add-one, drop-cons}
use Rattle.std.specs.Prelude.{Ok, is_some, min, unwrap_or}
use Rattle.std.proofs.lemmas.List.{take_more, take_all, drop_all, take-append-drop, length-map, length-replicate, get_or-map, get_or_past}
use Rattle.std.proofs.lemmas.Bool.{cases_lt, false≢true}
use Rattle.pack_geometry.specs.declared.DriveKind.{DriveKind}
use Rattle.pack_geometry.specs.Pack.{Pack}
use Rattle.pack_geometry.specs.TableSpelling.{Table}
use Rattle.pack_geometry.specs.PackTable.{AreTablesOf}
use Rattle.script_lines.specs.declared.statement.Statement.TheVariants as stated
use Rattle.script_reader.specs.Formed.{IsInRange, AreWell, learned}
use Rattle.script_lines.specs.Known.{Known, Said, Numbered, known_of}
use Rattle.script_reader.specs.Stored.{Stored, Kept, seen, lines_in}
use Rattle.script_reader.specs.Meaning.{line_of, meaning_of}
use Rattle.trace_replay.specs.Moments.{Moment}
use Rattle.trace_replay.specs.Script as says
use Rattle.trace_replay.specs.Script.{Script, Statement, Declares, Plays, Line, IsScript, IsStatement, AreNumbered, drives_of, inputs_before}
use Rattle.trace_replay.specs.Runs.{ArePlayed}
use Rattle.pack_geometry.specs.declared.DriveKind.TheVariants.{Rp06}
use Rattle.driver_machine.specs.World.{World, UnitView, Setup, no_unit, new_world, unit_at}
use Rattle.driver_machine.specs.Events.{next_event}
use Rattle.driver_machine.specs.Guards.{IsSetUp}
use Rattle.driver_machine.specs.Sound.{Sound}
use Rattle.driver_laws.proofs.invariant.Starts.{sound_new}
use Rattle.script_runs.proofs.StopsPasses.{starts, starts_kept, runs_are_legal, starts_within_reach}
use Rattle.script_runs.specs.StopsPasses.{AskBelow}
use Rattle.driver_laws.proofs.answers.Starts.{starts_with_none, starts_with_room}
use Rattle.driver_laws.proofs.answers.Ids.{starts_of_none}
use Rattle.trace_lines.specs.answers.Counting.{CountsAll, tally_by}
use Rattle.trace_lines.proofs.answers.CountLaws.{counts_none, counts_more}
use Rattle.hp_driver.specs.Subsystem.{State}
use Rattle.script_runs.specs.Steps.{AreUnits, tables_in, AreSetFor}
use Rattle.event_player.specs.Plays.{Plays as IsPlayed, Tallied}
use Rattle.event_player.specs.Playing.{HasRun, counted, one_request, one_noise}
use Rattle.outside_traits.specs.declared.traits.SinkFailed.{SinkFailed}
use Rattle.event_player.specs.Spots.{Sends, Spot, all_for}
use Rattle.event_player.specs.Steps.{IsAhead, GoesOn, PlaysLine, PlaysDrain, Drains, EndsWith, PlaysScript, Ready, Brings, MayPlay, HasData}
use Rattle.event_player.proofs.Going.{line_for}
use Rattle.script_runs.proofs.LineLaws.{inputs_append}
use Rattle.event_player.proofs.Ahead.{starts_ahead}
use Rattle.event_player.proofs.Saying.{sent_lines, sent_out}
use Rattle.event_player.proofs.Wholes.{whole_run}
use Rattle.event_player.proofs.Rooms.{ReadyBehind, ready_next, may_play}

-- SO FAR the first lines are played.
pub record PlayedTo (s : Script) (tables : ℕ → Option Table) (old now : Spot) (i : ℕ) : Type 0 where
  pub last : ℕ
  pub ahead : AreNumbered last s.count (drop i s.lines)
  pub moments : List Moment
  pub run : HasRun s tables old.packs.held now.packs.held last (take i s.lines) now.driver.world moments
  pub rule : IsAhead s tables old.packs.held moments (all_for old.out) (all_for old.lines) now
  pub tally : CountsAll moments old.tally now.tally

abbrev pub PlaysTo : Script → Spot → Spot → ℕ → Type 0
PlaysTo s old now i = (tables : ℕ → Option Table) → HasRun s tables old.packs.held old.packs.held 0 [] old.driver.world [] → PlayedTo s tables old now i

pub plays_none_yet : (s : Script) (old : Spot) → IsScript s → old.out.took ≡ all_for old.out → old.lines.took ≡ all_for old.lines → PlaysTo s old old 0
plays_none_yet s old is out trace tables run = record {
  last = 0;
  ahead = is.numbers;
  moments = [];
  run = run;
  rule = starts_ahead s tables old.packs.held old (whole_run s tables old.packs.held old.packs.held 0 [] old.driver.world [] run).behind out trace;
  tally = counts_none old.tally old.tally refl;
}

earlier : (last number count : ℕ) (lines : List Line) → last < number → AreNumbered number count lines → AreNumbered last count lines
earlier last number count [] less are = omega (arith, less, are)
earlier last number count (line ∷ lines) less are = (below last number line.number less are.0, are.1)
  where
    below : (a b c : ℕ) → a < b → b < c → a < c
    below a b c less also = omega (arith, less, also)

-- one more line
declared_run : (s : Script) (tables : ℕ → Option Table) (first held : ℕ → Pack) (last : ℕ) (done : List Line) (w : World) (moments : List Moment) (line : Line) (u : ℕ) (kind : DriveKind)
    → line.statement ≡ Declares u kind → HasRun s tables first held last done w moments → HasRun s tables first held last (done ++ line ∷ []) w moments
declared_run s tables first held last done w moments line u kind at run = record {
  so_far = run.so_far;
  kept = run.kept;
  inputs = run.inputs ∙ sym (inputs_append [] done (line ∷ []) ∙ ap (λ (st : Statement). inputs_before (says.with_input line.number st []) done) at);
  asked = run.asked;
  reach = run.reach;
  long = run.long;
}

module _ (s : Script) (tables : ℕ → Option Table) (i : ℕ) (line : Line) (old mid new : Spot) (here : drop i s.lines ≡ line ∷ drop (i + 1) s.lines)
    (more : take (i + 1) s.lines ≡ take i s.lines ++ line ∷ []) where
  line_next : (statement : Statement) → line.statement ≡ statement → PlaysLine line.number statement mid new → PlayedTo s tables old mid i → PlayedTo s tables old new (i + 1)
  line_next (Declares u kind) at plays so =
      let ahead : AreNumbered so.last s.count (line ∷ drop (i + 1) s.lines) = subst (AreNumbered so.last s.count) here so.ahead in
      subst (λ (now : Spot). PlayedTo s tables old now (i + 1)) (sym plays) (record {
        last = so.last;
        ahead = earlier so.last line.number s.count (drop (i + 1) s.lines) ahead.0 ahead.1;
        moments = so.moments;
        run = subst (λ (done : List Line). HasRun s tables old.packs.held mid.packs.held so.last done mid.driver.world so.moments) (sym more)
            (declared_run s tables old.packs.held mid.packs.held so.last (take i s.lines) mid.driver.world so.moments line u kind at so.run);
        rule = so.rule;
        tally = so.tally;
      })
  line_next (Plays input) at plays so =
      let ahead : AreNumbered so.last s.count (line ∷ drop (i + 1) s.lines) = subst (AreNumbered so.last s.count) here so.ahead in
      let goes : GoesOn s tables old.packs.held (take i s.lines) so.moments line.number input mid new =
      plays s tables old.packs.held so.last (take i s.lines) so.moments ahead.0 so.run in
      let is : line ≡ line_for line.number input = ap (λ (st : Statement). record { number = line.number; statement = st }) at in
      record {
        last = line.number;
        ahead = ahead.1;
        moments = so.moments ++ goes.more;
        run = subst (λ (done : List Line). HasRun s tables old.packs.held new.packs.held line.number done new.driver.world (so.moments ++ goes.more))
            (sym (more ∙ ap (λ (l : Line). take i s.lines ++ l ∷ []) is)) goes.run;
        rule = goes.rule (all_for old.out) (all_for old.lines) so.rule;
        tally = counts_more old.tally mid.tally new.tally so.moments goes.more so.tally goes.tally;
      }

pub plays_next : (s : Script) (i : ℕ) (line : Line) (old mid new : Spot) → drop i s.lines ≡ line ∷ drop (i + 1) s.lines → take (i + 1) s.lines ≡ take i s.lines ++ line ∷ []
    → PlaysLine line.number line.statement mid new → PlaysTo s old mid i → PlaysTo s old new (i + 1)
plays_next s i line old mid new here more plays before tables run = line_next s tables i line old mid new here more line.statement refl plays (before tables run)

-- the end: the drain behind the last line, and all that is kept is sent.
pub record EndsAt (s : Script) (tables : ℕ → Option Table) (old now : Spot) : Type 0 where
  pub moments : List Moment
  pub run : HasRun s tables old.packs.held now.packs.held (s.count + 1) (s.lines ++ line_for (s.count + 1) says.Drain ∷ []) now.driver.world moments
  pub over : next_event now.driver.world ≡ None
  pub rule : IsAhead s tables old.packs.held moments (all_for old.out) (all_for old.lines) now
  pub tally : CountsAll moments old.tally now.tally

pub ends_at : (s : Script) (i number : ℕ) (old mid new : Spot) → length s.lines ≤ i → number ≡ s.count + 1 → PlaysDrain number mid new → PlaysTo s old mid i
    → (tables : ℕ → Option Table) → HasRun s tables old.packs.held old.packs.held 0 [] old.driver.world [] → EndsAt s tables old new
ends_at s i number old mid new all is drains before tables run =
    let so : PlayedTo s tables old mid i = before tables run in
    let none : drop i s.lines ≡ [] = drop_all i s.lines all in
    let last : so.last ≤ s.count = subst (AreNumbered so.last s.count) none so.ahead in
    let ends : Drains s tables old.packs.held (take i s.lines) so.moments (s.count + 1) mid new =
    subst (λ (n : ℕ). PlaysDrain n mid new) is drains s tables old.packs.held so.last (take i s.lines) so.moments (behind so.last s.count last) so.run in
    record {
      moments = so.moments ++ ends.goes.more;
      run = subst (λ (done : List Line). HasRun s tables old.packs.held new.packs.held (s.count + 1) (done ++ line_for (s.count + 1) says.Drain ∷ []) new.driver.world (so.moments ++ ends.goes.more))
          (take_all i s.lines all) ends.goes.run;
      over = ends.over;
      rule = ends.goes.rule (all_for old.out) (all_for old.lines) so.rule;
      tally = counts_more old.tally mid.tally new.tally so.moments ends.goes.more so.tally ends.goes.tally;
    }
  where
    behind : (a b : ℕ) → a ≤ b → a < b + 1
    behind a b le = omega (arith, le)

pub plays_end : {x : Unit {0}} (s : Script) (i number : ℕ) (old mid drained new : Spot) → length s.lines ≤ i → number ≡ s.count + 1 → PlaysDrain number mid drained
    → Sends {E = SinkFailed} true (Ok x) drained new → PlaysTo s old mid i → (tables : ℕ → Option Table) → PlaysScript s tables old new
plays_end s i number old mid drained new all is drains sent before tables run =
    let ends : EndsAt s tables old drained = ends_at s i number old mid drained all is drains before tables run in
    record {
      moments = ends.moments;
      run = subst (λ (x : Spot). HasRun s tables old.packs.held x.packs.held (s.count + 1) (s.lines ++ line_for (s.count + 1) says.Drain ∷ []) x.driver.world ends.moments) (sym sent.same) ends.run;
      over = ap (λ (x : Spot). next_event x.driver.world) sent.same ∙ ends.over;
      out = λ t. sent_out sent refl t ∙ ends.rule.out (sent.says.again t);
      trace = λ t. sent_lines sent refl t ∙ ends.rule.trace (sent.says.again_lines t);
      tally = subst (λ (x : Spot). CountsAll ends.moments old.tally x.tally) (sym sent.same) ends.tally;
    }

-- WHAT A WRITE WRITES is there, where statements are well formed.
data_of : (known : Known) (st : Said) → IsInRange known st → HasData st
data_of known (stated.Write request content) range = range.1
data_of known other range = tt

well_data : (i : ℕ) (d : Said) (known : Known) (statements : List Said) → AreWell known statements → i < length statements → HasData (get_or statements i d)
well_data i d known [] well lt = absurd (omega (arith, lt))
well_data zero d known (st ∷ rest) well lt = data_of known st well.0.in_range
well_data (suc i) d known (st ∷ rest) well lt = well_data i d (learned known st) rest well.1 (omega (arith, lt))

-- THE LINES that a script means, one by one
module _ (stored : Stored) (i : ℕ) (item : Kept) (is : item ≡ get_or stored.lines i item) (lt : i < length stored.lines) where
  abbrev line : Line
  line = line_of (seen stored.text item)

  seen_at : get_or (map (seen stored.text) stored.lines) i (seen stored.text item) ≡ seen stored.text item
  seen_at = get_or-map (seen stored.text) stored.lines i item (seen stored.text item) lt ∙ ap (seen stored.text) (sym is)

  in_seen : i < length (map (seen stored.text) stored.lines)
  in_seen = subst (λ (n : ℕ). i < n) (sym (length-map stored.lines (seen stored.text))) lt

  in_lines : i < length (meaning_of stored).lines
  in_lines = subst (λ (n : ℕ). i < n) (sym (length-map (map (seen stored.text) stored.lines) line_of)) in_seen

  line_at : get_or (meaning_of stored).lines i line ≡ line
  line_at = get_or-map line_of (map (seen stored.text) stored.lines) i (seen stored.text item) line in_seen ∙ ap line_of seen_at

  cut_at : (xs : List Line) (d : Line) → i < length xs → drop i xs ≡ get_or xs i d ∷ drop (i + 1) xs
  cut_at xs d less = rw (add-one, drop-cons xs i d) refl

  pub here_is : drop i (meaning_of stored).lines ≡ line ∷ drop (i + 1) (meaning_of stored).lines
  here_is = cut_at (meaning_of stored).lines line in_lines ∙ ap (λ (l : Line). l ∷ drop (i + 1) (meaning_of stored).lines) line_at

  pub more_is : take (i + 1) (meaning_of stored).lines ≡ take i (meaning_of stored).lines ++ line ∷ []
  more_is = take_more (meaning_of stored).lines i line in_lines ∙ ap (λ (l : Line). take i (meaning_of stored).lines ++ l ∷ []) line_at

  pub next_may : (state : State) → IsScript (meaning_of stored) → stored.count < 2 ^ 32 → state.outstanding ≡ counted one_request (meaning_of stored).lines
      → ReadyBehind (meaning_of stored) (take i (meaning_of stored).lines) state.world → MayPlay state line.statement
  next_may state script small most ready =
      may_play (meaning_of stored) state (take i (meaning_of stored).lines) line (drop (i + 1) (meaning_of stored).lines)
      (sym (take-append-drop i (meaning_of stored).lines) ∙ ap (λ (xs : List Line). take i (meaning_of stored).lines ++ xs) here_is)
      script small most ready
      (subst (λ (l : Line). IsStatement (drives_of (meaning_of stored)) l.statement) line_at (script.inputs i line in_lines))

  pub next_ready : (old new : World) → Brings line.statement old new → ReadyBehind (meaning_of stored) (take i (meaning_of stored).lines) old
      → ReadyBehind (meaning_of stored) (take (i + 1) (meaning_of stored).lines) new
  next_ready old new brings ready =
      subst (λ (front : List Line). ReadyBehind (meaning_of stored) front new) (sym more_is)
      (ready_next (meaning_of stored) (take i (meaning_of stored).lines) line old new brings ready)

  pub next_plays : (old mid new : Spot) → PlaysLine item.number line.statement mid new → PlaysTo (meaning_of stored) old mid i → PlaysTo (meaning_of stored) old new (i + 1)
  next_plays old mid new plays before = plays_next (meaning_of stored) i line old mid new here_is more_is plays before

  pub next_data : AreWell (known_of {D = List ℕ} {N = List ℕ} []) (map (λ (l : Numbered). l.statement) (lines_in stored)) → HasData (seen stored.text item).statement
  next_data well =
      subst HasData said_at (well_data i (seen stored.text item).statement (known_of {D = List ℕ} {N = List ℕ} []) (map (λ (l : Numbered). l.statement) (lines_in stored)) well in_said)
    where
      in_said : i < length (map (λ (l : Numbered). l.statement) (lines_in stored))
      in_said = subst (λ (n : ℕ). i < n) (sym (length-map (lines_in stored) (λ (l : Numbered). l.statement))) in_seen

      said_at : get_or (map (λ (l : Numbered). l.statement) (lines_in stored)) i (seen stored.text item).statement ≡ (seen stored.text item).statement
      said_at = get_or-map (λ (l : Numbered). l.statement) (lines_in stored) i (seen stored.text item) (seen stored.text item).statement in_seen
          ∙ ap (λ (l : Numbered). l.statement) seen_at

-- AT THE END a run is a legal run of its script.
pub plays_whole : (s : Script) (tables : ℕ → Option Table) (old new : Spot) → IsScript s → AreTablesOf (drives_of s) old.packs.held tables → EndsWith s tables old new
    → IsPlayed s old.packs.held new.packs.held new.out.tells (all_for old.out) new.out.took new.lines.tells (all_for old.lines) new.lines.took
plays_whole s tables old new is read ends = record {
  tables = tables;
  moments = ends.moments;
  run = runs_are_legal s tables old.packs.held new.packs.held (s.count + 1) ends.moments new.driver.world is
      inputs read ends.run.so_far ends.run.kept ends.over;
  reach = λ top below tables_below. (ends.run.reach top (subst (AskBelow top (drives_of s)) (sym inputs) below) tables_below).packs;
  long = ends.run.long;
  out = ends.out;
  trace = ends.trace;
}
  where
    inputs : ArePlayed s ends.moments
    inputs = ends.run.inputs ∙ inputs_append [] s.lines (line_for (s.count + 1) says.Drain ∷ [])

-- and its tally is that of the run.
pub tally_whole : (s : Script) (tables : ℕ → Option Table) (old new : Spot) → IsScript s → AreTablesOf (drives_of s) old.packs.held tables
    → old.tally ≡ tally_by (counted one_request s.lines) [] [] → EndsWith s tables old new
    → Tallied s old.packs.held new.packs.held new.out.tells (all_for old.out) new.out.took new.lines.tells (all_for old.lines) new.lines.took new.tally
unfolding plays_whole
tally_whole s tables old new is read none_yet ends = record {
  plays = plays_whole s tables old new is read ends;
  is = ends.tally (counted one_request s.lines) [] [] none_yet;
}

-- AT THE START
pub starts_run : (s : Script) (setups : List Setup) (outstanding noises : ℕ) (held : ℕ → Pack) → AreSetFor s (tables_in setups) setups
    → HasRun s (tables_in setups) held held 0 [] (new_world setups outstanding noises) []
starts_run s setups outstanding noises held set = record {
  so_far = starts (drives_of s) (tables_in setups) held setups outstanding noises set.are (set.set outstanding noises) (set.declared outstanding noises);
  kept = starts_kept (drives_of s) (tables_in setups) held setups outstanding noises set.are (set.set outstanding noises) (set.declared outstanding noises);
  inputs = refl;
  asked = record { some = tt; units = tt };
  reach = λ ends below tables_below.
      starts_within_reach ends (drives_of s) (tables_in setups) held setups outstanding noises set.are (set.set outstanding noises) (set.declared outstanding noises) tables_below;
  long = λ unit. refl;
}

is_below : (w : World) (u : ℕ) → Sound w → (unit_at w u).declared ≡ true → u < 32
is_below w u sound on = elim (cases_lt u 32) [
  | inl less ↦ less
  | inr past ↦ absurd (false≢true (sym (ap (λ (v : UnitView). v.declared) (get_or_past w.units u no_unit (subst (λ (n : ℕ). n ≤ u) (sym sound.units) past))) ∙ on))
]

start_units : (s : Script) (setups : List Setup) (outstanding noises : ℕ) → AreSetFor s (tables_in setups) setups → AreUnits s (new_world setups outstanding noises)
start_units s setups outstanding noises set u kind is =
    let w : World = new_world setups outstanding noises in
    let on : (unit_at w u).declared ≡ true = sym (set.declared outstanding noises u) ∙ ap is_some is in
    let up : IsSetUp w u = record { unit = is_below w u (sound_new setups outstanding noises set.are) on; declared = on } in
    (up, ap (λ (v : UnitView). v.drive.kind) (set.set outstanding noises u up) ∙ ap (λ (o : Option DriveKind). unwrap_or o Rp06) is)

pub starts_ready : (s : Script) (setups : List Setup) (outstanding noises : ℕ) → AreSetFor s (tables_in setups) setups → noises ≡ counted one_noise s.lines
    → Ready s 0 0 0 [] (new_world setups (min outstanding 16384) noises)
starts_ready s setups outstanding noises set count = record {
  units = start_units s setups (min outstanding 16384) noises set;
  within = starts_with_none setups (min outstanding 16384) noises;
  ids = starts_of_none setups (min outstanding 16384) noises;
  room = starts_with_room setups (min outstanding 16384) noises ∙ count;
  slots = few (length (new_world setups (min outstanding 16384) noises).slots) outstanding (length-replicate (min outstanding 16384) None);
  none_waits = refl;
}
  where
    few : (n k : ℕ) → n ≡ min k 16384 → n ≤ 65536
    few n k is = omega (arith, is)
