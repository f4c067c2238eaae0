-- How long images get, call by call.
use Rattle.std.proofs.Common.{◌≡◌, ℕ, ◌+◌, ◌-◌, ◌==◌, ◌≤◌, ◌&&◌, nat_lt, Bool, true, false, not, List, [], ◌∷◌, ◌++◌, take, drop, length, refl, sym, ap, subst, arith, ◌∙◌, append-nil, rules}
use Rattle.std.specs.Prelude.{if◌then◌else◌}
use Rattle.std.proofs.lemmas.Bool.{false≢true}
use Rattle.std.proofs.lemmas.Bool.Decides.{eqb_tells}
use Rattle.std.proofs.lemmas.Grind.{common_steps}
use Rattle.std.proofs.lemmas.List.{length-replicate, length-append}
use Rattle.main_memory.specs.Bytes.{filled}
use Rattle.hardware_table.specs.Adapter.{next_block}
use Rattle.hardware_table.specs.Drive.{DriveState}
use Rattle.hardware_table.specs.Moves.{was_written}
use Rattle.pack_geometry.specs.Pack.{Pack, grown, with_window, with_block, with_written}
use Rattle.trace_replay.specs.Moments.{Moment, Deed, Sector, Played, Told, Idle}
use Rattle.trace_replay.specs.Script as script
use Rattle.trace_replay.specs.Script.{Input}
use Rattle.trace_replay.specs.Events.{Event, is_no_line}
use Rattle.trace_replay.specs.Replay.{Replay, after_moment, after_moments, drained, act_drained, next_wish}
use Rattle.driver_machine.specs.World.{World, unit_at, adapter_at, unit_of, held_in, slot_in_hand}
use Rattle.driver_machine.specs.Acts as deed
use Rattle.driver_machine.specs.Acts.{Act, Submit, Nothing, Tried, after}
use Rattle.driver_machine.specs.Lines.{lines_of, lines_of_all}
use Rattle.driver_machine.specs.Events.{submit_acts, event_acts, move_acts, in_hand, or_nothing, can_move}
use Rattle.driver_machine.specs.Sound.{Sound}
use Rattle.driver_machine.specs.Runs.{Run}
use Rattle.driver_laws.proofs.invariant.Deeds.{deed_at}
use Rattle.driver_laws.proofs.invariant.Due.{in_hand_one}
use Rattle.driver_laws.proofs.invariant.Calls.{IsServing, serving}
use Rattle.driver_laws.specs.answers.Packs.{packs_after, packs_after_all}
use Rattle.driver_laws.specs.shown.Within.{ShowsAll}
use Rattle.driver_laws.proofs.shown.Starting.{set_up}
use Rattle.driver_laws.proofs.shown.Acts.{is_inside}
use Rattle.driver_laws.proofs.shown.Sectors.{IsNoMove, event_quiet, submission_quiet}
use Rattle.driver_laws.specs.rules.Beginnings.{AreNoSectors}
use Rattle.driver_laws.specs.shown.Lengths.{reaching, length_told, length_behind, AreAsLong, EventsKeepLengths, FirstEventsKeepLengths, LaterEventsKeepLengths, EmptyDrainsKeepLengths, SubmissionsKeepLengths}

-- ONE BLOCK that is written
length_grown : (image : List ℕ) (n : ℕ) → length (grown image n) ≡ length image + (n - length image)
unfolding grown
length_grown image n = length-append image _ ∙ ap (λ (k : ℕ). length image + k) (length-replicate (n - length image) 0)

length_put : (at : ℕ) (bytes whole : List ℕ) → at + length bytes ≤ length whole → length (take at whole ++ bytes ++ drop (at + length bytes) whole) ≡ length whole
length_put at bytes whole inside = grind (arith, common_steps)

length_window : (at : ℕ) (bytes image : List ℕ) → length (with_window at bytes image) ≡ length image + (at + length bytes - length image)
unfolding with_window
length_window at bytes image = search (rules, length_put, length_grown)

reaches : (long end : ℕ) → long + (end - long) ≡ (if nat_lt long end then end else long)
reaches long end = search rules

pub length_block : (image bytes : List ℕ) (block : ℕ) → length bytes ≡ 512 → length (with_block image block bytes) ≡ reaching (length image) block
unfolding with_block
length_block image bytes block whole = search (rules, length_window, reaches)

-- MOMENTS one behind the other
pub long_append : (s : Replay) (ms ns : List Moment) (unit long : ℕ) → length_behind s (ms ++ ns) unit long ≡ length_behind (after_moments s ms) ns unit (length_behind s ms unit long)
long_append s [] ns unit long = refl
long_append s (m ∷ ms) ns unit long = long_append (after_moment s m) ms ns unit (length_told s m unit long)

-- without a sector
quiet_line : (s : Replay) (line u id : ℕ) (d : Deed) (unit long : ℕ) → AreNoSectors (Told line u id d ∷ []) → length_told s (Told line u id d) unit long ≡ long
quiet_line s line u id (Sector b v) unit long none = absurd none.0
quiet_line s line u id other unit long none = refl

pub quiet_long : (s : Replay) (ms : List Moment) (unit long : ℕ) → AreNoSectors ms → length_behind s ms unit long ≡ long
quiet_long s [] unit long none = refl
quiet_long s (Played line input ∷ ms) unit long none = quiet_long (after_moment s (Played line input)) ms unit long none.1
quiet_long s (Idle line ∷ ms) unit long none = quiet_long (after_moment s (Idle line)) ms unit long none.1
quiet_long s (Told line u id d ∷ ms) unit long none =
    ap (λ (n : ℕ). length_behind (after_moment s (Told line u id d)) ms unit n) (quiet_line s line u id d unit long (none.0, tt))
    ∙ quiet_long (after_moment s (Told line u id d)) ms unit long none.1

none_behind : (ms ns : List Moment) → AreNoSectors (ms ++ ns) → AreNoSectors ns
none_behind [] ns none = none
none_behind (m ∷ ms) ns none = none_behind ms ns none.1

quiet_act : (w : World) (act : Act) (rest : List Moment) (held : ℕ → Pack) → AreNoSectors (lines_of w act ++ rest) → packs_after w held act ≡ held
quiet_act w act rest held none = search rules

quiet_packs : (w : World) (acts : List Act) (held : ℕ → Pack) → AreNoSectors (lines_of_all w acts) → packs_after_all w held acts ≡ held
quiet_packs w [] held none = refl
quiet_packs w (act ∷ acts) held none =
    ap (λ (packs : ℕ → Pack). packs_after_all (after w act) packs acts) (quiet_act w act (lines_of_all (after w act) acts) held none)
    ∙ quiet_packs (after w act) acts held (none_behind (lines_of w act) (lines_of_all (after w act) acts) none)

-- ACTS LEAVE IMAGES as long as their lines tell.
abbrev pub ActsAreLong : Replay → World → (ℕ → Pack) → List Act → ℕ → Type 0
ActsAreLong s w held acts unit = length (packs_after_all w held acts unit).image ≡ length_behind s (lines_of_all w acts) unit (length (held unit).image)

quiet_acts : (s : Replay) (w : World) (held : ℕ → Pack) (acts : List Act) (unit : ℕ) → AreNoSectors (lines_of_all w acts) → ActsAreLong s w held acts unit
quiet_acts s w held acts unit none =
    ap (λ (packs : ℕ → Pack). length (packs unit).image) (quiet_packs w acts held none) ∙ sym (quiet_long s (lines_of_all w acts) unit (length (held unit).image) none)

-- one sector that is tried
written_long : (given : Bool) (held : ℕ → Pack) (u block unit : ℕ) (bytes : List ℕ) → (given ≡ true → length bytes ≡ 512)
    → length ((if given then with_written held u block bytes else held) unit).image ≡ (if (unit == u) && given then reaching (length (held unit).image) block else length (held unit).image)
written_long given held u block unit bytes whole = search (rules, eqb_tells, length_block)

sector_long : (s : Replay) (w : World) (held : ℕ → Pack) (line u block : ℕ) (t : Tried) (unit : ℕ) → Sound w → (s.units u).drive ≡ (unit_at w u).drive
    → Run w (deed_at line u (deed.Sector block t) w ∷ []) → ActsAreLong s w held (deed_at line u (deed.Sector block t) w ∷ []) unit
sector_long s w held line u block t unit sound same run =
    subst (λ (d : DriveState). length ((if was_written (unit_at w u).drive t.verdict then with_written held u block (filled 512 t.bytes) else held) unit).image
    ≡ (if (unit == u) && was_written d t.verdict then reaching (length (held unit).image) block else length (held unit).image)) (sym same)
    (written_long (was_written (unit_at w u).drive t.verdict) held u block unit (filled 512 t.bytes)
    (λ given. (is_inside w line u (held_in w (slot_in_hand (unit_at w u))).id block t sound run.0 given).long))

move_long : (s : Replay) (w : World) (held : ℕ → Pack) (line a : ℕ) (t : Tried) (unit : ℕ) → Sound w → ShowsAll w s → Run w (move_acts line a t w) → ActsAreLong s w held (move_acts line a t w) unit
move_long s w held line a t unit sound shows run = at (can_move (adapter_at w a)) refl run
  where
    d : deed.Deed
    d = deed.Sector (next_block (adapter_at w a).state) t

    busy_too : (b c : Bool) → b && not c ≡ true → b ≡ true
    busy_too true c e = refl
    busy_too false c e = absurd (false≢true e)

    served : can_move (adapter_at w a) ≡ true → IsServing w a
    served can = serving w a sound (busy_too (adapter_at w a).state.busy (adapter_at w a).state.completion can)

    one : (serves : IsServing w a) → Run w (in_hand line (unit_of w a) (deed.Sector (next_block (adapter_at w a).state) t) w)
        → ActsAreLong s w held (in_hand line (unit_of w a) (deed.Sector (next_block (adapter_at w a).state) t) w) unit
    one serves run =
        let same : in_hand line (unit_of w a) (deed.Sector (next_block (adapter_at w a).state) t) w ≡ deed_at line (unit_of w a) (deed.Sector (next_block (adapter_at w a).state) t) w ∷ [] =
        in_hand_one line (unit_of w a) (deed.Sector (next_block (adapter_at w a).state) t) w serves.some in
        subst (λ (acts : List Act). ActsAreLong s w held acts unit) (sym same)
        (sector_long s w held line (unit_of w a) (next_block (adapter_at w a).state) t unit sound
        (shows.units (unit_of w a) (set_up w (unit_of w a) sound serves.unit serves.some)).drive (subst (Run w) same run))

    at : (b : Bool) → can_move (adapter_at w a) ≡ b → Run w (or_nothing b line (in_hand line (unit_of w a) (deed.Sector (next_block (adapter_at w a).state) t)) w)
        → ActsAreLong s w held (or_nothing b line (in_hand line (unit_of w a) (deed.Sector (next_block (adapter_at w a).state) t)) w) unit
    at true can run = one (served can) run
    at false can run = refl

-- AN EVENT, seen behind the moments that begin it; where it is a move these leave the world shown.
still_acts : (s : Replay) (w : World) (held : ℕ → Pack) (line : ℕ) (input : Input) (t : Tried) (unit : ℕ) → IsNoMove input → ActsAreLong s w held (event_acts line input t w) unit
still_acts s w held line input t unit is =
    quiet_acts s w held (event_acts line input t w) unit (event_quiet line input t w (event_acts line input t w) [] is (sym (append-nil (event_acts line input t w))))

event_long : (s : Replay) (w : World) (held : ℕ → Pack) (line : ℕ) (input : Input) (t : Tried) (unit : ℕ) → Sound w → ((a : ℕ) → input ≡ script.MoveAt a → ShowsAll w s)
    → Run w (event_acts line input t w) → ActsAreLong s w held (event_acts line input t w) unit
event_long s w held line (script.MoveAt a) t unit sound shows run = move_long s w held line a t unit sound (shows a refl) run
event_long s w held line other t unit sound shows run = still_acts s w held line other t unit tt

-- another event is seen over the same world
pub same_shown : (w : World) (s : Replay) (e : Event) → ShowsAll w s → ShowsAll w (record s { event = e })
same_shown w s e is = search rules

-- BEHIND MOMENTS
behind_long : (start : Replay) (moments opening : List Moment) (old held : ℕ → Pack) (w : World) (acts : List Act)
    → AreNoSectors opening → ((unit : ℕ) → ActsAreLong (after_moments (after_moments start moments) opening) w held acts unit) → AreAsLong start moments old held
    → AreAsLong start (moments ++ (opening ++ lines_of_all w acts)) old (packs_after_all w held acts)
behind_long start moments opening old held w acts quiet long before unit = search (rules, quiet_long, long_append)

pub events_keep_lengths : EventsKeepLengths
events_keep_lengths start moments old held w next input tried sound shows run before =
    behind_long start moments (Played next input ∷ []) old held w (event_acts next input tried w) (tt, tt)
    (λ unit. event_long (after_moment (after_moments start moments) (Played next input)) w held next input tried unit sound (moved input) run) before
  where
    moved : (i : Input) (a : ℕ) → i ≡ script.MoveAt a → ShowsAll w (after_moment (after_moments start moments) (Played next i))
    moved i a is = subst (λ (x : Input). ShowsAll w (after_moment (after_moments start moments) (Played next x))) (sym is) (same_shown w (after_moments start moments) _ shows)

pub first_events_keep_lengths : FirstEventsKeepLengths
first_events_keep_lengths start moments old held w next input tried sound shows run before =
    behind_long start moments (Played next script.Drain ∷ []) old held w (event_acts next input tried w) (tt, tt)
    (λ unit. event_long (after_moment (after_moments start moments) (Played next script.Drain)) w held next input tried unit sound
    (λ a is. same_shown w (after_moments start moments) _ shows) run) before

pub later_events_keep_lengths : LaterEventsKeepLengths
later_events_keep_lengths start moments old held w line input tried sound shows run before =
    behind_long start moments [] old held w (event_acts line input tried w) tt
    (λ unit. event_long (after_moments start moments) w held line input tried unit sound (λ a is. shows) run) before

pub empty_drains_keep_lengths : EmptyDrainsKeepLengths
empty_drains_keep_lengths start moments old held w next before =
    behind_long start moments (Played next script.Drain ∷ []) old held w (Nothing next ∷ []) (tt, tt) (λ unit. refl) before

pub submissions_keep_lengths : SubmissionsKeepLengths
submissions_keep_lengths start moments old held w next p r h before =
    behind_long start moments (Played next (script.Submit r) ∷ []) old held w (submit_acts r next p h w) (tt, tt)
    (λ unit. quiet_acts (after_moment (after_moments start moments) (Played next (script.Submit r))) w held (submit_acts r next p h w) unit
    (submission_quiet r next p h w (submit_acts r next p h w) [] (sym (append-nil (submit_acts r next p h w))))) before

-- The next event of a drain is seen over the same world.
pub drained_shows : (w : World) (s : Replay) → ShowsAll w s → ShowsAll w (drained s)
drained_shows w s is = by_test (s.event.drains && (is_no_line (next_wish s) && nat_lt 0 s.outstanding)) (record s.event { between = true; act = act_drained s })
  where
    by_test : (b : Bool) (e : Event) → ShowsAll w (if b then record s { event = e } else s)
    by_test true e = same_shown w s e is
    by_test false e = is
