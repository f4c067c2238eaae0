-- Each line of the script that is played, and the lines of its event.
use Rattle.std.proofs.Common.{◌≡◌, inl, ℕ, ◌<◌, Bool, true, false, ◌&&◌, List, [], ◌∷◌, length, refl, sym, ap, subst, ◌∙◌, rules}
use Rattle.std.specs.Prelude.{if◌then◌else◌, nat_lt}
use Rattle.pack_geometry.specs.Pack.{Pack}
use Rattle.hardware_table.specs.Drive.{is_positioning}
use Rattle.trace_replay.specs.Moments as moment
use Rattle.trace_replay.specs.Moments.{Played}
use Rattle.trace_replay.specs.Script as script
use Rattle.trace_replay.specs.Script.{Input}
use Rattle.trace_replay.specs.Events.{is_no_line, Act, Done, Arriving, NothingToDo, Event}
use Rattle.trace_replay.specs.Events as event
use Rattle.trace_replay.specs.Replay.{Replay, after_moment, act_of, event_of, is_drain}
use Rattle.driver_machine.specs.declared.Phase.{Phase}
use Rattle.driver_machine.specs.World.{World, UnitView, AdapterView, Held, adapter_of, unit_at, adapter_at, held_in, slot_in_hand}
use Rattle.driver_machine.specs.Acts as deed
use Rattle.driver_machine.specs.Acts.{Nothing, effect, scene_of, after}
use Rattle.driver_machine.proofs.Measure.{is_resting}
use Rattle.driver_machine.specs.Events.{in_hand, can_arrive, can_attend, or_nothing, attended, arrive_acts, attend_acts}
use Rattle.driver_machine.specs.Guards.{IsSetUp}
use Rattle.driver_machine.specs.Sound.{IsPhase, is_waiting}
use Rattle.driver_machine.proofs.DueFacts.{false_true}
use Rattle.driver_machine.proofs.Until.{own_unit, resting}
use Rattle.driver_machine.specs.Runs.{Run}
use Rattle.driver_laws.proofs.invariant.Deeds.{deed_at}
use Rattle.driver_laws.proofs.invariant.Due.{in_hand_one}
use Rattle.driver_laws.specs.shown.Within.{Rests}
use Rattle.driver_laws.proofs.shown.Telling.{Speaks, IsTold}
use Rattle.driver_laws.specs.shown.Calls.{IsSurfaceOf, Stands, IsOverWithin}
use Rattle.driver_laws.proofs.shown.Joined.{tells_too}
use Rattle.driver_laws.proofs.shown.Due.{IsQuiet, rest_quiet}
use Rattle.driver_laws.proofs.shown.Speaking.{tells_line}
use Rattle.driver_laws.proofs.shown.Resting.{Rested, shows_one, speaks_rest}
use Rattle.driver_laws.proofs.shown.Starting.{wish_resting, set_up}
use Rattle.driver_laws.proofs.shown.Events.{is_told, attend_told, idle_told, can_attend_is}

-- A DRIVE POSITIONS only in a step that is under way.
pub going_phase : (u : ℕ) (phase : Phase) (v : UnitView) (a : AdapterView) (h : Held) → IsPhase u v a h phase → is_positioning v.drive.work ≡ true
    → (is_waiting phase ≡ false) × (is_resting phase ≡ true)
going_phase u phase v a h is moves = search rules

-- a deed behind which its unit rests and nothing is still to come
pub rest_over : (line : ℕ) (drains : Bool) (others : ℕ → UnitView) (raised u : ℕ) {w : World} {s : Replay}
    → Speaks line drains Done others raised u w s → is_resting (unit_at w u).phase ≡ true → IsOverWithin line drains w s
rest_over line drains others raised u {w} {s} speaks rests =
    let at : Rested line drains Done others raised u w s = speaks_rest line drains Done others raised u w s speaks (resting w line u rests) in
    record { act = Done; rests = at.rests; over = wish_resting line drains Done w s at.rests }

-- ARRIVE
pub arrive_told : (line u : ℕ) (drains : Bool) (held : ℕ → Pack) (w : World) (s : Replay) → u < 32
    → Rests line drains (Arriving u) w s → IsSurfaceOf held s → can_arrive (unit_at w u) ≡ true → Run w (in_hand line u deed.Arrive w)
    → IsTold line drains held w s (in_hand line u deed.Arrive w)
arrive_told line u drains held w s lt rests packs can run =
    by_phase (going_phase u (unit_at w u).phase (unit_at w u) (adapter_at w (adapter_of u)) (held_in w (slot_in_hand (unit_at w u)))
    (rests.sound.each_unit u lt).phase can)
  where
    by_phase : (is_waiting (unit_at w u).phase ≡ false) × (is_resting (unit_at w u).phase ≡ true)
        → IsTold line drains held w s (in_hand line u deed.Arrive w)
    by_phase at =
        let some : 0 < length (unit_at w u).queue = (rests.sound.each_unit u lt).head at.0 in
        let unit : IsSetUp w u = set_up w u rests.sound lt some in
        let quiet : IsQuiet (unit_at w u).phase (s.units u).stage =
        rest_quiet (unit_at w u).phase (held_in w) (unit_at w u) (adapter_at w (adapter_of u)).state (s.units u) (rests.shows.units u unit) refl (inl at.1) in
        let one : in_hand line u deed.Arrive w ≡ deed_at line u deed.Arrive w ∷ [] = in_hand_one line u deed.Arrive w some in
        let runs : Run w (deed_at line u deed.Arrive w ∷ []) = subst (Run w) one run in
        let phase : (unit_at (after w (deed_at line u deed.Arrive w)) u).phase ≡ (unit_at w u).phase =
        ap (λ (v : UnitView). v.phase) (own_unit w u (slot_in_hand (unit_at w u)) (effect line u (slot_in_hand (unit_at w u)) deed.Arrive (scene_of w u))
        (subst (λ (k : ℕ). u < k) (sym rests.sound.units) lt)) in
        subst (IsTold line drains held w s) (sym one)
        (is_told line drains held w s (deed_at line u deed.Arrive w ∷ []) packs
        (ap is_no_line (wish_resting line drains (Arriving u) w s rests))
        (tells_too (Speaks line drains Done (unit_at w) (adapter_at (after w (deed_at line u deed.Arrive w)) (adapter_of u)).state.attentions u)
        (IsOverWithin line drains) w s (deed_at line u deed.Arrive w ∷ [])
        (tells_line line u (held_in w (slot_in_hand (unit_at w u))).id drains (Arriving u) w s deed.Arrive moment.Arrive (unit_at w)
        (adapter_at (after w (deed_at line u deed.Arrive w)) (adapter_of u)).state.attentions (λ x. λ other. refl) refl tt
        (record {
          sound = rests.sound;
          unit = unit;
          shows = shows_one u w s lt rests.shows quiet.coming;
          event = rests.event;
          wished = wish_resting line drains (Arriving u) w s rests;
          quiet = λ x. λ other. rests.quiet x;
          allowed = runs.0;
          tells = refl;
          surface = tt;
        }))
        (λ x. rest_over line drains (unit_at w) (adapter_at (after w (deed_at line u deed.Arrive w)) (adapter_of u)).state.attentions u x
        (ap is_resting phase ∙ at.1))))

-- A LINE IS PLAYED that leaves the replay as it is, its event apart.
pub played_rests : (e : Event) (held : ℕ → Pack) (w : World) (s : Replay) → Stands held w s → e.between ≡ false
    → Rests e.line e.drains e.act w (record s { event = e })
played_rests e held w s stands begun = search rules

pub same_surface : (e : Event) (held : ℕ → Pack) (s : Replay) → IsSurfaceOf held s → IsSurfaceOf held (record s { event = e })
same_surface e held s packs = record { sectors = packs.sectors; marks = packs.marks }

-- by whether the event finds something, in the replay and in the machine alike
pub found_by : (can : Bool) (line : ℕ) (act : Act) (input : Input) (held : ℕ → Pack) (w : World) (s : Replay) (acts : List deed.Act) → Stands held w s
    → is_drain input ≡ false
    → act_of s input ≡ (if can then act else NothingToDo)
    → (can ≡ true → Rests line false act w (record s { event = event_of s line input }) → IsTold line false held w (record s { event = event_of s line input }) acts)
    → IsTold line false held w (record s { event = event_of s line input }) (if can then acts else Nothing line ∷ [])
found_by true line act input held w s acts stands plain is told =
    told refl (subst (λ (d : Bool). Rests line d act w (record s { event = event_of s line input })) plain
    (subst (λ (x : Act). Rests line (is_drain input) x w (record s { event = event_of s line input })) is
    (played_rests (event_of s line input) held w s stands refl)))
found_by false line act input held w s acts stands plain is told =
    idle_told line false held w (record s { event = event_of s line input })
    (subst (λ (d : Bool). Rests line d NothingToDo w (record s { event = event_of s line input })) plain
    (subst (λ (x : Act). Rests line (is_drain input) x w (record s { event = event_of s line input })) is
    (played_rests (event_of s line input) held w s stands refl)))
    (same_surface (event_of s line input) held s stands.packs) (ap (λ (d : Bool). d && nat_lt 0 s.outstanding) plain)

pub nothing_by : (can : Bool) (line : ℕ) (part : World → List deed.Act) (w : World) → or_nothing can line part w ≡ (if can then part w else Nothing line ∷ [])
nothing_by true line part w = refl
nothing_by false line part w = refl

pub run_where : (can : Bool) (w : World) (acts idle : List deed.Act) → can ≡ true → Run w (if can then acts else idle) → Run w acts
run_where true w acts idle is run = run
run_where false w acts idle is run = absurd (false_true is)

pub arrive_played : (line u : ℕ) (held : ℕ → Pack) (w : World) (s : Replay) → IsSetUp w u → Stands held w s → Run w (arrive_acts line u w)
    → IsTold line false held w (after_moment s (Played line (script.ArriveAt u))) (arrive_acts line u w)
arrive_played line u held w s unit stands run =
    let is : arrive_acts line u w ≡ (if can_arrive (unit_at w u) then in_hand line u deed.Arrive w else Nothing line ∷ []) =
    nothing_by (can_arrive (unit_at w u)) line (in_hand line u deed.Arrive) w in
    subst (IsTold line false held w (after_moment s (Played line (script.ArriveAt u)))) (sym is)
    (found_by (can_arrive (unit_at w u)) line (Arriving u) (script.ArriveAt u) held w s (in_hand line u deed.Arrive w) stands refl
    (ap (λ (d : Rattle.hardware_table.specs.Drive.DriveState). if is_positioning d.work then Arriving u else NothingToDo) (stands.shows.units u unit).drive)
    (λ can. λ rests. arrive_told line u false held w (after_moment s (Played line (script.ArriveAt u))) unit.unit rests
    (same_surface (event_of s line (script.ArriveAt u)) held s stands.packs) can
    (run_where (can_arrive (unit_at w u)) w (in_hand line u deed.Arrive w) (Nothing line ∷ []) can (subst (Run w) is run))))

pub attend_played : (line a : ℕ) (held : ℕ → Pack) (w : World) (s : Replay) → a < 4 → Stands held w s → Run w (attend_acts line a w)
    → IsTold line false held w (after_moment s (Played line (script.AttendTo a))) (attend_acts line a w)
attend_played line a held w s four stands run =
    let is : attend_acts line a w ≡ (if can_attend (adapter_at w a) then attended line a w else Nothing line ∷ []) =
    nothing_by (can_attend (adapter_at w a)) line (attended line a) w in
    subst (IsTold line false held w (after_moment s (Played line (script.AttendTo a)))) (sym is)
    (found_by (can_attend (adapter_at w a)) line (event.serving a (s.adapters a).state) (script.AttendTo a) held w s (attended line a w) stands refl
    (ap (λ (b : Bool). if b then event.serving a (s.adapters a).state else NothingToDo) (can_attend_is w s a stands.sound stands.shows four))
    (λ can. λ rests. attend_told line a false held w (after_moment s (Played line (script.AttendTo a))) four rests
    (same_surface (event_of s line (script.AttendTo a)) held s stands.packs) can
    (run_where (can_attend (adapter_at w a)) w (attended line a w) (Nothing line ∷ []) can (subst (Run w) is run))))
