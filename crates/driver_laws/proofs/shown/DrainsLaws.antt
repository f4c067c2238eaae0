-- A drain goes on with the machine's next event until no request is outstanding.
use Rattle.std.proofs.Common.{◌≡◌, ◌≢◌, ℕ, zero, suc, ◌==◌, ◌<◌, Bool, true, false, not, ◌&&◌, List, [], ◌∷◌, Option, Some, None, refl, sym, ap, subst, arith, ◌∙◌, rules}
use Rattle.std.specs.Prelude.{if◌then◌else◌, nat_lt, slice_index_or}
use Rattle.pack_geometry.specs.Pack.{Pack}
use Rattle.hardware_table.specs.Adapter.{next_block}
use Rattle.trace_replay.specs.Moments.{Played}
use Rattle.trace_replay.specs.Script as script
use Rattle.trace_replay.specs.Script.{Input}
use Rattle.trace_replay.specs.Events.{Trying, NothingToDo, NoLine, Event}
use Rattle.trace_replay.specs.Replay.{Replay, are_at_work, next_wish, drained, act_drained, after_moment, event_of, act_of}
use Rattle.driver_machine.specs.World.{World, Held, unit_of, adapter_at}
use Rattle.driver_machine.specs.Acts as deed
use Rattle.driver_machine.specs.Acts.{Tried, Nothing, scene_of}
use Rattle.driver_machine.specs.Events.{in_hand, or_nothing, can_move, attended, move_acts, event_acts, next_event}
use Rattle.driver_machine.specs.Sound.{Sound, AtWork}
use Rattle.driver_machine.specs.Runs.{Run, CanCome}
use Rattle.driver_laws.proofs.invariant.Next.{next_none}
use Rattle.driver_laws.specs.shown.Shows.{counted_by, outstanding_in}
use Rattle.driver_laws.specs.shown.Within.{Rests}
use Rattle.driver_laws.specs.shown.Calls.{IsSurfaceOf, Stands, IsOverWithin, Ends, IsLeft, AreThere}
use Rattle.driver_laws.proofs.shown.Telling.{IsTold}
use Rattle.driver_laws.proofs.shown.Named.{act_named, IsTriedOn}
use Rattle.driver_laws.proofs.shown.Starting.{other_act}
use Rattle.driver_laws.proofs.shown.Events.{attend_told, idle_told, not_drained, drained_there}
use Rattle.driver_laws.proofs.shown.Inputs.{arrive_told, played_rests, same_surface, found_by, nothing_by, run_where}
use Rattle.driver_laws.proofs.shown.Moves.{move_told}
use Rattle.driver_laws.proofs.shown.Lowest.{drain_is}
use Rattle.driver_laws.proofs.shown.QuietRests.{none_counted}
use Rattle.driver_laws.proofs.shown.Showing.{IsOnSurface}

-- HOW MANY are outstanding: none, just where each request has ended.
more_than : (b : Bool) (others : ℕ) → counted_by b others ≡ 0 → (b ≡ true) × (others ≡ 0)
more_than true others none = (refl, none)
more_than false others none = absurd (grind (arith, none))

all_ended : (slots : List (Option Held)) → outstanding_in slots ≡ 0 → (p : ℕ) (h : Held) → slice_index_or slots p None ≡ Some h → h.ended ≡ true
all_ended [] none p h is = absurd (grind (arith, is))
all_ended (None ∷ slots) none zero h is = absurd (grind (arith, is))
all_ended (None ∷ slots) none (suc p) h is = all_ended slots none p h is
all_ended (Some g ∷ slots) none zero h is = search rules
all_ended (Some g ∷ slots) none (suc p) h is = all_ended slots (more_than g.ended (outstanding_in slots) none).1 p h is

-- while a next event is there some are
some_outstanding : (w : World) (n : ℕ) (input : Input) → Sound w → AtWork w → next_event w ≡ Some input → n ≡ outstanding_in w.slots → n ≢ 0
some_outstanding w n input sound work is same none = search (rules, next_none, all_ended)

pub none_outstanding : (w : World) (n : ℕ) → Sound w → AtWork w → next_event w ≡ None → n ≡ outstanding_in w.slots → n ≡ 0
none_outstanding w n sound work idle same = same ∙ none_counted w.slots ((next_none w sound work).0 idle)

some_less : (n : ℕ) → n ≢ 0 → nat_lt 0 n ≡ true
some_less n some = search rules

-- A DRAIN GOES ON.
pub record GoesOn (line : ℕ) (input : Input) (held : ℕ → Pack) (w : World) (s : Replay) : Type 0 where
  pub rests : Rests line true (act_named s input) w s
  pub packs : IsSurfaceOf held s

next_of_drain : Replay → Replay
next_of_drain s = record s { event = record s.event { between = true; act = act_drained s } }

drained_is : (s : Replay) → s.event.drains ≡ true → next_wish s ≡ NoLine → nat_lt 0 s.outstanding ≡ true → drained s ≡ next_of_drain s
unfolding next_of_drain
drained_is s drains over some = search rules

same_named : (input : Input) (s : Replay) (e : Event) → act_named (record s { event = e }) input ≡ act_named s input
same_named input s e = search rules

next_rests : (line : ℕ) (input : Input) (held : ℕ → Pack) (w : World) (s : Replay) → IsOverWithin line true w s → IsSurfaceOf held s → AreThere w s
    → next_event w ≡ Some input → are_at_work (next_of_drain s) ≡ true → GoesOn line input held w (next_of_drain s)
unfolding next_of_drain
next_rests line input held w s over packs there is work = record {
  rests = record {
    sound = over.rests.sound;
    shows = record {
      units = over.rests.shows.units;
      adapters = over.rests.shows.adapters;
      ready = over.rests.shows.ready;
      noise = over.rests.shows.noise;
      frames = over.rests.shows.frames;
      outstanding = over.rests.shows.outstanding;
    };
    event = record {
      line_is = over.rests.event.line_is;
      drains_is = over.rests.event.drains_is;
      act_is = drain_is w s input over.rests.sound over.rests.shows there is
          ∙ sym (same_named input s (record s.event { between = true; act = act_drained s }));
      work = work;
    };
    quiet = over.rests.quiet;
  };
  packs = record { sectors = packs.sectors; marks = packs.marks };
}

pub drain_goes_on : (line : ℕ) (input : Input) (held : ℕ → Pack) (w : World) (s : Replay) → Ends line true held w s → AtWork w → AreThere w s
    → next_event w ≡ Some input → are_at_work s ≡ true → GoesOn line input held w s
drain_goes_on line input held w s ends work there is at_work =
    let some : nat_lt 0 ends.last.outstanding ≡ true =
    some_less ends.last.outstanding (some_outstanding w ends.last.outstanding input ends.over.rests.sound work is ends.over.rests.shows.outstanding) in
    let at : s ≡ next_of_drain ends.last =
    ends.is ∙ drained_is ends.last ends.over.rests.event.drains_is ends.over.over some in
    subst (GoesOn line input held w) (sym at)
    (next_rests line input held w ends.last ends.over ends.packs
    (sym (drained_there ends.last) ∙ ap (λ (r : Replay). r.there) (sym ends.is) ∙ there) is
    (subst (λ (r : Replay). are_at_work r ≡ true) at at_work))

-- it stands between two of its events then
pub drain_between : (line : ℕ) (input : Input) (held : ℕ → Pack) (w : World) (s : Replay) → Ends line true held w s → AtWork w
    → next_event w ≡ Some input → s.event.between ≡ true
unfolding next_of_drain
drain_between line input held w s ends work is =
    let some : nat_lt 0 ends.last.outstanding ≡ true =
    some_less ends.last.outstanding (some_outstanding w ends.last.outstanding input ends.over.rests.sound work is ends.over.rests.shows.outstanding) in
    ap (λ (r : Replay). r.event.between) (ends.is ∙ drained_is ends.last ends.over.rests.event.drains_is ends.over.over some)

-- A DRAIN BEGINS with one, or finds nothing.
none_zero : (n : ℕ) → n ≢ 0 → (n == 0) ≡ false
none_zero n some = search rules

pub drain_begins : (line : ℕ) (input : Input) (held : ℕ → Pack) (w : World) (s : Replay) → Stands held w s → AreThere w s → next_event w ≡ Some input
    → GoesOn line input held w (after_moment s (Played line script.Drain))
drain_begins line input held w s stands there is =
    let some : (s.outstanding == 0) ≡ false =
    none_zero s.outstanding (some_outstanding w s.outstanding input stands.sound stands.work is stands.shows.outstanding) in
    let act : act_of s script.Drain ≡ act_named s input =
    ap (λ (b : Bool). if b then NothingToDo else act_drained s) some ∙ drain_is w s input stands.sound stands.shows there is in
    record {
      rests = other_act line true (act ∙ sym (same_named input s (event_of s line script.Drain))) (played_rests (event_of s line script.Drain) held w s stands refl);
      packs = same_surface (event_of s line script.Drain) held s stands.packs;
    }

pub drain_idle : (line : ℕ) (held : ℕ → Pack) (w : World) (s : Replay) → Stands held w s → next_event w ≡ None
    → IsTold line true held w (after_moment s (Played line script.Drain)) (Nothing line ∷ [])
drain_idle line held w s stands idle =
    let none : s.outstanding ≡ 0 = none_outstanding w s.outstanding stands.sound stands.work idle stands.shows.outstanding in
    idle_told line true held w (after_moment s (Played line script.Drain))
    (other_act line true (ap (λ (n : ℕ). if n == 0 then NothingToDo else act_drained s) none)
    (played_rests (event_of s line script.Drain) held w s stands refl))
    (same_surface (event_of s line script.Drain) held s stands.packs) (ap (nat_lt 0) none)

-- ITS EVENT
pub event_goes : (line : ℕ) (drains : Bool) (input : Input) (tried : Tried) (held : ℕ → Pack) (w : World) (s : Replay) → CanCome w input
    → Rests line drains (act_named s input) w s → IsSurfaceOf held s → IsTriedOn w s input tried → Run w (event_acts line input tried w)
    → IsTold line drains held w s (event_acts line input tried w)
event_goes line drains (script.ArriveAt u) tried held w s can rests packs on run =
    let is : event_acts line (script.ArriveAt u) tried w ≡ in_hand line u deed.Arrive w =
    ap (λ (b : Bool). or_nothing b line (in_hand line u deed.Arrive) w) can.1 in
    subst (IsTold line drains held w s) (sym is) (arrive_told line u drains held w s can.0.unit rests packs can.1 (subst (Run w) is run))
event_goes line drains (script.MoveAt a) tried held w s can rests packs on run =
    let is : event_acts line (script.MoveAt a) tried w ≡ in_hand line (unit_of w a) (deed.Sector (next_block (adapter_at w a).state) tried) w =
    ap (λ (b : Bool). or_nothing b line (in_hand line (unit_of w a) (deed.Sector (next_block (adapter_at w a).state) tried)) w) can.1 in
    subst (IsTold line drains held w s) (sym is) (move_told line a drains tried held w s rests packs can.1 (on can.1) (subst (Run w) is run))
event_goes line drains (script.AttendTo a) tried held w s can rests packs on run =
    let is : event_acts line (script.AttendTo a) tried w ≡ attended line a w =
    ap (λ (b : Bool). or_nothing b line (attended line a) w) can.1 in
    subst (IsTold line drains held w s) (sym is) (attend_told line a drains held w s can.0 rests packs can.1 (subst (Run w) is run))
event_goes line drains (script.Submit r) tried held w s can rests packs on run = absurd can
event_goes line drains script.Drain tried held w s can rests packs on run = absurd can
event_goes line drains (script.Turn u sector) tried held w s can rests packs on run = absurd can
event_goes line drains (script.Noise noise) tried held w s can rests packs on run = absurd can
event_goes line drains (script.Arm u kind times) tried held w s can rests packs on run = absurd can
event_goes line drains (script.SetOnline u on) tried held w s can rests packs given run = absurd can
event_goes line drains (script.SetLocked u on) tried held w s can rests packs given run = absurd can

-- a move that is played
pub move_played : (line a : ℕ) (tried : Tried) (held : ℕ → Pack) (w : World) (s : Replay) → a < 4 → Stands held w s
    → (can_move (adapter_at w a) ≡ true → IsOnSurface s (unit_of w a) (deed.Sector (next_block (adapter_at w a).state) tried) (scene_of w (unit_of w a)))
    → Run w (move_acts line a tried w)
    → IsTold line false held w (after_moment s (Played line (script.MoveAt a))) (move_acts line a tried w)
move_played line a tried held w s four stands on run =
    let is : move_acts line a tried w
    ≡ (if can_move (adapter_at w a) then in_hand line (unit_of w a) (deed.Sector (next_block (adapter_at w a).state) tried) w else Nothing line ∷ []) =
    nothing_by (can_move (adapter_at w a)) line (in_hand line (unit_of w a) (deed.Sector (next_block (adapter_at w a).state) tried)) w in
    subst (IsTold line false held w (after_moment s (Played line (script.MoveAt a)))) (sym is)
    (found_by (can_move (adapter_at w a)) line (Trying a) (script.MoveAt a) held w s
    (in_hand line (unit_of w a) (deed.Sector (next_block (adapter_at w a).state) tried) w) stands refl
    (ap (λ (b : Bool). if b then Trying a else NothingToDo)
    (ap (λ (b : Bool). b && not (s.adapters a).state.completion) (stands.shows.adapters a four).busy
    ∙ ap (λ (c : Bool). (adapter_at w a).state.busy && not c) (stands.shows.adapters a four).completion))
    (λ can. λ rests. move_told line a false tried held w (after_moment s (Played line (script.MoveAt a))) rests
    (same_surface (event_of s line (script.MoveAt a)) held s stands.packs) can (on can)
    (run_where (can_move (adapter_at w a)) w (in_hand line (unit_of w a) (deed.Sector (next_block (adapter_at w a).state) tried) w) (Nothing line ∷ []) can
    (subst (Run w) is run))))

-- WHERE NOTHING IS LEFT the replay stands for the driver between two calls.
stands_at : (line : ℕ) (drains : Bool) (held : ℕ → Pack) (w : World) (s : Replay) → AtWork w → IsOverWithin line drains w s → IsSurfaceOf held s → Stands held w s
stands_at line drains held w s work over packs = search rules

left_by : (line : ℕ) (drains : Bool) (held : ℕ → Pack) (w : World) (s last : Replay) → AtWork w → s ≡ drained last → IsOverWithin line drains w last
    → IsSurfaceOf held last → last.event.drains && nat_lt 0 last.outstanding ≡ false → IsLeft line held w s
left_by line drains held w s last work is over packs finished =
    subst (IsLeft line held w) (sym (is ∙ not_drained last finished))
    (record { stands = stands_at line drains held w last work over packs; line_is = over.rests.event.line_is; finished = finished })

pub call_left : (line : ℕ) (held : ℕ → Pack) (w : World) (s : Replay) → AtWork w → Ends line false held w s → IsLeft line held w s
call_left line held w s work ends =
    left_by line false held w s ends.last work ends.is ends.over ends.packs
    (ap (λ (d : Bool). d && nat_lt 0 ends.last.outstanding) ends.over.rests.event.drains_is)

pub drain_left : (line : ℕ) (held : ℕ → Pack) (w : World) (s : Replay) → AtWork w → next_event w ≡ None → Ends line true held w s → IsLeft line held w s
drain_left line held w s work idle ends =
    let none : ends.last.outstanding ≡ 0 =
    none_outstanding w ends.last.outstanding ends.over.rests.sound work idle ends.over.rests.shows.outstanding in
    left_by line true held w s ends.last work ends.is ends.over ends.packs
    (ap (λ (d : Bool). d && nat_lt 0 ends.last.outstanding) ends.over.rests.event.drains_is ∙ ap (nat_lt 0) none)
