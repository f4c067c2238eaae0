-- An event of a drain tells something.
use Rattle.std.proofs.Common.{◌≡◌, ℕ, zero, suc, ◌==◌, ◌≤◌, Bool, true, false, ◌&&◌, [], refl, sym, ap, subst, arith, ◌∙◌, rules}
use Rattle.std.specs.Prelude.{if◌then◌else◌, nat_lt}
use Rattle.pack_geometry.specs.Pack.{Pack}
use Rattle.trace_replay.specs.Script as script
use Rattle.trace_replay.specs.Script.{Input}
use Rattle.trace_replay.specs.Adapters as told
use Rattle.trace_replay.specs.Events.{Act, NothingToDo, NoLine, is_no_line, wish_in}
use Rattle.trace_replay.specs.Replay.{Replay, next_wish, after_moments}
use Rattle.driver_machine.specs.World.{World}
use Rattle.driver_machine.specs.Acts.{Tried, after_all}
use Rattle.driver_machine.specs.Lines.{lines_of_all}
use Rattle.driver_machine.specs.Events.{event_acts}
use Rattle.driver_machine.proofs.DueFacts.{false_true}
use Rattle.driver_machine.specs.Runs.{Run, CanCome}
use Rattle.driver_laws.specs.answers.Packs.{packs_after_all}
use Rattle.driver_laws.specs.shown.Within.{Rests}
use Rattle.driver_laws.specs.shown.Calls.{IsSurfaceOf, Ends}
use Rattle.driver_laws.proofs.shown.Telling.{IsTold}
use Rattle.driver_laws.proofs.shown.Named.{act_named, IsTriedOn}
use Rattle.driver_laws.proofs.shown.Starting.{wish_resting}
use Rattle.driver_laws.proofs.shown.Events.{can_attend_is, not_drained, serving_line}
use Rattle.driver_laws.proofs.shown.Inputs.{same_surface}
use Rattle.driver_laws.proofs.shown.DrainsLaws.{event_goes}

-- A LINE COMES NEXT in an event that can come.
named_comes : (input : Input) (w : World) (s : Replay) (line : ℕ) (drains : Bool) → CanCome w input → Rests line drains (act_named s input) w s
    → is_no_line (wish_in s.adapters (act_named s input)) ≡ false
named_comes (script.ArriveAt u) w s line drains can rests = refl
named_comes (script.MoveAt a) w s line drains can rests = refl
named_comes (script.AttendTo a) w s line drains can rests =
    serving_line s a ((s.adapters a).state.busy && (s.adapters a).state.completion) (told.attentive (s.adapters a).state)
    (can_attend_is w s a rests.sound rests.shows can.0 ∙ can.1)
named_comes other w s line drains can rests = absurd can

line_comes : (input : Input) (w : World) (s : Replay) (line : ℕ) (drains : Bool) → CanCome w input → Rests line drains (act_named s input) w s
    → is_no_line (next_wish s) ≡ false
line_comes input w s line drains can rests =
    ap is_no_line (wish_resting line drains (act_named s input) w s rests) ∙ named_comes input w s line drains can rests

-- THE EVENT ALONE, as it would be outside a drain
alone : Replay → Replay
alone s = record s { event = record s.event { drains = false; between = false } }

alone_tried : (input : Input) (tried : Tried) (w : World) (s : Replay) → IsTriedOn w s input tried → IsTriedOn w (alone s) input tried
unfolding alone
alone_tried (script.MoveAt a) tried w s on = on
alone_tried other tried w s on = tt

alone_surface : (held : ℕ → Pack) (s : Replay) → IsSurfaceOf held s → IsSurfaceOf held (alone s)
unfolding alone
alone_surface held s packs = same_surface (record s.event { drains = false; between = false }) held s packs

alone_rests : (input : Input) (line : ℕ) (drains : Bool) (w : World) (s : Replay) → Rests line drains (act_named s input) w s
    → Rests line false (act_named (alone s) input) w (alone s)
unfolding alone
alone_rests input line drains w s rests = search rules

-- SOMETHING IS TOLD: else no line would come next, as the event is over behind its acts.
pub something_told : (line : ℕ) (drains : Bool) (input : Input) (tried : Tried) (held : ℕ → Pack) (w : World) (s : Replay) → CanCome w input
    → Rests line drains (act_named s input) w s → IsSurfaceOf held s → IsTriedOn w s input tried → Run w (event_acts line input tried w)
    → lines_of_all w (event_acts line input tried w) ≡ [] → ⊥
something_told line drains input tried held w s can rests packs on run none =
    let resting : Rests line false (act_named (alone s) input) w (alone s) = alone_rests input line drains w s rests in
    let told : IsTold line false held w (alone s) (event_acts line input tried w) =
    event_goes line false input tried held w (alone s) can resting (alone_surface held s packs) (alone_tried input tried w s on) run in
    let ends : Ends line false (packs_after_all w held (event_acts line input tried w)) (after_all w (event_acts line input tried w)) (alone s) =
    subst (λ ms. Ends line false (packs_after_all w held (event_acts line input tried w)) (after_all w (event_acts line input tried w)) (after_moments (alone s) ms)) none told.ends in
    let same : alone s ≡ ends.last =
    ends.is ∙ not_drained ends.last (ap (λ (d : Bool). d && nat_lt 0 ends.last.outstanding) ends.over.rests.event.drains_is) in
    let over : next_wish (alone s) ≡ NoLine = ap next_wish same ∙ ends.over.over in
    false_true (sym (line_comes input w (alone s) line false can resting) ∙ ap is_no_line over)

-- requests are outstanding where a drain finds such an event
is_nothing : Act → Bool
is_nothing NothingToDo = true
is_nothing act = false

named_some : (input : Input) (w : World) (s : Replay) → CanCome w input → is_nothing (act_named s input) ≡ false
unfolding is_nothing
named_some input w s can = search rules

counted : (n : ℕ) (next named : Act) → (if n == 0 then NothingToDo else next) ≡ named → is_nothing named ≡ false → 1 ≤ n
unfolding is_nothing
counted zero next named is some = absurd (false_true (sym some ∙ ap is_nothing (sym is)))
counted (suc n) next named is some = omega arith

pub some_outstanding : (n : ℕ) (next : Act) (input : Input) (w : World) (s : Replay) → CanCome w input
    → (if n == 0 then NothingToDo else next) ≡ act_named s input → 1 ≤ n
some_outstanding n next input w s can is = counted n next (act_named s input) is (named_some input w s can)
