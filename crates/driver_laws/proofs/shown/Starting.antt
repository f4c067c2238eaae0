-- The start of an adapter: each unit that it takes gets its lines, and behind it no line is due.
use Rattle.std.proofs.Common.{◌≡◌, ◌⊎◌, inl, inr, ℕ, zero, suc, ◌+◌, ◌<◌, Bool, true, false, List, [], ◌∷◌, length, refl, sym, ap, subst, ◌∙◌, rules}
use Rattle.std.specs.Prelude.{if◌then◌else◌}
use Rattle.trace_replay.specs.Moments as moment
use Rattle.trace_replay.specs.Events.{NoLine, DueLine, wanted, wish_in, first_ready, Act, Serving, act_after}
use Rattle.trace_replay.specs.Replay.{Replay, next_wish}
use Rattle.driver_machine.specs.declared.Phase.{Phase}
use Rattle.driver_machine.specs.declared.Phase.TheVariants.{Queued}
use Rattle.driver_machine.specs.World.{World, UnitView, Held, adapter_of, unit_at, adapter_at, held_in, slot_in_hand}
use Rattle.driver_machine.specs.Acts as deed
use Rattle.driver_machine.specs.Acts.{Deed, scene_of, after, after_all}
use Rattle.driver_machine.specs.Due.{command_of}
use Rattle.driver_machine.specs.Lines.{deed_told, lines_of_all}
use Rattle.driver_machine.specs.Events.{Part, go_on, until, begun, choose_by, choose_acts, adapter_start}
use Rattle.driver_machine.specs.Guards.{Allowed, IsSetUp}
use Rattle.driver_machine.specs.Sound.{Sound, Among, is_waiting}
use Rattle.driver_machine.specs.Runs.{Run}
use Rattle.driver_laws.proofs.invariant.Leads.{run_split}
use Rattle.driver_laws.proofs.invariant.Deeds.{deed_at}
use Rattle.driver_laws.proofs.invariant.Due.{begun_one}
use Rattle.driver_laws.proofs.invariant.Start.{start_is, no_more}
use Rattle.driver_laws.proofs.invariant.Sound.{sound_after}
use Rattle.driver_laws.specs.shown.Within.{Rests}
use Rattle.driver_laws.proofs.shown.Telling.{within_all, Tells}
use Rattle.driver_laws.specs.shown.Calls.{IsOverWithin}
use Rattle.driver_laws.proofs.shown.Joined.{nothing_told, then_tells, tells_too}
use Rattle.driver_laws.proofs.shown.Due.{IsOwn, IsOwnLine, told_cases, own_line}
use Rattle.driver_laws.proofs.shown.Speaking.{own_untried, on_surface}
use Rattle.driver_laws.proofs.shown.Resting.{Rested, shows_one, begun_told}
use Rattle.driver_laws.proofs.shown.Showing.{is_coming, told_by}

-- A PART THAT IS DONE AGAIN
until_turn : (P : World → Replay → Type 0) (part again : Part) (w : World) (s : Replay) (acts : List deed.Act)
    → part w ≡ acts → P w s → Tells P w s acts
    → (Run (after_all w acts) (again (after_all w acts)) → P (after_all w acts) (within_all s (lines_of_all w acts))
    → Tells P (after_all w acts) (within_all s (lines_of_all w acts)) (again (after_all w acts)))
    → Run w (go_on acts again w) → Tells P w s (go_on acts again w)
until_turn P part again w s [] is holds first later run = nothing_told P w s holds
until_turn P part again w s (act ∷ acts) is holds first later run =
    then_tells P P w s (act ∷ acts) again first
    (λ at. later (run_split w (act ∷ acts) (again (after_all w (act ∷ acts))) run).1 at)

run_first : (w : World) (acts : List deed.Act) (again : Part) → Run w (go_on acts again w) → Run w acts
run_first w [] again run = tt
run_first w (act ∷ acts) again run = (run_split w (act ∷ acts) (again (after_all w (act ∷ acts))) run).0

pub until_told : (P : World → Replay → Type 0) (part : Part) → ((x : World) (r : Replay) → P x r → Run x (part x) → Tells P x r (part x))
    → (fuel : ℕ) (w : World) (s : Replay) → P w s → Run w (until fuel part w) → Tells P w s (until fuel part w)
until_told P part each zero w s holds run = nothing_told P w s holds
until_told P part each (suc fuel) w s holds run =
    until_turn P part (until fuel part) w s (part w) refl holds (each w s holds (run_first w (part w) (until fuel part) run))
    (λ runs. λ at. until_told P part each fuel _ _ at runs) run

-- THE TURN OF A UNIT tells a line of its own.
pub record IsCommand (h : Held) (d : Deed) : Type 0 where
  pub own : IsOwn d
  pub some : deed_told h d ≡ [] → ⊥

pub is_command : (v : UnitView) (h : Held) → IsCommand h (command_of v h)
is_command v h = search rules

-- NO UNIT SPEAKS, so the event says whose line comes next.
pub wish_resting : (line : ℕ) (drains : Bool) (act : Act) (w : World) (s : Replay) → Rests line drains act w s
    → next_wish s ≡ wish_in s.adapters act
wish_resting line drains act w s rests =
    ap (λ (b : Bool). wanted s.adapters s.event b) (rests.quiet s.event.speaker) ∙ ap (wish_in s.adapters) rests.event.act_is

-- a unit with requests is set up
pub set_up : (w : World) (u : ℕ) → Sound w → u < 32 → 0 < length (unit_at w u).queue → IsSetUp w u
set_up w u sound lt some = search rules

pub other_act : (line : ℕ) (drains : Bool) {act new : Act} {w : World} {s : Replay} → act ≡ new → Rests line drains act w s → Rests line drains new w s
other_act line drains {act} {new} {w} {s} is rests = subst (λ (x : Act). Rests line drains x w s) is rests

-- ONE TURN
turn_told : (line a u : ℕ) (rest : List ℕ) (drains : Bool) (w : World) (s : Replay) → a < 4 → Rests line drains (Serving a false []) w s
    → (adapter_at w a).state.busy ≡ false → (adapter_at w a).queue ≡ u ∷ rest
    → (u < 32) × (adapter_of u ≡ a) × ((unit_at w u).phase ≡ Queued)
    → Run w (begun line u (command_of (unit_at w u) (held_in w (slot_in_hand (unit_at w u)))) w)
    → Tells (Rests line drains (Serving a false [])) w s (begun line u (command_of (unit_at w u) (held_in w (slot_in_hand (unit_at w u)))) w)
turn_told line a u rest drains w s lt rests free first waits run =
    by_line (told_cases (held_in w (slot_in_hand (unit_at w u))) d)
  where
    d : Deed
    d = command_of (unit_at w u) (held_in w (slot_in_hand (unit_at w u)))

    command : IsCommand (held_in w (slot_in_hand (unit_at w u))) (command_of (unit_at w u) (held_in w (slot_in_hand (unit_at w u))))
    command = is_command (unit_at w u) (held_in w (slot_in_hand (unit_at w u)))

    some : 0 < length (unit_at w u).queue
    some = (rests.sound.each_unit u waits.0).head (ap is_waiting waits.2)

    wished : next_wish s ≡ DueLine u
    wished =
        wish_resting line drains (Serving a false []) w s rests
        ∙ ap (λ (b : Bool). if b then NoLine else first_ready (s.adapters a).ready) ((rests.shows.adapters a lt).busy ∙ free)
        ∙ ap first_ready (rests.shows.ready a lt ∙ first)

    by_line : (told_by w u (command_of (unit_at w u) (held_in w (slot_in_hand (unit_at w u)))) ≡ [])
        ⊎ ((told : moment.Deed) × (told_by w u (command_of (unit_at w u) (held_in w (slot_in_hand (unit_at w u)))) ≡ told ∷ []))
        → Tells (Rests line drains (Serving a false [])) w s (begun line u (command_of (unit_at w u) (held_in w (slot_in_hand (unit_at w u)))) w)
    by_line (inl none) = absurd (command.some none)
    by_line (inr one) =
        let own : IsOwnLine u one.0 = own_line u (held_in w (slot_in_hand (unit_at w u))) d one.0 command.own one.1 in
        let runs : Run w (begun line u (command_of (unit_at w u) (held_in w (slot_in_hand (unit_at w u)))) w) = run in
        let allowed : Allowed w (deed_at line u d w) = (subst (Run w) (begun_one line u d w some) runs).0 in
        tells_too (Rested line drains (act_after one.0 (Serving a false [])) (unit_at w)
        (adapter_at (after w (deed_at line u d w)) (adapter_of u)).state.attentions u) (Rests line drains (Serving a false [])) w s (begun line u d w)
        (begun_told line u drains (Serving a false []) w s d one.0 (adapter_at (after w (deed_at line u d w)) (adapter_of u)).state.attentions refl
        (own_untried d command.own) some
        (record {
          sound = rests.sound;
          unit = set_up w u rests.sound waits.0 some;
          shows = shows_one u w s waits.0 rests.shows (ap (λ (p : Phase). is_coming p (s.units u).stage) waits.2);
          event = rests.event;
          wished = wished ∙ sym own.wish;
          quiet = λ x. λ other. rests.quiet x;
          allowed = allowed;
          tells = one.1;
          surface = on_surface s u d (scene_of w u) (own_untried d command.own);
        }) run)
        (λ at. other_act line drains (own.act (Serving a false [])) at.rests)

choose_told : (line a : ℕ) (drains busy : Bool) (queue : List ℕ) (w : World) (s : Replay) → a < 4 → Rests line drains (Serving a false []) w s
    → (adapter_at w a).state.busy ≡ busy → (adapter_at w a).queue ≡ queue → Run w (choose_by busy queue line w)
    → Tells (Rests line drains (Serving a false [])) w s (choose_by busy queue line w)
choose_told line a drains true queue w s lt rests busy is run = nothing_told (Rests line drains (Serving a false [])) w s rests
choose_told line a drains false [] w s lt rests busy is run = nothing_told (Rests line drains (Serving a false [])) w s rests
choose_told line a drains false (u ∷ rest) w s lt rests busy is run =
    turn_told line a u rest drains w s lt rests busy is ((rests.sound.each_adapter a lt).waits u (subst (Among u) (sym is) (inl refl))) run

-- BEHIND THE START no line is due.
start_over : (line a : ℕ) (drains busy : Bool) (w : World) (s : Replay) → a < 4 → Rests line drains (Serving a false []) w s
    → choose_acts line a w ≡ [] → (adapter_at w a).state.busy ≡ busy → next_wish s ≡ NoLine
start_over line a drains busy w s lt rests none h0 = search (rules, wish_resting, no_more)

pub start_told : (line a : ℕ) (drains : Bool) (w : World) (s : Replay) → a < 4 → Rests line drains (Serving a false []) w s
    → Run w (adapter_start line a w) → Tells (IsOverWithin line drains) w s (adapter_start line a w)
start_told line a drains w s lt rests run =
    tells_too (Rests line drains (Serving a false [])) (IsOverWithin line drains) w s (adapter_start line a w)
    (until_told (Rests line drains (Serving a false [])) (choose_acts line a)
    (λ x. λ r. λ at. λ runs. choose_told line a drains (adapter_at x a).state.busy (adapter_at x a).queue x r lt at refl refl runs)
    (2 + length w.slots) w s rests run)
    (λ at. record {
      act = Serving a false [];
      rests = at;
      over = start_over line a drains (adapter_at (after_all w (adapter_start line a w)) a).state.busy _ _ lt at
          (start_is sound_after line a w rests.sound).holds refl;
    })
