-- A request takes at most 300 commands for each of its blocks.
use Rattle.std.proofs.Common.{◌≡◌, ℕ, ◌+◌, ◌*◌, ◌≤◌, Bool, true, false, List, [], ◌∷◌, Option, None, Some, refl, sym, subst, arith}
use Rattle.std.proofs.lemmas.Option.{same_Some, none-some}
use Rattle.trace_replay.specs.requests.ServiceOrder.{Waiting as Waiter}
use Rattle.trace_replay.specs.requests.Requests.{Request, Answer}
use Rattle.trace_replay.specs.Moments.{Deed, End, Told}
use Rattle.trace_replay.specs.Service.{ServiceMay, first_waiting, head_of, in_hand, request_or_none, ids}
use Rattle.trace_replay.specs.Conversation.{Hand, Stage, Waiting, is_waiting}
use Rattle.trace_replay.specs.Events.{Wish, Refusal}
use Rattle.trace_replay.specs.Replay.{Replay, UnitSeen, new_replay, next_wish, hand_of, ToldMay, Follows, after_moments}
use Rattle.trace_replay.specs.History.{is_refusal, lines_behind}
use Rattle.trace_replay.proofs.Histories.{Fits}
use Rattle.trace_replay.proofs.Following.{follow_on}
use Rattle.trace_replay.proofs.Kept.{UnitFits, AskSomeBlocks, IsHeld, moments_all, starts, refused_is, no}
use Rattle.driver_laws.specs.rules.Commands.{commands_in, CommandsAreBounded, EndsAreBounded}
use Rattle.driver_laws.proofs.rules.Costs.{cost_in}
use Rattle.driver_laws.proofs.rules.Units.{UnitWithin}
use Rattle.driver_laws.proofs.rules.Idle.{idle_within, starts_idle}
use Rattle.driver_laws.proofs.rules.Drain.{moments_within}
use Rattle.driver_laws.proofs.rules.Packs.{pack_last, one_at_most, moments_packs, starts_packs}

-- a unit without a request has no lines
no_lines : (h : Hand) (stage : Stage) (lines : List Deed) → Fits h stage lines → is_waiting stage ≡ true → lines ≡ []
no_lines h Waiting lines f is = f
no_lines h other lines f is = absurd (no is)

-- and a request in hand asks for some blocks
some_in_hand : (waiting : List (Waiter Request)) → AskSomeBlocks waiting → IsHeld waiting → 1 ≤ (request_or_none (first_waiting waiting)).count
some_in_hand [] some held = absurd held
some_in_hand (w ∷ rest) some held = some.0

unit_bounded : (u : UnitSeen) (lines : List Deed) → UnitFits u lines → UnitWithin u lines → commands_in lines ≤ cost_in lines + pack_last lines
    → commands_in lines ≤ 300 * (in_hand u.service).count
unit_bounded u lines f w counted = at (is_waiting u.stage) refl
  where
    at : (b : Bool) → is_waiting u.stage ≡ b → commands_in lines ≤ 300 * (in_hand u.service).count
    at true is = subst (λ z. commands_in z ≤ 300 * (in_hand u.service).count) (sym (no_lines (hand_of u) u.stage lines f.fits is)) (omega arith)
    at false is = omega (arith, counted, one_at_most lines, w.commands, some_in_hand u.service.waiting f.some (f.held is))

pub commands_are_bounded : CommandsAreBounded
commands_are_bounded drives tables surface ms unit some follows =
    unit_bounded ((after_moments (new_replay drives tables surface) ms).units unit) (lines_behind unit [] ms)
    (moments_all (new_replay drives tables surface) ms (λ x. []) some follows (starts drives tables surface) unit)
    (moments_within (new_replay drives tables surface) ms (λ x. []) some follows (starts drives tables surface) (idle_within (new_replay drives tables surface) (starts_idle drives tables surface)) unit)
    ((moments_packs (new_replay drives tables surface) ms (λ x. []) some follows (starts drives tables surface) (starts_packs drives tables surface)).counted unit)

-- ---- the end
pub id_of : (r : Option Request) (id : ℕ) → ids r ≡ Some id → (request_or_none r).id ≡ id
id_of None id is = absurd (none-some id is)
id_of (Some r) id is = same_Some r.id id is

told_service : (wish : Wish) (s : Replay) (line unit id : ℕ) (answer : Answer) → ToldMay wish s line unit id (End answer) → is_refusal answer ≡ false → ServiceMay (s.units unit).service id
told_service (Refusal u i why) s line unit id answer may kept = cc (may.answered, refused_is why)
told_service other s line unit id answer may kept = may.service

pub ends_are_bounded : EndsAreBounded
ends_are_bounded drives tables surface ms line unit id answer some follows kept = (
  commands_are_bounded drives tables surface ms unit some parts.0,
  id_of (head_of ((after_moments (new_replay drives tables surface) ms).units unit).service) id
      (told_service (next_wish (after_moments (new_replay drives tables surface) ms)) (after_moments (new_replay drives tables surface) ms) line unit id answer parts.1.0 kept),
)
  where
    parts : Follows (new_replay drives tables surface) ms × Follows (after_moments (new_replay drives tables surface) ms) (Told line unit id (End answer) ∷ [])
    parts = (follow_on (new_replay drives tables surface) ms (Told line unit id (End answer) ∷ [])).0 follows
