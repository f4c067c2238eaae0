-- A unit speaks until nothing is due at it; then no unit speaks.
use Rattle.std.proofs.Common.{◌≡◌, ◌≢◌, ◌⊎◌, inl, inr, ℕ, ◌+◌, ◌*◌, ◌<◌, Bool, true, false, List, [], ◌∷◌, length, refl, sym, ap, subst, arith, ◌∙◌, rules}
use Rattle.std.proofs.lemmas.Bool.{cases_eq}
use Rattle.disksort.specs.declared.Waiter.{Waiter}
use Rattle.trace_replay.specs.Moments as moment
use Rattle.trace_replay.specs.Conversation.{goes_on}
use Rattle.trace_replay.specs.Events.{Act, act_after}
use Rattle.trace_replay.specs.Replay.{Replay}
use Rattle.driver_machine.specs.declared.Phase.{Phase}
use Rattle.driver_machine.specs.declared.Phase.TheVariants.{Waiting, Due}
use Rattle.driver_machine.specs.World.{World, UnitView, adapter_of, unit_at, adapter_at, held_in, slot_in_hand}
use Rattle.driver_machine.specs.Acts.{Deed, after}
use Rattle.driver_machine.specs.Due.{next_by}
use Rattle.driver_machine.specs.Events.{due_by, next_acts, due_acts, begun}
use Rattle.driver_machine.proofs.Measure.{is_resting}
use Rattle.driver_machine.specs.Sound.{Sound, is_waiting}
use Rattle.driver_machine.proofs.Until.{due_over}
use Rattle.driver_machine.specs.Runs.{Run}
use Rattle.driver_laws.proofs.invariant.Deeds.{deed_at}
use Rattle.driver_laws.proofs.invariant.Due.{begun_one, none_due}
use Rattle.driver_laws.specs.shown.Within.{ShowsAll, Rests}
use Rattle.driver_laws.proofs.shown.Telling.{Speaks, Tells}
use Rattle.driver_laws.proofs.shown.Joined.{tells_append, tells_too}
use Rattle.driver_laws.proofs.shown.Due.{IsQuiet, rest_quiet}
use Rattle.driver_laws.proofs.shown.Speaking.{IsUntried, MayTell, tells_line, due_turns}
use Rattle.driver_laws.proofs.shown.Showing.{Shows, is_coming}

-- WHERE NOTHING IS DUE a unit rests, or waits with no request.
abbrev pub IsAtRest : Phase → List Waiter → Type 0
IsAtRest phase queue = (is_resting phase ≡ true) ⊎ ((phase ≡ Waiting) × (queue ≡ []))

rest_by : (phase : Phase) (w : World) (line u : ℕ) → (unit_at w u).phase ≡ phase → Sound w → u < 32
    → due_by (next_by phase (unit_at w u) (held_in w (slot_in_hand (unit_at w u)))) line u w ≡ [] → IsAtRest phase (unit_at w u).queue
rest_by Waiting w line u is sound lt none = inr (refl, none_due (unit_at w u).queue line u _ w none)
rest_by (Due task) w line u is sound lt none =
    let some : 0 < length (unit_at w u).queue = (sound.each_unit u lt).head (ap is_waiting is) in
    let empty : length (unit_at w u).queue ≡ 0 = ap (λ (l : List Waiter). length l) (none_due (unit_at w u).queue line u _ w none) in
    absurd (grind (arith, some, empty))
rest_by other w line u is sound lt none = inl refl

pub at_rest : (w : World) (line u : ℕ) → Sound w → u < 32 → next_acts line u w ≡ [] → IsAtRest (unit_at w u).phase (unit_at w u).queue
at_rest w line u sound lt none = rest_by (unit_at w u).phase w line u refl sound lt none

-- THE SPEAKER CHANGES. Of a unit that is not coming all is seen as of any other.
pub shows_all : (u : ℕ) (w : World) (s : Replay) → Shows u w s → is_coming (unit_at w u).phase (s.units u).stage ≡ false → ShowsAll w s
shows_all u w s shows still = search rules

pub shows_one : (u : ℕ) (w : World) (s : Replay) → u < 32 → ShowsAll w s → is_coming (unit_at w u).phase (s.units u).stage ≡ false → Shows u w s
shows_one u w s lt shows still = search rules

-- behind all that is due no unit speaks, and the others and the attentions stand as they did
pub record Rested (line : ℕ) (drains : Bool) (act : Act) (others : ℕ → UnitView) (raised u : ℕ) (w : World) (s : Replay) : Type 0 where
  pub rests : Rests line drains act w s
  pub others_are : (x : ℕ) → x ≢ u → unit_at w x ≡ others x
  pub raised_is : (adapter_at w (adapter_of u)).state.attentions ≡ raised

pub speaks_rest : (line : ℕ) (drains : Bool) (act : Act) (others : ℕ → UnitView) (raised u : ℕ) (w : World) (s : Replay)
    → Speaks line drains act others raised u w s → next_acts line u w ≡ [] → Rested line drains act others raised u w s
speaks_rest line drains act others raised u w s speaks none =
    let quiet : IsQuiet (unit_at w u).phase (s.units u).stage =
    rest_quiet (unit_at w u).phase (held_in w) (unit_at w u) (adapter_at w (adapter_of u)).state (s.units u) (speaks.shows.units u speaks.unit)
    refl (at_rest w line u speaks.sound speaks.unit.unit none) in
    record {
      rests = record {
        sound = speaks.sound;
        shows = shows_all u w s speaks.shows quiet.coming;
        event = speaks.event;
        quiet = λ x. by quiet x (cases_eq x u);
      };
      others_are = speaks.others_are;
      raised_is = speaks.raised_is;
    }
  where
    by : IsQuiet (unit_at w u).phase (s.units u).stage → (x : ℕ) → (x ≡ u) ⊎ (x ≢ u) → goes_on (s.units x).stage ≡ false
    by quiet x (inl same) = ap (λ (k : ℕ). goes_on (s.units k).stage) same ∙ quiet.goes
    by quiet x (inr other) = speaks.quiet x other

pub due_told : (line u : ℕ) (drains : Bool) (act : Act) (w : World) (s : Replay)
    (others : ℕ → UnitView) (raised : ℕ) → Speaks line drains act others raised u w s → Run w (due_acts line u w)
    → Tells (Rested line drains act others raised u) w s (due_acts line u w)
due_told line u drains act w s others raised speaks run =
    tells_too (Speaks line drains act others raised u) (Rested line drains act others raised u) w s (due_acts line u w)
    (due_turns line u (8 + 3 * length (unit_at w u).queue) drains act w s others raised speaks run)
    (λ at. speaks_rest line drains act others raised u _ _ at
    (due_over w line u (subst (λ (k : ℕ). u < k) (sym speaks.sound.units) speaks.unit.unit)))

-- A DEED, and what is due behind it
pub begun_told : (line u : ℕ) (drains : Bool) (act : Act) (w : World) (s : Replay) (d : Deed) (told : moment.Deed)
    (raised : ℕ) → (adapter_at (after w (deed_at line u d w)) (adapter_of u)).state.attentions ≡ raised → IsUntried d
    → 0 < length (unit_at w u).queue
    → MayTell line u (held_in w (slot_in_hand (unit_at w u))).id drains act w s d told → Run w (begun line u d w)
    → Tells (Rested line drains (act_after told act) (unit_at w) raised u) w s (begun line u d w)
begun_told line u drains act w s d told raised raised_is untried some may run =
    let one : begun line u d w ≡ deed_at line u d w ∷ due_acts line u (after w (deed_at line u d w)) = begun_one line u d w some in
    let runs : Run w (deed_at line u d w ∷ due_acts line u (after w (deed_at line u d w))) = subst (Run w) one run in
    let first : Tells (Speaks line drains (act_after told act) (unit_at w) raised u) w s (deed_at line u d w ∷ []) =
    tells_line line u (held_in w (slot_in_hand (unit_at w u))).id drains act w s d told (unit_at w) raised (λ x. λ other. refl)
    raised_is untried may in
    subst (Tells (Rested line drains (act_after told act) (unit_at w) raised u) w s) (sym one)
    (tells_append (Speaks line drains (act_after told act) (unit_at w) raised u) (Rested line drains (act_after told act) (unit_at w) raised u) w s
    (deed_at line u d w ∷ []) (due_acts line u (after w (deed_at line u d w))) first
    (due_told line u drains (act_after told act) _ _ (unit_at w) raised first.holds runs.1))
