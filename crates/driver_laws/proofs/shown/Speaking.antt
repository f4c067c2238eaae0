-- A unit speaks: what is due at it, deed by deed, until nothing is.
use Rattle.std.proofs.Common.{◌≡◌, ◌≢◌, ◌⊎◌, inl, inr, ℕ, zero, suc, ◌<◌, Bool, true, false, List, [], ◌∷◌, ◌++◌, length, Some, refl, sym, ap, subst, ◌∙◌, rules}
use Rattle.pack_geometry.specs.Pack as model
use Rattle.trace_replay.specs.Moments as moment
use Rattle.trace_replay.specs.Moments.{Moment, Told}
use Rattle.trace_replay.specs.Conversation.{goes_on}
use Rattle.trace_replay.specs.Events.{DueLine, wish_of, wanted, Act, act_after}
use Rattle.trace_replay.specs.Replay.{UnitSeen, Replay, LineMay, next_wish, unit_after, surface_after, with_state}
use Rattle.driver_machine.specs.World.{World, UnitView, Held, adapter_of, unit_at, adapter_at, held_in, slot_in_hand}
use Rattle.driver_machine.specs.Acts as deed
use Rattle.driver_machine.specs.Acts.{Deed, Of, Scene, effect, scene_of, after}
use Rattle.driver_machine.specs.Due.{next_of}
use Rattle.driver_machine.specs.Lines.{deed_told, lines_with, lines_of_all}
use Rattle.driver_machine.specs.Events.{go_on, until, next_acts}
use Rattle.driver_machine.specs.Guards.{Allowed, IsSetUp}
use Rattle.driver_machine.specs.Sound.{Sound}
use Rattle.driver_machine.proofs.DueFacts.{due_facts}
use Rattle.driver_machine.proofs.Frame.{other_unit}
use Rattle.driver_machine.proofs.Until.{IsNext, next_cases}
use Rattle.driver_machine.specs.Runs.{Run}
use Rattle.driver_laws.proofs.invariant.Deeds.{deed_at}
use Rattle.driver_laws.proofs.invariant.Sound.{sound_after}
use Rattle.driver_laws.specs.answers.Packs.{packs_after}
use Rattle.driver_laws.proofs.shown.EachDeed.{lines_are_said, silent_deeds_show}
use Rattle.driver_laws.specs.shown.Within.{IsEvent}
use Rattle.driver_laws.proofs.shown.Telling.{told_within, within_all, LinesFollow, Speaks, Tells}
use Rattle.driver_laws.proofs.shown.Joined.{nothing_told, then_tells}
use Rattle.driver_laws.proofs.shown.Due.{IsOwn, told_cases, due_own, own_line, due_goes}
use Rattle.driver_laws.proofs.shown.Showing.{IsOnSurface, Shows, IsSaid, told_by}

-- no sector is tried
abbrev pub IsUntried : Deed → Type 0
IsUntried (deed.Sector block tried) = ⊥
IsUntried other = Unit {0}

pub own_untried : (d : Deed) → IsOwn d → IsUntried d
own_untried (deed.Sector block tried) own = own
own_untried other own = tt

-- such a deed's line leaves the surface
pub keeps_surface : (s : Replay) (u : ℕ) (h : Held) (d : Deed) (line : moment.Deed) → IsUntried d → deed_told h d ≡ line ∷ []
    → surface_after s u line ≡ s.surface
keeps_surface s u h d line untried is = search rules

-- and the packs
pub keeps_packs : (line u id : ℕ) (w : World) (d : Deed) (held : ℕ → model.Pack) → IsUntried d → packs_after w held (Of line u id d) ≡ held
keeps_packs line u id w (deed.Sector block tried) held untried = absurd untried
keeps_packs line u id w other held untried = refl

pub on_surface : (s : Replay) (u : ℕ) (d : Deed) (scene : Scene) → IsUntried d → IsOnSurface s u d scene
on_surface s u (deed.Sector block tried) scene untried = absurd untried
on_surface s u other scene untried = tt

-- ONE LINE of a deed
pub lines_one : (line u id : ℕ) (w : World) (d : Deed) (told : moment.Deed) → told_by w u d ≡ told ∷ []
    → lines_of_all w (Of line u id d ∷ []) ≡ Told line u id told ∷ []
lines_one line u id w d told is = ap (λ (tolds : List moment.Deed). lines_with line u id tolds ++ []) is

pub lines_none : (line u id : ℕ) (w : World) (d : Deed) → told_by w u d ≡ [] → lines_of_all w (Of line u id d ∷ []) ≡ []
lines_none line u id w d is = ap (λ (tolds : List moment.Deed). lines_with line u id tolds ++ []) is

pub set_up_after : (line u id : ℕ) (w : World) (d : Deed) → Sound w → IsSetUp w u → IsSetUp (after w (Of line u id d)) u
set_up_after line u id w d sound unit = search rules

pub raised_after : (line u id : ℕ) (w : World) (d : Deed) → Sound w → u < 32 → IsOwn d
    → (adapter_at (after w (Of line u id d)) (adapter_of u)).state.attentions ≡ (adapter_at w (adapter_of u)).state.attentions
raised_after line u id w d sound lt own = search rules

pub quiet_after : (s : Replay) (u : ℕ) (new : UnitSeen) (x : ℕ) → x ≢ u → goes_on (s.units x).stage ≡ false
    → goes_on (with_state s.units u new x).stage ≡ false
quiet_after s u new x other quiet = search rules

-- A LINE IS TOLD, and its unit speaks.
pub record MayTell (line u id : ℕ) (drains : Bool) (act : Act) (w : World) (s : Replay) (d : Deed) (told : moment.Deed) : Type 0 where
  pub sound : Sound w
  pub unit : IsSetUp w u
  pub shows : Shows u w s
  pub event : IsEvent line drains act s
  pub wished : next_wish s ≡ wish_of u told
  pub quiet : (x : ℕ) → x ≢ u → goes_on (s.units x).stage ≡ false
  pub allowed : Allowed w (Of line u id d)
  pub tells : told_by w u d ≡ told ∷ []
  pub surface : IsOnSurface s u d (scene_of w u)

pub may_follow : (line u id : ℕ) (drains : Bool) (act : Act) (w : World) (s : Replay) (d : Deed) (told : moment.Deed)
    → MayTell line u id drains act w s d told → LineMay s line u id told
may_follow line u id drains act w s d told may =
    let is : IsSaid line u id w s d told = lines_are_said line u id w s d told may.sound may.shows may.allowed may.surface may.tells in
    record {
      number = sym may.event.line_is;
      wished = may.wished;
      service = is.may.service;
      talk = is.may.talk;
      drive = is.may.drive;
      adapter = is.may.adapter;
      verdict = is.may.verdict;
      at_work = may.event.work;
    }

pub then_speaks : (line u id : ℕ) (drains : Bool) (act : Act) (w : World) (s : Replay) (d : Deed) (told : moment.Deed)
    (others : ℕ → UnitView) (raised : ℕ) → ((x : ℕ) → x ≢ u → unit_at w x ≡ others x)
    → (adapter_at (after w (Of line u id d)) (adapter_of u)).state.attentions ≡ raised
    → MayTell line u id drains act w s d told
    → Speaks line drains (act_after told act) others raised u (after w (Of line u id d)) (told_within s u told)
then_speaks line u id drains act w s d told others raised same raised_is may =
    let is : IsSaid line u id w s d told = lines_are_said line u id w s d told may.sound may.shows may.allowed may.surface may.tells in
    record {
      sound = sound_after w (Of line u id d) may.sound may.allowed;
      unit = set_up_after line u id w d may.sound may.unit;
      shows = is.shows;
      event = record { line_is = may.event.line_is; drains_is = may.event.drains_is; act_is = ap (act_after told) may.event.act_is; work = tt };
      speaker = refl;
      quiet = λ x. λ other. quiet_after s u (unit_after s u told) x other (may.quiet x other);
      others_are = λ x. λ other.
          other_unit w u (slot_in_hand (unit_at w u)) x (effect line u (slot_in_hand (unit_at w u)) d (scene_of w u)) other ∙ same x other;
      raised_is = raised_is;
    }

pub tells_line : (line u id : ℕ) (drains : Bool) (act : Act) (w : World) (s : Replay) (d : Deed) (told : moment.Deed)
    (others : ℕ → UnitView) (raised : ℕ) → ((x : ℕ) → x ≢ u → unit_at w x ≡ others x)
    → (adapter_at (after w (Of line u id d)) (adapter_of u)).state.attentions ≡ raised → IsUntried d
    → MayTell line u id drains act w s d told
    → Tells (Speaks line drains (act_after told act) others raised u) w s (Of line u id d ∷ [])
tells_line line u id drains act w s d told others raised same raised_is untried may =
    let lines : lines_of_all w (Of line u id d ∷ []) ≡ Told line u id told ∷ [] = lines_one line u id w d told may.tells in
    record {
      follow = subst (LinesFollow s) (sym lines) (may_follow line u id drains act w s d told may, tt);
      holds = subst (λ (ms : List Moment). Speaks line drains (act_after told act) others raised u (after w (Of line u id d)) (within_all s ms)) (sym lines)
          (then_speaks line u id drains act w s d told others raised same raised_is may);
      surface = subst (λ (ms : List Moment). (within_all s ms).surface ≡ s.surface) (sym lines)
          (keeps_surface s u (held_in w (slot_in_hand (unit_at w u))) d told untried may.tells);
      there = subst (λ (ms : List Moment). (within_all s ms).there ≡ s.there) (sym lines) refl;
      packs = λ held. keeps_packs line u id w d held untried;
    }

-- A SILENT DEED leaves the replay as it is.
pub tells_none : (line u id : ℕ) (drains : Bool) (act : Act) (w : World) (s : Replay) (d : Deed) (others : ℕ → UnitView) (raised : ℕ)
    → IsOwn d → Allowed w (Of line u id d) → told_by w u d ≡ []
    → Speaks line drains act others raised u w s → Tells (Speaks line drains act others raised u) w s (Of line u id d ∷ [])
tells_none line u id drains act w s d others raised own allowed none speaks =
    let lines : lines_of_all w (Of line u id d ∷ []) ≡ [] = lines_none line u id w d none in
    record {
      follow = subst (LinesFollow s) (sym lines) tt;
      holds = subst (λ (ms : List Moment). Speaks line drains act others raised u (after w (Of line u id d)) (within_all s ms)) (sym lines)
          (record {
            sound = sound_after w (Of line u id d) speaks.sound allowed;
            unit = set_up_after line u id w d speaks.sound speaks.unit;
            shows = silent_deeds_show line u id w s d speaks.sound speaks.shows allowed none;
            event = speaks.event;
            speaker = speaks.speaker;
            quiet = speaks.quiet;
            others_are = λ x. λ other.
                other_unit w u (slot_in_hand (unit_at w u)) x (effect line u (slot_in_hand (unit_at w u)) d (scene_of w u)) other
                ∙ speaks.others_are x other;
            raised_is = raised_after line u id w d speaks.sound speaks.unit.unit own ∙ speaks.raised_is;
          });
      surface = ap (λ (ms : List Moment). (within_all s ms).surface) lines;
      there = ap (λ (ms : List Moment). (within_all s ms).there) lines;
      packs = λ held. keeps_packs line u id w d held (own_untried d own);
    }

-- A DEED THAT IS DUE
pub tells_due : (line u : ℕ) (drains : Bool) (act : Act) (w : World) (s : Replay) (d : Deed)
    (others : ℕ → UnitView) (raised : ℕ) → Speaks line drains act others raised u w s → 0 < length (unit_at w u).queue
    → next_of (unit_at w u) (held_in w (slot_in_hand (unit_at w u))) ≡ Some d → Allowed w (deed_at line u d w)
    → Tells (Speaks line drains act others raised u) w s (deed_at line u d w ∷ [])
tells_due line u drains act w s d others raised speaks some next allowed =
    by_line (told_cases (held_in w (slot_in_hand (unit_at w u))) d)
  where
    own : IsOwn d
    own = due_own (unit_at w u) (held_in w (slot_in_hand (unit_at w u))) d (due_facts (unit_at w u) (held_in w (slot_in_hand (unit_at w u))) d next)

    goes : (told : moment.Deed) → told_by w u d ≡ told ∷ [] → next_wish s ≡ wish_of u told
    goes told is =
        let on : goes_on (s.units s.event.speaker).stage ≡ true =
        ap (λ (x : ℕ). goes_on (s.units x).stage) speaks.speaker
        ∙ due_goes (held_in w) (unit_at w u) (adapter_at w (adapter_of u)).state (s.units u) d told (speaks.shows.units u speaks.unit) some next is in
        ap (λ (b : Bool). wanted s.adapters s.event b) on ∙ ap DueLine speaks.speaker
        ∙ sym (own_line u (held_in w (slot_in_hand (unit_at w u))) d told own is).wish

    by_line : (told_by w u d ≡ []) ⊎ ((told : moment.Deed) × (told_by w u d ≡ told ∷ []))
        → Tells (Speaks line drains act others raised u) w s (deed_at line u d w ∷ [])
    by_line (inl none) = tells_none line u (held_in w (slot_in_hand (unit_at w u))).id drains act w s d others raised own allowed none speaks
    by_line (inr one) =
        subst (λ (x : Act). Tells (Speaks line drains x others raised u) w s (deed_at line u d w ∷ []))
        ((own_line u (held_in w (slot_in_hand (unit_at w u))) d one.0 own one.1).act act)
        (tells_line line u (held_in w (slot_in_hand (unit_at w u))).id drains act w s d one.0 others raised speaks.others_are
        (raised_after line u (held_in w (slot_in_hand (unit_at w u))).id w d speaks.sound speaks.unit.unit own ∙ speaks.raised_is) (own_untried d own)
        (record {
          sound = speaks.sound;
          unit = speaks.unit;
          shows = speaks.shows;
          event = speaks.event;
          wished = goes one.0 one.1;
          quiet = speaks.quiet;
          allowed = allowed;
          tells = one.1;
          surface = on_surface s u d (scene_of w u) (own_untried d own);
        }))

-- ALL THAT IS DUE
due_turn : (line u fuel : ℕ) (drains : Bool) (act : Act) (w : World) (s : Replay)
    (others : ℕ → UnitView) (raised : ℕ) → Speaks line drains act others raised u w s
    → ((x : World) (r : Replay) → Speaks line drains act others raised u x r → Run x (until fuel (next_acts line u) x)
    → Tells (Speaks line drains act others raised u) x r (until fuel (next_acts line u) x))
    → Run w (go_on (next_acts line u w) (until fuel (next_acts line u)) w)
    → ((next_acts line u w ≡ []) ⊎ IsNext w line u (next_acts line u w))
    → Tells (Speaks line drains act others raised u) w s (go_on (next_acts line u w) (until fuel (next_acts line u)) w)
due_turn line u fuel drains act w s others raised speaks later run (inl none) =
    subst (λ (acts : List deed.Act). Tells (Speaks line drains act others raised u) w s (go_on acts (until fuel (next_acts line u)) w)) (sym none)
    (nothing_told (Speaks line drains act others raised u) w s speaks)
due_turn line u fuel drains act w s others raised speaks later run (inr is) =
    let one : next_acts line u w ≡ deed_at line u is.deed w ∷ [] = is.is ∙ ap (λ (id : ℕ). Of line u id is.deed ∷ []) is.named in
    let runs : Run w (deed_at line u is.deed w ∷ until fuel (next_acts line u) (after w (deed_at line u is.deed w))) =
    subst (λ (acts : List deed.Act). Run w (go_on acts (until fuel (next_acts line u)) w)) one run in
    subst (λ (acts : List deed.Act). Tells (Speaks line drains act others raised u) w s (go_on acts (until fuel (next_acts line u)) w)) (sym one)
    (then_tells (Speaks line drains act others raised u) (Speaks line drains act others raised u) w s (deed_at line u is.deed w ∷ [])
    (until fuel (next_acts line u)) (tells_due line u drains act w s is.deed others raised speaks is.some is.next runs.0)
    (λ at. later _ _ at runs.1))

pub due_turns : (line u fuel : ℕ) (drains : Bool) (act : Act) (w : World) (s : Replay)
    (others : ℕ → UnitView) (raised : ℕ) → Speaks line drains act others raised u w s → Run w (until fuel (next_acts line u) w)
    → Tells (Speaks line drains act others raised u) w s (until fuel (next_acts line u) w)
due_turns line u zero drains act w s others raised speaks run =
    nothing_told (Speaks line drains act others raised u) w s speaks
due_turns line u (suc fuel) drains act w s others raised speaks run =
    due_turn line u fuel drains act w s others raised speaks
    (λ x. λ r. λ at. λ runs. due_turns line u fuel drains act x r others raised at runs) run
    (next_cases w line u (next_of (unit_at w u) (held_in w (slot_in_hand (unit_at w u)))) refl)
