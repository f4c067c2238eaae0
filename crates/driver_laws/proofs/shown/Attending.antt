-- An attend: the data interrupt, each attention in ascending order, and the adapter's start.
use Rattle.std.proofs.Common.{◌≡◌, ◌≢◌, inl, inr, ℕ, ◌+◌, ◌*◌, ◌<◌, Bool, true, false, List, [], ◌∷◌, length, refl, sym, ap, subst, arith, ◌∙◌, rules}
use Rattle.std.specs.Prelude.{if◌then◌else◌}
use Rattle.std.specs.Int.{bit_at}
use Rattle.trace_replay.specs.Moments as moment
use Rattle.trace_replay.specs.Events.{Interrupt, Serving}
use Rattle.trace_replay.specs.Replay.{Replay}
use Rattle.driver_machine.specs.declared.Phase.{Phase}
use Rattle.driver_machine.specs.declared.Phase.TheVariants.{Transferring}
use Rattle.driver_machine.specs.World.{World, UnitView, AdapterView, Held, adapter_of, unit_on, unit_of, unit_at, adapter_at, held_in, slot_in_hand}
use Rattle.driver_machine.specs.Acts as deed
use Rattle.driver_machine.specs.Acts.{Deed, effect, scene_of, after, after_all}
use Rattle.driver_machine.proofs.Measure.{is_resting}
use Rattle.driver_machine.specs.Events.{and_then, when_by, each, begun, data_interrupt, attention, steps_taken, drives, attended, adapter_start}
use Rattle.driver_machine.specs.Guards.{IsSetUp}
use Rattle.driver_machine.specs.Sound.{Sound, Among, Once, IsPhase, is_waiting}
use Rattle.driver_machine.specs.Runs.{Run}
use Rattle.driver_laws.proofs.invariant.Leads.{run_split}
use Rattle.driver_laws.proofs.invariant.Deeds.{deed_at, own_adapter}
use Rattle.driver_laws.proofs.invariant.Due.{begun_one}
use Rattle.driver_laws.proofs.invariant.Calls.{IsServing, serving, was_busy}
use Rattle.driver_laws.specs.shown.Within.{Rests}
use Rattle.driver_laws.proofs.shown.Telling.{Tells}
use Rattle.driver_laws.proofs.shown.Joined.{nothing_told, then_tells, tells_too}
use Rattle.driver_laws.proofs.shown.Due.{IsQuiet, rest_quiet}
use Rattle.driver_laws.proofs.shown.Resting.{Rested, shows_one, begun_told}
use Rattle.driver_laws.specs.shown.Calls.{IsOverWithin}
use Rattle.driver_laws.proofs.shown.Starting.{wish_resting, set_up, start_told}
use Rattle.driver_laws.proofs.shown.Showing.{is_coming}

-- THE ATTENTIONS that are up, of some drives
abbrev pub raised_by : Bool → ℕ → List ℕ → List ℕ
raised_by true k others = k ∷ others
raised_by false k others = others

abbrev pub raised_in : World → ℕ → List ℕ → List ℕ
raised_in w a [] = []
raised_in w a (k ∷ ks) = raised_by (unit_at w (unit_on a k)).drive.attention k (raised_in w a ks)

abbrev pub SameRaised : World → World → ℕ → ℕ → Type 0
SameRaised w x a k = (unit_at x (unit_on a k)).drive.attention ≡ (unit_at w (unit_on a k)).drive.attention

pub raised_same : (w x : World) (a : ℕ) (ks : List ℕ) → ((k : ℕ) → Among k ks → SameRaised w x a k) → raised_in x a ks ≡ raised_in w a ks
raised_same w x a [] same = refl
raised_same w x a (k ∷ ks) same =
    ap (λ (b : Bool). raised_by b k (raised_in x a ks)) (same k (inl refl))
    ∙ ap (λ (l : List ℕ). raised_by (unit_at w (unit_on a k)).drive.attention k l) (raised_same w x a ks (λ j. λ among. same j (inr among)))

abbrev AreDrives : List ℕ → Type 0
AreDrives ks = (k : ℕ) → Among k ks → k < 8

unit_less : (a d : ℕ) → a < 4 → d < 8 → 8 * a + d < 32
unit_less a d four eight = omega (arith, four, eight)

apart : (a j k : ℕ) → (j ≡ k → ⊥) → unit_on a j ≢ unit_on a k
apart a j k other same = other (numbers a j k same)
  where
    numbers : (a j k : ℕ) → 8 * a + j ≡ 8 * a + k → j ≡ k
    numbers a j k same = omega (arith, same)

-- in a sound world they are the bits of the adapter
one_bit : (b c : Bool) (n m : ℕ) → n ≡ (if b then 1 else 0) → m ≡ (if c then 1 else 0) → n ≡ m → b ≡ c
one_bit b c n m e f same = search rules

same_bits : (w x : World) (a k : ℕ) → Sound w → Sound x → a < 4 → k < 8
    → (adapter_at x a).state.attentions ≡ (adapter_at w a).state.attentions → SameRaised w x a k
same_bits w x a k sound later four eight same =
    one_bit (unit_at x (unit_on a k)).drive.attention (unit_at w (unit_on a k)).drive.attention _ _
    ((later.each_adapter a four).raised k eight) ((sound.each_adapter a four).raised k eight)
    (ap (λ (n : ℕ). bit_at n k) same)

-- THE DATA INTERRUPT leaves the attentions as they are.
pub record IsInterrupted (line : ℕ) (drains : Bool) (a : ℕ) (ks : List ℕ) (w x : World) (s : Replay) : Type 0 where
  pub rests : Rests line drains (Serving a false ks) x s
  pub same : (k : ℕ) → k < 8 → SameRaised w x a k

interrupted : (line : ℕ) (drains : Bool) (a u : ℕ) (ks : List ℕ) {w x : World} {s : Replay} → Sound w → a < 4 → adapter_of u ≡ a
    → Rested line drains (Serving a false ks) (unit_at w) (adapter_at w (adapter_of u)).state.attentions u x s
    → IsInterrupted line drains a ks w x s
interrupted line drains a u ks {w} {x} {s} sound four its at = record {
  rests = at.rests;
  same = λ k. λ eight. same_bits w x a k sound at.rests.sound four eight
      (subst (λ (b : ℕ). (adapter_at x b).state.attentions ≡ (adapter_at w b).state.attentions) its at.raised_is);
}

interrupt_told : (line a : ℕ) (drains up : Bool) (ks : List ℕ) (w : World) (s : Replay) → a < 4 → (adapter_at w a).state.completion ≡ up
    → Rests line drains (Serving a up ks) w s
    → Run w (when_by up (begun line (unit_of w a) (deed.Intr (adapter_at w a).state.moved (adapter_at w a).state.verdict)) w)
    → Tells (IsInterrupted line drains a ks w) w s
    (when_by up (begun line (unit_of w a) (deed.Intr (adapter_at w a).state.moved (adapter_at w a).state.verdict)) w)
interrupt_told line a drains false ks w s four is rests run =
    nothing_told (IsInterrupted line drains a ks w) w s (record { rests = rests; same = λ k. λ eight. refl })
interrupt_told line a drains true ks w s four is rests run =
    by_serving (serving w a rests.sound (was_busy (adapter_at w a).state.busy (adapter_at w a).state.completion (rests.sound.each_adapter a four).rest is))
    (was_busy (adapter_at w a).state.busy (adapter_at w a).state.completion (rests.sound.each_adapter a four).rest is)
  where
    u : ℕ
    u = unit_of w a

    d : Deed
    d = deed.Intr (adapter_at w a).state.moved (adapter_at w a).state.verdict

    by_serving : IsServing w a → (adapter_at w a).state.busy ≡ true
        → Tells (IsInterrupted line drains a ks w) w s
        (begun line (unit_of w a) (deed.Intr (adapter_at w a).state.moved (adapter_at w a).state.verdict) w)
    by_serving serves busy =
        let unit : IsSetUp w u = set_up w u rests.sound serves.unit serves.some in
        let phase : (unit_at w u).phase ≡ Transferring = ((rests.sound.each_adapter a four).busy busy).1.phase in
        let quiet : IsQuiet Transferring (s.units u).stage =
        rest_quiet Transferring (held_in w) (unit_at w u) (adapter_at w (adapter_of u)).state (s.units u) (rests.shows.units u unit) phase (inl refl) in
        let raised : (adapter_at (after w (deed_at line u d w)) (adapter_of u)).state.attentions ≡ (adapter_at w (adapter_of u)).state.attentions =
        ap (λ (v : AdapterView). v.state.attentions)
        (own_adapter w u (slot_in_hand (unit_at w u)) (effect line u (slot_in_hand (unit_at w u)) d (scene_of w u)) rests.sound.adapters serves.unit) in
        let runs : Run w (deed_at line u d w ∷ _) = subst (Run w) (begun_one line u d w serves.some) run in
        tells_too (Rested line drains (Serving a false ks) (unit_at w) (adapter_at w (adapter_of u)).state.attentions u) (IsInterrupted line drains a ks w) w s
        (begun line u d w)
        (begun_told line u drains (Serving a true ks) w s d moment.Intr (adapter_at w (adapter_of u)).state.attentions raised tt serves.some
        (record {
          sound = rests.sound;
          unit = unit;
          shows = shows_one u w s serves.unit rests.shows (ap (λ (p : Phase). is_coming p (s.units u).stage) phase ∙ quiet.coming);
          event = rests.event;
          wished = wish_resting line drains (Serving a true ks) w s rests ∙ ap (λ (k : ℕ). Interrupt (unit_on a k)) (rests.shows.adapters a four).drive;
          quiet = λ x. λ other. rests.quiet x;
          allowed = runs.0;
          tells = refl;
          surface = tt;
        }) run)
        (λ at. interrupted line drains a (unit_of w a) ks rests.sound four serves.its at)

-- the phase of a unit whose attention is up
up_phase : (u : ℕ) (phase : Phase) (v : UnitView) (a : AdapterView) (h : Held) → IsPhase u v a h phase → v.drive.attention ≡ true
    → (is_waiting phase ≡ false) × (is_resting phase ≡ true)
up_phase u phase v a h is up = search rules

-- the others that are up stay so
attended_one : (line : ℕ) (drains : Bool) (a k : ℕ) (ks : List ℕ) (w : World) {x : World} {s : Replay} {raised : ℕ} → (Among k ks → ⊥)
    → Rested line drains (Serving a false (raised_in w a ks)) (unit_at w) raised (unit_on a k) x s
    → Rests line drains (Serving a false (raised_in x a ks)) x s
attended_one line drains a k ks w {x} {s} {raised} once at =
    subst (λ (l : List ℕ). Rests line drains (Serving a false l) x s)
    (sym (raised_same w x a ks (λ j. λ among. ap (λ (v : UnitView). v.drive.attention)
    (at.others_are (unit_on a j) (apart a j k (λ same. once (subst (λ (n : ℕ). Among n ks) same among))))))) at.rests

attention_told : (line a k : ℕ) (drains up : Bool) (ks : List ℕ) (w : World) (s : Replay) → a < 4 → k < 8 → (Among k ks → ⊥)
    → (unit_at w (unit_on a k)).drive.attention ≡ up → Rests line drains (Serving a false (raised_by up k (raised_in w a ks))) w s
    → Run w (when_by up (begun line (unit_on a k) (deed.Attn (steps_taken (unit_at w (unit_on a k)).phase))) w)
    → Tells (λ (x : World). λ (r : Replay). Rests line drains (Serving a false (raised_in x a ks)) x r) w s
    (when_by up (begun line (unit_on a k) (deed.Attn (steps_taken (unit_at w (unit_on a k)).phase))) w)
attention_told line a k drains false ks w s four eight once is rests run =
    nothing_told (λ (x : World). λ (r : Replay). Rests line drains (Serving a false (raised_in x a ks)) x r) w s rests
attention_told line a k drains true ks w s four eight once is rests run =
    by_phase (up_phase u (unit_at w u).phase (unit_at w u) (adapter_at w (adapter_of u)) (held_in w (slot_in_hand (unit_at w u)))
    (rests.sound.each_unit u (unit_less a k four eight)).phase is)
  where
    u : ℕ
    u = unit_on a k

    d : Deed
    d = deed.Attn (steps_taken (unit_at w (unit_on a k)).phase)

    by_phase : (is_waiting (unit_at w (unit_on a k)).phase ≡ false) × (is_resting (unit_at w (unit_on a k)).phase ≡ true)
        → Tells (λ (x : World). λ (r : Replay). Rests line drains (Serving a false (raised_in x a ks)) x r) w s
        (begun line (unit_on a k) (deed.Attn (steps_taken (unit_at w (unit_on a k)).phase)) w)
    by_phase at =
        let less : u < 32 = unit_less a k four eight in
        let some : 0 < length (unit_at w u).queue = (rests.sound.each_unit u less).head at.0 in
        let unit : IsSetUp w u = set_up w u rests.sound less some in
        let quiet : IsQuiet (unit_at w u).phase (s.units u).stage =
        rest_quiet (unit_at w u).phase (held_in w) (unit_at w u) (adapter_at w (adapter_of u)).state (s.units u) (rests.shows.units u unit) refl (inl at.1) in
        let runs : Run w (deed_at line u d w ∷ _) = subst (Run w) (begun_one line u d w some) run in
        tells_too (Rested line drains (Serving a false (raised_in w a ks)) (unit_at w)
        (adapter_at (after w (deed_at line u d w)) (adapter_of u)).state.attentions u)
        (λ (x : World). λ (r : Replay). Rests line drains (Serving a false (raised_in x a ks)) x r) w s
        (begun line u d w)
        (begun_told line u drains (Serving a false (k ∷ raised_in w a ks)) w s d moment.Attn
        (adapter_at (after w (deed_at line u d w)) (adapter_of u)).state.attentions refl tt some
        (record {
          sound = rests.sound;
          unit = unit;
          shows = shows_one u w s less rests.shows quiet.coming;
          event = rests.event;
          wished = wish_resting line drains (Serving a false (k ∷ raised_in w a ks)) w s rests;
          quiet = λ x. λ other. rests.quiet x;
          allowed = runs.0;
          tells = refl;
          surface = tt;
        }) run)
        (λ at. attended_one line drains a k ks w once at)

-- EACH ATTENTION in ascending order
each_told : (line a : ℕ) (drains : Bool) (ks : List ℕ) (w : World) (s : Replay) → a < 4 → AreDrives ks → Once ks
    → Rests line drains (Serving a false (raised_in w a ks)) w s → Run w (each (attention line a) ks w)
    → Tells (Rests line drains (Serving a false [])) w s (each (attention line a) ks w)
each_told line a drains [] w s four eight once rests run = nothing_told (Rests line drains (Serving a false [])) w s rests
each_told line a drains (k ∷ ks) w s four eight once rests run =
    then_tells (λ (x : World). λ (r : Replay). Rests line drains (Serving a false (raised_in x a ks)) x r) (Rests line drains (Serving a false [])) w s
    (attention line a k w) (each (attention line a) ks)
    (attention_told line a k drains (unit_at w (unit_on a k)).drive.attention ks w s four (eight k (inl refl)) once.0 refl rests
    (run_split w (attention line a k w) _ run).0)
    (λ at. each_told line a drains ks _ _ four (λ j. λ among. eight j (inr among)) once.1 at
    (run_split w (attention line a k w) _ run).1)

pub are_drives : (k : ℕ) → Among k drives → k < 8
are_drives k among = search rules

drives_once : Once drives
drives_once =
    ((λ among. grind (arith, among)), ((λ among. grind (arith, among)), ((λ among. grind (arith, among)), ((λ among. grind (arith, among)), ((λ among. grind (arith, among)), ((λ among. grind (arith, among)), ((λ among. grind (arith, among)), ((λ among. among), tt))))))))

-- THE WHOLE ATTEND
pub attended_told : (line a : ℕ) (drains : Bool) (w : World) (s : Replay) → a < 4
    → Rests line drains (Serving a (adapter_at w a).state.completion (raised_in w a drives)) w s → Run w (attended line a w)
    → Tells (IsOverWithin line drains) w s (attended line a w)
attended_told line a drains w s four rests run =
    let parts : Run w (data_interrupt line a w) × Run (after_all w (data_interrupt line a w)) _ = run_split w (data_interrupt line a w) _ run in
    then_tells (IsInterrupted line drains a (raised_in w a drives) w) (IsOverWithin line drains) w s (data_interrupt line a w)
    (and_then (each (attention line a) drives) (adapter_start line a))
    (interrupt_told line a drains (adapter_at w a).state.completion (raised_in w a drives) w s four refl rests parts.0)
    (λ at. later _ _ at parts.1)
  where
    later : (x : World) (r : Replay) → IsInterrupted line drains a (raised_in w a drives) w x r
        → Run x (and_then (each (attention line a) drives) (adapter_start line a) x)
        → Tells (IsOverWithin line drains) x r (and_then (each (attention line a) drives) (adapter_start line a) x)
    later x r at run =
        let both : Run x (each (attention line a) drives x) × Run (after_all x (each (attention line a) drives x)) _ =
        run_split x (each (attention line a) drives x) _ run in
        then_tells (Rests line drains (Serving a false [])) (IsOverWithin line drains) x r (each (attention line a) drives x) (adapter_start line a)
        (each_told line a drains drives x r four are_drives drives_once
        (subst (λ (l : List ℕ). Rests line drains (Serving a false l) x r)
        (sym (raised_same w x a drives (λ k. λ among. at.same k (are_drives k among)))) at.rests) both.0)
        (λ rests. start_told line a drains _ _ four rests both.1)
