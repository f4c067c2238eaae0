-- Each event that finds something, and one that finds nothing.
use Rattle.std.proofs.Common.{◌≡◌, ◌≢◌, ◌⊎◌, inl, inr, ℕ, ◌==◌, ◌<◌, Bool, true, false, not, ◌&&◌, ◌||◌, filter, List, [], ◌∷◌, refl, sym, ap, arith, ◌∙◌, rules}
use Rattle.std.specs.Prelude.{if◌then◌else◌, nat_lt}
use Rattle.std.specs.Int.{bit_at}
use Rattle.std.proofs.lemmas.Nat.Bits.{bit_at-zero, same_from_bits_below}
use Rattle.std.proofs.lemmas.Bool.Decides.{eqb_tells}
use Rattle.pack_geometry.specs.Pack.{Pack}
use Rattle.trace_replay.specs.Moments.{Moment}
use Rattle.trace_replay.specs.Adapters as told
use Rattle.trace_replay.specs.Events.{NoLine, wanted, is_no_line, Act, Done, Serving, NothingToDo, serving}
use Rattle.trace_replay.specs.Events as event
use Rattle.trace_replay.specs.Replay.{Replay, next_wish, act_done, drained, after_moments, WorkMay}
use Rattle.driver_machine.specs.World.{World, unit_on, unit_at, adapter_at}
use Rattle.driver_machine.specs.Acts as deed
use Rattle.driver_machine.specs.Acts.{Nothing, after}
use Rattle.driver_machine.specs.Lines.{lines_of_all}
use Rattle.driver_machine.specs.Events.{attended, drives, can_attend}
use Rattle.driver_machine.specs.Sound.{Sound, Among}
use Rattle.driver_machine.proofs.DueFacts.{false_true}
use Rattle.driver_machine.specs.Runs.{Run}
use Rattle.driver_laws.specs.answers.Packs.{packs_after_all}
use Rattle.driver_laws.specs.shown.Within.{ShowsAll, Rests}
use Rattle.driver_laws.proofs.shown.Telling.{within_all, Tells, IsTold}
use Rattle.driver_laws.specs.shown.Calls.{IsSurfaceOf, IsOverWithin}
use Rattle.driver_laws.proofs.shown.Joined.{Followed, lines_follow, drained_by}
use Rattle.driver_laws.proofs.shown.Starting.{wish_resting, other_act}
use Rattle.driver_laws.proofs.shown.Attending.{raised_by, raised_in, are_drives, attended_told}

-- BEHIND LINES, where one came next at their beginning, a drain goes on.
some_told : (ms : List Moment) (s : Replay) → is_no_line (next_wish s) ≡ false → next_wish (within_all s ms) ≡ NoLine
    → drained_by ms (within_all s ms) ≡ drained (within_all s ms)
some_told [] s some over = absurd (false_true (sym some ∙ ap is_no_line over))
some_told (m ∷ ms) s some over = refl

pub drained_there : (s : Replay) → (drained s).there ≡ s.there
drained_there s = search rules

pub same_packs : (held new : ℕ → Pack) (s r : Replay) → r.surface ≡ s.surface → new ≡ held → IsSurfaceOf held s → IsSurfaceOf new r
same_packs held new s r surface same packs = search rules

pub is_told : (line : ℕ) (drains : Bool) (held : ℕ → Pack) (w : World) (s : Replay) (acts : List deed.Act) → IsSurfaceOf held s
    → is_no_line (next_wish s) ≡ false → Tells (IsOverWithin line drains) w s acts → IsTold line drains held w s acts
is_told line drains held w s acts packs some tells =
    let lines : Followed s (lines_of_all w acts) = lines_follow (lines_of_all w acts) s tells.follow in
    let is : after_moments s (lines_of_all w acts) ≡ drained (within_all s (lines_of_all w acts)) =
    lines.after ∙ some_told (lines_of_all w acts) s some tells.holds.over in
    record {
      follows = lines.follows;
      ends = record {
        last = within_all s (lines_of_all w acts);
        is = is;
        over = tells.holds;
        packs = same_packs held (packs_after_all w held acts) s (within_all s (lines_of_all w acts)) tells.surface (tells.packs held) packs;
      };
      there = ap (λ (r : Replay). r.there) is ∙ drained_there (within_all s (lines_of_all w acts)) ∙ tells.there;
    }

-- AN ATTEND: the interrupt and the attentions that the replay sees are those that the machine has.
bit_tested : (b : Bool) (n : ℕ) → n ≡ (if b then 1 else 0) → (n == 1) ≡ b
bit_tested true n is = ap (λ (k : ℕ). k == 1) is
bit_tested false n is = ap (λ (k : ℕ). k == 1) is

filter_is : (n : ℕ) (w : World) (a : ℕ) (ks : List ℕ)
    → ((k : ℕ) → Among k ks → (bit_at n k == 1) ≡ (unit_at w (unit_on a k)).drive.attention)
    → filter (λ drive. bit_at n drive == 1) ks ≡ raised_in w a ks
filter_is n w a [] same = refl
filter_is n w a (k ∷ ks) same = search (rules, (filter_is n w a ks (λ j. λ among. same j (inr among))))

pub attentive_is : (w : World) (s : Replay) (a : ℕ) → Sound w → ShowsAll w s → a < 4 → told.attentive (s.adapters a).state ≡ raised_in w a drives
attentive_is w s a sound shows four =
    filter_is (s.adapters a).state.attentions w a drives
    (λ k. λ among. bit_tested (unit_at w (unit_on a k)).drive.attention (bit_at (s.adapters a).state.attentions k)
    (ap (λ (n : ℕ). bit_at n k) (shows.adapters a four).attentions ∙ (sound.each_adapter a four).raised k (are_drives k among)))

pub completion_is : (w : World) (s : Replay) (a : ℕ) → Sound w → ShowsAll w s → a < 4
    → (s.adapters a).state.busy && (s.adapters a).state.completion ≡ (adapter_at w a).state.completion
completion_is w s a sound shows four = search rules

pub serving_is : (w : World) (s : Replay) (a : ℕ) → Sound w → ShowsAll w s → a < 4
    → serving a (s.adapters a).state ≡ Serving a (adapter_at w a).state.completion (raised_in w a drives)
serving_is w s a sound shows four =
    ap (λ (c : Bool). Serving a c (told.attentive (s.adapters a).state)) (completion_is w s a sound shows four)
    ∙ ap (λ (ks : List ℕ). Serving a (adapter_at w a).state.completion ks) (attentive_is w s a sound shows four)

-- it can attend where the machine can
all_down : (w : World) (a : ℕ) (ks : List ℕ) → raised_in w a ks ≡ [] → (k : ℕ) → Among k ks → (unit_at w (unit_on a k)).drive.attention ≡ false
all_down w a [] none k among = absurd among
all_down w a (j ∷ js) none k among = by_test (unit_at w (unit_on a j)).drive.attention refl none among (λ e. λ later. all_down w a js e k later)
  where
    by_test : (b : Bool) → (unit_at w (unit_on a j)).drive.attention ≡ b → raised_by b j (raised_in w a js) ≡ [] → Among k (j ∷ js)
        → (raised_in w a js ≡ [] → Among k js → (unit_at w (unit_on a k)).drive.attention ≡ false)
        → (unit_at w (unit_on a k)).drive.attention ≡ false
    by_test b is none among rest = search rules

none_up : (w : World) (a : ℕ) (ks : List ℕ) → ((k : ℕ) → Among k ks → (unit_at w (unit_on a k)).drive.attention ≡ false) → raised_in w a ks ≡ []
none_up w a [] down = refl
none_up w a (k ∷ ks) down =
    ap (λ (b : Bool). raised_by b k (raised_in w a ks)) (down k (inl refl)) ∙ none_up w a ks (λ j. λ among. down j (inr among))

among_drives : (k : ℕ) → k < 8 → Among k drives
among_drives k eight = grind (arith, eight)

bit_down : (b : Bool) (n : ℕ) → n ≡ (if b then 1 else 0) → n ≡ 0 → b ≡ false
bit_down true n is none = absurd (grind (arith, is, none))
bit_down false n is none = refl

down_bit : (b : Bool) (n : ℕ) → n ≡ (if b then 1 else 0) → b ≡ false → n ≡ 0
down_bit true n is down = absurd (false_true (sym down))
down_bit false n is down = is

some_raised : (w : World) (a : ℕ) → Sound w → a < 4
    → event.is_some_drive (raised_in w a drives) ≡ not ((adapter_at w a).state.attentions == 0)
some_raised w a sound four = by_list (raised_in w a drives) refl (eqb_tells (adapter_at w a).state.attentions 0)
  where
    raised : (k : ℕ) → k < 8 → bit_at (adapter_at w a).state.attentions k ≡ (if (unit_at w (unit_on a k)).drive.attention then 1 else 0)
    raised k eight = (sound.each_adapter a four).raised k eight

    all_zero : raised_in w a drives ≡ [] → (adapter_at w a).state.attentions ≡ 0
    all_zero none =
        same_from_bits_below 8 (adapter_at w a).state.attentions 0 (sound.each_adapter a four).small (omega arith)
        (λ k. λ eight. down_bit (unit_at w (unit_on a k)).drive.attention (bit_at (adapter_at w a).state.attentions k) (raised k eight)
        (all_down w a drives none k (among_drives k eight)) ∙ sym (bit_at-zero k))

    empty : (adapter_at w a).state.attentions ≡ 0 → raised_in w a drives ≡ []
    empty none =
        none_up w a drives (λ k. λ among. bit_down (unit_at w (unit_on a k)).drive.attention
        (bit_at (adapter_at w a).state.attentions k) (raised k (are_drives k among))
        (ap (λ (n : ℕ). bit_at n k) none ∙ bit_at-zero k))

    by_list : (l : List ℕ) → raised_in w a drives ≡ l
        → ((((adapter_at w a).state.attentions == 0) ≡ true) × ((adapter_at w a).state.attentions ≡ 0))
        ⊎ ((((adapter_at w a).state.attentions == 0) ≡ false) × ((adapter_at w a).state.attentions ≢ 0))
        → event.is_some_drive l ≡ not ((adapter_at w a).state.attentions == 0)
    by_list [] is (inl none) = ap not (sym none.0)
    by_list [] is (inr some) = absurd (some.1 (all_zero is))
    by_list (k ∷ ks) is (inl none) = absurd (some_none k ks (sym is ∙ empty none.1))
      where
        some_none : (k : ℕ) (ks : List ℕ) → k ∷ ks ≡ [] → ⊥
        some_none k ks e = grind (arith, e)
    by_list (k ∷ ks) is (inr some) = ap not (sym some.0)

pub can_attend_is : (w : World) (s : Replay) (a : ℕ) → Sound w → ShowsAll w s → a < 4
    → event.can_attend (s.adapters a).state ≡ can_attend (adapter_at w a)
can_attend_is w s a sound shows four =
    ap (λ (c : Bool). c || event.is_some_drive (told.attentive (s.adapters a).state)) (completion_is w s a sound shows four)
    ∙ ap (λ (ks : List ℕ). (adapter_at w a).state.completion || event.is_some_drive ks) (attentive_is w s a sound shows four)
    ∙ ap (λ (b : Bool). (adapter_at w a).state.completion || b) (some_raised w a sound four)

-- so a line comes next in it
pub serving_line : (s : Replay) (a : ℕ) (c : Bool) (ks : List ℕ) → c || event.is_some_drive ks ≡ true
    → is_no_line (event.wish_in_serving a (s.adapters a) c ks) ≡ false
serving_line s a c ks some = search rules

pub attend_told : (line a : ℕ) (drains : Bool) (held : ℕ → Pack) (w : World) (s : Replay) → a < 4
    → Rests line drains (serving a (s.adapters a).state) w s → IsSurfaceOf held s → can_attend (adapter_at w a) ≡ true → Run w (attended line a w)
    → IsTold line drains held w s (attended line a w)
attend_told line a drains held w s four rests packs can run =
    let at : Rests line drains (Serving a (adapter_at w a).state.completion (raised_in w a drives)) w s =
    other_act line drains (serving_is w s a rests.sound rests.shows four) rests in
    is_told line drains held w s (attended line a w) packs
    (ap is_no_line (wish_resting line drains (Serving a (adapter_at w a).state.completion (raised_in w a drives)) w s at)
    ∙ serving_line s a (adapter_at w a).state.completion (raised_in w a drives)
    (ap (λ (b : Bool). (adapter_at w a).state.completion || b) (some_raised w a rests.sound four) ∙ can))
    (attended_told line a drains w s four at run)

-- NOTHING TO DO
pub not_drained : (s : Replay) → s.event.drains && nat_lt 0 s.outstanding ≡ false → drained s ≡ s
not_drained s none = search rules

pub idle_told : (line : ℕ) (drains : Bool) (held : ℕ → Pack) (w : World) (s : Replay) → Rests line drains NothingToDo w s → IsSurfaceOf held s
    → s.event.drains && nat_lt 0 s.outstanding ≡ false → IsTold line drains held w s (Nothing line ∷ [])
idle_told line drains held w s rests packs none = record {
  follows = (record { number = sym rests.event.line_is; nothing = wish_resting line drains NothingToDo w s rests }, tt);
  ends = record {
    last = act_done s;
    is = sym (not_drained (act_done s) none);
    over = record {
      act = Done;
      rests = record {
        sound = rests.sound;
        shows = record {
          units = rests.shows.units;
          adapters = rests.shows.adapters;
          ready = rests.shows.ready;
          noise = rests.shows.noise;
          frames = rests.shows.frames;
          outstanding = rests.shows.outstanding;
        };
        event = record { line_is = rests.event.line_is; drains_is = rests.event.drains_is; act_is = refl; work = same_work s.event.between rests.event.work };
        quiet = rests.quiet;
      };
      over = ap (λ (b : Bool). wanted s.adapters (record s.event { act = Done }) b) (rests.quiet s.event.speaker);
    };
    packs = record { sectors = packs.sectors; marks = packs.marks };
  };
  there = refl;
}
  where
    same_work : (b : Bool) → WorkMay b s → WorkMay b (act_done s)
    same_work true work = work
    same_work false work = tt
