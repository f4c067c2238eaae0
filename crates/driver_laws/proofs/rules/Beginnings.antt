-- The answers of a legal beginning are those of the machine, line by line.
use Rattle.std.proofs.Common.{◌≡◌, ℕ, ◌<◌, ◌≤◌, ◌+◌, ◌==◌, nat_lt, true, false, List, [], ◌∷◌, ◌++◌, append_assoc, Option, Some, refl, sym, ap, ◌∙◌, subst, arith}
use Rattle.std.specs.List.{AllByRecursion, list_any}
use Rattle.std.proofs.lemmas.Bool.Decides.{nat_tests}
use Rattle.pack_geometry.specs.declared.DriveKind.{DriveKind}
use Rattle.pack_geometry.specs.PackTable.{AreTablesOf}
use Rattle.fire_code.specs.Noise.{IsAlias}
use Rattle.hardware_table.specs.Noise.{LiveNoise}
use Rattle.trace_replay.specs.requests.Requests.{Request, first_block, Answer, ReadOk}
use Rattle.trace_replay.specs.Script.{Input, Submit, Noise, Numbered, AreApart}
use Rattle.trace_replay.specs.Moments.{Deed, Search, Moment, Played, Told, Idle, Answered, played, answers_in}
use Rattle.trace_replay.specs.Replay.{Replay, next_wish, Follows, after_moment, after_moments, Submission, Refused, Joined}
use Rattle.trace_replay.specs.Events.{NoLine}
use Rattle.driver_laws.specs.rules.Machine.{Blocks, Machine, MayAnswer, Steps, kind_of, after_input, answers_of_input, meets, submitted as machine_submitted}
use Rattle.driver_laws.specs.rules.LegalAnswers.{AnswersTo}
use Rattle.driver_laws.specs.rules.Stands.{Setup, home_in, StandsFor, owed, armed_by, armed_behind}
use Rattle.driver_laws.proofs.rules.MachineUnits.{Keeps}
use Rattle.driver_laws.proofs.rules.Keeping.{no_line_told, no_line_idle}
use Rattle.driver_laws.proofs.rules.Kept.{moment_kept}
use Rattle.driver_laws.proofs.rules.Lines.{told_line}
use Rattle.driver_laws.proofs.rules.Inputs.{append_nil}
use Rattle.driver_laws.proofs.rules.Steps.{moment_step}
use Rattle.driver_laws.proofs.rules.Asked.{AreFree, free_after_steps, free_joined}
use Rattle.driver_laws.proofs.rules.IdsAsked.{ids_asked, with_asked}
use Rattle.driver_laws.proofs.rules.MomentSteps.{AreGiven, IsNew, MomentStep, answers_of_moment, machine_at, sure_claims, told_by}

-- ---- fewer reads are claimed
fewer_claimed : (more less : Type 0) (blocks : Blocks) (first : ℕ) (r : Request) (answer : Answer) → (less → more) → MayAnswer more blocks first r answer → MayAnswer less blocks first r answer
fewer_claimed more less blocks first r (ReadOk bytes) implied may = (may.0, may.1, may.2, (λ claimed. may.3 (implied claimed)))
fewer_claimed more less blocks first r other implied may = may

pub steps_claim : (drives : ℕ → Option DriveKind) (more less : (line : ℕ) → Request → Type 0) (line : ℕ) (m : Machine) (answers : List Answered) (new : Machine) → ((r : Request) → less line r → more line r)
    → Steps drives more line m answers new → Steps drives less line m answers new
steps_claim drives more less line m [] new implied steps = steps
steps_claim drives more less line m (a ∷ answers) new implied steps = (
  steps.0,
  steps.1,
  record {
    request = steps.2.request;
    found = steps.2.found;
    may = fewer_claimed (more a.line steps.2.request) (less a.line steps.2.request) (m.blocks steps.2.request.unit) (first_block (kind_of drives steps.2.request.unit) steps.2.request) steps.2.request a.answer
        (λ claimed. subst (λ z. more z steps.2.request) (sym steps.0) (implied steps.2.request (subst (λ z. less z steps.2.request) steps.0 claimed))) steps.2.may;
    is = steps.2.is;
  },
  steps_claim drives more less line steps.1 answers new implied steps.3,
)

pub steps_join : (drives : ℕ → Option DriveKind) (claims : (line : ℕ) → Request → Type 0) (line : ℕ) (m : Machine) (first : List Answered) (mid : Machine) (more : List Answered) (new : Machine)
    → Steps drives claims line m first mid → Steps drives claims line mid more new → Steps drives claims line m (first ++ more) new
steps_join drives claims line m [] mid more new one two = subst (λ z. Steps drives claims line z more new) one two
steps_join drives claims line m (a ∷ first) mid more new one two = (one.0, one.1, one.2, steps_join drives claims line one.1 first mid more new one.3 two)

-- ---- noise that was armed leaves claims alone
abbrev pub covered_by : Setup → ((line : ℕ) → Request → Type 0) → ℕ → Input → Type 0
covered_by setup claims at (Noise noise) =
    (line : ℕ) (r : Request) (k : ℕ) → at ≤ line → claims line r → k < r.count → noise.unit ≡ r.unit
    → home_in setup r.unit (first_block (kind_of setup.drives r.unit) r + k) ≡ Some noise.block → ¬ (IsAlias noise.places)
covered_by setup claims at input = Unit {0}

abbrev pub AreCovered : Setup → ((line : ℕ) → Request → Type 0) → List Numbered → Type 0
AreCovered setup claims inputs = AllByRecursion (λ (n : Numbered). covered_by setup claims n.line n.input) inputs

abbrev pub Covers : Setup → ((line : ℕ) → Request → Type 0) → List LiveNoise → ℕ → Type 0
Covers setup claims armed from = (line : ℕ) (r : Request) → from ≤ line → claims line r → sure_claims setup armed line r

later_covers : (setup : Setup) (claims : (line : ℕ) → Request → Type 0) (armed : List LiveNoise) (from line : ℕ) → from ≤ line → Covers setup claims armed from → Covers setup claims armed line
later_covers setup claims armed from line before covers at r le claimed = covers at r (omega (arith, before, le)) claimed

still_covers : (setup : Setup) (claims : (line : ℕ) → Request → Type 0) (armed : List LiveNoise) (from line : ℕ) (input : Input) → from ≤ line → covered_by setup claims line input → Covers setup claims armed from
    → Covers setup claims (armed_by armed input) line
still_covers setup claims armed from line (Noise n) before is covers = λ at r le claimed k sector lt home.
    (later_covers setup claims armed from line before covers at r le claimed k sector lt home, (λ unit here. is at r k le claimed lt unit (home ∙ ap Some (sym here))))
still_covers setup claims armed from line other before is covers = later_covers setup claims armed from line before covers

-- ---- ids that are to come stay free
free_submitted : (r : Request) (ids : List ℕ) (m : Machine) (met : Submission) → list_any (λ other. other == r.id) ids ≡ false → AreFree ids m.outstanding → AreFree ids (machine_submitted m r met).outstanding
free_submitted r ids m (Refused why) apart free = free
free_submitted r ids m Joined apart free = free_joined ids r m.outstanding apart free

-- what of the ids of an input and those behind it is known
pub record AreToCome (drives : ℕ → Option DriveKind) (m : Machine) (input : Input) (ids : List ℕ) : Type 0 where
  pub apart : AreApart ids
  pub free : AreFree ids (after_input drives m input).outstanding

come_behind : (drives : ℕ → Option DriveKind) (m : Machine) (line : ℕ) (input : Input) (ids : List ℕ) → AreApart (with_asked input ids) → AreFree (with_asked input ids) m.outstanding
    → IsNew m (Played line input) × AreToCome drives m input ids
come_behind drives m line (Submit r) ids apart free = (free.0, record { apart = apart.1; free = free_submitted r ids m (meets drives m r) apart.0 free.1 })
come_behind drives m line other ids apart free = (tt, record { apart = apart; free = free })

-- ---- FROM A STATE ON. First the answers of the line that was played last, and then those to the lines behind it.
pub record Goes (setup : Setup) (claims : (line : ℕ) → Request → Type 0) (armed : List LiveNoise) (s : Replay) (m : Machine) (ms : List Moment) : Type 0 where
  pub later : List Answered
  pub rest : List Answered
  pub mid : Machine
  pub last : Machine
  pub order : answers_in ms ++ owed (after_moments s ms) ≡ owed s ++ (later ++ rest)
  pub steps : Steps setup.drives claims s.event.line m later mid
  pub more : AnswersTo setup.drives claims mid (played ms) rest last
  pub stands : StandsFor setup (armed_behind armed (played ms)) (after_moments s ms) last

-- before a line of the script
pub record GoesOn (setup : Setup) (claims : (line : ℕ) → Request → Type 0) (armed : List LiveNoise) (s : Replay) (m : Machine) (ms : List Moment) : Type 0 where
  pub rest : List Answered
  pub last : Machine
  pub order : answers_in ms ++ owed (after_moments s ms) ≡ owed s ++ rest
  pub more : AnswersTo setup.drives claims m (played ms) rest last
  pub stands : StandsFor setup (armed_behind armed (played ms)) (after_moments s ms) last

regroup : (a b c d e : List Answered) → (a ++ (b ++ c)) ++ (d ++ e) ≡ a ++ ((b ++ (c ++ d)) ++ e)
regroup a b c d e = simp append_assoc

regroup_told : (a b c d e f : List Answered) → a ++ b ≡ c ++ d → a ++ (b ++ (e ++ f)) ≡ c ++ ((d ++ e) ++ f)
regroup_told a b c d e f is = sym (append_assoc a b (e ++ f)) ∙ ap (λ z. z ++ (e ++ f)) is ∙ simp append_assoc

pub played_goes : (setup : Setup) (claims : (line : ℕ) → Request → Type 0) (armed : List LiveNoise) (s : Replay) (m : Machine) (line : ℕ) (input : Input) (ms : List Moment) → nat_lt s.event.line line ≡ true
    → Covers setup claims armed s.event.line → (step : MomentStep setup armed s m (Played line input)) → Goes setup claims (armed_by armed input) (after_moment s (Played line input)) step.new ms
    → GoesOn setup claims armed s m (Played line input ∷ ms)
played_goes setup claims armed s m line input ms after covers step g = record {
  rest = (answers_of_input setup.drives m line input ++ (step.later ++ g.later)) ++ g.rest;
  last = g.last;
  order = g.order ∙ ap (λ z. z ++ (g.later ++ g.rest)) step.order ∙ regroup (owed s) (answers_of_input setup.drives m line input) step.later g.later g.rest;
  more = (
    answers_of_input setup.drives m line input ++ (step.later ++ g.later),
    g.rest,
    g.mid,
    refl,
    record {
      later = step.later ++ g.later;
      order = refl;
      steps = steps_join setup.drives claims line (after_input setup.drives m input) step.later step.new g.later g.mid
          (steps_claim setup.drives (sure_claims setup armed) claims line (after_input setup.drives m input) step.later step.new (λ r claimed. covers line r (before s.event.line line after) claimed) step.steps) g.steps;
    },
    g.more,
  );
  stands = g.stands;
}
  where
    before : (a b : ℕ) → nat_lt a b ≡ true → a ≤ b
    before a b is = grind (arith, nat_tests)

answers_told : (line unit id : ℕ) (deed : Deed) (ms : List Moment) → answers_in (Told line unit id deed ∷ ms) ≡ told_by (Told line unit id deed) ++ answers_in ms
answers_told line unit id (Search c y) ms = refl
answers_told line unit id other ms = refl

le_same : (n : ℕ) → n ≤ n
le_same n = omega arith

-- a line of the trace, and an idle line
told_goes : (setup : Setup) (claims : (line : ℕ) → Request → Type 0) (armed : List LiveNoise) (s : Replay) (m : Machine) (moment : Moment) (ms : List Moment) → (after_moment s moment).event.line ≡ s.event.line
    → machine_at setup.drives m moment ≡ m → answers_of_moment setup.drives m moment ≡ [] → answers_in (moment ∷ ms) ≡ told_by moment ++ answers_in ms → played (moment ∷ ms) ≡ played ms
    → Covers setup claims armed s.event.line → (step : MomentStep setup armed s m moment) → Goes setup claims armed (after_moment s moment) step.new ms
    → Goes setup claims armed s m (moment ∷ ms)
told_goes setup claims armed s m moment ms same still none told lines covers step g = record {
  later = step.later ++ g.later;
  rest = g.rest;
  mid = g.mid;
  last = g.last;
  order = ap (λ z. z ++ owed (after_moments s (moment ∷ ms))) told ∙ append_assoc (told_by moment) (answers_in ms) (owed (after_moments s (moment ∷ ms))) ∙ ap (λ z. told_by moment ++ z) g.order
      ∙ regroup_told (told_by moment) (owed (after_moment s moment)) (owed s) step.later g.later g.rest (step.order ∙ ap (λ z. owed s ++ (z ++ step.later)) none);
  steps = steps_join setup.drives claims s.event.line m step.later step.new g.later g.mid
      (steps_claim setup.drives (sure_claims setup armed) claims s.event.line m step.later step.new (λ r claimed. covers s.event.line r (le_same s.event.line) claimed)
      (subst (λ z. Steps setup.drives (sure_claims setup armed) s.event.line z step.later step.new) still
      (subst (λ z. Steps setup.drives (sure_claims setup armed) z (machine_at setup.drives m moment) step.later step.new) same step.steps)))
      (subst (λ z. Steps setup.drives claims z step.new g.later g.mid) same g.steps);
  more = subst (λ z. AnswersTo setup.drives claims g.mid z g.rest g.last) (sym lines) g.more;
  stands = subst (λ z. StandsFor setup (armed_behind armed z) (after_moments s (moment ∷ ms)) g.last) (sym lines) g.stands;
}

goes_from_line : (setup : Setup) (claims : (line : ℕ) → Request → Type 0) (armed : List LiveNoise) (s : Replay) (m : Machine) (ms : List Moment) → GoesOn setup claims armed s m ms → Goes setup claims armed s m ms
goes_from_line setup claims armed s m ms g = record { later = []; rest = g.rest; mid = m; last = g.last; order = g.order; steps = refl; more = g.more; stands = g.stands }

pub goes : (setup : Setup) (claims : (line : ℕ) → Request → Type 0) (armed : List LiveNoise) (s : Replay) (m : Machine) (ms : List Moment) → AreTablesOf setup.drives setup.packs setup.tables → Keeps setup s
    → StandsFor setup armed s m → Follows s ms → AreGiven setup.drives ms → AreApart (ids_asked (played ms)) → AreFree (ids_asked (played ms)) m.outstanding → AreCovered setup claims (played ms)
    → Covers setup claims armed s.event.line → Goes setup claims armed s m ms
goes setup claims armed s m [] are k h follows inputs apart free covered covers =
    record { later = []; rest = []; mid = m; last = m; order = sym (append_nil (owed s)); steps = refl; more = (refl, refl); stands = h }
goes setup claims armed s m (Played line input ∷ ms) are k h follows inputs apart free covered covers =
    let come : IsNew m (Played line input) × AreToCome setup.drives m input (ids_asked (played ms)) = come_behind setup.drives m line input (ids_asked (played ms)) apart free in
    let step : MomentStep setup armed s m (Played line input) = moment_step setup armed s m (Played line input) are k h follows.0 inputs.0 come.0 in
    goes_from_line setup claims armed s m (Played line input ∷ ms)
    (played_goes setup claims armed s m line input ms follows.0.later covers step
    (goes setup claims (armed_by armed input) (after_moment s (Played line input)) step.new ms are (moment_kept setup s (Played line input) k inputs.0 follows.0) step.stands follows.1 inputs.1 come.1.apart
    (free_after_steps setup.drives (sure_claims setup armed) line (ids_asked (played ms)) step.later (after_input setup.drives m input) step.new step.steps come.1.free) covered.1
    (still_covers setup claims armed s.event.line line input (before s.event.line line follows.0.later) covered.0 covers)))
  where
    before : (a b : ℕ) → nat_lt a b ≡ true → a ≤ b
    before a b is = grind (arith, nat_tests)
goes setup claims armed s m (Told line unit id deed ∷ ms) are k h follows inputs apart free covered covers =
    let step : MomentStep setup armed s m (Told line unit id deed) = moment_step setup armed s m (Told line unit id deed) are k h follows.0 inputs.0 tt in
    told_goes setup claims armed s m (Told line unit id deed) ms (told_line setup s line unit id deed k follows.0) refl refl (answers_told line unit id deed ms) refl covers step
    (goes setup claims armed (after_moment s (Told line unit id deed)) step.new ms are (moment_kept setup s (Told line unit id deed) k inputs.0 follows.0) step.stands follows.1 inputs.1 apart
    (free_after_steps setup.drives (sure_claims setup armed) (after_moment s (Told line unit id deed)).event.line (ids_asked (played ms)) step.later m step.new step.steps free) covered
    (subst (Covers setup claims armed) (sym (told_line setup s line unit id deed k follows.0)) covers))
goes setup claims armed s m (Idle line ∷ ms) are k h follows inputs apart free covered covers =
    let step : MomentStep setup armed s m (Idle line) = moment_step setup armed s m (Idle line) are k h follows.0 inputs.0 tt in
    told_goes setup claims armed s m (Idle line) ms refl refl refl refl refl covers step
    (goes setup claims armed (after_moment s (Idle line)) step.new ms are (moment_kept setup s (Idle line) k inputs.0 follows.0) step.stands follows.1 inputs.1 apart
    (free_after_steps setup.drives (sure_claims setup armed) s.event.line (ids_asked (played ms)) step.later m step.new step.steps free) covered covers)

-- ---- where no line is to come the next moment is a line of the script
pub goes_on_from : (setup : Setup) (claims : (line : ℕ) → Request → Type 0) (armed : List LiveNoise) (s : Replay) (m : Machine) (ms : List Moment) → next_wish s ≡ NoLine → AreTablesOf setup.drives setup.packs setup.tables
    → Keeps setup s → StandsFor setup armed s m → Follows s ms → AreGiven setup.drives ms → AreApart (ids_asked (played ms)) → AreFree (ids_asked (played ms)) m.outstanding
    → AreCovered setup claims (played ms) → Covers setup claims armed s.event.line → GoesOn setup claims armed s m ms
goes_on_from setup claims armed s m [] rests are k h follows inputs apart free covered covers =
    record { rest = []; last = m; order = sym (append_nil (owed s)); more = (refl, refl); stands = h }
goes_on_from setup claims armed s m (Played line input ∷ ms) rests are k h follows inputs apart free covered covers =
    let come : IsNew m (Played line input) × AreToCome setup.drives m input (ids_asked (played ms)) = come_behind setup.drives m line input (ids_asked (played ms)) apart free in
    let step : MomentStep setup armed s m (Played line input) = moment_step setup armed s m (Played line input) are k h follows.0 inputs.0 come.0 in
    played_goes setup claims armed s m line input ms follows.0.later covers step
    (goes setup claims (armed_by armed input) (after_moment s (Played line input)) step.new ms are (moment_kept setup s (Played line input) k inputs.0 follows.0) step.stands follows.1 inputs.1 come.1.apart
    (free_after_steps setup.drives (sure_claims setup armed) line (ids_asked (played ms)) step.later (after_input setup.drives m input) step.new step.steps come.1.free) covered.1
    (still_covers setup claims armed s.event.line line input (before s.event.line line follows.0.later) covered.0 covers))
  where
    before : (a b : ℕ) → nat_lt a b ≡ true → a ≤ b
    before a b is = grind (arith, nat_tests)
goes_on_from setup claims armed s m (Told line unit id deed ∷ ms) rests are k h follows inputs apart free covered covers = absurd (no_line_told s line unit id deed rests follows.0)
goes_on_from setup claims armed s m (Idle line ∷ ms) rests are k h follows inputs apart free covered covers = absurd (no_line_idle s rests follows.0.nothing)
