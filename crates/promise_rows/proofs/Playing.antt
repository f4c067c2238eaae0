-- What is promised of `play` refuses these outcomes.
use Rattle.std.proofs.Common.{◌≡◌, inl, inr, ℕ, suc, ◌+◌, ◌-◌, ◌^◌, ◌<◌, ◌≤◌, ◌==◌, Bool, true, false, List, [], ◌∷◌, ◌++◌, length, min, refl, sym, ap, subst, arith, ◌∙◌}
use Rattle.std.specs.Prelude.{if◌then◌else◌, Contains}
use Rattle.std.specs.Fmt as fmt
use Rattle.std.proofs.lemmas.Bool.{eq-eqb}
use Rattle.std.proofs.lemmas.List.{append_cancel_left, append-nil}
use Rattle.pack_geometry.specs.Homes.{contents_of}
use Rattle.trace_replay.specs.requests.Requests.{Answer}
use Rattle.script_reader.specs.Meaning.{meaning}
use Rattle.hardware_table.specs.Noise.{LiveNoise}
use Rattle.trace_replay.specs.Moments.{Moment, Played, Told, Idle, Deed, Search, Seek, Recal, Offset, Centre, Clear, Pack as Packs, Transfer, Arrive, Sector, Intr, Try, Attn, End, Answered, answers_in}
use Rattle.trace_replay.specs.Script.{Noise, Script, drives_of, ids_of, inputs_of}
use Rattle.driver_laws.proofs.invariant.SlotsLists.{Contains-none}
use Rattle.driver_laws.specs.rules.Laws.{HoldMap}
use Rattle.driver_laws.specs.rules.LastWrites.{left_behind}
use Rattle.driver_laws.specs.rules.LegalAnswers.{times_answered}
use Rattle.driver_laws.specs.rules.Promises.{Promises}
use Rattle.trace_lines.specs.answers.AnswerText.{out_text, said_text}
use Rattle.trace_lines.specs.answers.Blocks as blocks
use Rattle.trace_lines.specs.declared.answers.tally.Tally.{Tally}
use Rattle.event_player.specs.Plays.{Plays}
use Rattle.promise_rows.specs.Playing.{AlwaysAFault, AnswersKeptBack, BlockBeforeItsEvent, BlockBehindAStop, BlockOfNoUnit, NoiseLineUncounted, ShortLastBlockWhole}

-- A COUNT that did not rise
pub always_a_fault : AlwaysAFault
always_a_fault count less rose = not_next count less rose
  where
    not_next : (n : ℕ) → n < 2 ^ 64 - 1 → min (n + 1) (2 ^ 64 - 1) ≤ n → ⊥
    not_next n less le = omega (arith, less, le)

-- NO TEXT, no answers
said_something : (line unit id : ℕ) (answer : Answer) (rest : List ℕ) → said_text (Told line unit id (End answer)) ++ rest ≡ [] → ⊥
said_something line unit id answer rest is = absurd (cc is)

no_text : (deed : Deed) (line unit id : ℕ) (ms : List Moment) → (out_text ms ≡ [] → answers_in ms ≡ []) → out_text (Told line unit id deed ∷ ms) ≡ [] → answers_in (Told line unit id deed ∷ ms) ≡ []
no_text (End answer) line unit id ms rest is = absurd (said_something line unit id answer (out_text ms) is)
no_text other line unit id ms rest is = rest is

nothing_behind : (a b : List ℕ) → a ++ b ≡ [] → b ≡ []
nothing_behind [] b is = is
nothing_behind (x ∷ a) b is = absurd (cc is)

no_answers : (ms : List Moment) → out_text ms ≡ [] → answers_in ms ≡ []
no_answers [] is = refl
no_answers (Played line input ∷ ms) is = no_answers ms (nothing_behind (said_text (Played line input)) (out_text ms) is)
no_answers (Idle line ∷ ms) is = no_answers ms is
no_answers (Told line unit id deed ∷ ms) is = no_text deed line unit id ms (no_answers ms) is

nothing_more : (said text : List ℕ) → said ≡ said ++ text → text ≡ []
nothing_more said text is = append_cancel_left said text [] (sym is ∙ sym (append-nil said))

pub answers_kept_back : AnswersKeptBack
answers_kept_back left left_after old new said trace_tells taken taken' id h asked =
    let plays : Plays (meaning h.lines h.count) old new true said said trace_tells taken taken' = h.plays refl in
    let promises : Promises (meaning h.lines h.count) plays.tables old new plays.moments = h.keeps refl in
    let none : answers_in plays.moments ≡ [] = no_answers plays.moments (nothing_more said (out_text plays.moments) (plays.out refl)) in
    none_once (times_answered id (answers_in plays.moments)) (promises.once id asked) (ap (times_answered id) none)
  where
    none_once : (n : ℕ) → n ≡ 1 → n ≡ 0 → ⊥
    none_once n one none = omega (arith, one, none)

-- NOTHING IS ASKED, nothing is answered: so each data block is as it was.
none_answered : (answers : List Answered) → ((id : ℕ) → times_answered id answers ≡ 0) → answers ≡ []
none_answered [] none = refl
none_answered (a ∷ answers) none = absurd (one_more (a.id == a.id) (times_answered a.id answers) (eq-eqb a.id a.id refl) (none a.id))
  where
    one_more : (b : Bool) (n : ℕ) → b ≡ true → (if b then 1 else 0) + n ≡ 0 → ⊥
    one_more true n on is = omega (arith, is)
    one_more false n on is = absurd (cc on)

none_asked : (ids : List ℕ) (id : ℕ) → ids ≡ [] → ¬ (Contains ids id)
none_asked ids id none has = Contains-none id (subst (λ (xs : List ℕ). Contains xs id) none has)

pub block_before_its_event : BlockBeforeItsEvent
block_before_its_event left left_after old new out_tells said said' trace_tells taken taken' h told none unit block kind there less other =
    let script : Script = meaning h.lines h.count in
    let plays : Plays script old new out_tells said said' trace_tells taken taken' = h.plays told in
    let promises : Promises script plays.tables old new plays.moments = h.keeps told in
    let silent : answers_in plays.moments ≡ [] = none_answered (answers_in plays.moments) (λ id. promises.no_other id (none_asked (ids_of script.lines) id none)) in
    let held : HoldMap (drives_of script) plays.tables new (left_behind (drives_of script) (inputs_of script) (contents_of (drives_of script) plays.tables old) (answers_in plays.moments)) =
    promises.passed_on.left in
    let first : HoldMap (drives_of script) plays.tables new (contents_of (drives_of script) plays.tables old) =
    subst (λ (answers : List Answered). HoldMap (drives_of script) plays.tables new (left_behind (drives_of script) (inputs_of script) (contents_of (drives_of script) plays.tables old) answers)) silent held in
    other (first unit block kind there less)

-- THE PACK of a unit that is not declared stays.
pub block_of_no_unit : BlockOfNoUnit
block_of_no_unit left left_after old new out_tells said said' trace_tells taken taken' h unit none other = other ((h.keeps refl).rest.others unit none)

pub block_behind_a_stop : BlockBehindAStop
block_behind_a_stop script tables first left out_tells said said' trace_tells taken taken' stops unit none other =
    other (stops.reached.ahead.packs.surface.others unit none)

-- A LINE OF NOISE is text.
noise_said : (line : ℕ) (noise : LiveNoise) (before after : List Moment) → out_text (before ++ Played line (Noise noise) ∷ after) ≡ [] → ⊥
noise_said line noise [] after is = absurd (cc is)
noise_said line noise (m ∷ before) after is = noise_said line noise before after (nothing_behind (said_text m) (out_text (before ++ Played line (Noise noise) ∷ after)) is)

no_length : (text : List ℕ) → min (length text) (2 ^ 64 - 1) ≡ 0 → text ≡ []
no_length [] is = refl
no_length (x ∷ text) is = absurd (more (length text) is)
  where
    more : (n : ℕ) → min (suc n) (2 ^ 64 - 1) ≡ 0 → ⊥
    more n is = omega (arith, is)

pub noise_line_uncounted : NoiseLineUncounted
noise_line_uncounted script old new out_tells said said' trace_tells taken taken' tally t line noise before after is none =
    noise_said line noise before after (subst (λ (ms : List Moment). out_text ms ≡ []) is
    (no_length (out_text t.plays.moments) (sym (ap (λ (x : Tally). x.text) t.is) ∙ none)))

pub short_last_block_whole : ShortLastBlockWhole
unfolding blocks.blocks_in fmt.digits
short_last_block_whole = refl
