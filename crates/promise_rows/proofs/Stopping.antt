-- What is promised of a stop refuses these outcomes.
use Rattle.std.proofs.Common.{◌≡◌, inl, inr, ℕ, ◌+◌, ◌-◌, ◌*◌, ◌<◌, ◌≤◌, Bool, true, false, List, [], ◌∷◌, ◌++◌, Option, Some, refl, sym, ap, subst, arith, ◌∙◌}
use Rattle.std.proofs.lemmas.List.{append_assoc, append_cancel_left, append-nil}
use Rattle.outside_traits.specs.declared.traits.PackCall.{PackCall}
use Rattle.outside_traits.specs.declared.traits.PackCall.TheVariants.{Length, Block}
use Rattle.pack_geometry.specs.declared.DriveKind.{DriveKind}
use Rattle.pack_geometry.specs.Geometry.{block_count, copy_at, sectors_of}
use Rattle.bad144_table.specs.Copies.{IsAtCopy}
use Rattle.mba_autoconf.specs.Attach.{IsAttaching}
use Rattle.trace_replay.specs.Script.{Script, drives_of}
use Rattle.script_runs.specs.Attaching.{AttachesOne}
use Rattle.cached_run.specs.Answers.{answers_of, text_of}
use Rattle.cached_run.specs.Theorem.{contents}
use Rattle.trace_replay.specs.requests.Requests.{Answer}
use Rattle.trace_replay.specs.Moments.{Moment, Deed, Told, Sector, End}
use Rattle.trace_replay.specs.Replay.{Replay, after_moments}
use Rattle.trace_replay.specs.Runs.{start_of}
use Rattle.trace_replay.specs.Text.{trace_text, moment_text}
use Rattle.trace_lines.specs.answers.AnswerText.{out_text}
use Rattle.driver_laws.specs.answers.Outcome.{IsFront}
use Rattle.driver_laws.proofs.answers.Joined.{text_append}
use Rattle.script_runs.specs.Ahead.{IsBetween, lines_told}
use Rattle.script_runs.specs.Writing.{WriteNothing, was_written_at}
use Rattle.promise_rows.specs.Stopping.{AnswerBeforeItsLine, TwoBlocksAhead, TextDropped, TextSentTwice, IsBeforeTheTable, PlayedAnswersDropped, CachedAnswersDropped, AnswersDroppedAtARead}

pub nothing_more : (said text : List ℕ) → said ≡ said ++ text → text ≡ []
nothing_more said text is = append_cancel_left said text [] (sym is ∙ sym (append-nil said))

no_front : (a b : List ℕ) → a ++ b ≡ [] → a ≡ []
no_front [] b is = refl
no_front (x ∷ a) b is = absurd (cc is)

-- what is no longer has nothing more
not_longer : (said more : List ℕ) → IsFront (said ++ more) said → more ≡ []
not_longer said more f = no_front more f.rest (nothing_more said (more ++ f.rest) (f.whole ∙ append_assoc said more f.rest))

-- AN ANSWER has a line.
ended : (line unit id : ℕ) (answer : Answer) → moment_text (Told line unit id (End answer)) ≡ [] → ⊥
ended line unit id answer is = absurd (cc is)

none_told : (taken : List ℕ) (sent told untold late : List Moment) (line unit id : ℕ) (answer : Answer) → Told line unit id (End answer) ∷ late ≡ told ++ untold
    → IsFront (taken ++ trace_text (sent ++ told)) (taken ++ trace_text sent) → told ≡ []
none_told taken sent [] untold late line unit id answer cut f = refl
none_told taken sent (m ∷ told) untold late line unit id answer cut f =
    let first : Told line unit id (End answer) ≡ m = cc cut in
    let more : List ℕ = moment_text m ++ trace_text told in
    let longer : IsFront ((taken ++ trace_text sent) ++ more) (taken ++ trace_text sent) =
    subst (λ (text : List ℕ). IsFront text (taken ++ trace_text sent)) (ap (λ (text : List ℕ). taken ++ text) (text_append sent (m ∷ told)) ∙ sym (append_assoc taken (trace_text sent) more)) f in
    absurd (ended line unit id answer (ap moment_text first ∙ no_front (moment_text m) (trace_text told) (not_longer (taken ++ trace_text sent) more longer)))

just : (text text' : List ℕ) → IsBetween text text text' → text' ≡ text
just text text' between =
    between.least.whole ∙ ap (λ (more : List ℕ). text ++ more) (not_longer text between.least.rest (subst (λ (t : List ℕ). IsFront t text) between.least.whole between.most)) ∙ append-nil text

pub answer_before_its_line : AnswerBeforeItsLine
answer_before_its_line said said' taken sent late line unit id answer tells other =
    let none : tells.told ≡ [] = none_told taken sent tells.told tells.untold late line unit id answer tells.cut (tells.trace refl).least in
    other (just (said ++ out_text sent) said' (subst (λ (ms : List Moment). IsBetween (said ++ out_text sent) (said ++ out_text ms) said')
    (ap (λ (ms : List Moment). sent ++ ms) none ∙ append-nil sent) (tells.out refl)))

never : (b : Bool) → b ≡ true → b ≡ false → ⊥
never true on off = absurd (cc off)
never false on off = absurd (cc on)

-- OF WHAT CAME LATE one moment at most tells of a block that was written.
one_written : (start : Replay) (sent move quiet late : List Moment) (line unit id line' unit' id' : ℕ) (deed deed' : Deed) → Told line unit id deed ∷ Told line' unit' id' deed' ∷ late ≡ move ++ quiet
    → lines_told move ≤ 1 → WriteNothing (after_moments start (sent ++ move)) quiet
    → was_written_at (after_moments start sent) (Told line unit id deed) ≡ true
    → was_written_at (after_moments start (sent ++ Told line unit id deed ∷ [])) (Told line' unit' id' deed') ≡ true → ⊥
one_written start sent [] quiet late line unit id line' unit' id' deed deed' cut few nothing one other =
    let same : after_moments start (sent ++ []) ≡ after_moments start sent = ap (after_moments start) (append-nil sent) in
    let none : WriteNothing (after_moments start sent) (Told line unit id deed ∷ Told line' unit' id' deed' ∷ late) =
    subst (λ (s : Replay). WriteNothing s (Told line unit id deed ∷ Told line' unit' id' deed' ∷ late)) same (subst (WriteNothing (after_moments start (sent ++ []))) (sym cut) nothing) in
    never (was_written_at (after_moments start sent) (Told line unit id deed)) one none.0
one_written start sent (m ∷ []) quiet late line unit id line' unit' id' deed deed' cut few nothing one other =
    let first : Told line unit id deed ≡ m = cc cut in
    let rest : Told line' unit' id' deed' ∷ late ≡ quiet = cc cut in
    let same : after_moments start (sent ++ m ∷ []) ≡ after_moments start (sent ++ Told line unit id deed ∷ []) = ap (λ (n : Moment). after_moments start (sent ++ n ∷ [])) (sym first) in
    let none : WriteNothing (after_moments start (sent ++ Told line unit id deed ∷ [])) (Told line' unit' id' deed' ∷ late) =
    subst (λ (s : Replay). WriteNothing s (Told line' unit' id' deed' ∷ late)) same (subst (WriteNothing (after_moments start (sent ++ m ∷ []))) (sym rest) nothing) in
    never (was_written_at (after_moments start (sent ++ Told line unit id deed ∷ [])) (Told line' unit' id' deed')) other none.0
one_written start sent (m ∷ n ∷ move) quiet late line unit id line' unit' id' deed deed' cut few nothing one other =
    let first : Told line unit id deed ≡ m = cc cut in
    let second : Told line' unit' id' deed' ≡ n = cc cut in
    let two : lines_told (Told line unit id deed ∷ Told line' unit' id' deed' ∷ move) ≤ 1 =
    subst (λ (x : Moment). lines_told (x ∷ Told line' unit' id' deed' ∷ move) ≤ 1) (sym first) (subst (λ (x : Moment). lines_told (m ∷ x ∷ move) ≤ 1) (sym second) few) in
    many (lines_told move) two
  where
    many : (n : ℕ) → n + 1 + 1 ≤ 1 → ⊥
    many n less = omega (arith, less)

pub two_blocks_ahead : TwoBlocksAhead
two_blocks_ahead script tables first held sent late line unit id block line' unit' id' block' moved moved' one other ahead =
    one_written (start_of script tables first) sent ahead.move ahead.quiet late line unit id line' unit' id' (Sector block moved) (Sector block' moved') ahead.cut ahead.one.few ahead.nothing one other

pub text_dropped : TextDropped
text_dropped script tables first left out trace stops calm tells other = other (stops.lines.whole calm tells)

pub text_sent_twice : TextSentTwice
text_sent_twice script tables first left out trace stops calm tells some twice =
    let text : List ℕ = trace_text (stops.reached.sent ++ stops.reached.late) in
    some (nothing_more text text (append_cancel_left trace.before text (text ++ text) (sym (stops.lines.whole calm tells) ∙ twice)))

-- A BLOCK BEFORE THE TABLE'S TRACK is none of the copies, so no call at it attaches a unit.
pub no_copy : (unit block other : ℕ) (kind : DriveKind) (call : PackCall) → block < block_count kind - sectors_of kind → call ≡ Block unit block → IsAttaching kind other call → ⊥
no_copy unit block other kind call before is (inl asked) = apart (sym is ∙ asked)
  where
    apart : Block unit block ≡ Length other → ⊥
    apart e = cc
no_copy unit block other kind call before is (inr copy) = behind block (block_count kind) (sectors_of kind) copy.copy before (same (sym is ∙ copy.at))
  where
    same : Block unit block ≡ Block other (copy_at kind copy.copy) → block ≡ copy_at kind copy.copy
    same e = cc

    behind : (b c s k : ℕ) → b < c - s → b ≡ c - s + 2 * k → ⊥
    behind b c s k less e = omega (arith, less, e)

none_attached : (script : Script) (call : PackCall) → IsBeforeTheTable script call → AttachesOne script call → ⊥
none_attached script call at one =
    no_copy at.unit at.block one.unit at.kind call at.before at.is (subst (λ (k : DriveKind). IsAttaching k one.unit call) (same_kind (unit_is one.attaching)) one.attaching)
  where
    -- the two units are one, so their drives are
    named : (unit other block copy : ℕ) → Block unit block ≡ Block other copy → unit ≡ other
    named unit other block copy e = cc

    apart : (unit other block : ℕ) → Block unit block ≡ Length other → ⊥
    apart unit other block e = cc

    unit_is : IsAttaching one.kind one.unit call → at.unit ≡ one.unit
    unit_is (inl asked) = absurd (apart at.unit one.unit at.block (sym at.is ∙ asked))
    unit_is (inr copy) = named at.unit one.unit at.block (copy_at one.kind copy.copy) (sym at.is ∙ copy.at)

    some_same : (a b : DriveKind) → ◌≡◌ {A = Option DriveKind} (Some a) (Some b) → a ≡ b
    some_same a b e = cc

    same_kind : at.unit ≡ one.unit → one.kind ≡ at.kind
    same_kind e = some_same one.kind at.kind (sym one.declared ∙ ap (drives_of script) (sym e) ∙ at.declared)

played_answers_dropped : PlayedAnswersDropped
played_answers_dropped script first left call out trace at took some (inl unplayed) = none_attached script call at unplayed.attaches
played_answers_dropped script first left call out trace at took some (inr stops) =
    some stops (nothing_more out.before (out_text (stops.stopped.reached.sent ++ stops.stopped.reached.late)) (sym took.none ∙ stops.stopped.answers.whole took.calm took.tells))

cached_answers_dropped : CachedAnswersDropped
cached_answers_dropped capacity script first left call out trace at took some (inl unplayed) = none_attached script call at unplayed.attaches
cached_answers_dropped capacity script first left call out trace at took some (inr stops) =
    some stops (nothing_more out.before (text_of (answers_of (drives_of script) (contents script stops.tables first) stops.before)) (sym took.none ∙ stops.whole took.calm took.tells))

pub answers_dropped_at_a_read : AnswersDroppedAtARead
answers_dropped_at_a_read = (played_answers_dropped, cached_answers_dropped)
