-- What is promised of a request that is waited for refuses these outcomes.
use Rattle.std.proofs.Common.{◌≡◌, ℕ, ◌+◌, ◌<◌, Bool, true, false, List, Option, None, Some, refl, sym, ap, ◌∙◌, arith}
use Rattle.std.specs.Prelude.{zero, IsSome, is_some, if◌then◌else◌}
use Rattle.partitions.specs.declared.Admission.{Admission}
use Rattle.partitions.specs.declared.Admission.TheVariants as met
use Rattle.trace_replay.specs.requests.Requests.{Request, Answer, ReadOk, WriteOk}
use Rattle.driver_laws.specs.rules.Machine.{Blocks, bytes_of_first}
use Rattle.driver_laws.specs.rules.Waited.{map_of, first_in, met_in, first_unusable, answer_by, answer_at}
use Rattle.blocking_io.specs.Asking.{Answers, setup_at}
use Rattle.blocking_io.specs.FrontsPasses.{reached_by}
use Rattle.blocking_io.specs.declared.reached.Reached.TheVariants.{Before}
use Rattle.blocking_io.proofs.FrontsBlocks.{first_is}
use Rattle.promise_rows.specs.Waited.{AnswerLeftUntaken, UnforwardedCountsTheBadBlock}

ok_is_all : (written : Bool) (bytes : List ℕ) (done : ℕ) → reached_by (if written then WriteOk else ReadOk bytes) ≡ Before done → ⊥
ok_is_all true bytes done is = cc is
ok_is_all false bytes done is = cc is

same_done : (n done : ℕ) → Before n ≡ Before done → n ≡ done
same_done n done is = cc is

usable_before : (block : Option (List ℕ)) → block ≡ None → IsSome block → ⊥
usable_before None none some = cc some
usable_before (Some bytes) none some = cc none

by_first : (blocks : Blocks) (first bad done : ℕ) (r : Request) (unusable : Option ℕ) → first_unusable r.count blocks first 0 ≡ unusable
    → blocks (first + bad) ≡ None → bad < done → reached_by (answer_by unusable blocks first r) ≡ Before done → ⊥
by_first blocks first bad done r None all none past is = ok_is_all (is_some r.written) (bytes_of_first r.count blocks first r) done is
by_first blocks first bad done r (Some n) found none past is =
    let here : n ≡ done = same_done n done is in
    usable_before (blocks (first + bad)) none ((first_is r.count blocks first 0 n found).before bad (omega arith) (omega (arith, here, past)))

by_met : (admission : Admission) (blocks : Blocks) (first bad done : ℕ) (r : Request)
    → blocks (first + bad) ≡ None → bad < done → reached_by (answer_at admission blocks first r) ≡ Before done → ⊥
by_met met.Outside blocks first bad done r none past is = cc is
by_met met.Eof blocks first bad done r none past is = cc is
by_met (met.Inside at) blocks first bad done r none past is = by_first blocks first bad done r (first_unusable r.count blocks first 0) refl none past is

pub answer_left_untaken : AnswerLeftUntaken
answer_left_untaken s ready waits = waits ready.quiet.taken

pub unforwarded_counts_the_bad_block : UnforwardedCountsTheBadBlock
unforwarded_counts_the_bad_block line bad done r old new answers tells tables none past is =
    let s = setup_at old in
    by_met (met_in s r) (map_of s r.unit) (first_in s r) bad done r none past (sym (answers.mapped tells tables).reached ∙ is)
