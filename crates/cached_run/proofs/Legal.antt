-- THE ANSWERS ARE LEGAL: those that a map gives one by one are steps of the block machine, each at its own line.
use Rattle.std.proofs.Common.{◌≡◌, ℕ, zero, suc, ◌+◌, ◌-◌, ◌*◌, ◌/◌, ◌≤◌, Bool, true, false, List, [], ◌∷◌, ◌++◌, length, take, Option, None, Some, refl, sym, ap, ◌∙◌, subst, arith, length-append}
use Rattle.std.specs.Prelude.{IsSome, is_some, if◌then◌else◌, ◌==◌, ◌&&◌, nat_le, nat_lt}
use Rattle.std.proofs.lemmas.Bool.{eq-eqb}
use Rattle.std.proofs.lemmas.Bool.Decides.{nat_tests}
use Rattle.pack_geometry.specs.declared.DriveKind.{DriveKind}
use Rattle.partitions.specs.declared.Admission.{Admission}
use Rattle.partitions.specs.declared.Admission.TheVariants.{Inside, Eof, Outside}
use Rattle.trace_replay.specs.requests.Requests.{Request, IsRequest, Answer, ReadOk, WriteOk}
use Rattle.trace_replay.specs.Script.{Input, Submit, ArriveAt, MoveAt, AttendTo, Drain, Turn, Noise, Arm, SetOnline, SetLocked, Numbered}
use Rattle.trace_replay.specs.Moments.{Answered}
use Rattle.trace_replay.specs.Service.{frames_needed}
use Rattle.trace_replay.specs.Packs.{size_of_block, sector_of_block}
use Rattle.trace_replay.specs.Replay.{submission_by}
use Rattle.driver_laws.specs.rules.Machine.{Blocks, Machine, idle, without, meets, submitted, answers_at_once, after_input, answers_of_input, AreUsable, bytes_or_none, bytes_of_first, blocks_done, blocks_after, done_in, MayAnswer, Step, Steps}
use Rattle.driver_laws.specs.rules.LegalAnswers.{AnswersAt, AnswersTo, all_claimed}
use Rattle.driver_laws.proofs.rules.Blocks.{sector_full}
use Rattle.buffer_cache.proofs.Passes.{none_unusable, first_is}
use Rattle.driver_laws.specs.rules.Waited.{first_unusable, answer_by, answer_at, map_at}
use Rattle.cached_run.specs.Answers.{met_by, first_by, answer_to, map_after, with_answer, map_by, answers_of, map_of_inputs}

-- ---- frames are there: a request has 129 at the most
frames_are : (r : Request) → IsRequest r → nat_le (0 + frames_needed r) 16384 ≡ true
frames_are r is =
    let few = is.few in let bytes = is.in_block in let offset = is.in_frame in
    le_tells (0 + frames_needed r) 16384 (small (r.offset + 512 * (r.count - 1) + r.last + 511) (omega (arith, few, bytes, offset)))
  where
    small : (n : ℕ) → n ≤ 66046 → 0 + n / 512 ≤ 16384
    small n le = omega (arith, le)

    le_tells : (a b : ℕ) → a ≤ b → nat_le a b ≡ true
    le_tells a b le = grind (arith, nat_tests)

-- ---- blocks of 512 bytes
abbrev pub LongMap : (ℕ → Blocks) → Type 0
LongMap map = (u b : ℕ) (bytes : List ℕ) → map u b ≡ Some bytes → length bytes ≡ 512

some_is : {x y : List ℕ} → ◌≡◌ {A = Option (List ℕ)} (Some x) (Some y) → x ≡ y
some_is e = cc

long_done : (blocks : Blocks) (first : ℕ) (r : Request) (n b : ℕ) (bytes : List ℕ) → ((bytes : List ℕ) → blocks b ≡ Some bytes → length bytes ≡ 512) → blocks_done blocks first r n b ≡ Some bytes → length bytes ≡ 512
long_done blocks first r n b bytes long = by (is_some r.written && (nat_le first b && nat_lt b (first + n)))
  where
    by : (t : Bool) → (if t then Some (sector_of_block r (b - first)) else blocks b) ≡ Some bytes → length bytes ≡ 512
    by true e = ap length (sym (some_is e)) ∙ sector_full r (b - first)
    by false e = long bytes e

long_after : (map : ℕ → Blocks) (first : ℕ) (r : Request) (answer : Answer) → LongMap map → LongMap (blocks_after map first r answer)
long_after map first r answer long u b bytes = by (u == r.unit)
  where
    by : (t : Bool) → (if t then blocks_done (map u) first r (done_in answer r) else map u) b ≡ Some bytes → length bytes ≡ 512
    by true e = long_done (map u) first r (done_in answer r) b bytes (long u b) e
    by false e = long u b bytes e

long_met : (met : Admission) (map : ℕ → Blocks) (first : ℕ) (r : Request) (answer : Answer) → LongMap map → LongMap (map_at met map first r answer)
long_met (Inside at) map first r answer long = long_after map first r answer long
long_met other map first r answer long = long

-- how many bytes a read has
bytes_long : (held : Option (List ℕ)) → IsSome held → ((bytes : List ℕ) → held ≡ Some bytes → length bytes ≡ 512) → length (bytes_or_none held) ≡ 512
bytes_long None some long = absurd (search arith)
bytes_long (Some bytes) some long = long bytes refl

took : (n : ℕ) (xs : List ℕ) → n ≤ length xs → length (take n xs) ≡ n
took zero xs le = refl
took (suc n) [] le = absurd (omega (arith, le))
took (suc n) (x ∷ xs) le = ap (λ k. suc k) (took n xs (omega (arith, le)))

module _ (blocks : Blocks) (first : ℕ) (r : Request) (is : IsRequest r) (long : (b : ℕ) (bytes : List ℕ) → blocks b ≡ Some bytes → length bytes ≡ 512) where
  one_block : (n : ℕ) → IsSome (blocks (first + n)) → length (take (size_of_block r n) (bytes_or_none (blocks (first + n)))) ≡ size_of_block r n
  one_block n some =
      let all = bytes_long (blocks (first + n)) some (long (first + n)) in
      took (size_of_block r n) (bytes_or_none (blocks (first + n))) (subst (λ k. size_of_block r n ≤ k) (sym all) (fits (n + 1 == r.count)))
    where
      fits : (t : Bool) → (if t then r.last else 512) ≤ 512
      fits true = is.in_block
      fits false = omega arith

  whole_blocks : (n : ℕ) → n + 1 ≤ r.count → AreUsable blocks first n → length (bytes_of_first n blocks first r) ≡ 512 * n
  whole_blocks zero le usable = refl
  whole_blocks (suc n) le usable =
      let before = whole_blocks n (omega (arith, le)) (λ k lt. usable k (omega (arith, lt))) in
      let size : size_of_block r n ≡ 512 = ap (λ t. if t then r.last else 512) (not_last n r.count le) in
      length-append (bytes_of_first n blocks first r) (take (size_of_block r n) (bytes_or_none (blocks (first + n))))
      ∙ ap (λ k. k + length (take (size_of_block r n) (bytes_or_none (blocks (first + n))))) before
      ∙ ap (λ k. 512 * n + k) (one_block n (usable n (omega arith)) ∙ size) ∙ next n
    where
      not_last : (n count : ℕ) → suc n + 1 ≤ count → (n + 1 == count) ≡ false
      not_last n count le = grind (arith, nat_tests)

      next : (n : ℕ) → 512 * n + 512 ≡ 512 * suc n
      next n = omega arith

  all_blocks : (n : ℕ) → r.count ≡ suc n → AreUsable blocks first r.count → length (bytes_of_first r.count blocks first r) ≡ 512 * (r.count - 1) + r.last
  all_blocks n count usable =
      let before = whole_blocks n (omega (arith, count)) (λ k lt. usable k (omega (arith, lt, count))) in
      let size : size_of_block r n ≡ r.last = ap (λ t. if t then r.last else 512) (is_last n r.count count) in
      ap (λ k. length (bytes_of_first k blocks first r)) count
      ∙ length-append (bytes_of_first n blocks first r) (take (size_of_block r n) (bytes_or_none (blocks (first + n))))
      ∙ ap (λ k. k + length (take (size_of_block r n) (bytes_or_none (blocks (first + n))))) before
      ∙ ap (λ k. 512 * n + k) (one_block n (usable n (omega (arith, count))) ∙ size)
      ∙ at_last n r.last
      ∙ ap (λ k. 512 * (k - 1) + r.last) (sym count)
    where
      at_last : (n last : ℕ) → 512 * n + last ≡ 512 * (suc n - 1) + last
      at_last n last = omega arith

      is_last : (n count : ℕ) → count ≡ suc n → (n + 1 == count) ≡ true
      is_last n count e = grind (arith, nat_tests)

  -- WHAT THE MAP GIVES may be answered
  may_by : (unusable : Option ℕ) → first_unusable r.count blocks first 0 ≡ unusable → MayAnswer (all_claimed 0 r) blocks first r (answer_by unusable blocks first r)
  may_by (Some done) e =
      let f = first_is r.count blocks first 0 done e in
      let below = f.below in
      (omega (arith, below), λ k lt. f.before k (omega arith) lt, f.unusable)
  may_by None e = by (r.written) refl
    where
      usable : AreUsable blocks first r.count
      usable k lt = none_unusable r.count blocks first 0 e k (omega arith) (omega (arith, lt))

      count_is : (n : ℕ) → 1 ≤ n → n ≡ suc (n - 1)
      count_is n some = omega (arith, some)

      by : (written : Option (List ℕ)) → r.written ≡ written → MayAnswer (all_claimed 0 r) blocks first r (if is_some r.written then WriteOk else ReadOk (bytes_of_first r.count blocks first r))
      by None none = subst (λ t. MayAnswer (all_claimed 0 r) blocks first r (if t then WriteOk else ReadOk (bytes_of_first r.count blocks first r))) (sym (ap is_some none))
          (none, usable, all_blocks (r.count - 1) (count_is r.count is.some) usable, λ claimed. refl)
      by (Some bytes) some = subst (λ t. MayAnswer (all_claimed 0 r) blocks first r (if t then WriteOk else ReadOk (bytes_of_first r.count blocks first r))) (sym (ap is_some some))
          (ap is_some some, usable)

-- ---- ONE INPUT
abbrev joined_machine : (ℕ → Blocks) → Request → Machine
joined_machine map r = record { blocks = map; outstanding = r ∷ [] }

module _ (drives : ℕ → Option DriveKind) (map : ℕ → Blocks) (line : ℕ) (r : Request) (is : IsRequest r) (long : LongMap map) where
  abbrev Told : Answered
  Told = record { line = line; id = r.id; answer = answer_to drives map r }

  meets_is : (met : Admission) → met_by drives r ≡ met → meets drives (idle map) r ≡ submission_by met true
  meets_is met e = ap (λ z. submission_by z (nat_le (0 + frames_needed r) 16384)) e ∙ ap (λ t. submission_by met t) (frames_are r is)

  answer_is : (met : Admission) → met_by drives r ≡ met → answer_to drives map r ≡ answer_at met (map r.unit) (first_by drives r) r
  answer_is met e = ap (λ z. answer_at z (map r.unit) (first_by drives r) r) e

  map_is : (met : Admission) → met_by drives r ≡ met → map_after drives map r ≡ map_at met map (first_by drives r) r (answer_to drives map r)
  map_is met e = ap (λ z. map_at z map (first_by drives r) r (answer_to drives map r)) e

  one_step : (at : ℕ) → met_by drives r ≡ Inside at → Step drives all_claimed (joined_machine map r) Told (idle (map_after drives map r))
  one_step at e = record {
    request = r;
    found = rw (eq-eqb r.id r.id refl) refl;
    may = subst (λ z. MayAnswer (all_claimed line r) (map r.unit) (first_by drives r) r z) (sym (answer_is (Inside at) e))
        (may_by (map r.unit) (first_by drives r) r is (long r.unit) (first_unusable r.count (map r.unit) (first_by drives r) 0) refl);
    is = ap idle (map_is (Inside at) e) ∙ ap (λ z. record { blocks = blocks_after map (first_by drives r) r (answer_to drives map r); outstanding = z }) (sym none_left);
  }
    where
      none_left : without r.id (r ∷ []) ≡ []
      none_left = rw (eq-eqb r.id r.id refl) refl

  answered_at : AnswersAt drives all_claimed (idle map) (record { line = line; input = Submit r }) (Told ∷ []) (idle (map_after drives map r))
  answered_at = by (met_by drives r) refl
    where
      by : (met : Admission) → met_by drives r ≡ met → AnswersAt drives all_claimed (idle map) (record { line = line; input = Submit r }) (Told ∷ []) (idle (map_after drives map r))
      by Outside e = record {
        later = [];
        order = ap (λ z. record { line = line; id = r.id; answer = z } ∷ []) (answer_is Outside e) ∙ sym (ap (λ s. answers_at_once line r s ++ []) (meets_is Outside e));
        steps = ap idle (map_is Outside e) ∙ sym (ap (submitted (idle map) r) (meets_is Outside e));
      }
      by Eof e = record {
        later = [];
        order = ap (λ z. record { line = line; id = r.id; answer = z } ∷ []) (answer_is Eof e) ∙ sym (ap (λ s. answers_at_once line r s ++ []) (meets_is Eof e));
        steps = ap idle (map_is Eof e) ∙ sym (ap (submitted (idle map) r) (meets_is Eof e));
      }
      by (Inside at) e = record {
        later = Told ∷ [];
        order = sym (ap (λ s. answers_at_once line r s ++ Told ∷ []) (meets_is (Inside at) e));
        steps = subst (λ m. Steps drives all_claimed line m (Told ∷ []) (idle (map_after drives map r))) (sym (ap (submitted (idle map) r) (meets_is (Inside at) e)))
            (refl, idle (map_after drives map r), one_step at e, refl);
      }

-- ---- ALL INPUTS
abbrev pub IsAskedWell : Input → Type 0
IsAskedWell (Submit r) = IsRequest r
IsAskedWell input = Unit {0}

abbrev pub AreAskedWell : List Numbered → Type 0
AreAskedWell [] = Unit {0}
AreAskedWell (n ∷ inputs) = IsAskedWell n.input × AreAskedWell inputs

-- an input that asks for nothing
quiet_at : (drives : ℕ → Option DriveKind) (map : ℕ → Blocks) (n : Numbered) → answers_of_input drives (idle map) n.line n.input ≡ [] → after_input drives (idle map) n.input ≡ idle map
    → AnswersAt drives all_claimed (idle map) n [] (idle map)
quiet_at drives map n none same = record { later = []; order = sym (ap (λ z. z ++ []) none); steps = sym same }

pub long_by : (drives : ℕ → Option DriveKind) (map : ℕ → Blocks) (input : Input) → LongMap map → LongMap (map_by drives map input)
long_by drives map (Submit r) long = long_met (met_by drives r) map (first_by drives r) r (answer_to drives map r) long
long_by drives map other long = long

pub answers_legal : (drives : ℕ → Option DriveKind) (inputs : List Numbered) (map : ℕ → Blocks) → AreAskedWell inputs → LongMap map
    → AnswersTo drives all_claimed (idle map) inputs (answers_of drives map inputs) (idle (map_of_inputs drives map inputs))
answers_legal drives [] map all long = (refl, refl)
answers_legal drives (n ∷ inputs) map all long = by n.input all.0 (answers_legal drives inputs (map_by drives map n.input) all.1 (long_by drives map n.input long))
  where
    Rest : (ℕ → Blocks) → Type 0
    Rest next = AnswersTo drives all_claimed (idle next) inputs (answers_of drives next inputs) (idle (map_of_inputs drives next inputs))

    by : (input : Input) → IsAskedWell input → Rest (map_by drives map input)
        → AnswersTo drives all_claimed (idle map) (record { line = n.line; input = input } ∷ inputs)
        (with_answer drives map n.line input (answers_of drives (map_by drives map input) inputs)) (idle (map_of_inputs drives (map_by drives map input) inputs))
    by (Submit r) is rest = (
      record { line = n.line; id = r.id; answer = answer_to drives map r } ∷ [],
      answers_of drives (map_after drives map r) inputs,
      idle (map_after drives map r),
      refl,
      answered_at drives map n.line r is long,
      rest,
    )
    by (ArriveAt u) is rest = ([], answers_of drives map inputs, idle map, refl, quiet_at drives map (record { line = n.line; input = ArriveAt u }) refl refl, rest)
    by (MoveAt a) is rest = ([], answers_of drives map inputs, idle map, refl, quiet_at drives map (record { line = n.line; input = MoveAt a }) refl refl, rest)
    by (AttendTo a) is rest = ([], answers_of drives map inputs, idle map, refl, quiet_at drives map (record { line = n.line; input = AttendTo a }) refl refl, rest)
    by Drain is rest = ([], answers_of drives map inputs, idle map, refl, quiet_at drives map (record { line = n.line; input = Drain }) refl refl, rest)
    by (Turn u s) is rest = ([], answers_of drives map inputs, idle map, refl, quiet_at drives map (record { line = n.line; input = Turn u s }) refl refl, rest)
    by (Noise noise) is rest = ([], answers_of drives map inputs, idle map, refl, quiet_at drives map (record { line = n.line; input = Noise noise }) refl refl, rest)
    by (Arm u k t) is rest = ([], answers_of drives map inputs, idle map, refl, quiet_at drives map (record { line = n.line; input = Arm u k t }) refl refl, rest)
    by (SetOnline u on) is rest = ([], answers_of drives map inputs, idle map, refl, quiet_at drives map (record { line = n.line; input = SetOnline u on }) refl refl, rest)
    by (SetLocked u on) is rest = ([], answers_of drives map inputs, idle map, refl, quiet_at drives map (record { line = n.line; input = SetLocked u on }) refl refl, rest)

pub long_inputs : (drives : ℕ → Option DriveKind) (inputs : List Numbered) (map : ℕ → Blocks) → LongMap map → LongMap (map_of_inputs drives map inputs)
long_inputs drives [] map long = long
long_inputs drives (n ∷ inputs) map long = long_inputs drives inputs (map_by drives map n.input) (long_by drives map n.input long)
