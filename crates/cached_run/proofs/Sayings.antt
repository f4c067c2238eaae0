-- What is said of a request is the text of its answer, by what the blocks of its unit hold.
use Rattle.std.proofs.Common.{◌≡◌, ℕ, zero, suc, ◌+◌, ◌-◌, ◌*◌, ◌<◌, ◌≤◌, ◌==◌, nat_lt, Bool, true, false, List, [], ◌∷◌, ◌++◌, length, take, drop, replicate, Option, None, Some, refl, sym, ap, ◌∙◌, subst, arith, append-nil, append_assoc}
use Rattle.std.specs.Prelude.{is_some, if◌then◌else◌, slice_index_or}
use Rattle.std.proofs.lemmas.Bool.Decides.{nat_tests}
use Rattle.std.proofs.lemmas.List.{take_more, take_all, length-take-le, get_or-take, drop-replicate, take-replicate, length-replicate}
use Rattle.std.proofs.Math.Seq.{take-append_seam}
use Rattle.pack_geometry.specs.declared.DriveKind.{DriveKind}
use Rattle.partitions.specs.declared.Part.TheVariants.{C}
use Rattle.partitions.specs.declared.Admission.{Admission}
use Rattle.partitions.specs.declared.Admission.TheVariants.{Inside, Eof, Outside}
use Rattle.partitions.specs.Partitions.{admission, first_of}
use Rattle.trace_replay.specs.requests.Requests.{Request, Answer, ReadOk, WriteOk, OutsidePartition, EndOfPartition, Failed, Unforwarded}
use Rattle.trace_replay.specs.declared.requests.answers.AnswerKind.{AnswerKind}
use Rattle.trace_replay.specs.declared.requests.answers.AnswerKind.TheVariants as answer
use Rattle.trace_replay.specs.declared.requests.answers.Cause.{Cause}
use Rattle.trace_replay.specs.declared.requests.answers.Cause.TheVariants as cause
use Rattle.trace_replay.specs.Packs.{sector_of_block}
use Rattle.driver_laws.specs.rules.Machine.{Blocks, bytes_or_none, bytes_of_first}
use Rattle.driver_laws.specs.rules.Waited.{first_unusable, answer_by, answer_at}
use Rattle.trace_lines.specs.answers.AnswerText.{answer_line, answer_text, block_texts}
use Rattle.trace_lines.specs.answers.Blocks.{joined, AreBlocks}
use Rattle.trace_lines.proofs.answers.TextLaws.{blocks_said}
use Rattle.buffer_cache.proofs.Passes.{first_is}
use Rattle.driver_laws.specs.rules.Requests.{Map, one_block}
use Rattle.script_reader.specs.declared.cached.statement.Asked.{Asked}
use Rattle.cached_run.specs.Answers.{answer_with, replaced, usable_of, replaced_at, replaced_with}
use Rattle.trace_replay.specs.Script.{Submit}
use Rattle.cached_run.specs.Sessions.{block_of, blocks_from, tried_of, blocks_at, calls_with}
use Rattle.cached_run.specs.Leaving.{AreRead, usable_in, tried_in, touches, spread}
use Rattle.script_reader.specs.cached.Meaning.{filled, one_filled, request_of}
use Rattle.cached_run.specs.Saying.{AreLong, IsSaid, kind_by, GivesAmong}
use Rattle.cached_run.proofs.Numbers.{from_none, itself, next_is, one_along, with_none}

-- ---- with no blocks
module _ (kind : DriveKind) (blocks : Blocks) (r : Request) (lines : List (List ℕ)) where
  said_as : (how : Answer) → answer_with kind blocks r ≡ how → (line : ℕ) → answer_text (record { line = line; id = r.id; answer = how }) ≡ answer_text (record { line = line; id = r.id; answer = answer_with kind blocks r })
  said_as how is line = sym (ap (λ z. answer_text (record { line = line; id = r.id; answer = z })) is)

  met_so : (met : Admission) → admission kind r.part r.block r.count ≡ met → answer_with kind blocks r ≡ answer_at met blocks (first_of kind r.part + r.block) r
  met_so met is = ap (λ z. answer_at z blocks (first_of kind r.part + r.block) r) is

  pub outside_said : admission kind r.part r.block r.count ≡ Outside → IsSaid kind blocks r (answer.Error cause.Partition 0) lines
  outside_said met long line = said_as OutsidePartition (met_so Outside met) line

  pub eof_said : admission kind r.part r.block r.count ≡ Eof → IsSaid kind blocks r answer.Eof lines
  eof_said met long line = said_as EndOfPartition (met_so Eof met) line

  failed_said : (done : ℕ) → answer_with kind blocks r ≡ Failed Unforwarded done → IsSaid kind blocks r (answer.Error cause.Unforwarded done) lines
  failed_said done is long line = said_as (Failed Unforwarded done) is line

  wrote_said : answer_with kind blocks r ≡ WriteOk → IsSaid kind blocks r answer.WriteOk lines
  wrote_said is long line = said_as WriteOk is line

-- no more blocks than there are
pub error_among : (why : Cause) (done : ℕ) (lines : List (List ℕ)) → GivesAmong (answer.Error why done) lines
error_among why done lines = λ count last e. absurd (never e)
  where
    never : {count last : ℕ} → answer.Error why done ≡ answer.ReadOk count last → ⊥
    never e = cc

-- ---- blocks of 512 bytes, one behind the other
joined_end : (xs : List (List ℕ)) (y : List ℕ) → joined (xs ++ y ∷ []) ≡ joined xs ++ y
joined_end [] y = append-nil y
joined_end (x ∷ xs) y = ap (λ z. x ++ z) (joined_end xs y) ∙ sym (append_assoc x (joined xs) y)

whole_size : {s : ℕ} (t : Bool) → (if t then s else s) ≡ s
whole_size true = refl
whole_size false = refl

module _ (blocks : Blocks) (first : ℕ) (r : Request) (whole : r.last ≡ 512) (lines : List (List ℕ)) (long : AreLong blocks) (room : r.count ≤ length lines)
    (are : (k : ℕ) → k < r.count → blocks (first + k) ≡ Some (slice_index_or lines k [])) where
  long_at : (k : ℕ) → k < r.count → length (slice_index_or lines k []) ≡ 512
  long_at k lt = long (first + k) (slice_index_or lines k []) (are k lt)

  size_at : (t : Bool) → (if t then r.last else 512) ≡ 512
  size_at true = whole
  size_at false = refl

  one_taken : (k : ℕ) → k < r.count → take (if k + 1 == r.count then r.last else 512) (bytes_or_none (blocks (first + k))) ≡ slice_index_or lines k []
  one_taken k lt =
      ap (λ z. take (if k + 1 == r.count then r.last else 512) (bytes_or_none z)) (are k lt)
      ∙ take_all (if k + 1 == r.count then r.last else 512) (slice_index_or lines k [])
      (subst (λ z. length (slice_index_or lines k []) ≤ z) (sym (size_at (k + 1 == r.count))) (fits (length (slice_index_or lines k [])) 512 (long_at k lt)))
    where
      fits : (a b : ℕ) → a ≡ b → a ≤ b
      fits a b e = omega (arith, e)

  bytes_are : (n : ℕ) → n ≤ r.count → bytes_of_first n blocks first r ≡ joined (take n lines)
  bytes_are zero le = refl
  bytes_are (suc n) le =
      ap (λ z. z ++ take (if n + 1 == r.count then r.last else 512) (bytes_or_none (blocks (first + n)))) (bytes_are n (omega (arith, le)))
      ∙ ap (λ z. joined (take n lines) ++ z) (one_taken n (omega (arith, le)))
      ∙ sym (joined_end (take n lines) (slice_index_or lines n []))
      ∙ ap joined (sym (take_more lines n [] (omega (arith, le, room))))
      ∙ ap (λ z. joined (take z lines)) (sym (next_is n))

  taken_at : (k : ℕ) → k < r.count → length (slice_index_or (take r.count lines) k []) ≡ 512
  taken_at k lt = ap length (get_or-take r.count lines k [] lt) ∙ long_at k lt

  how_many : length (take r.count lines) ≡ r.count
  how_many = length-take-le r.count lines room

  are_blocks : AreBlocks 512 (take r.count lines)
  are_blocks = record {
    whole = λ k lt. taken_at k (let e = how_many in omega (arith, lt, e));
    some = λ k is. let e = how_many in let l = taken_at k (omega (arith, is, e)) in omega (arith, l);
    few = λ k is. let e = how_many in let l = taken_at k (omega (arith, is, e)) in omega (arith, l);
  }

  pub read_text : (line id : ℕ) → answer_text (record { line = line; id = id; answer = ReadOk (joined (take r.count lines)) }) ≡ answer_text (record { line = line; id = id; answer = ReadOk (bytes_of_first r.count blocks first r) })
  read_text line id = ap (λ z. answer_text (record { line = line; id = id; answer = ReadOk z })) (sym (bytes_are r.count (itself r.count)))

  pub read_blocks_said : (line id : ℕ) → answer_text (record { line = line; id = id; answer = ReadOk (joined (take r.count lines)) }) ≡ answer_line line id (ReadOk (joined (take r.count lines))) ++ block_texts 0 (take r.count lines)
  read_blocks_said line id = blocks_said line id (take r.count lines) are_blocks

-- ---- A REQUEST THAT LIES INSIDE
below : (n count : ℕ) → n < count → nat_lt n count ≡ true
below n count lt = grind (arith, nat_tests)

not_below : (n count : ℕ) → n ≡ count → nat_lt n count ≡ false
not_below n count e = grind (arith, nat_tests)

kind_failed : (n count : ℕ) (whole : AnswerKind) → n < count → kind_by n count whole ≡ answer.Error cause.Unforwarded n
kind_failed n count whole lt = ap (λ t. if t then answer.Error cause.Unforwarded n else whole) (below n count lt)

kind_whole : (n count : ℕ) (whole : AnswerKind) → n ≡ count → kind_by n count whole ≡ whole
kind_whole n count whole e = ap (λ t. if t then answer.Error cause.Unforwarded n else whole) (not_below n count e)

module _ (kind : DriveKind) (blocks : Blocks) (r : Request) (done : ℕ) (lines : List (List ℕ)) (met : admission kind r.part r.block r.count ≡ Inside (first_of kind r.part + r.block)) where
  unforwarded : (whole : AnswerKind) (d : ℕ) → first_unusable r.count blocks (first_of kind r.part + r.block) 0 ≡ Some d → done ≡ d → IsSaid kind blocks r (kind_by done r.count whole) lines
  unforwarded whole d e same =
      let lt = (first_is r.count blocks (first_of kind r.part + r.block) 0 d e).below in
      subst (λ z. IsSaid kind blocks r z lines) (sym (kind_failed done r.count whole (under done d r.count same lt)))
      (failed_said kind blocks r lines done (met_so kind blocks r lines (Inside (first_of kind r.part + r.block)) met ∙ ap (λ z. answer_by z blocks (first_of kind r.part + r.block) r) e ∙ ap (λ z. Failed Unforwarded z) (sym same)))
    where
      under : (a b c : ℕ) → a ≡ b → b < 0 + c → a < c
      under a b c e lt = omega (arith, e, lt)

  answered_whole : first_unusable r.count blocks (first_of kind r.part + r.block) 0 ≡ None → answer_with kind blocks r ≡ (if is_some r.written then WriteOk else ReadOk (bytes_of_first r.count blocks (first_of kind r.part + r.block) r))
  answered_whole e = met_so kind blocks r lines (Inside (first_of kind r.part + r.block)) met ∙ ap (λ z. answer_by z blocks (first_of kind r.part + r.block) r) e

-- A WRITE
pub write_said : (kind : DriveKind) (blocks : Blocks) (r : Request) (bytes : List ℕ) (done : ℕ) (lines : List (List ℕ)) → r.written ≡ Some bytes
    → admission kind r.part r.block r.count ≡ Inside (first_of kind r.part + r.block)
    → done ≡ usable_of (first_unusable r.count blocks (first_of kind r.part + r.block) 0) r.count → IsSaid kind blocks r (kind_by done r.count answer.WriteOk) lines
write_said kind blocks r bytes done lines writes met is = by (first_unusable r.count blocks (first_of kind r.part + r.block) 0) refl
  where
    by : (unusable : Option ℕ) → first_unusable r.count blocks (first_of kind r.part + r.block) 0 ≡ unusable → IsSaid kind blocks r (kind_by done r.count answer.WriteOk) lines
    by (Some d) e = unforwarded kind blocks r done lines met answer.WriteOk d e (is ∙ ap (λ z. usable_of z r.count) e)
    by None e =
        subst (λ z. IsSaid kind blocks r z lines) (sym (kind_whole done r.count answer.WriteOk (is ∙ ap (λ z. usable_of z r.count) e)))
        (wrote_said kind blocks r lines (answered_whole kind blocks r done lines met e ∙ ap (λ z. if is_some z then WriteOk else ReadOk (bytes_of_first r.count blocks (first_of kind r.part + r.block) r)) writes))

-- A READ
pub read_said : (kind : DriveKind) (blocks : Blocks) (r : Request) (done : ℕ) (lines : List (List ℕ)) → r.written ≡ None → r.last ≡ 512 → r.count ≤ length lines
    → admission kind r.part r.block r.count ≡ Inside (first_of kind r.part + r.block)
    → done ≡ usable_of (first_unusable r.count blocks (first_of kind r.part + r.block) 0) r.count
    → ((k : ℕ) → k < done → blocks (first_of kind r.part + r.block + k) ≡ Some (slice_index_or lines k []))
    → IsSaid kind blocks r (kind_by done r.count (answer.ReadOk r.count 512)) lines
read_said kind blocks r done lines reads whole room met is are = by (first_unusable r.count blocks (first_of kind r.part + r.block) 0) refl
  where
    by : (unusable : Option ℕ) → first_unusable r.count blocks (first_of kind r.part + r.block) 0 ≡ unusable → IsSaid kind blocks r (kind_by done r.count (answer.ReadOk r.count 512)) lines
    by (Some d) e = unforwarded kind blocks r done lines met (answer.ReadOk r.count 512) d e (is ∙ ap (λ z. usable_of z r.count) e)
    by None e =
        let all : done ≡ r.count = is ∙ ap (λ z. usable_of z r.count) e in
        subst (λ z. IsSaid kind blocks r z lines) (sym (kind_whole done r.count (answer.ReadOk r.count 512) all))
        (λ long line.
        sym (read_blocks_said blocks (first_of kind r.part + r.block) r whole lines long room (λ k lt. are k (subst (λ z. k < z) (sym all) lt)) line r.id)
        ∙ read_text blocks (first_of kind r.part + r.block) r whole lines long room (λ k lt. are k (subst (λ z. k < z) (sym all) lt)) line r.id
        ∙ said_as kind blocks r lines (ReadOk (bytes_of_first r.count blocks (first_of kind r.part + r.block) r))
        (answered_whole kind blocks r done lines met e ∙ ap (λ z. if is_some z then WriteOk else ReadOk (bytes_of_first r.count blocks (first_of kind r.part + r.block) r)) reads) line)

-- ---- WHAT A WRITE REPLACES: blocks all of whose bytes are one
cut_out : (s a n x : ℕ) (ys : List ℕ) → a + s ≤ n → take s (take s (drop a (replicate n x)) ++ ys) ≡ replicate s x
cut_out s a n x ys le =
    ap (λ z. take s (take s z ++ ys)) (drop-replicate a n x)
    ∙ ap (λ z. take s (z ++ ys)) (take-replicate s (n - a) x (omega (arith, le)))
    ∙ subst (λ z. take z (replicate s x ++ ys) ≡ replicate s x) (length-replicate s x) (take-append_seam (replicate s x) ys)

module _ (a : Asked) (fill : ℕ) where
  sector_is : (k : ℕ) → k < a.count → sector_of_block (request_of a (Some (filled a.count fill))) k ≡ one_filled fill
  unfolding filled one_filled
  sector_is k lt =
      ap (λ z. take 512 (take z (drop (512 * k) (replicate (512 * a.count) fill)) ++ replicate 512 0)) (whole_size {s = 512} (k + 1 == a.count))
      ∙ cut_out 512 (512 * k) (512 * a.count) fill (replicate 512 0) (fits k a.count lt)
    where
      fits : (k n : ℕ) → k < n → 512 * k + 512 ≤ 512 * n
      fits k n lt = omega (arith, lt)

  spread_from : (n first k : ℕ) → k + n ≤ a.count → spread n a.unit (first + k) (one_filled fill) ≡ replaced n first k (request_of a (Some (filled a.count fill)))
  spread_from zero first k le = refl
  spread_from (suc n) first k le =
      ap (λ z. record { unit = a.unit; block = first + k; bytes = z } ∷ spread n a.unit ((first + k) + 1) (one_filled fill)) (sym (sector_is k (omega (arith, le))))
      ∙ ap (λ z. record { unit = a.unit; block = first + k; bytes = sector_of_block (request_of a (Some (filled a.count fill))) k } ∷ spread n a.unit z (one_filled fill)) (one_along first k)
      ∙ ap (λ z. record { unit = a.unit; block = first + k; bytes = sector_of_block (request_of a (Some (filled a.count fill))) k } ∷ z) (spread_from n first (k + 1) (omega (arith, le)))

  no_more : (unusable : Option ℕ) (blocks : Blocks) (first : ℕ) → first_unusable a.count blocks first 0 ≡ unusable → usable_of unusable a.count ≤ a.count
  no_more None blocks first e = itself a.count
  no_more (Some d) blocks first e = let lt = (first_is a.count blocks first 0 d e).below in omega (arith, lt)

  pub spread_is : (kind : DriveKind) (contents : Map) (first : ℕ) → admission kind C a.block a.count ≡ Inside first → first ≡ first_of kind C + a.block
      → spread (usable_in contents a.unit first a.count) a.unit first (one_filled fill) ≡ replaced_with kind (contents a.unit) (request_of a (Some (filled a.count fill)))
  spread_is kind contents first met is =
      let n : ℕ = usable_in contents a.unit first a.count in
      ap (λ z. spread n a.unit z (one_filled fill)) (with_none first)
      ∙ spread_from n first 0 (from_none n a.count (no_more (first_unusable a.count (contents a.unit) first 0) (contents a.unit) first refl))
      ∙ ap (λ z. replaced (usable_of (first_unusable a.count (contents a.unit) z 0) a.count) z 0 (request_of a (Some (filled a.count fill)))) is
      ∙ sym (ap (λ z. replaced_at z (contents a.unit) (first_of kind C + a.block) (request_of a (Some (filled a.count fill)))) met)

  -- and the blocks that are tried
  pub tried_from : (n line first k : ℕ) → k + n ≤ a.count → touches n line a.unit (first + k) (Some (one_filled fill)) ≡ blocks_from n line first k (request_of a (Some (filled a.count fill)))
  tried_from zero line first k le = refl
  tried_from (suc n) line first k le =
      ap (λ z. record { line = line; input = Submit (one_block a.unit (first + k) (Some z)) } ∷ touches n line a.unit ((first + k) + 1) (Some (one_filled fill))) (sym (sector_is k (omega (arith, le))))
      ∙ ap (λ z. record { line = line; input = Submit (block_of (request_of a (Some (filled a.count fill))) first k) } ∷ touches n line a.unit z (Some (one_filled fill))) (one_along first k)
      ∙ ap (λ z. record { line = line; input = Submit (block_of (request_of a (Some (filled a.count fill))) first k) } ∷ z) (tried_from n line first (k + 1) (omega (arith, le)))

pub tried_few : (a : Asked) (blocks : Blocks) (first : ℕ) → tried_of (first_unusable a.count blocks first 0) a.count ≤ a.count
tried_few a blocks first = by (first_unusable a.count blocks first 0) refl
  where
    by : (unusable : Option ℕ) → first_unusable a.count blocks first 0 ≡ unusable → tried_of unusable a.count ≤ a.count
    by None e = itself a.count
    by (Some d) e = let lt = (first_is a.count blocks first 0 d e).below in omega (arith, lt)

read_from : (n line first k : ℕ) (a : Asked) → touches n line a.unit (first + k) None ≡ blocks_from n line first k (request_of a None)
read_from zero line first k a = refl
read_from (suc n) line first k a =
    ap (λ z. record { line = line; input = Submit (one_block a.unit (first + k) None) } ∷ touches n line a.unit z None) (one_along first k)
    ∙ ap (λ z. record { line = line; input = Submit (one_block a.unit (first + k) None) } ∷ z) (read_from n line first (k + 1) a)

module _ (kind : DriveKind) (line : ℕ) (a : Asked) where
  pub touches_read : (contents : Map) (first : ℕ) → admission kind C a.block a.count ≡ Inside first → first ≡ first_of kind C + a.block
      → touches (tried_in contents a.unit first a.count) line a.unit first None ≡ calls_with kind (contents a.unit) line (request_of a None)
  touches_read contents first met is =
      let n : ℕ = tried_in contents a.unit first a.count in
      ap (λ z. touches n line a.unit z None) (with_none first)
      ∙ read_from n line first 0 a
      ∙ ap (λ z. blocks_from (tried_of (first_unusable a.count (contents a.unit) z 0) a.count) line z 0 (request_of a None)) is
      ∙ sym (ap (λ z. blocks_at z (contents a.unit) line (first_of kind C + a.block) (request_of a None)) met)

  pub touches_write : (fill : ℕ) (contents : Map) (first : ℕ) → admission kind C a.block a.count ≡ Inside first → first ≡ first_of kind C + a.block
      → touches (tried_in contents a.unit first a.count) line a.unit first (Some (one_filled fill)) ≡ calls_with kind (contents a.unit) line (request_of a (Some (filled a.count fill)))
  touches_write fill contents first met is =
      let n : ℕ = tried_in contents a.unit first a.count in
      ap (λ z. touches n line a.unit z (Some (one_filled fill))) (with_none first)
      ∙ tried_from a fill n line first 0 (from_none n a.count (tried_few a (contents a.unit) first))
      ∙ ap (λ z. blocks_from (tried_of (first_unusable a.count (contents a.unit) z 0) a.count) line z 0 (request_of a (Some (filled a.count fill)))) is
      ∙ sym (ap (λ z. blocks_at z (contents a.unit) line (first_of kind C + a.block) (request_of a (Some (filled a.count fill)))) met)

-- ---- THE SAME of what a line asks for
module _ (kind : DriveKind) (contents : Map) (a : Asked) (first done : ℕ) (met : admission kind C a.block a.count ≡ Inside first) (is : first ≡ first_of kind C + a.block) where
  its_met : admission kind C a.block a.count ≡ Inside (first_of kind C + a.block)
  its_met = met ∙ ap Inside is

  pub asked_read : (lines : List (List ℕ)) → a.count ≤ length lines → AreRead contents a.unit first a.count done lines
      → IsSaid kind (contents a.unit) (request_of a None) (kind_by done a.count (answer.ReadOk a.count 512)) lines
  asked_read lines room read =
      let at : AreRead contents a.unit (first_of kind C + a.block) a.count done lines = subst (λ z. AreRead contents a.unit z a.count done lines) is read in
      read_said kind (contents a.unit) (request_of a None) done lines refl refl room its_met at.done_is at.bytes

  pub asked_write : (fill : ℕ) (lines : List (List ℕ)) → done ≡ usable_in contents a.unit first a.count
      → IsSaid kind (contents a.unit) (request_of a (Some (filled a.count fill))) (kind_by done a.count answer.WriteOk) lines
  asked_write fill lines so =
      write_said kind (contents a.unit) (request_of a (Some (filled a.count fill))) (filled a.count fill) done lines refl its_met
      (so ∙ ap (λ z. usable_of (first_unusable a.count (contents a.unit) z 0) a.count) is)

-- and no more blocks than there are
one_kind : (t : Bool) (done count : ℕ) (lines : List (List ℕ)) → count ≤ length lines → GivesAmong (if t then answer.Error cause.Unforwarded done else answer.ReadOk count 512) lines
one_kind true done count lines le n last e = absurd (never e)
  where
    never : {d n last : ℕ} → answer.Error cause.Unforwarded d ≡ answer.ReadOk n last → ⊥
    never f = cc
one_kind false done count lines le n last e = subst (λ z. z ≤ length lines) (same e) le
  where
    same : {x y v w : ℕ} → answer.ReadOk x v ≡ answer.ReadOk y w → x ≡ y
    same f = cc

pub read_among : (done count : ℕ) (lines : List (List ℕ)) → count ≤ length lines → GivesAmong (kind_by done count (answer.ReadOk count 512)) lines
read_among done count lines le = one_kind (nat_lt done count) done count lines le

wrote_kind : (t : Bool) (done : ℕ) (lines : List (List ℕ)) → GivesAmong (if t then answer.Error cause.Unforwarded done else answer.WriteOk) lines
wrote_kind true done lines n last e = absurd (never e)
  where
    never : {d n last : ℕ} → answer.Error cause.Unforwarded d ≡ answer.ReadOk n last → ⊥
    never f = cc
wrote_kind false done lines n last e = absurd (never e)
  where
    never : {n last : ℕ} → answer.WriteOk ≡ answer.ReadOk n last → ⊥
    never f = cc

pub wrote_among : (done count : ℕ) (lines : List (List ℕ)) → GivesAmong (kind_by done count answer.WriteOk) lines
wrote_among done count lines = wrote_kind (nat_lt done count) done lines

pub eof_among : (lines : List (List ℕ)) → GivesAmong answer.Eof lines
eof_among lines n last e = absurd (never e)
  where
    never : {n last : ℕ} → answer.Eof ≡ answer.ReadOk n last → ⊥
    never f = cc

-- a read replaces nothing, and nothing is replaced where the partition refuses
pub none_read : (kind : DriveKind) (blocks : Blocks) (a : Asked) → [] ≡ replaced_with kind blocks (request_of a None)
none_read kind blocks a = by (admission kind C a.block a.count)
  where
    by : (met : Admission) → [] ≡ replaced_at met blocks (first_of kind C + a.block) (request_of a None)
    by (Inside at) = refl
    by Eof = refl
    by Outside = refl

pub none_outside : (kind : DriveKind) (blocks : Blocks) (r : Request) → admission kind r.part r.block r.count ≡ Outside → [] ≡ replaced_with kind blocks r
none_outside kind blocks r met = sym (ap (λ z. replaced_at z blocks (first_of kind r.part + r.block) r) met)

pub none_eof : (kind : DriveKind) (blocks : Blocks) (r : Request) → admission kind r.part r.block r.count ≡ Eof → [] ≡ replaced_with kind blocks r
none_eof kind blocks r met = sym (ap (λ z. replaced_at z blocks (first_of kind r.part + r.block) r) met)
