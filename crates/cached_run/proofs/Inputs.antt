-- Inputs, one behind the other: their answers, their replacements, and the map behind them.
use Rattle.std.proofs.Common.{◌≡◌, inl, inr, ℕ, zero, suc, ◌+◌, ◌≤◌, ◌==◌, Bool, true, false, List, [], ◌∷◌, ◌++◌, length, Option, None, Some, refl, sym, ap, ◌∙◌, arith, append_assoc, length-append}
use Rattle.std.specs.Prelude.{is_some, if◌then◌else◌}
use Rattle.std.proofs.lemmas.Bool.Decides.{eqb_tells}
use Rattle.std.proofs.lemmas.Grind.{flat_map-append}
use Rattle.pack_geometry.specs.declared.DriveKind.{DriveKind}
use Rattle.partitions.specs.declared.Admission.{Admission}
use Rattle.partitions.specs.declared.Admission.TheVariants.{Inside}
use Rattle.trace_replay.specs.requests.Requests.{Request, ReadOk, WriteOk}
use Rattle.trace_replay.specs.Script.{Input, Submit, Numbered}
use Rattle.trace_replay.specs.Moments.{Answered}
use Rattle.trace_replay.specs.Packs.{sector_of_block}
use Rattle.driver_laws.specs.rules.Machine.{Blocks, bytes_of_first, blocks_done, blocks_after, done_in}
use Rattle.driver_laws.proofs.rules.Blocks.{begun_blocks, read_blocks, block_done, other_blocks}
use Rattle.trace_lines.specs.answers.AnswerText.{answer_text}
use Rattle.driver_laws.specs.rules.Waited.{first_unusable, answer_by, answer_at, map_at}
use Rattle.cached_run.specs.Answers.{met_by, first_by, with_answer, map_by, answers_of, map_of_inputs, text_of, replaced, usable_of, replaced_at, replaced_by, replacements_of, with_replacement, after}
use Rattle.cached_run.proofs.Replacings.{after_more, same_map}
use Rattle.cached_run.proofs.Numbers.{next_along, next_is, none_before, with_none}

-- ---- more of them
pub map_more : (drives : ℕ → Option DriveKind) (map : ℕ → Blocks) (xs ys : List Numbered) → map_of_inputs drives map (xs ++ ys) ≡ map_of_inputs drives (map_of_inputs drives map xs) ys
map_more drives map [] ys = refl
map_more drives map (x ∷ xs) ys = map_more drives (map_by drives map x.input) xs ys

pub replacements_more : (drives : ℕ → Option DriveKind) (map : ℕ → Blocks) (xs ys : List Numbered)
    → replacements_of drives map (xs ++ ys) ≡ replacements_of drives map xs ++ replacements_of drives (map_of_inputs drives map xs) ys
replacements_more drives map [] ys = refl
replacements_more drives map (x ∷ xs) ys =
    ap (λ z. replaced_by drives map x.input ++ z) (replacements_more drives (map_by drives map x.input) xs ys)
    ∙ sym (append_assoc (replaced_by drives map x.input) (replacements_of drives (map_by drives map x.input) xs) (replacements_of drives (map_of_inputs drives (map_by drives map x.input) xs) ys))

answer_first : (drives : ℕ → Option DriveKind) (map : ℕ → Blocks) (line : ℕ) (input : Input) (xs ys : List Answered) → with_answer drives map line input (xs ++ ys) ≡ with_answer drives map line input xs ++ ys
answer_first drives map line (Submit r) xs ys = refl
answer_first drives map line other xs ys = refl

answers_more : (drives : ℕ → Option DriveKind) (map : ℕ → Blocks) (xs ys : List Numbered) → answers_of drives map (xs ++ ys) ≡ answers_of drives map xs ++ answers_of drives (map_of_inputs drives map xs) ys
answers_more drives map [] ys = refl
answers_more drives map (x ∷ xs) ys =
    ap (with_answer drives map x.line x.input) (answers_more drives (map_by drives map x.input) xs ys)
    ∙ answer_first drives map x.line x.input (answers_of drives (map_by drives map x.input) xs) (answers_of drives (map_of_inputs drives (map_by drives map x.input) xs) ys)

pub text_more : (drives : ℕ → Option DriveKind) (map : ℕ → Blocks) (xs ys : List Numbered)
    → text_of (answers_of drives map (xs ++ ys)) ≡ text_of (answers_of drives map xs) ++ text_of (answers_of drives (map_of_inputs drives map xs) ys)
text_more drives map xs ys =
    ap text_of (answers_more drives map xs ys) ∙ flat_map-append answer_text (answers_of drives map xs) (answers_of drives (map_of_inputs drives map xs) ys)

pub fewer_before : (drives : ℕ → Option DriveKind) (map : ℕ → Blocks) (xs ys : List Numbered) → length (replacements_of drives map xs) ≤ length (replacements_of drives map (xs ++ ys))
fewer_before drives map xs ys =
    let e = ap length (replacements_more drives map xs ys) ∙ length-append (replacements_of drives map xs) (replacements_of drives (map_of_inputs drives map xs) ys) in
    more (length (replacements_of drives map xs)) (length (replacements_of drives (map_of_inputs drives map xs) ys)) (length (replacements_of drives map (xs ++ ys))) e
  where
    more : (a b c : ℕ) → c ≡ a + b → a ≤ c
    more a b c e = omega (arith, e)

-- ---- the map behind them is what their replacements leave

replaced_end : (n first k : ℕ) (r : Request) → replaced (suc n) first k r ≡ replaced n first k r ++ record { unit = r.unit; block = first + (k + n); bytes = sector_of_block r (k + n) } ∷ []
replaced_end zero first k r = ap (λ z. record { unit = r.unit; block = first + z; bytes = sector_of_block r z } ∷ []) (with_none k)
replaced_end (suc n) first k r =
    ap (λ z. record { unit = r.unit; block = first + k; bytes = sector_of_block r k } ∷ z)
    (replaced_end n first (k + 1) r ∙ ap (λ z. replaced n first (k + 1) r ++ record { unit = r.unit; block = first + z; bytes = sector_of_block r z } ∷ []) (next_along k n))

last_replaced : (n first : ℕ) (r : Request) → replaced (suc n) first 0 r ≡ replaced n first 0 r ++ record { unit = r.unit; block = first + n; bytes = sector_of_block r n } ∷ []
last_replaced n first r = replaced_end n first 0 r ∙ ap (λ z. replaced n first 0 r ++ record { unit = r.unit; block = first + z; bytes = sector_of_block r z } ∷ []) (none_before n)

module _ (map : ℕ → Blocks) (first : ℕ) (r : Request) where
  abbrev Done : (n u b : ℕ) → Option (List ℕ)
  Done n u b = (if u == r.unit then blocks_done (map u) first r n else map u) b

  none_yet : (u b : ℕ) → map u b ≡ Done 0 u b
  none_yet u b = by (u == r.unit)
    where
      by : (t : Bool) → map u b ≡ (if t then blocks_done (map u) first r 0 else map u) b
      by true = sym (begun_blocks (map u) first r b)
      by false = refl

  one_more : (n u b : ℕ) (before : ℕ → Blocks) → is_some r.written ≡ true → before u b ≡ Done n u b
      → with_replacement (record { unit = r.unit; block = first + n; bytes = sector_of_block r n }) before u b ≡ Done (suc n) u b
  one_more n u b before writes old = elim (eqb_tells u r.unit) [
    | inl here ↦ elim (eqb_tells b (first + n)) [
      | inl own ↦ rw (here.0, own.0) (sym (block_done (map u) first r n writes) ∙ ap (λ z. blocks_done (map u) first r (n + 1) z) (sym own.1) ∙ ap (λ z. blocks_done (map u) first r z b) (sym (next_is n)))
      | inr other ↦ rw (here.0, other.0) (old ∙ ap (λ (t : Bool). (if t then blocks_done (map u) first r n else map u) b) here.0 ∙ sym (other_blocks (map u) first r n b other.1)
          ∙ ap (λ z. blocks_done (map u) first r z b) (sym (next_is n)))
    ]
    | inr there ↦ rw there.0 (old ∙ ap (λ (t : Bool). (if t then blocks_done (map u) first r n else map u) b) there.0)
  ]

  written_is : (n u b : ℕ) → is_some r.written ≡ true → after (replaced n first 0 r) map u b ≡ Done n u b
  written_is zero u b writes = none_yet u b
  written_is (suc n) u b writes =
      ap (λ z. after z map u b) (last_replaced n first r)
      ∙ ap (λ z. z u b) (after_more (replaced n first 0 r) (record { unit = r.unit; block = first + n; bytes = sector_of_block r n } ∷ []) map)
      ∙ one_more n u b (after (replaced n first 0 r) map) writes (written_is n u b writes)

  read_is : (n u b : ℕ) → is_some r.written ≡ false → map u b ≡ Done n u b
  read_is n u b reads = by (u == r.unit)
    where
      by : (t : Bool) → map u b ≡ (if t then blocks_done (map u) first r n else map u) b
      by true = sym (read_blocks (map u) first r n b reads)
      by false = refl

  done_is : (unusable : Option ℕ) → done_in (answer_by unusable (map r.unit) first r) r ≡ usable_of unusable r.count
  done_is (Some done) = refl
  done_is None = by (is_some r.written)
    where
      by : (t : Bool) → done_in (if t then WriteOk else ReadOk (bytes_of_first r.count (map r.unit) first r)) r ≡ r.count
      by true = refl
      by false = refl

  behind_is : (unusable : Option ℕ) (w : Bool) → is_some r.written ≡ w → blocks_after map first r (answer_by unusable (map r.unit) first r) ≡ after (if w then replaced (usable_of unusable r.count) first 0 r else []) map
  behind_is unusable true writes = same_map (blocks_after map first r (answer_by unusable (map r.unit) first r)) (after (replaced (usable_of unusable r.count) first 0 r) map)
      (λ u b. ap (λ n. Done n u b) (done_is unusable) ∙ sym (written_is (usable_of unusable r.count) u b writes))
  behind_is unusable false reads = same_map (blocks_after map first r (answer_by unusable (map r.unit) first r)) map
      (λ u b. sym (read_is (done_in (answer_by unusable (map r.unit) first r) r) u b reads))

  request_is : (met : Admission) → map_at met map first r (answer_at met (map r.unit) first r) ≡ after (replaced_at met (map r.unit) first r) map
  request_is (Inside at) = behind_is (first_unusable r.count (map r.unit) first 0) (is_some r.written) refl
  request_is other = refl

one_is : (drives : ℕ → Option DriveKind) (map : ℕ → Blocks) (input : Input) → map_by drives map input ≡ after (replaced_by drives map input) map
one_is drives map (Submit r) = request_is map (first_by drives r) r (met_by drives r)
one_is drives map other = refl

pub map_is : (drives : ℕ → Option DriveKind) (map : ℕ → Blocks) (inputs : List Numbered) → map_of_inputs drives map inputs ≡ after (replacements_of drives map inputs) map
map_is drives map [] = refl
map_is drives map (n ∷ inputs) =
    map_is drives (map_by drives map n.input) inputs
    ∙ ap (after (replacements_of drives (map_by drives map n.input) inputs)) (one_is drives map n.input)
    ∙ sym (after_more (replaced_by drives map n.input) (replacements_of drives (map_by drives map n.input) inputs) map)
