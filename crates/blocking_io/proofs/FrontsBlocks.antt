-- One request for whole blocks: what it is answered, and what it leaves.
use Rattle.std.proofs.Common.{◌≡◌, ◌≢◌, inl, inr, ℕ, zero, suc, ◌<◌, ◌≤◌, ◌+◌, ◌-◌, ◌*◌, ◌==◌, nat_le, Bool, true, false, IsTrue, List, [], length, Option, None, Some, refl, sym, ap, ◌∙◌, subst, arith}
use Rattle.std.specs.Prelude.{min, is_some, IsSome, if◌then◌else◌}
use Rattle.std.proofs.lemmas.Option.{none-some, same_Some}
use Rattle.std.proofs.lemmas.Bool.{eq-eqb, ne_eqb}
use Rattle.std.proofs.lemmas.Bool.Decides.{nat_tests, eqb_tells}
use Rattle.pack_geometry.specs.declared.DriveKind.{DriveKind}
use Rattle.partitions.specs.declared.Part.{Part}
use Rattle.partitions.specs.declared.Admission.TheVariants.{Inside}
use Rattle.partitions.specs.Partitions.{first_of, size_of, admission}
use Rattle.trace_replay.specs.requests.Requests.{Request, IsRequest, Answer, ReadOk, WriteOk}
use Rattle.trace_replay.specs.Moments.{Moment}
use Rattle.driver_laws.specs.rules.Machine.{Blocks, kind_of, bytes_of_first, blocks_done, blocks_after, done_in}
use Rattle.driver_laws.specs.rules.Stands.{Setup}
use Rattle.driver_laws.proofs.rules.Blocks.{read_blocks}
use Rattle.driver_machine.specs.Guards.{IsSetUp}
use Rattle.driver_machine.specs.Sound.{Sound, AtWork}
use Rattle.driver_laws.specs.declared.answers.outcome.Stop.{Stop}
use Rattle.driver_laws.specs.rules.Rest.{HasTables}
use Rattle.driver_laws.specs.rules.Waited.{unusable_or, first_unusable, answer_by, answer_of, answer_at, map_at as map_met, first_in, met_in, answer_in, map_behind}
use Rattle.driver_laws.specs.rules.Laid.{laid}
use Rattle.driver_laws.specs.rules.Pieces.{Reaches}
use Rattle.blocking_io.specs.FrontsPasses.{All, AtEnd, Before, IsMapped, IsQuiet, Outside, Reached, Stage, Stops, bytes_by, reached_by, setup_at}
use Rattle.blocking_io.specs.Fronts.{HoldsFront, StoppedHoldsFront}
use Rattle.blocking_io.specs.Sites.{IsUntouched, kind_at, left_map, map_at}
use Rattle.blocking_io.specs.Blocks.{AreBlocks, PutsBlocks, PutsFront, ReadsOnce, blocks_reached, origin}
use Rattle.blocking_io.proofs.Sites.{kind_is}

-- ---- what was given to a caller is not seen
abbrev pub plain : Stage → Stage
plain s = record s { given = record { reached = Before 0; bytes = [] } }

-- ---- THE FIRST BLOCK that can't be used
some_first : (block : Option (List ℕ)) (k : ℕ) (later : Option ℕ) → unusable_or block k later ≡ None → IsSome block × (later ≡ None)
some_first None k later is = absurd (none-some k (sym is))
some_first (Some bytes) k later is = (refl, is)

pub none_unusable : (left : ℕ) (blocks : Blocks) (first k : ℕ) → first_unusable left blocks first k ≡ None → (j : ℕ) → k ≤ j → j < k + left → IsSome (blocks (first + j))
none_unusable zero blocks first k is j from to = absurd (omega (arith, from, to))
none_unusable (suc left) blocks first k is j from to = elim (eqb_tells k j) [
  | inl same ↦ subst (λ z. IsSome (blocks (first + z))) same.1 (some_first (blocks (first + k)) k (first_unusable left blocks first (suc k)) is).0
  | inr other ↦ none_unusable left blocks first (suc k) (some_first (blocks (first + k)) k (first_unusable left blocks first (suc k)) is).1 j (after k j from other.1) (omega (arith, to))
]
  where
    after : (k j : ℕ) → k ≤ j → k ≢ j → suc k ≤ j
    after k j le ne = grind (arith, le, ne)

pub record IsFirst (blocks : Blocks) (first k limit n : ℕ) : Type 0 where
  pub from : k ≤ n
  pub below : n < limit
  pub unusable : blocks (first + n) ≡ None
  pub before : (j : ℕ) → k ≤ j → j < n → IsSome (blocks (first + j))

pub first_is : (left : ℕ) (blocks : Blocks) (first k n : ℕ) → first_unusable left blocks first k ≡ Some n → IsFirst blocks first k (k + left) n
first_is zero blocks first k n is = absurd (none-some n is)
first_is (suc left) blocks first k n is = by (blocks (first + k)) refl is (λ later. first_is left blocks first (suc k) n later)
  where
    by : (block : Option (List ℕ)) → blocks (first + k) ≡ block → unusable_or block k (first_unusable left blocks first (suc k)) ≡ Some n
        → (first_unusable left blocks first (suc k) ≡ Some n → IsFirst blocks first (suc k) (suc k + left) n) → IsFirst blocks first k (k + suc left) n
    by None none here go =
        let same : k ≡ n = same_Some k n here in
        record {
          from = omega (arith, same);
          below = omega (arith, same);
          unusable = ap (λ z. blocks (first + z)) (sym same) ∙ none;
          before = λ j le lt. absurd (omega (arith, same, le, lt));
        }
    by (Some bytes) some later go =
        let rest : IsFirst blocks first (suc k) (suc k + left) n = go later in
        record {
          from = omega (arith, rest.from);
          below = omega (arith, rest.below);
          unusable = rest.unusable;
          before = λ j le lt. elim (eqb_tells k j) [
            | inl same ↦ subst (λ z. IsSome (blocks (first + z))) same.1 (subst IsSome (sym some) refl)
            | inr other ↦ rest.before j (after k j le other.1) lt
          ];
        }
      where
        after : (k j : ℕ) → k ≤ j → k ≢ j → suc k ≤ j
        after k j le ne = grind (arith, le, ne)

-- ---- WHAT IS ANSWERED
pub record Came (blocks : Blocks) (first : ℕ) (r : Request) (answer : Answer) (n : ℕ) : Type 0 where
  pub reaches : Reaches blocks first r.count n
  pub done : done_in answer r ≡ n
  pub all : n ≡ r.count → r.written ≡ None → (into : List ℕ) → bytes_by answer into ≡ laid (bytes_of_first r.count blocks first r) into
  pub none : n < r.count → (into : List ℕ) → bytes_by answer into ≡ into

came_by : (blocks : Blocks) (first : ℕ) (r : Request) (unusable : Option ℕ) → first_unusable r.count blocks first 0 ≡ unusable
    → Came blocks first r (answer_by unusable blocks first r) (blocks_reached (reached_by (answer_by unusable blocks first r)) r.count)
came_by blocks first r None is = by r.written refl
  where
    all : Reaches blocks first r.count r.count
    all = record { usable = λ k lt. none_unusable r.count blocks first 0 is k (omega arith) (omega (arith, lt)); ends = λ lt. absurd (omega (arith, lt)) }

    at : (b : Bool) → is_some r.written ≡ b → Came blocks first r (if b then WriteOk else ReadOk (bytes_of_first r.count blocks first r)) (blocks_reached (reached_by (if b then WriteOk else ReadOk (bytes_of_first r.count blocks first r))) r.count)
    at true writes = record { reaches = all; done = refl; all = λ e none. absurd (false_true (sym (ap is_some none) ∙ writes)); none = λ lt. absurd (omega (arith, lt)) }
      where
        false_true : false ≡ true → ⊥
        false_true e = grind (arith, e)
    at false reads = record { reaches = all; done = refl; all = λ e none into. refl; none = λ lt. absurd (omega (arith, lt)) }

    by : (w : Option (List ℕ)) → r.written ≡ w → Came blocks first r (answer_by None blocks first r) (blocks_reached (reached_by (answer_by None blocks first r)) r.count)
    by w same = at (is_some r.written) refl
came_by blocks first r (Some k) is =
    let it : IsFirst blocks first 0 (0 + r.count) k = first_is r.count blocks first 0 k is in
    let below : k < r.count = omega (arith, it.below) in
    let less : min k r.count ≡ k = grind (arith, below) in
    record {
      reaches = subst (Reaches blocks first r.count) (sym less) (record { usable = λ j lt. it.before j (omega arith) lt; ends = λ lt. it.unusable });
      done = sym less;
      all = λ e. absurd (omega (arith, below, less, e));
      none = λ lt into. refl;
    }

pub few_reached : (reached : Reached) (count : ℕ) → blocks_reached reached count ≤ count
few_reached All count = omega arith
few_reached (Before done) count = least done count
  where
    least : (a b : ℕ) → min a b ≤ b
    least a b = grind arith
few_reached Outside count = omega arith
few_reached AtEnd count = omega arith

-- ---- INSIDE its partition
admitted : (kind : DriveKind) (part : Part) (block count : ℕ) → 1 ≤ count → block + count ≤ size_of kind part → admission kind part block count ≡ Inside (first_of kind part + block)
admitted kind part block count some inside = rw (other (size_of kind part) block count some inside, within (size_of kind part) block count inside) refl
  where
    other : (size block count : ℕ) → 1 ≤ count → block + count ≤ size → block == size ≡ false
    other size block count some inside = grind (arith, nat_tests)

    within : (size block count : ℕ) → block + count ≤ size → nat_le (block + count) size ≡ true
    within size block count inside = grind (arith, nat_tests)

module _ (r : Request) (old : Stage) (unit : IsSetUp old.world r.unit) (is : AreBlocks (kind_at old.world r.unit) r) where
  abbrev Of : Setup
  Of = setup_at old

  own_kind : kind_of Of.drives r.unit ≡ kind_at old.world r.unit
  own_kind = kind_is old.world old.held r.unit unit

  pub first_at : first_in Of r ≡ origin old r + r.block
  first_at = ap (λ z. first_of z r.part + r.block) own_kind

  met : met_in Of r ≡ Inside (first_in Of r)
  met = ap (λ z. admission z r.part r.block r.count) own_kind ∙ admitted (kind_at old.world r.unit) r.part r.block r.count is.some is.inside ∙ ap Inside (sym first_at)

  abbrev Answer_now : Answer
  Answer_now = answer_of (map_at old r.unit) (origin old r + r.block) r

  answered : answer_in Of r ≡ Answer_now
  answered = ap (λ z. answer_at z (map_at old r.unit) (first_in Of r) r) met ∙ ap (λ n. answer_of (map_at old r.unit) n r) first_at

  came : Came (map_at old r.unit) (origin old r + r.block) r Answer_now (blocks_reached (reached_by Answer_now) r.count)
  came = came_by (map_at old r.unit) (origin old r + r.block) r (first_unusable r.count (map_at old r.unit) (origin old r + r.block) 0) refl

  behind : map_behind Of r ≡ blocks_after (map_at old) (origin old r + r.block) r Answer_now
  behind = ap (λ z. map_met z (map_at old) (first_in Of r) r (answer_in Of r)) met ∙ ap (λ n. blocks_after (map_at old) n r (answer_in Of r)) first_at
      ∙ ap (λ a. blocks_after (map_at old) (origin old r + r.block) r a) answered

  own_map : (answer : Answer) (n block : ℕ) → done_in answer r ≡ n → blocks_after (map_at old) (origin old r + r.block) r answer r.unit block ≡ blocks_done (map_at old r.unit) (origin old r + r.block) r n block
  own_map answer n block done = rw (eq-eqb r.unit r.unit refl) (ap (λ k. blocks_done (map_at old r.unit) (origin old r + r.block) r k block) done)

  other_map : (answer : Answer) (u block : ℕ) → u ≢ r.unit → blocks_after (map_at old) (origin old r + r.block) r answer u block ≡ map_at old u block
  other_map answer u block ne = rw (ne_eqb u r.unit ne) refl

  module _ (new : Stage) (asked drained : List Moment) {line : ℕ} (m : IsMapped line r asked drained old new) where
    reached_now : new.given.reached ≡ reached_by Answer_now
    reached_now = m.reached ∙ ap reached_by answered

    so_many : (n : ℕ) → n ≡ blocks_reached new.given.reached r.count → n ≡ blocks_reached (reached_by Answer_now) r.count
    so_many n e = e ∙ ap (λ z. blocks_reached z r.count) reached_now

    pub read_once_of : (n : ℕ) → r.written ≡ None → n ≡ blocks_reached new.given.reached r.count → ReadsOnce r n old.given.bytes new.given.bytes (plain old) (plain new)
    read_once_of n reads e =
        let it : Came (map_at old r.unit) (origin old r + r.block) r Answer_now n = subst (Came (map_at old r.unit) (origin old r + r.block) r Answer_now) (sym (so_many n e)) came in
        record {
          reaches = it.reaches;
          all = λ whole. m.bytes ∙ ap (λ a. bytes_by a old.given.bytes) answered ∙ it.all whole reads old.given.bytes;
          none = λ fewer. m.bytes ∙ ap (λ a. bytes_by a old.given.bytes) answered ∙ it.none fewer old.given.bytes;
          same = record { map = λ i. λ u. λ block. same u block i };
        }
      where
        same : (u block : ℕ) → map_at new u block ≡ map_at old u block
        same u block = m.map u block ∙ ap (λ f. f u block) behind ∙ elim (eqb_tells u r.unit) [
          | inl is ↦ subst (λ z. blocks_after (map_at old) (origin old r + r.block) r Answer_now z block ≡ map_at old z block) (sym is.1)
              (own_map Answer_now (done_in Answer_now r) block refl ∙ read_blocks (map_at old r.unit) (origin old r + r.block) r (done_in Answer_now r) block (ap is_some reads))
          | inr other ↦ other_map Answer_now u block other.1
        ]

    pub puts_of : (n : ℕ) → n ≡ blocks_reached new.given.reached r.count → PutsBlocks r n (plain old) (plain new)
    puts_of n e =
        let it : Came (map_at old r.unit) (origin old r + r.block) r Answer_now n = subst (Came (map_at old r.unit) (origin old r + r.block) r Answer_now) (sym (so_many n e)) came in
        record {
          reaches = it.reaches;
          written = λ block. m.map r.unit block ∙ ap (λ f. f r.unit block) behind ∙ own_map Answer_now n block it.done;
          map = λ u block ne. m.map u block ∙ ap (λ f. f u block) behind ∙ other_map Answer_now u block ne;
        }

  -- ---- where it stopped
  pub front_of : (new : Stage) → HoldsFront Of r new.held → PutsFront r (plain old) (plain new)
  front_of new f = record {
    done = f.done;
    few = f.few;
    usable = λ k lt. subst (λ n. IsSome (map_at old r.unit (n + k))) first_at (f.usable k lt);
    written = λ block. f.map block ∙ ap (λ n. blocks_done (map_at old r.unit) n r f.done block) first_at;
    map = f.units;
    others = f.others;
  }

  pub untouched_of : (new : Stage) → r.written ≡ None → HoldsFront Of r new.held → IsUntouched (plain old) (plain new)
  untouched_of new reads f = record {
    map = λ u block. elim (eqb_tells u r.unit) [
      | inl is ↦ subst (λ z. left_map old new z block ≡ map_at old z block) (sym is.1)
          (f.map block ∙ read_blocks (map_at old r.unit) (first_in Of r) r f.done block (ap is_some reads))
      | inr other ↦ f.units u block other.1
    ];
    others = f.others;
  }

-- ---- a request for whole blocks may be asked
pub is_request : (kind : DriveKind) (r : Request) → AreBlocks kind r → ((bytes : List ℕ) → r.written ≡ Some bytes → length bytes ≡ 512 * r.count) → IsRequest r
is_request kind r is long = record {
  some = is.some;
  few = is.few;
  ends = subst (λ n. 1 ≤ n) (sym is.last) (omega arith);
  in_block = subst (λ n. n ≤ 512) (sym is.last) (omega arith);
  in_frame = subst (λ n. n < 512) (sym is.offset) (omega arith);
  exact = λ bytes written. long bytes written ∙ whole r.count r.last is.some is.last;
}
  where
    whole : (count last : ℕ) → 1 ≤ count → last ≡ 512 → 512 * count ≡ 512 * (count - 1) + last
    whole count last some is = omega (arith, some, is)

pub none_written : (r : Request) → r.written ≡ None → (bytes : List ℕ) → r.written ≡ Some bytes → length bytes ≡ 512 * r.count
none_written r none bytes written = absurd (none-some bytes (sym none ∙ written))

pub all_written : (r : Request) (from : List ℕ) → r.written ≡ Some from → length from ≡ 512 * r.count → (bytes : List ℕ) → r.written ≡ Some bytes → length bytes ≡ 512 * r.count
all_written r from is long bytes written = ap length (sym (same_Some from bytes (sym is ∙ written))) ∙ long

-- ---- where it stopped
module _ (stop : Stop) (r : Request) (old new : Stage) (unit : IsSetUp old.world r.unit) (is : AreBlocks (kind_at old.world r.unit) r) (fronts : StoppedHoldsFront) (sound : Sound old.world) (work : AtWork old.world)
    (quiet : IsQuiet old.world) (good : IsRequest r) {line : ℕ} (s : Stops stop line r old new) where
  front : IsTrue new.packs_tell → HasTables (setup_at old) → HoldsFront (setup_at old) r new.held
  front t tables = fronts stop line r old new sound work quiet unit good tables t s

  pub read_stops_of : r.written ≡ None → IsTrue new.packs_tell → HasTables (setup_at old) → IsUntouched (plain old) (plain new)
  read_stops_of none t tables = untouched_of r old unit is new none (front t tables)

  pub write_stops_of : IsTrue new.packs_tell → HasTables (setup_at old) → PutsFront r (plain old) (plain new)
  write_stops_of t tables = front_of r old unit is new (front t tables)
