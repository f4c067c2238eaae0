-- Laws of the answers that wait: the blocks of a read, the text of one answer, and of all of them one after another.
use Rattle.std.proofs.Common.{◌≡◌, ◌≢◌, ℕ, ◌+◌, ◌-◌, ◌<◌, ◌≤◌, Bool, true, false, List, [], ◌∷◌, ◌++◌, length, map, take, drop, refl, sym, ap, subst, ◌∙◌, arith, append-nil, append_assoc, slice_index_or, replicate, Some, Result, Ok, Err}
use Rattle.std.specs.Prelude.{if◌then◌else◌, ◌==◌, IsErr}
use Rattle.std.specs.List.{flat_map}
use Rattle.std.proofs.lemmas.Bool.{eq-eqb}
use Rattle.std.proofs.lemmas.List.{take-append-drop}
use Rattle.std.proofs.Math.Seq.{take-append_seam}
use Rattle.outside_traits.specs.declared.traits.SinkFailed.{SinkFailed}
use Rattle.trace_replay.specs.Moments.{Answered}
use Rattle.main_memory.specs.Bytes.{filled, IsFill}
use Rattle.trace_replay.specs.declared.requests.answers.Answer.{Answer}
use Rattle.trace_replay.specs.declared.requests.answers.AnswerKind.TheVariants.{ReadOk}
use Rattle.driver_machine.specs.declared.Made.{Made}
use Rattle.driver_machine.specs.World.{World, held_in, block_in, bytes_in}
use Rattle.driver_machine.specs.Acts.{Taken, after, after_all}
use Rattle.driver_machine.specs.Lines.{answer_told}
use Rattle.driver_machine.specs.Sound.{Sound}
use Rattle.driver_laws.specs.answers.Waiting.{blocks_for, told_by, waiting, TakingDrops, takings, all_taken}
use Rattle.trace_lines.specs.answers.AnswerText.{answer_text, block_text, block_texts}
use Rattle.trace_lines.specs.answers.Blocks.{AreBlocks, blocks_in, joined}
use Rattle.trace_lines.proofs.answers.BlockLaws.{blocks_in-joined}
use Rattle.trace_lines.proofs.answers.TextLaws.{one_more}
use Rattle.hp_driver.specs.Subsystem.{State, IsOldest}
use Rattle.hp_driver.proofs.ReadBlocks.{IsRead, slot_there, read_in}
use Rattle.event_player.specs.Answering.{first_blocks, first_told, first_text, first_rest, IsFirst, IsFirstKind, HasBlock}
use Rattle.event_player.specs.Spots.{Spot, SaysText}
use Rattle.event_player.specs.Steps.{waiting_text}
use Rattle.event_player.proofs.SaysLaws.{text_nothing, text_same, text_both, text_stop}

-- THE BLOCKS OF A READ
pub first_blocks_at : (w : World) (made : Made) (p : ℕ) → IsOldest w made → made.slot ≡ Some p → first_blocks w w.answers ≡ (held_in w p).blocks
first_blocks_at w made p oldest slot = ap (first_blocks w) oldest.first ∙ ap (blocks_for w) slot

pub read_is : {w : World} {count last : ℕ} → Sound w → IsFirstKind w (ReadOk count last) → IsRead (first_blocks w w.answers) count last
read_is {w} {count} {last} s first =
    let slot = slot_there w first.made count last s first.oldest first.is in
    subst (λ (blocks : List (List ℕ)). IsRead blocks count last) (sym (first_blocks_at w first.made slot.0 first.oldest slot.1))
    (read_in w first.made slot.0 count last s first.oldest first.is slot.1)

size_bounds : (t : Bool) (last : ℕ) → 1 ≤ last → last ≤ 512 → (1 ≤ (if t then last else 512)) × ((if t then last else 512) ≤ 512)
size_bounds true last some few = (some, few)
size_bounds false last some few = (omega arith, omega arith)

pub has_block : {w : World} {count last : ℕ} (k size : ℕ) → Sound w → IsFirstKind w (ReadOk count last) → k < count → size ≡ (if k + 1 == count then last else 512) → HasBlock w k size
has_block {w} {count} {last} k size s first lt is =
    let slot = slot_there w first.made count last s first.oldest first.is in
    let read = read_is s first in
    let bounds = size_bounds (k + 1 == count) last read.some read.few in record {
      reads = record { made = first.made; oldest = first.oldest; count = count; last = last; ok = first.is; inside = lt };
      slot = slot.0;
      slot_is = slot.1;
      long = read.each k lt ∙ sym is;
      some = subst (λ (n : ℕ). 1 ≤ n) (sym is) bounds.0;
      few = subst (λ (n : ℕ). n ≤ 512) (sym is) bounds.1;
    }

-- the bytes that were given for a block, as many as it has
filled_front : (size n : ℕ) (block : List ℕ) → length block ≡ size → take size (filled n block) ≡ block
unfolding filled
filled_front size n block e = ap (λ (k : ℕ). take k (block ++ replicate (n - length block) 0)) (sym e) ∙ take-append_seam block (replicate (n - length block) 0)

block_here : {w : World} {k size : ℕ} (block : HasBlock w k size) → slice_index_or (first_blocks w w.answers) k [] ≡ block_in (held_in w block.slot) k
block_here {w} {k} {size} block =
    ap (λ (blocks : List (List ℕ)). slice_index_or blocks k []) (first_blocks_at w block.reads.made block.slot block.reads.oldest block.slot_is)

length_here : {w : World} {k size : ℕ} (block : HasBlock w k size) → length (block_in (held_in w block.slot) k) ≡ size
length_here block = ap (λ (b : List ℕ). length b) (sym (block_here block)) ∙ block.long

pub block_given : {w : World} {k size : ℕ} (block : HasBlock w k size) (bytes : List ℕ) → bytes ≡ filled 512 (block_in (held_in w block.slot) k)
    → take size bytes ≡ slice_index_or (first_blocks w w.answers) k []
block_given {w} {k} {size} block bytes is =
    ap (λ (b : List ℕ). take size b) is ∙ filled_front size 512 (block_in (held_in w block.slot) k) (length_here block) ∙ sym (block_here block)

-- the bytes of a block that is one byte all through
pub fill_given : {w : World} {k size : ℕ} (block : HasBlock w k size) (byte : ℕ) → IsFill byte (block_in (held_in w block.slot) k)
    → replicate size byte ≡ slice_index_or (first_blocks w w.answers) k []
fill_given {w} {k} {size} block byte is =
    ap (λ (n : ℕ). replicate n byte) (sym (length_here block)) ∙ sym is ∙ sym (block_here block)

-- THE BLOCKS SAID, one after another
joined_is : (blocks : List (List ℕ)) → bytes_in blocks ≡ joined blocks
joined_is [] = refl
joined_is (block ∷ blocks) = ap (λ (rest : List ℕ). block ++ rest) (joined_is blocks)

are_blocks : (blocks : List (List ℕ)) (count last : ℕ) → IsRead blocks count last → AreBlocks 512 blocks
are_blocks blocks count last read =
    let size = read.size in
    let some = read.some in
    let few = read.few in record {
      whole = λ k more. read.each k (omega (arith, more, size)) ∙ ap (λ (t : Bool). if t then last else 512) (not_last k (omega (arith, more, size)));
      some = λ k end. let long = at_last k (omega (arith, end, size)) in omega (arith, long, some);
      few = λ k end. let long = at_last k (omega (arith, end, size)) in omega (arith, long, few);
    }
  where
    not_last : (k : ℕ) → k + 1 < count → (k + 1 == count) ≡ false
    not_last k lt = grind arith

    at_last : (k : ℕ) → k + 1 ≡ count → length (slice_index_or blocks k []) ≡ last
    at_last k e = read.each k (omega (arith, e)) ∙ ap (λ (t : Bool). if t then last else 512) (eq-eqb (k + 1) count e)

pub rest_is : {w : World} {count last : ℕ} → Sound w → IsFirstKind w (ReadOk count last) → first_rest w (ReadOk count last) ≡ block_texts 0 (first_blocks w w.answers)
rest_is {w} {count} {last} s first =
    let blocks = first_blocks w w.answers in
    ap (λ (bytes : List ℕ). block_texts 0 (blocks_in bytes)) (joined_is blocks)
    ∙ ap (block_texts 0) (blocks_in-joined blocks (are_blocks blocks count last (read_is s first)))

block_texts-append : (k : ℕ) (xs ys : List (List ℕ)) → block_texts k (xs ++ ys) ≡ block_texts k xs ++ block_texts (k + length xs) ys
block_texts-append k [] ys = let here : k ≡ k + 0 = omega arith in ap (λ (n : ℕ). block_texts n ys) here
block_texts-append k (x ∷ xs) ys =
    let here : (k + 1) + length xs ≡ k + length (x ∷ xs) = omega arith in
    ap (λ (text : List ℕ). block_text k x ++ text) (block_texts-append (k + 1) xs ys ∙ ap (λ (n : ℕ). block_texts (k + 1) xs ++ block_texts n ys) here)
    ∙ sym (append_assoc (block_text k x) (block_texts (k + 1) xs) (block_texts (k + length (x ∷ xs)) ys))

texts_parted : (blocks : List (List ℕ)) (k : ℕ) → block_texts 0 blocks ≡ block_texts 0 (take k blocks) ++ block_texts (0 + length (take k blocks)) (drop k blocks)
texts_parted blocks k = ap (block_texts 0) (sym (take-append-drop k blocks)) ∙ block_texts-append 0 (take k blocks) (drop k blocks)

module _ {old mid new : Spot} (blocks : List (List ℕ)) (k : ℕ) (result : Result (Unit {0}) SinkFailed) (lt : k < length blocks)
    (so_far : SaysText {T = Unit {0}} {E = SinkFailed} [] (block_texts 0 (take k blocks)) (Ok tt) old mid) where
  -- the blocks below k, and one more
  pub blocks_more : SaysText [] (block_text k (slice_index_or blocks k [])) result mid new → SaysText [] (block_texts 0 (take (k + 1) blocks)) result old new
  blocks_more more = text_same (block_texts 0 (take (k + 1) blocks)) (text_both result so_far more) (sym (one_more blocks k lt))

-- where one is not said, those behind it make no difference
pub blocks_stop : {old mid new : Spot} {failed : SinkFailed} (blocks : List (List ℕ)) (k : ℕ) (result : Result (Unit {0}) SinkFailed) → k < length blocks → IsErr result
    → SaysText {T = Unit {0}} {E = SinkFailed} [] (block_texts 0 (take k blocks)) (Ok tt) old mid → SaysText {T = Unit {0}} [] (block_text k (slice_index_or blocks k [])) (Err failed) mid new
    → SaysText [] (block_texts 0 blocks) result old new
blocks_stop {failed = failed} blocks k result lt err so_far more =
    text_same (block_texts 0 blocks)
    (text_stop [] (block_texts (0 + length (take (k + 1) blocks)) (drop (k + 1) blocks)) result err (blocks_more blocks k (Err failed) lt so_far more)) (sym (texts_parted blocks (k + 1)))

-- THE ANSWERS that wait: the oldest, and the others; and their texts
told_first : (w : World) (answer : Answer) (first : IsFirst w answer) → told_by w first.made ≡ first_told w answer
told_first w answer first =
    ap (λ (blocks : List (List ℕ)). record { line = first.made.answer.at; id = first.made.answer.id; answer = answer_told first.made.answer.kind blocks })
    (sym (ap (first_blocks w) first.oldest.first))
    ∙ ap (first_told w) first.is

pub told_taken : TakingDrops → (w : World) (answer : Answer) → Sound w → IsFirst w answer → waiting w ≡ first_told w answer ∷ waiting (after w Taken)
told_taken drops w answer s first =
    let made : Made = first.made in
    let rest : List Made = drop 1 w.answers in
    let all : waiting w ≡ told_by w made ∷ map (told_by w) rest = ap (map (told_by w)) first.oldest.first in
    let some : 0 < length w.answers = subst (λ (answers : List Made). 0 < length answers) (sym first.oldest.first) (omega arith) in
    let behind : waiting (after w Taken) ≡ map (told_by w) rest = drops w s some ∙ ap (λ (xs : List Answered). drop 1 xs) all in
    all ∙ ap (λ (told : Answered). told ∷ map (told_by w) rest) (told_first w answer first) ∙ ap (λ (xs : List Answered). first_told w answer ∷ xs) (sym behind)

pub text_taken : TakingDrops → (w : World) (answer : Answer) → Sound w → IsFirst w answer → waiting_text w ≡ first_text w answer ++ waiting_text (after w Taken)
text_taken drops w answer s first = ap (flat_map answer_text) (told_taken drops w answer s first)

taken_first : (w : World) (made : Made) → IsOldest w made → all_taken w ≡ all_taken (after w Taken)
taken_first w made oldest = ap (λ (answers : List Made). after_all w (takings answers)) oldest.first

none_left : (w : World) → w.answers ≡ [] → all_taken w ≡ w
none_left w none = ap (λ (answers : List Made). after_all w (takings answers)) none

-- one waits, and fewer do behind it
pub some_waits : {w : World} {answer : Answer} → IsFirst w answer → w.answers ≢ []
some_waits {w} first none = let e : first.made ∷ drop 1 w.answers ≡ [] = sym first.oldest.first ∙ none in cc

pub fewer_wait : {answer : Answer} (now mid new : Spot) → IsFirst now.driver.world answer → mid.driver ≡ now.driver
    → new ≡ record mid { driver = record mid.driver { world = after mid.driver.world Taken } } → length new.driver.world.answers < length now.driver.world.answers
fewer_wait now mid new first driver taking =
    subst (λ (s : Spot). length s.driver.world.answers < length now.driver.world.answers) (sym taking)
    (subst (λ (d : State). length (drop 1 d.world.answers) < length now.driver.world.answers) (sym driver)
    (subst (λ (xs : List Made). length (drop 1 xs) < length xs) (sym first.oldest.first) (less (drop 1 now.driver.world.answers))))
  where
    less : (xs : List Made) → length xs < length (first.made ∷ xs)
    less xs = omega arith

-- THE ANSWERS SO FAR: those that are taken were said and counted, and with those that wait still they are all.
pub record SoFar (first now : Spot) : Type 0 where
  pub answers : List Answered
  pub text : List ℕ
  pub says : SaysText {T = Unit {0}} {E = SinkFailed} answers text (Ok tt) first now
  pub told : answers ++ waiting now.driver.world ≡ waiting first.driver.world
  pub said : text ++ waiting_text now.driver.world ≡ waiting_text first.driver.world
  pub all : all_taken now.driver.world ≡ all_taken first.driver.world
  pub state : now.driver ≡ record first.driver { world = now.driver.world }

pub none_so_far : (s : Spot) → SoFar s s
none_so_far s = record {
  answers = [];
  text = [];
  says = text_nothing s;
  told = refl;
  said = refl;
  all = refl;
  state = refl;
}

module _ (drops : TakingDrops) {first now : Spot} (so : SoFar first now) where
  text_more : (answer : Answer) → Sound now.driver.world → IsFirst now.driver.world answer
      → (so.text ++ first_text now.driver.world answer) ++ waiting_text (after now.driver.world Taken) ≡ waiting_text first.driver.world
  text_more answer sound is =
      append_assoc so.text (first_text now.driver.world answer) (waiting_text (after now.driver.world Taken))
      ∙ ap (λ (text : List ℕ). so.text ++ text) (sym (text_taken drops now.driver.world answer sound is)) ∙ so.said

  pub one_so_far : {answer : Answer} (mid new : Spot) → Sound now.driver.world → IsFirst now.driver.world answer
      → SaysText {T = Unit {0}} {E = SinkFailed} (first_told now.driver.world answer ∷ []) (first_text now.driver.world answer) (Ok tt) now mid → mid.driver ≡ now.driver
      → new ≡ record mid { driver = record mid.driver { world = after mid.driver.world Taken } } → SoFar first new
  one_so_far {answer} mid new sound is said driver taking =
      let w : World = now.driver.world in
      let both : SaysText {T = Unit {0}} {E = SinkFailed} (so.answers ++ first_told w answer ∷ []) (so.text ++ first_text w answer) (Ok tt) first mid = text_both (Ok tt) so.says said in
      subst (SoFar first) (sym taking)
      (subst (λ (d : State). SoFar first (record mid { driver = record d { world = after d.world Taken } })) (sym driver) (record {
        answers = so.answers ++ first_told w answer ∷ [];
        text = so.text ++ first_text w answer;
        says = record {
          says = both.says;
          counts = both.counts;
          requests = both.requests;
          same = ap (λ (s : Spot). record s { driver = record now.driver { world = after w Taken } }) both.same;
        };
        told =
            append_assoc so.answers (first_told w answer ∷ []) (waiting (after w Taken))
            ∙ ap (λ (xs : List Answered). so.answers ++ xs) (sym (told_taken drops w answer sound is)) ∙ so.told;
        said = text_more answer sound is;
        all = sym (taken_first w is.made is.oldest) ∙ so.all;
        state = ap (λ (d : State). record d { world = after w Taken }) so.state;
      }))

  pub so_far_stops : {new : Spot} {answer : Answer} {failed : SinkFailed} (result : Result (Unit {0}) SinkFailed) → Sound now.driver.world → IsFirst now.driver.world answer → IsErr result
      → SaysText {T = Unit {0}} (first_told now.driver.world answer ∷ []) (first_text now.driver.world answer) (Err failed) now new
      → SaysText (waiting first.driver.world) (waiting_text first.driver.world) result first new
  so_far_stops {new} {answer} {failed} result sound is err said =
      text_same (waiting_text first.driver.world)
      (text_stop (waiting first.driver.world) (waiting_text (after now.driver.world Taken)) result err (text_both (Err failed) so.says said)) (text_more answer sound is)

  pub all_so_far : now.driver.world.answers ≡ [] → SaysText {T = Unit {0}} {E = SinkFailed} (waiting first.driver.world) (waiting_text first.driver.world) (Ok tt) first now
  all_so_far none =
      let empty : waiting now.driver.world ≡ [] = ap (map (told_by now.driver.world)) none in
      let told : so.answers ≡ waiting first.driver.world = sym (append-nil so.answers) ∙ ap (λ (xs : List Answered). so.answers ++ xs) (sym empty) ∙ so.told in
      let said : so.text ≡ waiting_text first.driver.world = sym (append-nil so.text) ∙ ap (λ (xs : List Answered). so.text ++ flat_map answer_text xs) (sym empty) ∙ so.said in
      text_same (waiting_text first.driver.world) (subst (λ (xs : List Answered). SaysText {T = Unit {0}} {E = SinkFailed} xs so.text (Ok tt) first now) told so.says) said

  pub state_so_far : now.driver.world.answers ≡ [] → now.driver ≡ record first.driver { world = all_taken first.driver.world }
  state_so_far none = so.state ∙ ap (λ (w : World). record first.driver { world = w }) (sym (none_left now.driver.world none) ∙ so.all)
