-- Laws of the bytes that go into a buffer block by block.
use Rattle.std.proofs.Common.{◌≡◌, ℕ, zero, suc, ◌+◌, ◌-◌, ◌*◌, ◌<◌, ◌≤◌, min, nat_lt, Bool, true, false, List, [], ◌∷◌, ◌++◌, take, drop, length, replicate, refl, sym, ap, ◌∙◌, subst, arith}
use Rattle.std.proofs.lemmas.Bool.{ltb-true, ltb-false}
use Rattle.std.proofs.lemmas.List.{drop-drop, drop-replicate, length-take, length-drop, take_more_set, take_all}
use Rattle.main_memory.specs.Bytes.{front, filled}
use Rattle.main_memory.proofs.ByteLaws.{front-filled}
use Rattle.main_memory.specs.Frames.{frames_needed}
use Rattle.main_memory.specs.Blocks.{Loan, IsLoan, size_at, size_of, blocks_from}
use Rattle.main_memory.specs.Memory.{Memory, IsMemory, IsLent, AreApart, blocks_of}
use Rattle.main_memory.proofs.BlockLaws.{length-blocks_from, by_size}
use Rattle.driver_machine.specs.World.{pieces}
use Rattle.request_slots.specs.Lending.{HasLent, Stores}
use Rattle.request_slots.specs.declared.asked.Asked.{Asked}

pub pieces-more : (n : ℕ) (bytes : List ℕ) → pieces (suc n) bytes ≡ pieces n bytes ++ take 512 (drop (512 * n) bytes) ∷ []
pieces-more zero bytes =
    let e : 512 * 0 ≡ 0 = omega arith in
    ap (λ (k : ℕ). take 512 (drop k bytes) ∷ []) (sym e)
pieces-more (suc n) bytes =
    let e : 512 + 512 * n ≡ 512 * suc n = omega arith in
    ap (λ (xs : List (List ℕ)). take 512 bytes ∷ xs) (pieces-more n (drop 512 bytes))
    ∙ ap (λ (xs : List ℕ). take 512 bytes ∷ (pieces n (drop 512 bytes) ++ take 512 xs ∷ [])) (drop-drop (512 * n) 512 bytes ∙ ap (λ (k : ℕ). drop k bytes) e)

pieces-next : (n : ℕ) (bytes : List ℕ) → pieces (n + 1) bytes ≡ pieces n bytes ++ take 512 (drop (512 * n) bytes) ∷ []
pieces-next n bytes =
    let e : n + 1 ≡ suc n = omega arith in
    ap (λ (k : ℕ). pieces k bytes) e ∙ pieces-more n bytes

-- a piece is as long as its block
pub length-piece : (loan : Loan) (k : ℕ) (bytes : List ℕ) → k < loan.count → IsLoan loan → length bytes ≡ size_of loan → length (take 512 (drop (512 * k) bytes)) ≡ size_at loan k
length-piece loan k bytes inside is whole =
    by_size loan k
    (λ last e. omega (arith, last, e, is.shape.last_few, is.shape.last_some, whole, length-take 512 (drop (512 * k) bytes), length-drop (512 * k) bytes))
    (λ other e. omega (arith, other, e, inside, whole, length-take 512 (drop (512 * k) bytes), length-drop (512 * k) bytes))

-- the front of what is left behind a place, of 512 bytes or of all of it
shortest : (xs : List ℕ) (n m : ℕ) → n ≡ length xs → m ≡ min n 512 → take m xs ≡ take 512 xs
shortest xs n m size is =
    by_test (nat_lt n 512)
    (λ low.
    let lt : n < 512 = ltb-true n 512 low in
    take_all m xs (omega (arith, is, size, lt)) ∙ sym (take_all 512 xs (omega (arith, size, lt))))
    (λ high. let e : m ≡ 512 = omega (arith, is, ltb-false n 512 high) in ap (λ (k : ℕ). take k xs) e)
  where
    by_test : (b : Bool) {X : Type 0} → (b ≡ true → X) → (b ≡ false → X) → X
    by_test true on off = on refl
    by_test false on off = off refl

pub front-rest : (bytes : List ℕ) (at m : ℕ) → m ≡ min (length (take (length bytes - at) (drop at bytes))) 512 → take m (take (length bytes - at) (drop at bytes)) ≡ take 512 (drop at bytes)
front-rest bytes at m is =
    let all : take (length bytes - at) (drop at bytes) ≡ drop at bytes = take_all (length bytes - at) (drop at bytes) (omega (arith, length-drop at bytes)) in
    shortest (take (length bytes - at) (drop at bytes)) (length (take (length bytes - at) (drop at bytes))) m refl is ∙ ap (take 512) all

pub put_front-filled : (size : ℕ) (bytes : List ℕ) → bytes ++ drop (length bytes) (replicate size 0) ≡ filled size bytes
unfolding filled
put_front-filled size bytes = ap (λ (zeros : List ℕ). bytes ++ zeros) (drop-replicate (length bytes) size 0)

-- of a piece that was filled the block takes the piece
pub front-piece : (loan : Loan) (k : ℕ) (bytes : List ℕ) → k < loan.count → IsLoan loan → length bytes ≡ size_of loan
    → front (size_at loan k) (filled 512 (take 512 (drop (512 * k) bytes))) ≡ take 512 (drop (512 * k) bytes)
front-piece loan k bytes inside is whole = front-filled 512 (size_at loan k) (take 512 (drop (512 * k) bytes)) (length-piece loan k bytes inside is whole)

-- of a whole block that is in front of what is left the block takes the piece too
pub front-whole : (loan : Loan) (k : ℕ) (bytes block : List ℕ) → k < loan.count → IsLoan loan → length bytes ≡ size_of loan
    → block ≡ take 512 (take (length bytes - 512 * k) (drop (512 * k) bytes)) → front (size_at loan k) block ≡ take 512 (drop (512 * k) bytes)
unfolding front
front-whole loan k bytes block inside is whole same =
    let all : take (length bytes - 512 * k) (drop (512 * k) bytes) ≡ drop (512 * k) bytes = take_all (length bytes - 512 * k) (drop (512 * k) bytes) (omega (arith, length-drop (512 * k) bytes)) in
    ap (take (size_at loan k)) (same ∙ ap (take 512) all)
    ∙ take_all (size_at loan k) (take 512 (drop (512 * k) bytes)) (omega (arith, length-piece loan k bytes inside is whole))

-- The memory where the first k blocks of a buffer hold their bytes, and all else is as it was.
pub record IsFilled (old new : Memory) (loan : Loan) (bytes : List ℕ) (k : ℕ) : Type 0 where
  pub front : take k (blocks_of loan new) ≡ pieces k bytes
  pub others : (other : Loan) → IsLoan other → IsLent old other → AreApart loan other → blocks_of other new ≡ blocks_of other old
  pub lent : (other : Loan) → IsLent old other → IsLent new other
  pub free : new.free ≡ old.free
  pub sound : IsMemory new

pub filled_none : (memory : Memory) (loan : Loan) (bytes : List ℕ) → IsMemory memory → IsFilled memory memory loan bytes 0
filled_none memory loan bytes sound = record {
  front = refl;
  others = λ other shape lent apart. refl;
  lent = λ other lent. lent;
  free = refl;
  sound = sound;
}

pub filled_more : {old memory new : Memory} {loan : Loan} (bytes : List ℕ) {k : ℕ} {block : List ℕ} → IsFilled old memory loan bytes k → Stores memory new loan k block → k < loan.count
    → block ≡ take 512 (drop (512 * k) bytes) → IsFilled old new loan bytes (k + 1)
filled_more {old} {memory} {new} {loan} bytes {k} {block} filled stores inside is = record {
  front =
      ap (take (k + 1)) stores.held
      ∙ take_more_set (blocks_of loan memory) k block (omega (arith, length-blocks_from loan memory.bytes 0 loan.count))
      ∙ ap (λ (xs : List (List ℕ)). xs ++ block ∷ []) filled.front
      ∙ ap (λ (b : List ℕ). pieces k bytes ++ b ∷ []) is
      ∙ sym (pieces-next k bytes);
  others = λ other shape lent apart. stores.others other shape (filled.lent other lent) apart ∙ filled.others other shape lent apart;
  lent = λ other lent. stores.lent other (filled.lent other lent);
  free = ap (λ (m : Memory). m.free) stores.memory ∙ filled.free;
  sound = stores.sound;
}

pub filled_all : {old new : Memory} {loan : Loan} {bytes : List ℕ} (k : ℕ) → IsFilled old new loan bytes k → k ≡ loan.count → blocks_of loan new ≡ pieces loan.count bytes
filled_all {old} {new} {loan} {bytes} k filled all =
    sym (take_all loan.count (blocks_of loan new) (omega (arith, length-blocks_from loan new.bytes 0 loan.count)))
    ∙ subst (λ (n : ℕ). take n (blocks_of loan new) ≡ pieces n bytes) all filled.front

-- A BUFFER THAT WAS LENT, and what was stored in it
pub has_lent : {old lent new : Memory} {loan : Loan} {asked : Asked} → loan ≡ record { frames = take (frames_needed asked.count asked.offset asked.last) old.free; offset = asked.offset; count = asked.count; last = asked.last }
    → lent ≡ record old { free = drop (frames_needed asked.count asked.offset asked.last) old.free }
    → frames_needed asked.count asked.offset asked.last ≤ length old.free → IsLoan loan → IsLent lent loan
    → ((other : Loan) → IsLent old other → AreApart loan other) → ((other : Loan) → IsLent old other → IsLent lent other)
    → ((other : Loan) → IsLoan other → IsLent lent other → AreApart loan other → blocks_of other new ≡ blocks_of other lent)
    → ((other : Loan) → IsLent lent other → IsLent new other) → new.free ≡ lent.free → IsMemory new → HasLent old new loan asked
has_lent {old} {lent} {new} {loan} {asked} is taken room shape own apart others blocks still free sound = record {
  shape = shape;
  is = record {
    count = ap (λ (l : Loan). l.count) is;
    offset = ap (λ (l : Loan). l.offset) is;
    last = ap (λ (l : Loan). l.last) is;
  };
  lent = still loan own;
  apart = apart;
  others = λ other was. still other (others other was);
  blocks = λ other whole was. blocks other whole (others other was) (apart other was) ∙ ap (λ (m : Memory). blocks_from other m.bytes 0 other.count) taken;
  free =
      let needed : ℕ = frames_needed asked.count asked.offset asked.last in
      let left : new.free ≡ drop needed old.free = free ∙ ap (λ (m : Memory). m.free) taken in
      let frames : loan.frames ≡ take needed old.free = ap (λ (l : Loan). l.frames) is in
      omega (arith, ap length left, ap length frames, length-drop needed old.free, length-take needed old.free, room);
  sound = sound;
}
