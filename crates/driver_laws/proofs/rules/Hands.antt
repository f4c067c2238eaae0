-- The request in hand stands for blocks of the map: as it begins, as a block more is done, and as it ends.
use Rattle.std.proofs.Common.{◌≡◌, ◌≢◌, inl, inr, ℕ, ◌<◌, ◌+◌, true, List, ◌++◌, take, Option, None, Some, refl, sym, ap, ◌∙◌, subst, arith, suc, length, length-append, rules}
use Rattle.std.specs.Prelude.{is_some, IsSome}
use Rattle.std.proofs.lemmas.Bool.{true≢false}
use Rattle.std.proofs.lemmas.Bool.Decides.{eqb_tells}
use borrow.Author.Count.{below_more}
use Rattle.trace_replay.specs.requests.Requests.{Request}
use Rattle.trace_replay.specs.Packs.{size_of_block, sector_of_block}
use Rattle.trace_replay.specs.Conversation.{Progress, not_begun}
use Rattle.driver_laws.specs.rules.Machine.{Blocks, bytes_or_none, bytes_of_first, blocks_done}
use Rattle.driver_laws.specs.rules.Stands.{held_at, IsSure, HandStands, size_of_first}
use Rattle.driver_laws.proofs.rules.Blocks.{block_not_done, read_blocks, block_done, other_blocks, next_bytes, reads_so, held_some}

-- only the blocks done and the bytes matter
pub same_hand : (sure : ℕ → Type 0) (homes : ℕ → Option ℕ) (first : ℕ) (r : Request) (p q : Progress) (sectors : ℕ → List ℕ) (blocks : Blocks) → q.done ≡ p.done → q.bytes ≡ p.bytes
    → HandStands sure homes first r p sectors blocks → HandStands sure homes first r q sectors blocks
same_hand sure homes first r p q sectors blocks done bytes h = record {
  contents = λ b. h.contents b ∙ ap (λ n. blocks_done blocks first r n b) (sym done);
  usable = λ k lt. h.usable k (subst (λ n. k < n) done lt);
  size = λ reads. ap length bytes ∙ h.size reads ∙ ap (λ n. size_of_first n r) (sym done);
  read = λ reads is_sure. bytes ∙ h.read reads is_sure ∙ ap (λ n. bytes_of_first n blocks first r) (sym done);
}

-- the map at the home of the first block not done
pub at_home : (sure : ℕ → Type 0) (homes : ℕ → Option ℕ) (first : ℕ) (r : Request) (p : Progress) (sectors : ℕ → List ℕ) (blocks : Blocks) (sector : ℕ) → HandStands sure homes first r p sectors blocks
    → homes (first + p.done) ≡ Some sector → blocks (first + p.done) ≡ Some (sectors sector)
at_home sure homes first r p sectors blocks sector h home =
    sym (block_not_done blocks first r p.done) ∙ sym (h.contents (first + p.done)) ∙ held_some sectors (homes (first + p.done)) sector home

pub no_home_at : (sure : ℕ → Type 0) (homes : ℕ → Option ℕ) (first : ℕ) (r : Request) (p : Progress) (sectors : ℕ → List ℕ) (blocks : Blocks) → HandStands sure homes first r p sectors blocks
    → homes (first + p.done) ≡ None → blocks (first + p.done) ≡ None
no_home_at sure homes first r p sectors blocks h home =
    sym (block_not_done blocks first r p.done) ∙ sym (h.contents (first + p.done)) ∙ ap (held_at sectors) home

-- A BLOCK MORE of a read
pub read_more : (sure : ℕ → Type 0) (homes : ℕ → Option ℕ) (first : ℕ) (r : Request) (p q : Progress) (sectors : ℕ → List ℕ) (blocks : Blocks) (bytes : List ℕ)
    → q.done ≡ p.done + 1 → q.bytes ≡ p.bytes ++ bytes → r.written ≡ None → IsSome (blocks (first + p.done)) → length bytes ≡ size_of_block r p.done
    → (IsSure sure homes first r → bytes ≡ take (size_of_block r p.done) (bytes_or_none (blocks (first + p.done))))
    → HandStands sure homes first r p sectors blocks → HandStands sure homes first r q sectors blocks
read_more sure homes first r p q sectors blocks bytes done all reads usable long gives h = record {
  contents = λ b. h.contents b ∙ read_blocks blocks first r p.done b (reads_so r.written reads) ∙ sym (read_blocks blocks first r q.done b (reads_so r.written reads));
  usable = λ k lt. below_more (λ j. IsSome (blocks (first + j))) p.done h.usable usable k (subst (λ n. k < n) done lt);
  size = λ w. ap length all ∙ length-append p.bytes bytes ∙ next_size (length p.bytes) (length bytes) p.done q.done done (h.size w) long;
  read = λ w is_sure. all ∙ ap (λ z. z ++ bytes) (h.read w is_sure) ∙ ap (λ z. bytes_of_first p.done blocks first r ++ z) (gives is_sure)
      ∙ sym (next_bytes p.done blocks first r) ∙ ap (λ n. bytes_of_first n blocks first r) (sym done);
}
  where
    next_size : (a b n m : ℕ) → m ≡ n + 1 → a ≡ size_of_first n r → b ≡ size_of_block r n → a + b ≡ size_of_first m r
    next_size a b n m is one two = ap (λ z. z + b) one ∙ ap (λ z. size_of_first n r + z) two ∙ ap (λ z. size_of_first z r) (suc_is n m is)
      where
        suc_is : (n m : ℕ) → m ≡ n + 1 → suc n ≡ m
        suc_is n m e = omega (arith, e)

-- and of a write: its sector is replaced, and no other block lives there
other_home : (sectors new : ℕ → List ℕ) (block : ℕ) (home : Option ℕ) → ((b : ℕ) → b ≢ block → new b ≡ sectors b) → (home ≡ Some block → ⊥) → held_at new home ≡ held_at sectors home
other_home sectors new block None there apart = refl
other_home sectors new block (Some x) there apart = ap Some (there x (λ e. apart (ap Some e)))

pub written_more : (sure : ℕ → Type 0) (homes : ℕ → Option ℕ) (first : ℕ) (r : Request) (p q : Progress) (sectors new : ℕ → List ℕ) (blocks : Blocks) (sector : ℕ)
    → ((b c x : ℕ) → homes b ≡ Some x → homes c ≡ Some x → b ≡ c) → q.done ≡ p.done + 1 → is_some r.written ≡ true
    → homes (first + p.done) ≡ Some sector → new sector ≡ sector_of_block r p.done → ((b : ℕ) → b ≢ sector → new b ≡ sectors b)
    → HandStands sure homes first r p sectors blocks → HandStands sure homes first r q new blocks
written_more sure homes first r p q sectors new blocks sector apart done writes home here there h = record {
  contents = λ b. contents b ∙ ap (λ n. blocks_done blocks first r n b) (sym done);
  usable = λ k lt. below_more (λ j. IsSome (blocks (first + j))) p.done h.usable (ap is_some (at_home sure homes first r p sectors blocks sector h home)) k (subst (λ n. k < n) done lt);
  size = λ reads. absurd (true≢false (sym writes ∙ reads_so r.written reads));
  read = λ reads is_sure. absurd (true≢false (sym writes ∙ reads_so r.written reads));
}
  where
    contents : (b : ℕ) → held_at new (homes b) ≡ blocks_done blocks first r (p.done + 1) b
    contents b = elim (eqb_tells b (first + p.done)) [
      | inl same ↦ subst (λ z. held_at new (homes z) ≡ blocks_done blocks first r (p.done + 1) z) (sym same.1)
          (held_some new (homes (first + p.done)) sector home ∙ ap Some here ∙ sym (block_done blocks first r p.done writes))
      | inr other ↦ other_home sectors new sector (homes b) there (λ e. other.1 (apart b (first + p.done) sector e home)) ∙ h.contents b ∙ sym (other_blocks blocks first r p.done b other.1)
    ]

-- A REQUEST THAT BEGINS, over a map that the homes hold
pub begins : (sure : ℕ → Type 0) (homes : ℕ → Option ℕ) (first : ℕ) (r : Request) (sectors : ℕ → List ℕ) (blocks : Blocks) → ((b : ℕ) → held_at sectors (homes b) ≡ blocks b)
    → HandStands sure homes first r not_begun sectors blocks
begins sure homes first r sectors blocks holds = search rules

-- sectors that hold the same
pub same_sectors : (sure : ℕ → Type 0) (homes : ℕ → Option ℕ) (first : ℕ) (r : Request) (p : Progress) (sectors new : ℕ → List ℕ) (blocks : Blocks) → ((b : ℕ) → new b ≡ sectors b)
    → HandStands sure homes first r p sectors blocks → HandStands sure homes first r p new blocks
same_sectors sure homes first r p sectors new blocks same h = record { contents = λ b. held (homes b) ∙ h.contents b; usable = h.usable; size = h.size; read = h.read }
  where
    held : (o : Option ℕ) → held_at new o ≡ held_at sectors o
    held None = refl
    held (Some x) = ap Some (same x)

-- fewer sectors are sure
pub fewer_sure : (sure less : ℕ → Type 0) (homes : ℕ → Option ℕ) (first : ℕ) (r : Request) (p : Progress) (sectors : ℕ → List ℕ) (blocks : Blocks) → ((x : ℕ) → less x → sure x)
    → HandStands sure homes first r p sectors blocks → HandStands less homes first r p sectors blocks
fewer_sure sure less homes first r p sectors blocks implied h =
    record { contents = h.contents; usable = h.usable; size = h.size; read = λ reads is_sure. h.read reads (λ k x lt home. implied x (is_sure k x lt home)) }
