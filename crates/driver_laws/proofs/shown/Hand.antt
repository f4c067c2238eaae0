-- The request in hand as it goes on: block by block, and where its segment changes.
use Rattle.std.proofs.Common.{◌≡◌, ◌≢◌, inl, inr, ℕ, ◌<◌, ◌≤◌, ◌+◌, Bool, true, false, List, [], length, Option, None, Some, refl, sym, ap, ◌∙◌, subst, arith, get_or-set_same, get_or-set_other, rules}
use Rattle.std.specs.Prelude.{is_some, IsSome}
use Rattle.std.proofs.lemmas.Bool.Decides.{eqb_tells}
use Rattle.std.proofs.lemmas.Option.{none-some}
use Rattle.std.proofs.lemmas.Bool.{true≢false}
use borrow.Author.Count.{below_more}
use Rattle.pack_geometry.specs.declared.DriveKind.{DriveKind}
use Rattle.pack_geometry.specs.Pack.{Pack, block_at, written}
use Rattle.pack_geometry.specs.Content.{bytes_at}
use Rattle.pack_geometry.specs.TableSpelling.{Table}
use Rattle.pack_geometry.specs.PackTable.{places_of}
use Rattle.pack_geometry.specs.Homes.{home_of, content_of}
use Rattle.pack_geometry.proofs.HomeWriteLaws.{content_same, content_other}
use Rattle.hardware_table.specs.declared.Moved.{Moved}
use Rattle.hardware_table.specs.declared.Moved.TheVariants.{Clean, Burst}
use Rattle.driver_machine.specs.Repaired.{repaired}
use Rattle.main_memory.specs.Bytes.{filled}
use Rattle.transfer_engine.specs.State.{TransferState}
use Rattle.driver_laws.specs.rules.Machine.{Blocks}
use Rattle.driver_machine.specs.World.{Held, block_in, with_block_in}
use Rattle.driver_laws.specs.shown.Bytes.{map_done, asked_of, IsSureFor, IsForwarded, sector_for, IsStopped, HandBears}
use Rattle.driver_laws.proofs.rules.Blocks.{and_false, not_done, none_done, other_done}
use Rattle.driver_laws.proofs.rules.Cleans.{none_below}

-- THE MAP with what is done
pub map_begun : (blocks : Blocks) (h : Held) (b : ℕ) → map_done blocks h 0 b ≡ blocks b
map_begun blocks h b = rw (none_done h.first b, and_false h.write) refl

pub map_not_done : (blocks : Blocks) (h : Held) (n : ℕ) → map_done blocks h n (h.first + n) ≡ blocks (h.first + n)
map_not_done blocks h n = rw (not_done h.first n, and_false h.write) refl

pub map_read : (blocks : Blocks) (h : Held) (n b : ℕ) → h.write ≡ false → map_done blocks h n b ≡ blocks b
map_read blocks h n b reads = rw reads refl

map_more : (blocks : Blocks) (h : Held) (n : ℕ) → h.write ≡ true → map_done blocks h (n + 1) (h.first + n) ≡ Some (filled 512 (block_in h n))
map_more blocks h n writes = search rules

map_other : (blocks : Blocks) (h : Held) (n b : ℕ) → b ≢ h.first + n → map_done blocks h (n + 1) b ≡ map_done blocks h n b
map_other blocks h n b ne = rw (other_done h.first n b ne) refl

not_itself : (k : ℕ) → k < k → ⊥
not_itself k lt = omega (arith, lt)

module _ (sure : ℕ → Type 0) (kind : DriveKind) (table : Option Table) (pack : Pack) (blocks : Blocks) where
  -- NOTHING IS DONE of a request, over a map that the homes hold
  pub hand_waits : (h : Held) (t : TransferState) → t.index ≡ None → ((b : ℕ) → content_of kind table pack b ≡ blocks b)
      → HandBears sure kind table pack blocks h t 0 Clean
  hand_waits h t none holds = record {
    homes = λ b. holds b ∙ sym (map_begun blocks h b);
    usable = λ k lt. absurd (none_below k lt);
    read = λ reads sures k lt. absurd (none_below k lt);
    forwarded = λ i is. absurd (none-some i (sym none ∙ is));
    stopped = tt;
  }

  module _ (h : Held) (t : TransferState) (done : ℕ) (last : Moved) (b : HandBears sure kind table pack blocks h t done last) where
    -- the homes hold the map where none is done
    pub hand_holds : done ≡ 0 → (block : ℕ) → content_of kind table pack block ≡ blocks block
    hand_holds none block = b.homes block ∙ ap (λ n. map_done blocks h n block) none ∙ map_begun blocks h block

    -- the map at the first block not done is what its home holds
    pub next_held : blocks (h.first + done) ≡ content_of kind table pack (h.first + done)
    next_held = sym (map_not_done blocks h done) ∙ sym (b.homes (h.first + done))

    pub next_home : (sector : ℕ) → home_of kind table pack (h.first + done) ≡ Some sector → blocks (h.first + done) ≡ Some (block_at pack.image sector)
    next_home sector home = next_held ∙ ap (bytes_at pack) home

    -- ANOTHER SEGMENT by own sectors
    pub hand_anew : (u : TransferState) (n : ℕ) → n ≡ done → u.index ≡ None → HandBears sure kind table pack blocks h u n Clean
    hand_anew u n same none = subst (λ m. HandBears sure kind table pack blocks h u m Clean) (sym same) (record {
      homes = b.homes;
      usable = b.usable;
      read = b.read;
      forwarded = λ i is. absurd (none-some i (sym none ∙ is));
      stopped = tt;
    })

    -- or by the same ones, or at the replacement of an entry
    pub hand_at : (u : TransferState) (n : ℕ) → n ≡ done → ((i : ℕ) → u.index ≡ Some i → IsForwarded kind table pack (h.first + u.done) i)
        → HandBears sure kind table pack blocks h u n Clean
    hand_at u n same at = subst (λ m. HandBears sure kind table pack blocks h u m Clean) (sym same) (record {
      homes = b.homes;
      usable = b.usable;
      read = b.read;
      forwarded = at;
      stopped = tt;
    })

    -- it stopped with a verdict
    pub hand_stopped : (v : Moved)
        → IsStopped (IsSureFor sure kind table pack h) pack (sector_for kind t.index (h.first + done)) h done (blocks (h.first + done)) v
        → HandBears sure kind table pack blocks h t done v
    hand_stopped v at = record { homes = b.homes; usable = b.usable; read = b.read; forwarded = b.forwarded; stopped = at }

    -- THE BUFFER goes to the adapter and back
    pub hand_bus : (on : Bool) → HandBears sure kind table pack blocks (record h { on_bus = on }) t done last
    hand_bus on = search rules

    -- A BLOCK MORE of a read
    block_read : (bytes : List ℕ) → done < length h.blocks → block_in (with_block_in done bytes h) done ≡ bytes
    block_read bytes inside = get_or-set_same h.blocks done bytes [] inside

    block_kept : (bytes : List ℕ) (k : ℕ) → k ≢ done → block_in (with_block_in done bytes h) k ≡ block_in h k
    block_kept bytes k other = get_or-set_other h.blocks done k bytes [] other

    pub hand_read : (bytes : List ℕ) → h.write ≡ false → done < length h.blocks → IsSome (blocks (h.first + done))
        → (IsSureFor sure kind table pack h → bytes ≡ asked_of h done (blocks (h.first + done)))
        → HandBears sure kind table pack blocks (with_block_in done bytes h) t (done + 1) Clean
    hand_read bytes reads inside usable gives = record {
      homes = λ c. b.homes c ∙ map_read blocks h done c reads ∙ sym (map_read blocks (with_block_in done bytes h) (done + 1) c reads);
      usable = λ k lt. below_more (λ j. IsSome (blocks (h.first + j))) done b.usable usable k lt;
      read = λ r sures k lt. elim (eqb_tells k done) [
        | inl same ↦ subst (λ j. block_in (with_block_in done bytes h) j ≡ asked_of h j (blocks (h.first + j))) (sym same.1) (block_read bytes inside ∙ gives sures)
        | inr other ↦ block_kept bytes k other.1 ∙ b.read reads sures k (omega (arith, lt, other.1))
      ];
      forwarded = b.forwarded;
      stopped = tt;
    }

    -- the next block of the buffer was overwritten by a read that stopped there
    pub hand_struck : (bytes : List ℕ) (v : Moved) → h.write ≡ false
        → IsStopped (IsSureFor sure kind table pack h) pack (sector_for kind t.index (h.first + done)) (with_block_in done bytes h) done (blocks (h.first + done)) v
        → HandBears sure kind table pack blocks (with_block_in done bytes h) t done v
    hand_struck bytes v reads at = record {
      homes = λ c. b.homes c ∙ map_read blocks h done c reads ∙ sym (map_read blocks (with_block_in done bytes h) done c reads);
      usable = b.usable;
      read = λ r sures k lt. block_kept bytes k (λ same. not_itself done (subst (λ j. j < done) same lt)) ∙ b.read reads sures k lt;
      forwarded = b.forwarded;
      stopped = at;
    }

    -- A BLOCK MORE of a write: its home holds it
    pub hand_written : (sector : ℕ) → h.write ≡ true → home_of kind table pack (h.first + done) ≡ Some sector
        → length (filled 512 (block_in h done)) ≡ 512 → length (places_of table) ≤ 126
        → HandBears sure kind table (written pack sector (filled 512 (block_in h done))) blocks h t (done + 1) Clean
    hand_written sector writes home long room = record {
      homes = λ c. elim (eqb_tells c (h.first + done)) [
        | inl same ↦ subst (λ z. content_of kind table (written pack sector (filled 512 (block_in h done))) z ≡ map_done blocks h (done + 1) z) (sym same.1)
            (content_same kind table pack (h.first + done) sector (filled 512 (block_in h done)) long home ∙ sym (map_more blocks h done writes))
        | inr other ↦ content_other kind table pack (h.first + done) sector c (filled 512 (block_in h done)) long room home other.1
            ∙ b.homes c ∙ sym (map_other blocks h done c other.1)
      ];
      usable = λ k lt. below_more (λ j. IsSome (blocks (h.first + j))) done b.usable (ap is_some (next_home sector home)) k lt;
      read = λ reads sures k lt. absurd (true≢false (sym writes ∙ reads));
      forwarded = λ i is. let at : IsForwarded kind table pack (h.first + t.done) i = b.forwarded i is in record { marked = at.marked; listed = at.listed };
      stopped = tt;
    }

  -- A BURST IS REPAIRED in the buffer, and its block counts.
  pub hand_repaired : (h : Held) (t : TransferState) (done at q : ℕ) → HandBears sure kind table pack blocks h t done (Burst at q) → h.write ≡ false → done < length h.blocks
      → HandBears sure kind table pack blocks (with_block_in done (repaired at q (block_in h done)) h) t (done + 1) Clean
  hand_repaired h t done at q b reads inside =
      hand_read h t done (Burst at q) b (repaired at q (block_in h done)) reads inside b.stopped.0 b.stopped.1

-- FEWER SECTORS are sure
stopped_less : (sure less : Type 0) (pack : Pack) (sector : ℕ) (h : Held) (k : ℕ) (block : Option (List ℕ)) (v : Moved) → (less → sure) → IsStopped sure pack sector h k block v
    → IsStopped less pack sector h k block v
stopped_less sure less pack sector h k block v fewer is = search rules

pub hand_less : (sure less : ℕ → Type 0) (kind : DriveKind) (table : Option Table) (pack : Pack) (blocks : Blocks) (h : Held) (t : TransferState) (done : ℕ) (last : Moved)
    → ((sector : ℕ) → less sector → sure sector) → HandBears sure kind table pack blocks h t done last → HandBears less kind table pack blocks h t done last
hand_less sure less kind table pack blocks h t done last fewer b = record {
  homes = b.homes;
  usable = b.usable;
  read = λ reads sures k lt. b.read reads (λ n sector few home. fewer sector (sures n sector few home)) k lt;
  forwarded = b.forwarded;
  stopped = stopped_less (IsSureFor sure kind table pack h) (IsSureFor less kind table pack h) pack (sector_for kind t.index (h.first + done)) h done (blocks (h.first + done)) last
      (λ sures n sector few home. fewer sector (sures n sector few home)) b.stopped;
}
