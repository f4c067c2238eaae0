-- The front of a buffer, as the bytes of a read so far.
use Rattle.std.proofs.Common.{◌≡◌, ◌<◌, ℕ, suc, ◌+◌, Bool, true, false, List, [], ◌∷◌, ◌++◌, take, length, refl, sym, ap, arith, ◌∙◌, append_assoc, append-nil, rules}
use Rattle.std.proofs.lemmas.List.{take-set, take_more_set, get_or-set_same}
use Rattle.std.proofs.Math.Seq.{take-length}
use Rattle.std.specs.Prelude.{if◌then◌else◌, slice_set}
use Rattle.driver_machine.specs.Repaired as machine
use Rattle.trace_replay.specs.Packs.{repaired_from}
use Rattle.driver_machine.specs.World.{Held, bytes_in, with_block_in, block_in}
use Rattle.driver_laws.specs.shown.Stages.{front_of}

bytes_append : (xs ys : List (List ℕ)) → bytes_in (xs ++ ys) ≡ bytes_in xs ++ bytes_in ys
bytes_append [] ys = refl
bytes_append (x ∷ xs) ys = ap (λ zs. x ++ zs) (bytes_append xs ys) ∙ sym (append_assoc x (bytes_in xs) (bytes_in ys))

front_more_by : (write : Bool) (k : ℕ) (bytes : List ℕ) (blocks : List (List ℕ)) → write ≡ false → k < length blocks
    → (if write then [] else bytes_in (take (k + 1) (slice_set blocks k bytes))) ≡ (if write then [] else bytes_in (take k blocks)) ++ bytes
front_more_by true k bytes blocks is inside = absurd (grind (arith, is))
front_more_by false k bytes blocks is inside =
    ap bytes_in (take_more_set blocks k bytes inside) ∙ bytes_append (take k blocks) (bytes ∷ []) ∙ ap (λ ys. bytes_in (take k blocks) ++ ys) (append-nil bytes)

pub front_more : (h : Held) (k : ℕ) (bytes : List ℕ) → h.write ≡ false → k < length h.blocks
    → front_of (with_block_in k bytes h) (k + 1) ≡ front_of h k ++ bytes
front_more h k bytes reads inside = front_more_by h.write k bytes h.blocks reads inside

pub front_same : (h : Held) (k : ℕ) (bytes : List ℕ) → front_of (with_block_in k bytes h) k ≡ front_of h k
front_same h k bytes = ap (λ blocks. if h.write then [] else bytes_in blocks) (take-set h.blocks k bytes)

pub block_set : (h : Held) (k : ℕ) (bytes : List ℕ) → k < length h.blocks → block_in (with_block_in k bytes h) k ≡ bytes
block_set h k bytes inside = get_or-set_same h.blocks k bytes [] inside

pub front_whole : (h : Held) (count : ℕ) → h.write ≡ false → length h.blocks ≡ count → front_of h count ≡ bytes_in h.blocks
front_whole h count reads size = rw (reads, sym size) (ap bytes_in (take-length h.blocks))

pub repaired_same : (i at pattern : ℕ) (bytes : List ℕ) → repaired_from i at pattern bytes ≡ machine.repaired_from i at pattern bytes
unfolding machine.repaired_from
repaired_same i at pattern [] = refl
repaired_same i at pattern (b ∷ bytes) = search (rules, repaired_same (suc i) at pattern bytes)
