-- The front of a sector, repaired as the sector is.
use Rattle.std.proofs.Common.{◌≡◌, ℕ, zero, suc, ◌<◌, ◌^◌, List, [], ◌∷◌, ◌++◌, length, refl, sym, ap, ◌∙◌, arith, subst, take, length-append}
use Rattle.std.proofs.lemmas.List.{get_or_append_left}
use Rattle.std.proofs.lemmas.List.Elements.{All-get_or, All-from_get_or}
use Rattle.std.specs.List.{All}
use lib.Bits.{bit_xor}
use Rattle.fire_code.specs.Repair.{burst_byte}
use Rattle.main_memory.specs.Bytes.{front, filled}
use Rattle.main_memory.proofs.ByteLaws.{front-filled}
use Rattle.driver_machine.specs.Repaired.{repaired_from, repaired}

front_from : (i at q size : ℕ) (bytes : List ℕ) → repaired_from i at q (take size bytes) ≡ take size (repaired_from i at q bytes)
unfolding repaired_from
front_from i at q zero bytes = refl
front_from i at q (suc size) [] = refl
front_from i at q (suc size) (b ∷ bytes) = ap (λ (rest : List ℕ). bit_xor b (burst_byte at q i) ∷ rest) (front_from (suc i) at q size bytes)

pub repaired-front : (at q size : ℕ) (bytes : List ℕ) → repaired at q (front size bytes) ≡ front size (repaired at q bytes)
unfolding front
repaired-front at q size bytes = front_from 0 at q size bytes

-- what is written back of a block that was read with zeros behind it
pub repaired-filled : (at q len : ℕ) (bytes : List ℕ) → length bytes ≡ len → front len (repaired at q (filled 512 bytes)) ≡ repaired at q bytes
repaired-filled at q len bytes is = sym (repaired-front at q len (filled 512 bytes)) ∙ ap (repaired at q) (front-filled 512 len bytes is)

-- its bytes are bytes
small_front : (bytes zeros : List ℕ) → All (λ byte. byte < 2 ^ 8) (bytes ++ zeros) → All (λ byte. byte < 2 ^ 8) bytes
small_front bytes zeros all =
    All-from_get_or (λ byte. byte < 2 ^ 8) bytes 0
    (λ i h. subst (λ byte. byte < 2 ^ 8) (get_or_append_left bytes zeros 0 i h)
    (All-get_or (λ byte. byte < 2 ^ 8) (bytes ++ zeros) i 0 (omega (arith, length-append bytes zeros)) all))

pub small_bytes : (bytes : List ℕ) → All (λ byte. byte < 2 ^ 8) (filled 512 bytes) → All (λ byte. byte < 2 ^ 8) bytes
unfolding filled
small_bytes bytes all = small_front bytes _ all
