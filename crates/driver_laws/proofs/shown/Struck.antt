-- What a read gives of a sector at which no alias is among the noise that was armed.
use Rattle.std.proofs.Common.{◌≡◌, ℕ, ◌+◌, ◌*◌, ◌<◌, ◌≤◌, List, length, get_or, take, Option, Some, None, sym, ap, subst, arith, ◌∙◌, rules}
use Rattle.std.specs.Int.{bit_at}
use Rattle.std.proofs.lemmas.Nat.Bits.{same_from_bits_below}
use Rattle.std.proofs.lemmas.Grind.{same_number_lists}
use Rattle.fire_code.specs.Word.{bit_of_word}
use Rattle.main_memory.specs.Bytes.{front}
use Rattle.hardware_table.specs.declared.Moved.TheVariants as verdict
use Rattle.hardware_table.specs.Moves.{IsStruck, IsReadVerdict}
use Rattle.request_slots.specs.Move.{IsFrontRead}
use Rattle.trace_replay.specs.Bytes.{ArePlaces}
use Rattle.trace_replay.specs.Packs.{read_as}
use Rattle.trace_replay.proofs.ReadBytes.{reads_as_told}
use Rattle.driver_machine.specs.Repaired.{repaired}
use Rattle.driver_laws.proofs.rules.Noises.{Harmless, read_clean, read_burst}
use Rattle.driver_laws.proofs.shown.Fronts.{repaired_same}

pub bit_here : (bytes : List ℕ) (check i j : ℕ) → i < 512 → j < 8 → bit_of_word bytes check (8 * i + j) ≡ bit_at (get_or bytes i 0) j
bit_here bytes check i j small less = search rules

pub struck_once : (places sector one other : List ℕ) → IsStruck places sector one → IsStruck places sector other → one ≡ other
struck_once places sector one other a b =
    same_number_lists one other (a.read.size ∙ sym b.read.size) (λ i less. at_byte i (subst (λ n. i < n) a.read.size less))
  where
    at_byte : (i : ℕ) → i < 512 → get_or one i 0 ≡ get_or other i 0
    at_byte i small =
        same_from_bits_below 8 (get_or one i 0) (get_or other i 0)
        (a.read.small i 0 (subst (λ n. i < n) (sym a.read.size) small))
        (b.read.small i 0 (subst (λ n. i < n) (sym b.read.size) small))
        (λ j less.
        sym (bit_here one a.check i j small less) ∙ a.flipped.bits (8 * i + j) (omega (arith, small, less))
        ∙ sym (b.flipped.bits (8 * i + j) (omega (arith, small, less))) ∙ bit_here other b.check i j small less)

-- what a read gives is the front of the sector as the noise leaves it
pub front_read : (flips : Option (List ℕ)) (sector : List ℕ) (size : ℕ) (window : List ℕ) → ArePlaces flips → IsFrontRead flips sector size window
    → window ≡ take size (read_as flips sector)
unfolding front
front_read None sector size window are is = is.cut ∙ ap (take size) is.whole
front_read (Some places) sector size window are is =
    let whole : IsStruck places sector is.bytes = is.whole in
    let told : IsStruck places sector (read_as (Some places) sector) = reads_as_told (Some places) sector are whole.right in
    is.cut ∙ ap (take size) (struck_once places sector is.bytes (read_as (Some places) sector) whole told)

-- CLEAN at a sure sector, a read gives the sector's own bytes;
pub clean_read : (claimed : Type 0) (flips : Option (List ℕ)) (sector : List ℕ) (size : ℕ) (window : List ℕ)
    → ((ps : List ℕ) → flips ≡ Some ps → Harmless claimed ps) → IsReadVerdict flips verdict.Clean → IsFrontRead flips sector size window
    → claimed → window ≡ take size sector
clean_read claimed flips sector size window harmless is read sure =
    front_read flips sector size window (λ ps e. (harmless ps e).noise.set) read
    ∙ ap (take size) (read_clean flips sector (λ ps e. (harmless ps e).no_alias sure) is)

-- and behind a burst, its repair does.
pub burst_read : (claimed : Type 0) (flips : Option (List ℕ)) (sector : List ℕ) (at q size : ℕ) (window : List ℕ) → length sector ≡ 512
    → ((ps : List ℕ) → flips ≡ Some ps → Harmless claimed ps) → IsReadVerdict flips (verdict.Burst at q) → IsFrontRead flips sector size window
    → claimed → repaired at q window ≡ take size sector
burst_read claimed flips sector at q size window long harmless is read sure =
    ap (repaired at q) (front_read flips sector size window (λ ps e. (harmless ps e).noise.set) read)
    ∙ sym (repaired_same 0 at q (take size (read_as flips sector)))
    ∙ read_burst flips sector at q size (few (length sector) long) (λ ps e. ((harmless ps e).noise, (harmless ps e).no_alias sure)) is
  where
    few : (n : ℕ) → n ≡ 512 → n ≤ 512
    few n e = omega (arith, e)
