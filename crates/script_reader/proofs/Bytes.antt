-- The bytes of a write.
use Rattle.std.proofs.Common.{◌≡◌, ℕ, zero, suc, ◌+◌, ◌*◌, ◌/◌, ◌%◌, ◌<◌, Bool, true, false, List, [], ◌∷◌, length, get_or, replicate, refl, sym, ap, subst, ◌∙◌, arith, Result, Ok}
use Rattle.std.specs.Prelude.{slice_index, MatchResult}
use Rattle.std.specs.List.{list_all, AllPass}
use Rattle.std.proofs.lemmas.Grind.{same_number_lists}
use Rattle.std.proofs.lemmas.Bool.{and_parts}
use Rattle.std.proofs.lemmas.List.{get_or-replicate, length-replicate}
use Rattle.std.proofs.lemmas.List.Elements.{All-nil, All-cons}
use Rattle.hex.specs.Hex.{decode_sized, is_hex_digit}
use Rattle.hex.specs.declared.error.FromHexError.{FromHexError}
use Rattle.hex.proofs.HexLemmas.{decode_sized-twice, decode_of-even, decode_pairs-digits, decode_pairs-ok}
use Rattle.script_lines.specs.declared.statement.Content.{Content}
use Rattle.script_lines.specs.declared.statement.Content.TheVariants as contents
use Rattle.script_reader.specs.Formed.{IsWritten}
use Rattle.script_reader.specs.Meaning.{sequence_from, bytes_said, bytes_of}
use Rattle.script_reader.specs.Promises.{MeansItsBytes}

-- A SEQUENCE has its length, and each of its bytes
sequence_length : (first i size : ℕ) → length (sequence_from first i size) ≡ size
sequence_length first i zero = refl
sequence_length first i (suc size) = ap (λ (n : ℕ). suc n) (sequence_length first (i + 1) size)

sequence_byte : (first i size k : ℕ) → k < size → get_or (sequence_from first i size) k 0 ≡ (first + (i + k) / 512 + (i + k) % 512) % 256
sequence_byte first i zero k below = absurd (omega (arith, below))
sequence_byte first i (suc size) zero below = let e : i ≡ i + 0 = omega arith in ap (λ (n : ℕ). (first + n / 512 + n % 512) % 256) e
sequence_byte first i (suc size) (suc k) below =
    let e : i + 1 + k ≡ i + suc k = omega arith in
    sequence_byte first (i + 1) size k (omega (arith, below)) ∙ ap (λ (n : ℕ). (first + n / 512 + n % 512) % 256) e

-- DIGITS, two for each byte, say bytes
are_digits : (digits : List ℕ) → list_all is_hex_digit digits ≡ true → AllPass is_hex_digit digits
are_digits [] e = All-nil (λ c. is_hex_digit c ≡ true)
are_digits (c ∷ digits) e =
    let both = and_parts (is_hex_digit c) (list_all is_hex_digit digits) e in
    All-cons (λ c. is_hex_digit c ≡ true) c digits both.0 (are_digits digits both.1)

record AreSaid (digits : List ℕ) (size : ℕ) : Type 0 where
  pub bytes : List ℕ
  pub is : decode_sized digits size ≡ Ok bytes
  pub whole : length bytes ≡ size

said : (digits : List ℕ) (size : ℕ) → length digits ≡ 2 * size → list_all is_hex_digit digits ≡ true → AreSaid digits size
said digits size twice all =
    let even : length digits % 2 ≡ 0 = omega (arith, twice) in
    let found = decode_pairs-digits 0 digits even (are_digits digits all) in
    let parts = decode_pairs-ok 0 digits found.0 found.1 in
    let long = parts.1 in record {
      bytes = found.0;
      is = decode_sized-twice digits size twice ∙ decode_of-even digits even ∙ found.1;
      whole = omega (arith, twice, long);
    }

-- HOW MANY bytes a content has
pub content_length : (content : Content (List ℕ)) (count : ℕ) → IsWritten count content → length (bytes_of content (512 * count)) ≡ 512 * count
content_length (contents.Fill b) count w = length-replicate (512 * count) b
content_length (contents.Seq n) count w = sequence_length n 0 (512 * count)
content_length (contents.Hex digits) count w =
    let s = said digits (512 * count) (let long = w.0 in omega (arith, long)) w.1 in
    ap (λ (r : Result (List ℕ) FromHexError). length (bytes_said r)) s.is ∙ s.whole

-- WHAT THE READER PUTS
filled : (b size : ℕ) (bytes : List ℕ) → length bytes ≡ size → ((i : ℕ) → i < length bytes → slice_index bytes i ≡ b) → bytes ≡ replicate size b
filled b size bytes long each =
    let k : length bytes ≡ length (replicate size b) = long ∙ sym (length-replicate size b) in
    same_number_lists bytes (replicate size b) k (λ i below. each i below ∙ sym (get_or-replicate size i b 0 (omega (arith, below, long))))

in_sequence : (first size : ℕ) (bytes : List ℕ) → length bytes ≡ size → ((i : ℕ) → i < length bytes → slice_index bytes i ≡ (first + i / 512 + i % 512) % 256) → bytes ≡ sequence_from first 0 size
in_sequence first size bytes long each =
    same_number_lists bytes (sequence_from first 0 size) (long ∙ sym (sequence_length first 0 size))
    (λ i below.
    let e : i ≡ 0 + i = omega arith in
    each i below ∙ ap (λ (n : ℕ). (first + n / 512 + n % 512) % 256) e ∙ sym (sequence_byte first 0 size i (omega (arith, below, long))))

decoded : (res : Result (List ℕ) FromHexError) (new bytes : List ℕ) (told : Bool) → res ≡ Ok new → MatchResult res (λ n. (told ≡ true) × (bytes ≡ n)) (λ e. told ≡ false) → (told ≡ true) × (bytes ≡ bytes_said res)
decoded res new bytes told is m =
    let both = subst (λ (r : Result (List ℕ) FromHexError). MatchResult r (λ n. (told ≡ true) × (bytes ≡ n)) (λ e. told ≡ false)) is m in
    (both.0, both.1 ∙ sym (ap bytes_said is))

pub means_its_bytes : MeansItsBytes
means_its_bytes (contents.Fill b) count told bytes w long d = (d.0, filled b (512 * count) bytes long d.1)
means_its_bytes (contents.Seq n) count told bytes w long d = (d.0, in_sequence n (512 * count) bytes long d.1)
means_its_bytes (contents.Hex digits) count told bytes w long d =
    let s = said digits (512 * count) (let twice = w.0 in omega (arith, twice)) w.1 in
    decoded (decode_sized digits (512 * count)) s.bytes bytes told s.is d
