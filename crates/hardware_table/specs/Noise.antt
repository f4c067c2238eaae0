-- Live noise: it flips places of a sector when the sector is read.
use Rattle.std.specs.Prelude.{◌≡◌, ℕ, ◌+◌, ◌*◌, ◌-◌, ◌^◌, ◌==◌, ◌&&◌, nat_lt, nat_le, Bool, false, not, if◌then◌else◌, List, [], ◌∷◌, ◌++◌, filter, find, Contains, Option, None, Some}
use Rattle.drive_registers.specs.Codes.{offset_code, offset_field}
use Rattle.hardware_table.specs.declared.NoiseSpan.{NoiseSpan}
use Rattle.hardware_table.specs.declared.NoiseSpan.TheVariants.{Times, Until}

-- the unit and the block that it strikes, how long it still lives, and the places that it flips
pub record LiveNoise : Type 0 where
  pub unit : ℕ
  pub block : ℕ
  pub span : NoiseSpan
  pub places : List ℕ

abbrev pub is_at : ℕ → ℕ → LiveNoise → Bool
is_at unit block noise = (noise.unit == unit) && (noise.block == block)

-- noise whose unit, block and places are those of noise of a list
pub record IsAmong (live : List LiveNoise) (noise : LiveNoise) : Type 0 where
  pub kin : LiveNoise
  pub listed : Contains live kin
  pub unit : noise.unit ≡ kin.unit
  pub block : noise.block ≡ kin.block
  pub places : noise.places ≡ kin.places

-- Live noise is kept in the order of its sectors, and at one sector in the order of its arming.
abbrev pub sector_number : ℕ → ℕ → ℕ
sector_number unit block = unit * 2 ^ 32 + block

abbrev pub is_behind : ℕ → LiveNoise → Bool
is_behind number noise = nat_lt number (sector_number noise.unit noise.block)

-- noise that is to strike no more
abbrev pub is_spent : NoiseSpan → Bool
is_spent (Times n) = n == 0
is_spent (Until code) = false

-- live noise with new noise behind all of its sector
abbrev pub with_noise : LiveNoise → List LiveNoise → List LiveNoise
with_noise noise live =
    if is_spent noise.span then live
    else filter (λ (other : LiveNoise). not (is_behind (sector_number noise.unit noise.block) other)) live
    ++ noise ∷ filter (is_behind (sector_number noise.unit noise.block)) live

-- a read with this word in the offset register ends the noise, and is not struck by it
abbrev pub is_ended_by : ℕ → NoiseSpan → Bool
is_ended_by word (Times n) = false
is_ended_by word (Until code) = offset_code code == offset_field word

-- how long noise lives that was used by such a read, or None where it lives no more
abbrev pub span_left : ℕ → NoiseSpan → Option NoiseSpan
span_left word (Times n) = if nat_le n 1 then None else Some (Times (n - 1))
span_left word (Until code) = if is_ended_by word (Until code) then None else Some (Until code)

abbrev pub noise_left : LiveNoise → Option NoiseSpan → List LiveNoise
noise_left noise None = []
noise_left noise (Some span) = record noise { span = span } ∷ []

-- the noise that decides at a sector: the oldest
abbrev pub oldest : ℕ → ℕ → List LiveNoise → Option LiveNoise
oldest unit block live = find (is_at unit block) live

-- the places that a noise flips in a read with this word in the offset register, if it flips any
abbrev pub flips : ℕ → Option LiveNoise → Option (List ℕ)
flips word None = None
flips word (Some noise) = if is_ended_by word noise.span then None else Some noise.places

-- the places that are flipped in a read of a sector
abbrev pub strikes : ℕ → ℕ → ℕ → List LiveNoise → Option (List ℕ)
strikes unit block word live = flips word (oldest unit block live)

-- the live noise after such a read: the oldest noise of the sector was used, and the others are as they were
abbrev pub after_strike : ℕ → ℕ → ℕ → List LiveNoise → List LiveNoise
after_strike unit block word [] = []
after_strike unit block word (noise ∷ rest) =
    if is_at unit block noise then noise_left noise (span_left word noise.span) ++ rest
    else noise ∷ after_strike unit block word rest

-- a book of noise: what is live, how much was ever armed, and how much may be
pub record Book : Type 0 where
  pub live : List LiveNoise
  pub armed : ℕ
  pub capacity : ℕ

abbrev pub empty_book : ℕ → Book
empty_book capacity = record { live = []; armed = 0; capacity = capacity }

abbrev pub book_armed : LiveNoise → Book → Book
book_armed noise book = record book { live = with_noise noise book.live; armed = book.armed + 1 }

abbrev pub book_struck : ℕ → ℕ → ℕ → Book → Book
book_struck unit block word book = record book { live = after_strike unit block word book.live }
