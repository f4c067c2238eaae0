-- How the bytes of a sector are repaired.
use Rattle.std.specs.Prelude.{ℕ, ◌-◌, ◌*◌, ◌/◌, ◌%◌, ◌^◌}

-- byte i of the burst at, pattern: the pattern's bit 0 lies at bit (at-1)%8 of byte (at-1)/8. An exclusive or with
-- it flips the byte's places of the burst
unfoldable pub burst_byte : ℕ → ℕ → ℕ → ℕ
burst_byte at pattern i = pattern * 2 ^ (at - 1) / 2 ^ (8 * i) % 2 ^ 8
