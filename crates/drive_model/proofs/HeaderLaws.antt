-- What the header made for a block shows.
use Rattle.std.proofs.Common.{◌≡◌, ℕ, ◌+◌, ◌-◌, ◌*◌, ◌^◌, ◌%◌, ◌<◌, ◌==◌, ◌&&◌, Bool, true, false, bit_and, bit_or, refl, ap, ◌∙◌, arith}
use Rattle.std.proofs.lemmas.Bool.{eq-eqb}
use Rattle.std.proofs.lemmas.Nat.{and_block, and_mask, and_le_r}
use Rattle.std.specs.Int.Bits.{or_shifted_r}
use Rattle.pack_geometry.specs.declared.DriveKind.{DriveKind}
use Rattle.pack_geometry.specs.declared.DriveKind.TheVariants.{Rp06, Rm03, Rm05}
use Rattle.pack_geometry.specs.declared.Place.{Place}
use Rattle.pack_geometry.specs.Geometry.{place_at, track_and_sector}
use Rattle.drive_model.specs.Headers.{header_at, is_off, names, fault_of, fault_as_marked}

-- the bits above the cylinder
high_bits : (high mask cylinder : ℕ) → cylinder < 2 ^ 10 → bit_and (bit_or cylinder (high * 2 ^ 10)) (mask * 2 ^ 10) ≡ bit_and high mask * 2 ^ 10 + bit_and cylinder 0
high_bits high mask cylinder small =
    let zero_small : 0 < 2 ^ 10 = omega arith in
    let same : mask * 2 ^ 10 ≡ mask * 2 ^ 10 + 0 = omega arith in
    ap (λ (w : ℕ). bit_and w (mask * 2 ^ 10)) (or_shifted_r high 10 cylinder small)
    ∙ ap (λ (m : ℕ). bit_and (high * 2 ^ 10 + cylinder) m) same
    ∙ and_block 10 high mask cylinder 0 small zero_small

none_of_it : (n : ℕ) → bit_and n 0 ≡ 0
none_of_it n = let e = and_le_r n 0 in omega arith

-- and the cylinder below them
low_bits : (high cylinder : ℕ) → cylinder < 2 ^ 10 → bit_and (bit_or cylinder (high * 2 ^ 10)) (2 ^ 10 - 1) ≡ cylinder
low_bits high cylinder small =
    let back : (high * 2 ^ 10 + cylinder) % 2 ^ 10 ≡ cylinder = omega arith in
    and_mask (bit_or cylinder (high * 2 ^ 10)) 10 ∙ ap (λ (w : ℕ). w % 2 ^ 10) (or_shifted_r high 10 cylinder small) ∙ back

off_by : (high mask cylinder : ℕ) → cylinder < 2 ^ 10 → is_off (bit_or cylinder (high * 2 ^ 10)) (mask * 2 ^ 10) ≡ (bit_and high mask * 2 ^ 10 == 0)
off_by high mask cylinder small =
    let none : bit_and high mask * 2 ^ 10 + bit_and cylinder 0 ≡ bit_and high mask * 2 ^ 10 = omega (arith, none_of_it cylinder) in
    ap (λ (w : ℕ). w == 0) (high_bits high mask cylinder small ∙ none)

both : (a b : Bool) → a ≡ true → b ≡ true → (a && b) ≡ true
both a b p q = rw (p, q) refl

names_itself : (high : ℕ) (place : Place) → place.cylinder < 2 ^ 10 → names (record { cylinder_word = bit_or place.cylinder (high * 2 ^ 10); sector_word = track_and_sector place }) place ≡ true
names_itself high place small = both _ _ (eq-eqb _ _ (low_bits high place.cylinder small)) (eq-eqb (track_and_sector place) (track_and_sector place) refl)

pub shown : (kind : DriveKind) (block : ℕ) (marked : Bool) → (place_at kind block).cylinder < 2 ^ 10 → fault_of kind (header_at kind block marked) block ≡ fault_as_marked kind marked
shown Rp06 block false small =
    let cylinder : ℕ = (place_at Rp06 block).cylinder in
    let off : is_off (bit_or cylinder 4096) 4096 ≡ false = off_by 4 4 cylinder small in
    let named : names (header_at Rp06 block false) (place_at Rp06 block) ≡ true = names_itself 4 (place_at Rp06 block) small in
    rw (off, named) refl
shown Rp06 block true small =
    let cylinder : ℕ = (place_at Rp06 block).cylinder in
    let off : is_off (bit_or cylinder 0) 4096 ≡ true = off_by 0 4 cylinder small in
    rw off refl
shown Rm03 block false small =
    let cylinder : ℕ = (place_at Rm03 block).cylinder in
    let first : is_off (bit_or cylinder 53248) 32768 ≡ false = off_by 52 32 cylinder small in
    let second : is_off (bit_or cylinder 53248) 16384 ≡ false = off_by 52 16 cylinder small in
    let off : is_off (bit_or cylinder 53248) 4096 ≡ false = off_by 52 4 cylinder small in
    let named : names (header_at Rm03 block false) (place_at Rm03 block) ≡ true = names_itself 52 (place_at Rm03 block) small in
    rw (first, second, off, named) refl
shown Rm03 block true small =
    let cylinder : ℕ = (place_at Rm03 block).cylinder in
    let first : is_off (bit_or cylinder 36864) 32768 ≡ false = off_by 36 32 cylinder small in
    let second : is_off (bit_or cylinder 36864) 16384 ≡ true = off_by 36 16 cylinder small in
    rw (first, second) refl
shown Rm05 block false small =
    let cylinder : ℕ = (place_at Rm05 block).cylinder in
    let first : is_off (bit_or cylinder 53248) 32768 ≡ false = off_by 52 32 cylinder small in
    let second : is_off (bit_or cylinder 53248) 16384 ≡ false = off_by 52 16 cylinder small in
    let off : is_off (bit_or cylinder 53248) 4096 ≡ false = off_by 52 4 cylinder small in
    let named : names (header_at Rm05 block false) (place_at Rm05 block) ≡ true = names_itself 52 (place_at Rm05 block) small in
    rw (first, second, off, named) refl
shown Rm05 block true small =
    let cylinder : ℕ = (place_at Rm05 block).cylinder in
    let first : is_off (bit_or cylinder 36864) 32768 ≡ false = off_by 36 32 cylinder small in
    let second : is_off (bit_or cylinder 36864) 16384 ≡ true = off_by 36 16 cylinder small in
    rw (first, second) refl
