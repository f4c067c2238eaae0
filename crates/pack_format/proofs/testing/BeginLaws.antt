-- A good drive that begins to move a sector.
use Rattle.std.proofs.Common.{◌≡◌, ℕ, ◌<◌, ◌==◌, ◌&&◌, nat_lt, not, Bool, true, false, if◌then◌else◌, refl, sym, ap, ◌∙◌, subst, arith}
use Rattle.std.specs.Prelude.{bit_or}
use Rattle.std.proofs.lemmas.Bool.Decides.{Decides-ltb}
use Rattle.pack_geometry.specs.declared.DriveKind.{DriveKind}
use Rattle.pack_geometry.specs.declared.DriveKind.TheVariants.{Rp06, Rm03, Rm05}
use Rattle.pack_geometry.specs.declared.Place.{Place}
use Rattle.pack_geometry.specs.Geometry.{IsInside, cylinders_of, sectors_of, track_and_sector, tracks_of}
use Rattle.drive_registers.specs.Bits as bits
use Rattle.drive_registers.specs.Codes.{function_code}
use Rattle.drive_registers.specs.declared.Function.{Function}
use Rattle.drive_registers.specs.declared.Function.TheVariants.{Read, Write}
use Rattle.hardware_table.specs.declared.Work.TheVariants.{Ready}
use Rattle.hardware_table.specs.Drive.{DriveState, on, sector_in, track_in}
use Rattle.hardware_table.specs.Functions.{effect, is_addressed, performed, refusals, refused}
use Rattle.pack_format.specs.testing.Stations.{Does, HasBegun, IsAimed}

-- what is not refused is done
done : (f : Function) (d : DriveState) → refusals f d ≡ 0 → performed f d ≡ effect f (record d { cs1 = function_code f })
done f d none =
    ap (λ (n : ℕ). if n == 0 then effect f (record d { cs1 = function_code f }) else refused n (record d { cs1 = function_code f })) none

write_done : (d : DriveState) → is_addressed d ≡ true → d.locked ≡ false → performed Write d ≡ effect Write (record d { cs1 = function_code Write })
write_done d addressed unlocked =
    done Write d (ap (λ (a : Bool). bit_or (on (not a) bits.invalid_address_error) (on d.locked bits.write_lock_error)) addressed
    ∙ ap (λ (l : Bool). bit_or (on (not true) bits.invalid_address_error) (on l bits.write_lock_error)) unlocked)

read_done : (d : DriveState) → is_addressed d ≡ true → performed Read d ≡ effect Read (record d { cs1 = function_code Read })
read_done d addressed = done Read d (ap (λ (a : Bool). on (not a) bits.invalid_address_error) addressed)

pub begun : (kind : DriveKind) (block : ℕ) (write : Bool) (f : Function) (d new : DriveState) → f ≡ (if write then Write else Read) → new ≡ performed f d
    → Does kind Ready d → is_addressed d ≡ true → IsAimed kind block d → HasBegun kind block write new
begun kind block true f d new which did does addressed aimed =
    subst (λ (x : DriveState). HasBegun kind block true x) (sym (did ∙ ap (λ (g : Function). performed g d) which ∙ write_done d addressed does.unlocked))
    (record {
      good = record { kind_is = does.kind_is; work_is = refl; online = does.online; unlocked = does.unlocked; none = does.none };
      aimed = record { cylinder = aimed.cylinder; track_and_sector = aimed.track_and_sector; heads = aimed.heads };
    })
begun kind block false f d new which did does addressed aimed =
    subst (λ (x : DriveState). HasBegun kind block false x) (sym (did ∙ ap (λ (g : Function). performed g d) which ∙ read_done d addressed))
    (record {
      good = record { kind_is = does.kind_is; work_is = refl; online = does.online; unlocked = does.unlocked; none = does.none };
      aimed = record { cylinder = aimed.cylinder; track_and_sector = aimed.track_and_sector; heads = aimed.heads };
    })

-- ---- a drive whose address names a place

abbrev names_sector : DriveKind → ℕ → ℕ → Bool
names_sector kind dc da = nat_lt dc (cylinders_of kind) && (nat_lt (track_in da) (tracks_of kind) && nat_lt (sector_in da) (sectors_of kind))

all_three : (a b c : Bool) → a ≡ true → b ≡ true → c ≡ true → (a && (b && c)) ≡ true
all_three a b c one two three = rw (one, two, three) refl

by_parts : (place : Place) (cylinders tracks sectors : ℕ) → place.sector < 256 → place.cylinder < cylinders → place.track < tracks → place.sector < sectors
    → (nat_lt place.cylinder cylinders && (nat_lt (track_in (track_and_sector place)) tracks && nat_lt (sector_in (track_and_sector place)) sectors)) ≡ true
by_parts place cylinders tracks sectors small one two three =
    let track : track_in (track_and_sector place) ≡ place.track = omega arith in
    let sector : sector_in (track_and_sector place) ≡ place.sector = omega arith in
    all_three _ _ _ ((Decides-ltb place.cylinder cylinders).1 one) ((Decides-ltb (track_in (track_and_sector place)) tracks).1 (omega (arith, track, two)))
    ((Decides-ltb (sector_in (track_and_sector place)) sectors).1 (omega (arith, sector, three)))

names_inside : (kind : DriveKind) (place : Place) → IsInside kind place → names_sector kind place.cylinder (track_and_sector place) ≡ true
names_inside Rp06 place inside = by_parts place 815 19 22 (omega (arith, inside.sector)) inside.cylinder inside.track inside.sector
names_inside Rm03 place inside = by_parts place 823 5 32 (omega (arith, inside.sector)) inside.cylinder inside.track inside.sector
names_inside Rm05 place inside = by_parts place 823 19 32 (omega (arith, inside.sector)) inside.cylinder inside.track inside.sector

pub addressed : (kind : DriveKind) (d : DriveState) (place : Place) → d.kind ≡ kind → d.dc ≡ place.cylinder → d.da ≡ track_and_sector place → IsInside kind place
    → is_addressed d ≡ true
addressed kind d place kind_is cylinder track inside =
    ap (λ (k : DriveKind). names_sector k d.dc d.da) kind_is ∙ ap (λ (n : ℕ). names_sector kind n d.da) cylinder
    ∙ ap (names_sector kind place.cylinder) track ∙ names_inside kind place inside

pub named : (kind : DriveKind) (d new : DriveState) (place : Place) → Does kind Ready d → new ≡ record d { dc = place.cylinder; da = track_and_sector place }
    → Does kind Ready new
named kind d new place does is =
    subst (λ (x : DriveState). Does kind Ready x) (sym is)
    (record { kind_is = does.kind_is; work_is = does.work_is; online = does.online; unlocked = does.unlocked; none = does.none })
