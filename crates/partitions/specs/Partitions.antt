-- The partitions of the drives, and how a request fits its partition.
use Rattle.std.specs.Prelude.{ℕ, ◌+◌, ◌*◌, ◌==◌, nat_le, if◌then◌else◌}
use Rattle.pack_geometry.specs.declared.DriveKind.{DriveKind}
use Rattle.pack_geometry.specs.declared.DriveKind.TheVariants.{Rp06, Rm03, Rm05}
use Rattle.pack_geometry.specs.Geometry.{tracks_of, sectors_of, limit_of}
use Rattle.partitions.specs.declared.Part.{Part}
use Rattle.partitions.specs.declared.Part.TheVariants.{A, B, C, D, E, F, G, H}
use Rattle.partitions.specs.declared.Admission.{Admission}
use Rattle.partitions.specs.declared.Admission.TheVariants.{Inside, Eof, Outside}

-- `a` to `h`
abbrev pub letter_of : Part → ℕ
letter_of A = 97
letter_of B = 98
letter_of C = 99
letter_of D = 100
letter_of E = 101
letter_of F = 102
letter_of G = 103
letter_of H = 104

-- where a partition begins, as a cylinder, and how many blocks it has; `c` is all data blocks
abbrev pub extent_of : DriveKind → Part → ℕ × ℕ
extent_of Rp06 A = (0, 15884)
extent_of Rp06 B = (38, 33440)
extent_of Rp06 C = (0, limit_of Rp06)
extent_of Rp06 D = (118, 15884)
extent_of Rp06 E = (156, 55936)
extent_of Rp06 F = (290, 219296)
extent_of Rp06 G = (118, 291192)
extent_of Rp06 H = (0, 0)
extent_of Rm03 A = (0, 15884)
extent_of Rm03 B = (100, 33440)
extent_of Rm03 C = (0, limit_of Rm03)
extent_of Rm03 D = (309, 15884)
extent_of Rm03 E = (409, 55936)
extent_of Rm03 F = (759, 10080)
extent_of Rm03 G = (309, 82080)
extent_of Rm03 H = (0, 0)
extent_of Rm05 A = (0, 15884)
extent_of Rm05 B = (27, 33440)
extent_of Rm05 C = (0, limit_of Rm05)
extent_of Rm05 G = (82, 450370)
extent_of Rm05 part = (0, 0)

abbrev pub size_of : DriveKind → Part → ℕ
size_of kind part = (extent_of kind part).1

-- its first block
abbrev pub first_of : DriveKind → Part → ℕ
first_of kind part = (extent_of kind part).0 * tracks_of kind * sectors_of kind

-- what a request meets for `count` blocks from `block` of a partition: its end, blocks inside, or neither
abbrev pub admission : DriveKind → Part → ℕ → ℕ → Admission
admission kind part block count =
    if block == size_of kind part then Eof
    else if nat_le (block + count) (size_of kind part) then Inside (first_of kind part + block) else Outside
