-- The bits of a drive's registers, and the names by which each register lists them.
use Rattle.std.specs.Prelude.{ℕ, List, [], ◌∷◌, codes}

-- a register's bits: each name with its bit
abbrev pub Names : Type 0
Names = List (List ℕ × ℕ)

-- drive status
abbrev pub attention : ℕ
attention = 0o100000

abbrev pub error : ℕ
error = 0o40000

abbrev pub positioning : ℕ
positioning = 0o20000

abbrev pub medium_on_line : ℕ
medium_on_line = 0o10000

abbrev pub write_locked : ℕ
write_locked = 0o4000

abbrev pub drive_present : ℕ
drive_present = 0o400

abbrev pub drive_ready : ℕ
drive_ready = 0o200

abbrev pub volume_valid : ℕ
volume_valid = 0o100

abbrev pub status_names : Names
status_names =
    (codes "ATA", attention) ∷ (codes "ERR", error) ∷ (codes "PIP", positioning) ∷ (codes "MOL", medium_on_line)
    ∷ (codes "WRL", write_locked) ∷ (codes "DPR", drive_present) ∷ (codes "DRY", drive_ready) ∷ (codes "VV", volume_valid) ∷ []

-- first error register
abbrev pub data_check : ℕ
data_check = 0o100000

abbrev pub unsafe : ℕ
unsafe = 0o40000

abbrev pub operation_incomplete : ℕ
operation_incomplete = 0o20000

abbrev pub drive_timing_error : ℕ
drive_timing_error = 0o10000

abbrev pub write_lock_error : ℕ
write_lock_error = 0o4000

abbrev pub invalid_address_error : ℕ
invalid_address_error = 0o2000

abbrev pub header_check_error : ℕ
header_check_error = 0o400

abbrev pub header_compare_error : ℕ
header_compare_error = 0o200

abbrev pub hard_error : ℕ
hard_error = 0o100

abbrev pub format_error : ℕ
format_error = 0o20

abbrev pub illegal_function : ℕ
illegal_function = 0o1

abbrev pub first_error_names : Names
first_error_names =
    (codes "DCK", data_check) ∷ (codes "UNS", unsafe) ∷ (codes "OPI", operation_incomplete) ∷ (codes "DTE", drive_timing_error)
    ∷ (codes "WLE", write_lock_error) ∷ (codes "IAE", invalid_address_error) ∷ (codes "HCRC", header_check_error)
    ∷ (codes "HCE", header_compare_error) ∷ (codes "ECH", hard_error) ∷ (codes "FER", format_error) ∷ (codes "ILF", illegal_function) ∷ []

-- second error register
abbrev pub bad_sector_error : ℕ
bad_sector_error = 0o100000

abbrev pub seek_incomplete : ℕ
seek_incomplete = 0o40000

abbrev pub second_error_names : Names
second_error_names = (codes "BSE", bad_sector_error) ∷ (codes "SKI", seek_incomplete) ∷ []

-- offset register, whose low eight bits are the offset code
abbrev pub sixteen_bit_format : ℕ
sixteen_bit_format = 0o10000

abbrev pub offset_names : Names
offset_names = (codes "FMT22", sixteen_bit_format) ∷ []
