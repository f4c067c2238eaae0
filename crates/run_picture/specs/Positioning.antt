-- WHAT DRIVES DO AT ONCE.
use Rattle.std.specs.Prelude.{ℕ, Bool, List, count_by}
use Rattle.std.specs.List.{list_any}
use Rattle.drive_pictures.specs.declared.drives.Drive.{Drive}
use Rattle.drive_pictures.specs.Letters.{is_positioning, is_moving}

-- positioning at once: the drives with a seek, a search, a recalibration or an offset under way behind it.
unfoldable pub positions : Drive → Bool
positions drive = is_positioning drive.letter

abbrev pub positioning : List Drive → ℕ
positioning drives = count_by positions drives

unfoldable pub moves : Drive → Bool
moves drive = is_moving drive.letter

abbrev pub moving : List Drive → Bool
moving drives = list_any moves drives
