-- Laws of the bytes of a bad-sector table.
use Rattle.std.proofs.Common.{◌≡◌, inl, inr, ℕ, zero, suc, ◌+◌, ◌*◌, ◌-◌, ◌/◌, ◌%◌, ◌^◌, ◌<◌, ◌≤◌, List, [], ◌∷◌, ◌++◌, length, get_or, refl, sym, ap, ◌∙◌, arith, length-append}
use Rattle.std.proofs.Math.ListN.{replicate}
use Rattle.std.proofs.lemmas.Bool.{cases_lt}
use Rattle.std.proofs.lemmas.Grind.{same_number_lists}
use Rattle.std.proofs.lemmas.List.{get_or_append_left, get_or-append_right, get_or-replicate, length-replicate, same_lists}
use Rattle.std.specs.List.{flat_map}
use Rattle.pack_geometry.specs.declared.DriveKind.{DriveKind}
use Rattle.pack_geometry.specs.declared.DriveKind.TheVariants.{Rp06}
use Rattle.pack_geometry.specs.declared.Place.{Place}
use Rattle.pack_geometry.specs.Geometry.{IsInside}
use Rattle.pack_geometry.specs.TableFields.{word_at, long_at, place_in, IsEnd}
use Rattle.pack_geometry.specs.TableSpelling.{Table, head_text, pair_text, pairs_text, table_text, Spells}

-- four bytes a pair
pub length-pairs : (places : List Place) → length (flat_map pair_text places) ≡ 4 * length places
length-pairs [] = refl
length-pairs (p ∷ ps) = omega (arith, length-pairs ps)

pub length-table_text : (serial : ℕ) (places : List Place) → length places ≤ 126 → length (table_text serial places) ≡ 512
unfolding table_text pairs_text
length-table_text serial places room =
    let pairs = length-pairs places in
    let ones = length-replicate {A = ℕ} (504 - 4 * length places) 255 in
    omega (arith, pairs, ones, length-append (flat_map pair_text places) (replicate (504 - 4 * length places) 255))

-- ---- the bytes, one by one

behind_head : (serial : ℕ) (places : List Place) (m : ℕ) → get_or (table_text serial places) (8 + m) 0 ≡ get_or (pairs_text places) m 0
unfolding table_text
behind_head serial places m = get_or-append_right (head_text serial) (pairs_text places) 8 (8 + m) 0 refl (omega arith) ∙ ap (λ k. get_or (pairs_text places) k 0) (omega arith)

at_by : (a b c d : ℕ) (rest : List ℕ) (j : ℕ) → j < 4 → get_or (a ∷ b ∷ c ∷ d ∷ rest) j 0 ≡ get_or (a ∷ b ∷ c ∷ d ∷ []) j 0
at_by a b c d rest zero small = refl
at_by a b c d rest (suc zero) small = refl
at_by a b c d rest (suc (suc zero)) small = refl
at_by a b c d rest (suc (suc (suc zero))) small = refl
at_by a b c d rest (suc (suc (suc (suc j)))) small = absurd (omega arith)

behind_by : (a b c d : ℕ) (rest : List ℕ) (i m : ℕ) → i ≡ 4 + m → get_or (a ∷ b ∷ c ∷ d ∷ rest) i 0 ≡ get_or rest m 0
behind_by a b c d rest i m e = let four : i ≡ suc (suc (suc (suc m))) = omega arith in rw four refl

-- byte `j` of pair `k`, where a place stands there
pair_by : (places : List Place) (rest : List ℕ) (k j : ℕ) (d : Place) → j < 4 → k < length places
    → get_or (flat_map pair_text places ++ rest) (4 * k + j) 0 ≡ get_or (pair_text (get_or places k d)) j 0
pair_by [] rest k j d small inside = absurd (omega arith)
pair_by (p ∷ ps) rest zero j d small inside =
    let here : 4 * 0 + j ≡ j = omega arith in rw here (at_by _ _ _ _ (flat_map pair_text ps ++ rest) j small)
pair_by (p ∷ ps) rest (suc k) j d small inside =
    behind_by _ _ _ _ (flat_map pair_text ps ++ rest) (4 * suc k + j) (4 * k + j) (omega arith)
    ∙ pair_by ps rest k j d small (omega arith)

-- and where none stands there any more
ones_by : (places : List Place) (more i : ℕ) → 4 * length places ≤ i → i < 4 * length places + more
    → get_or (flat_map pair_text places ++ replicate more 255) i 0 ≡ 255
ones_by places more i behind small =
    get_or-append_right (flat_map pair_text places) (replicate more 255) (4 * length places) i 0 (length-pairs places) behind
    ∙ get_or-replicate more (i - 4 * length places) 255 0 (omega arith)

pub place_byte : (serial : ℕ) (places : List Place) (k j : ℕ) (d : Place) → j < 4 → k < length places
    → get_or (table_text serial places) (8 + (4 * k + j)) 0 ≡ get_or (pair_text (get_or places k d)) j 0
unfolding pairs_text
place_byte serial places k j d small inside =
    behind_head serial places (4 * k + j) ∙ pair_by places (replicate (504 - 4 * length places) 255) k j d small inside

pub end_byte : (serial : ℕ) (places : List Place) (i : ℕ) → length places ≤ 126 → 8 + 4 * length places ≤ i → i < 512
    → get_or (table_text serial places) i 0 ≡ 255
unfolding pairs_text
end_byte serial places i room behind small =
    let at : i ≡ 8 + (i - 8) = omega arith in
    ap (λ k. get_or (table_text serial places) k 0) at ∙ behind_head serial places (i - 8)
    ∙ ones_by places (504 - 4 * length places) (i - 8) (omega arith) (omega arith)

-- ---- what the fields of a table's text are

byte_here : (serial : ℕ) (places : List Place) (k j i : ℕ) (d : Place) → i ≡ 8 + (4 * k + j) → j < 4 → k < length places
    → get_or (table_text serial places) i 0 ≡ get_or (pair_text (get_or places k d)) j 0
byte_here serial places k j i d at small inside = rw at (place_byte serial places k j d small inside)

pub word_at-cylinder : (serial : ℕ) (places : List Place) (k : ℕ) (d : Place) → k < length places → (get_or places k d).cylinder < 65536
    → word_at (table_text serial places) (8 + 4 * k) ≡ (get_or places k d).cylinder
word_at-cylinder serial places k d inside small =
    let low = byte_here serial places k 0 (8 + 4 * k) d (omega arith) (omega arith) inside in
    let high = byte_here serial places k 1 (8 + 4 * k + 1) d (omega arith) (omega arith) inside in
    omega (arith, low, high)

pub word_at-sector : (serial : ℕ) (places : List Place) (k : ℕ) (d : Place) → k < length places
    → (get_or places k d).track * 256 + (get_or places k d).sector < 65536
    → word_at (table_text serial places) (10 + 4 * k) ≡ (get_or places k d).track * 256 + (get_or places k d).sector
word_at-sector serial places k d inside small =
    let low = byte_here serial places k 2 (10 + 4 * k) d (omega arith) (omega arith) inside in
    let high = byte_here serial places k 3 (10 + 4 * k + 1) d (omega arith) (omega arith) inside in
    omega (arith, low, high)

pub word_at-end : (serial : ℕ) (places : List Place) (at : ℕ) → length places ≤ 126 → 8 + 4 * length places ≤ at → at + 1 < 512
    → word_at (table_text serial places) at ≡ 65535
word_at-end serial places at room behind small =
    let low = end_byte serial places at room behind (omega arith) in
    let high = end_byte serial places (at + 1) room (omega arith) small in
    omega (arith, low, high)

pub word_at-zero : (serial : ℕ) (places : List Place) → word_at (table_text serial places) 4 ≡ 0
unfolding table_text
word_at-zero serial places = refl

pub word_at-flag : (serial : ℕ) (places : List Place) → word_at (table_text serial places) 6 ≡ 0
unfolding table_text
word_at-flag serial places = refl

pub long_at-serial : (serial : ℕ) (places : List Place) → serial < 2 ^ 32 → long_at (table_text serial places) 0 ≡ serial
unfolding table_text
long_at-serial serial places small = omega arith

-- ---- the places that a table's text names

same_place : (c t s : ℕ) (place : Place) → c ≡ place.cylinder → t ≡ place.track → s ≡ place.sector → record { cylinder = c; track = t; sector = s } ≡ place
same_place c t s place ec et es = rw (ec, et, es) refl

-- the words of a place on a drive are small, and its cylinder is not all ones
small_cylinder : (kind : DriveKind) (place : Place) → IsInside kind place → place.cylinder < 65535
small_cylinder Rp06 place inside = omega arith
small_cylinder other place inside = omega arith

small_sector : (kind : DriveKind) (place : Place) → IsInside kind place → place.sector < 256
small_sector Rp06 place inside = omega arith
small_sector other place inside = omega arith

small_track : (kind : DriveKind) (place : Place) → IsInside kind place → place.track < 256
small_track Rp06 place inside = omega arith
small_track other place inside = omega arith

pub place_in-listed : (kind : DriveKind) (serial : ℕ) (places : List Place) (k : ℕ) (d : Place) → k < length places → IsInside kind (get_or places k d)
    → place_in (table_text serial places) k ≡ get_or places k d
place_in-listed kind serial places k d listed inside =
    let place : Place = get_or places k d in
    let track = small_track kind place inside in
    let sector = small_sector kind place inside in
    let cylinder = word_at-cylinder serial places k d listed (omega (arith, small_cylinder kind place inside)) in
    let word = word_at-sector serial places k d listed (omega (arith, track, sector)) in
    same_place _ _ _ place cylinder (rw word (omega (arith, sector))) (rw word (omega (arith, sector)))

pub listed_is_no_end : (kind : DriveKind) (serial : ℕ) (places : List Place) (k : ℕ) (d : Place) → k < length places → IsInside kind (get_or places k d)
    → IsEnd (table_text serial places) k → ⊥
listed_is_no_end kind serial places k d listed inside ones =
    let small = small_cylinder kind (get_or places k d) inside in
    let cylinder = word_at-cylinder serial places k d listed (omega (arith, small)) in
    omega (arith, small, cylinder, ones.0)

pub unlisted_is_end : (serial : ℕ) (places : List Place) (k : ℕ) → length places ≤ 126 → length places ≤ k → k < 126 → IsEnd (table_text serial places) k
unlisted_is_end serial places k room unlisted small =
    (word_at-end serial places (8 + 4 * k) room (omega arith) (omega arith), word_at-end serial places (10 + 4 * k) room (omega arith) (omega arith))

-- ---- bytes with these fields are the table's text

-- the fields of bytes: the words zero and flag, places, and pairs of all ones
pub record IsRead (bytes : List ℕ) (places : List Place) : Type 0 where
  pub size : length bytes ≡ 512
  pub each : (i : ℕ) → get_or bytes i 0 < 256
  pub zero_word : word_at bytes 4 ≡ 0
  pub flag_word : word_at bytes 6 ≡ 0
  pub room : length places ≤ 126
  pub listed : (k : ℕ) (d : Place) → k < length places → get_or places k d ≡ place_in bytes k
  pub rest : (k : ℕ) → length places ≤ k → k < 126 → IsEnd bytes k

head_byte : (serial : ℕ) (places : List Place) (i : ℕ) → i < 8 → get_or (table_text serial places) i 0 ≡ get_or (head_text serial) i 0
unfolding table_text
head_byte serial places i small = get_or_append_left (head_text serial) (pairs_text places) 0 i small

long_bytes : (a b c d : ℕ) → a < 256 → b < 256 → c < 256 → d < 256 → let n = a + 256 * b + 65536 * (c + 256 * d) in
    (a ≡ n % 256) × (b ≡ n / 256 % 256) × (c ≡ n / 65536 % 256) × (d ≡ n / 16777216 % 256)
long_bytes a b c d ha hb hc hd = (omega arith, omega arith, omega arith, omega arith)

head_read : (bytes : List ℕ) (places : List Place) (i : ℕ) → IsRead bytes places → i < 8 → get_or bytes i 0 ≡ get_or (head_text (long_at bytes 0)) i 0
head_read bytes places zero read small = (long_bytes _ _ _ _ (read.each 0) (read.each 1) (read.each 2) (read.each 3)).0
head_read bytes places (suc zero) read small = (long_bytes _ _ _ _ (read.each 0) (read.each 1) (read.each 2) (read.each 3)).1
head_read bytes places (suc (suc zero)) read small = (long_bytes _ _ _ _ (read.each 0) (read.each 1) (read.each 2) (read.each 3)).2
head_read bytes places (suc (suc (suc zero))) read small = (long_bytes _ _ _ _ (read.each 0) (read.each 1) (read.each 2) (read.each 3)).3
head_read bytes places (suc (suc (suc (suc zero)))) read small = omega (arith, read.zero_word)
head_read bytes places (suc (suc (suc (suc (suc zero))))) read small = omega (arith, read.zero_word)
head_read bytes places (suc (suc (suc (suc (suc (suc zero)))))) read small = omega (arith, read.flag_word)
head_read bytes places (suc (suc (suc (suc (suc (suc (suc zero))))))) read small = omega (arith, read.flag_word)
head_read bytes places (suc (suc (suc (suc (suc (suc (suc (suc i)))))))) read small = absurd (omega arith)

low_byte : (bytes : List ℕ) (places : List Place) (at : ℕ) → IsRead bytes places → get_or bytes at 0 ≡ word_at bytes at % 256
low_byte bytes places at read = omega (arith, read.each at, read.each (at + 1))

high_byte : (bytes : List ℕ) (places : List Place) (at : ℕ) → IsRead bytes places → get_or bytes (at + 1) 0 ≡ word_at bytes at / 256 % 256
high_byte bytes places at read = omega (arith, read.each at, read.each (at + 1))

pair_read : (bytes : List ℕ) (places : List Place) (k j i : ℕ) → IsRead bytes places → i ≡ 8 + (4 * k + j) → j < 4
    → get_or bytes i 0 ≡ get_or (pair_text (place_in bytes k)) j 0
pair_read bytes places k zero i read at small = let here : i ≡ 8 + 4 * k = omega arith in rw here (low_byte bytes places (8 + 4 * k) read)
pair_read bytes places k (suc zero) i read at small = let here : i ≡ 8 + 4 * k + 1 = omega arith in rw here (high_byte bytes places (8 + 4 * k) read)
pair_read bytes places k (suc (suc zero)) i read at small =
    let here : i ≡ 10 + 4 * k = omega arith in rw here (omega (arith, low_byte bytes places (10 + 4 * k) read))
pair_read bytes places k (suc (suc (suc zero))) i read at small =
    let here : i ≡ 10 + 4 * k + 1 = omega arith in rw here (omega (arith, high_byte bytes places (10 + 4 * k) read))
pair_read bytes places k (suc (suc (suc (suc j)))) i read at small = absurd (omega arith)

end_read : (bytes : List ℕ) (places : List Place) (k j i : ℕ) → IsRead bytes places → IsEnd bytes k → i ≡ 8 + (4 * k + j) → j < 4 → get_or bytes i 0 ≡ 255
end_read bytes places k zero i read ones at small = let here : i ≡ 8 + 4 * k = omega arith in rw here (omega (arith, low_byte bytes places (8 + 4 * k) read, ones.0))
end_read bytes places k (suc zero) i read ones at small = let here : i ≡ 8 + 4 * k + 1 = omega arith in rw here (omega (arith, high_byte bytes places (8 + 4 * k) read, ones.0))
end_read bytes places k (suc (suc zero)) i read ones at small = let here : i ≡ 10 + 4 * k = omega arith in rw here (omega (arith, low_byte bytes places (10 + 4 * k) read, ones.1))
end_read bytes places k (suc (suc (suc zero))) i read ones at small = let here : i ≡ 10 + 4 * k + 1 = omega arith in rw here (omega (arith, high_byte bytes places (10 + 4 * k) read, ones.1))
end_read bytes places k (suc (suc (suc (suc j)))) i read ones at small = absurd (omega arith)

place_read : (bytes : List ℕ) (places : List Place) (k j i : ℕ) → IsRead bytes places → i ≡ 8 + (4 * k + j) → j < 4 → k < length places
    → get_or bytes i 0 ≡ get_or (table_text (long_at bytes 0) places) i 0
place_read bytes places k j i read at small listed =
    let d : Place = place_in bytes k in
    pair_read bytes places k j i read at small
    ∙ sym (byte_here (long_at bytes 0) places k j i d at small listed ∙ ap (λ (place : Place). get_or (pair_text place) j 0) (read.listed k d listed))

byte_read : (bytes : List ℕ) (places : List Place) (i : ℕ) → IsRead bytes places → i < 512
    → get_or bytes i 0 ≡ get_or (table_text (long_at bytes 0) places) i 0
byte_read bytes places i read small =
    let k : ℕ = (i - 8) / 4 in
    let j : ℕ = (i - 8) % 4 in
    elim (cases_lt i 8) [
      | inl head ↦ head_read bytes places i read head ∙ sym (head_byte (long_at bytes 0) places i head)
      | inr behind ↦
          let at : i ≡ 8 + (4 * k + j) = omega arith in
          elim (cases_lt k (length places)) [
            | inl listed ↦ place_read bytes places k j i read at (omega arith) listed
            | inr unlisted ↦
                end_read bytes places k j i read (read.rest k unlisted (omega arith)) at (omega arith)
                ∙ sym (end_byte (long_at bytes 0) places i read.room (omega arith) small)
          ]
    ]

pub table_text-read : (bytes : List ℕ) (places : List Place) → IsRead bytes places → bytes ≡ table_text (long_at bytes 0) places
table_text-read bytes places read =
    same_number_lists bytes (table_text (long_at bytes 0) places) (read.size ∙ sym (length-table_text (long_at bytes 0) places read.room))
    (λ i small. byte_read bytes places i read (omega (arith, read.size)))

-- ---- bytes that spell a table

pub spelled_place : (bytes : List ℕ) (t : Table) (k : ℕ) (d : Place) → Spells bytes t → k < length t.places → place_in bytes k ≡ get_or t.places k d
spelled_place bytes t k d spelled listed = rw spelled.text (place_in-listed t.kind t.serial t.places k d listed (spelled.valid.inside k d listed))

pub spelled_no_end : (bytes : List ℕ) (t : Table) (k : ℕ) → Spells bytes t → k < length t.places → IsEnd bytes k → ⊥
spelled_no_end bytes t k spelled listed =
    let d : Place = place_in bytes 0 in
    rw spelled.text (listed_is_no_end t.kind t.serial t.places k d listed (spelled.valid.inside k d listed))

pub spelled_end : (bytes : List ℕ) (t : Table) (k : ℕ) → Spells bytes t → length t.places ≤ k → k < 126 → IsEnd bytes k
spelled_end bytes t k spelled unlisted small = rw spelled.text (unlisted_is_end t.serial t.places k spelled.valid.room unlisted small)

pub spelled_zero : (bytes : List ℕ) (t : Table) → Spells bytes t → word_at bytes 4 ≡ 0
spelled_zero bytes t spelled = rw spelled.text (word_at-zero t.serial t.places)

pub spelled_flag : (bytes : List ℕ) (t : Table) → Spells bytes t → word_at bytes 6 ≡ 0
spelled_flag bytes t spelled = rw spelled.text (word_at-flag t.serial t.places)

pub spelled_serial : (bytes : List ℕ) (t : Table) → Spells bytes t → long_at bytes 0 ≡ t.serial
spelled_serial bytes t spelled = rw spelled.text (long_at-serial t.serial t.places spelled.valid.serial)

-- ---- bytes spell one table at most

not_fewer : (bytes : List ℕ) (t u : Table) → Spells bytes t → Spells bytes u → length t.places < length u.places → ⊥
not_fewer bytes t u st su less =
    let small : length t.places < 126 = omega (arith, su.valid.room) in
    spelled_no_end bytes u (length t.places) su less (spelled_end bytes t (length t.places) st (omega arith) small)

pub same_table : (t u : Table) → t.kind ≡ u.kind → t.serial ≡ u.serial → t.places ≡ u.places → t ≡ u
same_table t u kind serial places = λ i. record { kind = kind i; serial = serial i; places = places i }

pub spells_once : (bytes : List ℕ) (t u : Table) → Spells bytes t → Spells bytes u → t.kind ≡ u.kind → t ≡ u
spells_once bytes t u st su kind =
    let none_more = not_fewer bytes t u st su in
    let none_less = not_fewer bytes u t su st in
    let long : length t.places ≡ length u.places = omega (arith, none_more, none_less) in
    same_table t u kind (sym (spelled_serial bytes t st) ∙ spelled_serial bytes u su)
    (same_lists t.places u.places long
    (λ k d small. sym (spelled_place bytes t k d st small) ∙ spelled_place bytes u k d su (omega arith)))
