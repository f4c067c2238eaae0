-- Each form gives back what was printed for it.
use Rattle.std.proofs.Common.{◌≡◌, ℕ, ◌-◌, ◌*◌, ◌<◌, ◌≤◌, ◌^◌, Bool, true, false, List, [], ◌∷◌, ◌++◌, length, map, refl, sym, ap, ◌∙◌, arith, Option, None, Result, Ok, Err, All}
use Rattle.std.specs.Prelude.{if◌then◌else◌, ◌==◌, nat_lt, codes}
use Rattle.std.specs.Str.{bytes_eq}
use Rattle.std.proofs.lemmas.Bool.{le-ltb, eqb-true, ne_eqb, eq-eqb, and_from, false_from_ne_true, agree_below_at}
use Rattle.std.proofs.lemmas.List.Elements.{All-head, All-tail}
use Rattle.std.proofs.lemmas.Slice.Eq.{bytes_eq-Decides}
use Rattle.fire_code.specs.Noise.{IsNoise}
use Rattle.hex.specs.Hex.{is_hex_digit, decode_pairs}
use Rattle.std.specs.List.{list_all}
use Rattle.hardware_table.specs.declared.FaultKind.{FaultKind}
use Rattle.hardware_table.specs.declared.FaultKind.TheVariants.{Seek, Opi, Dte, Hcrc, Late}
use Rattle.hardware_table.specs.declared.NoiseSpan.{NoiseSpan}
use Rattle.hardware_table.specs.declared.NoiseSpan.TheVariants.{Times, Until}
use Rattle.drive_registers.specs.declared.OffsetCode.{OffsetCode}
use Rattle.drive_registers.specs.declared.OffsetCode.TheVariants.{Plus400, Minus400, Plus800, Minus800, Plus1200, Minus1200}
use Rattle.pack_geometry.specs.declared.DriveKind.{DriveKind}
use Rattle.pack_geometry.specs.declared.DriveKind.TheVariants.{Rp06, Rm03, Rm05}
use Rattle.pack_geometry.specs.Geometry.{kind_word, block_count, sectors_of}
use Rattle.partitions.specs.declared.Part.{Part}
use Rattle.mass_text.specs.BlockText.{hex_byte}
use Rattle.mass_text.specs.Numbers.{number_of}
use Rattle.mass_text.specs.declared.numbers.Radix.TheVariants.{Decimal}
use Rattle.mass_text.specs.declared.numbers.NumberFault.{NumberFault}
use Rattle.mass_text.specs.declared.numbers.NumberFault.TheVariants.{Digit}
use Rattle.mass_text.proofs.NumberLaws.{number_of-numeral}
use Rattle.script_lines.specs.declared.kinds.ScriptKind.{ScriptKind}
use Rattle.script_lines.specs.declared.kinds.ScriptKind.TheVariants.{Number, IdTwice, Count, Data, Bits}
use Rattle.script_lines.specs.declared.statement.Content.{Content}
use Rattle.script_lines.specs.declared.statement.Content.TheVariants as contents
use Rattle.script_lines.specs.declared.statement.Request.{Request}
use Rattle.script_lines.specs.declared.statement.Statement.TheVariants as says
use Rattle.script_lines.specs.Fields.{and_then, or_kind, number_field, kind_field, part_field, offset_field, fault_field, counted, count_field, byte_field, seq_field, digits_field, place_field}
use Rattle.script_lines.specs.Known.{fresh, new_unit_field, old, unit_field, id_field, Known, Said, verb_of}
use Rattle.script_lines.specs.Places.{numbers_of}
use Rattle.script_reader.specs.Formed.{IsDrive, IsDeclared, IsAsked, IsWritten, IsSpan, IsInRange}
use Rattle.script_lines.specs.Forms.{Form, gives, ends, next, field, option, last_form, tail_form, start_form, content_form, span_form, noise_or, places_form, unit_number_form, adapter_form, form_of}
use Rattle.script_reader.specs.Printing.{number, start_fields, tail_fields, content_fields, span_fields, fields_of}
use Rattle.script_lines.specs.Words.{part_word}
use Rattle.script_lines.specs.Text.{offset_word, fault_word}
use Rattle.script_lines.proofs.Results.{err-ok}
use Rattle.script_lines.proofs.PlacesLaws.{noise_read}
use Rattle.script_lines.proofs.WordLaws.{kind_of_word, part_of_word}

-- ONE FIELD and then a form
pub stepped : {A B : Type 0} (reads : List ℕ → Result A ScriptKind) (rest : A → Form B) (text : List ℕ) (fields : List (List ℕ)) (a : A) → reads text ≡ Ok a → next (field reads) rest (text ∷ fields) ≡ rest a fields
stepped {A} reads rest text fields a e = ap (λ (r : Result A ScriptKind). and_then (and_then {B = A × List (List ℕ)} r (λ x. Ok (x, fields))) (λ p. rest p.0 p.1)) e

-- NUMBERS
fits : (n high : ℕ) → n ≤ high → high ≤ 4294967295 → n < 2 ^ 64
fits n high a b = omega (arith, a, b)

num_back : (low high n : ℕ) → low ≤ n → n ≤ high → high ≤ 4294967295 → number_field low high (number n) ≡ Ok n
num_back low high n least most bound =
    ap (λ (r : Result ℕ NumberFault). and_then (or_kind Number r) (λ k. if nat_lt k low then Err Number else Ok k)) (number_of-numeral Decimal n high (fits n high most bound) most)
    ∙ ap (λ (t : Bool). if t then Err Number else Ok n) (le-ltb n low least)

new_unit_back : (known : Known) (u : ℕ) → u ≤ 31 → known.kinds u ≡ None → new_unit_field known (number u) ≡ Ok u
new_unit_back known u le none =
    ap (λ (r : Result ℕ ScriptKind). and_then r (λ k. fresh (known.kinds k) k)) (num_back 0 31 u (omega arith) le (omega arith)) ∙ ap (λ (k : Option DriveKind). fresh k u) none

unit_back : (known : Known) (u : ℕ) (kind : DriveKind) → IsDrive known u kind → unit_field known (number u) ≡ Ok (u, kind)
unit_back known u kind d =
    ap (λ (r : Result ℕ ScriptKind). and_then r (λ k. old (known.kinds k) k)) (num_back 0 31 u (omega arith) d.0 (omega arith)) ∙ ap (λ (k : Option DriveKind). old k u) d.1

id_back : (known : Known) (id : ℕ) → id ≤ 4294967295 → known.used id ≡ false → id_field known (number id) ≡ Ok id
id_back known id le new =
    ap (λ (r : Result ℕ ScriptKind). and_then r (λ k. if known.used k then Err IdTwice else Ok k)) (num_back 0 4294967295 id (omega arith) le (omega arith))
    ∙ ap (λ (t : Bool). if t then Err IdTwice else Ok id) new

count_back : (n : ℕ) → 1 ≤ n → n ≤ 127 → count_field (number n) ≡ Ok n
count_back n some few =
    ap counted (number_of-numeral Decimal n 127 (fits n 127 few (omega arith)) few) ∙ ap (λ (t : Bool). if t then Err Count else Ok n) (ne_eqb n 0 (λ e. omega (arith, e, some)))

seq_back : (n : ℕ) → n ≤ 255 → seq_field (number n) ≡ Ok n
seq_back n few = ap (or_kind Data) (number_of-numeral Decimal n 255 (fits n 255 few (omega arith)) few)

place_back : (n : ℕ) → n ≤ 4127 → place_field (number n) ≡ Ok n
place_back n few = ap (or_kind Bits) (number_of-numeral Decimal n 4127 (fits n 4127 few (omega arith)) few)

-- two digits, each byte by a computed test
abbrev gives_it : Result ℕ ScriptKind → ℕ → Bool
gives_it (Ok n) b = n == b
gives_it (Err kind) b = false

it_gives : (r : Result ℕ ScriptKind) (b : ℕ) → gives_it r b ≡ true → r ≡ Ok b
it_gives (Ok n) b e = ap (λ (k : ℕ). Ok k) (eqb-true n b e)
it_gives (Err kind) b e = absurd (cc)

byte_back : (b : ℕ) → b ≤ 255 → byte_field (hex_byte b) ≡ Ok b
unfolding decode_pairs
byte_back b le = it_gives (byte_field (hex_byte b)) b (agree_below_at (λ k. gives_it (byte_field (hex_byte k)) k) (λ _. true) 256 b refl (omega (arith, le)))

digits_back : (count : ℕ) (digits : List ℕ) → length digits ≡ 1024 * count → list_all is_hex_digit digits ≡ true → digits_field count digits ≡ Ok digits
digits_back count digits long all =
    ap (λ (t : Bool). if t then Ok digits else Err Data) (and_from (length digits == 1024 * count) (list_all is_hex_digit digits) (eq-eqb (length digits) (1024 * count) long) all)

-- WORDS
offset_back : (code : OffsetCode) → offset_field (offset_word code) ≡ Ok code
offset_back Plus400 = refl
offset_back other = refl

fault_back : (what : FaultKind) → fault_field (fault_word what) ≡ Ok what
fault_back Seek = refl
fault_back other = refl

-- THE PARTS OF LINES
abbrev started : Request → Request
started r = record { id = r.id; unit = r.unit; part = r.part; block = r.block; count = r.count; offset = 0; last = 512 }

abbrev behind_block : ℕ → ℕ → Part → ℕ → Form Request
behind_block id u part block = next (field count_field) (λ count. gives (record { id = id; unit = u; part = part; block = block; count = count; offset = 0; last = 512 }))

abbrev behind_part : ℕ → ℕ → Part → Form Request
behind_part id u part = next (field (number_field 0 4294967295)) (λ block. behind_block id u part block)

abbrev behind_unit : ℕ → ℕ → Form Request
behind_unit id u = next (field part_field) (λ part. behind_part id u part)

abbrev behind_id : Known → ℕ → Form Request
behind_id known id = next (field (unit_field known)) (λ unit_kind. behind_unit id unit_kind.0)

start_back : (known : Known) (r : Request) (fields : List (List ℕ)) → IsAsked known r → start_form known (start_fields r ++ fields) ≡ Ok (started r, fields)
unfolding start_form
start_back known r fields w =
    stepped (id_field known) (behind_id known) (number r.id) (number r.unit ∷ part_word r.part ∷ number r.block ∷ number r.count ∷ fields) r.id (id_back known r.id w.id w.new)
    ∙ stepped (unit_field known) (λ unit_kind. behind_unit r.id unit_kind.0) (number r.unit) (part_word r.part ∷ number r.block ∷ number r.count ∷ fields) (r.unit, w.declared.0) (unit_back known r.unit w.declared.0 w.declared.1)
    ∙ stepped part_field (behind_part r.id r.unit) (part_word r.part) (number r.block ∷ number r.count ∷ fields) r.part (part_of_word r.part)
    ∙ stepped (number_field 0 4294967295) (behind_block r.id r.unit r.part) (number r.block) (number r.count ∷ fields) r.block (num_back 0 4294967295 r.block (omega arith) w.block (omega arith))
    ∙ stepped count_field (λ count. gives (record { id = r.id; unit = r.unit; part = r.part; block = r.block; count = count; offset = 0; last = 512 })) (number r.count) fields r.count (count_back r.count w.some w.count)

abbrev pub last_fields : ℕ → List (List ℕ)
last_fields last = if last == 512 then [] else codes "last" ∷ number last ∷ []

last_back : (last : ℕ) → 1 ≤ last → last ≤ 512 → last_form (last_fields last) ≡ Ok (last, [])
unfolding last_form
last_back last least most = at (last == 512) refl
  where
    at : (t : Bool) → (last == 512) ≡ t → next (option (codes "last") (number_field 1 512) 512) (λ l. ends l) (if t then [] else codes "last" ∷ number last ∷ []) ≡ Ok (last, [])
    at true e = ap (λ (k : ℕ). Ok (k, [])) (sym (eqb-true last 512 e))
    at false e = stepped (number_field 1 512) (λ l. ends l) (number last) [] last (num_back 1 512 last least most (omega arith))

tail_back : (r : Request) → r.offset ≤ 511 → 1 ≤ r.last → r.last ≤ 512 → tail_form (started r) (tail_fields r) ≡ Ok (r, [])
unfolding tail_form
tail_back r small least most =
    stepped (number_field 0 511) (λ offset. next last_form (λ last. gives (record (started r) { offset = offset; last = last }))) (number r.offset) (last_fields r.last) r.offset (num_back 0 511 r.offset (omega arith) small (omega arith))
    ∙ ap (λ (res : Result (ℕ × List (List ℕ)) ScriptKind). and_then res (λ p. Ok (record (started r) { offset = r.offset; last = p.0 }, p.1))) (last_back r.last least most)

content_back : (count : ℕ) (content : Content (List ℕ)) (fields : List (List ℕ)) → IsWritten count content → content_form count (content_fields content ++ fields) ≡ Ok (content, fields)
unfolding content_form
content_back count (contents.Fill b) fields w = stepped byte_field (λ k. gives (contents.Fill k)) (hex_byte b) fields b (byte_back b w)
content_back count (contents.Seq n) fields w = stepped seq_field (λ k. gives (contents.Seq k)) (number n) fields n (seq_back n w)
content_back count (contents.Hex digits) fields w = stepped (digits_field count) (λ d. gives (contents.Hex d)) digits fields digits (digits_back count digits w.0 w.1)

not_until : (n : ℕ) → n ≤ 1000 → bytes_eq (number n) (codes "until") ≡ false
not_until n le =
    false_from_ne_true (bytes_eq (number n) (codes "until"))
    (λ t. err-ok (Digit 0) n (ap (number_of Decimal 1000) (sym ((bytes_eq-Decides (number n) (codes "until")).0 t)) ∙ number_of-numeral Decimal n 1000 (fits n 1000 le (omega arith)) le))

span_back : (span : NoiseSpan) (fields : List (List ℕ)) → IsSpan span → span_form (span_fields span ++ fields) ≡ Ok (span, fields)
unfolding span_form
span_back (Times n) fields w =
    ap (λ (t : Bool). if t then next (field offset_field) (λ code. gives (Until code)) fields else next (field (number_field 1 1000)) (λ times. gives (Times times)) (number n ∷ fields)) (not_until n w.1)
    ∙ stepped (number_field 1 1000) (λ times. gives (Times times)) (number n) fields n (num_back 1 1000 n w.0 w.1 (omega arith))
span_back (Until code) fields w = stepped offset_field (λ c. gives (Until c)) (offset_word code) fields code (offset_back code)

numbers_back : (places : List ℕ) → All (λ k. k < 4128) places → numbers_of (map number places) ≡ Ok places
numbers_back [] all = refl
numbers_back (p ∷ ps) all =
    let lt : p < 4128 = All-head (λ k. k < 4128) p ps all in
    ap (λ (r : Result ℕ ScriptKind). and_then r (λ place. and_then (numbers_of (map number ps)) (λ places. Ok (place ∷ places)))) (place_back p (omega (arith, lt)))
    ∙ ap (λ (r : Result (List ℕ) ScriptKind). and_then r (λ places. Ok (p ∷ places))) (numbers_back ps (All-tail (λ k. k < 4128) p ps all))

places_back : (places : List ℕ) → IsNoise places → places_form (map number places) ≡ Ok (places, [])
unfolding places_form
places_back [] n = absurd (omega (arith, n.not_empty))
places_back (p ∷ ps) n = ap (λ (r : Result (List ℕ) ScriptKind). and_then r noise_or) (numbers_back (p ∷ ps) n.set.in_word) ∙ noise_read (p ∷ ps) n

-- LINES, behind their words
less_one : (n k : ℕ) → n < k → n ≤ k - 1
less_one n k lt = omega (arith, lt)

few_sectors : (kind : DriveKind) → sectors_of kind - 1 ≤ 4294967295
few_sectors Rp06 = omega arith
few_sectors other = omega arith

few_blocks : (kind : DriveKind) → block_count kind - 1 ≤ 4294967295
few_blocks Rp06 = omega arith
few_blocks other = omega arith

unit_number_back : (known : Known) (u : ℕ) (fields : List (List ℕ)) → IsDeclared known u → unit_number_form known (number u ∷ fields) ≡ Ok (u, fields)
unit_number_back known u fields d = stepped (unit_field known) (λ unit_kind. gives unit_kind.0) (number u) fields (u, d.0) (unit_back known u d.0 d.1)

adapter_back : (a : ℕ) → a ≤ 3 → adapter_form (number a ∷ []) ≡ Ok (a, [])
adapter_back a le = ap (λ (r : Result ℕ ScriptKind). and_then r (λ k. Ok (k, []))) (num_back 0 3 a (omega arith) le (omega arith))

named_as : {A : Type 0} (name : A → Said) (res : Result (A × List (List ℕ)) ScriptKind) (a : A) → res ≡ Ok (a, []) → and_then res (λ p. gives (name p.0) p.1) ≡ Ok (name a, [])
named_as name res a e = ap (λ r. and_then r (λ p. gives (name p.0) p.1)) e

pub form_back : (known : Known) (s : Said) → IsInRange known s → form_of known (verb_of s) (fields_of s) ≡ Ok (s, [])
form_back known (says.Unit u kind) w =
    stepped (new_unit_field known) (λ v. next (field kind_field) (λ k. gives (says.Unit v k))) (number u) (kind_word kind ∷ []) u (new_unit_back known u w.0 w.1)
    ∙ stepped kind_field (λ k. gives (says.Unit u k)) (kind_word kind) [] kind (kind_of_word kind)
form_back known (says.Read r) w =
    ap (λ (res : Result (Request × List (List ℕ)) ScriptKind). and_then res (λ p. next (tail_form p.0) (λ request. gives (says.Read request)) p.1)) (start_back known r (tail_fields r) w)
    ∙ named_as (λ request. says.Read request) (tail_form (started r) (tail_fields r)) r (tail_back r w.offset w.byte w.last)
form_back known (says.Write r content) w =
    ap (λ (res : Result (Request × List (List ℕ)) ScriptKind). and_then res (λ p. next (content_form p.0.count) (λ c. next (tail_form p.0) (λ request. gives (says.Write request c))) p.1)) (start_back known r (content_fields content ++ tail_fields r) w.0)
    ∙ ap (λ (res : Result (Content (List ℕ) × List (List ℕ)) ScriptKind). and_then res (λ p. next (tail_form (started r)) (λ request. gives (says.Write request p.0)) p.1)) (content_back r.count content (tail_fields r) w.1)
    ∙ named_as (λ request. says.Write request content) (tail_form (started r) (tail_fields r)) r (tail_back r w.0.offset w.0.byte w.0.last)
form_back known (says.Arrive u) w = named_as (λ v. says.Arrive v) (unit_number_form known (number u ∷ [])) u (unit_number_back known u [] w)
form_back known (says.Turn u sector) w =
    stepped (unit_field known) (λ v. next (field (number_field 0 (sectors_of v.1 - 1))) (λ s. gives (says.Turn v.0 s))) (number u) (number sector ∷ []) (u, w.0) (unit_back known u w.0 w.1)
    ∙ stepped (number_field 0 (sectors_of w.0 - 1)) (λ s. gives (says.Turn u s)) (number sector) [] sector (num_back 0 (sectors_of w.0 - 1) sector (omega arith) (less_one sector (sectors_of w.0) w.2) (few_sectors w.0))
form_back known (says.Move a) w = named_as (λ v. says.Move v) (adapter_form (number a ∷ [])) a (adapter_back a w)
form_back known (says.Attend a) w = named_as (λ v. says.Attend v) (adapter_form (number a ∷ [])) a (adapter_back a w)
form_back known (says.Noise u block span places) w =
    stepped (unit_field known) (λ v. next (field (number_field 0 (block_count v.1 - 1))) (λ b. next span_form (λ s. next places_form (λ ps. gives (says.Noise v.0 b s ps))))) (number u) (number block ∷ (span_fields span ++ map number places)) (u, w.kind) (unit_back known u w.kind w.drive)
    ∙ stepped (number_field 0 (block_count w.kind - 1)) (λ b. next span_form (λ s. next places_form (λ ps. gives (says.Noise u b s ps)))) (number block) (span_fields span ++ map number places) block (num_back 0 (block_count w.kind - 1) block (omega arith) (less_one block (block_count w.kind) w.inside) (few_blocks w.kind))
    ∙ ap (λ (res : Result (NoiseSpan × List (List ℕ)) ScriptKind). and_then res (λ p. next places_form (λ ps. gives (says.Noise u block p.0 ps)) p.1)) (span_back span (map number places) w.spans)
    ∙ named_as (λ ps. says.Noise u block span ps) (places_form (map number places)) places (places_back places w.noise)
form_back known (says.Fault u what times) w =
    ap (λ (res : Result (ℕ × List (List ℕ)) ScriptKind). and_then res (λ p. next (field fault_field) (λ f. next (field (number_field 1 1000)) (λ n. gives (says.Fault p.0 f n))) p.1)) (unit_number_back known u (fault_word what ∷ number times ∷ []) w.0)
    ∙ stepped fault_field (λ f. next (field (number_field 1 1000)) (λ n. gives (says.Fault u f n))) (fault_word what) (number times ∷ []) what (fault_back what)
    ∙ stepped (number_field 1 1000) (λ n. gives (says.Fault u what n)) (number times) [] times (num_back 1 1000 times w.1.0 w.1.1 (omega arith))
form_back known (says.Offline u) w = named_as (λ v. says.Offline v) (unit_number_form known (number u ∷ [])) u (unit_number_back known u [] w)
form_back known (says.Online u) w = named_as (λ v. says.Online v) (unit_number_form known (number u ∷ [])) u (unit_number_back known u [] w)
form_back known (says.Lock u) w = named_as (λ v. says.Lock v) (unit_number_form known (number u ∷ [])) u (unit_number_back known u [] w)
form_back known (says.Unlock u) w = named_as (λ v. says.Unlock v) (unit_number_form known (number u ∷ [])) u (unit_number_back known u [] w)
form_back known says.Drain w = refl
