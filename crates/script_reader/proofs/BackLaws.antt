-- What is printed is read back.
use Rattle.std.proofs.Common.{◌≡◌, ℕ, ◌+◌, ◌*◌, ◌/◌, ◌%◌, ◌<◌, ◌≤◌, Bool, true, false, List, [], ◌∷◌, ◌++◌, length, map, refl, sym, ap, subst, ◌∙◌, arith, append_assoc, append-nil, length-append, All, Option, None, Some, Result, Ok, Err}
use Rattle.std.specs.Prelude.{if◌then◌else◌, ◌&&◌, ◌==◌, nat_lt, codes}
use Rattle.std.specs.List.{list_all}
use Rattle.std.proofs.lemmas.Bool.{and_parts, and_from, le-ltb, false≢true}
use Rattle.std.proofs.lemmas.Bool.Decides.{nat_tests}
use Rattle.std.proofs.lemmas.List.{length-map}
use Rattle.std.proofs.lemmas.List.Elements.{All-head, All-tail}
use Rattle.hex.specs.Hex.{is_hex_digit}
use Rattle.hardware_table.specs.declared.FaultKind.{FaultKind}
use Rattle.hardware_table.specs.declared.FaultKind.TheVariants.{Seek, Opi, Dte, Hcrc, Late}
use Rattle.hardware_table.specs.declared.NoiseSpan.{NoiseSpan}
use Rattle.hardware_table.specs.declared.NoiseSpan.TheVariants.{Times, Until}
use Rattle.drive_registers.specs.declared.OffsetCode.{OffsetCode}
use Rattle.drive_registers.specs.declared.OffsetCode.TheVariants.{Plus400, Minus400, Plus800, Minus800, Plus1200, Minus1200}
use Rattle.pack_geometry.specs.declared.DriveKind.{DriveKind}
use Rattle.pack_geometry.specs.declared.DriveKind.TheVariants.{Rp06, Rm03, Rm05}
use Rattle.pack_geometry.specs.Geometry.{kind_word, block_count, sectors_of}
use Rattle.partitions.specs.declared.Part.{Part}
use Rattle.partitions.specs.declared.Part.TheVariants.{A, B, C, D, E, F, G, H}
use Rattle.mass_text.specs.BlockText.{hex_digit, hex_byte}
use Rattle.mass_text.specs.Pieces.{pieces}
use Rattle.mass_text.specs.declared.numbers.Radix.TheVariants.{Decimal}
use Rattle.mass_text.proofs.NumberLaws.{length-numeral-le}
use Rattle.script_lines.specs.declared.kinds.ScriptKind.{ScriptKind}
use Rattle.script_lines.specs.declared.kinds.ScriptKind.TheVariants.{Word, TooMany, LineLong}
use Rattle.script_lines.specs.declared.statement.Content.{Content}
use Rattle.script_lines.specs.declared.statement.Content.TheVariants as contents
use Rattle.script_lines.specs.declared.statement.Request.{Request}
use Rattle.script_lines.specs.declared.statement.Statement.TheVariants as says
use Rattle.script_lines.specs.declared.verbs.Verb.{Verb}
use Rattle.script_lines.specs.declared.verbs.Verb.TheVariants as verbs
use Rattle.script_lines.specs.Fields.{and_then, some_or}
use Rattle.script_reader.specs.Formed.{IsDeclared, IsAsked, IsWritten, IsSpan, IsInRange, IsWell, AreWell, learned}
use Rattle.script_lines.specs.Forms.{none_left, whole, form_of, unless}
use Rattle.script_lines.specs.Dialects.{said}
use Rattle.script_reader.specs.Grammar.{entry, is_comment, line_says, SayTheRest, Spells}
use Rattle.script_lines.specs.Known.{Known, Said, Numbered, verb_of, known_of}
use Rattle.script_reader.specs.Lines.{lines_of, without_cr}
use Rattle.script_reader.specs.Printing.{number, start_fields, tail_fields, content_fields, span_fields, fields_of, spaced, line_text, text_of, numbered}
use Rattle.script_lines.specs.Words.{named, verb_word, all_verbs, event_verbs, part_word}
use Rattle.script_lines.specs.Text.{offset_word, fault_word}
use Rattle.script_reader.proofs.FormLaws.{form_back, last_fields}
use Rattle.script_lines.proofs.KnownLaws.{known_more}
use Rattle.script_reader.proofs.TextLaws.{above, is_field, are_fields, fields-append, number_field_is, pieces_spaced, in_line, line_in, piece_of_line, line_whole}

-- EACH FIELD is one.
num : (n high : ℕ) → n ≤ high → high ≤ 4294967295 → is_field (number n) ≡ true
num n high a b = number_field_is n (omega (arith, a, b))

then_fields : (f : List ℕ) (fs : List (List ℕ)) → is_field f ≡ true → are_fields fs ≡ true → are_fields (f ∷ fs) ≡ true
then_fields f fs a b = and_from (is_field f) (are_fields fs) a b

alone : (f : List ℕ) → is_field f ≡ true → are_fields (f ∷ []) ≡ true
alone f a = then_fields f [] a refl

kind_is : (kind : DriveKind) → is_field (kind_word kind) ≡ true
kind_is Rp06 = refl
kind_is other = refl

part_is : (part : Part) → is_field (part_word part) ≡ true
part_is A = refl
part_is other = refl

offset_is : (code : OffsetCode) → is_field (offset_word code) ≡ true
offset_is Plus400 = refl
offset_is other = refl

fault_is : (what : FaultKind) → is_field (fault_word what) ≡ true
fault_is Seek = refl
fault_is other = refl

verb_is : (verb : Verb) → is_field (verb_word verb) ≡ true
verb_is verbs.Unit = refl
verb_is other = refl

hex_above : (n : ℕ) → nat_lt 32 (hex_digit n) ≡ true
hex_above n = grind (arith, nat_tests)

byte_is : (b : ℕ) → is_field (hex_byte b) ≡ true
byte_is b =
    and_from (nat_lt 32 (hex_digit (b / 16))) (nat_lt 32 (hex_digit (b % 16)) && true) (hex_above (b / 16)) (and_from (nat_lt 32 (hex_digit (b % 16))) true (hex_above (b % 16)) refl)

digit_above : (c : ℕ) → is_hex_digit c ≡ true → nat_lt 32 c ≡ true
digit_above c h = grind (arith, nat_tests)

digits_above : (digits : List ℕ) → list_all is_hex_digit digits ≡ true → above digits ≡ true
digits_above [] h = refl
digits_above (c ∷ cs) h =
    let p = and_parts (is_hex_digit c) (list_all is_hex_digit cs) h in
    and_from (nat_lt 32 c) (above cs) (digit_above c p.0) (digits_above cs p.1)

digits_are : (digits : List ℕ) → 0 < length digits → list_all is_hex_digit digits ≡ true → is_field digits ≡ true
digits_are [] some h = absurd (omega (arith, some))
digits_are (c ∷ cs) some h = digits_above (c ∷ cs) h

start_are : (known : Known) (r : Request) → IsAsked known r → are_fields (start_fields r) ≡ true
start_are known r w =
    then_fields (number r.id) (number r.unit ∷ part_word r.part ∷ number r.block ∷ number r.count ∷ []) (num r.id 4294967295 w.id (omega arith))
    (then_fields (number r.unit) (part_word r.part ∷ number r.block ∷ number r.count ∷ []) (num r.unit 31 w.declared.1.0 (omega arith))
    (then_fields (part_word r.part) (number r.block ∷ number r.count ∷ []) (part_is r.part)
    (then_fields (number r.block) (number r.count ∷ []) (num r.block 4294967295 w.block (omega arith)) (alone (number r.count) (num r.count 127 w.count (omega arith))))))

last_are : (last : ℕ) (t : Bool) → last ≤ 512 → are_fields (if t then [] else codes "last" ∷ number last ∷ []) ≡ true
last_are last true le = refl
last_are last false le = then_fields (codes "last") (number last ∷ []) refl (alone (number last) (num last 512 le (omega arith)))

tail_are : (known : Known) (r : Request) → IsAsked known r → are_fields (tail_fields r) ≡ true
tail_are known r w =
    then_fields (codes "off") (number r.offset ∷ last_fields r.last) refl (then_fields (number r.offset) (last_fields r.last) (num r.offset 511 w.offset (omega arith)) (last_are r.last (r.last == 512) w.last))

some_digits : (n count : ℕ) → n ≡ 1024 * count → 1 ≤ count → 0 < n
some_digits n count e some = omega (arith, e, some)

content_are : (count : ℕ) (content : Content (List ℕ)) → 1 ≤ count → IsWritten count content → are_fields (content_fields content) ≡ true
content_are count (contents.Fill b) some w = then_fields (codes "fill") (hex_byte b ∷ []) refl (alone (hex_byte b) (byte_is b))
content_are count (contents.Seq n) some w = then_fields (codes "seq") (number n ∷ []) refl (alone (number n) (num n 255 w (omega arith)))
content_are count (contents.Hex digits) some w = then_fields (codes "hex") (digits ∷ []) refl (alone digits (digits_are digits (some_digits (length digits) count w.0 some) w.1))

span_are : (span : NoiseSpan) → IsSpan span → are_fields (span_fields span) ≡ true
span_are (Times n) w = alone (number n) (num n 1000 w.1 (omega arith))
span_are (Until code) w = then_fields (codes "until") (offset_word code ∷ []) refl (alone (offset_word code) (offset_is code))

places_are : (places : List ℕ) → All (λ k. k < 4128) places → are_fields (map number places) ≡ true
places_are [] all = refl
places_are (p ∷ ps) all =
    let lt : p < 4128 = All-head (λ k. k < 4128) p ps all in
    then_fields (number p) (map number ps) (num p 4127 (omega (arith, lt)) (omega arith)) (places_are ps (All-tail (λ k. k < 4128) p ps all))

unit_are : (known : Known) (u : ℕ) → IsDeclared known u → are_fields (number u ∷ []) ≡ true
unit_are known u d = alone (number u) (num u 31 d.1.0 (omega arith))

unit_then : (u : ℕ) (fs : List (List ℕ)) → u ≤ 31 → are_fields fs ≡ true → are_fields (number u ∷ fs) ≡ true
unit_then u fs le a = then_fields (number u) fs (num u 31 le (omega arith)) a

few_sectors : (kind : DriveKind) (n : ℕ) → n < sectors_of kind → n ≤ 31
few_sectors Rp06 n lt = omega (arith, lt)
few_sectors other n lt = omega (arith, lt)

few_blocks : (kind : DriveKind) (n : ℕ) → n < block_count kind → n ≤ 4294967295
few_blocks Rp06 n lt = omega (arith, lt)
few_blocks other n lt = omega (arith, lt)

all_are : (known : Known) (s : Said) → IsInRange known s → are_fields (fields_of s) ≡ true
all_are known (says.Unit u kind) w = unit_then u (kind_word kind ∷ []) w.0 (alone (kind_word kind) (kind_is kind))
all_are known (says.Read r) w = fields-append (start_fields r) (tail_fields r) (start_are known r w) (tail_are known r w)
all_are known (says.Write r content) w =
    fields-append (start_fields r) (content_fields content ++ tail_fields r) (start_are known r w.0)
    (fields-append (content_fields content) (tail_fields r) (content_are r.count content w.0.some w.1) (tail_are known r w.0))
all_are known (says.Arrive u) w = unit_are known u w
all_are known (says.Turn u sector) w = unit_then u (number sector ∷ []) w.1.0 (alone (number sector) (num sector 31 (few_sectors w.0 sector w.2) (omega arith)))
all_are known (says.Move a) w = alone (number a) (num a 3 w (omega arith))
all_are known (says.Attend a) w = alone (number a) (num a 3 w (omega arith))
all_are known (says.Noise u block span places) w =
    unit_then u (number block ∷ (span_fields span ++ map number places)) w.drive.0
    (then_fields (number block) (span_fields span ++ map number places) (num block 4294967295 (few_blocks w.kind block w.inside) (omega arith))
    (fields-append (span_fields span) (map number places) (span_are span w.spans) (places_are places w.noise.set.in_word)))
all_are known (says.Fault u what times) w =
    unit_then u (fault_word what ∷ number times ∷ []) w.0.1.0 (then_fields (fault_word what) (number times ∷ []) (fault_is what) (alone (number times) (num times 1000 w.1.1 (omega arith))))
all_are known (says.Offline u) w = unit_are known u w
all_are known (says.Online u) w = unit_are known u w
all_are known (says.Lock u) w = unit_are known u w
all_are known (says.Unlock u) w = unit_are known u w
all_are known says.Drain w = refl

-- A LINE is not too long.
spaced-append : (xs ys : List (List ℕ)) → length (spaced (xs ++ ys)) ≡ length (spaced xs) + length (spaced ys)
spaced-append [] ys = omega arith
spaced-append (f ∷ fs) ys =
    let a : length (f ++ spaced (fs ++ ys)) ≡ length f + length (spaced (fs ++ ys)) = length-append f (spaced (fs ++ ys)) in
    let b : length (f ++ spaced fs) ≡ length f + length (spaced fs) = length-append f (spaced fs) in
    let c : length (spaced (fs ++ ys)) ≡ length (spaced fs) + length (spaced ys) = spaced-append fs ys in
    omega (arith, a, b, c)

spaced-cons : (f : List ℕ) (fs : List (List ℕ)) (k m : ℕ) → length f ≤ k → length (spaced fs) ≤ m → length (spaced (f ∷ fs)) ≤ 1 + k + m
spaced-cons f fs k m a b = let e : length (f ++ spaced fs) ≡ length f + length (spaced fs) = length-append f (spaced fs) in omega (arith, a, b, e)

spaced-joined : (xs ys : List (List ℕ)) (k m : ℕ) → length (spaced xs) ≤ k → length (spaced ys) ≤ m → length (spaced (xs ++ ys)) ≤ k + m
spaced-joined xs ys k m a b = omega (arith, a, b, spaced-append xs ys)

width : (n high : ℕ) → n ≤ high → high ≤ 4294967295 → length (number n) ≤ 22
width n high a b = length-numeral-le Decimal n (omega (arith, a, b))

width_cons : (n high : ℕ) (fs : List (List ℕ)) (m : ℕ) → n ≤ high → high ≤ 4294967295 → length (spaced fs) ≤ m → length (spaced (number n ∷ fs)) ≤ 23 + m
width_cons n high fs m a b h = spaced-cons (number n) fs 22 m (width n high a b) h

none_wide : length (spaced []) ≤ 0
none_wide = omega arith

kind_wide : (kind : DriveKind) → length (kind_word kind) ≤ 22
kind_wide Rp06 = omega arith
kind_wide other = omega arith

offset_wide : (code : OffsetCode) → length (offset_word code) ≤ 22
offset_wide Plus400 = omega arith
offset_wide other = omega arith

fault_wide : (what : FaultKind) → length (fault_word what) ≤ 22
fault_wide Seek = omega arith
fault_wide other = omega arith

verb_wide : (verb : Verb) → length (verb_word verb) ≤ 22
verb_wide verbs.Unit = omega arith
verb_wide other = omega arith

start_wide : (known : Known) (r : Request) → IsAsked known r → length (spaced (start_fields r)) ≤ 115
start_wide known r w =
    width_cons r.id 4294967295 (number r.unit ∷ part_word r.part ∷ number r.block ∷ number r.count ∷ []) 92 w.id (omega arith)
    (width_cons r.unit 31 (part_word r.part ∷ number r.block ∷ number r.count ∷ []) 69 w.declared.1.0 (omega arith)
    (spaced-cons (part_word r.part) (number r.block ∷ number r.count ∷ []) 22 46 (omega arith)
    (width_cons r.block 4294967295 (number r.count ∷ []) 23 w.block (omega arith) (width_cons r.count 127 [] 0 w.count (omega arith) none_wide))))

last_wide : (last : ℕ) (t : Bool) → last ≤ 512 → length (spaced (if t then [] else codes "last" ∷ number last ∷ [])) ≤ 46
last_wide last true le = omega arith
last_wide last false le = spaced-cons (codes "last") (number last ∷ []) 22 23 (omega arith) (width_cons last 512 [] 0 le (omega arith) none_wide)

tail_wide : (known : Known) (r : Request) → IsAsked known r → length (spaced (tail_fields r)) ≤ 92
tail_wide known r w =
    spaced-cons (codes "off") (number r.offset ∷ last_fields r.last) 22 69 (omega arith)
    (width_cons r.offset 511 (last_fields r.last) 46 w.offset (omega arith) (last_wide r.last (r.last == 512) w.last))

content_wide : (count : ℕ) (content : Content (List ℕ)) → count ≤ 127 → IsWritten count content → length (spaced (content_fields content)) ≤ 130072
content_wide count (contents.Fill b) few w = spaced-cons (codes "fill") (hex_byte b ∷ []) 22 130049 (omega arith) (spaced-cons (hex_byte b) [] 130048 0 (omega arith) none_wide)
content_wide count (contents.Seq n) few w = spaced-cons (codes "seq") (number n ∷ []) 22 130049 (omega arith) (omega (arith, width_cons n 255 [] 0 w (omega arith) none_wide))
content_wide count (contents.Hex digits) few w =
    spaced-cons (codes "hex") (digits ∷ []) 22 130049 (omega arith) (spaced-cons digits [] 130048 0 (omega (arith, w.0, few)) none_wide)

span_wide : (span : NoiseSpan) → IsSpan span → length (spaced (span_fields span)) ≤ 46
span_wide (Times n) w = omega (arith, width_cons n 1000 [] 0 w.1 (omega arith) none_wide)
span_wide (Until code) w = spaced-cons (codes "until") (offset_word code ∷ []) 22 23 (omega arith) (spaced-cons (offset_word code) [] 22 0 (offset_wide code) none_wide)

places_wide : (places : List ℕ) → All (λ k. k < 4128) places → length (spaced (map number places)) ≤ 23 * length places
places_wide [] all = omega arith
places_wide (p ∷ ps) all =
    let lt : p < 4128 = All-head (λ k. k < 4128) p ps all in
    let rest = places_wide ps (All-tail (λ k. k < 4128) p ps all) in
    let here = width_cons p 4127 (map number ps) (23 * length ps) (omega (arith, lt)) (omega arith) rest in
    omega (arith, here)

unit_wide : (u : ℕ) → u ≤ 31 → length (spaced (number u ∷ [])) ≤ 139000
unit_wide u le = omega (arith, width_cons u 31 [] 0 le (omega arith) none_wide)

all_wide : (known : Known) (s : Said) → IsInRange known s → length (spaced (fields_of s)) ≤ 139000
all_wide known (says.Unit u kind) w = omega (arith, width_cons u 31 (kind_word kind ∷ []) 23 w.0 (omega arith) (spaced-cons (kind_word kind) [] 22 0 (kind_wide kind) none_wide))
all_wide known (says.Read r) w = omega (arith, spaced-joined (start_fields r) (tail_fields r) 115 92 (start_wide known r w) (tail_wide known r w))
all_wide known (says.Write r content) w =
    omega (
      arith,
      spaced-joined (start_fields r) (content_fields content ++ tail_fields r) 115 130164 (start_wide known r w.0)
          (spaced-joined (content_fields content) (tail_fields r) 130072 92 (content_wide r.count content w.0.count w.1) (tail_wide known r w.0)),
    )
all_wide known (says.Arrive u) w = unit_wide u w.1.0
all_wide known (says.Turn u sector) w =
    omega (arith, width_cons u 31 (number sector ∷ []) 23 w.1.0 (omega arith) (width_cons sector 31 [] 0 (few_sectors w.0 sector w.2) (omega arith) none_wide))
all_wide known (says.Move a) w = omega (arith, width_cons a 3 [] 0 w (omega arith) none_wide)
all_wide known (says.Attend a) w = omega (arith, width_cons a 3 [] 0 w (omega arith) none_wide)
all_wide known (says.Noise u block span places) w =
    let some : length (spaced (map number places)) ≤ 23 * length places = places_wide places w.noise.set.in_word in
    let few : length places ≤ 64 = w.noise.bounded in
    let wide : length (spaced (map number places)) ≤ 1472 = omega (arith, some, few) in
    omega (
      arith,
      width_cons u 31 (number block ∷ (span_fields span ++ map number places)) 1541 w.drive.0 (omega arith)
          (width_cons block 4294967295 (span_fields span ++ map number places) 1518 (few_blocks w.kind block w.inside) (omega arith)
          (spaced-joined (span_fields span) (map number places) 46 1472 (span_wide span w.spans) wide)),
    )
all_wide known (says.Fault u what times) w =
    omega (
      arith,
      width_cons u 31 (fault_word what ∷ number times ∷ []) 46 w.0.1.0 (omega arith)
          (spaced-cons (fault_word what) (number times ∷ []) 22 23 (fault_wide what) (width_cons times 1000 [] 0 w.1.1 (omega arith) none_wide)),
    )
all_wide known (says.Offline u) w = unit_wide u w.1.0
all_wide known (says.Online u) w = unit_wide u w.1.0
all_wide known (says.Lock u) w = unit_wide u w.1.0
all_wide known (says.Unlock u) w = unit_wide u w.1.0
all_wide known says.Drain w = omega arith

line_fits : (known : Known) (s : Said) → IsInRange known s → length (line_text s) ≤ 140000
line_fits known s w =
    let e : length (verb_word (verb_of s) ++ spaced (fields_of s)) ≡ length (verb_word (verb_of s)) + length (spaced (fields_of s)) = length-append (verb_word (verb_of s)) (spaced (fields_of s)) in
    omega (arith, e, verb_wide (verb_of s), all_wide known s w)

-- ONE LINE
named_back : (verb : Verb) → named verb_word event_verbs (verb_word verb) ≡ Some verb
named_back verbs.Unit = refl
named_back other = refl

no_comment : (verb : Verb) (rest : List ℕ) → is_comment (verb_word verb ++ rest) ≡ false
no_comment verbs.Unit rest = refl
no_comment other rest = refl

if_no : {X : Type 0} (t : Bool) (x y : X) → t ≡ false → (if t then x else y) ≡ y
if_no true x y e = absurd (false≢true (sym e))
if_no false x y e = refl

said_back : (known : Known) (s : Said) → IsWell known s → said all_verbs known (verb_of s) (fields_of s) ≡ Ok s
said_back known s w =
    ap (λ (o : Option ScriptKind). unless o (whole (form_of known (verb_of s)) (fields_of s))) w.in_time
    ∙ ap (λ (r : Result (Said × List (List ℕ)) ScriptKind). and_then r none_left) (form_back known s w.in_range)

entry_back : (known : Known) (s : Said) → IsWell known s → entry all_verbs known (verb_word (verb_of s) ∷ fields_of s) ≡ Ok (Some s)
entry_back known s w =
    ap (λ (o : Option Verb). and_then (some_or Word o) (λ verb. and_then (said all_verbs known verb (fields_of s)) (λ x. Ok (Some x)))) (named_back (verb_of s))
    ∙ ap (λ (r : Result Said ScriptKind). and_then {B = Option Said} r (λ x. Ok (Some x))) (said_back known s w)

line_back : (known : Known) (n : ℕ) (s : Said) → n ≤ 1000000 → IsWell known s → line_says all_verbs known n (line_text s) ≡ Ok (Some s)
line_back known n s le w =
    let text : List ℕ = line_text s in
    if_no (nat_lt 1000000 n) (Err TooMany) (if nat_lt 140000 (length text) then Err LineLong else if is_comment text then Ok None else entry all_verbs known (pieces text)) (le-ltb 1000000 n le)
    ∙ if_no (nat_lt 140000 (length text)) (Err LineLong) (if is_comment text then Ok None else entry all_verbs known (pieces text)) (le-ltb 140000 (length text) (line_fits known s w.in_range))
    ∙ if_no (is_comment text) (Ok None) (entry all_verbs known (pieces text)) (no_comment (verb_of s) (spaced (fields_of s)))
    ∙ ap (entry all_verbs known) (pieces_spaced (verb_word (verb_of s)) (fields_of s) (verb_is (verb_of s)) (all_are known s w.in_range))
    ∙ entry_back known s w

-- ALL LINES
pub learned_more : (lines : List Numbered) (n : ℕ) (s : Said) → learned (known_of lines) s ≡ known_of (lines ++ record { number = n; statement = s } ∷ [])
learned_more lines n s =
    known_more lines (record { number = n; statement = s }) (learned (known_of lines) s)
    (record { kinds = λ u. refl; used = λ id. refl; later = refl; requests = refl; noises = refl })

says_back : (lines : List Numbered) (n : ℕ) (known : Known) (ss : List Said) → known ≡ known_of lines → AreWell known ss → n + length ss ≤ 1000001 → SayTheRest all_verbs lines n (map line_text ss) (lines ++ numbered n ss)
says_back lines n known [] k w few = sym (append-nil lines)
says_back lines n known (s ∷ rest) k w few =
    let line : Numbered = record { number = n; statement = s } in
    let after : learned known s ≡ known_of (lines ++ line ∷ []) = ap (λ (x : Known). learned x s) k ∙ learned_more lines n s in
    let le : n ≤ 1000000 = omega (arith, few) in
    let fewer : (n + 1) + length rest ≤ 1000001 = omega (arith, few) in (
      Some s,
      ap (λ (x : Known). line_says all_verbs x n (line_text s)) (sym k) ∙ line_back known n s le w.0,
      subst (λ (all : List Numbered). SayTheRest all_verbs (lines ++ line ∷ []) (n + 1) (map line_text rest) all) (append_assoc lines (line ∷ []) (numbered (n + 1) rest))
          (says_back (lines ++ line ∷ []) (n + 1) (learned known s) rest after w.1 fewer),
    )

lines_back : (known : Known) (ss : List Said) → AreWell known ss → lines_of (text_of ss) ≡ map line_text ss
lines_back known [] w = refl
lines_back known (s ∷ rest) w =
    let here : in_line (line_text s) ≡ true = line_in (verb_word (verb_of s)) (fields_of s) (verb_is (verb_of s)) (all_are known s w.0.in_range) in
    ap (λ (ls : List (List ℕ)). map without_cr ls) (piece_of_line (line_text s) (text_of rest) here)
    ∙ ap (λ (l : List ℕ). l ∷ lines_of (text_of rest)) (line_whole (line_text s) here)
    ∙ ap (λ (ls : List (List ℕ)). line_text s ∷ ls) (lines_back (learned known s) rest w.1)

pub read_back : (ss : List Said) → AreWell (known_of {D = List ℕ} {N = List ℕ} []) ss → length ss ≤ 1000000 → length (text_of ss) ≤ 16777216 → Spells all_verbs (text_of ss) (numbered 1 ss) (length ss)
read_back ss w few short =
    let lines : lines_of (text_of ss) ≡ map line_text ss = lines_back (known_of {D = List ℕ} {N = List ℕ} []) ss w in record {
      short = short;
      says = subst (λ (ls : List (List ℕ)). SayTheRest all_verbs [] 1 ls (numbered 1 ss)) (sym lines) (says_back [] 1 (known_of {D = List ℕ} {N = List ℕ} []) ss refl w (omega (arith, few)));
      counted = sym (ap length lines ∙ length-map ss line_text);
    }
