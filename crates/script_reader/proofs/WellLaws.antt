-- What a script says is well formed.
use Rattle.std.proofs.Common.{◌≡◌, ℕ, zero, suc, ◌+◌, ◌-◌, ◌*◌, ◌<◌, ◌≤◌, Bool, true, false, List, [], ◌∷◌, ◌++◌, length, map, refl, sym, ap, subst, ◌∙◌, arith, append_assoc, append-nil, Option, None, Some, Result, Ok, Err}
use Rattle.std.specs.Prelude.{if◌then◌else◌, ◌&&◌, ◌==◌, nat_le, nat_lt, slice_index, codes}
use Rattle.std.specs.List.{list_all}
use Rattle.std.specs.Str.{bytes_eq}
use Rattle.std.specs.Str.Parse.{digits_value}
use Rattle.std.proofs.lemmas.Bool.{leb-true, ltb-false, eqb-true, and_parts}
use Rattle.hex.specs.Hex.{is_hex_digit, decode_sized}
use Rattle.hex.specs.declared.error.FromHexError.{FromHexError}
use Rattle.hex.proofs.HexLemmas.{decode_of-ok, decode_sized-ok, decode_sized-twice}
use Rattle.hardware_table.specs.declared.NoiseSpan.TheVariants.{Times, Until}
use Rattle.fire_code.specs.Noise.{IsNoise}
use Rattle.pack_geometry.specs.declared.DriveKind.{DriveKind}
use Rattle.pack_geometry.specs.declared.DriveKind.TheVariants.{Rp06, Rm03, Rm05}
use Rattle.pack_geometry.specs.Geometry.{block_count, sectors_of}
use Rattle.mass_text.specs.Numbers.{base_of, number_of, first_other, fault_or, up_to}
use Rattle.mass_text.specs.Pieces.{pieces}
use Rattle.mass_text.specs.declared.numbers.Radix.{Radix}
use Rattle.mass_text.specs.declared.numbers.Radix.TheVariants.{Decimal}
use Rattle.mass_text.specs.declared.numbers.NumberFault.{NumberFault}
use Rattle.mass_text.specs.declared.numbers.NumberFault.TheVariants.{Empty, Digit, Large}
use Rattle.script_lines.specs.declared.kinds.ScriptKind.{ScriptKind}
use Rattle.script_lines.specs.declared.kinds.ScriptKind.TheVariants.{Word, Number, IdTwice, UnitTwice, UnitUnknown, Count, Data, Bits, TooMany, LineLong}
use Rattle.script_lines.specs.declared.statement.Content.TheVariants as contents
use Rattle.script_lines.specs.declared.statement.Request.{Request}
use Rattle.script_lines.specs.declared.statement.Statement.TheVariants as says
use Rattle.script_lines.specs.declared.verbs.Verb.{Verb}
use Rattle.script_lines.specs.declared.dialect.Dialect.{Dialect}
use Rattle.script_lines.specs.declared.dialect.Dialect.TheVariants.{Events, Cached}
use Rattle.script_lines.specs.declared.verbs.Verb.TheVariants as verbs
use Rattle.script_lines.specs.Fields.{and_then, changed, or_kind, some_or, number_field, kind_field, part_field, offset_field, fault_field, counted, count_field, byte_field, seq_field, digits_field, place_field}
use Rattle.script_lines.specs.Known.{fresh, new_unit_field, old, unit_field, id_field, Known, Said, Numbered, verb_of, known_of}
use Rattle.script_lines.specs.Places.{numbers_of, are_noise}
use Rattle.script_reader.specs.Formed.{IsDrive, IsDeclared, AreTimes, IsAsked, IsWritten, IsSpan, IsInRange, IsWell, without_ids, IsWellIn, AreWellIn}
use Rattle.script_reader.specs.declared.cached.statement.Asked.{Asked}
use Rattle.script_reader.specs.declared.cached.statement.Statement.TheVariants as cached
use Rattle.script_reader.specs.cached.Scripts.{whole_blocks, IsOfCache}
use Rattle.script_lines.specs.Forms.{Form, gives, ends, fails, next, field, option, mapped, last_form, tail_form, start_form, content_by, content_form, span_form, noise_or, places_form, unit_number_form, adapter_form, form_of, none_left, whole, unless, too_late}
use Rattle.script_lines.specs.Dialects.{blocks_form, fill_by, fill_form, cached_form, form_in, said, word_of, verbs_of}
use Rattle.script_reader.specs.Grammar.{entry, is_comment, line_says, more, SayTheRest, Spells}
use Rattle.script_reader.specs.Lines.{lines_of}
use Rattle.script_lines.specs.Words.{named}
use Rattle.script_reader.proofs.BackLaws.{learned_more}
use Rattle.script_lines.proofs.Results.{same_Ok, err-ok, then_ok}
use Rattle.script_reader.proofs.CarriesLaws.{if_err, Gives, gives_it, whole_ok, same_Some, none-some, comment}
use Rattle.script_lines.proofs.PlacesLaws.{AreSmall, is_noise}

-- FORMS whose later parts rest on what the first gives
gives_that : {A B : Type 0} (Q : A → Type 0) (P : B → Type 0) (form : Form A) (rest : A → Form B) → Gives Q form → ((a : A) → Q a → Gives P (rest a)) → Gives P (next form rest)
gives_that Q P form rest first each fields b after e =
    let found = then_ok (form fields) (λ p. rest p.0 p.1) (b, after) e in
    each found.0.0 (first fields found.0.0 found.0.1 found.1) found.0.1 b after found.2

field_gives : {A : Type 0} (Q : A → Type 0) (reads : List ℕ → Result A ScriptKind) → ((text : List ℕ) (a : A) → reads text ≡ Ok a → Q a) → Gives Q (field reads)
field_gives {A} Q reads each [] a rest e = absurd (err-ok Word (a, rest) e)
field_gives {A} Q reads each (text ∷ fields) a rest e =
    let found = then_ok (reads text) (λ x. Ok (x, fields)) (a, rest) e in
    subst Q (ap (λ (q : A × List (List ℕ)). q.0) (same_Ok (found.0, fields) (a, rest) found.2)) (each text found.0 found.1)

any_gives : {A : Type 0} (form : Form A) → Gives (λ a. Unit {0}) form
any_gives form fields a rest e = tt

ends_gives : {A : Type 0} (P : A → Type 0) (a : A) → P a → Gives P (ends a)
ends_gives {A} P a p [] b rest e = subst P (ap (λ (q : A × List (List ℕ)). q.0) (same_Ok (a, []) (b, rest) e)) p
ends_gives {A} P a p (text ∷ fields) b rest e = absurd (err-ok Word (b, rest) e)

if_gives : {X : Type 0} (P : X → Type 0) (t : Bool) (x y : X) → P x → P y → P (if t then x else y)
if_gives P true x y p q = p
if_gives P false x y p q = q

option_gives : {A : Type 0} (P : A → Type 0) (word : List ℕ) (reads : List ℕ → Result A ScriptKind) (absent : A) → P absent → Gives P (field reads) → Gives P (option word reads absent)
option_gives {A} P word reads absent p each [] a rest e = gives_it P absent p [] a rest e
option_gives {A} P word reads absent p each (text ∷ fields) a rest e = at (bytes_eq text word) e
  where
    at : (t : Bool) → (if t then field reads fields else Ok (absent, text ∷ fields)) ≡ Ok (a, rest) → P a
    at true f = each fields a rest f
    at false f = gives_it P absent p (text ∷ fields) a rest f

fails_gives : {A : Type 0} (P : A → Type 0) (kind : ScriptKind) → Gives P (fails kind)
fails_gives P kind fields a rest e = absurd (err-ok kind (a, rest) e)

-- NUMBERS
number_small : (radix : Radix) (max : ℕ) (text : List ℕ) (n : ℕ) → number_of radix max text ≡ Ok n → n ≤ max
number_small radix max text n e = at (length text == 0) (first_other radix text) (digits_value (base_of radix) text) e
  where
    last : (v : ℕ) (b : Bool) → nat_le v max ≡ b → ◌≡◌ {A = Result ℕ NumberFault} (if b then Ok v else Err Large) (Ok n) → n ≤ max
    last v true t f = subst (λ (k : ℕ). k ≤ max) (same_Ok v n f) (leb-true v max t)
    last v false t f = absurd (err-ok Large n f)

    at : (t : Bool) (o : Option ℕ) (v : ℕ) → ◌≡◌ {A = Result ℕ NumberFault} (if t then Err Empty else fault_or o (up_to max v)) (Ok n) → n ≤ max
    at true o v f = absurd (err-ok Empty n f)
    at false (Some place) v f = absurd (err-ok (Digit place) n f)
    at false None v f = last v (nat_le v max) refl f

or_small : (kind : ScriptKind) (res : Result ℕ NumberFault) (n : ℕ) → or_kind kind res ≡ Ok n → res ≡ Ok n
or_small kind (Ok k) n e = ap (λ (x : ℕ). Ok x) (same_Ok k n e)
or_small kind (Err fault) n e = absurd (err-ok kind n e)

small_of : (kind : ScriptKind) (radix : Radix) (max : ℕ) (text : List ℕ) (n : ℕ) → or_kind kind (number_of radix max text) ≡ Ok n → n ≤ max
small_of kind radix max text n e = number_small radix max text n (or_small kind (number_of radix max text) n e)

if_number : {A : Type 0} (t : Bool) (kind : ScriptKind) (x a : A) → ◌≡◌ {A = Result A ScriptKind} (if t then Err kind else Ok x) (Ok a) → (t ≡ false) × (x ≡ a)
if_number true kind x a e = absurd (err-ok kind a e)
if_number false kind x a e = (refl, same_Ok x a e)

number_in : (low high : ℕ) (text : List ℕ) (n : ℕ) → number_field low high text ≡ Ok n → (low ≤ n) × (n ≤ high)
number_in low high text n e =
    let found = then_ok (or_kind Number (number_of Decimal high text)) (λ k. if nat_lt k low then Err Number else Ok k) n e in
    let both = if_number (nat_lt found.0 low) Number found.0 n found.2 in
    subst (λ (k : ℕ). (low ≤ k) × (k ≤ high)) both.1 (ltb-false found.0 low both.0, small_of Number Decimal high text found.0 found.1)

fresh_in : (o : Option DriveKind) (u v : ℕ) → fresh o u ≡ Ok v → (o ≡ None) × (u ≡ v)
fresh_in (Some kind) u v e = absurd (err-ok UnitTwice v e)
fresh_in None u v e = (refl, same_Ok u v e)

new_unit_in : (known : Known) (text : List ℕ) (u : ℕ) → new_unit_field known text ≡ Ok u → (u ≤ 31) × (known.kinds u ≡ None)
new_unit_in known text u e =
    let found = then_ok (number_field 0 31 text) (λ k. fresh (known.kinds k) k) u e in
    let both = fresh_in (known.kinds found.0) found.0 u found.2 in
    subst (λ (k : ℕ). (k ≤ 31) × (known.kinds k ≡ None)) both.1 ((number_in 0 31 text found.0 found.1).1, both.0)

old_in : (o : Option DriveKind) (u : ℕ) (p : ℕ × DriveKind) → old o u ≡ Ok p → (o ≡ Some p.1) × (u ≡ p.0)
old_in (Some kind) u p e =
    let same : ◌≡◌ {A = ℕ × DriveKind} (u, kind) p = same_Ok (u, kind) p e in
    (ap (λ (q : ℕ × DriveKind). Some q.1) same, ap (λ (q : ℕ × DriveKind). q.0) same)
old_in None u p e = absurd (err-ok UnitUnknown p e)

unit_in : (known : Known) (text : List ℕ) (p : ℕ × DriveKind) → unit_field known text ≡ Ok p → IsDrive known p.0 p.1
unit_in known text p e =
    let found = then_ok (number_field 0 31 text) (λ k. old (known.kinds k) k) p e in
    let both = old_in (known.kinds found.0) found.0 p found.2 in
    subst (λ (k : ℕ). IsDrive known k p.1) both.1 ((number_in 0 31 text found.0 found.1).1, both.0)

id_in : (known : Known) (text : List ℕ) (id : ℕ) → id_field known text ≡ Ok id → (id ≤ 4294967295) × (known.used id ≡ false)
id_in known text id e =
    let found = then_ok (number_field 0 4294967295 text) (λ k. if known.used k then Err IdTwice else Ok k) id e in
    let both = if_number (known.used found.0) IdTwice found.0 id found.2 in
    subst (λ (k : ℕ). (k ≤ 4294967295) × (known.used k ≡ false)) both.1 ((number_in 0 4294967295 text found.0 found.1).1, both.0)

above_none : (n : ℕ) → (n == 0) ≡ false → 1 ≤ n
above_none zero e = absurd (cc)
above_none (suc n) e = omega arith

count_in : (text : List ℕ) (n : ℕ) → count_field text ≡ Ok n → (1 ≤ n) × (n ≤ 127)
count_in text n e = at (number_of Decimal 127 text) refl e
  where
    at : (res : Result ℕ NumberFault) → number_of Decimal 127 text ≡ res → counted res ≡ Ok n → (1 ≤ n) × (n ≤ 127)
    at (Ok k) t f =
        let both = if_number (k == 0) Count k n f in
        subst (λ (m : ℕ). (1 ≤ m) × (m ≤ 127)) both.1 (above_none k both.0, number_small Decimal 127 text k t)
    at (Err fault) t f = absurd (err-ok _ n f)

byte_in : (text : List ℕ) (b : ℕ) → byte_field text ≡ Ok b → b ≤ 255
byte_in text b e = at (decode_sized text 1) refl e
  where
    at : (r : Result (List ℕ) FromHexError) → decode_sized text 1 ≡ r → changed (λ bytes. slice_index bytes 0) (or_kind Data r) ≡ Ok b → b ≤ 255
    at (Ok bytes) is f =
        let byte = (decode_of-ok text bytes (sym (decode_sized-twice text 1 (decode_sized-ok text 1 bytes is)) ∙ is)).3 0 in
        omega (arith, byte, same_Ok (slice_index bytes 0) b f)
    at (Err fault) is f = absurd (err-ok Data b f)

digits_in : (count : ℕ) (text digits : List ℕ) → digits_field count text ≡ Ok digits → (length digits ≡ 1024 * count) × (list_all is_hex_digit digits ≡ true)
digits_in count text digits e = at (length text == 1024 * count && list_all is_hex_digit text) refl e
  where
    at : (t : Bool) → (length text == 1024 * count && list_all is_hex_digit text) ≡ t → ◌≡◌ {A = Result (List ℕ) ScriptKind} (if t then Ok text else Err Data) (Ok digits) → (length digits ≡ 1024 * count) × (list_all is_hex_digit digits ≡ true)
    at true t f =
        let p = and_parts (length text == 1024 * count) (list_all is_hex_digit text) t in
        subst (λ (d : List ℕ). (length d ≡ 1024 * count) × (list_all is_hex_digit d ≡ true)) (same_Ok text digits f) (eqb-true (length text) (1024 * count) p.0, p.1)
    at false t f = absurd (err-ok Data digits f)

-- THE PARTS OF LINES
record Begun (known : Known) (r : Request) : Type 0 where
  pub id : (r.id ≤ 4294967295) × (known.used r.id ≡ false)
  pub declared : IsDeclared known r.unit
  pub block : r.block ≤ 4294967295
  pub count : (1 ≤ r.count) × (r.count ≤ 127)

start_gives : (known : Known) → Gives (Begun known) (start_form known)
unfolding start_form
start_gives known =
    gives_that (λ id. (id ≤ 4294967295) × (known.used id ≡ false)) (Begun known) (field (id_field known)) _ (field_gives _ (id_field known) (id_in known))
    (λ id new.
    gives_that (λ p. IsDrive known p.0 p.1) (Begun known) (field (unit_field known)) _ (field_gives _ (unit_field known) (unit_in known))
    (λ p drive.
    gives_that (λ part. Unit {0}) (Begun known) (field part_field) _ (any_gives (field part_field))
    (λ part u.
    gives_that (λ block. (0 ≤ block) × (block ≤ 4294967295)) (Begun known) (field (number_field 0 4294967295)) _ (field_gives _ (number_field 0 4294967295) (number_in 0 4294967295))
    (λ block within.
    gives_that (λ count. (1 ≤ count) × (count ≤ 127)) (Begun known) (field count_field) _ (field_gives _ count_field count_in)
    (λ count few.
    gives_it (Begun known) (record { id = id; unit = p.0; part = part; block = block; count = count; offset = 0; last = 512 }) (record { id = new; declared = (p.1, drive); block = within.1; count = few }))))))

last_gives : Gives (λ last. (1 ≤ last) × (last ≤ 512)) last_form
unfolding last_form
last_gives =
    gives_that (λ last. (1 ≤ last) × (last ≤ 512)) (λ last. (1 ≤ last) × (last ≤ 512)) (option (codes "last") (number_field 1 512) 512) _
    (option_gives _ (codes "last") (number_field 1 512) 512 (omega arith, omega arith) (field_gives _ (number_field 1 512) (number_in 1 512)))
    (λ last within. ends_gives _ last within)

tail_gives : (known : Known) (start : Request) → Begun known start → Gives (λ r. IsAsked known r × (r.count ≡ start.count)) (tail_form start)
unfolding tail_form
tail_gives known start b =
    gives_that (λ offset. (0 ≤ offset) × (offset ≤ 511)) (λ r. IsAsked known r × (r.count ≡ start.count)) (option (codes "off") (number_field 0 511) 0) _
    (option_gives _ (codes "off") (number_field 0 511) 0 (omega arith, omega arith) (field_gives _ (number_field 0 511) (number_in 0 511)))
    (λ offset low.
    gives_that (λ last. (1 ≤ last) × (last ≤ 512)) (λ r. IsAsked known r × (r.count ≡ start.count)) last_form _ last_gives
    (λ last within.
    gives_it (λ r. IsAsked known r × (r.count ≡ start.count)) (record start { offset = offset; last = last })
    (record { id = b.id.0; new = b.id.1; declared = b.declared; block = b.block; some = b.count.0; count = b.count.1; offset = low.1; byte = within.0; last = within.1 }, refl)))

seq_in : (text : List ℕ) (n : ℕ) → seq_field text ≡ Ok n → n ≤ 255
seq_in text n e = small_of Data Decimal 255 text n e

content_gives : (count : ℕ) → Gives (IsWritten count) (content_form count)
unfolding content_form
content_gives count =
    gives_that (λ word. Unit {0}) (IsWritten count) (field (λ text. Ok text)) (λ word. content_by count word) (any_gives (field (λ text. Ok text)))
    (λ word u.
    if_gives (Gives (IsWritten count)) (bytes_eq word (codes "fill")) (next (field byte_field) (λ b. gives (contents.Fill b)))
    (if bytes_eq word (codes "seq") then next (field seq_field) (λ n. gives (contents.Seq n)) else if bytes_eq word (codes "hex") then next (field (digits_field count)) (λ digits. gives (contents.Hex digits)) else fails Word)
    (gives_that (λ b. b ≤ 255) (IsWritten count) (field byte_field) (λ b. gives (contents.Fill b)) (field_gives (λ b. b ≤ 255) byte_field byte_in) (λ b le. gives_it (IsWritten count) (contents.Fill b) le))
    (if_gives (Gives (IsWritten count)) (bytes_eq word (codes "seq")) (next (field seq_field) (λ n. gives (contents.Seq n)))
    (if bytes_eq word (codes "hex") then next (field (digits_field count)) (λ digits. gives (contents.Hex digits)) else fails Word)
    (gives_that (λ n. n ≤ 255) (IsWritten count) (field seq_field) (λ n. gives (contents.Seq n)) (field_gives (λ n. n ≤ 255) seq_field seq_in) (λ n le. gives_it (IsWritten count) (contents.Seq n) le))
    (if_gives (Gives (IsWritten count)) (bytes_eq word (codes "hex")) (next (field (digits_field count)) (λ digits. gives (contents.Hex digits))) (fails Word)
    (gives_that (λ d. (length d ≡ 1024 * count) × (list_all is_hex_digit d ≡ true)) (IsWritten count) (field (digits_field count)) (λ digits. gives (contents.Hex digits))
    (field_gives (λ d. (length d ≡ 1024 * count) × (list_all is_hex_digit d ≡ true)) (digits_field count) (digits_in count)) (λ d w. gives_it (IsWritten count) (contents.Hex d) w))
    (fails_gives (IsWritten count) Word))))

span_gives : Gives IsSpan span_form
unfolding span_form
span_gives [] a rest e = absurd (err-ok Word (a, rest) e)
span_gives (text ∷ fields) a rest e = at (bytes_eq text (codes "until")) e
  where
    at : (t : Bool) → (if t then next (field offset_field) (λ code. gives (Until code)) fields else next (field (number_field 1 1000)) (λ times. gives (Times times)) (text ∷ fields)) ≡ Ok (a, rest) → IsSpan a
    at true f = gives_that (λ c. Unit {0}) IsSpan (field offset_field) (λ code. gives (Until code)) (any_gives (field offset_field)) (λ c u. gives_it IsSpan (Until c) tt) fields a rest f
    at false f =
        gives_that AreTimes IsSpan (field (number_field 1 1000)) (λ times. gives (Times times)) (field_gives AreTimes (number_field 1 1000) (number_in 1 1000)) (λ n w. gives_it IsSpan (Times n) w) (text ∷ fields) a rest f

numbers_in : (fields : List (List ℕ)) (ps : List ℕ) → numbers_of fields ≡ Ok ps → AreSmall ps × (length ps ≡ length fields)
numbers_in [] ps e = subst (λ (q : List ℕ). AreSmall q × (length q ≡ 0)) (same_Ok [] ps e) (tt, refl)
numbers_in (f ∷ fs) ps e =
    let first = then_ok (place_field f) (λ place. and_then (numbers_of fs) (λ places. Ok (place ∷ places))) ps e in
    let others = then_ok (numbers_of fs) (λ places. Ok (first.0 ∷ places)) ps first.2 in
    let rest = numbers_in fs others.0 others.1 in
    subst (λ (q : List ℕ). AreSmall q × (length q ≡ suc (length fs))) (same_Ok (first.0 ∷ others.0) ps others.2) ((small_of Bits Decimal 4127 f first.0 first.1, rest.0), ap suc rest.1)

noise_in : (places : List ℕ) (p : List ℕ × List (List ℕ)) → noise_or places ≡ Ok p → (are_noise places ≡ true) × (places ≡ p.0)
noise_in places p e = at (are_noise places) refl e
  where
    at : (t : Bool) → are_noise places ≡ t → ◌≡◌ {A = Result (List ℕ × List (List ℕ)) ScriptKind} (if t then Ok (places, []) else Err Bits) (Ok p) → (are_noise places ≡ true) × (places ≡ p.0)
    at true t f = (t, ap (λ (q : List ℕ × List (List ℕ)). q.0) (same_Ok (places, []) p f))
    at false t f = absurd (err-ok Bits p f)

places_gives : Gives IsNoise places_form
unfolding places_form
places_gives [] a rest e = absurd (err-ok Word (a, rest) e)
places_gives (text ∷ fields) a rest e =
    let found = then_ok (numbers_of (text ∷ fields)) noise_or (a, rest) e in
    let small = numbers_in (text ∷ fields) found.0 found.1 in
    let both = noise_in found.0 (a, rest) found.2 in
    let some : 0 < length found.0 = omega (arith, small.1) in
    subst IsNoise both.1 (is_noise found.0 small.0 some both.0)

-- LINES, behind their words
abbrev IsSaid : Known → Verb → Said → Type 0
IsSaid known verb s = IsInRange known s × (verb_of s ≡ verb)

unit_number_gives : (known : Known) → Gives (IsDeclared known) (unit_number_form known)
unit_number_gives known =
    gives_that (λ p. IsDrive known p.0 p.1) (IsDeclared known) (field (unit_field known)) (λ p. gives p.0) (field_gives (λ p. IsDrive known p.0 p.1) (unit_field known) (unit_in known))
    (λ p d. gives_it (IsDeclared known) p.0 (p.1, d))

adapter_gives : Gives (λ a. a ≤ 3) adapter_form
adapter_gives = field_gives (λ a. a ≤ 3) (number_field 0 3) (λ text n e. (number_in 0 3 text n e).1)

sector_below : (kind : DriveKind) (n : ℕ) → n ≤ sectors_of kind - 1 → n < sectors_of kind
sector_below Rp06 n le = omega (arith, le)
sector_below other n le = omega (arith, le)

block_below : (kind : DriveKind) (n : ℕ) → n ≤ block_count kind - 1 → n < block_count kind
block_below Rp06 n le = omega (arith, le)
block_below other n le = omega (arith, le)

unit_said : (known : Known) (verb : Verb) (name : ℕ → Said) → ((u : ℕ) → IsDeclared known u → IsSaid known verb (name u)) → Gives (IsSaid known verb) (mapped name (unit_number_form known))
unit_said known verb name each = gives_that (IsDeclared known) (IsSaid known verb) (unit_number_form known) (λ u. gives (name u)) (unit_number_gives known) (λ u d. gives_it (IsSaid known verb) (name u) (each u d))

adapter_said : (known : Known) (verb : Verb) (name : ℕ → Said) → ((a : ℕ) → a ≤ 3 → IsSaid known verb (name a)) → Gives (IsSaid known verb) (mapped name adapter_form)
adapter_said known verb name each = gives_that (λ a. a ≤ 3) (IsSaid known verb) adapter_form (λ a. gives (name a)) adapter_gives (λ a le. gives_it (IsSaid known verb) (name a) (each a le))

form_gives : (known : Known) (verb : Verb) → Gives (IsSaid known verb) (form_of known verb)
form_gives known verbs.Unit =
    gives_that (λ u. (u ≤ 31) × (known.kinds u ≡ None)) (IsSaid known verbs.Unit) (field (new_unit_field known)) (λ u. next (field kind_field) (λ kind. gives (says.Unit u kind)))
    (field_gives (λ u. (u ≤ 31) × (known.kinds u ≡ None)) (new_unit_field known) (new_unit_in known))
    (λ u new.
    gives_that (λ kind. Unit {0}) (IsSaid known verbs.Unit) (field kind_field) (λ kind. gives (says.Unit u kind)) (any_gives (field kind_field)) (λ kind t. gives_it (IsSaid known verbs.Unit) (says.Unit u kind) (new, refl)))
form_gives known verbs.Read =
    gives_that (Begun known) (IsSaid known verbs.Read) (start_form known) (λ start. next (tail_form start) (λ request. gives (says.Read request))) (start_gives known)
    (λ start b.
    gives_that (λ r. IsAsked known r × (r.count ≡ start.count)) (IsSaid known verbs.Read) (tail_form start) (λ request. gives (says.Read request)) (tail_gives known start b)
    (λ r w. gives_it (IsSaid known verbs.Read) (says.Read r) (w.0, refl)))
form_gives known verbs.Write =
    gives_that (Begun known) (IsSaid known verbs.Write) (start_form known) (λ start. next (content_form start.count) (λ content. next (tail_form start) (λ request. gives (says.Write request content)))) (start_gives known)
    (λ start b.
    gives_that (IsWritten start.count) (IsSaid known verbs.Write) (content_form start.count) (λ content. next (tail_form start) (λ request. gives (says.Write request content))) (content_gives start.count)
    (λ content c.
    gives_that (λ r. IsAsked known r × (r.count ≡ start.count)) (IsSaid known verbs.Write) (tail_form start) (λ request. gives (says.Write request content)) (tail_gives known start b)
    (λ r w. gives_it (IsSaid known verbs.Write) (says.Write r content) ((w.0, subst (λ (k : ℕ). IsWritten k content) (sym w.1) c), refl))))
form_gives known verbs.Arrive = unit_said known verbs.Arrive (λ u. says.Arrive u) (λ u d. (d, refl))
form_gives known verbs.Turn =
    gives_that (λ p. IsDrive known p.0 p.1) (IsSaid known verbs.Turn) (field (unit_field known)) (λ p. next (field (number_field 0 (sectors_of p.1 - 1))) (λ sector. gives (says.Turn p.0 sector)))
    (field_gives (λ p. IsDrive known p.0 p.1) (unit_field known) (unit_in known))
    (λ p d.
    gives_that (λ s. (0 ≤ s) × (s ≤ sectors_of p.1 - 1)) (IsSaid known verbs.Turn) (field (number_field 0 (sectors_of p.1 - 1))) (λ sector. gives (says.Turn p.0 sector))
    (field_gives (λ s. (0 ≤ s) × (s ≤ sectors_of p.1 - 1)) (number_field 0 (sectors_of p.1 - 1)) (number_in 0 (sectors_of p.1 - 1)))
    (λ s w. gives_it (IsSaid known verbs.Turn) (says.Turn p.0 s) ((p.1, d, sector_below p.1 s w.1), refl)))
form_gives known verbs.Move = adapter_said known verbs.Move (λ a. says.Move a) (λ a le. (le, refl))
form_gives known verbs.Attend = adapter_said known verbs.Attend (λ a. says.Attend a) (λ a le. (le, refl))
form_gives known verbs.Noise =
    gives_that (λ p. IsDrive known p.0 p.1) (IsSaid known verbs.Noise) (field (unit_field known)) (λ p. next (field (number_field 0 (block_count p.1 - 1))) (λ b. next span_form (λ s. next places_form (λ ps. gives (says.Noise p.0 b s ps)))))
    (field_gives (λ p. IsDrive known p.0 p.1) (unit_field known) (unit_in known))
    (λ p d.
    gives_that (λ b. (0 ≤ b) × (b ≤ block_count p.1 - 1)) (IsSaid known verbs.Noise) (field (number_field 0 (block_count p.1 - 1))) (λ b. next span_form (λ s. next places_form (λ ps. gives (says.Noise p.0 b s ps))))
    (field_gives (λ b. (0 ≤ b) × (b ≤ block_count p.1 - 1)) (number_field 0 (block_count p.1 - 1)) (number_in 0 (block_count p.1 - 1)))
    (λ b within.
    gives_that IsSpan (IsSaid known verbs.Noise) span_form (λ s. next places_form (λ ps. gives (says.Noise p.0 b s ps))) span_gives
    (λ s spans.
    gives_that IsNoise (IsSaid known verbs.Noise) places_form (λ ps. gives (says.Noise p.0 b s ps)) places_gives
    (λ ps noise.
    gives_it (IsSaid known verbs.Noise) (says.Noise p.0 b s ps) (record { kind = p.1; drive = d; inside = block_below p.1 b within.1; spans = spans; noise = noise }, refl)))))
form_gives known verbs.Fault =
    gives_that (IsDeclared known) (IsSaid known verbs.Fault) (unit_number_form known) (λ u. next (field fault_field) (λ what. next (field (number_field 1 1000)) (λ times. gives (says.Fault u what times)))) (unit_number_gives known)
    (λ u d.
    gives_that (λ what. Unit {0}) (IsSaid known verbs.Fault) (field fault_field) (λ what. next (field (number_field 1 1000)) (λ times. gives (says.Fault u what times))) (any_gives (field fault_field))
    (λ what t.
    gives_that AreTimes (IsSaid known verbs.Fault) (field (number_field 1 1000)) (λ times. gives (says.Fault u what times)) (field_gives AreTimes (number_field 1 1000) (number_in 1 1000))
    (λ times w. gives_it (IsSaid known verbs.Fault) (says.Fault u what times) ((d, w), refl))))
form_gives known verbs.Offline = unit_said known verbs.Offline (λ u. says.Offline u) (λ u d. (d, refl))
form_gives known verbs.Online = unit_said known verbs.Online (λ u. says.Online u) (λ u d. (d, refl))
form_gives known verbs.Lock = unit_said known verbs.Lock (λ u. says.Lock u) (λ u d. (d, refl))
form_gives known verbs.Unlock = unit_said known verbs.Unlock (λ u. says.Unlock u) (λ u d. (d, refl))
form_gives known verbs.Drain = gives_it (IsSaid known verbs.Drain) says.Drain (tt, refl)

-- LINES OF THE CACHE
record IsBlocks (known : Known) (r : Request) : Type 0 where
  pub asked : IsAsked (without_ids known) r
  pub narrow : Asked
  pub is : r ≡ whole_blocks narrow

blocks_gives : (known : Known) → Gives (IsBlocks known) (blocks_form known)
unfolding blocks_form
blocks_gives known =
    gives_that (λ id. (0 ≤ id) × (id ≤ 4294967295)) (IsBlocks known) (field (number_field 0 4294967295)) _ (field_gives _ (number_field 0 4294967295) (number_in 0 4294967295)) (λ id low.
    gives_that (λ p. IsDrive known p.0 p.1) (IsBlocks known) (field (unit_field known)) _ (field_gives _ (unit_field known) (unit_in known)) (λ p drive.
    gives_that (λ block. (0 ≤ block) × (block ≤ 4294967295)) (IsBlocks known) (field (number_field 0 4294967295)) _ (field_gives _ (number_field 0 4294967295) (number_in 0 4294967295)) (λ block within.
    gives_that (λ count. (1 ≤ count) × (count ≤ 127)) (IsBlocks known) (field count_field) _ (field_gives _ count_field count_in) (λ count few.
    let asked : Asked = record { id = id; unit = p.0; block = block; count = count } in
    gives_it (IsBlocks known) (whole_blocks asked) (record {
      asked = record { id = low.1; new = refl; declared = (p.1, drive); block = within.1; some = few.0; count = few.1; offset = omega arith; byte = omega arith; last = omega arith };
      narrow = asked;
      is = refl;
    })))))

fill_gives : Gives (λ b. b ≤ 255) fill_form
unfolding fill_form
fill_gives = gives_that (λ word. Unit {0}) (λ b. b ≤ 255) (field (λ text. Ok text)) fill_by (any_gives (field (λ text. Ok text))) (λ word none.
    if_gives (Gives (λ b. b ≤ 255)) (bytes_eq word (codes "fill")) (field byte_field) (fails Word) (field_gives _ byte_field byte_in) (fails_gives (λ b. b ≤ 255) Word))

abbrev IsSaidCached : Known → Verb → Said → Type 0
IsSaidCached known verb s = IsSaid (without_ids known) verb s × IsOfCache s

cached_gives : (known : Known) (verb : Verb) → Gives (IsSaidCached known verb) (cached_form known verb)
cached_gives known verbs.Unit =
    gives_that (λ u. (u ≤ 31) × (known.kinds u ≡ None)) (IsSaidCached known verbs.Unit) (field (new_unit_field known)) _ (field_gives _ (new_unit_field known) (new_unit_in known)) (λ u new.
    gives_that (λ kind. Unit {0}) (IsSaidCached known verbs.Unit) (field kind_field) _ (any_gives (field kind_field)) (λ kind t.
    gives_it (IsSaidCached known verbs.Unit) (says.Unit u kind) ((new, refl), (cached.Unit u kind, refl))))
cached_gives known verbs.Read =
    gives_that (IsBlocks known) (IsSaidCached known verbs.Read) (blocks_form known) _ (blocks_gives known) (λ r b.
    gives_it (IsSaidCached known verbs.Read) (says.Read r) ((b.asked, refl), (cached.Read b.narrow, ap (λ (x : Request). says.Read x) b.is)))
cached_gives known verbs.Write =
    gives_that (IsBlocks known) (IsSaidCached known verbs.Write) (blocks_form known) _ (blocks_gives known) (λ r b.
    gives_that (λ n. n ≤ 255) (IsSaidCached known verbs.Write) fill_form _ fill_gives (λ n small.
    gives_it (IsSaidCached known verbs.Write) (says.Write r (contents.Fill n)) (((b.asked, small), refl), (cached.Write b.narrow n, ap (λ (x : Request). says.Write x (contents.Fill n)) b.is))))
cached_gives known verbs.Drain = gives_it (IsSaidCached known verbs.Drain) says.Drain ((tt, refl), (cached.Sync, refl))
cached_gives known other = fails_gives (IsSaidCached known other) Word

-- WHOLE LINES
unless_in : {X : Type 0} (o : Option ScriptKind) (x : Result X ScriptKind) (a : X) → unless o x ≡ Ok a → (o ≡ None) × (x ≡ Ok a)
unless_in (Some kind) x a e = absurd (err-ok kind a e)
unless_in None x a e = (refl, e)

said_in : (dialect : Dialect) (known : Known) (verb : Verb) (fields : List (List ℕ)) (s : Said) → said dialect known verb fields ≡ Ok s → IsWellIn dialect known s
said_in Cached known verb fields s e =
    let both = unless_in (too_late known verb) (whole (cached_form known verb) fields) s e in
    let found = then_ok (cached_form known verb fields) none_left s both.1 in
    let is : IsSaidCached known verb s = subst (IsSaidCached known verb) (whole_ok found.0 s found.2) (cached_gives known verb fields found.0.0 found.0.1 found.1) in
    (record { in_time = ap (too_late known) is.0.1 ∙ both.0; in_range = is.0.0 }, is.1)
said_in Events known verb fields s e =
    let both = unless_in (too_late known verb) (whole (form_of known verb) fields) s e in
    let found = then_ok (form_of known verb fields) none_left s both.1 in
    let is : IsSaid known verb s = subst (IsSaid known verb) (whole_ok found.0 s found.2) (form_gives known verb fields found.0.0 found.0.1 found.1) in
    record { in_time = ap (too_late known) is.1 ∙ both.0; in_range = is.0 }

entry_in : (dialect : Dialect) (known : Known) (fields : List (List ℕ)) (s : Said) → entry dialect known fields ≡ Ok (Some s) → IsWellIn dialect known s
entry_in dialect known [] s e = absurd (none-some s (same_Ok None (Some s) e))
entry_in dialect known (word ∷ fields) s e =
    let verb = then_ok (some_or Word (named (word_of dialect) (verbs_of dialect) word)) (λ v. and_then (said dialect known v fields) (λ x. Ok (Some x))) (Some s) e in
    let found = then_ok (said dialect known verb.0 fields) (λ x. Ok (Some x)) (Some s) verb.2 in
    subst (IsWellIn dialect known) (same_Some found.0 s (same_Ok (Some found.0) (Some s) found.2)) (said_in dialect known verb.0 fields found.0 found.1)

line_in : (dialect : Dialect) (known : Known) (n : ℕ) (text : List ℕ) (s : Said) → line_says dialect known n text ≡ Ok (Some s) → IsWellIn dialect known s
line_in dialect known n text s e =
    let early = if_err (nat_lt 1000000 n) TooMany _ (Some s) e in
    let short = if_err (nat_lt 140000 (length text)) LineLong _ (Some s) early in
    entry_in dialect known (pieces text) s (comment (is_comment text) (entry dialect known (pieces text)) s short)

-- behind some lines the rest is well formed
record IsRest (dialect : Dialect) (lines all : List Numbered) : Type 0 where
  pub rest : List Numbered
  pub is : all ≡ lines ++ rest
  pub well : AreWellIn dialect (known_of lines) (map (λ line. line.statement) rest)

with_entry : (dialect : Dialect) (lines : List Numbered) (n : ℕ) (text : List ℕ) (all : List Numbered) (entry : Option Said) → line_says dialect (known_of lines) n text ≡ Ok entry → IsRest dialect (more lines n entry) all → IsRest dialect lines all
with_entry dialect lines n text all None e r = r
with_entry dialect lines n text all (Some s) e r =
    let line : Numbered = record { number = n; statement = s } in record {
      rest = line ∷ r.rest;
      is = r.is ∙ append_assoc lines (line ∷ []) r.rest;
      well = (line_in dialect (known_of lines) n text s e, subst (λ (k : Known). AreWellIn dialect k (map (λ l. l.statement) r.rest)) (sym (learned_more lines n s)) r.well);
    }

rest_well : (dialect : Dialect) (lines : List Numbered) (n : ℕ) (texts : List (List ℕ)) (all : List Numbered) → SayTheRest dialect lines n texts all → IsRest dialect lines all
rest_well dialect lines n [] all s = record { rest = []; is = sym s ∙ sym (append-nil lines); well = tt }
rest_well dialect lines n (text ∷ texts) all s = with_entry dialect lines n text all s.0 s.1 (rest_well dialect (more lines n s.0) (n + 1) texts all s.2)

pub spelled_well : (dialect : Dialect) (bytes : List ℕ) (lines : List Numbered) (count : ℕ) → Spells dialect bytes lines count → AreWellIn dialect (known_of {D = List ℕ} {N = List ℕ} []) (map (λ line. line.statement) lines)
spelled_well dialect bytes lines count s =
    let r = rest_well dialect [] 1 (lines_of bytes) lines s.says in
    subst (λ (ls : List Numbered). AreWellIn dialect (known_of {D = List ℕ} {N = List ℕ} []) (map (λ line. line.statement) ls)) (sym r.is) r.well
