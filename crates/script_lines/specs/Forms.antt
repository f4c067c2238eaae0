-- Lines by their fields, from left to right.
use Rattle.std.specs.Prelude.{◌≡◌, ℕ, ◌-◌, if◌then◌else◌, List, [], ◌∷◌, ◌&&◌, codes, Option, Some, None, Result, Ok, Err}
use Rattle.std.specs.Str.{bytes_eq}
use Rattle.pack_geometry.specs.Geometry.{block_count, sectors_of}
use Rattle.trace_replay.specs.NoiseSpan.{NoiseSpan}
use Rattle.trace_replay.specs.NoiseSpan.TheVariants.{Times, Until}
use Rattle.script_lines.specs.declared.kinds.ScriptKind.{ScriptKind}
use Rattle.script_lines.specs.declared.kinds.ScriptKind.TheVariants.{Word, Bits, LateUnit, TooMany}
use Rattle.script_lines.specs.declared.statement.Content.{Content}
use Rattle.script_lines.specs.declared.statement.Content.TheVariants as contents
use Rattle.script_lines.specs.declared.statement.Request.{Request}
use Rattle.script_lines.specs.declared.statement.Statement.TheVariants as says
use Rattle.script_lines.specs.declared.verbs.Verb.{Verb}
use Rattle.script_lines.specs.declared.verbs.Verb.TheVariants as verbs
use Rattle.script_lines.specs.Fields.{and_then, number_field, kind_field, part_field, offset_field, fault_field, count_field, byte_field, seq_field, digits_field}
use Rattle.script_lines.specs.Known.{Known, Said, declares, is_full, new_unit_field, unit_field, id_field}
use Rattle.script_lines.specs.Places.{numbers_of, are_noise}

-- what some fields say, and the fields that are left, or what is wrong with the first faulty one
abbrev pub Form : Type 0 → Type 0
Form A = List (List ℕ) → Result (A × List (List ℕ)) ScriptKind

-- nothing more
abbrev pub gives : {A : Type 0} → A → Form A
gives a fields = Ok (a, fields)

-- nothing more, and no field is left
abbrev pub ends : {A : Type 0} → A → Form A
ends a [] = Ok (a, [])
ends a (text ∷ fields) = Err Word

abbrev pub fails : {A : Type 0} → ScriptKind → Form A
fails kind fields = Err kind

-- a form, and then one that knows what it said
abbrev pub next : {A B : Type 0} → Form A → (A → Form B) → Form B
next form rest fields = and_then (form fields) (λ p. rest p.0 p.1)

-- one field; where it is missing that is a fault of words
abbrev pub field : {A : Type 0} → (List ℕ → Result A ScriptKind) → Form A
field reads [] = Err Word
field reads (text ∷ fields) = and_then (reads text) (λ a. Ok (a, fields))

-- what a form says under another name
abbrev pub mapped : {A B : Type 0} → (A → B) → Form A → Form B
mapped name form = next form (λ a. gives (name a))

-- a word and then a field, or neither
abbrev pub option : {A : Type 0} → List ℕ → (List ℕ → Result A ScriptKind) → A → Form A
option word reads absent [] = Ok (absent, [])
option word reads absent (text ∷ fields) = if bytes_eq text word then field reads fields else Ok (absent, text ∷ fields)

-- THE PARTS OF LINES. `ID U PART BLOCK COUNT`
unfoldable pub start_form : Known → Form Request
start_form known =
    next (field (id_field known)) (λ id.
    next (field (unit_field known)) (λ unit_kind.
    next (field part_field) (λ part.
    next (field (number_field 0 4294967295)) (λ block.
    next (field count_field) (λ count.
    gives (record { id = id; unit = unit_kind.0; part = part; block = block; count = count; offset = 0; last = 512 }))))))

-- `[last M]` and `[off N] [last M]`, which end a line
unfoldable pub last_form : Form ℕ
last_form = next (option (codes "last") (number_field 1 512) 512) (λ last. ends last)

-- an offset, and what ends the line behind it
abbrev pub both_form : ℕ → Form (ℕ × ℕ)
both_form offset = next last_form (λ last. gives (offset, last))

unfoldable pub tail_form : Request → Form Request
tail_form request =
    next (option (codes "off") (number_field 0 511) 0) (λ offset.
    next last_form (λ last.
    gives (record request { offset = offset; last = last })))

-- `fill HH`, `seq N` or `hex DIGITS`
abbrev pub content_by : ℕ → List ℕ → Form (Content (List ℕ))
content_by count word =
    if bytes_eq word (codes "fill") then next (field byte_field) (λ b. gives (contents.Fill b))
    else if bytes_eq word (codes "seq") then next (field seq_field) (λ n. gives (contents.Seq n))
    else if bytes_eq word (codes "hex") then next (field (digits_field count)) (λ digits. gives (contents.Hex digits))
    else fails Word

unfoldable pub content_form : ℕ → Form (Content (List ℕ))
content_form count = next (field (λ text. Ok text)) (λ word. content_by count word)

-- `TIMES` or `until CODE`
unfoldable pub span_form : Form NoiseSpan
span_form [] = Err Word
span_form (text ∷ fields) =
    if bytes_eq text (codes "until") then next (field offset_field) (λ code. gives (Until code)) fields
    else next (field (number_field 1 1000)) (λ times. gives (Times times)) (text ∷ fields)

-- `BITS`, which take all that is left
abbrev pub noise_or : List ℕ → Result (List ℕ × List (List ℕ)) ScriptKind
noise_or places = if are_noise places then Ok (places, []) else Err Bits

unfoldable pub places_form : Form (List ℕ)
places_form [] = Err Word
places_form (text ∷ fields) = and_then (numbers_of (text ∷ fields)) noise_or

-- LINES, behind their words.
abbrev pub unit_form : Known → Form Said
unit_form known = next (field (new_unit_field known)) (λ u. next (field kind_field) (λ kind. gives (says.Unit u kind)))

abbrev pub read_form : Known → Form Said
read_form known = next (start_form known) (λ start. next (tail_form start) (λ request. gives (says.Read request)))

abbrev pub write_form : Known → Form Said
write_form known =
    next (start_form known) (λ start.
    next (content_form start.count) (λ content.
    next (tail_form start) (λ request. gives (says.Write request content))))

-- a declared unit alone, and an adapter alone
abbrev pub unit_number_form : Known → Form ℕ
unit_number_form known = next (field (unit_field known)) (λ unit_kind. gives unit_kind.0)

abbrev pub adapter_form : Form ℕ
adapter_form = field (number_field 0 3)

abbrev pub turn_form : Known → Form Said
turn_form known =
    next (field (unit_field known)) (λ unit_kind.
    next (field (number_field 0 (sectors_of unit_kind.1 - 1))) (λ sector. gives (says.Turn unit_kind.0 sector)))

abbrev pub noise_form : Known → Form Said
noise_form known =
    next (field (unit_field known)) (λ unit_kind.
    next (field (number_field 0 (block_count unit_kind.1 - 1))) (λ block.
    next span_form (λ span.
    next places_form (λ places. gives (says.Noise unit_kind.0 block span places)))))

abbrev pub fault_form : Known → Form Said
fault_form known =
    next (unit_number_form known) (λ u.
    next (field fault_field) (λ what.
    next (field (number_field 1 1000)) (λ times. gives (says.Fault u what times))))

-- what is said of a unit alone, or of an adapter alone, by the word
abbrev pub of_unit : Verb → ℕ → Said
of_unit verbs.Offline u = says.Offline u
of_unit verbs.Online u = says.Online u
of_unit verbs.Lock u = says.Lock u
of_unit verbs.Unlock u = says.Unlock u
of_unit verb u = says.Arrive u

abbrev pub of_adapter : Verb → ℕ → Said
of_adapter verbs.Attend a = says.Attend a
of_adapter verb a = says.Move a

abbrev pub form_of : Known → Verb → Form Said
form_of known verbs.Unit = unit_form known
form_of known verbs.Read = read_form known
form_of known verbs.Write = write_form known
form_of known verbs.Arrive = mapped (λ u. says.Arrive u) (unit_number_form known)
form_of known verbs.Turn = turn_form known
form_of known verbs.Move = mapped (λ a. says.Move a) adapter_form
form_of known verbs.Attend = mapped (λ a. says.Attend a) adapter_form
form_of known verbs.Noise = noise_form known
form_of known verbs.Fault = fault_form known
form_of known verbs.Offline = mapped (λ u. says.Offline u) (unit_number_form known)
form_of known verbs.Online = mapped (λ u. says.Online u) (unit_number_form known)
form_of known verbs.Lock = mapped (λ u. says.Lock u) (unit_number_form known)
form_of known verbs.Unlock = mapped (λ u. says.Unlock u) (unit_number_form known)
form_of known verbs.Drain = gives says.Drain

-- a form that takes all the fields
abbrev pub none_left : {A : Type 0} → A × List (List ℕ) → Result A ScriptKind
none_left (a, []) = Ok a
none_left (a, text ∷ fields) = Err Word

abbrev pub whole : {A : Type 0} → Form A → List (List ℕ) → Result A ScriptKind
whole form fields = and_then (form fields) none_left

-- a reader took from some fields what a form says of them
abbrev pub Parses : {A : Type 0} → Form A → List (List ℕ) → Result A ScriptKind → List (List ℕ) → Type 0
Parses form before (Ok a) after = form before ≡ Ok (a, after)
Parses form before (Err kind) after = form before ≡ Err kind

-- WHOLE LINES. What is wrong with a word, whatever the fields behind it.
abbrev pub too_late : Known → Verb → Option ScriptKind
too_late known verb = if declares verb && known.later then Some LateUnit else if is_full known verb then Some TooMany else None

abbrev pub unless : {A : Type 0} → Option ScriptKind → Result A ScriptKind → Result A ScriptKind
unless (Some kind) result = Err kind
unless None result = result
