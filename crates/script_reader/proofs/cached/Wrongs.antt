-- What can be wrong with a line: a kind that comes here.
use Rattle.std.proofs.Common.{◌≡◌, inl, inr, ℕ, ◌&&◌, Bool, true, false, List, [], ◌∷◌, length, sym, subst, Option, None, Some, Result, Ok, Err}
use Rattle.std.specs.Prelude.{if◌then◌else◌, nat_lt, codes, ◌==◌}
use Rattle.std.specs.Str.{bytes_eq}
use Rattle.pack_geometry.specs.declared.DriveKind.{DriveKind}
use Rattle.mass_text.specs.Pieces.{pieces}
use Rattle.mass_text.specs.Numbers.{number_of}
use Rattle.mass_text.specs.declared.numbers.Radix.TheVariants.{Decimal}
use Rattle.mass_text.specs.declared.numbers.NumberFault.{NumberFault}
use Rattle.mass_text.specs.declared.numbers.NumberFault.TheVariants.{Empty, Digit, Large}
use Rattle.script_lines.specs.declared.kinds.ScriptKind.{ScriptKind}
use Rattle.script_lines.specs.declared.kinds.ScriptKind.TheVariants as kinds
use Rattle.script_lines.specs.Fields.{and_then, changed, or_kind, some_or, number_field, kind_field, counted, count_kind, count_field, byte_field}
use Rattle.script_lines.specs.declared.dialect.Dialect.TheVariants.{Cached}
use Rattle.script_lines.specs.declared.verbs.Verb.{Verb}
use Rattle.script_lines.specs.declared.verbs.Verb.TheVariants as verbs
use Rattle.script_lines.specs.Dialects.{cached_word, cached_verbs, blocks_form, fill_by, fill_form, cached_form, said}
use Rattle.script_lines.specs.Words.{named}
use Rattle.script_lines.specs.Forms.{Form, gives, fails, next, field, none_left, whole, unless, too_late}
use Rattle.script_lines.specs.Known.{Known, Said, declares, is_full, fresh, old, new_unit_field, unit_field}
use Rattle.script_reader.specs.Grammar.{entry, is_comment, line_says, IsRefused}
use Rattle.script_reader.specs.cached.Kinds.{IsCachedKind}

-- ---- what is wrong is a kind that comes here
abbrev Only : {A : Type 0} → Result A ScriptKind → Type 0
Only (Ok a) = Unit {0}
Only (Err kind) = IsCachedKind kind

abbrev OnlyForm : {A : Type 0} → Form A → Type 0
OnlyForm form = (fields : List (List ℕ)) → Only (form fields)

word : IsCachedKind kinds.Word
word = record { no_id = λ e. cc; no_bits = λ e. cc }

number : IsCachedKind kinds.Number
number = record { no_id = λ e. cc; no_bits = λ e. cc }

unknown : IsCachedKind kinds.UnitUnknown
unknown = record { no_id = λ e. cc; no_bits = λ e. cc }

twice : IsCachedKind kinds.UnitTwice
twice = record { no_id = λ e. cc; no_bits = λ e. cc }

count : IsCachedKind kinds.Count
count = record { no_id = λ e. cc; no_bits = λ e. cc }

datum : IsCachedKind kinds.Data
datum = record { no_id = λ e. cc; no_bits = λ e. cc }

late : IsCachedKind kinds.LateUnit
late = record { no_id = λ e. cc; no_bits = λ e. cc }

many : IsCachedKind kinds.TooMany
many = record { no_id = λ e. cc; no_bits = λ e. cc }

long : IsCachedKind kinds.LineLong
long = record { no_id = λ e. cc; no_bits = λ e. cc }

script_long : IsCachedKind kinds.ScriptLong
script_long = record { no_id = λ e. cc; no_bits = λ e. cc }

-- ---- one thing and then another
then_only : {A B : Type 0} (first : Result A ScriptKind) (rest : A → Result B ScriptKind) → Only first → ((a : A) → Only (rest a)) → Only (and_then first rest)
then_only (Ok a) rest one more = more a
then_only (Err kind) rest one more = one

field_only : {A : Type 0} (reads : List ℕ → Result A ScriptKind) → ((text : List ℕ) → Only (reads text)) → OnlyForm (field reads)
field_only reads only [] = word
field_only {A} reads only (text ∷ fields) = then_only (reads text) (λ a. Ok (a, fields)) (only text) (λ a. tt)

next_only : {A B : Type 0} (form : Form A) (rest : A → Form B) → OnlyForm form → ((a : A) → OnlyForm (rest a)) → OnlyForm (next form rest)
next_only form rest one more fields = then_only (form fields) (λ p. rest p.0 p.1) (one fields) (λ p. more p.0 p.1)

or_only : {A E : Type 0} (kind : ScriptKind) (r : Result A E) → IsCachedKind kind → Only (or_kind kind r)
or_only kind (Ok a) is = tt
or_only kind (Err e) is = is

if_only : {A : Type 0} (t : Bool) (a b : Result A ScriptKind) → Only a → Only b → Only (if t then a else b)
if_only true a b one other = one
if_only false a b one other = other

some_only : {A : Type 0} (o : Option A) → Only (some_or kinds.Word o)
some_only (Some a) = tt
some_only None = word

-- ---- fields
number_only : (low high : ℕ) (text : List ℕ) → Only (number_field low high text)
number_only low high text = then_only (or_kind kinds.Number (number_of Decimal high text)) (λ n. if nat_lt n low then Err kinds.Number else Ok n)
    (or_only kinds.Number (number_of Decimal high text) number) (λ n. if_only (nat_lt n low) (Err kinds.Number) (Ok n) number tt)

fresh_only : (kind : Option DriveKind) (u : ℕ) → Only (fresh kind u)
fresh_only (Some kind) u = twice
fresh_only None u = tt

old_only : (kind : Option DriveKind) (u : ℕ) → Only (old kind u)
old_only (Some kind) u = tt
old_only None u = unknown

new_unit_only : (known : Known) (text : List ℕ) → Only (new_unit_field known text)
new_unit_only known text = then_only (number_field 0 31 text) (λ u. fresh (known.kinds u) u) (number_only 0 31 text) (λ u. fresh_only (known.kinds u) u)

unit_only : (known : Known) (text : List ℕ) → Only (unit_field known text)
unit_only known text = then_only (number_field 0 31 text) (λ u. old (known.kinds u) u) (number_only 0 31 text) (λ u. old_only (known.kinds u) u)

count_kind_only : (fault : NumberFault) → IsCachedKind (count_kind fault)
count_kind_only Large = count
count_kind_only other = number

counted_only : (r : Result ℕ NumberFault) → Only (counted r)
counted_only (Ok n) = if_only (n == 0) (Err kinds.Count) (Ok n) count tt
counted_only (Err fault) = count_kind_only fault

changed_only : {A B : Type 0} (name : A → B) (r : Result A ScriptKind) → Only r → Only (changed name r)
changed_only name (Ok a) only = tt
changed_only name (Err kind) only = only

-- ---- forms
blocks_only : (known : Known) → OnlyForm (blocks_form known)
unfolding blocks_form
blocks_only known =
    next_only (field (number_field 0 4294967295)) _ (field_only (number_field 0 4294967295) (number_only 0 4294967295)) (λ id.
    next_only (field (unit_field known)) _ (field_only (unit_field known) (unit_only known)) (λ unit_kind.
    next_only (field (number_field 0 4294967295)) _ (field_only (number_field 0 4294967295) (number_only 0 4294967295)) (λ block.
    next_only (field count_field) _ (field_only count_field (λ text. counted_only (number_of Decimal 127 text))) (λ n. λ fields. tt))))

byte_only : (text : List ℕ) → Only (byte_field text)
byte_only text = changed_only _ (or_kind kinds.Data _) (or_only kinds.Data _ datum)

fill_by_only : (text : List ℕ) → OnlyForm (fill_by text)
fill_by_only text fields = by (bytes_eq text (codes "fill"))
  where
    by : (t : Bool) → Only ((if t then field byte_field else fails kinds.Word) fields)
    by true = field_only byte_field byte_only fields
    by false = word

fill_only : OnlyForm fill_form
unfolding fill_form
fill_only = next_only (field (λ text. Ok text)) fill_by (field_only (λ text. Ok text) (λ text. tt)) fill_by_only

form_only : (known : Known) (verb : Verb) → OnlyForm (cached_form known verb)
form_only known verbs.Unit = next_only (field (new_unit_field known)) _ (field_only (new_unit_field known) (new_unit_only known)) (λ u.
    next_only (field kind_field) _ (field_only kind_field (λ text. some_only _)) (λ kind. λ fields. tt))
form_only known verbs.Read = next_only (blocks_form known) _ (blocks_only known) (λ request. λ fields. tt)
form_only known verbs.Write = next_only (blocks_form known) _ (blocks_only known) (λ request. next_only fill_form _ fill_only (λ fill. λ fields. tt))
form_only known verbs.Drain = λ fields. tt
form_only known other = λ fields. word

-- ---- lines
left_only : {A : Type 0} (p : A × List (List ℕ)) → Only (none_left p)
left_only (a, []) = tt
left_only (a, text ∷ fields) = word

late_only : (known : Known) (verb : Verb) (r : Result Said ScriptKind) → Only r → Only (unless (too_late known verb) r)
late_only known verb r rest = by (declares verb && known.later) (is_full known verb)
  where
    by : (early full : Bool) → Only (unless (if early then Some kinds.LateUnit else if full then Some kinds.TooMany else None) r)
    by true full = late
    by false true = many
    by false false = rest

said_only : (known : Known) (verb : Verb) (fields : List (List ℕ)) → Only (said Cached known verb fields)
said_only known verb fields = late_only known verb (whole (cached_form known verb) fields) (then_only (cached_form known verb fields) none_left (form_only known verb fields) left_only)

entry_only : (known : Known) (fields : List (List ℕ)) → Only (entry Cached known fields)
entry_only known [] = tt
entry_only known (text ∷ fields) = then_only (some_or kinds.Word (named cached_word cached_verbs text)) (λ verb. and_then (said Cached known verb fields) (λ s. Ok (Some s)))
    (some_only (named cached_word cached_verbs text)) (λ verb. then_only (said Cached known verb fields) (λ s. Ok (Some s)) (said_only known verb fields) (λ s. tt))

line_only : (known : Known) (n : ℕ) (text : List ℕ) → Only (line_says Cached known n text)
line_only known n text = if_only (nat_lt 1000000 n) (Err kinds.TooMany) _ many (if_only (nat_lt 140000 (length text)) (Err kinds.LineLong) _ long
    (if_only (is_comment text) (Ok None) (entry Cached known (pieces text)) tt (entry_only known (pieces text))))

line_kind : (known : Known) (n : ℕ) (text : List ℕ) (kind : ScriptKind) → line_says Cached known n text ≡ Err kind → IsCachedKind kind
line_kind known n text kind is = subst (λ (r : Result (Option Said) ScriptKind). Only r) is (line_only known n text)

-- so a whole text is refused for one of these kinds
pub refused_kind : (bytes : List ℕ) (number : ℕ) (kind : ScriptKind) → IsRefused Cached bytes number kind → IsCachedKind kind
refused_kind bytes number kind (inl long) = subst IsCachedKind (sym long.2) script_long
refused_kind bytes number kind (inr fault) = line_kind _ number fault.1.text kind fault.1.faulty
