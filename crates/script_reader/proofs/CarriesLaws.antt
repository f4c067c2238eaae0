-- Where a line has digits: they are its eighth field.
use Rattle.std.proofs.Common.{◌≡◌, ℕ, Bool, true, false, List, [], ◌∷◌, length, get_or, refl, sym, ap, subst, ◌∙◌, Option, None, Some, Result, Ok, Err}
use Rattle.std.specs.Prelude.{if◌then◌else◌, ◌&&◌, ◌==◌, ◌*◌, ◌-◌, codes, nat_lt}
use Rattle.std.specs.List.{list_all}
use Rattle.std.specs.Str.{bytes_eq}
use Rattle.hex.specs.Hex.{is_hex_digit}
use Rattle.mass_text.specs.Pieces.{pieces}
use Rattle.pack_geometry.specs.declared.DriveKind.{DriveKind}
use Rattle.pack_geometry.specs.Geometry.{block_count, sectors_of}
use Rattle.script_lines.specs.declared.kinds.ScriptKind.{ScriptKind}
use Rattle.script_lines.specs.declared.kinds.ScriptKind.TheVariants.{Word, Data, TooMany, LineLong}
use Rattle.script_lines.specs.declared.statement.Content.{Content}
use Rattle.script_lines.specs.declared.statement.Content.TheVariants as contents
use Rattle.script_lines.specs.declared.statement.Request.{Request}
use Rattle.script_lines.specs.declared.statement.Statement.TheVariants as says
use Rattle.script_lines.specs.declared.verbs.Verb.{Verb}
use Rattle.script_lines.specs.declared.dialect.Dialect.{Dialect}
use Rattle.script_lines.specs.declared.dialect.Dialect.TheVariants.{Events, Cached}
use Rattle.script_lines.specs.declared.verbs.Verb.TheVariants as verbs
use Rattle.script_lines.specs.Fields.{some_or, number_field, kind_field, part_field, fault_field, count_field, byte_field, seq_field, digits_field}
use Rattle.script_lines.specs.Known.{new_unit_field, unit_field, id_field, Known, Said}
use Rattle.script_lines.specs.Forms.{Form, gives, next, field, whole, none_left, content_by, content_form, start_form, tail_form, span_form, places_form, write_form, form_of, unit_number_form, adapter_form, unless, too_late}
use Rattle.script_lines.specs.Dialects.{blocks_form, fill_form, cached_form, form_in, said, word_of, verbs_of}
use Rattle.script_reader.specs.Grammar.{entry, is_comment, line_says}
use Rattle.script_lines.specs.Words.{named, verb_word}
use Rattle.script_lines.proofs.Results.{same_Ok, err-ok, then_ok}

-- a fault that is not there
pub if_err : {A : Type 0} (test : Bool) (kind : ScriptKind) (x : Result A ScriptKind) (a : A) → (if test then Err kind else x) ≡ Ok a → x ≡ Ok a
if_err true kind x a e = absurd (err-ok kind a e)
if_err false kind x a e = e

unless_ok : {A : Type 0} (fault : Option ScriptKind) (x : Result A ScriptKind) (a : A) → unless fault x ≡ Ok a → x ≡ Ok a
unless_ok (Some kind) x a e = absurd (err-ok kind a e)
unless_ok None x a e = e

-- FORMS that give only what has a property
abbrev pub Gives : {A : Type 0} → (A → Type 0) → Form A → Type 0
Gives {A} P form = (fields : List (List ℕ)) (a : A) (rest : List (List ℕ)) → form fields ≡ Ok (a, rest) → P a

pub gives_it : {A : Type 0} (P : A → Type 0) (a : A) → P a → Gives P (gives a)
gives_it {A} P a p fields b rest e = subst P (ap (λ (q : A × List (List ℕ)). q.0) (same_Ok (a, fields) (b, rest) e)) p

gives_next : {A B : Type 0} (P : B → Type 0) (form : Form A) (rest : A → Form B) → ((a : A) → Gives P (rest a)) → Gives P (next form rest)
gives_next P form rest each fields b after e =
    let found = then_ok (form fields) (λ p. rest p.0 p.1) (b, after) e in
    each found.0.0 found.0.1 b after found.2

-- what a write carries is these digits, where it has any
abbrev pub CarriesIn : List ℕ → Content (List ℕ) → Type 0
CarriesIn d (contents.Fill b) = Unit {0}
CarriesIn d (contents.Seq n) = Unit {0}
CarriesIn d (contents.Hex x) = d ≡ x

abbrev pub Carries : List ℕ → Said → Type 0
Carries d (says.Write request content) = CarriesIn d content
Carries d statement = Unit {0}

-- FIELDS of a write. One field is the first.
field_first : {A : Type 0} (reads : List ℕ → Result A ScriptKind) (fields : List (List ℕ)) (p : A × List (List ℕ)) → field reads fields ≡ Ok p → (text : List ℕ) × (fields ≡ text ∷ p.1)
field_first reads [] p e = absurd (err-ok Word p e)
field_first reads (text ∷ fields) p e =
    let found = then_ok (reads text) (λ a. Ok (a, fields)) p e in
    (text, ap (λ ts. text ∷ ts) (ap (λ q. q.1) (same_Ok (found.0, fields) p found.2)))

record IsFifth (fields rest : List (List ℕ)) : Type 0 where
  pub one : List ℕ
  pub two : List ℕ
  pub three : List ℕ
  pub four : List ℕ
  pub five : List ℕ
  pub all : fields ≡ one ∷ two ∷ three ∷ four ∷ five ∷ rest

start_fifth : (known : Known) (fields : List (List ℕ)) (p : Request × List (List ℕ)) → start_form known fields ≡ Ok p → IsFifth fields p.1
unfolding start_form
start_fifth known fields p e =
    let one = then_ok (field (id_field known) fields) _ p e in
    let two = then_ok (field (unit_field known) one.0.1) _ p one.2 in
    let three = then_ok (field part_field two.0.1) _ p two.2 in
    let four = then_ok (field (number_field 0 4294967295) three.0.1) _ p three.2 in
    let five = then_ok (field count_field four.0.1) _ p four.2 in
    let a = field_first (id_field known) fields one.0 one.1 in
    let b = field_first (unit_field known) one.0.1 two.0 two.1 in
    let c = field_first part_field two.0.1 three.0 three.1 in
    let d = field_first (number_field 0 4294967295) three.0.1 four.0 four.1 in
    let f = field_first count_field four.0.1 five.0 five.1 in
    let last : five.0.1 ≡ p.1 = ap (λ q. q.1) (same_Ok _ p five.2) in record {
      one = a.0;
      two = b.0;
      three = c.0;
      four = d.0;
      five = f.0;
      all = a.1 ∙ ap (λ ts. a.0 ∷ ts) (b.1 ∙ ap (λ ts. b.0 ∷ ts) (c.1 ∙ ap (λ ts. c.0 ∷ ts) (d.1 ∙ ap (λ ts. d.0 ∷ ts) (f.1 ∙ ap (λ ts. f.0 ∷ ts) last))));
    }

digits_are : (count : ℕ) (text a : List ℕ) → digits_field count text ≡ Ok a → text ≡ a
digits_are count text a e = at (length text == 1024 * count && list_all is_hex_digit text) e
  where
    at : (test : Bool) → (if test then Ok text else Err Data) ≡ Ok a → text ≡ a
    at true f = same_Ok text a f
    at false f = absurd (err-ok Data a f)

hex_carries : (count : ℕ) (fields : List (List ℕ)) (p : Content (List ℕ) × List (List ℕ)) → next (field (digits_field count)) (λ digits. gives (contents.Hex digits)) fields ≡ Ok p → CarriesIn (get_or fields 0 []) p.0
hex_carries count [] p e = absurd (err-ok Word p e)
hex_carries count (text ∷ fields) p e =
    let found = then_ok (field (digits_field count) (text ∷ fields)) _ p e in
    let read = then_ok (digits_field count text) (λ a. Ok (a, fields)) found.0 found.1 in
    let is : text ≡ found.0.0 = digits_are count text read.0 read.1 ∙ ap (λ q. q.0) (same_Ok (read.0, fields) found.0 read.2) in
    subst (CarriesIn text) (ap (λ q. q.0) (same_Ok (contents.Hex found.0.0, found.0.1) p found.2)) is

content_carries : (count : ℕ) (word : List ℕ) (fields : List (List ℕ)) (p : Content (List ℕ) × List (List ℕ)) → content_by count word fields ≡ Ok p → CarriesIn (get_or fields 0 []) p.0
content_carries count word fields p e = at (bytes_eq word (codes "fill")) (bytes_eq word (codes "seq")) (bytes_eq word (codes "hex")) refl refl refl e
  where
    fill : Form (Content (List ℕ))
    fill = next (field byte_field) (λ b. gives (contents.Fill b))

    at : (a b c : Bool) → bytes_eq word (codes "fill") ≡ a → bytes_eq word (codes "seq") ≡ b → bytes_eq word (codes "hex") ≡ c
        → (if a then next (field byte_field) (λ b. gives (contents.Fill b)) else if b then next (field seq_field) (λ n. gives (contents.Seq n)) else if c then next (field (digits_field count)) (λ digits. gives (contents.Hex digits)) else (λ _. Err Word)) fields ≡ Ok p → CarriesIn (get_or fields 0 []) p.0
    at true b c x y z f = gives_next (CarriesIn (get_or fields 0 [])) (field byte_field) (λ b. gives (contents.Fill b)) (λ b. gives_it (CarriesIn (get_or fields 0 [])) (contents.Fill b) tt) fields p.0 p.1 f
    at false true c x y z f = gives_next (CarriesIn (get_or fields 0 [])) (field seq_field) (λ n. gives (contents.Seq n)) (λ n. gives_it (CarriesIn (get_or fields 0 [])) (contents.Seq n) tt) fields p.0 p.1 f
    at false false true x y z f = hex_carries count fields p f
    at false false false x y z f = absurd (err-ok Word p f)

form_carries : (count : ℕ) (fields : List (List ℕ)) (p : Content (List ℕ) × List (List ℕ)) → content_form count fields ≡ Ok p → CarriesIn (get_or fields 1 []) p.0
unfolding content_form
form_carries count [] p e = absurd (err-ok Word p e)
form_carries count (word ∷ fields) p e = content_carries count word fields p e

write_carries : (known : Known) (fields : List (List ℕ)) (p : Said × List (List ℕ)) → write_form known fields ≡ Ok p → Carries (get_or fields 6 []) p.0
write_carries known fields p e =
    let start = then_ok (start_form known fields) _ p e in
    let content = then_ok (content_form start.0.0.count start.0.1) _ p start.2 in
    let tail = then_ok (tail_form start.0.0 content.0.1) _ p content.2 in
    let fifth = start_fifth known fields start.0 start.1 in
    let there : get_or start.0.1 1 [] ≡ get_or fields 6 [] = sym (ap (λ ts. get_or ts 6 []) fifth.all) in
    let carries : CarriesIn (get_or start.0.1 1 []) content.0.0 = form_carries start.0.0.count start.0.1 content.0 content.1 in
    subst (Carries (get_or fields 6 [])) (ap (λ q. q.0) (same_Ok (says.Write tail.0.0 content.0.0, tail.0.1) p tail.2)) (subst (λ d. CarriesIn d content.0.0) there carries)

-- WORDS. Only a write has digits.
abbrev Free : Said → Type 0
Free statement = (d : List ℕ) → Carries d statement

verb_carries : (known : Known) (verb : Verb) (fields : List (List ℕ)) (p : Said × List (List ℕ)) → form_of known verb fields ≡ Ok p → Carries (get_or fields 6 []) p.0
verb_carries known verbs.Unit fields p e =
    gives_next Free (field (new_unit_field known)) (λ u. next (field kind_field) (λ kind. gives (says.Unit u kind)))
    (λ u. gives_next Free (field kind_field) (λ kind. gives (says.Unit u kind)) (λ kind. gives_it Free (says.Unit u kind) (λ d. tt))) fields p.0 p.1 e (get_or fields 6 [])
verb_carries known verbs.Read fields p e =
    gives_next Free (start_form known) (λ start. next (tail_form start) (λ request. gives (says.Read request)))
    (λ start. gives_next Free (tail_form start) (λ request. gives (says.Read request)) (λ request. gives_it Free (says.Read request) (λ d. tt))) fields p.0 p.1 e (get_or fields 6 [])
verb_carries known verbs.Write fields p e = write_carries known fields p e
verb_carries known verbs.Arrive fields p e = gives_next Free (unit_number_form known) _ (λ u. gives_it Free (says.Arrive u) (λ d. tt)) fields p.0 p.1 e (get_or fields 6 [])
verb_carries known verbs.Turn fields p e =
    gives_next Free (field (unit_field known)) (λ u. next (field (number_field 0 (sectors_of u.1 - 1))) (λ sector. gives (says.Turn u.0 sector)))
    (λ u. gives_next Free (field (number_field 0 (sectors_of u.1 - 1))) (λ sector. gives (says.Turn u.0 sector)) (λ sector. gives_it Free (says.Turn u.0 sector) (λ d. tt))) fields p.0 p.1 e (get_or fields 6 [])
verb_carries known verbs.Move fields p e = gives_next Free adapter_form _ (λ a. gives_it Free (says.Move a) (λ d. tt)) fields p.0 p.1 e (get_or fields 6 [])
verb_carries known verbs.Attend fields p e = gives_next Free adapter_form _ (λ a. gives_it Free (says.Attend a) (λ d. tt)) fields p.0 p.1 e (get_or fields 6 [])
verb_carries known verbs.Noise fields p e =
    let block : ℕ × DriveKind → List ℕ → Result ℕ ScriptKind = λ u. number_field 0 (block_count u.1 - 1) in
    gives_next Free (field (unit_field known)) (λ u. next (field (block u)) (λ b. next span_form (λ span. next places_form (λ places. gives (says.Noise u.0 b span places)))))
    (λ u.
    gives_next Free (field (block u)) (λ b. next span_form (λ span. next places_form (λ places. gives (says.Noise u.0 b span places))))
    (λ b.
    gives_next Free span_form (λ span. next places_form (λ places. gives (says.Noise u.0 b span places)))
    (λ span. gives_next Free places_form (λ places. gives (says.Noise u.0 b span places)) (λ places. gives_it Free (says.Noise u.0 b span places) (λ d. tt))))) fields p.0 p.1 e (get_or fields 6 [])
verb_carries known verbs.Fault fields p e =
    gives_next Free (unit_number_form known) (λ u. next (field fault_field) (λ what. next (field (number_field 1 1000)) (λ times. gives (says.Fault u what times))))
    (λ u.
    gives_next Free (field fault_field) (λ what. next (field (number_field 1 1000)) (λ times. gives (says.Fault u what times)))
    (λ what. gives_next Free (field (number_field 1 1000)) (λ times. gives (says.Fault u what times)) (λ times. gives_it Free (says.Fault u what times) (λ d. tt)))) fields p.0 p.1 e (get_or fields 6 [])
verb_carries known verbs.Offline fields p e = gives_next Free (unit_number_form known) _ (λ u. gives_it Free (says.Offline u) (λ d. tt)) fields p.0 p.1 e (get_or fields 6 [])
verb_carries known verbs.Online fields p e = gives_next Free (unit_number_form known) _ (λ u. gives_it Free (says.Online u) (λ d. tt)) fields p.0 p.1 e (get_or fields 6 [])
verb_carries known verbs.Lock fields p e = gives_next Free (unit_number_form known) _ (λ u. gives_it Free (says.Lock u) (λ d. tt)) fields p.0 p.1 e (get_or fields 6 [])
verb_carries known verbs.Unlock fields p e = gives_next Free (unit_number_form known) _ (λ u. gives_it Free (says.Unlock u) (λ d. tt)) fields p.0 p.1 e (get_or fields 6 [])
verb_carries known verbs.Drain fields p e = gives_it Free says.Drain (λ d. tt) fields p.0 p.1 e (get_or fields 6 [])

-- in a script of the cache no write has digits
cached_carries : (known : Known) (verb : Verb) (fields : List (List ℕ)) (p : Said × List (List ℕ)) → cached_form known verb fields ≡ Ok p → Carries (get_or fields 6 []) p.0
cached_carries known verbs.Unit fields p e = verb_carries known verbs.Unit fields p e
cached_carries known verbs.Read fields p e = gives_next Free (blocks_form known) _ (λ r. gives_it Free (says.Read r) (λ d. tt)) fields p.0 p.1 e (get_or fields 6 [])
cached_carries known verbs.Write fields p e =
    gives_next Free (blocks_form known) _ (λ r. gives_next Free fill_form _ (λ b. gives_it Free (says.Write r (contents.Fill b)) (λ d. tt))) fields p.0 p.1 e (get_or fields 6 [])
cached_carries known verbs.Drain fields p e = verb_carries known verbs.Drain fields p e
cached_carries known other fields p e = absurd (err-ok Word p e)

form_carries_in : (dialect : Dialect) (known : Known) (verb : Verb) (fields : List (List ℕ)) (p : Said × List (List ℕ)) → form_in dialect known verb fields ≡ Ok p → Carries (get_or fields 6 []) p.0
form_carries_in Events known verb fields p e = verb_carries known verb fields p e
form_carries_in Cached known verb fields p e = cached_carries known verb fields p e

pub whole_ok : (p : Said × List (List ℕ)) (s : Said) → none_left p ≡ Ok s → p.0 ≡ s
whole_ok (a, []) s e = same_Ok a s e
whole_ok (a, text ∷ fields) s e = absurd (err-ok Word s e)

said_carries : (dialect : Dialect) (known : Known) (verb : Verb) (fields : List (List ℕ)) (s : Said) → said dialect known verb fields ≡ Ok s → Carries (get_or fields 6 []) s
said_carries dialect known verb fields s e =
    let few = unless_ok (too_late known verb) (whole (form_in dialect known verb) fields) s e in
    let found = then_ok (form_in dialect known verb fields) none_left s few in
    subst (Carries (get_or fields 6 [])) (whole_ok found.0 s found.2) (form_carries_in dialect known verb fields found.0 found.1)

pub same_Some : (x y : Said) → ◌≡◌ {A = Option Said} (Some x) (Some y) → x ≡ y
same_Some x y e = cc

pub none-some : (y : Said) → ◌≡◌ {A = Option Said} None (Some y) → ⊥
none-some y e = cc

entry_carries : (dialect : Dialect) (known : Known) (fields : List (List ℕ)) (s : Said) → entry dialect known fields ≡ Ok (Some s) → Carries (get_or fields 7 []) s
entry_carries dialect known [] s e = absurd (none-some s (same_Ok None (Some s) e))
entry_carries dialect known (word ∷ fields) s e =
    let verb = then_ok (some_or Word (named (word_of dialect) (verbs_of dialect) word)) _ (Some s) e in
    let found = then_ok (said dialect known verb.0 fields) (λ x. Ok (Some x)) (Some s) verb.2 in
    subst (Carries (get_or fields 6 [])) (same_Some found.0 s (same_Ok (Some found.0) (Some s) found.2)) (said_carries dialect known verb.0 fields found.0 found.1)

pub comment : (test : Bool) (x : Result (Option Said) ScriptKind) (s : Said) → (if test then Ok None else x) ≡ Ok (Some s) → x ≡ Ok (Some s)
comment true x s e = absurd (none-some s (same_Ok None (Some s) e))
comment false x s e = e

pub line_carries : (dialect : Dialect) (known : Known) (n : ℕ) (text : List ℕ) (s : Said) → line_says dialect known n text ≡ Ok (Some s) → Carries (get_or (pieces text) 7 []) s
line_carries dialect known n text s e =
    let early = if_err (nat_lt 1000000 n) TooMany _ (Some s) e in
    let short = if_err (nat_lt 140000 (length text)) LineLong _ (Some s) early in
    entry_carries dialect known (pieces text) s (comment (is_comment text) (entry dialect known (pieces text)) s short)
