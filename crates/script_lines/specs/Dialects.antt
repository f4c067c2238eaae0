-- The dialects of scripts: the words of each, and what the fields behind a word say in it.
use Rattle.std.specs.Prelude.{ℕ, if◌then◌else◌, List, [], ◌∷◌, codes, Result, Ok}
use Rattle.std.specs.Str.{bytes_eq}
use Rattle.partitions.specs.declared.Part.TheVariants.{C}
use Rattle.script_lines.specs.declared.dialect.Dialect.{Dialect}
use Rattle.script_lines.specs.declared.dialect.Dialect.TheVariants.{Events, Cached}
use Rattle.script_lines.specs.declared.kinds.ScriptKind.{ScriptKind}
use Rattle.script_lines.specs.declared.kinds.ScriptKind.TheVariants.{Word}
use Rattle.script_lines.specs.declared.statement.Content.TheVariants as contents
use Rattle.script_lines.specs.declared.statement.Request.{Request}
use Rattle.script_lines.specs.declared.statement.Statement.TheVariants as says
use Rattle.script_lines.specs.declared.verbs.Verb.{Verb}
use Rattle.script_lines.specs.declared.verbs.Verb.TheVariants as verbs
use Rattle.script_lines.specs.Fields.{number_field, count_field, byte_field}
use Rattle.script_lines.specs.Forms.{Form, gives, fails, next, field, unit_form, form_of, whole, too_late, unless}
use Rattle.script_lines.specs.Known.{Known, Said, unit_field}
use Rattle.script_lines.specs.Words.{verb_word, event_verbs}

-- THE WORDS. In a script of the cache a drain is called `sync`
abbrev pub cached_word : Verb → List ℕ
cached_word verbs.Drain = codes "sync"
cached_word verb = verb_word verb

abbrev pub cached_verbs : List Verb
cached_verbs = verbs.Unit ∷ verbs.Read ∷ verbs.Write ∷ verbs.Drain ∷ []

abbrev pub word_of : Dialect → Verb → List ℕ
word_of Events = verb_word
word_of Cached = cached_word

abbrev pub verbs_of : Dialect → List Verb
verbs_of Events = event_verbs
verbs_of Cached = cached_verbs

-- THE FORMS of the cache. `ID U BLOCK COUNT`, of whole blocks of partition `c`; an id may come again
unfoldable pub blocks_form : Known → Form Request
blocks_form known =
    next (field (number_field 0 4294967295)) (λ id.
    next (field (unit_field known)) (λ unit_kind.
    next (field (number_field 0 4294967295)) (λ block.
    next (field count_field) (λ count.
    gives (record { id = id; unit = unit_kind.0; part = C; block = block; count = count; offset = 0; last = 512 })))))

-- `fill HH`
abbrev pub fill_by : List ℕ → Form ℕ
fill_by word = if bytes_eq word (codes "fill") then field byte_field else fails Word

unfoldable pub fill_form : Form ℕ
fill_form = next (field (λ text. Ok text)) (λ word. fill_by word)

abbrev pub cached_read_form : Known → Form Said
cached_read_form known = next (blocks_form known) (λ request. gives (says.Read request))

abbrev pub cached_write_form : Known → Form Said
cached_write_form known = next (blocks_form known) (λ request. next fill_form (λ b. gives (says.Write request (contents.Fill b))))

abbrev pub cached_form : Known → Verb → Form Said
cached_form known verbs.Unit = unit_form known
cached_form known verbs.Read = cached_read_form known
cached_form known verbs.Write = cached_write_form known
cached_form known verbs.Drain = gives says.Drain
cached_form known verb = fails Word

-- WHOLE LINES. What the fields behind a word say
abbrev pub form_in : Dialect → Known → Verb → Form Said
form_in Events = form_of
form_in Cached = cached_form

-- what a line with this word says
abbrev pub said : Dialect → Known → Verb → List (List ℕ) → Result Said ScriptKind
said dialect known verb fields = unless (too_late known verb) (whole (form_in dialect known verb) fields)
