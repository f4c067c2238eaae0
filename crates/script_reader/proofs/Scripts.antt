-- Well-formed lines mean a script.
use Rattle.std.proofs.Common.{◌≡◌, ℕ, ◌+◌, ◌-◌, ◌*◌, ◌≤◌, Bool, true, false, List, [], ◌∷◌, length, map, take, refl, sym, ap, subst, ◌∙◌, arith, Option, None, Some}
use Rattle.std.specs.Prelude.{if◌then◌else◌, ◌||◌, ◌&&◌, ◌==◌, not, is_some}
use Rattle.std.specs.List.{list_any, All}
use Rattle.std.proofs.lemmas.Bool.{eqb-true, eq-eqb, or_from, or_left, or_right}
use Rattle.std.proofs.lemmas.List.{length-take}
use Rattle.std.proofs.lemmas.List.Elements.{All-nil, All-cons}
use Rattle.pack_geometry.specs.declared.DriveKind.{DriveKind}
use Rattle.hardware_table.specs.declared.NoiseSpan.{NoiseSpan}
use Rattle.hardware_table.specs.declared.NoiseSpan.TheVariants.{Times, Until}
use Rattle.script_lines.specs.declared.kinds.ScriptKind.TheVariants.{LateUnit}
use Rattle.script_lines.specs.declared.statement.Content.{Content}
use Rattle.script_lines.specs.declared.statement.Request.{Request as Asked}
use Rattle.script_lines.specs.declared.statement.Statement.TheVariants as says
use Rattle.script_lines.specs.declared.verbs.Verb.TheVariants as verbs
use Rattle.script_reader.specs.Formed.{IsAsked, IsWritten, IsSpan as IsSpanSaid, IsInRange, IsWell, AreWell, learned}
use Rattle.script_lines.specs.Forms.{too_late}
use Rattle.script_lines.specs.Known.{Known, Said, Numbered, verb_of, kind_after, has_id, known_of, is_full, declares as is_unit}
use Rattle.script_reader.specs.Stored.{lines_in}
use Rattle.script_lines.specs.Words.{all_verbs}
use Rattle.script_reader.proofs.WellLaws.{spelled_well}
use Rattle.trace_replay.specs.requests.Requests.{IsRequest}
use Rattle.script_lines.specs.Script.{Line, declares, IsPlayed, ArePlays, IsFirst, AreUnitsFirst, with_id, ids_of, AreApart, IsThere, IsSpan, IsStatement, drives_in, drives_of, declared_by}
use Rattle.script_reader.specs.Meaning.{size_of, bytes_of, written_of, request_of, statement_of, line_of, meaning}
use Rattle.script_reader.specs.Promises.{said_in, MeansScript, ReadMeansScript}
use Rattle.script_reader.proofs.Bytes.{content_length}
use Rattle.script_reader.proofs.Numbers.{spelled_numbered}

-- TESTS
not_both : (t u : Bool) → t ≡ false → u ≡ true → t ≡ u → ⊥
not_both true u e f g = absurd (cc)
not_both false true e f g = absurd (cc)
not_both false false e f g = absurd (cc)

-- numbers of which one passes a test and the other does not are two
apart : (test : ℕ → Bool) (a b : ℕ) → test a ≡ false → test b ≡ true → (a == b) ≡ false
apart test a b fails passes = at (a == b) refl
  where
    at : (t : Bool) → (a == b) ≡ t → t ≡ false
    at true e = absurd (not_both (test a) (test b) fails passes (ap test (eqb-true a b e)))
    at false e = refl

pub same_number : (n : ℕ) → (n == n) ≡ true
same_number n = eq-eqb n n refl

-- which of two numbers comes first in a test does not matter
either_way : (a b : ℕ) → (a == b) ≡ (b == a)
either_way a b = at (a == b) (b == a) refl refl
  where
    at : (t u : Bool) → (a == b) ≡ t → (b == a) ≡ u → t ≡ u
    at true true e f = refl
    at false false e f = refl
    at true false e f = let g : b ≡ a = sym (eqb-true a b e) in sym (eq-eqb b a g) ∙ f
    at false true e f = let g : a ≡ b = sym (eqb-true b a f) in sym e ∙ eq-eqb a b g

-- IDS: one that was used is used no more
with_id_new : (known : Known) (id : ℕ) (s : Said) (ids : List ℕ) → IsInRange known s → known.used id ≡ true → list_any (λ other. other == id) ids ≡ false → list_any (λ other. other == id) (with_id (statement_of s) ids) ≡ false
with_id_new known id (says.Read r) ids w used new = or_from (r.id == id) (list_any (λ other. other == id) ids) (apart known.used r.id id w.new used) new
with_id_new known id (says.Write r content) ids w used new = let a = w.0 in or_from (r.id == id) (list_any (λ other. other == id) ids) (apart known.used r.id id a.new used) new
with_id_new known id it ids w used new = new

ids_new : (known : Known) (id : ℕ) (rest : List Numbered) → AreWell known (said_in rest) → known.used id ≡ true → list_any (λ other. other == id) (ids_of (map line_of rest)) ≡ false
ids_new known id [] w used = refl
ids_new known id (line ∷ rest) w used =
    with_id_new known id line.statement (ids_of (map line_of rest)) w.0.in_range used
    (ids_new (learned known line.statement) id rest w.1 (or_left (known.used id) (has_id id line.statement) used))

with_id_apart : (s : Said) (ids : List ℕ) → ((id : ℕ) → has_id id s ≡ true → list_any (λ other. other == id) ids ≡ false) → AreApart ids → AreApart (with_id (statement_of s) ids)
with_id_apart (says.Read r) ids new a = (new r.id (same_number r.id), a)
with_id_apart (says.Write r content) ids new a = (new r.id (same_number r.id), a)
with_id_apart it ids new a = a

ids_apart : (known : Known) (rest : List Numbered) → AreWell known (said_in rest) → AreApart (ids_of (map line_of rest))
ids_apart known [] w = tt
ids_apart known (line ∷ rest) w =
    let s = line.statement in
    with_id_apart s (ids_of (map line_of rest))
    (λ id has. ids_new (learned known s) id rest w.1 (ap (λ (b : Bool). known.used id || b) has ∙ or_right (known.used id) true refl))
    (ids_apart (learned known s) rest w.1)

-- DRIVES: a unit that was declared is declared no more
none_some : (o : Option DriveKind) → o ≡ None → is_some o ≡ false
none_some o e = ap (λ (p : Option DriveKind). is_some p) e

declares_new : (known : Known) (u : ℕ) (s : Said) → IsInRange known s → is_some (known.kinds u) ≡ true → declares u (statement_of s) ≡ false
declares_new known u (says.Unit v kind) w there = apart (λ n. is_some (known.kinds n)) v u (none_some (known.kinds v) w.1) there
declares_new known u other w there = refl

some_either : (t : Bool) (kind : DriveKind) (o : Option DriveKind) → is_some o ≡ true → is_some (if t then Some kind else o) ≡ true
some_either true kind o e = refl
some_either false kind o e = e

still_there : (u : ℕ) (s : Said) (o : Option DriveKind) → is_some o ≡ true → is_some (kind_after u s o) ≡ true
still_there u (says.Unit v kind) o e = some_either (v == u) kind o e
still_there u other o e = e

no_more : (known : Known) (u : ℕ) (rest : List Numbered) → AreWell known (said_in rest) → is_some (known.kinds u) ≡ true → list_any (λ (line : Line). declares u line.statement) (map line_of rest) ≡ false
no_more known u [] w there = refl
no_more known u (line ∷ rest) w there =
    or_from (declares u (statement_of line.statement)) (list_any (λ (l : Line). declares u l.statement) (map line_of rest)) (declares_new known u line.statement w.0.in_range there)
    (no_more (learned known line.statement) u rest w.1 (still_there u line.statement (known.kinds u) there))

-- and none is declared behind a line that is played
late-none : (known : Known) → known.later ≡ true → too_late known verbs.Unit ≡ None → ⊥
late-none known later e = at known.later later e
  where
    at : (t : Bool) → t ≡ true → (if true && t then Some LateUnit else if is_full known verbs.Unit then Some LateUnit else None) ≡ None → ⊥
    at true l f = cc
    at false l f = cc

is_played : (known : Known) (s : Said) → known.later ≡ true → IsWell known s → IsPlayed (statement_of s)
is_played known (says.Unit u kind) later w = late-none known later w.in_time
is_played known other later w = tt

are_plays : (known : Known) (rest : List Numbered) → known.later ≡ true → AreWell known (said_in rest) → ArePlays (map line_of rest)
are_plays known [] later w = tt
are_plays known (line ∷ rest) later w =
    (is_played known line.statement later w.0, are_plays (learned known line.statement) rest (or_left known.later (not (is_unit (verb_of line.statement))) later) w.1)

first_or : (s : Said) (lines : List Line) → (is_unit (verb_of s) ≡ false → ArePlays lines) → ((u : ℕ) (kind : DriveKind) → s ≡ says.Unit u kind → IsFirst (statement_of s) lines) → IsFirst (statement_of s) lines
first_or (says.Unit u kind) lines plays unit_first = unit_first u kind refl
first_or other lines plays unit_first = plays refl

chosen : (t : Bool) (kind : DriveKind) (o : Option DriveKind) → t ≡ true → is_some (if t then Some kind else o) ≡ true
chosen true kind o e = refl
chosen false kind o e = absurd (cc)

unit_first : (known : Known) (u : ℕ) (kind : DriveKind) (rest : List Numbered) → IsInRange known (says.Unit u kind) → AreWell (learned known (says.Unit u kind)) (said_in rest) → IsFirst (statement_of (says.Unit u kind)) (map line_of rest)
unit_first known u kind rest w ws =
    let low = w.0 in (omega (arith, low), no_more (learned known (says.Unit u kind)) u rest ws (chosen (u == u) kind (known.kinds u) (same_number u)))

units_first : (known : Known) (rest : List Numbered) → AreWell known (said_in rest) → AreUnitsFirst (map line_of rest)
units_first known [] w = tt
units_first known (line ∷ rest) w =
    let s = line.statement in (
      first_or s (map line_of rest)
          (λ e. are_plays (learned known s) rest (ap (λ (b : Bool). known.later || not b) e ∙ or_right known.later true refl) w.1)
          (λ u kind e.
          subst (λ (t : Said). IsFirst (statement_of t) (map line_of rest)) (sym e)
          (unit_first known u kind rest (subst (λ (t : Said). IsInRange known t) e w.0.in_range) (subst (λ (t : Said). AreWell (learned known t) (said_in rest)) e w.1))),
      units_first (learned known s) rest w.1,
    )

-- WHAT IS KNOWN of drives, with what the lines behind declare, is what the script declares
abbrev pub first_known : Option DriveKind → Option DriveKind → Option DriveKind
first_known (Some kind) behind = Some kind
first_known None behind = behind

abbrev pub Agrees : (ℕ → Option DriveKind) → Known → List Numbered → Type 0
Agrees drives known rest = (u : ℕ) → drives u ≡ first_known (known.kinds u) (drives_in (map line_of rest) u)

declared_first : (t u : Bool) (kind : DriveKind) (before behind : Option DriveKind) → t ≡ u → (u ≡ true → before ≡ None) → first_known before (if t then Some kind else behind) ≡ first_known (if u then Some kind else before) behind
declared_first true true kind before behind e f = ap (λ (o : Option DriveKind). first_known o (Some kind)) (f refl)
declared_first false false kind before behind e f = refl
declared_first true false kind before behind e f = absurd (cc)
declared_first false true kind before behind e f = absurd (cc)

known_next : (known : Known) (u : ℕ) (s : Said) (behind : Option DriveKind) → IsInRange known s → first_known (known.kinds u) (declared_by (statement_of s) u behind) ≡ first_known (kind_after u s (known.kinds u)) behind
known_next known u (says.Unit v kind) behind w =
    declared_first (u == v) (v == u) kind (known.kinds u) behind (either_way u v) (λ e. subst (λ (n : ℕ). known.kinds n ≡ None) (eqb-true v u e) w.1)
known_next known u other behind w = refl

pub agrees_next : (drives : ℕ → Option DriveKind) (known : Known) (line : Numbered) (rest : List Numbered) → IsInRange known line.statement → Agrees drives known (line ∷ rest) → Agrees drives (learned known line.statement) rest
agrees_next drives known line rest w a u = a u ∙ known_next known u line.statement (drives_in (map line_of rest) u) w

pub drive_is : (drives : ℕ → Option DriveKind) (known : Known) (rest : List Numbered) (u : ℕ) (kind : DriveKind) → Agrees drives known rest → known.kinds u ≡ Some kind → drives u ≡ Some kind
drive_is drives known rest u kind a e = a u ∙ ap (λ (o : Option DriveKind). first_known o (drives_in (map line_of rest) u)) e

-- INPUTS speak of units that are there
there : (o : Option DriveKind) (kind : DriveKind) (P : DriveKind → Type 0) → o ≡ Some kind → P kind → IsThere o P
there o kind P e p = subst (λ (q : Option DriveKind). IsThere q P) (sym e) p

in_span : (span : NoiseSpan) → IsSpanSaid span → IsSpan span
in_span (Times n) s = s
in_span (Until code) s = s

below_all : (n count last : ℕ) → 1 ≤ count → last ≤ 512 → n ≡ 512 * count → 512 * (count - 1) + last ≤ n
below_all n count last some low e = omega (arith, some, low, e)

taken : (bytes : List ℕ) (n : ℕ) → n ≤ length bytes → length (take n bytes) ≡ n
taken bytes n le = length-take n bytes ∙ omega (arith, le)

written_length : (known : Known) (r : Asked) (content : Content (List ℕ)) → IsAsked known r → IsWritten r.count content → length (written_of r content) ≡ size_of r
written_length known r content a w = taken (bytes_of content (512 * r.count)) (size_of r) (below_all (length (bytes_of content (512 * r.count))) r.count r.last a.some a.last (content_length content r.count w))

same_some : (a b : List ℕ) → ◌≡◌ {A = Option (List ℕ)} (Some a) (Some b) → a ≡ b
same_some a b e = cc

none-some : (b : List ℕ) → ◌≡◌ {A = Option (List ℕ)} None (Some b) → ⊥
none-some b e = cc

read_request : (known : Known) (r : Asked) → IsAsked known r → IsRequest (request_of r None)
read_request known r a = record {
  some = a.some;
  few = a.count;
  ends = a.byte;
  in_block = a.last;
  in_frame = let low = a.offset in omega (arith, low);
  exact = λ bytes e. absurd (none-some bytes e);
}

write_request : (known : Known) (r : Asked) (content : Content (List ℕ)) → IsAsked known r → IsWritten r.count content → IsRequest (request_of r (Some (written_of r content)))
write_request known r content a w = record {
  some = a.some;
  few = a.count;
  ends = a.byte;
  in_block = a.last;
  in_frame = let low = a.offset in omega (arith, low);
  exact = λ bytes e. subst (λ (bs : List ℕ). length bs ≡ size_of r) (same_some (written_of r content) bytes e) (written_length known r content a w);
}

is_statement : (drives : ℕ → Option DriveKind) (known : Known) → ((u : ℕ) (kind : DriveKind) → known.kinds u ≡ Some kind → drives u ≡ Some kind) → (s : Said) → IsInRange known s → IsStatement drives (statement_of s)
is_statement drives known is (says.Read r) w =
    let d = w.declared in there (drives r.unit) d.0 (λ kind. IsRequest (request_of r None)) (is r.unit d.0 d.1.1) (read_request known r w)
is_statement drives known is (says.Write r content) w =
    let a = w.0 in let d = a.declared in there (drives r.unit) d.0 (λ kind. IsRequest (request_of r (Some (written_of r content)))) (is r.unit d.0 d.1.1) (write_request known r content a w.1)
is_statement drives known is (says.Arrive u) w = there (drives u) w.0 (λ kind. Unit {0}) (is u w.0 w.1.1) tt
is_statement drives known is (says.Turn u sector) w = there (drives u) w.0 _ (is u w.0 w.1.1) w.2
is_statement drives known is (says.Move a) w = omega (arith, w)
is_statement drives known is (says.Attend a) w = omega (arith, w)
is_statement drives known is (says.Noise u block span places) w = there (drives u) w.kind _ (is u w.kind w.drive.1) (w.inside, w.noise, in_span span w.spans)
is_statement drives known is (says.Fault u what times) w = let d = w.0 in there (drives u) d.0 _ (is u d.0 d.1.1) w.1
is_statement drives known is (says.Offline u) w = there (drives u) w.0 (λ kind. Unit {0}) (is u w.0 w.1.1) tt
is_statement drives known is (says.Online u) w = there (drives u) w.0 (λ kind. Unit {0}) (is u w.0 w.1.1) tt
is_statement drives known is (says.Lock u) w = there (drives u) w.0 (λ kind. Unit {0}) (is u w.0 w.1.1) tt
is_statement drives known is (says.Unlock u) w = there (drives u) w.0 (λ kind. Unit {0}) (is u w.0 w.1.1) tt
is_statement drives known is other w = tt

are_statements : (drives : ℕ → Option DriveKind) (known : Known) (rest : List Numbered) → AreWell known (said_in rest) → Agrees drives known rest → All (λ (line : Line). IsStatement drives line.statement) (map line_of rest)
are_statements drives known [] w a = All-nil (λ (line : Line). IsStatement drives line.statement)
are_statements drives known (line ∷ rest) w a =
    All-cons (λ (l : Line). IsStatement drives l.statement) (line_of line) (map line_of rest)
    (is_statement drives known (λ u kind e. drive_is drives known (line ∷ rest) u kind a e) line.statement w.0.in_range)
    (are_statements drives (learned known line.statement) rest w.1 (agrees_next drives known line rest w.0.in_range a))

-- THE WHOLE SCRIPT
abbrev pub nothing_known : Known
nothing_known = known_of {D = List ℕ} {N = List ℕ} []

pub means_script : MeansScript
means_script bytes lines count s =
    let w = spelled_well all_verbs bytes lines count s in record {
      numbers = spelled_numbered all_verbs bytes lines count s;
      units = units_first nothing_known lines w;
      ids = ids_apart nothing_known lines w;
      inputs = are_statements (drives_of (meaning lines count)) nothing_known lines w (λ u. refl);
    }

pub means_read : ReadMeansScript
means_read bytes script s = means_script bytes (lines_in script) script.count s
