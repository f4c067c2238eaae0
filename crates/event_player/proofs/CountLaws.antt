-- Laws of counts: the lines up to one of them, and how much all of them bring.
use Rattle.std.proofs.Common.{◌≡◌, ℕ, ◌+◌, ◌<◌, ◌≤◌, Bool, true, false, List, [], ◌∷◌, ◌++◌, length, map, drop, slice_index_or, refl, ap, ◌∙◌, arith, Option, Some, None}
use Rattle.std.specs.Prelude.{if◌then◌else◌, nat_le}
use Rattle.std.proofs.lemmas.Bool.{leb-false}
use Rattle.script_lines.specs.declared.kinds.ScriptKind.{ScriptKind}
use Rattle.script_lines.specs.declared.kinds.ScriptKind.TheVariants.{TooMany}
use Rattle.script_lines.specs.declared.statement.Statement.TheVariants as says
use Rattle.script_reader.specs.Formed.{IsWell, AreWell, learned}
use Rattle.script_lines.specs.Known.{Known, Said, Numbered}
use Rattle.script_reader.specs.Stored.{Kept, Stored, seen, lines_in}
use Rattle.script_reader.specs.Meaning.{statement_of, line_of, meaning_of}
use Rattle.script_reader.specs.Promises.{said_in}
use Rattle.trace_replay.specs.Script.{Statement, Line}
use Rattle.script_runs.proofs.LineLaws.{lines_before, lines_more, lines_parted}
use Rattle.event_player.specs.Playing.{counted, one_request, one_noise}

-- COUNTS of lines, and of more of them
counted-append : (one : Statement → ℕ) (xs ys : List Line) → counted one (xs ++ ys) ≡ counted one xs + counted one ys
counted-append one [] ys = omega arith
counted-append one (x ∷ xs) ys = let e = counted-append one xs ys in omega (arith, e)

counted_last : (one : Statement → ℕ) (xs : List Line) (x : Line) → counted one (xs ++ x ∷ []) ≡ counted one xs + one x.statement
counted_last one xs x = let e = counted-append one xs (x ∷ []) in omega (arith, e)

pub counted_more : (one : Statement → ℕ) (s : Stored) (i count more : ℕ) (line : Kept) → i < length s.lines → line ≡ slice_index_or s.lines i line
    → count ≡ counted one (lines_before s i) → more ≡ one (statement_of (seen s.text line).statement) → count + more ≡ counted one (lines_before s (i + 1))
counted_more one s i count more line lt is e f =
    let last = ap (counted one) (lines_more s i line lt is) ∙ counted_last one (lines_before s i) (line_of (seen s.text line)) in
    omega (arith, e, f, last)

counted_below : (one : Statement → ℕ) (s : Stored) (i : ℕ) → counted one (lines_before s i) ≤ counted one (meaning_of s).lines
counted_below one s i =
    let e = ap (counted one) (lines_parted s i) ∙ counted-append one (lines_before s i) (map line_of (map (seen s.text) (drop i s.lines))) in
    omega (arith, e)

-- HOW MANY there are at the most: no line is one too many
not_full : (t : Bool) → ◌≡◌ {A = Option ScriptKind} (if t then Some TooMany else None) None → t ≡ false
not_full true e = absurd (cc)
not_full false e = refl

few_requests : (known : Known) (s : Said) → IsWell known s → known.requests ≤ 65536
    → ((learned known s).requests ≡ known.requests + one_request (statement_of s)) × ((learned known s).requests ≤ 65536)
few_requests known (says.Read r) w few =
    let below : known.requests < 65536 = leb-false 65536 known.requests (not_full (nat_le 65536 known.requests) w.in_time) in (refl, omega (arith, below))
few_requests known (says.Write r content) w few =
    let below : known.requests < 65536 = leb-false 65536 known.requests (not_full (nat_le 65536 known.requests) w.in_time) in (refl, omega (arith, below))
few_requests known other w few = (refl, omega arith)

few_noises : (known : Known) (s : Said) → IsWell known s → known.noises ≤ 4096
    → ((learned known s).noises ≡ known.noises + one_noise (statement_of s)) × ((learned known s).noises ≤ 4096)
few_noises known (says.Noise u block span places) w few =
    let below : known.noises < 4096 = leb-false 4096 known.noises (not_full (nat_le 4096 known.noises) w.in_time) in (refl, omega (arith, below))
few_noises known other w few = (refl, omega arith)

requests_in : (known : Known) (lines : List Numbered) → AreWell known (said_in lines) → known.requests ≤ 65536
    → known.requests + counted one_request (map line_of lines) ≤ 65536
requests_in known [] w few = omega arith
requests_in known (line ∷ lines) w few =
    let step = few_requests known line.statement w.0 few in
    let is = step.0 in
    let rest = requests_in (learned known line.statement) lines w.1 step.1 in
    omega (arith, is, rest)

noises_in : (known : Known) (lines : List Numbered) → AreWell known (said_in lines) → known.noises ≤ 4096
    → known.noises + counted one_noise (map line_of lines) ≤ 4096
noises_in known [] w few = omega arith
noises_in known (line ∷ lines) w few =
    let step = few_noises known line.statement w.0 few in
    let is = step.0 in
    let rest = noises_in (learned known line.statement) lines w.1 step.1 in
    omega (arith, is, rest)

pub requests_few : (known : Known) (s : Stored) (i : ℕ) → known.requests ≡ 0 → AreWell known (said_in (lines_in s)) → counted one_request (lines_before s i) ≤ 65536
requests_few known s i none w =
    let all = requests_in known (lines_in s) w (omega (arith, none)) in
    let below = counted_below one_request s i in
    omega (arith, none, all, below)

pub noises_few : (known : Known) (s : Stored) (i : ℕ) → known.noises ≡ 0 → AreWell known (said_in (lines_in s)) → counted one_noise (lines_before s i) ≤ 4096
noises_few known s i none w =
    let all = noises_in known (lines_in s) w (omega (arith, none)) in
    let below = counted_below one_noise s i in
    omega (arith, none, all, below)
