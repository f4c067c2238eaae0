-- The drive that a line declares, as the line is stored.
use Rattle.std.proofs.Common.{◌≡◌, ℕ, zero, suc, ◌<◌, List, [], ◌∷◌, length, map, Option, None, refl, sym, ap, ◌∙◌, arith}
use Rattle.std.specs.Prelude.{slice_index_or, Box}
use Rattle.std.specs.Box.{box_value}
use Rattle.std.specs.declared.alloc.Global.{Global}
use Rattle.pack_geometry.specs.declared.DriveKind.{DriveKind}
use Rattle.script_lines.specs.declared.statement.Span.{Span}
use Rattle.script_lines.specs.declared.statement.Statement.{Statement as Said}
use Rattle.script_lines.specs.declared.statement.Statement.TheVariants as says
use Rattle.script_lines.specs.Renamed.{renamed}
use Rattle.script_reader.specs.Meaning.{line_of, statement_of}
use Rattle.script_reader.specs.Stored.{Kept, digits_at, seen}
use Rattle.script_reader.specs.cached.Meaning as cached
use Rattle.script_reader.specs.declared.cached.statement.Line.{Line as Narrow}
use Rattle.script_reader.specs.declared.cached.statement.Statement.{Statement as NarrowSaid}
use Rattle.script_reader.specs.declared.cached.statement.Statement.TheVariants as narrow
use Rattle.script_runs.specs.Attaching.{drive_at, drive_in}

-- ---- of a script of the cache
drive_cached : (xs : List Narrow) (i : ℕ) (d : Narrow) → i < length (map cached.line_of xs) → drive_at (map cached.line_of xs) i ≡ drive_in (cached.statement_of (slice_index_or xs i d).statement)
drive_cached [] i d lt = absurd (omega (arith, lt))
drive_cached (x ∷ xs) zero d lt = refl
drive_cached (x ∷ xs) (suc i) d lt = drive_cached xs i d (omega (arith, lt))

pub cached_here : {ys xs : List Narrow} {i : ℕ} {drive : Option (ℕ × DriveKind)} (d : Narrow) → ys ≡ xs → i < length (map cached.line_of xs) → drive_in (cached.statement_of (slice_index_or ys i d).statement) ≡ drive
    → drive ≡ drive_at (map cached.line_of xs) i
cached_here {ys} {xs} {i} d same lt is = sym (drive_cached xs i d lt ∙ ap (λ (zs : List Narrow). drive_in (cached.statement_of (slice_index_or zs i d).statement)) (sym same) ∙ is)

pub cached_none : (st : NarrowSaid) → ((u : ℕ) (kind : DriveKind) → st ≡ narrow.Unit u kind → ⊥) → drive_in (cached.statement_of st) ≡ None
cached_none (narrow.Unit u kind) other = absurd (other u kind refl)
cached_none (narrow.Read a) other = refl
cached_none (narrow.Write a fill) other = refl
cached_none narrow.Sync other = refl

-- ---- of any other
drive_stored : (text : List ℕ) (xs : List Kept) (i : ℕ) (d : Kept) → i < length (map line_of (map (seen text) xs)) → drive_at (map line_of (map (seen text) xs)) i ≡ drive_in (statement_of (seen text (slice_index_or xs i d)).statement)
drive_stored text [] i d lt = absurd (omega (arith, lt))
drive_stored text (x ∷ xs) zero d lt = refl
drive_stored text (x ∷ xs) (suc i) d lt = drive_stored text xs i d (omega (arith, lt))

pub stored_here : (text : List ℕ) {ys xs : List Kept} {i : ℕ} {drive : Option (ℕ × DriveKind)} (d : Kept) → ys ≡ xs → i < length (map line_of (map (seen text) xs))
    → drive_in (statement_of (renamed (digits_at text) box_value (slice_index_or ys i d).statement)) ≡ drive → drive ≡ drive_at (map line_of (map (seen text) xs)) i
stored_here text {ys} {xs} {i} d same lt is =
    sym (drive_stored text xs i d lt ∙ ap (λ (zs : List Kept). drive_in (statement_of (seen text (slice_index_or zs i d)).statement)) (sym same) ∙ is)

pub stored_none : (text : List ℕ) (st : Said Span (Box (List ℕ) Global)) → ((u : ℕ) (kind : DriveKind) → st ≡ says.Unit u kind → ⊥) → drive_in (statement_of (renamed (digits_at text) box_value st)) ≡ None
stored_none text (says.Unit u kind) other = absurd (other u kind refl)
stored_none text st other = refl
