-- The drives of a script are those of its `unit` lines; and what is said alike means the same.
use Rattle.std.proofs.Common.{◌≡◌, ◌⊎◌, inl, inr, ℕ, Bool, true, false, List, [], ◌∷◌, map, refl, sym, ap, subst, ◌∙◌, Option, None, Some}
use Rattle.std.specs.Prelude.{◌==◌, if◌then◌else◌, Contains}
use Rattle.std.specs.List.{All}
use Rattle.std.proofs.lemmas.Bool.{eqb-true}
use Rattle.std.proofs.lemmas.List.Elements.{All-nil, All-cons, All-contains, Contains-append_left, Contains-append_right, Contains-push}
use Rattle.pack_geometry.specs.declared.DriveKind.{DriveKind}
use Rattle.script_lines.specs.declared.statement.Statement.TheVariants as says
use Rattle.script_reader.specs.Formed.{AreWell, learned}
use Rattle.script_lines.specs.Known.{Known, Said, Numbered}
use Rattle.script_lines.specs.Words.{all_verbs}
use Rattle.script_reader.proofs.WellLaws.{spelled_well}
use Rattle.script_lines.specs.Script.{Statement, declared_by, drives_in, drives_of}
use Rattle.script_reader.specs.Meaning.{statement_of, line_of, meaning}
use Rattle.script_reader.specs.Promises.{said_in, statements_in, DeclaresUnits, MeansTheSame}
use Rattle.script_reader.proofs.Scripts.{Agrees, agrees_next, drive_is, nothing_known, same_number}

-- A DRIVE THAT IS DECLARED has its line
chosen_is : (u v : ℕ) (kind other : DriveKind) (behind : Option DriveKind) → (if u == v then Some other else behind) ≡ Some kind → (◌≡◌ {A = Said} (says.Unit v other) (says.Unit u kind)) ⊎ (behind ≡ Some kind)
chosen_is u v kind other behind e = at (u == v) refl e
  where
    same_kind : (a b : DriveKind) → ◌≡◌ {A = Option DriveKind} (Some a) (Some b) → a ≡ b
    same_kind a b f = cc

    at : (t : Bool) → (u == v) ≡ t → (if t then Some other else behind) ≡ Some kind → (◌≡◌ {A = Said} (says.Unit v other) (says.Unit u kind)) ⊎ (behind ≡ Some kind)
    at true t f = inl (ap (λ (n : ℕ). says.Unit n other) (sym (eqb-true u v t)) ∙ ap (λ (k : DriveKind). says.Unit u k) (same_kind other kind f))
    at false t f = inr f

declared_is : (u : ℕ) (kind : DriveKind) (s : Said) (behind : Option DriveKind) → declared_by (statement_of s) u behind ≡ Some kind → (s ≡ says.Unit u kind) ⊎ (behind ≡ Some kind)
declared_is u kind (says.Unit v other) behind e = chosen_is u v kind other behind e
declared_is u kind it behind e = inr e

has_line : (u : ℕ) (kind : DriveKind) (lines : List Numbered) → drives_in (map line_of lines) u ≡ Some kind → Contains (said_in lines) (says.Unit u kind)
has_line u kind [] e = absurd (cc)
has_line u kind (line ∷ lines) e = at (declared_is u kind line.statement (drives_in (map line_of lines) u) e) (λ f. has_line u kind lines f)
  where
    at : (line.statement ≡ says.Unit u kind) ⊎ (drives_in (map line_of lines) u ≡ Some kind) → (drives_in (map line_of lines) u ≡ Some kind → Contains (said_in lines) (says.Unit u kind)) → Contains (said_in (line ∷ lines)) (says.Unit u kind)
    at (inl f) behind = subst (λ (s : Said). Contains (line.statement ∷ said_in lines) s) f (Contains-append_left (line.statement ∷ []) (said_in lines) line.statement (Contains-push [] line.statement))
    at (inr f) behind = Contains-append_right (line.statement ∷ []) (said_in lines) (says.Unit u kind) (behind f)

-- A LINE that declares a drive is the only one of its unit
abbrev pub IsDrive : (ℕ → Option DriveKind) → Said → Type 0
IsDrive drives s = (u : ℕ) (kind : DriveKind) → s ≡ says.Unit u kind → drives u ≡ Some kind

its_kind : (t : Bool) (kind : DriveKind) (before : Option DriveKind) → t ≡ true → (if t then Some kind else before) ≡ Some kind
its_kind true kind before e = refl
its_kind false kind before e = absurd (cc)

kind_known : (known : Known) (u : ℕ) (kind : DriveKind) (s : Said) → s ≡ says.Unit u kind → (learned known s).kinds u ≡ Some kind
kind_known known u kind s e =
    subst (λ (t : Said). (learned known t).kinds u ≡ Some kind) (sym e) (its_kind (u == u) kind (known.kinds u) (same_number u))

are_drives : (drives : ℕ → Option DriveKind) (known : Known) (rest : List Numbered) → AreWell known (said_in rest) → Agrees drives known rest → All (IsDrive drives) (said_in rest)
are_drives drives known [] w a = All-nil (IsDrive drives)
are_drives drives known (line ∷ rest) w a =
    let next = agrees_next drives known line rest w.0.in_range a in
    All-cons (IsDrive drives) line.statement (said_in rest)
    (λ u kind e. drive_is drives (learned known line.statement) rest u kind next (kind_known known u kind line.statement e))
    (are_drives drives (learned known line.statement) rest w.1 next)

pub declares_units : DeclaresUnits
declares_units bytes lines count s u kind = (
  has_line u kind lines,
  λ c. All-contains (IsDrive (drives_of (meaning lines count))) (said_in lines) (says.Unit u kind)
      (are_drives (drives_of (meaning lines count)) nothing_known lines (spelled_well all_verbs bytes lines count s) (λ v. refl)) c u kind refl,
)

-- WHAT IS SAID ALIKE means the same
statements_are : (lines : List Numbered) (count : ℕ) → statements_in (meaning lines count) ≡ map statement_of (said_in lines)
statements_are [] count = refl
statements_are (line ∷ lines) count = ap (λ (rest : List Statement). statement_of line.statement ∷ rest) (statements_are lines count)

drives_said : List Said → ℕ → Option DriveKind
drives_said [] u = None
drives_said (s ∷ rest) u = declared_by (statement_of s) u (drives_said rest u)

drives_are : (lines : List Numbered) (count u : ℕ) → drives_of (meaning lines count) u ≡ drives_said (said_in lines) u
unfolding drives_said
drives_are [] count u = refl
drives_are (line ∷ lines) count u = ap (λ (o : Option DriveKind). declared_by (statement_of line.statement) u o) (drives_are lines count u)

pub means_the_same : MeansTheSame
means_the_same lines others count other e = (
  statements_are lines count ∙ ap (map statement_of) e ∙ sym (statements_are others other),
  λ u. drives_are lines count u ∙ ap (λ (ss : List Said). drives_said ss u) e ∙ sym (drives_are others other u),
)
