-- Before the first moment of a run.
use Rattle.std.proofs.Common.{◌≡◌, ℕ, zero, suc, ◌<◌, ◌==◌, Bool, true, false, cond, List, [], ◌∷◌, length, fold, replicate, Option, Some, None, inl, inr, refl, sym, ap, ◌∙◌, subst, arith}
use Rattle.std.specs.Prelude.{if◌then◌else◌, ◌||◌}
use Rattle.std.specs.List.{list_any}
use Rattle.std.proofs.lemmas.Bool.Decides.{nat_tests, eqb_tells}
use Rattle.drive_pictures.specs.declared.drives.Drive.{Drive}
use Rattle.drive_pictures.specs.declared.trials.Trial.{Trial}
use Rattle.drive_pictures.specs.Drives.{new_drive}
use Rattle.pack_geometry.specs.declared.DriveKind.{DriveKind}
use Rattle.run_view.proofs.answers.Drives.{set_here, set_other, set_length, keeps_set}
use Rattle.run_picture.specs.declared.columns.Window.{Window}
use Rattle.run_picture.specs.Fold.{Known, new_known, declared, drive_at}
use Rattle.trace_replay.specs.Script.{Script, IsScript, Line, Statement, Declares, Plays, drives_in, drives_of, AreUnitsFirst, IsFirst}
use Rattle.trace_replay.specs.Script as script
use Rattle.run_view.proofs.answers.Hears.{declares, declared_by, known_of}

-- no line of a request was told yet
pub record IsIdle (trial : Trial) : Type 0 where
  pub hand : trial.hand ≡ None
  pub want : trial.want ≡ 0
  pub fails : trial.fails ≡ 0
  pub marks : trial.marks ≡ 0

-- BEFORE THE FIRST MOMENT, with these drives declared
pub record IsDeclared (drives : ℕ → Option DriveKind) (known : Known) : Type 0 where
  pub many : length known.drives ≡ 32
  pub kinds : (u : ℕ) → (drive_at known.drives u).kind ≡ drives u
  pub idle : (u : ℕ) → IsIdle (drive_at known.drives u).trial
  pub online : (u : ℕ) → (drive_at known.drives u).offline ≡ false
  pub unlocked : (u : ℕ) → (drive_at known.drives u).locked ≡ false
  pub ids : known.ids ≡ []
  pub requests : known.requests ≡ []
  pub lent : known.lent ≡ 0

-- with one more
abbrev with_drive : ℕ → DriveKind → (ℕ → Option DriveKind) → ℕ → Option DriveKind
with_drive u kind drives x = if x == u then Some kind else drives x

new_at : (n u : ℕ) → drive_at (replicate n (new_drive None)) u ≡ new_drive None
new_at zero u = refl
new_at (suc n) zero = refl
new_at (suc n) (suc u) = new_at n u

new_idle : IsIdle (new_drive None).trial
new_idle = record { hand = refl; want = refl; fails = refl; marks = refl }

new_declared : (window : Window) → IsDeclared (λ u. None) (new_known window)
new_declared window = record {
  many = refl;
  kinds = λ u. ap (λ (d : Drive). d.kind) (new_at 32 u);
  idle = λ u. subst (λ (d : Drive). IsIdle d.trial) (sym (new_at 32 u)) new_idle;
  online = λ u. ap (λ (d : Drive). d.offline) (new_at 32 u);
  unlocked = λ u. ap (λ (d : Drive). d.locked) (new_at 32 u);
  ids = refl;
  requests = refl;
  lent = refl;
}

one_declared : (u : ℕ) (kind : DriveKind) (drives : ℕ → Option DriveKind) (k : Known) → u < 32 → IsDeclared drives k → IsDeclared (with_drive u kind drives) (declared u kind k)
one_declared u kind drives k inside is = record {
  many = set_length k.drives u d ∙ is.many;
  kinds = λ x. elim (eqb_tells x u) [
    | inl same ↦ rw same.0 (ap (λ (y : ℕ). (drive_at (declared u kind k).drives y).kind) same.1 ∙ ap (λ (z : Drive). z.kind) (set_here k.drives u d (subst (λ n. u < n) (sym is.many) inside)))
    | inr other ↦ rw other.0 (ap (λ (z : Drive). z.kind) (set_other k.drives u d x (λ e. other.1 (sym e))) ∙ is.kinds x)
  ];
  idle = λ x. subst (λ (t : Trial). IsIdle t) (sym (keeps_set (λ z. z.trial) k.drives u d x refl)) (is.idle x);
  online = λ x. keeps_set (λ z. z.offline) k.drives u d x refl ∙ is.online x;
  unlocked = λ x. keeps_set (λ z. z.locked) k.drives u d x refl ∙ is.unlocked x;
  ids = is.ids;
  requests = is.requests;
  lent = is.lent;
}
  where
    d : Drive
    d = record (drive_at k.drives u) { kind = Some kind }

-- ALL LINES, of which none declares a drive again
or_else : Option DriveKind → Option DriveKind → Option DriveKind
or_else None other = other
or_else (Some kind) other = Some kind

same_declared : (drives drives' : ℕ → Option DriveKind) (k : Known) → ((u : ℕ) → drives u ≡ drives' u) → IsDeclared drives k → IsDeclared drives' k
same_declared drives drives' k e is = record { many = is.many; kinds = λ u. is.kinds u ∙ e u; idle = is.idle; online = is.online; unlocked = is.unlocked; ids = is.ids; requests = is.requests; lent = is.lent }

left_false : (b c : Bool) → b || c ≡ false → (b ≡ false) × (c ≡ false)
left_false false c e = (refl, e)
left_false true c e = absurd (grind (arith, e))

swapped : (n m : ℕ) → (n == m) ≡ false → (m == n) ≡ false
swapped n m e = grind (arith, nat_tests, e)

undeclared_by : (v : ℕ) (statement : Statement) (others : Option DriveKind) → script.declares v statement ≡ false → others ≡ None → script.declared_by statement v others ≡ None
undeclared_by v (Declares u kind) others e f = ap (λ (b : Bool). cond b (Some kind) others) (swapped u v e) ∙ f
undeclared_by v (Plays input) others e f = f

undeclared : (v : ℕ) (lines : List Line) → list_any (λ (line : Line). script.declares v line.statement) lines ≡ false → drives_in lines v ≡ None
undeclared v [] e = refl
undeclared v (line ∷ lines) e =
    let parts = left_false (script.declares v line.statement) (list_any (λ (l : Line). script.declares v l.statement) lines) e in
    undeclared_by v line.statement (drives_in lines v) parts.0 (undeclared v lines parts.1)

as_declared : (u : ℕ) (kind : DriveKind) (drives : ℕ → Option DriveKind) (lines : List Line) (x : ℕ) (b : Bool) → (x == u) ≡ b → drives_in lines u ≡ None
    → or_else (drives_in lines x) (cond b (Some kind) (drives x)) ≡ or_else (cond b (Some kind) (drives_in lines x)) (drives x)
unfolding or_else
as_declared u kind drives lines x false e none = refl
as_declared u kind drives lines x true e none = ap (λ (o : Option DriveKind). or_else o (Some kind)) (ap (drives_in lines) (same x u e) ∙ none)
  where
    same : (n m : ℕ) → (n == m) ≡ true → n ≡ m
    same n m e = grind (arith, nat_tests, e)

line_declared : (statement : Statement) (lines : List Line) (drives : ℕ → Option DriveKind) (k : Known) → IsFirst statement lines → IsDeclared drives k
    → ((drives' : ℕ → Option DriveKind) (k' : Known) → IsDeclared drives' k' → IsDeclared (λ x. or_else (drives_in lines x) (drives' x)) (fold declared_by k' lines))
    → IsDeclared (λ x. or_else (script.declared_by statement x (drives_in lines x)) (drives x)) (fold declared_by (declares statement k) lines)
line_declared (Declares u kind) lines drives k first is rest =
    same_declared (λ x. or_else (drives_in lines x) (with_drive u kind drives x)) (λ x. or_else (script.declared_by (Declares u kind) x (drives_in lines x)) (drives x)) (fold declared_by (declared u kind k) lines)
    (λ x. as_declared u kind drives lines x (x == u) refl (undeclared u lines first.1)) (rest (with_drive u kind drives) (declared u kind k) (one_declared u kind drives k first.0 is))
line_declared (Plays input) lines drives k first is rest = rest drives k is

lines_declared : (lines : List Line) → AreUnitsFirst lines → (drives : ℕ → Option DriveKind) (k : Known) → IsDeclared drives k → IsDeclared (λ x. or_else (drives_in lines x) (drives x)) (fold declared_by k lines)
unfolding or_else
lines_declared [] first drives k is = is
lines_declared (line ∷ lines) first drives k is = line_declared line.statement lines drives k first.0 is (lines_declared lines first.1)

none_else : (o : Option DriveKind) → or_else o None ≡ o
unfolding or_else
none_else None = refl
none_else (Some kind) = refl

pub script_declared : (s : Script) (window : Window) → IsScript s → IsDeclared (drives_of s) (known_of s window)
script_declared s window good =
    same_declared (λ x. or_else (drives_in s.lines x) None) (drives_of s) (known_of s window) (λ x. none_else (drives_in s.lines x))
    (lines_declared s.lines good.units (λ x. None) (new_known window) (new_declared window))
