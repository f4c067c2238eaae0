-- What lines leave known.
use Rattle.std.proofs.Common.{◌≡◌, ℕ, zero, suc, ◌+◌, Bool, true, false, List, [], ◌∷◌, ◌++◌, get_or, refl, sym, ap, ◌∙◌, Option, None}
use Rattle.std.specs.Prelude.{cond, not, ◌||◌, replicate}
use Rattle.std.specs.List.{list_any, sum_by}
use Rattle.std.proofs.lemmas.List.Folds.{list_any-append}
use Rattle.std.proofs.lemmas.List.Sums.{sum_by-append}
use Rattle.pack_geometry.specs.declared.DriveKind.{DriveKind}
use Rattle.script_lines.specs.declared.statement.Span.{Span}
use Rattle.script_lines.specs.declared.statement.Statement.TheVariants as says
use Rattle.script_lines.specs.declared.verbs.Verb.{Verb}
use Rattle.script_lines.specs.Known.{Known, Said, Numbered, known_of, kind_in, kind_after, has_id, verb_of, declares, requests, strikes}
use Rattle.script_lines.specs.Knowing.{Learns, one}
use Rattle.script_lines.specs.Renamed.{read_of}

-- functions are equal where they agree at each argument
fun_ext : {X Y : Type 0} (f g : X → Y) → ((x : X) → f x ≡ g x) → f ≡ g
fun_ext f g h = λ i. λ x. h x i

-- KNOWN. Nothing is known of units at first.
pub none_kept : (n u : ℕ) → get_or (replicate {A = Option DriveKind} n None) u None ≡ None
none_kept zero u = refl
none_kept (suc n) zero = refl
none_kept (suc n) (suc u) = none_kept n u

-- what is read of a statement teaches what the statement does
kind_same : (u : ℕ) (span : Span) (s : Said) (before : Option DriveKind) → kind_after u (read_of span s) before ≡ kind_after u s before
kind_same u span (says.Unit v kind) before = refl
kind_same u span other before = refl

id_same : (id : ℕ) (span : Span) (s : Said) → has_id id (read_of span s) ≡ has_id id s
id_same id span (says.Unit v kind) = refl
id_same id span other = refl

verb_same : (span : Span) (s : Said) → verb_of (read_of span s) ≡ verb_of s
verb_same span (says.Unit v kind) = refl
verb_same span other = refl

pub learns_said : (span : Span) (s : Said) (old new : Known) → Learns old new (read_of span s) → Learns old new s
learns_said span s old new l = record {
  kinds = λ u. l.kinds u ∙ kind_same u span s (old.kinds u);
  used = λ id. l.used id ∙ ap (λ (b : Bool). old.used id || b) (id_same id span s);
  later = l.later ∙ ap (λ (v : Verb). old.later || not (declares v)) (verb_same span s);
  requests = l.requests ∙ ap (λ (v : Verb). old.requests + one (requests v)) (verb_same span s);
  noises = l.noises ∙ ap (λ (v : Verb). old.noises + one (strikes v)) (verb_same span s);
}

same_known : (a b : Known) → a.kinds ≡ b.kinds → a.used ≡ b.used → a.later ≡ b.later → a.requests ≡ b.requests → a.noises ≡ b.noises → a ≡ b
same_known a b k u l r n = λ i. record { kinds = k i; used = u i; later = l i; requests = r i; noises = n i }

kind_in-more : (u : ℕ) (lines : List Numbered) (line : Numbered) (before : Option DriveKind) → kind_in u (lines ++ line ∷ []) before ≡ kind_after u line.statement (kind_in u lines before)
kind_in-more u [] line before = refl
kind_in-more u (x ∷ xs) line before = kind_in-more u xs line (kind_after u x.statement before)

or_alone : (a b : Bool) → (a || (b || false)) ≡ (a || b)
or_alone true b = refl
or_alone false true = refl
or_alone false false = refl

any_more : (p : Numbered → Bool) (lines : List Numbered) (line : Numbered) → list_any p (lines ++ line ∷ []) ≡ (list_any p lines || p line)
any_more p lines line = list_any-append p lines (line ∷ []) ∙ or_alone (list_any p lines) (p line)

one_is : (b : Bool) → 0 + cond b 1 0 ≡ one b
one_is true = refl
one_is false = refl

count_more : (p : Numbered → Bool) (lines : List Numbered) (line : Numbered) → sum_by (λ x. cond (p x) 1 0) (lines ++ line ∷ []) ≡ sum_by (λ x. cond (p x) 1 0) lines + one (p line)
count_more p lines line = sum_by-append (λ x. cond (p x) 1 0) lines (line ∷ []) ∙ ap (λ (k : ℕ). sum_by (λ x. cond (p x) 1 0) lines + k) (one_is (p line))

pub known_more : (lines : List Numbered) (line : Numbered) (new : Known) → Learns (known_of lines) new line.statement → new ≡ known_of (lines ++ line ∷ [])
known_more lines line new l =
    same_known new (known_of (lines ++ line ∷ []))
    (fun_ext _ _ (λ u. l.kinds u ∙ sym (kind_in-more u lines line None)))
    (fun_ext _ _ (λ id. l.used id ∙ sym (any_more (λ x. has_id id x.statement) lines line)))
    (l.later ∙ sym (any_more (λ x. not (declares (verb_of x.statement))) lines line))
    (l.requests ∙ sym (count_more (λ x. requests (verb_of x.statement)) lines line))
    (l.noises ∙ sym (count_more (λ x. strikes (verb_of x.statement)) lines line))
