-- Words and the things that they name.
use Rattle.std.proofs.Common.{◌≡◌, ◌≢◌, ℕ, Bool, true, false, List, [], ◌∷◌, length, get_or, refl, ap, sym, ◌∙◌, arith, None, Some, Ok, Err}
use Rattle.std.specs.Prelude.{◌↔◌, cond, Option}
use Rattle.std.specs.Option.{ok_or}
use Rattle.std.specs.Str.{bytes_eq}
use Rattle.std.proofs.lemmas.Slice.Eq.{bytes_eq-Decides}
use Rattle.pack_geometry.specs.declared.DriveKind.{DriveKind}
use Rattle.pack_geometry.specs.declared.DriveKind.TheVariants.{Rp06}
use Rattle.pack_geometry.specs.Geometry.{kind_word}
use Rattle.partitions.specs.declared.Part.{Part}
use Rattle.partitions.specs.declared.Part.TheVariants.{A}
use Rattle.partitions.specs.Partitions.{letter_of}
use Rattle.script_lines.specs.declared.kinds.ScriptKind.TheVariants.{Word}
use Rattle.script_lines.specs.Fields.{some_or, kind_field, part_field}
use Rattle.script_lines.specs.Words.{named, kinds, parts, part_word}

not_true : (b : Bool) → (b ≡ true → ⊥) → b ≡ false
not_true true no_one = absurd (no_one refl)
not_true false no_one = refl

-- none has this word
none_named : {X : Type 0} (word : X → List ℕ) (things : List X) (text : List ℕ) → ((x : X) → text ≢ word x) → named word things text ≡ None
none_named word [] text none = refl
none_named word (x ∷ xs) text none =
    ap (λ (b : Bool). cond b (Some x) (named word xs text)) (not_true (bytes_eq text (word x)) (λ t. none x ((bytes_eq-Decides text (word x)).0 t)))
    ∙ none_named word xs text none

pub kind_of_word : (kind : DriveKind) → kind_field (kind_word kind) ≡ Ok kind
kind_of_word Rp06 = refl
kind_of_word other = refl

pub kind_named : (text : List ℕ) (kind : DriveKind) → text ≡ kind_word kind → kind_field text ≡ Ok kind
kind_named text kind e = ap kind_field e ∙ kind_of_word kind

pub no_kind : (text : List ℕ) → ((kind : DriveKind) → text ≢ kind_word kind) → kind_field text ≡ Err Word
no_kind text none = ap (some_or Word) (none_named kind_word kinds text none)

pub kind_or : (text : List ℕ) (found : Option DriveKind) → ((kind : DriveKind) → (found ≡ Some kind) ↔ (text ≡ kind_word kind)) → ok_or found Word ≡ kind_field text
kind_or text (Some kind) named = sym (kind_named text kind ((named kind).0 refl))
kind_or text None named = sym (no_kind text (λ kind e. let no : ◌≡◌ {A = Option DriveKind} None (Some kind) = (named kind).1 e in grind arith))

pub part_of_word : (part : Part) → part_field (part_word part) ≡ Ok part
part_of_word A = refl
part_of_word other = refl

single : (text : List ℕ) → length text ≡ 1 → text ≡ get_or text 0 0 ∷ []
single [] e = absurd (omega (arith, e))
single (x ∷ []) e = refl
single (x ∷ y ∷ ys) e = absurd (omega (arith, e))

pub part_named : (text : List ℕ) (part : Part) → length text ≡ 1 → get_or text 0 0 ≡ letter_of part → part_field text ≡ Ok part
part_named text part one e = ap part_field (single text one ∙ ap (λ (b : ℕ). b ∷ []) e) ∙ part_of_word part

pub part_or : (text : List ℕ) (found : Option Part) → length text ≡ 1 → ((part : Part) → (found ≡ Some part) ↔ (get_or text 0 0 ≡ letter_of part)) → ok_or found Word ≡ part_field text
part_or text (Some part) one named = sym (part_named text part one ((named part).0 refl))
part_or text None one named = sym (ap (some_or Word) (none_named part_word parts text (λ part e.
    let no : ◌≡◌ {A = Option Part} None (Some part) = (named part).1 (ap (λ (bytes : List ℕ). get_or bytes 0 0) e) in grind arith)))
