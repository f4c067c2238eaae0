-- The word of a kind.
use Rattle.std.proofs.Common.{◌≡◌, ◌≢◌, ℕ, Bool, true, false, List, [], ◌∷◌, refl, ap, sym, ◌∙◌, None, Some}
use Rattle.std.specs.Prelude.{◌↔◌, cond, IfNone, Option}
use Rattle.std.specs.List.{find}
use Rattle.std.specs.Str.{bytes_eq}
use Rattle.std.proofs.lemmas.Slice.Eq.{bytes_eq-Decides}
use Rattle.pack_geometry.specs.declared.DriveKind.{DriveKind}
use Rattle.pack_geometry.specs.declared.DriveKind.TheVariants.{Rp06, Rm03, Rm05}
use Rattle.pack_geometry.specs.Geometry.{kind_word}
use Rattle.command_parts.specs.Fields.{kind_named, kinds}

not_true : (b : Bool) → (b ≡ true → ⊥) → b ≡ false
not_true true no_one = absurd (no_one refl)
not_true false no_one = refl

none_named : (things : List DriveKind) (text : List ℕ) → ((kind : DriveKind) → text ≢ kind_word kind)
    → find (λ kind. bytes_eq text (kind_word kind)) things ≡ None
none_named [] text none = refl
none_named (x ∷ xs) text none =
    ap (λ (b : Bool). cond b (Some x) (find (λ kind. bytes_eq text (kind_word kind)) xs))
    (not_true (bytes_eq text (kind_word x)) (λ t. none x ((bytes_eq-Decides text (kind_word x)).0 t)))
    ∙ none_named xs text none

kind_of_word : (kind : DriveKind) → kind_named (kind_word kind) ≡ Some kind
kind_of_word Rp06 = refl
kind_of_word other = refl

pub kind_is : (found : Option DriveKind) (text : List ℕ) → ((kind : DriveKind) → (found ≡ Some kind) ↔ (text ≡ kind_word kind))
    → IfNone found ((kind : DriveKind) → text ≢ kind_word kind) → found ≡ kind_named text
kind_is None text named none = sym (none_named kinds text none)
kind_is (Some kind) text named none = sym (ap kind_named ((named kind).0 refl) ∙ kind_of_word kind)
