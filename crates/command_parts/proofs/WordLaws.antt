-- WORDS that name no transfer: they are too few, or too many.
use Rattle.std.proofs.Common.{◌≡◌, ℕ, ◌<◌, ◌≤◌, List, [], ◌∷◌, map, length, get_or, refl, ap, ◌∙◌, arith}
use Rattle.std.specs.Prelude.{None}
use Rattle.command_parts.specs.Words.{raw_named, sized_named, written_named}

pub one_word : {A : Type 0} (f : A → List ℕ) (verb unit kind : List ℕ) (words : List A) → 1 ≤ length words → length words < 2
    → None ≡ raw_named verb unit kind (map f words)
one_word f verb unit kind [] some few = absurd (omega (arith, some))
one_word f verb unit kind (part ∷ []) some few = refl
one_word f verb unit kind (part ∷ at ∷ words) some few = absurd (omega (arith, few))

pub many_words : {A : Type 0} (f : A → List ℕ) (verb unit kind : List ℕ) (words : List A) → 4 ≤ length words
    → None ≡ raw_named verb unit kind (map f words)
many_words f verb unit kind [] many = absurd (omega (arith, many))
many_words f verb unit kind (part ∷ []) many = absurd (omega (arith, many))
many_words f verb unit kind (part ∷ at ∷ []) many = absurd (omega (arith, many))
many_words f verb unit kind (part ∷ at ∷ size ∷ []) many = absurd (omega (arith, many))
many_words f verb unit kind (part ∷ at ∷ size ∷ more ∷ words) many = refl

-- two words, and three
pub two_words : {A : Type 0} (f : A → List ℕ) (verb unit kind part at : List ℕ) (words : List A) (a b : A) → 2 ≤ length words → length words < 3
    → a ≡ get_or words 0 a → b ≡ get_or words 1 b → part ≡ f a → at ≡ f b → written_named verb unit kind part at ≡ raw_named verb unit kind (map f words)
two_words f verb unit kind part at [] a b some few first second part_is at_is = absurd (omega (arith, some))
two_words f verb unit kind part at (x ∷ []) a b some few first second part_is at_is = absurd (omega (arith, some))
two_words f verb unit kind part at (x ∷ y ∷ []) a b some few first second part_is at_is =
    ap (λ (p : List ℕ). written_named verb unit kind p at) (part_is ∙ ap f first) ∙ ap (λ (q : List ℕ). written_named verb unit kind (f x) q) (at_is ∙ ap f second)
two_words f verb unit kind part at (x ∷ y ∷ z ∷ words) a b some few first second part_is at_is = absurd (omega (arith, few))

pub three_words : {A : Type 0} (f : A → List ℕ) (verb unit kind part at size : List ℕ) (words : List A) (a b c : A) → 3 ≤ length words → length words < 4
    → a ≡ get_or words 0 a → b ≡ get_or words 1 b → c ≡ get_or words 2 c → part ≡ f a → at ≡ f b → size ≡ f c
    → sized_named verb unit kind part at size ≡ raw_named verb unit kind (map f words)
three_words f verb unit kind part at size [] a b c some few first second third part_is at_is size_is = absurd (omega (arith, some))
three_words f verb unit kind part at size (x ∷ []) a b c some few first second third part_is at_is size_is = absurd (omega (arith, some))
three_words f verb unit kind part at size (x ∷ y ∷ []) a b c some few first second third part_is at_is size_is = absurd (omega (arith, some))
three_words f verb unit kind part at size (x ∷ y ∷ z ∷ []) a b c some few first second third part_is at_is size_is =
    ap (λ (p : List ℕ). sized_named verb unit kind p at size) (part_is ∙ ap f first)
    ∙ ap (λ (q : List ℕ). sized_named verb unit kind (f x) q size) (at_is ∙ ap f second)
    ∙ ap (λ (n : List ℕ). sized_named verb unit kind (f x) (f y) n) (size_is ∙ ap f third)
three_words f verb unit kind part at size (x ∷ y ∷ z ∷ w ∷ words) a b c some few first second third part_is at_is size_is = absurd (omega (arith, few))
