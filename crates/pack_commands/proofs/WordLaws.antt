-- The words of a command, one by one.
use Rattle.std.proofs.Common.{◌≡◌, ℕ, ◌<◌, ◌≤◌, ◌-◌, Bool, true, false, List, [], ◌∷◌, map, take, drop, length, length-drop, get_or, Option, None, refl, sym, ap, ◌∙◌, arith}
use Rattle.std.proofs.lemmas.List.{take_all}
use Rattle.std.specs.Prelude.{if◌then◌else◌, codes}
use Rattle.std.specs.Str.{bytes_eq}
use Rattle.command_parts.specs.Fields.{kind_named, unit_named}
use Rattle.pack_commands.specs.Commands.{add_named, command_named, format_named, fresh_named, long_named, tool_named, way_named, worded_named}
use Rattle.pack_commands.specs.declared.words.Command.{Command}

-- the words from one on
pub behind : {A : Type 0} (n : ℕ) (words : List A) → take (length words - n) (drop n words) ≡ drop n words
behind n words = take_all (length words - n) (drop n words) (omega (arith, length-drop n words))

module _ {A : Type 0} (f : A → List ℕ) where
  pub lone : (word : List ℕ) (words : List A) (a : A) → 1 ≤ length words → length words < 2 → a ≡ get_or words 0 a → word ≡ f a
      → command_named (word ∷ []) ≡ command_named (map f words)
  lone word [] a some few first is = absurd (omega (arith, some))
  lone word (x ∷ []) a some few first is = ap (λ (w : List ℕ). command_named (w ∷ [])) (is ∙ ap f first)
  lone word (x ∷ y ∷ words) a some few first is = absurd (omega (arith, few))

  pub two : (word number : List ℕ) (words : List A) (a b : A) → 2 ≤ length words → length words < 3 → a ≡ get_or words 0 a → b ≡ get_or words 1 b
      → word ≡ f a → number ≡ f b → command_named (word ∷ number ∷ []) ≡ command_named (map f words)
  two word number [] a b some few first second is number_is = absurd (omega (arith, some))
  two word number (x ∷ []) a b some few first second is number_is = absurd (omega (arith, some))
  two word number (x ∷ y ∷ []) a b some few first second is number_is =
      ap (λ (w : List ℕ). command_named (w ∷ number ∷ [])) (is ∙ ap f first) ∙ ap (λ (n : List ℕ). command_named (f x ∷ n ∷ [])) (number_is ∙ ap f second)
  two word number (x ∷ y ∷ z ∷ words) a b some few first second is number_is = absurd (omega (arith, few))

  pub three : (word unit kind : List ℕ) (words : List A) (a b c : A) → 3 ≤ length words → length words < 4
      → a ≡ get_or words 0 a → b ≡ get_or words 1 b → c ≡ get_or words 2 c → word ≡ f a → unit ≡ f b → kind ≡ f c
      → command_named (word ∷ unit ∷ kind ∷ []) ≡ command_named (map f words)
  three word unit kind [] a b c some few first second third is unit_is kind_is = absurd (omega (arith, some))
  three word unit kind (x ∷ []) a b c some few first second third is unit_is kind_is = absurd (omega (arith, some))
  three word unit kind (x ∷ y ∷ []) a b c some few first second third is unit_is kind_is = absurd (omega (arith, some))
  three word unit kind (x ∷ y ∷ z ∷ []) a b c some few first second third is unit_is kind_is =
      ap (λ (w : List ℕ). command_named (w ∷ unit ∷ kind ∷ [])) (is ∙ ap f first)
      ∙ ap (λ (u : List ℕ). command_named (f x ∷ u ∷ kind ∷ [])) (unit_is ∙ ap f second)
      ∙ ap (λ (k : List ℕ). command_named (f x ∷ f y ∷ k ∷ [])) (kind_is ∙ ap f third)
  three word unit kind (x ∷ y ∷ z ∷ w ∷ words) a b c some few first second third is unit_is kind_is = absurd (omega (arith, few))

  pub four : (tool verb unit kind : List ℕ) (words rest : List A) (a b c d : A) → 4 ≤ length words
      → a ≡ get_or words 0 a → b ≡ get_or words 1 b → c ≡ get_or words 2 c → d ≡ get_or words 3 d → rest ≡ drop 4 words
      → tool ≡ f a → verb ≡ f b → unit ≡ f c → kind ≡ f d
      → long_named tool verb unit kind (map f rest) ≡ command_named (map f words)
  four tool verb unit kind [] rest a b c d some first second third fourth rest_is is verb_is unit_is kind_is = absurd (omega (arith, some))
  four tool verb unit kind (x ∷ []) rest a b c d some first second third fourth rest_is is verb_is unit_is kind_is = absurd (omega (arith, some))
  four tool verb unit kind (x ∷ y ∷ []) rest a b c d some first second third fourth rest_is is verb_is unit_is kind_is = absurd (omega (arith, some))
  four tool verb unit kind (x ∷ y ∷ z ∷ []) rest a b c d some first second third fourth rest_is is verb_is unit_is kind_is = absurd (omega (arith, some))
  four tool verb unit kind (x ∷ y ∷ z ∷ w ∷ words) rest a b c d some first second third fourth rest_is is verb_is unit_is kind_is =
      ap (λ (r : List A). long_named tool verb unit kind (map f r)) rest_is
      ∙ ap (λ (t : List ℕ). long_named t verb unit kind (map f words)) (is ∙ ap f first)
      ∙ ap (λ (v : List ℕ). long_named (f x) v unit kind (map f words)) (verb_is ∙ ap f second)
      ∙ ap (λ (u : List ℕ). long_named (f x) (f y) u kind (map f words)) (unit_is ∙ ap f third)
      ∙ ap (λ (k : List ℕ). long_named (f x) (f y) (f z) k (map f words)) (kind_is ∙ ap f fourth)

  -- the words behind the verb, the unit and the kind
  pub worded : (verb unit kind word : List ℕ) (words rest : List A) (a : A) → 1 ≤ length words → a ≡ get_or words 0 a → rest ≡ drop 1 words → word ≡ f a
      → worded_named verb unit kind word (map f rest) ≡ tool_named verb unit kind (map f words)
  worded verb unit kind word [] rest a some first rest_is is = absurd (omega (arith, some))
  worded verb unit kind word (x ∷ words) rest a some first rest_is is =
      ap (λ (r : List A). worded_named verb unit kind word (map f r)) rest_is
      ∙ ap (λ (w : List ℕ). worded_named verb unit kind w (map f words)) (is ∙ ap f first)

  -- of a verb that is not `add`: words behind, and none
  pub fresh_more : (verb unit kind word : List ℕ) (words : List A) → 1 ≤ length words → ◌≡◌ {A = Option Command} None (fresh_named verb unit kind word (map f words))
  fresh_more verb unit kind word [] some = absurd (omega (arith, some))
  fresh_more verb unit kind word (x ∷ words) some = refl

  pub fresh : (verb unit kind word : List ℕ) (words : List A) → length words < 1
      → fresh_named verb unit kind word [] ≡ fresh_named verb unit kind word (map f words)
  fresh verb unit kind word [] few = refl
  fresh verb unit kind word (x ∷ words) few = absurd (omega (arith, few))

  pub bare : (verb unit kind : List ℕ) (words : List A) → length words < 1 → tool_named verb unit kind [] ≡ tool_named verb unit kind (map f words)
  bare verb unit kind [] few = refl
  bare verb unit kind (x ∷ words) few = absurd (omega (arith, few))

  pub formats : (unit kind serial : List ℕ) (words : List A) → length words < 1
      → format_named unit kind serial [] ≡ format_named unit kind serial (map f words)
  formats unit kind serial [] few = refl
  formats unit kind serial (x ∷ words) few = absurd (omega (arith, few))

  pub formats_none : (unit kind serial : List ℕ) (words : List A) → 1 ≤ length words → ◌≡◌ {A = Option Command} None (format_named unit kind serial (map f words))
  formats_none unit kind serial [] some = absurd (omega (arith, some))
  formats_none unit kind serial (x ∷ words) some = refl

-- what is added where the verb is `add`, and what is not
pub added : (verb unit kind word : List ℕ) (words : List (List ℕ)) → bytes_eq verb (codes "add") ≡ true
    → add_named (unit_named unit) (kind_named kind) word (way_named words) ≡ worded_named verb unit kind word words
added verb unit kind word words is =
    sym (ap (λ (b : Bool). if b then add_named (unit_named unit) (kind_named kind) word (way_named words) else fresh_named verb unit kind word words) is)

pub not_added : (verb unit kind word : List ℕ) (words : List (List ℕ)) → bytes_eq verb (codes "add") ≡ false
    → fresh_named verb unit kind word words ≡ worded_named verb unit kind word words
not_added verb unit kind word words is =
    sym (ap (λ (b : Bool). if b then add_named (unit_named unit) (kind_named kind) word (way_named words) else fresh_named verb unit kind word words) is)
