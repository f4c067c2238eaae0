-- A block that is one byte all through.
use Rattle.std.proofs.Common.{◌≡◌, ℕ, zero, suc, ◌^◌, ◌<◌, ◌≤◌, ◌==◌, if◌then◌else◌, Bool, true, List, [], ◌∷◌, ◌++◌, length, replicate, decimal, refl, sym, ap, ap₂, ◌∙◌, arith, append_assoc, eq-eqb}
use Rattle.std.proofs.lemmas.Fmt.{length-decimal-le}
use Rattle.std.specs.Prelude.{◌&&◌, codes}
use Rattle.std.specs.List.{flat_map, list_all}
use Rattle.mass_text.specs.BlockText.{hex_byte, content_text}
use Rattle.trace_lines.specs.answers.AnswerText.{block_text}

all_this : (n byte : ℕ) → list_all (λ b. b == byte) (replicate n byte) ≡ true
all_this zero byte = refl
all_this (suc n) byte = ap₂ (λ (here behind : Bool). here && behind) (eq-eqb byte byte refl) (all_this n byte)

pub content_text-fill : (size byte : ℕ) → 1 ≤ size → content_text (replicate size byte) ≡ codes "fill " ++ hex_byte byte
content_text-fill zero byte some = absurd (omega arith)
content_text-fill (suc n) byte some =
    ap (λ (one : Bool). if one then codes "fill " ++ hex_byte byte else codes "hex " ++ flat_map hex_byte (replicate (suc n) byte)) (all_this (suc n) byte)

-- the number of a block has at most 10 digits
pub few_digits : (k : ℕ) → k < 2 ^ 32 → length (decimal k) ≤ 10
few_digits k small = length-decimal-le 10 k (omega arith) (omega arith) (omega arith)

-- its line, put together from its end
flat : (d s c n : List ℕ) → ((d ++ s) ++ c) ++ n ≡ d ++ (s ++ (c ++ n))
flat d s c n = append_assoc (d ++ s) c n ∙ append_assoc d s (c ++ n)

pub fill_line : (k size byte : ℕ) (t₀ t₁ t₂ : List ℕ) → 1 ≤ size → t₀ ≡ codes " fill " ++ (hex_byte byte ++ 10 ∷ []) → t₁ ≡ decimal k ++ t₀ → t₂ ≡ codes "blk " ++ t₁
    → t₂ ≡ block_text k (replicate size byte)
fill_line k size byte t₀ t₁ t₂ some h₀ h₁ h₂ =
    h₂
    ∙ ap (λ (l : List ℕ). codes "blk " ++ l) (h₁ ∙ ap (λ (l : List ℕ). decimal k ++ l) h₀ ∙ sym (flat (decimal k) (codes " ") (codes "fill " ++ hex_byte byte) (10 ∷ [])))
    ∙ ap (λ (c : List ℕ). codes "blk " ++ decimal k ++ codes " " ++ c ++ 10 ∷ []) (sym (content_text-fill size byte some))
