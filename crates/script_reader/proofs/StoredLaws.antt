-- What is stored of a line stands for what the line says.
use Rattle.std.proofs.Common.{◌≡◌, ℕ, List, refl, sym, ap, ◌∙◌, Box}
use Rattle.std.specs.Box.{box_value}
use Rattle.std.specs.declared.alloc.Global.{Global}
use Rattle.script_lines.specs.declared.statement.Content.{Content}
use Rattle.script_lines.specs.declared.statement.Content.TheVariants as contents
use Rattle.script_lines.specs.declared.statement.Span.{Span}
use Rattle.script_lines.specs.declared.statement.Statement.{Statement}
use Rattle.script_lines.specs.declared.statement.Statement.TheVariants as says
use Rattle.script_lines.specs.Known.{Said}
use Rattle.script_lines.specs.Renamed.{content_by, renamed, read_of}
use Rattle.script_reader.specs.Stored.{digits_at}
use Rattle.script_reader.proofs.CarriesLaws.{CarriesIn, Carries}

content_back : (text : List ℕ) (span : Span) (content : Content (List ℕ)) → CarriesIn (digits_at text span) content → content_by (digits_at text) (content_by (λ _. span) content) ≡ content
content_back text span (contents.Hex x) c = ap (λ (d : List ℕ). contents.Hex d) c
content_back text span other c = refl

back : (text : List ℕ) (span : Span) (s : Said) → Carries (digits_at text span) s → renamed (digits_at text) (λ (p : List ℕ). p) (read_of span s) ≡ s
back text span (says.Write request content) c = ap (λ (x : Content (List ℕ)). says.Write request x) (content_back text span content c)
back text span other c = refl

content_twice : (digits : Span → List ℕ) (content : Content Span) → content_by digits content ≡ content_by digits (content_by (λ span. span) content)
content_twice digits (contents.Fill b) = refl
content_twice digits other = refl

twice : (digits : Span → List ℕ) (kept : Statement Span (Box (List ℕ) Global)) → renamed digits box_value kept ≡ renamed digits (λ (p : List ℕ). p) (renamed (λ span. span) box_value kept)
twice digits (says.Write request content) = ap (λ (x : Content (List ℕ)). says.Write request x) (content_twice digits content)
twice digits other = refl

pub stands : (text : List ℕ) (span : Span) (read : Statement Span (List ℕ)) (s : Said) → read_of span s ≡ read → Carries (digits_at text span) s → renamed (digits_at text) (λ (p : List ℕ). p) read ≡ s
stands text span read s r c = ap (renamed (digits_at text) (λ (p : List ℕ). p)) (sym r) ∙ back text span s c
