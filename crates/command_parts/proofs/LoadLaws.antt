-- A script that is too long is refused by its front.
use Rattle.std.proofs.Common.{◌≡◌, ◌⊎◌, inl, inr, ℕ, ◌+◌, ◌<◌, ◌≤◌, List, [], ◌++◌, length, subst, sym, ap, ◌∙◌, arith, append-nil, length-append, Result, Ok, Err, IfErr, IsErrAnd}
use Rattle.script_lines.specs.Script.{Script}
use Rattle.script_lines.specs.declared.dialect.Dialect.TheVariants.{Cached}
use Rattle.script_lines.specs.declared.kinds.ScriptKind.{ScriptKind}
use Rattle.script_lines.specs.declared.kinds.ScriptKind.TheVariants.{ScriptLong}
use Rattle.script_lines.specs.Words.{all_verbs}
use Rattle.script_lines.specs.Known.{Numbered}
use Rattle.script_reader.specs.declared.fault.ReadFault.{ReadFault}
use Rattle.script_reader.specs.declared.fault.ReadFault.TheVariants as reading
use Rattle.script_reader.specs.Grammar as play
use Rattle.script_reader.specs.Lines.{lines_of}
use Rattle.script_reader.specs.Reading.{Refuses}
use Rattle.script_reader.specs.cached.Scripts as cached
use Rattle.script_reader.specs.declared.cached.kind.CachedRefusal.{CachedRefusal}
use Rattle.script_reader.specs.declared.cached.kind.CachedRefusal.TheVariants as refusal
use Rattle.script_reader.specs.declared.cached.statement.Line.{Line}
use Rattle.command_parts.specs.declared.load.LoadFault.{LoadFault}
use Rattle.command_parts.specs.declared.load.LoadFault.TheVariants as loading
use Rattle.command_parts.specs.Loading.{Means, MeansCached, RefusesAll, from_read, from_cached, longest}

-- BYTES ARE REFUSED by a front of them that is too long, or is all of them.
abbrev pub ByFront : (List ℕ → ℕ → ScriptKind → Type 0) → Type 0
ByFront First = (left bytes after : List ℕ) (number : ℕ) (kind : ScriptKind) → left ≡ bytes ++ after → (after ≡ []) ⊎ (longest < length bytes) → First bytes number kind
    → First left number kind

-- as both grammars have it: too many bytes, or a faulty line
abbrev LongOr : (List ℕ → ℕ → ScriptKind → Type 0) → List ℕ → ℕ → ScriptKind → Type 0
LongOr Fault bytes number kind = ((16777216 < length bytes) × (number ≡ 0) × (kind ≡ ScriptLong)) ⊎ ((length bytes ≤ 16777216) × Fault bytes number kind)

by_front : (Fault : List ℕ → ℕ → ScriptKind → Type 0) → ByFront (LongOr Fault)
by_front Fault left bytes after number kind all (inl none) r =
    let same : bytes ≡ left = sym (all ∙ ap (λ (xs : List ℕ). bytes ++ xs) none ∙ append-nil bytes) in
    subst (λ (bs : List ℕ). LongOr Fault bs number kind) same r
by_front Fault left bytes after number kind all (inr long) (inl r) =
    let l : length left ≡ length bytes + length after = ap (λ (xs : List ℕ). length xs) all ∙ length-append bytes after in
    inl (omega (arith, l, long), r.1, r.2)
by_front Fault left bytes after number kind all (inr long) (inr r) = absurd (omega (arith, long, r.0))

pub play_by_front : ByFront (play.IsRefused all_verbs)
play_by_front = by_front (λ bytes number kind. play.FirstFault all_verbs (lines_of bytes) number kind)

pub cached_by_front : ByFront cached.IsRefused
cached_by_front = by_front (λ bytes number kind. play.FirstFault Cached (lines_of bytes) number kind)

-- bytes that have a fault mean no script
abbrev pub NoFault : (List ℕ → Script → Type 0) → (List ℕ → ℕ → ScriptKind → Type 0) → Type 0
NoFault Means First = (bytes : List ℕ) (script : Script) → Means bytes script → (number : ℕ) (kind : ScriptKind) → ¬ (First bytes number kind)

pub play_no_fault : ((bytes : List ℕ) (lines : List Numbered) (count : ℕ) → play.Spells all_verbs bytes lines count → (number : ℕ) (kind : ScriptKind) → ¬ (play.IsRefused all_verbs bytes number kind))
    → NoFault Means (play.IsRefused all_verbs)
play_no_fault none bytes script means number kind = none bytes means.lines means.count means.spelled number kind

pub cached_no_fault : ((bytes : List ℕ) (lines : List Line) (count : ℕ) → cached.Spells bytes lines count → (number : ℕ) (kind : ScriptKind) → ¬ (cached.IsRefused bytes number kind))
    → NoFault MeansCached cached.IsRefused
cached_no_fault none bytes script means number kind = none bytes means.lines.lines means.lines.count means.spelled number kind

-- what a reader refuses, in the words of loading
abbrev pub Found : (List ℕ → ℕ → ScriptKind → Type 0) → LoadFault → List ℕ → Type 0
Found First loading.Memory bytes = Unit {0}
Found First loading.Failed bytes = Unit {0}
Found First (loading.Refused line kind) bytes = First bytes line kind

pub play_found : (fault : ReadFault) (bytes : List ℕ) → Refuses all_verbs fault bytes → Found (play.IsRefused all_verbs) (from_read fault) bytes
play_found reading.Memory bytes r = tt
play_found (reading.Refused line kind) bytes r = r

pub cached_found : (fault : CachedRefusal) (bytes : List ℕ) → cached.Refuses fault bytes → Found cached.IsRefused (from_cached fault) bytes
cached_found refusal.Memory bytes r = tt
cached_found (refusal.Refused line kind) bytes r = r

module _ {Means : List ℕ → Script → Type 0} {First : List ℕ → ℕ → ScriptKind → Type 0} (front : ByFront First) (no_fault : NoFault Means First) where
  refuses : (left bytes after : List ℕ) (fault : LoadFault) → left ≡ bytes ++ after → (after ≡ []) ⊎ (longest < length bytes) → Found First fault bytes → RefusesAll Means First fault left
  refuses left bytes after (loading.Refused line kind) all end r =
      let it : First left line kind = front left bytes after line kind all end r in
      ((λ script means. no_fault left script means line kind it), it)
  refuses left bytes after other all end r = tt

  -- and so it is where that is handed on
  pub refused_all : {T : Type 0} {A : Type 0} (left bytes after : List ℕ) (fault : LoadFault) (result : Result T LoadFault)
      → (A → left ≡ bytes ++ after) → (A → (after ≡ []) ⊎ (longest < length bytes)) → Found First fault bytes → IsErrAnd result (λ answer. answer ≡ fault)
      → IfErr result (λ answer. A → RefusesAll Means First answer left)
  refused_all left bytes after fault (Ok value) all end r is = tt
  refused_all left bytes after fault (Err answer) all end r is = λ a. subst (λ (f : LoadFault). RefusesAll Means First f left) (sym is) (refuses left bytes after fault (all a) (end a) r)
