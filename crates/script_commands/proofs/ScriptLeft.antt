-- What a run of a script leaves as it was, by its status, and its causes.
use Rattle.std.proofs.Common.{◌≡◌, ◌⊎◌, inl, inr, ℕ, Bool, true, false, if◌then◌else◌, ◌==◌, Option, Some, refl, sym, ap, ◌∙◌}
use Rattle.outside_traits.specs.Causes.{Rose}
use Rattle.command_parts.specs.Outside.{HasItsCause, Outside}
use Rattle.pack_commands.specs.Leaves.{LeavesAlone, reads_source, tells_trace}
use Rattle.pack_commands.specs.declared.words.Command.{Command}
use Rattle.pack_commands.specs.declared.words.Command.TheVariants.{Exercise, Play, Cached}

differ : true ≡ false → ⊥
differ e = cc

-- a command that reads a script and tells the trace
pub record IsOfScripts (command : Option Command) : Type 0 where
  pub reads : reads_source command ≡ true
  pub tells : tells_trace command ≡ true
  pub other : (number : ℕ) → command ≡ Some (Exercise number) → ⊥

pub play_is : IsOfScripts (Some Play)
play_is = record { reads = refl; tells = refl; other = λ number e. cc }

pub cached_is : (capacity : ℕ) → IsOfScripts (Some (Cached capacity))
cached_is capacity = record { reads = refl; tells = refl; other = λ number e. cc }

-- a number that fails a test is none that passes it
apart : (test : ℕ → Bool) {code : ℕ} {n : ℕ} → test code ≡ false → test n ≡ true → code ≡ n → ⊥
apart test fails passes e = differ (sym passes ∙ ap test (sym e) ∙ fails)

abbrev has_cause : ℕ → Bool
has_cause n = if n == 4 then true else (if n == 5 then true else n == 6)

-- a status that no object has caused
pub no_cause : {old new : Outside} (code : ℕ) → has_cause code ≡ false → HasItsCause code old new
no_cause code fails = record {
  source = λ e. absurd (apart (λ (n : ℕ). has_cause n) fails refl e);
  sink = λ e. absurd (apart (λ (n : ℕ). has_cause n) fails refl e);
  store = λ e. absurd (apart (λ (n : ℕ). has_cause n) fails refl e);
}

pub source_cause : {old new : Outside} → Rose old.source_faults new.source_faults → HasItsCause 4 old new
source_cause rose = record {
  source = λ e. rose;
  sink = λ e. absurd (apart (λ (n : ℕ). n == 5) {code = 4} refl refl e);
  store = λ e. absurd (apart (λ (n : ℕ). n == 6) {code = 4} refl refl e);
}

pub sink_cause : {old new : Outside} → Rose old.out_faults new.out_faults ⊎ Rose old.trace_faults new.trace_faults → HasItsCause 5 old new
sink_cause rose = record {
  source = λ e. absurd (apart (λ (n : ℕ). n == 4) {code = 5} refl refl e);
  sink = λ e. rose;
  store = λ e. absurd (apart (λ (n : ℕ). n == 6) {code = 5} refl refl e);
}

pub store_cause : {old new : Outside} → Rose old.packs_faults new.packs_faults → HasItsCause 6 old new
store_cause rose = record {
  source = λ e. absurd (apart (λ (n : ℕ). n == 4) {code = 6} refl refl e);
  sink = λ e. absurd (apart (λ (n : ℕ). n == 5) {code = 6} refl refl e);
  store = λ e. rose;
}

abbrev speaks_not : ℕ → Bool
speaks_not n = if n == 4 then true else n == 9

abbrev keeps_packs : ℕ → Bool
keeps_packs n = if n == 2 then true else (if n == 3 then true else n == 4)

abbrev keeps_trace : ℕ → Bool
keeps_trace n = if n == 3 then true else (if n == 4 then true else (if n == 7 then true else n == 9))

module _ {S P O T : Type 0} {source source' : S} {packs packs' : P} {out out' : O} {trace trace' : T} {command : Option Command} (script : IsOfScripts command) (code : ℕ) where
  -- what stays, where the status says that it does
  pub leaves_where : (speaks_not code ≡ true → out' ≡ out) → (keeps_packs code ≡ true → packs' ≡ packs) → (keeps_trace code ≡ true → trace' ≡ trace)
      → LeavesAlone command code source source' packs packs' out out' trace trace'
  leaves_where silent untouched untraced = record {
    unread = λ e. absurd (differ (sym script.reads ∙ e));
    untraced_tool = λ e. absurd (differ (sym script.tells ∙ e));
    exercise_packs = λ number e. absurd (script.other number e);
    silent = λ e. silent (elim e [
      | inl is ↦ ap (λ (n : ℕ). speaks_not n) is
      | inr is ↦ ap (λ (n : ℕ). speaks_not n) is
    ]);
    untouched = λ e. untouched (elim e [
      | inl is ↦ ap (λ (n : ℕ). keeps_packs n) is
      | inr (inl is) ↦ ap (λ (n : ℕ). keeps_packs n) is
      | inr (inr is) ↦ ap (λ (n : ℕ). keeps_packs n) is
    ]);
    untraced = λ e. untraced (elim e [
      | inl is ↦ ap (λ (n : ℕ). keeps_trace n) is
      | inr (inl is) ↦ ap (λ (n : ℕ). keeps_trace n) is
      | inr (inr (inl is)) ↦ ap (λ (n : ℕ). keeps_trace n) is
      | inr (inr (inr is)) ↦ ap (λ (n : ℕ). keeps_trace n) is
    ]);
  }

-- the lines were played, or some of them
pub leaves_played : {S P O T : Type 0} {source source' : S} {packs packs' : P} {out out' : O} {trace trace' : T} {command : Option Command} (script : IsOfScripts command) (code : ℕ)
    → speaks_not code ≡ false → keeps_packs code ≡ false → keeps_trace code ≡ false → LeavesAlone command code source source' packs packs' out out' trace trace'
leaves_played script code a b c = leaves_where script code (λ e. absurd (differ (sym e ∙ a))) (λ e. absurd (differ (sym e ∙ b))) (λ e. absurd (differ (sym e ∙ c)))

-- the script was refused
pub leaves_refused : {S P O T : Type 0} {source source' : S} {packs : P} {out out' : O} {trace : T} {command : Option Command} (script : IsOfScripts command)
    → LeavesAlone command 3 source source' packs packs out out' trace trace
leaves_refused script = leaves_where script 3 (λ e. absurd (differ (sym e))) (λ _. refl) (λ _. refl)

-- an image is too long
pub leaves_long : {S P O T : Type 0} {source source' : S} {packs packs' : P} {out out' : O} {trace trace' : T} {command : Option Command} (script : IsOfScripts command) → trace' ≡ trace
    → LeavesAlone command 7 source source' packs packs' out out' trace trace'
leaves_long script same = leaves_where script 7 (λ e. absurd (differ (sym e))) (λ e. absurd (differ (sym e))) (λ _. same)

-- nothing but the source was spoken to
pub leaves_unread : {S P O T : Type 0} {source source' : S} {packs : P} {out : O} {trace : T} {command : Option Command} (script : IsOfScripts command) (code : ℕ)
    → LeavesAlone command code source source' packs packs out out trace trace
leaves_unread script code = leaves_where script code (λ _. refl) (λ _. refl) (λ _. refl)
