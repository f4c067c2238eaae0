use Rattle.std.proofs.Common.{◌≡◌, ◌==◌, ◌&&◌, ℕ, Bool, true, false, List, [], ◌∷◌, Some, None, if◌then◌else◌, cond, not, ◌++◌, nat_lt, refl, sym, ap, ◌∙◌, arith}
use Rattle.std.proofs.lemmas.Bool.{eq-eqb, false≢true}
use Rattle.std.proofs.lemmas.Bool.Decides.{nat_tests}
use Rattle.driver_laws.specs.declared.rules.cached.Entry.{Entry}
use Rattle.driver_laws.specs.rules.Entries.{State, is_of, entry_of, in_front, rewritten, changed_in_front}
use Rattle.live_noise.specs.declared.entries.Entry.{Entry as Noise}
use Rattle.live_noise.specs.Book.{number_of, with_entry}
use Rattle.contract_rows.proofs.contracts.entries_law.Goals as goal

own : (e : Entry) → is_of e.unit e.block e ≡ true
own e = ap (λ (b : Bool). b && (e.block == e.block)) (eq-eqb e.unit e.unit refl) ∙ eq-eqb e.block e.block refl

changed_one : (e : Entry) (bytes : List ℕ) (s : State) → s.entries ≡ e ∷ [] → (changed_in_front e.unit e.block bytes s).entries ≡ record e { bytes = bytes; changed = true } ∷ []
changed_one e bytes s one =
    ap (λ (entries : List Entry). in_front (rewritten bytes (entry_of e.unit e.block entries)) entries) one
    ∙ ap (λ (b : Bool). in_front (rewritten bytes (if b then Some e else None)) (e ∷ [])) (own e)
    ∙ ap (λ (b : Bool). record e { bytes = bytes; changed = true } ∷ (if b then [] else e ∷ [])) (own e)

abbrev first_bytes : List Entry → List ℕ
first_bytes [] = []
first_bytes (e ∷ es) = e.bytes

abbrev first_changed : List Entry → Bool
first_changed [] = false
first_changed (e ∷ es) = e.changed

same_bytes : (e : Entry) (bytes : List ℕ) → record e { bytes = bytes; changed = true } ∷ [] ≡ record e { changed = true } ∷ [] → bytes ≡ e.bytes
same_bytes e bytes is = ap first_bytes is

same_noise : (first later : Noise) → first ∷ later ∷ [] ≡ later ∷ first ∷ [] → first ≡ later
same_noise first later is = cc is

not_below : (n : ℕ) → nat_lt n n ≡ false
not_below n = grind (arith, nat_tests)

put_by : (behind : Bool) (first later : Noise) → behind ≡ false → cond (not behind) (first ∷ []) [] ++ later ∷ cond behind (first ∷ []) [] ≡ first ∷ later ∷ []
put_by false first later is = refl
put_by true first later is = absurd (cc is)

put_behind : (first later : Noise) → number_of first ≡ number_of later → with_entry later (first ∷ []) ≡ first ∷ later ∷ []
put_behind first later same = put_by (nat_lt (number_of later) (number_of first)) first later (ap (λ (n : ℕ). nat_lt (number_of later) n) same ∙ not_below (number_of later))

pub returns : goal.returns
returns c = record {
  new_noise_in_front_of_its_sector = λ first later differs same is. differs (same_noise first later (sym (put_behind first later same) ∙ is));
  changed_bytes_held_back = λ e bytes s one differs is. differs (same_bytes e bytes (sym (changed_one e bytes s one) ∙ is));
  change_not_noted = λ e bytes s one is. false≢true (sym (ap first_changed (sym (changed_one e bytes s one) ∙ is)));
  changed_entry_not_written_back = search arith;
  unchanged_entry_written_back = search arith;
  entry_left_changed = search arith;
}
