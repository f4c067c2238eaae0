-- What is promised of the tool and of `exercise` refuses these outcomes.
use Rattle.std.proofs.Common.{◌≡◌, ◌≢◌, ◌<◌, ◌≤◌, inl, inr, ℕ, List, [], ◌∷◌, ◌++◌, Option, None, Some, refl, sym, ap, arith, ◌∙◌}
use Rattle.std.proofs.lemmas.List.{append_cancel_left, append-nil}
use Rattle.hpsim_run.specs.ExerciseText as exercise
use Rattle.hpsim_run.specs.Scripts.{IsPlayCode}
use Rattle.pack_geometry.specs.declared.DriveKind.{DriveKind}
use Rattle.pack_geometry.specs.TableSpelling.{Table}
use Rattle.bad144_tool.specs.Texts.{list_text}
use Rattle.promise_rows.specs.Others.{DoneWhereTheTextWasNotTaken, FaultThatPrints, HandedInPacksPlayed, ListOfAnotherTable, PlayedAsRefusedByTheTool}

nothing_more : (taken text : List ℕ) → taken ≡ taken ++ text → text ≡ []
nothing_more taken text is = append_cancel_left taken text [] (sym is ∙ sym (append-nil taken))

pub done_where_the_text_was_not_taken : DoneWhereTheTextWasNotTaken
done_where_the_text_was_not_taken kind unit block serial way old new taken = (
  λ run. some (nothing_more taken _ ((run.added (inl refl)).told refl refl)),
  λ run. some (nothing_more taken _ (run.told refl refl)),
)
  where
    some : {x : ℕ} {xs : List ℕ} → x ∷ xs ≡ [] → ⊥
    some is = cc is

pub fault_that_prints : FaultThatPrints
fault_that_prints kind unit block serial byte way old new = (λ run. some (run.silent refl refl), λ run. some (run.silent refl refl), λ run. some (run.silent refl refl))
  where
    some : byte ∷ [] ≡ [] → ⊥
    some is = cc is

pub handed_in_packs_played : HandedInPacksPlayed
unfolding exercise.exercise_text
handed_in_packs_played number taken taken' run = differ ((run.done refl).told refl)
  where
    first : List ℕ → ℕ
    first [] = 0
    first (x ∷ xs) = x

    differ : {xs ys : List ℕ} → 97 ∷ xs ≡ 101 ∷ ys → ⊥
    differ {xs} {ys} is =
        let other : 97 ≡ 101 = ap first is in
        omega (arith, other)

-- a list begins with `no table`, or with `serial`
abbrev first : List ℕ → ℕ
first [] = 0
first (x ∷ xs) = x

begins : (kind : DriveKind) (table : Option Table) (byte : ℕ) (text : List ℕ) → byte ∷ text ≡ list_text kind table → byte ≢ 110 → byte ≢ 115 → ⊥
begins kind None byte text is none some = none (ap first is)
begins kind (Some table) byte text is none some = some (ap first is)

pub list_of_another_table : ListOfAnotherTable
list_of_another_table kind unit block serial byte fits faults faults_after way tells old new taken after text none some within = (
  λ run. let listed = run.listed refl in begins kind listed.table byte text (append_cancel_left taken (byte ∷ text) (list_text kind listed.table) (listed.told refl)) none some,
  λ added above. apart added.few above,
  λ marked above. few marked.few above,
  λ above. few within above,
)
  where
    apart : {a b : ℕ} → a < b → b ≤ a → ⊥
    apart lt le = omega (arith, lt, le)

    few : {a b : ℕ} → a ≤ b → b < a → ⊥
    few le lt = omega (arith, le, lt)

none_of_play : IsPlayCode 8 → ⊥
none_of_play (inl e) = omega (arith, e)
none_of_play (inr (inl e)) = omega (arith, e)
none_of_play (inr (inr (inl e))) = omega (arith, e)
none_of_play (inr (inr (inr (inl e)))) = omega (arith, e)
none_of_play (inr (inr (inr (inr (inl e))))) = omega (arith, e)
none_of_play (inr (inr (inr (inr (inr (inl e)))))) = omega (arith, e)
none_of_play (inr (inr (inr (inr (inr (inr e)))))) = omega (arith, e)

pub played_as_refused_by_the_tool : PlayedAsRefusedByTheTool
played_as_refused_by_the_tool is = none_of_play (is.play refl)
