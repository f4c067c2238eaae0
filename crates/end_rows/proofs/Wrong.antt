-- What the program promises of its end refuses these outcomes.
use Rattle.std.proofs.Common.{◌≡◌, ℕ, List, [], ◌∷◌, refl, sym, ◌∙◌, arith, inl, inr}
use Rattle.end_rows.specs.Wrong.{NothingRun, NothingListed}

pub nothing_run : NothingRun
nothing_run byte left old new tells is runs = some (sym is ∙ ((runs.play refl).done refl).read tells)
  where
    some : byte ∷ left ≡ [] → ⊥
    some is = cc is

pub nothing_listed : NothingListed
nothing_listed unit kind old new runs = elim (runs.statuses.list unit kind refl) [
  | inl done ↦ omega (arith, done)
  | inr other ↦
      elim other [
        | inl sink ↦ omega (arith, sink)
        | inr packs ↦ elim packs [ inl packs ↦ omega (arith, packs) | inr long ↦ omega (arith, long) ]
      ]
]
