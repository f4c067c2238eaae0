-- Ids that are asked for: none is outstanding as it comes.
use Rattle.std.proofs.Common.{◌≡◌, inl, inr, ℕ, ◌==◌, ◌||◌, Bool, true, false, List, [], ◌∷◌, Option, None, Some, refl, sym, subst, arith}
use Rattle.std.specs.List.{AllByRecursion, list_any}
use Rattle.std.proofs.lemmas.Bool.Decides.{eqb_tells, nat_tests}
use Rattle.std.proofs.lemmas.Bool.{ne_eqb}
use Rattle.trace_replay.specs.requests.Requests.{Request}
use Rattle.trace_replay.specs.Moments.{Answered}
use Rattle.pack_geometry.specs.declared.DriveKind.{DriveKind}
use Rattle.driver_laws.specs.rules.Machine.{Machine, request_of, without, Steps}

-- none of these ids is outstanding
abbrev pub AreFree : List ℕ → List Request → Type 0
AreFree ids rs = AllByRecursion (λ id. request_of id rs ≡ None) ids

-- an id that is free stays so as another request leaves
free_without : (id gone : ℕ) (rs : List Request) → request_of id rs ≡ None → request_of id (without gone rs) ≡ None
free_without id gone [] free = refl
free_without id gone (r ∷ rs) free = elim (eqb_tells r.id id) [
  | inl same ↦ absurd (some r (rw same.0 at free))
  | inr other ↦ elim (eqb_tells r.id gone) [
    | inl here ↦ rw here.0 (rw other.0 at free)
    | inr there ↦ rw (there.0, other.0) (free_without id gone rs (rw other.0 at free))
  ]
]
  where
    some : (r : Request) → Some r ≡ None → ⊥
    some r e = cc

still_free : (ids : List ℕ) (gone : ℕ) (rs : List Request) → AreFree ids rs → AreFree ids (without gone rs)
still_free [] gone rs free = tt
still_free (id ∷ ids) gone rs free = (free_without id gone rs free.0, still_free ids gone rs free.1)

pub free_after_steps : (drives : ℕ → Option DriveKind) (claims : (line : ℕ) → Request → Type 0) (line : ℕ) (ids : List ℕ) (answers : List Answered) (m new : Machine)
    → Steps drives claims line m answers new → AreFree ids m.outstanding → AreFree ids new.outstanding
free_after_steps drives claims line ids [] m new steps free = subst (λ (z : Machine). AreFree ids z.outstanding) (sym steps) free
free_after_steps drives claims line ids (a ∷ answers) m new steps free =
    free_after_steps drives claims line ids answers steps.1 new steps.3
    (subst (λ (z : Machine). AreFree ids z.outstanding) (sym steps.2.is) (still_free ids steps.2.request.id m.outstanding free))

-- one joins, and the others that are to come are apart from it
pub free_joined : (ids : List ℕ) (r : Request) (rs : List Request) → list_any (λ other. other == r.id) ids ≡ false → AreFree ids rs → AreFree ids (r ∷ rs)
free_joined [] r rs apart free = tt
free_joined (id ∷ ids) r rs apart free = (
  rw (ne_eqb r.id id (λ e. differ id r.id (parts (id == r.id) (list_any (λ other. other == r.id) ids) apart).0 (sym e))) free.0,
  free_joined ids r rs (parts (id == r.id) (list_any (λ other. other == r.id) ids) apart).1 free.1,
)
  where
    parts : (a b : Bool) → a || b ≡ false → (a ≡ false) × (b ≡ false)
    parts true b is = absurd (grind (arith, is))
    parts false b is = (refl, is)

    differ : (a b : ℕ) → a == b ≡ false → a ≡ b → ⊥
    differ a b is e = grind (arith, nat_tests)
