-- No pack is refused for two reasons, and none on which nothing is in the way.
use Rattle.std.proofs.Common.{◌≡◌, ◌⊎◌, inl, inr, ℕ, refl, sym, ap, ◌∙◌, arith}
use Rattle.std.proofs.lemmas.Bool.{cases_lt}
use Rattle.pack_geometry.specs.declared.DriveKind.{DriveKind}
use Rattle.pack_geometry.specs.Pack.{Pack}
use Rattle.pack_format.specs.Faults.{IsWhy}
use Rattle.pack_format.specs.Formatted.{CanBeFormatted, IsSpare}
use Rattle.pack_format.specs.declared.fault.FormatFault.{FormatFault}
use Rattle.pack_format.specs.declared.fault.FormatFault.TheVariants.{Memory, TooLong, TooMany, Spare, NoCopy, Differs, Store}
use Rattle.pack_format.proofs.testing.StageLaws.{false_true}

pub no_refusal : (kind : DriveKind) (pack : Pack) (fault : FormatFault) → CanBeFormatted kind pack → IsWhy kind pack fault → (fault ≡ Memory) ⊎ (fault ≡ Store)
no_refusal kind pack (TooLong size) can why = absurd (can.fits why.0)
no_refusal kind pack (TooMany number) can why = absurd (can.few why.1)
no_refusal kind pack (Spare index) can why = absurd (can.spares index why.2)
no_refusal kind pack NoCopy can why = absurd (can.copy why.3)
no_refusal kind pack (Differs block at wrote read) can why = absurd why
no_refusal kind pack Memory can why = inl refl
no_refusal kind pack Store can why = inr refl

-- the first marked replacement is one
one_spare : (kind : DriveKind) (pack : Pack) (i j : ℕ) → IsSpare kind pack i → IsSpare kind pack j → i ≡ j
one_spare kind pack i j a b =
    elim (cases_lt i j) [
      | inl less ↦ absurd (false_true (sym (b.first i less) ∙ a.marked))
      | inr le ↦
          elim (cases_lt j i) [
            | inl less ↦ absurd (false_true (sym (a.first j less) ∙ b.marked))
            | inr other ↦ omega (arith, le, other)
          ]
    ]

abbrev Either : FormatFault → FormatFault → Type 0
Either fault other = (fault ≡ Memory) ⊎ (fault ≡ Store) ⊎ (other ≡ Memory) ⊎ (other ≡ Store) ⊎ (other ≡ fault)

same : (fault other : FormatFault) → other ≡ fault → Either fault other
same fault other e = inr (inr (inr (inr e)))

pub one_refusal : (kind : DriveKind) (pack : Pack) (fault other : FormatFault) → IsWhy kind pack fault → IsWhy kind pack other
    → (fault ≡ Memory) ⊎ (fault ≡ Store) ⊎ (other ≡ Memory) ⊎ (other ≡ Store) ⊎ (other ≡ fault)
one_refusal kind pack Memory other a b = inl refl
one_refusal kind pack Store other a b = inr (inl refl)
one_refusal kind pack (Differs block at wrote read) other a b = absurd a
one_refusal kind pack (TooLong size) Memory a b = inr (inr (inl refl))
one_refusal kind pack (TooLong size) Store a b = inr (inr (inr (inl refl)))
one_refusal kind pack (TooLong size) (Differs block at wrote read) a b = absurd b
one_refusal kind pack (TooLong size) (TooLong more) a b = same _ _ (ap TooLong (b.1 ∙ sym a.1))
one_refusal kind pack (TooLong size) (TooMany number) a b = absurd (b.0 a.0)
one_refusal kind pack (TooLong size) (Spare index) a b = absurd (b.0 a.0)
one_refusal kind pack (TooLong size) NoCopy a b = absurd (b.0 a.0)
one_refusal kind pack (TooMany number) Memory a b = inr (inr (inl refl))
one_refusal kind pack (TooMany number) Store a b = inr (inr (inr (inl refl)))
one_refusal kind pack (TooMany number) (Differs block at wrote read) a b = absurd b
one_refusal kind pack (TooMany number) (TooLong size) a b = absurd (a.0 b.0)
one_refusal kind pack (TooMany number) (TooMany more) a b = same _ _ (ap TooMany (b.2 ∙ sym a.2))
one_refusal kind pack (TooMany number) (Spare index) a b = absurd (b.1 a.1)
one_refusal kind pack (TooMany number) NoCopy a b = absurd (b.1 a.1)
one_refusal kind pack (Spare index) Memory a b = inr (inr (inl refl))
one_refusal kind pack (Spare index) Store a b = inr (inr (inr (inl refl)))
one_refusal kind pack (Spare index) (Differs block at wrote read) a b = absurd b
one_refusal kind pack (Spare index) (TooLong size) a b = absurd (a.0 b.0)
one_refusal kind pack (Spare index) (TooMany number) a b = absurd (a.1 b.1)
one_refusal kind pack (Spare index) (Spare more) a b = same _ _ (ap Spare (one_spare kind pack more index b.2 a.2))
one_refusal kind pack (Spare index) NoCopy a b = absurd (b.2 index a.2)
one_refusal kind pack NoCopy Memory a b = inr (inr (inl refl))
one_refusal kind pack NoCopy Store a b = inr (inr (inr (inl refl)))
one_refusal kind pack NoCopy (Differs block at wrote read) a b = absurd b
one_refusal kind pack NoCopy (TooLong size) a b = absurd (a.0 b.0)
one_refusal kind pack NoCopy (TooMany number) a b = absurd (a.1 b.1)
one_refusal kind pack NoCopy (Spare index) a b = absurd (a.2 index b.2)
one_refusal kind pack NoCopy NoCopy a b = same _ _ refl
