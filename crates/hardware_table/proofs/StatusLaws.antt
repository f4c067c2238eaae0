-- What a status word tells of its conditions: a test of all of them.
use Rattle.std.proofs.Common.{◌≡◌, ℕ, Bool, true, false, ◌&&◌, eqb}
use Rattle.std.specs.Prelude.{bit_or}
use Rattle.std.proofs.lemmas.Bool.{and_parts, eqb-true}
use Rattle.drive_registers.specs.Bits as bits
use Rattle.hardware_table.specs.Drive.{on}

-- a test holds of both
unfoldable pub both : (Bool → Bool) → Bool
both test = test true && test false

both_tell : (test : Bool → Bool) → both test ≡ true → (b : Bool) → test b ≡ true
unfolding both
both_tell test h true = (and_parts (test true) (test false) h).0
both_tell test h false = (and_parts (test true) (test false) h).1

-- the conditions: attention, an error, positioning, on line, write locked, ready, volume valid
abbrev pub Tested : Type 0 → Type 0
Tested A = Bool → Bool → Bool → Bool → Bool → Bool → Bool → A

unfoldable pub always : Tested Bool → Bool
always test = both (λ a. both (λ e. both (λ p. both (λ o. both (λ l. both (λ r. both (λ v. test a e p o l r v)))))))

always_tells : (test : Tested Bool) → always test ≡ true → (a e p o l r v : Bool) → test a e p o l r v ≡ true
unfolding always
always_tells test h a e p o l r v =
    both_tell (λ v. test a e p o l r v)
    (both_tell (λ r. both (λ v. test a e p o l r v))
    (both_tell (λ l. both (λ r. both (λ v. test a e p o l r v)))
    (both_tell (λ o. both (λ l. both (λ r. both (λ v. test a e p o l r v))))
    (both_tell (λ p. both (λ o. both (λ l. both (λ r. both (λ v. test a e p o l r v)))))
    (both_tell (λ e. both (λ p. both (λ o. both (λ l. both (λ r. both (λ v. test a e p o l r v))))))
    (both_tell (λ a. both (λ e. both (λ p. both (λ o. both (λ l. both (λ r. both (λ v. test a e p o l r v))))))) h a) e) p) o) l) r) v

pub same_always : (f g : Tested ℕ) → always (λ a e p o l r v. eqb (f a e p o l r v) (g a e p o l r v)) ≡ true → (a e p o l r v : Bool) → f a e p o l r v ≡ g a e p o l r v
same_always f g h a e p o l r v = eqb-true (f a e p o l r v) (g a e p o l r v) (always_tells (λ a e p o l r v. eqb (f a e p o l r v) (g a e p o l r v)) h a e p o l r v)

-- the status of these conditions
abbrev pub status_word : Tested ℕ
status_word a e p o l r v =
    bit_or (on a bits.attention)
    (bit_or (on e bits.error)
    (bit_or (on p bits.positioning)
    (bit_or (on o bits.medium_on_line)
    (bit_or (on l bits.write_locked)
    (bit_or bits.drive_present
    (bit_or (on r bits.drive_ready) (on v bits.volume_valid)))))))
