use Rattle.std.proofs.Common.{refl}
use Rattle.std.specs.Prelude.{bit_and}
use Rattle.drive_registers.specs.Bits as bits
use Rattle.hardware_table.specs.Drive.{on, has_error, is_positioning, is_ready}
use Rattle.hardware_table.proofs.StatusLaws.{both, always, same_always, status_word}
use Rattle.hardware_table.proofs.status_law.Goals as goal

pub returns-clause-attention : goal.returns-clause-attention
unfolding both always
returns-clause-attention c = λ d. same_always (λ a e p o l r v. bit_and (status_word a e p o l r v) bits.attention) (λ a e p o l r v. on a bits.attention) refl
    d.attention (has_error d) (is_positioning d.work) d.online d.locked (is_ready d.work) d.valid

pub returns-clause-error : goal.returns-clause-error
unfolding both always
returns-clause-error c = λ d. same_always (λ a e p o l r v. bit_and (status_word a e p o l r v) bits.error) (λ a e p o l r v. on e bits.error) refl
    d.attention (has_error d) (is_positioning d.work) d.online d.locked (is_ready d.work) d.valid

pub returns-clause-positioning : goal.returns-clause-positioning
unfolding both always
returns-clause-positioning c = λ d. same_always (λ a e p o l r v. bit_and (status_word a e p o l r v) bits.positioning) (λ a e p o l r v. on p bits.positioning) refl
    d.attention (has_error d) (is_positioning d.work) d.online d.locked (is_ready d.work) d.valid

pub returns-clause-online : goal.returns-clause-online
unfolding both always
returns-clause-online c = λ d. same_always (λ a e p o l r v. bit_and (status_word a e p o l r v) bits.medium_on_line) (λ a e p o l r v. on o bits.medium_on_line) refl
    d.attention (has_error d) (is_positioning d.work) d.online d.locked (is_ready d.work) d.valid

pub returns-clause-locked : goal.returns-clause-locked
unfolding both always
returns-clause-locked c = λ d. same_always (λ a e p o l r v. bit_and (status_word a e p o l r v) bits.write_locked) (λ a e p o l r v. on l bits.write_locked) refl
    d.attention (has_error d) (is_positioning d.work) d.online d.locked (is_ready d.work) d.valid

pub returns-clause-present : goal.returns-clause-present
unfolding both always
returns-clause-present c = λ d. same_always (λ a e p o l r v. bit_and (status_word a e p o l r v) bits.drive_present) (λ a e p o l r v. bits.drive_present) refl
    d.attention (has_error d) (is_positioning d.work) d.online d.locked (is_ready d.work) d.valid

pub returns-clause-ready : goal.returns-clause-ready
unfolding both always
returns-clause-ready c = λ d. same_always (λ a e p o l r v. bit_and (status_word a e p o l r v) bits.drive_ready) (λ a e p o l r v. on r bits.drive_ready) refl
    d.attention (has_error d) (is_positioning d.work) d.online d.locked (is_ready d.work) d.valid

pub returns-clause-valid : goal.returns-clause-valid
unfolding both always
returns-clause-valid c = λ d. same_always (λ a e p o l r v. bit_and (status_word a e p o l r v) bits.volume_valid) (λ a e p o l r v. on v bits.volume_valid) refl
    d.attention (has_error d) (is_positioning d.work) d.online d.locked (is_ready d.work) d.valid
