-- The acts of a call keep what the driver stands for.
use Rattle.std.proofs.Common.{◌≡◌, ℕ, false, List, [], ◌∷◌, ◌++◌, length, refl, sym, ap, subst, arith}
use Rattle.std.proofs.lemmas.Bool.{true≢false}
use Rattle.pack_geometry.specs.Pack.{Pack}
use Rattle.hardware_table.specs.Noise.{LiveNoise}
use Rattle.trace_replay.specs.Script as script
use Rattle.trace_replay.specs.Script.{Input}
use Rattle.driver_laws.specs.rules.Machine.{Blocks}
use Rattle.driver_machine.specs.World.{World}
use Rattle.driver_machine.specs.Acts.{Act, Change, Taken, Tried, after, after_all}
use Rattle.driver_machine.specs.Events.{submit_acts, event_acts}
use Rattle.driver_machine.specs.Sound.{Sound}
use Rattle.driver_machine.specs.Runs.{Run}
use Rattle.driver_laws.specs.answers.Waiting.{is_taking}
use Rattle.driver_laws.proofs.answers.Parts.{AreAll, Holds, all_submitted, all_of_event}
use Rattle.driver_laws.proofs.invariant.Sound.{sound_after}
use Rattle.driver_laws.specs.answers.Packs.{ReadAll, packs_after, packs_after_all}
use Rattle.driver_laws.specs.shown.Bytes.{Bears}
use Rattle.driver_laws.specs.shown.QuietLaws.{armed_with, maps_after, SubmissionsBear, EventsBear, TakingsBear}
use Rattle.driver_laws.proofs.shown.EachAct.{acts_bear, bears_less}

-- an act that arms no noise and takes no answer
pub record IsPlain (act : Act) : Type 0 where
  pub arms : (armed : List LiveNoise) → armed_with armed act ≡ armed
  pub takes : is_taking act ≡ false

same_map : (w : World) (act : Act) (maps : ℕ → Blocks) → is_taking act ≡ false → maps_after w act maps ≡ maps
same_map w Taken maps is = absurd (true≢false is)
same_map w other maps is = refl

runs_bear : (armed : List LiveNoise) (w : World) (acts : List Act) (held : ℕ → Pack) (maps : ℕ → Blocks) → Sound w → AreAll IsPlain acts → Run w acts → ReadAll w held acts
    → Bears armed w held maps → Bears armed (after_all w acts) (packs_after_all w held acts) maps
runs_bear armed w [] held maps s plain run reads b = b
runs_bear armed w (act ∷ acts) held maps s plain run reads b =
    let one : Bears (armed_with armed act) (after w act) (packs_after w held act) (maps_after w act maps) = acts_bear armed w act held maps s run.0 reads.0 b in
    let kept : Bears armed (after w act) (packs_after w held act) maps =
    subst (λ l. Bears l (after w act) (packs_after w held act) maps) (plain.0.arms armed)
    (subst (λ m. Bears (armed_with armed act) (after w act) (packs_after w held act) m) (same_map w act maps plain.0.takes) one) in
    runs_bear armed (after w act) acts (packs_after w held act) maps (sound_after w act s run.0) plain.1 run.1 reads.1 kept

front_plain : (done left : List Act) → AreAll IsPlain (done ++ left) → AreAll IsPlain done
front_plain [] left all = tt
front_plain (act ∷ done) left all = (all.0, front_plain done left all.1)

deeds_plain : Holds IsPlain
deeds_plain = record { of = λ line u id d. record { arms = λ armed. refl; takes = refl }; nothing = λ line. record { arms = λ armed. refl; takes = refl } }

pub submissions_bear : SubmissionsBear
submissions_bear armed w line p r h done left held maps s is run reads b =
    let all : AreAll IsPlain (submit_acts r line p h w) =
    all_submitted IsPlain deeds_plain r line p h w (λ kind. record { arms = λ armed. refl; takes = refl }) (record { arms = λ armed. refl; takes = refl }) in
    runs_bear armed w done held maps s (front_plain done left (subst (AreAll IsPlain) is all)) run reads b

-- an event that arms no noise
quiet_bears : (armed : List LiveNoise) (w : World) (line : ℕ) (input : Input) (tried : Tried) (done left : List Act) (held : ℕ → Pack) (maps : ℕ → Blocks)
    → IsPlain (Change input) → Sound w → event_acts line input tried w ≡ done ++ left → Run w done → ReadAll w held done
    → Bears armed w held maps → Bears armed (after_all w done) (packs_after_all w held done) maps
quiet_bears armed w line input tried done left held maps plain s is run reads b =
    runs_bear armed w done held maps s (front_plain done left (subst (AreAll IsPlain) is (all_of_event IsPlain deeds_plain line input tried w plain))) run reads b

-- noise that is armed
noise_bears : (armed : List LiveNoise) (w : World) (noise : LiveNoise) (done left : List Act) (held : ℕ → Pack) (maps : ℕ → Blocks)
    → Sound w → Change (script.Noise noise) ∷ [] ≡ done ++ left → Run w done → ReadAll w held done
    → Bears armed w held maps → Bears (noise ∷ armed) (after_all w done) (packs_after_all w held done) maps
noise_bears armed w noise [] left held maps s is run reads b = bears_less armed (noise ∷ armed) (λ x sector sure. sure.0) w held maps b
noise_bears armed w noise (act ∷ []) left held maps s is run reads b =
    let same : Change (script.Noise noise) ≡ act = cc in
    let one : Bears (armed_with armed act) (after w act) (packs_after w held act) (maps_after w act maps) = acts_bear armed w act held maps s run.0 reads.0 b in
    let of_noise : Bears (noise ∷ armed) (after w (Change (script.Noise noise))) (packs_after w held (Change (script.Noise noise))) maps =
    subst (λ a. Bears (armed_with armed a) (after w a) (packs_after w held a) (maps_after w a maps)) (sym same) one in
    subst (λ a. Bears (noise ∷ armed) (after w a) (packs_after w held a) maps) same of_noise
noise_bears armed w noise (act ∷ other ∷ rest) left held maps s is run reads b = absurd (longer (length rest) (length (rest ++ left)) (ap length is))
  where
    longer : (n m : ℕ) → 1 ≡ length (act ∷ other ∷ (rest ++ left)) → ⊥
    longer n m e = omega (arith, e)

pub events_bear : EventsBear
events_bear armed w line (script.Noise noise) tried done left held maps s is run reads b = noise_bears armed w noise done left held maps s is run reads b
events_bear armed w line other tried done left held maps s is run reads b =
    quiet_bears armed w line other tried done left held maps (record { arms = λ l. refl; takes = refl }) s is run reads b

pub takings_bear : TakingsBear
takings_bear armed w held maps s some b = acts_bear armed w Taken held maps s some tt b
