-- What a change at one unit leaves of its adapter.
use Rattle.std.proofs.Common.{◌≡◌, ◌≢◌, ℕ, ◌<◌, Bool, true, false, List, refl, sym, ap, ◌∙◌, arith, rules}
use Rattle.std.specs.Prelude.{if◌then◌else◌}
use Rattle.std.proofs.lemmas.Bool.{false≢true}
use Rattle.std.specs.Int.{bit_at}
use Rattle.hardware_table.specs.Adapter.{IsAdapter}
use Rattle.driver_machine.specs.declared.Phase.{Phase}
use Rattle.driver_machine.specs.declared.Phase.TheVariants.{Waiting, Positioning, Queued, Transferring, Due}
use Rattle.driver_machine.specs.declared.Task.TheVariants.{Clear, Judge, Steps, Command, GiveUp}
use Rattle.driver_machine.specs.Acts.{Scene}
use Rattle.driver_machine.specs.Sound.{Among, Once}
use Rattle.driver_machine.specs.World.{UnitView, AdapterView, Held, drive_of}
use Rattle.driver_machine.proofs.Dues.{AtStart, AtStep, AtTransfer, AtChoice, Calls}
use Rattle.driver_laws.proofs.invariant.Scene.{HasTransferFor, SceneOk}

-- what holds of the adapter in a scene, beside the transfer
pub record SceneAdapter (u : ℕ) (s : Scene) : Type 0 where
  pub drive : s.adapter.state.drive < 8
  pub rest : s.adapter.state.busy ≡ false → s.adapter.state.completion ≡ false
  pub mine : Among u s.adapter.queue → s.unit.phase ≡ Queued
  pub once : Once s.adapter.queue
  pub small : s.adapter.state.attentions < 256
  pub bit : bit_at s.adapter.state.attentions (drive_of u) ≡ (if s.unit.drive.attention then 1 else 0)
  pub unit : drive_of u < 8

-- WHAT IS LEFT of the adapter by a change at one unit: it transfers for the unit, or as before; those that wait waited before.
pub record AdapterLeft (u : ℕ) (old : AdapterView) (v : UnitView) (z : AdapterView) (h : Held) : Type 0 where
  pub state : IsAdapter z.state
  pub drive : z.state.drive < 8
  pub own : z.state.busy ≡ true → z.state.drive ≡ drive_of u → HasTransferFor v h z.state
  pub elsewhere : z.state.busy ≡ true → z.state.drive ≢ drive_of u → z.state ≡ record old.state { attentions = z.state.attentions }
  pub rest : z.state.busy ≡ false → z.state.completion ≡ false
  pub waits : (x : ℕ) → Among x z.queue → x ≢ u → Among x old.queue
  pub mine : Among u z.queue → v.phase ≡ Queued
  pub once : Once z.queue
  pub small : z.state.attentions < 256
  pub bits : (k : ℕ) → k < 8 → k ≢ drive_of u → bit_at z.state.attentions k ≡ bit_at old.state.attentions k
  pub bit : bit_at z.state.attentions (drive_of u) ≡ (if v.drive.attention then 1 else 0)

-- only the attentions change, and those that wait
pub state_left : (u : ℕ) (s : Scene) → SceneOk u s → SceneAdapter u s → (v : UnitView) (h : Held) (n : ℕ) (queue : List ℕ) → (s.unit.phase ≡ Transferring → ⊥)
    → ((x : ℕ) → Among x queue → x ≢ u → Among x s.adapter.queue) → (Among u queue → v.phase ≡ Queued) → Once queue → n < 256
    → ((k : ℕ) → k < 8 → k ≢ drive_of u → bit_at n k ≡ bit_at s.adapter.state.attentions k) → bit_at n (drive_of u) ≡ (if v.drive.attention then 1 else 0)
    → AdapterLeft u s.adapter v (record { queue = queue; state = record s.adapter.state { attentions = n } }) h
state_left u s ok at v h n queue not waits mine once small bits bit = first_of (search rules, grind arith)

-- those that wait change alone
pub queue_left : (u : ℕ) (s : Scene) → SceneOk u s → SceneAdapter u s → (v : UnitView) (h : Held) (queue : List ℕ) → (s.unit.phase ≡ Transferring → ⊥)
    → ((x : ℕ) → Among x queue → x ≢ u → Among x s.adapter.queue) → (Among u queue → v.phase ≡ Queued) → Once queue
    → v.drive.attention ≡ s.unit.drive.attention → AdapterLeft u s.adapter v (record s.adapter { queue = queue }) h
queue_left u s ok at v h queue not waits mine once same = first_of (search rules, grind arith)

-- nothing changes of the adapter
pub task_left : (u : ℕ) (s : Scene) → SceneOk u s → SceneAdapter u s → (v : UnitView) (h : Held) → (s.unit.phase ≡ Transferring → ⊥)
    → (s.unit.phase ≡ Queued → v.phase ≡ Queued) → v.drive.attention ≡ s.unit.drive.attention → AdapterLeft u s.adapter v s.adapter h
task_left u s ok at v h not queued same =
    queue_left u s ok at v h s.adapter.queue not (λ x m other. m) (λ m. queued (at.mine m)) at.once same

-- PHASES in which a deed is due: the unit does not transfer.
abbrev pub is_transferring : Phase → Bool
is_transferring Transferring = true
is_transferring Waiting = false
is_transferring (Positioning taken) = false
is_transferring Queued = false
is_transferring (Due task) = false

abbrev pub is_queued : Phase → Bool
is_queued Queued = true
is_queued Waiting = false
is_queued (Positioning taken) = false
is_queued Transferring = false
is_queued (Due task) = false

pub not_transferring : (phase : Phase) → is_transferring phase ≡ false → phase ≡ Transferring → ⊥
not_transferring phase rests is = false≢true (sym rests ∙ ap is_transferring is)

pub not_queued : (phase : Phase) → is_queued phase ≡ false → phase ≡ Queued → ⊥
not_queued phase out is = false≢true (sym out ∙ ap is_queued is)

pub calls_rest : (phase : Phase) → Calls phase → is_transferring phase ≡ false
calls_rest Waiting AtStart = refl
calls_rest (Due (Steps taken)) (AtStep same) = refl
calls_rest (Due Command) AtTransfer = refl
calls_rest Queued AtChoice = refl
calls_rest (Positioning taken) called = elim called [ ]
calls_rest Transferring called = elim called [ ]
calls_rest (Due (Clear moved last)) called = elim called [ ]
calls_rest (Due (Judge moved last)) called = elim called [ ]
calls_rest (Due (GiveUp done)) called = elim called [ ]

-- a deed due in a phase of its own, where the unit neither transfers nor waits for its adapter
pub due_left : (u : ℕ) (s : Scene) → SceneOk u s → SceneAdapter u s → (v : UnitView) (h : Held) → is_transferring s.unit.phase ≡ false → is_queued s.unit.phase ≡ false
    → v.drive.attention ≡ s.unit.drive.attention → AdapterLeft u s.adapter v s.adapter h
due_left u s ok at v h rests out same =
    task_left u s ok at v h (not_transferring s.unit.phase rests) (λ is. absurd (not_queued s.unit.phase out is)) same
