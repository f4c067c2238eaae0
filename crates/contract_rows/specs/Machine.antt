-- What wrong bodies of the driver would do, refused by what its machine does.
use Rattle.std.specs.Prelude.{ℕ, ◌≡◌, ◌≢◌, ◌<◌, Bool, true, false, [], ◌∷◌, ◌++◌, Option, Some, None}
use Rattle.drive_registers.specs.Codes.{offset_field}
use Rattle.hardware_table.specs.declared.Moved.{Moved}
use Rattle.hardware_table.specs.declared.Moved.TheVariants.{Clean, Hard}
use Rattle.hardware_table.specs.Adapter.{AdapterState, next_block}
use Rattle.partitions.specs.declared.Admission.TheVariants.{Outside}
use Rattle.pack_geometry.specs.TableSpelling.{Table}
use Rattle.transfer_engine.specs.State.{TransferState, segment_of}
use Rattle.transfer_engine.specs.Calls.{entry_for}
use Rattle.trace_replay.specs.declared.requests.answers.AnswerKind.{AnswerKind}
use Rattle.trace_replay.specs.declared.requests.answers.AnswerKind.TheVariants.{Error}
use Rattle.trace_replay.specs.declared.requests.answers.Cause.TheVariants as cause
use Rattle.driver_machine.specs.declared.Made.{Made}
use Rattle.driver_machine.specs.declared.Task.{Task}
use Rattle.driver_machine.specs.declared.Task.TheVariants.{Judge, Steps}
use Rattle.driver_machine.specs.declared.Phase.TheVariants.{Waiting, Due}
use Rattle.trace_replay.specs.requests.Requests.{Request}
use Rattle.driver_machine.specs.World.{World, UnitView, AdapterView, Held, adapter_of, adapter_at}
use Rattle.driver_machine.specs.Acts.{Act, Scene, Attn, Intr, Repair, Refuse, Try, Rtc, End, Of, Taken, no_more_waits, after, commanded, effect}
use Rattle.driver_machine.specs.Due.{judged, deed_for, next_of, try_of}
use Rattle.driver_machine.specs.Events.{can_arrive, lowest, refusal_by, followed, adapter_start, data_interrupt}

pub record MachineRefused : Type 0 where
  -- a request ends at the first failure of a sector
  pub first_failure_is_final : (moved : ℕ) (v : UnitView) (h : Held) (kind : AnswerKind) → judged moved Hard v h ≡ End kind → ⊥
  -- a unit whose queue is not empty is not started, for others position
  pub one_seek_at_a_time : (v : UnitView) (h : Held) → v.phase ≡ Waiting → next_of v h ≡ None → ⊥
  -- a verdict is judged while an offset is set
  pub rtc_forgotten : (moved : ℕ) (verdict : Moved) (v : UnitView) (h : Held) → offset_field v.drive.offset ≢ 0 → deed_for (Judge moved verdict) v h ≢ Rtc → ⊥
  -- a retry names the block with which the segment began, though others of it moved clean
  pub retry_names_the_first_block : (moved number : ℕ) (t : TransferState) (next : Task) → 0 < moved → try_of moved t ≡ Try moved (segment_of t).block number next → ⊥
  -- a replacement is replaced
  pub replacement_forwarded_again : (moved index other : ℕ) (table : Option Table) (t : TransferState) → t.index ≡ Some index → entry_for moved table t ≡ Some other → ⊥
  -- the newest of two answers is taken first
  pub newest_answer_taken_first : (w : World) (first second : Made) → w.answers ≡ first ∷ second ∷ [] → first ≢ second
      → (after w Taken).answers ≡ first ∷ [] → ⊥
  -- the answer of a request that ends is dated with another line
  pub answer_at_another_line : (w : World) (line other u id : ℕ) (kind : AnswerKind) (made : Made) → other ≢ line → made.answer.at ≡ other
      → (after w (Of line u id (End kind))).answers ≡ w.answers ++ made ∷ [] → ⊥
  -- of two units that wait for an adapter the one that leaves stays, and the other goes
  pub all_others_leave_the_adapter : (u other : ℕ) (a : AdapterView) → u ≢ other → a.queue ≡ u ∷ other ∷ [] → (no_more_waits u a).queue ≡ u ∷ [] → ⊥
  -- of two units that position the higher one arrives first
  pub highest_unit_first : (v other : UnitView) → can_arrive v ≡ true → can_arrive other ≡ true → lowest can_arrive (v ∷ other ∷ []) 0 ≡ Some 1 → ⊥
  -- a request outside its partition is told that frames are short
  pub frames_before_partition : (room : Bool) → refusal_by Outside room ≡ Some (Error cause.Frames 0) → ⊥
  -- the blocks that come next are loaded from the front of the buffer
  pub first_blocks_loaded : (u : ℕ) (h : Held) (write : Bool) (t : TransferState) (a : AdapterState) → t.index ≡ None → 0 < t.done
      → (commanded u h write (segment_of t) a).skip ≡ 0 → ⊥

pub record DeedsRefused : Type 0 where
  -- an attention is taken, and the steps of the retry begin anew
  pub steps_forgotten : (line u p taken : ℕ) (s : Scene) → 0 < taken → (effect line u p (Attn taken) s).unit.phase ≡ Due (Steps 0) → ⊥
  -- or its drive has the attention still,
  pub attention_left_up : (line u p taken : ℕ) (s : Scene) → (effect line u p (Attn taken) s).unit.drive.attention ≡ true → ⊥
  -- or the adapter has it
  pub attention_left_at_the_adapter : (line p taken : ℕ) (s : Scene) → s.adapter.state.attentions ≡ 255 → (effect line 0 p (Attn taken) s).adapter.state.attentions ≡ 255 → ⊥
  -- a block was repaired, and is judged again
  pub repaired_block_judged_again : (line u p moved at pattern : ℕ) (s : Scene) → (effect line u p (Repair moved at pattern) s).unit.phase ≡ Due (Judge moved Clean) → ⊥
  -- the data interrupt is taken, and the adapter stays busy, or its completion up,
  pub adapter_left_busy : (line u p moved : ℕ) (last : Moved) (s : Scene) → (effect line u p (Intr moved last) s).adapter.state.busy ≡ true → ⊥
  pub completion_left_up : (line u p moved : ℕ) (last : Moved) (s : Scene) → (effect line u p (Intr moved last) s).adapter.state.completion ≡ true → ⊥
  -- or the request's buffer is the bus's still
  pub buffer_left_on_the_bus : (line u p moved : ℕ) (last : Moved) (s : Scene) → (effect line u p (Intr moved last) s).held.on_bus ≡ true → ⊥
  -- the sector that follows others is told as the first block of its transfer
  pub each_sector_the_first_block : (a : AdapterState) → 0 < a.moved → next_block a ≡ a.block → ⊥
  -- a data interrupt is taken before the completion
  pub interrupt_before_the_completion : (w : World) (line a : ℕ) → (adapter_at w a).state.completion ≡ false → data_interrupt line a w ≢ [] → ⊥
  -- a request is refused, and the adapter is not started behind it
  pub refusal_stops_the_adapter : (w : World) (line : ℕ) (r : Request) (kind : AnswerKind) → adapter_start line (adapter_of r.unit) (after w (Refuse line r kind)) ≢ []
      → followed (Refuse line r kind ∷ []) (adapter_start line (adapter_of r.unit)) w ≡ Refuse line r kind ∷ [] → ⊥
