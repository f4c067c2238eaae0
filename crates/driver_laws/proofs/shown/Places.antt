-- Where a segment begins and how long it is, as the replay and the machine say it.
use Rattle.std.proofs.Common.{◌≡◌, ℕ, ◌+◌, Option, Some, None, refl, rules}
use Rattle.transfer_engine.specs.declared.job.Job.{Job}
use Rattle.transfer_engine.specs.State as engine
use Rattle.trace_replay.specs.requests.Requests.{first_block}
use Rattle.trace_replay.specs.Conversation.{Hand, start_of, length_of}
use Rattle.driver_laws.specs.shown.Stages.{segment_by}

pub segment_start : (index : Option ℕ) (job : Job) (done moved : ℕ) (hand : Hand) → job.first ≡ first_block hand.kind hand.request
    → hand.progress.done ≡ done + moved → ((i : ℕ) → index ≡ Some i → moved ≡ 0)
    → start_of (segment_by job.kind index) hand ≡ (engine.segment_by index job done).block + moved
segment_start index job done moved hand first is none = search rules

pub segment_length : (index : Option ℕ) (job : Job) (done : ℕ) (hand : Hand) → job.count ≡ hand.request.count → hand.progress.done ≡ done
    → length_of (segment_by job.kind index) hand ≡ (engine.segment_by index job done).count
segment_length None job done hand count is = rw (count, is) refl
segment_length (Some i) job done hand count is = refl
