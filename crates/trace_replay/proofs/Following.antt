-- The rules together, and lists of moments in parts.
use Rattle.std.proofs.Common.{ℕ, List, [], ◌∷◌, ◌++◌}
use Rattle.trace_replay.specs.requests.Requests.{Rejection}
use Rattle.trace_replay.specs.Moments.{Deed, Moment, Told, Played, Idle}
use Rattle.trace_replay.specs.Events.{Wish, Refusal}
use Rattle.trace_replay.specs.Replay.{Replay, next_wish, LineMay, RefusalMay, ToldMay, InputMay, IdleMay, MayCome, after_moment, after_moments, Follows}
use Rattle.trace_replay.specs.Rules.{RuleName, Number, Events, Service, Conversation, Drives, Adapters, Packs, Work, LineKeeps, RefusalKeeps, ToldKeeps, InputKeeps, IdleKeeps, Keeps, KeepsEach, FollowOn}

kept : (s : Replay) (line unit id : ℕ) (deed : Deed) → LineMay s line unit id deed → (rule : RuleName) → LineKeeps rule s line unit id deed
kept s line unit id deed may Number = may.number
kept s line unit id deed may Events = may.wished
kept s line unit id deed may Service = may.service
kept s line unit id deed may Conversation = may.talk
kept s line unit id deed may Drives = may.drive
kept s line unit id deed may Adapters = may.adapter
kept s line unit id deed may Packs = may.verdict
kept s line unit id deed may Work = may.at_work

all_kept : (s : Replay) (line unit id : ℕ) (deed : Deed) → ((rule : RuleName) → LineKeeps rule s line unit id deed) → LineMay s line unit id deed
all_kept s line unit id deed keeps = record {
  number = keeps Number;
  wished = keeps Events;
  service = keeps Service;
  talk = keeps Conversation;
  drive = keeps Drives;
  adapter = keeps Adapters;
  verdict = keeps Packs;
  at_work = keeps Work;
}

refusal_kept : (s : Replay) (line unit id : ℕ) (deed : Deed) (u i : ℕ) (why : Rejection) → RefusalMay s line unit id deed u i why
    → (rule : RuleName) → RefusalKeeps rule s line unit id deed u i why
refusal_kept s line unit id deed u i why may Number = may.number
refusal_kept s line unit id deed u i why may Events = may.same_unit
refusal_kept s line unit id deed u i why may Service = may.same_id
refusal_kept s line unit id deed u i why may Conversation = may.answered
refusal_kept s line unit id deed u i why may rule = tt

told_kept : (wish : Wish) (s : Replay) (line unit id : ℕ) (deed : Deed) → ToldMay wish s line unit id deed
    → (rule : RuleName) → ToldKeeps rule wish s line unit id deed
told_kept (Refusal u i why) s line unit id deed may rule = refusal_kept s line unit id deed u i why may rule
told_kept other s line unit id deed may rule = kept s line unit id deed may rule

told_all : (wish : Wish) (s : Replay) (line unit id : ℕ) (deed : Deed) → ((rule : RuleName) → ToldKeeps rule wish s line unit id deed)
    → ToldMay wish s line unit id deed
told_all (Refusal u i why) s line unit id deed keeps =
    record { number = keeps Number; same_unit = keeps Events; same_id = keeps Service; answered = keeps Conversation }
told_all other s line unit id deed keeps = all_kept s line unit id deed keeps

input_kept : (s : Replay) (line : ℕ) → InputMay s line → (rule : RuleName) → InputKeeps rule s line
input_kept s line may Number = may.later
input_kept s line may Events = (may.over, may.finished)
input_kept s line may Work = may.at_work
input_kept s line may rule = tt

idle_kept : (s : Replay) (line : ℕ) → IdleMay s line → (rule : RuleName) → IdleKeeps rule s line
idle_kept s line may Number = may.number
idle_kept s line may Events = may.nothing
idle_kept s line may rule = tt

moment_kept : (s : Replay) (m : Moment) → MayCome s m → (rule : RuleName) → Keeps rule s m
moment_kept s (Told line unit id deed) may rule = told_kept (next_wish s) s line unit id deed may rule
moment_kept s (Played line input) may rule = input_kept s line may rule
moment_kept s (Idle line) may rule = idle_kept s line may rule

moment_all : (s : Replay) (m : Moment) → ((rule : RuleName) → Keeps rule s m) → MayCome s m
moment_all s (Told line unit id deed) keeps = told_all (next_wish s) s line unit id deed keeps
moment_all s (Played line input) keeps = record { later = keeps Number; over = (keeps Events).0; finished = (keeps Events).1; at_work = keeps Work }
moment_all s (Idle line) keeps = record { number = keeps Number; nothing = keeps Events }

pub keeps_each : KeepsEach
keeps_each s m = (moment_kept s m, moment_all s m)

pub joined : (s : Replay) (ms ns : List Moment) → Follows s ms → Follows (after_moments s ms) ns → Follows s (ms ++ ns)
joined s [] ns first more = more
joined s (m ∷ ms) ns first more = (first.0, joined (after_moment s m) ms ns first.1 more)

parted : (s : Replay) (ms ns : List Moment) → Follows s (ms ++ ns) → Follows s ms × Follows (after_moments s ms) ns
parted s [] ns all = (tt, all)
parted s (m ∷ ms) ns all = let rest : Follows (after_moment s m) ms × Follows (after_moments (after_moment s m) ms) ns = parted (after_moment s m) ms ns all.1 in ((all.0, rest.0), rest.1)

pub follow_on : FollowOn
follow_on s ms ns = (parted s ms ns, λ both. joined s ms ns both.0 both.1)
