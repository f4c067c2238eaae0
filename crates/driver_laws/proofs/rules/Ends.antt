-- The end of a request is a step of the machine, and the next one begins over the map that it leaves.
use Rattle.std.proofs.Common.{◌≡◌, ℕ, ◌<◌, ◌+◌, ◌&&◌, true, List, [], ◌∷◌, Option, None, Some, refl, sym, ap, ◌∙◌, subst, arith, length, rules}
use Rattle.std.proofs.lemmas.Option.{same_Some, none-some}
use Rattle.hardware_table.specs.Drive.{DriveState}
use Rattle.hardware_table.specs.declared.Work.{Work}
use Rattle.pack_geometry.specs.Pack as model
use Rattle.pack_geometry.specs.Homes.{home_of}
use Rattle.trace_replay.specs.requests.Requests.{IsRequest, Request, first_block, Answer, ReadOk, WriteOk, Failed, Cause, Unforwarded}
use Rattle.trace_replay.specs.Moments.{Deed, End}
use Rattle.trace_replay.specs.Conversation.{Hand, Stage, Waiting, Steps, UnderWay, AtOnce, Moving, Saying, Ending, Segment, Positioning, SearchFor, Progress, not_begun, due, guarded, transfer_of, command_of, needs_unlocked, is_write, begun}
use Rattle.trace_replay.proofs.Histories.{Fits, Open, AreSaid, guard_holds, EndFits, EndsFailed, WasMarked}
use Rattle.trace_replay.proofs.Unusable.{no_home}
use Rattle.driver_laws.specs.rules.Machine.{Blocks, AreUsable, bytes_of_first, blocks_done, done_in, IsCause, MayAnswer}
use Rattle.driver_laws.specs.rules.Stands.{IsSure, HandStands, AnswerStands, StageStands, size_of_first}
use Rattle.driver_laws.proofs.rules.Blocks.{whole_size}
use Rattle.driver_laws.proofs.rules.Hands.{no_home_at, begins}

-- the request in hand may be answered so, and this many blocks of it are done
pub record EndsAs (claimed : Type 0) (blocks : Blocks) (first : ℕ) (r : Request) (p : Progress) (answer : Answer) : Type 0 where
  pub may : MayAnswer claimed blocks first r answer
  pub done : p.done ≡ done_in answer r

abbrev pub EndsBy : Type 0 → Blocks → ℕ → Request → Progress → Deed → Type 0
EndsBy claimed blocks first r p (End answer) = EndsAs claimed blocks first r p answer
EndsBy claimed blocks first r p deed = Unit {0}

step_ends : (claimed : Type 0) (blocks : Blocks) (first : ℕ) (r : Request) (p : Progress) (step : Positioning) → EndsBy claimed blocks first r p (command_of step)
step_ends claimed blocks first r p (SearchFor c y) = tt
step_ends claimed blocks first r p other = tt

line_ends : (claimed : Type 0) (blocks : Blocks) (first : ℕ) (r : Request) (p : Progress) (line : Deed) (rest : List Deed) → AreSaid (line ∷ rest) → EndsBy claimed blocks first r p line
line_ends claimed blocks first r p line rest a = search rules

-- an end in place of a command
open_below : (h : Hand) (segment : Segment) (lines : List Deed) → Open h segment 1 lines → h.progress.done < h.request.count
open_below h segment lines o = omega (arith, o.room)

-- the answer that was decided
ok_usable : (blocks : Blocks) (first done count : ℕ) → done ≡ count → AreUsable blocks first done → AreUsable blocks first count
ok_usable blocks first done count is usable = subst (λ n. AreUsable blocks first n) is usable

cause_is : (cause : Cause) (block : Option (List ℕ)) → (cause ≡ Unforwarded → block ≡ None) → IsCause cause block
cause_is Unforwarded block so = so refl
cause_is other block so = tt

decided : (sure : ℕ → Type 0) (homes : ℕ → Option ℕ) (h : Hand) (sectors : ℕ → List ℕ) (blocks : Blocks) (pack : model.Pack) (lines : List Deed) (answer : Answer)
    → ((b : ℕ) → homes b ≡ home_of h.kind h.table pack b) → ((b : ℕ) → WasMarked b lines → model.is_marked pack b ≡ true) → IsRequest h.request
    → HandStands sure homes (first_block h.kind h.request) h.request h.progress sectors blocks → AnswerStands h.request h.progress answer → EndFits h answer lines
    → EndsAs (IsSure sure homes (first_block h.kind h.request) h.request) blocks (first_block h.kind h.request) h.request h.progress answer
decided sure homes h sectors blocks pack lines (ReadOk bytes) home marks good hand is e = record {
  may = (
    is.0,
    ok_usable blocks (first_block h.kind h.request) h.progress.done h.request.count e.all hand.usable,
    ap length is.1 ∙ hand.size is.0 ∙ ap (λ n. size_of_first n h.request) e.all ∙ whole_size h.request good.some,
    (λ is_sure. is.1 ∙ hand.read is.0 is_sure ∙ ap (λ n. bytes_of_first n blocks (first_block h.kind h.request) h.request) e.all),
  );
  done = e.all;
}
decided sure homes h sectors blocks pack lines WriteOk home marks good hand is e =
    record { may = (is, ok_usable blocks (first_block h.kind h.request) h.progress.done h.request.count e.all hand.usable); done = e.all }
decided sure homes h sectors blocks pack lines (Failed cause done) home marks good hand is e = record {
  may = (
    subst (λ z. z < h.request.count) (sym e.is_done) e.room,
    ok_usable blocks (first_block h.kind h.request) h.progress.done done (sym e.is_done) hand.usable,
    cause_is cause (blocks (first_block h.kind h.request + done)) (λ c. ap (λ z. blocks (first_block h.kind h.request + z)) e.is_done ∙
        no_home_at sure homes (first_block h.kind h.request) h.request h.progress sectors blocks hand
        (home (first_block h.kind h.request + h.progress.done) ∙ ap (λ z. home_of h.kind h.table pack (first_block h.kind h.request + z)) (sym e.is_done)
        ∙ no_home h done pack lines marks (subst (λ z. EndsFailed h z done lines) c e))),
  );
  done = sym e.is_done;
}
decided sure homes h sectors blocks pack lines other home marks good hand is e = absurd e

-- THE END that is due
pub due_ends : (sure : ℕ → Type 0) (homes : ℕ → Option ℕ) (d : DriveState) (h : Hand) (sectors : ℕ → List ℕ) (blocks : Blocks) (pack : model.Pack) (lines : List Deed) (deed : Deed) (stage : Stage)
    → ((b : ℕ) → homes b ≡ home_of h.kind h.table pack b) → ((b : ℕ) → WasMarked b lines → model.is_marked pack b ≡ true) → IsRequest h.request
    → HandStands sure homes (first_block h.kind h.request) h.request h.progress sectors blocks
    → StageStands sure homes (first_block h.kind h.request) h.request h.progress blocks d.work stage → Fits h stage lines → due d h stage ≡ Some deed
    → EndsBy (IsSure sure homes (first_block h.kind h.request) h.request) blocks (first_block h.kind h.request) h.request h.progress deed
due_ends sure homes d h sectors blocks pack lines deed Waiting home marks good hand st f is = absurd (none-some deed is)
due_ends sure homes d h sectors blocks pack lines deed (Steps [] segment) home marks good hand st f is =
    guard_holds (EndsBy (IsSure sure homes (first_block h.kind h.request) h.request) blocks (first_block h.kind h.request) h.request h.progress)
    d.online (is_write h && d.locked) d.valid h.progress.done (transfer_of segment h) deed (same_Some (guarded d h (transfer_of segment h)) deed is)
    (record { may = (open_below h segment lines f, hand.usable, tt); done = refl }) (record { may = (open_below h segment lines f, hand.usable, tt); done = refl }) tt tt
due_ends sure homes d h sectors blocks pack lines deed (Steps (step ∷ left) segment) home marks good hand st f is =
    guard_holds (EndsBy (IsSure sure homes (first_block h.kind h.request) h.request) blocks (first_block h.kind h.request) h.request h.progress)
    d.online (needs_unlocked (command_of step) && d.locked) d.valid h.progress.done (command_of step) deed (same_Some (guarded d h (command_of step)) deed is)
    (record { may = (open_below h segment lines f, hand.usable, tt); done = refl }) (record { may = (open_below h segment lines f, hand.usable, tt); done = refl }) tt
    (step_ends (IsSure sure homes (first_block h.kind h.request) h.request) blocks (first_block h.kind h.request) h.request h.progress step)
due_ends sure homes d h sectors blocks pack lines deed (UnderWay left segment) home marks good hand st f is = absurd (none-some deed is)
due_ends sure homes d h sectors blocks pack lines deed (AtOnce segment) home marks good hand st f is =
    guard_holds (EndsBy (IsSure sure homes (first_block h.kind h.request) h.request) blocks (first_block h.kind h.request) h.request h.progress)
    d.online (is_write h && d.locked) d.valid h.progress.done (transfer_of segment h) deed (same_Some (guarded d h (transfer_of segment h)) deed is)
    (record { may = (open_below h segment lines f, hand.usable, tt); done = refl }) (record { may = (open_below h segment lines f, hand.usable, tt); done = refl }) tt tt
due_ends sure homes d h sectors blocks pack lines deed (Moving segment left last) home marks good hand st f is = absurd (none-some deed is)
due_ends sure homes d h sectors blocks pack lines deed (Saying [] next) home marks good hand st f is = absurd (none-some deed is)
due_ends sure homes d h sectors blocks pack lines deed (Saying (line ∷ rest) next) home marks good hand st f is =
    subst (EndsBy (IsSure sure homes (first_block h.kind h.request) h.request) blocks (first_block h.kind h.request) h.request h.progress) (same_Some line deed is)
    (line_ends (IsSure sure homes (first_block h.kind h.request) h.request) blocks (first_block h.kind h.request) h.request h.progress line rest f.0)
due_ends sure homes d h sectors blocks pack lines deed (Ending answer) home marks good hand st f is =
    subst (EndsBy (IsSure sure homes (first_block h.kind h.request) h.request) blocks (first_block h.kind h.request) h.request h.progress) (same_Some (End answer) deed is)
    (decided sure homes h sectors blocks pack lines answer home marks good hand st f)

-- ---- the next request begins
pub next_stage : (sure : ℕ → Type 0) (homes : ℕ → Option ℕ) (first : ℕ) (r : Request) (p : Progress) (blocks : Blocks) (now : Work) (d : DriveState) (next : Option Request)
    → StageStands sure homes first r p blocks now (begun d next)
next_stage sure homes first r p blocks now d None = tt
next_stage sure homes first r p blocks now d (Some next) = tt

pub next_hand : (sure : ℕ → Type 0) (homes : ℕ → Option ℕ) (first : ℕ) (r : Request) (p : Progress) (sectors : ℕ → List ℕ) (blocks : Blocks) (answer : Answer) (next_first : ℕ) (next : Request)
    → p.done ≡ done_in answer r → HandStands sure homes first r p sectors blocks
    → HandStands sure homes next_first next not_begun sectors (blocks_done blocks first r (done_in answer r))
next_hand sure homes first r p sectors blocks answer next_first next done h =
    begins sure homes next_first next sectors (blocks_done blocks first r (done_in answer r)) (λ b. h.contents b ∙ ap (λ n. blocks_done blocks first r n b) done)
