-- THE END of a request is a step of the map, with as many blocks done as it has come to.
use Rattle.std.proofs.Common.{◌≡◌, inl, inr, ℕ, ◌+◌, ◌<◌, ◌==◌, Bool, true, false, Option, Some, None, refl, sym, ap, ◌∙◌, subst, arith, rules}
use Rattle.std.specs.Prelude.{if◌then◌else◌, unwrap_or}
use Rattle.pack_geometry.specs.declared.DriveKind.{DriveKind}
use Rattle.pack_geometry.specs.Geometry.{place_at, replacement_at}
use Rattle.pack_geometry.specs.Pack.{Pack, is_marked}
use Rattle.pack_geometry.specs.Content.{bytes_at}
use Rattle.pack_geometry.specs.Homes.{home_of, index_in}
use Rattle.pack_geometry.specs.TableSpelling.{Table}
use Rattle.hardware_table.specs.declared.Moved.{Moved}
use Rattle.hardware_table.specs.declared.Moved.TheVariants as verdict
use Rattle.transfer_engine.specs.declared.job.Job.{Job}
use Rattle.transfer_engine.specs.State.{TransferState}
use Rattle.transfer_engine.specs.Calls.{entry_by, entry_for}
use Rattle.trace_replay.specs.declared.requests.answers.AnswerKind.{AnswerKind}
use Rattle.trace_replay.specs.declared.requests.answers.AnswerKind.TheVariants.{ReadOk, WriteOk, Error}
use Rattle.trace_replay.specs.declared.requests.answers.Cause.{Cause}
use Rattle.trace_replay.specs.declared.requests.answers.Cause.TheVariants as cause
use Rattle.driver_laws.specs.rules.Machine.{Blocks}
use Rattle.driver_machine.specs.declared.Task.TheVariants.{Clear, Judge, Steps, Command, GiveUp}
use Rattle.driver_machine.specs.declared.Phase.{Phase}
use Rattle.driver_machine.specs.declared.Phase.TheVariants.{Waiting, Positioning, Queued, Transferring, Due}
use Rattle.driver_machine.specs.World.{UnitView, Held, transfer_of, no_transfer}
use Rattle.driver_machine.specs.Acts.{Scene}
use Rattle.driver_machine.specs.Due.{done_with}
use Rattle.driver_machine.specs.Sound.{IsTask, IsPhase}
use Rattle.driver_machine.proofs.Dues.{AtStart, AtStep, AtTransfer, AtChoice, Offline, Locked, Left, Unforwarded, Tried, Finished, Calls, Ends, IsAtCommand, IsJudged}
use Rattle.driver_laws.proofs.invariant.Scene.{SceneOk, phase_is}
use Rattle.driver_laws.proofs.invariant.DeedFacts.{judged_is}
use Rattle.driver_laws.specs.shown.Bytes.{IsSureFor, IsForwarded, sector_for, HandBears, done_in, last_in, done_by, IsSaid, IsStep}
use Rattle.driver_laws.proofs.shown.Hand.{next_held}
use Rattle.driver_laws.proofs.shown.Deeds.{SceneBears, one_sector}
use Rattle.driver_laws.proofs.shown.End.{eqb_same}

plus_none : (n : ℕ) → n + 0 ≡ n
plus_none n = omega arith

unlisted_home : (kind : DriveKind) (table : Option Table) (pack : Pack) (block : ℕ) → is_marked pack block ≡ true → index_in table (place_at kind block) ≡ None
    → home_of kind table pack block ≡ None
unlisted_home kind table pack block marked none = search rules

-- nor has one whose replacement is marked
replaced_home : (kind : DriveKind) (table : Option Table) (pack : Pack) (block i : ℕ) → IsForwarded kind table pack block i → is_marked pack (replacement_at kind i) ≡ true
    → home_of kind table pack block ≡ None
replaced_home kind table pack block i is marked = search rules

homeless : (index : Option ℕ) (kind : DriveKind) (table : Option Table) (pack : Pack) (first done moved : ℕ)
    → ((i : ℕ) → index ≡ Some i → IsForwarded kind table pack (first + done) i) → ((i : ℕ) → index ≡ Some i → done + moved ≡ done)
    → is_marked pack (sector_for kind index (first + (done + moved))) ≡ true → entry_by index table (place_at kind (first + (done + moved))) ≡ None
    → home_of kind table pack (first + (done + moved)) ≡ None
homeless None kind table pack first done moved forwarded one marked none = unlisted_home kind table pack (first + (done + moved)) marked none
homeless (Some i) kind table pack first done moved forwarded one marked none =
    subst (λ n. home_of kind table pack (first + n) ≡ None) (sym (one i refl)) (replaced_home kind table pack (first + done) i (forwarded i refl) marked)

-- WHAT AN END COMES TO: a step, with the blocks that are done
pub record EndsAt (sure : Type 0) (blocks : Blocks) (h : Held) (kind : AnswerKind) (done : ℕ) : Type 0 where
  pub step : IsStep sure blocks h kind
  pub done_is : done_by kind h ≡ done

module _ (sure : ℕ → Type 0) (pack : Pack) (blocks : Blocks) (u : ℕ) (s : Scene) (ok : SceneOk u s)
    (b : SceneBears sure s.unit.drive.kind pack blocks s) where
  abbrev kind : DriveKind
  kind = s.unit.drive.kind

  abbrev v : UnitView
  v = s.unit

  abbrev t : TransferState
  t = transfer_of s.unit

  abbrev h : Held
  h = s.held

  abbrev now : ℕ
  now = done_in v.phase t s.adapter.state

  abbrev claimed : Type 0
  claimed = IsSureFor sure kind v.table pack h

  now_is : (phase : Phase) → v.phase ≡ phase → now ≡ done_in phase t s.adapter.state
  now_is phase is = ap (λ p. done_in p t s.adapter.state) is

  -- an error that says nothing of the next block
  error_ends : (why : Cause) (done : ℕ) → done ≡ now → IsSaid claimed blocks h (Error why done) → EndsAt claimed blocks h (Error why done) now
  error_ends why done same said = record {
    step = record { usable = λ k lt. b.usable k (subst (λ n. k < n) same lt); said = said };
    done_is = same;
  }

  -- where a command is called for
  called : (phase : Phase) → v.phase ≡ phase → Calls phase → done_with 0 v ≡ now
  called Waiting is AtStart =
      let none : IsPhase u v s.adapter h Waiting = phase_is u s Waiting ok is in
      ap (λ (o : Option TransferState). (unwrap_or o no_transfer).done + 0) none.1 ∙ sym (now_is Waiting is)
  called (Due (Steps taken)) is (AtStep _) = plus_none t.done ∙ sym (now_is (Due (Steps taken)) is)
  called (Due Command) is AtTransfer = plus_none t.done ∙ sym (now_is (Due Command) is)
  called Queued is AtChoice = plus_none t.done ∙ sym (now_is Queued is)
  called (Positioning taken) is calls = elim calls [ ]
  called Transferring is calls = elim calls [ ]
  called (Due (Clear moved last)) is calls = elim calls [ ]
  called (Due (Judge moved last)) is calls = elim calls [ ]
  called (Due (GiveUp done)) is calls = elim calls [ ]

  at_command : IsAtCommand v.phase → done_with 0 v ≡ now
  at_command (inl is) = called (Due Command) is AtTransfer
  at_command (inr is) = called Queued is AtChoice

  judged : (moved : ℕ) (last : Moved) → IsJudged v moved last → HandBears sure kind v.table pack blocks h t (t.done + moved) last
  judged moved last is = subst (λ p. HandBears sure kind v.table pack blocks h t (done_in p t s.adapter.state) (last_in p s.adapter.state)) is.phase b

  judged_now : (moved : ℕ) (last : Moved) → IsJudged v moved last → done_with moved v ≡ now
  judged_now moved last is = sym (now_is (Due (Judge moved last)) is.phase)

  unforwarded : (moved : ℕ) → IsJudged v moved verdict.Marked → entry_for moved v.table t ≡ None → blocks (h.first + (t.done + moved)) ≡ None
  unforwarded moved is entry =
      let task : IsTask v h (Judge moved verdict.Marked) = judged_is u moved verdict.Marked s ok is in
      let here : HandBears sure kind v.table pack blocks h t (t.done + moved) verdict.Marked = judged moved verdict.Marked is in
      let none : entry_by t.index v.table (place_at kind (h.first + (t.done + moved))) ≡ None =
      subst (λ (j : Job). entry_by t.index v.table (place_at j.kind (j.first + (t.done + moved))) ≡ None) task.0.job entry in
      next_held sure kind v.table pack blocks h t (t.done + moved) verdict.Marked here
      ∙ ap (bytes_at pack) (homeless t.index kind v.table pack h.first t.done moved here.forwarded (one_sector t.index t.job t.done moved task.2) here.stopped none)

  finished_ends : (write : Bool) (moved : ℕ) → h.write ≡ write → IsJudged v moved verdict.Clean → done_with moved v == h.loan.count ≡ true
      → EndsAt claimed blocks h (if write then WriteOk else ReadOk h.loan.count h.loan.last) now
  finished_ends true moved writes is over =
      let all : h.loan.count ≡ now = sym (eqb_same over) ∙ judged_now moved verdict.Clean is in
      record { step = record { usable = λ k lt. b.usable k (subst (λ n. k < n) all lt); said = tt }; done_is = all }
  finished_ends false moved reads is over =
      let all : h.loan.count ≡ now = sym (eqb_same over) ∙ judged_now moved verdict.Clean is in
      record {
        step = record {
          usable = λ k lt. b.usable k (subst (λ n. k < n) all lt);
          said = λ sures k lt. b.read reads sures k (subst (λ n. k < n) all lt);
        };
        done_is = all;
      }

  pub end_comes : (answer : AnswerKind) → Ends v h answer → EndsAt claimed blocks h answer now
  end_comes _ (Offline off calls) = error_ends cause.Offline (done_with 0 v) (called v.phase refl calls) tt
  end_comes _ (Locked on locked at) = error_ends cause.Locked (done_with 0 v) (at_command at) tt
  end_comes _ (Left moved is) = error_ends cause.Offline (done_with moved v) (judged_now moved verdict.Offline is) tt
  end_comes _ (Unforwarded moved is entry) = error_ends cause.Unforwarded (done_with moved v) (judged_now moved verdict.Marked is) (unforwarded moved is entry)
  end_comes _ (Tried done is) = error_ends (cause.Fault 28) done (sym (now_is (Due (GiveUp done)) is)) tt
  end_comes _ (Finished moved is over) = finished_ends h.write moved refl is over
