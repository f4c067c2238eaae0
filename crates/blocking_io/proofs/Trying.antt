-- An event whose text the trace did not take whole: only a move touches the packs, and it does one act.
use Rattle.std.proofs.Common.{◌≡◌, ◌⊎◌, inl, inr, ℕ, Bool, true, false, IsTrue, List, [], ◌∷◌, ◌++◌, take, drop, Option, refl, sym, ap, subst, ◌∙◌, append-nil}
use Rattle.std.proofs.lemmas.Bool.{false≢true}
use Rattle.pack_geometry.specs.declared.DriveKind.{DriveKind}
use Rattle.hardware_table.specs.Adapter.{next_block}
use Rattle.pack_geometry.specs.Pack.{Pack}
use Rattle.trace_replay.specs.Moments.{Moment}
use Rattle.trace_replay.specs.Script as says
use Rattle.trace_replay.specs.Script.{Input}
use Rattle.trace_replay.specs.Replay.{Replay, Follows, AreLeft, after_moments}
use Rattle.driver_laws.specs.rules.Beginnings.{QuietMomentsKeep}
use Rattle.driver_machine.specs.World.{World, unit_of, adapter_at}
use Rattle.driver_machine.specs.Acts.{Act, Nothing, Tried, Sector}
use Rattle.driver_machine.specs.Lines.{lines_of_all}
use Rattle.driver_machine.specs.Events.{event_acts, can_move, in_hand, or_nothing}
use Rattle.driver_machine.specs.Sound.{Sound}
use Rattle.driver_machine.specs.Runs.{Run, MayCome}
use Rattle.driver_laws.proofs.invariant.Deeds.{deed_at}
use Rattle.driver_laws.specs.answers.Packs.{ReadAll, packs_after_all}
use Rattle.driver_laws.specs.answers.Outcome.{IsNextBlock}
use Rattle.driver_laws.specs.declared.answers.outcome.Stop.TheVariants.{Store}
use Rattle.driver_laws.specs.shown.Calls.{IsReadOf}
use Rattle.driver_laws.specs.shown.Noises.{AllFlip}
use Rattle.driver_laws.specs.shown.Within.{ShowsAll}
use Rattle.hp_driver.proofs.Passes.{event_fronts}
use Rattle.driver_laws.specs.shown.RunsRuns.{AreDeclared}
use Rattle.driver_laws.proofs.shown.Sectors.{IsNoMove, event_quiet}
use Rattle.driver_laws.specs.shown.NextBlock.{NextBlocksShow}
use Rattle.hp_driver.specs.Subsystem.{IsThere, is_move}
use Rattle.hp_driver.proofs.Moves.{one_act, tried_by_rules, read_from}
use Rattle.blocking_io.specs.Calls.{Stage, EventTellsFront, MoveFails}
use Rattle.blocking_io.specs.Stopping.{LeftAt}

-- ---- A MOVE
abbrev pub HasOne : List Act → Type 0
HasOne acts = (x : Act) × (acts ≡ x ∷ [])

pub one_front : (acts done left : List Act) (x : Act) → acts ≡ x ∷ [] → acts ≡ done ++ left → (done ≡ []) ⊎ (done ≡ acts)
one_front acts [] left x one all = inl refl
one_front acts (d ∷ []) left x one all =
    inr (sym (ap (λ (l : List Act). take 1 l) all) ∙ ap (λ (l : List Act). take 1 l) one ∙ sym one)
one_front acts (d ∷ e ∷ done) left x one all = absurd (differ (sym (ap (λ (l : List Act). drop 1 l) one) ∙ ap (λ (l : List Act). drop 1 l) all))
  where
    differ : [] ≡ e ∷ (done ++ left) → ⊥
    differ is = cc

acts_one : (b : Bool) (line a : ℕ) (tried : Tried) (w : World) → Sound w → can_move (adapter_at w a) ≡ b → HasOne (event_acts line (says.MoveAt a) tried w)
acts_one true line a tried w sound can = (deed_at line (unit_of w a) (Sector (next_block (adapter_at w a).state) tried) w, one_act w line a tried sound can)
acts_one false line a tried w sound can =
    (Nothing line, ap (λ (b : Bool). or_nothing b line (in_hand line (unit_of w a) (Sector (next_block (adapter_at w a).state) tried)) w) can)

pub record IsMoveOf (line : ℕ) (input : Input) (tried : Tried) (w : World) (held : ℕ → Pack) : Type 0 where
  pub one : HasOne (event_acts line input tried w)
  pub may : Run w (event_acts line input tried w) → MayCome w input tried
  pub reads : ReadAll w held (event_acts line input tried w) → IsReadOf w held input tried

pub move_of : (line : ℕ) (input : Input) (tried : Tried) (w : World) (held : ℕ → Pack) → is_move input ≡ true → Sound w → AllFlip w.book.live → IsMoveOf line input tried w held
move_of line (says.MoveAt a) tried w held is sound noise = record {
  one = acts_one (can_move (adapter_at w a)) line a tried w sound refl;
  may = λ run can. tried_by_rules w line a tried sound can run;
  reads = λ reads can. read_from w line a tried sound can held noise reads;
}
move_of line other tried w held is sound noise = absurd (false≢true is)

-- ---- ANY OTHER EVENT may come wherever it speaks of what is there.
still_may : (input : Input) (tried : Tried) (w : World) (held : ℕ → Pack) → is_move input ≡ false → IsThere w input → MayCome w input tried × IsReadOf w held input tried
still_may (says.MoveAt a) tried w held is there = absurd (false≢true (sym is))
still_may (says.Submit r) tried w held is there = absurd there
still_may (says.ArriveAt u) tried w held is there = (tt, tt)
still_may (says.AttendTo a) tried w held is there = (tt, tt)
still_may says.Drain tried w held is there = absurd there
still_may other tried w held is there = (there, tt)

pub no_move : (input : Input) → is_move input ≡ false → IsNoMove input
no_move (says.MoveAt a) is = absurd (false≢true (sym is))
no_move input is = tt

-- ---- WHERE AN EVENT BEGINS, behind moments that follow: the packs are as these leave them; and done whole it would follow, and the
-- packs would be as it leaves them.
pub record Whole (drives : ℕ → Option DriveKind) (old left : ℕ → Pack) (start : Replay) (moments : List Moment) : Type 0 where
  pub follows : Follows start moments
  pub packs : AreLeft drives old left (after_moments start moments).surface

pub record Begins (line : ℕ) (drives : ℕ → Option DriveKind) (old held : ℕ → Pack) (w : World) (input : Input) (start : Replay) (moments : List Moment) : Type 0 where
  pub sound : Sound w
  pub shows : ShowsAll w (after_moments start moments)
  pub units : AreDeclared drives w
  pub so_far : Whole drives old held start moments
  pub goes : (tried : Tried) → MayCome w input tried → IsReadOf w held input tried
      → Whole drives old (packs_after_all w held (event_acts line input tried w)) start (moments ++ lines_of_all w (event_acts line input tried w))

-- ---- ITS FIRST ACTS, whose text the trace did not take whole
module _ (quiet_keep : QuietMomentsKeep) (line : ℕ) (drives : ℕ → Option DriveKind) (old : ℕ → Pack) (mid new : Stage) (input : Input) (sent : List ℕ) (start : Replay) (moments : List Moment)
    (at : Begins line drives old mid.held mid.world input start moments) (told : IsTrue new.packs_tell) (e : EventTellsFront sent line input mid new) where
  abbrev TellsIts : List Act → Type 0
  TellsIts done = Whole drives old new.held start (moments ++ lines_of_all mid.world done)

  abbrev All : List Act
  All = event_acts line input e.tried mid.world

  still_tells : is_move input ≡ false → TellsIts e.tells.done
  still_tells is =
      let may : MayCome mid.world input e.tried × IsReadOf mid.world mid.held input e.tried = still_may input e.tried mid.world mid.held is e.there in
      record {
        follows = event_fronts start moments mid.world All e.tells.done e.tells.left (at.goes e.tried may.0 may.1).follows e.tells.all;
        packs = quiet_keep drives old new.held start moments (lines_of_all mid.world e.tells.done)
            (event_quiet line input e.tried mid.world e.tells.done e.tells.left (no_move input is) e.tells.all)
            (subst (λ (held : ℕ → Pack). AreLeft drives old held (after_moments start moments).surface) (sym (e.still is)) at.so_far.packs);
      }

  tells_move : is_move input ≡ true → TellsIts e.tells.done
  tells_move is = by (one_front All e.tells.done e.tells.left its.one.0 its.one.1 e.tells.all)
    where
      its : IsMoveOf line input e.tried mid.world mid.held
      its = move_of line input e.tried mid.world mid.held is at.sound e.noise

      none_done : e.tells.done ≡ [] → TellsIts e.tells.done
      none_done none =
          let same : new.held ≡ mid.held = e.tells.packs told ∙ ap (λ (done : List Act). packs_after_all mid.world mid.held done) none in
          subst (λ (done : List Act). TellsIts done) (sym none)
          (subst (Whole drives old new.held start) (sym (append-nil moments))
          (subst (λ (held : ℕ → Pack). Whole drives old held start moments) (sym same) at.so_far))

      all_done : e.tells.done ≡ All → TellsIts e.tells.done
      all_done all =
          let same : new.held ≡ packs_after_all mid.world mid.held All = e.tells.packs told ∙ ap (λ (done : List Act). packs_after_all mid.world mid.held done) all in
          subst (λ (done : List Act). TellsIts done) (sym all)
          (subst (λ (held : ℕ → Pack). Whole drives old held start (moments ++ lines_of_all mid.world All)) (sym same)
          (at.goes e.tried (its.may (subst (Run mid.world) all e.tells.run)) (its.reads (subst (ReadAll mid.world mid.held) all (e.tells.reads told)))))

      by : (e.tells.done ≡ []) ⊎ (e.tells.done ≡ All) → TellsIts e.tells.done
      by (inl none) = none_done none
      by (inr all) = all_done all

  pub event_tells : TellsIts e.tells.done
  event_tells = by (is_move input) refl
    where
      by : (b : Bool) → is_move input ≡ b → TellsIts e.tells.done
      by true is = tells_move is
      by false is = still_tells is

-- ---- THE PACKS FAILED
pub event_fails : NextBlocksShow → (line : ℕ) (drives : ℕ → Option DriveKind) (old : ℕ → Pack) (mid new : Stage) (input : Input) (start : Replay) (moments : List Moment)
    → Begins line drives old mid.held mid.world input start moments → IsTrue new.packs_tell → MoveFails input mid new
    → LeftAt Store drives old new.held (after_moments start moments)
event_fails next_shows line drives old mid new input start moments at told e = by (e.packs told)
  where
    by : (new.held ≡ mid.held) ⊎ IsNextBlock mid.world mid.held new.held → LeftAt Store drives old new.held (after_moments start moments)
    by (inl same) = inl (subst (λ (held : ℕ → Pack). AreLeft drives old held (after_moments start moments).surface) (sym same) at.so_far.packs)
    by (inr next) = inr (next_shows drives old mid.held new.held (after_moments start moments) mid.world at.sound at.shows at.units at.so_far.packs next).at
