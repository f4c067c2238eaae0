-- A part of a session is a line of the machine of blocks, whatever the number of the line before it.
use Rattle.std.proofs.Common.{◌≡◌, ℕ, ◌≤◌, List, [], ◌∷◌, ◌++◌, refl, sym, ap, ◌∙◌, subst, rules}
use Rattle.pack_geometry.specs.PackTable.{AreTablesOf}
use Rattle.hardware_table.specs.Noise.{LiveNoise}
use Rattle.trace_replay.specs.requests.Requests.{Request}
use Rattle.trace_replay.specs.Script.{Input, Submit, IsInput, AreApart}
use Rattle.trace_replay.specs.Moments.{Moment, Played, Told, Idle, played, answers_in, Answered}
use Rattle.trace_replay.specs.Events.{Event}
use Rattle.trace_replay.specs.Replay.{Replay, Submission, Refused, Joined, submission, submitted, event_of, InputMay, Follows, after_moment, after_moments}
use Rattle.driver_laws.specs.rules.Machine.{Machine}
use Rattle.driver_laws.specs.rules.LegalAnswers.{AnswersAt, AnswersTo}
use Rattle.driver_laws.specs.rules.Stands.{Setup, StandsFor, owed, armed_by, armed_behind}
use Rattle.driver_laws.proofs.rules.MachineUnits.{Keeps}
use Rattle.driver_laws.proofs.rules.Kept.{moment_kept}
use Rattle.driver_laws.proofs.rules.MachineRuns.{more_sure}
use Rattle.driver_laws.proofs.rules.Lines.{other_event}
use Rattle.driver_laws.proofs.rules.Inputs.{append_nil, over_owes}
use Rattle.driver_laws.proofs.rules.Steps.{moment_step, beginning_kept}
use Rattle.driver_laws.proofs.rules.Asked.{AreFree}
use Rattle.driver_laws.proofs.rules.Beginnings.{AreCovered, Goes, GoesOn, goes, played_goes}
use Rattle.driver_laws.specs.rules.Sessions.{Part, MayPlay, behind, IsPart}
use Rattle.driver_laws.proofs.rules.IdsAsked.{ids_asked}
use Rattle.driver_laws.proofs.rules.MomentSteps.{AreGiven, IsNew, MomentStep, sure_claims}

-- ---- the number of the last line is not seen
abbrev pub numbered : ℕ → Replay → Replay
numbered n s = record s { event = record s.event { line = n } }

submitted_same : (s : Replay) (n : ℕ) (r : Request) (met : Submission) (event : Event) → record (submitted (numbered n s) r met) { event = event } ≡ record (submitted s r met) { event = event }
submitted_same s n r (Refused why) event = refl
submitted_same s n r Joined event = refl

pub same_behind : (s : Replay) (n line : ℕ) (input : Input) → after_moment (numbered n s) (Played line input) ≡ after_moment s (Played line input)
same_behind s n line (Submit r) = submitted_same s n r (submission s r) (event_of s line (Submit r))
same_behind s n line other = refl

numbered_keeps : (setup : Setup) (s : Replay) (n : ℕ) → Keeps setup s → Keeps setup (numbered n s)
numbered_keeps setup s n k = record { lines = k.lines; fits = k.fits; marked = k.marked; kinds = k.kinds; tables = k.tables; marks = k.marks; quiet = k.quiet; refusing = k.refusing }

pub may_input : (s : Replay) (line : ℕ) → 1 ≤ line → MayPlay s → InputMay (numbered 0 s) line
may_input s line some may = search rules

-- lines of a trace play nothing
lines_given : (setup : Setup) (ms : List Moment) → played ms ≡ [] → AreGiven setup.drives ms
lines_given setup [] none = tt
lines_given setup (Played line input ∷ ms) none = search rules
lines_given setup (Told line unit id deed ∷ ms) none = (tt, lines_given setup ms none)
lines_given setup (Idle line ∷ ms) none = (tt, lines_given setup ms none)

-- ---- A PART
pub record PartStep (setup : Setup) (armed : List LiveNoise) (s : Replay) (m : Machine) (p : Part) : Type 0 where
  pub new : Machine
  pub answered : AnswersAt setup.drives (sure_claims setup (armed_by armed p.input)) m (record { line = p.line; input = p.input }) (answers_in p.told ++ owed (behind s p)) new
  pub stands : StandsFor setup (armed_by armed p.input) (behind s p) new
  pub keeps : Keeps setup (behind s p)

one_line : (setup : Setup) (armed : List LiveNoise) (m : Machine) (p : Part) (answers : List Answered) (new : Machine) → played p.told ≡ []
    → AnswersTo setup.drives (sure_claims setup (armed_by armed p.input)) m (record { line = p.line; input = p.input } ∷ played p.told) answers new
    → AnswersAt setup.drives (sure_claims setup (armed_by armed p.input)) m (record { line = p.line; input = p.input }) answers new
one_line setup armed m p answers new none is =
    at (subst (λ z. AnswersTo setup.drives (sure_claims setup (armed_by armed p.input)) m (record { line = p.line; input = p.input } ∷ z) answers new) none is)
  where
    at : AnswersTo setup.drives (sure_claims setup (armed_by armed p.input)) m (record { line = p.line; input = p.input } ∷ []) answers new
        → AnswersAt setup.drives (sure_claims setup (armed_by armed p.input)) m (record { line = p.line; input = p.input }) answers new
    at one = subst (λ z. AnswersAt setup.drives (sure_claims setup (armed_by armed p.input)) m (record { line = p.line; input = p.input }) answers z) (sym one.5.1)
        (subst (λ z. AnswersAt setup.drives (sure_claims setup (armed_by armed p.input)) m (record { line = p.line; input = p.input }) z one.2)
        (sym (one.3 ∙ ap (λ z. one.0 ++ z) one.5.0 ∙ append_nil one.0)) one.4)

module _ (setup : Setup) (armed : List LiveNoise) (s : Replay) (m : Machine) (p : Part) (are : AreTablesOf setup.drives setup.packs setup.tables) (k : Keeps setup s) (h : StandsFor setup armed s m)
    (is : IsPart s p) (given : IsInput setup.drives p.input) (new : IsNew m (Played p.line p.input)) where
  abbrev Low : Replay
  Low = numbered 0 s

  low_may : InputMay Low p.line
  low_may = may_input s p.line is.number is.may

  pub step : MomentStep setup armed Low m (Played p.line p.input)
  step = moment_step setup armed Low m (Played p.line p.input) are (numbered_keeps setup s 0 k) (other_event setup armed s m (record s.event { line = 0 }) h) low_may given new

  pub first_keeps : Keeps setup (after_moment s (Played p.line p.input))
  first_keeps = subst (Keeps setup) (same_behind s 0 p.line p.input) (moment_kept setup Low (Played p.line p.input) (numbered_keeps setup s 0 k) given low_may)

  pub first_stands : StandsFor setup (armed_by armed p.input) (after_moment s (Played p.line p.input)) step.new
  first_stands = subst (λ z. StandsFor setup (armed_by armed p.input) z step.new) (same_behind s 0 p.line p.input) step.stands

  told : Goes setup (sure_claims setup (armed_by armed p.input)) (armed_by armed p.input) (after_moment Low (Played p.line p.input)) step.new p.told
  told = goes setup (sure_claims setup (armed_by armed p.input)) (armed_by armed p.input) (after_moment Low (Played p.line p.input)) step.new p.told are
      (moment_kept setup Low (Played p.line p.input) (numbered_keeps setup s 0 k) given low_may) step.stands
      (subst (λ z. Follows z p.told) (sym (same_behind s 0 p.line p.input)) is.follows)
      (lines_given setup p.told is.lines_alone) (subst (λ z. AreApart (ids_asked z)) (sym is.lines_alone) tt)
      (subst (λ z. AreFree (ids_asked z) (Machine.outstanding step.new)) (sym is.lines_alone) tt)
      (subst (AreCovered setup (sure_claims setup (armed_by armed p.input))) (sym is.lines_alone) tt) (λ at r le claimed. claimed)

  all : GoesOn setup (sure_claims setup (armed_by armed p.input)) armed Low m (Played p.line p.input ∷ p.told)
  all = played_goes setup (sure_claims setup (armed_by armed p.input)) armed Low m p.line p.input p.told low_may.later
      (λ at r le claimed b sector lt home. more_sure armed p.input r.unit sector (claimed b sector lt home)) step told

  behind_is : after_moments Low (Played p.line p.input ∷ p.told) ≡ behind s p
  behind_is = ap (λ z. after_moments z p.told) (same_behind s 0 p.line p.input)

  pub part_step : PartStep setup armed s m p
  part_step = record {
    new = all.last;
    answered = subst (λ z. AnswersAt setup.drives (sure_claims setup (armed_by armed p.input)) m (record { line = p.line; input = p.input }) (answers_in p.told ++ owed z) all.last) behind_is
        (subst (λ z. AnswersAt setup.drives (sure_claims setup (armed_by armed p.input)) m (record { line = p.line; input = p.input }) z all.last)
        (sym (all.order ∙ ap (λ z. z ++ all.rest) (over_owes (Rattle.trace_replay.specs.Replay.next_wish Low) 0 low_may.over)))
        (one_line setup armed m p all.rest all.last is.lines_alone all.more));
    stands = subst (λ z. StandsFor setup (armed_by armed p.input) z all.last) behind_is
        (subst (λ z. StandsFor setup (armed_behind (armed_by armed p.input) z) (after_moments Low (Played p.line p.input ∷ p.told)) all.last) is.lines_alone all.stands);
    keeps = beginning_kept setup (after_moment s (Played p.line p.input)) p.told first_keeps (lines_given setup p.told is.lines_alone) is.follows;
  }
