-- Sessions of requests, one behind the other.
use Rattle.std.proofs.Common.{◌≡◌, inl, inr, ℕ, ◌==◌, not, List, [], ◌∷◌, ◌++◌, length, Option, refl, sym, ap, subst, ◌∙◌, append-nil, append_assoc}
use Rattle.std.specs.Prelude.{slice_index}
use Rattle.std.proofs.lemmas.Grind.{flat_map-append}
use Rattle.pack_geometry.specs.declared.DriveKind.{DriveKind}
use Rattle.pack_geometry.specs.Pack.{Pack, with_written}
use Rattle.trace_replay.specs.Moments.{Moment, Played}
use Rattle.trace_replay.specs.Text.{trace_text, moment_text}
use Rattle.trace_replay.specs.Packs.{Surface, sector_of_block}
use Rattle.trace_replay.specs.Service.{in_hand}
use Rattle.trace_replay.specs.Replay.{Replay, AreLeft, after_moment, after_moments}
use Rattle.driver_laws.specs.rules.Beginnings.{IsNextSector, with_next}
use Rattle.driver_laws.specs.rules.Stands.{Setup}
use Rattle.driver_laws.specs.answers.Outcome.{IsFront}
use Rattle.driver_laws.specs.declared.answers.outcome.Stop.{Stop}
use Rattle.driver_laws.specs.declared.answers.outcome.Stop.TheVariants.{Store, Sink}
use Rattle.driver_laws.proofs.answers.Joined.{front_more, front_of_front}
use Rattle.driver_laws.specs.shown.RunsRuns.{Stay}
use Rattle.driver_laws.specs.shown.Lengths.{length_behind, AreAsLong}
use Rattle.driver_laws.proofs.shown.Lengths.{long_append}
use Rattle.driver_laws.proofs.rules.Quiet.{after_parts}
use Rattle.driver_laws.specs.shown.NextBlock.{HasNext}
use Rattle.driver_laws.specs.rules.Sessions.{Part, IsSession, behind, behind_all, told_in}
use Rattle.driver_laws.specs.rules.Waited.{with_packs}
use Rattle.hp_driver.specs.Passes.{StandsQuiet}
use Rattle.blocking_io.specs.Calls.{Stage}
use Rattle.blocking_io.specs.Asking.{setup_at, moments_in}
use Rattle.blocking_io.specs.Stopping.{Took, LeftAt, LongAt, IsCut}
use Rattle.blocking_io.specs.Sessions.{Reaches, AnswersReach, SessionsJoin, StopsJoin}

-- ---- PARTS
session_append : (s : Replay) (xs ys : List Part) → IsSession s xs → IsSession (behind_all s xs) ys → IsSession s (xs ++ ys)
session_append s [] ys one other = other
session_append s (x ∷ xs) ys one other = (one.0, session_append (behind s x) xs ys one.1 other)

behind_append : (s : Replay) (xs ys : List Part) → behind_all s (xs ++ ys) ≡ behind_all (behind_all s xs) ys
behind_append s [] ys = refl
behind_append s (x ∷ xs) ys = behind_append (behind s x) xs ys

told_append : (xs ys : List Part) → told_in (xs ++ ys) ≡ told_in xs ++ told_in ys
told_append [] ys = refl
told_append (x ∷ xs) ys = ap (λ (ms : List Moment). x.told ++ ms) (told_append xs ys) ∙ sym (append_assoc x.told (told_in xs) (told_in ys))

moments_both : (xs ys : List Part) → moments_in (xs ++ ys) ≡ moments_in xs ++ moments_in ys
moments_both [] ys = refl
moments_both (x ∷ xs) ys = ap (λ (ms : List Moment). Played x.line x.input ∷ ms)
    (ap (λ (ms : List Moment). x.told ++ ms) (moments_both xs ys) ∙ sym (append_assoc x.told (moments_in xs) (moments_in ys)))

behind_moments : (s : Replay) (xs : List Part) → behind_all s xs ≡ after_moments s (moments_in xs)
behind_moments s [] = refl
behind_moments s (x ∷ xs) = behind_moments (behind s x) xs ∙ sym (after_parts (after_moment s (Played x.line x.input)) x.told (moments_in xs))

-- images as long as both have made them
long_both : (s : Replay) (xs ys : List Part) (old mid new : ℕ → Pack) → AreAsLong s (moments_in xs) old mid → AreAsLong (behind_all s xs) (moments_in ys) mid new → AreAsLong s (moments_in (xs ++ ys)) old new
long_both s xs ys old mid new one other unit =
    other unit
    ∙ ap (λ (n : ℕ). length_behind (behind_all s xs) (moments_in ys) unit n) (one unit)
    ∙ ap (λ (z : Replay). length_behind z (moments_in ys) unit (length_behind s (moments_in xs) unit (length (old unit).image))) (behind_moments s xs)
    ∙ sym (long_append s (moments_in xs) (moments_in ys) unit (length (old unit).image))
    ∙ ap (λ (ms : List Moment). length_behind s ms unit (length (old unit).image)) (sym (moments_both xs ys))

both_text : (xs ys : List Part) → trace_text (told_in (xs ++ ys)) ≡ trace_text (told_in xs) ++ trace_text (told_in ys)
both_text xs ys = ap trace_text (told_append xs ys) ∙ flat_map-append moment_text (told_in xs) (told_in ys)

more_text : (xs ys : List Part) (old mid : List ℕ) → mid ≡ old ++ trace_text (told_in xs) → mid ++ trace_text (told_in ys) ≡ old ++ trace_text (told_in (xs ++ ys))
more_text xs ys old mid is =
    ap (λ (text : List ℕ). text ++ trace_text (told_in ys)) is ∙ append_assoc old (trace_text (told_in xs)) (trace_text (told_in ys))
    ∙ ap (λ (text : List ℕ). old ++ text) (sym (both_text xs ys))

took_behind : (stop : Stop) (xs ys : List Part) (old mid new : List ℕ) → mid ≡ old ++ trace_text (told_in xs) → Took stop mid new (trace_text (told_in ys))
    → Took stop old new (trace_text (told_in (xs ++ ys)))
took_behind Sink xs ys old mid new is took = record {
  least = front_of_front old mid new (subst (IsFront old) (sym is) (front_more old (trace_text (told_in xs)))) took.least;
  most = subst (IsFront new) (more_text xs ys old mid is) took.most;
}
took_behind Store xs ys old mid new is took = took ∙ more_text xs ys old mid is

-- ---- PACKS
stay_both : (drives : ℕ → Option DriveKind) (old mid new : ℕ → Pack) → Stay drives old mid → Stay drives mid new → Stay drives old new
stay_both drives old mid new one other = record {
  beyond = λ unit kind is. other.beyond unit kind is ∙ one.beyond unit kind is;
  marks = λ unit. other.marks unit ∙ one.marks unit;
  others = λ unit none. other.others unit none ∙ one.others unit none;
}

left_both : (drives : ℕ → Option DriveKind) (old mid new : ℕ → Pack) (s : Surface) → Stay drives old mid → AreLeft drives mid new s → AreLeft drives old new s
left_both drives old mid new s stay left = record {
  sectors = left.sectors;
  beyond = λ unit kind is. left.beyond unit kind is ∙ stay.beyond unit kind is;
  marks = λ unit. left.marks unit ∙ stay.marks unit;
  others = λ unit none. left.others unit none ∙ stay.others unit none;
}

next_both : (drives : ℕ → Option DriveKind) (old mid new : ℕ → Pack) (s : Replay) → Stay drives old mid → HasNext drives mid new s → HasNext drives old new s
next_both drives old mid new s stay next = record {
  unit = next.unit;
  block = next.block;
  kind = next.kind;
  declared = next.declared;
  next = record {
    segment = next.next.segment;
    left = next.next.left;
    stage = next.next.stage;
    some = next.next.some;
    writes = next.next.writes;
    is = next.next.is;
    unmarked = sym (ap (λ (marks : List ℕ). not (slice_index marks next.block == 0)) (stay.marks next.unit)) ∙ next.next.unmarked;
  };
  packs = left_both drives old mid new (with_next s next.unit next.block) stay next.packs;
}

left_behind : (stop : Stop) (drives : ℕ → Option DriveKind) (old mid new : ℕ → Pack) (s : Replay) → Stay drives old mid → LeftAt stop drives mid new s → LeftAt stop drives old new s
left_behind Sink drives old mid new s stay left = left_both drives old mid new s.surface stay left
left_behind Store drives old mid new s stay (inl left) = inl (left_both drives old mid new s.surface stay left)
left_behind Store drives old mid new s stay (inr next) = inr (next_both drives old mid new s stay next)

long_behind : (stop : Stop) (s : Replay) (xs ys : List Part) (old mid new : ℕ → Pack) → AreAsLong s (moments_in xs) old mid → LongAt stop ys mid new (behind_all s xs) → LongAt stop (xs ++ ys) old new s
long_behind Sink s xs ys old mid new one long = long_both s xs ys old mid new one long
long_behind Store s xs ys old mid new one (inl long) = inl (long_both s xs ys old mid new one long)
long_behind Store s xs ys old mid new one (inr more) = inr (record {
  held = more.held;
  long = long_both s xs ys old mid more.held one more.long;
  unit = more.unit;
  block = more.block;
  next = subst (λ (r : Replay). IsNextSector (r.units more.unit) (more.held more.unit) more.block) (sym (behind_append s xs ys)) more.next;
  is = subst (λ (r : Replay). new ≡ with_written more.held more.unit more.block (sector_of_block (in_hand (r.units more.unit).service) (r.units more.unit).progress.done))
      (sym (behind_append s xs ys)) more.is;
})

-- ---- A REQUEST THAT IS ANSWERED
pub answers_reach : AnswersReach
answers_reach line r old new answers = record {
  trace = λ t. answers.trace t ∙ ap (λ (ms : List Moment). old.taken ++ trace_text (answers.asked ++ ms)) (sym (append-nil answers.drained));
  setup = answers.setup;
  stays = answers.stays;
  long = λ t tables s q. answers.long t s q;
  tables = λ t tables. (answers.mapped t tables).tables;
  reaches = λ t tables s q. record {
    session = ((answers.mapped t tables).follows s q).session;
    stands = ((answers.mapped t tables).follows s q).stands;
  };
}

-- ---- ONE BEHIND THE OTHER
same_drives : (old mid : Stage) → setup_at mid ≡ with_packs (setup_at old) mid.held → (setup_at mid).drives ≡ (setup_at old).drives
same_drives old mid is = ap (λ (z : Setup). z.drives) is

pub sessions_join : SessionsJoin
sessions_join xs ys old mid new first next still = record {
  trace = λ t. next.trace t ∙ more_text xs ys old.taken mid.taken (first.trace (still.trace t));
  setup = next.setup ∙ ap (λ (z : Setup). with_packs z new.held) first.setup;
  stays = λ t. stay_both (setup_at old).drives old.held mid.held new.held (first.stays (still.packs t))
      (subst (λ (drives : ℕ → Option DriveKind). Stay drives mid.held new.held) (same_drives old mid first.setup) (next.stays t));
  long = λ t tables s q. long_both s xs ys old.held mid.held new.held (first.long (still.packs t) tables s q)
      (next.long t (first.tables (still.packs t) tables) (behind_all s xs) (first.reaches (still.packs t) tables s q).stands);
  tables = λ t tables. next.tables t (first.tables (still.packs t) tables);
  reaches = λ t tables s q.
      let one : Reaches xs mid s = first.reaches (still.packs t) tables s q in
      let other : Reaches ys new (behind_all s xs) = next.reaches t (first.tables (still.packs t) tables) (behind_all s xs) one.stands in
      record {
        session = session_append s xs ys one.session other.session;
        stands = subst (StandsQuiet new.held new.world) (sym (behind_append s xs ys)) other.stands;
      };
}

pub stops_join : StopsJoin
stops_join stop xs ys old mid new first next still = record {
  trace = λ t. took_behind stop xs ys old.taken mid.taken new.taken (first.trace (still.trace t)) (next.trace t);
  cut = λ t tables s q.
      let one : Reaches xs mid s = first.reaches (still.packs t) tables s q in
      let other : IsCut stop ys mid new (behind_all s xs) = next.cut t (first.tables (still.packs t) tables) (behind_all s xs) one.stands in
      record {
        session = session_append s xs ys one.session other.session;
        packs = left_behind stop (setup_at old).drives old.held mid.held new.held (behind_all s (xs ++ ys)) (first.stays (still.packs t))
            (subst (λ (z : Replay). LeftAt stop (setup_at old).drives mid.held new.held z) (sym (behind_append s xs ys))
            (subst (λ (drives : ℕ → Option DriveKind). LeftAt stop drives mid.held new.held (behind_all (behind_all s xs) ys)) (same_drives old mid first.setup) other.packs));
        long = long_behind stop s xs ys old.held mid.held new.held (first.long (still.packs t) tables s q) other.long;
      };
}
