-- What a line asks for: how it is answered, and what it leaves.
use Rattle.std.proofs.Common.{◌≡◌, ℕ, ◌+◌, ◌≤◌, List, [], length, Option, None, Some, refl, sym, ap, subst}
use Rattle.std.specs.Prelude.{Result, Ok, Err, IsErrAnd, option_map}
use Rattle.partitions.specs.declared.Part.TheVariants.{C}
use Rattle.partitions.specs.declared.Admission.TheVariants.{Inside, Eof, Outside}
use Rattle.partitions.specs.Partitions.{admission, first_of}
use Rattle.trace_replay.specs.requests.Requests.{Request}
use Rattle.trace_replay.specs.declared.requests.answers.AnswerKind.{AnswerKind}
use Rattle.trace_replay.specs.declared.requests.answers.AnswerKind.TheVariants as answer
use Rattle.trace_replay.specs.declared.requests.answers.Cause.TheVariants as cause
use Rattle.driver_laws.specs.declared.answers.outcome.Stop.{Stop}
use Rattle.buffer_cache.proofs.Passes.{keeps_none}
use Rattle.buffer_cache.specs.Passes.{kind_at, seen}
use Rattle.buffer_cache.specs.Calls.{MayUse}
use Rattle.script_reader.specs.declared.cached.statement.Asked.{Asked}
use Rattle.script_reader.specs.cached.Meaning.{one_filled}
use Rattle.cached_run.specs.Answers.{replaced_with}
use Rattle.cached_run.specs.Sessions.{blocks_at, calls_with}
use Rattle.cached_run.specs.Leaving.{IsCalled, IsCutIn, Leaves, Makes, touches, tried_in, usable_in}
use Rattle.cached_run.specs.Saying.{kind_by, GivesAmong, IsSaid}
use Rattle.cached_run.specs.Places.{AreMoved, Answers, MovesAll, Place, asked_with, contents_at, moved, whole_by, world_at}
use Rattle.cached_run.proofs.Calls.{called_none}
use Rattle.cached_run.proofs.Keepings.{setup_none}
use Rattle.cached_run.proofs.Leavings.{leaves_none, makes_none}
use Rattle.cached_run.proofs.Sayings.{outside_said, eof_said, asked_read, asked_write, none_read, spread_is, touches_read, touches_write, none_outside, none_eof, read_among, wrote_among}

-- ---- its partition refuses it
module _ (line : ℕ) (r : Request) (lines : List (List ℕ)) (here : Place) (may : MayUse here.cache here.spot.driver) where
  refused : (how : AnswerKind) → calls_with (kind_at (world_at here) r.unit) (contents_at here r.unit) line r ≡ [] → [] ≡ replaced_with (kind_at (world_at here) r.unit) (contents_at here r.unit) r
      → IsSaid (kind_at (world_at here) r.unit) (contents_at here r.unit) r how lines → Answers line r lines (Ok how) here here
  refused how none list said = record {
    done = λ t tables fit. record {
      calls = subst (λ z. IsCalled z here.cache here.cache (seen here.spot) (seen here.spot)) (sym none) (called_none here.cache (seen here.spot));
      leaves = leaves_none (replaced_with (kind_at (world_at here) r.unit) (contents_at here r.unit) r) here.cache (seen here.spot);
      makes = subst (λ z. Makes z here.cache here.cache (seen here.spot) (seen here.spot)) list (makes_none here.cache (seen here.spot) fit);
      says = said;
    };
    left = tt;
    cut = tt;
    setup = setup_none (seen here.spot);
    may = may;
    keeps = keeps_none here.spot may.ready;
    silent = refl;
  }

  pub answer_outside : admission (kind_at (world_at here) r.unit) r.part r.block r.count ≡ Outside → Answers line r lines (Ok (answer.Error cause.Partition 0)) here here
  answer_outside met = refused (answer.Error cause.Partition 0)
      (ap (λ z. blocks_at z (contents_at here r.unit) line (first_of (kind_at (world_at here) r.unit) r.part + r.block) r) met)
      (none_outside (kind_at (world_at here) r.unit) (contents_at here r.unit) r met) (outside_said (kind_at (world_at here) r.unit) (contents_at here r.unit) r lines met)

  pub answer_eof : admission (kind_at (world_at here) r.unit) r.part r.block r.count ≡ Eof → Answers line r lines (Ok answer.Eof) here here
  answer_eof met = refused answer.Eof
      (ap (λ z. blocks_at z (contents_at here r.unit) line (first_of (kind_at (world_at here) r.unit) r.part + r.block) r) met)
      (none_eof (kind_at (world_at here) r.unit) (contents_at here r.unit) r met) (eof_said (kind_at (world_at here) r.unit) (contents_at here r.unit) r lines met)

-- ---- or its blocks are read or written
module _ (line : ℕ) (a : Asked) (first : ℕ) (lines : List (List ℕ)) (old new : Place) (met : admission (kind_at (world_at old) a.unit) C a.block a.count ≡ Inside first) (is : first ≡ first_of (kind_at (world_at old) a.unit) C + a.block) where
  its_calls : (fill : Option ℕ) → touches (tried_in (contents_at old) a.unit first a.count) line a.unit first (option_map one_filled fill) ≡ calls_with (kind_at (world_at old) a.unit) (contents_at old a.unit) line (asked_with a fill)
  its_calls None = touches_read (kind_at (world_at old) a.unit) line a (contents_at old) first met is
  its_calls (Some byte) = touches_write (kind_at (world_at old) a.unit) line a byte (contents_at old) first met is

  its_list : (fill : Option ℕ) → moved (option_map one_filled fill) (usable_in (contents_at old) a.unit first a.count) a.unit first ≡ replaced_with (kind_at (world_at old) a.unit) (contents_at old a.unit) (asked_with a fill)
  its_list None = none_read (kind_at (world_at old) a.unit) (contents_at old a.unit) a
  its_list (Some byte) = spread_is a byte (kind_at (world_at old) a.unit) (contents_at old) first met is

  its_text : (fill : Option ℕ) (done : ℕ) → a.count ≤ length lines → AreMoved (option_map one_filled fill) (contents_at old) a.unit first a.count done lines
      → IsSaid (kind_at (world_at old) a.unit) (contents_at old a.unit) (asked_with a fill) (kind_by done a.count (whole_by fill a.count)) lines
  its_text None done room are = asked_read (kind_at (world_at old) a.unit) (contents_at old) a first done met is lines room are
  its_text (Some byte) done room are = asked_write (kind_at (world_at old) a.unit) (contents_at old) a first done met is byte lines are

  pub answer_done : (fill : Option ℕ) (done : ℕ) → a.count ≤ length lines → MovesAll line a.unit first a.count (option_map one_filled fill) lines (Ok done) old new
      → Answers line (asked_with a fill) lines (Ok (kind_by done a.count (whole_by fill a.count))) old new
  answer_done fill done room m = record {
    done = λ t tables fit.
        let d = m.done t tables fit in
        record {
          calls = subst (λ z. IsCalled z old.cache new.cache (seen old.spot) (seen new.spot)) (its_calls fill) d.calls;
          leaves = subst (λ z. Leaves z old.cache (seen old.spot) (seen new.spot)) (its_list fill) d.leaves;
          makes = subst (λ z. Makes z old.cache new.cache (seen old.spot) (seen new.spot)) (its_list fill) d.makes;
          says = its_text fill done room d.says;
        };
    left = tt;
    cut = tt;
    setup = m.setup;
    may = m.may;
    keeps = m.keeps;
    silent = m.silent;
  }

  pub answer_cut : (fill : Option ℕ) (result : Result AnswerKind Stop) (stop : Stop) → IsErrAnd result (λ x. x ≡ stop) → MovesAll line a.unit first a.count (option_map one_filled fill) lines (Err stop) old new
      → Answers line (asked_with a fill) lines result old new
  answer_cut fill (Ok how) stop same m = absurd same
  answer_cut fill (Err other) stop same m = subst (λ z. Answers line (asked_with a fill) lines (Err z) old new) (sym same) (record {
    done = tt;
    left = λ t tables fit. subst (λ z. Leaves z old.cache (seen old.spot) (seen new.spot)) (its_list fill) (m.left t tables fit);
    cut = λ t tables fit. subst (λ z. IsCutIn stop [] z old.cache (seen old.spot) (seen new.spot)) (its_calls fill) (m.cut t tables fit);
    setup = tt;
    may = tt;
    keeps = m.keeps;
    silent = m.silent;
  })

pub answer_among : (fill : Option ℕ) (done count : ℕ) (lines : List (List ℕ)) → count ≤ length lines → GivesAmong (kind_by done count (whole_by fill count)) lines
answer_among None done count lines room = read_among done count lines room
answer_among (Some byte) done count lines room = wrote_among done count lines
