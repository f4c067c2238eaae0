-- A run of a script by its status, but for what was played, whichever its grammar.
use Rattle.std.proofs.Common.{◌≡◌, ◌⊎◌, inl, inr, ℕ, ◌+◌, ◌≤◌, IsTrue, List, length, refl, subst, arith}
use Rattle.pack_geometry.specs.Pack.{Pack}
use Rattle.outside_traits.specs.Causes.{Rose}
use Rattle.trace_replay.specs.Script.{Script}
use Rattle.script_lines.specs.declared.kinds.ScriptKind.{ScriptKind}
use Rattle.event_player.specs.Lengths.{IsTooLong}
use Rattle.command_parts.specs.Outside.{Outside}
use Rattle.command_parts.specs.Loading.{longest}
use Rattle.script_commands.specs.Scripts.{RunsScript, TellsRefusal, TellsTooLong}

-- bytes mean one script at most
abbrev pub MeanOne : (List ℕ → Script → Type 0) → Type 0
MeanOne Means = (bytes : List ℕ) (script other : Script) → Means bytes script → Means bytes other → script ≡ other

-- a status with which nothing was played
pub record IsApart (code : ℕ) : Type 0 where
  pub done : code ≡ 0 → ⊥
  pub sink : code ≡ 5 → ⊥
  pub store : code ≡ 6 → ⊥

pub refused_apart : IsApart 3
refused_apart = record { done = λ e. omega (arith, e); sink = λ e. omega (arith, e); store = λ e. omega (arith, e) }

pub unread_apart : IsApart 4
unread_apart = record { done = λ e. omega (arith, e); sink = λ e. omega (arith, e); store = λ e. omega (arith, e) }

pub too_long_apart : IsApart 7
too_long_apart = record { done = λ e. omega (arith, e); sink = λ e. omega (arith, e); store = λ e. omega (arith, e) }

pub memory_apart : IsApart 9
memory_apart = record { done = λ e. omega (arith, e); sink = λ e. omega (arith, e); store = λ e. omega (arith, e) }

-- at most so much was read
abbrev pub IsRead : Outside → Outside → Type 0
IsRead old new = IsTrue new.source_tells → length old.left ≤ length new.left + longest + 1

-- where no image is too long for the script that was read, none is for what the bytes mean
none_long : {Means : List ℕ → Script → Type 0} {left : List ℕ} {script other : Script} {unit n : ℕ} {packs : ℕ → Pack} → MeanOne Means → Means left script → Means left other
    → ((unit n : ℕ) → ¬ (IsTooLong other packs unit n)) → IsTooLong script packs unit n → ⊥
none_long {Means} {left} {script} {other} {unit} {n} {packs} one means read none is =
    none unit n (subst (λ (s : Script). IsTooLong s packs unit n) (one left script other means read) is)

module _ {Means : List ℕ → Script → Type 0} (First : List ℕ → ℕ → ScriptKind → Type 0) (one : MeanOne Means) (old new : Outside) (read : IsRead old new) where
  -- played, over images that fit where the packs tell
  pub script_done : (script : Script) → (IsTrue new.source_tells → Means old.left script) → (IsTrue new.packs_tell → (unit n : ℕ) → ¬ (IsTooLong script old.held unit n)) → RunsScript Means First 0 old new
  script_done script means fits = record {
    statuses = inl refl;
    refused = λ e. absurd (omega (arith, e));
    only_refused = λ source none. absurd (none script (means source));
    too_long = λ e. absurd (omega (arith, e));
    only_too_long = λ other unit n source spelled told is. absurd (none_long one spelled (means source) (fits told) is);
    complete = λ other source spelled a b c d. inl refl;
    read = read;
    same = λ e. elim e [
      | inl e ↦ absurd (omega (arith, e))
      | inr e ↦ absurd (omega (arith, e))
    ];
  }

  pub script_sink : (script : Script) → (IsTrue new.source_tells → Means old.left script) → (IsTrue new.packs_tell → (unit n : ℕ) → ¬ (IsTooLong script old.held unit n))
      → Rose old.out_faults new.out_faults ⊎ Rose old.trace_faults new.trace_faults → RunsScript Means First 5 old new
  script_sink script means fits rose = record {
    statuses = inr (inr (inr (inl refl)));
    refused = λ e. absurd (omega (arith, e));
    only_refused = λ source none. absurd (none script (means source));
    too_long = λ e. absurd (omega (arith, e));
    only_too_long = λ other unit n source spelled told is. absurd (none_long one spelled (means source) (fits told) is);
    complete = λ other source spelled a b c d. absurd (elim rose [
      | inl r ↦ b r
      | inr r ↦ c r
    ]);
    read = read;
    same = λ e. elim e [
      | inl e ↦ absurd (omega (arith, e))
      | inr e ↦ absurd (omega (arith, e))
    ];
  }

  pub script_store : (script : Script) → (IsTrue new.source_tells → Means old.left script) → Rose old.packs_faults new.packs_faults → RunsScript Means First 6 old new
  script_store script means rose = record {
    statuses = inr (inr (inr (inr (inl refl))));
    refused = λ e. absurd (omega (arith, e));
    only_refused = λ source none. absurd (none script (means source));
    too_long = λ e. absurd (omega (arith, e));
    only_too_long = λ other unit n source spelled told is. inr (inl refl);
    complete = λ other source spelled a b c d. absurd (d rose);
    read = read;
    same = λ e. elim e [
      | inl e ↦ absurd (omega (arith, e))
      | inr e ↦ absurd (omega (arith, e))
    ];
  }

  pub script_refused : TellsRefusal Means First new.source_tells old.left new.out_tells old.said new.said old.out_faults new.out_faults → RunsScript Means First 3 old new
  script_refused t = record {
    statuses = inr (inl refl);
    refused = λ e. t;
    only_refused = λ source none. inl refl;
    too_long = λ e. absurd (omega (arith, e));
    only_too_long = λ script unit n source means told is. absurd (t.none source script means);
    complete = λ script source means a b c d. absurd (t.none source script means);
    read = read;
    same = λ e. elim e [
      | inl e ↦ absurd (omega (arith, e))
      | inr e ↦ absurd (omega (arith, e))
    ];
  }

  pub script_too_long : TellsTooLong Means new.source_tells old.left new.packs_tell old.held new.out_tells old.said new.said old.out_faults new.out_faults
      → (IsTrue new.packs_tell → new.held ≡ old.held) → RunsScript Means First 7 old new
  script_too_long t same = record {
    statuses = inr (inr (inr (inr (inr (inl refl)))));
    refused = λ e. absurd (omega (arith, e));
    only_refused = λ source none. absurd (none t.script (t.means source));
    too_long = λ e. t;
    only_too_long = λ script unit n source means told is. inl refl;
    complete = λ script source means a b c d. inr (inl refl);
    read = read;
    same = λ e. same;
  }

  pub script_unread : Rose old.source_faults new.source_faults → RunsScript Means First 4 old new
  script_unread rose = record {
    statuses = inr (inr (inl refl));
    refused = λ e. absurd (omega (arith, e));
    only_refused = λ source none. inr (inl refl);
    too_long = λ e. absurd (omega (arith, e));
    only_too_long = λ script unit n source means told is. inr (inr (inl refl));
    complete = λ script source means a b c d. absurd (a rose);
    read = read;
    same = λ e. elim e [
      | inl e ↦ absurd (omega (arith, e))
      | inr e ↦ absurd (omega (arith, e))
    ];
  }

  pub script_memory : (IsTrue new.packs_tell → new.held ≡ old.held) → RunsScript Means First 9 old new
  script_memory same = record {
    statuses = inr (inr (inr (inr (inr (inr refl)))));
    refused = λ e. absurd (omega (arith, e));
    only_refused = λ source none. inr (inr refl);
    too_long = λ e. absurd (omega (arith, e));
    only_too_long = λ script unit n source means told is. inr (inr (inr refl));
    complete = λ script source means a b c d. inr (inr refl);
    read = read;
    same = λ e. same;
  }
