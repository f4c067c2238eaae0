-- What a run of `format` comes to, by what the formatter answers.
use Rattle.std.proofs.Common.{◌≡◌, ◌≢◌, ◌≤◌, inl, inr, ℕ, Bool, IsTrue, List, ◌++◌, append-nil, refl, sym, subst, arith}
use Rattle.pack_geometry.specs.declared.DriveKind.{DriveKind}
use Rattle.pack_geometry.specs.Pack.{Pack}
use Rattle.outside_traits.specs.Causes.{Rose}
use Rattle.outside_traits.specs.Puts.{TakesFront}
use Rattle.pack_format.specs.Faults.{IsFault, IsWhy, Leaves}
use Rattle.pack_format.specs.Formatted.{IsFormatted, found}
use Rattle.pack_format.specs.declared.fault.FormatFault.{FormatFault}
use Rattle.pack_format.specs.declared.fault.FormatFault.TheVariants as fault
use Rattle.pack_commands.specs.Formats.{IsToldEnd, RunsFormat, format_status, format_text, formatted_text}
use Rattle.command_parts.specs.Statuses.{status_code}
use Rattle.command_parts.specs.Lines.{Told}
use Rattle.command_parts.specs.declared.status.Status.{Status}
use Rattle.command_parts.specs.declared.status.Status.TheVariants.{Done, SinkFailed, PacksFailed, OutOfMemory}
use Rattle.pack_commands.proofs.ToolLaws.{nothing_more}

-- where there was no memory nothing is printed
pub told_nothing : (taken : List ℕ) (unit faults : ℕ) (f : FormatFault) → f ≡ fault.Memory → Told taken taken (format_text unit f) faults faults
unfolding format_text
told_nothing taken unit faults f e = subst (λ (h : FormatFault). Told taken taken (format_text unit h) faults faults) (sym e) (inl (sym (append-nil taken)))

module _ {kind : DriveKind} {unit serial : ℕ} {tells : Bool} {old new : ℕ → Pack} {out_tells : Bool} {taken after : List ℕ} {faults faults_after : ℕ}
    (elsewhere : (other : ℕ) → other ≢ unit → IsTrue tells → new other ≡ old other) where
  refusal : (f : FormatFault) → status_code (format_status f) ≡ 11 → IsFault kind serial f → (IsTrue tells → IsWhy kind (old unit) f) → (IsTrue tells → new ≡ old)
      → (IsTrue out_tells → Told taken after (format_text unit f) faults faults_after)
      → RunsFormat kind unit serial (status_code (format_status f)) tells old new out_tells taken after faults faults_after
  refusal f code is why left told = record {
    statuses = inr (inr (inr (inr (inr code))));
    formatted = λ e. absurd (elim e [ inl e ↦ omega (arith, e, code) | inr e ↦ omega (arith, e, code) ]);
    stopped = λ e. absurd (omega (arith, e, code));
    silent = λ e. absurd (elim e [ inl e ↦ omega (arith, e, code) | inr e ↦ omega (arith, e, code) ]);
    refused = λ e. record { why = f; status = refl; fault = is; is = why; told = told };
    unchanged = λ e. left;
    fits = λ e. absurd (omega (arith, e, code));
    elsewhere = elsewhere;
  }

  fault_run : (f : FormatFault) → IsFault kind serial f → (IsTrue tells → IsWhy kind (old unit) f) → (IsTrue tells → Leaves kind serial unit old new f)
      → (IsTrue out_tells → Told taken after (format_text unit f) faults faults_after)
      → RunsFormat kind unit serial (status_code (format_status f)) tells old new out_tells taken after faults faults_after
  unfolding format_text
  fault_run (fault.Differs b a w r) is why left told = refusal (fault.Differs b a w r) refl is why (λ t. absurd (left t)) told
  fault_run (fault.TooLong n) is why left told = record {
    statuses = inr (inr (inr (inl refl)));
    formatted = λ e. absurd (elim e [ inl e ↦ omega (arith, e) | inr e ↦ omega (arith, e) ]);
    stopped = λ e. absurd (omega (arith, e));
    silent = λ e. absurd (elim e [ inl e ↦ omega (arith, e) | inr e ↦ omega (arith, e) ]);
    refused = λ e. record { why = fault.TooLong n; status = refl; fault = is; is = why; told = told };
    unchanged = λ e. left;
    fits = λ e. absurd (omega (arith, e));
    elsewhere = elsewhere;
  }
  fault_run fault.Store is why left told = record {
    statuses = inr (inr (inl refl));
    formatted = λ e. absurd (elim e [ inl e ↦ omega (arith, e) | inr e ↦ omega (arith, e) ]);
    stopped = λ e. left;
    silent = λ e t. nothing_more taken after faults faults_after (told t);
    refused = λ e. absurd (elim e [ inl e ↦ omega (arith, e) | inr e ↦ omega (arith, e) ]);
    unchanged = λ e. absurd (elim e [ inl e ↦ omega (arith, e) | inr (inl e) ↦ omega (arith, e) | inr (inr e) ↦ omega (arith, e) ]);
    fits = λ e. absurd (omega (arith, e));
    elsewhere = elsewhere;
  }
  fault_run fault.Memory is why left told = record {
    statuses = inr (inr (inr (inr (inl refl))));
    formatted = λ e. absurd (elim e [ inl e ↦ omega (arith, e) | inr e ↦ omega (arith, e) ]);
    stopped = λ e. absurd (omega (arith, e));
    silent = λ e t. nothing_more taken after faults faults_after (told t);
    refused = λ e. absurd (elim e [ inl e ↦ omega (arith, e) | inr e ↦ omega (arith, e) ]);
    unchanged = λ e. left;
    fits = λ e. why;
    elsewhere = elsewhere;
  }
  fault_run other is why left told = refusal other refl is why left told

  pub format_fault : {status : Status} (f : FormatFault) → status ≡ format_status f → IsFault kind serial f → (IsTrue tells → IsWhy kind (old unit) f)
      → (IsTrue tells → Leaves kind serial unit old new f) → (IsTrue out_tells → Told taken after (format_text unit f) faults faults_after)
      → RunsFormat kind unit serial (status_code status) tells old new out_tells taken after faults faults_after
  format_fault f e is why left told =
      subst (λ (s : Status). RunsFormat kind unit serial (status_code s) tells old new out_tells taken after faults faults_after) (sym e) (fault_run f is why left told)

  -- the pack was formatted, and the sink took its text;
  pub format_done : (count : ℕ) → count ≤ 126 → (IsTrue tells → IsFormatted kind serial (old unit) (new unit) × (count ≡ found kind (old unit)))
      → (IsTrue out_tells → after ≡ taken ++ formatted_text count) → RunsFormat kind unit serial 0 tells old new out_tells taken after faults faults_after
  format_done count few done told = record {
    statuses = inl refl;
    formatted = λ e. record { count = count; few = few; done = done; told = λ e. told; front = λ e. absurd (omega (arith, e)) };
    stopped = λ e. absurd (omega (arith, e));
    silent = λ e. absurd (elim e [ inl e ↦ omega (arith, e) | inr e ↦ omega (arith, e) ]);
    refused = λ e. absurd (elim e [ inl e ↦ omega (arith, e) | inr e ↦ omega (arith, e) ]);
    unchanged = λ e. absurd (elim e [ inl e ↦ omega (arith, e) | inr (inl e) ↦ omega (arith, e) | inr (inr e) ↦ omega (arith, e) ]);
    fits = λ e. absurd (omega (arith, e));
    elsewhere = elsewhere;
  }

  -- or it failed, and took a front of it.
  pub format_cut : (count : ℕ) → count ≤ 126 → (IsTrue tells → IsFormatted kind serial (old unit) (new unit) × (count ≡ found kind (old unit))) → Rose faults faults_after
      → (IsTrue out_tells → TakesFront taken after (formatted_text count)) → RunsFormat kind unit serial 5 tells old new out_tells taken after faults faults_after
  format_cut count few done rose front = record {
    statuses = inr (inl refl);
    formatted = λ e. record { count = count; few = few; done = done; told = λ e. absurd (omega (arith, e)); front = λ e. (rose, front) };
    stopped = λ e. absurd (omega (arith, e));
    silent = λ e. absurd (elim e [ inl e ↦ omega (arith, e) | inr e ↦ omega (arith, e) ]);
    refused = λ e. absurd (elim e [ inl e ↦ omega (arith, e) | inr e ↦ omega (arith, e) ]);
    unchanged = λ e. absurd (elim e [ inl e ↦ omega (arith, e) | inr (inl e) ↦ omega (arith, e) | inr (inr e) ↦ omega (arith, e) ]);
    fits = λ e. absurd (omega (arith, e));
    elsewhere = elsewhere;
  }

  -- the two ends of the text
  pub format_told : {status : Status} (count : ℕ) → count ≤ 126 → (IsTrue tells → IsFormatted kind serial (old unit) (new unit) × (count ≡ found kind (old unit))) → IsToldEnd status
      → (status ≡ Done → IsTrue out_tells → after ≡ taken ++ formatted_text count) → (status ≡ SinkFailed → IsTrue out_tells → TakesFront taken after (formatted_text count))
      → (status ≡ SinkFailed → Rose faults faults_after) → RunsFormat kind unit serial (status_code status) tells old new out_tells taken after faults faults_after
  format_told count few done (inl is) told cut rose =
      subst (λ (s : Status). RunsFormat kind unit serial (status_code s) tells old new out_tells taken after faults faults_after) (sym is) (format_done count few done (told is))
  format_told count few done (inr is) told cut rose =
      subst (λ (s : Status). RunsFormat kind unit serial (status_code s) tells old new out_tells taken after faults faults_after) (sym is) (format_cut count few done (rose is) (cut is))

-- and no other end
pub never_failed : (status : Status) → IsToldEnd status → status ≡ PacksFailed → ⊥
never_failed status (inl is) other = cc
never_failed status (inr is) other = cc

pub never_full : (status : Status) → IsToldEnd status → status ≡ OutOfMemory → ⊥
never_full status (inl is) other = cc
never_full status (inr is) other = cc

pub done_is_not_cut : Done ≡ SinkFailed → ⊥
done_is_not_cut is = cc

pub cut_is_not_done : SinkFailed ≡ Done → ⊥
cut_is_not_done is = cc

-- what a run comes to, by the end of its text
pub by_end : (P : ℕ → Type 0) (status : Status) → IsToldEnd status → (status ≡ Done → P 0) → (status ≡ SinkFailed → P 5) → P (status_code status)
by_end P status (inl is) one two = subst (λ (s : Status). P (status_code s)) (sym is) (one is)
by_end P status (inr is) one two = subst (λ (s : Status). P (status_code s)) (sym is) (two is)
