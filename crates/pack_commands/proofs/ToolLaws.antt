-- What runs of `bad144` come to, from what the tool's calls answer.
use Rattle.std.proofs.Common.{arith, ◌≡◌, ◌≢◌, ◌<◌, ◌≤◌, inl, inr, ℕ, Bool, IsTrue, List, [], ◌++◌, refl, sym, ap, subst, ◌∙◌, zero, suc, take}
use Rattle.std.proofs.lemmas.List.{append-nil}
use Rattle.outside_traits.specs.Causes.{Rose}
use Rattle.outside_traits.specs.Puts.{TakesFront}
use Rattle.pack_geometry.specs.declared.DriveKind.{DriveKind}
use Rattle.pack_geometry.specs.Pack.{Pack}
use Rattle.pack_geometry.specs.TableSpelling.{table_text}
use Rattle.bad144_tool.specs.Adding.{Adds, Fits}
use Rattle.bad144_tool.specs.Changes.{IsCutShort, with_changes}
use Rattle.bad144_tool.specs.Edit.{copies}
use Rattle.bad144_tool.specs.Faults.{IsAddFault, IsFreshFault, IsListFault, IsMarkFault, IsWhy, Leaves, LeavesMarks}
use Rattle.bad144_tool.specs.Marking.{Marks}
use Rattle.bad144_tool.specs.Texts.{ListsFront, list_text}
use Rattle.bad144_tool.specs.declared.edit.AddWay.{AddWay}
use Rattle.bad144_tool.specs.declared.fault.ToolFault.{ToolFault}
use Rattle.bad144_tool.specs.declared.fault.ToolFault.TheVariants as fault
use Rattle.command_parts.specs.Statuses.{status_code}
use Rattle.command_parts.specs.declared.status.Status.{Status}
use Rattle.command_parts.specs.declared.status.Status.TheVariants.{ToolRefused}
use Rattle.pack_commands.specs.Tools.{RunsAdd, RunsFresh, RunsList, RunsMark, entry_text, fault_status, fault_text, marked_text, serial_text}
use Rattle.command_parts.specs.Lines.{Told}

-- nothing was put behind what was taken
pub nothing_more : (mid after : List ℕ) (faults faults_after : ℕ) → Told mid after [] faults faults_after → after ≡ mid
nothing_more mid after faults faults_after (inl all) = all ∙ append-nil mid
nothing_more mid after faults faults_after (inr (rose, (n, front))) = front ∙ ap (λ (text : List ℕ). mid ++ text) (take_nothing n) ∙ append-nil mid
  where
    take_nothing : (n : ℕ) → take {A = ℕ} n [] ≡ []
    take_nothing zero = refl
    take_nothing (suc n) = refl

-- `bad144 add` answered a fault
module _ {kind : DriveKind} {unit block : ℕ} {way : AddWay} {tells : Bool} {old new : ℕ → Pack} {out_tells : Bool} {taken after : List ℕ} {faults faults_after : ℕ} where
  refused_run : (f : ToolFault) → fault_status f ≡ ToolRefused → (IsTrue tells → IsWhy kind (old unit) block f) → (IsTrue tells → new ≡ old)
      → (IsTrue out_tells → Told taken after (fault_text unit f) faults faults_after)
      → RunsAdd kind unit block way 8 tells old new out_tells taken after faults faults_after
  refused_run f is why same told = record {
    statuses = inr (inr (inr (inr refl)));
    added = λ e. absurd (elim e [ inl e ↦ omega (arith, e) | inr e ↦ omega (arith, e) ]);
    stopped = λ e. absurd (omega (arith, e));
    silent = λ e. absurd (omega (arith, e));
    too_long = λ e. absurd (omega (arith, e));
    unchanged = λ e. same;
    refused = λ e. record { fault = f; refusal = is; why = why; told = told };
  }

  pub add_fault : (f : ToolFault) → IsAddFault kind f → (IsTrue tells → IsWhy kind (old unit) block f) → (IsTrue tells → Leaves kind unit block way old new f)
      → (IsTrue out_tells → Told taken after (fault_text unit f) faults faults_after)
      → RunsAdd kind unit block way (status_code (fault_status f)) tells old new out_tells taken after faults faults_after
  unfolding fault_text
  add_fault (fault.TooLong n) is why left told = record {
    statuses = inr (inr (inr (inl refl)));
    added = λ e. absurd (elim e [ inl e ↦ omega (arith, e) | inr e ↦ omega (arith, e) ]);
    stopped = λ e. absurd (omega (arith, e));
    silent = λ e. absurd (omega (arith, e));
    too_long = λ e. record { length = n; above = is; is = why; told = told };
    unchanged = λ e. left;
    refused = λ e. absurd (omega (arith, e));
  }
  add_fault fault.Store is why left told = record {
    statuses = inr (inr (inl refl));
    added = λ e. absurd (elim e [ inl e ↦ omega (arith, e) | inr e ↦ omega (arith, e) ]);
    stopped = λ e. left;
    silent = λ e t. nothing_more taken after faults faults_after (told t);
    too_long = λ e. absurd (omega (arith, e));
    unchanged = λ e. absurd (elim e [ inl e ↦ omega (arith, e) | inr e ↦ omega (arith, e) ]);
    refused = λ e. absurd (omega (arith, e));
  }
  add_fault fault.Sink is why left told = absurd is
  add_fault other is why left told = refused_run other refl why left told

  pub add_run : {status : Status} (f : ToolFault) → status ≡ fault_status f → IsAddFault kind f → (IsTrue tells → IsWhy kind (old unit) block f)
      → (IsTrue tells → Leaves kind unit block way old new f) → (IsTrue out_tells → Told taken after (fault_text unit f) faults faults_after)
      → RunsAdd kind unit block way (status_code status) tells old new out_tells taken after faults faults_after
  add_run f e is why left told =
      subst (λ (s : Status). RunsAdd kind unit block way (status_code s) tells old new out_tells taken after faults faults_after) (sym e)
      (add_fault f is why left told)

  -- a block was added, and the sink took its text;
  pub add_done : (index : ℕ) → index < 126 → (IsTrue tells → Adds kind unit block way old new index) → (IsTrue out_tells → after ≡ taken ++ entry_text index)
      → RunsAdd kind unit block way 0 tells old new out_tells taken after faults faults_after
  add_done index few adds told = record {
    statuses = inl refl;
    added = λ e. record { index = index; few = few; adds = adds; told = λ e. told; front = λ e. absurd (omega (arith, e)) };
    stopped = λ e. absurd (omega (arith, e));
    silent = λ e. absurd (omega (arith, e));
    too_long = λ e. absurd (omega (arith, e));
    unchanged = λ e. absurd (elim e [ inl e ↦ omega (arith, e) | inr e ↦ omega (arith, e) ]);
    refused = λ e. absurd (omega (arith, e));
  }

  -- or it failed, and took a front of it.
  pub add_cut : (index : ℕ) → index < 126 → (IsTrue tells → Adds kind unit block way old new index) → Rose faults faults_after → (IsTrue out_tells → TakesFront taken after (entry_text index))
      → RunsAdd kind unit block way 5 tells old new out_tells taken after faults faults_after
  add_cut index few adds rose front = record {
    statuses = inr (inl refl);
    added = λ e. record { index = index; few = few; adds = adds; told = λ e. absurd (omega (arith, e)); front = λ e. (rose, front) };
    stopped = λ e. absurd (omega (arith, e));
    silent = λ e. absurd (omega (arith, e));
    too_long = λ e. absurd (omega (arith, e));
    unchanged = λ e. absurd (elim e [ inl e ↦ omega (arith, e) | inr e ↦ omega (arith, e) ]);
    refused = λ e. absurd (omega (arith, e));
  }

-- `bad144 fresh` answered a fault
pub fresh_fault : {kind : DriveKind} {unit serial : ℕ} {tells : Bool} {old new : ℕ → Pack} {out_tells : Bool} {taken after : List ℕ} {faults faults_after : ℕ}
    → (f : ToolFault) → IsFreshFault kind f → (IsTrue tells → IsWhy kind (old unit) 0 f)
    → (f ≡ fault.Store → IsTrue tells → IsCutShort old new unit (copies kind (table_text serial [])))
    → ((n : ℕ) → f ≡ fault.TooLong n → IsTrue tells → new ≡ old)
    → (IsTrue out_tells → Told taken after (fault_text unit f) faults faults_after)
    → RunsFresh kind unit serial (status_code (fault_status f)) tells old new out_tells taken after faults faults_after
unfolding fault_text
fresh_fault (fault.TooLong n) is why stopped same told = record {
  statuses = inr (inr (inr refl));
  fits = λ e. absurd (elim e [ inl e ↦ omega (arith, e) | inr e ↦ omega (arith, e) ]);
  done = λ e. absurd (elim e [ inl e ↦ omega (arith, e) | inr e ↦ omega (arith, e) ]);
  told = λ e. absurd (omega (arith, e));
  front = λ e. absurd (omega (arith, e));
  stopped = λ e. absurd (omega (arith, e));
  silent = λ e. absurd (omega (arith, e));
  too_long = λ e. record { length = n; above = is; is = why; told = told };
  unchanged = λ e. same n refl;
}
fresh_fault {taken = taken} {after = after} {faults = faults} {faults_after = faults_after} fault.Store is why stopped same told = record {
  statuses = inr (inr (inl refl));
  fits = λ e. absurd (elim e [ inl e ↦ omega (arith, e) | inr e ↦ omega (arith, e) ]);
  done = λ e. absurd (elim e [ inl e ↦ omega (arith, e) | inr e ↦ omega (arith, e) ]);
  told = λ e. absurd (omega (arith, e));
  front = λ e. absurd (omega (arith, e));
  stopped = λ e. stopped refl;
  silent = λ e t. nothing_more taken after faults faults_after (told t);
  too_long = λ e. absurd (omega (arith, e));
  unchanged = λ e. absurd (omega (arith, e));
}
fresh_fault fault.Sink is why stopped same told = absurd is
fresh_fault fault.NoTable is why stopped same told = absurd is
fresh_fault fault.Reserved is why stopped same told = absurd is
fresh_fault (fault.Listed i) is why stopped same told = absurd is
fresh_fault fault.Full is why stopped same told = absurd is
fresh_fault (fault.Spare j) is why stopped same told = absurd is

-- `bad144 list` answered a fault
pub list_fault : {kind : DriveKind} {unit : ℕ} {tells : Bool} {old new : ℕ → Pack} {out_tells : Bool} {taken after : List ℕ} {faults faults_after : ℕ}
    → (f : ToolFault) → IsListFault kind f → (IsTrue tells → IsWhy kind (old unit) 0 f) → (IsTrue tells → new ≡ old)
    → (f ≡ fault.Sink → ListsFront kind tells (old unit) out_tells taken after)
    → (f ≢ fault.Sink → IsTrue out_tells → Told taken after (fault_text unit f) faults faults_after)
    → RunsList kind unit (status_code (fault_status f)) tells old new out_tells taken after faults faults_after
unfolding fault_text
list_fault (fault.TooLong n) is why same front told = record {
  statuses = inr (inr (inr refl));
  same = same;
  listed = λ e. absurd (omega (arith, e));
  front = λ e. absurd (omega (arith, e));
  too_long = λ e. record { length = n; above = is; is = why; told = told (λ e. absurd (no_sink e)) };
  silent = λ e. absurd (omega (arith, e));
}
  where
    no_sink : fault.TooLong n ≡ fault.Sink → ⊥
    no_sink e = cc
list_fault {taken = taken} {after = after} {faults = faults} {faults_after = faults_after} fault.Store is why same front told = record {
  statuses = inr (inr (inl refl));
  same = same;
  listed = λ e. absurd (omega (arith, e));
  front = λ e. absurd (omega (arith, e));
  too_long = λ e. absurd (omega (arith, e));
  silent = λ e t. nothing_more taken after faults faults_after (told store_alone t);
}
  where
    store_alone : fault.Store ≡ fault.Sink → ⊥
    store_alone e = cc
list_fault fault.Sink is why same front told = record {
  statuses = inr (inl refl);
  same = same;
  listed = λ e. absurd (omega (arith, e));
  front = λ e. front refl;
  too_long = λ e. absurd (omega (arith, e));
  silent = λ e. absurd (omega (arith, e));
}
list_fault fault.NoTable is why same front told = absurd is
list_fault fault.Reserved is why same front told = absurd is
list_fault (fault.Listed i) is why same front told = absurd is
list_fault fault.Full is why same front told = absurd is
list_fault (fault.Spare j) is why same front told = absurd is

pub fresh_run : {kind : DriveKind} {unit serial : ℕ} {status : Status} {tells : Bool} {old new : ℕ → Pack} {out_tells : Bool} {taken after : List ℕ} {faults faults_after : ℕ}
    → (f : ToolFault) → status ≡ fault_status f → IsFreshFault kind f → (IsTrue tells → IsWhy kind (old unit) 0 f)
    → (f ≡ fault.Store → IsTrue tells → IsCutShort old new unit (copies kind (table_text serial [])))
    → ((n : ℕ) → f ≡ fault.TooLong n → IsTrue tells → new ≡ old)
    → (IsTrue out_tells → Told taken after (fault_text unit f) faults faults_after)
    → RunsFresh kind unit serial (status_code status) tells old new out_tells taken after faults faults_after
fresh_run {kind = kind} {unit = unit} {serial = serial} {tells = tells} {old = old} {new = new} {out_tells = out_tells} {taken = taken} {after = after} {faults = faults} {faults_after = faults_after} f e is why stopped same told =
    subst (λ (s : Status). RunsFresh kind unit serial (status_code s) tells old new out_tells taken after faults faults_after) (sym e)
    (fresh_fault f is why stopped same told)

-- a front of the list was taken, and then nothing more
pub list_front : {kind : DriveKind} {packs_tell : Bool} {pack : Pack} {mid_tells tells : Bool} {taken mid after : List ℕ} (faults faults_after : ℕ)
    → ListsFront kind packs_tell pack mid_tells taken mid → (IsTrue tells → IsTrue mid_tells) → (IsTrue tells → Told mid after [] faults faults_after)
    → ListsFront kind packs_tell pack tells taken after
list_front {kind = kind} {taken = taken} {mid = mid} {after = after} faults faults_after front again told = record {
  table = front.table;
  is = front.is;
  told = λ t. subst (λ (text : List ℕ). TakesFront taken text (list_text kind front.table)) (sym (nothing_more mid after faults faults_after (told t))) (front.told (again t));
}

pub list_run : {kind : DriveKind} {unit : ℕ} {status : Status} {tells : Bool} {old new : ℕ → Pack} {out_tells : Bool} {taken after : List ℕ} {faults faults_after : ℕ}
    → (f : ToolFault) → status ≡ fault_status f → IsListFault kind f → (IsTrue tells → IsWhy kind (old unit) 0 f) → (IsTrue tells → new ≡ old)
    → (f ≡ fault.Sink → ListsFront kind tells (old unit) out_tells taken after)
    → (f ≢ fault.Sink → IsTrue out_tells → Told taken after (fault_text unit f) faults faults_after)
    → RunsList kind unit (status_code status) tells old new out_tells taken after faults faults_after
list_run {kind = kind} {unit = unit} {tells = tells} {old = old} {new = new} {out_tells = out_tells} {taken = taken} {after = after} {faults = faults} {faults_after = faults_after} f e is why same front told =
    subst (λ (s : Status). RunsList kind unit (status_code s) tells old new out_tells taken after faults faults_after) (sym e)
    (list_fault f is why same front told)

-- of a sink that failed nothing further is printed
pub sink_text : (unit : ℕ) (mid after : List ℕ) (faults faults_after : ℕ) (f : ToolFault) → f ≡ fault.Sink → Told mid after (fault_text unit f) faults faults_after
    → Told mid after [] faults faults_after
unfolding fault_text
sink_text unit mid after faults faults_after f e told =
    subst (λ (g : ToolFault). Told mid after (fault_text unit g) faults faults_after) e told

-- `bad144 fresh` wrote the copies, and the sink took its text;
module _ {kind : DriveKind} {unit serial : ℕ} {tells : Bool} {old new : ℕ → Pack} {out_tells : Bool} {taken after : List ℕ} {faults faults_after : ℕ} where
  pub fresh_done : (IsTrue tells → Fits kind (old unit)) → (IsTrue tells → new ≡ with_changes old unit (copies kind (table_text serial [])))
      → (IsTrue out_tells → after ≡ taken ++ serial_text serial) → RunsFresh kind unit serial 0 tells old new out_tells taken after faults faults_after
  fresh_done fits done told = record {
    statuses = inl refl;
    fits = λ e. fits;
    done = λ e. done;
    told = λ e. told;
    front = λ e. absurd (omega (arith, e));
    stopped = λ e. absurd (omega (arith, e));
    silent = λ e. absurd (omega (arith, e));
    too_long = λ e. absurd (omega (arith, e));
    unchanged = λ e. absurd (omega (arith, e));
  }

  -- or it failed, and took a front of it.
  pub fresh_cut : (IsTrue tells → Fits kind (old unit)) → (IsTrue tells → new ≡ with_changes old unit (copies kind (table_text serial [])))
      → Rose faults faults_after → (IsTrue out_tells → TakesFront taken after (serial_text serial)) → RunsFresh kind unit serial 5 tells old new out_tells taken after faults faults_after
  fresh_cut fits done rose front = record {
    statuses = inr (inl refl);
    fits = λ e. fits;
    done = λ e. done;
    told = λ e. absurd (omega (arith, e));
    front = λ e. (rose, front);
    stopped = λ e. absurd (omega (arith, e));
    silent = λ e. absurd (omega (arith, e));
    too_long = λ e. absurd (omega (arith, e));
    unchanged = λ e. absurd (omega (arith, e));
  }

-- `bad144 mark` answered a fault
module _ {kind : DriveKind} {unit : ℕ} {tells : Bool} {old new : ℕ → Pack} {out_tells : Bool} {taken after : List ℕ} {faults faults_after : ℕ} where
  pub mark_fault : (f : ToolFault) → IsMarkFault kind f → (IsTrue tells → IsWhy kind (old unit) 0 f) → (IsTrue tells → LeavesMarks kind unit old new f)
      → (IsTrue out_tells → Told taken after (fault_text unit f) faults faults_after)
      → RunsMark kind unit (status_code (fault_status f)) tells old new out_tells taken after faults faults_after
  unfolding fault_text
  mark_fault fault.NoTable is why left told = record {
    statuses = inr (inr (inr (inr refl)));
    marked = λ e. absurd (elim e [ inl e ↦ omega (arith, e) | inr e ↦ omega (arith, e) ]);
    stopped = λ e. absurd (omega (arith, e));
    silent = λ e. absurd (omega (arith, e));
    too_long = λ e. absurd (omega (arith, e));
    unchanged = λ e. left;
    refused = λ e. record { none = why; told = told };
  }
  mark_fault (fault.TooLong n) is why left told = record {
    statuses = inr (inr (inr (inl refl)));
    marked = λ e. absurd (elim e [ inl e ↦ omega (arith, e) | inr e ↦ omega (arith, e) ]);
    stopped = λ e. absurd (omega (arith, e));
    silent = λ e. absurd (omega (arith, e));
    too_long = λ e. record { length = n; above = is; is = why; told = told };
    unchanged = λ e. left;
    refused = λ e. absurd (omega (arith, e));
  }
  mark_fault fault.Store is why left told = record {
    statuses = inr (inr (inl refl));
    marked = λ e. absurd (elim e [ inl e ↦ omega (arith, e) | inr e ↦ omega (arith, e) ]);
    stopped = λ e. left;
    silent = λ e t. nothing_more taken after faults faults_after (told t);
    too_long = λ e. absurd (omega (arith, e));
    unchanged = λ e. absurd (elim e [ inl e ↦ omega (arith, e) | inr e ↦ omega (arith, e) ]);
    refused = λ e. absurd (omega (arith, e));
  }
  mark_fault other is why left told = absurd is

  pub mark_run : {status : Status} (f : ToolFault) → status ≡ fault_status f → IsMarkFault kind f → (IsTrue tells → IsWhy kind (old unit) 0 f)
      → (IsTrue tells → LeavesMarks kind unit old new f) → (IsTrue out_tells → Told taken after (fault_text unit f) faults faults_after)
      → RunsMark kind unit (status_code status) tells old new out_tells taken after faults faults_after
  mark_run f e is why left told =
      subst (λ (s : Status). RunsMark kind unit (status_code s) tells old new out_tells taken after faults faults_after) (sym e)
      (mark_fault f is why left told)

  -- the listed blocks were marked, and the sink took its text;
  pub mark_done : (count : ℕ) → count ≤ 126 → (IsTrue tells → Marks kind unit old new count) → (IsTrue out_tells → after ≡ taken ++ marked_text count)
      → RunsMark kind unit 0 tells old new out_tells taken after faults faults_after
  mark_done count few marks told = record {
    statuses = inl refl;
    marked = λ e. record { count = count; few = few; marks = marks; told = λ e. told; front = λ e. absurd (omega (arith, e)) };
    stopped = λ e. absurd (omega (arith, e));
    silent = λ e. absurd (omega (arith, e));
    too_long = λ e. absurd (omega (arith, e));
    unchanged = λ e. absurd (elim e [ inl e ↦ omega (arith, e) | inr e ↦ omega (arith, e) ]);
    refused = λ e. absurd (omega (arith, e));
  }

  -- or it failed, and took a front of it.
  pub mark_cut : (count : ℕ) → count ≤ 126 → (IsTrue tells → Marks kind unit old new count) → Rose faults faults_after → (IsTrue out_tells → TakesFront taken after (marked_text count))
      → RunsMark kind unit 5 tells old new out_tells taken after faults faults_after
  mark_cut count few marks rose front = record {
    statuses = inr (inl refl);
    marked = λ e. record { count = count; few = few; marks = marks; told = λ e. absurd (omega (arith, e)); front = λ e. (rose, front) };
    stopped = λ e. absurd (omega (arith, e));
    silent = λ e. absurd (omega (arith, e));
    too_long = λ e. absurd (omega (arith, e));
    unchanged = λ e. absurd (elim e [ inl e ↦ omega (arith, e) | inr e ↦ omega (arith, e) ]);
    refused = λ e. absurd (omega (arith, e));
  }
