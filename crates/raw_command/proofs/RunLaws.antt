-- WHAT A TRANSFER ENDS WITH, from what its parts answer.
use Rattle.std.proofs.Common.{◌≡◌, ◌⊎◌, inl, inr, ℕ, ◌+◌, ◌<◌, ◌≤◌, Bool, false, IsTrue, List, [], ◌++◌, take, length, Ok, Err, refl, sym, ap, subst, ◌∙◌, arith, append-nil, length-append}
use Rattle.std.specs.Prelude.{Some, Result, IsErrAnd, OnOk, OnErr, ◌*◌}
use Rattle.std.proofs.Math.Seq.{take-length}
use Rattle.std.proofs.lemmas.List.{length-take-le}
use Rattle.partitions.specs.declared.Part.{Part}
use Rattle.partitions.specs.Partitions.{size_of}
use Rattle.outside_traits.specs.Causes.{HasCause, Rose}
use Rattle.outside_traits.specs.Puts.{TakesFront}
use Rattle.pack_geometry.specs.declared.DriveKind.{DriveKind}
use Rattle.driver_laws.specs.rules.Bytes.{IsOutside}
use Rattle.driver_laws.specs.declared.answers.outcome.Stop.TheVariants as stopped
use Rattle.command_parts.specs.Lines.{Told}
use Rattle.command_parts.specs.Outside.{HasItsCause, Outside}
use Rattle.raw_command.specs.Endings.{Gives, IsBeyond, IsRefused, IsTooLong, IsUntouched, Ends, ReadEnds, Stays, Took, WriteEnds, bytes_for, fault_text, limit_of, target_for}
use Rattle.raw_command.specs.Faults.{Answer, IsReadCode, IsTransferCode, IsBefore, IsOfUnit, IsSilent, code_of, stop_of}
use Rattle.raw_command.specs.Transfers.{HasRead, LeftWritten}
use Rattle.raw_command.specs.Units.{IsFoundLong}
use Rattle.raw_command.specs.declared.fault.TransferFault.{TransferFault}
use Rattle.raw_command.specs.declared.fault.TransferFault.TheVariants as fault
use Rattle.command_parts.specs.declared.words.Target.{Target}
use Rattle.command_parts.specs.Words.{reads_source}
use Rattle.command_parts.specs.declared.words.Transfer.{Transfer}
use Rattle.command_parts.specs.declared.words.Transfer.TheVariants.{Read, Write}
use Rattle.command_parts.specs.declared.words.Writing.{Writing}
use Rattle.command_parts.specs.declared.words.Writing.TheVariants.{Raw, Dump}

-- WHERE A UNIT answered a fault, and that was told
pub record Faulted (unit : ℕ) (kind : DriveKind) (f : TransferFault) (old new : Outside) : Type 0 where
  pub only : IsOfUnit (Some f)
  pub store : stop_of (Some f) ≡ Some stopped.Store → Rose old.packs_faults new.packs_faults
  pub sink : stop_of (Some f) ≡ Some stopped.Sink → Rose old.trace_faults new.trace_faults
  pub untraced : IsBefore (Some f) → new.taken ≡ old.taken
  pub same : IsBefore (Some f) → IsTrue new.packs_tell → new.held ≡ old.held
  pub long : IsFoundLong new.packs_tell (old.held unit) kind f
  pub told : IsTrue new.out_tells → Told old.said new.said (fault_text unit f) old.out_faults new.out_faults
  pub silent : IsSilent f → new.said ≡ old.said

too_long : {unit n : ℕ} {kind : DriveKind} {old new : Outside} → Faulted unit kind (fault.TooLong n) old new → IsTooLong unit kind old new n
too_long is = record {
  refused = record { packs = is.same tt; trace = is.untraced tt; told = is.told };
  above = is.long.above;
  is = is.long.is;
}

untouched : {unit : ℕ} {kind : DriveKind} {old new : Outside} → Faulted unit kind fault.Memory old new → IsUntouched old new
untouched is = record { packs = is.same tt; trace = is.untraced tt; out = is.silent tt }

pub write_fault : {w : Writing} {from : List ℕ} {old new : Outside} (f : TransferFault) → Took w from old new → Faulted (target_for w from).unit (target_for w from).kind f old new
    → ((done : ℕ) → f ≡ fault.Unusable done → WriteEnds w (Err (fault.Unusable done)) old new)
    → (IsTrue new.packs_tell → LeftWritten f (target_for w from) new.failed_at (bytes_for w from) old.held new.held new.trace_tells old.taken new.taken) → WriteEnds w (Err f) old new
write_fault fault.Memory took is front left = untouched is
write_fault {from = from} (fault.TooLong n) took is front left = record { from = from; took = took; long = too_long is }
write_fault (fault.Unusable done) took is front left = front done refl
write_fault {from = from} fault.Store took is front left = (is.store refl, record { from = from; took = took; out = is.silent tt; left = left })
write_fault {from = from} fault.Sink took is front left = inl (is.sink refl, record { from = from; took = took; out = is.silent tt; left = left })
write_fault fault.Source took is front left = absurd is.only
write_fault fault.Outside took is front left = absurd is.only

-- a read that is refused, or for which there is no memory
pub read_outside : (t : Target) (size : ℕ) {old new : Outside} {why : TransferFault} → why ≡ fault.Outside → IsOutside t.kind t.part t.at size → IsRefused t.unit fault.Outside old new
    → ReadEnds t size (Err why) old new
read_outside t size {old = old} {new = new} e outside is = subst (λ (f : TransferFault). ReadEnds t size (Err f) old new) (sym e) (outside, is)

pub read_memory : (t : Target) (size : ℕ) (old : Outside) (answer : Answer) → IsErrAnd answer (λ e. e ≡ fault.Memory) → ¬ (IsOutside t.kind t.part t.at size) → ReadEnds t size answer old old
read_memory t size old (Ok value) e inside = absurd e
read_memory t size old (Err f) e inside =
    subst (λ (f : TransferFault). ReadEnds t size (Err f) old old) (sym e) (inside, record { packs = λ t. refl; trace = refl; out = refl })

-- ---- WHAT STAYS, by the answer
pub stays_same : {P O T : Type 0} {packs : P} {out : O} {trace : T} (code : ℕ) → Stays code packs packs out out trace trace
stays_same code = record { untouched = λ e. refl; silent = λ e. refl; untraced = λ e. refl }

module _ {P O T : Type 0} {packs packs' : P} {out out' : O} {trace trace' : T} where
  -- where a status is none of these
  pub stays_by : (code : ℕ) → (code ≡ 4 → ⊥) → (code ≡ 7 → ⊥) → (code ≡ 9 → ⊥) → Stays code packs packs' out out' trace trace'
  stays_by code four seven nine = record {
    untouched = λ e. absurd (four e);
    silent = λ e. absurd (elim e [ inl e ↦ four e | inr e ↦ nine e ]);
    untraced = λ e. absurd (elim e [ inl e ↦ four e | inr (inl e) ↦ seven e | inr (inr e) ↦ nine e ]);
  }

  pub stays_fault : (f : TransferFault) → IsOfUnit (Some f) → (IsBefore (Some f) → trace' ≡ trace) → (IsSilent f → out' ≡ out)
      → Stays (code_of (Err f)) packs packs' out out' trace trace'
  stays_fault fault.Memory only untraced silent = record { untouched = λ e. absurd (omega (arith, e)); silent = λ e. silent tt; untraced = λ e. untraced tt }
  stays_fault (fault.TooLong n) only untraced silent = record {
    untouched = λ e. absurd (omega (arith, e));
    silent = λ e. absurd (elim e [ inl e ↦ omega (arith, e) | inr e ↦ omega (arith, e) ]);
    untraced = λ e. untraced tt;
  }
  stays_fault (fault.Unusable done) only untraced silent = stays_by 10 (λ e. omega (arith, e)) (λ e. omega (arith, e)) (λ e. omega (arith, e))
  stays_fault fault.Store only untraced silent = stays_by 6 (λ e. omega (arith, e)) (λ e. omega (arith, e)) (λ e. omega (arith, e))
  stays_fault fault.Sink only untraced silent = stays_by 5 (λ e. omega (arith, e)) (λ e. omega (arith, e)) (λ e. omega (arith, e))
  stays_fault other only untraced silent = absurd only

-- ---- THE SOURCE, whose bytes were read up to a limit
pub beyond_more : (w : Writing) (n m : ℕ) → n ≤ m → IsBeyond w n → IsBeyond w m
beyond_more (Raw t) n m le (inl e) = inl (omega (arith, le, e))
beyond_more (Raw t) n m le (inr e) = inr (omega (arith, le, e))
beyond_more (Dump unit kind) n m le e = omega (arith, le, e)

pub beyond_all : (w : Writing) (n : ℕ) (items left rest : List ℕ) → left ≡ items ++ rest → n ≡ length items → IsBeyond w n → IsBeyond w (length left)
beyond_all w n items left rest all same is =
    let long : length left ≡ length items + length rest = ap (λ (xs : List ℕ). length xs) all ∙ length-append items rest in
    beyond_more w n (length left) (omega (arith, same, long)) is

less_or : (n m : ℕ) → (n ≤ m) ⊎ (m < n)
less_or n m = grind arith

pub within : (w : Writing) (n : ℕ) → ¬ (IsBeyond w n) → n ≤ limit_of w
within (Raw t) n inside = elim (less_or n 16777216) [ inl le ↦ le | inr more ↦ absurd (inside (inl more)) ]
within (Dump unit kind) n inside = elim (less_or n 8388608) [ inl le ↦ le | inr more ↦ absurd (inside more) ]

pub false_is : (b : Bool) → b ≡ false → IsTrue b → ⊥
false_is b e t = grind (arith, e, t)

pub took_so : (w : Writing) (from : List ℕ) (old new : Outside) → (IsTrue new.source_tells → old.left ≡ from ++ new.left)
    → (IsTrue new.source_tells → (new.left ≡ []) ⊎ (limit_of w < length from)) → ¬ (IsBeyond w (length from)) → Took w from old new
took_so w from old new all end inside =
    let few : length from ≤ limit_of w = within w (length from) inside in record {
      read = λ t. elim (end t) [
        | inl none ↦ (all t ∙ ap (λ (xs : List ℕ). from ++ xs) none ∙ append-nil from, none)
        | inr more ↦ absurd (omega (arith, more, few))
      ];
      inside = inside;
    }

-- a limit that is the writing's, of the bytes that were taken
pub limited : (left : List ℕ) (limit its : ℕ) (from items : List ℕ) → from ≡ items → limit ≡ its → (left ≡ []) ⊎ (limit < length items) → (left ≡ []) ⊎ (its < length from)
limited left limit its from items same e end =
    subst (λ (xs : List ℕ). (left ≡ []) ⊎ (its < length xs)) (sym same) (subst (λ (n : ℕ). (left ≡ []) ⊎ (n < length items)) e end)

-- what is not printed
silent_text : (unit : ℕ) (f : TransferFault) → IsSilent f → fault_text unit f ≡ []
unfolding fault_text
silent_text unit fault.Outside is = absurd is
silent_text unit (fault.TooLong n) is = absurd is
silent_text unit (fault.Unusable n) is = absurd is
silent_text unit other is = refl

pub told_silent : (taken : List ℕ) (unit n : ℕ) (f : TransferFault) → IsSilent f → Told taken taken (fault_text unit f) n n
told_silent taken unit n f is = inl (sym (ap (λ (text : List ℕ). taken ++ text) (silent_text unit f is) ∙ append-nil taken))

pub is_silent : (f : TransferFault) → (f ≡ fault.Memory) ⊎ (f ≡ fault.Source) ⊎ (f ≡ fault.Store) ⊎ (f ≡ fault.Sink) → IsSilent f
is_silent f (inl e) = subst IsSilent (sym e) tt
is_silent f (inr (inl e)) = subst IsSilent (sym e) tt
is_silent f (inr (inr (inl e))) = subst IsSilent (sym e) tt
is_silent f (inr (inr (inr e))) = subst IsSilent (sym e) tt

-- a range that is inside
pub inside_range : (kind : DriveKind) (part : Part) (at size : ℕ) → at + size ≤ 512 * size_of kind part → ¬ (IsOutside kind part at size)
inside_range kind part at size le outside = omega (arith, le, outside)

all_taken : (n : ℕ) (xs : List ℕ) → length xs ≡ n → take n xs ≡ xs
all_taken n xs e = subst (λ (m : ℕ). take m xs ≡ xs) e (take-length xs)

-- READS that were printed
module _ {t : Target} {size : ℕ} {old new : Outside} (into : List ℕ) (long : length into ≡ size) (inside : ¬ (IsOutside t.kind t.part t.at size)) where
  pub gives_all : (IsTrue new.packs_tell → HasRead t size size (take size into) old.held new.held new.trace_tells old.taken new.taken)
      → (IsTrue new.out_tells → new.said ≡ old.said ++ into) → Gives t size size old new (λ bytes. new.said ≡ old.said ++ bytes)
  gives_all read told = record {
    bytes = take size into;
    inside = inside;
    long = ap (λ (xs : List ℕ). length xs) (all_taken size into long) ∙ long;
    read = read;
    told = λ is. told is ∙ ap (λ (xs : List ℕ). old.said ++ xs) (sym (all_taken size into long));
  }

  pub gives_cut : (IsTrue new.packs_tell → HasRead t size size (take size into) old.held new.held new.trace_tells old.taken new.taken) → Rose old.out_faults new.out_faults
      → (IsTrue new.out_tells → TakesFront old.said new.said into) → Rose old.out_faults new.out_faults × Gives t size size old new (TakesFront old.said new.said)
  gives_cut read rose front = (
    rose,
    record {
      bytes = take size into;
      inside = inside;
      long = ap (λ (xs : List ℕ). length xs) (all_taken size into long) ∙ long;
      read = read;
      told = λ is. subst (λ (xs : List ℕ). TakesFront old.said new.said xs) (sym (all_taken size into long)) (front is);
    },
  )

  pub gives_front : {T E : Type 0} (done : ℕ) (from : List ℕ) (result : Result T E) → from ≡ take done into → done < size
      → (IsTrue new.packs_tell → HasRead t size done (take done into) old.held new.held new.trace_tells old.taken new.taken)
      → OnOk result (IsTrue new.out_tells → new.said ≡ old.said ++ from) → OnErr result (IsTrue new.out_tells → TakesFront old.said new.said from)
      → HasCause old.out_faults new.out_faults result → (done < size) × Gives t size done old new (λ bytes. Told old.said new.said bytes old.out_faults new.out_faults)
  gives_front done from result e few read all front cause = (
    few,
    record {
      bytes = take done into;
      inside = inside;
      long = length-take-le done into (below done size (length into) few long);
      read = read;
      told = λ is. subst (λ (xs : List ℕ). Told old.said new.said xs old.out_faults new.out_faults) e (written result all front cause is);
    },
  )
    where
      below : (n m k : ℕ) → n < m → k ≡ m → n ≤ k
      below n m k lt e = omega (arith, lt, e)

      written : {T E : Type 0} (r : Result T E) → OnOk r (IsTrue new.out_tells → new.said ≡ old.said ++ from) → OnErr r (IsTrue new.out_tells → TakesFront old.said new.said from)
          → HasCause old.out_faults new.out_faults r → IsTrue new.out_tells → Told old.said new.said from old.out_faults new.out_faults
      written (Ok value) all front cause is = inl (all is)
      written (Err failed) all front cause is = inr (cause.failed, front is)

-- ---- THE STATUSES of a read, and their causes
pub read_status : (t : Target) (size : ℕ) (answer : Answer) (old new : Outside) → ReadEnds t size answer old new → IsReadCode (code_of answer)
read_status t size (Ok value) old new ends = inl refl
read_status t size (Err fault.Outside) old new ends = inr (inr (inr (inr (inr refl))))
read_status t size (Err fault.Memory) old new ends = inr (inr (inr (inr (inl refl))))
read_status t size (Err (fault.TooLong n)) old new ends = inr (inr (inr (inl refl)))
read_status t size (Err (fault.Unusable done)) old new ends = inr (inr (inr (inr (inr refl))))
read_status t size (Err fault.Store) old new ends = inr (inr (inl refl))
read_status t size (Err fault.Sink) old new ends = inr (inl refl)
read_status t size (Err fault.Source) old new ends = absurd ends

no_cause : {code : ℕ} {old new : Outside} → (code ≡ 4 → ⊥) → (code ≡ 5 → ⊥) → (code ≡ 6 → ⊥) → HasItsCause code old new
no_cause four five six = record { source = λ e. absurd (four e); sink = λ e. absurd (five e); store = λ e. absurd (six e) }

sink_rose : (t : Target) (size : ℕ) {old new : Outside} → ReadEnds t size (Err fault.Sink) old new → Rose old.out_faults new.out_faults ⊎ Rose old.trace_faults new.trace_faults
sink_rose t size ends = elim ends [ inl is ↦ inr is.0 | inr is ↦ inl is.0 ]

pub read_causes : (t : Target) (size : ℕ) (answer : Answer) {old new : Outside} → ReadEnds t size answer old new → HasItsCause (code_of answer) old new
read_causes t size (Ok value) ends = no_cause (λ e. omega (arith, e)) (λ e. omega (arith, e)) (λ e. omega (arith, e))
read_causes t size (Err fault.Outside) ends = no_cause (λ e. omega (arith, e)) (λ e. omega (arith, e)) (λ e. omega (arith, e))
read_causes t size (Err fault.Memory) ends = no_cause (λ e. omega (arith, e)) (λ e. omega (arith, e)) (λ e. omega (arith, e))
read_causes t size (Err (fault.TooLong n)) ends = no_cause (λ e. omega (arith, e)) (λ e. omega (arith, e)) (λ e. omega (arith, e))
read_causes t size (Err (fault.Unusable done)) ends = no_cause (λ e. omega (arith, e)) (λ e. omega (arith, e)) (λ e. omega (arith, e))
read_causes t size (Err fault.Store) ends = record { source = λ e. absurd (omega (arith, e)); sink = λ e. absurd (omega (arith, e)); store = λ e. ends.0 }
read_causes t size (Err fault.Sink) ends = record { source = λ e. absurd (omega (arith, e)); sink = λ e. sink_rose t size ends; store = λ e. absurd (omega (arith, e)) }
read_causes t size (Err fault.Source) ends = absurd ends

-- and those of a write
written_rose : (w : Writing) {old new : Outside} → WriteEnds w (Err fault.Sink) old new → Rose old.out_faults new.out_faults ⊎ Rose old.trace_faults new.trace_faults
written_rose w ends = elim ends [ inl is ↦ inr is.0 | inr is ↦ inl is.0 ]

pub write_causes : (w : Writing) (answer : Answer) {old new : Outside} → WriteEnds w answer old new → HasItsCause (code_of answer) old new
write_causes w (Ok value) ends = no_cause (λ e. omega (arith, e)) (λ e. omega (arith, e)) (λ e. omega (arith, e))
write_causes w (Err fault.Outside) ends = no_cause (λ e. omega (arith, e)) (λ e. omega (arith, e)) (λ e. omega (arith, e))
write_causes w (Err fault.Memory) ends = no_cause (λ e. omega (arith, e)) (λ e. omega (arith, e)) (λ e. omega (arith, e))
write_causes w (Err (fault.TooLong n)) ends = no_cause (λ e. omega (arith, e)) (λ e. omega (arith, e)) (λ e. omega (arith, e))
write_causes w (Err (fault.Unusable done)) ends = no_cause (λ e. omega (arith, e)) (λ e. omega (arith, e)) (λ e. omega (arith, e))
write_causes w (Err fault.Store) ends = record { source = λ e. absurd (omega (arith, e)); sink = λ e. absurd (omega (arith, e)); store = λ e. ends.0 }
write_causes w (Err fault.Sink) ends = record { source = λ e. absurd (omega (arith, e)); sink = λ e. written_rose w ends; store = λ e. absurd (omega (arith, e)) }
write_causes w (Err fault.Source) ends = record { source = λ e. ends.0; sink = λ e. absurd (omega (arith, e)); store = λ e. absurd (omega (arith, e)) }

-- ---- THE TRANSFER, by the two cases
pub read_is : (transfer : Transfer) (t : Target) (size : ℕ) (answer : Answer) (old new : Outside) → transfer ≡ Read t size → ReadEnds t size answer old new → Ends transfer answer old new
read_is transfer t size answer old new e ends = subst (λ (x : Transfer). Ends x answer old new) (sym e) ends

pub write_is : (transfer : Transfer) (w : Writing) (answer : Answer) (old new : Outside) → transfer ≡ Write w → WriteEnds w answer old new
    → (IsTrue new.source_tells → length old.left ≤ length new.left + limit_of w + 1) → Ends transfer answer old new
write_is transfer w answer old new e ends taken = subst (λ (x : Transfer). Ends x answer old new) (sym e) (ends, taken)

write_status : (answer : Answer) → IsReadCode (code_of answer) ⊎ (code_of answer ≡ 4)
write_status (Ok value) = inl (inl refl)
write_status (Err fault.Outside) = inl (inr (inr (inr (inr (inr refl)))))
write_status (Err fault.Memory) = inl (inr (inr (inr (inr (inl refl)))))
write_status (Err (fault.TooLong n)) = inl (inr (inr (inr (inl refl))))
write_status (Err (fault.Unusable done)) = inl (inr (inr (inr (inr (inr refl)))))
write_status (Err fault.Store) = inl (inr (inr (inl refl)))
write_status (Err fault.Sink) = inl (inr (inl refl))
write_status (Err fault.Source) = inr refl

pub write_code : (transfer : Transfer) (w : Writing) (answer : Answer) → transfer ≡ Write w → IsTransferCode transfer (code_of answer)
write_code transfer w answer e = subst (λ (x : Transfer). IsTransferCode x (code_of answer)) (sym e) (write_status answer)

pub write_reads : (transfer : Transfer) (w : Writing) → transfer ≡ Write w → reads_source transfer ≡ false → ⊥
write_reads transfer w e none = its (subst (λ (x : Transfer). reads_source x ≡ false) e none)
  where
    its : reads_source (Write w) ≡ false → ⊥
    its same = cc
