-- WHAT A TRANSFER HAS DONE, by what it is answered: from the bytes of the source to those of the sink, the trace and the packs.
use Rattle.std.specs.Prelude.{◌≡◌, ◌⊎◌, ℕ, ◌+◌, ◌*◌, ◌<◌, ◌≤◌, IsTrue, List, [], ◌∷◌, ◌++◌, codes, decimal, length, Ok, Err}
use Rattle.outside_traits.specs.Causes.{Rose}
use Rattle.outside_traits.specs.Puts.{TakesFront}
use Rattle.pack_geometry.specs.declared.DriveKind.{DriveKind}
use Rattle.pack_geometry.specs.Geometry.{block_count}
use Rattle.partitions.specs.declared.Part.TheVariants.{B}
use Rattle.driver_laws.specs.rules.Bytes.{IsOutside, blocks_for, dumped, dump_place}
use Rattle.command_parts.specs.Lines.{Told, too_long_text}
use Rattle.command_parts.specs.Outside.{Outside}
use Rattle.raw_command.specs.Faults.{Answer, code_of}
use Rattle.raw_command.specs.Transfers.{HasRead, HasWritten, LeftRead, LeftWritten}
use Rattle.raw_command.specs.declared.fault.TransferFault.{TransferFault}
use Rattle.raw_command.specs.declared.fault.TransferFault.TheVariants as fault
use Rattle.command_parts.specs.declared.words.Target.{Target}
use Rattle.command_parts.specs.declared.words.Transfer.{Transfer}
use Rattle.command_parts.specs.declared.words.Transfer.TheVariants.{Read, Write}
use Rattle.command_parts.specs.declared.words.Writing.{Writing}
use Rattle.command_parts.specs.declared.words.Writing.TheVariants.{Raw, Dump}

-- what is printed of a fault; nothing more where the packs, the source or a sink failed, or there was no memory
unfoldable pub fault_text : ℕ → TransferFault → List ℕ
fault_text unit fault.Outside = codes "refused outside" ++ 10 ∷ []
fault_text unit (fault.Unusable done) = codes "refused unusable " ++ decimal done ++ 10 ∷ []
fault_text unit (fault.TooLong n) = too_long_text unit n
fault_text unit why = []

-- nothing was transferred, and nothing printed
pub record IsUntouched (old new : Outside) : Type 0 where
  pub packs : IsTrue new.packs_tell → new.held ≡ old.held
  pub trace : new.taken ≡ old.taken
  pub out : new.said ≡ old.said

-- nothing was transferred, and that is told
pub record IsRefused (unit : ℕ) (why : TransferFault) (old new : Outside) : Type 0 where
  pub packs : IsTrue new.packs_tell → new.held ≡ old.held
  pub trace : new.taken ≡ old.taken
  pub told : IsTrue new.out_tells → Told old.said new.said (fault_text unit why) old.out_faults new.out_faults

-- the image is longer than its pack
pub record IsTooLong (unit : ℕ) (kind : DriveKind) (old new : Outside) (size : ℕ) : Type 0 where
  pub refused : IsRefused unit (fault.TooLong size) old new
  pub above : 512 * block_count kind < size
  pub is : IsTrue new.packs_tell → size ≡ length (old.held unit).image

-- ---- READING. So many bytes of the range were read, and of these bytes the sink took what `Says` tells;
pub record Gives (t : Target) (size done : ℕ) (old new : Outside) (Says : List ℕ → Type 0) : Type 0 where
  pub bytes : List ℕ
  pub inside : ¬ (IsOutside t.kind t.part t.at size)
  pub long : length bytes ≡ done
  pub read : IsTrue new.packs_tell → HasRead t size done bytes old.held new.held new.trace_tells old.taken new.taken
  pub told : IsTrue new.out_tells → Says bytes

-- or the trace or the packs failed.
pub record ReadStops (why : TransferFault) (t : Target) (size : ℕ) (old new : Outside) : Type 0 where
  pub inside : ¬ (IsOutside t.kind t.part t.at size)
  pub out : new.said ≡ old.said
  pub left : IsTrue new.packs_tell → LeftRead why t new.failed_at old.held new.held new.trace_tells old.taken new.taken

-- SO IT ENDS: all bytes were read, and the sink took them, or failed and took a front of them; or those before a block that can't be used; or none.
abbrev pub ReadEnds : Target → (size : ℕ) → Answer → (old new : Outside) → Type 0
ReadEnds t size (Ok all) old new = Gives t size size old new (λ bytes. new.said ≡ old.said ++ bytes)
ReadEnds t size (Err fault.Outside) old new = IsOutside t.kind t.part t.at size × IsRefused t.unit fault.Outside old new
ReadEnds t size (Err fault.Memory) old new = ¬ (IsOutside t.kind t.part t.at size) × IsUntouched old new
ReadEnds t size (Err (fault.TooLong n)) old new = ¬ (IsOutside t.kind t.part t.at size) × IsTooLong t.unit t.kind old new n
ReadEnds t size (Err (fault.Unusable done)) old new = (done < size) × Gives t size done old new (λ bytes. Told old.said new.said bytes old.out_faults new.out_faults)
ReadEnds t size (Err fault.Store) old new = Rose old.packs_faults new.packs_faults × ReadStops fault.Store t size old new
ReadEnds t size (Err fault.Sink) old new = (Rose old.trace_faults new.trace_faults × ReadStops fault.Sink t size old new)
    ⊎ (Rose old.out_faults new.out_faults × Gives t size size old new (TakesFront old.said new.said))
ReadEnds t size (Err fault.Source) old new = ⊥

-- ---- WRITING. How many bytes a source may have at the most, and how many are refused;
abbrev pub limit_of : Writing → ℕ
limit_of (Raw t) = 16777216
limit_of (Dump unit kind) = 8388608

abbrev pub IsBeyond : Writing → (size : ℕ) → Type 0
IsBeyond (Raw t) size = (16777216 < size) ⊎ IsOutside t.kind t.part t.at size
IsBeyond (Dump unit kind) size = 8388608 < size

-- where they go, which bytes they become, and what is printed of so many: `wrote N`, or `dumped K`.
abbrev pub target_for : Writing → List ℕ → Target
target_for (Raw t) from = t
target_for (Dump unit kind) from = record { unit = unit; kind = kind; part = B; at = dump_place kind (length from) }

abbrev pub bytes_for : Writing → List ℕ → List ℕ
bytes_for (Raw t) from = from
bytes_for (Dump unit kind) from = dumped from

unfoldable pub done_text : Writing → (size : ℕ) → List ℕ
done_text (Raw t) size = codes "wrote " ++ decimal size ++ 10 ∷ []
done_text (Dump unit kind) size = codes "dumped " ++ decimal (blocks_for size) ++ 10 ∷ []

-- THE SOURCE was read to its end, and its bytes are not refused.
pub record Took (w : Writing) (from : List ℕ) (old new : Outside) : Type 0 where
  pub read : IsTrue new.source_tells → (old.left ≡ from) × (new.left ≡ [])
  pub inside : ¬ (IsBeyond w (length from))

-- So many of the bytes that they become were written;
pub record Writes (w : Writing) (from : List ℕ) (done : ℕ) (old new : Outside) : Type 0 where
  pub took : Took w from old new
  pub written : IsTrue new.packs_tell → HasWritten (target_for w from) done (bytes_for w from) old.held new.held new.trace_tells old.taken new.taken

-- all of them, and of the text for that the sink took what `Says` tells;
pub record WritesAll (w : Writing) (old new : Outside) (Says : List ℕ → Type 0) : Type 0 where
  pub from : List ℕ
  pub writes : Writes w from (length (bytes_for w from)) old new
  pub told : IsTrue new.out_tells → Says (done_text w (length from))

-- those before a block that can't be used;
pub record WritesFront (w : Writing) (done : ℕ) (old new : Outside) : Type 0 where
  pub from : List ℕ
  pub some_left : done < length (bytes_for w from)
  pub writes : Writes w from done old new
  pub told : IsTrue new.out_tells → Told old.said new.said (fault_text (target_for w from).unit (fault.Unusable done)) old.out_faults new.out_faults

-- none, since the image is too long;
pub record WritesNone (w : Writing) (size : ℕ) (old new : Outside) : Type 0 where
  pub from : List ℕ
  pub took : Took w from old new
  pub long : IsTooLong (target_for w from).unit (target_for w from).kind old new size

-- or the trace or the packs failed.
pub record WriteStops (why : TransferFault) (w : Writing) (old new : Outside) : Type 0 where
  pub from : List ℕ
  pub took : Took w from old new
  pub out : new.said ≡ old.said
  pub left : IsTrue new.packs_tell → LeftWritten why (target_for w from) new.failed_at (bytes_for w from) old.held new.held new.trace_tells old.taken new.taken

-- SO IT ENDS: all bytes were written, and the sink took the text for that, or failed and took a front of it; or those before a block that can't be
-- used; or none.
abbrev pub WriteEnds : Writing → Answer → (old new : Outside) → Type 0
WriteEnds w (Ok all) old new = WritesAll w old new (λ text. new.said ≡ old.said ++ text)
WriteEnds w (Err fault.Outside) old new = (IsTrue new.source_tells → IsBeyond w (length old.left)) × IsRefused (target_for w old.left).unit fault.Outside old new
WriteEnds w (Err fault.Memory) old new = IsUntouched old new
WriteEnds w (Err fault.Source) old new = Rose old.source_faults new.source_faults × IsUntouched old new
WriteEnds w (Err (fault.TooLong n)) old new = WritesNone w n old new
WriteEnds w (Err (fault.Unusable done)) old new = WritesFront w done old new
WriteEnds w (Err fault.Store) old new = Rose old.packs_faults new.packs_faults × WriteStops fault.Store w old new
WriteEnds w (Err fault.Sink) old new = (Rose old.trace_faults new.trace_faults × WriteStops fault.Sink w old new)
    ⊎ (Rose old.out_faults new.out_faults × WritesAll w old new (TakesFront old.said new.said))

-- ---- THE TRANSFER. Of the source one byte more than the limit is taken at the most.
abbrev pub Ends : Transfer → Answer → (old new : Outside) → Type 0
Ends (Read t size) answer old new = ReadEnds t size answer old new
Ends (Write w) answer old new = WriteEnds w answer old new × (IsTrue new.source_tells → length old.left ≤ length new.left + limit_of w + 1)

-- as a run of the program, by the status that it ends with
pub record RunsTransfer (transfer : Transfer) (code : ℕ) (old new : Outside) : Type 0 where
  pub answer : Answer
  pub code_is : code ≡ code_of answer
  pub ends : Ends transfer answer old new

-- AN OBJECT STAYS that a transfer does not speak to before it ends so.
pub record Stays {P O T : Type 0} (code : ℕ) (packs packs' : P) (out out' : O) (trace trace' : T) : Type 0 where
  pub untouched : code ≡ 4 → packs' ≡ packs
  pub silent : (code ≡ 4) ⊎ (code ≡ 9) → out' ≡ out
  pub untraced : (code ≡ 4) ⊎ (code ≡ 7) ⊎ (code ≡ 9) → trace' ≡ trace
