-- What a line is written as is read as that line, and its words have no blanks.
use Rattle.std.proofs.Common.{◌≡◌, ℕ, ◌≤◌, Bool, true, false, Result, Ok, List, [], ◌∷◌, arith, refl, ap, ◌∙◌}
use Rattle.std.specs.Prelude.{codes}
use Rattle.std.specs.Fmt.{decimal}
use Rattle.drive_registers.specs.declared.OffsetCode.{OffsetCode}
use Rattle.drive_registers.specs.declared.OffsetCode.TheVariants.{Plus400, Minus400, Plus800, Minus800, Plus1200, Minus1200}
use Rattle.hardware_table.specs.declared.FaultKind.TheVariants as fault
use Rattle.hardware_table.specs.declared.Moved.{Moved}
use Rattle.hardware_table.specs.declared.Moved.TheVariants as verdict
use Rattle.mass_text.specs.Numbers.{numeral}
use Rattle.mass_text.specs.declared.numbers.Radix.TheVariants.{Octal}
use Rattle.script_lines.specs.Fields.{changed}
use Rattle.trace_replay.specs.requests.Requests.{WriteOk}
use Rattle.trace_lines.specs.declared.telling.Told.{Told}
use Rattle.trace_lines.specs.declared.telling.Told.TheVariants as told
use Rattle.trace_lines.specs.Deeds.{deed_of}
use Rattle.trace_reader.specs.declared.fault.TraceKind.{TraceKind}
use Rattle.trace_reader.specs.declared.line.TraceLine.{TraceLine}
use Rattle.trace_reader.specs.declared.line.TraceLine.TheVariants.{Deed, Idle}
use Rattle.trace_reader.specs.declared.verbs.Command.{Command}
use Rattle.trace_reader.specs.declared.verbs.Command.TheVariants as commands
use Rattle.trace_reader.specs.declared.verbs.Verb.{Verb}
use Rattle.trace_reader.specs.declared.verbs.Verb.TheVariants as verbs
use Rattle.trace_reader.specs.Lines.{IsLine, IsTold, IsVerdict}
use Rattle.trace_reader.specs.Reading.{block_in, code_in, command_form, command_in, cylinder_in, decimal_in, deed_form, first, line_form, line_in, none, number_in, plain_verdict_in, told_form, transfer_form, verb_in, verb_word, verdict_form}
use Rattle.trace_reader.proofs.FormLaws.{code_complete, command_complete, first_reads, words_in}
use Rattle.trace_reader.proofs.NumberLaws.{decimal_complete, octal_complete}
use Rattle.trace_reader.proofs.WordLaws.{AreWhole, decimal_whole, octal_whole}
use Rattle.trace_replay.specs.Text.{first_word, last_words, offset_word, verdict_words}

block_read : (block : ℕ) → block ≤ 500383 → block_in (decimal block) ≡ Ok block
block_read block h = decimal_complete 0 500383 block (omega arith) (omega arith) h

cylinder_read : (cylinder : ℕ) → cylinder ≤ 822 → cylinder_in (decimal cylinder) ≡ Ok cylinder
cylinder_read cylinder h = decimal_complete 0 822 cylinder (omega arith) (omega arith) h

line_read : (line : ℕ) → 1 ≤ line → line ≤ 1000001 → line_in (decimal line) ≡ Ok line
line_read line low high = decimal_complete 1 1000001 line (omega arith) low high

one_back : {A B : Type 0} (reads : List ℕ → Result A TraceKind) (name : A → B) (word : List ℕ) (a : A) → reads word ≡ Ok a → first reads (λ x. none (name x)) (word ∷ []) ≡ Ok (name a)
one_back reads name word a e = first_reads reads (λ x. none (name x)) word [] a e

two_back : {A B C : Type 0} (reads : List ℕ → Result A TraceKind) (next : List ℕ → Result B TraceKind) (name : A → B → C) (word other : List ℕ) (a : A) (b : B) → reads word ≡ Ok a → next other ≡ Ok b
    → first reads (λ x. first next (λ y. none (name x y))) (word ∷ other ∷ []) ≡ Ok (name a b)
two_back reads next name word other a b e d = first_reads reads (λ x. first next (λ y. none (name x y))) word (other ∷ []) a e ∙ one_back next (name a) other b d

-- a command's words
transfer_back : (write : Bool) (block count : ℕ) → block ≤ 500383 → 1 ≤ count → count ≤ 127 → transfer_form write (decimal block ∷ decimal count ∷ []) ≡ Ok (told.Transfer write block count)
transfer_back write block count b low high =
    two_back block_in (decimal_in 1 127) (λ x y. told.Transfer write x y) (decimal block) (decimal count) block count (block_read block b) (decimal_complete 1 127 count (omega arith) low high)

commanded : (command : Command) (word : List ℕ) (words : List (List ℕ)) (t : Told) → command_in word ≡ Ok command → command_form command words ≡ Ok t → told_form verbs.Cmd (word ∷ words) ≡ Ok t
unfolding told_form
commanded command word words t c e = first_reads command_in command_form word words command c ∙ e

-- a verdict's words
plain : (block : ℕ) (v : Moved) (word : List ℕ) → block ≤ 500383 → verdict_form block (word ∷ []) ≡ Ok (told.Sector block v) → told_form verbs.Sector (decimal block ∷ word ∷ []) ≡ Ok (told.Sector block v)
unfolding told_form
plain block v word h e = first_reads block_in verdict_form (decimal block) (word ∷ []) block (block_read block h) ∙ e

burst_back : (block at pattern : ℕ) → block ≤ 500383 → 1 ≤ at → at ≤ 4128 → 1 ≤ pattern → pattern ≤ 2047
    → told_form verbs.Sector (decimal block ∷ codes "burst" ∷ decimal at ∷ numeral Octal pattern ∷ []) ≡ Ok (told.Sector block (verdict.Burst at pattern))
unfolding told_form verdict_form
burst_back block at pattern h al ah pl ph =
    first_reads block_in verdict_form (decimal block) (codes "burst" ∷ decimal at ∷ numeral Octal pattern ∷ []) block (block_read block h)
    ∙ two_back (decimal_in 1 4128) (number_in Octal 1 2047) (λ x y. told.Sector block (verdict.Burst x y)) (decimal at) (numeral Octal pattern) at pattern
    (decimal_complete 1 4128 at (omega arith) al ah) (octal_complete 1 2047 pattern (omega arith) (omega arith) pl ph)

sector_back : (block : ℕ) (v : Moved) → block ≤ 500383 → IsVerdict v → told_form verbs.Sector (decimal block ∷ verdict_words v) ≡ Ok (told.Sector block v)
unfolding verdict_form plain_verdict_in
sector_back block verdict.Clean h is = plain block verdict.Clean (codes "clean") h refl
sector_back block (verdict.Burst at pattern) h is = burst_back block at pattern h is.0.0 is.0.1 is.1.0 is.1.1
sector_back block verdict.Hard h is = plain block verdict.Hard (codes "ecc") h refl
sector_back block verdict.Marked h is = plain block verdict.Marked (codes "mark") h refl
sector_back block (verdict.Faulted fault.Seek) h is = plain block (verdict.Faulted fault.Seek) (codes "seek") h refl
sector_back block (verdict.Faulted fault.Opi) h is = plain block (verdict.Faulted fault.Opi) (codes "opi") h refl
sector_back block (verdict.Faulted fault.Dte) h is = plain block (verdict.Faulted fault.Dte) (codes "dte") h refl
sector_back block (verdict.Faulted fault.Hcrc) h is = plain block (verdict.Faulted fault.Hcrc) (codes "hcrc") h refl
sector_back block (verdict.Faulted fault.Late) h is = plain block (verdict.Faulted fault.Late) (codes "late") h refl
sector_back block verdict.Offline h is = plain block verdict.Offline (codes "offline") h refl

-- the word in front of what is told
abbrev pub verb_of : Told → Verb
verb_of told.Arrive = verbs.Arrive
verb_of (told.Sector block v) = verbs.Sector
verb_of told.Intr = verbs.Intr
verb_of (told.Try block failures) = verbs.Try
verb_of told.Attn = verbs.Attn
verb_of told.End = verbs.End
verb_of t = verbs.Cmd

told_back : (t : Told) → IsTold t → told_form (verb_of t) (last_words (deed_of WriteOk t)) ≡ Ok t
unfolding told_form
told_back (told.Search cylinder sector) h =
    commanded commands.Search (codes "search") (decimal cylinder ∷ decimal sector ∷ []) (told.Search cylinder sector) (command_complete commands.Search)
    (two_back cylinder_in (decimal_in 0 31) (λ x y. told.Search x y) (decimal cylinder) (decimal sector) cylinder sector (cylinder_read cylinder h.0) (decimal_complete 0 31 sector (omega arith) (omega arith) h.1))
told_back (told.Seek cylinder) h =
    commanded commands.Seek (codes "seek") (decimal cylinder ∷ []) (told.Seek cylinder) (command_complete commands.Seek)
    (one_back cylinder_in (λ x. told.Seek x) (decimal cylinder) cylinder (cylinder_read cylinder h))
told_back told.Recal h = commanded commands.Recal (codes "recal") [] told.Recal (command_complete commands.Recal) refl
told_back (told.Offset code) h =
    commanded commands.Offset (codes "offset") (offset_word code ∷ []) (told.Offset code) (command_complete commands.Offset)
    (one_back code_in (λ x. told.Offset x) (offset_word code) code (code_complete code))
told_back told.Centre h = commanded commands.Centre (codes "rtc") [] told.Centre (command_complete commands.Centre) refl
told_back told.Clear h = commanded commands.Clear (codes "dclr") [] told.Clear (command_complete commands.Clear) refl
told_back told.Pack h = commanded commands.Pack (codes "pack") [] told.Pack (command_complete commands.Pack) refl
told_back (told.Transfer true block count) h =
    commanded commands.Write (codes "wcom") (decimal block ∷ decimal count ∷ []) (told.Transfer true block count) (command_complete commands.Write) (transfer_back true block count h.0 h.1.0 h.1.1)
told_back (told.Transfer false block count) h =
    commanded commands.Read (codes "rcom") (decimal block ∷ decimal count ∷ []) (told.Transfer false block count) (command_complete commands.Read) (transfer_back false block count h.0 h.1.0 h.1.1)
told_back (told.Sector block v) h = sector_back block v h.0 h.1
told_back (told.Try block failures) h =
    two_back block_in (decimal_in 1 28) (λ x y. told.Try x y) (decimal block) (decimal failures) block failures (block_read block h.0) (decimal_complete 1 28 failures (omega arith) h.1.0 h.1.1)
told_back other h = refl

verb_is : (t : Told) → first_word (deed_of WriteOk t) ≡ verb_word (verb_of t)
verb_is (told.Search cylinder sector) = refl
verb_is other = refl

-- a line's words
deed_back : (line u id : ℕ) (t : Told) → IsLine (Deed line u id t) → deed_form (verb_of t) (decimal line ∷ decimal u ∷ decimal id ∷ last_words (deed_of WriteOk t)) ≡ Ok (Deed line u id t)
unfolding deed_form
deed_back line u id t h =
    first_reads line_in (λ line. first (decimal_in 0 31) (λ u. first (decimal_in 0 4294967295) (λ id. λ ws. changed (λ t. Deed line u id t) (told_form (verb_of t) ws))))
    (decimal line) (decimal u ∷ decimal id ∷ last_words (deed_of WriteOk t)) line (line_read line h.0.0 h.0.1)
    ∙ first_reads (decimal_in 0 31) (λ u. first (decimal_in 0 4294967295) (λ id. λ ws. changed (λ t. Deed line u id t) (told_form (verb_of t) ws)))
    (decimal u) (decimal id ∷ last_words (deed_of WriteOk t)) u (decimal_complete 0 31 u (omega arith) (omega arith) h.1)
    ∙ first_reads (decimal_in 0 4294967295) (λ id. λ ws. changed (λ t. Deed line u id t) (told_form (verb_of t) ws)) (decimal id) (last_words (deed_of WriteOk t)) id
    (decimal_complete 0 4294967295 id (omega arith) (omega arith) h.2)
    ∙ ap (λ r. changed (λ t. Deed line u id t) r) (told_back t h.3)

verb_then : (verb : Verb) (words : List (List ℕ)) → line_form (verb_word verb ∷ words) ≡ deed_form verb words
unfolding line_form verb_in
verb_then verbs.Cmd words = refl
verb_then other words = refl

idle_back : (line : ℕ) → 1 ≤ line → line ≤ 1000001 → line_form (codes "idle" ∷ decimal line ∷ []) ≡ Ok (Idle line)
unfolding line_form
idle_back line low high = one_back line_in (λ x. Idle x) (decimal line) line (line_read line low high)

pub line_complete : (l : TraceLine) → IsLine l → line_form (words_in l) ≡ Ok l
line_complete (Deed line u id t) h =
    ap (λ (w : List ℕ). line_form (w ∷ decimal line ∷ decimal u ∷ decimal id ∷ last_words (deed_of WriteOk t))) (verb_is t)
    ∙ verb_then (verb_of t) (decimal line ∷ decimal u ∷ decimal id ∷ last_words (deed_of WriteOk t)) ∙ deed_back line u id t h
line_complete (Idle line) h = idle_back line h.0 h.1

-- NO BLANKS
verdict_whole : (v : Moved) → IsVerdict v → AreWhole (verdict_words v)
verdict_whole verdict.Clean h = (refl, tt)
verdict_whole (verdict.Burst at pattern) h = (refl, (decimal_whole at (omega arith), (octal_whole pattern (omega arith), tt)))
verdict_whole verdict.Hard h = (refl, tt)
verdict_whole verdict.Marked h = (refl, tt)
verdict_whole (verdict.Faulted fault.Seek) h = (refl, tt)
verdict_whole (verdict.Faulted fault.Opi) h = (refl, tt)
verdict_whole (verdict.Faulted fault.Dte) h = (refl, tt)
verdict_whole (verdict.Faulted fault.Hcrc) h = (refl, tt)
verdict_whole (verdict.Faulted fault.Late) h = (refl, tt)
verdict_whole verdict.Offline h = (refl, tt)

code_whole : (code : OffsetCode) → AreWhole (offset_word code ∷ [])
code_whole Plus400 = (refl, tt)
code_whole other = (refl, tt)

last_whole : (t : Told) → IsTold t → AreWhole (last_words (deed_of WriteOk t))
last_whole (told.Search cylinder sector) h = (refl, (decimal_whole cylinder (omega arith), (decimal_whole sector (omega arith), tt)))
last_whole (told.Seek cylinder) h = (refl, (decimal_whole cylinder (omega arith), tt))
last_whole (told.Offset code) h = (refl, code_whole code)
last_whole (told.Transfer true block count) h = (refl, (decimal_whole block (omega arith), (decimal_whole count (omega arith), tt)))
last_whole (told.Transfer false block count) h = (refl, (decimal_whole block (omega arith), (decimal_whole count (omega arith), tt)))
last_whole told.Arrive h = tt
last_whole (told.Sector block v) h = (decimal_whole block (omega arith), verdict_whole v h.1)
last_whole told.Intr h = tt
last_whole (told.Try block failures) h = (decimal_whole block (omega arith), (decimal_whole failures (omega arith), tt))
last_whole told.Attn h = tt
last_whole told.End h = tt
last_whole other h = (refl, tt)

verb_whole : (verb : Verb) → AreWhole (verb_word verb ∷ [])
verb_whole verbs.Cmd = (refl, tt)
verb_whole other = (refl, tt)

pub line_whole : (l : TraceLine) → IsLine l → AreWhole (words_in l)
line_whole (Deed line u id t) h =
    (rw (verb_is t) (verb_whole (verb_of t)).0, (decimal_whole line (omega arith), (decimal_whole u (omega arith), (decimal_whole id (omega arith), last_whole t h.3))))
line_whole (Idle line) h = (refl, (decimal_whole line (omega arith), tt))
