-- Round trips.
use Rattle.std.proofs.Common.{◌≡◌, ℕ, ◌==◌, ◌<◌, arith, Bool, true, false, cond, List, [], ◌∷◌, ◌++◌, length, refl, sym, ap, ◌∙◌, append_assoc, subst}
use Rattle.std.specs.List.{flat_map}
use Rattle.std.proofs.lemmas.Bool.Decides.{nat_tests}
use Rattle.script_reader.specs.Lines.{onto_first, pieces_of}
use Rattle.script_reader.specs.Stored.{Stored}
use Rattle.trace_reader.specs.declared.line.TraceLine.{TraceLine}
use Rattle.trace_reader.specs.declared.line.TraceLine.TheVariants as lines
use Rattle.trace_reader.specs.Grammar.{Says, Say}
use Rattle.trace_reader.specs.Lines.{IsLine, line_number, line_text}
use Rattle.trace_reader.specs.RoundTrip.{AreOfRun, ReadsAsTold, ReadsOfRun, WritesAsRead, closed, lines_told, told_of}
use Rattle.trace_reader.proofs.BackLaws.{line_whole}
use Rattle.trace_reader.proofs.FormLaws.{words_in}
use Rattle.trace_reader.proofs.LineLaws.{text_of_words}
use Rattle.trace_reader.proofs.WordLaws.{joined, joined_plain, piece_off}
use Rattle.trace_replay.specs.Moments.{Deed, Search, Seek, Recal, Offset, Centre, Clear, Pack, Transfer, Arrive, Sector, Intr, Try, Attn, End, Moment, Played, Told as Said, Idle}
use Rattle.trace_replay.specs.Text.{ended, moment_text, trace_text}

-- the text of a moment is that of its line
told_text : (line u id : ℕ) (deed : Deed) → moment_text (Said line u id deed) ≡ line_text (lines.Deed line u id (told_of deed))
told_text line u id (Search cylinder sector) = refl
told_text line u id other = refl

trace_is : (ms : List Moment) → trace_text ms ≡ flat_map line_text (lines_told ms)
trace_is [] = refl
trace_is (Played line input ∷ ms) = trace_is ms
trace_is (Said line u id deed ∷ ms) =
    ap (λ (text : List ℕ). text ++ trace_text ms) (told_text line u id deed)
    ∙ ap (λ (text : List ℕ). line_text (lines.Deed line u id (told_of deed)) ++ text) (trace_is ms)
trace_is (Idle line ∷ ms) = ap (λ (text : List ℕ). line_text (lines.Idle line) ++ text) (trace_is ms)

-- what lines are written as says them
pieces_are : (l : TraceLine) (rest : List ℕ) → IsLine l → pieces_of (line_text l ++ rest) ≡ joined (words_in l) ∷ pieces_of rest
pieces_are l rest h =
    ap (λ (text : List ℕ). pieces_of (text ++ rest)) (text_of_words l) ∙ ap pieces_of (append_assoc (joined (words_in l)) (10 ∷ []) rest)
    ∙ piece_off (joined (words_in l)) rest (joined_plain (words_in l) (line_whole l h))

said : (script : Stored) (before : List TraceLine) (ls : List TraceLine) → AreOfRun script before ls → Say script before (pieces_of (flat_map line_text ls)) ls
said script before [] h = tt
said script before (l ∷ ls) h =
    let here : Says (joined (words_in l)) l = record { is_line = h.0; spelled = sym (text_of_words l) } in
    subst (λ (texts : List (List ℕ)). Say script before texts (l ∷ ls)) (sym (pieces_are l (flat_map line_text ls) h.0)) (here, h.1, said script (before ++ l ∷ []) ls h.2)

pub reads_as_told : ReadsAsTold
reads_as_told script ms h short = record {
  short = short;
  says = subst (λ (text : List ℕ). Say script [] (pieces_of text) (lines_told ms)) (sym (trace_is ms)) (said script [] (lines_told ms) h);
}

-- texts that say lines are their texts
written : (script : Stored) (before : List TraceLine) (texts : List (List ℕ)) (ls : List TraceLine) → Say script before texts ls → flat_map line_text ls ≡ ended texts
written script before [] [] h = refl
written script before [] (l ∷ ls) h = absurd h
written script before (text ∷ texts) [] h = absurd h
written script before (text ∷ texts) (l ∷ ls) h =
    ap (λ (t : List ℕ). t ++ flat_map line_text ls) (sym h.0.spelled) ∙ ap (λ (t : List ℕ). (text ++ 10 ∷ []) ++ t) (written script (before ++ l ∷ []) texts ls h.2)

-- bytes are their lines
equal : (b : ℕ) → (b == 10) ≡ true → b ≡ 10
equal b e = grind (arith, nat_tests)

onto_ended : (b : ℕ) (ls : List (List ℕ)) → 0 < length ls → ended (onto_first b ls) ≡ b ∷ ended ls
onto_ended b [] h = absurd (omega arith)
onto_ended b (l ∷ ls) h = refl

some_onto : (b : ℕ) (ls : List (List ℕ)) → 0 < length (onto_first b ls)
some_onto b [] = omega arith
some_onto b (l ∷ ls) = omega arith

some_pieces : (b : ℕ) (bs : List ℕ) → 0 < length (pieces_of (b ∷ bs))
some_pieces b bs = some_by (b == 10) (pieces_of bs)
  where
    some_by : (feed : Bool) (ls : List (List ℕ)) → 0 < length (cond feed ([] ∷ ls) (onto_first b ls))
    some_by true ls = omega arith
    some_by false ls = some_onto b ls

last_by : (b : ℕ) (feed : Bool) → (b == 10) ≡ feed → ended (cond feed ([] ∷ []) ((b ∷ []) ∷ [])) ≡ cond feed (b ∷ []) (b ∷ 10 ∷ [])
last_by b true is = ap (λ (c : ℕ). c ∷ []) (sym (equal b is))
last_by b false is = refl

more_by : (b : ℕ) (feed : Bool) (ls : List (List ℕ)) (rest : List ℕ) → (b == 10) ≡ feed → 0 < length ls → ended ls ≡ rest → ended (cond feed ([] ∷ ls) (onto_first b ls)) ≡ b ∷ rest
more_by b true ls rest is some e = ap (λ (c : ℕ). c ∷ ended ls) (sym (equal b is)) ∙ ap (λ (r : List ℕ). b ∷ r) e
more_by b false ls rest is some e = onto_ended b ls some ∙ ap (λ (r : List ℕ). b ∷ r) e

ended_is : (bytes : List ℕ) → ended (pieces_of bytes) ≡ closed bytes
ended_is [] = refl
ended_is (b ∷ []) = last_by b (b == 10) refl
ended_is (b ∷ c ∷ cs) = more_by b (b == 10) (pieces_of (c ∷ cs)) (closed (c ∷ cs)) refl (some_pieces c cs) (ended_is (c ∷ cs))

pub writes_as_read : WritesAsRead
writes_as_read script bytes ls h = written script [] (pieces_of bytes) ls h.says ∙ ended_is bytes

of_run : (script : Stored) (before : List TraceLine) (texts : List (List ℕ)) (ls : List TraceLine) → Say script before texts ls → AreOfRun script before ls
of_run script before [] [] h = tt
of_run script before [] (l ∷ ls) h = absurd h
of_run script before (text ∷ texts) [] h = absurd h
of_run script before (text ∷ texts) (l ∷ ls) h = (h.0.is_line, h.1, of_run script (before ++ l ∷ []) texts ls h.2)

pub reads_of_run : ReadsOfRun
reads_of_run script bytes ls h = of_run script [] (pieces_of bytes) ls h.says
