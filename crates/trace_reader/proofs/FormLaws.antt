-- What a line's words say: a line that is read has just its own words, and its words are read as that line.
use Rattle.std.proofs.Common.{◌≡◌, ℕ, ◌≤◌, Bool, true, false, cond, Result, Ok, Err, List, [], ◌∷◌, Option, None, Some, arith, refl, sym, ap, ◌∙◌, subst}
use Rattle.std.specs.Prelude.{codes}
use Rattle.std.specs.Fmt.{decimal}
use Rattle.std.specs.Str.{bytes_eq}
use Rattle.std.proofs.lemmas.Slice.Eq.{bytes_eq-Decides}
use Rattle.drive_registers.specs.declared.OffsetCode.{OffsetCode}
use Rattle.drive_registers.specs.declared.OffsetCode.TheVariants.{Plus400, Minus400, Plus800, Minus800, Plus1200, Minus1200}
use Rattle.hardware_table.specs.declared.FaultKind.TheVariants as fault
use Rattle.hardware_table.specs.declared.Moved.{Moved}
use Rattle.hardware_table.specs.declared.Moved.TheVariants as verdict
use Rattle.mass_text.specs.Numbers.{numeral}
use Rattle.mass_text.specs.declared.numbers.Radix.TheVariants.{Octal}
use Rattle.script_lines.specs.Fields.{and_then, changed}
use Rattle.script_lines.specs.Words.{named, offsets}
use Rattle.trace_replay.specs.requests.Requests.{WriteOk}
use Rattle.trace_lines.specs.declared.telling.Told.{Told}
use Rattle.trace_lines.specs.declared.telling.Told.TheVariants as told
use Rattle.trace_lines.specs.Deeds.{deed_of}
use Rattle.trace_reader.specs.declared.fault.TraceKind.{TraceKind}
use Rattle.trace_reader.specs.declared.line.TraceLine.{TraceLine}
use Rattle.trace_reader.specs.declared.line.TraceLine.TheVariants.{Deed, Idle}
use Rattle.trace_reader.specs.declared.verbs.Command.{Command}
use Rattle.trace_reader.specs.declared.verbs.Command.TheVariants as commands
use Rattle.trace_reader.specs.declared.verbs.Verb.{Verb}
use Rattle.trace_reader.specs.declared.verbs.Verb.TheVariants as verbs
use Rattle.trace_reader.specs.Lines.{IsLine, IsTold, IsVerdict}
use Rattle.trace_reader.specs.Reading.{Form, all_commands, all_verbs, block_in, burst_form, code_in, command_form, command_in, command_word, cylinder_in, decimal_in, deed_form, first, line_form, line_in, none, number_in, plain_verdict_in, plain_verdicts, some_word, told_form, transfer_form, verb_in, verb_word, verdict_form, verdict_word}
use Rattle.trace_reader.proofs.NumberLaws.{decimal_sound, octal_sound}
use Rattle.trace_replay.specs.Text.{first_word, last_words, offset_word, transfer_word, verdict_words}

-- PARTS OF FORMS
pub record FirstIs {A B : Type 0} (reads : List ℕ → Result A TraceKind) (rest : A → Form B) (words : List (List ℕ)) (b : B) : Type 0 where
  pub word : List ℕ
  pub others : List (List ℕ)
  pub a : A
  pub words_are : words ≡ word ∷ others
  pub here : reads word ≡ Ok a
  pub behind : rest a others ≡ Ok b

first_gives : {A B : Type 0} (reads : List ℕ → Result A TraceKind) (rest : A → Form B) (words : List (List ℕ)) (b : B) → first reads rest words ≡ Ok b
    → FirstIs reads rest words b
first_gives reads rest [] b e = absurd (cc)
first_gives {A} {B} reads rest (word ∷ others) b e = given (reads word) refl e
  where
    given : (r : Result A TraceKind) → reads word ≡ r → and_then r (λ a. rest a others) ≡ Ok b → FirstIs reads rest (word ∷ others) b
    given (Ok a) is h = record { word = word; others = others; a = a; words_are = refl; here = is; behind = h }
    given (Err kind) is h = absurd (cc)

pub first_reads : {A B : Type 0} (reads : List ℕ → Result A TraceKind) (rest : A → Form B) (word : List ℕ) (words : List (List ℕ)) (a : A) → reads word ≡ Ok a
    → first reads rest (word ∷ words) ≡ rest a words
first_reads reads rest word words a e = rw e refl

none_gives : {A : Type 0} (a b : A) (words : List (List ℕ)) → none a words ≡ Ok b → (words ≡ []) × (a ≡ b)
none_gives a b [] e = (refl, cc)
none_gives a b (word ∷ words) e = absurd (cc)

-- what holds of what is said where no word is left holds of what was read
done : {A : Type 0} (P : A → Type 0) (a b : A) (words : List (List ℕ)) → none a words ≡ Ok b → (words ≡ [] → P a) → P b
done P a b words e holds = let g = none_gives a b words e in subst P g.1 (holds g.0)

one_word : (words others : List (List ℕ)) (word a : List ℕ) → words ≡ word ∷ others → word ≡ a → others ≡ [] → words ≡ a ∷ []
one_word words others word a e w o = cc

two_words : (words others last : List (List ℕ)) (word next a b : List ℕ) → words ≡ word ∷ others → word ≡ a → others ≡ next ∷ last → next ≡ b → last ≡ [] → words ≡ a ∷ b ∷ []
two_words words others last word next a b e w o n l = cc

-- WORDS OF LISTS
some_gives : {A : Type 0} (found : Option A) (a : A) → some_word found ≡ Ok a → found ≡ Some a
some_gives (Some x) a e = let same : x ≡ a = cc in ap Some same
some_gives None a e = absurd (cc)

abbrev AllOf : {A : Type 0} → (A → Type 0) → List A → Type 0
AllOf P [] = Unit {0}
AllOf P (x ∷ xs) = P x × AllOf P xs

named_gives : {A : Type 0} (P : A → Type 0) (word : A → List ℕ) (things : List A) (text : List ℕ) (a : A) → AllOf P things → named word things text ≡ Some a
    → (text ≡ word a) × P a
named_gives P word [] text a all e = absurd (cc)
named_gives {A} P word (x ∷ xs) text a all e = given (bytes_eq text (word x)) refl e (λ h. named_gives P word xs text a all.1 h)
  where
    given : (b : Bool) → bytes_eq text (word x) ≡ b → cond b (Some x) (named word xs text) ≡ Some a → (named word xs text ≡ Some a → (text ≡ word a) × P a) → (text ≡ word a) × P a
    given true is h behind =
        let same : x ≡ a = cc in
        (((bytes_eq-Decides text (word x)).0 is) ∙ ap word same, subst P same all.0)
    given false is h behind = behind h

abbrev Any : {A : Type 0} → A → Type 0
Any a = Unit {0}

verb_sound : (word : List ℕ) (verb : Verb) → verb_in word ≡ Ok verb → word ≡ verb_word verb
unfolding verb_in
verb_sound word verb e = (named_gives (λ v. Unit {0}) verb_word all_verbs word verb (tt, (tt, (tt, (tt, (tt, (tt, (tt, tt))))))) (some_gives (named verb_word all_verbs word) verb e)).0

pub verb_complete : (verb : Verb) → verb_in (verb_word verb) ≡ Ok verb
unfolding verb_in
verb_complete verbs.Cmd = refl
verb_complete other = refl

command_sound : (word : List ℕ) (command : Command) → command_in word ≡ Ok command → word ≡ command_word command
unfolding command_in
command_sound word command e =
    (named_gives (λ c. Unit {0}) command_word all_commands word command (tt, (tt, (tt, (tt, (tt, (tt, (tt, (tt, (tt, tt)))))))))
    (some_gives (named command_word all_commands word) command e)).0

pub command_complete : (command : Command) → command_in (command_word command) ≡ Ok command
unfolding command_in
command_complete commands.Search = refl
command_complete other = refl

code_sound : (word : List ℕ) (code : OffsetCode) → code_in word ≡ Ok code → word ≡ offset_word code
unfolding code_in
code_sound word code e =
    (named_gives (λ c. Unit {0}) offset_word offsets word code (tt, (tt, (tt, (tt, (tt, (tt, tt)))))) (some_gives (named offset_word offsets word) code e)).0

pub code_complete : (code : OffsetCode) → code_in (offset_word code) ≡ Ok code
unfolding code_in
code_complete Plus400 = refl
code_complete other = refl

-- a verdict of one word
pub record IsPlain (v : Moved) : Type 0 where
  pub is_verdict : IsVerdict v
  pub word : verdict_words v ≡ verdict_word v ∷ []

plain_sound : (word : List ℕ) (v : Moved) → plain_verdict_in word ≡ Ok v → IsVerdict v × (verdict_words v ≡ word ∷ [])
unfolding plain_verdict_in
plain_sound word v e =
    let plain : (u : Moved) → IsVerdict u → verdict_words u ≡ verdict_word u ∷ [] → IsPlain u = λ u h is. record { is_verdict = h; word = is } in
    let g = named_gives IsPlain verdict_word plain_verdicts word v (
      plain verdict.Clean tt refl,
      (
        plain verdict.Hard tt refl,
        (
          plain verdict.Marked tt refl,
          (
            plain (verdict.Faulted fault.Seek) tt refl,
            (
              plain (verdict.Faulted fault.Opi) tt refl,
              (plain (verdict.Faulted fault.Dte) tt refl, (plain (verdict.Faulted fault.Hcrc) tt refl, (plain (verdict.Faulted fault.Late) tt refl, (plain verdict.Offline tt refl, tt)))),
            ),
          ),
        ),
      ),
    )
    (some_gives (named verdict_word plain_verdicts word) v e) in
    (g.1.is_verdict, g.1.word ∙ ap (λ (w : List ℕ). w ∷ []) (sym g.0))

-- COMMANDS
pub record IsCommanded (command : Command) (words : List (List ℕ)) (t : Told) : Type 0 where
  pub is_told : IsTold t
  pub front : first_word (deed_of WriteOk t) ≡ codes "cmd"
  pub spelled : command_word command ∷ words ≡ last_words (deed_of WriteOk t)

onto : (word : List ℕ) (words others : List (List ℕ)) → words ≡ others → word ∷ words ≡ word ∷ others
onto word words others e = ap (λ (ws : List (List ℕ)). word ∷ ws) e

bare : (command : Command) (u t : Told) (words : List (List ℕ)) → none u words ≡ Ok t → IsCommanded command [] u → IsCommanded command words t
bare command u t words e holds =
    done (λ (t : Told). IsCommanded command words t) u t words e (λ h. subst (λ (ws : List (List ℕ)). IsCommanded command ws u) (sym h) holds)

transfer_sound : (command : Command) (write : Bool) (words : List (List ℕ)) (t : Told) → command_word command ≡ transfer_word write → transfer_form write words ≡ Ok t → IsCommanded command words t
transfer_sound command write words t named_so e =
    let f = first_gives block_in (λ block. first (decimal_in 1 127) (λ count. none (told.Transfer write block count))) words t e in
    let g = first_gives (decimal_in 1 127) (λ count. none (told.Transfer write f.a count)) f.others t f.behind in
    let b = decimal_sound 0 500383 f.a f.word (omega arith) f.here in
    let c = decimal_sound 1 127 g.a g.word (omega arith) g.here in
    done (λ (t : Told). IsCommanded command words t) (told.Transfer write f.a g.a) t g.others g.behind (λ h. record {
      is_told = (b.1, (c.0, c.1));
      front = refl;
      spelled = ap (λ (w : List ℕ). w ∷ words) named_so ∙ onto (transfer_word write) words (decimal f.a ∷ decimal g.a ∷ [])
          (two_words words f.others g.others f.word g.word (decimal f.a) (decimal g.a) f.words_are b.2 g.words_are c.2 h);
    })

commanded_sound : (command : Command) (words : List (List ℕ)) (t : Told) → command_form command words ≡ Ok t → IsCommanded command words t
commanded_sound commands.Search words t e =
    let f = first_gives cylinder_in (λ cylinder. first (decimal_in 0 31) (λ sector. none (told.Search cylinder sector))) words t e in
    let g = first_gives (decimal_in 0 31) (λ sector. none (told.Search f.a sector)) f.others t f.behind in
    let b = decimal_sound 0 822 f.a f.word (omega arith) f.here in
    let c = decimal_sound 0 31 g.a g.word (omega arith) g.here in
    done (λ (t : Told). IsCommanded commands.Search words t) (told.Search f.a g.a) t g.others g.behind (λ h. record {
      is_told = (b.1, c.1);
      front = refl;
      spelled = onto (codes "search") words (decimal f.a ∷ decimal g.a ∷ [])
          (two_words words f.others g.others f.word g.word (decimal f.a) (decimal g.a) f.words_are b.2 g.words_are c.2 h);
    })
commanded_sound commands.Seek words t e =
    let f = first_gives cylinder_in (λ cylinder. none (told.Seek cylinder)) words t e in
    let b = decimal_sound 0 822 f.a f.word (omega arith) f.here in
    done (λ (t : Told). IsCommanded commands.Seek words t) (told.Seek f.a) t f.others f.behind (λ h. record {
      is_told = b.1;
      front = refl;
      spelled = onto (codes "seek") words (decimal f.a ∷ []) (one_word words f.others f.word (decimal f.a) f.words_are b.2 h);
    })
commanded_sound commands.Recal words t e = bare commands.Recal told.Recal t words e (record { is_told = tt; front = refl; spelled = refl })
commanded_sound commands.Offset words t e =
    let f = first_gives code_in (λ code. none (told.Offset code)) words t e in
    let b = code_sound f.word f.a f.here in
    done (λ (t : Told). IsCommanded commands.Offset words t) (told.Offset f.a) t f.others f.behind (λ h. record {
      is_told = tt;
      front = refl;
      spelled = onto (codes "offset") words (offset_word f.a ∷ []) (one_word words f.others f.word (offset_word f.a) f.words_are b h);
    })
commanded_sound commands.Centre words t e = bare commands.Centre told.Centre t words e (record { is_told = tt; front = refl; spelled = refl })
commanded_sound commands.Clear words t e = bare commands.Clear told.Clear t words e (record { is_told = tt; front = refl; spelled = refl })
commanded_sound commands.Pack words t e = bare commands.Pack told.Pack t words e (record { is_told = tt; front = refl; spelled = refl })
commanded_sound commands.Write words t e = transfer_sound commands.Write true words t refl e
commanded_sound commands.Read words t e = transfer_sound commands.Read false words t refl e

-- LINES OF UNITS
pub record IsSaid (verb : Verb) (words : List (List ℕ)) (t : Told) : Type 0 where
  pub is_told : IsTold t
  pub front : verb_word verb ≡ first_word (deed_of WriteOk t)
  pub spelled : words ≡ last_words (deed_of WriteOk t)

alone : (verb : Verb) (u t : Told) (words : List (List ℕ)) → none u words ≡ Ok t → IsSaid verb [] u → IsSaid verb words t
alone verb u t words e holds =
    done (λ (t : Told). IsSaid verb words t) u t words e (λ h. subst (λ (ws : List (List ℕ)). IsSaid verb ws u) (sym h) holds)

burst_sound : (block : ℕ) (words : List (List ℕ)) (t : Told) → block ≤ 500383 → burst_form block words ≡ Ok t → IsSaid verbs.Sector (decimal block ∷ codes "burst" ∷ words) t
burst_sound block words t inside e =
    let f = first_gives (decimal_in 1 4128) (λ at. first (number_in Octal 1 2047) (λ pattern. none (told.Sector block (verdict.Burst at pattern)))) words t e in
    let g = first_gives (number_in Octal 1 2047) (λ pattern. none (told.Sector block (verdict.Burst f.a pattern))) f.others t f.behind in
    let b = decimal_sound 1 4128 f.a f.word (omega arith) f.here in
    let c = octal_sound 1 2047 g.a g.word (omega arith) g.here in
    done (λ (t : Told). IsSaid verbs.Sector (decimal block ∷ codes "burst" ∷ words) t) (told.Sector block (verdict.Burst f.a g.a)) t g.others g.behind (λ h. record {
      is_told = (inside, ((b.0, b.1), (c.0, c.1)));
      front = refl;
      spelled = onto (decimal block) (codes "burst" ∷ words) (codes "burst" ∷ decimal f.a ∷ numeral Octal g.a ∷ [])
          (onto (codes "burst") words (decimal f.a ∷ numeral Octal g.a ∷ []) (two_words words f.others g.others f.word g.word (decimal f.a) (numeral Octal g.a) f.words_are b.2 g.words_are c.2 h));
    })

verdict_by : (block : ℕ) (word : List ℕ) (words : List (List ℕ)) (t : Told) → block ≤ 500383 → (b : Bool) → bytes_eq word (codes "burst") ≡ b
    → cond b (burst_form block words) (and_then (plain_verdict_in word) (λ v. none (told.Sector block v) words)) ≡ Ok t
    → IsSaid verbs.Sector (decimal block ∷ word ∷ words) t
verdict_by block word words t inside true is e =
    let named_so : word ≡ codes "burst" = (bytes_eq-Decides word (codes "burst")).0 is in
    subst (λ (w : List ℕ). IsSaid verbs.Sector (decimal block ∷ w ∷ words) t) (sym named_so) (burst_sound block words t inside e)
verdict_by block word words t inside false is e =
    let f = first_gives plain_verdict_in (λ v. none (told.Sector block v)) (word ∷ words) t e in
    let p = plain_sound f.word f.a f.here in
    done (λ (t : Told). IsSaid verbs.Sector (decimal block ∷ word ∷ words) t) (told.Sector block f.a) t f.others f.behind (λ h. record {
      is_told = (inside, p.0);
      front = refl;
      spelled = onto (decimal block) (word ∷ words) (verdict_words f.a) (one_word (word ∷ words) f.others f.word f.word f.words_are refl h ∙ sym p.1);
    })

verdict_sound : (block : ℕ) (words : List (List ℕ)) (t : Told) → block ≤ 500383 → verdict_form block words ≡ Ok t → IsSaid verbs.Sector (decimal block ∷ words) t
unfolding verdict_form
verdict_sound block [] t inside e = absurd (cc)
verdict_sound block (word ∷ words) t inside e = verdict_by block word words t inside (bytes_eq word (codes "burst")) refl e

told_sound : (verb : Verb) (words : List (List ℕ)) (t : Told) → told_form verb words ≡ Ok t → IsSaid verb words t
unfolding told_form
told_sound verbs.Cmd words t e =
    let f = first_gives command_in command_form words t e in
    let c = commanded_sound f.a f.others t f.behind in
    record {
      is_told = c.is_told;
      front = sym c.front;
      spelled = f.words_are ∙ ap (λ (w : List ℕ). w ∷ f.others) (command_sound f.word f.a f.here) ∙ c.spelled;
    }
told_sound verbs.Arrive words t e = alone verbs.Arrive told.Arrive t words e (record { is_told = tt; front = refl; spelled = refl })
told_sound verbs.Sector words t e =
    let f = first_gives block_in verdict_form words t e in
    let b = decimal_sound 0 500383 f.a f.word (omega arith) f.here in
    subst (λ (ws : List (List ℕ)). IsSaid verbs.Sector ws t) (sym (f.words_are ∙ ap (λ (w : List ℕ). w ∷ f.others) b.2)) (verdict_sound f.a f.others t b.1 f.behind)
told_sound verbs.Intr words t e = alone verbs.Intr told.Intr t words e (record { is_told = tt; front = refl; spelled = refl })
told_sound verbs.Try words t e =
    let f = first_gives block_in (λ block. first (decimal_in 1 28) (λ failures. none (told.Try block failures))) words t e in
    let g = first_gives (decimal_in 1 28) (λ failures. none (told.Try f.a failures)) f.others t f.behind in
    let b = decimal_sound 0 500383 f.a f.word (omega arith) f.here in
    let c = decimal_sound 1 28 g.a g.word (omega arith) g.here in
    done (λ (t : Told). IsSaid verbs.Try words t) (told.Try f.a g.a) t g.others g.behind (λ h. record {
      is_told = (b.1, (c.0, c.1));
      front = refl;
      spelled = two_words words f.others g.others f.word g.word (decimal f.a) (decimal g.a) f.words_are b.2 g.words_are c.2 h;
    })
told_sound verbs.Attn words t e = alone verbs.Attn told.Attn t words e (record { is_told = tt; front = refl; spelled = refl })
told_sound verbs.End words t e = alone verbs.End told.End t words e (record { is_told = tt; front = refl; spelled = refl })

-- LINES
abbrev pub words_in : TraceLine → List (List ℕ)
words_in (Deed line u id t) = first_word (deed_of WriteOk t) ∷ decimal line ∷ decimal u ∷ decimal id ∷ last_words (deed_of WriteOk t)
words_in (Idle line) = codes "idle" ∷ decimal line ∷ []

pub record IsRead (words : List (List ℕ)) (line : TraceLine) : Type 0 where
  pub is_line : IsLine line
  pub spelled : words ≡ words_in line

changed_gives : (line u id : ℕ) (r : Result Told TraceKind) (l : TraceLine) → changed (λ t. Deed line u id t) r ≡ Ok l → (t : Told) × (r ≡ Ok t) × (Deed line u id t ≡ l)
changed_gives line u id (Ok t) l e = (t, refl, cc)
changed_gives line u id (Err kind) l e = absurd (cc)

four : (words w₁ w₂ w₃ rest last : List (List ℕ)) (front a b c a' b' c' : List ℕ) → words ≡ a' ∷ w₁ → a' ≡ a → w₁ ≡ b' ∷ w₂ → b' ≡ b → w₂ ≡ c' ∷ rest → c' ≡ c → rest ≡ last
    → front ∷ words ≡ front ∷ a ∷ b ∷ c ∷ last
four words w₁ w₂ w₃ rest last front a b c a' b' c' h₁ e₁ h₂ e₂ h₃ e₃ l = cc

deed_sound : (verb : Verb) (words : List (List ℕ)) (l : TraceLine) → deed_form verb words ≡ Ok l → IsRead (verb_word verb ∷ words) l
unfolding deed_form
deed_sound verb words l e =
    let f = first_gives line_in (λ line. first (decimal_in 0 31) (λ u. first (decimal_in 0 4294967295) (λ id. λ ws. changed (λ t. Deed line u id t) (told_form verb ws)))) words l e in
    let g = first_gives (decimal_in 0 31) (λ u. first (decimal_in 0 4294967295) (λ id. λ ws. changed (λ t. Deed f.a u id t) (told_form verb ws))) f.others l f.behind in
    let h = first_gives (decimal_in 0 4294967295) (λ id. λ ws. changed (λ t. Deed f.a g.a id t) (told_form verb ws)) g.others l g.behind in
    let n = decimal_sound 1 1000001 f.a f.word (omega arith) f.here in
    let u = decimal_sound 0 31 g.a g.word (omega arith) g.here in
    let i = decimal_sound 0 4294967295 h.a h.word (omega arith) h.here in
    let c = changed_gives f.a g.a h.a (told_form verb h.others) l h.behind in
    let t = told_sound verb h.others c.0 c.1 in
    let said : IsRead (verb_word verb ∷ words) (Deed f.a g.a h.a c.0) = record {
      is_line = ((n.0, n.1), u.1, i.1, t.is_told);
      spelled = ap (λ (w : List ℕ). w ∷ words) t.front
          ∙ four words f.others g.others [] h.others (last_words (deed_of WriteOk c.0)) (first_word (deed_of WriteOk c.0)) (decimal f.a) (decimal g.a) (decimal h.a) f.word g.word h.word
          f.words_are n.2 g.words_are u.2 h.words_are i.2 t.spelled;
    } in
    subst (λ (l : TraceLine). IsRead (verb_word verb ∷ words) l) c.2 said

line_by : (word : List ℕ) (words : List (List ℕ)) (l : TraceLine) (b : Bool) → bytes_eq word (codes "idle") ≡ b
    → cond b (first line_in (λ line. none (Idle line)) words) (and_then (verb_in word) (λ verb. deed_form verb words)) ≡ Ok l → IsRead (word ∷ words) l
line_by word words l true is e =
    let named_so : word ≡ codes "idle" = (bytes_eq-Decides word (codes "idle")).0 is in
    let f = first_gives line_in (λ line. none (Idle line)) words l e in
    let n = decimal_sound 1 1000001 f.a f.word (omega arith) f.here in
    done (λ (l : TraceLine). IsRead (word ∷ words) l) (Idle f.a) l f.others f.behind (λ h. record {
      is_line = (n.0, n.1);
      spelled = ap (λ (w : List ℕ). w ∷ words) named_so ∙ onto (codes "idle") words (decimal f.a ∷ []) (one_word words f.others f.word (decimal f.a) f.words_are n.2 h);
    })
line_by word words l false is e =
    let f = first_gives verb_in deed_form (word ∷ words) l e in
    let d = deed_sound f.a f.others l f.behind in
    subst (λ (ws : List (List ℕ)). IsRead ws l) (sym (f.words_are ∙ ap (λ (w : List ℕ). w ∷ f.others) (verb_sound f.word f.a f.here))) d

pub line_sound : (words : List (List ℕ)) (l : TraceLine) → line_form words ≡ Ok l → IsRead words l
unfolding line_form
line_sound [] l e = absurd (cc)
line_sound (word ∷ words) l e = line_by word words l (bytes_eq word (codes "idle")) refl e
