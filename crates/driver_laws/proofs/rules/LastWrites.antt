-- Reads give what the writes that were answered before them left.
use Rattle.std.proofs.Common.{◌≡◌, inl, inr, ℕ, ◌==◌, Bool, true, false, List, [], ◌∷◌, ◌++◌, Option, Some, refl, sym, ap, ◌∙◌, subst, rules}
use Rattle.std.specs.Prelude.{if◌then◌else◌}
use Rattle.std.specs.List.{AllByRecursion, list_any}
use Rattle.std.proofs.lemmas.Option.{none-some}
use Rattle.std.proofs.lemmas.Bool.Decides.{eqb_tells}
use Rattle.pack_geometry.specs.declared.DriveKind.{DriveKind}
use Rattle.pack_geometry.specs.Pack as model
use Rattle.pack_geometry.specs.TableSpelling.{Table}
use Rattle.pack_geometry.specs.Homes.{contents_of}
use Rattle.trace_replay.specs.requests.Requests.{Request, first_block, Answer, Rejection, rejection_answer}
use Rattle.trace_replay.specs.Script.{Input, Submit, Numbered, AreApart, Script, drives_of, inputs_of}
use Rattle.trace_replay.specs.Moments.{Moment, Answered, answers_in}
use Rattle.trace_replay.specs.Replay.{Submission}
use Rattle.trace_replay.specs.Runs.{IsLegalRun}
use Rattle.driver_laws.specs.rules.Machine.{Blocks, Machine, kind_of, idle, request_of, without, meets, after_input, answers_of_input, answers_at_once, MayAnswer, blocks_after, Steps, submitted as machine_submitted}
use Rattle.driver_laws.specs.rules.LegalAnswers.{AnswersTo, unaliased, all_claimed, AreNoAliases}
use Rattle.driver_laws.specs.rules.LastWrites.{asked_in, left_by, left_behind, Gives, EachGives}
use Rattle.driver_laws.specs.rules.Laws.{HasLegalAnswers, ArePassedOn}
use Rattle.driver_laws.proofs.rules.MachineRuns.{answers_are_legal, all_answers_are_legal, script_ids}
use Rattle.driver_laws.proofs.rules.IdsAsked.{ids_asked, with_asked}

-- ---- each outstanding request is the one that the inputs ask for under its id
abbrev pub AllAsked : List Numbered → List Request → Type 0
AllAsked all rs = AllByRecursion (λ (r : Request). asked_in r.id all ≡ Some r) rs

asked_left : (all : List Numbered) (gone : ℕ) (rs : List Request) → AllAsked all rs → AllAsked all (without gone rs)
asked_left all gone [] are = tt
asked_left all gone (r ∷ rs) are = at (r.id == gone) (asked_left all gone rs are.1)
  where
    at : (b : Bool) → AllAsked all (without gone rs) → AllAsked all (if b then rs else r ∷ without gone rs)
    at true later = are.1
    at false later = (are.0, later)

pub found_asked : (all : List Numbered) (id : ℕ) (rs : List Request) (r : Request) → AllAsked all rs → request_of id rs ≡ Some r → asked_in id all ≡ Some r
found_asked all id [] r are is = absurd (none-some r is)
found_asked all id (x ∷ rs) r are is = elim (eqb_tells x.id id) [
  | inl same ↦ ap (λ z. asked_in z all) (sym same.1) ∙ are.0 ∙ rw same.0 at is
  | inr other ↦ found_asked all id rs r are.1 (rw other.0 at is)
]

-- ---- one answer
left_is : (drives : ℕ → Option DriveKind) (claimed : Type 0) (m : Machine) (r : Request) (answer : Answer) → MayAnswer claimed (m.blocks r.unit) (first_block (kind_of drives r.unit) r) r answer
    → blocks_after m.blocks (first_block (kind_of drives r.unit) r) r answer ≡ left_by drives (Some r) answer m.blocks
left_is drives claimed m r answer may = search rules

gives_it : (drives : ℕ → Option DriveKind) (claims : (line : ℕ) → Request → Type 0) (m : Machine) (r : Request) (line : ℕ) (answer : Answer)
    → MayAnswer (claims line r) (m.blocks r.unit) (first_block (kind_of drives r.unit) r) r answer → Gives drives claims (Some r) m.blocks line answer
gives_it drives claims m r line answer may = search rules

-- ---- answers one after another
pub record Left (drives : ℕ → Option DriveKind) (claims : (line : ℕ) → Request → Type 0) (all : List Numbered) (m : Machine) (answers : List Answered) (new : Machine) : Type 0 where
  pub reads : EachGives drives claims all m.blocks answers
  pub blocks : new.blocks ≡ left_behind drives all m.blocks answers
  pub asked : AllAsked all new.outstanding

steps_left : (drives : ℕ → Option DriveKind) (claims : (line : ℕ) → Request → Type 0) (all : List Numbered) (line : ℕ) (m : Machine) (answers : List Answered) (new : Machine) → AllAsked all m.outstanding
    → Steps drives claims line m answers new → Left drives claims all m answers new
steps_left drives claims all line m [] new are steps =
    record { reads = tt; blocks = ap (λ (z : Machine). z.blocks) steps; asked = subst (λ (z : Machine). AllAsked all z.outstanding) (sym steps) are }
steps_left drives claims all line m (a ∷ answers) new are steps =
    one_left (steps_left drives claims all line steps.1 answers new
    (subst (λ (z : Machine). AllAsked all z.outstanding) (sym steps.2.is) (asked_left all steps.2.request.id m.outstanding are)) steps.3)
  where
    asked : asked_in a.id all ≡ Some steps.2.request
    asked = found_asked all a.id m.outstanding steps.2.request are steps.2.found

    mid_is : Machine.blocks steps.1 ≡ left_by drives (asked_in a.id all) a.answer m.blocks
    mid_is = ap (λ (z : Machine). z.blocks) steps.2.is ∙ left_is drives (claims a.line steps.2.request) m steps.2.request a.answer steps.2.may
        ∙ ap (λ z. left_by drives z a.answer m.blocks) (sym asked)

    one_left : Left drives claims all steps.1 answers new → Left drives claims all m (a ∷ answers) new
    one_left later = record {
      reads = (
        subst (λ z. Gives drives claims z m.blocks a.line a.answer) (sym asked) (gives_it drives claims m steps.2.request a.line a.answer steps.2.may),
        subst (λ z. EachGives drives claims all z answers) mid_is later.reads,
      );
      blocks = later.blocks ∙ ap (λ z. left_behind drives all z answers) mid_is;
      asked = later.asked;
    }

-- ---- a refusal changes nothing
pub refusal_left : (drives : ℕ → Option DriveKind) (asked : Option Request) (why : Rejection) (blocks : ℕ → Blocks) → left_by drives asked (rejection_answer why) blocks ≡ blocks
refusal_left drives asked why blocks = search rules

abbrev pub IsAskedAs : List Numbered → Input → Type 0
IsAskedAs all (Submit r) = asked_in r.id all ≡ Some r
IsAskedAs all input = Unit {0}

submitted_left : (drives : ℕ → Option DriveKind) (claims : (line : ℕ) → Request → Type 0) (all : List Numbered) (line : ℕ) (m : Machine) (r : Request) (met : Submission) → AllAsked all m.outstanding → asked_in r.id all ≡ Some r
    → Left drives claims all m (answers_at_once line r met) (machine_submitted m r met)
submitted_left drives claims all line m r met are is = search rules

input_left : (drives : ℕ → Option DriveKind) (claims : (line : ℕ) → Request → Type 0) (all : List Numbered) (line : ℕ) (m : Machine) (input : Input) → AllAsked all m.outstanding → IsAskedAs all input
    → Left drives claims all m (answers_of_input drives m line input) (after_input drives m input)
input_left drives claims all line m (Submit r) are is = submitted_left drives claims all line m r (meets drives m r) are is
input_left drives claims all line m other are is = record { reads = tt; blocks = refl; asked = are }

-- ---- some answers and then others
pub left_join : (drives : ℕ → Option DriveKind) (all : List Numbered) (blocks : ℕ → Blocks) (xs ys : List Answered) → left_behind drives all blocks (xs ++ ys) ≡ left_behind drives all (left_behind drives all blocks xs) ys
left_join drives all blocks [] ys = refl
left_join drives all blocks (x ∷ xs) ys = left_join drives all (left_by drives (asked_in x.id all) x.answer blocks) xs ys

gives_join : (drives : ℕ → Option DriveKind) (claims : (line : ℕ) → Request → Type 0) (all : List Numbered) (blocks : ℕ → Blocks) (xs ys : List Answered) → EachGives drives claims all blocks xs
    → EachGives drives claims all (left_behind drives all blocks xs) ys → EachGives drives claims all blocks (xs ++ ys)
gives_join drives claims all blocks [] ys one two = two
gives_join drives claims all blocks (x ∷ xs) ys one two = (one.0, gives_join drives claims all (left_by drives (asked_in x.id all) x.answer blocks) xs ys one.1 two)

joined_left : (drives : ℕ → Option DriveKind) (claims : (line : ℕ) → Request → Type 0) (all : List Numbered) (m : Machine) (xs : List Answered) (mid : Machine) (ys : List Answered) (new : Machine) → Left drives claims all m xs mid
    → Left drives claims all mid ys new → Left drives claims all m (xs ++ ys) new
joined_left drives claims all m xs mid ys new one two = record {
  reads = gives_join drives claims all m.blocks xs ys one.reads (subst (λ z. EachGives drives claims all z ys) one.blocks two.reads);
  blocks = two.blocks ∙ ap (λ z. left_behind drives all z ys) one.blocks ∙ sym (left_join drives all m.blocks xs ys);
  asked = two.asked;
}

pub answers_left : (drives : ℕ → Option DriveKind) (claims : (line : ℕ) → Request → Type 0) (all : List Numbered) (m : Machine) (inputs : List Numbered) (answers : List Answered) (new : Machine) → AllAsked all m.outstanding
    → AllByRecursion (λ (n : Numbered). IsAskedAs all n.input) inputs → AnswersTo drives claims m inputs answers new → Left drives claims all m answers new
answers_left drives claims all m [] answers new are asked is =
    subst (λ z. Left drives claims all m z new) (sym is.0) (record { reads = tt; blocks = ap (λ (z : Machine). z.blocks) is.1; asked = subst (λ (z : Machine). AllAsked all z.outstanding) (sym is.1) are })
answers_left drives claims all m (n ∷ inputs) answers new are asked is =
    subst (λ z. Left drives claims all m z new) (sym is.3)
    (joined_left drives claims all m is.0 is.2 is.1 new here (answers_left drives claims all is.2 inputs is.1 new here.asked asked.1 is.5))
  where
    first : Left drives claims all m (answers_of_input drives m n.line n.input) (after_input drives m n.input)
    first = input_left drives claims all n.line m n.input are asked.0

    here : Left drives claims all m is.0 is.2
    here = subst (λ z. Left drives claims all m z is.2) (sym is.4.order)
        (joined_left drives claims all m (answers_of_input drives m n.line n.input) (after_input drives m n.input) is.4.later is.2 first
        (steps_left drives claims all n.line (after_input drives m n.input) is.4.later is.2 first.asked is.4.steps))

-- ---- inputs whose ids are apart ask each for its own

other_asked : (r : Request) (line : ℕ) (ns : List Numbered) (input : Input) (ids : List ℕ) → list_any (λ other. other == r.id) (with_asked input ids) ≡ false → IsAskedAs ns input
    → IsAskedAs (record { line = line; input = Submit r } ∷ ns) input × (list_any (λ other. other == r.id) ids ≡ false)
other_asked r line ns input ids apart is = search rules

others_asked : (r : Request) (line : ℕ) (ns xs : List Numbered) → list_any (λ other. other == r.id) (ids_asked xs) ≡ false → AllByRecursion (λ (n : Numbered). IsAskedAs ns n.input) xs
    → AllByRecursion (λ (n : Numbered). IsAskedAs (record { line = line; input = Submit r } ∷ ns) n.input) xs
others_asked r line ns [] apart all = tt
others_asked r line ns (x ∷ xs) apart all =
    let one : IsAskedAs (record { line = line; input = Submit r } ∷ ns) x.input × (list_any (λ other. other == r.id) (ids_asked xs) ≡ false) = other_asked r line ns x.input (ids_asked xs) apart all.0 in
    (one.0, others_asked r line ns xs one.1 all.1)

itself_asked : (r : Request) (line : ℕ) (ns : List Numbered) → asked_in r.id (record { line = line; input = Submit r } ∷ ns) ≡ Some r
itself_asked r line ns = search rules

pub with_asked_all : (line : ℕ) (input : Input) (ns : List Numbered) → AreApart (with_asked input (ids_asked ns)) → AllByRecursion (λ (n : Numbered). IsAskedAs ns n.input) ns
    → AllByRecursion (λ (n : Numbered). IsAskedAs (record { line = line; input = input } ∷ ns) n.input) (record { line = line; input = input } ∷ ns)
with_asked_all line (Submit r) ns apart all = (itself_asked r line ns, others_asked r line ns ns apart.0 all)
with_asked_all line other ns apart all = (tt, all)

pub rest_apart : (input : Input) (ids : List ℕ) → AreApart (with_asked input ids) → AreApart ids
rest_apart (Submit r) ids apart = apart.1
rest_apart other ids apart = apart

pub each_asked : (ns : List Numbered) → AreApart (ids_asked ns) → AllByRecursion (λ (n : Numbered). IsAskedAs ns n.input) ns
each_asked [] apart = tt
each_asked (n ∷ ns) apart = with_asked_all n.line n.input ns apart (each_asked ns (rest_apart n.input (ids_asked ns) apart))

-- ---- of runs
passed_on : (claims : (line : ℕ) → Request → Type 0) (script : Script) (tables : ℕ → Option Table) (old new : ℕ → model.Pack) (ms : List Moment) → IsLegalRun script tables old new ms
    → HasLegalAnswers claims script tables old new ms → ArePassedOn claims script tables old new ms
passed_on claims script tables old new ms run h = record {
  reads = left.reads;
  left = λ unit block kind declared below. h.held unit block kind declared below ∙ ap (λ (z : ℕ → Blocks). z unit block) left.blocks;
}
  where
    left : Left (drives_of script) claims (inputs_of script) (idle (contents_of (drives_of script) tables old)) (answers_in ms) (idle h.last)
    left = answers_left (drives_of script) claims (inputs_of script) (idle (contents_of (drives_of script) tables old)) (inputs_of script) (answers_in ms) (idle h.last) tt
        (each_asked (inputs_of script) (subst AreApart (sym (script_ids script)) run.good.ids)) h.legal

-- of each legal run, but for the bytes of reads that alias noise may have struck
pub writes_are_passed_on : (script : Script) (tables : ℕ → Option Table) (old new : ℕ → model.Pack) (moments : List Moment)
    → IsLegalRun script tables old new moments
    → ArePassedOn (unaliased (drives_of script) tables old (inputs_of script)) script tables old new moments
writes_are_passed_on script tables old new ms run = passed_on (unaliased (drives_of script) tables old (inputs_of script)) script tables old new ms run (answers_are_legal script tables old new ms run)

-- and of all reads, where the script arms no alias noise
pub all_writes_are_passed_on : (script : Script) (tables : ℕ → Option Table) (old new : ℕ → model.Pack) (moments : List Moment)
    → IsLegalRun script tables old new moments
    → AreNoAliases (inputs_of script) → ArePassedOn all_claimed script tables old new moments
all_writes_are_passed_on script tables old new ms run none = passed_on all_claimed script tables old new ms run (all_answers_are_legal script tables old new ms run none)
