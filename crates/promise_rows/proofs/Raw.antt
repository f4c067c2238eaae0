-- What is promised of requests that are waited for, and of raw transfers, refuses these outcomes.
use Rattle.std.proofs.Common.{◌≡◌, ◌⊎◌, inl, inr, ℕ, ◌+◌, ◌-◌, ◌*◌, ◌/◌, ◌%◌, ◌<◌, ◌≤◌, nat_le, Bool, true, List, [], ◌∷◌, ◌++◌, length, take, drop, Some, sym, ap, ◌∙◌, subst, arith}
use Rattle.std.specs.Prelude.{if◌then◌else◌}
use Rattle.std.proofs.lemmas.Bool.{false≢true}
use Rattle.std.proofs.lemmas.Bool.Decides.{nat_tests}
use Rattle.std.proofs.lemmas.List.{append-nil, append_cancel_left, drop_all, take_all}
use Rattle.pack_geometry.specs.declared.DriveKind.{DriveKind}
use Rattle.pack_geometry.specs.declared.DriveKind.TheVariants.{Rp06, Rm03, Rm05}
use Rattle.pack_geometry.specs.Pack.{Pack}
use Rattle.partitions.specs.declared.Part.TheVariants.{B}
use Rattle.driver_laws.specs.rules.Machine.{Blocks}
use Rattle.driver_laws.specs.rules.Laid.{laid, laid_at}
use Rattle.driver_laws.specs.rules.Bytes.{blocks_for, dump_place, dumped, with_bytes, with_range}
use Rattle.driver_laws.proofs.rules.Ranges.{laid_over_none}
use Rattle.driver_laws.specs.rules.Sessions.{told_in}
use Rattle.trace_replay.specs.Text.{trace_text}
use Rattle.raw_io.specs.Passes.{kind_at, map_at}
use Rattle.raw_io.specs.Pieces.{start_of}
use Rattle.promise_rows.proofs.Stopping.{no_copy, nothing_more}
use Rattle.promise_rows.specs.Raw.{DrainEndsEarly, ReadComesFromThePack, DriveIsOffline, WriteBeforeItsLines, DoneInBlocks, DumpAtTheFront, OutsideByOne, EdgeWithoutItsBytes, AnyTraceAtAStoppedTransfer, LinesDroppedAtARead, TransferLengthensTheImage, StoppedWriteLengthensTheImage, ReadBlowsAnEmptyImageUp, RawLengthensTheImage}

pub drain_ends_early : DrainEndsEarly
drain_ends_early s slot h at not_ended ready = false≢true (sym not_ended ∙ ready.quiet.none slot h at)

pub read_comes_from_the_pack : ReadComesFromThePack
read_comes_from_the_pack line first old_first other r bytes into into' old new answers tells tables is had gives differs =
    let given = (answers.mapped tells tables).bytes in
    let laid_there : other ∷ into' ≡ first ∷ laid bytes into = rw (gives, is, had) at given in
    differs (cc laid_there)

pub drive_is_offline : DriveIsOffline
drive_is_offline s unit there offline ready = false≢true (sym offline ∙ (ready.quiet.good unit there).0)

pub write_before_its_lines : WriteBeforeItsLines
write_before_its_lines input byte sent kept told now tells all some fails = none (append_cancel_left sent (byte ∷ kept) [] (sym all ∙ sym (fails.trace tells) ∙ some ∙ sym (append-nil sent)))
  where
    none : byte ∷ kept ≡ [] → ⊥
    none is = cc is

pub done_in_blocks : DoneInBlocks
done_in_blocks unit blocks part into into' old new tells tables some few less gives = no_end blocks some few ((gives.told tells tables).comes.whole less)
  where
    no_end : (n : ℕ) → 0 < n → n < 512 → (n ≡ 0) ⊎ ((0 + n) % 512 ≡ 0) → ⊥
    no_end n some few (inl none) = omega (arith, some, none)
    no_end n some few (inr end) = omega (arith, some, few, end)

-- bytes that are laid behind the end of a block leave it
laid_behind : (at : ℕ) (from bytes : List ℕ) → length bytes ≤ at → laid_at at from bytes ≡ bytes
laid_behind at from bytes far =
    ap (λ (xs : List ℕ). take at bytes ++ laid from xs) (drop_all at bytes far) ∙ ap (λ (xs : List ℕ). take at bytes ++ xs) (laid_over_none from) ∙ append-nil (take at bytes) ∙ take_all at bytes far

-- bytes that are written from a place of the first block on are laid over its own
in_block : (first at : ℕ) (from : List ℕ) (blocks : Blocks) (bytes : List ℕ) → blocks first ≡ Some bytes → with_range blocks first at from first ≡ Some (laid_at at from bytes)
in_block first at from blocks bytes held =
    ap (λ (b : Bool). if b then with_bytes (first - first) at from (blocks first) else blocks first) (inside first)
    ∙ ap (λ (n : ℕ). with_bytes n at from (blocks first)) (none first) ∙ ap (with_bytes 0 at from) held
    ∙ ap (λ (n : ℕ). Some (laid_at n (drop (0 - at) from) bytes)) (whole at) ∙ ap (λ (n : ℕ). Some (laid_at at (drop n from) bytes)) (front at)
  where
    inside : (n : ℕ) → nat_le n n ≡ true
    inside n = grind (arith, nat_tests)

    none : (n : ℕ) → n - n ≡ 0
    none n = omega arith

    whole : (n : ℕ) → n - 0 ≡ n
    whole n = omega arith

    front : (n : ℕ) → 0 - n ≡ 0
    front n = omega arith

-- so a range that begins behind the first block leaves that
first_stays : (blocks : Blocks) (first at : ℕ) (from bytes : List ℕ) → blocks first ≡ Some bytes → length bytes ≤ at → with_range blocks first at from first ≡ Some bytes
first_stays blocks first at from bytes held far = in_block first at from blocks bytes held ∙ ap (λ (xs : List ℕ). Some xs) (laid_behind at from bytes far)

-- a dump begins behind the first block of its partition
fits : (size : ℕ) → size ≤ 8388608 → (size + 511) / 512 ≤ 16384
fits size few = omega (arith, few)

behind : (n : ℕ) → n ≤ 16384 → 512 ≤ 512 * (33440 - n)
behind n few = omega (arith, few)

begins_behind : (kind : DriveKind) (size : ℕ) → size ≤ 8388608 → 512 ≤ dump_place kind size
begins_behind Rp06 size few = behind (blocks_for size) (fits size few)
begins_behind other size few = behind (blocks_for size) (fits size few)

pub dump_at_the_front : DumpAtTheFront
dump_at_the_front unit done memory bytes old new tells tables few puts held long other =
    let far : length bytes ≤ dump_place (kind_at old.world unit) (length memory) = rw long (begins_behind (kind_at old.world unit) (length memory) few) in
    other ((puts.told tells tables).written (start_of old unit B)
    ∙ first_stays (map_at old unit) (start_of old unit B) (dump_place (kind_at old.world unit) (length memory)) (take done (dumped memory)) bytes held far)

pub outside_by_one : OutsideByOne
outside_by_one kind part at size result ends iff refused = let beyond = iff.0 refused in omega (arith, ends, beyond)

pub edge_without_its_bytes : EdgeWithoutItsBytes
edge_without_its_bytes unit done first other part from bytes bytes' old new tells tables held now puts differs =
    differs (first_same (sym now ∙ (puts.told tells tables).written (start_of old unit part)
    ∙ in_block (start_of old unit part) 1 (take done from) (map_at old unit) (first ∷ bytes) held))
  where
    first_same : Some (other ∷ bytes') ≡ Some (first ∷ laid (take done from) bytes) → other ≡ first
    first_same is = cc is

pub any_trace_at_a_stopped_transfer : AnyTraceAtAStoppedTransfer
any_trace_at_a_stopped_transfer t w size old new tells traced differs = (
  λ none stops. elim (stops.left tells) [
    | inl unbegun ↦ differs (unbegun.trace traced)
    | inr left ↦ none left.table left.broke.parts left.broke.begun left.broke.session (left.broke.trace traced)
  ],
  λ stops none. elim (stops.left tells) [
    | inl unbegun ↦ differs (unbegun.trace traced)
    | inr left ↦ none left.table left.broke.parts left.broke.begun left.broke.session (left.broke.trace traced)
  ],
)

pub lines_dropped_at_a_read : LinesDroppedAtARead
lines_dropped_at_a_read t size block old new tells traced none before is some stops = elim (stops.left tells) [
  | inl unbegun ↦ no_copy t.unit block t.unit t.kind new.failed_at before is unbegun.attaching
  | inr left ↦ some left (nothing_more old.taken (trace_text (told_in left.broke.parts)) (sym none ∙ left.broke.trace traced))
]

transfer_lengthens_the_image : TransferLengthensTheImage
transfer_lengthens_the_image reads t held held' trace_tells taken taken' moved unit other = other (moved.long unit)

stopped_write_lengthens_the_image : StoppedWriteLengthensTheImage
stopped_write_lengthens_the_image w old new tells stops unit other = other ((stops.left tells).broke.long unit)

read_blows_an_empty_image_up : ReadBlowsAnEmptyImageUp
read_blows_an_empty_image_up t size done unit old new tells empty some = (
  λ gives. grown (gives.read tells).same,
  λ stops. elim (stops.left tells) [
    | inl unbegun ↦ grown unbegun.packs
    | inr left ↦ grown left.same
  ],
  λ stops. grown (stops.left tells).same,
)
  where
    never : 0 < 0 → ⊥
    never lt = omega (arith, lt)

    grown : new.held ≡ old.held → ⊥
    grown same = never (subst (λ (bytes : List ℕ). 0 < length bytes) (ap (λ (held : ℕ → Pack). (held unit).image) same ∙ empty) some)

pub raw_lengthens_the_image : RawLengthensTheImage
raw_lengthens_the_image = (transfer_lengthens_the_image, stopped_write_lengthens_the_image, read_blows_an_empty_image_up)
