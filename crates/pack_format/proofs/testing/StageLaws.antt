-- Stages of formatting: one block written, one stage behind another, and where a stage stops.
use Rattle.std.proofs.Common.{◌≡◌, ◌≢◌, ◌⊎◌, inl, inr, ℕ, ◌==◌, ◌&&◌, not, Bool, true, false, IsTrue, if◌then◌else◌, List, length, refl, sym, ap, ◌∙◌, subst}
use Rattle.std.specs.Prelude.{slice_index}
use Rattle.std.proofs.lemmas.Bool.Decides.{Decides-eqb}
use Rattle.pack_geometry.specs.Pack.{Pack, block_at, is_marked, with_pack, with_written, written}
use Rattle.pack_geometry.proofs.PackLaws.{block_at-with_block_same, block_at-with_block_other}
use Rattle.pack_format.proofs.testing.LongLaws.{long_at, long_block, long_same, long_then}
use Rattle.pack_format.specs.testing.Polls.{IsOldOrNew, Polls, Sides, answer_for}
use Rattle.pack_format.specs.testing.Stages.{Fills, IsAsLong, Stops, if_done, one}
use Rattle.pack_format.specs.declared.testing.station.Polled.{Polled}
use Rattle.pack_format.specs.declared.testing.station.Polled.TheVariants.{Clean, Marked}

-- a proof by the two values of a test
pub at : {P : Type 0} → (b : Bool) → (b ≡ true → P) → (b ≡ false → P) → P
at {P} b one other = (elim b as (λ v. (v ≡ true → P) → (v ≡ false → P) → P) [ true ↦ λ t f. t refl | false ↦ λ t f. f refl ]) one other

pub eq_same : (x y : ℕ) → x ≡ y → (x == y) ≡ true
eq_same x y e = (Decides-eqb x y).1 e

pub eq_other : (x y : ℕ) → x ≢ y → (x == y) ≡ false
eq_other x y ne = at (x == y) (λ e. absurd (ne ((Decides-eqb x y).0 e))) (λ e. e)

pub false_true : false ≡ true → ⊥
false_true e = cc

-- ---- the packs of all units with one of them changed

here : (held : ℕ → Pack) (unit : ℕ) (pack : Pack) → with_pack held unit pack unit ≡ pack
here held unit pack = ap (λ (b : Bool). if b then pack else held unit) (eq_same unit unit refl)

there : (held : ℕ → Pack) (unit other : ℕ) (pack : Pack) → other ≢ unit → with_pack held unit pack other ≡ held other
there held unit other pack ne = ap (λ (b : Bool). if b then pack else held other) (eq_other other unit ne)

pub same_marks : (p q : Pack) (sector : ℕ) → p.marks ≡ q.marks → is_marked p sector ≡ is_marked q sector
same_marks p q sector e = ap (λ (marks : List ℕ). not (slice_index marks sector == 0)) e

-- ---- one block

pub one_here : (pack : Pack) (block : ℕ) → is_marked pack block ≡ false → one pack block block ≡ true
one_here pack block unmarked = ap (λ (m : Bool). (block == block) && not m) unmarked ∙ ap (λ (b : Bool). b && true) (eq_same block block refl)

pub one_there : (pack : Pack) (block sector : ℕ) → (sector == block) ≡ false → one pack block sector ≡ false
one_there pack block sector e = ap (λ (b : Bool). b && not (is_marked pack sector)) e

pub none_of_one : (pack : Pack) (block sector : ℕ) → is_marked pack block ≡ true → one pack block sector ≡ false
none_of_one pack block sector marked =
    at (sector == block)
    (λ e. let same : sector ≡ block = (Decides-eqb sector block).0 e in
    ap (λ (m : Bool). (sector == block) && not m) (ap (λ (n : ℕ). is_marked pack n) same ∙ marked) ∙ ap (λ (b : Bool). b && false) e)
    (λ e. one_there pack block sector e)

-- a sector of packs in which one block was written
sector_written : (unit block : ℕ) (bytes : List ℕ) (old new : ℕ → Pack) → length bytes ≡ 512 → is_marked (old unit) block ≡ false
    → new ≡ with_written old unit block bytes → (sector : ℕ)
    → block_at (new unit).image sector ≡ if_done (one (old unit) block sector) bytes (block_at (old unit).image sector)
sector_written unit block bytes old new long unmarked is sector =
    let image : block_at (new unit).image sector ≡ block_at (written (old unit) block bytes).image sector =
    ap (λ (h : ℕ → Pack). block_at (h unit).image sector) is ∙ ap (λ (p : Pack). block_at p.image sector) (here old unit (written (old unit) block bytes)) in
    at (sector == block)
    (λ e. let same : sector ≡ block = (Decides-eqb sector block).0 e in
    image ∙ ap (λ (n : ℕ). block_at (written (old unit) block bytes).image n) same
    ∙ block_at-with_block_same (old unit).image bytes block long
    ∙ sym (ap (λ (b : Bool). if_done b bytes (block_at (old unit).image sector))
    (ap (λ (n : ℕ). one (old unit) block n) same ∙ one_here (old unit) block unmarked)))
    (λ e. image
    ∙ block_at-with_block_other (old unit).image bytes block sector long (λ same. false_true (sym e ∙ eq_same sector block same))
    ∙ sym (ap (λ (b : Bool). if_done b bytes (block_at (old unit).image sector)) (one_there (old unit) block sector e)))

-- and how long the image is
pub one_is : (pack : Pack) (block sector : ℕ) → one pack block sector ≡ true → sector ≡ block
one_is pack block sector is = at (sector == block) (λ e. (Decides-eqb sector block).0 e) (λ e. absurd (false_true (sym (one_there pack block sector e) ∙ is)))

long_written : (unit block : ℕ) (bytes : List ℕ) (old new : ℕ → Pack) → length bytes ≡ 512 → is_marked (old unit) block ≡ false → new ≡ with_written old unit block bytes
    → IsAsLong (λ sector. one (old unit) block sector ≡ true) (length (old unit).image) (length (new unit).image)
long_written unit block bytes old new whole unmarked is =
    long_at (length (written (old unit) block bytes).image)
    (ap (λ (h : ℕ → Pack). length (h unit).image) is ∙ ap (λ (p : Pack). length p.image) (here old unit (written (old unit) block bytes)))
    (long_block (λ sector. one (old unit) block sector ≡ true) (old unit).image bytes block whole (one_here (old unit) block unmarked) (one_is (old unit) block))

pub fills_written : (unit block : ℕ) (bytes : List ℕ) (old new : ℕ → Pack) → length bytes ≡ 512 → is_marked (old unit) block ≡ false
    → new ≡ with_written old unit block bytes → Fills unit (one (old unit) block) bytes old new
fills_written unit block bytes old new long unmarked is = record {
  sectors = sector_written unit block bytes old new long unmarked is;
  long = long_written unit block bytes old new long unmarked is;
  marks = ap (λ (h : ℕ → Pack). (h unit).marks) is ∙ ap (λ (p : Pack). p.marks) (here old unit (written (old unit) block bytes));
  others = λ other ne. ap (λ (h : ℕ → Pack). h other) is ∙ there old unit other (written (old unit) block bytes) ne;
}

pub fills_none : (unit : ℕ) (done : ℕ → Bool) (bytes : List ℕ) (old new : ℕ → Pack) → ((sector : ℕ) → done sector ≡ false) → new ≡ old → Fills unit done bytes old new
fills_none unit done bytes old new none is = record {
  sectors = λ sector. ap (λ (h : ℕ → Pack). block_at (h unit).image sector) is ∙ sym (ap (λ (b : Bool). if_done b bytes (block_at (old unit).image sector)) (none sector));
  long = long_same (ap (λ (h : ℕ → Pack). length (h unit).image) is) (λ sector on. false_true (sym (none sector) ∙ on));
  marks = ap (λ (h : ℕ → Pack). (h unit).marks) is;
  others = λ other ne. ap (λ (h : ℕ → Pack). h other) is;
}

pub fills_marked : (unit block : ℕ) (bytes : List ℕ) (old new : ℕ → Pack) → is_marked (old unit) block ≡ true → new ≡ old → Fills unit (one (old unit) block) bytes old new
fills_marked unit block bytes old new marked is =
    fills_none unit (one (old unit) block) bytes old new (λ sector. none_of_one (old unit) block sector marked) is

pub stops_same : (unit : ℕ) (done : ℕ → Bool) (Such : List ℕ → Type 0) (old new : ℕ → Pack) → new ≡ old → Stops unit done Such old new
stops_same unit done Such old new is = record {
  sectors = λ sector. inl (ap (λ (h : ℕ → Pack). block_at (h unit).image sector) is);
  long = inl (ap (λ (h : ℕ → Pack). length (h unit).image) is);
  marks = ap (λ (h : ℕ → Pack). (h unit).marks) is;
  others = λ other ne. ap (λ (h : ℕ → Pack). h other) is;
}

-- a stage that was done has stopped behind its last block
pub stops_done : (unit : ℕ) (done : ℕ → Bool) (Such : List ℕ → Type 0) (bytes : List ℕ) (old new : ℕ → Pack) → Such bytes → Fills unit done bytes old new
    → Stops unit done Such old new
stops_done unit done Such bytes old new such fills = record {
  sectors = λ sector. by (block_at (new unit).image sector) (block_at (old unit).image sector) (done sector) (fills.sectors sector);
  long = inr fills.long;
  marks = fills.marks;
  others = fills.others;
}
  where
    by : (x had : List ℕ) (b : Bool) → x ≡ if_done b bytes had → (x ≡ had) ⊎ ((b ≡ true) × Such x)
    by x had true e = inr (refl, subst Such (sym e) such)
    by x had false e = inl e

pub stops_write : (unit block : ℕ) (told : Bool) (bytes : List ℕ) (old new : ℕ → Pack) → length bytes ≡ 512
    → IsOldOrNew unit block true told (record { held = old; bytes = bytes }) new → IsTrue told
    → Stops unit (one (old unit) block) (λ x. x ≡ bytes) old new
stops_write unit block told bytes old new long which t =
    elim (which t) [
      | inl is ↦ stops_same unit (one (old unit) block) (λ x. x ≡ bytes) old new is
      | inr w ↦ stops_done unit (one (old unit) block) (λ x. x ≡ bytes) bytes old new refl (fills_written unit block bytes old new long w.1 w.2)
    ]

-- ---- a poll

pub read_keeps : (unit block : ℕ) (told : Bool) (polled : Polled) (old new : ℕ → Pack) (before after : List ℕ)
    → Polls unit block false told (record { held = old; bytes = before }) (record { held = new; bytes = after }) polled → IsTrue told → new ≡ old
read_keeps unit block told Clean old new before after polls t = ap (λ (s : Sides). s.held) (polls.sides t)
read_keeps unit block told Marked old new before after polls t = ap (λ (s : Sides). s.held) (polls.sides t)

answered : (m : Bool) (p : Polled) → p ≡ answer_for m → p ≡ Clean → m ≡ false
answered true p is clean = absurd (clash (sym clean ∙ is))
  where
    clash : Clean ≡ Marked → ⊥
    clash e = cc
answered false p is clean = refl

answered_marked : (m : Bool) (p : Polled) → p ≡ answer_for m → p ≡ Marked → m ≡ true
answered_marked true p is marked = refl
answered_marked false p is marked = absurd (clash (sym is ∙ marked))
  where
    clash : Clean ≡ Marked → ⊥
    clash e = cc

-- what is read of an unmarked block
pub read_back : (unit block : ℕ) (told : Bool) (polled : Polled) (old new : ℕ → Pack) (before after : List ℕ)
    → Polls unit block false told (record { held = old; bytes = before }) (record { held = new; bytes = after }) polled → IsTrue told
    → is_marked (old unit) block ≡ false → after ≡ block_at (old unit).image block
read_back unit block told Clean old new before after polls t unmarked = ap (λ (s : Sides). s.bytes) (polls.sides t)
read_back unit block told Marked old new before after polls t unmarked =
    absurd (false_true (sym unmarked ∙ answered_marked (is_marked (old unit) block) Marked (polls.answer t) refl))

pub write_clean : (unit block : ℕ) (told : Bool) (old new : ℕ → Pack) (bytes : List ℕ)
    → Polls unit block true told (record { held = old; bytes = bytes }) (record { held = new; bytes = bytes }) Clean → IsTrue told
    → (is_marked (old unit) block ≡ false) × (new ≡ with_written old unit block bytes)
write_clean unit block told old new bytes polls t =
    (answered (is_marked (old unit) block) Clean (polls.answer t) refl, ap (λ (s : Sides). s.held) (polls.sides t))

pub write_marked : (unit block : ℕ) (told : Bool) (old new : ℕ → Pack) (bytes : List ℕ)
    → Polls unit block true told (record { held = old; bytes = bytes }) (record { held = new; bytes = bytes }) Marked → IsTrue told
    → Fills unit (one (old unit) block) bytes old new
write_marked unit block told old new bytes polls t =
    fills_marked unit block bytes old new (answered_marked (is_marked (old unit) block) Marked (polls.answer t) refl) (ap (λ (s : Sides). s.held) (polls.sides t))

pub fills_unmoved : (unit block : ℕ) (told : Bool) (polled : Polled) (old new : ℕ → Pack) (bytes : List ℕ)
    → Polls unit block true told (record { held = old; bytes = bytes }) (record { held = new; bytes = bytes }) polled → polled ≡ Marked → IsTrue told
    → Fills unit (one (old unit) block) bytes old new
fills_unmoved unit block told polled old new bytes polls is t =
    write_marked unit block told old new bytes (subst (λ (p : Polled). Polls unit block true told (record { held = old; bytes = bytes }) (record { held = new; bytes = bytes }) p) is polls) t

-- the block that was written is unmarked and has the bytes
pub holds_written : (unit block : ℕ) (bytes : List ℕ) (old new : ℕ → Pack) → length bytes ≡ 512
    → (is_marked (old unit) block ≡ false) × (new ≡ with_written old unit block bytes)
    → (block_at (new unit).image block ≡ bytes) × (is_marked (new unit) block ≡ false)
holds_written unit block bytes old new long (unmarked, is) =
    let fills = fills_written unit block bytes old new long unmarked is in (
      fills.sectors block ∙ ap (λ (b : Bool). if_done b bytes (block_at (old unit).image block)) (one_here (old unit) block unmarked),
      same_marks (new unit) (old unit) block fills.marks ∙ unmarked,
    )

clean_as : (unit block : ℕ) (told : Bool) (polled : Polled) (bytes : List ℕ) (old new : ℕ → Pack)
    → Polls unit block true told (record { held = old; bytes = bytes }) (record { held = new; bytes = bytes }) polled → polled ≡ Clean → IsTrue told
    → (is_marked (old unit) block ≡ false) × (new ≡ with_written old unit block bytes)
clean_as unit block told polled bytes old new polls is t =
    write_clean unit block told old new bytes (subst (λ (p : Polled). Polls unit block true told (record { held = old; bytes = bytes }) (record { held = new; bytes = bytes }) p) is polls) t

pub holds_clean : (unit block : ℕ) (told : Bool) (polled : Polled) (bytes : List ℕ) (old new : ℕ → Pack) → length bytes ≡ 512
    → Polls unit block true told (record { held = old; bytes = bytes }) (record { held = new; bytes = bytes }) polled → polled ≡ Clean → IsTrue told
    → (block_at (new unit).image block ≡ bytes) × (is_marked (new unit) block ≡ false)
holds_clean unit block told polled bytes old new long polls is t = holds_written unit block bytes old new long (clean_as unit block told polled bytes old new polls is t)

-- the block was written, and then the packs stayed
pub fills_then_same : (unit block : ℕ) (told : Bool) (polled : Polled) (bytes : List ℕ) (old mid new : ℕ → Pack) → length bytes ≡ 512
    → Polls unit block true told (record { held = old; bytes = bytes }) (record { held = mid; bytes = bytes }) polled → polled ≡ Clean → IsTrue told → new ≡ mid
    → Fills unit (one (old unit) block) bytes old new
fills_then_same unit block told polled bytes old mid new long polls is t same =
    let w = clean_as unit block told polled bytes old mid polls is t in
    fills_written unit block bytes old new long w.0 (same ∙ w.1)

-- ---- one writing behind another

-- the same block of packs with the same marks
one_of : (p q : Pack) (block sector : ℕ) → p.marks ≡ q.marks → one p block sector ≡ one q block sector
one_of p q block sector marks = ap (λ (m : Bool). (sector == block) && not m) (same_marks p q sector marks)

-- the same block again: how long the image is,
long_over : (unit block : ℕ) (old mid new : ℕ → Pack) → (mid unit).marks ≡ (old unit).marks
    → IsAsLong (λ sector. one (old unit) block sector ≡ true) (length (old unit).image) (length (mid unit).image)
    → IsAsLong (λ sector. one (mid unit) block sector ≡ true) (length (mid unit).image) (length (new unit).image)
    → IsAsLong (λ sector. one (old unit) block sector ≡ true) (length (old unit).image) (length (new unit).image)
long_over unit block old mid new marks first second =
    long_then (λ sector. one (old unit) block sector ≡ true) (λ sector. one (mid unit) block sector ≡ true) (λ sector. one (old unit) block sector ≡ true) first second
    (λ sector is. is) (λ sector is. sym (one_of (mid unit) (old unit) block sector marks) ∙ is) (λ sector is. inl is)

-- with other bytes,
pub fills_over : (unit block : ℕ) (before bytes : List ℕ) (old mid new : ℕ → Pack) → Fills unit (one (old unit) block) before old mid
    → Fills unit (one (mid unit) block) bytes mid new → Fills unit (one (old unit) block) bytes old new
fills_over unit block before bytes old mid new first then_ = record {
  sectors =
      λ sector.
      over (one (old unit) block sector) (block_at (old unit).image sector) (block_at (mid unit).image sector) (block_at (new unit).image sector)
      (then_.sectors sector
      ∙ ap (λ (m : Bool). if_done ((sector == block) && not m) bytes (block_at (mid unit).image sector)) (same_marks (mid unit) (old unit) sector first.marks))
      (first.sectors sector);
  long = long_over unit block old mid new first.marks first.long then_.long;
  marks = then_.marks ∙ first.marks;
  others = λ other ne. then_.others other ne ∙ first.others other ne;
}
  where
    over : (b : Bool) (x y w : List ℕ) → w ≡ if_done b bytes y → y ≡ if_done b before x → w ≡ if_done b bytes x
    over true x y w e f = e
    over false x y w e f = e ∙ f

-- and where the second writing stopped
pub stops_over : (unit block : ℕ) (Such One : List ℕ → Type 0) (before : List ℕ) (old mid new : ℕ → Pack) → Such before → ((x : List ℕ) → One x → Such x)
    → Fills unit (one (old unit) block) before old mid → Stops unit (one (mid unit) block) One mid new → Stops unit (one (old unit) block) Such old new
stops_over unit block Such One before old mid new such also first stop = record {
  sectors =
      λ sector.
      over (one (old unit) block sector) (block_at (old unit).image sector) (block_at (mid unit).image sector) (block_at (new unit).image sector) (first.sectors sector)
      (subst (λ (m : Bool). (block_at (new unit).image sector ≡ block_at (mid unit).image sector)
      ⊎ ((((sector == block) && not m) ≡ true) × One (block_at (new unit).image sector))) (same_marks (mid unit) (old unit) sector first.marks) (stop.sectors sector));
  long = elim stop.long [
    | inl same ↦ inr (long_at (length (mid unit).image) same first.long)
    | inr long ↦ inr (long_over unit block old mid new first.marks first.long long)
  ];
  marks = stop.marks ∙ first.marks;
  others = λ other ne. stop.others other ne ∙ first.others other ne;
}
  where
    over : (b : Bool) (x y w : List ℕ) → y ≡ if_done b before x → (w ≡ y) ⊎ ((b ≡ true) × One w) → (w ≡ x) ⊎ ((b ≡ true) × Such w)
    over true x y w e (inl same) = inr (refl, subst Such (sym (same ∙ e)) such)
    over false x y w e (inl same) = inl (same ∙ e)
    over true x y w e (inr struck) = inr (refl, also w struck.1)
    over false x y w e (inr struck) = absurd (false_true struck.0)

-- one that is in a set and unmarked
pub on : (d m : Bool) → d ≡ true → m ≡ false → (d && not m) ≡ true
on d m one two = rw (one, two) refl

pub off : (d m : Bool) → (d && not m) ≡ true → m ≡ false
off true true e = absurd (false_true e)
off true false e = refl
off false m e = absurd (false_true e)

pub stops_weaken : (unit : ℕ) (Such One : List ℕ → Type 0) (done : ℕ → Bool) (old new : ℕ → Pack) → ((x : List ℕ) → One x → Such x) → Stops unit done One old new
    → Stops unit done Such old new
stops_weaken unit Such One done old new also stop = record {
  sectors = λ sector. elim (stop.sectors sector) [ inl same ↦ inl same | inr struck ↦ inr (struck.0, also (block_at (new unit).image sector) struck.1) ];
  long = stop.long;
  marks = stop.marks;
  others = stop.others;
}
