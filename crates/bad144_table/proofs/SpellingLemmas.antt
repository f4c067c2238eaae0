-- Reading and writing the bytes of a table.
use Rattle.std.proofs.Common.{◌≡◌, inl, inr, ℕ, ◌+◌, ◌*◌, ◌-◌, ◌<◌, ◌≤◌, List, [], ◌∷◌, ◌++◌, length, take, drop, get_or, Result, Ok, Err, refl, sym, ap, ◌∙◌, arith, append_assoc, length-append, subst}
use Rattle.std.specs.Prelude.{IfOk, IfErr, Some, slice_get}
use Rattle.std.specs.Int.{bytes_low_first}
use Rattle.std.specs.List.{flat_map}
use Rattle.std.proofs.Math.ListN.{replicate}
use Rattle.std.proofs.Math.Seq.{get_or-append_seam}
use Rattle.std.proofs.lemmas.Bool.{cases_lt}
use Rattle.std.proofs.lemmas.Grind.{common_steps}
use Rattle.std.proofs.lemmas.List.{drop-replicate, get_or_append_left, length-replicate, take_more}
use Rattle.std.proofs.lemmas.List.Concat.{flat_map-append}
use Rattle.std.proofs.lemmas.Option.{get_or_from_slice_get}
use borrow.Rule.Slice.PartMut.{put_mid}
use Rattle.pack_geometry.specs.declared.DriveKind.{DriveKind}
use Rattle.pack_geometry.specs.declared.Place.{Place}
use Rattle.pack_geometry.specs.Geometry.{IsInside, block_number}
use Rattle.pack_geometry.specs.TableFields.{long_at, place_in, IsEnd}
use Rattle.pack_geometry.specs.TableSpelling.{Table, Spells, head_text, pair_text, pairs_text, table_text}
use Rattle.pack_geometry.proofs.TableLaws.{spelled_end, spelled_flag, spelled_no_end, spelled_place, spelled_zero, spells_once, table_text-read, length-pairs}
use Rattle.bad144_table.specs.Faults.{IsFirstFault, IsReadUpTo, IsSoundUpTo, Stops}
use Rattle.bad144_table.specs.Inserts.{IsAtOrBelowLast}
use Rattle.bad144_table.specs.declared.spelling.TableFault.{TableFault}
use Rattle.bad144_table.specs.declared.spelling.TableFault.TheVariants.{Zero, Flag, Range, Order, AfterEnd}

-- ---- writing

pairs_none : (n : ℕ) → n ≡ 504 → pairs_text [] ≡ replicate n 255
unfolding pairs_text
pairs_none n e = rw e refl

pub head_by : (serial n : ℕ) (filled written zeros : List ℕ) → n ≡ 504 → filled ≡ replicate (8 + n) 255 → written ≡ bytes_low_first 0 4 serial ++ drop 4 filled
    → zeros ≡ 0 ∷ 0 ∷ 0 ∷ 0 ∷ [] → put_mid 4 4 written zeros ≡ table_text serial []
unfolding table_text
head_by serial n filled written zeros size fill write zero =
    let once : drop 4 filled ≡ replicate (4 + n) 255 = rw fill (drop-replicate 4 (8 + n) 255 ∙ ap (λ k. replicate k 255) (omega arith)) in
    let twice : drop 4 (drop 4 filled) ≡ replicate n 255 = rw once (drop-replicate 4 (4 + n) 255 ∙ ap (λ k. replicate k 255) (omega arith)) in
    rw (write, zero, twice, pairs_none n size) refl

split_text : (front rest pair : List ℕ) (a k : ℕ) → length front ≡ a → length rest ≡ k
    → put_mid a k (front ++ rest) (pair ++ drop 4 (take k (drop a (front ++ rest)))) ≡ front ++ (pair ++ drop 4 rest)
split_text front rest pair a k la lk = grind (arith, common_steps)

pub four_long : (xs : List ℕ) → 8 ≤ length xs → length (take 4 (drop 4 xs)) ≡ 4
four_long xs long = grind (arith, common_steps)

-- what is written already, and pairs of all ones
text_parts : (serial n : ℕ) (places : List Place) → 4 * length places + n ≡ 504
    → table_text serial places ≡ (head_text serial ++ flat_map pair_text places) ++ replicate n 255
unfolding table_text pairs_text
text_parts serial n places size =
    let rest : 504 - 4 * length places ≡ n = omega arith in
    rw rest (sym (append_assoc (head_text serial) (flat_map pair_text places) (replicate n 255)))

joined : (head pairs pair rest : List ℕ) → (head ++ pairs) ++ (pair ++ rest) ≡ (head ++ (pairs ++ pair)) ++ rest
joined head pairs pair rest = simp append_assoc

text_more : (serial n : ℕ) (places : List Place) (place : Place) → 4 * length places + n ≡ 504 → 4 ≤ n
    → (head_text serial ++ flat_map pair_text places) ++ (pair_text place ++ drop 4 (replicate n 255)) ≡ table_text serial (places ++ place ∷ [])
text_more serial n places place size room =
    let more = length-append places (place ∷ []) in
    rw (text_parts serial (n - 4) (places ++ place ∷ []) (omega (arith, more)), drop-replicate {X = ℕ} 4 n 255, flat_map-append pair_text places (place ∷ []))
    (joined (head_text serial) (flat_map pair_text places) (pair_text place) (replicate (n - 4) 255))

-- one pair more is written
pub text_step : (serial i a k : ℕ) (places : List Place) (place : Place) (into part : List ℕ) → length places ≡ i → i < 126 → a ≡ 8 + 4 * i → k ≡ 512 - a
    → into ≡ table_text serial places → part ≡ pair_text place ++ drop 4 (take k (drop a into))
    → put_mid a k into part ≡ table_text serial (places ++ place ∷ [])
text_step serial i a k places place into part long small at size before write =
    let n : ℕ = 504 - 4 * i in
    let front : List ℕ = head_text serial ++ flat_map pair_text places in
    let whole : into ≡ front ++ replicate n 255 = before ∙ text_parts serial n places (omega (arith, long)) in
    let front_long : length front ≡ a = omega (arith, length-append (head_text serial) (flat_map pair_text places), length-pairs places, long, at) in
    let rest_long : length (replicate {A = ℕ} n 255) ≡ k = omega (arith, length-replicate {A = ℕ} n 255, at, size, small) in
    rw (write, whole) (split_text front (replicate n 255) (pair_text place) a k front_long rest_long)
    ∙ text_more serial n places place (omega (arith, long)) (omega (arith, small))

pub front_long : (places : List Place) (i : ℕ) → i < length places → length (take i places) ≡ i
front_long places i small = grind (arith, common_steps)

pub front_more : (places : List Place) (i : ℕ) (place : Place) → slice_get places i ≡ Some place → i < length places → take i places ++ place ∷ [] ≡ take (i + 1) places
front_more places i place here small =
    sym (take_more places i place small ∙ ap (λ (p : Place). take i places ++ p ∷ []) (get_or_from_slice_get places i place place here))

-- ---- the fault is none where the bytes spell a table

listed_by : (bytes : List ℕ) (t : Table) (k : ℕ) → Spells bytes t → k < 126 → (IsEnd bytes k → ⊥) → k < length t.places
listed_by bytes t k spelled small place =
    elim (cases_lt k (length t.places)) [
      | inl listed ↦ listed
      | inr unlisted ↦ absurd (place (spelled_end bytes t k spelled unlisted small))
    ]

no_range : (bytes : List ℕ) (t : Table) (i : ℕ) → Spells bytes t → Stops t.kind bytes i i → (IsInside t.kind (place_in bytes i) → ⊥) → ⊥
no_range bytes t i spelled stops outside =
    let listed = listed_by bytes t i spelled stops.small stops.place in
    let d : Place = place_in bytes i in
    outside (rw (spelled_place bytes t i d spelled listed) (spelled.valid.inside i d listed))

no_order : (bytes : List ℕ) (t : Table) (i : ℕ) → Spells bytes t → Stops t.kind bytes i i → 0 < i
    → block_number t.kind (place_in bytes i) ≤ block_number t.kind (place_in bytes (i - 1)) → ⊥
no_order bytes t i spelled stops some low =
    let listed = listed_by bytes t i spelled stops.small stops.place in
    let d : Place = place_in bytes i in
    let here = ap (block_number t.kind) (spelled_place bytes t i d spelled listed) in
    let before = ap (block_number t.kind) (spelled_place bytes t (i - 1) d spelled (omega (arith, listed))) in
    let less = spelled.valid.ascending (i - 1) i d (omega arith) listed in
    omega (arith, here, before, less, low)

no_later : (bytes : List ℕ) (t : Table) (n i : ℕ) → Spells bytes t → n < i → Stops t.kind bytes n i → ⊥
no_later bytes t n i spelled less stops =
    let ones = stops.sound.ended n (omega arith) less in
    elim (cases_lt n (length t.places)) [
      | inl listed ↦ spelled_no_end bytes t n spelled listed ones
      | inr unlisted ↦ stops.place (spelled_end bytes t i spelled (omega arith) stops.small)
    ]

no_fault : (bytes : List ℕ) (t : Table) (fault : TableFault) → Spells bytes t → IsFirstFault t.kind bytes fault → ⊥
no_fault bytes t Zero spelled fault = fault (spelled_zero bytes t spelled)
no_fault bytes t Flag spelled fault = fault.1 (spelled_flag bytes t spelled)
no_fault bytes t (Range i) spelled fault = no_range bytes t i spelled fault.0 fault.1
no_fault bytes t (Order i) spelled fault = no_order bytes t i spelled fault.0 fault.2 fault.3
no_fault bytes t (AfterEnd i) spelled fault = no_later bytes t fault.0 i spelled fault.1 fault.2

pub read_is : (kind : DriveKind) (bytes : List ℕ) (r : Result Table TableFault) → IfOk r (λ t. (t.kind ≡ kind) × Spells bytes t) → IfErr r (IsFirstFault kind bytes)
    → (t : Table) → t.kind ≡ kind → Spells bytes t → r ≡ Ok t
read_is kind bytes (Ok u) ok err t same spelled = ap Ok (spells_once bytes u t ok.1 spelled (ok.0 ∙ sym same))
read_is kind bytes (Err fault) ok err t same spelled = absurd (no_fault bytes t fault spelled (rw same err))

-- ---- reading pair by pair

pub read_end : (kind : DriveKind) (bytes : List ℕ) (places : List Place) (i : ℕ) → IsReadUpTo kind bytes places i → IsEnd bytes i → IsReadUpTo kind bytes places (i + 1)
read_end kind bytes places i read ones = record {
  sound = record {
    zero_word = read.sound.zero_word;
    flag_word = read.sound.flag_word;
    behind = omega (arith, read.sound.behind);
    places = read.sound.places;
    inside = read.sound.inside;
    ascending = read.sound.ascending;
    ended =
        λ k from small.
        elim (cases_lt k i) [
          | inl less ↦ read.sound.ended k from less
          | inr top ↦ let equal : k ≡ i = omega arith in rw equal ones
        ];
  };
  listed = read.listed;
}

pub read_more : (kind : DriveKind) (bytes : List ℕ) (places : List Place) (i : ℕ) → IsReadUpTo kind bytes places i → length places ≡ i → (IsEnd bytes i → ⊥) → IsInside kind (place_in bytes i)
    → ((k : ℕ) (d : Place) → k < length places → block_number kind (get_or places k d) < block_number kind (place_in bytes i))
    → IsReadUpTo kind bytes (places ++ place_in bytes i ∷ []) (i + 1)
read_more kind bytes places i read long place inside above =
    let more : length (places ++ place_in bytes i ∷ []) ≡ i + 1 = omega (arith, long, length-append places (place_in bytes i ∷ [])) in
    record {
      sound = record {
        zero_word = read.sound.zero_word;
        flag_word = read.sound.flag_word;
        behind = omega (arith, more);
        places =
            λ k small.
            elim (cases_lt k i) [
              | inl less ↦ read.sound.places k (omega (arith, long))
              | inr top ↦ let equal : k ≡ i = omega (arith, more) in rw equal place
            ];
        inside =
            λ k small.
            elim (cases_lt k i) [
              | inl less ↦ read.sound.inside k (omega (arith, long))
              | inr top ↦ let equal : k ≡ i = omega (arith, more) in rw equal inside
            ];
        ascending =
            λ j k less small.
            elim (cases_lt k i) [
              | inl under ↦ read.sound.ascending j k less (omega (arith, long))
              | inr top ↦
                  let equal : k ≡ i = omega (arith, more) in
                  let d : Place = place_in bytes j in
                  let number = ap (block_number kind) (read.listed j d (omega (arith, long))) in
                  rw equal (omega (arith, number, above j d (omega (arith, long))))
            ];
        ended = λ k from small. absurd (omega (arith, more));
      };
      listed =
          λ k d small.
          elim (cases_lt k i) [
            | inl less ↦ get_or_append_left places (place_in bytes i ∷ []) d k (omega (arith, long)) ∙ read.listed k d (omega (arith, long))
            | inr top ↦
                let equal : k ≡ i = omega (arith, more) in
                let last : k ≡ length places = omega (arith, long) in
                ap (λ n. get_or (places ++ place_in bytes i ∷ []) n d) last ∙ get_or-append_seam places (place_in bytes i) [] d
                ∙ ap (place_in bytes) (sym equal)
          ];
    }

stops_here : (kind : DriveKind) (bytes : List ℕ) (places : List Place) (i : ℕ) → IsReadUpTo kind bytes places i → length places ≡ i → i < 126 → (IsEnd bytes i → ⊥) → Stops kind bytes i i
stops_here kind bytes places i read long small place =
    let P : ℕ → Type 0 = λ n. IsSoundUpTo kind bytes n i in
    record { sound = subst P long read.sound; small = small; place = place }

pub range_fault : (kind : DriveKind) (bytes : List ℕ) (places : List Place) (i : ℕ) → IsReadUpTo kind bytes places i → length places ≡ i → i < 126 → (IsEnd bytes i → ⊥)
    → (IsInside kind (place_in bytes i) → ⊥) → IsFirstFault kind bytes (Range i)
range_fault kind bytes places i read long small place outside = (stops_here kind bytes places i read long small place, outside)

pub order_fault : (t : Table) (bytes : List ℕ) (i : ℕ) → IsReadUpTo t.kind bytes t.places i → length t.places ≡ i → i < 126 → (IsEnd bytes i → ⊥)
    → IsInside t.kind (place_in bytes i) → IsAtOrBelowLast t (place_in bytes i) → IsFirstFault t.kind bytes (Order i)
order_fault t bytes i read long small place inside low =
    let d : Place = place_in bytes i in
    let before : length t.places - 1 ≡ i - 1 = omega (arith, long) in
    let last = ap (block_number t.kind) (read.listed (length t.places - 1) d (omega (arith, low.some))) in
    let front = ap (λ k. block_number t.kind (place_in bytes k)) before in
    (stops_here t.kind bytes t.places i read long small place, inside, omega (arith, long, low.some), omega (arith, low.last d, last, front))

pub spells_read : (bytes : List ℕ) (t : Table) → length bytes ≡ 512 → ((i : ℕ) → get_or bytes i 0 < 256) → t.serial ≡ long_at bytes 0
    → IsReadUpTo t.kind bytes t.places 126 → Spells bytes t
spells_read bytes t size each serial read = record {
  text =
      rw serial
      (table_text-read bytes t.places
      (record {
        size = size;
        each = each;
        zero_word = read.sound.zero_word;
        flag_word = read.sound.flag_word;
        room = read.sound.behind;
        listed = read.listed;
        rest = read.sound.ended;
      }));
  valid = record {
    serial = omega (arith, serial, each 0, each 1, each 2, each 3);
    room = read.sound.behind;
    inside = λ k d small. rw (read.listed k d small) (read.sound.inside k small);
    ascending =
        λ j k d less small.
        rw (read.listed j d (omega arith), read.listed k d small) (read.sound.ascending j k less small);
  };
}

pub spells_done : (kind : DriveKind) (bytes : List ℕ) (t : Table) (i : ℕ) → length bytes ≡ 512 → ((k : ℕ) → get_or bytes k 0 < 256) → t.kind ≡ kind → t.serial ≡ long_at bytes 0
    → IsReadUpTo kind bytes t.places i → i ≡ 126 → (t.kind ≡ kind) × Spells bytes t
spells_done kind bytes t i size each same serial read done =
    let P : ℕ → Type 0 = λ n. IsReadUpTo kind bytes t.places n in
    let Q : DriveKind → Type 0 = λ k. IsReadUpTo k bytes t.places 126 in
    (same, spells_read bytes t size each serial (subst Q (sym same) (subst P done read)))
