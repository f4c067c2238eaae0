-- Each line is well formed behind those before it.
use Rattle.std.proofs.Common.{◌≡◌, ℕ, zero, suc, ◌+◌, ◌/◌, ◌%◌, ◌<◌, ◌≤◌, Bool, true, false, List, [], ◌∷◌, refl, ap, ◌∙◌, arith, Option, None, Some}
use Rattle.std.specs.Prelude.{if◌then◌else◌, ◌==◌, ◌||◌, nat_le}
use Rattle.std.proofs.lemmas.Bool.{lt-leb, ne_eqb}
use Rattle.std.proofs.lemmas.Nat.{mod_below}
use Rattle.hardware_table.specs.declared.FaultKind.TheVariants.{Opi}
use Rattle.hardware_table.specs.declared.NoiseSpan.TheVariants.{Times}
use Rattle.pack_geometry.specs.declared.DriveKind.{DriveKind}
use Rattle.pack_geometry.specs.declared.DriveKind.TheVariants.{Rp06, Rm03, Rm05}
use Rattle.pack_geometry.specs.Geometry.{block_count}
use Rattle.rand_core.specs.Stream.{Stream, next_u64}
use Rattle.script_lines.specs.declared.kinds.ScriptKind.TheVariants.{TooMany}
use Rattle.script_lines.specs.declared.statement.Content.TheVariants.{Seq}
use Rattle.script_lines.specs.declared.statement.Statement.TheVariants as says
use Rattle.script_reader.specs.Formed.{IsDeclared, IsAsked, IsWell, AreWell, learned}
use Rattle.script_lines.specs.Known.{Known, Said, known_of, kind_after, has_id, verb_of, requests, strikes}
use Rattle.script_lines.specs.Knowing.{one}
use Rattle.hp_exercise.specs.Exercise.{unit_of, block_of, place_of, seq_of, times_of, words_of}
use Rattle.hp_exercise.specs.Statements.{request_of, step_statement, steps_statements, script_statements}
use Rattle.hp_exercise.proofs.BoundLaws.{times_bound, count_bound, count_some, offset_bound, place_bound, two_places}
use Rattle.hp_exercise.proofs.CaseLaws.{step_by}

-- WHAT IS KNOWN before step `s`
pub record Ready (known : Known) (s : ℕ) : Type 0 where
  pub zero_is : known.kinds 0 ≡ Some Rp06
  pub one_is : known.kinds 1 ≡ Some Rm03
  pub eight_is : known.kinds 8 ≡ Some Rm03
  pub free : (id : ℕ) → s ≤ id → known.used id ≡ false
  pub asked : known.requests ≤ s
  pub struck : known.noises ≤ s

one_le : (b : Bool) → one b ≤ 1
one_le true = omega arith
one_le false = omega arith

or_none : (a b : Bool) → a ≡ false → b ≡ false → (a || b) ≡ false
or_none a b e f = ap (λ (x : Bool). x || b) e ∙ f

sum_le : (n s k : ℕ) → n ≤ s → k ≤ 1 → n + k ≤ s + 1
sum_le n s k le few = omega (arith, le, few)

-- a line that declares no unit and uses no later id
ready_more : (known : Known) (s : ℕ) (said : Said) → Ready known s → ((u : ℕ) (before : Option DriveKind) → kind_after u said before ≡ before) → ((id : ℕ) → s + 1 ≤ id → has_id id said ≡ false) → Ready (learned known said) (s + 1)
ready_more known s said r same other = record {
  zero_is = same 0 (known.kinds 0) ∙ r.zero_is;
  one_is = same 1 (known.kinds 1) ∙ r.one_is;
  eight_is = same 8 (known.kinds 8) ∙ r.eight_is;
  free = λ id le. or_none (known.used id) (has_id id said) (r.free id (omega (arith, le))) (other id le);
  asked = sum_le known.requests s (one (requests (verb_of said))) r.asked (one_le (requests (verb_of said)));
  struck = sum_le known.noises s (one (strikes (verb_of said))) r.struck (one_le (strikes (verb_of said)));
}

later_id : (s id : ℕ) → s + 1 ≤ id → (s == id) ≡ false
later_id s id le = ne_eqb s id (λ e. omega (arith, e, le))

ready_step : (known : Known) (s w : ℕ) → Ready known s → Ready (learned known (step_statement s w)) (s + 1)
ready_step known s w r =
    step_by (λ said. Ready (learned known said) (s + 1)) s w
    (record {
      fault = ready_more known s (says.Fault (unit_of w) Opi (times_of w)) r (λ u before. refl) (λ id le. refl);
      drain = ready_more known s says.Drain r (λ u before. refl) (λ id le. refl);
      noise = ready_more known s (says.Noise (unit_of w) (block_of w) (Times 1) (place_of w ∷ (place_of w + 7) ∷ [])) r (λ u before. refl) (λ id le. refl);
    })
    (record {
      write = ready_more known s (says.Write (request_of s w) (Seq (seq_of w))) r (λ u before. refl) (later_id s);
      read = ready_more known s (says.Read (request_of s w)) r (λ u before. refl) (later_id s);
      arrive = ready_more known s (says.Arrive (unit_of w)) r (λ u before. refl) (λ id le. refl);
      move = ready_more known s (says.Move (unit_of w / 8)) r (λ u before. refl) (λ id le. refl);
      attend = ready_more known s (says.Attend (unit_of w / 8)) r (λ u before. refl) (λ id le. refl);
    })

-- UNITS that a word draws
drive_by : (known : Known) (s : ℕ) (a b : Bool) → Ready known s → IsDeclared known (if a then 0 else if b then 1 else 8)
drive_by known s true b r = (Rp06, (omega arith, r.zero_is))
drive_by known s false true r = (Rm03, (omega arith, r.one_is))
drive_by known s false false r = (Rm03, (omega arith, r.eight_is))

drive_of : (known : Known) (s w : ℕ) → Ready known s → IsDeclared known (unit_of w)
drive_of known s w r = drive_by known s (w / 8 % 3 == 0) (w / 8 % 3 == 1) r

adapter_by : (a b : Bool) → (if a then 0 else if b then 1 else 8) / 8 ≤ 3
adapter_by true b = omega arith
adapter_by false true = omega arith
adapter_by false false = omega arith

adapter_of : (w : ℕ) → unit_of w / 8 ≤ 3
adapter_of w = adapter_by (w / 8 % 3 == 0) (w / 8 % 3 == 1)

pub block_bound : (w : ℕ) → block_of w < 15000
block_bound w = mod_below (w / 256) 15000 (omega arith)

pub seq_bound : (w : ℕ) → seq_of w < 256
seq_bound w = mod_below (w / 1099511627776) 256 (omega arith)

inside : (kind : DriveKind) (b : ℕ) → b < 15000 → b < block_count kind
inside Rp06 b lt = omega (arith, lt)
inside other b lt = omega (arith, lt)

times_some : (w : ℕ) → 1 ≤ times_of w
times_some w = omega arith

times_few : (w : ℕ) → times_of w ≤ 1000
times_few w = omega (arith, times_bound w)

-- LINES in time
full : (n most s : ℕ) → n ≤ s → s < most → nat_le most n ≡ false
full n most s le lt = lt-leb most n (omega (arith, le, lt))

not_full : (t : Bool) → t ≡ false → (if t then Some TooMany else None) ≡ None
not_full true e = absurd (cc)
not_full false e = refl

asked_of : (known : Known) (s w : ℕ) → s < 2048 → Ready known s → IsAsked known (request_of s w)
asked_of known s w lt r = record {
  id = omega (arith, lt);
  new = r.free s (omega arith);
  declared = drive_of known s w r;
  block = omega (arith, block_bound w);
  some = count_some w;
  count = omega (arith, count_bound w);
  offset = omega (arith, offset_bound w);
  byte = omega arith;
  last = omega arith;
}

step_well : (known : Known) (s w : ℕ) → s < 2048 → Ready known s → IsWell known (step_statement s w)
step_well known s w lt r =
    let small : seq_of w ≤ 255 = omega (arith, seq_bound w) in
    let room : (if nat_le 65536 known.requests then Some TooMany else None) ≡ None = not_full (nat_le 65536 known.requests) (full known.requests 65536 s r.asked (omega (arith, lt))) in
    step_by (IsWell known) s w
    (record {
      fault = record { in_time = refl; in_range = (drive_of known s w r, (times_some w, times_few w)) };
      drain = record { in_time = refl; in_range = tt };
      noise = record {
        in_time = not_full (nat_le 4096 known.noises) (full known.noises 4096 s r.struck (omega (arith, lt)));
        in_range = record {
          kind = (drive_of known s w r).0;
          drive = (drive_of known s w r).1;
          inside = inside (drive_of known s w r).0 (block_of w) (block_bound w);
          spans = (omega arith, omega arith);
          noise = record { set = two_places (place_of w) (place_bound w); not_empty = omega arith; bounded = omega arith };
        };
      };
    })
    (record {
      write = record { in_time = room; in_range = (asked_of known s w lt r, small) };
      read = record { in_time = room; in_range = asked_of known s w lt r };
      arrive = record { in_time = refl; in_range = drive_of known s w r };
      move = record { in_time = refl; in_range = adapter_of w };
      attend = record { in_time = refl; in_range = adapter_of w };
    })

steps_well : (n s : ℕ) (words : Stream) (known : Known) → s + n ≤ 2048 → Ready known s → AreWell known (steps_statements n s words)
unfolding steps_statements
steps_well zero s words known le r = tt
steps_well (suc n) s words known le r =
    let lt : s < 2048 = omega (arith, le) in
    let next : (s + 1) + n ≤ 2048 = omega (arith, le) in (
      step_well known s (next_u64 words).0 lt r,
      steps_well n (s + 1) (next_u64 words).1 (learned known (step_statement s (next_u64 words).0)) next (ready_step known s (next_u64 words).0 r),
    )

pub script_well : (number : ℕ) → AreWell (known_of {D = List ℕ} {N = List ℕ} []) (script_statements number)
script_well number =
    let first : Known = known_of {D = List ℕ} {N = List ℕ} [] in
    let units : Known = learned (learned (learned first (says.Unit 0 Rp06)) (says.Unit 1 Rm03)) (says.Unit 8 Rm03) in
    let ready : Ready units 0 = record { zero_is = refl; one_is = refl; eight_is = refl; free = λ id le. refl; asked = omega arith; struck = omega arith } in (
      record { in_time = refl; in_range = (omega arith, refl) },
      (
        record { in_time = refl; in_range = (omega arith, refl) },
        (record { in_time = refl; in_range = (omega arith, refl) }, steps_well 2048 0 (words_of number) units (omega arith) ready),
      ),
    )
