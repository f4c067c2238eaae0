-- A line of a unit keeps it in agreement with its drive and its adapter.
use Rattle.std.proofs.Common.{◌≡◌, ℕ, ◌<◌, ◌==◌, ◌&&◌, ◌||◌, Bool, true, false, not, List, [], ◌∷◌, Option, None, Some, is_some, refl, sym, ap, ◌∙◌, subst, arith, ◌*◌, ◌-◌, nat_lt, rules}
use Rattle.std.specs.Int.{bit_at}
use Rattle.std.proofs.lemmas.Option.{none-some}
use Rattle.std.proofs.lemmas.Bool.{false≢true, true≢false, false_from_ne_true, or_parts}
use Rattle.pack_geometry.specs.declared.Place.{Place}
use Rattle.pack_geometry.specs.Geometry.{place_at}
use Rattle.drive_registers.specs.declared.Function.TheVariants as function
use Rattle.drive_registers.specs.declared.OffsetCode.{OffsetCode}
use Rattle.drive_registers.specs.Codes.{offset_code}
use Rattle.hardware_table.specs.declared.Register.TheVariants as register
use Rattle.hardware_table.specs.declared.Moved.{Moved}
use Rattle.hardware_table.specs.Drive.{DriveState, is_positioning, is_transferring, has_error, on, with_register}
use Rattle.hardware_table.specs.Adapter.{AdapterState, stepped, bytes_between}
use Rattle.hardware_table.specs.Functions.{performed}
use Rattle.trace_replay.specs.requests.Requests.{Request, Answer}
use Rattle.trace_replay.specs.Moments.{Deed, Search, Seek, Recal, Offset, Centre, Clear, Pack, Transfer, Arrive, Sector, Intr, Try, Attn, End}
use Rattle.trace_replay.specs.Adapters.{AdapterSeen, AdapterMay, is_busy_for, can_move, drive_of}
use Rattle.trace_replay.specs.Drives.{DriveMay, drive_after, addressed, search_place, offset_written, transfer_function}
use Rattle.trace_replay.specs.Service.{ServiceMay, service_after, head_of, ids, in_hand, target_of}
use Rattle.trace_replay.specs.Conversation.{Moving, UnderWay, OwnBlocks, TalkMay, progress_after, stage_after, segment_of, last_of, is_waiting, waits, is_under_way, is_clean, said, step_ended, step_taken, begun, due, Segment, left_of}
use Rattle.trace_replay.specs.Replay.{UnitSeen, hand_of, adapter_told}
use Rattle.driver_laws.specs.rules.Consistent.{is_moving, may_have_errors, is_well_said, is_listed, Counts, is_cleared_next, Agrees}
use Rattle.driver_laws.proofs.rules.Stages.{sort_of, allowed, Positions, Says, due_allowed, Quiet, quiet_before, Stepping, step_begins, Quieted, Ended, said_on, step_over, first_said, transfers_clear, ends_clear, under_way, WasMoving, sector_moving, WasMoved, intr_moving, interrupted_quiet, cleared_first, begun_waits, begun_still, first_of, second_of}
use Rattle.driver_laws.proofs.rules.Queues.{queued_after, same, raised_same, lowered_same}
use Rattle.driver_laws.proofs.rules.Driven.{DriveIs, search_is, seek_is, recal_is, offset_is, centre_is, pack_is, clear_is, transfer_is, arrived_is, sector_is, clean_sector, stepped_keeps}

-- from what is known of its parts
pub settled : {u : UnitSeen} {a : AdapterSeen} {n : ℕ} (p t c : Bool) → DriveIs u.drive p t c → is_under_way u.stage ≡ p || c → p && c ≡ false
    → t ≡ is_moving u.stage && not a.state.completion → is_busy_for a.state n ≡ is_moving u.stage → bit_at a.state.attentions (drive_of n) ≡ on c 1
    → is_listed n a.ready ≡ waits u.stage → is_waiting u.stage ≡ not (is_some (head_of u.service)) → (has_error u.drive ≡ true → may_have_errors u.stage ≡ true)
    → is_well_said u.stage ≡ true → (is_moving u.stage ≡ true → Counts u.stage a.state) → Agrees u a n
settled {u} {a} {n} p t c d under never trans busy bit queued held errors well counts = search rules

-- THE UNIT AFTER A LINE, over its parts
abbrev pub UnitNext : UnitSeen → AdapterSeen → Deed → List ℕ → UnitSeen
UnitNext u a deed bytes = record {
  drive = drive_after u.drive a.state (target_of u.drive.kind (in_hand u.service)) deed;
  service = service_after u.service deed;
  stage = stage_after u.stage deed (drive_after u.drive a.state (target_of u.drive.kind (in_hand u.service)) deed)
      (record (hand_of u) { progress = progress_after u.stage deed bytes u.progress }) (head_of (service_after u.service deed));
  progress = progress_after u.stage deed bytes u.progress;
  table = u.table;
}

abbrev pub AdapterNext : UnitSeen → AdapterSeen → ℕ → Deed → List ℕ → AdapterSeen
AdapterNext u a n deed bytes = adapter_told a n deed (UnitNext u a deed bytes).stage

-- ---- a step's command
stepping : {u u' : UnitSeen} {a a' : AdapterSeen} {n : ℕ} → Agrees u a n → Stepping u.stage u'.stage → DriveIs u'.drive true false false → has_error u'.drive ≡ has_error u.drive
    → a'.state ≡ a.state → is_busy_for a.state n ≡ false → bit_at a.state.attentions (drive_of n) ≡ 0 → is_listed n a'.ready ≡ waits u'.stage
    → is_some (head_of u'.service) ≡ true → Agrees u' a' n
stepping {u} {u'} {a} {a'} {n} g st d errors state busy bit queued held = search rules

-- ---- a line behind which nothing is under way
resting : {u' : UnitSeen} {a' : AdapterSeen} {n : ℕ} → Quiet u'.stage → DriveIs u'.drive false false false → (has_error u'.drive ≡ true → may_have_errors u'.stage ≡ true)
    → is_busy_for a'.state n ≡ false → bit_at a'.state.attentions (drive_of n) ≡ 0 → is_listed n a'.ready ≡ waits u'.stage
    → is_some (head_of u'.service) ≡ true → Agrees u' a' n
resting {u'} {a'} {n} q d errors busy bit queued held = search rules

there_is : (next : Option Request) (id : ℕ) → ids next ≡ Some id → is_some next ≡ true
there_is None id is = absurd (none-some id is)
there_is (Some r) id is = refl

-- before a line that is due
record Before (u : UnitSeen) (a : AdapterSeen) (n : ℕ) : Type 0 where
  pub rest : DriveIs u.drive false false false
  pub quiet : Quiet u.stage
  pub busy : is_busy_for a.state n ≡ false
  pub bit : bit_at a.state.attentions (drive_of n) ≡ 0

before : {u : UnitSeen} {a : AdapterSeen} {n : ℕ} → Agrees u a n → Quiet u.stage → Before u a n
before {u} {a} {n} g q = search rules

again : {d e : DriveState} {p t c : Bool} → e.work ≡ d.work → e.attention ≡ d.attention → DriveIs d p t c → DriveIs e p t c
again w c f = record { positions = ap is_positioning w ∙ f.positions; transfers = ap is_transferring w ∙ f.transfers; calls = c ∙ f.calls }

first_not : (x y : Bool) → y ≡ true → x && y ≡ false → x ≡ false
first_not true y is e = absurd (true≢false (sym is ∙ e))
first_not false y is e = refl

pub drive_below : (n : ℕ) → drive_of n < 8
drive_below n = omega arith

-- what a transfer counts
whole : (count : ℕ) → bytes_between count 512 0 count ≡ 512 * count
whole count = search rules

sector_counts : (v : Moved) (a : AdapterState) (segment : Segment) (left : ℕ) → a.byte_count ≡ 512 * left → nat_lt 0 left ≡ true → Counts (Moving segment (left - 1) v) (stepped v a)
sector_counts v a segment left is some = search rules

-- ---- each line
module _ (u : UnitSeen) (a : AdapterSeen) (n id : ℕ) (bytes : List ℕ) (g : Agrees u a n) (serves : ServiceMay u.service id) where
  abbrev Target : Place
  Target = target_of u.drive.kind (in_hand u.service)

  abbrev Comes : Deed → Type 0
  Comes deed = TalkMay u.drive (hand_of u) u.stage deed

  abbrev Goal : Deed → Type 0
  Goal deed = Agrees (UnitNext u a deed bytes) (AdapterNext u a n deed bytes) n

  there : is_some (head_of u.service) ≡ true
  there = there_is (head_of u.service) id serves

  -- a unit that was not ready
  was_not : (w : Bool) → waits u.stage ≡ false → is_listed n a.ready ≡ true → w ≡ true
  was_not w free l = absurd (true≢false (sym l ∙ g.queued ∙ free))

  steps : (deed : Deed) → allowed u.stage Positions ≡ true
      → DriveIs (UnitNext u a deed bytes).drive true false false × (has_error (UnitNext u a deed bytes).drive ≡ has_error u.drive)
      → (UnitNext u a deed bytes).stage ≡ step_taken u.stage → (AdapterNext u a n deed bytes).state ≡ a.state → service_after u.service deed ≡ u.service → Goal deed
  steps deed ok d stage state service =
      stepping g st d.0 d.1 state b.busy b.bit (queued_after (waits (UnitNext u a deed bytes).stage) n deed a.ready (λ e. was_not (waits (UnitNext u a deed bytes).stage) st.free))
      (ap (λ z. is_some (head_of z)) service ∙ there)
    where
      st : Stepping u.stage (UnitNext u a deed bytes).stage
      st = subst (λ z. Stepping u.stage z) (sym stage) (step_begins u.stage ok)

      b : Before u a n
      b = before g (quiet_before u.stage Positions g.said ok)

  allows : (deed : Deed) → due u.drive (hand_of u) u.stage ≡ Some deed → allowed u.stage (sort_of deed) ≡ true
  allows deed comes = due_allowed u.drive (hand_of u) u.stage deed g.said comes

  calm : (deed : Deed) → due u.drive (hand_of u) u.stage ≡ Some deed → Before u a n
  calm deed comes = before g (quiet_before u.stage (sort_of deed) g.said (allows deed comes))

  own_search : (c y : ℕ) → Comes (Search c y) → DriveMay u.drive Target (Search c y) → Goal (Search c y)
  own_search c y comes may =
      steps (Search c y) (allows (Search c y) comes) (search_is (addressed (search_place c y Target) u.drive) may (again refl refl (calm (Search c y) comes).rest)) refl refl refl

  own_seek : (c : ℕ) → Comes (Seek c) → DriveMay u.drive Target (Seek c) → Goal (Seek c)
  own_seek c comes may = steps (Seek c) (allows (Seek c) comes) (seek_is (with_register register.Dc c u.drive) may (again refl refl (calm (Seek c) comes).rest)) refl refl refl

  own_recal : Comes Recal → DriveMay u.drive Target Recal → Goal Recal
  own_recal comes may = steps Recal (allows Recal comes) (recal_is u.drive may (calm Recal comes).rest) refl refl refl

  own_offset : (o : OffsetCode) → Comes (Offset o) → DriveMay u.drive Target (Offset o) → Goal (Offset o)
  own_offset o comes may = steps (Offset o) (allows (Offset o) comes) (offset_is (offset_written (offset_code o) u.drive) may (again refl refl (calm (Offset o) comes).rest)) refl refl refl

  -- lines behind an interrupt
  speaks : (deed : Deed) → due u.drive (hand_of u) u.stage ≡ Some deed → sort_of deed ≡ Says
      → DriveIs (UnitNext u a deed bytes).drive false false false → (has_error (UnitNext u a deed bytes).drive ≡ false)
      → (UnitNext u a deed bytes).stage ≡ said u.stage → (AdapterNext u a n deed bytes).state ≡ a.state → service_after u.service deed ≡ u.service → Goal deed
  speaks deed comes sort d clear stage state service =
      resting q.quiet d (λ e. absurd (true≢false (sym e ∙ clear))) (ap (λ z. is_busy_for z n) state ∙ b.busy) (ap (λ (z : AdapterState). bit_at z.attentions (drive_of n)) state ∙ b.bit)
      (queued_after (waits (UnitNext u a deed bytes).stage) n deed a.ready (λ e. was_not (waits (UnitNext u a deed bytes).stage) q.free))
      (ap (λ z. is_some (head_of z)) service ∙ there)
    where
      b : Before u a n
      b = calm deed comes

      q : Quieted u.stage (UnitNext u a deed bytes).stage
      q = subst (λ z. Quieted u.stage z) (sym stage) (said_on u.stage g.said (subst (λ z. allowed u.stage z ≡ true) sort (allows deed comes)))

  faultless : (deed : Deed) → due u.drive (hand_of u) u.stage ≡ Some deed → sort_of deed ≡ Says → ((rest : List Deed) → is_cleared_next (deed ∷ rest) ≡ false) → has_error u.drive ≡ false
  faultless deed comes sort other =
      false_from_ne_true (has_error u.drive) (λ e. true≢false (sym (g.errors e) ∙ first_said u.drive (hand_of u) u.stage deed comes (subst (λ z. allowed u.stage z ≡ true) sort (allows deed comes)) other))

  own_centre : Comes Centre → DriveMay u.drive Target Centre → Goal Centre
  own_centre comes may = speaks Centre comes refl (again refl refl d.0) (d.1 ∙ faultless Centre comes refl (λ rest. refl)) refl refl refl
    where
      d : DriveIs (performed function.Centre u.drive) false false false × (has_error (performed function.Centre u.drive) ≡ has_error u.drive)
      d = centre_is u.drive may (calm Centre comes).rest

  own_clear : Comes Clear → DriveMay u.drive Target Clear → Goal Clear
  own_clear comes may = speaks Clear comes refl d.0 d.1 refl refl refl
    where
      d : DriveIs (performed function.Clear u.drive) false false false × (has_error (performed function.Clear u.drive) ≡ false)
      d = clear_is u.drive may (calm Clear comes).rest

  own_try : (block failures : ℕ) → Comes (Try block failures) → Goal (Try block failures)
  own_try block failures comes =
      speaks (Try block failures) comes refl (calm (Try block failures) comes).rest (faultless (Try block failures) comes refl (λ rest. refl)) refl refl refl

  own_pack : Comes Pack → DriveMay u.drive Target Pack → Goal Pack
  own_pack comes may =
      resting b.quiet d.0 (λ e. g.errors (sym d.1 ∙ e)) b.busy b.bit (queued_after (waits u.stage) n Pack a.ready (λ e l. sym g.queued ∙ l)) there
    where
      b : Before u a n
      b = calm Pack comes

      d : DriveIs (performed function.Pack u.drive) false false false × (has_error (performed function.Pack u.drive) ≡ has_error u.drive)
      d = pack_is u.drive may b.rest

  -- a transfer is commanded
  own_transfer : (write : Bool) (block count : ℕ) → Comes (Transfer write block count) → DriveMay u.drive Target (Transfer write block count) → Goal (Transfer write block count)
  own_transfer write block count comes may =
      settled false true false d.0 refl refl refl (same (drive_of n)) b.bit (queued_after false n (Transfer write block count) a.ready (λ e. absurd (true≢false e)))
      (sym (ap not there)) (λ e. absurd (true≢false (sym (g.errors (sym d.1 ∙ e)) ∙ transfers_clear u.stage (allows (Transfer write block count) comes)))) refl
      (λ e. record { stopped = λ e. absurd (false≢true e); counted = λ e. whole count; finished = λ e c. absurd (false≢true c) })
    where
      b : Before u a n
      b = calm (Transfer write block count) comes

      d : DriveIs (performed (transfer_function write) (addressed (place_at u.drive.kind block) u.drive)) false true false
          × (has_error (performed (transfer_function write) (addressed (place_at u.drive.kind block) u.drive)) ≡ has_error u.drive)
      d = transfer_is write (addressed (place_at u.drive.kind block) u.drive) may (again refl refl b.rest)

  own_arrive : Comes Arrive → DriveMay u.drive Target Arrive → Goal Arrive
  own_arrive comes may = search (rules, settled, raised_same, drive_below, queued_after, there, true≢false, under_way, arrived_is)

  own_attn : Comes Attn → DriveMay u.drive Target Attn → Goal Attn
  own_attn comes may =
      resting q.quiet (record { positions = first_not (is_positioning u.drive.work) u.drive.attention may g.never_both; transfers = g.transfers ∙ ap (λ b. b && not a.state.completion) w.moving; calls = refl })
      (λ e. absurd (true≢false (sym (g.errors e) ∙ (step_over u.stage comes).clear))) (g.busy ∙ w.moving) (lowered_same a.state.attentions (drive_of n) (drive_below n))
      (queued_after (waits (step_ended u.stage)) n Attn a.ready (λ e. was_not (waits (step_ended u.stage)) q.free)) there
    where
      w : Stepping (UnderWay [] OwnBlocks) u.stage
      w = under_way u.stage comes

      q : Ended u.stage (step_ended u.stage)
      q = step_over u.stage comes

  own_sector : (block : ℕ) (v : Moved) → Comes (Sector block v) → AdapterMay a.state n (Sector block v) → Goal (Sector block v)
  own_sector block v comes may =
      settled false (not (stepped v a.state).completion) false (sector_is v a.state u.drive was) refl refl refl busy
      (ap (λ z. bit_at z (drive_of n)) (stepped_keeps v a.state).2 ∙ g.attention ∙ ap (λ b. on b 1) was.calls)
      (queued_after false n (Sector block v) a.ready (λ e. was_not false m.free)) (sym (ap not there)) errors refl
      (λ e. sector_counts v a.state (segment_of u.stage) (left_of u.stage) ((g.counts m.moving).counted m.clean) m.some)
    where
      m : WasMoving u.stage
      m = sector_moving (hand_of u) u.stage block comes

      busy_now : is_busy_for a.state n ≡ true
      busy_now = first_of (is_busy_for a.state n) (can_move a.state) may.0

      moves : can_move a.state ≡ true
      moves = second_of (is_busy_for a.state n) (can_move a.state) may.0

      was : DriveIs u.drive false true false
      was = record {
        positions = (or_parts (is_positioning u.drive.work) u.drive.attention (sym g.positions ∙ m.under)).0;
        transfers = g.transfers ∙ ap (λ b. b && not a.state.completion) m.moving ∙ second_of a.state.busy (not a.state.completion) moves;
        calls = (or_parts (is_positioning u.drive.work) u.drive.attention (sym g.positions ∙ m.under)).1;
      }

      busy : is_busy_for (stepped v a.state) n ≡ true
      busy = ap (λ z. z && ((stepped v a.state).drive == drive_of n)) (stepped_keeps v a.state).0 ∙ ap (λ z. a.state.busy && (z == drive_of n)) (stepped_keeps v a.state).1 ∙ busy_now

      errors : has_error (UnitNext u a (Sector block v) bytes).drive ≡ true → not (is_clean v) ≡ true
      errors e = at (is_clean v) refl
        where
          at : (b : Bool) → is_clean v ≡ b → not (is_clean v) ≡ true
          at true c = absurd (true≢false (sym (g.errors (sym (clean_sector v a.state u.drive c) ∙ e)) ∙ m.clean))
          at false c = ap not c

  own_intr : Comes Intr → AdapterMay a.state n Intr → Goal Intr
  own_intr comes may =
      resting (interrupted_quiet (last_of u.stage) u.drive _ (segment_of u.stage)) was errors refl (g.attention ∙ ap (λ b. on b 1) was.calls)
      (queued_after (waits (UnitNext u a Intr bytes).stage) n Intr a.ready (λ e. was_not (waits (UnitNext u a Intr bytes).stage) m.free)) there
    where
      m : WasMoved u.stage
      m = intr_moving u.stage comes

      was : DriveIs u.drive false false false
      was = record {
        positions = (or_parts (is_positioning u.drive.work) u.drive.attention (sym g.positions ∙ m.under)).0;
        transfers = g.transfers ∙ ap (λ b. b && not a.state.completion) m.moving ∙ ap not (second_of (is_busy_for a.state n) a.state.completion may);
        calls = (or_parts (is_positioning u.drive.work) u.drive.attention (sym g.positions ∙ m.under)).1;
      }

      errors : has_error u.drive ≡ true → may_have_errors (UnitNext u a Intr bytes).stage ≡ true
      errors e = cleared_first (last_of u.stage) u.drive _ (segment_of u.stage) (m.strange (g.errors e))

  own_end : (answer : Answer) → Comes (End answer) → Goal (End answer)
  own_end answer comes =
      settled false false false b.rest s.0 refl (sym (ap (λ z. z && not a.state.completion) s.1)) (b.busy ∙ sym s.1) b.bit
      (queued_after (waits (begun u.drive (head_of (service_after u.service (End answer))))) n (End answer) a.ready (λ e. absurd (true≢false e)))
      (begun_waits u.drive (head_of (service_after u.service (End answer))))
      (λ e. absurd (true≢false (sym (g.errors e) ∙ ends_clear u.stage (allows (End answer) comes)))) s.2
      (λ e. absurd (true≢false (sym e ∙ s.1)))
    where
      b : Before u a n
      b = calm (End answer) comes

      s : (is_under_way (begun u.drive (head_of (service_after u.service (End answer)))) ≡ false) × (is_moving (begun u.drive (head_of (service_after u.service (End answer)))) ≡ false)
          × (is_well_said (begun u.drive (head_of (service_after u.service (End answer)))) ≡ true)
      s = begun_still u.drive (head_of (service_after u.service (End answer)))

  pub own : (deed : Deed) → Comes deed → DriveMay u.drive Target deed → AdapterMay a.state n deed → Goal deed
  own (Search c y) comes may adapter = own_search c y comes may
  own (Seek c) comes may adapter = own_seek c comes may
  own Recal comes may adapter = own_recal comes may
  own (Offset o) comes may adapter = own_offset o comes may
  own Centre comes may adapter = own_centre comes may
  own Clear comes may adapter = own_clear comes may
  own Pack comes may adapter = own_pack comes may
  own (Transfer w b k) comes may adapter = own_transfer w b k comes may
  own Arrive comes may adapter = own_arrive comes may
  own (Sector b v) comes may adapter = own_sector b v comes adapter
  own Intr comes may adapter = own_intr comes adapter
  own (Try b f) comes may adapter = own_try b f comes
  own Attn comes may adapter = own_attn comes may
  own (End answer) comes may adapter = own_end answer comes
