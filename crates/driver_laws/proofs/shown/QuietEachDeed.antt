-- Each deed at a unit keeps what the driver stands for.
use Rattle.std.proofs.Common.{◌≡◌, ◌≢◌, inl, inr, ℕ, Bool, true, false, List, [], ◌∷◌, ◌++◌, All, Option, Some, refl, sym, ap, ◌∙◌, subst, rules}
use Rattle.std.specs.Prelude.{if◌then◌else◌, unwrap_or, slice_index_or}
use Rattle.std.proofs.lemmas.Bool.{cases_eq, eq-eqb, ne_eqb}
use Rattle.pack_geometry.specs.Pack.{Pack, with_written}
use Rattle.pack_geometry.specs.Homes.{content_of}
use Rattle.pack_geometry.specs.PackTable.{IsTableOf}
use Rattle.pack_geometry.proofs.PackTableLaws.{table_room}
use Rattle.hardware_table.specs.Moves.{was_read, was_written}
use Rattle.hardware_table.specs.Noise.{LiveNoise, Book, book_struck}
use Rattle.main_memory.specs.Bytes.{filled}
use Rattle.disksort.specs.declared.Waiter.{Waiter}
use Rattle.trace_replay.specs.declared.requests.answers.AnswerKind.{AnswerKind}
use Rattle.trace_replay.specs.declared.requests.answers.AnswerKind.TheVariants.{ReadOk}
use Rattle.driver_laws.specs.rules.Machine.{Blocks}
use Rattle.driver_laws.specs.rules.Stands.{is_sure_among, IsLive}
use Rattle.driver_laws.proofs.rules.Noises.{struck_live}
use Rattle.driver_machine.specs.declared.Made.{Made}
use Rattle.driver_machine.specs.World.{World, UnitView, AdapterView, Held, no_held, no_transfer, adapter_of, unit_at, adapter_at, held_in, slot_in_hand, transfer_of}
use Rattle.driver_machine.specs.Acts as deed
use Rattle.driver_machine.specs.Acts.{Deed, Scene, Tried, Of, effect, scene_of, with_scene, answer_at, after}
use Rattle.driver_machine.specs.Guards.{IsSetUp, Allowed}
use Rattle.driver_machine.specs.Sound.{Sound, SlotOk}
use Rattle.driver_machine.proofs.Frame.{effect_same, other_slot}
use Rattle.driver_laws.proofs.invariant.Scene.{SceneOk, due_of}
use Rattle.driver_laws.proofs.invariant.Frame.{Changed, scene_ok, adapter_here, unit_here, slot_here, deed_changed}
use Rattle.driver_laws.proofs.invariant.Hand.{in_slot, slot_ok, own, not_made}
use Rattle.driver_laws.specs.answers.Packs.{Reads, packs_after}
use Rattle.driver_laws.specs.shown.Bytes.{map_done, IsSureFor, HandBears, UnitBears, done_by, done_in, last_in, IsStep, StepsFrom, maps_with, maps_behind, AreSteps, Bears}
use Rattle.driver_laws.proofs.shown.Hand.{hand_waits}
use Rattle.driver_laws.proofs.shown.Deeds.{SceneBears, IsPlain, plain_bears}
use Rattle.driver_laws.proofs.shown.Ends.{EndsAt, end_comes}
use Rattle.driver_laws.proofs.shown.QuietSector.{pack_tried}
use Rattle.driver_laws.proofs.shown.Tries.{Given, sector_bears}
use Rattle.driver_laws.proofs.shown.Others.{LeavesMoves, leaves_moves, other_bears}
use Rattle.driver_laws.proofs.shown.Answers.{Stays, StaySlots, steps_stay, steps_more}
use Rattle.driver_laws.proofs.shown.Facts.{set_up}
use Rattle.driver_machine.proofs.Frames.{IsSame}

-- WHAT A DEED LEAVES of its scene: but for an end the queue and the answers, and but for a sector the noise
same_queue : (line u p : ℕ) (d : Deed) (s : Scene) → ((kind : AnswerKind) → d ≢ deed.End kind) → ((effect line u p d s).unit.queue ≡ s.unit.queue) × ((effect line u p d s).answers ≡ s.answers)
same_queue line u p (deed.End kind) s other = absurd (other kind refl)
same_queue line u p d s other = (refl, refl)

book_by : (armed : List LiveNoise) (read : Bool) (u block word : ℕ) (book : Book) → All (IsLive armed) book.live → All (IsLive armed) (if read then book_struck u block word book else book).live
book_by armed true u block word book all = struck_live armed book.live u block word all
book_by armed false u block word book all = all

deed_noise : (armed : List LiveNoise) (line u p : ℕ) (d : Deed) (s : Scene) → All (IsLive armed) s.book.live → All (IsLive armed) (effect line u p d s).book.live
deed_noise armed line u p (deed.Sector block t) s all = book_by armed (was_read s.unit.drive t.verdict) u block s.unit.drive.offset s.book all
deed_noise armed line u p d s all = all

module _ (armed : List LiveNoise) (w : World) (line u id : ℕ) (d : Deed) (held left : ℕ → Pack) (first : ℕ → Blocks) (s : Sound w) (may : Allowed w (Of line u id d))
    (b : Bears armed w held first) (marks : (x : ℕ) → (left x).marks ≡ (held x).marks) (others : (x : ℕ) → x ≢ u → left x ≡ held x) where
  abbrev p : ℕ
  p = slot_in_hand (unit_at w u)

  abbrev old : Scene
  old = scene_of w u

  abbrev e : Scene
  e = effect line u p d old

  abbrev now : World
  now = with_scene w u p e

  pub ok : SceneOk u old
  ok = scene_ok w u id s may.0

  same : IsSame old e
  same = effect_same line u p d old

  changed : Changed w now u
  changed = deed_changed w line u id d s may.0 may.1

  unit_now : unit_at now u ≡ e.unit
  unit_now = unit_here w u p e s may.0.unit

  adapter_now : adapter_at now (adapter_of u) ≡ e.adapter
  adapter_now = adapter_here w u p e s may.0.unit

  pub held_now : held_in now p ≡ e.held
  held_now = ap (λ (o : Option Held). unwrap_or o no_held) (slot_here w u p old.held e (in_slot w s u id may.0))

  pub here : IsSetUp w u
  here = record { unit = may.0.unit; declared = set_up (unit_at w u).declared (unit_at w u).queue (s.each_unit u may.0.unit).undeclared may.0.some }

  declared_before : (x : ℕ) → (unit_at now x).declared ≡ true → (unit_at w x).declared ≡ true
  declared_before x is = elim (cases_eq x u) [
    | inl one ↦ subst (λ k. (unit_at w k).declared ≡ true) (sym one) here.declared
    | inr other ↦ subst (λ (y : UnitView). y.declared ≡ true) (changed.units x other) is
  ]

  kinds : (x : ℕ) → (unit_at now x).drive.kind ≡ (unit_at w x).drive.kind
  kinds x = elim (cases_eq x u) [
    | inl one ↦ subst (λ k. (unit_at now k).drive.kind ≡ (unit_at w k).drive.kind) (sym one) (ap (λ (y : UnitView). y.drive.kind) unit_now ∙ same.kind)
    | inr other ↦ ap (λ (y : UnitView). y.drive.kind) (changed.units x other)
  ]

  tables : (x : ℕ) → (unit_at now x).table ≡ (unit_at w x).table
  tables x = elim (cases_eq x u) [
    | inl one ↦ subst (λ k. (unit_at now k).table ≡ (unit_at w k).table) (sym one) (ap (λ (y : UnitView). y.table) unit_now ∙ same.table)
    | inr other ↦ ap (λ (y : UnitView). y.table) (changed.units x other)
  ]

  pub stays : Stays armed armed w now held left
  stays = record { kinds = kinds; tables = tables; marks = marks; fewer = λ x sector is. is }

  pub wait_stays : StaySlots w now w.answers
  wait_stays made q c is = other_slot w u p q e (not_made w s u id may.0 made q (s.answers made q c is))

  pub mine : UnitBears (is_sure_among armed u) (held u) (b.now u) (unit_at w u) (adapter_at w (adapter_of u)).state (held_in w p)
  mine = b.units u here

  -- the unit with its adapter, as they stand now
  own_now : (maps : ℕ → Blocks) → UnitBears (is_sure_among armed u) (left u) (maps u) e.unit e.adapter.state (held_in now (slot_in_hand e.unit))
      → UnitBears (is_sure_among armed u) (left u) (maps u) (unit_at now u) (adapter_at now (adapter_of u)).state (held_in now (slot_in_hand (unit_at now u)))
  own_now maps is =
      subst (λ (y : UnitView). UnitBears (is_sure_among armed u) (left u) (maps u) y (adapter_at now (adapter_of u)).state (held_in now (slot_in_hand y))) (sym unit_now)
      (subst (λ (y : AdapterView). UnitBears (is_sure_among armed u) (left u) (maps u) e.unit y.state (held_in now (slot_in_hand e.unit))) (sym adapter_now) is)

  other_now : (maps : ℕ → Blocks) (x : ℕ) → IsSetUp w x → x ≢ u → maps x ≡ b.now x
      → UnitBears (is_sure_among armed x) (left x) (maps x) (unit_at now x) (adapter_at now (adapter_of x)).state (held_in now (slot_in_hand (unit_at now x)))
  other_now maps x set other map_is =
      let moves : LeavesMoves u (adapter_at w (adapter_of u)) (adapter_at now (adapter_of u)) =
      subst (LeavesMoves u (adapter_at w (adapter_of u))) (sym adapter_now) (leaves_moves line u p d old may.1) in
      let is : UnitBears (is_sure_among armed x) (held x) (b.now x) (unit_at now x) (adapter_at now (adapter_of x)).state (held_in now (slot_in_hand (unit_at now x))) =
      other_bears (is_sure_among armed x) (held x) (b.now x) w now u x s changed moves set.unit other (b.units x set) in
      subst (λ (k : Pack). UnitBears (is_sure_among armed x) k (maps x) (unit_at now x) (adapter_at now (adapter_of x)).state (held_in now (slot_in_hand (unit_at now x)))) (sym (others x other))
      (subst (λ (k : Blocks). UnitBears (is_sure_among armed x) (held x) k (unit_at now x) (adapter_at now (adapter_of x)).state (held_in now (slot_in_hand (unit_at now x)))) (sym map_is) is)

  pub bears_now : (maps : ℕ → Blocks) → AreSteps armed now left e.answers first maps → ((x : ℕ) → x ≢ u → maps x ≡ b.now x)
      → UnitBears (is_sure_among armed u) (left u) (maps u) e.unit e.adapter.state (held_in now (slot_in_hand e.unit)) → Bears armed now left first
  bears_now maps answers apart own_is = record {
    now = maps;
    answers = answers;
    units = λ x set. elim (cases_eq x u) [
      | inl one ↦ subst (λ k. UnitBears (is_sure_among armed k) (left k) (maps k) (unit_at now k) (adapter_at now (adapter_of k)).state (held_in now (slot_in_hand (unit_at now k)))) (sym one) (own_now maps own_is)
      | inr other ↦ other_now maps x (record { unit = set.unit; declared = declared_before x set.declared }) other (apart x other)
    ];
    noise = deed_noise armed line u p d old b.noise;
  }

  -- A DEED THAT IS NO END keeps the map.
  pub bears_on : ((kind : AnswerKind) → d ≢ deed.End kind) → IsTableOf old.unit.drive.kind (left u) old.unit.table
      → SceneBears (is_sure_among armed u) old.unit.drive.kind (left u) (b.now u) e → Bears armed now left first
  bears_on no_end table hand =
      let queue = same_queue line u p d old no_end in
      let slot : held_in now (slot_in_hand e.unit) ≡ e.held =
      ap (λ (q : List Waiter). held_in now (slice_index_or q 0 (record { number = 0; cylinder = 0 })).number) queue.0 ∙ held_now in
      let kept : IsTableOf old.unit.drive.kind (left u) e.unit.table = subst (λ t. IsTableOf old.unit.drive.kind (left u) t) (sym same.table) table in
      let of_kind : IsTableOf e.unit.drive.kind (left u) e.unit.table
      × HandBears (is_sure_among armed u) e.unit.drive.kind e.unit.table (left u) (b.now u) e.held (transfer_of e.unit) (done_in e.unit.phase (transfer_of e.unit) e.adapter.state) (last_in e.unit.phase e.adapter.state) =
      subst (λ k. IsTableOf k (left u) e.unit.table
      × HandBears (is_sure_among armed u) k e.unit.table (left u) (b.now u) e.held (transfer_of e.unit) (done_in e.unit.phase (transfer_of e.unit) e.adapter.state) (last_in e.unit.phase e.adapter.state)) (sym same.kind)
      (kept, hand) in
      bears_now b.now
      (subst (λ (made : List Made). AreSteps armed now left made first b.now) (sym queue.1) (steps_stay armed armed w now held left w.answers first b.now stays wait_stays b.answers))
      (λ x other. refl)
      (subst (λ (g : Held). UnitBears (is_sure_among armed u) (left u) (b.now u) e.unit e.adapter.state g) (sym slot) (record { table = of_kind.0; hand = of_kind.1 }))

-- A PLAIN DEED
pub plain_kept : (armed : List LiveNoise) (w : World) (line u id : ℕ) (d : Deed) (held : ℕ → Pack) (first : ℕ → Blocks) → Sound w → Allowed w (Of line u id d) → IsPlain d
    → ((kind : AnswerKind) → d ≢ deed.End kind) → Bears armed w held first → Bears armed (after w (Of line u id d)) held first
plain_kept armed w line u id d held first s may plain no_end b =
    let m = mine armed w line u id d held held first s may b (λ x. refl) (λ x other. refl) in
    bears_on armed w line u id d held held first s may b (λ x. refl) (λ x other. refl) no_end m.table
    (plain_bears (is_sure_among armed u) (held u) (b.now u) line u (slot_in_hand (unit_at w u)) d (scene_of w u)
    (ok armed w line u id d held held first s may b (λ x. refl) (λ x other. refl)) may.1 plain (slot_ok w s u id may.0).size m.hand)

-- A SECTOR, with what it leaves of the packs
left_by : (b : Bool) (held : ℕ → Pack) (u block : ℕ) (bytes : List ℕ) → (if b then with_written held u block (filled 512 bytes) else held) u ≡ pack_tried b (held u) block bytes
left_by true held u block bytes = rw (eq-eqb u u refl) refl
left_by false held u block bytes = refl

pub other_by : (b : Bool) (held : ℕ → Pack) (u block : ℕ) (bytes : List ℕ) (x : ℕ) → x ≢ u → (if b then with_written held u block bytes else held) x ≡ held x
other_by true held u block bytes x other = rw (ne_eqb x u other) refl
other_by false held u block bytes x other = refl

pub marks_by : (b : Bool) (held : ℕ → Pack) (u block : ℕ) (bytes : List ℕ) (x : ℕ) → ((if b then with_written held u block bytes else held) x).marks ≡ (held x).marks
marks_by b held u block bytes x = search rules

sector_no_end : (block : ℕ) (t : Tried) (kind : AnswerKind) → deed.Sector block t ≢ deed.End kind
sector_no_end block t kind e = cc

pub sector_kept : (armed : List LiveNoise) (w : World) (line u id block : ℕ) (t : Tried) (held : ℕ → Pack) (first : ℕ → Blocks) → Sound w → Allowed w (Of line u id (deed.Sector block t))
    → Reads w held (Of line u id (deed.Sector block t)) → Bears armed w held first
    → Bears armed (after w (Of line u id (deed.Sector block t))) (packs_after w held (Of line u id (deed.Sector block t))) first
sector_kept armed w line u id block t held first s may reads b =
    let written_is : Bool = was_written (unit_at w u).drive t.verdict in
    let left : ℕ → Pack = packs_after w held (Of line u id (deed.Sector block t)) in
    let marks : (x : ℕ) → (left x).marks ≡ (held x).marks = λ x. marks_by written_is held u block (filled 512 t.bytes) x in
    let others : (x : ℕ) → x ≢ u → left x ≡ held x = λ x other. other_by written_is held u block (filled 512 t.bytes) x other in
    let m = mine armed w line u id (deed.Sector block t) held left first s may b marks others in
    let slot : SlotOk w (slot_in_hand (unit_at w u)) (held_in w (slot_in_hand (unit_at w u))) = slot_ok w s u id may.0 in
    let given : Given armed (held u) u block t (scene_of w u) = record {
      mark = reads.mark;
      bytes = reads.bytes;
      noise = b.noise;
      size = slot.size;
      whole = slot.whole;
      room = table_room (unit_at w u).drive.kind (held u) (unit_at w u).table m.table;
    } in
    let tried = sector_bears armed (held u) (b.now u) line u (slot_in_hand (unit_at w u)) block t (scene_of w u)
    (ok armed w line u id (deed.Sector block t) held left first s may b marks others) may.1 given m.table m.hand in
    let here_is : left u ≡ pack_tried written_is (held u) block t.bytes = left_by written_is held u block t.bytes in
    bears_on armed w line u id (deed.Sector block t) held left first s may b marks others (sector_no_end block t)
    (subst (λ k. IsTableOf (unit_at w u).drive.kind k (unit_at w u).table) (sym here_is) tried.0)
    (subst (λ k. SceneBears (is_sure_among armed u) (unit_at w u).drive.kind k (b.now u) (effect line u (slot_in_hand (unit_at w u)) (deed.Sector block t) (scene_of w u))) (sym here_is) tried.1)

-- AN END: its request has ended
ended_step : (sure : Type 0) (blocks : Blocks) (h : Held) (kind : AnswerKind) → IsStep sure blocks h kind → IsStep sure blocks (record h { ended = true }) kind
ended_step sure blocks h kind is = search rules

ended_done : (kind : AnswerKind) (h : Held) → done_by kind (record h { ended = true }) ≡ done_by kind h
ended_done (ReadOk count last) h = refl
ended_done other h = refl

with_here : (maps : ℕ → Blocks) (h : Held) (done u : ℕ) → h.unit ≡ u → maps_with maps h done u ≡ map_done (maps u) h done
with_here maps h done u is = rw (eq-eqb u h.unit (sym is)) refl

with_other : (maps : ℕ → Blocks) (h : Held) (done u x : ℕ) → h.unit ≡ u → x ≢ u → maps_with maps h done x ≡ maps x
with_other maps h done u x is other = rw (ne_eqb x h.unit (λ e. other (e ∙ is))) refl

pub end_kept : (armed : List LiveNoise) (w : World) (line u id : ℕ) (kind : AnswerKind) (held : ℕ → Pack) (first : ℕ → Blocks) → Sound w → Allowed w (Of line u id (deed.End kind))
    → Bears armed w held first → Bears armed (after w (Of line u id (deed.End kind))) held first
end_kept armed w line u id kind held first s may b =
    let d : Deed = deed.End kind in
    let p : ℕ = slot_in_hand (unit_at w u) in
    let h : Held = held_in w p in
    let now : World = after w (Of line u id d) in
    let e : Scene = effect line u p d (scene_of w u) in
    let scene : SceneOk u (scene_of w u) = ok armed w line u id d held held first s may b (λ x. refl) (λ x other. refl) in
    let m = mine armed w line u id d held held first s may b (λ x. refl) (λ x other. refl) in
    let unit : h.unit ≡ u = own w s u id may.0 in
    let there : held_in now p ≡ record h { ended = true } = held_now armed w line u id d held held first s may b (λ x. refl) (λ x other. refl) in
    let at : EndsAt (IsSureFor (is_sure_among armed u) (unit_at w u).drive.kind (unit_at w u).table (held u) h) (b.now u) h kind
    (done_in (unit_at w u).phase (transfer_of (unit_at w u)) (adapter_at w (adapter_of u)).state) =
    end_comes (is_sure_among armed u) (held u) (b.now u) u (scene_of w u) scene m.hand kind (due_of u d (scene_of w u) may.1) in
    let maps : ℕ → Blocks = maps_behind now b.now (Some p) kind in
    let maps_are : maps ≡ maps_with b.now h (done_by kind h) =
    ap (λ (g : Held). maps_with b.now g (done_by kind g)) there ∙ ap (λ n. maps_with b.now (record h { ended = true }) n) (ended_done kind h) in
    let step : StepsFrom armed now held b.now (Some p) kind =
    subst (λ (g : Held). IsStep (IsSureFor (is_sure_among armed g.unit) (unit_at now g.unit).drive.kind (unit_at now g.unit).table (held g.unit) g) (b.now g.unit) g kind) (sym there)
    (step_at armed w now held b.now u h kind unit (stays armed w line u id d held held first s may b (λ x. refl) (λ x other. refl)) at.step) in
    let answers : AreSteps armed now held (w.answers ++ answer_at line (Some p) h.id kind ∷ []) first maps =
    steps_more armed now held w.answers (answer_at line (Some p) h.id kind) first b.now
    (steps_stay armed armed w now held held w.answers first b.now (stays armed w line u id d held held first s may b (λ x. refl) (λ x other. refl))
    (wait_stays armed w line u id d held held first s may b (λ x. refl) (λ x other. refl)) b.answers) step in
    let holds : (c : ℕ) → content_of (unit_at w u).drive.kind (unit_at w u).table (held u) c ≡ maps u c =
    λ c. m.hand.homes c ∙ ap (λ n. map_done (b.now u) h n c) (sym at.done_is)
    ∙ ap (λ (f : Blocks). f c) (sym (ap (λ (f : ℕ → Blocks). f u) maps_are ∙ with_here b.now h (done_by kind h) u unit)) in
    bears_now armed w line u id d held held first s may b (λ x. refl) (λ x other. refl) maps answers
    (λ x other. ap (λ (f : ℕ → Blocks). f x) maps_are ∙ with_other b.now h (done_by kind h) u x unit other)
    (record {
      table = m.table;
      hand = hand_waits (is_sure_among armed u) (unit_at w u).drive.kind (unit_at w u).table (held u) (maps u) (held_in now (slot_in_hand e.unit)) no_transfer refl holds;
    })
  where
    step_at : (armed : List LiveNoise) (w now : World) (held : ℕ → Pack) (maps : ℕ → Blocks) (u : ℕ) (h : Held) (kind : AnswerKind) → h.unit ≡ u → Stays armed armed w now held held
        → IsStep (IsSureFor (is_sure_among armed u) (unit_at w u).drive.kind (unit_at w u).table (held u) h) (maps u) h kind
        → IsStep (IsSureFor (is_sure_among armed h.unit) (unit_at now h.unit).drive.kind (unit_at now h.unit).table (held h.unit) (record h { ended = true })) (maps h.unit) (record h { ended = true }) kind
    step_at armed w now held maps u h kind unit st is =
        let mine_is : IsStep (IsSureFor (is_sure_among armed h.unit) (unit_at w h.unit).drive.kind (unit_at w h.unit).table (held h.unit) h) (maps h.unit) h kind =
        subst (λ x. IsStep (IsSureFor (is_sure_among armed x) (unit_at w x).drive.kind (unit_at w x).table (held x) h) (maps x) h kind) (sym unit) is in
        let kind_now : IsStep (IsSureFor (is_sure_among armed h.unit) (unit_at now h.unit).drive.kind (unit_at w h.unit).table (held h.unit) h) (maps h.unit) h kind =
        subst (λ k. IsStep (IsSureFor (is_sure_among armed h.unit) k (unit_at w h.unit).table (held h.unit) h) (maps h.unit) h kind) (sym (st.kinds h.unit)) mine_is in
        let table_now : IsStep (IsSureFor (is_sure_among armed h.unit) (unit_at now h.unit).drive.kind (unit_at now h.unit).table (held h.unit) h) (maps h.unit) h kind =
        subst (λ k. IsStep (IsSureFor (is_sure_among armed h.unit) (unit_at now h.unit).drive.kind k (held h.unit) h) (maps h.unit) h kind) (sym (st.tables h.unit)) kind_now in
        ended_step _ (maps h.unit) h kind table_now

-- EACH DEED
pub deed_kept : (armed : List LiveNoise) (w : World) (line u id : ℕ) (d : Deed) (held : ℕ → Pack) (first : ℕ → Blocks) → Sound w → Allowed w (Of line u id d) → Reads w held (Of line u id d)
    → Bears armed w held first → Bears armed (after w (Of line u id d)) (packs_after w held (Of line u id d)) first
deed_kept armed w line u id (deed.Sector block t) held first s may reads b = sector_kept armed w line u id block t held first s may reads b
deed_kept armed w line u id (deed.End kind) held first s may reads b = end_kept armed w line u id kind held first s may b
deed_kept armed w line u id other held first s may reads b = plain_kept armed w line u id other held first s may tt (λ kind e. cc) b
