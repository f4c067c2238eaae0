-- What the packs hold where a request stopped.
use Rattle.std.proofs.Common.{◌≡◌, ◌≢◌, ◌⊎◌, inl, inr, ℕ, zero, suc, ◌<◌, ◌≤◌, ◌+◌, ◌==◌, Bool, true, false, List, [], ◌∷◌, ◌++◌, Option, None, Some, refl, sym, ap, ◌∙◌, subst, arith}
use Rattle.std.specs.Prelude.{is_some, IsSome, unwrap_or}
use Rattle.std.proofs.lemmas.Option.{none-some, same_Some}
use Rattle.std.proofs.lemmas.Bool.{eq-eqb, ne_eqb}
use Rattle.std.proofs.lemmas.Bool.Decides.{eqb_tells}
use Rattle.pack_geometry.specs.declared.DriveKind.{DriveKind}
use Rattle.pack_geometry.specs.declared.DriveKind.TheVariants.{Rp06}
use Rattle.pack_geometry.specs.Geometry.{limit_of}
use Rattle.pack_geometry.specs.Pack as model
use Rattle.pack_geometry.specs.Content.{bytes_at}
use Rattle.pack_geometry.specs.Homes.{home_of, content_at}
use Rattle.pack_geometry.proofs.HomeLaws.{home_below}
use Rattle.trace_replay.specs.requests.ServiceOrder.{Waiting as Waiter}
use Rattle.trace_replay.specs.requests.Requests.{Request, IsRequest, first_block, Answer, ReadOk, WriteOk, OutsidePartition, EndOfPartition, NoFrames, Failed}
use Rattle.trace_replay.specs.Script.{Submit, Drain, IsThere}
use Rattle.trace_replay.specs.Moments.{Moment, Played, Answered}
use Rattle.trace_replay.specs.Packs.{Surface}
use Rattle.trace_replay.specs.Service.{in_hand, first_waiting, request_or_none}
use Rattle.trace_replay.specs.Conversation.{Progress, is_waiting}
use Rattle.trace_replay.specs.Replay.{Replay, UnitSeen, hand_of, Submission, Refused, Joined, AreLeft, after_moment}
use Rattle.trace_replay.proofs.Histories.{Fits, Open, CleanFits}
use Rattle.trace_replay.proofs.Kept.{IsHeld}
use Rattle.driver_laws.specs.rules.Consistent.{IsConsistent}
use Rattle.driver_laws.proofs.rules.Consistency.{moments_consistent}
use Rattle.blocking_io.specs.Passes.{IsNextSector, with_next, kind_if, setup_of, rested, StandsQuiet}
use Rattle.driver_laws.specs.rules.Machine.{Blocks, Machine, idle, request_of, without, kind_of, meets, AreUsable, MayAnswer, blocks_after, blocks_done, done_in, after_answer, Steps, submitted as machine_submitted}
use Rattle.driver_laws.specs.rules.Stands.{Setup, home_at, home_in, held_at, HandStands, IsOutstanding, QueueStands, StandsFor, is_sure_among}
use Rattle.driver_laws.proofs.rules.Blocks.{begun_blocks, read_blocks}
use Rattle.driver_laws.proofs.rules.Beginnings.{steps_join}
use Rattle.driver_laws.proofs.rules.Hands.{written_more}
use Rattle.driver_laws.proofs.rules.Homes.{home_is, homes_differ, tried_home}
use Rattle.driver_laws.proofs.rules.MachineUnits.{Keeps}
use Rattle.driver_laws.proofs.rules.MachineRuns.{home_marks, left_at, room_at, below_count}
use Rattle.driver_machine.specs.World.{World, unit_at}
use Rattle.driver_machine.specs.Guards.{IsSetUp}
use Rattle.driver_laws.specs.declared.answers.outcome.Stop.{Stop}
use Rattle.driver_laws.specs.declared.answers.outcome.Stop.TheVariants.{Store, Sink}
use Rattle.driver_laws.specs.rules.Sessions.{Part, IsPart, IsSession, behind, behind_all}
use Rattle.driver_laws.specs.rules.Rest.{HasTables}
use Rattle.driver_laws.specs.rules.Waited.{map_of, first_in, with_packs, IsAskable}
use Rattle.driver_laws.proofs.rules.Parts.{PartStep, part_step}
use Rattle.driver_laws.proofs.rules.Cleans.{done_moves_clean}
use Rattle.driver_laws.proofs.rules.Restful.{rest_keeps, rest_stands}
use Rattle.blocking_io.proofs.Passes.{played_consistent, quiet_rests, done_few}
use Rattle.blocking_io.specs.Asking.{setup_at, Follows}
use Rattle.blocking_io.specs.Stopping.{LeftAt, IsCut, begun}
use Rattle.blocking_io.specs.Fronts.{OthersStay, HoldsFront, StoppedHoldsFront, AnsweredMovesClean}
use Rattle.driver_laws.proofs.rules.MomentSteps.{sure_claims}

-- ---- WHERE THE MACHINE IS behind a submission and some answers: the request was refused, is outstanding, or was answered
record IsSame (setup : Setup) (m : Machine) : Type 0 where
  none : m.outstanding ≡ []
  blocks : m.blocks ≡ map_of setup

record IsOut (setup : Setup) (r : Request) (m : Machine) : Type 0 where
  listed : m.outstanding ≡ r ∷ []
  blocks : m.blocks ≡ map_of setup

record IsBehind (setup : Setup) (r : Request) (m : Machine) : Type 0 where
  none : m.outstanding ≡ []
  answer : Answer
  line : ℕ
  may : MayAnswer (sure_claims setup [] line r) (map_of setup r.unit) (first_in setup r) r answer
  blocks : m.blocks ≡ blocks_after (map_of setup) (first_in setup r) r answer

abbrev IsWhere : Setup → Request → Machine → Type 0
IsWhere setup r m = IsSame setup m ⊎ (IsOut setup r m ⊎ IsBehind setup r m)

found_one : (id : ℕ) (r q : Request) → request_of id (r ∷ []) ≡ Some q → r ≡ q
found_one id r q is = elim (eqb_tells r.id id) [
  | inl same ↦ same_Some r q (rw same.0 at is)
  | inr other ↦ absurd (none-some q (rw other.0 at is))
]

left_none : (r : Request) → without r.id (r ∷ []) ≡ []
left_none r = rw (eq-eqb r.id r.id refl) refl

no_more : (setup : Setup) (line : ℕ) (m : Machine) (answers : List Answered) (new : Machine) → m.outstanding ≡ []
    → Steps setup.drives (sure_claims setup []) line m answers new → new ≡ m
no_more setup line m [] new none steps = steps
no_more setup line m (a ∷ answers) new none steps = absurd (none-some steps.2.request (ap (request_of a.id) (sym none) ∙ steps.2.found))

answered_alone : (setup : Setup) (line : ℕ) (r q : Request) (a : Answered) (rest : List Answered) (mid new : Machine) → r ≡ q
    → MayAnswer (sure_claims setup [] a.line q) (map_of setup q.unit) (first_block (kind_of setup.drives q.unit) q) q a.answer
    → mid ≡ after_answer (record { blocks = map_of setup; outstanding = r ∷ [] }) (first_block (kind_of setup.drives q.unit) q) q a.answer
    → Steps setup.drives (sure_claims setup []) line mid rest new → IsBehind setup r new
answered_alone setup line r q a rest mid new same may is steps =
    let none : mid.outstanding ≡ [] = ap (λ (z : Machine). z.outstanding) is ∙ ap (λ (z : Request). without z.id (r ∷ [])) (sym same) ∙ left_none r in
    let now : new ≡ mid = no_more setup line mid rest new none steps in
    record {
      none = ap (λ (z : Machine). z.outstanding) now ∙ none;
      answer = a.answer;
      line = a.line;
      may = subst (λ (z : Request). MayAnswer (sure_claims setup [] a.line z) (map_of setup z.unit) (first_block (kind_of setup.drives z.unit) z) z a.answer) (sym same) may;
      blocks = ap (λ (z : Machine). z.blocks) (now ∙ is) ∙ ap (λ (z : Request). blocks_after (map_of setup) (first_block (kind_of setup.drives z.unit) z) z a.answer) (sym same);
    }

where_is : (setup : Setup) (line : ℕ) (r : Request) (joins : Submission) (answers : List Answered) (new : Machine)
    → Steps setup.drives (sure_claims setup []) line (machine_submitted (idle (map_of setup)) r joins) answers new → IsWhere setup r new
where_is setup line r (Refused why) answers new steps =
    let now : new ≡ idle (map_of setup) = no_more setup line (idle (map_of setup)) answers new refl steps in
    inl (record { none = ap (λ (z : Machine). z.outstanding) now; blocks = ap (λ (z : Machine). z.blocks) now })
where_is setup line r Joined [] new steps =
    inr (inl (record { listed = ap (λ (z : Machine). z.outstanding) steps; blocks = ap (λ (z : Machine). z.blocks) steps }))
where_is setup line r Joined (a ∷ rest) new steps =
    inr (inr (answered_alone setup line r steps.2.request a rest steps.1 new (found_one a.id r steps.2.request steps.2.found) steps.2.may steps.2.is steps.3))

-- what is done of an answer
may_few : (claimed : Type 0) (blocks : Blocks) (first : ℕ) (r : Request) (answer : Answer) → MayAnswer claimed blocks first r answer → done_in answer r ≤ r.count
may_few claimed blocks first r (ReadOk bytes) may = omega arith
may_few claimed blocks first r WriteOk may = omega arith
may_few claimed blocks first r (Failed cause done) may = less done r.count may.0
  where
    less : (a b : ℕ) → a < b → a ≤ b
    less a b lt = omega (arith, lt)
may_few claimed blocks first r OutsidePartition may = absurd may
may_few claimed blocks first r EndOfPartition may = absurd may
may_few claimed blocks first r NoFrames may = absurd may

may_usable : (claimed : Type 0) (blocks : Blocks) (first : ℕ) (r : Request) (answer : Answer) → MayAnswer claimed blocks first r answer → AreUsable blocks first (done_in answer r)
may_usable claimed blocks first r OutsidePartition may = absurd may
may_usable claimed blocks first r EndOfPartition may = absurd may
may_usable claimed blocks first r NoFrames may = absurd may
may_usable claimed blocks first r other may = may.1

-- ---- THE STATE that was reached
module _ (setup : Setup) (r : Request) (are : HasTables setup) (s : Replay) (m : Machine) (k : Keeps setup s) (stands : StandsFor setup [] s m) (agree : IsConsistent s) (is : IsWhere setup r m) where
  -- a surface: that of the replay, or with the next block of a write
  record OnSurface (surface : Surface) : Type 0 where
    progress : ℕ → Progress
    hand : (unit : ℕ) → HandStands (is_sure_among [] unit) (home_in setup unit) (first_block (s.units unit).drive.kind (in_hand (s.units unit).service)) (in_hand (s.units unit).service)
        (progress unit) (surface.sector unit) (m.blocks unit)
    few : (unit : ℕ) → IsHeld (s.units unit).service.waiting → (progress unit).done ≤ (in_hand (s.units unit).service).count
    others : (unit sector : ℕ) → ((block : ℕ) → home_in setup unit block ≡ Some sector → ⊥) → surface.sector unit sector ≡ model.block_at (setup.packs unit).image sector

  busy_unit : (u : UnitSeen) (lines : _) → Rattle.trace_replay.proofs.Kept.UnitFits u lines → IsHeld u.service.waiting → is_waiting u.stage ≡ false
  busy_unit u lines f held = by (is_waiting u.stage) refl
    where
      never : (ws : List (Waiter Request)) → ws ≡ [] → IsHeld ws → ⊥
      never [] none h = h
      never (w ∷ ws) none h = absurd (cons w ws none)
        where
          cons : (x : Waiter Request) (xs : List (Waiter Request)) → x ∷ xs ≡ [] → ⊥
          cons x xs e = cc

      by : (b : Bool) → is_waiting u.stage ≡ b → is_waiting u.stage ≡ false
      by true waits = absurd (never u.service.waiting (f.empty waits) held)
      by false busy = busy

  own_few : (unit : ℕ) → IsHeld (s.units unit).service.waiting → (s.units unit).progress.done ≤ (in_hand (s.units unit).service).count
  own_few unit held = done_few (hand_of (s.units unit)) (s.units unit).stage (k.lines unit) (agree.units unit).said (busy_unit (s.units unit) (k.lines unit) (k.fits unit) held) (k.fits unit).fits

  own_surface : OnSurface s.surface
  own_surface = record {
    progress = λ unit. (s.units unit).progress;
    hand = λ unit. (stands.units unit).hand;
    few = own_few;
    others = stands.others;
  }

  -- ---- what the packs hold
  module _ (left : ℕ → model.Pack) (surface : Surface) (on : OnSurface surface) (are_left : AreLeft setup.drives setup.packs left surface) where
    held_content : (u block : ℕ) (drive : Option DriveKind) → setup.drives u ≡ drive
        → content_at drive (setup.tables u) (left u) block ≡ held_at (surface.sector u) (home_at drive (setup.tables u) (setup.packs u) block)
    held_content u block None declared = refl
    held_content u block (Some kind) declared =
        ap (bytes_at (left u)) (home_marks kind (setup.tables u) (left u) (setup.packs u) block (are_left.marks u))
        ∙ left_at kind (left u) (surface.sector u) (home_of kind (setup.tables u) (setup.packs u) block)
        (λ x home. are_left.sectors u kind x declared (below_count kind x (home_below kind (setup.tables u) (setup.packs u) block x 0 (room_at (setup.drives u) (setup.packs u) (setup.tables u) kind (are u) declared) home)))

    in_progress : (u block : ℕ) → map_of (with_packs setup left) u block
        ≡ blocks_done (m.blocks u) (first_block (s.units u).drive.kind (in_hand (s.units u).service)) (in_hand (s.units u).service) (on.progress u).done block
    in_progress u block = held_content u block (setup.drives u) refl ∙ (on.hand u).contents block

    -- a unit of which nothing is outstanding
    at_rest : (u block : ℕ) → (s.units u).service.waiting ≡ [] → map_of (with_packs setup left) u block ≡ m.blocks u block
    at_rest u block none = in_progress u block
        ∙ read_blocks (m.blocks u) (first_block (s.units u).drive.kind (in_hand (s.units u).service)) (in_hand (s.units u).service) (on.progress u).done block
        (ap (λ ws. is_some (request_or_none (first_waiting ws)).written) none)

    none_waits : (ws : List (Waiter Request)) (u : ℕ) → m.outstanding ≡ [] → QueueStands setup.drives u m.outstanding ws → ws ≡ []
    none_waits [] u none q = refl
    none_waits (w ∷ ws) u none q = absurd (none-some w.request (ap (request_of w.request.id) (sym none) ∙ q.each.0.listed))

    others_stay : OthersStay setup left
    others_stay = record {
      sectors = λ unit sector kind declared below homeless. are_left.sectors unit kind sector declared below ∙ on.others unit sector homeless;
      stay = record { beyond = are_left.beyond; marks = are_left.marks; others = are_left.others };
    }

    same_front : IsSame setup m → HoldsFront setup r left
    same_front same = record {
      done = 0;
      few = omega arith;
      usable = λ j lt. absurd (omega (arith, lt));
      map = λ block. at_rest r.unit block (none_waits (s.units r.unit).service.waiting r.unit same.none (stands.queues r.unit)) ∙ ap (λ f. f r.unit block) same.blocks
          ∙ sym (begun_blocks (map_of setup r.unit) (first_in setup r) r block);
      units = λ u block ne. at_rest u block (none_waits (s.units u).service.waiting u same.none (stands.queues u)) ∙ ap (λ f. f u block) same.blocks;
      others = others_stay;
    }

    behind_front : IsBehind setup r m → HoldsFront setup r left
    behind_front it = record {
      done = done_in it.answer r;
      few = may_few (sure_claims setup [] it.line r) (map_of setup r.unit) (first_in setup r) r it.answer it.may;
      usable = may_usable (sure_claims setup [] it.line r) (map_of setup r.unit) (first_in setup r) r it.answer it.may;
      map = λ block. at_rest r.unit block (none_waits (s.units r.unit).service.waiting r.unit it.none (stands.queues r.unit)) ∙ ap (λ f. f r.unit block) it.blocks ∙ own block;
      units = λ u block ne. at_rest u block (none_waits (s.units u).service.waiting u it.none (stands.queues u)) ∙ ap (λ f. f u block) it.blocks ∙ other u block ne;
      others = others_stay;
    }
      where
        own : (block : ℕ) → blocks_after (map_of setup) (first_in setup r) r it.answer r.unit block ≡ blocks_done (map_of setup r.unit) (first_in setup r) r (done_in it.answer r) block
        own block = rw (eq-eqb r.unit r.unit refl) refl

        other : (u block : ℕ) → u ≢ r.unit → blocks_after (map_of setup) (first_in setup r) r it.answer u block ≡ map_of setup u block
        other u block ne = rw (ne_eqb u r.unit ne) refl

    -- it is outstanding: in hand at its unit, and at no other
    out_listed : (u : ℕ) (w : Waiter Request) → m.outstanding ≡ r ∷ [] → IsOutstanding setup.drives u m.outstanding w.request → (r ≡ w.request) × (r.unit ≡ u)
    out_listed u w listed q =
        let same : r ≡ w.request = found_one w.request.id r w.request (ap (request_of w.request.id) (sym listed) ∙ q.listed) in
        (same, ap (λ (z : Request). z.unit) same ∙ q.unit_is)

    elsewhere : (ws : List (Waiter Request)) (u : ℕ) → u ≢ r.unit → m.outstanding ≡ r ∷ [] → QueueStands setup.drives u m.outstanding ws → ws ≡ []
    elsewhere [] u ne listed q = refl
    elsewhere (w ∷ ws) u ne listed q = absurd (ne (sym (out_listed u w listed q.each.0).1))

    hand_front : (ws : List (Waiter Request)) → (s.units r.unit).service.waiting ≡ ws → QueueStands setup.drives r.unit m.outstanding ws → IsOut setup r m → HoldsFront setup r left
    hand_front [] queue q out = record {
      done = 0;
      few = omega arith;
      usable = λ j lt. absurd (omega (arith, lt));
      map = λ block. at_rest r.unit block queue ∙ ap (λ f. f r.unit block) out.blocks ∙ sym (begun_blocks (map_of setup r.unit) (first_in setup r) r block);
      units = λ u block ne. at_rest u block (elsewhere (s.units u).service.waiting u ne out.listed (stands.queues u)) ∙ ap (λ f. f u block) out.blocks;
      others = others_stay;
    }
    hand_front (w ∷ ws) queue q out = record {
      done = (on.progress r.unit).done;
      few = subst (λ (z : Request). (on.progress r.unit).done ≤ z.count) hand_is (on.few r.unit (subst IsHeld (sym queue) tt));
      usable = λ j lt. subst (λ f. IsSome (f (first_in setup r + j))) (ap (λ g. g r.unit) out.blocks)
          (subst (λ n. IsSome (m.blocks r.unit (n + j))) first_is ((on.hand r.unit).usable j lt));
      map = λ block. in_progress r.unit block
          ∙ ap (λ n. blocks_done (m.blocks r.unit) n (in_hand (s.units r.unit).service) (on.progress r.unit).done block) first_is
          ∙ ap (λ z. blocks_done (m.blocks r.unit) (first_in setup r) z (on.progress r.unit).done block) hand_is
          ∙ ap (λ (f : ℕ → Blocks). blocks_done (f r.unit) (first_in setup r) r (on.progress r.unit).done block) out.blocks;
      units = λ u block ne. at_rest u block (elsewhere (s.units u).service.waiting u ne out.listed (stands.queues u)) ∙ ap (λ f. f u block) out.blocks;
      others = others_stay;
    }
      where
        hand_is : in_hand (s.units r.unit).service ≡ r
        hand_is = ap (λ zs. request_or_none (first_waiting zs)) queue ∙ sym (out_listed r.unit w out.listed q.each.0).0

        first_is : first_block (s.units r.unit).drive.kind (in_hand (s.units r.unit).service) ≡ first_in setup r
        first_is = ap (λ z. first_block (s.units r.unit).drive.kind z) hand_is ∙ ap (λ z. first_block z r) (k.kinds r.unit)

    front : HoldsFront setup r left
    front = by is
      where
        by : IsWhere setup r m → HoldsFront setup r left
        by (inl same) = same_front same
        by (inr (inl out)) = hand_front (s.units r.unit).service.waiting refl (stands.queues r.unit) out
        by (inr (inr it)) = behind_front it

  -- ---- the next block of a write
  module _ (unit block : ℕ) (kind : DriveKind) (declared : setup.drives unit ≡ Some kind) (next : IsNextSector (s.units unit) (setup.packs unit) block) where
    abbrev Here : UnitSeen
    Here = s.units unit

    is_open : Open (hand_of Here) next.segment next.left (k.lines unit)
    is_open = at next.left next.some (subst (λ z. Fits (hand_of Here) z (k.lines unit)) next.stage (k.fits unit).fits)
      where
        at : (left : ℕ) → 1 ≤ left → CleanFits (hand_of Here) next.segment left (k.lines unit) → Open (hand_of Here) next.segment left (k.lines unit)
        at zero some f = absurd (omega (arith, some))
        at (suc n) some f = f

    own_kind : Here.drive.kind ≡ kind
    own_kind = k.kinds unit ∙ ap (λ z. unwrap_or z Rp06) declared

    is_held : IsHeld Here.service.waiting
    is_held = (k.fits unit).held (ap is_waiting next.stage)

    inside : first_block Here.drive.kind (in_hand Here.service) + (in_hand Here.service).count ≤ limit_of Here.drive.kind
    inside = first Here.service.waiting is_held (stands.queues unit)
      where
        there : (drive : Option DriveKind) (q : Request) → drive ≡ Some kind → IsThere drive (λ z. first_block z q + q.count ≤ limit_of z) → first_block kind q + q.count ≤ limit_of kind
        there drive q is given = subst (λ z. IsThere z (λ x. first_block x q + q.count ≤ limit_of x)) is given

        first : (waiting : List (Waiter Request)) → IsHeld waiting → QueueStands setup.drives unit m.outstanding waiting
            → first_block Here.drive.kind (request_or_none (first_waiting waiting)) + (request_or_none (first_waiting waiting)).count ≤ limit_of Here.drive.kind
        first [] held q = absurd held
        first (w ∷ rest) held q = subst (λ z. first_block z w.request + w.request.count ≤ limit_of z) (sym own_kind) (there (setup.drives unit) w.request declared q.each.0.inside)

    home : home_in setup unit (first_block Here.drive.kind (in_hand Here.service) + Here.progress.done) ≡ Some block
    home = home_is setup unit kind (setup.tables unit) (first_block Here.drive.kind (in_hand Here.service) + Here.progress.done) declared refl
        ∙ ap (λ z. home_of z (setup.tables unit) (setup.packs unit) (first_block Here.drive.kind (in_hand Here.service) + Here.progress.done)) (sym own_kind)
        ∙ ap (λ z. home_of Here.drive.kind z (setup.packs unit) (first_block Here.drive.kind (in_hand Here.service) + Here.progress.done)) (sym (k.tables unit))
        ∙ tried_home (hand_of Here) next.segment next.left (setup.packs unit) (k.lines unit) is_open next.some inside (λ b. k.marked unit b) (subst (λ z. model.is_marked (setup.packs unit) z ≡ false) next.is next.unmarked)
        ∙ ap Some (sym next.is)

    abbrev More : Progress
    More = record Here.progress { done = Here.progress.done + 1 }

    own_hand : HandStands (is_sure_among [] unit) (home_in setup unit) (first_block Here.drive.kind (in_hand Here.service)) (in_hand Here.service) More
        ((with_next s unit block).sector unit) (m.blocks unit)
    own_hand = written_more (is_sure_among [] unit) (home_in setup unit) (first_block Here.drive.kind (in_hand Here.service)) (in_hand Here.service) Here.progress More
        (s.surface.sector unit) ((with_next s unit block).sector unit) (m.blocks unit) block (λ b c x one two. homes_differ setup are unit b c x one two) refl next.writes home
        (rw (eq-eqb unit unit refl, eq-eqb block block refl) refl) (λ b ne. rw (eq-eqb unit unit refl, ne_eqb b block ne) refl) (stands.units unit).hand

    progress_at : (x : ℕ) → Bool → Progress
    progress_at x true = More
    progress_at x false = (s.units x).progress

    next_surface : OnSurface (with_next s unit block)
    unfolding progress_at
    next_surface = record {
      progress = λ x. progress_at x (x == unit);
      hand = λ x. elim (eqb_tells x unit) [
        | inl same ↦ rw same.0 (subst (λ z. HandStands (is_sure_among [] z) (home_in setup z) (first_block (s.units z).drive.kind (in_hand (s.units z).service)) (in_hand (s.units z).service)
            More ((with_next s unit block).sector z) (m.blocks z)) (sym same.1) own_hand)
        | inr other ↦ rw other.0 (subst (λ f. HandStands (is_sure_among [] x) (home_in setup x) (first_block (s.units x).drive.kind (in_hand (s.units x).service)) (in_hand (s.units x).service)
            (s.units x).progress f (m.blocks x)) (λ i. λ b. sym (elsewhere_next x b other.1) i) (stands.units x).hand)
      ];
      few = λ x held. elim (eqb_tells x unit) [
        | inl same ↦ rw same.0 (subst (λ z. Here.progress.done + 1 ≤ (in_hand (s.units z).service).count) (sym same.1) (one_more Here.progress.done next.left (in_hand Here.service).count is_open.room next.some))
        | inr other ↦ rw other.0 (own_few x held)
      ];
      others = λ x sector none. untouched x sector none ∙ stands.others x sector none;
    }
      where
        one_more : (a b c : ℕ) → a + b ≤ c → 1 ≤ b → a + 1 ≤ c
        one_more a b c e f = omega (arith, e, f)

        elsewhere_next : (x b : ℕ) → x ≢ unit → (with_next s unit block).sector x b ≡ s.surface.sector x b
        elsewhere_next x b ne = rw (ne_eqb x unit ne) refl

        untouched : (x sector : ℕ) → ((b : ℕ) → home_in setup x b ≡ Some sector → ⊥) → (with_next s unit block).sector x sector ≡ s.surface.sector x sector
        untouched x sector none = elim (eqb_tells x unit) [
          | inl same ↦ elim (eqb_tells sector block) [
            | inl here ↦ absurd (none (first_block Here.drive.kind (in_hand Here.service) + Here.progress.done) (ap (λ z. home_in setup z (first_block Here.drive.kind (in_hand Here.service) + Here.progress.done)) same.1 ∙ home ∙ ap Some (sym here.1)))
            | inr other ↦ rw (same.0, other.0) refl
          ]
          | inr other ↦ rw other.0 refl
        ]

  -- ---- however it stopped
  stopped : (stop : Stop) (left : ℕ → model.Pack) → LeftAt stop setup.drives setup.packs left s → HoldsFront setup r left
  stopped Sink left at = front left s.surface own_surface at
  stopped Store left (inl at) = front left s.surface own_surface at
  stopped Store left (inr next) = front left (with_next s next.unit next.block) (next_surface next.unit next.block next.kind next.declared next.next) next.packs

-- ---- FROM A REPLAY AT REST
askable : (w : World) (held : ℕ → model.Pack) (r : Request) → IsSetUp w r.unit → IsRequest r → IsAskable (setup_of w held) r
askable w held r unit is = subst (λ (b : Bool). IsThere (kind_if b (unit_at w r.unit).drive.kind) (λ kind. IsRequest r)) (sym unit.declared) is

part_consistent : (s : Replay) (p : Part) → IsPart s p → IsConsistent s → IsConsistent (behind s p)
part_consistent s p is c = moments_consistent (after_moment s (Played p.line p.input)) p.told is.follows (played_consistent s p.line p.input is.number is.may c)

module _ (w : World) (held : ℕ → model.Pack) (line : ℕ) (r : Request) (are : HasTables (setup_of w held)) (unit : IsSetUp w r.unit) (good : IsRequest r) (s : Replay) (q : StandsQuiet held w s) where
  abbrev Of : Setup
  Of = setup_of w held

  abbrev First : List Moment → Part
  First asked = record { line = line; input = Submit r; told = asked }

  abbrev Second : List Moment → Part
  Second drained = record { line = line; input = Drain; told = drained }

  module _ (asked : List Moment) (is : IsPart s (First asked)) where
    one : PartStep Of [] s (idle (map_of Of)) (First asked)
    one = part_step Of [] s (idle (map_of Of)) (First asked) are (rest_keeps Of s q.rest) (rest_stands Of s q.rest) is (askable w held r unit good) refl

    one_where : IsWhere Of r one.new
    one_where = where_is Of line r (meets Of.drives (idle (map_of Of)) r) one.answered.later one.new one.answered.steps

    one_agrees : IsConsistent (behind s (First asked))
    one_agrees = part_consistent s (First asked) is q.consistent

    module _ (drained : List Moment) (more : IsPart (behind s (First asked)) (Second drained)) where
      two : PartStep Of [] (behind s (First asked)) one.new (Second drained)
      two = part_step Of [] (behind s (First asked)) one.new (Second drained) are one.keeps one.stands more tt tt

      two_where : IsWhere Of r two.new
      two_where = where_is Of line r (meets Of.drives (idle (map_of Of)) r) (one.answered.later ++ two.answered.later) two.new
          (steps_join Of.drives (sure_claims Of []) line (machine_submitted (idle (map_of Of)) r (meets Of.drives (idle (map_of Of)) r)) one.answered.later one.new two.answered.later two.new
          one.answered.steps two.answered.steps)

      two_agrees : IsConsistent (behind (behind s (First asked)) (Second drained))
      two_agrees = part_consistent (behind s (First asked)) (Second drained) more one_agrees

  cut : (stop : Stop) (left : ℕ → model.Pack) (asked : List Moment) (drained : Option (List Moment)) → IsSession s (begun line r asked drained)
      → LeftAt stop Of.drives held left (behind_all s (begun line r asked drained)) → HoldsFront Of r left
  cut stop left asked None session at =
      let step : PartStep Of [] s (idle (map_of Of)) (First asked) = one asked session.0 in
      stopped Of r are (behind s (First asked)) step.new step.keeps step.stands (one_agrees asked session.0) (one_where asked session.0) stop left at
  cut stop left asked (Some drained) session at =
      let step : PartStep Of [] (behind s (First asked)) (one asked session.0).new (Second drained) = two asked session.0 drained session.1.0 in
      stopped Of r are (behind (behind s (First asked)) (Second drained)) step.new step.keeps step.stands (two_agrees asked session.0 drained session.1.0) (two_where asked session.0 drained session.1.0) stop left at

pub stopped_holds_front : StoppedHoldsFront
stopped_holds_front stop line r old new sound work quiet unit good are tells e =
    let s : Replay = rested old.world old.held in
    let q : StandsQuiet old.held old.world s = quiet_rests old.world old.held sound work quiet in
    let at : IsCut stop (begun line r e.asked e.drained) old new s = e.stops.cut tells are s q in
    cut old.world old.held line r are unit good s q stop new.held e.asked e.drained at.session at.packs

-- ---- WHERE IT WAS ANSWERED
pub answered_moves_clean : AnsweredMovesClean
answered_moves_clean line r old new sound work quiet unit good are tells a k lt =
    let s : Replay = rested old.world old.held in
    let q : StandsQuiet old.held old.world s = quiet_rests old.world old.held sound work quiet in
    let f : Follows line r a.asked a.drained old new s = (a.mapped tells are).follows s q in
    done_moves_clean (setup_at old) s line r a.asked a.drained
    (record { tables = are; rest = q.rest; askable = askable old.world old.held r unit good; session = f.session; over = f.over }) k lt
