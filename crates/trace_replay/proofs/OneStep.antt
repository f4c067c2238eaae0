-- From one state two moments that may come are the same.
use Rattle.std.proofs.Common.{◌≡◌, ℕ, Bool, true, false, List, Option, None, Some, refl, sym, ap, ap₂, ◌∙◌, subst, arith}
use Rattle.std.proofs.lemmas.Option.{same_Some}
use Rattle.fire_code.specs.Remainder.{remainder}
use Rattle.fire_code.specs.declared.Verdict.{Verdict}
use Rattle.fire_code.specs.declared.Verdict.TheVariants as code
use Rattle.fire_code.proofs.Laws.{verdict_unique}
use Rattle.hardware_table.specs.declared.Moved.{Moved}
use Rattle.hardware_table.specs.declared.Moved.TheVariants as verdict
use Rattle.hardware_table.specs.Drive.{DriveState, is_writing}
use Rattle.hardware_table.specs.Adapter.{AdapterState}
use Rattle.hardware_table.specs.Moves.{stop_of, IsVerdict, IsVerdictBy, IsReadVerdict}
use Rattle.trace_replay.specs.requests.Requests.{Rejection}
use Rattle.trace_replay.specs.Moments.{Deed, Search, Arrive, Sector, Intr, Attn, Played, Told, Idle}
use Rattle.trace_replay.specs.Adapters.{AdapterMay}
use Rattle.trace_replay.specs.Packs.{Surface, VerdictMay, flips_at}
use Rattle.trace_replay.specs.Conversation.{Hand, Stage, TalkMay, due}
use Rattle.trace_replay.specs.Events.{Wish, NoLine, DueLine, Arrival, SectorLine, Interrupt, Attention, Refusal, IdleLine, wish_of}
use Rattle.trace_replay.specs.Replay.{Replay, next_wish, LineMay, RefusalMay, ToldMay, InputMay, MayCome, hand_of, at_unit}
use Rattle.trace_replay.specs.Single.{OneStep}

moved_of : Verdict → Moved
moved_of code.Clean = verdict.Clean
moved_of (code.Burst at q) = verdict.Burst at q
moved_of code.Uncorrectable = verdict.Hard

-- ---- a sector has one verdict
read_once : (places : Option (List ℕ)) (v w : Moved) → IsReadVerdict places v → IsReadVerdict places w → v ≡ w
unfolding moved_of
read_once None v w a b = a ∙ sym b
read_once (Some places) verdict.Clean verdict.Clean a b = ap moved_of (verdict_unique code.Clean code.Clean (remainder places) a b)
read_once (Some places) verdict.Clean (verdict.Burst at' q') a b = ap moved_of (verdict_unique code.Clean (code.Burst at' q') (remainder places) a b)
read_once (Some places) verdict.Clean verdict.Hard a b = ap moved_of (verdict_unique code.Clean code.Uncorrectable (remainder places) a b)
read_once (Some places) (verdict.Burst at q) verdict.Clean a b = ap moved_of (verdict_unique (code.Burst at q) code.Clean (remainder places) a b)
read_once (Some places) (verdict.Burst at q) (verdict.Burst at' q') a b = ap moved_of (verdict_unique (code.Burst at q) (code.Burst at' q') (remainder places) a b)
read_once (Some places) (verdict.Burst at q) verdict.Hard a b = ap moved_of (verdict_unique (code.Burst at q) code.Uncorrectable (remainder places) a b)
read_once (Some places) verdict.Hard verdict.Clean a b = ap moved_of (verdict_unique code.Uncorrectable code.Clean (remainder places) a b)
read_once (Some places) verdict.Hard (verdict.Burst at' q') a b = ap moved_of (verdict_unique code.Uncorrectable (code.Burst at' q') (remainder places) a b)
read_once (Some places) verdict.Hard verdict.Hard a b = ap moved_of (verdict_unique code.Uncorrectable code.Uncorrectable (remainder places) a b)
read_once (Some places) verdict.Clean verdict.Marked a b = absurd b
read_once (Some places) verdict.Clean (verdict.Faulted k) a b = absurd b
read_once (Some places) verdict.Clean verdict.Offline a b = absurd b
read_once (Some places) (verdict.Burst at q) verdict.Marked a b = absurd b
read_once (Some places) (verdict.Burst at q) (verdict.Faulted k) a b = absurd b
read_once (Some places) (verdict.Burst at q) verdict.Offline a b = absurd b
read_once (Some places) verdict.Hard verdict.Marked a b = absurd b
read_once (Some places) verdict.Hard (verdict.Faulted k) a b = absurd b
read_once (Some places) verdict.Hard verdict.Offline a b = absurd b
read_once (Some places) verdict.Marked w a b = absurd a
read_once (Some places) (verdict.Faulted k) w a b = absurd a
read_once (Some places) verdict.Offline w a b = absurd a

verdict_once : (stop : Option Moved) (marked write : Bool) (places : Option (List ℕ)) (v w : Moved)
    → IsVerdictBy stop marked write places v → IsVerdictBy stop marked write places w → v ≡ w
verdict_once (Some stop) marked write places v w a b = a ∙ sym b
verdict_once None true write places v w a b = a ∙ sym b
verdict_once None false true places v w a b = a ∙ sym b
verdict_once None false false places v w a b = read_once places v w a b

-- ---- the sort of a deed
sort : Deed → ℕ
sort Arrive = 0
sort (Sector b v) = 1
sort Intr = 2
sort Attn = 3
sort other = 4

unit_in : Wish → ℕ
unit_in (DueLine unit) = unit
unit_in (Arrival unit) = unit
unit_in (SectorLine unit) = unit
unit_in (Interrupt unit) = unit
unit_in (Attention unit) = unit
unit_in (Refusal unit id why) = unit
unit_in other = 0

sort_in : Wish → ℕ
sort_in (DueLine unit) = 4
sort_in (Arrival unit) = 0
sort_in (SectorLine unit) = 1
sort_in (Interrupt unit) = 2
sort_in (Attention unit) = 3
sort_in IdleLine = 6
sort_in other = 5

unit_of_wish : (unit : ℕ) (deed : Deed) → unit_in (wish_of unit deed) ≡ unit
unfolding unit_in
unit_of_wish unit (Search c y) = refl
unit_of_wish unit other = refl

sort_of_wish : (unit : ℕ) (deed : Deed) → sort_in (wish_of unit deed) ≡ sort deed
unfolding sort_in sort
sort_of_wish unit (Search c y) = refl
sort_of_wish unit other = refl

-- ---- the deed of a sort
arrival_only : (deed : Deed) → sort deed ≡ 0 → deed ≡ Arrive
unfolding sort
arrival_only Arrive h = refl
arrival_only other h = absurd (omega (arith, h))

interrupt_only : (deed : Deed) → sort deed ≡ 2 → deed ≡ Intr
unfolding sort
interrupt_only Intr h = refl
interrupt_only other h = absurd (omega (arith, h))

attention_only : (deed : Deed) → sort deed ≡ 3 → deed ≡ Attn
unfolding sort
attention_only Attn h = refl
attention_only other h = absurd (omega (arith, h))

record IsSector (deed : Deed) : Type 0 where
  block : ℕ
  verdict : Moved
  is : deed ≡ Sector block verdict

sector_only : (deed : Deed) → sort deed ≡ 1 → IsSector deed
unfolding sort
sector_only (Sector b v) h = record { block = b; verdict = v; is = refl }
sector_only other h = absurd (omega (arith, h))

due_of : (d : DriveState) (h : Hand) (stage : Stage) (deed : Deed) → sort deed ≡ 4 → TalkMay d h stage deed → due d h stage ≡ Some deed
unfolding sort
due_of d h stage Arrive four may = absurd (omega (arith, four))
due_of d h stage (Sector b v) four may = absurd (omega (arith, four))
due_of d h stage Intr four may = absurd (omega (arith, four))
due_of d h stage Attn four may = absurd (omega (arith, four))
due_of d h stage other four may = may

both_due : (d : DriveState) (h : Hand) (stage : Stage) (deed other : Deed) → sort deed ≡ 4 → sort other ≡ 4
    → TalkMay d h stage deed → TalkMay d h stage other → deed ≡ other
both_due d h stage deed other four four' may may' =
    same_Some deed other (sym (due_of d h stage deed four may) ∙ due_of d h stage other four' may')

-- what the rules say of a deed of a unit
record DeedMay (d : DriveState) (h : Hand) (stage : Stage) (a : AdapterState) (s : Surface) (unit : ℕ) (deed : Deed) : Type 0 where
  talk : TalkMay d h stage deed
  adapter : AdapterMay a unit deed
  verdict : VerdictMay s unit d deed

same_sector : (d : DriveState) (h : Hand) (stage : Stage) (a : AdapterState) (s : Surface) (unit b : ℕ) (v : Moved) (other : Deed)
    → DeedMay d h stage a s unit (Sector b v) → DeedMay d h stage a s unit other → IsSector other → Sector b v ≡ other
same_sector d h stage a s unit b v other may may' sector = ap₂ Sector blocks verdicts ∙ sym sector.is
  where
    moved : DeedMay d h stage a s unit (Sector sector.block sector.verdict)
    moved = subst (λ x. DeedMay d h stage a s unit x) sector.is may'

    blocks : b ≡ sector.block
    blocks = may.adapter.1 ∙ sym moved.adapter.1

    verdicts : v ≡ sector.verdict
    verdicts = verdict_once (stop_of d) (s.is_marked unit b) (is_writing d.work) (flips_at s unit d b) v sector.verdict may.verdict
        (subst (λ x. IsVerdict d (s.is_marked unit x) (flips_at s unit d x) sector.verdict) (sym blocks) moved.verdict)

same_deed : (d : DriveState) (h : Hand) (stage : Stage) (a : AdapterState) (s : Surface) (unit : ℕ) (deed other : Deed)
    → sort deed ≡ sort other → DeedMay d h stage a s unit deed → DeedMay d h stage a s unit other → deed ≡ other
unfolding sort
same_deed d h stage a s unit Arrive other same may may' = sym (arrival_only other (sym same))
same_deed d h stage a s unit (Sector b v) other same may may' = same_sector d h stage a s unit b v other may may' (sector_only other (sym same))
same_deed d h stage a s unit Intr other same may may' = sym (interrupt_only other (sym same))
same_deed d h stage a s unit Attn other same may may' = sym (attention_only other (sym same))
same_deed d h stage a s unit it other same may may' = both_due d h stage it other refl (sym same) may.talk may'.talk

-- ---- two lines of units
line_once : (s : Replay) (line unit id line' unit' id' : ℕ) (deed deed' : Deed)
    → LineMay s line unit id deed → LineMay s line' unit' id' deed' → Told line unit id deed ≡ Told line' unit' id' deed'
line_once s line unit id line' unit' id' deed deed' may may' =
    ap (λ x. Told x unit id deed) lines ∙ ap (λ x. Told line' x id deed) units ∙ ap (λ x. Told line' unit' x deed) ids ∙ ap (λ x. Told line' unit' id' x) deeds
  where
    lines : line ≡ line'
    lines = may.number ∙ sym may'.number

    wishes : wish_of unit deed ≡ wish_of unit' deed'
    wishes = sym may.wished ∙ may'.wished

    units : unit ≡ unit'
    units = sym (unit_of_wish unit deed) ∙ ap unit_in wishes ∙ unit_of_wish unit' deed'

    sorts : sort deed ≡ sort deed'
    sorts = sym (sort_of_wish unit deed) ∙ ap sort_in wishes ∙ sort_of_wish unit' deed'

    moved : LineMay s line unit id' deed'
    moved = subst (λ x. LineMay s x unit id' deed') (sym lines) (subst (λ x. LineMay s line' x id' deed') (sym units) may')

    ids : id ≡ id'
    ids = same_Some id id' (sym may.service ∙ moved.service)

    deeds : deed ≡ deed'
    deeds = same_deed (s.units unit).drive (hand_of (s.units unit)) (s.units unit).stage (at_unit s unit).state s.surface unit deed deed' sorts
        (record { talk = may.talk; adapter = may.adapter; verdict = may.verdict })
        (record { talk = moved.talk; adapter = moved.adapter; verdict = moved.verdict })

refusal_once : (s : Replay) (line unit id line' unit' id' u i : ℕ) (why : Rejection) (deed deed' : Deed)
    → RefusalMay s line unit id deed u i why → RefusalMay s line' unit' id' deed' u i why → Told line unit id deed ≡ Told line' unit' id' deed'
refusal_once s line unit id line' unit' id' u i why deed deed' may may' =
    ap (λ x. Told x unit id deed) (may.number ∙ sym may'.number) ∙ ap (λ x. Told line' x id deed) (may.same_unit ∙ sym may'.same_unit)
    ∙ ap (λ x. Told line' unit' x deed) (may.same_id ∙ sym may'.same_id) ∙ ap (λ x. Told line' unit' id' x) (may.answered ∙ sym may'.answered)

told_once : (wish : Wish) (s : Replay) (line unit id line' unit' id' : ℕ) (deed deed' : Deed)
    → ToldMay wish s line unit id deed → ToldMay wish s line' unit' id' deed' → Told line unit id deed ≡ Told line' unit' id' deed'
told_once (Refusal u i why) s line unit id line' unit' id' deed deed' may may' = refusal_once s line unit id line' unit' id' u i why deed deed' may may'
told_once other s line unit id line' unit' id' deed deed' may may' = line_once s line unit id line' unit' id' deed deed' may may'

-- ---- a line of a unit, an idle line and a line of the script never come at once
unfoldable pub is_told : Wish → ℕ
is_told NoLine = 0
is_told (DueLine unit) = 1
is_told (Arrival unit) = 1
is_told (SectorLine unit) = 1
is_told (Interrupt unit) = 1
is_told (Attention unit) = 1
is_told (Refusal unit id why) = 1
is_told IdleLine = 2

told_is : (unit : ℕ) (deed : Deed) → is_told (wish_of unit deed) ≡ 1
unfolding is_told
told_is unit (Search c y) = refl
told_is unit other = refl

told_wish : (wish : Wish) (s : Replay) (line unit id : ℕ) (deed : Deed) → next_wish s ≡ wish → ToldMay wish s line unit id deed → is_told wish ≡ 1
unfolding is_told
told_wish (Refusal u i why) s line unit id deed is may = refl
told_wish other s line unit id deed is may = ap is_told (sym is ∙ may.wished) ∙ told_is unit deed

pub told_now : (s : Replay) (line unit id : ℕ) (deed : Deed) → MayCome s (Told line unit id deed) → is_told (next_wish s) ≡ 1
told_now s line unit id deed may = told_wish (next_wish s) s line unit id deed refl may

pub idle_now : (s : Replay) (line : ℕ) → MayCome s (Idle line) → is_told (next_wish s) ≡ 2
unfolding is_told
idle_now s line may = ap is_told may.nothing

input_now : (s : Replay) (line : ℕ) → InputMay s line → is_told (next_wish s) ≡ 0
unfolding is_told
input_now s line may = ap is_told may.over

pub one_step : OneStep
one_step s (Told line unit id deed) (Told line' unit' id' deed') may may' agree =
    told_once (next_wish s) s line unit id line' unit' id' deed deed' may may'
one_step s (Told line unit id deed) (Idle line') may may' agree = absurd (omega (arith, told_now s line unit id deed may, idle_now s line' may'))
one_step s (Told line unit id deed) (Played line' input) may may' agree = absurd (omega (arith, told_now s line unit id deed may, input_now s line' may'))
one_step s (Idle line) (Told line' unit id deed) may may' agree = absurd (omega (arith, idle_now s line may, told_now s line' unit id deed may'))
one_step s (Idle line) (Idle line') may may' agree = ap Idle (may.number ∙ sym may'.number)
one_step s (Idle line) (Played line' input) may may' agree = absurd (omega (arith, idle_now s line may, input_now s line' may'))
one_step s (Played line input) (Told line' unit id deed) may may' agree = absurd (omega (arith, input_now s line may, told_now s line' unit id deed may'))
one_step s (Played line input) (Idle line') may may' agree = absurd (omega (arith, input_now s line may, idle_now s line' may'))
one_step s (Played line input) (Played line' input') may may' agree = agree
