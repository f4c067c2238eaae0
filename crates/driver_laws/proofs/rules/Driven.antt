-- What a line does to a drive, as far as what is under way, the attention and the errors go.
use Rattle.std.proofs.Common.{◌≡◌, ℕ, Bool, true, false, not, refl, sym, ap, ◌∙◌, subst, rules}
use Rattle.std.specs.Prelude.{if◌then◌else◌}
use Rattle.std.proofs.lemmas.Bool.{false≢true}
use Rattle.drive_registers.specs.declared.Function.{Function}
use Rattle.drive_registers.specs.declared.Function.TheVariants as function
use Rattle.drive_registers.specs.Codes.{function_code}
use Rattle.hardware_table.specs.declared.Work.{Work}
use Rattle.hardware_table.specs.declared.Work.TheVariants as work
use Rattle.hardware_table.specs.Drive.{DriveState, is_positioning, is_transferring, has_error}
use Rattle.hardware_table.specs.Functions.{performed, effect}
use Rattle.hardware_table.specs.declared.Moved.{Moved}
use Rattle.hardware_table.specs.declared.Moved.TheVariants as verdict
use Rattle.hardware_table.specs.Adapter.{AdapterState, drive_stepped, stepped, next_block}
use Rattle.hardware_table.specs.Events.{arrived_from, transfer_ended}
use Rattle.hardware_table.specs.Moves.{after_move}
use Rattle.trace_replay.specs.Script.{Input}
use Rattle.trace_replay.specs.Conversation.{is_clean}
use Rattle.trace_replay.specs.Drives.{takes, transfer_function, drive_played}

pub record DriveIs (d : DriveState) (positioning transferring attention : Bool) : Type 0 where
  pub positions : is_positioning d.work ≡ positioning
  pub transfers : is_transferring d.work ≡ transferring
  pub calls : d.attention ≡ attention

pub taken : (f : Function) (d : DriveState) → takes f d ≡ true → performed f d ≡ effect f (record d { cs1 = function_code f })
taken f d is = search rules

-- ---- commands
pub search_is : (d : DriveState) → takes function.Search d ≡ true → DriveIs d false false false → DriveIs (performed function.Search d) true false false × (has_error (performed function.Search d) ≡ has_error d)
search_is d is f = subst (λ z. DriveIs z true false false × (has_error z ≡ has_error d)) (sym (taken function.Search d is)) (record { positions = refl; transfers = refl; calls = f.calls }, refl)

pub seek_is : (d : DriveState) → takes function.Seek d ≡ true → DriveIs d false false false → DriveIs (performed function.Seek d) true false false × (has_error (performed function.Seek d) ≡ has_error d)
seek_is d is f = subst (λ z. DriveIs z true false false × (has_error z ≡ has_error d)) (sym (taken function.Seek d is)) (record { positions = refl; transfers = refl; calls = f.calls }, refl)

pub recal_is : (d : DriveState) → takes function.Recal d ≡ true → DriveIs d false false false → DriveIs (performed function.Recal d) true false false × (has_error (performed function.Recal d) ≡ has_error d)
recal_is d is f = subst (λ z. DriveIs z true false false × (has_error z ≡ has_error d)) (sym (taken function.Recal d is)) (record { positions = refl; transfers = refl; calls = f.calls }, refl)

pub offset_is : (d : DriveState) → takes function.Offset d ≡ true → DriveIs d false false false → DriveIs (performed function.Offset d) true false false × (has_error (performed function.Offset d) ≡ has_error d)
offset_is d is f = subst (λ z. DriveIs z true false false × (has_error z ≡ has_error d)) (sym (taken function.Offset d is)) (record { positions = refl; transfers = refl; calls = f.calls }, refl)

pub centre_is : (d : DriveState) → takes function.Centre d ≡ true → DriveIs d false false false → DriveIs (performed function.Centre d) false false false × (has_error (performed function.Centre d) ≡ has_error d)
centre_is d is f = subst (λ z. DriveIs z false false false × (has_error z ≡ has_error d)) (sym (taken function.Centre d is)) (record { positions = f.positions; transfers = f.transfers; calls = f.calls }, refl)

pub pack_is : (d : DriveState) → takes function.Pack d ≡ true → DriveIs d false false false → DriveIs (performed function.Pack d) false false false × (has_error (performed function.Pack d) ≡ has_error d)
pack_is d is f = subst (λ z. DriveIs z false false false × (has_error z ≡ has_error d)) (sym (taken function.Pack d is)) (record { positions = f.positions; transfers = f.transfers; calls = f.calls }, refl)

-- DCLR clears the errors
pub clear_is : (d : DriveState) → takes function.Clear d ≡ true → DriveIs d false false false → DriveIs (performed function.Clear d) false false false × (has_error (performed function.Clear d) ≡ false)
clear_is d is f = subst (λ z. DriveIs z false false false × (has_error z ≡ false)) (sym (taken function.Clear d is)) (record { positions = f.positions; transfers = f.transfers; calls = refl }, refl)

pub transfer_is : (write : Bool) (d : DriveState) → takes (transfer_function write) d ≡ true → DriveIs d false false false
    → DriveIs (performed (transfer_function write) d) false true false × (has_error (performed (transfer_function write) d) ≡ has_error d)
transfer_is true d is f = subst (λ z. DriveIs z false true false × (has_error z ≡ has_error d)) (sym (taken function.Write d is)) (record { positions = refl; transfers = refl; calls = f.calls }, refl)
transfer_is false d is f = subst (λ z. DriveIs z false true false × (has_error z ≡ has_error d)) (sym (taken function.Read d is)) (record { positions = refl; transfers = refl; calls = f.calls }, refl)

-- ---- the end of a positioning
pub arrived_is : (w : Work) (d : DriveState) → is_positioning w ≡ true → DriveIs (arrived_from w d) false false true × (has_error (arrived_from w d) ≡ has_error d)
arrived_is (work.Positioning c y) d is = (record { positions = refl; transfers = refl; calls = refl }, refl)
arrived_is other d is = absurd (false≢true is)

-- ---- a sector
move_keeps : (v : Moved) (block : ℕ) (d : DriveState) → ((after_move v block d).work ≡ d.work) × ((after_move v block d).attention ≡ d.attention)
move_keeps v block d = search rules

ended_or_not : (b : Bool) (x : DriveState) → is_positioning x.work ≡ false → is_transferring x.work ≡ true → x.attention ≡ false
    → DriveIs (if b then transfer_ended x else x) false (not b) false
ended_or_not true x p t c = record { positions = refl; transfers = refl; calls = c }
ended_or_not false x p t c = record { positions = p; transfers = t; calls = c }

pub sector_is : (v : Moved) (a : AdapterState) (d : DriveState) → DriveIs d false true false → DriveIs (drive_stepped v a d) false (not (stepped v a).completion) false
sector_is v a d f =
    ended_or_not (stepped v a).completion (after_move v (next_block a) d) (ap is_positioning kept.0 ∙ f.positions) (ap is_transferring kept.0 ∙ f.transfers) (kept.1 ∙ f.calls)
  where
    kept : ((after_move v (next_block a) d).work ≡ d.work) × ((after_move v (next_block a) d).attention ≡ d.attention)
    kept = move_keeps v (next_block a) d

-- a clean one raises no error
error_of_either : (b : Bool) (x : DriveState) → has_error (if b then transfer_ended x else x) ≡ has_error x
error_of_either true x = refl
error_of_either false x = refl

pub clean_sector : (v : Moved) (a : AdapterState) (d : DriveState) → is_clean v ≡ true → has_error (drive_stepped v a d) ≡ has_error d
clean_sector verdict.Clean a d is = error_of_either (stepped verdict.Clean a).completion (after_move verdict.Clean (next_block a) d)
clean_sector other a d is = absurd (false≢true is)

-- ---- an adapter over a sector
pub stepped_keeps : (v : Moved) (a : AdapterState) → ((stepped v a).busy ≡ a.busy) × ((stepped v a).drive ≡ a.drive) × ((stepped v a).attentions ≡ a.attentions)
stepped_keeps verdict.Clean a = (refl, refl, refl)
stepped_keeps other a = (refl, refl, refl)

-- ---- a line of the script
pub record Untouched (old new : DriveState) : Type 0 where
  pub work : new.work ≡ old.work
  pub calls : new.attention ≡ old.attention
  pub errors : has_error new ≡ has_error old
  pub kind : new.kind ≡ old.kind

pub played_drive : (unit : ℕ) (d : DriveState) (input : Input) → Untouched d (drive_played unit d input)
played_drive unit d input = search rules
