-- Whatever a sector that an event tries was found to be, some packs hold it so; and a replay stands for the driver over any packs.
use Rattle.std.proofs.Common.{◌≡◌, ℕ, ◌≤◌, ◌==◌, not, Bool, true, false, List, [], ◌∷◌, ◌++◌, length, Option, Some, None, refl, sym, ap, subst, arith, ◌∙◌, replicate, rules}
use Rattle.std.specs.Prelude.{if◌then◌else◌, slice_index, unwrap_or}
use Rattle.std.proofs.lemmas.List.{length-replicate}
use Rattle.std.proofs.lemmas.Option.{none-some}
use Rattle.std.proofs.Math.Seq.{get_or-append_seam}
use Rattle.pack_geometry.specs.Pack.{Pack, block_at, is_marked, with_block, empty_pack}
use Rattle.pack_geometry.proofs.PackLaws.{block_at-with_block_same}
use Rattle.main_memory.specs.Bytes.{filled}
use Rattle.main_memory.specs.Blocks.{Loan, size_at}
use Rattle.main_memory.proofs.ByteLaws.{front-filled, length-filled}
use Rattle.hardware_table.specs.Adapter.{next_block, next_window}
use Rattle.hardware_table.specs.Noise.{LiveNoise, strikes}
use Rattle.request_slots.specs.Move.{IsFrontRead, struck_at}
use Rattle.trace_replay.specs.Script as script
use Rattle.trace_replay.specs.Script.{Input}
use Rattle.trace_replay.specs.Replay.{Replay, WorkMay, drained}
use Rattle.driver_laws.specs.rules.Consistent.{IsConsistent}
use Rattle.driver_laws.specs.rules.Calm.{IsCalm}
use Rattle.driver_laws.proofs.rules.Drain.{IsAt}
use Rattle.driver_laws.proofs.rules.Tells.{Between}
use Rattle.driver_machine.specs.World.{World, Held, no_held, unit_at, adapter_at, adapter_of, unit_of, slot_at, held_in, slot_in_hand}
use Rattle.driver_machine.specs.Acts.{Tried}
use Rattle.driver_machine.specs.Sound.{Sound}
use Rattle.driver_machine.specs.Runs.{MayCome}
use Rattle.driver_laws.specs.shown.Within.{ShowsAll}
use Rattle.driver_laws.specs.shown.Calls.{Stands, Ends, IsReadOf}

-- PACKS THAT HOLD what was tried, at one block of each unit
abbrev mark_of : Bool → ℕ
mark_of on = if on then 1 else 0

abbrev holding : ℕ → Tried → Pack
holding block tried = record { image = with_block [] block (filled 512 tried.bytes); marks = replicate block 0 ++ mark_of tried.marked ∷ [] }

abbrev pub fitting : World → Input → Tried → ℕ → Pack
fitting w (script.MoveAt a) tried unit = holding (next_block (adapter_at w a).state) tried
fitting w input tried unit = empty_pack

marked_so : (block : ℕ) (tried : Tried) → is_marked (holding block tried) block ≡ tried.marked
marked_so block tried =
    ap (λ n. not (n == 0)) (ap (slice_index (replicate block 0 ++ mark_of tried.marked ∷ [])) (sym (length-replicate block 0))
    ∙ get_or-append_seam (replicate block 0) (mark_of tried.marked) [] 0)
    ∙ by tried.marked
  where
    by : (on : Bool) → not (mark_of on == 0) ≡ on
    by true = refl
    by false = refl

last_few : (w : World) (p : ℕ) → Sound w → (held_in w p).loan.last ≤ 512
last_few w p sound = by (slot_at w p) refl
  where
    by : (o : Option Held) → slot_at w p ≡ o → (held_in w p).loan.last ≤ 512
    by None none = subst (λ (o : Option Held). (unwrap_or o no_held).loan.last ≤ 512) (sym none) (omega arith)
    by (Some h) is =
        subst (λ (o : Option Held). (unwrap_or o no_held).loan.last ≤ 512) (sym is) (sound.each_slot p h is).loan.shape.last_few

size_few : (loan : Loan) (k : ℕ) → loan.last ≤ 512 → size_at loan k ≤ 512
size_few loan k few = search rules

read_so : (places : Option (List ℕ)) (block size : ℕ) (tried : Tried) → places ≡ None → length tried.bytes ≡ size → size ≤ 512
    → IsFrontRead places (block_at (holding block tried).image block) size tried.bytes
read_so places block size tried none long few =
    subst (λ (z : Option (List ℕ)). IsFrontRead z (block_at (holding block tried).image block) size tried.bytes) (sym none)
    (record {
      bytes = filled 512 tried.bytes;
      whole = sym (block_at-with_block_same [] (filled 512 tried.bytes) block (length-filled 512 tried.bytes (subst (λ n. n ≤ 512) (sym long) few)));
      cut = sym (front-filled 512 size tried.bytes long);
    })

never_struck : (w : World) (u block : ℕ) → w.book.live ≡ [] → struck_at u block (unit_at w u).drive w.book ≡ None
never_struck w u block none = ap (λ (live : List LiveNoise). strikes u block (unit_at w u).drive.offset live) none

pub fits : (w : World) (input : Input) (tried : Tried) → Sound w → w.book.live ≡ [] → MayCome w input tried → IsReadOf w (fitting w input tried) input tried
fits w (script.MoveAt a) tried sound none may = λ can.
    record {
      flips = λ places is. absurd (none-some places (sym (never_struck w (unit_of w a) (next_block (adapter_at w a).state) none) ∙ is));
      read = record {
        mark = sym (marked_so (next_block (adapter_at w a).state) tried);
        bytes = λ was. read_so (struck_at (unit_of w a) (next_block (adapter_at w a).state) (unit_at w (unit_of w a)).drive w.book) (next_block (adapter_at w a).state)
            (size_at (held_in w (slot_in_hand (unit_at w (unit_of w a)))).loan (next_window (adapter_at w (adapter_of (unit_of w a))).state)) tried
            (never_struck w (unit_of w a) (next_block (adapter_at w a).state) none) ((may can).size was)
            (size_few (held_in w (slot_in_hand (unit_at w (unit_of w a)))).loan (next_window (adapter_at w (adapter_of (unit_of w a))).state)
            (last_few w (slot_in_hand (unit_at w (unit_of w a))) sound));
      };
    }
fits w other tried sound none may = tt

-- THE SAME REPLAY OVER OTHER PACKS: nothing but a sector that is tried sees them.
abbrev pub over : (ℕ → Pack) → Replay → Replay
over held s = record s {
  surface = record { sector = λ unit block. block_at (held unit).image block; is_marked = λ unit block. is_marked (held unit) block; live = s.surface.live };
}

over_shows : (held : ℕ → Pack) (w : World) (s : Replay) → ShowsAll w s → ShowsAll w (over held s)
over_shows held w s shows = search rules

pub over_stands : (held old : ℕ → Pack) (w : World) (s : Replay) → Stands old w s → Stands held w (over held s)
over_stands held old w s stands = search rules

over_drained : (held : ℕ → Pack) (s : Replay) → over held (drained s) ≡ drained (over held s)
over_drained held s = search rules

work_over : (b : Bool) (held : ℕ → Pack) (s : Replay) → WorkMay b s → WorkMay b (over held s)
work_over true held s work = work
work_over false held s work = tt

pub over_ends : (line : ℕ) (held old : ℕ → Pack) (w : World) (s : Replay) → Ends line true old w s → Ends line true held w (over held s)
over_ends line held old w s ends = record {
  last = over held ends.last;
  is = ap (over held) ends.is ∙ over_drained held ends.last;
  over = record {
    act = ends.over.act;
    rests = record {
      sound = ends.over.rests.sound;
      shows = over_shows held w ends.last ends.over.rests.shows;
      event = record {
        line_is = ends.over.rests.event.line_is;
        drains_is = ends.over.rests.event.drains_is;
        act_is = ends.over.rests.event.act_is;
        work = work_over ends.last.event.between held ends.last ends.over.rests.event.work;
      };
      quiet = ends.over.rests.quiet;
    };
    over = ends.over.over;
  };
  packs = record { sectors = λ unit block. refl; marks = λ unit block. refl };
}

pub over_consistent : (held : ℕ → Pack) (s : Replay) → IsConsistent s → IsConsistent (over held s)
over_consistent held s c = search (rules, work_over)

pub over_calm : (held : ℕ → Pack) (s : Replay) → IsCalm s → IsCalm (over held s)
over_calm held s calm = record { drives = calm.drives; stages = calm.stages; live = calm.live }

pub over_at : (there : List ℕ) (held : ℕ → Pack) (s : Replay) → IsAt there s → IsAt there (over held s)
over_at there held s at = record { same = at.same; held = at.held }

pub over_between : (held : ℕ → Pack) (s : Replay) → Between s → Between (over held s)
over_between held s between = λ on. record { quiet = (between on).quiet; act = (between on).act; drains = (between on).drains }
