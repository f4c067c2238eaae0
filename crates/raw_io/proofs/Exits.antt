-- What the functions over whole blocks owe, from what `ask_read` and `ask_write` promise.
use Rattle.std.proofs.Common.{◌≡◌, ℕ, ◌<◌, ◌≤◌, ◌+◌, Bool, true, false, IsTrue, None, refl, sym, subst, arith}
use Rattle.std.specs.Prelude.{min}
use Rattle.pack_geometry.specs.declared.DriveKind.{DriveKind}
use Rattle.trace_replay.specs.requests.Requests.{Answer, Failed, IsRequest, NoFrames, Request}
use Rattle.driver_machine.specs.Guards.{IsSetUp}
use Rattle.driver_machine.specs.Sound.{Sound, AtWork}
use Rattle.driver_laws.specs.rules.Sessions.{told_in, waited}
use Rattle.driver_laws.specs.rules.Rest.{HasTables}
use Rattle.driver_laws.specs.rules.Waited.{answer_in}
use Rattle.driver_laws.specs.rules.Cleans.{MovedClean, done_by}
use Rattle.blocking_io.specs.FrontsPasses.{Answers, AnswersReach, GoesOn, IsQuiet, Stage, reached_by, setup_at}
use Rattle.blocking_io.specs.Fronts.{AnsweredMovesClean}
use Rattle.blocking_io.specs.Sites.{kind_at}
use Rattle.blocking_io.specs.Blocks.{AreBlocks, blocks_reached, origin}
use Rattle.blocking_io.proofs.FrontsBlocks.{few_reached, first_at, is_request, none_written, plain, puts_of, read_once_of}
use Rattle.raw_io.specs.Transfers.{AreClean, IsAsk, Transfers}
use Rattle.raw_io.specs.Blocks.{Puts, Reads}

unfoldable pub transfers_of : AnswersReach → (reads : Bool) (r : Request) (old new : Stage) → IsAsk reads r.unit r.part r → Answers 1 r old new → Transfers reads r.unit r.part (plain old) (plain new)
transfers_of law reads r old new ask a = record {
  parts = waited 1 r a.asked a.drained;
  waited = (record { request = r; ask = ask; submitted_is = refl; drained_is = refl }, tt);
  goes = plain_goes (law 1 r old new a);
  others = λ t tables. record { sectors = λ unit sector kind declared below homeless. (a.mapped t tables).others unit sector homeless; stay = a.stays t };
  images = λ t only. a.images t (ask.only only);
}
  where
    plain_goes : GoesOn (waited 1 r a.asked a.drained) old new → GoesOn (waited 1 r a.asked a.drained) (plain old) (plain new)
    plain_goes g = record {
      trace = g.trace;
      setup = g.setup;
      stays = g.stays;
      tables = g.tables;
      long = g.long;
      reaches = λ t tables s q. record { session = (g.reaches t tables s q).session; stands = (g.reaches t tables s q).stands };
    }

-- ---- each block that is done moved clean
below_least : (a b k : ℕ) → k < min a b → k < a
below_least a b k lt = grind (arith, lt)

done_told : (answer : Answer) (count k : ℕ) → k < blocks_reached (reached_by answer) count → k < done_by answer count
done_told (Failed cause done) count k lt = below_least done count k lt
done_told NoFrames count k lt = below_least 0 count k lt
done_told other count k lt = lt

module _ (r : Request) (old : Stage) (unit : IsSetUp old.world r.unit) (is : AreBlocks (kind_at old.world r.unit) r) where
  pub clean_of : AnsweredMovesClean → Sound old.world → AtWork old.world → IsQuiet old.world → IsRequest r → (new : Stage) (n : ℕ) (a : Answers 1 r old new) → n ≡ blocks_reached new.given.reached r.count
      → IsTrue new.packs_tell → HasTables (setup_at old) → AreClean r.unit (origin old r + r.block) (λ k. k < n) (told_in (waited 1 r a.asked a.drained)) (plain old)
  clean_of law sound work quiet good new n a e t tables k lt =
      subst (λ z. MovedClean (setup_at old) r.unit (z + k) (told_in (waited 1 r a.asked a.drained))) (first_at r old unit is)
      (law 1 r old new sound work quiet unit good tables t a k
      (done_told (answer_in (setup_at old) r) r.count k (subst (λ z. k < blocks_reached z r.count) (a.mapped t tables).reached (subst (λ z. k < z) e lt))))

-- ---- where it was answered
pub is_ask : (reads : Bool) (kind : DriveKind) (r : Request) → AreBlocks kind r → (reads ≡ true → r.written ≡ None) → IsAsk reads r.unit r.part r
is_ask reads kind r is only = record { id = is.id; unit_is = refl; part_is = refl; some = is.some; few = is.few; last = is.last; offset = is.offset; only = only }

module _ (r : Request) (n : ℕ) (old new : Stage) (unit : IsSetUp old.world r.unit) (is : AreBlocks (kind_at old.world r.unit) r) (e : n ≡ blocks_reached new.given.reached r.count) (a : Answers 1 r old new) where
  few_now : n ≤ r.count
  few_now = subst (λ z. z ≤ r.count) (sym e) (few_reached new.given.reached r.count)

  pub reads_of : AnswersReach → AnsweredMovesClean → Sound old.world → AtWork old.world → IsQuiet old.world → r.written ≡ None → Reads r n old.given.bytes new.given.bytes (plain old) (plain new)
  unfolding transfers_of
  reads_of law moves sound work quiet none = record {
    few = few_now;
    transfers = transfers_of law true r old new (is_ask true (kind_at old.world r.unit) r is (λ same. none)) a;
    told = λ t tables. read_once_of r old unit is new a.asked a.drained (a.mapped t tables) n none e;
    clean = λ t tables. clean_of r old unit is moves sound work quiet (is_request (kind_at old.world r.unit) r is (none_written r none)) new n a e t tables;
  }

  pub wrote_of : AnswersReach → Puts r n (plain old) (plain new)
  wrote_of law = record {
    few = few_now;
    transfers = transfers_of law false r old new (is_ask false (kind_at old.world r.unit) r is (λ never. absurd (no never))) a;
    told = λ t tables. puts_of r old unit is new a.asked a.drained (a.mapped t tables) n e;
  }
    where
      no : false ≡ true → ⊥
      no same = grind (arith, same)
