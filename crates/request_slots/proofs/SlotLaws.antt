-- Laws of slots: what the slots are after one slot was changed, and what they keep.
use Rattle.std.proofs.Common.{◌≡◌, ◌≢◌, ℕ, zero, suc, ◌+◌, ◌<◌, ◌≤◌, Bool, true, false, List, [], ◌∷◌, length, get_or, set, replicate, Option, None, Some, is_some, refl, sym, ap, ◌∙◌, subst, arith}
use Rattle.std.specs.Option.{option_map, unwrap_or}
use Rattle.std.specs.List.{slice_get}
use Rattle.std.proofs.Math.ListN.{get_or-map}
use Rattle.std.proofs.lemmas.List.{length-set, length-map, length-replicate, set-set}
use Rattle.std.proofs.lemmas.Option.{none-some, same_Some, get_or_from_slice_get}
use Rattle.main_memory.specs.Blocks.{Loan, IsLoan}
use Rattle.main_memory.specs.Frames.{frames_needed}
use Rattle.main_memory.specs.Memory.{Memory, IsMemory, IsLent, AreApart, blocks_of}
use Rattle.driver_machine.specs.World.{Held, no_held, block_in, pieces}
use Rattle.request_slots.specs.declared.slot.Slot.{Slot}
use Rattle.request_slots.specs.Lending.{IsLoanFor, HasLent}
use Rattle.request_slots.specs.declared.asked.Asked.{Asked}
use Rattle.request_slots.specs.Requests.{slot_at, held_at, frames_lent, IsWhole, IsHeldFor}
use Rattle.request_slots.specs.Stored.{loan_of, is_on_bus, slot_in, held_of, as_seen, IsKept}

-- slots with another one in place of one of them
abbrev pub with_held : ℕ → Held → List (Option Held) → List (Option Held)
with_held p h seen = set seen p (Some h)

abbrev pub without : ℕ → List (Option Held) → List (Option Held)
without p seen = set seen p None

-- what a slot shows
pub slot_at-as_seen : (m : Memory) (slots : List (Option Slot)) (p : ℕ) → slot_at (as_seen m slots) p ≡ option_map (held_of m) (slot_in slots p)
slot_at-as_seen m slots p = get_or-map (option_map (held_of m)) slots p None

pub is_some-as_seen : (m : Memory) (slots : List (Option Slot)) (p : ℕ) → is_some (slot_in slots p) ≡ is_some (slot_at (as_seen m slots) p)
is_some-as_seen m slots p = sym (ap is_some (slot_at-as_seen m slots p) ∙ same (slot_in slots p))
  where
    same : (o : Option Slot) → is_some (option_map (held_of m) o) ≡ is_some o
    same None = refl
    same (Some slot) = refl

pub held_at-as_seen : (m : Memory) (slots : List (Option Slot)) (p : ℕ) (slot : Slot) → slot_in slots p ≡ Some slot → held_at (as_seen m slots) p ≡ held_of m slot
held_at-as_seen m slots p slot here =
    ap (λ (o : Option Held). unwrap_or o no_held) (slot_at-as_seen m slots p ∙ ap (option_map (held_of m)) here)

-- a slot that is found is one of the slots
pub slot_within : (slots : List (Option Slot)) (p : ℕ) (slot : Slot) → slot_in slots p ≡ Some slot → p < length slots
slot_within [] p slot here = absurd (none-some slot here)
slot_within (x ∷ xs) zero slot here = omega arith
slot_within (x ∷ xs) (suc p) slot here = omega (arith, slot_within xs p slot here)

pub none_in : (m : Memory) (slots : List (Option Slot)) {seen : List (Option Held)} (p : ℕ) → as_seen m slots ≡ seen → slot_at seen p ≡ None → slot_in slots p ≡ None
none_in m slots {seen} p view none =
    empty (slot_in slots p) (sym (slot_at-as_seen m slots p) ∙ ap (λ (ps : List (Option Held)). slot_at ps p) view ∙ none)
  where
    empty : (o : Option Slot) → option_map (held_of m) o ≡ None → o ≡ None
    empty None e = refl
    empty (Some slot) e = absurd (none-some (held_of m slot) (sym e))

pub within : (m : Memory) (slots : List (Option Slot)) {seen : List (Option Held)} (p : ℕ) → as_seen m slots ≡ seen → p < length seen → p < length slots
within m slots {seen} p view inside = omega (arith, ap length view, length-map slots (option_map (held_of m)))

pub slot_cases : (slots : List (Option Slot)) (p q : ℕ) (o : Option Slot) (found : Slot) {X : Type 0} → slot_in (set slots p o) q ≡ Some found
    → (q ≡ p → o ≡ Some found → X) → (q ≢ p → slot_in slots q ≡ Some found → X) → X
slot_cases [] p q o found at here there = absurd (none-some found at)
slot_cases (x ∷ xs) zero zero o found at here there = here refl at
slot_cases (x ∷ xs) zero (suc q) o found at here there = there (omega arith) at
slot_cases (x ∷ xs) (suc p) zero o found at here there = there (omega arith) at
slot_cases (x ∷ xs) (suc p) (suc q) o found at here there =
    slot_cases xs p q o found at (λ e is. here (ap suc e) is) (λ ne is. there (λ e. ne (omega (arith, e))) is)

-- the frames that the slots need
abbrev need_of : Option Slot → ℕ
need_of None = 0
need_of (Some slot) = frames_needed (loan_of slot.buffer).count (loan_of slot.buffer).offset (loan_of slot.buffer).last

abbrev used_by : Memory → Option Slot → List (Option Slot) → ℕ
used_by m o slots = frames_lent (as_seen m (o ∷ slots))

used_by-need : (m : Memory) (o : Option Slot) (slots : List (Option Slot)) → used_by m o slots ≡ need_of o + frames_lent (as_seen m slots)
used_by-need m None slots = omega arith
used_by-need m (Some slot) slots = refl

pub frames_lent-same : (m m' : Memory) (slots : List (Option Slot)) → frames_lent (as_seen m' slots) ≡ frames_lent (as_seen m slots)
frames_lent-same m m' [] = refl
frames_lent-same m m' (x ∷ xs) = omega (arith, used_by-need m' x xs, used_by-need m x xs, frames_lent-same m m' xs)

pub frames_lent-set : (m m' : Memory) (slots : List (Option Slot)) (p : ℕ) (o : Option Slot) → p < length slots
    → frames_lent (as_seen m' (set slots p o)) + need_of (slot_in slots p) ≡ frames_lent (as_seen m slots) + need_of o
frames_lent-set m m' [] p o inside = absurd (omega arith)
frames_lent-set m m' (x ∷ xs) zero o inside = omega (arith, used_by-need m' o xs, used_by-need m x xs, frames_lent-same m m' xs)
frames_lent-set m m' (x ∷ xs) (suc p) o inside =
    omega (arith, used_by-need m' x (set xs p o), used_by-need m x xs, frames_lent-set m m' xs p o (omega arith))

-- what the slots show depends on the memory by their blocks alone
held_of-same : (m m' : Memory) (slot : Slot) → blocks_of (loan_of slot.buffer) m' ≡ blocks_of (loan_of slot.buffer) m → held_of m' slot ≡ held_of m slot
held_of-same m m' slot same = ap (λ (blocks : List (List ℕ)). record (held_of m slot) { blocks = blocks }) same

shown-same : (m m' : Memory) (o : Option Slot) → ((slot : Slot) → o ≡ Some slot → blocks_of (loan_of slot.buffer) m' ≡ blocks_of (loan_of slot.buffer) m)
    → option_map (held_of m') o ≡ option_map (held_of m) o
shown-same m m' None same = refl
shown-same m m' (Some slot) same = ap (λ (h : Held). Some h) (held_of-same m m' slot (same slot refl))

pub as_seen-same : (m m' : Memory) (slots : List (Option Slot))
    → ((q : ℕ) (slot : Slot) → slot_in slots q ≡ Some slot → blocks_of (loan_of slot.buffer) m' ≡ blocks_of (loan_of slot.buffer) m)
    → as_seen m' slots ≡ as_seen m slots
as_seen-same m m' [] same = refl
as_seen-same m m' (x ∷ xs) same =
    let head : option_map (held_of m') x ≡ option_map (held_of m) x = shown-same m m' x (same 0) in
    let tail : as_seen m' xs ≡ as_seen m xs = as_seen-same m m' xs (λ q slot at. same (suc q) slot at) in
    cc

-- THE SLOTS AFTER A CHANGE AT ONE OF THEM: each other one shows what it showed, where its blocks are as they were
pub as_seen-set : (m m' : Memory) (slots : List (Option Slot)) (p : ℕ) (o : Option Slot)
    → ((q : ℕ) (slot : Slot) → q ≢ p → slot_in slots q ≡ Some slot → blocks_of (loan_of slot.buffer) m' ≡ blocks_of (loan_of slot.buffer) m)
    → as_seen m' (set slots p o) ≡ set (as_seen m slots) p (option_map (held_of m') o)
as_seen-set m m' [] p o same = refl
as_seen-set m m' (x ∷ xs) zero o same =
    ap (λ (seen : List (Option Held)). option_map (held_of m') o ∷ seen) (as_seen-same m m' xs (λ q slot at. same (suc q) slot (omega arith) at))
as_seen-set m m' (x ∷ xs) (suc p) o same =
    let head : option_map (held_of m') x ≡ option_map (held_of m) x = shown-same m m' x (λ slot at. same 0 slot (omega arith) at) in
    let tail : as_seen m' (set xs p o) ≡ set (as_seen m xs) p (option_map (held_of m') o) =
    as_seen-set m m' xs p o (λ q slot ne at. same (suc q) slot (λ e. ne (omega (arith, e))) at) in
    cc

-- What a slot has to be that is put in, where the other slots are as they were.
pub record IsFit (m : Memory) (slots : List (Option Slot)) (p : ℕ) (slot : Slot) : Type 0 where
  pub shape : IsLoan (loan_of slot.buffer)
  pub lent : IsLent m (loan_of slot.buffer)
  pub asked : IsLoanFor slot.asked (loan_of slot.buffer)
  pub apart : (q : ℕ) → (other : Slot) → q ≢ p → slot_in slots q ≡ Some other → AreApart (loan_of slot.buffer) (loan_of other.buffer)

-- the slots keep what they keep where a slot is changed
pub kept-set : (m m' : Memory) (slots : List (Option Slot)) (p : ℕ) (o : Option Slot) → IsKept m slots → p < length slots
    → IsMemory m'
    → ((q : ℕ) (slot : Slot) → q ≢ p → slot_in slots q ≡ Some slot → IsLent m' (loan_of slot.buffer))
    → ((slot : Slot) → o ≡ Some slot → IsFit m' slots p slot)
    → length m'.free + need_of o ≡ length m.free + need_of (slot_in slots p)
    → IsKept m' (set slots p o)
kept-set m m' slots p o kept inside sound lent fit frames = record {
  sound = sound;
  few = omega (arith, length-set slots p o, kept.few);
  shape = λ q slot at. slot_cases slots p q o slot at (λ e is. (fit slot is).shape) (λ ne is. kept.shape q slot is);
  lent = λ q slot at. slot_cases slots p q o slot at (λ e is. (fit slot is).lent) (λ ne is. lent q slot ne is);
  asked = λ q slot at. slot_cases slots p q o slot at (λ e is. (fit slot is).asked) (λ ne is. kept.asked q slot is);
  apart = λ q r slot other ne at there.
      slot_cases slots p q o slot at
      (λ e is. slot_cases slots p r o other there
      (λ f same. absurd (ne (omega (arith, e, f))))
      (λ nf old. (fit slot is).apart r other nf old))
      (λ nq is. slot_cases slots p r o other there
      (λ f same. λ frame one two. (fit other same).apart q slot nq is frame two one)
      (λ nf old. kept.apart q r slot other ne is old));
  counted = omega (arith, frames_lent-set m m' slots p o inside, frames, kept.counted);
}

-- A slot that was taken out, and another one that was put in.
pub record Replaced (slots after : List (Option Slot)) (p : ℕ) (slot new : Slot) : Type 0 where
  pub here : slot_in slots p ≡ Some slot
  pub there : after ≡ set slots p (Some new)

pub replaced : {slots between after : List (Option Slot)} {p next : ℕ} {slot new : Slot} → slot_in slots p ≡ Some slot → between ≡ set slots p None → next ≡ p
    → after ≡ set between next (Some new) → Replaced slots after p slot new
replaced {slots} {between} {after} {p} {next} {slot} {new} here taken same put = record {
  here = here;
  there = put ∙ ap (λ (q : ℕ). set between q (Some new)) same ∙ ap (λ (xs : List (Option Slot)). set xs p (Some new)) taken ∙ set-set slots p None (Some new);
}

-- the slots where a slot was replaced by one with the same buffer
pub kept-replaced : {m : Memory} {slots after : List (Option Slot)} {p : ℕ} {slot new : Slot} → IsKept m slots → Replaced slots after p slot new
    → loan_of new.buffer ≡ loan_of slot.buffer → new.asked ≡ slot.asked → IsKept m after
kept-replaced {m} {slots} {after} {p} {slot} {new} kept r loan asked =
    subst (IsKept m) (sym r.there)
    (kept-set m m slots p (Some new) kept (slot_within slots p slot r.here) kept.sound (λ q other ne at. kept.lent q other at)
    (λ found is. subst (IsFit m slots p) (same_Some _ _ is) fit)
    (ap (λ (n : ℕ). length m.free + n) (ap (λ (l : Loan). frames_needed l.count l.offset l.last) loan ∙ sym (ap need_of r.here))))
  where
    fit : IsFit m slots p new
    fit = record {
      shape = subst IsLoan (sym loan) (kept.shape p slot r.here);
      lent = subst (IsLent m) (sym loan) (kept.lent p slot r.here);
      asked = subst (λ (l : Loan). IsLoanFor new.asked l) (sym loan) (subst (λ (a : Asked). IsLoanFor a (loan_of slot.buffer)) (sym asked) (kept.asked p slot r.here));
      apart = λ q other ne at. subst (λ (l : Loan). AreApart l (loan_of other.buffer)) (sym loan) (kept.apart p q slot other (λ e. ne (sym e)) r.here at);
    }

pub as_seen-replaced : (m : Memory) {slots after : List (Option Slot)} {p : ℕ} {slot new : Slot} {seen : List (Option Held)} → as_seen m slots ≡ seen
    → Replaced slots after p slot new → (change : Held → Held) → held_of m new ≡ change (held_of m slot)
    → as_seen m after ≡ with_held p (change (held_at seen p)) seen
as_seen-replaced m {slots} {after} {p} {slot} {new} {seen} view r change same =
    ap (as_seen m) r.there
    ∙ as_seen-set m m slots p (Some new) (λ q other ne at. refl)
    ∙ ap (λ (h : Held). with_held p h (as_seen m slots)) (same ∙ ap change (sym (held_at-as_seen m slots p slot r.here)))
    ∙ ap (λ (ps : List (Option Held)). with_held p (change (held_at ps p)) ps) view

-- a slot whose buffer went from one to the other
pub held_of-handed : (m : Memory) (slot : Slot) (loan : Loan) (on_bus : Bool) → loan ≡ loan_of slot.buffer
    → record (held_of m slot) { loan = loan; on_bus = on_bus; blocks = blocks_of loan m } ≡ record (held_of m slot) { on_bus = on_bus }
held_of-handed m slot loan on_bus same = ap (λ (l : Loan). record (held_of m slot) { loan = l; on_bus = on_bus; blocks = blocks_of l m }) same

-- NO REQUEST AT ALL. All frames are free then.
slot_in-replicate : (n p : ℕ) (slot : Slot) → slot_in (replicate n None) p ≡ Some slot → ⊥
slot_in-replicate zero p slot at = none-some slot at
slot_in-replicate (suc n) zero slot at = none-some slot at
slot_in-replicate (suc n) (suc p) slot at = slot_in-replicate n p slot at

pub as_seen-replicate : (m : Memory) (n : ℕ) → as_seen m (replicate n None) ≡ replicate n None
as_seen-replicate m zero = refl
as_seen-replicate m (suc n) = ap (λ (seen : List (Option Held)). None ∷ seen) (as_seen-replicate m n)

frames_lent-replicate : (m : Memory) (n : ℕ) → frames_lent (as_seen m (replicate n None)) ≡ 0
frames_lent-replicate m zero = refl
frames_lent-replicate m (suc n) = frames_lent-replicate m n

pub kept-replicate : (m : Memory) (n : ℕ) → IsMemory m → length m.free ≡ 16384 → n ≤ 16384 → IsKept m (replicate n None)
kept-replicate m n sound all few = record {
  sound = sound;
  few = omega (arith, length-replicate {A = Option Slot} n None, few);
  shape = λ p slot at. absurd (slot_in-replicate n p slot at);
  lent = λ p slot at. absurd (slot_in-replicate n p slot at);
  asked = λ p slot at. absurd (slot_in-replicate n p slot at);
  apart = λ p q slot other ne at there. absurd (slot_in-replicate n p slot at);
  counted = omega (arith, frames_lent-replicate m n, all);
}

-- A block that is read from a buffer is that block of the slot.
pub block_in-as_seen : (m : Memory) {slots items : List (Option Slot)} {seen : List (Option Held)} (p : ℕ) {slot : Slot} (loan : Loan) (k : ℕ) {block : List ℕ} → as_seen m slots ≡ seen → items ≡ slots
    → slot_in items p ≡ Some slot → loan_of slot.buffer ≡ loan → slice_get (blocks_of loan m) k ≡ Some block → block ≡ block_in (held_at seen p) k
block_in-as_seen m {slots} {items} {seen} p {slot} loan k {block} view same here has got =
    let there : slot_in slots p ≡ Some slot = sym (ap (λ (xs : List (Option Slot)). slot_in xs p) same) ∙ here in
    sym (get_or_from_slice_get (blocks_of loan m) k block [] got)
    ∙ sym (ap (λ (l : Loan). get_or (blocks_of l m) k []) has)
    ∙ sym (ap (λ (h : Held). block_in h k) (held_at-as_seen m slots p slot there))
    ∙ ap (λ (ps : List (Option Held)). block_in (held_at ps p) k) view

-- A request that leaves gives its frames back.
pub record GivesBack (m m' : Memory) (loan : Loan) : Type 0 where
  pub count : length m'.free ≡ length m.free + length loan.frames
  pub others : (other : Loan) → IsLent m other → AreApart loan other → IsLent m' other
  pub sound : IsMemory m'

pub kept-left : {m m' : Memory} {slots after : List (Option Slot)} (p : ℕ) {slot : Slot} {loan : Loan} → IsKept m slots → slot_in slots p ≡ Some slot → after ≡ set slots p None
    → loan_of slot.buffer ≡ loan → GivesBack m m' loan → IsKept m' after
kept-left {m} {m'} {slots} {after} p {slot} {loan} kept here rest has back =
    let need : need_of (slot_in slots p) ≡ frames_needed loan.count loan.offset loan.last = ap need_of here ∙ ap (λ (l : Loan). frames_needed l.count l.offset l.last) has in
    let shape : IsLoan loan = subst IsLoan has (kept.shape p slot here) in
    subst (IsKept m') (sym rest)
    (kept-set m m' slots p None kept (slot_within slots p slot here) back.sound
    (λ q other ne at. back.others (loan_of other.buffer) (kept.lent q other at) (subst (λ (l : Loan). AreApart l (loan_of other.buffer)) has (kept.apart p q slot other (λ e. ne (sym e)) here at)))
    (λ found is. absurd (none-some found is))
    (omega (arith, need, shape.enough, back.count)))

pub as_seen-left : (m : Memory) {m' : Memory} {free : List ℕ} (slots : List (Option Slot)) {after : List (Option Slot)} (p : ℕ) {seen : List (Option Held)} → as_seen m slots ≡ seen → after ≡ set slots p None
    → m' ≡ record m { free = free } → as_seen m' after ≡ without p seen
as_seen-left m {m'} {free} slots {after} p {seen} view rest memory =
    ap (as_seen m') rest
    ∙ as_seen-set m m' slots p None (λ q other ne at. ap (blocks_of (loan_of other.buffer)) memory)
    ∙ ap (without p) view

-- A REQUEST THAT JOINS, with a buffer that the memory just lent.
pub kept-joined : {m m' : Memory} {slots after : List (Option Slot)} (p : ℕ) (new : Slot) → IsKept m slots → p < length slots → slot_in slots p ≡ None → after ≡ set slots p (Some new)
    → HasLent m m' (loan_of new.buffer) new.asked → IsKept m' after
kept-joined {m} {m'} {slots} {after} p new kept inside none put lent =
    let free_before : need_of (slot_in slots p) ≡ 0 = ap need_of none in
    subst (IsKept m') (sym put)
    (kept-set m m' slots p (Some new) kept inside lent.sound
    (λ q other ne at. lent.others (loan_of other.buffer) (kept.lent q other at))
    (λ found is. subst (IsFit m' slots p) (same_Some _ _ is) fit)
    (omega (arith, free_before, lent.shape.enough, lent.free)))
  where
    fit : IsFit m' slots p new
    fit = record {
      shape = lent.shape;
      lent = lent.lent;
      asked = lent.is;
      apart = λ q other ne at. lent.apart (loan_of other.buffer) (kept.lent q other at);
    }

pub as_seen-joined : {m m' : Memory} {slots after : List (Option Slot)} (p : ℕ) (new : Slot) {seen : List (Option Held)} → IsKept m slots → as_seen m slots ≡ seen → after ≡ set slots p (Some new)
    → HasLent m m' (loan_of new.buffer) new.asked → as_seen m' after ≡ with_held p (held_of m' new) seen
as_seen-joined {m} {m'} {slots} {after} p new {seen} kept view put lent =
    ap (as_seen m') put
    ∙ as_seen-set m m' slots p (Some new) (λ q other ne at. lent.blocks (loan_of other.buffer) (kept.shape q other at) (kept.lent q other at))
    ∙ ap (with_held p (held_of m' new)) view

pub is_held_for : (m : Memory) (new : Slot) (bytes : List ℕ) → IsLoanFor new.asked (loan_of new.buffer) → is_on_bus new.buffer ≡ false → new.ended ≡ false → IsWhole (held_of m new)
    → (new.asked.write ≡ true → blocks_of (loan_of new.buffer) m ≡ pieces new.asked.count bytes) → IsHeldFor new.asked bytes (held_of m new)
is_held_for m new bytes is driver fresh whole content = record {
  same = same_asked new.asked (loan_of new.buffer).count (loan_of new.buffer).offset (loan_of new.buffer).last is.count is.offset is.last;
  on_bus = driver;
  ended = fresh;
  whole = whole;
  content = content;
}
  where
    same_asked : (a : Asked) (count offset last : ℕ) → count ≡ a.count → offset ≡ a.offset → last ≡ a.last → record a { count = count; offset = offset; last = last } ≡ a
    same_asked a count offset last c o l = rw (c, o, l) refl

-- the buffer of a slot
pub loan_at : (m : Memory) (slots : List (Option Slot)) {seen : List (Option Held)} (p : ℕ) (slot : Slot) → as_seen m slots ≡ seen → slot_in slots p ≡ Some slot
    → (held_at seen p).loan ≡ loan_of slot.buffer
loan_at m slots {seen} p slot view here =
    sym (ap (λ (ps : List (Option Held)). (held_at ps p).loan) view) ∙ ap (λ (h : Held). h.loan) (held_at-as_seen m slots p slot here)
