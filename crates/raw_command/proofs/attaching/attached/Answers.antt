use Rattle.std.proofs.Common.{◌≡◌, ℕ, Bool, IsTrue, Option, Some, None, Result, Ok, Err, refl, sym, ap, subst, ◌∙◌}
use Rattle.std.specs.Prelude.{IfOk, IfErr, IfSome, IsErrAnd, IsErrOf}
use Rattle.pack_geometry.specs.declared.DriveKind.{DriveKind}
use Rattle.pack_geometry.specs.Pack.{Pack}
use Rattle.pack_geometry.specs.PackTable.{IsTableOf}
use Rattle.pack_geometry.specs.TableSpelling.{IsTable, Table}
use Rattle.driver_machine.specs.Sound.{IsTableFor}
use Rattle.outside_traits.specs.declared.traits.PackCall.{PackCall}
use Rattle.mba_autoconf.specs.Attach.{Answers, Fits, IsAttaching, IsLong}
use Rattle.mba_autoconf.specs.declared.attaching.AttachFault.{AttachFault}
use Rattle.mba_autoconf.specs.declared.attaching.AttachFault.TheVariants as attach
use Rattle.raw_command.specs.Faults.{IsOfAttaching, from_attach}
use Rattle.raw_command.specs.Units.{IsFoundLong}
use Rattle.raw_command.specs.declared.fault.TransferFault.{TransferFault}
use Rattle.raw_command.specs.declared.fault.TransferFault.TheVariants as fault
use Rattle.raw_command.proofs.Setups.{are_setups}
use Rattle.raw_command.proofs.attaching.attached.Goals as goal

-- WHAT IS SAID OF A FAULT, and of no unit
module _ {A : Type 0} where
  no_unit : (P : A → Type 0) (r : Result A TransferFault) (f : TransferFault) → IsErrAnd r (λ e. e ≡ f) → IfOk r P
  no_unit P (Ok value) f e = absurd e
  no_unit P (Err g) f e = tt

  of_fault : (P : TransferFault → Type 0) (r : Result A TransferFault) (f : TransferFault) → IsErrAnd r (λ e. e ≡ f) → P f → IfErr r P
  of_fault P (Ok value) f e p = absurd e
  of_fault P (Err g) f e p = subst P (sym e) p

  its_fault : (r : Result A TransferFault) (f g : TransferFault) → IsErrAnd r (λ e. e ≡ f) → IsErrOf r g → f ≡ g
  its_fault (Ok value) f g e is = absurd e
  its_fault (Err h) f g e is = cc

of_attaching : (f : AttachFault) → IsOfAttaching (from_attach f)
of_attaching (attach.TooLong n) = tt
of_attaching attach.Store = tt

found_long : (tells : Bool) (pack : Pack) (k kind : DriveKind) (f : AttachFault) → k ≡ kind → (IsTrue tells → Answers k pack (Err f)) → IsLong k f
    → IsFoundLong tells pack kind (from_attach f)
found_long tells pack k kind f same answer long = subst (λ (d : DriveKind). IsFoundLong tells pack d (from_attach f)) same (its f answer long)
  where
    its : (f : AttachFault) → (IsTrue tells → Answers k pack (Err f)) → IsLong k f → IsFoundLong tells pack k (from_attach f)
    its (attach.TooLong n) answer long = record { above = long; is = λ t. (answer t).0 }
    its attach.Store answer long = tt

of_store : (f : AttachFault) → from_attach f ≡ fault.Store → f ≡ attach.Store
of_store (attach.TooLong n) e = cc
of_store attach.Store e = refl

attaching_as : (unit : ℕ) (call : PackCall) (k kind : DriveKind) → k ≡ kind → IsAttaching k unit call → IsAttaching kind unit call
attaching_as unit call k kind same is = subst (λ (d : DriveKind). IsAttaching d unit call) same is

never_store : fault.Memory ≡ fault.Store → ⊥
never_store e = cc

-- a valid table of the kind of the drive is one for it
good : (table : Option Table) (k kind : DriveKind) → k ≡ kind → IfSome table (λ t. IsTable t × (t.kind ≡ k)) → (t : Table) → table ≡ Some t → IsTableFor kind t
good None k kind same its t e = cc
good (Some x) k kind same its t e =
    let here : x ≡ t = cc in
    subst (IsTableFor kind) here (record { is = its.0; for_drive = its.1 ∙ same })

pub new-requires-clause-units : goal.new-requires-clause-units
new-requires-clause-units g c =
    are_setups c.args.unit c.args.kind c.in_ok-found.found.table c.requires.unit
    (good _ _ _ (ap (λ d. d.kind) c.new-drive.ensures) c.in_ok-found.ensures.table)

pub returns-in_err-found : goal.returns-in_err-found
returns-in_err-found g c =
    let h = c.in_err-found.ensures in
    let f = c.in_err-found.field-0.0 in
    let e = c.from_residual.ensures.1 in
    record {
      attached = no_unit _ _ (from_attach f) e;
      long = of_fault _ _ (from_attach f) e (found_long _ _ _ _ f (ap (λ d. d.kind) c.new-drive.ensures) h.answer h.too_long);
      only = of_fault _ _ (from_attach f) e (of_attaching f);
      same = h.same;
      never_again = h.never_again;
      later = h.later;
      store = λ is. h.store (ap (λ (a : AttachFault). Err a) (of_store f (its_fault _ (from_attach f) fault.Store e is)));
      at = λ is. attaching_as _ _ _ _ (ap (λ d. d.kind) c.new-drive.ensures) (h.at (ap (λ (a : AttachFault). Err a) (of_store f (its_fault _ (from_attach f) fault.Store e is))));
    }

pub returns-in_err-subsystem : goal.returns-in_err-subsystem
returns-in_err-subsystem g c =
    let h = c.in_ok-found.ensures in
    let e = c.from_residual-in_err-subsystem.ensures.1 in
    record {
      attached = no_unit _ _ fault.Memory e;
      long = of_fault _ _ fault.Memory e tt;
      only = of_fault _ _ fault.Memory e tt;
      same = h.same;
      never_again = h.never_again;
      later = h.later;
      store = λ is. absurd (never_store (its_fault _ fault.Memory fault.Store e is));
      at = λ is. absurd (never_store (its_fault _ fault.Memory fault.Store e is));
    }

pub returns : goal.returns
returns g c =
    let h = c.in_ok-found.ensures in
    let kind_is = ap (λ d. d.kind) c.new-drive.ensures in
    record {
      attached = record {
        table = c.in_ok-found.found.table;
        made = c.in_ok-subsystem.ensures;
        good = good _ _ _ kind_is h.table;
        fits = λ t. subst (λ (d : DriveKind). Fits d (g.P.Packs.held c.args.packs.now c.args.unit)) kind_is (h.answer t).0;
        is = λ t. subst (λ (d : DriveKind). IsTableOf d (g.P.Packs.held c.args.packs.now c.args.unit) c.in_ok-found.found.table) kind_is (h.answer t).1;
      };
      long = tt;
      only = tt;
      same = h.same;
      never_again = h.never_again;
      later = h.later;
      store = λ is. cc;
      at = λ is. absurd (cc is);
    }
