-- ONE UNIT that is set up: the driver for it is ready, and stands for the start of a script that declares it.
use Rattle.std.proofs.Common.{◌≡◌, ◌≢◌, ◌⊎◌, inl, inr, ℕ, ◌<◌, Bool, true, false, [], ◌∷◌, Option, Some, None, refl, sym, ap, subst, ◌∙◌, arith}
use Rattle.std.specs.Prelude.{◌==◌, is_some, unwrap_or, if◌then◌else◌, Contains}
use Rattle.std.proofs.lemmas.Bool.{eqb-true, eq-eqb}
use Rattle.std.proofs.Math.Path.{fun_ext}
use Rattle.pack_geometry.specs.declared.DriveKind.{DriveKind}
use Rattle.pack_geometry.specs.declared.DriveKind.TheVariants.{Rp06}
use Rattle.pack_geometry.specs.Pack.{Pack}
use Rattle.pack_geometry.specs.PackTable.{IsTableOf, IsTableAt}
use Rattle.pack_geometry.specs.TableSpelling.{Table}
use Rattle.trace_replay.specs.Packs.{surface_of}
use Rattle.trace_replay.specs.Replay.{new_replay}
use Rattle.driver_laws.proofs.rules.Consistency.{starts_consistent}
use Rattle.driver_laws.specs.rules.Stands.{Setup as Seen, start_over}
use Rattle.driver_laws.specs.rules.Rest.{HasTables, IsAtRest}
use Rattle.driver_laws.proofs.rules.Restful.{start_rests}
use Rattle.driver_machine.specs.World.{World, UnitView, Setup, no_unit, new_unit, new_world, unit_at}
use Rattle.driver_machine.specs.Guards.{IsSetUp}
use Rattle.driver_machine.specs.Sound.{IsTableFor}
use Rattle.driver_laws.specs.invariant.Setups.{AreSetups}
use Rattle.driver_laws.proofs.invariant.SlotsLists.{Contains-none, Contains-first, Contains-cases}
use Rattle.driver_laws.proofs.invariant.Starts.{stands_new, others_new}
use Rattle.driver_laws.specs.shown.Acts.{AreSetUp}
use Rattle.raw_io.specs.Passes.{IsSoFar, State, kind_if, table_if, setup_of, StandsQuiet, kind_at, MayTransfer}
use Rattle.raw_io.proofs.Passes.{starts, new_is_quiet}
use Rattle.raw_command.specs.Units.{at_unit, unit_setup}

-- A NUMBER is the unit's, or it is not.
by_bool : (b : Bool) → (b ≡ true) ⊎ (b ≡ false)
by_bool true = inl refl
by_bool false = inr refl

never : true ≡ false → ⊥
never e = cc

abbrev pub One : (u unit : ℕ) → Type 0
One u unit = (u ≡ unit) × ((u == unit) ≡ true)

abbrev pub Other : (u unit : ℕ) → Type 0
Other u unit = (u ≢ unit) × ((u == unit) ≡ false)

pub one_or_other : (u unit : ℕ) → One u unit ⊎ Other u unit
one_or_other u unit = elim (by_bool (u == unit)) [
  | inl same ↦ inl (eqb-true u unit same, same)
  | inr differs ↦ inr ((λ e. never (sym (eq-eqb u unit e) ∙ differs)), differs)
]

pub at_one : {A : Type 0} (value : Option A) (u unit : ℕ) → (u == unit) ≡ true → at_unit unit value u ≡ value
at_one {A} value u unit same = ap (λ (b : Bool). if b then value else None) same

pub at_other : {A : Type 0} (value : Option A) (u unit : ℕ) → (u == unit) ≡ false → at_unit unit value u ≡ None
at_other {A} value u unit differs = ap (λ (b : Bool). if b then value else None) differs

pub at_self : {A : Type 0} (value : Option A) (unit : ℕ) → at_unit unit value unit ≡ value
at_self value unit = at_one value unit unit (eq-eqb unit unit refl)

module _ (unit : ℕ) (kind : DriveKind) (table : Option Table) where
  abbrev pub one_setup : Setup
  one_setup = record { unit = unit; kind = kind; table = table }

  abbrev pub one_world : World
  one_world = new_world (one_setup ∷ []) 1 0

module _ (unit : ℕ) (kind : DriveKind) (table : Option Table) (small : unit < 32) (good : (t : Table) → table ≡ Some t → IsTableFor kind t) where
  only : (s : Setup) → Contains (one_setup unit kind table ∷ []) s → one_setup unit kind table ≡ s
  only s c = elim (Contains-cases s (one_setup unit kind table) [] c) [ inl e ↦ e | inr none ↦ absurd (Contains-none s none) ]

  pub are_setups : AreSetups (one_setup unit kind table ∷ [])
  are_setups = record {
    differ = ((λ m. m), tt);
    small = λ s c. subst (λ (x : Setup). x.unit < 32) (only s c) small;
    tables = λ s t c is. subst (λ (x : Setup). x.table ≡ Some t → IsTableFor x.kind t) (only s c) (good t) is;
  }

  here : unit_at (one_world unit kind table) unit ≡ new_unit (one_setup unit kind table)
  here = stands_new (one_setup unit kind table ∷ []) 1 0 are_setups (one_setup unit kind table) (Contains-first (one_setup unit kind table) [])

  here_at : (u : ℕ) → u ≡ unit → unit_at (one_world unit kind table) u ≡ new_unit (one_setup unit kind table)
  here_at u e = ap (λ (x : ℕ). unit_at (one_world unit kind table) x) e ∙ here

  there_at : (u : ℕ) → u ≢ unit → unit_at (one_world unit kind table) u ≡ no_unit
  there_at u ne = others_new (one_setup unit kind table ∷ []) 1 0 are_setups u (λ m. elim m [ inl e ↦ ne e | inr none ↦ none ])

  -- THE SETUP is that of this unit alone
  kinds_at : (u : ℕ) → kind_if (unit_at (one_world unit kind table) u).declared (unit_at (one_world unit kind table) u).drive.kind ≡ at_unit unit (Some kind) u
  kinds_at u = elim (one_or_other u unit) [
    | inl one ↦ ap (λ (v : UnitView). kind_if v.declared v.drive.kind) (here_at u one.0) ∙ sym (at_one (Some kind) u unit one.1)
    | inr other ↦ ap (λ (v : UnitView). kind_if v.declared v.drive.kind) (there_at u other.0) ∙ sym (at_other (Some kind) u unit other.1)
  ]

  tables_at : (u : ℕ) → table_if (unit_at (one_world unit kind table) u).declared (unit_at (one_world unit kind table) u).table ≡ at_unit unit table u
  tables_at u = elim (one_or_other u unit) [
    | inl one ↦ ap (λ (v : UnitView). table_if v.declared v.table) (here_at u one.0) ∙ sym (at_one table u unit one.1)
    | inr other ↦ ap (λ (v : UnitView). table_if v.declared v.table) (there_at u other.0) ∙ sym (at_other table u unit other.1)
  ]

  pub setup_is : (held : ℕ → Pack) → setup_of (one_world unit kind table) held ≡ unit_setup unit kind table held
  setup_is held =
      ap (λ (drives : ℕ → Option DriveKind). record { drives = drives; tables = (setup_of (one_world unit kind table) held).tables; packs = held }) (fun_ext kinds_at)
      ∙ ap (λ (tables : ℕ → Option Table). record { drives = at_unit unit (Some kind); tables = tables; packs = held }) (fun_ext tables_at)

  -- THE START of a script stands for it
  set_up : AreSetUp (at_unit unit (Some kind)) (at_unit unit table) (one_world unit kind table)
  set_up u up = elim (one_or_other u unit) [
    | inl one ↦ here_at u one.0 ∙ ap (λ (s : Setup). new_unit s) (same u one)
    | inr other ↦ absurd (never (sym up.declared ∙ ap (λ (v : UnitView). v.declared) (there_at u other.0)))
  ]
    where
      same : (u : ℕ) → One u unit → one_setup unit kind table ≡ record { unit = u; kind = unwrap_or (at_unit unit (Some kind) u) Rp06; table = at_unit unit table u }
      same u one =
          ap (λ (x : ℕ). record { unit = x; kind = kind; table = table }) (sym one.0)
          ∙ ap (λ (o : Option DriveKind). record { unit = u; kind = unwrap_or o Rp06; table = table }) (sym (at_one (Some kind) u unit one.1))
          ∙ ap (λ (t : Option Table). record { unit = u; kind = unwrap_or (at_unit unit (Some kind) u) Rp06; table = t }) (sym (at_one table u unit one.1))

  declared_at : (u : ℕ) → is_some (at_unit unit (Some kind) u) ≡ (unit_at (one_world unit kind table) u).declared
  declared_at u = elim (one_or_other u unit) [
    | inl one ↦ ap (λ (o : Option DriveKind). is_some o) (at_one (Some kind) u unit one.1) ∙ sym (ap (λ (v : UnitView). v.declared) (here_at u one.0))
    | inr other ↦ ap (λ (o : Option DriveKind). is_some o) (at_other (Some kind) u unit other.1) ∙ sym (ap (λ (v : UnitView). v.declared) (there_at u other.0))
  ]

  far : (held : ℕ → Pack) → IsSoFar (new_replay (at_unit unit (Some kind)) (at_unit unit table) (surface_of held)) 0 [] held (one_world unit kind table)
  far held = starts (at_unit unit (Some kind)) (at_unit unit table) held (one_setup unit kind table ∷ []) 1 0 are_setups set_up declared_at

  pub stands_quiet : (held : ℕ → Pack) → StandsQuiet held (one_world unit kind table) (start_over (unit_setup unit kind table held))
  stands_quiet held = record {
    rest = subst (λ (s : Seen). IsAtRest s (start_over (unit_setup unit kind table held))) (sym (setup_is held)) (start_rests (unit_setup unit kind table held));
    stands = (far held).left.stands;
    consistent = starts_consistent (at_unit unit (Some kind)) (at_unit unit table) (surface_of held);
    there = (far held).there;
    finished = (far held).left.finished;
  }

  pub has_tables : (held : ℕ → Pack) → IsTableOf kind (held unit) table → HasTables (setup_of (one_world unit kind table) held)
  has_tables held is = subst HasTables (sym (setup_is held)) each
    where
      each : HasTables (unit_setup unit kind table held)
      each u = elim (one_or_other u unit) [
        | inl one ↦
            subst (λ (o : Option DriveKind). IsTableAt o (held u) (at_unit unit table u)) (sym (at_one (Some kind) u unit one.1))
            (subst (λ (t : Option Table). IsTableOf kind (held u) t) (sym (at_one table u unit one.1)) (subst (λ (x : ℕ). IsTableOf kind (held x) table) (sym one.0) is))
        | inr other ↦
            subst (λ (o : Option DriveKind). IsTableAt o (held u) (at_unit unit table u)) (sym (at_other (Some kind) u unit other.1)) (at_other table u unit other.1)
      ]

  pub kind_is : kind_at (one_world unit kind table) unit ≡ kind
  kind_is = ap (λ (v : UnitView). v.drive.kind) here

  is_up : IsSetUp (one_world unit kind table) unit
  is_up = record { unit = small; declared = ap (λ (v : UnitView). v.declared) here }

  -- BYTES MAY BE TRANSFERRED
  pub may_transfer : (s : State) → s ≡ record { world = one_world unit kind table; outstanding = 1; failed = false; kept = [] } → MayTransfer s unit
  may_transfer s made =
      subst (λ (x : State). MayTransfer x unit) (sym made)
      (record { ready = record { quiet = new_is_quiet (one_setup unit kind table ∷ []) 1 0; going = refl; sent = refl }; room = omega arith; unit_is = is_up })
