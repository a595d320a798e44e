-- A group whose sides are exchanged is not licensed: its BEFORE driver stands behind the driver that it names, and its AFTER driver before it.
use Rattle.std.proofs.Common.{◌≡◌, ℕ, false, List, [], ◌∷◌, ◌++◌, Some, None, refl, replicate}
use Rattle.pi_base.specs.{declared.guid.Guid.Guid, declared.phase.Phase.TheVariants.Dxe, Lists.Each}
use Rattle.hob_codec.specs.declared.kind.TheConstants.{VOLUME}
use Rattle.depex_code.specs.Tree as T
use Rattle.depex_code.specs.declared.depex.Depex.TheVariants as D
use Rattle.mod_catalog.specs.{FileType.DRIVER as FILE_DRIVER, declared.catalogue.Catalog.Catalog, declared.catalogue.Module.Module}
use Rattle.mod_catalog.specs.{declared.catalogue.PartExpr.PartExpr, declared.catalogue.PartExpr.TheVariants.Held}
use Rattle.store_model.specs.declared.state.Body.TheVariants.{Bytes}
use Rattle.store_model.specs.StoreState.{Board, StoreState, empty_store}
use Rattle.boot_model.specs.{declared.driver.Scheduled.Scheduled, DxeMachine.DxeMachine, DxeRun.dxe_opening}
use Rattle.boot_model.specs.declared.licence.Licence.TheVariants as G
use Rattle.boot_model.specs.{DxeChoice.group_scheduled, DxeChoice.first_eligible, DriverLicence.IsMember}

abbrev guid : ℕ → Guid
guid n = record { 0 = replicate 15 0 ++ n ∷ [] }

abbrev driver : ℕ → ℕ → PartExpr → Module
driver at name expr = record {
  volume = 0;
  at = at;
  name = guid name;
  kind = FILE_DRIVER;
  pei = None;
  dxe = Some (record { rank = None; expr = expr; script = record { phase = Dxe; blocks = [] } });
}

-- a driver that may start, one before it, and one after it
abbrev these : Catalog
these = record {
  volumes = record { base = 0; len = 4096; name = None; parent = None } ∷ [];
  modules = driver 72 1 (Held (D.Expr false T.True)) ∷ driver 200 2 (Held (D.Before (guid 1))) ∷ driver 300 3 (Held (D.After (guid 1))) ∷ [];
}

-- a store with one HOB, which tells of the volume
abbrev store_of : Board → StoreState
store_of board = record (empty_store board) { hobs = record { kind = VOLUME; body = Bytes (replicate 16 0) } ∷ [] }

abbrev opening : Board → DxeMachine
opening board = dxe_opening these (store_of board) 0

-- the group as it is, and turned
abbrev before_it : Scheduled
before_it = record { module_number = 1; licence = G.Before }

abbrev it : Scheduled
it = record { module_number = 0; licence = G.True }

abbrev after_it : Scheduled
after_it = record { module_number = 2; licence = G.After }

group_is : (board : Board) → group_scheduled these (opening board) (first_eligible these (opening board)) ≡ before_it ∷ it ∷ after_it ∷ []
group_is board = refl

abbrev turned : List Scheduled
turned = after_it ∷ it ∷ before_it ∷ []

-- behind 1 nothing stands
not_before : (front between back : List ℕ) (n : ℕ) → 2 ∷ 0 ∷ 1 ∷ [] ≡ front ++ 1 ∷ (between ++ n ∷ back) → ⊥
not_before [] between back n h = cc
not_before (a ∷ []) between back n h = cc
not_before (a ∷ b ∷ []) [] back n h = cc
not_before (a ∷ b ∷ []) (c ∷ between) back n h = cc
not_before (a ∷ b ∷ c ∷ []) between back n h = cc
not_before (a ∷ b ∷ c ∷ d ∷ front) between back n h = cc

turned_is_refused : (board : Board) → Each (IsMember these (opening board) turned) turned → ⊥
turned_is_refused board h = let beside = h.1.1.0.2.2 in not_before beside.front beside.between beside.back h.1.1.0.2.0 beside.split
