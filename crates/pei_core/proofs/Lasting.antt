-- Installing leaves descriptors as they are, so their GUIDs are read behind it as before it.
use Rattle.std.proofs.Common.{◌≡◌, ℕ, Bool, true, false, cond, List, [], ◌∷◌, map, refl, ap, sym, subst, ◌∙◌, Ok, Err, option_map, fold, unwrap_or}
use Rattle.pi_base.specs.Lists.{Each}
use Rattle.store_model.specs.declared.state.Body.TheVariants.{Descriptor, Node}
use Rattle.store_model.specs.{declared.store_handle.Desc.Desc, declared.store_handle.Sweep.Sweep, StateFacts.IsDesc}
use Rattle.store_model.specs.declared.store_handle.StoreFault.TheVariants as F
use Rattle.store_model.specs.{StoreState.StoreState, StoreState.pool_of, Service.Service}
use Rattle.store_model.specs.Service.Descriptor.{descriptor_in, guid_at, no_guid, offsets}
use Rattle.store_model.specs.Service.Install.{install, install_pairs, install_sweep, installed, reinstall, reinstall_pairs, reinstall_sweep, reinstalled, renamed, with_pending, with_ppi}
use Rattle.store_laws.specs.Bodies.{BodiesStay, IsGrown}

-- the state behind a call that is not refused
abbrev behind : Service Sweep → StoreState → StoreState
behind (Ok done) s = done.1
behind (Err fault) s = s

one_test : (full : Bool) (sweep other : Sweep) (made new : StoreState) → cond {A = Service Sweep} full (Err F.Full) (Ok (other, made)) ≡ Ok (sweep, new) → made ≡ new
one_test true sweep other made new e = cc
one_test false sweep other made new e = ap (λ r. behind r new) e

two_tests : (bad full : Bool) (sweep other : Sweep) (made new : StoreState) → cond {A = Service Sweep} bad (Err F.Bad) (cond full (Err F.Full) (Ok (other, made))) ≡ Ok (sweep, new) → made ≡ new
two_tests true full sweep other made new e = cc
two_tests false full sweep other made new e = one_test full sweep other made new e

three_tests : (bad missing full : Bool) (sweep other : Sweep) (made new : StoreState) → cond {A = Service Sweep} bad (Err F.Bad) (cond missing (Err F.Missing) (cond full (Err F.Full) (Ok (other, made)))) ≡ Ok (sweep, new) → made ≡ new
three_tests true missing full sweep other made new e = cc
three_tests false true full sweep other made new e = cc
three_tests false false full sweep other made new e = one_test full sweep other made new e

-- bodies that are there stay where nodes are added, one after the other
grows_by : {X : Type 0} (add : StoreState → X → StoreState) → ((s : StoreState) (x : X) → IsGrown s (add s x)) → (xs : List X) (s : StoreState) → IsGrown s (fold add s xs)
grows_by add each [] s place body h = h
grows_by add each (x ∷ xs) s place body h = grows_by add each xs (add s x) place body (each s x place body h)

installed_grows : (law : BodiesStay) (s : StoreState) (list : List Desc) (by : ℕ) → IsGrown s (installed s list by)
installed_grows law s list by place body h =
    grows_by (with_pending by) (λ t pair. law.grown t (pool_of Node)) (install_pairs s list) (fold (with_ppi by) s list) place body
    (grows_by (with_ppi by) (λ t d. law.grown t (pool_of Node)) list s place body h)

reinstalled_grows : (law : BodiesStay) (s : StoreState) (old new : Desc) (by : ℕ) → IsGrown s (reinstalled s old new by)
reinstalled_grows law s old new by place body h =
    grows_by (with_pending by) (λ t pair. law.grown t (pool_of Node)) (reinstall_pairs s new) (record s { ppis = renamed s.ppis old.offset new.offset }) place body h

pub install_grows : (law : BodiesStay) (s new : StoreState) (list : List Desc) (by : ℕ) (sweep : Sweep) → install s list by ≡ Ok (sweep, new) → IsGrown s new
install_grows law s new list by sweep e = subst (IsGrown s) (two_tests _ _ sweep (install_sweep s list) (installed s list by) new e) (installed_grows law s list by)

pub reinstall_grows : (law : BodiesStay) (s new : StoreState) (one other : Desc) (by : ℕ) (sweep : Sweep) → reinstall s one other by ≡ Ok (sweep, new) → IsGrown s new
reinstall_grows law s new one other by sweep e = subst (IsGrown s) (three_tests _ _ _ sweep (reinstall_sweep s one) (reinstalled s one other by) new e) (reinstalled_grows law s one other by)

-- so descriptors are there still, and have their GUIDs
pub still_there : (s t : StoreState) (d : Desc) → IsGrown s t → IsDesc s d → IsDesc t d
still_there s t d grown is = (is.0, grown d.offset (Descriptor is.0) is.1)

pub all_still_there : (s t : StoreState) (list : List Desc) → IsGrown s t → Each (IsDesc s) list → Each (IsDesc t) list
all_still_there s t [] grown each = tt
all_still_there s t (d ∷ list) grown each = (still_there s t d grown each.0, all_still_there s t list grown each.1)

pub same_guid_at : (s t : StoreState) (d : Desc) → IsGrown s t → IsDesc s d → guid_at t d.offset ≡ guid_at s d.offset
same_guid_at s t d grown is = ap (λ body. unwrap_or (option_map (λ d. d.guid) (descriptor_in body)) no_guid) (grown d.offset (Descriptor is.0) is.1 ∙ sym is.1)

pub same_guids_at : (s t : StoreState) (list : List Desc) → IsGrown s t → Each (IsDesc s) list → map (guid_at t) (offsets list) ≡ map (guid_at s) (offsets list)
same_guids_at s t [] grown each = refl
same_guids_at s t (d ∷ list) grown each =
    ap (λ guid. guid ∷ map (guid_at t) (offsets list)) (same_guid_at s t d grown each.0) ∙ ap (λ guids. guid_at s d.offset ∷ guids) (same_guids_at s t list grown each.1)
