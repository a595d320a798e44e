-- What a service does by what was found: its row, and that it keeps the facts.
use Rattle.std.proofs.Common.{◌≡◌, ℕ, ◌≤◌, ◌==◌, true, false, List, [], ◌∷◌, Option, Some, None, Ok, Err, refl, sym, ap, ◌∙◌, subst, get_or, is_some, option_map, Result, IsErr, IsOk, IsErrAnd, find, slice_set, slice_get}
use Rattle.std.specs.List.{list_any}
use Rattle.pi_base.specs.{declared.guid.Guid.Guid, Guids.same_guid}
use Rattle.store_model.specs.{declared.interface.Interface.Interface, HandleFacts.IsHandleState, HandleFacts.Keeps}
use Rattle.store_model.specs.HandleState.{HandleState, HandleService, change_of, is_live, is_on, is_on_with, placed, with_value, without, install_on, reinstall_interface, uninstall_interface, locate_handle}
use Rattle.store_model.proofs.HandleFacts.{facts_are_kept}
use Rattle.dxe_core.specs.{declared.database.fault.HandleFault.HandleFault, Index.handles_with, Rows.IsRow}
use Rattle.dxe_core.specs.declared.database.fault.HandleFault.TheVariants as F
use Rattle.dxe_core.specs.Places.{IsStretch, IsFirst, IsPlaceOn, IsPlaceWith}
use Rattle.dxe_core.proofs.{Stretches.live, Stretches.less_by, HandlesWith.found_by_head, HandlesWith.none_there}
use Rattle.dxe_core.proofs.Firsts.{both_of, is_handle, first_any, first_at, first_found, none_found, valued}
use Rattle.dxe_core.proofs.HandleRows.{install_done, change_dead, change_done, change_missing}

-- what a place tells
pub any_of_place : (is : List Interface) (handle : ℕ) (guid : Guid) (o : Option ℕ) → IsPlaceOn is handle guid o → is_some o ≡ true → list_any (is_on handle guid) is ≡ true
any_of_place is handle guid None p h = cc
any_of_place is handle guid (Some k) p h = first_any (is_on handle guid) is k p

pub none_of_place : (is : List Interface) (handle : ℕ) (guid : Guid) (o : Option ℕ) → IsPlaceOn is handle guid o → is_some o ≡ false → list_any (is_on handle guid) is ≡ false
none_of_place is handle guid None p h = p
none_of_place is handle guid (Some k) p h = cc

-- want of memory where the row would be done
pub memory_row : {A : Type 0} (row : HandleService A) (old new : HandleState) (r : Result A HandleFault) → IsErr r × IsErrAnd r (λ fault. fault ≡ F.Memory) → IsOk row → new ≡ old → IsRow row old r new
memory_row row old new (Ok a) e k same = absurd e.1
memory_row row old new (Err fault) e k same = subst (λ f. IsRow row old (Err f) new) (sym e.1) (k, same)

-- an install on a live handle without the protocol
pub record Free (h : HandleState) (handle : ℕ) (guid : Guid) : Type 0 where
  pub lives : is_live h handle ≡ true
  pub none : list_any (is_on handle guid) h.interfaces ≡ false

abbrev pub with_one : HandleState → ℕ → Guid → ℕ → HandleState
with_one h handle guid value = record h { interfaces = placed (record { handle = handle; guid = guid; value = value }) h.interfaces }

pub free_by : (h : HandleState) (handle : ℕ) (guid : Guid) (begin end : ℕ) (o : Option ℕ) → IsStretch handle h.interfaces begin end → begin ≤ end → (begin ≡ end → ⊥) → IsPlaceOn h.interfaces handle guid o → is_some o ≡ false → Free h handle guid
free_by h handle guid begin end o s le other p none = record { lives = live handle h.interfaces begin end s (less_by begin end le other); none = none_of_place h.interfaces handle guid o p none }

pub on_done : (h : HandleState) (handle : ℕ) (guid : Guid) (value : ℕ) → Free h handle guid → install_on h handle guid value ≡ Ok (handle, with_one h handle guid value)
on_done h handle guid value f = install_done h handle guid value f.lives f.none

is_ok_by : {A E : Type 0} (r : Result A E) (a : A) → r ≡ Ok a → IsOk r
is_ok_by r a e = subst IsOk (sym e) refl

pub on_ok_row : (h : HandleState) (handle : ℕ) (guid : Guid) (value : ℕ) → Free h handle guid → IsOk (install_on h handle guid value)
on_ok_row h handle guid value f = is_ok_by (install_on h handle guid value) (handle, with_one h handle guid value) (on_done h handle guid value f)

pub on_kept : (h : HandleState) (handle : ℕ) (guid : Guid) (value : ℕ) → Free h handle guid → IsHandleState h → IsHandleState (with_one h handle guid value)
on_kept h handle guid value f k = subst Keeps (on_done h handle guid value f) (facts_are_kept.install h (Some handle) guid value k)

-- a change of the interface that is there
pub record Found (h : HandleState) (handle : ℕ) (guid : Guid) (value place : ℕ) : Type 0 where
  pub lives : is_live h handle ≡ true
  pub first : IsFirst (is_on_with handle guid value) h.interfaces place

there : (h : HandleState) (handle : ℕ) (guid : Guid) (value place : ℕ) → Found h handle guid value place → list_any (is_on_with handle guid value) h.interfaces ≡ true
there h handle guid value place f = first_any (is_on_with handle guid value) h.interfaces place f.first

-- where it is not there, nothing is changed
pub unchanged : (h : HandleState) (handle : ℕ) (guid : Guid) (value : ℕ) (changed : List Interface) (fault : HandleFault) → IsPlaceWith h.interfaces handle guid value (Err fault)
    → IsRow (change_of h handle guid value changed) h (Err fault) h
unchanged h handle guid value changed F.InvalidParameter place = (change_dead h handle guid value changed place, refl)
unchanged h handle guid value changed F.NotFound place = (change_missing h handle guid value changed place.0 place.1, refl)
unchanged h handle guid value changed F.Memory place = absurd place

abbrev pub with_new : HandleState → ℕ → Guid → ℕ → ℕ → HandleState
with_new h handle guid old new = record h { interfaces = with_value (is_on_with handle guid old) new h.interfaces }

pub reinstalled : (h : HandleState) (handle : ℕ) (guid : Guid) (old new place : ℕ) → Found h handle guid old place → reinstall_interface h handle guid old new ≡ Ok (tt {0}, with_new h handle guid old new)
reinstalled h handle guid old new place f = change_done h handle guid old (with_value (is_on_with handle guid old) new h.interfaces) f.lives (there h handle guid old place f)

pub reinstall_kept : (h : HandleState) (handle : ℕ) (guid : Guid) (old new place : ℕ) → Found h handle guid old place → IsHandleState h → IsHandleState (with_new h handle guid old new)
reinstall_kept h handle guid old new place f k = subst Keeps (reinstalled h handle guid old new place f) (facts_are_kept.reinstall h handle guid old new k)

-- the list with the new value in its place
pub valued_is : (h : HandleState) (handle : ℕ) (guid : Guid) (old new place : ℕ) (i : Interface) → Found h handle guid old place → i ≡ get_or h.interfaces place i
    → slice_set h.interfaces place (record i { value = new }) ≡ with_value (is_on_with handle guid old) new h.interfaces
valued_is h handle guid old new place i f is =
    ap (λ j. slice_set h.interfaces place (record j { value = new })) is ∙ sym (valued (is_on_with handle guid old) new h.interfaces place i f.first)

abbrev pub without_one : HandleState → ℕ → Guid → ℕ → HandleState
without_one h handle guid value = record h { interfaces = without (is_on_with handle guid value) h.interfaces }

pub uninstalled : (h : HandleState) (handle : ℕ) (guid : Guid) (value place : ℕ) → Found h handle guid value place → uninstall_interface h handle guid value ≡ Ok (tt {0}, without_one h handle guid value)
uninstalled h handle guid value place f = change_done h handle guid value (without (is_on_with handle guid value) h.interfaces) f.lives (there h handle guid value place f)

pub uninstall_kept : (h : HandleState) (handle : ℕ) (guid : Guid) (value place : ℕ) → Found h handle guid value place → IsHandleState h → IsHandleState (without_one h handle guid value)
uninstall_kept h handle guid value place f k = subst Keeps (uninstalled h handle guid value place f) (facts_are_kept.uninstall h handle guid value k)

-- what is located
none_at : (ns : List ℕ) → None ≡ slice_get ns 0 → ns ≡ []
none_at [] h = refl
none_at (n ∷ ns) h = cc

some_at : (n : ℕ) (ns : List ℕ) → Some n ≡ slice_get ns 0 → (rest : List ℕ) × (ns ≡ n ∷ rest)
some_at n [] h = cc
some_at n (m ∷ ns) h = (ns, ap (λ k. k ∷ ns) (sym (same n m h)))
  where
    same : (a b : ℕ) → Some a ≡ Some b → a ≡ b
    same a b e = cc

abbrev told : Option Interface → Option (ℕ × ℕ)
told None = None
told (Some i) = Some (i.handle, i.value)

told_is : (o : Option Interface) → option_map {U = ℕ × ℕ} (λ i. (i.handle, i.value)) o ≡ told o
told_is None = refl
told_is (Some i) = refl

pub located_none : (h : HandleState) (guid : Guid) (ns : List ℕ) → None ≡ slice_get ns 0 → ns ≡ handles_with guid h.interfaces → None ≡ locate_handle h guid
located_none h guid ns none is =
    sym (told_is (find (λ i. same_guid i.guid guid) h.interfaces) ∙ ap told (none_found (λ i. same_guid i.guid guid) h.interfaces (none_there guid h.interfaces (sym is ∙ none_at ns none))))

found_on : (h : HandleState) (guid : Guid) (handle : ℕ) (ns : List ℕ) → Some handle ≡ slice_get ns 0 → ns ≡ handles_with guid h.interfaces → find (λ i. same_guid i.guid guid) h.interfaces ≡ find (is_on handle guid) h.interfaces
found_on h guid handle ns some is = let first = some_at handle ns some in found_by_head handle guid h.interfaces first.0 (sym is ∙ first.1)

pub located_not_on : (h : HandleState) (guid : Guid) (handle : ℕ) (ns : List ℕ) → Some handle ≡ slice_get ns 0 → ns ≡ handles_with guid h.interfaces → list_any (is_on handle guid) h.interfaces ≡ false → None ≡ locate_handle h guid
located_not_on h guid handle ns some is none =
    sym (told_is (find (λ i. same_guid i.guid guid) h.interfaces) ∙ ap told (found_on h guid handle ns some is ∙ none_found (is_on handle guid) h.interfaces none))

pub located_on : (h : HandleState) (guid : Guid) (handle place : ℕ) (ns : List ℕ) (i : Interface) → Some handle ≡ slice_get ns 0 → ns ≡ handles_with guid h.interfaces → IsFirst (is_on handle guid) h.interfaces place
    → i ≡ get_or h.interfaces place i → Some (handle, i.value) ≡ locate_handle h guid
located_on h guid handle place ns i some is first at =
    let on = is_handle i.handle handle (both_of (i.handle == handle) (same_guid i.guid guid) (subst (λ j. is_on handle guid j ≡ true) (sym at) (first_at (is_on handle guid) h.interfaces place i first))).0 in
    ap (λ n. Some (n, i.value)) (sym on)
    ∙ sym (told_is (find (λ i. same_guid i.guid guid) h.interfaces) ∙ ap told (found_on h guid handle ns some is ∙ first_found (is_on handle guid) h.interfaces place i first ∙ ap Some (sym at)))
