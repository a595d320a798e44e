-- A service makes at most one handle and one interface.
use Rattle.std.proofs.Common.{◌≡◌, ◌≤◌, ◌+◌, ◌||◌, not, ℕ, Bool, true, false, List, [], ◌∷◌, cond, length, Option, Some, None, Result, Ok, Err, refl, subst, arith, length-append, IfOk, OnOk, nat_lt}
use Rattle.std.specs.List.{list_any}
use Rattle.pi_base.specs.declared.guid.Guid.{Guid}
use Rattle.pi_base.specs.declared.word.Word.TheVariants as S
use Rattle.store_model.specs.declared.interface.Interface.{Interface}
use Rattle.store_model.specs.HandleState.{HandleState, HandleService, change_of, install_interface, is_live, is_on, is_on_with, placed, reinstall_interface, uninstall_interface, with_value, without}
use Rattle.dxe_core.specs.{declared.database.fault.HandleFault.HandleFault, Rows.IsRow, Answered.GrowByOne, Services.Services}
use Rattle.dxe_core.specs.declared.database.fault.HandleFault.TheVariants as F

-- the state behind another
pub record OneMore (old new : HandleState) : Type 0 where
  pub made : new.made ≤ old.made + 1
  pub interfaces : length new.interfaces ≤ length old.interfaces + 1

pub same_state : (old new : HandleState) → new ≡ old → OneMore old new
same_state old new same = rw same (record { made = omega (arith); interfaces = omega (arith) })

abbrev pub MakesOne : {A : Type 0} → HandleState → HandleService A → Type 0
MakesOne h service = IfOk service (λ pair. OneMore h pair.1)

abbrev pub with_handles : Services → HandleState → Services
with_handles s handles = record s { handles = handles }

pub grow_handles : (s : Services) (handles : HandleState) → OneMore s.handles handles → GrowByOne s (with_handles s handles)
grow_handles s handles more = record { made = more.made; interfaces = more.interfaces; notes = omega (arith); flags = refl }

pub on_ok : {A B : Type 0} (r : Result A B) (P : Type 0) → P → OnOk r P
on_ok (Ok a) P p = p
on_ok (Err b) P p = tt

-- by its row
pub grown : {A : Type 0} (row : HandleService A) (old new : HandleState) (result : Result A HandleFault) → MakesOne old row → IsRow row old result new → OneMore old new
grown row old new (Ok answer) makes is = subst (λ service. MakesOne old service) is makes
grown row old new (Err F.InvalidParameter) makes is = same_state old new is.1
grown row old new (Err F.NotFound) makes is = same_state old new is.1
grown row old new (Err F.Memory) makes is = same_state old new is.1

placed_on : (b : Bool) (new i : Interface) (is : List Interface) → length (placed new is) ≡ length is + 1 → length (cond b (new ∷ (i ∷ is)) (i ∷ placed new is)) ≡ length (i ∷ is) + 1
placed_on true new i is e = omega (arith)
placed_on false new i is e = omega (arith, e)

placed_len : (new : Interface) (is : List Interface) → length (placed new is) ≡ length is + 1
placed_len new [] = refl
placed_len new (i ∷ is) = placed_on (nat_lt new.handle i.handle) new i is (placed_len new is)

valued_on : (b : Bool) (i j : Interface) (is js : List Interface) → length js ≡ length is → length (cond b (j ∷ is) (i ∷ js)) ≡ length (i ∷ is)
valued_on true i j is js e = refl
valued_on false i j is js e = omega (arith, e)

pub valued_len : (test : Interface → Bool) (value : ℕ) (is : List Interface) → length (with_value test value is) ≡ length is
valued_len test value [] = refl
valued_len test value (i ∷ is) = valued_on (test i) i (record i { value = value }) is (with_value test value is) (valued_len test value is)

without_on : (b : Bool) (i : Interface) (is js : List Interface) → length js ≤ length is → length (cond b is (i ∷ js)) ≤ length (i ∷ is)
without_on true i is js le = omega (arith)
without_on false i is js le = omega (arith, le)

pub without_len : (test : Interface → Bool) (is : List Interface) → length (without test is) ≤ length is
without_len test [] = omega (arith)
without_len test (i ∷ is) = without_on (test i) i is (without test is) (without_len test is)

on_by : (b : Bool) (h : HandleState) (handle : ℕ) (interfaces : List Interface) → length interfaces ≡ length h.interfaces + 1
    → MakesOne h (cond b (Err S.InvalidParameter) (Ok (handle, record h { interfaces = interfaces })))
on_by true h handle interfaces e = tt
on_by false h handle interfaces e = record { made = omega (arith); interfaces = omega (arith, e) }

pub installs_one : (h : HandleState) (on : Option ℕ) (guid : Guid) (value : ℕ) → MakesOne h (install_interface h on guid value)
installs_one h None guid value = let one : Interface = record { handle = h.made + 1; guid = guid; value = value } in record { made = omega (arith); interfaces = omega (arith, length-append h.interfaces (one ∷ [])) }
installs_one h (Some handle) guid value =
    on_by (not (is_live h handle) || list_any (is_on handle guid) h.interfaces) h handle _ (placed_len (record { handle = handle; guid = guid; value = value }) h.interfaces)

changes_by : (dead there : Bool) (h : HandleState) (interfaces : List Interface) → length interfaces ≤ length h.interfaces
    → MakesOne h (cond dead (Err S.InvalidParameter) (cond there (Ok (tt {0}, record h { interfaces = interfaces })) (Err S.NotFound)))
changes_by true there h interfaces le = tt
changes_by false true h interfaces le = record { made = omega (arith); interfaces = omega (arith, le) }
changes_by false false h interfaces le = tt

pub changes_one : (h : HandleState) (handle : ℕ) (guid : Guid) (value : ℕ) (changed : List Interface) → length changed ≤ length h.interfaces → MakesOne h (change_of h handle guid value changed)
changes_one h handle guid value changed le = changes_by (not (is_live h handle)) (list_any (is_on_with handle guid value) h.interfaces) h changed le

pub reinstalls_none : (h : HandleState) (handle : ℕ) (guid : Guid) (old new : ℕ) → MakesOne h (reinstall_interface h handle guid old new)
reinstalls_none h handle guid old new =
    let same = valued_len (is_on_with handle guid old) new h.interfaces in
    changes_one h handle guid old (with_value (is_on_with handle guid old) new h.interfaces) (omega (arith, same))

pub uninstalls_none : (h : HandleState) (handle : ℕ) (guid : Guid) (value : ℕ) → MakesOne h (uninstall_interface h handle guid value)
uninstalls_none h handle guid value =
    changes_one h handle guid value (without (is_on_with handle guid value) h.interfaces) (without_len (is_on_with handle guid value) h.interfaces)
