-- The rows of the services by what is found in the list.
use Rattle.std.proofs.Common.{◌≡◌, ℕ, Bool, true, false, not, ◌||◌, cond, List, Ok, Err, refl, ap, ◌∙◌}
use Rattle.std.specs.List.{list_any}
use Rattle.pi_base.specs.{declared.guid.Guid.Guid, declared.word.Word.TheVariants.InvalidParameter, declared.word.Word.TheVariants.NotFound}
use Rattle.store_model.specs.declared.interface.Interface.{Interface}
use Rattle.store_model.specs.HandleState.{HandleState, HandleService, is_live, is_on, is_on_with, placed, install_on, change_of}

abbrev OnOr : Bool → Bool → HandleState → ℕ → Guid → ℕ → HandleService ℕ
OnOr live there h handle guid value =
    cond (not live || there) (Err InvalidParameter) (Ok (handle, record h { interfaces = placed (record { handle = handle; guid = guid; value = value }) h.interfaces }))

or_true : (b : Bool) → (b || true) ≡ true
or_true true = refl
or_true false = refl

pub install_dead : (h : HandleState) (handle : ℕ) (guid : Guid) (value : ℕ) → is_live h handle ≡ false → install_on h handle guid value ≡ Err InvalidParameter
install_dead h handle guid value dead = ap (λ b. OnOr b (list_any (is_on handle guid) h.interfaces) h handle guid value) dead

pub install_again : (h : HandleState) (handle : ℕ) (guid : Guid) (value : ℕ) → list_any (is_on handle guid) h.interfaces ≡ true → install_on h handle guid value ≡ Err InvalidParameter
install_again h handle guid value there =
    ap (λ b. OnOr (is_live h handle) b h handle guid value) there
    ∙ ap (λ b. cond b (Err InvalidParameter) (Ok (handle, record h { interfaces = placed (record { handle = handle; guid = guid; value = value }) h.interfaces }))) (or_true (not (is_live h handle)))

pub install_done : (h : HandleState) (handle : ℕ) (guid : Guid) (value : ℕ) → is_live h handle ≡ true → list_any (is_on handle guid) h.interfaces ≡ false
    → install_on h handle guid value ≡ Ok (handle, record h { interfaces = placed (record { handle = handle; guid = guid; value = value }) h.interfaces })
install_done h handle guid value live none = ap (λ b. OnOr b (list_any (is_on handle guid) h.interfaces) h handle guid value) live ∙ ap (λ b. OnOr true b h handle guid value) none

abbrev ChangeOr : Bool → Bool → HandleState → List Interface → HandleService (Unit {0})
ChangeOr live there h changed = cond (not live) (Err InvalidParameter) (cond there (Ok (tt {0}, record h { interfaces = changed })) (Err NotFound))

pub change_dead : (h : HandleState) (handle : ℕ) (guid : Guid) (value : ℕ) (changed : List Interface) → is_live h handle ≡ false → change_of h handle guid value changed ≡ Err InvalidParameter
change_dead h handle guid value changed dead = ap (λ b. ChangeOr b (list_any (is_on_with handle guid value) h.interfaces) h changed) dead

pub change_missing : (h : HandleState) (handle : ℕ) (guid : Guid) (value : ℕ) (changed : List Interface) → is_live h handle ≡ true → list_any (is_on_with handle guid value) h.interfaces ≡ false
    → change_of h handle guid value changed ≡ Err NotFound
change_missing h handle guid value changed live none =
    ap (λ b. ChangeOr b (list_any (is_on_with handle guid value) h.interfaces) h changed) live ∙ ap (λ b. ChangeOr true b h changed) none

pub change_done : (h : HandleState) (handle : ℕ) (guid : Guid) (value : ℕ) (changed : List Interface) → is_live h handle ≡ true → list_any (is_on_with handle guid value) h.interfaces ≡ true
    → change_of h handle guid value changed ≡ Ok (tt {0}, record h { interfaces = changed })
change_done h handle guid value changed live there =
    ap (λ b. ChangeOr b (list_any (is_on_with handle guid value) h.interfaces) h changed) live ∙ ap (λ b. ChangeOr true b h changed) there
