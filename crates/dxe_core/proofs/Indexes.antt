-- The handles by protocol stay those of the interfaces.
use Rattle.std.proofs.Common.{◌≡◌, ℕ, Bool, true, false, not, cond, List, [], ◌∷◌, refl, sym, ap, ◌∙◌, subst, ◌==◌, length, arith}
use Rattle.std.specs.List.{list_any}
use Rattle.std.proofs.lemmas.Bool.Decides.{nat_tests}
use Rattle.pi_base.specs.{declared.guid.Guid.Guid, Guids.same_guid, Lists.Ordered}
use Rattle.store_model.specs.{declared.interface.Interface.Interface, HandleFacts.IsNotBehind, HandleFacts.AreOfOthers}
use Rattle.guid_lists.specs.declared.lists.GuidLists.{GuidLists}
use Rattle.guid_lists.specs.Lists.{list_of, Rises, HasInstead}
use Rattle.dxe_core.specs.Index.{handles_with, IsIndex}
use Rattle.dxe_core.proofs.Firsts.{guid_is}
use Rattle.dxe_core.proofs.HandlesWith.{rises, none_there, some_there}

pub holders_rise : (holders : GuidLists) (is : List Interface) (guid : Guid) → IsIndex holders is → Ordered IsNotBehind is → Ordered AreOfOthers is → Rises (list_of holders guid)
holders_rise holders is guid index o u = subst Rises (sym (index guid)) (rises guid is o u)

-- a change of one protocol's handles
abbrev Changed : (List ℕ → List ℕ) → Guid → List Interface → List Interface → Type 0
Changed change guid is new = (other : Guid) → handles_with other new ≡ cond (same_guid guid other) (change (handles_with other is)) (handles_with other is)

chosen : (old : GuidLists) (is : List Interface) (change : List ℕ → List ℕ) (guid other : Guid) (b : Bool) → same_guid guid other ≡ b → IsIndex old is
    → cond b (change (list_of old guid)) (list_of old other) ≡ cond b (change (handles_with other is)) (handles_with other is)
chosen old is change guid other true same index = ap change (index guid ∙ ap (λ bytes. handles_with (record { 0 = bytes }) is) (guid_is guid other same))
chosen old is change guid other false same index = index other

pub index_changes : (old new : GuidLists) (is after : List Interface) (change : List ℕ → List ℕ) (guid : Guid) → IsIndex old is → HasInstead old guid (change (list_of old guid)) new → Changed change guid is after → IsIndex new after
index_changes old new is after change guid index instead changed other = instead other ∙ chosen old is change guid other (same_guid guid other) refl index ∙ sym (changed other)

-- whether a protocol is there
has_by : (guid : Guid) (is : List Interface) (ns : List ℕ) → handles_with guid is ≡ ns → not (length ns == 0) ≡ list_any (λ i. same_guid i.guid guid) is
has_by guid is [] e = sym (none_there guid is e)
has_by guid is (n ∷ ns) e = let some : (length (n ∷ ns) == 0) ≡ false = grind (arith, nat_tests) in ap not some ∙ sym (some_there guid is n ns e)

pub has_is : (guid : Guid) (is : List Interface) → not (length (handles_with guid is) == 0) ≡ list_any (λ i. same_guid i.guid guid) is
has_is guid is = has_by guid is (handles_with guid is) refl
