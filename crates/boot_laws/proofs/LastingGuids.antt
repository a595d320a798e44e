-- Descriptors that stay where they are keep which GUIDs are installed.
use Rattle.std.proofs.Common.{◌≡◌, ℕ, Bool, List, [], ◌∷◌, ◌++◌, ◌∙◌, ap, sym, refl, Option, Some, ◌||◌, unwrap_or, option_map}
use Rattle.std.specs.List.{list_any}
use Rattle.pi_base.specs.{declared.guid.Guid.Guid, Guids.same_guid, Lists.Each}
use Rattle.store_model.specs.{declared.state.Body.TheVariants.Descriptor, declared.state.DescriptorBody.DescriptorBody}
use Rattle.store_model.specs.{declared.state.Entry.Entry, declared.state.HobEntry.HobEntry, declared.store_handle.DescKind.TheVariants.Ppi}
use Rattle.store_model.specs.{StoreState.StoreState, StoreState.body_at, StateFacts.IsEntry, StateFacts.IsStoreState}
use Rattle.store_model.specs.Service.Descriptor.{guid_at, no_guid, descriptor_in, descriptors}
use Rattle.store_model.specs.Service.Install.{has_ppi}
use Rattle.boot_laws.proofs.Bodies.{added_grows}

-- each descriptor is there, and says the same
abbrev pub Lasts : StoreState → StoreState → Type 0
Lasts s t = (place : ℕ) (d : DescriptorBody) → body_at s place ≡ Some (Descriptor d) → body_at t place ≡ Some (Descriptor d)

abbrev pub HasDescriptor : StoreState → ℕ → Type 0
HasDescriptor s place = (d : DescriptorBody) × (body_at s place ≡ Some (Descriptor d))

-- the GUID of a body
abbrev pub guid_of : Option DescriptorBody → Guid
guid_of found = unwrap_or (option_map (λ d. d.guid) found) no_guid

pub guid_lasts : (s t : StoreState) (place : ℕ) → Lasts s t → HasDescriptor s place → guid_at t place ≡ guid_at s place
guid_lasts s t place lasts is = ap (λ body. guid_of (descriptor_in body)) (lasts place is.0 is.1 ∙ sym is.1)

-- whether one of the descriptors at these places has a GUID
abbrev pub has_in : StoreState → Guid → List ℕ → Bool
has_in s guid places = list_any (λ place. same_guid (guid_at s place) guid) places

by_entries : (s : StoreState) (guid : Guid) (entries : List Entry) → list_any (λ entry. same_guid (guid_at s entry.descriptor) guid) entries ≡ has_in s guid (descriptors entries)
by_entries s guid [] = refl
by_entries s guid (entry ∷ entries) = ap (λ more. same_guid (guid_at s entry.descriptor) guid || more) (by_entries s guid entries)

pub by_places : (s : StoreState) (guid : Guid) → has_ppi s guid ≡ has_in s guid (descriptors s.ppis)
by_places s guid = by_entries s guid s.ppis

pub has_lasts : (s t : StoreState) (guid : Guid) (places : List ℕ) → Lasts s t → Each (HasDescriptor s) places → has_in t guid places ≡ has_in s guid places
has_lasts s t guid [] lasts each = refl
has_lasts s t guid (place ∷ places) lasts each =
    ap (λ own. same_guid own guid || has_in t guid places) (guid_lasts s t place lasts each.0) ∙ ap (λ more. same_guid (guid_at s place) guid || more) (has_lasts s t guid places lasts each.1)

pub named : (s : StoreState) (entries : List Entry) → Each (IsEntry s Ppi) entries → Each (HasDescriptor s) (descriptors entries)
named s [] each = tt
named s (entry ∷ entries) each = ((each.0.1.0, each.0.1.1), named s entries each.1)

-- a state whose descriptors last and whose PPIs are those before
pub record IsQuiet (s t : StoreState) : Type 0 where
  pub lasts : Lasts s t
  pub ppis : t.ppis ≡ s.ppis

pub quiet_self : (s : StoreState) → IsQuiet s s
quiet_self s = record { lasts = λ place d h. h; ppis = refl }

pub quiet_then : (s t u : StoreState) → IsQuiet s t → IsQuiet t u → IsQuiet s u
quiet_then s t u a b = record { lasts = λ place d h. b.lasts place d (a.lasts place d h); ppis = b.ppis ∙ a.ppis }

pub quiet_added : (s t : StoreState) (hob : HobEntry) → t.hobs ≡ s.hobs ++ hob ∷ [] → t.ppis ≡ s.ppis → IsQuiet s t
quiet_added s t hob e ppis = record { lasts = λ place d h. added_grows s t hob e place (Descriptor d) h; ppis = ppis }

pub quiet_has : (s t : StoreState) (guid : Guid) → IsStoreState s → IsQuiet s t → has_ppi t guid ≡ has_ppi s guid
quiet_has s t guid facts quiet =
    by_places t guid ∙ ap (λ entries. has_in t guid (descriptors entries)) quiet.ppis
    ∙ has_lasts s t guid (descriptors s.ppis) quiet.lasts (named s s.ppis facts.ppis) ∙ sym (by_places s guid)
