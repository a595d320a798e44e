-- The descriptor at an index, and the volume of which its PPI tells.
use Rattle.std.proofs.Common.{◌≡◌, ℕ, zero, suc, ◌<◌, true, cond, List, [], ◌∷◌, length, Option, None, slice_index_or, sym, ap, ◌∙◌, arith, option_and_then}
use Rattle.pi_base.specs.{declared.guid.Guid.Guid, Guids.same_guid, Lists.Each, declared.known_guid.TheConstants.VOLUME_INFO_PPI}
use Rattle.mod_catalog.specs.declared.catalogue.Catalog.{Catalog}
use Rattle.store_model.specs.{declared.store_handle.Desc.Desc, StoreState.StoreState, MemoryReading.bytes_at, Service.Reading.descriptor}
use Rattle.boot_model.specs.Reporting.{told_at, told_by, volume_info_len}

pub each_index : {A : Type 0} (P : A → Type 0) (xs : List A) (i : ℕ) (default : A) → i < length xs → Each P xs → P (slice_index_or xs i default)
each_index P [] i default lt each = absurd (omega (arith, lt))
each_index P (x ∷ xs) zero default lt each = each.0
each_index P (x ∷ xs) (suc i) default lt each = each_index P xs i default (omega (arith, lt)) each.1

-- what a store says of a descriptor
pub volume_there : (catalog : Catalog) (s : StoreState) (ppi : Desc) (shown : Guid × ℕ) (told : Option ℕ) → shown ≡ descriptor s ppi
    → same_guid shown.0 VOLUME_INFO_PPI ≡ true → told ≡ option_and_then (told_by catalog) (bytes_at s shown.1 volume_info_len) → told ≡ told_at catalog s ppi.offset
volume_there catalog s ppi shown told is same h =
    let there : ℕ → Option ℕ = λ address. option_and_then (told_by catalog) (bytes_at s address volume_info_len) in
    let info = sym (ap (λ p. same_guid p.0 VOLUME_INFO_PPI) is) ∙ same in
    h ∙ ap (λ p. there p.1) is ∙ sym (ap (λ b. cond b (there (descriptor s ppi).1) None) info)
