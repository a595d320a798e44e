-- The bytes of a module's file.
use Rattle.std.proofs.Common.{◌≡◌, ◌-◌, ◌<◌, ◌≤◌, ℕ, List, [], get_or, length, take, drop, sym, ap, ◌∙◌, refl, arith, length-drop, take_all}
use Rattle.std.proofs.{lemmas.List.drop_all, lemmas.Option.slice_get_past, lemmas.Option.slice_get_read}
use Rattle.boot_model.specs.PlanBoard.{roms_of}
use Rattle.mod_catalog.specs.{declared.catalogue.Module.Module, declared.catalogue.VolumeEntry.VolumeEntry}
use Rattle.explain_text.specs.{Mapped.mapped_from, Title.file_of, Title.volume_bytes}

-- the module has no volume
pub no_volume : (volumes : List VolumeEntry) (images : List (List ℕ)) (m : Module) → length volumes ≤ m.volume → [] ≡ file_of volumes images m
no_volume volumes images m past =
    sym (ap (λ entry. drop m.at (volume_bytes volumes images entry)) (slice_get_past volumes m.volume past) ∙ drop_all m.at [] (omega arith))

in_volume : (volumes : List VolumeEntry) (images : List (List ℕ)) (m : Module) (entry : VolumeEntry) (bytes : List ℕ) → m.volume < length volumes → entry ≡ get_or volumes m.volume entry
    → bytes ≡ mapped_from entry.base (roms_of volumes images) → drop m.at bytes ≡ file_of volumes images m
in_volume volumes images m entry bytes within read is =
    ap (drop m.at) is ∙ ap (λ e. drop m.at (volume_bytes volumes images e)) (sym (slice_get_read volumes (length volumes) m.volume entry refl within read))

-- it begins in its volume
pub found_file : (volumes : List VolumeEntry) (images : List (List ℕ)) (m : Module) (entry : VolumeEntry) (bytes file : List ℕ) → m.volume < length volumes → entry ≡ get_or volumes m.volume entry
    → bytes ≡ mapped_from entry.base (roms_of volumes images) → file ≡ take (length bytes - m.at) (drop m.at bytes) → file ≡ file_of volumes images m
found_file volumes images m entry bytes file within read is part =
    part ∙ take_all (length bytes - m.at) (drop m.at bytes) (let n = length-drop m.at bytes in omega (arith, n)) ∙ in_volume volumes images m entry bytes within read is

-- it begins behind its volume
pub lost_file : (volumes : List VolumeEntry) (images : List (List ℕ)) (m : Module) (entry : VolumeEntry) (bytes : List ℕ) → m.volume < length volumes → entry ≡ get_or volumes m.volume entry
    → bytes ≡ mapped_from entry.base (roms_of volumes images) → length bytes ≤ m.at → [] ≡ file_of volumes images m
lost_file volumes images m entry bytes within read is past = sym (drop_all m.at bytes past) ∙ in_volume volumes images m entry bytes within read is
