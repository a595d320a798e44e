-- An audit's text, as it is put: entry by entry, and in each the modules one by one.
use Rattle.std.proofs.Common.{◌≡◌, ◌<◌, ℕ, ◌+◌, ◌==◌, List, [], ◌∷◌, ◌++◌, length, sym, ap, ◌∙◌, flat_map, filter, drop, get_or, append-nil}
use Rattle.std.proofs.{lemmas.List.drop_more, lemmas.Grind.flat_map-append}
use Rattle.mod_catalog.specs.{declared.catalogue.Catalog.Catalog, declared.catalogue.VolumeEntry.VolumeEntry}
use Rattle.mod_catalog.specs.declared.catalogue.Module.{Module}
use Rattle.boot_model.specs.declared.line.Line.TheVariants as L
use Rattle.boot_model.specs.{declared.line.RunEnd.TheVariants.Done, Text.line_text, Text.text_of}
use Rattle.boot_model.specs.Audit.{Numbered, numbered, volume_line, module_line, volume_lines}
use Rattle.boot_core.specs.AuditText.{audit_text, volume_text, module_text, entry_text, entries_text, done_line}
use Rattle.boot_core.proofs.FlatMaps.{flat_of_flat, flat_of_map, flat_of_filter, flat_same}

-- the item at a place and those behind it
pub next_item : {A : Type 0} (xs : List A) (i : ℕ) (x : A) → i < length xs → x ≡ get_or xs i x → drop i xs ≡ x ∷ drop (i + 1) xs
next_item xs i x within is = drop_more xs i x within ∙ ap (λ y. y ∷ drop (i + 1) xs) (sym is)

entry_is : (modules : List Module) (v : Numbered VolumeEntry) → text_of (volume_lines (numbered 0 modules) v) ≡ entry_text modules v
unfolding volume_text module_text
entry_is modules v =
    ap (λ t. line_text (volume_line v) ++ t)
    (flat_of_map line_text module_line (filter (λ m. m.item.volume == v.number) (numbered 0 modules))
    ∙ flat_of_filter (λ m. line_text (module_line m)) (λ m. m.item.volume == v.number) (numbered 0 modules))

pub audit_is : (catalog : Catalog) → audit_text catalog ≡ entries_text catalog.modules 0 catalog.volumes ++ done_line
unfolding audit_text done_line
audit_is catalog =
    let lines = volume_lines (numbered 0 catalog.modules) in
    flat_map-append line_text (flat_map lines (numbered 0 catalog.volumes)) (L.Result Done ∷ [])
    ∙ ap (λ t. t ++ flat_map line_text (L.Result Done ∷ []))
    (flat_of_flat line_text lines (numbered 0 catalog.volumes) ∙ flat_same (λ v. text_of (lines v)) (entry_text catalog.modules) (numbered 0 catalog.volumes) (entry_is catalog.modules))
    ∙ ap (λ t. entries_text catalog.modules 0 catalog.volumes ++ t) (append-nil (line_text (L.Result Done)))
