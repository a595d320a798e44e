-- The text of the last lines, part by part.
use Rattle.std.proofs.Common.{◌≡◌, List, [], ◌∷◌, ◌++◌, length, map, flat_map, append_assoc, refl, ap, ◌∙◌, append-nil}
use Rattle.std.proofs.lemmas.Grind.{flat_map-append}
use Rattle.boot_model.specs.declared.line.Line.TheVariants as L
use Rattle.boot_model.specs.{declared.line.RunEnd.RunEnd, BootRun.handle_lines, Listing.store_lines, Text.line_text, Text.text_of}
use Rattle.store_model.specs.{HandleState.HandleState, StoreState.StoreState, declared.interface.Interface.Interface}
use Rattle.boot_core.specs.Closing.{closing, closing_text, interface_text, result_text}

-- the lines of interfaces
interfaces_are : (interfaces : List Interface) → text_of (map (λ i. L.Handle i.handle i.guid i.value) interfaces) ≡ flat_map interface_text interfaces
unfolding interface_text
interfaces_are [] = refl
interfaces_are (i ∷ is) = ap (λ rest. line_text (L.Handle i.handle i.guid i.value) ++ rest) (interfaces_are is)

-- the lines of the handles and of the result
result_is : (handles : HandleState) (end : RunEnd) → text_of (handle_lines handles ++ L.Result end ∷ []) ≡ result_text handles end
unfolding result_text
result_is handles end =
    let lines = map (λ i. L.Handle i.handle i.guid i.value) handles.interfaces in
    let count = line_text (L.Handles (length handles.interfaces)) in
    ap (λ rest. count ++ rest) (flat_map-append line_text lines (L.Result end ∷ []) ∙ ap (λ text. text ++ text_of (L.Result end ∷ [])) (interfaces_are handles.interfaces)
    ∙ ap (λ text. flat_map interface_text handles.interfaces ++ text) (append-nil (line_text (L.Result end))))

-- the last lines
pub closing_is : (s : StoreState) (handles : HandleState) (end : RunEnd) → text_of (closing s handles end) ≡ closing_text s handles end
closing_is s handles end =
    ap text_of (append_assoc (store_lines s) (handle_lines handles) (L.Result end ∷ []))
    ∙ flat_map-append line_text (store_lines s) (handle_lines handles ++ L.Result end ∷ []) ∙ ap (λ text. text_of (store_lines s) ++ text) (result_is handles end)
