-- The last lines of a boot: the lists of its last store, the handles and the result. Own.
use Rattle.std.specs.Prelude.{ℕ, List, [], ◌∷◌, ◌++◌, flat_map, length}
use Rattle.boot_model.specs.{declared.line.Line.Line, declared.line.RunEnd.RunEnd, BootRun.handle_lines, Listing.store_lines}
use Rattle.boot_model.specs.declared.line.Line.TheVariants as L
use Rattle.boot_model.specs.Text.{line_text, text_of}
use Rattle.store_model.specs.{HandleState.HandleState, StoreState.StoreState, declared.interface.Interface.Interface}

-- the last lines over a store
abbrev pub closing : StoreState → HandleState → RunEnd → List Line
closing s handles end = store_lines s ++ handle_lines handles ++ L.Result end ∷ []

-- the text of an interface
unfoldable pub interface_text : Interface → List ℕ
interface_text i = line_text (L.Handle i.handle i.guid i.value)

-- the text of the handles and of the result
unfoldable pub result_text : HandleState → RunEnd → List ℕ
result_text handles end = line_text (L.Handles (length handles.interfaces)) ++ (flat_map interface_text handles.interfaces ++ line_text (L.Result end))

-- the text of the last lines, over a store
abbrev pub closing_text : StoreState → HandleState → RunEnd → List ℕ
closing_text s handles end = text_of (store_lines s) ++ result_text handles end
