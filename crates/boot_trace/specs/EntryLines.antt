-- The lines of a store's lists of entries: PPIs, callbacks, dispatch notifications and queued pairs.
-- Own.
use Rattle.std.specs.Prelude.{ℕ, ◌/◌, ◌%◌, List, ◌∷◌, length, map}
use Rattle.boot_model.specs.{declared.frame.TheConstants.BLOCKS, declared.line.Line.Line, Text.text_of}
use Rattle.boot_model.specs.declared.line.Line.TheVariants as L
use Rattle.store_model.specs.{declared.store_handle.EntryList.EntryList, declared.store_handle.EntryTold.EntryTold, StoreState.StoreState}
use Rattle.store_model.specs.declared.store_handle.EntryList.TheVariants.{Ppis, Callbacks, Dispatches, Pendings}
use Rattle.store_model.specs.Service.Reading.{told_of}

-- the line of a list's count
abbrev pub count_line : EntryList → ℕ → Line
count_line Ppis count = L.Ppis count
count_line Callbacks count = L.Callbacks count
count_line Dispatches count = L.Dispatches count
count_line Pendings count = L.Pendings count

-- the line of an entry that is told: a PPI with its maker and value, a notification with its module and block
abbrev pub told_line : EntryList → EntryTold → Line
told_line Ppis told = L.Ppi told.by told.guid told.number
told_line Callbacks told = L.Callback told.guid (told.number / BLOCKS) (told.number % BLOCKS)
told_line Dispatches told = L.Dispatch told.guid (told.number / BLOCKS) (told.number % BLOCKS)
told_line Pendings told = L.Pending told.guid (told.number / BLOCKS) (told.number % BLOCKS)

-- the lines of a list's entries, in order
abbrev pub entry_lines : StoreState → EntryList → List Line
entry_lines s list = map (told_line list) (told_of s list)

-- the text of a list: its count, and its entries
abbrev pub list_text : StoreState → EntryList → List ℕ
list_text s list = text_of (count_line list (length (told_of s list)) ∷ entry_lines s list)
